-- How the run of a script ends, and words of `gen`.
use Rattle.std.proofs.Common.{◌≡◌, ℕ, List, [], ◌∷◌, Option, None, inl, inr, refl, ap, ◌∙◌}
use Rattle.std.specs.Prelude.{◌+◌, Bool, true, false, length, decimal, Result, Ok, Err, if◌then◌else◌}
use Rattle.gt_text.specs.Words.{begins_with}
use Rattle.gt_base.specs.declared.requests.Entry.{Entry}
use Rattle.policy_words.specs.Naming.{NamedPolicy}
use Rattle.policy_commands.specs.Ends.{EndView}
use Rattle.request_text.specs.declared.lines.Line.{Line}
use Rattle.request_text.specs.declared.lines.Line.TheVariants.{Silent, At, Be, Ask}
use Rattle.request_text.specs.declared.lines.LineFault.{LineFault}
use Rattle.gtrbac_tool.specs.Script.{RunState, ScriptStart, never, born, failed, begun, start_of, EndsFrom, Stops, Run, said, IsRunStatus}
use Rattle.gtrbac_tool.specs.Commands.{Command, command_of}
use Rattle.gtrbac_tool.specs.Summary.{Gen, IsGen}

-- how the run of a script ends

pub status_of : (a b : EndView) → a ≡ b → a.status ≡ b.status
status_of a b e = ap (λ (t : EndView). t.status) e

stop_status : (np : NamedPolicy) (birth : ℕ) (line : Result Line LineFault) (n : ℕ) (s : RunState) (h : List Entry) (end : EndView) → Stops np birth line n s h end → IsRunStatus end.status
stop_status np birth (Ok Silent) n s h end is = absurd is
stop_status np birth (Ok (Be actor)) n s h end is = absurd is
stop_status np birth (Ok (At minute)) n s h end is = inr (inr (status_of end _ is.1))
stop_status np birth (Ok (Ask request)) n s h end is = inr (inr (status_of end _ is.2))
stop_status np birth (Err fault) n s h end is = inr (inl (status_of end _ is.1))

pub run_status : (np : NamedPolicy) (birth n : ℕ) (lines : List (List ℕ)) (end : EndView) → Run np birth n lines end → IsRunStatus end.status
run_status np birth n lines end run =
    elim run.1.ends [ inl out ↦ inl (status_of end _ out.end_is) | inr at ↦ stop_status np birth (said np at.line) (n + length at.front) at.before run.0 end at.stops ]

-- a start that fails does so with 7
abbrev pub FailsWith : ScriptStart → Type 0
FailsWith never = Unit {0}
FailsWith (born birth n lines) = Unit {0}
FailsWith (failed t) = t.status ≡ 7

begins : (np : NamedPolicy) (line : Result Line LineFault) (n : ℕ) (lines : List (List ℕ)) (later : ScriptStart) → FailsWith later → FailsWith (begun np line n lines later)
begins np (Ok Silent) n lines later h = h
begins np (Ok (At minute)) n lines later h = tt
begins np (Ok (Be actor)) n lines later h = refl
begins np (Ok (Ask request)) n lines later h = refl
begins np (Err fault) n lines later h = refl

pub starts : (np : NamedPolicy) (n : ℕ) (lines : List (List ℕ)) → FailsWith (start_of np n lines)
starts np n [] = tt
starts np n (line ∷ lines) = begins np (said np line) n lines (start_of np (n + 1) lines) (starts np (n + 1) lines)

pub of_start : (np : NamedPolicy) (start : ScriptStart) (end : EndView) → FailsWith start → EndsFrom np start end → IsRunStatus end.status
of_start np never end h is = inl (status_of end _ is)
of_start np (born birth n lines) end h run = run_status np birth n lines end run
of_start np (failed t) end h is = inr (inl (status_of end t is ∙ h))

pub played_status : (np : NamedPolicy) (lines : List (List ℕ)) (end : EndView) → EndsFrom np (start_of np 1 lines) end → IsRunStatus end.status
played_status np lines end is = of_start np (start_of np 1 lines) end (starts np 1 lines) is

-- words of `gen` are no command over a policy
pub gen_no_command : (words : List (List ℕ)) (g : Gen) → IsGen words g → command_of words ≡ None
gen_no_command words g is = ap command_of is.words_are ∙ neither (begins_with 45 (decimal g.seed))
  where
    neither : (b : Bool) → ◌≡◌ {A = Option Command} (if b then None else None) None
    neither true = refl
    neither false = refl
