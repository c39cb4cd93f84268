-- The run of a script whose replies are written as they come, or kept.
use Rattle.std.proofs.Common.{◌≡◌, ℕ, ◌+◌, ◌≤◌, Bool, true, false, List, [], ◌∷◌, ◌++◌, length, inl, inr, refl, sym, ◌∙◌, ap, subst, append_assoc}
use Rattle.std.specs.Prelude.{Result, Ok, Err, MatchResult, codes, ⊤}
use Rattle.std.proofs.KnownBytes.{Keeps-refl}
use Rattle.gt_base.specs.Machines.{asked}
use Rattle.gt_base.specs.declared.requests.Actor.{Actor}
use Rattle.gt_base.specs.declared.limits.TheConstants.{MAX_STEPS}
use Rattle.gt_io.specs.Causes.{Rose, AppendsPart}
use Rattle.gt_io.specs.Streams.{Output}
use Rattle.gtrbac_model.specs.Safety.{IsSafe}
use Rattle.gt_base.specs.declared.requests.Entry.{Entry}
use Rattle.policy_words.specs.Naming.{NamedPolicy}
use Rattle.policy_commands.specs.declared.ends.End.{End}
use Rattle.policy_commands.specs.Ends.{EndView, ending, seen_end}
use Rattle.policy_commands.specs.Printing.{IsPrinted, WantsMemory}
use Rattle.core_machine.specs.Books.{BookView, IsLegalBook, SameRoot, model_in}
use Rattle.request_text.specs.declared.lines.Line.{Line}
use Rattle.request_text.specs.declared.lines.Line.TheVariants.{Silent, At, Be, Ask}
use Rattle.request_text.specs.declared.lines.LineFault.{LineFault}
use Rattle.request_text.specs.Replies.{reply_line, fault_word}
use Rattle.gtrbac_tool.specs.declared.script.Played.{Played}
use Rattle.gtrbac_tool.specs.declared.script.Played.TheVariants.{On, Full, Bad}
use Rattle.gtrbac_tool.specs.declared.script.Ran.{Ran}
use Rattle.gtrbac_tool.specs.declared.script.Ran.TheVariants.{Unborn, Born}
use Rattle.gtrbac_tool.specs.EndTexts.{behind, script_fault, steps_full}
use Rattle.gtrbac_tool.specs.Script.{RunState, Moves, MovesThrough, Stops, Run, ScriptStart, never, born, failed, EndsFrom, RunOver, said, scripts_who, at_birth}
use Rattle.gtrbac_tool.specs.RunStates.{run_state_of, PlaysAs}
use Rattle.gtrbac_tool.specs.Writing.{PrintsEnd, Hands}
use Rattle.gtrbac_tool.specs.Started.{RanFrom, Leads}
use Rattle.gtrbac_tool.proofs.Steps.{legal_from, stop_out, last_out, outcome}
use Rattle.gtrbac_tool.proofs.SomeEnd.{EndsOn, ends_on}
use Rattle.gtrbac_tool.proofs.Writing.{prefix_of, part_before, part_behind, printed_behind, hands_none, wants}

-- where a run stands, with this text before it
abbrev pub after : List ℕ → RunState → RunState
after sent s = record { actor = s.actor; history = s.history; text = sent ++ s.text }

-- a line moves and stops a run the same where a text stands before its replies
module _ (np : NamedPolicy) (birth : ℕ) (sent : List ℕ) where
  moves_after : (line : Result Line LineFault) (s t : RunState) → Moves np birth line s t → Moves np birth line (after sent s) (after sent t)
  moves_after (Ok Silent) s t m = ap (after sent) m
  moves_after (Ok (Be actor)) s t m = ap (after sent) m ∙ (λ i. record { actor = actor; history = s.history; text = sym (append_assoc sent s.text (codes "ok\n")) i })
  moves_after (Ok (At minute)) s t m = (m.0, m.1, ap (after sent) m.2)
  moves_after (Ok (Ask request)) s t m = (
    m.0,
    m.1,
    ap (after sent) m.2 ∙ (λ i. record { actor = s.actor; history = s.history ++ asked scripts_who s.actor request m.0 ∷ []; text = sym (append_assoc sent s.text (reply_line np m.0)) i }),
  )
  moves_after (Err fault) s t m = m

  both_before : (front : List ℕ) (t : EndView) → behind sent (behind front t) ≡ behind (sent ++ front) t
  both_before front t = λ i. record { status = t.status; text = sym (append_assoc sent front t.text) i }

  again : (front : List ℕ) (t u : EndView) → behind front t ≡ behind front u → behind (sent ++ front) t ≡ behind (sent ++ front) u
  again front t u e = sym (both_before front t) ∙ ap (behind sent) e ∙ both_before front u

  stops_after : (line : Result Line LineFault) (n : ℕ) (s : RunState) (h : List Entry) (t : EndView) → Stops np birth line n s h (behind s.text t) → Stops np birth line n (after sent s) h (behind (sent ++ s.text) t)
  stops_after (Ok Silent) n s h t is = is
  stops_after (Ok (Be actor)) n s h t is = is
  stops_after (Ok (At minute)) n s h t is = (is.0, again s.text t (steps_full n) is.1)
  stops_after (Ok (Ask request)) n s h t is = (is.0, is.1, again s.text t (steps_full n) is.2)
  stops_after (Err fault) n s h t is = (is.0, again s.text t (script_fault n (fault_word fault)) is.1)

  pub plays_after : (line : Result Line LineFault) (how : Played) (s t : RunState) → PlaysAs np birth line how s t → PlaysAs np birth line how (after sent s) (after sent t)
  plays_after line On s t h = moves_after line s t h
  plays_after line Full s t h = (ap (λ (x : List ℕ). sent ++ x) h.0, λ n. stops_after line n s t.history (steps_full n) (h.1 n))
  plays_after line (Bad f) s t h = (ap (λ (x : List ℕ). sent ++ x) h.0, λ n. stops_after line n s t.history (script_fault n (fault_word f)) (h.1 n))

-- a run that ends on the way
pub breaks : (np : NamedPolicy) (start : ScriptStart) (pieces : Bool) (status : ℕ) (a b : Output)
    → PrintsEnd ⊤ (EndsFrom np start) status a b → (pieces ≡ false → WantsMemory status a.written b.written a.faults b.faults) → Leads np start pieces (Err status) a b
breaks np start true status a b tells wants = tells
breaks np start false status a b tells wants = wants refl

-- .. for want of memory, with nothing written
pub starved_first : (np : NamedPolicy) (start : ScriptStart) (pieces : Bool) (status : ℕ) (a : Output) → status ≡ 8 → Leads np start pieces (Err status) a a
starved_first np start pieces status a eight =
    let none : WantsMemory status a.written a.written a.faults a.faults = (eight, Keeps-refl a.written, refl) in breaks np start pieces status a a (inl none) (λ _. none)

-- where the lines of a front were played, with a text of which a part was written and the rest waits
module _ (b0 b : BookView) (root : SameRoot b0 b) (legal : IsLegalBook b) (before : ℕ) (lines front later : List (List ℕ)) (parts : lines ≡ front ++ later) (actor : Actor) (sent page : List ℕ)
    (plays : MovesThrough b0.named b0.birth front (at_birth b0.named b0.birth) (run_state_of b actor (sent ++ page))) (pieces : Bool) (a w : Output) (hands : Hands pieces a w sent) where
  abbrev Comes : Result Ran ℕ → Output → Type 0
  Comes result c = Leads b0.named (born b0.birth (before + 1) lines) pieces result a c

  abbrev Start : ScriptStart
  Start = born b0.birth (before + 1) lines

  module _ (safe : IsSafe b0.named.policy.triggers) (short : length b.entries ≤ MAX_STEPS) where
    on : EndsOn b0.named b0.birth (before + 1) lines (run_state_of b actor (sent ++ page))
    on =
        subst (λ (ls : List (List ℕ)). EndsOn b0.named b0.birth (before + 1) ls (run_state_of b actor (sent ++ page))) (sym parts)
        (ends_on b0.named b0.birth (before + 1) safe later front (run_state_of b actor (sent ++ page)) (model_in b) (plays, legal_from b0 b root legal, short))

    -- there was no memory for more
    pub starves : Comes (Err 8) w
    starves =
        breaks b0.named Start pieces 8 a w
        (inr (on.end, on.run, inr (tt, (refl, prefix_of a.written w.written sent (page ++ on.more) on.end.text hands.written (on.text ∙ append_assoc sent page on.more), hands.steady))))
        (wants pieces a w sent 8 hands refl)

    -- the output failed
    pub fails : (c : Output) → pieces ≡ true → Rose w.faults c.faults → AppendsPart w.written c.written page → Comes (Err 5) c
    fails c whole rose part =
        subst (λ (p : Bool). Leads b0.named Start p (Err 5) a c) (sym whole)
        (inr (
          on.end,
          on.run,
          inl (inr (
            refl,
            subst (λ (n : ℕ). Rose n c.faults) hands.steady rose,
            subst (AppendsPart a.written c.written) (sym on.text) (part_before a.written c.written (sent ++ page) on.more (part_behind a.written w.written c.written sent page hands.written part)),
          )),
        ))

  -- the rest waits
  pub finishes : (end : End) → later ≡ [] → seen_end end ≡ ending 0 page → Comes (Ok (Born b end)) w
  finishes end none is = (
    sent,
    outcome b0 b (before + 1) lines (behind sent (seen_end end)) root
        (last_out b0 b actor (sent ++ page) before lines later front (behind sent (seen_end end)) root legal parts none plays (ap (behind sent) is)),
    hands,
  )

-- a line that ends the run
pub stops_there : (b0 old b : BookView) (root : SameRoot b0 b) (legal : IsLegalBook b) (before number : ℕ) (lines front later rest : List (List ℕ)) (line : List ℕ) (parts : lines ≡ front ++ later) (steps : later ≡ line ∷ rest)
    (actor : Actor) (sent page : List ℕ) (plays : MovesThrough b0.named b0.birth front (at_birth b0.named b0.birth) (run_state_of old actor (sent ++ page))) (at : number ≡ before + length front)
    (pieces : Bool) (a w : Output) (hands : Hands pieces a w sent) (next : List ℕ) (kind : ℕ → EndView)
    → (sent ++ next ≡ sent ++ page) × ((n : ℕ) → Stops b0.named b0.birth (said b0.named line) n (run_state_of old actor (sent ++ page)) b.entries (behind (sent ++ page) (kind n)))
    → (result : Result Ran ℕ) → MatchResult result (λ ran. (end : End) × (ran ≡ Born b end) × (seen_end end ≡ behind next (kind (number + 1)))) (λ s. s ≡ 8)
    → Leads b0.named (born b0.birth (before + 1) lines) pieces result a w
stops_there b0 old b root legal before number lines front later rest line parts steps actor sent page plays at pieces a w hands next kind did result is = by result is
  where
    end : EndView
    end = behind (sent ++ next) (kind (number + 1))

    run : Run b0.named b0.birth (before + 1) lines end
    run = (b.entries, stop_out b0 b (run_state_of old actor (sent ++ page)) (sent ++ next) before number lines later rest front line kind end root legal parts steps plays at did.0 did.1 refl)

    all : behind sent (behind next (kind (number + 1))) ≡ end
    all = λ i. record { status = (kind (number + 1)).status; text = sym (append_assoc sent next (kind (number + 1)).text) i }

    by : (r : Result Ran ℕ) → MatchResult r (λ ran. (e : End) × (ran ≡ Born b e) × (seen_end e ≡ behind next (kind (number + 1)))) (λ s. s ≡ 8) → Leads b0.named (born b0.birth (before + 1) lines) pieces r a w
    by (Ok ran) h = (
      sent,
      subst (λ (r : Ran). RanFrom b0.named (born b0.birth (before + 1) lines) sent r) (sym h.1) (outcome b0 b (before + 1) lines (behind sent (seen_end h.0)) root (subst (λ (t : EndView). RunOver b0.named b0.birth (before + 1) lines b.entries t) (sym (ap (behind sent) h.2 ∙ all)) run.1)),
      hands,
    )
    by (Err s) eight =
        breaks b0.named (born b0.birth (before + 1) lines) pieces s a w
        (inr (end, run, inr (tt, (eight, prefix_of a.written w.written sent (next ++ (kind (number + 1)).text) end.text hands.written (append_assoc sent next (kind (number + 1)).text), hands.steady))))
        (wants pieces a w sent s hands eight)

-- of the policy and the birth of the book

pub rooted_written : (np other : NamedPolicy) (birth at n : ℕ) (lines : List (List ℕ)) (pieces : Bool) (result : Result Ran ℕ) (a b : Output) → other ≡ np → at ≡ birth
    → Leads other (born at n lines) pieces result a b → Leads np (born birth n lines) pieces result a b
rooted_written np other birth at n lines pieces result a b named there h =
    subst (λ (q : NamedPolicy). Leads q (born birth n lines) pieces result a b) named (subst (λ (t : ℕ). Leads other (born t n lines) pieces result a b) there h)

-- a script that ended before a birth
pub failed_first : (np : NamedPolicy) (start : ScriptStart) (t : EndView) (pieces : Bool) (a : Output) → start ≡ failed t → (result : Result Ran ℕ)
    → MatchResult result (λ ran. (end : End) × (ran ≡ Unborn end) × (seen_end end ≡ t)) (λ s. s ≡ 8) → Leads np start pieces result a a
failed_first np start t pieces a is (Ok ran) h = (
  [],
  subst (λ (s : ScriptStart). RanFrom np s [] ran) (sym is) (subst (λ (r : Ran). RanFrom np (failed t) [] r) (sym h.1) h.2),
  hands_none pieces a,
)
failed_first np start t pieces a is (Err s) eight = starved_first np start pieces s a eight

-- how it was run, as it is told

abbrev pub end_of : Ran → End
end_of (Unborn end) = end
end_of (Born book end) = end

ran_ends : (np : NamedPolicy) (start : ScriptStart) (sent : List ℕ) (ran : Ran) → RanFrom np start sent ran → EndsFrom np start (behind sent (seen_end (end_of ran)))
ran_ends np never sent (Unborn end) h = h
ran_ends np never sent (Born book end) h = absurd h
ran_ends np (born birth n lines) sent (Unborn end) h = absurd h
ran_ends np (born birth n lines) sent (Born book end) h = (book.entries, h.run)
ran_ends np (failed t) sent (Unborn end) h = h
ran_ends np (failed t) sent (Born book end) h = absurd h

-- the rest of the replies was printed
pub replied : (np : NamedPolicy) (start : ScriptStart) (status : ℕ) (a b c : Output) (ran : Ran) (end : End) → end_of ran ≡ end → Leads np start true (Ok ran) a b
    → IsPrinted status (seen_end end) b.written c.written b.faults c.faults → PrintsEnd ⊤ (EndsFrom np start) status a c
replied np start status a b c ran end is leads printed =
    inr (
      behind leads.0 (seen_end end),
      subst (λ (e : End). EndsFrom np start (behind leads.0 (seen_end e))) is (ran_ends np start leads.0 ran leads.1),
      inl (printed_behind status a.written b.written c.written a.faults b.faults c.faults leads.0 (seen_end end) leads.2.written leads.2.steady printed),
    )

-- nothing of it was written
pub unsent : (np : NamedPolicy) (start : ScriptStart) (ran how : Ran) (a b : Output) → ran ≡ how → Leads np start false (Ok ran) a b → RanFrom np start [] how
unsent np start ran how a b is leads = subst (λ (r : Ran). RanFrom np start [] r) is (subst (λ (s : List ℕ). RanFrom np start s ran) (leads.2.kept refl) leads.1)
