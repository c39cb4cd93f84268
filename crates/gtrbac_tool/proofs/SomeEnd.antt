-- Each script has an end over a safe policy, and the replies of its first lines are a prefix of the text of that.
use Rattle.std.proofs.Common.{◌≡◌, ℕ, ◌+◌, ◌<◌, ◌≤◌, true, false, List, [], ◌∷◌, ◌++◌, length, ◌⊎◌, inl, inr, refl, sym, ◌∙◌, ap, subst, arith, append_assoc, append-nil, length-append}
use Rattle.std.proofs.lemmas.Bool.{ltb-true, ltb-false}
use Rattle.std.specs.Prelude.{Bool, nat_lt, codes, Result, Ok, Err}
use Rattle.gt_base.specs.Happening.{nothing}
use Rattle.gt_base.specs.Machines.{asked}
use Rattle.gt_base.specs.declared.requests.Entry.{Entry}
use Rattle.gt_base.specs.declared.limits.TheConstants.{MAX_STEPS}
use Rattle.gtrbac_model.specs.Safety.{IsSafe}
use Rattle.gtrbac_model.specs.Status.{Model}
use Rattle.gtrbac_model.specs.History.{Legal, now_of}
use Rattle.gtrbac_model.proofs.Elements.{split}
use Rattle.gt_text.specs.Lines.{lines_of, is_longer}
use Rattle.policy_words.specs.Naming.{NamedPolicy}
use Rattle.policy_commands.specs.Ends.{EndView, ending}
use Rattle.policy_commands.specs.Finding.{too_long}
use Rattle.request_text.specs.declared.lines.Line.{Line}
use Rattle.request_text.specs.declared.lines.Line.TheVariants.{Silent, At, Be, Ask}
use Rattle.request_text.specs.declared.lines.LineFault.{LineFault}
use Rattle.request_text.specs.Replies.{reply_line, fault_word}
use Rattle.gtrbac_tool.specs.EndTexts.{behind, script_fault, steps_full}
use Rattle.gtrbac_tool.specs.Script.{RunState, Moves, MovesThrough, Stops, Run, ScriptStart, never, born, failed, start_of, EndsFrom, EndsIf, said, scripts_who, at_birth}
use Rattle.gtrbac_tool.specs.Meanings.{SomeEnd}
use Rattle.gtrbac_tool.proofs.Continuing.{TicksOn, ticks_go_on, asks_on}
use Rattle.gtrbac_tool.proofs.Steps.{plays_more}
use Rattle.gtrbac_tool.specs.declared.top.TheConstants.{MAX_SCRIPT}

-- how a run goes on from where it stands
pub record EndsOn (np : NamedPolicy) (birth n : ℕ) (lines : List (List ℕ)) (s : RunState) : Type 0 where
  pub end : EndView
  pub run : Run np birth n lines end
  pub more : List ℕ
  pub text : end.text ≡ s.text ++ more

module _ (np : NamedPolicy) (birth n : ℕ) (safe : IsSafe np.policy.triggers) where
  abbrev Stands : List (List ℕ) → RunState → Model → Type 0
  Stands front s m = MovesThrough np birth front (at_birth np birth) s × Legal np.policy birth s.history m × (length s.history ≤ MAX_STEPS)

  all_played : (front : List (List ℕ)) (s : RunState) (m : Model) → Stands front s m → EndsOn np birth n (front ++ []) s
  all_played front s m is =
      record {
        end = ending 0 s.text;
        run = (
          s.history,
          record {
            model = m;
            legal = is.1;
            ends = inl (record { last = s; plays = subst (λ (ls : List (List ℕ)). MovesThrough np birth ls (at_birth np birth) s) (sym (append-nil front)) is.0; history = refl; end_is = refl });
          },
        );
        more = [];
        text = sym (append-nil s.text);
      }

  module _ (front : List (List ℕ)) (line : List ℕ) (later : List (List ℕ)) (s : RunState) where
    abbrev Here : Type 0
    Here = EndsOn np birth n (front ++ line ∷ later) s

    abbrev There : RunState → Type 0
    There t = EndsOn np birth n ((front ++ line ∷ []) ++ later) t

    moved_on : (t : RunState) (more : List ℕ) → t.text ≡ s.text ++ more → There t → Here
    moved_on t more is rest =
        record {
          end = rest.end;
          run = subst (λ (ls : List (List ℕ)). Run np birth n ls rest.end) (append_assoc front (line ∷ []) later) rest.run;
          more = more ++ rest.more;
          text = rest.text ∙ ap (λ (x : List ℕ). x ++ rest.more) is ∙ append_assoc s.text more rest.more;
        }

    stopped_so : (h : List Entry) (k : Model) (t : EndView) → MovesThrough np birth front (at_birth np birth) s → Legal np.policy birth h k → Stops np birth (said np line) (n + length front) s h (behind s.text t) → Here
    stopped_so h k t plays legal stops =
        record {
          end = behind s.text t;
          run = (h, record { model = k; legal = legal; ends = inr (record { front = front; line = line; rest = later; parts = refl; before = s; plays = plays; stops = stops }) });
          more = t.text;
          text = refl;
        }

    abbrev Goes : Type 0
    Goes = (t : RunState) (k : Model) → Moves np birth (said np line) s t → Legal np.policy birth t.history k → length t.history ≤ MAX_STEPS → There t

    by_line : (m : Model) → Stands front s m → Goes → (r : Result Line LineFault) → said np line ≡ r → Here
    by_line m is on (Ok Silent) e =
        moved_on s [] (sym (append-nil s.text)) (on s m (subst (λ (r : Result Line LineFault). Moves np birth r s s) (sym e) refl) is.1 is.2)
    by_line m is on (Ok (Be actor)) e =
        let t : RunState = record { actor = actor; history = s.history; text = s.text ++ codes "ok\n" } in
        moved_on t (codes "ok\n") refl (on t m (subst (λ (r : Result Line LineFault). Moves np birth r s t) (sym e) refl) is.1 is.2)
    by_line m is on (Ok (At minute)) e = by go.done
      where
        go : TicksOn np.policy birth minute s.history
        go = ticks_go_on np.policy birth safe minute s.history m is.1 is.2

        h : List Entry
        h = s.history ++ go.ticks

        t : RunState
        t = record { actor = s.actor; history = h; text = s.text }

        by : (minute ≤ now_of birth h) ⊎ ((now_of birth h < minute) × (length h ≡ MAX_STEPS)) → Here
        by (inl there) =
            moved_on t [] (sym (append-nil s.text))
            (on t go.model (subst (λ (r : Result Line LineFault). Moves np birth r s t) (sym e) (h, record { ticks = go.ticks; added = refl; are_ticks = go.are_ticks; there = there; room = go.short }, refl)) go.legal go.short)
        by (inr full) =
            stopped_so h go.model (steps_full (n + length front)) is.0 go.legal
            (subst (λ (r : Result Line LineFault). Stops np birth r (n + length front) s h (behind s.text (steps_full (n + length front)))) (sym e)
            (record { ticks = go.ticks; added = refl; are_ticks = go.are_ticks; before = full.0; full = full.1 }, refl))
    by_line m is on (Ok (Ask request)) e = split (nat_lt (length s.history) MAX_STEPS) room none
      where
        room : nat_lt (length s.history) MAX_STEPS ≡ true → Here
        room y =
            let lt : length s.history < MAX_STEPS = ltb-true (length s.history) MAX_STEPS y in
            let a = asks_on np.policy birth safe s.history m is.1 s.actor request in
            let t : RunState = record { actor = s.actor; history = s.history ++ asked scripts_who s.actor request a.0 ∷ []; text = s.text ++ reply_line np a.0 } in
            moved_on t (reply_line np a.0) refl
            (on t a.1 (subst (λ (r : Result Line LineFault). Moves np birth r s t) (sym e) (a.0, lt, refl)) a.2 (omega (arith, lt, length-append s.history (asked scripts_who s.actor request a.0 ∷ []))))

        none : nat_lt (length s.history) MAX_STEPS ≡ false → Here
        none y =
            let full : length s.history ≡ MAX_STEPS = omega (arith, is.2, ltb-false (length s.history) MAX_STEPS y) in
            stopped_so s.history m (steps_full (n + length front)) is.0 is.1
            (subst (λ (r : Result Line LineFault). Stops np birth r (n + length front) s s.history (behind s.text (steps_full (n + length front)))) (sym e) (full, refl, refl))
    by_line m is on (Err fault) e =
        stopped_so s.history m (script_fault (n + length front) (fault_word fault)) is.0 is.1
        (subst (λ (r : Result Line LineFault). Stops np birth r (n + length front) s s.history (behind s.text (script_fault (n + length front) (fault_word fault)))) (sym e) (refl, refl))

  pub ends_on : (later front : List (List ℕ)) (s : RunState) (m : Model) → Stands front s m → EndsOn np birth n (front ++ later) s
  ends_on [] front s m is = all_played front s m is
  ends_on (line ∷ later) front s m is =
      by_line front line later s m is
      (λ t k moves legal short. ends_on later (front ++ line ∷ []) t k (plays_more np birth front line (at_birth np birth) s t is.0 moves, legal, short))
      (said np line) refl

  -- from the birth on
  pub ends_born : (lines : List (List ℕ)) → EndsOn np birth n lines (at_birth np birth)
  ends_born lines = ends_on lines [] (at_birth np birth) (λ t. nothing) (refl, record { model = λ t a b. absurd (omega (arith, a, b)); steps = tt }, omega arith)

from_start : (np : NamedPolicy) → IsSafe np.policy.triggers → (start : ScriptStart) → (end : EndView) × EndsFrom np start end
from_start np safe never = (ending 0 [], refl)
from_start np safe (born birth n lines) = let on = ends_born np birth n safe lines in (on.end, on.run)
from_start np safe (failed t) = (t, refl)

some_if : (np : NamedPolicy) → IsSafe np.policy.triggers → (script : List ℕ) (b : Bool) → (end : EndView) × EndsIf b np script end
some_if np safe script true = (too_long (codes "script"), refl)
some_if np safe script false = from_start np safe (start_of np 1 (lines_of script))

pub some_end : SomeEnd
some_end np safe script = some_if np safe script (is_longer MAX_SCRIPT script)
