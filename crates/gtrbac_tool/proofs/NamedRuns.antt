-- The moves of a run name only what the policy has, so what is told at its end is explained.
use Rattle.std.proofs.Common.{◌≡◌, ℕ, ◌+◌, ◌-◌, ◌<◌, Bool, true, false, nat_lt, List, [], ◌∷◌, ◌++◌, length, inl, inr, refl, sym, ◌∙◌, subst, arith, if◌then◌else◌}
use Rattle.std.specs.Prelude.{Result, Ok, Err}
use Rattle.std.proofs.lemmas.Bool.{ltb-true, false≢true}
use Rattle.std.proofs.Common.{Option, Some, None, not}
use Rattle.gt_base.specs.Held.{TriggerView}
use Rattle.gt_base.specs.Orders.{prioritised_cmp}
use Rattle.gt_base.proofs.SetLaws.{has-none}
use Rattle.gt_base.specs.Happening.{HappenedView, nothing}
use Rattle.gt_base.specs.Machines.{asked}
use Rattle.gt_base.specs.declared.events.Event.{Event}
use Rattle.gt_base.specs.declared.requests.Actor.TheVariants.{Operator}
use Rattle.gt_base.specs.declared.requests.Entry.{Entry}
use Rattle.gt_base.specs.declared.requests.Request.TheVariants as requests
use Rattle.gtrbac_model.specs.Base.{status, base_at}
use Rattle.gtrbac_model.specs.Conflict.{Status, blocked, greatest_below, seen, stands_at, won_at}
use Rattle.gtrbac_model.specs.History.{Legal, now_of, IsNamedWish, tick, ask}
use Rattle.gtrbac_model.specs.Policy.{Policy}
use Rattle.gtrbac_model.specs.Status.{Model}
use Rattle.history_laws.specs.Named.{IsNamedStep, AreNamed}
use Rattle.policy_words.specs.Naming.{NamedPolicy}
use Rattle.policy_words.specs.Valid.{IsWellFormed}
use Rattle.policy_commands.specs.Ends.{EndView}
use Rattle.request_text.specs.declared.lines.Line.{Line}
use Rattle.request_text.specs.declared.lines.Line.TheVariants.{Silent, At, Be, Ask}
use Rattle.request_text.specs.declared.lines.LineFault.{LineFault}
use Rattle.request_text.proofs.Named.{read_named}
use Rattle.why_check.proofs.Priorities.{priorities_are_low}
use Rattle.gtrbac_tool.specs.Reasons.{IsExplained, TellingsAreExplained}
use Rattle.gtrbac_tool.specs.Script.{RunState, AreTicks, Moves, MovesThrough, Stops, StoppedAt, RunOver, said, scripts_who, at_birth}
use Rattle.gtrbac_model.proofs.Elements.{both_true}
use Rattle.gtrbac_tool.specs.Standing.{at_prio}
use Rattle.gtrbac_tool.proofs.Reasons.{greatest_holds, reasons_exist}

both_named : (p : Policy) (g h : List Entry) → AreNamed p g → AreNamed p h → AreNamed p (g ++ h)
both_named p [] h a b = b
both_named p (e ∷ g) h a b = (a.0, both_named p g h a.1 b)

ticks_named : (p : Policy) (minute : ℕ) (ts : List Entry) → IsNamedWish p (tick minute) → AreTicks minute ts → AreNamed p ts
ticks_named p minute [] low ticks = tt
ticks_named p minute (e ∷ es) low ticks = (subst (λ (k : Entry). IsNamedStep p k.what) (sym ticks.0.1) low, ticks_named p minute es low ticks.1)

-- nothing is told of an event where nothing happened
nothing_told : (rules : List TriggerView) (base : HappenedView) (before : Status) (e : Event) → IsExplained rules base before nothing e (seen nothing e)
nothing_told rules base before e = by (greatest_below (won_at nothing e) 101) (greatest_below (stands_at nothing e) 101) refl refl
  where
    nowhere : (p : ℕ) → stands_at nothing e p ≡ true → ⊥
    nowhere p h = false≢true (sym (has-none prioritised_cmp (at_prio p e)) ∙ h)

    by : (a b : Option ℕ) → greatest_below (won_at nothing e) 101 ≡ a → greatest_below (stands_at nothing e) 101 ≡ b → IsExplained rules base before nothing e (seen nothing e)
    by (Some p) b won stood = absurd (nowhere p (both_true (stands_at nothing e p) (not (blocked nothing (at_prio p e))) (greatest_holds (won_at nothing e) 101 p won).1).0)
    by None (Some p) won stood = absurd (nowhere p (greatest_holds (stands_at nothing e) 101 p stood).1)
    by None None won stood = rw (won, stood) tt

module _ (np : NamedPolicy) (good : IsWellFormed np) (birth : ℕ) where
  -- who acts and what was done are of the policy
  record IsNamedState (s : RunState) : Type 0 where
    pub actor : IsNamedWish np.policy (ask s.actor requests.Now)
    pub history : AreNamed np.policy s.history

  line_on : (line : List ℕ) (r : Result Line LineFault) → said np line ≡ r → (s t : RunState) → Moves np birth r s t → IsNamedState s → IsNamedState t
  line_on line (Ok Silent) is s t moves named = subst IsNamedState (sym moves) named
  line_on line (Ok (Be actor)) is s t moves named =
      subst IsNamedState (sym moves) (record { actor = read_named np good Operator true line (Be actor) tt is; history = named.history })
  line_on line (Ok (At minute)) is s t moves named =
      subst IsNamedState (sym moves.2)
      (record {
        actor = named.actor;
        history = subst (AreNamed np.policy) (sym moves.1.added)
            (both_named np.policy s.history moves.1.ticks named.history (ticks_named np.policy minute moves.1.ticks (read_named np good Operator true line (At minute) tt is) moves.1.are_ticks));
      })
  line_on line (Ok (Ask request)) is s t moves named =
      subst IsNamedState (sym moves.2)
      (record {
        actor = named.actor;
        history = both_named np.policy s.history (asked scripts_who s.actor request moves.0 ∷ []) named.history
            ((named.actor.0, (read_named np good Operator true line (Ask request) tt is).1), tt);
      })
  line_on line (Err fault) is s t moves named = absurd moves

  lines_on : (lines : List (List ℕ)) (s t : RunState) → MovesThrough np birth lines s t → IsNamedState s → IsNamedState t
  lines_on [] s t plays named = subst IsNamedState (sym plays) named
  lines_on (line ∷ lines) s t plays named = lines_on lines plays.0 t plays.2 (line_on line (said np line) refl s plays.0 plays.1 named)

  from_birth : (front : List (List ℕ)) (t : RunState) → MovesThrough np birth front (at_birth np birth) t → IsNamedState t
  from_birth front t plays = lines_on front (at_birth np birth) t plays (record { actor = (tt, tt); history = tt })

  -- the entries of a run are named
  run_named : (n : ℕ) (lines : List (List ℕ)) (h : List Entry) (end : EndView) → RunOver np birth n lines h end → AreNamed np.policy h
  run_named n lines h end run =
      elim run.ends [
        | inl out ↦ subst (AreNamed np.policy) (sym out.history) (from_birth lines out.last out.plays).history
        | inr at ↦ by at (said np at.line) refl at.stops
      ]
    where
      by : (at : StoppedAt np birth n lines h end) (r : Result Line LineFault) → said np at.line ≡ r → Stops np birth r (n + length at.front) at.before h end → AreNamed np.policy h
      by at (Ok Silent) is stops = absurd stops
      by at (Ok (Be actor)) is stops = absurd stops
      by at (Ok (At minute)) is stops =
          subst (AreNamed np.policy) (sym stops.0.added)
          (both_named np.policy at.before.history stops.0.ticks (from_birth at.front at.before at.plays).history
          (ticks_named np.policy minute stops.0.ticks (read_named np good Operator true at.line (At minute) tt is) stops.0.are_ticks))
      by at (Ok (Ask request)) is stops = subst (AreNamed np.policy) (sym stops.1) (from_birth at.front at.before at.plays).history
      by at (Err fault) is stops = subst (AreNamed np.policy) (sym stops.0) (from_birth at.front at.before at.plays).history

  told_explained : (h : List Entry) (m : Model) → AreNamed np.policy h → Legal np.policy birth h m → (e : Event) → (b : Bool) → nat_lt birth (now_of birth h) ≡ b
      → let x : HappenedView = if b then m (now_of birth h) else nothing in
      IsExplained np.policy.triggers (base_at np.policy birth m h (now_of birth h)) (status np.policy birth m (now_of birth h - 1)) x e (seen x e)
  told_explained h m named legal e true after =
      let now : ℕ = now_of birth h in
      let lt : birth < now = ltb-true birth now after in
      reasons_exist np.policy.triggers (base_at np.policy birth m h now) (status np.policy birth m (now - 1)) (m now) (legal.model now lt (omega arith))
      (priorities_are_low np.policy good.policy birth h m named legal now lt (omega arith)) e
  told_explained h m named legal e false after = nothing_told np.policy.triggers (base_at np.policy birth m h (now_of birth h)) (status np.policy birth m (now_of birth h - 1)) e

pub tellings_are_explained : TellingsAreExplained
tellings_are_explained np good birth n lines h end run m legal e =
    told_explained np good birth h m (run_named np good birth n lines h end run) legal e (nat_lt birth (now_of birth h)) refl
