-- A history that goes on keeps its sets: later entries are read for no base up to the earlier now.
use Rattle.std.proofs.Common.{ℕ, ◌-◌, ◌≤◌, List, [], ◌∷◌, ◌++◌, sym, subst, arith, append_assoc}
use Rattle.gt_base.specs.declared.requests.Entry.{Entry}
use Rattle.gtrbac_model.specs.Policy.{Policy}
use Rattle.gtrbac_model.specs.Instant.{Settled}
use Rattle.gtrbac_model.specs.Status.{Model}
use Rattle.gtrbac_model.specs.Sessions.{empty_table}
use Rattle.gtrbac_model.specs.Base.{status}
use Rattle.gtrbac_model.specs.History.{Legal, AreLegalAfter, IsExecutionModel, now_of}
use Rattle.gtrbac_model.proofs.Append.{not_read, append-nil}
use Rattle.gtrbac_model.proofs.Levels.{by_trigger}
use Rattle.gtrbac_model.proofs.OneModel.{only_model}
use Rattle.gtrbac_model.proofs.Playing.{goes_on, later_requests, base_of_prefix}
use Rattle.walk_laws.proofs.Climbing.{safe_is_levelled}
use Rattle.history_laws.specs.Histories.{LongerAgrees}

module _ (p : Policy) (birth : ℕ) (m : Model) where
  -- the steps after a beginning are legal after it
  pub steps_after : (g h further : List Entry) → AreLegalAfter p birth m g (h ++ further) → AreLegalAfter p birth m (g ++ h) further
  steps_after g [] further legal = subst (λ k. AreLegalAfter p birth m k further) (sym (append-nil g)) legal
  steps_after g (e ∷ h) further legal = subst (λ k. AreLegalAfter p birth m k further) (append_assoc g (e ∷ []) h) (steps_after (g ++ e ∷ []) h further legal.1)

  pub front_steps : (g h further : List Entry) → AreLegalAfter p birth m g (h ++ further) → AreLegalAfter p birth m g h
  front_steps g [] further legal = tt
  front_steps g (e ∷ h) further legal = (legal.0, front_steps (g ++ e ∷ []) h further legal.1)

  -- the model of a longer history is one of its beginning
  pub of_longer : (h further : List Entry) → Legal p birth (h ++ further) m → IsExecutionModel p birth h m
  of_longer h further legal t after_birth le =
      let steps : AreLegalAfter p birth m h further = steps_after [] h further legal.steps in
      let on : now_of birth h ≤ now_of birth (h ++ further) = goes_on p birth m h further steps in
      subst (λ b. Settled p.triggers b (status p birth m (t - 1)) (m t))
      (base_of_prefix p birth m h further t (later_requests p birth m h further t steps le)
      (not_read p.edges p.caps (status p birth m) (t - 1) further h birth empty_table (omega (arith, after_birth)) (omega (arith, after_birth, le))))
      (legal.model t after_birth (omega (arith, le, on)))

pub longer_agrees : LongerAgrees
longer_agrees p safe birth h further m n of_m of_n =
    let levels = safe_is_levelled p.triggers safe in
    only_model p birth h n levels.0 (by_trigger p.triggers levels.0 levels.1) (of_longer p birth n h further of_n) m of_m.model
