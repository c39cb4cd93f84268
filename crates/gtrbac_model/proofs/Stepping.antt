-- What a step of a machine owes so that its history stays legal: a tick over settled minutes to the next stop, and an answered request.
use Rattle.std.proofs.Common.{ℕ, ◌-◌, ◌<◌, ◌≤◌, nat_le, [], ◌∷◌, refl, sym, subst, arith}
use Rattle.std.proofs.lemmas.Bool.{leb-true, leb-false}
use Rattle.gt_base.specs.Machines.{ticked}
use Rattle.gtrbac_model.specs.Instant.{Settled}
use Rattle.gtrbac_model.specs.Sessions.{empty_table}
use Rattle.gtrbac_model.specs.Base.{status, base_at}
use Rattle.gtrbac_model.specs.Reply.{reply_of}
use Rattle.gtrbac_model.specs.History.{now_of, point_after}
use Rattle.gtrbac_model.specs.Steps.{TickKeeps, AskKeeps}
use Rattle.gtrbac_model.specs.Theorems.{SameUpTo}
use Rattle.gtrbac_model.proofs.Elements.{split}
use Rattle.gtrbac_model.proofs.OneModel.{status_same, base_same}
use Rattle.gtrbac_model.proofs.Append.{steps_append, ask_keeps}
use Rattle.gtrbac_model.proofs.Playing.{now_snoc, tick_not_read, base_of_prefix, steps_same, queues_later}

pub tick_keeps : TickKeeps
tick_keeps p birth h m n who upto to legal same later stop =
    record {
      model = λ t a le.
          let le_to : t ≤ to = omega (arith, le, now_snoc birth h (ticked who upto to)) in
          subst (λ b. Settled p.triggers b (status p birth n (t - 1)) (n t))
          (sym (base_of_prefix p birth n h (ticked who upto to ∷ []) t refl
          (tick_not_read p birth (status p birth n) (t - 1) who upto to [] (omega (arith, a, le_to)) h birth empty_table)))
          (split (nat_le t (now_of birth h))
          (λ e. earlier t a (leb-true t (now_of birth h) e))
          (λ e. later t (leb-false t (now_of birth h) e) le_to));
      steps = steps_append p birth n [] h (ticked who upto to) (steps_same p birth m n [] h same legal.steps) stop;
    }
  where
    -- a minute up to now is settled as it was
    earlier : (t : ℕ) → birth < t → t ≤ now_of birth h → Settled p.triggers (base_at p birth n h t) (status p birth n (t - 1)) (n t)
    earlier t a le =
        let before : SameUpTo birth (t - 1) m n = λ u c d. same u c (omega (arith, d, le)) in
        subst (λ y. Settled p.triggers (base_at p birth n h t) (status p birth n (t - 1)) y) (same t a le)
        (subst (λ b. Settled p.triggers b (status p birth n (t - 1)) (m t)) (base_same p birth m n t h before)
        (subst (λ s. Settled p.triggers (base_at p birth m h t) s (m t)) (status_same p birth m n (t - 1) (t - 1) before (omega arith))
        (legal.model t a le)))

pub ask_keeps_legal : AskKeeps
ask_keeps_legal p birth h m who actor request legal =
    ask_keeps p birth m h who actor request (reply_of p (point_after p birth m h) actor request) legal refl
    (λ t le. queues_later p (point_after p birth m h) actor request t le)
