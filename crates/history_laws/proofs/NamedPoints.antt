-- Requests are answered from named points.
use Rattle.std.proofs.Common.{ℕ, ◌≤◌, List, [], ◌∷◌, ◌++◌, arith}
use Rattle.std.proofs.lemmas.Bool.{ltb-true}
use Rattle.gt_base.specs.declared.events.Fluent.TheVariants.{Enabled}
use Rattle.gt_base.specs.declared.requests.Step.{Step}
use Rattle.gt_base.specs.declared.requests.Step.TheVariants.{Tick, Ask}
use Rattle.gt_base.specs.declared.requests.Entry.{Entry}
use Rattle.gt_base.specs.declared.limits.TheConstants.{LAST_MINUTE}
use Rattle.gtrbac_model.specs.Policy.{Policy}
use Rattle.gtrbac_model.specs.Status.{Model}
use Rattle.gtrbac_model.specs.History.{Legal, AreLegalAfter, IsLegalStep, now_of, moved, point_after}
use Rattle.gtrbac_model.specs.WholePolicy.{IsPolicy}
use Rattle.gtrbac_model.proofs.Playing.{goes_on}
use Rattle.history_laws.specs.Named.{IsNamedStep, AreNamed, IsNamedPoint, PointsAreNamed}
use Rattle.history_laws.proofs.InOrder.{active_in_order}
use Rattle.history_laws.proofs.Lasting.{front_steps, of_longer}
use Rattle.history_laws.proofs.Naming.{only_named_is_on}

named_front : (p : Policy) (front rest : List Entry) → AreNamed p (front ++ rest) → AreNamed p front
named_front p [] rest named = tt
named_front p (e ∷ es) rest named = (named.0, named_front p es rest named.1)

module _ (p : Policy) (birth : ℕ) (m : Model) where
  low_step : (start : ℕ) (g : List Entry) (w : Step) → start ≤ LAST_MINUTE → IsNamedStep p w → IsLegalStep p birth m g w → moved start w ≤ LAST_MINUTE
  low_step start g (Tick upto to) le named legal = omega (arith, named, legal.bounded)
  low_step start g (Ask actor request reply) le named legal = le

  low_now : (start : ℕ) (g h : List Entry) → start ≤ LAST_MINUTE → AreNamed p h → AreLegalAfter p birth m g h → now_of start h ≤ LAST_MINUTE
  low_now start g [] le named legal = le
  low_now start g (e ∷ es) le named legal = low_now (moved start e.what) (g ++ e ∷ []) es (low_step start g e.what le named.0 legal.0) named.1 legal.1

  pub after_named : (h : List Entry) → IsPolicy p → birth ≤ LAST_MINUTE → AreNamed p h → Legal p birth h m → IsNamedPoint p (point_after p birth m h)
  after_named h good le named legal =
      let now : ℕ = now_of birth h in
      let later : birth ≤ now = goes_on p birth m [] h legal.steps in
      record {
        now = low_now birth [] h le named legal.steps;
        on = only_named_is_on p birth h m good named legal now later (omega arith);
        active = λ a there.
            ltb-true a.role.0 p.roles (only_named_is_on p birth h m good named legal now later (omega arith) (Enabled a.role) (active_in_order p birth h m legal now later a there).role_is_on);
      }

pub points_are_named : PointsAreNamed
points_are_named p birth front rest m good le named legal =
    after_named p birth m front good le (named_front p front rest named) (record { model = of_longer p birth m front rest legal; steps = front_steps p birth m [] front rest legal.steps })
