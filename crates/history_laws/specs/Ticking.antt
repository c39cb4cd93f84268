-- The law by which a tick adds one set to a history's model.
use Rattle.std.specs.Prelude.{ℕ, ◌-◌, nat_eq, nat_le, List, [], ◌∷◌, ◌++◌, if◌then◌else◌}
use Rattle.gt_base.specs.Happening.{HappenedView, nothing}
use Rattle.gt_base.specs.Machines.{ticked}
use Rattle.gt_base.specs.declared.requests.Who.{Who}
use Rattle.gt_base.specs.declared.requests.Entry.{Entry}
use Rattle.gtrbac_model.specs.Policy.{Policy}
use Rattle.gtrbac_model.specs.Instant.{Settled}
use Rattle.gtrbac_model.specs.Status.{Model}
use Rattle.gtrbac_model.specs.Base.{status, base_at}
use Rattle.gtrbac_model.specs.History.{Legal, IsNextStop, stirs, now_of}
use Rattle.gtrbac_model.specs.WholePolicy.{IsPolicy}

-- the model up to now, and after it one set more, at `to`
abbrev pub with_set : Model → ℕ → ℕ → HappenedView → Model
with_set m now to x t = if nat_le t now then m t else if nat_eq t to then x else nothing

-- a tick to the next stop keeps a history legal with one set more, which is settled over the base
-- of the stop
abbrev pub TickAddsOneSet : Type 0
TickAddsOneSet =
    (p : Policy) → IsPolicy p → (birth : ℕ) (h : List Entry) (m : Model) → Legal p birth h m
    → (who : Who) (upto to : ℕ) (x : HappenedView)
    → IsNextStop (stirs p birth (with_set m (now_of birth h) to x) h) (now_of birth h) upto to
    → Settled p.triggers (base_at p birth (with_set m (now_of birth h) to x) h to)
    (status p birth (with_set m (now_of birth h) to x) (to - 1)) x
    → Legal p birth (h ++ ticked who upto to ∷ []) (with_set m (now_of birth h) to x)
