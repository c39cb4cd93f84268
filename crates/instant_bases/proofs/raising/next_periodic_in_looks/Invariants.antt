use Rattle.std.proofs.Common.{◌+◌, ◌*◌, ◌≤◌, length, take}
use Rattle.std.specs.Prelude.{flat_map}
use Rattle.gtrbac_model.specs.Base.{raised_by}
use Rattle.gtrbac_model.specs.History.{is_some_item}
use Rattle.instant_bases.specs.Nexts.{IsNextOf}
use Rattle.instant_bases.proofs.raising.next_periodic_in_looks.Given as goal

-- the least instant of the entries so far, for two looks at each
abbrev pub invariant-loop-e : goal.invariant-loop-e
invariant-loop-e g l =
    record {
      next : IsNextOf (λ t. is_some_item (flat_map (raised_by l.periods l.birth t) (take l.e-index l.entries))) l.now l.next;
      within : l.e-index ≤ length l.entries;
      cost : l.looks ≤ l.initial.looks + 2 * l.e-index;
    }
