-- What a call at the desk tells of its front.
use Rattle.std.specs.Prelude.{◌≡◌, ◌⊎◌, ℕ, ◌+◌, ◌^◌, ◌<◌, ◌≤◌, List, ◌++◌, length, drop}
use mathlib.Core.List.{IsPrefix}
use Rattle.gt_base.specs.declared.requests.Entry.{Entry}
use Rattle.gt_base.specs.declared.requests.Who.{Who}
use Rattle.gt_base.specs.declared.limits.TheConstants.{MAX_STEPS}
use Rattle.turn_lock.specs.Turns.{part}
use Rattle.turn_lock.specs.Holders.{Holder}

abbrev pub by : ℕ → ℕ → Who
by worker conn = record { worker = worker; conn = conn }

module _ {M : Type 0} where
  -- The front begins with what the pass had seen. The entries of the pass after the first front are
  -- its old own ones and then these, and the pass knows so. It drew one turn, and may have kept it
  pub record Lands (first : List Entry) (before after : Holder M) (front more : List Entry)
      : Type 0 where
    pub seen : IsPrefix before.seen front
    pub first_is : IsPrefix first front
    pub part_is : part before.number (drop (length first) front) ≡ before.own ++ more
    pub after_is : after
        ≡ record before {
          draws = after.draws;
          seen = front;
          own = before.own ++ more;
          keeps = after.keeps;
        }
    pub draws : (before.draws < 2 ^ 40) × (after.draws ≡ before.draws + 1)

  -- Own is unchanged, and seen may have grown to a list that is not too long. At most one turn was
  -- drawn, and may have been kept
  pub record Refuses (before after : Holder M) : Type 0 where
    pub seen : IsPrefix before.seen after.seen
    pub long : (after.seen ≡ before.seen) ⊎ (length after.seen ≤ MAX_STEPS)
    pub after_is : after
        ≡ record before { draws = after.draws; seen = after.seen; keeps = after.keeps }
    pub draws : (before.draws ≤ after.draws) × (after.draws ≤ before.draws + 1)
