-- Pairs in no order beside a set of others.
use Rattle.std.specs.Prelude.{◌≡◌, ◌<◌, ◌+◌, ℕ, true, ◌&&◌, not, min, List, [], ◌∷◌, Option, Some, None, if◌then◌else◌}
use Rattle.gt_base.specs.Sets.{has, with_member}
use Rattle.delay_agenda.specs.declared.pairs.Pending.{Pending}
use Rattle.delay_agenda.specs.Due.{is_due_at, Pendings}
use Rattle.delay_agenda.specs.Rows.{stands_in}

-- the set with the pairs of a list
unfoldable pub all_over : Pendings → List Pending → Pendings
all_over s [] = s
all_over s (p ∷ ps) = with_member (all_over s ps) p

-- each is due behind the minute
abbrev pub AreBehind : ℕ → List Pending → Type 0
AreBehind minute ps = (q : Pending) → stands_in ps q ≡ true → minute < q.due

-- how many more the set has with them
abbrev pub more_in : Pendings → List Pending → ℕ
more_in s [] = 0
more_in s (p ∷ ps) = (if not (has (all_over s ps) p) then 1 else 0) + more_in s ps

-- and how many more that are due at the instant
abbrev pub more_due_in : Pendings → List Pending → ℕ → ℕ
more_due_in s [] t = 0
more_due_in s (p ∷ ps) t = (if is_due_at t p && not (has (all_over s ps) p) then 1 else 0)
    + more_due_in s ps t

-- the sooner of the two
abbrev pub soonest : Option ℕ → ℕ → ℕ
soonest None t = t
soonest (Some u) t = min u t

-- the soonest at which one of them is due, or this one
abbrev pub soonest_over : Option ℕ → List Pending → Option ℕ
soonest_over next [] = next
soonest_over next (p ∷ ps) = soonest_over (Some (soonest next p.due)) ps
