-- Events that are due at later instants: the order of their pairs, and what is due when.
use Rattle.std.specs.Prelude.{◌≡◌, ◌≤◌, ℕ, Bool, true, length, ◌==◌}
use Rattle.std.specs.Coded.{Coded}
use Rattle.std.specs.Ordering.{nat_cmp, ordering_then}
use Rattle.std.specs.declared.cmp.Ordering.{Ordering}
use Rattle.gt_base.specs.declared.events.Prioritised.{Prioritised}
use Rattle.gt_base.specs.Orders.{prioritised_cmp}
use Rattle.gt_base.specs.Sets.{SetOf, set_code, has, those, members}
use Rattle.delay_agenda.specs.declared.pairs.Pending.{Pending}
use Rattle.delay_agenda.specs.contracts.pairs.Pending as pending

-- by due, the latest first, and then by the event, so that what is due next stands last
abbrev pub pending_cmp : Pending → Pending → Ordering
pending_cmp a b = ordering_then (nat_cmp b.due a.due) (prioritised_cmp a.event b.event)

-- the pairs of an agenda
abbrev pub Pendings : Type 0
Pendings = SetOf pending_cmp

abbrev pub pendings_code : Coded Pendings
pendings_code = set_code pending.the_row.coded

-- the event, due at the instant
abbrev pub pending_at : ℕ → Prioritised → Pending
pending_at t e = record { due = t; event = e }

abbrev pub is_due_at : ℕ → Pending → Bool
is_due_at t p = p.due == t

-- how many of the pairs are due at the instant
abbrev pub count_due : Pendings → ℕ → ℕ
count_due s t = length (members (those s (is_due_at t)))

-- some pair is due at the instant, and none is due before it
pub record IsLeastDue (s : Pendings) (t : ℕ) : Type 0 where
  pub event : Prioritised
  pub is_due : has s (pending_at t event) ≡ true
  pub least : (p : Pending) → has s p ≡ true → t ≤ p.due
