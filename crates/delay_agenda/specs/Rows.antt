-- Lists of pairs, and the set of those in a tree and in a row beside it.
use Rattle.std.specs.Prelude.{◌++◌, ◌&&◌, ℕ, Bool, false, not, List}
use Rattle.std.specs.List.{filter, list_any}
use Rattle.std.specs.Ordering.{eq_by_cmp}
use Rattle.gt_base.specs.declared.events.Prioritised.{Prioritised}
use Rattle.gt_base.specs.declared.events.Fluent.TheVariants.{Enabled}
use Rattle.gt_base.specs.Orders.{prioritised_cmp}
use Rattle.gt_base.specs.Sets.{set_of, Rises}
use Rattle.delay_agenda.specs.declared.pairs.Pending.{Pending}
use Rattle.delay_agenda.specs.Due.{pending_cmp, is_due_at, Pendings}

-- whether the pair is one of the list
abbrev pub stands_in : List Pending → Pending → Bool
stands_in ks q = list_any (eq_by_cmp pending_cmp q) ks

-- those that are due at the instant
abbrev pub due_in : List Pending → ℕ → List Pending
due_in ks t = filter (is_due_at t) ks

-- the others
abbrev pub others_in : List Pending → ℕ → List Pending
others_in ks t = filter (λ p. not (is_due_at t p)) ks

-- whether the event is that of one of the pairs
abbrev pub lists_event : List Pending → Prioritised → Bool
lists_event ks e = list_any (λ p. eq_by_cmp prioritised_cmp e p.event) ks

-- no event stands before it
abbrev pub first_event : Prioritised
first_event = record {
  prio = 0;
  event = record { on = false; fluent = Enabled (record { 0 = 0 }) };
}

-- the pairs of both
unfoldable pub pairs_of : List Pending → List Pending → Pendings
pairs_of tree row = set_of (row ++ tree)

-- those of the row that the tree lacks
abbrev pub new_in : List Pending → List Pending → List Pending
new_in tree row = filter (λ p. not (stands_in tree p)) row

-- and those of them that are due at the instant
abbrev pub new_due_in : List Pending → List Pending → ℕ → List Pending
new_due_in tree row t = filter (λ p. is_due_at t p && not (stands_in tree p)) row

-- each of them rises
pub record BothRise (tree row : List Pending) : Type 0 where
  pub tree_rises : Rises pending_cmp tree
  pub row_rises : Rises pending_cmp row
