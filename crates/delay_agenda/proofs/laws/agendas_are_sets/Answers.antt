use Rattle.std.proofs.Common.{◌≡◌, ℕ, ◌&&◌, not, ap, sym, ◌∙◌}
use Rattle.std.specs.Ordering.{eq_by_cmp}
use Rattle.gt_base.specs.Sets.{has, those}
use Rattle.gt_base.proofs.SetLaws.{same_sets, has-none, has-with_member, has-those}
use Rattle.delay_agenda.specs.Due.{pending_cmp, is_due_at, Pendings}
use Rattle.delay_agenda.specs.declared.pairs.Pending.{Pending}
use Rattle.delay_agenda.proofs.DueLaws.{one_least, later_stay}
use Rattle.delay_agenda.proofs.PendingLaws.{pending_cmp_total, pending_cmp-IsAntisymmetric}
use Rattle.delay_agenda.proofs.laws.agendas_are_sets.Goals as goal

pub returns-clause-sets : goal.returns-clause-sets
returns-clause-sets c = record {
  same = same_sets pending_cmp_total pending_cmp-IsAntisymmetric;
  empty = has-none pending_cmp;
  added = has-with_member pending_cmp_total;
  taken_out = λ s k x. has-those pending_cmp_total s (λ y. not (eq_by_cmp pending_cmp k y)) x (λ y e. ap (λ z. not (eq_by_cmp pending_cmp k z)) (sym (pending_cmp-IsAntisymmetric x y e)));
}

-- who is not due at an instant stays
others_stay : (s : Pendings) (t : ℕ) (p : Pending) → has (those s (λ q. not (is_due_at t q))) p ≡ (has s p && not (is_due_at t p))
others_stay s t p = has-those pending_cmp_total s (λ q. not (is_due_at t q)) p (λ q e. ap (λ r. not (is_due_at t r)) (sym (pending_cmp-IsAntisymmetric p q e)))

pub returns-clause-kept : goal.returns-clause-kept
returns-clause-kept c = others_stay

pub returns-clause-later : goal.returns-clause-later
returns-clause-later c = λ s t p least there. later_stay s t p least (sym (others_stay s t p) ∙ there)

pub returns-clause-one_least : goal.returns-clause-one_least
returns-clause-one_least c = one_least
