use Rattle.std.proofs.Common.{◌≤◌, ap, sym, ◌∙◌, subst, arith}
use Rattle.gt_base.specs.Sets.{has}
use Rattle.gt_base.proofs.SetLaws.{has-none}
use Rattle.delay_agenda.specs.Due.{Pendings, pending_cmp}
use Rattle.time_engine.specs.Traces.{Ascends, AreClosedBy, AreSome}
use Rattle.time_engine.proofs.Bases.{since_view}
use Rattle.time_engine.proofs.Booleans.{clash}
use Rattle.time_engine.proofs.timelines.Timeline.new.Goals as goal

pub returns-clause-ages : goal.returns-clause-ages
returns-clause-ages c = λ f. ap (λ since. since f) (since_view c.new.result) ∙ c.new.ensures.since f

pub invariant_of-result : goal.invariant_of-result
invariant_of-result c = (
  record {
    born = omega (arith, c.new.ensures.birth);
    ages = λ f. subst (λ n. n ≤ c.args.birth) (sym (returns-clause-ages c f)) (omega arith);
    pending = λ q there. absurd (clash (has c.new-3.result.set q) there (ap (λ (s : Pendings). has s q) c.new-3.ensures.set ∙ has-none pending_cmp q));
    ascends = subst (Ascends c.new.result.birth) (sym c.new-2.ensures) tt;
    ends = subst (AreClosedBy c.args.birth) (sym c.new-2.ensures) tt;
    some = subst AreSome (sym c.new-2.ensures) tt;
  },
  c.new-5.ensures,
)
