use Rattle.std.proofs.Common.{◌≡◌, List, sym, ◌∙◌, ap, subst}
use Rattle.gt_base.specs.Held.{TriggerView}
use Rattle.gt_base.specs.Happening.{HappenedView}
use Rattle.gt_base.specs.Sets.{has}
use Rattle.gtrbac_model.specs.Instant.{Settled}
use Rattle.policy_words.specs.Naming.{NamedPolicy}
use Rattle.time_engine.specs.Plans.{joins}
use Rattle.time_engine.proofs.closing.planned_by.Goals as goal

pub returns-clause-plan : goal.returns-clause-plan
returns-clause-plan c =
    let rules : List TriggerView = c.args.g.now.policy.triggers in
    let before = has c.args.s.now.status.set in
    let set : c.in_ok-set.set.set ≡ c.args.x.now = c.in_ok-set.ensures ∙ c.set.ensures in
    let triggers : c.as_slice-triggers.result.now ≡ rules = c.as_slice-triggers.ensures ∙ c.triggers.ensures ∙ ap (λ (k : NamedPolicy). k.policy.triggers) c.policy.ensures in
    record {
      base = c.requires.base;
      settled = subst (λ (x : HappenedView). Settled rules c.args.base.set before x) (sym set) c.requires.settled;
      only = λ y is. c.requires.only y is ∙ sym set;
      status = c.in_ok-status.ensures;
      joining = c.from.ensures ∙ c.in_ok-joining.ensures ∙ (λ i. joins (triggers i) before c.args.x.now c.args.to) ∙ ap (λ (x : HappenedView). joins rules before x c.args.to) (sym set);
    }
