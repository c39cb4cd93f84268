use Rattle.std.proofs.Common.{List, refl, ap, ◌∙◌}
use Rattle.gt_base.specs.Held.{TriggerView}
use Rattle.gt_base.specs.declared.events.UserId.{UserId}
use Rattle.gt_base.specs.declared.events.Fluent.{Fluent}
use Rattle.gt_base.specs.declared.policies.PeriodicEntry.{PeriodicEntry}
use Rattle.gt_base.specs.declared.policies.LimitRule.{LimitRule}
use Rattle.gt_base.specs.declared.policies.HierEdge.{HierEdge}
use Rattle.gtrbac_model.specs.Same.{same_user, same_fluent}
use Rattle.policy_words.specs.Making.{with_item, with_new}
use Rattle.policy_book.proofs.Drafting.{same_draft}
use Rattle.policy_book.proofs.drafts.Draft.add_numbers.Goals as goal

pub returns : goal.returns
returns c =
    let old = c.args.self.now in
    same_draft refl
    (◌∙◌ {A = List LimitRule} c.in_ok-add_item.ensures (ap (λ o. with_item o old.limits.items) c.limit_in.ensures))
    (◌∙◌ {A = List HierEdge} c.in_ok-add_item-2.ensures (ap (λ o. with_item o old.edges.items) c.edge_in.ensures))
    c.cap.ensures
    (◌∙◌ {A = List UserId} c.in_ok-add_user.ensures (ap (λ o. with_new same_user o old.admins.keys) c.admin_in.ensures))
    (◌∙◌ {A = List Fluent} c.in_ok-add_fluent.ensures (ap (λ o. with_new same_fluent o old.on_at_first.keys) c.opening_in.ensures))
    (◌∙◌ {A = List PeriodicEntry} c.in_ok-add_item-3.ensures (ap (λ o. with_item o old.entries.items) c.entry_in.ensures))
    (◌∙◌ {A = List TriggerView} c.in_ok-add_item-4.ensures (ap (λ o. with_item o old.triggers.items) c.in_ok-trigger.ensures))
