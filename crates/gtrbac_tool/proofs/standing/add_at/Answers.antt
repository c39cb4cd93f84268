use Rattle.std.proofs.Common.{◌≡◌, ◌++◌, ◌∙◌, ap}
use Rattle.gtrbac_model.specs.Conflict.{seen}
use Rattle.gt_base.specs.Sets.{has}
use Rattle.gtrbac_tool.proofs.ListingTrace.{on_ok}
use Rattle.gtrbac_tool.specs.Standing.{standing_line}
use Rattle.gtrbac_tool.proofs.standing.add_at.Goals as goal

pub returns : goal.returns
returns c =
    let p = c.args.policy.now.policy in
    let set = c.args.closed.now.set in
    let rules_are : c.as_slice-rules.result.now ≡ p.triggers = c.as_slice-rules.ensures ∙ c.triggers.ensures in
    let x_is : c.in_ok-x.x ≡ set = c.in_ok-x.ensures ∙ c.set_of.ensures in
    let seen_is : c.seen-seen.result ≡ seen set c.args.subject.now.event = c.seen-seen.ensures ∙ ap (λ y. seen y c.args.subject.now.event) c.set.ensures ∙ ap (λ y. seen y c.args.subject.now.event) x_is in
    on_ok c.add_standing.result
    (λ e. e ∙ (λ i. c.args.text.now.items ++ standing_line (rules_are i) (c.base_of-base.ensures i) (has c.args.before.now.set) (x_is i) c.args.subject.now.named c.args.subject.now.event (seen_is i)))
    c.add_standing.ensures
