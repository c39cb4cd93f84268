use Rattle.std.proofs.Common.{◌≡◌, ◌++◌, codes, Some, None, option_map, refl, sym, ◌∙◌, ap}
use Rattle.gt_base.specs.Sets.{has}
use Rattle.gtrbac_tool.proofs.LastInstant.{tells_there, tells_nowhere}
use Rattle.gtrbac_tool.specs.Standing.{closed_at, made_before}
use Rattle.gtrbac_tool.proofs.standing.standing_text.Goals as goal

pub returns-in-Some : goal.returns-in-Some
returns-in-Some c =
    let b = c.args.book.now in
    let policy_is : c.policy-policy.result.now ≡ b.named = c.policy-policy.ensures ∙ c.ground.ensures.value in
    let trace_is : c.as_slice-trace.result.now ≡ b.trace = c.as_slice-trace.ensures ∙ c.trace.ensures.value in
    let there : closed_at b.trace c.now-now.result ≡ Some c.in-Some.closed.now =
    ap (λ l. closed_at l c.now-now.result) (sym trace_is) ∙ sym c.closed_at.ensures ∙ ap (option_map (λ x. x.now)) c.in-Some.is in
    let p = c.policy-policy.result.now.policy in
    let before = has c.in_ok-explained.explained.before.set in
    let before_is : before ≡ made_before c.now-now.result b.trace (has b.named.policy.opening) =
    (λ i f. c.in_ok-explained.ensures.before f i) ∙ ap (λ t. made_before t b.trace (has b.named.policy.opening)) (sym c.now-now.ensures) in
    tells_there b.named.policy b.birth b.entries b.trace c.keeps.ensures.kept.legal c.in_ok-explained.explained.cert c.in_ok-explained.ensures.cert c.args.named c.args.e c.now-now.result c.now-now.ensures c.in_ok-text.text.items c.add_at.new.text.items
    c.in_ok-text.ensures c.in-Some.closed.now p.triggers c.in-Some.closed.now.base c.in-Some.closed.now.set before c.trace.ensures.bases c.trace.ensures.ascends there
    (ap (λ q. q.policy.triggers) policy_is) refl before_is refl c.in_ok-add_at-in-Some.ensures

pub returns : goal.returns
returns c =
    let b = c.args.book.now in
    let trace_is : c.as_slice-trace.result.now ≡ b.trace = c.as_slice-trace.ensures ∙ c.trace.ensures.value in
    let nowhere : closed_at b.trace c.now-now.result ≡ None =
    ap (λ l. closed_at l c.now-now.result) (sym trace_is) ∙ sym c.closed_at.ensures ∙ ap (option_map (λ x. x.now)) c.in-None.is in
    let text_is : c.extend_from_slice.new.self.items ≡ c.in_ok-text.text.items ++ codes "absent\n" = c.in_ok-extend_from_slice-in-None.ensures.items in
    tells_nowhere b.named.policy b.birth b.entries b.trace c.keeps.ensures.kept.legal c.in_ok-explained.explained.cert c.in_ok-explained.ensures.cert c.args.named c.args.e c.now-now.result c.now-now.ensures c.in_ok-text.text.items c.extend_from_slice.new.self.items
    c.in_ok-text.ensures nowhere text_is
