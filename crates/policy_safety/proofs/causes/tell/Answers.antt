use Rattle.std.proofs.Common.{◌≤◌, length, subst, ap, ◌∙◌}
use Rattle.least_walk.specs.Net.{Net}
use Rattle.policy_safety.proofs.Causing.{told_still, none_told}
use Rattle.policy_safety.proofs.causes.tell.Goals as goal

pub returns-else-n-len : goal.returns-else-n-len
returns-else-n-len c =
    let past : length c.args.g.now.net.edges ≤ c.args.n = subst (λ k. k ≤ c.args.n) (c.len.ensures ∙ ap (λ (g : Net). length g.edges) c.graph.ensures) c.if-n-len.false in
    λ rs of later. told_still rs c.args.edges.now.items c.args.n later (none_told c.args.g.now rs of c.args.n past)
