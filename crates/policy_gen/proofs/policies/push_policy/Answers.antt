use Rattle.std.proofs.Common.{◌-◌, codes}
use Rattle.policy_gen.specs.Texts.{name_lines, edge_lines, holding_lines, all_for_each, chain}
use Rattle.policy_gen.proofs.Growing.{on_ok, four_parts}
use Rattle.policy_gen.proofs.policies.push_policy.Goals as goal

pub returns : goal.returns
returns c =
    on_ok c.push_chains.result c.push_chains.ensures
    (λ last.
    four_parts (codes "policy 1") (codes "period hours * * all.Days + {9}.Hours > 8.Hours") (codes "admin u1") (codes "span hours 50:enable r1")
    (name_lines c.args.k) (edge_lines (c.args.k - 1)) (holding_lines c.args.k) (all_for_each chain (c.args.k - 1)) c.args.text.now.items
    _ _ _ _ _ _ _ _ c.in_ok-extend_from_slice.ensures.items c.in_ok-push_names.ensures c.in_ok-extend_from_slice-2.ensures.items c.in_ok-push_edges.ensures c.in_ok-extend_from_slice-3.ensures.items c.in_ok-push_holding.ensures
    c.in_ok-extend_from_slice-4.ensures.items last)
