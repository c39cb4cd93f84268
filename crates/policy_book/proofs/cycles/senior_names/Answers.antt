use Rattle.std.proofs.Common.{◌≡◌, ℕ, zero, suc, ◌<◌, List, [], ◌∷◌, length, get_or, map, Some, refl, ap, ◌∙◌, arith}
use Rattle.std.proofs.lemmas.List.{take_all}
use Rattle.gt_base.specs.declared.policies.HierEdge.{HierEdge}
use Rattle.gtrbac_model.specs.Graph.{item_at}
use Rattle.policy_words.specs.Naming.{role_name}
use Rattle.policy_book.specs.Seen.{seen_names}
use Rattle.policy_book.proofs.Stepping.{mapped_more}
use Rattle.policy_book.proofs.cycles.senior_names.Goals as goal

pub loop-edge-preserved : goal.loop-edge-preserved
loop-edge-preserved c =
    mapped_more (λ e. role_name (seen_names c.args.names.now) e.senior) c.args.edges.now c.loop-edge.edge-index _ _ c.loop-edge.found.items c.push.new.self.items c.loop-edge-test.true
    c.senior.ensures c.loop-edge.invariant c.in_ok-push.ensures.items

item_there : {A : Type 0} (xs : List A) (i : ℕ) (d : A) → i < length xs → item_at xs i ≡ Some (get_or xs i d)
item_there [] i d h = absurd (omega arith)
item_there (x ∷ xs) zero d h = refl
item_there (x ∷ xs) (suc i) d h = item_there xs i d (omega arith)

pub senior-requires : goal.senior-requires
senior-requires c = (c.requires c.loop-edge.edge-index _ (item_there c.args.edges.now c.loop-edge.edge-index _ c.loop-edge-test.true)).senior_in

pub returns : goal.returns
returns c =
    c.loop-edge.invariant ∙ ap (map (λ (e : HierEdge). role_name (seen_names c.args.names.now) e.senior)) (take_all c.loop-edge.edge-index c.args.edges.now c.loop-edge-test.false)
