use Rattle.std.proofs.Common.{◌+◌, ◌++◌, List, map, drop, append-nil, sym, ap, ◌∙◌}
use Rattle.std.proofs.lemmas.List.{drop_all, drop_more}
use Rattle.policy_safety.specs.Cycles.{seen_edge, dependencies_at}
use Rattle.policy_safety.specs.declared.admitting.CycleEdge.{CycleEdge}
use Rattle.policy_safety.proofs.causes.told.Goals as goal

pub loop-n-init : goal.loop-n-init
loop-n-init c = record { edges = λ rs of. ap (λ (es : List CycleEdge). map seen_edge es ++ dependencies_at rs c.args.numbers.now) c.new-edges.ensures.items }

pub loop-n-preserved : goal.loop-n-preserved
loop-n-preserved c =
    let i = c.loop-n.n-index in
    let old = c.loop-n.edges.items in
    record {
      edges = λ rs of. c.in_ok-tell.ensures rs of (drop (i + 1) c.args.numbers.now)
          ∙ ap (λ ns. map seen_edge old ++ dependencies_at rs ns) (sym (drop_more c.args.numbers.now i 0 c.loop-n-test.true)) ∙ c.loop-n.invariant.edges rs of;
    }

pub returns : goal.returns
returns c =
    λ rs of. ap (λ (es : List CycleEdge). map seen_edge es) c.from.ensures ∙ sym (append-nil _)
    ∙ ap (λ ns. map seen_edge c.loop-n.edges.items ++ dependencies_at rs ns) (sym (drop_all c.loop-n.n-index c.args.numbers.now c.loop-n-test.false)) ∙ c.loop-n.invariant.edges rs of
