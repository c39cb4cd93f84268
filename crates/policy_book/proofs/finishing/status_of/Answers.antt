use Rattle.std.proofs.Common.{◌≡◌, ◌+◌, ◌-◌, sym, ap, ◌∙◌, drop_of_length-le, arith}
use Rattle.gt_base.specs.Sets.{none}
use Rattle.policy_words.specs.Making.{edges_from}
use Rattle.policy_book.proofs.Openings.{with_all, all_are_set, edges_step}
use Rattle.policy_book.proofs.finishing.status_of.Goals as goal

pub loop-edge-init : goal.loop-edge-init
loop-edge-init c =
    let whole : c.loop-fluent.status.set ≡ with_all none c.args.fluents.now =
    ap (with_all c.loop-fluent.status.set) (sym (drop_of_length-le c.args.fluents.now c.loop-fluent-test.false)) ∙ c.loop-fluent.invariant.on in
    let all : c.args.linked - 0 ≡ c.args.linked = omega arith in
    record {
      on = ap (λ k. with_all c.loop-fluent.status.set (edges_from 0 k)) all ∙ ap (λ s. with_all s (edges_from 0 c.args.linked)) whole;
      room = omega arith;
    }

pub loop-edge-preserved : goal.loop-edge-preserved
loop-edge-preserved c =
    let n = c.loop-edge.edge in
    record {
      on =
          ap (λ s. with_all s (edges_from (n + 1) (c.args.linked - (n + 1)))) c.set-in-loop-edge.ensures.set
          ∙ ap (with_all c.loop-edge.status.set) (sym (edges_step n c.args.linked c.loop-edge-test.true))
          ∙ c.loop-edge.invariant.on;
      room = omega (arith, c.set-in-loop-edge.ensures.spare);
    }

pub returns : goal.returns
returns c =
    let none : c.args.linked - c.loop-edge.edge ≡ 0 = omega arith in
    ap (λ k. with_all c.loop-edge.status.set (edges_from c.loop-edge.edge k)) (sym none)
    ∙ c.loop-edge.invariant.on ∙ all_are_set c.args.fluents.now (edges_from 0 c.args.linked)
