use Rattle.std.proofs.Common.{◌≡◌, ◌++◌, [], ◌∷◌, ◌∙◌, ap, sym, append_assoc, arith}
use Rattle.gt_base.proofs.WordLists.{lowest, lowest_with, lowest_without, lowest_all}
use Rattle.gt_base.proofs.words.add_fluents.Goals as goal
use Rattle.gt_base.proofs.words.add_fluents.Goals.{then-word-bit-eq1+in_ok-push, else-word-bit-eq1}

pub loop-bit-preserved : goal.loop-bit-preserved
loop-bit-preserved c =
    elim c.if-word-bit-eq1.branch [
      | then-word-bit-eq1+in_ok-push w ↦ ap (λ v. v.items) w.fluents-is ∙ w.in_ok-push.ensures.items
          ∙ (λ i. c.loop-bit.invariant i ++ w.fluent_in.ensures i ∷ []) ∙ append_assoc c.args.fluents.now.items (lowest c.args.word c.loop-bit.bit) _
          ∙ ap (λ fs. c.args.fluents.now.items ++ fs) (sym (lowest_with c.args.word c.loop-bit.bit w.if-word-bit-eq1.true))
      | else-word-bit-eq1 w ↦ ap (λ v. v.items) w.fluents-is ∙ c.loop-bit.invariant
          ∙ ap (λ fs. c.args.fluents.now.items ++ fs) (sym (lowest_without c.args.word c.loop-bit.bit w.if-word-bit-eq1.false))
    ]

pub returns : goal.returns
returns c =
    let done : c.loop-bit.bit ≡ 64 = omega (arith, c.loop-bit-test.false, c.loop-bit.auto.bit-end) in
    c.loop-bit.invariant ∙ ap (λ n. c.args.fluents.now.items ++ lowest c.args.word n) done ∙ ap (λ fs. c.args.fluents.now.items ++ fs) (lowest_all c.args.word)
