use Rattle.std.proofs.Common.{◌≡◌, ℕ, ◌+◌, ◌<◌, ◌≤◌, inl, inr, length, slice_index_or, sym, ◌∙◌, ap, arith}
use Rattle.std.proofs.lemmas.Bool.{cases_lt}
use Rattle.gtrbac_model.specs.Graph.{item_at}
use Rattle.least_walk.proofs.Items.{item_read, item_within, one_item}
use Rattle.hybrid_hierarchy.proofs.Leading.{start_is_least}
use Rattle.hybrid_hierarchy.proofs.searching.first_goal.Goals as goal

pub returns-then-is_goal : goal.returns-then-is_goal
returns-then-is_goal g c =
    let i : ℕ = c.loop-role.role-index in
    start_is_least (g.Q.WalkQuestion.passes c.args.asked.now) (g.Q.WalkQuestion.goals c.args.asked.now) c.args.edges.now c.args.from.now i (slice_index_or c.args.from.now i 0)
    (item_read c.args.from.now i 0 c.loop-role-test.true) (sym c.is_goal.ensures ∙ c.if-is_goal.true) c.loop-role.invariant

pub loop-role-preserved : goal.loop-role-preserved
loop-role-preserved g c = λ j s low at. elim (cases_lt j c.loop-role.role-index) [
  | inl k ↦ c.loop-role.invariant j s k at
  | inr k ↦
      let i : ℕ = c.loop-role.role-index in
      let last : j ≡ i = as_last j i low k in
      let same : slice_index_or c.args.from.now i 0 ≡ s = one_item c.args.from.now i (slice_index_or c.args.from.now i 0) s (item_read c.args.from.now i 0 c.loop-role-test.true) (ap (item_at c.args.from.now) (sym last) ∙ at) in
      ap (λ v. g.Q.WalkQuestion.goals c.args.asked.now (record { 0 = v })) (sym same) ∙ sym c.is_goal.ensures ∙ c.if-is_goal.false
]
  where
    as_last : (j i : ℕ) → j < i + 1 → i ≤ j → j ≡ i
    as_last j i p q = omega (arith, p, q)

pub returns : goal.returns
returns g c = λ i s at. c.loop-role.invariant i s (whole i (item_within c.args.from.now i s at)) at
  where
    whole : (i : ℕ) → i < length c.args.from.now → i < c.loop-role.role-index
    whole i h = omega (arith, h, c.loop-role-test.false)
