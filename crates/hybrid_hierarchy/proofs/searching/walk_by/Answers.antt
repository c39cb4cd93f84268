use Rattle.std.proofs.Common.{ℕ, ◌<◌, [], ◌∷◌, ◌++◌, List, slice_index_or, refl, sym, ◌∙◌, ap, arith, append_assoc}
use Rattle.std.specs.Prelude.{reverse}
use Rattle.std.proofs.lemmas.List.{reverse-append}
use Rattle.least_walk.proofs.Items.{item_read}
use Rattle.hybrid_hierarchy.specs.declared.searching.FoundRole.{FoundRole}
use Rattle.hybrid_hierarchy.proofs.Tracing.{IsBack, back_step, back_start}
use Rattle.hybrid_hierarchy.proofs.searching.walk_by.Goals as goal

abbrev found_at : List FoundRole → ℕ → FoundRole
found_at queue i = slice_index_or queue i (record { role = 0; by = 0; before = 0 })

pub loop-i-init : goal.loop-i-init
loop-i-init c = record {
  inside = c.requires.inside;
  back = λ ws s w at. (s, at, refl, ap (λ xs. s.arcs ++ xs) (sym (ap reverse (c.in_ok-push.ensures.items ∙ ap (λ xs. xs ++ c.args.last ∷ []) c.in_ok-numbers.ensures.items))));
}

pub loop-i-preserved : goal.loop-i-preserved
loop-i-preserved c =
    let queue : List FoundRole = c.args.queue.now in
    let i : ℕ = c.loop-i.i in
    let f : FoundRole = found_at queue i in
    let isf = item_read queue i (record { role = 0; by = 0; before = 0 }) c.loop-i.invariant.inside in
    let (us, tells) = c.requires.tells in
    let (u, isu, told) = tells.told i f isf in
    let first = back_step queue us i f u tells isf isu c.loop-i-test.true in
    record {
      inside = through _ _ _ first.low c.loop-i.invariant.inside;
      back = λ ws s w at.
          let (t, ist, start, arcs) = c.loop-i.invariant.back ws s w at in
          let back : IsBack ws i f t = back_step queue ws i f t w isf ist c.loop-i-test.true in (
            back.last,
            back.is,
            start ∙ back.start,
            arcs ∙ ap (λ xs. xs ++ reverse c.loop-i.numbers.items) back.arcs ∙ append_assoc back.last.arcs (f.by ∷ []) (reverse c.loop-i.numbers.items)
                ∙ ap (λ xs. back.last.arcs ++ xs) (sym (ap reverse c.in_ok-push-2.ensures.items ∙ reverse-append c.loop-i.numbers.items (f.by ∷ []))),
          );
    }
  where
    through : (a b d : ℕ) → a < b → b < d → a < d
    through a b d p q = omega (arith, p, q)

pub returns : goal.returns
returns c = λ ws s w at.
    let queue : List FoundRole = c.args.queue.now in
    let i : ℕ = c.loop-i.i in
    let f : FoundRole = found_at queue i in
    let isf = item_read queue i (record { role = 0; by = 0; before = 0 }) c.loop-i.invariant.inside in
    let (t, ist, start, arcs) = c.loop-i.invariant.back ws s w at in
    let begin = back_start queue ws i f t w isf ist c.loop-i-test.false in (
      sym (start ∙ begin.0),
      c.from.ensures ∙ c.reverse.ensures.items ∙ sym (arcs ∙ ap (λ xs. xs ++ reverse c.loop-i.numbers.items) begin.1),
    )
