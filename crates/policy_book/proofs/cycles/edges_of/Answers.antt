use Rattle.std.proofs.Common.{◌≡◌, ℕ, zero, suc, ◌<◌, List, [], ◌∷◌, length, get_or, ap, sym, refl, append-nil, ◌++◌, ◌∙◌, arith}
use Rattle.std.proofs.lemmas.List.{drop_all}
use Rattle.gtrbac_model.specs.Graph.{item_at}
use Rattle.policy_words.specs.LinesTogether.{edges_at}
use Rattle.policy_book.proofs.Stepping.{kept_more, passed_over}
use Rattle.policy_book.proofs.cycles.edges_of.Goals as goal
use Rattle.policy_book.proofs.cycles.edges_of.Goals.{in-Some+in_ok-push, in_default}

-- what stands for a missing item is not read within the list
within : (xs : List ℕ) (i d e : ℕ) → i < length xs → get_or xs i d ≡ get_or xs i e
within [] i d e h = absurd (omega arith)
within (x ∷ xs) zero d e h = refl
within (x ∷ xs) (suc i) d e h = within xs i d e (omega arith)

pub loop-number-preserved : goal.loop-number-preserved
loop-number-preserved c =
    let i = c.loop-number.number-index in
    let n : ℕ = get_or c.args.numbers.now i 0 in
    let is = within c.args.numbers.now i n 0 c.loop-number-test.true in
    let f = item_at c.args.edges.now in
    let old = c.loop-number.found.items in
    let new = c.match-edge_at.found.items in
    elim c.match-edge_at.branch [
      | in-Some+in_ok-push w ↦
          kept_more f c.args.numbers.now i n _ old new c.loop-number-test.true (sym is) w.in-Some.edge
          (sym c.edge_at.ensures ∙ w.in-Some.is) (ap (λ v. v.items) w.found-is ∙ w.in_ok-push.ensures.items) c.loop-number.invariant
      | in_default w ↦
          passed_over f c.args.numbers.now i n _ old new c.loop-number-test.true (sym is)
          (sym c.edge_at.ensures ∙ w.in_default.is) (ap (λ v. v.items) w.found-is) c.loop-number.invariant
    ]

pub returns : goal.returns
returns c =
    let old = c.loop-number.found.items in
    sym (append-nil old) ∙ ap (λ ns. old ++ edges_at c.args.edges.now ns) (sym (drop_all c.loop-number.number-index c.args.numbers.now c.loop-number-test.false)) ∙ c.loop-number.invariant
