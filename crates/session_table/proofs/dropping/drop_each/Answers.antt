use Rattle.std.proofs.Common.{◌≡◌, ℕ, ◌+◌, ◌<◌, Bool, List, [], ◌∷◌, ◌++◌, cond, filter, take, length, get_or, sym, ap, ◌∙◌}
use Rattle.std.proofs.lemmas.List.Elements.{filter_more}
use Rattle.std.proofs.lemmas.List.{take_all}
use Rattle.gtrbac_model.specs.Sessions.{Activation}
use Rattle.session_table.specs.Closings.{drops_at}
use Rattle.session_table.proofs.dropping.drop_each.Goals as goal

one_more : (test : Activation → Bool) (xs : List Activation) (i : ℕ) (x : Activation) (old new : List Activation) → new ≡ old ++ cond (test x) (x ∷ []) [] → old ≡ filter test (take i xs)
    → x ≡ get_or xs i x → i < length xs → new ≡ filter test (take (i + 1) xs)
one_more test xs i x old new added so_far is inside =
    added
    ∙ ap (λ ys. ys ++ cond (test x) (x ∷ []) []) so_far
    ∙ ap (λ (a : Activation). filter test (take i xs) ++ cond (test a) (a ∷ []) []) is
    ∙ sym (filter_more test xs i x inside)

pub loop-a-preserved : goal.loop-a-preserved
loop-a-preserved c = record {
  gone = one_more (drops_at c.args.at.now) c.as_slice-active.result.now c.loop-a.a-index c.a-item.result
      _ _ c.in_ok-before.ensures.gone c.loop-a.invariant.gone c.a-item.is c.loop-a-test.true;
  known = c.in_ok-before.ensures.known;
  on = c.in_ok-before.ensures.on;
}

pub returns : goal.returns
returns c =
    c.loop-a.invariant.gone
    ∙ ap (filter (drops_at c.args.at.now)) (take_all c.loop-a.a-index c.as_slice-active.result.now c.loop-a-test.false ∙ c.as_slice-active.ensures)
