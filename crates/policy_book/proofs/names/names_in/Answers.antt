use Rattle.std.proofs.Common.{◌≡◌, ◌+◌, List, ◌∷◌, drop, ap, sym, ◌∙◌}
use Rattle.std.proofs.lemmas.List.{drop_all, drop_more}
use Rattle.policy_words.specs.Sayings.{SaidView}
use Rattle.policy_words.specs.Reading.{Numbered}
use Rattle.policy_words.specs.Making.{naming, names_in}
use Rattle.policy_words.specs.LinesTogether.{said_in}
use Rattle.policy_book.specs.Seen.{seen_names}
use Rattle.policy_book.proofs.names.names_in.Goals as goal

pub loop-part-preserved : goal.loop-part-preserved
loop-part-preserved c =
    let i = c.loop-part.part-index in
    let parts : List (Numbered SaidView) = c.args.parts.now in
    let old = seen_names c.loop-part.names in
    let left : drop i parts ≡ c.part-item.result ∷ drop (i + 1) parts = drop_more parts i c.part-item.result c.loop-part-test.true ∙ ap (λ y. y ∷ drop (i + 1) parts) (sym c.part-item.is) in
    ap (λ ns. names_in ns (said_in (drop (i + 1) parts))) (c.in_ok-declare.ensures ∙ ap (λ s. naming old s.it) c.part.view_is)
    ∙ ap (λ ss. names_in old (said_in ss)) (sym left) ∙ c.loop-part.invariant

pub returns : goal.returns
returns c = ap (λ ss. names_in (seen_names c.loop-part.names) (said_in ss)) (sym (drop_all c.loop-part.part-index c.args.parts.now c.loop-part-test.false)) ∙ c.loop-part.invariant
