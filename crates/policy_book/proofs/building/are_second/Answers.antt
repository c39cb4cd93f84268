use Rattle.std.proofs.Common.{ap, sym, ◌∙◌}
use Rattle.std.proofs.lemmas.List.{drop_all}
use Rattle.policy_words.specs.Making.{are_second}
use Rattle.policy_words.specs.LinesTogether.{said_in}
use Rattle.policy_book.proofs.building.are_second.Goals as goal

pub returns : goal.returns
returns c = ap (λ ps. are_second (said_in ps)) (sym (drop_all c.loop-part.part-index c.args.parts.now c.loop-part-test.false)) ∙ c.loop-part.invariant
