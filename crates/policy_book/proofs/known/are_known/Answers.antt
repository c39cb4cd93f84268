use Rattle.std.proofs.Common.{ap, sym, ◌∙◌}
use Rattle.std.specs.List.{list_all}
use Rattle.std.proofs.lemmas.List.{drop_all}
use Rattle.policy_words.specs.LinesTogether.{is_known_item}
use Rattle.policy_book.specs.Seen.{seen_names}
use Rattle.policy_book.proofs.known.are_known.Goals as goal

pub returns : goal.returns
returns c =
    ap (list_all (is_known_item (seen_names c.args.names.now))) (sym (drop_all c.loop-item.item-index c.args.items.now c.loop-item-test.false)) ∙ c.loop-item.invariant
