use Rattle.std.proofs.Common.{rules}
use Rattle.std.proofs.lemmas.List.Sorted.{answers_always}
use Rattle.gt_base.proofs.WordLaws.{searched}
use Rattle.gt_base.proofs.words.find.Goals as goal

pub returns-clause-found : goal.returns-clause-found
returns-clause-found c =
    let facts = c.binary_search_by_key.ensures in
    (searched c.args.place c.args.words.now c.requires _ facts.bound (facts.position (λ w. w.place) (answers_always _ _ _ (λ f a r g called. search rules)))).0

pub returns-clause-absent : goal.returns-clause-absent
returns-clause-absent c =
    let facts = c.binary_search_by_key.ensures in
    (searched c.args.place c.args.words.now c.requires _ facts.bound (facts.position (λ w. w.place) (answers_always _ _ _ (λ f a r g called. search rules)))).1
