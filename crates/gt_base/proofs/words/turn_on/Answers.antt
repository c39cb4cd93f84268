use Rattle.std.proofs.Common.{◌∙◌, ap, subst, bit_or, ◌<◌, ◌^◌}
use Rattle.gt_base.specs.declared.words.WordPlace.{WordPlace}
use Rattle.gt_base.specs.Words.{WordStandsAt, GoesAt, word_place}
use Rattle.gt_base.proofs.WordLaws.{words_there, turned_on, words_further, further_on}
use Rattle.gt_base.proofs.words.turn_on.Goals as goal

pub returns-in-Ok-clause-words : goal.returns-in-Ok-clause-words
returns-in-Ok-clause-words c =
    let at : WordStandsAt (word_place c.args.f) c.args.words.now.items c.in-Ok.i = rw (c.deref.ensures.value, c.place_of-place.ensures.place) at c.in-Ok.ensures.found in
    words_there c.args.f c.args.words.now.items c.requires.words c.in-Ok.i at _ (ap (λ w. w.place) c.index_mut.ensures.value ∙ at.is _)

pub returns-in-Ok-clause-set : goal.returns-in-Ok-clause-set
returns-in-Ok-clause-set c =
    let at : WordStandsAt (word_place c.args.f) c.args.words.now.items c.in-Ok.i = rw (c.deref.ensures.value, c.place_of-place.ensures.place) at c.in-Ok.ensures.found in
    turned_on c.args.f c.args.words.now.items c.requires.words c.in-Ok.i at c.index_mut.result.now _ (ap (λ w. w.place) c.index_mut.ensures.value ∙ at.is _)
    (λ i. bit_or (c.index_mut.ensures.value i).bits (c.bit_of-bits.ensures i))

pub returns-in-Ok-insert-clause-words : goal.returns-in-Ok-insert-clause-words
returns-in-Ok-insert-clause-words c =
    let at : GoesAt (word_place c.args.f) c.args.words.now.items c.in-Err.i = rw (c.deref.ensures.value, c.place_of-place.ensures.place) at c.in-Err.ensures.absent in
    rw (c.in-Ok-insert.ensures.items) (words_further c.args.f c.args.words.now.items c.requires.words c.in-Err.i _ c.place_of-place.ensures.place
    (subst (λ (p : WordPlace). p.below < 2 ^ 26) c.place_of-place.ensures.place c.place_of-place.ensures.within) at)

pub returns-in-Ok-insert-clause-set : goal.returns-in-Ok-insert-clause-set
returns-in-Ok-insert-clause-set c =
    let at : GoesAt (word_place c.args.f) c.args.words.now.items c.in-Err.i = rw (c.deref.ensures.value, c.place_of-place.ensures.place) at c.in-Err.ensures.absent in
    rw (c.in-Ok-insert.ensures.items) (further_on c.args.f c.args.words.now.items c.requires.words c.in-Err.i _ c.place_of-place.ensures.place c.bit_of-bits.ensures)
