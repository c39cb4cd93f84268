use Rattle.std.proofs.Common.{◌∙◌, ap, bit_and, w64}
use Rattle.std.specs.Int.{bit_not}
use Rattle.gt_base.specs.Words.{WordStandsAt, word_place}
use Rattle.gt_base.proofs.WordLaws.{words_there, turned_off, absent_stays}
use Rattle.gt_base.proofs.words.turn_off.Goals as goal

pub returns-in-Ok-clause-words : goal.returns-in-Ok-clause-words
returns-in-Ok-clause-words c =
    let at : WordStandsAt (word_place c.args.f) c.args.words.now.items c.in-Ok.i = rw (c.deref.ensures.value, c.place_of.ensures.place) at c.in-Ok.ensures.found in
    words_there c.args.f c.args.words.now.items c.requires c.in-Ok.i at _ (ap (λ w. w.place) c.index_mut.ensures.value ∙ at.is _)

pub returns-in-Ok-clause-set : goal.returns-in-Ok-clause-set
returns-in-Ok-clause-set c =
    let at : WordStandsAt (word_place c.args.f) c.args.words.now.items c.in-Ok.i = rw (c.deref.ensures.value, c.place_of.ensures.place) at c.in-Ok.ensures.found in
    turned_off c.args.f c.args.words.now.items c.requires c.in-Ok.i at c.index_mut.result.now _ (ap (λ w. w.place) c.index_mut.ensures.value ∙ at.is _)
    (λ i. bit_and (c.index_mut.ensures.value i).bits (bit_not w64 (c.bit_of.ensures i)))

pub returns-in_default-clause-set : goal.returns-in_default-clause-set
returns-in_default-clause-set c =
    absent_stays c.args.f c.args.words.now.items c.requires c.in_default.field-0 (rw (c.deref.ensures.value, c.place_of.ensures.place) at c.in_default.ensures.absent)
