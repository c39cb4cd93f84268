use Rattle.std.proofs.Common.{sym, ◌∙◌, arith}
use Rattle.gt_text.proofs.Cut.{words_upto}
use Rattle.gt_text.proofs.words.first_word.Goals as goal

pub returns-then-not-is_blank : goal.returns-then-not-is_blank
returns-then-not-is_blank c =
    let cut = c.word_len.ensures in
    rw (c.split_at.ensures.front, c.split_at.ensures.back)
    (sym c.loop-text.invariant ∙ words_upto c.loop-text.text.now c.word_len.result (omega arith) (sym c.if-not-is_blank.ensures) cut.within cut.word cut.end)
