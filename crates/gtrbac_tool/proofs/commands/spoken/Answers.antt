use Rattle.std.proofs.Common.{◌-◌, drop, length, map, sym, take, ◌∙◌, ap, arith}
use Rattle.std.specs.Prelude.{Some, string_bytes}
use Rattle.gt_text.specs.Words.{begins_with}
use Rattle.gtrbac_tool.specs.Commands.{asking, command_by, question_by}
use Rattle.gtrbac_tool.proofs.Spoken.{asking_words, few_words, two_words}
use Rattle.gtrbac_tool.proofs.commands.spoken.Goals as goal

pub bounds-words-0 : goal.bounds-words-0
bounds-words-0 c = omega arith

pub bounds-words-1 : goal.bounds-words-1
bounds-words-1 c = omega arith

pub slice_bounds-more-count : goal.slice_bounds-more-count
slice_bounds-more-count c = omega arith

pub bounds-words-0-2 : goal.bounds-words-0-2
bounds-words-0-2 c = omega arith

pub bounds-words-1-2 : goal.bounds-words-1-2
bounds-words-1-2 c = omega arith

pub slice_bounds-more-start : goal.slice_bounds-more-start
slice_bounds-more-start c = omega arith

pub slice_bounds-more-end : goal.slice_bounds-more-end
slice_bounds-more-end c = omega arith

pub returns-in_default : goal.returns-in_default
returns-in_default c = few_words _ c.args.words.now c.in_default.len_below

pub returns-else-is_dashed : goal.returns-else-is_dashed
returns-else-is_dashed c =
    two_words string_bytes c.args.words.now c.verb-item.result c.name-item.result c.is_dashed.result _ (omega arith) c.verb-item.is c.name-item.is (c.is_dashed.ensures ∙ ap (begins_with 45) c.as_str.ensures.value) c.if-is_dashed.false
    (c.by_verb.ensures ∙ (λ i. command_by (c.as_str-else-is_dashed.ensures.value i) (c.as_str-else-is_dashed-2.ensures.value i)))

pub returns-in_ok-question-in-len2-up : goal.returns-in_ok-question-in-len2-up
returns-in_ok-question-in-len2-up c =
    let words = c.args.words.now in
    let asked = c.in_ok-question-in-len2-up.question in
    ap (λ m. Some (asking m asked)) c.as_str-else-is_dashed-2-3.ensures.value
    ∙ asking_words string_bytes words c.verb-item-2.result c.name-item-2.result c.is_dashed-in-len2-up.result asked (omega arith) c.verb-item-2.is c.name-item-2.is (c.is_dashed-in-len2-up.ensures ∙ ap (begins_with 45) c.as_str-in-len2-up.ensures.value)
    c.if-is_dashed-2.false (sym c.in_ok-question-in-len2-up.was ∙ c.question.ensures ∙ ap (λ v. question_by v (map string_bytes (take (length words - 2) (drop 2 words)))) c.as_str-else-is_dashed-2-2.ensures.value)
