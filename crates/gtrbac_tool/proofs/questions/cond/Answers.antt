use Rattle.std.proofs.Common.{◌∙◌, ap, arith}
use Rattle.std.specs.Prelude.{string_bytes}
use Rattle.gtrbac_tool.specs.Late.{cond_said}
use Rattle.gtrbac_tool.proofs.Spoken.{first_and_rest}
use Rattle.gtrbac_tool.proofs.questions.cond.Goals as goal

pub slice_bounds-names-count : goal.slice_bounds-names-count
slice_bounds-names-count c = omega arith

pub bounds-words-0 : goal.bounds-words-0
bounds-words-0 c = omega arith

pub slice_bounds-names-start : goal.slice_bounds-names-start
slice_bounds-names-start c = omega arith

pub slice_bounds-names-end : goal.slice_bounds-names-end
slice_bounds-names-end c = omega arith

pub returns-in-len1-up : goal.returns-in-len1-up
returns-in-len1-up c =
    c.cond_of.ensures ∙ ap cond_said (first_and_rest string_bytes c.args.words.now c.verb-item.result c.as_bytes.result.now c.in-len1-up.len_at_least c.verb-item.is c.as_bytes.ensures.value)
