use Rattle.std.proofs.Common.{◌∙◌, ap, arith}
use Rattle.std.specs.Prelude.{string_bytes}
use Rattle.gtrbac_tool.specs.Late.{forecast_in}
use Rattle.gtrbac_tool.proofs.Spoken.{first_and_rest}
use Rattle.gtrbac_tool.proofs.questions.forecast.Goals as goal

pub slice_bounds-words-count : goal.slice_bounds-words-count
slice_bounds-words-count c = omega arith

pub bounds-words-0 : goal.bounds-words-0
bounds-words-0 c = omega arith

pub slice_bounds-words-start : goal.slice_bounds-words-start
slice_bounds-words-start c = omega arith

pub slice_bounds-words-end : goal.slice_bounds-words-end
slice_bounds-words-end c = omega arith

pub returns-in-len1-up : goal.returns-in-len1-up
returns-in-len1-up c =
    c.forecast_of.ensures ∙ ap forecast_in (first_and_rest string_bytes c.args.words.now c.days-item.result c.as_bytes.result.now c.in-len1-up.len_at_least c.days-item.is c.as_bytes.ensures.value)
