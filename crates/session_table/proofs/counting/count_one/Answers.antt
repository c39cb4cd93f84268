use Rattle.std.proofs.Common.{◌+◌, cond, sym, ap, ◌∙◌}
use Rattle.std.proofs.lemmas.List.Sums.{sum_by_push}
use Rattle.session_table.specs.Counting.{is_by}
use Rattle.session_table.proofs.counting.count_one.Goals as goal

pub returns : goal.returns
returns c = λ h.
    c.add_count.ensures h
    ∙ ap (λ n. n + cond (is_by h.user h.role c.args.a.now) 1 0) (c.requires.counted h)
    ∙ sym (sum_by_push (λ a. cond (is_by h.user h.role a) 1 0) c.args.active.now c.args.a.now)
