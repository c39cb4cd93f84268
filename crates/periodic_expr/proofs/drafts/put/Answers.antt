use Rattle.std.proofs.Common.{true, false, nat_eq, nat_lt, length, ap, sym, ◌∙◌}
use Rattle.std.specs.List.{list_any, insert, take_while}
use Rattle.periodic_expr.proofs.Sets.{put_by}
use Rattle.periodic_expr.proofs.drafts.put.Goals as goal

pub returns-then-is_in : goal.returns-then-is_in
returns-then-is_in c =
    sym (put_by c.args.n c.args.numbers.items true (ap (list_any (nat_eq c.args.n)) (sym c.deref.ensures.value) ∙ sym c.is_in.ensures ∙ c.if-is_in.true))

pub returns : goal.returns
returns c =
    c.in_ok-insert.ensures.items
    ∙ ap (λ k. insert c.args.numbers.items k c.args.n) (c.place_of-place.ensures.place ∙ ap (λ ns. length (take_while (λ m. nat_lt m c.args.n) ns)) c.deref-2.ensures.value)
    ∙ sym (put_by c.args.n c.args.numbers.items false (ap (list_any (nat_eq c.args.n)) (sym c.deref.ensures.value) ∙ sym c.is_in.ensures ∙ c.if-is_in.false))
