use Rattle.std.proofs.Common.{sym, ap, append-nil, ◌++◌, ◌∙◌}
use Rattle.std.specs.List.{filter_map}
use Rattle.std.proofs.lemmas.List.{drop_all}
use Rattle.policy_words.specs.Making.{cond_in}
use Rattle.policy_book.specs.Seen.{seen_names}
use Rattle.policy_book.proofs.Stepping.{kept_more, passed_over}
use Rattle.policy_book.proofs.rules.conds_in.Goals as goal
use Rattle.policy_book.proofs.rules.conds_in.Goals.{in-Some+in_ok-push, in_default}

pub loop-item-preserved : goal.loop-item-preserved
loop-item-preserved c =
    let f = cond_in (seen_names c.args.names.now) in
    let old = c.loop-item.conds.items in
    let new = c.match-cond_in.conds.items in
    elim c.match-cond_in.branch [
      | in-Some+in_ok-push w ↦
          kept_more f c.args.items.now c.loop-item.item-index c.item-item.result _ old new c.loop-item-test.true c.item-item.is w.in-Some.cond
          (sym c.cond_in.ensures ∙ w.in-Some.is) (ap (λ v. v.items) w.conds-is ∙ w.in_ok-push.ensures.items) c.loop-item.invariant
      | in_default w ↦
          passed_over f c.args.items.now c.loop-item.item-index c.item-item.result _ old new c.loop-item-test.true c.item-item.is
          (sym c.cond_in.ensures ∙ w.in_default.is) (ap (λ v. v.items) w.conds-is) c.loop-item.invariant
    ]

pub returns : goal.returns
returns c =
    let f = cond_in (seen_names c.args.names.now) in
    let old = c.loop-item.conds.items in
    sym (append-nil old) ∙ ap (λ is. old ++ filter_map f is) (sym (drop_all c.loop-item.item-index c.args.items.now c.loop-item-test.false)) ∙ c.loop-item.invariant
