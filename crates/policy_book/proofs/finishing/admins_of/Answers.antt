use Rattle.std.proofs.Common.{true, false, append-nil, ap, sym, ◌∙◌}
use Rattle.gtrbac_model.specs.Same.{lists, same_user}
use Rattle.policy_book.proofs.Openings.{one_asked}
use Rattle.policy_book.proofs.finishing.admins_of.Goals as goal
use Rattle.policy_book.proofs.finishing.admins_of.Goals.{then-has+in_ok-push, else-has}

pub loop-n-preserved : goal.loop-n-preserved
loop-n-preserved c =
    let p = lists same_user c.args.admins.now.keys in
    elim c.if-has.branch [
      | then-has+in_ok-push w ↦
          one_asked p c.loop-n.n c.args.users c.loop-n.found.items c.if-has.found.items _ true c.loop-n-test.true (sym c.has.ensures ∙ w.if-has.true)
          (ap (λ v. v.items) w.found-is ∙ w.in_ok-push.ensures.items) c.loop-n.invariant
      | else-has w ↦
          one_asked p c.loop-n.n c.args.users c.loop-n.found.items c.if-has.found.items _ false c.loop-n-test.true (sym c.has.ensures ∙ w.if-has.false)
          (ap (λ v. v.items) w.found-is ∙ sym (append-nil _)) c.loop-n.invariant
    ]
