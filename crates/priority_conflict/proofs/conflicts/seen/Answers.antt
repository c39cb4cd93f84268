use Rattle.std.proofs.Common.{◌≡◌, Some, None, sym, ◌∙◌}
use Rattle.gtrbac_model.specs.Conflict.{greatest_below, stands_at}
use Rattle.priority_conflict.proofs.Blocking.{seen_free, seen_blocked, seen_absent, top_free, top_blocked, none_free}
use Rattle.priority_conflict.proofs.conflicts.seen.Goals as goal

pub returns-in_default : goal.returns-in_default
returns-in_default c =
    let none : greatest_below (stands_at c.args.x.now.set c.args.e) 101 ≡ None = sym c.greatest.ensures ∙ c.in_default.is in
    sym (seen_absent c.args.x.now.set c.args.e (none_free c.args.x.now.set c.args.e 101 none) none)

pub returns-then-blocked : goal.returns-then-blocked
returns-then-blocked c =
    let some : greatest_below (stands_at c.args.x.now.set c.args.e) 101 ≡ Some c.in-Some.prio = sym c.greatest.ensures ∙ c.in-Some.is in
    sym (seen_blocked c.args.x.now.set c.args.e c.in-Some.prio (top_blocked c.args.x.now.set c.args.e 101 c.in-Some.prio some (sym c.blocked.ensures ∙ c.if-blocked.true)) some)

pub returns-else-blocked : goal.returns-else-blocked
returns-else-blocked c =
    let some : greatest_below (stands_at c.args.x.now.set c.args.e) 101 ≡ Some c.in-Some.prio = sym c.greatest.ensures ∙ c.in-Some.is in
    sym (seen_free c.args.x.now.set c.args.e c.in-Some.prio (top_free c.args.x.now.set c.args.e 101 c.in-Some.prio some (sym c.blocked.ensures ∙ c.if-blocked.false)))
