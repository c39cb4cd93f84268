use Rattle.std.proofs.Common.{◌≡◌, ◌<◌, ◌∙◌, length, drop, map, ap, sym, subst}
use mathlib.Core.List.{IsPrefix}
use Rattle.turn_lock.specs.declared.view.Account.{Account}
use Rattle.turn_lock.specs.Turns.{Each, Has, part, undrawn}
use Rattle.turn_lock.proofs.Ending.{has_of, has_drawn, each_of, each_drawn, accounts_are}
use Rattle.turn_lock.proofs.lock.TurnLock.close.Goals as goal

pub finish-requires-clause-all : goal.finish-requires-clause-all
finish-requires-clause-all g c =
    let all = accounts_are c.pop-last.new.self.items c.args.passes.items c.in-Some.pass (map undrawn c.gather.new.seat.me.0.accounts) (map undrawn c.seat_of-seat.result.me.0.accounts) (sym (ap (λ p. p.items) c.passes.view_is) ∙ c.in-Some.ensures.items)
    c.gather.ensures.accounts c.seat_of-seat.ensures.account in
    λ n low. has_drawn n c.gather.new.seat.me.0.accounts (subst (Has n) (sym all) (has_of n c.args.passes.items (c.requires.all n (subst (λ k. n < k) (ap (λ l. l.passes) c.self.view_is) low))))

pub returns-clause-each : goal.returns-clause-each
returns-clause-each g c =
    let all = accounts_are c.pop-last.new.self.items c.args.passes.items c.in-Some.pass (map undrawn c.gather.new.seat.me.0.accounts) (map undrawn c.seat_of-seat.result.me.0.accounts) (sym (ap (λ p. p.items) c.passes.view_is) ∙ c.in-Some.ensures.items)
    c.gather.ensures.accounts c.seat_of-seat.ensures.account in
    let log = g.M.Keeps.list c.finish.result in
    let P : g.row.M.Denot → Account → Type 0 = λ r a. IsPrefix a.seen log × (a.own ≡ part a.number (drop (length (g.M.Keeps.list r)) log)) in
    each_of (P c.args.self.root) c.args.passes.items (subst (Each (P c.args.self.root)) all (each_drawn (P c.args.self.root) (λ a h. h) c.gather.new.seat.me.0.accounts
    (subst (λ r. Each (P r) c.gather.new.seat.me.0.accounts) (ap (λ l. l.root) c.self.view_is) c.finish.ensures.each)))
