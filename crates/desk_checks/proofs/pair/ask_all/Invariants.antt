use Rattle.std.proofs.Common.{◌≡◌, ◌+◌, ◌≤◌, length, None}
use Rattle.desk_checks.proofs.pair.ask_all.Given as goal

abbrev pub invariant-loop : goal.invariant-loop
invariant-loop g l = (l.pass.site ≡ l.fn.pass.site) × (l.pass.turn ≡ None) × (l.pass.number ≡ l.fn.pass.number) × (length l.pass.own ≡ length l.fn.pass.own + l.asked) × (l.asked ≤ l.counter)
