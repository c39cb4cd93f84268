use Rattle.std.proofs.Common.{ℕ, ◌<◌, sym, subst}
use Rattle.turn_lock.specs.Holders.{HasNumber}
use Rattle.locked_history.proofs.desk.Desk.close.Goals as goal

pub close-requires-clause-all : goal.close-requires-clause-all
close-requires-clause-all g c = subst (λ l. (n : ℕ) → n < l.passes → HasNumber n c.args.passes.items) (sym c.self.view_is) c.requires.all
