use Rattle.std.proofs.Common.{sym, ◌∙◌}
use Rattle.core_machine.proofs.Asks.{refused_still, still_look}
use Rattle.core_machine.proofs.asking.answer.Goals as goal

pub tell-requires-clause-still : goal.tell-requires-clause-still
tell-requires-clause-still c = still_look _ _ _ (sym c.only_looks.ensures ∙ c.if-only_looks.true)

pub tell-requires-then-is_nobody-clause-still : goal.tell-requires-then-is_nobody-clause-still
tell-requires-then-is_nobody-clause-still c = refused_still _ _ _

pub change-requires-clause-asks : goal.change-requires-clause-asks
change-requires-clause-asks c = record { ready = c.requires; somebody = sym c.is_nobody.ensures ∙ c.if-is_nobody.false }
