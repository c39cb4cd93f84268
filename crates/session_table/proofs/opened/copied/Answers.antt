use Rattle.std.proofs.Common.{◌∙◌}
use Rattle.std.proofs.lemmas.List.{take_all}
use Rattle.session_table.proofs.opened.copied.Goals as goal

pub returns : goal.returns
returns c = c.loop-session.invariant ∙ take_all c.loop-session.session-index c.args.sessions.now c.loop-session-test.false
