use Rattle.std.proofs.Common.{inr, sym, ◌∙◌}
use Rattle.policy_lines.proofs.FirstWords.{said_known, said_unknown}
use Rattle.policy_lines.proofs.reading.said_of.Goals as goal

pub returns-in-Some : goal.returns-in-Some
returns-in-Some c =
    said_known c.args.version c.args.line.now c.args.words c.args.word.now c.in-Some.verb c.said_after.result c.in-Some.ensures c.said_after.ensures

pub returns-in-None : goal.returns-in-None
returns-in-None c = inr (said_unknown c.args.version c.args.line.now c.args.words c.args.word.now c.in-None.ensures)
