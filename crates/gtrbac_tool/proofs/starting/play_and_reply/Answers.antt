use Rattle.std.proofs.Common.{ap}
use Rattle.gt_text.specs.Lines.{lines_of}
use Rattle.gtrbac_tool.specs.Script.{start_of}
use Rattle.gtrbac_tool.proofs.Pieces.{end_of, replied}
use Rattle.gtrbac_tool.proofs.starting.play_and_reply.Goals as goal

pub returns-in-Ok-Unborn : goal.returns-in-Ok-Unborn
returns-in-Ok-Unborn g c =
    replied c.args.safe (start_of c.args.safe 1 (lines_of c.args.script.now)) c.show.result (g.K.Sink.output c.args.out.now) (g.K.Sink.output c.begin.new.out) (g.K.Sink.output c.show.new.out)
    c.in-Ok-Unborn.field-0 c.in-Ok-Unborn.end (ap end_of c.in-Ok-Unborn.field-0-is) c.in-Ok-Unborn.ensures c.show.ensures

pub returns-in-Ok-Born : goal.returns-in-Ok-Born
returns-in-Ok-Born g c =
    replied c.args.safe (start_of c.args.safe 1 (lines_of c.args.script.now)) c.show-in-Ok-Born.result (g.K.Sink.output c.args.out.now) (g.K.Sink.output c.begin.new.out) (g.K.Sink.output c.show-in-Ok-Born.new.out)
    c.in-Ok-Born.field-0 c.in-Ok-Born.end (ap end_of c.in-Ok-Born.field-0-is) c.in-Ok-Born.ensures c.show-in-Ok-Born.ensures

pub returns : goal.returns
returns g c = c.in-Err.ensures
