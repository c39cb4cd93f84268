use Rattle.request_text.specs.Replies.{log_text}
use Rattle.gtrbac_daemon.proofs.ViewWriting.{written_on, written_short}
use Rattle.gtrbac_daemon.proofs.views_writing.write_late.Goals as goal

pub returns-then-status-eq14 : goal.returns-then-status-eq14
returns-then-status-eq14 g c =
    let l = c.args.ledger.now in
    let o = g.K.Sink in
    written_on (log_text l.named l.birth l.entries) c.args.line.now c.write_up-status.result c.print.result (o.output c.args.out.now).written (o.output c.write_up-status.new.out).written (o.output c.print.new.out).written
    (o.output c.args.out.now).faults (o.output c.write_up-status.new.out).faults (o.output c.print.new.out).faults c.if-status-eq14.true c.write_up-status.ensures c.print.ensures

pub returns-else-status-eq14 : goal.returns-else-status-eq14
returns-else-status-eq14 g c =
    let l = c.args.ledger.now in
    let o = g.K.Sink in
    written_short (log_text l.named l.birth l.entries) c.args.line.now c.write_up-status.result c.write_up-status.result (o.output c.args.out.now).written (o.output c.write_up-status.new.out).written (o.output c.write_up-status.new.out).written
    (o.output c.args.out.now).faults (o.output c.write_up-status.new.out).faults (o.output c.write_up-status.new.out).faults c.if-status-eq14.false c.write_up-status.ensures
