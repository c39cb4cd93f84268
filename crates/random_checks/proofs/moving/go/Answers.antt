use Rattle.instant_bases.specs.Timelines.{stirs_in}
use Rattle.random_checks.proofs.moving.go.Goals as goal

pub close-requires-clause-later : goal.close-requires-clause-later
close-requires-clause-later c =
    let line = c.args.line.now.line in
    (c.stop-to.ensures (stirs_in c.args.g.now.policy line) line.now c.due.ensures c.requires.later).later

pub close-requires-clause-skipped : goal.close-requires-clause-skipped
close-requires-clause-skipped c =
    let line = c.args.line.now.line in
    (c.stop-to.ensures (stirs_in c.args.g.now.policy line) line.now c.due.ensures c.requires.later).none_before
