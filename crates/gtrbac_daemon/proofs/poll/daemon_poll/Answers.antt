use Rattle.std.proofs.Common.{ap, ◌∙◌}
use Rattle.gtrbac_daemon.specs.Polls.{polling, poll_way}
use Rattle.gtrbac_daemon.proofs.AnyRuns.{admits_none, answers_served, answers_unserved, untouched}
use Rattle.gtrbac_daemon.proofs.Telling.{runs}
use Rattle.gtrbac_daemon.proofs.poll.daemon_poll.Goals as goal

pub returns-in-Ok-clause-runs : goal.returns-in-Ok-clause-runs
returns-in-Ok-clause-runs g c =
    let old = g.S.Shelf.stock c.args.shelf.now in
    let found = c.in-Ok.ensures in
    runs _ _ _ _ c.requires.ports c.requires.none
    (answers_served poll_way _ _ c.word_behind.ensures c.poll_serve.result old (g.B.Clock.readings c.args.birth.now) (polling (g.C.Clock.readings c.args.clock.now) (g.P.Ports.harbour c.args.ports.now) c.args.ends.now.items)
    (g.K.Sink.output c.args.out.now) (g.K.Sink.output c.find_safe.new.out) _ c.in-Ok.safe found.admitted found.kept.0 (ap g.K.Sink.output found.kept.1) (c.poll_serve.ensures old (g.S.Shelf.stock c.find_safe.new.shelf)))
    c.find_safe.ensures.searched.texts (λ none. admits_none _ old.contents _ c.in-Ok.safe found.admitted (c.word_behind.ensures ∙ none))

pub returns-in-Err-clause-runs : goal.returns-in-Err-clause-runs
returns-in-Err-clause-runs g c =
    let s = g.S.Shelf.stock in
    let o = g.K.Sink.output in
    let birth = g.B.Clock.readings c.args.birth.now in
    let server = polling (g.C.Clock.readings c.args.clock.now) (g.P.Ports.harbour c.args.ports.now) c.args.ends.now.items in
    runs _ _ _ _ c.requires.ports c.requires.none
    (answers_unserved poll_way _ _ c.word_behind.ensures c.in-Err.status (s c.args.shelf.now) birth server (o c.args.out.now) (o c.find_safe.new.out) (s c.find_safe.new.shelf) c.in-Err.ensures.ended) c.find_safe.ensures.searched.texts
    (λ none. untouched poll_way _ _ c.word_behind.ensures c.in-Err.status (s c.args.shelf.now) birth server (o c.args.out.now) (o c.find_safe.new.out) (s c.find_safe.new.shelf) (ap s (c.find_safe.ensures.unread (c.word_behind.ensures ∙ none))))
