use Rattle.std.proofs.Common.{map, refl, ap, ◌∙◌}
use Rattle.std.specs.Prelude.{string_bytes}
use Rattle.gtrbac_daemon.specs.Crew.{crewmen}
use Rattle.gtrbac_daemon.specs.Daemon.{crew_way}
use Rattle.gtrbac_daemon.proofs.AnyRuns.{admits_none, answers_served, answers_unserved, untouched}
use Rattle.gtrbac_daemon.proofs.Running.{all_fresh, some_crew, runs}
use Rattle.gtrbac_daemon.proofs.top.daemon.Goals as goal

pub returns-in-Ok-clause-runs : goal.returns-in-Ok-clause-runs
returns-in-Ok-clause-runs g c =
    let k = g.C.Clock.readings in
    let d = g.D.Door.doorway in
    let ws = c.args.crew.now.items in
    let old = g.S.Shelf.stock c.args.shelf.now in
    let found = c.in-Ok.ensures in
    runs g.D.L.Link.traffic (map string_bytes c.args.words.now) _ _ _ (some_crew k d ws c.requires.size.0) (all_fresh k d ws c.requires.fresh)
    (answers_served (crew_way g.D.L.Link.traffic) _ _ c.policy_word.ensures c.serve.result old (g.B.Clock.readings c.args.birth.now) (crewmen k d ws) (g.K.Sink.output c.args.out.now) (g.K.Sink.output c.find_safe.new.out) _
    c.in-Ok.safe found.admitted found.kept.0 (ap g.K.Sink.output found.kept.1) (c.serve.ensures old (g.S.Shelf.stock c.find_safe.new.shelf)))
    c.find_safe.ensures.searched.texts (λ none. admits_none _ old.contents _ c.in-Ok.safe found.admitted (c.policy_word.ensures ∙ none))

pub returns-in-Ok-clause-unread : goal.returns-in-Ok-clause-unread
returns-in-Ok-clause-unread g c = λ none. admits_none _ (g.S.Shelf.stock c.args.shelf.now).contents _ c.in-Ok.safe c.in-Ok.ensures.admitted (c.policy_word.ensures ∙ none)

pub returns-in-Err-clause-runs : goal.returns-in-Err-clause-runs
returns-in-Err-clause-runs g c =
    let k = g.C.Clock.readings in
    let d = g.D.Door.doorway in
    let ws = c.args.crew.now.items in
    let way = crew_way g.D.L.Link.traffic in
    let s = g.S.Shelf.stock in
    let o = g.K.Sink.output in
    let birth = g.B.Clock.readings c.args.birth.now in
    runs g.D.L.Link.traffic (map string_bytes c.args.words.now) _ _ _ (some_crew k d ws c.requires.size.0) (all_fresh k d ws c.requires.fresh)
    (answers_unserved way _ _ c.policy_word.ensures c.in-Err.status (s c.args.shelf.now) birth (crewmen k d ws) (o c.args.out.now) (o c.find_safe.new.out) (s c.find_safe.new.shelf) c.in-Err.ensures.ended) c.find_safe.ensures.searched.texts
    (λ none. untouched way _ _ c.policy_word.ensures c.in-Err.status (s c.args.shelf.now) birth (crewmen k d ws) (o c.args.out.now) (o c.find_safe.new.out) (s c.find_safe.new.shelf) (ap s (c.find_safe.ensures.unread (c.policy_word.ensures ∙ none))))

pub returns-in-Err-clause-unread : goal.returns-in-Err-clause-unread
returns-in-Err-clause-unread g c = λ none. (c.find_safe.ensures.unread (c.policy_word.ensures ∙ none), refl, refl)
