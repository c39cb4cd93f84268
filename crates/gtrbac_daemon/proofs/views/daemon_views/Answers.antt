use Rattle.std.proofs.Common.{[], map, refl, ap, ◌∙◌}
use Rattle.std.specs.Prelude.{string_bytes}
use Rattle.snapshot_readers.specs.Seats.{watchers}
use Rattle.gtrbac_daemon.specs.Crew.{crewmen}
use Rattle.gtrbac_daemon.specs.Views.{company, view_way}
use Rattle.gtrbac_daemon.proofs.AnyRuns.{admits_none, answers_served, answers_unserved, untouched}
use Rattle.gtrbac_daemon.proofs.ViewServed.{company_fresh, some_company}
use Rattle.gtrbac_daemon.proofs.ViewTelling.{runs}
use Rattle.gtrbac_daemon.proofs.views.daemon_views.Goals as goal

pub returns-in-Ok-clause-runs : goal.returns-in-Ok-clause-runs
returns-in-Ok-clause-runs g c =
    let k = g.C.Clock.readings in
    let d = g.D.Door.doorway in
    let ws = c.args.crew.now.items in
    let vs = c.args.viewers.now.items in
    let old = g.S.Shelf.stock c.args.shelf.now in
    let found = c.in-Ok.ensures in
    let x = c.serve_views.ensures old (g.S.Shelf.stock c.find_safe.new.shelf) in
    runs g.D.L.Link.traffic (map string_bytes c.args.words.now) x.0 _ _ _ (some_company k d ws vs c.requires.size.0) (company_fresh k d ws vs c.requires.fresh c.requires.new)
    (answers_served (view_way g.D.L.Link.traffic x.0) _ _ c.word_behind.ensures c.serve_views.result old (g.B.Clock.readings c.args.birth.now) (company (crewmen k d ws) (watchers d vs))
    (g.K.Sink.output c.args.out.now) (g.K.Sink.output c.find_safe.new.out) _ c.in-Ok.safe found.admitted found.kept.0 (ap g.K.Sink.output found.kept.1) x.1)
    c.find_safe.ensures.searched.texts (λ none. admits_none _ old.contents _ c.in-Ok.safe found.admitted (c.word_behind.ensures ∙ none))

pub returns-in-Ok-clause-unread : goal.returns-in-Ok-clause-unread
returns-in-Ok-clause-unread g c = λ none. admits_none _ (g.S.Shelf.stock c.args.shelf.now).contents _ c.in-Ok.safe c.in-Ok.ensures.admitted (c.word_behind.ensures ∙ none)

pub returns-in-Err-clause-runs : goal.returns-in-Err-clause-runs
returns-in-Err-clause-runs g c =
    let k = g.C.Clock.readings in
    let d = g.D.Door.doorway in
    let ws = c.args.crew.now.items in
    let vs = c.args.viewers.now.items in
    let way = view_way g.D.L.Link.traffic [] in
    let s = g.S.Shelf.stock in
    let o = g.K.Sink.output in
    let birth = g.B.Clock.readings c.args.birth.now in
    let server = company (crewmen k d ws) (watchers d vs) in
    runs g.D.L.Link.traffic (map string_bytes c.args.words.now) [] _ _ _ (some_company k d ws vs c.requires.size.0) (company_fresh k d ws vs c.requires.fresh c.requires.new)
    (answers_unserved way _ _ c.word_behind.ensures c.in-Err.status (s c.args.shelf.now) birth server (o c.args.out.now) (o c.find_safe.new.out) (s c.find_safe.new.shelf) c.in-Err.ensures.ended) c.find_safe.ensures.searched.texts
    (λ none. untouched way _ _ c.word_behind.ensures c.in-Err.status (s c.args.shelf.now) birth server (o c.args.out.now) (o c.find_safe.new.out) (s c.find_safe.new.shelf) (ap s (c.find_safe.ensures.unread (c.word_behind.ensures ∙ none))))

pub returns-in-Err-clause-unread : goal.returns-in-Err-clause-unread
returns-in-Err-clause-unread g c = λ none. (c.find_safe.ensures.unread (c.word_behind.ensures ∙ none), refl, refl, refl)
