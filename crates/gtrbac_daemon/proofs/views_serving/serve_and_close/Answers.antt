use Rattle.std.proofs.Common.{◌≡◌, ℕ, ◌<◌, ◌≤◌, List, [], length, drop, sym, ap, subst, ◌∙◌, arith}
use Rattle.gt_base.specs.declared.requests.Entry.{Entry}
use Rattle.turn_lock.specs.Turns.{Each, part}
use Rattle.turn_lock.specs.Holders.{Holder, site_of, newcomers, IsToldBy}
use Rattle.turn_lock.proofs.PassLists.{new_all, length_new}
use Rattle.gtrbac_daemon.proofs.Posted.{ready, InOrder, in_order, all_idle, none_missing, crew_is_told}
use Rattle.snapshot_readers.proofs.Moving.{reversed_length}
use Rattle.line_server.specs.declared.posts.Post.{Post}
use Rattle.gtrbac_daemon.proofs.views_serving.serve_and_close.Goals as goal

pub man-requires-clause-empty : goal.man-requires-clause-empty
man-requires-clause-empty g c = c.requires.posts.0

pub man-requires-clause-room : goal.man-requires-clause-room
man-requires-clause-room g c = c.requires.posts.1

pub run_both-requires-clause-named : goal.run_both-requires-clause-named
run_both-requires-clause-named g c κs within = c.requires.named

pub run_both-requires-clause-replies : goal.run_both-requires-clause-replies
run_both-requires-clause-replies g c κs within = c.requires.replies

pub run_both-requires-clause-ready : goal.run_both-requires-clause-ready
run_both-requires-clause-ready g c κs within = c.requires.ready

pub relieve-requires-clause-empty : goal.relieve-requires-clause-empty
relieve-requires-clause-empty g c = (c.man.ensures.passes_left.0, c.man.ensures.crew_left.0)

pub relieve-requires-clause-passes_room : goal.relieve-requires-clause-passes_room
relieve-requires-clause-passes_room g c =
    let own = c.run_both.new.posts.ok.0 in
    let many : length c.man.new.posts.items ≡ length c.args.opened.1.items =
    reversed_length (λ (p : Post g.row.M.Denot g.row.D.Denot g.row.C.Denot g.row.G.Denot g.row.D-L.Denot). p.pass) c.man.new.posts.items c.args.opened.1.items c.man.ensures.passes_are in
    let same : length c.run_both.new.posts.items ≡ length c.man.new.posts.items = c.run_both.ensures.posts in
    let left = c.man.ensures.passes_left.1 in
    omega (arith, own, many, same, left)

pub relieve-requires-clause-crew_room : goal.relieve-requires-clause-crew_room
relieve-requires-clause-crew_room g c =
    let own = c.run_both.new.posts.ok.0 in
    let many : length c.man.new.posts.items ≡ length c.args.crew.now.items =
    reversed_length (λ (p : Post g.row.M.Denot g.row.D.Denot g.row.C.Denot g.row.G.Denot g.row.D-L.Denot). p.worker) c.man.new.posts.items c.args.crew.now.items c.man.ensures.workers_are in
    let same : length c.run_both.new.posts.items ≡ length c.man.new.posts.items = c.run_both.ensures.posts in
    let left = c.man.ensures.crew_left.1 in
    let had = c.args.crew.now.ok.0 in
    let fits = c.args.crew.now.ok.1 in
    omega (arith, own, many, same, left, had, fits)

pub returns-clause-root : goal.returns-clause-root
returns-clause-root g c = c.close.ensures.root

pub returns-clause-looked : goal.returns-clause-looked
returns-clause-looked g c = c.run_both.ensures.looked

pub man-requires-clause-pairs : goal.man-requires-clause-pairs
man-requires-clause-pairs g c = ap (λ (ps : List (Holder g.row.M.Denot)). length ps) c.requires.passes ∙ length_new c.args.opened.0 [] 0 (length c.args.crew.now.items)

pub run_both-requires-clause-idle : goal.run_both-requires-clause-idle
run_both-requires-clause-idle g c κs within =
    let new = new_all c.args.opened.0 [] (length c.args.crew.now.items) c.args.opened.1.items c.requires.passes in
    λ k d low.
    let r = ready (site_of c.args.opened.0) c.args.opened.1.items c.args.crew.now.items c.man.new.posts.items c.man.ensures.passes_are c.man.ensures.workers_are new.0 c.requires.crew.new k d low in
    (r.0, r.1.0, r.1.1)

pub close-requires-clause-idle : goal.close-requires-clause-idle
close-requires-clause-idle g c =
    let root = c.args.opened.0.root in
    let o = in_order g.D.L.Link.traffic g.C.Clock.readings g.D.Door.doorway c.args.policy.now (g.M.Keeps.list root) (g.M.Machine.legal root) (g.M.Machine.now_of root) (site_of c.args.opened.0)
    c.args.opened.1.items c.relieve.new.passes.items c.args.crew.now.items c.relieve.new.crew.items c.man.new.posts.items c.run_both.new.posts.items
    c.man.ensures.passes_are c.man.ensures.workers_are c.relieve.ensures.passes_are c.relieve.ensures.crew_is c.run_both.ensures.posts c.run_both.ensures.works in
    all_idle g.D.L.Link.traffic g.C.Clock.readings g.D.Door.doorway c.args.policy.now (g.M.Keeps.list root) (g.M.Machine.legal root) (g.M.Machine.now_of root) (site_of c.args.opened.0)
    c.args.opened.1.items c.relieve.new.passes.items c.args.crew.now.items c.relieve.new.crew.items o

pub close-requires-clause-all : goal.close-requires-clause-all
close-requires-clause-all g c =
    let root = c.args.opened.0.root in
    let new = new_all c.args.opened.0 [] (length c.args.crew.now.items) c.args.opened.1.items c.requires.passes in
    let o = in_order g.D.L.Link.traffic g.C.Clock.readings g.D.Door.doorway c.args.policy.now (g.M.Keeps.list root) (g.M.Machine.legal root) (g.M.Machine.now_of root) (site_of c.args.opened.0)
    c.args.opened.1.items c.relieve.new.passes.items c.args.crew.now.items c.relieve.new.crew.items c.man.new.posts.items c.run_both.new.posts.items
    c.man.ensures.passes_are c.man.ensures.workers_are c.relieve.ensures.passes_are c.relieve.ensures.crew_is c.run_both.ensures.posts c.run_both.ensures.works in
    λ m low.
    none_missing g.D.L.Link.traffic g.C.Clock.readings g.D.Door.doorway c.args.policy.now (g.M.Keeps.list root) (g.M.Machine.legal root) (g.M.Machine.now_of root) (site_of c.args.opened.0)
    c.args.opened.1.items c.relieve.new.passes.items c.args.crew.now.items c.relieve.new.crew.items o m (new.1 m (subst (λ (k : ℕ). m < k) c.requires.count low))

pub returns-clause-worked : goal.returns-clause-worked
returns-clause-worked g c =
    let root = c.args.opened.0.root in
    let list = g.M.Keeps.list in
    let legal = g.M.Machine.legal root in
    let now = g.M.Machine.now_of root in
    let n = length c.args.crew.now.items in
    let qs = c.relieve.new.passes.items in
    let h = list c.close.result in
    let P : List Entry → List (Holder g.row.M.Denot) → Type 0 = λ (es : List Entry) (ps : List (Holder g.row.M.Denot)).
    InOrder g.D.L.Link.traffic g.C.Clock.readings g.D.Door.doorway c.args.policy.now es legal now (site_of c.args.opened.0) ps qs c.args.crew.now.items c.relieve.new.crew.items in
    let o : P (list root) c.args.opened.1.items = in_order g.D.L.Link.traffic g.C.Clock.readings g.D.Door.doorway c.args.policy.now (list root) legal now (site_of c.args.opened.0)
    c.args.opened.1.items qs c.args.crew.now.items c.relieve.new.crew.items c.man.new.posts.items c.run_both.new.posts.items
    c.man.ensures.passes_are c.man.ensures.workers_are c.relieve.ensures.passes_are c.relieve.ensures.crew_is c.run_both.ensures.posts c.run_both.ensures.works in
    let o2 : P [] c.args.opened.1.items = subst (λ (es : List Entry). P es c.args.opened.1.items) c.requires.empty o in
    let o3 : P [] (newcomers c.args.opened.0 [] 0 n) = subst (λ (ps : List (Holder g.row.M.Denot)). P [] ps) c.requires.passes o2 in
    let told : Each (IsToldBy [] h) qs = subst (λ (es : List Entry). Each (IsToldBy es h) qs) c.requires.empty c.close.ensures.each in
    λ birth timed.
    crew_is_told g.D.L.Link.traffic g.C.Clock.readings g.D.Door.doorway c.args.policy.now legal now (site_of c.args.opened.0) birth timed h
    c.args.opened.0 n qs c.args.crew.now.items c.relieve.new.crew.items o3 told

pub returns-clause-others : goal.returns-clause-others
returns-clause-others g c =
    λ n low.
    subst (λ (es : List Entry). part n (drop (length es) (g.M.Keeps.list c.close.result)) ≡ []) c.requires.empty (c.close.ensures.others n (subst (λ (k : ℕ). k ≤ n) (sym c.requires.count) low))
