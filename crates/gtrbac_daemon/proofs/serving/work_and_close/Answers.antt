use Rattle.std.proofs.Common.{◌≡◌, ℕ, ◌<◌, ◌≤◌, List, [], length, drop, sym, ap, subst, ◌∙◌, arith}
use Rattle.std.proofs.lemmas.List.{length-map}
use Rattle.gt_base.specs.declared.requests.Entry.{Entry}
use Rattle.turn_lock.specs.Turns.{Each, part}
use Rattle.turn_lock.specs.Holders.{Holder, site_of, newcomers, IsToldBy}
use Rattle.turn_lock.proofs.PassLists.{new_all, length_new}
use Rattle.policy_words.specs.Naming.{NamedPolicy}
use Rattle.connection_laws.specs.Desks.{MayBeAsked, RepliesCanBeTold}
use Rattle.core_machine.specs.Books.{BookView, IsNamedFor, now_after}
use Rattle.core_machine.specs.Ledgers.{IsLegalLedger}
use Rattle.gtrbac_daemon.specs.Crew.{crewman, crewmen}
use Rattle.gtrbac_daemon.proofs.Posted.{ready, InOrder, in_order, all_idle, none_missing, crew_is_told}
use Rattle.gtrbac_daemon.proofs.Served.{headline_of}
use Rattle.snapshot_readers.proofs.Moving.{reversed_length}
use Rattle.line_server.specs.declared.posts.Post.{Post}
use Rattle.gtrbac_daemon.proofs.serving.work_and_close.Goals as goal

pub man-requires-clause-empty : goal.man-requires-clause-empty
man-requires-clause-empty g c = c.requires.posts.0

pub man-requires-clause-room : goal.man-requires-clause-room
man-requires-clause-room g c = c.requires.posts.1

pub relieve-requires-clause-empty : goal.relieve-requires-clause-empty
relieve-requires-clause-empty g c = (c.man.ensures.passes_left.0, c.man.ensures.crew_left.0)

pub relieve-requires-clause-passes_room : goal.relieve-requires-clause-passes_room
relieve-requires-clause-passes_room g c =
    let own = c.run_posts.new.posts.ok.0 in
    let many : length c.man.new.posts.items ≡ length c.args.passes.items =
    reversed_length (λ (p : Post BookView g.row.D.Denot g.row.C.Denot g.row.G.Denot g.row.D-L.Denot). p.pass) c.man.new.posts.items c.args.passes.items c.man.ensures.passes_are in
    let same : length c.run_posts.new.posts.items ≡ length c.man.new.posts.items = c.run_posts.ensures.length in
    let left = c.man.ensures.passes_left.1 in
    omega (arith, own, many, same, left)

pub relieve-requires-clause-crew_room : goal.relieve-requires-clause-crew_room
relieve-requires-clause-crew_room g c =
    let own = c.run_posts.new.posts.ok.0 in
    let many : length c.man.new.posts.items ≡ length c.args.crew.now.items =
    reversed_length (λ (p : Post BookView g.row.D.Denot g.row.C.Denot g.row.G.Denot g.row.D-L.Denot). p.worker) c.man.new.posts.items c.args.crew.now.items c.man.ensures.workers_are in
    let same : length c.run_posts.new.posts.items ≡ length c.man.new.posts.items = c.run_posts.ensures.length in
    let left = c.man.ensures.crew_left.1 in
    let had = c.args.crew.now.ok.0 in
    let fits = c.args.crew.now.ok.1 in
    omega (arith, own, many, same, left, had, fits)

pub man-requires-clause-pairs : goal.man-requires-clause-pairs
man-requires-clause-pairs g c = ap (λ (ps : List (Holder BookView)). length ps) c.requires.desk.passes_are ∙ length_new c.args.desk [] 0 (length c.args.crew.now.items)

pub run_posts-requires-clause-idle : goal.run_posts-requires-clause-idle
run_posts-requires-clause-idle g c κs within =
    let new = new_all c.args.desk [] (length c.args.crew.now.items) c.args.passes.items c.requires.desk.passes_are in
    λ k d low.
    let r = ready (site_of c.args.desk) c.args.passes.items c.args.crew.now.items c.man.new.posts.items c.man.ensures.passes_are c.man.ensures.workers_are new.0 c.requires.crew.new k d low in
    (r.0, r.1.0, r.1.1)

pub run_posts-requires-clause-named : goal.run_posts-requires-clause-named
run_posts-requires-clause-named g c κs within = subst (λ (p : NamedPolicy). MayBeAsked p (IsNamedFor c.args.desk.root)) c.requires.desk.ledger.named c.requires.desk.ledger.served.named

pub run_posts-requires-clause-replies : goal.run_posts-requires-clause-replies
run_posts-requires-clause-replies g c κs within = subst (λ (p : NamedPolicy). RepliesCanBeTold p (IsLegalLedger c.args.desk.root)) c.requires.desk.ledger.named c.requires.desk.ledger.served.replies

pub close-closed-requires-clause-idle : goal.close-closed-requires-clause-idle
close-closed-requires-clause-idle g c =
    let root = c.args.desk.root in
    let o = in_order g.D.L.Link.traffic g.C.Clock.readings g.D.Door.doorway c.args.policy.now root.entries (IsLegalLedger root) (now_after root) (site_of c.args.desk) _ _ _ _ _ _
    c.man.ensures.passes_are c.man.ensures.workers_are c.relieve.ensures.passes_are c.relieve.ensures.crew_is c.run_posts.ensures.length c.run_posts.ensures.works in
    all_idle g.D.L.Link.traffic g.C.Clock.readings g.D.Door.doorway c.args.policy.now root.entries (IsLegalLedger root) (now_after root) (site_of c.args.desk) _ _ _ _ o

pub close-closed-requires-clause-all : goal.close-closed-requires-clause-all
close-closed-requires-clause-all g c =
    let root = c.args.desk.root in
    let new = new_all c.args.desk [] (length c.args.crew.now.items) c.args.passes.items c.requires.desk.passes_are in
    let o = in_order g.D.L.Link.traffic g.C.Clock.readings g.D.Door.doorway c.args.policy.now root.entries (IsLegalLedger root) (now_after root) (site_of c.args.desk) _ _ _ _ _ _
    c.man.ensures.passes_are c.man.ensures.workers_are c.relieve.ensures.passes_are c.relieve.ensures.crew_is c.run_posts.ensures.length c.run_posts.ensures.works in
    λ m low.
    none_missing g.D.L.Link.traffic g.C.Clock.readings g.D.Door.doorway c.args.policy.now root.entries (IsLegalLedger root) (now_after root) (site_of c.args.desk) _ _ _ _ o
    m (new.1 m (subst (λ (k : ℕ). m < k) c.requires.desk.count_is low))

pub returns-clause-root : goal.returns-clause-root
returns-clause-root g c = (sym c.close-closed.ensures.root.0 ∙ c.requires.desk.ledger.named, sym c.close-closed.ensures.root.1)

pub returns-clause-headline : goal.returns-clause-headline
returns-clause-headline g c =
    let root = c.args.desk.root in
    let np = c.args.policy.now in
    let crew = c.args.crew.now.items in
    let qs = c.relieve.new.passes.items in
    let closed = c.close-closed.result in
    let K = crewmen g.C.Clock.readings g.D.Door.doorway in
    let P : List Entry → List (Holder BookView) → Type 0 = λ (es : List Entry) (ps : List (Holder BookView)).
    InOrder g.D.L.Link.traffic g.C.Clock.readings g.D.Door.doorway np es (IsLegalLedger root) (now_after root) (site_of c.args.desk) ps qs crew c.relieve.new.crew.items in
    let o : P root.entries c.args.passes.items = in_order g.D.L.Link.traffic g.C.Clock.readings g.D.Door.doorway np root.entries (IsLegalLedger root) (now_after root) (site_of c.args.desk) _ _ _ _ _ _
    c.man.ensures.passes_are c.man.ensures.workers_are c.relieve.ensures.passes_are c.relieve.ensures.crew_is c.run_posts.ensures.length c.run_posts.ensures.works in
    let o2 : P [] c.args.passes.items = subst (λ (es : List Entry). P es c.args.passes.items) c.requires.desk.ledger.empty o in
    let o3 : P [] (newcomers c.args.desk [] 0 (length crew)) = subst (P []) c.requires.desk.passes_are o2 in
    let told : Each (IsToldBy [] closed.entries) qs = subst (λ (es : List Entry). Each (IsToldBy es closed.entries) qs) c.requires.desk.ledger.empty c.close-closed.ensures.each in
    headline_of c.book.result.now closed c.book.ensures c.keeps.ensures.kept c.keeps.ensures.only c.keeps.ensures.safe np root.birth
    (sym c.close-closed.ensures.root.0 ∙ c.requires.desk.ledger.named) (sym c.close-closed.ensures.root.1) (length (K crew))
    (crew_is_told g.D.L.Link.traffic g.C.Clock.readings g.D.Door.doorway np (IsLegalLedger root) (now_after root) (site_of c.args.desk) root.birth c.requires.desk.ledger.served.timed closed.entries
    c.args.desk (length crew) qs crew c.relieve.new.crew.items o3 told)
    (λ n low. subst (λ (es : List Entry). part n (drop (length es) closed.entries) ≡ []) c.requires.desk.ledger.empty
    (c.close-closed.ensures.others n (subst (λ (k : ℕ). k ≤ n) (length-map crew (crewman g.C.Clock.readings g.D.Door.doorway) ∙ sym c.requires.desk.count_is) low)))
