use denote.Param.Send.{sendable}
use Rattle.std.proofs.Common.{◌≡◌, ℕ, ◌≤◌, List, [], length, sym, ap, subst, ◌∙◌, arith}
use Rattle.std.specs.Prelude.{vec_capacity}
use Rattle.std.proofs.lemmas.List.{length-map}
use Rattle.gt_base.specs.declared.requests.Entry.{Entry}
use Rattle.turn_lock.specs.Turns.{part}
use Rattle.turn_lock.specs.Holders.{newcomers}
use Rattle.policy_words.specs.Naming.{NamedPolicy}
use Rattle.connection_laws.specs.Desks.{MayBeAsked, RepliesCanBeTold}
use Rattle.core_machine.specs.Books.{BookView, SameRoot, IsNamedFor}
use Rattle.core_machine.specs.Ledgers.{IsLegalLedger}
use Rattle.ledger_laws.specs.Serving.{CanBeServed}
use Rattle.snapshot_readers.specs.Glazed.{Glazed, fresh_glass}
use Rattle.snapshot_readers.specs.Boards.{BoardView}
use Rattle.snapshot_readers.proofs.BoardSending.{board_send}
use Rattle.snapshot_readers.specs.Seats.{watchers, AreToldOf}
use Rattle.snapshot_readers.proofs.Seated.{length_copies}
use Rattle.gtrbac_daemon.specs.Crew.{crewman, crewmen}
use Rattle.gtrbac_daemon.specs.Headline.{HaveWorked}
use Rattle.gtrbac_daemon.proofs.Served.{headline_of}
use Rattle.gtrbac_daemon.proofs.ViewSeats.{all_ready, all_served, as_many}
use Rattle.gtrbac_daemon.proofs.views_serving.serve_at.Goals as goal

pub take_seats-requires-clause-pairs : goal.take_seats-requires-clause-pairs
take_seats-requires-clause-pairs g c =
    ap (λ (gs : List Glazed). length gs) c.requires.board.glasses_are ∙ length_copies (length c.args.viewers.now.items) (fresh_glass c.args.policy.now c.args.board.ledger.birth)

pub serve_and_close-board-requires-send-M : goal.serve_and_close-board-requires-send-M
serve_and_close-board-requires-send-M g c κs within = search (board_send, sendable) depth 20

pub serve_and_close-board-requires-clause-named : goal.serve_and_close-board-requires-clause-named
serve_and_close-board-requires-clause-named g c κs within =
    subst (λ (b : BoardView). MayBeAsked c.args.policy.now (IsNamedFor b.ledger)) (sym c.in-Ok-new.ensures.desk.0)
    (subst (λ (p : NamedPolicy). MayBeAsked p (IsNamedFor c.args.board.ledger)) c.requires.board.ledger.named c.requires.board.ledger.served.named)

pub serve_and_close-board-requires-clause-replies : goal.serve_and_close-board-requires-clause-replies
serve_and_close-board-requires-clause-replies g c κs within =
    subst (λ (b : BoardView). RepliesCanBeTold c.args.policy.now (IsLegalLedger b.ledger)) (sym c.in-Ok-new.ensures.desk.0)
    (subst (λ (p : NamedPolicy). RepliesCanBeTold p (IsLegalLedger c.args.board.ledger)) c.requires.board.ledger.named c.requires.board.ledger.served.replies)

pub serve_and_close-board-requires-clause-empty : goal.serve_and_close-board-requires-clause-empty
serve_and_close-board-requires-clause-empty g c κs within = ap (λ (b : BoardView). b.ledger.entries) c.in-Ok-new.ensures.desk.0 ∙ c.requires.board.ledger.empty

pub serve_and_close-board-requires-clause-count : goal.serve_and_close-board-requires-clause-count
serve_and_close-board-requires-clause-count g c κs within =
    let all : c.len-3.result ≡ length c.args.crew.now.items = c.len-3.ensures ∙ c.args.crew.now.ok.0 in c.in-Ok-new.ensures.desk.1 ∙ all

pub serve_and_close-board-requires-clause-passes : goal.serve_and_close-board-requires-clause-passes
serve_and_close-board-requires-clause-passes g c κs within =
    let all : c.len-3.result ≡ length c.args.crew.now.items = c.len-3.ensures ∙ c.args.crew.now.ok.0 in
    c.in-Ok-new.ensures.passes ∙ ap (λ (es : List Entry). newcomers c.in-Ok-new.opened.0 es 0 c.len-3.result) c.requires.board.ledger.empty ∙ ap (λ (n : ℕ). newcomers c.in-Ok-new.opened.0 [] 0 n) all

pub serve_and_close-board-requires-clause-ready : goal.serve_and_close-board-requires-clause-ready
serve_and_close-board-requires-clause-ready g c κs within =
    all_ready c.args.policy.now c.args.board.ledger.birth (length c.args.viewers.now.items) c.args.glasses.items c.args.viewers.now.items c.take_seats.new.seats.items c.requires.board.glasses_are
    c.take_seats.ensures.glasses_are c.take_seats.ensures.viewers_are c.requires.company.new c.take_seats.ensures.numbers c.requires.board.told

pub leave_seats-requires-clause-room : goal.leave_seats-requires-clause-room
leave_seats-requires-clause-room g c =
    let own = c.settle_up-told.new.seats.ok.0 in
    let same : length c.settle_up-told.new.seats.items ≡ length c.take_seats.new.seats.items = c.settle_up-told.ensures.settled.0 ∙ c.serve_and_close-board.ensures.looked.0 in
    let many : length c.take_seats.new.seats.items ≡ length c.args.viewers.now.items = as_many c.take_seats.new.seats.items c.args.viewers.now.items c.take_seats.ensures.viewers_are in
    let were = c.args.viewers.now.ok.0 in
    let fits = c.args.viewers.now.ok.1 in
    let kept : vec_capacity c.take_seats.new.viewers ≡ vec_capacity c.args.viewers.now = c.take_seats.ensures.left.1 in
    omega (arith, own, same, many, were, fits, kept)

pub returns-in-Ok-new-clause-root : goal.returns-in-Ok-new-clause-root
returns-in-Ok-new-clause-root g c =
    let same : c.into_ledger-ledger.result ≡ c.serve_and_close-board.result.ledger = c.into_ledger-ledger.ensures ∙ c.settle_up-told.ensures.board in
    let root : SameRoot c.args.board.ledger c.into_ledger-ledger.result =
    subst (λ (b : BookView). SameRoot c.args.board.ledger b) (sym same) (subst (λ (b : BoardView). SameRoot b.ledger c.serve_and_close-board.result.ledger) c.in-Ok-new.ensures.desk.0 c.serve_and_close-board.ensures.root) in
    (sym root.0 ∙ c.requires.board.ledger.named, sym root.1)

pub returns-in-Ok-new-clause-headline : goal.returns-in-Ok-new-clause-headline
returns-in-Ok-new-clause-headline g c =
    let K = crewmen g.C.Clock.readings g.D.Door.doorway in
    let crew = c.args.crew.now.items in
    let np = c.args.policy.now in
    let birth = c.args.board.ledger.birth in
    let shut = c.serve_and_close-board.result.ledger in
    let ledger = c.into_ledger-ledger.result in
    let same : ledger ≡ shut = c.into_ledger-ledger.ensures ∙ c.settle_up-told.ensures.board in
    let root : SameRoot c.args.board.ledger ledger =
    subst (λ (b : BookView). SameRoot c.args.board.ledger b) (sym same) (subst (λ (b : BoardView). SameRoot b.ledger shut) c.in-Ok-new.ensures.desk.0 c.serve_and_close-board.ensures.root) in
    let timed = subst (λ (b : BoardView). CanBeServed b.ledger) (sym c.in-Ok-new.ensures.desk.0) c.requires.board.ledger.served in
    let born : c.in-Ok-new.opened.0.root.ledger.birth ≡ birth = ap (λ (b : BoardView). b.ledger.birth) c.in-Ok-new.ensures.desk.0 in
    headline_of c.book.result.now ledger c.book.ensures c.keeps.ensures.kept c.keeps.ensures.only c.keeps.ensures.safe np birth (sym root.0 ∙ c.requires.board.ledger.named) (sym root.1) (length (K crew))
    (subst (λ (b : BookView). HaveWorked g.D.L.Link.traffic np birth b.entries 0 (K crew) (K c.serve_and_close-board.new.crew.items)) (sym same)
    (subst (λ (t : ℕ). HaveWorked g.D.L.Link.traffic np t shut.entries 0 (K crew) (K c.serve_and_close-board.new.crew.items)) born
    (c.serve_and_close-board.ensures.worked c.in-Ok-new.opened.0.root.ledger.birth timed.timed)))
    (λ n low. subst (λ (b : BookView). part n b.entries ≡ []) (sym same)
    (c.serve_and_close-board.ensures.others n (subst (λ (k : ℕ). k ≤ n) (length-map crew (crewman g.C.Clock.readings g.D.Door.doorway)) low)))

pub returns-in-Ok-new-clause-viewed : goal.returns-in-Ok-new-clause-viewed
returns-in-Ok-new-clause-viewed g c =
    (all_served c.args.policy.now c.args.board.ledger.birth (length c.args.viewers.now.items) c.args.glasses.items c.args.viewers.now.items c.take_seats.new.seats.items c.requires.board.glasses_are
    c.take_seats.ensures.glasses_are c.take_seats.ensures.viewers_are c.requires.company.new g.D.Door.doorway g.D.L.Link.traffic c.serve_and_close-board.result.ledger.entries c.leave_seats.new.viewers.items
    c.serve_and_close-board.new.seats.items c.settle_up-told.new.seats.items c.leave_seats.ensures c.serve_and_close-board.ensures.looked c.settle_up-told.ensures.settled).0

pub returns-in-Ok-new-clause-told : goal.returns-in-Ok-new-clause-told
returns-in-Ok-new-clause-told g c =
    let V = watchers g.D.Door.doorway in
    let same : c.into_ledger-ledger.result ≡ c.serve_and_close-board.result.ledger = c.into_ledger-ledger.ensures ∙ c.settle_up-told.ensures.board in
    λ yes.
    subst (λ (b : BookView). AreToldOf g.D.L.Link.traffic c.args.policy.now c.args.board.ledger.birth b.entries (V c.args.viewers.now.items) (V c.leave_seats.new.viewers.items)) (sym same)
    ((all_served c.args.policy.now c.args.board.ledger.birth (length c.args.viewers.now.items) c.args.glasses.items c.args.viewers.now.items c.take_seats.new.seats.items c.requires.board.glasses_are
    c.take_seats.ensures.glasses_are c.take_seats.ensures.viewers_are c.requires.company.new g.D.Door.doorway g.D.L.Link.traffic c.serve_and_close-board.result.ledger.entries c.leave_seats.new.viewers.items
    c.serve_and_close-board.new.seats.items c.settle_up-told.new.seats.items c.leave_seats.ensures c.serve_and_close-board.ensures.looked c.settle_up-told.ensures.settled).1
    (sym c.settle_up-told.ensures.told ∙ yes))

pub destroy_empty-requires : goal.destroy_empty-requires
destroy_empty-requires g c = c.in-Ok.ensures.len

pub destroy_empty-requires-in-Err : goal.destroy_empty-requires-in-Err
destroy_empty-requires-in-Err g c = c.in-Ok.ensures.len

pub destroy_empty-requires-in-Err-2 : goal.destroy_empty-requires-in-Err-2
destroy_empty-requires-in-Err-2 g c = c.in-Ok-with_capacity.ensures.len

pub overflow_cast-len : goal.overflow_cast-len
overflow_cast-len g c = omega (arith, c.len-3.ensures, c.args.crew.now.ok.0, c.requires.company.workers.few)

pub new-requires : goal.new-requires
new-requires g c =
    let all : c.len-3.result ≡ length c.args.crew.now.items = c.len-3.ensures ∙ c.args.crew.now.ok.0 in
    (omega (arith, all, c.requires.company.workers.some), omega (arith, all, c.requires.company.workers.few))

pub take_seats-requires-clause-empty : goal.take_seats-requires-clause-empty
take_seats-requires-clause-empty g c = c.in-Ok-with_capacity.ensures.items

pub take_seats-requires-clause-few : goal.take_seats-requires-clause-few
take_seats-requires-clause-few g c = c.requires.company.few

pub take_seats-requires-clause-room : goal.take_seats-requires-clause-room
take_seats-requires-clause-room g c = omega (arith, c.len-2.ensures, c.args.viewers.now.ok.0, c.in-Ok-with_capacity.ensures.capacity)

pub serve_and_close-board-requires-clause-posts : goal.serve_and_close-board-requires-clause-posts
serve_and_close-board-requires-clause-posts g c κs within = (c.in-Ok.ensures.items, omega (arith, c.len.ensures, c.args.crew.now.ok.0, c.in-Ok.ensures.capacity))

pub serve_and_close-board-requires-clause-crew : goal.serve_and_close-board-requires-clause-crew
serve_and_close-board-requires-clause-crew g c κs within = c.requires.company.workers

pub leave_seats-requires-clause-empty : goal.leave_seats-requires-clause-empty
leave_seats-requires-clause-empty g c = c.take_seats.ensures.left.0
