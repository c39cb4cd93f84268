use Rattle.std.proofs.Common.{◌≡◌, true, List, [], refl, ap, ◌∙◌, length}
use Rattle.std.specs.Prelude.{◌||◌, is_some}
use Rattle.std.specs.List.{list_any}
use Rattle.gt_base.specs.declared.requests.Entry.{Entry}
use Rattle.core_machine.specs.Books.{BookView}
use Rattle.line_server.specs.declared.workers.Worker.{Worker}
use Rattle.snapshot_readers.specs.declared.viewers.Viewer.{Viewer}
use Rattle.snapshot_readers.specs.Seats.{watchers}
use Rattle.gtrbac_daemon.specs.Crew.{crewmen, is_memory, is_door_fault, is_spent}
use Rattle.gtrbac_daemon.specs.Views.{as_work, views_status_by, first_above, numbers_of, first_late, views_status, company, view_way}
use Rattle.gtrbac_daemon.proofs.AnyRuns.{none_served, all_served}
use Rattle.gtrbac_daemon.proofs.ViewServed.{status_same, has_served}
use Rattle.gtrbac_daemon.proofs.views.serve_views.Goals as goal

pub returns-in-Ok-serve_at : goal.returns-in-Ok-serve_at
returns-in-Ok-serve_at g c = λ stock stock'.
    let k = g.C.Clock.readings in
    let d = g.D.Door.doorway in
    let ws = c.serve_at.new.crew.items in
    let vs = c.serve_at.new.viewers.items in
    let board = c.in-Ok-open_board in
    let at = c.in-Ok-serve_at in
    let es : List Entry = at.ledger.entries in
    let late = c.first_of_viewers-late.result in
    let W = Worker g.row.D.Denot g.row.C.Denot g.row.G.Denot g.row.D-L.Denot in
    let V = Viewer g.row.D.Denot g.row.G.Denot g.row.D-L.Denot in
    let len : c.len-len.result ≡ length es = c.len-len.ensures ∙ (ap (λ (xs : List Entry). length xs) c.entries.ensures.value ∙ ap (λ (b : BookView). length b.entries) c.book.ensures) in
    let looked : c.as_slice.result.now ≡ vs = c.as_slice.ensures.value in
    let late_is : late ≡ first_late es (watchers d vs) = c.first_of_viewers-late.ensures ∙ λ i. first_above (len i) (numbers_of (watchers d (looked i))) in
    let crew : c.as_slice-in-Ok-serve_at.result.now ≡ ws = c.as_slice-in-Ok-serve_at.ensures.value in
    let viewers : c.as_slice-in-Ok-serve_at-2.result.now ≡ vs = c.as_slice-in-Ok-serve_at-2.ensures.value in
    let said : at.told ≡ true → c.due_of_all-due.result ≡ views_status es (company (crewmen k d ws) (watchers d vs)) =
    λ yes. c.due_of_all-due.ensures.told yes ∙ ((λ i. views_status_by
    (list_any (λ (w : W). is_memory w.outcome) (crew i) || list_any (λ (v : V). is_memory (as_work v.outcome)) (viewers i))
    (list_any (λ (w : W). is_door_fault w.outcome) (crew i) || list_any (λ (v : V). is_door_fault (as_work v.outcome)) (viewers i))
    (list_any (λ (w : W). is_spent w.outcome) (crew i) || list_any (λ (v : V). is_spent (as_work v.outcome)) (viewers i)) (is_some late))
    ∙ status_same k d es ws vs late late_is) in (
      es,
      all_served (view_way g.D.L.Link.traffic es) _ board.policy _ board.board.ledger.birth _ _ _ c.now-minute.ensures board.ensures.root.0 board.ensures.root.1
          (has_served g.D.L.Link.traffic board.policy board.board.ledger.birth c.write_views.result c.due_of_all-due.result late _ _ at.ledger at.told
          at.ensures.root.0 at.ensures.root.1 at.ensures.headline at.ensures.viewed at.ensures.told late_is said c.due_of_all-due.ensures.untold c.write_views.ensures),
    )

pub returns-in_default : goal.returns-in_default
returns-in_default g c = λ stock stock'. ([], none_served _ _ _ _ c.now-minute.result c.now-minute.ensures refl refl refl)

pub returns-in_default-open_board : goal.returns-in_default-open_board
returns-in_default-open_board g c = λ stock stock'. ([], none_served _ _ _ _ c.now-minute.result c.now-minute.ensures refl refl refl)

pub returns : goal.returns
returns g c = λ stock stock'.
    let err = c.in-Err.ensures.err in (
      [],
      none_served _ _ _ _ c.now-minute.result c.now-minute.ensures (λ i. company (crewmen g.C.Clock.readings g.D.Door.doorway (err.0 i).items) (watchers g.D.Door.doorway (err.1 i).items)) refl refl,
    )
