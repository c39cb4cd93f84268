use Rattle.std.proofs.Common.{◌≡◌, ℕ, List, ◌+◌, ◌++◌, drop, sym, ap, ◌∙◌}
use Rattle.std.proofs.lemmas.List.{at_drop_more}
use Rattle.snapshot_readers.specs.declared.ends.Viewed.{Viewed}
use Rattle.snapshot_readers.specs.declared.viewers.Viewer.{Viewer}
use Rattle.snapshot_readers.specs.Crew.{all_lens}
use Rattle.snapshot_readers.specs.Seats.{watchers}
use Rattle.gtrbac_daemon.specs.Views.{first_above, numbers_of}
use Rattle.gtrbac_daemon.proofs.ViewWriting.{found_here, found_later, no_some}
use Rattle.gtrbac_daemon.proofs.views_status.first_of_viewers.Goals as goal

pub returns-in-Some : goal.returns-in-Some
returns-in-Some g c =
    let len = c.args.len in
    let ss = c.args.viewers.now in
    let i = c.loop-viewer.viewer-index in
    let s = c.viewer-item.result in
    let V = Viewer g.row.D.Denot g.row.G.Denot g.row.D-L.Denot in
    let numbers : List V → List ℕ = λ l. numbers_of (watchers g.D.Door.doorway l) in
    let rest = numbers (drop (i + 1) ss) in
    let whole = c.loop-viewer.invariant ∙ (at_drop_more (λ (l : List V). first_above len (numbers l)) ss i s c.loop-viewer-test.true ∙ ap (λ (t : V). first_above len (all_lens t.served.items ++ rest)) (sym c.viewer-item.is)) in
    let here : c.first_of_links.result ≡ first_above len (all_lens s.served.items) = c.first_of_links.ensures ∙ ap (λ (l : List (Viewed g.row.D-L.Denot)). first_above len (all_lens l)) c.as_slice.ensures in
    found_here len c.in-Some.n (numbers ss) (all_lens s.served.items) rest whole (sym c.in-Some.is ∙ here)

pub loop-viewer-preserved : goal.loop-viewer-preserved
loop-viewer-preserved g c =
    let len = c.args.len in
    let ss = c.args.viewers.now in
    let i = c.loop-viewer.viewer-index in
    let s = c.viewer-item.result in
    let V = Viewer g.row.D.Denot g.row.G.Denot g.row.D-L.Denot in
    let numbers : List V → List ℕ = λ l. numbers_of (watchers g.D.Door.doorway l) in
    let rest = numbers (drop (i + 1) ss) in
    let whole = c.loop-viewer.invariant ∙ (at_drop_more (λ (l : List V). first_above len (numbers l)) ss i s c.loop-viewer-test.true ∙ ap (λ (t : V). first_above len (all_lens t.served.items ++ rest)) (sym c.viewer-item.is)) in
    let here : c.first_of_links.result ≡ first_above len (all_lens s.served.items) = c.first_of_links.ensures ∙ ap (λ (l : List (Viewed g.row.D-L.Denot)). first_above len (all_lens l)) c.as_slice.ensures in
    found_later len (numbers ss) (all_lens s.served.items) rest whole (sym here ∙ no_some c.first_of_links.result c.in_default.not-Some)
