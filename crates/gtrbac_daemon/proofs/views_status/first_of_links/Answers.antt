use Rattle.std.proofs.Common.{◌≡◌, List, ◌+◌, ◌++◌, drop, sym, ap, ◌∙◌}
use Rattle.std.proofs.lemmas.List.{at_drop_more}
use Rattle.snapshot_readers.specs.declared.ends.Viewed.{Viewed}
use Rattle.snapshot_readers.specs.Crew.{all_lens}
use Rattle.gtrbac_daemon.specs.Views.{first_above}
use Rattle.gtrbac_daemon.proofs.ViewWriting.{found_here, found_later, no_some}
use Rattle.gtrbac_daemon.proofs.views_status.first_of_links.Goals as goal

pub returns-in-Some : goal.returns-in-Some
returns-in-Some g c =
    let len = c.args.len in
    let ss = c.args.served.now in
    let i = c.loop-link.link-index in
    let s = c.link-item.result in
    let rest = all_lens (drop (i + 1) ss) in
    let whole = c.loop-link.invariant ∙ (at_drop_more (λ (l : List (Viewed g.row.L.Denot)). first_above len (all_lens l)) ss i s c.loop-link-test.true ∙ ap (λ (t : Viewed g.row.L.Denot). first_above len (t.lens.items ++ rest)) (sym c.link-item.is)) in
    let here : c.first_of.result ≡ first_above len s.lens.items = c.first_of.ensures ∙ ap (first_above len) c.as_slice.ensures in
    found_here len c.in-Some.n (all_lens ss) s.lens.items rest whole (sym c.in-Some.is ∙ here)

pub loop-link-preserved : goal.loop-link-preserved
loop-link-preserved g c =
    let len = c.args.len in
    let ss = c.args.served.now in
    let i = c.loop-link.link-index in
    let s = c.link-item.result in
    let rest = all_lens (drop (i + 1) ss) in
    let whole = c.loop-link.invariant ∙ (at_drop_more (λ (l : List (Viewed g.row.L.Denot)). first_above len (all_lens l)) ss i s c.loop-link-test.true ∙ ap (λ (t : Viewed g.row.L.Denot). first_above len (t.lens.items ++ rest)) (sym c.link-item.is)) in
    let here : c.first_of.result ≡ first_above len s.lens.items = c.first_of.ensures ∙ ap (first_above len) c.as_slice.ensures in
    found_later len (all_lens ss) s.lens.items rest whole (sym here ∙ no_some c.first_of.result c.in_default.not-Some)
