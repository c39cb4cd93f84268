use Rattle.std.proofs.Common.{ℕ, ◌≡◌, List, [], ◌∷◌, ◌++◌, length, sym, ap, subst, ◌∙◌, refl, arith, length-append}
use Rattle.std.specs.Prelude.{IfSome}
use Rattle.snapshot_readers.specs.declared.ends.Viewed.{Viewed}
use Rattle.snapshot_readers.specs.declared.ends.ViewerEnd.TheVariants.{Done, DoorFault, Memory}
use Rattle.gt_io.specs.Links.{Tally, Doorway}
use Rattle.gt_io.specs.Memory.{one_more}
use Rattle.snapshot_readers.specs.Crew.{ViewerSpot, ViewedSoFar}
use Rattle.snapshot_readers.specs.Viewing.{Views}
use Rattle.connection_laws.specs.Desks.{GlancesCanBeTold}
use Rattle.snapshot_readers.proofs.Linking.{no_links, counted_by, link_done, works_ended, at_rest}
use Rattle.snapshot_readers.proofs.viewers.view_on.Goals as goal

pub loop-door-init : goal.loop-door-init
loop-door-init g c =
    let empty = c.requires.empty in
    let none = ap (λ (ss : List (Viewed g.row.D-L.Denot)). length ss) empty in
    let o : ViewerSpot g.row.D-L.Denot = record { seen = c.args.glass.now.seen; door = g.D.Door.doorway c.args.door.now } in
    let none_yet = no_links g.D.L.Link.traffic c.args.policy.now c.args.glass.now.birth o c.args.served.now.items empty in
    record {
      tales = [];
      worked = none_yet;
      counted = counted_by g.D.L.Link.traffic c.args.policy.now c.args.glass.now.birth o o c.args.served.now.items [] none_yet;
      glass = (refl, refl);
      calls = omega arith;
      few = omega (arith, none);
      tally = refl;
    }

pub view_link-requires-clause-shows : goal.view_link-requires-clause-shows
view_link-requires-clause-shows g c =
    let same = c.loop-door.invariant.glass in
    (same.0 ∙ c.requires.shows.0, subst (λ (b : ℕ). GlancesCanBeTold c.args.policy.now b) (sym same.1) c.requires.shows.1)

pub loop-door-preserved : goal.loop-door-preserved
loop-door-preserved g c =
    let traffic = g.D.L.Link.traffic in
    let np = c.args.policy.now in
    let birth = c.args.glass.now.birth in
    let inv = c.loop-door.invariant in
    let d = g.D.Door in
    let s = c.view_link.result in
    let link = c.in-Ok-Some.link in
    let o : ViewerSpot g.row.D-L.Denot = record { seen = c.args.glass.now.seen; door = d.doorway c.args.door.now } in
    let p : ViewerSpot g.row.D-L.Denot = record { seen = c.loop-door.glass.seen; door = d.doorway c.make_room.new.door } in
    let p' : ViewerSpot g.row.D-L.Denot = record { seen = c.view_link.new.glass.seen; door = d.doorway c.next.new.self } in
    let worked = at_rest traffic np birth o p (d.doorway c.loop-door.door) c.loop-door.served.items inv.tales c.make_room.ensures.door inv.worked in
    let views = subst (λ (b : ℕ). Views np b p.seen p'.seen s.lens.items s.denied c.loop-door.calls c.view_link.new.calls (traffic link) (traffic s.link) s.outcome) inv.glass.1 c.view_link.ensures.views in
    let y = link_done traffic np birth o p p' c.loop-door.served.items inv.tales s link c.loop-door.calls c.view_link.new.calls worked views (rw c.in-Ok-Some.field-0-is at c.in-Ok-Some.ensures.links) (rw c.in-Ok-Some.field-0-is at c.in-Ok-Some.ensures.fresh) in
    let items = c.push.ensures.items ∙ ap (λ (ss : List (Viewed g.row.D-L.Denot)). ss ++ s ∷ []) c.make_room.ensures.items in
    let done : ViewedSoFar traffic np birth o p' c.push.new.self.items y.0 = subst (λ (ss : List (Viewed g.row.D-L.Denot)). ViewedSoFar traffic np birth o p' ss y.0) (sym items) y.1 in
    let tally : p'.door.tally ≡ p.door.tally = rw c.in-Ok-Some.field-0-is at c.in-Ok-Some.ensures.tally in
    let one = ap (λ (ss : List (Viewed g.row.D-L.Denot)). length ss) items ∙ length-append c.loop-door.served.items (s ∷ []) in
    let calls = inv.calls in
    let more = c.view_link.ensures.few in
    let count = c.len.ensures in
    let low = c.loop-door-test.true in
    record {
      tales = y.0;
      worked = done;
      counted = counted_by traffic np birth o p' c.push.new.self.items y.0 done;
      glass = (c.view_link.ensures.glass.0 ∙ inv.glass.0, c.view_link.ensures.glass.1 ∙ inv.glass.1);
      calls = omega (arith, one, calls, more);
      few = omega (arith, one, count, low);
      tally = tally ∙ ap (λ (e : Doorway g.row.D-L.Denot). e.tally) c.make_room.ensures.door ∙ inv.tally;
    }

pub returns-then-is_err-clause-works : goal.returns-then-is_err-clause-works
returns-then-is_err-clause-works g c =
    let inv = c.loop-door.invariant in
    let d = g.D.Door in
    let o : ViewerSpot g.row.D-L.Denot = record { seen = c.args.glass.now.seen; door = d.doorway c.args.door.now } in
    let p : ViewerSpot g.row.D-L.Denot = record { seen = c.loop-door.glass.seen; door = d.doorway c.loop-door.door } in
    let is = c.make_room.ensures.door in
    let kept = c.make_room.ensures.items in
    let few = ap (λ (ss : List (Viewed g.row.D-L.Denot)). length ss) kept in
    let len = c.len.ensures in
    let low = c.loop-door-test.true in
    works_ended g.D.L.Link.traffic c.args.policy.now c.args.glass.now.birth o p (d.doorway c.make_room.new.door) c.loop-door.served.items c.make_room.new.list.items inv.tales Memory kept inv.worked
    (ap (λ (e : Doorway g.row.D-L.Denot). e.links) is) (omega (arith, few, len, low), ap (λ (e : Doorway g.row.D-L.Denot). e.tally) is ∙ inv.tally)

pub returns-in-Err-clause-works : goal.returns-in-Err-clause-works
returns-in-Err-clause-works g c =
    let inv = c.loop-door.invariant in
    let d = g.D.Door in
    let o : ViewerSpot g.row.D-L.Denot = record { seen = c.args.glass.now.seen; door = d.doorway c.args.door.now } in
    let p : ViewerSpot g.row.D-L.Denot = record { seen = c.loop-door.glass.seen; door = d.doorway c.loop-door.door } in
    let is = c.make_room.ensures.door in
    let kept = c.make_room.ensures.items in
    let few = ap (λ (ss : List (Viewed g.row.D-L.Denot)). length ss) kept in
    let len = c.len.ensures in
    let low = c.loop-door-test.true in
    let tally = ap (λ (e : Doorway g.row.D-L.Denot). e.tally) is ∙ inv.tally in
    works_ended g.D.L.Link.traffic c.args.policy.now c.args.glass.now.birth o p (d.doorway c.next.new.self) c.loop-door.served.items c.make_room.new.list.items inv.tales DoorFault kept inv.worked
    (c.in-Err.ensures.links ∙ ap (λ (e : Doorway g.row.D-L.Denot). e.links) is) (omega (arith, few, len, low), c.in-Err.ensures.tally ∙ ap (λ (t : Tally). record t { faults = one_more t.faults }) tally)

pub returns-in-Ok-None-clause-works : goal.returns-in-Ok-None-clause-works
returns-in-Ok-None-clause-works g c =
    let inv = c.loop-door.invariant in
    let d = g.D.Door in
    let o : ViewerSpot g.row.D-L.Denot = record { seen = c.args.glass.now.seen; door = d.doorway c.args.door.now } in
    let p : ViewerSpot g.row.D-L.Denot = record { seen = c.loop-door.glass.seen; door = d.doorway c.loop-door.door } in
    let is = c.make_room.ensures.door in
    let kept = c.make_room.ensures.items in
    let few = ap (λ (ss : List (Viewed g.row.D-L.Denot)). length ss) kept in
    let len = c.len.ensures in
    let low = c.loop-door-test.true in
    let tally = ap (λ (e : Doorway g.row.D-L.Denot). e.tally) is ∙ inv.tally in
    let none = rw c.in-Ok-None.field-0-is at c.in-Ok-None.ensures.links in
    let ends = rw c.in-Ok-None.field-0-is at c.in-Ok-None.ensures.tally in
    works_ended g.D.L.Link.traffic c.args.policy.now c.args.glass.now.birth o p (d.doorway c.next.new.self) c.loop-door.served.items c.make_room.new.list.items inv.tales Done kept inv.worked
    (none.1 ∙ ap (λ (e : Doorway g.row.D-L.Denot). e.links) is)
    (omega (arith, few, len, low), subst (λ ls. IfSome ls (λ xs. xs ≡ [])) (sym none.1) none.0, ends ∙ ap (λ (t : Tally). record t { ends = one_more t.ends }) tally)
