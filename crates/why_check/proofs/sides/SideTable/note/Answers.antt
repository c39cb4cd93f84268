use Rattle.std.proofs.Common.{◌≡◌, List, length, slice_get, Some, None, Result, Ok, Err, OnOk, sym, ◌∙◌, ap}
use Rattle.gt_base.specs.Orders.{fluent_eq}
use Rattle.indexmap.specs.IndexMap.{get}
use Rattle.why_check.specs.Peaks.{role_place, sides_at, sides_in, sides_with}
use Rattle.why_check.specs.declared.sides.Sides.{Sides}
use Rattle.why_check.proofs.Noting.{role_noted, other_noted, peak_noted}
use Rattle.why_check.proofs.sides.SideTable.note.Goals as goal

on_ok : {A E P Q : Type 0} (r : Result A E) → (P → Q) → OnOk r P → OnOk r Q
on_ok (Ok x) f h = f h
on_ok (Err e) f h = h

pub returns-in-Some : goal.returns-in-Some
returns-in-Some c = λ d.
    let t = c.args.self.now in
    let e = c.args.e in
    let row : List Sides = t.roles.items in
    let n = c.in-Some.n in
    let here : role_place (length row) e.fluent ≡ Some n =
    ap (λ (r : List Sides). role_place (length r) e.fluent) (sym c.deref.ensures.value) ∙ sym c.place.ensures.place ∙ c.in-Some.is in
    let v : Sides = sides_with (slice_get row n) e.on c.args.prio in
    peak_noted e d c.args.prio (sides_in t) _ v (ap (λ o. sides_with (sides_at row (get fluent_eq t.others e.fluent) o) e.on c.args.prio) (sym here))
    (role_noted row c.note_role.new.roles.items (get fluent_eq t.others) e.fluent n v here c.note_role.ensures)

pub returns-in-None : goal.returns-in-None
returns-in-None c =
    let t = c.args.self.now in
    let e = c.args.e in
    let row : List Sides = t.roles.items in
    let nowhere : role_place (length row) e.fluent ≡ None =
    ap (λ (r : List Sides). role_place (length r) e.fluent) (sym c.deref.ensures.value) ∙ sym c.place.ensures.place ∙ c.in-None.is in
    let v : Sides = sides_with (get fluent_eq t.others e.fluent) e.on c.args.prio in
    on_ok c.note_other.result
    (λ noted d.
    peak_noted e d c.args.prio (sides_in t) _ v (ap (λ o. sides_with (sides_at row (get fluent_eq t.others e.fluent) o) e.on c.args.prio) (sym nowhere))
    (other_noted row (get fluent_eq t.others) (get fluent_eq c.note_other.new.others) e.fluent v nowhere noted))
    c.note_other.ensures
