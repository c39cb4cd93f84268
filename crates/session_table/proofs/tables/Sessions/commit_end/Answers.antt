use Rattle.std.proofs.Common.{◌≡◌, ℕ, ◌+◌, ◌-◌, ◌*◌, ◌<◌, Bool, false, not, List, map, filter, count_by, Some, sym, ap, subst, ◌∙◌, arith}
use Rattle.gt_base.specs.declared.events.RoleId.{RoleId}
use Rattle.gt_base.specs.declared.events.UserId.{UserId}
use Rattle.gtrbac_model.specs.Sessions.{Activation, is_of, is_dropped, signal_of}
use Rattle.history_laws.specs.Tables.{minutes_of_day}
use Rattle.session_table.specs.declared.opened.Open.{Open}
use Rattle.session_table.specs.Opened.{role_in, NumberedFrom}
use Rattle.session_table.specs.Charges.{Charged, charged_in}
use Rattle.session_table.specs.Kept.{AreKeptRows}
use Rattle.session_table.specs.Plans.{DropsView}
use Rattle.session_table.specs.Tables.{TableView, NotBefore, table_of, charged_through}
use Rattle.session_table.proofs.Committing.{charges_fit, committed, survivors}
use Rattle.session_table.proofs.Keeping.{listed}
use Rattle.session_table.proofs.Telling.{same_table}
use Rattle.session_table.proofs.tables.Sessions.commit_end.Goals as goal

pub charge_stretch-requires-clause-bound : goal.charge_stretch-requires-clause-bound
charge_stretch-requires-clause-bound c = λ u r d.
    let os : List Open = c.self.inside.sessions.items in
    let active : List Activation = c.self.inside.active.items in
    let rows : Charged = c.self.inside.charges.charged in
    let now_is : c.d.inside.after ≡ c.args.d.after = ap (λ (d : DropsView). d.after) c.d.view_is in
    let to_is : c.d.inside.to ≡ c.args.d.to = ap (λ (d : DropsView). d.to) c.d.view_is in
    let order : c.d.inside.after < c.d.inside.to = omega (arith, now_is, to_is, c.requires.order) in
    let not_before : NotBefore c.self.inside.charged_to c.d.inside.after =
    subst (λ (v : TableView). NotBefore v.charged_to c.d.inside.after) (sym c.self.view_is) (subst (λ (d : DropsView). NotBefore c.args.self.now.charged_to d.after) (sym c.d.view_is) c.requires.not_before) in
    rw c.as_slice.ensures (charges_fit os active rows c.self.inside.charged_to c.self.invariant.kept c.d.inside.after c.d.inside.to order not_before u r d)

pub take_out-requires-clause-numbered : goal.take_out-requires-clause-numbered
take_out-requires-clause-numbered c = (c.self.inside.begun, c.self.invariant.numbered)

pub take_out-requires-clause-listed : goal.take_out-requires-clause-listed
take_out-requires-clause-listed c = λ i a is. c.self.invariant.kept.index a.session a.role ∙ listed c.self.inside.active.items i a is

pub invariant_of-self : goal.invariant_of-self
invariant_of-self c =
    let os : List Open = c.self.inside.sessions.items in
    let active : List Activation = c.self.inside.active.items in
    let rows : Charged = c.self.inside.charges.charged in
    let now_is : c.d.inside.after ≡ c.args.d.after = ap (λ (d : DropsView). d.after) c.d.view_is in
    let to_is : c.d.inside.to ≡ c.args.d.to = ap (λ (d : DropsView). d.to) c.d.view_is in
    let order : c.d.inside.after < c.d.inside.to = omega (arith, now_is, to_is, c.requires.order) in
    let not_before : NotBefore c.self.inside.charged_to c.d.inside.after =
    subst (λ (v : TableView). NotBefore v.charged_to c.d.inside.after) (sym c.self.view_is) (subst (λ (d : DropsView). NotBefore c.args.self.now.charged_to d.after) (sym c.d.view_is) c.requires.not_before) in
    let os' : List Open = c.take_out.new.sessions.items in
    let charged : (u : UserId) (r : RoleId) (d : ℕ) → charged_in c.charge_stretch.new.charges.charged u r d
    ≡ charged_in rows u r d + minutes_of_day c.d.inside.after (c.d.inside.to - c.d.inside.after) d * count_by (is_of u r) active =
    λ u r d. c.charge_stretch.ensures.charged u r d
    ∙ ap (λ xs. charged_in rows u r d + minutes_of_day c.d.inside.after (c.d.inside.to - c.d.inside.after) d * count_by (is_of u r) xs) c.as_slice.ensures in
    let listed : c.deref.result.now ≡ c.args.d.gone = c.deref.ensures.value ∙ ap (λ (d : DropsView). d.gone) c.d.view_is in
    let kept : c.take_out.new.active.items ≡ filter (λ a. role_in os' a.session a.role) active = c.take_out.ensures.active in
    let gone : c.deref.result.now ≡ filter c.requires.test active = listed ∙ c.requires.gone ∙ ap (λ (v : TableView). filter c.requires.test v.active) (sym c.self.view_is) in
    record {
      kept = subst (λ xs. AreKeptRows os' xs c.charge_stretch.new.charges.charged (Some c.d.inside.to)) (sym kept)
          (committed os active rows c.self.inside.charged_to c.self.invariant.kept c.requires.test c.deref.result.now gone os' c.take_out.ensures.roles c.take_out.ensures.count
          c.charge_stretch.new.charges.charged c.d.inside.after c.d.inside.to order not_before charged);
      counted = c.self.invariant.counted ∙ sym c.take_out.ensures.count;
      numbered = subst (λ ss. NumberedFrom 0 ss c.self.inside.begun) (sym c.take_out.ensures.opened) c.self.invariant.numbered;
    }

pub returns-clause-table : goal.returns-clause-table
returns-clause-table c = λ edges caps s e.
    let os : List Open = c.self.inside.sessions.items in
    let active : List Activation = c.self.inside.active.items in
    let rows : Charged = c.self.inside.charges.charged in
    let now_is : c.d.inside.after ≡ c.args.d.after = ap (λ (d : DropsView). d.after) c.d.view_is in
    let to_is : c.d.inside.to ≡ c.args.d.to = ap (λ (d : DropsView). d.to) c.d.view_is in
    let order : c.d.inside.after < c.d.inside.to = omega (arith, now_is, to_is, c.requires.order) in
    let not_before : NotBefore c.self.inside.charged_to c.d.inside.after =
    subst (λ (v : TableView). NotBefore v.charged_to c.d.inside.after) (sym c.self.view_is) (subst (λ (d : DropsView). NotBefore c.args.self.now.charged_to d.after) (sym c.d.view_is) c.requires.not_before) in
    let os' : List Open = c.take_out.new.sessions.items in
    let charged : (u : UserId) (r : RoleId) (d : ℕ) → charged_in c.charge_stretch.new.charges.charged u r d
    ≡ charged_in rows u r d + minutes_of_day c.d.inside.after (c.d.inside.to - c.d.inside.after) d * count_by (is_of u r) active =
    λ u r d. c.charge_stretch.ensures.charged u r d
    ∙ ap (λ xs. charged_in rows u r d + minutes_of_day c.d.inside.after (c.d.inside.to - c.d.inside.after) d * count_by (is_of u r) xs) c.as_slice.ensures in
    let listed : c.deref.result.now ≡ c.args.d.gone = c.deref.ensures.value ∙ ap (λ (d : DropsView). d.gone) c.d.view_is in
    let kept : c.take_out.new.active.items ≡ filter (λ a. role_in os' a.session a.role) active = c.take_out.ensures.active in
    let test : Activation → Bool = is_dropped edges caps s c.args.d.to (charged_through c.args.d.after c.args.d.to (table_of c.args.self.now)) in
    let gone : c.deref.result.now ≡ filter test active = listed ∙ e ∙ ap (λ (v : TableView). filter test v.active) (sym c.self.view_is) in
    same_table _ _
    (c.take_out.ensures.standing ∙ ap (λ (v : TableView). v.sessions) c.self.view_is)
    (kept ∙ survivors os active rows c.self.inside.charged_to c.self.invariant.kept test c.deref.result.now gone os' c.take_out.ensures.roles
    ∙ ap (λ (v : TableView). filter (λ a. not (test a)) v.active) c.self.view_is)
    (λ i u r d. (charged u r d
    ∙ ap (λ (v : TableView). charged_in v.charges u r d + minutes_of_day c.d.inside.after (c.d.inside.to - c.d.inside.after) d * count_by (is_of u r) v.active) c.self.view_is
    ∙ ap (λ (p : DropsView). charged_in c.args.self.now.charges u r d + minutes_of_day p.after (p.to - p.after) d * count_by (is_of u r) c.args.self.now.active) c.d.view_is) i)
    (ap (λ (v : TableView). v.begun) c.self.view_is)
    (ap (map (signal_of false)) e)
