use Rattle.std.proofs.Common.{◌≡◌, ◌+◌, ◌*◌, ◌≤◌, ◌&&◌, true, cond, nat_eq, count_by, take, refl, sym, ap, ◌∙◌, subst, arith}
use Rattle.std.proofs.lemmas.Bool.{eq-eqb}
use Rattle.gt_base.specs.declared.events.RoleId.{RoleId}
use Rattle.gt_base.specs.declared.events.UserId.{UserId}
use Rattle.gtrbac_model.specs.Sessions.{is_of}
use Rattle.session_table.specs.Charges.{charged_by_rows}
use Rattle.session_table.proofs.Charging.{count_more, count_take, joined, one_fits}
use Rattle.session_table.proofs.charges.charge_day.Goals as goal

pub loop-a-preserved : goal.loop-a-preserved
loop-a-preserved c = record {
  charged = λ u r d.
      c.charge_one-place.ensures.charged u r d
      ∙ ap (λ z. z + cond (is_of u r c.a-item.result && nat_eq c.args.day d) c.args.minutes 0) (c.loop-a.invariant.charged u r d)
      ∙ joined (charged_by_rows c.args.charges.now.entries u r d) c.args.minutes (count_by (is_of u r) (take c.loop-a.a-index c.args.active.now)) (is_of u r c.a-item.result) (nat_eq c.args.day d)
      ∙ ap (λ n. charged_by_rows c.args.charges.now.entries u r d + cond (nat_eq c.args.day d) (c.args.minutes * n) 0)
      (ap (λ a. count_by (is_of u r) (take c.loop-a.a-index c.args.active.now) + cond (is_of u r a) 1 0) c.a-item.is
      ∙ sym (count_more (is_of u r) c.args.active.now c.loop-a.a-index c.a-item.result c.loop-a-test.true));
  room = omega (arith, c.charge_one-place.ensures.spare, c.loop-a.invariant.room);
}

pub charge_one-place-requires-clause-bound : goal.charge_one-place-requires-clause-bound
charge_one-place-requires-clause-bound c =
    let u : UserId = c.a-item.result.user in
    let r : RoleId = c.a-item.result.role in
    let own : is_of u r c.a-item.result ≡ true = (λ i. eq-eqb u.0 u.0 refl i && eq-eqb r.0 r.0 refl i) in
    let more : count_by (is_of u r) (take (c.loop-a.a-index + 1) c.args.active.now) ≡ count_by (is_of u r) (take c.loop-a.a-index c.args.active.now) + 1 =
    count_more (is_of u r) c.args.active.now c.loop-a.a-index c.a-item.result c.loop-a-test.true
    ∙ ap (λ a. count_by (is_of u r) (take c.loop-a.a-index c.args.active.now) + cond (is_of u r a) 1 0) (sym c.a-item.is)
    ∙ ap (λ b. count_by (is_of u r) (take c.loop-a.a-index c.args.active.now) + cond b 1 0) own in
    let le : count_by (is_of u r) (take c.loop-a.a-index c.args.active.now) + 1 ≤ count_by (is_of u r) c.args.active.now =
    subst (λ n. n ≤ count_by (is_of u r) c.args.active.now) more (count_take (is_of u r) (c.loop-a.a-index + 1) c.args.active.now) in
    one_fits _ (charged_by_rows c.args.charges.now.entries u r c.args.day) c.args.minutes (count_by (is_of u r) (take c.loop-a.a-index c.args.active.now)) (count_by (is_of u r) c.args.active.now)
    (nat_eq c.args.day c.args.day) (eq-eqb c.args.day c.args.day refl) (c.loop-a.invariant.charged u r c.args.day) le (c.requires.bound u r)
