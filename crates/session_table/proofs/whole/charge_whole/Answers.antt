use Rattle.std.proofs.Common.{◌+◌, ◌&&◌, cond, nat_le, nat_lt, count_by, take, sym, ap, ◌∙◌, arith}
use Rattle.std.proofs.lemmas.List.{take_all}
use Rattle.gtrbac_model.specs.Sessions.{is_of}
use Rattle.session_table.specs.Charges.{covering}
use Rattle.session_table.proofs.Charging.{count_more}
use Rattle.session_table.proofs.Wholes.{joined_one}
use Rattle.session_table.proofs.whole.charge_whole.Goals as goal

pub loop-a-preserved : goal.loop-a-preserved
loop-a-preserved c = record {
  days = λ u r d.
      c.push.ensures.days u r d
      ∙ ap (λ z. z + cond (is_of u r c.a-item.result && (nat_le c.args.first d && nat_lt d c.args.past)) 1 0) (c.loop-a.invariant.days u r d)
      ∙ joined_one (covering c.args.stretches.now.items u r d) (count_by (is_of u r) (take c.loop-a.a-index c.args.active.now)) (is_of u r c.a-item.result) (nat_le c.args.first d && nat_lt d c.args.past)
      ∙ ap (λ n. covering c.args.stretches.now.items u r d + cond (nat_le c.args.first d && nat_lt d c.args.past) n 0)
      (ap (λ a. count_by (is_of u r) (take c.loop-a.a-index c.args.active.now) + cond (is_of u r a) 1 0) c.a-item.is
      ∙ sym (count_more (is_of u r) c.args.active.now c.loop-a.a-index c.a-item.result c.loop-a-test.true));
  before = λ day le was. c.push.ensures.before day le (c.loop-a.invariant.before day le was);
  room = omega (arith, c.push.ensures.len, c.push.ensures.capacity, c.loop-a.invariant.room);
}

pub returns-clause-days : goal.returns-clause-days
returns-clause-days c = λ u r d.
    c.loop-a.invariant.days u r d
    ∙ ap (λ xs. covering c.args.stretches.now.items u r d + cond (nat_le c.args.first d && nat_lt d c.args.past) (count_by (is_of u r) xs) 0) (take_all c.loop-a.a-index c.args.active.now c.loop-a-test.false)
