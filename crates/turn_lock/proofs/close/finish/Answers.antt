use Rattle.std.proofs.Common.{ap, sym, ◌∙◌, subst}
use Rattle.turn_lock.specs.Turns.{EndsPasses}
use Rattle.turn_lock.proofs.Seated.{final_home, same_home}
use Rattle.turn_lock.proofs.close.finish.Goals as goal

pub unreachable-requires : goal.unreachable-requires
unreachable-requires g c =
    let t = final_home g.M.Keeps.list g.M.Keeps.same_root c.args.table.shared.key _ _ c.args.seat.id c.args.seat.me.0 _ c.close_with-closed.ensures.values.2 (ap (λ m. m.0.stage) c.requires.seat) c.requires.all c.take-spot.ensures.value in
    c.in_default.not-Home t.0 t.1

pub returns : goal.returns
returns g c =
    let t = final_home g.M.Keeps.list g.M.Keeps.same_root c.args.table.shared.key _ _ c.args.seat.id c.args.seat.me.0 _ c.close_with-closed.ensures.values.2 (ap (λ m. m.0.stage) c.requires.seat) c.requires.all c.take-spot.ensures.value in
    let same = same_home g.M.Keeps.list g.M.Keeps.same_root c.args.table.shared.key t.0 c.in-Home.value (sym t.1 ∙ c.in-Home.is) in
    subst (EndsPasses g.M.Keeps.list g.M.Keeps.same_root c.args.table.shared.key.value.value c.args.table.shared.key.passes c.args.seat.me.0.accounts) same t.2
