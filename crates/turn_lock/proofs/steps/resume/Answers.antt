use Rattle.std.proofs.Common.{rules, ap}
use Rattle.turn_lock.specs.declared.view.Spot.TheVariants.{Home}
use Rattle.turn_lock.proofs.Seated.{resumes_at, taken_again, in_hand}
use Rattle.turn_lock.proofs.steps.resume.Goals as goal

pub load-requires : goal.load-requires
load-requires g c = (search rules, search rules, resumes_at g.M.Keeps.list g.M.Keeps.same_root c.args.top.now.key _ _ _ c.args.top.now.key.value.value _ _ _ c.requires.kept)

pub exchange-found-requires : goal.exchange-found-requires
exchange-found-requires g c =
    let t = taken_again g.M.Keeps.list g.M.Keeps.same_root c.args.top.now.key _ c.args.top.now.key.value.value _ _ _ 0 c.args.top.now.table_id.slots _ c.requires.kept c.load.ensures.2 in
    (search rules, (_, in_hand g.M.Keeps.list g.M.Keeps.same_root c.args.top.now.key c.load.new.seat.me 0 (Home t.0) (ap (λ m. m.1) t.1)))
