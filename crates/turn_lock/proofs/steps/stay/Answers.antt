use Rattle.std.proofs.Common.{rules, ◌∷◌, [], refl, ap, ◌∙◌}
use Rattle.turn_lock.specs.declared.view.Spot.TheVariants.{Home, Away}
use Rattle.turn_lock.proofs.Seated.{stays_at, exchanged_is}
use Rattle.turn_lock.proofs.steps.stay.Goals as goal

pub load-requires : goal.load-requires
load-requires g c =
    let now = exchanged_is g.M.Keeps.list g.M.Keeps.same_root c.args.top.now.key c.args.seat.now.me c.exchange-away.new.seat.me 0 Away (Home c.args.value) (ap (λ m. m.1) c.requires.turn) c.exchange-away.ensures.3
    ∙ ap (λ m. (m.0, (0, Home c.args.value) ∷ [])) c.requires.turn in
    (search rules, search rules, stays_at g.M.Keeps.list g.M.Keeps.same_root c.args.top.now.key _ _ _ c.args.top.now.key.value.value _ _ _ _ c.args.value now (search rules) refl c.requires.root)
