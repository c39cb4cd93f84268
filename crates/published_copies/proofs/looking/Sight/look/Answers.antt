use Rattle.published_copies.proofs.Growing.{grows, prefix_self}
use Rattle.std.proofs.Common.{refl}
use Rattle.published_copies.proofs.looking.Sight.look.Goals as goal

pub enter_as-requires : goal.enter_as-requires
enter_as-requires g c x =
    grows g.row.T.Denot (λ y. g.T.Replica.sound (g.T.Absorb.state y)) (λ y. g.T.Replica.root (g.T.Absorb.state y)) (λ y. g.T.Replica.list (g.T.Absorb.state y)) _ _ x x refl
    (prefix_self (g.T.Replica.list (g.T.Absorb.state x))) (λ s. s)
