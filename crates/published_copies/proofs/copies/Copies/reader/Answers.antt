use Rattle.published_copies.proofs.Growing.{admits, forks, merges}
use Rattle.published_copies.proofs.copies.Copies.reader.Goals as goal

pub reader-requires : goal.reader-requires
reader-requires g c = admits g.row.T.Denot (λ x. g.T.Replica.sound (g.T.Absorb.state x)) (λ x. g.T.Replica.root (g.T.Absorb.state x)) (λ x. g.T.Replica.list (g.T.Absorb.state x))

pub tell-requires : goal.tell-requires
tell-requires g c = forks g.row.T.Denot (λ x. g.T.Replica.sound (g.T.Absorb.state x)) (λ x. g.T.Replica.root (g.T.Absorb.state x)) (λ x. g.T.Replica.list (g.T.Absorb.state x)) _ _

pub learn-requires-clause-rule : goal.learn-requires-clause-rule
learn-requires-clause-rule g c = merges g.row.T.Denot (λ x. g.T.Replica.sound (g.T.Absorb.state x)) (λ x. g.T.Replica.root (g.T.Absorb.state x)) (λ x. g.T.Replica.list (g.T.Absorb.state x)) _ _ _ _
