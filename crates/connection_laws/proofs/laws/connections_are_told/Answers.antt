use Rattle.connection_laws.proofs.Fronts.{acted_get}
use Rattle.connection_laws.proofs.Longer.{conn_longer}
use Rattle.connection_laws.proofs.laws.connections_are_told.Goals as goal

pub returns-clause-front : goal.returns-clause-front
returns-clause-front c = λ np birth who h older acted all. acted_get np birth who h older acted all

pub returns-clause-longer : goal.returns-clause-longer
returns-clause-longer c = λ np birth who h h' older taken readings own given acted end more conn. conn_longer np birth who h h' more older taken readings own given acted end conn
