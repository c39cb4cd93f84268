use Rattle.line_server.proofs.Crew.{worker_told}
use Rattle.line_server.proofs.laws.workers_are_told.Goals as goal

pub returns : goal.returns
returns g c = λ root np. worker_told g.L.Link.traffic np (g.M.Keeps.list root) (g.M.Machine.legal root) (g.M.Machine.now_of root)
