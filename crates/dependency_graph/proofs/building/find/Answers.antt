use Rattle.std.proofs.Common.{Some}
use Rattle.dependency_graph.proofs.Finding.{place}
use Rattle.dependency_graph.proofs.building.find.Goals as goal

pub returns-in-Some : goal.returns-in-Some
returns-in-Some c = place c.args.events.now.keys c.args.e (Some c.in-Some.place) c.in-Some.ensures.index c.in-Some.ensures.found
