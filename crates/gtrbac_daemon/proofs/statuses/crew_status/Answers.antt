use Rattle.std.proofs.Common.{sym, ◌∙◌}
use Rattle.std.specs.List.{list_any}
use Rattle.line_server.specs.declared.workers.Worker.{Worker}
use Rattle.gtrbac_daemon.specs.Crew.{is_door_fault, is_spent, status_by}
use Rattle.gtrbac_daemon.proofs.statuses.crew_status.Goals as goal

pub returns-then-some_out_of_memory : goal.returns-then-some_out_of_memory
returns-then-some_out_of_memory g c =
    let W = Worker g.row.D.Denot g.row.C.Denot g.row.G.Denot g.row.D-L.Denot in
    let memory = sym c.if-some_out_of_memory.true ∙ c.some_out_of_memory.ensures in
    λ i. status_by (memory i) (list_any (λ (w : W). is_door_fault w.outcome) c.args.crew.now) (list_any (λ (w : W). is_spent w.outcome) c.args.crew.now)

pub returns-then-some_failed : goal.returns-then-some_failed
returns-then-some_failed g c =
    let W = Worker g.row.D.Denot g.row.C.Denot g.row.G.Denot g.row.D-L.Denot in
    let memory = sym c.if-some_out_of_memory.false ∙ c.some_out_of_memory.ensures in
    let failed = sym c.if-some_failed.true ∙ c.some_failed.ensures in
    λ i. status_by (memory i) (failed i) (list_any (λ (w : W). is_spent w.outcome) c.args.crew.now)

pub returns-then-some_spent : goal.returns-then-some_spent
returns-then-some_spent g c =
    let memory = sym c.if-some_out_of_memory.false ∙ c.some_out_of_memory.ensures in
    let failed = sym c.if-some_failed.false ∙ c.some_failed.ensures in
    let spent = sym c.if-some_spent.true ∙ c.some_spent.ensures in
    λ i. status_by (memory i) (failed i) (spent i)

pub returns-else-some_spent : goal.returns-else-some_spent
returns-else-some_spent g c =
    let memory = sym c.if-some_out_of_memory.false ∙ c.some_out_of_memory.ensures in
    let failed = sym c.if-some_failed.false ∙ c.some_failed.ensures in
    let spent = sym c.if-some_spent.false ∙ c.some_spent.ensures in
    λ i. status_by (memory i) (failed i) (spent i)
