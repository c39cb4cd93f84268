use Rattle.std.proofs.Common.{◌≡◌, ℕ, length, refl, subst, ◌∙◌}
use Rattle.gtrbac_daemon.specs.Begins.{IsNewDesk}
use Rattle.gtrbac_daemon.specs.Daemon.{crew_way}
use Rattle.gtrbac_daemon.proofs.AnyRuns.{none_served, all_served}
use Rattle.gtrbac_daemon.proofs.Running.{same_status}
use Rattle.gtrbac_daemon.proofs.Served.{log_written}
use Rattle.gtrbac_daemon.proofs.top.serve.Goals as goal

pub work_and_close-closed-requires-clause-desk : goal.work_and_close-closed-requires-clause-desk
work_and_close-closed-requires-clause-desk g c κs within =
    let all : c.len-2.result ≡ length c.args.crew.now.items = c.len-2.ensures ∙ c.args.crew.now.ok.0 in
    subst (λ (n : ℕ). IsNewDesk c.in-Ok-open_desk.policy n c.in-Ok-open_desk.desk c.in-Ok-open_desk.passes.items) all c.in-Ok-open_desk.ensures.new

pub returns-in_default : goal.returns-in_default
returns-in_default g c = λ stock stock'. none_served _ _ _ _ c.now-minute.result c.now-minute.ensures refl refl refl

pub returns-in_default-with_capacity : goal.returns-in_default-with_capacity
returns-in_default-with_capacity g c = λ stock stock'. none_served _ _ _ _ c.now-minute.result c.now-minute.ensures refl refl refl

pub returns : goal.returns
returns g c = λ stock stock'. none_served _ _ _ _ c.now-minute.result c.now-minute.ensures refl refl refl

pub returns-in-Ok-open_desk : goal.returns-in-Ok-open_desk
returns-in-Ok-open_desk g c = λ stock stock'.
    let o = g.K.Sink in
    let closed = c.work_and_close-closed.result in
    let root = c.work_and_close-closed.ensures.root in
    let ws = c.work_and_close-closed.new.crew.items in
    all_served (crew_way g.D.L.Link.traffic) _ c.in-Ok-open_desk.policy _ c.in-Ok-open_desk.desk.root.birth _ _ _ c.now-minute.ensures c.in-Ok-open_desk.ensures.root.0 c.in-Ok-open_desk.ensures.root.1
    (record {
      history = closed.entries;
      headline = c.work_and_close-closed.ensures.headline;
      written =
          log_written closed _ _ root.0 root.1 c.crew_status-due.result _ c.write_up.result
          (c.crew_status-due.ensures ∙ same_status g.C.Clock.readings g.D.Door.doorway ws c.as_slice.result.now c.as_slice.ensures.value)
          (o.output c.args.out.now).written (o.output c.write_up.new.out).written (o.output c.args.out.now).faults (o.output c.write_up.new.out).faults c.write_up.ensures;
    })
