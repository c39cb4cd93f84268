use Rattle.std.proofs.Common.{refl}
use Rattle.gtrbac_daemon.specs.Polls.{poll_way}
use Rattle.gtrbac_daemon.proofs.AnyRuns.{none_served, all_served}
use Rattle.gtrbac_daemon.proofs.Served.{log_written}
use Rattle.gtrbac_daemon.proofs.poll.poll_serve.Goals as goal

pub returns-in_default : goal.returns-in_default
returns-in_default g c = λ stock stock'. none_served _ _ _ _ c.now-minute.result c.now-minute.ensures refl refl refl

pub returns : goal.returns
returns g c = λ stock stock'. none_served _ _ _ _ c.now-minute.result c.now-minute.ensures refl refl refl

pub returns-in-Ok-open_desk : goal.returns-in-Ok-open_desk
returns-in-Ok-open_desk g c = λ stock stock'.
    let o = g.K.Sink in
    let t = c.poll_and_close-closed in
    all_served poll_way _ c.in-Ok-open_desk.policy _ c.in-Ok-open_desk.desk.root.birth _ _ _ c.now-minute.ensures c.in-Ok-open_desk.ensures.root.0 c.in-Ok-open_desk.ensures.root.1
    (record {
      history = t.result.0.entries;
      end = t.result.1;
      headline = t.ensures.headline;
      written =
          log_written t.result.0 _ _ t.ensures.root.0 t.ensures.root.1 c.status_of_run.result _ c.write_up.result c.status_of_run.ensures
          (o.output c.args.out.now).written (o.output c.write_up.new.out).written (o.output c.args.out.now).faults (o.output c.write_up.new.out).faults c.write_up.ensures;
    })
