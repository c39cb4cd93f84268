use Rattle.std.proofs.Common.{◌∙◌, ap}
use Rattle.gt_base.specs.Sets.{has}
use Rattle.gt_base.specs.declared.requests.Request.{Request}
use Rattle.gtrbac_model.specs.Policy.{Policy}
use Rattle.gtrbac_model.specs.Reply.{Point, reply_of}
use Rattle.session_table.specs.Tables.{table_of}
use Rattle.why_check.proofs.sessions.apply.Goals as goal

pub close-requires : goal.close-requires
close-requires c =
    let a = c.requires.answered in
    let p : Policy = record a.policy { edges = c.args.by.now.edges.now.items; caps = c.args.by.now.caps.now.items } in
    let at : Point = record a.point { now = c.args.by.now.instant; status = has c.args.by.now.status.now.set } in
    record {
      policy = p;
      point = at;
      is = a.is ∙ ap (λ (q : Request). reply_of p (record at { table = table_of c.args.table.now }) c.args.actor q) c.in-CloseSession.is;
    }

pub deactivate-requires : goal.deactivate-requires
deactivate-requires c =
    let a = c.requires.answered in
    let p : Policy = record a.policy { edges = c.args.by.now.edges.now.items; caps = c.args.by.now.caps.now.items } in
    let at : Point = record a.point { now = c.args.by.now.instant; status = has c.args.by.now.status.now.set } in
    record {
      policy = p;
      point = at;
      is = a.is ∙ ap (λ (q : Request). reply_of p (record at { table = table_of c.args.table.now }) c.args.actor q) c.in-Deactivate.is;
    }
