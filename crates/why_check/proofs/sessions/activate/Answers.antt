use Rattle.std.proofs.Common.{◌≡◌, List, [], ◌∷◌, sym, ◌∙◌, ap, arith}
use Rattle.gt_base.specs.declared.events.Signal.{Signal}
use Rattle.gt_base.specs.declared.requests.Request.TheVariants.{Activate}
use Rattle.gtrbac_model.specs.Sessions.{Table, applied}
use Rattle.session_table.specs.Tables.{table_of}
use Rattle.why_check.proofs.Applying.{activates, activate_begins}
use Rattle.why_check.proofs.sessions.activate.Goals as goal

pub returns-clause-table : goal.returns-clause-table
returns-clause-table c =
    let w = c.in-Active.field-0 in
    ap (λ (xs : List Signal). record (table_of c.start.new.table) { signals = xs }) c.in_ok-push.ensures.items
    ∙ activates c.args.by.now.instant c.args.actor (table_of c.args.table.now) (table_of c.start.new.table) c.args.waiting.now.items (c.in_ok-signal.signal ∷ []) c.args.session c.args.role w (c.in_ok-signal.ensures.table w)
    ∙ ap (λ y. applied c.args.by.now.instant c.args.actor (Activate c.args.session c.args.role) y (record (table_of c.args.table.now) { signals = c.args.waiting.now.items })) (sym c.in-Active.is)

pub returns-clause-begun : goal.returns-clause-begun
returns-clause-begun c =
    let w = c.in-Active.field-0 in
    let same : c.start.new.table.begun ≡ c.args.table.now.begun =
    sym (ap (λ (t : Table). t.begun) (c.in_ok-signal.ensures.table w)) ∙ activate_begins c.args.by.now.instant c.args.actor c.args.session c.args.role w (table_of c.args.table.now) in
    omega (arith, same)
