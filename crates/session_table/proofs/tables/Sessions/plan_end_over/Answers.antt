use Rattle.std.proofs.Common.{refl, sym, ap, subst, ◌∙◌, filter}
use Rattle.gt_base.specs.Sets.{has}
use Rattle.gtrbac_model.specs.Conflict.{Status}
use Rattle.session_table.specs.Dropping.{is_dropped}
use Rattle.session_table.specs.Kept.{IsTable}
use Rattle.session_table.specs.Permits.{rows_table}
use Rattle.session_table.specs.Plans.{IsDropPlan}
use Rattle.session_table.specs.Tables.{table_of, dropped_at}
use Rattle.session_table.proofs.Keeping.{few_of}
use Rattle.session_table.proofs.Permitting.{if_ok}
use Rattle.session_table.proofs.tables.Sessions.plan_end_over.Goals as goal

pub invariant_of-at : goal.invariant_of-at
invariant_of-at c = record {
  few = λ u r.
      few_of c.self.inside.sessions.items c.self.inside.active.items c.self.inside.charges.charged c.self.inside.charged_to c.self.invariant.kept u r;
}

pub returns-clause-plan : goal.returns-clause-plan
returns-clause-plan c =
    let s : Status = has c.args.status.now.set in
    if_ok c.new.result c.new.ensures (λ d e.
    subst (IsDropPlan c.args.hierarchy.now c.args.caps.now.items s c.args.now c.args.to (table_of c.args.self.now)) (sym e) (record {
      from = refl;
      upto = refl;
      gone = c.in_ok-gone.ensures
          ∙ ap (λ rows. filter (is_dropped c.args.hierarchy.now c.args.caps.now.items s rows c.self.inside.active.items c.args.now c.args.to) c.self.inside.active.items) c.reserve_charges.ensures.same
          ∙ ap (λ v. dropped_at c.args.hierarchy.now c.args.caps.now.items s c.args.now c.args.to (table_of v)) c.self.view_is;
      signals = refl;
    }))

pub invariant_of-self : goal.invariant_of-self
invariant_of-self c =
    subst (λ rows. IsTable c.self.inside.sessions.items c.self.inside.standing c.self.inside.active.items rows c.self.inside.charged_to c.self.inside.begun) (sym c.reserve_charges.ensures.same) c.self.invariant

pub invariant_of-self-2 : goal.invariant_of-self-2
invariant_of-self-2 c =
    subst (λ rows. IsTable c.self.inside.sessions.items c.self.inside.standing c.self.inside.active.items rows c.self.inside.charged_to c.self.inside.begun) (sym c.reserve_charges.ensures.same) c.self.invariant

pub returns-clause-same : goal.returns-clause-same
returns-clause-same c =
    ap (λ rows. rows_table c.self.inside.sessions.items c.self.inside.active.items rows c.self.inside.begun) c.reserve_charges.ensures.same ∙ ap table_of c.self.view_is
