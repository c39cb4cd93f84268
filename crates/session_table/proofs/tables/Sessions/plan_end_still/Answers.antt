use Rattle.std.proofs.Common.{◌≡◌, filter, refl, sym, ap, subst, ◌∙◌}
use Rattle.session_table.specs.NextDrops.{capped_in}
use Rattle.session_table.specs.Kept.{IsTable}
use Rattle.session_table.specs.Permits.{rows_table}
use Rattle.session_table.specs.Plans.{IsDropPlan}
use Rattle.session_table.specs.Tables.{TableView, table_of, is_capped}
use Rattle.session_table.proofs.Keeping.{few_of}
use Rattle.session_table.proofs.Permitting.{if_ok}
use Rattle.session_table.proofs.Uncapped.{still_drops}
use Rattle.session_table.proofs.tables.Sessions.plan_end_still.Goals as goal
use Rattle.session_table.proofs.tables.Sessions.plan_end_still.Goals.{In_ok-gone}

pub invariant_of-over : goal.invariant_of-over
invariant_of-over c = record {
  few = λ u r.
      few_of c.self.inside.sessions.items c.self.inside.active.items c.self.inside.charges.charged c.self.inside.charged_to c.self.invariant.kept u r;
}

gone_is : (c : In_ok-gone) → c.in_ok-gone.gone.items ≡ filter (is_capped c.args.caps.now.items c.args.now (table_of c.args.self.now) c.args.to) c.args.self.now.active
gone_is c =
    c.in_ok-gone.ensures
    ∙ ap (λ rows. filter (capped_in c.as_slice.result.now rows c.self.inside.active.items c.args.now c.args.to) c.self.inside.active.items) c.reserve_charges.ensures.same
    ∙ ap (λ ks. filter (capped_in ks c.self.inside.charges.charged c.self.inside.active.items c.args.now c.args.to) c.self.inside.active.items) c.as_slice.ensures
    ∙ ap (λ (v : TableView). filter (is_capped c.args.caps.now.items c.args.now (table_of v) c.args.to) v.active) c.self.view_is

pub returns-clause-gone : goal.returns-clause-gone
returns-clause-gone c = if_ok c.new.result c.new.ensures (λ d e. ap (λ d. d.gone) e ∙ gone_is (goal.at.returns-clause-gone c).In_ok-gone)

pub returns-clause-plan : goal.returns-clause-plan
returns-clause-plan c = if_ok c.new.result c.new.ensures (λ d e edges s stand.
    subst (IsDropPlan edges c.args.caps.now.items s c.args.now c.args.to (table_of c.args.self.now)) (sym e) (record {
      from = refl;
      upto = refl;
      gone = gone_is (goal.at.returns-clause-plan c).In_ok-gone ∙ still_drops edges c.args.caps.now.items s c.args.now c.args.to c.args.self.now stand;
      signals = refl;
    }))

pub invariant_of-self : goal.invariant_of-self
invariant_of-self c =
    subst (λ rows. IsTable c.self.inside.sessions.items c.self.inside.standing c.self.inside.active.items rows c.self.inside.charged_to c.self.inside.begun) (sym c.reserve_charges.ensures.same) c.self.invariant

pub invariant_of-self-2 : goal.invariant_of-self-2
invariant_of-self-2 c =
    subst (λ rows. IsTable c.self.inside.sessions.items c.self.inside.standing c.self.inside.active.items rows c.self.inside.charged_to c.self.inside.begun) (sym c.reserve_charges.ensures.same) c.self.invariant

pub returns-clause-same : goal.returns-clause-same
returns-clause-same c =
    ap (λ rows. rows_table c.self.inside.sessions.items c.self.inside.active.items rows c.self.inside.begun) c.reserve_charges.ensures.same ∙ ap table_of c.self.view_is
