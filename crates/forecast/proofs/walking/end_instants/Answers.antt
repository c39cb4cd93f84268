use Rattle.std.proofs.Common.{◌≡◌, ◌≤◌, Bool, false, List, map, filter, sym, ap, subst, ◌∙◌, arith}
use Rattle.gt_base.specs.Sets.{has}
use Rattle.gt_base.specs.declared.events.Signal.{Signal}
use Rattle.gt_base.specs.declared.policies.Caps.{Caps}
use Rattle.gt_base.specs.declared.policies.HierEdge.{HierEdge}
use Rattle.gtrbac_model.specs.Conflict.{Status}
use Rattle.gtrbac_model.specs.Sessions.{Table, Activation, is_dropped, signal_of}
use Rattle.session_table.specs.Plans.{IsDropPlan, need_of}
use Rattle.session_table.specs.Tables.{TableView, NotBefore, table_of, charged_through, dropped_at, closed_at}
use Rattle.forecast.proofs.walking.end_instants.Goals as goal

pub commit_end-requires : goal.commit_end-requires
commit_end-requires c =
    let edges : List HierEdge = c.args.hierarchy.now in
    let caps : List Caps = c.args.caps.now.items in
    let s : Status = has c.args.status.now.set in
    let plan : IsDropPlan edges caps s c.args.now c.args.to (table_of c.args.table.now) c.in_ok-drops.drops = c.in_ok-drops.ensures.plan in
    let mid : TableView = c.plan_end_over.new.self in
    let test : Activation → Bool = is_dropped edges caps s c.args.to (charged_through c.args.now c.args.to (table_of c.args.table.now)) in
    record {
      test = test;
      gone = plan.gone ∙ ap (λ (tb : Table). filter test tb.active) (sym c.in_ok-drops.ensures.same);
      order = omega (arith, plan.from, plan.upto, c.requires.order);
      not_before = subst (λ n. NotBefore mid.charged_to n) (sym plan.from) (subst (λ u. NotBefore u c.args.now) (sym c.in_ok-drops.ensures.charged_to) c.requires.not_before);
      room = subst (λ n. need_of n c.in_ok-drops.drops.to mid ≤ mid.room) (sym plan.from) (subst (λ n. need_of c.args.now n mid ≤ mid.room) (sym plan.upto) c.in_ok-drops.ensures.room);
    }

pub returns-clause-table : goal.returns-clause-table
returns-clause-table c =
    let edges : List HierEdge = c.args.hierarchy.now in
    let caps : List Caps = c.args.caps.now.items in
    let s : Status = has c.args.status.now.set in
    let plan : IsDropPlan edges caps s c.args.now c.args.to (table_of c.args.table.now) c.in_ok-drops.drops = c.in_ok-drops.ensures.plan in
    let same : table_of c.plan_end_over.new.self ≡ table_of c.args.table.now = c.in_ok-drops.ensures.same in
    let gone : c.in_ok-drops.drops.gone ≡ dropped_at edges caps s c.in_ok-drops.drops.after c.in_ok-drops.drops.to (table_of c.plan_end_over.new.self) =
    plan.gone ∙ (λ i. dropped_at edges caps s (sym plan.from i) (sym plan.upto i) (sym same i)) in
    let told : c.in_ok-signals.signals.items ≡ map (signal_of false) c.in_ok-drops.drops.gone = c.in_ok-signals.ensures ∙ c.signals.ensures ∙ plan.signals in
    ap (λ (l : List Signal). record (table_of c.commit_end.new.self) { signals = l }) told
    ∙ c.commit_end.ensures.table edges caps s gone
    ∙ (λ i. closed_at edges caps s (plan.from i) (plan.upto i) (same i))
