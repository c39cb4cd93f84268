use Rattle.std.proofs.Common.{◌≡◌, ℕ, ◌<◌, ◌≤◌, true, List, refl, sym, ap, subst, ◌∙◌}
use Rattle.std.specs.List.{list_all}
use Rattle.gt_base.specs.Happening.{Fluents, HappenedView}
use Rattle.gt_base.specs.Sets.{has, members}
use Rattle.gt_base.specs.declared.policies.Caps.{Caps}
use Rattle.gt_base.specs.declared.policies.HierEdge.{HierEdge}
use Rattle.session_table.specs.Plans.{AllStand, IsDropPlan, need_of}
use Rattle.session_table.specs.Tables.{table_of}
use Rattle.policy_words.specs.Naming.{NamedPolicy}
use Rattle.instant_bases.specs.Timelines.{TimelineView}
use Rattle.time_engine.specs.Plans.{IsPlan, IsTimeline}
use Rattle.core_machine.specs.Agreeing.{agrees}
use Rattle.core_machine.proofs.Still.{still_stand}
use Rattle.core_machine.proofs.ticking.planned.Goals as goal
use Rattle.core_machine.proofs.ticking.planned.Goals.{After-now-now}

now_is : (c : After-now-now) → c.now-now.result ≡ c.args.s.now.line.line.now
now_is c = c.now-now.ensures ∙ ap (λ (v : TimelineView). v.now) c.in_ok-plan.ensures.line

pub end_of-requires-clause-later : goal.end_of-requires-clause-later
end_of-requires-clause-later c = subst (λ (t : ℕ). t < c.args.to) (sym (now_is (goal.at.end_of-requires-clause-later c).After-now-now)) c.requires.later

pub end_of-requires-clause-still : goal.end_of-requires-clause-still
end_of-requires-clause-still c = λ e.
    let s = c.args.s.now in
    let line : IsTimeline s.line.line = c.keeps.ensures in
    let plans : IsPlan s.ground.policy s.line.line c.in_ok-plan.plan = subst (λ (g : NamedPolicy). IsPlan g.policy s.line.line c.in_ok-plan.plan) c.ground.ensures c.in_ok-plan.ensures.plan in
    let alike : list_all (agrees (has s.line.line.status)) (members c.in_ok-plan.plan.set.events) ≡ true =
    ap (λ (x : HappenedView). list_all (agrees (has s.line.line.status)) (members x.events)) (sym c.happened-set.ensures)
    ∙ ap (λ (t : Fluents). list_all (agrees (has t)) (members c.happened-set.result.now.set.events)) (sym (c.status-before.ensures ∙ ap (λ (v : TimelineView). v.status) c.in_ok-plan.ensures.line))
    ∙ sym c.is_still-still.ensures ∙ e in
    subst (λ (t : Fluents). AllStand c.hierarchy-hierarchy.result.now (has t) (table_of s.table)) (sym c.status.ensures)
    (subst (λ (es : List HierEdge). AllStand es (has c.in_ok-plan.plan.status) (table_of s.table)) (sym c.hierarchy-hierarchy.ensures)
    (still_stand s.ground.policy s.birth s.entries.items s.line.line (table_of s.table) s.table.charged_to c.requires.kept line c.in_ok-plan.plan plans alike))

pub returns-in_err-plan-clause-same : goal.returns-in_err-plan-clause-same
returns-in_err-plan-clause-same c = record { ground = refl; birth = refl; line = c.in_err-plan.ensures.line; table = refl; charged_to = refl; entries = refl }

pub returns-in_err-drops-clause-same : goal.returns-in_err-drops-clause-same
returns-in_err-drops-clause-same c =
    record { ground = refl; birth = refl; line = c.in_ok-plan.ensures.line; table = c.in_err-drops.ensures.same; charged_to = c.in_err-drops.ensures.charged_to; entries = refl }

pub returns-clause-same : goal.returns-clause-same
returns-clause-same c =
    record { ground = refl; birth = refl; line = c.in_ok-plan.ensures.line; table = c.in_ok-drops.ensures.same; charged_to = c.in_ok-drops.ensures.charged_to; entries = refl }

pub returns-clause-drops : goal.returns-clause-drops
returns-clause-drops c =
    let p = c.args.s.now.ground.policy in
    let tb = table_of c.args.s.now.table in
    let ds = c.in_ok-drops.drops in
    subst (λ (t : ℕ). IsDropPlan p.edges p.caps (has c.in_ok-plan.plan.status) t c.args.to tb ds) (now_is (goal.at.returns-clause-drops c).After-now-now)
    (subst (λ (s : Fluents). IsDropPlan p.edges p.caps (has s) c.now-now.result c.args.to tb ds) c.status.ensures
    (subst (λ (cs : List Caps). IsDropPlan p.edges cs (has c.status.result.now.set) c.now-now.result c.args.to tb ds) (c.caps.ensures ∙ ap (λ (g : NamedPolicy). g.policy.caps) c.policy-policy.ensures)
    (subst (λ (es : List HierEdge). IsDropPlan es c.caps.result.now.items (has c.status.result.now.set) c.now-now.result c.args.to tb ds) c.hierarchy-hierarchy.ensures
    c.in_ok-drops.ensures.plan)))

pub returns-clause-drops_room : goal.returns-clause-drops_room
returns-clause-drops_room c = subst (λ (t : ℕ). need_of t c.args.to c.end_of.new.table ≤ c.end_of.new.table.room) (now_is (goal.at.returns-clause-drops_room c).After-now-now) c.in_ok-drops.ensures.room

pub returns-clause-at : goal.returns-clause-at
returns-clause-at c = c.in_ok-plan.ensures.at

pub returns-clause-plan : goal.returns-clause-plan
returns-clause-plan c = subst (λ (g : NamedPolicy). IsPlan g.policy c.args.s.now.line.line c.in_ok-plan.plan) c.ground.ensures c.in_ok-plan.ensures.plan

pub returns-clause-fits : goal.returns-clause-fits
returns-clause-fits c = c.in_ok-plan.ensures.fits

pub returns-clause-plan_room : goal.returns-clause-plan_room
returns-clause-plan_room c = c.in_ok-plan.ensures.room
