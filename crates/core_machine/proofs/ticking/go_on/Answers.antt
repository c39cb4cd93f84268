use Rattle.std.proofs.Common.{ℕ, ◌<◌, ◌≤◌, List, length, sym, ap, subst, arith}
use Rattle.gt_base.specs.Sets.{has}
use Rattle.gt_base.specs.declared.events.Signal.{Signal}
use Rattle.gt_base.specs.declared.requests.Entry.{Entry}
use Rattle.gt_base.specs.declared.limits.TheConstants.{MAX_STEPS}
use Rattle.gtrbac_model.specs.History.{IsNextStop}
use Rattle.instant_bases.specs.Timelines.{TimelineView, stirs_in}
use Rattle.session_table.specs.NextDrops.{is_any_capped}
use Rattle.session_table.specs.Plans.{IsDropPlan, need_of}
use Rattle.session_table.specs.Tables.{table_of}
use Rattle.session_table.specs.declared.tables.Sessions.{Sessions}
use Rattle.core_machine.specs.Books.{BookView, TicksFurther}
use Rattle.core_machine.specs.Coherent.{Same, view_of}
use Rattle.core_machine.specs.Steps.{moves}
use Rattle.core_machine.proofs.Growing.{both_false}
use Rattle.core_machine.proofs.Sames.{on_err, same_closing, same_kept, same_trans, same_view}
use Rattle.core_machine.proofs.ticking.go_on.Goals as goal
use Rattle.core_machine.proofs.ticking.go_on.Goals.{In_ok-make_room}

pub planned-requires-clause-skipped : goal.planned-requires-clause-skipped
planned-requires-clause-skipped c =
    let s = c.args.s.now in
    λ t a b. (both_false (stirs_in s.ground.policy s.line.line t) (is_any_capped s.ground.policy.caps s.line.line.now (table_of s.table) t) (c.stop-to.ensures.none_before t a b)).0

pub returns-in_err-plan-clause-kept : goal.returns-in_err-plan-clause-kept
returns-in_err-plan-clause-kept c = same_kept c.args.s.now c.planned.new.s c.in_err-plan.ensures.same c.requires.kept

pub returns-in_err-plan-clause-err : goal.returns-in_err-plan-clause-err
returns-in_err-plan-clause-err c = on_err _ (same_view c.args.s.now c.planned.new.s c.in_err-plan.ensures.same)

pub returns-in_err-make_room-clause-kept : goal.returns-in_err-make_room-clause-kept
returns-in_err-make_room-clause-kept c =
    same_kept c.args.s.now c.make_room.new.s (same_trans c.args.s.now c.planned.new.s c.make_room.new.s c.in_ok-plan.ensures.same c.in_err-make_room.ensures.same) c.requires.kept

pub returns-in_err-make_room-clause-err : goal.returns-in_err-make_room-clause-err
returns-in_err-make_room-clause-err c =
    on_err _ (same_view c.args.s.now c.make_room.new.s (same_trans c.args.s.now c.planned.new.s c.make_room.new.s c.in_ok-plan.ensures.same c.in_err-make_room.ensures.same))

all_same : (c : In_ok-make_room) → Same c.args.s.now c.make_room.new.s
all_same c = same_trans c.args.s.now c.planned.new.s c.make_room.new.s c.in_ok-plan.ensures.same c.in_ok-make_room.ensures.same

pub close-requires-clause-kept : goal.close-requires-clause-kept
close-requires-clause-kept c = same_kept c.args.s.now c.make_room.new.s (all_same (goal.at.close-requires-clause-kept c).In_ok-make_room) c.requires.kept

pub close-requires-clause-room : goal.close-requires-clause-room
close-requires-clause-room c = subst (λ (h : List Entry). length h < MAX_STEPS) (sym (all_same (goal.at.close-requires-clause-room c).In_ok-make_room).entries) c.requires.room

pub close-requires-clause-closing : goal.close-requires-clause-closing
close-requires-clause-closing c =
    let s = c.args.s.now in
    let p = s.ground.policy in
    same_closing s c.make_room.new.s c.args.upto c.in_ok-plan.plan c.in_ok-plan.drops (all_same (goal.at.close-requires-clause-closing c).In_ok-make_room)
    (record {
      stop = subst (λ (t : ℕ). IsNextStop (moves p s.line.line (table_of s.table)) s.line.line.now c.args.upto t) (sym c.in_ok-plan.ensures.at) c.stop-to.ensures;
      plans = c.in_ok-plan.ensures.plan;
      fits = c.in_ok-plan.ensures.fits;
      ends = subst (λ (t : ℕ). IsDropPlan p.edges p.caps (has c.in_ok-plan.plan.status) s.line.line.now t (table_of s.table) c.in_ok-plan.drops) (sym c.in_ok-plan.ensures.at) c.in_ok-plan.ensures.drops;
    })

pub close-requires-clause-plan_room : goal.close-requires-clause-plan_room
close-requires-clause-plan_room c = omega (arith, c.in_ok-plan.ensures.plan_room, c.in_ok-make_room.ensures.plans.0)

pub close-requires-clause-drops_room : goal.close-requires-clause-drops_room
close-requires-clause-drops_room c =
    let same = all_same (goal.at.close-requires-clause-drops_room c).In_ok-make_room in
    subst (λ (v : TimelineView). need_of v.now c.in_ok-plan.plan.at c.make_room.new.s.table ≤ c.make_room.new.s.table.room) (sym same.line)
    (subst (λ (t : ℕ). need_of c.args.s.now.line.line.now t c.make_room.new.s.table ≤ c.make_room.new.s.table.room) (sym c.in_ok-plan.ensures.at)
    (subst (λ (table : Sessions). need_of c.args.s.now.line.line.now c.stop-to.result table ≤ table.room) (sym c.in_ok-make_room.ensures.plans.1) c.in_ok-plan.ensures.drops_room))

pub close-requires-clause-signals_room : goal.close-requires-clause-signals_room
close-requires-clause-signals_room c = omega (arith, c.len.ensures, ap (λ (xs : List Signal). length xs) c.signals.ensures, c.in_ok-make_room.ensures.room.1)

pub returns-clause-ok : goal.returns-clause-ok
returns-clause-ok c =
    let s = c.args.s.now in
    subst (λ (t : ℕ). TicksFurther (view_of s) (view_of c.close.new.s) c.args.who c.args.upto t) c.in_ok-plan.ensures.at
    (subst (λ (b : BookView). TicksFurther b (view_of c.close.new.s) c.args.who c.args.upto c.in_ok-plan.plan.at) (same_view s c.make_room.new.s (all_same (goal.at.returns-clause-ok c).In_ok-make_room)) c.close.ensures.ok)
