use Rattle.std.proofs.Common.{◌≡◌, ℕ, ◌<◌, ◌≤◌, Bool, false, ◌||◌, List, [], ◌∷◌, ◌++◌, map, Some, refl, sym, ap, subst, ◌∙◌, arith}
use Rattle.std.specs.List.{list_any}
use Rattle.std.specs.Ordering.{eq_by_cmp}
use Rattle.gt_base.specs.Machines.{ticked}
use Rattle.gt_base.specs.Orders.{signal_cmp}
use Rattle.gt_base.specs.Sets.{has}
use Rattle.gt_base.specs.declared.events.Signal.{Signal}
use Rattle.gt_base.proofs.SetLaws.{has-none}
use Rattle.gt_base.specs.declared.limits.TheConstants.{LAST_MINUTE}
use Rattle.gtrbac_model.specs.Conflict.{Status}
use Rattle.gtrbac_model.specs.Policy.{Policy}
use Rattle.gtrbac_model.specs.Sessions.{Table, Activation, is_dropped, signal_of}
use Rattle.instant_bases.specs.Timelines.{TimelineView, Signals}
use Rattle.session_table.specs.Plans.{DropsView, need_of}
use Rattle.session_table.specs.Tables.{NotBefore, table_of, charged_through, dropped_at, closed_at}
use Rattle.core_machine.specs.Books.{BookView, TicksFurther}
use Rattle.core_machine.specs.Steps.{with_signals}
use Rattle.core_machine.proofs.Asks.{signals_only, signals_told}
use Rattle.core_machine.proofs.Ticks.{kept_tick, kept_again, goes_tick}
use Rattle.core_machine.proofs.ticking.close.Goals as goal
use Rattle.core_machine.proofs.ticking.close.Goals.{After-push}

pub commit_end-requires : goal.commit_end-requires
commit_end-requires c =
    let s = c.args.s.now in
    let p : Policy = s.ground.policy in
    let d : DropsView = c.args.drops in
    let test : Activation → Bool = is_dropped p.edges p.caps (has c.args.plan.status) c.args.plan.at (charged_through s.line.line.now c.args.plan.at (table_of s.table)) in
    record {
      test = test;
      gone = c.requires.closing.ends.gone;
      order = omega (arith, c.requires.closing.ends.from, c.requires.closing.ends.upto, c.requires.closing.stop.later);
      not_before = subst (λ n. NotBefore s.table.charged_to n) (sym c.requires.closing.ends.from) c.requires.kept.charged;
      room = subst (λ n. need_of n d.to s.table ≤ s.table.room) (sym c.requires.closing.ends.from) (subst (λ n. need_of s.line.line.now n s.table ≤ s.table.room) (sym c.requires.closing.ends.upto) c.requires.drops_room);
    }

module _ (c : After-push) where
  told : c.as_slice.result.now ≡ map (signal_of false) c.args.drops.gone
  told = c.as_slice.ensures ∙ c.signals.ensures ∙ c.requires.closing.ends.signals

  closed : record (table_of c.commit_end.new.self) { signals = c.as_slice.result.now }
      ≡ closed_at c.args.s.now.ground.policy.edges c.args.s.now.ground.policy.caps (has c.args.plan.status) c.args.s.now.line.line.now c.args.plan.at (table_of c.args.s.now.table)
  closed =
      let p : Policy = c.args.s.now.ground.policy in
      let tb : Table = table_of c.args.s.now.table in
      let st : Status = has c.args.plan.status in
      let from = c.requires.closing.ends.from in
      let upto = c.requires.closing.ends.upto in
      let gone : c.args.drops.gone ≡ dropped_at p.edges p.caps st c.args.drops.after c.args.drops.to tb = c.requires.closing.ends.gone ∙ (λ i. dropped_at p.edges p.caps st (sym from i) (sym upto i) tb) in
      ap (λ (xs : List Signal). record (table_of c.commit_end.new.self) { signals = xs }) told
      ∙ c.commit_end.ensures.table p.edges p.caps st gone
      ∙ (λ i. closed_at p.edges p.caps st (from i) (upto i) tb)

  waits : c.args.plan.at < LAST_MINUTE → (x : Signal) → list_any (eq_by_cmp signal_cmp x) c.as_slice.result.now ≡ has (with_signals c.commit.new.self.line c.as_slice.result.now).signals x
  waits lt x =
      let w : TimelineView = c.commit.new.self.line in
      let told_any : Bool = list_any (eq_by_cmp signal_cmp x) c.as_slice.result.now in
      sym (signals_told w c.as_slice.result.now (omega (arith, lt, c.commit.ensures.after.now)) x
      ∙ ap (λ (sg : Signals). has sg x || told_any) c.commit.ensures.after.signals
      ∙ ap (λ b. b || told_any) (has-none signal_cmp x))

  entries_are : c.push.new.self.items ≡ c.args.s.now.entries.items ++ ticked c.args.who c.args.upto c.args.plan.at ∷ []
  entries_are = c.push.ensures.items ∙ ap (λ (to : ℕ). c.args.s.now.entries.items ++ ticked c.args.who c.args.upto to ∷ []) c.at-to.ensures

pub returns-clause-kept : goal.returns-clause-kept
returns-clause-kept c =
    let s = c.args.s.now in
    let w : TimelineView = c.commit.new.self.line in
    let xs : List Signal = c.as_slice.result.now in
    kept_again s.ground.policy s.birth _ _ _ _ _ _ _ _ (entries_are c) (c.add_signals.ensures ∙ signals_only w xs) refl (c.commit_end.ensures.charged_to ∙ ap (λ (t : ℕ). Some t) c.requires.closing.ends.upto)
    (kept_tick s.ground.policy s.birth s.entries.items s.line.line (table_of s.table) s.table.charged_to c.requires.kept c.keeps.ensures c.args.who c.args.upto c.keeps-2.ensures
    c.args.plan c.requires.closing.plans c.requires.closing.stop w c.commit.ensures.after (with_signals w xs).signals (table_of c.commit_end.new.self) xs (closed c) (waits c) c.requires.room)

pub returns-clause-ok : goal.returns-clause-ok
returns-clause-ok c =
    let s = c.args.s.now in
    let w : TimelineView = c.commit.new.self.line in
    let xs : List Signal = c.as_slice.result.now in
    let old : BookView = record { named = s.ground; birth = s.birth; entries = s.entries.items; trace = s.line.line.trace } in
    let new : BookView = record { named = s.ground; birth = s.birth; entries = s.entries.items ++ ticked c.args.who c.args.upto c.args.plan.at ∷ []; trace = w.trace } in
    let is : record { named = s.ground; birth = s.birth; entries = c.push.new.self.items; trace = c.add_signals.new.line.line.trace } ≡ new =
    λ i. record { named = s.ground; birth = s.birth; entries = entries_are c i; trace = ((c.add_signals.ensures ∙ signals_only w xs) i).trace } in
    subst (λ (b : BookView). TicksFurther old b c.args.who c.args.upto c.args.plan.at) (sym is)
    (goes_tick s.ground.policy s.birth s.entries.items s.line.line (table_of s.table) s.table.charged_to c.requires.kept c.keeps.ensures c.args.who c.args.upto c.keeps-2.ensures
    c.args.plan c.requires.closing.plans c.requires.closing.stop w c.commit.ensures.after (with_signals w xs).signals (table_of c.commit_end.new.self) xs (closed c) (waits c) c.requires.room s.ground refl)
