use Rattle.std.proofs.Common.{◌≡◌, ◌≤◌, Bool, inl, inr, ℕ, ◌+◌, ◌*◌, ◌<◌, ◌++◌, ◌-◌, [], ◌∷◌, List, length, length-append, take, sym, ◌∙◌, ap, subst, arith}
use Rattle.gt_base.specs.Sets.{has}
use Rattle.gtrbac_model.specs.Graph.{item_at}
use Rattle.gtrbac_model.proofs.Levels.{by_trigger}
use Rattle.dependency_graph.specs.Carried.{level_in}
use Rattle.gt_base.specs.Held.{TriggerView}
use Rattle.gt_base.specs.Happening.{HappenedView}
use Rattle.trigger_rules.specs.Indexed.{numbers}
use Rattle.instant_engine.specs.OnTheWay.{KeepsSet, is_due, head_joined, waiting_with}
use Rattle.instant_engine.specs.Counted.{first_looks}
use Rattle.instant_engine.proofs.Steps.{Waits, first_wait, still_wait, keeps_on, less_left, done, elem_of, missing}
use Rattle.instant_engine.proofs.Prompting.{prompted_wait}
use Rattle.instant_engine.proofs.Waking.{Grown, grown}
use Rattle.instant_engine.proofs.settling.settle_level.Goals as goal

few_at : (c d : Bool) (due ns : List ℕ) (rules : List TriggerView) (x : HappenedView) (n : ℕ) → c ≡ d → due ≡ ns → n ≤ first_looks c (length due) rules x → n ≤ first_looks d (length ns) rules x
few_at c d due ns rules x n p q h = subst (λ e. n ≤ first_looks e (length ns) rules x) p (subst (λ (ms : List ℕ). n ≤ first_looks c (length ms) rules x) q h)

pub loop-t-init : goal.loop-t-init
loop-t-init g c =
    let s = has c.args.before.now.set in
    let level = level_in c.args.by.now.graph.now.events c.args.by.now.strata.now in
    record {
      keeps = λ base h. h;
      waits = elim c.in_ok-pending.ensures.items [
        | inl all ↦ subst (Waits c.args.by.now.rules.now s level c.args.n c.args.x.now) (sym (all ∙ c.of-due.ensures ∙ c.args.by.now.due.due c.args.n)) (first_wait c.args.by.now.rules.now s level c.args.n c.args.x.now)
        | inr by ↦ subst (Waits c.args.by.now.rules.now s level c.args.n c.args.x.now) (sym by.1) (prompted_wait c.args.by.now.rules.now s level c.args.n c.args.x.now (sym c.args.by.now.due.caused ∙ sym c.caused.ensures ∙ by.0))
      ];
      sizes = omega arith;
      wakes = omega arith;
      cost =
          let few = few_at (c.caused.result) (c.args.by.now.levels.now.caused) c.of-due.result.now (numbers (is_due level c.args.n) 0 c.args.by.now.rules.now) c.args.by.now.rules.now c.args.x.now (length c.in_ok-pending.pending.items)
          c.caused.ensures (c.of-due.ensures ∙ c.args.by.now.due.due c.args.n) c.in_ok-pending.ensures.few in
          omega (arith, few);
    }

pub loop-t-smaller : goal.loop-t-smaller
loop-t-smaller g c =
    let s = has c.args.before.now.set in
    let level = level_in c.args.by.now.graph.now.events c.args.by.now.strata.now in
    let rules = c.args.by.now.rules.now in
    let head = c.head_if_firing-head.result in
    let most = missing rules c.loop-t.x * (length rules + 1) in
    subst (λ y. missing rules y * (length rules + 1) + length c.join.new.pending.items < most + length c.loop-t.pending.items) (sym c.in_ok-join.ensures.set)
    (subst (λ (ts : List ℕ). missing rules (head_joined c.loop-t.x head) * (length rules + 1) + length ts < most + length c.loop-t.pending.items) (sym c.in_ok-join.ensures.pending)
    (subst (λ (ts : List ℕ). missing rules (head_joined c.loop-t.x head) * (length rules + 1) + length (waiting_with rules c.pop.new.self.items head) < most + length ts) (sym c.in-Some.ensures.items)
    (less_left rules s level c.args.n c.loop-t.x c.pop.new.self.items c.in-Some.t head c.head_if_firing-head.ensures.head)))

pub loop-t-preserved : goal.loop-t-preserved
loop-t-preserved g c =
    let s = has c.args.before.now.set in
    let level = level_in c.args.by.now.graph.now.events c.args.by.now.strata.now in
    let rules = c.args.by.now.rules.now in
    let grown_by = grown rules s level c.args.n c.loop-t.x c.pop.new.self.items (item_at rules c.in-Some.t) c.head_if_firing-head.result c.head_if_firing-head.ensures.head in
    let step : Grown rules s level c.args.n c.loop-t.x c.pop.new.self.items c.join.new.x c.join.new.pending.items =
    subst (λ y. Grown rules s level c.args.n c.loop-t.x c.pop.new.self.items y c.join.new.pending.items) (sym c.in_ok-join.ensures.set)
    (subst (λ (us : List ℕ). Grown rules s level c.args.n c.loop-t.x c.pop.new.self.items (head_joined c.loop-t.x c.head_if_firing-head.result) us) (sym c.in_ok-join.ensures.pending) grown_by) in
    record {
      keeps = λ base h.
          subst (KeepsSet rules s level c.args.n c.loop-t.x c.args.n) (sym c.in_ok-join.ensures.set)
          (keeps_on rules s level c.args.n (by_trigger rules level c.args.by.now.levelled.levelling) c.loop-t.x c.head_if_firing-head.result (item_at rules c.in-Some.t) (λ q. elem_of rules c.in-Some.t q) c.head_if_firing-head.ensures.head)
          base (c.loop-t.invariant.keeps base h);
      waits = subst (λ y. Waits rules s level c.args.n y c.join.new.pending.items) (sym c.in_ok-join.ensures.set)
          (subst (Waits rules s level c.args.n (head_joined c.loop-t.x c.head_if_firing-head.result)) (sym c.in_ok-join.ensures.pending)
          (still_wait rules s level c.args.n (by_trigger rules level c.args.by.now.levelled.levelling) c.loop-t.x c.pop.new.self.items c.in-Some.t c.head_if_firing-head.result c.head_if_firing-head.ensures.head
          (subst (Waits rules s level c.args.n c.loop-t.x) c.in-Some.ensures.items c.loop-t.invariant.waits)));
      sizes = let more = step.size_is in let so_far = c.loop-t.invariant.sizes in omega (arith, more, so_far);
      wakes = let more = step.woken_is in let so_far = c.loop-t.invariant.wakes in omega (arith, more, so_far);
      cost =
          let more = step.waits in
          let so_far = c.loop-t.invariant.cost in
          let popped = ap length c.in-Some.ensures.items ∙ length-append c.pop.new.self.items (c.in-Some.t ∷ []) in
          let looked = c.head_if_firing-head.ensures.looks in
          omega (arith, more, so_far, popped, looked);
    }

pub returns-clause-keeps : goal.returns-clause-keeps
returns-clause-keeps g c =
    let s = has c.args.before.now.set in
    let level = level_in c.args.by.now.graph.now.events c.args.by.now.strata.now in
    let rules = c.args.by.now.rules.now in
    let left = c.in_default.ensures in
    let empty = left.items ∙ ap (λ (ts : List ℕ). ts ++ []) (left.rest ∙ ap (λ k. take (k - 1) c.loop-t.pending.items) left.cases.0) in
    let none = subst (Waits rules s level c.args.n c.loop-t.x) empty c.loop-t.invariant.waits in
    λ base h. done rules s level c.args.n (by_trigger rules level c.args.by.now.levelled.levelling) c.loop-t.x none base (c.loop-t.invariant.keeps base h)

pub returns-clause-grows : goal.returns-clause-grows
returns-clause-grows g c = (c.loop-t.invariant.sizes, c.loop-t.invariant.wakes)

pub returns-clause-cost : goal.returns-clause-cost
returns-clause-cost g c = let so_far = c.loop-t.invariant.cost in omega (arith, so_far)
