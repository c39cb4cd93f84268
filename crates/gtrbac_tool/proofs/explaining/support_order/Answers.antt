use Rattle.std.proofs.Common.{◌≡◌, ℕ, ◌+◌, ◌*◌, ◌<◌, ◌-◌, List, ◌++◌, [], length, take, flat_map, sym, ◌∙◌, ap, subst}
use Rattle.gt_base.specs.Sets.{has, members}
use Rattle.gt_base.specs.declared.events.Prioritised.{Prioritised}
use Rattle.gtrbac_model.specs.Instant.{IsGrounding}
use Rattle.trigger_rules.specs.Indexed.{with_event, with_signal}
use Rattle.gtrbac_tool.specs.Listing.{with_head, waiting_with}
use Rattle.gtrbac_tool.proofs.ListingOrder.{IsOnWay, Waits, unlisted, began, first_wait, goes_on, still_wait, less_left, grounds_all}
use Rattle.gtrbac_tool.proofs.explaining.support_order.Goals as goal

pub loop-t-init : goal.loop-t-init
loop-t-init c =
    let rules = c.args.rules.now in
    let base = c.args.base.now.set in
    let s = has c.args.before.now.set in
    let x = c.args.x.now in
    let listed : c.join_all.new.order.events.items ≡ members base.events = c.in_ok-join_all.ensures.events ∙ (λ i. c.in_ok-order.ensures.events i ++ c.events.ensures i) in
    let woken = c.in_ok-wake_by_signals.ensures ∙ (λ i. c.new-pending.ensures.items i ++ flat_map (with_signal rules) (c.signals.ensures i)) in
    let waiting = c.in_ok-join_all.ensures.pending ∙ (λ i. woken i ++ flat_map (λ (o : Prioritised). with_event rules o.event) (c.events.ensures i)) in
    record {
      tracks = c.in_ok-join_all.ensures.tracks (c.in_ok-order.ensures.tracks x);
      on_way = subst (IsOnWay rules base s x) (sym listed) (began rules base s x c.requires.settled.is_closed);
      waits = subst (λ (es : List Prioritised). Waits rules base s x es c.join_all.new.pending.items) (sym listed)
          (subst (λ (ts : List ℕ). Waits rules base s x (members base.events) ts) (sym waiting) (first_wait rules base s x c.requires.caused c.requires.settled.signals));
    }

pub loop-t-smaller : goal.loop-t-smaller
loop-t-smaller c =
    let rules = c.args.rules.now in
    let es = c.loop-t.order.events.items in
    let head = c.head_next-head.result in
    let many = length rules + 1 in
    let most = unlisted rules es * many in
    subst (λ (fs : List Prioritised). unlisted rules fs * many + length c.join_head.new.pending.items < most + length c.loop-t.pending.items) (sym c.in_ok-join_head.ensures.events)
    (subst (λ (ts : List ℕ). unlisted rules (with_head es head) * many + length ts < most + length c.loop-t.pending.items) (sym c.in_ok-join_head.ensures.pending)
    (subst (λ (ts : List ℕ). unlisted rules (with_head es head) * many + length (waiting_with rules c.pop.new.self.items head) < most + length ts) (sym c.in-Some.ensures.items)
    (less_left rules c.args.base.now.set (has c.args.before.now.set) c.args.x.now es c.pop.new.self.items c.in-Some.t head c.head_next-head.ensures)))

pub loop-t-preserved : goal.loop-t-preserved
loop-t-preserved c =
    let rules = c.args.rules.now in
    let base = c.args.base.now.set in
    let s = has c.args.before.now.set in
    let x = c.args.x.now in
    let es = c.loop-t.order.events.items in
    let head = c.head_next-head.result in
    record {
      tracks = c.in_ok-join_head.ensures.tracks c.loop-t.invariant.tracks;
      on_way = subst (IsOnWay rules base s x) (sym c.in_ok-join_head.ensures.events) (goes_on rules base s x c.requires.settled.is_closed es c.in-Some.t head c.head_next-head.ensures c.loop-t.invariant.on_way);
      waits = subst (λ (fs : List Prioritised). Waits rules base s x fs c.join_head.new.pending.items) (sym c.in_ok-join_head.ensures.events)
          (subst (λ (ts : List ℕ). Waits rules base s x (with_head es head) ts) (sym c.in_ok-join_head.ensures.pending)
          (still_wait rules base s x es c.pop.new.self.items c.in-Some.t head c.head_next-head.ensures
          (subst (λ (ts : List ℕ). Waits rules base s x es ts) c.in-Some.ensures.items c.loop-t.invariant.waits)));
    }

pub returns : goal.returns
returns c =
    let rules = c.args.rules.now in
    let base = c.args.base.now.set in
    let s = has c.args.before.now.set in
    let x = c.args.x.now in
    let es = c.loop-t.order.events.items in
    let left = c.in_default.ensures in
    let empty = left.items ∙ ap (λ (ts : List ℕ). ts ++ []) (left.rest ∙ ap (λ k. take (k - 1) c.loop-t.pending.items) left.cases.0) in
    subst (IsGrounding rules base s x) (sym c.listed_in.ensures)
    (grounds_all rules base s x es c.requires.settled c.loop-t.invariant.on_way (subst (λ (ts : List ℕ). Waits rules base s x es ts) empty c.loop-t.invariant.waits))
