-- The base of a timeline by its members, and when it is not empty.
use Rattle.std.proofs.Common.{◌≡◌, ℕ, Bool, ◌||◌, List, ◌++◌, Option, refl, sym, ◌∙◌, ap}
use Rattle.std.specs.List.{list_any}
use Rattle.std.specs.Ordering.{eq_by_cmp}
use Rattle.gt_base.specs.Happening.{HappenedView}
use Rattle.gt_base.specs.Orders.{prioritised_cmp, signal_cmp}
use Rattle.gt_base.specs.Sets.{has, set_of}
use Rattle.gt_base.specs.declared.events.Prioritised.{Prioritised}
use Rattle.gt_base.specs.declared.events.Signal.{Signal}
use Rattle.gt_base.proofs.OrderLaws.{prioritised_cmp-IsAntisymmetric, signal_cmp-IsAntisymmetric}
use Rattle.gt_base.proofs.SetLaws.{same_sets, has-set_of}
use Rattle.gt_base.proofs.SetSteps.{prioritised_cmp_total, signal_cmp_total}
use Rattle.gtrbac_model.specs.Policy.{Policy}
use Rattle.gtrbac_model.specs.Base.{periodic, limited}
use Rattle.gtrbac_model.specs.History.{is_some_item}
use Rattle.delay_agenda.specs.Due.{pending_at}
use Rattle.duration_limits.specs.Since.{AgesView, since_in}
use Rattle.duration_limits.proofs.Reading.{since-same_rows}
use Rattle.instant_bases.specs.Nexts.{IsNextOf}
use Rattle.instant_bases.specs.Timelines.{TimelineView, base_in, stirs_in, due_events, signals_in, since_of}
use Rattle.instant_bases.proofs.Nexts.{by_test}
use Rattle.time_engine.proofs.Booleans.{any-append, some-append, swap_last}
use Rattle.time_engine.proofs.DueEvents.{due_listed}

-- the room of ages plays no part in what they say
pub since_view : (a : AgesView) → (λ f. since_in (record { birth = a.birth; rows = a.rows; spare = 0 }) f) ≡ since_in a
since_view a = λ i f. since-same_rows (record { birth = a.birth; rows = a.rows; spare = 0 }) a refl refl f i

-- the set of these events and signals is the base
pub base_is : (p : Policy) (v : TimelineView) (t : ℕ) (b : HappenedView)
    → ((e : Prioritised) → has b.events e ≡ (list_any (eq_by_cmp prioritised_cmp e) (periodic p v.birth t ++ limited p (has v.status) (since_of v) t) || has v.pending (pending_at t e)))
    → ((x : Signal) → has b.signals x ≡ list_any (eq_by_cmp signal_cmp x) (signals_in v t)) → b ≡ base_in p v t
base_is p v t b events signals =
    let ps : List Prioritised = periodic p v.birth t in
    let ls : List Prioritised = limited p (has v.status) (since_of v) t in
    let ds : List Prioritised = due_events v.pending t in
    let event_set : b.events ≡ set_of ((ps ++ ds) ++ ls) =
    same_sets prioritised_cmp_total prioritised_cmp-IsAntisymmetric _ _
    (λ e.
    let any : List Prioritised → Bool = list_any (eq_by_cmp prioritised_cmp e) in
    events e
    ∙ (λ i. any-append (eq_by_cmp prioritised_cmp e) ps ls i || sym (due_listed v.pending t e) i)
    ∙ swap_last (any ps) (any ds) (any ls)
    ∙ sym (has-set_of prioritised_cmp_total ((ps ++ ds) ++ ls) e ∙ any-append (eq_by_cmp prioritised_cmp e) (ps ++ ds) ls ∙ ap (λ c. c || any ls) (any-append (eq_by_cmp prioritised_cmp e) ps ds))) in
    let signal_set : b.signals ≡ set_of (signals_in v t) =
    same_sets signal_cmp_total signal_cmp-IsAntisymmetric _ _ (λ x. signals x ∙ sym (has-set_of signal_cmp_total (signals_in v t) x)) in
    λ i. record { events = event_set i; signals = signal_set i }

-- the next instant at which the base is not empty
pub due_next : (p : Policy) (v : TimelineView) (r : Option ℕ)
    → IsNextOf (λ t. ((is_some_item (periodic p v.birth t) || is_some_item (limited p (has v.status) (since_of v) t)) || is_some_item (due_events v.pending t)) || is_some_item (signals_in v t)) v.now r
    → IsNextOf (stirs_in p v) v.now r
due_next p v r h =
    by_test _ _ v.now r
    (λ t.
    let ps : List Prioritised = periodic p v.birth t in
    let ls : List Prioritised = limited p (has v.status) (since_of v) t in
    let ds : List Prioritised = due_events v.pending t in
    ap (λ b. b || is_some_item (signals_in v t))
    (swap_last (is_some_item ps) (is_some_item ds) (is_some_item ls) ∙ sym (some-append (ps ++ ds) ls ∙ ap (λ c. c || is_some_item ls) (some-append ps ds))))
    h
