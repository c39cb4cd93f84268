-- The priorities of the sets of a history of named moves.
use Rattle.std.proofs.Common.{◌≡◌, inl, inr, ℕ, ◌+◌, ◌-◌, ◌≤◌, Bool, true, false, not, ◌&&◌, ◌||◌, List, [], ◌∷◌, ◌++◌, refl, sym, ◌∙◌, subst, arith, if◌then◌else◌}
use Rattle.std.specs.Prelude.{flat_map, nat_eq, nat_le, nat_lt}
use Rattle.std.specs.List.{list_all}
use Rattle.std.proofs.lemmas.Bool.{false≢true, leb-true, ltb-true}
use Rattle.gt_base.specs.Sets.{has, set_of}
use Rattle.gt_base.specs.Held.{TriggerView}
use Rattle.gt_base.specs.Happening.{HappenedView, nothing}
use Rattle.gt_base.specs.declared.events.Fluent.{Fluent}
use Rattle.gt_base.specs.declared.events.Prioritised.{Prioritised}
use Rattle.gt_base.specs.declared.policies.Form.{Form}
use Rattle.gt_base.specs.declared.policies.Form.TheVariants.{Each, Start, Span}
use Rattle.gt_base.specs.declared.policies.LimitRule.{LimitRule}
use Rattle.gt_base.specs.declared.requests.Request.{Request}
use Rattle.gt_base.specs.declared.requests.Request.TheVariants as requests
use Rattle.gt_base.specs.declared.requests.Actor.{Actor}
use Rattle.gt_base.specs.declared.requests.Reply.{Reply}
use Rattle.gt_base.specs.declared.requests.Reply.TheVariants as replies
use Rattle.gt_base.specs.declared.requests.Step.{Step}
use Rattle.gt_base.specs.declared.requests.Step.TheVariants.{Tick, Ask}
use Rattle.gt_base.specs.declared.requests.Entry.{Entry}
use Rattle.gt_base.specs.Orders.{prioritised_cmp}
use Rattle.gt_base.proofs.OrderLaws.{prioritised_cmp-IsAntisymmetric}
use Rattle.gt_base.proofs.SetLaws.{has-none}
use Rattle.gt_base.proofs.SetSteps.{prioritised_cmp_total}
use Rattle.gtrbac_model.specs.Same.{same_prioritised}
use Rattle.gtrbac_model.specs.Period.{inside, starts}
use Rattle.gtrbac_model.specs.Policy.{Policy}
use Rattle.gtrbac_model.specs.Conflict.{Status}
use Rattle.gtrbac_model.specs.Trigger.{met, immediate}
use Rattle.gtrbac_model.specs.Instant.{Settled, supported, stands, grounded_after}
use Rattle.gtrbac_model.specs.Status.{Model, since}
use Rattle.gtrbac_model.specs.Base.{when, turned, period_test, raised_by, periodic, queued_at, queued_by, requested, is_ripe, limited_from, limited, delayed, status, raised_at, base_at}
use Rattle.gtrbac_model.specs.History.{IsNamedWish, ask, now_of}
use Rattle.gtrbac_model.specs.WholePolicy.{IsPolicy, is_fluent, is_head, is_entry, is_limit, is_rule}
use Rattle.gtrbac_model.proofs.Elements.{Elem, both_true, either_true, any_elim, all_elim, equal_by, elem_of_set_of}
use Rattle.history_laws.specs.Named.{IsNamedStep, AreNamed}
use Rattle.history_laws.proofs.Members.{of_join}
use Rattle.why_check.specs.Priorities.{HasPriorities, PrioritiesAreLow, AnswersAreLow}

flat_elem : {A B : Type 0} (f : A → List B) (xs : List A) (y : B) → Elem (flat_map f xs) y → (x : A) × Elem xs x × Elem (f x) y
flat_elem f [] y m = elim m [ ]
flat_elem f (x ∷ xs) y m =
    elim (of_join (f x) (flat_map f xs) y m) [
      | inl k ↦ (x, inl refl, k)
      | inr k ↦ let (z, there, at) = flat_elem f xs y k in (z, inr there, at)
    ]

when_is : {A : Type 0} (b : Bool) (a x : A) → Elem (when b a) x → x ≡ a
when_is true a x (inl e) = e
when_is true a x (inr m) = elim m [ ]
when_is false a x m = elim m [ ]

module _ (p : Policy) (good : IsPolicy p) where
  abbrev IsLow : Prioritised → Type 0
  IsLow e = e.prio ≤ 100

  once : (b : Bool) (head e : Prioritised) → IsLow head → Elem (when b head) e → IsLow e
  once b head e named m = subst IsLow (sym (when_is b head e m)) named

  head_low : (h : Prioritised) → is_head p h ≡ true → IsLow h
  head_low h is = omega (arith, leb-true h.prio 99 (both_true (nat_le h.prio 99) _ is).0)

  -- what is raised from outside a set

  by_form : (f : Form) (a b c d : Bool) (head e : Prioritised) → IsLow head
      → Elem (elim f as (λ _. List Prioritised) [ Each ↦ when a head | Start ↦ when b head | Span ↦ when c head ++ when d (turned head) ]) e → IsLow e
  by_form Each a b c d head e named m = once a head e named m
  by_form Start a b c d head e named m = once b head e named m
  by_form Span a b c d head e named m = elim (of_join (when c head) (when d (turned head)) e m) [ inl k ↦ once c head e named k | inr k ↦ once d (turned head) e named k ]

  periodic_low : (birth t : ℕ) (e : Prioritised) → Elem (periodic p birth t) e → IsLow e
  periodic_low birth t e m =
      let (entry, there, raised) = flat_elem (raised_by p.periods birth t) p.entries e m in
      let is : is_entry p entry ≡ true = all_elim (is_entry p) p.entries entry (both_true _ _ good.entries).1 there in
      let head : is_head p entry.head ≡ true = (both_true _ (is_head p entry.head) is).1 in
      let is_in : ℕ → Bool = period_test inside p.periods entry.period in
      by_form entry.form (is_in t) (period_test starts p.periods entry.period t) (is_in t && (nat_eq t (birth + 1) || not (is_in (t - 1)))) (is_in (t - 1) && not (is_in t)) entry.head e
      (head_low entry.head head) raised

  request_low : (actor : Actor) (request : Request) (reply : Reply) (t : ℕ) (e : Prioritised) → IsNamedWish p (ask actor request) → Elem (queued_at t request reply) e → IsLow e
  request_low actor (requests.Raise head d) (replies.Queued due) t e named m = once (nat_eq due t) head e named.1.1 m
  request_low actor (requests.Raise head d) (replies.Now u) t e named m = elim m [ ]
  request_low actor (requests.Raise head d) (replies.Truth b) t e named m = elim m [ ]
  request_low actor (requests.Raise head d) (replies.Event s) t e named m = elim m [ ]
  request_low actor (requests.Raise head d) (replies.Session s) t e named m = elim m [ ]
  request_low actor (requests.Raise head d) replies.Done t e named m = elim m [ ]
  request_low actor (requests.Raise head d) (replies.Active w) t e named m = elim m [ ]
  request_low actor (requests.Raise head d) (replies.Decided g) t e named m = elim m [ ]
  request_low actor (requests.Raise head d) (replies.Refused f) t e named m = elim m [ ]
  request_low actor requests.Now reply t e named m = elim m [ ]
  request_low actor (requests.Status c) reply t e named m = elim m [ ]
  request_low actor (requests.Seen s) reply t e named m = elim m [ ]
  request_low actor requests.OpenSession reply t e named m = elim m [ ]
  request_low actor (requests.CloseSession s) reply t e named m = elim m [ ]
  request_low actor (requests.Activate s r) reply t e named m = elim m [ ]
  request_low actor (requests.Deactivate s r) reply t e named m = elim m [ ]
  request_low actor (requests.Active s r) reply t e named m = elim m [ ]
  request_low actor (requests.Check s q) reply t e named m = elim m [ ]

  step_low : (w : Step) (t : ℕ) (e : Prioritised) → IsNamedStep p w → Elem (queued_by t w) e → IsLow e
  step_low (Tick upto to) t e named m = elim m [ ]
  step_low (Ask actor request reply) t e named m = request_low actor request reply t e named m

  requested_low : (h : List Entry) (t : ℕ) (e : Prioritised) → AreNamed p h → Elem (requested h t) e → IsLow e
  requested_low [] t e named m = elim m [ ]
  requested_low (x ∷ xs) t e named m =
      elim (of_join (queued_by t x.what) (requested xs t) e m) [ inl k ↦ step_low x.what t e named.0 k | inr k ↦ requested_low xs t e named.1 k ]

  rule_head : (r : TriggerView) → Elem p.triggers r → IsLow r.head
  rule_head r there =
      let is : is_rule p r ≡ true = all_elim (is_rule p) p.triggers r (both_true _ _ good.triggers).1 there in
      let head : is_head p r.head ≡ true = (both_true _ (is_head p r.head) (both_true _ _ (both_true _ _ is).0).0).1 in
      head_low r.head head

  delayed_low : (birth : ℕ) (m : Model) (t : ℕ) (e : Prioritised) → Elem (delayed p birth m t) e → IsLow e
  delayed_low birth m t e there =
      let (r, in_list, raised) = flat_elem (λ r. if nat_lt 0 r.delay && nat_lt birth (t - r.delay) then when (met r (m (t - r.delay)) (status p birth m (t - r.delay - 1))) r.head else []) p.triggers e there in
      by r (rule_head r in_list) (nat_lt 0 r.delay && nat_lt birth (t - r.delay)) raised
    where
      by : (r : TriggerView) → IsLow r.head → (b : Bool) → Elem (if b then when (met r (m (t - r.delay)) (status p birth m (t - r.delay - 1))) r.head else []) e → IsLow e
      by r head true k = once _ r.head e head k
      by r head false k = elim k [ ]

  limited_low : (before : Status) (last : Fluent → ℕ) (n : ℕ) (ls : List LimitRule) (t : ℕ) (e : Prioritised) → list_all (is_limit p) ls ≡ true
      → Elem (limited_from p.periods before last n ls t) e → IsLow e
  limited_low before last n [] t e are m = elim m [ ]
  limited_low before last n (l ∷ ls) t e are m =
      let parts = both_true (is_limit p l) _ are in
      let below : nat_le l.prio 99 ≡ true = (both_true (is_fluent p l.cond.fluent) _ (both_true _ _ (both_true _ _ (both_true _ _ parts.0).0).0).0).1 in
      let ends : Prioritised = record { prio = l.prio; event = record { on = not l.cond.on; fluent = l.cond.fluent } } in
      elim (of_join (when (is_ripe p.periods before last n l t) ends) (limited_from p.periods before last (n + 1) ls t) e m) [
        | inl k ↦ once (is_ripe p.periods before last n l t) ends e (omega (arith, leb-true l.prio 99 below)) k
        | inr k ↦ limited_low before last (n + 1) ls t e parts.1 k
      ]

  module _ (birth : ℕ) (m : Model) (h : List Entry) (named : AreNamed p h) where
    raised_low : (t : ℕ) (e : Prioritised) → Elem (raised_at p birth m h t) e → IsLow e
    raised_low t e there =
        let ends : List Prioritised = limited p (status p birth m (t - 1)) (λ f. since p birth m f (t - 1)) t in
        elim (of_join (periodic p birth t ++ requested h t ++ delayed p birth m t) ends e there) [
          | inr k ↦ limited_low (status p birth m (t - 1)) (λ f. since p birth m f (t - 1)) 0 p.limits t e (both_true _ _ good.limits).1 k
          | inl j ↦ elim (of_join (periodic p birth t ++ requested h t) (delayed p birth m t) e j) [
            | inr k ↦ delayed_low birth m t e k
            | inl i ↦ elim (of_join (periodic p birth t) (requested h t) e i) [ inl k ↦ periodic_low birth t e k | inr k ↦ requested_low h t e named k ]
          ]
        ]

    base_low : (t : ℕ) (e : Prioritised) → has (base_at p birth m h t).events e ≡ true → IsLow e
    base_low t e is = raised_low t e (elem_of_set_of prioritised_cmp_total prioritised_cmp-IsAntisymmetric (raised_at p birth m h t) e is)

    -- what stands in a settled set

    supported_low : (t : ℕ) (s : Status) (x : HappenedView) (earlier : List Prioritised) (e : Prioritised) → supported p.triggers (base_at p birth m h t) s x earlier e ≡ true → IsLow e
    supported_low t s x earlier e is =
        elim (either_true (has (base_at p birth m h t).events e) _ is) [
          | inl base ↦ base_low t e base
          | inr heads ↦
              (let (r, there, ok) = any_elim (λ r. immediate r && same_prioritised r.head e && met r x s && list_all (stands x earlier) r.events) p.triggers heads in
              let same : r.head ≡ e = equal_by prioritised_cmp_total prioritised_cmp-IsAntisymmetric r.head e (both_true (immediate r) _ (both_true _ _ (both_true _ _ ok).0).0).1 in
              subst IsLow same (rule_head r there))
        ]

    grounded_low : (t : ℕ) (s : Status) (x : HappenedView) (earlier order : List Prioritised) → grounded_after p.triggers (base_at p birth m h t) s x earlier order ≡ true
        → (e : Prioritised) → Elem order e → IsLow e
    grounded_low t s x earlier [] is e there = elim there [ ]
    grounded_low t s x earlier (o ∷ os) is e (inl same) =
        subst IsLow (sym same) (supported_low t s x earlier o (both_true (supported p.triggers (base_at p birth m h t) s x earlier o) _ is).0)
    grounded_low t s x earlier (o ∷ os) is e (inr there) =
        grounded_low t s x (o ∷ earlier) os (both_true (supported p.triggers (base_at p birth m h t) s x earlier o) _ is).1 e there

    pub set_low : (t : ℕ) (s : Status) (x : HappenedView) → Settled p.triggers (base_at p birth m h t) s x → HasPriorities x
    set_low t s x settled e is =
        let listed : has (set_of {R = prioritised_cmp} settled.order) e ≡ true = subst (λ es. has es e ≡ true) settled.grounding.lists is in
        grounded_low t s x [] settled.order settled.grounding.grounds e (elem_of_set_of prioritised_cmp_total prioritised_cmp-IsAntisymmetric settled.order e listed)

nothing_low : HasPriorities nothing
nothing_low e is = absurd (false≢true (sym (has-none prioritised_cmp e) ∙ is))

pub priorities_are_low : PrioritiesAreLow
priorities_are_low p good birth h m named legal t after now = set_low p good birth m h named t (status p birth m (t - 1)) (m t) (legal.model t after now)

pub answers_are_low : AnswersAreLow
answers_are_low p good birth h m named legal = by (nat_lt birth (now_of birth h)) refl
  where
    by : (b : Bool) → nat_lt birth (now_of birth h) ≡ b → HasPriorities (if b then m (now_of birth h) else nothing)
    by true is = priorities_are_low p good birth h m named legal (now_of birth h) (ltb-true birth (now_of birth h) is) (omega arith)
    by false is = nothing_low
