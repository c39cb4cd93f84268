-- Only fluents of the policy are ever on in a history of named moves.
use Rattle.std.proofs.Common.{◌≡◌, inl, inr, ℕ, zero, suc, ◌+◌, ◌-◌, ◌≤◌, Bool, true, false, cond, not, ◌&&◌, ◌||◌, List, [], ◌∷◌, ◌++◌, refl, sym, ◌∙◌, subst, arith, if◌then◌else◌}
use Rattle.std.specs.Prelude.{flat_map, nat_eq, nat_lt}
use Rattle.std.specs.List.{list_all}
use Rattle.std.proofs.lemmas.Bool.{false≢true, lt-ltb}
use Rattle.gt_base.specs.Sets.{has, members, set_of, some_member}
use Rattle.gt_base.specs.Held.{TriggerView}
use Rattle.gt_base.specs.Happening.{HappenedView}
use Rattle.gt_base.specs.declared.events.Fluent.{Fluent}
use Rattle.gt_base.specs.declared.events.Fluent.TheVariants.{Enabled, Assigned, Granted, Limit, Edge}
use Rattle.gt_base.specs.declared.events.Event.{Event}
use Rattle.gt_base.specs.declared.events.Prioritised.{Prioritised}
use Rattle.gt_base.specs.declared.policies.Form.{Form}
use Rattle.gt_base.specs.declared.policies.Form.TheVariants.{Each, Start, Span}
use Rattle.gt_base.specs.declared.policies.LimitRule.{LimitRule}
use Rattle.gt_base.specs.declared.requests.Request.{Request}
use Rattle.gt_base.specs.declared.requests.Request.TheVariants as requests
use Rattle.gt_base.specs.declared.requests.Actor.{Actor}
use Rattle.gt_base.specs.declared.requests.Reply.{Reply}
use Rattle.gt_base.specs.declared.requests.Reply.TheVariants as replies
use Rattle.gt_base.specs.declared.requests.Step.{Step}
use Rattle.gt_base.specs.declared.requests.Step.TheVariants.{Tick, Ask}
use Rattle.gt_base.specs.declared.requests.Entry.{Entry}
use Rattle.gt_base.specs.Orders.{prioritised_cmp}
use Rattle.gt_base.proofs.OrderLaws.{prioritised_cmp-IsAntisymmetric, event_cmp-IsAntisymmetric, fluent_cmp-IsAntisymmetric}
use Rattle.gt_base.proofs.SetSteps.{prioritised_cmp_total, fluent_cmp_total}
use Rattle.gt_base.proofs.SetLaws.{some_member-set_of}
use Rattle.gtrbac_model.specs.Same.{same_event, same_prioritised}
use Rattle.gtrbac_model.specs.Period.{inside, starts}
use Rattle.gtrbac_model.specs.Policy.{Policy}
use Rattle.gtrbac_model.specs.Conflict.{Status, won, blocked, turns_on, turns_off, after}
use Rattle.gtrbac_model.specs.Trigger.{met, immediate}
use Rattle.gtrbac_model.specs.Instant.{Settled, supported, stands, grounded_after}
use Rattle.gtrbac_model.specs.Status.{Model, status_after, since}
use Rattle.gtrbac_model.specs.Base.{when, turned, period_test, raised_by, periodic, queued_at, queued_by, requested, is_ripe, limited_from, limited, delayed, status, raised_at, base_at}
use Rattle.gtrbac_model.specs.History.{Legal, IsNamedWish, ask, now_of}
use Rattle.gtrbac_model.specs.WholePolicy.{IsPolicy, is_fluent, is_head, is_entry, is_limit, is_rule}
use Rattle.gtrbac_model.proofs.Elements.{Elem, both_true, and_true, either_true, any_elim, all_elim, equal_by, elem_of_has, elem_of_set_of}
use Rattle.gtrbac_model.proofs.Uniqueness.{event_cmp_total}
use Rattle.history_laws.specs.Named.{IsNamedStep, AreNamed, OnlyNamedIsOn}
use Rattle.history_laws.proofs.Members.{of_join}

flat_elem : {A B : Type 0} (f : A → List B) (xs : List A) (y : B) → Elem (flat_map f xs) y → (x : A) × Elem xs x × Elem (f x) y
flat_elem f [] y m = elim m [ ]
flat_elem f (x ∷ xs) y m =
    elim (of_join (f x) (flat_map f xs) y m) [
      | inl k ↦ (x, inl refl, k)
      | inr k ↦ let (z, there, at) = flat_elem f xs y k in (z, inr there, at)
    ]

when_is : {A : Type 0} (b : Bool) (a x : A) → Elem (when b a) x → x ≡ a
when_is true a x (inl e) = e
when_is true a x (inr m) = elim m [ ]
when_is false a x m = elim m [ ]

-- the numbers of a fluent, as a test
fluent_passes : (p : Policy) (actor : Actor) (on : Bool) (f : Fluent) → IsNamedWish p (ask actor (requests.Seen (record { on = on; fluent = f }))) → is_fluent p f ≡ true
fluent_passes p actor on (Enabled r) h = lt-ltb r.0 p.roles h.1
fluent_passes p actor on (Assigned u r) h = and_true _ _ (lt-ltb u.0 p.users h.1.0) (lt-ltb r.0 p.roles h.1.1)
fluent_passes p actor on (Granted q r) h = and_true _ _ (lt-ltb q.0 p.perms h.1.0) (lt-ltb r.0 p.roles h.1.1)
fluent_passes p actor on (Limit l) h = lt-ltb l.0 _ h.1
fluent_passes p actor on (Edge n) h = lt-ltb n _ h.1

module _ (p : Policy) (good : IsPolicy p) where
  abbrev Named : Prioritised → Type 0
  Named e = is_fluent p e.event.fluent ≡ true

  once : (b : Bool) (head e : Prioritised) → Named head → Elem (when b head) e → Named e
  once b head e named m = subst Named (sym (when_is b head e m)) named

  -- what is raised from outside a set

  by_form : (f : Form) (a b c d : Bool) (head e : Prioritised) → Named head
      → Elem (elim f as (λ _. List Prioritised) [ Each ↦ when a head | Start ↦ when b head | Span ↦ when c head ++ when d (turned head) ]) e → Named e
  by_form Each a b c d head e named m = once a head e named m
  by_form Start a b c d head e named m = once b head e named m
  by_form Span a b c d head e named m = elim (of_join (when c head) (when d (turned head)) e m) [ inl k ↦ once c head e named k | inr k ↦ once d (turned head) e named k ]

  periodic_named : (birth t : ℕ) (e : Prioritised) → Elem (periodic p birth t) e → Named e
  periodic_named birth t e m =
      let (entry, there, raised) = flat_elem (raised_by p.periods birth t) p.entries e m in
      let is : is_entry p entry ≡ true = all_elim (is_entry p) p.entries entry (both_true _ _ good.entries).1 there in
      let head : is_head p entry.head ≡ true = (both_true _ (is_head p entry.head) is).1 in
      let is_in : ℕ → Bool = period_test inside p.periods entry.period in
      by_form entry.form (is_in t) (period_test starts p.periods entry.period t) (is_in t && (nat_eq t (birth + 1) || not (is_in (t - 1)))) (is_in (t - 1) && not (is_in t)) entry.head e
      (both_true _ (is_fluent p entry.head.event.fluent) head).1 raised

  request_named : (actor : Actor) (request : Request) (reply : Reply) (t : ℕ) (e : Prioritised) → IsNamedWish p (ask actor request) → Elem (queued_at t request reply) e → Named e
  request_named actor (requests.Raise head d) (replies.Queued due) t e named m = once (nat_eq due t) head e (fluent_passes p actor head.event.on head.event.fluent (named.0, named.1.0)) m
  request_named actor (requests.Raise head d) (replies.Now u) t e named m = elim m [ ]
  request_named actor (requests.Raise head d) (replies.Truth b) t e named m = elim m [ ]
  request_named actor (requests.Raise head d) (replies.Event s) t e named m = elim m [ ]
  request_named actor (requests.Raise head d) (replies.Session s) t e named m = elim m [ ]
  request_named actor (requests.Raise head d) replies.Done t e named m = elim m [ ]
  request_named actor (requests.Raise head d) (replies.Active w) t e named m = elim m [ ]
  request_named actor (requests.Raise head d) (replies.Decided g) t e named m = elim m [ ]
  request_named actor (requests.Raise head d) (replies.Refused f) t e named m = elim m [ ]
  request_named actor requests.Now reply t e named m = elim m [ ]
  request_named actor (requests.Status c) reply t e named m = elim m [ ]
  request_named actor (requests.Seen s) reply t e named m = elim m [ ]
  request_named actor requests.OpenSession reply t e named m = elim m [ ]
  request_named actor (requests.CloseSession s) reply t e named m = elim m [ ]
  request_named actor (requests.Activate s r) reply t e named m = elim m [ ]
  request_named actor (requests.Deactivate s r) reply t e named m = elim m [ ]
  request_named actor (requests.Active s r) reply t e named m = elim m [ ]
  request_named actor (requests.Check s q) reply t e named m = elim m [ ]

  step_named : (w : Step) (t : ℕ) (e : Prioritised) → IsNamedStep p w → Elem (queued_by t w) e → Named e
  step_named (Tick upto to) t e named m = elim m [ ]
  step_named (Ask actor request reply) t e named m = request_named actor request reply t e named m

  requested_named : (h : List Entry) (t : ℕ) (e : Prioritised) → AreNamed p h → Elem (requested h t) e → Named e
  requested_named [] t e named m = elim m [ ]
  requested_named (x ∷ xs) t e named m =
      elim (of_join (queued_by t x.what) (requested xs t) e m) [ inl k ↦ step_named x.what t e named.0 k | inr k ↦ requested_named xs t e named.1 k ]

  rule_head : (r : TriggerView) → Elem p.triggers r → Named r.head
  rule_head r there =
      let is : is_rule p r ≡ true = all_elim (is_rule p) p.triggers r (both_true _ _ good.triggers).1 there in
      let head : is_head p r.head ≡ true = (both_true _ (is_head p r.head) (both_true _ _ (both_true _ _ is).0).0).1 in
      (both_true _ (is_fluent p r.head.event.fluent) head).1

  delayed_named : (birth : ℕ) (m : Model) (t : ℕ) (e : Prioritised) → Elem (delayed p birth m t) e → Named e
  delayed_named birth m t e there =
      let (r, in_list, raised) = flat_elem (λ r. if nat_lt 0 r.delay && nat_lt birth (t - r.delay) then when (met r (m (t - r.delay)) (status p birth m (t - r.delay - 1))) r.head else []) p.triggers e there in
      by r (rule_head r in_list) (nat_lt 0 r.delay && nat_lt birth (t - r.delay)) raised
    where
      by : (r : TriggerView) → Named r.head → (b : Bool) → Elem (if b then when (met r (m (t - r.delay)) (status p birth m (t - r.delay - 1))) r.head else []) e → Named e
      by r head true k = once _ r.head e head k
      by r head false k = elim k [ ]

  limited_named : (before : Status) (last : Fluent → ℕ) (n : ℕ) (ls : List LimitRule) (t : ℕ) (e : Prioritised) → list_all (is_limit p) ls ≡ true
      → Elem (limited_from p.periods before last n ls t) e → Named e
  limited_named before last n [] t e are m = elim m [ ]
  limited_named before last n (l ∷ ls) t e are m =
      let parts = both_true (is_limit p l) _ are in
      let fluent : is_fluent p l.cond.fluent ≡ true = (both_true (is_fluent p l.cond.fluent) _ (both_true _ _ (both_true _ _ (both_true _ _ parts.0).0).0).0).0 in
      let ends : Prioritised = record { prio = l.prio; event = record { on = not l.cond.on; fluent = l.cond.fluent } } in
      elim (of_join (when (is_ripe p.periods before last n l t) ends) (limited_from p.periods before last (n + 1) ls t) e m) [
        | inl k ↦ once (is_ripe p.periods before last n l t) ends e fluent k
        | inr k ↦ limited_named before last (n + 1) ls t e parts.1 k
      ]

  module _ (birth : ℕ) (m : Model) (h : List Entry) (named : AreNamed p h) where
    raised_named : (t : ℕ) (e : Prioritised) → Elem (raised_at p birth m h t) e → Named e
    raised_named t e there =
        let ends : List Prioritised = limited p (status p birth m (t - 1)) (λ f. since p birth m f (t - 1)) t in
        elim (of_join (periodic p birth t ++ requested h t ++ delayed p birth m t) ends e there) [
          | inr k ↦ limited_named (status p birth m (t - 1)) (λ f. since p birth m f (t - 1)) 0 p.limits t e (both_true _ _ good.limits).1 k
          | inl j ↦ elim (of_join (periodic p birth t ++ requested h t) (delayed p birth m t) e j) [
            | inr k ↦ delayed_named birth m t e k
            | inl i ↦ elim (of_join (periodic p birth t) (requested h t) e i) [ inl k ↦ periodic_named birth t e k | inr k ↦ requested_named h t e named k ]
          ]
        ]

    base_named : (t : ℕ) (e : Prioritised) → has (base_at p birth m h t).events e ≡ true → Named e
    base_named t e is = raised_named t e (elem_of_set_of prioritised_cmp_total prioritised_cmp-IsAntisymmetric (raised_at p birth m h t) e is)

    -- what stands in a settled set

    supported_named : (t : ℕ) (s : Status) (x : HappenedView) (earlier : List Prioritised) (e : Prioritised) → supported p.triggers (base_at p birth m h t) s x earlier e ≡ true → Named e
    supported_named t s x earlier e is =
        elim (either_true (has (base_at p birth m h t).events e) _ is) [
          | inl base ↦ base_named t e base
          | inr heads ↦
              (let (r, there, ok) = any_elim (λ r. immediate r && same_prioritised r.head e && met r x s && list_all (stands x earlier) r.events) p.triggers heads in
              let same : r.head ≡ e = equal_by prioritised_cmp_total prioritised_cmp-IsAntisymmetric r.head e (both_true (immediate r) _ (both_true _ _ (both_true _ _ ok).0).0).1 in
              subst Named same (rule_head r there))
        ]

    grounded_named : (t : ℕ) (s : Status) (x : HappenedView) (earlier order : List Prioritised) → grounded_after p.triggers (base_at p birth m h t) s x earlier order ≡ true
        → (e : Prioritised) → Elem order e → Named e
    grounded_named t s x earlier [] is e there = elim there [ ]
    grounded_named t s x earlier (o ∷ os) is e (inl same) =
        subst Named (sym same) (supported_named t s x earlier o (both_true (supported p.triggers (base_at p birth m h t) s x earlier o) _ is).0)
    grounded_named t s x earlier (o ∷ os) is e (inr there) =
        grounded_named t s x (o ∷ earlier) os (both_true (supported p.triggers (base_at p birth m h t) s x earlier o) _ is).1 e there

    won_named : (t : ℕ) (s : Status) (x : HappenedView) → Settled p.triggers (base_at p birth m h t) s x → (ev : Event) → won x ev ≡ true → is_fluent p ev.fluent ≡ true
    won_named t s x settled ev is =
        let test = λ (o : Prioritised). same_event o.event ev && not (blocked x o) in
        let listed : some_member test (set_of {R = prioritised_cmp} settled.order) ≡ true = subst (λ es. some_member test es ≡ true) settled.grounding.lists is in
        let (o, there, ok) = any_elim test settled.order (sym (some_member-set_of prioritised_cmp_total prioritised_cmp-IsAntisymmetric test settled.order) ∙ listed) in
        let same : o.event ≡ ev = equal_by event_cmp_total event_cmp-IsAntisymmetric o.event ev (both_true (same_event o.event ev) _ ok).0 in
        subst (λ (ev : Event). is_fluent p ev.fluent ≡ true) same (grounded_named t s x [] settled.order settled.grounding.grounds o there)

    on_named : (legal : Legal p birth h m) (k : ℕ) → birth + k ≤ now_of birth h → (f : Fluent) → status_after p birth m k f ≡ true → is_fluent p f ≡ true
    on_named legal zero le f on = all_elim (is_fluent p) (members p.opening) f good.opening (elem_of_has fluent_cmp_total fluent_cmp-IsAntisymmetric p.opening f on)
    on_named legal (suc k) le f on =
        let t : ℕ = birth + suc k in
        let settled = legal.model t (omega arith) le in
        by (won (m t) (turns_on f)) refl (won (m t) (turns_off f)) (won_named t _ (m t) settled (turns_on f)) (on_named legal k (omega (arith, le)) f) on
      where
        by : (a : Bool) → won (m (birth + suc k)) (turns_on f) ≡ a → (b : Bool) → (won (m (birth + suc k)) (turns_on f) ≡ true → is_fluent p f ≡ true) → (status_after p birth m k f ≡ true → is_fluent p f ≡ true)
            → cond a true (cond b false (status_after p birth m k f)) ≡ true → is_fluent p f ≡ true
        by true is b won_is before on = won_is is
        by false is true won_is before on = absurd (false≢true on)
        by false is false won_is before on = before on

pub only_named_is_on : OnlyNamedIsOn
only_named_is_on p birth h m good named legal t after now f on = on_named p good birth m h named legal (t - birth) (omega (arith, after, now)) f on
