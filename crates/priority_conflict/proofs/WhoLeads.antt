-- The leader of a fluent, event by event, and that the leaders are the winners.
use Rattle.std.proofs.Common.{◌≡◌, ℕ, ◌+◌, get_or, take, ◌<◌, Bool, true, false, cond, not, ◌&&◌, ◌||◌, nat_le, nat_lt, inl, inr, List, [], ◌∷◌, length, map, slice_index_or, zero, suc, Option, Some, None, Contains, refl, sym, ◌∙◌, ap, subst, arith}
use Rattle.std.proofs.lemmas.List.Folds.{list_any_more}
use Rattle.std.specs.Cmp.{both_ways}
use Rattle.std.proofs.lemmas.Bool.{false≢true}
use Rattle.std.proofs.lemmas.Bool.Decides.{nat_tests}
use Rattle.std.proofs.lemmas.Map.Views.{Contains-from_lookup, lookup-from_Contains}
use Rattle.std.proofs.lemmas.Map.Made.{Contains-values_of, Contains-from_values_of}
use Rattle.std.proofs.lemmas.List.Elements.{Contains-get_or, Contains-append_right}
use Rattle.gt_base.specs.contracts.events.FluentEq.TheImpl.Laws.{laws-law}
use Rattle.gt_base.specs.contracts.events.FluentOrd.TheImpl.Laws as fluent_laws
use Rattle.gt_base.specs.declared.events.Event.{Event}
use Rattle.gt_base.specs.declared.events.Fluent.{Fluent}
use Rattle.gt_base.specs.declared.events.Prioritised.{Prioritised}
use Rattle.gt_base.specs.Events.{converse}
use Rattle.gt_base.specs.Happening.{HappenedView, Events}
use Rattle.gt_base.specs.Orders.{fluent_eq, prioritised_cmp}
use Rattle.gt_base.specs.Sets.{SetOf, has, members, with_member}
use Rattle.gt_base.proofs.SetLaws.{has-members, has-with_member}
use Rattle.gt_base.proofs.OrderLaws.{fluent_cmp-IsAntisymmetric}
use Rattle.gt_base.proofs.SetSteps.{fluent_cmp_total, event_cmp_total, prioritised_cmp_total}
use Rattle.gt_base.proofs.OrderLaws.{prioritised_cmp-IsAntisymmetric}
use Rattle.gtrbac_model.specs.Conflict.{Status, beats, blocked, won, after, turns_on, turns_off}
use Rattle.gtrbac_model.specs.Same.{lists, same_event, same_prioritised}
use Rattle.gtrbac_model.proofs.Elements.{Elem, both_true, and_true, either_true, left_true, right_true, split, any_elim, any_intro, equal_by, tied}
use Rattle.gtrbac_model.proofs.Uniqueness.{elem, of_elem, is_same_event, same_event_of, is_same_prioritised}
use Rattle.indexmap.specs.IndexMap.{IndexMap, get, values, IsUnique}
use Rattle.priority_conflict.proofs.OverLaws.{or_comm}
use Rattle.priority_conflict.specs.Winning.{is_under, Leads, IsLeader, leader_after, led}

pub one_fluent : (a b : Fluent) → fluent_eq a b ≡ true → a ≡ b
one_fluent a b h = equal_by fluent_cmp_total fluent_cmp-IsAntisymmetric a b (sym (fluent_laws.matches_eq-law a b) ∙ h)

abbrev Under : Bool → ℕ → Bool → ℕ → Type 0
Under a m b n = cond (a || not b) (nat_le m n) (nat_lt m n) ≡ true

-- what beats the leader is above all that the leader is above
over_both : (a b c : Bool) (m n k : ℕ) → Under a m b n → beats b k n ≡ true → Under a m c k
over_both true true c m n k u v = grind (arith, nat_tests)
over_both false true true m n k u v = grind (arith, nat_tests)
over_both false true false m n k u v = grind (arith, nat_tests)
over_both true false c m n k u v = grind (arith, nat_tests)
over_both false false true m n k u v = grind (arith, nat_tests)
over_both false false false m n k u v = grind (arith, nat_tests)

-- what does not is not above it
under_leader : (b c : Bool) (n k : ℕ) → beats b k n ≡ false → Under c k b n
under_leader true true n k v = grind (arith, nat_tests)
under_leader true false n k v = grind (arith, nat_tests)
under_leader false true n k v = grind (arith, nat_tests)
under_leader false false n k v = grind (arith, nat_tests)

under_itself : (b : Bool) (n : ℕ) → Under b n b n
under_itself true n = grind (arith, nat_tests)
under_itself false n = grind (arith, nat_tests)

abbrev Joins : (Prioritised → Bool) → Prioritised → (Prioritised → Bool) → Type 0
Joins there p next = (o : Prioritised) → next o ≡ (there o || same_prioritised o p)

module _ (there next : Prioritised → Bool) (p : Prioritised) (more : Joins there p next) where
  stays : (o : Prioritised) → there o ≡ true → next o ≡ true
  stays o h = more o ∙ left_true (there o) _ h

  joined : next p ≡ true
  joined = more p ∙ right_true (there p) _ (tied prioritised_cmp_total prioritised_cmp-IsAntisymmetric p p refl)

  -- an event that is there then was there, or is the new one
  one_of : {P : Type 0} (o : Prioritised) → next o ≡ true → (there o ≡ true → P) → (o ≡ p → P) → P
  one_of o h old new = elim (either_true (there o) _ (sym (more o) ∙ h)) [ inl k ↦ old k | inr k ↦ new (is_same_prioritised o p k) ]

  takes_over : (f : Fluent) (q : Prioritised) → p.event.fluent ≡ f → Leads there f q → beats q.event.on p.prio q.prio ≡ true → Leads next f p
  takes_over f q is lead b =
      record {
        stands = joined;
        of_fluent = is;
        top = λ o of h.
            one_of o h (λ k. over_both o.event.on q.event.on p.event.on o.prio q.prio p.prio (lead.top o of k) b)
            (λ e. subst (λ z. is_under z p ≡ true) (sym e) (under_itself p.event.on p.prio));
      }

  stays_leader : (f : Fluent) (q : Prioritised) → Leads there f q → beats q.event.on p.prio q.prio ≡ false → Leads next f q
  stays_leader f q lead b =
      record {
        stands = stays q lead.stands;
        of_fluent = lead.of_fluent;
        top = λ o of h.
            one_of o h (lead.top o of) (λ e. subst (λ z. is_under z q ≡ true) (sym e) (under_leader q.event.on p.event.on q.prio p.prio b));
      }

  first : (f : Fluent) → p.event.fluent ≡ f → IsLeader there f None → Leads next f p
  first f is none =
      record {
        stands = joined;
        of_fluent = is;
        top = λ o of h. one_of o h (λ k. absurd (false≢true (sym (none o of) ∙ k))) (λ e. subst (λ z. is_under z p ≡ true) (sym e) (under_itself p.event.on p.prio));
      }

  -- an event of the fluent
  leads_next : (f : Fluent) (lead : Option Prioritised) → p.event.fluent ≡ f → IsLeader there f lead → Leads next f (leader_after lead p)
  leads_next f None is h = first f is h
  leads_next f (Some q) is h = by (beats q.event.on p.prio q.prio) refl
    where
      by : (b : Bool) → beats q.event.on p.prio q.prio ≡ b → Leads next f (cond b p q)
      by true b = takes_over f q is h b
      by false b = stays_leader f q h b

  -- an event of another fluent
  leads_on : (f : Fluent) (lead : Option Prioritised) → (p.event.fluent ≡ f → ⊥) → IsLeader there f lead → IsLeader next f lead
  leads_on f None other h = λ o of. split (next o) (λ k. one_of o k (λ t. absurd (false≢true (sym (h o of) ∙ t))) (λ e. absurd (other (ap (λ z. z.event.fluent) (sym e) ∙ of)))) (λ k. k)
  leads_on f (Some q) other h =
      record {
        stands = stays q h.stands;
        of_fluent = h.of_fluent;
        top = λ o of k. one_of o k (h.top o of) (λ e. absurd (other (ap (λ z. z.event.fluent) (sym e) ∙ of)));
      }

  -- the leaders after one more event
  pub all_lead : (old new : Fluent → Option Prioritised) → ((f : Fluent) → new f ≡ cond (fluent_eq p.event.fluent f) (Some (leader_after (old p.event.fluent) p)) (old f))
      → ((f : Fluent) → IsLeader there f (old f)) → (f : Fluent) → IsLeader next f (new f)
  all_lead old new is so_far f = subst (IsLeader next f) (sym (is f)) (by (fluent_eq p.event.fluent f) refl)
    where
      by : (b : Bool) → fluent_eq p.event.fluent f ≡ b → IsLeader next f (cond b (Some (leader_after (old p.event.fluent) p)) (old f))
      by true h = leads_next f (old p.event.fluent) (one_fluent _ _ h) (subst (λ g. IsLeader there g (old p.event.fluent)) (one_fluent _ _ h) (so_far p.event.fluent))
      by false h = leads_on f (old f) (λ e. false≢true (sym h ∙ ap (fluent_eq p.event.fluent) (sym e) ∙ laws-law.refl p.event.fluent)) (so_far f)

-- no event leads where there are none
pub none_leads : (f : Fluent) → IsLeader (lists same_prioritised []) f None
none_leads f o of = refl

under_beats : (a : Bool) (m n : ℕ) → Under a m (not a) n → beats a n m ≡ true
under_beats true m n h = h
under_beats false m n h = h

not_both : (a : Bool) (m n : ℕ) → Under (not a) m a n → beats a m n ≡ true → ⊥
not_both true m n h b = grind (arith, nat_tests)
not_both false m n h b = grind (arith, nat_tests)

other : (a b : Bool) → (a ≡ b → ⊥) → a ≡ not b
other true true h = absurd (h refl)
other true false h = refl
other false true h = refl
other false false h = absurd (h refl)

event_of : (a b : Event) → a.on ≡ b.on → a.fluent ≡ b.fluent → a ≡ b
event_of a b p q = λ i. record { on = p i; fluent = q i }

module _ (x : HappenedView) (e : Event) where
  -- what is won leads
  won_leads : (q : Prioritised) → Leads (has x.events) e.fluent q → won x e ≡ true → same_event q.event e ≡ true
  won_leads q lead w =
      let (o, m, h) = any_elim (λ o. same_event o.event e && not (blocked x o)) (members x.events) w in
      let t : (same_event o.event e ≡ true) × (not (blocked x o) ≡ true) = both_true _ _ h in
      let is : o.event ≡ e = is_same_event _ _ t.0 in
      split (same_event q.event e) (λ k. k) (λ k.
      let apart : q.event.on ≡ not o.event.on = other _ _ (λ p. false≢true (sym k ∙ same_event_of q.event e (event_of _ _ (p ∙ ap (λ z. z.on) is) lead.of_fluent))) in
      let facing : q.event ≡ converse o.event = event_of _ _ apart (lead.of_fluent ∙ ap (λ z. z.fluent) (sym is)) in
      let under : Under o.event.on o.prio (not o.event.on) q.prio = subst (λ b. Under o.event.on o.prio b q.prio) apart (lead.top o (ap (λ z. z.fluent) is) (of_elem x o m)) in
      let hit : blocked x o ≡ true =
      any_intro (λ c. same_event c.event (converse o.event) && beats o.event.on c.prio o.prio) (members x.events) q (elem x q lead.stands)
      (and_true _ _ (same_event_of _ _ facing) (under_beats o.event.on o.prio q.prio under)) in
      absurd (false≢true (ap not (sym hit) ∙ t.1)))

  -- what leads is not blocked
  free : (q : Prioritised) → Leads (has x.events) e.fluent q → blocked x q ≡ false
  free q lead = split (blocked x q) (λ k. absurd (hit k)) (λ k. k)
    where
      hit : blocked x q ≡ true → ⊥
      hit k =
          let (c, m, h) = any_elim (λ c. same_event c.event (converse q.event) && beats q.event.on c.prio q.prio) (members x.events) k in
          let t : (same_event c.event (converse q.event) ≡ true) × (beats q.event.on c.prio q.prio ≡ true) = both_true _ _ h in
          let is : c.event ≡ converse q.event = is_same_event _ _ t.0 in
          not_both q.event.on c.prio q.prio
          (subst (λ b. Under b c.prio q.event.on q.prio) (ap (λ z. z.on) is) (lead.top c (ap (λ z. z.fluent) is ∙ lead.of_fluent) (of_elem x c m)))
          t.1

  leads_won : (q : Prioritised) → Leads (has x.events) e.fluent q → same_event q.event e ≡ true → won x e ≡ true
  leads_won q lead k =
      any_intro (λ o. same_event o.event e && not (blocked x o)) (members x.events) q (elem x q lead.stands) (and_true _ _ k (ap not (free q lead)))

  -- an event is won exactly where it leads its fluent
  pub won_by : (lead : Option Prioritised) → IsLeader (has x.events) e.fluent lead → won x e ≡ led lead e
  won_by (Some q) h = both_ways _ _ (won_leads q h) (leads_won q h)
  won_by None h = split (won x e) (λ w. absurd (none w)) (λ w. w)
    where
      none : won x e ≡ true → ⊥
      none w =
          let (o, m, k) = any_elim (λ o. same_event o.event e && not (blocked x o)) (members x.events) w in
          let is : o.event ≡ e = is_same_event _ _ (both_true _ _ k).0 in
          false≢true (sym (h o (ap (λ z. z.fluent) is)) ∙ of_elem x o m)

-- the leader of a fluent decides whether it is on; where none leads, it stays
abbrev pub on_by : Option Prioritised → Bool → Bool
on_by None before = before
on_by (Some q) before = q.event.on

-- so it is after the set
pub after_by : (x : HappenedView) (s : Status) (f : Fluent) (lead : Option Prioritised) → IsLeader (has x.events) f lead → after x s f ≡ on_by lead (s f)
after_by x s f lead is =
    (λ i. cond (won_by x (turns_on f) lead is i) true (cond (won_by x (turns_off f) lead is i) false (s f))) ∙ decides lead is
  where
    by : (q : Prioritised) (b : Bool) → q.event.on ≡ b → q.event.fluent ≡ f → ◌≡◌ {A = Bool} (cond (same_event q.event (turns_on f)) true (cond (same_event q.event (turns_off f)) false (s f))) b
    by q true on of = ap (λ b. cond b true (cond (same_event q.event (turns_off f)) false (s f))) (same_event_of q.event (turns_on f) (event_of _ _ on of))
    by q false on of =
        let is : q.event ≡ turns_off f = event_of _ _ on of in
        (λ i. cond (same_event (is i) (turns_on f)) true (cond (same_event (is i) (turns_off f)) false (s f)))
        ∙ ap (λ b. cond b false (s f)) (same_event_of (turns_off f) (turns_off f) refl)

    decides : (lead : Option Prioritised) → IsLeader (has x.events) f lead → cond (led lead (turns_on f)) true (cond (led lead (turns_off f)) false (s f)) ≡ on_by lead (s f)
    decides None h = refl
    decides (Some q) h = by q q.event.on refl h.of_fluent

contains_of : {A : Type 0} (xs : List A) (x : A) → Elem xs x → Contains xs x
contains_of [] x m = elim m [ ]
contains_of (y ∷ ys) x (inl e) = subst (Contains (y ∷ ys)) (sym e) (Contains-get_or (y ∷ ys) 0 y (omega arith))
contains_of (y ∷ ys) x (inr m) = Contains-append_right (y ∷ []) ys x (contains_of ys x m)

elem_at : {A : Type 0} (xs : List A) (k : ℕ) (x : A) → k < length xs → slice_index_or xs k x ≡ x → Elem xs x
elem_at [] k x lt h = absurd (omega arith)
elem_at (y ∷ ys) zero x lt h = inl (sym h)
elem_at (y ∷ ys) (suc k) x lt h = inr (elem_at ys k x (omega arith) h)

of_map : {A B : Type 0} (f : A → B) (xs : List A) (y : B) → Elem (map f xs) y → (x : A) × Elem xs x × (y ≡ f x)
of_map f [] y m = elim m [ ]
of_map f (x ∷ xs) y (inl e) = (x, inl refl, e)
of_map f (x ∷ xs) y (inr m) = let (z, k, e) = of_map f xs y m in (z, inr k, e)

in_map : {A B : Type 0} (f : A → B) (xs : List A) (x : A) → Elem xs x → Elem (map f xs) (f x)
in_map f [] x m = elim m [ ]
in_map f (y ∷ ys) x (inl e) = inl (ap f e)
in_map f (y ∷ ys) x (inr m) = inr (in_map f ys x m)

module _ {S : Type 0} (m : IndexMap Fluent Prioritised S) (x : HappenedView) (unique : IsUnique fluent_eq m) (lead : (f : Fluent) → IsLeader (has x.events) f (get fluent_eq m f)) (e : Event) where
  abbrev events : List Event
  events = map (λ p. p.event) (values m)

  listed_leads : lists same_event events e ≡ true → won x e ≡ true
  listed_leads h =
      let (y, k, t) = any_elim (same_event e) events h in
      let (q, kq, is) = of_map (λ p. p.event) (values m) y k in
      let (f, there) = Contains-from_values_of m.entries q (contains_of (values m) q kq) in
      let found : get fluent_eq m f ≡ Some q = lookup-from_Contains laws-law f q m.entries unique there in
      let own : Leads (has x.events) f q = subst (IsLeader (has x.events) f) found (lead f) in
      let is_e : e ≡ q.event = is_same_event e y t ∙ is in
      let here : Leads (has x.events) e.fluent q = subst (λ g. Leads (has x.events) g q) (sym own.of_fluent ∙ ap (λ z. z.fluent) (sym is_e)) own in
      leads_won x e q here (same_event_of q.event e (sym is_e))

  leads_listed : won x e ≡ true → lists same_event events e ≡ true
  leads_listed w = by (get fluent_eq m e.fluent) refl
    where
      by : (o : Option Prioritised) → get fluent_eq m e.fluent ≡ o → lists same_event events e ≡ true
      by None h = absurd (false≢true (ap (λ o. led o e) (sym h) ∙ sym (won_by x e (get fluent_eq m e.fluent) (lead e.fluent)) ∙ w))
      by (Some q) h =
          let is : q.event ≡ e = is_same_event _ _ (ap (λ o. led o e) (sym h) ∙ sym (won_by x e (get fluent_eq m e.fluent) (lead e.fluent)) ∙ w) in
          let there : Contains (values m) q = Contains-values_of m.entries e.fluent q (Contains-from_lookup one_fluent e.fluent q m.entries h) in
          any_intro (same_event e) events q.event (in_map (λ p. p.event) (values m) q (elem_at (values m) there.0 q there.1 there.2)) (same_event_of e q.event (sym is))

  -- the events of the leaders are those that are won
  pub winners_are : lists same_event events e ≡ won x e
  winners_are = both_ways _ _ listed_leads leads_listed

-- the leaders among the events of a set lead in it
pub leads_in : (x : HappenedView) (es : List Prioritised) → es ≡ members x.events → (under : Fluent → Option Prioritised) → ((f : Fluent) → IsLeader (lists same_prioritised es) f (under f))
    → (f : Fluent) → IsLeader (has x.events) f (under f)
leads_in x es is under lead f = subst (λ there. IsLeader there f (under f)) (λ i o. (ap (λ xs. lists same_prioritised xs o) is ∙ sym (has-members x.events o)) i) (lead f)

-- one event more in a set of listed events
pub listed_more : (s t : Events) (es : List Event) (i : ℕ) (d e : Event) → t ≡ with_member s (get_or es i d) → i < length es → has s e ≡ lists same_event (take i es) e → has t e ≡ lists same_event (take (i + 1) es) e
listed_more s t es i d e is lt so_far =
    ap (λ u. has u e) is ∙ has-with_member event_cmp_total s (get_or es i d) e ∙ or_comm (same_event e (get_or es i d)) (has s e)
    ∙ ap (λ b. b || same_event e (get_or es i d)) so_far ∙ sym (list_any_more (same_event e) es i d lt)

-- an event that joins a set
pub joins : (s t u : SetOf prioritised_cmp) (p : Prioritised) → t ≡ s → u ≡ with_member t p → (o : Prioritised) → has u o ≡ (has s o || same_prioritised o p)
joins s t u p same is o =
    ap (λ v. has v o) is ∙ has-with_member prioritised_cmp_total t p o ∙ or_comm (same_prioritised o p) (has t o) ∙ ap (λ v. has v o || same_prioritised o p) same
