-- Heads that are listed one by one: each list is supported, and one to which no trigger adds lists the whole set.
use Rattle.std.proofs.Common.{◌≡◌, ℕ, suc, ◌+◌, ◌*◌, ◌<◌, ◌≤◌, Bool, true, false, cond, not, nat_eq, ◌&&◌, ◌||◌, ◌⊎◌, inl, inr, List, [], ◌∷◌, ◌++◌, flat_map, length, length-append, Option, Some, None, IsTrue, refl, sym, ◌∙◌, ap, subst, arith}
use Rattle.std.specs.List.{list_any, list_all}
use Rattle.std.specs.Cmp.{both_ways}
use Rattle.std.proofs.lemmas.Bool.{eqb-true}
use Rattle.std.proofs.lemmas.List.Folds.{list_any-append}
use Rattle.std.proofs.Math.Nat.{mul-le-mul_right, suc-mul}
use Rattle.gt_base.specs.Held.{TriggerView}
use Rattle.gt_base.specs.Happening.{HappenedView}
use Rattle.gt_base.specs.Sets.{has, members, set_of}
use Rattle.gt_base.specs.declared.events.Event.{Event}
use Rattle.gt_base.specs.declared.events.Prioritised.{Prioritised}
use Rattle.gt_base.specs.declared.events.Signal.{Signal}
use Rattle.gt_base.proofs.OrderLaws.{prioritised_cmp-IsAntisymmetric, signal_cmp-IsAntisymmetric}
use Rattle.gt_base.proofs.SetLaws.{has-set_of, same_sets}
use Rattle.gt_base.proofs.SetSteps.{prioritised_cmp_total, signal_cmp_total}
use Rattle.gtrbac_model.specs.Conflict.{Status, blocked}
use Rattle.gtrbac_model.specs.Graph.{item_at}
use Rattle.gtrbac_model.specs.History.{is_some_item}
use Rattle.gtrbac_model.specs.Instant.{closed, stands, supported, grounded_after, IsGrounding, Settled}
use Rattle.gtrbac_model.specs.Same.{lists, same_event, same_prioritised, same_signal}
use Rattle.gtrbac_model.specs.Trigger.{met, immediate}
use Rattle.gtrbac_model.specs.WholePolicy.{has_cause}
use Rattle.gtrbac_model.proofs.Elements.{Elem, both_true, and_true, either_true, left_true, right_true, implied, split, any_elim, any_intro, all_elim, all_intro, tied, elem_of_has, has_of_elem, elem_of_set_of}
use Rattle.gtrbac_model.proofs.Meeting.{parts_met}
use Rattle.gtrbac_model.proofs.Uniqueness.{is_same_prioritised}
use Rattle.trigger_rules.specs.Indexed.{has_event, has_signal, with_event, with_signal}
use Rattle.instant_engine.proofs.Steps.{elem_of, numbered, numbers_few}
use Rattle.gtrbac_tool.specs.Listing.{raises_next, next_head, with_head, waiting_with}

abbrev pub Here : List Prioritised → Prioritised → Type 0
Here es e = lists same_prioritised es e ≡ true

itself : (e : Prioritised) → same_prioritised e e ≡ true
itself e = tied prioritised_cmp_total prioritised_cmp-IsAntisymmetric e e refl

pub here_of : (es : List Prioritised) (e : Prioritised) → Elem es e → Here es e
here_of es e m = any_intro (same_prioritised e) es e m (itself e)

pub elem_here : (es : List Prioritised) (e : Prioritised) → Here es e → Elem es e
elem_here es e h =
    let (y, m, t) = any_elim (same_prioritised e) es h in
    subst (Elem es) (sym (is_same_prioritised e y t)) m

pub here_left : (es fs : List Prioritised) (e : Prioritised) → Here es e → Here (es ++ fs) e
here_left es fs e h = list_any-append (same_prioritised e) es fs ∙ left_true (lists same_prioritised es e) (lists same_prioritised fs e) h

pub here_last : (es : List Prioritised) (e : Prioritised) → Here (es ++ e ∷ []) e
here_last es e = list_any-append (same_prioritised e) es (e ∷ []) ∙ right_true (lists same_prioritised es e) (lists same_prioritised (e ∷ []) e) (left_true (same_prioritised e e) false (itself e))

-- the list turned round, onto another
abbrev onto : List Prioritised → List Prioritised → List Prioritised
onto [] earlier = earlier
onto (e ∷ es) earlier = onto es (e ∷ earlier)

turn : (a b c : Bool) → (b || (a || c)) ≡ ((a || b) || c)
turn true true c = refl
turn true false c = refl
turn false b c = refl

any_onto : (p : Prioritised → Bool) (es earlier : List Prioritised) → list_any p (onto es earlier) ≡ (list_any p es || list_any p earlier)
any_onto p [] earlier = refl
any_onto p (e ∷ es) earlier = any_onto p es (e ∷ earlier) ∙ turn (p e) (list_any p es) (list_any p earlier)

no_more : (a : Bool) → (a || false) ≡ a
no_more true = refl
no_more false = refl

clash : (b : Bool) → b ≡ true → b ≡ false → ⊥
clash true p q = cc
clash false p q = cc

not_true : (b : Bool) → not b ≡ true → b ≡ false
not_true true h = cc
not_true false h = refl

listed_then : (b : Bool) → (b ≡ false → ⊥) → b ≡ true
listed_then true f = refl
listed_then false f = absurd (f refl)

-- a list with one more event at its end
any_last : (p : Prioritised → Bool) (es : List Prioritised) (e : Prioritised) → list_any p (es ++ e ∷ []) ≡ (p e || list_any p es)
any_last p es e = list_any-append p es (e ∷ []) ∙ swap (list_any p es) (p e)
  where
    swap : (a b : Bool) → (a || (b || false)) ≡ (b || a)
    swap true true = refl
    swap true false = refl
    swap false true = refl
    swap false false = refl

pub there_more : (es fs : List Prioritised) (there then_there : Prioritised → Bool) (e : Prioritised) → fs ≡ es ++ e ∷ [] → ((o : Prioritised) → then_there o ≡ (same_prioritised o e || there o))
    → ((o : Prioritised) → there o ≡ lists same_prioritised es o) → (o : Prioritised) → then_there o ≡ lists same_prioritised fs o
there_more es fs there then_there e is more so_far o =
    more o ∙ ap (λ b. same_prioritised o e || b) (so_far o) ∙ sym (ap (λ z. lists same_prioritised z o) is ∙ any_last (same_prioritised o) es e)

stands_last : (x : HappenedView) (es : List Prioritised) (e : Prioritised) (f : Event) → stands x (es ++ e ∷ []) f ≡ ((same_event e.event f && not (blocked x e)) || stands x es f)
stands_last x es e f = any_last (λ o. same_event o.event f && not (blocked x o)) es e

pub stands_noted : (x : HappenedView) (es fs : List Prioritised) (e : Prioritised) (old new : Event → Bool) → fs ≡ es ++ e ∷ [] → ((f : Event) → new f ≡ ((same_event e.event f && not (blocked x e)) || old f))
    → ((f : Event) → old f ≡ stands x es f) → (f : Event) → new f ≡ stands x fs f
stands_noted x es fs e old new is more so_far f =
    more f ∙ ap (λ b. (same_event e.event f && not (blocked x e)) || b) (so_far f) ∙ sym (ap (λ z. stands x z f) is ∙ stands_last x es e f)

-- a trigger has a number
number_of : {A : Type 0} (xs : List A) (a : A) → Elem xs a → (t : ℕ) × (item_at xs t ≡ Some a)
number_of [] a m = elim m [ ]
number_of (y ∷ ys) a (inl e) = (0, ap (λ z. Some z) (sym e))
number_of (y ∷ ys) a (inr m) = let (t, e) = number_of ys a m in (suc t, e)

-- how many triggers have heads that are not listed
abbrev pub unlisted : List TriggerView → List Prioritised → ℕ
unlisted [] es = 0
unlisted (r ∷ rs) es = cond (lists same_prioritised es r.head) 0 1 + unlisted rs es

fewer : (a b : Bool) (u v : ℕ) → (a ≡ true → b ≡ true) → u ≤ v → cond b 0 1 + u ≤ cond a 0 1 + v
fewer true true u v f h = omega arith
fewer true false u v f h = cc (f refl)
fewer false true u v f h = omega arith
fewer false false u v f h = omega arith

fewer_by_one : (a b : Bool) (u v : ℕ) → a ≡ false → b ≡ true → u ≤ v → cond b 0 1 + u < cond a 0 1 + v
fewer_by_one false true u v p q h = omega arith
fewer_by_one true b u v p q h = cc
fewer_by_one false false u v p q h = cc

fewer_later : (a b : Bool) (u v : ℕ) → (a ≡ true → b ≡ true) → u < v → cond b 0 1 + u < cond a 0 1 + v
fewer_later true true u v f h = omega arith
fewer_later true false u v f h = cc (f refl)
fewer_later false true u v f h = omega arith
fewer_later false false u v f h = omega arith

unlisted_falls : (rs : List TriggerView) (es fs : List Prioritised) → ((e : Prioritised) → Here es e → Here fs e) → unlisted rs fs ≤ unlisted rs es
unlisted_falls [] es fs g = omega arith
unlisted_falls (r ∷ rs) es fs g = fewer (lists same_prioritised es r.head) (lists same_prioritised fs r.head) _ _ (g r.head) (unlisted_falls rs es fs g)

unlisted_drops : (rs : List TriggerView) (es fs : List Prioritised) → ((e : Prioritised) → Here es e → Here fs e) → (r : TriggerView) → Elem rs r → lists same_prioritised es r.head ≡ false → Here fs r.head
    → unlisted rs fs < unlisted rs es
unlisted_drops [] es fs g r m out there = elim m [ ]
unlisted_drops (q ∷ rs) es fs g r (inl e) out there =
    fewer_by_one (lists same_prioritised es q.head) (lists same_prioritised fs q.head) _ _ (subst (λ z. lists same_prioritised es z.head ≡ false) e out) (subst (λ z. Here fs z.head) e there) (unlisted_falls rs es fs g)
unlisted_drops (q ∷ rs) es fs g r (inr m) out there = fewer_later (lists same_prioritised es q.head) (lists same_prioritised fs q.head) _ _ (g q.head) (unlisted_drops rs es fs g r m out there)

module _ (rules : List TriggerView) (base : HappenedView) (s : Status) (x : HappenedView) where
  abbrev pub Grounded : List Prioritised → Type 0
  Grounded es = IsTrue (grounded_after rules base s x [] es)

  supported_onto : (es : List Prioritised) (e : Prioritised) → supported rules base s x (onto es []) e ≡ supported rules base s x es e
  supported_onto es e =
      ap (λ (there : Event → Bool). has base.events e || list_any (λ r. immediate r && same_prioritised r.head e && met r x s && list_all there r.events) rules)
      (λ i f. (any_onto (λ o. same_event o.event f && not (blocked x o)) es [] ∙ no_more (stands x es f)) i)

  grounded_last : (earlier es : List Prioritised) (e : Prioritised) → grounded_after rules base s x earlier es ≡ true → supported rules base s x (onto es earlier) e ≡ true
      → grounded_after rules base s x earlier (es ++ e ∷ []) ≡ true
  grounded_last earlier [] e g h = and_true (supported rules base s x earlier e) true h refl
  grounded_last earlier (d ∷ es) e g h =
      let both = both_true (supported rules base s x earlier d) (grounded_after rules base s x (d ∷ earlier) es) g in
      and_true (supported rules base s x earlier d) (grounded_after rules base s x (d ∷ earlier) (es ++ e ∷ [])) both.0 (grounded_last (d ∷ earlier) es e both.1 h)

  -- one more event that those before support
  pub one_more : (es : List Prioritised) (e : Prioritised) → Grounded es → supported rules base s x es e ≡ true → Grounded (es ++ e ∷ [])
  one_more es e g h = grounded_last [] es e g (supported_onto es e ∙ h)

  -- events of the base stand by themselves
  pub base_grounded : (earlier es : List Prioritised) → ((e : Prioritised) → Elem es e → has base.events e ≡ true) → grounded_after rules base s x earlier es ≡ true
  base_grounded earlier [] h = refl
  base_grounded earlier (e ∷ es) h =
      and_true (supported rules base s x earlier e) (grounded_after rules base s x (e ∷ earlier) es) (left_true (has base.events e) _ (h e (inl refl))) (base_grounded (e ∷ earlier) es (λ d m. h d (inr m)))

  -- a list of events of the set, each with its support
  pub record IsOnWay (es : List Prioritised) : Type 0 where
    pub grounded : Grounded es
    pub within : (e : Prioritised) → Elem es e → has x.events e ≡ true
    pub base_there : (e : Prioritised) → has base.events e ≡ true → Here es e

  record Raises (es : List Prioritised) (r : TriggerView) : Type 0 where
    immediate : immediate r ≡ true
    absent : not (lists same_prioritised es r.head) ≡ true
    met : met r x s ≡ true
    stands : list_all (stands x es) r.events ≡ true

  raises_of : (es : List Prioritised) (r : TriggerView) → raises_next s x es r ≡ true → Raises es r
  raises_of es r h =
      let abc = both_true (immediate r && not (lists same_prioritised es r.head) && met r x s) (list_all (stands x es) r.events) h in
      let ab = both_true (immediate r && not (lists same_prioritised es r.head)) (met r x s) abc.0 in
      let a = both_true (immediate r) (not (lists same_prioritised es r.head)) ab.0 in
      record { immediate = a.0; absent = a.1; met = ab.1; stands = abc.1 }

  supports : (es : List Prioritised) (r : TriggerView) → Elem rules r → Raises es r → supported rules base s x es r.head ≡ true
  supports es r m q =
      right_true (has base.events r.head) _
      (any_intro (λ q. immediate q && same_prioritised q.head r.head && met q x s && list_all (stands x es) q.events) rules r m
      (and_true (immediate r && same_prioritised r.head r.head && met r x s) _
      (and_true (immediate r && same_prioritised r.head r.head) _ (and_true (immediate r) _ q.immediate (itself r.head)) q.met) q.stands))

  abbrev IsClosed : Type 0
  IsClosed = closed rules base s x ≡ true

  head_in : IsClosed → (r : TriggerView) → Elem rules r → immediate r ≡ true → met r x s ≡ true → has x.events r.head ≡ true
  head_in c r m i mt =
      implied (immediate r && met r x s) (has x.events r.head)
      (all_elim (λ r. not (immediate r && met r x s) || has x.events r.head) rules r (both_true (list_all (has x.events) (members base.events)) _ c).1 m) (and_true (immediate r) (met r x s) i mt)

  pub base_in : IsClosed → (e : Prioritised) → has base.events e ≡ true → has x.events e ≡ true
  base_in c e h =
      all_elim (has x.events) (members base.events) e (both_true (list_all (has x.events) (members base.events)) _ c).0
      (elem_of_has prioritised_cmp_total prioritised_cmp-IsAntisymmetric base.events e h)

  pub began : IsClosed → IsOnWay (members base.events)
  began c = record {
    grounded = base_grounded [] (members base.events) in_base;
    within = λ e m. base_in c e (in_base e m);
    base_there = λ e h. here_of (members base.events) e (elem_of_has prioritised_cmp_total prioritised_cmp-IsAntisymmetric base.events e h);
  }
    where
      in_base : (e : Prioritised) → Elem (members base.events) e → has base.events e ≡ true
      in_base e m = has_of_elem prioritised_cmp_total prioritised_cmp-IsAntisymmetric base.events e m

  elem_last : (es : List Prioritised) (e o : Prioritised) → Elem (es ++ e ∷ []) o → Elem es o ⊎ (o ≡ e)
  elem_last [] e o (inl q) = inr q
  elem_last [] e o (inr m) = elim m [ ]
  elem_last (d ∷ es) e o (inl q) = inl (inl q)
  elem_last (d ∷ es) e o (inr m) =
      elim (elem_last es e o m) [
        | inl n ↦ inl (inr n)
        | inr q ↦ inr q
      ]

  goes_on_with : IsClosed → (es : List Prioritised) (r : TriggerView) → Elem rules r → IsOnWay es → raises_next s x es r ≡ true → IsOnWay (es ++ r.head ∷ [])
  goes_on_with c es r m w h =
      let q = raises_of es r h in
      record {
        grounded = one_more es r.head w.grounded (supports es r m q);
        within = λ e k.
            elim (elem_last es r.head e k) [
              | inl n ↦ w.within e n
              | inr is ↦ subst (λ o. has x.events o ≡ true) (sym is) (head_in c r m q.immediate q.met)
            ];
        base_there = λ e b. here_left es (r.head ∷ []) e (w.base_there e b);
      }

  -- the trigger whose head was found
  found : (es : List Prioritised) (h : Prioritised) (o : Option TriggerView) → Some h ≡ next_head s x es o → (q : TriggerView) × (o ≡ Some q) × (h ≡ q.head) × (raises_next s x es q ≡ true)
  found es h None e = cc
  found es h (Some q) e = by (raises_next s x es q) refl e
    where
      by : (b : Bool) → raises_next s x es q ≡ b → Some h ≡ cond b (Some q.head) None → (p : TriggerView) × (Some q ≡ Some p) × (h ≡ p.head) × (raises_next s x es p ≡ true)
      by true f e = (q, refl, cc, f)
      by false f e = cc

  pub goes_on : IsClosed → (es : List Prioritised) (t : ℕ) (head : Option Prioritised) → head ≡ next_head s x es (item_at rules t) → IsOnWay es → IsOnWay (with_head es head)
  goes_on c es t None e w = w
  goes_on c es t (Some h) e w =
      let (q, here, is_head, raises) = found es h (item_at rules t) e in
      subst (λ z. IsOnWay (es ++ z ∷ [])) (sym is_head) (goes_on_with c es q (elem_of rules t q here) w raises)

  -- each trigger that raises its head next is among the numbers
  abbrev pub Waits : List Prioritised → List ℕ → Type 0
  Waits es ts = (u : ℕ) (w : TriggerView) → item_at rules u ≡ Some w → raises_next s x es w ≡ true → lists nat_eq ts u ≡ true

  does_raise : (es : List Prioritised) (r : TriggerView) → immediate r ≡ true → lists same_prioritised es r.head ≡ false → met r x s ≡ true → list_all (stands x es) r.events ≡ true → raises_next s x es r ≡ true
  does_raise es r i out mt st =
      and_true (immediate r && not (lists same_prioritised es r.head) && met r x s) _ (and_true (immediate r && not (lists same_prioritised es r.head)) _ (and_true (immediate r) _ i (ap not out)) mt) st

  -- what is listed by one item is listed by all of them
  listed_by : {A : Type 0} (f : A → List ℕ) (xs : List A) (a : A) (u : ℕ) → Elem xs a → lists nat_eq (f a) u ≡ true → lists nat_eq (flat_map f xs) u ≡ true
  listed_by f [] a u m h = elim m [ ]
  listed_by f (y ∷ ys) a u (inl e) h = list_any-append (nat_eq u) (f y) (flat_map f ys) ∙ left_true (lists nat_eq (f y) u) _ (subst (λ z. lists nat_eq (f z) u ≡ true) e h)
  listed_by f (y ∷ ys) a u (inr m) h = list_any-append (nat_eq u) (f y) (flat_map f ys) ∙ right_true (lists nat_eq (f y) u) _ (listed_by f ys a u m h)

  abbrev by_base : List ℕ
  by_base = flat_map (λ (o : Prioritised). with_event rules o.event) (members base.events)

  abbrev by_signals : List ℕ
  by_signals = flat_map (with_signal rules) (members base.signals)

  -- at first those wait that have an event or a signal of the base in their bodies
  pub first_wait : list_all has_cause rules ≡ true → x.signals ≡ base.signals → Waits (members base.events) (by_signals ++ by_base)
  first_wait caused same u w at h =
      let q = raises_of (members base.events) w h in
      list_any-append (nat_eq u) by_signals by_base
      ∙ prompt w.events w.signals (λ e m. m) (λ t m. m) (all_elim has_cause rules w caused (elem_of rules u w at)) q.stands (parts_met w x s q.met).signals
    where
      prompt : (es : List Event) (ts : List Signal) → ((e : Event) → Elem es e → Elem w.events e) → ((t : Signal) → Elem ts t → Elem w.signals t) → (is_some_item es || is_some_item ts) ≡ true
          → list_all (stands x (members base.events)) es ≡ true → list_all (has x.signals) ts ≡ true → (lists nat_eq by_signals u || lists nat_eq by_base u) ≡ true
      prompt (e ∷ es) ts of_es of_ts some st there =
          let (o, m, k) = any_elim (λ o. same_event o.event e && not (blocked x o)) (members base.events) (both_true (stands x (members base.events) e) _ st).0 in
          right_true (lists nat_eq by_signals u) _
          (listed_by (λ (o : Prioritised). with_event rules o.event) (members base.events) o u m
          (numbered (has_event o.event) 0 rules u u w (omega arith) at (any_intro (same_event o.event) w.events e (of_es e (inl refl)) (both_true (same_event o.event e) _ k).0)))
      prompt [] (t ∷ ts) of_es of_ts some st there =
          let h : has base.signals t ≡ true = subst (λ z. has z t ≡ true) same (both_true (has x.signals t) _ there).0 in
          left_true (lists nat_eq by_signals u) _
          (listed_by (with_signal rules) (members base.signals) t u (elem_of_has signal_cmp_total signal_cmp-IsAntisymmetric base.signals t h)
          (numbered (has_signal t) 0 rules u u w (omega arith) at (any_intro (same_signal t) w.signals t (of_ts t (inl refl)) (tied signal_cmp_total signal_cmp-IsAntisymmetric t t refl))))
      prompt [] [] of_es of_ts some st there = cc

  some_fails : {A : Type 0} (p : A → Bool) (xs : List A) → list_all p xs ≡ false → (a : A) × Elem xs a × (p a ≡ false)
  some_fails p [] h = cc
  some_fails p (y ∷ ys) h = split (p y) (λ t. let (a, m, f) = some_fails p ys (ap (λ b. b && list_all p ys) (sym t) ∙ h) in (a, inr m, f)) (λ f. (y, inl refl, f))

  same_first : (e f : Event) → (a b : Bool) → ((same_event e f && a) || b) ≡ true → b ≡ false → same_event e f ≡ true
  same_first e f a b h none = (both_true (same_event e f) a (by (same_event e f && a) b h none)).0
    where
      by : (c d : Bool) → (c || d) ≡ true → d ≡ false → c ≡ true
      by true d h n = refl
      by false d h n = sym n ∙ h

  -- a trigger that raises its head once an event more is listed did so before, or has the event in its body
  woken : (es : List Prioritised) (h : Prioritised) (w : TriggerView) → raises_next s x (es ++ h ∷ []) w ≡ true → (raises_next s x es w ≡ true) ⊎ (has_event h.event w ≡ true)
  woken es h w r =
      let q = raises_of (es ++ h ∷ []) w r in
      let out : lists same_prioritised es w.head ≡ false = absent q.absent in
      split (list_all (stands x es) w.events)
      (λ st. inl (does_raise es w q.immediate out q.met st))
      (λ f.
      let (b, m, none) = some_fails (stands x es) w.events f in
      let now : stands x (es ++ h ∷ []) b ≡ true = all_elim (stands x (es ++ h ∷ [])) w.events b q.stands m in
      inr (any_intro (same_event h.event) w.events b m (same_first h.event b (not (blocked x h)) (stands x es b) (sym (stands_last x es h b) ∙ now) none)))
    where
      absent : not (lists same_prioritised (es ++ h ∷ []) w.head) ≡ true → lists same_prioritised es w.head ≡ false
      absent n =
          split (lists same_prioritised es w.head)
          (λ i. absurd (clash (lists same_prioritised (es ++ h ∷ []) w.head) (here_left es (h ∷ []) w.head i) (not_true _ n)))
          (λ z. z)

  -- one of the numbers, or the last
  last_or : {P : Type 0} (ts : List ℕ) (t u : ℕ) → lists nat_eq (ts ++ t ∷ []) u ≡ true → (lists nat_eq ts u ≡ true → P) → (u ≡ t → P) → P
  last_or ts t u k old new =
      elim (either_true (lists nat_eq ts u) _ (sym (list_any-append (nat_eq u) ts (t ∷ [])) ∙ k)) [
        | inl m ↦ old m
        | inr m ↦ elim (either_true (nat_eq u t) false m) [ inl e ↦ new (eqb-true u t e) | inr f ↦ cc ]
      ]

  one_item : (t : ℕ) (q w : TriggerView) → item_at rules t ≡ Some q → item_at rules t ≡ Some w → w ≡ q
  one_item t q w a b = cc

  -- with the last number looked at, those that raise their heads still wait
  pub still_wait : (es : List Prioritised) (ts : List ℕ) (t : ℕ) (head : Option Prioritised) → head ≡ next_head s x es (item_at rules t) → Waits es (ts ++ t ∷ []) → Waits (with_head es head) (waiting_with rules ts head)
  still_wait es ts t None e wait u w at r =
      last_or ts t u (wait u w at r) (λ m. m)
      (λ is.
      let here : item_at rules t ≡ Some w = subst (λ k. item_at rules k ≡ Some w) is at in
      let none : None ≡ cond (raises_next s x es w) (Some w.head) None = e ∙ ap (next_head s x es) here in
      let some : None ≡ Some w.head = none ∙ ap (λ b. cond b (Some w.head) None) r in
      cc)
  still_wait es ts t (Some h) e wait u w at r =
      let (q, here, is_head, raises) = found es h (item_at rules t) e in
      list_any-append (nat_eq u) ts (with_event rules h.event)
      ∙ elim (woken es h w r) [
        | inl before ↦
            last_or ts t u (wait u w at before) (λ m. left_true (lists nat_eq ts u) _ m)
            (λ is.
            let same : w ≡ q = one_item t q w here (subst (λ k. item_at rules k ≡ Some w) is at) in
            absurd (clash (lists same_prioritised (es ++ h ∷ []) w.head) (subst (λ z. Here (es ++ h ∷ []) z) (is_head ∙ ap (λ (p : TriggerView). p.head) (sym same)) (here_last es h)) (not_true _ (raises_of (es ++ h ∷ []) w r).absent)))
        | inr has_it ↦ right_true (lists nat_eq ts u) _ (numbered (has_event h.event) 0 rules u u w (omega arith) at has_it)
      ]

  product : (a b m p k ps ts : ℕ) → a < b → k + 1 ≤ m → ps ≡ p + k → ts ≡ p + 1 → a * m + ps < b * m + ts
  product a b m p k ps ts lt le e f =
      let u : suc a * m ≤ b * m = mul-le-mul_right m lt in
      omega (arith, suc-mul a m, u)

  -- with each look there is less to do
  pub less_left : (es : List Prioritised) (ts : List ℕ) (t : ℕ) (head : Option Prioritised) → head ≡ next_head s x es (item_at rules t)
      → unlisted rules (with_head es head) * (length rules + 1) + length (waiting_with rules ts head) < unlisted rules es * (length rules + 1) + length (ts ++ t ∷ [])
  less_left es ts t None e = omega (arith, length-append ts (t ∷ []))
  less_left es ts t (Some h) e =
      let (q, here, is_head, raises) = found es h (item_at rules t) e in
      product (unlisted rules (es ++ h ∷ [])) (unlisted rules es) (length rules + 1) (length ts) (length (with_event rules h.event)) _ _
      (unlisted_drops rules es (es ++ h ∷ []) (λ o k. here_left es (h ∷ []) o k) q (elem_of rules t q here) (not_true _ (raises_of es q raises).absent) (subst (λ z. Here (es ++ h ∷ []) z) is_head (here_last es h)))
      (omega (arith, numbers_few (has_event h.event) 0 rules)) (length-append ts (with_event rules h.event)) (length-append ts (t ∷ []))

  -- a list that no trigger adds to has all that the set was grounded by
  module _ (es : List Prioritised) (w : IsOnWay es) (none : (r : TriggerView) → Elem rules r → raises_next s x es r ≡ false) where
    stand_too : (earlier : List Prioritised) → ((o : Prioritised) → Elem earlier o → Here es o) → (f : Event) → stands x earlier f ≡ true → stands x es f ≡ true
    stand_too earlier known f h =
        let (o, m, t) = any_elim (λ o. same_event o.event f && not (blocked x o)) earlier h in
        any_intro (λ o. same_event o.event f && not (blocked x o)) es o (elem_here es o (known o m)) t

    head_here : (r : TriggerView) → Elem rules r → immediate r ≡ true → met r x s ≡ true → list_all (stands x es) r.events ≡ true → Here es r.head
    head_here r m i mt st =
        listed_then (lists same_prioritised es r.head) (λ out. clash (raises_next s x es r)
        (and_true (immediate r && not (lists same_prioritised es r.head) && met r x s) _ (and_true (immediate r && not (lists same_prioritised es r.head)) _ (and_true (immediate r) _ i (ap not out)) mt) st) (none r m))

    here : (earlier : List Prioritised) → ((o : Prioritised) → Elem earlier o → Here es o) → (e : Prioritised) → supported rules base s x earlier e ≡ true → Here es e
    here earlier known e sup =
        elim (either_true (has base.events e) _ sup) [
          | inl b ↦ w.base_there e b
          | inr a ↦
              let (r, m, t) = any_elim (λ r. immediate r && same_prioritised r.head e && met r x s && list_all (stands x earlier) r.events) rules a in
              let abc = both_true (immediate r && same_prioritised r.head e && met r x s) (list_all (stands x earlier) r.events) t in
              let ab = both_true (immediate r && same_prioritised r.head e) (met r x s) abc.0 in
              let ie = both_true (immediate r) (same_prioritised r.head e) ab.0 in
              subst (Here es) (is_same_prioritised r.head e ie.1)
              (head_here r m ie.0 ab.1 (all_intro (stands x es) r.events (λ f k. stand_too earlier known f (all_elim (stands x earlier) r.events f abc.1 k))))
        ]

    more : (earlier : List Prioritised) → ((o : Prioritised) → Elem earlier o → Here es o) → (e : Prioritised) → Here es e → (o : Prioritised) → Elem (e ∷ earlier) o → Here es o
    more earlier known e h o (inl q) = subst (Here es) (sym q) h
    more earlier known e h o (inr m) = known o m

    along : (earlier rest : List Prioritised) → grounded_after rules base s x earlier rest ≡ true → ((o : Prioritised) → Elem earlier o → Here es o)
        → (o : Prioritised) → Elem rest o → Here es o
    along earlier [] g known o m = elim m [ ]
    along earlier (e ∷ rest) g known o (inl q) =
        let both = both_true (supported rules base s x earlier e) (grounded_after rules base s x (e ∷ earlier) rest) g in
        subst (Here es) (sym q) (here earlier known e both.0)
    along earlier (e ∷ rest) g known o (inr m) =
        let both = both_true (supported rules base s x earlier e) (grounded_after rules base s x (e ∷ earlier) rest) g in
        along (e ∷ earlier) rest both.1 (more earlier known e (here earlier known e both.0)) o m

    pub all_listed : (is : Settled rules base s x) → x.events ≡ set_of es
    all_listed is =
        same_sets prioritised_cmp_total prioritised_cmp-IsAntisymmetric x.events (set_of es) (λ o. both_ways (has x.events o) (has (set_of es) o)
        (λ h. has-set_of prioritised_cmp_total es o ∙ along [] is.order is.grounding.grounds (λ p m. elim m [ ]) o
        (elem_of_set_of prioritised_cmp_total prioritised_cmp-IsAntisymmetric is.order o (subst (λ z. has z o ≡ true) is.grounding.lists h)))
        (λ h. w.within o (elem_of_set_of prioritised_cmp_total prioritised_cmp-IsAntisymmetric es o h)))

  -- where none waits, the order grounds the set
  pub grounds_all : (es : List Prioritised) → Settled rules base s x → IsOnWay es → Waits es [] → IsGrounding rules base s x es
  grounds_all es is w none = record { lists = all_listed es w quiet is; grounds = w.grounded }
    where
      quiet : (r : TriggerView) → Elem rules r → raises_next s x es r ≡ false
      quiet r m = split (raises_next s x es r) (λ h. let (u, at) = number_of rules r m in cc (none u r at h)) (λ z. z)
