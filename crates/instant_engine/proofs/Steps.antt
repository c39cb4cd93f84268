-- One trigger looked at: what its head makes of a set, and which triggers may fire then.
use Rattle.std.proofs.Common.{◌≡◌, ℕ, zero, suc, ◌+◌, ◌*◌, ◌<◌, ◌≤◌, Bool, true, false, cond, not, nat_eq, nat_lt, ◌&&◌, ◌||◌, inl, inr, List, [], ◌∷◌, ◌++◌, length, length-append, take, get_or, slice_get, Option, Some, None, refl, sym, ◌∙◌, ap, subst, arith, flat_map, if◌then◌else◌}
use Rattle.std.specs.List.{list_all}
use Rattle.std.proofs.lemmas.Bool.{eqb-true, eq-eqb, ltb-true, not-true, false≢true}
use Rattle.std.proofs.lemmas.List.{take_more, length-take-le, flat_map_more, take_all}
use Rattle.std.proofs.lemmas.List.Folds.{list_any-append}
use Rattle.std.proofs.Math.Nat.{mul-le-mul_right, suc-mul}
use Rattle.gt_base.specs.Held.{TriggerView}
use Rattle.gt_base.specs.Happening.{HappenedView}
use Rattle.gt_base.specs.Sets.{has, members}
use Rattle.gt_base.specs.declared.events.Cond.{Cond}
use Rattle.gt_base.specs.declared.events.Event.{Event}
use Rattle.gt_base.specs.declared.events.Prioritised.{Prioritised}
use Rattle.gt_base.proofs.SetLaws.{has-with_member}
use Rattle.gt_base.proofs.SetSteps.{prioritised_cmp_total}
use Rattle.gt_base.proofs.OrderLaws.{prioritised_cmp-IsAntisymmetric}
use Rattle.gtrbac_model.specs.Graph.{item_at}
use Rattle.gtrbac_model.specs.Same.{same_prioritised, same_event, lists}
use Rattle.gtrbac_model.specs.Conflict.{Status, blocked, won, after, turns_on, turns_off}
use Rattle.gtrbac_model.specs.Trigger.{met, immediate, holds}
use Rattle.gtrbac_model.specs.Safety.{is_node}
use Rattle.gtrbac_model.proofs.Elements.{Elem, both_true, and_true, either_true, left_true, right_true, implied, split, any_elim, any_intro, all_elim, all_intro, tied}
use Rattle.gtrbac_model.proofs.Meeting.{IsMet, parts_met, met_by}
use Rattle.gtrbac_model.proofs.Uniqueness.{In, elem, of_elem, Agrees, blocked_goes, holds_alike, is_same_event, same_event_of, is_same_prioritised}
use Rattle.trigger_rules.specs.Indexed.{numbers, has_event, with_event}
use Rattle.trigger_rules.proofs.Keys.{numbers_push}
use Rattle.instant_engine.specs.OnTheWay.{KeepsSet, is_due, is_level, fires, head_at, head_joined, waiting_with}
use Rattle.instant_engine.proofs.Climbing.{supports, next_level}
use Rattle.gtrbac_model.proofs.Levels.{are_levels, is_decided}

-- the parts of the items so far, and of the next one

pub part_more : {X : Type 0} (f : X → List ℕ) (init old part new : List ℕ) (xs : List X) (i : ℕ) (x d : X) → i < length xs → x ≡ get_or xs i d → new ≡ old ++ part → part ≡ f x → old ≡ init ++ flat_map f (take i xs) → new ≡ init ++ flat_map f (take (i + 1) xs)
part_more f init old part new xs i x d lt is_x is is_part so_far =
    is
    ∙ ap (λ a. a ++ part) so_far
    ∙ ap (λ b. (init ++ flat_map f (take i xs)) ++ b) is_part
    ∙ flat_map_more f init (take i xs) x
    ∙ ap (λ ys. init ++ flat_map f ys) (ap (λ y. take i xs ++ y ∷ []) is_x ∙ sym (take_more xs i d lt))

pub parts_all : {X : Type 0} (f : X → List ℕ) (init old : List ℕ) (xs : List X) (i : ℕ) → length xs ≤ i → old ≡ init ++ flat_map f (take i xs) → old ≡ init ++ flat_map f xs
parts_all f init old xs i all so_far = so_far ∙ ap (λ ys. init ++ flat_map f ys) (take_all i xs all)

pub item_of : {X : Type 0} (xs : List X) (i : ℕ) (x : X) → i < length xs → x ≡ get_or xs i x → item_at xs i ≡ Some x
item_of {X = X} xs i x lt is = at xs i lt ∙ ap (λ y. Some y) (sym is)
  where
    at : (xs : List X) (i : ℕ) → i < length xs → item_at xs i ≡ Some (get_or xs i x)
    at [] i h = absurd (omega arith)
    at (y ∷ ys) zero h = refl
    at (y ∷ ys) (suc i) h = at ys i (omega arith)

fewer : (a b : Bool) (u v : ℕ) → (a ≡ true → b ≡ true) → u ≤ v → cond b 0 1 + u ≤ cond a 0 1 + v
fewer true true u v f h = omega arith
fewer true false u v f h = cc (f refl)
fewer false true u v f h = omega arith
fewer false false u v f h = omega arith

fewer_by_one : (a b : Bool) (u v : ℕ) → a ≡ false → b ≡ true → u ≤ v → cond b 0 1 + u < cond a 0 1 + v
fewer_by_one false true u v p q h = omega arith
fewer_by_one true b u v p q h = cc
fewer_by_one false false u v p q h = cc

fewer_later : (a b : Bool) (u v : ℕ) → (a ≡ true → b ≡ true) → u < v → cond b 0 1 + u < cond a 0 1 + v
fewer_later true true u v f h = omega arith
fewer_later true false u v f h = cc (f refl)
fewer_later false true u v f h = omega arith
fewer_later false false u v f h = omega arith

abbrev Grows : HappenedView → HappenedView → Type 0
Grows x y = (o : Prioritised) → In x o → In y o

-- how many triggers have a head that is not there
abbrev pub missing : List TriggerView → HappenedView → ℕ
missing [] x = 0
missing (r ∷ rs) x = (if has x.events r.head then 0 else 1) + missing rs x

missing_falls : (rs : List TriggerView) (x y : HappenedView) → Grows x y → missing rs y ≤ missing rs x
missing_falls [] x y g = omega arith
missing_falls (r ∷ rs) x y g = fewer (has x.events r.head) (has y.events r.head) _ _ (g r.head) (missing_falls rs x y g)

-- a head that joins is missing no more
missing_drops : (rs : List TriggerView) (x y : HappenedView) → Grows x y → (r : TriggerView) → Elem rs r → has x.events r.head ≡ false → In y r.head → missing rs y < missing rs x
missing_drops [] x y g r m out there = elim m [ ]
missing_drops (q ∷ rs) x y g r (inl e) out there =
    fewer_by_one (has x.events q.head) (has y.events q.head) _ _ (subst (λ z. has x.events z.head ≡ false) e out) (subst (λ z. has y.events z.head ≡ true) e there) (missing_falls rs x y g)
missing_drops (q ∷ rs) x y g r (inr m) out there = fewer_later (has x.events q.head) (has y.events q.head) _ _ (g q.head) (missing_drops rs x y g r m out there)

-- a trigger has a number, and the trigger of a number is one of them
number_of : {A : Type 0} (xs : List A) (x : A) → Elem xs x → (t : ℕ) × (item_at xs t ≡ Some x)
number_of [] x m = elim m [ ]
number_of (y ∷ ys) x (inl e) = (0, ap (λ z. Some z) (sym e))
number_of (y ∷ ys) x (inr m) = let (t, e) = number_of ys x m in (suc t, e)

pub elem_of : {A : Type 0} (xs : List A) (t : ℕ) (x : A) → item_at xs t ≡ Some x → Elem xs x
elem_of [] t x h = cc
elem_of (y ∷ ys) zero x h = inl cc
elem_of (y ∷ ys) (suc t) x h = inr (elem_of ys t x h)

pub elem_got : {A : Type 0} (xs : List A) (t : ℕ) (x : A) → slice_get xs t ≡ Some x → Elem xs x
elem_got [] t x h = cc
elem_got (y ∷ ys) zero x h = inl cc
elem_got (y ∷ ys) (suc t) x h = inr (elem_got ys t x h)

-- the head of an immediate trigger is a node
pub node_of : (rules : List TriggerView) (r : TriggerView) → Elem rules r → immediate r ≡ true → is_node rules r.head.event ≡ true
node_of rules r m i = any_intro (λ q. immediate q && same_event q.head.event r.head.event) rules r m (and_true _ _ i (same_event_of r.head.event r.head.event refl))

at_level : (b : Bool) (l n : ℕ) → is_level (cond b (Some l) None) n ≡ (b && nat_eq l n)
at_level true l n = refl
at_level false l n = refl

-- the triggers of a level so far, and the next trigger
pub due_more : (level : Event → ℕ) (n : ℕ) (rules : List TriggerView) (t : ℕ) (q : TriggerView) (own : Option ℕ) (old new : List ℕ) → t < length rules → q ≡ get_or rules t q → own ≡ cond (immediate q) (Some (level q.head.event)) None
    → new ≡ old ++ cond (is_level own n) (t ∷ []) [] → old ≡ numbers (is_due level n) 0 (take t rules) → new ≡ numbers (is_due level n) 0 (take (t + 1) rules)
due_more level n rules t q own old new lt is_q is_own is so_far =
    is ∙ ap (λ xs. xs ++ cond (is_level own n) (t ∷ []) []) so_far
    ∙ ap (λ b. numbers (is_due level n) 0 (take t rules) ++ cond b (t ∷ []) []) (ap (λ o. is_level o n) is_own ∙ at_level (immediate q) (level q.head.event) n)
    ∙ ap (λ m. numbers (is_due level n) 0 (take t rules) ++ cond (is_due level n q) (m ∷ []) []) (omega (arith, length-take-le t rules (omega arith)))
    ∙ sym (numbers_push (is_due level n) 0 (take t rules) q) ∙ ap (numbers (is_due level n) 0) (sym (take_more rules t q lt ∙ ap (λ r. take t rules ++ r ∷ []) (sym is_q)))

sum_more : (k t n : ℕ) → n ≡ k + suc t → n ≡ (k + 1) + t
sum_more k t n e = omega arith

-- the number of a trigger that passes is listed
pub numbered : (p : TriggerView → Bool) (k : ℕ) (rs : List TriggerView) (t n : ℕ) (r : TriggerView) → n ≡ k + t → item_at rs t ≡ Some r → p r ≡ true → lists nat_eq (numbers p k rs) n ≡ true
numbered p k [] t n r e h pass = cc
numbered p k (q ∷ rs) zero n r e h pass = ap (λ b. lists nat_eq (cond b (k ∷ numbers p (k + 1) rs) (numbers p (k + 1) rs)) n) own ∙ left_true (nat_eq n k) _ (eq-eqb n k (omega arith))
  where
    own : p q ≡ true
    own = let is : q ≡ r = cc in ap p is ∙ pass
numbered p k (q ∷ rs) (suc t) n r e h pass = by (p q) (numbered p (k + 1) rs t n r (sum_more k t n e) h pass)
  where
    by : (b : Bool) → lists nat_eq (numbers p (k + 1) rs) n ≡ true → lists nat_eq (cond b (k ∷ numbers p (k + 1) rs) (numbers p (k + 1) rs)) n ≡ true
    by true h = right_true (nat_eq n k) _ h
    by false h = h

-- as many at most as there are triggers
pub numbers_few : (p : TriggerView → Bool) (k : ℕ) (rs : List TriggerView) → length (numbers p k rs) ≤ length rs
numbers_few p k [] = omega arith
numbers_few p k (r ∷ rs) = by (p r) (numbers_few p (k + 1) rs)
  where
    by : (b : Bool) → length (numbers p (k + 1) rs) ≤ length rs → length (cond b (k ∷ numbers p (k + 1) rs) (numbers p (k + 1) rs)) ≤ length (r ∷ rs)
    by true h = omega arith
    by false h = omega arith

some_fails : {A : Type 0} (p : A → Bool) (xs : List A) → list_all p xs ≡ false → (x : A) × Elem xs x × (p x ≡ false)
some_fails p [] h = cc
some_fails p (x ∷ xs) h = split (p x) (λ t. let (y, m, f) = some_fails p xs (ap (λ b. b && list_all p xs) (sym t) ∙ h) in (y, inr m, f)) (λ f. (x, inl refl, f))

module _ (x : HappenedView) (h : Prioritised) where
  abbrev more : HappenedView
  more = head_joined x (Some h)

  added : (o : Prioritised) → has more.events o ≡ (same_prioritised o h || has x.events o)
  added o = has-with_member prioritised_cmp_total x.events h o

  grows : Grows x more
  grows o k = added o ∙ right_true (same_prioritised o h) _ k

  there : In more h
  there = added h ∙ left_true (same_prioritised h h) _ (tied prioritised_cmp_total prioritised_cmp-IsAntisymmetric h h refl)

  either_of : {P : Type 0} (o : Prioritised) → In more o → (o ≡ h → P) → (In x o → P) → P
  either_of o k new old = elim (either_true (same_prioritised o h) _ (sym (added o) ∙ k)) [ inl e ↦ new (is_same_prioritised o h e) | inr m ↦ old m ]

  -- the one event that a head makes win is its own
  newly_won : (b : Event) → won more b ≡ true → won x b ≡ false → b ≡ h.event
  newly_won b w lost =
      let (o, m, k) = any_elim (λ o. same_event o.event b && not (blocked more o)) (members more.events) w in
      let t : (same_event o.event b ≡ true) × (not (blocked more o) ≡ true) = both_true _ _ k in
      either_of o (of_elem more o m) (λ e. sym (is_same_event _ _ t.0) ∙ ap (λ z. z.event) e)
      (λ old.
      let hit : blocked x o ≡ true =
      split (blocked x o) (λ y. y)
      (λ f. absurd (false≢true (sym lost ∙ any_intro (λ o. same_event o.event b && not (blocked x o)) (members x.events) o (elem x o old) (and_true _ _ t.0 (ap not f))))) in
      absurd (false≢true (ap not (sym (blocked_goes x more o (λ p e i. grows p i) hit)) ∙ t.1)))

  module _ (s : Status) where
    -- a condition holds after the set with the head as before it, where the head is no event of its fluent
    settled_stays : (c : Cond) → (h.event ≡ turns_on c.fluent → ⊥) → (h.event ≡ turns_off c.fluent → ⊥) → holds (after more s) c ≡ holds (after x s) c
    settled_stays c not_on not_off = holds_alike more x s c (agrees (turns_on c.fluent) not_on) (agrees (turns_off c.fluent) not_off)
      where
        agrees : (f : Event) → (h.event ≡ f → ⊥) → Agrees more x f
        agrees f other = (λ o e k. either_of o k (λ i. absurd (other (ap (λ z. z.event) (sym i) ∙ e))) (λ m. m), λ o e k. grows o k)

    -- a trigger that a head makes met, though not by a settled condition, has the head in its body
    newly_met : (r : TriggerView) → ((c : Cond) → Elem r.settled c → holds (after more s) c ≡ holds (after x s) c) → met r more s ≡ true → met r x s ≡ false → has_event h.event r ≡ true
    newly_met r stay k lost =
        let u : IsMet r more s = parts_met r more s k in
        split (list_all (won x) r.events)
        (λ a.
        let settled : list_all (holds (after x s)) r.settled ≡ true = all_intro (holds (after x s)) r.settled (λ c mc. sym (stay c mc) ∙ all_elim (holds (after more s)) r.settled c u.settled mc) in
        absurd (false≢true (sym lost ∙ met_by r x s (record { events = a; signals = u.signals; conds = u.conds; settled = settled }))))
        (λ f.
        let (b, m, none) = some_fails (won x) r.events f in
        any_intro (same_event h.event) r.events b m (same_event_of h.event b (sym (newly_won b (all_elim (won more) r.events b u.events m) none))))

module _ (rules : List TriggerView) (s : Status) (level : Event → ℕ) (n : ℕ) where
  -- each trigger that fires is among the numbers
  abbrev pub Waits : HappenedView → List ℕ → Type 0
  Waits x ts = (u : ℕ) (w : TriggerView) → item_at rules u ≡ Some w → fires s level n x w ≡ true → lists nat_eq ts u ≡ true

  -- what a trigger that fires is
  abbrev Fires : HappenedView → TriggerView → Type 0
  Fires x r = (immediate r ≡ true) × (level r.head.event ≡ n) × (met r x s ≡ true) × (has x.events r.head ≡ false)

  fired : (x : HappenedView) (r : TriggerView) → fires s level n x r ≡ true → Fires x r
  fired x r f =
      let a : ((immediate r && nat_eq (level r.head.event) n && met r x s) ≡ true) × (not (has x.events r.head) ≡ true) = both_true _ _ f in
      let b : ((immediate r && nat_eq (level r.head.event) n) ≡ true) × (met r x s ≡ true) = both_true _ _ a.0 in
      let c : (immediate r ≡ true) × (nat_eq (level r.head.event) n ≡ true) = both_true _ _ b.0 in
      (c.0, eqb-true _ _ c.1, b.1, not-true _ a.1)

  does_fire : (x : HappenedView) (r : TriggerView) → Fires x r → fires s level n x r ≡ true
  does_fire x r f = and_true _ _ (and_true _ _ (and_true _ _ f.0 (eq-eqb _ _ f.1)) f.2) (ap not f.3)

  -- the trigger whose head was found
  found : (x : HappenedView) (h : Prioritised) (o : Option TriggerView) → Some h ≡ head_at s level n x o → (q : TriggerView) × (o ≡ Some q) × (h ≡ q.head) × Fires x q
  found x h None e = cc
  found x h (Some q) e = by (fires s level n x q) refl e
    where
      by : (b : Bool) → fires s level n x q ≡ b → Some h ≡ cond b (Some q.head) None → (p : TriggerView) × (Some q ≡ Some p) × (h ≡ p.head) × Fires x p
      by true f e = (q, refl, cc, fired x q f)
      by false f e = cc

  -- at first the triggers of the level wait
  pub first_wait : (x : HappenedView) → Waits x (numbers (is_due level n) 0 rules)
  first_wait x u w at f =
      let k : Fires x w = fired x w f in
      numbered (is_due level n) 0 rules u u w (omega arith) at (and_true _ _ k.0 (eq-eqb _ _ k.1))

  -- one of the numbers, or the last
  last_or : {P : Type 0} (ts : List ℕ) (t u : ℕ) → lists nat_eq (ts ++ t ∷ []) u ≡ true → (lists nat_eq ts u ≡ true → P) → (u ≡ t → P) → P
  last_or ts t u k old new =
      elim (either_true (lists nat_eq ts u) _ (sym (list_any-append (nat_eq u) ts (t ∷ [])) ∙ k)) [
        | inl m ↦ old m
        | inr m ↦ elim (either_true (nat_eq u t) false m) [ inl e ↦ new (eqb-true u t e) | inr f ↦ absurd (false≢true f) ]
      ]

  one_item : (t : ℕ) (q w : TriggerView) → item_at rules t ≡ Some q → item_at rules t ≡ Some w → w ≡ q
  one_item t q w a b = cc

  product : (a b m p k ps ts : ℕ) → a < b → k + 1 ≤ m → ps ≡ p + k → ts ≡ p + 1 → a * m + ps < b * m + ts
  product a b m p k ps ts lt le e f =
      let u : suc a * m ≤ b * m = mul-le-mul_right m lt in
      omega (arith, suc-mul a m, u)

  -- with each look there is less to do
  pub less_left : (x : HappenedView) (ts : List ℕ) (t : ℕ) (head : Option Prioritised) → head ≡ head_at s level n x (item_at rules t)
      → missing rules (head_joined x head) * (length rules + 1) + length (waiting_with rules ts head) < missing rules x * (length rules + 1) + length (ts ++ t ∷ [])
  less_left x ts t None e = omega (arith, length-append ts (t ∷ []))
  less_left x ts t (Some h) e =
      let (q, here, is_head, own) = found x h (item_at rules t) e in
      product (missing rules (head_joined x (Some h))) (missing rules x) (length rules + 1) (length ts) (length (with_event rules h.event)) _ _
      (missing_drops rules x (head_joined x (Some h)) (grows x h) q (elem_of rules t q here) own.3 (subst (λ z. In (head_joined x (Some h)) z) is_head (there x h)))
      (omega (arith, numbers_few (has_event h.event) 0 rules)) (length-append ts (with_event rules h.event)) (length-append ts (t ∷ []))

  module _ (levelled : are_levels rules level ≡ true) where
    of_equal : (a b : ℕ) → a ≡ b → a ≤ b
    of_equal a b e = omega arith

    -- a head of the level turns no fluent of a settled condition of a trigger of the level
    settled_still : (x : HappenedView) (h : Prioritised) (q : TriggerView) → Elem rules q → immediate q ≡ true → level q.head.event ≡ n → h ≡ q.head
        → (w : TriggerView) → Elem rules w → immediate w ≡ true → level w.head.event ≡ n → (c : Cond) → Elem w.settled c → holds (after (head_joined x (Some h)) s) c ≡ holds (after x s) c
    settled_still x h q mq iq eq is w mw iw ew c mc =
        let decided = all_elim (is_decided rules level w) w.settled c (both_true _ _ (implied _ _ (all_elim _ rules w levelled mw) iw)).1 mc in
        let lv = both_true (not (is_node rules (turns_on c.fluent)) || nat_lt (level (turns_on c.fluent)) (level w.head.event)) (not (is_node rules (turns_off c.fluent)) || nat_lt (level (turns_off c.fluent)) (level w.head.event)) decided in
        settled_stays x h s c (apart (turns_on c.fluent) lv.0) (apart (turns_off c.fluent) lv.1)
      where
        too_low : (f t l : ℕ) → f < t → t ≡ n → l ≡ n → l ≡ f → ⊥
        too_low f t l a b c d = omega arith

        apart : (f : Event) → (not (is_node rules f) || nat_lt (level f) (level w.head.event)) ≡ true → h.event ≡ f → ⊥
        apart f low e =
            let is_f : q.head.event ≡ f = ap (λ z. z.event) (sym is) ∙ e in
            let node : is_node rules f ≡ true = subst (λ z. is_node rules z ≡ true) is_f (node_of rules q mq iq) in
            too_low (level f) (level w.head.event) (level q.head.event) (ltb-true _ _ (implied _ _ low node)) ew eq (ap level is_f)

    -- with the last number looked at, those that fire still wait
    pub still_wait : (x : HappenedView) (ts : List ℕ) (t : ℕ) (head : Option Prioritised) → head ≡ head_at s level n x (item_at rules t) → Waits x (ts ++ t ∷ []) → Waits (head_joined x head) (waiting_with rules ts head)
    still_wait x ts t None e wait u w at f =
        last_or ts t u (wait u w at f) (λ m. m)
        (λ is.
        let here : item_at rules t ≡ Some w = subst (λ k. item_at rules k ≡ Some w) is at in
        let none : None ≡ cond (fires s level n x w) (Some w.head) None = e ∙ ap (head_at s level n x) here in
        let some : None ≡ Some w.head = none ∙ ap (λ b. cond b (Some w.head) None) f in
        cc)
    still_wait x ts t (Some h) e wait u w at f =
        let (q, here, is_head, own) = found x h (item_at rules t) e in
        let k : Fires (head_joined x (Some h)) w = fired (head_joined x (Some h)) w f in
        let absent : has x.events w.head ≡ false = split (has x.events w.head) (λ i. absurd (false≢true (sym k.3 ∙ grows x h w.head i))) (λ z. z) in
        list_any-append (nat_eq u) ts (with_event rules h.event)
        ∙ split (met w x s)
        (λ m.
        last_or ts t u (wait u w at (does_fire x w (k.0, k.1, m, absent))) (λ i. left_true (lists nat_eq ts u) _ i)
        (λ is.
        let same : w ≡ q = one_item t q w here (subst (λ z. item_at rules z ≡ Some w) is at) in
        absurd (false≢true (sym k.3 ∙ subst (λ z. has (head_joined x (Some h)).events z ≡ true) (is_head ∙ ap (λ r. r.head) (sym same)) (there x h)))))
        (λ m. right_true (lists nat_eq ts u) _ (numbered (has_event h.event) 0 rules u u w (omega arith) at (newly_met x h s w (settled_still x h q (elem_of rules t q here) own.0 own.1 is_head w (elem_of rules u w at) k.0 k.1) k.2 m)))

    -- a head that fires keeps the set on its way
    pub keeps_on : (x : HappenedView) (head : Option Prioritised) (o : Option TriggerView) → ((q : TriggerView) → o ≡ Some q → Elem rules q) → head ≡ head_at s level n x o → KeepsSet rules s level n x n (head_joined x head)
    keeps_on x None o ours e base so_far = so_far
    keeps_on x (Some h) o ours e base so_far =
        let (q, here, is_head, own) = found x h o e in
        record {
          has_base = λ p k. grows x h p (so_far.has_base p k);
          within = λ z is p k.
              either_of x h p k (λ i. subst (In z) (sym (i ∙ is_head)) (supports rules base s level levelled x n so_far z is q (ours q here) own.0 (of_equal _ _ own.1) own.2)) (so_far.within z is p);
          full = λ z is p node low k. grows x h p (so_far.full z is p node low k);
          signals = so_far.signals;
        }

    -- where none waits, the level is done
    pub done : (x : HappenedView) → Waits x [] → KeepsSet rules s level n x (n + 1) x
    done x none base so_far = next_level rules base s level levelled x n so_far quiet
      where
        quiet : (r : TriggerView) → Elem rules r → immediate r ≡ true → level r.head.event ≡ n → met r x s ≡ true → In x r.head
        quiet r m i e k =
            split (has x.events r.head) (λ t. t)
            (λ f. let (u, at) = number_of rules r m in absurd (false≢true (none u r at (does_fire x r (i, e, k, f)))))
