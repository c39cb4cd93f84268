-- Which dependencies there are.
use Rattle.std.proofs.Common.{◌≡◌, ◌↔◌, ◌⊎◌, inl, inr, ℕ, zero, suc, ◌+◌, Bool, true, false, cond, List, [], ◌∷◌, ◌++◌, length, Some, refl, sym, ◌∙◌, ap, subst, arith}
use Rattle.std.specs.Option.{unwrap_or}
use Rattle.gt_base.specs.declared.events.Cond.{Cond}
use Rattle.gt_base.specs.declared.events.Event.{Event}
use Rattle.gt_base.specs.Events.{converse}
use Rattle.gt_base.specs.Held.{TriggerView}
use Rattle.gtrbac_model.specs.Conflict.{turns_on, turns_off}
use Rattle.gtrbac_model.specs.Graph.{item_at}
use Rattle.gtrbac_model.specs.Safety.{Dependency, is_node, edge_if_node, of_body, of_settled, of_trigger, of_triggers, dependencies}
use Rattle.gtrbac_model.specs.Trigger.{immediate}
use Rattle.gtrbac_model.proofs.Elements.{Elem}
use Rattle.walk_laws.specs.Depending.{IsDependency}

elem_at : {A : Type 0} (xs : List A) (n : ℕ) (x : A) → item_at xs n ≡ Some x → Elem xs x
elem_at [] n x e = cc
elem_at (y ∷ ys) zero x e = inl (sym (ap (λ o. unwrap_or o x) e))
elem_at (y ∷ ys) (suc n) x e = inr (elem_at ys n x e)

at_elem : {A : Type 0} (xs : List A) (x : A) → Elem xs x → (n : ℕ) × (item_at xs n ≡ Some x)
at_elem [] x m = elim m [ ]
at_elem (y ∷ ys) x (inl e) = (0, ap (λ z. Some z) (sym e))
at_elem (y ∷ ys) x (inr m) = let (n, e) = at_elem ys x m in (suc n, e)

in_left : {A : Type 0} (xs ys : List A) (x : A) → Elem xs x → Elem (xs ++ ys) x
in_left [] ys x m = elim m [ ]
in_left (z ∷ zs) ys x (inl e) = inl e
in_left (z ∷ zs) ys x (inr m) = inr (in_left zs ys x m)

in_right : {A : Type 0} (xs ys : List A) (x : A) → Elem ys x → Elem (xs ++ ys) x
in_right [] ys x m = m
in_right (z ∷ zs) ys x m = inr (in_right zs ys x m)

parted : {A : Type 0} (xs ys : List A) (x : A) → Elem (xs ++ ys) x → Elem xs x ⊎ Elem ys x
parted [] ys x m = inr m
parted (z ∷ zs) ys x (inl e) = inl (inl e)
parted (z ∷ zs) ys x (inr m) = elim (parted zs ys x m) [ inl l ↦ inl (inr l) | inr r ↦ inr r ]

-- what stands in a list that is empty unless the test passes
if_true : {A : Type 0} (b : Bool) (xs : List A) (x : A) → Elem (cond b xs []) x → (b ≡ true) × Elem xs x
if_true true xs x m = (refl, m)
if_true false xs x m = elim m [ ]

abbrev plain : Event → Event → ℕ → ℕ → Dependency
plain head b t p = record { source = b; target = head; conflict = false; trigger = t; place = p }

abbrev rival : Event → Event → ℕ → ℕ → Dependency
rival head b t p = record { source = b; target = head; conflict = true; trigger = t; place = p }

item_is : {A : Type 0} (x y : A) → Some x ≡ Some y → x ≡ y
item_is x y e = ap (λ o. unwrap_or o x) e

-- what stands in the list of all items comes from one of them, by its number
from_one : {A : Type 0} (one : ℕ → A → List Dependency) (all : ℕ → List A → List Dependency) → ((n : ℕ) → all n [] ≡ []) → ((n : ℕ) (x : A) (xs : List A) → all n (x ∷ xs) ≡ one n x ++ all (n + 1) xs)
    → (n : ℕ) (xs : List A) (d : Dependency) → Elem (all n xs) d → (x : A) × (k : ℕ) × (item_at xs k ≡ Some x) × Elem (one (n + k) x) d
from_one one all ends goes n [] d m = elim (subst (λ l. Elem l d) (ends n) m) [ ]
from_one one all ends goes n (y ∷ ys) d m =
    let here : n ≡ n + 0 = omega arith in
    elim (parted (one n y) (all (n + 1) ys) d (subst (λ l. Elem l d) (goes n y ys) m)) [
      | inl front ↦ (y, 0, refl, subst (λ u. Elem (one u y) d) here front)
      | inr back ↦
          let (x, k, at, there) = from_one one all ends goes (n + 1) ys d back in
          let later : n + 1 + k ≡ n + suc k = omega arith in
          (x, suc k, at, subst (λ u. Elem (one u x) d) later there)
    ]

-- and what comes from one of them stands there
to_all : {A : Type 0} (one : ℕ → A → List Dependency) (all : ℕ → List A → List Dependency) → ((n : ℕ) (x : A) (xs : List A) → all n (x ∷ xs) ≡ one n x ++ all (n + 1) xs)
    → (n : ℕ) (xs : List A) (k : ℕ) (x : A) (q : ℕ) (d : Dependency) → item_at xs k ≡ Some x → n + k ≡ q → Elem (one q x) d → Elem (all n xs) d
to_all one all goes n [] k x q d at e m = cc
to_all one all goes n (y ∷ ys) zero x q d at e m =
    let same : x ≡ y = sym (item_is y x at) in
    let number : q ≡ n = omega (arith, e) in
    subst (λ l. Elem l d) (sym (goes n y ys)) (in_left (one n y) (all (n + 1) ys) d (subst (λ z. Elem (one n z) d) same (subst (λ u. Elem (one u x) d) number m)))
to_all one all goes n (y ∷ ys) (suc k) x q d at e m =
    subst (λ l. Elem l d) (sym (goes n y ys)) (in_right (one n y) (all (n + 1) ys) d (to_all one all goes (n + 1) ys k x q d at (omega (arith, e)) m))

module _ (triggers : List TriggerView) where
  an_edge : (d : Dependency) → is_node triggers d.source ≡ true → Elem (edge_if_node triggers d) d
  an_edge d n = subst (λ b. Elem (cond b (d ∷ []) []) d) (sym n) (inl refl)

  of_edge : (e d : Dependency) → Elem (edge_if_node triggers e) d → (d ≡ e) × (is_node triggers d.source ≡ true)
  of_edge e d m =
      let (node, here) = if_true (is_node triggers e.source) (e ∷ []) d m in
      elim here [
        | inl same ↦ (same, subst (λ z. is_node triggers z.source ≡ true) (sym same) node)
        | inr none ↦ elim none [ ]
      ]

  -- the two edges of a part, where they come from nodes
  abbrev two : {A : Type 0} → (ℕ → A → Dependency) → (ℕ → A → Dependency) → ℕ → A → List Dependency
  two f g p x = edge_if_node triggers (f p x) ++ edge_if_node triggers (g p x)

  of_two : {A : Type 0} (f g : ℕ → A → Dependency) (p : ℕ) (x : A) (d : Dependency) → Elem (two f g p x) d → (is_node triggers d.source ≡ true) × ((d ≡ f p x) ⊎ (d ≡ g p x))
  of_two f g p x d m = elim (parted (edge_if_node triggers (f p x)) (edge_if_node triggers (g p x)) d m) [
    | inl k ↦ let (same, node) = of_edge (f p x) d k in (node, inl same)
    | inr k ↦ let (same, node) = of_edge (g p x) d k in (node, inr same)
  ]

  first_there : {A : Type 0} (f g : ℕ → A → Dependency) (p : ℕ) (x : A) → is_node triggers (f p x).source ≡ true → Elem (two f g p x) (f p x)
  first_there f g p x node = in_left (edge_if_node triggers (f p x)) (edge_if_node triggers (g p x)) (f p x) (an_edge (f p x) node)

  second_there : {A : Type 0} (f g : ℕ → A → Dependency) (p : ℕ) (x : A) → is_node triggers (g p x).source ≡ true → Elem (two f g p x) (g p x)
  second_there f g p x node = in_right (edge_if_node triggers (f p x)) (edge_if_node triggers (g p x)) (g p x) (an_edge (g p x) node)

  -- of a body event, and of a settled condition
  module _ (head : Event) (t : ℕ) where
    abbrev agrees : ℕ → Event → Dependency
    agrees p b = plain head b t p

    abbrev differs : ℕ → Event → Dependency
    differs p b = rival head (converse b) t p

    abbrev on : ℕ → Cond → Dependency
    on p c = rival head (turns_on c.fluent) t p

    abbrev off : ℕ → Cond → Dependency
    off p c = rival head (turns_off c.fluent) t p

    of_bodies : (bs : List Event) (d : Dependency) → Elem (of_body triggers head t 0 bs) d
        → (b : Event) × (k : ℕ) × (item_at bs k ≡ Some b) × (is_node triggers d.source ≡ true) × ((d ≡ agrees (0 + k) b) ⊎ (d ≡ differs (0 + k) b))
    of_bodies bs d m =
        let (b, k, at, there) = from_one (two agrees differs) (of_body triggers head t) (λ p. refl) (λ p c cs. refl) 0 bs d m in
        let (node, which) = of_two agrees differs (0 + k) b d there in
        (b, k, at, node, which)

    of_conds : (p : ℕ) (cs : List Cond) (d : Dependency) → Elem (of_settled triggers head t p cs) d
        → (c : Cond) × (k : ℕ) × (item_at cs k ≡ Some c) × (is_node triggers d.source ≡ true) × ((d ≡ on (p + k) c) ⊎ (d ≡ off (p + k) c))
    of_conds p cs d m =
        let (c, k, at, there) = from_one (two on off) (of_settled triggers head t) (λ p. refl) (λ p b bs. refl) p cs d m in
        let (node, which) = of_two on off (p + k) c d there in
        (c, k, at, node, which)

    has_body : (bs : List Event) (k : ℕ) (b : Event) (d : Dependency) → item_at bs k ≡ Some b → Elem (two agrees differs k b) d → Elem (of_body triggers head t 0 bs) d
    has_body bs k b d at m = to_all (two agrees differs) (of_body triggers head t) (λ p c cs. refl) 0 bs k b k d at (omega arith) m

    has_cond : (p : ℕ) (cs : List Cond) (k : ℕ) (c : Cond) (q : ℕ) (d : Dependency) → item_at cs k ≡ Some c → p + k ≡ q → Elem (two on off q c) d → Elem (of_settled triggers head t p cs) d
    has_cond p cs k c q d at e m = to_all (two on off) (of_settled triggers head t) (λ p b bs. refl) p cs k c q d at e m

  -- ---- what is there
  told : (d : Dependency) → Elem (dependencies triggers) d → IsDependency triggers d
  told d m =
      let (r, k, at, there) = from_one (of_trigger triggers) (of_triggers triggers) (λ t. refl) (λ t r rs. refl) 0 triggers d m in
      let (now, edges) = if_true (immediate r) (of_body triggers r.head.event (0 + k) 0 r.events ++ of_settled triggers r.head.event (0 + k) (length r.events) r.settled) d there in
      let number : k ≡ 0 + k = omega arith in
      let numbered : (t : ℕ) → t ≡ 0 + k → item_at triggers t ≡ Some r = λ t e. subst (λ u. item_at triggers u ≡ Some r) (number ∙ sym e) at in
      elim (parted (of_body triggers r.head.event (0 + k) 0 r.events) (of_settled triggers r.head.event (0 + k) (length r.events) r.settled) d edges) [
        | inl body ↦
            let (b, j, stands, node, which) = of_bodies r.head.event (0 + k) r.events d body in
            let place : (p : ℕ) → p ≡ 0 + j → item_at r.events p ≡ Some b = λ p e. let same : j ≡ p = omega (arith, e) in subst (λ q. item_at r.events q ≡ Some b) same stands in
            elim which [
              | inl e ↦ record {
                rule = r;
                stands = numbered d.trigger (ap (λ z. z.trigger) e);
                immediate = now;
                target = ap (λ z. z.target) e;
                from_node = node;
                cause = inl (record { event = b; stands = place d.place (ap (λ z. z.place) e); source = inl (ap (λ z. z.conflict) e, ap (λ z. z.source) e) });
              }
              | inr e ↦ record {
                rule = r;
                stands = numbered d.trigger (ap (λ z. z.trigger) e);
                immediate = now;
                target = ap (λ z. z.target) e;
                from_node = node;
                cause = inl (record { event = b; stands = place d.place (ap (λ z. z.place) e); source = inr (ap (λ z. z.conflict) e, ap (λ z. z.source) e) });
              }
            ]
        | inr settled ↦
            let (c, j, stands, node, which) = of_conds r.head.event (0 + k) (length r.events) r.settled d settled in
            elim which [
              | inl e ↦ record {
                rule = r;
                stands = numbered d.trigger (ap (λ z. z.trigger) e);
                immediate = now;
                target = ap (λ z. z.target) e;
                from_node = node;
                cause = inr (record { cond = c; number = j; stands = stands; place = ap (λ z. z.place) e; conflict = ap (λ z. z.conflict) e; source = inl (ap (λ z. z.source) e) });
              }
              | inr e ↦ record {
                rule = r;
                stands = numbered d.trigger (ap (λ z. z.trigger) e);
                immediate = now;
                target = ap (λ z. z.target) e;
                from_node = node;
                cause = inr (record { cond = c; number = j; stands = stands; place = ap (λ z. z.place) e; conflict = ap (λ z. z.conflict) e; source = inr (ap (λ z. z.source) e) });
              }
            ]
      ]

  -- ---- what is due
  due : (d : Dependency) → IsDependency triggers d → Elem (dependencies triggers) d
  due d h =
      let r : TriggerView = h.rule in
      let head : Event = r.head.event in
      let bodies : List Dependency = of_body triggers head d.trigger 0 r.events in
      let conds : List Dependency = of_settled triggers head d.trigger (length r.events) r.settled in
      let edges : Elem (bodies ++ conds) d =
      elim h.cause [
        | inl b ↦ in_left bodies conds d (elim b.source [
          | inl s ↦ subst (λ z. Elem bodies z) (λ i. record { source = sym s.1 i; target = sym h.target i; conflict = sym s.0 i; trigger = d.trigger; place = d.place })
              (has_body head d.trigger r.events d.place b.event _ b.stands (first_there (agrees head d.trigger) (differs head d.trigger) d.place b.event (subst (λ z. is_node triggers z ≡ true) s.1 h.from_node)))
          | inr s ↦ subst (λ z. Elem bodies z) (λ i. record { source = sym s.1 i; target = sym h.target i; conflict = sym s.0 i; trigger = d.trigger; place = d.place })
              (has_body head d.trigger r.events d.place b.event _ b.stands (second_there (agrees head d.trigger) (differs head d.trigger) d.place b.event (subst (λ z. is_node triggers z ≡ true) s.1 h.from_node)))
        ])
        | inr c ↦ in_right bodies conds d (elim c.source [
          | inl s ↦ subst (λ z. Elem conds z) (λ i. record { source = sym s i; target = sym h.target i; conflict = sym c.conflict i; trigger = d.trigger; place = d.place })
              (has_cond head d.trigger (length r.events) r.settled c.number c.cond d.place _ c.stands (sym c.place) (first_there (on head d.trigger) (off head d.trigger) d.place c.cond (subst (λ z. is_node triggers z ≡ true) s h.from_node)))
          | inr s ↦ subst (λ z. Elem conds z) (λ i. record { source = sym s i; target = sym h.target i; conflict = sym c.conflict i; trigger = d.trigger; place = d.place })
              (has_cond head d.trigger (length r.events) r.settled c.number c.cond d.place _ c.stands (sym c.place) (second_there (on head d.trigger) (off head d.trigger) d.place c.cond (subst (λ z. is_node triggers z ≡ true) s h.from_node)))
        ])
      ] in
      let numbered : 0 + d.trigger ≡ d.trigger = omega arith in
      to_all (of_trigger triggers) (of_triggers triggers) (λ t r rs. refl) 0 triggers d.trigger r d.trigger d h.stands numbered (subst (λ b. Elem (cond b (bodies ++ conds) []) d) (sym h.immediate) edges)

pub tells : (triggers : List TriggerView) (d : Dependency) → ((n : ℕ) × (item_at (dependencies triggers) n ≡ Some d)) ↔ IsDependency triggers d
tells triggers d = (λ p. told triggers d (elem_at (dependencies triggers) p.0 d p.1), λ h. at_elem (dependencies triggers) d (due triggers d h))
