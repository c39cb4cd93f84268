-- A role from which no edge leads begins no walk but the one that stays there.
use Rattle.std.proofs.Common.{◌≡◌, ℕ, zero, suc, ◌+◌, ◌<◌, ◌≤◌, Bool, true, false, cond, not, ◌&&◌, nat_eq, List, [], ◌∷◌, length, map, filter, flat_map, Option, Some, None, refl, sym, ◌∙◌, ap, arith, if◌then◌else◌}
use Rattle.std.specs.List.{enumerate_from, range_with_len, slice_index_or}
use Rattle.std.proofs.lemmas.Bool.{eqb-true}
use Rattle.gt_base.specs.declared.events.RoleId.{RoleId}
use Rattle.gt_base.specs.declared.policies.HierEdge.{HierEdge}
use Rattle.gtrbac_model.specs.Graph.{Arc, Path, item_at, first_ending, walks_from, least_of_length, shortest, least_walk}
use Rattle.gtrbac_model.specs.Same.{same_role}
use Rattle.gtrbac_model.specs.Hierarchy.{all_roles, role_arcs, least_role_walk}
use Rattle.gt_base.specs.Held.{RoleWalk}
use Rattle.least_walk.proofs.Items.{item_within, item_numbered, item_of_map}
use Rattle.hybrid_hierarchy.specs.Searches.{IsOutgoing, leads_on}
use Rattle.walk_laws.proofs.Roles.{is_same_role}
use Rattle.hybrid_hierarchy.proofs.Roles.{number}
use Rattle.hybrid_hierarchy.proofs.Walking.{item_of_range}
use Rattle.hybrid_hierarchy.specs.declared.outgoing.TheConstants.{NO_EDGE}

not_off : (a b : ℕ) → not (nat_eq a b) ≡ false → a ≡ b
not_off a b h = by (nat_eq a b) refl h
  where
    by : (c : Bool) → nat_eq a b ≡ c → not c ≡ false → a ≡ b
    by true e h = eqb-true a b e
    by false e h = cc

none_pass : {A : Type 0} (p : ℕ × A → Bool) (k : ℕ) (xs : List A) → ((i : ℕ) (x : A) → item_at xs i ≡ Some x → (n : ℕ) → p (n, x) ≡ false) → filter p (enumerate_from k xs) ≡ []
none_pass p k [] off = refl
none_pass p k (x ∷ xs) off =
    ap (λ b. cond b ((k, x) ∷ filter p (enumerate_from (k + 1) xs)) (filter p (enumerate_from (k + 1) xs))) (off 0 x refl k)
    ∙ none_pass p (k + 1) xs (λ i. off (suc i))

module _ (ok : ℕ → HierEdge → Bool) (es : List HierEdge) (first next : List ℕ) (few : length es ≤ 4_000) (out : IsOutgoing es first next) (a : RoleId) (off : leads_on first a.0 ≡ false) where
  no_arc : (i : ℕ) (arc : Arc RoleId) → item_at (role_arcs ok es) i ≡ Some arc → (n : ℕ) → (arc.is_open && same_role arc.from a) ≡ false
  no_arc i arc is n =
      let (e, at, same) = item_numbered (λ e. record { from = e.1.senior; to = e.1.junior; is_open = ok e.0 e.1 }) 0 es i arc is in
      let from : arc.from ≡ e.senior = ap (λ (x : Arc RoleId). x.from) same in
      by arc.is_open (same_role arc.from a) (λ h. out_of e at (ap (λ (r : RoleId). r.0) (sym from ∙ is_same_role arc.from a h)))
    where
      out_of : (e : HierEdge) → item_at es i ≡ Some e → e.senior.0 ≡ a.0 → ⊥
      out_of e at v =
          let none : slice_index_or first a.0 NO_EDGE ≡ NO_EDGE = not_off _ _ off in
          let low : i < length es = item_within es i e at in
          (out.firsts a.0).nothing i e (omega arith) (omega (arith, none, low, few)) at v

      by : (b c : Bool) → (c ≡ true → ⊥) → (b && c) ≡ false
      by true true no_way = absurd (no_way refl)
      by true false no_way = refl
      by false c no_way = refl

  no_walks : (n : ℕ) → walks_from same_role (role_arcs ok es) (suc n) a ≡ []
  no_walks n =
      ap (flat_map (λ e. map (λ w. (e.0 ∷ w.0, w.1)) (walks_from same_role (role_arcs ok es) n e.1.to)))
      (none_pass (λ e. e.1.is_open && same_role e.1.from a) 0 (role_arcs ok es) (λ i arc is k. no_arc i arc is k))

  pub none_ends : (goal : RoleId → Bool) → goal a ≡ false → (n : ℕ) → first_ending goal (walks_from same_role (role_arcs ok es) n a) ≡ None
  none_ends goal far zero = ap (λ b. if b then Some [] else None) far
  none_ends goal far (suc n) = ap (first_ending goal) (no_walks n)

-- starts that begin no walk to a goal may be left out
module _ (arcs : List (Arc RoleId)) (goal from leads : RoleId → Bool) where
  abbrev some : RoleId → Bool
  some r = leads r && from r

  abbrev IsUseless : RoleId → Type 0
  IsUseless a = from a ≡ true → leads a ≡ false → (n : ℕ) → first_ending goal (walks_from same_role arcs n a) ≡ None

  abbrev or_start : RoleId → Option (List ℕ) → Option (Path RoleId) → Option (Path RoleId)
  or_start r w o = elim w [ Some w ↦ Some (record { start = r; arcs = w }) | None ↦ o ]

  of_length : (n : ℕ) (rs : List RoleId) → ((i : ℕ) (a : RoleId) → item_at rs i ≡ Some a → IsUseless a)
      → least_of_length same_role arcs goal n (filter some rs) ≡ least_of_length same_role arcs goal n (filter from rs)
  of_length n [] h = refl
  of_length n (r ∷ rs) h = by (leads r) (from r) refl refl (h 0 r refl) (of_length n rs (λ i. h (suc i)))
    where
      by : (b c : Bool) → leads r ≡ b → from r ≡ c → IsUseless r → least_of_length same_role arcs goal n (filter some rs) ≡ least_of_length same_role arcs goal n (filter from rs)
          → least_of_length same_role arcs goal n (cond (b && c) (r ∷ filter some rs) (filter some rs)) ≡ least_of_length same_role arcs goal n (cond c (r ∷ filter from rs) (filter from rs))
      by true true l f u rest = ap (λ (o : Option (Path RoleId)). or_start r (first_ending goal (walks_from same_role arcs n r)) o) rest
      by true false l f u rest = rest
      by false true l f u rest = rest ∙ sym (ap (λ (o : Option (List ℕ)). or_start r o (least_of_length same_role arcs goal n (filter from rs))) (u f l n))
      by false false l f u rest = rest

  abbrev or_longer : Option (Path RoleId) → Option (Path RoleId) → Option (Path RoleId)
  or_longer p o = elim p [ Some p ↦ Some p | None ↦ o ]

  of_lengths : (n k : ℕ) (rs : List RoleId) → ((i : ℕ) (a : RoleId) → item_at rs i ≡ Some a → IsUseless a) → shortest same_role arcs goal (filter some rs) n k ≡ shortest same_role arcs goal (filter from rs) n k
  of_lengths n zero rs h = refl
  of_lengths n (suc k) rs h = λ i. or_longer (of_length n rs h i) (of_lengths (n + 1) k rs h i)

abbrev role_walk : Option (Path RoleId) → Option RoleWalk
role_walk None = None
role_walk (Some p) = Some (record { start = p.start; edges = p.arcs })

pub leaving : (es : List HierEdge) (ok : ℕ → HierEdge → Bool) (first next : List ℕ) → length es ≤ 4_000 → IsOutgoing es first next → (from goal : RoleId → Bool)
    → ((a : RoleId) → a.0 < 1_000 → from a ≡ true → goal a ≡ false) → least_role_walk es ok (λ r. leads_on first r.0 && from r) goal ≡ least_role_walk es ok from goal
leaving es ok first next few out from goal far = over all_roles refl
  where
    over : (rs : List RoleId) → map number rs ≡ range_with_len 0 1_000
        → role_walk (least_walk same_role (role_arcs ok es) goal (filter (λ r. leads_on first r.0 && from r) rs)) ≡ role_walk (least_walk same_role (role_arcs ok es) goal (filter from rs))
    over rs e =
        ap role_walk (of_lengths (role_arcs ok es) goal from (λ r. leads_on first r.0) 0 (length (role_arcs ok es) + 1) rs
        (λ i a is on off n.
        let low : a.0 < 0 + 1_000 = item_of_range 0 1_000 i a.0 (ap (λ ns. item_at ns i) (sym e) ∙ item_of_map number rs i a is) in
        none_ends ok es first next few out a off goal (far a (omega (arith, low)) on) n))
