-- Where a start is the goal itself, the least walk stays there.
use Rattle.std.proofs.Common.{◌≡◌, ℕ, zero, suc, ◌+◌, ◌<◌, ◌≤◌, ◌⊎◌, inl, inr, Bool, true, false, cond, ◌&&◌, nat_lt, List, [], ◌∷◌, map, filter, Option, Some, None, is_none, MatchOption, refl, sym, ◌∙◌, ap, arith}
use Rattle.std.specs.List.{range_with_len}
use Rattle.std.proofs.lemmas.Bool.{ltb-true, ltb-false}
use Rattle.gt_base.specs.declared.events.RoleId.{RoleId}
use Rattle.gt_base.specs.declared.policies.HierEdge.{HierEdge}
use Rattle.gt_base.specs.Held.{RoleWalk}
use Rattle.gtrbac_model.specs.Graph.{Path, Arc, LeadsAlong, IsLeastWalk, NotAfter, least_walk, item_at}
use Rattle.gtrbac_model.specs.Same.{same_role}
use Rattle.gtrbac_model.specs.Hierarchy.{all_roles, role_arcs, least_role_walk}
use Rattle.walk_laws.specs.Laws.{HasNoWalk as NoWalk}
use Rattle.walk_laws.proofs.Computing.{least_walk_is}
use Rattle.walk_laws.proofs.Orders.{one_least_walk}
use Rattle.least_walk.proofs.Items.{item_map}
use Rattle.hybrid_hierarchy.specs.Lasting.{leads_to}
use Rattle.hybrid_hierarchy.proofs.Seeking.{open_arc}
use Rattle.walk_laws.proofs.Roles.{one_role, is_same_role, same_role_of, tells_apart}
use Rattle.hybrid_hierarchy.proofs.Roles.{number}

item_in_range : (a n i : ℕ) → i < n → item_at (range_with_len a n) i ≡ Some (a + i)
item_in_range a zero i low = absurd (omega arith)
item_in_range a (suc n) zero low = ap Some (omega arith)
item_in_range a (suc n) (suc i) low = item_in_range (a + 1) n i (omega arith) ∙ ap Some (omega arith)

-- each role below the limit is among all of them
role_stands : (rs : List RoleId) (n : ℕ) → map number rs ≡ range_with_len 0 n → (r : RoleId) → r.0 < n → item_at rs r.0 ≡ Some r
role_stands rs n e r low =
    let at : item_at (map number rs) r.0 ≡ Some r.0 = ap (λ ns. item_at ns r.0) e ∙ item_in_range 0 n r.0 low ∙ ap Some (omega arith) in
    let (x, is, same) = item_map number rs r.0 r.0 at in
    is ∙ ap Some (one_role x r (sym same))

kept : {A : Type 0} (p : A → Bool) (xs : List A) (i : ℕ) (x : A) → item_at xs i ≡ Some x → p x ≡ true → (j : ℕ) × (item_at (filter p xs) j ≡ Some x)
kept p [] i x at on = cc
kept {A} p (y ∷ ys) zero x at on =
    let same : y ≡ x = cc in
    (0, ap (λ b. item_at (cond b (y ∷ filter p ys) (filter p ys)) 0) (ap p same ∙ on) ∙ ap Some same)
kept {A} p (y ∷ ys) (suc i) x at on = by (p y) (kept p ys i x at on)
  where
    by : (b : Bool) → (j : ℕ) × (item_at (filter p ys) j ≡ Some x) → (j : ℕ) × (item_at (cond b (y ∷ filter p ys) (filter p ys)) j ≡ Some x)
    by true (j, is) = (suc j, is)
    by false (j, is) = (j, is)

-- the first place where it stands
pub record FirstPlace (rs : List RoleId) (r : RoleId) : Type 0 where
  pub place : ℕ
  pub is : item_at rs place ≡ Some r
  pub first : (j : ℕ) → item_at rs j ≡ Some r → place ≤ j

first_place : (rs : List RoleId) (r : RoleId) (i : ℕ) → item_at rs i ≡ Some r → FirstPlace rs r
first_place [] r i at = cc
first_place (q ∷ rs) r i at = by (same_role q r) refl i at (λ k is. first_place rs r k is)
  where
    by : (b : Bool) → same_role q r ≡ b → (i : ℕ) → item_at (q ∷ rs) i ≡ Some r → ((k : ℕ) → item_at rs k ≡ Some r → FirstPlace rs r) → FirstPlace (q ∷ rs) r
    by true same i at go = record { place = 0; is = ap Some (is_same_role q r same); first = λ j _. omega arith }
    by false same zero at go = let e : q ≡ r = cc in let on : true ≡ false = sym (same_role_of q r e) ∙ same in cc
    by false same (suc k) at go =
        let rest = go k at in
        record { place = suc (rest.place); is = rest.is; first = λ j is. later rest j is }
      where
        later : (rest : FirstPlace rs r) (j : ℕ) → item_at (q ∷ rs) j ≡ Some r → suc (rest.place) ≤ j
        later rest zero is = let e : q ≡ r = cc in let on : true ≡ false = sym (same_role_of q r e) ∙ same in cc
        later rest (suc j) is = let le : rest.place ≤ j = rest.first j is in omega arith

module _ (arcs : List (Arc RoleId)) (r : RoleId) (starts : List RoleId) (p : FirstPlace starts r) where
  abbrev here : Path RoleId
  here = record { start = r; arcs = [] }

  stays : IsLeastWalk arcs (same_role r) starts here
  stays = record {
    place = p.place;
    is_walk = record { end = r; from_start = p.is; leads = refl; reaches = same_role_of r r refl };
    least = λ j q w. order j q.start q.arcs w.end w.from_start w.leads w.reaches;
  }
    where
      order : (j : ℕ) (a : RoleId) (ns : List ℕ) (end : RoleId) → item_at starts j ≡ Some a → LeadsAlong arcs a ns end → same_role r end ≡ true → NotAfter p.place here j (record { start = a; arcs = ns })
      order j a (n ∷ ns) end is leads reaches = inl (omega arith)
      order j a [] end is leads reaches =
          let le : p.place ≤ j = p.first j (is ∙ ap Some (leads ∙ sym (is_same_role r end reaches))) in
          inr (refl, either le)
        where
          either : p.place ≤ j → (p.place < j) ⊎ ((p.place ≡ j) × (true ≡ true))
          either le = by (nat_lt p.place j) refl
            where
              by : (b : Bool) → nat_lt p.place j ≡ b → (p.place < j) ⊎ ((p.place ≡ j) × (true ≡ true))
              by true e = inl (ltb-true _ _ e)
              by false e = inr (omega (arith, le, ltb-false _ _ e), refl)

  the_least : (o : Option (Path RoleId)) → MatchOption o (NoWalk arcs (same_role r) starts) (IsLeastWalk arcs (same_role r) starts) → o ≡ Some here
  the_least None none = absurd (none stays.place here stays.is_walk)
  the_least (Some q) least = ap Some (one_least_walk arcs (same_role r) starts q here least stays)

  is_here : least_walk same_role arcs (same_role r) starts ≡ Some here
  is_here = the_least _ (least_walk_is same_role tells_apart arcs (same_role r) starts)

abbrev role_walk : Option (Path RoleId) → Option RoleWalk
role_walk None = None
role_walk (Some p) = Some (record { start = p.start; edges = p.arcs })

pub standing_walk : (es : List HierEdge) (ok : ℕ → HierEdge → Bool) (from : RoleId → Bool) (r : RoleId) → (nat_lt r.0 1_000 && from r) ≡ true
    → least_role_walk es ok from (same_role r) ≡ Some (record { start = r; edges = [] })
standing_walk es ok from r h = over all_roles refl (both (nat_lt r.0 1_000) (from r) h)
  where
    both : (a b : Bool) → (a && b) ≡ true → (a ≡ true) × (b ≡ true)
    both true b e = (refl, e)
    both false b e = cc

    over : (rs : List RoleId) → map number rs ≡ range_with_len 0 1_000 → (nat_lt r.0 1_000 ≡ true) × (from r ≡ true)
        → role_walk (least_walk same_role (role_arcs ok es) (same_role r) (filter from rs)) ≡ Some (record { start = r; edges = [] })
    over rs e (low, on) =
        let (j, is) = kept from rs r.0 r (role_stands rs 1_000 e r (ltb-true _ _ low)) on in
        ap role_walk (is_here (role_arcs ok es) r (filter from rs) (first_place (filter from rs) r j is))

both_on : (a b : Bool) → (a && b) ≡ true → (a ≡ true) × (b ≡ true)
both_on true b e = (refl, e)
both_on false b e = cc

-- edges that lead on, one after the other
module _ (ok : ℕ → HierEdge → Bool) (es : List HierEdge) where
  abbrev after : List ℕ → RoleId → Option RoleId → Bool
  after ns b (Some next) = leads_to ok es next ns b
  after ns b None = false

  abbrev stepped : RoleId → ℕ → Option HierEdge → Option RoleId
  stepped a n (Some e) = cond (same_role e.senior a && ok n e) (Some e.junior) None
  stepped a n None = None

  leads : (a : RoleId) (ns : List ℕ) (b : RoleId) → leads_to ok es a ns b ≡ true → LeadsAlong (role_arcs ok es) a ns b
  leads a [] b h = sym (is_same_role b a h)
  leads a (n ∷ ns) b h = by (λ e. leads e.junior ns b) (item_at es n) refl h
    where
      step : ((e : HierEdge) → leads_to ok es e.junior ns b ≡ true → LeadsAlong (role_arcs ok es) e.junior ns b) → (e : HierEdge) → item_at es n ≡ Some e → (c : Bool) → (same_role e.senior a && ok n e) ≡ c → after ns b (cond c (Some e.junior) None) ≡ true → LeadsAlong (role_arcs ok es) a (n ∷ ns) b
      step on_from e is true c h =
          let (from, on) = both_on (same_role e.senior a) (ok n e) c in
          (record { from = e.senior; to = e.junior; is_open = true }, open_arc ok es n e is on, refl, is_same_role e.senior a from, on_from e h)
      step on_from e is false c h = cc

      by : ((e : HierEdge) → leads_to ok es e.junior ns b ≡ true → LeadsAlong (role_arcs ok es) e.junior ns b) → (o : Option HierEdge) → item_at es n ≡ o
          → after ns b (stepped a n o) ≡ true → LeadsAlong (role_arcs ok es) a (n ∷ ns) b
      by on_from (Some e) is h = step on_from e is (same_role e.senior a && ok n e) refl h
      by on_from None is h = cc

-- where some walk leads to the role, there is a least one
pub some_walk : (es : List HierEdge) (ok : ℕ → HierEdge → Bool) (from : RoleId → Bool) (a : RoleId) (ns : List ℕ) (r : RoleId) → (nat_lt a.0 1_000 && from a) ≡ true
    → leads_to ok es a ns r ≡ true → is_none (least_role_walk es ok from (same_role r)) ≡ false
some_walk es ok from a ns r h on = over all_roles refl (both_on (nat_lt a.0 1_000) (from a) h)
  where
    there : (starts : List RoleId) (j : ℕ) → item_at starts j ≡ Some a → (o : Option (Path RoleId)) → MatchOption o (NoWalk (role_arcs ok es) (same_role r) starts) (IsLeastWalk (role_arcs ok es) (same_role r) starts) → is_none (role_walk o) ≡ false
    there starts j is (Some q) least = refl
    there starts j is None none = absurd (none j (record { start = a; arcs = ns }) (record { end = r; from_start = is; leads = leads ok es a ns r on; reaches = same_role_of r r refl }))

    over : (rs : List RoleId) → map number rs ≡ range_with_len 0 1_000 → (nat_lt a.0 1_000 ≡ true) × (from a ≡ true)
        → is_none (role_walk (least_walk same_role (role_arcs ok es) (same_role r) (filter from rs))) ≡ false
    over rs e (low, on) =
        let (j, is) = kept from rs a.0 a (role_stands rs 1_000 e a (ltb-true _ _ low)) on in
        there (filter from rs) j is _ (least_walk_is same_role tells_apart (role_arcs ok es) (same_role r) (filter from rs))
