-- The names of a walk's roles tell the walk.
use Rattle.std.proofs.Common.{◌≡◌, ℕ, zero, suc, ◌<◌, Bool, true, false, not, ◌&&◌, ◌||◌, List, [], ◌∷◌, ◌++◌, length, get_or, flat_map, Option, Some, None, refl, sym, ◌∙◌, ap, subst, arith, append_assoc, length-append}
use Rattle.std.specs.Prelude.{nat_eq, nat_le, nat_lt, slice_get}
use Rattle.std.specs.List.{list_all, list_any}
use Rattle.std.proofs.lemmas.Bool.{false≢true, ltb-true}
use Rattle.std.proofs.lemmas.Bool.Decides.{Decides-eqb}
use Rattle.std.proofs.lemmas.Option.{slice_get_within, get_or_from_slice_get, slice_get-get_or}
use Rattle.gt_base.specs.Names.{is_name_byte}
use Rattle.gt_base.specs.Held.{RoleWalk}
use Rattle.gt_base.specs.declared.events.RoleId.{RoleId}
use Rattle.gt_base.specs.declared.policies.HierEdge.{HierEdge}
use Rattle.gtrbac_model.specs.WholePolicy.{is_edge, joins_same, joined_twice}
use Rattle.policy_lines.proofs.Truths.{both, and_true, some_is}
use Rattle.policy_book.proofs.Places.{none_at, all_at}
use Rattle.policy_book.proofs.Back.{role_back, role_named}
use Rattle.policy_words.specs.Naming.{NamedPolicy, role_of, role_name}
use Rattle.policy_words.specs.Valid.{IsWellFormed}
use Rattle.request_text.specs.Replies.{arrow, junior_text, junior_name, edge_text, walk_text}
use Rattle.request_text.specs.Named.{has_edge, has_walk}
use Rattle.request_text.specs.Walks.{step_name}
use Rattle.request_text.specs.Kinds.{Follows}
use Rattle.request_text.proofs.Walks.{walk_is_led}
use Rattle.request_text.proofs.Cuts.{lacks, cut, lacks_name}

-- no two edges join the same roles

neither : (a b : Bool) → (a || b) ≡ false → (a ≡ false) × (b ≡ false)
neither false b h = (refl, h)
neither true b h = absurd (false≢true (sym h))

joins_turned : (e f : HierEdge) → joins_same e f ≡ true → joins_same f e ≡ true
joins_turned e f h =
    let parts = both (nat_eq e.senior.0 f.senior.0) (nat_eq e.junior.0 f.junior.0) h in
    and_true (nat_eq f.senior.0 e.senior.0) (nat_eq f.junior.0 e.junior.0) ((Decides-eqb f.senior.0 e.senior.0).1 (sym ((Decides-eqb e.senior.0 f.senior.0).0 parts.0)))
    ((Decides-eqb f.junior.0 e.junior.0).1 (sym ((Decides-eqb e.junior.0 f.junior.0).0 parts.1)))

one_place : (es : List HierEdge) (i k : ℕ) (d : HierEdge) → joined_twice es ≡ false → i < length es → k < length es → joins_same (get_or es i d) (get_or es k d) ≡ true → i ≡ k
one_place [] i k d once il kl h = absurd (omega (arith, il))
one_place (x ∷ xs) zero zero d once il kl h = refl
one_place (x ∷ xs) zero (suc k) d once il kl h =
    absurd (false≢true (sym (none_at (joins_same x) xs k d (neither (list_any (joins_same x) xs) (joined_twice xs) once).0 (omega (arith, kl))) ∙ h))
one_place (x ∷ xs) (suc i) zero d once il kl h =
    absurd (false≢true (sym (none_at (joins_same x) xs i d (neither (list_any (joins_same x) xs) (joined_twice xs) once).0 (omega (arith, il))) ∙ joins_turned (get_or xs i d) x h))
one_place (x ∷ xs) (suc i) (suc k) d once il kl h =
    ap (λ n. suc n) (one_place xs i k d (neither (list_any (joins_same x) xs) (joined_twice xs) once).1 (omega (arith, il)) (omega (arith, kl)) h)

module _ (np : NamedPolicy) (good : IsWellFormed np) where
  edges_good : (list_all (is_edge np.policy) np.policy.edges ≡ true) × (joined_twice np.policy.edges ≡ false)
  edges_good =
      let outer = both (nat_le (length np.policy.edges) 4_000 && list_all (is_edge np.policy) np.policy.edges) (not (joined_twice np.policy.edges)) good.policy.edges in
      ((both (nat_le (length np.policy.edges) 4_000) (list_all (is_edge np.policy) np.policy.edges) outer.0).1, negated (joined_twice np.policy.edges) outer.1)
    where
      negated : (b : Bool) → not b ≡ true → b ≡ false
      negated true h = absurd (false≢true h)
      negated false h = refl

  edge_good : (n : ℕ) (e : HierEdge) → slice_get np.policy.edges n ≡ Some e → is_edge np.policy e ≡ true
  edge_good n e at =
      ap (is_edge np.policy) (sym (get_or_from_slice_get np.policy.edges n e e at)) ∙ all_at (is_edge np.policy) np.policy.edges n e edges_good.0 (slice_get_within np.policy.edges n e at)

  pub ends_in : (n : ℕ) (e : HierEdge) → slice_get np.policy.edges n ≡ Some e → (nat_lt e.senior.0 np.policy.roles ≡ true) × (nat_lt e.junior.0 np.policy.roles ≡ true)
  ends_in n e at = both (nat_lt e.senior.0 np.policy.roles) (nat_lt e.junior.0 np.policy.roles) (both (nat_lt e.senior.0 np.policy.roles && nat_lt e.junior.0 np.policy.roles) (e.inherits || e.activates) (edge_good n e at)).0

  one_edge : (n m : ℕ) (e f : HierEdge) → slice_get np.policy.edges n ≡ Some e → slice_get np.policy.edges m ≡ Some f → e.senior ≡ f.senior → e.junior ≡ f.junior → n ≡ m
  one_edge n m e f at bt senior junior =
      let es = np.policy.edges in
      let e_is : get_or es n e ≡ e = get_or_from_slice_get es n e e at in
      let f_is : get_or es m e ≡ f = get_or_from_slice_get es m f e bt in
      let same : joins_same e f ≡ true = and_true (nat_eq e.senior.0 f.senior.0) (nat_eq e.junior.0 f.junior.0) ((Decides-eqb e.senior.0 f.senior.0).1 (ap (λ (r : RoleId). r.0) senior)) ((Decides-eqb e.junior.0 f.junior.0).1 (ap (λ (r : RoleId). r.0) junior)) in
      one_place es n m e edges_good.1 (slice_get_within es n e at) (slice_get_within es m f bt) (ap (λ g. joins_same g (get_or es m e)) e_is ∙ ap (λ g. joins_same e g) f_is ∙ same)

  -- names tell roles

  one_role : (a b : RoleId) → nat_lt a.0 np.policy.roles ≡ true → nat_lt b.0 np.policy.roles ≡ true → role_name np.names a ≡ role_name np.names b → a ≡ b
  one_role a b h k e = some_is (sym (role_back np good a h) ∙ ap (role_of np.names) e ∙ role_back np good b k)

  pub role_lacks : (c : ℕ) (a : RoleId) → is_name_byte c ≡ false → nat_lt a.0 np.policy.roles ≡ true → lacks c (role_name np.names a) ≡ true
  role_lacks c a free h = lacks_name c (role_name np.names a) free (role_named np good a h)

  junior_is : (n : ℕ) (e : HierEdge) → slice_get np.policy.edges n ≡ Some e → junior_text np n ≡ role_name np.names e.junior
  junior_is n e at = ap (λ (o : Option HierEdge). elim o as (λ _. List ℕ) [ Some e ↦ junior_name np e | None ↦ [] ]) at

  -- a walk's juniors, each with the sign behind it
  abbrev after : List ℕ → List ℕ
  after [] = []
  after (n ∷ ns) = junior_text np n ++ 62 ∷ after ns

  steps_after : (ns : List ℕ) → flat_map (step_name np) ns ++ 62 ∷ [] ≡ 62 ∷ after ns
  steps_after [] = refl
  steps_after (n ∷ ns) = ap (λ t. 62 ∷ t) (append_assoc (junior_text np n) (flat_map (step_name np) ns) (62 ∷ []) ∙ ap (λ t. junior_text np n ++ t) (steps_after ns))

  walk_after : (w : RoleWalk) → walk_text np w ++ 62 ∷ [] ≡ role_name np.names w.start ++ 62 ∷ after w.edges
  walk_after w =
      ap (λ t. t ++ 62 ∷ []) (walk_is_led np w) ∙ append_assoc (role_name np.names w.start) (flat_map (step_name np) w.edges) (62 ∷ []) ∙ ap (λ t. role_name np.names w.start ++ t) (steps_after w.edges)

  no_less : (n : ℕ) (ns : List ℕ) → [] ≡ junior_text np n ++ 62 ∷ after ns → ⊥
  no_less n ns e = omega (arith, ap (λ (t : List ℕ). length t) e, length-append (junior_text np n) (62 ∷ after ns))

  after_tells : (a : RoleId) (ns ms : List ℕ) → Follows np.policy a ns → Follows np.policy a ms → after ns ≡ after ms → ns ≡ ms
  after_tells a [] [] f g e = refl
  after_tells a [] (m ∷ ms) f g e = absurd (no_less m ms e)
  after_tells a (n ∷ ns) [] f g e = absurd (no_less n ns (sym e))
  after_tells a (n ∷ ns) (m ∷ ms) (x, at, from, more) (y, bt, start, rest) e =
      let jn = junior_is n x at in
      let jm = junior_is m y bt in
      let xr = (ends_in n x at).1 in
      let yr = (ends_in m y bt).1 in
      let parts = cut 62 (role_name np.names x.junior) (role_name np.names y.junior) (after ns) (after ms) (role_lacks 62 x.junior refl xr) (role_lacks 62 y.junior refl yr)
      (sym (ap (λ t. t ++ 62 ∷ after ns) jn) ∙ e ∙ ap (λ t. t ++ 62 ∷ after ms) jm) in
      let juniors : x.junior ≡ y.junior = one_role x.junior y.junior xr yr parts.0 in
      let here : n ≡ m = one_edge n m x y at bt (from ∙ sym start) juniors in
      let there : ns ≡ ms = after_tells x.junior ns ms more (subst (λ r. Follows np.policy r ms) (sym juniors) rest) parts.1 in
      ap (λ n. n ∷ ns) here ∙ ap (λ ns. m ∷ ns) there

  pub walk_tells : (w v : RoleWalk) → has_walk np.policy w ≡ true → has_walk np.policy v ≡ true → Follows np.policy w.start w.edges → Follows np.policy v.start v.edges → walk_text np w ≡ walk_text np v → w ≡ v
  walk_tells w v wh vh wf vf e =
      let wr = (both (nat_lt w.start.0 np.policy.roles) (list_all (has_edge np.policy) w.edges) wh).0 in
      let vr = (both (nat_lt v.start.0 np.policy.roles) (list_all (has_edge np.policy) v.edges) vh).0 in
      let parts = cut 62 (role_name np.names w.start) (role_name np.names v.start) (after w.edges) (after v.edges) (role_lacks 62 w.start refl wr) (role_lacks 62 v.start refl vr)
      (sym (walk_after w) ∙ ap (λ t. t ++ 62 ∷ []) e ∙ walk_after v) in
      let starts : w.start ≡ v.start = one_role w.start v.start wr vr parts.0 in
      let edges : w.edges ≡ v.edges = after_tells w.start w.edges v.edges wf (subst (λ r. Follows np.policy r v.edges) (sym starts) vf) parts.1 in
      ap (λ (s : RoleId). record { start = s; edges = w.edges }) starts ∙ ap (λ es. record { start = v.start; edges = es }) edges

  -- the two roles of an edge tell the edge

  some_edge : HierEdge
  some_edge = record { senior = record { 0 = 0 }; junior = record { 0 = 0 }; inherits = true; activates = true; strong = true }

  edge_there : (n : ℕ) → has_edge np.policy n ≡ true → (e : HierEdge) × (slice_get np.policy.edges n ≡ Some e)
  edge_there n h = (get_or np.policy.edges n some_edge, slice_get-get_or np.policy.edges n some_edge (ltb-true n (length np.policy.edges) h))

  edge_is : (n : ℕ) (e : HierEdge) → slice_get np.policy.edges n ≡ Some e → edge_text np n ≡ role_name np.names e.senior ++ 62 ∷ role_name np.names e.junior
  edge_is n e at =
      ap (λ (o : Option HierEdge). elim o as (λ _. List ℕ) [ Some e ↦ role_name np.names e.senior ++ arrow ++ junior_name np e | None ↦ [] ]) at
      ∙ append_assoc (role_name np.names e.senior) arrow (role_name np.names e.junior)

  pub edge_tells : (n m : ℕ) → has_edge np.policy n ≡ true → has_edge np.policy m ≡ true → edge_text np n ≡ edge_text np m → n ≡ m
  edge_tells n m h k e =
      let (x, at) = edge_there n h in
      let (y, bt) = edge_there m k in
      let xr = ends_in n x at in
      let yr = ends_in m y bt in
      let parts = cut 62 (role_name np.names x.senior) (role_name np.names y.senior) (role_name np.names x.junior) (role_name np.names y.junior) (role_lacks 62 x.senior refl xr.0) (role_lacks 62 y.senior refl yr.0)
      (sym (edge_is n x at) ∙ e ∙ edge_is m y bt) in
      one_edge n m x y at bt (one_role x.senior y.senior xr.0 yr.0 parts.0) (one_role x.junior y.junior xr.1 yr.1 parts.1)
