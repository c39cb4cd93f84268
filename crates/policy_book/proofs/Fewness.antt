-- How many edges lines make, and where they end.
use Rattle.std.proofs.Common.{◌≡◌, ℕ, ◌+◌, ◌<◌, ◌≤◌, List, [], ◌∷◌, ◌++◌, length, length-append, Option, Some, None, refl, sym, subst, ◌∙◌, zero, suc, arith}
use Rattle.std.specs.Prelude.{bytes_eq, IfSome}
use Rattle.std.proofs.lemmas.List.Quantifiers.{position-Some}
use Rattle.gt_base.specs.Names.{place_of}
use Rattle.gt_base.specs.declared.policies.HierEdge.{HierEdge}
use Rattle.gtrbac_model.specs.Graph.{item_at}
use Rattle.hybrid_hierarchy.specs.Nets.{HasRoles, AreWithin}
use Rattle.policy_words.specs.Sayings.{SaidView, version, role, user, perm, period, limit, edge, cap, admin, opening, entry, trigger}
use Rattle.policy_words.specs.Reading.{Numbered}
use Rattle.policy_words.specs.Naming.{Names}
use Rattle.policy_words.specs.Making.{DraftView, with_item, edge_said, adding, drafted}
use Rattle.policy_words.specs.LinesTogether.{said_in, edges_at}
use Rattle.std.specs.List.{cons_option}

place_in : (names : List (List ℕ)) (n : List ℕ) (k : ℕ) → place_of names n ≡ Some k → k < length names
place_in names n k h = (position-Some (bytes_eq n) names k [] h).0

edge_within : (ns : Names) (s : SaidView) → IfSome (edge_said ns s) (HasRoles (length ns.roles))
edge_within ns (edge kind strong s j) = go (place_of ns.roles s) (place_of ns.roles j) refl refl
  where
    go : (a b : Option ℕ) → place_of ns.roles s ≡ a → place_of ns.roles j ≡ b → IfSome (edge_said ns (edge kind strong s j)) (HasRoles (length ns.roles))
    go (Some a) (Some b) p q = rw (p, q) (record { senior_in = place_in ns.roles s a p; junior_in = place_in ns.roles j b q })
    go (Some a) None p q = rw (p, q) tt
    go None _ p q = rw p tt
edge_within ns (version n) = tt
edge_within ns (role n) = tt
edge_within ns (user n) = tt
edge_within ns (perm n) = tt
edge_within ns (period n first last e) = tt
edge_within ns (limit n prio c most during) = tt
edge_within ns (cap kind r n) = tt
edge_within ns (admin u) = tt
edge_within ns (opening f) = tt
edge_within ns (entry f p h) = tt
edge_within ns (trigger items h d) = tt

pushed_within : (roles : ℕ) (es : List HierEdge) (e : HierEdge) → AreWithin roles es → HasRoles roles e → AreWithin roles (es ++ e ∷ [])
pushed_within roles [] e within has zero f h = let same : e ≡ f = cc in subst (HasRoles roles) same has
pushed_within roles [] e within has (suc n) f h = cc
pushed_within roles (x ∷ es) e within has zero f h = within 0 f h
pushed_within roles (x ∷ es) e within has (suc n) f h = pushed_within roles es e (λ m g k. within (suc m) g k) has n f h

with_edge_within : (roles : ℕ) (es : List HierEdge) (o : Option HierEdge) → AreWithin roles es → IfSome o (HasRoles roles) → AreWithin roles (with_item o es)
with_edge_within roles es None within has = within
with_edge_within roles es (Some e) within has = pushed_within roles es e within has

within_after : (ns : Names) (d : DraftView) (ss : List (Numbered SaidView)) → AreWithin (length ns.roles) d.edges → AreWithin (length ns.roles) (drafted ns d (said_in ss)).edges
within_after ns d [] within = within
within_after ns d (s ∷ ss) within =
    within_after ns (adding ns d s.it) ss (with_edge_within (length ns.roles) d.edges (edge_said ns s.it) within (edge_within ns s.it))

pub edges_within : (ns : Names) (d : DraftView) (ss : List (Numbered SaidView)) → d.edges ≡ [] → AreWithin (length ns.roles) (drafted ns d (said_in ss)).edges
edges_within ns d ss none = within_after ns d ss (subst (AreWithin (length ns.roles)) (sym none) (λ n e h. cc))

with_item_few : {A : Type 0} (xs : List A) (o : Option A) → length (with_item o xs) ≤ length xs + 1
with_item_few xs None = omega arith
with_item_few xs (Some x) = omega (arith, length-append xs (x ∷ []))

pub edges_few : (ns : Names) (d : DraftView) (ss : List (Numbered SaidView)) → length (drafted ns d (said_in ss)).edges ≤ length d.edges + length ss
edges_few ns d [] = omega arith
edges_few ns d (s ∷ ss) =
    let more = edges_few ns (adding ns d s.it) ss in
    let one = with_item_few d.edges (edge_said ns s.it) in
    omega (arith, more, one)

-- edges that are picked by number end where the others do
pub picked_within : (roles : ℕ) (es : List HierEdge) (ns : List ℕ) → AreWithin roles es → AreWithin roles (edges_at es ns)
picked_within roles es [] within n e h = cc
picked_within roles es (m ∷ ns) within n e h = go (item_at es m) refl n (picked_within roles es ns within) h
  where
    go : (o : Option HierEdge) → item_at es m ≡ o → (k : ℕ) → AreWithin roles (edges_at es ns) → item_at (cons_option o (edges_at es ns)) k ≡ Some e → HasRoles roles e
    go None q k more p = more k e p
    go (Some x) q zero more p = within m e (q ∙ p)
    go (Some x) q (suc k) more p = more k e p
