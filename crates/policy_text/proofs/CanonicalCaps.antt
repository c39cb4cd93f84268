-- The lines of caps make the caps again.
use Rattle.std.proofs.Common.{◌≡◌, ℕ, zero, suc, ◌+◌, ◌≤◌, ◌<◌, Bool, true, false, not, ◌&&◌, List, [], ◌∷◌, ◌++◌, map, length, Option, Some, None, refl, sym, ap, ◌∙◌, arith, append_assoc}
use Rattle.std.specs.Prelude.{bytes_eq}
use Rattle.std.specs.List.{list_all, list_any, filter_map, cons_option, flat_map, enumerate_from}
use Rattle.std.proofs.lemmas.Bool.{false_from_ne_true, not-true, or_parts, or_from}
use Rattle.std.proofs.lemmas.List.{length-append}
use Rattle.std.proofs.lemmas.List.Folds.{list_any-append}
use Rattle.gt_base.specs.declared.events.RoleId.{RoleId}
use Rattle.gt_base.specs.declared.policies.Caps.{Caps}
use Rattle.gtrbac_model.proofs.Elements.{both_true, and_true, all_elim}
use Rattle.policy_words.specs.declared.sayings.CapKind.{CapKind}
use Rattle.policy_words.specs.CapKinds.{cap_kinds, same_cap_kind, no_caps, cap_of, with_cap}
use Rattle.policy_words.proofs.CapKinds.{with_some, with_kinds, all_set}
use Rattle.policy_words.specs.Sayings.{SaidView, cap}
use Rattle.policy_words.specs.Naming.{Names, role_of, role_name}
use Rattle.policy_words.specs.Making.{DraftView, adding, drafted, changed_at, capped, with_caps_said}
use Rattle.policy_words.specs.Canonical.{cap_line, kind_line, cap_lines}
use Rattle.policy_book.proofs.Lists.{repeats, bytes_same, same_bytes, some_same}
use Rattle.policy_book.proofs.Clashes.{clashes}
use Rattle.policy_book.proofs.Mapped.{all_join, all_flat_map}
use Rattle.policy_text.proofs.Sections.{apart_join}

-- the caps after some lines
abbrev pub caps_after : Names → List SaidView → List Caps → List Caps
caps_after ns [] cs = cs
caps_after ns (x ∷ xs) cs = caps_after ns xs (with_caps_said ns x cs)

pub drafted_caps : (ns : Names) (d : DraftView) (xs : List SaidView) → (drafted ns d xs).caps ≡ caps_after ns xs d.caps
drafted_caps ns d [] = refl
drafted_caps ns d (x ∷ xs) = drafted_caps ns (adding ns d x) xs

abbrev pub cap_in : SaidView → Option SaidView
cap_in (cap kind r n) = Some (cap kind r n)
cap_in _ = None

-- only lines of caps change them
pub caps_kept : (ns : Names) (xs : List SaidView) (cs : List Caps) → caps_after ns xs cs ≡ caps_after ns (filter_map cap_in xs) cs
caps_kept ns [] cs = refl
caps_kept ns (x ∷ xs) cs = caps_kept ns xs (with_caps_said ns x cs) ∙ by x
  where
    by : (y : SaidView) → caps_after ns (filter_map cap_in xs) (with_caps_said ns y cs) ≡ caps_after ns (cons_option (cap_in y) (filter_map cap_in xs)) cs
    by (cap kind r n) = refl
    by _ = refl

after_join : (ns : Names) (xs ys : List SaidView) (cs : List Caps) → caps_after ns (xs ++ ys) cs ≡ caps_after ns ys (caps_after ns xs cs)
after_join ns [] ys cs = refl
after_join ns (x ∷ xs) ys cs = after_join ns xs ys (with_caps_said ns x cs)

changed_end : {A : Type 0} (f : A → A) (front : List A) (x : A) (rest : List A) (n : ℕ) → length front ≡ n → changed_at f n (front ++ x ∷ rest) ≡ front ++ f x ∷ rest
changed_end f [] x rest zero e = refl
changed_end f [] x rest (suc n) e = absurd (omega arith)
changed_end f (y ∷ front) x rest zero e = absurd (omega arith)
changed_end f (y ∷ front) x rest (suc n) e = ap (λ zs. y ∷ zs) (changed_end f front x rest n (omega arith))

-- lines of one role change its caps
module _ (ns : Names) (r : List ℕ) (n : ℕ) (found : role_of ns r ≡ Some (record { 0 = n })) (front rest : List Caps) (place : length front ≡ n) where
  one_line : (kind : CapKind) (o : Option ℕ) (c : Caps) → caps_after ns (cap_line ns kind r o) (front ++ c ∷ rest) ≡ front ++ with_some kind o c ∷ rest
  one_line kind None c = refl
  one_line kind (Some m) c = ap (λ q. capped ns kind m q (front ++ c ∷ rest)) found ∙ changed_end (with_cap kind m) front c rest n place

  kind_lines : (ks : List CapKind) (c b : Caps) → caps_after ns (flat_map (λ k. cap_line ns k r (cap_of k c)) ks) (front ++ b ∷ rest) ≡ front ++ with_kinds ks c b ∷ rest
  kind_lines [] c b = refl
  kind_lines (k ∷ ks) c b =
      after_join ns (cap_line ns k r (cap_of k c)) (flat_map (λ k. cap_line ns k r (cap_of k c)) ks) (front ++ b ∷ rest)
      ∙ ap (λ cs. caps_after ns (flat_map (λ k. cap_line ns k r (cap_of k c)) ks) cs) (one_line k (cap_of k c) b) ∙ kind_lines ks c (with_some k (cap_of k c) b)

  role_lines : (c : Caps) → caps_after ns (flat_map (λ k. cap_line ns k r (cap_of k c)) cap_kinds) (front ++ no_caps ∷ rest) ≡ front ++ c ∷ rest
  role_lines c = kind_lines cap_kinds c no_caps ∙ ap (λ z. front ++ z ∷ rest) (all_set c)

-- the lines of all roles make the caps
module _ (ns : Names) (found : (n : ℕ) → n < length ns.roles → role_of ns (role_name ns (record { 0 = n })) ≡ Some (record { 0 = n })) where
  pub caps_back : (front rest : List Caps) (blank : List (List ℕ)) (n : ℕ) → length front ≡ n → length rest ≡ length blank → n + length rest ≤ length ns.roles
      → caps_after ns (flat_map (cap_lines ns) (enumerate_from n rest)) (front ++ map (λ _. no_caps) blank) ≡ front ++ rest
  caps_back front [] [] n e f le = refl
  caps_back front [] (b ∷ blank) n e f le = absurd (omega arith)
  caps_back front (c ∷ rest) [] n e f le = absurd (omega arith)
  caps_back front (c ∷ rest) (b ∷ blank) n e f le =
      after_join ns (cap_lines ns (n, c)) (flat_map (cap_lines ns) (enumerate_from (n + 1) rest)) (front ++ no_caps ∷ map (λ _. no_caps) blank)
      ∙ ap (λ cs. caps_after ns (flat_map (cap_lines ns) (enumerate_from (n + 1) rest)) cs)
      (role_lines ns (role_name ns (record { 0 = n })) n (found n (omega arith)) front (map (λ _. no_caps) blank) e c ∙ sym (append_assoc front (c ∷ []) (map (λ _. no_caps) blank)))
      ∙ caps_back (front ++ c ∷ []) rest blank (n + 1) (length-append front (c ∷ []) ∙ ap (λ z. z + 1) e) (omega arith) (omega arith)
      ∙ append_assoc front (c ∷ []) rest

-- lines of caps do not clash

never : (a : Bool) → (a && false) ≡ false
never true = refl
never false = refl

-- nor does one with lines of other kinds of its role
beside_kinds : (ns : Names) (r : List ℕ) (c : Caps) (k : CapKind) (n : ℕ) (ks : List CapKind) → list_any (λ l. same_cap_kind l k) ks ≡ false
    → list_any (clashes (cap k r n)) (flat_map (λ l. cap_line ns l r (cap_of l c)) ks) ≡ false
beside_kinds ns r c k n [] h = refl
beside_kinds ns r c k n (l ∷ ks) h =
    let parts = or_parts (same_cap_kind l k) _ h in
    list_any-append (clashes (cap k r n)) (cap_line ns l r (cap_of l c)) (flat_map (λ l. cap_line ns l r (cap_of l c)) ks)
    ∙ or_from _ _ (by (cap_of l c) parts.0) (beside_kinds ns r c k n ks parts.1)
  where
    by : (o : Option ℕ) → same_cap_kind l k ≡ false → list_any (clashes (cap k r n)) (cap_line ns l r o) ≡ false
    by None e = refl
    by (Some m) e = or_from (same_cap_kind l k && bytes_eq r r) false (ap (λ b. b && bytes_eq r r) e) refl

block_apart : (ns : Names) (r : List ℕ) (c : Caps) (ks : List CapKind) → repeats (λ k l. same_cap_kind l k) ks ≡ false
    → repeats clashes (flat_map (λ l. cap_line ns l r (cap_of l c)) ks) ≡ false
block_apart ns r c [] h = refl
block_apart ns r c (k ∷ ks) h =
    let parts = or_parts (list_any (λ l. same_cap_kind l k) ks) _ h in
    by (cap_of k c) parts.0 (block_apart ns r c ks parts.1)
  where
    by : (o : Option ℕ) → list_any (λ l. same_cap_kind l k) ks ≡ false → repeats clashes (flat_map (λ l. cap_line ns l r (cap_of l c)) ks) ≡ false
        → repeats clashes (cap_line ns k r o ++ flat_map (λ l. cap_line ns l r (cap_of l c)) ks) ≡ false
    by None e apart = apart
    by (Some n) e apart = or_from (list_any (clashes (cap k r n)) (flat_map (λ l. cap_line ns l r (cap_of l c)) ks)) _ (beside_kinds ns r c k n ks e) apart

-- a cap of this role, and of another
abbrev is_cap_of : List ℕ → SaidView → Bool
is_cap_of r (cap kind s n) = bytes_eq s r
is_cap_of r _ = false

abbrev is_cap_beside : List ℕ → SaidView → Bool
is_cap_beside r (cap kind s n) = not (bytes_eq s r)
is_cap_beside r _ = false

caps_apart : (r : List ℕ) (x y : SaidView) → is_cap_of r x ≡ true → is_cap_beside r y ≡ true → clashes x y ≡ false
caps_apart r (cap k s n) (cap l t m) e f = ap (λ b. same_cap_kind l k && b) other ∙ never (same_cap_kind l k)
  where
    other : bytes_eq t s ≡ false
    other = ap (bytes_eq t) (bytes_same s r e) ∙ not-true _ f
caps_apart r (cap k s n) _ e f = cc
caps_apart r _ y e f = cc

line_all : (ns : Names) (p : SaidView → Bool) (kind : CapKind) (r : List ℕ) (o : Option ℕ) → ((n : ℕ) → o ≡ Some n → p (cap kind r n) ≡ true) → list_all p (cap_line ns kind r o) ≡ true
line_all ns p kind r None on = refl
line_all ns p kind r (Some n) on = and_true _ _ (on n refl) refl

-- a test of all lines of a role
pub lines_all : (ns : Names) (p : SaidView → Bool) (n : ℕ) (c : Caps) → ((kind : CapKind) (o : Option ℕ) → list_all p (cap_line ns kind (role_name ns (record { 0 = n })) o) ≡ true) → list_all p (cap_lines ns (n, c)) ≡ true
lines_all ns p n c on = all_flat_map (kind_line ns (n, c)) p (λ _. true) (λ k _. on k (cap_of k c)) cap_kinds refl

module _ (ns : Names) (found : (n : ℕ) → n < length ns.roles → role_of ns (role_name ns (record { 0 = n })) ≡ Some (record { 0 = n })) where
  other_name : (n m : ℕ) → n < m → m < length ns.roles → bytes_eq (role_name ns (record { 0 = m })) (role_name ns (record { 0 = n })) ≡ false
  other_name n m lt le =
      false_from_ne_true _
      (λ e.
      let same : Some (let r : RoleId = record { 0 = m } in r) ≡ Some (let r : RoleId = record { 0 = n } in r) = sym (found m le) ∙ ap (role_of ns) (bytes_same _ _ e) ∙ found n (omega arith) in
      let number : m ≡ n = ap (λ r. r.0) (some_same _ _ same) in
      omega (arith, number, lt))

  beside : (n m : ℕ) (cs : List Caps) → n < m → m + length cs ≤ length ns.roles → list_all (is_cap_beside (role_name ns (record { 0 = n }))) (flat_map (cap_lines ns) (enumerate_from m cs)) ≡ true
  beside n m [] lt le = refl
  beside n m (c ∷ cs) lt le =
      all_join (is_cap_beside (role_name ns (record { 0 = n }))) (cap_lines ns (m, c)) _
      (lines_all ns (is_cap_beside (role_name ns (record { 0 = n }))) m c
      (λ kind o. line_all ns (is_cap_beside (role_name ns (record { 0 = n }))) kind (role_name ns (record { 0 = m })) o (λ v _. not_from_false' _ (other_name n m lt (omega arith)))))
      (beside n (m + 1) cs (omega arith) (omega arith))
    where
      not_from_false' : (b : Bool) → b ≡ false → not b ≡ true
      not_from_false' b e = ap not e

  of_role : (n : ℕ) (c : Caps) → list_all (is_cap_of (role_name ns (record { 0 = n }))) (cap_lines ns (n, c)) ≡ true
  of_role n c = lines_all ns (is_cap_of (role_name ns (record { 0 = n }))) n c (λ kind o. line_all ns (is_cap_of (role_name ns (record { 0 = n }))) kind (role_name ns (record { 0 = n })) o (λ v _. same_bytes (role_name ns (record { 0 = n })) (role_name ns (record { 0 = n })) refl))

  none_beside : (r : List ℕ) (x : SaidView) → is_cap_of r x ≡ true → (ys : List SaidView) → list_all (is_cap_beside r) ys ≡ true → list_any (clashes x) ys ≡ false
  none_beside r x e [] h = refl
  none_beside r x e (y ∷ ys) h = let parts = both_true (is_cap_beside r y) _ h in or_from _ _ (caps_apart r x y e parts.0) (none_beside r x e ys parts.1)

  pub all_caps_apart : (n : ℕ) (cs : List Caps) → n + length cs ≤ length ns.roles → repeats clashes (flat_map (cap_lines ns) (enumerate_from n cs)) ≡ false
  all_caps_apart n [] le = refl
  all_caps_apart n (c ∷ cs) le =
      let r : List ℕ = role_name ns (record { 0 = n }) in
      apart_join clashes (cap_lines ns (n, c)) (flat_map (cap_lines ns) (enumerate_from (n + 1) cs)) (block_apart ns r c cap_kinds refl) (all_caps_apart (n + 1) cs (omega arith))
      (λ x m. none_beside r x (all_elim (is_cap_of r) (cap_lines ns (n, c)) x (of_role n c) m) (flat_map (cap_lines ns) (enumerate_from (n + 1) cs)) (beside n (n + 1) cs (omega arith) (omega arith)))
