-- The canonical text is its sections one after another.
use Rattle.std.proofs.Common.{◌≡◌, ℕ, Bool, true, false, cond, List, [], ◌∷◌, ◌++◌, map, filter, flat_map, refl, sym, ap, ◌∙◌, append_assoc}
use Rattle.std.specs.Prelude.{Result, Ok, Err, OnOk}
use Rattle.std.proofs.lemmas.Grind.{flat_map-append}
use Rattle.std.proofs.lemmas.List.Folds.{flat_map-map}
use Rattle.gt_base.specs.Sets.{members}
use Rattle.gt_base.specs.declared.events.Fluent.{Fluent}
use Rattle.gt_base.specs.declared.policies.Caps.{Caps}
use Rattle.gt_text.specs.Words.{spaced}
use Rattle.policy_words.specs.declared.sayings.CapKind.{CapKind}
use Rattle.policy_words.specs.CapKinds.{cap_kinds}
use Rattle.policy_words.specs.Sayings.{SaidView, version, role, user, perm, said_words}
use Rattle.policy_words.specs.Naming.{Names, NamedPolicy}
use Rattle.policy_words.specs.declared.parts.Sort.{Sort}
use Rattle.policy_words.specs.declared.parts.Sort.TheVariants.{Enabling, Assigning, Granting, Arming, Linking}
use Rattle.policy_words.specs.Sorts.{has_sort}
use Rattle.policy_words.specs.Canonical.{canonical_lines, canonical_text, period_line, limit_line, edge_line, kind_line, cap_lines, opening_lines, is_version_one, version_of}
use Rattle.policy_text.specs.Sections.{line_text, written, lines_by, numbered, kind_text, caps_text, admin_line, opening_line, opening_text, entry_line, trigger_line, named_text, timed_text, ranked_text, opened_text, ruled_text}

joined : (a b : List SaidView) (s t : List ℕ) → written a ≡ s → written b ≡ t → written (a ++ b) ≡ s ++ t
joined a b s t e f = flat_map-append line_text a b ∙ (λ i. e i ++ f i)

by_line : {A : Type 0} (f : A → SaidView) (xs : List A) → written (map f xs) ≡ lines_by f xs
by_line f xs = flat_map-map line_text f xs

caps_of : (ns : Names) (n : ℕ) (c : Caps) → written (cap_lines ns (n, c)) ≡ caps_text ns (n, c)
caps_of ns n c = by cap_kinds
  where
    by : (ks : List CapKind) → written (flat_map (kind_line ns (n, c)) ks) ≡ flat_map (kind_text ns (n, c)) ks
    by [] = refl
    by (k ∷ ks) = joined (kind_line ns (n, c) k) (flat_map (kind_line ns (n, c)) ks) _ _ refl (by ks)

all_caps : (ns : Names) (xs : List (ℕ × Caps)) → written (flat_map (cap_lines ns) xs) ≡ flat_map (caps_text ns) xs
all_caps ns [] = refl
all_caps ns ((n, c) ∷ xs) = joined (cap_lines ns (n, c)) (flat_map (cap_lines ns) xs) _ _ (caps_of ns n c) (all_caps ns xs)

module _ (ns : Names) where
  one_more : (b : Bool) (f : Fluent) (fs : List Fluent) (t : List ℕ) → written (map (opening_line ns) fs) ≡ t
      → written (map (opening_line ns) (cond b (f ∷ fs) fs)) ≡ cond b (line_text (opening_line ns f)) [] ++ t
  one_more true f fs t e = ap (λ s. line_text (opening_line ns f) ++ s) e
  one_more false f fs t e = e

  opened : (s : Sort) (fs : List Fluent) → written (opening_lines ns s fs) ≡ flat_map (opening_text ns s) fs
  opened s [] = refl
  opened s (f ∷ fs) = one_more (has_sort s f) f (filter (has_sort s) fs) _ (opened s fs)

linked : (one : Bool) (ss : List SaidView) (t : List ℕ) → written ss ≡ t → written (cond one [] ss) ≡ cond one [] t
linked true ss t e = refl
linked false ss t e = e

grouped : (v r u q p l e c a o1 o2 o3 o4 o5 n t : List ℕ)
    → v ++ (r ++ u ++ q ++ p ++ l ++ e ++ c ++ a ++ o1 ++ o2 ++ o3 ++ o4 ++ o5 ++ n ++ t)
    ≡ (v ++ r ++ u ++ q) ++ (p ++ l) ++ (e ++ c ++ a) ++ (o1 ++ o2 ++ o3 ++ o4 ++ o5) ++ (n ++ t)
grouped v r u q p l e c a o1 o2 o3 o4 o5 n t = simp append_assoc

pub in_sections : (np : NamedPolicy) → canonical_text np ≡ named_text np ++ timed_text np ++ ranked_text np ++ opened_text np ++ ruled_text np
in_sections np =
    let ns : Names = np.names in
    let fs : List Fluent = members np.policy.opening in
    flat_map-map (λ line. line ++ 10 ∷ []) (λ s. spaced (said_words s)) (canonical_lines np)
    ∙ ap (λ t. line_text (version (version_of np.policy)) ++ t)
    (joined _ _ _ _ (joined _ _ _ _ (joined _ _ _ _ (joined _ _ _ _ (joined _ _ _ _ (joined _ _ _ _ (joined _ _ _ _ (joined _ _ _ _ (joined _ _ _ _ (joined _ _ _ _ (joined _ _ _ _ (joined _ _ _ _ (joined _ _ _ _ (joined _ _ _ _ (by_line (λ n. role n) ns.roles)
    (by_line (λ n. user n) ns.users))
    (by_line (λ n. perm n) ns.perms))
    (by_line (period_line ns) (numbered np.policy.periods)))
    (by_line (limit_line ns) (numbered np.policy.limits)))
    (by_line (edge_line ns) np.policy.edges))
    (all_caps ns (numbered np.policy.caps)))
    (by_line (admin_line ns) np.policy.admins))
    (opened ns Enabling fs))
    (opened ns Assigning fs))
    (opened ns Granting fs))
    (opened ns Arming fs))
    (linked (is_version_one np.policy) (opening_lines ns Linking fs) _ (opened ns Linking fs)))
    (by_line (entry_line ns) np.policy.entries))
    (by_line (trigger_line ns) np.policy.triggers))
    ∙ grouped (line_text (version (version_of np.policy))) _ _ _ _ _ _ _ _ _ _ _ _ _ _ _

pub five : {A E : Type 0} (t0 t1 t2 t3 t4 t5 a b c d e whole : List ℕ) (r : Result A E) → whole ≡ a ++ b ++ c ++ d ++ e → t1 ≡ t0 ++ a → t2 ≡ t1 ++ b → t3 ≡ t2 ++ c → t4 ≡ t3 ++ d → OnOk r (t5 ≡ t4 ++ e)
    → OnOk r (t5 ≡ t0 ++ whole)
five t0 t1 t2 t3 t4 t5 a b c d e whole (Err f) is e1 e2 e3 e4 e5 = tt
five t0 t1 t2 t3 t4 t5 a b c d e whole (Ok x) is e1 e2 e3 e4 e5 =
    e5 ∙ ap (λ t. t ++ e) (e4 ∙ ap (λ t. t ++ d) (e3 ∙ ap (λ t. t ++ c) (e2 ∙ ap (λ t. t ++ b) e1))) ∙ joined_on ∙ ap (λ t. t0 ++ t) (sym is)
  where
    joined_on : ((((t0 ++ a) ++ b) ++ c) ++ d) ++ e ≡ t0 ++ (a ++ b ++ c ++ d ++ e)
    joined_on = simp append_assoc
