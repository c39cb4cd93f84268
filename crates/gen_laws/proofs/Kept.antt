-- What a made policy's opening has of each sort, and its version.
use Rattle.std.proofs.Common.{◌≡◌, ℕ, zero, suc, ◌+◌, ◌-◌, ◌≤◌, ◌<◌, Bool, true, false, not, cond, List, [], ◌∷◌, ◌++◌, map, filter, inl, inr, refl, sym, ap, ◌∙◌, subst, arith, append-nil, nat_eq}
use Rattle.std.proofs.lemmas.Bool.{eqb-true, eqb-false}
use Rattle.std.specs.List.{list_all, list_any, range_with_len, flat_map}
use Rattle.std.proofs.lemmas.List.Elements.{filter-append}
use Rattle.std.proofs.lemmas.List.FromFn.{length-map-range_with_len}
use Rattle.gt_base.specs.Sets.{members, has}
use Rattle.gt_base.specs.declared.events.Fluent.{Fluent}
use Rattle.gt_base.specs.declared.events.Fluent.TheVariants.{Edge}
use Rattle.gt_base.proofs.SetSteps.{fluent_cmp_total}
use Rattle.gt_base.proofs.OrderLaws.{fluent_cmp-IsAntisymmetric}
use Rattle.gtrbac_model.proofs.Elements.{Elem, and_true, has_of_elem}
use Rattle.policy_words.specs.Making.{edges_from}
use Rattle.policy_words.specs.declared.parts.Sort.TheVariants.{Enabling, Assigning, Granting, Arming}
use Rattle.policy_words.specs.Sorts.{has_sort}
use Rattle.policy_words.specs.Canonical.{rule_names_edge, is_version_one}
use Rattle.gen_laws.specs.Made.{edge_down, assigned_own, granted_own, passed_both, policy_of_made}
use Rattle.gen_laws.proofs.Opened.{members_made}

module _ (test : Fluent → Bool) (f : ℕ → Fluent) where
  all_pass : ((i : ℕ) → test (f i) ≡ true) → (a n : ℕ) → filter test (map f (range_with_len a n)) ≡ map f (range_with_len a n)
  all_pass on a zero = refl
  all_pass on a (suc n) = λ i. cond (on a i) (f a ∷ all_pass on (a + 1) n i) (all_pass on (a + 1) n i)

  none_pass : ((i : ℕ) → test (f i) ≡ false) → (a n : ℕ) → filter test (map f (range_with_len a n)) ≡ []
  none_pass on a zero = refl
  none_pass on a (suc n) = λ i. cond (on a i) (f a ∷ none_pass on (a + 1) n i) (none_pass on (a + 1) n i)

module _ (k : ℕ) where
  abbrev own : List Fluent
  own = map assigned_own (range_with_len 0 k)

  abbrev grants : List Fluent
  grants = map granted_own (range_with_len 0 k)

  abbrev edges : List Fluent
  edges = map (λ n. Edge n) (range_with_len 0 (k - 1))

  abbrev ms : List Fluent
  ms = members (policy_of_made k).opening

  by_parts : (test : Fluent → Bool) → filter test ms ≡ filter test own ++ filter test grants ++ filter test edges
  by_parts test =
      ap (filter test) (members_made k) ∙ filter-append test (own ++ grants) edges ∙ ap (λ xs. xs ++ filter test edges) (filter-append test own grants)

  pub kept_enabled : filter (has_sort Enabling) ms ≡ []
  kept_enabled = by_parts (has_sort Enabling) ∙ (λ i. none_pass (has_sort Enabling) assigned_own (λ _. refl) 0 k i ++ none_pass (has_sort Enabling) granted_own (λ _. refl) 0 k i ++ none_pass (has_sort Enabling) (λ n. Edge n) (λ _. refl) 0 (k - 1) i)

  pub kept_armed : filter (has_sort Arming) ms ≡ []
  kept_armed = by_parts (has_sort Arming) ∙ (λ i. none_pass (has_sort Arming) assigned_own (λ _. refl) 0 k i ++ none_pass (has_sort Arming) granted_own (λ _. refl) 0 k i ++ none_pass (has_sort Arming) (λ n. Edge n) (λ _. refl) 0 (k - 1) i)

  pub kept_assigned : filter (has_sort Assigning) ms ≡ own
  kept_assigned =
      by_parts (has_sort Assigning)
      ∙ (λ i. all_pass (has_sort Assigning) assigned_own (λ _. refl) 0 k i ++ none_pass (has_sort Assigning) granted_own (λ _. refl) 0 k i ++ none_pass (has_sort Assigning) (λ n. Edge n) (λ _. refl) 0 (k - 1) i)
      ∙ append-nil (own ++ []) ∙ append-nil own

  pub kept_granted : filter (has_sort Granting) ms ≡ grants
  kept_granted =
      by_parts (has_sort Granting)
      ∙ (λ i. none_pass (has_sort Granting) assigned_own (λ _. refl) 0 k i ++ all_pass (has_sort Granting) granted_own (λ _. refl) 0 k i ++ none_pass (has_sort Granting) (λ n. Edge n) (λ _. refl) 0 (k - 1) i)
      ∙ append-nil grants

  -- every edge is on

  elem_right : (xs ys : List Fluent) (x : Fluent) → Elem ys x → Elem (xs ++ ys) x
  elem_right [] ys x m = m
  elem_right (z ∷ zs) ys x m = inr (elem_right zs ys x m)

  in_range : (a n i : ℕ) → a ≤ i → i < a + n → Elem (map (λ n. Edge n) (range_with_len a n)) (Edge i)
  in_range a zero i low high = absurd (omega (arith, low, high))
  in_range a (suc n) i low high = by (nat_eq i a) refl (λ above. in_range (a + 1) n i above (omega (arith, high)))
    where
      by : (b : Bool) → nat_eq i a ≡ b → (a + 1 ≤ i → Elem (map (λ n. Edge n) (range_with_len (a + 1) n)) (Edge i)) → Elem (map (λ n. Edge n) (range_with_len a (suc n))) (Edge i)
      by true e later = inl (ap (λ n. Edge n) (eqb-true i a e))
      by false e later = inr (later (omega (arith, low, eqb-false i a e)))

  edge_on : (i : ℕ) → i < k - 1 → has (policy_of_made k).opening (Edge i) ≡ true
  edge_on i lt =
      has_of_elem fluent_cmp_total fluent_cmp-IsAntisymmetric (policy_of_made k).opening (Edge i)
      (subst (λ (xs : List Fluent). Elem xs (Edge i)) (sym (members_made k)) (elem_right (own ++ grants) edges (Edge i) (in_range 0 (k - 1) i (omega arith) (omega (arith, lt)))))

  edges_on : (a n : ℕ) → a + n ≤ k - 1 → list_all (has (policy_of_made k).opening) (edges_from a n) ≡ true
  edges_on a zero le = refl
  edges_on a (suc n) le = and_true _ _ (edge_on a (omega (arith, le))) (edges_on (a + 1) n (omega (arith, le)))

  none_named : (a n : ℕ) → list_any rule_names_edge (flat_map passed_both (range_with_len a n)) ≡ false
  none_named a zero = refl
  none_named a (suc n) = none_named (a + 1) n

  pub first_version : is_version_one (policy_of_made k) ≡ true
  first_version =
      and_true _ _ (ap (λ n. list_all (has (policy_of_made k).opening) (edges_from 0 n)) (length-map-range_with_len edge_down 0 (k - 1)) ∙ edges_on 0 (k - 1) (omega arith))
      (ap not (none_named 0 (k - 1)))
