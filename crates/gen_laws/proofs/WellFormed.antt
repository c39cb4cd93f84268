-- A made policy keeps what every policy keeps.
use Rattle.std.proofs.Common.{◌≡◌, ℕ, zero, suc, ◌+◌, ◌-◌, ◌≤◌, ◌<◌, Bool, true, false, not, nat_eq, nat_le, nat_lt, ◌&&◌, List, ◌++◌, map, length, refl, sym, ap, ◌∙◌, arith}
use Rattle.std.specs.Prelude.{count_by}
use Rattle.std.specs.List.{list_all, range_with_len, flat_map}
use Rattle.std.proofs.lemmas.Bool.{lt-ltb, le-leb, not_from_false, ne_eqb}
use Rattle.std.proofs.lemmas.List.{length-append}
use Rattle.std.proofs.lemmas.List.FromFn.{length-map-range_with_len}
use Rattle.std.proofs.lemmas.Simd.{map-map}
use Rattle.std.proofs.lemmas.List.Folds.{list_all-append}
use Rattle.std.proofs.lemmas.List.Sums.{count_by-le-length}
use Rattle.gt_base.specs.Sets.{members}
use Rattle.gt_base.specs.declared.events.Fluent.{Fluent}
use Rattle.gt_base.specs.declared.events.Fluent.TheVariants.{Edge}
use Rattle.gtrbac_model.proofs.Elements.{and_true}
use Rattle.gtrbac_model.specs.Policy.{Policy}
use Rattle.gtrbac_model.specs.WholePolicy.{IsPolicy, is_fluent, is_edge, is_rule, has_cause, joins_same, joined_twice, are_caps, is_assignment, is_grant}
use Rattle.policy_words.specs.CapKinds.{no_caps}
use Rattle.policy_words.specs.Valid.{IsWellFormed, pair_of}
use Rattle.gen_laws.specs.Made.{role_named, user_named, perm_named, pair_named, names_of_made, edge_down, assigned_own, granted_own, opening_made, passed_on, passed_both, policy_of_made, made_of}
use Rattle.gen_laws.proofs.Ranges.{all_range, apart_range, map_up}
use Rattle.gen_laws.proofs.Names.{named_good, role_name_of}
use Rattle.gen_laws.proofs.Opened.{members_made}
use Rattle.gen_laws.proofs.Rings.{no_ring}

all_eight : (a b : Bool) → a ≡ true → b ≡ true → (a && true && true && true && true && b && true && true) ≡ true
all_eight true true p q = refl
all_eight true false p q = cc
all_eight false b p q = cc

module _ (k : ℕ) (low : 1 ≤ k) (few : k ≤ 200) where
  abbrev p : Policy
  p = policy_of_made k

  -- edges

  edge_in : (i : ℕ) → i < k - 1 → is_edge p (edge_down i) ≡ true
  edge_in i lt = and_true _ _ (and_true _ _ (lt-ltb i k (omega (arith, lt))) (lt-ltb (i + 1) k (omega (arith, lt)))) refl

  apart : (i j : ℕ) → i < j → joins_same (edge_down i) (edge_down j) ≡ false
  apart i j lt = ap (λ b. b && nat_eq (i + 1) (j + 1)) (ne_eqb i j (λ e. omega (arith, e, lt)))

  many_edges : length p.edges ≡ k - 1
  many_edges = length-map-range_with_len edge_down 0 (k - 1)

  edges_good : (nat_le (length p.edges) 4_000 && list_all (is_edge p) p.edges && not (joined_twice p.edges)) ≡ true
  edges_good =
      and_true _ _
      (and_true _ _ (le-leb (length p.edges) 4_000 (omega (arith, many_edges))) (all_range (is_edge p) edge_down 0 (k - 1) (λ i above high. edge_in i (omega (arith, high)))))
      (not_from_false _ (apart_range joins_same joined_twice refl (λ _ _. refl) edge_down 0 (k - 1) (λ i j lt high. apart i j lt)))

  edge_pairs : (names_of_made k).edges ≡ map (pair_of (names_of_made k)) p.edges
  edge_pairs =
      sym (map-map (pair_of (names_of_made k)) edge_down (range_with_len 0 (k - 1))
      ∙ map_up (λ i. pair_of (names_of_made k) (edge_down i)) pair_named 0 (k - 1) (λ i above high j. (role_name_of k i (omega (arith, high)) j, role_name_of k (i + 1) (omega (arith, high)) j)))

  -- what is on at first

  opening_in : list_all (is_fluent p) (opening_made k) ≡ true
  opening_in =
      let own : List Fluent = map assigned_own (range_with_len 0 k) in
      let grants : List Fluent = map granted_own (range_with_len 0 k) in
      let edges : List Fluent = map (λ n. Edge n) (range_with_len 0 (k - 1)) in
      list_all-append (is_fluent p) (own ++ grants) edges
      ∙ and_true _ _
      (list_all-append (is_fluent p) own grants
      ∙ and_true _ _
      (all_range (is_fluent p) assigned_own 0 k (λ i above high. and_true _ _ (lt-ltb i k (omega (arith, high))) (lt-ltb i k (omega (arith, high)))))
      (all_range (is_fluent p) granted_own 0 k (λ i above high. and_true _ _ (lt-ltb i k (omega (arith, high))) (lt-ltb i k (omega (arith, high))))))
      (all_range (is_fluent p) (λ n. Edge n) 0 (k - 1) (λ i above high. lt-ltb i (length p.edges) (omega (arith, high, many_edges))))

  opening_few : (test : Fluent → Bool) → count_by test (members p.opening) ≤ 50_000
  opening_few test =
      let own : List Fluent = map assigned_own (range_with_len 0 k) in
      let grants : List Fluent = map granted_own (range_with_len 0 k) in
      let edges : List Fluent = map (λ n. Edge n) (range_with_len 0 (k - 1)) in
      let counted : count_by test (members p.opening) ≡ count_by test (opening_made k) = ap (count_by test) (members_made k) in
      omega (
        arith,
        counted,
        count_by-le-length test (opening_made k),
        length-append (own ++ grants) edges,
        length-append own grants,
        length-map-range_with_len assigned_own 0 k,
        length-map-range_with_len granted_own 0 k,
        length-map-range_with_len (λ n. Edge n) 0 (k - 1),
      )

  -- triggers

  rule_in : (on : Bool) (i : ℕ) → i < k - 1 → is_rule p (passed_on on i) ≡ true
  rule_in on i lt = all_eight _ _ (lt-ltb i k (omega (arith, lt))) (lt-ltb (i + 1) k (omega (arith, lt)))

  rules_in : (a n : ℕ) → a + n ≤ k - 1 → list_all (is_rule p) (flat_map passed_both (range_with_len a n)) ≡ true
  rules_in a zero le = refl
  rules_in a (suc n) le = and_true _ _ (rule_in true a (omega (arith, le))) (and_true _ _ (rule_in false a (omega (arith, le))) (rules_in (a + 1) n (omega (arith, le))))

  rules_caused : (a n : ℕ) → list_all has_cause (flat_map passed_both (range_with_len a n)) ≡ true
  rules_caused a zero = refl
  rules_caused a (suc n) = rules_caused (a + 1) n

  many_rules : (a n : ℕ) → length (flat_map passed_both (range_with_len a n)) ≡ n + n
  many_rules a zero = refl
  many_rules a (suc n) = let rest : length (flat_map passed_both (range_with_len (a + 1) n)) ≡ n + n = many_rules (a + 1) n in omega (arith, rest)

  pub is_policy : IsPolicy p
  is_policy = record {
    roles = omega arith;
    users = omega arith;
    perms = omega arith;
    periods = refl;
    limits = refl;
    edges = edges_good;
    no_ring = no_ring 0 (k - 1);
    caps_a_role = length-map-range_with_len (λ _. no_caps) 0 k;
    caps = all_range are_caps (λ _. no_caps) 0 k (λ i above high. refl);
    admins = and_true _ true (and_true (nat_lt 0 k) true (lt-ltb 0 k (omega arith)) refl) refl;
    opening = ap (list_all (is_fluent p)) (members_made k) ∙ opening_in;
    few_assigned = opening_few is_assignment;
    few_granted = opening_few is_grant;
    entries = and_true (nat_lt 0 k) true (lt-ltb 0 k (omega arith)) refl;
    triggers = and_true _ _ (le-leb (length p.triggers) 4_000 (omega (arith, many_rules 0 (k - 1)))) (rules_in 0 (k - 1) (omega arith));
    causes = rules_caused 0 (k - 1);
  }

  pub is_well_formed : IsWellFormed (made_of k)
  is_well_formed = record {
    roles = named_good 114 refl k 1_000 few (omega arith);
    users = named_good 117 refl k 10_000 few (omega arith);
    perms = named_good 112 refl k 10_000 few (omega arith);
    periods = refl;
    limits = refl;
    role_count = sym (length-map-range_with_len role_named 1 k);
    user_count = sym (length-map-range_with_len user_named 1 k);
    perm_count = sym (length-map-range_with_len perm_named 1 k);
    period_count = refl;
    limit_count = refl;
    edge_pairs = edge_pairs;
    policy = is_policy;
  }
