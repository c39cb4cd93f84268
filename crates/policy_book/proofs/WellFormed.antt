-- What lines in range without a fault make is well formed.
use Rattle.std.proofs.Common.{◌≡◌, ℕ, ◌≤◌, Bool, true, false, not, ◌||◌, ◌&&◌, List, [], ◌∷◌, ◌++◌, map, length, filter, Option, Some, None, Result, Ok, is_some, refl, sym, ap, ◌∙◌, subst, arith, nat_le}
use Rattle.std.specs.Prelude.{bytes_eq, IsTrue, count_by, option_map, slice_get, unwrap_or}
use Rattle.std.proofs.lemmas.List.Folds.{list_all-append}
use Rattle.gt_base.specs.declared.events.Fluent.TheVariants as base
use Rattle.history_laws.proofs.Members.{clash}
use Rattle.policy_book.proofs.Places.{name_read, place_name}
use Rattle.std.specs.List.{list_any, list_all, filter_map, cons_option, AllByRecursion}
use Rattle.std.proofs.lemmas.Bool.{le-leb, leb-true, lt-ltb, not_from_false}
use Rattle.std.proofs.lemmas.List.{length-map}
use Rattle.std.proofs.lemmas.List.Elements.{recursion_from_All}
use Rattle.std.proofs.lemmas.List.Sums.{length-filter}
use Rattle.gt_base.specs.Names.{is_name, place_of}
use Rattle.gt_base.specs.Sets.{members}
use Rattle.gt_base.specs.declared.events.Fluent.{Fluent}
use Rattle.gt_base.specs.declared.policies.HierEdge.{HierEdge}
use Rattle.gt_base.specs.declared.policies.LimitRule.{LimitRule}
use Rattle.gt_base.specs.declared.events.Cond.{Cond}
use Rattle.gt_base.specs.declared.events.PeriodId.{PeriodId}
use Rattle.gtrbac_model.specs.Policy.{Policy}
use Rattle.gtrbac_model.specs.Same.{same_user, lists}
use Rattle.gtrbac_model.proofs.Elements.{both_true, and_true}
use Rattle.gtrbac_model.specs.Valid.{is_period}
use Rattle.gtrbac_model.specs.WholePolicy.{IsPolicy, HasNoRing, is_fluent, is_limit, is_edge, is_entry, is_rule, has_cause, joins_same, joined_twice, is_assignment, is_grant}
use Rattle.gtrbac_model.specs.EdgeCycles.{edge_cycle}
use Rattle.policy_book.proofs.Acyclic.{none_is_acyclic}
use Rattle.policy_words.specs.declared.sayings.Kind.{Kind}
use Rattle.policy_words.specs.declared.sayings.Kind.TheVariants as kinds
use Rattle.policy_words.specs.Sayings.{SaidView, is_saying, limit, period, edge}
use Rattle.policy_words.specs.Reading.{Numbered}
use Rattle.policy_words.specs.Wording.{◌>>=◌}
use Rattle.policy_words.specs.declared.claims.Claim.{Claim}
use Rattle.policy_words.specs.declared.claims.Claim.TheVariants as claims
use Rattle.policy_words.specs.Naming.{Names, NamedPolicy, NamePair, same_pair, cond_of, period_of, role_of}
use Rattle.policy_words.specs.Making.{no_names, names_of, DraftView, fresh, drafted, are_second, linked_at_first, policy_of, named_policy, period_said, limit_said, edge_said, entry_said, rule_said, during_of}
use Rattle.policy_words.specs.LinesTogether.{LinesFault, same_claim, is_known, is_known_period, is_of, most_of, count_of, said_in, first_fault, without_cycle, without_fault, build}
use Rattle.policy_words.specs.Valid.{IsWellFormed, are_names, pair_of, repeats_later}
use Rattle.policy_book.specs.Laws.{BuildIsWellFormed}
use Rattle.policy_book.proofs.Lists.{repeats, some_same, all_at_end, all_kept, fewer_kept, as_many_kept, none_repeats}
use Rattle.policy_book.proofs.Clashes.{clashes, is_plain}
use Rattle.policy_book.proofs.Naming.{with_names, all_new, later_repeats, role_in, user_in, perm_in, period_in, limit_in, roles_kept, users_kept, perms_kept, periods_kept, limits_kept, Declares, role_declares, user_declares, perm_declares, period_declares, limit_declares, names_once, pair_in, pairs_kept, pair_turned, pairs_once}
use Rattle.policy_book.proofs.DraftedLines.{drafted_periods, drafted_limits, drafted_edges, drafted_entries, drafted_triggers, opened, onto, drafted_opening}
use Rattle.policy_book.proofs.FineLines.{AreFine, fine_lines, all_known, all_apart, kept_few, few_lines}
use Rattle.policy_book.proofs.OpeningLines.{edges_all, edges_none, opening_all, opening_count, opened_all, opened_count, assigned_counts, granted_counts}
use Rattle.policy_book.proofs.InRange.{IsSized, opening_there, edge_there, entry_there, limit_there, period_there, rule_there, rule_caused, edges_clash, edge_counts, entry_counts, rule_counts}
use Rattle.policy_book.proofs.Capping.{caps_length, caps_fine, no_caps_fine, users_below, users_rise}

pub twice_joined : (es : List HierEdge) → joined_twice es ≡ repeats joins_same es
twice_joined [] = refl
twice_joined (e ∷ es) = ap (λ b. list_any (joins_same e) es || b) (twice_joined es)

pub no_ring : (es : List HierEdge) → edge_cycle es ≡ None → HasNoRing es
no_ring es e r [] w = refl
no_ring es e r (n ∷ ns) w = absurd ((none_is_acyclic es).0 e r n ns w)

three : (a b c : Bool) → a ≡ true → b ≡ true → c ≡ true → (a && b && c) ≡ true
three true true true p q r = refl
three false b c p q r = cc
three true false c p q r = cc
three true true false p q r = cc

both_all : (p q : SaidView → Bool) (xs : List SaidView) → list_all p xs ≡ true → list_all q xs ≡ true → list_all (λ x. p x && q x) xs ≡ true
both_all p q [] h k = refl
both_all p q (x ∷ xs) h k =
    let hs = both_true (p x) _ h in
    let ks = both_true (q x) _ k in
    and_true _ _ (and_true _ _ hs.0 ks.0) (both_all p q xs hs.1 ks.1)

-- a limit whose names are known is said
limit_alike : (ns : Names) (x : SaidView) → is_known ns x ≡ true → is_some (limit_said ns x) ≡ is_some (limit_in x)
limit_alike ns (limit n p c most during) known = let parts = both_true (is_some (cond_of ns c)) _ known in by (cond_of ns c) (during_of ns during) parts.0 (within during parts.1)
  where
    found : {A B : Type 0} (o : Option A) (f : A → B) → is_some o ≡ true → is_some (o >>= λ a. Some (f a)) ≡ true
    found (Some a) f e = refl
    found None f e = cc

    within : (d : Option (List ℕ)) → is_known_period ns d ≡ true → is_some (during_of ns d) ≡ true
    within None k = refl
    within (Some n) k = found (period_of ns n) (λ q. Some q) k

    by : (o : Option Cond) (w : Option (Option PeriodId)) → is_some o ≡ true → is_some w ≡ true
        → is_some (o >>= λ c. w >>= λ q. Some (let l : LimitRule = record { cond = c; prio = p; most = most; period = q } in l)) ≡ true
    by (Some c) (Some q) e k = refl
    by None w e k = cc
    by (Some c) None e k = cc
limit_alike ns _ known = refl

period_alike : (ns : Names) (x : SaidView) → is_some (period_said ns x) ≡ is_some (period_in x)
period_alike ns (period n f l e) = refl
period_alike ns _ = refl

-- the pair of an edge is that of its line
module _ (ns : Names) where
  name_back : (n : List ℕ) (k : ℕ) → place_of ns.roles n ≡ Some k → unwrap_or (slice_get ns.roles k) [] ≡ n
  name_back n k e = name_read ns.roles k ∙ sym (place_name ns.roles n k e)

  pair_said : (x : SaidView) → is_known ns x ≡ true → option_map (pair_of ns) (edge_said ns x) ≡ pair_in x
  pair_said (edge kind strong s j) known =
      let parts = both_true (is_some (role_of ns s)) _ known in
      go (place_of ns.roles s) (place_of ns.roles j) refl refl parts.0 parts.1
    where
      go : (a b : Option ℕ) → place_of ns.roles s ≡ a → place_of ns.roles j ≡ b → is_some (role_of ns s) ≡ true → is_some (role_of ns j) ≡ true
          → option_map (pair_of ns) (edge_said ns (edge kind strong s j)) ≡ Some (s, j)
      go (Some a) (Some b) p q h k = rw (p, q) (λ i. Some (name_back s a p i, name_back j b q i))
      go None b p q h k = absurd (clash (is_some (role_of ns s)) h (rw p refl))
      go (Some a) None p q h k = absurd (clash (is_some (role_of ns j)) k (rw q refl))
  pair_said _ known = refl

  pairs_said : (xs : List SaidView) → list_all (is_known ns) xs ≡ true → map (pair_of ns) (filter_map (edge_said ns) xs) ≡ filter_map pair_in xs
  pairs_said [] known = refl
  pairs_said (x ∷ xs) known =
      let parts = both_true (is_known ns x) _ known in
      go (edge_said ns x) (pair_in x) (pair_said x parts.0) (pairs_said xs parts.1)
    where
      go : (o : Option HierEdge) (p : Option NamePair) → option_map (pair_of ns) o ≡ p → map (pair_of ns) (filter_map (edge_said ns) xs) ≡ filter_map pair_in xs
          → map (pair_of ns) (cons_option o (filter_map (edge_said ns) xs)) ≡ cons_option p (filter_map pair_in xs)
      go None None e more = more
      go (Some g) (Some q) e more = let same : pair_of ns g ≡ q = some_same _ _ e in λ i. same i ∷ more i
      go None (Some q) e more = cc
      go (Some g) None e more = cc

-- lines in range without a fault, over the names that they declare
module _ (xs : List SaidView) (said : list_all is_saying xs ≡ true) (fine : AreFine (names_of xs) [] xs) where
  abbrev names : Names
  names = names_of xs

  abbrev draft : DraftView
  draft = drafted names (fresh names) xs

  abbrev made : Policy
  made = policy_of names (are_second xs) draft

  known : list_all (is_known names) xs ≡ true
  known = all_known names [] xs fine

  apart : repeats clashes xs ≡ false
  apart = all_apart names [] xs fine

  few : (k : Kind) → is_plain k ≡ true → length (filter (is_of k) xs) ≤ most_of k
  few k p = few_lines k p names xs fine

  module _ (claimed : List ℕ → Claim) (kind : Kind) (plain : is_plain kind ≡ true) (decl : SaidView → Option (List ℕ))
      (same : (m n : List ℕ) → same_claim (claimed m) (claimed n) ≡ bytes_eq m n) (declares : (x : SaidView) (n : List ℕ) → decl x ≡ Some n → Declares claimed kind x n) where
    once : repeats bytes_eq (filter_map decl xs) ≡ false
    once = names_once claimed kind decl same declares xs apart

    all_names : with_names [] (filter_map decl xs) ≡ filter_map decl xs
    all_names = all_new [] (filter_map decl xs) once

    good_names : are_names (most_of kind) (filter_map decl xs) ≡ true
    good_names =
        let within : length (filter_map decl xs) ≤ length (filter (is_of kind) xs) = fewer_kept decl (is_of kind) (λ x n e. (declares x n e).of_kind) xs in
        let most : length (filter (is_of kind) xs) ≤ most_of kind = few kind plain in
        three (nat_le (length (filter_map decl xs)) (most_of kind)) (list_all is_name (filter_map decl xs)) (not (repeats_later (filter_map decl xs)))
        (le-leb _ _ (omega (arith, within, most)))
        (all_kept decl is_saying is_name (λ x s n e. (declares x n e).named s) xs said)
        (not_from_false _ (later_repeats (filter_map decl xs) ∙ once))

  roles_are : names.roles ≡ filter_map role_in xs
  roles_are = roles_kept no_names xs ∙ all_names (λ m. claims.Role m) kinds.Roles refl role_in (λ _ _. refl) role_declares

  users_are : names.users ≡ filter_map user_in xs
  users_are = users_kept no_names xs ∙ all_names (λ m. claims.User m) kinds.Users refl user_in (λ _ _. refl) user_declares

  perms_are : names.perms ≡ filter_map perm_in xs
  perms_are = perms_kept no_names xs ∙ all_names (λ m. claims.Perm m) kinds.Perms refl perm_in (λ _ _. refl) perm_declares

  periods_are : names.periods ≡ filter_map period_in xs
  periods_are = periods_kept no_names xs ∙ all_names (λ m. claims.Period m) kinds.Periods refl period_in (λ _ _. refl) period_declares

  limits_are : names.limits ≡ filter_map limit_in xs
  limits_are = limits_kept no_names xs ∙ all_names (λ m. claims.Limit m) kinds.Limits refl limit_in (λ _ _. refl) limit_declares

  role_names : are_names 1_000 names.roles ≡ true
  role_names = ap (are_names 1_000) roles_are ∙ good_names (λ m. claims.Role m) kinds.Roles refl role_in (λ _ _. refl) role_declares

  user_names : are_names 10_000 names.users ≡ true
  user_names = ap (are_names 10_000) users_are ∙ good_names (λ m. claims.User m) kinds.Users refl user_in (λ _ _. refl) user_declares

  perm_names : are_names 10_000 names.perms ≡ true
  perm_names = ap (are_names 10_000) perms_are ∙ good_names (λ m. claims.Perm m) kinds.Perms refl perm_in (λ _ _. refl) perm_declares

  period_names : are_names 1_000 names.periods ≡ true
  period_names = ap (are_names 1_000) periods_are ∙ good_names (λ m. claims.Period m) kinds.Periods refl period_in (λ _ _. refl) period_declares

  limit_names : are_names 1_000 names.limits ≡ true
  limit_names = ap (are_names 1_000) limits_are ∙ good_names (λ m. claims.Limit m) kinds.Limits refl limit_in (λ _ _. refl) limit_declares

  few_names : (most : ℕ) (ns : List (List ℕ)) → are_names most ns ≡ true → length ns ≤ most
  few_names most ns h = leb-true _ _ (both_true (nat_le (length ns) most) _ (both_true (nat_le (length ns) most && list_all is_name ns) _ h).0).0

  periods_made : made.periods ≡ filter_map (period_said names) xs
  periods_made = drafted_periods names (fresh names) xs

  limits_made : made.limits ≡ filter_map (limit_said names) xs
  limits_made = drafted_limits names (fresh names) xs

  edges_made : made.edges ≡ filter_map (edge_said names) xs
  edges_made = drafted_edges names (fresh names) xs

  entries_made : made.entries ≡ filter_map (entry_said names) xs
  entries_made = drafted_entries names (fresh names) xs

  triggers_made : made.triggers ≡ filter_map (rule_said names) xs
  triggers_made = drafted_triggers names (fresh names) xs

  period_count : length made.periods ≡ length names.periods
  period_count = ap length periods_made ∙ as_many_kept (period_said names) period_in is_saying (λ x _. period_alike names x) xs said ∙ sym (ap length periods_are)

  limit_count : length made.limits ≡ length names.limits
  limit_count = ap length limits_made ∙ as_many_kept (limit_said names) limit_in (is_known names) (limit_alike names) xs known ∙ sym (ap length limits_are)

  -- the pairs of the edges are those that the lines join
  edge_pairs : names.edges ≡ map (pair_of names) made.edges
  edge_pairs =
      pairs_kept no_names xs ∙ all_at_end same_pair pair_turned [] (filter_map pair_in xs) (pairs_once xs apart)
      ∙ sym (ap (map (pair_of names)) edges_made ∙ pairs_said names xs known)

  sized : IsSized names made
  sized = record { roles = refl; users = refl; perms = refl; periods = period_count; limits = limit_count; edges = sym (ap length edge_pairs ∙ length-map made.edges (pair_of names)) }

  good_periods : (nat_le (length made.periods) 1_000 && list_all is_period made.periods) ≡ true
  good_periods =
      and_true _ _ (le-leb _ _ (subst (λ n. n ≤ 1_000) (sym period_count) (few_names 1_000 names.periods period_names)))
      (ap (list_all is_period) periods_made ∙ all_kept (period_said names) is_saying is_period (period_there names) xs said)

  good_limits : (nat_le (length made.limits) 1_000 && list_all (is_limit made) made.limits) ≡ true
  good_limits =
      and_true _ _ (le-leb _ _ (subst (λ n. n ≤ 1_000) (sym limit_count) (few_names 1_000 names.limits limit_names)))
      (ap (list_all (is_limit made)) limits_made ∙ all_kept (limit_said names) is_saying (is_limit made) (limit_there names made sized) xs said)

  few_made : {A : Type 0} (k : Kind) → is_plain k ≡ true → (decl : SaidView → Option A) → ((x : SaidView) (g : A) → decl x ≡ Some g → is_of k x ≡ true) → nat_le (length (filter_map decl xs)) (most_of k) ≡ true
  few_made k plain decl counts =
      let within : length (filter_map decl xs) ≤ length (filter (is_of k) xs) = fewer_kept decl (is_of k) counts xs in
      let most : length (filter (is_of k) xs) ≤ most_of k = few k plain in
      le-leb _ _ (omega (arith, within, most))

  good_edges : (nat_le (length made.edges) 4_000 && list_all (is_edge made) made.edges && not (joined_twice made.edges)) ≡ true
  good_edges =
      three (nat_le (length made.edges) 4_000) (list_all (is_edge made) made.edges) (not (joined_twice made.edges))
      (ap (λ es. nat_le (length es) 4_000) edges_made ∙ few_made kinds.Edges refl (edge_said names) (edge_counts names))
      (ap (list_all (is_edge made)) edges_made ∙ all_kept (edge_said names) is_saying (is_edge made) (λ x _ g e. edge_there names made sized x g e) xs said)
      (not_from_false _ (ap joined_twice edges_made ∙ twice_joined (filter_map (edge_said names) xs) ∙ none_repeats (edge_said names) clashes joins_same (edges_clash names) xs apart))

  good_entries : (nat_le (length made.entries) 4_000 && list_all (is_entry made) made.entries) ≡ true
  good_entries =
      and_true _ _ (ap (λ es. nat_le (length es) 4_000) entries_made ∙ few_made kinds.Entries refl (entry_said names) (entry_counts names))
      (ap (list_all (is_entry made)) entries_made ∙ all_kept (entry_said names) is_saying (is_entry made) (entry_there names made sized) xs said)

  good_triggers : (nat_le (length made.triggers) 4_000 && list_all (is_rule made) made.triggers) ≡ true
  good_triggers =
      and_true _ _ (ap (λ es. nat_le (length es) 4_000) triggers_made ∙ few_made kinds.Triggers refl (rule_said names) (rule_counts names))
      (ap (list_all (is_rule made)) triggers_made ∙ all_kept (rule_said names) is_saying (is_rule made) (rule_there names made sized) xs said)

  good_causes : list_all has_cause made.triggers ≡ true
  good_causes =
      ap (list_all has_cause) triggers_made
      ∙ all_kept (rule_said names) (λ x. is_saying x && is_known names x) has_cause (rule_caused names made sized) xs (both_all is_saying (is_known names) xs said known)

  opened_are : draft.on_at_first ≡ opened names (onto xs [])
  opened_are = drafted_opening names (fresh names) [] xs refl

  -- the edges that are linked at first by the version
  abbrev linked : List Fluent
  linked = linked_at_first (are_second xs) draft.edges

  good_opening : list_all (is_fluent made) (members made.opening) ≡ true
  good_opening =
      opening_all (is_fluent made) (linked ++ draft.on_at_first)
      (list_all-append (is_fluent made) linked draft.on_at_first
      ∙ and_true _ _ (linked_all (are_second xs)) (ap (list_all (is_fluent made)) opened_are ∙ opened_all names (is_fluent made) (opening_there names made sized) (onto xs [])))
    where
      linked_all : (b : Bool) → list_all (is_fluent made) (linked_at_first b draft.edges) ≡ true
      linked_all true = refl
      linked_all false = edges_all (is_fluent made) (length draft.edges) 0 (length draft.edges) (λ e below. lt-ltb _ _ below) (omega arith)

  few_opened : (test : Fluent → Bool) (k : Kind) → ((e : ℕ) → test (base.Edge e) ≡ false) → length (filter test (opened names (onto xs []))) ≤ count_of k (onto xs []) → count_by test (members made.opening) ≤ most_of k
  few_opened test k off le =
      let counted : length (filter test (members made.opening)) ≡ count_by test (members made.opening) = length-filter test (members made.opening) in
      let fewer : length (filter test (members made.opening)) ≤ length (filter test (linked ++ draft.on_at_first)) = opening_count test (linked ++ draft.on_at_first) in
      let none : length (filter test (linked ++ draft.on_at_first)) ≡ length (filter test draft.on_at_first) = none_linked (are_second xs) in
      let same : length (filter test draft.on_at_first) ≡ length (filter test (opened names (onto xs []))) = ap (λ fs. length (filter test fs)) opened_are in
      let most : count_of k (onto xs []) ≤ most_of k = kept_few k names [] xs fine (omega arith) in
      omega (arith, counted, fewer, none, same, le, most)
    where
      none_linked : (b : Bool) → length (filter test (linked_at_first b draft.edges ++ draft.on_at_first)) ≡ length (filter test draft.on_at_first)
      none_linked true = refl
      none_linked false = edges_none test off 0 (length draft.edges) draft.on_at_first

  good_policy : edge_cycle made.edges ≡ None → IsPolicy made
  good_policy acyclic =
      record {
        roles = few_names 1_000 names.roles role_names;
        users = few_names 10_000 names.users user_names;
        perms = few_names 10_000 names.perms perm_names;
        periods = good_periods;
        limits = good_limits;
        edges = good_edges;
        no_ring = no_ring made.edges acyclic;
        caps_a_role = caps_length names (fresh names) xs ∙ length-map names.roles _;
        caps = caps_fine names (fresh names) xs said (no_caps_fine names.roles);
        admins = and_true _ _ (users_below (lists same_user draft.admins) (length names.users) 0 (length names.users) (omega arith)) (users_rise (lists same_user draft.admins) 0 (length names.users));
        opening = good_opening;
        few_assigned = few_opened is_assignment kinds.Assigned (λ _. refl) (opened_count names kinds.Assigned is_assignment (assigned_counts names) (onto xs []));
        few_granted = few_opened is_grant kinds.Granted (λ _. refl) (opened_count names kinds.Granted is_grant (granted_counts names) (onto xs []));
        entries = good_entries;
        triggers = good_triggers;
        causes = good_causes;
      }

  well_formed : edge_cycle made.edges ≡ None → IsWellFormed (named_policy xs)
  well_formed acyclic =
      record {
        roles = role_names;
        users = user_names;
        perms = perm_names;
        periods = period_names;
        limits = limit_names;
        role_count = refl;
        user_count = refl;
        perm_count = refl;
        period_count = period_count;
        limit_count = limit_count;
        edge_pairs = edge_pairs;
        policy = good_policy acyclic;
      }

all_said : (ss : List (Numbered SaidView)) → AllByRecursion (λ s. IsTrue (is_saying s.it)) ss → list_all is_saying (said_in ss) ≡ true
all_said [] h = refl
all_said (s ∷ ss) h = and_true _ _ h.0 (all_said ss h.1)

-- what is built had no fault
pub was_built : (ss : List (Numbered SaidView)) (np : NamedPolicy) → build ss ≡ Ok np
    → (first_fault (names_of (said_in ss)) [] ss ≡ None) × (edge_cycle (named_policy (said_in ss)).policy.edges ≡ None) × (named_policy (said_in ss) ≡ np)
was_built ss np e = by (first_fault (names_of (said_in ss)) [] ss) (edge_cycle (named_policy (said_in ss)).policy.edges) refl refl e
  where
    by : (t : Option LinesFault) (c : Option (List ℕ)) → first_fault (names_of (said_in ss)) [] ss ≡ t → edge_cycle (named_policy (said_in ss)).policy.edges ≡ c
        → without_fault t (named_policy (said_in ss)) ≡ Ok np → (first_fault (names_of (said_in ss)) [] ss ≡ None) × (edge_cycle (named_policy (said_in ss)).policy.edges ≡ None) × (named_policy (said_in ss) ≡ np)
    by (Some t) c p q e = cc
    by None c p q e = no_cycle c q (ap (λ o. without_cycle (named_policy (said_in ss)) o) (sym q) ∙ e)
      where
        no_cycle : (c : Option (List ℕ)) → edge_cycle (named_policy (said_in ss)).policy.edges ≡ c → without_cycle (named_policy (said_in ss)) c ≡ Ok np
            → (first_fault (names_of (said_in ss)) [] ss ≡ None) × (edge_cycle (named_policy (said_in ss)).policy.edges ≡ None) × (named_policy (said_in ss) ≡ np)
        no_cycle (Some ns) q e = cc
        no_cycle None q e = (p, q, ok_same _ _ e)
          where
            ok_same : (a b : NamedPolicy) → ◌≡◌ {A = Result NamedPolicy LinesFault} (Ok a) (Ok b) → a ≡ b
            ok_same a b e = cc

pub build_is_well_formed : BuildIsWellFormed
build_is_well_formed ss np said e =
    let (clear, acyclic, same) = was_built ss np e in
    subst (λ z. IsWellFormed z) same (well_formed (said_in ss) (all_said ss (recursion_from_All (λ s. IsTrue (is_saying s.it)) ss said)) (fine_lines (names_of (said_in ss)) [] ss clear) acyclic)
