-- The canonical lines of a well-formed policy in their sections: they are in range, known, and claim nothing twice.
use Rattle.std.proofs.Common.{◌≡◌, ℕ, suc, cond, ◌+◌, ◌≤◌, ◌<◌, Bool, true, false, ◌||◌, ◌&&◌, nat_eq, nat_le, nat_lt, List, [], ◌∷◌, ◌++◌, map, length, filter, Option, Some, None, is_some, refl, sym, ap, ◌∙◌, subst, arith, append_assoc}
use Rattle.std.specs.Prelude.{bytes_eq, option_map, count_by}
use Rattle.std.specs.List.{list_all, list_any, flat_map, enumerate_from, slice_get}
use Rattle.std.specs.Option.{unwrap_or}
use Rattle.std.proofs.lemmas.Bool.{leb-true, le-leb, lt-ltb, eq-eqb, false_from_ne_true, not-true}
use Rattle.std.proofs.lemmas.List.{append-nil, length-map, map-id}
use Rattle.std.proofs.lemmas.List.Elements.{filter_agree}
use Rattle.std.proofs.lemmas.List.Sums.{length-filter}
use Rattle.gt_base.specs.Held.{TriggerView}
use Rattle.gt_base.specs.Names.{is_name}
use Rattle.gt_base.specs.Sets.{members}
use Rattle.gt_base.specs.declared.events.RoleId.{RoleId}
use Rattle.gt_base.specs.declared.events.UserId.{UserId}
use Rattle.gt_base.specs.declared.events.PeriodId.{PeriodId}
use Rattle.gt_base.specs.declared.events.LimitId.{LimitId}
use Rattle.gt_base.specs.declared.events.Fluent.{Fluent}
use Rattle.gt_base.specs.declared.events.Fluent.TheVariants as base
use Rattle.gt_base.specs.declared.policies.PeriodicEntry.{PeriodicEntry}
use Rattle.gt_base.specs.declared.policies.LimitRule.{LimitRule}
use Rattle.gt_base.specs.declared.policies.HierEdge.{HierEdge}
use Rattle.gt_base.specs.declared.policies.Caps.{Caps}
use Rattle.gt_base.specs.declared.limits.TheConstants.{LAST_MINUTE}
use Rattle.gtrbac_model.specs.Period.{Period}
use Rattle.gtrbac_model.specs.Same.{same_role}
use Rattle.gtrbac_model.proofs.Elements.{both_true, and_true}
use Rattle.history_laws.proofs.Members.{clash}
use Rattle.gtrbac_model.specs.Valid.{is_period}
use Rattle.gtrbac_model.specs.WholePolicy.{is_fluent, is_limit, is_edge, is_entry, is_rule, has_cause, is_most, are_caps, joins_same, is_assignment, is_grant}
use Rattle.policy_words.specs.declared.sayings.CapKind.{CapKind}
use Rattle.policy_words.specs.CapKinds.{cap_kinds, cap_of}
use Rattle.policy_words.proofs.CapKinds.{each_most}
use Rattle.policy_words.specs.declared.sayings.Kind.{Kind}
use Rattle.policy_words.specs.declared.sayings.Kind.TheVariants as kinds
use Rattle.policy_words.specs.Wording.{fluent_names}
use Rattle.policy_words.specs.Sayings.{SaidView, version, role, user, perm, cap, admin, opening, entry, trigger, is_saying, is_formed, is_bounded, is_bodied, is_count, is_period_name, are_names}
use Rattle.policy_words.specs.Naming.{Names, NamedPolicy, role_of, user_of, period_of, cond_of, fluent_of, role_name, user_name, period_name, limit_name, fluent_named, cond_named, head_named}
use Rattle.policy_words.specs.LinesTogether.{is_known, is_known_period, is_of, most_of}
use Rattle.policy_words.specs.declared.parts.Sort.{Sort}
use Rattle.policy_words.specs.declared.parts.Sort.TheVariants.{Enabling, Assigning, Granting, Arming, Linking}
use Rattle.policy_words.specs.Sorts.{has_sort}
use Rattle.policy_words.specs.Canonical.{is_version_one, version_of, period_line, limit_line, edge_line, cap_line, kind_line, cap_lines, items_of, opening_lines, canonical_lines}
use Rattle.policy_words.specs.Valid.{IsWellFormed}
use Rattle.policy_book.proofs.Lists.{repeats, bytes_same, bytes_turned, some_same}
use Rattle.policy_book.proofs.Clashes.{clashes}
use Rattle.policy_book.proofs.Places.{names_numbered}
use Rattle.policy_book.proofs.WellFormed.{twice_joined}
use Rattle.policy_book.proofs.Mapped.{all_true, all_filter, all_map, apart_map, all_flat_map, all_numbered}
use Rattle.policy_text.proofs.Sections.{section_of_kind, kind_section, joined, picked, is_in, AreSections, few_of, all_joined, apart_joined}
use Rattle.policy_book.proofs.Back.{good, role_back, user_back, period_back, role_named, user_named, period_named, limit_named, fluent_back, names_of_fluent, cond_back, head_back, head_said, rule_known, rule_is_said}
use Rattle.policy_text.proofs.CanonicalCaps.{all_caps_apart}

-- the sections of the canonical lines
abbrev pub sections : NamedPolicy → List (ℕ × List SaidView)
sections np =
    let ns : Names = np.names in
    let ms : List Fluent = members np.policy.opening in
    (0, version (version_of np.policy) ∷ []) ∷ (1, map (λ n. role n) ns.roles) ∷ (2, map (λ n. user n) ns.users) ∷ (3, map (λ n. perm n) ns.perms) ∷ (4, map (period_line ns) (enumerate_from 0 np.policy.periods))
    ∷ (5, map (limit_line ns) (enumerate_from 0 np.policy.limits)) ∷ (6, map (edge_line ns) np.policy.edges) ∷ (7, flat_map (cap_lines ns) (enumerate_from 0 np.policy.caps)) ∷ (8, map (λ u. admin (user_name ns u)) np.policy.admins)
    ∷ (9, opening_lines ns Enabling ms) ∷ (10, opening_lines ns Assigning ms) ∷ (11, opening_lines ns Granting ms) ∷ (12, opening_lines ns Arming ms)
    ∷ (13, cond (is_version_one np.policy) [] (opening_lines ns Linking ms))
    ∷ (14, map (λ e. entry e.form (period_name ns e.period) (head_named ns e.head)) np.policy.entries) ∷ (15, map (λ r. trigger (items_of ns r) (head_named ns r.head) r.delay) np.policy.triggers) ∷ []

in_a_row : (v : SaidView) (a b c d e f g h j k l m z n o : List SaidView)
    → v ∷ a ++ b ++ c ++ d ++ e ++ f ++ g ++ h ++ j ++ k ++ l ++ m ++ z ++ n ++ o
    ≡ v ∷ (a ++ (b ++ (c ++ (d ++ (e ++ (f ++ (g ++ (h ++ (j ++ (k ++ (l ++ (m ++ (z ++ (n ++ (o ++ [])))))))))))))))
in_a_row v a b c d e f g h j k l m z n o = simp (append_assoc, append-nil)

pub lines_joined : (np : NamedPolicy) → canonical_lines np ≡ joined (sections np)
lines_joined np =
    let ns : Names = np.names in
    let ms : List Fluent = members np.policy.opening in
    in_a_row (version (version_of np.policy)) (map (λ n. role n) ns.roles) (map (λ n. user n) ns.users) (map (λ n. perm n) ns.perms) (map (period_line ns) (enumerate_from 0 np.policy.periods))
    (map (limit_line ns) (enumerate_from 0 np.policy.limits)) (map (edge_line ns) np.policy.edges) (flat_map (cap_lines ns) (enumerate_from 0 np.policy.caps)) (map (λ u. admin (user_name ns u)) np.policy.admins)
    (opening_lines ns Enabling ms) (opening_lines ns Assigning ms) (opening_lines ns Granting ms) (opening_lines ns Arming ms)
    (cond (is_version_one np.policy) [] (opening_lines ns Linking ms))
    (map (λ e. entry e.form (period_name ns e.period) (head_named ns e.head)) np.policy.entries) (map (λ r. trigger (items_of ns r) (head_named ns r.head) r.delay) np.policy.triggers)

-- what holds of no line holds where none is written

all_or_none : (test : SaidView → Bool) (none : Bool) (xs : List SaidView) → list_all test xs ≡ true → list_all test (cond none [] xs) ≡ true
all_or_none test true xs h = refl
all_or_none test false xs h = h

apart_or_none : (none : Bool) (xs : List SaidView) → repeats clashes xs ≡ false → repeats clashes (cond none [] xs) ≡ false
apart_or_none true xs h = refl
apart_or_none false xs h = h

-- a line in range, whose names are known
abbrev pub is_right : Names → SaidView → Bool
is_right ns x = is_saying x && is_known ns x

said_by : (x : SaidView) → is_formed x ≡ true → is_bounded x ≡ true → is_bodied x ≡ true → is_saying x ≡ true
said_by x f b d = and_true (is_formed x && is_bounded x) _ (and_true (is_formed x) _ f b) d

right_by : (ns : Names) (x : SaidView) → is_saying x ≡ true → is_known ns x ≡ true → is_right ns x ≡ true
right_by ns x s k = and_true _ _ s k

known_by : {A : Type 0} (o : Option A) (a : A) → o ≡ Some a → is_some o ≡ true
known_by o a e = ap is_some e

never_repeats : {A : Type 0} (xs : List A) → repeats (λ _ _. false) xs ≡ false
never_repeats [] = refl
never_repeats {A} (x ∷ xs) = there xs (never_repeats xs)
  where
    there : (ys : List A) → repeats (λ _ _. false) xs ≡ false → (list_any (λ _. false) ys || repeats (λ _ _. false) xs) ≡ false
    there [] h = h
    there (y ∷ ys) h = there ys h

length-enumerate : {A : Type 0} (n : ℕ) (xs : List A) → length (enumerate_from n xs) ≡ length xs
length-enumerate n [] = refl
length-enumerate n (x ∷ xs) = ap (λ k. suc k) (length-enumerate (n + 1) xs)

all_in : {A : Type 0} (t : ℕ) (g : A → SaidView) → ((a : A) → is_in t (g a) ≡ true) → (xs : List A) → list_all (is_in t) (map g xs) ≡ true
all_in t g on xs = all_map g (is_in t) (λ _. true) (λ a _. on a) xs (all_true xs)

-- lines that claim nothing for themselves do not clash
free : {A : Type 0} (g : A → SaidView) → ((a b : A) → clashes (g a) (g b) ≡ true → false ≡ true) → (xs : List A) → repeats clashes (map g xs) ≡ false
free g on xs = apart_map g clashes (λ _ _. false) (λ a. a) (λ _. true) (λ a b _ _ e. on a b e) xs (all_true xs) (never_repeats (map (λ a. a) xs))

module _ (np : NamedPolicy) (is : IsWellFormed np) where
  abbrev ns : Names
  ns = np.names

  abbrev ms : List Fluent
  ms = members np.policy.opening

  opened : (s : Sort) → list_all (λ f. has_sort s f && is_fluent np.policy f) (filter (has_sort s) ms) ≡ true
  opened s = all_filter (has_sort s) (is_fluent np.policy) ms is.policy.opening

  numbered_periods : list_all (λ e. nat_lt e.0 (length np.policy.periods) && is_period e.1) (enumerate_from 0 np.policy.periods) ≡ true
  numbered_periods = all_numbered is_period (length np.policy.periods) 0 np.policy.periods (omega arith) (both_true (nat_le (length np.policy.periods) 1_000) _ is.policy.periods).1

  pub numbered_limits : list_all (λ e. nat_lt e.0 (length np.policy.limits) && is_limit np.policy e.1) (enumerate_from 0 np.policy.limits) ≡ true
  numbered_limits = all_numbered (is_limit np.policy) (length np.policy.limits) 0 np.policy.limits (omega arith) (both_true (nat_le (length np.policy.limits) 1_000) _ is.policy.limits).1

  numbered_caps : list_all (λ e. nat_lt e.0 np.policy.roles && are_caps e.1) (enumerate_from 0 np.policy.caps) ≡ true
  numbered_caps = all_numbered are_caps np.policy.roles 0 np.policy.caps (let e : length np.policy.caps ≡ np.policy.roles = is.policy.caps_a_role in omega (arith, e)) is.policy.caps

  pub edges_in : list_all (is_edge np.policy) np.policy.edges ≡ true
  edges_in = (both_true (nat_le (length np.policy.edges) 4_000) _ (both_true (nat_le (length np.policy.edges) 4_000 && list_all (is_edge np.policy) np.policy.edges) _ is.policy.edges).0).1

  pub entries_in : list_all (is_entry np.policy) np.policy.entries ≡ true
  entries_in = (both_true (nat_le (length np.policy.entries) 4_000) _ is.policy.entries).1

  pub rules_in : list_all (is_rule np.policy) np.policy.triggers ≡ true
  rules_in = (both_true (nat_le (length np.policy.triggers) 4_000) _ is.policy.triggers).1

  pub admins_in : list_all (λ u. nat_lt u.0 np.policy.users) np.policy.admins ≡ true
  admins_in = (both_true (list_all (λ u. nat_lt u.0 np.policy.users) np.policy.admins) _ is.policy.admins).0

  -- sections

  at_enabled : (f : Fluent) → (has_sort Enabling f && is_fluent np.policy f) ≡ true → is_in 9 (opening (fluent_named ns f)) ≡ true
  at_enabled (base.Enabled r) e = refl
  at_enabled _ e = cc

  at_assigned : (f : Fluent) → (has_sort Assigning f && is_fluent np.policy f) ≡ true → is_in 10 (opening (fluent_named ns f)) ≡ true
  at_assigned (base.Assigned u r) e = refl
  at_assigned _ e = cc

  at_granted : (f : Fluent) → (has_sort Granting f && is_fluent np.policy f) ≡ true → is_in 11 (opening (fluent_named ns f)) ≡ true
  at_granted (base.Granted q r) e = refl
  at_granted _ e = cc

  at_armed : (f : Fluent) → (has_sort Arming f && is_fluent np.policy f) ≡ true → is_in 12 (opening (fluent_named ns f)) ≡ true
  at_armed (base.Limit l) e = refl
  at_armed _ e = cc

  at_linked : (f : Fluent) → (has_sort Linking f && is_fluent np.policy f) ≡ true → is_in 13 (opening (fluent_named ns f)) ≡ true
  at_linked (base.Edge n) e = refl
  at_linked _ e = cc

  cap_all : (test : SaidView → Bool) (kind : CapKind) (r : List ℕ) (o : Option ℕ) → ((n : ℕ) → is_most (Some n) ≡ true → test (cap kind r n) ≡ true) → is_most o ≡ true → list_all test (cap_line ns kind r o) ≡ true
  cap_all test kind r None on e = refl
  cap_all test kind r (Some n) on e = and_true _ _ (on n e) refl

  caps_all : (test : SaidView → Bool) → ((r : RoleId) (kind : CapKind) (n : ℕ) → nat_lt r.0 np.policy.roles ≡ true → is_count n ≡ true → test (cap kind (role_name ns r) n) ≡ true)
      → list_all test (flat_map (cap_lines ns) (enumerate_from 0 np.policy.caps)) ≡ true
  caps_all test on = all_flat_map (cap_lines ns) test (λ e. nat_lt e.0 np.policy.roles && are_caps e.1) each (enumerate_from 0 np.policy.caps) numbered_caps
    where
      each : (e : ℕ × Caps) → (nat_lt e.0 np.policy.roles && are_caps e.1) ≡ true → list_all test (cap_lines ns e) ≡ true
      each e h =
          let parts = both_true (nat_lt e.0 np.policy.roles) _ h in
          all_flat_map (kind_line ns e) test (λ _. true) (λ k _. cap_all test k (role_name ns (record { 0 = e.0 })) (cap_of k e.1) (λ n c. on (record { 0 = e.0 }) k n parts.0 c) (each_most e.1 parts.1 k)) cap_kinds refl

  pub are_sections : AreSections (sections np)
  are_sections = (
    refl,
    (
      all_in 1 (λ n. role n) (λ _. refl) ns.roles,
      (
        all_in 2 (λ n. user n) (λ _. refl) ns.users,
        (
          all_in 3 (λ n. perm n) (λ _. refl) ns.perms,
          (
            all_in 4 (period_line ns) (λ _. refl) (enumerate_from 0 np.policy.periods),
            (
              all_in 5 (limit_line ns) (λ _. refl) (enumerate_from 0 np.policy.limits),
              (
                all_in 6 (edge_line ns) (λ _. refl) np.policy.edges,
                (
                  caps_all (is_in 7) (λ _ _ _ _ _. refl),
                  (
                    all_in 8 (λ (u : UserId). admin (user_name ns u)) (λ _. refl) np.policy.admins,
                    (
                      all_map (λ f. opening (fluent_named ns f)) (is_in 9) (λ f. has_sort Enabling f && is_fluent np.policy f) at_enabled (filter (has_sort Enabling) ms) (opened Enabling),
                      (
                        all_map (λ f. opening (fluent_named ns f)) (is_in 10) (λ f. has_sort Assigning f && is_fluent np.policy f) at_assigned (filter (has_sort Assigning) ms) (opened Assigning),
                        (
                          all_map (λ f. opening (fluent_named ns f)) (is_in 11) (λ f. has_sort Granting f && is_fluent np.policy f) at_granted (filter (has_sort Granting) ms) (opened Granting),
                          (
                            all_map (λ f. opening (fluent_named ns f)) (is_in 12) (λ f. has_sort Arming f && is_fluent np.policy f) at_armed (filter (has_sort Arming) ms) (opened Arming),
                            (
                              all_or_none (is_in 13) (is_version_one np.policy) _ (all_map (λ f. opening (fluent_named ns f)) (is_in 13) (λ f. has_sort Linking f && is_fluent np.policy f) at_linked (filter (has_sort Linking) ms) (opened Linking)),
                              (
                                all_in 14 (λ (e : PeriodicEntry). entry e.form (period_name ns e.period) (head_named ns e.head)) (λ _. refl) np.policy.entries,
                                (all_in 15 (λ (r : TriggerView). trigger (items_of ns r) (head_named ns r.head) r.delay) (λ _. refl) np.policy.triggers, tt),
                              ),
                            ),
                          ),
                        ),
                      ),
                    ),
                  ),
                ),
              ),
            ),
          ),
        ),
      ),
    ),
  )

  -- each line is right

  version_right : (one : Bool) → list_all (is_right ns) (version (cond one 1 2) ∷ []) ≡ true
  version_right true = refl
  version_right false = refl

  right_name : (b : Bool) → b ≡ true → ((b && true && true) && true) ≡ true
  right_name b e = ap (λ z. (z && true && true) && true) e

  right_period : (e : ℕ × Period) → (nat_lt e.0 (length np.policy.periods) && is_period e.1) ≡ true → is_right ns (period_line ns e) ≡ true
  right_period e h =
      let parts = both_true (nat_lt e.0 (length np.policy.periods)) _ h in
      let ends = both_true (nat_le e.1.first e.1.last && nat_le e.1.last LAST_MINUTE) _ parts.1 in
      let order = both_true (nat_le e.1.first e.1.last) _ ends.0 in
      let q : PeriodId = record { 0 = e.0 } in
      let first_in : nat_le e.1.first LAST_MINUTE ≡ true = le-leb _ _ (before _ _ _ (leb-true _ _ order.0) (leb-true _ _ order.1)) in
      right_by ns (period_line ns e)
      (said_by (period_line ns e)
      (and_true (is_name (period_name ns q) && nat_le e.1.first LAST_MINUTE && nat_le e.1.last LAST_MINUTE) _
      (and_true (is_name (period_name ns q) && nat_le e.1.first LAST_MINUTE) _ (and_true (is_name (period_name ns q)) _ (period_named np is q parts.0) first_in) order.1) ends.1)
      order.0 refl) refl
    where
      before : (a b c : ℕ) → a ≤ b → b ≤ c → a ≤ c
      before a b c p q = omega arith

  right_limit : (e : ℕ × LimitRule) → (nat_lt e.0 (length np.policy.limits) && is_limit np.policy e.1) ≡ true → is_right ns (limit_line ns e) ≡ true
  right_limit e h =
      let l : LimitRule = e.1 in
      let parts = both_true (nat_lt e.0 (length np.policy.limits)) _ h in
      let four = both_true (is_fluent np.policy l.cond.fluent && nat_le l.prio 99 && nat_le 1 l.most && nat_le l.most 1_000_000) _ parts.1 in
      let three = both_true (is_fluent np.policy l.cond.fluent && nat_le l.prio 99 && nat_le 1 l.most) _ four.0 in
      let two = both_true (is_fluent np.policy l.cond.fluent && nat_le l.prio 99) _ three.0 in
      let one = both_true (is_fluent np.policy l.cond.fluent) _ two.0 in
      let q : LimitId = record { 0 = e.0 } in
      right_by ns (limit_line ns e)
      (said_by (limit_line ns e)
      (and_true (is_name (limit_name ns q) && nat_le l.prio 99 && are_names (fluent_names (fluent_named ns l.cond.fluent)) && is_count l.most) _
      (and_true (is_name (limit_name ns q) && nat_le l.prio 99 && are_names (fluent_names (fluent_named ns l.cond.fluent))) _
      (and_true (is_name (limit_name ns q) && nat_le l.prio 99) _ (and_true (is_name (limit_name ns q)) _ (limit_named np is q parts.0) one.1) (names_of_fluent np is l.cond.fluent one.0))
      (and_true (nat_le 1 l.most) _ two.1 three.1))
      (named l.period four.1)) refl refl)
      (and_true (is_some (cond_of ns (cond_named ns l.cond))) _ (known_by _ l.cond (cond_back np is l.cond one.0)) (known l.period four.1))
    where
      named : (o : Option PeriodId) → elim o [ None ↦ true | Some q ↦ nat_lt q.0 (length np.policy.periods) ] ≡ true → is_period_name (option_map (period_name ns) o) ≡ true
      named None k = refl
      named (Some q) k = period_named np is q k

      known : (o : Option PeriodId) → elim o [ None ↦ true | Some q ↦ nat_lt q.0 (length np.policy.periods) ] ≡ true → is_known_period ns (option_map (period_name ns) o) ≡ true
      known None k = refl
      known (Some q) k = known_by (period_of ns (period_name ns q)) q (period_back np is q k)

  pub edge_ends : (e : HierEdge) → is_edge np.policy e ≡ true → (nat_lt e.senior.0 np.policy.roles ≡ true) × (nat_lt e.junior.0 np.policy.roles ≡ true)
  edge_ends e h =
      both_true (nat_lt e.senior.0 np.policy.roles) _ (both_true (nat_lt e.senior.0 np.policy.roles && nat_lt e.junior.0 np.policy.roles) _ h).0

  right_edge : (e : HierEdge) → is_edge np.policy e ≡ true → is_right ns (edge_line ns e) ≡ true
  right_edge e h =
      let ends = edge_ends e h in
      right_by ns (edge_line ns e) (said_by (edge_line ns e) (and_true _ _ (role_named np is e.senior ends.0) (role_named np is e.junior ends.1)) refl refl)
      (and_true _ _ (known_by _ e.senior (role_back np is e.senior ends.0)) (known_by _ e.junior (role_back np is e.junior ends.1)))

  right_cap : (r : RoleId) (kind : CapKind) (n : ℕ) → nat_lt r.0 np.policy.roles ≡ true → is_count n ≡ true → is_right ns (cap kind (role_name ns r) n) ≡ true
  right_cap r kind n e c =
      right_by ns (cap kind (role_name ns r) n) (said_by (cap kind (role_name ns r) n) (and_true (is_name (role_name ns r)) _ (role_named np is r e) c) refl refl) (known_by (role_of ns (role_name ns r)) r (role_back np is r e))

  right_admin : (u : UserId) → nat_lt u.0 np.policy.users ≡ true → is_right ns (admin (user_name ns u)) ≡ true
  right_admin u e =
      right_by ns (admin (user_name ns u)) (said_by (admin (user_name ns u)) (user_named np is u e) refl refl) (known_by (user_of ns (user_name ns u)) u (user_back np is u e))

  right_opening : (s : Sort) (f : Fluent) → (has_sort s f && is_fluent np.policy f) ≡ true → is_right ns (opening (fluent_named ns f)) ≡ true
  right_opening s f h =
      let e = (both_true (has_sort s f) _ h).1 in
      right_by ns (opening (fluent_named ns f)) (said_by (opening (fluent_named ns f)) (names_of_fluent np is f e) refl refl) (known_by (fluent_of ns (fluent_named ns f)) f (fluent_back np is f e))

  right_entry : (e : PeriodicEntry) → is_entry np.policy e ≡ true → is_right ns (entry e.form (period_name ns e.period) (head_named ns e.head)) ≡ true
  right_entry e h =
      let parts = both_true (nat_lt e.period.0 (length np.policy.periods)) _ h in
      let x : SaidView = entry e.form (period_name ns e.period) (head_named ns e.head) in
      right_by ns x (said_by x (and_true (is_name (period_name ns e.period)) _ (period_named np is e.period parts.0) (head_said np is e.head parts.1)) refl refl)
      (and_true (is_some (period_of ns (period_name ns e.period))) _ (known_by _ e.period (period_back np is e.period parts.0)) (known_by _ e.head (head_back np is e.head parts.1)))

  right_rule : (r : TriggerView) → (is_rule np.policy r && has_cause r) ≡ true → is_right ns (trigger (items_of ns r) (head_named ns r.head) r.delay) ≡ true
  right_rule r h = right_by ns (trigger (items_of ns r) (head_named ns r.head) r.delay) (rule_is_said np is r h) (rule_known np is r (both_true (is_rule np.policy r) _ h).0)

  both_all : (rs : List TriggerView) → list_all (is_rule np.policy) rs ≡ true → list_all has_cause rs ≡ true → list_all (λ r. is_rule np.policy r && has_cause r) rs ≡ true
  both_all [] h k = refl
  both_all (r ∷ rs) h k =
      let hs = both_true (is_rule np.policy r) _ h in
      let ks = both_true (has_cause r) _ k in
      and_true _ _ (and_true _ _ hs.0 ks.0) (both_all rs hs.1 ks.1)

  pub all_right : list_all (is_right ns) (joined (sections np)) ≡ true
  all_right =
      all_joined (is_right ns) (sections np) (
        version_right (is_version_one np.policy),
        (
          all_map (λ n. role n) (is_right ns) is_name (λ n e. right_name (is_name n) e) ns.roles (good 1_000 ns.roles is.roles).named,
          (
            all_map (λ n. user n) (is_right ns) is_name (λ n e. right_name (is_name n) e) ns.users (good 10_000 ns.users is.users).named,
            (
              all_map (λ n. perm n) (is_right ns) is_name (λ n e. right_name (is_name n) e) ns.perms (good 10_000 ns.perms is.perms).named,
              (
                all_map (period_line ns) (is_right ns) _ right_period (enumerate_from 0 np.policy.periods) numbered_periods,
                (
                  all_map (limit_line ns) (is_right ns) _ right_limit (enumerate_from 0 np.policy.limits) numbered_limits,
                  (
                    all_map (edge_line ns) (is_right ns) (is_edge np.policy) right_edge np.policy.edges edges_in,
                    (
                      caps_all (is_right ns) right_cap,
                      (
                        all_map (λ u. admin (user_name ns u)) (is_right ns) (λ u. nat_lt u.0 np.policy.users) right_admin np.policy.admins admins_in,
                        (
                          all_map (λ f. opening (fluent_named ns f)) (is_right ns) _ (right_opening Enabling) (filter (has_sort Enabling) ms) (opened Enabling),
                          (
                            all_map (λ f. opening (fluent_named ns f)) (is_right ns) _ (right_opening Assigning) (filter (has_sort Assigning) ms) (opened Assigning),
                            (
                              all_map (λ f. opening (fluent_named ns f)) (is_right ns) _ (right_opening Granting) (filter (has_sort Granting) ms) (opened Granting),
                              (
                                all_map (λ f. opening (fluent_named ns f)) (is_right ns) _ (right_opening Arming) (filter (has_sort Arming) ms) (opened Arming),
                                (
                                  all_or_none (is_right ns) (is_version_one np.policy) _ (all_map (λ f. opening (fluent_named ns f)) (is_right ns) _ (right_opening Linking) (filter (has_sort Linking) ms) (opened Linking)),
                                  (
                                    all_map (λ e. entry e.form (period_name ns e.period) (head_named ns e.head)) (is_right ns) (is_entry np.policy) right_entry np.policy.entries entries_in,
                                    (all_map (λ r. trigger (items_of ns r) (head_named ns r.head) r.delay) (is_right ns) (λ r. is_rule np.policy r && has_cause r) right_rule np.policy.triggers (both_all np.policy.triggers rules_in is.policy.causes), tt),
                                  ),
                                ),
                              ),
                            ),
                          ),
                        ),
                      ),
                    ),
                  ),
                ),
              ),
            ),
          ),
        ),
      )

  -- no line clashes with a later one

  names_apart : (g : List ℕ → SaidView) → ((a b : List ℕ) → clashes (g a) (g b) ≡ true → bytes_eq b a ≡ true) → (names : List (List ℕ)) → repeats bytes_eq names ≡ false → repeats clashes (map g names) ≡ false
  names_apart g on names once =
      apart_map g clashes bytes_eq (λ n. n) (λ _. true) (λ a b _ _ e. bytes_turned b a (on a b e)) names (all_true names) (ap (repeats bytes_eq) (map-id names) ∙ once)

  numbered_apart : {A : Type 0} (g : ℕ × A → SaidView) (names : List (List ℕ))
      → ((a b : ℕ × A) → clashes (g a) (g b) ≡ true → bytes_eq (unwrap_or (slice_get names b.0) []) (unwrap_or (slice_get names a.0) []) ≡ true)
      → repeats bytes_eq names ≡ false → (xs : List A) → length xs ≡ length names → repeats clashes (map g (enumerate_from 0 xs)) ≡ false
  numbered_apart g names on once xs e =
      apart_map g clashes bytes_eq (λ a. unwrap_or (slice_get names a.0) []) (λ _. true)
      (λ a b _ _ k. bytes_turned (unwrap_or (slice_get names b.0) []) (unwrap_or (slice_get names a.0) []) (on a b k))
      (enumerate_from 0 xs) (all_true (enumerate_from 0 xs)) (ap (repeats bytes_eq) (names_numbered names [] names 0 xs refl refl e) ∙ once)

  one_role : (a b : RoleId) → nat_lt a.0 np.policy.roles ≡ true → nat_lt b.0 np.policy.roles ≡ true → bytes_eq (role_name ns b) (role_name ns a) ≡ true → same_role a b ≡ true
  one_role a b p q e =
      let same : Some a ≡ Some b = sym (role_back np is a p) ∙ ap (role_of ns) (sym (bytes_same _ _ e)) ∙ role_back np is b q in
      eq-eqb a.0 b.0 (ap (λ r. r.0) (some_same a b same))

  edges_apart : (e f : HierEdge) → is_edge np.policy e ≡ true → is_edge np.policy f ≡ true → clashes (edge_line ns e) (edge_line ns f) ≡ true → joins_same e f ≡ true
  edges_apart e f p q h =
      let ends = edge_ends e p in
      let others = edge_ends f q in
      let parts = both_true (bytes_eq (role_name ns f.senior) (role_name ns e.senior)) _ h in
      and_true _ _ (one_role e.senior f.senior ends.0 others.0 parts.0) (one_role e.junior f.junior ends.1 others.1 parts.1)

  edges_once : repeats joins_same (map (λ e. e) np.policy.edges) ≡ false
  edges_once =
      ap (repeats joins_same) (map-id np.policy.edges) ∙ sym (twice_joined np.policy.edges)
      ∙ not-true _ (both_true (nat_le (length np.policy.edges) 4_000 && list_all (is_edge np.policy) np.policy.edges) _ is.policy.edges).1

  pub roles_found : (n : ℕ) → n < length ns.roles → role_of ns (role_name ns (record { 0 = n })) ≡ Some (record { 0 = n })
  roles_found n lt = role_back np is (record { 0 = n }) (lt-ltb _ _ (subst (λ m. n < m) (sym is.role_count) lt))

  pub caps_count : length np.policy.caps ≡ length ns.roles
  caps_count = is.policy.caps_a_role ∙ is.role_count

  pub all_apart : repeats clashes (joined (sections np)) ≡ false
  all_apart =
      apart_joined (sections np) are_sections refl (
        refl,
        (
          names_apart (λ n. role n) (λ a b e. e) ns.roles (good 1_000 ns.roles is.roles).once,
          (
            names_apart (λ n. user n) (λ a b e. e) ns.users (good 10_000 ns.users is.users).once,
            (
              names_apart (λ n. perm n) (λ a b e. e) ns.perms (good 10_000 ns.perms is.perms).once,
              (
                numbered_apart (period_line ns) ns.periods (λ a b e. e) (good 1_000 ns.periods is.periods).once np.policy.periods is.period_count,
                (
                  numbered_apart (limit_line ns) ns.limits (λ a b e. e) (good 1_000 ns.limits is.limits).once np.policy.limits is.limit_count,
                  (
                    apart_map (edge_line ns) clashes joins_same (λ e. e) (is_edge np.policy) edges_apart np.policy.edges edges_in edges_once,
                    (
                      all_caps_apart ns roles_found 0 np.policy.caps (let e : length np.policy.caps ≡ length ns.roles = caps_count in omega (arith, e)),
                      (
                        free (λ u. admin (user_name ns u)) (λ a b e. e) np.policy.admins,
                        (
                          free (λ f. opening (fluent_named ns f)) (λ a b e. e) (filter (has_sort Enabling) ms),
                          (
                            free (λ f. opening (fluent_named ns f)) (λ a b e. e) (filter (has_sort Assigning) ms),
                            (
                              free (λ f. opening (fluent_named ns f)) (λ a b e. e) (filter (has_sort Granting) ms),
                              (
                                free (λ f. opening (fluent_named ns f)) (λ a b e. e) (filter (has_sort Arming) ms),
                                (
                                  apart_or_none (is_version_one np.policy) _ (free (λ f. opening (fluent_named ns f)) (λ a b e. e) (filter (has_sort Linking) ms)),
                                  (
                                    free (λ e. entry e.form (period_name ns e.period) (head_named ns e.head)) (λ a b e. e) np.policy.entries,
                                    (free (λ r. trigger (items_of ns r) (head_named ns r.head) r.delay) (λ a b e. e) np.policy.triggers, tt),
                                  ),
                                ),
                              ),
                            ),
                          ),
                        ),
                      ),
                    ),
                  ),
                ),
              ),
            ),
          ),
        ),
      )

  -- no kind has too many

  as_many : {A : Type 0} (g : A → SaidView) (xs : List A) → length (map g xs ++ []) ≡ length xs
  as_many g xs = ap length (append-nil (map g xs)) ∙ length-map xs g

  few_sorted : (s : Sort) (test : Fluent → Bool) → ((f : Fluent) → has_sort s f ≡ test f) → (most : ℕ) → count_by test ms ≤ most → length (opening_lines ns s ms ++ []) ≤ most
  few_sorted s test alike most le =
      let many : length (opening_lines ns s ms ++ []) ≡ length (filter (has_sort s) ms) = as_many (λ f. opening (fluent_named ns f)) (filter (has_sort s) ms) in
      let same : length (filter (has_sort s) ms) ≡ length (filter test ms) = ap length (filter_agree (has_sort s) test alike ms) in
      let counted : length (filter test ms) ≡ count_by test ms = length-filter test ms in
      omega (arith, many, same, counted, le)

  assigned_alike : (f : Fluent) → has_sort Assigning f ≡ is_assignment f
  assigned_alike (base.Assigned u r) = refl
  assigned_alike _ = refl

  granted_alike : (f : Fluent) → has_sort Granting f ≡ is_grant f
  granted_alike (base.Granted q r) = refl
  granted_alike _ = refl

  few_listed : {A : Type 0} (g : A → SaidView) (xs : List A) (most : ℕ) → length xs ≤ most → length (map g xs ++ []) ≤ most
  few_listed g xs most le = subst (λ n. n ≤ most) (sym (as_many g xs)) le

  few_numbered : {A : Type 0} (g : ℕ × A → SaidView) (xs : List A) (most : ℕ) → nat_le (length xs) most ≡ true → length (map g (enumerate_from 0 xs) ++ []) ≤ most
  few_numbered g xs most le = subst (λ n. n ≤ most) (sym (as_many g (enumerate_from 0 xs) ∙ length-enumerate 0 xs)) (leb-true _ _ le)

  few_picked : (k : Kind) → length (picked (nat_eq (section_of_kind k)) (sections np)) ≤ most_of k
  few_picked kinds.Roles = few_listed (λ n. role n) ns.roles 1_000 (good 1_000 ns.roles is.roles).few
  few_picked kinds.Users = few_listed (λ n. user n) ns.users 10_000 (good 10_000 ns.users is.users).few
  few_picked kinds.Perms = few_listed (λ n. perm n) ns.perms 10_000 (good 10_000 ns.perms is.perms).few
  few_picked kinds.Periods = few_numbered (period_line ns) np.policy.periods 1_000 (both_true (nat_le (length np.policy.periods) 1_000) _ is.policy.periods).0
  few_picked kinds.Limits = few_numbered (limit_line ns) np.policy.limits 1_000 (both_true (nat_le (length np.policy.limits) 1_000) _ is.policy.limits).0
  few_picked kinds.Edges =
      few_listed (edge_line ns) np.policy.edges 4_000
      (leb-true _ _ (both_true (nat_le (length np.policy.edges) 4_000) _ (both_true (nat_le (length np.policy.edges) 4_000 && list_all (is_edge np.policy) np.policy.edges) _ is.policy.edges).0).0)
  few_picked kinds.Entries =
      few_listed (λ e. entry e.form (period_name ns e.period) (head_named ns e.head)) np.policy.entries 4_000 (leb-true _ _ (both_true (nat_le (length np.policy.entries) 4_000) _ is.policy.entries).0)
  few_picked kinds.Triggers =
      few_listed (λ r. trigger (items_of ns r) (head_named ns r.head) r.delay) np.policy.triggers 4_000 (leb-true _ _ (both_true (nat_le (length np.policy.triggers) 4_000) _ is.policy.triggers).0)
  few_picked kinds.Assigned = few_sorted Assigning is_assignment assigned_alike 50_000 is.policy.few_assigned
  few_picked kinds.Granted = few_sorted Granting is_grant granted_alike 50_000 is.policy.few_granted

  pub few_lines : (k : Kind) → length (filter (is_of k) (joined (sections np))) ≤ most_of k
  few_lines k =
      let few : length (filter (is_of k) (joined (sections np))) ≤ length (picked (nat_eq (section_of_kind k)) (sections np)) =
      few_of (is_of k) (nat_eq (section_of_kind k)) (λ x h. false_from_ne_true _ (λ e. clash _ (eq-eqb _ _ (sym (kind_section k x e))) h)) (sections np) are_sections in
      let most : length (picked (nat_eq (section_of_kind k)) (sections np)) ≤ most_of k = few_picked k in
      omega (arith, few, most)
