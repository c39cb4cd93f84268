-- The canonical lines of a well-formed policy make it again.
use Rattle.std.proofs.Common.{◌≡◌, ℕ, ◌+◌, ◌≤◌, Bool, true, false, cond, not, ◌||◌, ◌&&◌, nat_eq, nat_le, nat_lt, List, [], ◌∷◌, ◌++◌, map, length, filter, Option, Some, None, Ok, refl, sym, ap, ◌∙◌, subst, arith}
use Rattle.std.specs.Prelude.{option_map, All, IsTrue}
use Rattle.std.specs.List.{list_all, list_any, filter_map, flat_map, enumerate_from, AllByRecursion}
use Rattle.std.proofs.lemmas.Bool.{or_from}
use Rattle.std.proofs.lemmas.List.{append-nil, map-id}
use Rattle.std.proofs.lemmas.List.Elements.{filter_map-append, All-from_recursion}
use Rattle.gt_base.specs.Held.{TriggerView}
use Rattle.gt_base.specs.Sets.{members, set_of}
use Rattle.gt_base.specs.declared.events.PeriodId.{PeriodId}
use Rattle.gt_base.specs.declared.events.UserId.{UserId}
use Rattle.gt_base.specs.declared.events.Fluent.{Fluent}
use Rattle.gt_base.specs.declared.policies.PeriodicEntry.{PeriodicEntry}
use Rattle.gt_base.specs.declared.policies.LimitRule.{LimitRule}
use Rattle.gt_base.specs.declared.policies.HierEdge.{HierEdge}
use Rattle.gt_base.specs.declared.policies.Caps.{Caps}
use Rattle.gtrbac_model.specs.Policy.{Policy}
use Rattle.gtrbac_model.specs.Same.{same_user, same_fluent, lists}
use Rattle.gtrbac_model.proofs.Elements.{both_true}
use Rattle.gtrbac_model.specs.WholePolicy.{is_fluent, is_limit, is_edge, is_entry, is_rule}
use Rattle.gtrbac_model.specs.EdgeCycles.{edge_cycle}
use Rattle.policy_book.proofs.Acyclic.{none_is_acyclic}
use Rattle.policy_words.specs.declared.parts.NamedFluent.TheVariants as fluents
use Rattle.policy_words.specs.declared.sayings.CapKind.{CapKind}
use Rattle.policy_words.specs.Reading.{Numbered}
use Rattle.policy_words.specs.Wording.{◌>>=◌}
use Rattle.policy_words.specs.Sayings.{SaidView, version, role, user, perm, period, limit, edge, cap, admin, opening, entry, trigger, is_saying}
use Rattle.policy_words.specs.Naming.{Names, NamedPolicy, same_pair, user_name, period_name, limit_name, role_name, fluent_named, head_named}
use Rattle.policy_words.specs.CapKinds.{no_caps}
use Rattle.policy_words.specs.Making.{no_names, names_of, DraftView, fresh, drafted, policy_of, named_policy, inherits, activates, period_said, during_of, limit_said, edge_said, entry_said, rule_said, admin_said, opening_said, users_from, is_second, are_second, linked_at_first}
use Rattle.policy_words.specs.LinesTogether.{is_known, is_of, most_of, first_fault, without_cycle, without_fault, said_in, build}
use Rattle.policy_words.specs.declared.parts.Sort.{Sort}
use Rattle.policy_words.specs.declared.parts.Sort.TheVariants.{Enabling, Assigning, Granting, Arming, Linking}
use Rattle.policy_words.specs.Sorts.{has_sort}
use Rattle.policy_words.specs.Canonical.{edge_kind, is_version_one, period_line, limit_line, edge_line, cap_line, cap_lines, items_of, opening_lines, canonical_lines}
use Rattle.policy_words.specs.Valid.{IsWellFormed, pair_of}
use Rattle.policy_book.specs.Said.{is_version}
use Rattle.policy_book.specs.Laws.{numbered_from}
use Rattle.policy_text.specs.CanonicalLaws.{CanonicalIsBuilt, CanonicalAreSayings, VersionIsFirst}
use Rattle.policy_book.proofs.Lists.{repeats, with_each, all_at_end}
use Rattle.policy_book.proofs.Clashes.{clashes}
use Rattle.policy_book.proofs.Naming.{with_names, all_new, role_in, user_in, perm_in, period_in, limit_in, roles_kept, users_kept, perms_kept, periods_kept, limits_kept, pair_in, pairs_kept, pair_turned}
use Rattle.policy_book.proofs.Places.{names_numbered}
use Rattle.policy_book.proofs.DraftedLines.{drafted_periods, drafted_limits, drafted_edges, drafted_entries, drafted_triggers}
use Rattle.policy_book.proofs.Mapped.{all_true, all_weaker, all_filter, all_map, all_flat_map, kept_map, items_of_numbered}
use Rattle.policy_text.proofs.Sections.{section_of, joined, picked, kept_of, all_joined}
use Rattle.policy_text.proofs.Faultless.{has_no_fault}
use Rattle.policy_book.proofs.Back.{good, pairs_once, role_back, user_back, period_back, fluent_back, cond_back, head_back, rule_back}
use Rattle.policy_text.proofs.CanonicalCaps.{caps_after, cap_in, drafted_caps, caps_kept, caps_back, lines_all}
use Rattle.policy_text.proofs.CanonicalMembers.{with_all, drafted_admins, drafted_on, by_sort, opening_back, admins_back}
use Rattle.policy_text.proofs.CanonicalSections.{sections, lines_joined, is_right, are_sections, all_right, all_apart, few_lines, numbered_limits, edges_in, edge_ends, entries_in, rules_in, admins_in, roles_found, caps_count}

-- readings take nothing outside their sections

no_role : (x : SaidView) → nat_eq 1 (section_of x) ≡ false → role_in x ≡ None
no_role (role n) e = cc
no_role _ e = refl

no_user : (x : SaidView) → nat_eq 2 (section_of x) ≡ false → user_in x ≡ None
no_user (user n) e = cc
no_user _ e = refl

no_perm : (x : SaidView) → nat_eq 3 (section_of x) ≡ false → perm_in x ≡ None
no_perm (perm n) e = cc
no_perm _ e = refl

no_period : (x : SaidView) → nat_eq 4 (section_of x) ≡ false → period_in x ≡ None
no_period (period n f l e) h = cc
no_period _ h = refl

no_limit : (x : SaidView) → nat_eq 5 (section_of x) ≡ false → limit_in x ≡ None
no_limit (limit n p c most d) h = cc
no_limit _ h = refl

no_cap : (x : SaidView) → nat_eq 7 (section_of x) ≡ false → cap_in x ≡ None
no_cap (cap k r n) h = cc
no_cap _ h = refl

no_pair : (x : SaidView) → nat_eq 6 (section_of x) ≡ false → pair_in x ≡ None
no_pair (edge k st s j) h = cc
no_pair _ h = refl

module _ (ns : Names) where
  no_period_said : (x : SaidView) → nat_eq 4 (section_of x) ≡ false → period_said ns x ≡ None
  no_period_said (period n f l e) h = cc
  no_period_said _ h = refl

  no_limit_said : (x : SaidView) → nat_eq 5 (section_of x) ≡ false → limit_said ns x ≡ None
  no_limit_said (limit n p c most d) h = cc
  no_limit_said _ h = refl

  no_edge_said : (x : SaidView) → nat_eq 6 (section_of x) ≡ false → edge_said ns x ≡ None
  no_edge_said (edge k st s j) h = cc
  no_edge_said _ h = refl

  no_admin_said : (x : SaidView) → nat_eq 8 (section_of x) ≡ false → admin_said ns x ≡ None
  no_admin_said (admin u) h = cc
  no_admin_said _ h = refl

  no_entry_said : (x : SaidView) → nat_eq 14 (section_of x) ≡ false → entry_said ns x ≡ None
  no_entry_said (entry f p h) e = cc
  no_entry_said _ e = refl

  no_rule_said : (x : SaidView) → nat_eq 15 (section_of x) ≡ false → rule_said ns x ≡ None
  no_rule_said (trigger is h d) e = cc
  no_rule_said _ e = refl

  no_opening_said : (x : SaidView) → (nat_le 9 (section_of x) && nat_le (section_of x) 13) ≡ false → opening_said ns x ≡ None
  no_opening_said (opening (fluents.Enabled r)) e = cc
  no_opening_said (opening (fluents.Assigned u r)) e = cc
  no_opening_said (opening (fluents.Granted q r)) e = cc
  no_opening_said (opening (fluents.Limit l)) e = cc
  no_opening_said (opening (fluents.Edge s j)) e = cc
  no_opening_said _ e = refl

-- a reading of one section
of_section : {A B : Type 0} (f : SaidView → Option B) (g : A → SaidView) (h : A → B) (q : A → Bool) → ((a : A) → q a ≡ true → f (g a) ≡ Some (h a)) → (xs : List A) → list_all q xs ≡ true → filter_map f (map g xs ++ []) ≡ map h xs
of_section f g h q on xs all = ap (filter_map f) (append-nil (map g xs)) ∙ kept_map g f h q on xs all

kind_inherits : (a b : Bool) → (a || b) ≡ true → inherits (edge_kind a b) ≡ a
kind_inherits true true e = refl
kind_inherits true false e = refl
kind_inherits false b e = refl

kind_activates : (a b : Bool) → (a || b) ≡ true → activates (edge_kind a b) ≡ b
kind_activates true true e = refl
kind_activates true false e = refl
kind_activates false true e = refl
kind_activates false false e = cc

said_numbered : (n : ℕ) (xs : List SaidView) → said_in (numbered_from n xs) ≡ xs
said_numbered n [] = refl
said_numbered n (x ∷ xs) = ap (λ zs. x ∷ zs) (said_numbered (n + 1) xs)

-- the version

no_version : {A : Type 0} (g : A → SaidView) → ((a : A) → is_version (g a) ≡ false) → (xs : List A) → list_all (λ x. not (is_version x)) (map g xs) ≡ true
no_version g on xs = all_map g (λ x. not (is_version x)) (λ _. true) (λ a _. ap not (on a)) xs (all_true xs)

none_linked : (none : Bool) (xs : List SaidView) → list_all (λ x. not (is_version x)) xs ≡ true → list_all (λ x. not (is_version x)) (cond none [] xs) ≡ true
none_linked true xs h = refl
none_linked false xs h = h

abbrev pub sections_behind : NamedPolicy → List (ℕ × List SaidView)
sections_behind np = elim (sections np) [ [] ↦ [] | s ∷ ss ↦ ss ]

pub no_versions : (np : NamedPolicy) → list_all (λ x. not (is_version x)) (joined (sections_behind np)) ≡ true
no_versions np =
    let ns : Names = np.names in
    let ms : List Fluent = members np.policy.opening in
    all_joined (λ x. not (is_version x)) (sections_behind np) (
      no_version (λ n. role n) (λ _. refl) ns.roles,
      (
        no_version (λ n. user n) (λ _. refl) ns.users,
        (
          no_version (λ n. perm n) (λ _. refl) ns.perms,
          (
            no_version (period_line ns) (λ _. refl) (enumerate_from 0 np.policy.periods),
            (
              no_version (limit_line ns) (λ _. refl) (enumerate_from 0 np.policy.limits),
              (
                no_version (edge_line ns) (λ _. refl) np.policy.edges,
                (
                  all_flat_map (cap_lines ns) (λ x. not (is_version x)) (λ _. true) (λ e _. lines_all ns (λ x. not (is_version x)) e.0 e.1 (λ kind o. no_cap_version kind (role_name ns (record { 0 = e.0 })) o)) (enumerate_from 0 np.policy.caps) (all_true (enumerate_from 0 np.policy.caps)),
                  (
                    no_version (λ (u : UserId). admin (user_name ns u)) (λ _. refl) np.policy.admins,
                    (
                      no_version (λ f. opening (fluent_named ns f)) (λ _. refl) (filter (has_sort Enabling) ms),
                      (
                        no_version (λ f. opening (fluent_named ns f)) (λ _. refl) (filter (has_sort Assigning) ms),
                        (
                          no_version (λ f. opening (fluent_named ns f)) (λ _. refl) (filter (has_sort Granting) ms),
                          (
                            no_version (λ f. opening (fluent_named ns f)) (λ _. refl) (filter (has_sort Arming) ms),
                            (
                              none_linked (is_version_one np.policy) (opening_lines ns Linking ms) (no_version (λ f. opening (fluent_named ns f)) (λ _. refl) (filter (has_sort Linking) ms)),
                              (
                                no_version (λ (e : PeriodicEntry). entry e.form (period_name ns e.period) (head_named ns e.head)) (λ _. refl) np.policy.entries,
                                (no_version (λ (r : TriggerView). trigger (items_of ns r) (head_named ns r.head) r.delay) (λ _. refl) np.policy.triggers, tt),
                              ),
                            ),
                          ),
                        ),
                      ),
                    ),
                  ),
                ),
              ),
            ),
          ),
        ),
      ),
    )
  where
    no_cap_version : (kind : CapKind) (r : List ℕ) (o : Option ℕ) → list_all (λ x. not (is_version x)) (cap_line np.names kind r o) ≡ true
    no_cap_version kind r None = refl
    no_cap_version kind r (Some n) = refl

not_second : (x : SaidView) → not (is_version x) ≡ true → is_second x ≡ false
not_second (version n) h = cc
not_second _ h = refl

no_second : (xs : List SaidView) → list_all (λ x. not (is_version x)) xs ≡ true → list_any is_second xs ≡ false
no_second [] h = refl
no_second (x ∷ xs) h = let parts = both_true (not (is_version x)) _ h in or_from (is_second x) _ (not_second x parts.0) (no_second xs parts.1)

module _ (np : NamedPolicy) (is : IsWellFormed np) where
  abbrev ns : Names
  ns = np.names

  abbrev p : Policy
  p = np.policy

  abbrev lines : List SaidView
  lines = canonical_lines np

  taken : {B : Type 0} (f : SaidView → Option B) (t : ℕ → Bool) → ((x : SaidView) → t (section_of x) ≡ false → f x ≡ None) → filter_map f lines ≡ filter_map f (picked t (sections np))
  taken f t off = ap (filter_map f) (lines_joined np) ∙ kept_of f t off (sections np) (are_sections np is)

  -- names

  read_roles : filter_map role_in lines ≡ ns.roles
  read_roles = taken role_in (nat_eq 1) no_role ∙ of_section role_in (λ n. role n) (λ n. n) (λ _. true) (λ _ _. refl) ns.roles (all_true ns.roles) ∙ map-id ns.roles

  read_users : filter_map user_in lines ≡ ns.users
  read_users = taken user_in (nat_eq 2) no_user ∙ of_section user_in (λ n. user n) (λ n. n) (λ _. true) (λ _ _. refl) ns.users (all_true ns.users) ∙ map-id ns.users

  read_perms : filter_map perm_in lines ≡ ns.perms
  read_perms = taken perm_in (nat_eq 3) no_perm ∙ of_section perm_in (λ n. perm n) (λ n. n) (λ _. true) (λ _ _. refl) ns.perms (all_true ns.perms) ∙ map-id ns.perms

  read_period_names : filter_map period_in lines ≡ ns.periods
  read_period_names =
      taken period_in (nat_eq 4) no_period
      ∙ of_section period_in (period_line ns) (λ e. period_name ns (record { 0 = e.0 })) (λ _. true) (λ _ _. refl) (enumerate_from 0 p.periods) (all_true (enumerate_from 0 p.periods))
      ∙ names_numbered ns.periods [] ns.periods 0 p.periods refl refl is.period_count

  read_limit_names : filter_map limit_in lines ≡ ns.limits
  read_limit_names =
      taken limit_in (nat_eq 5) no_limit
      ∙ of_section limit_in (limit_line ns) (λ e. limit_name ns (record { 0 = e.0 })) (λ _. true) (λ _ _. refl) (enumerate_from 0 p.limits) (all_true (enumerate_from 0 p.limits))
      ∙ names_numbered ns.limits [] ns.limits 0 p.limits refl refl is.limit_count

  read_pairs : filter_map pair_in lines ≡ ns.edges
  read_pairs = taken pair_in (nat_eq 6) no_pair ∙ of_section pair_in (edge_line ns) (pair_of ns) (λ _. true) (λ _ _. refl) p.edges (all_true p.edges) ∙ sym is.edge_pairs

  names_read : names_of lines ≡ ns
  names_read =
      let r = roles_kept no_names lines ∙ ap (with_names []) read_roles ∙ all_new [] ns.roles (good 1_000 ns.roles is.roles).once in
      let u = users_kept no_names lines ∙ ap (with_names []) read_users ∙ all_new [] ns.users (good 10_000 ns.users is.users).once in
      let q = perms_kept no_names lines ∙ ap (with_names []) read_perms ∙ all_new [] ns.perms (good 10_000 ns.perms is.perms).once in
      let t = periods_kept no_names lines ∙ ap (with_names []) read_period_names ∙ all_new [] ns.periods (good 1_000 ns.periods is.periods).once in
      let l = limits_kept no_names lines ∙ ap (with_names []) read_limit_names ∙ all_new [] ns.limits (good 1_000 ns.limits is.limits).once in
      let e = pairs_kept no_names lines ∙ ap (with_each same_pair []) read_pairs ∙ all_at_end same_pair pair_turned [] ns.edges (pairs_once np is) in
      λ i. record { roles = r i; users = u i; perms = q i; periods = t i; limits = l i; edges = e i }

  -- rules

  read_periods : filter_map (period_said ns) lines ≡ p.periods
  read_periods =
      taken (period_said ns) (nat_eq 4) (no_period_said ns)
      ∙ of_section (period_said ns) (period_line ns) (λ e. e.1) (λ _. true) (λ _ _. refl) (enumerate_from 0 p.periods) (all_true (enumerate_from 0 p.periods)) ∙ items_of_numbered 0 p.periods

  limit_back : (e : ℕ × LimitRule) → (nat_lt e.0 (length p.limits) && is_limit p e.1) ≡ true → limit_said ns (limit_line ns e) ≡ Some e.1
  limit_back e h =
      let l : LimitRule = e.1 in
      let four = both_true (is_fluent p l.cond.fluent && nat_le l.prio 99 && nat_le 1 l.most && nat_le l.most 1_000_000) _ (both_true (nat_lt e.0 (length p.limits)) _ h).1 in
      let three = both_true (is_fluent p l.cond.fluent && nat_le l.prio 99 && nat_le 1 l.most) _ four.0 in
      let two = both_true (is_fluent p l.cond.fluent && nat_le l.prio 99) _ three.0 in
      let one = both_true (is_fluent p l.cond.fluent) _ two.0 in
      λ i. cond_back np is l.cond one.0 i >>= λ c. during l.period four.1 i >>= λ w. Some (let m : LimitRule = record { cond = c; prio = l.prio; most = l.most; period = w } in m)
    where
      during : (o : Option PeriodId) → elim o [ None ↦ true | Some q ↦ nat_lt q.0 (length p.periods) ] ≡ true → during_of ns (option_map (period_name ns) o) ≡ Some o
      during None k = refl
      during (Some q) k = ap (λ o. o >>= λ n. Some (Some n)) (period_back np is q k)

  read_limits : filter_map (limit_said ns) lines ≡ p.limits
  read_limits =
      taken (limit_said ns) (nat_eq 5) (no_limit_said ns)
      ∙ of_section (limit_said ns) (limit_line ns) (λ e. e.1) (λ e. nat_lt e.0 (length p.limits) && is_limit p e.1) limit_back (enumerate_from 0 p.limits) (numbered_limits np is) ∙ items_of_numbered 0 p.limits

  edge_back : (e : HierEdge) → is_edge p e ≡ true → edge_said ns (edge_line ns e) ≡ Some e
  edge_back e h =
      let ends = edge_ends np is e h in
      let either = (both_true (nat_lt e.senior.0 p.roles && nat_lt e.junior.0 p.roles) _ h).1 in
      λ i.
      role_back np is e.senior ends.0 i
      >>= λ s. role_back np is e.junior ends.1 i >>= λ j. Some (let f : HierEdge = record { senior = s; junior = j; inherits = kind_inherits e.inherits e.activates either i; activates = kind_activates e.inherits e.activates either i; strong = e.strong } in f)

  read_edges : filter_map (edge_said ns) lines ≡ p.edges
  read_edges = taken (edge_said ns) (nat_eq 6) (no_edge_said ns) ∙ of_section (edge_said ns) (edge_line ns) (λ e. e) (is_edge p) edge_back p.edges (edges_in np is) ∙ map-id p.edges

  entry_back : (e : PeriodicEntry) → is_entry p e ≡ true → entry_said ns (entry e.form (period_name ns e.period) (head_named ns e.head)) ≡ Some e
  entry_back e h =
      let parts = both_true (nat_lt e.period.0 (length p.periods)) _ h in
      λ i. period_back np is e.period parts.0 i >>= λ q. head_back np is e.head parts.1 i >>= λ g. Some (let f : PeriodicEntry = record { form = e.form; period = q; head = g } in f)

  read_entries : filter_map (entry_said ns) lines ≡ p.entries
  read_entries =
      taken (entry_said ns) (nat_eq 14) (no_entry_said ns)
      ∙ of_section (entry_said ns) (λ (e : PeriodicEntry). entry e.form (period_name ns e.period) (head_named ns e.head)) (λ e. e) (is_entry p) entry_back p.entries (entries_in np is) ∙ map-id p.entries

  read_rules : filter_map (rule_said ns) lines ≡ p.triggers
  read_rules =
      taken (rule_said ns) (nat_eq 15) (no_rule_said ns)
      ∙ of_section (rule_said ns) (λ (r : TriggerView). trigger (items_of ns r) (head_named ns r.head) r.delay) (λ r. r) (is_rule p) (rule_back np is) p.triggers (rules_in np is) ∙ map-id p.triggers

  read_admins : filter_map (admin_said ns) lines ≡ p.admins
  read_admins =
      taken (admin_said ns) (nat_eq 8) (no_admin_said ns)
      ∙ of_section (admin_said ns) (λ (u : UserId). admin (user_name ns u)) (λ u. u) (λ u. nat_lt u.0 p.users) (user_back np is) p.admins (admins_in np is) ∙ map-id p.admins

  read_sort : (s : Sort) → filter_map (opening_said ns) (opening_lines ns s (members p.opening)) ≡ filter (has_sort s) (members p.opening)
  read_sort s =
      kept_map (λ f. opening (fluent_named ns f)) (opening_said ns) (λ f. f) (λ f. has_sort s f && is_fluent p f) (λ f h. fluent_back np is f (both_true (has_sort s f) _ h).1) (filter (has_sort s) (members p.opening))
      (all_filter (has_sort s) (is_fluent p) (members p.opening) is.policy.opening)
      ∙ map-id (filter (has_sort s) (members p.opening))

  abbrev one : Bool
  one = is_version_one p

  read_opening : filter_map (opening_said ns) lines ≡ by_sort one (members p.opening)
  read_opening =
      let ms : List Fluent = members p.opening in
      taken (opening_said ns) (λ t. nat_le 9 t && nat_le t 13) (no_opening_said ns)
      ∙ next Enabling (opening_lines ns Assigning ms ++ (opening_lines ns Granting ms ++ (opening_lines ns Arming ms ++ (linked ms one ++ []))))
      (next Assigning (opening_lines ns Granting ms ++ (opening_lines ns Arming ms ++ (linked ms one ++ [])))
      (next Granting (opening_lines ns Arming ms ++ (linked ms one ++ [])) (next Arming (linked ms one ++ []) (last one))))
    where
      linked : List Fluent → Bool → List SaidView
      linked ms b = cond b [] (opening_lines ns Linking ms)

      next : (s : Sort) (xs : List SaidView) {fs : List Fluent} → filter_map (opening_said ns) xs ≡ fs
          → filter_map (opening_said ns) (opening_lines ns s (members p.opening) ++ xs) ≡ filter (has_sort s) (members p.opening) ++ fs
      next s xs e = filter_map-append (opening_said ns) (opening_lines ns s (members p.opening)) xs ∙ (λ i. read_sort s i ++ e i)

      last : (b : Bool) → filter_map (opening_said ns) (linked (members p.opening) b ++ []) ≡ cond b [] (filter (has_sort Linking) (members p.opening)) ++ []
      last true = refl
      last false = next Linking [] refl

  -- the policy

  abbrev draft : DraftView
  draft = drafted ns (fresh ns) lines

  caps_read : draft.caps ≡ p.caps
  caps_read =
      let blank : List Caps = map (λ _. no_caps) ns.roles in
      let all : List SaidView = flat_map (cap_lines ns) (enumerate_from 0 p.caps) in
      drafted_caps ns (fresh ns) lines ∙ caps_kept ns lines blank
      ∙ ap (λ xs. caps_after ns xs blank) (taken cap_in (nat_eq 7) no_cap ∙ ap (filter_map cap_in) (append-nil all))
      ∙ sym (caps_kept ns all blank)
      ∙ caps_back ns (roles_found np is) [] p.caps ns.roles 0 refl (caps_count np is) (let e : length p.caps ≡ length ns.roles = caps_count np is in omega (arith, e))

  admins_read : filter (lists same_user draft.admins) (users_from 0 (length ns.users)) ≡ p.admins
  admins_read =
      let said : draft.admins ≡ with_all same_user [] p.admins = drafted_admins ns (fresh ns) lines ∙ ap (with_all same_user []) read_admins in
      (λ i. filter (lists same_user (said i)) (users_from 0 (sym is.user_count i)))
      ∙ admins_back p.admins p.users (admins_in np is) (both_true (list_all (λ u. nat_lt u.0 p.users) p.admins) _ is.policy.admins).1

  second_is : are_second lines ≡ not one
  second_is =
      ap (list_any is_second) (lines_joined np) ∙ by one
    where
      by : (b : Bool) → (is_second (version (cond b 1 2)) || list_any is_second (joined (sections_behind np))) ≡ not b
      by true = no_second (joined (sections_behind np)) (no_versions np)
      by false = refl

  opening_read : set_of (linked_at_first (are_second lines) draft.edges ++ draft.on_at_first) ≡ p.opening
  opening_read =
      let edges = drafted_edges ns (fresh ns) lines ∙ read_edges in
      let on = drafted_on ns (fresh ns) lines ∙ ap (with_all same_fluent []) read_opening in
      (λ i. set_of (linked_at_first (second_is i) (edges i) ++ on i)) ∙ opening_back p one is.policy.opening (λ e. (both_true _ _ e).0)

  policy_read : policy_of ns (are_second lines) draft ≡ p
  policy_read =
      let periods = drafted_periods ns (fresh ns) lines ∙ read_periods in
      let limits = drafted_limits ns (fresh ns) lines ∙ read_limits in
      let edges = drafted_edges ns (fresh ns) lines ∙ read_edges in
      let entries = drafted_entries ns (fresh ns) lines ∙ read_entries in
      let triggers = drafted_triggers ns (fresh ns) lines ∙ read_rules in
      λ i. record {
        roles = sym is.role_count i;
        users = sym is.user_count i;
        perms = sym is.perm_count i;
        periods = periods i;
        limits = limits i;
        edges = edges i;
        caps = caps_read i;
        admins = admins_read i;
        opening = opening_read i;
        entries = entries i;
        triggers = triggers i;
      }

  policy_named : named_policy lines ≡ np
  policy_named =
      (λ i. record { names = names_read i; policy = policy_of (names_read i) (are_second lines) (drafted (names_read i) (fresh (names_read i)) lines) }) ∙ (λ i. record { names = ns; policy = policy_read i })

  -- no fault

  right : list_all (is_right ns) lines ≡ true
  right = ap (list_all (is_right ns)) (lines_joined np) ∙ all_right np is

  clear : first_fault ns [] (numbered_from 1 lines) ≡ None
  clear =
      has_no_fault ns [] lines 1 (all_weaker (is_right ns) (is_known ns) (λ x h. (both_true (is_saying x) _ h).1) lines right) (ap (repeats clashes) (lines_joined np) ∙ all_apart np is) (λ z m. absurd m)
      (λ k. subst (λ xs. 0 + length (filter (is_of k) xs) ≤ most_of k) (sym (lines_joined np)) (omega (arith, few_lines np is k)))

  acyclic : edge_cycle p.edges ≡ None
  acyclic = (none_is_acyclic p.edges).1 (λ r n more w. let e = is.policy.no_ring r (n ∷ more) w in cc)

  pub canonical_built : build (numbered_from 1 lines) ≡ Ok np
  canonical_built =
      let numbered : List (Numbered SaidView) = numbered_from 1 lines in
      (λ i. without_fault (first_fault (names_of (said_numbered 1 lines i)) [] numbered) (named_policy (said_numbered 1 lines i)))
      ∙ (λ i. without_fault (first_fault (names_read i) [] numbered) (policy_named i)) ∙ (λ i. without_fault (clear i) np) ∙ (λ i. without_cycle np (acyclic i))

  pub canonical_said : list_all is_saying lines ≡ true
  canonical_said = all_weaker (is_right ns) is_saying (λ x h. (both_true (is_saying x) _ h).0) lines right

by_places : (q : SaidView → Bool) (xs : List SaidView) → list_all q xs ≡ true → All (λ s. IsTrue (q s)) xs
by_places q xs h = All-from_recursion (λ s. IsTrue (q s)) xs (by xs h)
  where
    by : (ys : List SaidView) → list_all q ys ≡ true → AllByRecursion (λ s. IsTrue (q s)) ys
    by [] k = tt
    by (y ∷ ys) k = let parts = both_true (q y) _ k in (parts.0, by ys parts.1)

pub canonical_is_built : CanonicalIsBuilt
canonical_is_built np is = canonical_built np is

pub canonical_are_sayings : CanonicalAreSayings
canonical_are_sayings np is = by_places is_saying (canonical_lines np) (canonical_said np is)

pub version_is_first : VersionIsFirst
version_is_first np = (joined (sections_behind np), lines_joined np, by_places (λ x. not (is_version x)) (joined (sections_behind np)) (no_versions np))
