-- The made lines say, section by section, the canonical lines of the policy that they stand for.
use Rattle.std.proofs.Common.{◌≡◌, ℕ, zero, suc, ◌+◌, ◌-◌, ◌≤◌, ◌<◌, Bool, true, false, cond, List, [], ◌∷◌, ◌++◌, map, refl, sym, ap, subst, arith, codes, append_assoc}
use Rattle.std.specs.List.{range_with_len, flat_map, enumerate_from}
use Rattle.std.proofs.lemmas.List.{append-nil}
use Rattle.gt_base.specs.Held.{TriggerView}
use Rattle.gt_base.specs.Sets.{members}
use Rattle.gt_base.specs.declared.events.Fluent.{Fluent}
use Rattle.policy_words.specs.declared.parts.NamedFluent.TheVariants as fluents
use Rattle.policy_words.specs.declared.sayings.EdgeKind.TheVariants.{Ia}
use Rattle.policy_words.specs.Sayings.{SaidView, role, user, perm, edge, admin, opening, trigger}
use Rattle.policy_words.specs.Naming.{Names, role_name, user_name, fluent_named, head_named}
use Rattle.policy_words.specs.CapKinds.{no_caps}
use Rattle.policy_words.specs.declared.parts.Sort.TheVariants.{Enabling, Assigning, Granting, Arming, Linking}
use Rattle.policy_words.specs.Canonical.{is_version_one, edge_line, cap_lines, items_of, opening_lines}
use Rattle.policy_text.proofs.Sections.{joined}
use Rattle.policy_text.proofs.Canonical.{sections_behind}
use Rattle.policy_gen.specs.Texts.{one, two, for_each, all_for_each, chain, edge_lines, policy_lines}
use Rattle.gen_laws.specs.Made.{role_at, role_named, user_named, perm_named, names_of_made, edge_down, assigned_own, granted_own, passed_both, policy_of_made, made_of}
use Rattle.gen_laws.proofs.Names.{role_name_of, user_name_of, perm_name_of}
use Rattle.gen_laws.proofs.Kept.{kept_enabled, kept_armed, kept_assigned, kept_granted, first_version}
use Rattle.gen_laws.proofs.Spelled.{Says, says_role, says_user, says_perm, says_period, says_edge, says_admin, says_assigned, says_granted, says_entry, says_on, says_off, handing, hours_entry}
use Rattle.gen_laws.proofs.Lines.{Lines, lines_joined, no_lines, lines_same, lines_up}

-- the lines behind the version
abbrev pub body : ℕ → List (List ℕ)
body k =
    for_each (one (codes "role r")) k ++ (for_each (one (codes "user u")) k ++ (for_each (one (codes "perm p")) k
    ++ (codes "period hours * * all.Days + {9}.Hours > 8.Hours" ∷ (edge_lines (k - 1)
    ++ (codes "admin u1" ∷ (for_each (λ i. two (codes "assigned u") i (codes " r") i) k ++ (for_each (λ i. two (codes "granted p") i (codes " r") i) k
    ++ (codes "span hours 50:enable r1" ∷ (all_for_each chain (k - 1) ++ [])))))))))

module _ (k : ℕ) (low : 1 ≤ k) (few : k ≤ 200) where
  abbrev ns : Names
  ns = names_of_made k

  abbrev ms : List Fluent
  ms = members (policy_of_made k).opening

  edges_said : Lines (map (edge_line ns) (policy_of_made k).edges) (edge_lines (k - 1))
  edges_said =
      lines_up (edge_line ns) edge_down (λ i. two (codes "edge ia weak r") i (codes " r") (i + 1)) 0 (k - 1) (λ i above lt.
      subst (λ (s : SaidView). Says s (two (codes "edge ia weak r") (i + 1) (codes " r") (i + 1 + 1)))
      (sym (λ j. edge Ia false (role_name_of k i (omega (arith, lt)) j) (role_name_of k (i + 1) (omega (arith, lt)) j)))
      (says_edge (i + 1) (i + 1 + 1) (omega (arith, lt, few)) (omega (arith, lt, few))))

  abbrev opened : Fluent → SaidView
  opened f = opening (fluent_named ns f)

  assigned_said : Lines (opening_lines ns Assigning ms) (for_each (λ i. two (codes "assigned u") i (codes " r") i) k)
  assigned_said =
      subst (λ (xs : List Fluent). Lines (map opened xs) (for_each (λ i. two (codes "assigned u") i (codes " r") i) k)) (sym (kept_assigned k))
      (lines_up opened assigned_own (λ i. two (codes "assigned u") i (codes " r") i) 0 k (λ i above lt.
      subst (λ (s : SaidView). Says s (two (codes "assigned u") (i + 1) (codes " r") (i + 1)))
      (sym (λ j. opening (fluents.Assigned (user_name_of k i (omega (arith, lt)) j) (role_name_of k i (omega (arith, lt)) j)))) (says_assigned (i + 1) (omega (arith, lt, few)))))

  granted_said : Lines (opening_lines ns Granting ms) (for_each (λ i. two (codes "granted p") i (codes " r") i) k)
  granted_said =
      subst (λ (xs : List Fluent). Lines (map opened xs) (for_each (λ i. two (codes "granted p") i (codes " r") i) k)) (sym (kept_granted k))
      (lines_up opened granted_own (λ i. two (codes "granted p") i (codes " r") i) 0 k (λ i above lt.
      subst (λ (s : SaidView). Says s (two (codes "granted p") (i + 1) (codes " r") (i + 1)))
      (sym (λ j. opening (fluents.Granted (perm_name_of k i (omega (arith, lt)) j) (role_name_of k i (omega (arith, lt)) j)))) (says_granted (i + 1) (omega (arith, lt, few)))))

  abbrev ruled : TriggerView → SaidView
  ruled r = trigger (items_of ns r) (head_named ns r.head) r.delay

  handed : (on : Bool) (i : ℕ) (line : List ℕ) → i < k - 1 → Says (handing on (role_named (i + 1)) (role_named (i + 1 + 1))) line
      → Says (handing on (role_name ns (role_at i)) (role_name ns (role_at (i + 1)))) line
  handed on i line lt h =
      subst (λ (s : SaidView). Says s line) (sym (λ j. handing on (role_name_of k i (omega (arith, lt)) j) (role_name_of k (i + 1) (omega (arith, lt)) j))) h

  rules_said : (a n : ℕ) → a + n ≤ k - 1 → Lines (map ruled (flat_map passed_both (range_with_len a n))) (flat_map chain (range_with_len (a + 1) n))
  rules_said a zero le = tt
  rules_said a (suc n) le = (
    handed true a _ (omega (arith, le)) (says_on (a + 1) (a + 1 + 1) (omega (arith, le, few)) (omega (arith, le, few))),
    (handed false a _ (omega (arith, le)) (says_off (a + 1) (a + 1 + 1) (omega (arith, le, few)) (omega (arith, le, few))), rules_said (a + 1) n (omega (arith, le))),
  )

  no_cap_lines : (m a n : ℕ) → flat_map (cap_lines ns) (enumerate_from m (map (λ _. no_caps) (range_with_len a n))) ≡ []
  no_cap_lines m a zero = refl
  no_cap_lines m a (suc n) = no_cap_lines (m + 1) (a + 1) n

  admin_said : Says (admin (user_name ns (record { 0 = 0 }))) (codes "admin u1")
  admin_said = subst (λ (s : SaidView). Says s (codes "admin u1")) (sym (λ j. admin (user_name_of k 0 (omega arith) j))) says_admin

  entry_said : Says (hours_entry (role_name ns (role_at 0))) (codes "span hours 50:enable r1")
  entry_said = subst (λ (s : SaidView). Says s (codes "span hours 50:enable r1")) (sym (λ j. hours_entry (role_name_of k 0 (omega arith) j))) says_entry

  pub body_said : Lines (joined (sections_behind (made_of k))) (body k)
  body_said =
      lines_joined (map (λ n. role n) ns.roles) _ (for_each (one (codes "role r")) k) _ (lines_same (λ n. role n) role_named (one (codes "role r")) 1 k (λ i above lt. says_role i (omega (arith, lt, few))))
      (lines_joined (map (λ n. user n) ns.users) _ (for_each (one (codes "user u")) k) _ (lines_same (λ n. user n) user_named (one (codes "user u")) 1 k (λ i above lt. says_user i (omega (arith, lt, few))))
      (lines_joined (map (λ n. perm n) ns.perms) _ (for_each (one (codes "perm p")) k) _ (lines_same (λ n. perm n) perm_named (one (codes "perm p")) 1 k (λ i above lt. says_perm i (omega (arith, lt, few)))) (
        says_period,
        lines_joined (map (edge_line ns) (policy_of_made k).edges) _ (edge_lines (k - 1)) _ edges_said
            (no_lines (flat_map (cap_lines ns) (enumerate_from 0 (policy_of_made k).caps)) _ _ (no_cap_lines 0 0 k) (
              admin_said,
              no_lines (opening_lines ns Enabling ms) _ _ (ap (map opened) (kept_enabled k))
                  (lines_joined (opening_lines ns Assigning ms) _ (for_each (λ i. two (codes "assigned u") i (codes " r") i) k) _ assigned_said
                  (lines_joined (opening_lines ns Granting ms) _ (for_each (λ i. two (codes "granted p") i (codes " r") i) k) _ granted_said
                  (no_lines (opening_lines ns Arming ms) _ _ (ap (map opened) (kept_armed k))
                  (no_lines (cond (is_version_one (policy_of_made k)) [] (opening_lines ns Linking ms)) _ _ (ap (λ b. cond b [] (opening_lines ns Linking ms)) (first_version k))
                  (entry_said, lines_joined (map ruled (policy_of_made k).triggers) [] (all_for_each chain (k - 1)) [] (rules_said 0 (k - 1) (omega arith)) tt))))),
            )),
      )))

in_a_row : (v p a s : List ℕ) (r u q e h g t : List (List ℕ))
    → ◌≡◌ {A = List (List ℕ)} (v ∷ (r ++ u ++ q) ++ p ∷ e ++ a ∷ (h ++ g) ++ s ∷ t) (v ∷ (r ++ (u ++ (q ++ (p ∷ (e ++ (a ∷ (h ++ (g ++ (s ∷ (t ++ [])))))))))))
in_a_row v p a s r u q e h g t = simp (append_assoc, append-nil)

pub lines_are : (k : ℕ) → policy_lines k ≡ codes "policy 1" ∷ body k
lines_are k =
    in_a_row (codes "policy 1") (codes "period hours * * all.Days + {9}.Hours > 8.Hours") (codes "admin u1") (codes "span hours 50:enable r1")
    (for_each (one (codes "role r")) k) (for_each (one (codes "user u")) k) (for_each (one (codes "perm p")) k) (edge_lines (k - 1))
    (for_each (λ i. two (codes "assigned u") i (codes " r") i) k) (for_each (λ i. two (codes "granted p") i (codes " r") i) k) (all_for_each chain (k - 1))
