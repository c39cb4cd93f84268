-- In version 1 no canonical line names an edge.
use Rattle.std.proofs.Common.{◌≡◌, ℕ, ◌+◌, Bool, true, false, cond, not, ◌||◌, ◌&&◌, List, [], ◌∷◌, ◌++◌, map, filter, Option, Some, None, refl, ap, ◌∙◌}
use Rattle.std.specs.List.{list_all, list_any, enumerate_from}
use Rattle.std.proofs.lemmas.Bool.{or_parts, not-true}
use Rattle.std.proofs.lemmas.List.Folds.{list_any-append}
use Rattle.gt_base.specs.Held.{TriggerView}
use Rattle.gt_base.specs.Sets.{members}
use Rattle.gt_base.specs.declared.events.UserId.{UserId}
use Rattle.gt_base.specs.declared.events.Fluent.{Fluent}
use Rattle.gt_base.specs.declared.events.Fluent.TheVariants as base
use Rattle.gt_base.specs.declared.events.Event.{Event as BaseEvent}
use Rattle.gt_base.specs.declared.events.Signal.{Signal as BaseSignal}
use Rattle.gt_base.specs.declared.events.Cond.{Cond as BaseCond}
use Rattle.gt_base.specs.declared.policies.PeriodicEntry.{PeriodicEntry}
use Rattle.gtrbac_model.proofs.Elements.{both_true, and_true}
use Rattle.policy_words.specs.declared.parts.Item.{Item}
use Rattle.policy_words.specs.declared.parts.Item.TheVariants.{Event, Signal, Cond, Settled}
use Rattle.policy_words.specs.declared.sayings.CapKind.{CapKind}
use Rattle.policy_words.specs.Sayings.{SaidView, role, user, perm, admin, opening, entry, trigger, is_edge, item_names_edge, names_edge}
use Rattle.policy_words.specs.Naming.{Names, NamedPolicy, role_name, user_name, period_name, fluent_named, event_named, signal_named, cond_named, head_named}
use Rattle.policy_words.specs.declared.parts.Sort.{Sort}
use Rattle.policy_words.specs.declared.parts.Sort.TheVariants.{Enabling, Assigning, Granting, Arming, Linking}
use Rattle.policy_words.specs.Sorts.{same_sort, has_sort}
use Rattle.policy_words.specs.Canonical.{is_version_one, switches_edges, rule_names_edge, period_line, limit_line, edge_line, cap_line, cap_lines, items_of, opening_lines}
use Rattle.policy_book.proofs.Mapped.{all_true, all_filter, all_map, all_flat_map}
use Rattle.policy_text.proofs.Sections.{joined, all_joined}
use Rattle.policy_text.proofs.CanonicalCaps.{lines_all}
use Rattle.policy_text.proofs.Canonical.{sections_behind}

abbrev pub names_none : SaidView → Bool
names_none s = not (names_edge s)

none_all : {A : Type 0} (f : A → Bool) (xs : List A) → list_any f xs ≡ false → list_all (λ x. not (f x)) xs ≡ true
none_all f [] h = refl
none_all f (x ∷ xs) h = let parts = or_parts (f x) _ h in and_true _ _ (ap not parts.0) (none_all f xs parts.1)

none_numbered : {A : Type 0} (f : A → Bool) (n : ℕ) (xs : List A) → list_any f xs ≡ false → list_all (λ e. not (f e.1)) (enumerate_from n xs) ≡ true
none_numbered f n [] h = refl
none_numbered f n (x ∷ xs) h = let parts = or_parts (f x) _ h in and_true _ _ (ap not parts.0) (none_numbered f (n + 1) xs parts.1)

any_map : {A B : Type 0} (g : A → B) (f : B → Bool) (h : A → Bool) → ((a : A) → f (g a) ≡ h a) → (xs : List A) → list_any f (map g xs) ≡ list_any h xs
any_map g f h on [] = refl
any_map g f h on (x ∷ xs) = λ i. on x i || any_map g f h on xs i

none_map : {A B : Type 0} (g : A → B) (f : B → Bool) → ((a : A) → f (g a) ≡ false) → (xs : List A) → list_any f (map g xs) ≡ false
none_map g f on [] = refl
none_map g f on (x ∷ xs) = λ i. on x i || none_map g f on xs i

or_none : (b : Bool) → (b || false) ≡ b
or_none true = refl
or_none false = refl

module _ (ns : Names) where
  edge_named : (f : Fluent) → is_edge (fluent_named ns f) ≡ has_sort Linking f
  edge_named (base.Enabled r) = refl
  edge_named (base.Assigned u r) = refl
  edge_named (base.Granted q r) = refl
  edge_named (base.Limit l) = refl
  edge_named (base.Edge n) = refl

  rule_named : (r : TriggerView) → names_edge (trigger (items_of ns r) (head_named ns r.head) r.delay) ≡ rule_names_edge r
  rule_named r =
      let events : List Item = map (λ e. Event (event_named ns e)) r.events in
      let signals : List Item = map (λ s. Signal (signal_named ns s)) r.signals in
      let conds : List Item = map (λ c. Cond (cond_named ns c)) r.conds in
      let settled : List Item = map (λ c. Settled (cond_named ns c)) r.settled in
      let e = any_map (λ (e : BaseEvent). Event (event_named ns e)) item_names_edge (λ e. has_sort Linking e.fluent) (λ e. edge_named e.fluent) r.events in
      let s = none_map (λ (s : BaseSignal). Signal (signal_named ns s)) item_names_edge (λ _. refl) r.signals in
      let c = any_map (λ (c : BaseCond). Cond (cond_named ns c)) item_names_edge (λ c. has_sort Linking c.fluent) (λ c. edge_named c.fluent) r.conds in
      let t = any_map (λ (c : BaseCond). Settled (cond_named ns c)) item_names_edge (λ c. has_sort Linking c.fluent) (λ c. edge_named c.fluent) r.settled in
      let first : list_any item_names_edge (events ++ signals) ≡ list_any (λ e. has_sort Linking e.fluent) r.events = list_any-append item_names_edge events signals ∙ (λ i. e i || s i) ∙ or_none _ in
      let all = list_any-append item_names_edge (events ++ signals ++ conds) settled ∙ (λ i. (list_any-append item_names_edge (events ++ signals) conds ∙ (λ j. first j || c j)) i || t i) in
      λ i. all i || edge_named r.head.event.fluent i

no_cap : (ns : Names) (kind : CapKind) (r : List ℕ) (o : Option ℕ) → list_all names_none (cap_line ns kind r o) ≡ true
no_cap ns kind r None = refl
no_cap ns kind r (Some n) = refl

-- an opening fluent of another sort is no edge
off_sort : (s : Sort) → same_sort s Linking ≡ false → (f : Fluent) → has_sort s f ≡ true → has_sort Linking f ≡ false
off_sort s off (base.Edge n) h = cc
off_sort s off (base.Enabled r) h = refl
off_sort s off (base.Assigned u r) h = refl
off_sort s off (base.Granted q r) h = refl
off_sort s off (base.Limit l) h = refl

off_by : (s : Sort) → same_sort s Linking ≡ false → (ns : Names) (ms : List Fluent) → list_all names_none (opening_lines ns s ms) ≡ true
off_by s off ns ms =
    all_map (λ f. opening (fluent_named ns f)) names_none (λ f. has_sort s f && true) (λ f h. ap not (edge_named ns f ∙ off_sort s off f (both_true (has_sort s f) _ h).0)) (filter (has_sort s) ms)
    (all_filter (has_sort s) (λ _. true) ms (all_true ms))

pub no_edges : (np : NamedPolicy) → is_version_one np.policy ≡ true → list_all names_none (joined (sections_behind np)) ≡ true
no_edges np one =
    let ns : Names = np.names in
    let ms : List Fluent = members np.policy.opening in
    let off = not-true (switches_edges np.policy) (both_true _ _ one).1 in
    let two = or_parts _ _ off in
    let three = or_parts _ _ two.0 in
    all_joined names_none (sections_behind np) (
      plain (λ n. role n) (λ _. refl) ns.roles,
      (
        plain (λ n. user n) (λ _. refl) ns.users,
        (
          plain (λ n. perm n) (λ _. refl) ns.perms,
          (
            plain (period_line ns) (λ _. refl) (enumerate_from 0 np.policy.periods),
            (
              all_map (limit_line ns) names_none (λ e. not (has_sort Linking e.1.cond.fluent)) (λ e h. ap not (edge_named ns e.1.cond.fluent) ∙ h) (enumerate_from 0 np.policy.limits)
                  (none_numbered (λ l. has_sort Linking l.cond.fluent) 0 np.policy.limits three.0),
              (
                plain (edge_line ns) (λ _. refl) np.policy.edges,
                (
                  all_flat_map (cap_lines ns) names_none (λ _. true) (λ e _. lines_all ns names_none e.0 e.1 (λ kind o. no_cap ns kind (role_name ns (record { 0 = e.0 })) o)) (enumerate_from 0 np.policy.caps) (all_true (enumerate_from 0 np.policy.caps)),
                  (
                    plain (λ (u : UserId). admin (user_name ns u)) (λ _. refl) np.policy.admins,
                    (
                      off_by Enabling refl ns ms,
                      (
                        off_by Assigning refl ns ms,
                        (
                          off_by Granting refl ns ms,
                          (
                            off_by Arming refl ns ms,
                            (
                              ap (λ b. list_all names_none (cond b [] (opening_lines ns Linking ms))) one,
                              (
                                all_map (λ (e : PeriodicEntry). entry e.form (period_name ns e.period) (head_named ns e.head)) names_none (λ e. not (has_sort Linking e.head.event.fluent))
                                    (λ e h. ap not (edge_named ns e.head.event.fluent) ∙ h) np.policy.entries (none_all (λ e. has_sort Linking e.head.event.fluent) np.policy.entries three.1),
                                (
                                  all_map (λ (r : TriggerView). trigger (items_of ns r) (head_named ns r.head) r.delay) names_none (λ r. not (rule_names_edge r)) (λ r h. ap not (rule_named ns r) ∙ h)
                                      np.policy.triggers (none_all rule_names_edge np.policy.triggers two.1),
                                  tt,
                                ),
                              ),
                            ),
                          ),
                        ),
                      ),
                    ),
                  ),
                ),
              ),
            ),
          ),
        ),
      ),
    )
  where
    plain : {A : Type 0} (g : A → SaidView) → ((a : A) → names_edge (g a) ≡ false) → (xs : List A) → list_all names_none (map g xs) ≡ true
    plain g on xs = all_map g names_none (λ _. true) (λ a _. ap not (on a)) xs (all_true xs)
