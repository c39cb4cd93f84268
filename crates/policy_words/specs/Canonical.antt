-- The canonical text of a policy.
use Rattle.std.specs.Prelude.{ℕ, Bool, true, false, not, ◌&&◌, ◌||◌, List, [], ◌∷◌, ◌++◌, length, map, filter, flat_map, Option, Some, None, option_map, if◌then◌else◌}
use Rattle.std.specs.List.{enumerate_from, list_all, list_any}
use Rattle.gt_base.specs.Held.{TriggerView}
use Rattle.gt_base.specs.Sets.{members, has}
use Rattle.gt_base.specs.declared.events.Fluent.{Fluent}
use Rattle.gt_base.specs.declared.policies.LimitRule.{LimitRule}
use Rattle.gt_base.specs.declared.policies.HierEdge.{HierEdge}
use Rattle.gt_base.specs.declared.policies.Caps.{Caps}
use Rattle.gtrbac_model.specs.Period.{Period}
use Rattle.gtrbac_model.specs.Policy.{Policy}
use Rattle.policy_words.specs.declared.parts.Sort.{Sort}
use Rattle.policy_words.specs.declared.parts.Sort.TheVariants.{Enabling, Assigning, Granting, Arming, Linking}
use Rattle.policy_words.specs.declared.parts.Item.{Item}
use Rattle.policy_words.specs.declared.parts.Item.TheVariants.{Event, Signal, Cond, Settled}
use Rattle.policy_words.specs.declared.sayings.EdgeKind.{EdgeKind}
use Rattle.policy_words.specs.declared.sayings.EdgeKind.TheVariants.{I, A, Ia}
use Rattle.policy_words.specs.declared.sayings.CapKind.{CapKind}
use Rattle.gt_text.specs.Words.{spaced, as_text}
use Rattle.policy_words.specs.Sorts.{has_sort}
use Rattle.policy_words.specs.CapKinds.{cap_kinds, cap_of}
use Rattle.policy_words.specs.Making.{edges_from}
use Rattle.policy_words.specs.Naming.{Names, NamedPolicy, role_name, user_name, period_name, limit_name, fluent_named, event_named, cond_named, signal_named, head_named}
use Rattle.policy_words.specs.Sayings.{SaidView, version, role, user, perm, period, limit, edge, cap, admin, opening, entry, trigger, said_words}

abbrev pub edge_kind : Bool → Bool → EdgeKind
edge_kind true true = Ia
edge_kind true false = I
edge_kind false activates = A

-- which version a policy is written in: 1 where every edge is linked at first and nothing else
-- names an edge

abbrev pub rule_names_edge : TriggerView → Bool
rule_names_edge r =
    list_any (λ e. has_sort Linking e.fluent) r.events
    || list_any (λ c. has_sort Linking c.fluent) r.conds
    || list_any (λ c. has_sort Linking c.fluent) r.settled
    || has_sort Linking r.head.event.fluent

abbrev pub switches_edges : Policy → Bool
switches_edges p =
    list_any (λ l. has_sort Linking l.cond.fluent) p.limits
    || list_any (λ e. has_sort Linking e.head.event.fluent) p.entries
    || list_any rule_names_edge p.triggers

abbrev pub is_version_one : Policy → Bool
is_version_one p = list_all (has p.opening) (edges_from 0 (length p.edges))
    && not (switches_edges p)

abbrev pub version_of : Policy → ℕ
version_of p = if is_version_one p then 1 else 2

module _ (ns : Names) where
  abbrev pub period_line : (ℕ × Period) → SaidView
  period_line (n, p) = period (period_name ns (record { 0 = n })) p.first p.last p.expr

  abbrev pub limit_line : (ℕ × LimitRule) → SaidView
  limit_line (n, l) = limit (limit_name ns (record { 0 = n })) l.prio (cond_named ns l.cond) l.most
      (option_map (period_name ns) l.period)

  abbrev pub edge_line : HierEdge → SaidView
  edge_line e = edge (edge_kind e.inherits e.activates) e.strong (role_name ns e.senior)
      (role_name ns e.junior)

  abbrev pub cap_line : CapKind → List ℕ → Option ℕ → List SaidView
  cap_line kind r None = []
  cap_line kind r (Some n) = cap kind r n ∷ []

  abbrev pub kind_line : (ℕ × Caps) → CapKind → List SaidView
  kind_line (n, c) kind = cap_line kind (role_name ns (record { 0 = n })) (cap_of kind c)

  -- the caps of a role, in the order of their kinds
  abbrev pub cap_lines : (ℕ × Caps) → List SaidView
  cap_lines capped = flat_map (kind_line capped) cap_kinds

  abbrev pub items_of : TriggerView → List Item
  items_of r = map (λ e. Event (event_named ns e)) r.events
      ++ map (λ s. Signal (signal_named ns s)) r.signals
      ++ map (λ c. Cond (cond_named ns c)) r.conds
      ++ map (λ c. Settled (cond_named ns c)) r.settled

  -- the opening fluents of a sort; the set has them by sort, then by their numbers
  abbrev pub opening_lines : Sort → List Fluent → List SaidView
  opening_lines sort fs = map (λ f. opening (fluent_named ns f)) (filter (has_sort sort) fs)

-- the lines in their order
abbrev pub canonical_lines : NamedPolicy → List SaidView
canonical_lines np =
    let ns : Names = np.names in
    let opening : List Fluent = members np.policy.opening in
    version (version_of np.policy) ∷ map (λ n. role n) ns.roles ++ map (λ n. user n) ns.users
    ++ map (λ n. perm n) ns.perms
    ++ map (period_line ns) (enumerate_from 0 np.policy.periods)
    ++ map (limit_line ns) (enumerate_from 0 np.policy.limits)
    ++ map (edge_line ns) np.policy.edges
    ++ flat_map (cap_lines ns) (enumerate_from 0 np.policy.caps)
    ++ map (λ u. admin (user_name ns u)) np.policy.admins
    ++ opening_lines ns Enabling opening ++ opening_lines ns Assigning opening
    ++ opening_lines ns Granting opening ++ opening_lines ns Arming opening
    ++ (if is_version_one np.policy then [] else opening_lines ns Linking opening)
    ++ map (λ e. entry e.form (period_name ns e.period) (head_named ns e.head)) np.policy.entries
    ++ map (λ r. trigger (items_of ns r) (head_named ns r.head) r.delay) np.policy.triggers

abbrev pub canonical_text : NamedPolicy → List ℕ
canonical_text np = as_text (map (λ s. spaced (said_words s)) (canonical_lines np))
