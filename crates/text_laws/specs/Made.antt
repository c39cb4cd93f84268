-- What a policy has that lines make: its lists are what the lines say, in their order, and its
-- caps, administrators and opening status what they say one by one.
use Rattle.std.specs.Prelude.{◌≡◌, ℕ, ◌&&◌, ◌||◌, Bool, false, List, [], ◌∷◌, length, if◌then◌else◌, Option, Some, None}
use Rattle.std.specs.List.{filter_map}
use Rattle.gt_base.specs.Sets.{has}
use Rattle.gt_base.specs.declared.events.RoleId.{RoleId}
use Rattle.gt_base.specs.declared.events.UserId.{UserId}
use Rattle.gt_base.specs.declared.events.Fluent.{Fluent}
use Rattle.gt_base.specs.declared.policies.Caps.{Caps}
use Rattle.gtrbac_model.specs.Graph.{item_at}
use Rattle.gtrbac_model.specs.Policy.{Policy}
use Rattle.gtrbac_model.specs.Same.{same_role, same_user, same_fluent, lists}
use Rattle.policy_words.specs.declared.sayings.CapKind.{CapKind}
use Rattle.policy_words.specs.CapKinds.{same_cap_kind, cap_of}
use Rattle.policy_words.specs.Sayings.{SaidView, cap}
use Rattle.policy_words.specs.Naming.{Names, role_of}
use Rattle.policy_words.specs.Making.{names_of, named_policy, period_said, limit_said, edge_said, entry_said, rule_said, admin_said, opening_said, are_second, linked_at_first}

abbrev pub is_role : RoleId → Option RoleId → Bool
is_role r None = false
is_role r (Some q) = same_role r q

-- the number of a line that says a cap of this kind for this role
abbrev pub cap_said : Names → CapKind → RoleId → SaidView → Option ℕ
cap_said ns kind r (cap k name n) =
    if is_role r (role_of ns name) && same_cap_kind kind k then Some n else None
cap_said ns kind r _ = None

-- the last of the list, and this where there is none
abbrev pub last_or : Option ℕ → List ℕ → Option ℕ
last_or o [] = o
last_or o (n ∷ ns) = last_or (Some n) ns

-- over these names
pub record HasSaid (ns : Names) (ss : List SaidView) (p : Policy) : Type 0 where
  pub periods : p.periods ≡ filter_map (period_said ns) ss
  pub limits : p.limits ≡ filter_map (limit_said ns) ss
  pub edges : p.edges ≡ filter_map (edge_said ns) ss
  pub entries : p.entries ≡ filter_map (entry_said ns) ss
  pub triggers : p.triggers ≡ filter_map (rule_said ns) ss
  pub rows : length p.caps ≡ p.roles
  pub caps : (kind : CapKind) (r : RoleId) (c : Caps) → item_at p.caps r.0 ≡ Some c
      → cap_of kind c ≡ last_or None (filter_map (cap_said ns kind r) ss)
  pub admins : (u : UserId)
      → lists same_user p.admins u ≡ lists same_user (filter_map (admin_said ns) ss) u
  pub opening : (f : Fluent) → has p.opening f
      ≡ (lists same_fluent (linked_at_first (are_second ss) p.edges) f
      || lists same_fluent (filter_map (opening_said ns) ss) f)

abbrev pub PoliciesAreMade : Type 0
PoliciesAreMade = (ss : List SaidView) → HasSaid (names_of ss) ss (named_policy ss).policy
