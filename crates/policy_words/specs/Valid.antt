-- What holds of each policy that lines make, beside its names.
use Rattle.std.specs.Prelude.{◌≡◌, ℕ, Bool, false, ◌&&◌, ◌||◌, not, List, [], ◌∷◌, length, map, bytes_eq, nat_le, IsTrue}
use Rattle.std.specs.List.{list_all, list_any}
use Rattle.gt_base.specs.Names.{is_name}
use Rattle.gtrbac_model.specs.WholePolicy.{IsPolicy}
use Rattle.gt_base.specs.declared.policies.HierEdge.{HierEdge}
use Rattle.gt_base.specs.declared.limits.TheConstants.{MAX_LIMITS, MAX_PERIODS, MAX_PERMS, MAX_ROLES, MAX_USERS}
use Rattle.policy_words.specs.Naming.{Names, NamePair, NamedPolicy, role_name}

abbrev pub repeats_later : List (List ℕ) → Bool
repeats_later [] = false
repeats_later (n ∷ ns) = list_any (bytes_eq n) ns || repeats_later ns

-- names are names, each once, and at most so many
abbrev pub are_names : ℕ → List (List ℕ) → Bool
are_names most ns = nat_le (length ns) most && list_all is_name ns && not (repeats_later ns)

abbrev pub pair_of : Names → HierEdge → NamePair
pair_of ns e = (role_name ns e.senior, role_name ns e.junior)

-- the names are those of the numbers, and the policy keeps what every policy keeps
pub record IsWellFormed (np : NamedPolicy) : Type 0 where
  pub roles : IsTrue (are_names MAX_ROLES np.names.roles)
  pub users : IsTrue (are_names MAX_USERS np.names.users)
  pub perms : IsTrue (are_names MAX_PERMS np.names.perms)
  pub periods : IsTrue (are_names MAX_PERIODS np.names.periods)
  pub limits : IsTrue (are_names MAX_LIMITS np.names.limits)
  pub role_count : np.policy.roles ≡ length np.names.roles
  pub user_count : np.policy.users ≡ length np.names.users
  pub perm_count : np.policy.perms ≡ length np.names.perms
  pub period_count : length np.policy.periods ≡ length np.names.periods
  pub limit_count : length np.policy.limits ≡ length np.names.limits
  pub edge_pairs : np.names.edges ≡ map (pair_of np.names) np.policy.edges
  pub policy : IsPolicy np.policy
