-- What a connection is served by.
use Rattle.std.specs.Prelude.{ℕ, List}
use Rattle.gt_base.specs.declared.requests.Entry.{Entry}
use Rattle.turn_lock.specs.Holders.{Lock}
use Rattle.policy_words.specs.Naming.{NamedPolicy}

-- the policy whose names are read, the list that the desk began with, which lists are legal, and
-- the instant that a list has come to
pub record Service : Type 1 where
  pub policy : NamedPolicy
  pub first : List Entry
  pub legal : List Entry → Type 0
  pub now : List Entry → ℕ

abbrev pub service : NamedPolicy → List Entry → (List Entry → Type 0) → (List Entry → ℕ) → Service
service np first legal now = record { policy = np; first = first; legal = legal; now = now }

-- the service of a policy at a desk, by what its machine tells of its root
abbrev pub service_at : {M : Type 0} → (M → List Entry) → (M → List Entry → Type 0)
    → (M → List Entry → ℕ) → Lock M → NamedPolicy → Service
service_at list legal now_of desk np =
    service np (list desk.root) (legal desk.root) (now_of desk.root)
