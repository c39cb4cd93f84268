-- The sessions that are open, each with the roles that are active in it.
use Rattle.std.specs.Prelude.{◌≡◌, ℕ, ◌<◌, ◌≤◌, Bool, false, ◌&&◌, List, [], ◌∷◌, length, filter, find, Some, None}
use Rattle.std.specs.List.{slice_get}
use Rattle.gt_base.specs.declared.events.RoleId.{RoleId}
use Rattle.gt_base.specs.declared.events.SessionId.{SessionId}
use Rattle.gt_base.specs.Sets.{has}
use Rattle.gtrbac_model.specs.Same.{same_session}
use Rattle.gtrbac_model.specs.Sessions.{OpenedSession, Activation}
use Rattle.session_table.specs.declared.opened.Open.{Open}

-- an activation of the session
abbrev pub in_session : SessionId → Activation → Bool
in_session n a = same_session a.session n

-- the open session of the number
abbrev pub numbered : SessionId → Open → Bool
numbered n o = o.is_open && same_session o.number n

-- the rows without the gaps that closed sessions left
abbrev pub still_open : List Open → List Open
still_open os = filter (λ o. o.is_open) os

-- a session without its roles
abbrev pub opened : Open → OpenedSession
opened o = record { number = o.number; owner = o.owner }

-- whether the role stands among those of the session, if it is open
abbrev pub role_in : List Open → SessionId → RoleId → Bool
role_in os n r = elim (find (numbered n) os) [ Some o ↦ has o.roles r | None ↦ false ]

-- the numbers rise from above b, none above top
abbrev pub NumberedFrom : ℕ → List OpenedSession → ℕ → Type 0
NumberedFrom b [] top = b ≤ top
NumberedFrom b (s ∷ ss) top = (b < s.number.0) × NumberedFrom s.number.0 ss top

abbrev pub AreNumbered : List OpenedSession → Type 0
AreNumbered ss = (top : ℕ) × NumberedFrom 0 ss top

-- so many sessions have lesser numbers, and no later one has
pub record IsFirstFrom (os : List Open) (n at : ℕ) : Type 0 where
  pub inside : at ≤ length os
  pub below : (i : ℕ) (o : Open) → i < at → slice_get os i ≡ Some o → o.number.0 < n
  pub above : (i : ℕ) (o : Open) → at ≤ i → slice_get os i ≡ Some o → n ≤ o.number.0
