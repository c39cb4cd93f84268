-- Replies of a request's kind, as in each legal history, whose numbers are those of the policy.
use Rattle.std.specs.Prelude.{◌≡◌, ◌⊎◌, ℕ, ◌≤◌, List, [], ◌∷◌, slice_get, Some, IsTrue}
use Rattle.gt_base.specs.declared.events.RoleId.{RoleId}
use Rattle.gt_base.specs.declared.policies.HierEdge.{HierEdge}
use Rattle.gt_base.specs.declared.requests.Request.{Request}
use Rattle.gt_base.specs.declared.requests.Request.TheVariants as requests
use Rattle.gt_base.specs.declared.requests.Decision.{Decision}
use Rattle.gt_base.specs.declared.requests.Decision.TheVariants.{Permit, NoActive, NoGrant, Shut}
use Rattle.gt_base.specs.declared.requests.Reply.{Reply}
use Rattle.gt_base.specs.declared.requests.Reply.TheVariants.{Now, Truth, Event, Queued, Session, Done, Active, Decided, Refused}
use Rattle.gt_base.specs.declared.limits.TheConstants.{LAST_MINUTE}
use Rattle.gtrbac_model.specs.Policy.{Policy}
use Rattle.request_text.specs.Named.{has_reply}
use Rattle.request_text.specs.Sizes.{IsSmall}

-- the reply is built so
abbrev pub Is : {A : Type 0} → (A → Reply) → Reply → Type 0
Is {A} build r = (x : A) × (r ≡ build x)

-- what a request may be answered, where it is not refused
abbrev pub IsGranted : Request → Reply → Type 0
IsGranted requests.Now r = Is (λ t. Now t) r
IsGranted (requests.Status c) r = Is (λ b. Truth b) r
IsGranted (requests.Seen e) r = Is (λ s. Event s) r
IsGranted (requests.Raise h d) r = Is (λ t. Queued t) r
IsGranted requests.OpenSession r = Is (λ s. Session s) r
IsGranted (requests.CloseSession s) r = r ≡ Done
IsGranted (requests.Activate s q) r = Is (λ w. Active w) r
IsGranted (requests.Deactivate s q) r = r ≡ Done
IsGranted (requests.Active s q) r = Is (λ b. Truth b) r
IsGranted (requests.Check s q) r = Is (λ d. Decided d) r

abbrev pub IsAnswer : Request → Reply → Type 0
IsAnswer q r = Is (λ f. Refused f) r ⊎ IsGranted q r

module _ (p : Policy) where
  -- each edge leads on from where the one before it led
  abbrev pub Follows : RoleId → List ℕ → Type 0
  Follows a [] = Unit {0}
  Follows a (n ∷ ns) =
      (e : HierEdge) × (slice_get p.edges n ≡ Some e) × (e.senior ≡ a) × Follows e.junior ns

  abbrev pub FollowsDecision : Decision → Type 0
  FollowsDecision (Permit w) = Follows w.start w.edges
  FollowsDecision NoActive = Unit {0}
  FollowsDecision NoGrant = Unit {0}
  FollowsDecision (Shut n) = Unit {0}

  -- instants are minutes, and walks lead along
  abbrev pub IsSoundReply : Reply → Type 0
  IsSoundReply (Now t) = t ≤ LAST_MINUTE
  IsSoundReply (Queued t) = t ≤ LAST_MINUTE
  IsSoundReply (Active w) = Follows w.start w.edges
  IsSoundReply (Decided d) = FollowsDecision d
  IsSoundReply (Truth b) = Unit {0}
  IsSoundReply (Event s) = Unit {0}
  IsSoundReply (Session s) = Unit {0}
  IsSoundReply Done = Unit {0}
  IsSoundReply (Refused r) = Unit {0}

  pub record IsTellable (r : Reply) : Type 0 where
    pub named : IsTrue (has_reply p r)
    pub small : IsSmall r
    pub sound : IsSoundReply r
