-- The numbers of roles, users, permissions, limits and edges in what is written are numbers of the
-- policy.
use Rattle.std.specs.Prelude.{ℕ, Bool, true, ◌&&◌, length, nat_lt}
use Rattle.std.specs.List.{list_all}
use Rattle.gt_base.specs.declared.requests.Actor.{Actor}
use Rattle.gt_base.specs.declared.requests.Actor.TheVariants.{Operator, User, Nobody}
use Rattle.gt_base.specs.declared.requests.Request.{Request}
use Rattle.gt_base.specs.declared.requests.Request.TheVariants as requests
use Rattle.gt_base.specs.declared.requests.Decision.{Decision}
use Rattle.gt_base.specs.declared.requests.Decision.TheVariants.{Permit, NoActive, NoGrant, Shut}
use Rattle.gt_base.specs.declared.requests.Reply.{Reply}
use Rattle.gt_base.specs.declared.requests.Reply.TheVariants.{Now, Truth, Event, Queued, Session, Done, Active, Decided, Refused}
use Rattle.gt_base.specs.declared.requests.Step.{Step}
use Rattle.gt_base.specs.declared.requests.Step.TheVariants.{Tick, Ask}
use Rattle.gt_base.specs.declared.requests.Entry.{Entry}
use Rattle.gt_base.specs.Held.{RoleWalk}
use Rattle.gtrbac_model.specs.Policy.{Policy}
use Rattle.gtrbac_model.specs.WholePolicy.{is_fluent}

module _ (p : Policy) where
  abbrev pub has_edge : ℕ → Bool
  has_edge n = nat_lt n (length p.edges)

  abbrev pub has_walk : RoleWalk → Bool
  has_walk w = nat_lt w.start.0 p.roles && list_all has_edge w.edges

  abbrev pub has_decision : Decision → Bool
  has_decision (Permit w) = has_walk w
  has_decision NoActive = true
  has_decision NoGrant = true
  has_decision (Shut n) = has_edge n

  abbrev pub has_reply : Reply → Bool
  has_reply (Now t) = true
  has_reply (Truth b) = true
  has_reply (Event s) = true
  has_reply (Queued t) = true
  has_reply (Session s) = true
  has_reply Done = true
  has_reply (Active w) = has_walk w
  has_reply (Decided d) = has_decision d
  has_reply (Refused r) = true

  abbrev pub has_actor : Actor → Bool
  has_actor Operator = true
  has_actor (User u) = nat_lt u.0 p.users
  has_actor Nobody = true

  abbrev pub has_request : Request → Bool
  has_request requests.Now = true
  has_request (requests.Status c) = is_fluent p c.fluent
  has_request (requests.Seen e) = is_fluent p e.fluent
  has_request (requests.Raise h d) = is_fluent p h.event.fluent
  has_request requests.OpenSession = true
  has_request (requests.CloseSession s) = true
  has_request (requests.Activate s r) = nat_lt r.0 p.roles
  has_request (requests.Deactivate s r) = nat_lt r.0 p.roles
  has_request (requests.Active s r) = nat_lt r.0 p.roles
  has_request (requests.Check s q) = nat_lt q.0 p.perms

  abbrev pub has_step : Step → Bool
  has_step (Tick upto to) = true
  has_step (Ask actor request reply) = has_actor actor && has_request request && has_reply reply

  abbrev pub has_entry : Entry → Bool
  has_entry e = has_step e.what
