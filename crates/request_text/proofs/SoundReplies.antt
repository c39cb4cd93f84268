-- What is answered from a named point has the policy's numbers, and its walks lead along.
use Rattle.std.proofs.Common.{◌≡◌, ℕ, ◌+◌, ◌<◌, Bool, true, false, not, List, [], ◌∷◌, ◌++◌, length, Option, Some, None, refl, sym, ◌∙◌, subst, arith, if◌then◌else◌}
use Rattle.std.specs.Prelude.{nat_le, nat_lt, count_by, is_none, filter}
use Rattle.std.specs.List.{list_all, list_any}
use Rattle.std.proofs.lemmas.Bool.{ltb-true, ltb-false, lt-ltb}
use Rattle.gt_base.specs.Held.{RoleWalk}
use Rattle.gt_base.specs.declared.events.UserId.{UserId}
use Rattle.gt_base.specs.declared.events.RoleId.{RoleId}
use Rattle.gt_base.specs.declared.events.PermId.{PermId}
use Rattle.gt_base.specs.declared.events.SessionId.{SessionId}
use Rattle.gt_base.specs.declared.events.Fluent.TheVariants.{Enabled, Assigned, Granted}
use Rattle.gt_base.specs.declared.policies.HierEdge.{HierEdge}
use Rattle.gt_base.specs.declared.requests.Actor.{Actor}
use Rattle.gt_base.specs.declared.requests.Actor.TheVariants.{User}
use Rattle.gt_base.specs.declared.requests.Decision.{Decision}
use Rattle.gt_base.specs.declared.requests.Decision.TheVariants.{Permit, NoGrant, Shut}
use Rattle.gt_base.specs.declared.requests.Request.{Request}
use Rattle.gt_base.specs.declared.requests.Request.TheVariants as requests
use Rattle.gt_base.specs.declared.requests.Refusal.{Refusal}
use Rattle.gt_base.specs.declared.requests.Refusal.TheVariants.{NoUser, NotAdmin, Beyond, SessionsFull, NoSession, NotActive, Already, Disabled, NotAssigned, RoleFull, UserFull, DaySpent}
use Rattle.gt_base.specs.declared.requests.Reply.{Reply}
use Rattle.gt_base.specs.declared.requests.Reply.TheVariants.{Truth, Queued, Session, Done, Active, Decided, Refused}
use Rattle.gt_base.specs.declared.limits.TheConstants.{LAST_MINUTE}
use Rattle.gtrbac_model.specs.Policy.{Policy}
use Rattle.gtrbac_model.specs.Graph.{item_at}
use Rattle.gtrbac_model.specs.Conflict.{Status}
use Rattle.gtrbac_model.specs.Hierarchy.{usable, activation_walk, permission_walk, permission_walk_of_any}
use Rattle.gtrbac_model.specs.Same.{same_role, lists, same_session}
use Rattle.gtrbac_model.specs.Calendar.{day_of}
use Rattle.gtrbac_model.specs.Decision.{decide}
use Rattle.gtrbac_model.specs.Sessions.{Activation, caps_of, reached, is_of, is_active_in, owner_of}
use Rattle.gtrbac_model.specs.Reply.{Point, unless, is_admin, session_causes, roles_of, raise_causes, actor_causes, answer, reply_of}
use Rattle.gtrbac_model.proofs.Elements.{any_elim}
use Rattle.history_laws.specs.Named.{IsNamedPoint}
use Rattle.history_laws.proofs.Members.{is_in, of_filter, of_map}
use Rattle.policy_lines.proofs.Truths.{both}
use Rattle.request_text.specs.Named.{has_edge, has_decision, has_reply}
use Rattle.request_text.specs.Kinds.{FollowsDecision, IsSoundReply}
use Rattle.walk_laws.proofs.Roles.{is_same_role}
use Rattle.request_text.proofs.Refusals.{unless_keeps}
use Rattle.request_text.proofs.SoundWalks.{Leads, found_leads, none_still}

pub record Sounds (p : Policy) (r : Reply) : Type 0 where
  pub named : has_reply p r ≡ true
  pub sound : IsSoundReply p r

record SoundDecision (p : Policy) (d : Decision) : Type 0 where
  named : has_decision p d ≡ true
  follows : FollowsDecision p d

refused : (p : Policy) (f : Refusal) → Sounds p (Refused f)
refused p f = record { named = refl; sound = tt }

unless_sounds : (p : Policy) (cs : List (Bool × Refusal)) (r : Reply) → Sounds p r → Sounds p (unless cs r)
unless_sounds p = unless_keeps (Sounds p) (refused p)

-- copies of what the model keeps to itself

abbrev by_walk : Option RoleWalk → Reply
by_walk (Some w) = Active w
by_walk None = Refused NotAssigned

abbrev is_user : Actor → Bool
is_user (User u) = true
is_user _ = false

abbrev is_usable_edge : Status → List HierEdge → ℕ → Bool
is_usable_edge s edges n = elim (item_at edges n) [ Some e ↦ usable s true n e | None ↦ false ]

abbrev first_unusable : Status → List HierEdge → List ℕ → ℕ
first_unusable s edges [] = 0
first_unusable s edges (n ∷ ns) = if is_usable_edge s edges n then first_unusable s edges ns else n

abbrev denied : Status → List HierEdge → Option RoleWalk → Decision
denied s edges None = NoGrant
denied s edges (Some w) = Shut (first_unusable s edges w.edges)

module _ (p : Policy) where
  walked : (o : Option RoleWalk) → ((w : RoleWalk) → o ≡ Some w → Leads p w) → Sounds p (by_walk o)
  walked None leads = refused p NotAssigned
  walked (Some w) leads = record { named = (leads w refl).named; sound = (leads w refl).follows }

  -- an edge of the walk, or the first where all of them are usable
  shut_at : (s : Status) (ns : List ℕ) → list_all (has_edge p) ns ≡ true → has_edge p 0 ≡ true → has_edge p (first_unusable s p.edges ns) ≡ true
  shut_at s [] are some = some
  shut_at s (n ∷ ns) are some = by (is_usable_edge s p.edges n) (shut_at s ns parts.1 some)
    where
      parts : (has_edge p n ≡ true) × (list_all (has_edge p) ns ≡ true)
      parts = both (has_edge p n) (list_all (has_edge p) ns) are

      by : (b : Bool) → has_edge p (first_unusable s p.edges ns) ≡ true → has_edge p (if b then first_unusable s p.edges ns else n) ≡ true
      by true rest = rest
      by false rest = parts.0

  shut_named : (s : Status) (ns : List ℕ) → (ns ≡ [] → ⊥) → list_all (has_edge p) ns ≡ true → has_edge p (first_unusable s p.edges ns) ≡ true
  shut_named s [] some are = absurd (some refl)
  shut_named s (n ∷ ns) some are =
      let within : n < length p.edges = ltb-true n (length p.edges) (both (has_edge p n) (list_all (has_edge p) ns) are).0 in
      shut_at s (n ∷ ns) are (lt-ltb 0 (length p.edges) (omega (arith, within)))

  module _ (pt : Point) (named : IsNamedPoint p pt) (actor : Actor) where
    assigned_low : (u : UserId) (r : RoleId) → pt.status (Assigned u r) ≡ true → r.0 < p.roles
    assigned_low u r on = ltb-true r.0 p.roles (both (nat_lt u.0 p.users) (nat_lt r.0 p.roles) (named.on (Assigned u r) on)).1

    role_low : (n : SessionId) (r : RoleId) → lists same_role (roles_of pt.table n) r ≡ true → r.0 < p.roles
    role_low n r is =
        let (x, there, same) = any_elim (λ x. same_role r x) (roles_of pt.table n) is in
        let (a, held, of) = of_map (λ (a : Activation). a.role) (filter (λ a. same_session a.session n) pt.table.active) x there in
        let (active, mine) = of_filter (λ a. same_session a.session n) pt.table.active a held in
        let low : a.role.0 < p.roles = named.active a (is_in pt.table.active a active) in
        subst (λ (x : RoleId). x.0 < p.roles) (sym (is_same_role r x same ∙ of)) low

    activates : (n : SessionId) (r : RoleId) → Sounds p (answer p pt actor (requests.Activate n r))
    activates n r = by (owner_of pt.table n) refl
      where
        by : (o : Option UserId) → owner_of pt.table n ≡ o → Sounds p (answer p pt actor (requests.Activate n r))
        by None e = rw e (refused p NoSession)
        by (Some owner) e =
            let tb = pt.table in
            let caps = caps_of p.caps r in
            let walk = activation_walk p.edges pt.status owner r in
            let all = count_by (λ a. same_role a.role r) tb.active in
            let own = count_by (is_of owner r) tb.active in
            let spent = tb.charged owner r (day_of pt.now) in
            rw e
            (unless_sounds p
            (session_causes tb actor n
            ++ (list_any (is_active_in n r) tb.active, Already)
            ∷ (not (pt.status (Enabled r)), Disabled)
            ∷ (is_none walk, NotAssigned)
            ∷ (reached caps.total all, RoleFull all)
            ∷ (reached caps.user own, UserFull own)
            ∷ (reached caps.day spent, DaySpent spent)
            ∷ [])
            (by_walk walk)
            (walked walk (λ w is. found_leads p (usable pt.status false) (λ r. pt.status (Assigned owner r)) (same_role r) (assigned_low owner) w is)))

    decided : (active : List RoleId) (perm : PermId) → ((r : RoleId) → lists same_role active r ≡ true → r.0 < p.roles) → SoundDecision p (decide p.edges pt.status active perm)
    decided [] perm low = record { named = refl; follows = tt }
    decided (a ∷ as') perm low =
        by (permission_walk p.edges pt.status (a ∷ as') perm) refl (permission_walk_of_any p.edges pt.status (a ∷ as') perm) refl
      where
        by : (o : Option RoleWalk) → permission_walk p.edges pt.status (a ∷ as') perm ≡ o → (q : Option RoleWalk) → permission_walk_of_any p.edges pt.status (a ∷ as') perm ≡ q
            → SoundDecision p (elim o as (λ _. Decision) [ Some w ↦ Permit w | None ↦ denied pt.status p.edges q ])
        by (Some w) is q any =
            let leads = found_leads p (usable pt.status true) (lists same_role (a ∷ as')) (λ r. pt.status (Granted perm r)) low w is in
            record { named = leads.named; follows = leads.follows }
        by None is None any = record { named = refl; follows = tt }
        by None is (Some w) any =
            let leads = found_leads p (λ n e. e.inherits) (lists same_role (a ∷ as')) (λ r. pt.status (Granted perm r)) low w any in
            record {
              named = shut_named pt.status w.edges
                  (λ none. none_still p.edges (usable pt.status true) (λ n e. e.inherits) (lists same_role (a ∷ as')) (λ r. pt.status (Granted perm r)) w any none is)
                  (both (nat_lt w.start.0 p.roles) (list_all (has_edge p) w.edges) leads.named).1;
              follows = tt;
            }

    raises : (d : ℕ) → Sounds p (unless (raise_causes p actor (pt.now + 1 + d)) (Queued (pt.now + 1 + d)))
    raises d = by (not (is_admin p actor)) (nat_lt LAST_MINUTE (pt.now + 1 + d)) refl
      where
        by : (a b : Bool) → nat_lt LAST_MINUTE (pt.now + 1 + d) ≡ b → Sounds p (unless ((a, NotAdmin) ∷ (b, Beyond (pt.now + 1 + d)) ∷ []) (Queued (pt.now + 1 + d)))
        by true b late = refused p NotAdmin
        by false true late = refused p (Beyond (pt.now + 1 + d))
        by false false late = record { named = refl; sound = ltb-false LAST_MINUTE (pt.now + 1 + d) late }

    sounds : (q : Request) → Sounds p (answer p pt actor q)
    sounds requests.Now = record { named = refl; sound = named.now }
    sounds (requests.Status c) = record { named = refl; sound = tt }
    sounds (requests.Seen e) = record { named = refl; sound = tt }
    sounds (requests.Raise h d) = raises d
    sounds requests.OpenSession =
        unless_sounds p ((not (is_user actor), NoUser) ∷ (nat_le 10000 (length pt.table.sessions), SessionsFull) ∷ []) (Session (record { 0 = pt.table.begun + 1 })) (record { named = refl; sound = tt })
    sounds (requests.CloseSession s) = unless_sounds p (session_causes pt.table actor s) Done (record { named = refl; sound = tt })
    sounds (requests.Activate s r) = activates s r
    sounds (requests.Deactivate s r) =
        unless_sounds p (session_causes pt.table actor s ++ (not (list_any (is_active_in s r) pt.table.active), NotActive) ∷ []) Done (record { named = refl; sound = tt })
    sounds (requests.Active s r) =
        unless_sounds p (session_causes pt.table actor s) (Truth (list_any (is_active_in s r) pt.table.active)) (record { named = refl; sound = tt })
    sounds (requests.Check s q) =
        let d = decided (roles_of pt.table s) q (role_low s) in
        unless_sounds p (session_causes pt.table actor s) (Decided (decide p.edges pt.status (roles_of pt.table s) q)) (record { named = d.named; sound = d.follows })

    pub reply_sounds : (q : Request) → Sounds p (reply_of p pt actor q)
    reply_sounds q = unless_sounds p (actor_causes actor) (answer p pt actor q) (sounds q)
