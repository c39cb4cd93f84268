-- Each activation of a legal history's table is in order: each step and each close keeps it so.
use Rattle.std.proofs.Common.{◌≡◌, ℕ, suc, ◌-◌, ◌≤◌, count_by, Bool, true, false, cond, not, ◌||◌, nat_eq, inl, inr, List, [], ◌∷◌, ◌++◌, filter, find, Option, Some, None, is_some, is_none, refl, sym, ◌∙◌, ap, subst, IsTrue, IsSome}
use Rattle.std.proofs.lemmas.Bool.{eqb-true}
use Rattle.std.specs.List.{list_any}
use Rattle.gt_base.specs.declared.requests.Refusal.TheVariants.{Already, Disabled, NotAssigned, RoleFull, UserFull, DaySpent}
use Rattle.gt_base.specs.Held.{RoleWalk}
use Rattle.gt_base.specs.declared.events.RoleId.{RoleId}
use Rattle.gt_base.specs.declared.events.UserId.{UserId}
use Rattle.gt_base.specs.declared.events.SessionId.{SessionId}
use Rattle.gt_base.specs.declared.events.Fluent.TheVariants.{Enabled}
use Rattle.gt_base.specs.declared.requests.Actor.{Actor}
use Rattle.gt_base.specs.declared.requests.Actor.TheVariants.{User, Operator, Nobody}
use Rattle.gt_base.specs.declared.requests.Request.{Request}
use Rattle.gt_base.specs.declared.requests.Request.TheVariants.{OpenSession, CloseSession, Activate, Deactivate}
use Rattle.gt_base.specs.declared.requests.Refusal.{Refusal}
use Rattle.gt_base.specs.declared.requests.Reply.{Reply}
use Rattle.gt_base.specs.declared.requests.Reply.TheVariants.{Session, Done, Active, Refused}
use Rattle.gt_base.specs.declared.requests.Entry.{Entry}
use Rattle.gtrbac_model.specs.Policy.{Policy}
use Rattle.gtrbac_model.specs.Conflict.{Status}
use Rattle.gtrbac_model.specs.Hierarchy.{activation_walk}
use Rattle.gtrbac_model.specs.Same.{same_session, same_role}
use Rattle.gtrbac_model.specs.Status.{Model}
use Rattle.gtrbac_model.specs.Sessions.{Table, Activation, OpenedSession, applied, owner_of, charge, is_dropped, close_minute, reached, caps_of, is_of, is_active_in}
use Rattle.gtrbac_model.specs.Base.{status, table_at}
use Rattle.gtrbac_model.specs.Calendar.{day_of}
use Rattle.gtrbac_model.specs.Reply.{Point, unless, reply_of, answer, actor_causes, session_causes}
use Rattle.gtrbac_model.specs.History.{now_of, point_after}
use Rattle.gtrbac_model.proofs.Elements.{Elem}
use Rattle.history_laws.specs.Activations.{IsInOrder, ActiveInOrder}
use Rattle.history_laws.proofs.Members.{clash, elem_of, of_join, of_filter}
use Rattle.history_laws.proofs.Applying.{active_some, active_none, sessions_stay}
use Rattle.history_laws.proofs.Reading.{along}

-- owners

abbrev owner_in : List OpenedSession → SessionId → Option UserId
owner_in os n = elim (find (λ o. same_session o.number n) os) [ Some o ↦ Some o.owner | None ↦ None ]

abbrev owner_from : Option OpenedSession → Option UserId
owner_from found = elim found [ Some o ↦ Some o.owner | None ↦ None ]

-- a session opened later hides none
owner_stays : (os more : List OpenedSession) (n : SessionId) (u : UserId) → owner_in os n ≡ Some u → owner_in (os ++ more) n ≡ Some u
owner_stays [] more n u e = cc
owner_stays (o ∷ os) more n u e = by (same_session o.number n) e (owner_stays os more n u)
  where
    by : (b : Bool) → owner_from (cond b (Some o) (find (λ o. same_session o.number n) os)) ≡ Some u → (owner_in os n ≡ Some u → owner_in (os ++ more) n ≡ Some u) → owner_from (cond b (Some o) (find (λ o. same_session o.number n) (os ++ more))) ≡ Some u
    by true e on = e
    by false e on = on e

-- nor does the close of another
owner_left : (os : List OpenedSession) (closed n : SessionId) → same_session n closed ≡ false → owner_in (filter (λ o. not (same_session o.number closed)) os) n ≡ owner_in os n
owner_left [] closed n other = refl
owner_left (o ∷ os) closed n other = by (same_session o.number closed) (same_session o.number n) refl refl (owner_left os closed n other)
  where
    by : (b c : Bool) → same_session o.number closed ≡ b → same_session o.number n ≡ c → owner_in (filter (λ o. not (same_session o.number closed)) os) n ≡ owner_in os n
        → owner_in (cond (not b) (o ∷ filter (λ o. not (same_session o.number closed)) os) (filter (λ o. not (same_session o.number closed)) os)) n
        ≡ owner_from (cond c (Some o) (find (λ o. same_session o.number n) os))
    by true true e f on = absurd (clash (same_session n closed) (ap (λ k. nat_eq k closed.0) (sym (eqb-true o.number.0 n.0 f)) ∙ e) other)
    by true false e f on = on
    by false true e f on = ap (λ b. owner_from (cond b (Some o) (find (λ o. same_session o.number n) (filter (λ o. not (same_session o.number closed)) os)))) f
    by false false e f on = ap (λ b. owner_from (cond b (Some o) (find (λ o. same_session o.number n) (filter (λ o. not (same_session o.number closed)) os)))) f ∙ on

-- what an answer tells of its causes

unless_passed : (cs : List (Bool × Refusal)) (a : Reply) (w : RoleWalk) → Active w ≡ unless cs a → (Active w ≡ a) × ((c : Bool × Refusal) → Elem cs c → c.0 ≡ false)
unless_passed [] a w e = (e, λ c m. elim m [ ])
unless_passed ((true, why) ∷ cs) a w e = cc
unless_passed ((false, why) ∷ cs) a w e =
    let (is, none) = unless_passed cs a w e in
    (is, λ c m. elim m [ inl same ↦ ap (λ d. d.0) same | inr k ↦ none c k ])

is_false : (b : Bool) → not b ≡ false → b ≡ true
is_false true e = refl
is_false false e = cc

is_there : {A : Type 0} (o : Option A) → is_none o ≡ false → is_some o ≡ true
is_there None e = cc
is_there (Some x) e = refl

record IsAllowed (p : Policy) (s : Status) (u : UserId) (r : RoleId) : Type 0 where
  on : IsTrue (s (Enabled r))
  walk : IsSome (activation_walk p.edges s u r)

module _ (p : Policy) (pt : Point) (actor : Actor) (n : SessionId) (r : RoleId) (u : UserId) (owner : owner_of pt.table n ≡ Some u) where
  -- the causes for which an activation is refused, where this is whether no walk allows it
  abbrev causes : Bool → List (Bool × Refusal)
  causes none =
      session_causes pt.table actor n
      ++ (list_any (is_active_in n r) pt.table.active, Already)
      ∷ (not (pt.status (Enabled r)), Disabled)
      ∷ (none, NotAssigned)
      ∷ (reached (caps_of p.caps r).total (count_by (λ a. same_role a.role r) pt.table.active), RoleFull (count_by (λ a. same_role a.role r) pt.table.active))
      ∷ (reached (caps_of p.caps r).user (count_by (is_of u r) pt.table.active), UserFull (count_by (is_of u r) pt.table.active))
      ∷ (reached (caps_of p.caps r).day (pt.table.charged u r (day_of pt.now)), DaySpent (pt.table.charged u r (day_of pt.now)))
      ∷ []

  by_walk_of : (w : RoleWalk) → activation_walk p.edges pt.status u r ≡ Some w → answer p pt actor (Activate n r) ≡ unless (causes false) (Active w)
  by_walk_of w walk = rw owner (rw walk (rw owner refl))

  by_none : activation_walk p.edges pt.status u r ≡ None → answer p pt actor (Activate n r) ≡ unless (causes true) (Refused NotAssigned)
  by_none none = rw owner (rw none (rw owner refl))

  -- a role that was activated was on, and its user may activate it
  allowed : (w : RoleWalk) → Active w ≡ reply_of p pt actor (Activate n r) → IsAllowed p pt.status u r
  allowed w is = by (activation_walk p.edges pt.status u r) refl (unless_passed (actor_causes actor) (answer p pt actor (Activate n r)) w is).0
    where
      by : (o : Option RoleWalk) → activation_walk p.edges pt.status u r ≡ o → Active w ≡ answer p pt actor (Activate n r) → IsAllowed p pt.status u r
      by (Some v) e a =
          let (same, none) = unless_passed (causes false) (Active v) w (a ∙ by_walk_of v e) in
          record { on = is_false _ (none (not (pt.status (Enabled r)), Disabled) (inr (inr (inr (inl refl))))); walk = ap is_some e }
      by None e a = let (same, none) = unless_passed (causes true) (Refused NotAssigned) w (a ∙ by_none e) in cc

module _ (p : Policy) (birth : ℕ) (m : Model) (h : List Entry) where
  abbrev Kept : ℕ → Table → Type 0
  Kept t tb = (a : Activation) → Elem tb.active a → IsInOrder p (status p birth m t) tb a

  parts : (a b c d : Bool) → not (not a || b || c || d) ≡ true → (a ≡ true) × (b ≡ false)
  parts true false c d e = (refl, refl)
  parts true true c d e = cc
  parts false b c d e = cc

  closes : (t : ℕ) (tb : Table) → birth ≤ t → table_at p birth m h t ≡ tb → Kept t tb → Kept (suc t) (close_minute p.edges p.caps (status p birth m (suc t)) (suc t) tb)
  closes t tb le is kept a there =
      let s : Status = status p birth m (suc t) in
      let all : Table = charge (suc t) tb in
      let (was, stays) = of_filter (λ a. not (is_dropped p.edges p.caps s (suc t) all a)) tb.active a there in
      let (on, walk) = parts (s (Enabled a.role)) (is_none (activation_walk p.edges s a.user a.role))
      (reached (caps_of p.caps a.role).length (suc t - a.begun)) (reached (caps_of p.caps a.role).day (all.charged a.user a.role (day_of (suc t)))) stays in
      record { session_is_its_users = (kept a was).session_is_its_users; role_is_on = on; may_activate = is_there _ walk }

  abbrev Known : ℕ → Table → Actor → Request → Reply → Type 0
  Known t tb actor request reply = (pt : Point) × (pt.table ≡ tb) × (pt.status ≡ status p birth m t) × (reply ≡ reply_of p pt actor request)

  -- an activation stays in order where its session's owner stays
  stays : (t : ℕ) (tb tb' : Table) (a : Activation) → owner_of tb' a.session ≡ owner_of tb a.session → IsInOrder p (status p birth m t) tb a → IsInOrder p (status p birth m t) tb' a
  stays t tb tb' a same is = record { session_is_its_users = same ∙ is.session_is_its_users; role_is_on = is.role_is_on; may_activate = is.may_activate }

  asks : (t : ℕ) (tb : Table) (actor : Actor) (request : Request) (reply : Reply) → Known t tb actor request reply → Kept t tb → Kept t (applied t actor request reply tb)
  asks t tb (User u) OpenSession (Session n) known kept a there =
      let is = kept a there in
      record { session_is_its_users = owner_stays tb.sessions (record { number = n; owner = u } ∷ []) a.session a.user is.session_is_its_users; role_is_on = is.role_is_on; may_activate = is.may_activate }
  asks t tb Operator OpenSession (Session n) known kept a there = kept a there
  asks t tb Nobody OpenSession (Session n) known kept a there = kept a there
  asks t tb actor (CloseSession n) Done known kept a there =
      let (was, other) = of_filter (λ a. not (same_session a.session n)) tb.active a there in
      stays t tb (applied t actor (CloseSession n) Done tb) a (owner_left tb.sessions n a.session (is_true (same_session a.session n) other)) (kept a was)
    where
      is_true : (b : Bool) → not b ≡ true → b ≡ false
      is_true true e = cc
      is_true false e = refl
  asks t tb actor (Activate n r) (Active w) known kept a there = by (owner_of tb n) refl
    where
      tb' : Table
      tb' = applied t actor (Activate n r) (Active w) tb

      by : (o : Option UserId) → owner_of tb n ≡ o → IsInOrder p (status p birth m t) tb' a
      by None e = stays t tb tb' a (ap (λ os. owner_in os a.session) (sessions_stay t actor n r w tb None e)) (kept a (subst (λ as'. Elem as' a) (active_none t actor n r w tb e) there))
      by (Some u) e =
          let owners : owner_of tb' a.session ≡ owner_of tb a.session = ap (λ os. owner_in os a.session) (sessions_stay t actor n r w tb (Some u) e) in
          elim (of_join tb.active (record { session = n; user = u; role = r; begun = t } ∷ []) a (subst (λ as'. Elem as' a) (active_some t actor n r w tb u e) there)) [
            | inl was ↦ stays t tb tb' a owners (kept a was)
            | inr (inl is) ↦
                let (pt, of_table, of_status, answered) = known in
                let may : IsAllowed p (status p birth m t) u r = subst (λ s. IsAllowed p s u r) of_status (allowed p pt actor n r u (ap (λ b. owner_of b n) of_table ∙ e) w answered) in
                record {
                  session_is_its_users = owners ∙ ap (λ b. owner_of tb b.session) is ∙ e ∙ ap (λ b. Some b.user) (sym is);
                  role_is_on = subst (λ b. IsTrue (status p birth m t (Enabled b.role))) (sym is) may.on;
                  may_activate = subst (λ b. IsSome (activation_walk p.edges (status p birth m t) b.user b.role)) (sym is) may.walk;
                }
            | inr (inr none) ↦ absurd none
          ]
  asks t tb actor (Deactivate n r) Done known kept a there = stays t tb (applied t actor (Deactivate n r) Done tb) a refl (kept a (of_filter (λ a. not (is_active_in n r a)) tb.active a there).0)
  asks t tb actor _ _ known kept a there = kept a there

pub active_in_order : ActiveInOrder
active_in_order p birth h m legal t le a there =
    along p birth m h legal.steps (Kept p birth m h) (λ a k. elim k [ ])
    (closes p birth m h)
    (λ g rest who actor request reply tb is answered at_now next kept. asks p birth m h (now_of birth g) tb actor request reply (point_after p birth m g, at_now, refl, answered) kept)
    t le a (elem_of (table_at p birth m h t).active a there)
