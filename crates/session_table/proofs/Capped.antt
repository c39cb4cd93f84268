-- What a close leaves, and that caps hold after each step.
use Rattle.std.proofs.Common.{◌≡◌, ℕ, zero, suc, ◌+◌, ◌-◌, ◌<◌, ◌≤◌, Bool, true, false, cond, not, ◌&&◌, ◌||◌, List, [], ◌∷◌, ◌++◌, filter, count_by, Option, Some, None, is_none, refl, sym, subst, arith, if◌then◌else◌}
use Rattle.std.specs.List.{list_any}
use Rattle.std.proofs.lemmas.Bool.{leb-false, eqb-true}
use Rattle.gt_base.specs.declared.events.RoleId.{RoleId}
use Rattle.gt_base.specs.declared.events.UserId.{UserId}
use Rattle.gt_base.specs.declared.events.SessionId.{SessionId}
use Rattle.gt_base.specs.declared.events.Fluent.TheVariants.{Enabled}
use Rattle.gt_base.specs.declared.policies.Caps.{Caps}
use Rattle.gt_base.specs.declared.requests.Actor.{Actor}
use Rattle.gt_base.specs.declared.requests.Actor.TheVariants.{Operator, User, Nobody}
use Rattle.gt_base.specs.declared.requests.Request.{Request}
use Rattle.gt_base.specs.declared.requests.Request.TheVariants.{Now as AskNow, Status as AskStatus, Seen as AskSeen, Raise, OpenSession, CloseSession, Activate, Deactivate, Active as AskActive, Check}
use Rattle.gt_base.specs.declared.requests.Reply.{Reply}
use Rattle.gt_base.specs.declared.requests.Reply.TheVariants.{Now, Truth, Event, Queued, Session, Done, Active, Decided, Refused}
use Rattle.gt_base.specs.declared.requests.Refusal.{Refusal}
use Rattle.gt_base.specs.declared.requests.Refusal.TheVariants.{NoSession, NotAssigned, RoleFull, UserFull, DaySpent, Already, Disabled}
use Rattle.gt_base.specs.Held.{RoleWalk}
use Rattle.gtrbac_model.specs.Calendar.{day_of}
use Rattle.gtrbac_model.specs.Graph.{item_at}
use Rattle.gtrbac_model.specs.Hierarchy.{activation_walk}
use Rattle.gtrbac_model.specs.Policy.{Policy}
use Rattle.gtrbac_model.specs.Reply.{Point, unless, session_causes, answer}
use Rattle.gtrbac_model.specs.Same.{same_role, same_user}
use Rattle.gtrbac_model.specs.Sessions.{Table, Activation, caps_of, reached, is_of, is_active_in, is_dropped, owner_of, applied}
use Rattle.walk_laws.proofs.Roles.{is_same_role}
use Rattle.session_table.specs.Tables.{charged_through}
use Rattle.session_table.specs.Laws.{CloseLeaves, WithinCaps, CapsStay}
use Rattle.session_table.specs.Opened.{in_session}
use Rattle.session_table.proofs.Entering.{activation, entered_is}
use Rattle.session_table.proofs.Indexing.{count_kept, count_added}

item_passes : {A : Type 0} (p : A → Bool) (xs : List A) (i : ℕ) (x : A) → item_at (filter p xs) i ≡ Some x → p x ≡ true
item_passes p [] i x e = cc
item_passes p (y ∷ ys) i x e = by p y ys i x (p y) refl e (item_passes p ys)
  where
    by : {A : Type 0} (p : A → Bool) (y : A) (ys : List A) (i : ℕ) (x : A) (b : Bool) → p y ≡ b → item_at (cond b (y ∷ filter p ys) (filter p ys)) i ≡ Some x
        → ((j : ℕ) (z : A) → item_at (filter p ys) j ≡ Some z → p z ≡ true) → p x ≡ true
    by p y ys zero x true is e rest = let same : y ≡ x = cc in subst (λ z. p z ≡ true) same is
    by p y ys (suc i) x true is e rest = rest i x e
    by p y ys i x false is e rest = rest i x e

-- of four causes none is there
no_cause : (on none long spent : Bool) → not (not on || none || long || spent) ≡ true → record { on : on ≡ true; none : none ≡ false; long : long ≡ false; spent : spent ≡ false }
no_cause true false false false h = record { on = refl; none = refl; long = refl; spent = refl }
no_cause true false false true h = cc
no_cause true false true spent h = cc
no_cause true true long spent h = cc
no_cause false none long spent h = cc

pub close_leaves : CloseLeaves
close_leaves edges caps s now to tb i a at =
    let all : Table = charged_through now to tb in
    let h = no_cause (s (Enabled a.role)) (is_none (activation_walk edges s a.user a.role)) (reached (caps_of caps a.role).length (to - a.begun))
    (reached (caps_of caps a.role).day (all.charged a.user a.role (day_of to)))
    (item_passes (λ x. not (is_dropped edges caps s to all x)) tb.active i a at) in
    record { on = h.on; allowed = h.none; young = h.long; unspent = h.spent }

-- fewer activations are within the caps too
fewer : (caps : List Caps) (tb : Table) (q : Activation → Bool) (left : List Activation) → left ≡ filter q tb.active → WithinCaps caps tb → WithinCaps caps (record tb { active = left })
fewer caps tb q left is h = record {
  total = λ r n e. at_most (λ a. same_role a.role r) n (h.total r n e);
  user = λ u r n e. at_most (is_of u r) n (h.user u r n e);
}
  where
    at_most : (p : Activation → Bool) (n : ℕ) → count_by p tb.active ≤ n → count_by p left ≤ n
    at_most p n le = let k = count_kept p q tb.active in subst (λ xs. count_by p xs ≤ n) (sym is) (omega (arith, k, le))

-- the caps look at the activations alone
alike : (caps : List Caps) (tb tb' : Table) → tb'.active ≡ tb.active → WithinCaps caps tb → WithinCaps caps tb'
alike caps tb tb' same h = record {
  total = λ r n e. subst (λ xs. count_by (λ a. same_role a.role r) xs ≤ n) (sym same) (h.total r n e);
  user = λ u r n e. subst (λ xs. count_by (is_of u r) xs ≤ n) (sym same) (h.user u r n e);
}

-- a further one is, where neither cap was reached
unreached : (cap : Option ℕ) (k n : ℕ) → reached cap k ≡ false → cap ≡ Some n → k + 1 ≤ n
unreached None k n off is = cc
unreached (Some m) k n off is = let e : m ≡ n = cc in let low : k < m = leb-false m k off in omega arith

one_more : (p : Activation → Bool) (xs : List Activation) (a : Activation) (n : ℕ) → count_by p xs ≤ n → (p a ≡ true → count_by p xs + 1 ≤ n) → count_by p (xs ++ a ∷ []) ≤ n
one_more p xs a n le room = subst (λ k. k ≤ n) (sym (count_added p xs a)) (by (p a) room)
  where
    by : (b : Bool) → (b ≡ true → count_by p xs + 1 ≤ n) → count_by p xs + cond b 1 0 ≤ n
    by true h = h refl
    by false h = omega (arith, le)

one_user : (a b : UserId) → same_user a b ≡ true → a ≡ b
one_user a b h = let e : a.0 ≡ b.0 = eqb-true a.0 b.0 h in λ i. record { 0 = e i }

both_true : (a b : Bool) → (a && b) ≡ true → (a ≡ true) × (b ≡ true)
both_true true b h = (refl, h)
both_true false b h = cc

-- what was answered with a walk had none of the causes
no_refusal : (cs : List (Bool × Refusal)) (a : Reply) (w : RoleWalk) → unless cs a ≡ Active w → (i : ℕ) (c : Bool × Refusal) → item_at cs i ≡ Some c → c.0 ≡ false
no_refusal [] a w e i c at = cc
no_refusal (d ∷ cs) a w e i c at = by d.0 refl e (λ h j f. no_refusal cs a w h j c f) i at
  where
    by : (b : Bool) → d.0 ≡ b → (if b then Refused d.1 else unless cs a) ≡ Active w → (unless cs a ≡ Active w → (j : ℕ) → item_at cs j ≡ Some c → c.0 ≡ false) → (i : ℕ) → item_at (d ∷ cs) i ≡ Some c → c.0 ≡ false
    by true is h rest i at = cc
    by false is h rest zero at = let same : d ≡ c = cc in subst (λ x. x.0 ≡ false) same is
    by false is h rest (suc i) at = rest h i at

abbrev by_walk : Option RoleWalk → Reply
by_walk (Some w) = Active w
by_walk None = Refused NotAssigned

module _ (p : Policy) (pt : Point) (actor : Actor) (n : SessionId) (r : RoleId) where
  abbrev tb : Table
  tb = pt.table

  abbrev all : ℕ
  all = count_by (λ a. same_role a.role r) tb.active

  abbrev own : UserId → ℕ
  own u = count_by (is_of u r) tb.active

  abbrev spent_cause : UserId → List (Bool × Refusal)
  spent_cause u = (reached (caps_of p.caps r).day (tb.charged u r (day_of pt.now)), DaySpent (tb.charged u r (day_of pt.now))) ∷ []

  abbrev cap_causes : UserId → List (Bool × Refusal)
  cap_causes u = (reached (caps_of p.caps r).total all, RoleFull all) ∷ (reached (caps_of p.caps r).user (own u), UserFull (own u)) ∷ spent_cause u

  abbrev role_causes : UserId → List (Bool × Refusal)
  role_causes u = (list_any (is_active_in n r) tb.active, Already) ∷ (not (pt.status (Enabled r)), Disabled) ∷ (is_none (activation_walk p.edges pt.status u r), NotAssigned) ∷ cap_causes u

  abbrev to_act : Option UserId → Reply
  to_act None = Refused NoSession
  to_act (Some u) = unless (session_causes tb actor n ++ role_causes u) (by_walk (activation_walk p.edges pt.status u r))

  -- what was answered with a walk has reached neither cap
  room : (u : UserId) (w : RoleWalk) → to_act (Some u) ≡ Active w → (reached (caps_of p.caps r).total all ≡ false) × (reached (caps_of p.caps r).user (own u) ≡ false)
  room u w e =
      let causes : List (Bool × Refusal) = session_causes tb actor n ++ role_causes u in
      let none = no_refusal causes (by_walk (activation_walk p.edges pt.status u r)) w e in
      (none 5 (reached (caps_of p.caps r).total all, RoleFull all) refl, none 6 (reached (caps_of p.caps r).user (own u), UserFull (own u)) refl)

  module _ (within : WithinCaps p.caps tb) where
    for_role : (q : RoleId) (k : ℕ) → reached (caps_of p.caps r).total all ≡ false → (caps_of p.caps q).total ≡ Some k → r ≡ q → count_by (λ a. same_role a.role q) tb.active + 1 ≤ k
    for_role q k off e same =
        unreached (caps_of p.caps q).total _ k (subst (λ x. reached (caps_of p.caps x).total (count_by (λ a. same_role a.role x) tb.active) ≡ false) same off) e

    for_user : (u v : UserId) (q : RoleId) (k : ℕ) → reached (caps_of p.caps r).user (own u) ≡ false → (caps_of p.caps q).user ≡ Some k → u ≡ v → r ≡ q → count_by (is_of v q) tb.active + 1 ≤ k
    for_user u v q k off e one same =
        unreached (caps_of p.caps q).user _ k
        (subst (λ x. reached (caps_of p.caps x).user (count_by (is_of v x) tb.active) ≡ false) same (subst (λ y. reached (caps_of p.caps r).user (own y) ≡ false) one off)) e

    added : (u : UserId) → (reached (caps_of p.caps r).total all ≡ false) × (reached (caps_of p.caps r).user (own u) ≡ false)
        → WithinCaps p.caps (record tb { active = tb.active ++ activation n u r pt.now ∷ [] })
    added u free = record {
      total = λ q k e. one_more (λ a. same_role a.role q) tb.active (activation n u r pt.now) k (within.total q k e) (λ same. for_role q k free.0 e (is_same_role r q same));
      user = λ v q k e. one_more (is_of v q) tb.active (activation n u r pt.now) k (within.user v q k e)
          (λ same. let h = both_true (same_user u v) (same_role r q) same in for_user u v q k free.1 e (one_user u v h.0) (is_same_role r q h.1));
    }

    entered : (o : Option UserId) (reply : Reply) → owner_of tb n ≡ o → reply ≡ to_act o → WithinCaps p.caps (applied pt.now actor (Activate n r) reply tb)
    entered None (Active w) is e = cc
    entered (Some u) (Active w) is e =
        subst (WithinCaps p.caps) (sym (entered_is pt.now n r tb actor w u is))
        (alike p.caps (record tb { active = tb.active ++ activation n u r pt.now ∷ [] }) _ refl (added u (room u w (sym e))))
    entered o (Now t) is e = within
    entered o (Truth b) is e = within
    entered o (Event x) is e = within
    entered o (Queued t) is e = within
    entered o (Session m) is e = within
    entered o Done is e = within
    entered o (Decided d) is e = within
    entered o (Refused x) is e = within

    activated : WithinCaps p.caps (applied pt.now actor (Activate n r) (answer p pt actor (Activate n r)) tb)
    activated = entered (owner_of tb n) (answer p pt actor (Activate n r)) refl refl

begun : (caps : List Caps) (now : ℕ) (actor : Actor) (t : Table) (reply : Reply) → WithinCaps caps t → WithinCaps caps (applied now actor OpenSession reply t)
begun caps now (User u) t (Session m) h = alike caps t _ refl h
begun caps now Operator t (Session m) h = h
begun caps now Nobody t (Session m) h = h
begun caps now actor t (Now m) h = h
begun caps now actor t (Truth b) h = h
begun caps now actor t (Event x) h = h
begun caps now actor t (Queued m) h = h
begun caps now actor t Done h = h
begun caps now actor t (Active w) h = h
begun caps now actor t (Decided d) h = h
begun caps now actor t (Refused x) h = h

ended_session : (caps : List Caps) (now : ℕ) (actor : Actor) (n : SessionId) (t : Table) (reply : Reply) → WithinCaps caps t → WithinCaps caps (applied now actor (CloseSession n) reply t)
ended_session caps now actor n t Done h = alike caps (record t { active = filter (λ a. not (in_session n a)) t.active }) _ refl (fewer caps t (λ a. not (in_session n a)) _ refl h)
ended_session caps now actor n t (Session m) h = h
ended_session caps now actor n t (Now m) h = h
ended_session caps now actor n t (Truth b) h = h
ended_session caps now actor n t (Event x) h = h
ended_session caps now actor n t (Queued m) h = h
ended_session caps now actor n t (Active w) h = h
ended_session caps now actor n t (Decided d) h = h
ended_session caps now actor n t (Refused x) h = h

ended_role : (caps : List Caps) (now : ℕ) (actor : Actor) (n : SessionId) (r : RoleId) (t : Table) (reply : Reply) → WithinCaps caps t → WithinCaps caps (applied now actor (Deactivate n r) reply t)
ended_role caps now actor n r t Done h = alike caps (record t { active = filter (λ a. not (is_active_in n r a)) t.active }) _ refl (fewer caps t (λ a. not (is_active_in n r a)) _ refl h)
ended_role caps now actor n r t (Session m) h = h
ended_role caps now actor n r t (Now m) h = h
ended_role caps now actor n r t (Truth b) h = h
ended_role caps now actor n r t (Event x) h = h
ended_role caps now actor n r t (Queued m) h = h
ended_role caps now actor n r t (Active w) h = h
ended_role caps now actor n r t (Decided d) h = h
ended_role caps now actor n r t (Refused x) h = h

pub caps_stay : CapsStay
caps_stay caps t h = record {
  asked = λ p pt actor request. asks (record p { caps = caps }) (record pt { table = t }) actor request h;
  closed = λ edges s now to. alike caps (record t { active = filter (λ a. not (is_dropped edges caps s to (charged_through now to t) a)) t.active }) _ refl
      (fewer caps t (λ a. not (is_dropped edges caps s to (charged_through now to t) a)) _ refl h);
}
  where
    asks : (p : Policy) (pt : Point) (actor : Actor) (request : Request) → WithinCaps p.caps pt.table → WithinCaps p.caps (applied pt.now actor request (answer p pt actor request) pt.table)
    asks p pt actor OpenSession h = begun p.caps pt.now actor pt.table (answer p pt actor OpenSession) h
    asks p pt actor (CloseSession n) h = ended_session p.caps pt.now actor n pt.table (answer p pt actor (CloseSession n)) h
    asks p pt actor (Activate n r) h = activated p pt actor n r h
    asks p pt actor (Deactivate n r) h = ended_role p.caps pt.now actor n r pt.table (answer p pt actor (Deactivate n r)) h
    asks p pt actor AskNow h = h
    asks p pt actor (AskStatus c) h = h
    asks p pt actor (AskSeen e) h = h
    asks p pt actor (Raise head delay) h = h
    asks p pt actor (AskActive n r) h = h
    asks p pt actor (Check n perm) h = h
