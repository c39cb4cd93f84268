-- Each activation of a legal history was begun by an answered request, and was allowed ever since.
use Rattle.std.proofs.Common.{◌≡◌, ℕ, suc, ◌-◌, ◌<◌, ◌≤◌, nat_le, Bool, true, false, not, ◌||◌, ◌⊎◌, inl, inr, List, [], ◌∷◌, ◌++◌, Option, Some, None, is_none, refl, sym, ◌∙◌, ap, subst, arith}
use Rattle.std.proofs.lemmas.Bool.{leb-true, leb-false}
use Rattle.std.specs.Option.{unwrap_or}
use Rattle.gt_base.specs.declared.events.RoleId.{RoleId}
use Rattle.gt_base.specs.declared.events.UserId.{UserId}
use Rattle.gt_base.specs.declared.events.Fluent.TheVariants.{Enabled}
use Rattle.gt_base.specs.declared.requests.Who.{Who}
use Rattle.gt_base.specs.declared.requests.Actor.{Actor}
use Rattle.gt_base.specs.declared.requests.Actor.TheVariants.{User, Operator, Nobody}
use Rattle.gt_base.specs.declared.requests.Request.{Request}
use Rattle.gt_base.specs.declared.requests.Request.TheVariants.{OpenSession, CloseSession, Activate, Deactivate}
use Rattle.gt_base.specs.declared.requests.Reply.{Reply}
use Rattle.gt_base.specs.declared.requests.Reply.TheVariants.{Session, Done, Active}
use Rattle.gt_base.specs.declared.requests.Entry.{Entry}
use Rattle.gt_base.specs.Held.{RoleWalk}
use Rattle.gt_base.specs.Machines.{asked}
use Rattle.gtrbac_model.specs.Policy.{Policy}
use Rattle.gtrbac_model.specs.Conflict.{Status}
use Rattle.gtrbac_model.specs.Status.{Model}
use Rattle.gtrbac_model.specs.Same.{same_session}
use Rattle.gtrbac_model.specs.Hierarchy.{activation_walk}
use Rattle.gtrbac_model.specs.Calendar.{day_of}
use Rattle.gtrbac_model.specs.Sessions.{Table, Activation, applied, owner_of, charge, is_dropped, close_minute, reached, caps_of, is_active_in}
use Rattle.gtrbac_model.specs.Base.{status, table_at}
use Rattle.gtrbac_model.specs.Reply.{reply_of}
use Rattle.gtrbac_model.specs.History.{Legal, now_of, point_after}
use Rattle.gtrbac_model.proofs.Elements.{Elem, split}
use Rattle.gtrbac_model.proofs.Playing.{goes_on}
use Rattle.history_laws.proofs.Members.{of_join, of_filter}
use Rattle.history_laws.proofs.Applying.{begun_by, active_some, active_none}
use Rattle.history_laws.proofs.Lasting.{front_steps, of_longer}
use Rattle.history_laws.proofs.Reading.{along}
use Rattle.audit_laws.specs.Owners.{MayAsk, IsOwn}
use Rattle.audit_laws.specs.Walks.{Allows}
use Rattle.audit_laws.specs.Permits.{IsEarned}
use Rattle.audit_laws.proofs.Owning.{own}
use Rattle.audit_laws.proofs.Activating.{allowed_by, activated}

abbrev IsAllowed : Policy → Status → UserId → RoleId → Type 0
IsAllowed p s u r = (w : RoleWalk) × Allows p s u r w

some_walk : (p : Policy) (s : Status) (u : UserId) (r : RoleId) (o : Option RoleWalk) → activation_walk p.edges s u r ≡ o → s (Enabled r) ≡ true → is_none o ≡ false → IsAllowed p s u r
some_walk p s u r None is on there = cc
some_walk p s u r (Some w) is on there = (w, allowed_by p s u r w is on)

-- an activation after a request was there before it, or the request began it

record IsBegun (now : ℕ) (tb : Table) (request : Request) (reply : Reply) (a : Activation) : Type 0 where
  walk : RoleWalk
  asked_so : request ≡ Activate a.session a.role
  answered : reply ≡ Active walk
  owned : owner_of tb a.session ≡ Some a.user
  at_now : a.begun ≡ now

was_or_begun : (now : ℕ) (actor : Actor) (request : Request) (reply : Reply) (tb : Table) (a : Activation) → Elem (applied now actor request reply tb).active a → Elem tb.active a ⊎ IsBegun now tb request reply a
was_or_begun now (User u) OpenSession (Session n) tb a there = inl there
was_or_begun now Operator OpenSession (Session n) tb a there = inl there
was_or_begun now Nobody OpenSession (Session n) tb a there = inl there
was_or_begun now actor (CloseSession n) Done tb a there = inl (of_filter (λ a. not (same_session a.session n)) tb.active a there).0
was_or_begun now actor (Activate n r) (Active w) tb a there = by (owner_of tb n) refl
  where
    by : (o : Option UserId) → owner_of tb n ≡ o → Elem tb.active a ⊎ IsBegun now tb (Activate n r) (Active w) a
    by None e = inl (subst (λ xs. Elem xs a) (active_none now actor n r w tb e) there)
    by (Some u) e =
        elim (of_join tb.active (begun_by now actor n r w tb u ∷ []) a (subst (λ xs. Elem xs a) (active_some now actor n r w tb u e) there)) [
          | inl was ↦ inl was
          | inr (inl is) ↦ inr (record { walk = w; asked_so = ap (λ (b : Activation). Activate b.session b.role) (sym is); answered = refl; owned = ap (λ (b : Activation). owner_of tb b.session) is ∙ e ∙ ap (λ (b : Activation). Some b.user) (sym is); at_now = ap (λ (b : Activation). b.begun) is })
          | inr (inr none) ↦ absurd none
        ]
was_or_begun now actor (Deactivate n r) Done tb a there = inl (of_filter (λ a. not (is_active_in n r a)) tb.active a there).0
was_or_begun now actor _ _ tb a there = inl there

pub legal_front : (p : Policy) (birth : ℕ) (m : Model) (h further : List Entry) → Legal p birth (h ++ further) m → Legal p birth h m
legal_front p birth m h further legal = record { model = of_longer p birth m h further legal; steps = front_steps p birth m [] h further legal.steps }

module _ (p : Policy) (birth : ℕ) (m : Model) (h : List Entry) (legal : Legal p birth h m) where
  -- earned up to the instant
  record Since (t : ℕ) (a : Activation) : Type 0 where
    front : List Entry
    rest : List Entry
    who : Who
    actor : Actor
    walk : RoleWalk
    is_part : front ++ asked who actor (Activate a.session a.role) (Active walk) ∷ rest ≡ h
    begun : now_of birth front ≡ a.begun
    may_ask : MayAsk a.user actor
    at_first : Allows p (status p birth m a.begun) a.user a.role walk
    since : (u : ℕ) → a.begun < u → u ≤ t → IsAllowed p (status p birth m u) a.user a.role

  abbrev Kept : ℕ → Table → Type 0
  Kept t tb = (a : Activation) → Elem tb.active a → Since t a

  parts : (a b c d : Bool) → not (not a || b || c || d) ≡ true → (a ≡ true) × (b ≡ false)
  parts true false c d e = (refl, refl)
  parts true true c d e = cc
  parts false b c d e = cc

  closes : (t : ℕ) (tb : Table) → birth ≤ t → table_at p birth m h t ≡ tb → Kept t tb → Kept (suc t) (close_minute p.edges p.caps (status p birth m (suc t)) (suc t) tb)
  closes t tb le is kept a there =
      let s : Status = status p birth m (suc t) in
      let all : Table = charge (suc t) tb in
      let (was, stays) = of_filter (λ a. not (is_dropped p.edges p.caps s (suc t) all a)) tb.active a there in
      let (on, walk) = parts (s (Enabled a.role)) (is_none (activation_walk p.edges s a.user a.role))
      (reached (caps_of p.caps a.role).length (suc t - a.begun)) (reached (caps_of p.caps a.role).day (all.charged a.user a.role (day_of (suc t)))) stays in
      let k : Since t a = kept a was in
      record {
        front = k.front;
        rest = k.rest;
        who = k.who;
        actor = k.actor;
        walk = k.walk;
        is_part = k.is_part;
        begun = k.begun;
        may_ask = k.may_ask;
        at_first = k.at_first;
        since = λ u from le.
            split (nat_le u t)
            (λ q. k.since u from (leb-true u t q))
            (λ q. subst (λ v. IsAllowed p (status p birth m v) a.user a.role) (last u le (leb-false u t q)) (some_walk p s a.user a.role _ refl on walk));
      }
    where
      last : (u : ℕ) → u ≤ suc t → t < u → suc t ≡ u
      last u le lt = omega (arith, le, lt)

  asks : (g rest : List Entry) (who : Who) (actor : Actor) (request : Request) (reply : Reply) (tb : Table) → g ++ asked who actor request reply ∷ rest ≡ h
      → reply ≡ reply_of p (point_after p birth m g) actor request → table_at p birth m g (now_of birth g) ≡ tb
      → table_at p birth m (g ++ asked who actor request reply ∷ []) (now_of birth g) ≡ applied (now_of birth g) actor request reply tb
      → Kept (now_of birth g) tb → Kept (now_of birth g) (applied (now_of birth g) actor request reply tb)
  asks g rest who actor request reply tb is answered at_now next kept a there =
      elim (was_or_begun (now_of birth g) actor request reply tb a there) [
        | inl was ↦ kept a was
        | inr b ↦
            let now : ℕ = now_of birth g in
            let told : Active b.walk ≡ reply_of p (point_after p birth m g) actor (Activate a.session a.role) = sym b.answered ∙ answered ∙ ap (reply_of p (point_after p birth m g) actor) b.asked_so in
            let owner : owner_of (table_at p birth m g now) a.session ≡ Some a.user = ap (λ b. owner_of b a.session) at_now ∙ b.owned in
            let done : Allows p (status p birth m now) a.user a.role b.walk = activated p (point_after p birth m g) actor a.session a.role a.user owner b.walk told in
            let by : IsOwn (table_at p birth m g now) actor a.session = own p (point_after p birth m g) a.session actor (Activate a.session a.role) (Active b.walk) (owner_of (table_at p birth m g now) a.session) refl refl refl told in
            record {
              front = g;
              rest = rest;
              who = who;
              actor = actor;
              walk = b.walk;
              is_part = (λ i. g ++ asked who actor (sym b.asked_so i) (sym b.answered i) ∷ rest) ∙ is;
              begun = sym b.at_now;
              may_ask = subst (λ v. MayAsk v actor) (ap (λ o. unwrap_or o a.user) (sym by.is_open ∙ owner)) by.may_ask;
              at_first = subst (λ u. Allows p (status p birth m u) a.user a.role b.walk) (sym b.at_now) done;
              since = λ u from le. absurd (never u now a.begun b.at_now from le);
            }
      ]
    where
      never : (u now begun : ℕ) → begun ≡ now → begun < u → u ≤ now → ⊥
      never u now begun same from le = omega (arith, same, from, le)

  pub earned : (a : Activation) → Elem (table_at p birth m h (now_of birth h)).active a → IsEarned p birth m h a
  earned a there =
      let k : Since (now_of birth h) a = along p birth m h legal.steps Kept (λ a k. elim k [ ]) closes asks (now_of birth h) (goes_on p birth m [] h legal.steps) a there in
      record { front = k.front; rest = k.rest; who = k.who; actor = k.actor; walk = k.walk; is_part = k.is_part; begun = k.begun; may_ask = k.may_ask; at_first = k.at_first; since = k.since }
