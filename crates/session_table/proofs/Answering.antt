-- The first cause that is there decides the reply.
use Rattle.std.proofs.Common.{◌≡◌, ℕ, Bool, true, false, List, [], ◌∷◌, ◌++◌, count_by, Option, Some, None, is_none, refl, sym, ap, ◌∙◌, append_assoc, if◌then◌else◌}
use Rattle.std.specs.List.{list_any}
use Rattle.gt_base.specs.declared.events.RoleId.{RoleId}
use Rattle.gt_base.specs.declared.events.UserId.{UserId}
use Rattle.gt_base.specs.declared.events.SessionId.{SessionId}
use Rattle.gt_base.specs.declared.policies.Caps.{Caps}
use Rattle.gt_base.specs.declared.policies.HierEdge.{HierEdge}
use Rattle.gt_base.specs.declared.requests.Actor.{Actor}
use Rattle.gt_base.specs.declared.requests.Request.TheVariants.{Activate}
use Rattle.gt_base.specs.declared.requests.Reply.{Reply}
use Rattle.gt_base.specs.declared.requests.Reply.TheVariants.{Active, Refused}
use Rattle.gt_base.specs.declared.requests.Refusal.{Refusal}
use Rattle.gt_base.specs.declared.requests.Refusal.TheVariants.{NoSession, NotAssigned}
use Rattle.gt_base.specs.Held.{RoleWalk}
use Rattle.gtrbac_model.specs.Same.{same_role}
use Rattle.gtrbac_model.specs.Calendar.{day_of}
use Rattle.gtrbac_model.specs.Policy.{Policy}
use Rattle.gtrbac_model.specs.Conflict.{Status}
use Rattle.gtrbac_model.specs.Hierarchy.{activation_walk}
use Rattle.gtrbac_model.specs.Sessions.{Table, caps_of, is_of, is_active_in, owner_of}
use Rattle.gtrbac_model.specs.Reply.{Point, unless, session_causes, answer}
use Rattle.session_table.proofs.Finding.{causes_of}
use Rattle.session_table.specs.declared.faults.SessionFault.{SessionFault}
use Rattle.session_table.specs.declared.faults.SessionFault.TheVariants.{Refused as Fault, Memory}
use Rattle.session_table.specs.Causes.{first_cause, early_causes, late_causes}
use Rattle.session_table.specs.Permits.{IsCauseOf}
use Rattle.session_table.specs.Replies.{OrRefused}

pub unless_none : (cs : List (Bool × Refusal)) (a : Reply) → first_cause cs ≡ None → unless cs a ≡ a
unless_none [] a e = refl
unless_none (c ∷ cs) a e = by c.1 cs a c.0 e (unless_none cs a)
  where
    by : (x : Refusal) (cs : List (Bool × Refusal)) (a : Reply) (b : Bool) → ◌≡◌ {A = Option Refusal} (if b then Some x else first_cause cs) None → (first_cause cs ≡ None → unless cs a ≡ a)
        → (if b then Refused x else unless cs a) ≡ a
    by x cs a true e h = cc
    by x cs a false e h = h e

pub front_none : (xs ys : List (Bool × Refusal)) (a : Reply) → first_cause xs ≡ None → unless (xs ++ ys) a ≡ unless ys a
front_none [] ys a e = refl
front_none (c ∷ cs) ys a e = by c.1 cs ys a c.0 e (front_none cs ys a)
  where
    by : (x : Refusal) (cs ys : List (Bool × Refusal)) (a : Reply) (b : Bool) → ◌≡◌ {A = Option Refusal} (if b then Some x else first_cause cs) None → (first_cause cs ≡ None → unless (cs ++ ys) a ≡ unless ys a)
        → (if b then Refused x else unless (cs ++ ys) a) ≡ unless ys a
    by x cs ys a true e h = cc
    by x cs ys a false e h = h e

pub front_some : (xs ys : List (Bool × Refusal)) (a : Reply) (r : Refusal) → first_cause xs ≡ Some r → unless (xs ++ ys) a ≡ Refused r
front_some [] ys a r e = cc
front_some (c ∷ cs) ys a r e = by c.1 cs ys a r c.0 e (front_some cs ys a r)
  where
    by : (x : Refusal) (cs ys : List (Bool × Refusal)) (a : Reply) (r : Refusal) (b : Bool) → (if b then Some x else first_cause cs) ≡ Some r
        → (first_cause cs ≡ Some r → unless (cs ++ ys) a ≡ Refused r) → (if b then Refused x else unless (cs ++ ys) a) ≡ Refused r
    by x cs ys a r true e h = let same : x ≡ r = cc in ap Refused same
    by x cs ys a r false e h = h e

pub unless_some : (xs : List (Bool × Refusal)) (a : Reply) (r : Refusal) → first_cause xs ≡ Some r → unless xs a ≡ Refused r
unless_some xs a r e = ap (λ ys. unless ys a) (sym (append_nil xs)) ∙ front_some xs [] a r e
  where
    append_nil : (ys : List (Bool × Refusal)) → ys ++ [] ≡ ys
    append_nil [] = refl
    append_nil (y ∷ ys) = ap (λ zs. y ∷ zs) (append_nil ys)

abbrev by_walk : Option RoleWalk → Reply
by_walk (Some w) = Active w
by_walk None = Refused NotAssigned

module _ (edges : List HierEdge) (caps : List Caps) (s : Status) (now : ℕ) (tb : Table) (actor : Actor) (n : SessionId) (r : RoleId) where
  abbrev pub early : List (Bool × Refusal)
  early = early_causes s (list_any (is_active_in n r) tb.active) r

  abbrev pub late : UserId → List (Bool × Refusal)
  late owner = late_causes (caps_of caps r) (count_by (λ a. same_role a.role r) tb.active) (count_by (is_of owner r) tb.active) (tb.charged owner r (day_of now))

  abbrev rest : UserId → List (Bool × Refusal)
  rest owner = (is_none (activation_walk edges s owner r), NotAssigned) ∷ late owner

  abbrev spelled : Option UserId → Reply
  spelled None = Refused NoSession
  spelled (Some owner) =
      unless (session_causes tb actor n ++ (early ++ ((is_none (activation_walk edges s owner r), NotAssigned) ∷ late owner))) (by_walk (activation_walk edges s owner r))

  abbrev pub Answered : Reply → Type 0
  Answered reply = (p : Policy) (pt : Point) → answer (record p { edges = edges; caps = caps }) (record pt { now = now; status = s; table = tb }) actor (Activate n r) ≡ reply

  spelled_is : Answered (spelled (owner_of tb n))
  spelled_is p pt = refl

  pub refused_front : (x : Refusal) → first_cause (session_causes tb actor n ++ early) ≡ Some x → Answered (Refused x)
  refused_front x e p pt = spelled_is p pt ∙ by (owner_of tb n) refl
    where
      by : (o : Option UserId) → owner_of tb n ≡ o → spelled o ≡ Refused x
      by None is = let h : Some NoSession ≡ Some x = sym (ap (λ o. first_cause (causes_of o actor ++ early)) is) ∙ e in let same : NoSession ≡ x = cc in ap Refused same
      by (Some owner) is =
          ap (λ cs. unless cs (by_walk (activation_walk edges s owner r))) (sym (append_assoc (session_causes tb actor n) early (rest owner)))
          ∙ front_some (session_causes tb actor n ++ early) (rest owner) (by_walk (activation_walk edges s owner r)) x e

  module _ (owner : UserId) (own : owner_of tb n ≡ Some owner) where
    pub owned_is : Answered (spelled (Some owner))
    owned_is p pt = spelled_is p pt ∙ ap spelled own

    module _ (may : first_cause (session_causes tb actor n) ≡ None) (e : first_cause early ≡ None) where
      past_early : Answered (unless (rest owner) (by_walk (activation_walk edges s owner r)))
      past_early p pt =
          owned_is p pt ∙ front_none (session_causes tb actor n) (early ++ rest owner) (by_walk (activation_walk edges s owner r)) may
          ∙ front_none early (rest owner) (by_walk (activation_walk edges s owner r)) e

      pub refused_rest : (x : Refusal) → first_cause (rest owner) ≡ Some x → Answered (Refused x)
      refused_rest x f p pt = past_early p pt ∙ unless_some (rest owner) (by_walk (activation_walk edges s owner r)) x f

      pub allowed : (w : RoleWalk) → activation_walk edges s owner r ≡ Some w → first_cause (rest owner) ≡ None → Answered (Active w)
      allowed w is f p pt = past_early p pt ∙ unless_none (rest owner) (by_walk (activation_walk edges s owner r)) f ∙ ap by_walk is

-- of causes in a row the first
pub first_of_front : (xs ys : List (Bool × Refusal)) (x : Refusal) → first_cause xs ≡ Some x → first_cause (xs ++ ys) ≡ Some x
first_of_front [] ys x e = cc
first_of_front (c ∷ cs) ys x e = by c.1 cs ys x c.0 e (first_of_front cs ys x)
  where
    by : (y : Refusal) (cs ys : List (Bool × Refusal)) (x : Refusal) (b : Bool) → (if b then Some y else first_cause cs) ≡ Some x
        → (first_cause cs ≡ Some x → first_cause (cs ++ ys) ≡ Some x) → (if b then Some y else first_cause (cs ++ ys)) ≡ Some x
    by y cs ys x true e h = e
    by y cs ys x false e h = h e

pub first_of_rest : (xs ys : List (Bool × Refusal)) → first_cause xs ≡ None → first_cause (xs ++ ys) ≡ first_cause ys
first_of_rest [] ys e = refl
first_of_rest (c ∷ cs) ys e = by c.1 cs ys c.0 e (first_of_rest cs ys)
  where
    by : (y : Refusal) (cs ys : List (Bool × Refusal)) (b : Bool) → ◌≡◌ {A = Option Refusal} (if b then Some y else first_cause cs) None
        → (first_cause cs ≡ None → first_cause (cs ++ ys) ≡ first_cause ys) → (if b then Some y else first_cause (cs ++ ys)) ≡ first_cause ys
    by y cs ys true e h = cc
    by y cs ys false e h = h e

-- want of memory, or what the first cause tells
pub or_refused : (fault : SessionFault) (causes : List (Bool × Refusal)) (answers : Reply → Type 0) → IsCauseOf fault causes → ((x : Refusal) → first_cause causes ≡ Some x → answers (Refused x)) → OrRefused fault answers
or_refused (Fault x) causes answers e h = h x e
or_refused Memory causes answers e h = tt

-- what is not refused early is not active yet
pub early_none : (s : Status) (b : Bool) (r : RoleId) → first_cause (early_causes s b r) ≡ None → b ≡ false
early_none s true r e = cc
early_none s false r e = refl
