-- The lines of the entries that a book holds fit a page.
use Rattle.std.proofs.Common.{◌≡◌, Bool, true, List, [], ◌∷◌, ◌++◌, length, refl, sym, subst, append_assoc}
use Rattle.std.specs.Prelude.{◌&&◌, nat_lt}
use Rattle.std.proofs.lemmas.Bool.{lt-ltb}
use Rattle.gt_base.specs.Machines.{asked}
use Rattle.gt_base.specs.declared.events.Fluent.{Fluent}
use Rattle.gt_base.specs.declared.events.Fluent.TheVariants.{Enabled, Assigned, Granted, Limit, Edge}
use Rattle.gt_base.specs.declared.requests.Actor.{Actor}
use Rattle.gt_base.specs.declared.requests.Actor.TheVariants.{Operator, User, Nobody}
use Rattle.gt_base.specs.declared.requests.Request.{Request}
use Rattle.gt_base.specs.declared.requests.Request.TheVariants as requests
use Rattle.gt_base.specs.declared.requests.Step.{Step}
use Rattle.gt_base.specs.declared.requests.Step.TheVariants.{Tick, Ask}
use Rattle.gt_base.specs.declared.requests.Entry.{Entry}
use Rattle.gtrbac_model.specs.Policy.{Policy}
use Rattle.gtrbac_model.specs.WholePolicy.{is_fluent}
use Rattle.gtrbac_model.specs.History.{IsNamedWish, ask, Legal}
use Rattle.gtrbac_model.proofs.Elements.{and_true}
use Rattle.history_laws.proofs.Lasting.{front_steps, of_longer}
use Rattle.request_text.specs.Fitting.{IsShortStep, FitPages}
use Rattle.request_text.specs.Named.{has_actor, has_request, has_reply, has_step}
use Rattle.core_machine.specs.Books.{BookView, IsBook, model_in}
use Rattle.history_laws.specs.Named.{IsNamedStep, AreNamed}
use Rattle.connection_laws.specs.Desks.{RepliesCanBeTold}
use Rattle.core_machine.specs.Ledgers.{IsLegalLedger}
use Rattle.ledger_laws.proofs.Serving.{book_is_served}

module _ (p : Policy) where
  abbrev Asks : Actor → Request → Type 0
  Asks actor request = IsNamedWish p (ask actor request)

  fluent_is : (on : Bool) (f : Fluent) → Asks Operator (requests.Status (record { on = on; fluent = f })) → is_fluent p f ≡ true
  fluent_is on (Enabled r) h = lt-ltb r.0 p.roles h.1
  fluent_is on (Assigned u r) h = and_true (nat_lt u.0 p.users) (nat_lt r.0 p.roles) (lt-ltb u.0 p.users h.1.0) (lt-ltb r.0 p.roles h.1.1)
  fluent_is on (Granted q r) h = and_true (nat_lt q.0 p.perms) (nat_lt r.0 p.roles) (lt-ltb q.0 p.perms h.1.0) (lt-ltb r.0 p.roles h.1.1)
  fluent_is on (Limit l) h = lt-ltb l.0 (length p.limits) h.1
  fluent_is on (Edge n) h = lt-ltb n (length p.edges) h.1

  has_who : (actor : Actor) (request : Request) → Asks actor request → has_actor p actor ≡ true
  has_who Operator request h = refl
  has_who (User u) request h = lt-ltb u.0 p.users h.0
  has_who Nobody request h = refl

  has_what : (actor : Actor) (request : Request) → Asks actor request → has_request p request ≡ true
  has_what actor requests.Now h = refl
  has_what actor (requests.Status c) h = fluent_is c.on c.fluent (tt, h.1)
  has_what actor (requests.Seen e) h = fluent_is e.on e.fluent (tt, h.1)
  has_what actor (requests.Raise head delay) h = fluent_is head.event.on head.event.fluent (tt, h.1.0)
  has_what actor requests.OpenSession h = refl
  has_what actor (requests.CloseSession s) h = refl
  has_what actor (requests.Activate s r) h = lt-ltb r.0 p.roles h.1.1
  has_what actor (requests.Deactivate s r) h = lt-ltb r.0 p.roles h.1.1
  has_what actor (requests.Active s r) h = lt-ltb r.0 p.roles h.1.1
  has_what actor (requests.Check s q) h = lt-ltb q.0 p.perms h.1.1

  named_front : (front rest : List Entry) → AreNamed p (front ++ rest) → AreNamed p front
  named_front [] rest named = tt
  named_front (e ∷ es) rest named = (named.0, named_front es rest named.1)

  named_rest : (front rest : List Entry) → AreNamed p (front ++ rest) → AreNamed p rest
  named_rest [] rest named = named
  named_rest (e ∷ es) rest named = named_rest es rest named.1

module _ (b : BookView) (replies : RepliesCanBeTold b.named (IsLegalLedger b)) where
  legal_front : (front rest : List Entry) → AreNamed b.named.policy (front ++ rest) → Legal b.named.policy b.birth (front ++ rest) (model_in b) → IsLegalLedger b front
  legal_front front rest named legal =
      let p = b.named.policy in
      record {
        legal = record {
          model = model_in b;
          legal = record { model = of_longer p b.birth (model_in b) front rest legal; steps = front_steps p b.birth (model_in b) [] front rest legal.steps };
        };
        named = named_front p front rest named;
      }

  -- the numbers of the last step are the policy's, what is asked is within its limits, and the walk of the reply is brief
  one_fits : (front : List Entry) (e : Entry) (what : Step) → e.what ≡ what → IsNamedStep b.named.policy what → IsLegalLedger b (front ++ e ∷ [])
      → (has_step b.named.policy what ≡ true) × IsShortStep b.named.policy what
  one_fits front e (Tick upto to) is named legal = (refl, tt)
  one_fits front e (Ask actor request reply) is named legal =
      let p = b.named.policy in
      let same : e ≡ asked e.who actor request reply = λ i. record { who = e.who; what = is i } in
      let told = replies front e.who actor request reply (subst (λ (x : Entry). IsLegalLedger b (front ++ x ∷ [])) same legal) in
      let has = and_true (has_actor p actor && has_request p request) (has_reply p reply) (and_true (has_actor p actor) (has_request p request) (has_who p actor request named) (has_what p actor request named)) told.named in
      (has, ((tt, named.1), told.brief))

  all_fit : (front rest : List Entry) → AreNamed b.named.policy (front ++ rest) → Legal b.named.policy b.birth (front ++ rest) (model_in b) → FitPages b.named.policy rest
  all_fit front [] named legal = tt
  all_fit front (e ∷ es) named legal =
      let p = b.named.policy in
      let whole : (front ++ e ∷ []) ++ es ≡ front ++ e ∷ es = append_assoc front (e ∷ []) es in
      let named' : AreNamed p ((front ++ e ∷ []) ++ es) = subst (AreNamed p) (sym whole) named in
      let legal' : Legal p b.birth ((front ++ e ∷ []) ++ es) (model_in b) = subst (λ h. Legal p b.birth h (model_in b)) (sym whole) legal in
      let one = one_fits front e e.what refl (named_rest p front (e ∷ es) named).0 (legal_front (front ++ e ∷ []) es named' legal') in
      (record { named = one.0; short = one.1 }, all_fit (front ++ e ∷ []) es named' legal')

pub entries_fit : (b : BookView) → IsBook b → FitPages b.named.policy b.entries
entries_fit b book = all_fit b (book_is_served b book).replies [] b.entries book.named book.legal
