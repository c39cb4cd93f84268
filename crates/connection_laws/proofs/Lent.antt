-- A worker that was lent its pass and its clock: what its steps come to for these.
use Rattle.std.proofs.Common.{◌≡◌, ℕ, List, refl, sym, ap, subst, ◌∙◌, Option}
use Rattle.gt_base.specs.declared.requests.Actor.{Actor}
use Rattle.gt_base.specs.declared.requests.Request.{Request}
use Rattle.gt_base.specs.declared.requests.Entry.{Entry}
use Rattle.gt_io.specs.Links.{Traffic}
use Rattle.turn_lock.specs.Holders.{Holder}
use Rattle.locked_history.specs.Fronts.{by}
use Rattle.policy_words.specs.Naming.{NamedPolicy}
use Rattle.connection_laws.specs.declared.clerk.Clerk.{Clerk}
use Rattle.connection_laws.specs.declared.talk.Talk.{Talk}
use Rattle.connection_laws.specs.declared.talk.LineAnswer.{LineAnswer}
use Rattle.connection_laws.specs.declared.ends.LinkEnd.{LinkEnd}
use Rattle.connection_laws.specs.Lines.{Answer}
use Rattle.connection_laws.specs.Services.{service_at}
use Rattle.connection_laws.specs.Turns.{IsRested}
use Rattle.connection_laws.specs.Attending.{spot, Attends, ActsBy}
use Rattle.connection_laws.specs.Clerks.{ClerkView, WearsAt, WearsClerk, ClerkAsks, rested_clerk, seen_clerk, service_of, who_of, ClerkGets}
use Rattle.connection_laws.proofs.Stepping.{attends_so, acts_so}

module _ {M R C G : Type 0} (list : M → List Entry) (legal : M → List Entry → Type 0) (now_of : M → List Entry → ℕ) (readings_by : C → Option (ℕ → ℕ)) (np : NamedPolicy) (o : Clerk M R C G) where
  abbrev seen : Clerk M R C G → ClerkView M
  seen = seen_clerk list legal now_of readings_by

  -- it serves at the same desk and as the same worker
  abbrev pub Same : Clerk M R C G → Clerk M R C G → Type 0
  Same j k = (k.server ≡ j.server) × (k.pass.now.number ≡ j.pass.now.number)

  abbrev Asked : ClerkView M → ClerkView M → Actor → Request → Answer → List ℕ → List Entry → Type 0
  Asked = ClerkAsks {M = M} (service_of list legal now_of readings_by o) (who_of list legal now_of readings_by o)

  asked_so : (m p : Clerk M R C G) (actor : Actor) (request : Request) (answer : Answer) (readings : List ℕ) (entries : List Entry) → Same o m → ClerkGets list legal now_of readings_by m p actor request answer readings entries
      → Same o p × Asked (seen m) (seen p) actor request answer readings entries
  asked_so m p actor request answer readings entries same x =
      let number : p.pass.now.number ≡ m.pass.now.number = ap (λ (h : Holder M). h.number) x.asks.grows.after_is in (
        (x.keeps.0 ∙ same.0, number ∙ same.1),
        subst (λ s. ClerkAsks {M = M} (service_at list legal now_of s.now.desk.now s.now.policy.now) (by o.pass.now.number s.now.conn) (seen m) (seen p) actor request answer readings entries) same.0
            (subst (λ (n : ℕ). ClerkAsks {M = M} (service_of list legal now_of readings_by m) (by n m.server.now.conn) (seen m) (seen p) actor request answer readings entries) same.1 x.asks),
      )

  pub lent_attends : (p : Clerk M R C G) (talk talk' : Talk) (given given' : Option (List ℕ)) (a b : Traffic) (end : LinkEnd)
      → Attends np (ClerkGets list legal now_of readings_by) (λ k. WearsAt k.pass.now.draws) (spot o talk given) (spot p talk' given') a b end
      → Same o p × Attends np Asked WearsClerk (spot (seen o) talk given) (spot (seen p) talk' given') a b end
  lent_attends p talk talk' given given' a b end x =
      attends_so seen Same (λ k. (refl, refl)) np (ClerkGets list legal now_of readings_by) Asked o asked_so (λ k. WearsAt k.pass.now.draws) WearsClerk (λ k n w. w) p talk talk' given given' a b end x

  pub lent_acts : (p : Clerk M R C G) (talk talk' : Talk) (line : List ℕ) (told : LineAnswer)
      → ActsBy np (ClerkGets list legal now_of readings_by) (WearsAt p.pass.now.draws) o p talk talk' line told
      → ActsBy np Asked (WearsClerk (seen p)) (seen o) (seen p) talk talk' line told
  lent_acts p talk talk' line told x =
      (acts_so seen Same (λ k. (refl, refl)) np (ClerkGets list legal now_of readings_by) Asked o asked_so (λ k. WearsAt k.pass.now.draws) WearsClerk (λ k n w. w) p talk talk' line told x).1

  -- where it is at rest again, so is its pass
  pub lent_rests : (p : Clerk M R C G) → (rested_clerk o ≡ o → rested_clerk p ≡ p) → o.held ≡ 0 → IsRested o.pass.now → IsRested p.pass.now
  lent_rests p back none rests =
      let is = back (λ i. record o { pass = record o.pass { now = record o.pass.now { stays = (sym rests.0) i; keeps = (sym rests.1) i } }; held = (sym none) i }) in
      (sym (ap (λ (k : Clerk M R C G). k.pass.now.stays) is), sym (ap (λ (k : Clerk M R C G). k.pass.now.keeps) is))
