-- A viewer that was lent its glass: what its steps come to for the glass.
use Rattle.std.proofs.Common.{◌≡◌, ℕ, List, refl, subst, ◌∙◌, Option}
use Rattle.gt_base.specs.declared.requests.Actor.{Actor}
use Rattle.gt_base.specs.declared.requests.Request.{Request}
use Rattle.gt_base.specs.declared.requests.Entry.{Entry}
use Rattle.gt_io.specs.Links.{Traffic}
use Rattle.connection_laws.specs.declared.talk.Talk.{Talk}
use Rattle.connection_laws.specs.declared.ends.LinkEnd.{LinkEnd}
use Rattle.connection_laws.specs.Lines.{Answer}
use Rattle.connection_laws.specs.Attending.{spot, Attends}
use Rattle.connection_laws.proofs.Stepping.{attends_so}
use Rattle.snapshot_readers.specs.declared.guide.Guide.{Guide}
use Rattle.snapshot_readers.specs.Viewing.{SameGlassRoot}
use Rattle.snapshot_readers.specs.Guides.{GuideAsks, GuideGets, seen_guide}

module _ {G : Type 0} (o : Guide G) where
  -- it answers by the same policy at the same board
  abbrev pub Same : Guide G → Guide G → Type 0
  Same j k = (k.policy ≡ j.policy) × SameGlassRoot j.glass.now k.glass.now

  asked_so : (m p : Guide G) (actor : Actor) (request : Request) (answer : Answer) (readings : List ℕ) (entries : List Entry) → Same o m → GuideGets m p actor request answer readings entries
      → Same o p × GuideAsks o.policy.now o.glass.now.birth (seen_guide m) (seen_guide p) actor request answer readings entries
  asked_so m p actor request answer readings entries same x = (
    (x.keeps.0 ∙ same.0, (x.same.0 ∙ same.1.0, x.same.1 ∙ same.1.1)),
    subst (λ q. GuideAsks q.now o.glass.now.birth (seen_guide m) (seen_guide p) actor request answer readings entries) same.0
        (subst (λ (b : ℕ). GuideAsks m.policy.now b (seen_guide m) (seen_guide p) actor request answer readings entries) same.1.1 x.asks),
  )

  pub lent_attends : (p : Guide G) (talk talk' : Talk) (given given' : Option (List ℕ)) (a b : Traffic) (end : LinkEnd)
      → Attends o.policy.now GuideGets (λ k n. ⊥) (spot o talk given) (spot p talk' given') a b end
      → Same o p × Attends o.policy.now (GuideAsks o.policy.now o.glass.now.birth) (λ g n. ⊥) (spot (seen_guide o) talk given) (spot (seen_guide p) talk' given') a b end
  lent_attends p talk talk' given given' a b end x =
      attends_so seen_guide Same (λ k. (refl, (refl, refl))) o.policy.now GuideGets (GuideAsks o.policy.now o.glass.now.birth) o asked_so (λ k n. ⊥) (λ g n. ⊥) (λ k n w. w) p talk talk' given given' a b end x
