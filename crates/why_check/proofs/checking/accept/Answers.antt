use Rattle.std.proofs.Common.{◌≡◌, ◌+◌, ◌<◌, ◌≤◌, List, length, take, get_or, nat_eq, true, false, refl, sym, ◌∙◌, ap, subst, arith}
use Rattle.std.specs.List.{slice_get}
use Rattle.gt_base.specs.declared.requests.Entry.{Entry}
use Rattle.gtrbac_model.specs.History.{Legal}
use Rattle.gtrbac_model.specs.Policy.{Policy}
use Rattle.gtrbac_model.specs.Status.{Model}
use Rattle.why_check.specs.Certificates.{Accepts}
use Rattle.why_check.specs.Steps.{held_count}
use Rattle.why_check.specs.declared.checking.Held.TheVariants.{Wrong}
use Rattle.why_check.proofs.Beginning.{begins}
use Rattle.why_check.proofs.Deciding.{goes, stops, ready, decides}
use Rattle.why_check.proofs.checking.accept.Goals as goal
use Rattle.why_check.proofs.Replaying.{HasReached}

pub loop-entry-init : goal.loop-entry-init
loop-entry-init c = record {
  within = omega arith;
  reached = λ m legal. begins c.args.policy.now.policy c.args.birth c.args.entries.now.items m c.in_ok-replay.replay c.in_ok-replay.ensures;
}

pub step-requires : goal.step-requires
step-requires c =
    let p : Policy = c.args.policy.now.policy in
    let h : List Entry = c.args.entries.now.items in
    let given = c.requires.legal in
    let lt : c.loop-entry.entry-index < length h = subst (λ xs. c.loop-entry.entry-index < length xs) c.as_slice-entry-items.ensures c.loop-entry-test.true in
    let at : c.entry-item.result ≡ get_or h c.loop-entry.entry-index c.entry-item.result = c.entry-item.is ∙ ap (λ xs. get_or xs c.loop-entry.entry-index c.entry-item.result) c.as_slice-entry-items.ensures in
    ready p c.keeps.ensures.policy c.requires.safe c.args.birth h given.model given.legal c.args.cert.now c.loop-entry.place c.loop-entry.entry-index c.loop-entry.invariant.within c.loop-entry.replay
    (c.loop-entry.invariant.reached given.model given.legal) c.entry-item.result lt at c.requires.few

pub returns-then-is_wrong : goal.returns-then-is_wrong
returns-then-is_wrong c =
    let p : Policy = c.args.policy.now.policy in
    let h : List Entry = c.args.entries.now.items in
    let given = c.requires.legal in
    let lt : c.loop-entry.entry-index < length h = subst (λ xs. c.loop-entry.entry-index < length xs) c.as_slice-entry-items.ensures c.loop-entry-test.true in
    let at : c.entry-item.result ≡ get_or h c.loop-entry.entry-index c.entry-item.result = c.entry-item.is ∙ ap (λ xs. get_or xs c.loop-entry.entry-index c.entry-item.result) c.as_slice-entry-items.ensures in (
      λ t. cc,
      λ (good : Accepts p c.args.birth h c.args.cert.now).
          absurd (stops p c.keeps.ensures.policy c.requires.safe c.args.birth h given.model given.legal c.args.cert.now c.loop-entry.place c.loop-entry.entry-index c.loop-entry.invariant.within c.loop-entry.replay
          (c.loop-entry.invariant.reached given.model given.legal) c.entry-item.result lt at (slice_get c.args.cert.now c.loop-entry.place) refl c.in_ok-held.held c.step.new.s c.in_ok-held.ensures
          (c.is_wrong.ensures.0 c.if-is_wrong.true) good),
    )

pub overflow_add-place : goal.overflow_add-place
overflow_add-place c =
    let p : Policy = c.args.policy.now.policy in
    let h : List Entry = c.args.entries.now.items in
    let given = c.requires.legal in
    let lt : c.loop-entry.entry-index < length h = subst (λ xs. c.loop-entry.entry-index < length xs) c.as_slice-entry-items.ensures c.loop-entry-test.true in
    let at : c.entry-item.result ≡ get_or h c.loop-entry.entry-index c.entry-item.result = c.entry-item.is ∙ ap (λ xs. get_or xs c.loop-entry.entry-index c.entry-item.result) c.as_slice-entry-items.ensures in
    let most : c.loop-entry.place + held_count c.in_ok-held.held ≤ length c.args.cert.now =
    (goes p c.keeps.ensures.policy c.requires.safe c.args.birth h given.model given.legal c.args.cert.now c.loop-entry.place c.loop-entry.entry-index c.loop-entry.invariant.within c.loop-entry.replay
    (c.loop-entry.invariant.reached given.model given.legal) c.entry-item.result lt at (slice_get c.args.cert.now c.loop-entry.place) refl c.in_ok-held.held c.step.new.s c.in_ok-held.ensures
    (λ w. let so : c.is_wrong.result ≡ true = c.is_wrong.ensures.1 w in let not_so : c.is_wrong.result ≡ false = c.if-is_wrong.false in cc)).1 in
    omega (arith, most, c.count-place.ensures, c.len-many.ensures)

pub loop-entry-preserved : goal.loop-entry-preserved
loop-entry-preserved c =
    let p : Policy = c.args.policy.now.policy in
    let h : List Entry = c.args.entries.now.items in
    let given = c.requires.legal in
    let lt : c.loop-entry.entry-index < length h = subst (λ xs. c.loop-entry.entry-index < length xs) c.as_slice-entry-items.ensures c.loop-entry-test.true in
    let at : c.entry-item.result ≡ get_or h c.loop-entry.entry-index c.entry-item.result = c.entry-item.is ∙ ap (λ xs. get_or xs c.loop-entry.entry-index c.entry-item.result) c.as_slice-entry-items.ensures in
    let fine : c.in_ok-held.held ≡ Wrong → ⊥ = λ w. let so : c.is_wrong.result ≡ true = c.is_wrong.ensures.1 w in let not_so : c.is_wrong.result ≡ false = c.if-is_wrong.false in cc in
    let on : (m : Model) (legal : Legal p c.args.birth h m)
    → HasReached p c.args.birth h m (take (c.loop-entry.entry-index + 1) h) (take (c.loop-entry.place + held_count c.in_ok-held.held) c.args.cert.now) c.step.new.s
    × (c.loop-entry.place + held_count c.in_ok-held.held ≤ length c.args.cert.now) =
    λ m legal.
    goes p c.keeps.ensures.policy c.requires.safe c.args.birth h m legal c.args.cert.now c.loop-entry.place c.loop-entry.entry-index c.loop-entry.invariant.within c.loop-entry.replay
    (c.loop-entry.invariant.reached m legal) c.entry-item.result lt at (slice_get c.args.cert.now c.loop-entry.place) refl c.in_ok-held.held c.step.new.s c.in_ok-held.ensures fine in
    record {
      within = omega (arith, (on given.model given.legal).1, c.count-place.ensures);
      reached = λ m legal. subst (λ n. HasReached p c.args.birth h m (take (c.loop-entry.entry-index + 1) h) (take (c.loop-entry.place + n) c.args.cert.now) c.step.new.s) (sym c.count-place.ensures) (on m legal).0;
    }

pub returns : goal.returns
returns c =
    let p : Policy = c.args.policy.now.policy in
    let h : List Entry = c.args.entries.now.items in
    let given = c.requires.legal in
    let end : length h ≤ c.loop-entry.entry-index = subst (λ xs. length xs ≤ c.loop-entry.entry-index) c.as_slice-entry-items.ensures c.loop-entry-test.false in
    decides p c.keeps.ensures.policy c.requires.safe c.args.birth h given.model given.legal c.args.cert.now c.loop-entry.place c.loop-entry.entry-index c.loop-entry.invariant.within c.loop-entry.replay
    (c.loop-entry.invariant.reached given.model given.legal) end (nat_eq c.loop-entry.place c.len-many.result) (ap (nat_eq c.loop-entry.place) c.len-many.ensures)
