use Rattle.std.proofs.Common.{◌≡◌, ℕ, Option, Some, None, true, false, inr, sym, ◌∙◌, subst}
use Rattle.gt_base.specs.Happening.{HappenedView, nothing}
use Rattle.gt_base.specs.Sets.{has}
use Rattle.gtrbac_model.specs.Policy.{Policy}
use Rattle.gtrbac_model.specs.Conflict.{Status}
use Rattle.why_check.specs.Certificates.{Listed}
use Rattle.why_check.specs.Kept.{IsClosed, IsLater}
use Rattle.why_check.specs.Steps.{IsWrong}
use Rattle.why_check.proofs.checking.pass.Goals as goal

-- an instant that is not listed is wrong where its base has something
wrong_later : (p : Policy) (base : HappenedView) (s : Status) (to : ℕ) (next : Option Listed) → IsLater to next → (base ≡ nothing → ⊥) → IsWrong p base s to next
wrong_later p base s to None later some = some
wrong_later p base s to (Some l) later some = inr (inr (later, some))

pub returns-then-not-is_empty : goal.returns-then-not-is_empty
returns-then-not-is_empty c = λ next later.
    wrong_later c.args.policy.now.policy _ (has c.args.s.now.status.set) c.args.to next later (λ e.
    let so : c.is_empty.result ≡ true = c.is_empty.ensures.1 (c.requires.base ∙ e) in
    let not_so : c.is_empty.result ≡ false = c.if-not-is_empty.true in
    cc)

pub returns : goal.returns
returns c = λ next later.
    let is : c.args.base.now.set ≡ nothing = c.is_empty.ensures.0 c.if-not-is_empty.false in
    (later, sym c.requires.base ∙ is, subst (λ (x : HappenedView). IsClosed c.args.policy.now.policy c.args.s.now x c.args.to c.close.new.s) (c.in_ok-x.ensures ∙ c.new.ensures) c.in_ok-close.ensures)
