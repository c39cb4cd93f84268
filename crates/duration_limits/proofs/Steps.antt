-- Ages and ripe limits in the model.
use Rattle.std.proofs.Common.{◌≡◌, ℕ, zero, suc, ◌+◌, ◌-◌, ◌≤◌, Bool, true, false, cond, ◌&&◌, refl, sym, ◌∙◌, ap, subst, arith}
use Rattle.gt_base.specs.declared.events.Fluent.{Fluent}
use Rattle.gtrbac_model.specs.Policy.{Policy}
use Rattle.gtrbac_model.specs.Status.{Model, status_after, changed_by, differ, since}
use Rattle.duration_limits.specs.Following.{SinceBySteps}

-- the order in which tests are joined
pub and_assoc : (a b c d : Bool) → (a && b && c && d) ≡ (((a && b) && c) && d)
and_assoc true true c d = refl
and_assoc true false c d = refl
and_assoc false b c d = refl

chosen_between : (b : Bool) (low high x y : ℕ) → low ≤ x → x ≤ high → low ≤ y → y ≤ high → (low ≤ cond b x y) × (cond b x y ≤ high)
chosen_between true low high x y a b c d = (a, b)
chosen_between false low high x y a b c d = (c, d)

changed_between : (p : Policy) (birth : ℕ) (m : Model) (f : Fluent) (k : ℕ) → (birth ≤ changed_by p birth m f k) × (changed_by p birth m f k ≤ birth + k)
changed_between p birth m f zero = (omega arith, omega arith)
changed_between p birth m f (suc k) =
    let before = changed_between p birth m f k in
    let high : changed_by p birth m f k ≤ birth + suc k = omega (arith, before.1) in
    chosen_between (differ (status_after p birth m (suc k) f) (status_after p birth m k f)) birth (birth + suc k) (birth + suc k) (changed_by p birth m f k) (omega arith) (omega arith) before.0 high

pub by_steps : (p : Policy) (birth : ℕ) (m : Model) → SinceBySteps p birth m
by_steps p birth m = record {
  begins = λ f. let none : birth - birth ≡ 0 = omega arith in ap (changed_by p birth m f) none;
  follows = λ f t later.
      let k : ℕ = t - 1 - birth in
      let here : t - birth ≡ suc k = omega (arith, later) in
      let is : birth + suc k ≡ t = omega (arith, later) in
      ap (changed_by p birth m f) here
      ∙ (λ i. cond (differ (status_after p birth m (sym here i) f) (status_after p birth m k f)) (is i) (changed_by p birth m f k));
  low = λ f t. (changed_between p birth m f (t - birth)).0;
  high = λ f t upto. let whole : birth + (t - birth) ≡ t = omega (arith, upto) in subst (λ n. since p birth m f t ≤ n) whole (changed_between p birth m f (t - birth)).1;
}
