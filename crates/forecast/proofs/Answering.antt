-- A fluent has just one first change in what lies ahead.
use Rattle.std.proofs.Common.{◌≡◌, ℕ, ◌<◌, ◌≤◌, nat_lt, Option, Some, None, refl, sym, ◌∙◌, ap, arith}
use Rattle.std.proofs.lemmas.Bool.{ltb-true, ltb-false}
use Rattle.gt_base.specs.declared.events.Fluent.{Fluent}
use Rattle.gtrbac_model.specs.Policy.{Policy}
use Rattle.gtrbac_model.specs.Status.{Model, status_at}
use Rattle.gtrbac_model.specs.History.{now_of}
use Rattle.gtrbac_model.specs.Theorems.{SameUpTo}
use Rattle.gtrbac_model.proofs.Elements.{split}
use Rattle.gtrbac_model.proofs.OneModel.{status_same}
use Rattle.forecast.specs.Ahead.{HasOneAhead, IsChange, Stays, IsFirstIn, ChangeIsOne}
use Rattle.forecast.specs.declared.changes.Change.{Change}
use Rattle.forecast.proofs.Existing.{ahead_is_one}

module _ (p : Policy) (birth : ℕ) (f : Fluent) (now upto : ℕ) (m n : Model) (same : SameUpTo birth upto m n) where
  on_same : (t : ℕ) → t ≤ upto → status_at p birth m t f ≡ status_at p birth n t f
  on_same t le = λ i. status_same p birth m n upto t same le i f

  -- a fluent that stays in the one does not change in the other
  never : Stays p birth m f now upto → (c : Change) → IsChange p birth n f now upto c → ⊥
  never stays c is =
      is.differs (sym (on_same c.at is.within) ∙ stays c.at is.later is.within ∙ on_same now (omega (arith, is.later, is.within)))

  -- the first change of the one is not before that of the other
  no_sooner : (c d : Change) → IsChange p birth m f now upto c → IsChange p birth n f now upto d → c.at < d.at → ⊥
  no_sooner c d a b lt =
      a.differs (on_same c.at a.within ∙ b.least c.at a.later lt ∙ sym (on_same now (omega (arith, a.later, a.within))))

  alike : (c d : Change) → IsChange p birth m f now upto c → IsChange p birth n f now upto d → c.at ≡ d.at → Some c ≡ Some d
  alike c d a b at =
      let on : c.on ≡ d.on = a.on ∙ on_same c.at a.within ∙ ap (λ t. status_at p birth n t f) at ∙ sym b.on in
      λ i. Some (record { at = at i; on = on i })

not_apart : (a b : ℕ) → (a < b → ⊥) → (b < a → ⊥) → a ≡ b
not_apart a b f g =
    split (nat_lt a b) (λ t. absurd (f (ltb-true a b t)))
    (λ t. split (nat_lt b a) (λ u. absurd (g (ltb-true b a u))) (λ u. omega (arith, ltb-false a b t, ltb-false b a u)))

pub one_answer : (p : Policy) (birth : ℕ) (f : Fluent) (now upto : ℕ) (m n : Model) → SameUpTo birth upto m n → (a b : Option Change)
    → IsFirstIn p birth m f now upto a → IsFirstIn p birth n f now upto b → a ≡ b
one_answer p birth f now upto m n same None None a b = refl
one_answer p birth f now upto m n same None (Some d) a b = absurd (never p birth f now upto m n same a d b)
one_answer p birth f now upto m n same (Some c) None a b = absurd (never p birth f now upto n m (λ t x y. sym (same t x y)) b c a)
one_answer p birth f now upto m n same (Some c) (Some d) a b =
    alike p birth f now upto m n same c d a b
    (not_apart c.at d.at (no_sooner p birth f now upto m n same c d a b) (no_sooner p birth f now upto n m (λ t x y. sym (same t x y)) d c b a))

pub change_is_one : ChangeIsOne
change_is_one p safe birth h f upto a b of_a of_b =
    let one : HasOneAhead p birth h upto = ahead_is_one p safe birth h upto in
    one_answer p birth f (now_of birth h) upto of_a.model of_b.model (λ t x y. one.only of_a.model of_a.ahead t x y ∙ sym (one.only of_b.model of_b.ahead t x y)) a b of_a.first of_b.first
