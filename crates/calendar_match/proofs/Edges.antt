-- The next edge is the first instant that differs.
use Rattle.std.proofs.Common.{◌≡◌, ℕ, ◌+◌, ◌-◌, ◌<◌, ◌≤◌, Bool, true, false, not, refl, arith, ap, sym, ◌∙◌, inl, inr}
use Rattle.std.proofs.lemmas.Bool.{not-true, not-false, cases_eq}
use Rattle.gt_base.specs.declared.limits.TheConstants.{LAST_MINUTE}
use Rattle.gtrbac_model.specs.Period.{Period, inside}
use Rattle.calendar_match.specs.Next.{IsLeast, IsNever, differ, outside, turns}

unlike : (b : Bool) → differ (not b) b ≡ true
unlike true = refl
unlike false = refl

alike : (b : Bool) → differ b b ≡ false
alike true = refl
alike false = refl

turns_by : (p : Period) (u : ℕ) (a b c : Bool) → inside p u ≡ a → inside p (u - 1) ≡ b → differ a b ≡ c → turns p u ≡ c
turns_by p u a b c now before d = ap (λ x. differ x (inside p (u - 1))) now ∙ ap (differ a) before ∙ d

edge_at : (p : Period) (after t : ℕ) (b : Bool) → after + 1 ≤ t → ((u : ℕ) → after ≤ u → u < t → inside p u ≡ b) → inside p t ≡ not b → IsLeast (turns p) (after + 1) t
edge_at p after t b later still now = record {
  later = later;
  passes = turns_by p t (not b) b true now (still (t - 1) (omega arith) (omega arith)) (unlike b);
  least = λ u low lt. turns_by p u b b false (still u (omega arith) lt) (still (u - 1) (omega arith) (omega arith)) (alike b);
}

no_edge : (p : Period) (after : ℕ) (b : Bool) → ((u : ℕ) → after ≤ u → u ≤ LAST_MINUTE → inside p u ≡ b) → IsNever (turns p) (after + 1)
no_edge p after b still u low high = turns_by p u b b false (still u (omega arith) high) (still (u - 1) (omega arith) (omega arith)) (alike b)

-- after an instant that is outside

out_still : (p : Period) (after t : ℕ) → inside p after ≡ false → ((u : ℕ) → after + 1 ≤ u → u < t → inside p u ≡ false) → (u : ℕ) → after ≤ u → u < t → inside p u ≡ false
out_still p after t out least u low lt =
    elim (cases_eq after u) [ inl e ↦ ap (inside p) (sym e) ∙ out | inr ne ↦ least u (omega arith) lt ]

pub edge_in : (p : Period) (after t : ℕ) → inside p after ≡ false → IsLeast (inside p) (after + 1) t → IsLeast (turns p) (after + 1) t
edge_in p after t out n = edge_at p after t false n.later (out_still p after t out n.least) n.passes

pub never_in : (p : Period) (after : ℕ) → inside p after ≡ false → IsNever (inside p) (after + 1) → IsNever (turns p) (after + 1)
never_in p after out n =
    no_edge p after false (λ u low high. out_still p after (LAST_MINUTE + 1) out (λ v a b. n v a (omega arith)) u low (omega arith))

-- after one that is inside

in_still : (p : Period) (after t : ℕ) → inside p after ≡ true → ((u : ℕ) → after + 1 ≤ u → u < t → outside p u ≡ false) → (u : ℕ) → after ≤ u → u < t → inside p u ≡ true
in_still p after t here least u low lt =
    elim (cases_eq after u) [ inl e ↦ ap (inside p) (sym e) ∙ here | inr ne ↦ not-false (inside p u) (least u (omega arith) lt) ]

pub edge_out : (p : Period) (after t : ℕ) → inside p after ≡ true → IsLeast (outside p) (after + 1) t → IsLeast (turns p) (after + 1) t
edge_out p after t here n = edge_at p after t true n.later (in_still p after t here n.least) (not-true (inside p t) n.passes)

pub never_out : (p : Period) (after : ℕ) → inside p after ≡ true → IsNever (outside p) (after + 1) → IsNever (turns p) (after + 1)
never_out p after here n =
    no_edge p after true (λ u low high. in_still p after (LAST_MINUTE + 1) here (λ v a b. n v a (omega arith)) u low (omega arith))
