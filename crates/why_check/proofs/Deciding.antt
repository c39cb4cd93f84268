-- The answer of the checker is the definition's.
use Rattle.std.proofs.Common.{◌≡◌, ◌↔◌, ℕ, zero, suc, ◌+◌, ◌<◌, ◌≤◌, Bool, nat_eq, nat_lt, ◌-◌, ◌^◌, List, [], ◌∷◌, ◌++◌, length, take, drop, get_or, length-drop, Option, Some, None, IsTrue, refl, sym, ◌∙◌, ap, subst, arith}
use Rattle.std.specs.List.{slice_get}
use Rattle.std.proofs.Math.Seq.{split_at}
use Rattle.std.proofs.lemmas.Bool.{eqb-true, eqb-false, ltb-true, ltb-false}
use Rattle.std.proofs.lemmas.List.{take_all, take_more, take-append-drop, length-take-le}
use Rattle.std.proofs.lemmas.Option.{slice_get_within, get_or_from_slice_get}
use Rattle.gt_base.specs.declared.requests.Who.{Who}
use Rattle.gt_base.specs.declared.requests.Step.{Step}
use Rattle.gt_base.specs.declared.requests.Step.TheVariants.{Tick, Ask}
use Rattle.gt_base.specs.declared.requests.Entry.{Entry}
use Rattle.gtrbac_model.specs.Policy.{Policy}
use Rattle.gtrbac_model.specs.History.{Legal}
use Rattle.gtrbac_model.specs.Safety.{IsSafe}
use Rattle.gtrbac_model.specs.Status.{Model}
use Rattle.gtrbac_model.specs.WholePolicy.{IsPolicy}
use Rattle.gtrbac_model.proofs.Elements.{split}
use Rattle.why_check.specs.Certificates.{Listed, Accepts}
use Rattle.why_check.specs.Steps.{IsPlayed, IsReadyStep, held_count}
use Rattle.why_check.specs.declared.checking.Held.{Held}
use Rattle.why_check.specs.declared.checking.Held.TheVariants.{Listed as IsListed, Passed, Wrong}
use Rattle.why_check.specs.declared.replays.Replay.{Replay}
use Rattle.why_check.proofs.Reaching.{asked_so, head_of, whole, left_over, later, after_birth, passes, lists, refuses, asks}
use Rattle.why_check.proofs.Replaying.{HasReached}

head_drop : (xs : List Listed) (i : ℕ) → head_of (drop i xs) ≡ slice_get xs i
head_drop [] zero = refl
head_drop [] (suc i) = refl
head_drop (x ∷ xs) zero = refl
head_drop (x ∷ xs) (suc i) = head_drop xs i

taken : (xs : List Listed) (i : ℕ) (l : Listed) → slice_get xs i ≡ Some l → (take (i + 1) xs ≡ take i xs ++ l ∷ []) × (i + 1 ≤ length xs)
taken xs i l e =
    let lt : i < length xs = slice_get_within xs i l e in
    (take_more xs i l lt ∙ ap (λ y. take i xs ++ y ∷ []) (get_or_from_slice_get xs i l l e), omega (arith, lt))

module _ (p : Policy) (is : IsPolicy p) (safe : IsSafe p.triggers) (birth : ℕ) (h : List Entry) (m : Model) (legal : Legal p birth h m) (cert : List Listed) where
  -- one entry more, whose step is not wrong
  abbrev Goes : (place i : ℕ) (s s' : Replay) → Held → Type 0
  Goes place i s s' held = HasReached p birth h m (take (i + 1) h) (take (place + held_count held) cert) s' × (place + held_count held ≤ length cert)

  module _ (place i : ℕ) (within : place ≤ length cert) (s : Replay) (k : HasReached p birth h m (take i h) (take place cert) s) where
    step_goes : (who : Who) (w : Step) (rest : List Entry) → take i h ++ record { who = who; what = w } ∷ rest ≡ h → take (i + 1) h ≡ take i h ++ record { who = who; what = w } ∷ []
        → (next : Option Listed) → next ≡ slice_get cert place → (held : Held) (s' : Replay) → IsPlayed p s w next held s' → (held ≡ Wrong → ⊥) → Goes place i s s' held
    step_goes who (Tick upto to) rest cut more None at IsListed s' played fine = absurd played.1.0
    step_goes who (Tick upto to) rest cut more (Some l) at IsListed s' played fine =
        let one = taken cert place l (sym at) in (
          subst (λ g. HasReached p birth h m g (take (place + 1) cert) s') (sym more)
              (subst (λ xs. HasReached p birth h m (take i h ++ record { who = who; what = Tick upto to } ∷ []) xs s') (sym one.0)
              (lists p is safe birth h m legal (take i h) rest who upto to cut (take place cert) s k played.0 s' l played.1.0 played.1.1)),
          one.1,
        )
    step_goes who (Tick upto to) rest cut more next at Passed s' played fine = (
      subst (λ g. HasReached p birth h m g (take (place + 0) cert) s') (sym more)
          (subst (λ n. HasReached p birth h m (take i h ++ record { who = who; what = Tick upto to } ∷ []) (take n cert) s') (omega arith)
          (passes p is safe birth h m legal (take i h) rest who upto to cut (take place cert) s k played.0 s' played.1.1 played.1.2)),
      omega (arith, within),
    )
    step_goes who (Tick upto to) rest cut more next at Wrong s' played fine = absurd (fine refl)
    step_goes who (Ask actor request reply) rest cut more next at held s' played fine =
        subst (λ x. Goes place i s s' x) (sym played.0) (
          subst (λ g. HasReached p birth h m g (take (place + 0) cert) s') (sym more)
              (subst (λ n. HasReached p birth h m (take i h ++ record { who = who; what = Ask actor request reply } ∷ []) (take n cert) s') (omega arith)
              (asks p is safe birth h m legal (take i h) rest who actor request reply cut (take place cert) s s' k played.1)),
          omega (arith, within),
        )

    step_refuses : (who : Who) (w : Step) (rest : List Entry) → take i h ++ record { who = who; what = w } ∷ rest ≡ h
        → (s' : Replay) → IsPlayed p s w (slice_get cert place) Wrong s' → Accepts p birth h cert → ⊥
    step_refuses who (Tick upto to) rest cut s' played good =
        refuses p is safe birth h m legal (take i h) rest who upto to cut (take place cert) s k played.0 (drop place cert)
        (subst (λ o. IsPlayed p s (Tick upto to) o Wrong s') (sym (head_drop cert place)) played).1
        (subst (Accepts p birth h) (sym (take-append-drop place cert)) good)
    step_refuses who (Ask actor request reply) rest cut s' played good = let clash : Wrong ≡ Passed = played.0 in cc

    step_ready : (who : Who) (w : Step) (rest : List Entry) → take i h ++ record { who = who; what = w } ∷ rest ≡ h → s.table.begun < 2 ^ 32 - 1 → IsReadyStep p s w
    step_ready who (Tick upto to) rest cut few =
        (later p is safe birth h m legal (take i h) rest who upto to cut (take place cert) s k, omega (arith, k.replay.born, after_birth p is safe birth h m legal (take i h) rest who upto to cut (take place cert) s k), k.replay.charged)
    step_ready who (Ask actor request reply) rest cut few = (few, asked_so p birth h m legal (take i h) rest who actor request reply cut (take place cert) s k)

  cut_at : (i : ℕ) (e : Entry) → i < length h → e ≡ get_or h i e → take i h ++ e ∷ drop (suc i) h ≡ h
  cut_at i e lt at = ap (λ x. take i h ++ x ∷ drop (suc i) h) at ∙ sym (split_at h i e lt)

  more_at : (i : ℕ) (e : Entry) → i < length h → e ≡ get_or h i e → take (i + 1) h ≡ take i h ++ e ∷ []
  more_at i e lt at = take_more h i e lt ∙ ap (λ x. take i h ++ x ∷ []) (sym at)

  pub goes : (place i : ℕ) → place ≤ length cert → (s : Replay) → HasReached p birth h m (take i h) (take place cert) s → (e : Entry) → i < length h → e ≡ get_or h i e
      → (next : Option Listed) → next ≡ slice_get cert place → (held : Held) (s' : Replay) → IsPlayed p s e.what next held s' → (held ≡ Wrong → ⊥) → Goes place i s s' held
  goes place i within s k e lt at next n held s' played fine = step_goes place i within s k e.who e.what (drop (suc i) h) (cut_at i e lt at) (more_at i e lt at) next n held s' played fine

  pub stops : (place i : ℕ) → place ≤ length cert → (s : Replay) → HasReached p birth h m (take i h) (take place cert) s → (e : Entry) → i < length h → e ≡ get_or h i e
      → (next : Option Listed) → next ≡ slice_get cert place → (held : Held) (s' : Replay) → IsPlayed p s e.what next held s' → held ≡ Wrong → Accepts p birth h cert → ⊥
  stops place i within s k e lt at next n held s' played wrong =
      step_refuses place i within s k e.who e.what (drop (suc i) h) (cut_at i e lt at) s'
      (subst (λ o. IsPlayed p s e.what o Wrong s') n (subst (λ x. IsPlayed p s e.what next x s') wrong played))

  pub ready : (place i : ℕ) → place ≤ length cert → (s : Replay) → HasReached p birth h m (take i h) (take place cert) s → (e : Entry) → i < length h → e ≡ get_or h i e → length h ≤ 1_000_000 → IsReadyStep p s e.what
  ready place i within s k e lt at few = step_ready place i within s k e.who e.what (drop (suc i) h) (cut_at i e lt at) (omega (arith, k.replay.few, few, lt, length-take-le i h (omega (arith, lt))))

  -- at the end the certificate is right exactly where nothing of it is left
  pub decides : (place i : ℕ) → place ≤ length cert → (s : Replay) → HasReached p birth h m (take i h) (take place cert) s → length h ≤ i → (b : Bool) → b ≡ nat_eq place (length cert) → IsTrue b ↔ Accepts p birth h cert
  decides place i within s k le b so = (
    λ t.
        let all : place ≡ length cert = eqb-true place (length cert) (sym so ∙ t) in
        subst (Accepts p birth h) (take_all place cert (omega (arith, all))) (whole p is safe birth h m legal (take place cert) s end),
    λ (good : Accepts p birth h cert). so ∙ split (nat_eq place (length cert)) (λ q. q) (λ q.
        let left : place < length cert = less place (length cert) within (eqb-false place (length cert) q) in
        absurd (left_by (drop place cert) refl left good)),
  )
    where
      end : HasReached p birth h m h (take place cert) s
      end = subst (λ g. HasReached p birth h m g (take place cert) s) (take_all i h le) k

      less : (a b : ℕ) → a ≤ b → (a ≡ b → ⊥) → a < b
      less a b l ne = split (nat_lt a b) (λ q. ltb-true a b q) (λ q. absurd (ne (omega (arith, l, ltb-false a b q))))

      left_by : (ls : List Listed) → drop place cert ≡ ls → place < length cert → Accepts p birth h cert → ⊥
      left_by [] none lt good = omega (arith, lt, length-drop place cert, ap length none)
      left_by (l ∷ ls) some lt good =
          left_over p is safe birth h m legal (take place cert) ls l s end
          (subst (Accepts p birth h) (sym (take-append-drop place cert) ∙ ap (λ ys. take place cert ++ ys) some) good)
