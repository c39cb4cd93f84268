-- What an answer that is no refusal tells of its causes.
use Rattle.std.proofs.Common.{◌≡◌, Bool, true, false, inl, inr, List, [], ◌∷◌, refl, ap}
use Rattle.gt_base.specs.declared.requests.Refusal.{Refusal}
use Rattle.gt_base.specs.declared.requests.Reply.{Reply}
use Rattle.gtrbac_model.specs.Reply.{unless}
use Rattle.gtrbac_model.proofs.Elements.{Elem}
use Rattle.audit_laws.specs.Owners.{is_refused}

pub record IsPassed (cs : List (Bool × Refusal)) (reply answer : Reply) : Type 0 where
  pub is : reply ≡ answer
  pub none : (c : Bool × Refusal) → Elem cs c → c.0 ≡ false

pub passed : (cs : List (Bool × Refusal)) (reply answer : Reply) → is_refused reply ≡ false → reply ≡ unless cs answer → IsPassed cs reply answer
passed [] reply answer ok e = record { is = e; none = λ c m. elim m [ ] }
passed ((true, why) ∷ cs) reply answer ok e = let h : is_refused reply ≡ true = ap is_refused e in cc
passed ((false, why) ∷ cs) reply answer ok e =
    let rest = passed cs reply answer ok e in
    record { is = rest.is; none = λ c m. elim m [ inl same ↦ ap (λ d. d.0) same | inr k ↦ rest.none c k ] }

pub first_is : {c : Bool × Refusal} {cs : List (Bool × Refusal)} {reply answer : Reply} → IsPassed (c ∷ cs) reply answer → c.0 ≡ false
first_is {c} ok = ok.none c (inl refl)
