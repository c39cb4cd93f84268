-- What a scan has found of an expression, up to a byte.
use Rattle.std.specs.Prelude.{◌≡◌, ℕ, ◌≤◌, Bool, true, false, ◌&&◌, ◌||◌, not, nat_eq, nat_lt, nat_le, List, [], ◌∷◌, ◌++◌, length, Option, Some, None, is_some, IsTrue, if◌then◌else◌}
use Rattle.std.specs.List.{list_any, list_all, take_while, insert}
use Rattle.gt_base.specs.declared.limits.TheConstants.{MAX_LENGTH}
use Rattle.gtrbac_model.specs.declared.calendars.Calendar.{Calendar}
use Rattle.gtrbac_model.specs.declared.calendars.Calendar.TheVariants.{Years}
use Rattle.gtrbac_model.specs.Period.{Part}
use Rattle.gtrbac_model.specs.Valid.{is_below, is_same, rises_above, from_all}
use Rattle.gtrbac_model.specs.Selects.{last_by}
use Rattle.periodic_expr.specs.declared.faults.ExprFault.{ExprFault}
use Rattle.periodic_expr.specs.declared.faults.ExprKind.{ExprKind}
use Rattle.periodic_expr.specs.declared.faults.ExprKind.TheVariants.{FirstNotAll, NotFiner, ZeroIndex, EmptySet, BadLength}
use Rattle.periodic_expr.specs.declared.scan.Act.{Act}
use Rattle.periodic_expr.specs.declared.scan.Act.TheVariants.{Nothing, Open, Begin, Index, Length, Part as PartEnds, Unit as UnitEnds}

-- the parts so far and the set of the part at hand; where its brace and where the token at hand
-- stands; the calendar of the last part; the length; and the first fault
pub record Sketch : Type 0 where
  pub parts : List Part
  pub set : Option (List ℕ)
  pub brace : ℕ
  pub token : ℕ
  pub above : Calendar
  pub count : ℕ
  pub unit : Calendar
  pub fault : Option ExprFault

abbrev pub empty : Sketch
empty = record {
  parts = [];
  set = None;
  brace = 0;
  token = 0;
  above = Years;
  count = 1;
  unit = Years;
  fault = None;
}

-- the first fault stays
abbrev pub noted : Option ExprFault → Bool → ℕ → ExprKind → Option ExprFault
noted (Some f) good at kind = Some f
noted None true at kind = None
noted None false at kind = Some (record { at = at; kind = kind })

-- a set with one number more, ascending and without repeats
abbrev pub put_in : ℕ → List ℕ → List ℕ
put_in n ns =
    if list_any (nat_eq n) ns then ns
    else insert ns (length (take_while (λ m. nat_lt m n) ns)) n

abbrev pub put_into : ℕ → Option (List ℕ) → Option (List ℕ)
put_into n None = None
put_into n (Some ns) = Some (put_in n ns)

abbrev pub has_number : Option (List ℕ) → Bool
has_number (Some []) = false
has_number _ = true

abbrev pub is_empty : List Part → Bool
is_empty [] = true
is_empty (p ∷ ps) = false

-- what a step tells, at its place
abbrev pub acted : Act → ℕ → Sketch → Sketch
acted Nothing at s = s
acted Open at s = record s {
  set = Some [];
  brace = at;
  fault = noted s.fault (not (is_empty s.parts)) at FirstNotAll;
}
acted Begin at s = record s { token = at }
acted (Index n) at s = record s {
  set = put_into n s.set;
  fault = noted s.fault (nat_le 1 n) s.token ZeroIndex;
}
acted (Length n) at s = record s {
  count = n;
  fault = noted s.fault
      (nat_le 1 n && nat_le n MAX_LENGTH) s.token BadLength;
}
acted (PartEnds c) at s = record s {
  parts = s.parts ++ record { calendar = c; set = s.set } ∷ [];
  set = None;
  above = c;
  unit = c;
  fault = noted (noted s.fault (has_number s.set) s.brace EmptySet)
      (is_empty s.parts || is_below s.above c) s.token NotFiner;
}
acted (UnitEnds c) at s = record s {
  unit = c;
  fault = noted s.fault
      (is_same s.above c || is_below s.above c) s.token NotFiner;
}

-- a set whose numbers ascend and have at most nine digits, perhaps without numbers
abbrev pub is_rising : Option (List ℕ) → Bool
is_rising None = true
is_rising (Some ns) = rises_above 0 ns && list_all (λ m. nat_le m 999_999_999) ns

-- while no fault is found, the parts are those of a valid expression, and the set at hand ascends
pub record IsSound (s : Sketch) : Type 0 where
  pub chain : IsTrue (is_empty s.parts || from_all s.parts s.above)
  pub last : IsTrue (is_empty s.parts || is_same (last_by s.parts) s.above)
  pub unit : IsTrue (is_same s.above s.unit || is_below s.above s.unit)
  pub first : IsTrue (not (is_empty s.parts) || not (is_some s.set))
  pub rises : IsTrue (is_rising s.set)
  pub least : 1 ≤ s.count
  pub most : s.count ≤ MAX_LENGTH

abbrev pub KeepsSketch : Sketch → Type 0
KeepsSketch s = s.fault ≡ None → IsSound s
