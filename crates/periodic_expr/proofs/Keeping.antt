-- While no fault is found, what is found is sound.
use Rattle.std.proofs.Common.{◌≡◌, ℕ, ◌≤◌, Bool, true, false, not, ◌&&◌, ◌||◌, nat_le, List, [], ◌∷◌, ◌++◌, Option, Some, None, is_some, refl, ap, ◌∙◌, arith}
use Rattle.std.proofs.lemmas.Bool.{false≢true, and_parts, and_from, or_left, or_right, leb-true, le-leb}
use Rattle.gtrbac_model.specs.declared.calendars.Calendar.{Calendar}
use Rattle.gtrbac_model.specs.Period.{Part}
use Rattle.gtrbac_model.specs.Valid.{is_below, is_same, is_set, from_all, is_expr}
use Rattle.gtrbac_model.specs.Selects.{last_by}
use Rattle.periodic_expr.specs.declared.faults.ExprFault.{ExprFault}
use Rattle.periodic_expr.specs.declared.faults.ExprKind.{ExprKind}
use Rattle.periodic_expr.specs.declared.faults.ExprKind.TheVariants.{FirstNotAll, NotFiner, ZeroIndex, EmptySet, BadLength}
use Rattle.periodic_expr.specs.declared.scan.Act.{Act}
use Rattle.periodic_expr.specs.declared.scan.Act.TheVariants.{Nothing, Open, Begin, Index, Length, Part as PartEnds, Unit as UnitEnds}
use Rattle.periodic_expr.specs.Scan.{IsSmall}
use Rattle.periodic_expr.specs.Sketch.{Sketch, empty, noted, put_into, has_number, is_empty, is_rising, acted, IsSound, KeepsSketch}
use Rattle.periodic_expr.proofs.Sets.{put_rises}
use Rattle.periodic_expr.proofs.Chains.{same_itself, all_to, all_more, all_first, last_by_more}

record Unnoted (f : Option ExprFault) (good : Bool) : Type 0 where
  before : f ≡ None
  holds : good ≡ true

unnoted : (f : Option ExprFault) (good : Bool) (at : ℕ) (kind : ExprKind) → noted f good at kind ≡ None → Unnoted f good
unnoted (Some f) good at kind e = record { before = e; holds = absurd (some_none e) }
  where
    some_none : Some f ≡ None → ⊥
    some_none h = cc
unnoted None true at kind e = record { before = refl; holds = refl }
unnoted None false at kind e = record { before = refl; holds = absurd (told e) }
  where
    told : noted None false at kind ≡ None → ⊥
    told h = cc

put_some : (n : ℕ) (set : Option (List ℕ)) → is_some (put_into n set) ≡ is_some set
put_some n None = refl
put_some n (Some ns) = refl

put_rising : (n : ℕ) (set : Option (List ℕ)) → 1 ≤ n → n ≤ 999_999_999 → is_rising set ≡ true → is_rising (put_into n set) ≡ true
put_rising n None low high h = refl
put_rising n (Some ns) low high h = put_rises n ns low high h

-- a set that ascends and has a number is one
full_set : (set : Option (List ℕ)) → is_rising set ≡ true → has_number set ≡ true → is_set set ≡ true
full_set None h some = refl
full_set (Some []) h some = absurd (false≢true some)
full_set (Some (n ∷ ns)) h some = h

-- one part more
record Longer (ps : List Part) (q : Part) : Type 0 where
  chain : (is_empty (ps ++ q ∷ []) || from_all (ps ++ q ∷ []) q.calendar) ≡ true
  last : (is_empty (ps ++ q ∷ []) || is_same (last_by (ps ++ q ∷ [])) q.calendar) ≡ true

longer : (ps : List Part) (a : Calendar) (q : Part) → (is_empty ps || from_all ps a) ≡ true → (is_empty ps || is_same (last_by ps) a) ≡ true → (not (is_empty ps) || not (is_some q.set)) ≡ true → is_set q.set ≡ true → (is_empty ps || is_below a q.calendar) ≡ true → Longer ps q
longer [] a q chain last first set below = record { chain = all_first q first; last = same_itself q.calendar }
longer (p ∷ ps) a q chain last first set below = record {
  chain = all_more p ps a q chain last set below;
  last = ap (λ c. is_same c q.calendar) (last_by_more (p ∷ ps) q) ∙ same_itself q.calendar;
}

pub keeps_empty : KeepsSketch empty
keeps_empty h = record { chain = refl; last = refl; unit = refl; first = refl; rises = refl; least = omega arith; most = omega arith }

pub keeps_acted : (act : Act) (at : ℕ) (s : Sketch) → IsSmall act → KeepsSketch s → KeepsSketch (acted act at s)
keeps_acted Nothing at s small k h = k h
keeps_acted Begin at s small k h =
    let v = k h in
    record { chain = v.chain; last = v.last; unit = v.unit; first = v.first; rises = v.rises; least = v.least; most = v.most }
keeps_acted Open at s small k h =
    let u = unnoted s.fault (not (is_empty s.parts)) at FirstNotAll h in
    let v = k u.before in
    record { chain = v.chain; last = v.last; unit = v.unit; first = or_left (not (is_empty s.parts)) false u.holds; rises = refl; least = v.least; most = v.most }
keeps_acted (Index n) at s small k h =
    let u = unnoted s.fault (nat_le 1 n) s.token ZeroIndex h in
    let v = k u.before in
    record {
      chain = v.chain;
      last = v.last;
      unit = v.unit;
      first = ap (λ b. not (is_empty s.parts) || not b) (put_some n s.set) ∙ v.first;
      rises = put_rising n s.set (leb-true 1 n u.holds) small v.rises;
      least = v.least;
      most = v.most;
    }
keeps_acted (Length n) at s small k h =
    let u = unnoted s.fault (nat_le 1 n && nat_le n 1000) s.token BadLength h in
    let both = and_parts (nat_le 1 n) (nat_le n 1000) u.holds in
    let v = k u.before in
    record { chain = v.chain; last = v.last; unit = v.unit; first = v.first; rises = v.rises; least = leb-true 1 n both.0; most = leb-true n 1000 both.1 }
keeps_acted (PartEnds c) at s small k h =
    let q : Part = record { calendar = c; set = s.set } in
    let u = unnoted (noted s.fault (has_number s.set) s.brace EmptySet) (is_empty s.parts || is_below s.above c) s.token NotFiner h in
    let w = unnoted s.fault (has_number s.set) s.brace EmptySet u.before in
    let v = k w.before in
    let more = longer s.parts s.above q v.chain v.last v.first (full_set s.set v.rises w.holds) u.holds in
    record {
      chain = more.chain;
      last = more.last;
      unit = or_left (is_same c c) (is_below c c) (same_itself c);
      first = or_right (not (is_empty (s.parts ++ q ∷ []))) true refl;
      rises = refl;
      least = v.least;
      most = v.most;
    }
keeps_acted (UnitEnds c) at s small k h =
    let u = unnoted s.fault (is_same s.above c || is_below s.above c) s.token NotFiner h in
    let v = k u.before in
    record { chain = v.chain; last = v.last; unit = u.holds; first = v.first; rises = v.rises; least = v.least; most = v.most }

-- so at the end the expression is valid
pub sound_expr : (s : Sketch) → IsSound s → is_empty s.parts ≡ false → is_expr (record { parts = s.parts; count = s.count; unit = s.unit }) ≡ true
sound_expr s v some =
    let chain = parts_of s.parts (from_all s.parts s.above) some v.chain in
    let last = parts_of s.parts (is_same (last_by s.parts) s.above) some v.last in
    and_from (from_all s.parts s.unit && nat_le 1 s.count) (nat_le s.count 1000)
    (and_from (from_all s.parts s.unit) (nat_le 1 s.count) (all_to s.parts s.above s.unit chain last v.unit) (le-leb 1 s.count v.least)) (le-leb s.count 1000 v.most)
  where
    parts_of : (ps : List Part) (b : Bool) → is_empty ps ≡ false → (is_empty ps || b) ≡ true → b ≡ true
    parts_of ps b e h = rw e at h
