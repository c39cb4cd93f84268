-- What ports in memory keep where one of their links was changed.
use Rattle.std.proofs.Common.{◌≡◌, ℕ, suc, ◌+◌, ◌-◌, ◌<◌, ◌≤◌, ◌==◌, true, false, List, ◌∷◌, length, drop, set, get_or, Bool, Result, Ok, Err, refl, sym, ap, ◌∙◌, arith, eq-eqb, ne_eqb}
use Rattle.std.proofs.lemmas.List.{length-set, get_or_default}
use Rattle.std.proofs.Math.Seq.{drop-cons}
use Rattle.std.specs.Prelude.{if◌then◌else◌}
use mathlib.Core.Logic.{dite}
use native.Mathlib.Decide.{ℕ_discrete}
use Rattle.gt_io.specs.declared.source.Failed.{Failed}
use Rattle.gt_io.specs.declared.port.PortEvent.{PortEvent}
use Rattle.gt_io.specs.declared.port.Got.{Got}
use Rattle.gt_io.specs.declared.port.Took.{Took}
use Rattle.gt_io.specs.declared.memory_ports.MemEvent.{MemEvent}
use Rattle.gt_io.specs.declared.memory_ports.MemPort.{MemPort}
use Rattle.gt_io.specs.Memory.{is_listed}
use Rattle.gt_io.specs.Ports.{told_in}
use Rattle.gt_io.specs.MemoryPorts.{Wire, wire_of, no_wire, Plan, with_wire, read_answer, read_from, write_answer, written_to, event_of, plan_by, GivesEvent, GivesGot, GivesTook}
use Rattle.gt_io.proofs.PortLists.{in_set, in_away, in_get}

abbrev pub wires : List MemPort → ℕ → Wire
wires xs k = told_in wire_of no_wire xs k

abbrev pub planned : List MemEvent → List ℕ → List MemPort → Plan
planned left bad xs = record { left = left; bad_nexts = bad; count = length xs; wire = wires xs }

by_wire : (c k : ℕ) (w v : Wire) (b : Bool) → (k == c) ≡ b → (if k == c then w else v) ≡ (if b then w else v)
by_wire c k w v b is = ap (λ (t : Bool). if t then w else v) is

-- one of them was changed
pub one_changed : (left : List MemEvent) (bad : List ℕ) (xs : List MemPort) (c : ℕ) (y : MemPort) (w : Wire) → 1 ≤ c → c ≤ length xs → wire_of y ≡ w → planned left bad (set xs (c - 1) y) ≡ with_wire (planned left bad xs) c w
one_changed left bad xs c y w first last is =
    let each : (k : ℕ) → wires (set xs (c - 1) y) k ≡ (if k == c then w else wires xs k) =
    λ k. dite (ℕ_discrete k c) (λ here. ap (wires (set xs (c - 1) y)) here ∙ in_set wire_of no_wire xs c y first last ∙ is ∙ sym (by_wire c k w (wires xs k) true (eq-eqb k c here)))
    (λ away. in_away wire_of no_wire xs c k y first away ∙ sym (by_wire c k w (wires xs k) false (ne_eqb k c away))) in
    λ i. record { left = left; bad_nexts = bad; count = length-set xs (c - 1) y i; wire = λ k. each k i }

-- none was
pub none_changed : (left : List MemEvent) (bad : List ℕ) (xs : List MemPort) (c : ℕ) (x y : MemPort) → 1 ≤ c → c ≤ length xs → x ≡ get_or xs (c - 1) x → wire_of y ≡ wire_of x → planned left bad (set xs (c - 1) y) ≡ planned left bad xs
none_changed left bad xs c x y first last is same =
    let each : (k : ℕ) → wires (set xs (c - 1) y) k ≡ wires xs k =
    λ k. dite (ℕ_discrete k c) (λ here. ap (wires (set xs (c - 1) y)) here ∙ in_set wire_of no_wire xs c y first last ∙ same ∙ ap wire_of is ∙ sym (in_get wire_of no_wire xs c x first last) ∙ ap (wires xs) (sym here))
    (λ away. in_away wire_of no_wire xs c k y first away) in
    λ i. record { left = left; bad_nexts = bad; count = length-set xs (c - 1) y i; wire = λ k. each k i }

-- the link of a number
pub wire_at : (xs : List MemPort) (c : ℕ) (x : MemPort) → 1 ≤ c → c ≤ length xs → x ≡ get_or xs (c - 1) x → wires xs c ≡ wire_of x
wire_at xs c x first last is = in_get wire_of no_wire xs c x first last ∙ ap wire_of (sym is)

pub gives_got : (left : List MemEvent) (bad : List ℕ) (xs : List MemPort) (c room : ℕ) (x y : MemPort) (result : Result Got Failed) → 1 ≤ c → c ≤ length xs → x ≡ get_or xs (c - 1) x
    → result ≡ read_answer (wire_of x) room → wire_of y ≡ read_from (wire_of x) result → GivesGot (planned left bad xs) (planned left bad (set xs (c - 1) y)) c room result
gives_got left bad xs c room x y result first last is answer after =
    let before = wire_at xs c x first last is in
    record {
      answer = answer ∙ ap (λ (w : Wire). read_answer w room) (sym before);
      plan = one_changed left bad xs c y (read_from (wires xs c) result) first last (after ∙ ap (λ (w : Wire). read_from w result) (sym before));
    }

pub gives_took : (left : List MemEvent) (bad : List ℕ) (xs : List MemPort) (c : ℕ) (piece : List ℕ) (x y : MemPort) (result : Result Took Failed) → 1 ≤ c → c ≤ length xs → x ≡ get_or xs (c - 1) x
    → result ≡ write_answer (wire_of x) (length piece) → wire_of y ≡ written_to (wire_of x) piece result → GivesTook (planned left bad xs) (planned left bad (set xs (c - 1) y)) c piece result
gives_took left bad xs c piece x y result first last is answer after =
    let before = wire_at xs c x first last is in
    record {
      answer = answer ∙ ap (λ (w : Wire). write_answer w (length piece)) (sym before);
      plan = one_changed left bad xs c y (written_to (wires xs c) piece result) first last (after ∙ ap (λ (w : Wire). written_to w piece result) (sym before));
    }

abbrev chosen : Bool → PortEvent → Result PortEvent Failed
chosen b told = if b then Err (record {}) else Ok told

-- the first event that is left is told
pub gives_event : (p q : Plan) (nexts opened : ℕ) (event : MemEvent) (rest : List MemEvent) (told : PortEvent) → is_listed nexts p.bad_nexts ≡ false → p.left ≡ event ∷ rest → told ≡ event_of p.count opened (event ∷ rest)
    → q ≡ plan_by told (record p { left = rest }) → GivesEvent p q nexts opened (Ok told)
gives_event p q nexts opened event rest told counts left is after =
    record {
      answer = ap Ok is ∙ ap (λ es. Ok (event_of p.count opened es)) (sym left) ∙ sym (answers (is_listed nexts p.bad_nexts) counts);
      plan = after ∙ ap (λ es. plan_by told (record p { left = drop 1 es })) (sym left);
    }
  where
    answers : (b : Bool) → b ≡ false → chosen b (event_of p.count opened p.left) ≡ Ok (event_of p.count opened p.left)
    answers true e = cc
    answers false e = refl

-- the events that are left from a place on
pub left_from : (xs : List MemEvent) (at : ℕ) (x : MemEvent) → at < length xs → x ≡ get_or xs at x → drop at xs ≡ x ∷ drop (at + 1) xs
left_from xs at x low is =
    let e : suc at ≡ at + 1 = omega arith in
    drop-cons xs at x low ∙ ap (λ y. y ∷ drop (suc at) xs) (sym is) ∙ ap (λ k. x ∷ drop k xs) e

-- what is read at a place of them
pub at_place : (ys xs : List MemEvent) (at : ℕ) (d x : MemEvent) → ys ≡ xs → at < length xs → get_or ys at d ≡ x → x ≡ get_or xs at x
at_place ys xs at d x same low is = sym is ∙ ap (λ l. get_or l at d) same ∙ get_or_default xs at d x low
