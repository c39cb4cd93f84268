-- What a list of links tells where one of them was changed.
use Rattle.std.proofs.Common.{◌≡◌, ◌≢◌, ℕ, zero, suc, ◌+◌, ◌-◌, ◌<◌, ◌≤◌, ◌==◌, Bool, true, false, List, [], ◌∷◌, ◌++◌, length, set, get_or, drop, All, length-drop, refl, sym, ap, subst, ◌∙◌, arith, eq-eqb, ne_eqb, Option, Result, Ok, Err, Some, IfOk}
use Rattle.std.proofs.lemmas.List.{get_or-drop, get_or-set_other, length-set}
use Rattle.gt_io.specs.declared.source.Failed.{Failed}
use Rattle.gt_io.specs.declared.port.PortEvent.{PortEvent}
use Rattle.gt_io.specs.declared.port.PortEvent.TheVariants.{Opened, Ready, Stop}
use Rattle.gt_io.specs.declared.port.Got.{Got}
use Rattle.gt_io.specs.declared.port.Took.{Took}
use Rattle.gt_io.specs.Causes.{FailsOnce}
use Rattle.gt_io.specs.Ports.{Port, Harbour, told_at, told_in, KeepsRest, PortReads, ReadsPort, FitsGot, PortWrites, WritesPort, FitsTook, Finishes, Happens, open_among, is_none, newly, readied, port_by, ends_by}
use Rattle.gt_io.specs.Links.{IsNothing}
use Rattle.std.specs.Prelude.{if◌then◌else◌}
use mathlib.Core.Logic.{dite}
use native.Mathlib.Decide.{ℕ_discrete}

module _ {A B : Type 0} (tells : A → B) (other : B) where
  at_set : (xs : List A) (i : ℕ) (y : A) → i < length xs → told_at tells other (set xs i y) i ≡ tells y
  at_set [] i y low = absurd (omega (arith, low))
  at_set (x ∷ xs) zero y low = refl
  at_set (x ∷ xs) (suc i) y low = at_set xs i y (omega (arith, low))

  at_away : (xs : List A) (i k : ℕ) (y : A) → k ≢ i → told_at tells other (set xs i y) k ≡ told_at tells other xs k
  at_away [] i k y away = refl
  at_away (x ∷ xs) zero zero y away = absurd (away refl)
  at_away (x ∷ xs) zero (suc k) y away = refl
  at_away (x ∷ xs) (suc i) zero y away = refl
  at_away (x ∷ xs) (suc i) (suc k) y away = at_away xs i k y (λ same. away (ap suc same))

  at_get : (xs : List A) (i : ℕ) (d : A) → i < length xs → told_at tells other xs i ≡ tells (get_or xs i d)
  at_get [] i d low = absurd (omega (arith, low))
  at_get (x ∷ xs) zero d low = refl
  at_get (x ∷ xs) (suc i) d low = at_get xs i d (omega (arith, low))

  at_push : (xs : List A) (y : A) → told_at tells other (xs ++ y ∷ []) (length xs) ≡ tells y
  at_push [] y = refl
  at_push (x ∷ xs) y = at_push xs y

  at_front : (xs : List A) (y : A) (k : ℕ) → k ≢ length xs → told_at tells other (xs ++ y ∷ []) k ≡ told_at tells other xs k
  at_front [] y zero away = absurd (away refl)
  at_front [] y (suc k) away = refl
  at_front (x ∷ xs) y zero away = refl
  at_front (x ∷ xs) y (suc k) away = at_front xs y k (λ same. away (ap suc same))

  -- by numbers from 1
  in_at : (xs : List A) (c : ℕ) → 1 ≤ c → told_in tells other xs c ≡ told_at tells other xs (c - 1)
  in_at xs zero first = absurd (omega (arith, first))
  in_at xs (suc i) first = let e : suc i - 1 ≡ i = omega arith in ap (told_at tells other xs) (sym e)

  pub in_set : (xs : List A) (c : ℕ) (y : A) → 1 ≤ c → c ≤ length xs → told_in tells other (set xs (c - 1) y) c ≡ tells y
  in_set xs c y first last = in_at (set xs (c - 1) y) c first ∙ at_set xs (c - 1) y (omega (arith, first, last))

  pub in_away : (xs : List A) (c k : ℕ) (y : A) → 1 ≤ c → k ≢ c → told_in tells other (set xs (c - 1) y) k ≡ told_in tells other xs k
  in_away xs c zero y first away = refl
  in_away xs c (suc i) y first away = at_away xs (c - 1) i y (λ same. away (omega (arith, same, first)))

  pub in_get : (xs : List A) (c : ℕ) (d : A) → 1 ≤ c → c ≤ length xs → told_in tells other xs c ≡ tells (get_or xs (c - 1) d)
  in_get xs c d first last = in_at xs c first ∙ at_get xs (c - 1) d (omega (arith, first, last))

  pub in_push : (xs : List A) (y : A) (c : ℕ) → c ≡ length xs + 1 → told_in tells other (xs ++ y ∷ []) c ≡ tells y
  in_push xs y c is = let e : c ≡ suc (length xs) = omega (arith, is) in ap (told_in tells other (xs ++ y ∷ [])) e ∙ at_push xs y

  pub in_front : (xs : List A) (y : A) (k : ℕ) → k ≢ length xs + 1 → told_in tells other (xs ++ y ∷ []) k ≡ told_in tells other xs k
  in_front xs y zero away = refl
  in_front xs y (suc i) away = at_front xs y i (λ same. away (omega (arith, same)))

module _ {A : Type 0} (tells : A → Port) (other : Port) where
  abbrev Are : Option (Result PortEvent Failed) → ℕ → ℕ → List A → ℕ → ℕ → Harbour
  Are told nexts opened xs faults ends = record { told = told; nexts = nexts; opened = opened; port = told_in tells other xs; faults = faults; ends = ends }

  rest_of : (told : Option (Result PortEvent Failed)) (nexts opened faults faults' ends ends' : ℕ) (xs : List A) (c : ℕ) (y : A) → 1 ≤ c → KeepsRest (Are told nexts opened xs faults ends) (Are told nexts opened (set xs (c - 1) y) faults' ends') c
  rest_of told nexts opened faults faults' ends ends' xs c y first =
      record { told = refl; nexts = refl; opened = refl; others = λ k away. in_away tells other xs c k y first away }

  -- a call on one link of the list
  pub reads_port : (told : Option (Result PortEvent Failed)) (nexts opened faults faults' ends ends' : ℕ) (xs : List A) (c : ℕ) (x y : A) (buf : List ℕ) (result : Result Got Failed) → 1 ≤ c → c ≤ length xs → x ≡ get_or xs (c - 1) x
      → IfOk result (FitsGot (length buf)) → PortReads (tells x) (tells y) buf result → FailsOnce faults faults' result → ends' ≡ ends_by result ends
      → ReadsPort (Are told nexts opened xs faults ends) (Are told nexts opened (set xs (c - 1) y) faults' ends') c buf result
  reads_port told nexts opened faults faults' ends ends' xs c x y buf result first last is bound reads cause ended =
      let before : told_in tells other xs c ≡ tells x = in_get tells other xs c x first last ∙ ap tells (sym is) in
      let after = in_set tells other xs c y first last in
      record {
        bound = bound;
        port = subst (λ (p : Port). PortReads p (told_in tells other (set xs (c - 1) y) c) buf result) (sym before) (subst (λ (q : Port). PortReads (tells x) q buf result) (sym after) reads);
        rest = rest_of told nexts opened faults faults' ends ends' xs c y first;
        cause = cause;
        ends = ended;
      }

  pub writes_port : (told : Option (Result PortEvent Failed)) (nexts opened faults faults' ends : ℕ) (xs : List A) (c : ℕ) (x y : A) (piece : List ℕ) (result : Result Took Failed) → 1 ≤ c → c ≤ length xs → x ≡ get_or xs (c - 1) x
      → IfOk result (FitsTook (length piece)) → PortWrites (tells x) (tells y) piece result → FailsOnce faults faults' result
      → WritesPort (Are told nexts opened xs faults ends) (Are told nexts opened (set xs (c - 1) y) faults' ends) c piece result
  writes_port told nexts opened faults faults' ends xs c x y piece result first last is bound writes cause =
      let before : told_in tells other xs c ≡ tells x = in_get tells other xs c x first last ∙ ap tells (sym is) in
      let after = in_set tells other xs c y first last in
      record {
        bound = bound;
        port = subst (λ (p : Port). PortWrites p (told_in tells other (set xs (c - 1) y) c) piece result) (sym before) (subst (λ (q : Port). PortWrites (tells x) q piece result) (sym after) writes);
        rest = rest_of told nexts opened faults faults' ends ends xs c y first;
        cause = cause;
        ends = refl;
      }

  pub finishes_port : (told : Option (Result PortEvent Failed)) (nexts opened faults ends : ℕ) (xs : List A) (c : ℕ) (x y : A) → 1 ≤ c → c ≤ length xs → x ≡ get_or xs (c - 1) x
      → tells y ≡ record (tells x) { owed = false; finished = Some nexts } → Finishes (Are told nexts opened xs faults ends) (Are told nexts opened (set xs (c - 1) y) faults ends) c
  finishes_port told nexts opened faults ends xs c x y first last is over =
      let before : told_in tells other xs c ≡ tells x = in_get tells other xs c x first last ∙ ap tells (sym is) in
      record {
        port = in_set tells other xs c y first last ∙ over ∙ ap (λ (p : Port). record p { owed = false; finished = Some nexts }) (sym before);
        rest = rest_of told nexts opened faults faults ends ends xs c y first;
        faults = refl;
        ends = refl;
      }

  by_opened : (n c k : ℕ) (p : Port) (b : Bool) → (k == c) ≡ b → port_by (Ok (Opened c)) n k p ≡ (if b then newly n p else p)
  by_opened n c k p b is = ap (λ (v : Bool). if v then newly n p else p) is

  by_ready : (n c k : ℕ) (p : Port) (b : Bool) → (k == c) ≡ b → port_by (Ok (Ready c)) n k p ≡ (if b then readied p else p)
  by_ready n c k p b is = ap (λ (v : Bool). if v then readied p else p) is

  -- the link of the next number is opened
  pub happens_opened : (told : Option (Result PortEvent Failed)) (nexts opened faults ends n : ℕ) (xs ys : List A) → ((k : ℕ) → k ≢ opened + 1 → told_in tells other ys k ≡ told_in tells other xs k)
      → told_in tells other ys (opened + 1) ≡ newly n (told_in tells other xs (opened + 1)) → n ≡ open_among (told_in tells other xs) opened
      → IsNothing (told_in tells other xs (opened + 1)).taken → IsNothing (told_in tells other xs (opened + 1)).given
      → Happens (Are told nexts opened xs faults ends) (Are told nexts (opened + 1) ys faults ends) (Ok (Opened (opened + 1)))
  happens_opened told nexts opened faults ends n xs ys away here count taken given =
      record {
        opened = refl;
        number = λ c same. cc;
        known = λ c same. absurd cc;
        fresh = λ c same. let e : c ≡ opened + 1 = cc in subst (λ (k : ℕ). IsNothing (told_in tells other xs k).taken × IsNothing (told_in tells other xs k).given) (sym e) (taken, given);
        ports = λ k.
            dite (ℕ_discrete k (opened + 1)) (λ is.
            let p = told_in tells other xs k in
            ap (told_in tells other ys) is ∙ here ∙ ap (λ (m : ℕ). newly m (told_in tells other xs (opened + 1))) count
            ∙ ap (λ (j : ℕ). newly (open_among (told_in tells other xs) opened) (told_in tells other xs j)) (sym is)
            ∙ sym (by_opened (open_among (told_in tells other xs) opened) (opened + 1) k p true (eq-eqb k (opened + 1) is))) (λ other_one.
            away k other_one ∙ sym (by_opened (open_among (told_in tells other xs) opened) (opened + 1) k (told_in tells other xs k) false (ne_eqb k (opened + 1) other_one)));
        cause = record { later = omega arith; kept = refl; once = tt };
        ends = refl;
      }

  -- a link that was opened is ready
  pub happens_ready : (told : Option (Result PortEvent Failed)) (nexts opened faults ends c : ℕ) (xs : List A) (x y : A) → 1 ≤ c → c ≤ opened → c ≤ length xs → x ≡ get_or xs (c - 1) x → tells y ≡ readied (tells x)
      → Happens (Are told nexts opened xs faults ends) (Are told nexts opened (set xs (c - 1) y) faults ends) (Ok (Ready c))
  happens_ready told nexts opened faults ends c xs x y first last within is wakes =
      let before : told_in tells other xs c ≡ tells x = in_get tells other xs c x first within ∙ ap tells (sym is) in
      let n = open_among (told_in tells other xs) opened in
      record {
        opened = refl;
        number = λ d same. absurd cc;
        known = λ d same. let e : d ≡ c = cc in (omega (arith, e, first), omega (arith, e, last));
        fresh = λ d same. absurd cc;
        ports = λ k.
            dite (ℕ_discrete k c) (λ here.
            let p = told_in tells other xs k in
            ap (told_in tells other (set xs (c - 1) y)) here ∙ in_set tells other xs c y first within ∙ wakes ∙ ap readied (sym before) ∙ ap (λ (j : ℕ). readied (told_in tells other xs j)) (sym here)
            ∙ sym (by_ready n c k p true (eq-eqb k c here))) (λ away.
            in_away tells other xs c k y first away ∙ sym (by_ready n c k (told_in tells other xs k) false (ne_eqb k c away)));
        cause = record { later = omega arith; kept = refl; once = tt };
        ends = refl;
      }

  -- there is nothing more to do
  pub happens_stop : (told : Option (Result PortEvent Failed)) (nexts opened faults ends : ℕ) (xs : List A) → Happens (Are told nexts opened xs faults ends) (Are told nexts opened xs faults ends) (Ok Stop)
  happens_stop told nexts opened faults ends xs =
      record {
        opened = refl;
        number = λ d same. absurd cc;
        known = λ d same. absurd cc;
        fresh = λ d same. absurd cc;
        ports = λ k. refl;
        cause = record { later = omega arith; kept = refl; once = tt };
        ends = refl;
      }

  pub happens_fault : (told : Option (Result PortEvent Failed)) (nexts opened faults faults' ends : ℕ) (xs : List A) (f : Failed) → FailsOnce {T = PortEvent} faults faults' (Err f) → Happens (Are told nexts opened xs faults ends) (Are told nexts opened xs faults' ends) (Err f)
  happens_fault told nexts opened faults faults' ends xs f cause =
      record {
        opened = refl;
        number = λ d same. absurd cc;
        known = λ d same. absurd cc;
        fresh = λ d same. absurd cc;
        ports = λ k. refl;
        cause = cause;
        ends = refl;
      }

-- links that nothing went over, behind the one that is opened next
pub unused_next : {A : Type 0} (P : A → Type 0) (xs : List A) (i : ℕ) (y : A) → i < length xs → All P (drop i xs) → All P (drop (i + 1) (set xs i y))
unused_next {A} P xs i y low all = λ k d within.
    let l1 = length-drop (i + 1) (set xs i y) in
    let l2 = length-set xs i y in
    let l3 = length-drop i xs in
    let e1 : get_or (drop (i + 1) (set xs i y)) k d ≡ get_or (set xs i y) (i + 1 + k) d = get_or-drop (i + 1) (set xs i y) k d in
    let e2 : get_or (set xs i y) (i + 1 + k) d ≡ get_or xs (i + 1 + k) d = get_or-set_other xs i (i + 1 + k) y d (λ same. absurd (omega (arith, same))) in
    let e3 : get_or (drop i xs) (k + 1) d ≡ get_or xs (i + (k + 1)) d = get_or-drop i xs (k + 1) d in
    let e4 : i + 1 + k ≡ i + (k + 1) = omega arith in
    subst P (sym (e1 ∙ e2 ∙ ap (λ (j : ℕ). get_or xs j d) e4 ∙ sym e3)) (all (k + 1) d (omega (arith, within, l1, l2, l3)))

pub unused_first : {A : Type 0} (P : A → Type 0) (xs : List A) (i : ℕ) (d : A) → i < length xs → All P (drop i xs) → P (get_or xs i d)
unused_first {A} P xs i d low all =
    let l = length-drop i xs in
    let e : get_or (drop i xs) 0 d ≡ get_or xs (i + 0) d = get_or-drop i xs 0 d in
    let e0 : i + 0 ≡ i = omega arith in
    subst P (e ∙ ap (λ (j : ℕ). get_or xs j d) e0) (all 0 d (omega (arith, low, l)))

pub one_opened : (p : Port) → (if is_none p.finished then 1 else 0) ≤ 1
one_opened p = elim (is_none p.finished) as (λ b. (if b then 1 else 0) ≤ 1) [ true ↦ omega arith | false ↦ omega arith ]
