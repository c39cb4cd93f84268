-- Lines without a fault: no line clashes with a later one, all names are known, and no kind has too many.
use Rattle.std.proofs.Common.{◌≡◌, ◌+◌, ◌≤◌, ◌<◌, Bool, true, false, cond, not, ◌&&◌, List, [], ◌∷◌, length, filter, Option, Some, None, refl, sym, ap, ◌∙◌, subst, arith, nat_le, inl, inr}
use Rattle.std.specs.List.{list_any, list_all}
use Rattle.std.proofs.lemmas.Bool.{or_from, false_from_ne_true, leb-false}
use Rattle.gtrbac_model.proofs.Elements.{Elem, both_true, and_true, any_intro}
use Rattle.history_laws.proofs.Members.{clash}
use Rattle.policy_words.specs.declared.sayings.Kind.{Kind}
use Rattle.policy_words.specs.Sayings.{SaidView}
use Rattle.policy_words.specs.Reading.{Numbered}
use Rattle.policy_words.specs.Naming.{Names}
use Rattle.policy_words.specs.LinesTogether.{LinesFault, unknown, twice, many_at, is_known, is_twice, many_of, is_claimed_again, kind_of, same_kind, is_of, counts_for, count_of, most_of, fault_of_line, first_fault, said_in}
use Rattle.policy_book.proofs.Lists.{repeats}
use Rattle.policy_book.proofs.Clashes.{clashes, twice_any, is_plain, one_kind, counts_plain}
use Rattle.policy_book.proofs.DraftedLines.{onto}

-- a line without a fault among the lines before it
pub record IsFine (ns : Names) (before : List SaidView) (x : SaidView) : Type 0 where
  pub known : is_known ns x ≡ true
  pub once : is_twice before x ≡ false
  pub few : many_of before x ≡ None

abbrev pub AreFine : Names → List SaidView → List SaidView → Type 0
AreFine ns before [] = Unit {0}
AreFine ns before (x ∷ xs) = IsFine ns before x × AreFine ns (x ∷ before) xs

fine_line : (ns : Names) (before : List SaidView) (s : Numbered SaidView) → fault_of_line ns before s ≡ None → IsFine ns before s.it
fine_line ns before s e = by (is_known ns s.it) (is_twice before s.it) (many_of before s.it) refl refl refl e
  where
    by : (k t : Bool) (m : Option Kind) → is_known ns s.it ≡ k → is_twice before s.it ≡ t → many_of before s.it ≡ m
        → ◌≡◌ {A = Option LinesFault} (cond (not k) (Some (unknown s.line)) (cond t (Some (twice s.line)) (many_at s.line m))) None → IsFine ns before s.it
    by false t m p q r e = cc
    by true true m p q r e = cc
    by true false (Some k) p q r e = cc
    by true false None p q r e = record { known = p; once = q; few = r }

pub fine_lines : (ns : Names) (before : List SaidView) (ss : List (Numbered SaidView)) → first_fault ns before ss ≡ None → AreFine ns before (said_in ss)
fine_lines ns before [] e = tt
fine_lines ns before (s ∷ ss) e = by (fault_of_line ns before s) refl e (fine_lines ns (s.it ∷ before) ss)
  where
    by : (o : Option LinesFault) → fault_of_line ns before s ≡ o → ◌≡◌ {A = Option LinesFault} (elim o [ Some t ↦ Some t | None ↦ first_fault ns (s.it ∷ before) ss ]) None
        → (first_fault ns (s.it ∷ before) ss ≡ None → AreFine ns (s.it ∷ before) (said_in ss)) → IsFine ns before s.it × AreFine ns (s.it ∷ before) (said_in ss)
    by (Some t) p e on = cc
    by None p e on = (fine_line ns before s p, on e)

pub all_known : (ns : Names) (before xs : List SaidView) → AreFine ns before xs → list_all (is_known ns) xs ≡ true
all_known ns before [] h = refl
all_known ns before (x ∷ xs) h = and_true _ _ h.0.known (all_known ns (x ∷ before) xs h.1)

-- a line before clashes with none of these
none_clash : (ns : Names) (before : List SaidView) (x : SaidView) → Elem before x → (xs : List SaidView) → AreFine ns before xs → list_any (clashes x) xs ≡ false
none_clash ns before x m [] h = refl
none_clash ns before x m (y ∷ ys) h =
    let apart : list_any (λ z. clashes z y) before ≡ false = sym (twice_any before y) ∙ h.0.once in
    or_from (clashes x y) _ (false_from_ne_true _ (λ c. clash _ (any_intro (λ z. clashes z y) before x m c) apart)) (none_clash ns (y ∷ before) x (inr m) ys h.1)

pub all_apart : (ns : Names) (before xs : List SaidView) → AreFine ns before xs → repeats clashes xs ≡ false
all_apart ns before [] h = refl
all_apart ns before (x ∷ xs) h = or_from _ _ (none_clash ns (x ∷ before) x (inl refl) xs h.1) (all_apart ns (x ∷ before) xs h.1)

-- a line that counts for a kind finds room in it
below_most : (k : Kind) (before : List SaidView) (x : SaidView) → many_of before x ≡ None → counts_for k before x ≡ true → count_of k before < most_of k
below_most k before x few counts = by (kind_of x) refl few counts
  where
    not_many : (l : Kind) (c t : Bool) → c ≡ true → cond (c && t) (Some l) None ≡ None → t ≡ false
    not_many l true false p e = refl
    not_many l true true p e = cc
    not_many l false t p e = cc

    by : (o : Option Kind) → kind_of x ≡ o
        → ◌≡◌ {A = Option Kind} (elim o [ None ↦ None | Some l ↦ cond (counts_for l before x && nat_le (most_of l) (count_of l before)) (Some l) None ]) None
        → (elim o [ None ↦ false | Some l ↦ same_kind k l ] && not (is_claimed_again before x)) ≡ true → count_of k before < most_of k
    by None p e c = cc
    by (Some l) p e c =
        let same : k ≡ l = one_kind k l (both_true (same_kind k l) _ c).0 in
        leb-false _ _ (not_many k (counts_for k before x) _ counts (subst (λ j. cond (counts_for j before x && nat_le (most_of j) (count_of j before)) (Some j) None ≡ None) (sym same) e))

pub kept_few : (k : Kind) (ns : Names) (before xs : List SaidView) → AreFine ns before xs → count_of k before ≤ most_of k → count_of k (onto xs before) ≤ most_of k
kept_few k ns before [] h le = le
kept_few k ns before (x ∷ xs) h le = kept_few k ns (x ∷ before) xs h.1 (by (counts_for k before x) refl)
  where
    by : (c : Bool) → counts_for k before x ≡ c → count_of k before + cond c 1 0 ≤ most_of k
    by false e = omega arith
    by true e = omega (arith, below_most k before x h.0.few e)

-- all lines of a plain kind count
pub plain_counted : (k : Kind) → is_plain k ≡ true → (ns : Names) (before xs : List SaidView) → AreFine ns before xs → count_of k (onto xs before) ≡ count_of k before + length (filter (is_of k) xs)
plain_counted k p ns before [] h = omega arith
plain_counted k p ns before (x ∷ xs) h =
    plain_counted k p ns (x ∷ before) xs h.1 ∙ ap (λ c. count_of k before + cond c 1 0 + length (filter (is_of k) xs)) (counts_plain k before x p h.0.once) ∙ by (is_of k x)
  where
    by : (c : Bool) → count_of k before + cond c 1 0 + length (filter (is_of k) xs) ≡ count_of k before + length (cond c (x ∷ filter (is_of k) xs) (filter (is_of k) xs))
    by true = omega arith
    by false = omega arith

pub few_lines : (k : Kind) → is_plain k ≡ true → (ns : Names) (xs : List SaidView) → AreFine ns [] xs → length (filter (is_of k) xs) ≤ most_of k
few_lines k p ns xs h =
    let n : count_of k (onto xs []) ≡ 0 + length (filter (is_of k) xs) = plain_counted k p ns [] xs h in
    let le : count_of k (onto xs []) ≤ most_of k = kept_few k ns [] xs h (omega arith) in
    omega (arith, n, le)
