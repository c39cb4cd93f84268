-- Lines whose names are known, that do not clash, and of which no kind has too many, have no fault.
use Rattle.std.proofs.Common.{◌≡◌, ℕ, ◌+◌, ◌≤◌, Bool, true, false, cond, not, ◌&&◌, List, [], ◌∷◌, length, filter, Option, Some, None, refl, sym, ap, ◌∙◌, subst, arith, nat_le, inl, inr}
use Rattle.std.specs.List.{list_any, list_all}
use Rattle.std.proofs.lemmas.Bool.{or_parts, false_from_ne_true, lt-leb}
use Rattle.gtrbac_model.proofs.Elements.{Elem, both_true, any_elim}
use Rattle.history_laws.proofs.Members.{clash}
use Rattle.policy_words.specs.declared.sayings.Kind.{Kind}
use Rattle.policy_words.specs.declared.sayings.Kind.TheVariants as kinds
use Rattle.policy_words.specs.Sayings.{SaidView}
use Rattle.policy_words.specs.Naming.{Names}
use Rattle.policy_words.specs.LinesTogether.{unknown, twice, many_at, is_known, is_twice, many_of, is_claimed_again, kind_of, same_kind, is_of, counts_for, count_of, most_of, fault_of_line, first_fault}
use Rattle.policy_book.specs.Laws.{numbered_from}
use Rattle.policy_book.proofs.Lists.{repeats}
use Rattle.policy_book.proofs.Clashes.{clashes, twice_any}
use Rattle.policy_book.proofs.OpeningLines.{count_more}

kind_itself : (k : Kind) → same_kind k k ≡ true
kind_itself kinds.Roles = refl
kind_itself _ = refl

abbrev one_of : Bool → ℕ
one_of b = cond b 1 0 + 0

-- a line finds room where no kind has too many up to it
room : (before : List SaidView) (x : SaidView) → ((k : Kind) → count_of k before + length (filter (is_of k) (x ∷ [])) ≤ most_of k) → many_of before x ≡ None
room before x few = by (kind_of x) refl
  where
    not_many : (l : Kind) (c t : Bool) → t ≡ false → cond (c && t) (Some l) None ≡ None
    not_many l true t e = ap (λ b. cond b (Some l) None) e
    not_many l false t e = refl

    by : (o : Option Kind) → kind_of x ≡ o → ◌≡◌ {A = Option Kind} (elim o [ None ↦ None | Some k ↦ cond (counts_for k before x && nat_le (most_of k) (count_of k before)) (Some k) None ]) None
    by None e = refl
    by (Some k) e =
        let of : is_of k x ≡ true = ap (λ o. elim o [ None ↦ false | Some l ↦ same_kind k l ]) e ∙ kind_itself k in
        let one : length (filter (is_of k) (x ∷ [])) ≡ 1 = count_more (is_of k) x [] ∙ ap one_of of in
        not_many k _ _ (lt-leb (most_of k) (count_of k before) (omega (arith, few k, one)))

no_more : (k : Kind) (before : List SaidView) (x : SaidView) → count_of k (x ∷ before) ≤ count_of k before + length (filter (is_of k) (x ∷ []))
no_more k before x = by (is_of k x) (is_claimed_again before x)
  where
    by : (o a : Bool) → count_of k before + cond (o && not a) 1 0 ≤ count_of k before + length (cond o (x ∷ []) [])
    by true true = omega arith
    by true false = omega arith
    by false a = omega arith

pub has_no_fault : (ns : Names) (before xs : List SaidView) (n : ℕ) → list_all (is_known ns) xs ≡ true → repeats clashes xs ≡ false → ((z : SaidView) → Elem before z → list_any (clashes z) xs ≡ false)
    → ((k : Kind) → count_of k before + length (filter (is_of k) xs) ≤ most_of k) → first_fault ns before (numbered_from n xs) ≡ None
has_no_fault ns before [] n known apart free few = refl
has_no_fault ns before (x ∷ xs) n known apart free few =
    ap (λ o. elim o [ Some t ↦ Some t | None ↦ first_fault ns (x ∷ before) (numbered_from (n + 1) xs) ]) none
    ∙ has_no_fault ns (x ∷ before) xs (n + 1) (both_true (is_known ns x) _ known).1 (or_parts (list_any (clashes x) xs) _ apart).1 still_free still_few
  where
    split_count : (k : Kind) → length (filter (is_of k) (x ∷ xs)) ≡ length (filter (is_of k) (x ∷ [])) + length (filter (is_of k) xs)
    split_count k = omega (arith, count_more (is_of k) x xs, count_more (is_of k) x [])

    once : is_twice before x ≡ false
    once =
        twice_any before x
        ∙ false_from_ne_true _ (λ e. let (z, m, c) = any_elim (λ z. clashes z x) before e in clash _ c (or_parts (clashes z x) _ (free z m)).0)

    none : fault_of_line ns before (record { line = n; it = x }) ≡ None
    none = λ i.
        cond (not ((both_true (is_known ns x) _ known).0 i)) (Some (unknown n)) (cond (once i) (Some (twice n)) (many_at n (room before x (λ k. omega (arith, few k, split_count k)) i)))

    still_free : (z : SaidView) → Elem (x ∷ before) z → list_any (clashes z) xs ≡ false
    still_free z (inl e) = subst (λ w. list_any (clashes w) xs ≡ false) (sym e) (or_parts (list_any (clashes x) xs) _ apart).0
    still_free z (inr m) = (or_parts (clashes z x) _ (free z m)).1

    still_few : (k : Kind) → count_of k (x ∷ before) + length (filter (is_of k) xs) ≤ most_of k
    still_few k = omega (arith, few k, split_count k, no_more k before x)
