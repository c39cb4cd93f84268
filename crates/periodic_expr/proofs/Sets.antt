-- A set that is put together number by number ascends.
use Rattle.std.proofs.Common.{◌≡◌, ℕ, zero, suc, ◌<◌, ◌≤◌, ◌+◌, Bool, true, false, cond, ◌&&◌, nat_eq, nat_lt, nat_le, List, [], ◌∷◌, length, refl, ap, ◌∙◌, arith, inl, inr, if◌then◌else◌}
use Rattle.std.proofs.lemmas.Bool.{and_parts, and_from, or_parts, ltb-true, ltb-false, lt-ltb, le-leb, eqb-false, cases_Bool}
use Rattle.std.specs.List.{list_any, list_all, take_while, insert, prefix_len}
use Rattle.std.proofs.lemmas.List.Folds.{length-prefix_len}
use Rattle.gtrbac_model.specs.Valid.{rises_above}
use Rattle.periodic_expr.specs.Sketch.{put_in}

abbrev pub below : ℕ → ℕ → Bool
below n m = nat_lt m n

abbrev pub put_at : ℕ → List ℕ → List ℕ
put_at n ns = insert ns (prefix_len (below n) ns) n

one : (k : ℕ) → 1 + k ≡ suc k
one k = omega arith

pub put_behind : (n m : ℕ) (ms : List ℕ) → nat_lt m n ≡ true → put_at n (m ∷ ms) ≡ m ∷ put_at n ms
put_behind n m ms e =
    let step : prefix_len (below n) (m ∷ ms) ≡ suc (prefix_len (below n) ms) = ap (λ b. cond b (1 + prefix_len (below n) ms) 0) e ∙ one (prefix_len (below n) ms) in
    ap (λ k. insert (m ∷ ms) k n) step

put_before : (n m : ℕ) (ms : List ℕ) → nat_lt m n ≡ false → put_at n (m ∷ ms) ≡ n ∷ m ∷ ms
put_before n m ms e = ap (λ b. insert (m ∷ ms) (cond b (1 + prefix_len (below n) ms) 0) n) e

rises_insert : (a n : ℕ) (ns : List ℕ) → rises_above a ns ≡ true → a < n → list_any (nat_eq n) ns ≡ false → rises_above a (put_at n ns) ≡ true
rises_insert a n [] h lt new = and_from (nat_lt a n) true (lt-ltb a n lt) refl
rises_insert a n (m ∷ ms) h lt new =
    let both = and_parts (nat_lt a m) (rises_above m ms) h in
    let others = or_parts (nat_eq n m) (list_any (nat_eq n) ms) new in
    elim (cases_Bool (nat_lt m n)) [
      | inl e ↦ ap (rises_above a) (put_behind n m ms e) ∙ and_from (nat_lt a m) (rises_above m (put_at n ms)) both.0 (rises_insert m n ms both.1 (ltb-true m n e) others.1)
      | inr e ↦
          (let le = ltb-false m n e in
          let ne = eqb-false n m others.0 in
          let lt' : n < m = omega arith in
          ap (rises_above a) (put_before n m ms e) ∙ and_from (nat_lt a n) (nat_lt n m && rises_above m ms) (lt-ltb a n lt) (and_from (nat_lt n m) (rises_above m ms) (lt-ltb n m lt') both.1))
    ]

all_insert : (p : ℕ → Bool) (k : ℕ) (ns : List ℕ) (n : ℕ) → list_all p ns ≡ true → p n ≡ true → list_all p (insert ns k n) ≡ true
all_insert p zero ns n h q = and_from (p n) (list_all p ns) q h
all_insert p (suc k) [] n h q = and_from (p n) true q refl
all_insert p (suc k) (m ∷ ms) n h q =
    let both = and_parts (p m) (list_all p ms) h in
    and_from (p m) (list_all p (insert ms k n)) both.0 (all_insert p k ms n both.1 q)

abbrev pub has_nine : ℕ → Bool
has_nine m = nat_le m 999_999_999

abbrev chosen : ℕ → List ℕ → Bool → List ℕ
chosen n ns b = if b then ns else insert ns (length (take_while (below n) ns)) n

pub put_by : (n : ℕ) (ns : List ℕ) (b : Bool) → list_any (nat_eq n) ns ≡ b → put_in n ns ≡ chosen n ns b
put_by n ns b e = ap (chosen n ns) e

pub put_new : (n : ℕ) (ns : List ℕ) → list_any (nat_eq n) ns ≡ false → put_in n ns ≡ put_at n ns
put_new n ns e = put_by n ns false e ∙ ap (λ k. insert ns k n) (length-prefix_len (below n) ns)

-- one number more, not 0 and of at most nine digits
pub put_rises : (n : ℕ) (ns : List ℕ) → 1 ≤ n → n ≤ 999_999_999 → (rises_above 0 ns && list_all has_nine ns) ≡ true → (rises_above 0 (put_in n ns) && list_all has_nine (put_in n ns)) ≡ true
put_rises n ns low high h =
    elim (cases_Bool (list_any (nat_eq n) ns)) [
      | inl e ↦ rw (put_by n ns true e) h
      | inr e ↦
          (let both = and_parts (rises_above 0 ns) (list_all has_nine ns) h in
          rw (put_new n ns e)
          (and_from (rises_above 0 (put_at n ns)) (list_all has_nine (put_at n ns)) (rises_insert 0 n ns both.0 low e) (all_insert has_nine (prefix_len (below n) ns) ns n both.1 (le-leb n 999_999_999 high))))
    ]
