-- The roles of a list in ascending order, found one after another.
use Rattle.std.proofs.Common.{◌≡◌, ℕ, zero, suc, ◌+◌, ◌-◌, ◌<◌, ◌≤◌, ◌⊎◌, inl, inr, Bool, true, false, ◌&&◌, ◌||◌, cond, nat_eq, nat_le, nat_lt, List, [], ◌∷◌, ◌++◌, length, take, get_or, filter, refl, sym, ◌∙◌, ap, arith}
use Rattle.std.specs.List.{range_with_len}
use Rattle.std.proofs.lemmas.Bool.{eqb-true, eq-eqb, leb-true, leb-false, ltb-true, ltb-false}
use Rattle.std.proofs.lemmas.List.Folds.{list_any_more}
use Rattle.gt_base.specs.declared.events.RoleId.{RoleId}
use Rattle.gtrbac_model.specs.Same.{same_role, lists}
use Rattle.hybrid_hierarchy.specs.Searches.{listed_from}
use Rattle.hybrid_hierarchy.proofs.Roles.{role}

-- none of the roles lies between the two, and the upper one is among them, if it is below the limit
pub record Nearest (roles : List RoleId) (low next : ℕ) : Type 0 where
  pub above : low ≤ next
  pub within : next ≤ 1_000
  pub none : (n : ℕ) → low ≤ n → n < next → lists same_role roles (role n) ≡ false
  pub some : (next ≡ 1_000) ⊎ (lists same_role roles (role next) ≡ true)

pub nearest_start : (low : ℕ) → low ≤ 1_000 → Nearest [] low 1_000
nearest_start low le = record { above = le; within = omega arith; none = λ n a b. refl; some = inl refl }

apart : (a b : ℕ) → (a ≡ b → ⊥) → nat_eq a b ≡ false
apart a b ne = by (nat_eq a b) refl
  where
    by : (c : Bool) → nat_eq a b ≡ c → nat_eq a b ≡ false
    by true e = absurd (ne (eqb-true a b e))
    by false e = e

or_yes : (b : Bool) → (b || true) ≡ true
or_yes true = refl
or_yes false = refl

pub nearest_more : (roles : List RoleId) (low next i : ℕ) (d : RoleId) → i < length roles → Nearest (take i roles) low next
    → Nearest (take (i + 1) roles) low (cond (nat_le low (get_or roles i d).0 && nat_lt (get_or roles i d).0 next) (get_or roles i d).0 next)
nearest_more roles low next i d lt h = by (nat_le low (get_or roles i d).0) refl (nat_lt (get_or roles i d).0 next) refl
  where
    more : (n : ℕ) → lists same_role (take (i + 1) roles) (role n) ≡ (lists same_role (take i roles) (role n) || nat_eq n (get_or roles i d).0)
    more n = list_any_more (same_role (role n)) roles i d lt

    keep : ((n : ℕ) → low ≤ n → n < next → n ≡ (get_or roles i d).0 → ⊥) → Nearest (take (i + 1) roles) low next
    keep none_is = record {
      above = h.above;
      within = h.within;
      none = λ n a b. more n ∙ ap (λ z. z || nat_eq n (get_or roles i d).0) (h.none n a b) ∙ apart n (get_or roles i d).0 (none_is n a b);
      some = elim h.some [ inl e ↦ inl e | inr t ↦ inr (more next ∙ ap (λ z. z || nat_eq next (get_or roles i d).0) t) ];
    }

    by : (a : Bool) → nat_le low (get_or roles i d).0 ≡ a → (b : Bool) → nat_lt (get_or roles i d).0 next ≡ b → Nearest (take (i + 1) roles) low (cond (a && b) (get_or roles i d).0 next)
    by true p true q =
        let x : ℕ = (get_or roles i d).0 in
        let below : x < next = ltb-true x next q in
        record {
          above = leb-true low x p;
          within = omega (arith, below, h.within);
          none = λ n a b. more n ∙ ap (λ z. z || nat_eq n x) (h.none n a (omega (arith, b, below))) ∙ apart n x (λ e. omega (arith, b, e));
          some = inr (more x ∙ ap (λ z. lists same_role (take i roles) (role x) || z) (eq-eqb x x refl) ∙ or_yes (lists same_role (take i roles) (role x)));
        }
    by true p false q =
        let x : ℕ = (get_or roles i d).0 in
        let over : next ≤ x = ltb-false x next q in
        keep (λ n a b e. omega (arith, b, e, over))
    by false p b q =
        let x : ℕ = (get_or roles i d).0 in
        let under : x < low = leb-false low x p in
        keep (λ n a b e. omega (arith, a, e, under))

-- numbers that do not pass are left out
skip : (p : ℕ → Bool) (a k t : ℕ) → k ≤ t → ((m : ℕ) → a ≤ m → m < a + k → p m ≡ false) → filter p (range_with_len a t) ≡ filter p (range_with_len (a + k) (t - k))
skip p a zero t le off =
    let e : a ≡ a + 0 = omega arith in
    let f : t ≡ t - 0 = omega arith in
    λ i. filter p (range_with_len (e i) (f i))
skip p a (suc k) zero le off = absurd (omega arith)
skip p a (suc k) (suc t) le off =
    let e : a + 1 + k ≡ a + suc k = omega arith in
    let f : t - k ≡ suc t - suc k = omega arith in
    ap (λ b. cond b (a ∷ filter p (range_with_len (a + 1) t)) (filter p (range_with_len (a + 1) t))) (off a (omega arith) (omega arith))
    ∙ skip p (a + 1) k t (omega arith) (λ m l h. off m (omega arith) (omega arith))
    ∙ (λ i. filter p (range_with_len (e i) (f i)))

module _ (roles : List RoleId) (low next : ℕ) (h : Nearest roles low next) where
  abbrev listed : ℕ → Bool
  listed n = lists same_role roles (record { 0 = n })

  skipped : listed_from roles low ≡ filter listed (range_with_len next (1_000 - next))
  unfolding listed_from
  skipped =
      let a : low + (next - low) ≡ next = omega (arith, h.above) in
      let b : 1_000 - low - (next - low) ≡ 1_000 - next = omega (arith, h.above, h.within) in
      skip listed low (next - low) (1_000 - low) (omega (arith, h.above, h.within)) (λ m l u. h.none m l (omega (arith, u, h.above))) ∙ (λ i. filter listed (range_with_len (a i) (b i)))

  pub listed_next : next < 1_000 → listed_from roles low ≡ next ∷ listed_from roles (next + 1)
  unfolding listed_from
  listed_next lt =
      let k : 1_000 - next ≡ suc (1_000 - (next + 1)) = omega (arith, lt) in
      skipped ∙ ap (λ t. filter listed (range_with_len next t)) k
      ∙ ap (λ b. cond b (next ∷ filter listed (range_with_len (next + 1) (1_000 - (next + 1)))) (filter listed (range_with_len (next + 1) (1_000 - (next + 1))))) on
    where
      on : listed next ≡ true
      on = elim h.some [ inl e ↦ absurd (omega (arith, e, lt)) | inr t ↦ t ]

  pub listed_no_more : 1_000 ≤ next → listed_from roles low ≡ []
  listed_no_more le =
      let k : 1_000 - next ≡ 0 = omega (arith, le) in
      skipped ∙ ap (λ t. filter listed (range_with_len next t)) k

-- all of them
pub listed_all : (roles : List RoleId) → listed_from roles 0 ≡ filter (λ n. lists same_role roles (record { 0 = n })) (range_with_len 0 1_000)
unfolding listed_from
listed_all roles = refl

-- one role alone
pub listed_one : (r : RoleId) → r.0 < 1_000 → r.0 ∷ [] ≡ filter (λ n. lists same_role (r ∷ []) (record { 0 = n })) (range_with_len 0 1_000)
listed_one r low =
    ap (λ ns. r.0 ∷ ns) (sym (listed_no_more (r ∷ []) (r.0 + 1) 1_000 last (omega arith)))
    ∙ sym (listed_next (r ∷ []) 0 r.0 first low) ∙ listed_all (r ∷ [])
  where
    other : (n : ℕ) → (n ≡ r.0 → ⊥) → lists same_role (r ∷ []) (role n) ≡ false
    other n ne = ap (λ b. b || false) (apart n r.0 ne)

    below : (n : ℕ) → n < r.0 → n ≡ r.0 → ⊥
    below n h e = omega (arith, h, e)

    above : (n : ℕ) → r.0 + 1 ≤ n → n ≡ r.0 → ⊥
    above n h e = omega (arith, h, e)

    first : Nearest (r ∷ []) 0 r.0
    first = record { above = omega arith; within = omega (arith, low); none = λ n a b. other n (below n b); some = inr (ap (λ b. b || false) (eq-eqb r.0 r.0 refl)) }

    last : Nearest (r ∷ []) (r.0 + 1) 1_000
    last = record { above = omega (arith, low); within = omega arith; none = λ n a b. other n (above n a); some = inl refl }

pub alone : (rs : List RoleId) (d : RoleId) → 1 ≤ length rs → length rs < 2 → get_or rs 0 d ∷ [] ≡ rs
alone [] d some few = absurd (omega (arith, some))
alone (r ∷ []) d some few = refl
alone (r ∷ q ∷ rs) d some few = absurd (omega (arith, few))

pub ends : (xs : List ℕ) → xs ++ [] ≡ xs
ends [] = refl
ends (x ∷ xs) = ap (λ ys. x ∷ ys) (ends xs)
