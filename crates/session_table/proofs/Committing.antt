-- The end of a stretch of minutes keeps what every table keeps.
use Rattle.std.proofs.Common.{◌≡◌, ℕ, zero, suc, ◌+◌, ◌-◌, ◌*◌, ◌<◌, ◌≤◌, Bool, true, false, cond, not, ◌&&◌, ◌||◌, List, [], ◌∷◌, filter, count_by, Option, Some, None, refl, sym, ap, subst, ◌∙◌, arith}
use Rattle.std.specs.List.{list_any}
use Rattle.std.proofs.Math.Nat.{mul-le-mul_left}
use Rattle.gt_base.specs.declared.events.RoleId.{RoleId}
use Rattle.gt_base.specs.declared.events.UserId.{UserId}
use Rattle.gt_base.specs.declared.events.SessionId.{SessionId}
use Rattle.gtrbac_model.specs.Graph.{item_at}
use Rattle.gtrbac_model.specs.Sessions.{Activation, is_active_in, is_of}
use Rattle.history_laws.specs.Tables.{minutes_of_day}
use Rattle.session_table.specs.declared.opened.Open.{Open}
use Rattle.session_table.specs.Opened.{role_in}
use Rattle.session_table.specs.Charges.{Charged, charged_in}
use Rattle.session_table.specs.Kept.{AreKeptRows, minutes_until}
use Rattle.session_table.specs.Tables.{NotBefore}
use Rattle.session_table.proofs.Charging.{split}
use Rattle.session_table.proofs.Indexing.{count_cons, count_kept, session_itself, role_itself}
use Rattle.session_table.proofs.Keeping.{few_of, listed, some_counted}

-- charges

later_until : (to : Option ℕ) (now d : ℕ) → NotBefore to now → minutes_until to d ≤ minutes_until (Some now) d
later_until None now d h = omega arith
later_until (Some t) now d h = omega (arith, h)

one_day : (now to d : ℕ) → now < to → minutes_until (Some now) d + minutes_of_day now (to - now) d ≤ minutes_until (Some to) d
one_day now to d h = omega (arith, h)

of_day : (t d : ℕ) → minutes_until (Some t) d ≤ 1440
of_day t d = omega arith

more_charged : (c m n a b e : ℕ) → c ≤ 10_000 * a → a ≤ b → b + m ≤ e → n ≤ 10_000 → c + m * n ≤ 10_000 * e
more_charged c m n a b e h k l few =
    let p : m * n ≤ m * 10_000 = mul-le-mul_left m few in
    omega (arith, p, h, k, l)

module _ (os : List Open) (active : List Activation) (charges : Charged) (until : Option ℕ) (h : AreKeptRows os active charges until)
    (now to : ℕ) (order : now < to) (not_before : NotBefore until now) where
  charged_after : (u : UserId) (r : RoleId) (d : ℕ) → charged_in charges u r d + minutes_of_day now (to - now) d * count_by (is_of u r) active ≤ 10_000 * minutes_until (Some to) d
  charged_after u r d =
      more_charged (charged_in charges u r d) (minutes_of_day now (to - now) d) (count_by (is_of u r) active) (minutes_until until d) (minutes_until (Some now) d) (minutes_until (Some to) d)
      (h.bounded u r d) (later_until until now d not_before) (one_day now to d order) (few_of os active charges until h u r)

  pub charges_fit : (u : UserId) (r : RoleId) (d : ℕ) → charged_in charges u r d + minutes_of_day now (to - now) d * count_by (is_of u r) active < 4_294_967_296
  charges_fit u r d =
      let a = charged_after u r d in
      let b = of_day to d in
      omega (arith, a, b)

-- activations

none_any : {A : Type 0} (p : A → Bool) (xs : List A) → count_by p xs ≤ 0 → list_any p xs ≡ false
none_any p xs h = split (list_any p xs) (λ e. let some : 1 ≤ count_by p xs = some_counted p xs e in absurd (omega arith)) (λ e. e)

-- of what is counted once at most, what is taken out and what is left
module _ {A : Type 0} (p test : A → Bool) where
  abbrev Parted : List A → Type 0
  Parted xs = list_any p (filter (λ x. not (test x)) xs) ≡ (not (list_any p (filter test xs)) && list_any p xs)

  part_on : (x : A) (xs : List A) → p x ≡ true → count_by p xs ≤ 0 → (b : Bool)
      → list_any p (cond (not b) (x ∷ filter (λ x. not (test x)) xs) (filter (λ x. not (test x)) xs)) ≡ (not (list_any p (cond b (x ∷ filter test xs) (filter test xs))) && (p x || list_any p xs))
  part_on x xs e none true =
      none_any p (filter (λ x. not (test x)) xs) (let a = count_kept p (λ x. not (test x)) xs in omega (arith, a, none))
      ∙ ap (λ b. not (b || list_any p (filter test xs)) && (b || list_any p xs)) (sym e)
  part_on x xs e none false =
      ap (λ b. b || list_any p (filter (λ x. not (test x)) xs)) e
      ∙ (λ i. not (sym (none_any p (filter test xs) (let a = count_kept p test xs in omega (arith, a, none))) i) && (sym e i || list_any p xs))

  part_off : (x : A) (xs : List A) → p x ≡ false → Parted xs → (b : Bool)
      → list_any p (cond (not b) (x ∷ filter (λ x. not (test x)) xs) (filter (λ x. not (test x)) xs)) ≡ (not (list_any p (cond b (x ∷ filter test xs) (filter test xs))) && (p x || list_any p xs))
  part_off x xs e h true = h ∙ ap (λ b. not (b || list_any p (filter test xs)) && (b || list_any p xs)) (sym e)
  part_off x xs e h false = ap (λ b. b || list_any p (filter (λ x. not (test x)) xs)) e ∙ h ∙ ap (λ b. not (list_any p (filter test xs)) && (b || list_any p xs)) (sym e)

  none_more : (x : A) (xs : List A) → count_by p (x ∷ xs) ≤ 1 → p x ≡ true → count_by p xs ≤ 0
  none_more x xs h e =
      let c : cond (p x) 1 0 + count_by p xs ≤ 1 = subst (λ n. n ≤ 1) (count_cons p x xs) h in
      let d : 1 + count_by p xs ≤ 1 = subst (λ b. cond b 1 0 + count_by p xs ≤ 1) e c in
      omega (arith, d)

  still_once : (x : A) (xs : List A) → count_by p (x ∷ xs) ≤ 1 → count_by p xs ≤ 1
  still_once x xs h =
      let c : cond (p x) 1 0 + count_by p xs ≤ 1 = subst (λ n. n ≤ 1) (count_cons p x xs) h in
      omega (arith, c)

  pub parted : (xs : List A) → count_by p xs ≤ 1 → Parted xs
  parted [] h = refl
  parted (x ∷ xs) h =
      let rest : Parted xs = parted xs (still_once x xs h) in
      split (p x) (λ e. part_on x xs e (none_more x xs h e) (test x)) (λ e. part_off x xs e rest (test x))

-- an activation that stands once is among those taken out where it passes
own : (a : Activation) → is_active_in a.session a.role a ≡ true
own a = λ i. session_itself a.session i && role_itself a.role i

first_told : (test : Activation → Bool) (a : Activation) (xs : List Activation) → count_by (is_active_in a.session a.role) xs ≤ 0 → (b : Bool)
    → list_any (is_active_in a.session a.role) (cond b (a ∷ filter test xs) (filter test xs)) ≡ b
first_told test a xs none true = ap (λ b. b || list_any (is_active_in a.session a.role) (filter test xs)) (own a)
first_told test a xs none false = none_any (is_active_in a.session a.role) (filter test xs) (let k = count_kept (is_active_in a.session a.role) test xs in omega (arith, k, none))

later_told : (test : Activation → Bool) (p : Activation → Bool) (x : Activation) (xs : List Activation) (t : Bool) → p x ≡ false → list_any p (filter test xs) ≡ t → (b : Bool)
    → list_any p (cond b (x ∷ filter test xs) (filter test xs)) ≡ t
later_told test p x xs t off e true = ap (λ b. b || list_any p (filter test xs)) off ∙ e
later_told test p x xs t off e false = e

pub told_apart : (test : Activation → Bool) (xs : List Activation) → ((n : SessionId) (r : RoleId) → count_by (is_active_in n r) xs ≤ 1)
    → (i : ℕ) (a : Activation) → item_at xs i ≡ Some a → list_any (is_active_in a.session a.role) (filter test xs) ≡ test a
told_apart test [] h i a is = cc
told_apart test (x ∷ xs) h zero a is =
    let same : x ≡ a = cc in
    subst (λ y. list_any (is_active_in y.session y.role) (filter test (x ∷ xs)) ≡ test y) same
    (first_told test x xs (none_more (is_active_in x.session x.role) test x xs (h x.session x.role) (own x)) (test x))
told_apart test (x ∷ xs) h (suc i) a is =
    let rest : list_any (is_active_in a.session a.role) (filter test xs) ≡ test a =
    told_apart test xs (λ n r. still_once (is_active_in n r) test x xs (h n r)) i a is in
    let p : Activation → Bool = is_active_in a.session a.role in
    let there : 1 ≤ count_by p xs = some_counted p xs (listed xs i a is) in
    split (p x) (λ e. let none : count_by p xs ≤ 0 = none_more p test x xs (h a.session a.role) e in absurd (omega arith)) (λ e. later_told test p x xs (test a) e rest (test x))

pub filter_by_items : {A : Type 0} (p q : A → Bool) (xs : List A) → ((i : ℕ) (a : A) → item_at xs i ≡ Some a → p a ≡ q a) → filter p xs ≡ filter q xs
filter_by_items p q [] h = refl
filter_by_items p q (x ∷ xs) h =
    (λ i. cond (h 0 x refl i) (x ∷ filter p xs) (filter p xs)) ∙ ap (λ ys. cond (q x) (x ∷ ys) ys) (filter_by_items p q xs (λ i. h (suc i)))

all_kept : {A : Type 0} (xs : List A) → filter (λ x. true) xs ≡ xs
all_kept [] = refl
all_kept (x ∷ xs) = ap (λ ys. x ∷ ys) (all_kept xs)

-- what all pass is kept whole
pub each_kept : {A : Type 0} (p : A → Bool) (xs : List A) → ((i : ℕ) (a : A) → item_at xs i ≡ Some a → p a ≡ true) → xs ≡ filter p xs
each_kept p xs h = sym (filter_by_items p (λ x. true) xs h ∙ all_kept xs)

module _ (os : List Open) (active : List Activation) (charges : Charged) (until : Option ℕ) (h : AreKeptRows os active charges until)
    (test : Activation → Bool) (gone : List Activation) (is_gone : gone ≡ filter test active)
    (os' : List Open) (roles : (n : SessionId) (r : RoleId) → role_in os' n r ≡ (not (list_any (is_active_in n r) gone) && role_in os n r)) where
  abbrev left : List Activation
  left = filter (λ a. role_in os' a.session a.role) active

  one_left : (i : ℕ) (a : Activation) → item_at active i ≡ Some a → role_in os' a.session a.role ≡ not (test a)
  one_left i a is =
      roles a.session a.role
      ∙ (λ j. not (list_any (is_active_in a.session a.role) (is_gone j)) && (h.index a.session a.role ∙ listed active i a is) j)
      ∙ and_true (not (list_any (is_active_in a.session a.role) (filter test active)))
      ∙ ap not (told_apart test active h.once i a is)
    where
      and_true : (b : Bool) → (b && true) ≡ b
      and_true true = refl
      and_true false = refl

  -- what is left is what does not pass
  pub survivors : left ≡ filter (λ a. not (test a)) active
  survivors = filter_by_items (λ a. role_in os' a.session a.role) (λ a. not (test a)) active one_left

  pub committed : count_by (λ (o : Open). o.is_open) os' ≡ count_by (λ (o : Open). o.is_open) os → (rows : Charged) (now to : ℕ) → now < to → NotBefore until now
      → ((u : UserId) (r : RoleId) (d : ℕ) → charged_in rows u r d ≡ charged_in charges u r d + minutes_of_day now (to - now) d * count_by (is_of u r) active)
      → AreKeptRows os' left rows (Some to)
  committed len rows now to order not_before charged = record {
    few = subst (λ n. n ≤ 10_000) (sym len) h.few;
    index = λ n r.
        roles n r ∙ (λ j. not (list_any (is_active_in n r) (is_gone j)) && h.index n r j)
        ∙ sym (parted (is_active_in n r) test active (h.once n r))
        ∙ ap (list_any (is_active_in n r)) (sym survivors);
    once = λ n r. let k = count_kept (is_active_in n r) (λ a. role_in os' a.session a.role) active in omega (arith, k, h.once n r);
    bounded = λ u r d. subst (λ n. n ≤ 10_000 * minutes_until (Some to) d) (sym (charged u r d)) (charged_after os active charges until h now to order not_before u r d);
  }
