-- The steps, at a seat of which an equation tells what it has.
use Rattle.std.proofs.Common.{◌≡◌, ℕ, ◌+◌, ◌%◌, ◌^◌, ◌<◌, ◌≤◌, List, [], ◌∷◌, ◌++◌, length, sym, refl, ap, ◌∙◌, subst}
use mathlib.Core.Option.{none, some, some-injective}
use lib.ListN.{get_elem?}
use Rattle.turn_lock.specs.Seats.{many}
use mathlib.Core.List.{IsPrefix}
use Rattle.atomic_table.specs.Table.{Me, step, Allows, Splits, Joins, Final, Seen, opening, rest}
use Rattle.gt_base.specs.declared.requests.Entry.{Entry}
use Rattle.turn_lock.specs.declared.view.Account.{Account}
use Rattle.turn_lock.specs.declared.view.Stage.TheVariants.{Idle, Waits, Keeps, Holds}
use Rattle.turn_lock.specs.declared.view.SeatView.{SeatView}
use Rattle.turn_lock.specs.declared.view.Spot.{Spot}
use Rattle.turn_lock.specs.declared.view.Spot.TheVariants.{Home, Told}
use Rattle.turn_lock.specs.declared.view.Origin.{Origin}
use Rattle.turn_lock.specs.Turns.{KeptRule, drawn, looked, counted, added, passed, stayed, resumed, released, split_left, split_right, joined, spent_view, first_view, plain, Has, EndsPasses}
use Rattle.turn_lock.proofs.Keeping.{draws, looks, counts, adds, passes_on, stays, resumes, releases, splits, joins, starts, ends}
use Rattle.std.specs.declared.snapshot.Snapshot.{Snapshot}

module _ {M : Type 0} (list : M → List Entry) (same : M → M → Type 0) (o : Origin M) where
  abbrev S : Type 0
  S = Me (Spot M) (SeatView M)

  pub draws_at : (slots id : ℕ) (me : S) (rt : M) (a : Account) (next : ℕ) → me ≡ (plain rt a next Idle, []) → a.draws < 2 ^ 40
      → Allows (KeptRule list same o) slots id me 1 (λ n. (n + 1) % 2 ^ 64) (drawn (step slots 1 1 0 none) me)
  draws_at slots id me rt a next is left = subst (λ (m : S). Allows (KeptRule list same o) slots id m 1 (λ n. (n + 1) % 2 ^ 64) (drawn (step slots 1 1 0 none) m)) (sym is) (draws list same o slots id rt a next left)

  pub looks_at : (slots id : ℕ) (me : S) (rt : M) (a : Account) (next t : ℕ) → me ≡ (plain rt a next (Waits t), [])
      → Allows (KeptRule list same o) slots id me 2 (λ n. n) (looked list same (step slots 2 0 0 none) me)
  looks_at slots id me rt a next t is = subst (λ (m : S). Allows (KeptRule list same o) slots id m 2 (λ n. n) (looked list same (step slots 2 0 0 none) m)) (sym is) (looks list same o slots id rt a next t)

  pub counts_at : (slots id : ℕ) (me : S) (v : SeatView M) → me ≡ (v, []) → Allows (KeptRule list same o) slots id me 1 (λ n. n) (counted (step slots 1 0 0 none) me)
  counts_at slots id me v is = subst (λ (m : S). Allows (KeptRule list same o) slots id m 1 (λ n. n) (counted (step slots 1 0 0 none) m)) (sym is) (counts list same o slots id v)

  pub adds_at : (slots id : ℕ) (me : S) (rt : M) (a : Account) (next t : ℕ) (known : List Entry) (y : M) (q : ℕ) (e : Entry) (z : Snapshot M) → me ≡ (plain rt a next (Holds t known), (q, Told z) ∷ []) → z.value ≡ y → list y ≡ known ++ e ∷ []
      → e.who.worker ≡ a.number → length (list y) < 2 ^ 64
      → Allows (KeptRule list same o) slots id me 0 (λ n. (n + 1) % 2 ^ 64) (added list (step slots 0 1 0 none) me)
  adds_at slots id me rt a next t known y q e z is told_is longer by fits = subst (λ (m : S). Allows (KeptRule list same o) slots id m 0 (λ n. (n + 1) % 2 ^ 64) (added list (step slots 0 1 0 none) m)) (sym is)
      (adds list same o slots id rt a next t known y q e z told_is longer by fits)

  pub passes_at : (slots id : ℕ) (me : S) (rt : M) (a : Account) (next t : ℕ) (known : List Entry) (x : M) → me ≡ (plain rt a next (Holds t known), (0, Home x) ∷ []) → 0 < slots → list x ≡ known → same rt x
      → Allows (KeptRule list same o) slots id me 2 (λ n. (n + 1) % 2 ^ 64) (passed list (step slots 2 1 0 none) me)
  passes_at slots id me rt a next t known x is room keeps_known same_rt = subst (λ (m : S). Allows (KeptRule list same o) slots id m 2 (λ n. (n + 1) % 2 ^ 64) (passed list (step slots 2 1 0 none) m)) (sym is)
      (passes_on list same o slots id rt a next t known x room keeps_known same_rt)

  pub stays_at : (slots id : ℕ) (me : S) (rt : M) (a : Account) (next t : ℕ) (known : List Entry) (x : M) → me ≡ (plain rt a next (Holds t known), (0, Home x) ∷ []) → 0 < slots → list x ≡ known → same rt x
      → Allows (KeptRule list same o) slots id me 0 (λ n. n) (stayed list (step slots 0 0 0 none) me)
  stays_at slots id me rt a next t known x is room keeps_known same_rt = subst (λ (m : S). Allows (KeptRule list same o) slots id m 0 (λ n. n) (stayed list (step slots 0 0 0 none) m)) (sym is)
      (stays list same o slots id rt a next t known x room keeps_known same_rt)

  pub resumes_at : (slots id : ℕ) (me : S) (rt : M) (a : Account) (next t : ℕ) → me ≡ (plain rt a next (Keeps t), [])
      → Allows (KeptRule list same o) slots id me 0 (λ n. n) (resumed list same (step slots 0 0 0 none) me)
  resumes_at slots id me rt a next t is = subst (λ (m : S). Allows (KeptRule list same o) slots id m 0 (λ n. n) (resumed list same (step slots 0 0 0 none) m)) (sym is) (resumes list same o slots id rt a next t)

  pub releases_at : (slots id : ℕ) (me : S) (rt : M) (a : Account) (next t : ℕ) → me ≡ (plain rt a next (Keeps t), [])
      → Allows (KeptRule list same o) slots id me 2 (λ n. (n + 1) % 2 ^ 64) (released (step slots 2 1 0 none) me)
  releases_at slots id me rt a next t is = subst (λ (m : S). Allows (KeptRule list same o) slots id m 2 (λ n. (n + 1) % 2 ^ 64) (released (step slots 2 1 0 none) m)) (sym is) (releases list same o slots id rt a next t)

  -- what a resumption tells
  pub taken_again : (me : S) (rt : M) (a : Account) (next t n slots : ℕ) (m' : S) → me ≡ (plain rt a next (Keeps t), []) → resumed list same (step slots 0 0 0 none) me n m'
      → (x : M) × (m' ≡ (plain rt a next (Holds t (list x)), (0, Home x) ∷ [])) × same rt x × IsPrefix a.seen (list x)
  taken_again me rt a next t n slots m' is h = let k = subst (λ (m : S). resumed list same (step slots 0 0 0 none) m n m') is h in (k.0, k.1, k.2 rt refl, k.3.0)

  -- what a look tells where the ticket is served
  pub served : (me : S) (rt : M) (a : Account) (next t n slots : ℕ) (m' : S) → me ≡ (plain rt a next (Waits t), []) → looked list same (step slots 2 0 0 none) me n m' → n ≡ t
      → (x : M) × (m' ≡ (plain rt a next (Holds t (list x)), (0, Home x) ∷ [])) × same rt x × IsPrefix a.seen (list x)
  served me rt a next t n slots m' is h now = let k = (subst (λ (m : S). looked list same (step slots 2 0 0 none) m n m') is h).0 now in (k.0, k.1, k.2 rt refl, k.3.0)

  pub not_served : (me : S) (rt : M) (a : Account) (next t n slots : ℕ) (m' : S) → me ≡ (plain rt a next (Waits t), []) → looked list same (step slots 2 0 0 none) me n m' → ¬ (n ≡ t) → m' ≡ me
  not_served me rt a next t n slots m' is h other = let k = (subst (λ (m : S). looked list same (step slots 2 0 0 none) m n m') is h).1 other in k ∙ sym is

  -- the slot that was taken last
  pub in_hand : (me : S) (k : ℕ) (x : Spot M) → me.1 ≡ (k, x) ∷ [] → me.1 ≡ (k, x) ∷ rest me.1
  in_hand me k x e = e ∙ ap (λ cs. (k, x) ∷ rest cs) (sym e)

  abbrev spot_or : Spot M → List (ℕ × Spot M) → Spot M
  spot_or d [] = d
  spot_or d (x ∷ xs) = x.1

  abbrev home_or : M → Spot M → M
  home_or d (Home x) = x
  home_or d _ = d

  pub same_home : (x y : M) → (let z : Spot M = Home x in z) ≡ Home y → x ≡ y
  same_home x y e = ap (home_or x) e

  pub exchanged_was : (me : S) (k : ℕ) (old result : Spot M) → me.1 ≡ (k, old) ∷ [] → me.1 ≡ (k, result) ∷ rest me.1 → result ≡ old
  exchanged_was me k old result is was = ap (spot_or old) (sym was ∙ is)

  pub exchanged_is : (me m' : S) (k : ℕ) (old new : Spot M) → me.1 ≡ (k, old) ∷ [] → m' ≡ (me.0, (k, new) ∷ rest me.1) → m' ≡ (me.0, (k, new) ∷ [])
  exchanged_is me m' k old new is now = now ∙ ap (λ cs. (me.0, (k, new) ∷ rest cs)) is

  pub splits_at : (id : ℕ) (v : SeatView M) (rt : M) (a : Account) (next : ℕ) → v ≡ plain rt a next Idle → 0 < next → next < o.passes → Splits (KeptRule list same o) id v (split_left v) (split_right v)
  splits_at id v rt a next is live room = subst (λ (z : SeatView M). Splits (KeptRule list same o) id z (split_left z) (split_right z)) (sym is) (splits list same o id rt a next live room)

  pub starts_at : (x : M) (n : ℕ) (slots : List (Spot M)) → o.value.value ≡ x → same x x → 1 ≤ o.passes → o.passes ≤ 8 → n ≡ length (list x) → slots ≡ Home x ∷ []
      → KeptRule list same o (opening (n ∷ 0 ∷ 0 ∷ []) slots (first_view list o))
  starts_at x n slots is same_root some_pass few len_is slots_is = subst (λ (z : ℕ × List (Spot M)). KeptRule list same o (opening (z.0 ∷ 0 ∷ 0 ∷ []) z.1 (first_view list o))) (λ i. (sym len_is i, sym slots_is i))
      (starts list same o x is (subst (λ (z : M). same z x) (sym is) same_root) some_pass few)

  pub joins_at : (id other : ℕ) (v w : SeatView M) (rt rt' : M) (xs ys : List Account) (next next' : ℕ) → v ≡ many rt xs next → w ≡ many rt' ys next' → Joins (KeptRule list same o) id v other w (joined v w) spent_view
  joins_at id other v w rt rt' xs ys next next' is is' = subst (λ (z : SeatView M × SeatView M). Joins (KeptRule list same o) id z.0 other z.1 (joined z.0 z.1) spent_view) (λ i. (sym is i, sym is' i)) (joins list same o id other rt rt' xs ys next next')

  pub final_home : (ws : List ℕ) (xs : List (Spot M)) (id : ℕ) (v : SeatView M) (y : Spot M) → Final (Seen (KeptRule list same o) id v) ws xs → v.stage ≡ Idle → ((n : ℕ) → n < o.passes → Has n v.accounts) → get_elem? xs 0 ≡ some y
      → (x : M) × (y ≡ Home x) × EndsPasses list same o.value.value o.passes v.accounts x
  final_home ws xs id v y fin idle covers at = let e = ends list same o fin.0 fin.1.0 id v fin.1.1 idle covers in (e.0, some-injective y (Home e.0) (sym at ∙ fin.4 0 (Home e.0) e.1), e.2)

  pub not_home : (y : Spot M) (x : M) → y ≡ Home x → ((z : M) → y ≡ Home z → ⊥) → ⊥
  not_home y x e h = h x e
