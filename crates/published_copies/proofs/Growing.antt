-- A step that only adds to the published entries keeps the rule.
use Rattle.std.proofs.Common.{◌≡◌, ◌≢◌, ℕ, ◌+◌, List, [], ◌∷◌, ◌++◌, set, fold, length, length-append, drop, Ok, Err, refl, sym, ap, subst, ⊎_elim, ◌∙◌, append_assoc}
use Rattle.std.specs.Prelude.{MatchResult}
use Rattle.std.specs.declared.result.Result.{Result}
use Rattle.std.proofs.lemmas.List.{append-nil}
use mathlib.Core.Option.{some}
use mathlib.Core.List.{IsPrefix}
use lib.ListN.{get_elem?}
use Rattle.crossbeam_utils.specs.Register.{Admits, TurnsAt, Forks, Merges}
use Rattle.atomic_table.proofs.Lists.{at_set, at_snoc}
use Rattle.gt_base.specs.declared.requests.Entry.{Entry}
use Rattle.published_copies.specs.declared.views.ReaderView.{ReaderView}
use Rattle.published_copies.specs.Copied.{Copied, joined}
use Rattle.published_copies.specs.Views.{blank, sight, Fits, AllFit, Shows, Sighted}

pub prefix_self : {A : Type 0} (xs : List A) → IsPrefix xs xs
prefix_self xs = ([], append-nil xs)

pub prefix_trans : {A : Type 0} (xs ys zs : List A) → IsPrefix xs ys → IsPrefix ys zs → IsPrefix xs zs
prefix_trans xs ys zs p q = (p.0 ++ q.0, sym (append_assoc xs p.0 q.0) ∙ (ap (λ w. w ++ q.0) p.1 ∙ q.1))

-- what is left of a list goes behind a beginning of it
pub rest_begins : {A : Type 0} (xs ys : List A) → IsPrefix xs ys → xs ++ drop (length xs) ys ≡ ys
rest_begins [] ys p = refl
rest_begins (x ∷ xs) [] p = absurd cc (p.1)
rest_begins (x ∷ xs) (y ∷ ys) p =
    let heads : x ≡ y = cc (p.1) in
    let tails : xs ++ p.0 ≡ ys = cc (p.1) in
    cc (heads, rest_begins xs ys (p.0, tails))

pub joined_more : (ess : List (List Entry)) (es : List Entry) → joined (ess ++ es ∷ []) ≡ joined ess ++ es
joined_more [] es = append-nil es
joined_more (xs ∷ ess) es = ap (λ (l : List Entry). xs ++ l) (joined_more ess es) ∙ sym (append_assoc xs (joined ess) es)

-- with it as one batch more all is sent
pub all_sent : (xs ys : List Entry) (ess ess' : List (List Entry)) (es : List Entry) (n : ℕ) → IsPrefix (xs ++ joined ess) ys → n ≡ length xs + length (joined ess) → es ≡ drop n ys → ess' ≡ ess ++ es ∷ [] → xs ++ joined ess' ≡ ys
all_sent xs ys ess ess' es n p long is more =
    ap (λ (l : List (List Entry)). xs ++ joined l) more ∙ ap (λ (l : List Entry). xs ++ l) (joined_more ess es) ∙ sym (append_assoc xs (joined ess) es)
    ∙ ap (λ (l : List Entry). (xs ++ joined ess) ++ l) (is ∙ ap (λ (k : ℕ). drop k ys) (long ∙ sym (length-append xs (joined ess)))) ∙ rest_begins (xs ++ joined ess) ys p

module _ {R : Type 0} where
  pub blank_fits : (root : R) (list : List Entry) → Fits root list blank
  blank_fits root list = record { root_is = λ r e. absurd cc; seen = (list, refl) }

  pub sight_fits : (root : R) (list : List Entry) → Fits root list (sight root list)
  sight_fits root list = record { root_is = λ r e. cc; seen = prefix_self list }

  pub fits_more : (root root' : R) (list list' : List Entry) (v : ReaderView R) → root' ≡ root → IsPrefix list list' → Fits root list v → Fits root' list' v
  fits_more root root' list list' v same more f =
      record { root_is = λ r e. f.root_is r e ∙ sym same; seen = prefix_trans v.seen list list' f.seen more }

  pub all_fit : (root : R) (list : List Entry) (views : List (ReaderView R)) (seat : ℕ) (w : ReaderView R) → AllFit root list views → Fits root list w → AllFit root list (set views seat w)
  all_fit root list views seat w h f j u e =
      ⊎_elim (λ (t : (j ≡ seat) × (w ≡ u)). subst (λ z. Fits root list z) t.1 f) (λ (t : (j ≢ seat) × (get_elem? views j ≡ some u)). h j u t.1) (at_set views seat j w u e)

  pub all_more : (root root' : R) (list list' : List Entry) (views : List (ReaderView R)) → root' ≡ root → IsPrefix list list' → AllFit root list views → AllFit root' list' views
  all_more root root' list list' views same more h j u e = fits_more root root' list list' u same more (h j u e)

  -- over what is published: whether it is sound, its root, and its entries
  module _ (T : Type 0) (Sound : T → Type 0) (root_of : T → R) (list_of : T → List Entry) where
    abbrev Rule : T → List (ReaderView R) → Type 0
    Rule p = Shows (Sound p) (root_of p) (list_of p)

    -- a step whose entries go on
    pub grows : (seat : ℕ) (v : ReaderView R) (x y : T) → root_of y ≡ root_of x → IsPrefix (list_of x) (list_of y) → (Sound x → Sound y)
        → TurnsAt Rule seat v x y (λ v x y w. Sighted (Sound y) (root_of x) (list_of x) (root_of y) (list_of y) v w)
    grows seat v x y same more sound views (ok, h) at = (
      sight (root_of y) (list_of y),
      (sound ok, all_fit (root_of y) (list_of y) views seat (sight (root_of y) (list_of y)) (all_more (root_of x) (root_of y) (list_of x) (list_of y) views same more h) (sight_fits (root_of y) (list_of y))),
      (h seat v at, refl, sound ok),
    )

    pub admits : Admits Rule blank
    admits x views (ok, h) = (
      ok,
      λ seat v at. ⊎_elim (h seat v) (λ (e : blank ≡ v). subst (λ z. Fits (root_of x) (list_of x) z) e (blank_fits (root_of x) (list_of x))) (at_snoc views blank v seat at),
    )

    pub forks : (seat : ℕ) (v : ReaderView R) → Forks Rule seat v v v
    forks seat v x views (ok, h) at = (
      ok,
      λ j u e.
          ⊎_elim (all_fit (root_of x) (list_of x) views seat v h (h seat v at) j u) (λ (same : v ≡ u). subst (λ z. Fits (root_of x) (list_of x) z) same (h seat v at)) (at_snoc (set views seat v) v u j e),
    )

    pub merges : (seat : ℕ) (v : ReaderView R) (other : ℕ) (w : ReaderView R) → Merges Rule seat v other w w blank
    merges seat v other w x views (ok, h) at apart there =
        let told : Fits (root_of x) (list_of x) w =
        ⊎_elim (λ (t : (other ≡ seat) × (w ≡ w)). absurd (apart t.0)) (λ (t : (other ≢ seat) × (get_elem? views other ≡ some w)). h other w t.1) (at_set views seat other w w there) in
        (ok, all_fit (root_of x) (list_of x) (set views seat w) other blank (all_fit (root_of x) (list_of x) views seat w h told) (blank_fits (root_of x) (list_of x)))

-- a publication loses no entry
pub none_lost : {R A E : Type 0} (k k' : Copied R) (r : Result A E) → MatchResult r (λ _. k' ≡ record { root = k.root; shown = k.shown ++ k.waiting; waiting = [] }) (λ _. k' ≡ k) → k'.shown ++ k'.waiting ≡ k.shown ++ k.waiting
none_lost k k' (Ok _) is = ap (λ (c : Copied _). c.shown ++ c.waiting) is ∙ append-nil (k.shown ++ k.waiting)
none_lost k k' (Err _) is = ap (λ (c : Copied _). c.shown ++ c.waiting) is

-- what is told of a state that entries were added to
module _ {S R : Type 0} (applied : S → List Entry → S) (root_of : S → R) (list_of : S → List Entry) (adds : (s : S) (es : List Entry) → (root_of (applied s es) ≡ root_of s) × (list_of (applied s es) ≡ list_of s ++ es)) where
  pub root_fold : (s : S) (ess : List (List Entry)) → root_of (fold applied s ess) ≡ root_of s
  root_fold s [] = refl
  root_fold s (es ∷ ess) = root_fold (applied s es) ess ∙ (adds s es).0

  pub list_fold : (s : S) (ess : List (List Entry)) → list_of (fold applied s ess) ≡ list_of s ++ joined ess
  list_fold s [] = sym (append-nil (list_of s))
  list_fold s (es ∷ ess) = list_fold (applied s es) ess ∙ ap (λ (l : List Entry). l ++ joined ess) (adds s es).1 ∙ append_assoc (list_of s) es (joined ess)

  -- the next state after these entries
  pub next_root : (s next : S) (ess : List (List Entry)) → next ≡ fold applied s ess → root_of next ≡ root_of s
  next_root s next ess is = ap root_of is ∙ root_fold s ess

  pub next_list : (s next : S) (ess : List (List Entry)) → next ≡ fold applied s ess → list_of next ≡ list_of s ++ joined ess
  next_list s next ess is = ap list_of is ∙ list_fold s ess

  -- it may be published
  pub may_show : {T : Type 0} (Sound : S → Type 0) (state_of : T → S) (seat : ℕ) (v : ReaderView R) (x y : T) (ess : List (List Entry)) → state_of y ≡ fold applied (state_of x) ess → (Sound (state_of x) → Sound (state_of y))
      → TurnsAt (λ (p : T). Shows (Sound (state_of p)) (root_of (state_of p)) (list_of (state_of p))) seat v x y
      (λ v x y w. Sighted (Sound (state_of y)) (root_of (state_of x)) (list_of (state_of x)) (root_of (state_of y)) (list_of (state_of y)) v w)
  may_show {T} Sound state_of seat v x y ess is sound =
      grows T (λ p. Sound (state_of p)) (λ p. root_of (state_of p)) (λ p. list_of (state_of p)) seat v x y (next_root (state_of x) (state_of y) ess is) (joined ess, sym (next_list (state_of x) (state_of y) ess is)) sound
