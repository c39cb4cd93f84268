-- What flags and words together stand for.
use Rattle.std.proofs.Common.{◌≡◌, ℕ, zero, suc, ◌+◌, ◌-◌, ◌*◌, ◌<◌, ◌≤◌, Bool, true, false, cond, not, ◌&&◌, ◌||◌, T, List, [], ◌∷◌, ◌++◌, length, map, flat_map, take, set, get_or, ◌⊎◌, inl, inr, Option, Some, None, IfSome, nat_lt, refl, sym, ◌∙◌, ap, subst, arith}
use Rattle.std.specs.List.{HoldsAt, AllWithin, list_any}
use Rattle.std.specs.Cmp.{both_ways, nat_cmp_is}
use Rattle.std.specs.List.Sorted.{IsNonDecreasingBy, IsPartitionPoint}
use Rattle.std.specs.Ordering.{eq_by_cmp, is_eq, ordering_index, ordering_then}
use Rattle.std.specs.declared.cmp.Ordering.{Ordering}
use Rattle.std.specs.declared.cmp.Ordering.TheVariants.{Less, Equal, Greater}
use Rattle.std.specs.FinMap.Entries.{below_all, is_sorted}
use Rattle.std.proofs.lemmas.Bool.{ltb-true, ltb-false}
use Rattle.std.proofs.lemmas.List.Folds.{list_any-append}
use Rattle.gt_base.specs.declared.events.Fluent.{Fluent}
use Rattle.gt_base.specs.declared.events.Fluent.TheVariants.{Granted}
use Rattle.gt_base.specs.declared.events.PermId.{PermId}
use Rattle.gt_base.specs.declared.events.RoleId.{RoleId}
use Rattle.gt_base.specs.declared.words.Row.{Row}
use Rattle.gt_base.specs.declared.words.Row.TheVariants.{Roles, UsersOf, PermsOf, Limits, Edges}
use Rattle.gt_base.specs.declared.words.FlagWord.{FlagWord}
use Rattle.gt_base.specs.Orders.{fluent_cmp}
use Rattle.gt_base.specs.Sets.{SetOf, none, has, members, set_of, with_member, without, pairs, Rises}
use Rattle.gt_base.specs.Words.{fluent_in, fluents_of, is_of_perms, set_of_words, AreWords}
use Rattle.gt_base.specs.Flags.{Flagged, flagged, is_among, is_lit, IsWith, IsWithout, AreApart, set_of_parts}
use Rattle.gt_base.proofs.Rising.{answers_rise, none_tie, left_of, right_of, below_at, turned}
use Rattle.gt_base.proofs.SetLaws.{eq_itself, has-none, has-set_of, has-members}
use Rattle.gt_base.proofs.SetSteps.{fluent_cmp_total}
use Rattle.gt_base.proofs.SetsAreSets.{fluents_are_sets}
use Rattle.gt_base.proofs.WordLaws.{any_flat_map, any_map, tie_of, or_false, or_assoc, or_swap}
use Rattle.gt_base.proofs.WordLists.{set_of_no_words}

-- no flag and no word, no fluent
pub set_of_no_parts : set_of_parts (record { known = []; on = [] }) [] ≡ none
unfolding set_of_parts
set_of_no_parts = refl

-- a fluent is in the set if it is lit or a word has it
pub has_parts : (s : Flagged) (ws : List FlagWord) (x : Fluent) → has (set_of_parts s ws) x ≡ (is_lit s x || has (set_of_words ws) x)
unfolding set_of_parts set_of_words
has_parts s ws x =
    has-set_of fluent_cmp_total (flagged s.known s.on ++ flat_map fluents_of ws) x
    ∙ list_any-append (eq_by_cmp fluent_cmp x) (flagged s.known s.on) (flat_map fluents_of ws)
    ∙ ap (λ b. is_lit s x || b) (sym (has-set_of fluent_cmp_total (flat_map fluents_of ws) x))

-- ---- a search in a rising list
less_by : (r : Ordering) → ordering_index r ≤ 0 → r ≡ Less
less_by Less h = refl
less_by Equal h = absurd (omega (arith, h))
less_by Greater h = absurd (omega (arith, h))

greater_by : (r : Ordering) → 2 ≤ ordering_index r → r ≡ Greater
greater_by Less h = absurd (omega (arith, h))
greater_by Equal h = absurd (omega (arith, h))
greater_by Greater h = refl

front_below : (ks : List Fluent) (f : Fluent) (p : ℕ) → Rises fluent_cmp ks → (p ≡ 0) ⊎ ((p - 1 < length ks) × HoldsAt (λ k. fluent_cmp k f ≡ Less) ks (p - 1))
    → AllWithin (λ k. fluent_cmp k f ≡ Less) ks 0 p
front_below ks f p h before j d low high =
    elim before [
      | inl e ↦ absurd (omega (arith, e, high))
      | inr t ↦ less_by _ (let last : ordering_index (fluent_cmp (get_or ks (p - 1) d) f) ≡ 0 = ap ordering_index (t.1 d) in omega (arith, last, answers_rise fluent_cmp_total f ks h j (p - 1) d (omega (arith, high)) t.0))
    ]

back_above : (ks : List Fluent) (f : Fluent) (p : ℕ) → Rises fluent_cmp ks → (p ≡ length ks) ⊎ ((p < length ks) × HoldsAt (λ k. fluent_cmp k f ≡ Greater) ks p)
    → AllWithin (λ k. fluent_cmp k f ≡ Greater) ks p (length ks)
back_above ks f p h after j d low high =
    elim after [
      | inl e ↦ absurd (omega (arith, e, low, high))
      | inr t ↦ greater_by _ (let first : ordering_index (fluent_cmp (get_or ks p d) f) ≡ 2 = ap ordering_index (t.1 d) in omega (arith, first, answers_rise fluent_cmp_total f ks h p j d low high))
    ]

-- what lies between two neighbours is not in the list
pub gap : (ks : List Fluent) (f : Fluent) (p : ℕ) → Rises fluent_cmp ks
    → (p ≡ 0) ⊎ ((p - 1 < length ks) × HoldsAt (λ k. fluent_cmp k f ≡ Less) ks (p - 1))
    → (p ≡ length ks) ⊎ ((p < length ks) × HoldsAt (λ k. fluent_cmp k f ≡ Greater) ks p)
    → is_among ks f ≡ false
gap ks f p h before after =
    none_tie fluent_cmp_total f ks p (elim after [ inl e ↦ omega (arith, e) | inr t ↦ omega (arith, t.0) ]) (front_below ks f p h before) (back_above ks f p h after)

-- a search by halves that ends between two items
pub not_there : (ks : List Fluent) (f : Fluent) (p : ℕ) → Rises fluent_cmp ks → p ≤ length ks → IsPartitionPoint (λ k. fluent_cmp k f ≡ Less) (λ k. fluent_cmp k f ≡ Greater) ks p → is_among ks f ≡ false
not_there ks f p h within parts = none_tie fluent_cmp_total f ks p within parts.0 parts.1

-- the answers of such a search do not fall
pub answers : (ks : List Fluent) (f : Fluent) → Rises fluent_cmp ks → IsNonDecreasingBy (λ k. ordering_index (fluent_cmp k f)) ks
answers ks f h = answers_rise fluent_cmp_total f ks h

-- ---- flags
-- a fluent below all of a list is not among those of it that are lit
below_lit : (k : Fluent) (ks : List Fluent) (bs : List Bool) → T (below_all fluent_cmp k (pairs ks)) → is_among (flagged ks bs) k ≡ false
below_lit k [] bs h = refl
below_lit k (y ∷ ys) [] h = refl
below_lit k (y ∷ ys) (true ∷ bs) h =
    ap (λ r. is_eq r || is_among (flagged ys bs) k) (below_at fluent_cmp_total k (y ∷ ys) h 0 y (omega arith)) ∙ below_lit k ys bs (right_of _ _ h)
below_lit k (y ∷ ys) (false ∷ bs) h = below_lit k ys bs (right_of _ _ h)

-- the head of a list is below what stands further on
below_later : (k f : Fluent) (ks : List Fluent) (i : ℕ) → T (below_all fluent_cmp k (pairs ks)) → i < length ks → HoldsAt (λ y. y ≡ f) ks i → fluent_cmp f k ≡ Greater
below_later k f ks i h lt at =
    subst (λ y. fluent_cmp y k ≡ Greater) (at k) (turned fluent_cmp_total k (get_or ks i k) Less (below_at fluent_cmp_total k ks h i k lt))

itself : (f : Fluent) → eq_by_cmp fluent_cmp f f ≡ true
itself f = eq_itself fluent_cmp_total f

-- whether a known fluent is lit is told by its flag
pub lit_at : (ks : List Fluent) (bs : List Bool) (f : Fluent) (i : ℕ) (d : Bool) → Rises fluent_cmp ks → length bs ≡ length ks → i < length ks → HoldsAt (λ k. k ≡ f) ks i
    → is_among (flagged ks bs) f ≡ get_or bs i d
lit_at [] bs f i d h n lt at = absurd (omega (arith, lt))
lit_at (k ∷ ks) [] f i d h n lt at = absurd (omega (arith, n))
lit_at (k ∷ ks) (true ∷ bs) f zero d h n lt at = ap (λ b. b || is_among (flagged ks bs) f) (subst (λ y. eq_by_cmp fluent_cmp f y ≡ true) (sym (at k)) (itself f))
lit_at (k ∷ ks) (false ∷ bs) f zero d h n lt at = subst (λ y. is_among (flagged ks bs) y ≡ false) (at k) (below_lit k ks bs (left_of _ _ h))
lit_at (k ∷ ks) (true ∷ bs) f (suc i) d h n lt at =
    ap (λ r. is_eq r || is_among (flagged ks bs) f) (below_later k f ks i (left_of _ _ h) (omega (arith, lt)) (λ e. at e))
    ∙ lit_at ks bs f i d (right_of _ _ h) (omega (arith, n)) (omega (arith, lt)) (λ e. at e)
lit_at (k ∷ ks) (false ∷ bs) f (suc i) d h n lt at = lit_at ks bs f i d (right_of _ _ h) (omega (arith, n)) (omega (arith, lt)) (λ e. at e)

first_off : (a b : Bool) → (a || b) ≡ false → a ≡ false
first_off true b e = cc
first_off false b e = refl

second_off : (a b : Bool) → (a || b) ≡ false → b ≡ false
second_off true b e = cc
second_off false b e = e

both_off : (a b : Bool) → a ≡ false → b ≡ false → (a || b) ≡ false
both_off a b p q = (λ i. p i || b) ∙ q

-- a fluent that is not known is not lit
pub lit_of_known : (ks : List Fluent) (bs : List Bool) (f : Fluent) → is_among ks f ≡ false → is_among (flagged ks bs) f ≡ false
lit_of_known [] bs f e = refl
lit_of_known (k ∷ ks) [] f e = refl
lit_of_known (k ∷ ks) (true ∷ bs) f e = both_off _ _ (first_off _ _ e) (lit_of_known ks bs f (second_off _ _ e))
lit_of_known (k ∷ ks) (false ∷ bs) f e = lit_of_known ks bs f (second_off (eq_by_cmp fluent_cmp f k) _ e)

twice : (a b : Bool) → (a || b) ≡ (a || (a || b))
twice true b = refl
twice false b = refl

-- a flag that is set lights its fluent too
pub lit_with : (ks : List Fluent) (bs : List Bool) (f : Fluent) (i : ℕ) (x : Fluent) → length bs ≡ length ks → i < length ks → HoldsAt (λ k. k ≡ f) ks i
    → is_among (flagged ks (set bs i true)) x ≡ (eq_by_cmp fluent_cmp x f || is_among (flagged ks bs) x)
lit_with [] bs f i x n lt at = absurd (omega (arith, lt))
lit_with (k ∷ ks) [] f i x n lt at = absurd (omega (arith, n))
lit_with (k ∷ ks) (true ∷ bs) f zero x n lt at =
    twice (eq_by_cmp fluent_cmp x k) (is_among (flagged ks bs) x) ∙ ap (λ y. eq_by_cmp fluent_cmp x y || (eq_by_cmp fluent_cmp x k || is_among (flagged ks bs) x)) (at k)
lit_with (k ∷ ks) (false ∷ bs) f zero x n lt at = ap (λ y. eq_by_cmp fluent_cmp x y || is_among (flagged ks bs) x) (at k)
lit_with (k ∷ ks) (true ∷ bs) f (suc i) x n lt at =
    ap (λ c. eq_by_cmp fluent_cmp x k || c) (lit_with ks bs f i x (omega (arith, n)) (omega (arith, lt)) (λ e. at e))
    ∙ or_swap (eq_by_cmp fluent_cmp x k) (eq_by_cmp fluent_cmp x f) (is_among (flagged ks bs) x)
lit_with (k ∷ ks) (false ∷ bs) f (suc i) x n lt at = lit_with ks bs f i x (omega (arith, n)) (omega (arith, lt)) (λ e. at e)

-- what is off where the test holds stays as it is without it
spared : (a e : Bool) → (e ≡ true → a ≡ false) → a ≡ (a && not e)
spared true true h = h refl
spared true false h = refl
spared false e h = refl

-- and what the test does not hold of stays on
kept_beside : (c a e : Bool) → (c ≡ true → e ≡ false) → (c || (a && not e)) ≡ ((c || a) && not e)
kept_beside true a true h = h refl
kept_beside true a false h = refl
kept_beside false a e h = refl

taken : (a e : Bool) → (a && not e) ≡ ((e || a) && not e)
taken true true = refl
taken true false = refl
taken false true = refl
taken false false = refl

about : (x y : Fluent) → eq_by_cmp fluent_cmp x y ≡ eq_by_cmp fluent_cmp y x
about x y =
    both_ways _ _ (λ e. subst (λ z. eq_by_cmp fluent_cmp z x ≡ true) (tie_of x y e) (itself x)) (λ e. subst (λ z. eq_by_cmp fluent_cmp z y ≡ true) (tie_of y x e) (itself y))

-- a flag that is cleared puts its fluent out
pub lit_without : (ks : List Fluent) (bs : List Bool) (f : Fluent) (i : ℕ) (x : Fluent) → Rises fluent_cmp ks → length bs ≡ length ks → i < length ks → HoldsAt (λ k. k ≡ f) ks i
    → is_among (flagged ks (set bs i false)) x ≡ (is_among (flagged ks bs) x && not (eq_by_cmp fluent_cmp f x))
lit_without [] bs f i x h n lt at = absurd (omega (arith, lt))
lit_without (k ∷ ks) [] f i x h n lt at = absurd (omega (arith, n))
lit_without (k ∷ ks) (b ∷ bs) f zero x h n lt at =
    spared (is_among (flagged ks bs) x) (eq_by_cmp fluent_cmp f x)
    (λ e. subst (λ y. is_among (flagged ks bs) y ≡ false) (at k ∙ tie_of f x e) (below_lit k ks bs (left_of _ _ h)))
    ∙ elim b as (λ b. (is_among (flagged ks bs) x && not (eq_by_cmp fluent_cmp f x)) ≡ (is_among (flagged (k ∷ ks) (b ∷ bs)) x && not (eq_by_cmp fluent_cmp f x))) [
      | true ↦ taken (is_among (flagged ks bs) x) (eq_by_cmp fluent_cmp f x)
          ∙ ap (λ c. (c || is_among (flagged ks bs) x) && not (eq_by_cmp fluent_cmp f x)) (about f x ∙ ap (eq_by_cmp fluent_cmp x) (sym (at k)))
      | false ↦ refl
    ]
lit_without (k ∷ ks) (true ∷ bs) f (suc i) x h n lt at =
    ap (λ c. eq_by_cmp fluent_cmp x k || c) (lit_without ks bs f i x (right_of _ _ h) (omega (arith, n)) (omega (arith, lt)) (λ e. at e))
    ∙ kept_beside (eq_by_cmp fluent_cmp x k) (is_among (flagged ks bs) x) (eq_by_cmp fluent_cmp f x)
    (λ e. subst (λ y. eq_by_cmp fluent_cmp f y ≡ false) (sym (tie_of x k e)) (ap is_eq (below_later k f ks i (left_of _ _ h) (omega (arith, lt)) (λ e. at e))))
lit_without (k ∷ ks) (false ∷ bs) f (suc i) x h n lt at = lit_without ks bs f i x (right_of _ _ h) (omega (arith, n)) (omega (arith, lt)) (λ e. at e)

-- a fluent that is not known is not put out
pub without_unknown : (s : Flagged) (f : Fluent) → is_among s.known f ≡ false → IsWithout f s s
without_unknown s f e x =
    spared (is_lit s x) (eq_by_cmp fluent_cmp f x) (λ tie. subst (λ y. is_among (flagged s.known s.on) y ≡ false) (tie_of f x tie) (lit_of_known s.known s.on f e))

-- ---- flags and words
module _ (s new : Flagged) (ws words : List FlagWord) (f : Fluent) where
  pub flag_on : IsWith f s new → set_of_parts new ws ≡ with_member (set_of_parts s ws) f
  flag_on h =
      fluents_are_sets.same _ _ (λ x.
      has_parts new ws x ∙ ap (λ b. b || has (set_of_words ws) x) (h x) ∙ or_assoc (eq_by_cmp fluent_cmp x f) (is_lit s x) (has (set_of_words ws) x)
      ∙ ap (λ b. eq_by_cmp fluent_cmp x f || b) (sym (has_parts s ws x)) ∙ sym (fluents_are_sets.added (set_of_parts s ws) f x))

  pub word_on : set_of_words words ≡ with_member (set_of_words ws) f → set_of_parts s words ≡ with_member (set_of_parts s ws) f
  word_on h =
      fluents_are_sets.same _ _ (λ x.
      has_parts s words x ∙ ap (λ t. is_lit s x || has t x) h ∙ ap (λ b. is_lit s x || b) (fluents_are_sets.added (set_of_words ws) f x)
      ∙ or_swap (is_lit s x) (eq_by_cmp fluent_cmp x f) (has (set_of_words ws) x)
      ∙ ap (λ b. eq_by_cmp fluent_cmp x f || b) (sym (has_parts s ws x)) ∙ sym (fluents_are_sets.added (set_of_parts s ws) f x))

  pub both_off_now : IsWithout f s new → set_of_words words ≡ without (set_of_words ws) f → set_of_parts new words ≡ without (set_of_parts s ws) f
  both_off_now h e =
      fluents_are_sets.same _ _ (λ x.
      has_parts new words x ∙ (λ i. h x i || has (e i) x) ∙ ap (λ b. (is_lit s x && not (eq_by_cmp fluent_cmp f x)) || b) (fluents_are_sets.taken_out (set_of_words ws) f x)
      ∙ shared (is_lit s x) (has (set_of_words ws) x) (not (eq_by_cmp fluent_cmp f x))
      ∙ ap (λ b. b && not (eq_by_cmp fluent_cmp f x)) (sym (has_parts s ws x)) ∙ sym (fluents_are_sets.taken_out (set_of_parts s ws) f x))
    where
      shared : (a b c : Bool) → ((a && c) || (b && c)) ≡ ((a || b) && c)
      shared true true true = refl
      shared true true false = refl
      shared true false true = refl
      shared true false false = refl
      shared false b c = refl

-- ---- all in flags
-- what a list's members have for flags lights those that pass
flagged_map : (p : Fluent → Bool) (ks : List Fluent) (x : Fluent) → is_among (flagged ks (map p ks)) x ≡ (is_among ks x && p x)
flagged_map p [] x = refl
flagged_map p (k ∷ ks) x =
    elim (p k) as (λ b. p k ≡ b → is_among (cond b (k ∷ flagged ks (map p ks)) (flagged ks (map p ks))) x ≡ ((eq_by_cmp fluent_cmp x k || is_among ks x) && p x)) [
      | true ↦ λ e. ap (λ b. eq_by_cmp fluent_cmp x k || b) (flagged_map p ks x) ∙ there (eq_by_cmp fluent_cmp x k) (is_among ks x) (p x) (λ tie. ap p (tie_of x k tie) ∙ e)
      | false ↦ λ e. flagged_map p ks x ∙ elsewhere (eq_by_cmp fluent_cmp x k) (is_among ks x) (p x) (λ tie. ap p (tie_of x k tie) ∙ e)
    ] refl
  where
    there : (a b c : Bool) → (a ≡ true → c ≡ true) → (a || (b && c)) ≡ ((a || b) && c)
    there true b c h = sym (h refl)
    there false b c h = refl

    elsewhere : (a b c : Bool) → (a ≡ true → c ≡ false) → (b && c) ≡ ((a || b) && c)
    elsewhere true true true h = refl
    elsewhere true true false h = refl
    elsewhere true false c h = sym (h refl)
    elsewhere false b c h = refl

pub all_lit : (s : Flagged) (ws : List FlagWord) (ks : List Fluent) (bs : List Bool) → ks ≡ members (set_of {R = fluent_cmp} (s.known ++ flat_map fluents_of ws))
    → bs ≡ map (has (set_of_parts s ws)) ks → set_of_parts (record { known = ks; on = bs }) [] ≡ set_of_parts s ws
unfolding set_of_words
all_lit s ws ks bs all on =
    fluents_are_sets.same _ _ (λ x.
    has_parts (record { known = ks; on = bs }) [] x ∙ ap (λ t. is_among (flagged ks bs) x || has t x) set_of_no_words ∙ ap (λ b. is_among (flagged ks bs) x || b) (has-none fluent_cmp x)
    ∙ or_false (is_among (flagged ks bs) x) ∙ ap (λ bs. is_among (flagged ks bs) x) on ∙ flagged_map (has (set_of_parts s ws)) ks x
    ∙ only (is_among ks x) (has (set_of_parts s ws) x) (λ e. has_parts s ws x ∙ none_there x (sym (among x) ∙ e)))
  where
    only : (a b : Bool) → (a ≡ false → b ≡ false) → (a && b) ≡ b
    only true b h = refl
    only false b h = sym (h refl)

    among : (x : Fluent) → is_among ks x ≡ (is_among s.known x || is_among (flat_map fluents_of ws) x)
    among x =
        ap (λ ks. is_among ks x) all ∙ sym (has-members (set_of (s.known ++ flat_map fluents_of ws)) x) ∙ has-set_of fluent_cmp_total (s.known ++ flat_map fluents_of ws) x
        ∙ list_any-append (eq_by_cmp fluent_cmp x) s.known (flat_map fluents_of ws)

    none_there : (x : Fluent) → (is_among s.known x || is_among (flat_map fluents_of ws) x) ≡ false → (is_lit s x || has (set_of_words ws) x) ≡ false
    none_there x e =
        both_off _ _ (lit_of_known s.known s.on x (first_off _ _ e)) (has-set_of fluent_cmp_total (flat_map fluents_of ws) x ∙ second_off (is_among s.known x) _ e)

-- the members of a set rise
pub members_rise : (s : SetOf fluent_cmp) → Rises fluent_cmp (members s)
unfolding members
members_rise s = subst (λ es. T (is_sorted fluent_cmp es)) (sym (again s.entries)) s.ascending
  where
    again : (es : List (Fluent × Unit {0})) → pairs (map (λ e. e.0) es) ≡ es
    again [] = refl
    again (e ∷ es) = ap (λ xs. e ∷ xs) (again es)

-- those of a longer front that are lit
lit_next : (ks : List Fluent) (bs : List Bool) (i : ℕ) (d : Fluent) (e : Bool) → i < length ks → i < length bs
    → flagged (take (suc i) ks) (take (suc i) bs) ≡ flagged (take i ks) (take i bs) ++ cond (get_or bs i e) (get_or ks i d ∷ []) []
lit_next [] bs i d e lt ltb = absurd (omega (arith, lt))
lit_next (k ∷ ks) [] i d e lt ltb = absurd (omega (arith, ltb))
lit_next (k ∷ ks) (true ∷ bs) zero d e lt ltb = refl
lit_next (k ∷ ks) (false ∷ bs) zero d e lt ltb = refl
lit_next (k ∷ ks) (true ∷ bs) (suc i) d e lt ltb = ap (λ xs. k ∷ xs) (lit_next ks bs i d e (omega (arith, lt)) (omega (arith, ltb)))
lit_next (k ∷ ks) (false ∷ bs) (suc i) d e lt ltb = lit_next ks bs i d e (omega (arith, lt)) (omega (arith, ltb))

pub lit_more : (ks : List Fluent) (bs : List Bool) (i : ℕ) (d : Fluent) (e : Bool) → i < length ks → i < length bs
    → flagged (take (i + 1) ks) (take (i + 1) bs) ≡ flagged (take i ks) (take i bs) ++ cond (get_or bs i e) (get_or ks i d ∷ []) []
lit_more ks bs i d e lt ltb =
    let next : i + 1 ≡ suc i = omega arith in
    ap (λ n. flagged (take n ks) (take n bs)) next ∙ lit_next ks bs i d e lt ltb

-- a fluent at a place of the list is among it
pub among_at : (ks : List Fluent) (f : Fluent) (i : ℕ) → i < length ks → HoldsAt (λ k. k ≡ f) ks i → is_among ks f ≡ true
among_at [] f i lt at = absurd (omega (arith, lt))
among_at (k ∷ ks) f zero lt at = ap (λ b. b || is_among ks f) (subst (λ y. eq_by_cmp fluent_cmp f y ≡ true) (sym (at k)) (itself f))
among_at (k ∷ ks) f (suc i) lt at = or_yes (eq_by_cmp fluent_cmp f k) _ (among_at ks f i (omega (arith, lt)) (λ e. at e))
  where
    or_yes : (a b : Bool) → b ≡ true → (a || b) ≡ true
    or_yes true b e = refl
    or_yes false b e = e

-- ---- flags apart from words
pub apart_from_none : (s : Flagged) → AreApart s []
apart_from_none s x there = ap (λ t. has t x) set_of_no_words ∙ has-none fluent_cmp x

-- no words, and so none that is apart
pub none_apart : (s : Flagged) (ws : List FlagWord) → ws ≡ [] → AreWords ws × AreApart s ws
none_apart s ws e = subst (λ ws. AreWords ws × AreApart s ws) (sym e) (record { rising = tt; within = λ i d lt. absurd (omega (arith, lt)) }, apart_from_none s)

pub apart_still : (s new : Flagged) (ws : List FlagWord) → new.known ≡ s.known → AreApart s ws → AreApart new ws
apart_still s new ws same h x there = h x (sym (ap (λ ks. is_among ks x) same) ∙ there)

module _ (s : Flagged) (ws words : List FlagWord) (f : Fluent) (h : AreApart s ws) where
  pub apart_on : is_among s.known f ≡ false → set_of_words words ≡ with_member (set_of_words ws) f → AreApart s words
  apart_on absent e x there =
      ap (λ t. has t x) e ∙ fluents_are_sets.added (set_of_words ws) f x
      ∙ both_off _ _ (other (eq_by_cmp fluent_cmp x f) (λ tie. sym there ∙ ap (is_among s.known) (tie_of x f tie) ∙ absent)) (h x there)
    where
      other : (b : Bool) → (b ≡ true → true ≡ false) → b ≡ false
      other true g = g refl
      other false g = refl

  pub apart_off : set_of_words words ≡ without (set_of_words ws) f → AreApart s words
  apart_off e x there = ap (λ t. has t x) e ∙ fluents_are_sets.taken_out (set_of_words ws) f x ∙ ap (λ b. b && not (eq_by_cmp fluent_cmp f x)) (h x there)

  -- a fluent that has a flag is in no word, and so none is taken out
  pub apart_stays : is_among s.known f ≡ true → set_of_words ws ≡ without (set_of_words ws) f
  apart_stays there =
      fluents_are_sets.same _ _ (λ x.
      spared (has (set_of_words ws) x) (eq_by_cmp fluent_cmp f x) (λ tie. subst (λ y. has (set_of_words ws) y ≡ false) (tie_of f x tie) (h f there))
      ∙ sym (fluents_are_sets.taken_out (set_of_words ws) f x))

-- ---- a permission that is granted to one role alone
granted_above : (perm : PermId) (r role : RoleId) → r.0 < role.0 → fluent_cmp (Granted perm role) (Granted perm r) ≡ Greater
granted_above perm r role lt = λ i. ordering_then (sym (nat_cmp_is perm.0 perm.0 Equal refl) i) (sym (nat_cmp_is role.0 r.0 Greater lt) i)

granted_below : (perm : PermId) (r role : RoleId) → role.0 < r.0 → fluent_cmp (Granted perm role) (Granted perm r) ≡ Less
granted_below perm r role lt = λ i. ordering_then (sym (nat_cmp_is perm.0 perm.0 Equal refl) i) (sym (nat_cmp_is role.0 r.0 Less lt) i)

-- where a known fluent grants it, and its neighbours are no such fluents, no other known one does
pub only_grant : (ks : List Fluent) (perm : PermId) (role : RoleId) (p : ℕ) → Rises fluent_cmp ks → p < length ks → HoldsAt (λ k. k ≡ Granted perm role) ks p
    → (p ≡ 0) ⊎ ((p - 1 < length ks) × HoldsAt (λ k. (r : RoleId) → fluent_cmp k (Granted perm r) ≡ Less) ks (p - 1))
    → (p + 1 ≡ length ks) ⊎ ((p + 1 < length ks) × HoldsAt (λ k. (r : RoleId) → fluent_cmp k (Granted perm r) ≡ Greater) ks (p + 1))
    → (r : RoleId) → is_among ks (Granted perm r) ≡ true → r ≡ role
only_grant ks perm role p h lt at before after r there = by (nat_lt r.0 role.0) refl (nat_lt role.0 r.0) refl
  where
    f : Fluent
    f = Granted perm r

    front : (p ≡ 0) ⊎ ((p - 1 < length ks) × HoldsAt (λ k. fluent_cmp k f ≡ Less) ks (p - 1))
    front = elim before [ inl e ↦ inl e | inr t ↦ inr (t.0, λ d. t.1 d r) ]

    back : (p + 1 ≡ length ks) ⊎ ((p + 1 < length ks) × HoldsAt (λ k. fluent_cmp k f ≡ Greater) ks (p + 1))
    back = elim after [ inl e ↦ inl e | inr t ↦ inr (t.0, λ d. t.1 d r) ]

    same : p + 1 - 1 ≡ p
    same = omega arith

    none_of : is_among ks f ≡ false → r ≡ role
    none_of e = let clash : true ≡ false = sym there ∙ e in cc

    by : (a : Bool) → nat_lt r.0 role.0 ≡ a → (b : Bool) → nat_lt role.0 r.0 ≡ b → r ≡ role
    by true x b y = none_of (gap ks f p h front (inr (lt, λ d. subst (λ k. fluent_cmp k f ≡ Greater) (sym (at d)) (granted_above perm r role (ltb-true r.0 role.0 x)))))
    by false x true y =
        none_of (gap ks f (p + 1) h
        (inr (subst (λ n. (n < length ks) × HoldsAt (λ k. fluent_cmp k f ≡ Less) ks n) (sym same)
        (lt, λ d. subst (λ k. fluent_cmp k f ≡ Less) (sym (at d)) (granted_below perm r role (ltb-true role.0 r.0 y))))) back)
    by false x false y = let e : r.0 ≡ role.0 = omega (arith, ltb-false r.0 role.0 x, ltb-false role.0 r.0 y) in λ i. record { 0 = e i }

-- words of other rows grant nothing
other_row : (p : PermId) (r : RoleId) (row : Row) (n : ℕ) → is_of_perms row ≡ false → eq_by_cmp fluent_cmp (Granted p r) (fluent_in row n) ≡ false
other_row p r Roles n e = refl
other_row p r (UsersOf u) n e = refl
other_row p r (PermsOf q) n e = cc
other_row p r Limits n e = refl
other_row p r Edges n e = refl

other_word : (p : PermId) (r : RoleId) (w : FlagWord) → is_of_perms w.place.row ≡ false → list_any (eq_by_cmp fluent_cmp (Granted p r)) (fluents_of w) ≡ false
unfolding fluents_of
other_word p r w e = any_map (eq_by_cmp fluent_cmp (Granted p r)) (λ b. fluent_in w.place.row (w.place.below * 64 + b)) _ ∙ all _
  where
    all : (bs : List ℕ) → list_any (λ b. eq_by_cmp fluent_cmp (Granted p r) (fluent_in w.place.row (w.place.below * 64 + b))) bs ≡ false
    all [] = refl
    all (b ∷ bs) = both_off _ _ (other_row p r w.place.row (w.place.below * 64 + b) e) (all bs)

pub no_grants : (p : PermId) (r : RoleId) (ws : List FlagWord) → list_any (λ w. is_of_perms w.place.row) ws ≡ false → has (set_of_words ws) (Granted p r) ≡ false
unfolding set_of_words
no_grants p r ws e = has-set_of fluent_cmp_total (flat_map fluents_of ws) (Granted p r) ∙ any_flat_map (eq_by_cmp fluent_cmp (Granted p r)) fluents_of ws ∙ each ws e
  where
    each : (xs : List FlagWord) → list_any (λ w. is_of_perms w.place.row) xs ≡ false → list_any (λ w. list_any (eq_by_cmp fluent_cmp (Granted p r)) (fluents_of w)) xs ≡ false
    each [] h = refl
    each (w ∷ xs) h = both_off _ _ (other_word p r w (first_off _ _ h)) (each xs (second_off (is_of_perms w.place.row) _ h))

-- what is on and in no word is known
pub has_lit : (s : Flagged) (ws : List FlagWord) (f : Fluent) → AreApart s ws → is_among s.known f ≡ true → is_lit s f ≡ has (set_of_parts s ws) f
has_lit s ws f apart known = sym (or_false (is_lit s f)) ∙ ap (λ b. is_lit s f || b) (sym (apart f known)) ∙ sym (has_parts s ws f)

pub known_but_for_words : (s : Flagged) (ws : List FlagWord) (f : Fluent) → has (set_of_words ws) f ≡ false → has (set_of_parts s ws) f ≡ true → is_among s.known f ≡ true
known_but_for_words s ws f none on = by (is_among s.known f) refl
  where
    by : (b : Bool) → is_among s.known f ≡ b → is_among s.known f ≡ true
    by true e = e
    by false e =
        let off : has (set_of_parts s ws) f ≡ false = has_parts s ws f ∙ both_off _ _ (lit_of_known s.known s.on f e) none in
        let clash : true ≡ false = sym on ∙ off in cc

pub off_of : (b : Bool) → not b ≡ true → b ≡ false
off_of true e = cc
off_of false e = refl

pub some_so : {A : Type 0} {P Q R : A → Type 0} (o : Option A) → ((a : A) → P a → Q a → R a) → IfSome o P → IfSome o Q → IfSome o R
some_so None f x y = x
some_so (Some a) f x y = f a x y
