-- The sides of a table of fluents, with none set and with one event more.
use Rattle.std.proofs.Common.{◌≡◌, ℕ, zero, suc, ◌<◌, Bool, true, false, cond, nat_lt, List, [], ◌∷◌, length, replicate, slice_get, slice_set, Option, Some, None, refl, sym, ◌∙◌, ap, subst, arith, if◌then◌else◌}
use Rattle.std.proofs.lemmas.Bool.{false≢true, ltb-true}
use Rattle.std.proofs.lemmas.List.{length-set}
use Rattle.gt_base.specs.declared.events.Event.{Event}
use Rattle.gt_base.specs.declared.events.Fluent.{Fluent}
use Rattle.gt_base.specs.declared.events.Fluent.TheVariants.{Enabled, Assigned, Granted, Limit, Edge}
use Rattle.gt_base.specs.Orders.{fluent_eq}
use Rattle.gt_base.specs.contracts.events.FluentEq.TheImpl.Laws.{laws-law}
use Rattle.gtrbac_model.specs.Same.{same_event}
use Rattle.gtrbac_model.proofs.Elements.{split}
use Rattle.priority_conflict.proofs.WhoLeads.{one_fluent}
use Rattle.why_check.specs.Peaks.{peak_with, peak_in, role_place, side, sides_at, sides_with}
use Rattle.why_check.specs.declared.sides.Sides.{Sides}
use Rattle.why_check.proofs.Peaking.{peak_more}

some_same : {A : Type 0} (a b : A) → Some a ≡ Some b → a ≡ b
some_same a b h = cc

none_some : {A : Type 0} (a : A) → None ≡ Some a → ⊥
none_some a h = cc

-- what is read of a row that was written
get_there : {A : Type 0} (xs : List A) (n : ℕ) (v : A) → n < length xs → slice_get (slice_set xs n v) n ≡ Some v
get_there [] n v h = absurd (omega arith)
get_there (x ∷ xs) zero v h = refl
get_there (x ∷ xs) (suc n) v h = get_there xs n v (omega arith)

get_apart : {A : Type 0} (xs : List A) (n m : ℕ) (v : A) → (m ≡ n → ⊥) → slice_get (slice_set xs n v) m ≡ slice_get xs m
get_apart [] n m v h = refl
get_apart (x ∷ xs) zero zero v h = absurd (h refl)
get_apart (x ∷ xs) zero (suc m) v h = refl
get_apart (x ∷ xs) (suc n) zero v h = refl
get_apart (x ∷ xs) (suc n) (suc m) v h = get_apart xs n m v (λ e. h (ap suc e))

-- one fluent stands at a place
place_is : (many : ℕ) (f : Fluent) (n : ℕ) → role_place many f ≡ Some n → f ≡ Enabled (record { 0 = n })
place_is many (Enabled r) n h =
    split (nat_lt r.0 many)
    (λ t.
    let is : r.0 ≡ n = some_same r.0 n (sym (λ i. if t i then Some r.0 else None) ∙ h) in
    λ i. Enabled (record { 0 = is i }))
    (λ f. absurd (none_some n (sym (λ i. if f i then Some r.0 else None) ∙ h)))
place_is many (Assigned u r) n h = absurd (none_some n h)
place_is many (Granted p r) n h = absurd (none_some n h)
place_is many (Limit l) n h = absurd (none_some n h)
place_is many (Edge k) n h = absurd (none_some n h)

place_within : (many : ℕ) (f : Fluent) (n : ℕ) → role_place many f ≡ Some n → n < many
place_within many (Enabled r) n h =
    split (nat_lt r.0 many)
    (λ t. subst (λ k. k < many) (some_same r.0 n (sym (λ i. if t i then Some r.0 else None) ∙ h)) (ltb-true r.0 many t))
    (λ f. absurd (none_some n (sym (λ i. if f i then Some r.0 else None) ∙ h)))
place_within many (Assigned u r) n h = absurd (none_some n h)
place_within many (Granted p r) n h = absurd (none_some n h)
place_within many (Limit l) n h = absurd (none_some n h)
place_within many (Edge k) n h = absurd (none_some n h)

apart : (d f : Fluent) → fluent_eq d f ≡ false → d ≡ f → ⊥
apart d f u same = false≢true (sym u ∙ ap (fluent_eq d) (sym same) ∙ laws-law.refl d)

-- one event more at a place of the row
pub role_noted : (row row' : List Sides) (beside : Fluent → Option Sides) (d : Fluent) (n : ℕ) (v : Sides) → role_place (length row) d ≡ Some n → row' ≡ slice_set row n v
    → (f : Fluent) → sides_at row' (beside f) (role_place (length row') f) ≡ cond (fluent_eq d f) (Some v) (sides_at row (beside f) (role_place (length row) f))
role_noted row row' beside d n v here is f =
    ap (λ r. sides_at r (beside f) (role_place (length r) f)) is
    ∙ ap (λ l. sides_at (slice_set row n v) (beside f) (role_place l f)) (length-set row n v)
    ∙ split (fluent_eq d f)
    (λ t.
    ap (sides_at (slice_set row n v) (beside f)) (ap (role_place (length row)) (sym (one_fluent d f t)) ∙ here)
    ∙ get_there row n v (place_within (length row) d n here)
    ∙ sym (ap (λ b. cond b (Some v) (sides_at row (beside f) (role_place (length row) f))) t))
    (λ u. by u (role_place (length row) f) refl ∙ sym (ap (λ b. cond b (Some v) (sides_at row (beside f) (role_place (length row) f))) u))
  where
    by : fluent_eq d f ≡ false → (o : Option ℕ) → role_place (length row) f ≡ o → sides_at (slice_set row n v) (beside f) o ≡ sides_at row (beside f) o
    by u None h = refl
    by u (Some m) h =
        get_apart row n m v
        (λ e. apart d f u (place_is (length row) d n here ∙ sym (place_is (length row) f n (h ∙ ap (λ k. Some k) e))))

-- one event more beside the row
pub other_noted : (row : List Sides) (old new : Fluent → Option Sides) (d : Fluent) (v : Sides) → role_place (length row) d ≡ None → ((f : Fluent) → new f ≡ cond (fluent_eq d f) (Some v) (old f))
    → (f : Fluent) → sides_at row (new f) (role_place (length row) f) ≡ cond (fluent_eq d f) (Some v) (sides_at row (old f) (role_place (length row) f))
other_noted row old new d v nowhere is f =
    split (fluent_eq d f)
    (λ t.
    ap (sides_at row (new f)) (ap (role_place (length row)) (sym (one_fluent d f t)) ∙ nowhere)
    ∙ is f
    ∙ ap (λ b. cond b (Some v) (old f)) t
    ∙ sym (ap (λ b. cond b (Some v) (sides_at row (old f) (role_place (length row) f))) t))
    (λ u. by u (role_place (length row) f) ∙ sym (ap (λ b. cond b (Some v) (sides_at row (old f) (role_place (length row) f))) u))
  where
    by : fluent_eq d f ≡ false → (o : Option ℕ) → sides_at row (new f) o ≡ sides_at row (old f) o
    by u None = is f ∙ ap (λ b. cond b (Some v) (old f)) u
    by u (Some m) = refl

-- so each event has its peak
pub peak_noted : (d e : Event) (p : ℕ) (old new : Fluent → Option Sides) (v : Sides) → v ≡ sides_with (old d.fluent) d.on p → ((f : Fluent) → new f ≡ cond (fluent_eq d.fluent f) (Some v) (old f))
    → peak_in new e ≡ cond (same_event d e) (Some (peak_with (peak_in old e) p)) (peak_in old e)
peak_noted d e p old new v v_is is =
    peak_more d e p old new (is e.fluent ∙ ap (λ w. cond (fluent_eq d.fluent e.fluent) (Some w) (old e.fluent)) v_is)
    (λ t. ap old (one_fluent d.fluent e.fluent t))

abbrev pub unset : Sides
unset = record { on = None; off = None }

unset_side : (on : Bool) → side on (Some unset) ≡ None
unset_side true = refl
unset_side false = refl

unset_row : (on : Bool) (many n : ℕ) → side on (slice_get (replicate many unset) n) ≡ None
unset_row on zero n = refl
unset_row on (suc m) zero = unset_side on
unset_row on (suc m) (suc n) = unset_row on m n

-- no event has a peak where no fluent is set
pub none_noted : (many : ℕ) (row : List Sides) (beside : Fluent → Option Sides) → row ≡ replicate many unset → ((f : Fluent) → beside f ≡ None) → (e : Event)
    → peak_in (λ f. sides_at row (beside f) (role_place (length row) f)) e ≡ None
none_noted many row beside is nothing e =
    ap (λ r. side e.on (sides_at r (beside e.fluent) (role_place (length r) e.fluent))) is
    ∙ ap (λ b. side e.on (sides_at (replicate many unset) b (role_place (length (replicate many unset)) e.fluent))) (nothing e.fluent)
    ∙ by (role_place (length (replicate many unset)) e.fluent)
  where
    by : (o : Option ℕ) → side e.on (sides_at (replicate many unset) None o) ≡ None
    by None = refl
    by (Some n) = unset_row e.on many n
