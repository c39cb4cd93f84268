-- Winners one by one, and what they make of a status.
use Rattle.std.proofs.Common.{◌≡◌, ℕ, zero, ◌+◌, ◌<◌, ◌≤◌, suc, Bool, true, false, cond, not, ◌&&◌, ◌||◌, List, [], ◌∷◌, ◌++◌, length, take, get_or, refl, sym, ◌∙◌, ap, subst, if◌then◌else◌}
use Rattle.std.specs.List.{list_any}
use Rattle.std.proofs.lemmas.List.Folds.{list_any-append, list_any_at}
use Rattle.std.proofs.lemmas.List.{take_all, take_more}
use Rattle.std.specs.Ordering.{eq_by_cmp, is_eq}
use Rattle.std.specs.Cmp.{eq_by_cmp_equiv, Equal-is, tied_itself}
use Rattle.gt_base.specs.declared.events.Event.{Event}
use Rattle.gt_base.specs.declared.events.Fluent.{Fluent}
use Rattle.gt_base.specs.Orders.{event_cmp, fluent_cmp}
use Rattle.gt_base.specs.Events.{converse}
use Rattle.gt_base.specs.Happening.{Events, Fluents}
use Rattle.gt_base.specs.Sets.{has, members, with_member, without}
use Rattle.gt_base.proofs.SetLaws.{has-with_member, has-members}
use Rattle.gt_base.proofs.SetSteps.{event_cmp_total, fluent_cmp_total}
use Rattle.gt_base.proofs.OrderLaws.{fluent_cmp-IsAntisymmetric}
use Rattle.gt_base.proofs.SetsAreSets.{fluents_are_sets}
use Rattle.gtrbac_model.specs.Conflict.{turns_on, turns_off}
use Rattle.priority_conflict.specs.Winning.{IsApart}

pub or_comm : (a b : Bool) → (a || b) ≡ (b || a)
or_comm true true = refl
or_comm true false = refl
or_comm false true = refl
or_comm false false = refl

or_false : (a : Bool) → (a || false) ≡ a
or_false true = refl
or_false false = refl

pub any_more : {A : Type 0} (p : A → Bool) (xs : List A) (i : ℕ) (x : A) → take (i + 1) xs ≡ take i xs ++ x ∷ [] → list_any p (take (i + 1) xs) ≡ (list_any p (take i xs) || p x)
any_more p xs i x e = ap (list_any p) e ∙ list_any-append p (take i xs) (x ∷ []) ∙ ap (λ b. list_any p (take i xs) || b) (or_false (p x))

-- one item more, as it was read
pub read_more : {A : Type 0} (xs : List A) (i : ℕ) (x : A) → i < length xs → x ≡ get_or xs i x → take (i + 1) xs ≡ take i xs ++ x ∷ []
read_more xs i x lt is = take_more xs i x lt ∙ ap (λ y. take i xs ++ y ∷ []) (sym is)

abbrev pub lists_event : List Event → Event → Bool
lists_event es e = list_any (eq_by_cmp event_cmp e) es

-- the status that these events make of one
abbrev pub over : List Event → Fluent → Bool → Bool
over es f b = cond (lists_event es (turns_on f)) true (cond (lists_event es (turns_off f)) false b)

one_on : (a q c b : Bool) → (q || cond a true (cond c false b)) ≡ cond (a || q) true (cond (c || false) false b)
one_on true true c b = refl
one_on true false c b = refl
one_on false true c b = refl
one_on false false true b = refl
one_on false false false b = refl

one_off : (a q c b : Bool) → (q ≡ true → a ≡ false) → (cond a true (cond c false b) && not q) ≡ cond (a || false) true (cond (c || q) false b)
one_off true true c b h = cc (h refl)
one_off true false c b h = refl
one_off false true true b h = refl
one_off false true false true h = refl
one_off false true false false h = refl
one_off false false true b h = refl
one_off false false false true h = refl
one_off false false false false h = refl

part_none : (p : Event → Bool) (es : List Event) (i : ℕ) → list_any p es ≡ false → list_any p (take i es) ≡ false
part_none p es zero h = refl
part_none p [] (suc i) h = refl
part_none p (x ∷ xs) (suc i) h = both (p x) (list_any p xs) _ h (part_none p xs i)
  where
    both : (a b c : Bool) → (a || b) ≡ false → (b ≡ false → c ≡ false) → (a || c) ≡ false
    both true b c e f = cc
    both false b c e f = f e

-- the next winner sets its fluent
pub over_next : (won : Events) (s : Fluents) (e : Event) (i : ℕ) (f : Fluent) (b : Bool) → IsApart won → has won e ≡ true
    → take (i + 1) (members won) ≡ take i (members won) ++ e ∷ [] → has s f ≡ over (take i (members won)) f b
    → has (if e.on then with_member s e.fluent else without s e.fluent) f ≡ over (take (i + 1) (members won)) f b
over_next won s e i f b apart there more is = by e.on refl
  where
    a : Bool
    a = lists_event (take i (members won)) (turns_on f)

    c : Bool
    c = lists_event (take i (members won)) (turns_off f)

    same : Bool
    same = eq_by_cmp fluent_cmp f e.fluent

    event : (on : Bool) → e.on ≡ on → e ≡ record { on = on; fluent = e.fluent }
    event on q = λ j. record { on = q j; fluent = e.fluent }

    ons : (on : Bool) → e.on ≡ on → lists_event (take (i + 1) (members won)) (turns_on f) ≡ (a || eq_by_cmp event_cmp (turns_on f) (record { on = on; fluent = e.fluent }))
    ons on q = any_more (eq_by_cmp event_cmp (turns_on f)) (members won) i e more ∙ ap (λ x. a || eq_by_cmp event_cmp (turns_on f) x) (event on q)

    offs : (on : Bool) → e.on ≡ on → lists_event (take (i + 1) (members won)) (turns_off f) ≡ (c || eq_by_cmp event_cmp (turns_off f) (record { on = on; fluent = e.fluent }))
    offs on q = any_more (eq_by_cmp event_cmp (turns_off f)) (members won) i e more ∙ ap (λ x. c || eq_by_cmp event_cmp (turns_off f) x) (event on q)

    -- where the event sets this fluent off, none of the others sets it on
    alone : e.on ≡ false → same ≡ true → a ≡ false
    alone q t =
        let is : f ≡ e.fluent = fluent_cmp-IsAntisymmetric f e.fluent ((Equal-is (fluent_cmp f e.fluent)).0 t) in
        let other : converse e ≡ turns_on f = λ j. record { on = not (q j); fluent = sym is j } in
        part_none _ (members won) i (sym (has-members won (turns_on f)) ∙ ap (has won) (sym other) ∙ apart e there)

    by : (on : Bool) → e.on ≡ on → has (if on then with_member s e.fluent else without s e.fluent) f ≡ over (take (i + 1) (members won)) f b
    by true q =
        has-with_member fluent_cmp_total s e.fluent f ∙ ap (λ x. same || x) is ∙ one_on a same c b
        ∙ sym (λ j. cond (ons true q j) true (cond (offs true q j) false b))
    by false q =
        fluents_are_sets.taken_out s e.fluent f ∙ (λ j. is j && not ((eq_by_cmp_equiv fluent_cmp_total).symm e.fluent f j)) ∙ one_off a same c b (alone q)
        ∙ sym (λ j. cond (ons false q j) true (cond (offs false q j) false b))

-- the winner at a place
pub over_step : (won : Events) (es : List Event) (s t : Fluents) (i : ℕ) (d : Event) (f : Fluent) (b : Bool) → es ≡ members won → IsApart won → i < length es
    → t ≡ (if (get_or es i d).on then with_member s (get_or es i d).fluent else without s (get_or es i d).fluent)
    → has s f ≡ over (take i es) f b → has t f ≡ over (take (i + 1) es) f b
over_step won es s t i d f b e apart lt is kept =
    ap (λ u. has u f) is
    ∙ subst (λ (xs : List Event). i < length xs → has s f ≡ over (take i xs) f b → has (if (get_or xs i d).on then with_member s (get_or xs i d).fluent else without s (get_or xs i d).fluent) f ≡ over (take (i + 1) xs) f b)
    (sym e)
    (λ lt kept.
    over_next won s (get_or (members won) i d) i f b apart
    (has-members won (get_or (members won) i d) ∙ list_any_at (eq_by_cmp event_cmp (get_or (members won) i d)) (members won) i d lt (ap is_eq (tied_itself event_cmp_total (get_or (members won) i d))))
    (take_more (members won) i d lt) kept)
    lt kept

-- all winners together
pub over_all : (won : Events) (es : List Event) (n : ℕ) (f : Fluent) (b : Bool) → es ≡ members won → length es ≤ n → over (take n es) f b ≡ cond (has won (turns_on f)) true (cond (has won (turns_off f)) false b)
over_all won es n f b e le =
    let whole : take n es ≡ members won = take_all n es le ∙ e in
    λ j. cond ((ap (λ es. lists_event es (turns_on f)) whole ∙ sym (has-members won (turns_on f))) j) true (cond ((ap (λ es. lists_event es (turns_off f)) whole ∙ sym (has-members won (turns_off f))) j) false b)
