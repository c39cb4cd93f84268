-- No event wins beside its converse: the two block each other one way.
use Rattle.std.proofs.Common.{◌≡◌, ℕ, Bool, true, false, not, ◌&&◌, refl, sym, ◌∙◌, ap, arith}
use Rattle.std.proofs.lemmas.Bool.{leb-false, ltb-false}
use Rattle.gt_base.specs.declared.events.Event.{Event}
use Rattle.gt_base.specs.declared.events.Prioritised.{Prioritised}
use Rattle.gt_base.specs.Events.{converse}
use Rattle.gt_base.specs.Happening.{HappenedView}
use Rattle.gt_base.specs.Sets.{members}
use Rattle.gtrbac_model.specs.Same.{same_event}
use Rattle.gtrbac_model.specs.Conflict.{beats, blocked}
use Rattle.gtrbac_model.specs.Theorems.{NeverBothWays}
use Rattle.gtrbac_model.proofs.Elements.{Elem, any_elim, any_intro, both_true, and_true}
use Rattle.gtrbac_model.proofs.Uniqueness.{is_same_event, same_event_of}

clash : (b : Bool) → b ≡ true → b ≡ false → ⊥
clash true p q = cc
clash false p q = cc

is_false : (b : Bool) → not b ≡ true → b ≡ false
is_false true e = cc
is_false false e = refl

not_true : (b : Bool) → (b ≡ true → ⊥) → b ≡ false
not_true true f = absurd (f refl)
not_true false f = refl

-- one of the two beats the other
one_beats : (on : Bool) (p q : ℕ) → beats on q p ≡ false → beats (not on) p q ≡ false → ⊥
one_beats true p q a b = omega (arith, leb-false p q a, ltb-false q p b)
one_beats false p q a b = omega (arith, ltb-false p q a, leb-false q p b)

-- an event that is not blocked is not beaten by its converse
not_beaten : (x : HappenedView) (o c : Prioritised) → blocked x o ≡ false → Elem (members x.events) c → c.event ≡ converse o.event → beats o.event.on c.prio o.prio ≡ false
not_beaten x o c free there is =
    not_true _ (λ b. clash (blocked x o) (any_intro (λ d. same_event d.event (converse o.event) && beats o.event.on d.prio o.prio) (members x.events) c there (and_true _ _ (same_event_of c.event (converse o.event) is) b)) free)

twice : (e : Event) → converse (converse e) ≡ e
twice e = λ i. record { on = back e.on i; fluent = e.fluent }
  where
    back : (b : Bool) → not (not b) ≡ b
    back true = refl
    back false = refl

pub never_both_ways : NeverBothWays
never_both_ways x e h =
    not_true _ (λ g.
    let (o, at, w) = any_elim (λ o. same_event o.event e && not (blocked x o)) (members x.events) h in
    let (c, at', w') = any_elim (λ o. same_event o.event (converse e) && not (blocked x o)) (members x.events) g in
    let both = both_true _ _ w in
    let both' = both_true _ _ w' in
    let o_is : o.event ≡ e = is_same_event o.event e both.0 in
    let c_is : c.event ≡ converse e = is_same_event c.event (converse e) both'.0 in
    let turned : c.event ≡ converse o.event = c_is ∙ ap converse (sym o_is) in
    let back : o.event ≡ converse c.event = o_is ∙ sym (twice e) ∙ ap converse (sym c_is) in
    let first : beats o.event.on c.prio o.prio ≡ false = not_beaten x o c (is_false _ both.1) at' turned in
    let second : beats c.event.on o.prio c.prio ≡ false = not_beaten x c o (is_false _ both'.1) at back in
    one_beats o.event.on o.prio c.prio first (ap (λ (d : Event). beats d.on o.prio c.prio) (sym turned) ∙ second))
