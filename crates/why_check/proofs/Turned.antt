-- The status that a set makes of one, event by event.
use Rattle.std.proofs.Common.{◌≡◌, ℕ, Bool, true, false, cond, not, ◌&&◌, ◌||◌, if◌then◌else◌, refl, sym, ◌∙◌, ap}
use Rattle.std.specs.List.{list_any}
use Rattle.std.specs.Cmp.{eq_by_cmp_equiv}
use Rattle.std.proofs.lemmas.Bool.{false≢true}
use Rattle.gt_base.specs.Happening.{HappenedView, Fluents}
use Rattle.gt_base.specs.Sets.{has, members, with_member, without}
use Rattle.gt_base.specs.declared.events.Event.{Event}
use Rattle.gt_base.specs.declared.events.Fluent.{Fluent}
use Rattle.gt_base.proofs.OrderLaws.{fluent_cmp-IsAntisymmetric}
use Rattle.gt_base.proofs.SetLaws.{has-with_member}
use Rattle.gt_base.proofs.SetSteps.{fluent_cmp_total}
use Rattle.gt_base.proofs.SetsAreSets.{fluents_are_sets}
use Rattle.gtrbac_model.specs.Conflict.{Status, blocked, won, after, turns_on, turns_off}
use Rattle.gtrbac_model.specs.Same.{same_event, same_fluent}
use Rattle.gtrbac_model.specs.Status.{differ}
use Rattle.gtrbac_model.proofs.Elements.{both_true, split, any_elim, any_intro, equal_by, tied}
use Rattle.gtrbac_model.proofs.Uniqueness.{is_same_event}

itself : (b : Bool) → differ b b ≡ false
itself true = refl
itself false = refl

-- a fluent that is set so
pub set_so : (s t : Fluents) (f g : Fluent) (on : Bool) → t ≡ (if on then with_member s f else without s f) → has t g ≡ cond (same_fluent f g) on (has s g)
set_so s t f g true is = ap (λ u. has u g) is ∙ has-with_member fluent_cmp_total s f g ∙ ap (λ a. a || has s g) ((eq_by_cmp_equiv fluent_cmp_total).symm g f) ∙ by (same_fluent f g)
  where
    by : (a : Bool) → (a || has s g) ≡ cond a true (has s g)
    by true = refl
    by false = refl
set_so s t f g false is = ap (λ u. has u g) is ∙ fluents_are_sets.taken_out s f g ∙ by (has s g) (same_fluent f g)
  where
    by : (b a : Bool) → (b && not a) ≡ cond a false b
    by true true = refl
    by true false = refl
    by false true = refl
    by false false = refl

-- what holds of the fluent holds of the same one
of_same : (f g : Fluent) (p : Fluent → Bool) (b : Bool) → cond (same_fluent f g) (p f) b ≡ cond (same_fluent f g) (p g) b
of_same f g p b = by (same_fluent f g) (λ t. ap p (equal_by fluent_cmp_total fluent_cmp-IsAntisymmetric f g t))
  where
    by : (a : Bool) → (a ≡ true → p f ≡ p g) → cond a (p f) b ≡ cond a (p g) b
    by true h = h refl
    by false h = refl

pub turned_so : (x : HappenedView) (s t : Fluents) (f g : Fluent) (on : Bool) → on ≡ after x (has s) f → t ≡ (if on then with_member s f else without s f)
    → has t g ≡ cond (same_fluent f g) (after x (has s) g) (has s g)
turned_so x s t f g on now is = set_so s t f g on is ∙ ap (λ b. cond (same_fluent f g) b (has s g)) now ∙ of_same f g (after x (has s)) (has s g)

-- a fluent that was set the other way, and no other, is not as it was
pub noted_so : (s t : Fluents) (f g : Fluent) (on : Bool) (at old : ℕ) → differ on (has s f) ≡ true → t ≡ (if on then with_member s f else without s f)
    → cond (same_fluent f g) at old ≡ cond (differ (has t g) (has s g)) at old
noted_so s t f g on at old apart is =
    ap (λ b. cond b at old) (sym (ap (λ b. differ b (has s g)) (set_so s t f g on is) ∙ by (same_fluent f g) (λ h. ap (λ k. differ on (has s k)) (sym (equal_by fluent_cmp_total fluent_cmp-IsAntisymmetric f g h)) ∙ apart)))
  where
    by : (a : Bool) → (a ≡ true → differ on (has s g) ≡ true) → differ (cond a on (has s g)) (has s g) ≡ a
    by true h = h refl
    by false h = itself (has s g)

-- one event more: to turn a fluent again changes nothing
module _ (w v b : Bool) where
  abbrev turn_of : Bool → Bool
  turn_of c = cond w true (cond v false c)

  again : (w v b : Bool) → cond w true (cond v false (cond w true (cond v false b))) ≡ cond w true (cond v false b)
  again true v b = refl
  again false true b = refl
  again false false b = refl

  pub turned_more : (any same cur new : Bool) → cur ≡ cond any (turn_of b) b → new ≡ cond same (turn_of cur) cur → new ≡ cond (any || same) (turn_of b) b
  turned_more true true cur new p q = q ∙ ap turn_of p ∙ again w v b
  turned_more true false cur new p q = q ∙ p
  turned_more false true cur new p q = q ∙ ap turn_of p
  turned_more false false cur new p q = q ∙ p

  pub since_more : (any same cur new : Bool) (at s : ℕ) → cur ≡ cond any (turn_of b) b → new ≡ cond same (turn_of cur) cur → cond (differ new cur) at (cond (differ cur b) at s) ≡ cond (differ new b) at s
  since_more true same cur new at s p q =
      let stays : new ≡ cur = turned_more true same cur new p q ∙ sym p in
      ap (λ d. cond d at (cond (differ cur b) at s)) (ap (λ n. differ n cur) stays ∙ itself cur) ∙ ap (λ n. cond (differ n b) at s) (sym stays)
  since_more false same cur new at s p q = (λ i. cond (differ new (p i)) at (cond (differ (p i) b) at s)) ∙ ap (λ d. cond (differ new b) at (cond d at s)) (itself b)

-- all events together
pub turned_all : (x : HappenedView) (s : Status) (f : Fluent) → cond (list_any (λ o. same_fluent o.event.fluent f) (members x.events)) (after x s f) (s f) ≡ after x s f
turned_all x s f = split any (λ t. ap (λ b. cond b (after x s f) (s f)) t) (λ n. ap (λ b. cond b (after x s f) (s f)) n ∙ sym (stays n))
  where
    any : Bool
    any = list_any (λ o. same_fluent o.event.fluent f) (members x.events)

    none : (e : Event) → e.fluent ≡ f → any ≡ false → won x e ≡ false
    none e is n =
        split (won x e)
        (λ w.
        let (o, m, h) = any_elim (λ o. same_event o.event e && not (blocked x o)) (members x.events) w in
        let same = tied fluent_cmp_total fluent_cmp-IsAntisymmetric o.event.fluent f (ap (λ z. z.fluent) (is_same_event o.event e (both_true _ _ h).0) ∙ is) in
        absurd (false≢true (sym n ∙ any_intro (λ o. same_fluent o.event.fluent f) (members x.events) o m same)))
        (λ w. w)

    stays : any ≡ false → after x s f ≡ s f
    stays n = λ i. cond (none (turns_on f) refl n i) true (cond (none (turns_off f) refl n i) false (s f))
