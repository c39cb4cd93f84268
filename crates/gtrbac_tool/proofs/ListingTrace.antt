-- The listings of a trace's sets make a certificate of the history.
use Rattle.std.proofs.Common.{◌≡◌, ℕ, suc, ◌+◌, ◌-◌, ◌<◌, ◌≤◌, Bool, true, false, ◌||◌, nat_eq, nat_lt, List, [], ◌∷◌, ◌++◌, append_assoc, Option, Some, None, Result, Ok, Err, IfOk, OnOk, IsTrue, refl, sym, ◌∙◌, ap, subst, arith, if◌then◌else◌}
use Rattle.std.specs.List.{All}
use Rattle.std.specs.Cmp.{both_ways}
use Rattle.std.proofs.lemmas.Bool.{ne_eqb, eq-eqb, eqb-true, eqb-false, ltb-true, ltb-false}
use Rattle.std.proofs.lemmas.List.Elements.{All-nil, All-cons}
use Rattle.gt_base.specs.Held.{TriggerView}
use Rattle.gt_base.specs.Happening.{HappenedView, nothing}
use Rattle.gt_base.specs.Orders.{prioritised_cmp, signal_cmp}
use Rattle.gt_base.specs.Sets.{SetOf, has, members, none, set_of}
use Rattle.gt_base.specs.declared.events.Prioritised.{Prioritised}
use Rattle.gt_base.specs.declared.events.Signal.{Signal}
use Rattle.gt_base.specs.declared.requests.Entry.{Entry}
use Rattle.gt_base.proofs.OrderLaws.{prioritised_cmp-IsAntisymmetric, signal_cmp-IsAntisymmetric}
use Rattle.gt_base.proofs.SetLaws.{has-members, has-none, has-set_of, same_sets}
use Rattle.gt_base.proofs.SetSteps.{prioritised_cmp_total, signal_cmp_total}
use Rattle.gtrbac_model.specs.Base.{status, base_at}
use Rattle.gtrbac_model.specs.Conflict.{Status, after}
use Rattle.gtrbac_model.specs.History.{IsExecutionModel, is_some_item, now_of}
use Rattle.gtrbac_model.specs.Instant.{closed, grounded_after, IsGrounding, Settled}
use Rattle.gtrbac_model.specs.Policy.{Policy}
use Rattle.gtrbac_model.specs.Status.{Model, status_after}
use Rattle.gtrbac_model.proofs.Elements.{split}
use Rattle.history_laws.specs.Pending.{NothingBetween}
use Rattle.history_laws.proofs.OnItsWay.{stretch_stays}
use Rattle.instant_bases.specs.Timelines.{ClosedSet}
use Rattle.time_engine.specs.Traces.{model_of, is_something, Ascends, AreSome, AreClosedBy}
use Rattle.core_machine.specs.Books.{HasBases}
use Rattle.why_check.specs.Certificates.{Listed, Accepts, IsRight, listed_at, model_in, set_at, set_in, says_something, ListedAscend}
use Rattle.gtrbac_tool.specs.Listing.{AreListings, AreSettled, IsListing, AddsListing}
use Rattle.gtrbac_tool.proofs.ListingOrder.{base_in}

pub on_ok : {A E P Q : Type 0} (r : Result A E) → (P → Q) → OnOk r P → OnOk r Q
on_ok (Ok x) f h = f h
on_ok (Err e) f h = h

pub if_ok : {A E : Type 0} {P Q : A → Type 0} (r : Result A E) → ((x : A) → P x → Q x) → IfOk r P → IfOk r Q
if_ok (Ok x) f h = f x h
if_ok (Err e) f h = h

-- a set's members make the set
pub set_of_members : (s : SetOf signal_cmp) → set_of (members s) ≡ s
set_of_members s =
    same_sets signal_cmp_total signal_cmp-IsAntisymmetric (set_of (members s)) s
    (λ x. has-set_of signal_cmp_total (members s) x ∙ sym (has-members s x))

-- the listing of a set by an order that grounds it
pub listing_of : (rules : List TriggerView) (s : Status) (c : ClosedSet) (events : List Prioritised) (signals : List Signal) → IsGrounding rules c.base s c.set events → signals ≡ members c.set.signals
    → IsListing rules s c (record { at = c.at; events = events; signals = signals })
listing_of rules s c events signals g is = record {
  at = refl;
  set = λ i. record { events = sym g.lists i; signals = (ap set_of is ∙ set_of_members c.set.signals) i };
  order = g.grounds;
}

-- listings of what is left go on from the one that was added
pub goes_on_from : (rules : List TriggerView) (s first : Status) (c : ClosedSet) (cs all : List ClosedSet) (old new : List Listed) → AddsListing rules s c old new
    → ((ls : List Listed) → AreListings rules s (c ∷ cs) ls → AreListings rules first all (old ++ ls)) → (ls : List Listed) → AreListings rules (after c.set s) cs ls → AreListings rules first all (new ++ ls)
goes_on_from rules s first c cs all old new a so_far ls rest =
    subst (AreListings rules first all) (sym (append_assoc old (a.listing ∷ []) ls) ∙ ap (λ xs. xs ++ ls) (sym a.added)) (so_far (a.listing ∷ ls) (a.is, rest))

clash : (b : Bool) → b ≡ true → b ≡ false → ⊥
clash true p q = cc
clash false p q = cc

-- a base that settles to nothing is empty
pub base_empty : (rules : List TriggerView) (base : HappenedView) (s : Status) (x : HappenedView) → Settled rules base s x → x ≡ nothing → base ≡ nothing
base_empty rules base s x is empty =
    let events : base.events ≡ none =
    same_sets prioritised_cmp_total prioritised_cmp-IsAntisymmetric base.events none (λ e. both_ways (has base.events e) (has none e)
    (λ h. sym (ap (λ (z : HappenedView). has z.events e) empty) ∙ base_in rules base s x is.is_closed e h)
    (λ h. absurd (clash (has none e) h (has-none prioritised_cmp e)))) in
    let signals : base.signals ≡ none = sym is.signals ∙ ap (λ (z : HappenedView). z.signals) empty in
    λ i. record { events = events i; signals = signals i }

-- what the listings have at a minute is what the trace has
pub same_model : (rules : List TriggerView) (s : Status) (cs : List ClosedSet) (ls : List Listed) → AreListings rules s cs ls → (t : ℕ) → model_of cs t ≡ model_in ls t
same_model rules s [] [] a t = refl
same_model rules s [] (l ∷ ls) a t = absurd a
same_model rules s (c ∷ cs) [] a t = absurd a
same_model rules s (c ∷ cs) (l ∷ ls) a t =
    split (nat_eq c.at t)
    (λ same.
    (λ i. if same i then c.set else model_of cs t)
    ∙ sym (a.0.set)
    ∙ sym (λ i. set_at (if (ap (λ n. nat_eq n t) a.0.at ∙ same) i then Some l else listed_at ls t)))
    (λ apart.
    (λ i. if apart i then c.set else model_of cs t)
    ∙ same_model rules (after c.set s) cs ls a.1 t
    ∙ sym (λ i. set_at (if (ap (λ n. nat_eq n t) a.0.at ∙ apart) i then Some l else listed_at ls t)))

pub listings_ascend : (rules : List TriggerView) (s : Status) (cs : List ClosedSet) (ls : List Listed) (low top : ℕ) → AreListings rules s cs ls → Ascends low cs → AreClosedBy top cs → ListedAscend low top ls
listings_ascend rules s [] [] low top a up ends = tt
listings_ascend rules s [] (l ∷ ls) low top a up ends = absurd a
listings_ascend rules s (c ∷ cs) [] low top a up ends = absurd a
listings_ascend rules s (c ∷ cs) (l ∷ ls) low top a up ends =
    (omega (arith, a.0.at, up.0), omega (arith, a.0.at, ends.0), subst (λ n. ListedAscend n top ls) (sym a.0.at) (listings_ascend rules (after c.set s) cs ls c.at top a.1 up.1 ends.1))

some_listed : (es : List Prioritised) (xs : List Signal) → is_something (record { events = set_of es; signals = set_of xs }) ≡ true → (is_some_item es || is_some_item xs) ≡ true
unfolding members none
some_listed [] [] h = h
some_listed [] (x ∷ xs) h = refl
some_listed (e ∷ es) xs h = refl

pub listings_say : (rules : List TriggerView) (s : Status) (cs : List ClosedSet) (ls : List Listed) → AreListings rules s cs ls → AreSome cs → All (λ l. IsTrue (says_something l)) ls
listings_say rules s [] [] a some = All-nil (λ l. IsTrue (says_something l))
listings_say rules s [] (l ∷ ls) a some = absurd a
listings_say rules s (c ∷ cs) [] a some = absurd a
listings_say rules s (c ∷ cs) (l ∷ ls) a some =
    All-cons (λ l. IsTrue (says_something l)) l ls (some_listed l.events l.signals (ap is_something a.0.set ∙ some.0)) (listings_say rules (after c.set s) cs ls a.1 some.1)

-- up to its first instant nothing happens
early : (cs : List ClosedSet) (low u : ℕ) → Ascends low cs → u ≤ low → model_of cs u ≡ nothing
early [] low u a le = refl
early (c ∷ cs) low u a le =
    let apart : nat_eq c.at u ≡ false = ne_eqb c.at u (λ e. omega (arith, e, a.0)) in
    (λ i. if apart i then c.set else model_of cs u) ∙ early cs c.at u a.1 (omega (arith, a.0))

not_yet : (rules : List TriggerView) (s : Status) (cs : List ClosedSet) (ls : List Listed) (low u : ℕ) → AreListings rules s cs ls → Ascends low cs → u ≤ low → listed_at ls u ≡ None
not_yet rules s [] [] low u a up le = refl
not_yet rules s [] (l ∷ ls) low u a up le = absurd a
not_yet rules s (c ∷ cs) [] low u a up le = absurd a
not_yet rules s (c ∷ cs) (l ∷ ls) low u a up le =
    let apart : nat_eq l.at u ≡ false = ne_eqb l.at u (λ e. omega (arith, e, a.0.at, up.0)) in
    (λ i. if apart i then Some l else listed_at ls u) ∙ not_yet rules (after c.set s) cs ls c.at u a.1 up.1 (omega (arith, up.0))

before_first : (c : ClosedSet) (cs : List ClosedSet) (u : ℕ) → Ascends c.at cs → u < c.at → model_of (c ∷ cs) u ≡ nothing
before_first c cs u a lt =
    let apart : nat_eq c.at u ≡ false = ne_eqb c.at u (λ e. omega (arith, e)) in
    (λ i. if apart i then c.set else model_of cs u) ∙ early cs c.at u a (omega arith)

module _ (p : Policy) (birth : ℕ) (h : List Entry) (m : Model) where
  -- over the minutes in which nothing happens the status stays
  stays : (low t : ℕ) → birth ≤ low → low < t → NothingBetween m low t → status p birth m (t - 1) ≡ status p birth m low
  stays low t born later quiet =
      let k : ℕ = t - 1 - low in
      let is : low + k ≡ t - 1 = omega (arith, later) in
      ap (status p birth m) (sym is) ∙ (stretch_stays p birth m low k born (λ u a b. quiet u a (omega (arith, b, is, later)))).0

  abbrev Follows : ℕ → List ClosedSet → Type 0
  Follows low cs = (u : ℕ) → low < u → m u ≡ model_of cs u

  -- the first set of what is left, and the status before and after it
  module _ (c : ClosedSet) (cs : List ClosedSet) (low : ℕ) (born : birth ≤ low) (up : Ascends low (c ∷ cs)) (follows : Follows low (c ∷ cs)) where
    there : m c.at ≡ c.set
    there = follows c.at up.0 ∙ (λ i. if eq-eqb c.at c.at refl i then c.set else model_of cs c.at)

    status_before : status p birth m (c.at - 1) ≡ status p birth m low
    status_before = stays low c.at born up.0 (λ u a b. follows u a ∙ before_first c cs u up.1 b)

    status_then : status p birth m c.at ≡ after c.set (status p birth m low)
    status_then =
        let j : ℕ = c.at - 1 - birth in
        let here : c.at - birth ≡ suc j = omega (arith, born, up.0) in
        let at : birth + suc j ≡ c.at = omega (arith, born, up.0) in
        ap (status_after p birth m) here ∙ (λ i. after (m (at i)) (status_after p birth m j)) ∙ (λ i. after (there i) (status_before i))

    later : Follows c.at cs
    later u lt = follows u (omega (arith, up.0, lt)) ∙ (λ i. if ne_eqb c.at u (λ e. omega (arith, e, lt)) i then c.set else model_of cs u)

  pub settled_from : (cs : List ClosedSet) (low : ℕ) → birth ≤ low → Ascends low cs → AreClosedBy (now_of birth h) cs → Follows low cs → HasBases p birth m h cs → IsExecutionModel p birth h m → AreSettled p.triggers (status p birth m low) cs
  settled_from [] low born up ends follows bases model = tt
  settled_from (c ∷ cs) low born up ends follows bases model = (
    subst (λ b. Settled p.triggers b (status p birth m low) c.set) (sym bases.0)
        (subst (λ s. Settled p.triggers (base_at p birth m h c.at) s c.set) (status_before c cs low born up follows)
        (subst (λ y. Settled p.triggers (base_at p birth m h c.at) (status p birth m (c.at - 1)) y) (there c cs low born up follows)
        (model c.at (omega (arith, born, up.0)) ends.0))),
    subst (λ s. AreSettled p.triggers s cs) (status_then c cs low born up follows)
        (settled_from cs c.at (omega (arith, born, up.0)) up.1 ends.1 (later c cs low born up follows) bases.1 model),
  )

  -- nothing happens where nothing is listed, and what is listed is the set in an order that supports it
  abbrev IsFound : ℕ → Option Listed → Type 0
  IsFound t None = m t ≡ nothing
  IsFound t (Some l) = (set_in l ≡ m t) × IsTrue (grounded_after p.triggers (base_at p birth m h t) (status p birth m (t - 1)) (m t) [] l.events)

  found_from : (cs : List ClosedSet) (ls : List Listed) (low : ℕ) → birth ≤ low → Ascends low cs → Follows low cs → HasBases p birth m h cs → AreListings p.triggers (status p birth m low) cs ls
      → (t : ℕ) → low < t → IsFound t (listed_at ls t)
  found_from [] [] low born up follows bases a t lt = follows t lt
  found_from [] (l ∷ ls) low born up follows bases a t lt = absurd a
  found_from (c ∷ cs) [] low born up follows bases a t lt = absurd a
  found_from (c ∷ cs) (l ∷ ls) low born up follows bases a t lt =
      split (nat_eq c.at t)
      (λ same. subst (IsFound t) (sym (λ i. if (ap (λ n. nat_eq n t) a.0.at ∙ same) i then Some l else listed_at ls t)) (here (eqb-true c.at t same)))
      (λ apart. subst (IsFound t) (sym (λ i. if (ap (λ n. nat_eq n t) a.0.at ∙ apart) i then Some l else listed_at ls t))
      (split (nat_lt c.at t)
      (λ past. found_from cs ls c.at (omega (arith, born, up.0)) up.1 (later c cs low born up follows) bases.1
      (subst (λ s. AreListings p.triggers s cs ls) (sym (status_then c cs low born up follows)) a.1) t (lt_of c.at t past))
      (λ before.
      let earlier : t < c.at = gt_of c.at t before (eqb-false c.at t apart) in
      subst (IsFound t) (sym (not_yet p.triggers (after c.set (status p birth m low)) cs ls c.at t a.1 up.1 (omega (arith, earlier)))) (follows t lt ∙ before_first c cs t up.1 earlier))))
    where
      lt_of : (a b : ℕ) → nat_lt a b ≡ true → a < b
      lt_of a b e = ltb-true a b e

      gt_of : (a b : ℕ) → nat_lt a b ≡ false → (a ≡ b → ⊥) → b < a
      gt_of a b e f = omega (arith, ltb-false a b e, f)

      here : c.at ≡ t → IsFound t (Some l)
      here e =
          subst (λ u. (set_in l ≡ m u) × IsTrue (grounded_after p.triggers (base_at p birth m h u) (status p birth m (u - 1)) (m u) [] l.events)) e (
            a.0.set ∙ sym (there c cs low born up follows),
            subst (λ b. IsTrue (grounded_after p.triggers b (status p birth m (c.at - 1)) (m c.at) [] l.events)) bases.0
                (subst (λ s. IsTrue (grounded_after p.triggers c.base s (m c.at) [] l.events)) (sym (status_before c cs low born up follows))
                (subst (λ y. IsTrue (grounded_after p.triggers c.base (status p birth m low) y [] l.events)) (sym (there c cs low born up follows)) a.0.order)),
          )

  right : (t : ℕ) (o : Option Listed) → Settled p.triggers (base_at p birth m h t) (status p birth m (t - 1)) (m t) → IsFound t o → IsRight p.triggers (base_at p birth m h t) (status p birth m (t - 1)) o
  right t None is f = base_empty p.triggers (base_at p birth m h t) (status p birth m (t - 1)) (m t) is f
  right t (Some l) is f =
      let b : HappenedView = base_at p birth m h t in
      let s : Status = status p birth m (t - 1) in
      record {
        is_closed = subst (λ y. IsTrue (closed p.triggers b s y)) (sym f.0) is.is_closed;
        signals = ap (λ (y : HappenedView). y.signals) f.0 ∙ is.signals;
        order = subst (λ y. IsTrue (grounded_after p.triggers b s y [] l.events)) (sym f.0) f.1;
      }

-- the listings of the sets of a trace, in their order, are a certificate of the history
pub accepts_listings : (p : Policy) (birth : ℕ) (h : List Entry) (cs : List ClosedSet) (ls : List Listed) → IsExecutionModel p birth h (model_of cs) → HasBases p birth (model_of cs) h cs
    → Ascends birth cs → AreClosedBy (now_of birth h) cs → AreSome cs → AreListings p.triggers (has p.opening) cs ls → Accepts p birth h ls
accepts_listings p birth h cs ls model bases up ends some a =
    let zero_is : birth - birth ≡ 0 = omega arith in
    let first : status p birth (model_of cs) birth ≡ has p.opening = ap (status_after p birth (model_of cs)) zero_is in
    let same : model_of cs ≡ model_in ls = λ i t. same_model p.triggers (has p.opening) cs ls a t i in
    record {
      ascends = listings_ascend p.triggers (has p.opening) cs ls birth (now_of birth h) a up ends;
      some = listings_say p.triggers (has p.opening) cs ls a some;
      minutes = λ t later le.
          subst (λ n. IsRight p.triggers (base_at p birth n h t) (status p birth n (t - 1)) (listed_at ls t)) same
          (right p birth h (model_of cs) t (listed_at ls t) (model t later le)
          (found_from p birth h (model_of cs) cs ls birth (omega arith) up (λ u x. refl) bases (subst (λ s. AreListings p.triggers s cs ls) (sym first) a) t later));
    }

pub all_settled : (p : Policy) (birth : ℕ) (h : List Entry) (cs : List ClosedSet) → IsExecutionModel p birth h (model_of cs) → HasBases p birth (model_of cs) h cs
    → Ascends birth cs → AreClosedBy (now_of birth h) cs → AreSettled p.triggers (has p.opening) cs
all_settled p birth h cs model bases up ends =
    let zero_is : birth - birth ≡ 0 = omega arith in
    let first : status p birth (model_of cs) birth ≡ has p.opening = ap (status_after p birth (model_of cs)) zero_is in
    subst (λ s. AreSettled p.triggers s cs) first (settled_from p birth h (model_of cs) cs birth (omega arith) up ends (λ u x. refl) bases model)
