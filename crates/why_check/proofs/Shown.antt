-- Sets and orders as the code tests them.
use Rattle.std.proofs.Common.{◌≡◌, ◌↔◌, ℕ, ◌+◌, Bool, true, false, not, ◌&&◌, ◌||◌, List, [], ◌∷◌, drop, IsTrue, IsPermutation, refl, sym, ◌∙◌, ap, subst}
use Rattle.std.specs.List.{list_all, list_any}
use Rattle.std.specs.Ordering.{eq_by_cmp}
use Rattle.std.proofs.lemmas.List.Sorted.{list_any-IsPermutation}
use Rattle.gt_base.specs.Held.{TriggerView}
use Rattle.gt_base.specs.Happening.{HappenedView, nothing}
use Rattle.gt_base.specs.Orders.{prioritised_cmp, signal_cmp}
use Rattle.gt_base.specs.Sets.{SetOf, has, members, none, set_of}
use Rattle.gt_base.specs.declared.events.Prioritised.{Prioritised}
use Rattle.gt_base.specs.declared.events.Signal.{Signal}
use Rattle.gt_base.proofs.OrderLaws.{prioritised_cmp-IsAntisymmetric, signal_cmp-IsAntisymmetric}
use Rattle.gt_base.proofs.SetLaws.{same_sets, has-set_of, has-none}
use Rattle.gt_base.proofs.SetSteps.{prioritised_cmp_total, signal_cmp_total}
use Rattle.gtrbac_model.specs.Conflict.{Status}
use Rattle.gtrbac_model.specs.Instant.{closed, supported, grounded_after}
use Rattle.gtrbac_model.proofs.Elements.{both_true, and_true, all_elim, all_intro, elem_of_has, has_of_elem}
use Rattle.time_engine.specs.Traces.{is_something}
use Rattle.time_engine.proofs.Booleans.{both}
use Rattle.time_engine.proofs.HistoryLaws.{nothing_there}
use Rattle.why_check.specs.Certificates.{Listed, set_in, IsShown}

-- sets that have each other's signals are equal
pub same_by_tests : (a b : SetOf signal_cmp) (x y answer : Bool) → answer ≡ (x && y) → x ≡ list_all (has b) (members a) → y ≡ list_all (has a) (members b) → IsTrue answer ↔ (a ≡ b)
same_by_tests a b x y answer is ix iy = (to, from)
  where
    to : answer ≡ true → a ≡ b
    to t =
        let parts = both_true x y (sym is ∙ t) in
        let ab : list_all (has b) (members a) ≡ true = sym ix ∙ parts.0 in
        let ba : list_all (has a) (members b) ≡ true = sym iy ∙ parts.1 in
        same_sets signal_cmp_total signal_cmp-IsAntisymmetric a b (λ s.
        both (has a s) (has b s)
        (λ q. all_elim (has b) (members a) s ab (elem_of_has signal_cmp_total signal_cmp-IsAntisymmetric a s q))
        (λ q. all_elim (has a) (members b) s ba (elem_of_has signal_cmp_total signal_cmp-IsAntisymmetric b s q)))

    all_there : (c : SetOf signal_cmp) → list_all (has c) (members c) ≡ true
    all_there c = all_intro (has c) (members c) (λ s k. has_of_elem signal_cmp_total signal_cmp-IsAntisymmetric c s k)

    from : a ≡ b → answer ≡ true
    from e = is ∙ and_true x y (ix ∙ subst (λ c. list_all (has c) (members a) ≡ true) e (all_there a)) (iy ∙ subst (λ c. list_all (has c) (members b) ≡ true) (sym e) (all_there b))

pub empty_by_test : (x : HappenedView) (some answer : Bool) → answer ≡ not some → some ≡ is_something x → IsTrue answer ↔ (x ≡ nothing)
unfolding members none
empty_by_test x some answer is of = (to, from)
  where
    not_false : (b : Bool) → not b ≡ true → b ≡ false
    not_false true e = cc
    not_false false e = refl

    to : answer ≡ true → x ≡ nothing
    to t = nothing_there x (sym of ∙ not_false some (sym is ∙ t))

    from : x ≡ nothing → answer ≡ true
    from e = is ∙ ap not (of ∙ ap is_something e)

-- the set that was filled with the lists
pub filled_events : (s t : SetOf prioritised_cmp) (es ys xs : List Prioritised) → s ≡ none → xs ≡ ys → IsPermutation es ys → ((e : Prioritised) → has t e ≡ (has s e || list_any (eq_by_cmp prioritised_cmp e) xs)) → t ≡ set_of es
filled_events s t es ys xs empty same turned is =
    same_sets prioritised_cmp_total prioritised_cmp-IsAntisymmetric t (set_of es) (λ e.
    is e
    ∙ (λ i. (ap (λ u. has u e) empty ∙ has-none prioritised_cmp e) i || (ap (list_any (eq_by_cmp prioritised_cmp e)) same ∙ sym (list_any-IsPermutation (eq_by_cmp prioritised_cmp e) es ys turned)) i)
    ∙ sym (has-set_of prioritised_cmp_total es e))

pub filled_signals : (s t : SetOf signal_cmp) (es ys xs : List Signal) → s ≡ none → xs ≡ ys → IsPermutation es ys → ((e : Signal) → has t e ≡ (has s e || list_any (eq_by_cmp signal_cmp e) xs)) → t ≡ set_of es
filled_signals s t es ys xs empty same turned is =
    same_sets signal_cmp_total signal_cmp-IsAntisymmetric t (set_of es) (λ e.
    is e
    ∙ (λ i. (ap (λ u. has u e) empty ∙ has-none signal_cmp e) i || (ap (list_any (eq_by_cmp signal_cmp e)) same ∙ sym (list_any-IsPermutation (eq_by_cmp signal_cmp e) es ys turned)) i)
    ∙ sym (has-set_of signal_cmp_total es e))

-- one event more that may stand
pub noted : (same b there : Bool) → b ≡ false → (same || there) ≡ ((same && not b) || there)
noted true b there e = ap (λ c. not c || there) (sym e)
noted false b there e = refl

pub left_out : (same b there : Bool) → b ≡ true → there ≡ ((same && not b) || there)
left_out true b there e = ap (λ c. not c || there) (sym e)
left_out false b there e = refl

module _ (rules : List TriggerView) (base : HappenedView) (s : Status) (l : Listed) (x : HappenedView) (same : x ≡ set_in l) where
  pub shown_by : x.signals ≡ base.signals → closed rules base s x ≡ true → (answer : Bool) → answer ≡ grounded_after rules base s x [] l.events → IsTrue answer ↔ IsShown rules base s l
  shown_by signals is_closed answer grounded = (
    λ t. record {
      is_closed = ap (closed rules base s) (sym same) ∙ is_closed;
      signals = ap (λ (z : HappenedView). z.signals) (sym same) ∙ signals;
      order = ap (λ z. grounded_after rules base s z [] l.events) (sym same) ∙ sym grounded ∙ t;
    },
    λ (k : IsShown rules base s l). grounded ∙ ap (λ z. grounded_after rules base s z [] l.events) same ∙ k.order,
  )

  pub not_by_signals : (x.signals ≡ base.signals → ⊥) → (answer : Bool) → answer ≡ false → IsTrue answer ↔ IsShown rules base s l
  not_by_signals other answer none = (λ t. cc, λ (k : IsShown rules base s l). absurd (other (ap (λ (z : HappenedView). z.signals) same ∙ k.signals)))

  pub not_by_closed : closed rules base s x ≡ false → (answer : Bool) → answer ≡ false → IsTrue answer ↔ IsShown rules base s l
  not_by_closed gap answer none = (λ t. cc, λ (k : IsShown rules base s l). absurd (clash (closed rules base s x) (ap (closed rules base s) same ∙ k.is_closed) gap))
    where
      clash : (b : Bool) → b ≡ true → b ≡ false → ⊥
      clash true p q = cc
      clash false p q = cc

-- the next event of an order, by whether it has support
pub next_grounded : (rules : List TriggerView) (base : HappenedView) (s : Status) (x : HappenedView) (earlier order : List Prioritised) (i : ℕ) (e : Prioritised) (answer : Bool) → drop i order ≡ e ∷ drop (i + 1) order
    → answer ≡ supported rules base s x earlier e → grounded_after rules base s x earlier (drop i order) ≡ (answer && grounded_after rules base s x (e ∷ earlier) (drop (i + 1) order))
next_grounded rules base s x earlier order i e answer cut is =
    ap (grounded_after rules base s x earlier) cut ∙ ap (λ b. b && grounded_after rules base s x (e ∷ earlier) (drop (i + 1) order)) (sym is)
