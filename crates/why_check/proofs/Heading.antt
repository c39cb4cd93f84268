-- What the numbers of triggers under an event tell of the triggers.
use Rattle.std.proofs.Common.{◌≡◌, ℕ, suc, ◌+◌, ◌<◌, Bool, true, false, cond, ◌&&◌, ◌||◌, List, [], ◌∷◌, ◌++◌, length, take, get_or, refl, sym, ◌∙◌, ap, arith, append-nil}
use Rattle.std.specs.List.{list_any}
use Rattle.std.proofs.lemmas.List.{take_more, length-take-le}
use Rattle.gt_base.specs.Held.{TriggerView}
use Rattle.gt_base.specs.declared.events.Event.{Event}
use Rattle.gt_base.specs.declared.events.Prioritised.{Prioritised}
use Rattle.gtrbac_model.specs.Graph.{item_at}
use Rattle.gtrbac_model.specs.Same.{same_event, same_prioritised}
use Rattle.gtrbac_model.specs.Trigger.{immediate}
use Rattle.gtrbac_model.proofs.Elements.{both_true, and_true}
use Rattle.gtrbac_model.proofs.Uniqueness.{is_same_prioritised, same_event_of}
use Rattle.trigger_rules.specs.Indexed.{event_eq, numbers}
use Rattle.trigger_rules.proofs.Keys.{event_law, numbers_push}
use Rattle.why_check.specs.Heads.{is_headed, passes}

-- a number more under its event
pub number_put : (old new : Event → List ℕ) (e k : Event) (n : ℕ) (now : Bool) → now ≡ true → new k ≡ cond (event_eq e k) (old e ++ n ∷ []) (old k) → (event_eq e k ≡ true → old e ≡ old k)
    → new k ≡ old k ++ cond (now && same_event e k) (n ∷ []) []
number_put old new e k n now at_once is same =
    is ∙ by (event_eq e k) same ∙ ap (λ b. old k ++ cond b (n ∷ []) []) (event_law e k ∙ ap (λ b. b && same_event e k) (sym at_once))
  where
    by : (b : Bool) → (b ≡ true → old e ≡ old k) → cond b (old e ++ n ∷ []) (old k) ≡ old k ++ cond b (n ∷ []) []
    by true h = ap (λ ns. ns ++ n ∷ []) (h refl)
    by false h = sym (append-nil (old k))

-- the triggers so far, and the next one
pub heads_more : (e : Event) (rules : List TriggerView) (n : ℕ) (r : TriggerView) (old new : List ℕ) → n < length rules → r ≡ get_or rules n r → new ≡ old ++ cond (is_headed e r) (n ∷ []) [] → old ≡ numbers (is_headed e) 0 (take n rules)
    → new ≡ numbers (is_headed e) 0 (take (n + 1) rules)
heads_more e rules n r old new lt is_r is so_far =
    is ∙ ap (λ ns. ns ++ cond (is_headed e r) (n ∷ []) []) so_far
    ∙ ap (λ m. numbers (is_headed e) 0 (take n rules) ++ cond (is_headed e r) (m ∷ []) []) (omega (arith, length-take-le n rules (omega arith)))
    ∙ sym (numbers_push (is_headed e) 0 (take n rules) r) ∙ ap (numbers (is_headed e) 0) (sym (take_more rules n r lt ∙ ap (λ q. take n rules ++ q ∷ []) (sym is_r)))

-- a trigger passes where one of those does that pass a test which it needs
module _ (p q : TriggerView → Bool) (needs : (r : TriggerView) → p r ≡ true → q r ≡ true) (all : List TriggerView) where
  any_from : (k : ℕ) (rules : List TriggerView) → ((i : ℕ) → item_at all (k + i) ≡ item_at rules i) → list_any (λ n. passes p (item_at all n)) (numbers q k rules) ≡ list_any p rules
  any_from k [] same = refl
  any_from k (r ∷ rs) same = by (q r) (needs r) (any_from (k + 1) rs (λ i. ap (item_at all) (omega arith) ∙ same (suc i)))
    where
      here : passes p (item_at all k) ≡ p r
      here = ap (passes p) (ap (item_at all) (omega arith) ∙ same 0)

      not_so : (b : Bool) → (b ≡ true → false ≡ true) → b ≡ false
      not_so true h = cc (h refl)
      not_so false h = refl

      by : (b : Bool) → (p r ≡ true → b ≡ true) → list_any (λ n. passes p (item_at all n)) (numbers q (k + 1) rs) ≡ list_any p rs
          → list_any (λ n. passes p (item_at all n)) (cond b (k ∷ numbers q (k + 1) rs) (numbers q (k + 1) rs)) ≡ (p r || list_any p rs)
      by true h rest = (λ i. here i || rest i)
      by false h rest = rest ∙ ap (λ b. b || list_any p rs) (sym (not_so (p r) h))

  pub any_numbered : list_any (λ n. passes p (item_at all n)) (numbers q 0 all) ≡ list_any p all
  any_numbered = any_from 0 all (λ i. ap (item_at all) (omega arith))

-- what supports an event heads it
pub heads_it : (r : TriggerView) (e : Prioritised) (met stand : Bool) → (immediate r && same_prioritised r.head e && met && stand) ≡ true → is_headed e.event r ≡ true
heads_it r e met stand h =
    let head = both_true (immediate r) (same_prioritised r.head e) (both_true (immediate r && same_prioritised r.head e) met (both_true (immediate r && same_prioritised r.head e && met) stand h).0).0 in
    and_true (immediate r) (same_event r.head.event e.event) head.0 (same_event_of r.head.event e.event (ap (λ (o : Prioritised). o.event) (is_same_prioritised r.head e head.1)))
