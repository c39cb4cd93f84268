-- What stands under a key.
use Rattle.std.proofs.Common.{◌≡◌, ℕ, zero, suc, ◌+◌, ◌-◌, ◌<◌, ◌≤◌, Bool, true, false, cond, ◌||◌, nat_eq, List, [], ◌∷◌, ◌++◌, length, take, get_or, slice_index_or, append-nil, refl, sym, ◌∙◌, ap, arith}
use Rattle.std.specs.Cmp.{IsEquivalence}
use Rattle.std.specs.List.{list_any}
use Rattle.std.proofs.lemmas.Bool.{eq-eqb, ne_eqb}
use Rattle.std.proofs.lemmas.List.{take_more, length-take-le}
use Rattle.gt_base.specs.declared.events.Event.{Event}
use Rattle.gt_base.specs.declared.events.Signal.{Signal}
use Rattle.gt_base.specs.Held.{TriggerView}
use Rattle.gt_base.specs.contracts.events.EventOrd.TheImpl.Laws as event_laws
use Rattle.gt_base.specs.contracts.events.SignalOrd.TheImpl.Laws as signal_laws
use Rattle.gtrbac_model.specs.Same.{same_event, same_signal}
use Rattle.indexmap.specs.IndexMap.{IndexMap, get, get_by}
use Rattle.trigger_rules.specs.Indexed.{event_eq, signal_eq, numbers, ends_in, ended_by}

last_at : (n : ℕ) (ks : List ℕ) (i : ℕ) → length ks ≡ i + 1 → nat_eq (slice_index_or ks i 0) n ≡ ends_in n ks
last_at n [] i h = absurd (omega arith)
last_at n (m ∷ []) zero h = refl
last_at n (m ∷ []) (suc i) h = absurd (omega arith)
last_at n (m ∷ k ∷ ks) zero h = absurd (omega arith)
last_at n (m ∷ k ∷ ks) (suc i) h = last_at n (k ∷ ks) i (omega arith)

pub ends_last : (n : ℕ) (ks : List ℕ) → 1 ≤ length ks → nat_eq (slice_index_or ks (length ks - 1) 0) n ≡ ends_in n ks
ends_last n ks h = last_at n ks (length ks - 1) (omega arith)

ends_pushed : (n : ℕ) (ks : List ℕ) → ends_in n (ks ++ n ∷ []) ≡ true
ends_pushed n [] = eq-eqb n n refl
ends_pushed n (m ∷ []) = eq-eqb n n refl
ends_pushed n (m ∷ k ∷ ks) = ends_pushed n (k ∷ ks)

ends_cons : (n m : ℕ) (ks : List ℕ) → m < n → ends_in n ks ≡ false → ends_in n (m ∷ ks) ≡ false
ends_cons n m [] lt h = ne_eqb m n (omega arith)
ends_cons n m (k ∷ ks) lt h = h

-- the numbers of triggers lie below what comes after them
pub below : (p : TriggerView → Bool) (k n : ℕ) (rs : List TriggerView) → k + length rs ≤ n → ends_in n (numbers p k rs) ≡ false
below p k n [] h = refl
below p k n (r ∷ rs) h = by (p r) (below p (k + 1) n rs (omega arith))
  where
    by : (b : Bool) → ends_in n (numbers p (k + 1) rs) ≡ false → ends_in n (cond b (k ∷ numbers p (k + 1) rs) (numbers p (k + 1) rs)) ≡ false
    by true rest = ends_cons n k (numbers p (k + 1) rs) (omega arith) rest
    by false rest = rest

-- one trigger more
pub numbers_push : (p : TriggerView → Bool) (k : ℕ) (rs : List TriggerView) (r : TriggerView) → numbers p k (rs ++ r ∷ []) ≡ numbers p k rs ++ cond (p r) ((k + length rs) ∷ []) []
numbers_push p k [] r = ap (λ m. cond (p r) (m ∷ []) []) (omega arith)
numbers_push p k (q ∷ rs) r = by (p q) (numbers_push p (k + 1) rs r ∙ ap (λ m. numbers p (k + 1) rs ++ cond (p r) (m ∷ []) []) (omega arith))
  where
    last : List ℕ
    last = cond (p r) ((k + length (q ∷ rs)) ∷ []) []

    by : (b : Bool) → numbers p (k + 1) (rs ++ r ∷ []) ≡ numbers p (k + 1) rs ++ last
        → cond b (k ∷ numbers p (k + 1) (rs ++ r ∷ [])) (numbers p (k + 1) (rs ++ r ∷ [])) ≡ cond b (k ∷ numbers p (k + 1) rs) (numbers p (k + 1) rs) ++ last
    by true rest = ap (λ xs. k ∷ xs) rest
    by false rest = rest

-- a number that comes to the lists under the keys once
once : (e a : Bool) (n : ℕ) (first : List ℕ) → ends_in n first ≡ false → cond e (ended_by n (first ++ cond a (n ∷ []) [])) (first ++ cond a (n ∷ []) []) ≡ first ++ cond (a || e) (n ∷ []) []
once true true n first h = ap (λ b. cond b (first ++ n ∷ []) ((first ++ n ∷ []) ++ n ∷ [])) (ends_pushed n first)
once true false n first h = ap (λ ks. ended_by n ks) (append-nil first) ∙ ap (λ b. cond b first (first ++ n ∷ [])) h
once false true n first h = refl
once false false n first h = refl

-- equal keys have the same under them
pub same_under : {K V S : Type 0} {eq : K → K → Bool} → IsEquivalence eq → (m : IndexMap K V S) (k q : K) → eq k q ≡ true → get eq m k ≡ get eq m q
same_under laws m k q h = ap (λ t. get_by t m) (λ i z. laws.congr k q z h i)

-- the lists under the keys after one key more
pub key_more : {K : Type 0} {eq : K → K → Bool} → IsEquivalence eq → (first old new : K → List ℕ) (n : ℕ) (key k : K) (a : Bool)
    → new k ≡ cond (eq key k) (ended_by n (old key)) (old k) → (eq key k ≡ true → old key ≡ old k) → ends_in n (first k) ≡ false → old k ≡ first k ++ cond a (n ∷ []) [] → new k ≡ first k ++ cond (a || eq k key) (n ∷ []) []
key_more {K} {eq} laws first old new n key k a is same none so_far =
    is ∙ by (eq key k) same ∙ ap (λ ks. cond (eq key k) (ended_by n ks) ks) so_far ∙ once (eq key k) a n (first k) none
    ∙ ap (λ e. first k ++ cond (a || e) (n ∷ []) []) (laws.symm key k)
  where
    by : (b : Bool) → (b ≡ true → old key ≡ old k) → cond b (ended_by n (old key)) (old k) ≡ cond b (ended_by n (old k)) (old k)
    by true h = ap (ended_by n) (h refl)
    by false h = refl

-- the triggers so far, and the next one, by what its body has
pub trigger_more : {K : Type 0} (eq same : K → K → Bool) → ((a b : K) → eq a b ≡ same a b) → (keys : TriggerView → List K) (rules : List TriggerView) (n : ℕ) (t : TriggerView) (ks : List K) (k : K) (old new : List ℕ)
    → n < length rules → t ≡ get_or rules n t → ks ≡ keys t → new ≡ old ++ cond (list_any (eq k) ks) (n ∷ []) [] → old ≡ numbers (λ r. list_any (same k) (keys r)) 0 (take n rules)
    → new ≡ numbers (λ r. list_any (same k) (keys r)) 0 (take (n + 1) rules)
trigger_more eq same law keys rules n t ks k old new lt is_t is_ks is so_far =
    is ∙ ap (λ xs. xs ++ cond (list_any (eq k) ks) (n ∷ []) []) so_far
    ∙ ap (λ xs. numbers p 0 (take n rules) ++ cond (list_any (eq k) xs) (n ∷ []) []) is_ks
    ∙ ap (λ f. numbers p 0 (take n rules) ++ cond (list_any f (keys t)) (n ∷ []) []) (λ i x. law k x i)
    ∙ ap (λ m. numbers p 0 (take n rules) ++ cond (p t) (m ∷ []) []) (omega (arith, length-take-le n rules (omega arith)))
    ∙ sym (numbers_push p 0 (take n rules) t) ∙ ap (numbers p 0) (sym (take_more rules n t lt ∙ ap (λ r. take n rules ++ r ∷ []) (sym is_t)))
  where
    p : TriggerView → Bool
    p r = list_any (same k) (keys r)

-- what `==` answers is equality
pub event_law : (a b : Event) → event_eq a b ≡ same_event a b
event_law a b = event_laws.matches_eq-law a b

pub signal_law : (a b : Signal) → signal_eq a b ≡ same_signal a b
signal_law a b = signal_laws.matches_eq-law a b
