-- What is on its way is what is raised, since a trigger with a cause is met at no instant at which nothing happens.
use Rattle.std.proofs.Common.{◌≡◌, ℕ, zero, suc, ◌+◌, ◌-◌, ◌<◌, ◌≤◌, Bool, true, false, nat_eq, nat_le, nat_lt, ◌&&◌, inl, inr, List, [], ◌∷◌, ◌++◌, flat_map, refl, sym, ◌∙◌, ap, arith, append_assoc, if◌then◌else◌}
use Rattle.std.proofs.lemmas.Bool.{ltb-true, ltb-false, leb-true, leb-false, lt-ltb, eqb-true, eq-eqb}
use Rattle.gt_base.specs.Held.{TriggerView}
use Rattle.gt_base.specs.Happening.{nothing}
use Rattle.gt_base.specs.Sets.{none}
use Rattle.gt_base.specs.declared.events.Prioritised.{Prioritised}
use Rattle.gtrbac_model.specs.Policy.{Policy}
use Rattle.gtrbac_model.specs.Trigger.{met}
use Rattle.gtrbac_model.specs.Status.{Model, since}
use Rattle.gtrbac_model.specs.Base.{status, requested, periodic, limited, when, delayed}
use Rattle.gtrbac_model.specs.History.{now_of}
use Rattle.gtrbac_model.proofs.Append.{now-append}
use Rattle.gtrbac_model.proofs.Elements.{Elem, both_true, split, all_elim}
use Rattle.gtrbac_model.proofs.Quiet.{not_met}
use Rattle.history_laws.proofs.Members.{clash}
use Rattle.gtrbac_model.specs.WholePolicy.{has_cause}
use Rattle.history_laws.specs.Policies.{IsQuiet}
use Rattle.history_laws.specs.Pending.{StretchStays, known_head, PendingIsRaised, PendingAfterAsk, HeadsAfterTick}
use Rattle.history_laws.proofs.Continuing.{queue_goes_on}
use Rattle.history_laws.proofs.Quieting.{quiet_at}

pub stretch_stays : StretchStays
stretch_stays p birth m from zero le none = (ap (status p birth m) (same from), λ f. ap (since p birth m f) (same from))
  where
    same : (n : ℕ) → n + 0 ≡ n
    same n = omega arith
stretch_stays p birth m from (suc k) le none =
    let (status_is, since_is) = stretch_stays p birth m from k le (λ u a b. none u a (omega (arith, b))) in
    let q : IsQuiet p birth m (from + suc k) = quiet_at p birth m (from + suc k) (omega (arith, le)) (none (from + suc k) (omega arith) (omega arith)) in
    (q.status_stays ∙ ap (status p birth m) (before from k) ∙ status_is, λ f. q.since_stays f ∙ ap (since p birth m f) (before from k) ∙ since_is f)
  where
    before : (n k : ℕ) → n + suc k - 1 ≡ n + k
    before n k = omega arith

-- where nothing happens a trigger with a cause raises nothing
raises_nothing : (p : Policy) (birth : ℕ) (m : Model) (r : TriggerView) (u : ℕ) → has_cause r ≡ true → m u ≡ nothing → when (met r (m u) (status p birth m (u - 1))) r.head ≡ []
raises_nothing p birth m r u cause empty =
    ap (λ x. when (met r x (status p birth m (u - 1))) r.head) empty
    ∙ ap (λ b. when b r.head) (not_met r (status p birth m (u - 1)) cause)

-- a further test changes nothing where it fails only on nothing
also_if : {A : Type 0} (a c : Bool) (xs : List A) → (a ≡ true → c ≡ false → xs ≡ []) → ◌≡◌ {A = List A} (if a then xs else []) (if a && c then xs else [])
also_if true true xs h = refl
also_if true false xs h = h refl refl
also_if false c xs h = refl

or_if : {A : Type 0} (a c d : Bool) (xs : List A) → (d ≡ true → c ≡ true) → (a ≡ true → c ≡ true → d ≡ false → xs ≡ [])
    → ◌≡◌ {A = List A} (if a && c then xs else []) (if a && d then xs else [])
or_if true true true xs f h = refl
or_if true true false xs f h = h refl refl refl
or_if true false true xs f h = cc (f refl)
or_if true false false xs f h = refl
or_if false c d xs f h = refl

each_same : {A B : Type 0} (f g : A → List B) (xs : List A) → ((x : A) → Elem xs x → f x ≡ g x) → flat_map f xs ≡ flat_map g xs
each_same f g [] h = refl
each_same f g (x ∷ xs) h = λ i. h x (inl refl) i ++ each_same f g xs (λ y k. h y (inr k)) i

earlier : (t d : ℕ) → 0 < d → 0 < t - d → t - d < t
earlier t d a b = omega (arith, a, b)

pub pending_is_raised : PendingIsRaised
pending_is_raised p is birth h m t none =
    let now : ℕ = now_of birth h in
    let heads : delayed p birth m t ≡ flat_map (known_head p birth m now t) p.triggers =
    each_same _ (known_head p birth m now t) p.triggers (λ r k. also_if (nat_lt 0 r.delay && nat_lt birth (t - r.delay)) (nat_le (t - r.delay) now)
    (when (met r (m (t - r.delay)) (status p birth m (t - r.delay - 1))) r.head)
    (λ a b.
    let both = both_true (nat_lt 0 r.delay) (nat_lt birth (t - r.delay)) a in
    raises_nothing p birth m r (t - r.delay) (all_elim has_cause p.triggers r is.causes k)
    (none (t - r.delay) (leb-false (t - r.delay) now b) (earlier t r.delay (ltb-true 0 r.delay both.0) (omega (arith, ltb-true birth (t - r.delay) both.1)))))) in
    (λ i. periodic p birth t ++ requested h t ++ heads i ++ limited p (status p birth m (t - 1)) (λ f. since p birth m f (t - 1)) t)
    ∙ ap (λ xs. xs ++ limited p (status p birth m (t - 1)) (λ f. since p birth m f (t - 1)) t) (append_assoc (periodic p birth t) (requested h t) (flat_map (known_head p birth m now t) p.triggers))

pub pending_after_ask : PendingAfterAsk
pending_after_ask p birth h m who actor request reply t =
    λ i. (queue_goes_on h t).asks who actor request reply i ++ flat_map (known_head p birth m (now-append birth h who actor request reply i) t) p.triggers

pub heads_after_tick : HeadsAfterTick
heads_after_tick p birth m now to t r cause le lt none =
    by (nat_lt 0 r.delay && nat_eq (t - r.delay) to) refl
  where
    u : ℕ
    u = t - r.delay

    is_after : Bool
    is_after = nat_lt 0 r.delay && nat_lt birth (t - r.delay)

    heads : List Prioritised
    heads = when (met r (m (t - r.delay)) (status p birth m (t - r.delay - 1))) r.head

    le_itself : (a b : ℕ) → a ≡ b → nat_le a b ≡ true
    le_itself a b e = split (nat_le a b) (λ q. q) (λ q. absurd (omega (arith, e, leb-false a b q)))

    weaker : nat_le u now ≡ true → nat_le u to ≡ true
    weaker q = split (nat_le u to) (λ k. k) (λ k. absurd (omega (arith, leb-true u now q, leb-false u to k, lt)))

    apart : (nat_lt 0 r.delay && nat_eq u to) ≡ false → nat_lt 0 r.delay ≡ true → u ≡ to → ⊥
    apart q a e = clash (nat_eq u to) (eq-eqb u to e) (ap (λ b. b && nat_eq u to) (sym a) ∙ q)

    by : (b : Bool) → (nat_lt 0 r.delay && nat_eq (t - r.delay) to) ≡ b
        → known_head p birth m to t r ≡ (if b then when (met r (m to) (status p birth m (to - 1))) r.head else known_head p birth m now t r)
    by true q =
        let both = both_true (nat_lt 0 r.delay) (nat_eq u to) q in
        let at_to : u ≡ to = eqb-true u to both.1 in
        (λ i. if both.0 i && lt-ltb birth u (omega (arith, le, lt, at_to)) i && le_itself u to at_to i then heads else [])
        ∙ ap (λ v. when (met r (m v) (status p birth m (v - 1))) r.head) at_to
    by false q =
        or_if is_after (nat_le u to) (nat_le u now) heads weaker
        (λ a c d.
        raises_nothing p birth m r u cause
        (none u (leb-false u now d) (less u to (leb-true u to c) (apart q (both_true (nat_lt 0 r.delay) (nat_lt birth u) a).0))))
      where
        less : (a b : ℕ) → a ≤ b → (a ≡ b → ⊥) → a < b
        less a b le ne = split (nat_lt a b) (λ q. ltb-true a b q) (λ q. absurd (ne (omega (arith, le, ltb-false a b q))))
