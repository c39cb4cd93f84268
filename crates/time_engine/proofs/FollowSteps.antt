-- What is on its way, as pairs of a timeline, and the same under models that agree.
use Rattle.std.proofs.Common.{◌≡◌, ℕ, ◌+◌, ◌-◌, ◌<◌, ◌≤◌, Bool, true, false, nat_eq, nat_le, nat_lt, ◌&&◌, ◌||◌, List, [], ◌∷◌, flat_map, inl, inr, refl, sym, ◌∙◌, ap, arith, if◌then◌else◌}
use Rattle.std.specs.List.{list_any}
use Rattle.std.specs.Ordering.{eq_by_cmp}
use Rattle.std.proofs.lemmas.Bool.{ltb-true, leb-true, le-leb, eqb-true, eq-eqb, ne_eqb}
use Rattle.gt_base.specs.Held.{TriggerView}
use Rattle.gt_base.specs.Happening.{HappenedView}
use Rattle.gt_base.specs.Orders.{prioritised_cmp}
use Rattle.gt_base.specs.declared.events.Prioritised.{Prioritised}
use Rattle.gt_base.specs.declared.limits.TheConstants.{LAST_MINUTE}
use Rattle.gtrbac_model.specs.Policy.{Policy}
use Rattle.gtrbac_model.specs.Base.{status, when}
use Rattle.gtrbac_model.specs.Conflict.{Status}
use Rattle.gtrbac_model.specs.Status.{Model}
use Rattle.gtrbac_model.specs.Trigger.{met}
use Rattle.gtrbac_model.proofs.Elements.{Elem, both_true, split}
use Rattle.gtrbac_model.proofs.OneModel.{Agree, status_same}
use Rattle.history_laws.specs.Pending.{known_head}
use Rattle.delay_agenda.specs.Due.{pending_cmp, pending_at}
use Rattle.delay_agenda.specs.declared.pairs.Pending.{Pending}
use Rattle.delay_agenda.proofs.DueLaws.{tied_at}
use Rattle.time_engine.specs.Plans.{joins_of, joins}
use Rattle.time_engine.proofs.Booleans.{any-append, is_false, clash}

-- known heads read the model up to the instant from which they are known
pub known_same : (p : Policy) (birth : ℕ) (m n : Model) (from t : ℕ) (r : TriggerView) → Agree p birth m n from → known_head p birth m from t r ≡ known_head p birth n from t r
known_same p birth m n from t r same = by (nat_lt 0 r.delay && nat_lt birth (t - r.delay) && nat_le (t - r.delay) from) refl
  where
    u : ℕ
    u = t - r.delay

    by : (b : Bool) → (nat_lt 0 r.delay && nat_lt birth (t - r.delay) && nat_le (t - r.delay) from) ≡ b
        → ◌≡◌ {A = List Prioritised} (if b then when (met r (m (t - r.delay)) (status p birth m (t - r.delay - 1))) r.head else [])
        (if b then when (met r (n (t - r.delay)) (status p birth n (t - r.delay - 1))) r.head else [])
    by false q = refl
    by true q =
        let parts = both_true (nat_lt 0 r.delay && nat_lt birth u) (nat_le u from) q in
        let later : birth < u = ltb-true birth u (both_true (nat_lt 0 r.delay) (nat_lt birth u) parts.0).1 in
        let le : u ≤ from = leb-true u from parts.1 in
        let less : u - 1 ≤ from = omega (arith, le) in
        λ i. when (met r (same u later le i) (status_same p birth m n from (u - 1) same less i)) r.head

-- a pair with the instant is a head where the event is
pub pair_listed : (t : ℕ) (e : Prioritised) (b : Bool) (head : Prioritised) → list_any (eq_by_cmp pending_cmp (pending_at t e)) (when b (pending_at t head)) ≡ list_any (eq_by_cmp prioritised_cmp e) (when b head)
pair_listed t e false head = refl
pair_listed t e true head = ap (λ c. c || false) (sym (tied_at t e (pending_at t head)) ∙ ap (λ c. c && eq_by_cmp prioritised_cmp e head) (eq-eqb t t refl))

-- and with another instant it is not
pub pair_elsewhere : (t u : ℕ) (e : Prioritised) (b : Bool) (head : Prioritised) → (u ≡ t → ⊥) → list_any (eq_by_cmp pending_cmp (pending_at t e)) (when b (pending_at u head)) ≡ false
pair_elsewhere t u e false head ne = refl
pair_elsewhere t u e true head ne = ap (λ c. c || false) (sym (tied_at t e (pending_at u head)) ∙ ap (λ c. c && eq_by_cmp prioritised_cmp e head) (ne_eqb u t ne))

module _ (p : Policy) (birth : ℕ) (n : Model) (now to t : ℕ) (e : Prioritised) (lt : now < to) (past : to < t) (within : t ≤ LAST_MINUTE) where
  abbrev lists_e : List Prioritised → Bool
  lists_e = list_any (eq_by_cmp prioritised_cmp e)

  abbrev lists_pair : List Pending → Bool
  lists_pair = list_any (eq_by_cmp pending_cmp (pending_at t e))

  -- what one trigger puts on its way at the stop is what joins, and the rest stays
  pub one_joins : (r : TriggerView) (x : HappenedView) (before : Status) → n to ≡ x → status p birth n (to - 1) ≡ before
      → known_head p birth n to t r ≡ (if nat_lt 0 r.delay && nat_eq (t - r.delay) to then when (met r (n to) (status p birth n (to - 1))) r.head else known_head p birth n now t r)
      → (lists_e (known_head p birth n now t r) || lists_pair (joins_of before x to r)) ≡ lists_e (known_head p birth n to t r)
  one_joins r x before set st heads =
      by (nat_lt 0 r.delay && nat_eq (t - r.delay) to) refl ∙ ap lists_e (sym heads)
    where
      u : ℕ
      u = t - r.delay

      late : Bool
      late = nat_lt 0 r.delay && nat_le (to + r.delay) LAST_MINUTE

      at_now : nat_lt 0 r.delay ≡ true → u ≡ to → known_head p birth n now t r ≡ []
      at_now d at = gone (nat_lt 0 r.delay && nat_lt birth u) (nat_le u now) (leb-not u now (omega (arith, at, lt))) (when (met r (n u) (status p birth n (u - 1))) r.head)
        where
          leb-not : (a b : ℕ) → b < a → nat_le a b ≡ false
          leb-not a b l = is_false (nat_le a b) (λ q. omega (arith, l, leb-true a b q))

          gone : (a b : Bool) → b ≡ false → (ys : List Prioritised) → ◌≡◌ {A = List Prioritised} (if a && b then ys else []) []
          gone true b q ys = λ i. (if q i then ys else [])
          gone false b q ys = refl

      by : (b : Bool) → (nat_lt 0 r.delay && nat_eq u to) ≡ b
          → (lists_e (known_head p birth n now t r) || lists_pair (joins_of before x to r)) ≡ lists_e (if b then when (met r (n to) (status p birth n (to - 1))) r.head else known_head p birth n now t r)
      by true q =
          let parts = both_true (nat_lt 0 r.delay) (nat_eq u to) q in
          let at : u ≡ to = eqb-true u to parts.1 in
          let d : 0 < r.delay = ltb-true 0 r.delay parts.0 in
          let due : to + r.delay ≡ t = omega (arith, at, past, lt) in
          let in_time : late ≡ true = (λ i. parts.0 i && le-leb (to + r.delay) LAST_MINUTE (omega (arith, due, within)) i) in
          (λ i. lists_e (at_now parts.0 at i) || lists_pair (when (in_time i && met r x before) (pending_at (due i) r.head)))
          ∙ pair_listed t e (met r x before) r.head
          ∙ (λ i. lists_e (when (met r (sym set i) (sym st i)) r.head))
      by false q = ap (λ b. lists_e (known_head p birth n now t r) || b) none ∙ or_false (lists_e (known_head p birth n now t r))
        where
          or_false : (b : Bool) → (b || false) ≡ b
          or_false true = refl
          or_false false = refl

          apart : (late && met r x before) ≡ true → to + r.delay ≡ t → ⊥
          apart j due =
              let d : nat_lt 0 r.delay ≡ true = (both_true (nat_lt 0 r.delay) _ (both_true late _ j).0).0 in
              let at : u ≡ to = omega (arith, due) in
              clash (nat_lt 0 r.delay && nat_eq u to) (λ i. d i && eq-eqb u to at i) q

          none : lists_pair (joins_of before x to r) ≡ false
          none =
              split (late && met r x before)
              (λ j. pair_elsewhere t (to + r.delay) e (late && met r x before) r.head (apart j))
              (λ j. ap (λ b. lists_pair (when b (pending_at (to + r.delay) r.head))) j)

  -- so it is of all triggers
  pub all_join : (rules : List TriggerView) (x : HappenedView) (before : Status)
      → ((r : TriggerView) → Elem rules r → (lists_e (known_head p birth n now t r) || lists_pair (joins_of before x to r)) ≡ lists_e (known_head p birth n to t r))
      → (lists_e (flat_map (known_head p birth n now t) rules) || lists_pair (joins rules before x to)) ≡ lists_e (flat_map (known_head p birth n to t) rules)
  all_join [] x before each = refl
  all_join (r ∷ rs) x before each =
      (λ i. any-append (eq_by_cmp prioritised_cmp e) (known_head p birth n now t r) (flat_map (known_head p birth n now t) rs) i
      || any-append (eq_by_cmp pending_cmp (pending_at t e)) (joins_of before x to r) (joins rs before x to) i)
      ∙ cross (lists_e (known_head p birth n now t r)) (lists_e (flat_map (known_head p birth n now t) rs)) (lists_pair (joins_of before x to r)) (lists_pair (joins rs before x to))
      ∙ (λ i. each r (inl refl) i || all_join rs x before (λ q k. each q (inr k)) i)
      ∙ sym (any-append (eq_by_cmp prioritised_cmp e) (known_head p birth n to t r) (flat_map (known_head p birth n to t) rs))
    where
      cross : (a b c d : Bool) → ((a || b) || (c || d)) ≡ ((a || c) || (b || d))
      cross true b c d = refl
      cross false true true d = refl
      cross false true false true = refl
      cross false true false false = refl
      cross false false true true = refl
      cross false false true false = refl
      cross false false false d = refl
