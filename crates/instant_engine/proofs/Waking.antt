-- How many triggers a set wakes: more by those that wait for a head that joins.
use Rattle.std.proofs.Common.{◌≡◌, ℕ, ◌+◌, ◌*◌, ◌≤◌, Bool, true, false, cond, not, ◌&&◌, nat_eq, nat_lt, List, [], ◌∷◌, length, length-append, flat_map, map, is_some, Option, Some, None, refl, sym, ◌∙◌, ap, subst, arith}
use Rattle.std.proofs.Common.{true≢false}
use Rattle.std.proofs.lemmas.Bool.{ltb-true, ltb-false, eqb-true, eq-eqb}
use Rattle.std.proofs.Math.Nat.{mul-le-mul_left, suc-mul}
use Rattle.std.specs.declared.cmp.Ordering.{Ordering}
use Rattle.std.specs.declared.cmp.Ordering.TheVariants.{Less, Equal, Greater}
use Rattle.std.specs.Ordering.{is_eq}
use Rattle.std.specs.FinMap.Entries.{find, put, by_order, is_sorted-put}
use Rattle.gt_base.specs.Held.{TriggerView}
use Rattle.gt_base.specs.Happening.{HappenedView}
use Rattle.gt_base.specs.Orders.{prioritised_cmp}
use Rattle.gt_base.specs.Sets.{SetOf, has, members, with_member}
use Rattle.gt_base.specs.declared.events.Event.{Event}
use Rattle.gt_base.specs.declared.events.Prioritised.{Prioritised}
use Rattle.gt_base.proofs.SetLaws.{entries-checked}
use Rattle.gt_base.proofs.SetSteps.{prioritised_cmp_total}
use Rattle.gtrbac_model.specs.Conflict.{Status}
use Rattle.gtrbac_model.specs.Trigger.{immediate, met}
use Rattle.gtrbac_model.proofs.Elements.{both_true}
use Rattle.trigger_rules.specs.Indexed.{numbers, with_event, with_signal}
use Rattle.instant_engine.specs.OnTheWay.{is_due, fires, head_at, head_joined, waiting_with}
use Rattle.instant_engine.specs.Counted.{size, woken, first_looks, most_looks}
use Rattle.instant_engine.proofs.Steps.{numbers_few}

module _ {K : Type 0} (R : K → K → Ordering) (f : K → List ℕ) where
  -- how many the keys of entries have
  abbrev many : List (K × Unit {0}) → ℕ
  many es = length (flat_map f (map (λ e. e.0) es))

  many_put : (k : K) (es : List (K × Unit {0})) → is_some (find R k es) ≡ false → many (put R k tt es) ≡ length (f k) + many es
  many_put k [] h = length-append (f k) []
  many_put k (e ∷ es) h =
      elim (R k e.0) as (λ r. is_some (cond (is_eq r) (Some e.1) (find R k es)) ≡ false → many (by_order r ((k, tt) ∷ e ∷ es) ((e.0, tt) ∷ es) (e ∷ put R k tt es)) ≡ length (f k) + many (e ∷ es)) [
        | Less ↦ λ q. length-append (f k) (flat_map f (map (λ e. e.0) (e ∷ es)))
        | Equal ↦ λ q. cc
        | Greater ↦ λ q.
            let rest = many_put k es q in
            omega (arith, rest, length-append (f e.0) (flat_map f (map (λ e. e.0) (put R k tt es))), length-append (f e.0) (flat_map f (map (λ e. e.0) es)))
      ] h

-- a member more
many_with : (f : Prioritised → List ℕ) (s : SetOf prioritised_cmp) (k : Prioritised) → has s k ≡ false → length (flat_map f (members (with_member s k))) ≡ length (f k) + length (flat_map f (members s))
unfolding has members with_member
many_with f s k e =
    ap (λ es. length (flat_map f (map (λ e. e.0) es))) (entries-checked _ _ refl s (is_sorted-put prioritised_cmp prioritised_cmp_total k tt s.entries s.ascending))
    ∙ many_put prioritised_cmp f k s.entries e

abbrev one_each : Prioritised → List ℕ
one_each x = 0 ∷ []

length_ones : (xs : List Prioritised) → length (flat_map one_each xs) ≡ length xs
length_ones [] = refl
length_ones (x ∷ xs) = let rest = length_ones xs in omega (arith, rest)

one_more : (s : SetOf prioritised_cmp) (k : Prioritised) → has s k ≡ false → length (members (with_member s k)) ≡ length (members s) + 1
one_more s k e =
    let more = many_with one_each s k e in
    omega (arith, more, length_ones (members s), length_ones (members (with_member s k)))

module _ (rules : List TriggerView) where
  parts : (x : HappenedView) → woken rules x ≡ length (flat_map (λ o. with_event rules o.event) (members x.events)) + length (flat_map (with_signal rules) (members x.signals))
  parts x = length-append (flat_map (λ o. with_event rules o.event) (members x.events)) (flat_map (with_signal rules) (members x.signals))

  woken_with : (x : HappenedView) (h : Prioritised) → has x.events h ≡ false → woken rules (head_joined x (Some h)) ≡ length (with_event rules h.event) + woken rules x
  woken_with x h e =
      let more = many_with (λ o. with_event rules o.event) x.events h e in
      omega (arith, more, parts x, parts (head_joined x (Some h)))

  size_with : (x : HappenedView) (h : Prioritised) → has x.events h ≡ false → size (head_joined x (Some h)) ≡ size x + 1
  size_with x h e = let more = one_more x.events h e in omega (arith, more)

  module _ (s : Status) (level : Event → ℕ) (n : ℕ) (x : HappenedView) where
    -- a head that fires is not there yet
    absent_head : (o : Option TriggerView) (h : Prioritised) → head_at s level n x o ≡ Some h → has x.events h ≡ false
    absent_head None h is = cc
    absent_head (Some r) h is = by (fires s level n x r) refl
      where
        by : (b : Bool) → fires s level n x r ≡ b → has x.events h ≡ false
        by true done = subst (λ q. has x.events q ≡ false) (same_some (sym (λ i. cond (done i) (Some r.head) None) ∙ is)) (not_false (has x.events r.head) (both_true (is_due level n r && met r x s) (not (has x.events r.head)) done).1)
          where
            same_some : Some r.head ≡ Some h → r.head ≡ h
            same_some q = cc

            not_false : (b : Bool) → not b ≡ true → b ≡ false
            not_false false q = refl
            not_false true q = cc
        by false unmet = cc

    -- what waits, and what the set wakes, grow by the same; and the set does not shrink
    pub record Grown (ts : List ℕ) (y : HappenedView) (us : List ℕ) : Type 0 where
      pub waits : length us + woken rules x ≤ length ts + woken rules y
      pub woken_is : woken rules x ≤ woken rules y
      pub size_is : size x ≤ size y

    pub grown : (ts : List ℕ) (o : Option TriggerView) (head : Option Prioritised) → head ≡ head_at s level n x o → Grown ts (head_joined x head) (waiting_with rules ts head)
    grown ts o None is = record { waits = omega arith; woken_is = omega arith; size_is = omega arith }
    grown ts o (Some h) is =
        let absent = absent_head o h (sym is) in
        let more = woken_with x h absent in
        let larger = size_with x h absent in
        record {
          waits = omega (arith, more, length-append ts (with_event rules h.event));
          woken_is = omega (arith, more);
          size_is = omega (arith, larger);
        }

-- the triggers below a level
abbrev pub below : List TriggerView → (Event → ℕ) → ℕ → ℕ
below rules level n = length (numbers (λ r. immediate r && nat_lt (level r.head.event) n) 0 rules)

one_number : (b : Bool) (k : ℕ) (ns : List ℕ) → length (cond b (k ∷ ns) ns) ≡ cond b 1 0 + length ns
one_number true k ns = omega arith
one_number false k ns = omega arith

-- at a level or below it is below the next one
one_level : (i : Bool) (l n : ℕ) → cond (i && nat_lt l (n + 1)) 1 0 ≡ cond (i && nat_eq l n) 1 0 + cond (i && nat_lt l n) 1 0
one_level false l n = refl
one_level true l n = cases (nat_lt l n) (nat_eq l n) (nat_lt l (n + 1)) refl refl refl
  where
    cases : (a b c : Bool) → nat_lt l n ≡ a → nat_eq l n ≡ b → nat_lt l (n + 1) ≡ c → cond c 1 0 ≡ cond b 1 0 + cond a 1 0
    cases true true c p q r = absurd (omega (arith, ltb-true l n p, eqb-true l n q))
    cases true false true p q r = refl
    cases true false false p q r = absurd (omega (arith, ltb-true l n p, ltb-false l (n + 1) r))
    cases false true true p q r = refl
    cases false true false p q r = absurd (omega (arith, eqb-true l n q, ltb-false l (n + 1) r))
    cases false false true p q r = absurd (true≢false (sym (eq-eqb l n (omega (arith, ltb-true l (n + 1) r, ltb-false l n p))) ∙ q))
    cases false false false p q r = refl

below_more : (rules : List TriggerView) (level : Event → ℕ) (n k : ℕ)
    → length (numbers (λ r. immediate r && nat_lt (level r.head.event) (n + 1)) k rules)
    ≡ length (numbers (is_due level n) k rules) + length (numbers (λ r. immediate r && nat_lt (level r.head.event) n) k rules)
below_more [] level n k = refl
below_more (r ∷ rs) level n k =
    let rest = below_more rs level n (k + 1) in
    omega (
      arith,
      rest,
      one_level (immediate r) (level r.head.event) n,
      one_number (immediate r && nat_lt (level r.head.event) (n + 1)) k (numbers (λ r. immediate r && nat_lt (level r.head.event) (n + 1)) (k + 1) rs),
      one_number (is_due level n r) k (numbers (is_due level n) (k + 1) rs),
      one_number (immediate r && nat_lt (level r.head.event) n) k (numbers (λ r. immediate r && nat_lt (level r.head.event) n) (k + 1) rs),
    )

-- how often triggers are looked at, at most, below a level
abbrev pub spent : Bool → ℕ → List TriggerView → (Event → ℕ) → HappenedView → ℕ
spent true n rules level x = n * (size x + woken rules x) + woken rules x
spent false n rules level x = below rules level n + woken rules x

pub spent_more : (c : Bool) (n : ℕ) (rules : List TriggerView) (level : Event → ℕ) (x y : HappenedView) (old looks more : ℕ) → looks ≤ old + spent c n rules level x → size x ≤ size y → woken rules x ≤ woken rules y
    → more + woken rules x ≤ looks + first_looks c (length (numbers (is_due level n) 0 rules)) rules x + woken rules y → more ≤ old + spent c (n + 1) rules level y
spent_more true n rules level x y old looks more so_far sizes wakes step =
    let grows : n * (size x + woken rules x) ≤ n * (size y + woken rules y) = mul-le-mul_left n (omega (arith, sizes, wakes)) in
    omega (arith, so_far, sizes, wakes, step, grows, suc-mul n (size y + woken rules y))
spent_more false n rules level x y old looks more so_far sizes wakes step =
    omega (arith, so_far, wakes, step, below_more rules level n 0)

pub spent_most : (c : Bool) (n : ℕ) (rules : List TriggerView) (level : Event → ℕ) (x : HappenedView) → spent c n rules level x ≤ most_looks c n rules x
spent_most true n rules level x = omega arith
spent_most false n rules level x = omega (arith, numbers_few (λ r. immediate r && nat_lt (level r.head.event) n) 0 rules)
