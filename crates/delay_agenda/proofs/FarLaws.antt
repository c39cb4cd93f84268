-- Pairs in no order beside a set: what the set has with them, how many more, and when the next is due.
use Rattle.std.proofs.Common.{◌≡◌, ℕ, ◌+◌, ◌<◌, ◌≤◌, ◌++◌, Bool, true, false, cond, ◌&&◌, ◌||◌, not, nat_lt, inl, inr, List, [], ◌∷◌, Option, Some, None, length, filter, refl, sym, ◌∙◌, ap, subst, arith}
use Rattle.std.proofs.lemmas.Bool.Decides.{nat_tests}
use Rattle.std.proofs.lemmas.Bool.{cases_lt, eq-eqb, eqb-true}
use Rattle.std.proofs.lemmas.List.Folds.{list_any-append}
use Rattle.std.specs.Cmp.{eq_by_cmp_equiv}
use Rattle.std.specs.List.{list_any}
use Rattle.std.specs.Prelude.{min, ◌↔◌, IfSome, IsNone}
use Rattle.std.specs.Ordering.{eq_by_cmp, is_eq}
use Rattle.gt_base.specs.declared.events.Prioritised.{Prioritised}
use Rattle.gt_base.specs.Orders.{prioritised_cmp}
use Rattle.gt_base.specs.Sets.{has, members, none, those, with_member}
use Rattle.gt_base.proofs.SetLaws.{eq_itself, has-none, has-those, has-with_member}
use Rattle.delay_agenda.specs.declared.pairs.Pending.{Pending}
use Rattle.delay_agenda.specs.Due.{pending_cmp, pending_at, is_due_at, count_due, IsLeastDue, Pendings}
use Rattle.delay_agenda.specs.Far.{all_over, more_in, more_due_in, soonest, soonest_over, AreBehind}
use Rattle.delay_agenda.specs.Rows.{stands_in}
use Rattle.delay_agenda.specs.Order.{pending_ties}
use Rattle.delay_agenda.specs.contracts.pairs.PendingPartialEq.TheImpl as equality
use Rattle.delay_agenda.proofs.DueLaws.{tied_at}
use Rattle.delay_agenda.proofs.PendingLaws.{pending_cmp_total}
use Rattle.delay_agenda.proofs.RowLaws.{length-with, or_and, or_or, same, tied}

abbrev is_same : Pending → Pending → Bool
is_same q p = eq_by_cmp pending_cmp q p

true-not-false : true ≡ false → ⊥
true-not-false e = cc

pub split : {P : Type 0} (b : Bool) → (b ≡ true → P) → (b ≡ false → P) → P
split true f g = f refl
split false f g = g refl

either : {A : Type 0} (a b : Bool) → (a || b) ≡ true → (a ≡ true → A) → (b ≡ true → A) → A
either true b e f g = f refl
either false b e f g = g e

-- in the list, or in the set
pub has-over : (s : Pendings) (ps : List Pending) (q : Pending) → has (all_over s ps) q ≡ (stands_in ps q || has s q)
unfolding all_over
has-over s [] q = refl
has-over s (p ∷ ps) q =
    has-with_member pending_cmp_total (all_over s ps) p q ∙ ap (λ b. is_same q p || b) (has-over s ps q) ∙ sym (or_or (is_same q p) (stands_in ps q) (has s q))

pub over_same : (s u : Pendings) (ps qs : List Pending) → ((q : Pending) → (stands_in ps q || has s q) ≡ (stands_in qs q || has u q)) → all_over s ps ≡ all_over u qs
over_same s u ps qs h = same _ _ (λ q. has-over s ps q ∙ h q ∙ sym (has-over u qs q))

pub over_nothing : (s : Pendings) → all_over s [] ≡ s
unfolding all_over
over_nothing s = refl

-- what `==` finds
pub listed_by_eq : (ps : List Pending) (p : Pending) → list_any (λ y. equality.ghosts.eq y p) ps ≡ stands_in ps p
listed_by_eq ps p = ap (λ test. list_any test ps) (λ i y. (pending_ties y p ∙ (eq_by_cmp_equiv pending_cmp_total).symm y p) i)

pub lacks : (s : Pendings) (ps : List Pending) (p : Pending) (a b : Bool) → a ≡ list_any (λ y. equality.ghosts.eq y p) ps → a ≡ false → b ≡ has s p → b ≡ has (all_over s ps) p
lacks s ps p a b is out there = there ∙ ap (λ c. c || has s p) (sym out ∙ is ∙ listed_by_eq ps p) ∙ sym (has-over s ps p)

pub lists : (s : Pendings) (ps : List Pending) (p : Pending) (a : Bool) → a ≡ list_any (λ y. equality.ghosts.eq y p) ps → a ≡ true → a ≡ has (all_over s ps) p
lists s ps p a is there = there ∙ ap (λ c. c || has s p) (sym there ∙ is ∙ listed_by_eq ps p) ∙ sym (has-over s ps p)

-- ---- a pair is added
module _ (s : Pendings) (ps : List Pending) (p : Pending) where
  with_both : (q : Pending) → has (with_member (all_over s ps) p) q ≡ (is_same q p || (stands_in ps q || has s q))
  with_both q = has-with_member pending_cmp_total (all_over s ps) p q ∙ ap (λ b. is_same q p || b) (has-over s ps q)

  pub over_pushed : all_over s (ps ++ p ∷ []) ≡ with_member (all_over s ps) p
  over_pushed = same _ _ (λ q.
      has-over s (ps ++ p ∷ []) q ∙ ap (λ b. b || has s q) (list_any-append (eq_by_cmp pending_cmp q) ps (p ∷ []))
      ∙ around (stands_in ps q) (is_same q p) (has s q) ∙ sym (with_both q))
    where
      around : (a e h : Bool) → ((a || (e || false)) || h) ≡ (e || (a || h))
      around true true h = refl
      around true false h = refl
      around false true h = refl
      around false false h = refl

  pub over_put : all_over (with_member s p) ps ≡ with_member (all_over s ps) p
  over_put = same _ _ (λ q.
      has-over (with_member s p) ps q ∙ ap (λ b. stands_in ps q || b) (has-with_member pending_cmp_total s p q)
      ∙ around (stands_in ps q) (is_same q p) (has s q) ∙ sym (with_both q))
    where
      around : (a e h : Bool) → (a || (e || h)) ≡ (e || (a || h))
      around true true h = refl
      around true false h = refl
      around false true h = refl
      around false false h = refl

-- who is there already changes nothing
pub already : (s : Pendings) (p : Pending) → has s p ≡ true → with_member s p ≡ s
already s p there = same _ _ (λ q. has-with_member pending_cmp_total s p q ∙ by q (is_same q p) refl)
  where
    by : (q : Pending) (b : Bool) → is_same q p ≡ b → (b || has s q) ≡ has s q
    by q true e = sym (ap (has s) (tied q p e) ∙ there)
    by q false e = refl

-- a pair of the list is put into the set too
pub over_twice : (s : Pendings) (ps : List Pending) (p : Pending) → stands_in ps p ≡ true → all_over (with_member s p) ps ≡ all_over s ps
over_twice s ps p there = over_put s ps p ∙ already (all_over s ps) p (has-over s ps p ∙ ap (λ b. b || has s p) there)

-- ---- those that pass a test
pub kept_any : (f : Pending → Bool) (ps : List Pending) (q : Pending) → stands_in (filter f ps) q ≡ (stands_in ps q && f q)
kept_any f [] q = refl
kept_any f (p ∷ ps) q =
    elim (f p) as (λ b. f p ≡ b → stands_in (cond b (p ∷ filter f ps) (filter f ps)) q ≡ ((is_same q p || stands_in ps q) && f q)) [
      | true ↦ λ e. ap (λ b. is_same q p || b) (kept_any f ps q) ∙ pass (is_same q p) (stands_in ps q) (f q) (λ t. ap f (tied q p t) ∙ e)
      | false ↦ λ e. kept_any f ps q ∙ fail (is_same q p) (stands_in ps q) (f q) (λ t. ap f (tied q p t) ∙ e)
    ] refl
  where
    pass : (a b c : Bool) → (a ≡ true → c ≡ true) → (a || (b && c)) ≡ ((a || b) && c)
    pass true b c h = sym (h refl)
    pass false b c h = refl

    fail : (a b c : Bool) → (a ≡ true → c ≡ false) → (b && c) ≡ ((a || b) && c)
    fail true true c h = refl
    fail true false c h = sym (h refl)
    fail false b c h = refl

module _ (f : Pending → Bool) where
  alike : (q y : Pending) → is_same q y ≡ true → f q ≡ f y
  alike q y e = ap f (tied q y e)

  those_has : (s : Pendings) (q : Pending) → has (those s f) q ≡ (has s q && f q)
  those_has s q = has-those pending_cmp_total s f q (λ y e. sym (alike q y (ap (λ r. is_eq r) e)))

  -- of the pairs of both those that pass
  pub over_those : (s : Pendings) (ps qs : List Pending) → ((q : Pending) → stands_in qs q ≡ (stands_in ps q && f q)) → all_over (those s f) qs ≡ those (all_over s ps) f
  over_those s ps qs h = same _ _ (λ q.
      has-over (those s f) qs q ∙ ap (λ b. b || has (those s f) q) (h q) ∙ ap (λ b. (stands_in ps q && f q) || b) (those_has s q)
      ∙ or_and (stands_in ps q) (has s q) (f q) ∙ ap (λ b. b && f q) (sym (has-over s ps q)) ∙ sym (those_has (all_over s ps) q))

  pub with_those : (s : Pendings) (p : Pending) → f p ≡ true → those (with_member s p) f ≡ with_member (those s f) p
  with_those s p e = same _ _ (λ q.
      those_has (with_member s p) q ∙ ap (λ b. b && f q) (has-with_member pending_cmp_total s p q) ∙ pass (is_same q p) (has s q) (f q) (λ t. alike q p t ∙ e)
      ∙ ap (λ b. is_same q p || b) (sym (those_has s q)) ∙ sym (has-with_member pending_cmp_total (those s f) p q))
    where
      pass : (a b c : Bool) → (a ≡ true → c ≡ true) → ((a || b) && c) ≡ (a || (b && c))
      pass true b c h = h refl
      pass false b c h = refl

  pub without_those : (s : Pendings) (p : Pending) → f p ≡ false → those (with_member s p) f ≡ those s f
  without_those s p e = same _ _ (λ q.
      those_has (with_member s p) q ∙ ap (λ b. b && f q) (has-with_member pending_cmp_total s p q) ∙ fail (is_same q p) (has s q) (f q) (λ t. alike q p t ∙ e) ∙ sym (those_has s q))
    where
      fail : (a b c : Bool) → (a ≡ true → c ≡ false) → ((a || b) && c) ≡ (b && c)
      fail true true c h = refl
      fail true false c h = h refl
      fail false b c h = refl

-- ---- how many
pub more_than : (s : Pendings) (ps : List Pending) → more_in s ps + length (members s) ≡ length (members (all_over s ps))
unfolding all_over
more_than s [] = omega arith
more_than s (p ∷ ps) =
    let more = more_than s ps in
    elim (has (all_over s ps) p) as (λ b. has (all_over s ps) p ≡ b → (cond (not b) 1 0 + more_in s ps) + length (members s) ≡ length (members (with_member (all_over s ps) p))) [
      | true ↦ λ e. let is = ap (λ t. length (members t)) (already (all_over s ps) p e) in omega (arith, is, more)
      | false ↦ λ e. let is = length-with (all_over s ps) p e in omega (arith, is, more)
    ] refl

one_more_due : (s : Pendings) (p : Pending) (t : ℕ) → count_due (with_member s p) t ≡ cond (is_due_at t p && not (has s p)) 1 0 + count_due s t
one_more_due s p t = by (is_due_at t p) (has s p) refl refl
  where
    and_true : (a : Bool) → (a && true) ≡ a
    and_true true = refl
    and_true false = refl

    there : is_due_at t p ≡ true → has (those s (is_due_at t)) p ≡ has s p
    there due = those_has (is_due_at t) s p ∙ ap (λ b. has s p && b) due ∙ and_true (has s p)

    by : (d h : Bool) → is_due_at t p ≡ d → has s p ≡ h → count_due (with_member s p) t ≡ cond (d && not h) 1 0 + count_due s t
    by true true due h =
        let is = ap (λ u. length (members u)) (with_those (is_due_at t) s p due) in
        let stays = ap (λ u. length (members u)) (already (those s (is_due_at t)) p (there due ∙ h)) in
        omega (arith, is, stays)
    by true false due h =
        let is = ap (λ u. length (members u)) (with_those (is_due_at t) s p due) in
        let more = length-with (those s (is_due_at t)) p (there due ∙ h) in
        omega (arith, is, more)
    by false h due there = let is = ap (λ u. length (members u)) (without_those (is_due_at t) s p due) in omega (arith, is)

pub more_due_than : (s : Pendings) (ps : List Pending) (t : ℕ) → more_due_in s ps t + count_due s t ≡ count_due (all_over s ps) t
unfolding all_over
more_due_than s [] t = omega arith
more_due_than s (p ∷ ps) t = let more = more_due_than s ps t in let one = one_more_due (all_over s ps) p t in omega (arith, more, one)

pub due_step : (s : Pendings) (p : Pending) (ps : List Pending) (t : ℕ) → count_due (all_over s (p ∷ ps)) t ≡ cond (is_due_at t p && not (has (all_over s ps) p)) 1 0 + count_due (all_over s ps) t
unfolding all_over
due_step s p ps t = one_more_due (all_over s ps) p t

pub due_more : (s : Pendings) (p : Pending) (ps : List Pending) (t : ℕ) → (is_due_at t p && not (has (all_over s ps) p)) ≡ true → count_due (all_over s (p ∷ ps)) t ≡ 1 + count_due (all_over s ps) t
due_more s p ps t fresh = due_step s p ps t ∙ ap (λ b. cond b 1 0 + count_due (all_over s ps) t) fresh

pub due_same : (s : Pendings) (p : Pending) (ps : List Pending) (t : ℕ) → (is_due_at t p && not (has (all_over s ps) p)) ≡ false → count_due (all_over s (p ∷ ps)) t ≡ 0 + count_due (all_over s ps) t
due_same s p ps t out = due_step s p ps t ∙ ap (λ b. cond b 1 0 + count_due (all_over s ps) t) out

-- ---- put in order
pub stays_there : (s u : Pendings) (x q : Pending) → u ≡ with_member s x → has s q ≡ true → has u q ≡ true
stays_there s u x q is h = ap (λ v. has v q) is ∙ has-with_member pending_cmp_total s x q ∙ ap (λ b. is_same q x || b) h ∙ either_so (is_same q x)
  where
    either_so : (a : Bool) → (a || true) ≡ true
    either_so true = refl
    either_so false = refl

pub put_there : (s u : Pendings) (x : Pending) → u ≡ with_member s x → has u x ≡ true
put_there s u x is = ap (λ v. has v x) is ∙ has-with_member pending_cmp_total s x x ∙ ap (λ b. b || has s x) (eq_itself pending_cmp_total x)

pub over_empty : (s : Pendings) (ps : List Pending) → length ps < 1 → all_over s ps ≡ s
over_empty s [] lt = over_nothing s
over_empty s (p ∷ ps) lt = absurd (omega (arith, lt))

pub near_more : (s u : Pendings) (ps next : List Pending) (x : Pending) (to : ℕ) → next ≡ ps ++ x ∷ [] → ((q : Pending) → has s q ≡ true → has u q ≡ true) → (x.due ≤ to → has u x ≡ true)
    → ((q : Pending) → stands_in ps q ≡ true → q.due ≤ to → has s q ≡ true) → (q : Pending) → stands_in next q ≡ true → q.due ≤ to → has u q ≡ true
near_more s u ps next x to is grows here so_far q there le =
    either (stands_in ps q) (is_same q x || false) (sym (list_any-append (eq_by_cmp pending_cmp q) ps (x ∷ [])) ∙ ap (λ ks. stands_in ks q) (sym is) ∙ there)
    (λ h. grows q (so_far q h le))
    (λ h. either (is_same q x) false h (λ e. let is : q ≡ x = tied q x e in ap (has u) is ∙ here (subst (λ z. z.due ≤ to) is le)) (λ e. absurd (true-not-false (sym e))))

module _ (s : Pendings) (ps : List Pending) (to : ℕ) where
  abbrev behind : Pending → Bool
  behind p = nat_lt to p.due

  pub brought : ((q : Pending) → stands_in ps q ≡ true → q.due ≤ to → has s q ≡ true) → all_over s (filter behind ps) ≡ all_over s ps
  brought near = over_same s s (filter behind ps) ps (λ q. ap (λ b. b || has s q) (kept_any behind ps q) ∙ by (stands_in ps q) (behind q) (has s q) (λ a g. near q a (not_below to q.due g)))
    where
      not_below : (m n : ℕ) → nat_lt m n ≡ false → n ≤ m
      not_below m n h = grind (arith, nat_tests)

      by : (a g h : Bool) → (a ≡ true → g ≡ false → h ≡ true) → ((a && g) || h) ≡ (a || h)
      by true true h f = refl
      by true false h f = f refl refl
      by false g h f = refl

  pub later : (q : Pending) → stands_in (filter behind ps) q ≡ true → to < q.due
  later q there = below to q.due (and_right (stands_in ps q) (behind q) (sym (kept_any behind ps q) ∙ there))
    where
      below : (m n : ℕ) → nat_lt m n ≡ true → m < n
      below m n h = grind (arith, nat_tests)

      and_right : (a b : Bool) → (a && b) ≡ true → b ≡ true
      and_right true b e = e
      and_right false b e = cc

-- ---- behind the horizon
module _ (s : Pendings) (ps : List Pending) (horizon t : ℕ) (behind : AreBehind horizon ps) (le : t ≤ horizon) where
  not_due : (q : Pending) → stands_in ps q ≡ true → is_due_at t q ≡ false
  not_due q there = split (is_due_at t q) (λ due. let is : q.due ≡ t = eqb-true q.due t due in let lt : horizon < q.due = behind q there in absurd (omega (arith, is, lt, le))) (λ e. e)

  none_due_over : those (all_over s ps) (is_due_at t) ≡ those s (is_due_at t)
  none_due_over = same _ _ (λ q.
      those_has (is_due_at t) (all_over s ps) q ∙ ap (λ b. b && is_due_at t q) (has-over s ps q)
      ∙ by (stands_in ps q) (has s q) (is_due_at t q) (not_due q) ∙ sym (those_has (is_due_at t) s q))
    where
      by : (a h d : Bool) → (a ≡ true → d ≡ false) → ((a || h) && d) ≡ (h && d)
      by true true d f = refl
      by true false d f = f refl
      by false h d f = refl

  pub none_more : count_due s t ≡ count_due (all_over s ps) t
  none_more = ap (λ u. length (members u)) (sym none_due_over)

  pub told_there : (e : Prioritised) → has (all_over s ps) (pending_at t e) ≡ has s (pending_at t e)
  told_there e =
      has-over s ps (pending_at t e)
      ∙ split (stands_in ps (pending_at t e))
      (λ there. absurd (let lt : horizon < t = behind (pending_at t e) there in omega (arith, lt, le)))
      (λ none. ap (λ b. b || has s (pending_at t e)) none)

  pub all_stay : (q : Pending) → stands_in ps q ≡ (stands_in ps q && not (is_due_at t q))
  all_stay q = split (stands_in ps q) (λ there. there ∙ sym (ap (λ b. b && not (is_due_at t q)) there ∙ ap not (not_due q there))) (λ none. none ∙ sym (ap (λ b. b && not (is_due_at t q)) none))

-- ---- what is told
module _ (s : Pendings) (p : Pending) (ps : List Pending) (t : ℕ) (e : Prioritised) where
  has_step : has (all_over s (p ∷ ps)) (pending_at t e) ≡ (is_same (pending_at t e) p || has (all_over s ps) (pending_at t e))
  unfolding all_over
  has_step = has-with_member pending_cmp_total (all_over s ps) p (pending_at t e)

  pub told_one : (i u b : Bool) → is_due_at t p ≡ true → u ≡ (eq_by_cmp prioritised_cmp e p.event || i)
      → (i || has (all_over s (p ∷ ps)) (pending_at t e)) ≡ b → (u || has (all_over s ps) (pending_at t e)) ≡ b
  told_one i u b due is so_far =
      ap (λ c. c || has (all_over s ps) (pending_at t e)) is
      ∙ around (eq_by_cmp prioritised_cmp e p.event) i (has (all_over s ps) (pending_at t e))
      ∙ ap (λ c. i || (c || has (all_over s ps) (pending_at t e))) (sym (ap (λ d. d && eq_by_cmp prioritised_cmp e p.event) due) ∙ tied_at t e p)
      ∙ ap (λ c. i || c) (sym has_step) ∙ so_far
    where
      around : (a i m : Bool) → ((a || i) || m) ≡ (i || (a || m))
      around true true m = refl
      around true false m = refl
      around false i m = refl

  pub told_none : (i b : Bool) → (is_due_at t p && not (has (all_over s ps) p)) ≡ false
      → (i || has (all_over s (p ∷ ps)) (pending_at t e)) ≡ b → (i || has (all_over s ps) (pending_at t e)) ≡ b
  told_none i b out so_far = ap (λ c. i || c) (by (is_same (pending_at t e) p) refl) ∙ so_far
    where
      there : (d h : Bool) → d ≡ true → (d && not h) ≡ false → h ≡ true
      there true true f g = refl
      there true false f g = cc
      there false h f g = cc

      by : (x : Bool) → is_same (pending_at t e) p ≡ x → has (all_over s ps) (pending_at t e) ≡ has (all_over s (p ∷ ps)) (pending_at t e)
      by true tie =
          let is = tied (pending_at t e) p tie in
          ap (has (all_over s ps)) is ∙ there (is_due_at t p) (has (all_over s ps) p) (sym (ap (is_due_at t) is) ∙ itself t) out
          ∙ sym (has_step ∙ ap (λ b. b || has (all_over s ps) (pending_at t e)) tie)
        where
          itself : (t : ℕ) → is_due_at t (pending_at t e) ≡ true
          itself t = eq-eqb t t refl
      by false tie = sym (has_step ∙ ap (λ b. b || has (all_over s ps) (pending_at t e)) tie)

-- ---- when the next is due
pub record IsFirst (P : Pending → Bool) (t : ℕ) : Type 0 where
  pub first : Pending
  pub is_there : P first ≡ true
  pub due : first.due ≡ t
  pub least : (q : Pending) → P q ≡ true → t ≤ q.due

abbrev pub IsNext : (Pending → Bool) → Option ℕ → Type 0
IsNext P None = (q : Pending) → P q ≡ false
IsNext P (Some t) = IsFirst P t

or_right : (a b : Bool) → b ≡ true → (a || b) ≡ true
or_right true b e = refl
or_right false b e = e

next_step : (P : Pending → Bool) (next : Option ℕ) (p : Pending) → IsNext P next → IsNext (λ q. is_same q p || P q) (Some (soonest next p.due))
next_step P None p none = record {
  first = p;
  is_there = ap (λ b. b || P p) (eq_itself pending_cmp_total p);
  due = refl;
  least = λ q h. either (is_same q p) (P q) h (λ e. let is : q.due ≡ p.due = ap (λ z. z.due) (tied q p e) in omega (arith, is)) (λ e. absurd (true-not-false (sym e ∙ none q)));
}
next_step P (Some u) p f =
    elim (cases_lt p.due u) [
      | inl lt ↦ record {
        first = p;
        is_there = ap (λ b. b || P p) (eq_itself pending_cmp_total p);
        due = omega (arith, lt);
        least = λ q h. either (is_same q p) (P q) h (λ e. let is : q.due ≡ p.due = ap (λ z. z.due) (tied q p e) in omega (arith, is, lt)) (λ e. let le = f.least q e in omega (arith, lt, le));
      }
      | inr le ↦ record {
        first = f.first;
        is_there = or_right (is_same f.first p) (P f.first) f.is_there;
        due = let is = f.due in omega (arith, is, le);
        least = λ q h. either (is_same q p) (P q) h (λ e. let is : q.due ≡ p.due = ap (λ z. z.due) (tied q p e) in omega (arith, is, le)) (λ e. let low = f.least q e in omega (arith, low, le));
      }
    ]

next_all : (P : Pending → Bool) (next : Option ℕ) (ps : List Pending) → IsNext P next → IsNext (λ q. stands_in ps q || P q) (soonest_over next ps)
next_all P next [] h = h
next_all P next (p ∷ ps) h =
    subst (λ (Q : Pending → Bool). IsNext Q (soonest_over next (p ∷ ps))) (λ i q. around (is_same q p) (stands_in ps q) (P q) i)
    (next_all (λ q. is_same q p || P q) (Some (soonest next p.due)) ps (next_step P next p h))
  where
    around : (a b c : Bool) → (b || (a || c)) ≡ ((a || b) || c)
    around true true c = refl
    around true false c = refl
    around false b c = refl

-- of a set and a list, from that of the set
pub next_over : (s : Pendings) (next : Option ℕ) (ps : List Pending) → (IsNone next ↔ (s ≡ none)) → IfSome next (IsLeastDue s) → IsNext (has (all_over s ps)) (soonest_over next ps)
next_over s next ps absent some =
    subst (λ (Q : Pending → Bool). IsNext Q (soonest_over next ps)) (λ i q. sym (has-over s ps q) i) (next_all (has s) next ps (start next absent some))
  where
    start : (next : Option ℕ) → (IsNone next ↔ (s ≡ none)) → IfSome next (IsLeastDue s) → IsNext (has s) next
    start None absent some = λ q. ap (λ u. has u q) (absent.0 refl) ∙ has-none pending_cmp q
    start (Some t) absent some = record { first = pending_at t some.event; is_there = some.is_due; due = refl; least = some.least }

pub least_of_next : (s : Pendings) (next : Option ℕ) → IsNext (has s) next → IfSome next (IsLeastDue s)
least_of_next s None h = tt
least_of_next s (Some t) h = record {
  event = h.first.event;
  is_due = ap (λ d. has s (pending_at d h.first.event)) (sym h.due) ∙ h.is_there;
  least = h.least;
}

pub none_of_next : (s : Pendings) (next : Option ℕ) → IsNext (has s) next → IsNone next ↔ (s ≡ none)
none_of_next s None h = (λ _. same s none (λ q. h q ∙ sym (has-none pending_cmp q)), λ _. refl)
none_of_next s (Some t) h = (λ e. cc, λ e. absurd (true-not-false (sym h.is_there ∙ ap (λ u. has u h.first) e ∙ has-none pending_cmp h.first)))

-- those behind the horizon are due later
pub near_first : (t horizon : ℕ) (ps : List Pending) → t ≤ horizon → AreBehind horizon ps → Some t ≡ soonest_over (Some t) ps
near_first t horizon [] le behind = refl
near_first t horizon (p ∷ ps) le behind =
    let lt : horizon < p.due = behind p (ap (λ b. b || stands_in ps p) (eq_itself pending_cmp_total p)) in
    let is : t ≡ min t p.due = omega (arith, le, lt) in
    near_first t horizon ps le (λ q there. behind q (or_right (is_same q p) (stands_in ps q) there)) ∙ ap (λ u. soonest_over (Some u) ps) is
