-- The events that are due at an instant.
use Rattle.std.proofs.Common.{◌≡◌, ℕ, ◌<◌, ◌≤◌, Bool, true, ◌&&◌, List, [], ◌∷◌, inl, Option, Some, None, refl, sym, ◌∙◌, ap, arith}
use Rattle.std.specs.Prelude.{◌↔◌, IsNone, IfSome}
use Rattle.std.specs.List.{list_any}
use Rattle.std.specs.Ordering.{eq_by_cmp}
use Rattle.std.proofs.lemmas.Bool.{eqb-true, eq-eqb}
use Rattle.gt_base.specs.Orders.{prioritised_cmp}
use Rattle.gt_base.specs.Sets.{has, members, none, those}
use Rattle.gt_base.specs.declared.events.Prioritised.{Prioritised}
use Rattle.gt_base.proofs.OrderLaws.{prioritised_cmp-IsAntisymmetric}
use Rattle.gt_base.proofs.SetLaws.{has-none, has-those}
use Rattle.gt_base.proofs.SetSteps.{prioritised_cmp_total}
use Rattle.gtrbac_model.specs.History.{is_some_item}
use Rattle.gtrbac_model.proofs.Elements.{Elem, both_true, and_true, any_elim, any_intro, equal_by, tied, elem_of_has, has_of_elem}
use Rattle.delay_agenda.specs.Due.{Pendings, pending_cmp, pending_at, is_due_at, IsLeastDue}
use Rattle.delay_agenda.specs.declared.pairs.Pending.{Pending}
use Rattle.delay_agenda.proofs.PendingLaws.{pending_cmp_total, pending_cmp-IsAntisymmetric}
use Rattle.instant_bases.specs.Nexts.{IsNextOf}
use Rattle.instant_bases.specs.Timelines.{due_events}
use Rattle.time_engine.proofs.Booleans.{both, is_false, clash, some-map, any-map}

-- a pair is among those due at the instant where it is there and due then
pub has-due : (s : Pendings) (test : Pending → Bool) (q : Pending) → has (those s test) q ≡ (has s q && test q)
has-due s test q = has-those pending_cmp_total s test q (λ x e. ap test (sym (pending_cmp-IsAntisymmetric q x e)))

some_elem : {A : Type 0} (xs : List A) (x : A) → Elem xs x → is_some_item xs ≡ true
some_elem [] x m = elim m [ ]
some_elem (y ∷ ys) x m = refl

first_of_some : {A : Type 0} (xs : List A) → is_some_item xs ≡ true → (x : A) × Elem xs x
first_of_some [] e = cc
first_of_some (x ∷ xs) e = (x, inl refl)

-- where a pair is due something is
pub some_due : (s : Pendings) (t : ℕ) (q : Pending) → has s q ≡ true → q.due ≡ t → is_some_item (due_events s t) ≡ true
some_due s t q there at =
    let due : has (those s (is_due_at t)) q ≡ true = has-due s (is_due_at t) q ∙ and_true (has s q) _ there (eq-eqb q.due t at) in
    some-map (λ p. p.event) (members (those s (is_due_at t))) ∙ some_elem _ q (elem_of_has pending_cmp_total pending_cmp-IsAntisymmetric (those s (is_due_at t)) q due)

-- and where something is due a pair is
pub due_some : (s : Pendings) (t : ℕ) → is_some_item (due_events s t) ≡ true → (q : Pending) × (has s q ≡ true) × (q.due ≡ t)
due_some s t e =
    let (q, m) = first_of_some (members (those s (is_due_at t))) (sym (some-map (λ p. p.event) (members (those s (is_due_at t)))) ∙ e) in
    let there : (has s q && is_due_at t q) ≡ true = sym (has-due s (is_due_at t) q) ∙ has_of_elem pending_cmp_total pending_cmp-IsAntisymmetric (those s (is_due_at t)) q m in
    let parts = both_true (has s q) (is_due_at t q) there in
    (q, parts.0, eqb-true q.due t parts.1)

-- the events that are due are those that stand in a pair with the instant
pub due_listed : (s : Pendings) (t : ℕ) (e : Prioritised) → list_any (eq_by_cmp prioritised_cmp e) (due_events s t) ≡ has s (pending_at t e)
due_listed s t e =
    any-map (eq_by_cmp prioritised_cmp e) (λ p. p.event) ms
    ∙ both (list_any (λ p. eq_by_cmp prioritised_cmp e p.event) ms) (has s (pending_at t e))
    (λ found.
    let (q, m, same) = any_elim (λ (p : Pending). eq_by_cmp prioritised_cmp e p.event) ms found in
    let there : (has s q && is_due_at t q) ≡ true = sym (has-due s (is_due_at t) q) ∙ has_of_elem pending_cmp_total pending_cmp-IsAntisymmetric (those s (is_due_at t)) q m in
    let parts = both_true (has s q) (is_due_at t q) there in
    let event : e ≡ q.event = equal_by prioritised_cmp_total prioritised_cmp-IsAntisymmetric e q.event same in
    let due : q.due ≡ t = eqb-true q.due t parts.1 in
    let is : pending_at t e ≡ q = λ i. record { due = sym due i; event = event i } in
    ap (has s) is ∙ parts.0)
    (λ there.
    let due : has (those s (is_due_at t)) (pending_at t e) ≡ true = has-due s (is_due_at t) (pending_at t e) ∙ and_true (has s (pending_at t e)) _ there (eq-eqb t t refl) in
    any_intro (λ (p : Pending). eq_by_cmp prioritised_cmp e p.event) ms (pending_at t e) (elem_of_has pending_cmp_total pending_cmp-IsAntisymmetric (those s (is_due_at t)) (pending_at t e) due)
    (tied prioritised_cmp_total prioritised_cmp-IsAntisymmetric e e refl))
  where
    ms : List Pending
    ms = members (those s (is_due_at t))

-- the least due is the next instant at which something is
pub pending_next : (s : Pendings) (now : ℕ) (r : Option ℕ) → ((q : Pending) → has s q ≡ true → now < q.due) → (IsNone r ↔ (s ≡ none)) → IfSome r (IsLeastDue s)
    → IsNextOf (λ t. is_some_item (due_events s t)) now r
pending_next s now None later empty least = λ u low high.
    is_false (is_some_item (due_events s u))
    (λ e.
    let (q, there, at) = due_some s u e in
    clash (has s q) there (ap (λ (x : Pendings). has x q) (empty.0 refl) ∙ has-none pending_cmp q))
pending_next s now (Some t) later empty least =
    let past : now < t = later (pending_at t least.event) least.is_due in
    record {
      later = omega (arith, past);
      passes = some_due s t (pending_at t least.event) least.is_due refl;
      least = λ u low high.
          is_false (is_some_item (due_events s u))
          (λ e.
          let (q, there, at) = due_some s u e in
          let le : t ≤ q.due = least.least q there in
          absurd (omega (arith, le, at, high)));
    }
