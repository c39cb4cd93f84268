-- Each event of a set has its cause: it is raised from outside the set, or a trigger met in it adds it.
use Rattle.std.proofs.Common.{◌≡◌, ℕ, suc, ◌+◌, ◌-◌, ◌<◌, Bool, true, false, nat_eq, nat_lt, ◌&&◌, inl, inr, List, [], ◌∷◌, ◌++◌, flat_map, Some, refl, sym, ◌∙◌, ap, subst, arith, append_assoc, if◌then◌else◌}
use Rattle.std.proofs.lemmas.Bool.{eqb-true, ltb-true}
use Rattle.std.specs.List.{list_all}
use Rattle.gt_base.specs.declared.events.Fluent.{Fluent}
use Rattle.gt_base.specs.declared.events.Prioritised.{Prioritised}
use Rattle.gt_base.specs.declared.policies.LimitRule.{LimitRule}
use Rattle.gt_base.specs.declared.requests.Who.{Who}
use Rattle.gt_base.specs.declared.requests.Actor.{Actor}
use Rattle.gt_base.specs.declared.requests.Request.{Request}
use Rattle.gt_base.specs.declared.requests.Request.TheVariants.{Raise}
use Rattle.gt_base.specs.declared.requests.Reply.{Reply}
use Rattle.gt_base.specs.declared.requests.Reply.TheVariants.{Queued}
use Rattle.gt_base.specs.declared.requests.Step.{Step}
use Rattle.gt_base.specs.declared.requests.Step.TheVariants.{Tick, Ask}
use Rattle.gt_base.specs.declared.requests.Entry.{Entry}
use Rattle.gt_base.specs.Events.{converse}
use Rattle.gt_base.specs.Held.{TriggerView}
use Rattle.gt_base.specs.Machines.{asked}
use Rattle.gt_base.specs.Sets.{has}
use Rattle.gt_base.proofs.OrderLaws.{prioritised_cmp-IsAntisymmetric}
use Rattle.gt_base.proofs.SetSteps.{prioritised_cmp_total}
use Rattle.gtrbac_model.specs.Same.{same_prioritised}
use Rattle.gtrbac_model.specs.Policy.{Policy}
use Rattle.gtrbac_model.specs.Conflict.{Status}
use Rattle.gtrbac_model.specs.Trigger.{met, immediate}
use Rattle.gtrbac_model.specs.Instant.{Settled, supported, stands, grounded_after}
use Rattle.gtrbac_model.specs.Status.{Model, since}
use Rattle.gtrbac_model.specs.Graph.{item_at}
use Rattle.gtrbac_model.specs.Base.{when, raised_by, periodic, queued_at, queued_by, requested, is_ripe, limited_from, limited, delayed, status, raised_at, base_at}
use Rattle.gtrbac_model.specs.Reply.{Point, is_admin, actor_causes, raise_causes, answer, reply_of}
use Rattle.gtrbac_model.specs.History.{Legal, AreLegalAfter, IsLegalStep, point_after}
use Rattle.gtrbac_model.proofs.Elements.{Elem, both_true, either_true, any_elim, equal_by, elem_of_set_of}
use Rattle.history_laws.proofs.Members.{elem_of, is_in, of_join}
use Rattle.audit_laws.specs.Turning.{ByEntry, ByLimit, ByTrigger, ByRequest, HasCause, EachHasCause, OnlyRequestsRaise}
use Rattle.audit_laws.proofs.Activating.{is_true}
use Rattle.audit_laws.proofs.Answered.{passed, first_is}

flat_elem : {A B : Type 0} (f : A → List B) (xs : List A) (y : B) → Elem (flat_map f xs) y → (x : A) × Elem xs x × Elem (f x) y
flat_elem f [] y there = elim there [ ]
flat_elem f (x ∷ xs) y there =
    elim (of_join (f x) (flat_map f xs) y there) [
      | inl k ↦ (x, inl refl, k)
      | inr k ↦ let (z, among, at) = flat_elem f xs y k in (z, inr among, at)
    ]

of_when : {A : Type 0} (b : Bool) (a x : A) → Elem (when b a) x → (b ≡ true) × (x ≡ a)
of_when true a x (inl same) = (refl, same)
of_when true a x (inr none) = elim none [ ]
of_when false a x there = elim there [ ]

-- what a request queues, it asked for

record IsAsked (t : ℕ) (o : Prioritised) (request : Request) (reply : Reply) : Type 0 where
  delay : ℕ
  asked_so : request ≡ Raise o delay
  answered : reply ≡ Queued t

is_asked : (t : ℕ) (o : Prioritised) (request : Request) (reply : Reply) → Elem (queued_at t request reply) o → IsAsked t o request reply
is_asked t o (Raise head delay) (Queued due) there =
    let (on_time, same) = of_when (nat_eq due t) head o there in
    record { delay = delay; asked_so = ap (λ x. Raise x delay) (sym same); answered = ap Queued (eqb-true due t on_time) }
is_asked t o _ _ there = elim there [ ]

abbrev due_in : ℕ → Reply → ℕ
due_in n (Queued t) = t
due_in n _ = n

-- who was told that an event is queued may ask for it
queued : (p : Policy) (pt : Point) (actor : Actor) (o : Prioritised) (delay t : ℕ) → Queued t ≡ reply_of p pt actor (Raise o delay) → (is_admin p actor ≡ true) × (t ≡ pt.now + 1 + delay)
queued p pt actor o delay t e =
    let a = passed (actor_causes actor) (Queued t) (answer p pt actor (Raise o delay)) refl e in
    let b = passed (raise_causes p actor (pt.now + 1 + delay)) (Queued t) (Queued (pt.now + 1 + delay)) refl a.is in
    (is_true (is_admin p actor) (first_is b), ap (due_in t) b.is)

module _ (p : Policy) (birth : ℕ) (m : Model) (h : List Entry) (t : ℕ) (o : Prioritised) where
  by_entry : Elem (periodic p birth t) o → ByEntry p birth m h t o
  by_entry there =
      let (entry, among, raises) = flat_elem (raised_by p.periods birth t) p.entries o there in
      record { entry = entry; is = is_in p.entries entry among; raises = is_in (raised_by p.periods birth t entry) o raises }

  by_step : (g es : List Entry) (who : Who) (w : Step) → g ++ record { who = who; what = w } ∷ es ≡ h → IsLegalStep p birth m g w → Elem (queued_by t w) o → ByRequest p birth m h t o
  by_step g es who (Tick upto to) is legal there = elim there [ ]
  by_step g es who (Ask actor request reply) is legal there =
      let q : IsAsked t o request reply = is_asked t o request reply there in
      let answered : Queued t ≡ reply_of p (point_after p birth m g) actor (Raise o q.delay) = sym q.answered ∙ legal ∙ ap (reply_of p (point_after p birth m g) actor) q.asked_so in
      let (may, due) = queued p (point_after p birth m g) actor o q.delay t answered in
      record {
        front = g;
        rest = es;
        who = who;
        actor = actor;
        delay = q.delay;
        is_part = (λ i. g ++ asked who actor (sym q.asked_so i) (sym q.answered i) ∷ es) ∙ is;
        may_raise = may;
        due = due;
      }

  by_request : (g es : List Entry) → g ++ es ≡ h → AreLegalAfter p birth m g es → Elem (requested es t) o → ByRequest p birth m h t o
  by_request g [] is legal there = elim there [ ]
  by_request g (e ∷ es) is legal there =
      elim (of_join (queued_by t e.what) (requested es t) o there) [
        | inl k ↦ by_step g es e.who e.what is legal.0 k
        | inr k ↦ by_request (g ++ e ∷ []) es (append_assoc g (e ∷ []) es ∙ is) legal.1 k
      ]

  by_delayed : Elem (delayed p birth m t) o → ByTrigger p birth m h t o
  by_delayed there =
      let (r, among, raised) = flat_elem (λ r. if nat_lt 0 r.delay && nat_lt birth (t - r.delay) then when (met r (m (t - r.delay)) (status p birth m (t - r.delay - 1))) r.head else []) p.triggers o there in
      by r among (nat_lt 0 r.delay && nat_lt birth (t - r.delay)) refl raised
    where
      by : (r : TriggerView) → Elem p.triggers r → (b : Bool) → (nat_lt 0 r.delay && nat_lt birth (t - r.delay)) ≡ b → Elem (if b then when (met r (m (t - r.delay)) (status p birth m (t - r.delay - 1))) r.head else []) o → ByTrigger p birth m h t o
      by r among true e k =
          let (is_met, same) = of_when (met r (m (t - r.delay)) (status p birth m (t - r.delay - 1))) r.head o k in
          record { rule = r; is = is_in p.triggers r among; head = same; later = ltb-true birth (t - r.delay) (both_true (nat_lt 0 r.delay) _ e).1; is_met = is_met }
      by r among false e k = elim k [ ]

  by_limits : (n : ℕ) (ls : List LimitRule) → ((k : ℕ) (l : LimitRule) → item_at ls k ≡ Some l → item_at p.limits (n + k) ≡ Some l)
      → Elem (limited_from p.periods (status p birth m (t - 1)) (λ f. since p birth m f (t - 1)) n ls t) o → ByLimit p birth m h t o
  by_limits n [] at there = elim there [ ]
  by_limits n (l ∷ ls) at there =
      let before : Status = status p birth m (t - 1) in
      let last : Fluent → ℕ = λ f. since p birth m f (t - 1) in
      let ends : Prioritised = record { prio = l.prio; event = converse (record { on = l.cond.on; fluent = l.cond.fluent }) } in
      elim (of_join (when (is_ripe p.periods before last n l t) ends) (limited_from p.periods before last (n + 1) ls t) o there) [
        | inl k ↦
            let (ripe, same) = of_when (is_ripe p.periods before last n l t) ends o k in
            record { number = n; limit = l; is = ap (item_at p.limits) (first n) ∙ at 0 l refl; ripe = ripe; ends = same }
        | inr k ↦ by_limits (n + 1) ls (λ j x is. ap (item_at p.limits) (next n j) ∙ at (suc j) x is) k
      ]
    where
      first : (n : ℕ) → n ≡ n + 0
      first n = omega arith

      next : (n j : ℕ) → n + 1 + j ≡ n + suc j
      next n j = omega arith

  by_raised : AreLegalAfter p birth m [] h → Elem (raised_at p birth m h t) o → HasCause p birth m h t o
  by_raised legal there =
      let ends : List Prioritised = limited p (status p birth m (t - 1)) (λ f. since p birth m f (t - 1)) t in
      elim (of_join (periodic p birth t ++ requested h t ++ delayed p birth m t) ends o there) [
        | inr k ↦ inr (inl (by_limits 0 p.limits (λ j l is. ap (item_at p.limits) (omega arith) ∙ is) k))
        | inl j ↦ elim (of_join (periodic p birth t ++ requested h t) (delayed p birth m t) o j) [
          | inr k ↦ inr (inr (inl (by_delayed k)))
          | inl i ↦ elim (of_join (periodic p birth t) (requested h t) o i) [
            | inl k ↦ inl (by_entry k)
            | inr k ↦ inr (inr (inr (by_request [] h refl legal k)))
          ]
        ]
      ]

  module _ (legal : Legal p birth h m) (after_birth : birth < t) where
    at_once : (r : TriggerView) → Elem p.triggers r → immediate r ≡ true → met r (m t) (status p birth m (t - 1)) ≡ true → r.head ≡ o → ByTrigger p birth m h t o
    at_once r among now is_met same =
        let none : t - r.delay ≡ t = so t r.delay (eqb-true r.delay 0 now) in
        record {
          rule = r;
          is = is_in p.triggers r among;
          head = sym same;
          later = subst (λ u. birth < u) (sym none) after_birth;
          is_met = subst (λ u. met r (m u) (status p birth m (u - 1)) ≡ true) (sym none) is_met;
        }
      where
        so : (t d : ℕ) → d ≡ 0 → t - d ≡ t
        so t d e = omega (arith, e)

    by_support : (earlier : List Prioritised) → supported p.triggers (base_at p birth m h t) (status p birth m (t - 1)) (m t) earlier o ≡ true → HasCause p birth m h t o
    by_support earlier is =
        elim (either_true (has (base_at p birth m h t).events o) _ is) [
          | inl base ↦ by_raised legal.steps (elem_of_set_of prioritised_cmp_total prioritised_cmp-IsAntisymmetric (raised_at p birth m h t) o base)
          | inr heads ↦
              (let (r, among, ok) = any_elim (λ r. immediate r && same_prioritised r.head o && met r (m t) (status p birth m (t - 1)) && list_all (stands (m t) earlier) r.events) p.triggers heads in
              let three = both_true (immediate r && same_prioritised r.head o && met r (m t) (status p birth m (t - 1))) _ ok in
              let two = both_true (immediate r && same_prioritised r.head o) _ three.0 in
              let one = both_true (immediate r) _ two.0 in
              inr (inr (inl (at_once r among one.0 two.1 (equal_by prioritised_cmp_total prioritised_cmp-IsAntisymmetric r.head o one.1)))))
        ]

    by_ground : (earlier order : List Prioritised) → grounded_after p.triggers (base_at p birth m h t) (status p birth m (t - 1)) (m t) earlier order ≡ true → Elem order o → HasCause p birth m h t o
    by_ground earlier [] is there = elim there [ ]
    by_ground earlier (x ∷ xs) is (inl same) =
        by_support earlier (subst (λ x. supported p.triggers (base_at p birth m h t) (status p birth m (t - 1)) (m t) earlier x ≡ true) (sym same)
        (both_true (supported p.triggers (base_at p birth m h t) (status p birth m (t - 1)) (m t) earlier x) _ is).0)
    by_ground earlier (x ∷ xs) is (inr there) = by_ground (x ∷ earlier) xs (both_true (supported p.triggers (base_at p birth m h t) (status p birth m (t - 1)) (m t) earlier x) _ is).1 there

pub each_has_cause : EachHasCause
each_has_cause p birth m h legal t after_birth le o there =
    let settled : Settled p.triggers (base_at p birth m h t) (status p birth m (t - 1)) (m t) = legal.model t after_birth le in
    by_ground p birth m h t o legal after_birth [] settled.order settled.grounding.grounds
    (elem_of_set_of prioritised_cmp_total prioritised_cmp-IsAntisymmetric settled.order o (subst (λ es. has es o ≡ true) settled.grounding.lists there))

pub only_requests_raise : OnlyRequestsRaise
only_requests_raise p birth m h legal t o there = by_request p birth m h t o [] h refl legal.steps (elem_of (requested h t) o there)
