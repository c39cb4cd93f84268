-- A set that is full below a level, and in which no trigger of the level fires, is full at the level; full at all levels it is the
-- settled set.
use Rattle.std.proofs.Common.{◌≡◌, ℕ, ◌+◌, ◌<◌, ◌≤◌, true, false, not, nat_le, nat_lt, ◌&&◌, ◌||◌, inl, inr, List, [], ◌∷◌, refl, sym, ◌∙◌, ap, subst, arith}
use Rattle.std.specs.List.{list_all}
use Rattle.std.specs.Cmp.{both_ways}
use Rattle.std.proofs.lemmas.Bool.{ltb-true, ltb-false, leb-true}
use Rattle.std.specs.Ordering.{eq_by_cmp}
use Rattle.gt_base.specs.Orders.{prioritised_cmp}
use Rattle.gt_base.specs.Events.{converse}
use Rattle.gt_base.specs.Held.{TriggerView}
use Rattle.gt_base.specs.Happening.{HappenedView}
use Rattle.gt_base.specs.Sets.{members, has, set_of}
use Rattle.gt_base.specs.declared.events.Cond.{Cond}
use Rattle.gt_base.specs.declared.events.Event.{Event}
use Rattle.gt_base.specs.declared.events.Prioritised.{Prioritised}
use Rattle.gt_base.proofs.SetLaws.{same_sets, has-set_of}
use Rattle.gt_base.proofs.SetSteps.{prioritised_cmp_total}
use Rattle.gt_base.proofs.OrderLaws.{prioritised_cmp-IsAntisymmetric}
use Rattle.gtrbac_model.specs.Same.{same_event}
use Rattle.gtrbac_model.specs.Conflict.{Status, blocked, won, after, turns_on, turns_off}
use Rattle.gtrbac_model.specs.Trigger.{met, immediate, holds}
use Rattle.gtrbac_model.specs.Instant.{stands, supported, grounded_after, Settled}
use Rattle.gtrbac_model.specs.Safety.{is_node}
use Rattle.gtrbac_model.proofs.Elements.{Elem, both_true, and_true, implied, split, any_elim, any_intro, all_elim, all_intro, tied}
use Rattle.gtrbac_model.proofs.Meeting.{IsMet, parts_met, met_by}
use Rattle.gtrbac_model.proofs.Uniqueness.{In, elem, of_elem, Goes, blocked_alike, holds_alike, is_same_event, head_node, support, only_base_along, in_order, from_base}
use Rattle.gtrbac_model.proofs.Existence.{settled_set}
use Rattle.instant_engine.specs.OnTheWay.{IsSettledBelow}
use Rattle.gtrbac_model.proofs.Levels.{is_levelled, is_decided, are_levels}

lower : (c h n : ℕ) → c < h → h ≤ n → c < n
lower c h n p q = omega arith

below_top : (b h n o : ℕ) → o ≡ b → b ≤ h → h ≤ n → o ≤ n
below_top b h n o e p q = omega arith

exactly : (h e n : ℕ) → h ≡ e → n ≤ e → h ≤ n → h ≡ n
exactly h e n p q t = omega arith

at_most : (o n : ℕ) → o < n + 1 → o ≤ n
at_most o n h = omega arith

nothing_below : (n : ℕ) → n < 0 → ⊥
nothing_below n h = omega arith

has_in_set : (xs : List Prioritised) (o : Prioritised) → Elem xs o → has (set_of {R = prioritised_cmp} xs) o ≡ true
has_in_set xs o m = has-set_of prioritised_cmp_total xs o ∙ any_intro (eq_by_cmp prioritised_cmp o) xs o m (tied prioritised_cmp_total prioritised_cmp-IsAntisymmetric o o refl)

module _ (rules : List TriggerView) (base : HappenedView) (s : Status) (level : Event → ℕ) (levelled : are_levels rules level ≡ true) where
  abbrev IsSettled : HappenedView → Type 0
  IsSettled = Settled rules base s

  abbrev Below : ℕ → HappenedView → Type 0
  Below = IsSettledBelow rules base s level

  -- of an event that heads no immediate trigger a settled set has what the base has
  of_base : (y : HappenedView) → IsSettled y → (o : Prioritised) → is_node rules o.event ≡ false → In y o → In base o
  of_base y is o n h = only_base_along rules base s level levelled y [] is.order is.grounding.grounds o (in_order rules base s level levelled y is o h) n

  pub at_first : Below 0 base
  at_first =
      record {
        has_base = λ o h. h;
        within = λ y is o h. from_base rules base s level levelled y is o h;
        full = λ y is o node low h. absurd (nothing_below (level o.event) low);
        signals = refl;
      }

  module _ (x : HappenedView) (n : ℕ) (so_far : Below n x) (y : HappenedView) (is : IsSettled y) where
    back : (f : Event) → (is_node rules f ≡ true → level f < n) → Goes y x f
    back f low o e h =
        split (is_node rules o.event)
        (λ t. so_far.full y is o t (subst (λ z. level z < n) (sym e) (low (subst (λ z. is_node rules z ≡ true) e t))) h)
        (λ t. so_far.has_base o (of_base y is o t h))

    levels_of : (r : TriggerView) → Elem rules r → immediate r ≡ true → (b : Event) → Elem r.events b
        → ((not (is_node rules b) || nat_le (level b) (level r.head.event)) ≡ true) × ((not (is_node rules (converse b)) || nat_lt (level (converse b)) (level r.head.event)) ≡ true)
    levels_of r m i b mb = both_true _ _ (all_elim (is_levelled rules level r) r.events b (both_true _ _ (implied _ _ (all_elim _ rules r levelled m) i)).0 mb)

    -- a settled condition of a trigger of the level holds after both alike
    decided_alike : (r : TriggerView) → Elem rules r → immediate r ≡ true → level r.head.event ≤ n → (c : Cond) → Elem r.settled c → holds (after x s) c ≡ holds (after y s) c
    decided_alike r m i top c mc =
        let decided = all_elim (is_decided rules level r) r.settled c (both_true _ _ (implied _ _ (all_elim _ rules r levelled m) i)).1 mc in
        let lv = both_true (not (is_node rules (turns_on c.fluent)) || nat_lt (level (turns_on c.fluent)) (level r.head.event)) (not (is_node rules (turns_off c.fluent)) || nat_lt (level (turns_off c.fluent)) (level r.head.event)) decided in
        holds_alike x y s c ((λ p q h. so_far.within y is p h), low (turns_on c.fluent) lv.0) ((λ p q h. so_far.within y is p h), low (turns_off c.fluent) lv.1)
      where
        low : (f : Event) → (not (is_node rules f) || nat_lt (level f) (level r.head.event)) ≡ true → Goes y x f
        low f h = back f (λ node. lower (level f) (level r.head.event) n (ltb-true _ _ (implied _ _ h node)) top)

    -- the two block a body event of a trigger of the level alike
    alike : (r : TriggerView) → Elem rules r → immediate r ≡ true → level r.head.event ≤ n → (b : Event) → Elem r.events b → (o : Prioritised) → o.event ≡ b → blocked x o ≡ blocked y o
    alike r m i top b mb o e =
        blocked_alike x y o (λ p q h. so_far.within y is p h)
        (back (converse o.event) (λ node.
        lower (level (converse o.event)) (level r.head.event) n
        (subst (λ z. level (converse z) < level r.head.event) (sym e) (ltb-true _ _ (implied _ _ (levels_of r m i b mb).1 (subst (λ z. is_node rules (converse z) ≡ true) e node))))
        top))

    won_on : (r : TriggerView) → Elem rules r → immediate r ≡ true → level r.head.event ≤ n → (b : Event) → Elem r.events b → won x b ≡ true → won y b ≡ true
    won_on r m i top b mb w =
        let (o, k, h) = any_elim (λ o. same_event o.event b && not (blocked x o)) (members x.events) w in
        let t : (same_event o.event b ≡ true) × (not (blocked x o) ≡ true) = both_true _ _ h in
        any_intro _ (members y.events) o (elem y o (so_far.within y is o (of_elem x o k)))
        (and_true _ _ t.0 (ap not (sym (alike r m i top b mb o (is_same_event _ _ t.0))) ∙ t.1))

    met_on : (r : TriggerView) → Elem rules r → immediate r ≡ true → level r.head.event ≤ n → met r x s ≡ true → met r y s ≡ true
    met_on r m i top h =
        let u : IsMet r x s = parts_met r x s h in
        met_by r y s
        (record {
          events = all_intro (won y) r.events (λ b mb. won_on r m i top b mb (all_elim (won x) r.events b u.events mb));
          signals = subst (λ g. list_all (has g) r.signals ≡ true) (so_far.signals ∙ sym is.signals) u.signals;
          conds = u.conds;
          settled = all_intro (holds (after y s)) r.settled (λ c mc. sym (decided_alike r m i top c mc) ∙ all_elim (holds (after x s)) r.settled c u.settled mc);
        })

    -- the head of a trigger that is met here stands in the settled set
    pub supports : (r : TriggerView) → Elem rules r → immediate r ≡ true → level r.head.event ≤ n → met r x s ≡ true → In y r.head
    supports r m i top h = implied _ _ (all_elim (λ r. not (immediate r && met r y s) || has y.events r.head) rules r (both_true _ _ is.is_closed).1 m) (and_true _ _ i (met_on r m i top h))

    module _ (quiet : (r : TriggerView) → Elem rules r → immediate r ≡ true → level r.head.event ≡ n → met r x s ≡ true → In x r.head) where
      abbrev Low : Prioritised → Type 0
      Low o = is_node rules o.event ≡ true → level o.event ≤ n

      -- a body event that stands in the settled set is won here
      wins : (earlier : List Prioritised) → ((o : Prioritised) → Elem earlier o → Low o → In x o)
          → (r : TriggerView) → Elem rules r → immediate r ≡ true → level r.head.event ≤ n → (b : Event) → Elem r.events b → stands y earlier b ≡ true → won x b ≡ true
      wins earlier known r m i top b mb st =
          let (o, mo, h) = any_elim (λ o. same_event o.event b && not (blocked y o)) earlier st in
          let t : (same_event o.event b ≡ true) × (not (blocked y o) ≡ true) = both_true _ _ h in
          let is_b : o.event ≡ b = is_same_event _ _ t.0 in
          let low : Low o = λ node.
          let le : level b ≤ level r.head.event = leb-true _ _ (implied _ _ (levels_of r m i b mb).0 (subst (λ f. is_node rules f ≡ true) is_b node)) in
          below_top (level b) (level r.head.event) n (level o.event) (ap level is_b) le top in
          any_intro _ (members x.events) o (elem x o (known o mo low)) (and_true _ _ t.0 (ap not (alike r m i top b mb o is_b) ∙ t.1))

      met_too : (earlier : List Prioritised) → ((o : Prioritised) → Elem earlier o → Low o → In x o)
          → (r : TriggerView) → Elem rules r → immediate r ≡ true → level r.head.event ≤ n → met r y s ≡ true → list_all (stands y earlier) r.events ≡ true → met r x s ≡ true
      met_too earlier known r m i top mt st =
          let u : IsMet r y s = parts_met r y s mt in
          met_by r x s
          (record {
            events = all_intro (won x) r.events (λ b mb. wins earlier known r m i top b mb (all_elim (stands y earlier) r.events b st mb));
            signals = subst (λ g. list_all (has g) r.signals ≡ true) (is.signals ∙ sym so_far.signals) u.signals;
            conds = u.conds;
            settled = all_intro (holds (after x s)) r.settled (λ c mc. decided_alike r m i top c mc ∙ all_elim (holds (after y s)) r.settled c u.settled mc);
          })

      here : (earlier : List Prioritised) → ((o : Prioritised) → Elem earlier o → Low o → In x o) → (e : Prioritised) → supported rules base s y earlier e ≡ true → In y e → Low e → In x e
      here earlier known e sup there low =
          elim (support rules base s level levelled y earlier e sup) [
            | inl b ↦ so_far.has_base e b
            | inr r ↦
                let node : is_node rules e.event ≡ true = subst (λ p. is_node rules p.event ≡ true) r.1.2 (head_node rules base s level levelled r.0 r.1.0 r.1.1) in
                let top : level r.0.head.event ≤ n = subst (λ p. level p.event ≤ n) (sym r.1.2) (low node) in
                split (nat_lt (level e.event) n)
                (λ t. so_far.full y is e node (ltb-true _ _ t) there)
                (λ t.
                subst (In x) r.1.2
                (quiet r.0 r.1.0 r.1.1 (exactly (level r.0.head.event) (level e.event) n (ap (λ p. level p.event) r.1.2) (ltb-false _ _ t) top)
                (met_too earlier known r.0 r.1.0 r.1.1 top r.1.3 r.1.4)))
          ]

      along : (earlier rest : List Prioritised) → grounded_after rules base s y earlier rest ≡ true → ((o : Prioritised) → Elem rest o → In y o) → ((o : Prioritised) → Elem earlier o → Low o → In x o)
          → (o : Prioritised) → Elem rest o → Low o → In x o
      along earlier [] g there known o m low = elim m [ ]
      along earlier (e ∷ es) g there known o (inl q) low = subst (In x) (sym q) (here earlier known e (both_true _ _ g).0 (there e (inl refl)) (subst Low q low))
      along earlier (e ∷ es) g there known o (inr m) low = along (e ∷ earlier) es (both_true _ _ g).1 (λ p k. there p (inr k)) more o m low
        where
          more : (p : Prioritised) → Elem (e ∷ earlier) p → Low p → In x p
          more p (inl q) lp = subst (In x) (sym q) (here earlier known e (both_true _ _ g).0 (there e (inl refl)) (subst Low q lp))
          more p (inr mp) lp = known p mp lp

      of_order : (o : Prioritised) → Elem is.order o → In y o
      of_order o m = subst (λ z. has z o ≡ true) (sym is.grounding.lists) (has_in_set is.order o m)

      pub full_at : (o : Prioritised) → is_node rules o.event ≡ true → level o.event < n + 1 → In y o → In x o
      full_at o node low h = along [] is.order is.grounding.grounds of_order (λ p m. elim m [ ]) o (in_order rules base s level levelled y is o h) (λ t. at_most (level o.event) n low)

  -- where no trigger of the level fires, the next level is reached
  pub next_level : (x : HappenedView) (n : ℕ) → Below n x → ((r : TriggerView) → Elem rules r → immediate r ≡ true → level r.head.event ≡ n → met r x s ≡ true → In x r.head) → Below (n + 1) x
  next_level x n so_far quiet =
      record {
        has_base = so_far.has_base;
        within = so_far.within;
        full = λ y is o node low h. full_at x n so_far y is quiet o node low h;
        signals = so_far.signals;
      }

  is_settled : (x : HappenedView) (n : ℕ) → Below n x → ((e : Event) → is_node rules e ≡ true → level e < n) → (y : HappenedView) → IsSettled y → y ≡ x
  is_settled x n so_far all y is =
      let events : y.events ≡ x.events = same_sets prioritised_cmp_total prioritised_cmp-IsAntisymmetric y.events x.events (λ o. both_ways _ _ (back x n so_far y is o.event (all o.event) o refl) (so_far.within y is o)) in
      let signals : y.signals ≡ x.signals = is.signals ∙ sym so_far.signals in
      λ i. record { events = events i; signals = signals i }

  -- full at all levels, it is the one settled set
  pub settles : (x : HappenedView) (n : ℕ) → Below n x → ((e : Event) → is_node rules e ≡ true → level e < n) → IsSettled x × ((y : HappenedView) → IsSettled y → y ≡ x)
  settles x n so_far all =
      let (y, is) = settled_set rules base s level levelled in
      (subst IsSettled (is_settled x n so_far all y is) is, is_settled x n so_far all)
