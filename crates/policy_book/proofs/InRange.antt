-- What lines say in numbers is in range.
use Rattle.std.proofs.Common.{◌≡◌, ℕ, ◌+◌, ◌≤◌, ◌<◌, Bool, true, false, ◌||◌, ◌&&◌, List, [], ◌∷◌, length, Option, Some, None, is_some, refl, sym, ap, ◌∙◌, subst, arith, nat_le, nat_lt}
use Rattle.std.specs.List.{list_any, list_all, filter_map, cons_option}
use Rattle.std.specs.Prelude.{position}
use Rattle.std.proofs.lemmas.List.Quantifiers.{position-Some}
use Rattle.std.proofs.lemmas.Option.{none-some}
use Rattle.std.proofs.lemmas.Bool.{lt-ltb, leb-true, le-leb, eqb-true, or_right}
use Rattle.gt_base.specs.Held.{TriggerView}
use Rattle.gt_base.specs.Names.{is_name, place_of}
use Rattle.gt_base.specs.declared.events.RoleId.{RoleId}
use Rattle.gt_base.specs.declared.events.UserId.{UserId}
use Rattle.gt_base.specs.declared.events.PermId.{PermId}
use Rattle.gt_base.specs.declared.events.LimitId.{LimitId}
use Rattle.gt_base.specs.declared.events.PeriodId.{PeriodId}
use Rattle.gt_base.specs.declared.events.Fluent.{Fluent}
use Rattle.gt_base.specs.declared.events.Fluent.TheVariants as base
use Rattle.gt_base.specs.declared.events.Event.{Event as BaseEvent}
use Rattle.gt_base.specs.declared.events.Signal.{Signal as BaseSignal}
use Rattle.gt_base.specs.declared.events.Cond.{Cond as BaseCond}
use Rattle.gt_base.specs.declared.events.Prioritised.{Prioritised}
use Rattle.gt_base.specs.declared.policies.PeriodicEntry.{PeriodicEntry}
use Rattle.gt_base.specs.declared.policies.LimitRule.{LimitRule}
use Rattle.gt_base.specs.declared.policies.HierEdge.{HierEdge}
use Rattle.gt_base.specs.declared.limits.TheConstants.{LAST_MINUTE}
use Rattle.gtrbac_model.specs.Period.{Period}
use Rattle.gtrbac_model.specs.Policy.{Policy}
use Rattle.gtrbac_model.specs.Same.{same_role}
use Rattle.gtrbac_model.proofs.Elements.{both_true, and_true}
use Rattle.gtrbac_model.specs.Valid.{is_period}
use Rattle.gtrbac_model.specs.WholePolicy.{is_fluent, is_signal, is_entry, is_limit, is_edge, is_rule, has_cause, joins_same}
use Rattle.gtrbac_model.specs.WholePolicy as policies
use Rattle.gtrbac_model.specs.History.{is_some_item}
use Rattle.policy_words.specs.declared.parts.NamedFluent.{NamedFluent}
use Rattle.policy_words.specs.declared.parts.NamedFluent.TheVariants as fluents
use Rattle.policy_words.specs.declared.parts.NamedEvent.{NamedEvent}
use Rattle.policy_words.specs.declared.parts.NamedCond.{NamedCond}
use Rattle.policy_words.specs.declared.parts.NamedSignal.{NamedSignal}
use Rattle.policy_words.specs.declared.parts.NamedHead.{NamedHead}
use Rattle.policy_words.specs.declared.parts.Item.{Item}
use Rattle.policy_words.specs.declared.parts.Item.TheVariants.{Event, Signal, Cond, Settled}
use Rattle.policy_words.specs.declared.sayings.EdgeKind.{EdgeKind}
use Rattle.policy_words.specs.declared.sayings.EdgeKind.TheVariants.{I, A, Ia}
use Rattle.policy_words.specs.Wording.{fluent_names}
use Rattle.policy_words.specs.Sayings.{SaidView, period, limit, edge, opening, entry, trigger, is_saying, is_formed, is_cause, is_head, is_item, is_count, are_names}
use Rattle.policy_words.specs.declared.claims.Claim.TheVariants as claims
use Rattle.policy_words.specs.Naming.{Names, same_pair, role_of, user_of, perm_of, period_of, limit_of, fluent_of, event_of, cond_of, signal_of, head_of}
use Rattle.policy_words.specs.Making.{inherits, activates, period_said, during_of, limit_said, edge_said, entry_said, opening_said, event_in, signal_in, cond_in, settled_in, rule_said}
use Rattle.policy_words.specs.declared.sayings.Kind.TheVariants as kinds
use Rattle.policy_words.specs.LinesTogether.{is_known, is_known_item, claim_of, may_be_again, is_of}
use Rattle.policy_book.proofs.Lists.{bound, some_same, same_bytes}
use Rattle.policy_book.proofs.Places.{place_below, one_place}
use Rattle.policy_book.proofs.Naming.{formed}
use Rattle.policy_book.proofs.Clashes.{clashes, clash_by}

-- numbers of names

module _ (ns : Names) where
  pub role_below : (n : List ℕ) (r : RoleId) → role_of ns n ≡ Some r → nat_lt r.0 (length ns.roles) ≡ true
  role_below n r e = let (k, p, s) = bound (place_of ns.roles n) _ r e in lt-ltb _ _ (subst (λ z. z.0 < length ns.roles) (some_same _ _ s) (place_below ns.roles n k p))

  pub user_below : (n : List ℕ) (u : UserId) → user_of ns n ≡ Some u → nat_lt u.0 (length ns.users) ≡ true
  user_below n r e = let (k, p, s) = bound (place_of ns.users n) _ r e in lt-ltb _ _ (subst (λ z. z.0 < length ns.users) (some_same _ _ s) (place_below ns.users n k p))

  pub perm_below : (n : List ℕ) (q : PermId) → perm_of ns n ≡ Some q → nat_lt q.0 (length ns.perms) ≡ true
  perm_below n r e = let (k, p, s) = bound (place_of ns.perms n) _ r e in lt-ltb _ _ (subst (λ z. z.0 < length ns.perms) (some_same _ _ s) (place_below ns.perms n k p))

  pub period_below : (n : List ℕ) (q : PeriodId) → period_of ns n ≡ Some q → nat_lt q.0 (length ns.periods) ≡ true
  period_below n r e = let (k, p, s) = bound (place_of ns.periods n) _ r e in lt-ltb _ _ (subst (λ z. z.0 < length ns.periods) (some_same _ _ s) (place_below ns.periods n k p))

  pub limit_below : (n : List ℕ) (l : LimitId) → limit_of ns n ≡ Some l → nat_lt l.0 (length ns.limits) ≡ true
  limit_below n r e = let (k, p, s) = bound (place_of ns.limits n) _ r e in lt-ltb _ _ (subst (λ z. z.0 < length ns.limits) (some_same _ _ s) (place_below ns.limits n k p))

  -- names of one role are one name
  pub one_role : (n m : List ℕ) (a b : RoleId) → role_of ns n ≡ Some a → role_of ns m ≡ Some b → same_role a b ≡ true → n ≡ m
  one_role n m a b p q e =
      let (k, i, s) = bound (place_of ns.roles n) _ a p in
      let (l, j, t) = bound (place_of ns.roles m) _ b q in
      one_place ns.roles n m k l i j (ap (λ z. z.0) (some_same _ _ s) ∙ eqb-true a.0 b.0 e ∙ sym (ap (λ z. z.0) (some_same _ _ t)))

-- the policy counts as many of each kind as there are names
pub record IsSized (ns : Names) (p : Policy) : Type 0 where
  pub roles : p.roles ≡ length ns.roles
  pub users : p.users ≡ length ns.users
  pub perms : p.perms ≡ length ns.perms
  pub periods : length p.periods ≡ length ns.periods
  pub limits : length p.limits ≡ length ns.limits
  pub edges : length p.edges ≡ length ns.edges

module _ (ns : Names) (p : Policy) (sized : IsSized ns p) where
  role_in : (n : List ℕ) (r : RoleId) → role_of ns n ≡ Some r → nat_lt r.0 p.roles ≡ true
  role_in n r e = subst (λ z. nat_lt r.0 z ≡ true) (sym sized.roles) (role_below ns n r e)

  user_in : (n : List ℕ) (u : UserId) → user_of ns n ≡ Some u → nat_lt u.0 p.users ≡ true
  user_in n u e = subst (λ z. nat_lt u.0 z ≡ true) (sym sized.users) (user_below ns n u e)

  perm_in : (n : List ℕ) (q : PermId) → perm_of ns n ≡ Some q → nat_lt q.0 p.perms ≡ true
  perm_in n q e = subst (λ z. nat_lt q.0 z ≡ true) (sym sized.perms) (perm_below ns n q e)

  period_in : (n : List ℕ) (q : PeriodId) → period_of ns n ≡ Some q → nat_lt q.0 (length p.periods) ≡ true
  period_in n q e = subst (λ z. nat_lt q.0 z ≡ true) (sym sized.periods) (period_below ns n q e)

  limit_in : (n : List ℕ) (l : LimitId) → limit_of ns n ≡ Some l → nat_lt l.0 (length p.limits) ≡ true
  limit_in n l e = subst (λ z. nat_lt l.0 z ≡ true) (sym sized.limits) (limit_below ns n l e)

  pub fluent_in : (f : NamedFluent) (g : Fluent) → fluent_of ns f ≡ Some g → is_fluent p g ≡ true
  fluent_in (fluents.Enabled r) g e =
      let (a, i, s) = bound (role_of ns r) _ g e in
      subst (λ z. is_fluent p z ≡ true) (some_same (base.Enabled a) g s) (role_in r a i)
  fluent_in (fluents.Assigned u r) g e =
      let (a, i, s) = bound (user_of ns u) _ g e in
      let (b, j, t) = bound (role_of ns r) _ g s in
      subst (λ z. is_fluent p z ≡ true) (some_same (base.Assigned a b) g t) (and_true _ _ (user_in u a i) (role_in r b j))
  fluent_in (fluents.Granted q r) g e =
      let (a, i, s) = bound (perm_of ns q) _ g e in
      let (b, j, t) = bound (role_of ns r) _ g s in
      subst (λ z. is_fluent p z ≡ true) (some_same (base.Granted a b) g t) (and_true _ _ (perm_in q a i) (role_in r b j))
  fluent_in (fluents.Limit l) g e =
      let (a, i, s) = bound (limit_of ns l) _ g e in
      subst (λ z. is_fluent p z ≡ true) (some_same (base.Limit a) g s) (limit_in l a i)
  fluent_in (fluents.Edge a b) g e =
      let (s, _, q) = bound (role_of ns a) _ g e in
      let (j, _, t) = bound (role_of ns b) _ g q in
      let (k, i, u) = bound (position (same_pair (a, b)) ns.edges) _ g t in
      subst (λ z. is_fluent p z ≡ true) (some_same (base.Edge k) g u)
      (lt-ltb _ _ (subst (λ z. k < z) (sym sized.edges) (position-Some (same_pair (a, b)) ns.edges k ([], []) i).0))

  event_fluent : (e : NamedEvent) (g : BaseEvent) → event_of ns e ≡ Some g → is_fluent p g.fluent ≡ true
  event_fluent e g q =
      let (f, i, s) = bound (fluent_of ns e.fluent) _ g q in
      subst (λ z. is_fluent p z.fluent ≡ true) (some_same _ _ s) (fluent_in e.fluent f i)

  cond_fluent : (c : NamedCond) (g : BaseCond) → cond_of ns c ≡ Some g → is_fluent p g.fluent ≡ true
  cond_fluent c g q =
      let (f, i, s) = bound (fluent_of ns c.fluent) _ g q in
      subst (λ z. is_fluent p z.fluent ≡ true) (some_same _ _ s) (fluent_in c.fluent f i)

  signal_there : (c : NamedSignal) (g : BaseSignal) → signal_of ns c ≡ Some g → is_signal p g ≡ true
  signal_there c g q =
      let (a, i, s) = bound (user_of ns c.user) _ g q in
      let (b, j, t) = bound (role_of ns c.role) _ g s in
      subst (λ z. is_signal p z ≡ true) (some_same _ _ t) (and_true _ _ (user_in c.user a i) (role_in c.role b j))

  head_there : (h : NamedHead) (g : Prioritised) → head_of ns h ≡ Some g → nat_le h.prio 99 ≡ true → policies.is_head p g ≡ true
  head_there h g q le =
      let (e, i, s) = bound (event_of ns h.event) _ g q in
      subst (λ z. policies.is_head p z ≡ true) (some_same _ _ s) (and_true _ _ le (event_fluent h.event e i))

  pub opening_there : (x : SaidView) (g : Fluent) → opening_said ns x ≡ Some g → is_fluent p g ≡ true
  opening_there (opening f) g e = fluent_in f g e
  opening_there _ g e = absurd (none-some g e)

  pub edge_there : (x : SaidView) (g : HierEdge) → edge_said ns x ≡ Some g → is_edge p g ≡ true
  edge_there (edge kind strong s j) g e =
      let (a, i, t) = bound (role_of ns s) _ g e in
      let (b, k, u) = bound (role_of ns j) _ g t in
      subst (λ z. is_edge p z ≡ true) (some_same _ _ u) (and_true (nat_lt a.0 p.roles && nat_lt b.0 p.roles) _ (and_true _ _ (role_in s a i) (role_in j b k)) (either kind))
    where
      either : (k : EdgeKind) → (inherits k || activates k) ≡ true
      either I = refl
      either A = refl
      either Ia = refl
  edge_there _ g e = absurd (none-some g e)

  pub entry_there : (x : SaidView) → is_saying x ≡ true → (g : PeriodicEntry) → entry_said ns x ≡ Some g → is_entry p g ≡ true
  entry_there (entry f n h) said g e =
      let (a, i, t) = bound (period_of ns n) _ g e in
      let (b, k, u) = bound (head_of ns h) _ g t in
      let parts = both_true (is_name n) _ (formed (entry f n h) said) in
      subst (λ z. is_entry p z ≡ true) (some_same _ _ u) (and_true _ _ (period_in n a i) (head_there h b k (both_true (nat_le h.prio 99) _ parts.1).0))
  entry_there _ said g e = absurd (none-some g e)

  pub limit_there : (x : SaidView) → is_saying x ≡ true → (g : LimitRule) → limit_said ns x ≡ Some g → is_limit p g ≡ true
  limit_there (limit n prio c most during) said g e =
      let (a, i, t) = bound (cond_of ns c) _ g e in
      let (b, k, u) = bound (during_of ns during) _ g t in
      let parts = both_true (is_name n && nat_le prio 99 && are_names (fluent_names c.fluent) && is_count most) _ (formed (limit n prio c most during) said) in
      let counted = both_true (is_name n && nat_le prio 99 && are_names (fluent_names c.fluent)) _ parts.0 in
      let le = (both_true (is_name n) _ (both_true (is_name n && nat_le prio 99) _ counted.0).0).1 in
      let most_in = both_true (nat_le 1 most) _ counted.1 in
      subst (λ z. is_limit p z ≡ true) (some_same _ _ u)
      (and_true (is_fluent p a.fluent && nat_le prio 99 && nat_le 1 most && nat_le most 1_000_000) _
      (and_true (is_fluent p a.fluent && nat_le prio 99 && nat_le 1 most) _ (and_true (is_fluent p a.fluent && nat_le prio 99) _ (and_true (is_fluent p a.fluent) _ (cond_fluent c a i) le) most_in.0) most_in.1)
      (within during b k))
    where
      within : (d : Option (List ℕ)) (o : Option PeriodId) → during_of ns d ≡ Some o → elim o [ None ↦ true | Some q ↦ nat_lt q.0 (length p.periods) ] ≡ true
      within None o s = subst (λ z. elim z [ None ↦ true | Some q ↦ nat_lt q.0 (length p.periods) ] ≡ true) (some_same None o s) refl
      within (Some n) o s =
          let (q, i, t) = bound (period_of ns n) _ o s in
          subst (λ z. elim z [ None ↦ true | Some q ↦ nat_lt q.0 (length p.periods) ] ≡ true) (some_same _ _ t) (period_in n q i)
  limit_there _ said g e = absurd (none-some g e)

pub period_there : (ns : Names) (x : SaidView) → is_saying x ≡ true → (g : Period) → period_said ns x ≡ Some g → is_period g ≡ true
period_there ns (period n first last ex) said g e =
    let parts = both_true (is_name n && nat_le first LAST_MINUTE && nat_le last LAST_MINUTE) _ (formed (period n first last ex) said) in
    let ends = both_true (is_name n && nat_le first LAST_MINUTE) _ parts.0 in
    let order = (both_true (is_formed (period n first last ex)) _ (both_true (is_formed (period n first last ex) && nat_le first last) _ said).0).1 in
    subst (λ z. is_period z ≡ true) (some_same _ _ e) (and_true (nat_le first last && nat_le last LAST_MINUTE) _ (and_true (nat_le first last) _ order ends.1) parts.1)
period_there ns _ said g e = absurd (none-some g e)

-- edges of one pair clash

pub edge_claims : (ns : Names) (x : SaidView) (g : HierEdge) → edge_said ns x ≡ Some g
    → (s : List ℕ) × (j : List ℕ) × (role_of ns s ≡ Some g.senior) × (role_of ns j ≡ Some g.junior) × (claim_of x ≡ Some (claims.Edge s j))
edge_claims ns (edge kind strong s j) g e =
    let (a, i, t) = bound (role_of ns s) _ g e in
    let (b, k, u) = bound (role_of ns j) _ g t in
    (s, j, i ∙ ap (λ z. Some z.senior) (some_same _ _ u), k ∙ ap (λ z. Some z.junior) (some_same _ _ u), refl)
edge_claims ns _ g e = absurd (none-some g e)

edge_once : (ns : Names) (x : SaidView) (g : HierEdge) → edge_said ns x ≡ Some g → (may_be_again x ≡ false) × (is_of kinds.Edges x ≡ true)
edge_once ns (edge kind strong s j) g e = (refl, refl)
edge_once ns _ g e = absurd (none-some g e)

pub edge_counts : (ns : Names) (x : SaidView) (g : HierEdge) → edge_said ns x ≡ Some g → is_of kinds.Edges x ≡ true
edge_counts ns x g e = (edge_once ns x g e).1

pub entry_counts : (ns : Names) (x : SaidView) (g : PeriodicEntry) → entry_said ns x ≡ Some g → is_of kinds.Entries x ≡ true
entry_counts ns (entry f n h) g e = refl
entry_counts ns _ g e = absurd (none-some g e)

pub rule_counts : (ns : Names) (x : SaidView) (g : TriggerView) → rule_said ns x ≡ Some g → is_of kinds.Triggers x ≡ true
rule_counts ns (trigger items h d) g e = refl
rule_counts ns _ g e = absurd (none-some g e)

pub edges_clash : (ns : Names) (x y : SaidView) (g h : HierEdge) → edge_said ns x ≡ Some g → edge_said ns y ≡ Some h → joins_same g h ≡ true → clashes x y ≡ true
edges_clash ns x y g h p q e =
    let (s, j, i, k, c) = edge_claims ns x g p in
    let (t, l, m, o, d) = edge_claims ns y h q in
    let both = both_true (same_role g.senior h.senior) _ e in
    clash_by x y (claims.Edge s j) (claims.Edge t l) c d (edge_once ns y h q).0
    (and_true _ _ (same_bytes t s (sym (one_role ns s t g.senior h.senior i m both.0))) (same_bytes l j (sym (one_role ns j l g.junior h.junior k o both.1))))

-- triggers

module _ (ns : Names) (p : Policy) (sized : IsSized ns p) where
  abbrev events_of : List Item → List BaseEvent
  events_of items = filter_map (event_in ns) items

  abbrev signals_of : List Item → List BaseSignal
  signals_of items = filter_map (signal_in ns) items

  abbrev conds_of : List Item → List BaseCond
  conds_of items = filter_map (cond_in ns) items

  abbrev settled_of : List Item → List BaseCond
  settled_of items = filter_map (settled_in ns) items

  event_item : (i : Item) (g : BaseEvent) → event_in ns i ≡ Some g → is_fluent p g.fluent ≡ true
  event_item (Event e) g q = event_fluent ns p sized e g q
  event_item _ g q = absurd (none-some g q)

  signal_item : (i : Item) (g : BaseSignal) → signal_in ns i ≡ Some g → is_signal p g ≡ true
  signal_item (Signal s) g q = signal_there ns p sized s g q
  signal_item _ g q = absurd (none-some g q)

  cond_item : (i : Item) (g : BaseCond) → cond_in ns i ≡ Some g → is_fluent p g.fluent ≡ true
  cond_item (Cond c) g q = cond_fluent ns p sized c g q
  cond_item _ g q = absurd (none-some g q)

  settled_item : (i : Item) (g : BaseCond) → settled_in ns i ≡ Some g → is_fluent p g.fluent ≡ true
  settled_item (Settled c) g q = cond_fluent ns p sized c g q
  settled_item _ g q = absurd (none-some g q)

  each_kept : {B : Type 0} (decl : Item → Option B) (test : B → Bool) → ((i : Item) (g : B) → decl i ≡ Some g → test g ≡ true) → (items : List Item) → list_all test (filter_map decl items) ≡ true
  each_kept decl test on [] = refl
  each_kept {B} decl test on (i ∷ is) = by (decl i) refl (each_kept decl test on is)
    where
      by : (o : Option B) → decl i ≡ o → list_all test (filter_map decl is) ≡ true → list_all test (cons_option o (filter_map decl is)) ≡ true
      by None e k = k
      by (Some g) e k = and_true (test g) _ (on i g e) k

  -- how many the rule of these items has
  abbrev count : List Item → ℕ
  count items = length (events_of items) + length (signals_of items) + length (conds_of items) + length (settled_of items)

  at_most_one : {A : Type 0} (o : Option A) (xs : List A) → length (cons_option o xs) ≤ length xs + 1
  at_most_one None xs = omega arith
  at_most_one (Some x) xs = omega arith

  no_longer : (items : List Item) → count items ≤ length items
  no_longer [] = omega arith
  no_longer (Event e ∷ is) = omega (arith, at_most_one (event_of ns e) (events_of is), no_longer is)
  no_longer (Signal s ∷ is) = omega (arith, at_most_one (signal_of ns s) (signals_of is), no_longer is)
  no_longer (Cond c ∷ is) = omega (arith, at_most_one (cond_of ns c) (conds_of is), no_longer is)
  no_longer (Settled c ∷ is) = omega (arith, at_most_one (cond_of ns c) (settled_of is), no_longer is)

  pub rule_there : (x : SaidView) → is_saying x ≡ true → (g : TriggerView) → rule_said ns x ≡ Some g → is_rule p g ≡ true
  rule_there (trigger items h d) said g e =
      let (b, k, u) = bound (head_of ns h) _ g e in
      let parts = both_true (is_some_item items && list_all is_item items && is_head h) _ (formed (trigger items h d) said) in
      let prio = (both_true (nat_le h.prio 99) _ (both_true (is_some_item items && list_all is_item items) _ parts.0).1).0 in
      let few = leb-true _ _ (both_true (nat_le (length items) 16) _ (both_true (is_formed (trigger items h d) && true) _ said).1).0 in
      subst (λ z. is_rule p z ≡ true) (some_same _ _ u)
      (and_true _ _
      (and_true _ _
      (and_true _ _
      (and_true _ _
      (and_true _ _
      (and_true _ _ (each_kept (event_in ns) (λ f. is_fluent p f.fluent) event_item items) (each_kept (signal_in ns) (is_signal p) signal_item items))
      (each_kept (cond_in ns) (λ f. is_fluent p f.fluent) cond_item items))
      (each_kept (settled_in ns) (λ f. is_fluent p f.fluent) settled_item items))
      (head_there ns p sized h b k prio))
      parts.1)
      (le-leb _ _ (omega (arith, no_longer items, few))))
  rule_there _ said g e = absurd (none-some g e)

  caused : (items : List Item) → list_all (is_known_item ns) items ≡ true → list_any is_cause items ≡ true → (is_some_item (events_of items) || is_some_item (signals_of items)) ≡ true
  caused [] known e = cc
  caused (Event i ∷ is) known e = by (event_of ns i) (both_true (is_some (event_of ns i)) _ known).0
    where
      by : (o : Option BaseEvent) → is_some o ≡ true → (is_some_item (cons_option o (events_of is)) || is_some_item (signals_of is)) ≡ true
      by (Some g) h = refl
      by None h = cc
  caused (Signal i ∷ is) known e = by (signal_of ns i) (both_true (is_some (signal_of ns i)) _ known).0
    where
      by : (o : Option BaseSignal) → is_some o ≡ true → (is_some_item (events_of is) || is_some_item (cons_option o (signals_of is))) ≡ true
      by (Some g) h = or_right _ _ refl
      by None h = cc
  caused (Cond i ∷ is) known e = caused is (both_true (is_some (cond_of ns i)) _ known).1 e
  caused (Settled i ∷ is) known e = caused is (both_true (is_some (cond_of ns i)) _ known).1 e

  pub rule_caused : (x : SaidView) → (is_saying x && is_known ns x) ≡ true → (g : TriggerView) → rule_said ns x ≡ Some g → has_cause g ≡ true
  rule_caused (trigger items h d) ok g e =
      let (b, k, u) = bound (head_of ns h) _ g e in
      let (said, known) = both_true (is_saying (trigger items h d)) _ ok in
      let body = (both_true (nat_le (length items) 16) _ (both_true (is_formed (trigger items h d) && true) _ said).1).1 in
      subst (λ z. has_cause z ≡ true) (some_same _ _ u) (caused items (both_true (list_all (is_known_item ns) items) _ known).0 body)
  rule_caused _ ok g e = absurd (none-some g e)
