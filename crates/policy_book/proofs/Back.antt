-- The names of the numbers of a well-formed policy have these numbers.
use Rattle.std.proofs.Common.{◌≡◌, ℕ, ◌+◌, ◌≤◌, ◌<◌, Bool, true, false, ◌||◌, ◌&&◌, List, [], ◌∷◌, ◌++◌, map, length, get_or, None, Option, Some, is_some, refl, sym, ap, ◌∙◌, subst, arith, nat_le, nat_lt}
use Rattle.std.specs.Prelude.{bytes_eq, position, zero, suc, cond}
use Rattle.std.specs.List.{list_any, list_all, filter_map, slice_get, position_or_len}
use Rattle.std.specs.Option.{unwrap_or}
use Rattle.std.proofs.lemmas.Bool.{eq-eqb, leb-true, le-leb, ltb-true, lt-ltb, not-true, or_left, or_parts, cond-true, false_from_ne_true}
use Rattle.std.proofs.lemmas.List.Sums.{position_or_len_is}
use Rattle.std.proofs.lemmas.Option.{unwrap_or-slice_get}
use Rattle.std.proofs.lemmas.List.{append-nil, length-append, length-map, map-id}
use Rattle.std.proofs.lemmas.List.Elements.{filter_map-append}
use Rattle.std.proofs.lemmas.List.Folds.{list_any-append}
use Rattle.gt_base.specs.Held.{TriggerView}
use Rattle.gt_base.specs.Names.{is_name}
use Rattle.gt_base.specs.declared.events.RoleId.{RoleId}
use Rattle.gt_base.specs.declared.events.UserId.{UserId}
use Rattle.gt_base.specs.declared.events.PermId.{PermId}
use Rattle.gt_base.specs.declared.events.LimitId.{LimitId}
use Rattle.gt_base.specs.declared.events.PeriodId.{PeriodId}
use Rattle.gt_base.specs.declared.events.Fluent.{Fluent}
use Rattle.gt_base.specs.declared.events.Fluent.TheVariants as base
use Rattle.gt_base.specs.declared.events.Event.{Event as BaseEvent}
use Rattle.gt_base.specs.declared.events.Signal.{Signal as BaseSignal}
use Rattle.gt_base.specs.declared.events.Cond.{Cond as BaseCond}
use Rattle.gt_base.specs.declared.events.Prioritised.{Prioritised}
use Rattle.gt_base.specs.declared.policies.HierEdge.{HierEdge}
use Rattle.gt_base.specs.declared.limits.TheConstants.{LAST_MINUTE}
use Rattle.gtrbac_model.specs.Policy.{Policy}
use Rattle.gtrbac_model.proofs.Elements.{both_true, and_true}
use Rattle.gtrbac_model.specs.WholePolicy.{IsPolicy, is_fluent, is_signal, is_rule, is_edge, has_cause, joins_same, joined_twice}
use Rattle.gtrbac_model.specs.WholePolicy as policies
use Rattle.gtrbac_model.specs.History.{is_some_item}
use Rattle.policy_words.specs.declared.parts.NamedFluent.TheVariants.{Edge}
use Rattle.policy_words.specs.declared.parts.Item.{Item}
use Rattle.policy_words.specs.declared.parts.Item.TheVariants.{Event, Signal, Cond, Settled}
use Rattle.policy_words.specs.Wording.{◌>>=◌, fluent_names}
use Rattle.policy_words.specs.Sayings.{trigger, is_saying, is_formed, is_head, is_item, is_cause, are_names as are_all_names}
use Rattle.policy_words.specs.Naming.{Names, NamePair, NamedPolicy, same_pair, pair_at, role_of, user_of, perm_of, period_of, limit_of, fluent_of, event_of, cond_of, signal_of, head_of, role_name, user_name, perm_name, period_name, limit_name, fluent_named, event_named, cond_named, signal_named, head_named}
use Rattle.policy_words.specs.Making.{event_in, signal_in, cond_in, settled_in, rule_said}
use Rattle.policy_words.specs.LinesTogether.{is_known, is_known_item}
use Rattle.policy_words.specs.Canonical.{items_of}
use Rattle.policy_words.specs.Valid.{IsWellFormed, are_names, pair_of}
use Rattle.gtrbac_model.specs.Same.{same_role}
use Rattle.history_laws.proofs.Members.{clash}
use Rattle.policy_book.proofs.Lists.{repeats, bytes_same, same_bytes}
use Rattle.policy_book.proofs.Naming.{later_repeats, pair_turned}
use Rattle.policy_book.proofs.Places.{all_at, apart_at, name_read, place_back}
use Rattle.policy_book.proofs.Mapped.{all_map, all_join, none_map, kept_map}

-- names in range, each once
pub record AreGood (most : ℕ) (names : List (List ℕ)) : Type 0 where
  pub few : length names ≤ most
  pub named : list_all is_name names ≡ true
  pub once : repeats bytes_eq names ≡ false

pub good : (most : ℕ) (names : List (List ℕ)) → are_names most names ≡ true → AreGood most names
good most names h =
    let outer = both_true (nat_le (length names) most && list_all is_name names) _ h in
    let parts = both_true (nat_le (length names) most) _ outer.0 in
    record { few = leb-true _ _ parts.0; named = parts.1; once = sym (later_repeats names) ∙ not-true _ outer.1 }

named_at : (most : ℕ) (names : List (List ℕ)) → AreGood most names → (k : ℕ) → k < length names → is_name (unwrap_or (slice_get names k) []) ≡ true
named_at most names g k lt = ap is_name (name_read names k) ∙ all_at is_name names k [] g.named lt

role_alike : (r : RoleId) → same_role r r ≡ true
role_alike r = eq-eqb r.0 r.0 refl

none_of : (a b : Bool) → a ≡ false → b ≡ false → (a || b) ≡ false
none_of a b e f = λ i. e i || f i

some_known : {A : Type 0} (o : Option A) (a : A) → o ≡ Some a → is_some o ≡ true
some_known o a e = ap is_some e

-- items apart from one another are each at their own place
item_back : {A : Type 0} (same : A → A → Bool) → ((x y : A) → same x y ≡ true → same y x ≡ true) → ((x : A) → same x x ≡ true) → (xs : List A) (k : ℕ) (d : A)
    → repeats same xs ≡ false → k < length xs → position (same (get_or xs k d)) xs ≡ Some k
item_back same turned alike xs k d once lt =
    let it = get_or xs k d in
    let first : position_or_len (same it) xs ≡ k =
    position_or_len_is (same it) xs k d (omega arith) (λ j below. false_from_ne_true _ (λ e. clash _ (turned it (get_or xs j d) e) (apart_at same xs j k d once below lt))) (λ _. alike it) in
    (λ i. cond (nat_lt (first i) (length xs)) (Some (first i)) None) ∙ cond-true _ _ _ (lt-ltb k (length xs) lt)

mapped_at : {A B : Type 0} (f : A → B) (xs : List A) (k : ℕ) (a : A) (b : B) → k < length xs → get_or (map f xs) k b ≡ f (get_or xs k a)
mapped_at f [] k a b lt = absurd (omega arith)
mapped_at f (x ∷ xs) zero a b lt = refl
mapped_at f (x ∷ xs) (suc k) a b lt = mapped_at f xs k a b (omega arith)

pair_alike : (q : NamePair) → same_pair q q ≡ true
pair_alike (s, j) = and_true _ _ (same_bytes s s refl) (same_bytes j j refl)

abbrev some_edge : HierEdge
some_edge = record { senior = record { 0 = 0 }; junior = record { 0 = 0 }; inherits = false; activates = false; strong = false }

module _ (np : NamedPolicy) (is : IsWellFormed np) where
  abbrev ns : Names
  ns = np.names

  abbrev p : Policy
  p = np.policy

  pub role_lt : (r : RoleId) → nat_lt r.0 p.roles ≡ true → r.0 < length ns.roles
  role_lt r e = subst (λ n. r.0 < n) is.role_count (ltb-true _ _ e)

  user_lt : (u : UserId) → nat_lt u.0 p.users ≡ true → u.0 < length ns.users
  user_lt u e = subst (λ n. u.0 < n) is.user_count (ltb-true _ _ e)

  perm_lt : (q : PermId) → nat_lt q.0 p.perms ≡ true → q.0 < length ns.perms
  perm_lt q e = subst (λ n. q.0 < n) is.perm_count (ltb-true _ _ e)

  pub period_lt : (q : PeriodId) → nat_lt q.0 (length p.periods) ≡ true → q.0 < length ns.periods
  period_lt q e = subst (λ n. q.0 < n) is.period_count (ltb-true _ _ e)

  pub limit_lt : (l : LimitId) → nat_lt l.0 (length p.limits) ≡ true → l.0 < length ns.limits
  limit_lt l e = subst (λ n. l.0 < n) is.limit_count (ltb-true _ _ e)

  pub role_back : (r : RoleId) → nat_lt r.0 p.roles ≡ true → role_of ns (role_name ns r) ≡ Some r
  role_back r e = ap (λ o. o >>= λ k. Some (let q : RoleId = record { 0 = k } in q)) (place_back ns.roles r.0 (good 1_000 ns.roles is.roles).once (role_lt r e))

  pub user_back : (u : UserId) → nat_lt u.0 p.users ≡ true → user_of ns (user_name ns u) ≡ Some u
  user_back u e = ap (λ o. o >>= λ k. Some (let q : UserId = record { 0 = k } in q)) (place_back ns.users u.0 (good 10_000 ns.users is.users).once (user_lt u e))

  pub perm_back : (q : PermId) → nat_lt q.0 p.perms ≡ true → perm_of ns (perm_name ns q) ≡ Some q
  perm_back q e = ap (λ o. o >>= λ k. Some (let q : PermId = record { 0 = k } in q)) (place_back ns.perms q.0 (good 10_000 ns.perms is.perms).once (perm_lt q e))

  pub period_back : (q : PeriodId) → nat_lt q.0 (length p.periods) ≡ true → period_of ns (period_name ns q) ≡ Some q
  period_back q e = ap (λ o. o >>= λ k. Some (let q : PeriodId = record { 0 = k } in q)) (place_back ns.periods q.0 (good 1_000 ns.periods is.periods).once (period_lt q e))

  pub limit_back : (l : LimitId) → nat_lt l.0 (length p.limits) ≡ true → limit_of ns (limit_name ns l) ≡ Some l
  limit_back l e = ap (λ o. o >>= λ k. Some (let q : LimitId = record { 0 = k } in q)) (place_back ns.limits l.0 (good 1_000 ns.limits is.limits).once (limit_lt l e))

  pub role_named : (r : RoleId) → nat_lt r.0 p.roles ≡ true → is_name (role_name ns r) ≡ true
  role_named r e = named_at 1_000 ns.roles (good 1_000 ns.roles is.roles) r.0 (role_lt r e)

  pub user_named : (u : UserId) → nat_lt u.0 p.users ≡ true → is_name (user_name ns u) ≡ true
  user_named u e = named_at 10_000 ns.users (good 10_000 ns.users is.users) u.0 (user_lt u e)

  pub perm_named : (q : PermId) → nat_lt q.0 p.perms ≡ true → is_name (perm_name ns q) ≡ true
  perm_named q e = named_at 10_000 ns.perms (good 10_000 ns.perms is.perms) q.0 (perm_lt q e)

  pub period_named : (q : PeriodId) → nat_lt q.0 (length p.periods) ≡ true → is_name (period_name ns q) ≡ true
  period_named q e = named_at 1_000 ns.periods (good 1_000 ns.periods is.periods) q.0 (period_lt q e)

  pub limit_named : (l : LimitId) → nat_lt l.0 (length p.limits) ≡ true → is_name (limit_name ns l) ≡ true
  limit_named l e = named_at 1_000 ns.limits (good 1_000 ns.limits is.limits) l.0 (limit_lt l e)

  -- edges

  role_same : (r q : RoleId) → nat_lt r.0 p.roles ≡ true → nat_lt q.0 p.roles ≡ true → bytes_eq (role_name ns r) (role_name ns q) ≡ true → same_role r q ≡ true
  role_same r q hr hq h =
      let same : Some r ≡ Some q = sym (role_back r hr) ∙ ap (role_of ns) (bytes_same _ _ h) ∙ role_back q hq in
      ap (λ o. elim o [ Some s ↦ same_role r s | None ↦ true ]) (sym same) ∙ role_alike r

  -- the parts of an edge that are asked
  ends_in : (e : HierEdge) → is_edge p e ≡ true → (nat_lt e.senior.0 p.roles ≡ true) × (nat_lt e.junior.0 p.roles ≡ true)
  ends_in e h =
      let outer = both_true (nat_lt e.senior.0 p.roles && nat_lt e.junior.0 p.roles) _ h in
      both_true (nat_lt e.senior.0 p.roles) _ outer.0

  pair_same : (e f : HierEdge) → is_edge p e ≡ true → is_edge p f ≡ true → same_pair (pair_of ns e) (pair_of ns f) ≡ true → joins_same e f ≡ true
  pair_same e f he hf h =
      let names = both_true (bytes_eq (role_name ns e.senior) (role_name ns f.senior)) _ h in
      let (s, j) = ends_in e he in
      let (t, k) = ends_in f hf in
      and_true _ _ (role_same e.senior f.senior s t names.0) (role_same e.junior f.junior j k names.1)

  none_same : (e : HierEdge) → is_edge p e ≡ true → (es : List HierEdge) → list_all (is_edge p) es ≡ true → list_any (joins_same e) es ≡ false
      → list_any (same_pair (pair_of ns e)) (map (pair_of ns) es) ≡ false
  none_same e he [] all off = refl
  none_same e he (f ∷ es) all off =
      let parts = both_true (is_edge p f) _ all in
      let apart = or_parts (joins_same e f) _ off in
      none_of _ _ (false_from_ne_true _ (λ h. clash _ (pair_same e f he parts.0 h) apart.0)) (none_same e he es parts.1 apart.1)

  pairs_apart : (es : List HierEdge) → list_all (is_edge p) es ≡ true → joined_twice es ≡ false → repeats same_pair (map (pair_of ns) es) ≡ false
  pairs_apart [] all off = refl
  pairs_apart (e ∷ es) all off =
      let parts = both_true (is_edge p e) _ all in
      let apart = or_parts (list_any (joins_same e) es) _ off in
      none_of _ _ (none_same e parts.0 es parts.1 apart.0) (pairs_apart es parts.1 apart.1)

  edges_in : list_all (is_edge p) p.edges ≡ true
  edges_in = (both_true _ _ (both_true _ _ is.policy.edges).0).1

  edges_once : joined_twice p.edges ≡ false
  edges_once = not-true _ (both_true _ _ is.policy.edges).1

  pub edge_lt : (n : ℕ) → nat_lt n (length p.edges) ≡ true → n < length p.edges
  edge_lt n e = ltb-true _ _ e

  abbrev edge_at : ℕ → HierEdge
  edge_at n = get_or p.edges n some_edge

  -- the names of an edge's roles are those of its pair
  pub named_by : (n : ℕ) → nat_lt n (length p.edges) ≡ true → (es : List HierEdge) (d : HierEdge) → es ≡ p.edges → (s j : List ℕ) → slice_get ns.roles (get_or es n d).senior.0 ≡ Some s → slice_get ns.roles (get_or es n d).junior.0 ≡ Some j
      → Edge s j ≡ Edge (pair_at ns n).0 (pair_at ns n).1
  named_by n e es d same s j hs hj =
      let pair : pair_at ns n ≡ pair_of ns (get_or es n d) =
      unwrap_or-slice_get ns.edges n ([], []) ∙ ap (λ (z : List NamePair). get_or z n ([], [])) is.edge_pairs ∙ mapped_at (pair_of ns) p.edges n d ([], []) (edge_lt n e)
      ∙ ap (λ (z : List HierEdge). pair_of ns (get_or z n d)) (sym same) in
      let senior : role_name ns (get_or es n d).senior ≡ s = ap (λ o. unwrap_or o []) hs in
      let junior : role_name ns (get_or es n d).junior ≡ j = ap (λ o. unwrap_or o []) hj in
      (λ i. Edge (sym senior i) (sym junior i)) ∙ ap (λ (q : NamePair). Edge q.0 q.1) (sym pair)

  pub pair_is : (n : ℕ) → nat_lt n (length p.edges) ≡ true → pair_at ns n ≡ pair_of ns (edge_at n)
  pair_is n e =
      unwrap_or-slice_get ns.edges n ([], []) ∙ ap (λ (z : List NamePair). get_or z n ([], [])) is.edge_pairs ∙ mapped_at (pair_of ns) p.edges n some_edge ([], []) (edge_lt n e)

  edge_ends : (n : ℕ) → nat_lt n (length p.edges) ≡ true → (nat_lt (edge_at n).senior.0 p.roles ≡ true) × (nat_lt (edge_at n).junior.0 p.roles ≡ true)
  edge_ends n e = ends_in (edge_at n) (all_at (is_edge p) p.edges n some_edge edges_in (edge_lt n e))

  pub pairs_once : repeats same_pair ns.edges ≡ false
  pairs_once = subst (λ (z : List NamePair). repeats same_pair z ≡ false) (sym is.edge_pairs) (pairs_apart p.edges edges_in edges_once)

  pair_back : (n : ℕ) → nat_lt n (length p.edges) ≡ true → position (same_pair (pair_at ns n)) ns.edges ≡ Some n
  pair_back n e =
      let within : n < length ns.edges = subst (λ (z : List NamePair). n < length z) (sym is.edge_pairs) (omega (arith, length-map p.edges (pair_of ns), edge_lt n e)) in
      ap (λ q. position (same_pair q) ns.edges) (unwrap_or-slice_get ns.edges n ([], [])) ∙ item_back same_pair pair_turned pair_alike ns.edges n ([], []) pairs_once within

  senior_back : (n : ℕ) → nat_lt n (length p.edges) ≡ true → role_of ns (pair_at ns n).0 ≡ Some (edge_at n).senior
  senior_back n e = ap (λ (q : NamePair). role_of ns q.0) (pair_is n e) ∙ role_back (edge_at n).senior (edge_ends n e).0

  junior_back : (n : ℕ) → nat_lt n (length p.edges) ≡ true → role_of ns (pair_at ns n).1 ≡ Some (edge_at n).junior
  junior_back n e = ap (λ (q : NamePair). role_of ns q.1) (pair_is n e) ∙ role_back (edge_at n).junior (edge_ends n e).1

  pub fluent_back : (f : Fluent) → is_fluent p f ≡ true → fluent_of ns (fluent_named ns f) ≡ Some f
  fluent_back (base.Enabled r) e = ap (λ o. o >>= λ r. Some (base.Enabled r)) (role_back r e)
  fluent_back (base.Assigned u r) e =
      let parts = both_true (nat_lt u.0 p.users) _ e in
      λ i. user_back u parts.0 i >>= λ u. role_back r parts.1 i >>= λ r. Some (base.Assigned u r)
  fluent_back (base.Granted q r) e =
      let parts = both_true (nat_lt q.0 p.perms) _ e in
      λ i. perm_back q parts.0 i >>= λ q. role_back r parts.1 i >>= λ r. Some (base.Granted q r)
  fluent_back (base.Limit l) e = ap (λ o. o >>= λ l. Some (base.Limit l)) (limit_back l e)
  fluent_back (base.Edge n) e = λ i. senior_back n e i >>= λ s. junior_back n e i >>= λ j. pair_back n e i >>= λ k. Some (base.Edge k)

  pub names_of_fluent : (f : Fluent) → is_fluent p f ≡ true → are_all_names (fluent_names (fluent_named ns f)) ≡ true
  names_of_fluent (base.Enabled r) e = and_true _ _ (role_named r e) refl
  names_of_fluent (base.Assigned u r) e =
      let parts = both_true (nat_lt u.0 p.users) _ e in
      and_true _ _ (user_named u parts.0) (and_true _ _ (role_named r parts.1) refl)
  names_of_fluent (base.Granted q r) e =
      let parts = both_true (nat_lt q.0 p.perms) _ e in
      and_true _ _ (perm_named q parts.0) (and_true _ _ (role_named r parts.1) refl)
  names_of_fluent (base.Limit l) e = and_true _ _ (limit_named l e) refl
  names_of_fluent (base.Edge n) e =
      let (s, j) = edge_ends n e in
      and_true _ _ (ap (λ (q : NamePair). is_name q.0) (pair_is n e) ∙ role_named (edge_at n).senior s)
      (and_true _ _ (ap (λ (q : NamePair). is_name q.1) (pair_is n e) ∙ role_named (edge_at n).junior j) refl)

  pub event_back : (e : BaseEvent) → is_fluent p e.fluent ≡ true → event_of ns (event_named ns e) ≡ Some e
  event_back e h = ap (λ o. o >>= λ f. Some (let g : BaseEvent = record { on = e.on; fluent = f } in g)) (fluent_back e.fluent h)

  pub cond_back : (c : BaseCond) → is_fluent p c.fluent ≡ true → cond_of ns (cond_named ns c) ≡ Some c
  cond_back c h = ap (λ o. o >>= λ f. Some (let g : BaseCond = record { on = c.on; fluent = f } in g)) (fluent_back c.fluent h)

  signal_back : (s : BaseSignal) → is_signal p s ≡ true → signal_of ns (signal_named ns s) ≡ Some s
  signal_back s h =
      let parts = both_true (nat_lt s.user.0 p.users) _ h in
      λ i. user_back s.user parts.0 i >>= λ u. role_back s.role parts.1 i >>= λ r. Some (let g : BaseSignal = record { start = s.start; user = u; role = r } in g)

  pub head_back : (h : Prioritised) → policies.is_head p h ≡ true → head_of ns (head_named ns h) ≡ Some h
  head_back h e =
      let parts = both_true (nat_le h.prio 99) _ e in
      ap (λ o. o >>= λ f. Some (let g : Prioritised = record { prio = h.prio; event = f } in g)) (event_back h.event parts.1)

  pub head_said : (h : Prioritised) → policies.is_head p h ≡ true → is_head (head_named ns h) ≡ true
  head_said h e = let parts = both_true (nat_le h.prio 99) _ e in and_true _ _ parts.0 (names_of_fluent h.event.fluent parts.1)

  -- triggers

  abbrev event_items : TriggerView → List Item
  event_items r = map (λ e. Event (event_named ns e)) r.events

  abbrev signal_items : TriggerView → List Item
  signal_items r = map (λ s. Signal (signal_named ns s)) r.signals

  abbrev cond_items : TriggerView → List Item
  cond_items r = map (λ c. Cond (cond_named ns c)) r.conds

  abbrev settled_items : TriggerView → List Item
  settled_items r = map (λ c. Settled (cond_named ns c)) r.settled

  kept_items : {B : Type 0} (f : Item → Option B) (r : TriggerView)
      → filter_map f (items_of ns r) ≡ ((filter_map f (event_items r) ++ filter_map f (signal_items r)) ++ filter_map f (cond_items r)) ++ filter_map f (settled_items r)
  kept_items f r =
      filter_map-append f (event_items r ++ signal_items r ++ cond_items r) (settled_items r)
      ∙ ap (λ z. z ++ filter_map f (settled_items r))
      (filter_map-append f (event_items r ++ signal_items r) (cond_items r) ∙ ap (λ z. z ++ filter_map f (cond_items r)) (filter_map-append f (event_items r) (signal_items r)))

  pub record IsRuleIn (r : TriggerView) : Type 0 where
    pub events : list_all (λ e. is_fluent p e.fluent) r.events ≡ true
    pub signals : list_all (is_signal p) r.signals ≡ true
    pub conds : list_all (λ c. is_fluent p c.fluent) r.conds ≡ true
    pub settled : list_all (λ c. is_fluent p c.fluent) r.settled ≡ true
    pub head : policies.is_head p r.head ≡ true
    pub delay : nat_le r.delay LAST_MINUTE ≡ true
    pub few : length r.events + length r.signals + length r.conds + length r.settled ≤ 16

  seven : (a b c d e f g : Bool) → (a && b && c && d && e && f && g) ≡ true → (a ≡ true) × (b ≡ true) × (c ≡ true) × (d ≡ true) × (e ≡ true) × (f ≡ true) × (g ≡ true)
  seven a b c d e f g h =
      let h6 = both_true (a && b && c && d && e && f) g h in
      let h5 = both_true (a && b && c && d && e) f h6.0 in
      let h4 = both_true (a && b && c && d) e h5.0 in
      let h3 = both_true (a && b && c) d h4.0 in
      let h2 = both_true (a && b) c h3.0 in
      let h1 = both_true a b h2.0 in
      (h1.0, h1.1, h2.1, h3.1, h4.1, h5.1, h6.1)

  rule_in : (r : TriggerView) → is_rule p r ≡ true → IsRuleIn r
  rule_in r h =
      let (a, b, c, s, d, e, f) =
      seven (list_all (λ e. is_fluent p e.fluent) r.events) (list_all (is_signal p) r.signals) (list_all (λ c. is_fluent p c.fluent) r.conds) (list_all (λ c. is_fluent p c.fluent) r.settled) (policies.is_head p r.head) (nat_le r.delay LAST_MINUTE)
      (nat_le (length r.events + length r.signals + length r.conds + length r.settled) 16) h in
      record { events = a; signals = b; conds = c; settled = s; head = d; delay = e; few = leb-true _ _ f }

  events_back : (r : TriggerView) → IsRuleIn r → filter_map (event_in ns) (items_of ns r) ≡ r.events
  events_back r h =
      kept_items (event_in ns) r
      ∙ (λ i.
      ((kept_map (λ e. Event (event_named ns e)) (event_in ns) (λ e. e) (λ e. is_fluent p e.fluent) event_back r.events h.events i ++ none_map (λ s. Signal (signal_named ns s)) (event_in ns) (λ _. refl) r.signals i)
      ++ none_map (λ c. Cond (cond_named ns c)) (event_in ns) (λ _. refl) r.conds i)
      ++ none_map (λ c. Settled (cond_named ns c)) (event_in ns) (λ _. refl) r.settled i)
      ∙ append-nil _ ∙ append-nil _ ∙ append-nil _ ∙ map-id r.events

  signals_back : (r : TriggerView) → IsRuleIn r → filter_map (signal_in ns) (items_of ns r) ≡ r.signals
  signals_back r h =
      kept_items (signal_in ns) r
      ∙ (λ i.
      ((none_map (λ s. Event (event_named ns s)) (signal_in ns) (λ _. refl) r.events i ++ kept_map (λ e. Signal (signal_named ns e)) (signal_in ns) (λ e. e) (is_signal p) signal_back r.signals h.signals i)
      ++ none_map (λ c. Cond (cond_named ns c)) (signal_in ns) (λ _. refl) r.conds i)
      ++ none_map (λ c. Settled (cond_named ns c)) (signal_in ns) (λ _. refl) r.settled i)
      ∙ append-nil _ ∙ append-nil _ ∙ map-id r.signals

  conds_back : (r : TriggerView) → IsRuleIn r → filter_map (cond_in ns) (items_of ns r) ≡ r.conds
  conds_back r h =
      kept_items (cond_in ns) r
      ∙ (λ i.
      ((none_map (λ s. Event (event_named ns s)) (cond_in ns) (λ _. refl) r.events i ++ none_map (λ s. Signal (signal_named ns s)) (cond_in ns) (λ _. refl) r.signals i)
      ++ kept_map (λ e. Cond (cond_named ns e)) (cond_in ns) (λ e. e) (λ c. is_fluent p c.fluent) cond_back r.conds h.conds i)
      ++ none_map (λ c. Settled (cond_named ns c)) (cond_in ns) (λ _. refl) r.settled i)
      ∙ append-nil _ ∙ map-id r.conds

  settled_back : (r : TriggerView) → IsRuleIn r → filter_map (settled_in ns) (items_of ns r) ≡ r.settled
  settled_back r h =
      kept_items (settled_in ns) r
      ∙ (λ i.
      ((none_map (λ s. Event (event_named ns s)) (settled_in ns) (λ _. refl) r.events i ++ none_map (λ s. Signal (signal_named ns s)) (settled_in ns) (λ _. refl) r.signals i)
      ++ none_map (λ c. Cond (cond_named ns c)) (settled_in ns) (λ _. refl) r.conds i)
      ++ kept_map (λ e. Settled (cond_named ns e)) (settled_in ns) (λ e. e) (λ c. is_fluent p c.fluent) cond_back r.settled h.settled i)
      ∙ map-id r.settled

  pub rule_back : (r : TriggerView) → is_rule p r ≡ true → rule_said ns (trigger (items_of ns r) (head_named ns r.head) r.delay) ≡ Some r
  rule_back r e =
      let h : IsRuleIn r = rule_in r e in
      λ i.
      head_back r.head h.head i
      >>= λ head. Some (let g : TriggerView = record { events = events_back r h i; signals = signals_back r h i; conds = conds_back r h i; settled = settled_back r h i; head = head; delay = r.delay } in g)

  -- a test of all items of a trigger
  all_items : (test : Item → Bool) (r : TriggerView) → IsRuleIn r → ((e : BaseEvent) → is_fluent p e.fluent ≡ true → test (Event (event_named ns e)) ≡ true)
      → ((s : BaseSignal) → is_signal p s ≡ true → test (Signal (signal_named ns s)) ≡ true) → ((c : BaseCond) → is_fluent p c.fluent ≡ true → test (Cond (cond_named ns c)) ≡ true)
      → ((c : BaseCond) → is_fluent p c.fluent ≡ true → test (Settled (cond_named ns c)) ≡ true) → list_all test (items_of ns r) ≡ true
  all_items test r h on_event on_signal on_cond on_settled =
      all_join test (event_items r ++ signal_items r ++ cond_items r) (settled_items r)
      (all_join test (event_items r ++ signal_items r) (cond_items r)
      (all_join test (event_items r) (signal_items r) (all_map (λ e. Event (event_named ns e)) test (λ e. is_fluent p e.fluent) on_event r.events h.events)
      (all_map (λ s. Signal (signal_named ns s)) test (is_signal p) on_signal r.signals h.signals))
      (all_map (λ c. Cond (cond_named ns c)) test (λ c. is_fluent p c.fluent) on_cond r.conds h.conds))
      (all_map (λ c. Settled (cond_named ns c)) test (λ c. is_fluent p c.fluent) on_settled r.settled h.settled)

  signal_said : (s : BaseSignal) → is_signal p s ≡ true → is_item (Signal (signal_named ns s)) ≡ true
  signal_said s e = let parts = both_true (nat_lt s.user.0 p.users) _ e in and_true _ _ (user_named s.user parts.0) (role_named s.role parts.1)

  signal_known : (s : BaseSignal) → is_signal p s ≡ true → is_some (signal_of ns (signal_named ns s)) ≡ true
  signal_known s e = some_known _ s (signal_back s e)

  pub rule_known : (r : TriggerView) → is_rule p r ≡ true → is_known ns (trigger (items_of ns r) (head_named ns r.head) r.delay) ≡ true
  rule_known r e =
      let h : IsRuleIn r = rule_in r e in
      and_true _ _
      (all_items (is_known_item ns) r h (λ e k. some_known (event_of ns (event_named ns e)) e (event_back e k)) signal_known (λ c k. some_known (cond_of ns (cond_named ns c)) c (cond_back c k))
      (λ c k. some_known (cond_of ns (cond_named ns c)) c (cond_back c k)))
      (some_known (head_of ns (head_named ns r.head)) r.head (head_back r.head h.head))

  item_count : (r : TriggerView) → length (items_of ns r) ≡ length r.events + length r.signals + length r.conds + length r.settled
  item_count r =
      length-append (event_items r ++ signal_items r ++ cond_items r) (settled_items r)
      ∙ (λ i.
      (length-append (event_items r ++ signal_items r) (cond_items r)
      ∙ (λ i. (length-append (event_items r) (signal_items r) ∙ (λ j. length-map r.events (λ e. Event (event_named ns e)) j + length-map r.signals (λ s. Signal (signal_named ns s)) j)) i + length-map r.conds (λ c. Cond (cond_named ns c)) i))
      i + length-map r.settled (λ c. Settled (cond_named ns c)) i)

  caused : (r : TriggerView) → has_cause r ≡ true → list_any is_cause (items_of ns r) ≡ true
  caused r h =
      list_any-append is_cause (event_items r ++ signal_items r ++ cond_items r) (settled_items r)
      ∙ or_left _ _
      (list_any-append is_cause (event_items r ++ signal_items r) (cond_items r) ∙ or_left _ _ (list_any-append is_cause (event_items r) (signal_items r) ∙ by r.events r.signals h))
    where
      by : (es : List BaseEvent) (ss : List BaseSignal) → (is_some_item es || is_some_item ss) ≡ true
          → (list_any is_cause (map (λ e. Event (event_named ns e)) es) || list_any is_cause (map (λ s. Signal (signal_named ns s)) ss)) ≡ true
      by (e ∷ es) ss k = refl
      by [] (s ∷ ss) k = refl
      by [] [] k = cc

  some_item : (items : List Item) → list_any is_cause items ≡ true → is_some_item items ≡ true
  some_item [] h = cc
  some_item (i ∷ is) h = refl

  pub rule_is_said : (r : TriggerView) → (is_rule p r && has_cause r) ≡ true → is_saying (trigger (items_of ns r) (head_named ns r.head) r.delay) ≡ true
  rule_is_said r e =
      let parts = both_true (is_rule p r) _ e in
      let h : IsRuleIn r = rule_in r parts.0 in
      let any = caused r parts.1 in
      and_true (is_formed (trigger (items_of ns r) (head_named ns r.head) r.delay) && true) _
      (and_true (is_formed (trigger (items_of ns r) (head_named ns r.head) r.delay)) _
      (and_true (is_some_item (items_of ns r) && list_all is_item (items_of ns r) && is_head (head_named ns r.head)) _
      (and_true (is_some_item (items_of ns r) && list_all is_item (items_of ns r)) _
      (and_true (is_some_item (items_of ns r)) _ (some_item (items_of ns r) any) (all_items is_item r h (λ e k. names_of_fluent e.fluent k) signal_said (λ c k. names_of_fluent c.fluent k) (λ c k. names_of_fluent c.fluent k)))
      (head_said r.head h.head))
      h.delay)
      refl)
      (and_true (nat_le (length (items_of ns r)) 16) _ (le-leb _ _ (omega (arith, item_count r, h.few))) any)
