-- How a search goes on: from a start, from an edge that finds a role or none, and to the next head.
use Rattle.std.proofs.Common.{◌≡◌, ℕ, zero, suc, ◌+◌, ◌<◌, ◌≤◌, ◌⊎◌, inl, inr, Bool, true, false, List, [], ◌∷◌, ◌++◌, length, Some, slice_set, refl, sym, ◌∙◌, ap, subst, arith}
use Rattle.std.proofs.lemmas.List.{get_or-set_other, length-set}
use Rattle.std.proofs.lemmas.Bool.{cases_eq, cases_lt}
use Rattle.gt_base.specs.declared.events.RoleId.{RoleId}
use Rattle.gt_base.specs.declared.policies.HierEdge.{HierEdge}
use Rattle.gtrbac_model.specs.Graph.{Arc, LeadsAlong, item_at}
use Rattle.gtrbac_model.specs.Hierarchy.{role_arcs}
use Rattle.least_walk.proofs.Items.{item_within, one_item, item_front, item_last, item_pushed, item_of_numbered}
use Rattle.hybrid_hierarchy.specs.declared.searching.FoundRole.{FoundRole}
use Rattle.hybrid_hierarchy.specs.Searches.{IsFirstEdge, Stop, Before, IsStop, TellsWalks, Earlier, IsFound, is_seen, Searched}
use Rattle.hybrid_hierarchy.proofs.Roles.{role}
use Rattle.hybrid_hierarchy.proofs.Ranks.{before_push, before_own, before_more}
use Rattle.hybrid_hierarchy.specs.declared.outgoing.TheConstants.{NO_EDGE}

-- a walk that goes on by an edge
pub leads_on : (arcs : List (Arc RoleId)) (a b c : RoleId) (ns : List ℕ) (n : ℕ) → LeadsAlong arcs a ns b → item_at arcs n ≡ Some (record { from = b; to = c; is_open = true }) → LeadsAlong arcs a (ns ++ n ∷ []) c
leads_on arcs a b c [] n w is = (record { from = b; to = c; is_open = true }, is, refl, sym w, refl)
leads_on arcs a b c (m ∷ ns) n (arc, at, may, from, rest) is = (arc, at, may, from, leads_on arcs arc.to b c ns n rest is)

pub open_arc : (ok : ℕ → HierEdge → Bool) (es : List HierEdge) (n : ℕ) (e : HierEdge) → item_at es n ≡ Some e → ok n e ≡ true → item_at (role_arcs ok es) n ≡ Some (record { from = e.senior; to = e.junior; is_open = true })
open_arc ok es n e is on =
    let k : 0 + n ≡ n = omega arith in
    item_of_numbered (λ e. record { from = e.1.senior; to = e.1.junior; is_open = ok e.0 e.1 }) 0 es n e is
    ∙ ap (λ m. Some (record { from = e.senior; to = e.junior; is_open = ok m e })) k
    ∙ ap (λ b. Some (record { from = e.senior; to = e.junior; is_open = b })) on

-- what was told stays told
told_front : (ws : List Stop) (x : Stop) (i : ℕ) (f : FoundRole) (s : Stop) → IsStop ws i f s → IsStop (ws ++ x ∷ []) i f s
told_front ws x i f s (node, inl h) = (node, inl h)
told_front ws x i f s (node, inr (p, low, lt, is, start, place, arcs)) = (node, inr (p, low, lt, item_front ws (x ∷ []) f.before p is, start, place, arcs))

found_front : (ws : List Stop) (x : Stop) (v place : ℕ) (arcs : List ℕ) → IsFound ws v place arcs → IsFound (ws ++ x ∷ []) v place arcs
found_front ws x v place arcs h = record { at = h.at; stop = h.stop; is = item_front ws (x ∷ []) h.at h.stop h.is; ends = h.ends; rank = h.rank }

pub grown : {A : Type 0} (xs : List A) (y : A) → length (xs ++ y ∷ []) ≡ length xs + 1
grown [] y = refl
grown (x ∷ xs) y = let k : length (xs ++ y ∷ []) ≡ length xs + 1 = grown xs y in omega (arith, k)

tells_push : (queue : List FoundRole) (ws : List Stop) (f : FoundRole) (x : Stop) → TellsWalks queue ws → IsStop ws (length queue) f x → TellsWalks (queue ++ f ∷ []) (ws ++ x ∷ [])
tells_push queue ws f x t is = record {
  size = grown ws x ∙ ap (λ k. k + 1) t.size ∙ sym (grown queue f);
  told = λ i g at. elim (item_pushed queue f i g at) [
    | inl k ↦ let (s, ats, told) = t.told i g k in (s, item_front ws (x ∷ []) i s ats, told_front ws x i g s told)
    | inr (last, same) ↦ (
      x,
      ap (item_at (ws ++ x ∷ [])) (last ∙ sym t.size) ∙ item_last ws x,
      subst (λ h. IsStop (ws ++ x ∷ []) i h x) same (subst (λ j. IsStop (ws ++ x ∷ []) j f x) (sym last) (told_front ws x (length queue) f x is)),
    )
  ];
}

-- where nothing is marked
seen_one : (seen : List Bool) (v u : ℕ) → v < length seen → is_seen (slice_set seen v true) u ≡ true → (u ≡ v) ⊎ (is_seen seen u ≡ true)
seen_one seen v u h on = elim (cases_eq u v) [ inl e ↦ inl e | inr ne ↦ inr (sym (get_or-set_other seen v u true false ne) ∙ on) ]

module _ (ok : ℕ → HierEdge → Bool) (goal : RoleId → Bool) (es : List HierEdge) (starts : List ℕ) where
  none_earlier : (i n : ℕ) → Earlier i n 0 0 → ⊥
  none_earlier i n (inl h) = omega (arith, h)
  none_earlier i n (inr (e, h)) = omega (arith, h)

  no_item : {A : Type 0} (i : ℕ) (s : A) → item_at [] i ≡ Some s → ⊥
  no_item i s h = cc

  -- nothing is found yet
  pub search_nothing : (seen : List Bool) → ((v : ℕ) → is_seen seen v ≡ true → ⊥) → Searched ok goal es starts 0 seen [] [] 0 0
  search_nothing seen unmarked = record {
    tells = record { size = refl; told = λ i f at. absurd (no_item i f at) };
    leads = λ i s at. absurd (no_item i s at);
    within = λ i s at. absurd (no_item i s at);
    places = λ i s at. absurd (no_item i s at);
    order = λ i j a b h ata atb. absurd (no_item i a ata);
    marked = λ v on. absurd (unmarked v on);
    begins = λ p v h is. absurd (below p h);
    older = λ k f at. absurd (no_item k f at);
    done = λ i n s e at is on from h. absurd (no_item i s at);
    passed = λ i s at. absurd (no_item i s at);
  }
    where
      below : (p : ℕ) → p < 0 → ⊥
      below p h = omega (arith, h)

  module _ (begun : ℕ) (seen : List Bool) (queue : List FoundRole) (ws : List Stop) (v : ℕ) (is : item_at starts begun ≡ Some v) (low : v < length seen) (off : goal (role v) ≡ false) (w : Searched ok goal es starts begun seen queue ws 0 0) where
    abbrev new : Stop
    new = record { node = v; start = v; place = begun; arcs = [] }

    -- all that is found are starts
    bare : (i : ℕ) (s : Stop) → i < length queue → item_at ws i ≡ Some s → s.arcs ≡ []
    bare i s h at =
        let f = item_of i h in
        let (t, att, told) = w.tells.told i f.0 f.1 in
        let e : t ≡ s = one_item ws i t s att at in
        ap (λ z. z.arcs) (sym e) ∙ by f.0 t told.1 (w.older i f.0 f.1)
      where
        item_of : (i : ℕ) → i < length queue → (f : FoundRole) × (item_at queue i ≡ Some f)
        item_of i h = go queue i h
          where
            go : (xs : List FoundRole) (i : ℕ) → i < length xs → (f : FoundRole) × (item_at xs i ≡ Some f)
            go [] i h = absurd (omega (arith, h))
            go (x ∷ xs) zero h = (x, refl)
            go (x ∷ xs) (suc i) h = go xs i (omega (arith, h))

        by : (f : FoundRole) (t : Stop)
            → (((f.by ≡ NO_EDGE) × (t.start ≡ f.role) × (t.place ≡ f.before) × (t.arcs ≡ []))
            ⊎ ((p : Stop) × (f.by < NO_EDGE) × (f.before < i) × (item_at ws f.before ≡ Some p) × (t.start ≡ p.start) × (t.place ≡ p.place) × (t.arcs ≡ p.arcs ++ f.by ∷ [])))
            → (f.by ≡ NO_EDGE) ⊎ Earlier f.before f.by 0 0 → t.arcs ≡ []
        by f t (inl h) o = h.3
        by f t (inr h) (inl e) = absurd (omega (arith, e, h.1))
        by f t (inr h) (inr e) = absurd (none_earlier f.before f.by e)

    -- a start more
    pub search_start : Searched ok goal es starts (begun + 1) (slice_set seen v true) (queue ++ record { role = v; by = NO_EDGE; before = begun } ∷ []) (ws ++ new ∷ []) 0 0
    search_start = record {
      tells = tells_push queue ws (record { role = v; by = NO_EDGE; before = begun }) new w.tells (refl, inl (refl, refl, refl, refl));
      leads = λ i s at. elim (item_pushed ws new i s at) [
        | inl k ↦ w.leads i s k
        | inr (last, same) ↦ subst (λ z. (item_at starts z.place ≡ Some z.start) × LeadsAlong (role_arcs ok es) (role z.start) z.arcs (role z.node)) same (is, refl)
      ];
      within = λ i s at. subst (λ k. s.node < k) (sym (length-set seen v true)) (elim (item_pushed ws new i s at) [
        | inl k ↦ w.within i s k
        | inr (last, same) ↦ subst (λ z. z.node < length seen) same low
      ]);
      places = λ i s at. elim (item_pushed ws new i s at) [
        | inl k ↦ up s.place begun (w.places i s k)
        | inr (last, same) ↦ subst (λ z. z.place < begun + 1) same (own begun)
      ];
      order = λ i j a b h ata atb. elim (item_pushed ws new j b atb) [
        | inl k ↦ w.order i j a b h (elim (item_pushed ws new i a ata) [ inl q ↦ q | inr q ↦ absurd (past i j h q.0 (item_within ws j b k)) ]) k
        | inr (last, same) ↦ elim (item_pushed ws new i a ata) [
          | inl q ↦ subst (λ z. Before a.place a.arcs z.place z.arcs) same (rank a i q)
          | inr q ↦ absurd (twice i j h q.0 last)
        ]
      ];
      marked = λ u on. elim (seen_one seen v u low on) [
        | inl e ↦ (length ws, new, item_last ws new, sym e)
        | inr k ↦ let (j, t, at, ends) = w.marked u k in (j, t, item_front ws (new ∷ []) j t at, ends)
      ];
      begins = λ p u h at. elim (cases_lt p begun) [
        | inl k ↦ found_front ws new u p [] (w.begins p u k at)
        | inr k ↦ newest p u (omega (arith, h, k)) at
      ];
      older = λ k f at. elim (item_pushed queue (record { role = v; by = NO_EDGE; before = begun }) k f at) [
        | inl q ↦ w.older k f q
        | inr (last, same) ↦ inl (ap (λ g. g.by) (sym same))
      ];
      done = λ i n s e at ise on from h. absurd (none_earlier i n h);
      passed = λ i s at. elim (item_pushed ws new i s at) [
        | inl k ↦ w.passed i s k
        | inr (last, same) ↦ subst (λ z. goal (role z.node) ≡ false) same off
      ];
    }
      where
        up : (a b : ℕ) → a < b → a < b + 1
        up a b h = omega (arith, h)

        own : (a : ℕ) → a < a + 1
        own a = omega arith

        past : (i j : ℕ) → i < j → i ≡ length ws → j < length ws → ⊥
        past i j h e k = omega (arith, h, e, k)

        twice : (i j : ℕ) → i < j → i ≡ length ws → j ≡ length ws → ⊥
        twice i j h e k = omega (arith, h, e, k)

        rank : (a : Stop) (i : ℕ) → item_at ws i ≡ Some a → Before a.place a.arcs begun []
        rank a i q =
            subst (λ xs. Before a.place xs begun []) (sym (bare i a (subst (λ k. i < k) w.tells.size (item_within ws i a q)) q)) (inr (refl, inl (w.places i a q)))

        newest : (p u : ℕ) → p ≡ begun → item_at starts p ≡ Some u → IsFound (ws ++ new ∷ []) u p []
        newest p u e at = record {
          at = length ws;
          stop = new;
          is = item_last ws new;
          ends = one_item starts begun v u is (ap (item_at starts) (sym e) ∙ at);
          rank = inl (sym e, refl);
        }

  -- the edge n of the head s
  module _ (begun : ℕ) (seen : List Bool) (queue : List FoundRole) (ws : List Stop) (head n n' : ℕ) (s : Stop) (e : HierEdge)
      (few : length es ≤ 4_000) (here : item_at ws head ≡ Some s) (is : item_at es n ≡ Some e) (from : e.senior.0 ≡ s.node) (next : IsFirstEdge es s.node (n + 1) n')
      (w : Searched ok goal es starts begun seen queue ws head n) where
    low : n < 4_000
    low = omega (arith, item_within es n e is, few)

    beyond : n < n'
    beyond = elim next.is [ inl h ↦ omega (arith, low, h) | inr h ↦ omega (arith, h.0) ]

    by_edge : (i : ℕ) (f : FoundRole) (t : Stop) → IsStop ws i f t → (f.by ≡ NO_EDGE) ⊎ Earlier f.before f.by head n → Before t.place t.arcs s.place (s.arcs ++ n ∷ [])
    by_edge i f t (node, inl h) o = subst (λ xs. Before t.place xs s.place (s.arcs ++ n ∷ [])) (sym h.3) (before_more t.place s.place n s.arcs)
    by_edge i f t (node, inr h) (inl o) = absurd (omega (arith, o, h.1))
    by_edge i f t (node, inr (p, lowby, lt, isp, start, place, arcs)) (inr (inl o)) =
        subst (λ k. Before k t.arcs s.place (s.arcs ++ n ∷ [])) (sym place) (subst (λ xs. Before p.place xs s.place (s.arcs ++ n ∷ [])) (sym arcs) (before_push p.place s.place f.by n p.arcs s.arcs (w.order f.before head p s o isp here)))
    by_edge i f t (node, inr (p, lowby, lt, isp, start, place, arcs)) (inr (inr (o, lesser))) =
        let same : p ≡ s = one_item ws head p s (ap (item_at ws) (sym o) ∙ isp) here in
        subst (λ k. Before k t.arcs s.place (s.arcs ++ n ∷ [])) (sym (place ∙ ap (λ z. z.place) same))
        (subst (λ xs. Before s.place xs s.place (s.arcs ++ n ∷ [])) (sym (arcs ∙ ap (λ z. z.arcs ++ f.by ∷ []) same)) (before_own s.place f.by n s.arcs lesser))

    found_at : (i : ℕ) → i < length queue → (f : FoundRole) × (item_at queue i ≡ Some f)
    found_at i h = go queue i h
      where
        go : (xs : List FoundRole) (i : ℕ) → i < length xs → (f : FoundRole) × (item_at xs i ≡ Some f)
        go [] i h = absurd (omega (arith, h))
        go (x ∷ xs) zero h = (x, refl)
        go (x ∷ xs) (suc i) h = go xs i (omega (arith, h))

    -- all that is found comes before
    all_before : (i : ℕ) (t : Stop) → item_at ws i ≡ Some t → Before t.place t.arcs s.place (s.arcs ++ n ∷ [])
    all_before i t at =
        let (f, isf) = found_at i (subst (λ k. i < k) w.tells.size (item_within ws i t at)) in
        let (u, atu, told) = w.tells.told i f isf in
        let same : u ≡ t = one_item ws i u t atu at in
        by_edge i f t (subst (IsStop ws i f) same told) (w.older i f isf)

    later_lim : (i m : ℕ) → Earlier i m head n → Earlier i m head n'
    later_lim i m (inl h) = inl h
    later_lim i m (inr (q, h)) = inr (q, omega (arith, h, beyond))

    -- an edge of the head below the next one is an earlier one, or this one
    which : (m : ℕ) (f : HierEdge) → item_at es m ≡ Some f → f.senior.0 ≡ s.node → m < n' → (m < n) ⊎ (m ≡ n)
    which m f isf leaves h = elim (cases_lt m n) [
      | inl k ↦ inl k
      | inr k ↦ elim (cases_eq m n) [ inl q ↦ inr q | inr ne ↦ absurd (next.nothing m f (omega (arith, k, ne)) h isf leaves) ]
    ]

    -- nothing new is found by the edge
    pub search_skip : (ok n e ≡ true → is_seen seen e.junior.0 ≡ true) → Searched ok goal es starts begun seen queue ws head n'
    search_skip known = record {
      tells = w.tells;
      leads = w.leads;
      within = w.within;
      places = w.places;
      order = w.order;
      marked = w.marked;
      begins = w.begins;
      older = λ k f at. elim (w.older k f at) [ inl h ↦ inl h | inr h ↦ inr (later_lim f.before f.by h) ];
      done = λ i m t f at isf on leaves h. elim h [
        | inl h ↦ w.done i m t f at isf on leaves (inl h)
        | inr (q, h) ↦
            let same : t ≡ s = one_item ws head t s (ap (item_at ws) (sym q) ∙ at) here in
            elim (which m f isf (leaves ∙ ap (λ z. z.node) same) h) [
              | inl k ↦ w.done i m t f at isf on leaves (inr (q, k))
              | inr k ↦ this m f t same k isf on
            ]
      ];
      passed = w.passed;
    }
      where
        this : (m : ℕ) (f : HierEdge) (t : Stop) → t ≡ s → m ≡ n → item_at es m ≡ Some f → ok m f ≡ true → IsFound ws f.junior.0 t.place (t.arcs ++ m ∷ [])
        this m f t same k isf on =
            let edge : e ≡ f = one_item es n e f is (ap (item_at es) (sym k) ∙ isf) in
            let (j, u, at, ends) = w.marked e.junior.0 (known (subst (λ g. ok n g ≡ true) (sym edge) (subst (λ z. ok z f ≡ true) k on))) in
            subst (λ z. IsFound ws f.junior.0 z.place (z.arcs ++ m ∷ [])) (sym same)
            (subst (λ z. IsFound ws f.junior.0 s.place (s.arcs ++ z ∷ [])) (sym k)
            (record { at = j; stop = u; is = at; ends = ends ∙ ap (λ g. g.junior.0) edge; rank = inr (all_before j u at) }))

    abbrev found : FoundRole
    found = record { role = e.junior.0; by = n; before = head }

    abbrev reached : Stop
    reached = record { node = e.junior.0; start = s.start; place = s.place; arcs = s.arcs ++ n ∷ [] }

    -- a role is found by the edge
    pub search_found : ok n e ≡ true → e.junior.0 < length seen → goal e.junior ≡ false → Searched ok goal es starts begun (slice_set seen e.junior.0 true) (queue ++ found ∷ []) (ws ++ reached ∷ []) head n'
    search_found on inside off = record {
      tells = tells_push queue ws found reached w.tells (refl, inr (s, omega (arith, low), subst (λ k. head < k) w.tells.size (item_within ws head s here), here, refl, refl, refl));
      leads = λ i t at. elim (item_pushed ws reached i t at) [
        | inl k ↦ w.leads i t k
        | inr (last, same) ↦
            subst (λ z. (item_at starts z.place ≡ Some z.start) × LeadsAlong (role_arcs ok es) (role z.start) z.arcs (role z.node)) same (
              (w.leads head s here).0,
              leads_on (role_arcs ok es) (role s.start) (role s.node) e.junior s.arcs n (w.leads head s here).1 (open_arc ok es n e is on ∙ ap (λ k. Some (record { from = record { 0 = k }; to = e.junior; is_open = true })) from),
            )
      ];
      within = λ i t at. subst (λ k. t.node < k) (sym (length-set seen e.junior.0 true)) (elim (item_pushed ws reached i t at) [
        | inl k ↦ w.within i t k
        | inr (last, same) ↦ subst (λ z. z.node < length seen) same inside
      ]);
      places = λ i t at. elim (item_pushed ws reached i t at) [
        | inl k ↦ w.places i t k
        | inr (last, same) ↦ subst (λ z. z.place < begun) same (w.places head s here)
      ];
      order = λ i j a b h ata atb. elim (item_pushed ws reached j b atb) [
        | inl k ↦ w.order i j a b h (elim (item_pushed ws reached i a ata) [ inl q ↦ q | inr q ↦ absurd (past i j h q.0 (item_within ws j b k)) ]) k
        | inr (last, same) ↦ elim (item_pushed ws reached i a ata) [
          | inl q ↦ subst (λ z. Before a.place a.arcs z.place z.arcs) same (all_before i a q)
          | inr q ↦ absurd (twice i j h q.0 last)
        ]
      ];
      marked = λ u seen_u. elim (seen_one seen e.junior.0 u inside seen_u) [
        | inl q ↦ (length ws, reached, item_last ws reached, sym q)
        | inr k ↦ let (j, t, at, ends) = w.marked u k in (j, t, item_front ws (reached ∷ []) j t at, ends)
      ];
      begins = λ p u h at. found_front ws reached u p [] (w.begins p u h at);
      older = λ k f at. elim (item_pushed queue found k f at) [
        | inl q ↦ elim (w.older k f q) [ inl h ↦ inl h | inr h ↦ inr (later_lim f.before f.by h) ]
        | inr (last, same) ↦ inr (subst (λ g. Earlier g.before g.by head n') same (inr (refl, beyond)))
      ];
      done = λ i m t f at isf may leaves h. elim (item_pushed ws reached i t at) [
        | inl old ↦ elim h [
          | inl h ↦ found_front ws reached f.junior.0 t.place (t.arcs ++ m ∷ []) (w.done i m t f old isf may leaves (inl h))
          | inr (q, h) ↦
              let same : t ≡ s = one_item ws head t s (ap (item_at ws) (sym q) ∙ old) here in
              elim (which m f isf (leaves ∙ ap (λ z. z.node) same) h) [
                | inl k ↦ found_front ws reached f.junior.0 t.place (t.arcs ++ m ∷ []) (w.done i m t f old isf may leaves (inr (q, k)))
                | inr k ↦ this m f t same k isf
              ]
        ]
        | inr (last, same) ↦ absurd (too_late i m last h)
      ];
      passed = λ i t at. elim (item_pushed ws reached i t at) [
        | inl k ↦ w.passed i t k
        | inr (last, same) ↦ subst (λ z. goal (role z.node) ≡ false) same off
      ];
    }
      where
        inside_head : head < length ws
        inside_head = item_within ws head s here

        past : (i j : ℕ) → i < j → i ≡ length ws → j < length ws → ⊥
        past i j h q k = omega (arith, h, q, k)

        twice : (i j : ℕ) → i < j → i ≡ length ws → j ≡ length ws → ⊥
        twice i j h q k = omega (arith, h, q, k)

        too_late : (i m : ℕ) → i ≡ length ws → Earlier i m head n' → ⊥
        too_late i m q (inl h) = omega (arith, q, h, inside_head)
        too_late i m q (inr (p, h)) = omega (arith, q, p, inside_head)

        this : (m : ℕ) (f : HierEdge) (t : Stop) → t ≡ s → m ≡ n → item_at es m ≡ Some f → IsFound (ws ++ reached ∷ []) f.junior.0 t.place (t.arcs ++ m ∷ [])
        this m f t same k isf =
            let edge : e ≡ f = one_item es n e f is (ap (item_at es) (sym k) ∙ isf) in
            subst (λ z. IsFound (ws ++ reached ∷ []) f.junior.0 z.place (z.arcs ++ m ∷ [])) (sym same)
            (subst (λ z. IsFound (ws ++ reached ∷ []) f.junior.0 s.place (s.arcs ++ z ∷ [])) (sym k)
            (record { at = length ws; stop = reached; is = item_last ws reached; ends = ap (λ g. g.junior.0) edge; rank = inl (refl, refl) }))

  -- the edges of the head are followed
  pub search_on : (begun : ℕ) (seen : List Bool) (queue : List FoundRole) (ws : List Stop) (head n : ℕ) → length es ≤ 4_000 → n ≡ NO_EDGE → Searched ok goal es starts begun seen queue ws head n → Searched ok goal es starts begun seen queue ws (head + 1) 0
  search_on begun seen queue ws head n few whole w = record {
    tells = w.tells;
    leads = w.leads;
    within = w.within;
    places = w.places;
    order = w.order;
    marked = w.marked;
    begins = w.begins;
    older = λ k f at. elim (w.older k f at) [ inl h ↦ inl h | inr h ↦ inr (up f.before f.by h) ];
    done = λ i m s e at is on from h. w.done i m s e at is on from (down i m (low m e is) h);
    passed = w.passed;
  }
    where
      up : (i m : ℕ) → Earlier i m head n → Earlier i m (head + 1) 0
      up i m (inl h) = inl (omega (arith, h))
      up i m (inr (q, h)) = inl (omega (arith, q))

      low : (m : ℕ) (e : HierEdge) → item_at es m ≡ Some e → m < n
      low m e is = omega (arith, item_within es m e is, few, whole)

      down : (i m : ℕ) → m < n → Earlier i m (head + 1) 0 → Earlier i m head n
      down i m k (inl h) = elim (cases_lt i head) [ inl q ↦ inl q | inr q ↦ inr (omega (arith, h, q), k) ]
      down i m k (inr (q, h)) = absurd (omega (arith, h))

  -- no edge from the head is open up to the limit
  pub search_shut : (begun : ℕ) (seen : List Bool) (queue : List FoundRole) (ws : List Stop) (head n : ℕ) (s : Stop) → item_at ws head ≡ Some s
      → ((m : ℕ) (e : HierEdge) → item_at es m ≡ Some e → e.senior.0 ≡ s.node → ok m e ≡ true → m < n → ⊥)
      → Searched ok goal es starts begun seen queue ws head 0 → Searched ok goal es starts begun seen queue ws head n
  search_shut begun seen queue ws head n s here shut w = record {
    tells = w.tells;
    leads = w.leads;
    within = w.within;
    places = w.places;
    order = w.order;
    marked = w.marked;
    begins = w.begins;
    older = λ k f at. elim (w.older k f at) [ inl h ↦ inl h | inr h ↦ inr (up f.before f.by h) ];
    done = λ i m t e at is on from h. elim h [
      | inl h ↦ w.done i m t e at is on from (inl h)
      | inr (q, h) ↦ absurd (shut m e is (from ∙ ap (λ z. z.node) (one_item ws head t s (ap (item_at ws) (sym q) ∙ at) here)) on h)
    ];
    passed = w.passed;
  }
    where
      up : (i m : ℕ) → Earlier i m head 0 → Earlier i m head n
      up i m (inl h) = inl h
      up i m (inr (q, h)) = absurd (omega (arith, h))

  -- the edges of the head from its first one on
  pub search_first : (begun : ℕ) (seen : List Bool) (queue : List FoundRole) (ws : List Stop) (head n : ℕ) (s : Stop) → item_at ws head ≡ Some s → IsFirstEdge es s.node 0 n → Searched ok goal es starts begun seen queue ws head 0 → Searched ok goal es starts begun seen queue ws head n
  search_first begun seen queue ws head n s here first w =
      search_shut begun seen queue ws head n s here (λ m e is from on h. first.nothing m e (low m) h is from) w
    where
      low : (m : ℕ) → 0 ≤ m
      low m = omega arith
