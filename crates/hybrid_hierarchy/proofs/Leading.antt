-- What a search finds first is the least walk.
use Rattle.std.proofs.Common.{◌≡◌, ℕ, ◌+◌, ◌<◌, ◌≤◌, ◌⊎◌, inl, inr, Bool, true, false, List, [], ◌∷◌, ◌++◌, length, Some, refl, sym, ◌∙◌, ap, subst, arith, append_assoc}
use Rattle.std.proofs.lemmas.Bool.{cases_eq, cases_lt, false≢true}
use Rattle.gt_base.specs.declared.events.RoleId.{RoleId}
use Rattle.gt_base.specs.declared.policies.HierEdge.{HierEdge}
use Rattle.gtrbac_model.specs.Graph.{Arc, Path, LeadsAlong, IsWalk, NotAfter, IsLeastWalk, item_at}
use Rattle.gtrbac_model.specs.Hierarchy.{role_arcs}
use Rattle.walk_laws.specs.Laws.{HasNoWalk}
use Rattle.least_walk.proofs.Items.{item_within, one_item, item_map, item_of_map, item_numbered}
use Rattle.hybrid_hierarchy.specs.declared.searching.FoundRole.{FoundRole}
use Rattle.hybrid_hierarchy.specs.Searches.{Stop, NotLater, Earlier, IsFound, Searched, roles_of}
use Rattle.hybrid_hierarchy.proofs.Roles.{role}
use Rattle.hybrid_hierarchy.proofs.Ranks.{before_push, before_own, not_later_through, not_later_push, not_later_rest, in_order}
use Rattle.hybrid_hierarchy.proofs.Seeking.{leads_on, open_arc}

-- the edge of an open arc
pub arc_edge : (ok : ℕ → HierEdge → Bool) (es : List HierEdge) (n : ℕ) (arc : Arc RoleId) → item_at (role_arcs ok es) n ≡ Some arc → (e : HierEdge) × (item_at es n ≡ Some e) × (arc ≡ record { from = e.senior; to = e.junior; is_open = ok n e })
arc_edge ok es n arc is =
    let (e, at, same) = item_numbered (λ e. record { from = e.1.senior; to = e.1.junior; is_open = ok e.0 e.1 }) 0 es n arc is in
    let k : 0 + n ≡ n = omega arith in
    (e, at, same ∙ ap (λ m. record { from = e.senior; to = e.junior; is_open = ok m e }) k)

-- an edge from what was found that is not followed yet, by which a walk goes on that is not later
record IsAhead (ws : List Stop) (head lim place : ℕ) (arcs : List ℕ) : Type 0 where
  at : ℕ
  by : ℕ
  stop : Stop
  ahead : Earlier at by head lim → ⊥
  is : item_at ws at ≡ Some stop
  rank : NotLater stop.place (stop.arcs ++ by ∷ []) place arcs

cases_earlier : (i n head lim : ℕ) → Earlier i n head lim ⊎ (Earlier i n head lim → ⊥)
cases_earlier i n head lim = elim (cases_lt i head) [
  | inl k ↦ inl (inl k)
  | inr k ↦ elim (cases_eq i head) [
    | inr ne ↦ inr (not_before k ne)
    | inl e ↦ elim (cases_lt n lim) [ inl h ↦ inl (inr (e, h)) | inr h ↦ inr (not_below k h) ]
  ]
]
  where
    not_before : head ≤ i → (i ≡ head → ⊥) → Earlier i n head lim → ⊥
    not_before k ne (inl h) = omega (arith, k, h)
    not_before k ne (inr h) = ne h.0

    not_below : head ≤ i → lim ≤ n → Earlier i n head lim → ⊥
    not_below k h (inl q) = omega (arith, k, q)
    not_below k h (inr q) = omega (arith, h, q.1)

module _ (ok : ℕ → HierEdge → Bool) (goal : RoleId → Bool) (es : List HierEdge) (starts : List ℕ) where
  -- a start that is a goal, and none before it
  pub start_is_least : (place v : ℕ) → item_at starts place ≡ Some v → goal (role v) ≡ true → ((j s : ℕ) → j < place → item_at starts j ≡ Some s → goal (role s) ≡ false)
      → IsLeastWalk (role_arcs ok es) goal (roles_of starts) (record { start = role v; arcs = [] })
  start_is_least place v is on none = record {
    place = place;
    is_walk = record { end = role v; from_start = item_of_map role starts place v is; leads = refl; reaches = on };
    least = λ j q w. order j q.start q.arcs w.end w.from_start w.leads w.reaches;
  }
    where
      order : (j : ℕ) (a : RoleId) (ns : List ℕ) (end : RoleId) → item_at (roles_of starts) j ≡ Some a → LeadsAlong (role_arcs ok es) a ns end → goal end ≡ true
          → NotAfter place (record { start = role v; arcs = [] }) j (record { start = a; arcs = ns })
      order j a (n ∷ ns) end at leads reaches = inl (omega arith)
      order j a [] end at leads reaches = inr (
        refl,
        elim (cases_lt place j) [
          | inl h ↦ inl h
          | inr h ↦ elim (cases_lt j place) [
            | inl k ↦
                let (x, isx, same) = item_map role starts j a at in
                absurd (false≢true (sym (none j x k isx) ∙ ap goal (sym same ∙ leads) ∙ reaches))
            | inr k ↦ inr (omega (arith, h, k), refl)
          ]
        ],
      )

  module _ (seen : List Bool) (queue : List FoundRole) (ws : List Stop) (head lim : ℕ) (w : Searched ok goal es starts (length starts) seen queue ws head lim) where
    -- a walk to a goal leads past the head
    ahead : (place : ℕ) (pre ms : List ℕ) (v end : RoleId) → IsFound ws v.0 place pre → LeadsAlong (role_arcs ok es) v ms end → goal end ≡ true → IsAhead ws head lim place (pre ++ ms)
    ahead place pre [] v end h leads on = absurd (false≢true (sym (w.passed h.at h.stop h.is) ∙ ap goal (ap role h.ends ∙ leads) ∙ on))
    ahead place pre (m ∷ ms) v end h (arc, is, may, from, rest) on = elim (cases_earlier h.at m head lim) [
      | inl k ↦
          let (e, ise, same) = arc_edge ok es m arc is in
          let passes : ok m e ≡ true = ap (λ a. a.is_open) (sym same) ∙ may in
          let leaves : e.senior.0 ≡ h.stop.node = ap (λ a. a.from.0) (sym same) ∙ ap (λ r. r.0) from ∙ sym h.ends in
          let next = w.done h.at m h.stop e h.is ise passes leaves k in
          subst (IsAhead ws head lim place) (append_assoc pre (m ∷ []) ms)
          (ahead place (pre ++ m ∷ []) ms arc.to end (record {
            at = next.at;
            stop = next.stop;
            is = next.is;
            ends = next.ends ∙ ap (λ a. a.to.0) (sym same);
            rank = not_later_through next.stop.place h.stop.place place next.stop.arcs (h.stop.arcs ++ m ∷ []) (pre ++ m ∷ []) next.rank (not_later_push h.stop.place place m h.stop.arcs pre h.rank);
          }) rest on)
      | inr k ↦ record {
        at = h.at;
        by = m;
        stop = h.stop;
        ahead = k;
        is = h.is;
        rank = subst (NotLater h.stop.place (h.stop.arcs ++ m ∷ []) place) (append_assoc pre (m ∷ []) ms)
            (not_later_rest h.stop.place place (h.stop.arcs ++ m ∷ []) (pre ++ m ∷ []) ms (not_later_push h.stop.place place m h.stop.arcs pre h.rank));
      }
    ]

    walk_ahead : (place : ℕ) (q : Path RoleId) → IsWalk (role_arcs ok es) goal (roles_of starts) place q → IsAhead ws head lim place q.arcs
    walk_ahead place q walk =
        let (n, at, same) = item_map role starts place q.start walk.from_start in
        let begun = w.begins place n (item_within starts place n at) at in
        ahead place [] q.arcs q.start walk.end (subst (λ r. IsFound ws r.0 place []) (sym same) begun) walk.leads walk.reaches

    -- nothing is ahead
    pub none_ahead : length queue ≤ head → HasNoWalk (role_arcs ok es) goal (roles_of starts)
    none_ahead all place q walk =
        let h = walk_ahead place q walk in
        h.ahead (inl (below h.at (item_within ws h.at h.stop h.is)))
      where
        below : (i : ℕ) → i < length ws → i < head
        below i h = omega (arith, h, w.tells.size, all)

  -- the edge n of the head s leads to a goal
  pub reached_is_least : (seen : List Bool) (queue : List FoundRole) (ws : List Stop) (head n : ℕ) → Searched ok goal es starts (length starts) seen queue ws head n → (s : Stop) (e : HierEdge)
      → item_at ws head ≡ Some s → item_at es n ≡ Some e → e.senior.0 ≡ s.node → ok n e ≡ true → goal e.junior ≡ true
      → IsLeastWalk (role_arcs ok es) goal (roles_of starts) (record { start = role s.start; arcs = s.arcs ++ n ∷ [] })
  reached_is_least seen queue ws head n w s e here is from on reaches = record {
    place = s.place;
    is_walk = record {
      end = e.junior;
      from_start = item_of_map role starts s.place s.start (w.leads head s here).0;
      leads = leads_on (role_arcs ok es) (role s.start) (role s.node) e.junior s.arcs n (w.leads head s here).1
          (open_arc ok es n e is on ∙ ap (λ k. Some (record { from = record { 0 = k }; to = e.junior; is_open = true })) from);
      reaches = reaches;
    };
    least = λ j q v. first j q (walk_ahead seen queue ws head n w j q v);
  }
    where
      later : (m : ℕ) → n ≤ m → NotLater s.place (s.arcs ++ n ∷ []) s.place (s.arcs ++ m ∷ [])
      later m le = elim (cases_eq n m) [
        | inl q ↦ inl (refl, ap (λ k. s.arcs ++ k ∷ []) q)
        | inr ne ↦ inr (before_own s.place n m s.arcs (omega (arith, le, ne)))
      ]

      not_below : (i m : ℕ) → head ≡ i → (Earlier i m head n → ⊥) → n ≤ m
      not_below i m e far = elim (cases_lt m n) [ inl h ↦ absurd (far (inr (sym e, h))) | inr h ↦ h ]

      above : (i m : ℕ) → (head ≡ i → ⊥) → (Earlier i m head n → ⊥) → head < i
      above i m ne far = elim (cases_lt i head) [ inl h ↦ absurd (far (inl h)) | inr h ↦ omega (arith, ne, h) ]

      edge : (j : ℕ) (arcs : List ℕ) → (h : IsAhead ws head n j arcs) → NotLater s.place (s.arcs ++ n ∷ []) h.stop.place (h.stop.arcs ++ h.by ∷ [])
      edge j arcs h = elim (cases_eq head h.at) [
        | inl e ↦
            let same : h.stop ≡ s = one_item ws head h.stop s (ap (item_at ws) e ∙ h.is) here in
            subst (λ z. NotLater s.place (s.arcs ++ n ∷ []) z.place (z.arcs ++ h.by ∷ [])) (sym same) (later h.by (not_below h.at h.by e h.ahead))
        | inr ne ↦ inr (before_push s.place h.stop.place n h.by s.arcs h.stop.arcs (w.order head h.at s h.stop (above h.at h.by ne h.ahead) here h.is))
      ]

      first : (j : ℕ) (q : Path RoleId) → IsAhead ws head n j q.arcs → NotAfter s.place (record { start = role s.start; arcs = s.arcs ++ n ∷ [] }) j q
      first j q h = in_order s.place j (s.arcs ++ n ∷ []) q.arcs (not_later_through s.place h.stop.place j (s.arcs ++ n ∷ []) (h.stop.arcs ++ h.by ∷ []) q.arcs (edge j q.arcs h) h.rank)
