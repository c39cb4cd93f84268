-- A walk of a policy has at most 999 edges, since it never comes back to a role.
use Rattle.std.proofs.Common.{◌≡◌, ◌≢◌, ℕ, suc, ◌<◌, ◌≤◌, Bool, true, false, ◌||◌, List, [], ◌∷◌, length, Option, Some, None, refl, sym, ◌∙◌, ap, subst, arith, eqb}
use Rattle.std.specs.Prelude.{nat_lt, slice_get}
use Rattle.std.specs.List.{list_any, list_all, IsDistinct, AllByRecursion}
use Rattle.std.proofs.lemmas.Bool.{false≢true, ltb-true}
use Rattle.std.proofs.lemmas.Bool.Decides.{Decides-eqb}
use Rattle.std.proofs.lemmas.Map.Steps.{length-le_from_distinct_below}
use Rattle.gt_base.specs.Held.{RoleWalk}
use Rattle.gt_base.specs.declared.events.RoleId.{RoleId}
use Rattle.gt_base.specs.declared.policies.HierEdge.{HierEdge}
use Rattle.gt_base.specs.declared.requests.Decision.{Decision}
use Rattle.gt_base.specs.declared.requests.Decision.TheVariants.{Permit, NoActive, NoGrant, Shut}
use Rattle.gt_base.specs.declared.requests.Reply.{Reply}
use Rattle.gt_base.specs.declared.requests.Reply.TheVariants.{Now, Truth, Event, Queued, Session, Done, Active, Decided, Refused}
use Rattle.gtrbac_model.specs.Graph.{Arc, item_at, LeadsAlong}
use Rattle.gtrbac_model.specs.Hierarchy.{all_arcs}
use Rattle.least_walk.proofs.Items.{item_get, item_of_map}
use Rattle.walk_laws.proofs.Roles.{one_role}
use Rattle.policy_lines.proofs.Truths.{both, not_true}
use Rattle.policy_words.specs.Naming.{NamedPolicy}
use Rattle.policy_words.specs.Valid.{IsWellFormed}
use Rattle.request_text.specs.Replies.{edge_at}
use Rattle.request_text.specs.Named.{has_edge, has_walk, has_decision, has_reply}
use Rattle.request_text.specs.Sizes.{IsBriefDecision, IsBrief}
use Rattle.request_text.specs.Kinds.{Follows, FollowsDecision, IsSoundReply}
use Rattle.request_text.proofs.ToldWalks.{ends_in}

others : (x : ℕ) (xs : List ℕ) → list_any (eqb x) xs ≡ false → AllByRecursion (λ y. eqb x y ≡ false) xs
others x [] h = tt
others x (y ∷ ys) h = by (λ k. others x ys k) (eqb x y) refl h
  where
    by : (list_any (eqb x) ys ≡ false → AllByRecursion (λ y. eqb x y ≡ false) ys) → (b : Bool) → eqb x y ≡ b → (b || list_any (eqb x) ys) ≡ false → AllByRecursion (λ y. eqb x y ≡ false) (y ∷ ys)
    by again true e h = absurd (false≢true (sym h))
    by again false e h = (e, again h)

module _ (np : NamedPolicy) (good : IsWellFormed np) where
  abbrev arcs : List (Arc RoleId)
  arcs = all_arcs np.policy.edges

  abbrev arc_of : HierEdge → Arc RoleId
  arc_of e = record { from = e.senior; to = e.junior; is_open = true }

  arc_at : (n : ℕ) (e : HierEdge) → slice_get np.policy.edges n ≡ Some e → item_at arcs n ≡ Some (arc_of e)
  arc_at n e at = item_of_map arc_of np.policy.edges n e (item_get np.policy.edges n ∙ at)

  -- the number of the junior of an edge
  abbrev stop : ℕ → ℕ
  stop n = elim (edge_at np n) as (λ _. ℕ) [ Some e ↦ e.junior.0 | None ↦ 0 ]

  abbrev stops : List ℕ → List ℕ
  stops [] = []
  stops (n ∷ ns) = stop n ∷ stops ns

  stop_is : (n : ℕ) (e : HierEdge) → slice_get np.policy.edges n ≡ Some e → stop n ≡ e.junior.0
  stop_is n e at = ap (λ (o : Option HierEdge). elim o as (λ _. ℕ) [ Some e ↦ e.junior.0 | None ↦ 0 ]) at

  record Back (c a : RoleId) : Type 0 where
    front : List ℕ
    some : front ≢ []
    leads : LeadsAlong arcs c front a

  not_empty : (n : ℕ) (ns : List ℕ) → n ∷ ns ≢ []
  not_empty n ns e = omega (arith, ap (λ (t : List ℕ). length t) e)

  comes_back : (a c : RoleId) (ns : List ℕ) → Follows np.policy c ns → list_any (eqb a.0) (stops ns) ≡ true → Back c a
  comes_back a c [] f h = absurd (false≢true h)
  comes_back a c (n ∷ ns) (e, at, from, more) h = by (λ k. comes_back a e.junior ns more k) (eqb a.0 (stop n)) refl h
    where
      by : (list_any (eqb a.0) (stops ns) ≡ true → Back e.junior a) → (b : Bool) → eqb a.0 (stop n) ≡ b → (b || list_any (eqb a.0) (stops ns)) ≡ true → Back c a
      by again true is h =
          let same : e.junior ≡ a = one_role e.junior a (sym (stop_is n e at) ∙ sym ((Decides-eqb a.0 (stop n)).0 is)) in
          record { front = n ∷ []; some = not_empty n []; leads = (arc_of e, arc_at n e at, refl, from, same) }
      by again false is h = let rest = again h in record { front = n ∷ rest.front; some = not_empty n rest.front; leads = (arc_of e, arc_at n e at, refl, from, rest.leads) }

  distinct : (a : RoleId) (ns : List ℕ) → Follows np.policy a ns → IsDistinct eqb (a.0 ∷ stops ns)
  unfolding IsDistinct
  distinct a [] f = (tt, tt)
  distinct a (n ∷ ns) (e, at, from, more) = (
    others a.0 (stops (n ∷ ns)) (not_true (list_any (eqb a.0) (stops (n ∷ ns))) (λ t. let back = comes_back a a (n ∷ ns) (e, at, from, more) t in back.some (good.policy.no_ring a back.front back.leads))),
    subst (λ k. IsDistinct eqb (k ∷ stops ns)) (sym (stop_is n e at)) (distinct e.junior ns more),
  )

  among : (c : RoleId) (ns : List ℕ) → Follows np.policy c ns → (q : ℕ) → list_any (eqb q) (stops ns) ≡ true → q < np.policy.roles
  among c [] f q t = absurd (false≢true t)
  among c (n ∷ ns) (e, at, from, more) q t = by (λ k. among e.junior ns more q k) (eqb q (stop n)) refl t
    where
      by : (list_any (eqb q) (stops ns) ≡ true → q < np.policy.roles) → (b : Bool) → eqb q (stop n) ≡ b → (b || list_any (eqb q) (stops ns)) ≡ true → q < np.policy.roles
      by again true is t = omega (arith, (Decides-eqb q (stop n)).0 is, stop_is n e at, ltb-true e.junior.0 np.policy.roles (ends_in np good n e at).1)
      by again false is t = again t

  within : (a : RoleId) (ns : List ℕ) → nat_lt a.0 np.policy.roles ≡ true → Follows np.policy a ns → (q : ℕ) → list_any (eqb q) (a.0 ∷ stops ns) ≡ true → q < np.policy.roles
  within a ns h f q t = by (eqb q a.0) refl t
    where
      by : (b : Bool) → eqb q a.0 ≡ b → (b || list_any (eqb q) (stops ns)) ≡ true → q < np.policy.roles
      by true is t = omega (arith, (Decides-eqb q a.0).0 is, ltb-true a.0 np.policy.roles h)
      by false is t = among a ns f q t

  stop_count : (ns : List ℕ) → length (stops ns) ≡ length ns
  stop_count [] = refl
  stop_count (n ∷ ns) = ap (λ k. suc k) (stop_count ns)

  pub brief_walk : (w : RoleWalk) → has_walk np.policy w ≡ true → Follows np.policy w.start w.edges → length w.edges ≤ 999
  brief_walk w h f =
      let start = (both (nat_lt w.start.0 np.policy.roles) (list_all (has_edge np.policy) w.edges) h).0 in
      omega (arith, length-le_from_distinct_below (w.start.0 ∷ stops w.edges) np.policy.roles (distinct w.start w.edges f) (within w.start w.edges start f), stop_count w.edges, good.policy.roles)

  brief_decision : (d : Decision) → has_decision np.policy d ≡ true → FollowsDecision np.policy d → IsBriefDecision d
  brief_decision (Permit w) h f = brief_walk w h f
  brief_decision NoActive h f = tt
  brief_decision NoGrant h f = tt
  brief_decision (Shut n) h f = tt

  pub brief_reply : (r : Reply) → has_reply np.policy r ≡ true → IsSoundReply np.policy r → IsBrief r
  brief_reply (Now t) h s = tt
  brief_reply (Truth b) h s = tt
  brief_reply (Event e) h s = tt
  brief_reply (Queued t) h s = tt
  brief_reply (Session n) h s = tt
  brief_reply Done h s = tt
  brief_reply (Active w) h s = brief_walk w h s
  brief_reply (Decided d) h s = brief_decision d h s
  brief_reply (Refused f) h s = tt
