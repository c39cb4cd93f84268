-- Walks of the numbered graph and of the triggers are the same.
use Rattle.std.proofs.Common.{◌≡◌, ℕ, zero, suc, ◌<◌, ◌≤◌, inl, inr, Bool, true, false, cond, nat_lt, nat_le, List, [], ◌∷◌, length, Option, Some, None, MatchOption, slice_index, refl, sym, ◌∙◌, ap, subst, arith, if◌then◌else◌}
use Rattle.std.proofs.lemmas.Bool.{lt-ltb, le-leb, false≢true}
use Rattle.gt_base.specs.declared.events.Event.{Event}
use Rattle.gt_base.specs.Held.{TriggerView}
use Rattle.gtrbac_model.specs.Same.{same_event}
use Rattle.gtrbac_model.specs.Graph.{LeadsAlong, item_at}
use Rattle.gtrbac_model.specs.Safety.{Dependency, dependencies, IsSafe, IsLevelling, rises, the_cycle}
use Rattle.gtrbac_model.specs.Safety as safety
use Rattle.gtrbac_model.proofs.Elements.{Elem, all_intro}
use Rattle.gtrbac_model.proofs.Uniqueness.{is_same_event, same_event_of}
use Rattle.least_walk.specs.declared.graphs.GraphEdge.{GraphEdge}
use Rattle.least_walk.specs.Net.{arc_of, arcs_of, is_marked}
use Rattle.least_walk.proofs.Items.{item_map, item_of_map}
use Rattle.gtrbac_model.specs.Cycles.{Closes, IsLeastCycle, AreLevels, is_conflict}
use Rattle.walk_laws.proofs.Closing as closing
use Rattle.walk_laws.proofs.Orders.{one_least_cycle}
use Rattle.dependency_graph.specs.Nets.{EventNet, IsGraphOf, event_at, dependency, read_off}
use Rattle.dependency_graph.specs.Carried.{event_place, level_in, CyclesCarryOver, LevelsCarryOver}

-- what stands at a number of the list read off
read_at : (events : List Event) (es : List GraphEdge) (ps : List (ℕ × ℕ)) (n : ℕ) (d : Dependency) → item_at (read_off events es ps) n ≡ Some d → (e : GraphEdge) × (p : ℕ × ℕ) × (item_at es n ≡ Some e) × (d ≡ dependency events e p)
read_at events [] ps n d h = cc
read_at events (e ∷ es) [] n d h = cc
read_at events (e ∷ es) (p ∷ ps) zero d h = (e, p, refl, cc)
read_at events (e ∷ es) (p ∷ ps) (suc n) d h = read_at events es ps n d h

read_there : (events : List Event) (es : List GraphEdge) (ps : List (ℕ × ℕ)) (n : ℕ) (e : GraphEdge) → length ps ≡ length es → item_at es n ≡ Some e → (p : ℕ × ℕ) × (item_at (read_off events es ps) n ≡ Some (dependency events e p))
read_there events [] ps n e size h = cc
read_there events (x ∷ es) [] n e size h = absurd (omega arith)
read_there events (x ∷ es) (p ∷ ps) zero e size h = let q : x ≡ e = cc in (p, ap (λ z. Some (dependency events z p)) q)
read_there events (x ∷ es) (p ∷ ps) (suc n) e size h = read_there events es ps n e (omega arith) h

event_here : (xs : List Event) (n : ℕ) → n < length xs → item_at xs n ≡ Some (event_at xs n)
event_here [] n h = absurd (omega arith)
event_here (x ∷ xs) zero h = refl
event_here (x ∷ xs) (suc n) h = event_here xs n (omega arith)

-- an event that stands somewhere stands at its place
pub place_here : (xs : List Event) (n : ℕ) (e : Event) → item_at xs n ≡ Some e → item_at xs (event_place xs e) ≡ Some e
place_here [] n e h = cc
place_here (x ∷ xs) zero e h = go (same_event e x) refl
  where
    go : (b : Bool) → same_event e x ≡ b → item_at (x ∷ xs) (if b then 0 else suc (event_place xs e)) ≡ Some e
    go true q = h
    go false q = absurd (false≢true (sym q ∙ same_event_of e x (sym (the_same h))))
      where
        the_same : Some x ≡ Some e → x ≡ e
        the_same k = cc
place_here (x ∷ xs) (suc n) e h = go (same_event e x) refl (place_here xs n e h)
  where
    go : (b : Bool) → same_event e x ≡ b → item_at xs (event_place xs e) ≡ Some e → item_at (x ∷ xs) (if b then 0 else suc (event_place xs e)) ≡ Some e
    go true q k = ap Some (sym (is_same_event e x q))
    go false q k = k

module _ (rules : List TriggerView) (g : EventNet) (is : IsGraphOf rules g) where
  abbrev ds : List Dependency
  ds = dependencies rules

  abbrev event : ℕ → Event
  event = event_at g.events

  -- both sides, edge by edge
  edge_of : (n : ℕ) (d : Dependency) → item_at ds n ≡ Some d → (e : GraphEdge) × (p : ℕ × ℕ) × (item_at g.net.edges n ≡ Some e) × (d ≡ dependency g.events e p)
  edge_of n d h = read_at g.events g.net.edges g.places n d (ap (λ xs. item_at xs n) is.edges ∙ h)

  dependency_of : (n : ℕ) (e : GraphEdge) → item_at g.net.edges n ≡ Some e → (p : ℕ × ℕ) × (item_at ds n ≡ Some (dependency g.events e p))
  dependency_of n e h =
      let (p, k) = read_there g.events g.net.edges g.places n e is.is_event_net.places h in
      (p, ap (λ xs. item_at xs n) (sym is.edges) ∙ k)

  inside : (v : ℕ) → v < g.net.nodes → v < length g.events
  inside v h = subst (λ k. v < k) is.is_event_net.nodes h

  -- two nodes of one event are one
  one_node : (u v : ℕ) → u < g.net.nodes → v < g.net.nodes → event u ≡ event v → u ≡ v
  one_node u v hu hv q = is.is_event_net.apart u v (event v) (event_here g.events u (inside u hu) ∙ ap Some q) (event_here g.events v (inside v hv))

  place_is : (v : ℕ) → v < g.net.nodes → event_place g.events (event v) ≡ v
  place_is v h =
      is.is_event_net.apart (event_place g.events (event v)) v (event v)
      (place_here g.events v (event v) (event_here g.events v (inside v h))) (event_here g.events v (inside v h))

  up : (a b : ℕ) (ns : List ℕ) → LeadsAlong (arcs_of g.net.edges) a ns b → LeadsAlong (safety.arcs_of ds) (event a) ns (event b)
  up a b [] w = ap event w
  up a b (n ∷ ns) (arc, isa, _, from, rest) =
      let (e, ise, same) = item_map arc_of g.net.edges n arc isa in
      let (p, isd) = dependency_of n e ise in (
        closing.arc_of (dependency g.events e p),
        closing.arc_here ds n _ isd,
        refl,
        ap event (sym (ap (λ z. z.from) same) ∙ from),
        subst (λ z. LeadsAlong (safety.arcs_of ds) (event z) ns (event b)) (ap (λ z. z.to) same) (up arc.to b ns rest),
      )

  -- a walk among the nodes, for one among the events
  record Down (a : ℕ) (ns : List ℕ) (y : Event) : Type 0 where
    end : ℕ
    end_in : end < g.net.nodes
    is_end : y ≡ event end
    leads : LeadsAlong (arcs_of g.net.edges) a ns end

  down : (a : ℕ) (ns : List ℕ) (y : Event) → a < g.net.nodes → LeadsAlong (safety.arcs_of ds) (event a) ns y → Down a ns y
  down a [] y h w = record { end = a; end_in = h; is_end = sym w; leads = refl }
  down a (n ∷ ns) y h (arc, isa, _, from, rest) =
      let (d, isd, same) = closing.arc_at ds n arc isa in
      let (e, p, ise, whole) = edge_of n d isd in
      let ends = is.is_net.ends n e ise in
      let to : arc.to ≡ event e.to = ap (λ z. z.to) same ∙ ap (λ z. z.target) whole in
      let begin : event e.from ≡ event a = sym (ap (λ z. z.source) whole) ∙ sym (ap (λ z. z.from) same) ∙ from in
      let k = down e.to ns y ends.to_in (subst (λ z. LeadsAlong (safety.arcs_of ds) z ns y) to rest) in
      record {
        end = k.end;
        end_in = k.end_in;
        is_end = k.is_end;
        leads = (arc_of e, item_of_map arc_of g.net.edges n e ise, refl, one_node e.from a ends.from_in h begin, k.leads);
      }

  marked_of : (n : ℕ) (e : GraphEdge) (d : Dependency) → item_at g.net.edges n ≡ Some e → item_at ds n ≡ Some d → d.conflict ≡ e.marked → is_conflict ds n ≡ is_marked g.net.edges n
  marked_of n e d ise isd q =
      closing.conflict_at ds n d isd ∙ q ∙ sym (ap (λ o. elim o [ Some f ↦ f.marked | None ↦ false ]) ise)

  closes_up : (n : ℕ) (back : List ℕ) → Closes (arcs_of g.net.edges) (is_marked g.net.edges) n back → Closes (safety.arcs_of ds) (is_conflict ds) n back
  closes_up n back c =
      let (e, ise, same) = item_map arc_of g.net.edges n c.arc c.is in
      let (p, isd) = dependency_of n e ise in
      record {
        arc = closing.arc_of (dependency g.events e p);
        is = closing.arc_here ds n _ isd;
        is_marked = marked_of n e (dependency g.events e p) ise isd refl ∙ c.is_marked;
        leads = up e.to e.from back (subst (λ a. LeadsAlong (arcs_of g.net.edges) a.to back a.from) same c.leads);
      }

  closes_down : (n : ℕ) (back : List ℕ) → Closes (safety.arcs_of ds) (is_conflict ds) n back → Closes (arcs_of g.net.edges) (is_marked g.net.edges) n back
  closes_down n back c =
      let (d, isd, same) = closing.arc_at ds n c.arc c.is in
      let (e, p, ise, whole) = edge_of n d isd in
      let ends = is.is_net.ends n e ise in
      let to : c.arc.to ≡ event e.to = ap (λ z. z.to) same ∙ ap (λ z. z.target) whole in
      let from : c.arc.from ≡ event e.from = ap (λ z. z.from) same ∙ ap (λ z. z.source) whole in
      let k = down e.to back c.arc.from ends.to_in (subst (λ z. LeadsAlong (safety.arcs_of ds) z back c.arc.from) to c.leads) in
      let q : k.end ≡ e.from = one_node k.end e.from k.end_in ends.from_in (sym k.is_end ∙ from) in
      record {
        arc = arc_of e;
        is = item_of_map arc_of g.net.edges n e ise;
        is_marked = sym (marked_of n e d ise isd (ap (λ z. z.conflict) whole)) ∙ c.is_marked;
        leads = subst (λ b. LeadsAlong (arcs_of g.net.edges) e.to back b) q k.leads;
      }

  least_up : (edges : List ℕ) → IsLeastCycle (arcs_of g.net.edges) (is_marked g.net.edges) edges → IsLeastCycle (safety.arcs_of ds) (is_conflict ds) edges
  least_up edges c =
      record {
        first = c.first;
        back = c.back;
        is = c.is;
        closes = closes_up c.first c.back c.closes;
        earliest = λ n other k. c.earliest n other (closes_down n other k);
        shortest = λ other k. c.shortest other (closes_down c.first other k);
      }

  the_least : (edges : List ℕ) → IsLeastCycle (safety.arcs_of ds) (is_conflict ds) edges → (o : Option (List ℕ)) → MatchOption o (IsSafe rules) (IsLeastCycle (safety.arcs_of ds) (is_conflict ds)) → o ≡ Some edges
  the_least edges c None safe = absurd (closing.no_cycle_of rules safe c.first c.back c.closes)
  the_least edges c (Some other) least = ap Some (one_least_cycle (safety.arcs_of ds) (is_conflict ds) other edges least c)

  elem_number : {A : Type 0} (xs : List A) (x : A) → Elem xs x → (n : ℕ) × (item_at xs n ≡ Some x)
  elem_number [] x m = elim m [ ]
  elem_number (y ∷ ys) x (inl e) = (0, ap Some (sym e))
  elem_number (y ∷ ys) x (inr m) = let (n, k) = elem_number ys x m in (suc n, k)

  level_rises : (levels : List ℕ) → AreLevels (arcs_of g.net.edges) (is_marked g.net.edges) (slice_index levels) → (d : Dependency) → Elem ds d → rises (level_in g.events levels) d ≡ true
  level_rises levels climbs d m =
      let (n, isd) = elem_number ds d m in
      let (e, p, ise, whole) = edge_of n d isd in
      let ends = is.is_net.ends n e ise in
      let k = climbs n (arc_of e) (item_of_map arc_of g.net.edges n e ise) in
      let from : level_in g.events levels d.source ≡ slice_index levels e.from = ap (λ z. level_in g.events levels z.source) whole ∙ ap (slice_index levels) (place_is e.from ends.from_in) in
      let to : level_in g.events levels d.target ≡ slice_index levels e.to = ap (λ z. level_in g.events levels z.target) whole ∙ ap (slice_index levels) (place_is e.to ends.to_in) in
      go d.conflict refl _ _ from to k.stays (λ c. k.rises (sym (marked_of n e d ise isd (ap (λ z. z.conflict) whole)) ∙ closing.conflict_at ds n d isd ∙ c))
    where
      go : (b : Bool) → d.conflict ≡ b → (s t : ℕ) {u v : ℕ} → s ≡ u → t ≡ v → u ≤ v → (d.conflict ≡ true → u < v) → cond b (nat_lt s t) (nat_le s t) ≡ true
      go true q s t p r le lt = let h = lt q in lt-ltb s t (omega arith)
      go false q s t p r le lt = le-leb s t (omega arith)

pub cycles_carry_over : CyclesCarryOver
cycles_carry_over rules g is edges c = the_least rules g is edges (least_up rules g is edges c) (the_cycle rules) (closing.cycle_is rules)

pub levels_carry_over : LevelsCarryOver
levels_carry_over rules g is levels climbs = all_intro (rises (level_in g.events levels)) (dependencies rules) (λ d m. level_rises rules g is levels climbs d m)
