use Rattle.std.proofs.Common.{◌≡◌, ℕ, ◌+◌, ◌<◌, ◌∷◌, [], List, Bool, length, slice_index, refl, sym, ◌∙◌, subst}
use Rattle.std.proofs.lemmas.Bool.{eq-eqb}
use Rattle.gtrbac_model.specs.Graph.{Path, IsLeastWalk}
use Rattle.least_walk.specs.Net.{Net, IsNet, arcs_of, is_marked}
use Rattle.least_walk.specs.Walks.{is_goal, IsReach, HasNoWalk}
use Rattle.least_walk.proofs.Items.{item_get}
use Rattle.gtrbac_model.specs.Cycles.{IsLeastCycle}
use Rattle.safety_cycle.specs.Ranks.{AreRanks, lifted}
use Rattle.safety_cycle.proofs.Parting.{IsOnly, parted, told, end_is_out, IsLevelMark}
use Rattle.safety_cycle.proofs.judging.look.Goals as goal

-- the cycle, from what the calls told
cycle : (g : Net) (ranks : List ℕ) (n : ℕ) (mark : IsLevelMark g.edges ranks n) (goal used : List Bool) (p : Path ℕ) (edges : List ℕ) → IsNet g → AreRanks g.nodes g.edges ranks n → length goal ≡ g.nodes → IsOnly g.nodes goal mark.edge.from
    → used ≡ goal → IsLeastWalk (arcs_of g.edges) (is_goal used) (mark.edge.to ∷ []) p → edges ≡ n ∷ p.arcs → IsLeastCycle (arcs_of g.edges) (is_marked g.edges) edges
cycle g ranks n mark goal used p edges net old size only same walk is =
    subst (λ es. IsLeastCycle (arcs_of g.edges) (is_marked g.edges) es) (sym is)
    (told g.nodes g.edges ranks n goal mark p net.ends old size only (subst (λ xs. IsLeastWalk (arcs_of g.edges) (is_goal xs) (mark.edge.to ∷ []) p) same walk))

-- the new ranks, from what the calls told
lift_parts : (g : Net) (ranks after : List ℕ) (n : ℕ) (mark : IsLevelMark g.edges ranks n) (goal used again reach taken : List Bool) (rank : ℕ) → IsNet g → AreRanks g.nodes g.edges ranks n → length goal ≡ g.nodes → IsOnly g.nodes goal mark.edge.from
    → rank ≡ slice_index ranks mark.edge.from → length after ≡ length ranks → used ≡ goal → HasNoWalk (arcs_of g.edges) (is_goal used) (mark.edge.to ∷ []) → again ≡ goal → length reach ≡ g.nodes → IsReach g.edges (is_goal again) reach
    → taken ≡ reach → ((v : ℕ) → v < length ranks → slice_index after v ≡ lifted rank (slice_index ranks v) (is_goal taken v)) → AreRanks g.nodes g.edges after (n + 1)
lift_parts g ranks after n mark goal used again reach taken rank net old size only rank_is len one none two reach_size reached three lift =
    let reached' : IsReach g.edges (is_goal goal) reach = subst (λ xs. IsReach g.edges (is_goal xs) reach) two reached in
    let from = net.ends n mark.edge mark.is in
    parted g.nodes g.edges ranks after reach (is_goal goal) n rank net.ends old mark rank_is len reached'
    (reached'.goals mark.edge.from (subst (λ k. mark.edge.from < k) (sym reach_size) from.from_in) (only mark.edge.from from.from_in ∙ eq-eqb mark.edge.from mark.edge.from refl))
    (end_is_out g.edges (is_goal goal) reach mark.edge.to reached' (subst (λ xs. HasNoWalk (arcs_of g.edges) (is_goal xs) (mark.edge.to ∷ [])) one none))
    (λ v h. subst (λ xs. slice_index after v ≡ lifted rank (slice_index ranks v) (is_goal xs v)) three (lift v h))

pub returns-in-Some-clause-cycle : goal.returns-in-Some-clause-cycle
returns-in-Some-clause-cycle c =
    let g = c.args.g.now in
    let mark : IsLevelMark g.edges c.args.ranks.now c.args.n = record { edge = c.edge-e.result; is = item_get g.edges c.args.n ∙ c.edge-e.ensures; marked = c.if-not-e.false; level = c.if-rank-ranks.false } in
    cycle g c.args.ranks.now c.args.n mark c.in_ok-goal.goal.items _ (record { start = c.in-Some.path.start; arcs = c.in-Some.path.edges }) c.in_ok-closed.field-0 c.keeps.ensures c.requires.ranks
    (c.in_ok-goal.ensures.size ∙ c.nodes.ensures) (λ v h. c.in_ok-goal.ensures.one v (subst (λ k. v < k) (sym c.nodes.ensures) h)) c.deref.ensures.value
    (rw c.in-Some.is at c.in_ok-path.ensures.some)
    c.in_ok-closed.ensures

pub returns-clause-ok : goal.returns-clause-ok
returns-clause-ok c =
    let g = c.args.g.now in
    let mark : IsLevelMark g.edges c.args.ranks.now c.args.n = record { edge = c.edge-e.result; is = item_get g.edges c.args.n ∙ c.edge-e.ensures; marked = c.if-not-e.false; level = c.if-rank-ranks.false } in
    lift_parts g c.args.ranks.now c.lift.new.ranks c.args.n mark c.in_ok-goal.goal.items _ _ c.in_ok-reach.reach.items _ _ c.keeps.ensures c.requires.ranks
    (c.in_ok-goal.ensures.size ∙ c.nodes.ensures) (λ v h. c.in_ok-goal.ensures.one v (subst (λ k. v < k) (sym c.nodes.ensures) h))
    refl c.lift.auto.ranks c.deref.ensures.value
    (rw c.in_default.is at c.in_ok-path.ensures.none)
    c.deref-2.ensures.value c.in_ok-reach.ensures.size c.in_ok-reach.ensures.reach c.deref-3.ensures.value c.lift.ensures
