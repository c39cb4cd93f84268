use Rattle.std.proofs.Common.{◌≡◌, ℕ, ◌+◌, ◌<◌, [], ◌∷◌, ◌++◌, length, slice_index_or, slice_set, true, refl, sym, ◌∙◌, subst}
use Rattle.std.proofs.lemmas.List.{length-set}
use Rattle.gtrbac_model.specs.Graph.{item_at}
use Rattle.least_walk.proofs.Items.{item_read}
use Rattle.hybrid_hierarchy.specs.Searches.{Searched}
use Rattle.hybrid_hierarchy.proofs.Seeking.{search_nothing, search_start}
use Rattle.hybrid_hierarchy.proofs.searching.begun.Goals as goal

pub loop-place-init : goal.loop-place-init
loop-place-init g c =
    let ok = g.Q.WalkQuestion.passes c.args.asked.now in
    let goals = g.Q.WalkQuestion.goals c.args.asked.now in
    record {
      size = refl;
      searched = ([], subst (λ q. Searched ok goals c.args.edges.now c.args.from.now 0 c.args.seen.now q [] 0 0) (sym c.in_ok-queue.ensures.items) (search_nothing ok goals c.args.edges.now c.args.from.now c.args.seen.now c.requires.unmarked));
    }

pub bounds-seen-role : goal.bounds-seen-role
bounds-seen-role g c =
    subst (λ k. slice_index_or c.args.from.now c.loop-place.place 0 < k) (sym c.loop-place.invariant.size)
    (c.requires.starts c.loop-place.place (slice_index_or c.args.from.now c.loop-place.place 0) (item_read c.args.from.now c.loop-place.place 0 c.loop-place-test.true))

pub loop-place-preserved : goal.loop-place-preserved
loop-place-preserved g c =
    let ok = g.Q.WalkQuestion.passes c.args.asked.now in
    let goals = g.Q.WalkQuestion.goals c.args.asked.now in
    let v : ℕ = slice_index_or c.args.from.now c.loop-place.place 0 in
    let is : item_at c.args.from.now c.loop-place.place ≡ _ = item_read c.args.from.now c.loop-place.place 0 c.loop-place-test.true in
    let low : v < length c.loop-place.seen = subst (λ k. v < k) (sym c.loop-place.invariant.size) (c.requires.starts c.loop-place.place v is) in
    let (ws, w) = c.loop-place.invariant.searched in
    record {
      size = length-set c.loop-place.seen v true ∙ c.loop-place.invariant.size;
      searched = (
        ws ++ record { node = v; start = v; place = c.loop-place.place; arcs = [] } ∷ [],
        subst (λ q. Searched ok goals c.args.edges.now c.args.from.now (c.loop-place.place + 1) (slice_set c.loop-place.seen v true) q (ws ++ record { node = v; start = v; place = c.loop-place.place; arcs = [] } ∷ []) 0 0)
            (sym c.in_ok-push.ensures.items) (search_start ok goals c.args.edges.now c.args.from.now c.loop-place.place c.loop-place.seen c.loop-place.queue.items ws v is low (c.requires.no_goals c.loop-place.place v is) w),
      );
    }
