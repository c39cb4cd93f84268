use Rattle.std.proofs.Common.{◌<◌, ℕ, List, Bool, length, sym, ◌∙◌, ap, subst, slice_index}
use Rattle.least_walk.specs.Distances.{AreDistances}
use Rattle.least_walk.specs.Walks.{IsNearest, AllFar, Descends}
use Rattle.least_walk.proofs.Descending.{least_of, no_walk}
use Rattle.least_walk.proofs.walking.least_open_walk.Goals as goal
use Rattle.least_walk.specs.declared.distances.TheConstants.{FAR}

pub nearest-requires : goal.nearest-requires
nearest-requires g c = λ i s is. subst (λ k. s < k) (sym (ap (λ (ds : List ℕ). length ds) c.deref.ensures.value ∙ c.in_ok-dist.ensures.size)) (c.requires.starts i s is)

pub follow-requires-clause-dist : goal.follow-requires-clause-dist
follow-requires-clause-dist g c = subst (λ (ds : List ℕ). AreDistances (g.P.Passable.passes c.args.by.now) c.args.edges.now c.args.goal.now ds) (sym c.deref-2.ensures.value) c.in_ok-dist.ensures

pub follow-requires-clause-inside : goal.follow-requires-clause-inside
follow-requires-clause-inside g c =
    subst (λ k. c.in-Some.start < k) (sym (ap (λ (ds : List ℕ). length ds) c.deref-2.ensures.value ∙ c.in_ok-dist.ensures.size)) (c.requires.starts c.in-Some.ensures.place c.in-Some.start c.in-Some.ensures.is)

pub follow-requires-clause-reached : goal.follow-requires-clause-reached
follow-requires-clause-reached g c = subst (λ (ds : List ℕ). slice_index ds c.in-Some.start < FAR) (c.deref.ensures.value ∙ sym c.deref-2.ensures.value) c.in-Some.ensures.reached

pub returns-in_default-clause-none : goal.returns-in_default-clause-none
returns-in_default-clause-none g c =
    no_walk (g.P.Passable.passes c.args.by.now) c.args.edges.now c.args.goal.now c.in_ok-dist.dist.items c.requires.ends c.in_ok-dist.ensures c.args.from.now (subst (AllFar c.args.from.now) c.deref.ensures.value c.in_default.ensures)

pub returns-clause-some : goal.returns-clause-some
returns-clause-some g c =
    let ok : ℕ → Bool = g.P.Passable.passes c.args.by.now in
    let nearest : IsNearest c.args.from.now c.in_ok-dist.dist.items c.in-Some.start = subst (λ ds. IsNearest c.args.from.now ds c.in-Some.start) c.deref.ensures.value c.in-Some.ensures in
    least_of ok c.args.edges.now c.args.goal.now c.in_ok-dist.dist.items c.requires.ends c.in_ok-dist.ensures c.args.from.now c.in-Some.start c.in_ok-numbers.numbers (c.requires.starts nearest.place c.in-Some.start nearest.is) nearest
    (subst (λ ds. Descends ok c.args.edges.now ds c.in-Some.start c.in_ok-numbers.numbers) c.deref-2.ensures.value c.in_ok-numbers.ensures)
