use Rattle.std.proofs.Common.{◌≡◌, ◌<◌, ◌≤◌, ◌+◌, ℕ, List, Option, Some, None, MatchOption, length, refl, le_refl, sym, subst, arith, slice_index, slice_index_or}
use Rattle.least_walk.specs.Walks.{IsNearest, AllFar}
use Rattle.least_walk.proofs.Items.{item_read}
use Rattle.least_walk.proofs.Stepping.{BestOf, best_stays, best_found, best_none, best_some}
use Rattle.least_walk.proofs.walking.nearest.Goals as goal
use Rattle.least_walk.proofs.walking.nearest.Goals.{then-dist-s, else-dist-s}
use Rattle.least_walk.specs.declared.distances.TheConstants.{FAR}

whole : (starts ds : List ℕ) (least i : ℕ) (best : Option ℕ) → length starts ≤ i → BestOf starts ds least i best → MatchOption best (AllFar starts ds) (IsNearest starts ds)
whole starts ds least i None le w = best_none starts ds least i le w
whole starts ds least i (Some s) le w = best_some starts ds least i s le w

found : (starts ds : List ℕ) (i least : ℕ) (best : Option ℕ) → i < length starts → slice_index ds (slice_index_or starts i 0) < least → least ≤ FAR → BestOf starts ds least i best
    → (new : ℕ) (now : Option ℕ) → new ≡ slice_index ds (slice_index_or starts i 0) → now ≡ Some (slice_index_or starts i 0) → record { best : BestOf starts ds new (i + 1) now; bound : new ≤ FAR }
found starts ds i least best h lt le w new now p q =
    record {
      best = subst (λ n. BestOf starts ds n (i + 1) now) (sym p) (subst (λ o. BestOf starts ds (slice_index ds (slice_index_or starts i 0)) (i + 1) o) (sym q) (best_found starts ds least i _ best (item_read starts i 0 h) lt le w));
      bound = omega arith;
    }

stays : (starts ds : List ℕ) (i least : ℕ) (best : Option ℕ) → i < length starts → least ≤ slice_index ds (slice_index_or starts i 0) → least ≤ FAR → BestOf starts ds least i best
    → (new : ℕ) (now : Option ℕ) → new ≡ least → now ≡ best → record { best : BestOf starts ds new (i + 1) now; bound : new ≤ FAR }
stays starts ds i least best h ge le w new now p q =
    record {
      best = subst (λ n. BestOf starts ds n (i + 1) now) (sym p) (subst (λ o. BestOf starts ds least (i + 1) o) (sym q) (best_stays starts ds least i _ best (item_read starts i 0 h) ge w));
      bound = omega arith;
    }

none_before : (starts ds : List ℕ) → BestOf starts ds FAR 0 None
none_before starts ds = (refl, λ j t h is. absurd (omega (arith, h)))

pub loop-s-init : goal.loop-s-init
loop-s-init c = record { best = none_before c.args.from.now c.args.dist.now; bound = le_refl FAR }

pub bounds-dist-s : goal.bounds-dist-s
bounds-dist-s c = c.requires c.loop-s.s-index _ (item_read c.args.from.now c.loop-s.s-index 0 c.loop-s-test.true)

pub bounds-dist-s-then-dist-s : goal.bounds-dist-s-then-dist-s
bounds-dist-s-then-dist-s c = c.requires c.loop-s.s-index _ (item_read c.args.from.now c.loop-s.s-index 0 c.loop-s-test.true)

pub loop-s-preserved : goal.loop-s-preserved
loop-s-preserved c =
    let old = c.loop-s.invariant in
    elim c.if-dist-s.branch [
      | then-dist-s w ↦ found c.args.from.now c.args.dist.now c.loop-s.s-index c.loop-s.least c.loop-s.best c.loop-s-test.true w.if-dist-s.true old.bound old.best _ _ w.least-is w.best-is
      | else-dist-s w ↦ stays c.args.from.now c.args.dist.now c.loop-s.s-index c.loop-s.least c.loop-s.best c.loop-s-test.true w.if-dist-s.false old.bound old.best _ _ w.least-is w.best-is
    ]

pub returns : goal.returns
returns c = whole _ _ _ _ _ c.loop-s-test.false c.loop-s.invariant.best
