use Rattle.std.proofs.Common.{arith, length, ◌≡◌, ◌<◌, None, ap, sym, ◌∙◌, subst}
use Rattle.turn_lock.specs.Holders.{Holder, site_of}
use Rattle.turn_lock.specs.Turns.{Each}
use Rattle.turn_lock.proofs.PassLists.{new_all, length_new, each_unreverse}
use Rattle.desk_checks.specs.PostLists.{passes_of}
use Rattle.desk_checks.proofs.PostFacts.{each_at, all_back, none_missing}
use Rattle.desk_checks.proofs.shifts.many.Goals as goal

pub close-requires-clause-idle : goal.close-requires-clause-idle
close-requires-clause-idle g c = (new_all c.in_ok-desk.desk _ _ _ c.in_ok-desk.ensures.passes).0

pub close-requires-clause-all : goal.close-requires-clause-all
close-requires-clause-all g c = λ n low. (new_all c.in_ok-desk.desk _ _ _ c.in_ok-desk.ensures.passes).1 n (subst (λ k. n < k) c.in_ok-desk.ensures.desk.1 low)

pub man-requires-clause-room : goal.man-requires-clause-room
man-requires-clause-room g c = let a = ap (λ xs. length xs) c.in_ok-desk.ensures.passes ∙ length_new c.in_ok-desk.desk _ 0 c.args.workers in
    let d = c.in-Ok.ensures.capacity in omega (arith, a, d)

pub run-requires-clause-free : goal.run-requires-clause-free
run-requires-clause-free g c κs within =
    let fresh = new_all c.in_ok-desk.desk _ _ _ c.in_ok-desk.ensures.passes in
    let P = λ (p : Holder g.row.M.Denot). (p.site ≡ site_of c.in_ok-desk.desk) × (p.turn ≡ None) in
    each_at (site_of c.in_ok-desk.desk) c.man.new.posts.items (each_unreverse P (passes_of c.man.new.posts.items) (subst (Each P) (sym c.man.ensures.posts) fresh.0))

pub close-requires-2-clause-idle : goal.close-requires-2-clause-idle
close-requires-2-clause-idle g c =
    let fresh = new_all c.in_ok-desk.desk _ _ _ c.in_ok-desk.ensures.passes in
    let alike = all_back (site_of c.in_ok-desk.desk) c.man.new.posts.items c.run.new.posts.items c.run.ensures.length (λ i d low. (c.run.ensures.each i d low).0) in
    (none_missing c.in_ok-desk.desk c.args.workers c.in_ok-desk.passes.items c.relieve.new.passes.items c.man.new.posts.items c.run.new.posts.items c.man.ensures.posts c.relieve.ensures fresh.1 alike).0

pub close-requires-2-clause-all : goal.close-requires-2-clause-all
close-requires-2-clause-all g c =
    let fresh = new_all c.in_ok-desk.desk _ _ _ c.in_ok-desk.ensures.passes in
    let alike = all_back (site_of c.in_ok-desk.desk) c.man.new.posts.items c.run.new.posts.items c.run.ensures.length (λ i d low. (c.run.ensures.each i d low).0) in
    λ n low. (none_missing c.in_ok-desk.desk c.args.workers c.in_ok-desk.passes.items c.relieve.new.passes.items c.man.new.posts.items c.run.new.posts.items c.man.ensures.posts c.relieve.ensures fresh.1 alike).1 n (subst (λ k. n < k) c.in_ok-desk.ensures.desk.1 low)
