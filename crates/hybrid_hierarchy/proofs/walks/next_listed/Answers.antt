use Rattle.std.proofs.Common.{ℕ, ◌+◌, List, take, sym, subst}
use Rattle.std.proofs.lemmas.List.{take_all}
use Rattle.gt_base.specs.declared.events.RoleId.{RoleId}
use Rattle.hybrid_hierarchy.proofs.Listing.{Nearest, nearest_start, nearest_more, listed_next, listed_no_more}
use Rattle.hybrid_hierarchy.proofs.walks.next_listed.Goals as goal

pub loop-r-init : goal.loop-r-init
loop-r-init c = nearest_start c.args.low c.requires

pub loop-r-preserved : goal.loop-r-preserved
loop-r-preserved c =
    let next : ℕ = c.loop-r.next in
    subst (λ (n : ℕ). Nearest (take (c.loop-r.r-index + 1) c.args.roles.now) c.args.low n)
    (sym c.nearer-next.ensures) (nearest_more c.args.roles.now c.args.low next c.loop-r.r-index (record { 0 = 0 }) c.loop-r-test.true c.loop-r.invariant)

pub returns-then-next-ge-MAX_ROLES : goal.returns-then-next-ge-MAX_ROLES
returns-then-next-ge-MAX_ROLES c =
    let whole = subst (λ (rs : List RoleId). Nearest rs c.args.low c.loop-r.next) (take_all c.loop-r.r-index c.args.roles.now c.loop-r-test.false) c.loop-r.invariant in
    listed_no_more c.args.roles.now c.args.low c.loop-r.next whole c.if-next-ge-MAX_ROLES.true

pub returns : goal.returns
returns c =
    let whole = subst (λ (rs : List RoleId). Nearest rs c.args.low c.loop-r.next) (take_all c.loop-r.r-index c.args.roles.now c.loop-r-test.false) c.loop-r.invariant in
    (c.loop-r.invariant.above, c.if-next-ge-MAX_ROLES.false, listed_next c.args.roles.now c.args.low c.loop-r.next whole c.if-next-ge-MAX_ROLES.false)
