use Rattle.std.proofs.Common.{◌≡◌, Bool, true, false, ◌&&◌, nat_lt, sym, ap, ◌∙◌, refl}
use Rattle.gt_base.specs.declared.events.RoleId.{RoleId}
use Rattle.gt_base.specs.declared.events.Fluent.TheVariants.{Assigned}
use Rattle.gt_base.specs.Sets.{has}
use Rattle.gtrbac_model.specs.Hierarchy.{usable}
use Rattle.hybrid_hierarchy.specs.Lasting.{leads_to, still_lets}
use Rattle.hybrid_hierarchy.proofs.Standing.{some_walk}
use Rattle.hybrid_hierarchy.proofs.hierarchies.Hierarchy.still_lets.Goals as goal

both : (a b : Bool) → (a && b) ≡ true → (a ≡ true) × (b ≡ true)
both true b e = (refl, e)
both false b e = cc

pub returns-clause-some : goal.returns-clause-some
returns-clause-some c = λ on.
    let s = has c.args.status.now.set in
    let from : RoleId → Bool = λ r. s (Assigned c.args.user r) in
    let start : RoleId = c.args.walk.now.start in
    let told : c.still_lets.result ≡ still_lets c.args.self.now s c.args.user c.args.role c.args.walk.now =
    c.still_lets.ensures ∙ ap (λ es. still_lets es s c.args.user c.args.role c.args.walk.now) (c.deref.ensures.value ∙ c.self.view_is) in
    let parts = both (nat_lt start.0 1_000 && from start) (leads_to (usable s false) c.args.self.now start c.args.walk.now.edges c.args.role) (sym told ∙ on) in
    some_walk c.args.self.now (usable s false) from start c.args.walk.now.edges c.args.role parts.0 parts.1
