use Rattle.std.proofs.Common.{◌≡◌, List, length, ap, ◌∙◌, arith}
use Rattle.gt_base.specs.declared.policies.HierEdge.{HierEdge}
use Rattle.policy_words.specs.Naming.{NamedPolicy}
use Rattle.gt_base.specs.declared.requests.Request.TheVariants.{Activate}
use Rattle.core_machine.proofs.Stepping.{may_after, no_step, step_after}
use Rattle.core_machine.proofs.sessions.activate.Goals as goal

pub returns-in_err-make_room : goal.returns-in_err-make_room
returns-in_err-make_room c = no_step c.args.s.now c.make_room.new.s c.args.who c.args.actor (Activate c.args.session c.args.role) c.from_residual-in_err-make_room.result c.from_residual-in_err-make_room.ensures.0 c.in_err-make_room.ensures.same c.requires.ready.kept

pub begin_role-requires-clause-asks : goal.begin_role-requires-clause-asks
begin_role-requires-clause-asks c = may_after c.args.s.now c.make_room.new.s c.args.actor (Activate c.args.session c.args.role) c.in_ok-make_room.ensures.same c.requires

pub returns : goal.returns
returns c = step_after c.args.s.now c.make_room.new.s c.begin_role.new.s c.args.who c.args.actor (Activate c.args.session c.args.role) c.begin_role.result c.in_ok-make_room.ensures.same c.begin_role.ensures

pub begin_role-requires-clause-edges : goal.begin_role-requires-clause-edges
begin_role-requires-clause-edges c =
    let s = c.args.s.now in
    let many : length c.make_room.new.s.ground.policy.edges ≡ length s.ground.policy.edges = ap (λ (g : NamedPolicy). length g.policy.edges) c.in_ok-make_room.ensures.same.ground in
    let told : c.len.result ≡ length s.ground.policy.edges = c.len.ensures ∙ ap (λ (es : List HierEdge). length es) (c.edges.ensures ∙ ap (λ (g : NamedPolicy). g.policy.edges) c.policy.ensures) in
    (c.in_ok-reserve.ensures.items ∙ c.new-edges.ensures, omega (arith, many, told, c.in_ok-reserve.ensures.room))
