use Rattle.std.proofs.Common.{◌≡◌, sym, ◌∙◌, ap}
use Rattle.gt_base.specs.Sets.{has}
use Rattle.gt_base.specs.declared.requests.Decision.TheVariants.{Shut}
use Rattle.decision_reason.specs.Shut.{first_shut, denied_by}
use Rattle.decision_reason.proofs.Opening.{shut_first, open_walk, permits}
use Rattle.decision_reason.proofs.deciding.by_walk.Goals as goal

pub past_shut-requires : goal.past_shut-requires
past_shut-requires c =
    let s = has c.args.status.now.set in
    let told : c.shut_at.result ≡ first_shut s c.args.hierarchy.now c.args.walk.edges = c.shut_at.ensures ∙ ap (λ es. first_shut s es c.args.walk.edges) c.edges.ensures.value in
    ap (denied_by s c.args.hierarchy.now) c.requires ∙ ap (λ n. Shut n) (shut_first s c.args.hierarchy.now c.args.walk.edges c.in-Some.edge (sym told ∙ c.in-Some.is))

pub returns-in-None : goal.returns-in-None
returns-in-None c =
    let s = has c.args.status.now.set in
    let told : c.shut_at.result ≡ first_shut s c.args.hierarchy.now c.args.walk.edges = c.shut_at.ensures ∙ ap (λ es. first_shut s es c.args.walk.edges) c.edges.ensures.value in
    permits c.args.hierarchy.now s c.args.active.now c.args.perm c.args.walk (open_walk c.args.hierarchy.now s c.args.active.now c.args.perm c.args.walk c.requires (sym told ∙ c.in-None.is))
