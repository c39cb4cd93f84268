use Rattle.std.proofs.Common.{length, ◌∙◌, sym, subst}
use Rattle.hybrid_hierarchy.specs.Nets.{AreWithin}
use Rattle.policy_book.proofs.Fewness.{picked_within}
use Rattle.policy_book.proofs.cycles.cycle_fault.Goals as goal

pub names_round-requires : goal.names_round-requires
names_round-requires c =
    let roles = length c.args.names.now.roles in
    subst (AreWithin roles) (sym (c.deref.ensures.value ∙ c.in_ok-edges.ensures)) (picked_within roles c.args.edges.now c.args.numbers.now c.requires)
