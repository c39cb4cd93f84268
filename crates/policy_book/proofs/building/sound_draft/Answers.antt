use Rattle.std.proofs.Common.{length, refl, ap, sym, subst, ◌∙◌, arith}
use Rattle.hybrid_hierarchy.specs.Nets.{AreWithin}
use Rattle.policy_words.specs.Making.{fresh}
use Rattle.policy_book.specs.Seen.{seen_names}
use Rattle.policy_book.proofs.Fewness.{edges_within, edges_few}
use Rattle.policy_book.proofs.building.sound_draft.Goals as goal

pub check_edges-requires-clause-short : goal.check_edges-requires-clause-short
check_edges-requires-clause-short c =
    let ns = seen_names c.args.names.now in
    let edges = c.deref-2.ensures.value ∙ ap (λ d. d.edges) c.in-Ok.ensures in
    let few = edges_few ns (fresh ns) c.args.parts.items in
    omega (arith, ap length edges, few, c.requires.kept.few)

pub check_edges-requires-clause-within : goal.check_edges-requires-clause-within
check_edges-requires-clause-within c =
    let ns = seen_names c.args.names.now in
    let edges = c.deref-2.ensures.value ∙ ap (λ d. d.edges) c.in-Ok.ensures in
    subst (AreWithin (length ns.roles)) (sym edges) (edges_within ns (fresh ns) c.args.parts.items refl)
