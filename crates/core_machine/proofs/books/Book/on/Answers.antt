use Rattle.std.proofs.Common.{sym, subst}
use Rattle.gtrbac_model.specs.WholePolicy.{IsPolicy}
use Rattle.session_table.specs.Tables.{table_of}
use Rattle.policy_words.specs.Naming.{NamedPolicy}
use Rattle.core_machine.specs.Coherent.{Coherent}
use Rattle.core_machine.proofs.Births.{born}
use Rattle.core_machine.proofs.books.Book.on.Goals as goal

pub invariant_of-result : goal.invariant_of-result
invariant_of-result c =
    subst (λ (g : NamedPolicy). Coherent g.policy c.args.birth c.new-in-Ok-new-2.result.items c.in-Ok.line.line (table_of c.new-in-Ok-new.result) c.new-in-Ok-new.result.charged_to) (sym c.in-Ok-new.ensures.ok)
    (born c.args.ground.policy (subst (λ (g : NamedPolicy). IsPolicy g.policy) c.policy.ensures c.keeps.ensures.policy) c.requires c.args.birth c.in-Ok.line.line (table_of c.new-in-Ok-new.result) c.new-in-Ok-new-2.result.items c.new-in-Ok-new.result.charged_to
    c.in-Ok.ensures.stands c.in-Ok.ensures.born.0 c.in-Ok.ensures.born.1 c.in-Ok.ensures.status c.in-Ok.ensures.ages c.in-Ok.ensures.empty.0 c.in-Ok.ensures.empty.1 c.in-Ok.ensures.empty.2 c.new-in-Ok-new.ensures.table c.new-in-Ok-new-2.ensures c.new-in-Ok-new.ensures.charged_to)
