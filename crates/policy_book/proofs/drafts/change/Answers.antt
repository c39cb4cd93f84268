use Rattle.std.proofs.Common.{ap, ◌∙◌, arith}
use Rattle.std.specs.Prelude.{slice_set}
use Rattle.policy_words.specs.CapKinds.{with_cap}
use Rattle.policy_book.proofs.Drafting.{changed_in, changed_out}
use Rattle.policy_book.proofs.drafts.change.Goals as goal

pub returns-then-role-len : goal.returns-then-role-len
returns-then-role-len c =
    ap (λ x. slice_set c.args.caps.now.items c.args.role x) (c.with.ensures ∙ ap (with_cap c.args.kind c.args.n) c.index.ensures)
    ∙ changed_in (with_cap c.args.kind c.args.n) c.args.caps.now.items c.args.role _ (omega (arith, c.if-role-len.true, c.len.ensures, c.args.caps.now.ok.0))

pub returns-else-role-len : goal.returns-else-role-len
returns-else-role-len c =
    changed_out (with_cap c.args.kind c.args.n) c.args.caps.now.items c.args.role (omega (arith, c.if-role-len.false, c.len.ensures, c.args.caps.now.ok.0))
