use Rattle.std.proofs.Common.{◌∙◌}
use Rattle.policy_commands.specs.Ends.{seen_end}
use Rattle.gtrbac_tool.specs.Counted.{seen_recipe}
use Rattle.gtrbac_tool.proofs.Tallying.{sums, sums_otherwise, other_status, zero_status}
use Rattle.gtrbac_tool.proofs.summing.sum_up.Goals as goal

pub returns-then-end-ne0 : goal.returns-then-end-ne0
returns-then-end-ne0 c =
    λ np.
    sums_otherwise np (seen_recipe c.args.recipe) c.args.book.now.birth c.args.book.now.entries (seen_end c.args.end) (other_status c.args.end.status c.if-end-ne0.true)

pub returns : goal.returns
returns c =
    λ np.
    sums np (seen_recipe c.args.recipe) c.args.book.now.birth c.args.book.now.entries (seen_end c.args.end) c.from.result.items
    (zero_status c.args.end.status c.if-end-ne0.false) (c.from.ensures ∙ c.in_ok-tally.ensures)
