use Rattle.trigger_rules.proofs.Keys.{ends_last}
use Rattle.trigger_rules.proofs.index.ends_in.Goals as goal

pub returns-in-len1-up : goal.returns-in-len1-up
returns-in-len1-up c = ends_last c.args.n c.args.numbers.now c.in-len1-up.len_at_least
