use Rattle.std.proofs.Common.{rules, of_calls, nat_lt}
use Rattle.std.proofs.lemmas.Fn.{filter_same}
use Rattle.session_table.specs.declared.whole.Whole.{Whole}
use Rattle.session_table.proofs.whole.forget_stretches.Goals as goal

pub returns : goal.returns
returns c = filter_same _ (λ (w : Whole). nat_lt c.args.day w.past) _ (λ x b f h. search (rules, of_calls)) _ _ c.retain.ensures.filtered
