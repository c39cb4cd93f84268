use Rattle.std.proofs.Common.{rules, of_calls}
use Rattle.std.proofs.lemmas.Fn.{filter_same}
use Rattle.session_table.specs.declared.opened.Open.{Open}
use Rattle.session_table.proofs.opened.keep_open.Goals as goal

pub returns : goal.returns
returns c = filter_same _ (λ (o : Open). o.is_open) _ (λ x b f h. search (rules, of_calls)) _ _ c.retain.ensures.filtered
