use Rattle.std.proofs.Common.{rules, of_calls}
use Rattle.std.proofs.lemmas.Fn.{filter_same}
use Rattle.session_table.specs.Opened.{role_in}
use Rattle.session_table.proofs.dropping.keep_listed.Goals as goal

pub returns : goal.returns
returns c = filter_same _ (λ a. role_in c.args.sessions.now a.session a.role) _ (λ x b f h. search (rules, of_calls)) _ _ c.retain.ensures.filtered
