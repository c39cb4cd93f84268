use Rattle.std.proofs.Common.{rules, of_calls, not}
use Rattle.std.proofs.lemmas.Fn.{filter_same}
use Rattle.gtrbac_model.specs.Sessions.{is_active_in}
use Rattle.session_table.proofs.activations.end_role.Goals as goal

pub returns : goal.returns
returns c = filter_same _ (λ a. not (is_active_in c.args.session c.args.role a)) _ (λ x b f h. search (rules, of_calls)) _ _ c.retain.ensures.filtered
