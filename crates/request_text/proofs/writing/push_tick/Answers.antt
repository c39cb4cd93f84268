use Rattle.std.specs.Prelude.{codes}
use Rattle.civil_time.specs.Text.{civil_text}
use Rattle.policy_lines.proofs.Written.{map_ok}
use Rattle.request_text.specs.Replies.{who_text}
use Rattle.request_text.proofs.Walks.{tick_pushed}
use Rattle.request_text.proofs.writing.push_tick.Goals as goal

pub returns : goal.returns
returns c =
    map_ok c.push_instant-2.result c.push_instant-2.ensures
    (λ e. tick_pushed c.args.into.now.items _ _ _ _ (codes "tick ") (who_text c.args.who) (codes " to ") (civil_text c.args.to) (codes " bound ") (civil_text c.args.upto) c.in_ok-push_all.ensures.ok c.in_ok-push_who.ensures
    c.in_ok-push_instant.ensures e)
