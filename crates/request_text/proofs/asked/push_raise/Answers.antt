use Rattle.policy_lines.proofs.Written.{map_ok}
use Rattle.policy_words.specs.Naming.{head_named}
use Rattle.request_text.proofs.Walks.{raise_pushed}
use Rattle.request_text.proofs.asked.push_raise.Goals as goal

pub returns : goal.returns
returns c =
    map_ok c.push_delay.result c.push_delay.ensures
    (λ e. raise_pushed c.args.text.now.items _ _ _ (head_named c.args.p.now.names c.args.h) _ c.args.delay c.in_ok-extend_from_slice.ensures.items c.named_head.ensures c.in_ok-push_head.ensures e)
