use Rattle.std.proofs.Common.{sym, ◌∙◌, subst}
use Rattle.std.specs.Prelude.{IsTrue}
use Rattle.gt_base.specs.declared.requests.Reply.{Reply}
use Rattle.policy_words.specs.Naming.{NamedPolicy}
use Rattle.core_machine.specs.Books.{reply_in}
use Rattle.request_text.specs.Named.{has_reply}
use Rattle.gtrbac_tool.proofs.Steps.{can_write}
use Rattle.gtrbac_tool.proofs.script.put.Goals as goal

pub push_reply-requires : goal.push_reply-requires
push_reply-requires c =
    let b = c.args.run.now.book in
    let actor = c.args.run.now.actor in
    let ok = c.in-Ok.ensures.ok in
    subst (λ (r : Reply). IsTrue (has_reply c.policy.result.now.policy r)) (sym ok.reply_is)
    (subst (λ (np : NamedPolicy). IsTrue (has_reply np.policy (reply_in b actor c.args.request))) (sym (c.policy.ensures.value ∙ ok.gains.named)) (can_write b c.keeps.ensures.kept actor c.args.request).named)
