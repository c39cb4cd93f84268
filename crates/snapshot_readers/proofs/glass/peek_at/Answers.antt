use Rattle.std.proofs.Common.{◌≡◌, List, length, take, sym, ap, subst, ◌∙◌, arith}
use Rattle.std.proofs.lemmas.List.{take_all}
use Rattle.gt_base.specs.declared.requests.Entry.{Entry}
use Rattle.gtrbac_model.specs.History.{now_of}
use Rattle.history_laws.specs.Looks.{without_looks}
use Rattle.history_laws.proofs.Silent.{looks_may_be_left_out}
use Rattle.published_copies.specs.Copied.{joined}
use Rattle.snapshot_readers.specs.Glances.{IsGlance, IsHistory}
use Rattle.snapshot_readers.specs.Glazed.{Glazed}
use Rattle.snapshot_readers.proofs.glass.peek_at.Goals as goal

pub returns : goal.returns
returns c =
    let b = c.copy.inside.book in
    let h : List Entry = joined c.copy.inside.batches.items in
    let same = c.if-copy-len.false in
    let len = c.len.ensures in
    let value = ap length c.entries.ensures.value in
    let whole : take c.copy.inside.good b.entries ≡ b.entries = take_all c.copy.inside.good b.entries (omega (arith, same, len, value)) in
    let left : without_looks h ≡ b.entries = c.copy.invariant.1 ∙ whole in
    let history : IsHistory b.named.policy b.birth h = subst (λ (g : Glazed). IsHistory g.named.policy g.birth g.seen) (sym c.copy.view_is) c.requires.history in
    subst (λ (g : Glazed). IsGlance g.named.policy g.birth g.seen c.args.actor c.args.request (record { reply = c.in_ok-reply.reply; at = c.now.result; len = c.copy.inside.len })) c.copy.view_is
    (record {
      reply = record { model = history.model; legal = history.legal; named = history.named; reply_is = c.in_ok-reply.ensures.alike h history.model left history.legal.model };
      at = c.now.ensures ∙ ap (now_of b.birth) (sym left) ∙ sym (looks_may_be_left_out b.named.policy b.birth history.model h).nows;
      len = c.copy.invariant.0;
    })
