use Rattle.std.proofs.Common.{◌≡◌, ◌+◌, List, length, take, ap, subst, arith, ◌∙◌, length-append}
use mathlib.Core.List.{IsPrefix}
use Rattle.gt_base.specs.declared.requests.Entry.{Entry}
use Rattle.snapshot_readers.proofs.Taking.{next_shown}
use Rattle.snapshot_readers.proofs.glass.shows_all.Goals as goal

pub loop-batch-preserved : goal.loop-batch-preserved
loop-batch-preserved c =
    let inv = c.loop-batch.invariant in
    let i = c.loop-batch.batch-index in
    let at = c.loop-batch.at in
    let es : List Entry = c.batch-item.result in
    let rest : List Entry = c.split_at.result.1.now in
    let ess : List (List Entry) = c.as_slice-batch-items.result.now in
    let same : c.as_slice-in-loop-batch.result.now ≡ es = c.as_slice-in-loop-batch.ensures in
    let begins : IsPrefix es rest = subst (λ (l : List Entry). IsPrefix l rest) c.as_slice.ensures (c.begins.ensures.0 c.if-not-begins.false) in
    let parts = length-append es begins.0 in
    let whole = ap length begins.1 in
    let long = ap length same in
    record {
      within = omega (arith, parts, whole, long, c.split_at.ensures.back_len);
      front =
          ap (λ (l : List Entry). take (at + length l) c.args.entries.now) same ∙ next_shown i at ess es c.args.entries.now rest c.loop-batch-test.true c.batch-item.is inv.front c.split_at.ensures.back begins;
    }
