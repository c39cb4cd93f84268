use Rattle.std.proofs.Common.{◌∙◌, List, refl, sym, subst}
use Rattle.gt_base.specs.declared.requests.Entry.{Entry}
use Rattle.policy_words.specs.Naming.{NamedPolicy}
use Rattle.request_text.specs.Fitting.{FitPages}
use Rattle.gtrbac_daemon.specs.Pages.{text_from}
use Rattle.gtrbac_daemon.proofs.Paging.{spare_left, log_is, log_of, all_written, part_written}
use Rattle.gtrbac_daemon.proofs.Written.{entries_fit}
use Rattle.gtrbac_daemon.proofs.printing.write_up.Goals as goal

pub write_pages-requires-clause-fit : goal.write_pages-requires-clause-fit
write_pages-requires-clause-fit g c =
    let b = c.book-book.result.now in
    subst (λ (p : NamedPolicy). FitPages p.policy c.as_slice.result.now) (sym c.policy.ensures.value)
    (subst (λ (es : List Entry). FitPages b.named.policy es) (sym (c.as_slice.ensures ∙ c.entries.ensures.value)) (entries_fit b c.keeps.ensures.kept))

pub write_pages-requires-clause-room : goal.write_pages-requires-clause-room
write_pages-requires-clause-room g c =
    spare_left c.args.page.now c.put_birth.new.into _ c.put_birth.ensures c.requires.1 refl

pub returns-in-Ok : goal.returns-in-Ok
returns-in-Ok g c =
    let o = g.K.Sink in
    let np = c.policy.result.now in
    let es = c.as_slice.result.now in
    all_written c.args.due c.args.due (text_from np c.put_birth.new.into.items es) _ (o.output c.args.out.now).written (o.output c.write_pages.new.out).written (o.output c.args.out.now).faults (o.output c.write_pages.new.out).faults
    (log_is np c.birth.result c.args.page.now c.put_birth.new.into _ es c.put_birth.ensures c.requires.0 refl
    ∙ log_of np c.birth.result es c.book-book.result.now c.args.ledger.now c.policy.ensures.value c.birth.ensures (c.as_slice.ensures ∙ c.entries.ensures.value) c.book-book.ensures)
    refl c.in-Ok.ensures.all c.in-Ok.ensures.cause.kept

pub returns-in-Err : goal.returns-in-Err
returns-in-Err g c =
    let o = g.K.Sink in
    let np = c.policy.result.now in
    let es = c.as_slice.result.now in
    part_written c.args.due c.failed_at.result (text_from np c.put_birth.new.into.items es) _ (o.output c.args.out.now).written (o.output c.write_pages.new.out).written (o.output c.args.out.now).faults (o.output c.write_pages.new.out).faults
    (log_is np c.birth.result c.args.page.now c.put_birth.new.into _ es c.put_birth.ensures c.requires.0 refl
    ∙ log_of np c.birth.result es c.book-book.result.now c.args.ledger.now c.policy.ensures.value c.birth.ensures (c.as_slice.ensures ∙ c.entries.ensures.value) c.book-book.ensures)
    c.failed_at.ensures c.in-Err.ensures.part c.in-Err.ensures.cause.failed
