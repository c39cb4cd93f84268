use Rattle.std.proofs.Common.{◌≡◌, ℕ, List, None, true, length, ◌++◌, inl, refl, sym, ap, subst, ◌∙◌, eqb-true}
use Rattle.std.specs.Prelude.{◌==◌}
use Rattle.gt_base.specs.declared.requests.Entry.{Entry}
use Rattle.core_machine.specs.Books.{BookView}
use Rattle.request_text.specs.Replies.{log_text}
use Rattle.gtrbac_daemon.specs.Runs.{IsWritten}
use Rattle.gtrbac_daemon.specs.Views.{late_line}
use Rattle.gtrbac_daemon.proofs.ViewWriting.{no_some, plain_text}
use Rattle.gtrbac_daemon.proofs.views_writing.write_views.Goals.{in_default-via-in-Some+else-due-eq14, in_default-via-in_default}
use Rattle.gtrbac_daemon.proofs.views_writing.write_views.Goals as goal

pub returns-in-Ok : goal.returns-in-Ok
returns-in-Ok g c =
    let l = c.args.ledger.now in
    let o = g.K.Sink in
    let log = log_text l.named l.birth l.entries in
    let len : c.len.result ≡ length l.entries = c.len.ensures ∙ (ap (λ (es : List Entry). length es) c.entries.ensures.value ∙ ap (λ (b : BookView). length b.entries) c.book.ensures) in
    let line : c.as_slice.result.now ≡ late_line c.args.late (length l.entries) = c.as_slice.ensures.value ∙ (c.in-Ok.ensures ∙ λ i. late_line (sym c.in-Some.is i) (len i)) in (
      14,
      inl (sym c.if-due-eq14.true),
      subst (λ (t : List ℕ). IsWritten 14 (log ++ t) c.write_late.result (o.output c.args.out.now).written (o.output c.write_late.new.out).written (o.output c.args.out.now).faults (o.output c.write_late.new.out).faults) line c.write_late.ensures,
    )

pub returns-in_default : goal.returns-in_default
returns-in_default g c =
    let l = c.args.ledger.now in
    let o = g.K.Sink in
    let none : (c.args.due == 14) ≡ true → c.args.late ≡ None = λ is.
    elim c.in_default.branch [
      | in_default-via-in-Some+else-due-eq14 w ↦ absurd (w.if-due-eq14.false (eqb-true c.args.due 14 is))
      | in_default-via-in_default w ↦ no_some c.args.late w.in_default.not-Some
    ] in (
      c.args.due,
      inl refl,
      subst (λ (t : List ℕ). IsWritten c.args.due t c.write_up-in_default.result (o.output c.args.out.now).written (o.output c.write_up-in_default.new.out).written (o.output c.args.out.now).faults (o.output c.write_up-in_default.new.out).faults)
          (sym (plain_text l.named l.birth l.entries c.args.due c.args.late none)) c.write_up-in_default.ensures,
    )
