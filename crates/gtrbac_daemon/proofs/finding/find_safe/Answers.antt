use Rattle.std.proofs.Common.{◌≡◌, ℕ, List, Option, Some, None, inl, inr, refl, sym, subst, ◌∙◌}
use Rattle.std.proofs.KnownBytes.{Keeps-refl}
use Rattle.std.proofs.lemmas.Option.{none-some}
use Rattle.gt_io.specs.Causes.{Rose}
use Rattle.policy_commands.specs.Admitting.{IsAdmitted}
use Rattle.policy_commands.specs.Ends.{ending, seen_end}
use Rattle.policy_commands.specs.Finding.{IsStoredText, IsFoundText, IsFailure, IsSteady}
use Rattle.policy_commands.specs.Printing.{IsPrinted}
use Rattle.gtrbac_daemon.specs.Words.{server_usage, Admits}
use Rattle.gtrbac_daemon.specs.Runs.{starved}
use Rattle.gtrbac_daemon.proofs.Causing.{apart}
use Rattle.gtrbac_daemon.proofs.Found.{is_short, some_said, none_said, text_refused, judged_fine, refused_as}
use Rattle.gtrbac_daemon.proofs.finding.find_safe.Goals as goal

pub admit-requires : goal.admit-requires
admit-requires g c =
    let old = g.S.Shelf.stock c.args.shelf.now in
    let new = g.S.Shelf.stock c.find_text.new.shelf in
    is_short old.contents c.in-Some.name.now c.deref.result.now
    (subst (λ (t : List ℕ). IsStoredText old.contents c.in-Some.name.now t) (sym c.deref.ensures.value)
    (subst (IsFoundText (Rose old.hard_faults new.hard_faults) old.contents c.in-Some.name.now) c.in-Ok-Text.field-0-is c.in-Ok-Text.ensures.found))

pub returns-in-Ok-Safe-clause-admitted : goal.returns-in-Ok-Safe-clause-admitted
returns-in-Ok-Safe-clause-admitted g c =
    let old = g.S.Shelf.stock c.args.shelf.now in
    let new = g.S.Shelf.stock c.find_text.new.shelf in
    let stored : IsStoredText old.contents c.in-Some.name.now c.deref.result.now = subst (λ (t : List ℕ). IsStoredText old.contents c.in-Some.name.now t) (sym c.deref.ensures.value)
    (subst (IsFoundText (Rose old.hard_faults new.hard_faults) old.contents c.in-Some.name.now) c.in-Ok-Text.field-0-is c.in-Ok-Text.ensures.found) in
    subst (λ (m : Option (List ℕ)). Admits old.contents m c.in-Ok-Safe.safe) (sym (some_said _ _ _ c.in-Some.is))
    (c.deref.result.now, stored, subst (IsAdmitted c.deref.result.now) c.in-Ok-Safe.field-0-is c.in-Ok-Safe.ensures)

pub returns-in-Ok-Safe-clause-kept : goal.returns-in-Ok-Safe-clause-kept
returns-in-Ok-Safe-clause-kept g c =
    let old = g.S.Shelf.stock c.args.shelf.now in
    let new = g.S.Shelf.stock c.find_text.new.shelf in
    (subst (IsSteady (new.hard_faults ≡ old.hard_faults)) c.in-Ok-Text.field-0-is c.in-Ok-Text.ensures.steady, refl)

pub returns-in-Ok-Safe-clause-unread : goal.returns-in-Ok-Safe-clause-unread
returns-in-Ok-Safe-clause-unread g c = λ none. absurd (none-some c.in-Some.name.now (sym none ∙ some_said _ _ _ c.in-Some.is))

pub returns-in-Ok-Ended-admit-clause-ended : goal.returns-in-Ok-Ended-admit-clause-ended
returns-in-Ok-Ended-admit-clause-ended g c =
    let old = g.S.Shelf.stock c.args.shelf.now in
    let new = g.S.Shelf.stock c.find_text.new.shelf in
    let o = g.K.Sink.output c.args.out.now in
    let o' = g.K.Sink.output c.print-in-Ok-Ended-admit.new.out in
    let end = c.in-Ok-Ended-admit.end in
    let text = c.deref.result.now in
    let stored : IsStoredText old.contents c.in-Some.name.now text = subst (λ (t : List ℕ). IsStoredText old.contents c.in-Some.name.now t) (sym c.deref.ensures.value)
    (subst (IsFoundText (Rose old.hard_faults new.hard_faults) old.contents c.in-Some.name.now) c.in-Ok-Text.field-0-is c.in-Ok-Text.ensures.found) in
    let ended = subst (IsAdmitted text) c.in-Ok-Ended-admit.field-0-is c.in-Ok-Ended-admit.ensures in
    refused_as _ (Some c.in-Some.name.now) (some_said _ _ _ c.in-Some.is) c.print-in-Ok-Ended-admit.result old new o o' (seen_end end)
    (text_refused (Rose old.hard_faults new.hard_faults) old.contents c.in-Some.name.now text end stored ended) (λ four. absurd (judged_fine text end ended four))
    (inr (subst (IsSteady (new.hard_faults ≡ old.hard_faults)) c.in-Ok-Text.field-0-is c.in-Ok-Text.ensures.steady))
    (subst (λ (t : List ℕ). IsPrinted c.print-in-Ok-Ended-admit.result (ending end.status t) o.written o'.written o.faults o'.faults) c.as_slice.ensures c.print-in-Ok-Ended-admit.ensures)

pub returns-in-Ok-Ended-clause-ended : goal.returns-in-Ok-Ended-clause-ended
returns-in-Ok-Ended-clause-ended g c =
    let old = g.S.Shelf.stock c.args.shelf.now in
    let new = g.S.Shelf.stock c.find_text.new.shelf in
    let o = g.K.Sink.output c.args.out.now in
    let o' = g.K.Sink.output c.print-in-Ok-Ended.new.out in
    let end = c.in-Ok-Ended.end in
    refused_as _ (Some c.in-Some.name.now) (some_said _ _ _ c.in-Some.is) c.print-in-Ok-Ended.result old new o o' (seen_end end)
    (inl (subst (IsFoundText (Rose old.hard_faults new.hard_faults) old.contents c.in-Some.name.now) c.in-Ok-Ended.field-0-is c.in-Ok-Ended.ensures.found))
    (subst (IsFailure (Rose old.faults new.faults)) c.in-Ok-Ended.field-0-is c.in-Ok-Ended.ensures.failed)
    (subst (IsSteady (new.hard_faults ≡ old.hard_faults)) c.in-Ok-Ended.field-0-is c.in-Ok-Ended.ensures.steady)
    (subst (λ (t : List ℕ). IsPrinted c.print-in-Ok-Ended.result (ending end.status t) o.written o'.written o.faults o'.faults) c.as_slice-in-Ok-Ended.ensures c.print-in-Ok-Ended.ensures)

pub returns-in-Ok-Ended-clause-unread : goal.returns-in-Ok-Ended-clause-unread
returns-in-Ok-Ended-clause-unread g c = λ none. absurd (none-some c.in-Some.name.now (sym none ∙ some_said _ _ _ c.in-Some.is))

pub returns-in-Ok-Text-clause-ended : goal.returns-in-Ok-Text-clause-ended
returns-in-Ok-Text-clause-ended g c = starved c.in-Some.name.now (some_said _ _ _ c.in-Some.is) ((refl, Keeps-refl (g.K.Sink.output c.args.out.now).written, refl), refl) refl

pub returns-clause-ended : goal.returns-clause-ended
returns-clause-ended g c = starved c.in-Some.name.now (some_said _ _ _ c.in-Some.is) ((refl, Keeps-refl (g.K.Sink.output c.args.out.now).written, refl), refl) refl

pub returns-in-Ok-Ended-admit-clause-unread : goal.returns-in-Ok-Ended-admit-clause-unread
returns-in-Ok-Ended-admit-clause-unread g c = λ none. absurd (none-some c.in-Some.name.now (sym none ∙ some_said _ _ _ c.in-Some.is))

pub returns-in-Ok-Text-clause-unread : goal.returns-in-Ok-Text-clause-unread
returns-in-Ok-Text-clause-unread g c = λ none. absurd (none-some c.in-Some.name.now (sym none ∙ some_said _ _ _ c.in-Some.is))

pub returns-clause-unread : goal.returns-clause-unread
returns-clause-unread g c = λ none. absurd (none-some c.in-Some.name.now (sym none ∙ some_said _ _ _ c.in-Some.is))

pub returns-in_default-clause-ended : goal.returns-in_default-clause-ended
returns-in_default-clause-ended g c =
    let old = g.S.Shelf.stock c.args.shelf.now in
    refused_as _ None (none_said _ _ c.in_default.is) c.print.result old old (g.K.Sink.output c.args.out.now) (g.K.Sink.output c.print.new.out) server_usage refl (λ four. absurd (apart 1 1 4 refl refl four)) (inr refl) c.print.ensures
