use Rattle.std.proofs.Common.{◌≡◌, ap, sym, subst, ◌∙◌}
use Rattle.std.specs.Prelude.{Ok}
use Rattle.policy_words.specs.Naming.{NamedPolicy}
use Rattle.policy_words.specs.Making.{names_of, are_second}
use Rattle.policy_words.specs.LinesTogether.{said_in, build}
use Rattle.policy_book.proofs.WellFormed.{build_is_well_formed}
use Rattle.policy_book.specs.Seen.{seen_names}
use Rattle.policy_words.specs.Valid.{IsWellFormed}
use Rattle.policy_book.specs.Drafts.{seen_draft, made_policy}
use Rattle.policy_book.proofs.Joining.{built, is_well_formed}
use Rattle.policy_book.proofs.books.Policy.build.Goals as goal

pub finished-requires : goal.finished-requires
finished-requires c =
    let ss = c.parts.inside.parts.items in
    let ns = seen_names c.in_ok-names.names in
    let sound = c.in-Ok.ensures.ok in
    let second : c.are_second-second.result ≡ are_second (said_in ss) = c.are_second-second.ensures ∙ ap (λ xs. are_second (said_in xs)) c.deref-2.ensures.value in
    subst (λ b. IsWellFormed (made_policy ns b (seen_draft c.in-Ok.draft))) (sym second)
    (is_well_formed build_is_well_formed ss _ c.parts.invariant (built ss ns (seen_draft c.in-Ok.draft) (c.in_ok-names.ensures ∙ ap (λ xs. names_of (said_in xs)) c.deref.ensures.value) sound.free sound.whole sound.open_ended))

pub sound_draft-requires-clause-named : goal.sound_draft-requires-clause-named
sound_draft-requires-clause-named c = c.in_ok-names.ensures ∙ ap (λ xs. names_of (said_in xs)) c.deref.ensures.value

pub sound_draft-requires-clause-kept : goal.sound_draft-requires-clause-kept
sound_draft-requires-clause-kept c = c.parts.invariant

pub returns-in_ok-finished-in-Ok-clause-ok : goal.returns-in_ok-finished-in-Ok-clause-ok
returns-in_ok-finished-in-Ok-clause-ok c =
    let ss = c.parts.inside.parts.items in
    let ns = seen_names c.in_ok-names.names in
    let d = seen_draft c.in-Ok.draft in
    let sound = c.in-Ok.ensures.ok in
    let second : c.are_second-second.result ≡ are_second (said_in ss) = c.are_second-second.ensures ∙ ap (λ xs. are_second (said_in xs)) c.deref-2.ensures.value in
    ap build (sym c.parts.view_is)
    ∙ built ss ns d (c.in_ok-names.ensures ∙ ap (λ xs. names_of (said_in xs)) c.deref.ensures.value) sound.free sound.whole sound.open_ended
    ∙ ap (λ (np : NamedPolicy). Ok np) (ap (λ b. made_policy ns b d) (sym second) ∙ sym c.in_ok-finished-in-Ok.ensures)
