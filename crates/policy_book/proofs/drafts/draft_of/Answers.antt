use Rattle.std.proofs.Common.{◌≡◌, true, sym, subst, ap, ◌∙◌}
use Rattle.std.specs.Vec.Iter.{into_iter_items}
use Rattle.policy_words.specs.Sayings.{is_saying}
use Rattle.policy_words.specs.Making.{adding, drafted, fresh}
use Rattle.policy_words.specs.LinesTogether.{said_in}
use Rattle.policy_book.specs.Said.{are_sayings}
use Rattle.policy_book.specs.Seen.{seen_names}
use Rattle.policy_book.specs.Drafts.{seen_draft}
use Rattle.policy_book.proofs.Truth.{parted}
use Rattle.policy_book.proofs.drafts.draft_of.Goals as goal

pub add-requires : goal.add-requires
add-requires c =
    let part = c.in-Some.part in
    let said = parted (is_saying part.it) (are_sayings (into_iter_items c.next.new.self)) (subst (λ ss. are_sayings ss ≡ true) c.in-Some.ensures.items c.loop-part.invariant.said) in
    subst (λ s. is_saying s ≡ true) (sym c.into_said.ensures) said.0

pub loop-part-preserved : goal.loop-part-preserved
loop-part-preserved c =
    let part = c.in-Some.part in
    let rest = into_iter_items c.next.new.self in
    let ns = seen_names c.args.names.now in
    let old = seen_draft c.loop-part.draft in
    let whole = c.in-Some.ensures.items in
    record {
      made =
          ap (λ d. drafted ns d (said_in rest)) c.in_ok-add.ensures
          ∙ ap (λ s. drafted ns (adding ns old s) (said_in rest)) c.into_said.ensures
          ∙ ap (λ ss. drafted ns old (said_in ss)) (sym whole)
          ∙ c.loop-part.invariant.made;
      said = (parted (is_saying part.it) (are_sayings rest) (subst (λ ss. are_sayings ss ≡ true) whole c.loop-part.invariant.said)).1;
    }

pub loop-part-init : goal.loop-part-init
loop-part-init c =
    let ns = seen_names c.args.names.now in
    let rest = into_iter_items c.into_iter-rest.result in
    let whole = c.into_iter-rest.ensures.rest in
    record {
      made = ap (λ d. drafted ns d (said_in rest)) c.in_ok-draft.ensures ∙ ap (λ ss. drafted ns (fresh ns) (said_in ss)) whole;
      said = subst (λ ss. are_sayings ss ≡ true) (sym whole) c.requires;
    }
