use Rattle.std.proofs.Common.{sym, ◌∙◌}
use Rattle.std.proofs.lemmas.Simd.{splat_is_map}
use Rattle.policy_words.specs.CapKinds.{no_caps}
use Rattle.policy_book.proofs.Drafting.{same_draft}
use Rattle.policy_book.proofs.drafts.Draft.new.Goals as goal

pub returns : goal.returns
returns c =
    same_draft c.new.ensures.items c.new-2.ensures.items c.new-3.ensures.items
    (c.in_ok-no_caps_of.ensures ∙ splat_is_map c.args.names.now.roles _ no_caps (sym c.len.ensures))
    c.new-4.ensures.empty c.new-5.ensures.empty c.new-6.ensures.items c.new-7.ensures.items
