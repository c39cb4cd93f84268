use Rattle.std.proofs.Common.{◌≡◌, [], ◌∷◌, ◌++◌, replicate, ◌∙◌, ap, arith}
use Rattle.std.proofs.lemmas.List.{replicate_more}
use Rattle.policy_words.specs.CapKinds.{no_caps}
use Rattle.policy_book.proofs.drafts.no_caps_of.Goals as goal

pub loop-preserved : goal.loop-preserved
loop-preserved c = c.in_ok-push.ensures.items ∙ (λ i. c.loop.invariant i ++ c.uncapped.ensures i ∷ []) ∙ replicate_more c.loop.counter no_caps

pub returns : goal.returns
returns c =
    let all : c.loop.counter ≡ c.args.roles = omega arith in
    c.loop.invariant ∙ ap (λ n. replicate n no_caps) all
