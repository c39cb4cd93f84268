use Rattle.std.proofs.Common.{List, ◌++◌, ap, ◌∙◌}
use Rattle.policy_words.specs.Canonical.{canonical_text}
use Rattle.policy_text.proofs.writing.write_policy.Goals as goal

pub returns : goal.returns
returns c = c.from.ensures ∙ c.in_ok-push_sections.ensures ∙ ap (λ (t : List _). t ++ canonical_text c.args.p.now) c.new-text.ensures.items
