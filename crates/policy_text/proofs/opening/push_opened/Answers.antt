use Rattle.std.proofs.Common.{◌≡◌, ◌++◌, ◌∙◌, true, List, ap, sym, subst}
use Rattle.std.specs.Prelude.{OnOk}
use Rattle.std.specs.List.{list_all}
use Rattle.gt_base.specs.Sets.{members}
use Rattle.gt_base.specs.declared.events.Fluent.{Fluent}
use Rattle.gtrbac_model.specs.WholePolicy.{is_fluent}
use Rattle.policy_text.specs.Sections.{opened_from}
use Rattle.policy_text.proofs.opening.push_opened.Goals as goal

pub push_sorts-requires : goal.push_sorts-requires
push_sorts-requires c =
    subst (λ (fs : List Fluent). list_all (is_fluent c.args.p.now.policy) fs ≡ true) (sym (c.as_slice.ensures ∙ c.in_ok-opening.ensures ∙ ap members c.opening.ensures)) c.keeps.ensures.policy.opening

pub returns : goal.returns
returns c =
    subst (λ (fs : List Fluent). OnOk c.push_sorts.result (c.push_sorts.new.text.items ≡ c.args.text.now.items ++ opened_from c.args.p.now fs))
    (c.as_slice.ensures ∙ c.in_ok-opening.ensures ∙ ap members c.opening.ensures) c.push_sorts.ensures
