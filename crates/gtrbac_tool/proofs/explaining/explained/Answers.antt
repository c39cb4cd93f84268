use Rattle.std.proofs.Common.{◌≡◌, sym, ◌∙◌, subst}
use Rattle.gtrbac_model.specs.History.{Legal}
use Rattle.gtrbac_model.specs.Safety.{IsSafe}
use Rattle.policy_words.specs.Naming.{NamedPolicy}
use Rattle.core_machine.specs.Books.{model_in}
use Rattle.gtrbac_tool.proofs.explaining.explained.Goals as goal

pub accept-requires-clause-legal : goal.accept-requires-clause-legal
accept-requires-clause-legal c =
    let b = c.args.book.now in
    let policy_is : c.policy-policy.result.now ≡ b.named = c.policy-policy.ensures ∙ c.ground.ensures.value in
    record {
      model = model_in b;
      legal = subst (λ (np : NamedPolicy). Legal np.policy c.birth.result c.entries.result.now.items (model_in b)) (sym policy_is)
          (subst (λ t. Legal b.named.policy t c.entries.result.now.items (model_in b)) (sym c.birth.ensures)
          (subst (λ h. Legal b.named.policy b.birth h (model_in b)) (sym c.entries.ensures.value) c.keeps.ensures.kept.legal));
    }

pub accept-requires-clause-safe : goal.accept-requires-clause-safe
accept-requires-clause-safe c =
    let policy_is : c.policy-policy.result.now ≡ c.args.book.now.named = c.policy-policy.ensures ∙ c.ground.ensures.value in
    subst (λ (np : NamedPolicy). IsSafe np.policy.triggers) (sym policy_is) c.keeps.ensures.safe
