-- What lines add to a draft, list by list.
use Rattle.std.proofs.Common.{◌≡◌, List, [], ◌∷◌, ◌++◌, Option, Some, None, refl, sym, ap, ◌∙◌, append_assoc}
use Rattle.std.specs.List.{filter_map, cons_option}
use Rattle.std.proofs.lemmas.List.{append-nil}
use Rattle.gtrbac_model.specs.Same.{same_fluent}
use Rattle.gt_base.specs.declared.events.Fluent.{Fluent}
use Rattle.policy_words.specs.Sayings.{SaidView}
use Rattle.policy_words.specs.Naming.{Names}
use Rattle.policy_words.specs.Making.{DraftView, adding, drafted, with_item, with_new, period_said, limit_said, edge_said, entry_said, rule_said, opening_said}

with_item_more : {A : Type 0} (o : Option A) (xs ys : List A) → with_item o xs ++ ys ≡ xs ++ cons_option o ys
with_item_more None xs ys = refl
with_item_more (Some x) xs ys = append_assoc xs (x ∷ []) ys

module _ (ns : Names) {A : Type 0} (of : DraftView → List A) (said : SaidView → Option A) (step : (d : DraftView) (x : SaidView) → of (adding ns d x) ≡ with_item (said x) (of d)) where
  drafted_items : (d : DraftView) (xs : List SaidView) → of (drafted ns d xs) ≡ of d ++ filter_map said xs
  drafted_items d [] = sym (append-nil (of d))
  drafted_items d (x ∷ xs) = drafted_items (adding ns d x) xs ∙ ap (λ z. z ++ filter_map said xs) (step d x) ∙ with_item_more (said x) (of d) (filter_map said xs)

module _ (ns : Names) (d : DraftView) (xs : List SaidView) where
  pub drafted_periods : (drafted ns d xs).periods ≡ d.periods ++ filter_map (period_said ns) xs
  drafted_periods = drafted_items ns (λ e. e.periods) (period_said ns) (λ _ _. refl) d xs

  pub drafted_limits : (drafted ns d xs).limits ≡ d.limits ++ filter_map (limit_said ns) xs
  drafted_limits = drafted_items ns (λ e. e.limits) (limit_said ns) (λ _ _. refl) d xs

  pub drafted_edges : (drafted ns d xs).edges ≡ d.edges ++ filter_map (edge_said ns) xs
  drafted_edges = drafted_items ns (λ e. e.edges) (edge_said ns) (λ _ _. refl) d xs

  pub drafted_entries : (drafted ns d xs).entries ≡ d.entries ++ filter_map (entry_said ns) xs
  drafted_entries = drafted_items ns (λ e. e.entries) (entry_said ns) (λ _ _. refl) d xs

  pub drafted_triggers : (drafted ns d xs).triggers ≡ d.triggers ++ filter_map (rule_said ns) xs
  drafted_triggers = drafted_items ns (λ e. e.triggers) (rule_said ns) (λ _ _. refl) d xs

-- what is on at first, the last line first
abbrev pub opened : Names → List SaidView → List Fluent
opened ns [] = []
opened ns (x ∷ before) = with_new same_fluent (opening_said ns x) (opened ns before)

-- the lines, the last first, before others
abbrev pub onto : List SaidView → List SaidView → List SaidView
onto [] before = before
onto (x ∷ xs) before = onto xs (x ∷ before)

pub drafted_opening : (ns : Names) (d : DraftView) (before xs : List SaidView) → d.on_at_first ≡ opened ns before → (drafted ns d xs).on_at_first ≡ opened ns (onto xs before)
drafted_opening ns d before [] e = e
drafted_opening ns d before (x ∷ xs) e = drafted_opening ns (adding ns d x) (x ∷ before) xs (ap (λ z. with_new same_fluent (opening_said ns x) z) e)
