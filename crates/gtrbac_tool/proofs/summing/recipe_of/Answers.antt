use Rattle.std.proofs.Common.{◌≡◌, ℕ, List, [], ◌∷◌, length, codes, map, IfSome, sym, ap, ◌∙◌, subst, arith, rules}
use Rattle.std.specs.Prelude.{string_bytes}
use Rattle.std.proofs.lemmas.Grind.{common_steps}
use Rattle.gtrbac_tool.specs.Summary.{IsGen}
use Rattle.gtrbac_tool.specs.Counted.{seen_recipe}
use Rattle.gtrbac_tool.proofs.Spoken.{three_items}
use Rattle.gtrbac_tool.proofs.summing.recipe_of.Goals as goal

pub returns-then-eq-clause-some : goal.returns-then-eq-clause-some
returns-then-eq-clause-some c =
    let three : length c.args.words.now ≡ 3 = omega arith in
    let read : c.as_str.result.now ≡ codes "gen" = first_of (search rules, grind (arith, common_steps)) in
    let verb : codes "gen" ≡ string_bytes c.verb-item.result = sym read ∙ c.as_str.ensures.value in
    let items = three_items c.args.words.now c.verb-item.result c.seed-item.result c.size-item.result three c.verb-item.is c.seed-item.is c.size-item.is in
    let same : codes "gen" ∷ c.as_str-then-eq.result.now ∷ c.as_str-then-eq-2.result.now ∷ [] ≡ map string_bytes c.args.words.now =
    (λ i. verb i ∷ c.as_str-then-eq.ensures.value i ∷ c.as_str-then-eq-2.ensures.value i ∷ []) ∙ ap (λ xs. map string_bytes xs) items in
    subst (λ (ws : List (List ℕ)). IfSome c.recipe_in.result (λ r. IsGen ws (seen_recipe r))) same c.recipe_in.ensures.some
