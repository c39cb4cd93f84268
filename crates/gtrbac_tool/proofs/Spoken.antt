-- Words of a command.
use Rattle.std.proofs.Common.{◌≡◌, ℕ, ◌<◌, ◌≤◌, map, refl, ◌∙◌, sym, ap, Option, None, List, [], ◌∷◌, length, get_or, take, drop, ◌-◌, arith}
use Rattle.std.proofs.lemmas.List.{take_rest}
use Rattle.std.specs.Prelude.{Bool, false, Some, option_map}
use Rattle.gt_text.specs.Words.{begins_with}
use Rattle.gtrbac_tool.specs.declared.questions.Question.{Question}
use Rattle.gtrbac_tool.specs.Commands.{Command, asking, command_by, command_of, question_by}

pub three_items : {A : Type 0} (xs : List A) (a b c : A) → length xs ≡ 3 → a ≡ get_or xs 0 a → b ≡ get_or xs 1 b → c ≡ get_or xs 2 c → a ∷ b ∷ c ∷ [] ≡ xs
three_items [] a b c len x y z = absurd (omega (arith, len))
three_items (p ∷ []) a b c len x y z = absurd (omega (arith, len))
three_items (p ∷ q ∷ []) a b c len x y z = absurd (omega (arith, len))
three_items (p ∷ q ∷ r ∷ []) a b c len x y z = λ i. x i ∷ y i ∷ z i ∷ []
three_items (p ∷ q ∷ r ∷ s ∷ xs) a b c len x y z = absurd (omega (arith, len))

-- fewer than two words are no command
pub few_words : {A : Type 0} (f : A → List ℕ) (ws : List A) → length ws < 2 → ◌≡◌ {A = Option Command} None (command_of (map f ws))
few_words f [] h = refl
few_words f (v ∷ []) h = refl
few_words f (v ∷ n ∷ ws) h = absurd (omega (arith, h))

-- the first word and those behind it
pub first_and_rest : {A : Type 0} (f : A → List ℕ) (ws : List A) (w : A) (b : List ℕ) → 1 ≤ length ws → w ≡ get_or ws 0 w → b ≡ f w → b ∷ map f (take (length ws - 1) (drop 1 ws)) ≡ map f ws
first_and_rest f [] w b h e q = absurd (omega (arith, h))
first_and_rest f (v ∷ vs) w b h e q = λ i. (q ∙ ap f e) i ∷ map f (take_rest (v ∷ vs) 1 i)

-- two words that are a verb and a name
pub two_words : {A : Type 0} (f : A → List ℕ) (ws : List A) (v n : A) (dashed : Bool) (said : Option Command) → length ws ≡ 2 → v ≡ get_or ws 0 v → n ≡ get_or ws 1 n → dashed ≡ begins_with 45 (f n) → dashed ≡ false
    → said ≡ command_by (f v) (f n) → said ≡ command_of (map f ws)
two_words f [] v n dashed said two e q d bare is = absurd (omega (arith, two))
two_words f (x ∷ []) v n dashed said two e q d bare is = absurd (omega (arith, two))
two_words f (x ∷ y ∷ []) v n dashed said two e q d bare is =
    let plain : begins_with 45 (f y) ≡ false = ap (λ m. begins_with 45 (f m)) (sym q) ∙ sym d ∙ bare in
    rw plain (is ∙ (λ i. command_by (f (e i)) (f (q i))))
two_words f (x ∷ y ∷ z ∷ zs) v n dashed said two e q d bare is = absurd (omega (arith, two))

-- a verb, a name and what is asked
pub asking_words : {A : Type 0} (f : A → List ℕ) (ws : List A) (v n : A) (dashed : Bool) (asked : Question) → 3 ≤ length ws → v ≡ get_or ws 0 v → n ≡ get_or ws 1 n → dashed ≡ begins_with 45 (f n) → dashed ≡ false
    → Some asked ≡ question_by (f v) (map f (take (length ws - 2) (drop 2 ws))) → Some (asking (f n) asked) ≡ command_of (map f ws)
asking_words f [] v n dashed asked three e q d bare is = absurd (omega (arith, three))
asking_words f (x ∷ []) v n dashed asked three e q d bare is = absurd (omega (arith, three))
asking_words f (x ∷ y ∷ []) v n dashed asked three e q d bare is = absurd (omega (arith, three))
asking_words f (x ∷ y ∷ z ∷ zs) v n dashed asked three e q d bare is =
    let plain : begins_with 45 (f y) ≡ false = ap (λ m. begins_with 45 (f m)) (sym q) ∙ sym d ∙ bare in
    rw plain (ap (λ m. Some (asking (f m) asked)) q ∙ ap (option_map (asking (f y))) (is ∙ (λ i. question_by (f (e i)) (map f (take_rest (x ∷ y ∷ z ∷ zs) 2 i)))))
