-- A line is read by the first of the verbs whose word its first word is.
use Rattle.std.proofs.Common.{◌≡◌, ℕ, Bool, true, false, cond, List, [], ◌∷◌, Option, Some, None, Result, Err, refl, sym, ap, subst, ◌∙◌, if◌then◌else◌}
use Rattle.std.specs.Prelude.{bytes_eq, find, map, option_map}
use Rattle.policy_words.specs.declared.faults.TextKind.{TextKind}
use Rattle.policy_words.specs.declared.faults.TextKind.TheVariants as faults
use Rattle.policy_words.specs.declared.sayings.Said.{Said}
use Rattle.policy_words.specs.declared.versions.TextVersion.{TextVersion}
use Rattle.policy_words.specs.Sayings.{SaidView}
use Rattle.policy_words.specs.Wording.{◌>>=◌, by_verb}
use Rattle.policy_words.specs.Reading.{verbs, said_by, said_of}
use Rattle.policy_lines.specs.declared.first_words.LineVerb.{LineVerb}
use Rattle.policy_lines.specs.Answered.{ReadsAs}
use Rattle.policy_lines.specs.FirstWords.{verb_word, all_verbs, said_behind}

-- the first row of a table whose word it is
module _ {A B : Type 0} (word : A → List ℕ) (reads : A → List (List ℕ) → Option B) where
  row_found : (a : A) (b : Bool) (rows : Option (List (List ℕ) → Option B)) (more : Option A) → rows ≡ option_map reads more
      → (if b then Some (reads a) else rows) ≡ option_map reads (cond b (Some a) more)
  row_found a true rows more e = refl
  row_found a false rows more e = e

  by_row : (table : List A) (w : List ℕ) → by_verb (map (λ a. (word a, reads a)) table) w ≡ option_map reads (find (λ a. bytes_eq (word a) w) table)
  by_row [] w = refl
  by_row (a ∷ table) w = row_found a (bytes_eq (word a) w) _ _ (by_row table w)

module _ (v : TextVersion) (line : List ℕ) (ws : List (List ℕ)) where
  abbrev behind : LineVerb → List (List ℕ) → Option (Result SaidView TextKind)
  behind verb words = Some (said_behind v line verb words)

  table_is : verbs v line ≡ map (λ verb. (verb_word verb, behind verb)) all_verbs
  table_is = refl

  read_by : (w : List ℕ) (r : Option LineVerb) → r ≡ find (λ verb. bytes_eq (verb_word verb) w) all_verbs
      → said_of v line (w ∷ ws) ≡ said_by (do reads ← option_map behind r; reads ws)
  read_by w r e =
      ap (λ (table : List (List ℕ × (List (List ℕ) → Option (Result SaidView TextKind)))). said_by (do reads ← by_verb table w; reads ws)) table_is
      ∙ ap (λ (found : Option (List (List ℕ) → Option (Result SaidView TextKind))). said_by (do reads ← found; reads ws)) (by_row verb_word behind all_verbs w ∙ ap (option_map behind) (sym e))

  pub said_known : (w : List ℕ) (verb : LineVerb) (r : Result Said TextKind) → Some verb ≡ find (λ verb. bytes_eq (verb_word verb) w) all_verbs
      → ReadsAs r (said_behind v line verb ws) → ReadsAs r (said_of v line (w ∷ ws))
  said_known w verb r e h = subst (ReadsAs r) (sym (read_by w (Some verb) e)) h

  pub said_unknown : (w : List ℕ) → None ≡ find (λ verb. bytes_eq (verb_word verb) w) all_verbs → said_of v line (w ∷ ws) ≡ Err faults.Word
  said_unknown w e = read_by w None e
