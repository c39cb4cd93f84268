-- A line of a script that words spell, and what it says over a policy.
use Rattle.std.proofs.Common.{◌≡◌, ℕ, ◌≤◌, true, false, not, ◌||◌, List, [], ◌∷◌, length, Some, Ok, Err, refl, sym, ap, ◌∙◌, subst, arith, if◌then◌else◌}
use Rattle.std.specs.Prelude.{nat_le}
use Rattle.std.specs.List.{list_all, list_any}
use Rattle.std.proofs.lemmas.Bool.{ltb-true}
use Rattle.std.proofs.lemmas.Bool.Decides.{Decides-eqb}
use borrow.Author.Tests.{leb-true}
use Rattle.gt_base.specs.declared.requests.Actor.TheVariants.{Operator}
use Rattle.gt_text.specs.Lines.{is_feed, is_longer}
use Rattle.gt_text.specs.Words.{spaced, words_of, are_silent}
use Rattle.policy_lines.specs.Laws.{has_no_feed}
use Rattle.policy_lines.specs.Plain.{is_plain, is_word}
use Rattle.policy_lines.proofs.Truths.{both, not_true}
use Rattle.policy_lines.proofs.SpacedWords.{plain_spaced, words_plain, words_of_spaced}
use Rattle.policy_words.specs.Naming.{NamedPolicy}
use Rattle.request_text.specs.declared.lines.Line.{Line}
use Rattle.request_text.specs.declared.lines.Line.TheVariants as lines
use Rattle.request_text.specs.declared.lines.LineFault.TheVariants as faults
use Rattle.request_text.specs.declared.phrases.Phrase.{Phrase}
use Rattle.request_text.specs.Phrases.{phrase_in, line_of, meant, said, read_line}
use Rattle.request_text.specs.Spelling.{IsPhrase}
use Rattle.request_text.proofs.PhraseReads.{phrase_reads}

-- no plain line has a line feed
plain_feed : (line : List ℕ) → is_plain line ≡ true → list_any is_feed line ≡ false
plain_feed [] h = refl
plain_feed (b ∷ bs) h =
    let parts = both (nat_le 32 b) (is_plain bs) h in
    let above : 32 ≤ b = leb-true 32 b parts.0 in
    ap (λ t. t || list_any is_feed bs) (not_true (is_feed b) (λ t. absurd (omega (arith, above, (Decides-eqb b 10).0 t)))) ∙ plain_feed bs parts.1

-- the line says this, and has no line feed
pub record Hears (np : NamedPolicy) (line : List ℕ) (l : Line) : Type 0 where
  pub read : read_line np Operator true line ≡ Ok l
  pub no_feed : has_no_feed line ≡ true

pub hears : (np : NamedPolicy) (ws : List (List ℕ)) (phrase : Phrase) (l : Line) → list_all is_word ws ≡ true → are_silent ws ≡ false → length (spaced ws) ≤ 512 → IsPhrase true ws phrase
    → line_of np Operator phrase ≡ Some l → Hears np (spaced ws) l
hears np ws phrase l solid loud short spelled means =
    let line = spaced ws in
    let words : words_of line ≡ ws = words_of_spaced ws solid in
    record {
      read =
          ap (λ b. if b then Err faults.Long else if are_silent (words_of line) then Ok lines.Silent else said np Operator (phrase_in true (words_of line))) (not_true (is_longer 512 line) (λ t. absurd (omega (arith, short, ltb-true 512 (length line) t))))
          ∙ ap (λ b. if b then Ok lines.Silent else said np Operator (phrase_in true (words_of line))) (ap are_silent words ∙ loud)
          ∙ ap (said np Operator) (ap (phrase_in true) words ∙ phrase_reads true ws phrase spelled) ∙ ap (meant np) means;
      no_feed = ap not (plain_feed line (plain_spaced ws (words_plain ws solid)));
    }

-- where the words are written so
pub hears_line : (np : NamedPolicy) (ws : List (List ℕ)) (line : List ℕ) (phrase : Phrase) (l : Line) → spaced ws ≡ line → list_all is_word ws ≡ true → are_silent ws ≡ false → length line ≤ 512
    → IsPhrase true ws phrase → line_of np Operator phrase ≡ Some l → Hears np line l
hears_line np ws line phrase l written solid loud short spelled means =
    subst (λ (t : List ℕ). Hears np t l) written (hears np ws phrase l solid loud (subst (λ (t : List ℕ). length t ≤ 512) (sym written) short) spelled means)
