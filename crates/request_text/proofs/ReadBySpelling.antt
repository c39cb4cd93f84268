-- Reading a line and the spellings of phrases say the same.
use Rattle.std.proofs.Common.{◌≡◌, ℕ, ◌<◌, Bool, true, false, cond, List, length, Option, Some, None, Result, Ok, Err, refl, sym, ◌∙◌, ap, subst, arith, ◌↔◌}
use Rattle.std.proofs.lemmas.Bool.{lt-ltb, ltb-true, ltb-false}
use Rattle.gt_base.specs.declared.requests.Actor.{Actor}
use Rattle.gt_text.specs.Lines.{is_longer}
use Rattle.gt_text.specs.Words.{words_of, are_silent}
use Rattle.policy_words.specs.Wording.{◌>>=◌}
use Rattle.policy_words.specs.Spelling.{IsLoud, IsSilent}
use Rattle.policy_words.specs.Naming.{NamedPolicy}
use Rattle.policy_lines.proofs.Truths.{not_true, none_some}
use Rattle.request_text.specs.declared.lines.Line.{Line}
use Rattle.request_text.specs.declared.lines.Line.TheVariants as lines
use Rattle.request_text.specs.declared.lines.LineFault.{LineFault}
use Rattle.request_text.specs.declared.lines.LineFault.TheVariants as faults
use Rattle.request_text.specs.declared.phrases.Phrase.{Phrase}
use Rattle.request_text.specs.declared.phrases.Phrase.TheVariants.{At, Be, Ask}
use Rattle.gt_base.specs.declared.requests.Request.{Request}
use Rattle.request_text.specs.Phrases.{phrase_in, request_of, actor_of, line_of, meant, said, read_line}
use Rattle.request_text.specs.Spelling.{IsPhrase, GivesLine, IsRead}
use Rattle.request_text.proofs.PhraseReads.{phrase_reads}
use Rattle.request_text.proofs.PhraseWords.{phrase_is}

module _ (np : NamedPolicy) (opening : Actor) (script : Bool) (line : List ℕ) where
  -- a phrase is never silent
  loud_line : (phrase : Phrase) → line_of np opening phrase ≡ Some lines.Silent → ⊥
  loud_line (At t) e = cc
  loud_line (Be u) e = by (actor_of np opening u) e
    where
      by : (o : Option Actor) → (do actor ← o; Some (lines.Be actor)) ≡ Some lines.Silent → ⊥
      by None e = cc
      by (Some a) e = cc
  loud_line (Ask r) e = by (request_of np r) e
    where
      by : (o : Option Request) → (do request ← o; Some (lines.Ask request)) ≡ Some lines.Silent → ⊥
      by None e = cc
      by (Some a) e = cc

  given : IsLoud 512 line → (phrase : Phrase) → IsPhrase script (words_of line) phrase → (o : Option Line) → line_of np opening phrase ≡ o → IsRead np opening script line (meant np o)
  given loud phrase is None e = (loud, (phrase, is, e))
  given loud phrase is (Some lines.Silent) e = absurd (loud_line phrase e)
  given loud phrase is (Some (lines.At t)) e = (loud, (phrase, is, e))
  given loud phrase is (Some (lines.Be a)) e = (loud, (phrase, is, e))
  given loud phrase is (Some (lines.Ask r)) e = (loud, (phrase, is, e))

  said_right : IsLoud 512 line → (o : Option Phrase) → phrase_in script (words_of line) ≡ o → IsRead np opening script line (said np opening o)
  said_right loud None e = (loud, λ phrase is. none_some (sym e ∙ phrase_reads script (words_of line) phrase is))
  said_right loud (Some phrase) e = given loud phrase (phrase_is script (words_of line) phrase e) (line_of np opening phrase) refl

  sound : IsRead np opening script line (read_line np opening script line)
  sound = by_length (is_longer 512 line) refl
    where
      by_silence : is_longer 512 line ≡ false → (b : Bool) → are_silent (words_of line) ≡ b
          → IsRead np opening script line (cond b (Ok lines.Silent) (said np opening (phrase_in script (words_of line))))
      by_silence short true e = record { short = ltb-false 512 (length line) short; silent = e }
      by_silence short false e = said_right (record { short = ltb-false 512 (length line) short; loud = e }) (phrase_in script (words_of line)) refl

      by_length : (b : Bool) → is_longer 512 line ≡ b
          → IsRead np opening script line (cond b (Err faults.Long) (cond (are_silent (words_of line)) (Ok lines.Silent) (said np opening (phrase_in script (words_of line)))))
      by_length true e = ltb-true 512 (length line) e
      by_length false e = by_silence e (are_silent (words_of line)) refl

  by_length_of : Bool → Bool → Result Line LineFault
  by_length_of long silent = cond long (Err faults.Long) (cond silent (Ok lines.Silent) (said np opening (phrase_in script (words_of line))))

  read_as : (long silent : Bool) → is_longer 512 line ≡ long → are_silent (words_of line) ≡ silent → read_line np opening script line ≡ by_length_of long silent
  unfolding by_length_of
  read_as long silent e f = ap (λ b. by_length_of b (are_silent (words_of line))) e ∙ ap (λ b. by_length_of long b) f

  loud_read : IsLoud 512 line → read_line np opening script line ≡ said np opening (phrase_in script (words_of line))
  unfolding by_length_of
  loud_read loud = read_as false false (not_true (is_longer 512 line) (λ t. absurd (omega (arith, loud.short, ltb-true 512 (length line) t)))) loud.loud

  silent_read : IsSilent 512 line → read_line np opening script line ≡ Ok lines.Silent
  unfolding by_length_of
  silent_read is = read_as false true (not_true (is_longer 512 line) (λ t. absurd (omega (arith, is.short, ltb-true 512 (length line) t)))) is.silent

  pub long_read : 512 < length line → read_line np opening script line ≡ Err faults.Long
  unfolding by_length_of
  long_read long = read_as true (are_silent (words_of line)) (lt-ltb 512 (length line) long) refl

  gives_read : (o : Option Line) → IsLoud 512 line → GivesLine np opening script line o → read_line np opening script line ≡ meant np o
  gives_read o loud (phrase, is, e) = loud_read loud ∙ ap (said np opening) (phrase_reads script (words_of line) phrase is) ∙ ap (meant np) e

  no_phrase : ((phrase : Phrase) → IsPhrase script (words_of line) phrase → ⊥) → phrase_in script (words_of line) ≡ None
  no_phrase none = by (phrase_in script (words_of line)) refl
    where
      by : (o : Option Phrase) → phrase_in script (words_of line) ≡ o → phrase_in script (words_of line) ≡ None
      by None e = e
      by (Some phrase) e = absurd (none phrase (phrase_is script (words_of line) phrase e))

  complete : (r : Result Line LineFault) → IsRead np opening script line r → read_line np opening script line ≡ r
  complete (Ok lines.Silent) is = silent_read is
  complete (Ok (lines.At t)) (loud, gives) = gives_read (Some (lines.At t)) loud gives
  complete (Ok (lines.Be a)) (loud, gives) = gives_read (Some (lines.Be a)) loud gives
  complete (Ok (lines.Ask r)) (loud, gives) = gives_read (Some (lines.Ask r)) loud gives
  complete (Err faults.Long) long = long_read long
  complete (Err faults.Syntax) (loud, none) = loud_read loud ∙ ap (said np opening) (no_phrase none)
  complete (Err faults.Name) (loud, gives) = gives_read None loud gives

  pub lines_are_read : (r : Result Line LineFault) → (read_line np opening script line ≡ r) ↔ IsRead np opening script line r
  lines_are_read r = ((λ e. subst (IsRead np opening script line) e sound), complete r)
