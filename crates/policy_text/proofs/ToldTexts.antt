-- The parts of reading are the reading of a policy.
use Rattle.std.proofs.Common.{◌≡◌, ℕ, false, List, ◌++◌, inl, inr, refl, sym, ap, ◌∙◌}
use Rattle.std.proofs.lemmas.Bool.{false≢true}
use Rattle.policy_text.specs.declared.faults.TextFault.{TextFault}
use Rattle.policy_text.specs.Faults.{IsTextFault, is_memory}
use Rattle.std.specs.Prelude.{Ok, Err, codes}
use Rattle.gt_text.specs.Lines.{lines_of}
use Rattle.policy_words.specs.declared.faults.TextKind.{TextKind}
use Rattle.policy_words.specs.Sayings.{SaidView}
use Rattle.policy_words.specs.declared.versions.TextVersion.TheVariants.{Open}
use Rattle.policy_words.specs.Reading.{Numbered, read_lines}
use Rattle.policy_words.specs.Naming.{Names, NamedPolicy}
use Rattle.policy_words.specs.Making.{names_of}
use Rattle.policy_words.specs.LinesTogether.{LinesFault, unknown, twice, many, cycle, said_in, build}
use Rattle.policy_words.specs.PolicyRead.{of_line, of_book, built, by_lines, policy_read, book_text, at_line, text_kind_text}
use Rattle.policy_book.specs.declared.faults.BookFault.{BookFault}
use Rattle.policy_book.specs.declared.faults.BookFault.TheVariants.{Unknown, Twice, TooMany, HierarchyCycle, Memory}
use Rattle.policy_book.specs.Faults.{IsFault, seniors}
use Rattle.policy_text.specs.FaultTexts.{text_of_book, joined}
use Rattle.policy_text.proofs.Joining.{joined_is}
use Rattle.policy_text.specs.Texts.{IsToldFault, IsBookFault, is_want}

module _ (text : List ℕ) where
  pub is_built : (ss : List (Numbered SaidView)) (np : NamedPolicy) → read_lines Open 1 (lines_of text) ≡ Ok ss → build ss ≡ Ok np → policy_read text ≡ Ok np
  is_built ss np r b = ap by_lines r ∙ ap (built (names_of (said_in ss))) b

  pub text_fault : (t : Numbered TextKind) (told : List ℕ) → read_lines Open 1 (lines_of text) ≡ Err t → told ≡ at_line t.line (text_kind_text t.it) → IsToldFault text told
  text_fault t told r e = record { fault = of_line t; is = ap by_lines r; told_so = e }

  pub line_fault : (f : TextFault) (told : List ℕ) → is_memory f.kind ≡ false → IsTextFault (read_lines Open 1 (lines_of text)) f → told ≡ at_line f.line (text_kind_text f.kind) → IsToldFault text told
  line_fault f told e (inl m) is = absurd (false≢true (sym e ∙ ap (λ (g : TextFault). is_memory g.kind) m))
  line_fault f told e (inr r) is = text_fault (record { line = f.line; it = f.kind }) told r is

  module _ (ss : List (Numbered SaidView)) (read : read_lines Open 1 (lines_of text) ≡ Ok ss) where
    faulted : (t : LinesFault) (told : List ℕ) → build ss ≡ Err t → told ≡ book_text (names_of (said_in ss)) t → IsToldFault text told
    faulted t told b e = record { fault = of_book (names_of (said_in ss)) t; is = ap by_lines read ∙ ap (built (names_of (said_in ss))) b; told_so = e }

    by_fault : (f : BookFault) → is_want f ≡ false → IsFault ss f → IsToldFault text (text_of_book f)
    by_fault (Unknown n) e h = faulted (unknown n) _ h refl
    by_fault (Twice n) e h = faulted (twice n) _ h refl
    by_fault (TooMany n k) e h = faulted (many n k) _ h refl
    by_fault (HierarchyCycle es names) e h =
        let ns : Names = names_of (said_in ss) in
        faulted (cycle es.items) _ h.0 (ap (λ (t : List ℕ). codes "policy: cycle " ++ t ++ codes "\n") (ap joined h.1 ∙ joined_is (seniors ns es.items)))
    by_fault Memory e h = absurd (cc e)

  pub book_fault : (f : BookFault) → is_want f ≡ false → IsBookFault text f → IsToldFault text (text_of_book f)
  book_fault f e h = by_fault h.said h.read f e h.is_fault
