-- A log that leaves page after page.
use Rattle.std.proofs.Common.{◌≡◌, ℕ, ◌+◌, ◌<◌, ◌≤◌, List, [], ◌++◌, length, take, flat_map, Option, inl, inr, sym, ap, subst, ◌∙◌, arith, append_assoc, length-append}
use Rattle.std.specs.Io.KnownBytes.{Appends}
use Rattle.std.proofs.KnownBytes.{Appends-trans}
use Rattle.std.proofs.Math.Seq.{take-append-add}
use Rattle.std.proofs.lemmas.List.{take-append-le}
use Rattle.gt_base.specs.Roomy.{Roomy}
use Rattle.gt_base.specs.declared.requests.Entry.{Entry}
use Rattle.gt_io.specs.Causes.{Rose, AppendsPart}
use Rattle.policy_words.specs.Naming.{NamedPolicy}
use Rattle.request_text.specs.Replies.{entry_line, log_text}
use Rattle.request_text.specs.Rooms.{Puts}
use Rattle.core_machine.specs.Books.{BookView}
use Rattle.gtrbac_daemon.specs.Runs.{or_failed, IsWritten}
use Rattle.gtrbac_daemon.specs.Pages.{text_from}

-- a proper prefix of the first text is one of both
pub part_first : (a b : Option (List ℕ)) (w r : List ℕ) → AppendsPart a b w → AppendsPart a b (w ++ r)
part_first a b w r p =
    let low : p.0 < length w = p.1 in
    let within : p.0 ≤ length w = omega (arith, low) in
    (p.0, omega (arith, low, length-append w r), subst (Appends a b) (sym (take-append-le p.0 w r within)) p.2)

-- and so is the first text with a proper prefix of the second
pub part_second : (a b c : Option (List ℕ)) (w r : List ℕ) → Appends a b w → AppendsPart b c r → AppendsPart a c (w ++ r)
part_second a b c w r first p =
    let low : p.0 < length r = p.1 in
    (length w + p.0, omega (arith, low, length-append w r), subst (Appends a c) (sym (take-append-add w r p.0)) (Appends-trans a b c w (take p.0 r) first p.2))

-- behind the birth's line there is room for the line of an entry
pub spare_left : (old new : Roomy ℕ) (line : List ℕ) → Puts old new line → old.spare ≡ 65_536 → length line ≡ 22 → 33_584 ≤ new.spare
spare_left old new line puts all long = let left = puts.spare in omega (arith, left, all, long)

module _ (np : NamedPolicy) where
  -- a further page, of an empty one
  pub page_more : (whole text more page : List ℕ) (left left' : List Entry) → whole ≡ text_from np text left → page ≡ [] → text_from np page left ≡ text_from np more left'
      → whole ≡ text_from np (text ++ more) left'
  page_more whole text more page left left' so_far empty all =
      so_far ∙ ap (λ (l : List ℕ). text ++ l) (ap (λ (l : List ℕ). text_from np l left) (sym empty) ∙ all) ∙ sym (append_assoc text more (flat_map (entry_line np) left'))

  pub page_part : (whole text page : List ℕ) (left : List Entry) (a b c : Option (List ℕ)) → whole ≡ text_from np text left → page ≡ [] → Appends a b text → AppendsPart b c (text_from np page left)
      → AppendsPart a c whole
  page_part whole text page left a b c so_far empty first part =
      subst (AppendsPart a c) (sym so_far)
      (part_second a b c text (flat_map (entry_line np) left) first (subst (λ (l : List ℕ). AppendsPart b c (text_from np l left)) empty part))

  -- the text behind the birth's line is the log
  pub log_is : (birth : ℕ) (old new : Roomy ℕ) (line : List ℕ) (es : List Entry) → Puts old new line → old.items ≡ [] → line ++ flat_map (entry_line np) es ≡ log_text np birth es → text_from np new.items es ≡ log_text np birth es
  log_is birth old new line es puts empty log = ap (λ (l : List ℕ). text_from np l es) (puts.items ∙ ap (λ (l : List ℕ). l ++ line) empty) ∙ log

-- the log of the book b, which is l
pub log_of : (p : NamedPolicy) (t : ℕ) (es : List Entry) (b l : BookView) → p ≡ b.named → t ≡ b.birth → es ≡ b.entries → b ≡ l → log_text p t es ≡ log_text l.named l.birth l.entries
log_of p t es b l named born entries same = (λ i. log_text (named i) (born i) (entries i)) ∙ ap (λ (c : BookView). log_text c.named c.birth c.entries) same

pub all_written : (due s : ℕ) (text log : List ℕ) (a b : Option (List ℕ)) (m n : ℕ) → text ≡ log → s ≡ due → Appends a b text → n ≡ m → IsWritten due log s a b m n
all_written due s text log a b m n same is bytes kept = inl (is, subst (Appends a b) same bytes, kept)

pub part_written : (due s : ℕ) (text log : List ℕ) (a b : Option (List ℕ)) (m n : ℕ) → text ≡ log → s ≡ or_failed due → AppendsPart a b text → Rose m n → IsWritten due log s a b m n
part_written due s text log a b m n same is bytes rose = inr (is, rose, subst (AppendsPart a b) same bytes)
