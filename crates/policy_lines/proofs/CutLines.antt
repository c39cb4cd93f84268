-- Lines that are written with their line feeds are the lines of their text.
use Rattle.std.proofs.Common.{◌≡◌, ℕ, ◌≤◌, true, false, cond, not, ◌&&◌, ◌||◌, List, [], ◌∷◌, get_or, refl, sym, ◌∙◌, ap, arith, append_assoc}
use Rattle.std.specs.Prelude.{nat_le}
use Rattle.std.specs.List.{list_all, list_any, slice_split, onto_first, All}
use Rattle.std.proofs.lemmas.List.Splits.{slice_split_at}
use Rattle.std.proofs.lemmas.List.Folds.{list_any_at}
use Rattle.std.proofs.lemmas.Bool.{false≢true}
use Rattle.std.proofs.lemmas.Bool.Decides.{Decides-eqb}
use borrow.Author.Tests.{leb-true}
use Rattle.gt_text.specs.Lines.{lines_of, is_feed, but_empty_last}
use Rattle.gt_text.specs.Words.{spaced, as_text}
use Rattle.gt_base.specs.Names.{is_name}
use Rattle.gt_base.specs.declared.limits.TheConstants.{LAST_MINUTE}
use Rattle.gtrbac_model.specs.Valid.{is_expr}
use Rattle.policy_words.specs.Sayings.{SaidView, version, role, user, perm, period, limit, edge, cap, admin, opening, entry, trigger, said_words, is_formed, is_bounded, is_bodied, is_saying}
use Rattle.policy_lines.specs.Laws.{has_no_feed}
use Rattle.policy_lines.specs.Plain.{is_plain}
use Rattle.policy_lines.proofs.Truths.{both, not_true}
use Rattle.policy_lines.proofs.SpacedWords.{plain_spaced, words_plain}
use Rattle.policy_lines.proofs.SolidWords.{solid_words}
use Rattle.policy_lines.proofs.WrittenLines.{plain_line}

no_feeds : (line : List ℕ) → has_no_feed line ≡ true → All (λ b. is_feed b ≡ false) line
no_feeds line h k d l = not_true (is_feed (get_or line k d)) (λ t. false≢true (sym (ap not (list_any_at is_feed line k d l t)) ∙ h))

onto_kept : (part : List ℕ) (x : ℕ) (parts : List (List ℕ)) → but_empty_last (part ∷ onto_first x parts) ≡ part ∷ but_empty_last (onto_first x parts)
onto_kept part x [] = refl
onto_kept part x (next ∷ more) = refl

-- a line that was cut off stays
line_kept : (line text : List ℕ) → but_empty_last (line ∷ slice_split is_feed text) ≡ line ∷ but_empty_last (slice_split is_feed text)
line_kept line [] = refl
line_kept line (x ∷ xs) =
    elim (is_feed x) as (λ b. but_empty_last (line ∷ cond b ([] ∷ slice_split is_feed xs) (onto_first x (slice_split is_feed xs)))
    ≡ line ∷ but_empty_last (cond b ([] ∷ slice_split is_feed xs) (onto_first x (slice_split is_feed xs)))) [
      | true ↦ refl
      | false ↦ onto_kept line x (slice_split is_feed xs)
    ]

pub cut_lines : (lines : List (List ℕ)) → list_all has_no_feed lines ≡ true → lines_of (as_text lines) ≡ lines
cut_lines [] h = refl
cut_lines (line ∷ lines) h =
    let parts = both (has_no_feed line) (list_all has_no_feed lines) h in
    ap lines_of (append_assoc line (10 ∷ []) (as_text lines)) ∙ ap but_empty_last (slice_split_at is_feed line 10 (as_text lines) (no_feeds line parts.0) refl)
    ∙ line_kept line (as_text lines) ∙ ap (λ ls. line ∷ ls) (cut_lines lines parts.1)

-- no plain line has a line feed
plain_feed : (line : List ℕ) → is_plain line ≡ true → list_any is_feed line ≡ false
plain_feed [] h = refl
plain_feed (b ∷ bs) h =
    let parts = both (nat_le 32 b) (is_plain bs) h in
    let above : 32 ≤ b = leb-true 32 b parts.0 in
    ap (λ t. t || list_any is_feed bs) (not_true (is_feed b) (λ t. absurd (omega (arith, above, (Decides-eqb b 10).0 t)))) ∙ plain_feed bs parts.1

plain_said : (said : SaidView) → is_formed said ≡ true → is_plain (spaced (said_words said)) ≡ true
plain_said (version n) h = plain_spaced (said_words (version n)) (words_plain (said_words (version n)) (solid_words (version n) h refl))
plain_said (role n) h = plain_spaced (said_words (role n)) (words_plain (said_words (role n)) (solid_words (role n) h refl))
plain_said (user n) h = plain_spaced (said_words (user n)) (words_plain (said_words (user n)) (solid_words (user n) h refl))
plain_said (perm n) h = plain_spaced (said_words (perm n)) (words_plain (said_words (perm n)) (solid_words (perm n) h refl))
plain_said (period n f l e) h =
    let h3 = both (is_name n && nat_le f LAST_MINUTE && nat_le l LAST_MINUTE) (is_expr e) h in
    let h2 = both (is_name n && nat_le f LAST_MINUTE) (nat_le l LAST_MINUTE) h3.0 in
    plain_line n f l e (both (is_name n) (nat_le f LAST_MINUTE) h2.0).0 h3.1
plain_said (limit n prio c most during) h =
    plain_spaced (said_words (limit n prio c most during)) (words_plain (said_words (limit n prio c most during)) (solid_words (limit n prio c most during) h refl))
plain_said (edge kind strong s j) h = plain_spaced (said_words (edge kind strong s j)) (words_plain (said_words (edge kind strong s j)) (solid_words (edge kind strong s j) h refl))
plain_said (cap kind r n) h = plain_spaced (said_words (cap kind r n)) (words_plain (said_words (cap kind r n)) (solid_words (cap kind r n) h refl))
plain_said (admin u) h = plain_spaced (said_words (admin u)) (words_plain (said_words (admin u)) (solid_words (admin u) h refl))
plain_said (opening f) h = plain_spaced (said_words (opening f)) (words_plain (said_words (opening f)) (solid_words (opening f) h refl))
plain_said (entry f p hd) h = plain_spaced (said_words (entry f p hd)) (words_plain (said_words (entry f p hd)) (solid_words (entry f p hd) h refl))
plain_said (trigger items hd d) h = plain_spaced (said_words (trigger items hd d)) (words_plain (said_words (trigger items hd d)) (solid_words (trigger items hd d) h refl))

pub one_line : (said : SaidView) → is_saying said ≡ true → has_no_feed (spaced (said_words said)) ≡ true
one_line said h = ap not (plain_feed (spaced (said_words said)) (plain_said said (both (is_formed said) (is_bounded said) (both (is_formed said && is_bounded said) (is_bodied said) h).0).0))
