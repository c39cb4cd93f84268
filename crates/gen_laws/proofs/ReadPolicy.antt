-- The text of a made policy is read as the policy that it stands for.
use Rattle.std.proofs.Common.{◌≡◌, ℕ, ◌≤◌, cond, List, ◌∷◌, Ok, refl, ap, ◌∙◌, subst, arith, codes, ◌-◌}
use Rattle.std.specs.List.{list_all}
use Rattle.gtrbac_model.proofs.Elements.{and_true}
use Rattle.gtrbac_model.specs.Safety.{IsSafe}
use Rattle.gt_text.specs.Lines.{lines_of}
use Rattle.gt_text.specs.Words.{as_text}
use Rattle.policy_words.specs.declared.versions.TextVersion.TheVariants.{Open}
use Rattle.policy_words.specs.Sayings.{SaidView, version}
use Rattle.policy_words.specs.Naming.{NamedPolicy}
use Rattle.policy_words.specs.Making.{names_of}
use Rattle.policy_words.specs.Reading.{and_then, read_lines}
use Rattle.policy_words.specs.LinesTogether.{said_in, build}
use Rattle.policy_words.specs.Canonical.{canonical_lines}
use Rattle.policy_words.specs.PolicyRead.{policy_read, by_lines, built}
use Rattle.policy_words.specs.Valid.{IsWellFormed}
use Rattle.policy_book.specs.Laws.{numbered_from}
use Rattle.policy_lines.specs.Laws.{has_no_feed}
use Rattle.policy_lines.proofs.CutLines.{cut_lines}
use Rattle.policy_text.proofs.Sections.{joined}
use Rattle.policy_text.proofs.CanonicalSections as canonical
use Rattle.policy_text.proofs.Canonical.{canonical_is_built, sections_behind}
use Rattle.policy_text.proofs.LineByLine.{said_line}
use Rattle.policy_gen.specs.Texts.{count_of, policy_lines, policy_text}
use Rattle.gen_laws.specs.Made.{made_of, made_policy}
use Rattle.gen_laws.proofs.Kept.{first_version}
use Rattle.gen_laws.proofs.Levels.{passing_is_safe}
use Rattle.gen_laws.proofs.Lines.{feedless, lines_read}
use Rattle.gen_laws.proofs.Sections.{body, body_said, lines_are}
use Rattle.gen_laws.proofs.Spelled.{reads_version}
use Rattle.gen_laws.proofs.WellFormed.{is_well_formed}

module _ (k : ℕ) (low : 1 ≤ k) (few : k ≤ 200) where
  abbrev np : NamedPolicy
  np = made_of k

  abbrev behind : List SaidView
  behind = joined (sections_behind np)

  cut : lines_of (as_text (policy_lines k)) ≡ codes "policy 1" ∷ body k
  cut =
      cut_lines (policy_lines k) (ap (list_all has_no_feed) (lines_are k) ∙ and_true (has_no_feed (codes "policy 1")) _ refl (feedless behind (body k) (body_said k low few)))
      ∙ lines_are k

  read : read_lines Open 1 (codes "policy 1" ∷ body k) ≡ Ok (numbered_from 1 (version 1 ∷ behind))
  read =
      said_line Open 1 (codes "policy 1") (body k) (version 1) reads_version
      ∙ ap (and_then (record { line = 1; it = version 1 })) (lines_read behind (body k) 2 (body_said k low few))

  same : canonical_lines np ≡ version 1 ∷ behind
  same = canonical.lines_joined np ∙ ap (λ b. version (cond b 1 2) ∷ behind) (first_version k)

  made_again : build (numbered_from 1 (version 1 ∷ behind)) ≡ Ok np
  made_again = subst (λ (ss : List SaidView). build (numbered_from 1 ss) ≡ Ok np) same (canonical_is_built np (is_well_formed k low few))

  pub is_read : policy_read (as_text (policy_lines k)) ≡ Ok np
  is_read =
      ap (λ (ls : List (List ℕ)). by_lines (read_lines Open 1 ls)) cut ∙ ap by_lines read
      ∙ ap (built (names_of (said_in (numbered_from 1 (version 1 ∷ behind))))) made_again

pub count_low : (size : ℕ) → 1 ≤ size → 1 ≤ count_of size
count_low size le = omega arith

pub count_few : (size : ℕ) → count_of size ≤ 200
count_few size = omega arith

pub policy_is_read : (size : ℕ) → 1 ≤ size → policy_read (policy_text size) ≡ Ok (made_policy size)
unfolding policy_text
policy_is_read size le = is_read (count_of size) (count_low size le) (count_few size)

pub policy_is_good : (size : ℕ) → 1 ≤ size → IsWellFormed (made_policy size)
policy_is_good size le = is_well_formed (count_of size) (count_low size le) (count_few size)

pub policy_is_safe : (size : ℕ) → IsSafe (made_policy size).policy.triggers
policy_is_safe size = passing_is_safe 0 (count_of size - 1)
