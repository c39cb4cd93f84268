-- Each line of a made policy says what it should, and has no line feed.
use Rattle.std.proofs.Common.{◌≡◌, ℕ, ◌≤◌, ◌<◌, Bool, true, false, ◌&&◌, List, [], ◌∷◌, ◌++◌, length, Some, Ok, refl, sym, ap, ◌∙◌, subst, append_assoc, arith, codes, decimal, length-append}
use Rattle.std.proofs.lemmas.Fmt.{length-decimal-le}
use Rattle.gt_base.specs.Names.{is_name}
use Rattle.gt_base.specs.declared.policies.Form.TheVariants.{Span}
use Rattle.gt_base.specs.declared.limits.TheConstants.{LAST_MINUTE}
use Rattle.gtrbac_model.proofs.Elements.{and_true}
use Rattle.gt_text.specs.Words.{spaced}
use Rattle.policy_words.specs.declared.parts.NamedFluent.TheVariants as fluents
use Rattle.policy_words.specs.declared.parts.Item.TheVariants.{Event}
use Rattle.policy_words.specs.declared.sayings.EdgeKind.TheVariants.{Ia}
use Rattle.policy_words.specs.declared.versions.TextVersion.TheVariants.{Open, One}
use Rattle.policy_words.specs.Sayings.{SaidView, version, role, user, perm, period, edge, admin, opening, entry, trigger, said_words, is_saying}
use Rattle.policy_words.specs.Versions.{version_after}
use Rattle.policy_words.specs.Spelling.{IsPlaced}
use Rattle.policy_words.specs.Reading.{read_said}
use Rattle.policy_lines.specs.Laws.{has_no_feed}
use Rattle.policy_lines.proofs.CutLines.{one_line}
use Rattle.gt_text.proofs.Decimals.{number_text}
use Rattle.policy_lines.proofs.WrittenLines.{written_is_read}
use Rattle.policy_gen.specs.Texts.{one, two}
use Rattle.gen_laws.specs.Made.{role_named, user_named, perm_named, office_hours}
use Rattle.gen_laws.proofs.Names.{named_name}

-- in a text of version 1 the line says this, and does not change the version
pub record Says (s : SaidView) (line : List ℕ) : Type 0 where
  pub read : read_said One line ≡ Ok (Some s)
  pub stays : version_after One s ≡ One
  pub no_feed : has_no_feed line ≡ true

says_by : (s : SaidView) → is_saying s ≡ true → IsPlaced One s → version_after One s ≡ One → length (spaced (said_words s)) ≤ 4_096 → Says s (spaced (said_words s))
says_by s is placed stays short = record { read = written_is_read s One is placed short; stays = stays; no_feed = one_line s is }

says_line : (s : SaidView) (line : List ℕ) → is_saying s ≡ true → IsPlaced One s → version_after One s ≡ One → spaced (said_words s) ≡ line → length line ≤ 4_096 → Says s line
says_line s line is placed stays spelled short = subst (Says s) spelled (says_by s is placed stays (subst (λ (l : List ℕ). length l ≤ 4_096) (sym spelled) short))

digits : (i : ℕ) → i < 1_000 → length (decimal i) ≤ 3
digits i lt = length-decimal-le 3 i (omega arith) lt (omega arith)

one_short : (piece : List ℕ) (i : ℕ) → i < 1_000 → length piece ≤ 100 → length (one piece i) ≤ 103
one_short piece i lt short = omega (arith, length-append piece (decimal i), digits i lt, short)

two_short : (first second : List ℕ) (i j : ℕ) → i < 1_000 → j < 1_000 → length first ≤ 100 → length second ≤ 100 → length (two first i second j) ≤ 4_096
two_short first second i j lt_i lt_j short_i short_j = omega (arith, length-append (one first i) (one second j), one_short first i lt_i short_i, one_short second j lt_j short_j)

role_name_good : (i : ℕ) → i < 1_000 → is_name (role_named i) ≡ true
role_name_good i lt = named_name 114 refl i lt

module _ (i : ℕ) (lt : i < 1_000) where
  pub says_role : Says (role (role_named i)) (one (codes "role r") i)
  says_role = says_by (role (role_named i)) (and_true _ true (and_true _ true (role_name_good i lt) refl) refl) ((λ v. v), refl) refl (omega (arith, one_short (codes "role r") i lt (omega arith)))

  pub says_user : Says (user (user_named i)) (one (codes "user u") i)
  says_user = says_by (user (user_named i)) (and_true _ true (and_true _ true (named_name 117 refl i lt) refl) refl) ((λ v. v), refl) refl (omega (arith, one_short (codes "user u") i lt (omega arith)))

  pub says_perm : Says (perm (perm_named i)) (one (codes "perm p") i)
  says_perm = says_by (perm (perm_named i)) (and_true _ true (and_true _ true (named_name 112 refl i lt) refl) refl) ((λ v. v), refl) refl (omega (arith, one_short (codes "perm p") i lt (omega arith)))

  pub says_assigned : Says (opening (fluents.Assigned (user_named i) (role_named i))) (two (codes "assigned u") i (codes " r") i)
  says_assigned =
      says_line (opening (fluents.Assigned (user_named i) (role_named i))) _
      (and_true _ true (and_true _ true (and_true _ _ (named_name 117 refl i lt) (and_true _ true (role_name_good i lt) refl)) refl) refl) ((λ v. v), refl) refl
      (append_assoc (one (codes "assigned u") i) (32 ∷ []) (role_named i)) (two_short (codes "assigned u") (codes " r") i i lt lt (omega arith) (omega arith))

  pub says_granted : Says (opening (fluents.Granted (perm_named i) (role_named i))) (two (codes "granted p") i (codes " r") i)
  says_granted =
      says_line (opening (fluents.Granted (perm_named i) (role_named i))) _
      (and_true _ true (and_true _ true (and_true _ _ (named_name 112 refl i lt) (and_true _ true (role_name_good i lt) refl)) refl) refl) ((λ v. v), refl) refl
      (append_assoc (one (codes "granted p") i) (32 ∷ []) (role_named i)) (two_short (codes "granted p") (codes " r") i i lt lt (omega arith) (omega arith))

all_names : (a b : Bool) → a ≡ true → b ≡ true → (true && (a && true && true) && (b && true) && true && true && true) ≡ true
all_names true true p q = refl
all_names true false p q = cc
all_names false b p q = cc

fifty : decimal 50 ≡ codes "50"
fifty = sym (number_text (codes "50") 50 (omega arith) refl)

one_is : decimal 1 ≡ codes "1"
one_is = sym (number_text (codes "1") 1 (omega arith) refl)

-- what switches a role, and what it switches
abbrev pub handing : Bool → List ℕ → List ℕ → SaidView
handing on a b = trigger (Event (record { on = on; fluent = fluents.Enabled a }) ∷ []) (record { prio = 50; event = record { on = on; fluent = fluents.Enabled b } }) 0

module _ (i j : ℕ) (lt_i : i < 1_000) (lt_j : j < 1_000) where
  pub says_edge : Says (edge Ia false (role_named i) (role_named j)) (two (codes "edge ia weak r") i (codes " r") j)
  says_edge =
      says_line (edge Ia false (role_named i) (role_named j)) _
      (and_true _ true (and_true _ true (and_true _ _ (role_name_good i lt_i) (role_name_good j lt_j)) refl) refl) ((λ v. v), refl) refl
      (append_assoc (one (codes "edge ia weak r") i) (32 ∷ []) (role_named j)) (two_short (codes "edge ia weak r") (codes " r") i j lt_i lt_j (omega arith) (omega arith))

  is_handing : (on : Bool) → is_saying (handing on (role_named i) (role_named j)) ≡ true
  is_handing on = all_names (is_name (role_named i)) (is_name (role_named j)) (role_name_good i lt_i) (role_name_good j lt_j)

  -- the words with what stands for the priority
  abbrev words_with : List ℕ → List ℕ → List ℕ
  words_with verb prio = spaced (codes "when" ∷ verb ∷ role_named i ∷ codes "then" ∷ (prio ++ 58 ∷ verb) ∷ role_named j ∷ [])

  pub says_on : Says (handing true (role_named i) (role_named j)) (two (codes "when enable r") i (codes " then 50:enable r") j)
  says_on =
      says_line (handing true (role_named i) (role_named j)) (two (codes "when enable r") i (codes " then 50:enable r") j) (is_handing true) ((λ v. v), refl) refl
      (ap (words_with (codes "enable")) fifty ∙ append_assoc (one (codes "when enable r") i) (32 ∷ []) (codes "then 50:enable " ++ role_named j))
      (two_short (codes "when enable r") (codes " then 50:enable r") i j lt_i lt_j (omega arith) (omega arith))

  pub says_off : Says (handing false (role_named i) (role_named j)) (two (codes "when disable r") i (codes " then 50:disable r") j)
  says_off =
      says_line (handing false (role_named i) (role_named j)) (two (codes "when disable r") i (codes " then 50:disable r") j) (is_handing false) ((λ v. v), refl) refl
      (ap (words_with (codes "disable")) fifty ∙ append_assoc (one (codes "when disable r") i) (32 ∷ []) (codes "then 50:disable " ++ role_named j))
      (two_short (codes "when disable r") (codes " then 50:disable r") i j lt_i lt_j (omega arith) (omega arith))

pub says_admin : Says (admin (user_named 1)) (codes "admin u1")
says_admin =
    says_line (admin (user_named 1)) (codes "admin u1") (and_true _ true (and_true _ true (named_name 117 refl 1 (omega arith)) refl) refl) ((λ v. v), refl) refl
    (ap (λ d. codes "admin u" ++ d) one_is) (omega arith)

abbrev pub hours_entry : List ℕ → SaidView
hours_entry r = entry Span (codes "hours") (record { prio = 50; event = record { on = true; fluent = fluents.Enabled r } })

pub says_entry : Says (hours_entry (role_named 1)) (codes "span hours 50:enable r1")
says_entry =
    says_line (hours_entry (role_named 1)) (codes "span hours 50:enable r1") (and_true _ true (and_true _ true (and_true _ true (role_name_good 1 (omega arith)) refl) refl) refl) ((λ v. v), refl) refl
    (ap (λ p. spaced (codes "span" ∷ codes "hours" ∷ (p ++ 58 ∷ codes "enable") ∷ role_named 1 ∷ [])) fifty ∙ ap (λ d. codes "span hours 50:enable r" ++ d) one_is) (omega arith)

-- the first line
pub reads_version : read_said Open (codes "policy 1") ≡ Ok (Some (version 1))
reads_version = refl

pub says_period : Says (period (codes "hours") 0 LAST_MINUTE office_hours.expr) (codes "period hours * * all.Days + {9}.Hours > 8.Hours")
says_period = record { read = refl; stays = refl; no_feed = refl }
