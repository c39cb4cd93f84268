-- The lines of a policy that say something, as they are kept.
use Rattle.std.specs.Prelude.{◌≡◌, ℕ, ◌+◌, Bool, true, false, not, ◌&&◌, List, [], ◌∷◌, length, nat_le, nat_lt, ◌≤◌, IsTrue, refl}
use Rattle.std.specs.List.{list_all}
use Rattle.std.specs.Coded.{Coded, code_by, coded×, coded_ℕ}
use Rattle.gt_base.specs.declared.limits.TheConstants.{MAX_NUMBER}
use Rattle.policy_words.specs.contracts.sayings.Said as said
use Rattle.policy_words.specs.declared.sayings.Said.{Said}
use Rattle.policy_words.specs.declared.sayings.Said.TheVariants.{Version, Role, User, Perm, Period, Limit, Edge, Cap, Admin, Opening, Entry, When}
use Rattle.policy_words.specs.Sayings.{SaidView, version, role, user, perm, period, limit, edge, cap, admin, opening, entry, trigger, is_saying, names_edge}
use Rattle.policy_words.specs.Reading.{Numbered}
use Rattle.policy_words.specs.Versions.{is_allowed}
use Rattle.policy_words.specs.Making.{is_second}
use Rattle.policy_words.specs.Seen.{seen_said}

-- a saying is stored as a line's, whose list has no room
abbrev pub bare_said : SaidView → Said
bare_said (version n) = Version n
bare_said (role n) = Role n
bare_said (user n) = User n
bare_said (perm n) = Perm n
bare_said (period n first last e) = Period n first last e
bare_said (limit n prio c most during) = Limit n prio c most during
bare_said (edge kind strong s j) = Edge kind strong s j
bare_said (cap kind r n) = Cap kind r n
bare_said (admin u) = Admin u
bare_said (opening f) = Opening f
bare_said (entry f p h) = Entry f p h
bare_said (trigger items h d) = When (record { items = items; spare = 0 }) h d

abbrev pub seen_bare : (s : SaidView) → seen_said (bare_said s) ≡ s
seen_bare (version n) = refl
seen_bare (role n) = refl
seen_bare (user n) = refl
seen_bare (perm n) = refl
seen_bare (period n first last e) = refl
seen_bare (limit n prio c most during) = refl
seen_bare (edge kind strong s j) = refl
seen_bare (cap kind r n) = refl
seen_bare (admin u) = refl
seen_bare (opening f) = refl
seen_bare (entry f p h) = refl
seen_bare (trigger items h d) = refl

abbrev pub saying_code : Coded SaidView
saying_code = code_by Said said.the_row.coded bare_said seen_said seen_bare

abbrev pub numbered_code : Coded (Numbered SaidView)
numbered_code = code_by (ℕ × SaidView) (coded× coded_ℕ saying_code) (λ s. (s.line, s.it))
    (λ p. record { line = p.0; it = p.1 }) (λ _. refl)

-- each number is below n
abbrev pub are_before : ℕ → List (Numbered SaidView) → Bool
are_before n ss = list_all (λ s. nat_lt s.line n) ss

-- the numbers rise, from n on
abbrev pub rise_from : ℕ → List (Numbered SaidView) → Bool
rise_from n [] = true
rise_from n (s ∷ ss) = nat_le n s.line && rise_from (s.line + 1) ss

abbrev pub are_sayings : List (Numbered SaidView) → Bool
are_sayings ss = list_all (λ s. is_saying s.it) ss

abbrev pub is_version : SaidView → Bool
is_version (version n) = true
is_version _ = false

-- a line after the first has no version, and names an edge only where the first has version 2
abbrev pub follows : SaidView → SaidView → Bool
follows first s = not (is_version s) && is_allowed (is_second first) s

-- the saying may stand after these
abbrev pub is_placed : List (Numbered SaidView) → SaidView → Bool
is_placed [] s = not (names_edge s)
is_placed (first ∷ more) s = follows first.it s

abbrev pub are_placed : List (Numbered SaidView) → Bool
are_placed [] = true
are_placed (first ∷ more) = not (names_edge first.it) && list_all (λ s. follows first.it s.it) more

-- what the lines kept for a policy keep
pub record AreParts (ss : List (Numbered SaidView)) : Type 0 where
  pub said : IsTrue (are_sayings ss)
  pub rise : IsTrue (rise_from 0 ss)
  pub placed : IsTrue (are_placed ss)
  pub few : length ss ≤ MAX_NUMBER
