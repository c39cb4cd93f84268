-- The canonical text of a policy is read as the policy.
use Rattle.std.proofs.Common.{◌≡◌, ℕ, ◌+◌, ◌≤◌, Bool, true, false, not, cond, nat_eq, ◌||◌, List, [], ◌∷◌, map, length, refl, sym, ap, ◌∙◌, subst}
use Rattle.std.specs.Prelude.{Ok, All, IsTrue}
use Rattle.std.specs.List.{list_all, AllByRecursion}
use Rattle.std.proofs.lemmas.List.Elements.{recursion_from_All}
use Rattle.gtrbac_model.proofs.Elements.{and_true, both_true}
use Rattle.gt_text.specs.Lines.{lines_of}
use Rattle.gt_text.specs.Words.{spaced}
use Rattle.policy_words.specs.Sayings.{SaidView, version, role, user, perm, period, limit, edge, cap, admin, opening, entry, trigger, said_words, is_saying}
use Rattle.policy_words.specs.Reading.{and_then, read_lines}
use Rattle.policy_words.specs.declared.versions.TextVersion.{TextVersion}
use Rattle.policy_words.specs.declared.versions.TextVersion.TheVariants.{Open, One, Two}
use Rattle.policy_words.specs.Versions.{is_open, has_edges, settled_version, version_after, is_allowed}
use Rattle.policy_words.specs.Spelling.{IsFirstLine, IsPlaced}
use Rattle.policy_words.specs.Naming.{NamedPolicy}
use Rattle.policy_words.specs.Making.{names_of}
use Rattle.policy_words.specs.LinesTogether.{said_in}
use Rattle.policy_words.specs.Canonical.{canonical_lines, canonical_text, is_version_one, version_of}
use Rattle.policy_words.specs.PolicyRead.{policy_read, by_lines, built}
use Rattle.policy_words.specs.Valid.{IsWellFormed}
use Rattle.policy_book.specs.Said.{is_version}
use Rattle.policy_book.specs.Laws.{numbered_from}
use Rattle.policy_text.proofs.Sections.{joined}
use Rattle.policy_text.proofs.CanonicalSections.{lines_joined}
use Rattle.policy_text.proofs.Canonical.{canonical_is_built, canonical_are_sayings, sections_behind, no_versions}
use Rattle.policy_text.proofs.CanonicalEdges.{names_none, no_edges}
use Rattle.policy_lines.specs.Laws.{has_no_feed}
use Rattle.policy_lines.proofs.CutLines.{cut_lines, one_line}
use Rattle.policy_lines.proofs.WrittenLines.{written_is_read}
use Rattle.policy_text.proofs.LineByLine.{said_line, plain_after}

abbrev line_of : SaidView → List ℕ
line_of s = spaced (said_words s)

-- a line that is no version may stand anywhere, where the version has words for it
no_first : (s : SaidView) → not (is_version s) ≡ true → (first : Bool) → IsFirstLine first s
no_first s h true = tt
no_first (version n) h false = absurd (cc h)
no_first (role n) h false = λ v. v
no_first (user n) h false = λ v. v
no_first (perm n) h false = λ v. v
no_first (period n f l e) h false = λ v. v
no_first (limit n p c m d) h false = λ v. v
no_first (edge k st s j) h false = λ v. v
no_first (cap k r n) h false = λ v. v
no_first (admin u) h false = λ v. v
no_first (opening f) h false = λ v. v
no_first (entry f p hd) h false = λ v. v
no_first (trigger is hd d) h false = λ v. v

placed : (s : SaidView) → not (is_version s) ≡ true → (v : TextVersion) → is_allowed (has_edges v) s ≡ true → IsPlaced v s
placed s h v allowed = (no_first s h (is_open v), allowed)

abbrev AreSayings : List SaidView → Type 0
AreSayings ss = AllByRecursion (λ s. IsTrue (is_saying s)) ss

abbrev AreNoVersions : List SaidView → Type 0
AreNoVersions ss = AllByRecursion (λ s. IsTrue (not (is_version s))) ss

abbrev AreShort : List (List ℕ) → Type 0
AreShort ls = AllByRecursion (λ l. length l ≤ 4_096) ls

feedless : (ss : List SaidView) → AreSayings ss → list_all has_no_feed (map line_of ss) ≡ true
feedless [] h = refl
feedless (s ∷ ss) h = and_true (has_no_feed (line_of s)) _ (one_line s h.0) (feedless ss h.1)

abbrev AreAllowed : Bool → List SaidView → Type 0
AreAllowed edges ss = AllByRecursion (λ s. IsTrue (is_allowed edges s)) ss

read_later : (ss : List SaidView) (v : TextVersion) (n : ℕ) → settled_version v ≡ v → AreSayings ss → AreNoVersions ss → AreAllowed (has_edges v) ss → AreShort (map line_of ss)
    → read_lines v n (map line_of ss) ≡ Ok (numbered_from n ss)
read_later [] v n st a f w s = refl
read_later (x ∷ ss) v n st a f w s =
    said_line v n (line_of x) (map line_of ss) x (written_is_read x v a.0 (placed x f.0 v w.0) s.0)
    ∙ ap (λ u. and_then (record { line = n; it = x }) (read_lines u (n + 1) (map line_of ss))) (plain_after v x f.0 ∙ st)
    ∙ ap (and_then (record { line = n; it = x })) (read_later ss v (n + 1) st a.1 f.1 w.1 s.1)

-- the version that a version line tells
abbrev told : ℕ → TextVersion
told k = version_after Open (version k)

told_settled : (k : ℕ) → settled_version (told k) ≡ told k
told_settled k = by (nat_eq k 2)
  where
    by : (b : Bool) → settled_version (cond b Two One) ≡ cond b Two One
    by true = refl
    by false = refl

read_all : (k : ℕ) (rest : List SaidView) → AreSayings (version k ∷ rest) → AreNoVersions rest → AreAllowed (has_edges (told k)) rest → AreShort (map line_of (version k ∷ rest))
    → read_lines Open 1 (map line_of (version k ∷ rest)) ≡ Ok (numbered_from 1 (version k ∷ rest))
read_all k rest a f w s =
    said_line Open 1 (line_of (version k)) (map line_of rest) (version k) (written_is_read (version k) Open a.0 (tt, refl) s.0)
    ∙ ap (and_then (record { line = 1; it = version k })) (read_later rest (told k) 2 (told_settled k) a.1 f w s.1)

or_true : (b : Bool) → (b || true) ≡ true
or_true true = refl
or_true false = refl

or_false : (b : Bool) → b ≡ true → (b || false) ≡ true
or_false true h = refl
or_false false h = cc

by_recursion : (q : SaidView → Bool) (ss : List SaidView) → list_all q ss ≡ true → AllByRecursion (λ s. IsTrue (q s)) ss
by_recursion q [] h = tt
by_recursion q (s ∷ ss) h = let parts = both_true (q s) _ h in (parts.0, by_recursion q ss parts.1)

-- the lines name edges in version 2 alone
all_allowed : (np : NamedPolicy) (one : Bool) → is_version_one np.policy ≡ one → AreAllowed (has_edges (told (cond one 1 2))) (joined (sections_behind np))
all_allowed np true e = with (joined (sections_behind np)) (by_recursion names_none (joined (sections_behind np)) (no_edges np e))
  where
    with : (ss : List SaidView) → AllByRecursion (λ s. IsTrue (names_none s)) ss → AreAllowed false ss
    with [] h = tt
    with (s ∷ ss) h = (or_false (names_none s) h.0, with ss h.1)
all_allowed np false e = any (joined (sections_behind np))
  where
    any : (ss : List SaidView) → AreAllowed true ss
    any [] = tt
    any (s ∷ ss) = (or_true (names_none s), any ss)

pub canonical_is_read : (np : NamedPolicy) → IsWellFormed np → All (λ line. length line ≤ 4_096) (lines_of (canonical_text np)) → policy_read (canonical_text np) ≡ Ok np
canonical_is_read np well short =
    let ss : List SaidView = canonical_lines np in
    let sayings : AreSayings ss = recursion_from_All (λ s. IsTrue (is_saying s)) ss (canonical_are_sayings np well) in
    let cut : lines_of (canonical_text np) ≡ map line_of ss = cut_lines (map line_of ss) (feedless ss sayings) in
    let lines : AreShort (map line_of ss) = recursion_from_All (λ (l : List ℕ). length l ≤ 4_096) (map line_of ss) (subst (λ (ls : List (List ℕ)). All (λ line. length line ≤ 4_096) ls) cut short) in
    let k : ℕ = version_of np.policy in
    let rest : List SaidView = joined (sections_behind np) in
    let is : ss ≡ version k ∷ rest = lines_joined np in
    let later : AreNoVersions rest = by_recursion (λ s. not (is_version s)) rest (no_versions np) in
    let behind = read_all k rest (subst AreSayings is sayings) later (all_allowed np (is_version_one np.policy) refl) (subst (λ (xs : List SaidView). AreShort (map line_of xs)) is lines) in
    let read : read_lines Open 1 (map line_of ss) ≡ Ok (numbered_from 1 ss) = subst (λ (xs : List SaidView). read_lines Open 1 (map line_of xs) ≡ Ok (numbered_from 1 xs)) (sym is) behind in
    ap (λ (ls : List (List ℕ)). by_lines (read_lines Open 1 ls)) cut ∙ ap by_lines read ∙ ap (built (names_of (said_in (numbered_from 1 ss)))) (canonical_is_built np well)
