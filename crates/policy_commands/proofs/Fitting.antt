-- The canonical lines of a policy that was read: those of its periods are the sayings of period lines that were read.
use Rattle.std.proofs.Common.{◌≡◌, ℕ, ◌+◌, ◌≤◌, Bool, true, false, cond, List, [], ◌∷◌, map, length, take, filter, Option, Some, None, refl, sym, ap, ◌∙◌, subst, arith}
use Rattle.std.specs.Prelude.{Result, Ok, Err, IsTrue, IfOk, All, codes, bytes_eq}
use Rattle.std.specs.List.{list_all, filter_map, AllByRecursion}
use Rattle.std.proofs.lemmas.List.Elements.{All-from_recursion, recursion_from_All}
use Rattle.gt_text.specs.Lines.{lines_of}
use Rattle.gt_text.specs.Words.{words_of, spaced}
use Rattle.gtrbac_model.specs.Period.{Period}
use Rattle.gtrbac_model.proofs.Elements.{and_true}
use Rattle.policy_words.specs.declared.claims.Claim.TheVariants as claims
use Rattle.policy_words.specs.declared.sayings.Kind.TheVariants as kinds
use Rattle.policy_words.specs.declared.faults.TextKind.{TextKind}
use Rattle.policy_words.specs.declared.versions.TextVersion.{TextVersion}
use Rattle.policy_words.specs.declared.versions.TextVersion.TheVariants.{Open}
use Rattle.policy_words.specs.Versions.{version_after}
use Rattle.policy_words.specs.Sayings.{SaidView, version, role, user, perm, period, limit, edge, cap, admin, opening, entry, trigger, said_words, is_saying}
use Rattle.policy_words.specs.Spelling.{IsSaid, BeginsWith}
use Rattle.policy_words.specs.Reading.{Numbered, read_said, and_then, read_lines}
use Rattle.policy_words.specs.Naming.{Names, NamedPolicy}
use Rattle.policy_words.specs.Making.{no_names, names_of, fresh, named_policy, period_said}
use Rattle.policy_words.specs.LinesTogether.{LinesFault, said_in, build}
use Rattle.policy_words.specs.Canonical.{canonical_lines, canonical_text}
use Rattle.policy_words.specs.PolicyRead.{PolicyFault, built, by_lines, policy_read}
use Rattle.policy_words.specs.Valid.{IsWellFormed}
use Rattle.policy_lines.specs.Laws.{has_no_feed}
use Rattle.policy_lines.proofs.CutLines.{cut_lines, one_line}
use Rattle.policy_lines.proofs.SaidBySpelling.{sayings_are_read}
use Rattle.policy_book.specs.Laws.{numbered_from}
use Rattle.policy_book.proofs.Lists.{repeats}
use Rattle.policy_book.proofs.Naming.{all_new, period_in, periods_kept, period_declares, names_once}
use Rattle.policy_book.proofs.DraftedLines.{drafted_periods}
use Rattle.policy_book.proofs.FineLines.{AreFine, fine_lines, all_apart}
use Rattle.policy_book.proofs.WellFormed.{was_built}
use Rattle.policy_text.proofs.Canonical.{canonical_is_built, canonical_are_sayings}
use Rattle.text_laws.specs.Lengths.{is_period_line}
use Rattle.text_laws.proofs.Others.{others_short}
use Rattle.text_laws.proofs.Periods.{periods_short}
use Rattle.policy_commands.specs.Meanings.{CanonicalLinesFit, FmtKeepsBrief}
use Rattle.policy_commands.specs.Ends.{EndView}
use Rattle.policy_commands.proofs.Answered.{well_formed, fmt_is, fmt_keeps}

-- the sayings of period lines are told by the names and the periods of the policy that they make

zipped : List (List ℕ) → List Period → List SaidView
zipped (n ∷ ns) (p ∷ ps) = period n p.first p.last p.expr ∷ zipped ns ps
zipped _ _ = []

told_apart : (ns : Names) (xs : List SaidView) → filter is_period_line xs ≡ zipped (filter_map period_in xs) (filter_map (period_said ns) xs)
unfolding zipped
told_apart ns [] = refl
told_apart ns (version n ∷ xs) = told_apart ns xs
told_apart ns (role n ∷ xs) = told_apart ns xs
told_apart ns (user n ∷ xs) = told_apart ns xs
told_apart ns (perm n ∷ xs) = told_apart ns xs
told_apart ns (period n f l e ∷ xs) = ap (λ ys. period n f l e ∷ ys) (told_apart ns xs)
told_apart ns (limit n p c most during ∷ xs) = told_apart ns xs
told_apart ns (edge kind strong s j ∷ xs) = told_apart ns xs
told_apart ns (cap kind r n ∷ xs) = told_apart ns xs
told_apart ns (admin u ∷ xs) = told_apart ns xs
told_apart ns (opening f ∷ xs) = told_apart ns xs
told_apart ns (entry f p h ∷ xs) = told_apart ns xs
told_apart ns (trigger items h d ∷ xs) = told_apart ns xs

-- of lines without a fault
made_of : (xs : List SaidView) → AreFine (names_of xs) [] xs → filter is_period_line xs ≡ zipped (named_policy xs).names.periods (named_policy xs).policy.periods
made_of xs fine =
    let once : repeats bytes_eq (filter_map period_in xs) ≡ false = names_once (λ m. claims.Period m) kinds.Periods period_in (λ _ _. refl) period_declares xs (all_apart (names_of xs) [] xs fine) in
    let names : (names_of xs).periods ≡ filter_map period_in xs = periods_kept no_names xs ∙ all_new [] (filter_map period_in xs) once in
    let periods : (named_policy xs).policy.periods ≡ filter_map (period_said (names_of xs)) xs = drafted_periods (names_of xs) (fresh (names_of xs)) xs in
    told_apart (names_of xs) xs ∙ (λ i. zipped (sym names i) (sym periods i))

of_built : (ss : List (Numbered SaidView)) (np : NamedPolicy) → build ss ≡ Ok np → filter is_period_line (said_in ss) ≡ zipped np.names.periods np.policy.periods
of_built ss np e =
    let (clear, acyclic, same) = was_built ss np e in
    made_of (said_in ss) (fine_lines (names_of (said_in ss)) [] ss clear) ∙ ap (λ (p : NamedPolicy). zipped p.names.periods p.policy.periods) same

said_numbered : (n : ℕ) (xs : List SaidView) → said_in (numbered_from n xs) ≡ xs
said_numbered n [] = refl
said_numbered n (x ∷ xs) = ap (λ zs. x ∷ zs) (said_numbered (n + 1) xs)

-- the period lines that are written are those that were read
same_periods : (ss : List (Numbered SaidView)) (np : NamedPolicy) → build ss ≡ Ok np → IsWellFormed np → filter is_period_line (canonical_lines np) ≡ filter is_period_line (said_in ss)
same_periods ss np e well =
    sym (ap (filter is_period_line) (said_numbered 1 (canonical_lines np))) ∙ of_built (numbered_from 1 (canonical_lines np)) np (canonical_is_built np well) ∙ sym (of_built ss np e)

-- lengths

abbrev line_of : SaidView → List ℕ
line_of s = spaced (said_words s)

abbrev IsShort : SaidView → Type 0
IsShort s = length (line_of s) ≤ 4_096

abbrev Fits : SaidView → Type 0
Fits s = is_period_line s ≡ true → IsShort s

abbrev AllFit : List (Numbered SaidView) → Type 0
AllFit ss = AllByRecursion (λ s. Fits s.it) ss

abbrev IsBrief : List ℕ → Type 0
IsBrief line = BeginsWith line (codes "period") → length line ≤ 4_040

spelled_fits : (v : TextVersion) (line : List ℕ) (s : SaidView) → IsBrief line → IsSaid v line (Ok (Some s)) → Fits s
spelled_fits v line (period n f l e) brief (loud, formed, spells, bodied, placed) p =
    let begins : BeginsWith line (codes "period") = first_word (words_of line) (codes "period") (n ∷ spells.0.first_word ∷ spells.0.last_word ∷ []) spells.0.words in
    omega (arith, brief begins, periods_short line n f l e spells)
  where
    first_word : (ws : List (List ℕ)) (w : List ℕ) (more : List (List ℕ)) → take 4 ws ≡ w ∷ more → (rest : List (List ℕ)) × (ws ≡ w ∷ rest)
    first_word [] w more h = cc
    first_word (x ∷ xs) w more h = (xs, let same : x ≡ w = cc in ap (λ y. y ∷ xs) same)
spelled_fits v line (version n) brief said p = cc
spelled_fits v line (role n) brief said p = cc
spelled_fits v line (user n) brief said p = cc
spelled_fits v line (perm n) brief said p = cc
spelled_fits v line (limit n q c most during) brief said p = cc
spelled_fits v line (edge kind strong s j) brief said p = cc
spelled_fits v line (cap kind r n) brief said p = cc
spelled_fits v line (admin u) brief said p = cc
spelled_fits v line (opening f) brief said p = cc
spelled_fits v line (entry f q h) brief said p = cc
spelled_fits v line (trigger items h d) brief said p = cc

with_first : (s : Numbered SaidView) → Fits s.it → (r : Result (List (Numbered SaidView)) (Numbered TextKind)) → IfOk r AllFit → IfOk (and_then s r) AllFit
with_first s h (Ok ss) all = (h, all)
with_first s h (Err t) all = tt

read_fits : (v : TextVersion) (n : ℕ) (lines : List (List ℕ)) → AllByRecursion IsBrief lines → IfOk (read_lines v n lines) AllFit
read_fits v n [] brief = tt
read_fits v n (l ∷ ls) brief = by (read_said v l) refl (read_fits v (n + 1) ls brief.1) (λ s. read_fits (version_after v s) (n + 1) ls brief.1)
  where
    by : (r : Result (Option SaidView) TextKind) → read_said v l ≡ r → IfOk (read_lines v (n + 1) ls) AllFit → ((s : SaidView) → IfOk (read_lines (version_after v s) (n + 1) ls) AllFit)
        → IfOk (elim r [
          | Err t ↦ Err (record { line = n; it = t })
          | Ok said ↦ elim said [ None ↦ read_lines v (n + 1) ls | Some s ↦ and_then (record { line = n; it = s }) (read_lines (version_after v s) (n + 1) ls) ]
        ]) AllFit
    by (Ok None) e same later = same
    by (Ok (Some s)) e same later =
        with_first (record { line = n; it = s }) (spelled_fits v l s brief.0 ((sayings_are_read v l (Ok (Some s))).0 e)) (read_lines (version_after v s) (n + 1) ls) (later s)
    by (Err t) e same later = tt

-- the period lines of these sayings
periods_fit : (ss : List (Numbered SaidView)) → AllFit ss → AllByRecursion IsShort (filter is_period_line (said_in ss))
periods_fit [] h = tt
periods_fit (s ∷ ss) h = by (is_period_line s.it) refl (periods_fit ss h.1)
  where
    by : (b : Bool) → is_period_line s.it ≡ b → AllByRecursion IsShort (filter is_period_line (said_in ss))
        → AllByRecursion IsShort (cond b (s.it ∷ filter is_period_line (said_in ss)) (filter is_period_line (said_in ss)))
    by true e more = (h.0 e, more)
    by false e more = more

-- all lines, where those of periods are short
all_fit : (xs : List SaidView) → AllByRecursion (λ s. IsTrue (is_saying s)) xs → AllByRecursion IsShort (filter is_period_line xs) → AllByRecursion (λ (l : List ℕ). length l ≤ 4_096) (map line_of xs)
all_fit [] said short = tt
all_fit (x ∷ xs) said short = by (is_period_line x) refl short (all_fit xs said.1)
  where
    by : (b : Bool) → is_period_line x ≡ b → AllByRecursion IsShort (cond b (x ∷ filter is_period_line xs) (filter is_period_line xs))
        → (AllByRecursion IsShort (filter is_period_line xs) → AllByRecursion (λ (l : List ℕ). length l ≤ 4_096) (map line_of xs))
        → AllByRecursion (λ (l : List ℕ). length l ≤ 4_096) (map line_of (x ∷ xs))
    by true e short more = (short.0, more short.1)
    by false e short more = (omega (arith, others_short x said.0 e), more short)

feedless : (xs : List SaidView) → AllByRecursion (λ s. IsTrue (is_saying s)) xs → list_all has_no_feed (map line_of xs) ≡ true
feedless [] h = refl
feedless (x ∷ xs) h = and_true (has_no_feed (line_of x)) _ (one_line x h.0) (feedless xs h.1)

module _ (text : List ℕ) (np : NamedPolicy) (well : IsWellFormed np) where
  of_sayings : (ss : List (Numbered SaidView)) → AllFit ss → build ss ≡ Ok np → All (λ line. length line ≤ 4_096) (lines_of (canonical_text np))
  of_sayings ss fit e =
      let xs : List SaidView = canonical_lines np in
      let sayings : AllByRecursion (λ s. IsTrue (is_saying s)) xs = recursion_from_All (λ s. IsTrue (is_saying s)) xs (canonical_are_sayings np well) in
      let short = subst (AllByRecursion IsShort) (sym (same_periods ss np e well)) (periods_fit ss fit) in
      let lines = All-from_recursion (λ (l : List ℕ). length l ≤ 4_096) (map line_of xs) (all_fit xs sayings short) in
      subst (λ (ls : List (List ℕ)). All (λ line. length line ≤ 4_096) ls) (sym (cut_lines (map line_of xs) (feedless xs sayings))) lines

  of_built_sayings : (ss : List (Numbered SaidView)) → AllFit ss → (r : Result NamedPolicy LinesFault) → build ss ≡ r → built (names_of (said_in ss)) r ≡ Ok np
      → All (λ line. length line ≤ 4_096) (lines_of (canonical_text np))
  of_built_sayings ss fit (Ok q) b e =
      of_sayings ss fit (b ∙ ap (λ (x : Result NamedPolicy PolicyFault). elim x [ Ok p ↦ Ok p | Err f ↦ Ok q ]) e)
  of_built_sayings ss fit (Err t) b e = absurd (cc e)

  of_lines : (r : Result (List (Numbered SaidView)) (Numbered TextKind)) → IfOk r AllFit → by_lines r ≡ Ok np → All (λ line. length line ≤ 4_096) (lines_of (canonical_text np))
  of_lines (Ok ss) fit e = of_built_sayings ss fit (build ss) refl e
  of_lines (Err t) fit e = absurd (cc e)

pub canonical_lines_fit : CanonicalLinesFit
canonical_lines_fit text np e brief =
    of_lines text np (well_formed text np e) (read_lines Open 1 (lines_of text)) (read_fits Open 1 (lines_of text) (recursion_from_All IsBrief (lines_of text) brief)) e

pub fmt_keeps_brief : FmtKeepsBrief
fmt_keeps_brief text out h brief = fmt_keeps text out h (by (policy_read text) refl)
  where
    by : (r : Result NamedPolicy PolicyFault) → policy_read text ≡ r → All (λ line. length line ≤ 4_096) (lines_of out)
    by (Ok np) e =
        let same : canonical_text np ≡ out = ap (λ (t : EndView). t.text) (sym (fmt_is text (Ok np) e) ∙ h) in
        subst (λ (t : List ℕ). All (λ line. length line ≤ 4_096) (lines_of t)) same (canonical_lines_fit text np e brief)
    by (Err f) e = let is : 2 ≡ 0 = ap (λ (t : EndView). t.status) (sym (fmt_is text (Err f) e) ∙ h) in absurd (cc is)
