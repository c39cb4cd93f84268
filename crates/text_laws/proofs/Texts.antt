-- Reading the lines of a text, by what each of them says.
use Rattle.std.proofs.Common.{◌≡◌, inl, inr, ℕ, ◌+◌, List, [], ◌∷◌, ◌++◌, length, Option, Some, None, Result, Ok, Err, refl, sym, ◌∙◌, ap, subst, arith}
use Rattle.policy_words.specs.declared.faults.TextKind.{TextKind}
use Rattle.policy_words.specs.declared.versions.TextVersion.{TextVersion}
use Rattle.policy_words.specs.Versions.{version_after}
use Rattle.policy_words.specs.Sayings.{SaidView}
use Rattle.policy_words.specs.Reading.{Numbered, read_said, and_then, read_lines}
use Rattle.policy_words.specs.Spelling.{IsSaid}
use Rattle.policy_lines.proofs.SaidBySpelling.{sayings_are_read}
use Rattle.text_laws.specs.Texts.{Say, LeadTo, IsFirstFault, TextsSay, FirstFaultIsTold}

abbrev Read : Type 0
Read = Result (List (Numbered SaidView)) (Numbered TextKind)

abbrev SaidLine : Type 0
SaidLine = Result (Option SaidView) TextKind

-- the lines read from one on, where the first of them says this
abbrev after_line : TextVersion → ℕ → List (List ℕ) → SaidLine → Read
after_line v n lines r =
    elim r [
      | Err t ↦ Err (record { line = n; it = t })
      | Ok said ↦ elim said [ None ↦ read_lines v (n + 1) lines | Some s ↦ and_then (record { line = n; it = s }) (read_lines (version_after v s) (n + 1) lines) ]
    ]

is_said : (v : TextVersion) (line : List ℕ) (r : SaidLine) → read_said v line ≡ r → IsSaid v line r
is_said v line r e = (sayings_are_read v line r).0 e

of_said : (v : TextVersion) (line : List ℕ) (r : SaidLine) → IsSaid v line r → read_said v line ≡ r
of_said v line r h = (sayings_are_read v line r).1 h

ok_same : (a b : List (Numbered SaidView)) → ◌≡◌ {A = Read} (Ok a) (Ok b) → a ≡ b
ok_same a b e = cc

err_same : (a b : Numbered TextKind) → ◌≡◌ {A = Read} (Err a) (Err b) → a ≡ b
err_same a b e = cc

-- one saying more
was_ok : (s : Numbered SaidView) (r : Read) (said : List (Numbered SaidView)) → and_then s r ≡ Ok said → (more : List (Numbered SaidView)) × (r ≡ Ok more) × (said ≡ s ∷ more)
was_ok s (Ok more) said e = (more, refl, sym (ok_same (s ∷ more) said e))
was_ok s (Err t) said e = cc

was_err : (s : Numbered SaidView) (r : Read) (t : Numbered TextKind) → and_then s r ≡ Err t → r ≡ Err t
was_err s (Ok more) t e = cc
was_err s (Err u) t e = e

to_say : (v : TextVersion) (n : ℕ) (lines : List (List ℕ)) (said : List (Numbered SaidView)) → read_lines v n lines ≡ Ok said → Say v n lines said
to_say v n [] said e = sym (ok_same [] said e)
to_say v n (line ∷ lines) said e = by (read_said v line) refl e (to_say v (n + 1) lines said) (λ s. to_say (version_after v s) (n + 1) lines)
  where
    by : (r : SaidLine) → read_said v line ≡ r → after_line v n lines r ≡ Ok said → (read_lines v (n + 1) lines ≡ Ok said → Say v (n + 1) lines said)
        → ((s : SaidView) (more : List (Numbered SaidView)) → read_lines (version_after v s) (n + 1) lines ≡ Ok more → Say (version_after v s) (n + 1) lines more) → Say v n (line ∷ lines) said
    by (Err t) is e same later = cc
    by (Ok None) is e same later = inl (is_said v line (Ok None) is, same e)
    by (Ok (Some s)) is e same later =
        let (more, read, whole) = was_ok (record { line = n; it = s }) (read_lines (version_after v s) (n + 1) lines) said e in
        inr (s, more, whole, is_said v line (Ok (Some s)) is, later s more read)

from_say : (v : TextVersion) (n : ℕ) (lines : List (List ℕ)) (said : List (Numbered SaidView)) → Say v n lines said → read_lines v n lines ≡ Ok said
from_say v n [] said h = ap (λ ss. Ok ss) (sym h)
from_say v n (line ∷ lines) said (inl (silent, more)) = ap (after_line v n lines) (of_said v line (Ok None) silent) ∙ from_say v (n + 1) lines said more
from_say v n (line ∷ lines) said (inr (s, rest, whole, says, more)) =
    ap (after_line v n lines) (of_said v line (Ok (Some s)) says)
    ∙ ap (and_then (record { line = n; it = s })) (from_say (version_after v s) (n + 1) lines rest more) ∙ ap (λ ss. Ok ss) (sym whole)

-- a line without a fault before the first one that has one
one_before : (v w : TextVersion) (n : ℕ) (line : List ℕ) (lines : List (List ℕ)) (t : Numbered TextKind)
    → ((front : List (List ℕ)) (u : TextVersion) → LeadTo w front u → LeadTo v (line ∷ front) u) → IsFirstFault w (n + 1) lines t → IsFirstFault v n (line ∷ lines) t
one_before v w n line lines t leads f = record {
  front = line ∷ f.front;
  line = f.line;
  rest = f.rest;
  whole = ap (λ ls. line ∷ ls) f.whole;
  version = f.version;
  before = leads f.front f.version f.before;
  has = f.has;
  number = omega (arith, f.number);
}

to_first : (v : TextVersion) (n : ℕ) (lines : List (List ℕ)) (t : Numbered TextKind) → read_lines v n lines ≡ Err t → IsFirstFault v n lines t
to_first v n [] t e = cc
to_first v n (line ∷ lines) t e = by (read_said v line) refl e (to_first v (n + 1) lines t) (λ s. to_first (version_after v s) (n + 1) lines t)
  where
    by : (r : SaidLine) → read_said v line ≡ r → after_line v n lines r ≡ Err t → (read_lines v (n + 1) lines ≡ Err t → IsFirstFault v (n + 1) lines t)
        → ((s : SaidView) → read_lines (version_after v s) (n + 1) lines ≡ Err t → IsFirstFault (version_after v s) (n + 1) lines t) → IsFirstFault v n (line ∷ lines) t
    by (Err kind) is e same later =
        let told : record { line = n; it = kind } ≡ t = err_same (record { line = n; it = kind }) t e in
        subst (IsFirstFault v n (line ∷ lines)) told
        (record { front = []; line = line; rest = lines; whole = refl; version = v; before = refl; has = is_said v line (Err kind) is; number = omega arith })
    by (Ok None) is e same later = one_before v v n line lines t (λ front u h. inl (is_said v line (Ok None) is, h)) (same e)
    by (Ok (Some s)) is e same later =
        one_before v (version_after v s) n line lines t (λ front u h. inr (s, is_said v line (Ok (Some s)) is, h))
        (later s (was_err (record { line = n; it = s }) (read_lines (version_after v s) (n + 1) lines) t e))

-- the fault behind lines without one
behind : (v w : TextVersion) (n : ℕ) (front rest : List (List ℕ)) (line : List ℕ) (kind : TextKind) → LeadTo v front w → IsSaid w line (Err kind)
    → read_lines v n (front ++ line ∷ rest) ≡ Err (record { line = n + length front; it = kind })
behind v w n [] rest line kind same has =
    let read : read_said v line ≡ Err kind = of_said v line (Err kind) (subst (λ u. IsSaid u line (Err kind)) (sym same) has) in
    let number : n ≡ n + 0 = omega arith in
    ap (after_line v n rest) read ∙ ap (λ k. Err (record { line = k; it = kind })) number
behind v w n (l ∷ ls) rest line kind (inl (silent, more)) has =
    let number : n + 1 + length ls ≡ n + length (l ∷ ls) = omega arith in
    ap (after_line v n (ls ++ line ∷ rest)) (of_said v l (Ok None) silent) ∙ behind v w (n + 1) ls rest line kind more has ∙ ap (λ k. Err (record { line = k; it = kind })) number
behind v w n (l ∷ ls) rest line kind (inr (s, says, more)) has =
    let number : n + 1 + length ls ≡ n + length (l ∷ ls) = omega arith in
    ap (after_line v n (ls ++ line ∷ rest)) (of_said v l (Ok (Some s)) says)
    ∙ ap (and_then (record { line = n; it = s })) (behind (version_after v s) w (n + 1) ls rest line kind more has) ∙ ap (λ k. Err (record { line = k; it = kind })) number

from_first : (v : TextVersion) (n : ℕ) (lines : List (List ℕ)) (t : Numbered TextKind) → IsFirstFault v n lines t → read_lines v n lines ≡ Err t
from_first v n lines t f =
    ap (read_lines v n) f.whole ∙ behind v f.version n f.front f.rest f.line t.it f.before f.has ∙ ap (λ k. Err (record { line = k; it = t.it })) (sym f.number)

pub texts_say : TextsSay
texts_say v n lines said = (to_say v n lines said, from_say v n lines said)

pub first_fault_is_told : FirstFaultIsTold
first_fault_is_told v n lines t = (to_first v n lines t, from_first v n lines t)
