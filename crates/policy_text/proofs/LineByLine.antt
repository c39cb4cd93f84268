-- Lines that were read, one by one.
use Rattle.std.proofs.Common.{subst, ◌≡◌, ℕ, ◌+◌, Bool, true, false, List, [], ◌∷◌, ◌++◌, Option, Some, None, inl, inr, refl, sym, ap, ◌∙◌, arith}
use Rattle.std.specs.Prelude.{Result, Ok, Err, ◌⊎◌, MatchBool, nat_lt, nat_eq, cond, not, ◌||◌}
use Rattle.std.proofs.lemmas.Bool.{ltb-true, lt-ltb, false≢true}
use Rattle.gtrbac_model.proofs.Elements.{both_true, and_true}
use Rattle.policy_words.specs.declared.faults.TextKind.{TextKind}
use Rattle.policy_words.specs.declared.faults.TextKind.TheVariants as faults
use Rattle.policy_text.specs.declared.faults.TextFault.{TextFault}
use Rattle.policy_text.specs.Faults.{IsTextFault, want_of_memory, is_memory}
use Rattle.policy_words.specs.declared.versions.TextVersion.{TextVersion}
use Rattle.policy_words.specs.declared.versions.TextVersion.TheVariants.{Open, One, Two}
use Rattle.policy_words.specs.Sayings.{SaidView, version, names_edge}
use Rattle.policy_words.specs.Versions.{is_open, has_edges, settled_version, version_after, is_allowed}
use Rattle.policy_words.specs.Making.{is_second}
use Rattle.policy_words.specs.Spelling.{IsFirstLine, IsPlaced}
use Rattle.policy_lines.proofs.SaidBySpelling.{sayings_are_read}
use Rattle.policy_words.specs.Reading.{Numbered, and_then, read_said, read_lines}
use Rattle.policy_book.specs.Said.{are_before, is_version, is_placed}
use Rattle.policy_text.specs.Lines.{behind, version_told}

pub behind_more : (ss : List (Numbered SaidView)) (s : Numbered SaidView) (r : Result (List (Numbered SaidView)) (Numbered TextKind)) → behind (ss ++ s ∷ []) r ≡ behind ss (and_then s r)
behind_more [] s r = refl
behind_more (x ∷ ss) s r = ap (and_then x) (behind_more ss s r)

pub behind_fault : (ss : List (Numbered SaidView)) (t : Numbered TextKind) → behind ss (Err t) ≡ Err t
behind_fault [] t = refl
behind_fault (x ∷ ss) t = ap (and_then x) (behind_fault ss t)

behind_list : (ss ts : List (Numbered SaidView)) → behind ss (Ok ts) ≡ Ok (ss ++ ts)
behind_list [] ts = refl
behind_list (x ∷ ss) ts = ap (and_then x) (behind_list ss ts)

append_none : (ss : List (Numbered SaidView)) → ss ++ [] ≡ ss
append_none [] = refl
append_none (x ∷ ss) = ap (λ ts. x ∷ ts) (append_none ss)

pub behind_all : (ss : List (Numbered SaidView)) → behind ss (Ok []) ≡ Ok ss
behind_all ss = behind_list ss [] ∙ ap (λ ts. Ok ts) (append_none ss)

module _ (v : TextVersion) (n : ℕ) (line : List ℕ) (lines : List (List ℕ)) where
  abbrev after : Result (Option SaidView) TextKind → Result (List (Numbered SaidView)) (Numbered TextKind)
  after said =
      elim said [
        | Err t ↦ Err (record { line = n; it = t })
        | Ok said ↦ elim said [ None ↦ read_lines v (n + 1) lines | Some s ↦ and_then (record { line = n; it = s }) (read_lines (version_after v s) (n + 1) lines) ]
      ]

  pub silent_line : read_said v line ≡ Ok None → read_lines v n (line ∷ lines) ≡ read_lines v (n + 1) lines
  silent_line e = ap after e

  pub said_line : (s : SaidView) → read_said v line ≡ Ok (Some s) → read_lines v n (line ∷ lines) ≡ and_then (record { line = n; it = s }) (read_lines (version_after v s) (n + 1) lines)
  said_line s e = ap after e

  pub faulty_line : (t : TextKind) → read_said v line ≡ Err t → read_lines v n (line ∷ lines) ≡ Err (record { line = n; it = t })
  faulty_line t e = ap after e

later : (m n : ℕ) → nat_lt m n ≡ true → nat_lt m (n + 1) ≡ true
later m n e = lt-ltb m (n + 1) (omega (arith, ltb-true m n e))

pub before_later : (n : ℕ) (ss : List (Numbered SaidView)) → are_before n ss ≡ true → are_before (n + 1) ss ≡ true
before_later n [] e = refl
before_later n (s ∷ ss) e = let both = both_true (nat_lt s.line n) (are_before n ss) e in and_true (nat_lt s.line (n + 1)) _ (later s.line n both.0) (before_later n ss both.1)

pub before_with : (n : ℕ) (ss : List (Numbered SaidView)) (s : SaidView) → are_before n ss ≡ true → are_before (n + 1) (ss ++ record { line = n; it = s } ∷ []) ≡ true
before_with n [] s e = and_true (nat_lt n (n + 1)) true (lt-ltb n (n + 1) (omega arith)) refl
before_with n (x ∷ ss) s e = let both = both_true (nat_lt x.line n) (are_before n ss) e in and_true (nat_lt x.line (n + 1)) _ (later x.line n both.0) (before_with n ss s both.1)

-- the fault of a line, or want of memory
pub fault_told : (kind : TextKind) (f : TextFault) (line : ℕ) (read : Result (List (Numbered SaidView)) (Numbered TextKind)) → (b : Bool) → is_memory kind ≡ b → MatchBool b (f ≡ want_of_memory) (f ≡ record { line = line; kind = kind })
    → (kind ≡ faults.Memory) ⊎ (read ≡ Err (record { line = line; it = kind })) → IsTextFault read f
fault_told kind f line read true e is h = inl is
fault_told kind f line read false e is (inl m) = absurd (false≢true (sym e ∙ ap is_memory m))
fault_told kind f line read false e is (inr r) = inr (r ∙ ap (λ (g : TextFault). Err (record { line = g.line; it = g.kind })) (sym is))

-- the version that lines tell

never_open : (x : SaidView) → is_open (version_after Open x) ≡ false
never_open (version n) = by (nat_eq n 2)
  where
    by : (b : Bool) → is_open (cond b Two One) ≡ false
    by true = refl
    by false = refl
never_open _ = refl

edges_by : (x : SaidView) → has_edges (version_after Open x) ≡ is_second x
edges_by (version n) = by (nat_eq n 2)
  where
    by : (b : Bool) → has_edges (cond b Two One) ≡ b
    by true = refl
    by false = refl
edges_by _ = refl

no_version : (x : SaidView) → IsFirstLine false x → not (is_version x) ≡ true
no_version (version n) h = absurd (h tt)
no_version _ h = refl

or_false : (b : Bool) → (b || false) ≡ true → b ≡ true
or_false true h = refl
or_false false h = cc

-- what is read behind lines may stand behind them
pub placed_there : (ss : List (Numbered SaidView)) (v : TextVersion) (line : List ℕ) (s : SaidView) → version_told ss ≡ v → read_said v line ≡ Ok (Some s) → is_placed ss s ≡ true
placed_there ss v line s told read = by ss told ((sayings_are_read v line (Ok (Some s))).0 read).4
  where
    by : (ss : List (Numbered SaidView)) → version_told ss ≡ v → IsPlaced v s → is_placed ss s ≡ true
    by [] e (first, allowed) = or_false (not (names_edge s)) (ap (λ w. is_allowed (has_edges w) s) e ∙ allowed)
    by (x ∷ xs) e (first, allowed) =
        let open_is : is_open v ≡ false = ap is_open (sym e) ∙ never_open x.it in
        let edges : has_edges v ≡ is_second x.it = ap has_edges (sym e) ∙ edges_by x.it in
        and_true _ _ (no_version s (subst (λ b. IsFirstLine b s) open_is first)) (ap (λ b. is_allowed b s) (sym edges) ∙ allowed)

pub plain_after : (v : TextVersion) (s : SaidView) → not (is_version s) ≡ true → version_after v s ≡ settled_version v
plain_after v (version n) h = cc
plain_after v _ h = refl

settled_already : (v : TextVersion) → is_open v ≡ false → settled_version v ≡ v
settled_already Open h = cc
settled_already One h = refl
settled_already Two h = refl

-- a line behind tells no other version than its own
pub told_more : (ss : List (Numbered SaidView)) (s : Numbered SaidView) → is_placed ss s.it ≡ true → version_told (ss ++ s ∷ []) ≡ version_after (version_told ss) s.it
told_more [] s h = refl
told_more (x ∷ xs) s h =
    sym (plain_after (version_after Open x.it) s.it (both_true (not (is_version s.it)) _ h).0 ∙ settled_already (version_after Open x.it) (never_open x.it))
