-- What the answers of `check` and `fmt` mean.
use Rattle.std.proofs.Common.{◌≡◌, ◌≤◌, ℕ, ◌+◌, true, List, [], ◌∷◌, length, Option, Some, None, refl, sym, ap, ◌∙◌, subst}
use Rattle.std.specs.Prelude.{Result, Ok, Err, IsTrue, IfOk, All, codes}
use Rattle.std.proofs.lemmas.List.Elements.{All-from_recursion}
use Rattle.gt_text.specs.Lines.{lines_of}
use Rattle.gtrbac_model.specs.Policy.{Policy}
use Rattle.gtrbac_model.specs.Safety.{IsSafe, the_cycle}
use Rattle.gtrbac_model.specs.Theorems.{HasOneModel}
use Rattle.gtrbac_model.proofs.Levels.{by_trigger}
use Rattle.gtrbac_model.proofs.Playing.{levels_give_one_model}
use Rattle.walk_laws.proofs.Climbing.{safe_is_levelled}
use Rattle.walk_laws.proofs.Closing.{tells}
use Rattle.policy_words.specs.declared.faults.TextKind.{TextKind}
use Rattle.policy_words.specs.declared.versions.TextVersion.{TextVersion}
use Rattle.policy_words.specs.declared.versions.TextVersion.TheVariants.{Open}
use Rattle.policy_words.specs.Versions.{version_after}
use Rattle.policy_words.specs.Sayings.{SaidView, is_saying}
use Rattle.policy_words.specs.Reading.{Numbered, read_said, and_then, read_lines}
use Rattle.policy_lines.proofs.SaidBySpelling.{read_in_range}
use Rattle.policy_words.specs.Naming.{NamedPolicy}
use Rattle.policy_words.specs.Making.{names_of}
use Rattle.policy_words.specs.LinesTogether.{LinesFault, said_in, build}
use Rattle.policy_words.specs.Canonical.{canonical_text}
use Rattle.policy_words.specs.PolicyRead.{PolicyFault, built, by_lines, policy_read}
use Rattle.policy_words.specs.Valid.{IsWellFormed}
use Rattle.policy_book.proofs.WellFormed.{build_is_well_formed}
use Rattle.policy_text.proofs.CanonicalText.{canonical_is_read}
use Rattle.policy_commands.specs.Ends.{EndView, ending}
use Rattle.policy_commands.specs.Policies.{policy_or_end, policy_in, safe_or_cycle, judged, judged_or_end, safe_in, HasTextFault, IsUnsafeText}
use Rattle.policy_commands.specs.Commands.{laid_or_end, fmt_end, safe_or_end, check_end}
use Rattle.policy_commands.specs.Meanings.{IsSafeText, SafeMeans, UnsafeMeans, FaultMeans, FmtFaultMeans, FmtKeeps}

status : EndView → ℕ
status t = t.status

one_model : (p : Policy) → IsSafe p.triggers → HasOneModel p
one_model p safe = let levels = safe_is_levelled p.triggers safe in levels_give_one_model p levels.0 (by_trigger p.triggers levels.0 levels.1)

module _ (text : List ℕ) where
  check_is : (r : Result NamedPolicy PolicyFault) → policy_read text ≡ r → check_end text ≡ safe_or_end (judged_or_end (policy_or_end r))
  unfolding check_end safe_in policy_in
  check_is r e = ap (λ x. safe_or_end (judged_or_end (policy_or_end x))) e

  check_read : (np : NamedPolicy) (c : Option (List ℕ)) → policy_read text ≡ Ok np → the_cycle np.policy.triggers ≡ c → check_end text ≡ safe_or_end (safe_or_cycle np c)
  unfolding judged
  check_read np c read e = check_is (Ok np) read ∙ ap (λ x. safe_or_end (safe_or_cycle np x)) e

  pub fmt_is : (r : Result NamedPolicy PolicyFault) → policy_read text ≡ r → fmt_end text ≡ laid_or_end (policy_or_end r)
  unfolding fmt_end policy_in
  fmt_is r e = ap (λ x. laid_or_end (policy_or_end x)) e

  to_safe : check_end text ≡ ending 0 (codes "safe\n") → (r : Result NamedPolicy PolicyFault) → policy_read text ≡ r → IsSafeText text
  to_safe h (Ok np) e = by (the_cycle np.policy.triggers) refl
    where
      by : (c : Option (List ℕ)) → the_cycle np.policy.triggers ≡ c → IsSafeText text
      by None c = let safe = (tells np.policy.triggers).1 c in record { policy = np; is = e; safe = safe; one = one_model np.policy safe }
      by (Some es) c = let is : 0 ≡ 3 = sym (ap (λ (t : EndView). t.status) h) ∙ ap (λ (t : EndView). t.status) (check_read np (Some es) e c) in absurd (cc is)
  to_safe h (Err f) e = let is : 0 ≡ 2 = sym (ap (λ (t : EndView). t.status) h) ∙ ap (λ (t : EndView). t.status) (check_is (Err f) e) in absurd (cc is)

  from_safe : IsSafeText text → check_end text ≡ ending 0 (codes "safe\n")
  from_safe s = check_read s.policy None s.is ((tells s.policy.policy.triggers).0 s.safe)

  to_unsafe : (check_end text).status ≡ 3 → (r : Result NamedPolicy PolicyFault) → policy_read text ≡ r → IsUnsafeText text
  to_unsafe h (Ok np) e = by (the_cycle np.policy.triggers) refl
    where
      by : (c : Option (List ℕ)) → the_cycle np.policy.triggers ≡ c → IsUnsafeText text
      by None c = let is : 0 ≡ 3 = sym (ap (λ (t : EndView). t.status) (check_read np None e c)) ∙ h in absurd (cc is)
      by (Some es) c = record { policy = np; is = e; unsafe = λ safe. let is : Some es ≡ None = sym c ∙ (tells np.policy.triggers).0 safe in cc is }
  to_unsafe h (Err f) e = let is : 2 ≡ 3 = sym (ap (λ (t : EndView). t.status) (check_is (Err f) e)) ∙ h in absurd (cc is)

  from_unsafe : IsUnsafeText text → (check_end text).status ≡ 3
  from_unsafe u = by (the_cycle u.policy.policy.triggers) refl
    where
      by : (c : Option (List ℕ)) → the_cycle u.policy.policy.triggers ≡ c → (check_end text).status ≡ 3
      by None c = absurd (u.unsafe ((tells u.policy.policy.triggers).1 c))
      by (Some es) c = ap (λ (t : EndView). t.status) (check_read u.policy (Some es) u.is c)

  to_fault : (check_end text).status ≡ 2 → (r : Result NamedPolicy PolicyFault) → policy_read text ≡ r → HasTextFault text
  to_fault h (Ok np) e = by (the_cycle np.policy.triggers) refl
    where
      by : (c : Option (List ℕ)) → the_cycle np.policy.triggers ≡ c → HasTextFault text
      by None c = let is : 0 ≡ 2 = sym (ap (λ (t : EndView). t.status) (check_read np None e c)) ∙ h in absurd (cc is)
      by (Some es) c = let is : 3 ≡ 2 = sym (ap (λ (t : EndView). t.status) (check_read np (Some es) e c)) ∙ h in absurd (cc is)
  to_fault h (Err f) e = record { fault = f; is = e }

  from_fault : HasTextFault text → (check_end text).status ≡ 2
  from_fault f = ap (λ (t : EndView). t.status) (check_is (Err f.fault) f.is)

  fmt_to_fault : (fmt_end text).status ≡ 2 → (r : Result NamedPolicy PolicyFault) → policy_read text ≡ r → HasTextFault text
  fmt_to_fault h (Ok np) e = let is : 0 ≡ 2 = sym (ap (λ (t : EndView). t.status) (fmt_is (Ok np) e)) ∙ h in absurd (cc is)
  fmt_to_fault h (Err f) e = record { fault = f; is = e }

  fmt_from_fault : HasTextFault text → (fmt_end text).status ≡ 2
  fmt_from_fault f = ap (λ (t : EndView). t.status) (fmt_is (Err f.fault) f.is)

pub safe_means : SafeMeans
safe_means text = (λ h. to_safe text h (policy_read text) refl, from_safe text)

pub unsafe_means : UnsafeMeans
unsafe_means text = (λ h. to_unsafe text h (policy_read text) refl, from_unsafe text)

pub fault_means : FaultMeans
fault_means text = (λ h. to_fault text h (policy_read text) refl, from_fault text)

pub fmt_fault_means : FmtFaultMeans
fmt_fault_means text = (λ h. fmt_to_fault text h (policy_read text) refl, fmt_from_fault text)

-- what is read is in range, so the policy is well formed

abbrev InRange : List (Numbered SaidView) → Type 0
InRange [] = Unit {0}
InRange (s ∷ ss) = IsTrue (is_saying s.it) × InRange ss

with_first : (s : Numbered SaidView) → is_saying s.it ≡ true → (r : Result (List (Numbered SaidView)) (Numbered TextKind)) → IfOk r InRange → IfOk (and_then s r) InRange
with_first s h (Ok ss) all = (h, all)
with_first s h (Err t) all = tt

in_range : (v : TextVersion) (n : ℕ) (lines : List (List ℕ)) → IfOk (read_lines v n lines) InRange
in_range v n [] = tt
in_range v n (l ∷ ls) = by (read_said v l) refl (in_range v (n + 1) ls) (λ s. in_range (version_after v s) (n + 1) ls)
  where
    by : (r : Result (Option SaidView) TextKind) → read_said v l ≡ r → IfOk (read_lines v (n + 1) ls) InRange → ((s : SaidView) → IfOk (read_lines (version_after v s) (n + 1) ls) InRange)
        → IfOk (elim r [
          | Err t ↦ Err (record { line = n; it = t })
          | Ok said ↦ elim said [ None ↦ read_lines v (n + 1) ls | Some s ↦ and_then (record { line = n; it = s }) (read_lines (version_after v s) (n + 1) ls) ]
        ]) InRange
    by (Ok None) e same later = same
    by (Ok (Some s)) e same later = with_first (record { line = n; it = s }) (read_in_range v l s e) (read_lines (version_after v s) (n + 1) ls) (later s)
    by (Err t) e same later = tt

module _ (text : List ℕ) (np : NamedPolicy) where
  of_built : (ss : List (Numbered SaidView)) → InRange ss → (r : Result NamedPolicy LinesFault) → build ss ≡ r → built (names_of (said_in ss)) r ≡ Ok np → IsWellFormed np
  of_built ss all (Ok q) b e =
      build_is_well_formed ss np (All-from_recursion (λ s. IsTrue (is_saying s.it)) ss all) (b ∙ ap (λ (x : Result NamedPolicy PolicyFault). elim x [ Ok p ↦ Ok p | Err f ↦ Ok q ]) e)
  of_built ss all (Err t) b e = absurd (cc e)

  of_lines : (r : Result (List (Numbered SaidView)) (Numbered TextKind)) → IfOk r InRange → by_lines r ≡ Ok np → IsWellFormed np
  of_lines (Ok ss) all e = of_built ss all (build ss) refl e
  of_lines (Err t) all e = absurd (cc e)

  pub well_formed : policy_read text ≡ Ok np → IsWellFormed np
  well_formed e = of_lines (read_lines Open 1 (lines_of text)) (in_range Open 1 (lines_of text)) e

pub fmt_keeps : FmtKeeps
fmt_keeps text out h short = by (policy_read text) refl
  where
    by : (r : Result NamedPolicy PolicyFault) → policy_read text ≡ r → (policy_read out ≡ policy_read text) × (fmt_end out ≡ ending 0 out)
    by (Ok np) e =
        let same : canonical_text np ≡ out = ap (λ (t : EndView). t.text) (sym (fmt_is text (Ok np) e) ∙ h) in
        let read : policy_read out ≡ Ok np = subst (λ (t : List ℕ). policy_read t ≡ Ok np) same (canonical_is_read np (well_formed text np e) (subst (λ (t : List ℕ). All (λ line. length line ≤ 4_096) (lines_of t)) (sym same) short)) in
        (read ∙ sym e, fmt_is out (Ok np) read ∙ ap (λ (t : List ℕ). ending 0 t) same)
    by (Err f) e = let is : 2 ≡ 0 = ap (λ (t : EndView). t.status) (sym (fmt_is text (Err f) e) ∙ h) in absurd (cc is)
