-- Reading a line and the spellings of sayings say the same.
use Rattle.std.proofs.Common.{◌≡◌, ◌≢◌, inl, inr, ℕ, zero, suc, ◌<◌, ◌≤◌, Bool, true, false, cond, not, ◌&&◌, ◌||◌, List, [], ◌∷◌, ◌++◌, length, Option, Some, None, Result, Ok, Err, refl, sym, ◌∙◌, ap, subst, arith, decimal, IsTrue, ◌↔◌}
use Rattle.std.specs.List.{list_any}
use Rattle.gtrbac_model.proofs.Elements.{split}
use Rattle.std.specs.Prelude.{codes, bytes_eq, nat_le, nat_lt, map, take, drop, Contains, IfOk, IfSome, option_map}
use Rattle.std.proofs.lemmas.Slice.Eq.{bytes_eq-Decides}
use Rattle.std.proofs.lemmas.Bool.{false≢true, le-leb, lt-ltb, ltb-true, ltb-false}
use Rattle.std.proofs.lemmas.Fmt.{decimal_digit}
use Rattle.gt_base.specs.Names.{is_name, name_in, number_from}
use Rattle.gt_base.specs.declared.policies.Form.TheVariants.{Each, Start, Span}
use Rattle.gt_base.specs.declared.limits.TheConstants.{LAST_MINUTE}
use Rattle.gtrbac_model.specs.Period.{Expr}
use Rattle.gtrbac_model.specs.Valid.{is_expr}
use Rattle.gt_text.specs.Lines.{is_longer}
use Rattle.gt_text.specs.Words.{words_of, are_silent}
use Rattle.civil_time.specs.Text.{civil_in}
use Rattle.civil_time.proofs.Texts.{texts_are_read}
use Rattle.periodic_expr.specs.declared.faults.ExprFault.{ExprFault}
use Rattle.periodic_expr.specs.declared.faults.ExprKind.{ExprKind}
use Rattle.periodic_expr.specs.declared.faults.ExprKind.TheVariants as kinds
use Rattle.periodic_expr.specs.Reading.{read_expr}
use Rattle.periodic_expr.proofs.Accepted.{said_both, fault_both}
use Rattle.periodic_expr.proofs.Stops.{syntax_both}
use Rattle.policy_words.specs.declared.faults.TextKind.{TextKind}
use Rattle.policy_words.specs.declared.faults.TextKind.TheVariants as faults
use Rattle.policy_words.specs.declared.parts.NamedHead.{NamedHead}
use Rattle.policy_words.specs.declared.parts.Item.{Item}
use Rattle.policy_words.specs.Wording.{◌>>=◌, by_verb, cond_at, delay_in}
use Rattle.policy_words.specs.Sayings.{SaidView, version, role, user, perm, period, limit, edge, cap, admin, opening, entry, trigger, said_words, is_formed, is_bounded, is_bodied, is_body, is_saying, names_edge}
use Rattle.policy_words.specs.declared.sayings.Said.{Said}
use Rattle.policy_words.specs.Seen.{seen_said}
use Rattle.policy_words.specs.Reading.{Bounds, verbs, said_by, said_of, some_said, read_said, formed, one_name, first_in, last_in, bounds_in, period_by, with_expr, expr_of_line, limit_in, edge_in, cap_in, opening_by, entry_in, trigger_in, trigger_by, with_body, linked_by, formed_in, version_in, version_by}
use Rattle.policy_words.specs.declared.versions.TextVersion.{TextVersion}
use Rattle.policy_words.specs.declared.parts.NamedFluent.TheVariants.{Enabled, Assigned, Granted, Limit, Edge}
use Rattle.policy_words.specs.Versions.{is_open, has_edges, is_allowed}
use Rattle.policy_words.specs.Spelling.{IsLoud, IsSilent, IsBound, HasBounds, Spells, first_words, words_that_begin, BeginsWith, IsVersion, IsFirstLine, IsPlaced, ExprFails, HasNoForm, IsSaid}
use Rattle.policy_lines.proofs.Truths.{and_true, not_true, some_is, none_some, taken}
use Rattle.gt_text.proofs.Decimals.{number_from-decimal}
use Rattle.policy_lines.proofs.ReadExprs.{read_valid}
use Rattle.policy_lines.proofs.SayingReads.{judged, is_no_period, saying_reads, bounds_read, trigger_reads, version_reads}
use Rattle.policy_lines.proofs.WrittenLines.{read_loud, judged_ok, allowed_ok, opening_ok, trigger_ok}
use Rattle.policy_lines.proofs.FormWords.{came, name_in_is, one_name_is, version_is, Formed, limit_is, edge_is, cap_is, enabled_is, assigned_is, granted_is, armed_is, linked_is, entry_is}
use Rattle.policy_lines.proofs.TriggerWords.{trigger_is}

-- what is spelled is read

zero_delay : delay_in (codes "after" ∷ codes "0" ∷ []) ≡ Some 0
zero_delay = ap (number_from 0 52_595_999) (sym (decimal_digit 0 (omega arith))) ∙ number_from-decimal 0 52_595_999 0 (omega arith) (omega arith) (omega arith)

module _ (v : TextVersion) (line : List ℕ) where
  by_words : (said : SaidView) → is_formed said ≡ true → is_no_period said ≡ true → words_of line ≡ said_words said → said_of v line (words_of line) ≡ judged v said
  by_words said h np e = ap (said_of v line) e ∙ saying_reads v line said h np

  spelled_trigger : (items : List Item) (h : NamedHead) (d : ℕ) → is_formed (trigger items h d) ≡ true → Spells (trigger items h d) line
      → said_of v line (words_of line) ≡ trigger_by (has_edges v) (Some (trigger items h d))
  spelled_trigger items h zero is (inl e) = by_words (trigger items h 0) is refl e
  spelled_trigger items h zero is (inr e) = ap (said_of v line) e ∙ ap (trigger_by (has_edges v)) (trigger_reads items h 0 (codes "after" ∷ codes "0" ∷ []) is zero_delay)
  spelled_trigger items h (suc d) is e = by_words (trigger items h (suc d)) is refl e

  bounded_said : (n : List ℕ) (f l : ℕ) → HasBounds line n f l → f ≤ l
      → said_of v line (words_of line) ≡ with_expr (record { name = n; first = f; last = l }) (read_expr (expr_of_line line))
  bounded_said n f l bounds le =
      bounds_read v line n f l bounds
      ∙ ap (λ b. cond b (Err faults.Bounds) (with_expr (record { name = n; first = f; last = l }) (read_expr (expr_of_line line))))
      (not_true (nat_lt l f) (λ t. absurd (omega (arith, le, ltb-true l f t))))

  spelled_said : (said : SaidView) → is_formed said ≡ true → Spells said line → is_bodied said ≡ true → IsPlaced v said → said_of v line (words_of line) ≡ Ok said
  spelled_said (version n) h e b placed = by_words (version n) h refl e ∙ judged_ok v (version n) h b placed
  spelled_said (role n) h e b placed = by_words (role n) h refl e
  spelled_said (user n) h e b placed = by_words (user n) h refl e
  spelled_said (perm n) h e b placed = by_words (perm n) h refl e
  spelled_said (period n f l x) h (bounds, le, says) b placed =
      bounded_said n f l bounds le ∙ ap (with_expr (record { name = n; first = f; last = l })) ((said_both (expr_of_line line) x).1 says)
  spelled_said (limit n prio c most during) h e b placed = by_words (limit n prio c most during) h refl e ∙ judged_ok v (limit n prio c most during) h b placed
  spelled_said (edge kind strong s j) h e b placed = by_words (edge kind strong s j) h refl e
  spelled_said (cap kind r n) h e b placed = by_words (cap kind r n) h refl e
  spelled_said (admin u) h e b placed = by_words (admin u) h refl e
  spelled_said (opening f) h e b placed = by_words (opening f) h refl e ∙ judged_ok v (opening f) h b placed
  spelled_said (entry f p hd) h e b placed = by_words (entry f p hd) h refl e ∙ judged_ok v (entry f p hd) h b placed
  spelled_said (trigger items hd d) h e b placed = spelled_trigger items hd d h e ∙ judged_ok v (trigger items hd d) h b placed

  -- no spelling is read as one without a form

  ok_form : (s : SaidView) → ◌≡◌ {A = Result SaidView TextKind} (Ok s) (Err faults.Form) → ⊥
  ok_form s e = cc

  version_form : (b : Bool) (n : ℕ) → version_by b (Some n) ≡ Err faults.Form → ⊥
  version_form true n e = ok_form (version n) e
  version_form false n e = cc

  expr_form : (b : Bounds) (r : Result Expr ExprFault) → with_expr b r ≡ Err faults.Form → ⊥
  expr_form b (Ok x) e = ok_form (period b.name b.first b.last x) e
  expr_form b (Err t) e = cc

  period_form : (b : Bounds) → period_by line (Some b) ≡ Err faults.Form → ⊥
  period_form b e =
      elim (taken (nat_lt b.last b.first) (Err faults.Bounds) (with_expr b (read_expr (expr_of_line line))) (Err faults.Form) e) [ inl (t, is) ↦ absurd (cc is) | inr (f, is) ↦ expr_form b (read_expr (expr_of_line line)) is ]

  body_form : (items : List Item) (h : NamedHead) (d : ℕ) → with_body (trigger items h d) ≡ Err faults.Form → ⊥
  body_form items h d e =
      elim (taken (is_body items) (Ok (trigger items h d)) (Err faults.Body) (Err faults.Form) e) [ inl (t, is) ↦ ok_form (trigger items h d) is | inr (f, is) ↦ absurd (cc is) ]

  module _ (form : said_of v line (words_of line) ≡ Err faults.Form) where
    spelled_form : (said : SaidView) → is_formed said ≡ true → is_allowed (has_edges v) said ≡ true → Spells said line → ⊥
    spelled_form (version n) h a e = version_form (is_open v) n (sym (by_words (version n) h refl e) ∙ form)
    spelled_form (role n) h a e = ok_form (role n) (sym (by_words (role n) h refl e) ∙ form)
    spelled_form (user n) h a e = ok_form (user n) (sym (by_words (user n) h refl e) ∙ form)
    spelled_form (perm n) h a e = ok_form (perm n) (sym (by_words (perm n) h refl e) ∙ form)
    spelled_form (period n f l x) h a (bounds, le, says) = period_form (record { name = n; first = f; last = l }) (sym (bounds_read v line n f l bounds) ∙ form)
    spelled_form (limit n prio c most during) h a e =
        let s = limit n prio c most during in ok_form s (sym (allowed_ok v s a) ∙ sym (by_words s h refl e) ∙ form)
    spelled_form (edge kind strong s j) h a e = ok_form (edge kind strong s j) (sym (by_words (edge kind strong s j) h refl e) ∙ form)
    spelled_form (cap kind r n) h a e = ok_form (cap kind r n) (sym (by_words (cap kind r n) h refl e) ∙ form)
    spelled_form (admin u) h a e = ok_form (admin u) (sym (by_words (admin u) h refl e) ∙ form)
    spelled_form (opening f) h a e = ok_form (opening f) (sym (opening_ok v f a) ∙ sym (by_words (opening f) h refl e) ∙ form)
    spelled_form (entry f p hd) h a e = let s = entry f p hd in ok_form s (sym (allowed_ok v s a) ∙ sym (by_words s h refl e) ∙ form)
    spelled_form (trigger items hd d) h a e = body_form items hd d (sym (trigger_ok v items hd d a) ∙ sym (spelled_trigger items hd d h e) ∙ form)

    bounds_form : (n : List ℕ) (f l : ℕ) → HasBounds line n f l → ⊥
    bounds_form n f l bounds = period_form (record { name = n; first = f; last = l }) (sym (bounds_read v line n f l bounds) ∙ form)

    no_form : (w : List ℕ) (ws : List (List ℕ)) → words_of line ≡ w ∷ ws → Contains (words_that_begin (has_edges v)) w → w ≢ codes "policy" → HasNoForm (has_edges v) line
    no_form w ws e known other = record { verb = (w, (ws, e), known, other); says_nothing = spelled_form; no_bounds = bounds_form }

-- what is read is spelled

-- a first word of one form, whose saying has neither bounds nor a body
is_other : List ℕ → Bool
is_other w = not (bytes_eq w (codes "policy") || bytes_eq w (codes "period") || bytes_eq w (codes "when"))

head_is : (w v : List ℕ) (ws vs : List (List ℕ)) → w ∷ ws ≡ v ∷ vs → w ≡ v
head_is w v ws vs e = cc

not_policy : (w : List ℕ) → is_other w ≡ true → w ≢ codes "policy"
unfolding is_other
not_policy w h e = false≢true (sym (ap is_other e) ∙ h)

-- a first word of a form that names no edge
is_free : List ℕ → Bool
is_free w =
    not (bytes_eq w (codes "limit") || bytes_eq w (codes "linked") || bytes_eq w (codes "each") || bytes_eq w (codes "start") || bytes_eq w (codes "span") || bytes_eq w (codes "when"))

allowed_by : (edges : Bool) (w : List ℕ) (ws : List (List ℕ)) (s : SaidView) → is_free w ≡ true → w ∷ ws ≡ said_words s → is_allowed edges s ≡ true
unfolding is_free
allowed_by edges w ws (version n) free e = refl
allowed_by edges w ws (role n) free e = refl
allowed_by edges w ws (user n) free e = refl
allowed_by edges w ws (perm n) free e = refl
allowed_by edges w ws (period n f l x) free e = refl
allowed_by edges w ws (limit n prio c most during) free e = absurd (false≢true (sym (ap is_free (head_is w (codes "limit") ws _ e)) ∙ free))
allowed_by edges w ws (edge kind strong s j) free e = refl
allowed_by edges w ws (cap kind r n) free e = refl
allowed_by edges w ws (admin u) free e = refl
allowed_by edges w ws (opening (Enabled r)) free e = refl
allowed_by edges w ws (opening (Assigned u r)) free e = refl
allowed_by edges w ws (opening (Granted q r)) free e = refl
allowed_by edges w ws (opening (Limit l)) free e = refl
allowed_by edges w ws (opening (Edge s j)) free e = absurd (false≢true (sym (ap is_free (head_is w (codes "linked") ws _ e)) ∙ free))
allowed_by edges w ws (entry Each p hd) free e = absurd (false≢true (sym (ap is_free (head_is w (codes "each") ws _ e)) ∙ free))
allowed_by edges w ws (entry Start p hd) free e = absurd (false≢true (sym (ap is_free (head_is w (codes "start") ws _ e)) ∙ free))
allowed_by edges w ws (entry Span p hd) free e = absurd (false≢true (sym (ap is_free (head_is w (codes "span") ws _ e)) ∙ free))
allowed_by edges w ws (trigger items hd d) free e = absurd (false≢true (sym (ap is_free (head_is w (codes "when") ws _ e)) ∙ free))

-- version 2 has all words that version 1 has
known_in : (edges : Bool) (w : List ℕ) → Contains first_words w → Contains (words_that_begin edges) w
known_in true w (k, l, is) = (suc k, omega (arith, l), is)
known_in false w known = known

abbrev Absent : List (List ℕ) → List ℕ → Type 0
Absent [] w = Unit {0}
Absent (x ∷ xs) w = (x ≡ w → ⊥) × Absent xs w

-- one more word among others
absent_with : (k : ℕ) (xs : List (List ℕ)) (x w : List ℕ) → (x ≡ w → ⊥) → Absent xs w → Absent (take k xs ++ x ∷ drop k xs) w
absent_with zero xs x w one none = (one, none)
absent_with (suc k) [] x w one none = (one, tt)
absent_with (suc k) (y ∷ ys) x w one none = (none.0, absent_with k ys x w one none.1)

absent_without : (k : ℕ) (xs : List (List ℕ)) (x w : List ℕ) → Absent (take k xs ++ x ∷ drop k xs) w → (x ≡ w → ⊥) × Absent xs w
absent_without zero xs x w none = none
absent_without (suc k) [] x w none = (none.0, tt)
absent_without (suc k) (y ∷ ys) x w none = let more = absent_without k ys x w none.1 in (more.0, (none.0, more.1))

absent_from : (xs : List (List ℕ)) (w : List ℕ) → ((v : List ℕ) → Contains xs v → v ≡ w → ⊥) → Absent xs w
absent_from [] w none = tt
absent_from (x ∷ xs) w none = ((λ e. none x (0, omega arith, refl) e), absent_from xs w (λ v known e. none v (suc known.0, omega (arith, known.1), known.2) e))

apart : (xs : List (List ℕ)) (w : List ℕ) → Absent xs w → (v : List ℕ) → Contains xs v → v ≡ w → ⊥
apart [] w none v known e = absurd (omega (arith, known.1))
apart (x ∷ xs) w none v (zero, l, is) e = none.0 (is ∙ e)
apart (x ∷ xs) w none v (suc k, l, is) e = apart xs w none.1 v (k, omega (arith, l), is) e

absent_words : (edges : Bool) (w : List ℕ) → (codes "linked" ≡ w → ⊥) × Absent first_words w → Absent (words_that_begin edges) w
absent_words true w none = none
absent_words false w none = none.1

differ : (w : List ℕ) (xs : List (List ℕ)) → list_any (λ x. bytes_eq x w) xs ≡ false → Absent xs w
differ w [] h = tt
differ w (x ∷ xs) h = elim (bytes_eq x w) as (λ b. bytes_eq x w ≡ b → (b || list_any (λ x. bytes_eq x w) xs) ≡ false → Absent (x ∷ xs) w) [
  | true ↦ (λ is h. absurd (false≢true (sym h)))
  | false ↦ (λ is h. ((λ e. false≢true (sym is ∙ ap (λ x. bytes_eq x w) e ∙ itself w)), differ w xs h))
] refl h
  where
    itself : (w : List ℕ) → bytes_eq w w ≡ true
    itself w = (bytes_eq-Decides w w).1 refl

module _ (v : TextVersion) (line : List ℕ) (loud : IsLoud 4_096 line) where
  placed_as : (s : SaidView) → (IsVersion s → ⊥) → is_allowed (has_edges v) s ≡ true → IsPlaced v s
  placed_as s none allowed = (by (is_open v), allowed)
    where
      by : (b : Bool) → IsFirstLine b s
      by true = tt
      by false = none

  other_said : (w : List ℕ) (ws : List (List ℕ)) (s : SaidView) → words_of line ≡ w ∷ ws → is_other w ≡ true → is_allowed (has_edges v) s ≡ true → is_formed s ≡ true → w ∷ ws ≡ said_words s
      → IsSaid v line (Ok (Some s))
  unfolding is_other
  other_said w ws (version n) words other a h e = absurd (false≢true (sym (ap is_other (head_is w (codes "policy") ws (decimal n ∷ []) e)) ∙ other))
  other_said w ws (role n) words other a h e = (loud, h, words ∙ e, refl, placed_as (role n) (λ v. v) a)
  other_said w ws (user n) words other a h e = (loud, h, words ∙ e, refl, placed_as (user n) (λ v. v) a)
  other_said w ws (perm n) words other a h e = (loud, h, words ∙ e, refl, placed_as (perm n) (λ v. v) a)
  other_said w ws (period n f l x) words other a h e = absurd (false≢true (sym (ap is_other (head_is w (codes "period") ws _ e)) ∙ other))
  other_said w ws (limit n prio c most during) words other a h e = (loud, h, words ∙ e, refl, placed_as (limit n prio c most during) (λ v. v) a)
  other_said w ws (edge kind strong s j) words other a h e = (loud, h, words ∙ e, refl, placed_as (edge kind strong s j) (λ v. v) a)
  other_said w ws (cap kind r n) words other a h e = (loud, h, words ∙ e, refl, placed_as (cap kind r n) (λ v. v) a)
  other_said w ws (admin u) words other a h e = (loud, h, words ∙ e, refl, placed_as (admin u) (λ v. v) a)
  other_said w ws (opening f) words other a h e = (loud, h, words ∙ e, refl, placed_as (opening f) (λ v. v) a)
  other_said w ws (entry f p hd) words other a h e = (loud, h, words ∙ e, refl, placed_as (entry f p hd) (λ v. v) a)
  other_said w ws (trigger items hd d) words other a h e = absurd (false≢true (sym (ap is_other (head_is w (codes "when") ws _ e)) ∙ other))

  formed_as : (w : List ℕ) (ws : List (List ℕ)) (o : Option SaidView) → words_of line ≡ w ∷ ws → is_other w ≡ true → Contains (words_that_begin (has_edges v)) w
      → ((s : SaidView) → o ≡ Some s → is_allowed (has_edges v) s ≡ true) → ((s : SaidView) → o ≡ Some s → Formed w ws s) → said_of v line (w ∷ ws) ≡ formed o
      → IsSaid v line (some_said (formed o))
  formed_as w ws None words other known allowed spells reads =
      (loud, no_form v line (ap (said_of v line) words ∙ reads) w ws words known (not_policy w other))
  formed_as w ws (Some s) words other known allowed spells reads = let is = spells s refl in other_said w ws s words other (allowed s refl) is.formed is.words

  -- a form that names no edge
  formed_right : (w : List ℕ) (ws : List (List ℕ)) (o : Option SaidView) → words_of line ≡ w ∷ ws → is_other w ≡ true → is_free w ≡ true → Contains first_words w
      → ((s : SaidView) → o ≡ Some s → Formed w ws s) → said_of v line (w ∷ ws) ≡ formed o → IsSaid v line (some_said (formed o))
  formed_right w ws o words other free known spells reads =
      formed_as w ws o words other (known_in (has_edges v) w known) (λ s e. allowed_by (has_edges v) w ws s free (spells s e).words) spells reads

  -- a form that may name one
  formed_in_right : (w : List ℕ) (ws : List (List ℕ)) (o : Option SaidView) → words_of line ≡ w ∷ ws → is_other w ≡ true → Contains first_words w
      → ((s : SaidView) → o ≡ Some s → Formed w ws s) → said_of v line (w ∷ ws) ≡ formed_in (has_edges v) o → IsSaid v line (some_said (formed_in (has_edges v) o))
  formed_in_right w ws None words other known spells reads =
      (loud, no_form v line (ap (said_of v line) words ∙ reads) w ws words (known_in (has_edges v) w known) (not_policy w other))
  formed_in_right w ws (Some s) words other known spells reads = by (is_allowed (has_edges v) s) refl
    where
      by : (b : Bool) → is_allowed (has_edges v) s ≡ b → IsSaid v line (some_said (cond b (Ok s) (Err faults.Form)))
      by true a = let is = spells s refl in other_said w ws s words other a is.formed is.words
      by false a =
          (loud, no_form v line (ap (said_of v line) words ∙ reads ∙ ap (λ b. cond b (Ok s) (Err faults.Form)) a) w ws words (known_in (has_edges v) w known) (not_policy w other))

  -- an edge that is linked at first

  linked_right : (ws : List (List ℕ)) → words_of line ≡ codes "linked" ∷ ws → IsSaid v line (some_said (linked_by (has_edges v) (opening_by (cond_at (codes "linked" ∷ ws)))))
  unfolding is_other
  linked_right ws words = by (has_edges v) refl
    where
      two : (b : Bool) (s : SaidView) → has_edges v ≡ b → b ≡ true → is_allowed (has_edges v) s ≡ true
      two b s is t = ap (λ b. not (names_edge s) || b) (is ∙ t) ∙ or_true (not (names_edge s))
        where
          or_true : (b : Bool) → (b || true) ≡ true
          or_true true = refl
          or_true false = refl

      by : (b : Bool) → has_edges v ≡ b → IsSaid v line (some_said (linked_by b (opening_by (cond_at (codes "linked" ∷ ws)))))
      by true is =
          formed_as (codes "linked") ws (opening_by (cond_at (codes "linked" ∷ ws))) words refl (subst (λ b. Contains (words_that_begin b) (codes "linked")) (sym is) (0, omega arith, refl)) (λ s e. two true s is refl)
          (linked_is ws) (ap (λ b. linked_by b (opening_by (cond_at (codes "linked" ∷ ws)))) is)
      by false is =
          (loud, λ u known begins. apart first_words (codes "linked") (differ (codes "linked") first_words refl) u (subst (λ b. Contains (words_that_begin b) u) is known) (head_is u (codes "linked") begins.0 ws (sym begins.1 ∙ words)))

  named_is : (verb : List ℕ) (build : List ℕ → SaidView) (ws : List (List ℕ)) (s : SaidView) → ((n : List ℕ) → is_name n ≡ true → is_formed (build n) ≡ true)
      → ((n : List ℕ) → verb ∷ n ∷ [] ≡ said_words (build n)) → one_name build ws ≡ Some s → Formed verb ws s
  named_is verb build ws s in_range spells e =
      let n = one_name_is build ws s e in
      subst (Formed verb ws) n.built (record { formed = in_range n.it n.name; words = ap (λ ws. verb ∷ ws) n.words ∙ spells n.it })

  -- a version

  version_right : (ws : List (List ℕ)) → words_of line ≡ codes "policy" ∷ ws → IsSaid v line (some_said (version_by (is_open v) (version_in ws)))
  version_right ws words = by (is_open v) refl (version_in ws) refl
    where
      tail_is : (n : ℕ) → codes "policy" ∷ ws ≡ codes "policy" ∷ decimal n ∷ [] → ws ≡ decimal n ∷ []
      tail_is n e = cc

      by : (b : Bool) → is_open v ≡ b → (o : Option ℕ) → version_in ws ≡ o → IsSaid v line (some_said (version_by b o))
      by true is (Some n) e = let f = version_is ws n e in (loud, f.formed, words ∙ f.words, refl, (subst (λ b. IsFirstLine b (version n)) (sym is) tt, refl))
      by true is None e =
          (loud, (ws, words), λ opens n formed one. none_some (sym e ∙ ap version_in (tail_is n (sym words ∙ one)) ∙ version_reads n formed))
      by false is (Some n) e = (loud, (ws, words), λ opens n formed one. false≢true (sym is ∙ opens))
      by false is None e = (loud, (ws, words), λ opens n formed one. false≢true (sym is ∙ opens))

  -- a trigger

  trigger_right : (ws : List (List ℕ)) → words_of line ≡ codes "when" ∷ ws → IsSaid v line (some_said (trigger_by (has_edges v) (trigger_in ws)))
  trigger_right ws words = by (trigger_in ws) refl
    where
      no_trigger : said_of v line (codes "when" ∷ ws) ≡ Err faults.Form → IsSaid v line (Err faults.Form)
      no_trigger is =
          (loud, no_form v line (ap (said_of v line) words ∙ is) (codes "when") ws words (known_in (has_edges v) (codes "when") (16, omega arith, refl)) (λ e. false≢true (ap (λ w. bytes_eq w (codes "policy")) e)))

      body : (items : List Item) (h : NamedHead) (d : ℕ) → is_formed (trigger items h d) ≡ true → is_allowed (has_edges v) (trigger items h d) ≡ true → Spells (trigger items h d) line
          → (b : Bool) → is_body items ≡ b
          → IsSaid v line (some_said (cond b (Ok (trigger items h d)) (Err faults.Body)))
      body items h d is a spells true e = (loud, is, spells, e, placed_as (trigger items h d) (λ v. v) a)
      body items h d is a spells false e = (loud, (trigger items h d, is, a, spells, e))

      allow : (items : List Item) (h : NamedHead) (d : ℕ) → trigger_in ws ≡ Some (trigger items h d) → is_formed (trigger items h d) ≡ true → Spells (trigger items h d) line
          → (a : Bool) → is_allowed (has_edges v) (trigger items h d) ≡ a
          → IsSaid v line (some_said (cond a (with_body (trigger items h d)) (Err faults.Form)))
      allow items h d read is spells true a = body items h d is a spells (is_body items) refl
      allow items h d read is spells false a =
          no_trigger (ap (trigger_by (has_edges v)) read ∙ ap (λ a. cond a (with_body (trigger items h d)) (Err faults.Form)) a)

      by : (o : Option SaidView) → trigger_in ws ≡ o → IsSaid v line (some_said (trigger_by (has_edges v) o))
      by None e = no_trigger (ap (trigger_by (has_edges v)) e)
      by (Some s) e =
          let t = trigger_is line ws s words e in
          subst (λ s. IsSaid v line (some_said (trigger_by (has_edges v) (Some s)))) t.built
          (allow t.items t.head t.delay (e ∙ ap (λ s. Some s) (sym t.built)) t.formed t.spelled (is_allowed (has_edges v) (trigger t.items t.head t.delay)) refl)

  -- a period

  first_is : (w : List ℕ) (t : ℕ) → first_in w ≡ Some t → IsBound 0 w t
  first_is w t e =
      elim (taken (bytes_eq w (codes "*")) (Some 0) (civil_in w) (Some t) e) [
        | inl (star, is) ↦ inl ((bytes_eq-Decides w (codes "*")).0 star, sym (some_is is))
        | inr (other, is) ↦ inr ((texts_are_read w t).0 is)
      ]

  last_is : (w : List ℕ) (t : ℕ) → last_in w ≡ Some t → IsBound LAST_MINUTE w t
  last_is w t e =
      elim (taken (bytes_eq w (codes "*")) (Some LAST_MINUTE) (civil_in w) (Some t) e) [
        | inl (star, is) ↦ inl ((bytes_eq-Decides w (codes "*")).0 star, sym (some_is is))
        | inr (other, is) ↦ inr ((texts_are_read w t).0 is)
      ]

  bounds_are : (ws : List (List ℕ)) (b : Bounds) → words_of line ≡ codes "period" ∷ ws → bounds_in ws ≡ Some b → HasBounds line b.name b.first b.last
  bounds_are [] b words e = absurd (none_some e)
  bounds_are (n ∷ []) b words e = absurd (none_some e)
  bounds_are (n ∷ f ∷ []) b words e = absurd (none_some e)
  bounds_are (n ∷ f ∷ l ∷ ws) b words e =
      let name = came (name_in n) _ b e in
      let begin = came (first_in f) _ b name.then in
      let end = came (last_in l) _ b begin.then in
      let n_is = name_in_is n name.it name.was in
      subst (λ (b : Bounds). HasBounds line b.name b.first b.last) (some_is end.then)
      (record {
        name = n_is.0;
        first_word = f;
        last_word = l;
        words = ap (take 4) (words ∙ ap (λ n. codes "period" ∷ n ∷ f ∷ l ∷ ws) n_is.1);
        is_first = first_is f begin.it begin.was;
        is_last = last_is l end.it end.was;
      })

  bound_low : (open_end : ℕ) (w : List ℕ) (t : ℕ) → open_end ≤ LAST_MINUTE → IsBound open_end w t → t ≤ LAST_MINUTE
  bound_low open_end w t le (inl e) = omega (arith, le, e.1)
  bound_low open_end w t le (inr e) = e.0

  -- what is wrong with an expression
  fails : (text : List ℕ) (t : ExprFault) → read_expr text ≡ Err t → ExprFails text t
  fails text t e = by t.kind refl
    where
      with_kind : ExprKind → Result Expr ExprFault
      with_kind k = Err (record { at = t.at; kind = k })

      known : t.kind ≢ kinds.Syntax → ExprFails text t
      known other = inr (other, (fault_both text t other).0 e)

      by : (k : ExprKind) → t.kind ≡ k → ExprFails text t
      by kinds.Syntax is = inl (is, (syntax_both text t.at).0 (e ∙ ap (λ (k : ExprKind). with_kind k) is))
      by kinds.FirstNotAll is = known (λ s. absurd (cc (is, s)))
      by kinds.NotFiner is = known (λ s. absurd (cc (is, s)))
      by kinds.ZeroIndex is = known (λ s. absurd (cc (is, s)))
      by kinds.EmptySet is = known (λ s. absurd (cc (is, s)))
      by kinds.BadLength is = known (λ s. absurd (cc (is, s)))
      by kinds.Memory is = known (λ s. absurd (cc (is, s)))

  period_right : (ws : List (List ℕ)) → words_of line ≡ codes "period" ∷ ws → IsSaid v line (some_said (period_by line (bounds_in ws)))
  period_right ws words = by (bounds_in ws) refl
    where
      in_range : (b : Bounds) (x : Expr) → HasBounds line b.name b.first b.last → is_expr x ≡ true → is_formed (period b.name b.first b.last x) ≡ true
      in_range b x bounds valid =
          and_true (is_name b.name && nat_le b.first LAST_MINUTE && nat_le b.last LAST_MINUTE) (is_expr x)
          (and_true (is_name b.name && nat_le b.first LAST_MINUTE) (nat_le b.last LAST_MINUTE)
          (and_true (is_name b.name) (nat_le b.first LAST_MINUTE) bounds.name (le-leb b.first LAST_MINUTE (bound_low 0 bounds.first_word b.first (omega arith) bounds.is_first)))
          (le-leb b.last LAST_MINUTE (bound_low LAST_MINUTE bounds.last_word b.last (omega arith) bounds.is_last))) valid

      read : (b : Bounds) → HasBounds line b.name b.first b.last → b.first ≤ b.last → (r : Result Expr ExprFault) → read_expr (expr_of_line line) ≡ r → IsSaid v line (some_said (with_expr b r))
      read b bounds le (Ok x) e =
          (loud, in_range b x bounds (read_valid (expr_of_line line) x e), (bounds, le, (said_both (expr_of_line line) x).0 e), refl, placed_as (period b.name b.first b.last x) (λ v. v) refl)
      read b bounds le (Err t) e = (loud, (b.name, b.first, b.last, bounds, le, fails (expr_of_line line) t e))

      order : (b : Bounds) → HasBounds line b.name b.first b.last → (t : Bool) → nat_lt b.last b.first ≡ t
          → IsSaid v line (some_said (cond t (Err faults.Bounds) (with_expr b (read_expr (expr_of_line line)))))
      order b bounds true e = (loud, (b.name, b.first, b.last, bounds, ltb-true b.last b.first e))
      order b bounds false e = read b bounds (ltb-false b.last b.first e) (read_expr (expr_of_line line)) refl

      by : (o : Option Bounds) → bounds_in ws ≡ o → IsSaid v line (some_said (period_by line o))
      by None e = (loud, no_form v line (ap (said_of v line) words ∙ ap (period_by line) e) (codes "period") ws words (known_in (has_edges v) (codes "period") (4, omega arith, refl)) (λ e. false≢true (ap (λ w. bytes_eq w (codes "policy")) e)))
      by (Some b) e = order b (bounds_are ws b words e) (nat_lt b.last b.first) refl

  -- any first word

  abbrev Verb : Type 0
  Verb = List ℕ × (List (List ℕ) → Option (Result SaidView TextKind))

  abbrev Right : Verb → Type 0
  Right u = (ws : List (List ℕ)) → words_of line ≡ u.0 ∷ ws → IsSaid v line (some_said (said_by (u.1 ws)))

  abbrev AllRight : List Verb → Type 0
  AllRight [] = Unit {0}
  AllRight (u ∷ us) = Right u × AllRight us

  all_right : AllRight (verbs v line)
  unfolding is_other is_free
  all_right = (
    version_right,
    (
      λ ws e. formed_right (codes "role") ws (one_name (λ n. role n) ws) e refl refl (1, omega arith, refl) (λ s. named_is (codes "role") (λ n. role n) ws s (λ n h. h) (λ n. refl)) refl,
      (
        λ ws e. formed_right (codes "user") ws (one_name (λ n. user n) ws) e refl refl (2, omega arith, refl) (λ s. named_is (codes "user") (λ n. user n) ws s (λ n h. h) (λ n. refl)) refl,
        (
          λ ws e. formed_right (codes "perm") ws (one_name (λ n. perm n) ws) e refl refl (3, omega arith, refl) (λ s. named_is (codes "perm") (λ n. perm n) ws s (λ n h. h) (λ n. refl)) refl,
          (
            period_right,
            (
              λ ws e. formed_in_right (codes "limit") ws (limit_in ws) e refl (5, omega arith, refl) (limit_is ws) refl,
              (
                λ ws e. formed_right (codes "edge") ws (edge_in ws) e refl refl (6, omega arith, refl) (edge_is ws) refl,
                (
                  λ ws e. formed_right (codes "cap") ws (cap_in ws) e refl refl (7, omega arith, refl) (cap_is ws) refl,
                  (
                    λ ws e. formed_right (codes "admin") ws (one_name (λ n. admin n) ws) e refl refl (8, omega arith, refl) (λ s. named_is (codes "admin") (λ n. admin n) ws s (λ n h. h) (λ n. refl)) refl,
                    (
                      λ ws e. formed_right (codes "enabled") ws (opening_by (cond_at (codes "enabled" ∷ ws))) e refl refl (9, omega arith, refl) (enabled_is ws) refl,
                      (
                        λ ws e. formed_right (codes "assigned") ws (opening_by (cond_at (codes "assigned" ∷ ws))) e refl refl (10, omega arith, refl) (assigned_is ws) refl,
                        (
                          λ ws e. formed_right (codes "granted") ws (opening_by (cond_at (codes "granted" ∷ ws))) e refl refl (11, omega arith, refl) (granted_is ws) refl,
                          (
                            λ ws e. formed_right (codes "armed") ws (opening_by (cond_at (codes "armed" ∷ ws))) e refl refl (12, omega arith, refl) (armed_is ws) refl,
                            (
                              linked_right,
                              (
                                λ ws e. formed_in_right (codes "each") ws (entry_in Each ws) e refl (13, omega arith, refl) (λ s. entry_is Each (codes "each") ws s (λ p h. refl)) refl,
                                (
                                  λ ws e. formed_in_right (codes "start") ws (entry_in Start ws) e refl (14, omega arith, refl) (λ s. entry_is Start (codes "start") ws s (λ p h. refl)) refl,
                                  (
                                    λ ws e. formed_in_right (codes "span") ws (entry_in Span ws) e refl (15, omega arith, refl) (λ s. entry_is Span (codes "span") ws s (λ p h. refl)) refl,
                                    (trigger_right, tt),
                                  ),
                                ),
                              ),
                            ),
                          ),
                        ),
                      ),
                    ),
                  ),
                ),
              ),
            ),
          ),
        ),
      ),
    ),
  )

  word_fault : (w : List ℕ) (ws : List (List ℕ)) → words_of line ≡ w ∷ ws → Absent (map (λ u. u.0) (verbs v line)) w → IsSaid v line (Err faults.Word)
  word_fault w ws words absent = (
    loud,
    λ u known begins.
        apart (words_that_begin (has_edges v)) w (absent_words (has_edges v) w (absent_without 13 first_words (codes "linked") w absent)) u known (head_is u w begins.0 ws (sym begins.1 ∙ words)),
  )

  among : (us : List Verb) (w : List ℕ) (ws : List (List ℕ)) → AllRight us → words_of line ≡ w ∷ ws → (Absent (map (λ u. u.0) us) w → IsSaid v line (Err faults.Word))
      → IsSaid v line (some_said (said_by (◌>>=◌ {A = List (List ℕ) → Option (Result SaidView TextKind)} (by_verb us w) (λ reads. reads ws))))
  among [] w ws right words none = none tt
  among (u ∷ us) w ws right words none =
      by (λ e. among us w ws right.1 words (λ rest. none ((λ is. false≢true (sym e ∙ (bytes_eq-Decides u.0 w).1 is)), rest))) (bytes_eq u.0 w) refl
    where
      by : (bytes_eq u.0 w ≡ false → IsSaid v line (some_said (said_by (◌>>=◌ {A = List (List ℕ) → Option (Result SaidView TextKind)} (by_verb us w) (λ reads. reads ws))))) → (b : Bool) → bytes_eq u.0 w ≡ b
          → IsSaid v line (some_said (said_by (◌>>=◌ {A = List (List ℕ) → Option (Result SaidView TextKind)} (cond b (Some u.1) (by_verb us w)) (λ reads. reads ws))))
      by more true e = right.0 ws (words ∙ ap (λ w. w ∷ ws) (sym ((bytes_eq-Decides u.0 w).0 e)))
      by more false e = more e

  said_right : (w : List ℕ) (ws : List (List ℕ)) → words_of line ≡ w ∷ ws → IsSaid v line (some_said (said_of v line (w ∷ ws)))
  said_right w ws words = among (verbs v line) w ws all_right words (word_fault w ws words)

  -- where it begins with none of the first words

  none_among : (us : List Verb) (w : List ℕ) → Absent (map (λ u. u.0) us) w → by_verb us w ≡ None
  none_among [] w none = refl
  none_among (u ∷ us) w none =
      ap (λ b. cond b (Some u.1) (by_verb us w))
      (not_true (bytes_eq u.0 w) (λ t. none.0 ((bytes_eq-Decides u.0 w).0 t))) ∙ none_among us w none.1

  no_word : ((w : List ℕ) → Contains (words_that_begin (has_edges v)) w → BeginsWith line w → ⊥) → (w : List ℕ) (ws : List (List ℕ)) → words_of line ≡ w ∷ ws → said_of v line (w ∷ ws) ≡ Err faults.Word
  no_word none w ws words = split (bytes_eq (codes "linked") w) (λ t. known (sym ((bytes_eq-Decides (codes "linked") w).0 t)) (has_edges v) refl) (λ f. other (λ e. false≢true (sym f ∙ (bytes_eq-Decides (codes "linked") w).1 e)))
    where
      begins : (u : List ℕ) → u ≡ w → BeginsWith line u
      begins u e = (ws, words ∙ ap (λ w. w ∷ ws) (sym e))

      known : w ≡ codes "linked" → (b : Bool) → has_edges v ≡ b → said_of v line (w ∷ ws) ≡ Err faults.Word
      known e true is = absurd (none (codes "linked") (subst (λ b. Contains (words_that_begin b) (codes "linked")) (sym is) (0, omega arith, refl)) (begins (codes "linked") (sym e)))
      known e false is = ap (λ w. said_of v line (w ∷ ws)) e ∙ ap (λ b. linked_by b (opening_by (cond_at (codes "linked" ∷ ws)))) is

      other : (codes "linked" ≡ w → ⊥) → said_of v line (w ∷ ws) ≡ Err faults.Word
      other one =
          ap (λ (o : Option (List (List ℕ) → Option (Result SaidView TextKind))). said_by (◌>>=◌ {A = List (List ℕ) → Option (Result SaidView TextKind)} o (λ reads. reads ws)))
          (none_among (verbs v line) w
          (absent_with 13 first_words (codes "linked") w one (absent_from first_words w (λ u known e. none u (known_in (has_edges v) u known) (begins u e)))))

-- both ways

sound : (v : TextVersion) (line : List ℕ) → IsSaid v line (read_said v line)
sound v line = by_length (is_longer 4_096 line) refl
  where
    by_words_of : (ws : List (List ℕ)) → words_of line ≡ ws → IsLoud 4_096 line → IsSaid v line (some_said (said_of v line ws))
    by_words_of [] e loud = absurd (false≢true (sym loud.loud ∙ ap are_silent e))
    by_words_of (w ∷ ws) e loud = said_right v line loud w ws e

    by_silence : is_longer 4_096 line ≡ false → (b : Bool) → are_silent (words_of line) ≡ b → IsSaid v line (cond b (Ok None) (some_said (said_of v line (words_of line))))
    by_silence short true e = record { short = ltb-false 4_096 (length line) short; silent = e }
    by_silence short false e = by_words_of (words_of line) refl (record { short = ltb-false 4_096 (length line) short; loud = e })

    by_length : (b : Bool) → is_longer 4_096 line ≡ b
        → IsSaid v line (cond b (Err faults.Long) (cond (are_silent (words_of line)) (Ok None) (some_said (said_of v line (words_of line)))))
    by_length true e = ltb-true 4_096 (length line) e
    by_length false e = by_silence e (are_silent (words_of line)) refl

loud_read : (v : TextVersion) (line : List ℕ) → IsLoud 4_096 line → read_said v line ≡ some_said (said_of v line (words_of line))
loud_read v line loud = read_loud v line loud.short loud.loud

-- no form: each other answer is ruled out
form_read : (v : TextVersion) (line : List ℕ) → IsLoud 4_096 line → HasNoForm (has_edges v) line → said_of v line (words_of line) ≡ Err faults.Form
form_read v line loud none =
    by (said_of v line (words_of line)) refl (subst (IsSaid v line) (loud_read v line loud) (sound v line))
  where
    by : (r : Result SaidView TextKind) → said_of v line (words_of line) ≡ r → IsSaid v line (some_said r) → said_of v line (words_of line) ≡ Err faults.Form
    by (Ok s) e is = absurd (none.says_nothing s is.1 is.4.1 is.2)
    by (Err faults.Long) e is = absurd (omega (arith, loud.short, is))
    by (Err faults.Version) e is = absurd (none.verb.3 (head_is none.verb.0 (codes "policy") none.verb.1.0 is.1.0 (sym none.verb.1.1 ∙ is.1.1)))
    by (Err faults.Word) e is = absurd (is.1 none.verb.0 none.verb.2 none.verb.1)
    by (Err faults.Form) e is = e
    by (Err faults.Body) e is = absurd (none.says_nothing is.1.0 is.1.1 is.1.2 is.1.3)
    by (Err faults.Bounds) e is = absurd (none.no_bounds is.1.0 is.1.1 is.1.2 is.1.3)
    by (Err (faults.Expr t)) e is = absurd (none.no_bounds is.1.0 is.1.1 is.1.2 is.1.3)
    by (Err faults.Memory) e is = absurd is

silent_read : (v : TextVersion) (line : List ℕ) → IsSilent 4_096 line → read_said v line ≡ Ok None
silent_read v line is =
    ap (λ b. cond b (Err faults.Long) (cond (are_silent (words_of line)) (Ok None) (some_said (said_of v line (words_of line))))) (not_true (is_longer 4_096 line) (λ t. absurd (omega (arith, is.short, ltb-true 4_096 (length line) t))))
    ∙ ap (λ b. cond b (Ok None) (some_said (said_of v line (words_of line)))) is.silent

long_read : (v : TextVersion) (line : List ℕ) → 4_096 < length line → read_said v line ≡ Err faults.Long
long_read v line long =
    ap (λ b. cond b (Err faults.Long) (cond (are_silent (words_of line)) (Ok None) (some_said (said_of v line (words_of line))))) (lt-ltb 4_096 (length line) long)

version_read : (v : TextVersion) (line : List ℕ) (ws : List (List ℕ)) → words_of line ≡ codes "policy" ∷ ws
    → (IsTrue (is_open v) → (n : ℕ) → IsTrue (is_formed (version n)) → words_of line ≢ said_words (version n)) → said_of v line (words_of line) ≡ Err faults.Version
version_read v line ws e other = ap (said_of v line) e ∙ by (is_open v) refl (version_in ws) refl
  where
    by : (b : Bool) → is_open v ≡ b → (o : Option ℕ) → version_in ws ≡ o → version_by b o ≡ Err faults.Version
    by true opens (Some n) is = let f = version_is ws n is in absurd (other opens n f.formed (e ∙ f.words))
    by true opens None is = refl
    by false opens (Some n) is = refl
    by false opens None is = refl

word_read : (v : TextVersion) (line : List ℕ) → IsLoud 4_096 line → ((w : List ℕ) → Contains (words_that_begin (has_edges v)) w → BeginsWith line w → ⊥) → said_of v line (words_of line) ≡ Err faults.Word
word_read v line loud none = by (words_of line) refl
  where
    by : (ws : List (List ℕ)) → words_of line ≡ ws → said_of v line (words_of line) ≡ Err faults.Word
    by [] e = absurd (false≢true (sym loud.loud ∙ ap are_silent e))
    by (w ∷ ws) e = ap (said_of v line) e ∙ no_word v line loud none w ws e

body_read : (v : TextVersion) (line : List ℕ) (said : SaidView) → is_formed said ≡ true → is_allowed (has_edges v) said ≡ true → Spells said line → is_bodied said ≡ false → said_of v line (words_of line) ≡ Err faults.Body
body_read v line (version n) h a e b = absurd (false≢true (sym b))
body_read v line (role n) h a e b = absurd (false≢true (sym b))
body_read v line (user n) h a e b = absurd (false≢true (sym b))
body_read v line (perm n) h a e b = absurd (false≢true (sym b))
body_read v line (period n f l x) h a e b = absurd (false≢true (sym b))
body_read v line (limit n prio c most during) h a e b = absurd (false≢true (sym b))
body_read v line (edge kind strong s j) h a e b = absurd (false≢true (sym b))
body_read v line (cap kind r n) h a e b = absurd (false≢true (sym b))
body_read v line (admin u) h a e b = absurd (false≢true (sym b))
body_read v line (opening f) h a e b = absurd (false≢true (sym b))
body_read v line (entry f p hd) h a e b = absurd (false≢true (sym b))
body_read v line (trigger items hd d) h a e b =
    spelled_trigger v line items hd d h e ∙ trigger_ok v items hd d a ∙ ap (λ t. cond t (Ok (trigger items hd d)) (Err faults.Body)) b

bounds_fault : (v : TextVersion) (line n : List ℕ) (f l : ℕ) → HasBounds line n f l → l < f → said_of v line (words_of line) ≡ Err faults.Bounds
bounds_fault v line n f l bounds lt =
    bounds_read v line n f l bounds
    ∙ ap (λ b. cond b (Err faults.Bounds) (with_expr (record { name = n; first = f; last = l }) (read_expr (expr_of_line line)))) (lt-ltb l f lt)

expr_fault : (text : List ℕ) (t : ExprFault) → ExprFails text t → read_expr text ≡ Err t
expr_fault text t (inl (kind, is)) = (syntax_both text t.at).1 is ∙ ap (λ (k : ExprKind). Err (record { at = t.at; kind = k })) (sym kind)
expr_fault text t (inr (other, is)) = (fault_both text t other).1 is

complete : (v : TextVersion) (line : List ℕ) (r : Result (Option SaidView) TextKind) → IsSaid v line r → read_said v line ≡ r
complete v line (Ok None) is = silent_read v line is
complete v line (Ok (Some said)) (loud, h, spells, b, placed) = loud_read v line loud ∙ ap some_said (spelled_said v line said h spells b placed)
complete v line (Err faults.Long) long = long_read v line long
complete v line (Err faults.Version) (loud, begins, other) = loud_read v line loud ∙ ap some_said (version_read v line begins.0 begins.1 other)
complete v line (Err faults.Word) (loud, none) = loud_read v line loud ∙ ap some_said (word_read v line loud none)
complete v line (Err faults.Form) (loud, none) = loud_read v line loud ∙ ap some_said (form_read v line loud none)
complete v line (Err faults.Body) (loud, is) = loud_read v line loud ∙ ap some_said (body_read v line is.0 is.1 is.2 is.3 is.4)
complete v line (Err faults.Bounds) (loud, is) = loud_read v line loud ∙ ap some_said (bounds_fault v line is.0 is.1 is.2 is.3 is.4)
complete v line (Err (faults.Expr t)) (loud, is) =
    loud_read v line loud
    ∙ ap some_said
    (bounded_said v line is.0 is.1 is.2 is.3 is.4 ∙ ap (with_expr (record { name = is.0; first = is.1; last = is.2 })) (expr_fault (expr_of_line line) t is.5))
complete v line (Err faults.Memory) is = absurd is

pub sayings_are_read : (v : TextVersion) (line : List ℕ) (r : Result (Option SaidView) TextKind) → (read_said v line ≡ r) ↔ IsSaid v line r
sayings_are_read v line r = ((λ e. subst (IsSaid v line) e (sound v line)), complete v line r)

-- what a line says is in range

bounded_by : (line : List ℕ) (said : SaidView) → Spells said line → is_bounded said ≡ true
bounded_by line (version n) e = refl
bounded_by line (role n) e = refl
bounded_by line (user n) e = refl
bounded_by line (perm n) e = refl
bounded_by line (period n f l x) (bounds, le, says) = le-leb f l le
bounded_by line (limit n prio c most during) e = refl
bounded_by line (edge kind strong s j) e = refl
bounded_by line (cap kind r n) e = refl
bounded_by line (admin u) e = refl
bounded_by line (opening f) e = refl
bounded_by line (entry f p hd) e = refl
bounded_by line (trigger items hd d) e = refl

pub read_in_range : (v : TextVersion) (line : List ℕ) (said : SaidView) → read_said v line ≡ Ok (Some said) → is_saying said ≡ true
read_in_range v line said e =
    let is : IsSaid v line (Ok (Some said)) = subst (IsSaid v line) e (sound v line) in
    and_true (is_formed said && is_bounded said) (is_bodied said) (and_true (is_formed said) (is_bounded said) is.1 (bounded_by line said is.2)) is.3

pub all_in_range : (v : TextVersion) (line : List ℕ) (r : Result (Option Said) TextKind) → IfOk r (λ said. read_said v line ≡ Ok (option_map seen_said said))
    → IfOk r (λ said. IfSome said (λ s. IsTrue (is_saying (seen_said s))))
all_in_range v line (Err f) e = tt
all_in_range v line (Ok None) e = tt
all_in_range v line (Ok (Some s)) e = read_in_range v line (seen_said s) e
