-- A saying is read from the line that it writes.
use Rattle.std.proofs.Common.{◌≡◌, inr, ℕ, ◌<◌, ◌≤◌, ◌^◌, true, false, cond, not, ◌&&◌, List, [], ◌∷◌, ◌++◌, length, Option, Some, None, Ok, Err, refl, sym, ◌∙◌, ap, arith, decimal, ltb}
use Rattle.std.specs.Prelude.{codes, nat_le, nat_lt, flat_map, is_some, take}
use Rattle.std.specs.List.{list_all}
use Rattle.std.proofs.lemmas.Bool.{false≢true}
use borrow.Author.Tests.{leb-true, ltb-true}
use Rattle.gt_base.specs.Names.{is_name}
use Rattle.gtrbac_model.specs.declared.calendars.Calendar.{Calendar}
use Rattle.gtrbac_model.specs.declared.calendars.Calendar.TheVariants.{Years, Months, Weeks, Days, Hours, Minutes}
use Rattle.gtrbac_model.specs.Period.{Part, Expr}
use Rattle.gtrbac_model.specs.Valid.{is_expr, from_all, goes_down, is_set, is_below, rises_above}
use Rattle.gt_text.specs.Lines.{is_longer}
use Rattle.gt_text.specs.Words.{words_of, spaced, are_silent, blank_cut}
use Rattle.civil_time.specs.Text.{civil_text}
use Rattle.periodic_expr.specs.Scan.{calendar_word}
use Rattle.periodic_expr.specs.Printed.{expr_text, parts_text, part_text, later_part, set_text, numbers_text, later_number}
use Rattle.periodic_expr.specs.Reading.{read_expr}
use Rattle.periodic_expr.proofs.Again.{printed_is_read}
use Rattle.policy_words.specs.declared.faults.TextKind.TheVariants as faults
use Rattle.policy_words.specs.Rests.{unindented, trimmed, rest_after}
use Rattle.policy_words.specs.declared.parts.NamedFluent.{NamedFluent}
use Rattle.policy_words.specs.declared.parts.NamedFluent.TheVariants.{Enabled, Assigned, Granted, Limit, Edge}
use Rattle.policy_words.specs.declared.parts.NamedHead.{NamedHead}
use Rattle.policy_words.specs.declared.parts.Item.{Item}
use Rattle.policy_words.specs.declared.versions.TextVersion.{TextVersion}
use Rattle.policy_words.specs.declared.versions.TextVersion.TheVariants.{Open, One, Two}
use Rattle.gt_base.specs.declared.policies.Form.TheVariants.{Each, Start, Span}
use Rattle.gt_base.specs.declared.limits.TheConstants.{LAST_MINUTE}
use Rattle.policy_words.specs.Sayings.{SaidView, version, role, user, perm, period, limit, edge, cap, admin, opening, entry, trigger, said_words, is_formed, is_bounded, is_bodied, is_saying}
use Rattle.policy_words.specs.Reading.{said_of, some_said, read_said, formed_in, trigger_by, with_body, with_expr, expr_of_line}
use Rattle.policy_words.specs.Versions.{has_edges, is_allowed}
use Rattle.policy_words.specs.Spelling.{HasBounds, IsPlaced}
use Rattle.policy_lines.specs.Plain.{is_solid, is_word, is_plain}
use Rattle.policy_lines.proofs.Truths.{both, and_true, not_true}
use Rattle.policy_lines.proofs.SpacedWords.{all_append, solid_plain, trimmed_behind, rest_past, cut_word, no_return, plain_spaced, words_of_spaced}
use Rattle.policy_lines.proofs.SolidWords.{word_name, word_decimal, word_civil, solid_words}
use Rattle.policy_lines.proofs.SayingReads.{bounds_read, saying_reads, judged, is_no_period}

-- the text of an expression is plain, begins with a letter and ends with one

plain_calendar : (c : Calendar) → is_plain (calendar_word c) ≡ true
plain_calendar Years = refl
plain_calendar Months = refl
plain_calendar Weeks = refl
plain_calendar Days = refl
plain_calendar Hours = refl
plain_calendar Minutes = refl

plain_decimal : (n : ℕ) → n < 2 ^ 64 → is_plain (decimal n) ≡ true
plain_decimal n small = solid_plain (decimal n) (both (nat_lt 0 (length (decimal n))) (list_all is_solid (decimal n)) (word_decimal n small)).1

plain_later : (ns : List ℕ) → list_all (λ n. nat_le n 999_999_999) ns ≡ true → is_plain (flat_map later_number ns) ≡ true
plain_later [] h = refl
plain_later (n ∷ ns) h =
    let parts = both (nat_le n 999_999_999) (list_all (λ n. nat_le n 999_999_999) ns) h in
    let low : n ≤ 999_999_999 = leb-true n 999_999_999 parts.0 in
    all_append (nat_le 32) (later_number n) (flat_map later_number ns) (plain_decimal n (omega (arith, low))) (plain_later ns parts.1)

plain_set : (s : Option (List ℕ)) → is_set s ≡ true → is_plain (set_text s) ≡ true
plain_set None h = refl
plain_set (Some []) h = absurd (false≢true h)
plain_set (Some (n ∷ ns)) h =
    let small = (both (rises_above 0 (n ∷ ns)) (list_all (λ m. nat_le m 999_999_999) (n ∷ ns)) h).1 in
    let parts = both (nat_le n 999_999_999) (list_all (λ n. nat_le n 999_999_999) ns) small in
    let low : n ≤ 999_999_999 = leb-true n 999_999_999 parts.0 in
    all_append (nat_le 32) (codes "{" ++ numbers_text (n ∷ ns)) (codes "}")
    (all_append (nat_le 32) (decimal n) (flat_map later_number ns) (plain_decimal n (omega (arith, low))) (plain_later ns parts.1)) refl

plain_part : (p : Part) → is_set p.set ≡ true → is_plain (part_text p) ≡ true
plain_part p h = all_append (nat_le 32) (set_text p.set ++ codes ".") (calendar_word p.calendar) (all_append (nat_le 32) (set_text p.set) (codes ".") (plain_set p.set h) refl) (plain_calendar p.calendar)

plain_parts : (c : Calendar) (ps : List Part) (unit : Calendar) → goes_down c ps unit ≡ true → is_plain (flat_map later_part ps) ≡ true
plain_parts c [] unit h = refl
plain_parts c (p ∷ ps) unit h =
    let h2 = both (is_set p.set && is_below c p.calendar) (goes_down p.calendar ps unit) h in
    let h1 = both (is_set p.set) (is_below c p.calendar) h2.0 in
    all_append (nat_le 32) (later_part p) (flat_map later_part ps) (plain_part p h1.0) (plain_parts p.calendar ps unit h2.1)

-- it is valid, so its first part takes all
record First (e : Expr) : Type 0 where
  rest : List ℕ
  starts : parts_text e.parts ≡ 97 ∷ rest
  plain : is_plain (parts_text e.parts) ≡ true

first_part : (ps : List Part) (unit : Calendar) (n : ℕ) → from_all ps unit ≡ true → First (record { parts = ps; count = n; unit = unit })
first_part [] unit n h = absurd (false≢true h)
first_part (p ∷ ps) unit n h =
    let parts = both (not (is_some p.set)) (goes_down p.calendar ps unit) h in by p.set refl parts.0 parts.1
  where
    by : (s : Option (List ℕ)) → p.set ≡ s → not (is_some p.set) ≡ true → goes_down p.calendar ps unit ≡ true → First (record { parts = p ∷ ps; count = n; unit = unit })
    by (Some ns) e taken down = absurd (false≢true (sym (ap (λ (s : Option (List ℕ)). not (is_some s)) e) ∙ taken))
    by None e taken down = record {
      rest = (108 ∷ 108 ∷ codes "." ++ calendar_word p.calendar) ++ flat_map later_part ps;
      starts = ap (λ s. (set_text s ++ codes "." ++ calendar_word p.calendar) ++ flat_map later_part ps) e;
      plain = all_append (nat_le 32) (part_text p) (flat_map later_part ps) (plain_part p (ap is_set e)) (plain_parts p.calendar ps unit down);
    }

record Text (e : Expr) : Type 0 where
  pub rest : List ℕ
  pub starts : expr_text e ≡ 97 ∷ rest
  pub plain : is_plain (expr_text e) ≡ true
  pub ends : trimmed (expr_text e) ≡ expr_text e

ends_calendar : (front : List ℕ) (c : Calendar) → trimmed (front ++ calendar_word c) ≡ front ++ calendar_word c
ends_calendar front Years = trimmed_behind front 89 (codes "ears") refl
ends_calendar front Months = trimmed_behind front 77 (codes "onths") refl
ends_calendar front Weeks = trimmed_behind front 87 (codes "eeks") refl
ends_calendar front Days = trimmed_behind front 68 (codes "ays") refl
ends_calendar front Hours = trimmed_behind front 72 (codes "ours") refl
ends_calendar front Minutes = trimmed_behind front 77 (codes "inutes") refl

text_of_expr : (e : Expr) → is_expr e ≡ true → Text e
text_of_expr e h =
    let h2 = both (from_all e.parts e.unit && nat_le 1 e.count) (nat_le e.count 1000) h in
    let first = first_part e.parts e.unit e.count (both (from_all e.parts e.unit) (nat_le 1 e.count) h2.0).0 in
    let low : e.count ≤ 1000 = leb-true e.count 1000 h2.1 in
    let front = parts_text e.parts ++ codes " > " ++ decimal e.count ++ codes "." in
    record {
      rest = first.rest ++ codes " > " ++ decimal e.count ++ codes "." ++ calendar_word e.unit;
      starts = ap (λ t. t ++ codes " > " ++ decimal e.count ++ codes "." ++ calendar_word e.unit) first.starts;
      plain = all_append (nat_le 32) front (calendar_word e.unit)
          (all_append (nat_le 32) (parts_text e.parts ++ codes " > " ++ decimal e.count) (codes ".")
          (all_append (nat_le 32) (parts_text e.parts ++ codes " > ") (decimal e.count) (all_append (nat_le 32) (parts_text e.parts) (codes " > ") first.plain refl) (plain_decimal e.count (omega (arith, low)))) refl)
          (plain_calendar e.unit);
      ends = ends_calendar front e.unit;
    }

-- the line of a period

module _ (n : List ℕ) (f l : ℕ) (e : Expr) (name : is_name n ≡ true) (expr : is_expr e ≡ true) where
  abbrev line : List ℕ
  line = spaced (said_words (period n f l e))

  pub plain_line : is_plain line ≡ true
  plain_line =
      plain_spaced (said_words (period n f l e))
      (and_true (is_plain n) (is_plain (civil_text f) && (is_plain (civil_text l) && (is_plain (expr_text e) && true))) (plain_word n (word_name n name))
      (and_true (is_plain (civil_text f)) (is_plain (civil_text l) && (is_plain (expr_text e) && true)) (plain_word (civil_text f) (word_civil f))
      (and_true (is_plain (civil_text l)) (is_plain (expr_text e) && true) (plain_word (civil_text l) (word_civil l)) (and_true (is_plain (expr_text e)) true (text_of_expr e expr).plain refl))))
    where
      plain_word : (w : List ℕ) → is_word w ≡ true → is_plain w ≡ true
      plain_word w h = solid_plain w (both (nat_lt 0 (length w)) (list_all is_solid w) h).1

  period_words : words_of line ≡ codes "period" ∷ n ∷ civil_text f ∷ civil_text l ∷ blank_cut (expr_text e)
  period_words =
      ap blank_cut (no_return line plain_line)
      ∙ cut_word (codes "period") ((n ++ 32 ∷ []) ++ ((civil_text f ++ 32 ∷ []) ++ ((civil_text l ++ 32 ∷ []) ++ expr_text e))) refl
      ∙ ap (λ ws. codes "period" ∷ ws)
      (cut_word n ((civil_text f ++ 32 ∷ []) ++ ((civil_text l ++ 32 ∷ []) ++ expr_text e)) (word_name n name)
      ∙ ap (λ ws. n ∷ ws)
      (cut_word (civil_text f) ((civil_text l ++ 32 ∷ []) ++ expr_text e) (word_civil f) ∙ ap (λ ws. civil_text f ∷ ws) (cut_word (civil_text l) (expr_text e) (word_civil l))))

  period_expr : expr_of_line line ≡ expr_text e
  period_expr =
      let text = text_of_expr e expr in
      ap (λ t. trimmed (rest_after 4 t)) (no_return line plain_line)
      ∙ ap trimmed
      (rest_past 3 (codes "period") ((n ++ 32 ∷ []) ++ ((civil_text f ++ 32 ∷ []) ++ ((civil_text l ++ 32 ∷ []) ++ expr_text e))) refl
      ∙ rest_past 2 n ((civil_text f ++ 32 ∷ []) ++ ((civil_text l ++ 32 ∷ []) ++ expr_text e)) (word_name n name)
      ∙ rest_past 1 (civil_text f) ((civil_text l ++ 32 ∷ []) ++ expr_text e) (word_civil f) ∙ rest_past 0 (civil_text l) (expr_text e) (word_civil l)
      ∙ ap unindented text.starts ∙ sym text.starts)
      ∙ text.ends

  period_bounds : f ≤ LAST_MINUTE → l ≤ LAST_MINUTE → HasBounds line n f l
  period_bounds low high = record {
    name = name;
    first_word = civil_text f;
    last_word = civil_text l;
    words = ap (take 4) period_words;
    is_first = inr (low, refl);
    is_last = inr (high, refl);
  }

  pub period_said : (v : TextVersion) → f ≤ LAST_MINUTE → l ≤ LAST_MINUTE → f ≤ l → said_of v line (words_of line) ≡ Ok (period n f l e)
  period_said v low high order =
      bounds_read v line n f l (period_bounds low high)
      ∙ ap (λ b. cond b (Err faults.Bounds) (with_expr (record { name = n; first = f; last = l }) (read_expr (expr_of_line line))))
      (not_true (ltb l f) (λ t. absurd (omega (arith, order, ltb-true l f t))))
      ∙ ap (λ text. with_expr (record { name = n; first = f; last = l }) (read_expr text)) period_expr
      ∙ ap (with_expr (record { name = n; first = f; last = l })) (printed_is_read e expr)

-- any saying

pub loud_words : (said : SaidView) → are_silent (said_words said) ≡ false
loud_words (version n) = refl
loud_words (role n) = refl
loud_words (user n) = refl
loud_words (perm n) = refl
loud_words (period n f l e) = refl
loud_words (limit n prio c most during) = refl
loud_words (edge kind strong s j) = refl
loud_words (cap kind r n) = refl
loud_words (admin u) = refl
loud_words (opening (Enabled r)) = refl
loud_words (opening (Assigned u r)) = refl
loud_words (opening (Granted q r)) = refl
loud_words (opening (Limit l)) = refl
loud_words (opening (Edge s j)) = refl
loud_words (entry Each p h) = refl
loud_words (entry Start p h) = refl
loud_words (entry Span p h) = refl
loud_words (trigger items h d) = refl

pub read_loud : (v : TextVersion) (line : List ℕ) → length line ≤ 4_096 → are_silent (words_of line) ≡ false → read_said v line ≡ some_said (said_of v line (words_of line))
read_loud v line short loud =
    ap (λ b. cond b (Err faults.Long) (cond (are_silent (words_of line)) (Ok None) (some_said (said_of v line (words_of line))))) (not_true (is_longer 4_096 line) (λ t. absurd (omega (arith, short, ltb-true 4_096 (length line) t))))
    ∙ ap (λ b. cond b (Ok None) (some_said (said_of v line (words_of line)))) loud

pub allowed_ok : (v : TextVersion) (said : SaidView) → is_allowed (has_edges v) said ≡ true → formed_in (has_edges v) (Some said) ≡ Ok said
allowed_ok v said h = ap (λ b. cond b (Ok said) (Err faults.Form)) h

pub opening_ok : (v : TextVersion) (f : NamedFluent) → is_allowed (has_edges v) (opening f) ≡ true → judged v (opening f) ≡ Ok (opening f)
opening_ok v f h = ap (λ b. cond b (Ok (opening f)) (Err faults.Word)) h

pub trigger_ok : (v : TextVersion) (items : List Item) (h : NamedHead) (d : ℕ) → is_allowed (has_edges v) (trigger items h d) ≡ true
    → trigger_by (has_edges v) (Some (trigger items h d)) ≡ with_body (trigger items h d)
trigger_ok v items h d allowed = ap (λ b. cond b (with_body (trigger items h d)) (Err faults.Form)) allowed

pub judged_ok : (v : TextVersion) (said : SaidView) → is_formed said ≡ true → is_bodied said ≡ true → IsPlaced v said → judged v said ≡ Ok said
judged_ok Open (version n) h b placed = refl
judged_ok One (version n) h b placed = absurd (placed.0 tt)
judged_ok Two (version n) h b placed = absurd (placed.0 tt)
judged_ok v (role n) h b placed = refl
judged_ok v (user n) h b placed = refl
judged_ok v (perm n) h b placed = refl
judged_ok v (period n f l e) h b placed = refl
judged_ok v (limit n prio c most during) h b placed = allowed_ok v (limit n prio c most during) placed.1
judged_ok v (edge kind strong s j) h b placed = refl
judged_ok v (cap kind r n) h b placed = refl
judged_ok v (admin u) h b placed = refl
judged_ok v (opening f) h b placed = opening_ok v f placed.1
judged_ok v (entry f p hd) h b placed = allowed_ok v (entry f p hd) placed.1
judged_ok v (trigger items hd d) h b placed =
    trigger_ok v items hd d placed.1 ∙ ap (λ t. cond t (Ok (trigger items hd d)) (Err faults.Body)) b

written_words : (said : SaidView) (v : TextVersion) → is_no_period said ≡ true → is_formed said ≡ true → is_bodied said ≡ true → IsPlaced v said → length (spaced (said_words said)) ≤ 4_096
    → read_said v (spaced (said_words said)) ≡ Ok (Some said)
written_words said v np h b placed short =
    let line = spaced (said_words said) in
    let words : words_of line ≡ said_words said = words_of_spaced (said_words said) (solid_words said h np) in
    read_loud v line short (ap are_silent words ∙ loud_words said)
    ∙ ap some_said (ap (said_of v line) words ∙ saying_reads v line said h np ∙ judged_ok v said h b placed)

written_period : (n : List ℕ) (f l : ℕ) (e : Expr) (v : TextVersion) → is_formed (period n f l e) ≡ true → f ≤ l → length (spaced (said_words (period n f l e))) ≤ 4_096
    → read_said v (spaced (said_words (period n f l e))) ≡ Ok (Some (period n f l e))
written_period n f l e v h order short =
    let h3 = both (is_name n && nat_le f LAST_MINUTE && nat_le l LAST_MINUTE) (is_expr e) h in
    let h2 = both (is_name n && nat_le f LAST_MINUTE) (nat_le l LAST_MINUTE) h3.0 in
    let h1 = both (is_name n) (nat_le f LAST_MINUTE) h2.0 in
    read_loud v (spaced (said_words (period n f l e))) short (ap are_silent (period_words n f l e h1.0 h3.1))
    ∙ ap some_said (period_said n f l e h1.0 h3.1 v (leb-true f LAST_MINUTE h1.1) (leb-true l LAST_MINUTE h2.1) order)

pub written_is_read : (said : SaidView) (v : TextVersion) → is_saying said ≡ true → IsPlaced v said → length (spaced (said_words said)) ≤ 4_096
    → read_said v (spaced (said_words said)) ≡ Ok (Some said)
written_is_read said v h placed short =
    let h2 = both (is_formed said && is_bounded said) (is_bodied said) h in
    let h1 = both (is_formed said) (is_bounded said) h2.0 in
    by said h1.0 h1.1 h2.1 placed short
  where
    by : (said : SaidView) → is_formed said ≡ true → is_bounded said ≡ true → is_bodied said ≡ true → IsPlaced v said → length (spaced (said_words said)) ≤ 4_096
        → read_said v (spaced (said_words said)) ≡ Ok (Some said)
    by (version n) h bounded b placed short = written_words (version n) v refl h b placed short
    by (role n) h bounded b placed short = written_words (role n) v refl h b placed short
    by (user n) h bounded b placed short = written_words (user n) v refl h b placed short
    by (perm n) h bounded b placed short = written_words (perm n) v refl h b placed short
    by (period n f l e) h bounded b placed short = written_period n f l e v h (leb-true f l bounded) short
    by (limit n prio c most during) h bounded b placed short = written_words (limit n prio c most during) v refl h b placed short
    by (edge kind strong s j) h bounded b placed short = written_words (edge kind strong s j) v refl h b placed short
    by (cap kind r n) h bounded b placed short = written_words (cap kind r n) v refl h b placed short
    by (admin u) h bounded b placed short = written_words (admin u) v refl h b placed short
    by (opening f) h bounded b placed short = written_words (opening f) v refl h b placed short
    by (entry f p hd) h bounded b placed short = written_words (entry f p hd) v refl h b placed short
    by (trigger items hd d) h bounded b placed short = written_words (trigger items hd d) v refl h b placed short
