-- A line that is spelled by a saying reads as it.
use Rattle.std.proofs.Common.{if◌then◌else◌, ◌≡◌, inl, inr, ℕ, ◌≤◌, Bool, true, false, cond, ◌&&◌, List, [], ◌∷◌, ◌++◌, length, take, Option, Some, None, Result, Ok, Err, refl, sym, ◌∙◌, ap, arith, decimal, append_assoc, append-nil}
use Rattle.std.specs.Prelude.{codes, bytes_eq, nat_le, nat_eq}
use Rattle.std.specs.List.{list_all}
use Rattle.std.proofs.lemmas.Fmt.{decimal_digit}
use Rattle.std.proofs.lemmas.Slice.Eq.{bytes_eq-Decides}
use Rattle.std.proofs.lemmas.Bool.{false≢true}
use Rattle.std.proofs.lemmas.Bool.Decides.{Decides-eqb}
use borrow.Author.Tests.{leb-true}
use Rattle.gtrbac_model.proofs.Elements.{either_true}
use Rattle.gt_base.specs.Names.{is_name, name_in, number_from}
use Rattle.gt_base.specs.declared.policies.Form.{Form}
use Rattle.gt_base.specs.declared.policies.Form.TheVariants.{Each, Start, Span}
use Rattle.gt_base.specs.declared.limits.TheConstants.{LAST_MINUTE}
use Rattle.gt_text.specs.Words.{words_of}
use Rattle.civil_time.specs.Text.{civil_text, civil_in}
use Rattle.civil_time.proofs.Texts.{texts_are_read}
use Rattle.policy_words.specs.declared.faults.TextKind.{TextKind}
use Rattle.policy_words.specs.declared.faults.TextKind.TheVariants as faults
use Rattle.policy_words.specs.declared.versions.TextVersion.{TextVersion}
use Rattle.policy_words.specs.declared.parts.NamedFluent.{NamedFluent}
use Rattle.policy_words.specs.declared.parts.NamedFluent.TheVariants.{Enabled, Assigned, Granted, Limit, Edge}
use Rattle.policy_words.specs.declared.parts.NamedCond.{NamedCond}
use Rattle.policy_words.specs.declared.parts.NamedHead.{NamedHead}
use Rattle.policy_words.specs.declared.parts.Item.{Item}
use Rattle.policy_words.specs.declared.sayings.EdgeKind.{EdgeKind}
use Rattle.policy_words.specs.declared.sayings.EdgeKind.TheVariants.{I, A, Ia}
use Rattle.policy_words.specs.declared.sayings.CapKind.{CapKind}
use Rattle.policy_words.proofs.CapKinds.{kind_reads}
use Rattle.policy_words.specs.Wording.{fluent_names, cond_words, head_words, cond_at, head_at, delay_in, delay_words}
use Rattle.policy_words.specs.Sayings.{SaidView, version, role, user, perm, period, limit, edge, cap, admin, opening, entry, trigger, said_words, and_items, during_words, is_formed, are_names, is_count, is_period_name, is_head, is_item}
use Rattle.gtrbac_model.specs.History.{is_some_item}
use Rattle.policy_words.specs.Reading.{said_of, one_name, first_in, last_in, period_by, during_in, most_at, limit_in, linked_by, entry_in, trigger_in, trigger_by, version_in, version_by, formed, formed_in}
use Rattle.policy_words.specs.Versions.{is_open, has_edges, is_allowed}
use Rattle.policy_words.specs.Spelling.{IsBound, HasBounds}
use Rattle.policy_lines.specs.Cursors.{items_of}
use Rattle.policy_lines.proofs.Truths.{both, not_true}
use Rattle.gt_text.proofs.Decimals.{number_from-decimal}
use Rattle.policy_lines.proofs.SpelledReads.{cond_reads, head_reads, items_read, delay_reads}

-- what is answered where a saying is read that is no period
abbrev pub judged : TextVersion → SaidView → Result SaidView TextKind
judged v (version n) = version_by (is_open v) (Some n)
judged v (opening f) = cond (is_allowed (has_edges v) (opening f)) (Ok (opening f)) (Err faults.Word)
judged v (trigger items h d) = trigger_by (has_edges v) (Some (trigger items h d))
judged v said = formed_in (has_edges v) (Some said)

abbrev pub is_no_period : SaidView → Bool
is_no_period (period n first last e) = false
is_no_period said = true

pub name_is : (n : List ℕ) → is_name n ≡ true → name_in n ≡ Some n
name_is n h = ap (λ b. if b then Some n else None) h

pub one_name_reads : (build : List ℕ → SaidView) (n : List ℕ) → is_name n ≡ true → one_name build (n ∷ []) ≡ Some (build n)
one_name_reads build n h = rw (name_is n h) refl

pub version_reads : (n : ℕ) → is_formed (version n) ≡ true → version_in (decimal n ∷ []) ≡ Some n
version_reads n h = elim (either_true (nat_eq n 1) (nat_eq n 2) h) [
  | inl one ↦ ap (λ n. version_in (decimal n ∷ [])) ((Decides-eqb n 1).0 one) ∙ ap (λ w. version_in (w ∷ [])) (decimal_digit 1 (omega arith)) ∙ ap (λ n. Some n) (sym ((Decides-eqb n 1).0 one))
  | inr two ↦ ap (λ n. version_in (decimal n ∷ [])) ((Decides-eqb n 2).0 two) ∙ ap (λ w. version_in (w ∷ [])) (decimal_digit 2 (omega arith)) ∙ ap (λ n. Some n) (sym ((Decides-eqb n 2).0 two))
]

-- numbers in range

count_reads : (n : ℕ) → is_count n ≡ true → number_from 1 1_000_000 (decimal n) ≡ Some n
count_reads n h =
    let parts = both (nat_le 1 n) (nat_le n 1_000_000) h in
    let high : n ≤ 1_000_000 = leb-true n 1_000_000 parts.1 in
    number_from-decimal 1 1_000_000 n (leb-true 1 n parts.0) high (omega arith)

prio_reads : (n : ℕ) → nat_le n 99 ≡ true → number_from 0 99 (decimal n) ≡ Some n
prio_reads n h = number_from-decimal 0 99 n (omega arith) (leb-true n 99 h) (omega arith)

most_reads : (n : ℕ) (rest : List (List ℕ)) → is_count n ≡ true → most_at (codes "max" ∷ decimal n ∷ rest) ≡ Some (n, rest)
most_reads n rest h = rw (count_reads n h) refl

during_reads : (p : Option (List ℕ)) → is_period_name p ≡ true → during_in (during_words p) ≡ Some p
during_reads None h = refl
during_reads (Some p) h = rw (name_is p h) refl

limit_reads : (n : List ℕ) (prio : ℕ) (c : NamedCond) (most : ℕ) (during : Option (List ℕ)) → is_formed (limit n prio c most during) ≡ true
    → limit_in (n ∷ decimal prio ∷ cond_words c ++ codes "max" ∷ decimal most ∷ during_words during) ≡ Some (limit n prio c most during)
limit_reads n prio c most during h =
    let h4 = both (is_name n && nat_le prio 99 && are_names (fluent_names c.fluent) && is_count most) (is_period_name during) h in
    let h3 = both (is_name n && nat_le prio 99 && are_names (fluent_names c.fluent)) (is_count most) h4.0 in
    let h2 = both (is_name n && nat_le prio 99) (are_names (fluent_names c.fluent)) h3.0 in
    let h1 = both (is_name n) (nat_le prio 99) h2.0 in
    rw (name_is n h1.0, prio_reads prio h1.1, cond_reads c (codes "max" ∷ decimal most ∷ during_words during) h2.1, most_reads most (during_words during) h3.1, during_reads during h4.1) refl

-- sayings of each kind, behind their first word

edge_reads : (v : TextVersion) (line : List ℕ) (kind : EdgeKind) (strong : Bool) (s j : List ℕ) → is_formed (edge kind strong s j) ≡ true
    → said_of v line (said_words (edge kind strong s j)) ≡ Ok (edge kind strong s j)
edge_reads v line I true s j h = let names = both (is_name s) (is_name j) h in rw (name_is s names.0, name_is j names.1) refl
edge_reads v line I false s j h = let names = both (is_name s) (is_name j) h in rw (name_is s names.0, name_is j names.1) refl
edge_reads v line A true s j h = let names = both (is_name s) (is_name j) h in rw (name_is s names.0, name_is j names.1) refl
edge_reads v line A false s j h = let names = both (is_name s) (is_name j) h in rw (name_is s names.0, name_is j names.1) refl
edge_reads v line Ia true s j h = let names = both (is_name s) (is_name j) h in rw (name_is s names.0, name_is j names.1) refl
edge_reads v line Ia false s j h = let names = both (is_name s) (is_name j) h in rw (name_is s names.0, name_is j names.1) refl

cap_reads : (v : TextVersion) (line : List ℕ) (kind : CapKind) (r : List ℕ) (n : ℕ) → is_formed (cap kind r n) ≡ true
    → said_of v line (said_words (cap kind r n)) ≡ Ok (cap kind r n)
cap_reads v line kind r n h = let parts = both (is_name r) (is_count n) h in rw (kind_reads kind, name_is r parts.0, count_reads n parts.1) refl

status_reads : (f : NamedFluent) → are_names (fluent_names f) ≡ true → cond_at (cond_words (record { on = true; fluent = f })) ≡ Some (record { on = true; fluent = f }, [])
status_reads f h = ap cond_at (sym (append-nil (cond_words (record { on = true; fluent = f })))) ∙ cond_reads (record { on = true; fluent = f }) [] h

opening_reads : (v : TextVersion) (line : List ℕ) (f : NamedFluent) → is_formed (opening f) ≡ true → said_of v line (said_words (opening f)) ≡ judged v (opening f)
opening_reads v line (Enabled r) h = rw (status_reads (Enabled r) h) refl
opening_reads v line (Assigned u r) h = rw (status_reads (Assigned u r) h) refl
opening_reads v line (Granted q r) h = rw (status_reads (Granted q r) h) refl
opening_reads v line (Limit l) h = rw (status_reads (Limit l) h) refl
opening_reads v line (Edge s j) h = rw (status_reads (Edge s j) h) (by (has_edges v))
  where
    by : (edges : Bool) → linked_by edges (Some (opening (Edge s j))) ≡ cond edges (Ok (opening (Edge s j))) (Err faults.Word)
    by true = refl
    by false = refl

entry_words : (f : Form) (p : List ℕ) (h : NamedHead) → is_formed (entry f p h) ≡ true → entry_in f (p ∷ head_words h) ≡ Some (entry f p h)
entry_words f p h is =
    let parts = both (is_name p) (is_head h) is in
    let head : head_at 99 (head_words h) ≡ Some (h, []) = ap (head_at 99) (sym (append-nil (head_words h))) ∙ head_reads h [] parts.1 in
    rw (name_is p parts.0, head) refl

entry_reads : (v : TextVersion) (line : List ℕ) (f : Form) (p : List ℕ) (h : NamedHead) → is_formed (entry f p h) ≡ true → said_of v line (said_words (entry f p h)) ≡ judged v (entry f p h)
entry_reads v line Each p h is = ap (formed_in (has_edges v)) (entry_words Each p h is)
entry_reads v line Start p h is = ap (formed_in (has_edges v)) (entry_words Start p h is)
entry_reads v line Span p h is = ap (formed_in (has_edges v)) (entry_words Span p h is)

-- a trigger, whose delay may be spelled in any way that is read so
pub trigger_reads : (items : List Item) (h : NamedHead) (d : ℕ) (ws : List (List ℕ)) → is_formed (trigger items h d) ≡ true → delay_in ws ≡ Some d
    → trigger_in ((and_items items ++ codes "then" ∷ head_words h) ++ ws) ≡ Some (trigger items h d)
unfolding items_of
trigger_reads items h d ws is delay =
    let p3 = both (is_some_item items && list_all is_item items && is_head h) (nat_le d LAST_MINUTE) is in
    let p2 = both (is_some_item items && list_all is_item items) (is_head h) p3.0 in
    let p1 = both (is_some_item items) (list_all is_item items) p2.0 in
    let whole : (and_items items ++ codes "then" ∷ head_words h) ++ ws ≡ and_items items ++ codes "then" ∷ (head_words h ++ ws) =
    append_assoc (and_items items) (codes "then" ∷ head_words h) ws in
    let body : items_of ((and_items items ++ codes "then" ∷ head_words h) ++ ws) ≡ Some (items, head_words h ++ ws) = ap items_of whole ∙ items_read items (head_words h ++ ws) p1.0 p1.1 in
    rw (body, head_reads h ws p2.1, delay) refl

pub saying_reads : (v : TextVersion) (line : List ℕ) (said : SaidView) → is_formed said ≡ true → is_no_period said ≡ true → said_of v line (said_words said) ≡ judged v said
saying_reads v line (version n) h np = ap (version_by (is_open v)) (version_reads n h)
saying_reads v line (role n) h np = ap formed (one_name_reads (λ n. role n) n h)
saying_reads v line (user n) h np = ap formed (one_name_reads (λ n. user n) n h)
saying_reads v line (perm n) h np = ap formed (one_name_reads (λ n. perm n) n h)
saying_reads v line (period n f l e) h np = absurd (false≢true np)
saying_reads v line (limit n prio c most during) h np = ap (formed_in (has_edges v)) (limit_reads n prio c most during h)
saying_reads v line (edge kind strong s j) h np = edge_reads v line kind strong s j h
saying_reads v line (cap kind r n) h np = cap_reads v line kind r n h
saying_reads v line (admin u) h np = ap formed (one_name_reads (λ n. admin n) u h)
saying_reads v line (opening f) h np = opening_reads v line f h
saying_reads v line (entry f p h) is np = entry_reads v line f p h is
saying_reads v line (trigger items h d) is np =
    let le : d ≤ LAST_MINUTE = leb-true d LAST_MINUTE (both (is_some_item items && list_all is_item items && is_head h) (nat_le d LAST_MINUTE) is).1 in
    ap (trigger_by (has_edges v)) (trigger_reads items h d (delay_words d) is (delay_reads d le))

-- a period by its bounds

no_star : (t : ℕ) → bytes_eq (civil_text t) (codes "*") ≡ false
no_star t = longer (civil_text t) refl
  where
    longer : (w : List ℕ) → length w ≡ 16 → bytes_eq w (codes "*") ≡ false
    longer w e = not_true (bytes_eq w (codes "*")) (λ t. absurd (omega (arith, e, ap (λ w. length w) ((bytes_eq-Decides w (codes "*")).0 t))))

pub first_reads : (w : List ℕ) (t : ℕ) → IsBound 0 w t → first_in w ≡ Some t
first_reads w t (inl (star, is)) = ap first_in star ∙ ap (λ t. Some t) (sym is)
first_reads w t (inr is) = ap first_in is.1 ∙ ap (λ b. cond b (Some 0) (civil_in (civil_text t))) (no_star t) ∙ ((texts_are_read (civil_text t) t).1 (is.0, refl))

pub last_reads : (w : List ℕ) (t : ℕ) → IsBound LAST_MINUTE w t → last_in w ≡ Some t
last_reads w t (inl (star, is)) = ap last_in star ∙ ap (λ t. Some t) (sym is)
last_reads w t (inr is) = ap last_in is.1 ∙ ap (λ b. cond b (Some LAST_MINUTE) (civil_in (civil_text t))) (no_star t) ∙ ((texts_are_read (civil_text t) t).1 (is.0, refl))

four : (ws : List (List ℕ)) (a b c d : List ℕ) → take 4 ws ≡ a ∷ b ∷ c ∷ d ∷ [] → (more : List (List ℕ)) × (ws ≡ a ∷ b ∷ c ∷ d ∷ more)
four [] a b c d e = absurd (omega (arith, ap (λ ws. length ws) e))
four (v ∷ []) a b c d e = absurd (omega (arith, ap (λ ws. length ws) e))
four (v ∷ w ∷ []) a b c d e = absurd (omega (arith, ap (λ ws. length ws) e))
four (v ∷ w ∷ x ∷ []) a b c d e = absurd (omega (arith, ap (λ ws. length ws) e))
four (v ∷ w ∷ x ∷ y ∷ more) a b c d e = (more, joined v w x y more e)
  where
    joined : (v w x y : List ℕ) (more : List (List ℕ)) → v ∷ w ∷ x ∷ y ∷ [] ≡ a ∷ b ∷ c ∷ d ∷ [] → v ∷ w ∷ x ∷ y ∷ more ≡ a ∷ b ∷ c ∷ d ∷ more
    joined v w x y more e = cc

pub bounds_read : (v : TextVersion) (line n : List ℕ) (f l : ℕ) → HasBounds line n f l → said_of v line (words_of line) ≡ period_by line (Some (record { name = n; first = f; last = l }))
bounds_read v line n f l h =
    let words = four (words_of line) (codes "period") n h.first_word h.last_word h.words in
    ap (said_of v line) words.1 ∙ rw (name_is n h.name, first_reads h.first_word f h.is_first, last_reads h.last_word l h.is_last) refl
