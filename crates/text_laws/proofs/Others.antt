-- Lines that are written, but those of periods, are short.
use Rattle.std.proofs.Common.{◌≡◌, ℕ, ◌+◌, ◌*◌, ◌<◌, ◌≤◌, ◌^◌, Bool, true, false, cond, ◌&&◌, ◌||◌, nat_eq, nat_le, nat_lt, List, [], ◌∷◌, ◌++◌, length, Option, Some, None, refl, arith, length-append, inl, inr}
use Rattle.std.specs.Prelude.{codes, decimal}
use Rattle.std.specs.List.{list_all, list_any}
use Rattle.std.proofs.lemmas.Bool.{leb-true, ltb-true, eqb-true}
use Rattle.std.proofs.lemmas.Fmt.{length-decimal-le}
use Rattle.gt_base.specs.Names.{is_letter, is_name_byte, is_name}
use Rattle.gt_text.specs.Words.{spaced}
use Rattle.gtrbac_model.proofs.Elements.{both_true, either_true}
use Rattle.gt_base.specs.declared.policies.Form.{Form}
use Rattle.gt_base.specs.declared.policies.Form.TheVariants.{Each, Start, Span}
use Rattle.gt_base.specs.declared.limits.TheConstants.{LAST_MINUTE}
use Rattle.policy_words.specs.declared.parts.NamedFluent.{NamedFluent}
use Rattle.policy_words.specs.declared.parts.NamedFluent.TheVariants as fluents
use Rattle.policy_words.specs.declared.parts.Sort.{Sort}
use Rattle.policy_words.specs.declared.parts.Sort.TheVariants.{Enabling, Assigning, Granting, Arming, Linking}
use Rattle.policy_words.specs.declared.parts.NamedCond.{NamedCond}
use Rattle.policy_words.specs.declared.parts.NamedHead.{NamedHead}
use Rattle.policy_words.specs.declared.parts.Item.{Item}
use Rattle.policy_words.specs.declared.parts.Item.TheVariants.{Event, Signal, Cond, Settled}
use Rattle.policy_words.specs.declared.sayings.EdgeKind.{EdgeKind}
use Rattle.policy_words.specs.declared.sayings.EdgeKind.TheVariants.{I, A, Ia}
use Rattle.policy_words.specs.declared.sayings.CapKind.{CapKind}
use Rattle.policy_words.proofs.CapKinds.{each_kind}
use Rattle.policy_words.specs.Wording.{event_verb, cond_verb, signal_verb, sort_of, fluent_names, cond_words, head_words, item_words, delay_words}
use Rattle.policy_words.specs.Sayings.{SaidView, version, role, user, perm, period, limit, edge, cap, admin, opening, entry, trigger, kind_word, strength_word, cap_word, form_word, during_words, and_items, said_words, are_names, is_head, is_item, is_period_name, is_count, is_cause, is_formed, is_bounded, is_bodied, is_saying}
use Rattle.gtrbac_model.specs.History.{is_some_item}
use Rattle.text_laws.specs.Lengths.{is_period_line}

-- each word with a space
abbrev pub room : List (List ℕ) → ℕ
room [] = 0
room (w ∷ ws) = length w + 1 + room ws

pub room-append : (us ws : List (List ℕ)) → room (us ++ ws) ≡ room us + room ws
room-append [] ws = omega arith
room-append (u ∷ us) ws = omega (arith, room-append us ws)

pub spaced_room : (w : List ℕ) (ws : List (List ℕ)) → length (spaced (w ∷ ws)) + 1 ≡ room (w ∷ ws)
spaced_room w [] = omega arith
spaced_room w (v ∷ ws) = omega (arith, spaced_room v ws, length-append (w ++ 32 ∷ []) (spaced (v ∷ ws)), length-append w (32 ∷ []))

pub spaced_within : (ws : List (List ℕ)) → length (spaced ws) ≤ room ws
spaced_within [] = omega arith
spaced_within (w ∷ ws) = omega (arith, spaced_room w ws)

pub short_name : (n : List ℕ) → is_name n ≡ true → length n ≤ 32
short_name [] h = omega arith
short_name (b ∷ bs) h = omega (arith, ltb-true (length bs) 32 (both_true (is_letter b && list_all is_name_byte bs) (nat_lt (length bs) 32) h).1)

-- at most two names
names_room : (f : NamedFluent) → are_names (fluent_names f) ≡ true → room (fluent_names f) ≤ 66
names_room (fluents.Enabled r) h = omega (arith, short_name r (both_true (is_name r) true h).0)
names_room (fluents.Assigned u r) h =
    let more = both_true (is_name u) (is_name r && true) h in omega (arith, short_name u more.0, short_name r (both_true (is_name r) true more.1).0)
names_room (fluents.Granted q r) h =
    let more = both_true (is_name q) (is_name r && true) h in omega (arith, short_name q more.0, short_name r (both_true (is_name r) true more.1).0)
names_room (fluents.Limit l) h = omega (arith, short_name l (both_true (is_name l) true h).0)
names_room (fluents.Edge s j) h =
    let more = both_true (is_name s) (is_name j && true) h in omega (arith, short_name s more.0, short_name j (both_true (is_name j) true more.1).0)

event_short : (on : Bool) (s : Sort) → length (event_verb on s) ≤ 8
event_short true Enabling = omega arith
event_short false Enabling = omega arith
event_short true Assigning = omega arith
event_short false Assigning = omega arith
event_short true Granting = omega arith
event_short false Granting = omega arith
event_short true Arming = omega arith
event_short false Arming = omega arith
event_short true Linking = omega arith
event_short false Linking = omega arith

cond_short : (on : Bool) (s : Sort) → length (cond_verb on s) ≤ 10
cond_short true Enabling = omega arith
cond_short false Enabling = omega arith
cond_short true Assigning = omega arith
cond_short false Assigning = omega arith
cond_short true Granting = omega arith
cond_short false Granting = omega arith
cond_short true Arming = omega arith
cond_short false Arming = omega arith
cond_short true Linking = omega arith
cond_short false Linking = omega arith

signal_short : (start : Bool) → length (signal_verb start) ≤ 10
signal_short true = omega arith
signal_short false = omega arith

-- numbers of so many digits
digits : (k n most : ℕ) → 0 < k → nat_le n most ≡ true → most < 10 ^ k → most < 2 ^ 64 → length (decimal n) ≤ k
digits k n most some h fits small = let le = leb-true n most h in length-decimal-le k n some (omega (arith, le, fits)) (omega (arith, le, small))

cond_room : (c : NamedCond) → are_names (fluent_names c.fluent) ≡ true → room (cond_words c) ≤ 77
cond_room c h = omega (arith, names_room c.fluent h, cond_short c.on (sort_of c.fluent))

item_room : (i : Item) → is_item i ≡ true → room (item_words i) ≤ 85
item_room (Event e) h = omega (arith, names_room e.fluent h, event_short e.on (sort_of e.fluent))
item_room (Signal s) h =
    let both = both_true (is_name s.user) (is_name s.role) h in
    omega (arith, signal_short s.start, short_name s.user both.0, short_name s.role both.1)
item_room (Cond c) h = omega (arith, cond_room c h)
item_room (Settled c) h = omega (arith, cond_room c h)

-- items with `and` between them
items_room : (is : List Item) → list_all is_item is ≡ true → room (and_items is) ≤ 89 * length is
items_room [] h = omega arith
items_room (i ∷ []) h = omega (arith, item_room i (both_true (is_item i) true h).0)
items_room (i ∷ j ∷ is) h =
    let both = both_true (is_item i) (list_all is_item (j ∷ is)) h in
    omega (arith, item_room i both.0, items_room (j ∷ is) both.1, room-append (item_words i) (codes "and" ∷ and_items (j ∷ is)))

head_room : (h : NamedHead) → is_head h ≡ true → room (head_words h) ≤ 78
head_room h e =
    let both = both_true (nat_le h.prio 99) (are_names (fluent_names h.event.fluent)) e in
    let prio = digits 2 h.prio 99 (omega arith) both.0 (omega arith) (omega arith) in
    omega (arith, prio, names_room h.event.fluent both.1, event_short h.event.on (sort_of h.event.fluent), length-append (decimal h.prio) (58 ∷ event_verb h.event.on (sort_of h.event.fluent)))

delay_room : (d : ℕ) → nat_le d LAST_MINUTE ≡ true → room (delay_words d) ≤ 16
delay_room d h = by (nat_eq d 0)
  where
    short : length (decimal d) ≤ 9
    short = digits 9 d LAST_MINUTE (omega arith) h (omega arith) (omega arith)

    by : (b : Bool) → room (cond b [] (codes "after" ∷ decimal d ∷ [])) ≤ 16
    by true = omega arith
    by false = omega (arith, short)

during_room : (p : Option (List ℕ)) → is_period_name p ≡ true → room (during_words p) ≤ 40
during_room None h = omega arith
during_room (Some p) h = omega (arith, short_name p h)

kind_short : (k : EdgeKind) → length (kind_word k) ≤ 2
kind_short I = omega arith
kind_short A = omega arith
kind_short Ia = omega arith

strength_short : (s : Bool) → length (strength_word s) ≤ 6
strength_short true = omega arith
strength_short false = omega arith

cap_short : (k : CapKind) → length (cap_word k) ≤ 6
cap_short k = leb-true (length (cap_word k)) 6 (each_kind (λ k. nat_le (length (cap_word k)) 6) refl k)

form_short : (f : Form) → length (form_word f) ≤ 5
form_short Each = omega arith
form_short Start = omega arith
form_short Span = omega arith

count_short : (n : ℕ) → is_count n ≡ true → length (decimal n) ≤ 7
count_short n h = digits 7 n 1_000_000 (omega arith) (both_true (nat_le 1 n) (nat_le n 1_000_000) h).1 (omega arith) (omega arith)

version_short : (n : ℕ) → (nat_eq n 1 || nat_eq n 2) ≡ true → length (decimal n) ≤ 1
version_short n h =
    elim (either_true (nat_eq n 1) (nat_eq n 2) h) [
      | inl e ↦ length-decimal-le 1 n (omega arith) (omega (arith, eqb-true n 1 e)) (omega (arith, eqb-true n 1 e))
      | inr e ↦ length-decimal-le 1 n (omega arith) (omega (arith, eqb-true n 2 e)) (omega (arith, eqb-true n 2 e))
    ]

-- a line that is formed, and keeps the rule on bodies
said_room : (said : SaidView) → is_formed said ≡ true → is_bodied said ≡ true → is_period_line said ≡ false → room (said_words said) ≤ 2_000
said_room (version n) f b p = omega (arith, version_short n f)
said_room (role n) f b p = omega (arith, short_name n f)
said_room (user n) f b p = omega (arith, short_name n f)
said_room (perm n) f b p = omega (arith, short_name n f)
said_room (period n first last e) f b p = cc
said_room (limit n prio c most during) f b p =
    let h4 = both_true (is_name n && nat_le prio 99 && are_names (fluent_names c.fluent) && is_count most) (is_period_name during) f in
    let h3 = both_true (is_name n && nat_le prio 99 && are_names (fluent_names c.fluent)) (is_count most) h4.0 in
    let h2 = both_true (is_name n && nat_le prio 99) (are_names (fluent_names c.fluent)) h3.0 in
    let h1 = both_true (is_name n) (nat_le prio 99) h2.0 in
    let number = digits 2 prio 99 (omega arith) h1.1 (omega arith) (omega arith) in
    omega (arith, short_name n h1.0, number, cond_room c h2.1, count_short most h3.1, during_room during h4.1, room-append (cond_words c) (codes "max" ∷ decimal most ∷ during_words during))
said_room (edge kind strong s j) f b p =
    let both = both_true (is_name s) (is_name j) f in
    omega (arith, kind_short kind, strength_short strong, short_name s both.0, short_name j both.1)
said_room (cap kind r n) f b p = let both = both_true (is_name r) (is_count n) f in omega (arith, cap_short kind, short_name r both.0, count_short n both.1)
said_room (admin u) f b p = omega (arith, short_name u f)
said_room (opening g) f b p = omega (arith, cond_short true (sort_of g), names_room g f)
said_room (entry form q h) f b p = let both = both_true (is_name q) (is_head h) f in omega (arith, form_short form, short_name q both.0, head_room h both.1)
said_room (trigger items h d) f b p =
    let h2 = both_true (is_some_item items && list_all is_item items && is_head h) (nat_le d LAST_MINUTE) f in
    let h1 = both_true (is_some_item items && list_all is_item items) (is_head h) h2.0 in
    let some = both_true (is_some_item items) (list_all is_item items) h1.0 in
    let few = leb-true (length items) 16 (both_true (nat_le (length items) 16) (list_any is_cause items) b).0 in
    omega (
      arith,
      few,
      items_room items some.1,
      head_room h h1.1,
      delay_room d h2.1,
      room-append (and_items items ++ codes "then" ∷ head_words h) (delay_words d),
      room-append (and_items items) (codes "then" ∷ head_words h),
    )

pub others_short : (said : SaidView) → is_saying said ≡ true → is_period_line said ≡ false → length (spaced (said_words said)) ≤ 2_000
others_short said h p =
    let h2 = both_true (is_formed said && is_bounded said) (is_bodied said) h in
    omega (arith, spaced_within (said_words said), said_room said (both_true (is_formed said) (is_bounded said) h2.0).0 h2.1 p)
