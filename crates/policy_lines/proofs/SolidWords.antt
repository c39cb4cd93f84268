-- The words of a saying have no blanks.
use Rattle.std.proofs.Common.{◌≡◌, inl, inr, ℕ, ◌+◌, ◌/◌, ◌%◌, ◌<◌, ◌≤◌, ◌^◌, Bool, true, false, ◌&&◌, ◌||◌, List, [], ◌∷◌, ◌++◌, length, Option, Some, None, refl, arith, decimal}
use Rattle.std.specs.Prelude.{codes, nat_le, nat_lt, nat_eq}
use Rattle.std.specs.List.{list_all}
use Rattle.std.proofs.lemmas.Fmt.{decimal_nonempty}
use Rattle.std.proofs.lemmas.Bool.{false≢true, lt-ltb}
use Rattle.std.proofs.lemmas.Bool.Decides.{Decides-eqb}
use borrow.Author.Tests.{leb-true}
use Rattle.gtrbac_model.proofs.Elements.{split, either_true}
use Rattle.gt_base.specs.Names.{is_name, is_letter, is_digit, is_name_byte}
use Rattle.civil_time.specs.declared.civil.Civil.{Civil}
use Rattle.civil_time.specs.Minutes.{civil_at}
use Rattle.civil_time.specs.Text.{civil_text, text_of_civil}
use Rattle.policy_words.specs.declared.parts.NamedCond.{NamedCond}
use Rattle.policy_words.specs.declared.parts.NamedHead.{NamedHead}
use Rattle.policy_words.specs.declared.parts.Item.{Item}
use Rattle.policy_words.specs.declared.parts.Item.TheVariants.{Event, Signal, Cond, Settled}
use Rattle.policy_words.specs.declared.sayings.EdgeKind.{EdgeKind}
use Rattle.policy_words.specs.declared.sayings.EdgeKind.TheVariants.{I, A, Ia}
use Rattle.policy_words.specs.declared.sayings.CapKind.{CapKind}
use Rattle.gt_base.specs.declared.policies.Form.{Form}
use Rattle.gt_base.specs.declared.policies.Form.TheVariants.{Each, Start, Span}
use Rattle.gt_base.specs.declared.limits.TheConstants.{LAST_MINUTE}
use Rattle.policy_words.specs.declared.parts.Sort.{Sort}
use Rattle.policy_words.specs.declared.parts.Sort.TheVariants.{Enabling, Assigning, Granting, Arming, Linking}
use Rattle.policy_words.proofs.CapKinds.{each_kind}
use Rattle.policy_words.specs.Wording.{event_verb, cond_verb, signal_verb, sort_of, fluent_names, cond_words, item_words, head_words, delay_words}
use Rattle.policy_words.specs.Sayings.{SaidView, version, role, user, perm, period, limit, edge, cap, admin, opening, entry, trigger, said_words, and_items, during_words, kind_word, strength_word, cap_word, form_word, is_formed, are_names, is_count, is_period_name, is_head, is_item}
use Rattle.gtrbac_model.specs.History.{is_some_item}
use Rattle.policy_lines.specs.Plain.{is_solid, is_word}
use Rattle.policy_lines.proofs.Truths.{both, and_true}
use Rattle.gt_text.proofs.Decimals.{all_digits}
use Rattle.policy_lines.proofs.SpacedWords.{all_append}
use Rattle.policy_lines.proofs.SayingReads.{is_no_period}

above_32 : (b : ℕ) → 32 < b → is_solid b ≡ true
above_32 b l = lt-ltb 32 b l

solid_letter : (b : ℕ) → is_letter b ≡ true → is_solid b ≡ true
solid_letter b h =
    elim (either_true (nat_le 65 b && nat_le b 90) (nat_le 97 b && nat_le b 122) h) [
      | inl upper ↦ let low : 65 ≤ b = leb-true 65 b (both (nat_le 65 b) (nat_le b 90) upper).0 in above_32 b (omega (arith, low))
      | inr lower ↦ let low : 97 ≤ b = leb-true 97 b (both (nat_le 97 b) (nat_le b 122) lower).0 in above_32 b (omega (arith, low))
    ]

solid_digit : (b : ℕ) → is_digit b ≡ true → is_solid b ≡ true
solid_digit b h = let low : 48 ≤ b = leb-true 48 b (both (nat_le 48 b) (nat_le b 57) h).0 in above_32 b (omega (arith, low))

solid_eq : (b k : ℕ) → 32 < k → nat_eq b k ≡ true → is_solid b ≡ true
solid_eq b k l h = above_32 b (omega (arith, l, (Decides-eqb b k).0 h))

solid_name_byte : (b : ℕ) → is_name_byte b ≡ true → is_solid b ≡ true
solid_name_byte b h =
    elim (either_true (is_letter b || is_digit b || nat_eq b 95 || nat_eq b 45) (nat_eq b 46) h) [
      | inr dot ↦ solid_eq b 46 (omega arith) dot
      | inl h3 ↦ elim (either_true (is_letter b || is_digit b || nat_eq b 95) (nat_eq b 45) h3) [
        | inr dash ↦ solid_eq b 45 (omega arith) dash
        | inl h2 ↦ elim (either_true (is_letter b || is_digit b) (nat_eq b 95) h2) [
          | inr low ↦ solid_eq b 95 (omega arith) low
          | inl h1 ↦ elim (either_true (is_letter b) (is_digit b) h1) [ inl letter ↦ solid_letter b letter | inr digit ↦ solid_digit b digit ]
        ]
      ]
    ]

all_solid : (p : ℕ → Bool) → ((b : ℕ) → p b ≡ true → is_solid b ≡ true) → (bs : List ℕ) → list_all p bs ≡ true → list_all is_solid bs ≡ true
all_solid p solid [] h = refl
all_solid p solid (b ∷ bs) h = let parts = both (p b) (list_all p bs) h in and_true (is_solid b) (list_all is_solid bs) (solid b parts.0) (all_solid p solid bs parts.1)

pub word_name : (n : List ℕ) → is_name n ≡ true → is_word n ≡ true
word_name [] h = absurd (false≢true h)
word_name (b ∷ bs) h =
    let h2 = both (is_letter b && list_all is_name_byte bs) (nat_lt (length bs) 32) h in
    let h1 = both (is_letter b) (list_all is_name_byte bs) h2.0 in
    and_true (nat_lt 0 (length (b ∷ bs))) (list_all is_solid (b ∷ bs)) (lt-ltb 0 (length (b ∷ bs)) (omega arith))
    (and_true (is_solid b) (list_all is_solid bs) (solid_letter b h1.0) (all_solid is_name_byte solid_name_byte bs h1.1))

pub word_decimal : (n : ℕ) → n < 2 ^ 64 → is_word (decimal n) ≡ true
word_decimal n small =
    and_true (nat_lt 0 (length (decimal n))) (list_all is_solid (decimal n)) (lt-ltb 0 (length (decimal n)) (decimal_nonempty n small))
    (all_solid is_digit solid_digit (decimal n) (all_digits n small))

two_on : (n : ℕ) (r : Bool) → r ≡ true → (is_solid (48 + n / 10) && (is_solid (48 + n % 10) && r)) ≡ true
two_on n r h =
    and_true (is_solid (48 + n / 10)) (is_solid (48 + n % 10) && r) (above_32 (48 + n / 10) (omega arith)) (and_true (is_solid (48 + n % 10)) r (above_32 (48 + n % 10) (omega arith)) h)

solid_civil : (c : Civil) → list_all is_solid (text_of_civil c) ≡ true
solid_civil c = two_on (c.year / 100) _ (two_on (c.year % 100) _ (two_on c.month _ (two_on c.day _ (two_on c.hour _ (two_on c.minute true refl)))))

-- YYYY-MM-DDTHH:MM
pub word_civil : (t : ℕ) → is_word (civil_text t) ≡ true
word_civil t = solid_civil (civil_at t)

pub words_names : (ns : List (List ℕ)) → are_names ns ≡ true → list_all is_word ns ≡ true
words_names [] h = refl
words_names (n ∷ ns) h = let parts = both (is_name n) (are_names ns) h in and_true (is_word n) (list_all is_word ns) (word_name n parts.0) (words_names ns parts.1)

pub word_event_verb : (on : Bool) (s : Sort) → is_word (event_verb on s) ≡ true
word_event_verb true Enabling = refl
word_event_verb false Enabling = refl
word_event_verb true Assigning = refl
word_event_verb false Assigning = refl
word_event_verb true Granting = refl
word_event_verb false Granting = refl
word_event_verb true Arming = refl
word_event_verb false Arming = refl
word_event_verb true Linking = refl
word_event_verb false Linking = refl

pub word_cond_verb : (on : Bool) (s : Sort) → is_word (cond_verb on s) ≡ true
word_cond_verb true Enabling = refl
word_cond_verb false Enabling = refl
word_cond_verb true Assigning = refl
word_cond_verb false Assigning = refl
word_cond_verb true Granting = refl
word_cond_verb false Granting = refl
word_cond_verb true Arming = refl
word_cond_verb false Arming = refl
word_cond_verb true Linking = refl
word_cond_verb false Linking = refl

word_signal_verb : (start : Bool) → is_word (signal_verb start) ≡ true
word_signal_verb true = refl
word_signal_verb false = refl

pub behind : (w : List ℕ) (ws : List (List ℕ)) → is_word w ≡ true → list_all is_word ws ≡ true → list_all is_word (w ∷ ws) ≡ true
behind w ws h k = and_true (is_word w) (list_all is_word ws) h k

words_cond : (c : NamedCond) → are_names (fluent_names c.fluent) ≡ true → list_all is_word (cond_words c) ≡ true
words_cond c h = behind (cond_verb c.on (sort_of c.fluent)) (fluent_names c.fluent) (word_cond_verb c.on (sort_of c.fluent)) (words_names (fluent_names c.fluent) h)

words_item : (i : Item) → is_item i ≡ true → list_all is_word (item_words i) ≡ true
words_item (Event e) h = behind (event_verb e.on (sort_of e.fluent)) (fluent_names e.fluent) (word_event_verb e.on (sort_of e.fluent)) (words_names (fluent_names e.fluent) h)
words_item (Signal s) h =
    let parts = both (is_name s.user) (is_name s.role) h in
    behind (signal_verb s.start) (s.user ∷ s.role ∷ []) (word_signal_verb s.start) (behind s.user (s.role ∷ []) (word_name s.user parts.0) (behind s.role [] (word_name s.role parts.1) refl))
words_item (Cond c) h = words_cond c h
words_item (Settled c) h = behind (codes "settled") (cond_words c) refl (words_cond c h)

-- a word that goes on is a word
pub word_on : (a b : List ℕ) → is_word a ≡ true → list_all is_solid b ≡ true → is_word (a ++ b) ≡ true
word_on [] b h k = absurd (false≢true h)
word_on (x ∷ a) b h k =
    and_true (nat_lt 0 (length (x ∷ a ++ b))) (list_all is_solid (x ∷ a ++ b)) (lt-ltb 0 (length (x ∷ a ++ b)) (omega arith))
    (all_append is_solid (x ∷ a) b (both (nat_lt 0 (length (x ∷ a))) (list_all is_solid (x ∷ a)) h).1 k)

words_head : (h : NamedHead) → is_head h ≡ true → list_all is_word (head_words h) ≡ true
words_head h is =
    let parts = both (nat_le h.prio 99) (are_names (fluent_names h.event.fluent)) is in
    let low : h.prio ≤ 99 = leb-true h.prio 99 parts.0 in
    let verb = event_verb h.event.on (sort_of h.event.fluent) in
    let solid : list_all is_solid (58 ∷ verb) ≡ true = (both (nat_lt 0 (length verb)) (list_all is_solid verb) (word_event_verb h.event.on (sort_of h.event.fluent))).1 in
    behind (decimal h.prio ++ 58 ∷ verb) (fluent_names h.event.fluent) (word_on (decimal h.prio) (58 ∷ verb) (word_decimal h.prio (omega arith)) solid)
    (words_names (fluent_names h.event.fluent) parts.1)

words_items : (is : List Item) → list_all is_item is ≡ true → list_all is_word (and_items is) ≡ true
words_items [] h = refl
words_items (i ∷ []) h = words_item i (both (is_item i) true h).0
words_items (i ∷ j ∷ is) h =
    let parts = both (is_item i) (list_all is_item (j ∷ is)) h in
    all_append is_word (item_words i) (codes "and" ∷ and_items (j ∷ is)) (words_item i parts.0) (behind (codes "and") (and_items (j ∷ is)) refl (words_items (j ∷ is) parts.1))

pub words_delay : (d : ℕ) → d ≤ LAST_MINUTE → list_all is_word (delay_words d) ≡ true
words_delay d le = split (nat_eq d 0) (λ t. rw (t, delay_words) refl) (λ f. rw (f, delay_words) (behind (decimal d) [] (word_decimal d (omega (arith, le))) refl))

word_count : (n : ℕ) → is_count n ≡ true → is_word (decimal n) ≡ true
word_count n h = let high : n ≤ 1_000_000 = leb-true n 1_000_000 (both (nat_le 1 n) (nat_le n 1_000_000) h).1 in word_decimal n (omega (arith, high))

words_during : (p : Option (List ℕ)) → is_period_name p ≡ true → list_all is_word (during_words p) ≡ true
words_during None h = refl
words_during (Some p) h = behind p [] (word_name p h) refl

word_kind : (k : EdgeKind) → is_word (kind_word k) ≡ true
word_kind I = refl
word_kind A = refl
word_kind Ia = refl

word_strength : (s : Bool) → is_word (strength_word s) ≡ true
word_strength true = refl
word_strength false = refl

word_cap : (k : CapKind) → is_word (cap_word k) ≡ true
word_cap k = each_kind (λ k. is_word (cap_word k)) refl k

word_form : (f : Form) → is_word (form_word f) ≡ true
word_form Each = refl
word_form Start = refl
word_form Span = refl

pub solid_words : (said : SaidView) → is_formed said ≡ true → is_no_period said ≡ true → list_all is_word (said_words said) ≡ true
solid_words (version n) h np = behind (decimal n) [] (elim (either_true (nat_eq n 1) (nat_eq n 2) h) [
  | inl one ↦ word_decimal n (omega (arith, (Decides-eqb n 1).0 one))
  | inr two ↦ word_decimal n (omega (arith, (Decides-eqb n 2).0 two))
]) refl
solid_words (role n) h np = behind n [] (word_name n h) refl
solid_words (user n) h np = behind n [] (word_name n h) refl
solid_words (perm n) h np = behind n [] (word_name n h) refl
solid_words (period n f l e) h np = absurd (false≢true np)
solid_words (limit n prio c most during) h np =
    let h4 = both (is_name n && nat_le prio 99 && are_names (fluent_names c.fluent) && is_count most) (is_period_name during) h in
    let h3 = both (is_name n && nat_le prio 99 && are_names (fluent_names c.fluent)) (is_count most) h4.0 in
    let h2 = both (is_name n && nat_le prio 99) (are_names (fluent_names c.fluent)) h3.0 in
    let h1 = both (is_name n) (nat_le prio 99) h2.0 in
    let low : prio ≤ 99 = leb-true prio 99 h1.1 in
    let end = behind (decimal most) (during_words during) (word_count most h3.1) (words_during during h4.1) in
    let rest = all_append is_word (cond_words c) (codes "max" ∷ decimal most ∷ during_words during) (words_cond c h2.1) end in
    behind n (decimal prio ∷ cond_words c ++ codes "max" ∷ decimal most ∷ during_words during) (word_name n h1.0)
    (behind (decimal prio) (cond_words c ++ codes "max" ∷ decimal most ∷ during_words during) (word_decimal prio (omega (arith, low))) rest)
solid_words (edge kind strong s j) h np =
    let names = both (is_name s) (is_name j) h in
    behind (kind_word kind) (strength_word strong ∷ s ∷ j ∷ []) (word_kind kind)
    (behind (strength_word strong) (s ∷ j ∷ []) (word_strength strong) (behind s (j ∷ []) (word_name s names.0) (behind j [] (word_name j names.1) refl)))
solid_words (cap kind r n) h np =
    let parts = both (is_name r) (is_count n) h in
    behind (cap_word kind) (r ∷ decimal n ∷ []) (word_cap kind) (behind r (decimal n ∷ []) (word_name r parts.0) (behind (decimal n) [] (word_count n parts.1) refl))
solid_words (admin u) h np = behind u [] (word_name u h) refl
solid_words (opening f) h np = behind (cond_verb true (sort_of f)) (fluent_names f) (word_cond_verb true (sort_of f)) (words_names (fluent_names f) h)
solid_words (entry f p h) is np =
    let parts = both (is_name p) (is_head h) is in
    behind (form_word f) (p ∷ head_words h) (word_form f) (behind p (head_words h) (word_name p parts.0) (words_head h parts.1))
solid_words (trigger items h d) is np =
    let p3 = both (is_some_item items && list_all is_item items && is_head h) (nat_le d LAST_MINUTE) is in
    let p2 = both (is_some_item items && list_all is_item items) (is_head h) p3.0 in
    let p1 = both (is_some_item items) (list_all is_item items) p2.0 in
    all_append is_word (and_items items ++ codes "then" ∷ head_words h) (delay_words d) (all_append is_word (and_items items) (codes "then" ∷ head_words h) (words_items items p1.1) (words_head h p2.1))
    (words_delay d (leb-true d LAST_MINUTE p3.1))
