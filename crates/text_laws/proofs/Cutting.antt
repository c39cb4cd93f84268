-- The rest of a text after some words.
use Rattle.std.proofs.Common.{◌≡◌, ℕ, zero, suc, ◌<◌, Bool, true, false, cond, not, nat_lt, List, [], ◌∷◌, ◌++◌, length, get_or, take, drop, append-nil, append_assoc, refl, sym, ◌∙◌, ap, subst, arith}
use Rattle.std.specs.List.{slice_split, onto_first, list_all, filter, All}
use Rattle.std.proofs.lemmas.Bool.{lt-ltb, false≢true}
use Rattle.std.proofs.lemmas.List.Elements.{filter-append}
use Rattle.std.proofs.lemmas.List.Splits.{slice_split-cons_yes, slice_split-cons_no, slice_split_none, slice_split_at}
use Rattle.gtrbac_model.proofs.Elements.{both_true, and_true, split}
use Rattle.gt_text.specs.Words.{is_blank, blank_cut}
use Rattle.policy_words.specs.Rests.{unindented, past_word, trimmed, rest_after}
use Rattle.text_laws.specs.Rests.{IsRestAfter}

abbrev is_some_word : List ℕ → Bool
is_some_word w = nat_lt 0 (length w)

abbrev is_solid : ℕ → Bool
is_solid b = not (is_blank b)

-- it has no byte, or begins with a blank
abbrev IsNext : List ℕ → Type 0
IsNext text = (b : ℕ) (bs : List ℕ) → text ≡ b ∷ bs → is_blank b ≡ true

-- it has no byte, or begins with another
abbrev Begins : List ℕ → Type 0
Begins text = (b : ℕ) (bs : List ℕ) → text ≡ b ∷ bs → is_blank b ≡ false

abbrev Ends : List ℕ → Type 0
Ends text = (bs : List ℕ) (b : ℕ) → text ≡ bs ++ b ∷ [] → is_blank b ≡ false

turned : (b : Bool) → not b ≡ true → b ≡ false
turned true h = cc
turned false h = refl

head_of : (b c : ℕ) (bs cs : List ℕ) → b ∷ bs ≡ c ∷ cs → b ≡ c
head_of b c bs cs e = cc

tail_of : (b c : ℕ) (bs cs : List ℕ) → b ∷ bs ≡ c ∷ cs → bs ≡ cs
tail_of b c bs cs e = cc

-- the words of a text that begins so

blank_first : (b : ℕ) (bs : List ℕ) → is_blank b ≡ true → blank_cut (b ∷ bs) ≡ blank_cut bs
blank_first b bs blank = ap (filter is_some_word) (slice_split-cons_yes is_blank b bs blank)

blanks_first : (gap text : List ℕ) → list_all is_blank gap ≡ true → blank_cut (gap ++ text) ≡ blank_cut text
blanks_first [] text h = refl
blanks_first (b ∷ gap) text h =
    let both = both_true (is_blank b) (list_all is_blank gap) h in
    blank_first b (gap ++ text) both.0 ∙ blanks_first gap text both.1

none_blank : (w : List ℕ) → list_all is_solid w ≡ true → All (λ b. is_blank b ≡ false) w
none_blank [] h = λ k d lt. absurd (omega (arith, lt))
none_blank (b ∷ w) h = at (none_blank w (both_true (is_solid b) (list_all is_solid w) h).1)
  where
    at : All (λ b. is_blank b ≡ false) w → (k : ℕ) (d : ℕ) → k < length (b ∷ w) → is_blank (get_or (b ∷ w) k d) ≡ false
    at later zero d lt = turned (is_blank b) (both_true (is_solid b) (list_all is_solid w) h).0
    at later (suc k) d lt = later k d (omega (arith, lt))

kept_word : (b : ℕ) (w : List ℕ) (ws : List (List ℕ)) → filter is_some_word ((b ∷ w) ∷ ws) ≡ (b ∷ w) ∷ filter is_some_word ws
kept_word b w ws = ap (λ t. cond t ((b ∷ w) ∷ filter is_some_word ws) (filter is_some_word ws)) (lt-ltb 0 (length (b ∷ w)) (omega arith))

-- a word, and then the end or a blank
word_first : (b : ℕ) (w rest : List ℕ) → list_all is_solid (b ∷ w) ≡ true → IsNext rest → blank_cut ((b ∷ w) ++ rest) ≡ (b ∷ w) ∷ blank_cut rest
word_first b w [] solid next =
    ap blank_cut (append-nil (b ∷ w)) ∙ ap (filter is_some_word) (slice_split_none is_blank (b ∷ w) (none_blank (b ∷ w) solid)) ∙ kept_word b w []
word_first b w (c ∷ rest) solid next =
    ap (filter is_some_word) (slice_split_at is_blank (b ∷ w) c rest (none_blank (b ∷ w) solid) (next c rest refl)) ∙ kept_word b w (slice_split is_blank rest)
    ∙ ap (λ ws. (b ∷ w) ∷ ws) (sym (blank_first c rest (next c rest refl)))

-- the words of a text that ends in blanks

onto_kept : (x : ℕ) (part : List ℕ) (parts more : List (List ℕ)) → onto_first x ((part ∷ parts) ++ more) ≡ onto_first x (part ∷ parts) ++ more
onto_kept x part parts more = refl

pub some_part : (text : List ℕ) → (part : List ℕ) × (parts : List (List ℕ)) × (slice_split is_blank text ≡ part ∷ parts)
some_part [] = ([], [], refl)
some_part (x ∷ xs) =
    split (is_blank x) (λ yes. ([], slice_split is_blank xs, slice_split-cons_yes is_blank x xs yes))
    (λ no. let (part, parts, is) = some_part xs in (x ∷ part, parts, slice_split-cons_no is_blank x xs no ∙ ap (onto_first x) is))

last_blank : (text : List ℕ) (b : ℕ) → is_blank b ≡ true → slice_split is_blank (text ++ b ∷ []) ≡ slice_split is_blank text ++ [] ∷ []
last_blank [] b blank = slice_split-cons_yes is_blank b [] blank
last_blank (x ∷ xs) b blank =
    split (is_blank x)
    (λ yes. slice_split-cons_yes is_blank x (xs ++ b ∷ []) yes ∙ ap (λ ps. [] ∷ ps) (last_blank xs b blank) ∙ ap (λ ps. ps ++ [] ∷ []) (sym (slice_split-cons_yes is_blank x xs yes)))
    (λ no.
    let (part, parts, is) = some_part xs in
    slice_split-cons_no is_blank x (xs ++ b ∷ []) no ∙ ap (onto_first x) (last_blank xs b blank ∙ ap (λ ps. ps ++ [] ∷ []) is)
    ∙ ap (λ ps. onto_first x ps ++ [] ∷ []) (sym is) ∙ ap (λ ps. ps ++ [] ∷ []) (sym (slice_split-cons_no is_blank x xs no)))

one_last : (text : List ℕ) (b : ℕ) → is_blank b ≡ true → blank_cut (text ++ b ∷ []) ≡ blank_cut text
one_last text b blank =
    ap (filter is_some_word) (last_blank text b blank) ∙ filter-append is_some_word (slice_split is_blank text) ([] ∷ []) ∙ append-nil (blank_cut text)

blanks_last : (text tail : List ℕ) → list_all is_blank tail ≡ true → blank_cut (text ++ tail) ≡ blank_cut text
blanks_last text [] h = ap blank_cut (append-nil text)
blanks_last text (b ∷ tail) h =
    let both = both_true (is_blank b) (list_all is_blank tail) h in
    ap blank_cut (sym (append_assoc text (b ∷ []) tail)) ∙ blanks_last (text ++ b ∷ []) tail both.1 ∙ one_last text b both.0

-- the three cuts

record Indented (text rest : List ℕ) : Type 0 where
  gap : List ℕ
  whole : text ≡ gap ++ rest
  blank : list_all is_blank gap ≡ true
  begins : Begins rest

indented : (text : List ℕ) → Indented text (unindented text)
indented [] = record { gap = []; whole = refl; blank = refl; begins = λ b bs e. cc }
indented (x ∷ xs) = by (is_blank x) refl (indented xs)
  where
    deeper : is_blank x ≡ true → Indented xs (unindented xs) → Indented (x ∷ xs) (unindented xs)
    deeper e i = record {
      gap = x ∷ i.gap;
      whole = ap (λ t. x ∷ t) i.whole;
      blank = and_true (is_blank x) (list_all is_blank i.gap) e i.blank;
      begins = i.begins;
    }

    here : is_blank x ≡ false → Indented (x ∷ xs) (x ∷ xs)
    here e = record { gap = []; whole = refl; blank = refl; begins = λ b bs same. subst (λ c. is_blank c ≡ false) (head_of x b xs bs same) e }

    by : (b : Bool) → is_blank x ≡ b → Indented xs (unindented xs) → Indented (x ∷ xs) (cond (is_blank x) (unindented xs) (x ∷ xs))
    by true e i = rw e (deeper e i)
    by false e i = rw e (here e)

record WordCut (text rest : List ℕ) : Type 0 where
  word : List ℕ
  whole : text ≡ word ++ rest
  solid : list_all is_solid word ≡ true
  next : IsNext rest

word_cut : (text : List ℕ) → WordCut text (past_word text)
word_cut [] = record { word = []; whole = refl; solid = refl; next = λ b bs e. cc }
word_cut (x ∷ xs) = by (is_blank x) refl (word_cut xs)
  where
    here : is_blank x ≡ true → WordCut (x ∷ xs) (x ∷ xs)
    here e = record { word = []; whole = refl; solid = refl; next = λ b bs same. subst (λ c. is_blank c ≡ true) (head_of x b xs bs same) e }

    deeper : is_blank x ≡ false → WordCut xs (past_word xs) → WordCut (x ∷ xs) (past_word xs)
    deeper e w = record {
      word = x ∷ w.word;
      whole = ap (λ t. x ∷ t) w.whole;
      solid = and_true (is_solid x) (list_all is_solid w.word) (ap not e) w.solid;
      next = w.next;
    }

    by : (b : Bool) → is_blank x ≡ b → WordCut xs (past_word xs) → WordCut (x ∷ xs) (cond (is_blank x) (x ∷ xs) (past_word xs))
    by true e w = rw e (here e)
    by false e w = rw e (deeper e w)

record TrimmedTo (text rest : List ℕ) : Type 0 where
  tail : List ℕ
  whole : text ≡ rest ++ tail
  blank : list_all is_blank tail ≡ true
  ends : Ends rest

last_of : (x b : ℕ) (bs : List ℕ) → x ∷ [] ≡ bs ++ b ∷ [] → x ≡ b
last_of x b [] e = head_of x b [] [] e
last_of x b (c ∷ bs) e = absurd (no_end bs (tail_of x c [] (bs ++ b ∷ []) e))
  where
    no_end : (cs : List ℕ) → [] ≡ cs ++ b ∷ [] → ⊥
    no_end [] h = cc
    no_end (c ∷ cs) h = cc

trimmed_to : (text : List ℕ) → TrimmedTo text (trimmed text)
trimmed_to [] = record { tail = []; whole = refl; blank = refl; ends = λ bs b e. absurd (no_end b bs e) }
  where
    no_end : (b : ℕ) (cs : List ℕ) → [] ≡ cs ++ b ∷ [] → ⊥
    no_end b [] h = cc
    no_end b (c ∷ cs) h = cc
trimmed_to (x ∷ xs) = by (trimmed xs) refl (trimmed_to xs)
  where
    none : is_blank x ≡ true → TrimmedTo xs [] → TrimmedTo (x ∷ xs) []
    none e t = record {
      tail = x ∷ t.tail;
      whole = ap (λ u. x ∷ u) t.whole;
      blank = and_true (is_blank x) (list_all is_blank t.tail) e t.blank;
      ends = t.ends;
    }

    one : is_blank x ≡ false → TrimmedTo xs [] → TrimmedTo (x ∷ xs) (x ∷ [])
    one e t = record {
      tail = t.tail;
      whole = ap (λ u. x ∷ u) t.whole;
      blank = t.blank;
      ends = λ bs b same. subst (λ c. is_blank c ≡ false) (last_of x b bs same) e;
    }

    more : (c : ℕ) (cs : List ℕ) → TrimmedTo xs (c ∷ cs) → TrimmedTo (x ∷ xs) (x ∷ c ∷ cs)
    more c cs t = record { tail = t.tail; whole = ap (λ u. x ∷ u) t.whole; blank = t.blank; ends = ends }
      where
        ends : Ends (x ∷ c ∷ cs)
        ends [] b same = absurd (let e : c ∷ cs ≡ [] = tail_of x b (c ∷ cs) [] same in cc)
        ends (d ∷ bs) b same = t.ends bs b (tail_of x d (c ∷ cs) (bs ++ b ∷ []) same)

    empty : (b : Bool) → is_blank x ≡ b → TrimmedTo xs [] → TrimmedTo (x ∷ xs) (cond (is_blank x) [] (x ∷ []))
    empty true e t = rw e (none e t)
    empty false e t = rw e (one e t)

    by : (ts : List ℕ) → trimmed xs ≡ ts → TrimmedTo xs (trimmed xs)
        → TrimmedTo (x ∷ xs) (elim (trimmed xs) [ [] ↦ cond (is_blank x) [] (x ∷ []) | c ∷ cs ↦ x ∷ c ∷ cs ])
    by [] e t = rw e (empty (is_blank x) refl (subst (TrimmedTo xs) e t))
    by (c ∷ cs) e t = rw e (more c cs (subst (TrimmedTo xs) e t))

-- the rest after n words, blanks at its end and all

record CutAfter (n : ℕ) (text rest : List ℕ) : Type 0 where
  front : List ℕ
  whole : text ≡ front ++ rest
  words : blank_cut front ≡ take n (blank_cut text)
  others : blank_cut rest ≡ drop n (blank_cut text)
  begins : Begins rest

-- what begins with a blank, or has no byte, has fronts of which this holds
next_front : (front rest past : List ℕ) → past ≡ front ++ rest → IsNext past → IsNext front
next_front front rest past whole next = λ b bs e. next b (bs ++ rest) (whole ∙ ap (λ f. f ++ rest) e)

nothing : (p : List ℕ) → Begins p → IsNext p → p ≡ []
nothing [] f g = refl
nothing (b ∷ bs) f g = absurd (false≢true (sym (f b bs refl) ∙ g b bs refl))

none_taken : (k : ℕ) → take {A = List ℕ} k [] ≡ []
none_taken zero = refl
none_taken (suc k) = refl

none_dropped : (k : ℕ) → drop {A = List ℕ} k [] ≡ []
none_dropped zero = refl
none_dropped (suc k) = refl

-- with a word in front
module _ (n : ℕ) (text : List ℕ) (i : Indented text (unindented text)) (w : WordCut (unindented text) (past_word (unindented text)))
    (c : CutAfter n (past_word (unindented text)) (rest_after n (past_word (unindented text)))) where
  abbrev past : List ℕ
  past = past_word (unindented text)

  abbrev rest : List ℕ
  rest = rest_after n past

  whole : text ≡ (i.gap ++ w.word ++ c.front) ++ rest
  whole =
      i.whole ∙ ap (λ t. i.gap ++ t) (w.whole ∙ ap (λ t. w.word ++ t) c.whole)
      ∙ sym (append_assoc (i.gap ++ w.word) c.front rest ∙ append_assoc i.gap w.word (c.front ++ rest))

  text_words : blank_cut text ≡ blank_cut (w.word ++ past)
  text_words = ap blank_cut i.whole ∙ blanks_first i.gap (unindented text) i.blank ∙ ap blank_cut w.whole

  front_words : blank_cut (i.gap ++ w.word ++ c.front) ≡ blank_cut (w.word ++ c.front)
  front_words = ap blank_cut (append_assoc i.gap w.word c.front) ∙ blanks_first i.gap (w.word ++ c.front) i.blank

  one_more : CutAfter (suc n) text rest
  one_more = by w.word refl
    where
      no_word : w.word ≡ [] → CutAfter (suc n) text rest
      no_word e =
          let all_past : unindented text ≡ past = w.whole ∙ ap (λ t. t ++ past) e in
          let none : past ≡ [] = nothing past (subst Begins all_past i.begins) w.next in
          let no_words : blank_cut text ≡ [] = text_words ∙ ap (λ t. blank_cut (t ++ past)) e ∙ ap blank_cut none in
          let no_words_past : blank_cut past ≡ [] = ap blank_cut none in
          record {
            front = i.gap ++ w.word ++ c.front;
            whole = whole;
            words = front_words ∙ ap (λ t. blank_cut (t ++ c.front)) e ∙ c.words ∙ ap (take n) no_words_past ∙ none_taken n ∙ ap (take (suc n)) (sym no_words);
            others = c.others ∙ ap (drop n) no_words_past ∙ none_dropped n ∙ ap (drop (suc n)) (sym no_words);
            begins = c.begins;
          }

      by : (word : List ℕ) → w.word ≡ word → CutAfter (suc n) text rest
      by [] e = no_word e
      by (b ∷ bs) e =
          let solid : list_all is_solid (b ∷ bs) ≡ true = subst (λ t. list_all is_solid t ≡ true) e w.solid in
          let all : blank_cut text ≡ (b ∷ bs) ∷ blank_cut past = text_words ∙ ap (λ t. blank_cut (t ++ past)) e ∙ word_first b bs past solid w.next in
          record {
            front = i.gap ++ w.word ++ c.front;
            whole = whole;
            words =
                front_words ∙ ap (λ t. blank_cut (t ++ c.front)) e ∙ word_first b bs c.front solid (next_front c.front rest past c.whole w.next)
                ∙ ap (λ ws. (b ∷ bs) ∷ ws) c.words ∙ ap (take (suc n)) (sym all);
            others = c.others ∙ ap (drop (suc n)) (sym all);
            begins = c.begins;
          }

cut_after : (n : ℕ) (text : List ℕ) → CutAfter n text (rest_after n text)
cut_after zero text =
    let i = indented text in
    record {
      front = i.gap;
      whole = i.whole;
      words = ap blank_cut (sym (append-nil i.gap)) ∙ blanks_first i.gap [] i.blank;
      others = sym (blanks_first i.gap (unindented text) i.blank) ∙ ap blank_cut (sym i.whole);
      begins = i.begins;
    }
cut_after (suc n) text = one_more n text (indented text) (word_cut (unindented text)) (cut_after n (past_word (unindented text)))

pub rest_cut : (n : ℕ) (text : List ℕ) → IsRestAfter n text (trimmed (rest_after n text))
rest_cut n text =
    let c = cut_after n text in
    let t = trimmed_to (rest_after n text) in
    record {
      front = c.front;
      blanks = t.tail;
      whole = c.whole ∙ ap (λ r. c.front ++ r) t.whole ∙ sym (append_assoc c.front (trimmed (rest_after n text)) t.tail);
      only_blanks = t.blank;
      words = c.words;
      others = sym (blanks_last (trimmed (rest_after n text)) t.tail t.blank) ∙ ap blank_cut (sym t.whole) ∙ c.others;
      begins = λ b bs e. c.begins b (bs ++ t.tail) (t.whole ∙ ap (λ r. r ++ t.tail) e);
      ends = t.ends;
    }
