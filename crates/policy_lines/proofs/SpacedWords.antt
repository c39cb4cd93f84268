-- Words with spaces between them are the words of the line that they make.
use Rattle.std.proofs.Common.{◌≡◌, ℕ, zero, suc, ◌-◌, ◌<◌, ◌≤◌, Bool, true, false, cond, ◌||◌, List, [], ◌∷◌, ◌++◌, length, get_or, take, refl, ◌∙◌, ap, arith, append_assoc, eqb}
use Rattle.std.specs.Prelude.{nat_lt, nat_le, filter}
use Rattle.std.specs.List.{list_all, slice_split, All}
use Rattle.std.proofs.lemmas.List.Splits.{slice_split_at, slice_split_none}
use Rattle.std.proofs.lemmas.List.Sums.{AllPass-from_list_all}
use Rattle.std.proofs.lemmas.List.Folds.{list_all-append}
use Rattle.std.proofs.lemmas.Bool.{false≢true, le-leb}
use Rattle.std.proofs.lemmas.Bool.Decides.{Decides-eqb}
use borrow.Author.Tests.{ltb-true, leb-true}
use Rattle.gt_text.specs.Lines.{without_return}
use Rattle.gt_text.specs.Words.{is_blank, blank_cut, words_of, spaced}
use Rattle.policy_words.specs.Rests.{unindented, past_word, trimmed, rest_after}
use Rattle.policy_lines.specs.Plain.{is_solid, is_word, is_plain}
use Rattle.policy_lines.proofs.Truths.{both, and_true, not_true}

-- each of two lists passes
pub all_append : {A : Type 0} (p : A → Bool) (a b : List A) → list_all p a ≡ true → list_all p b ≡ true → list_all p (a ++ b) ≡ true
all_append p a b h k = list_all-append p a b ∙ and_true (list_all p a) (list_all p b) h k

pub solid_is : (b : ℕ) → is_solid b ≡ true → is_blank b ≡ false
solid_is b h =
    let above : 32 < b = ltb-true 32 b h in
    let no_space : eqb b 32 ≡ false = not_true (eqb b 32) (λ t. absurd (omega (arith, above, (Decides-eqb b 32).0 t))) in
    let no_tab : eqb b 9 ≡ false = not_true (eqb b 9) (λ t. absurd (omega (arith, above, (Decides-eqb b 9).0 t))) in
    ap (λ t. t || eqb b 9) no_space ∙ no_tab

no_blanks : (w : List ℕ) → list_all is_solid w ≡ true → All (λ b. is_blank b ≡ false) w
no_blanks w h k d l = solid_is (get_or w k d) (AllPass-from_list_all is_solid w h k d l)

kept : (w : List ℕ) (ws : List (List ℕ)) → nat_lt 0 (length w) ≡ true → filter (λ word. nat_lt 0 (length word)) (w ∷ ws) ≡ w ∷ filter (λ word. nat_lt 0 (length word)) ws
kept w ws h = ap (λ b. cond b (w ∷ filter (λ word. nat_lt 0 (length word)) ws) (filter (λ word. nat_lt 0 (length word)) ws)) h

-- the first word, where a space is behind it
pub cut_word : (w rest : List ℕ) → is_word w ≡ true → blank_cut ((w ++ 32 ∷ []) ++ rest) ≡ w ∷ blank_cut rest
cut_word w rest h =
    let parts = both (nat_lt 0 (length w)) (list_all is_solid w) h in
    ap blank_cut (append_assoc w (32 ∷ []) rest) ∙ ap (filter (λ word. nat_lt 0 (length word))) (slice_split_at is_blank w 32 rest (no_blanks w parts.1) refl)
    ∙ kept w (slice_split is_blank rest) parts.0

-- a word that is the whole line
pub last_word : (w : List ℕ) → is_word w ≡ true → blank_cut w ≡ w ∷ []
last_word w h =
    let parts = both (nat_lt 0 (length w)) (list_all is_solid w) h in
    ap (filter (λ word. nat_lt 0 (length word))) (slice_split_none is_blank w (no_blanks w parts.1)) ∙ kept w [] parts.0

pub cut_spaced : (ws : List (List ℕ)) → list_all is_word ws ≡ true → blank_cut (spaced ws) ≡ ws
cut_spaced [] h = refl
cut_spaced (w ∷ []) h = last_word w (both (is_word w) true h).0
cut_spaced (w ∷ v ∷ vs) h =
    let parts = both (is_word w) (list_all is_word (v ∷ vs)) h in
    cut_word w (spaced (v ∷ vs)) parts.0 ∙ ap (λ ws. w ∷ ws) (cut_spaced (v ∷ vs) parts.1)

-- a plain line has no carriage return at its end

plain_at : (line : List ℕ) (k : ℕ) → is_plain line ≡ true → eqb (get_or line k 0) 13 ≡ false
plain_at [] k h = refl
plain_at (b ∷ bs) zero h =
    let above : 32 ≤ b = leb-true 32 b (both (nat_le 32 b) (is_plain bs) h).0 in not_true (eqb b 13) (λ t. absurd (omega (arith, above, (Decides-eqb b 13).0 t)))
plain_at (b ∷ bs) (suc k) h = plain_at bs k (both (nat_le 32 b) (is_plain bs) h).1

pub no_return : (line : List ℕ) → is_plain line ≡ true → without_return line ≡ line
no_return line h = ap (λ b. cond b (take (length line - 1) line) line) (plain_at line (length line - 1) h)

pub solid_plain : (w : List ℕ) → list_all is_solid w ≡ true → is_plain w ≡ true
solid_plain [] h = refl
solid_plain (b ∷ bs) h =
    let parts = both (is_solid b) (list_all is_solid bs) h in
    let above : 32 < b = ltb-true 32 b parts.0 in and_true (nat_le 32 b) (is_plain bs) (le-leb 32 b (omega (arith, above))) (solid_plain bs parts.1)

pub plain_spaced : (ws : List (List ℕ)) → list_all is_plain ws ≡ true → is_plain (spaced ws) ≡ true
plain_spaced [] h = refl
plain_spaced (w ∷ []) h = (both (is_plain w) true h).0
plain_spaced (w ∷ v ∷ vs) h =
    let parts = both (is_plain w) (list_all is_plain (v ∷ vs)) h in
    all_append (nat_le 32) (w ++ 32 ∷ []) (spaced (v ∷ vs)) (all_append (nat_le 32) w (32 ∷ []) parts.0 refl) (plain_spaced (v ∷ vs) parts.1)

pub words_plain : (ws : List (List ℕ)) → list_all is_word ws ≡ true → list_all is_plain ws ≡ true
words_plain [] h = refl
words_plain (w ∷ ws) h =
    let parts = both (is_word w) (list_all is_word ws) h in
    and_true (is_plain w) (list_all is_plain ws) (solid_plain w (both (nat_lt 0 (length w)) (list_all is_solid w) parts.0).1) (words_plain ws parts.1)

pub words_of_spaced : (ws : List (List ℕ)) → list_all is_word ws ≡ true → words_of (spaced ws) ≡ ws
words_of_spaced ws h = ap blank_cut (no_return (spaced ws) (plain_spaced ws (words_plain ws h))) ∙ cut_spaced ws h

-- the rest of a line after words

past_solid : (w rest : List ℕ) → list_all is_solid w ≡ true → past_word ((w ++ 32 ∷ []) ++ rest) ≡ 32 ∷ rest
past_solid [] rest h = refl
past_solid (b ∷ bs) rest h =
    let parts = both (is_solid b) (list_all is_solid bs) h in
    ap (λ t. cond t (b ∷ (bs ++ 32 ∷ []) ++ rest) (past_word ((bs ++ 32 ∷ []) ++ rest))) (solid_is b parts.0) ∙ past_solid bs rest parts.1

pub no_indent : (b : ℕ) (bs : List ℕ) → is_blank b ≡ false → unindented (b ∷ bs) ≡ b ∷ bs
no_indent b bs h = ap (λ t. cond t (unindented bs) (b ∷ bs)) h

word_first : (w rest : List ℕ) → is_word w ≡ true → unindented ((w ++ 32 ∷ []) ++ rest) ≡ (w ++ 32 ∷ []) ++ rest
word_first [] rest h = absurd (false≢true h)
word_first (b ∷ bs) rest h =
    let solid = (both (nat_lt 0 (length (b ∷ bs))) (list_all is_solid (b ∷ bs)) h).1 in
    no_indent b ((bs ++ 32 ∷ []) ++ rest) (solid_is b (both (is_solid b) (list_all is_solid bs) solid).0)

skip_space : (n : ℕ) (rest : List ℕ) → rest_after n (32 ∷ rest) ≡ rest_after n rest
skip_space zero rest = refl
skip_space (suc n) rest = refl

pub rest_past : (n : ℕ) (w rest : List ℕ) → is_word w ≡ true → rest_after (suc n) ((w ++ 32 ∷ []) ++ rest) ≡ rest_after n rest
rest_past n w rest h =
    ap (λ t. rest_after n (past_word t)) (word_first w rest h)
    ∙ ap (rest_after n) (past_solid w rest (both (nat_lt 0 (length w)) (list_all is_solid w) h).1) ∙ skip_space n rest

-- nothing is trimmed behind a byte that is no blank
pub trimmed_behind : (front : List ℕ) (b : ℕ) (bs : List ℕ) → trimmed (b ∷ bs) ≡ b ∷ bs → trimmed (front ++ b ∷ bs) ≡ front ++ b ∷ bs
trimmed_behind [] b bs h = h
trimmed_behind (x ∷ []) b bs h =
    ap (λ (rest : List ℕ). elim rest as (λ _. List ℕ) [ [] ↦ cond (is_blank x) [] (x ∷ []) | c ∷ cs ↦ x ∷ c ∷ cs ]) h
trimmed_behind (x ∷ y ∷ ys) b bs h =
    ap (λ (rest : List ℕ). elim rest as (λ _. List ℕ) [ [] ↦ cond (is_blank x) [] (x ∷ []) | c ∷ cs ↦ x ∷ c ∷ cs ]) (trimmed_behind (y ∷ ys) b bs h)
