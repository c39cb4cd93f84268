-- The tokens of a text, read one after another.
use Rattle.std.proofs.Common.{◌≡◌, ℕ, suc, ◌+◌, Bool, true, false, List, [], ◌∷◌, ◌++◌, length, Option, None, refl, ap, sym, ◌∙◌, arith, append_assoc, codes, nat_eq, inl, inr, ◌⊎◌, if◌then◌else◌}
use Rattle.std.specs.List.{list_all}
use Rattle.std.proofs.lemmas.Bool.{and_parts, leb-true, or_cases, eqb-true, false≢true}
use Rattle.gtrbac_model.specs.declared.calendars.Calendar.{Calendar}
use Rattle.periodic_expr.specs.declared.scan.ScanPlace.{ScanPlace}
use Rattle.periodic_expr.specs.declared.scan.ScanPlace.TheVariants.{PartNext, DotNext, CalendarNext, PartDone, PartPast, SetFirst, SetNext, Digits, NumberPast, LengthNext, LengthDot, UnitNext, Finished}
use Rattle.periodic_expr.specs.declared.scan.Act.{Act}
use Rattle.periodic_expr.specs.declared.scan.Act.TheVariants.{Nothing, Open, Begin, Index, Length}
use Rattle.periodic_expr.specs.declared.scan.Move.{Move}
use Rattle.periodic_expr.specs.Scan.{is_blank, calendar_word, moved, to, on, part_start, calendar_start, after_part, set_first, after_index, number_start}
use Rattle.periodic_expr.specs.Sketch.{Sketch, acted}
use Rattle.periodic_expr.specs.Reading.{read_from}
use Rattle.periodic_expr.specs.Grammar.{Number, Token, mark, placed, number_token, IsAt, Lies, is_short}
use Rattle.periodic_expr.proofs.Steps.{read_step}
use Rattle.periodic_expr.proofs.Tokens.{Stays, skip, part_ended, unit_ended, part_calendar, unit_calendar, Begins, number}

-- the scan takes the first tokens, and the others lie on what is left
pub record Reads (at : ℕ) (place : ScanPlace) (s : Sketch) (text : List ℕ) (tokens : List Token) (next : ScanPlace) (t : Sketch) : Type 0 where
  pub to_at : ℕ
  pub rest : List ℕ
  pub lies : Lies to_at tokens rest
  pub same : read_from at place s text ≡ read_from to_at next t rest

-- one reading after another
pub and_then : (at : ℕ) (place : ScanPlace) (s : Sketch) (text : List ℕ) (us vs : List Token) (next last : ScanPlace) (t u : Sketch) → (r : Reads at place s text us next t) → Reads r.to_at next t r.rest vs last u → Reads at place s text vs last u
and_then at place s text us vs next last t u r q = record { to_at = q.to_at; rest = q.rest; lies = q.lies; same = r.same ∙ q.same }

regroup : (gap word rest : List ℕ) → gap ++ word ++ rest ≡ gap ++ (word ++ rest)
regroup gap word rest = rw append_assoc

-- a token that is taken whole behind blanks
taken : (place : ScanPlace) → Stays place → (token : Token) (ts : List Token) (at : ℕ) (text : List ℕ) (s : Sketch) (next : ScanPlace) (after : ℕ → Sketch) → ((k : ℕ) (rest : List ℕ) → read_from k place s (token.text ++ rest) ≡ read_from (k + length token.text) next (after k) rest) → (t : Sketch) → ((k : ℕ) → IsAt token.place k → after k ≡ t) → Lies at (token ∷ ts) text → Reads at place s text ts next t
taken place stays token ts at text s next after takes t told (gap, rest, e, blanks, is_at, lies) =
    let k = at + length gap in
    record {
      to_at = k + length token.text;
      rest = rest;
      lies = lies;
      same = ap (read_from at place s) (e ∙ regroup gap token.text rest) ∙ skip place stays gap at s (token.text ++ rest) blanks
          ∙ takes k rest ∙ ap (λ x. read_from (k + length token.text) next x rest) (told k is_at);
    }

-- places between two tokens

blank_keeps : (place : ScanPlace) (other : Option Move) (b : ℕ) → is_blank b ≡ true → (if is_blank b then to place Nothing else other) ≡ to place Nothing
blank_keeps place other b h = kept (is_blank b) h
  where
    kept : (t : Bool) → t ≡ true → (if t then to place Nothing else other) ≡ to place Nothing
    kept true e = refl
    kept false e = absurd (false≢true e)

next_stays : Stays PartNext
next_stays b h = blank_keeps PartNext (part_start b) b h

dot_stays : Stays DotNext
dot_stays b h = blank_keeps DotNext (on b 46 (to CalendarNext Nothing) None) b h

calendar_stays : Stays CalendarNext
calendar_stays b h = blank_keeps CalendarNext (calendar_start false b) b h

past_stays : Stays PartPast
past_stays b h = blank_keeps PartPast (after_part b) b h

pub first_stays : Stays SetFirst
first_stays b h = blank_keeps SetFirst (set_first b) b h

number_stays : Stays NumberPast
number_stays b h = blank_keeps NumberPast (after_index Nothing b) b h

pub set_stays : Stays SetNext
set_stays b h = blank_keeps SetNext (number_start false b) b h

pub length_stays : Stays LengthNext
length_stays b h = blank_keeps LengthNext (number_start true b) b h

length_dot_stays : Stays LengthDot
length_dot_stays b h = blank_keeps LengthDot (on b 46 (to UnitNext Nothing) None) b h

unit_stays : Stays UnitNext
unit_stays b h = blank_keeps UnitNext (calendar_start true b) b h

-- single tokens

pub dot : (ts : List Token) (at : ℕ) (text : List ℕ) (s : Sketch) → Lies at (mark (codes ".") ∷ ts) text → Reads at DotNext s text ts CalendarNext s
dot ts at text s h = taken DotNext dot_stays (mark (codes ".")) ts at text s CalendarNext (λ k. s) (λ k rest. refl) s (λ k told. refl) h

pub calendar : (c : Calendar) (n : ℕ) (ts : List Token) (at : ℕ) (text : List ℕ) (s : Sketch) → Lies at (placed n (calendar_word c) ∷ ts) text → Reads at CalendarNext s text ts PartDone (part_ended c n s)
calendar c n ts at text s h =
    taken CalendarNext calendar_stays (placed n (calendar_word c)) ts at text s PartDone (λ k. part_ended c k s) (λ k rest. part_calendar c k s rest) (part_ended c n s) (λ k told. ap (λ x. part_ended c x s) (sym told)) h

pub unit : (c : Calendar) (n : ℕ) (ts : List Token) (at : ℕ) (text : List ℕ) (s : Sketch) → Lies at (placed n (calendar_word c) ∷ ts) text → Reads at UnitNext s text ts Finished (unit_ended c n s)
unit c n ts at text s h =
    taken UnitNext unit_stays (placed n (calendar_word c)) ts at text s Finished (λ k. unit_ended c k s) (λ k rest. unit_calendar c k s rest) (unit_ended c n s) (λ k told. ap (λ x. unit_ended c x s) (sym told)) h

pub counted : (span : Bool) (place : ScanPlace) → Stays place → Begins span place → (n : Number) → is_short n ≡ true → (ts : List Token) (at : ℕ) (text : List ℕ) (s : Sketch) → Lies at (number_token n ∷ ts) text → Reads at place s text ts (Digits span n.value) (acted Begin n.place s)
counted span place stays begins n short ts at text s h =
    taken place stays (number_token n) ts at text s (Digits span n.value) (λ k. acted Begin k s) (λ k rest. number span place begins n.value (leb-true n.value 999_999_999 short) k s rest) (acted Begin n.place s) (λ k told. ap (λ x. acted Begin x s) (sym told)) h

three : (at : ℕ) → at + 1 + 1 + 1 ≡ at + 3
three at = omega arith

pub all : (n : ℕ) (ts : List Token) (at : ℕ) (text : List ℕ) (s : Sketch) → Lies at (placed n (codes "all") ∷ ts) text → Reads at PartNext s text ts DotNext s
all n ts at text s h =
    taken PartNext next_stays (placed n (codes "all")) ts at text s DotNext (λ k. s) (λ k rest. ap (λ x. read_from x DotNext s rest) (three k)) s (λ k told. refl) h

pub brace : (n : ℕ) (ts : List Token) (at : ℕ) (text : List ℕ) (s : Sketch) → Lies at (placed n (codes "{") ∷ ts) text → Reads at PartNext s text ts SetFirst (acted Open n s)
brace n ts at text s h =
    taken PartNext next_stays (placed n (codes "{")) ts at text s SetFirst (λ k. acted Open k s) (λ k rest. refl) (acted Open n s) (λ k told. ap (λ x. acted Open x s) (sym told)) h

pub closed : (ts : List Token) (at : ℕ) (text : List ℕ) (s : Sketch) → Lies at (mark (codes "}") ∷ ts) text → Reads at SetFirst s text ts DotNext s
closed ts at text s h = taken SetFirst first_stays (mark (codes "}")) ts at text s DotNext (λ k. s) (λ k rest. refl) s (λ k told. refl) h

-- behind a number of a set, and behind that of the length

-- the byte leads on alike directly behind the number and after blanks
after_digits : (span : Bool) (v : ℕ) (past : ScanPlace) (act : Act) (c : ℕ) (next : ScanPlace) → Stays past → ((b : ℕ) → is_blank b ≡ true → moved (Digits span v) b ≡ to past act) → moved (Digits span v) c ≡ to next act → moved past c ≡ to next Nothing
    → (acts : (k : ℕ) (s : Sketch) → acted act k s ≡ acted act 0 s) → (gap : List ℕ) (at : ℕ) (s : Sketch) (rest : List ℕ) → list_all is_blank gap ≡ true → read_from at (Digits span v) s (gap ++ c ∷ rest) ≡ read_from (at + length gap + 1) next (acted act 0 s) rest
after_digits span v past act c next stays blank here there acts [] at s rest h =
    let e : at + 1 ≡ at + 0 + 1 = omega arith in
    read_step at (Digits span v) s c rest (to next act) here ∙ ap (λ x. read_from (at + 1) next x rest) (acts at s) ∙ ap (λ k. read_from k next (acted act 0 s) rest) e
after_digits span v past act c next stays blank here there acts (g ∷ gs) at s rest h =
    let both = and_parts (is_blank g) (list_all is_blank gs) h in
    let e : at + 1 + length gs + 1 ≡ at + suc (length gs) + 1 = omega arith in
    read_step at (Digits span v) s g (gs ++ c ∷ rest) (to past act) (blank g both.0)
    ∙ ap (λ x. read_from (at + 1) past x (gs ++ c ∷ rest)) (acts at s)
    ∙ skip past stays gs (at + 1) (acted act 0 s) (c ∷ rest) both.1
    ∙ read_step (at + 1 + length gs) past (acted act 0 s) c rest (to next Nothing) there
    ∙ ap (λ k. read_from k next (acted act 0 s) rest) e

behind : (span : Bool) (v : ℕ) (past : ScanPlace) (act : Act) (c : ℕ) (next : ScanPlace) → Stays past → ((b : ℕ) → is_blank b ≡ true → moved (Digits span v) b ≡ to past act) → moved (Digits span v) c ≡ to next act → moved past c ≡ to next Nothing
    → (acts : (k : ℕ) (s : Sketch) → acted act k s ≡ acted act 0 s) → (ts : List Token) (at : ℕ) (text : List ℕ) (s : Sketch) → Lies at (mark (c ∷ []) ∷ ts) text → Reads at (Digits span v) s text ts next (acted act 0 s)
behind span v past act c next stays blank here there acts ts at text s (gap, rest, e, blanks, is_at, lies) = record {
  to_at = at + length gap + 1;
  rest = rest;
  lies = lies;
  same = ap (read_from at (Digits span v) s) (e ∙ regroup gap (c ∷ []) rest) ∙ after_digits span v past act c next stays blank here there acts gap at s rest blanks;
}

-- a blank is no digit
blank_kind : (b : ℕ) → is_blank b ≡ true → (b ≡ 32) ⊎ (b ≡ 9)
blank_kind b h = elim (or_cases (nat_eq b 32) (nat_eq b 9) h) [ inl e ↦ inl (eqb-true b 32 e) | inr e ↦ inr (eqb-true b 9 e) ]

index_blank : (v b : ℕ) → is_blank b ≡ true → moved (Digits false v) b ≡ to NumberPast (Index v)
index_blank v b h =
    elim (blank_kind b h) [ inl e ↦ ap (moved (Digits false v)) e | inr e ↦ ap (moved (Digits false v)) e ]

length_blank : (v b : ℕ) → is_blank b ≡ true → moved (Digits true v) b ≡ to LengthDot (Length v)
length_blank v b h =
    elim (blank_kind b h) [ inl e ↦ ap (moved (Digits true v)) e | inr e ↦ ap (moved (Digits true v)) e ]

pub comma : (v : ℕ) (ts : List Token) (at : ℕ) (text : List ℕ) (s : Sketch) → Lies at (mark (codes ",") ∷ ts) text → Reads at (Digits false v) s text ts SetNext (acted (Index v) 0 s)
comma v ts at text s h = behind false v NumberPast (Index v) 44 SetNext number_stays (index_blank v) refl refl (λ k s. refl) ts at text s h

pub close : (v : ℕ) (ts : List Token) (at : ℕ) (text : List ℕ) (s : Sketch) → Lies at (mark (codes "}") ∷ ts) text → Reads at (Digits false v) s text ts DotNext (acted (Index v) 0 s)
close v ts at text s h = behind false v NumberPast (Index v) 125 DotNext number_stays (index_blank v) refl refl (λ k s. refl) ts at text s h

pub length_dot : (v : ℕ) (ts : List Token) (at : ℕ) (text : List ℕ) (s : Sketch) → Lies at (mark (codes ".") ∷ ts) text → Reads at (Digits true v) s text ts UnitNext (acted (Length v) 0 s)
length_dot v ts at text s h = behind true v LengthDot (Length v) 46 UnitNext length_dot_stays (length_blank v) refl refl (λ k s. refl) ts at text s h

-- behind a part
part_gap : (gap : List ℕ) (at : ℕ) (s : Sketch) (c : ℕ) (rest : List ℕ) → list_all is_blank gap ≡ true → read_from at PartDone s (gap ++ c ∷ rest) ≡ read_from (at + length gap) PartPast s (c ∷ rest)
part_gap [] at s c rest h = let e : at ≡ at + 0 = omega arith in ap (λ k. read_from k PartPast s (c ∷ rest)) e
part_gap (g ∷ gs) at s c rest h =
    let both = and_parts (is_blank g) (list_all is_blank gs) h in
    let e : at + 1 + length gs ≡ at + suc (length gs) = omega arith in
    read_step at PartDone s g (gs ++ c ∷ rest) (to PartPast Nothing) (past_stays g both.0) ∙ skip PartPast past_stays gs (at + 1) s (c ∷ rest) both.1 ∙ ap (λ k. read_from k PartPast s (c ∷ rest)) e

pub behind_part : (c : ℕ) (next : ScanPlace) → moved PartPast c ≡ to next Nothing → (ts : List Token) (at : ℕ) (text : List ℕ) (s : Sketch) → Lies at (mark (c ∷ []) ∷ ts) text → Reads at PartDone s text ts next s
behind_part c next goes ts at text s (gap, rest, e, blanks, is_at, lies) = record {
  to_at = at + length gap + 1;
  rest = rest;
  lies = lies;
  same = ap (read_from at PartDone s) (e ∙ regroup gap (c ∷ []) rest) ∙ part_gap gap at s c rest blanks ∙ read_step (at + length gap) PartPast s c rest (to next Nothing) goes;
}
