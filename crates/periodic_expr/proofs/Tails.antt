-- What may follow at each place of the scan.
use Rattle.std.proofs.Common.{◌≡◌, ℕ, suc, ◌+◌, ◌≤◌, Bool, true, false, nat_eq, List, [], ◌∷◌, ◌++◌, length, take, drop, flat_map, Option, Some, None, refl, ap, sym, subst, arith, codes, decimal, if◌then◌else◌}
use Rattle.std.specs.List.{list_all}
use Rattle.std.proofs.lemmas.Bool.{and_from, eqb-true}
use Rattle.gt_base.specs.Names.{is_digit}
use Rattle.gtrbac_model.specs.declared.calendars.Calendar.{Calendar}
use Rattle.periodic_expr.specs.declared.scan.ScanPlace.{ScanPlace}
use Rattle.periodic_expr.specs.declared.scan.ScanPlace.TheVariants.{Start, PartNext, OneLetter, TwoLetters, DotNext, CalendarNext, Letters, PartDone, PartPast, SetFirst, Digits, NumberPast, SetNext, LengthNext, LengthDot, UnitNext, Finished}
use Rattle.periodic_expr.specs.declared.scan.Act.TheVariants.{Nothing}
use Rattle.periodic_expr.specs.declared.scan.Move.{Move}
use Rattle.periodic_expr.specs.Scan.{is_blank, calendar_word, to, on, on_blank, on_digit, IsSized}
use Rattle.periodic_expr.specs.Grammar.{Number, RawPart, RawLength, Token, mark, placed, number_token, later_numbers, numbers, set_tokens, part_tokens, span_tokens, IsAt, Lies, is_short, short_set, short_span}
use Rattle.periodic_expr.proofs.Canonical.{Fits, here}

-- cases of a step
module _ (K : Option Move → Type 0) where
  pub on_case : (b c : ℕ) (x y : Option Move) → (b ≡ c → K x) → K y → K (on b c x y)
  on_case b c x y f g = by_test (nat_eq b c) refl
    where
      by_test : (t : Bool) → nat_eq b c ≡ t → K (if t then x else y)
      by_test true e = f (eqb-true b c e)
      by_test false e = g

  pub blank_case : (b : ℕ) (place : ScanPlace) (y : Option Move) → (is_blank b ≡ true → K (to place Nothing)) → K y → K (on_blank b place y)
  blank_case b place y f g = by_test (is_blank b) refl
    where
      by_test : (t : Bool) → is_blank b ≡ t → K (if t then to place Nothing else y)
      by_test true e = f e
      by_test false e = g

  pub digit_case : (b : ℕ) (x y : Option Move) → (is_digit b ≡ true → K x) → K y → K (on_digit b x y)
  digit_case b x y f g = by_test (is_digit b) refl
    where
      by_test : (t : Bool) → is_digit b ≡ t → K (if t then x else y)
      by_test true e = f e
      by_test false e = g

-- token lists, by where they may stand

abbrev pub plus : RawPart → List Token
plus p = mark (codes "+") ∷ part_tokens p

pub record IsRest (ts : List Token) : Type 0 where
  pub raws : List RawPart
  pub span : Option RawLength
  pub tokens : ts ≡ flat_map plus raws ++ span_tokens span
  pub short : list_all (λ p. short_set p.set) raws ≡ true
  pub last : short_span span ≡ true

-- there is a further token
pub record IsMore (ts : List Token) : Type 0 where
  pub rest : IsRest ts
  pub token : Token
  pub others : List Token
  pub split : ts ≡ token ∷ others

pub record IsPart (ts : List Token) : Type 0 where
  pub raw : RawPart
  pub more : List Token
  pub tokens : ts ≡ set_tokens raw.place raw.set ++ mark (codes ".") ∷ placed raw.calendar_place (calendar_word raw.calendar) ∷ more
  pub short : short_set raw.set ≡ true
  pub rest : IsRest more

pub record IsName (ts : List Token) : Type 0 where
  pub place : ℕ
  pub calendar : Calendar
  pub more : List Token
  pub tokens : ts ≡ placed place (calendar_word calendar) ∷ more
  pub rest : IsRest more

pub record IsDot (ts : List Token) : Type 0 where
  pub name : List Token
  pub tokens : ts ≡ mark (codes ".") ∷ name
  pub fits : IsName name

-- numbers to come, the closing brace, and what stands behind it
pub record IsPast (ts : List Token) : Type 0 where
  pub nums : List Number
  pub more : List Token
  pub tokens : ts ≡ later_numbers nums ++ mark (codes "}") ∷ more
  pub short : list_all is_short nums ≡ true
  pub rest : IsDot more

pub record IsNext (ts : List Token) : Type 0 where
  pub num : Number
  pub past : List Token
  pub tokens : ts ≡ number_token num ∷ past
  pub short : is_short num ≡ true
  pub rest : IsPast past

pub record IsFirst (ts : List Token) : Type 0 where
  pub nums : List Number
  pub more : List Token
  pub tokens : ts ≡ numbers nums ++ mark (codes "}") ∷ more
  pub short : list_all is_short nums ≡ true
  pub rest : IsDot more

pub record IsUnit (ts : List Token) : Type 0 where
  pub place : ℕ
  pub calendar : Calendar
  pub tokens : ts ≡ placed place (calendar_word calendar) ∷ []

pub record IsUnitDot (ts : List Token) : Type 0 where
  pub name : List Token
  pub tokens : ts ≡ mark (codes ".") ∷ name
  pub fits : IsUnit name

pub record IsLength (ts : List Token) : Type 0 where
  pub num : Number
  pub dot : List Token
  pub tokens : ts ≡ number_token num ∷ dot
  pub short : is_short num ≡ true
  pub fits : IsUnitDot dot

-- within a calendar, after k letters that it shares with c
pub record InLetters (c : Calendar) (k : ℕ) (After : List ℕ → Type 0) (ys : List ℕ) : Type 0 where
  pub calendar : Calendar
  pub zs : List ℕ
  pub left : ys ≡ drop k (calendar_word calendar) ++ zs
  pub shared : take k (calendar_word calendar) ≡ take k (calendar_word c)
  pub after : After zs

-- within a number, of this value so far
pub record InDigits (v : ℕ) (P : List Token → Type 0) (ys : List ℕ) : Type 0 where
  pub value : ℕ
  pub ds : List ℕ
  pub zs : List ℕ
  pub text : decimal value ≡ decimal v ++ ds
  pub small : value ≤ 999_999_999
  pub left : ys ≡ ds ++ zs
  pub after : Fits P zs

-- a part that begins directly here
abbrev pub StartsPart : List ℕ → Type 0
StartsPart ys = (at : ℕ) → (ts : List Token) × Lies at ts ys × ((p : IsPart ts) × (p.raw.place ≡ at + 0))

pub record Letter (n : ℕ) (P : List Token → Type 0) (ys : List ℕ) : Type 0 where
  pub zs : List ℕ
  pub left : ys ≡ take n (108 ∷ 108 ∷ []) ++ zs
  pub after : Fits P zs

-- what may follow at a place
abbrev pub Follows : ScanPlace → List ℕ → Type 0
Follows Start ys = StartsPart ys
Follows PartNext ys = Fits IsPart ys
Follows OneLetter ys = Letter 2 IsDot ys
Follows TwoLetters ys = Letter 1 IsDot ys
Follows DotNext ys = Fits IsDot ys
Follows CalendarNext ys = Fits IsName ys
Follows (Letters true c k) ys = InLetters c k (λ zs. zs ≡ []) ys
Follows (Letters false c k) ys = InLetters c k (Fits IsRest) ys
Follows PartDone ys = Fits IsRest ys
Follows PartPast ys = Fits IsMore ys
Follows SetFirst ys = Fits IsFirst ys
Follows (Digits true v) ys = InDigits v IsUnitDot ys
Follows (Digits false v) ys = InDigits v IsPast ys
Follows NumberPast ys = Fits IsPast ys
Follows SetNext ys = Fits IsNext ys
Follows LengthNext ys = Fits IsLength ys
Follows LengthDot ys = Fits IsUnitDot ys
Follows UnitNext ys = Fits IsUnit ys
Follows Finished ys = ys ≡ []

abbrev pub Step : ScanPlace → ℕ → List ℕ → Option Move → Type 0
Step place b bs None = Unit {0}
Step place b bs (Some m) = IsSized m.place × (Follows m.place bs → Follows place (b ∷ bs))

-- one blank more
pub blank_more : (at b : ℕ) (token : Token) (ts : List Token) (text : List ℕ) → is_blank b ≡ true → Lies (at + 1) (token ∷ ts) text → Lies at (token ∷ ts) (b ∷ text)
blank_more at b token ts text h (gap, rest, e, blanks, told, lies) =
    let same : at + 1 + length gap ≡ at + suc (length gap) = omega arith in
    (b ∷ gap, rest, ap (λ x. b ∷ x) e, and_from (is_blank b) (list_all is_blank gap) h blanks, subst (λ (n : ℕ). IsAt token.place n) same told, subst (λ (n : ℕ). Lies (n + length token.text) ts rest) same lies)

abbrev pub HasToken : (List Token → Type 0) → Type 0
HasToken P = (ts : List Token) → P ts → (token : Token) × (us : List Token) × (ts ≡ token ∷ us)

pub blank_fits : (P : List Token → Type 0) → HasToken P → (b : ℕ) (bs : List ℕ) → is_blank b ≡ true → Fits P bs → Fits P (b ∷ bs)
blank_fits P has b bs h f at =
    let r = f (at + 1) in
    let ts = r.0 in
    let lies = r.1 in
    let p = r.2 in
    let t = has ts p in
    (ts, subst (λ us. Lies at us (b ∷ bs)) (sym t.2) (blank_more at b t.0 t.1 bs h (subst (λ us. Lies (at + 1) us bs) t.2 lies)), p)

-- a byte that is a token
pub byte_fits : (P Q : List Token → Type 0) (b c : ℕ) (bs : List ℕ) → ((ts : List Token) → P ts → Q (mark (c ∷ []) ∷ ts)) → b ≡ c → Fits P bs → Fits Q (b ∷ bs)
byte_fits P Q b c bs make e f at =
    let r = f (at + length {A = ℕ} [] + length (c ∷ [])) in
    (mark (c ∷ []) ∷ r.0, ap_lies (here at (mark (c ∷ [])) r.0 bs tt r.1), make r.0 r.2)
  where
    ap_lies : Lies at (mark (c ∷ []) ∷ (f (at + length {A = ℕ} [] + length (c ∷ []))).0) (c ∷ bs) → Lies at (mark (c ∷ []) ∷ (f (at + length {A = ℕ} [] + length (c ∷ []))).0) (b ∷ bs)
    ap_lies h = subst (λ (x : ℕ). Lies at (mark (c ∷ []) ∷ (f (at + length {A = ℕ} [] + length (c ∷ []))).0) (x ∷ bs)) (sym e) h

pub dot_token : HasToken IsDot
dot_token ts p = (mark (codes "."), p.name, p.tokens)
