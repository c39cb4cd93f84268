-- The grammar of expressions, and their faults, by places in the text.
use Rattle.std.specs.Prelude.{◌≡◌, ℕ, ◌+◌, ◌≤◌, Bool, true, false, ◌&&◌, ◌||◌, List, [], ◌∷◌, ◌++◌, length, take, map, flat_map, codes, decimal, nat_le, nat_lt, Option, Some, None, IsTrue}
use Rattle.std.specs.List.{list_all}
use Rattle.gt_base.specs.declared.limits.TheConstants.{MAX_LENGTH}
use Rattle.gtrbac_model.specs.declared.calendars.Calendar.{Calendar}
use Rattle.gtrbac_model.specs.Period.{Part, Expr}
use Rattle.gtrbac_model.specs.Valid.{is_below, is_same}
use Rattle.periodic_expr.specs.declared.faults.ExprFault.{ExprFault}
use Rattle.periodic_expr.specs.declared.faults.ExprKind.{ExprKind}
use Rattle.periodic_expr.specs.declared.faults.ExprKind.TheVariants.{FirstNotAll, NotFiner, ZeroIndex, EmptySet, BadLength}
use Rattle.periodic_expr.specs.Scan.{is_blank, calendar_word}
use Rattle.periodic_expr.specs.Sketch.{put_in}

-- what the grammar makes of a text, with the places of the tokens that a fault may name

pub record Number : Type 0 where
  pub place : ℕ
  pub value : ℕ

-- `all.CAL`, or `{..}.CAL`; the place of `all` or of the brace, and of the calendar
pub record RawPart : Type 0 where
  pub place : ℕ
  pub set : Option (List Number)
  pub calendar_place : ℕ
  pub calendar : Calendar

pub record RawLength : Type 0 where
  pub count : Number
  pub unit_place : ℕ
  pub unit : Calendar

pub record RawExpr : Type 0 where
  pub first : RawPart
  pub more : List RawPart
  pub span : Option RawLength

-- a token, and its place where the tree tells one
pub record Token : Type 0 where
  pub place : Option ℕ
  pub text : List ℕ

abbrev pub mark : List ℕ → Token
mark text = record { place = None; text = text }

abbrev pub placed : ℕ → List ℕ → Token
placed n text = record { place = Some n; text = text }

abbrev pub number_token : Number → Token
number_token n = placed n.place (decimal n.value)

abbrev pub later_numbers : List Number → List Token
later_numbers ns = flat_map (λ n. mark (codes ",") ∷ number_token n ∷ []) ns

abbrev pub numbers : List Number → List Token
numbers [] = []
numbers (n ∷ ns) = number_token n ∷ later_numbers ns

abbrev pub set_tokens : ℕ → Option (List Number) → List Token
set_tokens place None = placed place (codes "all") ∷ []
set_tokens place (Some ns) = placed place (codes "{") ∷ numbers ns ++ mark (codes "}") ∷ []

abbrev pub part_tokens : RawPart → List Token
part_tokens p = set_tokens p.place p.set ++ mark (codes ".")
    ∷ placed p.calendar_place (calendar_word p.calendar) ∷ []

abbrev pub span_tokens : Option RawLength → List Token
span_tokens None = []
span_tokens (Some l) = mark (codes ">") ∷ number_token l.count ∷ mark (codes ".")
    ∷ placed l.unit_place (calendar_word l.unit) ∷ []

-- EXPR = PART { "+" PART } [ ">" NUMBER "." CAL ]
abbrev pub tokens_of : RawExpr → List Token
tokens_of e = part_tokens e.first ++ flat_map (λ p. mark (codes "+") ∷ part_tokens p) e.more
    ++ span_tokens e.span

abbrev pub IsAt : Option ℕ → ℕ → Type 0
IsAt None n = Unit {0}
IsAt (Some place) n = place ≡ n

-- from a place on the text is these tokens, with blanks before each of them at will, and nothing
-- after the last
abbrev pub Lies : ℕ → List Token → List ℕ → Type 0
Lies at [] text = text ≡ []
Lies at (token ∷ tokens) text =
    (gap : List ℕ) × (rest : List ℕ) × (text ≡ gap ++ token.text ++ rest)
    × IsTrue (list_all is_blank gap) × IsAt token.place (at + length gap)
    × Lies (at + length gap + length token.text) tokens rest

-- a number has at most nine digits
abbrev pub is_short : Number → Bool
is_short n = nat_le n.value 999_999_999

abbrev pub short_set : Option (List Number) → Bool
short_set None = true
short_set (Some ns) = list_all is_short ns

abbrev pub short_span : Option RawLength → Bool
short_span None = true
short_span (Some l) = is_short l.count

-- the text is an expression with these tokens; it begins with the first of them
pub record Spelled (text : List ℕ) (e : RawExpr) : Type 0 where
  pub lies : Lies 0 (tokens_of e) text
  pub begins : e.first.place ≡ 0
  pub short : IsTrue (list_all (λ p. short_set p.set) (e.first ∷ e.more) && short_span e.span)

-- a text of the grammar
abbrev pub InGrammar : List ℕ → Type 0
InGrammar text = (e : RawExpr) × Spelled text e

-- a text that can be continued to one of the grammar
abbrev pub GoesOn : List ℕ → Type 0
GoesOn text = (more : List ℕ) × InGrammar (text ++ more)

-- the text is outside the grammar, and so many bytes are its longest front that can be continued
pub record IsSyntaxFault (text : List ℕ) (at : ℕ) : Type 0 where
  pub outside : InGrammar text → ⊥
  pub within : at ≤ length text
  pub goes_on : GoesOn (take at text)
  pub longest : (n : ℕ) → n ≤ length text → GoesOn (take n text) → n ≤ at

-- the faults of an expression, in the order of their places

abbrev pub where_not : Bool → ℕ → ExprKind → List ExprFault
where_not true n kind = []
where_not false n kind = record { at = n; kind = kind } ∷ []

abbrev pub zero_faults : List Number → List ExprFault
zero_faults ns = flat_map (λ n. where_not (nat_lt 0 n.value) n.place ZeroIndex) ns

-- a set that is not the first part's
abbrev pub set_faults : ℕ → Option (List Number) → List ExprFault
set_faults place None = []
set_faults place (Some []) = record { at = place; kind = EmptySet } ∷ []
set_faults place (Some (n ∷ ns)) = zero_faults (n ∷ ns)

abbrev pub first_faults : ℕ → Option (List Number) → List ExprFault
first_faults place None = []
first_faults place (Some ns) = record { at = place; kind = FirstNotAll } ∷ zero_faults ns

abbrev pub span_faults : Calendar → Option RawLength → List ExprFault
span_faults above None = []
span_faults above (Some l) =
    where_not (nat_le 1 l.count.value && nat_le l.count.value MAX_LENGTH) l.count.place BadLength
    ++ where_not (is_same above l.unit || is_below above l.unit) l.unit_place NotFiner

abbrev pub later_faults : Calendar → List RawPart → Option RawLength → List ExprFault
later_faults above [] span = span_faults above span
later_faults above (p ∷ ps) span =
    set_faults p.place p.set ++ where_not (is_below above p.calendar) p.calendar_place NotFiner
    ++ later_faults p.calendar ps span

abbrev pub faults_of : RawExpr → List ExprFault
faults_of e = first_faults e.first.place e.first.set ++ later_faults e.first.calendar e.more e.span

-- what an expression without faults means: sets ascend without repeats, and the length is there

-- the numbers put into a set one after another
abbrev pub gathered : List ℕ → List ℕ → List ℕ
gathered set [] = set
gathered set (n ∷ ns) = gathered (put_in n set) ns

abbrev pub set_of : Option (List Number) → Option (List ℕ)
set_of None = None
set_of (Some ns) = Some (gathered [] (map (λ n. n.value) ns))

abbrev pub part_of : RawPart → Part
part_of p = record { calendar = p.calendar; set = set_of p.set }

abbrev pub last_calendar : Calendar → List RawPart → Calendar
last_calendar c [] = c
last_calendar c (p ∷ ps) = last_calendar p.calendar ps

abbrev pub with_span : List Part → Calendar → Option RawLength → Expr
with_span parts last None = record { parts = parts; count = 1; unit = last }
with_span parts last (Some l) = record { parts = parts; count = l.count.value; unit = l.unit }

abbrev pub expr_of : RawExpr → Expr
expr_of e = with_span (map part_of (e.first ∷ e.more))
    (last_calendar e.first.calendar e.more) e.span

-- what a text says, as the grammar has it

-- the text is an expression without faults, which means this
pub record Says (text : List ℕ) (x : Expr) : Type 0 where
  pub tree : RawExpr
  pub spelled : Spelled text tree
  pub faultless : faults_of tree ≡ []
  pub means : x ≡ expr_of tree

-- the text is in the grammar, and its fault of the least place is this one
pub record HasFault (text : List ℕ) (f : ExprFault) : Type 0 where
  pub tree : RawExpr
  pub spelled : Spelled text tree
  pub later : List ExprFault
  pub faults : faults_of tree ≡ f ∷ later
