-- What a line of a policy says, or its fault, by reading its words.
use Rattle.std.specs.Prelude.{ℕ, zero, suc, ◌+◌, Bool, true, false, List, [], ◌∷◌, length, codes, bytes_eq, nat_lt, Option, Some, None, Result, Ok, Err, if◌then◌else◌, ◌&&◌, find}
use Rattle.gt_base.specs.Names.{name_in, number_from}
use Rattle.gt_base.specs.declared.policies.Form.{Form}
use Rattle.gt_base.specs.declared.policies.Form.TheVariants.{Each, Start, Span}
use Rattle.gt_base.specs.declared.limits.TheConstants.{LAST_MINUTE, LONGEST_POLICY_LINE, MAX_COUNT, MAX_POLICY_PRIO}
use Rattle.gtrbac_model.specs.Period.{Expr}
use Rattle.gt_text.specs.Lines.{without_return, is_longer}
use Rattle.gt_text.specs.Words.{words_of, are_silent}
use Rattle.civil_time.specs.Text.{civil_in}
use Rattle.periodic_expr.specs.declared.faults.ExprFault.{ExprFault}
use Rattle.periodic_expr.specs.Reading.{read_expr}
use Rattle.policy_words.specs.declared.faults.TextKind.{TextKind}
use Rattle.policy_words.specs.declared.faults.TextKind.TheVariants as faults
use Rattle.policy_words.specs.declared.parts.NamedCond.{NamedCond}
use Rattle.policy_words.specs.declared.versions.TextVersion.{TextVersion}
use Rattle.policy_words.specs.declared.parts.Item.{Item}
use Rattle.policy_words.specs.declared.sayings.EdgeKind.TheVariants.{I, A, Ia}
use Rattle.policy_words.specs.CapKinds.{cap_kinds}
use Rattle.policy_words.specs.Rests.{rest_after, trimmed}
use Rattle.policy_words.specs.Wording.{◌>>=◌, Read, cond_at, head_at, item_at, at_end, by_verb, delay_in}
use Rattle.policy_words.specs.Sayings.{SaidView, version, role, user, perm, period, limit, edge, cap, admin, opening, entry, trigger, kind_word, strength_word, cap_word, is_body}
use Rattle.policy_words.specs.Versions.{is_open, has_edges, version_after, is_allowed}

abbrev pub formed : Option SaidView → Result SaidView TextKind
formed None = Err faults.Form
formed (Some s) = Ok s

-- version 1 has no form that names an edge
abbrev pub formed_in : Bool → Option SaidView → Result SaidView TextKind
formed_in edges None = Err faults.Form
formed_in edges (Some s) = if is_allowed edges s then Ok s else Err faults.Form

abbrev pub one_name : (List ℕ → SaidView) → List (List ℕ) → Option SaidView
one_name build [] = None
one_name build (w ∷ ws) = do
  n ← name_in w
  at_end (build n) ws

abbrev pub first_in : List ℕ → Option ℕ
first_in w = if bytes_eq w (codes "*") then Some 0 else civil_in w

abbrev pub last_in : List ℕ → Option ℕ
last_in w = if bytes_eq w (codes "*") then Some LAST_MINUTE else civil_in w

-- the words of a period before its expression
pub record Bounds : Type 0 where
  pub name : List ℕ
  pub first : ℕ
  pub last : ℕ

abbrev pub bounds_in : List (List ℕ) → Option Bounds
bounds_in (n ∷ f ∷ l ∷ ws) = do
  name ← name_in n
  first ← first_in f
  last ← last_in l
  Some (record { name = name; first = first; last = last })
bounds_in _ = None

abbrev pub with_expr : Bounds → Result Expr ExprFault → Result SaidView TextKind
with_expr b (Ok e) = Ok (period b.name b.first b.last e)
with_expr b (Err f) = Err (faults.Expr f)

-- the expression of a period line: the rest after four words, without the blanks round it
abbrev pub expr_of_line : List ℕ → List ℕ
expr_of_line line = trimmed (rest_after 4 (without_return line))

-- the words before the expression, then the bounds, then the expression
abbrev pub period_by : List ℕ → Option Bounds → Result SaidView TextKind
period_by line None = Err faults.Form
period_by line (Some b) =
    if nat_lt b.last b.first then Err faults.Bounds
    else with_expr b (read_expr (expr_of_line line))

abbrev pub during_in : List (List ℕ) → Option (Option (List ℕ))
during_in [] = Some None
during_in (w ∷ p ∷ []) =
    if bytes_eq w (codes "during") then (do n ← name_in p; Some (Some n)) else None
during_in _ = None

-- `max MOST`, and the rest
abbrev pub most_at : Read ℕ
most_at (w ∷ n ∷ ws) =
    if bytes_eq w (codes "max") then (do m ← number_from 1 MAX_COUNT n; Some (m, ws)) else None
most_at _ = None

abbrev pub limit_in : List (List ℕ) → Option SaidView
limit_in (n ∷ p ∷ ws) = do
  name ← name_in n
  prio ← number_from 0 MAX_POLICY_PRIO p
  c ← cond_at ws
  most ← most_at c.1
  during ← during_in most.1
  Some (limit name prio c.0 most.0 during)
limit_in _ = None

-- the first of these values whose word it is
abbrev pub spelled_so : {A : Type 0} → (A → List ℕ) → List A → List ℕ → Option A
spelled_so spell values w = find (λ a. bytes_eq (spell a) w) values

abbrev pub edge_in : List (List ℕ) → Option SaidView
edge_in (k ∷ st ∷ s ∷ j ∷ []) = do
  kind ← spelled_so kind_word (I ∷ A ∷ Ia ∷ []) k
  strong ← spelled_so strength_word (true ∷ false ∷ []) st
  senior ← name_in s
  junior ← name_in j
  Some (edge kind strong senior junior)
edge_in _ = None

abbrev pub cap_in : List (List ℕ) → Option SaidView
cap_in (k ∷ r ∷ n ∷ []) = do
  kind ← spelled_so cap_word cap_kinds k
  name ← name_in r
  most ← number_from 1 MAX_COUNT n
  Some (cap kind name most)
cap_in _ = None

abbrev pub opening_by : Option (NamedCond × List (List ℕ)) → Option SaidView
opening_by None = None
opening_by (Some c) = at_end (opening c.0.fluent) c.1

-- `linked` begins a line of version 2 alone
abbrev pub linked_by : Bool → Option SaidView → Result SaidView TextKind
linked_by false said = Err faults.Word
linked_by true said = formed said

abbrev pub entry_in : Form → List (List ℕ) → Option SaidView
entry_in f [] = None
entry_in f (p ∷ ws) = do
  name ← name_in p
  h ← head_at MAX_POLICY_PRIO ws
  at_end (entry f name h.0) h.1

-- items with `and` between them, up to `then`; with so many words left there are no more items
abbrev pub items_at : ℕ → Read (List Item)
items_at zero ws = None
items_at (suc k) ws = do
  i ← item_at ws
  elim i.1 [
    | [] ↦ None
    | w ∷ more ↦
        if bytes_eq w (codes "and") then
        (do rest ← items_at k more; Some (i.0 ∷ rest.0, rest.1))
        else if bytes_eq w (codes "then") then Some (i.0 ∷ [], more)
        else None
  ]

abbrev pub trigger_in : List (List ℕ) → Option SaidView
trigger_in ws = do
  items ← items_at (length ws) ws
  h ← head_at MAX_POLICY_PRIO items.1
  d ← delay_in h.1
  Some (trigger items.0 h.0 d)

abbrev pub with_body : SaidView → Result SaidView TextKind
with_body (trigger items h d) = if is_body items then Ok (trigger items h d) else Err faults.Body
with_body s = Ok s

abbrev pub trigger_by : Bool → Option SaidView → Result SaidView TextKind
trigger_by edges None = Err faults.Form
trigger_by edges (Some s) = if is_allowed edges s then with_body s else Err faults.Form

abbrev pub version_in : List (List ℕ) → Option ℕ
version_in (w ∷ []) =
    if bytes_eq w (codes "1") then Some 1 else if bytes_eq w (codes "2") then Some 2 else None
version_in _ = None

-- a version stands before all lines that are not silent
abbrev pub version_by : Bool → Option ℕ → Result SaidView TextKind
version_by true (Some n) = Ok (version n)
version_by _ _ = Err faults.Version

-- what follows each first word; the whole line is at hand for the rest after some words
abbrev pub verbs : TextVersion → List ℕ
    → List (List ℕ × (List (List ℕ) → Option (Result SaidView TextKind)))
verbs v line =
    (codes "policy", λ ws. Some (version_by (is_open v) (version_in ws)))
    ∷ (codes "role", λ ws. Some (formed (one_name (λ n. role n) ws)))
    ∷ (codes "user", λ ws. Some (formed (one_name (λ n. user n) ws)))
    ∷ (codes "perm", λ ws. Some (formed (one_name (λ n. perm n) ws)))
    ∷ (codes "period", λ ws. Some (period_by line (bounds_in ws)))
    ∷ (codes "limit", λ ws. Some (formed_in (has_edges v) (limit_in ws)))
    ∷ (codes "edge", λ ws. Some (formed (edge_in ws)))
    ∷ (codes "cap", λ ws. Some (formed (cap_in ws)))
    ∷ (codes "admin", λ ws. Some (formed (one_name (λ n. admin n) ws)))
    ∷ (codes "enabled", λ ws. Some (formed (opening_by (cond_at (codes "enabled" ∷ ws)))))
    ∷ (codes "assigned", λ ws. Some (formed (opening_by (cond_at (codes "assigned" ∷ ws)))))
    ∷ (codes "granted", λ ws. Some (formed (opening_by (cond_at (codes "granted" ∷ ws)))))
    ∷ (codes "armed", λ ws. Some (formed (opening_by (cond_at (codes "armed" ∷ ws)))))
    ∷ (
      codes "linked",
      λ ws. Some (linked_by (has_edges v)
          (opening_by (cond_at (codes "linked" ∷ ws)))),
    )
    ∷ (codes "each", λ ws. Some (formed_in (has_edges v) (entry_in Each ws)))
    ∷ (codes "start", λ ws. Some (formed_in (has_edges v) (entry_in Start ws)))
    ∷ (codes "span", λ ws. Some (formed_in (has_edges v) (entry_in Span ws)))
    ∷ (codes "when", λ ws. Some (trigger_by (has_edges v) (trigger_in ws)))
    ∷ []

abbrev pub said_by : Option (Result SaidView TextKind) → Result SaidView TextKind
said_by None = Err faults.Word
said_by (Some r) = r

abbrev pub said_of : TextVersion → List ℕ → List (List ℕ) → Result SaidView TextKind
said_of v line [] = Err faults.Word
said_of v line (w ∷ ws) = said_by (do reads ← by_verb (verbs v line) w; reads ws)

abbrev pub some_said : Result SaidView TextKind → Result (Option SaidView) TextKind
some_said (Ok s) = Ok (Some s)
some_said (Err t) = Err t

-- what a line says, nothing where it is silent, in a text whose lines before it tell this version
abbrev pub read_said : TextVersion → List ℕ → Result (Option SaidView) TextKind
read_said v line =
    if is_longer LONGEST_POLICY_LINE line then Err faults.Long
    else if are_silent (words_of line) then Ok None
    else some_said (said_of v line (words_of line))

-- the lines that say something, with their numbers; or the first fault, with the number of its line

pub record Numbered (A : Type 0) : Type 0 where
  pub line : ℕ
  pub it : A

abbrev pub and_then : {A : Type 0} → Numbered A → Result (List (Numbered A)) (Numbered TextKind)
    → Result (List (Numbered A)) (Numbered TextKind)
and_then s (Ok more) = Ok (s ∷ more)
and_then s (Err t) = Err t

abbrev pub read_lines : TextVersion → ℕ → List (List ℕ)
    → Result (List (Numbered SaidView)) (Numbered TextKind)
read_lines v n [] = Ok []
read_lines v n (l ∷ ls) =
    elim (read_said v l) [
      | Err t ↦ Err (record { line = n; it = t })
      | Ok said ↦
          elim said [
            | None ↦ read_lines v (n + 1) ls
            | Some s ↦ and_then (record { line = n; it = s })
                (read_lines (version_after v s) (n + 1) ls)
          ]
    ]
