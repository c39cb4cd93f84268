-- What a line of a policy says, the words that spell it, and which sayings are in range.
use Rattle.std.specs.Prelude.{ℕ, Bool, true, false, ◌&&◌, ◌||◌, List, [], ◌∷◌, ◌++◌, length, codes, decimal, nat_eq, nat_le, Option, Some, None}
use Rattle.std.specs.List.{list_all, list_any}
use Rattle.gt_base.specs.Names.{is_name}
use Rattle.gt_base.specs.declared.policies.Form.{Form}
use Rattle.gt_base.specs.declared.policies.Form.TheVariants.{Each, Start, Span}
use Rattle.gt_base.specs.declared.limits.TheConstants.{LAST_MINUTE, MAX_COUNT, MAX_ITEMS, MAX_POLICY_PRIO}
use Rattle.gtrbac_model.specs.Period.{Expr}
use Rattle.gtrbac_model.specs.History.{is_some_item}
use Rattle.gtrbac_model.specs.Valid.{is_expr}
use Rattle.civil_time.specs.Text.{civil_text}
use Rattle.periodic_expr.specs.Printed.{expr_text}
use Rattle.policy_words.specs.declared.parts.NamedFluent.{NamedFluent}
use Rattle.policy_words.specs.declared.parts.NamedFluent.TheVariants as fluents
use Rattle.policy_words.specs.declared.parts.NamedCond.{NamedCond}
use Rattle.policy_words.specs.declared.parts.NamedHead.{NamedHead}
use Rattle.policy_words.specs.declared.parts.Item.{Item}
use Rattle.policy_words.specs.declared.parts.Item.TheVariants.{Event, Signal, Cond, Settled}
use Rattle.policy_words.specs.declared.sayings.EdgeKind.{EdgeKind}
use Rattle.policy_words.specs.declared.sayings.EdgeKind.TheVariants.{I, A, Ia}
use Rattle.policy_words.specs.declared.sayings.CapKind.{CapKind}
use Rattle.policy_words.specs.declared.sayings.CapKind.TheVariants as caps
use Rattle.policy_words.specs.Wording.{cond_words, head_words, item_words, fluent_names, sort_of, cond_verb, delay_words}

-- what a line that is not silent says
pub data SaidView : Type 0 where
  version : ℕ → SaidView
  role : List ℕ → SaidView
  user : List ℕ → SaidView
  perm : List ℕ → SaidView
  period : List ℕ → ℕ → ℕ → Expr → SaidView
  limit : List ℕ → ℕ → NamedCond → ℕ → Option (List ℕ) → SaidView
  edge : EdgeKind → Bool → List ℕ → List ℕ → SaidView
  cap : CapKind → List ℕ → ℕ → SaidView
  admin : List ℕ → SaidView
  opening : NamedFluent → SaidView
  entry : Form → List ℕ → NamedHead → SaidView
  trigger : List Item → NamedHead → ℕ → SaidView

-- the words of a line

abbrev pub kind_word : EdgeKind → List ℕ
kind_word I = codes "i"
kind_word A = codes "a"
kind_word Ia = codes "ia"

abbrev pub strength_word : Bool → List ℕ
strength_word true = codes "strong"
strength_word false = codes "weak"

abbrev pub cap_word : CapKind → List ℕ
cap_word caps.Total = codes "total"
cap_word caps.User = codes "user"
cap_word caps.Length = codes "length"
cap_word caps.Day = codes "day"

abbrev pub form_word : Form → List ℕ
form_word Each = codes "each"
form_word Start = codes "start"
form_word Span = codes "span"

abbrev pub during_words : Option (List ℕ) → List (List ℕ)
during_words None = []
during_words (Some p) = codes "during" ∷ p ∷ []

abbrev pub and_items : List Item → List (List ℕ)
and_items [] = []
and_items (i ∷ []) = item_words i
and_items (i ∷ j ∷ is) = item_words i ++ codes "and" ∷ and_items (j ∷ is)

-- an expression stands as one word of its own, though it has spaces
abbrev pub said_words : SaidView → List (List ℕ)
said_words (version n) = codes "policy" ∷ decimal n ∷ []
said_words (role n) = codes "role" ∷ n ∷ []
said_words (user n) = codes "user" ∷ n ∷ []
said_words (perm n) = codes "perm" ∷ n ∷ []
said_words (period n first last e) = codes "period" ∷ n ∷ civil_text first ∷ civil_text last
    ∷ expr_text e ∷ []
said_words (limit n prio c most during) = codes "limit" ∷ n ∷ decimal prio ∷ cond_words c
    ++ codes "max" ∷ decimal most ∷ during_words during
said_words (edge kind strong s j) = codes "edge" ∷ kind_word kind ∷ strength_word strong ∷ s ∷ j
    ∷ []
said_words (cap kind r n) = codes "cap" ∷ cap_word kind ∷ r ∷ decimal n ∷ []
said_words (admin u) = codes "admin" ∷ u ∷ []
said_words (opening f) = cond_verb true (sort_of f) ∷ fluent_names f
said_words (entry f p h) = form_word f ∷ p ∷ head_words h
said_words (trigger items h d) = codes "when" ∷ and_items items ++ codes "then" ∷ head_words h
    ++ delay_words d

-- names that are names, and numbers in range

abbrev pub are_names : List (List ℕ) → Bool
are_names ns = list_all is_name ns

abbrev pub is_head : NamedHead → Bool
is_head h = nat_le h.prio MAX_POLICY_PRIO && are_names (fluent_names h.event.fluent)

abbrev pub is_item : Item → Bool
is_item (Event e) = are_names (fluent_names e.fluent)
is_item (Signal s) = is_name s.user && is_name s.role
is_item (Cond c) = are_names (fluent_names c.fluent)
is_item (Settled c) = are_names (fluent_names c.fluent)

abbrev pub is_period_name : Option (List ℕ) → Bool
is_period_name None = true
is_period_name (Some p) = is_name p

abbrev pub is_count : ℕ → Bool
is_count n = nat_le 1 n && nat_le n MAX_COUNT

abbrev pub is_cause : Item → Bool
is_cause (Event e) = true
is_cause (Signal s) = true
is_cause (Cond c) = false
is_cause (Settled c) = false

-- at most 16 items, of which one is an event or a signal
abbrev pub is_body : List Item → Bool
is_body items = nat_le (length items) MAX_ITEMS && list_any is_cause items

-- the names and numbers of a saying; bounds and bodies are not asked
abbrev pub is_formed : SaidView → Bool
is_formed (version n) = nat_eq n 1 || nat_eq n 2
is_formed (role n) = is_name n
is_formed (user n) = is_name n
is_formed (perm n) = is_name n
is_formed (period n first last e) = is_name n && nat_le first LAST_MINUTE && nat_le last LAST_MINUTE
    && is_expr e
is_formed (limit n prio c most during) = is_name n && nat_le prio MAX_POLICY_PRIO
    && are_names (fluent_names c.fluent) && is_count most && is_period_name during
is_formed (edge kind strong s j) = is_name s && is_name j
is_formed (cap kind r n) = is_name r && is_count n
is_formed (admin u) = is_name u
is_formed (opening f) = are_names (fluent_names f)
is_formed (entry f p h) = is_name p && is_head h
is_formed (trigger items h d) = is_some_item items && list_all is_item items && is_head h
    && nat_le d LAST_MINUTE

-- a period's first instant is not after its last
abbrev pub is_bounded : SaidView → Bool
is_bounded (period n first last e) = nat_le first last
is_bounded _ = true

-- a trigger keeps the rule on bodies
abbrev pub is_bodied : SaidView → Bool
is_bodied (trigger items h d) = is_body items
is_bodied _ = true

-- what a line may say
abbrev pub is_saying : SaidView → Bool
is_saying s = is_formed s && is_bounded s && is_bodied s

-- what names an edge of the hierarchy: version 1 has no words for it

abbrev pub is_edge : NamedFluent → Bool
is_edge (fluents.Edge s j) = true
is_edge _ = false

abbrev pub item_names_edge : Item → Bool
item_names_edge (Event e) = is_edge e.fluent
item_names_edge (Signal s) = false
item_names_edge (Cond c) = is_edge c.fluent
item_names_edge (Settled c) = is_edge c.fluent

-- an event, a condition or an opening line of an edge
abbrev pub names_edge : SaidView → Bool
names_edge (limit n prio c most during) = is_edge c.fluent
names_edge (opening f) = is_edge f
names_edge (entry f p h) = is_edge h.event.fluent
names_edge (trigger items h d) = list_any item_names_edge items || is_edge h.event.fluent
names_edge _ = false
