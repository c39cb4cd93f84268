-- What the bytes of a policy stand for, and the texts of their faults.
use Rattle.std.specs.Prelude.{ℕ, ◌+◌, Bool, true, false, List, [], ◌∷◌, ◌++◌, map, flat_map, codes, decimal, Some, None, Result, Ok, Err}
use Rattle.gt_base.specs.declared.events.Event.{Event}
use Rattle.gt_base.specs.declared.policies.HierEdge.{HierEdge}
use Rattle.gtrbac_model.specs.Graph.{item_at}
use Rattle.gtrbac_model.specs.Safety.{Dependency, dependencies}
use Rattle.gt_text.specs.Lines.{lines_of}
use Rattle.gt_text.specs.Words.{spaced, joined_by}
use Rattle.periodic_expr.specs.declared.faults.ExprKind.{ExprKind}
use Rattle.periodic_expr.specs.declared.faults.ExprKind.TheVariants as expr_kinds
use Rattle.policy_words.specs.declared.faults.TextKind.{TextKind}
use Rattle.policy_words.specs.declared.faults.TextKind.TheVariants as faults
use Rattle.policy_words.specs.declared.versions.TextVersion.TheVariants.{Open}
use Rattle.policy_words.specs.declared.sayings.Kind.{Kind}
use Rattle.policy_words.specs.declared.sayings.Kind.TheVariants as kinds
use Rattle.policy_words.specs.Wording.{event_words}
use Rattle.policy_words.specs.Sayings.{SaidView}
use Rattle.policy_words.specs.Reading.{Numbered, read_lines}
use Rattle.policy_words.specs.Naming.{Names, NamedPolicy, role_name, event_named}
use Rattle.policy_words.specs.Making.{names_of}
use Rattle.policy_words.specs.LinesTogether.{LinesFault, unknown, twice, many, cycle, said_in, build}

-- a fault of some line, or of the lines together; a cycle is told by names
pub data PolicyFault : Type 0 where
  of_line : Numbered TextKind → PolicyFault
  of_book : Names → LinesFault → PolicyFault

abbrev pub built : Names → Result NamedPolicy LinesFault → Result NamedPolicy PolicyFault
built ns (Ok np) = Ok np
built ns (Err t) = Err (of_book ns t)

abbrev pub by_lines : Result (List (Numbered SaidView)) (Numbered TextKind)
    → Result NamedPolicy PolicyFault
by_lines (Err t) = Err (of_line t)
by_lines (Ok ss) = built (names_of (said_in ss)) (build ss)

-- a policy, or the first text fault, or else the first book fault
abbrev pub policy_read : List ℕ → Result NamedPolicy PolicyFault
policy_read text = by_lines (read_lines Open 1 (lines_of text))

-- the texts of the faults

-- no reading tells want of memory
abbrev pub expr_kind_word : ExprKind → List ℕ
expr_kind_word expr_kinds.Syntax = codes "syntax"
expr_kind_word expr_kinds.FirstNotAll = codes "first-not-all"
expr_kind_word expr_kinds.NotFiner = codes "not-finer"
expr_kind_word expr_kinds.ZeroIndex = codes "zero-index"
expr_kind_word expr_kinds.EmptySet = codes "empty-set"
expr_kind_word expr_kinds.BadLength = codes "bad-length"
expr_kind_word expr_kinds.Memory = []

abbrev pub text_kind_text : TextKind → List ℕ
text_kind_text faults.Long = codes "long"
text_kind_text faults.Version = codes "version"
text_kind_text faults.Word = codes "word"
text_kind_text faults.Form = codes "form"
text_kind_text faults.Body = codes "body"
text_kind_text faults.Bounds = codes "bounds"
text_kind_text (faults.Expr f) = codes "expr " ++ expr_kind_word f.kind ++ codes " at "
    ++ decimal f.at
text_kind_text faults.Memory = []

abbrev pub kind_word : Kind → List ℕ
kind_word kinds.Roles = codes "roles"
kind_word kinds.Users = codes "users"
kind_word kinds.Perms = codes "perms"
kind_word kinds.Periods = codes "periods"
kind_word kinds.Limits = codes "limits"
kind_word kinds.Edges = codes "edges"
kind_word kinds.Entries = codes "entries"
kind_word kinds.Triggers = codes "triggers"
kind_word kinds.Assigned = codes "assigned"
kind_word kinds.Granted = codes "granted"

abbrev pub at_line : ℕ → List ℕ → List ℕ
at_line n what = codes "policy " ++ decimal n ++ codes ": " ++ what ++ codes "\n"

abbrev pub again : List HierEdge → List HierEdge
again [] = []
again (e ∷ es) = e ∷ []

-- the seniors of the edges, and the first again
abbrev pub cycle_text : Names → List HierEdge → List ℕ
cycle_text ns es = codes "policy: cycle "
    ++ joined_by (codes ">") (map (λ e. role_name ns e.senior) (es ++ again es)) ++ codes "\n"

abbrev pub book_text : Names → LinesFault → List ℕ
book_text ns (unknown n) = at_line n (codes "unknown")
book_text ns (twice n) = at_line n (codes "twice")
book_text ns (many n k) = at_line n (codes "many " ++ kind_word k)
book_text ns (cycle es) = cycle_text ns es

abbrev pub fault_text : PolicyFault → List ℕ
fault_text (of_line t) = at_line t.line (text_kind_text t.it)
fault_text (of_book ns t) = book_text ns t

-- the text of a policy that is not safe: each edge of its cycle by trigger and place, from 1

abbrev pub event_text : Names → Event → List ℕ
event_text ns e = spaced (event_words (event_named ns e))

abbrev pub conflict_word : Bool → List ℕ
conflict_word true = codes "conflict "
conflict_word false = codes "plain "

abbrev pub edge_text : Names → Dependency → List ℕ
edge_text ns d =
    conflict_word d.conflict ++ decimal (d.trigger + 1) ++ codes "." ++ decimal (d.place + 1)
    ++ codes " " ++ event_text ns d.source ++ codes " > " ++ event_text ns d.target
    ++ codes "\n"

abbrev pub numbered_edge : NamedPolicy → ℕ → List ℕ
numbered_edge np n = elim (item_at (dependencies np.policy.triggers) n)
    [ Some d ↦ edge_text np.names d | None ↦ [] ]

abbrev pub unsafe_text : NamedPolicy → List ℕ → List ℕ
unsafe_text np edges = codes "unsafe\n" ++ flat_map (numbered_edge np) edges
