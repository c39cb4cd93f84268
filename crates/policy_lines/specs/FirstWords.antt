-- The first words of lines, and what is said behind each.
use Rattle.std.specs.Prelude.{ℕ, List, [], ◌∷◌, codes, Result}
use Rattle.gt_base.specs.declared.policies.Form.TheVariants as forms
use Rattle.policy_words.specs.declared.faults.TextKind.{TextKind}
use Rattle.policy_words.specs.declared.versions.TextVersion.{TextVersion}
use Rattle.policy_words.specs.Wording.{cond_at}
use Rattle.policy_words.specs.Sayings.{SaidView, role, user, perm, admin}
use Rattle.policy_words.specs.Versions.{is_open, has_edges}
use Rattle.policy_words.specs.Reading.{formed, formed_in, one_name, bounds_in, period_by, limit_in, edge_in, cap_in, opening_by, linked_by, entry_in, trigger_in, trigger_by, version_in, version_by}
use Rattle.policy_lines.specs.declared.first_words.LineVerb.{LineVerb}
use Rattle.policy_lines.specs.declared.first_words.LineVerb.TheVariants.{Policy, Role, User, Perm, Period, Limit, Edge, Cap, Admin, Enabled, Assigned, Granted, Armed, Linked, Each, Start, Span, When}

abbrev pub verb_word : LineVerb → List ℕ
verb_word Policy = codes "policy"
verb_word Role = codes "role"
verb_word User = codes "user"
verb_word Perm = codes "perm"
verb_word Period = codes "period"
verb_word Limit = codes "limit"
verb_word Edge = codes "edge"
verb_word Cap = codes "cap"
verb_word Admin = codes "admin"
verb_word Enabled = codes "enabled"
verb_word Assigned = codes "assigned"
verb_word Granted = codes "granted"
verb_word Armed = codes "armed"
verb_word Linked = codes "linked"
verb_word Each = codes "each"
verb_word Start = codes "start"
verb_word Span = codes "span"
verb_word When = codes "when"

abbrev pub all_verbs : List LineVerb
all_verbs =
    Policy ∷ Role ∷ User ∷ Perm ∷ Period ∷ Limit ∷ Edge ∷ Cap ∷ Admin ∷ Enabled ∷ Assigned ∷ Granted
    ∷ Armed ∷ Linked ∷ Each ∷ Start ∷ Span ∷ When ∷ []

-- what the words after a first word say
abbrev pub said_behind : TextVersion → List ℕ → LineVerb → List (List ℕ)
    → Result SaidView TextKind
said_behind v line Policy ws = version_by (is_open v) (version_in ws)
said_behind v line Role ws = formed (one_name (λ n. role n) ws)
said_behind v line User ws = formed (one_name (λ n. user n) ws)
said_behind v line Perm ws = formed (one_name (λ n. perm n) ws)
said_behind v line Period ws = period_by line (bounds_in ws)
said_behind v line Limit ws = formed_in (has_edges v) (limit_in ws)
said_behind v line Edge ws = formed (edge_in ws)
said_behind v line Cap ws = formed (cap_in ws)
said_behind v line Admin ws = formed (one_name (λ n. admin n) ws)
said_behind v line Enabled ws = formed (opening_by (cond_at (codes "enabled" ∷ ws)))
said_behind v line Assigned ws = formed (opening_by (cond_at (codes "assigned" ∷ ws)))
said_behind v line Granted ws = formed (opening_by (cond_at (codes "granted" ∷ ws)))
said_behind v line Armed ws = formed (opening_by (cond_at (codes "armed" ∷ ws)))
said_behind v line Linked ws =
    linked_by (has_edges v) (opening_by (cond_at (codes "linked" ∷ ws)))
said_behind v line Each ws = formed_in (has_edges v) (entry_in forms.Each ws)
said_behind v line Start ws = formed_in (has_edges v) (entry_in forms.Start ws)
said_behind v line Span ws = formed_in (has_edges v) (entry_in forms.Span ws)
said_behind v line When ws = trigger_by (has_edges v) (trigger_in ws)
