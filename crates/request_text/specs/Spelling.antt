-- What a line of a script or of a connection says, as a relation: by the words that spell it, and
-- not by reading.
use Rattle.std.specs.Prelude.{◌≡◌, ◌⊎◌, ℕ, zero, ◌≤◌, ◌<◌, Bool, true, false, ◌&&◌, List, [], ◌∷◌, ◌++◌, length, codes, nat_le, Option, Some, None, Result, Ok, Err, IsTrue}
use Rattle.gt_base.specs.Names.{is_name}
use Rattle.gt_base.specs.declared.events.SessionId.{SessionId}
use Rattle.gt_base.specs.declared.requests.Actor.{Actor}
use Rattle.gt_base.specs.declared.limits.TheConstants.{LAST_MINUTE, LONGEST_LINE, MAX_NUMBER, MAX_PRIO}
use Rattle.gt_text.specs.Words.{words_of}
use Rattle.policy_words.specs.Wording.{fluent_names, head_words}
use Rattle.policy_words.specs.Sayings.{are_names}
use Rattle.policy_words.specs.Spelling.{IsLoud, IsSilent}
use Rattle.policy_words.specs.Naming.{NamedPolicy}
use Rattle.request_text.specs.declared.lines.Line.{Line}
use Rattle.request_text.specs.declared.lines.Line.TheVariants as lines
use Rattle.request_text.specs.declared.lines.LineFault.{LineFault}
use Rattle.request_text.specs.declared.lines.LineFault.TheVariants as faults
use Rattle.request_text.specs.declared.phrases.NamedRequest.{NamedRequest}
use Rattle.request_text.specs.declared.phrases.NamedRequest.TheVariants.{Now, Status, Seen, Raise, OpenSession, CloseSession, Activate, Deactivate, Active, Check}
use Rattle.request_text.specs.declared.phrases.Phrase.{Phrase}
use Rattle.request_text.specs.declared.phrases.Phrase.TheVariants.{At, Be, Ask}
use Rattle.request_text.specs.Phrases.{request_words, phrase_words, line_of}

-- the words in which a request may be said: its own, and a delay of 0 written out
abbrev pub SpellsRequest : NamedRequest → List (List ℕ) → Type 0
SpellsRequest (Raise h zero) words =
    (words ≡ request_words (Raise h 0))
    ⊎ (words ≡ codes "request" ∷ head_words h ++ codes "after" ∷ codes "0" ∷ [])
SpellsRequest r words = words ≡ request_words r

abbrev pub Spells : Phrase → List (List ℕ) → Type 0
Spells (Ask r) words = SpellsRequest r words
Spells phrase words = words ≡ phrase_words phrase

-- names that are names, and numbers in range

abbrev pub is_session : SessionId → Bool
is_session s = nat_le s.0 MAX_NUMBER

abbrev pub is_request : NamedRequest → Bool
is_request Now = true
is_request (Status c) = are_names (fluent_names c.fluent)
is_request (Seen e) = are_names (fluent_names e.fluent)
is_request (Raise h d) =
    nat_le h.prio MAX_PRIO && are_names (fluent_names h.event.fluent) && nat_le d LAST_MINUTE
is_request OpenSession = true
is_request (CloseSession s) = is_session s
is_request (Activate s r) = is_session s && is_name r
is_request (Deactivate s r) = is_session s && is_name r
is_request (Active s r) = is_session s && is_name r
is_request (Check s q) = is_session s && is_name q

abbrev pub FitsPhrase : Phrase → Type 0
FitsPhrase (At t) = t ≤ LAST_MINUTE
FitsPhrase (Be None) = Unit {0}
FitsPhrase (Be (Some u)) = IsTrue (is_name u)
FitsPhrase (Ask r) = IsTrue (is_request r)

-- a minute stands in scripts alone
abbrev pub MayStand : Bool → Phrase → Type 0
MayStand true phrase = Unit {0}
MayStand false (At t) = ⊥
MayStand false (Be u) = Unit {0}
MayStand false (Ask r) = Unit {0}

-- the words say the phrase
pub record IsPhrase (script : Bool) (words : List (List ℕ)) (phrase : Phrase) : Type 0 where
  pub fits : FitsPhrase phrase
  pub stands : MayStand script phrase
  pub spells : Spells phrase words

-- the line says a phrase that is this one in numbers of the policy, or none where a name of it is
-- not declared
abbrev pub GivesLine : NamedPolicy → Actor → Bool → List ℕ → Option Line → Type 0
GivesLine np opening script line given =
    (phrase : Phrase) × IsPhrase script (words_of line) phrase
    × (line_of np opening phrase ≡ given)

-- what reading a line answers
abbrev pub IsRead : NamedPolicy → Actor → Bool → List ℕ → Result Line LineFault → Type 0
IsRead np opening script line (Ok lines.Silent) = IsSilent LONGEST_LINE line
IsRead np opening script line (Ok (lines.At t)) =
    IsLoud LONGEST_LINE line × GivesLine np opening script line (Some (lines.At t))
IsRead np opening script line (Ok (lines.Be a)) =
    IsLoud LONGEST_LINE line × GivesLine np opening script line (Some (lines.Be a))
IsRead np opening script line (Ok (lines.Ask r)) =
    IsLoud LONGEST_LINE line × GivesLine np opening script line (Some (lines.Ask r))
IsRead np opening script line (Err faults.Long) = LONGEST_LINE < length line
IsRead np opening script line (Err faults.Syntax) =
    IsLoud LONGEST_LINE line × ((phrase : Phrase) → IsPhrase script (words_of line) phrase → ⊥)
IsRead np opening script line (Err faults.Name) =
    IsLoud LONGEST_LINE line × GivesLine np opening script line None
