-- The words of events, conditions and signals, by names.
use Rattle.std.specs.Prelude.{ℕ, Bool, true, false, ◌&&◌, List, [], ◌∷◌, ◌++◌, codes, decimal, bytes_eq, nat_eq, Option, Some, None, find, if◌then◌else◌}
use Rattle.std.specs.List.{before_first, after_first}
use Rattle.policy_words.specs.declared.parts.NamedFluent.{NamedFluent}
use Rattle.policy_words.specs.declared.parts.NamedFluent.TheVariants.{Enabled, Assigned, Granted, Limit, Edge}
use Rattle.policy_words.specs.declared.parts.Sort.{Sort}
use Rattle.policy_words.specs.declared.parts.Sort.TheVariants.{Enabling, Assigning, Granting, Arming, Linking}
use Rattle.policy_words.specs.declared.parts.NamedEvent.{NamedEvent}
use Rattle.policy_words.specs.declared.parts.NamedCond.{NamedCond}
use Rattle.policy_words.specs.declared.parts.NamedSignal.{NamedSignal}
use Rattle.policy_words.specs.declared.parts.NamedHead.{NamedHead}
use Rattle.policy_words.specs.declared.parts.Item.{Item}
use Rattle.policy_words.specs.declared.parts.Item.TheVariants.{Event, Signal, Cond, Settled}
use Rattle.gt_base.specs.Names.{is_name, number_from}
use Rattle.gt_base.specs.declared.limits.TheConstants.{LAST_MINUTE}

infixl 10 ◌>>=◌
abbrev pub ◌>>=◌ : {A B : Type 0} → Option A → (A → Option B) → Option B
None >>= f = None
(Some a) >>= f = f a

-- what the front of some words says, with the words after it
abbrev pub Read : Type 0 → Type 0
Read A = List (List ℕ) → Option (A × List (List ℕ))

abbrev pub event_verb : Bool → Sort → List ℕ
event_verb true Enabling = codes "enable"
event_verb false Enabling = codes "disable"
event_verb true Assigning = codes "assign"
event_verb false Assigning = codes "deassign"
event_verb true Granting = codes "grant"
event_verb false Granting = codes "revoke"
event_verb true Arming = codes "arm"
event_verb false Arming = codes "disarm"
event_verb true Linking = codes "link"
event_verb false Linking = codes "unlink"

abbrev pub cond_verb : Bool → Sort → List ℕ
cond_verb true Enabling = codes "enabled"
cond_verb false Enabling = codes "disabled"
cond_verb true Assigning = codes "assigned"
cond_verb false Assigning = codes "deassigned"
cond_verb true Granting = codes "granted"
cond_verb false Granting = codes "revoked"
cond_verb true Arming = codes "armed"
cond_verb false Arming = codes "disarmed"
cond_verb true Linking = codes "linked"
cond_verb false Linking = codes "unlinked"

abbrev pub signal_verb : Bool → List ℕ
signal_verb true = codes "activate"
signal_verb false = codes "deactivate"

-- writing

abbrev pub sort_of : NamedFluent → Sort
sort_of (Enabled r) = Enabling
sort_of (Assigned u r) = Assigning
sort_of (Granted q r) = Granting
sort_of (Limit l) = Arming
sort_of (Edge s j) = Linking

abbrev pub fluent_names : NamedFluent → List (List ℕ)
fluent_names (Enabled r) = r ∷ []
fluent_names (Assigned u r) = u ∷ r ∷ []
fluent_names (Granted q r) = q ∷ r ∷ []
fluent_names (Limit l) = l ∷ []
fluent_names (Edge s j) = s ∷ j ∷ []

abbrev pub event_words : NamedEvent → List (List ℕ)
event_words e = event_verb e.on (sort_of e.fluent) ∷ fluent_names e.fluent

abbrev pub cond_words : NamedCond → List (List ℕ)
cond_words c = cond_verb c.on (sort_of c.fluent) ∷ fluent_names c.fluent

abbrev pub signal_words : NamedSignal → List (List ℕ)
signal_words s = signal_verb s.start ∷ s.user ∷ s.role ∷ []

-- `PRIO:VERB` is one word
abbrev pub head_words : NamedHead → List (List ℕ)
head_words h = (decimal h.prio ++ 58 ∷ event_verb h.event.on (sort_of h.event.fluent))
    ∷ fluent_names h.event.fluent

abbrev pub item_words : Item → List (List ℕ)
item_words (Event e) = event_words e
item_words (Signal s) = signal_words s
item_words (Cond c) = cond_words c
item_words (Settled c) = codes "settled" ∷ cond_words c

-- reading

abbrev pub all_verbs : List (Bool × Sort)
all_verbs =
    (true, Enabling) ∷ (false, Enabling) ∷ (true, Assigning) ∷ (false, Assigning) ∷ (true, Granting)
    ∷ (false, Granting) ∷ (true, Arming) ∷ (false, Arming) ∷ (true, Linking)
    ∷ (false, Linking) ∷ []

abbrev pub verb_in : (Bool → Sort → List ℕ) → List ℕ → Option (Bool × Sort)
verb_in verb word = find (λ v. bytes_eq (verb v.0 v.1) word) all_verbs

abbrev pub one_name : (List ℕ → NamedFluent) → Read NamedFluent
one_name build [] = None
one_name build (a ∷ ws) = if is_name a then Some (build a, ws) else None

abbrev pub two_names : (List ℕ → List ℕ → NamedFluent) → Read NamedFluent
two_names build [] = None
two_names build (a ∷ []) = None
two_names build (a ∷ b ∷ ws) = if is_name a && is_name b then Some (build a b, ws) else None

abbrev pub fluent_at : Sort → Read NamedFluent
fluent_at Enabling ws = one_name (λ r. Enabled r) ws
fluent_at Assigning ws = two_names (λ u r. Assigned u r) ws
fluent_at Granting ws = two_names (λ q r. Granted q r) ws
fluent_at Arming ws = one_name (λ l. Limit l) ws
fluent_at Linking ws = two_names (λ s j. Edge s j) ws

-- a verb of these with its names, whether it is on, and its fluent
abbrev pub verb_at : (Bool → Sort → List ℕ) → Read (Bool × NamedFluent)
verb_at verb [] = None
verb_at verb (w ∷ ws) = do
  v ← verb_in verb w
  f ← fluent_at v.1 ws
  Some ((v.0, f.0), f.1)

abbrev pub event_at : Read NamedEvent
event_at ws = do
  v ← verb_at event_verb ws
  Some (record { on = v.0.0; fluent = v.0.1 }, v.1)

abbrev pub cond_at : Read NamedCond
cond_at ws = do
  v ← verb_at cond_verb ws
  Some (record { on = v.0.0; fluent = v.0.1 }, v.1)

abbrev pub signal_of : Bool → Read NamedSignal
signal_of start [] = None
signal_of start (a ∷ []) = None
signal_of start (a ∷ b ∷ ws) =
    if is_name a && is_name b then Some (record { start = start; user = a; role = b }, ws) else None

abbrev pub signal_at : Read NamedSignal
signal_at [] = None
signal_at (w ∷ ws) =
    if bytes_eq w (signal_verb true) then signal_of true ws
    else if bytes_eq w (signal_verb false) then signal_of false ws
    else None

abbrev pub is_colon : ℕ → Bool
is_colon b = nat_eq b 58

-- a prioritised event with a priority of at most so much
abbrev pub head_at : ℕ → Read NamedHead
head_at most [] = None
head_at most (w ∷ ws) = do
  prio ← number_from 0 most (before_first is_colon w)
  event ← event_at (after_first is_colon w ∷ ws)
  Some (record { prio = prio; event = event.0 }, event.1)

abbrev pub or_else : {A : Type 0} → Option A → Option A → Option A
or_else (Some a) b = Some a
or_else None b = b

-- `settled COND`
abbrev pub settled_at : Read NamedCond
settled_at [] = None
settled_at (w ∷ ws) = if bytes_eq w (codes "settled") then cond_at ws else None

-- an event, a signal, a condition or a settled condition; no first word is of two of them
abbrev pub item_at : Read Item
item_at ws =
    or_else (do e ← event_at ws; Some (Event e.0, e.1))
    (or_else (do s ← signal_at ws; Some (Signal s.0, s.1))
    (or_else (do c ← cond_at ws; Some (Cond c.0, c.1))
    (do c ← settled_at ws; Some (Settled c.0, c.1))))

-- what is said where no words are left
abbrev pub at_end : {A : Type 0} → A → List (List ℕ) → Option A
at_end a [] = Some a
at_end a (w ∷ ws) = None

-- what the first of these verbs that the line has says of the words after it
abbrev pub by_verb : {A : Type 0} → List (List ℕ × (List (List ℕ) → Option A)) → List ℕ
    → Option (List (List ℕ) → Option A)
by_verb [] word = None
by_verb (v ∷ vs) word = if bytes_eq v.0 word then Some v.1 else by_verb vs word

-- `after DELAY`, or nothing for 0
abbrev pub delay_words : ℕ → List (List ℕ)
delay_words d = if nat_eq d 0 then [] else codes "after" ∷ decimal d ∷ []

abbrev pub delay_in : List (List ℕ) → Option ℕ
delay_in [] = Some 0
delay_in (w ∷ []) = None
delay_in (w ∷ n ∷ []) = if bytes_eq w (codes "after") then number_from 0 LAST_MINUTE n else None
delay_in (w ∷ n ∷ more ∷ ws) = None
