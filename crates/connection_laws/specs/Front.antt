-- The same from the first line on: what a connection's lines get, each with how the lines after it
-- go on.
use Rattle.std.specs.Prelude.{◌≡◌, ◌⊎◌, ℕ, zero, suc, ◌+◌, ◌≤◌, false, List, [], ◌∷◌, ◌++◌, length, Result, Ok, Err, if◌then◌else◌}
use Rattle.gt_base.specs.declared.requests.Who.{Who}
use Rattle.gt_base.specs.declared.requests.Actor.{Actor}
use Rattle.gt_base.specs.declared.requests.Actor.TheVariants.{Nobody}
use Rattle.gt_base.specs.declared.requests.Request.{Request}
use Rattle.gt_base.specs.declared.requests.Entry.{Entry}
use Rattle.gt_base.specs.Machines.{ticked, asked}
use Rattle.gt_base.specs.declared.limits.TheConstants.{MAX_STEPS}
use Rattle.gtrbac_model.specs.History.{now_of}
use Rattle.policy_words.specs.Naming.{NamedPolicy}
use Rattle.request_text.specs.declared.lines.Line.{Line}
use Rattle.request_text.specs.declared.lines.Line.TheVariants.{Silent, Be, Ask}
use Rattle.request_text.specs.declared.lines.LineFault.{LineFault}
use Rattle.request_text.specs.Phrases.{read_line}
use Rattle.connection_laws.specs.Lines.{Answer, silence, agreed, bad, accepted, no_memory, no_steps, worn, Acted, reply_lines, readings_of, entries_of}
use Rattle.connection_laws.specs.Connection.{is_who, AreActed, Conn}
use mathlib.Core.List.{IsPrefix}
use Rattle.connection_laws.specs.declared.ends.LinkEnd.{LinkEnd}

-- the entries before that of number n among those of a connection
abbrev pub before_own : Who → List Entry → ℕ → List Entry
before_own who [] n = []
before_own who (e ∷ es) n =
    if is_who who e then elim n [ zero ↦ [] | suc k ↦ e ∷ before_own who es k ]
    else e ∷ before_own who es n

abbrev pub answers_of : List Acted → List Answer
answers_of [] = []
answers_of (a ∷ before) = answers_of before ++ a.answer ∷ []

-- any number of ticks of this bound, and then so; n counts the entries of the connection before
abbrev pub AfterTicks : Who → ℕ → (ℕ → List Entry → Type 0) → ℕ → List Entry → Type 0
AfterTicks who bound next n [] = next n []
AfterTicks who bound next n (e ∷ es) =
    next n (e ∷ es) ⊎ ((to : ℕ) × (e ≡ ticked who bound to) × AfterTicks who bound next (n + 1) es)

module _ (np : NamedPolicy) (birth : ℕ) (who : Who) (h : List Entry) where
  abbrev pub AnsweredAndThen : ℕ → Actor → Request → Answer → (ℕ → List Entry → Type 0) → ℕ
      → List Entry → Type 0
  AnsweredAndThen reading actor request (accepted reply) next n [] = ⊥
  AnsweredAndThen reading actor request (accepted reply) next n (e ∷ es) =
      (e ≡ asked who actor request reply) × (reading ≤ now_of birth (before_own who h n))
      × next (n + 1) es
  AnsweredAndThen reading actor request no_memory next n es = next n es
  AnsweredAndThen reading actor request no_steps next n es = (MAX_STEPS ≤ length h) × next n es
  AnsweredAndThen reading actor request worn next n es = next n es
  AnsweredAndThen reading actor request _ next n es = ⊥

  abbrev pub Requested : Request → Answer → (List ℕ → ℕ → List Entry → Type 0) → Actor → List ℕ → ℕ
      → List Entry → Type 0
  Requested request answer next actor [] n own = ⊥
  Requested request answer next actor (reading ∷ readings) n own =
      AfterTicks who reading (AnsweredAndThen reading actor request answer (next readings)) n own

  abbrev pub LineGets : Result Line LineFault → Answer → (Actor → List ℕ → ℕ → List Entry → Type 0)
      → Actor → List ℕ → ℕ → List Entry → Type 0
  LineGets (Ok Silent) silence next actor readings n own = next actor readings n own
  LineGets (Ok (Be a)) agreed next actor readings n own = next a readings n own
  LineGets (Ok (Ask r)) answer next actor readings n own =
      Requested r answer (next actor) actor readings n own
  LineGets (Err f) (bad g) next actor readings n own = (g ≡ f) × next actor readings n own
  LineGets _ _ next actor readings n own = ⊥

  -- the lines get these answers, with these readings, as these entries
  abbrev pub Get : List (List ℕ) → List Answer → Actor → List ℕ → ℕ → List Entry → Type 0
  Get [] [] actor readings n own = (readings ≡ []) × (own ≡ [])
  Get [] (a ∷ as') actor readings n own = ⊥
  Get (l ∷ ls) [] actor readings n own = ⊥
  Get (l ∷ ls) (a ∷ as') actor readings n own =
      LineGets (read_line np Nobody false l) a (Get ls as') actor readings n own

-- acted lines, one after the other, get what they get from the first line on
abbrev pub IsToldFromTheFront : Type 0
IsToldFromTheFront =
    (np : NamedPolicy) (birth : ℕ) (who : Who) (h : List Entry) (older : ℕ) (acted : List Acted)
    → AreActed np birth who h older acted
    → Get np birth who h (reply_lines acted) (answers_of acted) Nobody (readings_of acted) older
    (entries_of acted)

-- a connection over a front is one over each longer history
abbrev pub IsKeptByLonger : Type 0
IsKeptByLonger =
    (np : NamedPolicy) (birth : ℕ) (who : Who) (h h' : List Entry) (older : ℕ)
    (taken readings : List ℕ) (own : List Entry) (given : List ℕ) (acted : List Acted)
    (end : LinkEnd) → IsPrefix h h'
    → Conn np birth who h older taken readings own given acted end
    → Conn np birth who h' older taken readings own given acted end
