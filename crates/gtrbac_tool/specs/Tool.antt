-- What a call of the program promises.
use Rattle.std.specs.Prelude.{◌≡◌, ◌⊎◌, ◌+◌, ℕ, List, None, IsTrue, IsSomeAnd}
use Rattle.std.specs.Io.KnownBytes.{IsAtEnd}
use Rattle.gt_io.specs.Causes.{AtMostOnce, Rose, TakesFront}
use Rattle.gt_io.specs.declared.source.TheConstants.{READ_PIECE}
use Rattle.policy_commands.specs.Ends.{EndView}
use Rattle.policy_commands.specs.Printing.{IsPrinted, WantsMemory}
use Rattle.gtrbac_tool.specs.declared.top.TheConstants.{MAX_SCRIPT}
use Rattle.gtrbac_tool.specs.Script.{IsRunStatus}
use Rattle.gtrbac_tool.specs.Commands.{command_of, plays_script, IsPlainRun}
use Rattle.gtrbac_tool.specs.Writing.{IsCutShort}
use Rattle.gtrbac_tool.specs.Ends.{IsNoCommand, WordsEnd}
use Rattle.gtrbac_tool.specs.Scenes.{Scene}
use Rattle.gtrbac_tool.specs.Causes.{perhaps, surely, AsksForScript, Text, Cause}

module _ {S I : Type 0} where
  -- the shelf failed otherwise than by a missing name, or the input did
  abbrev pub IsUnread : Scene S I → Scene S I → Type 0
  IsUnread a b = Rose a.hard_faults b.hard_faults ⊎ Rose a.input_faults b.input_faults

  abbrev pub IsUnwritten : Scene S I → Scene S I → Type 0
  IsUnwritten a b = Rose a.written_faults b.written_faults

  -- neither failed, but where the end is a read fault
  abbrev pub IsSteady : EndView → Scene S I → Scene S I → Type 0
  IsSteady end a b =
      (end.status ≡ 4) ⊎ ((b.hard_faults ≡ a.hard_faults) × (b.input_faults ≡ a.input_faults))

  -- what the words end with is printed; or there was no memory for it, and nothing was written, but
  -- of a script with nothing asked behind it perhaps a prefix
  abbrev pub Answers : List (List ℕ) → ℕ → Scene S I → Scene S I → Type 0
  Answers words status a b =
      ((IsNoCommand words → ⊥)
      × WantsMemory status a.written b.written a.written_faults b.written_faults)
      ⊎ ((end : EndView)
      × WordsEnd (Rose a.hard_faults b.hard_faults) (Rose a.input_faults b.input_faults) words
      a.texts a.script end
      × IsSteady end a b
      × (IsPrinted status end a.written b.written a.written_faults b.written_faults
      ⊎ (IsSomeAnd (command_of words) IsPlainRun
      × IsCutShort status end a.written b.written a.written_faults b.written_faults)))

  -- the status is this one; but for a shelf or an input that failed, an output that failed, and
  -- want of memory
  abbrev pub IsDue : ℕ → ℕ → Scene S I → Scene S I → Type 0
  IsDue s status a b =
      (status ≡ s) ⊎ ((status ≡ 4) × IsUnread a b) ⊎ ((status ≡ 5) × IsUnwritten a b)
      ⊎ (status ≡ 8)

  -- one text was asked for at most, and behind a call of the shelf or of the input that failed or
  -- told the end there was none
  pub record IsAskedOnce (a b : Scene S I) : Type 0 where
    pub one : AtMostOnce a.asked b.asked
    pub shelf : AtMostOnce a.shelf_stops b.shelf_stops
    pub input : AtMostOnce a.input_stops b.input_stops

  -- What is read and what is left: the texts stay; words that are no command over a policy touch
  -- neither shelf nor input; the input is untouched but where a script is due, and read to its end
  -- where that was run; at 4 the shelf or the input counts a failure; nothing is asked for twice; and
  -- a script that is too long is read no further than the piece that shows it
  pub record Leaves (words : List (List ℕ)) (status : ℕ) (a b : Scene S I) : Type 0 where
    pub texts : b.texts ≡ a.texts
    pub unread : command_of words ≡ None → (b.shelf ≡ a.shelf) × (b.input ≡ a.input)
    pub untouched : (b.input ≡ a.input) ⊎ Text perhaps words a.texts AsksForScript
    pub read : IsSomeAnd (command_of words) (λ c. IsTrue (plays_script c)) → IsRunStatus status
        → IsAtEnd b.script
    pub counted : status ≡ 4
        → Rose a.shelf_faults b.shelf_faults ⊎ Rose a.input_faults b.input_faults
    pub once : IsAskedOnce a b
    pub short : TakesFront (MAX_SCRIPT + READ_PIECE) a.script b.script

  -- What `tool` promises over the words, by its status, from its surroundings before to those
  -- after: what it ends with is printed; the status has its cause; a cause has its status; where it
  -- is 0 and nothing fails, so is the status, or there is no memory; and what is read and left
  pub record RunsTool (words : List (List ℕ)) (status : ℕ) (a b : Scene S I) : Type 0 where
    pub answers : Answers words status a b
    pub cause : Cause perhaps words status a b
    pub dues : (s : ℕ) → Cause surely words s a b → IsDue s status a b
    pub complete : Cause surely words 0 a b → (IsUnread a b → ⊥) → (IsUnwritten a b → ⊥)
        → (status ≡ 0) ⊎ (status ≡ 8)
    pub leaves : Leaves words status a b
