-- The buffer in which the replies of a connection go out, one after the other.
use Rattle.std.specs.Prelude.{◌≡◌, ℕ, ◌+◌, ◌≤◌, [], length, Some, None}
use Rattle.std.specs.declared.option.Option.{Option}
use Rattle.gt_base.specs.Roomy.{Roomy}
use Rattle.request_text.specs.declared.sizes.TheConstants.{LONGEST_REPLY}
use Rattle.connection_laws.specs.declared.talk.LineAnswer.{LineAnswer}
use Rattle.connection_laws.specs.declared.talk.LineAnswer.TheVariants.{Reply as ToldReply}

-- the buffer that an answer has taken along, where it has one
abbrev pub text_in : LineAnswer → Option (Roomy ℕ)
text_in (ToldReply text) = Some text
text_in _ = None

-- all the room of a buffer, full or not
abbrev pub room_in : Roomy ℕ → ℕ
room_in l = l.spare + length l.items

-- the room of a connection, also while a text has taken it along
abbrev pub room_with : Option (Roomy ℕ) → Roomy ℕ → ℕ
room_with None room = room_in room
room_with (Some text) room = room_in text

-- A text takes all the room along, and it is enough for each reply. Where no text goes out, all of
-- it stays
abbrev pub LendsRoom : Roomy ℕ → Roomy ℕ → Option (Roomy ℕ) → Type 0
LendsRoom room room' None = room_in room ≤ room_in room'
LendsRoom room room' (Some text) = (room_in room ≤ room_in text) × (LONGEST_REPLY ≤ room_in text)

-- the text comes back, emptied, with all of its room
abbrev pub TakesBack : Roomy ℕ → Roomy ℕ → Option (Roomy ℕ) → Type 0
TakesBack room room' None = room' ≡ room
TakesBack room room' (Some text) = (room'.items ≡ []) × (room'.spare ≡ room_in text)
