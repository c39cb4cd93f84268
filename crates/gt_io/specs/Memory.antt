-- Sources and sinks in memory: what they hold, and what each of their calls answers and leaves.
use Rattle.std.specs.Prelude.{◌≡◌, ◌==◌, ◌⊎◌, ◌↔◌, ◌+◌, ◌-◌, ◌^◌, ℕ, Bool, if◌then◌else◌, List, [], ◌++◌, length, take, drop, min, IsTrue, IsErr, MatchResult}
use Rattle.std.specs.List.{list_any}
use Rattle.std.specs.declared.result.Result.{Result}

-- calls numbered from 1: the numbers of those that fail, how many were made, and how many have
-- failed
pub record FailingCalls : Type 0 where
  pub failing : List ℕ
  pub made : ℕ
  pub faults : ℕ

abbrev pub none_made : List ℕ → FailingCalls
none_made failing = record { failing = failing; made = 0; faults = 0 }

-- one more; a count stays at the end of its type
abbrev pub one_more : ℕ → ℕ
one_more n = min (n + 1) (2 ^ 64 - 1)

-- whether the number of the call behind so many is listed
abbrev pub is_listed : ℕ → List ℕ → Bool
is_listed made numbers = list_any (λ n. n == one_more made) numbers

-- whether the next call fails
abbrev pub fails_next : FailingCalls → Bool
fails_next c = is_listed c.made c.failing

-- after a call that has not failed, and after one that has
abbrev pub answered : FailingCalls → FailingCalls
answered c = record c { made = one_more c.made }

abbrev pub refused : FailingCalls → FailingCalls
refused c = record c { made = one_more c.made; faults = one_more c.faults }

-- bytes to read: those taken and those left, the most that one call gives, the calls, and how many
-- of them told the end
pub record Supply : Type 0 where
  pub taken : List ℕ
  pub left : List ℕ
  pub piece : ℕ
  pub calls : FailingCalls
  pub ends : ℕ

abbrev pub supply_of : List ℕ → ℕ → List ℕ → Supply
supply_of bytes piece failing =
    record { taken = []; left = bytes; piece = piece; calls = none_made failing; ends = 0 }

-- a read fails where its number is listed, and gives a piece otherwise, or what is left or what the
-- buffer holds where that is less
pub record GivesPiece {E : Type 0} (o p : Supply) (room : ℕ) (result : Result ℕ E) : Type 0 where
  pub listed : IsErr result ↔ IsTrue (fails_next o.calls)
  pub gives : MatchResult result
      (λ n. (n ≡ min (length o.left) (min room o.piece))
      × (p
      ≡ record o {
        taken = o.taken ++ take n o.left;
        left = drop n o.left;
        calls = answered o.calls;
        ends = if n == 0 then one_more o.ends else o.ends;
      }))
      (λ _. p ≡ record o { calls = refused o.calls })

-- bytes that were written, how many there may be in all, and the most that one call takes
pub record Store : Type 0 where
  pub written : List ℕ
  pub room : ℕ
  pub piece : ℕ
  pub calls : FailingCalls

abbrev pub store_of : ℕ → ℕ → List ℕ → Store
store_of room piece failing =
    record { written = []; room = room; piece = piece; calls = none_made failing }

abbrev pub space : Store → ℕ
space s = s.room - length s.written

-- a write fails where its number is listed and where no room is left, and takes a piece otherwise,
-- or the text or the room where that is less
pub record TakesPiece {E : Type 0} (o p : Store) (text : List ℕ) (result : Result ℕ E)
    : Type 0 where
  pub listed : IsErr result ↔ (IsTrue (fails_next o.calls) ⊎ (space o ≡ 0))
  pub takes : MatchResult result
      (λ n. (n ≡ min (length text) (min o.piece (space o)))
      × (p ≡ record o { written = o.written ++ take n text; calls = answered o.calls }))
      (λ _. p ≡ record o { calls = refused o.calls })
