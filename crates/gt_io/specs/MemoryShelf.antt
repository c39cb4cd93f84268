-- Shelves in memory.
use Rattle.std.specs.Prelude.{◌≡◌, ℕ, zero, suc, true, false, List, [], ◌∷◌, Some, None, if◌then◌else◌, IsOk, IsErr, IfSome}
use Rattle.std.specs.Str.{bytes_eq}
use Rattle.std.specs.declared.option.Option.{Option}
use Rattle.std.specs.declared.result.Result.{Result}
use Rattle.gt_io.specs.Memory.{Supply, supply_of, GivesPiece, one_more, fails_next, answered, refused}
use Rattle.gt_io.specs.declared.memory_shelf.MemFile.{MemFile}

-- the text of the first file of this name
abbrev pub file_text : List MemFile → List ℕ → Option (List ℕ)
file_text [] name = None
file_text (file ∷ files) name =
    if bytes_eq file.name.items name then Some file.bytes.items else file_text files name

-- the bytes of the file at a place, none where there is no such file
abbrev pub bytes_at : List MemFile → ℕ → List ℕ
bytes_at [] i = []
bytes_at (file ∷ files) zero = file.bytes.items
bytes_at (file ∷ files) (suc i) = bytes_at files i

-- texts by their names, the one that was found last, as far as it was read, how often a call failed
-- that was listed, and how often a text was asked for; the calls are numbered together
pub record Texts : Type 0 where
  pub files : List MemFile
  pub text : Supply
  pub hard_faults : ℕ
  pub asked : ℕ

abbrev pub texts_of : List MemFile → ℕ → List ℕ → Texts
texts_of files piece failing =
    record { files = files; text = supply_of [] piece failing; hard_faults = 0; asked = 0 }

-- after a call that has not failed yet, after a listed one, after a name that no file has, and
-- after one that was found
abbrev pub begun : Texts → Texts
begun t = record t { text = record (t.text) { calls = answered t.text.calls } }

abbrev pub broken : Texts → Texts
broken t =
    record t {
      text = record (t.text) { calls = refused t.text.calls };
      hard_faults = one_more t.hard_faults;
    }

abbrev pub unfound : Texts → Texts
unfound t = record t { text = record (t.text) { calls = refused t.text.calls } }

abbrev pub text_opened : Texts → List ℕ → Texts
text_opened t bytes =
    record t {
      text = record {
        taken = [];
        left = bytes;
        piece = t.text.piece;
        calls = answered t.text.calls;
        ends = t.text.ends;
      };
    }

-- a text was asked for
abbrev pub asked_for : Texts → Texts
asked_for t = record t { asked = one_more t.asked }

-- a search fails where its number is listed, else where no file has the name
pub record FindsText {T E : Type 0} (o p : Texts) (name : List ℕ) (result : Result T E)
    : Type 0 where
  pub listed : fails_next o.text.calls ≡ true → IsErr result × (p ≡ asked_for (broken o))
  pub missing : fails_next o.text.calls ≡ false → file_text o.files name ≡ None
      → IsErr result × (p ≡ asked_for (unfound o))
  pub found : fails_next o.text.calls ≡ false
      → IfSome (file_text o.files name)
      (λ bytes. IsOk result × (p ≡ asked_for (text_opened o bytes)))

-- a read goes on where the text was left
pub record ReadsText {E : Type 0} (o p : Texts) (room : ℕ) (result : Result ℕ E) : Type 0 where
  pub gives : GivesPiece o.text p.text room result
  pub files_are : p.files ≡ o.files
  pub asked_is : p.asked ≡ o.asked
  pub hard_faults_are : p.hard_faults
      ≡ (if fails_next o.text.calls then one_more o.hard_faults else o.hard_faults)
