-- Files by their places.
use Rattle.std.proofs.Common.{◌≡◌, ◌<◌, ◌≤◌, ℕ, zero, suc, true, List, [], ◌∷◌, length, get_or, Some, refl, sym, ap, ◌∙◌, drop, arith}
use Rattle.std.proofs.Math.Seq.{drop-cons}
use Rattle.std.specs.Prelude.{if◌then◌else◌}
use Rattle.std.specs.Str.{bytes_eq}
use Rattle.gt_io.specs.declared.memory_shelf.MemFile.{MemFile}
use Rattle.gt_io.specs.MemoryShelf.{file_text, bytes_at}

pub bytes_at-get_or : (files : List MemFile) (i : ℕ) (d : MemFile) → i < length files → bytes_at files i ≡ (get_or files i d).bytes.items
bytes_at-get_or [] i d h = absurd (omega arith)
bytes_at-get_or (file ∷ files) zero d h = refl
bytes_at-get_or (file ∷ files) (suc i) d h = bytes_at-get_or files i d (omega arith)

pub bytes_at-past : (files : List MemFile) (i : ℕ) → length files ≤ i → bytes_at files i ≡ []
bytes_at-past [] i h = refl
bytes_at-past (file ∷ files) zero h = absurd (omega arith)
bytes_at-past (file ∷ files) (suc i) h = bytes_at-past files i (omega arith)

-- the first file from place i on has the name
pub text_of-drop : (files : List MemFile) (name : List ℕ) (i : ℕ) (file : MemFile) → i < length files → file ≡ get_or files i file
    → bytes_eq file.name.items name ≡ true → file_text (drop i files) name ≡ Some (bytes_at files i)
text_of-drop files name i file h e same =
    ap (λ fs. file_text fs name) (drop-cons files i file h ∙ ap (λ f. f ∷ drop (suc i) files) (sym e))
    ∙ ap (λ b. if b then Some file.bytes.items else file_text (drop (suc i) files) name) same
    ∙ ap Some (ap (λ (f : MemFile). f.bytes.items) e ∙ sym (bytes_at-get_or files i file h))

pub ruleset files = (bytes_at-get_or, bytes_at-past, text_of-drop)
