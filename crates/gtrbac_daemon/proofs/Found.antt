-- What is found by a name.
use Rattle.std.proofs.Common.{◌≡◌, ◌⊎◌, ℕ, ◌<◌, ◌≤◌, ◌^◌, List, length, Option, Some, None, inl, inr, refl, sym, ap, subst, arith}
use Rattle.std.specs.Prelude.{option_map}
use Rattle.gt_io.specs.Causes.{Rose}
use Rattle.gt_io.specs.Streams.{Output}
use Rattle.gt_io.specs.Shelf.{Contents, Stock}
use Rattle.policy_commands.specs.declared.ends.End.{End}
use Rattle.policy_commands.specs.Admitting.{IsEnded}
use Rattle.policy_commands.specs.Ends.{EndView, seen_end}
use Rattle.policy_commands.specs.Finding.{IsStoredText}
use Rattle.policy_commands.specs.Printing.{IsPrinted}
use Rattle.gtrbac_daemon.specs.Words.{KeepsFromServing}
use Rattle.gtrbac_daemon.specs.Runs.{bare, IsUnserved, refused}
use Rattle.gtrbac_daemon.proofs.Causing.{apart}

pub is_short : (contents : Contents) (name text : List ℕ) → IsStoredText contents name text → length text < 2 ^ 32
is_short contents name text is = let short : length text ≤ 4_194_304 = is.short in omega (arith, short)

-- words that say a name
pub some_said : {A : Type 0} (f : A → List ℕ) (o : Option A) (x : A) → o ≡ Some x → option_map f o ≡ Some (f x)
some_said f o x e = ap (option_map f) e

pub none_said : {A : Type 0} (f : A → List ℕ) (o : Option A) → o ≡ None → option_map f o ≡ None
none_said f o e = ap (option_map f) e

-- why a text that the shelf has is not served
pub text_refused : (hard : Type 0) (contents : Contents) (name text : List ℕ) (end : End) → IsStoredText contents name text → IsEnded text end → KeepsFromServing hard contents (Some name) (seen_end end)
text_refused hard contents name text end is h = inr (text, is, h.told, h.cause)

-- no text is judged to end with 4
pub judged_fine : (text : List ℕ) (end : End) → IsEnded text end → end.status ≡ 4 → ⊥
judged_fine text end h four = elim h.cause [ inl c ↦ apart end.status 2 4 refl c.0 four | inr c ↦ apart end.status 3 4 refl c.0 four ]

-- what keeps the server from serving, by what the words say
pub refused_as : (said name : Option (List ℕ)) → said ≡ name → (s : ℕ) (old new : Stock) (out out' : Output) (t : EndView) → KeepsFromServing (Rose old.hard_faults new.hard_faults) old.contents name t → (t.status ≡ 4 → Rose old.faults new.faults)
    → (t.status ≡ 4) ⊎ (new.hard_faults ≡ old.hard_faults) → IsPrinted s t out.written out'.written out.faults out'.faults → IsUnserved said s (bare old out) (bare new out')
refused_as said name e s old new out out' t cause failed steady printed =
    subst (λ (m : Option (List ℕ)). IsUnserved m s (bare old out) (bare new out')) (sym e)
    (refused (record { told = t; cause = cause; failed = failed; steady = steady; printed = printed; birth = refl; server = refl }))
