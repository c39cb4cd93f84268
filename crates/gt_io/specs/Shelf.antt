-- Texts by their names, and why one was not found.
use Rattle.std.specs.Prelude.{◌≡◌, ◌⊎◌, ◌+◌, ℕ, List, None, IsSomeAnd, MatchResult}
use Rattle.std.specs.declared.option.Option.{Option}
use Rattle.std.specs.declared.result.Result.{Result}
use Rattle.gt_io.specs.Causes.{AtMostOnce, Rose}
use Rattle.gt_io.specs.declared.source.ReadFault.{ReadFault}
use Rattle.gt_io.specs.declared.source.ReadFault.TheVariants.{Memory, Failed, TooLong}

-- the text of each name, where a shelf tells it
abbrev pub Contents : Type 0
Contents = Option (List ℕ → Option (List ℕ))

-- what is seen of a shelf: the text of each name and the bytes left of the text that was found
-- last, where that is told, how often it has failed, missing names among the failures, how often
-- but for names that it tells to be missing, how often a text was asked for, and how often a read
-- has told the end
pub record Stock : Type 0 where
  pub contents : Contents
  pub left : Option (List ℕ)
  pub faults : ℕ
  pub hard_faults : ℕ
  pub asked : ℕ
  pub ends : ℕ

-- one text was asked for, and nothing more behind a call that failed or told the end
pub record AsksOnce (a b : Stock) : Type 0 where
  pub one : AtMostOnce a.asked b.asked
  pub stopped : AtMostOnce (a.faults + a.ends) (b.faults + b.ends)

-- the shelf tells that it has no text of the name
abbrev pub Lacks : Contents → List ℕ → Type 0
Lacks contents name = IsSomeAnd contents (λ text_of. text_of name ≡ None)

-- why a text was not found: the shelf failed, which its count of hard faults shows, or it tells
-- that it has none
abbrev pub IsNotFound : Contents → List ℕ → ℕ → ℕ → Type 0
IsNotFound contents name before now = Rose before now ⊎ (Lacks contents name × (now ≡ before))

-- a search by name raises the count of hard faults where the shelf failed, and only there
abbrev pub HasFindCause : {T E : Type 0} → Contents → List ℕ → ℕ → ℕ → Result T E → Type 0
HasFindCause contents name before now result =
    MatchResult result (λ _. now ≡ before) (λ _. IsNotFound contents name before now)

abbrev pub TextFaultCause : Contents → List ℕ → ℕ → ℕ → ReadFault → Type 0
TextFaultCause contents name before now Memory = now ≡ before
TextFaultCause contents name before now Failed = IsNotFound contents name before now
TextFaultCause contents name before now TooLong = now ≡ before

-- the same of a text that was to be found and read whole
abbrev pub HasTextCause : {T : Type 0} → Contents → List ℕ → ℕ → ℕ → Result T ReadFault → Type 0
HasTextCause contents name before now result =
    MatchResult result (λ _. now ≡ before) (TextFaultCause contents name before now)
