-- How a log leaves, page after page.
use Rattle.std.specs.Prelude.{◌≡◌, ◌⊎◌, ◌+◌, ◌<◌, ◌≤◌, ℕ, List, [], ◌++◌, length, flat_map, Option}
use Rattle.std.specs.Io.KnownBytes.{Appends}
use Rattle.gt_base.specs.Roomy.{Roomy}
use Rattle.gt_base.specs.declared.requests.Entry.{Entry}
use Rattle.policy_words.specs.Naming.{NamedPolicy}
use Rattle.request_text.specs.Fitting.{FitPages}
use Rattle.request_text.specs.Replies.{entry_line}
use Rattle.request_text.specs.declared.rooms.TheConstants.{PAGE_SIZE}

-- an empty page, as it is made
abbrev pub IsBlankPage : Roomy ℕ → Type 0
IsBlankPage page = (page.items ≡ []) × (page.spare ≡ PAGE_SIZE)

module _ (np : NamedPolicy) where
  -- what stands on a page, and the lines of the entries
  abbrev pub text_from : List ℕ → List Entry → List ℕ
  text_from page entries = page ++ flat_map (entry_line np) entries

  -- a page was filled, written and cleared: of what was to be written the lines of these entries
  -- are left, none or fewer
  pub record WritesPage (old new : Roomy ℕ) (entries left : List Entry)
      (before after : Option (List ℕ)) : Type 0 where
    pub text : List ℕ
    pub all : text_from old.items entries ≡ text_from text left
    pub written : Appends before after text
    pub fit : FitPages np.policy left
    pub fewer : (left ≡ []) ⊎ (length left < length entries)
    pub empty : new.items ≡ []
    pub room : old.spare + length old.items ≤ new.spare
