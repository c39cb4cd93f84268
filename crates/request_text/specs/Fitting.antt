-- Entries whose lines fit a page.
use Rattle.std.specs.Prelude.{List, [], ◌∷◌, IsTrue}
use Rattle.gt_base.specs.declared.requests.Actor.TheVariants.{Operator}
use Rattle.gt_base.specs.declared.requests.Step.{Step}
use Rattle.gt_base.specs.declared.requests.Step.TheVariants.{Tick, Ask}
use Rattle.gt_base.specs.declared.requests.Entry.{Entry}
use Rattle.gtrbac_model.specs.Policy.{Policy}
use Rattle.gtrbac_model.specs.History.{IsNamedWish, ask}
use Rattle.request_text.specs.Named.{has_entry}
use Rattle.request_text.specs.Sizes.{IsSmall, IsBrief}

-- the numbers of its reply are those that the types hold
abbrev pub IsSmallStep : Step → Type 0
IsSmallStep (Tick upto to) = Unit {0}
IsSmallStep (Ask actor request reply) = IsSmall reply

module _ (p : Policy) where
  -- what is asked is within the limits of the policy, and a walk has at most 999 edges
  abbrev pub IsShortStep : Step → Type 0
  IsShortStep (Tick upto to) = Unit {0}
  IsShortStep (Ask actor request reply) = IsNamedWish p (ask Operator request) × IsBrief reply

  -- its line has at most 33,584 bytes
  pub record FitsPage (e : Entry) : Type 0 where
    pub named : IsTrue (has_entry p e)
    pub short : IsShortStep e.what

  abbrev pub FitPages : List Entry → Type 0
  FitPages [] = Unit {0}
  FitPages (e ∷ es) = FitsPage e × FitPages es
