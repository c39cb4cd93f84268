-- Words that are read from the front, beside those of the wording.
use Rattle.std.specs.Prelude.{ℕ, Bool, true, false, List, [], ◌∷◌, ◌++◌, codes, bytes_eq, length, Option, Some, None, if◌then◌else◌}
use Rattle.gt_base.specs.Names.{name_in}
use Rattle.policy_words.specs.declared.parts.Item.{Item}
use Rattle.policy_words.specs.declared.parts.NamedCond.{NamedCond}
use Rattle.policy_words.specs.declared.parts.NamedSignal.{NamedSignal}
use Rattle.policy_words.specs.declared.parts.Item.TheVariants.{Signal, Cond, Settled}
use Rattle.policy_words.specs.Wording.{◌>>=◌, Read, signal_at, cond_at, settled_at, or_else}
use Rattle.policy_words.specs.Sayings.{SaidView, limit}
use Rattle.policy_words.specs.Reading.{items_at, most_at, during_in}

-- a name
abbrev pub name_at : Read (List ℕ)
name_at [] = None
name_at (w ∷ ws) = do
  n ← name_in w
  Some (n, ws)

-- items of what is read
abbrev pub as_signal : Option (NamedSignal × List (List ℕ)) → Option (Item × List (List ℕ))
as_signal r = do
  s ← r
  Some (Signal s.0, s.1)

abbrev pub as_cond : Option (NamedCond × List (List ℕ)) → Option (Item × List (List ℕ))
as_cond r = do
  c ← r
  Some (Cond c.0, c.1)

abbrev pub as_settled : Option (NamedCond × List (List ℕ)) → Option (Item × List (List ℕ))
as_settled r = do
  c ← r
  Some (Settled c.0, c.1)

-- a signal, a condition or a settled condition
abbrev pub other_item_at : Read Item
other_item_at ws = or_else (as_signal (signal_at ws))
    (or_else (as_cond (cond_at ws)) (as_settled (settled_at ws)))

-- `and`, or `then`, which ends the items
abbrev pub link_at : Read Bool
link_at [] = None
link_at (w ∷ ws) =
    if bytes_eq w (codes "and") then Some (false, ws)
    else if bytes_eq w (codes "then") then Some (true, ws)
    else None

-- the items up to `then`
unfoldable pub items_of : Read (List Item)
items_of ws = items_at (length ws) ws

-- these items, and then those that are read
abbrev pub onto : List Item → Option (List Item × List (List ℕ))
    → Option (List Item × List (List ℕ))
onto front None = None
onto front (Some r) = Some (front ++ r.0, r.1)

-- a limit behind its name and its priority
abbrev pub limit_behind : List ℕ → ℕ → List (List ℕ) → Option SaidView
limit_behind name prio ws = do
  c ← cond_at ws
  most ← most_at c.1
  during ← during_in most.1
  Some (limit name prio c.0 most.0 during)
