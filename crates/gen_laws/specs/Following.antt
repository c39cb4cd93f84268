-- Histories that the lines of a script make.
use Rattle.std.specs.Prelude.{◌≡◌, ℕ, List, [], ◌∷◌, ◌++◌}
use Rattle.gt_base.specs.Machines.{asked}
use Rattle.gt_base.specs.declared.requests.Who.{Who}
use Rattle.gt_base.specs.declared.requests.Actor.{Actor}
use Rattle.gt_base.specs.declared.requests.Reply.{Reply}
use Rattle.gt_base.specs.declared.requests.Step.{Step}
use Rattle.gt_base.specs.declared.requests.Step.TheVariants.{Tick, Ask as Asked}
use Rattle.gt_base.specs.declared.requests.Entry.{Entry}
use Rattle.request_text.specs.declared.lines.Line.{Line}
use Rattle.request_text.specs.declared.lines.Line.TheVariants.{Silent, At, Be, Ask}

-- a tick with this bound, wherever it stopped
abbrev pub IsTickTo : ℕ → Step → Type 0
IsTickTo bound (Tick upto to) = upto ≡ bound
IsTickTo bound (Asked actor request reply) = ⊥

abbrev pub AreTicksTo : ℕ → List Entry → Type 0
AreTicksTo bound [] = Unit {0}
AreTicksTo bound (e ∷ es) = IsTickTo bound e.what × AreTicksTo bound es

-- a minute makes some ticks to it, a request one entry, whoever asks and whatever the reply, and
-- other lines make none
abbrev pub FollowsLines : List Line → List Entry → Type 0
FollowsLines [] h = h ≡ []
FollowsLines (Silent ∷ ls) h = FollowsLines ls h
FollowsLines (Be actor ∷ ls) h = FollowsLines ls h
FollowsLines (At minute ∷ ls) h = (ticks : List Entry) × (rest : List Entry) × (h ≡ ticks ++ rest)
    × AreTicksTo minute ticks × FollowsLines ls rest
FollowsLines (Ask request ∷ ls) h =
    (who : Who) × (actor : Actor) × (reply : Reply) × (rest : List Entry)
    × (h ≡ asked who actor request reply ∷ rest) × FollowsLines ls rest
