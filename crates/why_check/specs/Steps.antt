-- What a step has to do with the next listing of a certificate.
use Rattle.std.specs.Prelude.{◌≡◌, ◌⊎◌, ℕ, ◌-◌, ◌<◌, ◌≤◌, ◌^◌, Option, Some, None}
use Rattle.gt_base.specs.Happening.{HappenedView, nothing}
use Rattle.gt_base.specs.Sets.{has}
use Rattle.gt_base.specs.declared.requests.Step.{Step}
use Rattle.gt_base.specs.declared.requests.Step.TheVariants.{Tick, Ask}
use Rattle.gt_base.specs.declared.limits.TheConstants.{LAST_MINUTE}
use Rattle.gtrbac_model.specs.Policy.{Policy}
use Rattle.gtrbac_model.specs.Conflict.{Status}
use Rattle.session_table.specs.Tables.{NotBefore, table_of}
use Rattle.why_check.specs.Certificates.{Listed, set_in}
use Rattle.why_check.specs.Kept.{IsAnsweredAt, IsClosed, IsAsked, IsGood, IsLater, base_in}
use Rattle.why_check.specs.declared.checking.Held.{Held}
use Rattle.why_check.specs.declared.checking.Held.TheVariants.{Listed as IsListed, Passed, Wrong}
use Rattle.why_check.specs.declared.replays.Replay.{Replay}

-- the certificate is wrong at the instant: the next listing is of an earlier one, or is of it and
-- not good, or is of none so far while the base has something
abbrev pub IsWrong : Policy → HappenedView → Status → ℕ → Option Listed → Type 0
IsWrong p base s to None = base ≡ nothing → ⊥
IsWrong p base s to (Some l) = (l.at < to) ⊎ (l.at ≡ to) × (IsGood p base s to l → ⊥) ⊎ (to < l.at)
    × (base ≡ nothing → ⊥)

abbrev pub IsNext : Policy → HappenedView → Status → ℕ → Option Listed → Type 0
IsNext p base s to None = ⊥
IsNext p base s to (Some l) = IsGood p base s to l

-- the set that is listed next, or nothing
abbrev pub set_next : Option Listed → HappenedView
set_next None = nothing
set_next (Some l) = set_in l

-- a tick that stopped at an instant, over the base and the status before it, and the state after it
abbrev pub IsHeld : Policy → Replay → ℕ → Option Listed → Held → Replay → Type 0
IsHeld p s to next IsListed s' = IsNext p (base_in p s to) (has s.status.set) to next
    × IsClosed p s (set_next next) to s'
IsHeld p s to next Passed s' = IsLater to next × (base_in p s to ≡ nothing)
    × IsClosed p s nothing to s'
IsHeld p s to next Wrong s' = IsWrong p (base_in p s to) (has s.status.set) to next

-- a step of either kind
abbrev pub IsPlayed : Policy → Replay → Step → Option Listed → Held → Replay → Type 0
IsPlayed p s (Tick upto to) next held s' = (to ≤ LAST_MINUTE) × IsHeld p s to next held s'
IsPlayed p s (Ask actor request reply) next held s' = (held ≡ Passed)
    × IsAsked s actor request reply s'

-- how many listings the step was held against
abbrev pub held_count : Held → ℕ
held_count IsListed = 1
held_count Passed = 0
held_count Wrong = 0

-- what a step needs
abbrev pub IsReadyStep : Policy → Replay → Step → Type 0
IsReadyStep p s (Tick upto to) = (s.present < to) × (s.ages.birth < to)
    × NotBefore s.table.charged_to s.present
IsReadyStep p s (Ask actor request reply) = (s.table.begun < 2 ^ 32 - 1)
    × IsAnsweredAt p.edges p.caps (has s.status.set) s.present
    (table_of s.table) actor request reply
