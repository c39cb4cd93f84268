-- What the service of a worker's link comes to.
use Rattle.std.specs.Prelude.{◌≡◌, ℕ, ◌+◌, ◌*◌, ◌≤◌, true, ⊤, List, length}
use Rattle.std.specs.declared.option.Option.{Option}
use Rattle.gt_base.specs.declared.requests.Who.{Who}
use Rattle.gt_base.specs.declared.requests.Entry.{Entry}
use Rattle.gt_base.specs.declared.limits.TheConstants.{MAX_STEPS}
use Rattle.gt_io.specs.Links.{Traffic, Reads}
use Rattle.turn_lock.specs.Holders.{Holder}
use Rattle.policy_words.specs.Naming.{NamedPolicy}
use Rattle.connection_laws.specs.declared.ends.LinkEnd.{LinkEnd}
use Rattle.connection_laws.specs.declared.ends.Report.{Report}
use Rattle.connection_laws.specs.Lines.{Answer, accepted, no_memory, no_steps, Acted, asked_in, denied_in}
use Rattle.connection_laws.specs.Connection.{Asks, IsTimed, placed, Conn}
use Rattle.connection_laws.specs.Services.{Service}
use Rattle.connection_laws.specs.Turns.{Grows, AreMine}
use Rattle.connection_laws.specs.Attending.{bytes_of, Carries, EndsBy, IsUnhindered, IsComplete, IsServedBy}
use Rattle.connection_laws.specs.Clerks.{WearsAt}

-- a request is accepted, or there was no memory, or the history is full
abbrev pub IsAnswered : List Entry → Answer → Type 0
IsAnswered h (accepted reply) = ⊤
IsAnswered h no_memory = ⊤
IsAnswered h no_steps = MAX_STEPS ≤ length h
IsAnswered h _ = ⊥

-- a worker's link from its begin to its end, over a history
abbrev pub IsServedLink : NamedPolicy → ℕ → Who → List Entry → ℕ → ℕ → Traffic → Traffic → List ℕ
    → List ℕ → List Entry → List ℕ → List Acted → LinkEnd → Type 0
IsServedLink np birth who h older draws =
    IsServedBy (Asks birth who h) (λ request. IsAnswered h) (WearsAt draws) np older

-- a link and who serves it: the pass, how many request lines the worker had, the readings of its
-- clock that are to come, where they are told, and the traffic of the link
pub record LinkView (M : Type 0) : Type 0 where
  pub pass : Holder M
  pub calls : ℕ
  pub clock : Option (ℕ → ℕ)
  pub traffic : Traffic

abbrev pub link_view : {M : Type 0} → Holder M → ℕ → Option (ℕ → ℕ) → Traffic → LinkView M
link_view pass calls clock traffic =
    record { pass = pass; calls = calls; clock = clock; traffic = traffic }

module _ {M : Type 0} (v : Service) (who : Who) where
  -- What the service of a link comes to: the bytes taken and given, the readings, the entries that
  -- the pass added, and the acted lines. The link was let go
  pub record Serves (a b : LinkView M) (report : Report) : Type 0 where
    pub taken : List ℕ
    pub given : List ℕ
    pub readings : List ℕ
    pub own : List Entry
    pub acted : List Acted
    pub conn : (birth : ℕ) → IsTimed birth v.legal v.now
        → Conn v.policy birth who b.pass.seen (placed who v.first a.pass.own) taken readings own
        given acted report.outcome
    pub grows : Grows a.pass b.pass own (2 * length readings)
    pub mine : AreMine who own
    pub asked : report.asked ≡ asked_in acted
    pub denied : report.denied ≡ denied_in acted
    pub calls_are : b.calls ≡ a.calls + length readings
    pub carries : Carries (bytes_of a.traffic) (bytes_of b.traffic) taken given
    pub reads : Reads a.clock b.clock readings
    pub cause : EndsBy (WearsAt b.pass.draws) a.traffic b.traffic taken report.outcome
    pub finished : b.traffic.finished ≡ true
    pub complete : (birth : ℕ) → IsTimed birth v.legal v.now
        → IsUnhindered a.traffic b.traffic taken report.outcome
        → IsComplete (λ request. IsAnswered b.pass.seen) v.policy taken acted report.outcome
