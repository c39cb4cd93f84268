-- What a worker's link comes to at its end.
use Rattle.std.proofs.Common.{◌≡◌, ℕ, ◌+◌, ◌*◌, true, List, length, refl, ◌∙◌, ap, Option}
use Rattle.gt_base.specs.declared.requests.Who.{Who}
use Rattle.gt_base.specs.declared.requests.Entry.{Entry}
use Rattle.gt_io.specs.Links.{Traffic}
use Rattle.turn_lock.specs.Holders.{Holder}
use Rattle.policy_words.specs.Naming.{NamedPolicy}
use Rattle.connection_laws.specs.declared.talk.Talk.{Talk}
use Rattle.connection_laws.specs.declared.ends.LinkEnd.{LinkEnd}
use Rattle.connection_laws.specs.Lines.{readings_of, entries_of}
use Rattle.connection_laws.specs.Connection.{IsTimed, placed, Conn}
use Rattle.connection_laws.specs.Services.{service}
use Rattle.connection_laws.specs.Attending.{spot, Attends}
use Rattle.connection_laws.specs.Clerks.{clerk_view, WearsClerk, ClerkAsks}
use Rattle.connection_laws.proofs.Growing.{grows_rested}
use Rattle.connection_laws.proofs.Chaining.{goes_of}
use Rattle.line_server.specs.Serving.{link_view, Serves}
use Rattle.line_server.proofs.Completing.{complete_by}

module _ {M : Type 0} (np : NamedPolicy) (first : List Entry) (legal : List Entry → Type 0) (now : List Entry → ℕ) (who : Who) where
  -- the report of a service
  pub reported : (before after : Holder M) (talk talk' : Talk) (clock clock' : Option (ℕ → ℕ)) (a b : Traffic) (end : LinkEnd)
      → Attends np (ClerkAsks (service np first legal now) who) WearsClerk (spot (clerk_view before clock) talk a.given) (spot (clerk_view after clock') talk' b.given) a b end → b.finished ≡ true
      → Serves (service np first legal now) who (link_view before talk.calls clock a) (link_view after talk'.calls clock' b) (record { asked = talk'.asked; denied = talk'.denied; outcome = end })
  reported before after talk talk' clock clock' a b end x done =
      let g = goes_of (service np first legal now) who np (clerk_view before clock) (clerk_view after clock') x.acted x.going.steps in
      let connected : (birth : ℕ) → IsTimed birth legal now → Conn np birth who after.seen (placed who first before.own) x.taken (readings_of x.acted) (entries_of x.acted) x.given x.acted end =
      λ birth timed. record { lines = x.lines; readings_are = refl; own_are = refl; fit = g.fits birth timed; given_is = x.given_is } in
      record {
        taken = x.taken;
        given = x.given;
        readings = readings_of x.acted;
        own = entries_of x.acted;
        acted = x.acted;
        conn = connected;
        grows = grows_rested before after (entries_of x.acted) (2 * length (readings_of x.acted)) g.grows;
        mine = g.mine;
        asked = x.going.asked;
        denied = x.going.denied;
        calls_are = x.going.calls ∙ ap (λ (n : ℕ). talk.calls + n) g.calls;
        carries = x.carries;
        reads = g.reads;
        cause = x.cause;
        finished = done;
        complete = λ birth timed free.
            complete_by np birth who after.seen (placed who first before.own) x.taken (readings_of x.acted) (entries_of x.acted) x.given x.acted end a b after.draws (connected birth timed) x.cause free;
      }
