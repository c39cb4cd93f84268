-- A service that nothing hinders is complete.
use Rattle.std.proofs.Common.{◌≡◌, ℕ, false, List, true≢false}
use Rattle.gt_base.specs.declared.requests.Who.{Who}
use Rattle.gt_base.specs.declared.requests.Actor.{Actor}
use Rattle.gt_base.specs.declared.requests.Request.{Request}
use Rattle.gt_base.specs.declared.requests.Entry.{Entry}
use Rattle.gt_io.specs.Links.{Traffic}
use Rattle.policy_words.specs.Naming.{NamedPolicy}
use Rattle.connection_laws.specs.declared.ends.LinkEnd.{LinkEnd}
use Rattle.connection_laws.specs.Lines.{Answer, shown, view_only, silence, agreed, bad, accepted, no_memory, no_steps, worn, is_worn, Acted}
use Rattle.connection_laws.specs.Connection.{AnswersAfterTicks, Asks, Conn}
use Rattle.connection_laws.specs.Attending.{EndsBy, IsUnhindered, IsComplete}
use Rattle.connection_laws.specs.Clerks.{WearsAt}
use Rattle.connection_laws.proofs.Linking as Linking
use Rattle.line_server.specs.Serving.{IsAnswered}

module _ (np : NamedPolicy) (birth : ℕ) (who : Who) (h : List Entry) where
  answered_by : (reading : ℕ) (actor : Actor) (request : Request) (answer : Answer) (n : ℕ) (ticks entries : List Entry) → is_worn answer ≡ false
      → AnswersAfterTicks birth who h reading actor request answer n ticks entries → IsAnswered h answer
  answered_by reading actor request (accepted reply) n ticks entries u x = tt
  answered_by reading actor request no_memory n ticks entries u x = tt
  answered_by reading actor request no_steps n ticks entries u x = x.1
  answered_by reading actor request worn n ticks entries u x = absurd (true≢false u)
  answered_by reading actor request silence n ticks entries u x = absurd x
  answered_by reading actor request agreed n ticks entries u x = absurd x
  answered_by reading actor request (bad f) n ticks entries u x = absurd x
  answered_by reading actor request (shown k r) n ticks entries u x = absurd x
  answered_by reading actor request view_only n ticks entries u x = absurd x

  pub complete_by : (older : ℕ) (taken readings : List ℕ) (own : List Entry) (given : List ℕ) (acted : List Acted) (end : LinkEnd) (a b : Traffic) (draws : ℕ)
      → Conn np birth who h older taken readings own given acted end → EndsBy (WearsAt draws) a b taken end → IsUnhindered a b taken end → IsComplete (λ (request : Request). IsAnswered h) np taken acted end
  complete_by older taken readings own given acted end a b draws =
      Linking.complete_by (Asks birth who h) (λ (request : Request). IsAnswered h)
      (λ actor request answer n readings entries u x. answered_by x.0 actor request answer n x.1 entries u x.4) np older (WearsAt draws) taken readings own given acted end a b
