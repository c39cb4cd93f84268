-- What is told over a history is told over each longer one.
use Rattle.std.proofs.Common.{ℕ, List, [], ◌∷◌, ◌++◌, arith}
use mathlib.Core.List.{IsPrefix}
use Rattle.gt_base.specs.declared.requests.Who.{Who}
use Rattle.gt_base.specs.declared.requests.Actor.{Actor}
use Rattle.gt_base.specs.declared.requests.Request.{Request}
use Rattle.gt_base.specs.declared.requests.Entry.{Entry}
use Rattle.gt_base.specs.Machines.{asked}
use Rattle.policy_words.specs.Naming.{NamedPolicy}
use Rattle.connection_laws.specs.declared.ends.LinkEnd.{LinkEnd}
use Rattle.connection_laws.specs.Lines.{Answer, shown, view_only, silence, agreed, bad, accepted, no_memory, no_steps, worn, Acted}
use Rattle.connection_laws.specs.Connection.{AnswersAfterTicks, Asks, AreActed, Conn}
use Rattle.connection_laws.proofs.Linking.{acted_so, link_so}
use Rattle.connection_laws.proofs.Prefixes.{prefix_trans, prefix_length}

module _ (np : NamedPolicy) (birth : ℕ) (who : Who) (h h' : List Entry) (more : IsPrefix h h') where
  answers_longer : (reading : ℕ) (actor : Actor) (request : Request) (answer : Answer) (n : ℕ) (ticks entries : List Entry)
      → AnswersAfterTicks birth who h reading actor request answer n ticks entries → AnswersAfterTicks birth who h' reading actor request answer n ticks entries
  answers_longer reading actor request (accepted reply) n ticks entries a =
      let s = a.1 in (a.0, (s.0, prefix_trans (s.0 ++ asked who actor request reply ∷ []) h h' s.1 more, s.2, s.3))
  answers_longer reading actor request no_memory n ticks entries a = a
  answers_longer reading actor request no_steps n ticks entries a = (a.0, let few = prefix_length h h' more in omega arith)
  answers_longer reading actor request worn n ticks entries a = a
  answers_longer reading actor request silence n ticks entries a = a
  answers_longer reading actor request agreed n ticks entries a = a
  answers_longer reading actor request (bad f) n ticks entries a = a
  answers_longer reading actor request (shown k r) n ticks entries a = a
  answers_longer reading actor request view_only n ticks entries a = a

  pub asks_longer : (actor : Actor) (request : Request) (answer : Answer) (n : ℕ) (readings : List ℕ) (entries : List Entry)
      → Asks birth who h actor request answer n readings entries → Asks birth who h' actor request answer n readings entries
  asks_longer actor request answer n readings entries a = (a.0, a.1, a.2, a.3, answers_longer a.0 actor request answer n a.1 entries a.4)

  pub acted_longer : (older : ℕ) (acted : List Acted) → AreActed np birth who h older acted → AreActed np birth who h' older acted
  acted_longer = acted_so (Asks birth who h) (Asks birth who h') asks_longer np

  -- a connection over a front is one over a longer history
  pub conn_longer : (older : ℕ) (taken readings : List ℕ) (own : List Entry) (given : List ℕ) (acted : List Acted) (end : LinkEnd)
      → Conn np birth who h older taken readings own given acted end → Conn np birth who h' older taken readings own given acted end
  conn_longer = link_so (Asks birth who h) (Asks birth who h') asks_longer np
