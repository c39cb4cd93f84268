-- A request that only looks is shown a reply, or there was no memory.
use Rattle.std.proofs.Common.{ℕ, List}
use Rattle.gt_base.specs.declared.requests.Actor.{Actor}
use Rattle.gt_base.specs.declared.requests.Request.{Request}
use Rattle.gt_base.specs.declared.requests.Reply.{Reply}
use Rattle.gt_base.specs.declared.requests.Entry.{Entry}
use Rattle.policy_words.specs.Naming.{NamedPolicy}
use Rattle.connection_laws.specs.Lines.{Answer, silence, agreed, bad, accepted, shown, no_memory, no_steps, view_only, worn}
use Rattle.snapshot_readers.specs.Viewed.{Looks}

pub look_by : (np : NamedPolicy) (birth : ℕ) (h : List Entry) (actor : Actor) (request : Request) (Q : Answer → Type 0) → ((n : ℕ) (reply : Reply) → Looks np birth h actor request (shown n reply) → Q (shown n reply)) → Q no_memory
    → (answer : Answer) → Looks np birth h actor request answer → Q answer
look_by np birth h actor request Q at_reply none (shown n reply) l = at_reply n reply l
look_by np birth h actor request Q at_reply none no_memory l = none
look_by np birth h actor request Q at_reply none silence l = absurd l
look_by np birth h actor request Q at_reply none agreed l = absurd l
look_by np birth h actor request Q at_reply none (bad f) l = absurd l
look_by np birth h actor request Q at_reply none (accepted reply) l = absurd l
look_by np birth h actor request Q at_reply none no_steps l = absurd l
look_by np birth h actor request Q at_reply none view_only l = absurd l
look_by np birth h actor request Q at_reply none worn l = absurd l
