-- What acting on one line does.
use Rattle.std.specs.Prelude.{◌≡◌, ℕ, ◌+◌, ◌^◌, ◌<◌, ◌≤◌, List, [], ◌∷◌, ◌++◌, codes}
use Rattle.gt_base.specs.declared.requests.Who.{Who}
use Rattle.gt_base.specs.declared.requests.Actor.{Actor}
use Rattle.gt_base.specs.declared.requests.Request.{Request}
use Rattle.gt_base.specs.declared.requests.Entry.{Entry}
use Rattle.turn_lock.specs.Holders.{Holder}
use Rattle.policy_words.specs.Naming.{NamedPolicy}
use Rattle.request_text.specs.Replies.{fault_word}
use Rattle.connection_laws.specs.Lines.{Answer, silence, agreed, bad, no_memory, no_steps, view_only, worn, IsReply, is_replied, is_denied, answer_text, one_where}
use Rattle.connection_laws.specs.Connection.{Asks, IsTimed, placed}
use Rattle.connection_laws.specs.declared.talk.Talk.{Talk}
use Rattle.connection_laws.specs.declared.talk.LineAnswer.{LineAnswer}
use Rattle.connection_laws.specs.declared.talk.LineAnswer.TheVariants.{Silence, Agreed, Bad, Reply as ToldReply, NoMemory, NoSteps, ViewOnly, Worn as ToldWorn}
use Rattle.connection_laws.specs.Services.{Service}
use Rattle.connection_laws.specs.Turns.{Grows, AreMine}

-- what is told is this answer
abbrev pub IsTold : NamedPolicy → LineAnswer → Answer → Type 0
IsTold np Silence answer = answer ≡ silence
IsTold np Agreed answer = answer ≡ agreed
IsTold np (Bad f) answer = answer ≡ bad f
IsTold np (ToldReply text) answer =
    IsReply answer × (text.items ≡ answer_text np answer)
IsTold np NoMemory answer = answer ≡ no_memory
IsTold np NoSteps answer = answer ≡ no_steps
IsTold np ViewOnly answer = answer ≡ view_only
IsTold np (ToldWorn draws) answer = answer ≡ worn

-- the counts after an answer
abbrev pub counted_talk : Talk → Answer → Talk
counted_talk talk answer =
    record talk {
      asked = talk.asked + one_where (is_replied answer);
      denied = talk.denied + one_where (is_denied answer);
    }

abbrev pub CanCount : Talk → Type 0
CanCount talk = (talk.asked + 1 < 2 ^ 63) × (talk.denied + 1 < 2 ^ 63)

-- the counts have room for so many more lines
abbrev pub HasRoom : Talk → ℕ → Type 0
HasRoom talk n = (talk.asked + n < 2 ^ 63) × (talk.denied + n < 2 ^ 63) × (talk.calls + n < 2 ^ 64)

abbrev pub CountsUp : Talk → Talk → ℕ → Type 0
CountsUp talk talk' n =
    (talk'.asked ≤ talk.asked + n) × (talk'.denied ≤ talk.denied + n)
    × (talk'.calls ≤ talk.calls + n)

-- the bytes of what a line is told
abbrev pub told_bytes : LineAnswer → List ℕ
told_bytes Silence = []
told_bytes Agreed = codes "ok\n"
told_bytes (Bad f) = codes "bad " ++ fault_word f ++ codes "\n"
told_bytes (ToldReply text) = text.items
told_bytes NoMemory = codes "no memory\n"
told_bytes NoSteps = codes "no steps\n"
told_bytes ViewOnly = codes "view only\n"
told_bytes (ToldWorn draws) = []

module _ {M : Type 0} (v : Service) (who : Who) where
  -- what the desk gives to a request line
  pub record Decides (reading : ℕ) (actor : Actor) (request : Request) (before after : Holder M)
      (told : LineAnswer) : Type 0 where
    pub answer : Answer
    pub entries : List Entry
    pub told_is : IsTold v.policy told answer
    pub asks : (birth : ℕ) → IsTimed birth v.legal v.now
        → Asks birth who after.seen actor request answer (placed who v.first before.own)
        (reading ∷ []) entries
    pub mine : AreMine who entries
    pub grows : Grows before after entries 2
    pub worn_out : (n : ℕ) → told ≡ ToldWorn n → (n ≡ 2 ^ 40) × (after.draws ≡ 2 ^ 40)
