-- What holds of the lines of scripts and of connections, and of the texts of replies.
use Rattle.std.specs.Prelude.{◌≡◌, ◌↔◌, ℕ, ◌<◌, ◌≤◌, Bool, List, length, Some, Result, Ok, Err, IsTrue}
use Rattle.gt_base.specs.declared.requests.Actor.{Actor}
use Rattle.gt_base.specs.declared.requests.Actor.TheVariants.{Operator}
use Rattle.gt_base.specs.declared.requests.Request.{Request}
use Rattle.gt_base.specs.declared.requests.Reply.{Reply}
use Rattle.gt_base.specs.declared.requests.Entry.{Entry}
use Rattle.gt_base.specs.declared.limits.TheConstants.{LONGEST_LINE}
use Rattle.gtrbac_model.specs.History.{IsNamedWish, ask}
use Rattle.gtrbac_model.specs.Policy.{Policy}
use Rattle.gtrbac_model.specs.Reply.{Point, reply_of}
use Rattle.history_laws.specs.Named.{IsNamedPoint}
use Rattle.policy_words.specs.Naming.{NamedPolicy}
use Rattle.policy_words.specs.Valid.{IsWellFormed}
use Rattle.request_text.specs.declared.lines.Line.{Line}
use Rattle.request_text.specs.declared.lines.Line.TheVariants.{Ask}
use Rattle.request_text.specs.declared.lines.LineFault.{LineFault}
use Rattle.request_text.specs.declared.lines.LineFault.TheVariants.{Long}
use Rattle.request_text.specs.declared.phrases.Phrase.{Phrase}
use Rattle.request_text.specs.Phrases.{phrase_in, read_line}
use Rattle.request_text.specs.Spelling.{IsPhrase, IsRead}
use Rattle.request_text.specs.Replies.{request_text, reply_text, reply_line, log_text}
use Rattle.request_text.specs.Sizes.{IsBrief}
use Rattle.request_text.specs.Named.{has_reply}
use Rattle.request_text.specs.Kinds.{IsAnswer, IsSoundReply, IsTellable}
use Rattle.request_text.specs.Tellable.{IsToldHistory}
use Rattle.request_text.specs.declared.sizes.TheConstants.{LONGEST_REPLY}

-- a phrase is read exactly from the words that spell it
abbrev pub PhrasesAreSpelled : Type 0
PhrasesAreSpelled =
    (script : Bool) (words : List (List ℕ)) (phrase : Phrase)
    → (phrase_in script words ≡ Some phrase) ↔ IsPhrase script words phrase

-- reading a line by its words is what the spellings of phrases say of it
abbrev pub LinesAreRead : Type 0
LinesAreRead =
    (np : NamedPolicy) (opening : Actor) (script : Bool) (line : List ℕ) (r : Result Line LineFault)
    → (read_line np opening script line ≡ r) ↔ IsRead np opening script line r

-- a line that is too long has just that fault, also where its words are silent
abbrev pub LongIsTold : Type 0
LongIsTold =
    (np : NamedPolicy) (opening : Actor) (script : Bool) (line : List ℕ)
    → LONGEST_LINE < length line → read_line np opening script line ≡ Err Long

-- a request is read from the line that it writes, whoever opens, and the line is short enough; so
-- the line tells the request
pub record RequestsAreTold : Type 0 where
  pub read : (np : NamedPolicy) → IsWellFormed np → (opening : Actor) (script : Bool) (r : Request)
      → IsNamedWish np.policy (ask Operator r)
      → read_line np opening script (request_text np r) ≡ Ok (Ask r)
  pub told : (np : NamedPolicy) → IsWellFormed np → (r q : Request)
      → IsNamedWish np.policy (ask Operator r) → IsNamedWish np.policy (ask Operator q)
      → request_text np r ≡ request_text np q → r ≡ q

-- what a request is answered, wherever it is asked, is of its kind
abbrev pub RepliesAnswer : Type 0
RepliesAnswer =
    (p : Policy) (pt : Point) (actor : Actor) (q : Request) → IsAnswer q (reply_of p pt actor q)

-- a reply whose numbers are the policy's, and whose walk leads along and has at most 999 edges
pub record CanBeWritten (np : NamedPolicy) (r : Reply) : Type 0 where
  pub named : IsTrue (has_reply np.policy r)
  pub sound : IsSoundReply np.policy r
  pub brief : IsBrief r

-- so is each that is answered from a named point
abbrev pub RepliesCanBeWritten : Type 0
RepliesCanBeWritten =
    (np : NamedPolicy) → IsWellFormed np → (pt : Point) → IsNamedPoint np.policy pt
    → (actor : Actor) (q : Request) → CanBeWritten np (reply_of np.policy pt actor q)

-- a walk that leads along over the edges of a policy has at most 999 of them, so such a reply has
-- at most 33,010 bytes
abbrev pub WalksAreBrief : Type 0
WalksAreBrief =
    (np : NamedPolicy) → IsWellFormed np → (r : Reply) → IsTellable np.policy r
    → IsBrief r × (length (reply_line np r) ≤ LONGEST_REPLY)

-- a reply's text tells the reply, where it is of its request's kind
abbrev pub RepliesAreTold : Type 0
RepliesAreTold =
    (np : NamedPolicy) → IsWellFormed np → (q : Request) (a b : Reply) → IsAnswer q a → IsAnswer q b
    → IsTellable np.policy a → IsTellable np.policy b → reply_text np a ≡ reply_text np b → a ≡ b

-- the log of a legal history of named moves without the operator tells its birth and its entries
abbrev pub LogsAreTold : Type 0
LogsAreTold =
    (np : NamedPolicy) → IsWellFormed np → (birth dawn : ℕ) (h g : List Entry)
    → IsToldHistory np.policy birth h → IsToldHistory np.policy dawn g
    → log_text np birth h ≡ log_text np dawn g → (birth ≡ dawn) × (h ≡ g)
