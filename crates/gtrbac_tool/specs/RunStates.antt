-- How a line moves a run over a book, or stops it.
use Rattle.std.specs.Prelude.{◌≡◌, ℕ, Bool, true, false, List, Result}
use Rattle.gt_base.specs.declared.requests.Actor.{Actor}
use Rattle.gt_base.specs.declared.requests.Request.TheVariants as requests
use Rattle.gtrbac_model.specs.History.{IsNamedWish, ask}
use Rattle.policy_words.specs.Naming.{NamedPolicy}
use Rattle.core_machine.specs.Books.{BookView}
use Rattle.policy_commands.specs.Ends.{EndView}
use Rattle.request_text.specs.declared.lines.Line.{Line}
use Rattle.request_text.specs.declared.lines.LineFault.{LineFault}
use Rattle.request_text.specs.Replies.{fault_word}
use Rattle.gtrbac_tool.specs.declared.script.Played.{Played}
use Rattle.gtrbac_tool.specs.declared.script.Played.TheVariants.{On, Full, Bad}
use Rattle.gtrbac_tool.specs.EndTexts.{behind, script_fault, steps_full}
use Rattle.gtrbac_tool.specs.Script.{RunState, Moves, Stops, RunOver}

-- where a run over a book stands
abbrev pub run_state_of : BookView → Actor → List ℕ → RunState
run_state_of b actor text = record { actor = actor; history = b.entries; text = text }

-- the actor is one that the policy has
abbrev pub IsActorOf : BookView → Actor → Type 0
IsActorOf b actor = IsNamedWish b.named.policy (ask actor requests.Now)

abbrev pub played_as : Bool → Played
played_as true = On
played_as false = Full

-- the line moves the run, or stops it behind the text so far
abbrev pub PlaysAs : NamedPolicy → ℕ → Result Line LineFault → Played → RunState → RunState → Type 0
PlaysAs np birth line On s t = Moves np birth line s t
PlaysAs np birth line Full s t =
    (t.text ≡ s.text) × ((n : ℕ) → Stops np birth line n s t.history (behind s.text (steps_full n)))
PlaysAs np birth line (Bad f) s t =
    (t.text ≡ s.text)
    × ((n : ℕ)
    → Stops np birth line n s t.history (behind s.text (script_fault n (fault_word f))))

-- what a run from its birth left: a book of its policy and its birth, over whose entries it ended
-- so
pub record IsOutcome (np : NamedPolicy) (birth n : ℕ) (lines : List (List ℕ)) (b : BookView)
    (end : EndView) : Type 0 where
  pub of_policy : b.named ≡ np
  pub of_birth : b.birth ≡ birth
  pub run : RunOver np birth n lines b.entries end
