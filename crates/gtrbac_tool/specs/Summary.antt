-- The summary of a made policy and script.
use Rattle.std.specs.Prelude.{◌≡◌, ◌<◌, ◌≤◌, ◌^◌, ℕ, Bool, false, List, [], ◌∷◌, ◌++◌, length, take, codes, decimal, bytes_eq, nat_eq, Result, Ok, Err, if◌then◌else◌}
use Rattle.std.specs.List.{count_by}
use Rattle.gt_base.specs.declared.requests.Entry.{Entry}
use Rattle.gt_base.specs.declared.requests.Step.{Step}
use Rattle.gt_base.specs.declared.requests.Step.TheVariants.{Tick, Ask}
use Rattle.gtrbac_model.specs.History.{now_of}
use Rattle.gt_text.specs.Lines.{lines_of}
use Rattle.civil_time.specs.Text.{civil_text}
use Rattle.policy_words.specs.Naming.{NamedPolicy}
use Rattle.policy_commands.specs.Ends.{EndView, ending}
use Rattle.policy_commands.specs.Policies.{safe_in}
use Rattle.policy_gen.specs.declared.made.TheConstants.{MAX_SIZE}
use Rattle.policy_gen.specs.Texts.{policy_text, script_text}
use Rattle.request_text.specs.Replies.{reply_text}
use Rattle.gtrbac_tool.specs.Script.{ScriptStart, never, born, failed, start_of, RunOver}

-- what `gen` is asked: a seed and a size
pub record Gen : Type 0 where
  pub seed : ℕ
  pub size : ℕ

-- the words are `gen` with these numbers in decimal digits
pub record IsGen (words : List (List ℕ)) (g : Gen) : Type 0 where
  pub words_are : words ≡ codes "gen" ∷ decimal g.seed ∷ decimal g.size ∷ []
  pub seed : g.seed < 2 ^ 64
  pub low : 1 ≤ g.size
  pub high : g.size ≤ MAX_SIZE

abbrev pub IsNoGen : List (List ℕ) → Type 0
IsNoGen words = (g : Gen) → IsGen words g → ⊥

abbrev pub has_front : List ℕ → List ℕ → Bool
has_front word text = bytes_eq (take (length word) text) word

abbrev pub gen_line : Gen → List ℕ
gen_line g = codes "gen " ++ decimal g.seed ++ codes " " ++ decimal g.size ++ codes "\n"

abbrev pub steps_line : List Entry → List ℕ
steps_line h = codes "steps " ++ decimal (length h) ++ codes "\n"

abbrev pub end_line : ℕ → List Entry → List ℕ
end_line birth h = codes "end " ++ civil_text (now_of birth h) ++ codes "\n"

module _ (np : NamedPolicy) where
  -- a request with a reply that begins with the word
  abbrev pub is_answered : List ℕ → Step → Bool
  is_answered word (Tick upto to) = false
  is_answered word (Ask actor request reply) = has_front word (reply_text np reply)

  -- a word, and how many requests were answered so
  abbrev pub count_line : List ℕ → List Entry → List ℕ
  count_line word h =
      word ++ codes " " ++ decimal (count_by (λ e. is_answered word e.what) h) ++ codes "\n"

  -- seed and size, the length of the history, its replies by their first word, and the instant now
  abbrev pub summary : Gen → ℕ → List Entry → List ℕ
  summary g birth h =
      gen_line g ++ steps_line h ++ count_line (codes "ok") h ++ count_line (codes "permit") h
      ++ count_line (codes "deny") h ++ count_line (codes "refused") h
      ++ end_line birth h

  -- the summary in place of the replies where the script was played to its end, and else the run's
  -- own end
  abbrev pub summed : Gen → ℕ → List Entry → EndView → EndView
  summed g birth h ran = if nat_eq ran.status 0 then ending 0 (summary g birth h) else ran

-- the run of the made script over the made policy, summed up
pub record Summed (np : NamedPolicy) (g : Gen) (birth n : ℕ) (lines : List (List ℕ)) (end : EndView)
    : Type 0 where
  pub history : List Entry
  pub ran : EndView
  pub run : RunOver np birth n lines history ran
  pub end_is : end ≡ summed np g birth history ran

abbrev pub SummedFrom : NamedPolicy → Gen → ScriptStart → EndView → Type 0
SummedFrom np g never end = end ≡ ending 0 []
SummedFrom np g (born birth n lines) end = Summed np g birth n lines end
SummedFrom np g (failed t) end = end ≡ t

abbrev pub SummedOver : Gen → Result NamedPolicy EndView → EndView → Type 0
SummedOver g (Err t) end = end ≡ t
SummedOver g (Ok np) end =
    SummedFrom np g (start_of np 1 (lines_of (script_text g.seed g.size))) end

-- what `gen` ends with: its policy and its script are within the limits, and are read, judged and
-- played as by `run`
abbrev pub GenEnds : Gen → EndView → Type 0
GenEnds g end = SummedOver g (safe_in (policy_text g.size)) end
