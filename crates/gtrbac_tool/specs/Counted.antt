-- Replies by the word that they begin with, as they are counted.
use Rattle.std.specs.Prelude.{ℕ, ◌++◌, Bool, true, false, not, List, codes, decimal}
use Rattle.std.specs.List.{count_by}
use Rattle.gt_base.specs.declared.requests.Entry.{Entry}
use Rattle.gt_base.specs.declared.requests.Decision.{Decision}
use Rattle.gt_base.specs.declared.requests.Decision.TheVariants.{Permit}
use Rattle.gt_base.specs.declared.requests.Reply.{Reply}
use Rattle.gt_base.specs.declared.requests.Reply.TheVariants.{Done, Active, Decided, Refused}
use Rattle.gt_base.specs.declared.requests.Step.{Step}
use Rattle.gt_base.specs.declared.requests.Step.TheVariants.{Tick, Ask}
use Rattle.gtrbac_tool.specs.declared.summing.ReplyWord.{ReplyWord}
use Rattle.gtrbac_tool.specs.declared.summing.ReplyWord.TheVariants as words
use Rattle.gtrbac_tool.specs.declared.summing.Recipe.{Recipe}
use Rattle.gtrbac_tool.specs.Summary.{Gen, gen_line, steps_line, end_line}

abbrev pub seen_recipe : Recipe → Gen
seen_recipe r = record { seed = r.seed; size = r.size }

abbrev pub word_text : ReplyWord → List ℕ
word_text words.Ok = codes "ok"
word_text words.Permit = codes "permit"
word_text words.Deny = codes "deny"
word_text words.Refused = codes "refused"

abbrev pub is_ok : Reply → Bool
is_ok Done = true
is_ok (Active w) = true
is_ok _ = false

abbrev pub permits : Decision → Bool
permits (Permit w) = true
permits _ = false

abbrev pub is_permit : Reply → Bool
is_permit (Decided d) = permits d
is_permit _ = false

abbrev pub is_deny : Reply → Bool
is_deny (Decided d) = not (permits d)
is_deny _ = false

abbrev pub is_refused : Reply → Bool
is_refused (Refused r) = true
is_refused _ = false

abbrev pub replies : ReplyWord → Reply → Bool
replies words.Ok r = is_ok r
replies words.Permit r = is_permit r
replies words.Deny r = is_deny r
replies words.Refused r = is_refused r

abbrev pub counts : ReplyWord → Step → Bool
counts w (Tick upto to) = false
counts w (Ask actor request reply) = replies w reply

abbrev pub tally_line : ReplyWord → List Entry → List ℕ
tally_line w h =
    word_text w ++ codes " " ++ decimal (count_by (λ e. counts w e.what) h) ++ codes "\n"

abbrev pub tally : Gen → ℕ → List Entry → List ℕ
tally g birth h =
    gen_line g ++ steps_line h ++ tally_line words.Ok h ++ tally_line words.Permit h
    ++ tally_line words.Deny h ++ tally_line words.Refused h ++ end_line birth h
