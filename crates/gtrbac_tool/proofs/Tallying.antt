-- The counted replies by their texts, and how `gen` ends.
use Rattle.std.proofs.Common.{◌≡◌, ℕ, List, ◌++◌, true, false, refl, sym, ap, ◌∙◌, subst, if◌then◌else◌}
use Rattle.std.specs.Prelude.{Bool, nat_eq, codes, decimal, Result, Ok as Fine, Err}
use Rattle.std.specs.List.{count_by}
use Rattle.std.proofs.lemmas.Bool.{ne_eqb}
use Rattle.gt_base.specs.declared.requests.Decision.TheVariants.{Permit as Permits, NoActive, NoGrant, Shut}
use Rattle.gt_base.specs.declared.requests.Seen.TheVariants.{Unblocked, Blocked, Absent}
use Rattle.gt_base.specs.declared.requests.Reply.{Reply}
use Rattle.gt_base.specs.declared.requests.Reply.TheVariants.{Now, Truth, Event, Queued, Session, Done, Active, Decided, Refused as IsRefused}
use Rattle.gt_base.specs.declared.requests.Step.{Step}
use Rattle.gt_base.specs.declared.requests.Step.TheVariants.{Tick, Ask}
use Rattle.gt_base.specs.declared.requests.Entry.{Entry}
use Rattle.policy_words.specs.Naming.{NamedPolicy}
use Rattle.policy_commands.specs.declared.ends.End.{End}
use Rattle.policy_commands.specs.Ends.{EndView, ending, seen_end}
use Rattle.request_text.specs.Replies.{reply_text}
use Rattle.gtrbac_tool.specs.declared.summing.ReplyWord.{ReplyWord}
use Rattle.gtrbac_tool.specs.declared.summing.ReplyWord.TheVariants.{Ok, Permit, Deny, Refused}
use Rattle.gtrbac_tool.specs.Script.{start_of}
use Rattle.gtrbac_tool.specs.Summary.{Gen, has_front, is_answered, count_line, summary, summed, SummedFrom, SummedOver, GenEnds, gen_line, steps_line, end_line}
use Rattle.gtrbac_tool.specs.Counted.{word_text, replies, counts, tally_line, tally}
use Rattle.gt_text.specs.Lines.{lines_of}
use Rattle.policy_commands.specs.Policies.{safe_in}
use Rattle.policy_commands.specs.Admitting.{IsEnded}
use Rattle.policy_gen.specs.Texts.{policy_text, script_text}

replies_begin : (np : NamedPolicy) (w : ReplyWord) (r : Reply) → replies w r ≡ has_front (word_text w) (reply_text np r)
replies_begin np Ok (Now t) = refl
replies_begin np Ok (Truth true) = refl
replies_begin np Ok (Truth false) = refl
replies_begin np Ok (Event (Unblocked p)) = refl
replies_begin np Ok (Event (Blocked p)) = refl
replies_begin np Ok (Event Absent) = refl
replies_begin np Ok (Queued t) = refl
replies_begin np Ok (Session s) = refl
replies_begin np Ok Done = refl
replies_begin np Ok (Active w) = refl
replies_begin np Ok (Decided (Permits w)) = refl
replies_begin np Ok (Decided NoActive) = refl
replies_begin np Ok (Decided NoGrant) = refl
replies_begin np Ok (Decided (Shut n)) = refl
replies_begin np Ok (IsRefused f) = refl
replies_begin np Permit (Now t) = refl
replies_begin np Permit (Truth true) = refl
replies_begin np Permit (Truth false) = refl
replies_begin np Permit (Event (Unblocked p)) = refl
replies_begin np Permit (Event (Blocked p)) = refl
replies_begin np Permit (Event Absent) = refl
replies_begin np Permit (Queued t) = refl
replies_begin np Permit (Session s) = refl
replies_begin np Permit Done = refl
replies_begin np Permit (Active v) = refl
replies_begin np Permit (Decided (Permits v)) = refl
replies_begin np Permit (Decided NoActive) = refl
replies_begin np Permit (Decided NoGrant) = refl
replies_begin np Permit (Decided (Shut n)) = refl
replies_begin np Permit (IsRefused f) = refl
replies_begin np Deny (Now t) = refl
replies_begin np Deny (Truth true) = refl
replies_begin np Deny (Truth false) = refl
replies_begin np Deny (Event (Unblocked p)) = refl
replies_begin np Deny (Event (Blocked p)) = refl
replies_begin np Deny (Event Absent) = refl
replies_begin np Deny (Queued t) = refl
replies_begin np Deny (Session s) = refl
replies_begin np Deny Done = refl
replies_begin np Deny (Active v) = refl
replies_begin np Deny (Decided (Permits v)) = refl
replies_begin np Deny (Decided NoActive) = refl
replies_begin np Deny (Decided NoGrant) = refl
replies_begin np Deny (Decided (Shut n)) = refl
replies_begin np Deny (IsRefused f) = refl
replies_begin np Refused (Now t) = refl
replies_begin np Refused (Truth true) = refl
replies_begin np Refused (Truth false) = refl
replies_begin np Refused (Event (Unblocked p)) = refl
replies_begin np Refused (Event (Blocked p)) = refl
replies_begin np Refused (Event Absent) = refl
replies_begin np Refused (Queued t) = refl
replies_begin np Refused (Session s) = refl
replies_begin np Refused Done = refl
replies_begin np Refused (Active v) = refl
replies_begin np Refused (Decided (Permits v)) = refl
replies_begin np Refused (Decided NoActive) = refl
replies_begin np Refused (Decided NoGrant) = refl
replies_begin np Refused (Decided (Shut n)) = refl
replies_begin np Refused (IsRefused f) = refl

counts_begin : (np : NamedPolicy) (w : ReplyWord) (s : Step) → counts w s ≡ is_answered np (word_text w) s
counts_begin np w (Tick upto to) = refl
counts_begin np w (Ask actor request reply) = replies_begin np w reply

line_is : (np : NamedPolicy) (w : ReplyWord) (h : List Entry) → tally_line w h ≡ count_line np (word_text w) h
line_is np w h = λ i. word_text w ++ codes " " ++ decimal (count_by (λ (e : Entry). counts_begin np w e.what i) h) ++ codes "\n"

tally_is : (np : NamedPolicy) (g : Gen) (birth : ℕ) (h : List Entry) → tally g birth h ≡ summary np g birth h
tally_is np g birth h = λ i. gen_line g ++ steps_line h ++ line_is np Ok h i ++ line_is np Permit h i ++ line_is np Deny h i ++ line_is np Refused h i ++ end_line birth h

-- the run's own end
pub sums_otherwise : (np : NamedPolicy) (g : Gen) (birth : ℕ) (h : List Entry) (ran : EndView) → nat_eq ran.status 0 ≡ false → ran ≡ summed np g birth h ran
sums_otherwise np g birth h ran off = sym (ap (λ (b : Bool). if b then ending 0 (summary np g birth h) else ran) off)

-- the summary in its place
pub sums : (np : NamedPolicy) (g : Gen) (birth : ℕ) (h : List Entry) (ran : EndView) (text : List ℕ) → nat_eq ran.status 0 ≡ true → text ≡ tally g birth h → ending 0 text ≡ summed np g birth h ran
sums np g birth h ran text on is =
    ap (λ (t : List ℕ). ending 0 t) (is ∙ tally_is np g birth h) ∙ sym (ap (λ (b : Bool). if b then ending 0 (summary np g birth h) else ran) on)

pub other_status : (s : ℕ) → (s ≡ 0 → ⊥) → nat_eq s 0 ≡ false
other_status s h = ne_eqb s 0 h

pub zero_status : (s : ℕ) → s ≡ 0 → nat_eq s 0 ≡ true
zero_status s h = ap (λ (x : ℕ). nat_eq x 0) h

-- what `gen` makes

pub gen_safe : (g : Gen) (np : NamedPolicy) (policy script : List ℕ) → safe_in policy ≡ Fine np → policy ≡ policy_text g.size → script ≡ script_text g.seed g.size
    → (end : EndView) → SummedFrom np g (start_of np 1 (lines_of script)) end → GenEnds g end
gen_safe g np policy script safe p s end h =
    let admitted : safe_in (policy_text g.size) ≡ Fine np = ap safe_in (sym p) ∙ safe in
    subst (λ (o : Result NamedPolicy EndView). SummedOver g o end) (sym admitted) (subst (λ (t : List ℕ). SummedFrom np g (start_of np 1 (lines_of t)) end) s h)

pub gen_ended : (g : Gen) (policy : List ℕ) (end : End) → IsEnded policy end → policy ≡ policy_text g.size → GenEnds g (seen_end end)
gen_ended g policy end is p =
    let refused : safe_in (policy_text g.size) ≡ Err (seen_end end) = ap safe_in (sym p) ∙ is.told in
    subst (λ (o : Result NamedPolicy EndView). SummedOver g o (seen_end end)) (sym refused) refl
