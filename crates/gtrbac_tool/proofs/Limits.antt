-- A script within its limit, and how it ends.
use Rattle.std.proofs.Common.{◌≡◌, ℕ, ◌≤◌, Bool, true, false, List, length, Some, None, refl, sym, subst, arith}
use Rattle.std.specs.Prelude.{Option}
use Rattle.std.proofs.lemmas.Bool.{ltb-true}
use Rattle.gt_text.specs.Lines.{lines_of, is_longer}
use Rattle.policy_words.specs.Naming.{NamedPolicy}
use Rattle.policy_commands.specs.Ends.{EndView}
use Rattle.gtrbac_tool.specs.declared.ahead.Inquiry.{Inquiry}
use Rattle.gtrbac_tool.specs.Late.{AnswersFrom, AnswersIf}
use Rattle.gtrbac_tool.specs.Script.{start_of, EndsFrom, EndsIf}
use Rattle.gtrbac_tool.specs.Ends.{PlaysTo}
use Rattle.gtrbac_tool.proofs.Asking.{ran_of}
use Rattle.gtrbac_tool.specs.declared.top.TheConstants.{MAX_SCRIPT}

module _ (np : NamedPolicy) (script : List ℕ) (short : length script ≤ MAX_SCRIPT) where
  not_longer_so : (b : Bool) → is_longer MAX_SCRIPT script ≡ b → b ≡ false
  not_longer_so false e = refl
  not_longer_so true e = absurd (omega (arith, short, ltb-true MAX_SCRIPT (length script) e))

  not_longer : is_longer MAX_SCRIPT script ≡ false
  not_longer = not_longer_so (is_longer MAX_SCRIPT script) refl

  -- an end from its start is an end of the script

  pub plain : (end : EndView) → EndsFrom np (start_of np 1 (lines_of script)) end → PlaysTo np None script end
  plain end is = subst (λ (b : Bool). EndsIf b np script end) (sym not_longer) is

  pub answering : (asked : Inquiry) (end : EndView) → AnswersFrom np asked (start_of np 1 (lines_of script)) end → PlaysTo np (Some asked) script end
  answering asked end is = subst (λ (b : Bool). AnswersIf b np asked script end) (sym not_longer) is

  -- and the other way, with the end of the replies alone

  from_start : (b : Bool) (end : EndView) → b ≡ false → EndsIf b np script end → EndsFrom np (start_of np 1 (lines_of script)) end
  from_start true end e is = absurd (cc (e))
  from_start false end e is = is

  answers_from : (b : Bool) (asked : Inquiry) (end : EndView) → b ≡ false → AnswersIf b np asked script end → AnswersFrom np asked (start_of np 1 (lines_of script)) end
  answers_from true asked end e is = absurd (cc (e))
  answers_from false asked end e is = is

  pub ran_to : (asked : Option Inquiry) (end : EndView) → PlaysTo np asked script end
      → (ran : EndView) × EndsFrom np (start_of np 1 (lines_of script)) ran × (end.status ≡ ran.status)
  ran_to None end is = (end, from_start (is_longer MAX_SCRIPT script) end not_longer is, refl)
  ran_to (Some asked) end is = ran_of np asked (start_of np 1 (lines_of script)) end (answers_from (is_longer MAX_SCRIPT script) asked end not_longer is)
