use Rattle.std.proofs.Common.{inl, inr, refl, ◌∙◌, subst}
use Rattle.std.proofs.KnownBytes.{Keeps-refl}
use Rattle.gt_text.specs.Lines.{lines_of}
use Rattle.policy_commands.specs.Admitting.{IsAdmitted}
use Rattle.policy_commands.specs.Ends.{seen_end}
use Rattle.gtrbac_tool.specs.Counted.{seen_recipe}
use Rattle.gtrbac_tool.specs.Script.{start_of}
use Rattle.gtrbac_tool.specs.Summary.{SummedFrom, GenEnds}
use Rattle.gtrbac_tool.proofs.Tallying.{gen_safe, gen_ended}
use Rattle.gtrbac_tool.proofs.Writing.{tells_so}
use Rattle.gtrbac_tool.proofs.summing.generate.Goals as goal

pub returns-in-Ok-Safe : goal.returns-in-Ok-Safe
returns-in-Ok-Safe g c =
    let safe = c.in-Ok-Safe.safe in
    let policy = c.as_slice.result.now in
    let script = c.as_slice-in-Ok-Safe.result.now in
    tells_so c.play_and_sum.result (g.K.Sink.output c.args.out.now) (g.K.Sink.output c.play_and_sum.new.out) ⊥ ⊥ (SummedFrom safe (seen_recipe c.args.recipe) (start_of safe 1 (lines_of script))) (GenEnds (seen_recipe c.args.recipe)) (λ p. p)
    (gen_safe (seen_recipe c.args.recipe) safe policy script (subst (IsAdmitted policy) c.in-Ok-Safe.field-0-is c.in-Ok-Safe.ensures) (c.as_slice.ensures ∙ c.in-Ok.ensures.policy) (c.as_slice-in-Ok-Safe.ensures ∙ c.in-Ok.ensures.script))
    c.play_and_sum.ensures

pub returns-in-Ok-Ended : goal.returns-in-Ok-Ended
returns-in-Ok-Ended g c =
    let policy = c.as_slice.result.now in
    inr (
      seen_end c.in-Ok-Ended.end,
      gen_ended (seen_recipe c.args.recipe) policy c.in-Ok-Ended.end (subst (IsAdmitted policy) c.in-Ok-Ended.field-0-is c.in-Ok-Ended.ensures) (c.as_slice.ensures ∙ c.in-Ok.ensures.policy),
      inl c.show.ensures,
    )

pub returns : goal.returns
returns g c = inl (refl, Keeps-refl (g.K.Sink.output c.args.out.now).written, refl)

pub returns-in_default : goal.returns-in_default
returns-in_default g c = inl (refl, Keeps-refl (g.K.Sink.output c.args.out.now).written, refl)
