use Rattle.std.proofs.Common.{◌≡◌, ◌≤◌, ℕ, List, None, length, inl, inr, refl, ap, subst, arith}
use Rattle.std.specs.Prelude.{⊤, Err, codes}
use Rattle.std.proofs.KnownBytes.{Keeps-refl}
use Rattle.gt_io.specs.Causes.{FaultCause}
use Rattle.gt_io.specs.declared.source.ReadFault.{ReadFault}
use Rattle.policy_commands.specs.Finding.{read_fault, too_long}
use Rattle.gtrbac_tool.specs.Ends.{PlaysTo, ScriptEnds}
use Rattle.gtrbac_tool.specs.Reading.{Reads}
use Rattle.gtrbac_tool.specs.Writing.{PrintsEnd}
use Rattle.gtrbac_tool.specs.declared.top.TheConstants.{MAX_SCRIPT}
use Rattle.gtrbac_tool.proofs.Reading.{no_run}
use Rattle.gtrbac_tool.proofs.Writing.{tells_so}
use Rattle.gtrbac_tool.proofs.top.run_script.Goals as goal

pub returns-in-Ok : goal.returns-in-Ok
returns-in-Ok g c =
    let np = c.args.safe in
    let asked = c.args.asked in
    let script = c.in-Ok.script.items in
    let a = g.K.Sink.output c.args.out.now in
    let b = g.K.Sink.output c.play.new.out in
    let short : length script ≤ MAX_SCRIPT = omega (arith, c.in-Ok.ensures.within, c.in-Ok.script.ok.0) in
    record {
      tells =
          tells_so c.play.result a b (asked ≡ None) (asked ≡ None) (PlaysTo np asked script) (Reads ⊤ (λ failed. ScriptEnds failed np asked) (g.I.Source.intake c.args.input.now) (g.I.Source.intake c.read_all.new.source)) (λ p. p)
          (λ end ends. (inr (inr (script, c.in-Ok.ensures.whole, short, ends)), inr c.in-Ok.ensures.cause, λ _ _. c.in-Ok.ensures.end))
          (subst (λ (t : List ℕ). PrintsEnd (asked ≡ None) (PlaysTo np asked t) c.play.result a b) c.deref.ensures.value c.play.ensures);
      once = c.read_all.ensures.once;
      short = c.read_all.ensures.front;
      untouched = inr tt;
    }

pub returns-in-Err-Memory : goal.returns-in-Err-Memory
returns-in-Err-Memory g c = record { tells = inl (refl, Keeps-refl (g.K.Sink.output c.args.out.now).written, refl); once = c.read_all.ensures.once; short = c.read_all.ensures.front; untouched = inr tt }

pub returns-in-Err-Failed : goal.returns-in-Err-Failed
returns-in-Err-Failed g c =
    let rose = subst (λ (f : ReadFault). FaultCause (g.I.Source.intake c.args.input.now).faults (g.I.Source.intake c.read_all.new.source).faults f) c.in-Err-Failed.field-0-is c.in-Err-Failed.ensures.cause in
    record {
      tells = inr (read_fault, (inl (refl, rose), inl refl, λ _ ran. absurd (no_run 4 4 refl refl ran)), inl c.print.ensures);
      once = c.read_all.ensures.once;
      short = c.read_all.ensures.front;
      untouched = inr tt;
    }

pub returns : goal.returns
returns g c =
    let kept = subst (λ (f : ReadFault). FaultCause (g.I.Source.intake c.args.input.now).faults (g.I.Source.intake c.read_all.new.source).faults f) c.in-Err-TooLong.field-0-is c.in-Err-TooLong.ensures.cause in
    record {
      tells =
          inr (too_long (codes "script"), (inr (inl (refl, c.in-Err-TooLong.ensures.long (ap (λ (f : ReadFault). Err f) c.in-Err-TooLong.field-0-is))), inr kept, λ _ ran. absurd (no_run 6 6 refl refl ran)), inl c.print-in-Err-TooLong.ensures);
      once = c.read_all.ensures.once;
      short = c.read_all.ensures.front;
      untouched = inr tt;
    }
