use Rattle.std.proofs.Common.{◌∙◌, ◌∷◌, [], ℕ, false, replicate, sym, ap, subst, arith, Err}
use Rattle.std.proofs.lemmas.List.{length-replicate}
use Rattle.gt_io.specs.Frames.{Frame}
use Rattle.gt_base.specs.declared.requests.Actor.TheVariants.{Nobody}
use Rattle.request_text.specs.Phrases.{read_line}
use Rattle.request_text.specs.declared.lines.LineFault.TheVariants.{Long}
use Rattle.request_text.proofs.ReadBySpelling.{long_read}
use Rattle.connection_laws.specs.Cuts.{open_line}
use Rattle.connection_laws.specs.Attending.{AreRead}
use Rattle.connection_laws.proofs.Framing.{more_is, whole_is, long_is, reads_byte, reads_feed}
use Rattle.connection_laws.proofs.ahead.read_byte.Goals as goal

pub returns-in-More-clause-read : goal.returns-in-More-clause-read
returns-in-More-clause-read c = λ text fits.
    subst (λ (x : Frame). AreRead c.args.policy.now text (c.args.byte ∷ []) x []) (sym c.push.ensures.frame) (reads_byte c.args.policy.now text c.args.byte c.args.framer.now fits (more_is c.args.framer.now c.args.byte (sym c.push.ensures.answer ∙ c.in-More.is)))

pub returns-in-Whole-clause-read : goal.returns-in-Whole-clause-read
returns-in-Whole-clause-read c = λ text fits.
    let np = c.args.policy.now in
    let w = whole_is c.args.framer.now text c.args.byte fits (sym c.push.ensures.answer ∙ c.in-Whole.is) in
    let line_is = c.line.ensures ∙ ap (λ (x : Frame). x.bytes) c.push.ensures.frame ∙ w.1 in
    subst (λ (x : Frame). AreRead np text (c.args.byte ∷ []) x (c.read_line.result ∷ [])) (sym c.push.ensures.frame) (reads_feed np text c.args.byte c.args.framer.now c.read_line.result w.0 (sym (c.read_line.ensures.value ∙ ap (read_line np Nobody false) line_is)))

pub returns-in-Long-clause-read : goal.returns-in-Long-clause-read
returns-in-Long-clause-read c = λ text fits.
    let np = c.args.policy.now in
    let w = long_is c.args.framer.now text c.args.byte fits (sym c.push.ensures.answer ∙ c.in-Long.is) in
    subst (λ (x : Frame). AreRead np text (c.args.byte ∷ []) x (Err Long ∷ [])) (sym c.push.ensures.frame) (reads_feed np text c.args.byte c.args.framer.now (Err Long) w.0 (long_read np Nobody false (open_line text) w.1))

pub returns-in-Long-clause-said : goal.returns-in-Long-clause-said
returns-in-Long-clause-said c =
    record { line = replicate 513 0; said_is = long_read c.args.policy.now Nobody false (replicate 513 0) (omega (arith, length-replicate {A = ℕ} 513 0)); named = tt }
