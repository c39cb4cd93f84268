use Rattle.std.proofs.Common.{◌≡◌, Bool, true, false, cond, ◌||◌, Option, Some, is_some, refl, sym, ◌∙◌, ap}
use Rattle.gtrbac_model.specs.Conflict.{blocked}
use Rattle.gtrbac_model.specs.Same.{same_event}
use Rattle.why_check.specs.Standing.{stands_in}
use Rattle.why_check.proofs.Shown.{noted, left_out}
use Rattle.why_check.proofs.standing.Standing.note.Goals as goal

put_in : {A : Type 0} (b : Bool) (v : A) (o : Option A) → is_some (cond b (Some v) o) ≡ (b || is_some o)
put_in true v o = refl
put_in false v o = refl

pub returns-in_ok-note : goal.returns-in_ok-note
returns-in_ok-note c = λ f.
    let e = c.args.e.now in
    let free : blocked c.args.x.now e ≡ false = sym c.blocks-2.ensures ∙ c.if-not-blocks.true in
    ap is_some (c.in_ok-note.ensures f)
    ∙ put_in (same_event e.event f) _ _
    ∙ noted (same_event e.event f) (blocked c.args.x.now e) (stands_in c.args.self.now f) free

pub returns-else-not-blocks : goal.returns-else-not-blocks
returns-else-not-blocks c = λ f.
    let e = c.args.e.now in
    let stuck : blocked c.args.x.now e ≡ true = sym c.blocks-2.ensures ∙ c.if-not-blocks.false in
    left_out (same_event e.event f) (blocked c.args.x.now e) (stands_in c.args.self.now f) stuck
