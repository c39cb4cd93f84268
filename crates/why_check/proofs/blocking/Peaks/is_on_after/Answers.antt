use Rattle.std.proofs.Common.{◌≡◌, true, false, cond, not, refl, sym, ◌∙◌, ap}
use Rattle.gt_base.specs.Sets.{has}
use Rattle.gtrbac_model.specs.Conflict.{won, turns_on, turns_off}
use Rattle.why_check.specs.Peaks.{peak_in, sides_in, side, wins_from}
use Rattle.why_check.proofs.Peaking.{won_by}
use Rattle.why_check.proofs.blocking.Peaks.is_on_after.Goals as goal
use Rattle.why_check.proofs.blocking.Peaks.is_on_after.Goals.{After-wins, After-wins-2}

on_is : (c : After-wins) → c.wins.result ≡ won c.args.self.now (turns_on c.args.f)
on_is c =
    c.wins.ensures ∙ ap (λ o. wins_from true (side true o) (side false o)) c.of-sides.ensures
    ∙ won_by c.self.inside.set.set (peak_in (sides_in c.self.inside.sides)) c.self.invariant (turns_on c.args.f) _ refl
    ∙ ap (λ x. won x (turns_on c.args.f)) c.self.view_is

off_is : (c : After-wins-2) → c.wins-2.result ≡ won c.args.self.now (turns_off c.args.f)
off_is c =
    c.wins-2.ensures ∙ ap (λ o. wins_from false (side false o) (side true o)) c.of-sides.ensures
    ∙ won_by c.self.inside.set.set (peak_in (sides_in c.self.inside.sides)) c.self.invariant (turns_off c.args.f) _ refl
    ∙ ap (λ x. won x (turns_off c.args.f)) c.self.view_is

pub returns-then-wins : goal.returns-then-wins
returns-then-wins c =
    let on : won c.args.self.now (turns_on c.args.f) ≡ true = sym (on_is (goal.at.returns-then-wins c).After-wins) ∙ c.if-wins.true in
    sym (ap (λ b. cond b true (cond (won c.args.self.now (turns_off c.args.f)) false (has c.args.before.now.set c.args.f))) on)

pub returns-then-not-wins : goal.returns-then-not-wins
returns-then-not-wins c =
    let on : won c.args.self.now (turns_on c.args.f) ≡ false = sym (on_is (goal.at.returns-then-not-wins c).After-wins) ∙ c.if-wins.false in
    let off : won c.args.self.now (turns_off c.args.f) ≡ false = sym (off_is (goal.at.returns-then-not-wins c).After-wins-2) ∙ c.if-not-wins.true in
    c.is_on.ensures ∙ sym (λ i. cond (on i) true (cond (off i) false (has c.args.before.now.set c.args.f)))

pub returns-else-not-wins : goal.returns-else-not-wins
returns-else-not-wins c =
    let on : won c.args.self.now (turns_on c.args.f) ≡ false = sym (on_is (goal.at.returns-else-not-wins c).After-wins) ∙ c.if-wins.false in
    let off : won c.args.self.now (turns_off c.args.f) ≡ true = sym (off_is (goal.at.returns-else-not-wins c).After-wins-2) ∙ c.if-not-wins.false in
    ap not c.if-not-wins.false ∙ sym (λ i. cond (on i) true (cond (off i) false (has c.args.before.now.set c.args.f)))
