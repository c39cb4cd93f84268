use Rattle.std.proofs.Common.{◌≡◌, ◌≤◌, ℕ, List, [], ◌∷◌, ◌++◌, length, ap, sym, subst, ◌∙◌, None, Some}
use Rattle.gt_base.specs.Machines.{asked}
use Rattle.gt_base.specs.declared.requests.Entry.{Entry}
use Rattle.gt_base.specs.declared.limits.TheConstants.{MAX_STEPS}
use Rattle.turn_lock.specs.Holders.{Lock, site_of}
use Rattle.locked_history.specs.Fronts.{by, Lands}
use Rattle.locked_history.proofs.Landing.{landed, refused, prefix_grown, drawn_site, drawn_number, drawn_turn, stepped_site, stepped_turn}
use Rattle.locked_history.proofs.desk.Desk.ask.Goals as goal

pub ask-requires : goal.ask-requires
ask-requires g c =
    g.met.M.Machine.named_root c.self.inside.lock.root c.in-Ok.machine c.args.actor c.args.request c.in-Ok.ensures.root
    (subst (λ (l : Lock g.row.M.Denot). g.M.Machine.named l.root c.args.actor c.args.request) (sym c.self.view_is) c.requires.named)

pub step-requires-clause-grown : goal.step-requires-clause-grown
step-requires-clause-grown g c =
    let known = g.M.Keeps.list c.in-Ok.machine in
    (known, asked (by c.number.result c.args.conn) c.args.actor c.args.request c.in-Ok-ask.reply, drawn_turn c.args.pass.now c.turn.new.pass known c.in-Ok.ensures.ok.1, c.in-Ok-ask.ensures.ok, c.number.ensures)

pub leave-front-requires-clause-pass : goal.leave-front-requires-clause-pass
leave-front-requires-clause-pass g c =
    let known = g.M.Keeps.list c.in-Ok.machine in
    let front = g.M.Keeps.list c.ask.new.self in
    let drawn = c.in-Ok.ensures.ok.1 in
    let e = asked (by c.number.result c.args.conn) c.args.actor c.args.request c.in-Ok-ask.reply in
    let stepped = c.step.ensures known e (drawn_turn c.args.pass.now c.turn.new.pass known drawn) c.in-Ok-ask.ensures.ok in (
      stepped_site c.turn.new.pass c.step.new.pass front e stepped ∙ drawn_site c.args.pass.now c.turn.new.pass known drawn ∙ c.requires.pass.0
          ∙ ap (λ (l : Lock g.row.M.Denot). site_of l) (sym c.self.view_is),
      stepped_turn c.turn.new.pass c.step.new.pass front e stepped,
    )

pub leave-front-requires-clause-root : goal.leave-front-requires-clause-root
leave-front-requires-clause-root g c = g.met.M.Keeps.same_trans c.self.inside.lock.root c.in-Ok.machine c.ask.new.self c.in-Ok.ensures.root c.in-Ok-ask.ensures.root

pub leave-requires-clause-pass : goal.leave-requires-clause-pass
leave-requires-clause-pass g c =
    let known = g.M.Keeps.list c.in-Ok.machine in
    let drawn = c.in-Ok.ensures.ok.1 in (
      drawn_site c.args.pass.now c.turn.new.pass known drawn ∙ c.requires.pass.0 ∙ ap (λ (l : Lock g.row.M.Denot). site_of l) (sym c.self.view_is),
      drawn_turn c.args.pass.now c.turn.new.pass known drawn ∙ ap (λ (m : g.row.M.Denot). Some (g.M.Keeps.list m)) (sym c.in-Err-ask.ensures.err),
    )

pub leave-requires-clause-root : goal.leave-requires-clause-root
leave-requires-clause-root g c = g.met.M.Keeps.same_trans c.self.inside.lock.root c.in-Ok.machine c.ask.new.self c.in-Ok.ensures.root c.in-Err-ask.ensures.root

pub returns-in-Ok-ask-clause-ok : goal.returns-in-Ok-ask-clause-ok
returns-in-Ok-ask-clause-ok g c =
    let list = g.M.Keeps.list in
    let before = c.args.pass.now in
    let known = list c.in-Ok.machine in
    let front = list c.ask.new.self in
    let drawn = c.in-Ok.ensures.ok in
    let left = c.leave-front.ensures in
    let e = asked (by before.number c.args.conn) c.args.actor c.args.request c.in-Ok-ask.reply in
    let number = c.number.ensures ∙ drawn_number before c.turn.new.pass known drawn.1 in
    let grown : front ≡ known ++ e ∷ [] = c.in-Ok-ask.ensures.ok ∙ ap (λ (n : ℕ). known ++ asked (by n c.args.conn) c.args.actor c.args.request c.in-Ok-ask.reply ∷ []) number in
    let stepped = c.step.ensures known e (drawn_turn before c.turn.new.pass known drawn.1) grown in
    let t = landed (list c.self.inside.lock.root) before c.turn.new.pass c.step.new.pass c.leave-front.new.pass known front e c.requires.pass.1 drawn.0 drawn.1
    (prefix_grown before.seen known front e c.in-Ok.ensures.seen grown) stepped left.pass left.first left.own in
    subst (λ (first : List Entry). Lands first before c.leave-front.new.pass c.leave-front.result (e ∷ [])) (ap (λ (l : Lock g.row.M.Denot). list l.root) c.self.view_is)
    (subst (λ (l : List Entry). Lands (list c.self.inside.lock.root) before c.leave-front.new.pass l (e ∷ [])) (sym left.front) t)

pub returns-in-Ok-ask-clause-last : goal.returns-in-Ok-ask-clause-last
returns-in-Ok-ask-clause-last g c =
    let known = g.M.Keeps.list c.in-Ok.machine in
    let number = c.number.ensures ∙ drawn_number c.args.pass.now c.turn.new.pass known c.in-Ok.ensures.ok.1 in
    (known, c.leave-front.ensures.front ∙ c.in-Ok-ask.ensures.ok ∙ ap (λ (n : ℕ). known ++ asked (by n c.args.conn) c.args.actor c.args.request c.in-Ok-ask.reply ∷ []) number)

pub returns-in-Ok-ask-clause-legal : goal.returns-in-Ok-ask-clause-legal
returns-in-Ok-ask-clause-legal g c =
    let k = g.met.M.Keeps in
    let m = g.met.M.Machine in
    let new = c.ask.new.self in
    let front = g.M.Keeps.list new in
    let now = c.now-at.ensures in
    let told = sym c.leave-front.ensures.front in
    let same = k.same_trans c.self.inside.lock.root c.in-Ok.machine new c.in-Ok.ensures.root c.in-Ok-ask.ensures.root in
    let root = c.args.self.now.root in
    let back = k.same_sym root new (subst (λ (l : Lock g.row.M.Denot). g.M.Keeps.same_root l.root new) c.self.view_is same) in (
      subst (g.M.Machine.legal root) told (m.legal_root new root front back now.legal),
      subst (λ (l : List Entry). length l ≤ MAX_STEPS) told now.bound,
      now.now ∙ m.now_root new root front back ∙ ap (g.M.Machine.now_of root) told,
    )

pub returns-in-Err-ask-clause-refused : goal.returns-in-Err-ask-clause-refused
returns-in-Err-ask-clause-refused g c =
    refused c.args.pass.now c.turn.new.pass c.leave.new.pass (g.M.Keeps.list c.in-Ok.machine) c.requires.pass.1 c.in-Ok.ensures.ok.1 c.in-Ok.ensures.seen c.now.ensures.bound
    (c.leave.ensures.pass ∙ ap (λ (m : g.row.M.Denot). record c.turn.new.pass { seen = g.M.Keeps.list m; turn = None; keeps = c.leave.new.pass.keeps }) c.in-Err-ask.ensures.err)
