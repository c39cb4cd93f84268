use Rattle.std.proofs.Common.{◌≡◌, ◌≤◌, ◌+◌, ℕ, List, [], ◌∷◌, ◌++◌, length, ap, sym, subst, ◌∙◌, false, None, Some, inl, inr}
use mathlib.Core.List.{IsPrefix}
use Rattle.gt_base.specs.Machines.{ticked}
use Rattle.gt_base.specs.declared.requests.Entry.{Entry}
use Rattle.gt_base.specs.declared.limits.TheConstants.{MAX_STEPS}
use Rattle.turn_lock.specs.Holders.{Holder, Lock, site_of}
use Rattle.locked_history.specs.Fronts.{by, Lands}
use Rattle.locked_history.proofs.Landing.{idle, landed, refused, prefix_grown, drawn_site, drawn_number, drawn_turn, stepped_site, stepped_turn, early_is, grown_when, same_when}
use Rattle.locked_history.proofs.desk.Desk.tick.Goals.{then-minute, else-minute}
use Rattle.locked_history.proofs.desk.Desk.tick.Goals as goal

pub step-requires-clause-grown : goal.step-requires-clause-grown
step-requires-clause-grown g c =
    let known = g.M.Keeps.list c.in-Ok.machine in
    let now = c.now-before.ensures.now in
    let early = early_is c.minute.result c.minute-in-Ok-tick.result c.now-before.result (g.M.Machine.now_of c.in-Ok.machine known) c.args.upto c.if-minute.true c.minute.ensures.value now c.minute-in-Ok-tick.ensures.value in (
      known,
      ticked (by c.number.result c.args.conn) c.args.upto c.in-Ok-tick.field-0,
      drawn_turn c.args.pass.now c.turn.new.pass known c.in-Ok.ensures.ok.1,
      grown_when (g.M.Machine.now_of c.in-Ok.machine known) c.args.upto _ _ early c.in-Ok-tick.ensures.ok.1,
      c.number.ensures,
    )

pub leave-front-requires-clause-pass : goal.leave-front-requires-clause-pass
leave-front-requires-clause-pass g c =
    let known = g.M.Keeps.list c.in-Ok.machine in
    let front = g.M.Keeps.list c.tick.new.self in
    let now = g.M.Machine.now_of c.in-Ok.machine known in
    let drawn = c.in-Ok.ensures.ok.1 in
    let site = drawn_site c.args.pass.now c.turn.new.pass known drawn ∙ c.requires.pass.0 ∙ ap (λ (l : Lock g.row.M.Denot). site_of l) (sym c.self.view_is) in
    let turn = drawn_turn c.args.pass.now c.turn.new.pass known drawn in
    elim c.if-minute.branch [
      | then-minute w ↦
          let early = early_is c.minute.result c.minute-in-Ok-tick.result c.now-before.result now c.args.upto w.if-minute.true c.minute.ensures.value c.now-before.ensures.now c.minute-in-Ok-tick.ensures.value in
          let grown = grown_when now c.args.upto _ _ early c.in-Ok-tick.ensures.ok.1 in
          let e = ticked (by c.number.result c.args.conn) c.args.upto c.in-Ok-tick.field-0 in
          let stepped = w.step.ensures known e turn grown in (
            ap (λ (p : Holder g.row.M.Denot). p.site) w.pass-is ∙ stepped_site c.turn.new.pass w.step.new.pass front e stepped ∙ site,
            ap (λ (p : Holder g.row.M.Denot). p.turn) w.pass-is ∙ stepped_turn c.turn.new.pass w.step.new.pass front e stepped,
          )
      | else-minute w ↦
          let same = same_when c.minute.result c.minute-in-Ok-tick.result c.now-before.result now c.args.upto _ _ w.if-minute.false c.minute.ensures.value c.now-before.ensures.now c.minute-in-Ok-tick.ensures.value c.in-Ok-tick.ensures.ok.1 in (
            ap (λ (p : Holder g.row.M.Denot). p.site) w.pass-is ∙ site,
            ap (λ (p : Holder g.row.M.Denot). p.turn) w.pass-is ∙ turn ∙ ap (λ (m : g.row.M.Denot). Some (g.M.Keeps.list m)) (sym same.1),
          )
    ]

pub leave-front-requires-clause-root : goal.leave-front-requires-clause-root
leave-front-requires-clause-root g c = g.met.M.Keeps.same_trans c.self.inside.lock.root c.in-Ok.machine c.tick.new.self c.in-Ok.ensures.root c.in-Ok-tick.ensures.root

pub leave-requires-clause-pass : goal.leave-requires-clause-pass
leave-requires-clause-pass g c =
    let known = g.M.Keeps.list c.in-Ok.machine in
    let drawn = c.in-Ok.ensures.ok.1 in (
      drawn_site c.args.pass.now c.turn.new.pass known drawn ∙ c.requires.pass.0 ∙ ap (λ (l : Lock g.row.M.Denot). site_of l) (sym c.self.view_is),
      drawn_turn c.args.pass.now c.turn.new.pass known drawn ∙ ap (λ (m : g.row.M.Denot). Some (g.M.Keeps.list m)) (sym c.in-Err-tick.ensures.err),
    )

pub leave-requires-clause-root : goal.leave-requires-clause-root
leave-requires-clause-root g c = g.met.M.Keeps.same_trans c.self.inside.lock.root c.in-Ok.machine c.tick.new.self c.in-Ok.ensures.root c.in-Err-tick.ensures.root

pub returns-after-minute-clause-ok : goal.returns-after-minute-clause-ok
returns-after-minute-clause-ok g c =
    let list = g.M.Keeps.list in
    let before = c.args.pass.now in
    let known = list c.in-Ok.machine in
    let front = list c.tick.new.self in
    let now = g.M.Machine.now_of c.in-Ok.machine known in
    let drawn = c.in-Ok.ensures.ok in
    let told = c.in-Ok-tick.ensures.ok in
    let left = c.leave-front.ensures in
    let after = c.leave-front.new.pass in
    let first_is = ap (λ (l : Lock g.row.M.Denot). list l.root) c.self.view_is in
    elim c.if-minute.branch [
      | then-minute w ↦
          let early = early_is c.minute.result c.minute-in-Ok-tick.result c.now-before.result now c.args.upto w.if-minute.true c.minute.ensures.value c.now-before.ensures.now c.minute-in-Ok-tick.ensures.value in
          let e = ticked (by before.number c.args.conn) c.args.upto c.now-now.result in
          let number = c.number.ensures ∙ drawn_number before c.turn.new.pass known drawn.1 in
          let grown : front ≡ known ++ e ∷ [] = grown_when now c.args.upto _ _ early told.1 ∙ ap (λ (n : ℕ). known ++ ticked (by n c.args.conn) c.args.upto c.in-Ok-tick.field-0 ∷ []) number
          ∙ ap (λ (t : ℕ). known ++ ticked (by before.number c.args.conn) c.args.upto t ∷ []) (told.0 ∙ sym c.now-now.ensures.now) in
          let stepped = w.step.ensures known e (drawn_turn before c.turn.new.pass known drawn.1) grown in
          let t = landed (list c.self.inside.lock.root) before c.turn.new.pass w.step.new.pass after known front e c.requires.pass.1 drawn.0 drawn.1
          (prefix_grown before.seen known front e c.in-Ok.ensures.seen grown) stepped (left.pass ∙ ap (λ (p : Holder g.row.M.Denot). record p { seen = front; turn = None; keeps = after.keeps }) w.pass-is) left.first left.own in
          inr (subst (λ (first : List Entry). Lands first before after c.leave-front.result (e ∷ [])) first_is
          (subst (λ (l : List Entry). Lands (list c.self.inside.lock.root) before after l (e ∷ [])) (sym left.front) t))
      | else-minute w ↦
          let same = same_when c.minute.result c.minute-in-Ok-tick.result c.now-before.result now c.args.upto _ _ w.if-minute.false c.minute.ensures.value c.now-before.ensures.now c.minute-in-Ok-tick.ensures.value told.1 in
          let back = sym same.1 in
          let t = idle (list c.self.inside.lock.root) before c.turn.new.pass after front c.requires.pass.1 drawn.0
          (drawn.1 ∙ ap (λ (m : g.row.M.Denot). record before { draws = before.draws + 1; turn = Some (list m); keeps = false }) back) (subst (λ (m : g.row.M.Denot). IsPrefix before.seen (list m)) back c.in-Ok.ensures.seen)
          (left.pass ∙ ap (λ (p : Holder g.row.M.Denot). record p { seen = front; turn = None; keeps = after.keeps }) w.pass-is) left.first left.own in
          inl (
            subst (λ (n : ℕ). c.args.upto ≤ n) (ap (λ (m : g.row.M.Denot). g.M.Machine.now_of m (list m)) back ∙ sym c.now-now.ensures.now) same.0,
            subst (λ (first : List Entry). Lands first before after c.leave-front.result []) first_is
                (subst (λ (l : List Entry). Lands (list c.self.inside.lock.root) before after l []) (sym left.front) t),
          )
    ]

pub returns-after-minute-clause-last : goal.returns-after-minute-clause-last
returns-after-minute-clause-last g c =
    let list = g.M.Keeps.list in
    let before = c.args.pass.now in
    let known = list c.in-Ok.machine in
    let now = g.M.Machine.now_of c.in-Ok.machine known in
    let drawn = c.in-Ok.ensures.ok.1 in
    let told = c.in-Ok-tick.ensures.ok in
    let left = c.leave-front.ensures in
    elim c.if-minute.branch [
      | then-minute w ↦
          let early = early_is c.minute.result c.minute-in-Ok-tick.result c.now-before.result now c.args.upto w.if-minute.true c.minute.ensures.value c.now-before.ensures.now c.minute-in-Ok-tick.ensures.value in
          let number = c.number.ensures ∙ drawn_number before c.turn.new.pass known drawn in
          inr (
            known,
            left.front ∙ grown_when now c.args.upto _ _ early told.1 ∙ ap (λ (n : ℕ). known ++ ticked (by n c.args.conn) c.args.upto c.in-Ok-tick.field-0 ∷ []) number
                ∙ ap (λ (t : ℕ). known ++ ticked (by before.number c.args.conn) c.args.upto t ∷ []) (told.0 ∙ sym c.now-now.ensures.now),
          )
      | else-minute w ↦
          let same = same_when c.minute.result c.minute-in-Ok-tick.result c.now-before.result now c.args.upto _ _ w.if-minute.false c.minute.ensures.value c.now-before.ensures.now c.minute-in-Ok-tick.ensures.value told.1 in
          inl (
            subst (λ (n : ℕ). c.args.upto ≤ n) (ap (λ (m : g.row.M.Denot). g.M.Machine.now_of m (list m)) (sym same.1) ∙ sym c.now-now.ensures.now) same.0,
            ap (λ (p : Holder g.row.M.Denot). p.own) left.pass ∙ ap (λ (p : Holder g.row.M.Denot). p.own) w.pass-is ∙ ap (λ (p : Holder g.row.M.Denot). p.own) drawn,
          )
    ]

pub returns-after-minute-clause-legal : goal.returns-after-minute-clause-legal
returns-after-minute-clause-legal g c =
    let k = g.met.M.Keeps in
    let m = g.met.M.Machine in
    let new = c.tick.new.self in
    let front = g.M.Keeps.list new in
    let now = c.now-now.ensures in
    let told = sym c.leave-front.ensures.front in
    let same = k.same_trans c.self.inside.lock.root c.in-Ok.machine new c.in-Ok.ensures.root c.in-Ok-tick.ensures.root in
    let root = c.args.self.now.root in
    let back = k.same_sym root new (subst (λ (l : Lock g.row.M.Denot). g.M.Keeps.same_root l.root new) c.self.view_is same) in (
      subst (g.M.Machine.legal root) told (m.legal_root new root front back now.legal),
      subst (λ (l : List Entry). length l ≤ MAX_STEPS) told now.bound,
      now.now ∙ m.now_root new root front back ∙ ap (g.M.Machine.now_of root) told,
    )

pub returns-in-Err-tick-clause-refused : goal.returns-in-Err-tick-clause-refused
returns-in-Err-tick-clause-refused g c =
    refused c.args.pass.now c.turn.new.pass c.leave.new.pass (g.M.Keeps.list c.in-Ok.machine) c.requires.pass.1 c.in-Ok.ensures.ok.1 c.in-Ok.ensures.seen c.now-before.ensures.bound
    (c.leave.ensures.pass ∙ ap (λ (m : g.row.M.Denot). record c.turn.new.pass { seen = g.M.Keeps.list m; turn = None; keeps = c.leave.new.pass.keeps }) c.in-Err-tick.ensures.err)
