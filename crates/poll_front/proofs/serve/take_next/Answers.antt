use Rattle.std.proofs.Common.{◌∙◌, ◌+◌, ℕ, sym, ap, subst, refl, arith, get_or, List, Ok}
use Rattle.gt_io.specs.Frames.{Frame}
use Rattle.request_text.specs.declared.lines.LineFault.TheVariants.{Long}
use Rattle.turn_lock.specs.Holders.{Holder, site_of}
use Rattle.locked_history.specs.Fronts.{by}
use Rattle.connection_laws.proofs.Framing.{more_is, whole_is, long_is}
use Rattle.connection_laws.proofs.Lending.{lent_with, back_with}
use Rattle.connection_laws.proofs.Lent.{lent_acts}
use Rattle.connection_laws.specs.Cuts.{open_line}
use Rattle.connection_laws.specs.Desks.{IsNamedActor}
use Rattle.connection_laws.specs.Rooms.{text_in, room_with}
use Rattle.connection_laws.specs.Services.{Service, service_at}
use Rattle.connection_laws.specs.Turns.{IsReached}
use Rattle.connection_laws.specs.Attending.{ActsBy}
use Rattle.connection_laws.specs.Clerks.{WearsAt, ClerkAsks, rested_clerk, clerk_view}
use Rattle.connection_laws.specs.declared.talk.LineAnswer.TheVariants.{Bad}
use Rattle.poll_front.specs.declared.states.LinkState.{LinkState}
use Rattle.poll_front.specs.Fronts.{FrontSpot, front_spot, LinkComesTo, CountsOne}
use Rattle.poll_front.proofs.Calls.{calls_none}
use Rattle.poll_front.proofs.Going.{steps_byte, steps_line}
use Rattle.poll_front.proofs.Hearing.{Hears, hears_acts, long_heard, heard_idle, heard_counts}
use Rattle.poll_front.proofs.serve.take_next.Goals as goal

pub returns-in-More : goal.returns-in-More
returns-in-More g c =
    let m = g.M.Machine in
    let sv = c.args.server.now in
    let v : Service = service_at g.M.Keeps.list m.legal m.now_of sv.desk.now sv.policy.now in
    let a = g.P.Ports.harbour c.args.ports.now in
    let p : FrontSpot g.row.M.Denot = front_spot c.args.pass.now (g.C.Clock.readings c.args.clock.now) c.args.counters.now in
    let s : LinkState = c.args.state.now in
    let byte : ℕ = get_or s.chunk s.from 0 in
    record {
      steps = subst (λ (f : Frame). LinkComesTo v p p a a sv.conn s (record s { framer = f; from = s.from + 1 }) (Ok tt)) (sym c.push.ensures.frame)
          (steps_byte v p a sv.conn s byte c.requires.some.0 refl (more_is s.framer byte (sym c.push.ensures.answer ∙ c.in-More.is)));
      ready = ((c.requires.ready.asks.idle, refl), c.requires.ready.reached);
      actor = c.requires.talk.actor;
      counts = (omega arith, omega arith, omega arith);
      calls = calls_none a sv.conn c.requires.live.live;
      told = c.requires.told;
      one = (refl, refl, refl);
      kept = omega arith;
    }

pub returns-in-Whole : goal.returns-in-Whole
returns-in-Whole g c =
    let m = g.M.Machine in
    let k = g.C.Clock in
    let sv = c.args.server.now in
    let v : Service = service_at g.M.Keeps.list m.legal m.now_of sv.desk.now sv.policy.now in
    let a = g.P.Ports.harbour c.args.ports.now in
    let b = g.P.Ports.harbour c.tell.new.ports in
    let told = c.act_by-told in
    let line = c.line.result.now in
    let acted = told.ensures.acts line (sym c.read_line-said.ensures.value) in
    let clerk = told.new.answerer in
    let pass = c.pass-1.given in
    let clock = c.clock-1.given in
    let who = by c.args.pass.now.number sv.conn in
    let pass_is = sym (pass.1 (sym told.ensures.keeps.1)) in
    let talk = c.count.new.talk in
    let p : FrontSpot g.row.M.Denot = front_spot c.args.pass.now (k.readings c.args.clock.now) c.args.counters.now in
    let p' : FrontSpot g.row.M.Denot = front_spot pass.0 (k.readings clock.0) (record { calls = told.new.talk.calls; reached = clerk.reached.now }) in
    let s : LinkState = c.args.state.now in
    let byte : ℕ = get_or s.chunk s.from 0 in
    let acts =
    subst (λ (h : Holder g.row.M.Denot). ActsBy sv.policy.now (ClerkAsks {M = g.row.M.Denot} v who) (WearsAt h.draws) (clerk_view p.pass p.clock) (clerk_view h (k.readings clock.0)) (record s.talk { calls = p.counters.calls }) told.new.talk line told.result) pass_is
    (subst (λ (q : g.row.C.Denot). ActsBy sv.policy.now (ClerkAsks {M = g.row.M.Denot} v who) (WearsAt clerk.pass.now.draws) (clerk_view p.pass p.clock) (clerk_view clerk.pass.now (k.readings q)) (record s.talk { calls = p.counters.calls }) told.new.talk line told.result) (sym (clock.1 (sym told.ensures.keeps.2)))
    (lent_acts g.M.Keeps.list m.legal m.now_of k.readings sv.policy.now _ (rested_clerk clerk) (record s.talk { calls = p.counters.calls }) told.new.talk line told.result acted)) in
    let root = sv.desk.now.root in
    let knows =
    subst (λ (h : Holder g.row.M.Denot). IsReached (m.legal root) (m.now_of root) h.seen clerk.reached.now) pass_is
    (subst (λ z. IsReached (m.legal z.now.desk.now.root) (m.now_of z.now.desk.now.root) clerk.pass.now.seen clerk.reached.now) told.ensures.keeps.0 told.ensures.ready.reached) in
    let x = hears_acts v who p p' s.talk told.new.talk talk line told.result acts refl (c.count.ensures v.policy acts.acted.answer acts.told_is) in
    let same = c.tell.ensures.same in
    let back = back_with s.room c.free_room.new.room (text_in s.told) c.free_room.ensures.back in
    let lent = lent_with c.free_room.new.room told.new.room (text_in told.result) told.ensures.lends in
    let room = ap (λ (z : LinkState). room_with (text_in z.told) z.room) same in
    record {
      steps = subst (λ (z : LinkState). LinkComesTo v p p' a b sv.conn s z c.tell.result)
          (sym (same ∙ ap (λ (f : Frame). record s { framer = f; from = s.from + 1; talk = talk; told = told.result; at = c.tell.new.state.at; room = told.new.room }) c.push.ensures.frame))
          (steps_line v p p' a b sv.conn s byte talk told.new.room c.requires.live.live c.requires.told c.requires.some.0 refl told.result c.tell.new.state.at c.tell.result
          (λ fed fits.
          let w = whole_is s.framer fed byte fits (sym c.push.ensures.answer ∙ c.in-Whole.is) in
          (w.0, subst (λ (l : List ℕ). Hears v who p p' s.talk talk l told.result) (c.line.ensures ∙ ap (λ (f : Frame). f.bytes) c.push.ensures.frame ∙ w.1) x)) c.tell.ensures.tells);
      ready = (heard_idle x (site_of sv.desk.now) c.requires.ready.asks.idle, knows);
      actor = subst (λ (z : LinkState). IsNamedActor sv.policy.now z.talk.actor) (sym same) x.named;
      counts = subst (λ (z : LinkState). CountsOne s.talk z.talk p.counters p'.counters) (sym same) (heard_counts x);
      calls = c.tell.ensures.calls;
      told = c.tell.ensures.told;
      one = (ap (λ (z : LinkState). z.from) same, ap (λ (z : LinkState). z.upto) same, ap (λ (z : LinkState). z.left) same);
      kept = omega (arith, back, lent, room);
    }

pub returns-in-Long : goal.returns-in-Long
returns-in-Long g c =
    let m = g.M.Machine in
    let sv = c.args.server.now in
    let v : Service = service_at g.M.Keeps.list m.legal m.now_of sv.desk.now sv.policy.now in
    let a = g.P.Ports.harbour c.args.ports.now in
    let b = g.P.Ports.harbour c.tell-in-Long.new.ports in
    let p : FrontSpot g.row.M.Denot = front_spot c.args.pass.now (g.C.Clock.readings c.args.clock.now) c.args.counters.now in
    let s : LinkState = c.args.state.now in
    let byte : ℕ = get_or s.chunk s.from 0 in
    let room = c.free_room-in-Long.new.room in
    let same = c.tell-in-Long.ensures.same in
    let back = back_with s.room room (text_in s.told) c.free_room-in-Long.ensures.back in
    let kept = ap (λ (z : LinkState). room_with (text_in z.told) z.room) same in
    record {
      steps = subst (λ (z : LinkState). LinkComesTo v p p a b sv.conn s z c.tell-in-Long.result)
          (sym (same ∙ ap (λ (f : Frame). record s { framer = f; from = s.from + 1; told = Bad Long; at = c.tell-in-Long.new.state.at; room = room }) c.push.ensures.frame))
          (steps_line v p p a b sv.conn s byte s.talk room c.requires.live.live c.requires.told c.requires.some.0 refl (Bad Long) c.tell-in-Long.new.state.at c.tell-in-Long.result
          (λ fed fits. let w = long_is s.framer fed byte fits (sym c.push.ensures.answer ∙ c.in-Long.is) in (w.0, long_heard v (by c.args.pass.now.number sv.conn) p s.talk (open_line fed) c.requires.talk.actor w.1)) c.tell-in-Long.ensures.tells);
      ready = ((c.requires.ready.asks.idle, refl), c.requires.ready.reached);
      actor = subst (λ (z : LinkState). IsNamedActor sv.policy.now z.talk.actor) (sym same) c.requires.talk.actor;
      counts = subst (λ (z : LinkState). CountsOne s.talk z.talk p.counters p.counters) (sym same) (omega arith, omega arith, omega arith);
      calls = c.tell-in-Long.ensures.calls;
      told = c.tell-in-Long.ensures.told;
      one = (ap (λ (z : LinkState). z.from) same, ap (λ (z : LinkState). z.upto) same, ap (λ (z : LinkState). z.left) same);
      kept = omega (arith, back, kept);
    }
