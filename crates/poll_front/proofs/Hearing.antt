-- A line that was acted on, with the counts of its link.
use Rattle.std.proofs.Common.{◌≡◌, ℕ, ◌+◌, ◌*◌, ◌^◌, ◌<◌, ◌≤◌, Bool, true, false, List, [], length, refl, sym, ap, subst, ◌∙◌, arith, Result}
use Rattle.gt_base.specs.declared.requests.Who.{Who}
use Rattle.gt_base.specs.declared.requests.Actor.{Actor}
use Rattle.gt_base.specs.declared.requests.Actor.TheVariants.{Nobody}
use Rattle.gt_io.specs.Links.{Reads}
use Rattle.gt_io.proofs.Readings.{Reads-nil}
use Rattle.turn_lock.specs.Holders.{Site, Holder}
use Rattle.request_text.specs.declared.lines.Line.{Line}
use Rattle.request_text.specs.declared.lines.LineFault.{LineFault}
use Rattle.request_text.specs.declared.lines.LineFault.TheVariants.{Long}
use Rattle.request_text.specs.Phrases.{read_line}
use Rattle.request_text.proofs.ReadBySpelling.{long_read}
use Rattle.connection_laws.specs.Lines.{Acted, bad, actor_by, one_where, is_replied, is_denied, says_request, GetsBy}
use Rattle.connection_laws.specs.Connection.{Asks, IsTimed, placed}
use Rattle.connection_laws.specs.Desks.{IsNamedActor}
use Rattle.connection_laws.specs.Turns.{Grows, AreMine, IsIdle, StaysIdle}
use Rattle.connection_laws.specs.Services.{Service}
use Rattle.connection_laws.specs.Acting.{IsTold, counted_talk}
use Rattle.connection_laws.specs.Attending.{ActsBy}
use Rattle.connection_laws.specs.Clerks.{clerk_view, WearsClerk, ClerkAsks}
use Rattle.connection_laws.specs.declared.talk.Talk.{Talk}
use Rattle.connection_laws.specs.declared.talk.LineAnswer.{LineAnswer}
use Rattle.connection_laws.specs.declared.talk.LineAnswer.TheVariants.{Bad, Worn}
use Rattle.connection_laws.proofs.Growing.{grown_none, grows_rested}
use Rattle.connection_laws.proofs.Chaining.{step_of}
use Rattle.poll_front.specs.Fronts.{FrontSpot, CountsOne}

-- what acting on a line does, but for its reply
pub record Hears {M : Type 0} (v : Service) (who : Who) (p p' : FrontSpot M) (talk talk' : Talk) (line : List ℕ) (told : LineAnswer) : Type 0 where
  pub acted : Acted
  pub line_is : acted.line ≡ line
  pub told_is : IsTold v.policy told acted.answer
  pub gets : (birth : ℕ) → IsTimed birth v.legal v.now → GetsBy (Asks birth who p'.pass.seen) (read_line v.policy Nobody false line) talk.actor (placed who v.first p.pass.own) acted
  pub mine : AreMine who acted.entries
  pub grows : Grows p.pass p'.pass acted.entries (2 * length acted.readings)
  pub actor : talk'.actor ≡ actor_by (read_line v.policy Nobody false line) talk.actor
  pub asked : talk'.asked ≡ talk.asked + one_where (is_replied acted.answer)
  pub denied : talk'.denied ≡ talk.denied + one_where (is_denied acted.answer)
  pub calls : p'.counters.calls ≡ p.counters.calls + length acted.readings
  pub few : length acted.readings ≤ 1
  pub named : IsNamedActor v.policy talk'.actor
  pub reads : Reads p.clock p'.clock acted.readings
  pub worn_out : (n : ℕ) → told ≡ Worn n → (n ≡ 2 ^ 40) × (p'.pass.draws ≡ 2 ^ 40)

pub one_at_most : (b : Bool) → one_where b ≤ 1
one_at_most true = omega arith
one_at_most false = omega arith

pub hears_acts : {M : Type 0} (v : Service) (who : Who) (p p' : FrontSpot M) (talk talk1 talk2 : Talk) (line : List ℕ) (told : LineAnswer)
    → (x : ActsBy v.policy (ClerkAsks v who) (WearsClerk (clerk_view p'.pass p'.clock)) (clerk_view p.pass p.clock) (clerk_view p'.pass p'.clock) (record talk { calls = p.counters.calls }) talk1 line told) → p'.counters.calls ≡ talk1.calls → talk2 ≡ counted_talk talk1 x.acted.answer
    → Hears v who p p' talk talk2 line told
hears_acts v who p p' talk talk1 talk2 line told x calls is =
    let y = x.acted in
    let said : Result Line LineFault = read_line v.policy Nobody false line in
    let s = step_of v who v.policy (clerk_view p.pass p.clock) (clerk_view p'.pass p'.clock) said talk.actor y x.steps in
    let one = one_at_most (says_request said) in
    let counted = s.calls in
    record {
      acted = y;
      line_is = x.line_is;
      told_is = x.told_is;
      gets = s.gets;
      mine = s.mine;
      grows = grows_rested p.pass p'.pass y.entries (2 * length y.readings) s.grows;
      actor = ap (λ (t : Talk). t.actor) is ∙ ap (λ (t : Talk). t.actor) x.talk_is;
      asked = ap (λ (t : Talk). t.asked) is ∙ ap (λ (t : Talk). t.asked + one_where (is_replied y.answer)) x.talk_is;
      denied = ap (λ (t : Talk). t.denied) is ∙ ap (λ (t : Talk). t.denied + one_where (is_denied y.answer)) x.talk_is;
      calls = calls ∙ ap (λ (t : Talk). t.calls) x.talk_is ∙ ap (λ (n : ℕ). p.counters.calls + n) s.calls;
      few = omega (arith, one, counted);
      named = subst (λ (z : Actor). IsNamedActor v.policy z) (sym (ap (λ (t : Talk). t.actor) is)) x.named;
      reads = s.reads;
      worn_out = x.worn_out;
    }

-- a line that is too long is heard without the desk
pub long_heard : {M : Type 0} (v : Service) (who : Who) (p : FrontSpot M) (talk : Talk) (line : List ℕ) → IsNamedActor v.policy talk.actor → 512 < length line → Hears v who p p talk talk line (Bad Long)
long_heard v who p talk line named long =
    let is = long_read v.policy Nobody false line long in
    let a : Acted = record { line = line; answer = bad Long; readings = []; entries = [] } in
    record {
      acted = a;
      line_is = refl;
      told_is = refl;
      gets = λ birth timed. subst (λ (s : Result Line LineFault). GetsBy (Asks birth who p.pass.seen) s talk.actor (placed who v.first p.pass.own) a) (sym is) (refl, refl, refl);
      mine = tt;
      grows = grown_none p.pass;
      actor = sym (ap (λ (s : Result Line LineFault). actor_by s talk.actor) is);
      asked = omega arith;
      denied = omega arith;
      calls = omega arith;
      few = omega arith;
      named = named;
      reads = Reads-nil p.clock;
      worn_out = λ n e. absurd cc;
    }

module _ {M : Type 0} {v : Service} {who : Who} {p p' : FrontSpot M} {talk talk' : Talk} {line : List ℕ} {told : LineAnswer} (x : Hears v who p p' talk talk' line told) where
  pub heard_idle : (site : Site M) → IsIdle site p.pass → StaysIdle site p.pass p'.pass
  heard_idle site idle =
      let is = x.grows.after_is in ((ap (λ (h : Holder M). h.site) is ∙ idle.0, ap (λ (h : Holder M). h.turn) is ∙ idle.1), ap (λ (h : Holder M). h.number) is)

  pub heard_counts : CountsOne talk talk' p.counters p'.counters
  heard_counts =
      let a = x.asked in
      let d = x.denied in
      let c = x.calls in
      let few = x.few in
      let a1 = one_at_most (is_replied x.acted.answer) in
      let d1 = one_at_most (is_denied x.acted.answer) in
      (omega (arith, a, a1), omega (arith, d, d1), omega (arith, c, few))
