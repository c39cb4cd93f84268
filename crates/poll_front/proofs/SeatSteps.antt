-- The service of a link in its seat.
use Rattle.std.proofs.Common.{◌≡◌, ℕ, ◌<◌, false, List, [], ◌++◌, refl, sym, ap, subst, ◌∙◌, arith, Option, Some, None, Err}
use Rattle.gt_io.specs.Ports.{Port, Harbour, Finishes}
use Rattle.connection_laws.specs.Services.{Service}
use Rattle.poll_front.specs.declared.ends.Polled.{Polled}
use Rattle.poll_front.specs.declared.ends.PollEnd.{PollEnd}
use Rattle.poll_front.specs.declared.ends.PollEnd.TheVariants.{Ended, ReadFault, WriteFault, Spent, Full, Stopped, Worn}
use Rattle.poll_front.specs.declared.states.LinkState.{LinkState}
use Rattle.poll_front.specs.declared.states.Yield.TheVariants.{Later, End}
use Rattle.poll_front.specs.declared.seats.LinkRow.TheVariants.{New, Open, Over}
use Rattle.std.specs.Global.{Box}
use Rattle.poll_front.specs.Fronts.{FrontSpot, Course, course, acted_of, faults_by, ends_told_by, polled_as, PollsBy, IsLive, CallsOn, LinkComesTo}
use Rattle.poll_front.specs.Tables.{Sits, IsLetIn, CanServeSeat, TakesState, SeatServed, polled_in, is_worn_end}
use Rattle.poll_front.specs.declared.states.RunCounters.{RunCounters}
use Rattle.poll_front.specs.declared.seats.LinkRow.{LinkRow}
use Rattle.poll_front.proofs.Seating.{takes_sits}
use Rattle.poll_front.proofs.Calls.{rest_twice, live_sound, live_open}
use Rattle.poll_front.specs.declared.front.TheConstants.{MAX_OPEN}
use Rattle.policy_words.specs.Naming.{NamedPolicy}

abbrev pub IsCalm : LinkRow → Type 0
IsCalm s = is_worn_end (polled_in s).outcome ≡ false

takes_calm : (s s' : LinkRow) → TakesState s s' → IsCalm s → IsCalm s'
takes_calm New (Open b) t x = refl
takes_calm New New t x = refl
takes_calm New (Over e) t x = absurd t
takes_calm (Open b) s' t x = subst IsCalm (sym t) x
takes_calm (Over e) s' t x = subst IsCalm (sym t) x

let_in_by : (q : Course) (others : ℕ) (taken : List ℕ) (end : PollEnd) → PollsBy q taken end → others ≡ q.others → q.others < MAX_OPEN → IsLetIn others end
let_in_by q others taken Full x same low = let many = x.1 in absurd (omega (arith, many, low))
let_in_by q others taken Ended x same low = omega (arith, same, low)
let_in_by q others taken ReadFault x same low = omega (arith, same, low)
let_in_by q others taken WriteFault x same low = omega (arith, same, low)
let_in_by q others taken Spent x same low = omega (arith, same, low)
let_in_by q others taken Stopped x same low = omega (arith, same, low)
let_in_by q others taken (Worn m) x same low = omega (arith, same, low)

module _ {M : Type 0} (v : Service) where
  -- the link had ended before
  seat_over : (p : FrontSpot M) (a : Harbour) (c : ℕ) (e : Polled) → SeatServed v p p a a c (Over e) (Over e) None
  seat_over p a c e =
      record {
        rest = record { told = refl; nexts = refl; opened = refl; others = λ k away. refl };
        others = refl;
        later = omega arith;
        faults = omega arith;
        ends = omega arith;
        ended = refl;
        over = λ end same. absurd cc;
        served = λ o start turns r s u.
            record { more = []; own = tt; running = r; sits = s; worn_out = λ n same. absurd cc; unworn = λ same. u; unowed = λ unfinished. let e : Some s.1.0 ≡ None = sym s.1.1 ∙ unfinished in absurd cc };
      }

  pub seat_none : (p : FrontSpot M) (np : NamedPolicy) (a : Harbour) (c : ℕ) (counters : RunCounters) (seat : LinkRow) → CanServeSeat np a c counters seat → ((b : Box LinkState) → seat ≡ Open b → ⊥) → SeatServed v p p a a c seat seat None
  seat_none p np a c counters New can closed = absurd can
  seat_none p np a c counters (Open b) can closed = absurd (closed b refl)
  seat_none p np a c counters (Over e) can closed = seat_over p a c e

  -- it got its state before
  pub served_from : (p p' : FrontSpot M) (a b : Harbour) (c : ℕ) (seat mid seat' : LinkRow) (result : Option PollEnd) → TakesState seat mid → SeatServed v p p' a b c mid seat' result → SeatServed v p p' a b c seat seat' result
  served_from p p' a b c seat mid seat' result t w =
      record {
        rest = w.rest;
        others = w.others;
        later = w.later;
        faults = w.faults;
        ends = w.ends;
        ended = w.ended;
        over = w.over;
        served = λ o start turns r s u. w.served o start turns r (takes_sits v.policy start (a.port c) (acted_of c turns) seat mid t s) (takes_calm seat mid t u);
      }

  module _ {p p' : FrontSpot M} {a b : Harbour} {c : ℕ} (s s' : Box LinkState) (live : IsLive a c) where
    -- there is nothing to do for it yet
    pub seat_later : CallsOn a b c (Err Later) → LinkComesTo v p p' a b c s.value s'.value (Err Later) → SeatServed v p p' a b c (Open s) (Open s') None
    seat_later t steps =
        let none = live_sound (a.port c).last live.live in
        let opened = live_open (a.port c).last live.live in
        let f = t.faults in
        let e = t.ends in
        record {
          rest = t.rest;
          others = t.others;
          later = t.later;
          faults = omega (arith, none, f);
          ends = omega (arith, opened, e);
          ended = t.finished;
          over = λ end same. absurd cc;
          served = λ o start turns r x u.
              let y = steps.steps o start turns x.0.fed r x.0.stands in
              let others = t.others in
              let few = x.2 in
              record {
                more = y.more;
                own = y.own;
                running = y.running;
                sits = (y.comes, t.finished ∙ x.1, omega (arith, others, few));
                worn_out = λ n same. absurd cc;
                unworn = λ same. refl;
                unowed = λ unfinished. t.unowed refl;
              };
        }

    -- it has ended, and is let go
    pub seat_ended : (d : Harbour) (end : PollEnd) (e : Polled) → CallsOn a b c (Err (End end)) → LinkComesTo v p p' a b c s.value s'.value (Err (End end)) → Finishes b d c → e ≡ polled_as s'.value end → SeatServed v p p' a d c (Open s) (Over e) (Some end)
    seat_ended d end e t steps f is =
        let none = live_sound (a.port c).last live.live in
        let opened = live_open (a.port c).last live.live in
        let other = ap (λ (q : Port). q.others) f.port in
        let last = ap (λ (q : Port). q.last) f.port in
        let f1 = t.faults in
        let f2 = f.faults in
        let kept = ap faults_by last in
        let e1 = t.ends in
        let e2 = f.ends in
        let told = ap ends_told_by last in
        let done : Port = record (b.port c) { owed = false; finished = Some b.nexts } in
        record {
          rest = rest_twice t.rest f.rest;
          others = other ∙ t.others;
          later = let l = t.later in omega (arith, l, f2);
          faults = omega (arith, none, f1, f2, kept);
          ends = omega (arith, opened, e1, e2, told);
          ended = (live.opened.unfinished, (b.nexts, ap (λ (q : Port). q.finished) f.port));
          over = λ end' same. (e, refl, ap (λ (x : Polled). x.outcome) is ∙ cc same);
          served = λ o start turns r x u.
              let y = steps.steps o start turns x.0.fed r x.0.stands in
              let few = x.2 in
              let others = t.others in
              let ends = y.comes.0 in
              let z : Sits v.policy start done (acted_of c (y.more ++ turns)) (Over (polled_as s'.value end)) = (ends, (b.nexts, refl), let_in_by (course (b.port c)) (b.port c).others ends.taken end ends.cause refl (omega (arith, others, few)), y.comes.1) in
              record {
                more = y.more;
                own = y.own;
                running = y.running;
                sits = subst (λ (q : Port). Sits v.policy start q (acted_of c (y.more ++ turns)) (Over e)) (sym f.port) (subst (λ (w : Polled). Sits v.policy start done (acted_of c (y.more ++ turns)) (Over w)) (sym is) z);
                worn_out = λ n same. y.worn_out n (cc same);
                unworn = λ same. absurd cc;
                unowed = λ unfinished. ap (λ (q : Port). q.owed) f.port;
              };
        }
