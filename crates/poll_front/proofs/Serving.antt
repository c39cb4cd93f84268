-- What the loop over events keeps.
use Rattle.std.proofs.Common.{◌≡◌, ℕ, ◌+◌, ◌-◌, ◌*◌, ◌≤◌, false, List, [], ◌∷◌, length, refl, sym, ap, subst, ◌∙◌, arith, length-append, ⊎_elim, Some, None}
use Rattle.std.proofs.lemmas.Option.{slice_get_within, slice_get_cases}
use Rattle.gt_io.specs.Ports.{Port, Harbour, is_over, AreFinished}
use Rattle.policy_words.specs.Naming.{NamedPolicy}
use Rattle.connection_laws.specs.Lines.{Acted, asked_in, denied_in, is_replied, is_denied}
use Rattle.connection_laws.specs.Attending.{Bytes}
use Rattle.connection_laws.specs.Services.{Service}
use Rattle.poll_front.specs.declared.seats.LinkRow.{LinkRow}
use Rattle.poll_front.specs.declared.seats.LinkRow.TheVariants.{New, Open, Over}
use Rattle.poll_front.specs.declared.states.RunCounters.{RunCounters}
use Rattle.poll_front.specs.Fronts.{Turn, FrontSpot, acted_of, port_bytes, waiting_bytes}
use Rattle.poll_front.specs.Tables.{Sits, CanServeSeat, TakesState, Tabled, IsOpenSeat, AreOpenSeats}
use Rattle.poll_front.proofs.Hearing.{one_at_most}
use Rattle.poll_front.proofs.Standing.{last_within, waits_long}
use Rattle.poll_front.proofs.Seating.{takes_sits}
use Rattle.poll_front.proofs.Sums.{calls_few}

asked_few : (acted : List Acted) → asked_in acted ≤ length acted
asked_few [] = omega arith
asked_few (a ∷ before) = let x = asked_few before in let y = one_at_most (is_replied a.answer) in omega (arith, x, y)

denied_few : (acted : List Acted) → denied_in acted ≤ length acted
denied_few [] = omega arith
denied_few (a ∷ before) = let x = denied_few before in let y = one_at_most (is_denied a.answer) in omega (arith, x, y)

-- no link has more lines than bytes
lines_few : (np : NamedPolicy) (start : Bytes) (q : Port) (acted : List Acted) (s : LinkRow) → Sits np start q acted s → length acted ≤ 67_108_864
lines_few np start q acted New x = let none = ap (λ (l : List Acted). length l) x.0 in omega (arith, none)
lines_few np start q acted (Open b) x =
    let y = x.0.stands in
    let few = y.heard.few in
    let counted = y.counted in
    let long = length-append x.0.fed (waiting_bytes b.value) in
    omega (arith, few, counted, long)
lines_few np start q acted (Over e) x = let few = x.0.few in let bounded = x.0.carries.bounded in omega (arith, few, bounded)

-- a link that is open can be served
can_serve_seat : (np : NamedPolicy) (start : Bytes) (a : Harbour) (c : ℕ) (counters : RunCounters) (acted : List Acted) (s : LinkRow) → (s ≡ New → ⊥) → 1 ≤ c → c ≤ a.opened → Sits np start (a.port c) acted s → counters.calls ≤ 100_000 * 67_108_864 → CanServeSeat np a c counters s
can_serve_seat np start a c counters acted New old first last x calls = absurd (old refl)
can_serve_seat np start a c counters acted (Open b) old first last x calls =
    let s = b.value in
    let y = x.0.stands in
    let few = y.heard.few in
    let counted = y.counted in
    let long = length-append x.0.fed (waiting_bytes s) in
    let within = y.within in
    let waits = waits_long s within.0 within.2 in
    let asked = y.heard.asked in
    let denied = y.heard.denied in
    let a1 = asked_few acted in
    let d1 = denied_few acted in
    record {
      live = record { opened = record { first = first; last = last; unfinished = x.1 }; live = x.0.live };
      told = last_within np acted s.told s.at y.told;
      waits = (within.0, within.1);
      talk = record { actor = y.heard.named; asked = omega (arith, few, counted, long, waits, asked, a1); denied = omega (arith, few, counted, long, waits, denied, d1); calls = omega (arith, counted, long, waits, calls) };
    }
can_serve_seat np start a c counters acted (Over e) old first last x calls = tt

takes_not_new : (s : LinkRow) → TakesState s New → ⊥
takes_not_new New t = t
takes_not_new (Open b) t = absurd cc
takes_not_new (Over e) t = absurd cc

pub can_serve : (np : NamedPolicy) (start : Bytes) (a : Harbour) (c : ℕ) (counters : RunCounters) (acted : List Acted) (s s' : LinkRow) → TakesState s s' → 1 ≤ c → c ≤ a.opened → Sits np start (a.port c) acted s → counters.calls ≤ 100_000 * 67_108_864 → CanServeSeat np a c counters s'
can_serve np start a c counters acted s s' t first last x calls =
    can_serve_seat np start a c counters acted s' (λ is. takes_not_new s (subst (TakesState s) is t)) first last (takes_sits np start (a.port c) acted s s' t x) calls

live_seat : (np : NamedPolicy) (start : Bytes) (q : Port) (acted : List Acted) (s : LinkRow) → Sits np start q acted s → q.finished ≡ None → is_over q.last ≡ false
live_seat np start q acted New x unfinished = x.2
live_seat np start q acted (Open b) x unfinished = x.0.live
live_seat np start q acted (Over e) x unfinished = let no : Some x.1.0 ≡ None = sym x.1.1 ∙ unfinished in absurd cc

open_seat : (np : NamedPolicy) (start : Bytes) (q : Port) (acted : List Acted) (s : LinkRow) → Sits np start q acted s → IsOpenSeat s → q.finished ≡ None
open_seat np start q acted New x is = x.3
open_seat np start q acted (Open b) x is = x.1
open_seat np start q acted (Over e) x is = absurd is

module _ {M : Type 0} {v : Service} {o p : FrontSpot M} {start a : Harbour} {seats : List LinkRow} {busy : ℕ} {turns : List Turn} (x : Tabled v o p start a seats busy turns) where
  sits_at : (k : ℕ) → 1 ≤ k → k ≤ a.opened → (s : LinkRow) × Sits v.policy (port_bytes (start.port k)) (a.port k) (acted_of k turns) s
  sits_at k first last =
      let opened = x.opened in
      let e : k - 1 + 1 ≡ k = omega (arith, first) in
      ⊎_elim (λ at. (at.0, subst (λ (j : ℕ). Sits v.policy (port_bytes (start.port j)) (a.port j) (acted_of j turns) at.0) e (x.sits (k - 1) at.0 at.2))) (λ no. let past = no.0 in absurd (omega (arith, past, opened, first, last)))
      (slice_get_cases seats (k - 1)).1

  -- each link that has come to its end is finished
  pub are_finished : AreFinished a
  are_finished = λ k o.
      let s = sits_at k o.first o.last in live_seat v.policy (port_bytes (start.port k)) (a.port k) (acted_of k turns) s.0 s.1 o.unfinished

  pub are_open : AreOpenSeats a 0 seats
  are_open = λ i s low at is.
      let within = slice_get_within seats i s at in
      let opened = x.opened in
      record { first = omega arith; last = omega (arith, within, opened); unfinished = open_seat v.policy (port_bytes (start.port (i + 1))) (a.port (i + 1)) (acted_of (i + 1) turns) s (x.sits i s at) is }

  pub counters_few : length seats ≤ 100_000 → o.counters.calls ≡ 0 → p.counters.calls ≤ 100_000 * 67_108_864
  counters_few few none =
      let calls = x.running.calls in
      let opened = x.opened in
      let all = calls_few a.opened turns x.running.brief x.range (λ k first last. let s = sits_at k first last in lines_few v.policy (port_bytes (start.port k)) (a.port k) (acted_of k turns) s.0 s.1) in
      omega (arith, calls, none, all, few, opened)
