-- A run to its end.
use Rattle.std.proofs.Common.{◌≡◌, ℕ, ◌+◌, ◌-◌, ◌<◌, ◌≤◌, List, [], ◌∷◌, ◌++◌, map, take, length, get_or, slice_get, refl, sym, ap, subst, ◌∙◌, arith, ⊎_elim, inl, Option, Some}
use Rattle.std.proofs.lemmas.Option.{slice_get_cases, slice_get_within, get_or_from_slice_get}
use Rattle.std.proofs.lemmas.List.{take_all, take_more, map-append, length-map}
use mathlib.Core.Logic.{dite}
use native.Mathlib.Decide.{ℕ_discrete}
use Rattle.gt_base.specs.declared.requests.Entry.{Entry}
use Rattle.gt_io.specs.Ports.{Port, Harbour, KeepsRest}
use Rattle.turn_lock.specs.Turns.{Each}
use Rattle.turn_lock.specs.Holders.{Holder}
use Rattle.policy_words.specs.Naming.{NamedPolicy}
use Rattle.connection_laws.specs.Lines.{Acted}
use Rattle.connection_laws.specs.Services.{service}
use Rattle.connection_laws.specs.Attending.{Bytes}
use Rattle.poll_front.specs.declared.front.RunEnd.{RunEnd}
use Rattle.poll_front.specs.declared.front.RunEnd.TheVariants.{Stopped as EndStopped, PortFault, Enough, Worn as EndWorn, Memory}
use Rattle.poll_front.specs.declared.ends.Polled.{Polled}
use Rattle.poll_front.specs.declared.ends.PollEnd.{PollEnd}
use Rattle.poll_front.specs.declared.ends.PollEnd.TheVariants.{Ended, ReadFault, WriteFault, Spent, Full, Stopped, Worn}
use Rattle.poll_front.specs.declared.seats.LinkRow.{LinkRow}
use Rattle.poll_front.specs.declared.seats.LinkRow.TheVariants.{New, Open, Over}
use Rattle.poll_front.specs.Fronts.{Turn, acted_of, port_bytes, course, faults_by, ends_told_by, EndsLink, HasOwnEnd}
use Rattle.poll_front.specs.Tables.{Sits, IsLetIn, IsLetGo, LetsGo, EndsSeat, AreOpenSeats, Went, Ran, MayGoOn, RunsTo, FaultsAreLast, EndsAreLast, count_among, faults_told, polled_in, port_behind}
use Rattle.poll_front.proofs.Counting.{shown_same}
use Rattle.poll_front.proofs.Looping.{seat_of}
use Rattle.poll_front.proofs.Seating.{ends_blank, ends_stopped}

-- the links that are open at the end are let go one after the other
pub lets_none : (a : Harbour) (seats : List LinkRow) (ends : List Polled) → ends ≡ [] → LetsGo a a seats 0 ends
lets_none a seats ends none =
    record { told = refl; nexts = refl; opened = refl; faults = refl; told_ends = refl; polled = none; each = λ i s low at. absurd (omega (arith, low)); ahead = λ k high. refl }

pub lets_next : (a b d : Harbour) (seats : List LinkRow) (ends : List Polled) (n : ℕ) (seat : LinkRow) (e : Polled) → LetsGo a b seats n ends → n < length seats → seat ≡ get_or seats n seat → EndsSeat b d (n + 1) seat e
    → LetsGo a d seats (n + 1) (ends ++ e ∷ [])
lets_next a b d seats ends n seat e x low is y =
    record {
      told = y.rest.told ∙ x.told;
      nexts = y.rest.nexts ∙ x.nexts;
      opened = y.rest.opened ∙ x.opened;
      faults = y.faults ∙ x.faults;
      told_ends = y.ends ∙ x.told_ends;
      polled = ap (λ (l : List Polled). l ++ e ∷ []) x.polled ∙ ap (λ (z : Polled). map polled_in (take n seats) ++ z ∷ []) (y.polled ∙ ap polled_in is) ∙ sym (ap (map polled_in) (take_more seats n seat low) ∙ map-append polled_in (take n seats) (get_or seats n seat ∷ []));
      each = λ i s under at.
          dite (ℕ_discrete i n) (λ here.
          let s_is : s ≡ seat = sym (get_or_from_slice_get seats i s seat at) ∙ ap (λ (j : ℕ). get_or seats j seat) here ∙ sym is in
          let p : d.port (n + 1) ≡ port_behind seat a.nexts (a.port (n + 1)) = y.port ∙ ap (λ (m : ℕ). port_behind seat m (b.port (n + 1))) x.nexts ∙ ap (port_behind seat a.nexts) (x.ahead (n + 1) (omega arith)) in
          subst (λ (j : ℕ). d.port (j + 1) ≡ port_behind s a.nexts (a.port (j + 1))) (sym here) (subst (λ (w : LinkRow). d.port (n + 1) ≡ port_behind w a.nexts (a.port (n + 1))) (sym s_is) p)) (λ other.
          y.rest.others (i + 1) (λ same. other (omega (arith, same))) ∙ x.each i s (omega (arith, under, other)) at);
      ahead = λ k high. y.rest.others k (λ same. absurd (omega (arith, same, high))) ∙ x.ahead k (omega (arith, high));
    }

-- the seats behind stay open
pub open_next : (b d : Harbour) (seats : List LinkRow) (n : ℕ) → AreOpenSeats b n seats → KeepsRest b d (n + 1) → AreOpenSeats d (n + 1) seats
open_next b d seats n x r = λ i s high at is.
    let o = x i s (omega (arith, high)) at is in
    let last = o.last in
    let same = r.opened in
    record { first = o.first; last = omega (arith, last, same); unfinished = ap (λ (q : Port). q.finished) (r.others (i + 1) (λ e. absurd (omega (arith, e, high)))) ∙ o.unfinished }

let_go_by : (nexts : ℕ) (finished : Option ℕ) (end : PollEnd) → HasOwnEnd end → (n : ℕ) × (finished ≡ Some n) → IsLetGo nexts finished end
let_go_by nexts q Ended own f = f
let_go_by nexts q ReadFault own f = f
let_go_by nexts q WriteFault own f = f
let_go_by nexts q Spent own f = f
let_go_by nexts q Full own f = f
let_go_by nexts q (Worn n) own f = f
let_go_by nexts q Stopped own f = absurd own

abbrev Has : NamedPolicy → Bytes → Port → ℕ → List Acted → Polled → Type 0
Has np start q nexts acted e = EndsLink np start (course q) acted e × IsLetIn q.others e.outcome × IsLetGo nexts q.finished e.outcome

link_ended : (np : NamedPolicy) (start : Bytes) (q : Port) (nexts : ℕ) (acted : List Acted) (s : LinkRow) → Sits np start q acted s → Has np start (port_behind s nexts q) nexts acted (polled_in s)
link_ended np start q nexts acted New x =
    let few = x.4 in
    (subst (λ (l : List Acted). EndsLink np start (course q) l (polled_in New)) (sym x.0) (ends_blank np start (course q) Stopped x.1 (inl refl) x.2), few, refl)
link_ended np start q nexts acted (Open b) x = (ends_stopped np start (course q) b.value acted x.0, x.2, refl)
link_ended np start q nexts acted (Over e) x = (x.0, x.2, let_go_by nexts q.finished e.outcome x.3 x.1)

same_last : (s : LinkRow) (nexts : ℕ) (q : Port) → (port_behind s nexts q).last ≡ q.last
same_last New nexts q = refl
same_last (Open b) nexts q = refl
same_last (Over e) nexts q = refl

module _ {a b : Harbour} {seats : List LinkRow} {ends : List Polled} (l : LetsGo a b seats (length seats) ends) where
  polled_is : ends ≡ map polled_in seats
  polled_is = l.polled ∙ ap (map polled_in) (take_all (length seats) seats (omega arith))

  last_kept : (k : ℕ) → 1 ≤ k → k ≤ length seats → (b.port k).last ≡ (a.port k).last
  last_kept k first low =
      let back : k - 1 + 1 ≡ k = omega (arith, first) in
      ⊎_elim (λ some.
      subst (λ (j : ℕ). (b.port j).last ≡ (a.port j).last) back (ap (λ (q : Port). q.last) (l.each (k - 1) some.0 some.1 some.2) ∙ same_last some.0 a.nexts (a.port (k - 1 + 1)))) (λ none.
      let past = none.0 in absurd (omega (arith, past, first, low))) (slice_get_cases seats (k - 1)).1

  faults_last : (start : Harbour) → a.opened ≡ length seats → FaultsAreLast start a → FaultsAreLast start b
  faults_last start opened f =
      let same = l.faults in
      let told = ap faults_told l.told in
      let all = ap (count_among faults_by b.port) l.opened in
      let shown = shown_same faults_by a.port b.port a.opened (λ k first low. last_kept k first (omega (arith, low, opened))) in
      omega (arith, f, same, told, all, shown)

  ends_last : (start : Harbour) → a.opened ≡ length seats → EndsAreLast start a → EndsAreLast start b
  ends_last start opened f =
      let same = l.told_ends in
      let all = ap (count_among ends_told_by b.port) l.opened in
      let shown = shown_same ends_told_by a.port b.port a.opened (λ k first low. last_kept k first (omega (arith, low, opened))) in
      omega (arith, f, same, all, shown)

  runs_to : (start : Harbour) (draws : ℕ) (end : RunEnd) → RunsTo start a draws ends end → RunsTo start b draws ends end
  runs_to start draws EndStopped g = let few = g.1 in let same = l.opened in (l.told ∙ g.0, omega (arith, few, same), g.2)
  runs_to start draws PortFault g = let few = g.2 in let same = l.opened in let rose = g.1 in let faults = l.faults in ((g.0.0, l.told ∙ g.0.1), omega (arith, rose, faults), omega (arith, few, same), g.3)
  runs_to start draws Enough g = ((g.0.0, l.told ∙ g.0.1), l.opened ∙ g.1, g.2)
  runs_to start draws EndWorn g = ((g.0.0, l.told ∙ g.0.1), g.1, g.2)
  runs_to start draws Memory g = let few = g.1 in let same = l.opened in (subst MayGoOn (sym l.told) g.0, omega (arith, few, same), g.2)

pub ran_of : {M : Type 0} {np : NamedPolicy} {first : List Entry} {legal : List Entry → Type 0} {now : List Entry → ℕ} {before after : Holder M} {clock clock' : Option (ℕ → ℕ)} {start a b : Harbour} {seats : List LinkRow} {ends : List Polled} {end : RunEnd}
    → Went (service np first legal now) before after clock clock' start a seats end → LetsGo a b seats (length seats) ends → Ran np first legal now before.number before after clock clock' start b ends end
ran_of {np = np} {after = after} {start = start} {a = a} {b = b} {seats = seats} {ends = ends} {end = end} w l =
    let t = w.tabled in
    let same = l.opened in
    let is = polled_is l in
    record {
      counters = w.counters;
      turns = w.turns;
      number_is = refl;
      running = t.running;
      count = ap (λ (es : List Polled). length es) is ∙ length-map seats polled_in ∙ sym t.opened ∙ sym same;
      links = λ i e at.
          let s = seat_of seats i e (subst (λ (es : List Polled). slice_get es i ≡ Some e) is at) in
          let low = slice_get_within seats i s.0 s.1 in
          let start_is = port_bytes (start.port (i + 1)) in
          subst (λ (n : ℕ). Has np start_is (b.port (i + 1)) n (acted_of (i + 1) w.turns) e) (sym l.nexts)
          (subst (λ (q : Port). Has np start_is q a.nexts (acted_of (i + 1) w.turns) e) (sym (l.each i s.0 low s.1))
          (subst (λ (z : Polled). Has np start_is (port_behind s.0 a.nexts (a.port (i + 1))) a.nexts (acted_of (i + 1) w.turns) z) (sym s.2) (link_ended np start_is (a.port (i + 1)) a.nexts (acted_of (i + 1) w.turns) s.0 (t.sits i s.0 s.1))));
      fresh = λ k one low. t.fresh k one (omega (arith, low, same));
      range = subst (λ (n : ℕ). Each (λ (z : Turn). (1 ≤ z.link) × (z.link ≤ n)) w.turns) (sym same) t.range;
      runs = runs_to l start after.draws end (subst (λ (es : List Polled). RunsTo start a after.draws es end) (sym is) w.runs);
      faults = faults_last l start t.opened t.faults;
      ends = ends_last l start t.opened t.ends;
    }
