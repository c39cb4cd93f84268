-- One event after another.
use Rattle.std.proofs.Common.{◌≡◌, ◌≢◌, ℕ, ◌+◌, ◌-◌, ◌<◌, ◌≤◌, Bool, true, false, List, [], ◌∷◌, ◌++◌, map, option_map, length, set, get_or, slice_get, refl, sym, ap, subst, ◌∙◌, arith, length-append, ⊎_elim, Option, Some, None, Result, Ok, Err, MatchOption}
use Rattle.std.proofs.lemmas.List.{length-set, get_or-set_same, set-get_or}
use Rattle.std.proofs.lemmas.Option.{slice_get-get_or, slice_get-map, slice_get_cases}
use Rattle.std.specs.Prelude.{if◌then◌else◌}
use mathlib.Core.Logic.{dite}
use native.Mathlib.Decide.{ℕ_discrete, dec_lt}
use Rattle.gt_io.specs.declared.port.PortEvent.TheVariants.{Opened, Ready, Stop}
use Rattle.gt_io.specs.declared.port.PortEvent.{PortEvent}
use Rattle.gt_io.specs.declared.source.Failed.{Failed}
use Rattle.gt_io.specs.Ports.{Port, Harbour, Happens, Nexts, Finishes, NoneOwed, is_none, open_among, newly}
use Rattle.connection_laws.specs.Services.{Service}
use Rattle.poll_front.specs.declared.ends.Polled.{Polled}
use Rattle.poll_front.specs.declared.ends.PollEnd.{PollEnd}
use Rattle.poll_front.specs.declared.ends.PollEnd.TheVariants.{Ended, ReadFault, WriteFault, Spent, Full, Stopped, Worn}
use Rattle.poll_front.specs.declared.front.RunEnd.TheVariants.{Worn as EndWorn}
use Rattle.poll_front.specs.declared.seats.LinkRow.{LinkRow}
use Rattle.poll_front.specs.declared.seats.LinkRow.TheVariants.{New, Over}
use Rattle.poll_front.specs.Fronts.{Turn, FrontSpot, acted_of, port_bytes, course}
use Rattle.poll_front.specs.Tables.{CanServeSeat, TakesState, IsBlank, Sits, SeatGone, SeatServed, Tabled, AreUnwornEnds, MayGoOn, RunsTo, faults_told, is_worn_end, polled_in}
use Rattle.gt_io.proofs.Counting.{count_less}
use Rattle.poll_front.proofs.Seating.{ends_blank}
use Rattle.poll_front.proofs.ListSteps.{set_cases, push_cases}
use Rattle.poll_front.proofs.SeatSteps.{IsCalm, served_from}
use Rattle.poll_front.proofs.Serving.{can_serve, counters_few}
use Rattle.poll_front.proofs.Tabling.{tabled_owed, tabled_served, tabled_seated, ready_owed, ready_away, opened_away, opened_here}
use Rattle.poll_front.specs.declared.front.TheConstants.{MAX_OPEN}

-- no seat has an end by which the pass is worn
abbrev pub AreUnwornSeats : List LinkRow → Type 0
AreUnwornSeats seats = (i : ℕ) (s : LinkRow) → slice_get seats i ≡ Some s → IsCalm s

-- the last seat is not worn, nor were the others
unworn_push : (seats : List LinkRow) (s : LinkRow) → AreUnwornSeats seats → IsCalm s → AreUnwornSeats (seats ++ s ∷ [])
unworn_push seats s all one = λ i z at. ⊎_elim (λ here. subst IsCalm (sym here.1) one) (λ before. all i z before.1) (push_cases seats i s z at)

unworn_set : (seats : List LinkRow) (i : ℕ) (s : LinkRow) → i < length seats → AreUnwornSeats seats → IsCalm s → AreUnwornSeats (set seats i s)
unworn_set seats i s low all one = λ j z at. ⊎_elim (λ here. subst IsCalm (sym here.1) one) (λ away. all j z away.1) (set_cases seats i j s z low at)

false_true : false ≡ true → ⊥
false_true e = absurd cc

-- where a run may go on, no fault was told
told_sound : (o : Option (Result PortEvent Failed)) → MayGoOn o → faults_told o ≡ 0
told_sound None m = refl
told_sound (Some (Ok (Opened c))) m = refl
told_sound (Some (Ok (Ready c))) m = refl
told_sound (Some (Ok Stop)) m = absurd m
told_sound (Some (Err f)) m = absurd m

same_owed : (p q : Port) → q ≡ p → q ≡ record p { owed = q.owed }
same_owed p q is = is ∙ ap (λ (o : Bool). record p { owed = o }) (sym (ap (λ (r : Port). r.owed) is))

worn_of : (end : PollEnd) → is_worn_end end ≡ true → (n : ℕ) × (end ≡ Worn n)
worn_of (Worn n) e = (n, refl)
worn_of Ended e = absurd (false_true e)
worn_of ReadFault e = absurd (false_true e)
worn_of WriteFault e = absurd (false_true e)
worn_of Spent e = absurd (false_true e)
worn_of Full e = absurd (false_true e)
worn_of Stopped e = absurd (false_true e)

-- what the links of these seats come to
pub seat_of : (seats : List LinkRow) (i : ℕ) (e : Polled) → slice_get (map polled_in seats) i ≡ Some e → (s : LinkRow) × (slice_get seats i ≡ Some s) × (e ≡ polled_in s)
seat_of seats i e at =
    let mapped : option_map polled_in (slice_get seats i) ≡ Some e = sym (slice_get-map polled_in seats i) ∙ at in
    ⊎_elim (λ some. let is : Some (polled_in some.0) ≡ Some e = sym (ap (option_map polled_in) some.2) ∙ mapped in (some.0, some.2, cc)) (λ none. let no : None ≡ Some e = sym (ap (option_map polled_in) none.1) ∙ mapped in absurd cc) (slice_get_cases seats i).1

pub unworn_ends : (seats : List LinkRow) → AreUnwornSeats seats → AreUnwornEnds (map polled_in seats)
unworn_ends seats calm = λ i e at. let s = seat_of seats i e at in ap (λ (z : Polled). is_worn_end z.outcome) s.2 ∙ calm i s.0 s.1

over_at : (seats : List LinkRow) (i : ℕ) (s : LinkRow) (e : Polled) → i < length seats → s ≡ Over e → slice_get (map polled_in (set seats i s)) i ≡ Some e
over_at seats i s e low is =
    let long = length-set seats i s in
    slice_get-map polled_in (set seats i s) i ∙ ap (option_map polled_in) (slice_get-get_or (set seats i s) i s (omega (arith, low, long)) ∙ ap Some (get_or-set_same seats i s s low ∙ is))

-- the table as the loop over events has it
pub record Held {M : Type 0} (v : Service) (o p : FrontSpot M) (start a : Harbour) (seats : List LinkRow) (busy : ℕ) : Type 0 where
  pub turns : List Turn
  pub tabled : Tabled v o p start a seats busy turns
  pub unworn : AreUnwornSeats seats
  pub unowed : NoneOwed a
  pub sound : MayGoOn a.told
  pub low : busy ≤ 1024

module _ {M : Type 0} {v : Service} {o p : FrontSpot M} {start a : Harbour} {seats : List LinkRow} {busy : ℕ} (x : Held v o p start a seats busy) where
  -- the table behind an event that opens no link and makes none ready
  pub tabled_told : {b : Harbour} {result : Result PortEvent Failed} → Happens a b result → b.opened ≡ a.opened → b.faults ≤ a.faults + faults_told b.told → ((k : ℕ) → b.port k ≡ a.port k) → Tabled v o p start b seats busy x.turns
  tabled_told {b} h opened few same = tabled_owed v o p start a b seats busy x.turns x.tabled opened h.cause.later (told_sound a.told x.sound) few h.ends (λ k. same_owed (a.port k) (b.port k) (same k))

  unowed_next : (d : Harbour) (c : ℕ) → c ≡ a.opened + 1 → d.opened ≡ a.opened + 1 → (d.port c).owed ≡ false → ((k : ℕ) → k ≢ c → d.port k ≡ a.port k) → NoneOwed d
  unowed_next d c is opened here away = λ k q.
      dite (ℕ_discrete k c) (λ same. subst (λ (j : ℕ). (d.port j).owed ≡ false) (sym same) here) (λ other.
      let e = away k other in
      let last = q.last in
      ap (λ (r : Port). r.owed) e ∙ x.unowed k (record { first = q.first; last = omega (arith, last, opened, is, other); unfinished = sym (ap (λ (r : Port). r.finished) e) ∙ q.unfinished }))

  -- the table behind the opening of a link
  module _ {b : Harbour} {c : ℕ} (n : Nexts a b (Ok (Opened c))) where
    abbrev Seated : Harbour → List LinkRow → ℕ → Type 0
    Seated d seats' busy' = Held v o p start d seats' busy' × (length seats' ≡ length seats + 1) × (d.told ≡ Some (Ok (Opened c)))

    seated : (d : Harbour) (s : LinkRow) (seats' : List LinkRow) (busy' : ℕ) → Tabled v o p start d (seats ++ s ∷ []) busy' x.turns → IsCalm s → d.opened ≡ a.opened + 1 → (d.port c).owed ≡ false → ((k : ℕ) → k ≢ c → d.port k ≡ a.port k) → busy' ≤ 1024 → d.told ≡ b.told → seats' ≡ seats ++ s ∷ [] → Seated d seats' busy'
    seated d s seats' busy' t calm opened unowed away low told is =
        let told_is : d.told ≡ Some (Ok (Opened c)) = told ∙ n.told in
        subst (λ (l : List LinkRow). Seated d l busy') (sym is)
        (record { turns = x.turns; tabled = t; unworn = unworn_push seats s x.unworn calm; unowed = unowed_next d c (n.happens.number c refl) opened unowed away; sound = subst MayGoOn (sym told_is) tt; low = low }, length-append seats (s ∷ []), told_is)

    is : c ≡ a.opened + 1
    is = n.happens.number c refl

    here_is : b.port (a.opened + 1) ≡ newly (open_among a.port a.opened) (a.port (a.opened + 1))
    here_is = subst (λ (j : ℕ). b.port j ≡ newly (open_among a.port a.opened) (a.port j)) is (opened_here a b c n.happens)

    blank_is : IsBlank (a.port (a.opened + 1))
    blank_is = subst (λ (j : ℕ). IsBlank (a.port j)) is (n.happens.fresh c refl)

    opened_full : (d : Harbour) (seats' : List LinkRow) (busy' : ℕ) → MAX_OPEN ≤ busy → Finishes b d c → busy' ≡ busy → seats' ≡ seats ++ Over (record { asked = 0; denied = 0; outcome = Full }) ∷ [] → Seated d seats' busy'
    opened_full d seats' busy' many f busy_is seats_are =
        let h = n.happens in
        let s : LinkRow = Over (record { asked = 0; denied = 0; outcome = Full }) in
        let others = open_among a.port a.opened in
        let done : Port = record (newly others (a.port (a.opened + 1))) { owed = false; finished = Some b.nexts } in
        let begun = port_bytes (start.port (a.opened + 1)) in
        let opened : d.opened ≡ a.opened + 1 = f.rest.opened ∙ h.opened in
        let away : (k : ℕ) → k ≢ c → d.port k ≡ a.port k = λ k other. f.rest.others k other ∙ opened_away a b c k h other in
        let port : d.port (a.opened + 1) ≡ done =
        subst (λ (j : ℕ). d.port j ≡ record (b.port j) { owed = false; finished = Some b.nexts }) is f.port ∙ ap (λ (q : Port). record q { owed = false; finished = Some b.nexts }) here_is in
        let count = x.tabled.count in
        let low = x.low in
        let same = x.tabled.ahead (a.opened + 1) (omega arith) in
        let l1 = h.cause.later in
        let l2 = f.faults in
        let l3 = h.cause.kept in
        let none : (if is_none (d.port (a.opened + 1)).finished then 1 else 0) ≡ 0 = ap {B = ℕ} (λ (q : Port). if is_none q.finished then 1 else 0) port in
        let t : Tabled v o p start d (seats ++ s ∷ []) busy' x.turns =
        tabled_seated v o p start a d seats busy busy' x.turns s x.tabled opened (omega (arith, l1, l2)) (told_sound a.told x.sound) (omega (arith, l2, l3)) (f.ends ∙ h.ends) blank_is (λ k other. away k (λ e. other (e ∙ is)))
        (subst (λ (q : Port). Sits v.policy begun q [] s) (sym port) (ends_blank v.policy begun (course done) Full same (refl, refl, refl, refl) (refl, omega (arith, many, count)), (b.nexts, refl), omega (arith, many, low, count), tt)) (omega (arith, busy_is, count, none)) in
        seated d s seats' busy' t refl opened (ap (λ (q : Port). q.owed) f.port) away (omega (arith, busy_is, low)) f.rest.told seats_are

    opened_seated : (seats' : List LinkRow) (busy' : ℕ) → busy < MAX_OPEN → busy' ≡ busy + 1 → seats' ≡ seats ++ New ∷ [] → Seated b seats' busy'
    opened_seated seats' busy' few busy_is seats_are =
        let h = n.happens in
        let s : LinkRow = New in
        let count = x.tabled.count in
        let kept = h.cause.kept in
        let opened : b.opened ≡ a.opened + 1 = h.opened in
        let away : (k : ℕ) → k ≢ c → b.port k ≡ a.port k = λ k other. opened_away a b c k h other in
        let one : (if is_none (b.port (a.opened + 1)).finished then 1 else 0) ≡ 1 = ap {B = ℕ} (λ (q : Port). if is_none q.finished then 1 else 0) here_is in
        let t : Tabled v o p start b (seats ++ s ∷ []) busy' x.turns =
        tabled_seated v o p start a b seats busy busy' x.turns s x.tabled opened h.cause.later (told_sound a.told x.sound) (omega (arith, kept)) h.ends blank_is (λ k other. away k (λ e. other (e ∙ is)))
        (subst (λ (q : Port). Sits v.policy (port_bytes (start.port (a.opened + 1))) q [] s) (sym here_is) (refl, x.tabled.ahead (a.opened + 1) (omega arith), refl, refl, omega (arith, few, count))) (omega (arith, busy_is, count, one)) in
        seated b s seats' busy' t refl opened (ap (λ (q : Port). q.owed) (opened_here a b c h)) away (omega (arith, busy_is, few)) refl seats_are

    pub opened_next : (d : Harbour) (seats' : List LinkRow) (busy' : ℕ) → (MAX_OPEN ≤ busy → Finishes b d c × (busy' ≡ busy) × (seats' ≡ seats ++ Over (record { asked = 0; denied = 0; outcome = Full }) ∷ []))
        → (busy < MAX_OPEN → (d ≡ b) × (busy' ≡ busy + 1) × (seats' ≡ seats ++ New ∷ [])) → Seated d seats' busy'
    opened_next d seats' busy' full free =
        dite (dec_lt busy 1024) (λ few. let q = free few in subst (λ (z : Harbour). Seated z seats' busy') (sym q.0) (opened_seated seats' busy' few q.1 q.2)) (λ many.
        let high : MAX_OPEN ≤ busy = omega (arith, many) in
        let q = full high in opened_full d seats' busy' high q.0 q.1 q.2)

  -- the table behind the service of a link that was ready
  module _ {b : Harbour} {c : ℕ} (n : Nexts a b (Ok (Ready c))) where
    pub tabled_ready : Tabled v o p start b seats busy x.turns
    tabled_ready =
        let h = n.happens in
        let kept = h.cause.kept in
        tabled_owed v o p start a b seats busy x.turns x.tabled h.opened h.cause.later (told_sound a.told x.sound) (omega (arith, kept)) h.ends (λ k. ready_owed a b c k h)

    module _ {seat : LinkRow} (value : seat ≡ get_or seats (c - 1) seat) where
      first_one : 1 ≤ c
      first_one = (n.happens.known c refl).0

      low : c - 1 < length seats
      low = let one = first_one in let last = (n.happens.known c refl).1 in let opened = x.tabled.opened in omega (arith, one, last, opened)

      at : slice_get seats (c - 1) ≡ Some seat
      at = slice_get-get_or seats (c - 1) seat low ∙ ap Some (sym value)

      back : c - 1 + 1 ≡ c
      back = let one = first_one in omega (arith, one)

      pub ready_served : (mid : LinkRow) → TakesState seat mid → o.counters.calls ≡ 0 → length seats < 100_000 → CanServeSeat v.policy b c p.counters mid
      ready_served mid taken none few =
          let last = (n.happens.known c refl).1 in
          let opened = n.happens.opened in
          can_serve v.policy (port_bytes (start.port c)) b c p.counters (acted_of c x.turns) seat mid taken first_one (omega (arith, last, opened)) (subst (λ (j : ℕ). Sits v.policy (port_bytes (start.port j)) (b.port j) (acted_of j x.turns) seat) back (tabled_ready.sits (c - 1) seat at))
          (counters_few x.tabled (omega (arith, few)) none)

      pub kept_seats : (seat' : LinkRow) → seat' ≡ seat → set seats (c - 1) seat' ≡ seats
      kept_seats seat' same = ap (set seats (c - 1)) (same ∙ value) ∙ set-get_or seats (c - 1) seat

      module _ {p' : FrontSpot M} {d : Harbour} {mid seat' : LinkRow} {result : Option PollEnd} (taken : TakesState seat mid) (w : SeatServed v p p' b d c mid seat' result) where
        served : SeatServed v p p' b d c seat seat' result
        served = served_from v p p' b d c seat mid seat' result taken w

        gone_at : SeatServed v p p' b d (c - 1 + 1) seat seat' result
        gone_at = subst (λ (j : ℕ). SeatServed v p p' b d j seat seat' result) (sym back) served

        pub gone : SeatGone v o p' (port_bytes (start.port (c - 1 + 1))) (d.port (c - 1 + 1)) (c - 1 + 1) x.turns seat' result
        gone = gone_at.served o (port_bytes (start.port (c - 1 + 1))) x.turns tabled_ready.running (tabled_ready.sits (c - 1) seat at) (x.unworn (c - 1) seat at)

        told_is : d.told ≡ Some (Ok (Ready c))
        told_is = served.rest.told ∙ n.told

        tabled_next : (busy' : ℕ) → MatchOption result (busy' ≡ busy) (λ end. busy' + 1 ≡ busy) → Tabled v o p' start d (set seats (c - 1) seat') busy' (gone.more ++ x.turns)
        tabled_next busy' count = tabled_served v o p p' start b d seats busy busy' (c - 1) x.turns seat seat' result tabled_ready at low gone_at.rest gone_at.later gone_at.faults gone_at.ends gone_at.ended count gone

        pub served_next : (busy' : ℕ) → MatchOption result (busy' ≡ busy) (λ end. busy' + 1 ≡ busy) → busy' ≤ busy → IsCalm seat' → Held v o p' start d (set seats (c - 1) seat') busy'
        served_next busy' count less calm =
            let high = x.low in
            record {
              turns = gone.more ++ x.turns;
              tabled = tabled_next busy' count;
              unworn = unworn_set seats (c - 1) seat' low x.unworn calm;
              unowed = λ k q.
                  let opened = served.rest.opened in
                  dite (ℕ_discrete k c) (λ same.
                  let e : k ≡ c - 1 + 1 = same ∙ sym back in
                  subst (λ (j : ℕ). (d.port j).owed ≡ false) (sym e) (gone.unowed (subst (λ (j : ℕ). (d.port j).finished ≡ None) e q.unfinished))) (λ other.
                  let e = served.rest.others k other ∙ ready_away a b c k n.happens other in
                  let last = q.last in
                  let same = n.happens.opened in
                  ap (λ (r : Port). r.owed) e ∙ x.unowed k (record { first = q.first; last = omega (arith, last, opened, same); unfinished = sym (ap (λ (r : Port). r.finished) e) ∙ q.unfinished }));
              sound = subst MayGoOn (sym told_is) tt;
              low = omega (arith, high, less);
            }

        pub over_unworn : (end : PollEnd) → result ≡ Some end → is_worn_end end ≡ false → IsCalm seat'
        over_unworn end is calm = let over = served.over end is in subst IsCalm (sym over.1) (ap is_worn_end over.2 ∙ calm)

        pub still_unworn : result ≡ None → IsCalm seat'
        still_unworn is = gone.unworn is

        pub some_busy : (end : PollEnd) → result ≡ Some end → 1 ≤ busy
        some_busy end is =
            let At : Option PollEnd → Type 0 = λ r. MatchOption r ((d.port c).finished ≡ (b.port c).finished) (λ z. ((b.port c).finished ≡ None) × ((n : ℕ) × ((d.port c).finished ≡ Some n))) in
            let e : At (Some end) = subst At is served.ended in
            let opened = tabled_ready.opened in
            let one = first_one in
            let within = low in
            let less = count_less b.port d.port c e.1.0 b.opened one (omega (arith, opened, within, one)) e.0 e.1.1 (λ k other. ap (λ (q : Port). q.finished) (served.rest.others k other)) in
            let count = tabled_ready.count in
            omega (arith, less, count)

        -- its pass was worn
        pub worn_next : (end : PollEnd) → result ≡ Some end → is_worn_end end ≡ true → Tabled v o p' start d (set seats (c - 1) seat') (busy - 1) (gone.more ++ x.turns) × RunsTo start d p'.pass.draws (map polled_in (set seats (c - 1) seat')) EndWorn
        worn_next end is worn =
            let w = worn_of end worn in
            let over = served.over end is in
            let some = some_busy end is in
            let less : busy - 1 + 1 ≡ busy = omega (arith, some) in
            (tabled_next (busy - 1) (subst (λ (r : Option PollEnd). MatchOption r (busy - 1 ≡ busy) (λ z. busy - 1 + 1 ≡ busy)) (sym is) less), ((c, told_is), gone.worn_out w.0 (is ∙ ap Some w.1), (c - 1, (over.0, over_at seats (c - 1) seat' over.0 low over.1, ap is_worn_end over.2 ∙ worn))))
