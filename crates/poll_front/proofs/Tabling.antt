-- The table from event to event.
use Rattle.std.proofs.Common.{◌≡◌, ◌≢◌, ℕ, suc, ◌+◌, ◌<◌, ◌≤◌, Bool, true, false, ◌==◌, List, [], ◌∷◌, ◌++◌, length, set, slice_get, refl, sym, ap, subst, ◌∙◌, arith, eq-eqb, ne_eqb, length-append, ⊎_elim, Option, Some, None, Ok, MatchOption}
use Rattle.std.proofs.lemmas.List.{length-set}
use Rattle.std.specs.Prelude.{if◌then◌else◌}
use Rattle.std.proofs.lemmas.Option.{slice_get_within}
use Rattle.gt_io.specs.declared.port.PortEvent.TheVariants.{Opened, Ready}
use Rattle.gt_io.specs.Links.{IsNothing}
use Rattle.gt_io.specs.Ports.{Port, Harbour, KeepsRest, Happens, is_none, open_among, newly, readied}
use Rattle.turn_lock.specs.Turns.{Each}
use Rattle.turn_lock.proofs.Totals.{each-append}
use Rattle.connection_laws.specs.Attending.{Bytes}
use Rattle.connection_laws.specs.Services.{Service}
use Rattle.connection_laws.specs.Lines.{Acted}
use Rattle.poll_front.specs.declared.ends.PollEnd.{PollEnd}
use Rattle.poll_front.specs.declared.seats.LinkRow.{LinkRow}
use Rattle.poll_front.specs.Fronts.{Turn, FrontSpot, acted_of, port_bytes, faults_by, ends_told_by}
use Rattle.poll_front.specs.Tables.{Sits, IsBlank, SeatGone, Tabled, count_among, faults_told}
use mathlib.Core.Logic.{dite}
use native.Mathlib.Decide.{ℕ_discrete}
use Rattle.gt_io.proofs.Counting.{count_same, count_less}
use Rattle.poll_front.proofs.Counting.{shown_same, shown_moved}
use Rattle.poll_front.proofs.Turning.{acted_apart, apart_all, running_none}
use Rattle.poll_front.proofs.Seating.{sits_owed}
use Rattle.poll_front.proofs.ListSteps.{set_cases, push_cases}

-- a link whose number is behind those of all turns has no line
acted_none : (c n : ℕ) (turns : List Turn) → Each (λ (t : Turn). (1 ≤ t.link) × (t.link ≤ n)) turns → n < c → acted_of c turns ≡ []
acted_none c n [] range ahead = refl
acted_none c n (t ∷ ts) range ahead =
    acted_apart c t ts (λ same. let high = range.0.1 in absurd (omega (arith, same, high, ahead))) ∙ acted_none c n ts range.1 ahead

own_range : (c n : ℕ) (more : List Turn) → Each (λ (t : Turn). t.link ≡ c) more → 1 ≤ c → c ≤ n → Each (λ (t : Turn). (1 ≤ t.link) × (t.link ≤ n)) more
own_range c n [] own first last = tt
own_range c n (t ∷ ts) own first last = let is = own.0 in ((omega (arith, is, first), omega (arith, is, last)), own_range c n ts own.1 first last)

range_wider : (n n' : ℕ) (turns : List Turn) → n ≤ n' → Each (λ (t : Turn). (1 ≤ t.link) × (t.link ≤ n)) turns → Each (λ (t : Turn). (1 ≤ t.link) × (t.link ≤ n')) turns
range_wider n n' [] low r = tt
range_wider n n' (t ∷ ts) low r = let high = r.0.1 in ((r.0.0, omega (arith, high, low)), range_wider n n' ts low r.1)

counted_by : (a b : Harbour) (c busy busy' : ℕ) → busy ≡ open_among a.port a.opened → 1 ≤ c → c ≤ a.opened → KeepsRest a b c → (result : Option PollEnd)
    → MatchOption result ((b.port c).finished ≡ (a.port c).finished) (λ end. ((a.port c).finished ≡ None) × ((n : ℕ) × ((b.port c).finished ≡ Some n)))
    → MatchOption result (busy' ≡ busy) (λ end. busy' + 1 ≡ busy) → busy' ≡ open_among b.port b.opened
counted_by a b c busy busy' count first last rest None same is =
    let all = count_same a.port b.port a.opened (λ k low. dite (ℕ_discrete k c) (λ here. subst (λ (j : ℕ). (b.port j).finished ≡ (a.port j).finished) (sym here) same) (λ away. ap (λ (q : Port). q.finished) (rest.others k away))) in
    is ∙ count ∙ sym all ∙ ap (open_among b.port) (sym rest.opened)
counted_by a b c busy busy' count first last rest (Some end) ends is =
    let less = count_less a.port b.port c ends.1.0 a.opened first last ends.0 ends.1.1 (λ k away. ap (λ (q : Port). q.finished) (rest.others k away)) in
    let e : busy' ≡ open_among b.port a.opened = omega (arith, less, count, is) in
    e ∙ ap (open_among b.port) (sym rest.opened)

module _ {M : Type 0} (v : Service) where
  abbrev Is : FrontSpot M → FrontSpot M → Harbour → Harbour → List LinkRow → ℕ → List Turn → Type 0
  Is o p start a seats busy turns = Tabled v o p start a seats busy turns

  -- an event that opens no link changes at most who is owed
  pub tabled_owed : (o p : FrontSpot M) (start a b : Harbour) (seats : List LinkRow) (busy : ℕ) (turns : List Turn) → Is o p start a seats busy turns → b.opened ≡ a.opened → a.faults ≤ b.faults → faults_told a.told ≡ 0 → b.faults ≤ a.faults + faults_told b.told → b.ends ≡ a.ends
      → ((k : ℕ) → b.port k ≡ record (a.port k) { owed = (b.port k).owed }) → Is o p start b seats busy turns
  tabled_owed o p start a b seats busy turns x opened later calm few ends same =
      record {
        running = x.running;
        opened = opened ∙ x.opened;
        count = x.count ∙ sym (ap (λ (n : ℕ). open_among b.port n) opened ∙ count_same a.port b.port a.opened (λ k low. ap (λ (q : Port). q.finished) (same k)));
        sits = λ i s is. sits_owed v.policy (port_bytes (start.port (i + 1))) (a.port (i + 1)) (b.port (i + 1)) (b.port (i + 1)).owed (acted_of (i + 1) turns) s (same (i + 1)) (x.sits i s is);
        ahead = λ k high. ap port_bytes (same k) ∙ x.ahead k (omega (arith, opened, high));
        fresh = λ k one low. x.fresh k one (omega (arith, low, opened));
        range = subst (λ (n : ℕ). Each (λ (t : Turn). (1 ≤ t.link) × (t.link ≤ n)) turns) (sym opened) x.range;
        later = let l = x.later in omega (arith, l, later);
        faults =
            let f = x.faults in
            let shown = shown_same faults_by a.port b.port a.opened (λ k one low. ap (λ (q : Port). q.last) (same k)) in
            let count = ap (count_among faults_by b.port) opened in
            omega (arith, f, calm, few, shown, count);
        ends =
            let f = x.ends in
            let shown = shown_same ends_told_by a.port b.port a.opened (λ k one low. ap (λ (q : Port). q.last) (same k)) in
            let count = ap (count_among ends_told_by b.port) opened in
            omega (arith, f, ends, shown, count);
      }

  -- a link was served in its seat
  pub tabled_served : (o p p' : FrontSpot M) (start a b : Harbour) (seats : List LinkRow) (busy busy' i : ℕ) (turns : List Turn) (seat seat' : LinkRow) (result : Option PollEnd) → Is o p start a seats busy turns
      → slice_get seats i ≡ Some seat → i < length seats → KeepsRest a b (i + 1) → a.faults ≤ b.faults → b.faults + faults_by (a.port (i + 1)).last ≤ a.faults + faults_by (b.port (i + 1)).last
      → b.ends + ends_told_by (a.port (i + 1)).last ≤ a.ends + ends_told_by (b.port (i + 1)).last
      → MatchOption result ((b.port (i + 1)).finished ≡ (a.port (i + 1)).finished) (λ end. ((a.port (i + 1)).finished ≡ None) × ((n : ℕ) × ((b.port (i + 1)).finished ≡ Some n)))
      → MatchOption result (busy' ≡ busy) (λ end. busy' + 1 ≡ busy)
      → (g : SeatGone v o p' (port_bytes (start.port (i + 1))) (b.port (i + 1)) (i + 1) turns seat' result) → Is o p' start b (set seats i seat') busy' (g.more ++ turns)
  tabled_served o p p' start a b seats busy busy' i turns seat seat' result x at low rest later shown told_ends ends count g =
      let opened = rest.opened in
      let seats_are = x.opened in
      record {
        running = g.running;
        opened = rest.opened ∙ x.opened ∙ sym (length-set seats i seat');
        count = counted_by a b (i + 1) busy busy' x.count (omega arith) (omega (arith, seats_are, low)) rest result ends count;
        sits = λ j s is. ⊎_elim (λ here.
            subst (λ (k : ℕ). Sits v.policy (port_bytes (start.port (k + 1))) (b.port (k + 1)) (acted_of (k + 1) (g.more ++ turns)) s) (sym here.0)
            (subst (λ (z : LinkRow). Sits v.policy (port_bytes (start.port (i + 1))) (b.port (i + 1)) (acted_of (i + 1) (g.more ++ turns)) z) (sym here.1) g.sits)) (λ away.
            let other : j + 1 ≢ i + 1 = λ e. away.0 (omega (arith, e)) in
            subst (λ (q : Port). Sits v.policy (port_bytes (start.port (j + 1))) q (acted_of (j + 1) (g.more ++ turns)) s) (sym (rest.others (j + 1) other))
            (subst (λ (l : List Acted). Sits v.policy (port_bytes (start.port (j + 1))) (a.port (j + 1)) l s) (sym (apart_all (i + 1) (j + 1) g.more turns g.own other)) (x.sits j s away.1))) (set_cases seats i j seat' s low is);
        ahead = λ k high.
            let e : k ≢ i + 1 = λ same. absurd (omega (arith, same, high, opened, seats_are, low)) in
            ap port_bytes (rest.others k e) ∙ x.ahead k (omega (arith, high, opened));
        fresh = λ k one below. x.fresh k one (omega (arith, below, opened));
        range =
            let r = x.range in
            each-append (λ (t : Turn). (1 ≤ t.link) × (t.link ≤ b.opened)) g.more turns (own_range (i + 1) b.opened g.more g.own (omega arith) (omega (arith, opened, seats_are, low)))
            (subst (λ (n : ℕ). Each (λ (t : Turn). (1 ≤ t.link) × (t.link ≤ n)) turns) (sym rest.opened) r);
        later = let l = x.later in omega (arith, l, later);
        faults =
            let f = x.faults in
            let moved = shown_moved faults_by a.port b.port (i + 1) a.opened (omega arith) (omega (arith, seats_are, low)) (λ k away. ap (λ (q : Port). q.last) (rest.others k away)) in
            let told = ap faults_told rest.told in
            let all = ap (count_among faults_by b.port) opened in
            omega (arith, f, shown, moved, told, all);
        ends =
            let f = x.ends in
            let moved = shown_moved ends_told_by a.port b.port (i + 1) a.opened (omega arith) (omega (arith, seats_are, low)) (λ k away. ap (λ (q : Port). q.last) (rest.others k away)) in
            let all = ap (count_among ends_told_by b.port) opened in
            omega (arith, f, told_ends, moved, all);
      }

  -- a link that was just opened has its seat
  pub tabled_seated : (o p : FrontSpot M) (start a d : Harbour) (seats : List LinkRow) (busy busy' : ℕ) (turns : List Turn) (s : LinkRow) → Is o p start a seats busy turns → d.opened ≡ a.opened + 1 → a.faults ≤ d.faults → faults_told a.told ≡ 0 → d.faults ≤ a.faults → d.ends ≡ a.ends → IsBlank (a.port (a.opened + 1))
      → ((k : ℕ) → k ≢ a.opened + 1 → d.port k ≡ a.port k) → Sits v.policy (port_bytes (start.port (a.opened + 1))) (d.port (a.opened + 1)) [] s → busy' ≡ open_among a.port a.opened + (if is_none (d.port (a.opened + 1)).finished then 1 else 0)
      → Is o p start d (seats ++ s ∷ []) busy' turns
  tabled_seated o p start a d seats busy busy' turns s x opened later calm kept ends blank others sits count =
      let n = x.opened in
      let long = length-append seats (s ∷ []) in
      record {
        running = x.running;
        opened = omega (arith, opened, n, long);
        count =
            let e : a.opened + 1 ≡ suc a.opened = omega arith in
            let below = count_same a.port d.port a.opened (λ k low. ap (λ (q : Port). q.finished) (others k (λ same. absurd (omega (arith, same, low))))) in
            count ∙ ap (λ (m : ℕ). m + (if is_none (d.port (a.opened + 1)).finished then 1 else 0)) (sym below) ∙ ap (open_among d.port) (sym e) ∙ ap (open_among d.port) (sym opened);
        sits = λ i z at.
            ⊎_elim (λ here.
            let c_is : i + 1 ≡ a.opened + 1 = let e = here.0 in omega (arith, e, n) in
            let none : acted_of (i + 1) turns ≡ [] = acted_none (i + 1) a.opened turns x.range (omega (arith, c_is)) in
            subst (λ (l : List Acted). Sits v.policy (port_bytes (start.port (i + 1))) (d.port (i + 1)) l z) (sym none)
            (subst (λ (k : ℕ). Sits v.policy (port_bytes (start.port k)) (d.port k) [] z) (sym c_is) (subst (λ (w : LinkRow). Sits v.policy (port_bytes (start.port (a.opened + 1))) (d.port (a.opened + 1)) [] w) (sym here.1) sits))) (λ before.
            let under = before.0 in
            subst (λ (q : Port). Sits v.policy (port_bytes (start.port (i + 1))) q (acted_of (i + 1) turns) z) (sym (others (i + 1) (λ same. absurd (omega (arith, same, under, n))))) (x.sits i z before.1)) (push_cases seats i s z at);
        ahead = λ k high. ap port_bytes (others k (λ same. absurd (omega (arith, same, high, opened)))) ∙ x.ahead k (omega (arith, high, opened));
        fresh = λ k one low.
            let bytes = x.ahead (a.opened + 1) (omega arith) in
            let here : IsBlank (start.port (a.opened + 1)) = (subst IsNothing (ap (λ (d : Bytes). d.taken) bytes) blank.0, subst IsNothing (ap (λ (d : Bytes). d.given) bytes) blank.1) in
            dite (ℕ_discrete k (a.opened + 1)) (λ is. subst (λ (j : ℕ). IsBlank (start.port j)) (sym is) here) (λ other. x.fresh k one (omega (arith, low, opened, other)));
        range = range_wider a.opened d.opened turns (omega (arith, opened)) x.range;
        later = let l = x.later in omega (arith, l, later);
        faults =
            let f = x.faults in
            let e : d.opened ≡ suc a.opened = omega (arith, opened) in
            let all : count_among faults_by d.port d.opened ≡ count_among faults_by d.port a.opened + faults_by (d.port (a.opened + 1)).last = ap (count_among faults_by d.port) e in
            let shown = shown_same faults_by a.port d.port a.opened (λ k one low. ap (λ (q : Port). q.last) (others k (λ same. absurd (omega (arith, same, low))))) in
            omega (arith, f, calm, kept, all, shown);
        ends =
            let f = x.ends in
            let e : d.opened ≡ suc a.opened = omega (arith, opened) in
            let all : count_among ends_told_by d.port d.opened ≡ count_among ends_told_by d.port a.opened + ends_told_by (d.port (a.opened + 1)).last = ap (count_among ends_told_by d.port) e in
            let shown = shown_same ends_told_by a.port d.port a.opened (λ k one low. ap (λ (q : Port). q.last) (others k (λ same. absurd (omega (arith, same, low))))) in
            omega (arith, f, ends, all, shown);
      }

  -- before the first event
  pub tabled_none : (o : FrontSpot M) (start : Harbour) (seats : List LinkRow) → start.opened ≡ 0 → seats ≡ [] → Is o o start start seats 0 []
  tabled_none o start seats none empty =
      let e : start.opened ≡ length seats = none ∙ sym (ap (λ (l : List LinkRow). length l) empty) in
      record {
        running = running_none v o;
        opened = e;
        count = sym (ap (open_among start.port) none);
        sits = λ i s at. let within = slice_get_within seats i s at in absurd (omega (arith, within, e, none));
        ahead = λ k high. refl;
        fresh = λ k one low. absurd (omega (arith, one, low, none));
        range = tt;
        later = omega arith;
        faults = omega arith;
        ends = omega arith;
      }

-- what an event makes of the links
ready_by : (p q : Port) (b : Bool) → q ≡ (if b then readied p else p) → q ≡ record p { owed = q.owed }
ready_by p q true is = is ∙ ap (λ (o : Bool). record p { owed = o }) (sym (ap (λ (r : Port). r.owed) is))
ready_by p q false is = is ∙ ap (λ (o : Bool). record p { owed = o }) (sym (ap (λ (r : Port). r.owed) is))

pub ready_owed : (a b : Harbour) (c k : ℕ) → Happens a b (Ok (Ready c)) → b.port k ≡ record (a.port k) { owed = (b.port k).owed }
ready_owed a b c k x = ready_by (a.port k) (b.port k) (k == c) (x.ports k)

pub ready_away : (a b : Harbour) (c k : ℕ) → Happens a b (Ok (Ready c)) → k ≢ c → b.port k ≡ a.port k
ready_away a b c k x away = x.ports k ∙ ap (λ (v : Bool). if v then readied (a.port k) else a.port k) (ne_eqb k c away)

pub opened_away : (a b : Harbour) (c k : ℕ) → Happens a b (Ok (Opened c)) → k ≢ c → b.port k ≡ a.port k
opened_away a b c k x away = x.ports k ∙ ap (λ (v : Bool). if v then newly (open_among a.port a.opened) (a.port k) else a.port k) (ne_eqb k c away)

pub opened_here : (a b : Harbour) (c : ℕ) → Happens a b (Ok (Opened c)) → b.port c ≡ newly (open_among a.port a.opened) (a.port c)
opened_here a b c x = x.ports c ∙ ap (λ (v : Bool). if v then newly (open_among a.port a.opened) (a.port c) else a.port c) (eq-eqb c c refl)
