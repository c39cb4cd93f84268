-- Steps of a link one after another.
use Rattle.std.proofs.Common.{◌≡◌, ℕ, zero, suc, ◌+◌, ◌<◌, ◌≤◌, true, false, List, [], ◌∷◌, ◌++◌, length, take, get_or, refl, sym, subst, ◌∙◌, arith, append_assoc, Result, Ok, Err}
use Rattle.std.proofs.lemmas.List.{get_or-drop, get_or-take}
use Rattle.gt_base.specs.Roomy.{Roomy}
use Rattle.gt_io.specs.Frames.{Frame, pushed, PushesFront}
use Rattle.gt_io.specs.Ports.{Port, Harbour, is_over}
use Rattle.gt_text.specs.Lines.{is_feed}
use Rattle.turn_lock.proofs.Totals.{each-append}
use Rattle.locked_history.specs.Fronts.{by}
use Rattle.connection_laws.specs.Cuts.{open_line}
use Rattle.connection_laws.specs.Fits.{FrameFits}
use Rattle.policy_words.specs.Naming.{NamedPolicy}
use Rattle.connection_laws.specs.Desks.{IsNamedActor}
use Rattle.connection_laws.specs.Lines.{Acted}
use Rattle.connection_laws.specs.Acting.{told_bytes}
use Rattle.connection_laws.specs.Services.{Service}
use Rattle.connection_laws.specs.declared.talk.Talk.{Talk}
use Rattle.connection_laws.specs.declared.talk.LineAnswer.{LineAnswer}
use Rattle.connection_laws.specs.declared.talk.LineAnswer.TheVariants.{Silence, Agreed, Bad, Reply as ToldReply, NoMemory, NoSteps, ViewOnly, Worn as ToldWorn}
use Rattle.connection_laws.proofs.Telling.{IsUnwornTold, told_unworn}
use Rattle.poll_front.specs.declared.ends.PollEnd.TheVariants.{Spent, Worn}
use Rattle.poll_front.specs.declared.states.LinkState.{LinkState}
use Rattle.poll_front.specs.declared.states.Yield.{Yield}
use Rattle.poll_front.specs.declared.states.Yield.TheVariants.{End}
use Rattle.poll_front.specs.declared.states.RunCounters.{RunCounters}
use Rattle.poll_front.specs.Fronts.{Turn, FrontSpot, acted_of, course, port_bytes, waiting_bytes, LinkStands, Running, TakesUpToFeed, LinkComesTo, Comes, IsReplyWritten, CallsOn, CanServe, CountsOne, Pushed, PushesOut, Filled, FillsUp, TellsLine}
use Rattle.poll_front.proofs.Calls.{live_kept}
use Rattle.poll_front.proofs.Hearing.{Hears}
use Rattle.poll_front.proofs.Turning.{running_on, acted_here}
use Rattle.poll_front.proofs.Standing.{stands_byte, stands_line, heard_line, comes_pushed, comes_filled, ends_spent, ends_worn}

module _ {M : Type 0} (v : Service) where
  -- what goes on behind a step that went on
  pub steps_then : {p p' p'' : FrontSpot M} {a b d : Harbour} {c : ℕ} {s s' s'' : LinkState} {result : Result (Unit {0}) Yield} → LinkComesTo v p p' a b c s s' (Ok tt) → LinkComesTo v p' p'' b d c s' s'' result → LinkComesTo v p p'' a d c s s'' result
  steps_then {p} {p'} {p''} {a} {b} {d} {c} {s} {s'} {s''} {result} f g =
      record {
        steps = λ o start turns fed r x.
            let y = f.steps o start turns fed r x in
            let z = g.steps o start (y.more ++ turns) y.comes.0 y.running y.comes.1 in
            let same : z.more ++ (y.more ++ turns) ≡ (z.more ++ y.more) ++ turns = sym (append_assoc z.more y.more turns) in
            record {
              more = z.more ++ y.more;
              own = each-append (λ (t : Turn). t.link ≡ c) z.more y.more z.own y.own;
              running = subst (λ (ts : List Turn). Running v o p'' ts) same z.running;
              comes = subst (λ (ts : List Turn). Comes v.policy start (course (d.port c)) s'' (acted_of c ts) result) same z.comes;
              worn_out = z.worn_out;
            };
      }

  -- the reply of the last line is written on
  pub steps_push : (p : FrontSpot M) {a b : Harbour} {c : ℕ} {s : LinkState} {at : ℕ} {result : Result (Unit {0}) Yield} → PushesOut a b c (told_bytes s.told) s.at at result → LinkComesTo v p p a b c s (record s { at = at }) result
  steps_push p {a} {b} {c} {s} {at} {result} x =
      record {
        steps = λ o start turns fed r stands.
            record { more = []; own = tt; running = r; comes = comes_pushed stands at result x; worn_out = λ n e. absurd (subst (λ (r : Result (Unit {0}) Yield). Pushed (b.port c) (told_bytes s.told) at r) e x.pushed) };
      }

  -- bytes are read
  pub steps_fill : (p : FrontSpot M) {a b : Harbour} {c : ℕ} {s s' : LinkState} {result : Result (Unit {0}) Yield} → FillsUp a b c s s' result → IsReplyWritten s → s.from ≡ s.upto → 0 < s.left → length s'.chunk ≡ 4096 → LinkComesTo v p p a b c s s' result
  steps_fill p {a} {b} {c} {s} {s'} {result} x wrote none some size =
      record {
        steps = λ o start turns fed r stands.
            record { more = []; own = tt; running = r; comes = comes_filled stands s' wrote none some size result x; worn_out = λ n e. absurd (subst (λ (r : Result (Unit {0}) Yield). Filled (b.port c) s s' r) e x.filled) };
      }

  -- as many bytes were taken as a link may send
  pub steps_spent : (p : FrontSpot M) (a : Harbour) (c : ℕ) (s : LinkState) → is_over (a.port c).last ≡ false → IsReplyWritten s → s.from ≡ s.upto → s.left ≡ 0 → LinkComesTo v p p a a c s s (Err (End Spent))
  steps_spent p a c s live wrote none spent =
      record { steps = λ o start turns fed r stands. record { more = []; own = tt; running = r; comes = (ends_spent (course (a.port c)) stands live wrote none spent, tt); worn_out = λ n e. absurd cc } }

  -- a byte is taken within a line
  pub steps_byte : (p : FrontSpot M) (a : Harbour) (c : ℕ) (s : LinkState) (byte : ℕ) → s.from < s.upto → byte ≡ get_or s.chunk s.from 0 → is_feed byte ≡ false → LinkComesTo v p p a a c s (record s { framer = pushed s.framer byte; from = s.from + 1 }) (Ok tt)
  steps_byte p a c s byte some is other =
      record { steps = λ o start turns fed r stands. record { more = []; own = tt; running = r; comes = (fed ++ byte ∷ [], stands_byte stands byte some is other); worn_out = λ n e. absurd cc } }

  -- and so do the bytes up to a line feed
  steps_many : (p : FrontSpot M) (a : Harbour) (c : ℕ) (s : LinkState) (n : ℕ) (frame : Frame) → s.from + n ≤ s.upto → PushesFront s.framer (waiting_bytes s) n frame → LinkComesTo v p p a a c s (record s { framer = frame; from = s.from + n }) (Ok tt)
  unfolding PushesFront
  steps_many p a c s zero frame within front =
      subst (λ (f : Frame). LinkComesTo v p p a a c s (record s { framer = f; from = s.from + 0 }) (Ok tt)) (sym front)
      (record { steps = λ o start turns fed r stands. record { more = []; own = tt; running = r; comes = (fed, subst (λ (k : ℕ). LinkStands v.policy start (port_bytes (a.port c)) (record s { from = k }) fed (acted_of c turns)) (omega arith) stands); worn_out = λ n e. absurd cc } })
  steps_many p a c s (suc n) frame within (m, front, other, is) =
      let one : (s.from + n) + 1 ≡ s.from + suc n = omega arith in
      let byte = get_or (waiting_bytes s) n 0 in
      let at : byte ≡ get_or s.chunk (s.from + n) 0 = get_or-drop s.from (take s.upto s.chunk) n 0 ∙ get_or-take s.upto s.chunk (s.from + n) 0 (omega (arith, within)) in
      subst (λ (f : Frame). LinkComesTo v p p a a c s (record s { framer = f; from = s.from + suc n }) (Ok tt)) (sym is)
      (subst (λ (k : ℕ). LinkComesTo v p p a a c s (record s { framer = pushed m byte; from = k }) (Ok tt)) one
      (steps_then (steps_many p a c s n m (omega (arith, within)) front) (steps_byte p a c (record s { framer = m; from = s.from + n }) byte (omega (arith, within)) at other)))

  pub steps_front : (p : FrontSpot M) (a : Harbour) (c : ℕ) (s s' : LinkState) → TakesUpToFeed s s' → LinkComesTo v p p a a c s s' (Ok tt)
  steps_front p a c s s' f = subst (λ (z : LinkState). LinkComesTo v p p a a c s z (Ok tt)) (sym f.rest) (steps_many p a c s f.many s'.framer f.within f.front)

  -- a line is heard, and told what it is told
  module _ (p p' : FrontSpot M) (a b : Harbour) (c : ℕ) (s : LinkState) (byte : ℕ) (talk : Talk) (room : Roomy ℕ) (live : is_over (a.port c).last ≡ false) (wrote : IsReplyWritten s) (some : s.from < s.upto) (is : byte ≡ get_or s.chunk s.from 0) where
    -- the line of each text with whose open line the frame fits
    abbrev pub Heard : LineAnswer → Type 0
    Heard told = (fed : List ℕ) → FrameFits s.framer fed → (is_feed byte ≡ true) × Hears v (by p.pass.number c) p p' s.talk talk (open_line fed) told

    abbrev after : LineAnswer → ℕ → LinkState
    after told at = record s { framer = pushed s.framer byte; from = s.from + 1; talk = talk; told = told; at = at; room = room }

    line_unworn : (told : LineAnswer) (at : ℕ) (result : Result (Unit {0}) Yield) → IsUnwornTold told → Heard told → PushesOut a b c (told_bytes told) 0 at result → LinkComesTo v p p' a b c s (after told at) result
    line_unworn told at result unworn hears push =
        record {
          steps = λ o start turns fed g stands.
              let h = hears fed stands.heard.frame_fits in
              let x = h.1 in
              let turn : Turn = record { link = c; acted = x.acted } in
              let here : acted_of c (turn ∷ turns) ≡ x.acted ∷ acted_of c turns = acted_here c turn turns refl in
              let heard = heard_line x s.framer (acted_of c turns) byte stands.heard h.0 in
              let y = stands_line stands byte some is (pushed s.framer byte) talk told room x.acted wrote heard (told_unworn v.policy told x.acted.answer x.told_is unworn, stands.unworn) (x.told_is, omega arith) in
              record {
                more = turn ∷ [];
                own = (refl, tt);
                running = running_on v c o p p' turns g stands.heard.actor x;
                comes = subst (λ (l : List Acted). Comes v.policy start (course (b.port c)) (after told at) l result) (sym here) (comes_pushed y at result push);
                worn_out = λ n e. absurd (subst (λ (r : Result (Unit {0}) Yield). Pushed (b.port c) (told_bytes told) at r) e push.pushed);
              };
        }

    line_worn : (m at : ℕ) (result : Result (Unit {0}) Yield) → Heard (ToldWorn m) → b ≡ a → result ≡ Err (End (Worn m)) → LinkComesTo v p p' a b c s (after (ToldWorn m) at) result
    line_worn m at result hears same ended =
        record {
          steps = λ o start turns fed g stands.
              let h = hears fed stands.heard.frame_fits in
              let x = h.1 in
              let turn : Turn = record { link = c; acted = x.acted } in
              let here : acted_of c (turn ∷ turns) ≡ x.acted ∷ acted_of c turns = acted_here c turn turns refl in
              let full = x.worn_out m refl in
              let heard = heard_line x s.framer (acted_of c turns) byte stands.heard h.0 in
              let comes : Comes v.policy start (course (a.port c)) (after (ToldWorn m) at) (x.acted ∷ acted_of c turns) (Err (End (Worn m))) =
              (ends_worn stands byte some is (course (a.port c)) (pushed s.framer byte) talk x.acted m refl wrote heard x.told_is full.0 live, tt) in
              record {
                more = turn ∷ [];
                own = (refl, tt);
                running = running_on v c o p p' turns g stands.heard.actor x;
                comes = subst (λ (l : List Acted). Comes v.policy start (course (b.port c)) (after (ToldWorn m) at) l result) (sym here)
                    (subst (λ (d : Harbour). Comes v.policy start (course (d.port c)) (after (ToldWorn m) at) (x.acted ∷ acted_of c turns) result) (sym same)
                    (subst (λ (r : Result (Unit {0}) Yield). Comes v.policy start (course (a.port c)) (after (ToldWorn m) at) (x.acted ∷ acted_of c turns) r) (sym ended) comes));
                worn_out = λ n e. full.1;
              };
        }

    pub steps_line : (told : LineAnswer) (at : ℕ) (result : Result (Unit {0}) Yield) → Heard told → TellsLine a b c told at result → LinkComesTo v p p' a b c s (after told at) result
    steps_line Silence at result x t = line_unworn Silence at result tt x t
    steps_line Agreed at result x t = line_unworn Agreed at result tt x t
    steps_line (Bad f) at result x t = line_unworn (Bad f) at result tt x t
    steps_line (ToldReply text) at result x t = line_unworn (ToldReply text) at result tt x t
    steps_line NoMemory at result x t = line_unworn NoMemory at result tt x t
    steps_line NoSteps at result x t = line_unworn NoSteps at result tt x t
    steps_line ViewOnly at result x t = line_unworn ViewOnly at result tt x t
    steps_line (ToldWorn m) at result x t = line_worn m at result x t.0 t.2

-- it may be served on
pub can_next : {np : NamedPolicy} {a b : Harbour} {c : ℕ} {counters counters' : RunCounters} {s s' : LinkState} → CanServe np a c counters s → CallsOn a b c (Ok tt) → s.from < s.upto → IsNamedActor np s'.talk.actor → CountsOne s.talk s'.talk counters counters' → IsReplyWritten s' → (s'.from ≡ s.from + 1) × (s'.upto ≡ s.upto) × (s'.left ≡ s.left)
    → CanServe np b c counters' s'
can_next x calls some actor counts wrote one =
    let w = x.waits in
    let asked = x.talk.asked in
    let denied = x.talk.denied in
    let all = x.talk.calls in
    record {
      live = live_kept calls x.live;
      told = omega (arith, wrote);
      waits = (omega (arith, one, some), omega (arith, one, w));
      talk = record { actor = actor; asked = omega (arith, asked, counts, one, some); denied = omega (arith, denied, counts, one, some); calls = omega (arith, all, counts, one, some) };
    }

pub can_fill : {np : NamedPolicy} {a b : Harbour} {c : ℕ} {counters : RunCounters} {s s' : LinkState} (q : Port) → CanServe np a c counters s → CallsOn a b c (Ok tt) → s.from ≡ s.upto → Filled q s s' (Ok tt) → CanServe np b c counters s'
can_fill {np} {a} {b} {c} {counters} {s} {s'} q x calls none f =
    let n = f.0 in
    let few = f.2 in
    let low = f.3 in
    let asked = x.talk.asked in
    let denied = x.talk.denied in
    let all = x.talk.calls in
    subst (λ (z : LinkState). CanServe np b c counters z) (sym f.4)
    (record {
      live = live_kept calls x.live;
      told = x.told;
      waits = (omega arith, low);
      talk = record { actor = x.talk.actor; asked = omega (arith, asked, few, none); denied = omega (arith, denied, few, none); calls = omega (arith, all, few, none) };
    })

pub can_front : {np : NamedPolicy} {a : Harbour} {c : ℕ} {counters : RunCounters} {s s' : LinkState} → CanServe np a c counters s → TakesUpToFeed s s' → CanServe np a c counters s'
can_front {np} {a} {c} {counters} {s} {s'} x f =
    let n = f.many in
    let within = f.within in
    let w = x.waits in
    let asked = x.talk.asked in
    let denied = x.talk.denied in
    let all = x.talk.calls in
    subst (λ (z : LinkState). CanServe np a c counters z) (sym f.rest)
    (record {
      live = x.live;
      told = x.told;
      waits = (within, w.1);
      talk = record { actor = x.talk.actor; asked = omega (arith, asked, within); denied = omega (arith, denied, within); calls = omega (arith, all, within) };
    })
