-- The history of a run plays the moves that its lines ask for.
use Rattle.std.proofs.Common.{◌≡◌, ℕ, ◌+◌, List, [], ◌∷◌, ◌++◌, length, map, inl, inr, refl, sym, ◌∙◌, ap, subst, append_assoc}
use Rattle.std.specs.Prelude.{Result, Ok, Err}
use Rattle.gt_base.specs.Machines.{asked}
use Rattle.gt_base.specs.declared.requests.Actor.{Actor}
use Rattle.gt_base.specs.declared.requests.Actor.TheVariants.{Operator}
use Rattle.gt_base.specs.declared.requests.Entry.{Entry}
use Rattle.gtrbac_model.proofs.Append.{append-nil}
use Rattle.gtrbac_model.specs.Status.{Model}
use Rattle.gtrbac_model.specs.History.{Legal, Move}
use Rattle.policy_words.specs.Naming.{NamedPolicy}
use Rattle.policy_commands.specs.Ends.{EndView}
use Rattle.request_text.specs.declared.lines.Line.{Line}
use Rattle.request_text.specs.declared.lines.Line.TheVariants.{Silent, At, Be, Ask}
use Rattle.request_text.specs.declared.lines.LineFault.{LineFault}
use Rattle.gtrbac_tool.specs.Script.{RunState, AreTicks, Moves, MovesThrough, Stops, PlayedOut, StoppedAt, said, scripts_who, at_birth}
use Rattle.gtrbac_tool.specs.Meanings.{AreTo, LineAsks, LinesAsk, IsPlayOf, RunsArePlays}
use Rattle.gtrbac_tool.proofs.OneHistory.{move_of, made}

are_to : (minute : ℕ) (ts : List Entry) → AreTicks minute ts → AreTo minute (map move_of ts)
are_to minute [] ticks = tt
are_to minute (e ∷ es) ticks = (ap move_of ticks.0.1, are_to minute es ticks.1)

map_both : (g h : List Entry) → map move_of (g ++ h) ≡ map move_of g ++ map move_of h
map_both [] h = refl
map_both (e ∷ g) h = ap (λ (qs : List Move). move_of e ∷ qs) (map_both g h)

module _ (np : NamedPolicy) (birth : ℕ) where
  -- what lines ask for, of the entries that they add
  record Asked (lines : List (List ℕ)) (s : RunState) (history : List Entry) (last : Actor) : Type 0 where
    pub more : List Entry
    pub all : history ≡ s.history ++ more
    pub asks : LinesAsk np s.actor lines (map move_of more) last

  record AskedNext (r : Result Line LineFault) (s t : RunState) : Type 0 where
    pub more : List Entry
    pub all : t.history ≡ s.history ++ more
    pub asks : LineAsks r s.actor (map move_of more) t.actor

  line_asks : (r : Result Line LineFault) (s t : RunState) → Moves np birth r s t → AskedNext r s t
  line_asks (Ok Silent) s t moves = record { more = []; all = ap (λ (g : RunState). g.history) moves ∙ sym (append-nil s.history); asks = (refl, ap (λ (g : RunState). g.actor) moves) }
  line_asks (Ok (Be actor)) s t moves = record { more = []; all = ap (λ (g : RunState). g.history) moves ∙ sym (append-nil s.history); asks = (refl, ap (λ (g : RunState). g.actor) moves) }
  line_asks (Ok (At minute)) s t moves = record {
    more = moves.1.ticks;
    all = ap (λ (g : RunState). g.history) moves.2 ∙ moves.1.added;
    asks = (are_to minute moves.1.ticks moves.1.are_ticks, ap (λ (g : RunState). g.actor) moves.2);
  }
  line_asks (Ok (Ask request)) s t moves = record {
    more = asked scripts_who s.actor request moves.0 ∷ [];
    all = ap (λ (g : RunState). g.history) moves.2;
    asks = (refl, ap (λ (g : RunState). g.actor) moves.2);
  }
  line_asks (Err fault) s t moves = absurd moves

  lines_ask : (lines : List (List ℕ)) (s t : RunState) → MovesThrough np birth lines s t → Asked lines s t.history t.actor
  lines_ask [] s t plays = record { more = []; all = ap (λ (g : RunState). g.history) plays ∙ sym (append-nil s.history); asks = (refl, ap (λ (g : RunState). g.actor) plays) }
  lines_ask (line ∷ lines) s t plays =
      let first = line_asks (said np line) s plays.0 plays.1 in
      let later = lines_ask lines plays.0 t plays.2 in
      record {
        more = first.more ++ later.more;
        all = later.all ∙ ap (λ (h : List Entry). h ++ later.more) first.all ∙ append_assoc s.history first.more later.more;
        asks = (map move_of first.more, map move_of later.more, plays.0.actor, map_both first.more later.more, first.asks, later.asks);
      }

  ask_more : (front : List (List ℕ)) (line : List ℕ) (actor mid last : Actor) (qs own : List Move) → LinesAsk np actor front qs mid → LineAsks (said np line) mid own last → LinesAsk np actor (front ++ line ∷ []) (qs ++ own) last
  ask_more [] line actor mid last qs own asks next =
      (own, [], last, ap (λ (x : List Move). x ++ own) asks.0 ∙ sym (append-nil own), subst (λ (a : Actor). LineAsks (said np line) a own last) asks.1 next, (refl, refl))
  ask_more (l ∷ ls) line actor mid last qs own asks next =
      (asks.0, asks.1 ++ own, asks.2, ap (λ (x : List Move). x ++ own) asks.3 ∙ append_assoc asks.0 asks.1 own, asks.4, ask_more ls line asks.2 mid last asks.1 own asks.5 next)

  play_of : (lines done rest : List (List ℕ)) (h : List Entry) (m : Model) (last : Actor) → Legal np.policy birth h m → lines ≡ done ++ rest → LinesAsk np Operator done (map move_of h) last → IsPlayOf np birth lines h
  play_of lines done rest h m last legal parts asks =
      record { done = done; rest = rest; parts = parts; moves = map move_of h; last = last; asked = asks; model = m; play = record { legal = legal; made = made np.policy birth m [] h legal.steps } }

  from_birth : (front : List (List ℕ)) (t : RunState) → MovesThrough np birth front (at_birth np birth) t → LinesAsk np Operator front (map move_of t.history) t.actor
  from_birth front t plays = let to = lines_ask front (at_birth np birth) t plays in subst (λ (h : List Entry). LinesAsk np Operator front (map move_of h) t.actor) (sym to.all) to.asks

  whole_play : (lines : List (List ℕ)) (h : List Entry) (end : EndView) (m : Model) → Legal np.policy birth h m → PlayedOut np birth lines h end → IsPlayOf np birth lines h
  whole_play lines h end m legal out =
      play_of lines lines [] h m out.last.actor legal (sym (append-nil lines)) (subst (λ (k : List Entry). LinesAsk np Operator lines (map move_of k) out.last.actor) (sym out.history) (from_birth lines out.last out.plays))

  stopped_play : (n : ℕ) (lines : List (List ℕ)) (h : List Entry) (end : EndView) (m : Model) → Legal np.policy birth h m → StoppedAt np birth n lines h end → IsPlayOf np birth lines h
  stopped_play n lines h end m legal at = by (said np at.line) refl at.stops
    where
      kept : h ≡ at.before.history → IsPlayOf np birth lines h
      kept same =
          play_of lines at.front (at.line ∷ at.rest) h m at.before.actor legal at.parts
          (subst (λ (k : List Entry). LinesAsk np Operator at.front (map move_of k) at.before.actor) (sym same) (from_birth at.front at.before at.plays))

      ticked_on : (minute : ℕ) (ts : List Entry) → said np at.line ≡ Ok (At minute) → h ≡ at.before.history ++ ts → AreTicks minute ts → IsPlayOf np birth lines h
      ticked_on minute ts is added ticks =
          play_of lines (at.front ++ at.line ∷ []) at.rest h m at.before.actor legal (at.parts ∙ sym (append_assoc at.front (at.line ∷ []) at.rest))
          (subst (λ (qs : List Move). LinesAsk np Operator (at.front ++ at.line ∷ []) qs at.before.actor) (sym (ap (map move_of) added ∙ map_both at.before.history ts))
          (ask_more at.front at.line Operator at.before.actor at.before.actor (map move_of at.before.history) (map move_of ts) (from_birth at.front at.before at.plays)
          (subst (λ (r : Result Line LineFault). LineAsks r at.before.actor (map move_of ts) at.before.actor) (sym is) (are_to minute ts ticks, refl))))

      by : (r : Result Line LineFault) → said np at.line ≡ r → Stops np birth r (n + length at.front) at.before h end → IsPlayOf np birth lines h
      by (Ok Silent) e stops = absurd stops
      by (Ok (Be actor)) e stops = absurd stops
      by (Ok (At minute)) e stops = ticked_on minute stops.0.ticks e stops.0.added stops.0.are_ticks
      by (Ok (Ask request)) e stops = kept stops.1
      by (Err fault) e stops = kept stops.0

pub runs_are_plays : RunsArePlays
runs_are_plays np birth n lines h end run =
    elim run.ends [
      | inl out ↦ whole_play np birth lines h end run.model run.legal out
      | inr at ↦ stopped_play np birth n lines h end run.model run.legal at
    ]
