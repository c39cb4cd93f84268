-- What `gen` makes is read, judged safe and played to its end.
use Rattle.std.proofs.Common.{◌≡◌, ◌⊎◌, inl, inr, ℕ, ◌+◌, ◌≤◌, ◌<◌, List, [], ◌∷◌, ◌++◌, map, length, Result, Ok, refl, sym, ap, ◌∙◌, subst, arith, append_assoc, append-nil}
use Rattle.gt_base.specs.Machines.{asked}
use Rattle.gt_base.specs.declared.requests.Entry.{Entry}
use Rattle.gt_base.specs.declared.limits.TheConstants.{MAX_STEPS}
use Rattle.gtrbac_model.specs.Status.{Model}
use Rattle.gtrbac_model.specs.History.{Legal}
use Rattle.walk_laws.proofs.Closing.{tells}
use Rattle.gt_text.specs.Lines.{lines_of}
use Rattle.policy_words.specs.Naming.{NamedPolicy}
use Rattle.policy_commands.specs.Ends.{EndView}
use Rattle.policy_commands.specs.Policies.{policy_or_end, safe_or_cycle, judged, policy_in, judged_or_end, safe_in}
use Rattle.policy_gen.specs.Texts.{time_line, policy_text, script_text}
use Rattle.policy_gen.specs.declared.scripts.TheConstants.{FIRST_MINUTE}
use Rattle.request_text.specs.declared.lines.Line.{Line}
use Rattle.request_text.specs.declared.lines.Line.TheVariants.{Silent, At, Be, Ask}
use Rattle.request_text.specs.declared.lines.LineFault.{LineFault}
use Rattle.gen_laws.specs.Made.{made_policy}
use Rattle.gen_laws.specs.Played.{script_moves}
use Rattle.gen_laws.specs.Following.{IsTickTo, AreTicksTo, FollowsLines}
use Rattle.gen_laws.specs.Laws.{IsBorn}
use Rattle.gen_laws.proofs.ReadPolicy.{policy_is_read, policy_is_safe}
use Rattle.gen_laws.proofs.Script.{script_is_said, script_is_born}
use Rattle.gen_laws.proofs.Short.{history_is_short}
use Rattle.gtrbac_tool.specs.Script.{scripts_who, RunState, AreTicks, Arrives, IsFilled, said, Moves, MovesThrough, Stops, at_birth, StoppedAt, PlayedOut, begun, born, start_of}
use Rattle.gtrbac_tool.specs.Summary.{Gen, summed, Summed, SummedFrom, SummedOver, GenEnds}

-- the made policy is the safe one of its text
safe_made : (size : ℕ) → 1 ≤ size → safe_in (policy_text size) ≡ Ok (made_policy size)
unfolding safe_in policy_in judged
safe_made size low =
    ap (λ r. judged_or_end (policy_or_end r)) (policy_is_read size low)
    ∙ ap (safe_or_cycle (made_policy size)) ((tells (made_policy size).policy.triggers).0 (policy_is_safe size))

-- a list of texts in two parts, of which each says its part

pub record Parts (rd : List ℕ → Result Line LineFault) (ts us : List (List ℕ)) (ls : List Line) : Type 0 where
  pub front : List Line
  pub back : List Line
  pub parts : ls ≡ front ++ back
  pub of_front : map rd ts ≡ map (λ l. Ok l) front
  pub of_back : map rd us ≡ map (λ l. Ok l) back

head_same : {A : Type 0} (a b : A) (as' bs : List A) → ◌≡◌ {A = List A} (a ∷ as') (b ∷ bs) → a ≡ b
head_same a b as' bs e = cc

tail_same : {A : Type 0} (a b : A) (as' bs : List A) → ◌≡◌ {A = List A} (a ∷ as') (b ∷ bs) → as' ≡ bs
tail_same a b as' bs e = cc

in_parts : (rd : List ℕ → Result Line LineFault) (ts us : List (List ℕ)) (ls : List Line) → map rd (ts ++ us) ≡ map (λ l. Ok l) ls → Parts rd ts us ls
in_parts rd [] us ls e = record { front = []; back = ls; parts = refl; of_front = refl; of_back = e }
in_parts rd (t ∷ ts) us [] e = cc
in_parts rd (t ∷ ts) us (l ∷ ls) e =
    let rest = in_parts rd ts us ls (tail_same (rd t) (Ok l) (map rd (ts ++ us)) (map (λ l. Ok l) ls) e) in
    record {
      front = l ∷ rest.front;
      back = rest.back;
      parts = ap (λ (xs : List Line). l ∷ xs) rest.parts;
      of_front = λ i. head_same (rd t) (Ok l) (map rd (ts ++ us)) (map (λ l. Ok l) ls) e i ∷ rest.of_front i;
      of_back = rest.of_back;
    }

-- lines that follow one after another

follows_both : (ls ms : List Line) (h g : List Entry) → FollowsLines ls h → FollowsLines ms g → FollowsLines (ls ++ ms) (h ++ g)
follows_both [] ms h g a b = subst (λ (x : List Entry). FollowsLines ms (x ++ g)) (sym a) b
follows_both (Silent ∷ ls) ms h g a b = follows_both ls ms h g a b
follows_both (Be actor ∷ ls) ms h g a b = follows_both ls ms h g a b
follows_both (At minute ∷ ls) ms h g a b = (a.0, a.1 ++ g, ap (λ (x : List Entry). x ++ g) a.2 ∙ append_assoc a.0 a.1 g, a.3, follows_both ls ms a.1 g a.4 b)
follows_both (Ask request ∷ ls) ms h g a b = (a.0, a.1, a.2, a.3 ++ g, ap (λ (x : List Entry). x ++ g) a.4, follows_both ls ms a.3 g a.5 b)

ticks_to : (bound : ℕ) (es : List Entry) → AreTicks bound es → AreTicksTo bound es
ticks_to bound [] h = tt
ticks_to bound (e ∷ es) h = (subst (λ (x : Entry). IsTickTo bound x.what) (sym h.0.1) refl, ticks_to bound es h.1)

module _ (np : NamedPolicy) (birth : ℕ) where
  -- what a run added, as the lines say
  pub record Added (ls : List Line) (s t : RunState) : Type 0 where
    pub entries : List Entry
    pub added : t.history ≡ s.history ++ entries
    pub follows : FollowsLines ls entries

  one_move : (l : Line) (ls : List Line) (s m t : RunState) → Moves np birth (Ok l) s m → Added ls m t → Added (l ∷ ls) s t
  one_move Silent ls s m t move rest =
      record { entries = rest.entries; added = rest.added ∙ ap (λ (x : RunState). x.history ++ rest.entries) move; follows = rest.follows }
  one_move (Be actor) ls s m t move rest =
      record { entries = rest.entries; added = rest.added ∙ ap (λ (x : RunState). x.history ++ rest.entries) move; follows = rest.follows }
  one_move (At minute) ls s m t move rest =
      let arrives : Arrives birth minute s.history move.0 = move.1 in
      record {
        entries = arrives.ticks ++ rest.entries;
        added =
            rest.added ∙ ap (λ (x : RunState). x.history ++ rest.entries) move.2 ∙ ap (λ (x : List Entry). x ++ rest.entries) arrives.added ∙ append_assoc s.history arrives.ticks rest.entries;
        follows = (arrives.ticks, rest.entries, refl, ticks_to minute arrives.ticks arrives.are_ticks, rest.follows);
      }
  one_move (Ask request) ls s m t move rest =
      let e : Entry = asked scripts_who s.actor request move.0 in
      record {
        entries = e ∷ rest.entries;
        added = rest.added ∙ ap (λ (x : RunState). x.history ++ rest.entries) move.2 ∙ append_assoc s.history (e ∷ []) rest.entries;
        follows = (scripts_who, s.actor, move.0, rest.entries, refl, rest.follows);
      }

  run_added : (ts : List (List ℕ)) (ls : List Line) (s t : RunState) → map (said np) ts ≡ map (λ l. Ok l) ls → MovesThrough np birth ts s t → Added ls s t
  run_added [] [] s t e plays = record { entries = []; added = ap (λ (x : RunState). x.history) plays ∙ sym (append-nil s.history); follows = refl }
  run_added [] (l ∷ ls) s t e plays = cc
  run_added (x ∷ ts) [] s t e plays = cc
  run_added (x ∷ ts) (l ∷ ls) s t e plays =
      one_move l ls s plays.0 t
      (subst (λ (r : Result Line LineFault). Moves np birth r s plays.0) (head_same (said np x) (Ok l) (map (said np) ts) (map (λ l. Ok l) ls) e) plays.1)
      (run_added ts ls plays.0 t (tail_same (said np x) (Ok l) (map (said np) ts) (map (λ l. Ok l) ls) e) plays.2)

module _ (seed size : ℕ) (low : 1 ≤ size) (high : size ≤ 100_000) where
  abbrev np : NamedPolicy
  np = made_policy size

  made : IsBorn seed size
  made = script_is_born seed size low high

  -- what the lines behind the birth say
  moves : map (said np) made.behind ≡ map (λ l. Ok l) (script_moves seed size)
  moves =
      tail_same (said np (time_line FIRST_MINUTE)) (Ok (At FIRST_MINUTE)) (map (said np) made.behind) (map (λ l. Ok l) (script_moves seed size))
      (ap (map (said np)) (sym made.lines_are) ∙ script_is_said seed size low high)

  never_full : (h : List Entry) → length h < MAX_STEPS → length h ≡ MAX_STEPS → ⊥
  never_full h lt e = omega (arith, lt, e)

  -- no line stops the run
  module _ (front : List (List ℕ)) (line : List ℕ) (rest : List (List ℕ)) (is : made.behind ≡ front ++ line ∷ rest) (before : RunState) (plays : MovesThrough np FIRST_MINUTE front (at_birth np FIRST_MINUTE) before)
      (h : List Entry) (m : Model) (legal : Legal np.policy FIRST_MINUTE h m) where
    cut : Parts (said np) front (line ∷ rest) (script_moves seed size)
    cut = in_parts (said np) front (line ∷ rest) (script_moves seed size) (ap (map (said np)) (sym is) ∙ moves)

    so_far : Added np FIRST_MINUTE cut.front (at_birth np FIRST_MINUTE) before
    so_far = run_added np FIRST_MINUTE front cut.front (at_birth np FIRST_MINUTE) before cut.of_front plays

    whole_front : before.history ≡ so_far.entries
    whole_front = so_far.added

    no_stop : (back : List Line) → cut.back ≡ back → map (said np) (line ∷ rest) ≡ map (λ l. Ok l) back → (n : ℕ) (end : EndView) → Stops np FIRST_MINUTE (said np line) n before h end → ⊥
    no_stop [] e of n end stops = cc
    no_stop (l ∷ ls) e of n end stops = by l e (subst (λ (r : Result Line LineFault). Stops np FIRST_MINUTE r n before h end) (head_same (said np line) (Ok l) (map (said np) rest) (map (λ l. Ok l) ls) of) stops)
      where
        by : (l : Line) → cut.back ≡ l ∷ ls → Stops np FIRST_MINUTE (Ok l) n before h end → ⊥
        by Silent e stops = stops
        by (Be actor) e stops = stops
        by (At minute) e stops =
            let filled : IsFilled FIRST_MINUTE minute before.history h = stops.0 in
            never_full h
            (history_is_short seed size low high (cut.front ++ At minute ∷ []) ls (append_assoc cut.front (At minute ∷ []) ls ∙ ap (λ (x : List Line). cut.front ++ x) (sym e) ∙ sym cut.parts) h m
            (subst (λ (x : List Entry). FollowsLines (cut.front ++ At minute ∷ []) x) (ap (λ (x : List Entry). x ++ filled.ticks) (sym whole_front) ∙ sym filled.added)
            (follows_both cut.front (At minute ∷ []) so_far.entries filled.ticks so_far.follows (filled.ticks, [], sym (append-nil filled.ticks), ticks_to minute filled.ticks filled.are_ticks, refl)))
            legal)
            filled.full
        by (Ask request) e stops =
            never_full before.history
            (subst (λ (x : List Entry). length x < MAX_STEPS) stops.1
            (history_is_short seed size low high cut.front (Ask request ∷ ls) (ap (λ (x : List Line). cut.front ++ x) (sym e) ∙ sym cut.parts) h m
            (subst (λ (x : List Entry). FollowsLines cut.front x) (sym (stops.1 ∙ whole_front)) so_far.follows) legal))
            stops.0

  sums : (g : Gen) (end : EndView) → Summed np g FIRST_MINUTE 2 made.behind end → end.status ≡ 0
  sums g end s = ap (λ (t : EndView). t.status) s.end_is ∙ by s.run.ends
    where
      by : PlayedOut np FIRST_MINUTE made.behind s.history s.ran ⊎ StoppedAt np FIRST_MINUTE 2 made.behind s.history s.ran → (summed np g FIRST_MINUTE s.history s.ran).status ≡ 0
      by (inl played) = ap (λ (t : EndView). (summed np g FIRST_MINUTE s.history t).status) played.end_is
      by (inr stopped) = absurd (no_stop stopped.front stopped.line stopped.rest stopped.parts stopped.before stopped.plays s.history s.run.model s.run.legal
          (cut stopped.front stopped.line stopped.rest stopped.parts stopped.before stopped.plays s.history s.run.model s.run.legal).back refl
          (cut stopped.front stopped.line stopped.rest stopped.parts stopped.before stopped.plays s.history s.run.model s.run.legal).of_back
          (2 + length stopped.front) s.ran stopped.stops)

-- `gen` ends with its summary
pub gen_succeeds : (g : Gen) → 1 ≤ g.size → g.size ≤ 100_000 → (end : EndView) → GenEnds g end → end.status ≡ 0
gen_succeeds g low high end ends =
    let np : NamedPolicy = made_policy g.size in
    let born_so : IsBorn g.seed g.size = made g.seed g.size low high in
    let read : SummedFrom np g (start_of np 1 (lines_of (script_text g.seed g.size))) end = subst (λ r. SummedOver g r end) (safe_made g.size low) ends in
    let starts : start_of np 1 (lines_of (script_text g.seed g.size)) ≡ born FIRST_MINUTE 2 born_so.behind =
    ap (start_of np 1) born_so.lines_are ∙ ap (λ r. begun np r 1 born_so.behind (start_of np 2 born_so.behind)) born_so.birth in
    sums g.seed g.size low high g end (subst (λ s. SummedFrom np g s end) starts read)
