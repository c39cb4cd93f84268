-- A script has just one end over a safe policy, and what that end means.
use Rattle.std.proofs.Common.{◌≡◌, ℕ, ◌+◌, ◌<◌, ◌≤◌, Bool, true, false, List, [], ◌∷◌, ◌++◌, length, ◌⊎◌, inl, inr, refl, sym, ◌∙◌, ap, subst, arith, append_assoc, length-append}
use Rattle.std.specs.Prelude.{◌↔◌, Result, Ok, Err}
use Rattle.std.proofs.lemmas.Bool.{ltb-true, ltb-false}
use Rattle.gt_base.specs.Machines.{asked}
use Rattle.gt_base.specs.declared.requests.Actor.{Actor}
use Rattle.gt_base.specs.declared.requests.Entry.{Entry}
use Rattle.gt_base.specs.declared.requests.Reply.{Reply}
use Rattle.gt_base.specs.declared.requests.Request.{Request}
use Rattle.gt_base.specs.declared.requests.Step.{Step}
use Rattle.gt_base.specs.declared.requests.Step.TheVariants.{Tick, Ask as Answered}
use Rattle.gt_base.specs.declared.limits.TheConstants.{MAX_STEPS}
use Rattle.gtrbac_model.proofs.Append.{append-nil}
use Rattle.gtrbac_model.specs.Safety.{IsSafe}
use Rattle.gtrbac_model.specs.Status.{Model}
use Rattle.gtrbac_model.specs.History.{Legal, now_of}
use Rattle.gt_text.specs.Lines.{lines_of, is_longer}
use Rattle.policy_words.specs.Naming.{NamedPolicy}
use Rattle.policy_commands.specs.Ends.{EndView, ending}
use Rattle.request_text.specs.Replies.{reply_line, fault_word}
use Rattle.request_text.specs.declared.lines.Line.{Line}
use Rattle.request_text.specs.declared.lines.Line.TheVariants.{Silent, At, Be, Ask}
use Rattle.request_text.specs.declared.lines.LineFault.{LineFault}
use Rattle.gtrbac_tool.specs.EndTexts.{behind, script_fault, steps_full}
use Rattle.gtrbac_tool.specs.Script.{RunState, AreTicks, Moves, MovesThrough, Stops, PlayedOut, StoppedAt, RunOver, Run, ScriptStart, never, born, failed, start_of, EndsFrom, EndsIf, Ends, said, scripts_who, at_birth}
use Rattle.gtrbac_tool.specs.Meanings.{ComesTo, IsFaulty, IsFullAt, MeetsFault, MeetsFull, IsWhole, RunMeans}
use Rattle.gtrbac_tool.proofs.Causing.{FailsWith, starts, status_of}
use Rattle.gtrbac_tool.proofs.OneHistory.{IsDone, next_same, ticks_same}
use Rattle.gtrbac_tool.specs.declared.top.TheConstants.{MAX_SCRIPT}

abbrev reply_at : Reply → Step → Reply
reply_at other (Tick upto to) = other
reply_at other (Answered actor request reply) = reply

same_reply : (actor : Actor) (request : Request) (a b : Reply) → asked scripts_who actor request a ≡ asked scripts_who actor request b → a ≡ b
same_reply actor request a b h = ap (λ (e : Entry). reply_at a e.what) h

-- a run as lines move it, one after another, until one stops it
module _ (np : NamedPolicy) (birth : ℕ) where
  abbrev Goes : ℕ → List (List ℕ) → RunState → List Entry → EndView → Type 0
  Goes n [] s h end = (h ≡ s.history) × (end ≡ ending 0 s.text)
  Goes n (line ∷ lines) s h end = ((m : RunState) × Moves np birth (said np line) s m × Goes (n + 1) lines m h end) ⊎ Stops np birth (said np line) n s h end

  abbrev Way : Result Line LineFault → ℕ → List (List ℕ) → RunState → List Entry → EndView → Type 0
  Way r n lines s h end = ((m : RunState) × Moves np birth r s m × Goes (n + 1) lines m h end) ⊎ Stops np birth r n s h end

  played_goes : (n : ℕ) (lines : List (List ℕ)) (s t : RunState) (h : List Entry) (end : EndView) → MovesThrough np birth lines s t → h ≡ t.history → end ≡ ending 0 t.text → Goes n lines s h end
  played_goes n [] s t h end plays is ends = (is ∙ ap (λ (g : RunState). g.history) plays, ends ∙ ap (λ (g : RunState). ending 0 g.text) plays)
  played_goes n (line ∷ lines) s t h end plays is ends = inl (plays.0, plays.1, played_goes (n + 1) lines plays.0 t h end plays.2 is ends)

  stopped_goes : (n : ℕ) (front : List (List ℕ)) (line : List ℕ) (rest : List (List ℕ)) (s t : RunState) (h : List Entry) (end : EndView) → MovesThrough np birth front s t
      → Stops np birth (said np line) (n + length front) t h end → Goes n (front ++ line ∷ rest) s h end
  stopped_goes n [] line rest s t h end plays stops =
      let at : n + 0 ≡ n = omega arith in
      inr (subst (λ (g : RunState). Stops np birth (said np line) n g h end) plays (subst (λ (k : ℕ). Stops np birth (said np line) k t h end) at stops))
  stopped_goes n (first ∷ front) line rest s t h end plays stops =
      let at : n + length (first ∷ front) ≡ (n + 1) + length front = omega arith in
      inl (plays.0, plays.1, stopped_goes (n + 1) front line rest plays.0 t h end plays.2 (subst (λ (k : ℕ). Stops np birth (said np line) k t h end) at stops))

  ends_go : (n : ℕ) (lines : List (List ℕ)) (h : List Entry) (end : EndView) → PlayedOut np birth lines h end ⊎ StoppedAt np birth n lines h end → Goes n lines (at_birth np birth) h end
  ends_go n lines h end (inl out) = played_goes n lines (at_birth np birth) out.last h end out.plays out.history out.end_is
  ends_go n lines h end (inr at) =
      subst (λ (ls : List (List ℕ)). Goes n ls (at_birth np birth) h end) (sym at.parts) (stopped_goes n at.front at.line at.rest (at_birth np birth) at.before h end at.plays at.stops)

  -- a history only grows, and never beyond what is allowed
  pub record Grows (s : RunState) (h : List Entry) : Type 0 where
    pub more : List Entry
    pub all : h ≡ s.history ++ more
    pub room : length s.history ≤ MAX_STEPS → length h ≤ MAX_STEPS

  stays : (s : RunState) (h : List Entry) → h ≡ s.history → Grows s h
  stays s h is = record { more = []; all = is ∙ sym (append-nil s.history); room = λ r. subst (λ (k : List Entry). length k ≤ MAX_STEPS) (sym is) r }

  grows_on : (s m : RunState) (h ts : List Entry) → m.history ≡ s.history ++ ts → (length s.history ≤ MAX_STEPS → length m.history ≤ MAX_STEPS) → Grows m h → Grows s h
  grows_on s m h ts is room g = record {
    more = ts ++ g.more;
    all = g.all ∙ ap (λ (k : List Entry). k ++ g.more) is ∙ append_assoc s.history ts g.more;
    room = λ r. g.room (room r);
  }

  grows : (n : ℕ) (lines : List (List ℕ)) (s : RunState) (h : List Entry) (end : EndView) → Goes n lines s h end → Grows s h
  grows n [] s h end go = stays s h go.0
  grows n (line ∷ lines) s h end go = by (λ m g. grows (n + 1) lines m h end g) (said np line) go
    where
      by : ((m : RunState) → Goes (n + 1) lines m h end → Grows m h) → (r : Result Line LineFault) → Way r n lines s h end → Grows s h
      by rec (Ok Silent) (inl x) = subst (λ (g : RunState). Grows g h) x.1 (rec x.0 x.2)
      by rec (Ok Silent) (inr x) = absurd x
      by rec (Ok (Be actor)) (inl x) =
          grows_on s x.0 h [] (ap (λ (g : RunState). g.history) x.1 ∙ sym (append-nil s.history)) (λ r. subst (λ (g : RunState). length g.history ≤ MAX_STEPS) (sym x.1) r) (rec x.0 x.2)
      by rec (Ok (Be actor)) (inr x) = absurd x
      by rec (Ok (At minute)) (inl x) =
          let is : x.0.history ≡ x.1.0 = ap (λ (g : RunState). g.history) x.1.2 in
          grows_on s x.0 h x.1.1.ticks (is ∙ x.1.1.added) (λ r. subst (λ (k : List Entry). length k ≤ MAX_STEPS) (sym is) x.1.1.room) (rec x.0 x.2)
      by rec (Ok (At minute)) (inr x) = record { more = x.0.ticks; all = x.0.added; room = λ r. omega (arith, x.0.full) }
      by rec (Ok (Ask request)) (inl x) =
          let e : Entry = asked scripts_who s.actor request x.1.0 in
          let is : x.0.history ≡ s.history ++ e ∷ [] = ap (λ (g : RunState). g.history) x.1.2 in
          grows_on s x.0 h (e ∷ []) is (λ r. subst (λ (k : List Entry). length k ≤ MAX_STEPS) (sym is) (omega (arith, x.1.1, length-append s.history (e ∷ [])))) (rec x.0 x.2)
      by rec (Ok (Ask request)) (inr x) = stays s h x.1
      by rec (Err fault) (inl x) = absurd x.1
      by rec (Err fault) (inr x) = stays s h x.0

  module _ (safe : IsSafe np.policy.triggers) where
    abbrev Same : List Entry → List Entry → EndView → EndView → Type 0
    Same h k end other = (h ≡ k) × (end ≡ other)

    -- where both runs come to a minute, their ticks are the same
    ticks_meet : (m m' : Model) (minute : ℕ) (s : RunState) (h k hs ks ts ts' : List Entry) → Legal np.policy birth h m → Legal np.policy birth k m'
        → (more more' : List Entry) → h ≡ hs ++ more → k ≡ ks ++ more' → hs ≡ s.history ++ ts → ks ≡ s.history ++ ts' → AreTicks minute ts → AreTicks minute ts'
        → IsDone birth minute hs → IsDone birth minute ks → length hs ≤ MAX_STEPS → length ks ≤ MAX_STEPS → hs ≡ ks
    ticks_meet m m' minute s h k hs ks ts ts' lh lk more more' all all' is is' a a' d d' r r' =
        let same : ts ≡ ts' = ticks_same np.policy birth minute safe m m' ts ts' s.history more more' a a'
        (subst (λ (x : List Entry). Legal np.policy birth x m) (all ∙ ap (λ (x : List Entry). x ++ more) is ∙ append_assoc s.history ts more) lh)
        (subst (λ (x : List Entry). Legal np.policy birth x m') (all' ∙ ap (λ (x : List Entry). x ++ more') is' ∙ append_assoc s.history ts' more') lk)
        (subst (λ (x : List Entry). IsDone birth minute x) is d) (subst (λ (x : List Entry). IsDone birth minute x) is' d')
        (subst (λ (x : List Entry). length x ≤ MAX_STEPS) is r) (subst (λ (x : List Entry). length x ≤ MAX_STEPS) is' r') in
        is ∙ ap (λ (x : List Entry). s.history ++ x) same ∙ sym is'

    one_way : (m m' : Model) (lines : List (List ℕ)) (n : ℕ) (s : RunState) (h k : List Entry) (end other : EndView) → length s.history ≤ MAX_STEPS
        → Legal np.policy birth h m → Legal np.policy birth k m' → Goes n lines s h end → Goes n lines s k other → Same h k end other
    one_way m m' [] n s h k end other room lh lk a b = (a.0 ∙ sym b.0, a.1 ∙ sym b.1)
    one_way m m' (line ∷ lines) n s h k end other room lh lk a b =
        by (λ x y r e ga gb. one_way m m' lines (n + 1) x h k end other r lh lk ga (subst (λ (g : RunState). Goes (n + 1) lines g k other) (sym e) gb)) (said np line) a b
      where
        by : ((x y : RunState) → length x.history ≤ MAX_STEPS → x ≡ y → Goes (n + 1) lines x h end → Goes (n + 1) lines y k other → Same h k end other)
            → (r : Result Line LineFault) → Way r n lines s h end → Way r n lines s k other → Same h k end other
        by on (Ok Silent) (inl x) (inl y) = on x.0 y.0 (subst (λ (g : RunState). length g.history ≤ MAX_STEPS) (sym x.1) room) (x.1 ∙ sym y.1) x.2 y.2
        by on (Ok Silent) (inr x) y = absurd x
        by on (Ok Silent) (inl x) (inr y) = absurd y
        by on (Ok (Be actor)) (inl x) (inl y) = on x.0 y.0 (subst (λ (g : RunState). length g.history ≤ MAX_STEPS) (sym x.1) room) (x.1 ∙ sym y.1) x.2 y.2
        by on (Ok (Be actor)) (inr x) y = absurd x
        by on (Ok (Be actor)) (inl x) (inr y) = absurd y
        by on (Ok (At minute)) (inl x) (inl y) =
            let gx = grows (n + 1) lines x.0 h end x.2 in
            let gy = grows (n + 1) lines y.0 k other y.2 in
            let same : x.1.0 ≡ y.1.0 = ticks_meet m m' minute s h k x.1.0 y.1.0 x.1.1.ticks y.1.1.ticks lh lk gx.more gy.more
            (gx.all ∙ ap (λ (g : RunState). g.history ++ gx.more) x.1.2) (gy.all ∙ ap (λ (g : RunState). g.history ++ gy.more) y.1.2)
            x.1.1.added y.1.1.added x.1.1.are_ticks y.1.1.are_ticks (inl x.1.1.there) (inl y.1.1.there) x.1.1.room y.1.1.room in
            let goings : x.0 ≡ y.0 = x.1.2 ∙ (λ i. record { actor = s.actor; history = same i; text = s.text }) ∙ sym y.1.2 in
            on x.0 y.0 (subst (λ (g : RunState). length g.history ≤ MAX_STEPS) (sym x.1.2) x.1.1.room) goings x.2 y.2
        by on (Ok (At minute)) (inl x) (inr y) =
            let gx = grows (n + 1) lines x.0 h end x.2 in
            let same : x.1.0 ≡ k = ticks_meet m m' minute s h k x.1.0 k x.1.1.ticks y.0.ticks lh lk gx.more []
            (gx.all ∙ ap (λ (g : RunState). g.history ++ gx.more) x.1.2) (sym (append-nil k))
            x.1.1.added y.0.added x.1.1.are_ticks y.0.are_ticks (inl x.1.1.there) (inr y.0.full) x.1.1.room (omega (arith, y.0.full)) in
            let there : minute ≤ now_of birth k = subst (λ (g : List Entry). minute ≤ now_of birth g) same x.1.1.there in
            absurd (omega (arith, there, y.0.before))
        by on (Ok (At minute)) (inr x) (inl y) =
            let gy = grows (n + 1) lines y.0 k other y.2 in
            let same : h ≡ y.1.0 = ticks_meet m m' minute s h k h y.1.0 x.0.ticks y.1.1.ticks lh lk [] gy.more
            (sym (append-nil h)) (gy.all ∙ ap (λ (g : RunState). g.history ++ gy.more) y.1.2)
            x.0.added y.1.1.added x.0.are_ticks y.1.1.are_ticks (inr x.0.full) (inl y.1.1.there) (omega (arith, x.0.full)) y.1.1.room in
            let there : minute ≤ now_of birth h = subst (λ (g : List Entry). minute ≤ now_of birth g) (sym same) y.1.1.there in
            absurd (omega (arith, there, x.0.before))
        by on (Ok (At minute)) (inr x) (inr y) =
            let same : h ≡ k = ticks_meet m m' minute s h k h k x.0.ticks y.0.ticks lh lk [] []
            (sym (append-nil h)) (sym (append-nil k))
            x.0.added y.0.added x.0.are_ticks y.0.are_ticks (inr x.0.full) (inr y.0.full) (omega (arith, x.0.full)) (omega (arith, y.0.full)) in
            (same, x.1 ∙ sym y.1)
        by on (Ok (Ask request)) (inl x) (inl y) =
            let gx = grows (n + 1) lines x.0 h end x.2 in
            let gy = grows (n + 1) lines y.0 k other y.2 in
            let e : Entry = asked scripts_who s.actor request x.1.0 in
            let e' : Entry = asked scripts_who s.actor request y.1.0 in
            let same : e ≡ e' = next_same np.policy birth safe m m' s.history gx.more gy.more e e'
            (subst (λ (z : List Entry). Legal np.policy birth z m) (gx.all ∙ ap (λ (g : RunState). g.history ++ gx.more) x.1.2 ∙ append_assoc s.history (e ∷ []) gx.more) lh)
            (subst (λ (z : List Entry). Legal np.policy birth z m') (gy.all ∙ ap (λ (g : RunState). g.history ++ gy.more) y.1.2 ∙ append_assoc s.history (e' ∷ []) gy.more) lk)
            refl in
            let reply : x.1.0 ≡ y.1.0 = same_reply s.actor request x.1.0 y.1.0 same in
            let goings : x.0 ≡ y.0 = x.1.2 ∙ (λ i. record { actor = s.actor; history = s.history ++ asked scripts_who s.actor request (reply i) ∷ []; text = s.text ++ reply_line np (reply i) }) ∙ sym y.1.2 in
            on x.0 y.0 (subst (λ (g : RunState). length g.history ≤ MAX_STEPS) (sym x.1.2) (omega (arith, x.1.1, length-append s.history (e ∷ [])))) goings x.2 y.2
        by on (Ok (Ask request)) (inl x) (inr y) = absurd (omega (arith, x.1.1, y.0))
        by on (Ok (Ask request)) (inr x) (inl y) = absurd (omega (arith, x.0, y.1.1))
        by on (Ok (Ask request)) (inr x) (inr y) = (x.1 ∙ sym y.1, x.2 ∙ sym y.2)
        by on (Err fault) (inl x) y = absurd x.1
        by on (Err fault) (inr x) (inl y) = absurd y.1
        by on (Err fault) (inr x) (inr y) = (x.0 ∙ sym y.0, x.1 ∙ sym y.1)

-- two runs have one history and one end
pub same_run : (np : NamedPolicy) → IsSafe np.policy.triggers → (birth n : ℕ) (lines : List (List ℕ)) (h k : List Entry) (end other : EndView) → RunOver np birth n lines h end → RunOver np birth n lines k other
    → (h ≡ k) × (end ≡ other)
same_run np safe birth n lines h k end other a b =
    one_way np birth safe a.model b.model lines n (at_birth np birth) h k end other (omega arith) a.legal b.legal (ends_go np birth n lines h end a.ends) (ends_go np birth n lines k other b.ends)

one_run : (np : NamedPolicy) → IsSafe np.policy.triggers → (birth n : ℕ) (lines : List (List ℕ)) (end other : EndView) → Run np birth n lines end → Run np birth n lines other → end ≡ other
one_run np safe birth n lines end other a b = (same_run np safe birth n lines a.0 b.0 end other a.1 b.1).1

one_from : (np : NamedPolicy) → IsSafe np.policy.triggers → (start : ScriptStart) (end other : EndView) → EndsFrom np start end → EndsFrom np start other → end ≡ other
one_from np safe never end other a b = a ∙ sym b
one_from np safe (born birth n lines) end other a b = one_run np safe birth n lines end other a b
one_from np safe (failed t) end other a b = a ∙ sym b

one_if : (np : NamedPolicy) → IsSafe np.policy.triggers → (script : List ℕ) (long : Bool) (end other : EndView) → EndsIf long np script end → EndsIf long np script other → end ≡ other
one_if np safe script true end other a b = a ∙ sym b
one_if np safe script false end other a b = one_from np safe (start_of np 1 (lines_of script)) end other a b

pub one_end : (np : NamedPolicy) → IsSafe np.policy.triggers → (script : List ℕ) (end other : EndView) → Ends np script end → Ends np script other → end ≡ other
one_end np safe script end other a b = one_if np safe script (is_longer MAX_SCRIPT script) end other a b

-- what an end means

module _ (np : NamedPolicy) (script : List ℕ) where
  -- how a script ends, with what causes it
  abbrev Cause : EndView → Type 0
  Cause end = ((end.status ≡ 7) × MeetsFault np script) ⊎ ((end.status ≡ 9) × MeetsFull np script) ⊎ ((end.status ≡ 0) × IsWhole np script)

  stop_cause : (birth n : ℕ) (lines : List (List ℕ)) (h : List Entry) (end : EndView) (m : Model) → Legal np.policy birth h m → start_of np 1 (lines_of script) ≡ born birth n lines → StoppedAt np birth n lines h end → Cause end
  stop_cause birth n lines h end m legal begins at = by (said np at.line) refl at.stops
    where
      comes : (Holds : ℕ → Result Line LineFault → RunState → List Entry → Type 0) → Holds birth (said np at.line) at.before h → ComesTo np script Holds
      comes Holds holds = record {
        birth = birth;
        number = n;
        lines = lines;
        begins = begins;
        history = h;
        model = m;
        legal = legal;
        front = at.front;
        line = at.line;
        rest = at.rest;
        parts = at.parts;
        before = at.before;
        plays = at.plays;
        holds = holds;
      }

      by : (r : Result Line LineFault) → said np at.line ≡ r → Stops np birth r (n + length at.front) at.before h end → Cause end
      by (Ok Silent) e stops = absurd stops
      by (Ok (Be actor)) e stops = absurd stops
      by (Ok (At minute)) e stops = inr (inl (status_of end _ stops.1, comes IsFullAt (subst (λ (r : Result Line LineFault). IsFullAt birth r at.before h) (sym e) stops.0)))
      by (Ok (Ask request)) e stops = inr (inl (status_of end _ stops.2, comes IsFullAt (subst (λ (r : Result Line LineFault). IsFullAt birth r at.before h) (sym e) (stops.0, stops.1))))
      by (Err fault) e stops = inl (status_of end _ stops.1, inr (comes IsFaulty (subst (λ (r : Result Line LineFault). IsFaulty birth r at.before h) (sym e) stops.0)))

  cause_from : (start : ScriptStart) (end : EndView) → FailsWith start → start_of np 1 (lines_of script) ≡ start → EndsFrom np start end → Cause end
  cause_from never end fails e is = inr (inr (status_of end _ is, inl e))
  cause_from (failed t) end fails e is = inl (status_of end t is ∙ fails, inl (t, e))
  cause_from (born birth n lines) end fails e run =
      elim run.1.ends [
        | inl out ↦ inr (inr (
          status_of end _ out.end_is,
          inr (record {
            birth = birth;
            number = n;
            lines = lines;
            begins = e;
            last = out.last;
            plays = out.plays;
            model = run.1.model;
            legal = subst (λ (h : List Entry). Legal np.policy birth h run.1.model) out.history run.1.legal;
          }),
        ))
        | inr at ↦ stop_cause birth n lines run.0 end run.1.model run.1.legal e at
      ]

  cause_of : (end : EndView) → EndsFrom np (start_of np 1 (lines_of script)) end → Cause end
  cause_of end is = cause_from (start_of np 1 (lines_of script)) end (starts np 1 (lines_of script)) refl is

  -- and each cause has such an end
  abbrev HasEnd : ℕ → Type 0
  HasEnd s = (end : EndView) × EndsFrom np (start_of np 1 (lines_of script)) end × (end.status ≡ s)

  faulty_stop : (birth n : ℕ) (r : Result Line LineFault) (g : RunState) (h : List Entry) → IsFaulty birth r g h → (end : EndView) × Stops np birth r n g h end × (end.status ≡ 7)
  faulty_stop birth n (Ok line) g h is = absurd is
  faulty_stop birth n (Err fault) g h is = (behind g.text (script_fault n (fault_word fault)), (is, refl), refl)

  full_stop : (birth n : ℕ) (r : Result Line LineFault) (g : RunState) (h : List Entry) → IsFullAt birth r g h → (end : EndView) × Stops np birth r n g h end × (end.status ≡ 9)
  full_stop birth n (Ok Silent) g h is = absurd is
  full_stop birth n (Ok (Be actor)) g h is = absurd is
  full_stop birth n (Ok (At minute)) g h is = (behind g.text (steps_full n), (is, refl), refl)
  full_stop birth n (Ok (Ask request)) g h is = (behind g.text (steps_full n), (is.0, is.1, refl), refl)
  full_stop birth n (Err fault) g h is = absurd is

  comes_end : (Holds : ℕ → Result Line LineFault → RunState → List Entry → Type 0) (s : ℕ)
      → ((birth n : ℕ) (r : Result Line LineFault) (g : RunState) (h : List Entry) → Holds birth r g h → (end : EndView) × Stops np birth r n g h end × (end.status ≡ s)) → ComesTo np script Holds → HasEnd s
  comes_end Holds s stop c =
      let at = stop c.birth (c.number + length c.front) (said np c.line) c.before c.history c.holds in
      let run : Run np c.birth c.number c.lines at.0 = (
        c.history,
        record {
          model = c.model;
          legal = c.legal;
          ends = inr (record { front = c.front; line = c.line; rest = c.rest; parts = c.parts; before = c.before; plays = c.plays; stops = at.1 });
        },
      ) in
      (at.0, subst (λ (start : ScriptStart). EndsFrom np start at.0) (sym c.begins) run, at.2)

  fault_end : MeetsFault np script → HasEnd 7
  fault_end (inl h) = (h.0, subst (λ (start : ScriptStart). EndsFrom np start h.0) (sym h.1) refl, subst (λ (start : ScriptStart). FailsWith start) h.1 (starts np 1 (lines_of script)))
  fault_end (inr c) = comes_end IsFaulty 7 faulty_stop c

  full_end : MeetsFull np script → HasEnd 9
  full_end c = comes_end IsFullAt 9 full_stop c

  whole_end : IsWhole np script → HasEnd 0
  whole_end (inl e) = (ending 0 [], subst (λ (start : ScriptStart). EndsFrom np start (ending 0 [])) (sym e) refl, refl)
  whole_end (inr out) =
      let run : Run np out.birth out.number out.lines (ending 0 out.last.text) =
      (out.last.history, record { model = out.model; legal = out.legal; ends = inl (record { last = out.last; plays = out.plays; history = refl; end_is = refl }) }) in
      (ending 0 out.last.text, subst (λ (start : ScriptStart). EndsFrom np start (ending 0 out.last.text)) (sym out.begins) run, refl)

  pub means_so : IsSafe np.policy.triggers → (end : EndView) → EndsFrom np (start_of np 1 (lines_of script)) end → RunMeans np script end
  means_so safe end is = record { fault = (to_fault (cause_of end is), λ c. same 7 (fault_end c)); full = (to_full (cause_of end is), λ c. same 9 (full_end c)); whole = (to_whole (cause_of end is), λ c. same 0 (whole_end c)) }
    where
      same : (s : ℕ) → HasEnd s → end.status ≡ s
      same s o = status_of end o.0 (one_from np safe (start_of np 1 (lines_of script)) end o.0 is o.1) ∙ o.2

      to_fault : Cause end → end.status ≡ 7 → MeetsFault np script
      to_fault (inl c) s = c.1
      to_fault (inr (inl c)) s = absurd (cc (c.0, s))
      to_fault (inr (inr c)) s = absurd (cc (c.0, s))

      to_full : Cause end → end.status ≡ 9 → MeetsFull np script
      to_full (inl c) s = absurd (cc (c.0, s))
      to_full (inr (inl c)) s = c.1
      to_full (inr (inr c)) s = absurd (cc (c.0, s))

      to_whole : Cause end → end.status ≡ 0 → IsWhole np script
      to_whole (inl c) s = absurd (cc (c.0, s))
      to_whole (inr (inl c)) s = absurd (cc (c.0, s))
      to_whole (inr (inr c)) s = c.1

  if_short : (b : Bool) (end : EndView) → b ≡ false → EndsIf b np script end → EndsFrom np (start_of np 1 (lines_of script)) end
  if_short true end e is = absurd (cc (e))
  if_short false end e is = is

  not_longer : length script ≤ MAX_SCRIPT → (b : Bool) → is_longer MAX_SCRIPT script ≡ b → b ≡ false
  not_longer le false e = refl
  not_longer le true e = absurd (omega (arith, le, ltb-true MAX_SCRIPT (length script) e))

  long_if : (b : Bool) (end : EndView) → is_longer MAX_SCRIPT script ≡ b → EndsIf b np script end → (end.status ≡ 6) ↔ (MAX_SCRIPT < length script)
  long_if true end e is = (λ s. ltb-true MAX_SCRIPT (length script) e, λ l. status_of end _ is)
  long_if false end e is = (λ s. absurd (no_six (cause_of end is) s), λ l. absurd (omega (arith, l, ltb-false MAX_SCRIPT (length script) e)))
    where
      no_six : Cause end → end.status ≡ 6 → ⊥
      no_six (inl c) s = cc (c.0, s)
      no_six (inr (inl c)) s = cc (c.0, s)
      no_six (inr (inr c)) s = cc (c.0, s)

pub runs_mean : (np : NamedPolicy) → IsSafe np.policy.triggers → (script : List ℕ) → length script ≤ MAX_SCRIPT → (end : EndView) → Ends np script end → RunMeans np script end
runs_mean np safe script fits end is = means_so np script safe end (if_short np script (is_longer MAX_SCRIPT script) end (not_longer np script fits (is_longer MAX_SCRIPT script) refl) is)

pub long_means : (np : NamedPolicy) (script : List ℕ) (end : EndView) → Ends np script end → (end.status ≡ 6) ↔ (MAX_SCRIPT < length script)
long_means np script end is = long_if np script (is_longer MAX_SCRIPT script) end refl is
