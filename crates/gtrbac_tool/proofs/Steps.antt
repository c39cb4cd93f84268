-- The steps of a run.
use Rattle.std.proofs.Common.{◌≡◌, ℕ, ◌+◌, ◌<◌, ◌≤◌, true, false, List, [], ◌∷◌, ◌++◌, length, inl, inr, refl, sym, ◌∙◌, ap, subst, arith, append_assoc}
use Rattle.std.specs.Prelude.{Bool, MatchBool, Result, Ok}
use Rattle.gt_base.specs.Machines.{ticked}
use Rattle.gt_base.specs.declared.requests.Actor.{Actor}
use Rattle.gt_base.specs.declared.requests.Entry.{Entry}
use Rattle.gt_base.specs.declared.requests.Reply.{Reply}
use Rattle.gt_base.specs.declared.requests.Request.{Request}
use Rattle.gt_base.specs.declared.limits.TheConstants.{MAX_STEPS}
use Rattle.gtrbac_model.proofs.Append.{append-nil}
use Rattle.gtrbac_model.specs.History.{Legal, now_of}
use Rattle.gtrbac_model.specs.Policy.{Policy}
use Rattle.history_laws.specs.Named.{AreNamed}
use Rattle.history_laws.proofs.NamedPoints.{points_are_named}
use Rattle.policy_words.specs.Naming.{NamedPolicy}
use Rattle.policy_commands.specs.Ends.{EndView, ending}
use Rattle.core_machine.specs.Books.{BookView, IsBook, IsLegalBook, SameRoot, SameRoot-refl, SameRoot-trans, TicksFurther, Asks, now_in, model_in, point_in, reply_in}
use Rattle.request_text.specs.Laws.{CanBeWritten}
use Rattle.request_text.specs.Replies.{reply_line}
use Rattle.request_text.specs.declared.lines.Line.{Line}
use Rattle.request_text.specs.declared.lines.Line.TheVariants.{At, Ask}
use Rattle.request_text.specs.declared.lines.LineFault.{LineFault}
use Rattle.request_text.proofs.BriefWalks.{brief_reply}
use Rattle.request_text.proofs.SoundReplies.{reply_sounds}
use Rattle.gtrbac_tool.specs.declared.script.Played.{Played}
use Rattle.gtrbac_tool.specs.declared.script.Played.TheVariants.{On, Full}
use Rattle.gtrbac_tool.specs.EndTexts.{behind}
use Rattle.gtrbac_tool.specs.Script.{RunState, AreTicks, Arrives, IsFilled, Moves, MovesThrough, Stops, RunOver, said, scripts_who, at_birth}
use Rattle.gtrbac_tool.specs.RunStates.{run_state_of, played_as, PlaysAs, IsOutcome}

-- ticks with this bound were added
pub record Ticked (bound : ℕ) (old new : BookView) : Type 0 where
  pub root : SameRoot old new
  pub ticks : List Entry
  pub added : new.entries ≡ old.entries ++ ticks
  pub are_ticks : AreTicks bound ticks

-- ticks on the way

pub no_ticks : (bound : ℕ) (b : BookView) → Ticked bound b b
no_ticks bound b = record { root = SameRoot-refl b; ticks = []; added = sym (append-nil b.entries); are_ticks = tt }

are_more : (bound to : ℕ) (ts : List Entry) → AreTicks bound ts → AreTicks bound (ts ++ ticked scripts_who bound to ∷ [])
are_more bound to [] h = ((to, refl), tt)
are_more bound to (e ∷ es) h = (h.0, are_more bound to es h.1)

pub tick_more : (bound to : ℕ) (b b' b'' : BookView) → Ticked bound b b' → TicksFurther b' b'' scripts_who bound to → Ticked bound b b''
tick_more bound to b b' b'' way step =
    let last : List Entry = ticked scripts_who bound to ∷ [] in
    record {
      root = SameRoot-trans b b' b'' way.root (sym step.gains.named, sym step.gains.birth);
      ticks = way.ticks ++ last;
      added = step.gains.entries ∙ ap (λ (es : List Entry). es ++ last) way.added ∙ append_assoc b.entries way.ticks last;
      are_ticks = are_more bound to way.ticks way.are_ticks;
    }

pub arrives : (minute : ℕ) (b b' : BookView) → Ticked minute b b' → minute ≤ now_in b' → length b'.entries ≤ MAX_STEPS → Arrives b.birth minute b.entries b'.entries
arrives minute b b' way le room =
    record { ticks = way.ticks; added = way.added; are_ticks = way.are_ticks; there = subst (λ (t : ℕ). minute ≤ now_of t b'.entries) (sym way.root.1) le; room = room }

pub fills : (minute : ℕ) (b b' : BookView) → Ticked minute b b' → now_in b' < minute → length b'.entries ≡ MAX_STEPS → IsFilled b.birth minute b.entries b'.entries
fills minute b b' way early full =
    record { ticks = way.ticks; added = way.added; are_ticks = way.are_ticks; before = subst (λ (t : ℕ). now_of t b'.entries < minute) (sym way.root.1) early; full = full }

-- a reply of a book can be written

pub can_write : (b : BookView) → IsBook b → (actor : Actor) (request : Request) → CanBeWritten b.named (reply_in b actor request)
can_write b book actor request =
    let p : Policy = b.named.policy in
    let named : AreNamed p (b.entries ++ []) = subst (λ (h : List Entry). AreNamed p h) (sym (append-nil b.entries)) book.named in
    let legal : Legal p b.birth (b.entries ++ []) (model_in b) = subst (λ (h : List Entry). Legal p b.birth h (model_in b)) (sym (append-nil b.entries)) book.legal in
    let is = reply_sounds p (point_in b) (points_are_named p b.birth b.entries [] (model_in b) book.well.policy book.birth named legal) actor request in
    record { named = is.named; sound = is.sound; brief = brief_reply b.named book.well _ is.named is.sound }

-- how a line is played

pub went : (b b' : BookView) (actor : Actor) (text : List ℕ) (minute : ℕ) (there : Bool)
    → MatchBool there (Arrives b.birth minute b.entries b'.entries) (IsFilled b.birth minute b.entries b'.entries)
    → PlaysAs b.named b.birth (Ok (At minute)) (played_as there) (run_state_of b actor text) (run_state_of b' actor text)
went b b' actor text minute true h = (b'.entries, h, refl)
went b b' actor text minute false h = (refl, λ n. (h, refl))

pub was_asked : (b b' : BookView) (actor : Actor) (request : Request) (reply : Reply) (text text' line : List ℕ) → length b.entries < MAX_STEPS
    → Asks b scripts_who actor request reply b' → line ≡ reply_line b'.named reply → text' ≡ text ++ line
    → PlaysAs b.named b.birth (Ok (Ask request)) On (run_state_of b actor text) (run_state_of b' actor text')
was_asked b b' actor request reply text text' line room step line_is text_is =
    let all : text' ≡ text ++ reply_line b.named reply = text_is ∙ ap (λ (l : List ℕ). text ++ l) (line_is ∙ ap (λ (np : NamedPolicy). reply_line np reply) step.gains.named) in
    (reply, room, λ i. record { actor = actor; history = step.gains.entries i; text = all i })

pub was_full : (b b' : BookView) (actor : Actor) (request : Request) (text : List ℕ) → b' ≡ b → length b.entries ≡ MAX_STEPS
    → PlaysAs b.named b.birth (Ok (Ask request)) Full (run_state_of b actor text) (run_state_of b' actor text)
was_full b b' actor request text same full = (refl, λ n. (full, ap (λ (x : BookView). x.entries) same, refl))

pub by_line : (np : NamedPolicy) (birth : ℕ) (line said : Result Line LineFault) (how : Played) (s t : RunState) → line ≡ said → PlaysAs np birth line how s t → PlaysAs np birth said how s t
by_line np birth line said how s t is h = subst (λ (l : Result Line LineFault). PlaysAs np birth l how s t) is h

-- lines one after another

pub plays_more : (np : NamedPolicy) (birth : ℕ) (front : List (List ℕ)) (line : List ℕ) (s m t : RunState) → MovesThrough np birth front s m → Moves np birth (said np line) m t → MovesThrough np birth (front ++ line ∷ []) s t
plays_more np birth [] line s m t plays moves = (t, subst (λ (g : RunState). Moves np birth (said np line) g t) plays moves, refl)
plays_more np birth (l ∷ ls) line s m t plays moves = (plays.0, plays.1, plays_more np birth ls line plays.0 m t plays.2 moves)

-- of the book that a run begins with
pub rooted : (b0 b : BookView) (line : List ℕ) (how : Played) (s t : RunState) → SameRoot b0 b → PlaysAs b.named b.birth (said b.named line) how s t → PlaysAs b0.named b0.birth (said b0.named line) how s t
rooted b0 b line how s t root h =
    subst (λ (np : NamedPolicy). PlaysAs np b0.birth (said np line) how s t) (sym root.0) (subst (λ (birth : ℕ). PlaysAs b.named birth (said b.named line) how s t) (sym root.1) h)

pub legal_from : (b0 b : BookView) → SameRoot b0 b → IsLegalBook b → Legal b0.named.policy b0.birth b.entries (model_in b)
legal_from b0 b root legal =
    subst (λ (np : NamedPolicy). Legal np.policy b0.birth b.entries (model_in b)) (sym root.0) (subst (λ (birth : ℕ). Legal b.named.policy birth b.entries (model_in b)) (sym root.1) legal)

-- a line that ends the run
pub stop_out : (b0 b : BookView) (before : RunState) (text : List ℕ) (number at : ℕ) (lines later rest front : List (List ℕ)) (line : List ℕ) (kind : ℕ → EndView) (end : EndView)
    → SameRoot b0 b → IsLegalBook b → lines ≡ front ++ later → later ≡ line ∷ rest → MovesThrough b0.named b0.birth front (at_birth b0.named b0.birth) before → at ≡ number + length front
    → text ≡ before.text → ((n : ℕ) → Stops b0.named b0.birth (said b0.named line) n before b.entries (behind before.text (kind n))) → end ≡ behind text (kind (at + 1))
    → RunOver b0.named b0.birth (number + 1) lines b.entries end
stop_out b0 b before text number at lines later rest front line kind end root legal parts steps plays count same stops is =
    let n : at + 1 ≡ (number + 1) + length front = omega (arith, count) in
    let end_is : behind before.text (kind ((number + 1) + length front)) ≡ end = (λ i. behind (sym same i) (kind (sym n i))) ∙ sym is in
    record {
      model = model_in b;
      legal = legal_from b0 b root legal;
      ends = inr (record {
        front = front;
        line = line;
        rest = rest;
        parts = parts ∙ ap (λ (ls : List (List ℕ)). front ++ ls) steps;
        before = before;
        plays = plays;
        stops = subst (λ (t : EndView). Stops b0.named b0.birth (said b0.named line) ((number + 1) + length front) before b.entries t) end_is (stops ((number + 1) + length front));
      });
    }

-- behind the last line
pub last_out : (b0 b : BookView) (actor : Actor) (text : List ℕ) (number : ℕ) (lines later front : List (List ℕ)) (end : EndView)
    → SameRoot b0 b → IsLegalBook b → lines ≡ front ++ later → later ≡ [] → MovesThrough b0.named b0.birth front (at_birth b0.named b0.birth) (run_state_of b actor text) → end ≡ ending 0 text
    → RunOver b0.named b0.birth (number + 1) lines b.entries end
last_out b0 b actor text number lines later front end root legal parts none plays is =
    let all : front ≡ lines = sym (parts ∙ ap (λ (ls : List (List ℕ)). front ++ ls) none ∙ append-nil front) in
    record {
      model = model_in b;
      legal = legal_from b0 b root legal;
      ends = inl (record { last = run_state_of b actor text; plays = subst (λ (ls : List (List ℕ)). MovesThrough b0.named b0.birth ls (at_birth b0.named b0.birth) (run_state_of b actor text)) all plays; history = refl; end_is = is });
    }

-- the outcome of a run that left this book
pub outcome : (b0 b : BookView) (n : ℕ) (lines : List (List ℕ)) (end : EndView) → SameRoot b0 b → RunOver b0.named b0.birth n lines b.entries end → IsOutcome b0.named b0.birth n lines b end
outcome b0 b n lines end root run = record { of_policy = sym root.0; of_birth = sym root.1; run = run }
