-- What a link's lines and replies come to, step by step.
use Rattle.std.proofs.Common.{◌≡◌, ℕ, ◌+◌, ◌-◌, ◌^◌, ◌<◌, ◌≤◌, true, false, List, [], ◌∷◌, ◌++◌, length, take, drop, get_or, refl, sym, ap, subst, ◌∙◌, arith, append-nil, append_assoc, length-append, length-drop, inl, inr, Option, Result, Ok, Err}
use Rattle.std.proofs.lemmas.List.{take_all, drop_all, drop_more, get_or-take, length-take-le, length-take}
use Rattle.std.specs.Io.KnownBytes.{Appends, Consumes}
use Rattle.std.proofs.KnownBytes.{Appends-trans, Consumes-trans}
use mathlib.Core.List.{IsPrefix}
use Rattle.gt_io.specs.Frames.{Frame, pushed}
use Rattle.gt_io.specs.Ports.{Harbour, is_over}
use Rattle.policy_words.specs.Naming.{NamedPolicy}
use Rattle.request_text.specs.Phrases.{read_line}
use Rattle.gt_base.specs.Roomy.{Roomy}
use Rattle.gt_base.specs.declared.requests.Who.{Who}
use Rattle.gt_base.specs.declared.requests.Actor.TheVariants.{Nobody}
use Rattle.gt_base.specs.declared.limits.TheConstants.{MAX_BYTES}
use Rattle.gt_text.specs.Lines.{is_feed}
use Rattle.connection_laws.specs.Cuts.{whole_lines, open_line}
use Rattle.connection_laws.specs.Lines.{worn, Acted, is_replied, is_denied, one_where, answer_text, actor_by, actor_after, reply_lines, replies_text, AreUnworn, GivenAll, GivenPart, IsGiven}
use Rattle.connection_laws.specs.Acting.{told_bytes}
use Rattle.connection_laws.specs.Attending.{Bytes, Carries}
use Rattle.connection_laws.specs.Services.{Service}
use Rattle.connection_laws.specs.declared.ends.LinkEnd.{LinkEnd}
use Rattle.connection_laws.specs.declared.ends.LinkEnd.TheVariants.{Ended as LinkEnded, ReadFault as LinkReadFault, WriteFault as LinkWriteFault, Spent as LinkSpent, Worn as LinkWorn}
use Rattle.connection_laws.specs.declared.talk.Talk.{Talk}
use Rattle.connection_laws.specs.declared.talk.LineAnswer.{LineAnswer}
use Rattle.connection_laws.proofs.Telling.{told_text}
use Rattle.connection_laws.proofs.Cutting.{lines_feed, lines_byte, lines_more}
use Rattle.connection_laws.proofs.Framing.{fits_feed, fits_byte}
use Rattle.poll_front.specs.declared.ends.PollEnd.{PollEnd}
use Rattle.poll_front.specs.declared.ends.PollEnd.TheVariants.{Ended, ReadFault, WriteFault, Spent, Full, Stopped, Worn}
use Rattle.poll_front.specs.declared.states.LinkState.{LinkState}
use Rattle.poll_front.specs.declared.states.Yield.{Yield}
use Rattle.poll_front.specs.declared.states.Yield.TheVariants.{Later, End}
use Rattle.poll_front.specs.Fronts.{FrontSpot, Course, port_bytes, course, HasHeard, LinkStands, EndsLink, Comes, TellsLast, IsReplyWritten, given_text, waiting_bytes, polled_as, PushesOut, FillsUp, EndsAs, PollsBy}
use Rattle.poll_front.proofs.Hearing.{Hears}

-- the byte that waits next, and the others
waits_next : (s : LinkState) → s.from < s.upto → s.upto ≤ length s.chunk → waiting_bytes s ≡ get_or s.chunk s.from 0 ∷ drop (s.from + 1) (take s.upto s.chunk)
waits_next s some within =
    let long = length-take-le s.upto s.chunk within in
    drop_more (take s.upto s.chunk) s.from 0 (omega (arith, some, long)) ∙ ap (λ (b : ℕ). b ∷ drop (s.from + 1) (take s.upto s.chunk)) (get_or-take s.upto s.chunk s.from 0 some)

waits_after : (s : LinkState) (fed : List ℕ) (byte : ℕ) → s.from < s.upto → s.upto ≤ length s.chunk → byte ≡ get_or s.chunk s.from 0 → fed ++ waiting_bytes s ≡ (fed ++ byte ∷ []) ++ drop (s.from + 1) (take s.upto s.chunk)
waits_after s fed byte some within is =
    let rest = drop (s.from + 1) (take s.upto s.chunk) in
    ap (λ (l : List ℕ). fed ++ l) (waits_next s some within ∙ ap (λ (b : ℕ). b ∷ rest) (sym is)) ∙ sym (append_assoc fed (byte ∷ []) rest)

-- so many bytes wait
pub waits_long : (s : LinkState) → s.from ≤ s.upto → s.upto ≤ length s.chunk → length (waiting_bytes s) ≡ s.upto - s.from
waits_long s some within =
    let long = length-take-le s.upto s.chunk within in
    length-drop s.from (take s.upto s.chunk) ∙ ap (λ (n : ℕ). n - s.from) long

pub waits_none : (s : LinkState) → s.from ≡ s.upto → waiting_bytes s ≡ []
waits_none s none = drop_all s.from (take s.upto s.chunk) (let l = length-take s.upto s.chunk in omega (arith, l, none))

told_long : (np : NamedPolicy) (told : LineAnswer) (a : Acted) (before : List Acted) (at : ℕ) → TellsLast np (a ∷ before) told at → length (told_bytes told) ≡ length (answer_text np a.answer)
told_long np told a before at t = ap (λ (l : List ℕ). length l) (told_text np told a.answer t.0)

-- where the last reply was written whole, the text of all lines was given
pub whole_text : (np : NamedPolicy) (acted : List Acted) (told : LineAnswer) (at : ℕ) → TellsLast np acted told at → at ≡ length (told_bytes told) → given_text np acted at ≡ replies_text np acted
whole_text np [] told at t whole = refl
whole_text np (a ∷ before) told at t whole =
    let same = told_long np told a before at t in
    ap (λ (l : List ℕ). replies_text np before ++ l) (take_all at (answer_text np a.answer) (omega (arith, whole, same)))

-- the bytes of the last reply are there to be written
pub last_within : (np : NamedPolicy) (acted : List Acted) (told : LineAnswer) (at : ℕ) → TellsLast np acted told at → at ≤ length (told_bytes told)
last_within np [] told at t = let none = t.1 in omega (arith, none)
last_within np (a ∷ before) told at t = let same = told_long np told a before at t in let low = t.1 in omega (arith, same, low)

-- how far they were written does not change what is told
tells_at : (np : NamedPolicy) (acted : List Acted) (told : LineAnswer) (at at' : ℕ) → TellsLast np acted told at → at ≤ at' → at' ≤ length (told_bytes told) → TellsLast np acted told at'
tells_at np [] told at at' t low high = let none = ap (λ (l : LineAnswer). length (told_bytes l)) t.0 in (t.0, omega (arith, none, high))
tells_at np (a ∷ before) told at at' t low high = let same = told_long np told a before at t in (t.0, omega (arith, same, high))

-- a reply that was cut is given in part, the others whole
part_given : (np : NamedPolicy) (acted : List Acted) (told : LineAnswer) (at : ℕ) → AreUnworn acted → TellsLast np acted told at → at < length (told_bytes told) → GivenPart np (given_text np acted at) acted
part_given np [] told at u t cut = let none = ap (λ (l : LineAnswer). length (told_bytes l)) t.0 in absurd (omega (arith, none, cut))
part_given np (a ∷ before) told at u t cut = let same = told_long np told a before at t in (u, (at, omega (arith, same, cut), refl))

-- what was given by a write
given_more : (np : NamedPolicy) (acted : List Acted) (told : LineAnswer) (at at' : ℕ) (start now now' : Option (List ℕ)) → TellsLast np acted told at
    → Appends start now (given_text np acted at)
    → ((g : Option (List ℕ)) (front : List ℕ) → Appends g now (front ++ take at (told_bytes told)) → Appends g now' (front ++ take at' (told_bytes told)))
    → Appends start now' (given_text np acted at')
given_more np [] told at at' start now now' t given more =
    let none : told_bytes told ≡ [] = ap told_bytes t.0 in
    subst (λ (l : List ℕ). Appends start now' l) (ap (take at') none ∙ take_all at' [] (omega arith))
    (more start [] (subst (λ (l : List ℕ). Appends start now (take at l)) (sym none) (subst (λ (n : ℕ). Appends start now (take n [])) (sym t.1) given)))
given_more np (a ∷ before) told at at' start now now' t given more =
    let same : told_bytes told ≡ answer_text np a.answer = told_text np told a.answer t.0 in
    subst (λ (l : List ℕ). Appends start now' (replies_text np before ++ take at' l)) same
    (more start (replies_text np before) (subst (λ (l : List ℕ). Appends start now (replies_text np before ++ take at l)) (sym same) given))

-- the lines of a link are the first of its bytes
lines_first : (fed more : List ℕ) (acted : List Acted) → reply_lines acted ≡ whole_lines fed → IsPrefix (reply_lines acted) (whole_lines (fed ++ more))
lines_first fed more acted is = let m = lines_more fed more in (m.0, ap (λ (ls : List (List ℕ)). ls ++ m.0) is ∙ m.1)

-- a byte within a line, and one that ends it
heard_byte : {np : NamedPolicy} {frame : Frame} {talk : Talk} {fed : List ℕ} {acted : List Acted} (byte : ℕ) → HasHeard np frame talk fed acted → is_feed byte ≡ false → HasHeard np (pushed frame byte) talk (fed ++ byte ∷ []) acted
heard_byte {np} {frame} {talk} {fed} {acted} byte x other =
    let few = x.few in
    record {
      frame_fits = fits_byte frame fed byte x.frame_fits other;
      lines = x.lines ∙ sym (lines_byte fed byte other);
      few = omega (arith, few, length-append fed (byte ∷ []));
      actor = x.actor;
      named = x.named;
      asked = x.asked;
      denied = x.denied;
    }

pub heard_line : {M : Type 0} {v : Service} {who : Who} {p p' : FrontSpot M} {talk talk' : Talk} {fed : List ℕ} {told : LineAnswer} (h : Hears v who p p' talk talk' (open_line fed) told) (frame : Frame) (acted : List Acted) (byte : ℕ) → HasHeard v.policy frame talk fed acted
    → is_feed byte ≡ true → HasHeard v.policy (pushed frame byte) talk' (fed ++ byte ∷ []) (h.acted ∷ acted)
heard_line {v = v} {fed = fed} h frame acted byte x feed =
    let np = v.policy in
    let few = x.few in
    record {
      frame_fits = fits_feed frame fed byte feed;
      lines = ap (λ (l : List ℕ). reply_lines acted ++ l ∷ []) h.line_is ∙ ap (λ (ls : List (List ℕ)). ls ++ open_line fed ∷ []) x.lines ∙ sym (lines_feed fed byte feed);
      few = omega (arith, few, length-append fed (byte ∷ []));
      actor = h.actor ∙ ap (actor_by (read_line np Nobody false (open_line fed))) x.actor ∙ ap (λ (l : List ℕ). actor_by (read_line np Nobody false l) (actor_after np acted)) (sym h.line_is);
      named = h.named;
      asked = h.asked ∙ ap (λ (n : ℕ). n + one_where (is_replied h.acted.answer)) x.asked;
      denied = h.denied ∙ ap (λ (n : ℕ). n + one_where (is_denied h.acted.answer)) x.denied;
    }

module _ {np : NamedPolicy} {start now : Bytes} {s : LinkState} {fed : List ℕ} {acted : List Acted} (x : LinkStands np start now s fed acted) where
  text_is : IsReplyWritten s → given_text np acted s.at ≡ replies_text np acted
  text_is wrote = whole_text np acted s.told s.at x.told wrote

  all_fed : s.from ≡ s.upto → fed ++ waiting_bytes s ≡ fed
  all_fed none = ap (λ (l : List ℕ). fed ++ l) (waits_none s none) ∙ append-nil fed

  fed_long : s.from ≡ s.upto → length fed + s.left ≡ MAX_BYTES
  fed_long none = ap (λ (l : List ℕ). length l + s.left) (sym (all_fed none)) ∙ x.counted

  -- one more byte was acted on
  module _ (byte : ℕ) (some : s.from < s.upto) (is : byte ≡ get_or s.chunk s.from 0) where
    same : fed ++ waiting_bytes s ≡ (fed ++ byte ∷ []) ++ drop (s.from + 1) (take s.upto s.chunk)
    same = waits_after s fed byte some x.within.2 is

    stands_next : (frame : Frame) (talk : Talk) (told : LineAnswer) (at : ℕ) (room : Roomy ℕ) (acted' : List Acted) → HasHeard np frame talk (fed ++ byte ∷ []) acted' → AreUnworn acted' → TellsLast np acted' told at
        → given_text np acted' at ≡ given_text np acted s.at → LinkStands np start now (record s { framer = frame; talk = talk; told = told; at = at; room = room; from = s.from + 1 }) (fed ++ byte ∷ []) acted'
    stands_next frame talk told at room acted' heard unworn tells text =
        let w = x.within in
        record {
          heard = heard;
          unworn = unworn;
          told = tells;
          carries = subst (λ (g : List ℕ). Carries start now ((fed ++ byte ∷ []) ++ drop (s.from + 1) (take s.upto s.chunk)) g) (sym text) (subst (λ (l : List ℕ). Carries start now l (given_text np acted s.at)) same x.carries);
          counted = ap (λ (l : List ℕ). length l + s.left) (sym same) ∙ x.counted;
          within = (omega (arith, some), w.1, w.2);
        }

    pub stands_byte : is_feed byte ≡ false → LinkStands np start now (record s { framer = pushed s.framer byte; from = s.from + 1 }) (fed ++ byte ∷ []) acted
    stands_byte other = stands_next (pushed s.framer byte) s.talk s.told s.at s.room acted (heard_byte byte x.heard other) x.unworn x.told refl

    -- a line was acted on, and nothing of its reply is written yet
    pub stands_line : (frame : Frame) (talk : Talk) (told : LineAnswer) (room : Roomy ℕ) (a : Acted) → IsReplyWritten s → HasHeard np frame talk (fed ++ byte ∷ []) (a ∷ acted) → AreUnworn (a ∷ acted) → TellsLast np (a ∷ acted) told 0
        → LinkStands np start now (record s { framer = frame; talk = talk; told = told; at = 0; room = room; from = s.from + 1 }) (fed ++ byte ∷ []) (a ∷ acted)
    stands_line frame talk told room a wrote heard unworn tells = stands_next frame talk told 0 room (a ∷ acted) heard unworn tells (append-nil (replies_text np acted) ∙ sym (text_is wrote))

    -- the line wore the pass out: nothing of it was told
    pub ends_worn : (q : Course) (frame : Frame) (talk : Talk) (a : Acted) (n : ℕ) → q.bytes ≡ now → IsReplyWritten s → HasHeard np frame talk (fed ++ byte ∷ []) (a ∷ acted) → a.answer ≡ worn → n ≡ 2 ^ 40 → is_over q.last ≡ false
        → EndsLink np start q (a ∷ acted) (record { asked = talk.asked; denied = talk.denied; outcome = Worn n })
    ends_worn q frame talk a n bytes wrote heard wears full live =
        let rest = drop (s.from + 1) (take s.upto s.chunk) in
        let few = heard.few in
        let long = ap (λ (l : List ℕ). length l) same ∙ length-append (fed ++ byte ∷ []) rest in
        record {
          taken = fed ++ waiting_bytes s;
          given = replies_text np acted;
          end = LinkWorn n;
          ends_as = refl;
          given_is = (wears, x.unworn, refl);
          lines = subst (λ (l : List ℕ). IsPrefix (reply_lines (a ∷ acted)) (whole_lines l)) (sym same) (lines_first (fed ++ byte ∷ []) rest (a ∷ acted) heard.lines);
          carries = subst (λ (b : Bytes). Carries start b (fed ++ waiting_bytes s) (replies_text np acted)) (sym bytes) (subst (λ (g : List ℕ). Carries start now (fed ++ waiting_bytes s) g) (text_is wrote) x.carries);
          asked_is = heard.asked;
          denied_is = heard.denied;
          few = omega (arith, few, long);
          cause = (live, full);
        }

  -- so much of its last reply was written
  stands_pushed : (a b : Harbour) (c at : ℕ) {result : Result (Unit {0}) Yield} → now ≡ port_bytes (a.port c) → PushesOut a b c (told_bytes s.told) s.at at result → LinkStands np start (port_bytes (b.port c)) (record s { at = at }) fed acted
  stands_pushed a b c at bytes p =
      record {
        heard = x.heard;
        unworn = x.unworn;
        told = tells_at np acted s.told s.at at x.told p.within.0 p.within.1;
        carries = record {
          taken_is = subst (λ (o : Option (List ℕ)). Appends start.taken o (fed ++ waiting_bytes s)) (ap (λ (d : Bytes). d.taken) bytes ∙ sym p.taken) x.carries.taken_is;
          left_is = subst (λ (o : Option (List ℕ)). Consumes start.left o (fed ++ waiting_bytes s)) (ap (λ (d : Bytes). d.left) bytes ∙ sym p.left) x.carries.left_is;
          given_is = given_more np acted s.told s.at at start.given (a.port c).given (b.port c).given x.told (subst (λ (d : Bytes). Appends start.given d.given (given_text np acted s.at)) bytes x.carries.given_is) p.given;
          bounded = x.carries.bounded;
        };
        counted = x.counted;
        within = x.within;
      }

  -- these bytes were read behind those that were acted on
  stands_read : (a b : Harbour) (c : ℕ) (chunk : List ℕ) (from upto left : ℕ) → now ≡ port_bytes (a.port c) → s.from ≡ s.upto → from ≤ upto → upto ≤ 4096 → length chunk ≡ 4096 → upto - from + left ≡ s.left
      → (b.port c).given ≡ (a.port c).given → Appends (a.port c).taken (b.port c).taken (drop from (take upto chunk)) → Consumes (a.port c).left (b.port c).left (drop from (take upto chunk))
      → LinkStands np start (port_bytes (b.port c)) (record s { chunk = chunk; from = from; upto = upto; left = left }) fed acted
  stands_read a b c chunk from upto left bytes none some within size sum given taken left_is =
      let w = drop from (take upto chunk) in
      let long = waits_long (record s { chunk = chunk; from = from; upto = upto; left = left }) some (omega (arith, within, size)) in
      let had = fed_long none in
      let both = length-append fed w in
      record {
        heard = x.heard;
        unworn = x.unworn;
        told = x.told;
        carries = record {
          taken_is = Appends-trans start.taken (a.port c).taken (b.port c).taken fed w (subst (λ (d : Bytes). Appends start.taken d.taken fed) bytes (subst (λ (l : List ℕ). Appends start.taken now.taken l) (all_fed none) x.carries.taken_is)) taken;
          left_is = Consumes-trans start.left (a.port c).left (b.port c).left fed w (subst (λ (d : Bytes). Consumes start.left d.left fed) bytes (subst (λ (l : List ℕ). Consumes start.left now.left l) (all_fed none) x.carries.left_is)) left_is;
          given_is = subst (λ (o : Option (List ℕ)). Appends start.given o (given_text np acted s.at)) (ap (λ (d : Bytes). d.given) bytes ∙ sym given) x.carries.given_is;
          bounded = omega (arith, long, had, both, sum);
        };
        counted = omega (arith, long, had, both, sum);
        within = (some, within, omega (arith, within, size));
      }

  -- what it comes to where nothing waits, and all of it was told
  pub ends_whole : (q : Course) (e : PollEnd) (end : LinkEnd) → q.bytes ≡ now → IsReplyWritten s → s.from ≡ s.upto → (GivenAll np fed (replies_text np acted) acted → IsGiven np fed (replies_text np acted) acted end)
      → EndsAs e fed (replies_text np acted) acted q.last end → PollsBy q fed e → EndsLink np start q acted (polled_as s e)
  ends_whole q e end bytes wrote none gives ends_as cause =
      record {
        taken = fed;
        given = replies_text np acted;
        end = end;
        ends_as = ends_as;
        given_is = gives (x.heard.lines, x.unworn, refl);
        lines = ([], append-nil (reply_lines acted) ∙ x.heard.lines);
        carries = subst (λ (b : Bytes). Carries start b fed (replies_text np acted)) (sym bytes) (subst (λ (g : List ℕ). Carries start now fed g) (text_is wrote) (subst (λ (l : List ℕ). Carries start now l (given_text np acted s.at)) (all_fed none) x.carries));
        asked_is = x.heard.asked;
        denied_is = x.heard.denied;
        few = x.heard.few;
        cause = cause;
      }

  -- and where its last reply was cut
  pub ends_cut : (q : Course) (e : PollEnd) → q.bytes ≡ now → s.at < length (told_bytes s.told) → EndsAs e (fed ++ waiting_bytes s) (given_text np acted s.at) acted q.last LinkWriteFault → PollsBy q (fed ++ waiting_bytes s) e
      → EndsLink np start q acted (polled_as s e)
  ends_cut q e bytes cut ends_as cause =
      let few = x.heard.few in
      record {
        taken = fed ++ waiting_bytes s;
        given = given_text np acted s.at;
        end = LinkWriteFault;
        ends_as = ends_as;
        given_is = part_given np acted s.told s.at x.unworn x.told cut;
        lines = lines_first fed (waiting_bytes s) acted x.heard.lines;
        carries = subst (λ (b : Bytes). Carries start b (fed ++ waiting_bytes s) (given_text np acted s.at)) (sym bytes) x.carries;
        asked_is = x.heard.asked;
        denied_is = x.heard.denied;
        few = omega (arith, few, length-append fed (waiting_bytes s));
        cause = cause;
      }

-- as many bytes as a link may send were acted on
pub ends_spent : {np : NamedPolicy} {start : Bytes} {s : LinkState} {fed : List ℕ} {acted : List Acted} (q : Course) → LinkStands np start q.bytes s fed acted → is_over q.last ≡ false → IsReplyWritten s → s.from ≡ s.upto → s.left ≡ 0 → EndsLink np start q acted (polled_as s Spent)
ends_spent q x live wrote none spent = let had = fed_long x none in ends_whole x q Spent LinkSpent refl wrote none (λ g. g) refl (live, omega (arith, had, spent))

module _ {np : NamedPolicy} {start : Bytes} {a b : Harbour} {c : ℕ} {s : LinkState} {fed : List ℕ} {acted : List Acted} (x : LinkStands np start (port_bytes (a.port c)) s fed acted) where
  -- how the writing of a reply ends
  pub comes_pushed : (at : ℕ) (result : Result (Unit {0}) Yield) → PushesOut a b c (told_bytes s.told) s.at at result → Comes np start (course (b.port c)) (record s { at = at }) acted result
  comes_pushed at (Ok u) p = (fed, stands_pushed x a b c at refl p)
  comes_pushed at (Err Later) p = record { fed = fed; stands = stands_pushed x a b c at refl p; waits = inr p.pushed; live = ap is_over p.pushed.1 }
  comes_pushed at (Err (End WriteFault)) p = (ends_cut (stands_pushed x a b c at refl p) (course (b.port c)) WriteFault refl p.pushed.0 refl p.pushed.1, tt)
  comes_pushed at (Err (End Ended)) p = absurd p.pushed
  comes_pushed at (Err (End ReadFault)) p = absurd p.pushed
  comes_pushed at (Err (End Spent)) p = absurd p.pushed
  comes_pushed at (Err (End Full)) p = absurd p.pushed
  comes_pushed at (Err (End Stopped)) p = absurd p.pushed
  comes_pushed at (Err (End (Worn n))) p = absurd p.pushed

  -- how a read ends; there was room for a byte
  module _ (s' : LinkState) (wrote : IsReplyWritten s) (none : s.from ≡ s.upto) (some : 0 < s.left) (size : length s'.chunk ≡ 4096) where
    -- nothing was read
    stands_idle : s.upto ≤ 4096 → s' ≡ record s { chunk = s'.chunk } → {result : Result (Unit {0}) Yield} → FillsUp a b c s s' result → LinkStands np start (port_bytes (b.port c)) (record s { chunk = s'.chunk }) fed acted
    stands_idle within is f =
        stands_read x a b c s'.chunk s.from s.upto s.left refl none (omega (arith, none)) within size (omega (arith, none)) f.given (subst (λ (l : List ℕ). Appends (a.port c).taken (b.port c).taken l) (ap waiting_bytes is) f.taken)
        (subst (λ (l : List ℕ). Consumes (a.port c).left (b.port c).left l) (ap waiting_bytes is) f.left)

    pub comes_filled : (result : Result (Unit {0}) Yield) → FillsUp a b c s s' result → Comes np start (course (b.port c)) s' acted result
    comes_filled (Ok u) f =
        let r = f.filled in
        let n = r.0 in
        let few = r.2 in
        subst (λ (z : LinkState). Comes np start (course (b.port c)) z acted (Ok u)) (sym r.4) (
          fed,
          stands_read x a b c s'.chunk 0 n (s.left - n) refl none (omega arith) r.3 size (omega (arith, few)) f.given (subst (λ (l : List ℕ). Appends (a.port c).taken (b.port c).taken l) (ap waiting_bytes r.4) f.taken)
              (subst (λ (l : List ℕ). Consumes (a.port c).left (b.port c).left l) (ap waiting_bytes r.4) f.left),
        )
    comes_filled (Err Later) f =
        let r = f.filled in
        subst (λ (z : LinkState). Comes np start (course (b.port c)) z acted (Err Later)) (sym r.0) (record { fed = fed; stands = stands_idle x.within.1 r.0 f; waits = inl (wrote, none); live = r.1 })
    comes_filled (Err (End Ended)) f =
        let r = f.filled in
        let had = fed_long x none in
        subst (λ (z : LinkState). Comes np start (course (b.port c)) z acted (Err (End Ended))) (sym r.0)
        (ends_whole (stands_idle x.within.1 r.0 f) (course (b.port c)) Ended LinkEnded refl wrote none (λ g. g) refl (r.1, r.2, omega (arith, had, some)), tt)
    comes_filled (Err (End ReadFault)) f =
        let r = f.filled in
        let had = fed_long x none in
        subst (λ (z : LinkState). Comes np start (course (b.port c)) z acted (Err (End ReadFault))) (sym r.0)
        (ends_whole (stands_idle x.within.1 r.0 f) (course (b.port c)) ReadFault LinkReadFault refl wrote none (λ g. g) refl (r.1.0, r.1.1, omega (arith, had, some)), tt)
    comes_filled (Err (End WriteFault)) f = absurd f.filled
    comes_filled (Err (End Spent)) f = absurd f.filled
    comes_filled (Err (End Full)) f = absurd f.filled
    comes_filled (Err (End Stopped)) f = absurd f.filled
    comes_filled (Err (End (Worn n))) f = absurd f.filled
