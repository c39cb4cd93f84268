use Rattle.std.proofs.Common.{◌≡◌, ℕ, ◌+◌, List, [], ◌∷◌, ◌++◌, length, refl, sym, ◌∙◌, ap, subst, arith, append_assoc, length-append}
use Rattle.std.specs.Prelude.{MatchResult}
use Rattle.gt_base.specs.declared.requests.Actor.{Actor}
use Rattle.core_machine.specs.Books.{SameRoot-refl, SameRoot-trans}
use Rattle.policy_commands.specs.declared.ends.End.{End}
use Rattle.policy_commands.specs.Ends.{EndView, seen_end}
use Rattle.request_text.specs.Replies.{fault_word}
use Rattle.gtrbac_tool.specs.declared.script.Played.{Played}
use Rattle.gtrbac_tool.specs.declared.script.Played.TheVariants.{On, Full, Bad}
use Rattle.gtrbac_tool.specs.declared.script.Ran.TheVariants.{Born}
use Rattle.gtrbac_tool.specs.EndTexts.{behind, script_fault, steps_full}
use Rattle.gtrbac_tool.specs.Script.{said, MovesThrough, at_birth}
use Rattle.gtrbac_tool.specs.RunStates.{run_state_of, IsActorOf, PlaysAs}
use Rattle.gtrbac_tool.proofs.Steps.{plays_more, rooted}
use Rattle.gtrbac_tool.proofs.Writing.{hands_none, hands_on}
use Rattle.gtrbac_tool.proofs.Pieces.{plays_after, starves, fails, finishes, stops_there, after}
use Rattle.gtrbac_tool.proofs.script.play_out.Goals as goal

pub loop-line-init : goal.loop-line-init
loop-line-init g c =
    record {
      root = SameRoot-refl c.args.run.book;
      actor = subst (λ (a : Actor). IsActorOf c.args.run.book a) (sym c.requires.actor) (tt, tt);
      front = [];
      parts = refl;
      sent = [];
      plays = λ i. record { actor = c.requires.actor i; history = c.requires.empty.0 i; text = c.requires.empty.1 i };
      at = omega arith;
      count = c.requires.count;
      hands = hands_none c.args.pieces (g.K.Sink.output c.args.out.now);
    }

pub loop-line-preserved : goal.loop-line-preserved
loop-line-preserved g c =
    let inv = c.loop-line.invariant in
    let b0 = c.args.run.book in
    let old = c.loop-line.run in
    let new = c.play_line.new.run in
    let line : List ℕ = c.in-Some.line.now in
    let s = run_state_of old.book old.actor old.text.items in
    let t = run_state_of new.book new.actor new.text.items in
    let did = rooted b0 old.book line On s t inv.root (subst (λ (how : Played). PlaysAs old.book.named old.book.birth (said old.book.named line) how s t) c.in-On.is c.in-Ok.ensures.did) in
    let sends = c.in-Ok-hand_out.ensures.sent in
    record {
      root = SameRoot-trans b0 old.book new.book inv.root c.in-Ok.ensures.root;
      actor = c.in-Ok.ensures.actor;
      front = inv.front ++ line ∷ [];
      parts = inv.parts ∙ ap (λ (ls : List (List ℕ)). inv.front ++ ls) c.in-Some.ensures.steps ∙ sym (append_assoc inv.front (line ∷ []) c.next.new.self);
      sent = inv.sent ++ sends.0;
      plays =
          subst (λ (x : List ℕ). MovesThrough b0.named b0.birth (inv.front ++ line ∷ []) (at_birth b0.named b0.birth) (run_state_of new.book new.actor x))
          (ap (λ (x : List ℕ). inv.sent ++ x) sends.1 ∙ sym (append_assoc inv.sent sends.0 c.hand_out.new.text.items))
          (plays_more b0.named b0.birth inv.front line (at_birth b0.named b0.birth) (after inv.sent s) (after inv.sent t) inv.plays (plays_after b0.named b0.birth inv.sent (said b0.named line) On s t did));
      at = omega (arith, inv.at, length-append inv.front (line ∷ []));
      count = omega (arith, inv.count, ap length c.in-Some.ensures.steps);
      hands = hands_on c.args.pieces (g.K.Sink.output c.args.out.now) (g.K.Sink.output c.loop-line.out) (g.K.Sink.output c.hand_out.new.out) inv.sent sends.0 inv.hands sends.2;
    }

-- the output failed
pub returns-in-Err-hand_out : goal.returns-in-Err-hand_out
returns-in-Err-hand_out g c =
    let inv = c.loop-line.invariant in
    let b0 = c.args.run.book in
    let old = c.loop-line.run in
    let new = c.play_line.new.run in
    let line : List ℕ = c.in-Some.line.now in
    let s = run_state_of old.book old.actor old.text.items in
    let t = run_state_of new.book new.actor new.text.items in
    let did = rooted b0 old.book line On s t inv.root (subst (λ (how : Played). PlaysAs old.book.named old.book.birth (said old.book.named line) how s t) c.in-On.is c.in-Ok.ensures.did) in
    fails b0 new.book (SameRoot-trans b0 old.book new.book inv.root c.in-Ok.ensures.root) c.keeps-in-On.ensures.kept.legal c.args.before c.args.lines (inv.front ++ line ∷ []) c.next.new.self
    (inv.parts ∙ ap (λ (ls : List (List ℕ)). inv.front ++ ls) c.in-Some.ensures.steps ∙ sym (append_assoc inv.front (line ∷ []) c.next.new.self))
    new.actor inv.sent new.text.items
    (plays_more b0.named b0.birth inv.front line (at_birth b0.named b0.birth) (after inv.sent s) (after inv.sent t) inv.plays (plays_after b0.named b0.birth inv.sent (said b0.named line) On s t did))
    c.args.pieces (g.K.Sink.output c.args.out.now) (g.K.Sink.output c.loop-line.out) inv.hands
    c.requires.safe c.keeps-in-On.ensures.kept.short (g.K.Sink.output c.hand_out.new.out) c.in-Err-hand_out.ensures.part.0 c.in-Err-hand_out.ensures.cause.failed c.in-Err-hand_out.ensures.part.1

-- there was no memory
pub returns-in-Err : goal.returns-in-Err
returns-in-Err g c =
    let inv = c.loop-line.invariant in
    let old = c.loop-line.run in
    starves c.args.run.book old.book inv.root c.keeps.ensures.kept.legal c.args.before c.args.lines inv.front c.loop-line.lines inv.parts old.actor inv.sent old.text.items inv.plays
    c.args.pieces (g.K.Sink.output c.args.out.now) (g.K.Sink.output c.loop-line.out) inv.hands c.requires.safe c.keeps.ensures.kept.short

pub returns-in-Full : goal.returns-in-Full
returns-in-Full g c =
    let inv = c.loop-line.invariant in
    let b0 = c.args.run.book in
    let old = c.loop-line.run in
    let new = c.play_line.new.run in
    let line : List ℕ = c.in-Some.line.now in
    let s = run_state_of old.book old.actor old.text.items in
    let t = run_state_of new.book new.actor new.text.items in
    let did = rooted b0 old.book line Full s t inv.root (subst (λ (how : Played). PlaysAs old.book.named old.book.birth (said old.book.named line) how s t) c.in-Full.is c.in-Ok.ensures.did) in
    stops_there b0 old.book new.book (SameRoot-trans b0 old.book new.book inv.root c.in-Ok.ensures.root) c.keeps-in-Full.ensures.kept.legal c.args.before c.loop-line.number c.args.lines inv.front c.loop-line.lines c.next.new.self line
    inv.parts c.in-Some.ensures.steps old.actor inv.sent old.text.items inv.plays inv.at
    c.args.pieces (g.K.Sink.output c.args.out.now) (g.K.Sink.output c.loop-line.out) inv.hands
    new.text.items steps_full (plays_after b0.named b0.birth inv.sent (said b0.named line) Full s t did) c.ended.result c.ended.ensures

pub returns-in-Bad : goal.returns-in-Bad
returns-in-Bad g c =
    let inv = c.loop-line.invariant in
    let b0 = c.args.run.book in
    let old = c.loop-line.run in
    let new = c.play_line.new.run in
    let line : List ℕ = c.in-Some.line.now in
    let fault = c.in-Bad.fault in
    let s = run_state_of old.book old.actor old.text.items in
    let t = run_state_of new.book new.actor new.text.items in
    let did = rooted b0 old.book line (Bad fault) s t inv.root (subst (λ (how : Played). PlaysAs old.book.named old.book.birth (said old.book.named line) how s t) c.in-Bad.is c.in-Ok.ensures.did) in
    let kind : ℕ → EndView = λ n. script_fault n (fault_word fault) in
    let told =
    subst (λ (w : List ℕ). MatchResult c.ended-in-Bad.result (λ ran. (end : End) × (ran ≡ Born new.book end) × (seen_end end ≡ behind new.text.items (script_fault (c.loop-line.number + 1) w))) (λ s. s ≡ 8))
    c.fault_word.ensures c.ended-in-Bad.ensures in
    stops_there b0 old.book new.book (SameRoot-trans b0 old.book new.book inv.root c.in-Ok.ensures.root) c.keeps-in-Bad.ensures.kept.legal c.args.before c.loop-line.number c.args.lines inv.front c.loop-line.lines c.next.new.self line
    inv.parts c.in-Some.ensures.steps old.actor inv.sent old.text.items inv.plays inv.at
    c.args.pieces (g.K.Sink.output c.args.out.now) (g.K.Sink.output c.loop-line.out) inv.hands
    new.text.items kind (plays_after b0.named b0.birth inv.sent (said b0.named line) (Bad fault) s t did) c.ended-in-Bad.result told

pub returns : goal.returns
returns g c =
    let inv = c.loop-line.invariant in
    let run = c.loop-line.run in
    finishes c.args.run.book run.book inv.root c.keeps-2.ensures.kept.legal c.args.before c.args.lines inv.front c.loop-line.lines inv.parts run.actor inv.sent run.text.items inv.plays
    c.args.pieces (g.K.Sink.output c.args.out.now) (g.K.Sink.output c.loop-line.out) inv.hands
    (record { status = 0; text = run.text }) c.in_default.ensures.steps.0 refl
