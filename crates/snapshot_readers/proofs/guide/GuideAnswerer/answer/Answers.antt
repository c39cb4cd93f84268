use Rattle.std.proofs.Common.{◌≡◌, ◌∙◌, ℕ, List, [], ◌∷◌, ◌++◌, refl, sym, ap, subst}
use Rattle.gt_base.specs.Roomy.{Roomy}
use Rattle.connection_laws.proofs.Prefixes.{prefix_self}
use Rattle.connection_laws.specs.Desks.{GlancesCanBeTold}
use Rattle.connection_laws.specs.Lines.{shown, no_memory, view_only}
use Rattle.request_text.specs.Replies.{reply_line}
use Rattle.snapshot_readers.specs.declared.guide.Guide.{Guide}
use Rattle.snapshot_readers.specs.Guides.{seen_guide, guide_view, GuideAsks, GuideGets}
use Rattle.snapshot_readers.specs.Viewing.{CanShow}
use Rattle.snapshot_readers.proofs.GuideSteps.{asks_none, asks_short, asks_glance}
use Rattle.snapshot_readers.proofs.guide.GuideAnswerer.answer.Goals as goal
use Rattle.snapshot_readers.proofs.guide.GuideAnswerer.answer.Goals.{then-is_err-via-then-is_err, then-is_err-via-else-is_err+then-is_err-2}

pub returns-then-not-only_looks-clause-answers : goal.returns-then-not-only_looks-clause-answers
returns-then-not-only_looks-clause-answers g c =
    let k = c.args.self.now in
    record {
      answer = view_only;
      readings = [];
      entries = [];
      told_is = refl;
      asks = record { keeps = (refl, refl, refl); same = (refl, refl); asks = asks_none k.policy.now k.glass.now.birth (seen_guide k) c.args.actor c.args.request c.if-not-only_looks.ensures };
      worn_out = λ n e. absurd (cc e);
    }

pub returns-then-is_err-clause-ready : goal.returns-then-is_err-clause-ready
returns-then-is_err-clause-ready g c =
    elim c.then-is_err.branch [
      | then-is_err-via-then-is_err w ↦ subst (λ (s : Guide g.row.G.Denot). CanShow s.policy.now s.glass.now) (sym w.self-is) c.requires.asked.0
      | then-is_err-via-else-is_err+then-is_err-2 w ↦ subst (λ (s : Guide g.row.G.Denot). CanShow s.policy.now s.glass.now) (sym w.self-is) c.requires.asked.0
    ]

pub returns-then-is_err-clause-answers : goal.returns-then-is_err-clause-answers
returns-then-is_err-clause-answers g c =
    let k = c.args.self.now in
    let Gets : Guide g.row.G.Denot → Type 0 = λ s. GuideGets k s c.args.actor c.args.request no_memory [] [] in
    let short : (lens : Roomy ℕ) → lens.items ≡ k.lens.now.items → GuideAsks k.policy.now k.glass.now.birth (seen_guide k) (guide_view k.glass.now.seen lens.items) c.args.actor c.args.request no_memory [] [] =
    λ lens same. asks_short k.policy.now k.glass.now.birth (seen_guide k) (guide_view k.glass.now.seen lens.items) c.args.actor c.args.request c.if-not-only_looks.ensures (prefix_self k.glass.now.seen) same in
    record {
      answer = no_memory;
      readings = [];
      entries = [];
      told_is = refl;
      asks =
          elim c.then-is_err.branch [
            | then-is_err-via-then-is_err w ↦ subst Gets (sym w.self-is) (record { keeps = (refl, refl, refl); same = (refl, refl); asks = short k.lens.now refl })
            | then-is_err-via-else-is_err+then-is_err-2 w ↦ subst Gets (sym w.self-is) (record { keeps = (refl, refl, refl); same = (refl, refl); asks = short w.reserve-else-is_err.new.self w.reserve-else-is_err.ensures.items })
          ];
      worn_out = λ n e. absurd (cc e);
    }

pub returns-in-Ok-clause-ready : goal.returns-in-Ok-clause-ready
returns-in-Ok-clause-ready g c =
    let same = c.in-Ok.ensures.root in
    (same.0 ∙ c.requires.asked.0.0, subst (λ (b : ℕ). GlancesCanBeTold c.args.self.now.policy.now b) (sym same.1) c.requires.asked.0.1)

pub returns-in-Err-clause-ready : goal.returns-in-Err-clause-ready
returns-in-Err-clause-ready g c =
    let same = c.in-Err.ensures.root in
    (same.0 ∙ c.requires.asked.0.0, subst (λ (b : ℕ). GlancesCanBeTold c.args.self.now.policy.now b) (sym same.1) c.requires.asked.0.1)

pub returns-in-Ok-clause-answers : goal.returns-in-Ok-clause-answers
returns-in-Ok-clause-answers g c =
    let k = c.args.self.now in
    let new = c.glance.new.self in
    let shows = c.in-Ok.glanced in
    let text : c.replace.result.items ≡ reply_line k.policy.now shows.reply =
    ap (λ (r : Roomy ℕ). r.items) c.replace.ensures.value ∙ c.put_reply.ensures.items ∙ ap (λ (l : List ℕ). l ++ reply_line k.policy.now shows.reply) (c.reserve.ensures.items ∙ c.clear.ensures.items) in
    let lens = c.push.ensures.items ∙ ap (λ (l : List ℕ). l ++ shows.len ∷ []) c.reserve-else-is_err.ensures.items in
    record {
      answer = shown shows.len shows.reply;
      readings = [];
      entries = [];
      told_is = (record { replied = refl; granted = refl; unworn = refl }, text);
      asks = record { keeps = (refl, refl, refl); same = c.in-Ok.ensures.root; asks = asks_glance k.policy.now k.glass.now.birth new.named new.birth (seen_guide k) (guide_view new.seen c.push.new.self.items) c.args.actor c.args.request shows c.if-not-only_looks.ensures (c.in-Ok.ensures.root.0 ∙ c.requires.asked.0.0) c.in-Ok.ensures.root.1 c.in-Ok.ensures.seen c.in-Ok.ensures.ok lens };
      worn_out = λ n e. absurd (cc e);
    }

pub returns-in-Err-clause-answers : goal.returns-in-Err-clause-answers
returns-in-Err-clause-answers g c =
    let k = c.args.self.now in
    record {
      answer = no_memory;
      readings = [];
      entries = [];
      told_is = refl;
      asks = record { keeps = (refl, refl, refl); same = c.in-Err.ensures.root; asks = asks_short k.policy.now k.glass.now.birth (seen_guide k) (guide_view c.glance.new.self.seen c.reserve-else-is_err.new.self.items) c.args.actor c.args.request c.if-not-only_looks.ensures c.in-Err.ensures.seen c.reserve-else-is_err.ensures.items };
      worn_out = λ n e. absurd (cc e);
    }
