-- A turn behind those that were made.
use Rattle.std.proofs.Common.{◌≡◌, ◌≢◌, ℕ, ◌+◌, ◌*◌, Bool, true, false, cond, ◌==◌, List, [], ◌∷◌, ◌++◌, length, refl, sym, ap, subst, ◌∙◌, arith, add-zero, append-nil, length-append, ne_eqb, eq-eqb, Result}
use Rattle.std.proofs.lemmas.Bool.{eqb-true, eqb-false}
use Rattle.gt_base.specs.declared.requests.Actor.{Actor}
use Rattle.gt_base.specs.declared.requests.Actor.TheVariants.{Nobody}
use Rattle.gt_base.specs.declared.requests.Entry.{Entry}
use Rattle.gt_io.proofs.Readings.{Reads-trans, Reads-nil}
use Rattle.turn_lock.specs.Turns.{Each}
use Rattle.turn_lock.specs.Holders.{Holder}
use Rattle.locked_history.specs.Fronts.{by}
use Rattle.request_text.specs.declared.lines.Line.{Line}
use Rattle.request_text.specs.declared.lines.LineFault.{LineFault}
use Rattle.request_text.specs.Phrases.{read_line}
use Rattle.connection_laws.specs.Lines.{Acted, actor_after, readings_of, entries_of, GetsBy}
use Rattle.connection_laws.specs.Connection.{Asks, part_of, AreActed, IsTimed, placed}
use Rattle.connection_laws.specs.Services.{Service}
use Rattle.connection_laws.specs.Turns.{AreMine}
use Rattle.connection_laws.specs.declared.talk.Talk.{Talk}
use Rattle.connection_laws.specs.declared.talk.LineAnswer.{LineAnswer}
use Rattle.connection_laws.proofs.Longer.{acted_longer}
use Rattle.connection_laws.proofs.Places.{part_of-append, all_mine, none_mine}
use Rattle.connection_laws.proofs.Growing.{grown_none, grown_twice}
use Rattle.poll_front.specs.Fronts.{Turn, FrontSpot, acted_of, all_acted, Running}
use Rattle.poll_front.proofs.Hearing.{Hears}

part_here : (n k : ℕ) (t : Turn) (before : List Acted) (b : Bool) → (t.link == k) ≡ b → AreMine (by n t.link) t.acted.entries
    → entries_of before ++ part_of (by n k) t.acted.entries ≡ entries_of (cond b (t.acted ∷ before) before)
part_here n k t before true is mine =
    let same : t.link ≡ k = eqb-true t.link k is in
    ap (λ (l : List Entry). entries_of before ++ l) (all_mine (by n k) t.acted.entries (subst (λ (c : ℕ). AreMine (by n c) t.acted.entries) same mine))
part_here n k t before false is mine =
    ap (λ (l : List Entry). entries_of before ++ l) (none_mine n t.link k t.acted.entries (eqb-false t.link k is) mine) ∙ append-nil (entries_of before)

-- the entries of one link among those of all
pub part_turns : (n k : ℕ) (turns : List Turn) → Each (λ (t : Turn). AreMine (by n t.link) t.acted.entries) turns → part_of (by n k) (entries_of (all_acted turns)) ≡ entries_of (acted_of k turns)
part_turns n k [] mine = refl
part_turns n k (t ∷ ts) mine =
    part_of-append (by n k) (entries_of (all_acted ts)) t.acted.entries
    ∙ ap (λ (l : List Entry). l ++ part_of (by n k) t.acted.entries) (part_turns n k ts mine.1)
    ∙ part_here n k t (acted_of k ts) (t.link == k) refl mine.0

-- so many entries of the link stand before its next line
placed_turns : (n k : ℕ) (first own own' : List Entry) (turns : List Turn) → own' ≡ own ++ entries_of (all_acted turns) → Each (λ (t : Turn). AreMine (by n t.link) t.acted.entries) turns
    → placed (by n k) first own' ≡ placed (by n k) first own + length (entries_of (acted_of k turns))
placed_turns n k first own own' turns is mine =
    let a = ap (λ (l : List Entry). length l)
    (ap (part_of (by n k)) is ∙ part_of-append (by n k) own (entries_of (all_acted turns)) ∙ ap (λ (l : List Entry). part_of (by n k) own ++ l) (part_turns n k turns mine)) in
    let b = length-append (part_of (by n k) own) (entries_of (acted_of k turns)) in
    omega (arith, a, b)

-- a turn of this link, and of another
pub acted_here : (c : ℕ) (t : Turn) (turns : List Turn) → t.link ≡ c → acted_of c (t ∷ turns) ≡ t.acted ∷ acted_of c turns
acted_here c t turns same = ap (λ b. cond b (t.acted ∷ acted_of c turns) (acted_of c turns)) (eq-eqb t.link c same)

pub acted_apart : (c : ℕ) (t : Turn) (turns : List Turn) → t.link ≢ c → acted_of c (t ∷ turns) ≡ acted_of c turns
acted_apart c t turns other = ap (λ b. cond b (t.acted ∷ acted_of c turns) (acted_of c turns)) (ne_eqb t.link c other)

pub apart_all : (c k : ℕ) (more turns : List Turn) → Each (λ (t : Turn). t.link ≡ c) more → k ≢ c → acted_of k (more ++ turns) ≡ acted_of k turns
apart_all c k [] turns own other = refl
apart_all c k (t ∷ ts) turns own other =
    acted_apart k t (ts ++ turns) (λ same. other (sym same ∙ own.0)) ∙ apart_all c k ts turns own.1 other

-- a line of link c behind the lines so far
module _ {M : Type 0} (v : Service) (c : ℕ) (o p p' : FrontSpot M) (turns : List Turn) {talk talk' : Talk} {line : List ℕ} {told : LineAnswer} (g : Running v o p turns) (speaks : talk.actor ≡ actor_after v.policy (acted_of c turns))
    (x : Hears v (by p.pass.number c) p p' talk talk' line told) where
  number : p.pass.number ≡ o.pass.number
  number = ap (λ (q : Holder M). q.number) g.grows.after_is

  abbrev Fits : ℕ → ℕ → List Acted → Type 0
  Fits birth k acted = AreActed v.policy birth (by o.pass.number k) p'.pass.seen (placed (by o.pass.number k) v.first o.pass.own) acted

  fits_next : (k : ℕ) (b : Bool) → (c == k) ≡ b → (birth : ℕ) → IsTimed birth v.legal v.now → Fits birth k (cond b (x.acted ∷ acted_of k turns) (acted_of k turns))
  fits_next k true same birth timed =
      let a = x.acted in
      let said : Result Line LineFault = read_line v.policy Nobody false line in
      let own_is : p.pass.own ≡ o.pass.own ++ entries_of (all_acted turns) = ap (λ (q : Holder M). q.own) g.grows.after_is in
      let gets : GetsBy (Asks birth (by o.pass.number c) p'.pass.seen) said talk.actor (placed (by o.pass.number c) v.first p.pass.own) a =
      subst (λ (n : ℕ). GetsBy (Asks birth (by n c) p'.pass.seen) said talk.actor (placed (by n c) v.first p.pass.own) a) number (x.gets birth timed) in
      let here : Fits birth c (a ∷ acted_of c turns) = (
        acted_longer v.policy birth (by o.pass.number c) p.pass.seen p'.pass.seen x.grows.seen (placed (by o.pass.number c) v.first o.pass.own) (acted_of c turns) (g.fits c birth timed),
        subst (λ (s : Result Line LineFault). GetsBy (Asks birth (by o.pass.number c) p'.pass.seen) s (actor_after v.policy (acted_of c turns)) (placed (by o.pass.number c) v.first o.pass.own + length (entries_of (acted_of c turns))) a) (ap (read_line v.policy Nobody false) (sym x.line_is))
            (subst (λ (n : ℕ). GetsBy (Asks birth (by o.pass.number c) p'.pass.seen) said (actor_after v.policy (acted_of c turns)) n a) (placed_turns o.pass.number c v.first o.pass.own p.pass.own turns own_is g.mine)
            (subst (λ (y : Actor). GetsBy (Asks birth (by o.pass.number c) p'.pass.seen) said y (placed (by o.pass.number c) v.first p.pass.own) a) speaks gets)),
      ) in
      subst (λ (j : ℕ). Fits birth j (a ∷ acted_of j turns)) (eqb-true c k same) here
  fits_next k false other birth timed = acted_longer v.policy birth (by o.pass.number k) p.pass.seen p'.pass.seen x.grows.seen (placed (by o.pass.number k) v.first o.pass.own) (acted_of k turns) (g.fits k birth timed)

  pub running_on : Running v o p' (record { link = c; acted = x.acted } ∷ turns)
  running_on =
      let a = x.acted in
      let es = entries_of (all_acted turns) in
      let rs = readings_of (all_acted turns) in
      let h = grown_twice o.pass p.pass p'.pass es a.entries (2 * length rs) (2 * length a.readings) g.grows x.grows in
      let lengths = length-append rs a.readings in
      record {
        grows = record { seen = h.seen; after_is = h.after_is; draws_low = h.draws_low; draws_high = let d = h.draws_high in omega (arith, d, lengths) };
        mine = (subst (λ (n : ℕ). AreMine (by n c) a.entries) number x.mine, g.mine);
        brief = (x.few, g.brief);
        fits = λ k birth timed. fits_next k (c == k) refl birth timed;
        reads = Reads-trans o.clock p.clock p'.clock rs a.readings g.reads x.reads;
        calls = let c1 = x.calls in let c2 = g.calls in omega (arith, c1, c2, lengths);
      }

-- before the first event
pub running_none : {M : Type 0} (v : Service) (o : FrontSpot M) → Running v o o []
running_none v o =
    record {
      grows = grown_none o.pass;
      mine = tt;
      brief = tt;
      fits = λ k birth timed. tt;
      reads = Reads-nil o.clock;
      calls = sym (add-zero o.counters.calls);
    }
