-- What the steps of a worker, line by line, come to.
use Rattle.std.proofs.Common.{◌≡◌, ℕ, ◌+◌, ◌*◌, true, false, List, [], ◌∷◌, ◌++◌, length, refl, sym, ap, subst, ◌∙◌, arith, length-append, Result, Ok, Err}
use Rattle.gt_base.specs.declared.requests.Who.{Who}
use Rattle.gt_base.specs.declared.requests.Actor.{Actor}
use Rattle.gt_base.specs.declared.requests.Actor.TheVariants.{Nobody}
use Rattle.gt_base.specs.declared.requests.Entry.{Entry}
use Rattle.gt_io.specs.Links.{Reads}
use Rattle.gt_io.proofs.Readings.{Reads-nil, Reads-trans}
use Rattle.turn_lock.specs.Holders.{Holder}
use Rattle.turn_lock.proofs.Totals.{each-append}
use Rattle.policy_words.specs.Naming.{NamedPolicy}
use Rattle.request_text.specs.declared.lines.Line.{Line}
use Rattle.request_text.specs.declared.lines.Line.TheVariants.{Silent, At, Be, Ask}
use Rattle.request_text.specs.declared.lines.LineFault.{LineFault}
use Rattle.request_text.specs.Phrases.{read_line}
use Rattle.connection_laws.specs.Lines.{Acted, actor_after, readings_of, entries_of, says_request, one_where, requests_in, GetsBy}
use Rattle.connection_laws.specs.Connection.{is_who, Asks, AreActed, IsTimed, placed}
use Rattle.connection_laws.specs.Services.{Service}
use Rattle.connection_laws.specs.Turns.{Grows, AreMine}
use Rattle.connection_laws.specs.Attending.{StepsBy, StepsThrough}
use Rattle.connection_laws.specs.Clerks.{ClerkView, ClerkAsks}
use Rattle.connection_laws.proofs.Growing.{grown_none, grown_twice, grown_within}
use Rattle.connection_laws.proofs.Longer.{acted_longer}
use Rattle.connection_laws.proofs.Places.{placed_more}

module _ {M : Type 0} (v : Service) (who : Who) where
  -- what one line comes to
  pub record ClerkStep (a b : ClerkView M) (said : Result Line LineFault) (actor : Actor) (x : Acted) : Type 0 where
    pub gets : (birth : ℕ) → IsTimed birth v.legal v.now → GetsBy (Asks birth who b.pass.seen) said actor (placed who v.first a.pass.own) x
    pub mine : AreMine who x.entries
    pub grows : Grows a.pass b.pass x.entries (2 * length x.readings)
    pub reads : Reads a.clock b.clock x.readings
    pub calls : one_where (says_request said) ≡ length x.readings

  -- a line that asks nothing leaves the worker as it is
  aside : (a b : ClerkView M) (said : Result Line LineFault) (actor : Actor) (x : Acted) → b ≡ a → x.readings ≡ [] → x.entries ≡ [] → one_where (says_request said) ≡ 0
      → ((birth : ℕ) → GetsBy (Asks birth who b.pass.seen) said actor (placed who v.first a.pass.own) x) → ClerkStep a b said actor x
  aside a b said actor x same none empty calls gets =
      record {
        gets = λ birth timed. gets birth;
        mine = subst (λ (es : List Entry). AreMine who es) (sym empty) tt;
        grows =
            subst (λ (es : List Entry). Grows a.pass b.pass es (2 * length x.readings)) (sym empty)
            (subst (λ (rs : List ℕ). Grows a.pass b.pass [] (2 * length rs)) (sym none)
            (subst (λ (k : ClerkView M). Grows a.pass k.pass [] (2 * length {A = ℕ} [])) (sym same)
            (grown_within a.pass a.pass [] 0 (2 * length {A = ℕ} []) (omega arith) (grown_none a.pass))));
        reads = subst (λ (rs : List ℕ). Reads a.clock b.clock rs) (sym none) (subst (λ (k : ClerkView M). Reads a.clock k.clock []) (sym same) (Reads-nil a.clock));
        calls = calls ∙ sym (ap (λ (rs : List ℕ). length rs) none);
      }

  pub step_of : (np : NamedPolicy) (a b : ClerkView M) (said : Result Line LineFault) (actor : Actor) (x : Acted) → StepsBy np (ClerkAsks v who) a b said actor x → ClerkStep a b said actor x
  step_of np a b (Ok Silent) actor x s = aside a b (Ok Silent) actor x s.0 s.2 s.3 refl (λ birth. (s.1, s.2, s.3))
  step_of np a b (Ok (Be y)) actor x s = aside a b (Ok (Be y)) actor x s.0 s.2 s.3 refl (λ birth. (s.1, s.2, s.3))
  step_of np a b (Ok (Ask request)) actor x s = record { gets = s.asks; mine = s.mine; grows = s.grows; reads = s.reads; calls = sym s.one }
  step_of np a b (Ok (At t)) actor x s = absurd s
  step_of np a b (Err f) actor x s = aside a b (Err f) actor x s.0 s.2 s.3 refl (λ birth. (s.1, s.2, s.3))

  -- what all lines so far come to
  pub record ClerkGoes (np : NamedPolicy) (o p : ClerkView M) (acted : List Acted) : Type 0 where
    pub grows : Grows o.pass p.pass (entries_of acted) (2 * length (readings_of acted))
    pub fits : (birth : ℕ) → IsTimed birth v.legal v.now → AreActed np birth who p.pass.seen (placed who v.first o.pass.own) acted
    pub mine : AreMine who (entries_of acted)
    pub reads : Reads o.clock p.clock (readings_of acted)
    pub calls : requests_in np acted ≡ length (readings_of acted)

  goes_none : (np : NamedPolicy) (o : ClerkView M) → ClerkGoes np o o []
  goes_none np o =
      record {
        grows = grown_within o.pass o.pass [] 0 (2 * length {A = ℕ} []) (omega arith) (grown_none o.pass);
        fits = λ birth timed. tt;
        mine = tt;
        reads = Reads-nil o.clock;
        calls = refl;
      }

  goes_next : (np : NamedPolicy) (o m p : ClerkView M) (x : Acted) (before : List Acted) → ClerkGoes np o m before → ClerkStep m p (read_line np Nobody false x.line) (actor_after np before) x → ClerkGoes np o p (x ∷ before)
  goes_next np o m p x before g s =
      let said : Result Line LineFault = read_line np Nobody false x.line in
      let own_is : m.pass.own ≡ o.pass.own ++ entries_of before = ap (λ (h : Holder M). h.own) g.grows.after_is in
      let place : placed who v.first m.pass.own ≡ placed who v.first o.pass.own + length (entries_of before) = ap (placed who v.first) own_is ∙ placed_more who v.first o.pass.own (entries_of before) g.mine in
      let h = grown_twice o.pass m.pass p.pass (entries_of before) x.entries (2 * length (readings_of before)) (2 * length x.readings) g.grows s.grows in
      let lengths = length-append (readings_of before) x.readings in
      record {
        grows = grown_within o.pass p.pass (entries_of before ++ x.entries) (2 * length (readings_of before) + 2 * length x.readings) (2 * length (readings_of before ++ x.readings)) (omega (arith, lengths)) h;
        fits = λ birth timed. (
          acted_longer np birth who m.pass.seen p.pass.seen s.grows.seen (placed who v.first o.pass.own) before (g.fits birth timed),
          subst (λ (n : ℕ). GetsBy (Asks birth who p.pass.seen) said (actor_after np before) n x) place (s.gets birth timed),
        );
        mine = each-append (λ (e : Entry). is_who who e ≡ true) (entries_of before) x.entries g.mine s.mine;
        reads = Reads-trans o.clock m.clock p.clock (readings_of before) x.readings g.reads s.reads;
        calls = let c = g.calls in let d = s.calls in omega (arith, c, d, lengths);
      }

  -- a worker whose steps these are
  pub goes_of : (np : NamedPolicy) (o p : ClerkView M) (acted : List Acted) → StepsThrough np (ClerkAsks v who) o p acted → ClerkGoes np o p acted
  goes_of np o p [] steps = subst (λ (k : ClerkView M). ClerkGoes np o k []) (sym steps) (goes_none np o)
  goes_of np o p (x ∷ before) steps =
      goes_next np o steps.0 p x before (goes_of np o steps.0 before steps.1) (step_of np steps.0 p (read_line np Nobody false x.line) (actor_after np before) x steps.2)
