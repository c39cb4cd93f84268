-- The steps of who answers, told of what is seen of it.
use Rattle.std.proofs.Common.{◌≡◌, ℕ, false, List, [], ◌∷◌, sym, ap, subst, Option, Result, Ok, Err}
use Rattle.gt_base.specs.declared.requests.Actor.{Actor}
use Rattle.gt_base.specs.declared.requests.Actor.TheVariants.{Nobody}
use Rattle.gt_base.specs.declared.requests.Request.{Request}
use Rattle.gt_base.specs.declared.requests.Entry.{Entry}
use Rattle.gt_io.specs.Links.{Traffic}
use Rattle.policy_words.specs.Naming.{NamedPolicy}
use Rattle.request_text.specs.declared.lines.Line.{Line}
use Rattle.request_text.specs.declared.lines.Line.TheVariants.{Silent, At, Be, Ask}
use Rattle.request_text.specs.declared.lines.LineFault.{LineFault}
use Rattle.request_text.specs.Phrases.{read_line}
use Rattle.connection_laws.specs.declared.talk.Talk.{Talk}
use Rattle.connection_laws.specs.declared.talk.LineAnswer.{LineAnswer}
use Rattle.connection_laws.specs.declared.ends.LinkEnd.{LinkEnd}
use Rattle.connection_laws.specs.declared.ends.LinkEnd.TheVariants.{Ended, ReadFault, WriteFault, Spent, Worn}
use Rattle.connection_laws.specs.Lines.{Answer, Acted, actor_after}
use Rattle.connection_laws.specs.Attending.{EndsBy, spot, StepsBy, StepsThrough, Attends, ActsBy}

-- Over what is seen of who answers, what of it stays, and that a request which leaves it so makes
-- this of what is seen
module _ {S T : Type 0} (view : S → T) (Same : S → S → Type 0) (self : (o : S) → Same o o) (np : NamedPolicy) (P : S → S → Actor → Request → Answer → List ℕ → List Entry → Type 0)
    (Q : T → T → Actor → Request → Answer → List ℕ → List Entry → Type 0) (o : S) (so : (m p : S) (actor : Actor) (request : Request) (answer : Answer) (readings : List ℕ) (entries : List Entry) → Same o m → P m p actor request answer readings entries
    → Same o p × Q (view m) (view p) actor request answer readings entries) where
  aside : (m p : S) → Same o m → p ≡ m → Same o p × (view p ≡ view m)
  aside m p same is = (subst (λ (s : S). Same o s) (sym is) same, ap view is)

  step_so : (m p : S) (said : Result Line LineFault) (actor : Actor) (a : Acted) → Same o m → StepsBy np P m p said actor a → Same o p × StepsBy np Q (view m) (view p) said actor a
  step_so m p (Ok Silent) actor a same s = let x = aside m p same s.0 in (x.0, (x.1, s.1, s.2, s.3))
  step_so m p (Ok (Be y)) actor a same s = let x = aside m p same s.0 in (x.0, (x.1, s.1, s.2, s.3))
  step_so m p (Ok (Ask request)) actor a same s = so m p actor request a.answer a.readings a.entries same s
  step_so m p (Ok (At t)) actor a same s = absurd s
  step_so m p (Err f) actor a same s = let x = aside m p same s.0 in (x.0, (x.1, s.1, s.2, s.3))

  pub steps_so : (p : S) (acted : List Acted) → StepsThrough np P o p acted → Same o p × StepsThrough np Q (view o) (view p) acted
  steps_so p [] s = (subst (λ (x : S). Same o x) (sym s) (self o), ap view s)
  steps_so p (a ∷ before) s =
      let x = steps_so s.0 before s.1 in
      let y = step_so s.0 p (read_line np Nobody false a.line) (actor_after np before) a x.0 s.2 in
      (y.0, (view s.0, x.1, y.1))

  module _ (W : S → ℕ → Type 0) (V : T → ℕ → Type 0) (wears : (p : S) (n : ℕ) → W p n → V (view p) n) where
    ends_so : (p : S) (a b : Traffic) (taken : List ℕ) (end : LinkEnd) → EndsBy (W p) a b taken end → EndsBy (V (view p)) a b taken end
    ends_so p a b taken Ended c = c
    ends_so p a b taken ReadFault c = c
    ends_so p a b taken WriteFault c = c
    ends_so p a b taken Spent c = c
    ends_so p a b taken (Worn n) c = (wears p n c.0, c.1)

    pub attends_so : (p : S) (talk talk' : Talk) (given given' : Option (List ℕ)) (a b : Traffic) (end : LinkEnd) → Attends np P W (spot o talk given) (spot p talk' given') a b end
        → Same o p × Attends np Q V (spot (view o) talk given) (spot (view p) talk' given') a b end
    attends_so p talk talk' given given' a b end x =
        let g = x.going in
        let s = steps_so p x.acted g.steps in (
          s.0,
          record {
            taken = x.taken;
            given = x.given;
            acted = x.acted;
            going = record { steps = s.1; actor = g.actor; named = g.named; asked = g.asked; denied = g.denied; calls = g.calls };
            lines = x.lines;
            given_is = x.given_is;
            carries = x.carries;
            cause = ends_so p a b x.taken end x.cause;
          },
        )

    -- one line, from the begin on
    pub acts_so : (p : S) (talk talk' : Talk) (line : List ℕ) (told : LineAnswer) → ActsBy np P (W p) o p talk talk' line told → Same o p × ActsBy np Q (V (view p)) (view o) (view p) talk talk' line told
    acts_so p talk talk' line told x =
        let y = step_so o p (read_line np Nobody false line) talk.actor x.acted (self o) x.steps in
        (y.0, record { acted = x.acted; line_is = x.line_is; told_is = x.told_is; steps = y.1; talk_is = x.talk_is; named = x.named; worn_out = λ n e. wears p n (x.worn_out n e) })

-- what each request keeps, all of them keep
module _ {S : Type 0} (Keeps : S → S → Type 0) (self : (a : S) → Keeps a a) (twice : (a b c : S) → Keeps a b → Keeps b c → Keeps a c) (np : NamedPolicy) (P : S → S → Actor → Request → Answer → List ℕ → List Entry → Type 0)
    (one : (a b : S) (actor : Actor) (request : Request) (answer : Answer) (readings : List ℕ) (entries : List Entry) → P a b actor request answer readings entries → Keeps a b) where
  pub steps_keep : (o p : S) (acted : List Acted) → StepsThrough np P o p acted → Keeps o p
  steps_keep o p acted s =
      (steps_so (λ k. k) Keeps self np P P o (λ m p actor request answer readings entries same x. (twice o m p same (one m p actor request answer readings entries x), x)) p acted s).0
