-- A link behind those that were served.
use Rattle.std.proofs.Common.{◌≡◌, ◌≢◌, ℕ, ◌+◌, ◌*◌, ◌^◌, ◌≤◌, ◌<◌, true, false, List, [], ◌∷◌, ◌++◌, length, refl, sym, ap, subst, ◌∙◌, arith, append-nil, append_assoc, length-append, Option, Some, None, MatchOption}
use mathlib.Core.List.{IsPrefix}
use Rattle.gt_base.specs.declared.requests.Entry.{Entry}
use Rattle.gt_io.specs.Links.{Traffic, Tally, Doorway, IsFresh, GivesFirst, Reads}
use Rattle.gt_io.proofs.Readings.{Reads-trans, Reads-nil}
use Rattle.turn_lock.specs.Holders.{Holder}
use Rattle.turn_lock.proofs.Totals.{each-append}
use Rattle.locked_history.specs.Fronts.{by}
use Rattle.policy_words.specs.Naming.{NamedPolicy}
use Rattle.connection_laws.specs.declared.ends.LinkEnd.TheVariants.{Worn as LinkWorn}
use Rattle.connection_laws.specs.Connection.{part_of, placed, Conn}
use Rattle.connection_laws.proofs.Longer.{conn_longer}
use Rattle.connection_laws.proofs.Places.{part_of-append, none_mine}
use Rattle.line_server.specs.declared.ended.Served.{Served}
use Rattle.line_server.specs.declared.ended.WorkEnd.{WorkEnd}
use Rattle.line_server.specs.declared.ended.WorkEnd.TheVariants.{Worn}
use Rattle.connection_laws.specs.Attending.{is_worn_out}
use Rattle.line_server.specs.Serving.{link_view, Serves}
use Rattle.line_server.specs.Working.{Tale, begun_of, hours_of, owns_of, AllUnworn, WorkerSpot, WorksTo, IsServedSoFar, AreServedSoFar, WorkedSoFar, WorksOn, WorksThrough}
use Rattle.connection_laws.specs.Doors.{Gives}
use Rattle.connection_laws.proofs.Giving.{gives_none, gives_more}
use Rattle.connection_laws.proofs.Growing.{grown_none, grown_twice}
use Rattle.connection_laws.specs.Services.{Service, service}

module _ {L : Type 0} where
  pub begun_push : (xs : List (Tale L)) (x : Tale L) → begun_of (xs ++ x ∷ []) ≡ begun_of xs ++ x.begun ∷ []
  begun_push [] x = refl
  begun_push (y ∷ ys) x = ap (λ (ls : List L). y.begun ∷ ls) (begun_push ys x)

  pub hours_push : (xs : List (Tale L)) (x : Tale L) → hours_of (xs ++ x ∷ []) ≡ hours_of xs ++ x.readings
  hours_push [] x = append-nil x.readings
  hours_push (y ∷ ys) x = ap (λ (rs : List ℕ). y.readings ++ rs) (hours_push ys x) ∙ sym (append_assoc y.readings (hours_of ys) x.readings)

  pub owns_push : (xs : List (Tale L)) (x : Tale L) → owns_of (xs ++ x ∷ []) ≡ owns_of xs ++ x.own
  owns_push [] x = append-nil x.own
  owns_push (y ∷ ys) x = ap (λ (es : List Entry). y.own ++ es) (owns_push ys x) ∙ sym (append_assoc y.own (owns_of ys) x.own)

  module _ (traffic : L → Traffic) (np : NamedPolicy) (first : List Entry) (legal : List Entry → Type 0) (now : List Entry → ℕ) (number : ℕ) where
    abbrev Are : List Entry → List Entry → ℕ → List (Served L) → List (Tale L) → Type 0
    Are h own c ss xs = AreServedSoFar traffic (service np first legal now) number h own c ss xs

    pub served_longer : (h h' own : List Entry) (c : ℕ) (ss : List (Served L)) (xs : List (Tale L)) → IsPrefix h h' → Are h own c ss xs → Are h' own c ss xs
    served_longer h h' own c [] [] more all = tt
    served_longer h h' own c [] (x ∷ xs) more all = absurd all
    served_longer h h' own c (s ∷ ss) [] more all = absurd all
    served_longer h h' own c (s ∷ ss) (x ∷ xs) more all =
        let i = all.0 in (
          record {
            fresh = i.fresh;
            conn = λ birth timed. conn_longer np birth (by number c) h h' more (placed (by number c) first own) x.taken x.readings x.own x.given x.acted s.report.outcome (i.conn birth timed);
            mine = i.mine;
            asked = i.asked;
            denied = i.denied;
            carries = i.carries;
            cause = i.cause;
            finished = i.finished;
          },
          served_longer h h' own (c + 1) ss xs more all.1,
        )

    served_push : (h own : List Entry) (c k : ℕ) (ss : List (Served L)) (xs : List (Tale L)) (s : Served L) (x : Tale L) → k ≡ c + length ss → Are h own c ss xs → IsServedSoFar traffic (service np first legal now) number h own k s x → Are h own c (ss ++ s ∷ []) (xs ++ x ∷ [])
    served_push h own c k [] [] s x at all one = (subst (λ (n : ℕ). IsServedSoFar traffic (service np first legal now) number h own n s x) (let e : k ≡ c = omega (arith, at) in e) one, tt)
    served_push h own c k [] (y ∷ ys) s x at all one = absurd all
    served_push h own c k (t ∷ ts) [] s x at all one = absurd all
    served_push h own c k (t ∷ ts) (y ∷ ys) s x at all one = (all.0, served_push h own (c + 1) k ts ys s x (omega (arith, at)) all.1 one)

    -- a connection that is none of these links has no entry among theirs
    pub others_none : (h own : List Entry) (c k : ℕ) (ss : List (Served L)) (xs : List (Tale L)) → ((j : ℕ) → c ≤ j → j < c + length ss → j ≢ k) → Are h own c ss xs → part_of (by number k) (owns_of xs) ≡ []
    others_none h own c k [] [] others all = refl
    others_none h own c k [] (x ∷ xs) others all = absurd all
    others_none h own c k (s ∷ ss) [] others all = absurd all
    others_none h own c k (s ∷ ss) (x ∷ xs) others all =
        part_of-append (by number k) x.own (owns_of xs)
        ∙ ap (λ (es : List Entry). es ++ part_of (by number k) (owns_of xs)) (none_mine number c k x.own (others c (omega arith) (omega arith)) all.0.mine)
        ∙ others_none h own (c + 1) k ss xs (λ j low high. others j (omega (arith, low)) (omega (arith, high))) all.1

module _ {M L : Type 0} (traffic : L → Traffic) (np : NamedPolicy) (first : List Entry) (legal : List Entry → Type 0) (now : List Entry → ℕ) (number : ℕ) where
  -- one more link was served
  pub link_done : (o p p' : WorkerSpot M L) (served : List (Served L)) (tales : List (Tale L)) (s : Served L) (begun : L) (conn calls calls' : ℕ) → WorkedSoFar traffic (service np first legal now) number o p served tales
      → Serves (service np first legal now) (by number conn) (link_view p.pass calls p.clock (traffic begun)) (link_view p'.pass calls' p'.clock (traffic s.link)) s.report → conn ≡ 1 + length served → GivesFirst p.door.links p'.door.links begun → IsFresh (traffic begun)
      → (tales' : List (Tale L)) × WorkedSoFar traffic (service np first legal now) number o p' (served ++ s ∷ []) tales'
  link_done o p p' served tales s begun conn calls calls' w v at door fresh =
      let x : Tale L = record { begun = begun; taken = v.taken; given = v.given; readings = v.readings; own = v.own; acted = v.acted; draws = p'.pass.draws } in
      let own_is : p.pass.own ≡ o.pass.own ++ owns_of tales = ap (λ (q : Holder M). q.own) w.grows.after_is in
      let none = others_none traffic np first legal now number p.pass.seen o.pass.own 1 conn served tales (λ j low high same. absurd (omega (arith, at, high, same))) w.links in
      let same : placed (by number conn) first p.pass.own ≡ placed (by number conn) first o.pass.own =
      ap (placed (by number conn) first) own_is ∙ ap (λ (es : List Entry). length (part_of (by number conn) first) + length es) (part_of-append (by number conn) o.pass.own (owns_of tales) ∙ ap (λ (es : List Entry). part_of (by number conn) o.pass.own ++ es) none ∙ append-nil (part_of (by number conn) o.pass.own)) in
      let one : IsServedSoFar traffic (service np first legal now) number p'.pass.seen o.pass.own conn s x =
      record {
        fresh = fresh;
        conn = λ birth timed. subst (λ (older : ℕ). Conn np birth (by number conn) p'.pass.seen older v.taken v.readings v.own v.given v.acted s.report.outcome) same (v.conn birth timed);
        mine = v.mine;
        asked = v.asked;
        denied = v.denied;
        carries = v.carries;
        cause = v.cause;
        finished = v.finished;
      } in
      let g = grown_twice o.pass p.pass p'.pass (owns_of tales) v.own (2 * length (hours_of tales)) (2 * length v.readings) w.grows v.grows in
      let hours = hours_push tales x in
      let hours_long = ap (λ (l : List ℕ). length l) hours in
      let hours_both = length-append (hours_of tales) v.readings in
      let owns = owns_push tales x in (
        tales ++ x ∷ [],
        record {
          links = served_push traffic np first legal now number p'.pass.seen o.pass.own 1 conn served tales s x at (served_longer traffic np first legal now number p.pass.seen p'.pass.seen o.pass.own 1 served tales v.grows.seen w.links) one;
          grows = record {
            seen = g.seen;
            after_is = g.after_is ∙ ap (λ (es : List Entry). record o.pass { draws = p'.pass.draws; seen = p'.pass.seen; own = o.pass.own ++ es; stays = p'.pass.stays; keeps = p'.pass.keeps }) (sym owns);
            draws_low = g.draws_low;
            draws_high = let d = g.draws_high in let e = ap (λ (es : List Entry). length es) owns in omega (arith, d, e, hours_long, hours_both);
          };
          reads = subst (λ (rs : List ℕ). Reads o.clock p'.clock rs) (sym hours) (Reads-trans o.clock p.clock p'.clock (hours_of tales) v.readings w.reads v.reads);
          door = subst (λ (ls : List L). Gives o.door.links p'.door.links ls) (sym (begun_push tales x)) (gives_more o.door.links p.door.links p'.door.links (begun_of tales) begun w.door door);
        },
      )

-- how a worker goes on behind one more link
pub ends_of : {L : Type 0} (links : Option (List L)) (t t' : Tally) (draws : ℕ) (ss served : List (Served L)) (s : Served L) (result : Option WorkEnd) → t' ≡ t → served ≡ ss ++ s ∷ [] → AllUnworn ss → ((n : ℕ) → s.report.outcome ≡ LinkWorn n → (n ≡ 2 ^ 40) × (draws ≡ 2 ^ 40))
    → MatchOption result (is_worn_out s.report.outcome ≡ false) (λ worn. (n : ℕ) × (s.report.outcome ≡ LinkWorn n) × (worn ≡ Worn n)) → MatchOption result (AllUnworn served × (t' ≡ t)) (λ end. WorksTo links t t' draws served end)
ends_of {L} links t t' draws ss served s None kept is all wears w = (subst (λ (l : List (Served L)). AllUnworn l) (sym is) (each-append (λ (t : Served L). is_worn_out t.report.outcome ≡ false) ss (s ∷ []) all (w, tt)), kept)
ends_of {L} links t t' draws ss served s (Some end) kept is all wears w =
    let facts = wears w.0 w.1 in
    subst (λ (e : WorkEnd). WorksTo links t t' draws served e) (sym w.2) (ss, s, is, all, w.1, facts.0, facts.1, kept)

module _ {M L : Type 0} (traffic : L → Traffic) (np : NamedPolicy) (first : List Entry) (legal : List Entry → Type 0) (now : List Entry → ℕ) where
  pub no_links : (number : ℕ) (o : WorkerSpot M L) (served : List (Served L)) → served ≡ [] → WorkedSoFar traffic (service np first legal now) number o o served []
  no_links number o served is =
      subst (λ (ss : List (Served L)). WorkedSoFar traffic (service np first legal now) number o o ss []) (sym is)
      (record { links = tt; grows = grown_none o.pass; reads = Reads-nil o.clock; door = gives_none o.door.links })

  -- the next link, told from the begin of the work
  pub goes_on : (number number' : ℕ) (o p p' : WorkerSpot M L) (items items' served : List (Served L)) (tales : List (Tale L)) (result : Option WorkEnd) → number' ≡ number → items' ≡ items
      → WorkedSoFar traffic (service np first legal now) number o p items tales → AllUnworn items → WorksOn traffic (service np first legal now) number' p p' items' served result
      → (tales' : List (Tale L)) × WorkedSoFar traffic (service np first legal now) number o p' served tales'
      × MatchOption result (AllUnworn served × (p'.door.tally ≡ p.door.tally)) (λ end. WorksTo p'.door.links p.door.tally p'.door.tally p'.pass.draws served end)
  goes_on number number' o p p' items items' served tales result same kept w u on =
      let on' = subst (λ (n : ℕ). WorksOn traffic (service np first legal now) n p p' items' served result) same on in
      on' o tales (subst (λ (ss : List (Served L)). WorkedSoFar traffic (service np first legal now) number o p ss tales) (sym kept) w) (subst (λ (ss : List (Served L)). AllUnworn ss) (sym kept) u)

  pub next_done : (number number' : ℕ) (o p p' : WorkerSpot M L) (items items' served : List (Served L)) (tales : List (Tale L)) (end : WorkEnd) → number' ≡ number → items' ≡ items → p.door.tally ≡ o.door.tally
      → WorkedSoFar traffic (service np first legal now) number o p items tales → AllUnworn items → WorksOn traffic (service np first legal now) number' p p' items' served (Some end)
      → WorksThrough traffic (service np first legal now) number o p' served end
  next_done number number' o p p' items items' served tales end same kept low w u on =
      let d = goes_on number number' o p p' items items' served tales (Some end) same kept w u on in
      record { tales = d.0; worked = d.1; cause = subst (λ (t : Tally). WorksTo p'.door.links t p'.door.tally p'.pass.draws served end) low d.2 }

module _ {M L : Type 0} (traffic : L → Traffic) (v : Service) (number : ℕ) (o p : WorkerSpot M L) where
  -- the links stand while the door rests
  pub at_rest : (d : Doorway L) (served : List (Served L)) (tales : List (Tale L)) → p.door ≡ d → WorkedSoFar traffic v number o (record p { door = d }) served tales → WorkedSoFar traffic v number o p served tales
  at_rest d served tales is w = subst (λ (e : Doorway L). WorkedSoFar traffic v number o (record p { door = e }) served tales) (sym is) w

  -- and as it is closed
  pub works_closed : (d : Doorway L) (served : List (Served L)) (end : WorkEnd) → d ≡ record p.door { closed = true } → WorksThrough traffic v number o p served end → WorksThrough traffic v number o (record p { door = d }) served end
  works_closed d served end is w =
      subst (λ (e : Doorway L). WorksThrough traffic v number o (record p { door = e }) served end) (sym is)
      (record { tales = w.tales; worked = record { links = w.worked.links; grows = w.worked.grows; reads = w.worked.reads; door = w.worked.door }; cause = w.cause })
