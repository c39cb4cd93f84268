-- What a worker has served, over the whole history.
use Rattle.std.proofs.Common.{◌≡◌, ℕ, ◌+◌, ◌<◌, ◌≤◌, List, [], ◌∷◌, ◌++◌, length, refl, sym, ap, subst, ◌∙◌, arith, append-nil, true}
use Rattle.gt_base.specs.declared.requests.Entry.{Entry}
use Rattle.gt_io.specs.Links.{Traffic}
use Rattle.turn_lock.specs.Turns.{part}
use Rattle.turn_lock.specs.Holders.{Holder, IsToldBy}
use Rattle.locked_history.specs.Fronts.{by}
use Rattle.policy_words.specs.Naming.{NamedPolicy}
use Rattle.connection_laws.specs.Connection.{part_of, IsTimed}
use Rattle.connection_laws.proofs.Places.{part_of-append, part_of-part, all_mine, none_mine}
use Rattle.connection_laws.specs.Services.{service}
use Rattle.line_server.specs.declared.ended.Served.{Served}
use Rattle.line_server.specs.Working.{Tale, begun_of, owns_of, WorksThrough, AreServedSoFar}
use Rattle.line_server.proofs.Completing.{complete_by}
use Rattle.line_server.proofs.Links.{served_longer}
use Rattle.connection_laws.proofs.Giving.{add_up}
use Rattle.gtrbac_daemon.specs.Crew.{Crewman}
use Rattle.gtrbac_daemon.specs.Headline.{AreServed, parts_from, HasWorked}

module _ {L : Type 0} (traffic : L → Traffic) (np : NamedPolicy) (legal : List Entry → Type 0) (now : List Entry → ℕ) (w : ℕ) (h : List Entry) where
  abbrev At : ℕ → List (Served L) → List (Tale L) → Type 0
  At c ss xs = AreServedSoFar traffic (service np [] legal now) w h [] c ss xs

  -- links after the first c have no entry of connection k
  later_none : (c k : ℕ) (ss : List (Served L)) (xs : List (Tale L)) → k < c → At c ss xs → part_of (by w k) (owns_of xs) ≡ []
  later_none c k [] [] far all = refl
  later_none c k [] (x ∷ xs) far all = absurd all
  later_none c k (s ∷ ss) [] far all = absurd all
  later_none c k (s ∷ ss) (x ∷ xs) far all =
      part_of-append (by w k) x.own (owns_of xs)
      ∙ ap (λ (es : List Entry). es ++ part_of (by w k) (owns_of xs)) (none_mine w c k x.own (λ same. absurd (omega (arith, same, far))) all.0.mine)
      ∙ later_none (c + 1) k ss xs (omega (arith, far)) all.1

  module _ (birth : ℕ) (timed : IsTimed birth legal now) where
    -- the own entries of each link are the part of its connection
    links_told : (c : ℕ) (ss : List (Served L)) (xs : List (Tale L)) → At c ss xs → ((k : ℕ) → c ≤ k → part_of (by w k) h ≡ part_of (by w k) (owns_of xs))
        → AreServed traffic np birth h w c ss xs
    links_told c [] [] all same = tt
    links_told c [] (x ∷ xs) all same = absurd all
    links_told c (s ∷ ss) [] all same = absurd all
    links_told c (s ∷ ss) (x ∷ xs) all same =
        let i = all.0 in
        let own : part_of (by w c) h ≡ x.own = same c (omega arith) ∙ part_of-append (by w c) x.own (owns_of xs)
        ∙ ap (λ (l : List Entry). l ++ part_of (by w c) (owns_of xs)) (all_mine (by w c) x.own i.mine)
        ∙ ap (λ (l : List Entry). x.own ++ l) (later_none (c + 1) c ss xs (omega arith) all.1) ∙ append-nil x.own in (
          record {
            own = sym own;
            link =
                record {
                  fresh = i.fresh;
                  conn = i.conn birth timed;
                  carries = i.carries;
                  cause = i.cause;
                  finished = i.finished;
                  complete = complete_by np birth (by w c) h 0 x.taken x.readings x.own x.given x.acted s.report.outcome (traffic x.begun) (traffic s.link) x.draws (i.conn birth timed) i.cause;
                };
            asked = i.asked;
            denied = i.denied;
          },
          links_told (c + 1) ss xs all.1 (λ k far. same k (omega (arith, far)) ∙ part_of-append (by w k) x.own (owns_of xs)
              ∙ ap (λ (l : List Entry). l ++ part_of (by w k) (owns_of xs)) (none_mine w c k x.own (λ e. absurd (omega (arith, e, far))) i.mine)),
        )

    parts_are : (c : ℕ) (ss : List (Served L)) (xs : List (Tale L)) → AreServed traffic np birth h w c ss xs → owns_of xs ≡ parts_from traffic np birth h w c ss
    parts_are c [] [] all = refl
    parts_are c [] (x ∷ xs) all = absurd all
    parts_are c (s ∷ ss) [] all = absurd all
    parts_are c (s ∷ ss) (x ∷ xs) all =
        ap (λ (l : List Entry). l ++ owns_of xs) all.0.own ∙ ap (λ (l : List Entry). part_of (by w c) h ++ l) (parts_are (c + 1) ss xs all.1)

    as_many : (c : ℕ) (ss : List (Served L)) (xs : List (Tale L)) → AreServed traffic np birth h w c ss xs → length (begun_of xs) ≡ length ss
    as_many c [] [] all = refl
    as_many c [] (x ∷ xs) all = absurd all
    as_many c (s ∷ ss) [] all = absurd all
    as_many c (s ∷ ss) (x ∷ xs) all = let e = as_many (c + 1) ss xs all.1 in omega (arith, e)

    pub has_worked : {M : Type 0} (before after : Holder M) (a b : Crewman L) → before.own ≡ [] → before.draws ≡ 0 → after.number ≡ w
        → WorksThrough traffic (service np [] legal now) w (record { pass = before; clock = a.clock; door = a.door }) (record { pass = after; clock = b.clock; door = b.door }) b.served b.outcome
        → b.door.closed ≡ true → IsToldBy [] h after → HasWorked traffic np birth h w a b
    has_worked {M} before after a b fresh zero number k shut told =
        let xs : List (Tale L) = k.tales in
        let own_is : after.own ≡ owns_of xs = ap (λ (q : Holder M). q.own) k.worked.grows.after_is ∙ ap (λ (es : List Entry). es ++ owns_of xs) fresh in
        let whole : part w h ≡ owns_of xs = ap (λ (n : ℕ). part n h) (sym number) ∙ sym told.1 ∙ own_is in
        let at : At 1 b.served xs = subst (λ (own : List Entry). AreServedSoFar traffic (service np [] legal now) w h own 1 b.served xs) fresh (served_longer traffic np [] legal now w after.seen h before.own 1 b.served xs told.0 k.worked.links) in
        let links = links_told 1 b.served xs at (λ j far. sym (part_of-part (by w j) h) ∙ ap (part_of (by w j)) whole) in
        let high = k.worked.grows.draws_high in
        let long = ap (λ (es : List Entry). length es) whole in
        record {
          tales = xs;
          links = links;
          door = k.worked.door;
          counted = add_up a.door.links b.door.links b.served (begun_of xs) (as_many 1 b.served xs links) k.worked.door;
          readings = k.worked.reads;
          parts = whole ∙ parts_are 1 b.served xs links;
          draws = after.draws;
          few_draws = omega (arith, high, long, zero);
          cause = k.cause;
          closed = shut;
        }
