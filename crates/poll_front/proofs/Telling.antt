-- What a front leaves, over the whole history.
use Rattle.std.proofs.Common.{◌≡◌, ℕ, ◌+◌, List, [], ◌++◌, refl, sym, ap, subst, ◌∙◌, arith, Option}
use Rattle.std.proofs.lemmas.Option.{slice_get_within}
use Rattle.gt_base.specs.declared.requests.Entry.{Entry}
use Rattle.gt_io.specs.Ports.{Port, Harbour}
use Rattle.turn_lock.specs.Turns.{part}
use Rattle.turn_lock.specs.Holders.{Holder, IsToldBy}
use Rattle.locked_history.specs.Fronts.{by}
use Rattle.policy_words.specs.Naming.{NamedPolicy}
use Rattle.connection_laws.specs.Lines.{entries_of}
use Rattle.connection_laws.specs.Connection.{part_of, AreActed, IsTimed, placed}
use Rattle.connection_laws.specs.Services.{service}
use Rattle.connection_laws.proofs.Longer.{acted_longer}
use Rattle.connection_laws.proofs.Places.{part_of-part}
use Rattle.poll_front.specs.declared.ends.Polled.{Polled}
use Rattle.poll_front.specs.Fronts.{Turn, FrontSpot, front_spot, acted_of, all_acted, port_bytes, course, EndsLink, Running}
use Rattle.poll_front.specs.declared.front.RunEnd.{RunEnd}
use Rattle.poll_front.specs.Tables.{IsBlank, IsLetIn, IsLetGo, Ran, first_spot, IsPolledLink, IsPolledFront}
use Rattle.poll_front.proofs.Turning.{part_turns}

module _ {M : Type 0} (np : NamedPolicy) (legal : List Entry → Type 0) (now : List Entry → ℕ) (birth : ℕ) (timed : IsTimed birth legal now) (h : List Entry) (o p : FrontSpot M) (turns : List Turn) (g : Running (service np [] legal now) o p turns) (fresh : o.pass.own ≡ [])
    (zero : o.pass.number ≡ 0) (told : IsToldBy [] h p.pass) where
  own_is : p.pass.own ≡ entries_of (all_acted turns)
  own_is = ap (λ (q : Holder M). q.own) g.grows.after_is ∙ ap (λ (es : List Entry). es ++ entries_of (all_acted turns)) fresh

  pub entries_are : part 0 h ≡ entries_of (all_acted turns)
  entries_are = ap (λ (n : ℕ). part n h) (sym (ap (λ (q : Holder M). q.number) g.grows.after_is ∙ zero)) ∙ sym told.1 ∙ own_is

  part_is : (c : ℕ) → part_of (by 0 c) h ≡ entries_of (acted_of c turns)
  part_is c = sym (part_of-part (by 0 c) h) ∙ ap (part_of (by 0 c)) entries_are ∙ subst (λ (n : ℕ). part_of (by n c) (entries_of (all_acted turns)) ≡ entries_of (acted_of c turns)) zero (part_turns o.pass.number c turns g.mine)

  fits_all : (c : ℕ) → AreActed np birth (by 0 c) h 0 (acted_of c turns)
  fits_all c =
      acted_longer np birth (by 0 c) p.pass.seen h told.0 0 (acted_of c turns)
      (subst (λ (n : ℕ). AreActed np birth (by n c) p.pass.seen (placed (by n c) [] []) (acted_of c turns)) zero
      (subst (λ (own : List Entry). AreActed np birth (by o.pass.number c) p.pass.seen (placed (by o.pass.number c) [] own) (acted_of c turns)) fresh (g.fits c birth timed)))

  -- each link is told over the history
  link_told : (nexts : ℕ) (start q : Port) (i : ℕ) (e : Polled) → EndsLink np (port_bytes start) (course q) (acted_of (i + 1) turns) e × IsLetIn q.others e.outcome × IsLetGo nexts q.finished e.outcome → IsBlank start
      → IsPolledLink np birth h nexts (i + 1) start q e (acted_of (i + 1) turns)
  link_told nexts start q i e x blank =
      let ends = x.0 in
      record {
        taken = ends.taken;
        given = ends.given;
        fresh = blank;
        conn = (ends.end, ends.ends_as, record { lines = ends.lines; readings_are = refl; own_are = sym (part_is (i + 1)); fit = fits_all (i + 1); given_is = ends.given_is });
        asked = ends.asked_is;
        denied = ends.denied_is;
        carries = ends.carries;
        cause = ends.cause;
        let_in = x.1;
        let_go = x.2;
      }

-- what a front leaves is told over the history of its closed desk, with the turns that it ran
pub front_with : {M : Type 0} (np : NamedPolicy) (legal : List Entry → Type 0) (now : List Entry → ℕ) (birth : ℕ) → IsTimed birth legal now → (h : List Entry) (before after : Holder M) (clock clock' : Option (ℕ → ℕ)) (start b : Harbour) (ends : List Polled) (end : RunEnd)
    → (r : Ran np [] legal now 0 before after clock clock' start b ends end) → before.own ≡ [] → after.number ≡ 0 → IsToldBy [] h after → (f : IsPolledFront np birth h clock clock' start b ends) × (f.turns ≡ r.turns)
front_with np legal now birth timed h before after clock clock' start b ends end r fresh number told =
    let o = first_spot before clock in
    let p = front_spot after clock' r.counters in (
      record {
        turns = r.turns;
        count = r.count;
        links = λ i e at. link_told np legal now birth timed h o p r.turns r.running fresh r.number_is told b.nexts (start.port (i + 1)) (b.port (i + 1)) i e (r.links i e at)
            (let within = slice_get_within ends i e at in let count = r.count in r.fresh (i + 1) (omega arith) (omega (arith, within, count)));
        range = r.range;
        readings = r.running.reads;
        entries = entries_are np legal now birth timed h o p r.turns r.running fresh r.number_is told;
      },
      refl,
    )

pub front_told : {M : Type 0} (np : NamedPolicy) (legal : List Entry → Type 0) (now : List Entry → ℕ) (birth : ℕ) → IsTimed birth legal now → (h : List Entry) (before after : Holder M) (clock clock' : Option (ℕ → ℕ)) (start b : Harbour) (ends : List Polled) (end : RunEnd)
    → Ran np [] legal now 0 before after clock clock' start b ends end → before.own ≡ [] → after.number ≡ 0 → IsToldBy [] h after → IsPolledFront np birth h clock clock' start b ends
front_told np legal now birth timed h before after clock clock' start b ends end r fresh number told =
    (front_with np legal now birth timed h before after clock clock' start b ends end r fresh number told).0
