use Rattle.std.proofs.Common.{◌∙◌, List, [], length, refl, sym, subst, arith}
use Rattle.std.proofs.lemmas.Option.{slice_get_within}
use Rattle.connection_laws.specs.Services.{service_at}
use Rattle.poll_front.specs.declared.ends.Polled.{Polled}
use Rattle.poll_front.specs.declared.seats.LinkRow.{LinkRow}
use Rattle.poll_front.specs.declared.front.RunEnd.TheVariants.{Memory}
use Rattle.poll_front.specs.Fronts.{FrontSpot}
use Rattle.poll_front.specs.Tables.{first_spot, AreOpenSeats, LetsGo, MayGoOn, Went}
use Rattle.poll_front.proofs.Serving.{are_open}
use Rattle.poll_front.proofs.Tabling.{tabled_none}
use Rattle.poll_front.proofs.Ending.{lets_none, ran_of}
use Rattle.poll_front.proofs.front.run.Goals as goal

pub returns-then-is_err-clause-ran : goal.returns-then-is_err-clause-ran
returns-then-is_err-clause-ran g c =
    let m = g.M.Machine in
    let sv = c.args.server.now in
    let pass = c.args.pass.now in
    let clock = g.C.Clock.readings c.args.clock.now in
    let o : FrontSpot g.row.M.Denot = first_spot pass clock in
    let start = g.P.Ports.harbour c.args.ports.now in
    let none : List LinkRow = [] in
    let opened = c.requires.ports.1 in
    let v = service_at g.M.Keeps.list m.legal m.now_of sv.desk.now sv.policy.now in
    let went : Went v pass pass clock clock start start none Memory = record {
      counters = o.counters;
      busy = 0;
      turns = [];
      tabled = tabled_none v o start none opened refl;
      runs = (subst MayGoOn (sym c.requires.ports.0) tt, omega (arith, opened), λ i e at. let within = slice_get_within {A = Polled} [] i e at in absurd (omega (arith, within)));
    } in
    ran_of went (lets_none start none c.make_room.new.ends.items (c.make_room.ensures.ends ∙ c.requires.none))

pub let_go-requires-clause-open : goal.let_go-requires-clause-open
let_go-requires-clause-open g c =
    let a = g.P.Ports.harbour c.serve_all-end.new.ports in
    subst (λ (l : List LinkRow). AreOpenSeats a 0 l) (sym c.deref.ensures.value) (are_open c.serve_all-end.ensures.went.tabled)

pub returns-clause-ran : goal.returns-clause-ran
returns-clause-ran g c =
    let h = g.P.Ports.harbour in
    ran_of c.serve_all-end.ensures.went (subst (λ (l : List LinkRow). LetsGo (h c.serve_all-end.new.ports) (h c.let_go.new.ports) l (length l) c.let_go.new.ends.items) c.deref.ensures.value c.let_go.ensures)
