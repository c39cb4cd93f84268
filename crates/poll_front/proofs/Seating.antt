-- What stands in the place of a link, from its begin to its end.
use Rattle.std.proofs.Common.{◌≡◌, ℕ, Bool, false, List, [], length, refl, sym, ap, subst, ◌∙◌, arith, ⊎_elim, inl, inr}
use Rattle.std.proofs.KnownBytes.{Appends-nil, Consumes-nil}
use Rattle.gt_base.specs.declared.requests.Actor.{Actor}
use Rattle.gt_io.specs.Frames.{Frame}
use Rattle.gt_io.specs.Ports.{Port, is_over}
use Rattle.policy_words.specs.Naming.{NamedPolicy}
use Rattle.connection_laws.specs.Fits.{FrameFits}
use Rattle.connection_laws.specs.Desks.{IsNamedActor}
use Rattle.connection_laws.specs.Lines.{Acted}
use Rattle.connection_laws.specs.Acting.{told_bytes}
use Rattle.connection_laws.specs.Attending.{Bytes, Carries}
use Rattle.connection_laws.specs.declared.ends.LinkEnd.TheVariants.{Ended as LinkEnded}
use Rattle.poll_front.specs.declared.ends.PollEnd.{PollEnd}
use Rattle.poll_front.specs.declared.ends.PollEnd.TheVariants.{Stopped}
use Rattle.poll_front.specs.declared.states.LinkState.{LinkState}
use Rattle.poll_front.specs.declared.seats.LinkRow.{LinkRow}
use Rattle.poll_front.specs.declared.seats.LinkRow.TheVariants.{New, Open, Over}
use Rattle.poll_front.specs.Fronts.{Course, course, waiting_bytes, Rests, EndsLink, EndsAs, PollsBy, polled_as}
use Rattle.poll_front.specs.Tables.{IsFreshState, TakesState, Sits}
use Rattle.poll_front.proofs.Standing.{waits_none, ends_whole, ends_cut}

-- whether it is owed is no part of what stands in a seat
owed_sits : (np : NamedPolicy) (start : Bytes) (q : Port) (o : Bool) (acted : List Acted) (s : LinkRow) → Sits np start q acted s → Sits np start (record q { owed = o }) acted s
owed_sits np start q o acted New x = x
owed_sits np start q o acted (Open b) x = x
owed_sits np start q o acted (Over e) x = x

pub sits_owed : (np : NamedPolicy) (start : Bytes) (q r : Port) (o : Bool) (acted : List Acted) (s : LinkRow) → r ≡ record q { owed = o } → Sits np start q acted s → Sits np start r acted s
sits_owed np start q r o acted s is x = subst (λ (z : Port). Sits np start z acted s) (sym is) (owed_sits np start q o acted s x)

carries_none : (a b : Bytes) → b ≡ a → Carries a b [] []
carries_none a b same =
    subst (λ (d : Bytes). Carries a d [] []) (sym same) (record { taken_is = Appends-nil a.taken; left_is = Consumes-nil a.left; given_is = Appends-nil a.given; bounded = omega arith })

-- a link over which nothing went, with its state
rests_first : (np : NamedPolicy) (start : Bytes) (q : Course) (s : LinkState) → IsFreshState s → q.bytes ≡ start → is_over q.last ≡ false → Rests np start q s []
rests_first np start q s f same live =
    let none : waiting_bytes s ≡ [] = waits_none s (f.waits.0 ∙ sym f.waits.1) in
    let left = f.left in
    let upto = f.waits.1 in
    let from = f.waits.0 in
    let long = ap (λ (l : List ℕ). length l) none in
    record {
      fed = [];
      stands = record {
        heard = record {
          frame_fits = subst (λ (x : Frame). FrameFits x []) (sym f.framer) refl;
          lines = refl;
          few = omega arith;
          actor = f.actor;
          named = subst (λ (y : Actor). IsNamedActor np y) (sym f.actor) (tt, tt);
          asked = f.counts.0;
          denied = f.counts.1;
        };
        unworn = tt;
        told = f.told;
        carries = subst (λ (l : List ℕ). Carries start q.bytes l []) (sym none) (carries_none start q.bytes same);
        counted = omega (arith, left, long);
        within = (omega (arith, upto, from), omega (arith, upto), omega (arith, upto));
      };
      waits = inl (f.told.1 ∙ sym (ap (λ t. length (told_bytes t)) f.told.0), from ∙ sym upto);
      live = live;
    }

pub takes_sits : (np : NamedPolicy) (start : Bytes) (q : Port) (acted : List Acted) (s s' : LinkRow) → TakesState s s' → Sits np start q acted s → Sits np start q acted s'
takes_sits np start q acted New (Open b) t x =
    (subst (λ (l : List Acted). Rests np start (course q) b.value l) (sym x.0) (rests_first np start (course q) b.value t x.1 x.2), x.3, x.4)
takes_sits np start q acted New New t x = absurd t
takes_sits np start q acted New (Over e) t x = absurd t
takes_sits np start q acted (Open b) s' t x = subst (λ (z : LinkRow). Sits np start q acted z) (sym t) x
takes_sits np start q acted (Over e) s' t x = subst (λ (z : LinkRow). Sits np start q acted z) (sym t) x

-- a link over which nothing went has ended
pub ends_blank : (np : NamedPolicy) (start : Bytes) (q : Course) (end : PollEnd) → q.bytes ≡ start → EndsAs end [] [] [] q.last LinkEnded → PollsBy q [] end → EndsLink np start q [] (record { asked = 0; denied = 0; outcome = end })
ends_blank np start q end same ends_as cause =
    record {
      taken = [];
      given = [];
      end = LinkEnded;
      ends_as = ends_as;
      given_is = (refl, tt, refl);
      lines = ([], refl);
      carries = carries_none start q.bytes same;
      asked_is = refl;
      denied_is = refl;
      few = omega arith;
      cause = cause;
    }

-- a link that is open at the end
pub ends_stopped : (np : NamedPolicy) (start : Bytes) (q : Course) (s : LinkState) (acted : List Acted) → Rests np start q s acted → EndsLink np start q acted (polled_as s Stopped)
ends_stopped np start q s acted x =
    ⊎_elim (λ done. ends_whole x.stands q Stopped LinkEnded refl done.0 done.1 (λ g. g) (inl refl) x.live) (λ cut. ends_cut x.stands q Stopped refl cut.0 (inr (refl, cut.1)) x.live) x.waits
