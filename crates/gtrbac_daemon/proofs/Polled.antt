-- What one pass leaves that has served ports.
use Rattle.std.proofs.Common.{◌≡◌, ℕ, ◌+◌, ◌*◌, ◌≤◌, List, [], ◌∷◌, ◌++◌, length, refl, ap, subst, ◌∙◌, arith, length-append, Option}
use Rattle.gt_base.specs.declared.requests.Entry.{Entry}
use Rattle.gt_io.specs.Ports.{Harbour}
use Rattle.turn_lock.specs.Turns.{part}
use Rattle.turn_lock.specs.Holders.{Holder, Lock, newcomer, IsToldBy}
use Rattle.policy_words.specs.Naming.{NamedPolicy}
use Rattle.poll_front.specs.declared.ends.Polled.{Polled}
use Rattle.poll_front.specs.declared.front.RunEnd.{RunEnd}
use Rattle.connection_laws.specs.Lines.{readings_of, entries_of}
use Rattle.connection_laws.specs.Connection.{IsTimed}
use Rattle.poll_front.specs.Fronts.{Turn, all_acted}
use Rattle.poll_front.specs.Tables.{Ran, IsPolledFront}
use Rattle.poll_front.proofs.Telling.{front_with}
use Rattle.gtrbac_daemon.specs.Polls.{polling, HasPolled}

-- a list of one, as a front and its last
pub one_of_one : {A : Type 0} (x y : A) (rest : List A) → x ∷ [] ≡ rest ++ y ∷ [] → (rest ≡ []) × (y ≡ x)
one_of_one x y [] is = (refl, cc)
one_of_one x y (z ∷ zs) is = let long = ap (λ (l : List _). length l) is in absurd (omega (arith, long, length-append zs (y ∷ [])))

pub has_polled : {M : Type 0} (np : NamedPolicy) (legal : List Entry → Type 0) (now : List Entry → ℕ) (birth : ℕ) → IsTimed birth legal now → (first h : List Entry) (l : Lock M) (before after : Holder M) (clock clock' : Option (ℕ → ℕ)) (start b : Harbour) (ends : List Polled) (end : RunEnd)
    → first ≡ [] → before ≡ newcomer l [] 0 → after.number ≡ before.number → Ran np first legal now before.number before after clock clock' start b ends end → IsToldBy first h after
    → (were : List Polled) → HasPolled np birth h (polling clock start were) (polling clock' b ends) end
has_polled {M} np legal now birth timed first h l before after clock clock' start b ends end empty new number r told were =
    let zero : before.number ≡ 0 = ap (λ (q : Holder M). q.number) new in
    let r2 : Ran np [] legal now before.number before after clock clock' start b ends end = subst (λ (es : List Entry). Ran np es legal now before.number before after clock clock' start b ends end) empty r in
    let r3 : Ran np [] legal now 0 before after clock clock' start b ends end = subst (λ (n : ℕ). Ran np [] legal now n before after clock clock' start b ends end) zero r2 in
    let told_front : (f : IsPolledFront np birth h clock clock' start b ends) × (f.turns ≡ r3.turns) =
    front_with np legal now birth timed h before after clock clock' start b ends end r3 (ap (λ (q : Holder M). q.own) new) (number ∙ zero) (subst (λ (es : List Entry). IsToldBy es h after) empty told) in
    let none : before.draws ≡ 0 = ap (λ (q : Holder M). q.draws) new in
    let high = r3.running.grows.draws_high in
    let front = told_front.0 in
    let same = ap (λ (es : List Entry). length es) front.entries in
    let entries = ap (λ (ts : List Turn). length (entries_of (all_acted ts))) told_front.1 in
    let readings = ap (λ (ts : List Turn). length (readings_of (all_acted ts))) told_front.1 in
    let few : after.draws ≤ length (part 0 h) + 2 * length (readings_of (all_acted front.turns)) =
    omega (arith, none, high, same, entries, readings) in
    record {
      front = front;
      draws = after.draws;
      few_draws = few;
      runs = r.runs;
      faults = r.faults;
      ends_told = r.ends;
    }
