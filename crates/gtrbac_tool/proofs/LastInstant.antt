-- What a book's trace says of its last instant, and of the status before it.
use Rattle.std.proofs.Common.{◌≡◌, ◌⊎◌, inl, inr, ⊎_elim, ℕ, suc, ◌+◌, ◌-◌, ◌<◌, ◌≤◌, true, false, cond, nat_eq, nat_lt, List, [], ◌∷◌, ◌++◌, codes, Some, None, refl, sym, ◌∙◌, ap, subst, arith, if◌then◌else◌}
use Rattle.std.proofs.lemmas.Bool.{ne_eqb, eq-eqb, eqb-true, ltb-true, ltb-false, lt-ltb, le-ltb}
use Rattle.gtrbac_model.proofs.Elements.{split}
use Rattle.gt_base.specs.Held.{TriggerView}
use Rattle.gt_base.specs.Happening.{HappenedView, nothing}
use Rattle.gt_base.specs.Sets.{has, none}
use Rattle.gt_base.specs.declared.events.Event.{Event}
use Rattle.gt_base.specs.declared.events.Fluent.{Fluent}
use Rattle.gt_base.specs.declared.requests.Entry.{Entry}
use Rattle.gt_base.specs.declared.requests.Seen.TheVariants.{Absent}
use Rattle.gtrbac_model.specs.Base.{status, base_at}
use Rattle.gtrbac_model.specs.Conflict.{Status, after, seen}
use Rattle.gtrbac_model.specs.History.{Legal, now_of, point_after}
use Rattle.gtrbac_model.specs.Policy.{Policy}
use Rattle.gtrbac_model.specs.Status.{Model, status_after}
use Rattle.history_laws.specs.Pending.{NothingBetween}
use Rattle.history_laws.proofs.OnItsWay.{stretch_stays}
use Rattle.instant_bases.specs.Timelines.{ClosedSet}
use Rattle.time_engine.specs.Traces.{model_of, Ascends, AreClosedBy}
use Rattle.core_machine.specs.Books.{HasBases}
use Rattle.policy_words.specs.declared.parts.NamedEvent.{NamedEvent}
use Rattle.why_check.specs.Certificates.{Listed, Accepts}
use Rattle.gtrbac_tool.specs.Listing.{AreListings, AreSettled, OnlyLastReaches}
use Rattle.gtrbac_tool.specs.Standing.{closed_at, made_before, standing_line, certificate_line, TellsWhy}

-- the set of an instant that the trace has
pub set_there : (cs : List ClosedSet) (t : ℕ) (c : ClosedSet) → closed_at cs t ≡ Some c → model_of cs t ≡ c.set
set_there [] t c e = cc
set_there (d ∷ cs) t c e =
    split (nat_eq d.at t)
    (λ same. (λ i. if same i then d.set else model_of cs t) ∙ ap (λ x. x.set) (some_same d c (sym (λ i. if same i then Some d else closed_at cs t) ∙ e)))
    (λ apart. (λ i. if apart i then d.set else model_of cs t) ∙ set_there cs t c (sym (λ i. if apart i then Some d else closed_at cs t) ∙ e))
  where
    some_same : (a b : ClosedSet) → Some a ≡ Some b → a ≡ b
    some_same a b h = cc

-- and of one that it does not have
pub set_nowhere : (cs : List ClosedSet) (t : ℕ) → closed_at cs t ≡ None → model_of cs t ≡ nothing
set_nowhere [] t e = refl
set_nowhere (d ∷ cs) t e =
    split (nat_eq d.at t)
    (λ same. absurd (some_none d (sym (λ i. if same i then Some d else closed_at cs t) ∙ e)))
    (λ apart. (λ i. if apart i then d.set else model_of cs t) ∙ set_nowhere cs t (sym (λ i. if apart i then Some d else closed_at cs t) ∙ e))
  where
    some_none : (a : ClosedSet) → Some a ≡ None → ⊥
    some_none a h = cc

-- the base that the trace has there
pub base_there : (p : Policy) (birth : ℕ) (m : Model) (h : List Entry) (cs : List ClosedSet) (t : ℕ) (c : ClosedSet) → HasBases p birth m h cs → closed_at cs t ≡ Some c → c.base ≡ base_at p birth m h t
base_there p birth m h [] t c b e = cc
base_there p birth m h (d ∷ cs) t c b e =
    split (nat_eq d.at t)
    (λ same.
    let is : d ≡ c = some_same d c (sym (λ i. if same i then Some d else closed_at cs t) ∙ e) in
    ap (λ x. x.base) (sym is) ∙ b.0 ∙ ap (base_at p birth m h) (eqb-true d.at t same))
    (λ apart. base_there p birth m h cs t c b.1 (sym (λ i. if apart i then Some d else closed_at cs t) ∙ e))
  where
    some_same : (a b : ClosedSet) → Some a ≡ Some b → a ≡ b
    some_same a b h = cc

-- up to its first instant nothing happens
early : (cs : List ClosedSet) (low u : ℕ) → Ascends low cs → u ≤ low → model_of cs u ≡ nothing
early [] low u a le = refl
early (c ∷ cs) low u a le =
    let apart : nat_eq c.at u ≡ false = ne_eqb c.at u (λ e. omega (arith, e, a.0)) in
    (λ i. if apart i then c.set else model_of cs u) ∙ early cs c.at u a.1 (omega (arith, a.0))

before_first : (c : ClosedSet) (cs : List ClosedSet) (u : ℕ) → Ascends c.at cs → u < c.at → model_of (c ∷ cs) u ≡ nothing
before_first c cs u a lt =
    let apart : nat_eq c.at u ≡ false = ne_eqb c.at u (λ e. omega (arith, e)) in
    (λ i. if apart i then c.set else model_of cs u) ∙ early cs c.at u a (omega arith)

module _ (p : Policy) (birth : ℕ) (m : Model) (t : ℕ) where
  -- where nothing happens before t, the status before t is the one of earlier
  stays : (low : ℕ) → birth ≤ low → low < t → NothingBetween m low t → status p birth m (t - 1) ≡ status p birth m low
  stays low born later quiet =
      let k : ℕ = t - 1 - low in
      let is : low + k ≡ t - 1 = omega (arith, later) in
      ap (status p birth m) (sym is) ∙ (stretch_stays p birth m low k born (λ u a b. quiet u a (omega (arith, b, is, later)))).0

  -- at the first instant of the trace its set is taken into the status
  closes : (c : ClosedSet) (cs : List ClosedSet) (low : ℕ) → birth ≤ low → low < c.at → Ascends c.at cs → ((u : ℕ) → low < u → m u ≡ model_of (c ∷ cs) u)
      → status p birth m c.at ≡ after c.set (status p birth m low)
  closes c cs low born lt a same =
      let there : m c.at ≡ c.set = same c.at lt ∙ (λ i. if eq-eqb c.at c.at refl i then c.set else model_of cs c.at) in
      let j : ℕ = c.at - 1 - birth in
      let here : c.at - birth ≡ suc j = omega (arith, born, lt) in
      let at : birth + suc j ≡ c.at = omega (arith, born, lt) in
      let k : ℕ = c.at - 1 - low in
      let is : low + k ≡ c.at - 1 = omega (arith, lt) in
      let still : status p birth m (c.at - 1) ≡ status p birth m low =
      ap (status p birth m) (sym is) ∙ (stretch_stays p birth m low k born (λ u x y. same u x ∙ before_first c cs u a (omega (arith, y, is, lt)))).0 in
      ap (status_after p birth m) here ∙ (λ i. after (m (at i)) (status_after p birth m j)) ∙ (λ i. after (there i) (still i))

  made_from : (cs : List ClosedSet) (low : ℕ) → birth ≤ low → low < t → Ascends low cs → ((u : ℕ) → low < u → m u ≡ model_of cs u)
      → status p birth m (t - 1) ≡ made_before t cs (status p birth m low)
  made_from [] low born later a same = stays low born later (λ u x y. same u x)
  made_from (c ∷ cs) low born later a same =
      split (nat_lt c.at t)
      (λ before.
      let lt : c.at < t = ltb-true c.at t before in
      made_from cs c.at (omega (arith, born, a.0)) lt a.1 (λ u x. same u (omega (arith, a.0, x)) ∙ (λ i. if ne_eqb c.at u (λ e. omega (arith, e, x)) i then c.set else model_of cs u))
      ∙ ap (made_before t cs) (closes c cs low born a.0 a.1 same)
      ∙ sym (λ i. if before i then made_before t cs (after c.set (status p birth m low)) else status p birth m low))
      (λ past.
      let le : t ≤ c.at = ltb-false c.at t past in
      stays low born later (λ u x y. same u x ∙ before_first c cs u a.1 (omega (arith, y, le)))
      ∙ sym (λ i. if past i then made_before t cs (after c.set (status p birth m low)) else status p birth m low))

-- the status before an instant is the one that the sets before it make of the opening status
pub status_made : (p : Policy) (birth t : ℕ) (cs : List ClosedSet) → birth < t → Ascends birth cs → status p birth (model_of cs) (t - 1) ≡ made_before t cs (has p.opening)
status_made p birth t cs later a =
    let zero_is : birth - birth ≡ 0 = omega arith in
    made_from p birth (model_of cs) t cs birth (omega arith) later a (λ u x. refl) ∙ ap (made_before t cs) (ap (status_after p birth (model_of cs)) zero_is)

-- a set before the instant is taken into the status
step_before : (t : ℕ) (c : ClosedSet) (cs : List ClosedSet) (s s' : Status) → c.at < t → ((f : Fluent) → s' f ≡ after c.set s f) → made_before t cs s' ≡ made_before t (c ∷ cs) s
step_before t c cs s s' lt h =
    let before : nat_lt c.at t ≡ true = lt-ltb c.at t lt in
    ap (made_before t cs) (λ i f. h f i) ∙ sym (λ i. if before i then made_before t cs (after c.set s) else s)

-- nothing of the trace is before the instant
past_all : (t : ℕ) (c : ClosedSet) (cs : List ClosedSet) (s : Status) → t ≤ c.at → made_before t (c ∷ cs) s ≡ s
past_all t c cs s le =
    let past : nat_lt c.at t ≡ false = le-ltb c.at t le in
    λ i. if past i then made_before t cs (after c.set s) else s

-- where a trace ascends up to an instant, all but its last set are before it
pub ends_by : (cs : List ClosedSet) (low t : ℕ) → Ascends low cs → AreClosedBy t cs → OnlyLastReaches t cs
ends_by [] low t a ends = tt
ends_by (c ∷ cs) low t a ends = (none_left cs a.1 ends.1, ends_by cs c.at t a.1 ends.1)
  where
    none_left : (ds : List ClosedSet) → Ascends c.at ds → AreClosedBy t ds → t ≤ c.at → ds ≡ []
    none_left [] up by le = refl
    none_left (d ∷ ds) up by le = absurd (omega (arith, up.0, by.0, le))

-- a set of such a trace, and the status that is turned to that after it where it is before the instant
module _ (rules : List TriggerView) (t : ℕ) (c : ClosedSet) (cs : List ClosedSet) (s s' : Status) (ends : OnlyLastReaches t (c ∷ cs))
    (turned : (f : Fluent) → s' f ≡ cond (nat_lt c.at t) (after c.set s f) (s f)) where
  pub still_made : made_before t cs s' ≡ made_before t (c ∷ cs) s
  still_made =
      split (nat_lt c.at t)
      (λ before. step_before t c cs s s' (ltb-true c.at t before) (λ f. turned f ∙ ap (λ b. cond b (after c.set s f) (s f)) before))
      (λ past.
      let le : t ≤ c.at = ltb-false c.at t past in
      let same : s' ≡ s = λ i f. (turned f ∙ ap (λ b. cond b (after c.set s f) (s f)) past) i in
      (λ i. made_before t (ends.0 le i) (same i)) ∙ sym (past_all t c cs s le))

  taken : (s' ≡ after c.set s) ⊎ (cs ≡ [])
  taken =
      split (nat_lt c.at t)
      (λ before. inl (λ i f. (turned f ∙ ap (λ b. cond b (after c.set s f) (s f)) before) i))
      (λ past. inr (ends.0 (ltb-false c.at t past)))

  pub then_settled : AreSettled rules (after c.set s) cs → AreSettled rules s' cs
  then_settled a = ⊎_elim (λ is. subst (λ z. AreSettled rules z cs) (sym is) a) (λ is. subst (AreSettled rules s') (sym is) tt) taken

  pub then_listings : (ls : List Listed) → AreListings rules s' cs ls → AreListings rules (after c.set s) cs ls
  then_listings ls a = ⊎_elim (λ is. subst (λ z. AreListings rules z cs ls) is a) (λ is. of_none cs ls is a) taken
    where
      no_cons : (d : ClosedSet) (ds : List ClosedSet) → d ∷ ds ≡ [] → ⊥
      no_cons d ds h = cc

      of_none : (ds : List ClosedSet) (ls : List Listed) → ds ≡ [] → AreListings rules s' ds ls → AreListings rules (after c.set s) ds ls
      of_none [] [] is a = tt
      of_none [] (l ∷ ls) is a = a
      of_none (d ∷ ds) ls is a = absurd (no_cons d ds is)

-- an instant that the trace has is after the birth
later_there : (cs : List ClosedSet) (low t : ℕ) (c : ClosedSet) → Ascends low cs → closed_at cs t ≡ Some c → low < t
later_there [] low t c a e = cc
later_there (d ∷ cs) low t c a e =
    split (nat_eq d.at t)
    (λ same. let is : d.at ≡ t = eqb-true d.at t same in omega (arith, is, a.0))
    (λ apart.
    let on : d.at < t = later_there cs d.at t c a.1 (sym (λ i. if apart i then Some d else closed_at cs t) ∙ e) in
    omega (arith, on, a.0))

-- after the birth requests are answered from the set of now
point_there : (p : Policy) (birth : ℕ) (m : Model) (h : List Entry) → birth < now_of birth h → (point_after p birth m h).set ≡ m (now_of birth h)
point_there p birth m h lt = λ i. if lt-ltb birth (now_of birth h) lt i then m (now_of birth h) else nothing

-- and from no set where that one is none
point_nowhere : (p : Policy) (birth : ℕ) (m : Model) (h : List Entry) → m (now_of birth h) ≡ nothing → (point_after p birth m h).set ≡ nothing
point_nowhere p birth m h none_so =
    split (nat_lt birth (now_of birth h))
    (λ later. (λ i. if later i then m (now_of birth h) else nothing) ∙ none_so)
    (λ born. λ i. if born i then m (now_of birth h) else nothing)

-- of nothing nothing is seen
absent : (e : Event) → seen nothing e ≡ Absent
unfolding has none
absent e = refl

module _ (p : Policy) (birth : ℕ) (h : List Entry) (trace : List ClosedSet) (legal : Legal p birth h (model_of trace)) (cert : List Listed) (accepted : Accepts p birth h cert) (named : NamedEvent) (e : Event)
    (now : ℕ) (now_is : now ≡ now_of birth h) (front text : List ℕ) (front_is : front ≡ certificate_line cert) where
  -- how the event stands in what the trace has at now is how it stands in the model
  pub tells_there : (c : ClosedSet) (rules : List TriggerView) (base x : HappenedView) (before : Status)
      → HasBases p birth (model_of trace) h trace → Ascends birth trace → closed_at trace now ≡ Some c
      → rules ≡ p.triggers → base ≡ c.base → before ≡ made_before now trace (has p.opening) → x ≡ c.set
      → text ≡ front ++ standing_line rules base before x named e (seen x e) → TellsWhy p birth h named e text
  tells_there c rules base x before bases ascends there rules_are base_is before_is x_is text_is =
      let base_so : base ≡ base_at p birth (model_of trace) h (now_of birth h) = base_is ∙ base_there p birth (model_of trace) h trace now c bases there ∙ ap (base_at p birth (model_of trace) h) now_is in
      let later : birth < now = later_there trace birth now c ascends there in
      let before_so : before ≡ status p birth (model_of trace) (now_of birth h - 1) =
      before_is ∙ sym (status_made p birth now trace later ascends) ∙ ap (λ t. status p birth (model_of trace) (t - 1)) now_is in
      let x_so : x ≡ (point_after p birth (model_of trace) h).set =
      x_is ∙ sym (set_there trace now c there) ∙ ap (model_of trace) now_is ∙ sym (point_there p birth (model_of trace) h (omega (arith, later, now_is))) in
      record {
        model = model_of trace;
        legal = legal;
        cert = cert;
        accepted = accepted;
        text_is = text_is ∙ (λ i. front_is i ++ standing_line (rules_are i) (base_so i) (before_so i) (x_so i) named e (seen (x_so i) e));
      }

  -- and where the trace has nothing there, it is absent
  pub tells_nowhere : closed_at trace now ≡ None → text ≡ front ++ codes "absent\n" → TellsWhy p birth h named e text
  tells_nowhere nowhere text_is =
      let t : ℕ = now_of birth h in
      let none_so : model_of trace t ≡ nothing = ap (model_of trace) (sym now_is) ∙ set_nowhere trace now nowhere in
      let x : HappenedView = (point_after p birth (model_of trace) h).set in
      let seen_so : seen x e ≡ Absent = ap (λ y. seen y e) (point_nowhere p birth (model_of trace) h none_so) ∙ absent e in
      record {
        model = model_of trace;
        legal = legal;
        cert = cert;
        accepted = accepted;
        text_is = text_is ∙ (λ i. front_is i ++ standing_line p.triggers (base_at p birth (model_of trace) h t) (status p birth (model_of trace) (t - 1)) x named e (sym seen_so i));
      }
