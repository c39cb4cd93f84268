-- How many entries a script's lines make over a made policy.
use Rattle.std.proofs.Common.{◌≡◌, inl, inr, ℕ, suc, ◌+◌, ◌-◌, ◌*◌, ◌≤◌, ◌<◌, true, List, [], ◌∷◌, ◌++◌, length, refl, sym, ap, ◌∙◌, subst, arith, append_assoc, append-nil, length-append}
use Rattle.std.specs.List.{AllByRecursion}
use Rattle.gt_base.specs.Machines.{asked, ticked}
use Rattle.gt_base.specs.declared.requests.Who.{Who}
use Rattle.gt_base.specs.declared.requests.Actor.{Actor}
use Rattle.gt_base.specs.declared.requests.Request.{Request}
use Rattle.gt_base.specs.declared.requests.Reply.{Reply}
use Rattle.gt_base.specs.declared.requests.Step.{Step}
use Rattle.gt_base.specs.declared.requests.Step.TheVariants.{Tick, Ask as Asked}
use Rattle.gt_base.specs.declared.requests.Entry.{Entry}
use Rattle.gt_base.specs.declared.limits.TheConstants.{LAST_MINUTE}
use Rattle.gtrbac_model.specs.Policy.{Policy}
use Rattle.gtrbac_model.specs.Status.{Model}
use Rattle.gtrbac_model.specs.Sessions.{Table, close_minutes, empty_table}
use Rattle.gtrbac_model.specs.Base.{requested, queued_at, status}
use Rattle.gtrbac_model.specs.History.{AreLegalAfter, IsLegalStep, IsNextStop, stirs, now_of}
use Rattle.gtrbac_model.proofs.Append.{steps_append}
use Rattle.gtrbac_model.proofs.Playing.{now_snoc}
use Rattle.history_laws.proofs.Continuing.{queue_goes_on}
use Rattle.history_laws.proofs.Lasting.{steps_after, front_steps}
use Rattle.history_laws.proofs.Reading.{Onward, reaches, legal_onward, whole, whole_snoc}
use Rattle.request_text.specs.declared.lines.Line.{Line}
use Rattle.request_text.specs.declared.lines.Line.TheVariants.{Silent, At, Be, Ask}
use Rattle.gen_laws.specs.Made.{policy_of_made}
use Rattle.gen_laws.specs.Following.{IsTickTo, AreTicksTo, FollowsLines}
use Rattle.gen_laws.proofs.Weights.{weight, closes, asking}
use Rattle.gen_laws.proofs.Stirring.{hours, hours_rise, pays}

-- a minute pays one entry of its own, and a request its entry and what it may stir
abbrev pub cost : Line → ℕ
cost Silent = 0
cost (Be actor) = 0
cost (At minute) = 1
cost (Ask request) = 4

abbrev pub costs : List Line → ℕ
costs [] = 0
costs (l ∷ ls) = cost l + costs ls

-- minutes up to this one, and no request that queues an event
abbrev pub IsCalm : ℕ → Line → Type 0
IsCalm most Silent = Unit {0}
IsCalm most (Be actor) = Unit {0}
IsCalm most (At minute) = minute ≤ most
IsCalm most (Ask request) = (t : ℕ) (reply : Reply) → queued_at t request reply ≡ []

module _ (k birth most : ℕ) (limit : most ≤ LAST_MINUTE) (m : Model) where
  abbrev p : Policy
  p = policy_of_made k

  abbrev tb : List Entry → Table
  tb g = whole p.edges p.caps (status p birth m) birth empty_table g

  -- the entries so far, and what their activations and signals may still stir, are paid for by n, by the hours that went by, and by the
  -- first minute
  pub record IsPaid (g : List Entry) (n : ℕ) : Type 0 where
    pub legal : AreLegalAfter p birth m [] g
    pub within : now_of birth g ≤ most
    pub calm : (t : ℕ) → requested g t ≡ []
    pub first : ℕ
    pub at_most : first ≤ 1
    pub not_yet : now_of birth g ≡ birth → first ≡ 0
    pub paid : length g + weight (tb g) + hours birth ≤ n + hours (now_of birth g) + first

  more : (g : List Entry) (n l : ℕ) → n ≤ l → IsPaid g n → IsPaid g l
  more g n l le i = record { legal = i.legal; within = i.within; calm = i.calm; first = i.first; at_most = i.at_most; not_yet = i.not_yet; paid = omega (arith, le, i.paid) }

  module _ (g : List Entry) (n : ℕ) (i : IsPaid g n) where
    abbrev now : ℕ
    now = now_of birth g

    on : Onward birth g
    on = legal_onward p birth m [] g i.legal

    from_birth : birth ≤ now
    from_birth = reaches birth g on

    module _ (who : Who) (upto j : ℕ) (step : IsNextStop (stirs p birth m g) now upto (now + suc j)) (high : upto ≤ most) where
      abbrev next : List Entry
      next = g ++ ticked who upto (now + suc j) ∷ []

      there : now_of birth next ≡ now + suc j
      there = now_snoc birth g (ticked who upto (now + suc j))

      closed : tb next ≡ close_minutes p.edges p.caps (status p birth m) now (suc j) (tb g)
      closed =
          whole_snoc p.edges p.caps (status p birth m) birth empty_table g (ticked who upto (now + suc j))
          ∙ ap (λ l. close_minutes p.edges p.caps (status p birth m) now l (tb g)) (so_many now j)
        where
          so_many : (n j : ℕ) → n + suc j - n ≡ suc j
          so_many n j = omega arith

      lighter : weight (tb next) + length (close_minutes p.edges p.caps (status p birth m) now (suc j) (tb g)).signals + length (tb g).signals ≤ weight (tb g)
      lighter =
          by (weight (tb next)) (length (tb g).active) (length (tb g).signals) (length (close_minutes p.edges p.caps (status p birth m) now (suc j) (tb g)).active)
          (length (close_minutes p.edges p.caps (status p birth m) now (suc j) (tb g)).signals) (ap (λ (b : Table). weight b) closed) (closes p.edges p.caps (status p birth m) now j (tb g))
        where
          by : (w a s a' s' : ℕ) → w ≡ 2 * a' + s' → a' + s' ≤ a → w + s' + s ≤ 2 * a + s
          by w a s a' s' e le = omega (arith, e, le)

      longer : length next ≡ length g + 1
      longer = length-append g (ticked who upto (now + suc j) ∷ [])

      no_more_due : (t : ℕ) → requested next t ≡ []
      no_more_due t = (queue_goes_on g t).ticks who upto (now + suc j) ∙ i.calm t

      legal_on : AreLegalAfter p birth m [] next
      legal_on = steps_append p birth m [] g (ticked who upto (now + suc j)) i.legal step

      hours_on : hours now ≤ hours (now_of birth next)
      hours_on = hours_rise now (now_of birth next) (omega (arith, there))

      -- each tick is paid for by one
      tick_one : IsPaid next (n + 1)
      tick_one = record {
        legal = legal_on;
        within = omega (arith, there, step.bounded, high);
        calm = no_more_due;
        first = i.first;
        at_most = i.at_most;
        not_yet = λ e. absurd (omega (arith, e, there, from_birth));
        paid = omega (arith, longer, lighter, hours_on, i.paid);
      }

      -- a tick to what stirs pays for itself
      tick_stirred : stirs p birth m g (now + suc j) ≡ true → IsPaid next n
      tick_stirred h =
          elim (pays k birth m g on j (omega (arith, step.bounded, high, limit)) (i.calm (now + suc j)) step.none_before h) [
            | inl signals ↦ same (omega (arith, longer, lighter, hours_on, i.paid, signals))
            | inr (inl dropped) ↦ same (omega (arith, longer, lighter, hours_on, i.paid, dropped))
            | inr (inr (inl begun)) ↦
                (let none : i.first ≡ 0 = i.not_yet (omega (arith, begun, from_birth)) in
                record {
                  legal = legal_on;
                  within = omega (arith, there, step.bounded, high);
                  calm = no_more_due;
                  first = 1;
                  at_most = omega arith;
                  not_yet = λ e. absurd (omega (arith, e, there, from_birth));
                  paid = omega (arith, longer, lighter, hours_on, i.paid, none);
                })
            | inr (inr (inr hour)) ↦ same (omega (arith, longer, lighter, hour, hours_rise (now + suc j) (now_of birth next) (omega (arith, there)), i.paid))
          ]
        where
          same : length next + weight (tb next) + hours birth ≤ n + hours (now_of birth next) + i.first → IsPaid next n
          same le = record {
            legal = legal_on;
            within = omega (arith, there, step.bounded, high);
            calm = no_more_due;
            first = i.first;
            at_most = i.at_most;
            not_yet = λ e. absurd (omega (arith, e, there, from_birth));
            paid = le;
          }

    module _ (who : Who) (actor : Actor) (request : Request) (reply : Reply) (step : IsLegalStep p birth m g (Asked actor request reply)) (calm : (t : ℕ) → queued_at t request reply ≡ []) where
      abbrev then : List Entry
      then = g ++ asked who actor request reply ∷ []

      here : now_of birth then ≡ now
      here = now_snoc birth g (asked who actor request reply)

      heavier : weight (tb then) ≤ weight (tb g) + 3
      heavier =
          subst (λ (b : Table). weight b ≤ weight (tb g) + 3) (sym (whole_snoc p.edges p.caps (status p birth m) birth empty_table g (asked who actor request reply)))
          (asking now actor request reply (tb g))

      ask_four : IsPaid then (n + 4)
      ask_four =
          let longer : length then ≡ length g + 1 = length-append g (asked who actor request reply ∷ []) in
          record {
            legal = steps_append p birth m [] g (asked who actor request reply) i.legal step;
            within = omega (arith, here, i.within);
            calm = λ t. (queue_goes_on g t).asks who actor request reply ∙ (λ j. i.calm t j ++ calm t j);
            first = i.first;
            at_most = i.at_most;
            not_yet = λ e. i.not_yet (sym here ∙ e);
            paid = omega (arith, longer, heavier, here, i.paid);
          }

  -- one tick to the minute, or what stirs before it
  one_tick : (g : List Entry) (n : ℕ) (who : Who) (upto to : ℕ) → IsNextStop (stirs p birth m g) (now_of birth g) upto to → upto ≤ most → IsPaid g n
      → IsPaid (g ++ ticked who upto to ∷ []) (n + 1) × (to < upto → IsPaid (g ++ ticked who upto to ∷ []) n)
  one_tick g n who upto to step high i = by (to - now_of birth g - 1) (omega (arith, step.later)) step
    where
      by : (j : ℕ) → to ≡ now_of birth g + suc j → IsNextStop (stirs p birth m g) (now_of birth g) upto to → IsPaid (g ++ ticked who upto to ∷ []) (n + 1) × (to < upto → IsPaid (g ++ ticked who upto to ∷ []) n)
      by j is step =
          let exact : IsNextStop (stirs p birth m g) (now_of birth g) upto (now_of birth g + suc j) = subst (IsNextStop (stirs p birth m g) (now_of birth g) upto) is step in
          subst (λ (u : ℕ). IsPaid (g ++ ticked who upto u ∷ []) (n + 1) × (u < upto → IsPaid (g ++ ticked who upto u ∷ []) n)) (sym is) (
            tick_one g n i who upto j exact high,
            λ lt. elim exact.stop [
              | inl stirred ↦ tick_stirred g n i who upto j exact high stirred
              | inr reached ↦ absurd (omega (arith, lt, reached))
            ],
          )

  first_tick : (minute n : ℕ) → minute ≤ most → (g : List Entry) (e : Entry) → IsTickTo minute e.what → IsLegalStep p birth m g e.what → (now_of birth g < minute → IsPaid g n)
      → IsPaid (g ++ e ∷ []) (n + 1) × (now_of birth (g ++ e ∷ []) < minute → IsPaid (g ++ e ∷ []) n)
  first_tick minute n high g e is step before = by e.who e.what is step
    where
      by : (who : Who) (w : Step) → IsTickTo minute w → IsLegalStep p birth m g w
          → IsPaid (g ++ record { who = who; what = w } ∷ []) (n + 1) × (now_of birth (g ++ record { who = who; what = w } ∷ []) < minute → IsPaid (g ++ record { who = who; what = w } ∷ []) n)
      by who (Tick upto to) is step =
          let lt : now_of birth g < minute = omega (arith, is, step.later, step.bounded) in
          let both = one_tick g n who upto to step (omega (arith, is, high)) (before lt) in
          (both.0, λ below. both.1 (omega (arith, below, is, now_snoc birth g (ticked who upto to))))
      by who (Asked actor request reply) is step = absurd is

  -- the ticks to a minute are paid for by one
  ticks_paid : (minute n : ℕ) → minute ≤ most → (ticks g : List Entry) → AreTicksTo minute ticks → AreLegalAfter p birth m g ticks → IsPaid g (n + 1) → (now_of birth g < minute → IsPaid g n) → IsPaid (g ++ ticks) (n + 1)
  ticks_paid minute n high [] g are legal all before = subst (λ (h : List Entry). IsPaid h (n + 1)) (sym (append-nil g)) all
  ticks_paid minute n high (e ∷ ticks) g are legal all before =
      let paid = first_tick minute n high g e are.0 legal.0 before in
      subst (λ (h : List Entry). IsPaid h (n + 1)) (append_assoc g (e ∷ []) ticks) (ticks_paid minute n high ticks (g ++ e ∷ []) are.1 legal.1 paid.0 paid.1)

  pub follow : (ls : List Line) (h g : List Entry) (n : ℕ) → AllByRecursion (IsCalm most) ls → FollowsLines ls h → AreLegalAfter p birth m g h → IsPaid g n → IsPaid (g ++ h) (n + costs ls)
  follow [] h g n calm made legal i =
      subst (λ (x : List Entry). IsPaid x (n + 0)) (sym (append-nil g) ∙ ap (λ (x : List Entry). g ++ x) (sym made)) (more g n (n + 0) (omega arith) i)
  follow (Silent ∷ ls) h g n calm made legal i = more (g ++ h) (n + costs ls) (n + (0 + costs ls)) (omega arith) (follow ls h g n calm.1 made legal i)
  follow (Be actor ∷ ls) h g n calm made legal i = more (g ++ h) (n + costs ls) (n + (0 + costs ls)) (omega arith) (follow ls h g n calm.1 made legal i)
  follow (At minute ∷ ls) h g n calm made legal i =
      let ticks : List Entry = made.0 in
      let rest : List Entry = made.1 in
      let there : AreLegalAfter p birth m g (ticks ++ rest) = subst (λ (x : List Entry). AreLegalAfter p birth m g x) made.2 legal in
      let front : IsPaid (g ++ ticks) (n + 1) = ticks_paid minute n calm.0 ticks g made.3 (front_steps p birth m g ticks rest there) (more g n (n + 1) (omega arith) i) (λ _. i) in
      let all : IsPaid (g ++ ticks ++ rest) (n + 1 + costs ls) = follow ls rest (g ++ ticks) (n + 1) calm.1 made.4 (steps_after p birth m g ticks rest there) front in
      subst (λ (x : List Entry). IsPaid x (n + (1 + costs ls))) (append_assoc g ticks rest ∙ ap (λ (x : List Entry). g ++ x) (sym made.2))
      (more (g ++ ticks ++ rest) (n + 1 + costs ls) (n + (1 + costs ls)) (omega arith) all)
  follow (Ask request ∷ ls) h g n calm made legal i =
      let e : Entry = asked made.0 made.1 request made.2 in
      let rest : List Entry = made.3 in
      let there : AreLegalAfter p birth m g (e ∷ rest) = subst (λ (x : List Entry). AreLegalAfter p birth m g x) made.4 legal in
      let front : IsPaid (g ++ e ∷ []) (n + 4) = ask_four g n i made.0 made.1 request made.2 there.0 (λ t. calm.0 t made.2) in
      let all : IsPaid (g ++ e ∷ [] ++ rest) (n + 4 + costs ls) = follow ls rest (g ++ e ∷ []) (n + 4) calm.1 made.5 there.1 front in
      subst (λ (x : List Entry). IsPaid x (n + (4 + costs ls))) (append_assoc g (e ∷ []) rest ∙ ap (λ (x : List Entry). g ++ x) (sym made.4))
      (more (g ++ e ∷ [] ++ rest) (n + 4 + costs ls) (n + (4 + costs ls)) (omega arith) all)

  -- nothing is owed at the birth
  pub at_birth : birth ≤ most → IsPaid [] 0
  at_birth le = record { legal = tt; within = le; calm = λ t. refl; first = 0; at_most = omega arith; not_yet = λ e. refl; paid = omega arith }
