-- Induction along a legal history: what holds of the empty table at the birth, and is kept by each close and each answered request, holds of the table of each instant.
use Rattle.std.proofs.Common.{◌≡◌, ℕ, zero, suc, ◌+◌, ◌-◌, ◌<◌, ◌≤◌, false, nat_lt, List, [], ◌∷◌, ◌++◌, refl, sym, ◌∙◌, ap, subst, arith, append_assoc, if◌then◌else◌}
use Rattle.std.proofs.lemmas.Bool.{ltb-true, ltb-false}
use Rattle.gt_base.specs.Machines.{asked, ticked}
use Rattle.gt_base.specs.declared.policies.HierEdge.{HierEdge}
use Rattle.gt_base.specs.declared.policies.Caps.{Caps}
use Rattle.gt_base.specs.declared.requests.Who.{Who}
use Rattle.gt_base.specs.declared.requests.Actor.{Actor}
use Rattle.gt_base.specs.declared.requests.Request.{Request}
use Rattle.gt_base.specs.declared.requests.Reply.{Reply}
use Rattle.gt_base.specs.declared.requests.Step.{Step}
use Rattle.gt_base.specs.declared.requests.Step.TheVariants.{Tick, Ask}
use Rattle.gt_base.specs.declared.requests.Entry.{Entry}
use Rattle.gtrbac_model.specs.Policy.{Policy}
use Rattle.gtrbac_model.specs.Conflict.{Status}
use Rattle.gtrbac_model.specs.Status.{Model}
use Rattle.gtrbac_model.specs.Sessions.{Table, applied, read_table, read_step, close_minute, close_minutes, empty_table}
use Rattle.gtrbac_model.specs.Base.{status, table_at}
use Rattle.gtrbac_model.specs.Reply.{reply_of}
use Rattle.gtrbac_model.specs.History.{AreLegalAfter, IsLegalStep, now_of, moved, point_after}
use Rattle.gtrbac_model.proofs.Elements.{split}
use Rattle.gtrbac_model.proofs.Append.{append-nil}
use Rattle.gtrbac_model.proofs.Playing.{now_snoc, tick_not_read}

-- no step goes back
abbrev pub Onward : ℕ → List Entry → Type 0
Onward now [] = Unit {0}
Onward now (e ∷ es) = (now ≤ moved now e.what) × Onward (moved now e.what) es

pub reaches : (now : ℕ) (h : List Entry) → Onward now h → now ≤ now_of now h
reaches now [] o = omega arith
reaches now (e ∷ h) o = omega (arith, o.0, reaches (moved now e.what) h o.1)

pub onward_front : (now : ℕ) (g es : List Entry) → Onward now (g ++ es) → Onward now g
onward_front now [] es o = tt
onward_front now (e ∷ g) es o = (o.0, onward_front (moved now e.what) g es o.1)

pub legal_onward : (p : Policy) (birth : ℕ) (m : Model) (g h : List Entry) → AreLegalAfter p birth m g h → Onward (now_of birth g) h
legal_onward p birth m g [] legal = tt
legal_onward p birth m g (e ∷ h) legal = (one g e.what legal.0, subst (λ n. Onward n h) (now_snoc birth g e) (legal_onward p birth m (g ++ e ∷ []) h legal.1))
  where
    one : (g : List Entry) (w : Step) → IsLegalStep p birth m g w → now_of birth g ≤ moved (now_of birth g) w
    one g (Tick upto to) l = omega (arith, l.later)
    one g (Ask actor request reply) l = omega arith

module _ (edges : List HierEdge) (caps : List Caps) (s : ℕ → Status) where
  -- what a step does to the table
  abbrev pub did : ℕ → Table → Step → Table
  did now tb (Tick upto to) = close_minutes edges caps s now (to - now) tb
  did now tb (Ask actor request reply) = applied now actor request reply tb

  -- the table after all entries
  abbrev pub whole : ℕ → Table → List Entry → Table
  whole now tb [] = tb
  whole now tb (e ∷ es) = whole (moved now e.what) (did now tb e.what) es

  pub whole_snoc : (now : ℕ) (tb : Table) (g : List Entry) (e : Entry) → whole now tb (g ++ e ∷ []) ≡ did (now_of now g) (whole now tb g) e.what
  whole_snoc now tb [] e = refl
  whole_snoc now tb (f ∷ g) e = whole_snoc (moved now f.what) (did now tb f.what) g e

  step_whole : (stop now : ℕ) (tb : Table) (w : Step) (h : List Entry) → Onward (moved now w) h → now_of (moved now w) h ≤ stop
      → ((l : ℕ) (b : Table) → Onward l h → now_of l h ≤ stop → read_table edges caps s stop l b h ≡ close_minutes edges caps s (now_of l h) (stop - now_of l h) (whole l b h))
      → read_step edges caps s stop now tb w (λ l b. read_table edges caps s stop l b h)
      ≡ close_minutes edges caps s (now_of (moved now w) h) (stop - now_of (moved now w) h) (whole (moved now w) (did now tb w) h)
  step_whole stop now tb (Tick upto to) h o le on =
      let within : nat_lt stop to ≡ false = split (nat_lt stop to) (λ q. absurd (omega (arith, ltb-true stop to q, reaches to h o, le))) (λ q. q) in
      (λ i. if within i then close_minutes edges caps s now (stop - now) tb else read_table edges caps s stop to (close_minutes edges caps s now (to - now) tb) h)
      ∙ on to (close_minutes edges caps s now (to - now) tb) o le
  step_whole stop now tb (Ask actor request reply) h o le on = on now (applied now actor request reply tb) o le

  -- a history that goes on is read whole, and then minute by minute
  pub read_whole : (stop : ℕ) (h : List Entry) (now : ℕ) (tb : Table) → Onward now h → now_of now h ≤ stop
      → read_table edges caps s stop now tb h ≡ close_minutes edges caps s (now_of now h) (stop - now_of now h) (whole now tb h)
  read_whole stop [] now tb o le = refl
  read_whole stop (e ∷ h) now tb o le = step_whole stop now tb e.what h o.1 le (λ l b. read_whole stop h l b)

module _ (p : Policy) (birth : ℕ) (m : Model) (h : List Entry) (legal : AreLegalAfter p birth m [] h) (P : ℕ → Table → Type 0)
    (start : P birth empty_table)
    (closes : (t : ℕ) (tb : Table) → birth ≤ t → table_at p birth m h t ≡ tb → P t tb → P (suc t) (close_minute p.edges p.caps (status p birth m (suc t)) (suc t) tb))
    (asks : (g rest : List Entry) (who : Who) (actor : Actor) (request : Request) (reply : Reply) (tb : Table) → g ++ asked who actor request reply ∷ rest ≡ h
    → reply ≡ reply_of p (point_after p birth m g) actor request → table_at p birth m g (now_of birth g) ≡ tb
    → table_at p birth m (g ++ asked who actor request reply ∷ []) (now_of birth g) ≡ applied (now_of birth g) actor request reply tb
    → P (now_of birth g) tb → P (now_of birth g) (applied (now_of birth g) actor request reply tb)) where
  -- the table after the entries, and after the close of further minutes
  abbrev after_all : List Entry → Table
  after_all g = whole p.edges p.caps (status p birth m) birth empty_table g

  abbrev minutes_on : ℕ → ℕ → Table → Table
  minutes_on = close_minutes p.edges p.caps (status p birth m)

  front : (g es : List Entry) → g ++ es ≡ h → Onward birth g
  front g es is = onward_front birth g es (subst (λ k. Onward birth k) (sym is) (legal_onward p birth m [] h legal))

  at_or_after : (g : List Entry) → Onward birth g → (t : ℕ) → now_of birth g ≤ t → table_at p birth m g t ≡ minutes_on (now_of birth g) (t - now_of birth g) (after_all g)
  at_or_after g o t le = read_whole p.edges p.caps (status p birth m) t g birth empty_table o le

  at_now : (g : List Entry) → Onward birth g → table_at p birth m g (now_of birth g) ≡ after_all g
  at_now g o = at_or_after g o (now_of birth g) (omega arith) ∙ ap (λ k. minutes_on (now_of birth g) k (after_all g)) (none (now_of birth g))
    where
      none : (n : ℕ) → n - n ≡ 0
      none n = omega arith

  minutes : (now k : ℕ) (tb : Table) → birth ≤ now → ((j : ℕ) → j < k → table_at p birth m h (now + j) ≡ minutes_on now j tb) → P now tb → P (now + k) (minutes_on now k tb)
  minutes now zero tb le are is = subst (λ u. P u tb) (same now) is
    where
      same : (n : ℕ) → n ≡ n + 0
      same n = omega arith
  minutes now (suc k) tb le are is =
      subst (λ u. P u (close_minute p.edges p.caps (status p birth m u) u (minutes_on now k tb))) (next now k)
      (closes (now + k) (minutes_on now k tb) (omega (arith, le)) (are k (omega arith)) (minutes now k tb le (λ j lt. are j (omega (arith, lt))) is))
    where
      next : (n k : ℕ) → suc (n + k) ≡ n + suc k
      next n k = omega arith

  -- where the table is read so at each instant up to one, what is kept holds there
  holds_at : (now t : ℕ) (tb : Table) → birth ≤ now → now ≤ t → ((u : ℕ) → now ≤ u → u ≤ t → table_at p birth m h u ≡ minutes_on now (u - now) tb) → P now tb → P t (table_at p birth m h t)
  holds_at now t tb birth_le le are is =
      subst (λ b. P t b) (sym (are t le (omega arith)))
      (subst (λ u. P u (minutes_on now (t - now) tb)) (there now t le)
      (minutes now (t - now) tb birth_le (λ j lt. are (now + j) (omega arith) (omega (arith, lt, le)) ∙ ap (λ k. minutes_on now k tb) (so_many now j)) is))
    where
      there : (n t : ℕ) → n ≤ t → n + (t - n) ≡ t
      there n t le = omega (arith, le)

      so_many : (n j : ℕ) → n + j - n ≡ j
      so_many n j = omega arith

  abbrev Goes : List Entry → List Entry → Type 0
  Goes g es = g ++ es ≡ h → AreLegalAfter p birth m g es → P (now_of birth g) (after_all g) → (t : ℕ) → now_of birth g ≤ t → P t (table_at p birth m h t)

  step : (who : Who) (w : Step) (es g : List Entry) → Goes (g ++ record { who = who; what = w } ∷ []) es → Goes g (record { who = who; what = w } ∷ es)
  step who (Tick upto to) es g on is steps known t le =
      let now : ℕ = now_of birth g in
      let o : Onward birth g = front g (ticked who upto to ∷ es) is in
      let birth_le : birth ≤ now = reaches birth g o in
      let are : (u : ℕ) → now ≤ u → u < to → table_at p birth m h u ≡ minutes_on now (u - now) (after_all g) =
      λ u a b. sym (ap (λ k. table_at p birth m k u) is) ∙ tick_not_read p birth (status p birth m) u who upto to es b g birth empty_table ∙ at_or_after g o u a in
      split (nat_lt t to)
      (λ q. holds_at now t (after_all g) birth_le le (λ u a b. are u a (omega (arith, b, ltb-true t to q))) known)
      (λ q.
      let later : now < to = steps.0.later in
      let at_to : P (now + (to - now)) (minutes_on now (to - now) (after_all g)) =
      minutes now (to - now) (after_all g) birth_le (λ j lt. are (now + j) (omega arith) (omega (arith, lt)) ∙ ap (λ k. minutes_on now k (after_all g)) (so_many now j)) known in
      on (append_assoc g (ticked who upto to ∷ []) es ∙ is) steps.1
      (subst (λ b. P (now_of birth (g ++ ticked who upto to ∷ [])) b) (sym (whole_snoc p.edges p.caps (status p birth m) birth empty_table g (ticked who upto to)))
      (subst (λ u. P u (minutes_on now (to - now) (after_all g))) (there now to later ∙ sym (now_snoc birth g (ticked who upto to))) at_to))
      t (omega (arith, ltb-false t to q, now_snoc birth g (ticked who upto to))))
    where
      there : (n t : ℕ) → n < t → n + (t - n) ≡ t
      there n t le = omega (arith, le)

      so_many : (n j : ℕ) → n + j - n ≡ j
      so_many n j = omega arith
  step who (Ask actor request reply) es g on is steps known t le =
      let now : ℕ = now_of birth g in
      let e : Entry = asked who actor request reply in
      let o : Onward birth g = front g (e ∷ es) is in
      let all : after_all (g ++ e ∷ []) ≡ applied now actor request reply (after_all g) = whole_snoc p.edges p.caps (status p birth m) birth empty_table g e in
      let stays : now_of birth (g ++ e ∷ []) ≡ now = now_snoc birth g e in
      let o' : Onward birth (g ++ e ∷ []) = front (g ++ e ∷ []) es (append_assoc g (e ∷ []) es ∙ is) in
      let next : table_at p birth m (g ++ e ∷ []) now ≡ applied now actor request reply (after_all g) =
      ap (λ u. table_at p birth m (g ++ e ∷ []) u) (sym stays) ∙ at_now (g ++ e ∷ []) o' ∙ all in
      on (append_assoc g (e ∷ []) es ∙ is) steps.1
      (subst (λ b. P (now_of birth (g ++ e ∷ [])) b) (sym all)
      (subst (λ u. P u (applied now actor request reply (after_all g))) (sym stays)
      (asks g es who actor request reply (after_all g) is steps.0 (at_now g o) next known)))
      t (omega (arith, le, stays))

  go : (es g : List Entry) → Goes g es
  go [] g is steps known t le =
      let o : Onward birth g = front g [] is in
      holds_at (now_of birth g) t (after_all g) (reaches birth g o) le
      (λ u a b. ap (λ k. table_at p birth m k u) (sym is ∙ append-nil g) ∙ at_or_after g o u a) known
  go (e ∷ es) g is steps known t le = step e.who e.what es g (go es (g ++ e ∷ [])) is steps known t le

  pub along : (t : ℕ) → birth ≤ t → P t (table_at p birth m h t)
  along t le = go h [] refl legal start t le
