-- The same moves lead to the same entries of a safe policy, also one by one behind the same beginning.
use Rattle.std.proofs.Common.{◌≡◌, ℕ, ◌<◌, ◌≤◌, Bool, true, false, List, [], ◌∷◌, ◌++◌, length, map, ◌⊎◌, inl, inr, refl, sym, ◌∙◌, ap, subst, arith, append_assoc, length-append, MatchBool}
use Rattle.std.proofs.lemmas.Bool.{leb-true}
use Rattle.std.specs.Prelude.{nat_le}
use Rattle.gt_base.specs.Machines.{ticked}
use Rattle.gt_base.specs.declared.requests.Entry.{Entry}
use Rattle.gt_base.specs.declared.requests.Step.{Step}
use Rattle.gt_base.specs.declared.requests.Step.TheVariants.{Tick, Ask}
use Rattle.gt_base.specs.declared.limits.TheConstants.{MAX_STEPS}
use Rattle.gtrbac_model.specs.Policy.{Policy}
use Rattle.gtrbac_model.specs.Safety.{IsSafe}
use Rattle.gtrbac_model.specs.Status.{Model}
use Rattle.gtrbac_model.specs.History.{Legal, AreLegalAfter, IsLegalStep, now_of, moved, Wish, tick, ask, Move, IsMadeOf, is_idle, AreMadeOf}
use Rattle.gtrbac_model.specs.Theorems.{PlaysOnce}
use Rattle.gtrbac_model.proofs.Append.{append-nil}
use Rattle.gtrbac_model.proofs.Levels.{by_trigger}
use Rattle.gtrbac_model.proofs.Playing.{now_snoc, plays_once}
use Rattle.walk_laws.proofs.Climbing.{safe_is_levelled}
use Rattle.history_laws.proofs.Lasting.{steps_after, front_steps, of_longer}
use Rattle.gtrbac_tool.specs.Script.{scripts_who, AreTicks}

-- the move that an entry answers

abbrev pub wish_of : Step → Wish
wish_of (Tick upto to) = tick upto
wish_of (Ask actor request reply) = ask actor request

abbrev pub move_of : Entry → Move
move_of e = record { who = e.who; what = wish_of e.what }

last_same : {A : Type 0} (g : List A) (a b : A) → g ++ a ∷ [] ≡ g ++ b ∷ [] → a ≡ b
last_same [] a b h = cc (h)
last_same (x ∷ g) a b h = last_same g a b (cc (h))

module _ (p : Policy) (birth : ℕ) where
  made_of : (s : Step) → IsMadeOf (wish_of s) s
  made_of (Tick upto to) = refl
  made_of (Ask actor request reply) = (refl, refl)

  not_idle : (now upto : ℕ) → now < upto → (b : Bool) → nat_le upto now ≡ b → b ≡ false
  not_idle now upto lt false e = refl
  not_idle now upto lt true e = absurd (omega (arith, lt, leb-true upto now e))

  busy : (m : Model) (g : List Entry) (s : Step) → IsLegalStep p birth m g s → is_idle (now_of birth g) (wish_of s) ≡ false
  busy m g (Tick upto to) h = not_idle (now_of birth g) upto (omega (arith, h.later, h.bounded)) (nat_le upto (now_of birth g)) refl
  busy m g (Ask actor request reply) h = refl

  pub made : (m : Model) (g h : List Entry) → AreLegalAfter p birth m g h → AreMadeOf (now_of birth g) (map move_of h) h
  made m g [] legal = tt
  made m g (e ∷ es) legal =
      let rest : AreMadeOf (moved (now_of birth g) e.what) (map move_of es) es = subst (λ (n : ℕ). AreMadeOf n (map move_of es) es) (now_snoc birth g e) (made m (g ++ e ∷ []) es legal.1) in
      subst (λ (b : Bool). MatchBool b (AreMadeOf (now_of birth g) (map move_of es) (e ∷ es)) ((e.who ≡ e.who) × IsMadeOf (wish_of e.what) e.what × AreMadeOf (moved (now_of birth g) e.what) (map move_of es) es))
      (sym (busy m g e.what legal.0)) (refl, made_of e.what, rest)

  pub front_legal : (m : Model) (h further : List Entry) → Legal p birth (h ++ further) m → Legal p birth h m
  front_legal m h further legal = record { model = of_longer p birth m h further legal; steps = front_steps p birth m [] h further legal.steps }

  pub step_legal : (m : Model) (g : List Entry) (e : Entry) (r : List Entry) → Legal p birth (g ++ e ∷ r) m → IsLegalStep p birth m g e.what
  step_legal m g e r legal = (steps_after p birth m [] g (e ∷ r) legal.steps).0

  module _ (safe : IsSafe p.triggers) where
    pub once : (moves : List Move) → PlaysOnce p birth moves
    once moves = let levels = safe_is_levelled p.triggers safe in plays_once p birth levels.0 (by_trigger p.triggers levels.0 levels.1) moves

    pub same_moves : (m n : Model) (h k : List Entry) → Legal p birth h m → Legal p birth k n → map move_of h ≡ map move_of k → h ≡ k
    same_moves m n h k lh lk moves =
        let one = once (map move_of k) in
        let of_h = one.only h m (record { legal = lh; made = subst (λ (qs : List Move). AreMadeOf birth qs h) moves (made m [] h lh.steps) }) in
        let of_k = one.only k n (record { legal = lk; made = made n [] k lk.steps }) in
        of_h.0 ∙ sym of_k.0

    map_last : (g : List Entry) (e e' : Entry) → move_of e ≡ move_of e' → map move_of (g ++ e ∷ []) ≡ map move_of (g ++ e' ∷ [])
    map_last [] e e' same = λ i. same i ∷ []
    map_last (x ∷ g) e e' same = ap (λ (qs : List Move). move_of x ∷ qs) (map_last g e e' same)

    -- the same move after the same entries
    pub next_same : (m n : Model) (g r r' : List Entry) (e e' : Entry) → Legal p birth (g ++ e ∷ r) m → Legal p birth (g ++ e' ∷ r') n → move_of e ≡ move_of e' → e ≡ e'
    next_same m n g r r' e e' le le' same =
        last_same g e e'
        (same_moves m n (g ++ e ∷ []) (g ++ e' ∷ [])
        (front_legal m (g ++ e ∷ []) r (subst (λ (k : List Entry). Legal p birth k m) (sym (append_assoc g (e ∷ []) r)) le))
        (front_legal n (g ++ e' ∷ []) r' (subst (λ (k : List Entry). Legal p birth k n) (sym (append_assoc g (e' ∷ []) r')) le'))
        (map_last g e e' same))

-- ticks with a bound that lead there, or fill the history

abbrev pub IsDone : ℕ → ℕ → List Entry → Type 0
IsDone birth minute h = (minute ≤ now_of birth h) ⊎ (length h ≡ MAX_STEPS)

module _ (p : Policy) (birth minute : ℕ) where
  -- behind a history that is done no tick more is legal and short
  none_more : (m : Model) (g es r : List Entry) (e : Entry) → ((to : ℕ) × (e ≡ ticked scripts_who minute to)) → Legal p birth (g ++ e ∷ r) m → IsDone birth minute g → length (g ++ e ∷ es) ≤ MAX_STEPS → ⊥
  none_more m g es r e is legal (inl there) short =
      let stop : IsLegalStep p birth m g (ticked scripts_who minute is.0).what = subst (λ (x : Entry). IsLegalStep p birth m g x.what) is.1 (step_legal p birth m g e r legal) in
      omega (arith, stop.later, stop.bounded, there)
  none_more m g es r e is legal (inr full) short = omega (arith, full, short, length-append g (e ∷ es))

  module _ (safe : IsSafe p.triggers) where
    pub ticks_same : (m n : Model) (ts ts' g r r' : List Entry) → AreTicks minute ts → AreTicks minute ts'
        → Legal p birth (g ++ (ts ++ r)) m → Legal p birth (g ++ (ts' ++ r')) n → IsDone birth minute (g ++ ts) → IsDone birth minute (g ++ ts')
        → length (g ++ ts) ≤ MAX_STEPS → length (g ++ ts') ≤ MAX_STEPS → ts ≡ ts'
    ticks_same m n [] [] g r r' a a' l l' d d' s s' = refl
    ticks_same m n [] (e' ∷ es') g r r' a a' l l' d d' s s' =
        absurd (none_more n g es' (es' ++ r') e' a'.0 l' (subst (λ (k : List Entry). IsDone birth minute k) (append-nil g) d) s')
    ticks_same m n (e ∷ es) [] g r r' a a' l l' d d' s s' =
        absurd (none_more m g es (es ++ r) e a.0 l (subst (λ (k : List Entry). IsDone birth minute k) (append-nil g) d') s)
    ticks_same m n (e ∷ es) (e' ∷ es') g r r' a a' l l' d d' s s' =
        let first : e ≡ e' = next_same p birth safe m n g (es ++ r) (es' ++ r') e e' l l' (ap move_of a.0.1 ∙ sym (ap move_of a'.0.1)) in
        let again : (x : Entry) (xs : List Entry) → g ++ x ∷ xs ≡ (g ++ x ∷ []) ++ xs = λ x xs. sym (append_assoc g (x ∷ []) xs) in
        let from : (xs : List Entry) → g ++ e' ∷ xs ≡ (g ++ e ∷ []) ++ xs = λ xs. again e' xs ∙ ap (λ (x : Entry). (g ++ x ∷ []) ++ xs) (sym first) in
        let rest : es ≡ es' = ticks_same m n es es' (g ++ e ∷ []) r r' a.1 a'.1
        (subst (λ (k : List Entry). Legal p birth k m) (again e (es ++ r)) l)
        (subst (λ (k : List Entry). Legal p birth k n) (from (es' ++ r')) l')
        (subst (λ (k : List Entry). IsDone birth minute k) (again e es) d)
        (subst (λ (k : List Entry). IsDone birth minute k) (from es') d')
        (subst (λ (k : List Entry). length k ≤ MAX_STEPS) (again e es) s)
        (subst (λ (k : List Entry). length k ≤ MAX_STEPS) (from es') s') in
        λ i. first i ∷ rest i
