-- Traces, tables and histories that grow.
use Rattle.std.proofs.Common.{◌≡◌, ℕ, ◌+◌, ◌<◌, ◌≤◌, Bool, true, false, ◌||◌, nat_eq, nat_le, nat_lt, List, [], ◌∷◌, ◌++◌, length, Option, Some, None, is_some, is_none, filter, cond, refl, sym, ◌∙◌, ap, arith, length-append, if◌then◌else◌}
use Rattle.std.specs.List.{list_any}
use Rattle.std.proofs.lemmas.Bool.{leb-true, leb-false, eqb-true, eqb-false, ltb-true, ltb-false}
use Rattle.gt_base.specs.Happening.{HappenedView, nothing}
use Rattle.gt_base.specs.declared.requests.Entry.{Entry}
use Rattle.gtrbac_model.specs.Policy.{Policy}
use Rattle.gtrbac_model.specs.Base.{base_at, when, requested}
use Rattle.gtrbac_model.specs.History.{is_some_item, now_of}
use Rattle.gtrbac_model.specs.Status.{Model}
use Rattle.gtrbac_model.proofs.Append.{append-nil, base_stays}
use Rattle.gtrbac_model.proofs.Elements.{split}
use Rattle.gtrbac_model.proofs.OneModel.{Agree, base_same}
use Rattle.history_laws.specs.Ticking.{with_set}
use Rattle.instant_bases.specs.Timelines.{ClosedSet}
use Rattle.time_engine.specs.Traces.{model_of, is_something, traced, Ascends, AreClosedBy}
use Rattle.time_engine.proofs.HistoryLaws.{more_before, more_at, more_between, nothing_there}
use Rattle.time_engine.proofs.TraceLaws.{model_past, model_before, model_there}
use Rattle.core_machine.specs.Books.{HasBases}
use Rattle.history_laws.specs.Named.{AreNamed, IsNamedStep}

pub clash : {A : Type 0} (b : Bool) → b ≡ true → b ≡ false → A
clash b p q = let e : true ≡ false = sym p ∙ q in cc

pub both_false : (a b : Bool) → (a || b) ≡ false → (a ≡ false) × (b ≡ false)
both_false true b e = cc
both_false false b e = (refl, e)

pub not_none : {A : Type 0} (o : Option A) → is_some o ≡ true → is_none o ≡ false
not_none None e = cc
not_none (Some x) e = refl

-- where some item passes, those that pass a weaker test are not none
pub some_pass : {A : Type 0} (p q : A → Bool) (xs : List A) → ((x : A) → p x ≡ true → q x ≡ true) → list_any p xs ≡ true → is_some_item (filter q xs) ≡ true
some_pass p q [] weaker e = cc
some_pass p q (x ∷ xs) weaker e =
    split (q x)
    (λ y. ap (λ b. is_some_item (cond b (x ∷ filter q xs) (filter q xs))) y)
    (λ n. ap (λ b. is_some_item (cond b (x ∷ filter q xs) (filter q xs))) n ∙ some_pass p q xs weaker (later (p x) (λ y. clash (q x) (weaker x y) n) e))
  where
    later : (b : Bool) → (b ≡ true → ⊥) → (b || list_any p xs) ≡ true → list_any p xs ≡ true
    later true never e = absurd (never refl)
    later false never e = e

pub named_more : (p : Policy) (h : List Entry) (e : Entry) → AreNamed p h → IsNamedStep p e.what → AreNamed p (h ++ e ∷ [])
named_more p [] e a n = (n, tt)
named_more p (x ∷ h) e a n = (a.0, named_more p h e a.1 n)

pub one_more : (h : List Entry) (e : Entry) → length (h ++ e ∷ []) ≡ length h + 1
one_more h e = length-append h (e ∷ [])

pub bases_more : (p : Policy) (birth : ℕ) (m : Model) (h : List Entry) (cs ds : List ClosedSet) → HasBases p birth m h cs → HasBases p birth m h ds → HasBases p birth m h (cs ++ ds)
bases_more p birth m h [] ds a b = b
bases_more p birth m h (c ∷ cs) ds a b = (a.0, bases_more p birth m h cs ds a.1 b)

pub bases_traced : (p : Policy) (birth : ℕ) (m : Model) (h : List Entry) (at : ℕ) (base set : HappenedView) → base ≡ base_at p birth m h at → HasBases p birth m h (traced at base set)
bases_traced p birth m h at base set is = by (is_something set)
  where
    by : (b : Bool) → HasBases p birth m h (when b (record { at = at; base = base; set = set }))
    by true = (is, tt)
    by false = tt

-- the bases of the sets so far are those of a history with one entry more, under a model that agrees up to now
pub bases_stay : (p : Policy) (birth : ℕ) (m n : Model) (h : List Entry) (e : Entry) (now : ℕ) → now ≡ now_of birth h → Agree p birth m n now
    → ((t : ℕ) → t ≤ now → requested (e ∷ []) t ≡ []) → (low : ℕ) (cs : List ClosedSet) → birth ≤ low → Ascends low cs → AreClosedBy now cs → HasBases p birth m h cs → HasBases p birth n (h ++ e ∷ []) cs
bases_stay p birth m n h e now is same unasked low [] le rises ends bases = tt
bases_stay p birth m n h e now is same unasked low (c ∷ cs) le rises ends bases = (
  bases.0 ∙ base_same p birth m n c.at h (λ u a b. same u a (omega (arith, b, ends.0)))
      ∙ sym (base_stays p birth n h e c.at (omega (arith, le, rises.0)) (omega (arith, ends.0, is)) (unasked c.at ends.0)),
  bases_stay p birth m n h e now is same unasked c.at cs (omega (arith, le, rises.0)) rises.1 ends.1 bases.1,
)

-- at the birth nothing happened
pub none_at_birth : (low : ℕ) (cs : List ClosedSet) (t : ℕ) → t ≤ low → Ascends low cs → model_of cs t ≡ nothing
none_at_birth low [] t le rises = refl
none_at_birth low (c ∷ cs) t le rises =
    let apart : nat_eq c.at t ≡ false = split (nat_eq c.at t) (λ y. absurd (omega (arith, le, rises.0, eqb-true c.at t y))) (λ n. n) in
    ap (λ b. if b then c.set else model_of cs t) apart ∙ none_at_birth c.at cs t (omega (arith, le, rises.0)) rises.1

-- the trace after a close stands for the model with one set more
pub model_grows : (cs : List ClosedSet) (now to : ℕ) (base x : HappenedView) → now < to → AreClosedBy now cs → with_set (model_of cs) now to x ≡ model_of (cs ++ traced to base x)
model_grows cs now to base x lt ends = λ i t. at t i
  where
    d : ClosedSet
    d = record { at = to; base = base; set = x }

    before : (t : ℕ) → t < to → model_of (cs ++ traced to base x) t ≡ model_of cs t
    before t le = by (is_something x)
      where
        by : (b : Bool) → model_of (cs ++ when b d) t ≡ model_of cs t
        by true = model_before cs d t le
        by false = ap (λ ds. model_of ds t) (append-nil cs)

    there : (b : Bool) → is_something x ≡ b → model_of (cs ++ when b d) to ≡ x
    there true q = model_there cs d now ends lt
    there false q = ap (λ ds. model_of ds to) (append-nil cs) ∙ model_past cs now to ends lt ∙ sym (nothing_there x q)

    after : (t : ℕ) → to < t → (b : Bool) → model_of (cs ++ when b d) t ≡ nothing
    after t late true = past cs t ends (omega (arith, late, lt)) late
      where
        past : (cs : List ClosedSet) (t : ℕ) → AreClosedBy now cs → now < t → to < t → model_of (cs ++ d ∷ []) t ≡ nothing
        past [] t ends a b = let apart : nat_eq to t ≡ false = split (nat_eq to t) (λ y. absurd (omega (arith, b, eqb-true to t y))) (λ n. n) in ap (λ b. if b then x else nothing) apart
        past (c ∷ cs) t ends a b =
            let apart : nat_eq c.at t ≡ false = split (nat_eq c.at t) (λ y. absurd (omega (arith, a, ends.0, eqb-true c.at t y))) (λ n. n) in
            ap (λ b. if b then c.set else model_of (cs ++ d ∷ []) t) apart ∙ past cs t ends.1 a b
    after t late false = ap (λ ds. model_of ds t) (append-nil cs) ∙ model_past cs now t ends (omega (arith, late, lt))

    at : (t : ℕ) → with_set (model_of cs) now to x t ≡ model_of (cs ++ traced to base x) t
    at t =
        split (nat_le t now)
        (λ q. let early : t ≤ now = leb-true t now q in sym (more_before (model_of cs) now to x t early) ∙ sym (before t (omega (arith, early, lt))))
        (λ q.
        let late : now < t = leb-false t now q in
        split (nat_lt t to)
        (λ s. let low : t < to = ltb-true t to s in more_between (model_of cs) now to x t late low ∙ sym (before t low ∙ model_past cs now t ends late))
        (λ s. let high : to ≤ t = ltb-false t to s in
        split (nat_eq t to)
        (λ r. let is : t ≡ to = eqb-true t to r in ap (with_set (model_of cs) now to x) is ∙ more_at (model_of cs) now to x lt ∙ sym (there (is_something x) refl) ∙ ap (model_of (cs ++ traced to base x)) (sym is))
        (λ r. ap (λ b. if b then model_of cs t else if nat_eq t to then x else nothing) q
        ∙ ap (λ b. if b then x else nothing) r
        ∙ sym (after t (past_to t high (eqb-false t to r)) (is_something x)))))
      where
        past_to : (t : ℕ) → to ≤ t → (t ≡ to → ⊥) → to < t
        past_to t le ne = split (nat_lt to t) (λ y. ltb-true to t y) (λ n. absurd (ne (omega (arith, le, ltb-false to t n))))
