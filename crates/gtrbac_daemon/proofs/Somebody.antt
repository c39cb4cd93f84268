-- Those who serve, before and after, and what is told of some or of each of them.
use Rattle.std.proofs.Common.{◌≡◌, ◌≤◌, Bool, true, false, List, [], ◌∷◌, ◌++◌, length, map, inl, inr, refl, ◌∙◌, arith}
use Rattle.std.specs.Prelude.{◌||◌}
use Rattle.std.specs.List.{list_any}
use Rattle.gtrbac_model.proofs.Elements.{either_true, left_true, right_true}
use Rattle.turn_lock.specs.Turns.{Each}
use Rattle.core_machine.proofs.Growing.{both_false}
use Rattle.gtrbac_daemon.specs.Crew.{SomeOf, EachOf}

none_on : (a b : Bool) → a ≡ false → b ≡ false → (a || b) ≡ false
none_on a b e f = (λ i. e i || b) ∙ f

-- over how each of them ended, and a test of that
module _ {A E : Type 0} (end : A → E) (test : E → Bool) where
  -- where the test holds of some end, that one is told of
  pub some_by : (Did P : A → A → Type 0) → ((j k : A) → Did j k → test (end k) ≡ true → P j k) → (js ks : List A) → EachOf Did js ks → list_any test (map end ks) ≡ true → SomeOf P js ks
  some_by Did P one [] [] all e = absurd (cc e)
  some_by Did P one [] (k ∷ ks) all e = absurd all
  some_by Did P one (j ∷ js) [] all e = absurd all
  some_by Did P one (j ∷ js) (k ∷ ks) all e =
      elim (either_true (test (end k)) (list_any test (map end ks)) e) [ inl on ↦ inl (one j k all.0 on) | inr more ↦ inr (some_by Did P one js ks all.1 more) ]

  -- where it holds of none, each is told of
  pub each_by : (Did P : A → A → Type 0) → ((j k : A) → Did j k → test (end k) ≡ false → P j k) → (js ks : List A) → EachOf Did js ks → list_any test (map end ks) ≡ false → EachOf P js ks
  each_by Did P one [] [] all e = tt
  each_by Did P one [] (k ∷ ks) all e = absurd all
  each_by Did P one (j ∷ js) [] all e = absurd all
  each_by Did P one (j ∷ js) (k ∷ ks) all e = let off = both_false (test (end k)) (list_any test (map end ks)) e in (one j k all.0 off.0, each_by Did P one js ks all.1 off.1)

  -- and the other way
  pub any_by : (P : A → A → Type 0) → ((j k : A) → P j k → test (end k) ≡ true) → (js ks : List A) → SomeOf P js ks → list_any test (map end ks) ≡ true
  any_by P one [] ks some = absurd some
  any_by P one (j ∷ js) [] some = absurd some
  any_by P one (j ∷ js) (k ∷ ks) (inl on) = left_true (test (end k)) (list_any test (map end ks)) (one j k on)
  any_by P one (j ∷ js) (k ∷ ks) (inr more) = right_true (test (end k)) (list_any test (map end ks)) (any_by P one js ks more)

  pub none_by : (P : A → A → Type 0) → ((j k : A) → P j k → test (end k) ≡ false) → (js ks : List A) → EachOf P js ks → list_any test (map end ks) ≡ false
  none_by P one [] [] all = refl
  none_by P one [] (k ∷ ks) all = absurd all
  none_by P one (j ∷ js) [] all = absurd all
  none_by P one (j ∷ js) (k ∷ ks) all = none_on (test (end k)) (list_any test (map end ks)) (one j k all.0) (none_by P one js ks all.1)

module _ {A : Type 0} where
  -- of two lists, one behind the other
  pub each_both : (P : A → A → Type 0) (js ks us vs : List A) → EachOf P js ks → EachOf P us vs → EachOf P (js ++ us) (ks ++ vs)
  each_both P [] [] us vs a b = b
  each_both P [] (k ∷ ks) us vs a b = absurd a
  each_both P (j ∷ js) [] us vs a b = absurd a
  each_both P (j ∷ js) (k ∷ ks) us vs a b = (a.0, each_both P js ks us vs a.1 b)

  pub both_of : (P Q : A → A → Type 0) (js ks : List A) → EachOf P js ks → EachOf Q js ks → EachOf (λ j k. P j k × Q j k) js ks
  both_of P Q [] [] a b = tt
  both_of P Q [] (k ∷ ks) a b = absurd a
  both_of P Q (j ∷ js) [] a b = absurd a
  both_of P Q (j ∷ js) (k ∷ ks) a b = ((a.0, b.0), both_of P Q js ks a.1 b.1)

  -- nothing that asks for a begin is told of those who have not begun
  pub some_idle : (Idle : A → Type 0) (P : A → A → Type 0) → ((j k : A) → Idle k → P j k → ⊥) → (js ks : List A) → Each Idle ks → SomeOf P js ks → ⊥
  some_idle Idle P one [] ks idle some = some
  some_idle Idle P one (j ∷ js) [] idle some = some
  some_idle Idle P one (j ∷ js) (k ∷ ks) idle (inl on) = one j k idle.0 on
  some_idle Idle P one (j ∷ js) (k ∷ ks) idle (inr more) = some_idle Idle P one js ks idle.1 more

  pub each_idle : (Idle : A → Type 0) (P : A → A → Type 0) → ((j k : A) → Idle k → P j k → ⊥) → (js ks : List A) → 1 ≤ length ks → Each Idle ks → EachOf P js ks → ⊥
  each_idle Idle P one js [] some idle all = absurd (omega (arith, some))
  each_idle Idle P one [] (k ∷ ks) some idle all = absurd all
  each_idle Idle P one (j ∷ js) (k ∷ ks) some idle all = one j k idle.0 all.0
