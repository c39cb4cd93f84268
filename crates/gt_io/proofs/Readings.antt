-- Readings one after another.
use Rattle.std.proofs.Common.{◌≡◌, ℕ, ◌+◌, List, [], ◌∷◌, ◌++◌, Some, None, refl, sym, ◌∙◌}
use Rattle.std.specs.declared.option.Option.{Option}
use Rattle.gt_io.specs.Links.{BeginsWith, Reads}

same_first : (f g : ℕ → ℕ) (rs : List ℕ) (h : ℕ → ℕ) → ((k : ℕ) → f k ≡ g k) → BeginsWith g rs h → BeginsWith f rs h
same_first f g [] h same all = λ k. all k ∙ sym (same k)
same_first f g (r ∷ rs) h same all =
    (same 0 ∙ all.0, same_first (λ k. f (k + 1)) (λ k. g (k + 1)) rs h (λ k. same (k + 1)) all.1)

begins_trans : (f g h : ℕ → ℕ) (rs ss : List ℕ) → BeginsWith f rs g → BeginsWith g ss h → BeginsWith f (rs ++ ss) h
begins_trans f g h [] ss a b = same_first f g ss h (λ k. sym (a k)) b
begins_trans f g h (r ∷ rs) ss a b = (a.0, begins_trans (λ k. f (k + 1)) g h rs ss a.1 b)

pub Reads-nil : (a : Option (ℕ → ℕ)) → Reads a a []
Reads-nil None = tt
Reads-nil (Some f) = λ k. refl

pub Reads-trans : (a b c : Option (ℕ → ℕ)) (rs ss : List ℕ) → Reads a b rs → Reads b c ss → Reads a c (rs ++ ss)
Reads-trans None b c rs ss x y = tt
Reads-trans (Some f) None c rs ss x y = absurd x
Reads-trans (Some f) (Some g) None rs ss x y = absurd y
Reads-trans (Some f) (Some g) (Some h) rs ss x y = begins_trans f g h rs ss x y
