-- Lists of posts.
use Rattle.std.proofs.Common.{◌≡◌, ℕ, zero, suc, ◌<◌, List, [], ◌∷◌, reverse, length, get_or, sym, refl, ap, ◌∙◌, subst, arith, None}
use Rattle.turn_lock.specs.Holders.{Site, Lock, Holder, site_of, HasNumber, AreIdle}
use Rattle.turn_lock.proofs.PassLists.{each_reverse, numbers, numbers_reverse, has_same}
use Rattle.desk_checks.specs.declared.posts.DeskPost.{DeskPost}
use Rattle.desk_checks.specs.Posts.{IsFree, IsBack}
use Rattle.desk_checks.specs.PostLists.{passes_of}

module _ {M : Type 0} where
  pub each_at : (site : Site M) (xs : List (DeskPost M)) → AreIdle site (passes_of xs) → (k : ℕ) (d : DeskPost M) → k < length xs → IsFree site (get_or xs k d).pass
  each_at site [] e k d low = absurd (omega arith)
  each_at site (x ∷ xs) e zero d low = e.0
  each_at site (x ∷ xs) e (suc k) d low = each_at site xs e.1 k d (omega arith)

  -- what holds of the posts at each place holds of their lists
  pub all_back : (site : Site M) (xs ys : List (DeskPost M)) → length ys ≡ length xs → ((i : ℕ) (d : DeskPost M) → i < length xs → IsBack site (get_or xs i d).pass (get_or ys i d).pass)
      → AreIdle site (passes_of ys) × (numbers (passes_of ys) ≡ numbers (passes_of xs))
  all_back site [] [] e h = (tt, refl)
  all_back site [] (y ∷ ys) e h = absurd (omega arith)
  all_back site (x ∷ xs) [] e h = absurd (omega arith)
  all_back site (x ∷ xs) (y ∷ ys) e h = let one = h 0 x (omega arith) in let more = all_back site xs ys (omega arith) (λ i d low. h (suc i) d (omega arith)) in
      ((one.0, more.0), λ i. one.1 i ∷ more.1 i)

  -- none of the passes that come back from posts is missing
  pub none_missing : (l : Lock M) (n : ℕ) (ps qs : List (Holder M)) (xs ys : List (DeskPost M)) → reverse (passes_of xs) ≡ ps → qs ≡ reverse (passes_of ys) → ((m : ℕ) → m < n → HasNumber m ps)
      → AreIdle (site_of l) (passes_of ys) × (numbers (passes_of ys) ≡ numbers (passes_of xs)) → AreIdle (site_of l) qs × ((m : ℕ) → m < n → HasNumber m qs)
  none_missing l n ps qs xs ys is is' all alike =
      let same : numbers ps ≡ numbers qs = ap numbers (sym is) ∙ (numbers_reverse (passes_of xs) ∙ (ap (λ (ks : List ℕ). reverse ks) (sym alike.1) ∙ (sym (numbers_reverse (passes_of ys)) ∙ ap numbers (sym is')))) in (
        subst (AreIdle (site_of l)) (sym is') (each_reverse (λ p. (p.site ≡ site_of l) × (p.turn ≡ None)) (passes_of ys) alike.0),
        λ m low. has_same m ps qs same (all m low),
      )
