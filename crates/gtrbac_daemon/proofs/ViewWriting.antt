-- The first number above a length, and the log with a line after it.
use Rattle.std.proofs.Common.{◌≡◌, ℕ, Bool, true, false, List, [], ◌∷◌, ◌++◌, length, Option, Some, None, inl, inr, refl, sym, ap, subst, ◌∙◌, append-nil}
use Rattle.std.specs.Prelude.{◌==◌, nat_lt, if◌then◌else◌}
use Rattle.std.proofs.KnownBytes.{Appends-trans}
use Rattle.gt_base.specs.declared.requests.Entry.{Entry}
use Rattle.gt_io.specs.Causes.{Rose}
use Rattle.policy_words.specs.Naming.{NamedPolicy}
use Rattle.policy_commands.specs.Ends.{ending}
use Rattle.request_text.specs.Replies.{log_text}
use Rattle.policy_commands.specs.Printing.{IsPrinted}
use Rattle.gtrbac_daemon.specs.Runs.{IsWritten}
use Rattle.gtrbac_daemon.proofs.Paging.{part_first, part_second}
use Rattle.gtrbac_daemon.specs.Views.{first_above, late_line, views_text}

-- an option that is not Some is None
pub no_some : (o : Option ℕ) → ((x : ℕ) → o ≡ Some x → ⊥) → o ≡ None
no_some (Some x) n = absurd (n x refl)
no_some None n = refl

-- the first that is there
abbrev pub or_else : Option ℕ → Option ℕ → Option ℕ
or_else (Some n) o = Some n
or_else None o = o

above_by : (b : Bool) (x : ℕ) (o p q : Option ℕ) → o ≡ or_else p q → (if b then Some x else o) ≡ or_else (if b then Some x else p) q
above_by true x o p q e = refl
above_by false x o p q e = e

above-append : (len : ℕ) (xs ys : List ℕ) → first_above len (xs ++ ys) ≡ or_else (first_above len xs) (first_above len ys)
above-append len [] ys = refl
above-append len (x ∷ xs) ys = above_by (nat_lt len x) x (first_above len (xs ++ ys)) (first_above len xs) (first_above len ys) (above-append len xs ys)

-- of a list in two parts, where the first part has one above, and where it has none
pub found_here : (len n : ℕ) (whole xs ys : List ℕ) → first_above len whole ≡ first_above len (xs ++ ys) → Some n ≡ first_above len xs → Some n ≡ first_above len whole
found_here len n whole xs ys all e = (ap (λ (o : Option ℕ). or_else o (first_above len ys)) e ∙ sym (above-append len xs ys)) ∙ sym all

pub found_later : (len : ℕ) (whole xs ys : List ℕ) → first_above len whole ≡ first_above len (xs ++ ys) → first_above len xs ≡ None → first_above len whole ≡ first_above len ys
found_later len whole xs ys all e = all ∙ (above-append len xs ys ∙ ap (λ (o : Option ℕ). or_else o (first_above len ys)) e)

fourteen_not : (s n : ℕ) → (n == 14) ≡ false → s ≡ n → s ≡ 14 → ⊥
fourteen_not s n d e is = let no : true ≡ false = ap (λ (k : ℕ). k == 14) (sym is ∙ e) ∙ d in absurd (cc no)

module _ (log line : List ℕ) (s t : ℕ) (old mid new : Option (List ℕ)) (f0 f1 f2 : ℕ) where
  -- the line after a log that was written whole
  pub written_on : s ≡ 14 → IsWritten 14 log s old mid f0 f1 → IsPrinted t (ending 14 line) mid new f1 f2 → IsWritten 14 (log ++ line) t old new f0 f2
  written_on is (inl w) (inl p) = inl (p.0, Appends-trans old mid new log line w.1 p.1, p.2 ∙ w.2)
  written_on is (inl w) (inr p) = inr (p.0, subst (λ (f : ℕ). Rose f f2) w.2 p.1, part_second old mid new log line w.1 p.2)
  written_on is (inr w) p = absurd (fourteen_not s 5 refl w.0 is)

  -- no line after one that was not
  pub written_short : (s ≡ 14 → ⊥) → IsWritten 14 log s old mid f0 f1 → IsWritten 14 (log ++ line) s old mid f0 f1
  written_short not (inl w) = absurd (not w.0)
  written_short not (inr w) = inr (w.0, w.1, part_first old mid log line w.2)

module _ (np : NamedPolicy) (birth : ℕ) (h : List Entry) where
  -- the text by whether 14 is due, and by the number
  text_by : (b : Bool) (late : Option ℕ) → ((b ≡ true) → late ≡ None) → (if b then log_text np birth h ++ late_line late (length h) else log_text np birth h) ≡ log_text np birth h
  text_by true late none = ap (λ (o : Option ℕ). log_text np birth h ++ late_line o (length h)) (none refl) ∙ append-nil (log_text np birth h)
  text_by false late none = refl

  -- without a number, or where another status is due, it is the log
  pub plain_text : (due : ℕ) (late : Option ℕ) → ((due == 14) ≡ true → late ≡ None) → views_text np birth h due late ≡ log_text np birth h
  plain_text due late none = text_by (due == 14) late none
