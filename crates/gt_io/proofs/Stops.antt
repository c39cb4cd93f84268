-- Calls that fail or tell the end, and how their counts rise.
use Rattle.std.proofs.Common.{◌≡◌, ◌≤◌, ◌+◌, ℕ, zero, suc, refl, arith}
use Rattle.std.proofs.lemmas.Grind.{common_steps}
use Rattle.std.specs.Prelude.{◌==◌, if◌then◌else◌}
use Rattle.gt_io.specs.Memory.{one_more}
use Rattle.gt_io.specs.Shelf.{Stock, AsksOnce}

pub counted_end : (n e f : ℕ) → (n ≡ 0 → f ≡ one_more e) → ((n ≡ 0 → ⊥) → f ≡ e) → f ≡ (if n == 0 then one_more e else e)
counted_end zero e f end more = end refl
counted_end (suc n) e f end more = grind (arith, common_steps, more (λ is. cc (is)))

-- the last of several reads, of which none before has failed or told the end
pub stops_failed : (f0 e0 f1 e1 f2 e2 : ℕ) → f1 ≡ f0 → e1 ≡ e0 → f2 ≤ f1 + 1 → e2 ≡ e1 → f2 + e2 ≤ f0 + e0 + 1
stops_failed f0 e0 f1 e1 f2 e2 kept none once same = omega (arith, kept, none, once, same)

pub stops_ended : (f0 e0 f1 e1 f2 e2 : ℕ) → f1 ≡ f0 → e1 ≡ e0 → f2 ≡ f1 → e2 ≡ one_more e1 → f2 + e2 ≤ f0 + e0 + 1
stops_ended f0 e0 f1 e1 f2 e2 kept none same told = omega (arith, kept, none, same, told)

pub stops_none : (f0 e0 f1 e1 f2 e2 : ℕ) → f1 ≡ f0 → e1 ≡ e0 → f2 ≡ f1 → e2 ≡ e1 → f2 + e2 ≤ f0 + e0 + 1
stops_none f0 e0 f1 e1 f2 e2 kept none same more = omega (arith, kept, none, same, more)

one_at_most : (a b c : ℕ) → b ≡ one_more a → c ≡ b → c ≤ a + 1
one_at_most a b c e same = omega (arith, e, same)

-- the same of a shelf that was asked for one text before
module _ (o l n : Stock) (asked : l.asked ≡ one_more o.asked) (more : n.asked ≡ l.asked) (kept : l.faults ≡ o.faults) (none : l.ends ≡ o.ends) where
  pub asks_failed : n.faults ≤ l.faults + 1 → n.ends ≡ l.ends → AsksOnce o n
  asks_failed once same = record { one = one_at_most o.asked l.asked n.asked asked more; stopped = stops_failed _ _ _ _ _ _ kept none once same }

  pub asks_ended : n.faults ≡ l.faults → n.ends ≡ one_more l.ends → AsksOnce o n
  asks_ended same told = record { one = one_at_most o.asked l.asked n.asked asked more; stopped = stops_ended _ _ _ _ _ _ kept none same told }

  pub asks_none : n.faults ≡ l.faults → n.ends ≡ l.ends → AsksOnce o n
  asks_none same told = record { one = one_at_most o.asked l.asked n.asked asked more; stopped = stops_none _ _ _ _ _ _ kept none same told }

-- a search that fails
pub search_failed : (o n : Stock) → n.asked ≡ one_more o.asked → n.faults ≤ o.faults + 1 → n.ends ≡ o.ends → AsksOnce o n
search_failed o n asked once same = record { one = one_at_most o.asked n.asked n.asked asked refl; stopped = stops_failed _ _ _ _ _ _ refl refl once same }
