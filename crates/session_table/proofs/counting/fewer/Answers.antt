use Rattle.std.proofs.Common.{◌≡◌, ℕ, ◌+◌, ◌-◌, Bool, true, false, cond, List, Option, Some, None, refl, sym, ap, ◌∙◌, arith}
use Rattle.std.specs.Prelude.{unwrap_or}
use Rattle.std.specs.Map.{lookup}
use Rattle.session_table.specs.declared.counting.Holder.{Holder}
use Rattle.session_table.specs.contracts.counting.HolderEq.TheImpl.Laws.{laws-law}
use Rattle.session_table.specs.Counting.{counted, holder_eq}
use Rattle.session_table.proofs.counting.fewer.Goals as goal

-- of the holder one is counted less, and of others as many
one_less : (old new : List (Holder × ℕ)) (holder : Holder) (left : Option ℕ) → counted old holder ≡ unwrap_or left 0 + 1 → ((h : Holder) → lookup (holder_eq h) new ≡ cond (holder_eq holder h) left (lookup (holder_eq h) old)) → (h : Holder)
    → counted old h ≡ counted new h + cond (holder_eq holder h) 1 0
one_less old new holder left is updates h = by (holder_eq holder h) refl (updates h)
  where
    by : (b : Bool) → holder_eq holder h ≡ b → lookup (holder_eq h) new ≡ cond b left (lookup (holder_eq h) old) → counted old h ≡ counted new h + cond b 1 0
    by true same row =
        sym (ap (λ (test : Holder → Bool). unwrap_or (lookup test old) 0) (λ i z. laws-law.congr holder h z same i))
        ∙ is
        ∙ ap (λ (o : Option ℕ). unwrap_or o 0 + 1) (sym row)
    by false other row =
        let kept : counted new h ≡ counted old h = ap (λ (o : Option ℕ). unwrap_or o 0) row in
        omega (arith, kept)

pub returns-then-before-eq1 : goal.returns-then-before-eq1
returns-then-before-eq1 c =
    one_less c.args.counts.now.entries c.swap_remove.new.self.entries c.args.holder None (sym c.counted-before.ensures ∙ c.if-before-eq1.true) c.swap_remove.ensures.updates.0

pub returns : goal.returns
returns c =
    one_less c.args.counts.now.entries c.insert.new.self.entries c.args.holder (Some (c.counted-before.result - 1)) (omega (arith, c.counted-before.ensures, c.requires)) c.in-Ok.ensures.updates.0
