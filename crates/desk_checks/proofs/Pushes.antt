-- A list one entry longer.
use Rattle.std.proofs.Common.{◌≡◌, ℕ, ◌+◌, List, [], ◌∷◌, ◌++◌, length, refl, subst, arith}
use Rattle.gt_base.specs.declared.requests.Entry.{Entry}
use Rattle.desk_checks.specs.Tallies.{now_from, MayStep, LegalFrom}
use Rattle.gtrbac_model.specs.History.{moved}

pub now_push : (now : ℕ) (es : List Entry) (e : Entry) → now_from now (es ++ e ∷ []) ≡ moved (now_from now es) e.what
now_push now [] e = refl
now_push now (x ∷ es) e = now_push (moved now x.what) es e

push_from : (now held count : ℕ) (es : List Entry) (e : Entry) → LegalFrom now held es → count ≡ held + length es → MayStep (now_from now es) count e.what → LegalFrom now held (es ++ e ∷ [])
push_from now held count [] e all is may = (subst (λ n. MayStep now n e.what) (let same : count ≡ held = omega (arith, is) in same) may, tt)
push_from now held count (x ∷ es) e all is may = (all.0, push_from (moved now x.what) (held + 1) count es e all.1 (omega (arith, is)) may)

pub legal_push : (now : ℕ) (es : List Entry) (e : Entry) → LegalFrom now 0 es → MayStep (now_from now es) (length es) e.what → LegalFrom now 0 (es ++ e ∷ [])
legal_push now es e all may = push_from now 0 (length es) es e all (omega arith) may
