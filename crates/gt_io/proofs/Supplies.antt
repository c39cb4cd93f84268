-- What a call on bytes in memory answers and leaves.
use Rattle.std.proofs.Common.{◌≡◌, ◌≤◌, ◌<◌, ◌-◌, ℕ, ◌++◌, List, length, take, drop, min, true, false, Ok, Err, inl, inr, refl, ap, sym, ◌∙◌, arith}
use Rattle.std.specs.Prelude.{◌==◌, if◌then◌else◌}
use Rattle.std.proofs.lemmas.Grind.{common_steps}
use Rattle.gt_io.specs.declared.source.Failed.{Failed}
use Rattle.gt_io.specs.Causes.{HasCause}
use Rattle.gt_io.specs.Memory.{FailingCalls, Supply, Store, GivesPiece, TakesPiece, fails_next, refused, answered, one_more, space}

-- bytes of which those before a place were taken
abbrev pub supply_at : List ℕ → ℕ → ℕ → FailingCalls → ℕ → Supply
supply_at bytes at piece calls ends = record { taken = take at bytes; left = drop at bytes; piece = piece; calls = calls; ends = ends }

pub refused_cause : (o p : FailingCalls) (e : Failed) → p ≡ refused o → o.faults ≤ p.faults → HasCause {T = ℕ} o.faults p.faults (Err e)
refused_cause o p e made later =
    let count = ap (λ (c : FailingCalls). c.faults) made in
    record { later = later; kept = tt; failed = omega (arith, count) }

pub refused_piece : (o : Supply) (calls : FailingCalls) (room : ℕ) (e : Failed) → true ≡ fails_next o.calls → calls ≡ refused o.calls → GivesPiece o (record o { calls = calls }) room (Err e)
refused_piece o calls room e listed made = record { listed = grind (arith, common_steps); gives = λ i. record o { calls = made i } }

pub answered_piece : (o : Supply) (calls : FailingCalls) (n room : ℕ) (taken left : List ℕ) (ends : ℕ) → false ≡ fails_next o.calls → calls ≡ answered o.calls → n ≡ min (length o.left) (min room o.piece)
    → taken ≡ o.taken ++ take n o.left → left ≡ drop n o.left → ends ≡ (if n == 0 then one_more o.ends else o.ends)
    → GivesPiece {E = Failed} o (record { taken = taken; left = left; piece = o.piece; calls = calls; ends = ends }) room (Ok n)
answered_piece o calls n room taken left ends listed made number took rest told = record {
  listed = grind (arith, common_steps);
  gives = (number, λ i. record { taken = took i; left = rest i; piece = o.piece; calls = made i; ends = told i });
}

-- what a write leaves
pub refused_write : (o : Store) (calls : FailingCalls) (text : List ℕ) (e : Failed) → true ≡ fails_next o.calls → calls ≡ refused o.calls → TakesPiece o (record o { calls = calls }) text (Err e)
refused_write o calls text e listed made = record { listed = (λ _. inl (sym listed), λ _. refl); takes = λ i. record o { calls = made i } }

pub no_space : (n len piece room took m : ℕ) → 0 < len → 0 < piece → n ≡ min len m → m ≡ min piece (room - took) → n ≡ 0 → room - took ≡ 0
no_space n len piece room took m some_text some_piece is_n is_m none = omega arith

pub some_space : (n len piece room took m : ℕ) → n ≡ min len m → m ≡ min piece (room - took) → room - took ≡ 0 → n ≡ 0
some_space n len piece room took m is_n is_m none = omega arith

pub full_write : (o : Store) (began calls : FailingCalls) (text : List ℕ) (e : Failed) → space o ≡ 0 → began ≡ answered o.calls → calls ≡ record began { faults = one_more began.faults }
    → TakesPiece o (record o { calls = calls }) text (Err e)
full_write o began calls text e full made failed = record {
  listed = (λ _. inr full, λ _. refl);
  takes = λ i. record o { calls = (failed ∙ ap (λ (b : FailingCalls). record b { faults = one_more b.faults }) made) i };
}

pub taken_write : (o : Store) (calls : FailingCalls) (n m : ℕ) (text written : List ℕ) → false ≡ fails_next o.calls → calls ≡ answered o.calls → n ≡ min (length text) m → m ≡ min o.piece (space o)
    → (n ≡ 0 → ⊥) → written ≡ o.written ++ take n text → TakesPiece {E = Failed} o (record o { written = written; calls = calls }) text (Ok n)
taken_write o calls n m text written listed made is_n is_m some wrote = record {
  listed = (λ e. cc, λ why. elim why [ inl h ↦ cc (listed, h) | inr none ↦ absurd (some (some_space n (length text) o.piece o.room (length o.written) m is_n is_m none)) ]);
  takes = (is_n ∙ ap (min (length text)) is_m, λ i. record o { written = wrote i; calls = made i });
}
