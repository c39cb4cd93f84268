-- What a call on texts in memory answers and leaves.
use Rattle.std.proofs.Common.{◌≡◌, ℕ, ◌++◌, List, [], length, take, drop, min, true, false, Ok, Err, Some, None, IfSome, refl, ap, sym, subst}
use Rattle.std.specs.Prelude.{◌==◌, if◌then◌else◌, IsOk}
use Rattle.std.specs.declared.option.Option.{Option}
use Rattle.gt_io.specs.declared.source.Failed.{Failed}
use Rattle.gt_io.specs.Memory.{FailingCalls, fails_next, refused, answered, one_more}
use Rattle.gt_io.specs.MemoryShelf.{Texts, ReadsText, FindsText, file_text, asked_for, begun, broken, text_opened}
use Rattle.gt_io.proofs.Supplies.{refused_piece, answered_piece}

pub broken_read : (o p : Texts) (room : ℕ) (e : Failed) → true ≡ fails_next o.text.calls → p ≡ broken o → ReadsText o p room (Err e)
broken_read o p room e listed made =
    subst (λ p. ReadsText o p room (Err e)) (sym made)
    (record {
      gives = refused_piece o.text (refused o.text.calls) room e listed refl;
      files_are = refl;
      asked_is = refl;
      hard_faults_are = ap (λ b. if b then one_more o.hard_faults else o.hard_faults) listed;
    })

pub read_on : (o v : Texts) (n room : ℕ) (taken left : List ℕ) (ends : ℕ) → false ≡ fails_next o.text.calls → v ≡ begun o → n ≡ min (length v.text.left) (min room v.text.piece)
    → taken ≡ v.text.taken ++ take n v.text.left → left ≡ drop n v.text.left → ends ≡ (if n == 0 then one_more v.text.ends else v.text.ends)
    → ReadsText {E = Failed} o (record v { text = record { taken = taken; left = left; piece = v.text.piece; calls = v.text.calls; ends = ends } }) room (Ok n)
read_on o v n room taken left ends listed made =
    subst
    (λ (v : Texts). n ≡ min (length v.text.left) (min room v.text.piece) → taken ≡ v.text.taken ++ take n v.text.left → left ≡ drop n v.text.left → ends ≡ (if n == 0 then one_more v.text.ends else v.text.ends)
    → ReadsText {E = Failed} o (record v { text = record { taken = taken; left = left; piece = v.text.piece; calls = v.text.calls; ends = ends } }) room (Ok n))
    (sym made)
    (λ number took rest told. record {
      gives = answered_piece o.text (answered o.text.calls) n room taken left ends listed refl number took rest told;
      files_are = refl;
      asked_is = refl;
      hard_faults_are = ap (λ b. if b then one_more o.hard_faults else o.hard_faults) listed;
    })

pub broken_find : (o p : Texts) (name : List ℕ) (e : Failed) → true ≡ fails_next o.text.calls → p ≡ broken (asked_for o) → FindsText {T = Unit {0}} o p name (Err e)
broken_find o p name e listed made = record { listed = λ _. (refl, made); missing = λ no _. cc (listed, no); found = λ no. cc (listed, no) }

nothing_told : (told : Option (List ℕ)) (P : List ℕ → Type 0) → told ≡ None → IfSome told P
nothing_told None P e = tt
nothing_told (Some xs) P e = cc

pub missing_find : (o v : Texts) (calls : FailingCalls) (name : List ℕ) (e : Failed) → false ≡ fails_next o.text.calls → v ≡ begun (asked_for o) → calls ≡ record (v.text.calls) { faults = one_more v.text.calls.faults }
    → file_text v.files name ≡ None → FindsText {T = Unit {0}} o (record v { text = record (v.text) { calls = calls } }) name (Err e)
missing_find o v calls name e listed made =
    subst
    (λ (v : Texts). calls ≡ record (v.text.calls) { faults = one_more v.text.calls.faults } → file_text v.files name ≡ None
    → FindsText {T = Unit {0}} o (record v { text = record (v.text) { calls = calls } }) name (Err e))
    (sym made)
    (λ failed none. record {
      listed = λ yes. cc (listed, yes);
      missing = λ _ _. (refl, λ i. record (begun (asked_for o)) { text = record (o.text) { calls = failed i } });
      found = λ _. nothing_told _ _ none;
    })

pub found_find : (o v : Texts) (bytes name : List ℕ) → false ≡ fails_next o.text.calls → v ≡ begun (asked_for o) → file_text v.files name ≡ Some bytes
    → FindsText {T = Unit {0}} {E = Failed} o (record v { text = record { taken = []; left = bytes; piece = v.text.piece; calls = v.text.calls; ends = v.text.ends } }) name (Ok tt)
found_find o v bytes name listed made =
    subst
    (λ (v : Texts). file_text v.files name ≡ Some bytes → FindsText {T = Unit {0}} {E = Failed} o (record v { text = record { taken = []; left = bytes; piece = v.text.piece; calls = v.text.calls; ends = v.text.ends } }) name (Ok tt))
    (sym made)
    (λ there. record {
      listed = λ yes. cc (listed, yes);
      missing = λ _ none. cc (there, none);
      found = λ _. subst (λ told. IfSome told (λ bs. IsOk {T = Unit {0}} {E = Failed} (Ok tt) × (asked_for (text_opened o bytes) ≡ asked_for (text_opened o bs)))) (sym there) (refl, refl);
    })
