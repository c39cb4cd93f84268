-- Calls on one open link, one after another.
use Rattle.std.proofs.Common.{◌≡◌, ℕ, ◌+◌, ◌≤◌, false, List, ◌++◌, length, take, drop, refl, ap, subst, ◌∙◌, sym, arith, append_assoc, Option, OnOk, Result, Ok, Err}
use Rattle.std.proofs.Math.Seq.{take-add}
use Rattle.std.specs.Io.KnownBytes.{Appends, Consumes}
use Rattle.std.proofs.KnownBytes.{Appends-trans}
use Rattle.gt_io.specs.declared.source.Failed.{Failed}
use Rattle.gt_io.specs.declared.port.Got.{Got}
use Rattle.gt_io.specs.declared.port.Got.TheVariants.{Bytes as GotBytes, Finished, NotYet as GotNotYet}
use Rattle.gt_io.specs.declared.port.Took.{Took}
use Rattle.gt_io.specs.declared.port.Called.{Called}
use Rattle.gt_io.specs.declared.port.Called.TheVariants.{Nothing, Read, Wrote}
use Rattle.gt_io.specs.Causes.{FailsOnce}
use Rattle.gt_io.specs.Memory.{one_more}
use Rattle.gt_io.specs.Ports.{Port, Harbour, KeepsRest, ReadsPort, WritesPort, is_over, ends_by, got_bytes}
use Rattle.poll_front.specs.declared.ends.PollEnd.{PollEnd}
use Rattle.poll_front.specs.declared.states.LinkState.{LinkState}
use Rattle.poll_front.specs.declared.states.Yield.{Yield}
use Rattle.poll_front.specs.declared.states.Yield.TheVariants.{Later, End}
use Rattle.poll_front.specs.Fronts.{IsLive, CallsOn, faults_by, ends_told_by, waiting_bytes, Pushed, Filled, FillsUp}

pub rest_twice : {a b d : Harbour} {c : ℕ} → KeepsRest a b c → KeepsRest b d c → KeepsRest a d c
rest_twice x y =
    record { told = y.told ∙ x.told; nexts = y.nexts ∙ x.nexts; opened = y.opened ∙ x.opened; others = λ k away. y.others k away ∙ x.others k away }

-- a link that has not come to its end shows no fault, and has told no end
pub live_sound : (last : Called) → is_over last ≡ false → faults_by last ≡ 0
live_sound Nothing live = refl
live_sound (Read (Ok g)) live = refl
live_sound (Read (Err f)) live = absurd (cc live)
live_sound (Wrote (Ok t)) live = refl
live_sound (Wrote (Err f)) live = absurd (cc live)

pub live_open : (last : Called) → is_over last ≡ false → ends_told_by last ≡ 0
live_open Nothing live = refl
live_open (Read (Ok (GotBytes n))) live = refl
live_open (Read (Ok Finished)) live = absurd (cc live)
live_open (Read (Ok GotNotYet)) live = refl
live_open (Read (Err f)) live = refl
live_open (Wrote t) live = refl

pub calls_none : (a : Harbour) (c : ℕ) → is_over (a.port c).last ≡ false → CallsOn a a c (Ok tt)
calls_none a c live =
    record {
      rest = record { told = refl; nexts = refl; opened = refl; others = λ k away. refl };
      finished = refl;
      others = refl;
      later = omega arith;
      faults = omega arith;
      ends = omega arith;
      live = live;
      unowed = λ is. absurd cc;
    }

-- the last of them may end the link
pub calls_end : {a b : Harbour} {c : ℕ} (e : PollEnd) → CallsOn a b c (Ok tt) → CallsOn a b c (Err (End e))
calls_end e x =
    record { rest = x.rest; finished = x.finished; others = x.others; later = x.later; faults = x.faults; ends = x.ends; live = tt; unowed = λ is. absurd cc }

pub calls_twice : {a b d : Harbour} {c : ℕ} {result : Result (Unit {0}) Yield} → CallsOn a b c (Ok tt) → CallsOn b d c result → CallsOn a d c result
calls_twice {a} {b} {d} {c} x y =
    let none = live_sound (b.port c).last x.live in
    let opened = live_open (b.port c).last x.live in
    let l1 = x.later in
    let l2 = y.later in
    let f1 = x.faults in
    let f2 = y.faults in
    let e1 = x.ends in
    let e2 = y.ends in
    record {
      rest = rest_twice x.rest y.rest;
      finished = y.finished ∙ x.finished;
      others = y.others ∙ x.others;
      later = omega (arith, l1, l2);
      faults = omega (arith, none, f1, f2);
      ends = omega (arith, opened, e1, e2);
      live = y.live;
      unowed = y.unowed;
    }

pub live_kept : {a b : Harbour} {c : ℕ} → CallsOn a b c (Ok tt) → IsLive a c → IsLive b c
live_kept x l =
    let e = x.rest.opened in
    let last = l.opened.last in
    record { opened = record { first = l.opened.first; last = omega (arith, e, last); unfinished = x.finished ∙ l.opened.unfinished }; live = x.live }

-- what was given grows by what a write took
pub given_grows : (start p q : Option (List ℕ)) (front text : List ℕ) (at n : ℕ) → Appends start p (front ++ take at text) → Appends p q (take n (drop at text)) → Appends start q (front ++ take (at + n) text)
given_grows start p q front text at n given more =
    subst (λ (l : List ℕ). Appends start q l) (append_assoc front (take at text) (take n (drop at text)) ∙ ap (λ (l : List ℕ). front ++ l) (sym (take-add at n text)))
    (Appends-trans start p q (front ++ take at text) (take n (drop at text)) given more)

write_faults : (before now : ℕ) (q : Port) (result : Result Took Failed) → q.last ≡ Wrote result → FailsOnce before now result → now ≤ before + faults_by q.last
write_faults before now q (Ok t) is x = let kept : now ≡ before = x.kept in omega (arith, kept)
write_faults before now q (Err f) is x = let once : now ≡ one_more before = x.once in let one : faults_by q.last ≡ 1 = ap faults_by is in omega (arith, once, one)

read_faults : (before now : ℕ) (q : Port) (result : Result Got Failed) → q.last ≡ Read result → FailsOnce before now result → now ≤ before + faults_by q.last
read_faults before now q (Ok t) is x = let kept : now ≡ before = x.kept in omega (arith, kept)
read_faults before now q (Err f) is x = let once : now ≡ one_more before = x.once in let one : faults_by q.last ≡ 1 = ap faults_by is in omega (arith, once, one)

read_ends : (before now : ℕ) (q : Port) (result : Result Got Failed) → q.last ≡ Read result → now ≡ ends_by result before → now ≤ before + ends_told_by q.last
read_ends before now q (Ok (GotBytes n)) is x = omega (arith, x)
read_ends before now q (Ok Finished) is x = let one : ends_told_by q.last ≡ 1 = ap ends_told_by is in omega (arith, x, one)
read_ends before now q (Ok GotNotYet) is x = omega (arith, x)
read_ends before now q (Err f) is x = omega (arith, x)

pub calls_write : {b d : Harbour} {c : ℕ} {piece : List ℕ} {took : Result Took Failed} (result : Result (Unit {0}) Yield) → WritesPort b d c piece took → OnOk result (is_over (d.port c).last ≡ false) → (result ≡ Err Later → (d.port c).owed ≡ false)
    → CallsOn b d c result
calls_write {b} {d} {c} {piece} {took} result w live unowed =
    record {
      rest = w.rest;
      finished = ap (λ (q : Port). q.finished) w.port.rest;
      others = ap (λ (q : Port). q.others) w.port.rest;
      later = w.cause.later;
      faults = write_faults b.faults d.faults (d.port c) took (ap (λ (q : Port). q.last) w.port.rest) w.cause;
      ends = let same = w.ends in omega (arith, same);
      live = live;
      unowed = unowed;
    }

calls_read : {b d : Harbour} {c : ℕ} {buf : List ℕ} {got : Result Got Failed} (result : Result (Unit {0}) Yield) → ReadsPort b d c buf got → OnOk result (is_over (d.port c).last ≡ false) → (result ≡ Err Later → (d.port c).owed ≡ false) → CallsOn b d c result
calls_read {b} {d} {c} {buf} {got} result r live unowed =
    record {
      rest = r.rest;
      finished = ap (λ (q : Port). q.finished) r.port.rest;
      others = ap (λ (q : Port). q.others) r.port.rest;
      later = r.cause.later;
      faults = read_faults b.faults d.faults (d.port c) got (ap (λ (q : Port). q.last) r.port.rest) r.cause;
      ends = read_ends b.ends d.ends (d.port c) got (ap (λ (q : Port). q.last) r.port.rest) r.ends;
      live = live;
      unowed = unowed;
    }

-- what a read makes of the bytes that wait
pub fills_up : {a b : Harbour} {c : ℕ} {buf : List ℕ} {got : Result Got Failed} (s s' : LinkState) (result : Result (Unit {0}) Yield) → ReadsPort a b c buf got → OnOk result (is_over (b.port c).last ≡ false) → (result ≡ Err Later → (b.port c).owed ≡ false)
    → got_bytes got buf ≡ waiting_bytes s' → Filled (b.port c) s s' result → FillsUp a b c s s' result
fills_up {a} {b} {c} {buf} {got} s s' result r live unowed bytes filled =
    record {
      calls = calls_read result r live unowed;
      given = ap (λ (q : Port). q.given) r.port.rest;
      taken = subst (λ (l : List ℕ). Appends (a.port c).taken (b.port c).taken l) bytes r.port.taken;
      left = subst (λ (l : List ℕ). Consumes (a.port c).left (b.port c).left l) bytes r.port.left;
      filled = filled;
    }

pub pushed_whole : (q : Port) (text : List ℕ) (at : ℕ) (result : Result (Unit {0}) Yield) → Pushed q text at result → OnOk result (at ≡ length text)
pushed_whole q text at (Ok u) x = x
pushed_whole q text at (Err e) x = tt
