use Rattle.std.proofs.Common.{suc, refl, None, ◌≡◌, ◌<◌, ◌-◌, ◌+◌, ℕ, List, [], length, take, drop, set, get_or, sym, ap, subst, ◌∙◌, arith}
use Rattle.std.proofs.lemmas.List.{length-set}
use Rattle.gt_io.specs.Links.{IsNothing}
use Rattle.gt_io.specs.Ports.{Port, newly, open_among, told_in, unknown_but}
use Rattle.gt_io.specs.declared.memory_ports.MemPort.{MemPort}
use Rattle.gt_io.specs.MemoryPorts.{port_of, no_port}
use Rattle.gt_io.proofs.PortLists.{happens_opened, unused_next, unused_first, in_set, in_away, in_get}
use Rattle.gt_io.proofs.Counting.{one, count_same, count_most, open_is}
use Rattle.gt_io.proofs.Plans.{planned, none_changed}
use Rattle.gt_io.proofs.memory_ports.MemPorts.open.Goals as goal

abbrev Unused : MemPort → Type 0
Unused p = (p.at ≡ 0) × (p.given.items ≡ [])

pub invariant_of-self-clause-within : goal.invariant_of-self-clause-within
invariant_of-self-clause-within c =
    let s = c.args.self.now in
    let within = s.within in
    let len = c.len.ensures in
    let away = c.if-i-len.false in
    let same = length-set s.ports.items s.opened c.begin.new.self in
    omega (arith, within, len, away, same)

pub invariant_of-self-clause-unused : goal.invariant_of-self-clause-unused
invariant_of-self-clause-unused c =
    let s = c.args.self.now in
    let within = s.within in
    let len = c.len.ensures in
    let away = c.if-i-len.false in
    unused_next Unused s.ports.items s.opened c.begin.new.self (omega (arith, within, len, away)) s.unused

pub returns-clause-happens : goal.returns-clause-happens
returns-clause-happens c =
    let s = c.args.self.now in
    let xs = s.ports.items in
    let i = s.opened in
    let y = c.begin.new.self in
    let x = c.index_mut.result.now in
    let within = s.within in
    let len = c.len.ensures in
    let away = c.if-i-len.false in
    let low : i < length xs = omega (arith, within, len, away) in
    let e : i + 1 - 1 ≡ i = omega arith in
    let ys : List MemPort = set xs i y in
    let to : set xs (i + 1 - 1) y ≡ ys = ap (λ (j : ℕ). set xs j y) e in
    let old : told_in port_of no_port xs (i + 1) ≡ port_of x = in_get port_of no_port xs (i + 1) x (omega arith) (omega (arith, low)) ∙ ap (λ (j : ℕ). port_of (get_or xs j x)) e ∙ ap port_of (sym c.index_mut.ensures.value) in
    let unused : Unused x = subst Unused (sym c.index_mut.ensures.value) (unused_first Unused xs i x low s.unused) in
    happens_opened port_of no_port s.told s.nexts i s.faults s.ends s.busy xs ys
    (λ k other. sym (ap (λ (zs : List MemPort). told_in port_of no_port zs k) to) ∙ in_away port_of no_port xs (i + 1) k y (omega arith) other)
    (sym (ap (λ (zs : List MemPort). told_in port_of no_port zs (i + 1)) to) ∙ in_set port_of no_port xs (i + 1) y (omega arith) (omega (arith, low)) ∙ c.begin.ensures.port ∙ ap (newly s.busy) (sym old))
    (s.counted ∙ open_is port_of no_port refl xs i)
    (subst (λ (p : Port). IsNothing p.taken) (sym old) (ap (λ (n : ℕ). take n x.bytes.items) unused.0))
    (subst (λ (p : Port). IsNothing p.given) (sym old) unused.1)

pub returns-clause-plan : goal.returns-clause-plan
returns-clause-plan c =
    let s = c.args.self.now in
    let xs = s.ports.items in
    let i = s.opened in
    let x = c.index_mut.result.now in
    let within = s.within in
    let len = c.len.ensures in
    let away = c.if-i-len.false in
    let e : i + 1 - 1 ≡ i = omega arith in
    let left = drop s.at s.events.items in
    ap (λ (j : ℕ). planned left s.bad_nexts.items (set xs j c.begin.new.self)) (sym e)
    ∙ none_changed left s.bad_nexts.items xs (i + 1) x c.begin.new.self (omega arith) (omega (arith, within, len, away)) (c.index_mut.ensures.value ∙ ap (λ (j : ℕ). get_or xs j x) (sym e)) c.begin.ensures.wire

pub invariant_of-self-clause-counted : goal.invariant_of-self-clause-counted
invariant_of-self-clause-counted c =
    let tell = λ (z : MemPort). unknown_but z.finished in
    let other = unknown_but None in
    let told = told_in tell other in
    let s = c.args.self.now in
    let xs = s.ports.items in
    let i = s.opened in
    let y = c.begin.new.self in
    let within = s.within in
    let len = c.len.ensures in
    let away = c.if-i-len.false in
    let low : i < length xs = omega (arith, within, len, away) in
    let e : i + 1 - 1 ≡ i = omega arith in
    let to : set xs (i + 1 - 1) y ≡ set xs i y = ap (λ (j : ℕ). set xs j y) e in
    let before : open_among (told (set xs i y)) i ≡ open_among (told xs) i = count_same (told xs) (told (set xs i y)) i (λ k few. ap (λ (p : Port). p.finished) (sym (ap (λ (zs : List MemPort). told zs k) to) ∙ in_away tell other xs (i + 1) k y (omega arith) (λ is. absurd (omega (arith, is, few))))) in
    let last : one (told (set xs i y) (i + 1)) ≡ 1 = ap one (sym (ap (λ (zs : List MemPort). told zs (i + 1)) to) ∙ in_set tell other xs (i + 1) y (omega arith) (omega (arith, low)) ∙ ap (λ (p : Port). unknown_but p.finished) c.begin.ensures.port) in
    let next : i + 1 ≡ suc i = omega arith in
    let sum : open_among (told (set xs i y)) (suc i) ≡ s.busy + 1 = let counted = s.counted in omega (arith, before, last, counted) in
    sym (ap (open_among (told (set xs i y))) next ∙ sum)

pub overflow_add-self-2 : goal.overflow_add-self-2
overflow_add-self-2 c =
    let s = c.args.self.now in
    let most = count_most (told_in (λ (z : MemPort). unknown_but z.finished) (unknown_but None) s.ports.items) s.opened in
    let counted = s.counted in
    let within = s.within in
    let few = s.few in
    let len = c.len.ensures in
    let away = c.if-i-len.false in
    omega (arith, most, counted, within, few, len, away)
