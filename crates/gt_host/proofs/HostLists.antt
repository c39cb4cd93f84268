-- What the list of links tells, and how many of them are open, where one was added or changed.
use Rattle.std.proofs.Common.{◌≡◌, ℕ, suc, ◌+◌, ◌-◌, ◌≤◌, List, [], ◌∷◌, ◌++◌, length, set, get_or, refl, sym, ap, subst, ◌∙◌, arith, Option, Result, Ok, Some, None}
use Rattle.std.specs.Prelude.{if◌then◌else◌}
use Rattle.std.proofs.lemmas.List.{length-set}
use Rattle.gt_io.specs.declared.source.Failed.{Failed}
use Rattle.gt_io.specs.declared.port.PortEvent.{PortEvent}
use Rattle.gt_io.specs.declared.port.PortEvent.TheVariants.{Opened}
use Rattle.gt_io.specs.Links.{IsNothing}
use Rattle.gt_io.specs.Ports.{Port, Harbour, is_none, open_among, told_at, newly, Happens}
use Rattle.gt_io.proofs.PortLists.{in_push, in_front, happens_opened}
use Rattle.gt_io.proofs.Counting.{one, count_same, count_set as set_count, count_end as end_count}
use Rattle.gt_host.specs.declared.port.HostPort.{HostPort}
use Rattle.gt_host.specs.HostPorts.{host_port, no_host_port, host_port_in, host_harbour}

len_push : (xs : List HostPort) (y : HostPort) → length (xs ++ y ∷ []) ≡ length xs + 1
len_push [] y = refl
len_push (x ∷ xs) y = let e = len_push xs y in omega (arith, e)

-- one more where an open link is added
pub count_push : (xs : List HostPort) (y : HostPort) → y.finished ≡ None → open_among (host_port_in (xs ++ y ∷ [])) (length (xs ++ y ∷ [])) ≡ open_among (host_port_in xs) (length xs) + 1
count_push xs y unfinished =
    let ys = xs ++ y ∷ [] in
    let before : open_among (host_port_in ys) (length xs) ≡ open_among (host_port_in xs) (length xs) = count_same (host_port_in xs) (host_port_in ys) (length xs) (λ k low. ap (λ (p : Port). p.finished) (in_front host_port no_host_port xs y k (λ is. absurd (omega (arith, low, is))))) in
    let last : one (host_port_in ys (length xs + 1)) ≡ 1 = ap one (in_push host_port no_host_port xs y (length xs + 1) refl) ∙ ap (λ o. if is_none o then 1 else 0) unfinished in
    let l = len_push xs y in
    let e : length ys ≡ suc (length xs) = omega (arith, l) in
    ap (open_among (host_port_in ys)) e ∙ omega (arith, before, last)

-- as many where one is changed and stays as open as it was
pub count_set : (xs : List HostPort) (c : ℕ) (x y : HostPort) → 1 ≤ c → c ≤ length xs → x ≡ get_or xs (c - 1) x → y.finished ≡ x.finished → open_among (host_port_in (set xs (c - 1) y)) (length (set xs (c - 1) y)) ≡ open_among (host_port_in xs) (length xs)
count_set xs c x y first last is same =
    ap (open_among (host_port_in (set xs (c - 1) y))) (length-set xs (c - 1) y)
    ∙ set_count host_port no_host_port xs c first last (length xs) x y is same

-- one fewer where an open one is finished
pub count_end : (xs : List HostPort) (c m : ℕ) (y : HostPort) → 1 ≤ c → c ≤ length xs → (host_port_in xs c).finished ≡ None → y.finished ≡ Some m → open_among (host_port_in (set xs (c - 1) y)) (length (set xs (c - 1) y)) + 1 ≡ open_among (host_port_in xs) (length xs)
count_end xs c m y first last unfinished over =
    ap (λ (n : ℕ). open_among (host_port_in (set xs (c - 1) y)) n + 1) (length-set xs (c - 1) y)
    ∙ end_count host_port no_host_port xs c first last (length xs) m y last unfinished over

at_end : (xs : List HostPort) → told_at host_port no_host_port xs (length xs) ≡ no_host_port
at_end [] = refl
at_end (x ∷ xs) = at_end xs

past_end : (xs : List HostPort) → host_port_in xs (length xs + 1) ≡ no_host_port
past_end xs = let e : length xs + 1 ≡ suc (length xs) = omega arith in ap (host_port_in xs) e ∙ at_end xs

-- a link is opened
pub opens : (told : Option (Result PortEvent Failed)) (nexts faults ends n m : ℕ) (xs ys : List HostPort) (y : HostPort) → ys ≡ xs ++ y ∷ [] → m ≡ length ys → n ≡ open_among (host_port_in xs) (length xs) → host_port y ≡ newly n no_host_port
    → Happens (host_harbour told nexts xs faults ends) (host_harbour told nexts ys faults ends) (Ok (Opened m))
opens told nexts faults ends n m xs ys y is len count fresh =
    let l : length xs + 1 ≡ length ys = sym (ap length is ∙ len_push xs y) in
    let none = past_end xs in
    let base = happens_opened host_port no_host_port told nexts (length xs) faults ends n xs ys
    (λ k away. ap (λ (zs : List HostPort). host_port_in zs k) is ∙ in_front host_port no_host_port xs y k away)
    (ap (λ (zs : List HostPort). host_port_in zs (length xs + 1)) is ∙ in_push host_port no_host_port xs y (length xs + 1) refl ∙ fresh ∙ ap (newly n) (sym none))
    count
    (subst (λ (p : Port). IsNothing p.taken) (sym none) tt)
    (subst (λ (p : Port). IsNothing p.given) (sym none) tt) in
    subst (λ (j : ℕ). Happens (host_harbour told nexts xs faults ends) (host_harbour told nexts ys faults ends) (Ok (Opened j))) (sym len)
    (subst (λ (j : ℕ). Happens (host_harbour told nexts xs faults ends) (record { told = told; nexts = nexts; opened = j; port = host_port_in ys; faults = faults; ends = ends }) (Ok (Opened j))) l base)

-- what holds of a changed list of links is said with as many links as there were
pub resized : (P : Harbour → Type 0) (told : Option (Result PortEvent Failed)) (nexts faults ends : ℕ) (xs : List HostPort) (i : ℕ) (y : HostPort)
    → P (record { told = told; nexts = nexts; opened = length xs; port = host_port_in (set xs i y); faults = faults; ends = ends }) → P (host_harbour told nexts (set xs i y) faults ends)
resized P told nexts faults ends xs i y holds =
    subst (λ (n : ℕ). P (record { told = told; nexts = nexts; opened = n; port = host_port_in (set xs i y); faults = faults; ends = ends })) (sym (length-set xs i y)) holds
