-- Instants of the fronts of a history.
use Rattle.std.proofs.Common.{◌≡◌, ℕ, ◌≤◌, List, [], ◌∷◌, ◌++◌, sym, ap, subst, ◌∙◌, arith}
use mathlib.Core.List.{IsPrefix}
use Rattle.gt_base.specs.declared.requests.Who.{Who}
use Rattle.gt_base.specs.declared.requests.Actor.{Actor}
use Rattle.gt_base.specs.declared.requests.Request.{Request}
use Rattle.gt_base.specs.declared.requests.Reply.{Reply}
use Rattle.gt_base.specs.declared.requests.Entry.{Entry}
use Rattle.gt_base.specs.Machines.{asked}
use Rattle.gtrbac_model.specs.History.{moved, now_of}
use Rattle.gtrbac_model.proofs.Playing.{now_snoc}
use Rattle.connection_laws.specs.Connection.{TicksRise, IsTimed}

rises_all : (now : ℕ) (es : List Entry) → TicksRise now es → now ≤ now_of now es
rises_all now [] r = omega arith
rises_all now (e ∷ es) r = let rest = rises_all (moved now e.what) es r.1 in let one = r.0 in omega (arith, rest, one)

rises_on : (now : ℕ) (xs ys : List Entry) → TicksRise now (xs ++ ys) → now_of now xs ≤ now_of now (xs ++ ys)
rises_on now [] ys r = rises_all now ys r
rises_on now (x ∷ xs) ys r = rises_on (moved now x.what) xs ys r.1

-- what was asked behind a list that has come to the reading was asked in time
pub asked_in_time : (birth : ℕ) (legal : List Entry → Type 0) (now : List Entry → ℕ) (reading : ℕ) (seen before front : List Entry) (who : Who) (actor : Actor) (request : Request) (reply : Reply)
    → IsTimed birth legal now → legal seen → reading ≤ now seen → legal front → IsPrefix seen front → front ≡ before ++ asked who actor request reply ∷ [] → reading ≤ now_of birth before
asked_in_time birth legal now reading seen before front who actor request reply timed fair late good begins last =
    let later : now_of birth seen ≤ now_of birth front =
    subst (λ (l : List Entry). now_of birth seen ≤ now_of birth l) begins.1 (rises_on birth seen begins.0 (subst (TicksRise birth) (sym begins.1) (timed.rises front good))) in
    let at = timed.now_is seen fair in
    let same = ap (now_of birth) last ∙ now_snoc birth before (asked who actor request reply) in
    omega (arith, later, at, same, late)
