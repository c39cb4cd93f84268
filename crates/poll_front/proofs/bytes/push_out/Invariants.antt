use Rattle.std.proofs.Common.{◌≡◌, ◌≤◌, ◌-◌, ◌++◌, ℕ, List, length, take, Ok}
use Rattle.std.specs.declared.option.Option.{Option}
use Rattle.std.specs.Io.KnownBytes.{Appends}
use Rattle.poll_front.specs.Fronts.{IsLive, CallsOn}
use Rattle.poll_front.proofs.bytes.push_out.Given as goal

abbrev pub invariant-loop-at : goal.invariant-loop-at
invariant-loop-at g l =
    let a = g.P.Ports.harbour l.fn.ports in
    let b = g.P.Ports.harbour l.ports in
    record {
      calls : CallsOn a b l.link (Ok tt);
      live : IsLive b l.link;
      taken : (b.port l.link).taken ≡ (a.port l.link).taken;
      left : (b.port l.link).left ≡ (a.port l.link).left;
      within : (l.fn.at ≤ l.at) × (l.at ≤ length l.text);
      given : (start : Option (List ℕ)) (front : List ℕ) → Appends start (a.port l.link).given (front ++ take l.fn.at l.text) → Appends start (b.port l.link).given (front ++ take l.at l.text);
    }

abbrev pub decreases-loop-at : goal.decreases-loop-at
decreases-loop-at g l = length l.text - l.at
