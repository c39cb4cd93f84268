-- The buffer of a connection, while its replies go out and come back.
use Rattle.std.proofs.Common.{ℕ, ◌≤◌, List, length, ap, arith, Option, Some, None}
use Rattle.gt_base.specs.Roomy.{Roomy}
use Rattle.connection_laws.specs.Rooms.{room_in, room_with, LendsRoom, TakesBack}

-- all of its room is with the answer, or stays
pub lent_with : (a b : Roomy ℕ) (text : Option (Roomy ℕ)) → LendsRoom a b text → room_in a ≤ room_with text b
lent_with a b None lends = lends
lent_with a b (Some text) lends = lends.0

-- and comes back
pub back_with : (a b : Roomy ℕ) (text : Option (Roomy ℕ)) → TakesBack a b text → room_with text a ≤ room_in b
back_with a b None back = let same = ap (λ (r : Roomy ℕ). room_in r) back in omega (arith, same)
back_with a b (Some text) back =
    let long = ap (λ (l : List ℕ). length l) back.0 in
    let spare = back.1 in
    omega (arith, long, spare)
