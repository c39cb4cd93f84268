-- What a run of a post tells of its pass.
use Rattle.std.specs.Prelude.{◌≡◌, None}
use Rattle.turn_lock.specs.Holders.{Site, Holder}

-- a pass of this lock that holds no turn
abbrev pub IsFree : {M : Type 0} → Site M → Holder M → Type 0
IsFree site p = (p.site ≡ site) × (p.turn ≡ None)

-- the pass is free again, with its number
abbrev pub IsBack : {M : Type 0} → Site M → Holder M → Holder M → Type 0
IsBack site p q = IsFree site q × (q.number ≡ p.number)
