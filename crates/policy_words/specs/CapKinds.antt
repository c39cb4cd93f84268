-- The kinds of caps in their order, and the cap of each kind that a role has.
use Rattle.std.specs.Prelude.{ℕ, Bool, true, false, List, [], ◌∷◌, Option, Some, None}
use Rattle.gt_base.specs.declared.policies.Caps.{Caps}
use Rattle.policy_words.specs.declared.sayings.CapKind.{CapKind}
use Rattle.policy_words.specs.declared.sayings.CapKind.TheVariants.{Total, User, Length, Day}

-- the order in which a word is compared with theirs, and in which the canonical text has them
abbrev pub cap_kinds : List CapKind
cap_kinds = Total ∷ User ∷ Length ∷ Day ∷ []

abbrev pub same_cap_kind : CapKind → CapKind → Bool
same_cap_kind Total Total = true
same_cap_kind User User = true
same_cap_kind Length Length = true
same_cap_kind Day Day = true
same_cap_kind _ _ = false

abbrev pub no_caps : Caps
no_caps = record { total = None; user = None; length = None; day = None }

abbrev pub cap_of : CapKind → Caps → Option ℕ
cap_of Total c = c.total
cap_of User c = c.user
cap_of Length c = c.length
cap_of Day c = c.day

abbrev pub with_cap : CapKind → ℕ → Caps → Caps
with_cap Total n c = record { total = Some n; user = c.user; length = c.length; day = c.day }
with_cap User n c = record { total = c.total; user = Some n; length = c.length; day = c.day }
with_cap Length n c = record { total = c.total; user = c.user; length = Some n; day = c.day }
with_cap Day n c = record { total = c.total; user = c.user; length = c.length; day = Some n }
