-- Texts in their pieces, as they are written.
use Rattle.std.specs.Prelude.{ℕ, List, ◌++◌, flat_map, codes, decimal, Option, Some, None}
use Rattle.gt_base.specs.Held.{RoleWalk}
use Rattle.gt_base.specs.declared.requests.Who.{Who}
use Rattle.gt_base.specs.declared.requests.Actor.{Actor}
use Rattle.gt_base.specs.declared.requests.Request.{Request}
use Rattle.civil_time.specs.Text.{civil_text}
use Rattle.policy_words.specs.Naming.{NamedPolicy, role_name}
use Rattle.request_text.specs.Replies.{arrow, junior_text, actor_text, request_text, who_text}

-- who let time go on, where it stopped, and the bound
abbrev pub tick_text : Who → ℕ → ℕ → List ℕ
tick_text who to upto =
    codes "tick " ++ who_text who ++ codes " to " ++ civil_text to ++ codes " bound "
    ++ civil_text upto

-- a piece with the number behind it, if there is one
abbrev pub with_number : List ℕ → Option ℕ → List ℕ
with_number piece None = piece
with_number piece (Some n) = piece ++ decimal n

module _ (np : NamedPolicy) where
  -- the sign and the junior of the edge with this number
  abbrev pub step_name : ℕ → List ℕ
  step_name n = arrow ++ junior_text np n

  -- a walk's roles, edge by edge
  abbrev pub walk_led : RoleWalk → List ℕ
  walk_led w = role_name np.names w.start ++ flat_map (step_name) w.edges

  -- who asks, up to what is asked
  abbrev pub asker_text : Who → Actor → List ℕ
  asker_text who actor = codes "ask " ++ who_text who ++ codes " " ++ actor_text np actor ++ codes " "

  -- who asked what, up to the reply
  abbrev pub asked_text : Who → Actor → Request → List ℕ
  asked_text who actor request =
      codes "ask " ++ who_text who ++ codes " " ++ actor_text np actor ++ codes " "
      ++ request_text np request ++ codes " = "
