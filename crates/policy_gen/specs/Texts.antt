-- The texts that a seed and a size make: a policy and a script.
use Rattle.std.specs.Prelude.{ℕ, ◌+◌, ◌-◌, min, List, [], ◌∷◌, ◌++◌, map, flat_map, codes, decimal, nat_eq, if◌then◌else◌}
use Rattle.std.specs.List.{range_with_len}
use Rattle.gt_text.specs.Words.{as_text}
use Rattle.civil_time.specs.Text.{civil_text}
use Rattle.policy_gen.specs.Draws.{Round, round, minute_after}
use Rattle.policy_gen.specs.declared.scripts.TheConstants.{FIRST_MINUTE}

-- how many roles, users and permissions there are, and sessions that the script opens
abbrev pub count_of : ℕ → ℕ
count_of size = min size 200

-- a piece and a number
abbrev pub one : List ℕ → ℕ → List ℕ
one piece i = piece ++ decimal i

-- two pieces, each with its number
abbrev pub two : List ℕ → ℕ → List ℕ → ℕ → List ℕ
two first i second j = one first i ++ one second j

-- a line for each number from 1 to n
abbrev pub for_each : (ℕ → List ℕ) → ℕ → List (List ℕ)
for_each line n = map line (range_with_len 1 n)

-- some lines for each number from 1 to n
abbrev pub all_for_each : (ℕ → List (List ℕ)) → ℕ → List (List ℕ)
all_for_each lines n = flat_map lines (range_with_len 1 n)

-- a role brings the next one on and off
abbrev pub chain : ℕ → List (List ℕ)
chain i = two (codes "when enable r") i (codes " then 50:enable r") (i + 1)
    ∷ two (codes "when disable r") i (codes " then 50:disable r") (i + 1) ∷ []

abbrev pub name_lines : ℕ → List (List ℕ)
name_lines k = for_each (one (codes "role r")) k ++ for_each (one (codes "user u")) k
    ++ for_each (one (codes "perm p")) k

-- who has which role and permission
abbrev pub holding_lines : ℕ → List (List ℕ)
holding_lines k = for_each (λ i. two (codes "assigned u") i (codes " r") i) k
    ++ for_each (λ i. two (codes "granted p") i (codes " r") i) k

-- edges from each role to the next
abbrev pub edge_lines : ℕ → List (List ℕ)
edge_lines n = for_each (λ i. two (codes "edge ia weak r") i (codes " r") (i + 1)) n

-- the policy of k roles
abbrev pub policy_lines : ℕ → List (List ℕ)
policy_lines k =
    codes "policy 1" ∷ name_lines k
    ++ codes "period hours * * all.Days + {9}.Hours > 8.Hours" ∷ edge_lines (k - 1)
    ++ codes "admin u1" ∷ holding_lines k
    ++ codes "span hours 50:enable r1" ∷ all_for_each chain (k - 1)

-- session i belongs to user i
abbrev pub opening : ℕ → List (List ℕ)
opening i = one (codes "as u") i ∷ codes "open" ∷ []

abbrev pub request_line : Round → List ℕ
request_line r =
    if nat_eq r.choice 0 then two (codes "activate ") r.user (codes " r") r.user
    else if nat_eq r.choice 1 then two (codes "check ") r.user (codes " p") r.other
    else if nat_eq r.choice 2 then two (codes "deactivate ") r.user (codes " r") r.user
    else one (codes "status enabled r") r.other

abbrev pub time_line : ℕ → List ℕ
time_line minute = codes "@ " ++ civil_text minute

module _ (seed k : ℕ) where
  -- the lines of a round, numbered from 0
  abbrev pub round_lines : ℕ → List (List ℕ)
  round_lines n = time_line (minute_after seed k (n + 1)) ∷ one (codes "as u") (round seed k n).user
      ∷ request_line (round seed k n) ∷ []

  -- the script of a number of rounds
  abbrev pub script_lines : ℕ → List (List ℕ)
  script_lines rounds = time_line FIRST_MINUTE ∷ all_for_each opening k
      ++ flat_map round_lines (range_with_len 0 rounds)

unfoldable pub policy_text : ℕ → List ℕ
policy_text size = as_text (policy_lines (count_of size))

unfoldable pub script_text : ℕ → ℕ → List ℕ
script_text seed size = as_text (script_lines seed (count_of size) size)
