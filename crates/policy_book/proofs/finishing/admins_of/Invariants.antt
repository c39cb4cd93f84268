use Rattle.std.proofs.Common.{◌≡◌, ◌-◌, ◌++◌, filter}
use Rattle.gtrbac_model.specs.Same.{lists, same_user}
use Rattle.policy_words.specs.Making.{users_from}
use Rattle.policy_book.proofs.finishing.admins_of.Given as goal

abbrev pub invariant-loop-n : goal.invariant-loop-n
invariant-loop-n l =
    l.found.items ++ filter (lists same_user l.admins.keys) (users_from l.n (l.users - l.n)) ≡ filter (lists same_user l.admins.keys) (users_from 0 l.users)
