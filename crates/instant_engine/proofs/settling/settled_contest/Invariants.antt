use Rattle.instant_engine.proofs.settling.settled_contest.Given as goal

-- a ledger of one part, which nobody asks
abbrev pub ghosts-settled_over : goal.ghosts-settled_over
ghosts-settled_over a = record { name = a.blank.name; parts = a.blank.parts }
