use Rattle.std.proofs.Common.{rules}
use Rattle.turn_lock.proofs.Seated.{releases_at}
use Rattle.turn_lock.proofs.steps.release.Goals as goal

pub fetch_add-served-requires : goal.fetch_add-served-requires
fetch_add-served-requires g c = (search rules, search rules, releases_at g.M.Keeps.list g.M.Keeps.same_root c.args.top.now.key _ _ _ c.args.top.now.key.value.value _ _ _ c.requires.kept)
