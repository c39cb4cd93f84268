use Rattle.gen_laws.proofs.Script.{script_is_said, script_is_born}
use Rattle.gen_laws.proofs.made_script_is_said.Goals as goal

pub returns : goal.returns
returns c = record { said = script_is_said; born = script_is_born }
