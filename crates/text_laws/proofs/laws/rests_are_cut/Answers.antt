use Rattle.gt_text.specs.Lines.{without_return}
use Rattle.text_laws.proofs.Cutting.{rest_cut}
use Rattle.text_laws.proofs.laws.rests_are_cut.Goals as goal

pub returns : goal.returns
returns c = record { rests = rest_cut; expressions = λ line. rest_cut 4 (without_return line) }
