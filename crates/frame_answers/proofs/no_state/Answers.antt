-- Field by field it is the definition of the zeros.
use Rattle.std.proofs.Common.{refl}
use Rattle.run_state.specs.Contract.{zeros}
use Rattle.frame_answers.proofs.no_state.Goals as goal

pub returns : goal.returns
unfolding zeros
returns c = refl
