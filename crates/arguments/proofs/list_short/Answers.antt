-- It is the rule's test.
use Rattle.std.proofs.Common.{refl}
use Rattle.rules_schedule.specs.Schedules.{most_made}
use Rattle.arguments.specs.Terms.{list_short}
use Rattle.arguments.proofs.list_short.Goals as goal

pub returns : goal.returns
unfolding list_short most_made
returns c = refl
