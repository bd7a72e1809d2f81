use Rattle.std.proofs.Common.{ap, ◌∙◌}
use Rattle.std.specs.Ordering.{nat_cmp}
use Rattle.model_laws.specs.ListedSessions.{sessions_of}
use Rattle.model_laws.proofs.KeyedLists.{none_listed}
use Rattle.model_laws.proofs.sessions.Sessions.new.Goals as goal

pub returns : goal.returns
returns c = ap sessions_of c.new.ensures.items ∙ none_listed nat_cmp
