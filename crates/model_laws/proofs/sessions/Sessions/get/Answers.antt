use Rattle.std.proofs.Common.{ap, sym, ◌∙◌}
use Rattle.std.specs.Ordering.{nat_cmp}
use Rattle.std.specs.FinMap.{find, get}
use Rattle.model_laws.specs.ListedSessions.{at_numbers}
use Rattle.model_laws.proofs.KeyedLists.{get_listed}
use Rattle.model_laws.proofs.sessions.Sessions.get.Goals as goal

pub returns : goal.returns
returns c = c.find_transaction.ensures ∙ ap (λ l. find nat_cmp c.args.number (at_numbers l)) c.as_slice.ensures.value
    ∙ sym (get_listed nat_cmp (at_numbers c.self.inside.items.items) c.args.number c.self.invariant) ∙ ap (λ m. get m c.args.number) c.self.view_is
