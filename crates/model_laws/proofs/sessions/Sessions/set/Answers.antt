use Rattle.std.proofs.Common.{ap, ◌∙◌}
use Rattle.std.specs.Ordering.{nat_cmp}
use Rattle.std.specs.FinMap.{insert}
use Rattle.std.proofs.lemmas.Cmp.{nat_cmp_total}
use Rattle.model_laws.specs.ListedSessions.{at_numbers}
use Rattle.model_laws.proofs.KeyedLists.{sorted_put, insert_listed}
use Rattle.model_laws.proofs.sessions.Sessions.set.Goals as goal

pub invariant_of-self-2 : goal.invariant_of-self-2
invariant_of-self-2 c = sorted_put nat_cmp nat_cmp_total (at_numbers c.self.inside.items.items) (at_numbers c.put_session.new.sessions.items) c.args.number c.args.transaction c.self.invariant c.in_ok-put_session.ensures.ok

pub returns-clause-ok : goal.returns-clause-ok
returns-clause-ok c = insert_listed nat_cmp nat_cmp_total (at_numbers c.self.inside.items.items) (at_numbers c.put_session.new.sessions.items) c.args.number c.args.transaction c.self.invariant c.in_ok-put_session.ensures.ok
    ∙ ap (λ m. insert m c.args.number c.args.transaction) c.self.view_is
