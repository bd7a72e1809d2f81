use Rattle.std.proofs.Common.{◌≡◌, ◌++◌, List, take, drop, subst, arith, ◌∙◌, eq-eqb}
use Rattle.std.specs.Ordering.{nat_cmp}
use Rattle.std.specs.FinMap.{put}
use Rattle.std.specs.Cmp.{unsigned_tied}
use Rattle.std.proofs.lemmas.Map.Lookups.{exact_unsigned}
use Rattle.model_laws.specs.declared.sessions.Session.{Session}
use Rattle.model_laws.specs.ListedSessions.{at_numbers}
use Rattle.model_laws.proofs.KeyedLists.{put_in_place, tied}
use Rattle.model_laws.proofs.sessions.put_session.Goals as goal

pub returns-then-session-index-clause-ok : goal.returns-then-session-index-clause-ok
returns-then-session-index-clause-ok c = put_in_place nat_cmp (λ (s : Session). (s.number, s.transaction)) exact_unsigned c.place_in-at.result c.index.result.now c.args.session c.args.sessions.now.items (omega (arith, c.if-at-len.true, c.args.sessions.now.ok)) c.index.ensures
    (tied (nat_cmp c.args.session.number c.index.result.now.number) (unsigned_tied c.args.session.number c.index.result.now.number ∙ eq-eqb c.args.session.number c.index.result.now.number c.if-session-index.true))
    (subst (λ (sessions : List Session). put nat_cmp c.args.session.number c.args.session.transaction (at_numbers sessions) ≡ at_numbers (take c.place_in-at.result sessions) ++ put nat_cmp c.args.session.number c.args.session.transaction (at_numbers (drop c.place_in-at.result sessions)))
    c.as_slice.ensures.value (c.place_in-at.ensures.before c.args.session.transaction))
