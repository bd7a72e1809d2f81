use Rattle.std.proofs.Common.{◌≡◌, ℕ, Bool, List, not, ◌==◌, ap, sym, ◌∙◌}
use Rattle.std.specs.List.{filter}
use Rattle.std.specs.Ordering.{nat_cmp, eq_by_cmp}
use Rattle.std.specs.FinMap.{remove}
use Rattle.std.specs.FinMap.Entries.{where_key}
use Rattle.std.specs.Cmp.{unsigned_tied}
use Rattle.std.proofs.lemmas.Cmp.{nat_cmp_total}
use Rattle.std.proofs.lemmas.Map.Lookups.{exact_unsigned}
use Rattle.model_laws.specs.declared.sessions.Session.{Session}
use Rattle.model_laws.specs.ListedSessions.{at_numbers}
use Rattle.model_laws.proofs.KeyedLists.{filter_keyed, sorted_filter, remove_listed}
use Rattle.model_laws.proofs.sessions.Sessions.remove.Goals as goal

left : (n : ℕ) (ss ss' : List Session) → ss' ≡ filter (λ (s : Session). not (n == s.number)) ss → at_numbers ss' ≡ where_key nat_cmp (λ m. not (eq_by_cmp nat_cmp n m)) (at_numbers ss)
left n ss ss' e = ap at_numbers e ∙ filter_keyed nat_cmp (λ (s : Session). (s.number, s.transaction)) (λ m. not (n == m)) ss
    ∙ ap (λ (p : ℕ → Bool). where_key nat_cmp p (at_numbers ss)) (λ i m. not (sym (unsigned_tied n m) i))

pub invariant_of-self : goal.invariant_of-self
invariant_of-self c = sorted_filter nat_cmp (λ m. not (eq_by_cmp nat_cmp c.args.number m)) (at_numbers c.self.inside.items.items) (at_numbers c.remove_session.new.sessions.items) c.self.invariant (left c.args.number _ _ c.remove_session.ensures)

pub returns : goal.returns
returns c = remove_listed nat_cmp nat_cmp_total exact_unsigned c.args.number (at_numbers c.self.inside.items.items) (at_numbers c.remove_session.new.sessions.items) c.self.invariant (left c.args.number _ _ c.remove_session.ensures)
    ∙ ap (λ m. remove m c.args.number) c.self.view_is
