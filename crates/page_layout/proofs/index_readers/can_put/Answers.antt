use Rattle.std.proofs.Common.{List, ℕ, sym, subst}
use Rattle.index_layout.specs.IndexWrites.{CanPut}
use Rattle.page_layout.proofs.index_readers.can_put.Goals as goal

pub returns-clause-can : goal.returns-clause-can
returns-clause-can c = λ e. subst (λ (p : List ℕ). CanPut p c.args.slot c.args.size) c.index_bytes.ensures.bytes (c.can_put.ensures.can e)

pub returns-clause-cannot : goal.returns-clause-cannot
returns-clause-cannot c = λ e can. c.can_put.ensures.cannot e (subst (λ (p : List ℕ). CanPut p c.args.slot c.args.size) (sym c.index_bytes.ensures.bytes) can)
