use Rattle.std.proofs.Common.{List, ℕ, sym, subst}
use Rattle.index_layout.specs.IndexWrites.{CanDrop}
use Rattle.page_layout.proofs.index_readers.can_drop.Goals as goal

pub returns-clause-can : goal.returns-clause-can
returns-clause-can c = λ e. subst (λ (p : List ℕ). CanDrop p c.args.dropped.now) c.index_bytes.ensures.bytes (c.can_drop.ensures.can e)

pub returns-clause-cannot : goal.returns-clause-cannot
returns-clause-cannot c = λ e can. c.can_drop.ensures.cannot e (subst (λ (p : List ℕ). CanDrop p c.args.dropped.now) (sym c.index_bytes.ensures.bytes) can)
