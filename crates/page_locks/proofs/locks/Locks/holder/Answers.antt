use Rattle.std.proofs.Common.{◌≡◌, List, subst, sym, ◌∙◌}
use Rattle.page_locks.specs.declared.held.Held.{Held}
use Rattle.page_locks.specs.LockHolders.{LockState, holder}
use Rattle.page_locks.specs.HeldLocks.{found}
use Rattle.page_locks.proofs.Entries.{held_in_map}
use Rattle.page_locks.proofs.locks.Locks.holder.Goals as goal

pub returns : goal.returns
returns c = subst (λ (s : LockState). c.holder_in.result ≡ holder s c.args.page) c.self.view_is
    (subst (λ (xs : List Held). c.holder_in.result ≡ found xs c.args.page) c.as_slice.ensures.value c.holder_in.ensures ∙ sym (held_in_map c.self.inside.held.items c.args.page))
