use Rattle.std.proofs.Common.{◌<◌, length, subst, arith}
use Rattle.page_store.specs.LoggedState.{LoggedState}
use Rattle.std.specs.Prelude.{IfSome}
use Rattle.buffer_pool.specs.NextDirty.{IsNextDirty}
use Rattle.page_store.proofs.Exits.{next_small, next_within}
use Rattle.page_store.proofs.logged.LoggedPages.next_dirty.Goals as goal

pub returns-clause-next : goal.returns-clause-next
returns-clause-next g c =
    subst (λ (x : LoggedState g.row.D.Denot). IsNextDirty x.pool c.args.from c.next_dirty.result) c.self.view_is c.next_dirty.ensures.next

pub returns-clause-within : goal.returns-clause-within
returns-clause-within g c =
    subst (λ (x : LoggedState g.row.D.Denot). IfSome c.next_dirty.result (λ number. number < length x.marks)) c.self.view_is (next_within (g.D.Disk.told c.self.inside.disk) c.self.inside.layout c.self.inside.log c.self.inside.pool c.self.inside.marks.items c.self.inside.waiting c.self.inside.failed c.pages_fill_the_disk.ensures c.self.invariant c.args.from c.next_dirty.result c.next_dirty.ensures.next)

pub returns-clause-small : goal.returns-clause-small
returns-clause-small g c =
    let size = c.size-size.type_inv in
    next_small (g.D.Disk.told c.self.inside.disk) c.self.inside.layout c.self.inside.log c.self.inside.pool c.self.inside.marks.items c.self.inside.waiting c.self.inside.failed c.pages_fill_the_disk.ensures c.self.invariant (omega (arith, size, c.size-size.ensures)) c.args.from c.next_dirty.result c.next_dirty.ensures.next
