use Rattle.std.proofs.Common.{length, sym, ap, ◌∙◌}
use Rattle.store_layout.specs.DiskLayout.{DiskLayout}
use Rattle.session_starts.proofs.Fits.{parts_opened}
use Rattle.session_starts.proofs.Starts.{opened_start}
use Rattle.session_starts.proofs.parts.open_parts.Goals as goal

pub returns-in-Ok-start-clause-opened : goal.returns-in-Ok-start-clause-opened
returns-in-Ok-start-clause-opened g c =
    let started = c.in-Ok-start.ensures in
    parts_opened g.D.Disk.told _ c.count_tables.result started.over started.opened started.opens c.in-Ok-new.ensures c.known-2.ensures.counted c.in-Ok-new-2.ensures
    (c.count_tables.ensures ∙ ap (λ (l : DiskLayout). length l.schema.tables) (c.layout.ensures ∙ sym c.start.ensures.kept.leaves.layout))
    c.new-in-Ok-start.ensures.entries c.new-in-Ok-start.ensures.promised c.in-Ok-new-3.ensures c.in-Ok-new-4.ensures.none

pub returns-in-Ok-start-clause-starts : goal.returns-in-Ok-start-clause-starts
returns-in-Ok-start-clause-starts g c = λ tells fresh.
    opened_start g.D.Disk.told c.args.pages _ c.layout-in-Ok-start.result.now c.a_new_store_is_at_its_start.ensures c.layout-in-Ok-start.ensures (returns-in-Ok-start-clause-opened g c) c.start.ensures.kept tells fresh

pub returns-in-Ok-start-clause-fits : goal.returns-in-Ok-start-clause-fits
returns-in-Ok-start-clause-fits g c = λ n below. c.opened_parts_fit.ensures _ n (returns-in-Ok-start-clause-opened g c) below
