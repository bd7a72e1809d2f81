use Rattle.std.proofs.Common.{List, arith}
use Rattle.snapshot_core.specs.declared.statuses.Status.{Status}
use Rattle.snapshot_core.specs.declared.statuses.Status.TheVariants.{Committed}
use Rattle.tx_table.specs.Statuses.{with_all}
use Rattle.tx_table.proofs.Parts.{part_all, part_then}
use Rattle.tx_table.proofs.Stores.{all_some, committed_used, each_kept, leaves_then, over_all, rest_kept, rest_then, started_of}
use Rattle.tx_table.proofs.table.TxTable.commit_all.Goals as goal

pub set_each-requires-clause-numbers : goal.set_each-requires-clause-numbers
set_each-requires-clause-numbers g c = λ k d there. let own = c.requires.own k d there in omega (arith, own.given, c.requires.over.within)

pub set_each-requires-clause-started : goal.set_each-requires-clause-started
set_each-requires-clause-started g c = λ tells k d there. started_of g.D.Disk.told c.args.self.now c.args.pages.now _ c.requires.over (c.requires.own k d there).given (λ tells statuses has. c.requires.begun tells statuses has k d there) tells

pub returns-in-Ok-clause-rest : goal.returns-in-Ok-clause-rest
returns-in-Ok-clause-rest g c =
    let told = g.D.Disk.told in
    let mid = c.set_each.new.pages in
    let new = c.flush.new.pages in
    rest_then told c.args.pages.now mid new c.in-Ok.ensures.rest (rest_kept told mid new c.flush.ensures.kept)

pub returns-in-Ok-clause-over : goal.returns-in-Ok-clause-over
returns-in-Ok-clause-over g c =
    let told = g.D.Disk.told in
    let old = c.args.pages.now in
    let mid = c.set_each.new.pages in
    let new = c.flush.new.pages in
    let list = c.args.list.now in
    over_all told c.args.self.now old new list Committed c.requires.over (leaves_then told old mid new c.in-Ok.ensures.rest.leaves c.flush.ensures.kept.leaves) c.requires.own committed_used
    (all_some told old new list Committed (each_kept told old mid new (λ (statuses : List Status). with_all statuses list Committed) c.in-Ok.ensures.rest.leaves c.flush.ensures.kept c.in-Ok.ensures.set))

pub returns-in-Err-clause-over : goal.returns-in-Err-clause-over
returns-in-Err-clause-over g c = over_all g.D.Disk.told c.args.self.now c.args.pages.now c.set_each.new.pages c.args.list.now Committed c.requires.over c.in-Err.ensures.rest.leaves c.requires.own committed_used c.in-Err.ensures.some

pub returns-in-Ok-clause-survives : goal.returns-in-Ok-clause-survives
returns-in-Ok-clause-survives g c =
    let told = g.D.Disk.told in
    let old = c.args.pages.now in
    let mid = c.set_each.new.pages in
    part_then told old mid c.flush.new.pages c.args.list.now Committed c.in-Ok.ensures.rest.leaves.layout
    (part_all told old mid c.args.list.now Committed c.in-Ok.ensures.rest c.in-Ok.ensures.set) c.in-Ok.ensures.survives c.flush.ensures.survives
