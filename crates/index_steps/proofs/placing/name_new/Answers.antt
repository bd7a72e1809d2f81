use Rattle.std.proofs.Common.{subst}
use Rattle.store_layout.specs.DiskLayout.{DiskLayout, HasBoundedSizes}
use Rattle.index_contents.specs.IndexContents.{contents, relation_of}
use Rattle.page_locks.specs.LockHolders.{holder}
use Rattle.index_steps.specs.IndexTuples.{shape_of}
use Rattle.index_steps.specs.DamagedPages.{names_map}
use Rattle.index_steps.specs.LockLaws.{gives_apart}
use Rattle.index_steps.proofs.NewTuples.{new_names, placing_holds, placing_past}
use Rattle.index_steps.proofs.placing.name_new.Goals as goal

pub set-requires-clause-map : goal.set-requires-clause-map
set-requires-clause-map g c = λ tells none.
    let old = c.args.pages.now in
    placing_holds (shape_of old.layout c.args.at.index) (contents old.layout old.pages c.args.at.index) c.args.at.range c.args.to (c.requires.placing tells)

pub set-requires-clause-spot : goal.set-requires-clause-spot
set-requires-clause-spot g c = λ tells.
    let old = c.args.pages.now in
    placing_past (shape_of old.layout c.args.at.index) (contents old.layout old.pages c.args.at.index) c.args.at.range c.args.to (c.requires.placing tells)

pub returns-in-Ok-clause-named : goal.returns-in-Ok-clause-named
returns-in-Ok-clause-named g c = λ tells.
    let old = c.args.pages.now in
    let at = c.args.at in
    new_names (shape_of old.layout at.index) (contents old.layout old.pages at.index) (contents old.layout c.set.new.pages.pages at.index) (holder c.args.locks.now) (holder c.drop_all.new.self) (relation_of old.layout at.index) at.actor at.range c.args.to
    (c.in-Ok.ensures.set tells) c.drop_all.ensures.given

pub returns-in-Ok-clause-apart : goal.returns-in-Ok-clause-apart
returns-in-Ok-clause-apart g c = gives_apart (relation_of c.args.pages.now.layout c.args.at.index) c.args.at.actor (holder c.args.locks.now) (holder c.drop_all.new.self) c.drop_all.ensures.given

pub returns-in-Err-Store-clause-at : goal.returns-in-Err-Store-clause-at
returns-in-Err-Store-clause-at g c = names_map c.args.pages.now.layout c.args.at.index c.args.at.range c.in-Err-Store.error c.requires.index
    (subst (λ (l : DiskLayout). HasBoundedSizes l) c.layout.ensures c.known.ensures.sizes).some_index_blocks (rw c.in-Err-Store.field-0-is at c.in-Err-Store.ensures.at)
