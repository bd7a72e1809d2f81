use Rattle.std.proofs.Common.{subst}
use Rattle.store_layout.specs.DiskLayout.{DiskLayout, HasBoundedSizes}
use Rattle.index_steps.specs.DamagedPages.{names_map}
use Rattle.index_steps.proofs.moving.name_moved.Goals as goal

pub returns-in-Err-Store-clause-at : goal.returns-in-Err-Store-clause-at
returns-in-Err-Store-clause-at g c = names_map c.args.pages.now.layout c.args.at.index c.args.at.range c.in-Err-Store.error c.requires.index
    (subst (λ (l : DiskLayout). HasBoundedSizes l) c.layout.ensures c.known.ensures.sizes).some_index_blocks (rw c.in-Err-Store.field-0-is at c.in-Err-Store.ensures.at)
