-- an index that is found by its relation
use Rattle.std.proofs.Common.{◌≡◌, ◌<◌, ℕ, length, Some, slice_get, ap, ◌∙◌, arith}
use Rattle.store_layout.specs.DiskLayout.{DiskLayout}
use Rattle.index_contents.specs.IndexContents.{relation_of}
use Rattle.index_steps.specs.ShownTable.{indexes_of}
use Rattle.session_maintenance.specs.Settled.{IsIndexRelation}

pub found_below : (layout : DiskLayout) (relation index : ℕ) → relation_of layout index ≡ relation → IsIndexRelation layout relation → index < length layout.schema.indexes
found_below layout relation index is of = let same = is ∙ of.2 in let below = of.1 in omega (arith, same, below)

-- it stands where that one does
pub found_there : (layout : DiskLayout) (relation index number table at : ℕ) → relation_of layout index ≡ relation → relation ≡ relation_of layout number → slice_get (indexes_of layout table) at ≡ Some number → slice_get (indexes_of layout table) at ≡ Some index
found_there layout relation index number table at is of there = let same = is ∙ of in there ∙ ap Some (omega (arith, same))
