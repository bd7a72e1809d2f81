use Rattle.std.proofs.Common.{◌≡◌, ◌==◌, Bool, List, length}
use Rattle.block_model.specs.declared.schema.Part.{Part}
use Rattle.store_layout.specs.Limits.{are_distinct}
use Rattle.store_layout.proofs.layout.names.columns_are_distinct.Given as goal

abbrev pub invariant-parts : goal.invariant-parts
invariant-parts l =
    let distinct : List Part → Bool = are_distinct (λ a b. a.column == b.column) in
    distinct l.fn.parts ≡ distinct l.rest

abbrev pub decreases-parts : goal.decreases-parts
decreases-parts l = length l.rest
