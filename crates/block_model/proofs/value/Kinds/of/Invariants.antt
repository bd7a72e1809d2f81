use Rattle.std.proofs.Common.{◌≡◌, map, take}
use Rattle.block_model.specs.declared.limits.TheConstants.{MAX_COLUMNS}
use Rattle.block_model.specs.declared.schema.Column.{Column}
use Rattle.block_model.specs.declared.value.Kind.TheVariants.{Int}
use Rattle.block_model.specs.Padded.{padded}
use Rattle.block_model.proofs.value.Kinds.of.Given as goal

abbrev pub invariant-loop-at : goal.invariant-loop-at
invariant-loop-at l = l.slots ≡ padded MAX_COLUMNS Int (map (λ (c : Column). c.kind) (take l.at l.columns))
