use Rattle.std.proofs.Common.{arith}
use Rattle.store_format.specs.ControlBytes.{sizes_bytes}
use Rattle.store_format.specs.ShortSchema.{IsShort}
use Rattle.store_format.proofs.Fits.{limits_short, schema_length}
use Rattle.store_format.proofs.page.write_layout.Goals as goal

pub write_sizes-requires : goal.write_sizes-requires
unfolding sizes_bytes
write_sizes-requires c = rw c.write_head.ensures (omega arith)

pub write_schema-requires-clause-short : goal.write_schema-requires-clause-short
write_schema-requires-clause-short c =
    let d = c.args.layout.now in
    rw c.schema.ensures (limits_short d.schema d.sizes c.known.ensures.limits c.known.ensures.sizes.few_tables c.known.ensures.sizes.few_indexes)

pub write_schema-requires-clause-room : goal.write_schema-requires-clause-room
unfolding sizes_bytes
write_schema-requires-clause-room c =
    let d = c.args.layout.now in
    let short : IsShort d.schema = limits_short d.schema d.sizes c.known.ensures.limits c.known.ensures.sizes.few_tables c.known.ensures.sizes.few_indexes in
    rw (c.write_sizes.ensures, c.write_head.ensures, c.schema.ensures) (omega (arith, schema_length d.schema short))
