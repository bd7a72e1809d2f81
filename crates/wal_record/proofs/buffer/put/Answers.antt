use Rattle.std.proofs.Common.{arith}
use Rattle.wal_record.specs.Changes.{logged}
use Rattle.wal_record.proofs.Sizes.{least_size}
use Rattle.wal_record.proofs.buffer.put.Goals as goal

pub returns-clause-least : goal.returns-clause-least
returns-clause-least c = omega (arith, least_size (logged c.args.change.now), c.encode.ensures.size)
