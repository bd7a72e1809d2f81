use Rattle.std.proofs.Common.{ap, length, arith}
use Rattle.packed_requests.specs.Packed.{Packed}
use Rattle.packed_requests.proofs.ReadBack.{length-entries}
use Rattle.packed_requests.proofs.packed.PackedEntries.len.Goals as goal

pub returns : goal.returns
returns c =
    let a = c.self.inside in
    omega (arith, c.len.ensures, a.heads.ok, length-entries a.heads.items a.shapes.items a.numbers.items a.queries.items, ap (λ (p : Packed). length p.entries) c.self.view_is)
