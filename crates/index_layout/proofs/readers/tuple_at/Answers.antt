use Rattle.std.proofs.Common.{◌≡◌, ℕ, ◌+◌, ◌-◌, ◌*◌, take, drop, refl, ap, ◌∙◌, arith}
use Rattle.std.specs.Prelude.{Some}
use Rattle.index_layout.proofs.Reading.{tuple_read}
use Rattle.index_layout.proofs.readers.tuple_at.Goals as goal

pub returns : goal.returns
returns c =
    let page = c.args.page.now in
    let slot = c.args.slot in
    let size = c.size_at-size.result in
    let offset = c.offset_at-offset.result in
    let width : offset + size - offset ≡ size = omega arith in
    ap (λ (n : ℕ). Some (take n (drop offset page))) width
    ∙ tuple_read page slot (32 + slot * 4) offset size (c.page_known.ensures.has (omega arith)) (omega arith) refl (omega arith) c.size_at-size.ensures.read c.offset_at-offset.ensures.read
