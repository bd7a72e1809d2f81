use Rattle.std.proofs.Common.{rules, ◌<◌, ◌≤◌, ◌≡◌, ◌∙◌, ◌+◌, ap, length, length-append, arith, length-drop, take, drop, ◌-◌}
use Rattle.std.specs.Prelude.{sum_by}
use Rattle.std.proofs.lemmas.List.{length-take}
use Rattle.block_model.specs.RowSize.{value_size}
use Rattle.page_layout.proofs.Columns.{rest_sizes, rest_faults}
use Rattle.page_layout.proofs.column.+read_columns.Goals as goal

pub read_columns-requires : goal.read_columns-requires
read_columns-requires t c =
    let ks = c.args.kinds.now in
    let bytes = c.args.bytes.now in
    let at = c.from.result in
    let some : 0 < length ks = omega arith in
    let is = c.from.ensures ∙ c.value_size.ensures.size in
    let one_more : length c.push.new.self ≡ length c.args.values.now + 1 = ap length c.push.ensures ∙ length-append c.args.values.now _ in
    let room : length c.push.new.self + length (take (length ks - 1) (drop 1 ks)) ≤ 8 = omega (arith, c.requires.room, length-take (length ks - 1) (drop 1 ks), length-drop 1 ks) in
    let whole : length (take (length bytes - at) (drop at bytes)) ≡ sum_by value_size (take (length ks - 1) (drop 1 ks)) = omega (arith, c.requires.whole, rest_sizes ks some, is, length-take (length bytes - at) (drop at bytes), length-drop at bytes) in
    (search rules, (room, (whole, rest_faults ks c.args.bits bytes at some is c.requires.sound)))
