use Rattle.std.proofs.Common.{◌+◌, ◌*◌, ◌/◌, ◌%◌, append_assoc, codes, decimal}
use Rattle.demo_script.proofs.Texts.{insert_pieces}
use Rattle.demo_script.proofs.lines.make_insert.Goals as goal

pub returns : goal.returns
returns c =
    let row = c.args.row in
    let bytes = simp append_assoc at c.in_ok-write.ensures.bytes in
    let none = c.clear.ensures.bytes in
    rw bytes
    (rw none
    (insert_pieces (codes "d") (decimal (row % 4)) (codes " insert d ") (decimal row) (codes " ") (decimal ((c.args.seed + 37 * row) % 1000)) (codes " [") (codes ",") (decimal (row + 10)) (codes ") ")
    (codes "10.") (decimal (row / 65536)) (codes ".") (decimal (row / 256 % 256)) (decimal (row % 256))))
