use Rattle.std.proofs.Common.{◌+◌, ◌/◌, append_assoc, codes, decimal, slice_index_or}
use Rattle.demo_script.proofs.Texts.{summary_pieces}
use Rattle.demo_script.proofs.counts.render_summary.Goals as goal

pub returns-in-Ok : goal.returns-in-Ok
returns-in-Ok c =
    let counts = c.args.counts.now in
    let bytes = simp append_assoc at c.in-Ok.ensures.bytes in
    rw (bytes, c.from.ensures)
    (summary_pieces c.args.out.now.items (codes "rows") (codes "blocks") (codes "ranges") (codes "found ") (codes "read") (codes " ") (codes "\n") (decimal counts.rows) (decimal c.args.blocks)
    (decimal ((c.args.blocks + 15) / 16)) (decimal (slice_index_or counts.found 0 0)) (decimal (slice_index_or counts.found 1 0)) (decimal (slice_index_or counts.found 2 0)) (decimal (slice_index_or counts.found 3 0))
    (decimal counts.read))
