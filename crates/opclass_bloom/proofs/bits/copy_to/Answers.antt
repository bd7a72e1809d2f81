use Rattle.std.proofs.Common.{◌≤◌, ◌++◌, List, ℕ, length, drop, sym, ap, ◌∙◌, length-take-le}
use Rattle.opclass_bloom.proofs.Bytes.{bytes_again}
use Rattle.opclass_bloom.proofs.bits.copy_to.Goals as goal

pub slice_bounds-copy_from_slice-end : goal.slice_bounds-copy_from_slice-end
slice_bounds-copy_from_slice-end c = rw (bytes_again c.args.bytes.now c.type_inv.bytes) at c.requires

pub slice_bounds-copy_from_slice-end-2 : goal.slice_bounds-copy_from_slice-end-2
slice_bounds-copy_from_slice-end-2 c =
    let room : length c.args.bytes.now ≤ length c.args.out.now = rw (bytes_again c.args.bytes.now c.type_inv.bytes) at c.requires in
    sym (length-take-le (length c.args.bytes.now) c.args.out.now room)

pub copy_from_slice-requires : goal.copy_from_slice-requires
copy_from_slice-requires c =
    let room : length c.args.bytes.now ≤ length c.args.out.now = rw (bytes_again c.args.bytes.now c.type_inv.bytes) at c.requires in
    length-take-le (length c.args.bytes.now) c.args.out.now room

pub returns-clause-size : goal.returns-clause-size
returns-clause-size c = ap length (sym (bytes_again c.args.bytes.now c.type_inv.bytes))

pub returns-clause-written : goal.returns-clause-written
returns-clause-written c = ap (λ (bytes : List ℕ). bytes ++ drop (length c.args.bytes.now) c.args.out.now) (c.copy_from_slice.ensures.after ∙ sym (bytes_again c.args.bytes.now c.type_inv.bytes))
