use Rattle.std.proofs.Common.{[], ◌∷◌, ◌++◌, refl, arith}
use Rattle.std.specs.Int.{bytes_high_first}
use Rattle.page_layout.specs.RowBytes.{head_bytes}
use Rattle.index_layout.specs.Written.{set-next, put-next}
use Rattle.page_layout.proofs.row.write_head.Goals as goal

pub returns-clause-written : goal.returns-clause-written
unfolding head_bytes
returns-clause-written c =
    let old = c.args.out.now in
    let id = c.args.id in
    let one = set-next old old [] 0 1 refl refl (omega arith) in
    let two = put-next old _ c.put_u64.new.bytes (1 ∷ []) 1 8 id.t one refl c.put_u64.ensures.put in
    let three = put-next old _ c.put_u32.new.bytes (1 ∷ bytes_high_first 8 id.t) 9 4 id.k two refl c.put_u32.ensures.put in
    let four = put-next old _ c.put_u64-2.new.bytes (1 ∷ (bytes_high_first 8 id.t ++ bytes_high_first 4 id.k)) 13 8 c.args.deleter three refl c.put_u64-2.ensures.put in
    set-next old c.put_u64-2.new.bytes (1 ∷ (bytes_high_first 8 id.t ++ bytes_high_first 4 id.k ++ bytes_high_first 8 c.args.deleter)) 21 c.args.bits four refl (omega arith)
