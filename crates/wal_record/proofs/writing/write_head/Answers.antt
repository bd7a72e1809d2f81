use Rattle.std.proofs.Common.{[], ◌∷◌, refl, arith}
use Rattle.byte_fields.specs.Written.{set-next, put-next}
use Rattle.wal_record.proofs.writing.write_head.Goals as goal

pub returns-clause-written : goal.returns-clause-written
returns-clause-written c =
    let old = c.args.out.now in
    let one = set-next old old [] 0 c.args.tag refl refl (omega arith) in
    let two = set-next old _ (c.args.tag ∷ []) 1 c.args.place.relation one refl (omega arith) in
    put-next old _ c.put_u32.new.bytes (c.args.tag ∷ c.args.place.relation ∷ []) 2 4 c.args.place.block two refl c.put_u32.ensures.put
