use Rattle.std.proofs.Common.{[], ◌∷◌, refl, ◌∙◌, arith, ◌++◌, drop}
use Rattle.std.specs.Int.{bytes_high_first}
use Rattle.index_layout.specs.Written.{set-next, put-next}
use Rattle.page_layout.proofs.column.write_network.Goals as goal

pub returns-clause-written : goal.returns-clause-written
returns-clause-written c =
    let old = c.args.out.now in
    let one = set-next old old [] 0 4 refl refl (omega arith) in
    let two = set-next old _ (4 ∷ []) 1 c.prefix.result one refl (omega arith) in
    let three = put-next old _ c.put_u32.new.bytes (4 ∷ c.prefix.result ∷ []) 2 4 c.address.result two refl c.put_u32.ensures.put in
    three ∙ (λ i. (4 ∷ c.prefix.ensures i ∷ bytes_high_first 4 (c.address.ensures i)) ++ drop 6 old)
