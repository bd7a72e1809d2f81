use Rattle.std.proofs.Common.{rules, FitsSigned, ap, ◌∙◌, ℕ, List, ◌++◌, drop}
use Rattle.std.specs.Int.{w64, bytes_high_first, cast_unsigned}
use Rattle.page_layout.proofs.Numbers.{written-signed, bound_number}
use Rattle.page_layout.proofs.column.write_bound.Goals as goal

pub returns-clause-written : goal.returns-clause-written
returns-clause-written c =
    let old = c.args.out.now in
    let fits : FitsSigned w64 c.unwrap_or.result = search rules in
    written-signed c.unwrap_or.result old c.put_i64.new.bytes fits c.put_i64.ensures.put
    ∙ ap (λ (z : Rattle.std.proofs.Common.ℤ). bytes_high_first 8 (cast_unsigned w64 z) ++ drop 8 old) c.unwrap_or.ensures
    ∙ ap (λ (b : List ℕ). b ++ drop 8 old) (bound_number c.args.bound)
