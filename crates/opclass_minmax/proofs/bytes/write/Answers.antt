use Rattle.std.proofs.Common.{rules, FitsSigned, sym, ap, ◌∙◌, drop, ◌++◌}
use Rattle.std.specs.Int.{w64}
use Rattle.opclass_minmax.specs.Bounds.{Bounds}
use Rattle.opclass_minmax.specs.Encoding.{bytes_of}
use Rattle.opclass_minmax.proofs.Reading.{length-between, written_both}
use Rattle.opclass_minmax.proofs.bytes.write.Goals as goal

pub returns-in-Some-clause-size : goal.returns-in-Some-clause-size
returns-in-Some-clause-size c = rw (← c.in-Some.ensures.bounds) (sym (length-between c.in-Some.extremes.least c.in-Some.extremes.greatest))

pub returns-in-Some-clause-written : goal.returns-in-Some-clause-written
returns-in-Some-clause-written c =
    let fits : FitsSigned w64 c.in-Some.extremes.least = search rules in
    let also : FitsSigned w64 c.in-Some.extremes.greatest = search rules in
    written_both c.in-Some.extremes.least c.in-Some.extremes.greatest c.args.out.now c.put_i64.new.bytes c.put_i64-in-Some.new.bytes fits also c.put_i64.ensures.put c.put_i64-in-Some.ensures.put
    ∙ ap (λ (s : Bounds). bytes_of s ++ drop 16 c.args.out.now) c.in-Some.ensures.bounds
