use Rattle.std.proofs.Common.{◌≡◌, ◌<◌, length, map, get_or, sym, ap, ◌∙◌, arith}
use Rattle.std.proofs.lemmas.List.{get_or-map, length-map}
use Rattle.range_tuple.specs.Tuples.{emptied}
use Rattle.range_tuple.proofs.ByPlace.{length-parts, part_at}
use Rattle.range_tuple.proofs.InPlace.{read_there, set_there}
use Rattle.range_tuple.proofs.columns.empty_out_each.Goals as goal

pub empty_out-requires : goal.empty_out-requires
empty_out-requires c =
    let old = c.args.columns.now in
    let spare = c.args.spare.now in
    let i = c.columns.i in
    let x = c.index-columns-i.result in
    let within : i < length old = omega (arith, c.columns-test.true) in
    let inside : i < length spare = omega (arith, length-parts old spare c.requires, within) in
    let was : x ≡ get_or old i x = c.index-columns-i.is ∙ read_there (map emptied old) old c.columns.columns i x (length-map old emptied) within c.columns.invariant in
    rw (← c.index-columns-i.is) (part_at old spare i x c.index-spare-i.result c.requires inside was c.index-spare-i.is)

pub columns-preserved : goal.columns-preserved
columns-preserved c =
    let old = c.args.columns.now in
    let goals = map emptied old in
    let i = c.columns.i in
    let x = c.index-columns-i.result in
    let y = c.empty_out.new.column in
    let long : length goals ≡ length old = length-map old emptied in
    let within : i < length old = omega (arith, c.columns-test.true) in
    let was : x ≡ get_or old i x = c.index-columns-i.is ∙ read_there goals old c.columns.columns i x long within c.columns.invariant in
    let is : y ≡ get_or goals i y = c.empty_out.ensures ∙ ap emptied (sym c.index-columns-i.is ∙ was) ∙ sym (get_or-map emptied old i x y within) in
    set_there goals old c.columns.columns i y long within c.columns.invariant is
