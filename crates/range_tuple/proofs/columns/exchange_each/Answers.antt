use Rattle.std.proofs.Common.{◌≡◌, ◌<◌, length, get_or, sym, ◌∙◌, arith}
use Rattle.std.proofs.lemmas.List.{get_or_default}
use Rattle.range_tuple.proofs.ByPlace.{length-parts, part_at}
use Rattle.range_tuple.proofs.InPlace.{read_there, set_there}
use Rattle.range_tuple.proofs.columns.exchange_each.Goals as goal

pub exchange-requires : goal.exchange-requires
exchange-requires c =
    let old = c.args.columns.now in
    let spare = c.args.spare.now in
    let i = c.columns.i in
    let x = c.index-columns-i.result in
    let o = c.index-spare-i.result in
    let long : length spare ≡ length old = sym (length-parts old spare c.requires) in
    let within : i < length old = omega (arith, c.columns-test.true) in
    let inside : i < length spare = omega (arith, long, within) in
    let was : x ≡ get_or old i x = c.index-columns-i.is ∙ read_there spare old c.columns.columns i x long within c.columns.invariant.taken in
    let other : o ≡ get_or spare i o = c.index-spare-i.is ∙ read_there old spare c.columns.spare i o (sym long) inside c.columns.invariant.given in
    rw (← c.index-columns-i.is, ← c.index-spare-i.is) (part_at old spare i x o c.requires inside was other)

pub columns-preserved : goal.columns-preserved
columns-preserved c =
    let old = c.args.columns.now in
    let spare = c.args.spare.now in
    let i = c.columns.i in
    let x = c.index-columns-i.result in
    let o = c.index-spare-i.result in
    let long : length spare ≡ length old = sym (length-parts old spare c.requires) in
    let within : i < length old = omega (arith, c.columns-test.true) in
    let inside : i < length spare = omega (arith, long, within) in
    let was : x ≡ get_or old i x = c.index-columns-i.is ∙ read_there spare old c.columns.columns i x long within c.columns.invariant.taken in
    let other : o ≡ get_or spare i o = c.index-spare-i.is ∙ read_there old spare c.columns.spare i o (sym long) inside c.columns.invariant.given in
    let y = c.exchange.new.column in
    let z = c.exchange.new.self in
    let taken : y ≡ get_or spare i y = c.exchange.ensures.given ∙ sym c.index-spare-i.is ∙ other ∙ get_or_default spare i o y inside in
    let given : z ≡ get_or old i z = c.exchange.ensures.taken ∙ sym c.index-columns-i.is ∙ was ∙ get_or_default old i x z within in
    record {
      taken = set_there spare old c.columns.columns i y long within c.columns.invariant.taken taken;
      given = set_there old spare c.columns.spare i z (sym long) inside c.columns.invariant.given given;
    }
