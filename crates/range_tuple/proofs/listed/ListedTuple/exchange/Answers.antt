use Rattle.std.proofs.Common.{◌≡◌, List, length, sym, ap, ◌∙◌, subst, arith}
use Rattle.std.proofs.lemmas.List.{with_items_is}
use Rattle.range_tuple.specs.KeptColumns.{AreKept}
use Rattle.range_tuple.specs.Tuples.{IndexedColumn, Tuple, parts_of}
use Rattle.range_tuple.proofs.ByPlace.{length-parts, same_room}
use Rattle.range_tuple.proofs.listed.ListedTuple.exchange.Goals as goal

pub invariant_of-self : goal.invariant_of-self
invariant_of-self c =
    let v = c.self.inside.columns.items in
    let new = c.exchange_each.new.columns in
    let same : parts_of new ≡ parts_of v.items = ap parts_of c.exchange_each.ensures.taken ∙ sym c.requires ∙ ap (λ (t : Tuple). parts_of t.columns) (sym c.self.view_is) in
    let long : length new ≡ v.len = length-parts new v.items same ∙ sym v.ok.0 in
    subst (λ (columns : List IndexedColumn). AreKept c.args.range columns) (sym (with_items_is v new long)) (record {
      range_fits = c.ranges.range.fits;
      some = omega (arith, c.self.invariant.some, length-parts new v.items same);
      fits = omega (arith, c.self.invariant.fits, same_room new v.items same);
    })
