use Rattle.std.proofs.Common.{◌≡◌, length, sym, ap, ◌∙◌}
use Rattle.std.proofs.lemmas.List.{length-map, with_items_is}
use Rattle.range_tuple.specs.SameIndex.{parts-emptied}
use Rattle.range_tuple.specs.Tuples.{Tuple, emptied, parts_of}
use Rattle.range_tuple.proofs.listed.ListedTuple.restart.Goals as goal

pub returns-clause-same_index : goal.returns-clause-same_index
returns-clause-same_index c =
    let v = c.self.inside.columns.items in
    let old = c.deref_mut.result.now in
    let new = c.empty_out_each.new.columns in
    let long : length new ≡ v.len = ap length c.empty_out_each.ensures ∙ length-map old emptied ∙ ap length c.deref_mut.ensures.value ∙ sym v.ok.0 in
    ap parts_of (with_items_is v new long ∙ c.empty_out_each.ensures) ∙ parts-emptied old ∙ ap parts_of c.deref_mut.ensures.value ∙ ap (λ (t : Tuple). parts_of t.columns) c.self.view_is
