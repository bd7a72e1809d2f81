use Rattle.std.proofs.Common.{◌≡◌, All, List, length, sym, ap, ◌∙◌, subst}
use Rattle.std.proofs.lemmas.List.{with_items_is}
use Rattle.range_tuple.specs.KeptColumns.{AreKept}
use Rattle.range_tuple.specs.TupleIncludes.{ColumnIncludes}
use Rattle.range_tuple.specs.Tuples.{IndexedColumn, Tuple, parts_of, united_columns}
use Rattle.range_tuple.proofs.ByPlace.{kept_after, length-united, parts-united}
use Rattle.range_tuple.proofs.listed.ListedTuple.unite.Goals as goal

pub invariant_of-self : goal.invariant_of-self
invariant_of-self c =
    let v = c.self.inside.columns.items in
    let new = c.unite_each.new.columns in
    let widened : new ≡ united_columns v.items c.deref.result.now = c.unite_each.ensures.widened ∙ ap (λ (columns : List IndexedColumn). united_columns columns c.deref.result.now) c.deref_mut.ensures.value in
    let long : length new ≡ v.len = ap length widened ∙ length-united v.items c.deref.result.now ∙ sym v.ok.0 in
    subst (λ (columns : List IndexedColumn). AreKept c.self.inside.range columns) (sym (with_items_is v new long)) (kept_after c.self.inside.range v.items new c.self.invariant (ap parts_of widened ∙ parts-united v.items c.deref.result.now))

pub returns-clause-keeps_what_it_included : goal.returns-clause-keeps_what_it_included
returns-clause-keeps_what_it_included c = λ row all.
    let v = c.self.inside.columns.items in
    let new = c.unite_each.new.columns in
    let long : length new ≡ v.len = ap length c.unite_each.ensures.widened ∙ length-united c.deref_mut.result.now c.deref.result.now ∙ ap length c.deref_mut.ensures.value ∙ sym v.ok.0 in
    let columns : v.items ≡ c.args.self.now.columns = ap (λ (t : Tuple). t.columns) c.self.view_is in
    subst (All (ColumnIncludes row)) (sym (with_items_is v new long)) (c.unite_each.ensures.keeps_what_it_included row (subst (All (ColumnIncludes row)) (sym (c.deref_mut.ensures.value ∙ columns)) all))

pub returns-clause-same_index : goal.returns-clause-same_index
returns-clause-same_index c =
    let v = c.self.inside.columns.items in
    let new = c.unite_each.new.columns in
    let long : length new ≡ v.len = ap length c.unite_each.ensures.widened ∙ length-united c.deref_mut.result.now c.deref.result.now ∙ ap length c.deref_mut.ensures.value ∙ sym v.ok.0 in
    let columns : v.items ≡ c.args.self.now.columns = ap (λ (t : Tuple). t.columns) c.self.view_is in
    ap parts_of (with_items_is v new long ∙ c.unite_each.ensures.widened) ∙ parts-united c.deref_mut.result.now c.deref.result.now ∙ ap parts_of (c.deref_mut.ensures.value ∙ columns)
