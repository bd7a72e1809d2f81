use Rattle.std.proofs.Common.{◌≡◌, All, List, length, map, sym, ap, ◌∙◌, subst}
use Rattle.std.proofs.lemmas.List.{length-map, with_items_is}
use Rattle.range_tuple.specs.KeptColumns.{AreKept}
use Rattle.range_tuple.specs.TupleIncludes.{ColumnIncludes}
use Rattle.range_tuple.specs.Tuples.{IndexedColumn, Tuple, parts_of, with_row_at}
use Rattle.range_tuple.specs.SameIndex.{parts-with_row}
use Rattle.range_tuple.proofs.ByPlace.{kept_after}
use Rattle.range_tuple.proofs.listed.ListedTuple.add_row.Goals as goal

pub invariant_of-self : goal.invariant_of-self
invariant_of-self c =
    let v = c.self.inside.columns.items in
    let new = c.add_to_each.new.columns in
    let widened : new ≡ map (with_row_at c.args.values.now) v.items = c.add_to_each.ensures.widened ∙ ap (map (with_row_at c.args.values.now)) c.deref_mut.ensures.value in
    let long : length new ≡ v.len = ap length widened ∙ length-map v.items (with_row_at c.args.values.now) ∙ sym v.ok.0 in
    subst (λ (columns : List IndexedColumn). AreKept c.self.inside.range columns) (sym (with_items_is v new long)) (kept_after c.self.inside.range v.items new c.self.invariant (ap parts_of widened ∙ parts-with_row c.args.values.now v.items))

pub returns-clause-keeps_what_it_included : goal.returns-clause-keeps_what_it_included
returns-clause-keeps_what_it_included c = λ row all.
    let v = c.self.inside.columns.items in
    let new = c.add_to_each.new.columns in
    let long : length new ≡ v.len = ap length c.add_to_each.ensures.widened ∙ length-map c.deref_mut.result.now (with_row_at c.args.values.now) ∙ ap length c.deref_mut.ensures.value ∙ sym v.ok.0 in
    let columns : v.items ≡ c.args.self.now.columns = ap (λ (t : Tuple). t.columns) c.self.view_is in
    subst (All (ColumnIncludes row)) (sym (with_items_is v new long)) (c.add_to_each.ensures.keeps_what_it_included row (subst (All (ColumnIncludes row)) (sym (c.deref_mut.ensures.value ∙ columns)) all))

pub returns-clause-changed : goal.returns-clause-changed
returns-clause-changed c = λ yes same.
    let v = c.self.inside.columns.items in
    let new = c.add_to_each.new.columns in
    let long : length new ≡ v.len = ap length c.add_to_each.ensures.widened ∙ length-map c.deref_mut.result.now (with_row_at c.args.values.now) ∙ ap length c.deref_mut.ensures.value ∙ sym v.ok.0 in
    let columns : v.items ≡ c.args.self.now.columns = ap (λ (t : Tuple). t.columns) c.self.view_is in
    c.add_to_each.ensures.changed yes (sym (with_items_is v new long) ∙ ap (λ (t : Tuple). t.columns) same ∙ sym columns ∙ sym c.deref_mut.ensures.value)

pub returns-clause-same_index : goal.returns-clause-same_index
returns-clause-same_index c =
    let v = c.self.inside.columns.items in
    let new = c.add_to_each.new.columns in
    let long : length new ≡ v.len = ap length c.add_to_each.ensures.widened ∙ length-map c.deref_mut.result.now (with_row_at c.args.values.now) ∙ ap length c.deref_mut.ensures.value ∙ sym v.ok.0 in
    let columns : v.items ≡ c.args.self.now.columns = ap (λ (t : Tuple). t.columns) c.self.view_is in
    ap parts_of (with_items_is v new long ∙ c.add_to_each.ensures.widened) ∙ parts-with_row c.args.values.now c.deref_mut.result.now ∙ ap parts_of (c.deref_mut.ensures.value ∙ columns)
