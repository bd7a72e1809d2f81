use Rattle.std.proofs.Common.{◌≡◌, ◌≤◌, ◌+◌, ◌∷◌, ◌++◌, length, map, take, vec_len}
use Rattle.std.specs.Prelude.{vec_capacity}
use Rattle.page_layout.specs.declared.page.Form.TheVariants as forms
use Rattle.page_layout.specs.HeapForms.{heap_form}
use Rattle.page_store.proofs.forms.forms_of.Given as goal

abbrev pub invariant-tables : goal.invariant-tables
invariant-tables l = record {
  made : l.kinds.items ≡ forms.Status ∷ map heap_form (take l.table-index l.tables);
  counted : vec_len l.kinds ≡ l.table-index + 1;
  room : length l.tables + length l.indexes + 1 ≤ vec_capacity l.kinds;
}

abbrev pub invariant-indexes : goal.invariant-indexes
invariant-indexes l = record {
  made : l.kinds.items ≡ forms.Status ∷ map heap_form l.layout.schema.tables ++ map (λ _. forms.Index) (take l._index-index l.indexes);
  counted : vec_len l.kinds ≡ length l.layout.schema.tables + l._index-index + 1;
  room : length l.layout.schema.tables + length l.indexes + 1 ≤ vec_capacity l.kinds;
}
