-- the rows of a block that are added to a tuple, as the protocol adds them slot by slot
use Rattle.std.proofs.Common.{◌≡◌, ℕ, zero, suc, ◌+◌, true, All, List, [], ◌∷◌, length, get_or, take, refl, sym, ap, subst, ◌∙◌, arith}
use Rattle.std.specs.Prelude.{Option, None, Some}
use Rattle.std.proofs.lemmas.List.{get_or_past}
use Rattle.std.proofs.lemmas.List.Elements.{All-head, All-tail}
use Rattle.std.proofs.lemmas.Option.{same_Some, none-some}
use Rattle.block_model.specs.declared.row.Row.{Row}
use Rattle.block_model.specs.declared.value.Value.{Value}
use Rattle.page_layout.specs.PageContents.{Slot}
use Rattle.page_layout.specs.RowBytes.{HaveKinds, IsRow, StoredRow}
use Rattle.heap_rows.specs.declared.rows.Stored.{Stored}
use Rattle.heap_rows.specs.StoredRows.{stored_from, stored_in, stored_rows}
use Rattle.heap_rows.specs.StoredRows.{row_of as stored_row}
use Rattle.block_model.specs.declared.value.Kind.{Kind}
use Rattle.opclass_any.specs.declared.classes.AnyClass.{AnyClass}
use Rattle.range_tuple.specs.ExactTuples.{with_rows}
use Rattle.range_tuple.specs.SameIndex.{parts-with_row}
use Rattle.range_tuple.specs.TupleBytes.{tuple_bytes}
use Rattle.range_tuple.specs.Tuples.{IsTuple, Tuple, parts_of, with_row}
use Rattle.coverage.specs.IndexView.{Contents, IndexTuple}
use Rattle.coverage.specs.Statements.{HasNoMoreRows, row_added, rows_added}
use Rattle.index_steps.specs.IndexTuples.{IndexShape, TakesValues, are_values, kinds_of, seen}
use Rattle.index_steps.specs.ShownRows.{row_in}
use Rattle.summarise_core.specs.BlockRows.{AreKnown, values_of}

-- the first slot first
rows_after : (contents : Contents) (row : ℕ → Option Row) (n : ℕ) (t : IndexTuple) → rows_added contents row (suc n) t ≡ rows_added contents (λ k. row (suc k)) n (row_added contents (row 0) t)
rows_after contents row zero t = refl
rows_after contents row (suc n) t = ap (row_added contents (row (suc n))) (rows_after contents row n t)

-- what holds of all rows in use of a block holds of the one in a slot
held_by : (P : Stored → Type 0) (from : ℕ) (slots : List Slot) → All P (stored_from from slots) → (k : ℕ) (row : StoredRow) → get_or slots k None ≡ Some row → P (stored_in (from + k) row)
unfolding stored_from
held_by P from [] all k row e = absurd (none-some row (sym (get_or_past [] k None (omega arith)) ∙ e))
held_by P from (None ∷ slots) all zero row e = absurd (none-some row e)
held_by P from (Some first ∷ slots) all zero row e =
    let here : P (stored_in from first) = All-head P (stored_in from first) (stored_from (from + 1) slots) all in
    let at : from ≡ from + 0 = omega arith in
    subst (λ (n : ℕ). P (stored_in n row)) at (subst (λ (q : StoredRow). P (stored_in from q)) (same_Some first row e) here)
held_by P from (None ∷ slots) all (suc k) row e =
    let at : from + 1 + k ≡ from + suc k = omega arith in
    subst (λ (n : ℕ). P (stored_in n row)) at (held_by P (from + 1) slots all k row e)
held_by P from (Some first ∷ slots) all (suc k) row e =
    let at : from + 1 + k ≡ from + suc k = omega arith in
    subst (λ (n : ℕ). P (stored_in n row)) at (held_by P (from + 1) slots (All-tail P (stored_in from first) (stored_from (from + 1) slots) all) k row e)

module _ (shape : IndexShape) (contents : Contents) (table : ℕ) (parts : List (ℕ × AnyClass))
    (adds : (r : Row) (t : Tuple) → IsTuple t → parts_of t.columns ≡ parts → are_values (kinds_of shape) r.values ≡ true → contents.added r (seen shape (tuple_bytes t)) ≡ seen shape (tuple_bytes (with_row r.values t))) where
  pub block_added : (from : ℕ) (slots : List Slot) (row : ℕ → Option Row) (t : Tuple) → ((k : ℕ) → row k ≡ row_in table (get_or slots k None))
      → ((k : ℕ) (stored : StoredRow) → get_or slots k None ≡ Some stored → are_values (kinds_of shape) stored.values ≡ true)
      → ((n : ℕ) → IsTuple (with_rows (take n (values_of (stored_from from slots))) t)) → parts_of t.columns ≡ parts
      → seen shape (tuple_bytes (with_rows (values_of (stored_from from slots)) t)) ≡ rows_added contents row (length slots) (seen shape (tuple_bytes t))
  unfolding stored_from
  block_added from [] row t rows takes tuples of = refl
  block_added from (None ∷ slots) row t rows takes tuples of =
      block_added (from + 1) slots (λ k. row (suc k)) t (λ k. rows (suc k)) (λ k. takes (suc k)) tuples of
      ∙ ap (λ (o : Option Row). rows_added contents (λ k. row (suc k)) (length slots) (row_added contents o (seen shape (tuple_bytes t)))) (sym (rows 0))
      ∙ sym (rows_after contents row (length slots) (seen shape (tuple_bytes t)))
  block_added from (Some stored ∷ slots) row t rows takes tuples of =
      let u : Tuple = with_row stored.values t in
      block_added (from + 1) slots (λ k. row (suc k)) u (λ k. rows (suc k)) (λ k. takes (suc k)) (λ n. tuples (suc n)) (parts-with_row stored.values t.columns ∙ of)
      ∙ ap (λ (v : IndexTuple). rows_added contents (λ k. row (suc k)) (length slots) v) (sym (adds (record { table = table; id = stored.id; values = stored.values }) t (tuples 0) of (takes 0 stored refl)))
      ∙ ap (λ (o : Option Row). rows_added contents (λ k. row (suc k)) (length slots) (row_added contents o (seen shape (tuple_bytes t)))) (sym (rows 0))
      ∙ sym (rows_after contents row (length slots) (seen shape (tuple_bytes t)))

-- behind its slots a block has no row
pub no_more_rows : (table : ℕ) (slots : List Slot) (row : ℕ → Option Row) → ((k : ℕ) → row k ≡ row_in table (get_or slots k None)) → HasNoMoreRows row (length slots)
no_more_rows table slots row rows k past = rows k ∙ ap (row_in table) (get_or_past slots k None past)

-- a block's rows, read in order of slot and added one after the other
pub block_makes : (shape : IndexShape) (contents : Contents) (table : ℕ) (kinds : List Kind) (parts : List (ℕ × AnyClass))
    → ((r : Row) (t : Tuple) → IsTuple t → parts_of t.columns ≡ parts → are_values (kinds_of shape) r.values ≡ true → contents.added r (seen shape (tuple_bytes t)) ≡ seen shape (tuple_bytes (with_row r.values t)))
    → ((values : List Value) → HaveKinds kinds values → TakesValues shape values)
    → (slots : List Slot) (rows : List Stored) (row : ℕ → Option Row) (t u : Tuple) → rows ≡ stored_rows slots → All (λ (q : Stored). IsRow kinds (stored_row q)) rows → All (λ (q : Stored). AreKnown q.values) rows → u ≡ with_rows (values_of rows) t
    → ((n : ℕ) → IsTuple (with_rows (take n (values_of rows)) t)) → parts_of t.columns ≡ parts → ((k : ℕ) → row k ≡ row_in table (get_or slots k None))
    → HasNoMoreRows row (length slots) × (seen shape (tuple_bytes u) ≡ rows_added contents row (length slots) (seen shape (tuple_bytes t)))
block_makes shape contents table kinds parts adds takes slots rows row t u are all known made tuples of shown =
    let of_kinds : All (λ (q : Stored). IsRow kinds (stored_row q)) (stored_rows slots) = subst (λ (qs : List Stored). All (λ (q : Stored). IsRow kinds (stored_row q)) qs) are all in
    let known_too : All (λ (q : Stored). AreKnown q.values) (stored_rows slots) = subst (λ (qs : List Stored). All (λ (q : Stored). AreKnown q.values) qs) are known in
    let whole : (n : ℕ) → IsTuple (with_rows (take n (values_of (stored_rows slots))) t) = λ n. subst (λ (qs : List Stored). IsTuple (with_rows (take n (values_of qs)) t)) are (tuples n) in (
      no_more_rows table slots row shown,
      ap (λ (v : Tuple). seen shape (tuple_bytes v)) (made ∙ ap (λ (qs : List Stored). with_rows (values_of qs) t) are)
          ∙ block_added shape contents table parts adds 0 slots row t shown (λ k stored is. held_by (λ (q : Stored). AreKnown q.values) 0 slots known_too k stored is (kinds_of shape) (takes stored.values (held_by (λ (q : Stored). IsRow kinds (stored_row q)) 0 slots of_kinds k stored is).columns).kinds) whole of,
    )
