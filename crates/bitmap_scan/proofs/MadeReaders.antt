-- the readers of a table's indexes, as they are made
use Rattle.std.proofs.Common.{◌≡◌, ℕ, ◌+◌, ◌<◌, ◌≤◌, ◌==◌, Bool, true, false, cond, All, List, [], ◌∷◌, ◌++◌, length, map, drop, get_or, set, refl, sym, ap, subst, ◌∙◌, arith}
use Rattle.std.specs.Prelude.{slice_index_or}
use Rattle.std.proofs.Math.Seq.{map-set_same}
use Rattle.std.proofs.lemmas.List.{append-nil, append_assoc, drop_all, drop_more, get_or-map, get_or_default, length-map}
use Rattle.std.proofs.lemmas.List.Elements.{All-from_get_or}
use Rattle.block_model.specs.declared.place.Spot.{Spot}
use Rattle.block_model.specs.declared.row.Cond.{Cond}
use Rattle.block_model.specs.declared.schema.Index.{Index}
use Rattle.store_layout.specs.DiskLayout.{DiskLayout}
use Rattle.page_map.specs.PageMap.{PageMap}
use Rattle.index_contents.specs.IndexContents.{contents}
use Rattle.index_steps.specs.IndexTuples.{classes_of, index_at, no_index, shape_of}
use Rattle.index_steps.specs.ShownTable.{indexes_of, numbers_from}
use Rattle.bitmap_scan.specs.declared.readers.IndexReader.{IndexReader}
use Rattle.bitmap_scan.specs.declared.judging.Judged.{Judged}
use Rattle.bitmap_scan.specs.Judgings.{SaysOfRange}
use Rattle.bitmap_scan.specs.IndexReaders.{all_scanned, scanned, scanned_if, scanned_in}
use Rattle.bitmap_scan.specs.ReadableIndexes.{AreReadable, IsReadable}
use Rattle.bitmap_scan.specs.ScanHands.{ScannedIndex, no_scanned_index, scanned_at, scanned_index, scanned_indexes}
use Rattle.bitmap_scan.proofs.Numbers.{is_there}

classes_are : (layout : DiskLayout) (number : ℕ) → (scanned_in layout.schema number (index_at layout number)).classes ≡ classes_of (shape_of layout number)
unfolding classes_of shape_of
classes_are layout number = refl

scanned_same : (layout : DiskLayout) (number : ℕ) (index : Index) → index ≡ index_at layout number → scanned_in layout.schema number index ≡ scanned_index layout number
scanned_same layout number index is = λ i. record {
  number = number;
  pages_per_range = (is i).pages_per_range;
  classes = (ap (λ (x : Index). (scanned_in layout.schema number x).classes) is ∙ classes_are layout number) i;
}

-- one index more
pub one_more : (layout : DiskLayout) (table number : ℕ) (before after : List ScannedIndex) (index : Index) (rest : List Index) (all : List ScannedIndex) → index ≡ index_at layout number
    → after ≡ before ++ scanned_if layout.schema table number index → before ++ map (scanned_index layout) (numbers_from table number (index ∷ rest)) ≡ all
    → after ++ map (scanned_index layout) (numbers_from table (number + 1) rest) ≡ all
one_more layout table number before after index rest all is added so_far = by_test (index.table == table) added so_far
  where
    behind : List ScannedIndex
    behind = map (scanned_index layout) (numbers_from table (number + 1) rest)

    by_test : (b : Bool) → after ≡ before ++ cond b (scanned_in layout.schema number index ∷ []) [] → before ++ map (scanned_index layout) (cond b (number ∷ numbers_from table (number + 1) rest) (numbers_from table (number + 1) rest)) ≡ all
        → after ++ behind ≡ all
    by_test true more whole =
        ap (λ (l : List ScannedIndex). l ++ behind) more ∙ append_assoc before (scanned_in layout.schema number index ∷ []) behind
        ∙ ap (λ (x : ScannedIndex). before ++ x ∷ behind) (scanned_same layout number index is) ∙ whole
    by_test false none whole = ap (λ (l : List ScannedIndex). l ++ behind) (none ∙ append-nil before) ∙ whole

-- each has a block or more
pub some_pages : (layout : DiskLayout) (table : ℕ) → AreReadable layout.schema → All (λ (i : ScannedIndex). 1 ≤ i.pages_per_range) (scanned_indexes layout table)
some_pages layout table lawful = All-from_get_or (λ (i : ScannedIndex). 1 ≤ i.pages_per_range) (scanned_indexes layout table) no_scanned_index (λ at below. one at below)
  where
    one : (at : ℕ) → at < length (scanned_indexes layout table) → 1 ≤ (slice_index_or (scanned_indexes layout table) at no_scanned_index).pages_per_range
    one at below =
        let there = is_there layout table (scanned_indexes layout table) at refl below in
        let is : IsReadable layout.schema (index_at layout there.n) = lawful.indexes there.n no_index there.of.declared in
        subst (λ (x : ScannedIndex). 1 ≤ x.pages_per_range) (sym there.scanned) is.some_pages

-- the reader at a place is of the index there
pub there_is : (readers : List IndexReader) (at : ℕ) (reader : IndexReader) → at < length readers → reader ≡ get_or readers at reader → scanned_at (all_scanned readers) at ≡ scanned reader
there_is readers at reader below is = get_or-map scanned readers at reader no_scanned_index below ∙ ap scanned (sym is)

pub within : (readers : List IndexReader) (at : ℕ) → at < length (all_scanned readers) → at < length readers
within readers at below = omega (arith, below, length-map readers scanned)

-- another tuple in the reader
pub still_scanned : (readers : List IndexReader) (at : ℕ) (reader new : IndexReader) → scanned new ≡ scanned reader → reader ≡ get_or readers at reader → all_scanned (set readers at new) ≡ all_scanned readers
still_scanned readers at reader new same is = map-set_same scanned readers at new reader (same ∙ ap scanned is)

-- a reader of an index of the table
pub record ReadsIndex (layout : DiskLayout) (reader : IndexReader) : Type 0 where
  pub declared : reader.number < length layout.schema.indexes
  pub classes : (scanned reader).classes ≡ classes_of (shape_of layout reader.number)

pub reads_index : (layout : DiskLayout) (table : ℕ) (readers : List IndexReader) (at : ℕ) (reader : IndexReader) → all_scanned readers ≡ scanned_indexes layout table → at < length (all_scanned readers) → reader ≡ get_or readers at reader → ReadsIndex layout reader
reads_index layout table readers at reader are below is =
    let there = is_there layout table (all_scanned readers) at are below in
    let same : scanned reader ≡ scanned_index layout there.n = sym (there_is readers at reader (within readers at below) is) ∙ there.scanned in
    record {
      declared = subst (λ (n : ℕ). n < length layout.schema.indexes) (sym (ap (λ (x : ScannedIndex). x.number) same)) there.of.declared;
      classes = ap (λ (x : ScannedIndex). x.classes) same ∙ ap (λ (n : ℕ). classes_of (shape_of layout n)) (sym (ap (λ (x : ScannedIndex). x.number) same));
    }

-- the index that a loop over them is at
pub at_index : (layout : DiskLayout) (items : List Index) (i : ℕ) (index : Index) → items ≡ layout.schema.indexes → i < length items → index ≡ get_or items i index → (index ≡ index_at layout i) × (drop i layout.schema.indexes ≡ index ∷ drop (i + 1) layout.schema.indexes)
at_index layout items i index same below is =
    let there : index ≡ get_or layout.schema.indexes i index = is ∙ ap (λ (l : List Index). get_or l i index) same in
    let inside : i < length layout.schema.indexes = subst (λ (l : List Index). i < length l) same below in (
      there ∙ get_or_default layout.schema.indexes i index no_index inside,
      drop_more layout.schema.indexes i index inside ∙ ap (λ (x : Index). x ∷ drop (i + 1) layout.schema.indexes) (sym there),
    )

-- behind the last index all are there
pub whole : (layout : DiskLayout) (table number i : ℕ) (scanned : List ScannedIndex) → length layout.schema.indexes ≤ i
    → scanned ++ map (scanned_index layout) (numbers_from table number (drop i layout.schema.indexes)) ≡ map (scanned_index layout) (numbers_from table 0 layout.schema.indexes) → scanned ≡ scanned_indexes layout table
unfolding indexes_of
whole layout table number i scanned past so_far =
    sym (append-nil scanned) ∙ ap (λ (l : List Index). scanned ++ map (scanned_index layout) (numbers_from table number l)) (sym (drop_all i layout.schema.indexes past)) ∙ so_far

-- what the tuple tells of the index at its place
pub judged_at : (layout : DiskLayout) (pages : PageMap) (readers : List IndexReader) (at : ℕ) (reader : IndexReader) (range : ℕ) (x : Spot) (conds asked : List Cond) (told verdict : Judged) → at < length (all_scanned readers) → reader ≡ get_or readers at reader
    → asked ≡ conds → told ≡ verdict → SaysOfRange (shape_of layout reader.number) (contents layout pages reader.number) range x conds told
    → SaysOfRange (shape_of layout (scanned_at (all_scanned readers) at).number) (contents layout pages (scanned_at (all_scanned readers) at).number) range x asked verdict
judged_at layout pages readers at reader range x conds asked told verdict below is same tells judged =
    subst (λ (v : Judged). SaysOfRange (shape_of layout (scanned_at (all_scanned readers) at).number) (contents layout pages (scanned_at (all_scanned readers) at).number) range x asked v) tells
    (subst (λ (l : List Cond). SaysOfRange (shape_of layout (scanned_at (all_scanned readers) at).number) (contents layout pages (scanned_at (all_scanned readers) at).number) range x l told) (sym same)
    (subst (λ (i : ScannedIndex). SaysOfRange (shape_of layout i.number) (contents layout pages i.number) range x conds told) (sym (there_is readers at reader (within readers at below) is)) judged))
