-- the blocks that are listed are the given ones
use Rattle.std.proofs.Common.{◌≡◌, ℕ, zero, suc, ◌/◌, true, List, [], ◌∷◌, map, get_or, Option, None, Some, Result, Ok, Err, refl, sym, ap, ◌∙◌, zero-le}
use Rattle.std.specs.Prelude.{slice_index, slice_index_or}
use Rattle.std.specs.List.{filter, list_all, range_with_len}
use Rattle.std.proofs.lemmas.List.{get_or_past}
use Rattle.std.proofs.lemmas.List.Folds.{list_all-map}
use Rattle.block_model.specs.declared.row.Cond.{Cond}
use Rattle.block_model.specs.declared.row.Query.{Query}
use Rattle.store_layout.specs.DiskLayout.{DiskLayout}
use Rattle.opclass_any.specs.declared.classes.AnyClass.{AnyClass}
use Rattle.range_tuple.specs.Keeps.{keeps}
use Rattle.range_tuple.specs.TupleReading.{is_there, read_of, tuple_in}
use Rattle.range_tuple.specs.Tuples.{Tuple}
use Rattle.index_steps.specs.IndexTuples.{IndexShape, classes_of, keeps_conds, seen, shape_of}
use Rattle.index_steps.specs.ShownTable.{indexes_of}
use Rattle.bitmap_scan.specs.ScanHands.{ScannedIndex, scanned_index, scanned_indexes}
use Rattle.summary_directory.specs.GivenBlocks.{given_blocks, gives, is_given, keeps_range, range_of}
use Rattle.summary_directory.specs.Shown.{Shown}
use Rattle.summary_directory.specs.declared.kept.Kept.{Kept}
use Rattle.summary_directory.specs.JudgedBlocks.{blocks_by, gives_by, keeps_cell}
use Rattle.summary_directory.specs.ShelfFold.{shown_of}
use Rattle.summary_directory.specs.Verdicts.{Verdict, all_keep, keeps_block, verdict_by}

-- ---- a tuple is judged as it is seen

pub read_keeps : (classes : List (ℕ × AnyClass)) (bytes : List ℕ) (conds : List Cond) (t : Tuple) → read_of classes bytes ≡ Ok t → keeps_conds (tuple_in classes bytes) conds ≡ keeps t conds
read_keeps classes bytes conds t is = ap (λ (r : Result Tuple ℕ). keeps_conds (is_there r) conds) is

pub unread_keeps : (classes : List (ℕ × AnyClass)) (bytes : List ℕ) (conds : List Cond) (at : ℕ) → read_of classes bytes ≡ Err at → keeps_conds (tuple_in classes bytes) conds ≡ true
unread_keeps classes bytes conds at is = ap (λ (r : Result Tuple ℕ). keeps_conds (is_there r) conds) is

seen_keeps : (shape : IndexShape) (bytes : List ℕ) (conds : List Cond) → keeps_conds (tuple_in (classes_of shape) bytes) conds ≡ (seen shape bytes).keeps conds
unfolding seen
seen_keeps shape bytes conds = refl

cell_is : (shape : IndexShape) (conds : List Cond) (tuple : Option (List ℕ)) → keeps_cell (classes_of shape) conds tuple ≡ keeps_range shape conds tuple
cell_is shape conds None = refl
cell_is shape conds (Some bytes) = seen_keeps shape bytes conds

-- ---- by the indexes of a layout

gives_is : (layout : DiskLayout) (shown : Shown) (query : Query) (block n : ℕ) → gives_by shown query.conds block (scanned_index layout n) ≡ gives layout shown query block n
gives_is layout shown query block n = cell_is (shape_of layout n) query.conds (shown.tuple n (range_of layout n block))

all_give : (layout : DiskLayout) (shown : Shown) (query : Query) (block : ℕ) → list_all (gives_by shown query.conds block) (scanned_indexes layout query.table) ≡ is_given layout shown query block
all_give layout shown query block =
    list_all-map (gives_by shown query.conds block) (scanned_index layout) (indexes_of layout query.table)
    ∙ (λ j. list_all (λ n. gives_is layout shown query block n j) (indexes_of layout query.table))

pub given_by : (layout : DiskLayout) (shown : Shown) (query : Query) (indexes : List ScannedIndex) (blocks : List ℕ) → indexes ≡ scanned_indexes layout query.table → blocks ≡ blocks_by indexes shown query → blocks ≡ given_blocks layout shown query
given_by layout shown query indexes blocks same is =
    is ∙ ap (λ (l : List ScannedIndex). blocks_by l shown query) same
    ∙ (λ j. filter (λ block. all_give layout shown query block j) (range_with_len 0 (shown.extent query.table)))

-- ---- by verdicts

map_at : {X Y : Type 0} (f : X → Y) (xs : List X) (i : ℕ) (d : X) → get_or (map f xs) i (f d) ≡ f (get_or xs i d)
map_at f [] i d = get_or_past [] i (f d) zero-le ∙ sym (ap f (get_or_past [] i d zero-le))
map_at f (x ∷ xs) zero d = refl
map_at f (x ∷ xs) (suc i) d = map_at f xs i d

verdict_is : (tuples : List (List (Option (List ℕ)))) (conds : List Cond) (block : ℕ) (index : ScannedIndex)
    → keeps_block block (verdict_by tuples conds index) ≡ keeps_cell index.classes conds (slice_index_or (slice_index_or tuples index.number []) (block / index.pages_per_range) None)
verdict_is tuples conds block index = map_at (keeps_cell index.classes conds) (slice_index_or tuples index.number []) (block / index.pages_per_range) None

verdicts_are : (k : Kept) (query : Query) (indexes : List ScannedIndex) (block : ℕ) → all_keep (map (verdict_by k.tuples query.conds) indexes) block ≡ list_all (gives_by (shown_of k) query.conds block) indexes
verdicts_are k query indexes block =
    list_all-map (keeps_block block) (verdict_by k.tuples query.conds) indexes
    ∙ (λ j. list_all (λ index. verdict_is k.tuples query.conds block index j) indexes)

pub listed : (k : Kept) (query : Query) (indexes : List ScannedIndex) (verdicts : List Verdict) (extent : ℕ) (blocks : List ℕ) → verdicts ≡ map (verdict_by k.tuples query.conds) indexes → extent ≡ slice_index k.extents query.table
    → blocks ≡ filter (all_keep verdicts) (range_with_len 0 extent) → blocks ≡ blocks_by indexes (shown_of k) query
listed k query indexes verdicts extent blocks judged many is =
    is ∙ ap (λ (v : List Verdict). filter (all_keep v) (range_with_len 0 extent)) judged
    ∙ (λ j. filter (λ block. verdicts_are k query indexes block j) (range_with_len 0 extent))
    ∙ ap (λ (n : ℕ). filter (λ (block : ℕ). list_all (gives_by (shown_of k) query.conds block) indexes) (range_with_len 0 n)) many
