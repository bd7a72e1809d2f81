-- what was written is read again
use Rattle.std.proofs.Common.{slice_index, ◌≡◌, ℕ, zero, suc, ◌-◌, ◌^◌, ◌<◌, Bool, true, false, ◌&&◌, ltb, leb, eqb, cond, List, [], ◌∷◌, ◌++◌, length, Option, Some, refl, sym, ap, ◌∙◌, append_assoc, length-append, arith}
use Rattle.std.proofs.Math.ListN.{replicate}
use Rattle.std.specs.Int.{bytes_high_first}
use Rattle.std.specs.List.{AllByRecursion, flat_map, list_all}
use Rattle.std.proofs.lemmas.Bool.{le-ltb, and_parts, false≢true}
use Rattle.std.proofs.Math.Dec.{eqb-suc-zero}
use Rattle.std.proofs.lemmas.List.{append-nil, take_at, drop_at}
use Rattle.block_model.specs.declared.value.Kind.{Kind}
use Rattle.block_model.specs.declared.value.Kind.TheVariants as kinds
use Rattle.block_model.specs.declared.schema.Class.{Class}
use Rattle.block_model.specs.declared.schema.Class.TheVariants as classes
use Rattle.block_model.specs.declared.schema.Column.{Column}
use Rattle.block_model.specs.declared.schema.Table.{Table}
use Rattle.block_model.specs.declared.schema.Part.{Part}
use Rattle.block_model.specs.declared.schema.Index.{Index}
use Rattle.block_model.specs.declared.schema.Schema.{Schema}
use Rattle.block_model.specs.declared.schema.Sizes.{Sizes}
use Rattle.block_model.specs.Names.{is_name, is_lower, is_more}
use Rattle.byte_fields.specs.Fields.{length-number, number-bytes}
use Rattle.store_format.specs.ControlBytes.{name_bytes, kind_code, class_code, class_parameter, class_hashes, flag_code, column_bytes, table_bytes, part_bytes, index_bytes, schema_bytes, sizes_bytes}
use Rattle.store_layout.specs.DiskLayout.{DiskLayout}
use Rattle.store_format.specs.ControlPage.{HasControl, head_bytes, written_bytes, control_bytes}
use Rattle.store_format.specs.ControlReading.{skipped, number_at, until_zero, name_at, list_from, kind_of, class_of, column_at, table_at, part_at, index_at, schema_at, sizes_at, fields_at}
use Rattle.store_format.proofs.ControlLists.{list_more}
use Rattle.store_format.proofs.Fits.{ColumnFits, TableFits, PartFits, IndexFits, SchemaFits, SizesFit, sizes_fit, schema_fits}
use Rattle.store_format.proofs.Padding.{name_padded, name_length}

-- a number that fits its bytes
number_again : (n x : ℕ) (rest : List ℕ) → x < 256 ^ n → number_at n (bytes_high_first n x ++ rest) ≡ Some (x, rest)
unfolding number_at
number_again n x rest fits =
    let len = length-number n x in
    let long : ltb (length (bytes_high_first n x ++ rest)) n ≡ false = le-ltb _ _ (omega (arith, length-append (bytes_high_first n x) rest)) in
    rw (long, take_at (bytes_high_first n x) rest n len, drop_at (bytes_high_first n x) rest n len, number-bytes n x fits) refl

-- a byte that passes a test which zero doesn't pass is no zero
no_zero : (passes : ℕ → Bool) → passes 0 ≡ false → (c : ℕ) → passes c ≡ true → eqb c 0 ≡ false
no_zero passes none zero is = absurd (false≢true (sym none ∙ is))
no_zero passes none (suc c) is = eqb-suc-zero c

zeros_end : (k : ℕ) → until_zero (replicate k 0) ≡ []
zeros_end zero = refl
zeros_end (suc k) = refl

more_ends : (cs : List ℕ) (k : ℕ) → list_all is_more cs ≡ true → until_zero (cs ++ replicate k 0) ≡ cs
more_ends [] k is = zeros_end k
more_ends (c ∷ cs) k is =
    let parts = and_parts (is_more c) (list_all is_more cs) is in
    ap (λ (b : Bool). cond b [] (c ∷ until_zero (cs ++ replicate k 0))) (no_zero is_more refl c parts.0) ∙ ap (λ (t : List ℕ). c ∷ t) (more_ends cs k parts.1)

name_ends : (name : List ℕ) (k : ℕ) → is_name name ≡ true → until_zero (name ++ replicate k 0) ≡ name
name_ends [] k is = absurd cc
name_ends (c ∷ cs) k is =
    let parts = and_parts (is_lower c && leb (length cs) 15) (list_all is_more cs) is in
    let first = and_parts (is_lower c) (leb (length cs) 15) parts.0 in
    ap (λ (b : Bool). cond b [] (c ∷ until_zero (cs ++ replicate k 0))) (no_zero is_lower refl c first.0) ∙ ap (λ (t : List ℕ). c ∷ t) (more_ends cs k parts.1)

-- a name
name_again : (name rest : List ℕ) → is_name name ≡ true → name_at (name_bytes name ++ rest) ≡ Some (name, rest)
unfolding name_at
name_again name rest is =
    let len : length (name_bytes name) ≡ 16 = name_length name in
    let long : ltb (length (name_bytes name ++ rest)) 16 ≡ false = le-ltb _ _ (omega (arith, length-append (name_bytes name) rest)) in
    let ends : until_zero (name_bytes name) ≡ name = ap until_zero (name_padded name is) ∙ name_ends name (16 - length name) is in
    rw (long, take_at (name_bytes name) rest 16 len, drop_at (name_bytes name) rest 16 len, ends, is) refl

pub some_is : {A : Type 0} (x y : A) → Some x ≡ Some y → x ≡ y
some_is x y e = cc

-- a list of what is read again
list_again : {X : Type 0} (read : List ℕ → Option (X × List ℕ)) (bytes_of : X → List ℕ) (Fits : X → Type 0) → ((x : X) (rest : List ℕ) → Fits x → read (bytes_of x ++ rest) ≡ Some (x, rest))
    → (xs done : List X) (rest : List ℕ) → AllByRecursion Fits xs → list_from read done (length xs) (flat_map bytes_of xs ++ rest) ≡ Some (done ++ xs, rest)
list_again {X} read bytes_of Fits again [] done rest fits = ap (λ (l : List X). Some (l, rest)) (sym (append-nil done))
list_again {X} read bytes_of Fits again (x ∷ xs) done rest fits =
    let behind = flat_map bytes_of xs ++ rest in
    ap (list_from read done (suc (length xs))) (append_assoc (bytes_of x) (flat_map bytes_of xs) rest)
    ∙ list_more read done (suc (length xs)) (length xs) (bytes_of x ++ behind) behind x refl (again x behind fits.0)
    ∙ list_again read bytes_of Fits again xs (done ++ x ∷ []) rest fits.1
    ∙ ap (λ (l : List X). Some (l, rest)) (append_assoc done (x ∷ []) xs)

kind_again : (kind : Kind) → kind_of (kind_code kind) ≡ Some kind
kind_again kinds.Int = refl
kind_again kinds.Span = refl
kind_again kinds.Net = refl

class_again : (class : Class) → class_of (class_code class) (class_parameter class) (class_hashes class) ≡ Some class
class_again classes.MinMax = refl
class_again (classes.Multi limit) = refl
class_again classes.Inclusion = refl
class_again (classes.Bloom bits hashes) = refl

flag_again : (flag : Bool) → eqb (flag_code flag) 1 ≡ flag
flag_again true = refl
flag_again false = refl

column_again : (column : Column) (rest : List ℕ) → ColumnFits column → column_at (column_bytes column ++ rest) ≡ Some (column, rest)
unfolding column_at column_bytes
column_again column rest fits =
    rw (append_assoc (name_bytes column.name) (kind_code column.kind ∷ []) rest, name_again column.name (kind_code column.kind ∷ rest) fits, kind_again column.kind) refl

table_again : (table : Table) (rest : List ℕ) → TableFits table → table_at (table_bytes table ++ rest) ≡ Some (table, rest)
unfolding table_at table_bytes
table_again table rest fits =
    let columns = flat_map column_bytes table.columns in
    let behind = length table.columns ∷ (columns ++ rest) in
    rw (
      append_assoc (name_bytes table.name) (bytes_high_first 2 table.rows_per_page ++ length table.columns ∷ columns) rest,
      name_again table.name (bytes_high_first 2 table.rows_per_page ++ behind) fits.name,
      number_again 2 table.rows_per_page behind fits.rows,
      list_again column_at column_bytes ColumnFits column_again table.columns [] rest fits.columns,
    ) refl

part_again : (part : Part) (rest : List ℕ) → PartFits part → part_at (part_bytes part ++ rest) ≡ Some (part, rest)
unfolding part_at part_bytes
part_again part rest fits =
    rw (number_again 2 (class_parameter part.class) (class_hashes part.class ∷ rest) fits, class_again part.class) refl

index_again : (index : Index) (rest : List ℕ) → IndexFits index → index_at (index_bytes index ++ rest) ≡ Some (index, rest)
unfolding index_at index_bytes
index_again index rest fits =
    let parts = flat_map part_bytes index.parts in
    let behind = flag_code index.auto ∷ length index.parts ∷ (parts ++ rest) in
    rw (
      append_assoc (name_bytes index.name) (index.table ∷ (bytes_high_first 4 index.pages_per_range ++ flag_code index.auto ∷ length index.parts ∷ parts)) rest,
      name_again index.name (index.table ∷ (bytes_high_first 4 index.pages_per_range ++ behind)) fits.name,
      number_again 4 index.pages_per_range behind fits.pages,
      list_again part_at part_bytes PartFits part_again index.parts [] rest fits.parts,
      flag_again index.auto,
    ) refl

schema_again : (schema : Schema) (rest : List ℕ) → SchemaFits schema → schema_at (schema_bytes schema ++ rest) ≡ Some (schema, rest)
unfolding schema_at schema_bytes
schema_again schema rest fits =
    let tables = flat_map table_bytes schema.tables in
    let indexes = flat_map index_bytes schema.indexes in
    rw (
      append_assoc tables indexes rest,
      list_again table_at table_bytes TableFits table_again schema.tables [] (indexes ++ rest) fits.tables,
      list_again index_at index_bytes IndexFits index_again schema.indexes [] rest fits.indexes,
    ) refl

sizes_again : (sizes : Sizes) (rest : List ℕ) → SizesFit sizes → sizes_at (sizes_bytes sizes ++ rest) ≡ Some (sizes, rest)
unfolding sizes_at sizes_bytes
sizes_again sizes rest fits =
    let five = bytes_high_first 4 sizes.frames ++ rest in
    let four = bytes_high_first 4 sizes.log_pages ++ five in
    let three = bytes_high_first 4 sizes.status_blocks ++ four in
    let two = bytes_high_first 4 sizes.index_blocks ++ three in
    rw (
      number_again 4 sizes.heap_blocks two fits.heap,
      number_again 4 sizes.index_blocks three fits.index,
      number_again 4 sizes.status_blocks four fits.status,
      number_again 4 sizes.log_pages five fits.log,
      number_again 4 sizes.frames rest fits.frames,
    ) refl

head_again : (gate area : ℕ) (rest : List ℕ) → skipped 12 (head_bytes gate area ++ rest) ≡ Some (tt, rest)
unfolding skipped
head_again gate area rest =
    let long : ltb (length (head_bytes gate area ++ rest)) 12 ≡ false = le-ltb _ _ (omega arith) in
    rw long refl

-- all fields, whatever stands behind them
fields_again : (d : DiskLayout) (gate area : ℕ) (rest : List ℕ) → SizesFit d.sizes → SchemaFits d.schema → fields_at (written_bytes d gate area ++ rest) ≡ Some ((d.sizes, d.schema), rest)
unfolding fields_at written_bytes
fields_again d gate area rest sizes schema =
    let behind = schema_bytes d.schema ++ rest in
    rw (
      append_assoc (head_bytes gate area) (sizes_bytes d.sizes ++ schema_bytes d.schema) rest,
      head_again gate area ((sizes_bytes d.sizes ++ schema_bytes d.schema) ++ rest),
      append_assoc (sizes_bytes d.sizes) (schema_bytes d.schema) rest,
      sizes_again d.sizes behind sizes,
      schema_again d.schema rest schema,
    ) refl

-- the control page of a layout says its fields
pub control_again : (d : DiskLayout) (page : List ℕ) → HasControl d page → (rest : List ℕ) × (fields_at page ≡ Some ((d.sizes, d.schema), rest))
unfolding control_bytes
control_again d page h =
    let written = written_bytes d 1 (slice_index page 1) in
    let zeros = replicate (8192 - length written) 0 in
    (zeros, ap fields_at h.bytes ∙ fields_again d 1 (slice_index page 1) zeros (sizes_fit d.schema d.sizes h.limits) (schema_fits d.schema d.sizes h.limits h.names))

pub one_layout : (page : List ℕ) (a b : DiskLayout) → HasControl a page → HasControl b page → a ≡ b
one_layout page a b of_a of_b =
    let first = control_again a page of_a in
    let second = control_again b page of_b in
    let same : ((a.sizes, a.schema), first.0) ≡ ((b.sizes, b.schema), second.0) = some_is _ _ (sym first.1 ∙ second.1) in
    ap (λ (p : (Sizes × Schema) × List ℕ). let d : DiskLayout = record { schema = p.0.1; sizes = p.0.0 } in d) same
