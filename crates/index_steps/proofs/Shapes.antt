-- indexes within the limits: their classes, the room of their tuples, and those of a layout
use Rattle.std.proofs.Common.{◌≡◌, ℕ, zero, suc, ◌+◌, ◌<◌, ◌≤◌, Bool, true, List, [], ◌∷◌, All, length, map, refl, ap, ◌∙◌, arith}
use Rattle.std.specs.Prelude.{nat_le, nat_lt, slice_index_or, sum_by}
use Rattle.std.specs.List.{list_all}
use Rattle.std.proofs.lemmas.Bool.{and_parts, leb-true}
use Rattle.std.proofs.lemmas.List.{length-map}
use Rattle.std.proofs.lemmas.List.Elements.{All-cons, All-nil}
use Rattle.std.proofs.lemmas.List.Sums.{sum_by-cons}
use Rattle.block_model.specs.declared.limits.TheConstants.{MAX_TUPLE}
use Rattle.block_model.specs.declared.schema.Class.{Class}
use Rattle.block_model.specs.declared.schema.Column.{Column}
use Rattle.block_model.specs.declared.schema.Index.{Index}
use Rattle.block_model.specs.declared.schema.Part.{Part}
use Rattle.block_model.specs.declared.schema.Schema.{Schema}
use Rattle.block_model.specs.declared.value.Kind.{Kind}
use Rattle.block_model.specs.ClassLimits.{class_is_lawful, has_lawful_parameters, takes_kind}
use Rattle.block_model.specs.IndexedColumns.{columns_of, kind_at}
use Rattle.block_model.specs.TupleSize.{part_size, summary_size, tuple_size}
use Rattle.store_layout.specs.DiskLayout.{DiskLayout}
use Rattle.store_layout.specs.FirstBrokenRule.{KeepsLimits}
use Rattle.store_layout.specs.Limits.{columns_are_lawful, is_on_a_table, parts_are_lawful}
use Rattle.opclass_any.specs.AnyClass.{class_of, greatest_size}
use Rattle.opclass_any.specs.declared.classes.AnyClass.{AnyClass}
use Rattle.range_tuple.specs.Tuples.{IndexedColumn, column_room, empty_column, part_of, parts_of, tuple_room}
use Rattle.range_tuple.specs.SoundClasses.{IsWithinLimits}
use Rattle.range_tuple.specs.SoundTuples.{IsIndexed}
use Rattle.index_steps.specs.IndexTuples.{IndexShape, classes_of, index_at, no_index, shape_of}
use Rattle.index_steps.specs.LawfulShapes.{IsLawfulShape}

-- ---- the classes

-- a class with lawful parameters is within its limits
abbrev pub AreLimits : Type 0
AreLimits = (class : Class) (kind : Kind) → has_lawful_parameters class ≡ true → IsWithinLimits (class_of class kind)

each_limit : AreLimits → (columns : List Column) (parts : List Part) → list_all (class_is_lawful columns) parts ≡ true → All (λ (p : ℕ × AnyClass). IsWithinLimits p.1) (parts_of (map (empty_column columns) parts))
each_limit limits columns [] lawful = All-nil (λ (p : ℕ × AnyClass). IsWithinLimits p.1)
each_limit limits columns (part ∷ parts) lawful =
    let both = and_parts (class_is_lawful columns part) (list_all (class_is_lawful columns) parts) lawful in
    let kind = kind_at columns part.column in
    All-cons (λ (p : ℕ × AnyClass). IsWithinLimits p.1) (part_of (empty_column columns part)) (parts_of (map (empty_column columns) parts))
    (limits part.class kind (and_parts (takes_kind part.class kind) (has_lawful_parameters part.class) both.0).1) (each_limit limits columns parts both.1)

pub indexed : AreLimits → (shape : IndexShape) → IsLawfulShape shape → IsIndexed (classes_of shape)
unfolding classes_of
indexed limits shape lawful = record {
  some = omega (arith, lawful.some, length-map (map (empty_column shape.columns) shape.parts) part_of, length-map shape.parts (empty_column shape.columns));
  limits = each_limit limits shape.columns shape.parts lawful.classes;
}

-- ---- the room of a tuple

abbrev pub AreSizes : Type 0
AreSizes = (class : Class) (kind : Kind) → greatest_size (class_of class kind) ≡ summary_size class kind

abbrev part_rooms : List (ℕ × AnyClass) → ℕ
part_rooms [] = 0
part_rooms (p ∷ parts) = 1 + 2 + greatest_size p.1 + part_rooms parts

rooms_are : (columns : List IndexedColumn) → sum_by column_room columns ≡ part_rooms (parts_of columns)
rooms_are [] = refl
rooms_are (column ∷ columns) = omega (arith, sum_by-cons column_room column columns, rooms_are columns)

sizes_are : AreSizes → (columns : List Column) (parts : List Part) → part_rooms (parts_of (map (empty_column columns) parts)) ≡ sum_by (part_size columns) parts
sizes_are sizes columns [] = refl
sizes_are sizes columns (part ∷ parts) = omega (arith, sum_by-cons (part_size columns) part parts, sizes_are sizes columns parts, sizes part.class (kind_at columns part.column))

pub room_is : AreSizes → (shape : IndexShape) (columns : List IndexedColumn) → parts_of columns ≡ classes_of shape → tuple_room columns ≡ tuple_size shape.columns shape.parts
unfolding classes_of
room_is sizes shape columns same = ap (λ (n : ℕ). 4 + 1 + n) (rooms_are columns ∙ ap part_rooms same ∙ sizes_are sizes shape.columns shape.parts)

-- ---- the indexes of a layout

-- what holds of each index holds of the one of that number
passes_at : (test : Index → Bool) (indexes : List Index) (n : ℕ) (d : Index) → n < length indexes → list_all test indexes ≡ true → test (slice_index_or indexes n d) ≡ true
passes_at test [] n d below all = absurd (omega (arith, below))
passes_at test (index ∷ indexes) zero d below all = (and_parts (test index) (list_all test indexes) all).0
passes_at test (index ∷ indexes) (suc n) d below all = passes_at test indexes n d (omega (arith, below)) (and_parts (test index) (list_all test indexes) all).1

pub lawful_shape : (layout : DiskLayout) (index : ℕ) → KeepsLimits layout.schema layout.sizes → index < length layout.schema.indexes → IsLawfulShape (shape_of layout index)
unfolding shape_of
lawful_shape layout index limits below =
    let schema : Schema = layout.schema in
    let own = index_at layout index in
    let parts = passes_at parts_are_lawful schema.indexes index no_index below (and_parts (list_all columns_are_lawful schema.tables) _ (limits 2)).1 in
    let on = passes_at (is_on_a_table schema) schema.indexes index no_index below (and_parts (nat_le (length schema.indexes) 8) _ (limits 3)).1 in
    let many : 1 ≤ length own.parts = leb-true 1 (length own.parts) (and_parts (nat_le 1 (length own.parts)) (nat_le (length own.parts) 8) (and_parts _ _ parts).0).0 in
    record {
      some = many;
      within = (and_parts (nat_lt own.table (length schema.tables)) _ on).1;
      classes = passes_at (λ (i : Index). list_all (class_is_lawful (columns_of schema i)) i.parts) schema.indexes index no_index below (limits 6);
      size = leb-true (tuple_size (columns_of schema own) own.parts) MAX_TUPLE (passes_at (λ (i : Index). nat_le (tuple_size (columns_of schema i) i.parts) MAX_TUPLE) schema.indexes index no_index below (limits 7));
    }
