-- an index with a column of each class
use Rattle.std.specs.Prelude.{ℕ, List, [], ◌∷◌}
use Rattle.block_model.specs.declared.schema.Class.TheVariants as classes
use Rattle.block_model.specs.declared.value.Kind.TheVariants as kinds
use Rattle.opclass_any.specs.AnyClass.{class_of}
use Rattle.opclass_any.specs.declared.classes.AnyClass.{AnyClass}

abbrev pub minmax_part : ℕ × AnyClass
minmax_part = (0, class_of classes.MinMax kinds.Int)

abbrev pub multi_part : ℕ × AnyClass
multi_part = (1, class_of (classes.Multi 8) kinds.Int)

abbrev pub span_part : ℕ × AnyClass
span_part = (2, class_of classes.Inclusion kinds.Span)

abbrev pub net_part : ℕ × AnyClass
net_part = (3, class_of classes.Inclusion kinds.Net)

abbrev pub bloom_part : ℕ × AnyClass
bloom_part = (4, class_of (classes.Bloom 64 2) kinds.Int)

abbrev pub five_parts : List (ℕ × AnyClass)
five_parts = minmax_part ∷ multi_part ∷ span_part ∷ net_part ∷ bloom_part ∷ []
