use Rattle.coverage.specs.Statements.{AreLawful}
use Rattle.index_steps.specs.IndexTuples.{IndexShape, classes_of, contents_of}
use Rattle.index_steps.specs.LawfulShapes.{IsLawfulShape}
use Rattle.index_steps.proofs.Contents.{lawful_contents}
use Rattle.index_steps.proofs.Shapes.{indexed, lawful_shape, room_is}
use Rattle.index_steps.proofs.class_laws.tuples_of_an_index_are_lawful.Goals as goal

are_lawful : goal.After-rows_of_the_table_are_taken → (shape : IndexShape) → IsLawfulShape shape → AreLawful (contents_of shape)
are_lawful c shape lawful =
    lawful_contents shape lawful (c.tuples_are_sound.ensures (classes_of shape) (indexed c.lawful_classes_are_within_limits.ensures.limits shape lawful)) (room_is c.lawful_classes_are_within_limits.ensures.size shape)
    c.a_row_is_included_as_tested.ensures c.bytes_begin_with_the_range.ensures (λ values are. c.rows_of_the_table_are_taken.ensures shape values lawful.within lawful.classes are)

pub returns : goal.returns
returns c = record {
  shapes = are_lawful c;
  layouts = λ layout index limits below. are_lawful c _ (lawful_shape layout index limits below);
}
