use Rattle.std.proofs.Common.{◌≡◌, true, List}
use Rattle.block_model.specs.declared.value.Value.{Value}
use Rattle.range_tuple.specs.SoundTuples.{AreSoundTuples}
use Rattle.index_steps.specs.IndexTuples.{IndexShape, TakesValues, classes_of, have_kinds, kinds_of}
use Rattle.index_steps.specs.LawfulShapes.{IsLawfulShape}
use Rattle.index_steps.proofs.Exact.{inserts_exactly, leaves_exactly, passed_exactly, unites_exactly}
use Rattle.index_steps.proofs.Shapes.{indexed}
use Rattle.index_steps.proofs.class_laws.summaries_are_exact.Goals as goal

sound : goal.After-a_union_adds_the_rows → (shape : IndexShape) → IsLawfulShape shape → AreSoundTuples (classes_of shape)
sound c shape lawful = c.tuples_are_sound.ensures (classes_of shape) (indexed c.lawful_classes_are_within_limits.ensures.limits shape lawful)

takes : goal.After-a_union_adds_the_rows → (shape : IndexShape) → IsLawfulShape shape → (values : List Value) → have_kinds (kinds_of shape) values ≡ true → TakesValues shape values
takes c shape lawful values are = c.rows_of_the_table_are_taken.ensures shape values lawful.within lawful.classes are

pub returns : goal.returns
returns c = record {
  inserted = λ shape r u t lawful says. inserts_exactly shape (sound c shape lawful) (takes c shape lawful) r u t says;
  passed =
      λ shape row range first next result lawful fits passed.
      passed_exactly shape (sound c shape lawful) (takes c shape lawful) range first fits row (c.rows_leave_exact_summaries.ensures range true shape.columns shape.parts) next result passed;
  united = λ shape rows range old result held lawful says has. unites_exactly shape (sound c shape lawful) c.a_union_adds_the_rows.ensures rows range old result held says has;
  left =
      λ shape w v range lawful kept own left.
      leaves_exactly shape (sound c shape lawful) (takes c shape lawful) c.a_union_adds_the_rows.ensures (λ range rows. c.rows_leave_exact_summaries.ensures range true shape.columns shape.parts rows) w v range kept own left;
}
