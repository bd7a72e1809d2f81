use Rattle.std.proofs.Common.{refl}
use Rattle.index_steps.specs.IndexTuples.{seen, shape_of}
use Rattle.brin_insert.specs.declared.stage.Stage.TheVariants as stages
use Rattle.brin_insert.specs.InsertSteps.{on_index}
use Rattle.brin_insert.proofs.Kept.{moves_there, undamaged}
use Rattle.brin_insert.proofs.laws.a_kept_table_is_read.Goals as goal

pub returns-clause-moving : goal.returns-clause-moving
returns-clause-moving c = λ layout pages locks s table at n b k r x y copied widened there shows.
    moves_there layout pages locks s table at n b k r (on_index (shape_of layout n) (stages.Set x y) copied widened) there shows c.an_insert_knows_its_move.ensures x y (seen (shape_of layout n) copied) (seen (shape_of layout n) widened) refl

pub returns-clause-undamaged : goal.returns-clause-undamaged
returns-clause-undamaged c = λ layout pages locks s table at n b k r stage copied widened there shows damage.
    undamaged c.a_sound_index_is_not_misread.ensures.named c.a_sound_index_is_not_misread.ensures.read c.index_stays_covered.ensures.read layout pages locks s table at n b k r copied widened there stage shows damage
