use Rattle.std.proofs.Common.{ℕ, ◌<◌, length}
use Rattle.range_tuple.specs.SoundTuples.{AreSoundTuples}
use Rattle.index_steps.specs.IndexTuples.{classes_of, shape_of}
use Rattle.index_steps.proofs.Shapes.{indexed, lawful_shape, room_is}
use Rattle.store_image.proofs.Formed.{formed_spelt, spelt_formed}
use Rattle.store_image.proofs.Sound.{AreIndexes, image_sound, sound_image}
use Rattle.store_image.proofs.laws.a_sound_store_is_an_image.Goals as goal

its_tuples : (c : goal.After-lawful_classes_are_within_limits) (index : ℕ) → index < length c.args.layout.now.schema.indexes → AreSoundTuples (classes_of (shape_of c.args.layout.now index))
its_tuples c index below =
    let layout = c.args.layout.now in
    c.tuples_are_sound.ensures (classes_of (shape_of layout index)) (indexed c.lawful_classes_are_within_limits.ensures.limits (shape_of layout index) (lawful_shape layout index c.known.ensures.limits below))

its_indexes : (c : goal.After-lawful_classes_are_within_limits) → AreIndexes c.args.layout.now
its_indexes c =
    let layout = c.args.layout.now in
    record {
      listed = c.every_index_of_a_table_is_listed.ensures.listed layout;
      only = c.every_index_of_a_table_is_listed.ensures.only layout;
      lawful = λ index below. c.tuples_of_an_index_are_lawful.ensures.layouts layout index c.known.ensures.limits below;
      formed = λ index bytes t below spelt. spelt_formed (shape_of layout index) (its_tuples c index below) (room_is c.lawful_classes_are_within_limits.ensures.size (shape_of layout index)) c.bytes_begin_with_the_range.ensures bytes t spelt;
      spelt = λ index bytes below formed. formed_spelt (shape_of layout index) (its_tuples c index below) (room_is c.lawful_classes_are_within_limits.ensures.size (shape_of layout index)) c.bytes_begin_with_the_range.ensures bytes formed;
    }

pub returns : goal.returns
returns c = λ pages whole passes. (
  λ sound. sound_image c.args.layout.now pages c.known.ensures.limits (its_indexes c) sound whole c.known.ensures.sizes passes,
  λ image. image_sound c.args.layout.now pages c.known.ensures.limits (its_indexes c) image.0 image.1,
)
