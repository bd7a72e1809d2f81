use Rattle.std.proofs.Common.{ℕ, All, List, get_or}
use Rattle.opclass_any.specs.declared.classes.AnyClass.{AnyClass}
use Rattle.range_tuple.specs.SoundClasses.{IsSoundClass}
use Rattle.range_tuple.specs.SoundTuples.{AreSoundTuples, IsIndexed}
use Rattle.range_tuple.proofs.Classes.{sound}
use Rattle.range_tuple.proofs.Reading.{spelt_of}
use Rattle.range_tuple.proofs.TupleParts.{empty_of, row_of, union_of, written_of}
use Rattle.range_tuple.proofs.soundness.tuples_are_sound.Goals as goal

sound_tuples : (parts : List (ℕ × AnyClass)) → IsIndexed parts → AreSoundTuples parts
sound_tuples parts indexed =
    let all : All (λ (p : ℕ × AnyClass). IsSoundClass p.1) parts = λ k d below. sound (get_or parts k d).1 (indexed.limits k d below) in
    record {
      empty = λ range held columns on fits same. empty_of parts range held columns on indexed.some all fits same;
      widens = λ t values of taken known. row_of parts t values all of taken known;
      unites = λ t other of also. union_of parts t other all of also;
      written = λ t of. written_of parts t all of;
      read = λ bytes t small is. spelt_of parts bytes t indexed.some all small is;
    }

pub returns : goal.returns
returns c = sound_tuples
