use Rattle.std.proofs.Common.{◌≡◌, true}
use Rattle.std.proofs.lemmas.Bool.{false≢true}
use Rattle.block_model.specs.ClassLimits.{takes_kind}
use Rattle.block_model.specs.declared.schema.Class.{Class}
use Rattle.block_model.specs.declared.schema.Class.TheVariants as classes
use Rattle.block_model.specs.declared.value.Kind.{Kind}
use Rattle.block_model.specs.declared.value.Kind.TheVariants as kinds
use Rattle.block_model.specs.declared.value.Value.{Value}
use Rattle.block_model.specs.declared.value.Value.TheVariants.{Null, Int, Span, Net}
use Rattle.opclass_any.specs.AnyClass.{class_of, takes}
use Rattle.range_tuple.specs.KindValues.{IsOfKind}
use Rattle.range_tuple.specs.TupleIncludes.{TakesValue}
use Rattle.range_tuple.proofs.laws.values_of_a_kind_are_taken.Goals as goal

taken : (class : Class) (kind : Kind) (v : Value) → takes_kind class kind ≡ true → IsOfKind kind v → TakesValue (class_of class kind) v
unfolding takes
taken class kind Null lawful of = tt
taken classes.MinMax kinds.Int (Int n) lawful of = tt
taken classes.MinMax kinds.Int v lawful of = absurd of
taken classes.MinMax kind v lawful of = absurd (false≢true lawful)
taken (classes.Multi limit) kinds.Int (Int n) lawful of = tt
taken (classes.Multi limit) kinds.Int v lawful of = absurd of
taken (classes.Multi limit) kind v lawful of = absurd (false≢true lawful)
taken classes.Inclusion kinds.Span (Span r) lawful of = tt
taken classes.Inclusion kinds.Span v lawful of = absurd of
taken classes.Inclusion kinds.Net (Net n) lawful of = tt
taken classes.Inclusion kinds.Net v lawful of = absurd of
taken classes.Inclusion kind v lawful of = absurd (false≢true lawful)
taken (classes.Bloom bits hashes) kinds.Int (Int n) lawful of = tt
taken (classes.Bloom bits hashes) kinds.Int v lawful of = absurd of
taken (classes.Bloom bits hashes) kinds.Net (Net n) lawful of = tt
taken (classes.Bloom bits hashes) kinds.Net v lawful of = absurd of
taken (classes.Bloom bits hashes) kind v lawful of = absurd (false≢true lawful)

pub returns : goal.returns
returns c = taken
