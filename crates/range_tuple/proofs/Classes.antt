-- each class whose parameters are within their limits is sound
use Rattle.std.proofs.Common.{◌≡◌, ℕ, ◌≤◌, ◌%◌, ◌==◌, ◌&&◌, true, refl}
use Rattle.std.specs.Prelude.{nat_le}
use Rattle.std.proofs.lemmas.Bool.{and_parts, eqb-true, leb-true}
use Rattle.block_model.specs.ClassLimits.{has_lawful_parameters, is_within}
use Rattle.block_model.specs.TupleSize.{summary_size}
use Rattle.block_model.specs.declared.schema.Class.{Class}
use Rattle.block_model.specs.declared.schema.Class.TheVariants as classes
use Rattle.block_model.specs.declared.value.Kind.{Kind}
use Rattle.block_model.specs.declared.value.Kind.TheVariants as kinds
use Rattle.opclass_any.specs.AnyClass.{class_of, greatest_size}
use Rattle.opclass_any.specs.declared.classes.AnyClass.{AnyClass}
use Rattle.opclass_any.specs.declared.classes.AnyClass.TheVariants as forms
use Rattle.range_tuple.specs.SoundClasses.{IsSoundClass, IsWithinLimits}
use Rattle.range_tuple.proofs.Blooms.{sound as bloom_sound}
use Rattle.range_tuple.proofs.MinMax.{sound as minmax_sound}
use Rattle.range_tuple.proofs.Multi.{sound as multi_sound}
use Rattle.range_tuple.proofs.Nets.{sound as net_sound}
use Rattle.range_tuple.proofs.Spans.{sound as span_sound}

pub sound : (class : AnyClass) → IsWithinLimits class → IsSoundClass class
sound (forms.MinMax class) limits = minmax_sound class
sound (forms.Multi limit) limits = multi_sound limit limits
sound (forms.SpanHull class) limits = span_sound class
sound (forms.NetHull class) limits = net_sound class
sound (forms.Bloom parameters) limits = bloom_sound parameters limits

within : (low high n : ℕ) → is_within low high n ≡ true → (low ≤ n) × (n ≤ high)
within low high n is = let both = and_parts (nat_le low n) (nat_le n high) is in (leb-true low n both.0, leb-true n high both.1)

-- so is the class of each kind with lawful parameters
pub within_limits : (class : Class) (kind : Kind) → has_lawful_parameters class ≡ true → IsWithinLimits (class_of class kind)
within_limits classes.MinMax kind lawful = tt
within_limits (classes.Multi limit) kind lawful = let both = within 8 256 limit lawful in record { least = both.0; greatest = both.1 }
within_limits classes.Inclusion kinds.Int lawful = tt
within_limits classes.Inclusion kinds.Span lawful = tt
within_limits classes.Inclusion kinds.Net lawful = tt
within_limits (classes.Bloom bits hashes) kind lawful =
    let all : ((is_within 64 16384 bits && (bits % 8 == 0)) ≡ true) × (is_within 1 16 hashes ≡ true) = and_parts _ _ lawful in
    let first : (is_within 64 16384 bits ≡ true) × ((bits % 8 == 0) ≡ true) = and_parts _ _ all.0 in
    let size = within 64 16384 bits first.0 in
    let many = within 1 16 hashes all.1 in
    record { whole_bytes = eqb-true (bits % 8) 0 first.1; least_bits = size.0; most_bits = size.1; least_hashes = many.0; most_hashes = many.1 }

-- the greatest summary, as the layout counts it
pub sizes : (class : Class) (kind : Kind) → greatest_size (class_of class kind) ≡ summary_size class kind
unfolding greatest_size
sizes classes.MinMax kind = refl
sizes (classes.Multi limit) kind = refl
sizes classes.Inclusion kinds.Int = refl
sizes classes.Inclusion kinds.Span = refl
sizes classes.Inclusion kinds.Net = refl
sizes (classes.Bloom bits hashes) kind = refl
