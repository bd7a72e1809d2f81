-- how kinds are kept: in an array of eight, filled up with one of them
use Rattle.std.specs.Prelude.{◌≡◌, List, length, take}
use Rattle.std.proofs.Common.{sym}
use Rattle.block_model.specs.declared.limits.TheConstants.{MAX_COLUMNS}
use Rattle.block_model.specs.declared.value.Kind.{Kind}
use Rattle.block_model.specs.declared.value.Kind.TheVariants.{Int}
use Rattle.block_model.specs.declared.value.Kinds.TheInside.{Inside}
use Rattle.block_model.specs.Padded.{padded, IsPadded, length_padded}

abbrev pub kinds_in : Inside → List Kind
kinds_in a = take a.len a.slots

abbrev pub AreKinds : Inside → Type 0
AreKinds a = IsPadded MAX_COLUMNS Int a.slots a.len

abbrev pub kinds_kept : List Kind → Inside
kinds_kept kinds = record { slots = padded MAX_COLUMNS Int kinds; len = length kinds }

pub kinds_kept_back : (a : Inside) → AreKinds a → kinds_kept (kinds_in a) ≡ a
kinds_kept_back a h = λ i. record { slots = sym h.fills i; len = length_padded MAX_COLUMNS Int a.slots a.len h i }
