-- values as they are made
use Rattle.std.specs.Prelude.{◌≡◌, true, All, List}
use Rattle.block_model.specs.declared.row.Cond.{Cond}
use Rattle.block_model.specs.declared.value.Kind.{Kind}
use Rattle.block_model.specs.declared.value.Value.{Value}
use Rattle.block_model.specs.ValuesOfKind.{IsValueOf, has_kind}

-- it is one of each kind that it has: its numbers are of int8, its range has a number, its address 32 bits
abbrev pub IsOfItsKind : Value → Type 0
IsOfItsKind v = (kind : Kind) → has_kind kind v ≡ true → IsValueOf kind v

-- so is the key of each condition
abbrev pub HaveOwnKeys : List Cond → Type 0
HaveOwnKeys conds = All (λ cond. IsOfItsKind cond.key) conds
