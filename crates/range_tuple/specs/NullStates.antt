-- which of nulls and values rows had in a column
use Rattle.std.specs.Prelude.{ℕ, Bool, true, false}
use Rattle.range_tuple.specs.declared.state.NullState.{NullState}
use Rattle.range_tuple.specs.declared.state.NullState.TheVariants.{Nothing, Nulls, Values, Both}

-- 0 nothing added, 1 nulls alone, 2 values without nulls, 3 both
abbrev pub number_of : NullState → ℕ
number_of Nothing = 0
number_of Nulls = 1
number_of Values = 2
number_of Both = 3

-- nulls were added
abbrev pub has_nulls : NullState → Bool
has_nulls Nothing = false
has_nulls Nulls = true
has_nulls Values = false
has_nulls Both = true

-- values were added
abbrev pub has_values : NullState → Bool
has_values Nothing = false
has_values Nulls = false
has_values Values = true
has_values Both = true

-- the state in which nulls were added or not, and values were or not
abbrev pub state_of : Bool → Bool → NullState
state_of false false = Nothing
state_of true false = Nulls
state_of false true = Values
state_of true true = Both
