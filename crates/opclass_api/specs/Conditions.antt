-- the conditions that a summary is asked with
use Rattle.std.specs.Prelude.{◌≡◌, Bool, true, false, List}
use Rattle.std.specs.List.{list_all, list_any}
use Rattle.block_model.specs.declared.value.Value.{Value}
use Rattle.block_model.specs.declared.value.Value.TheVariants.{Null}
use Rattle.block_model.specs.declared.value.Op.{Op}
use Rattle.block_model.specs.declared.value.Op.TheVariants.{IsNull, NotNull}
use Rattle.block_model.specs.declared.row.Cond.{Cond}
use Rattle.block_model.specs.Matches.{matches}

-- the operator compares with its key: it is neither `is null` nor `is not null`
abbrev pub compares : Op → Bool
compares IsNull = false
compares NotNull = false
compares op = true

-- each condition compares
abbrev pub AllCompare : List Cond → Type 0
AllCompare conds = list_all (λ c. compares c.op) conds ≡ true

-- the value meets the condition, of whatever column
abbrev pub meets : Value → Cond → Bool
meets v cond = matches v cond.op cond.key

-- the value meets each condition
abbrev pub meets_all : List Cond → Value → Bool
meets_all conds v = list_all (meets v) conds

abbrev pub is_null : Value → Bool
is_null Null = true
is_null v = false

-- a key of the conditions is null
abbrev pub has_null_key : List Cond → Bool
has_null_key conds = list_any (λ c. is_null c.key) conds
