-- a summary that is asked misses no value that it includes
use Rattle.std.proofs.Common.{◌≡◌, true, false, List, refl, sym, ◌∙◌}
use Rattle.block_model.specs.declared.value.Value.{Value}
use Rattle.block_model.specs.declared.value.Value.TheVariants.{Null, Int, Span, Net}
use Rattle.block_model.specs.declared.row.Cond.{Cond}
use Rattle.opclass_api.specs.Conditions.{compares, AllCompare, meets, meets_all, has_null_key, is_null}
use Rattle.opclass_api.specs.Asking as Asked
use Rattle.opclass_api.specs.NumbersKept.{key_kept, key_null}
use Rattle.opclass_minmax.specs.Bounds.{Bounds, NothingYet, Between}
use Rattle.opclass_minmax.specs.Includes.{Includes}
use Rattle.opclass_minmax.specs.Consistent.{consistent, condition_holds}

-- what a value within the bounds meets holds of the bounds
kept : (s : Bounds) (v : Value) → Includes s v → (cond : Cond) → compares cond.op ≡ true → meets v cond ≡ true → condition_holds s cond ≡ true
kept NothingYet v within cond c m = absurd within
kept (Between l g) (Int v) within cond c m = key_kept l g v cond.op cond.key within.0 within.1 (sym (Asked.by_kind (Int v) cond.op cond.key c) ∙ m)
kept (Between l g) Null within cond c m = absurd within
kept (Between l g) (Span r) within cond c m = absurd within
kept (Between l g) (Net n) within cond c m = absurd within

pub misses_none : (s : Bounds) (conds : List Cond) (v : Value) → AllCompare conds → consistent s conds ≡ false → Includes s v → meets_all conds v ≡ false
misses_none s conds v all none within = Asked.misses_none (condition_holds s) conds v (kept s v within) all none

condition_null : (s : Bounds) (cond : Cond) → is_null cond.key ≡ true → condition_holds s cond ≡ false
condition_null NothingYet cond null = refl
condition_null (Between l g) cond null = key_null l g cond.op cond.key null

-- a null key holds nothing
pub null_holds_nothing : (s : Bounds) (conds : List Cond) → has_null_key conds ≡ true → consistent s conds ≡ false
null_holds_nothing s conds some = Asked.null_fails (condition_holds s) conds (condition_null s) some
