-- summaries that are asked, whatever their class
use Rattle.std.proofs.Common.{◌≡◌, Bool, true, false, ◌&&◌, ◌||◌, List, [], ◌∷◌, refl, sym, ◌∙◌}
use Rattle.std.specs.List.{list_all}
use Rattle.std.proofs.lemmas.Bool.{false≢true}
use Rattle.block_model.specs.declared.value.Value.{Value}
use Rattle.block_model.specs.declared.value.Op.{Op}
use Rattle.block_model.specs.declared.value.Op.TheVariants.{IsNull, NotNull}
use Rattle.block_model.specs.declared.row.Cond.{Cond}
use Rattle.block_model.specs.Matches.{value_matches, kind_matches}
use Rattle.opclass_api.specs.Conditions.{compares, AllCompare, meets, meets_all, has_null_key, is_null}

-- an operator that compares is that of the kind
pub by_kind : (v : Value) (op : Op) (key : Value) → compares op ≡ true → value_matches v op key ≡ kind_matches v op key
by_kind v IsNull key c = absurd (false≢true c)
by_kind v NotNull key c = absurd (false≢true c)
by_kind v op key c = refl

-- a test fails where what it implies does
pub fails : (b h : Bool) → h ≡ false → (b ≡ true → h ≡ true) → b ≡ false
fails false h none there = refl
fails true h none there = absurd (false≢true (sym none ∙ there refl))

-- the first of two lists of tests fails where the second does
carried : (c h m cs hs ms : Bool) → (c && cs) ≡ true → (h && hs) ≡ false → (c ≡ true → m ≡ true → h ≡ true) → (cs ≡ true → hs ≡ false → ms ≡ false) → (m && ms) ≡ false
carried c h false cs hs ms all none here later = refl
carried false h true cs hs ms all none here later = absurd (false≢true all)
carried true true true cs hs ms all none here later = later all none
carried true false true cs hs ms all none here later = absurd (false≢true (here refl refl))

-- where a condition holds if a value meets it, a value that meets all fails with none
pub misses_none : (holds : Cond → Bool) (conds : List Cond) (v : Value) → ((cond : Cond) → compares cond.op ≡ true → meets v cond ≡ true → holds cond ≡ true) → AllCompare conds → list_all holds conds ≡ false → meets_all conds v ≡ false
misses_none holds [] v kept all none = none
misses_none holds (cond ∷ conds) v kept all none =
    carried (compares cond.op) (holds cond) (meets v cond) _ (list_all holds conds) (meets_all conds v) all none (kept cond) (λ rest fail. misses_none holds conds v kept rest fail)

one_fails : (n h ns hs : Bool) → (n || ns) ≡ true → (n ≡ true → h ≡ false) → (ns ≡ true → hs ≡ false) → (h && hs) ≡ false
one_fails n false ns hs some here later = refl
one_fails true true ns hs some here later = absurd (false≢true (sym (here refl)))
one_fails false true ns hs some here later = later some

-- where no null key holds, no conditions with one do
pub null_fails : (holds : Cond → Bool) (conds : List Cond) → ((cond : Cond) → is_null cond.key ≡ true → holds cond ≡ false) → has_null_key conds ≡ true → list_all holds conds ≡ false
null_fails holds [] none some = absurd (false≢true some)
null_fails holds (cond ∷ conds) none some = one_fails (is_null cond.key) (holds cond) (has_null_key conds) (list_all holds conds) some (none cond) (null_fails holds conds none)
