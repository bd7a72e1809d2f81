-- a summary that is asked misses no value that it includes
use Rattle.std.proofs.Common.{◌≡◌, ℤ, Bool, true, false, List, refl, sym, ap, ◌∙◌, subst, arith, int_eq}
use Rattle.std.proofs.lemmas.Int.{ints}
use Rattle.block_model.specs.declared.value.Value.{Value}
use Rattle.block_model.specs.declared.value.Value.TheVariants.{Null, Int, Span, Net}
use Rattle.block_model.specs.declared.value.Op.{Op}
use Rattle.block_model.specs.declared.value.Op.TheVariants.{Eq}
use Rattle.block_model.specs.declared.row.Cond.{Cond}
use Rattle.block_model.specs.Matches.{kind_matches, number_matches, network_matches}
use Rattle.block_model.specs.Networks.{Network}
use Rattle.opclass_api.specs.Conditions.{compares, AllCompare, meets, meets_all, has_null_key, is_null}
use Rattle.opclass_api.specs.Asking as Asked
use Rattle.opclass_api.specs.EqualNetworks.{same_network}
use Rattle.opclass_bloom.specs.Consistent.{consistent, key_holds, operator_holds, equal_holds}
use Rattle.opclass_bloom.specs.Includes.{Includes, has_all}
use Rattle.opclass_bloom.specs.Parameters.{Parameters}

-- each operator holds where `=` does
unless_equal : (p : Parameters) (s : List Bool) (op : Op) (key : Value) → (op ≡ Eq → equal_holds p s key ≡ true) → operator_holds p s op key ≡ true
unless_equal p s Eq key equal = equal refl
unless_equal p s op key equal = refl

same_number : (v k : ℤ) → int_eq v k ≡ true → v ≡ k
same_number v k is = grind (arith, ints)

number_kept : (p : Parameters) (s : List Bool) (v : ℤ) (op : Op) (k : ℤ) → has_all p s (Int v) ≡ true → number_matches v op k ≡ true → operator_holds p s op (Int k) ≡ true
number_kept p s v op k all m =
    unless_equal p s op (Int k) (λ equal. subst (λ (n : ℤ). has_all p s (Int n) ≡ true) (same_number v k (ap (λ (o : Op). number_matches v o k) (sym equal) ∙ m)) all)

network_kept : (p : Parameters) (s : List Bool) (v : Network) (op : Op) (k : Network) → has_all p s (Net v) ≡ true → network_matches v op k ≡ true → operator_holds p s op (Net k) ≡ true
network_kept p s v op k all m =
    unless_equal p s op (Net k) (λ equal. subst (λ (n : Network). has_all p s (Net n) ≡ true) (same_network v k (ap (λ (o : Op). network_matches v o k) (sym equal) ∙ m)) all)

-- what an included value meets holds of the summary
key_kept : (p : Parameters) (s : List Bool) (v : Value) (op : Op) (key : Value) → Includes p s v → kind_matches v op key ≡ true → key_holds p s op key ≡ true
key_kept p s (Int v) op (Int k) included m = number_kept p s v op k included.1 m
key_kept p s (Int v) op Null included m = m
key_kept p s (Int v) op (Span k) included m = cc
key_kept p s (Int v) op (Net k) included m = cc
key_kept p s (Net v) op (Net k) included m = network_kept p s v op k included.1 m
key_kept p s (Net v) op Null included m = m
key_kept p s (Net v) op (Int k) included m = cc
key_kept p s (Net v) op (Span k) included m = cc
key_kept p s Null op key included m = absurd included.0
key_kept p s (Span v) op key included m = absurd included.0

kept : (p : Parameters) (s : List Bool) (v : Value) (cond : Cond) → Includes p s v → compares cond.op ≡ true → meets v cond ≡ true → key_holds p s cond.op cond.key ≡ true
kept p s (Int v) cond included c m = key_kept p s (Int v) cond.op cond.key included (sym (Asked.by_kind (Int v) cond.op cond.key c) ∙ m)
kept p s (Net v) cond included c m = key_kept p s (Net v) cond.op cond.key included (sym (Asked.by_kind (Net v) cond.op cond.key c) ∙ m)
kept p s Null cond included c m = absurd included.0
kept p s (Span v) cond included c m = absurd included.0

pub misses_none : (p : Parameters) (s : List Bool) (conds : List Cond) (v : Value) → AllCompare conds → consistent p s conds ≡ false → Includes p s v → meets_all conds v ≡ false
misses_none p s conds v all none included =
    Asked.misses_none (λ c. key_holds p s c.op c.key) conds v (λ cond c m. kept p s v cond included c m) all none

key_null : (p : Parameters) (s : List Bool) (op : Op) (key : Value) → is_null key ≡ true → key_holds p s op key ≡ false
key_null p s op Null null = refl
key_null p s op (Int k) null = cc
key_null p s op (Span k) null = cc
key_null p s op (Net k) null = cc

-- a null key holds nothing
pub null_holds_nothing : (p : Parameters) (s : List Bool) (conds : List Cond) → has_null_key conds ≡ true → consistent p s conds ≡ false
null_holds_nothing p s conds some =
    Asked.null_fails (λ c. key_holds p s c.op c.key) conds (λ c null. key_null p s c.op c.key null) some
