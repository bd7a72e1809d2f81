-- which operators compare values of which kinds, and tests for null
use Rattle.std.specs.Prelude.{◌≡◌, ◌≢◌, ℤ, pos, true, false, Some, None, refl}
use Rattle.std.proofs.Common.{arith, sym, ◌∙◌}
use Rattle.std.proofs.lemmas.Bool.{false≢true, true≢false}
use Rattle.block_model.specs.declared.value.Kind.{Kind}
use Rattle.block_model.specs.declared.value.Kind.TheVariants as kinds
use Rattle.block_model.specs.declared.value.Value.{Value}
use Rattle.block_model.specs.declared.value.Value.TheVariants.{Null, Int, Span, Net}
use Rattle.block_model.specs.declared.value.Op.{Op}
use Rattle.block_model.specs.declared.value.Op.TheVariants.{Lt, Le, Eq, Ge, Gt, Overlaps, Contains, Within, Before, After, WithinEq, ContainsEq, NotAfter, NotBefore, Adjacent, IsNull, NotNull}
use Rattle.block_model.specs.Matches.{matches, kind_matches, is_null_test}
use Rattle.block_model.specs.Networks.{Network, IsNetwork, network_v4}
use Rattle.block_model.specs.Ranges.{Range, Empty, Between}
use Rattle.block_model.specs.ValuesOfKind.{IsValueOf}
use Rattle.store_layout.specs.OperatorKinds.{takes_operator}
use Rattle.model_laws.specs.OperatorsHaveKinds.{kind_of, SomeMeet, OperatorsHaveKinds}
use Rattle.model_laws.specs.NullTests.{NullTests}
use Rattle.model_laws.proofs.Converses.{is_comparison, compares}

-- ---- values that meet

-- all numbers, those below 0, and those from 0 on
abbrev all : Range
all = Between None None

abbrev negative : Range
negative = Between None (Some (pos 0))

abbrev positive : Range
positive = Between (Some (pos 0)) None

-- 0.0.0.0/0, and 0.0.0.0
every_address : IsNetwork (network_v4 0 0)
every_address = record { family = refl; prefix = omega arith; address = omega arith }

one_address : IsNetwork (network_v4 0 32)
one_address = record { family = refl; prefix = omega arith; address = omega arith }

number : (op : Op) → matches (Int (pos 0)) op (Int (pos 0)) ≡ true → SomeMeet kinds.Int op
number op e = record { value = Int (pos 0); key = Int (pos 0); value_is = refl; key_is = refl; meet = e }

ranges : (op : Op) → matches (Span all) op (Span all) ≡ true → SomeMeet kinds.Span op
ranges op e = record { value = Span all; key = Span all; value_is = (refl, (tt, tt)); key_is = (refl, (tt, tt)); meet = e }

networks : (op : Op) → matches (Net (network_v4 0 0)) op (Net (network_v4 0 0)) ≡ true → SomeMeet kinds.Net op
networks op e = record { value = Net (network_v4 0 0); key = Net (network_v4 0 0); value_is = every_address; key_is = every_address; meet = e }

own : (kind : Kind) (op : Op) → takes_operator kind op ≡ true → SomeMeet kind op
own kinds.Int IsNull h = record { value = Null; key = Null; value_is = tt; key_is = tt; meet = refl }
own kinds.Span IsNull h = record { value = Null; key = Null; value_is = tt; key_is = tt; meet = refl }
own kinds.Net IsNull h = record { value = Null; key = Null; value_is = tt; key_is = tt; meet = refl }
own kinds.Int NotNull h = number NotNull refl
own kinds.Int Eq h = number Eq refl
own kinds.Int Le h = number Le refl
own kinds.Int Ge h = number Ge refl
own kinds.Int Lt h = record { value = Int (pos 0); key = Int (pos 1); value_is = refl; key_is = refl; meet = refl }
own kinds.Int Gt h = record { value = Int (pos 1); key = Int (pos 0); value_is = refl; key_is = refl; meet = refl }
own kinds.Int op h = absurd (false≢true h)
own kinds.Span NotNull h = ranges NotNull refl
own kinds.Span Eq h = ranges Eq refl
own kinds.Span Overlaps h = ranges Overlaps refl
own kinds.Span Contains h = ranges Contains refl
own kinds.Span Within h = ranges Within refl
own kinds.Span NotAfter h = ranges NotAfter refl
own kinds.Span NotBefore h = ranges NotBefore refl
own kinds.Span Before h = record { value = Span negative; key = Span positive; value_is = (refl, (tt, refl)); key_is = (refl, (refl, tt)); meet = refl }
own kinds.Span After h = record { value = Span positive; key = Span negative; value_is = (refl, (refl, tt)); key_is = (refl, (tt, refl)); meet = refl }
own kinds.Span Adjacent h = record { value = Span negative; key = Span positive; value_is = (refl, (tt, refl)); key_is = (refl, (refl, tt)); meet = refl }
own kinds.Span op h = absurd (false≢true h)
own kinds.Net NotNull h = networks NotNull refl
own kinds.Net Eq h = networks Eq refl
own kinds.Net Overlaps h = networks Overlaps refl
own kinds.Net WithinEq h = networks WithinEq refl
own kinds.Net ContainsEq h = networks ContainsEq refl
own kinds.Net Before h = record { value = Net (network_v4 0 32); key = Net (network_v4 0 0); value_is = one_address; key_is = every_address; meet = refl }
own kinds.Net After h = record { value = Net (network_v4 0 0); key = Net (network_v4 0 32); value_is = every_address; key_is = one_address; meet = refl }
own kinds.Net op h = absurd (false≢true h)

-- ---- and none that do

no_null : (kind : Kind) (op : Op) → takes_operator kind op ≡ false → is_null_test op ≡ false
no_null kind IsNull h = absurd (true≢false h)
no_null kind op h = refl

no_number : (op : Op) → takes_operator kinds.Int op ≡ false → (v : ℤ) (key : Value) → matches (Int v) op key ≡ false
no_number IsNull h v key = absurd (true≢false h)
no_number NotNull h v key = absurd (true≢false h)
no_number Eq h v key = absurd (true≢false h)
no_number Lt h v key = absurd (true≢false h)
no_number Le h v key = absurd (true≢false h)
no_number Ge h v key = absurd (true≢false h)
no_number Gt h v key = absurd (true≢false h)
no_number op h v Null = refl
no_number op h v (Int k) = refl
no_number op h v (Span k) = refl
no_number op h v (Net k) = refl

no_range : (op : Op) → takes_operator kinds.Span op ≡ false → (v : Range) (key : Value) → matches (Span v) op key ≡ false
no_range IsNull h v key = absurd (true≢false h)
no_range NotNull h v key = absurd (true≢false h)
no_range Eq h v key = absurd (true≢false h)
no_range Overlaps h v key = absurd (true≢false h)
no_range Contains h v key = absurd (true≢false h)
no_range Within h v key = absurd (true≢false h)
no_range Before h v key = absurd (true≢false h)
no_range After h v key = absurd (true≢false h)
no_range NotAfter h v key = absurd (true≢false h)
no_range NotBefore h v key = absurd (true≢false h)
no_range Adjacent h v key = absurd (true≢false h)
no_range op h v Null = refl
no_range op h v (Int k) = refl
no_range op h v (Net k) = refl
no_range op h Empty (Span k) = refl
no_range op h (Between a b) (Span Empty) = refl
no_range op h (Between a b) (Span (Between c d)) = refl

no_network : (op : Op) → takes_operator kinds.Net op ≡ false → (v : Network) (key : Value) → matches (Net v) op key ≡ false
no_network IsNull h v key = absurd (true≢false h)
no_network NotNull h v key = absurd (true≢false h)
no_network Eq h v key = absurd (true≢false h)
no_network Overlaps h v key = absurd (true≢false h)
no_network Before h v key = absurd (true≢false h)
no_network After h v key = absurd (true≢false h)
no_network WithinEq h v key = absurd (true≢false h)
no_network ContainsEq h v key = absurd (true≢false h)
no_network op h v Null = refl
no_network op h v (Int k) = refl
no_network op h v (Span k) = refl
no_network op h v (Net k) = refl

foreign : (kind : Kind) (op : Op) → takes_operator kind op ≡ false → (value key : Value) → IsValueOf kind value → matches value op key ≡ false
foreign kind op h Null key is = no_null kind op h
foreign kinds.Int op h (Int v) key is = no_number op h v key
foreign kinds.Span op h (Span v) key is = no_range op h v key
foreign kinds.Net op h (Net v) key is = no_network op h v key
foreign kind op h value key is = absurd is

-- ---- of one kind

comparison : (op : Op) → op ≢ IsNull → op ≢ NotNull → is_comparison op ≡ true
comparison IsNull n m = absurd (n refl)
comparison NotNull n m = absurd (m refl)
comparison op n m = refl

alike : (op : Op) (value key : Value) → kind_matches value op key ≡ true → kind_of value ≡ kind_of key
alike op (Int v) (Int k) e = refl
alike op (Span v) (Span k) e = refl
alike op (Net v) (Net k) e = refl
alike op value key e = absurd (false≢true e)

one_kind : (op : Op) → op ≢ IsNull → op ≢ NotNull → (value key : Value) → matches value op key ≡ true → kind_of value ≡ kind_of key
one_kind op n m value key e = alike op value key (sym (compares op (comparison op n m) value key) ∙ e)

pub operators_have_kinds : OperatorsHaveKinds
operators_have_kinds = record { own = own; foreign = foreign; one_kind = one_kind }

-- ---- tests for null

null_met : (value key : Value) → matches value IsNull key ≡ true → value ≡ Null
null_met Null key e = refl
null_met (Int v) key e = absurd (false≢true e)
null_met (Span v) key e = absurd (false≢true e)
null_met (Net v) key e = absurd (false≢true e)

null_meets : (value key : Value) → value ≡ Null → matches value IsNull key ≡ true
null_meets Null key e = refl
null_meets (Int v) key e = cc
null_meets (Span v) key e = cc
null_meets (Net v) key e = cc

not_null_met : (value key : Value) → matches value NotNull key ≡ true → value ≢ Null
not_null_met Null key e = absurd (false≢true e)
not_null_met (Int v) key e = λ is. cc
not_null_met (Span v) key e = λ is. cc
not_null_met (Net v) key e = λ is. cc

not_null_meets : (value key : Value) → value ≢ Null → matches value NotNull key ≡ true
not_null_meets Null key not = absurd (not refl)
not_null_meets (Int v) key not = refl
not_null_meets (Span v) key not = refl
not_null_meets (Net v) key not = refl

pub null_tests : NullTests
null_tests = record {
  null = λ value key. (null_met value key, null_meets value key);
  not_null = λ value key. (not_null_met value key, not_null_meets value key);
}
