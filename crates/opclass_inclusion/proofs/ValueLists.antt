-- lists of values, and what holds of all of them
use Rattle.std.proofs.Common.{List, ◌++◌, All, Contains as Has}
use Rattle.std.proofs.lemmas.List.Elements.{All-weaker, All-contains, All-contains_itself, Contains-append_left, Contains-append_right}
use Rattle.block_model.specs.declared.value.Value.{Value}

-- what holds of all values of two lists, holds of those of each
pub all_first : (P : Value → Type 0) (first second : List Value) → All P (first ++ second) → All P first
all_first P first second all = All-weaker (Has first) P (λ v there. All-contains P (first ++ second) v all (Contains-append_left first second v there)) first (All-contains_itself first)

pub all_second : (P : Value → Type 0) (first second : List Value) → All P (first ++ second) → All P second
all_second P first second all = All-weaker (Has second) P (λ v there. All-contains P (first ++ second) v all (Contains-append_right first second v there)) second (All-contains_itself second)
