use Rattle.std.proofs.Common.{List, ℤ, ◌++◌, All, Contains}
use Rattle.std.proofs.lemmas.List.Elements.{All-weaker, All-contains_itself, Contains-append_left, Contains-append_right}
use Rattle.opclass_multi.specs.Joined.{starts_of, ends_of}
use Rattle.opclass_multi.proofs.Joining.{joined_well}
use Rattle.opclass_multi.proofs.Unique.{one_joined}
use Rattle.opclass_multi.proofs.Ends.{all_starts, all_ends}
use Rattle.opclass_multi.proofs.laws.joined_in_one_way.Goals as goal

of_first : (xs ys : List ℤ) → All (Contains (xs ++ ys)) xs
of_first xs ys = All-weaker (Contains xs) (Contains (xs ++ ys)) (λ v there. Contains-append_left xs ys v there) xs (All-contains_itself xs)

of_second : (xs ys : List ℤ) → All (Contains (xs ++ ys)) ys
of_second xs ys = All-weaker (Contains ys) (Contains (xs ++ ys)) (λ v there. Contains-append_right xs ys v there) ys (All-contains_itself ys)

pub returns : goal.returns
returns c = record {
  joined = joined_well;
  no_other = one_joined;
  starts = λ es fs. all_starts (Contains (starts_of es ++ starts_of fs)) es fs (of_first (starts_of es) (starts_of fs)) (of_second (starts_of es) (starts_of fs));
  ends = λ es fs. all_ends (Contains (ends_of es ++ ends_of fs)) es fs (of_first (ends_of es) (ends_of fs)) (of_second (ends_of es) (ends_of fs));
}
