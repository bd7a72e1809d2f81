-- which conditions a summary of ranges may meet
use Rattle.std.specs.Prelude.{ℤ, int_lt, Bool, true, false, not, ◌||◌, List, Option, None, Some}
use Rattle.std.specs.List.{list_all}
use Rattle.block_model.specs.declared.value.Value.{Value}
use Rattle.block_model.specs.declared.value.Value.TheVariants.{Span}
use Rattle.block_model.specs.declared.value.Op.{Op}
use Rattle.block_model.specs.declared.value.Op.TheVariants.{Eq, Overlaps, Contains, Within, Before, After, NotAfter, NotBefore, Adjacent}
use Rattle.block_model.specs.declared.row.Cond.{Cond}
use Rattle.block_model.specs.Matches.{range_matches}
use Rattle.block_model.specs.Ranges.{Range, Empty, Between, lower_of, upper_of}
use Rattle.opclass_inclusion.specs.SpanHulls.{is_empty}
use Rattle.opclass_inclusion.specs.declared.span_summary.SpanSummary.{SpanSummary}

-- the second lower bound is finite, and the first is infinite or less
abbrev pub starts_before : Option ℤ → Option ℤ → Bool
starts_before u None = false
starts_before None (Some k) = true
starts_before (Some u) (Some k) = int_lt u k

-- the second upper bound is finite, and the first is infinite or greater
abbrev pub ends_after : Option ℤ → Option ℤ → Bool
ends_after u None = false
ends_after None (Some k) = true
ends_after (Some u) (Some k) = int_lt k u

-- a hull and a key that isn't empty; the other operators hold nothing, but for `<@`
abbrev pub hull_holds : Range → Op → Range → Bool
hull_holds u Eq k = range_matches u Contains k
hull_holds u Contains k = range_matches u Contains k
hull_holds u Overlaps k = range_matches u Overlaps k
hull_holds u Within k = range_matches u Overlaps k
hull_holds u Before k = starts_before (lower_of u) (lower_of k)
hull_holds u After k = ends_after (upper_of u) (upper_of k)
hull_holds u NotAfter k = not (range_matches u After k)
hull_holds u NotBefore k = not (range_matches u Before k)
hull_holds u Adjacent k = range_matches u Overlaps k || range_matches u Adjacent k
hull_holds u op k = false

-- where there is a hull
abbrev pub any_hull_holds : Range → Op → Range → Bool
any_hull_holds Empty op k = false
any_hull_holds (Between l h) op k = hull_holds (Between l h) op k

-- a key that isn't empty: an empty range is within it, and no other operator but `<@` holds of one
abbrev pub bounded_key_holds : Bool → Range → Op → Range → Bool
bounded_key_holds empty_added u Within k = empty_added || any_hull_holds u Within k
bounded_key_holds empty_added u op k = any_hull_holds u op k

-- an empty key: an empty range equals it, contains it and is within it, and a hull's ranges contain it
abbrev pub empty_key_holds : Bool → Range → Op → Bool
empty_key_holds empty_added u Eq = empty_added
empty_key_holds empty_added u Contains = empty_added || not (is_empty u)
empty_key_holds empty_added u Within = empty_added
empty_key_holds empty_added u op = false

abbrev pub range_key_holds : Bool → Range → Op → Range → Bool
range_key_holds empty_added u op Empty = empty_key_holds empty_added u op
range_key_holds empty_added u op (Between l h) = bounded_key_holds empty_added u op (Between l h)

-- no other key holds
abbrev pub key_holds : Bool → Range → Op → Value → Bool
key_holds empty_added u op (Span k) = range_key_holds empty_added u op k
key_holds empty_added u op k = false

abbrev pub condition_holds : SpanSummary → Cond → Bool
condition_holds s cond = key_holds s.empty_added s.hull cond.op cond.key

-- each condition holds
abbrev pub consistent : SpanSummary → List Cond → Bool
consistent s conds = list_all (condition_holds s) conds
