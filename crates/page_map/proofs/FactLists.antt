-- What memory keeps of a relation's pages.
use Rattle.std.proofs.Common.{◌≡◌, ℕ, ◌+◌, ◌-◌, ◌/◌, ◌<◌, ◌≤◌, inl, inr, cond, List, [], length, set, get_or, refl, sym, ap, subst, ⊎_elim, ◌∙◌, arith}
use Rattle.std.specs.Prelude.{None, Some, count_by}
use Rattle.std.proofs.lemmas.Bool.{cases_lt}
use Rattle.std.proofs.lemmas.List.Sums.{count_by-le-length, sum_by-set}
use Rattle.page_map.specs.declared.facts.PageFacts.{PageFacts}
use Rattle.page_map.specs.declared.lowest.Sought.{Sought}
use Rattle.page_map.specs.declared.lowest.Sought.TheVariants as sought
use Rattle.page_map.specs.FactLists.{IsFactList, IsFirstBehind, IsFirstOf, IsFirstOfIndex, NoneBehind, NoneHasRoom, tells_started}
use Rattle.page_map.specs.Filled.{filled}
use Rattle.page_map.specs.Lowest.{IsLowest, is_sought}
use Rattle.page_map.specs.PageFacts.{no_facts}
use Rattle.page_map.specs.TupleRoom.{takes_bytes}
use Rattle.page_map.specs.declared.tuple_room.TheConstants.{GROUP}
use Rattle.page_map.proofs.Filling.{count-filled, get_or-filled, length-filled, length-filled-set}
use Rattle.page_map.proofs.Soughts.{room_end, room_past, unstarted_end}

-- 1 for facts of a started page, else 0
abbrev pub weight : PageFacts → ℕ
weight facts = cond (tells_started facts) 1 0

pub new_list : (limit : ℕ) (facts : List PageFacts) (capacity : ℕ) (most : List ℕ) → facts ≡ [] → limit ≤ capacity → limit / GROUP < length most → IsFactList limit facts capacity 0 limit 0 most
new_list limit facts capacity most none reserved groups = subst (λ (l : List PageFacts). IsFactList limit l capacity 0 limit 0 most) (sym none) (record {
  few = omega arith;
  reserved = reserved;
  counted = refl;
  lowest_room = room_end sought.Room [] limit 0 refl (omega arith) (λ other low. absurd (omega arith));
  lowest_unstarted = unstarted_end sought.Unstarted [] limit 0 refl (omega arith) (omega arith) (λ other low. absurd (omega arith));
  groups = groups;
  bounded = λ n. omega arith;
})

-- as many as there may be blocks
pub full_length : (limit : ℕ) (facts : List PageFacts) → length facts ≤ limit → length (filled no_facts limit facts) ≡ limit
full_length limit facts few = omega (arith, few, length-filled no_facts limit facts)

-- what is counted after a change of the block of that number
pub record Recounted (limit : ℕ) (old new : List PageFacts) (at started before now : ℕ) : Type 0 where
  pub few : length new ≤ limit
  pub there : at < length new
  pub less : before ≤ started
  pub sum : started - before + now ≡ count_by tells_started new
  pub most : started - before + now ≤ limit

pub recounted : (limit : ℕ) (old reached new : List PageFacts) (at : ℕ) (one : PageFacts) (started before now : ℕ) → at < limit → length old ≤ limit → reached ≡ filled no_facts (at + 1) old → new ≡ set reached at one → started ≡ count_by tells_started old
    → before ≡ weight (get_or reached at no_facts) → now ≡ weight one → Recounted limit old new at started before now
recounted limit old reached new at one started before now below few_old is_reached is_new counted was is =
    let long : length reached ≡ length old + (at + 1 - length old) = ap (length {A = PageFacts}) is_reached ∙ length-filled no_facts (at + 1) old in
    let whole : length new ≡ length old + (at + 1 - length old) = ap (length {A = PageFacts}) is_new ∙ ap (λ (l : List PageFacts). length (set l at one)) is_reached ∙ length-filled-set no_facts old at one in
    let all : count_by tells_started reached ≡ count_by tells_started old = ap (count_by tells_started) is_reached ∙ count-filled tells_started no_facts (at + 1) old refl in
    let changed = sum_by-set weight reached at one no_facts (omega arith) in
    let emptied = sum_by-set weight reached at no_facts no_facts (omega arith) in
    let made : count_by tells_started new ≡ count_by tells_started (set reached at one) = ap (count_by tells_started) is_new in
    let less : before ≤ started = omega (arith, emptied, all, counted, was) in
    let sum : started - before + now ≡ count_by tells_started new = omega (arith, less, changed, made, all, counted, was, is) in
    record { few = omega arith; there = omega arith; less = less; sum = sum; most = omega (arith, sum, count_by-le-length tells_started new, whole, few_old, below) }

-- the same of all facts

lowest-filled : (wanted : Sought) (facts : List PageFacts) (limit k n : ℕ) → k ≡ limit → IsLowest wanted facts limit n → IsLowest wanted (filled no_facts limit facts) k n
lowest-filled wanted facts limit k n same is = record {
  within = omega (arith, is.within, same);
  lower = λ other low. ap (is_sought wanted) (get_or-filled no_facts limit facts other) ∙ is.lower other low;
  found = λ below. ap (is_sought wanted) (get_or-filled no_facts limit facts n) ∙ is.found (omega (arith, below, same));
}

module _ (limit : ℕ) (facts : List PageFacts) (capacity started room unstarted : ℕ) (most : List ℕ) (is : IsFactList limit facts capacity started room unstarted most) where
  whole : length (filled no_facts limit facts) ≡ limit
  whole = full_length limit facts is.few

  none_has_room : limit ≤ room → NoneHasRoom (filled no_facts limit facts)
  none_has_room none = λ n.
      ap (is_sought sought.Room) (get_or-filled no_facts limit facts n)
      ∙ ⊎_elim (λ low. is.lowest_room.lower n (omega (arith, low, none))) (λ high. room_past facts n (omega (arith, high, is.few))) (cases_lt n limit)

  pub room_some : room < limit → IsFirstOf (filled no_facts limit facts) (Some room)
  room_some below = (omega (arith, below, whole), inl (lowest-filled sought.Room facts limit (length (filled no_facts limit facts)) room whole is.lowest_room))

  pub room_next : limit ≤ room → unstarted < limit → IsFirstOf (filled no_facts limit facts) (Some unstarted)
  room_next none below = (omega (arith, below, whole), inr (none_has_room none, lowest-filled sought.Unstarted facts limit (length (filled no_facts limit facts)) unstarted whole is.lowest_unstarted))

  pub room_none : limit ≤ room → limit ≤ unstarted → IsFirstOf (filled no_facts limit facts) None
  room_none none all =
      let last : unstarted ≡ length (filled no_facts limit facts) = omega (arith, all, whole, is.lowest_unstarted.within) in (
        none_has_room none,
        subst (IsLowest sought.Unstarted (filled no_facts limit facts) (length (filled no_facts limit facts))) last
            (lowest-filled sought.Unstarted facts limit (length (filled no_facts limit facts)) unstarted whole is.lowest_unstarted),
      )

  none_behind : (need past : ℕ) → NoneBehind facts need past → NoneBehind (filled no_facts limit facts) need past
  none_behind need past none = λ n behind. ap (takes_bytes need) (get_or-filled no_facts limit facts n) ∙ none n behind

  pub behind_some : (need past n : ℕ) → IsFirstBehind facts need past n → IsFirstOfIndex (filled no_facts limit facts) need past (Some n)
  behind_some need past n first = inl (record {
    there = omega (arith, first.there, is.few, whole);
    behind = first.behind;
    takes = ap (takes_bytes need) (get_or-filled no_facts limit facts n) ∙ first.takes;
    lower = λ other behind low. ap (takes_bytes need) (get_or-filled no_facts limit facts other) ∙ first.lower other behind low;
  })

  pub behind_next : (need past : ℕ) → NoneBehind facts need past → unstarted < limit → IsFirstOfIndex (filled no_facts limit facts) need past (Some unstarted)
  behind_next need past none below =
      inr (none_behind need past none, omega (arith, below, whole), lowest-filled sought.Unstarted facts limit (length (filled no_facts limit facts)) unstarted whole is.lowest_unstarted)

  pub behind_none : (need past : ℕ) → NoneBehind facts need past → limit ≤ unstarted → IsFirstOfIndex (filled no_facts limit facts) need past None
  behind_none need past none all =
      let last : unstarted ≡ length (filled no_facts limit facts) = omega (arith, all, whole, is.lowest_unstarted.within) in (
        none_behind need past none,
        subst (IsLowest sought.Unstarted (filled no_facts limit facts) (length (filled no_facts limit facts))) last
            (lowest-filled sought.Unstarted facts limit (length (filled no_facts limit facts)) unstarted whole is.lowest_unstarted),
      )

  pub started_all : started ≡ count_by tells_started (filled no_facts limit facts)
  started_all = is.counted ∙ sym (count-filled tells_started no_facts limit facts refl)

  pub started_few : started ≤ length (filled no_facts limit facts)
  started_few = omega (arith, started_all, count_by-le-length tells_started (filled no_facts limit facts))
