-- The lowest page with room for a tuple, by groups of blocks.
use Rattle.std.proofs.Common.{◌≡◌, ◌≢◌, ℕ, ◌+◌, ◌*◌, ◌/◌, ◌<◌, ◌≤◌, ◌⊎◌, ◌&&◌, Bool, true, false, List, length, get_or, set, refl, sym, ap, ⊎_elim, ◌∙◌, arith}
use Rattle.std.specs.Prelude.{◌==◌, nat_le}
use Rattle.std.proofs.lemmas.Bool.{cases_eq, cases_lt, lt-leb}
use Rattle.std.proofs.lemmas.List.{get_or_default, get_or_past, get_or-set_same, get_or-set_other}
use Rattle.page_redo.specs.TheConstants.{REGULAR}
use Rattle.page_map.specs.declared.facts.PageFacts.{PageFacts}
use Rattle.page_map.specs.declared.tuple_room.TheConstants.{GROUP}
use Rattle.page_map.specs.FactLists.{IsFirstBehind, NoneBehind}
use Rattle.page_map.specs.PageFacts.{facts_in, no_facts}
use Rattle.page_map.specs.TupleRoom.{AreBounded, IsFirstIn, NoneIn, bound_of, takes_bytes}

-- a page that isn't started has no room and takes nothing

pub past_room : (facts : List PageFacts) (n : ℕ) → length facts ≤ n → (facts_in facts n).room ≡ 0
past_room facts n past = ap (λ (f : PageFacts). f.room) (get_or_past facts n no_facts past)

pub past_takes : (facts : List PageFacts) (need n : ℕ) → length facts ≤ n → takes_bytes need (facts_in facts n) ≡ false
past_takes facts need n past = ap (takes_bytes need) (get_or_past facts n no_facts past)

-- facts that were read
pub read_takes : (facts : List PageFacts) (need n : ℕ) (one : PageFacts) (b : Bool) → n < length facts → one ≡ get_or facts n one → b ≡ takes_bytes need one → takes_bytes need (facts_in facts n) ≡ b
read_takes facts need n one b there is e = ap (takes_bytes need) (sym (is ∙ get_or_default facts n one no_facts there)) ∙ sym e

pub read_room : (facts : List PageFacts) (n : ℕ) (one : PageFacts) → n < length facts → one ≡ get_or facts n one → (facts_in facts n).room ≡ one.room
read_room facts n one there is = ap (λ (f : PageFacts). f.room) (sym (is ∙ get_or_default facts n one no_facts there))

-- a page takes no more than its room

and_no : (a b : Bool) → b ≡ false → a && b ≡ false
and_no true b e = e
and_no false b e = refl

pub too_much : (facts : List PageFacts) (need n : ℕ) → (facts_in facts n).room < need → takes_bytes need (facts_in facts n) ≡ false
too_much facts need n less = and_no ((facts_in facts n).kind == REGULAR) (nat_le need (facts_in facts n).room) (lt-leb need (facts_in facts n).room less)

-- the pages of a group: those that there are

module _ (facts : List PageFacts) (group start end n : ℕ) (starts : start ≡ group * GROUP) (ends : (end ≡ length facts) ⊎ (end ≡ start + GROUP)) (done : end ≤ n) where
  inside : (k : ℕ) → k < length facts → k < start + GROUP → k < n
  inside k there below = ⊎_elim (λ last. omega (arith, last, there, done)) (λ whole. omega (arith, whole, below, done)) ends

  pub most_whole : (most : ℕ) → ((k : ℕ) → start ≤ k → k < n → (facts_in facts k).room ≤ most) → (k : ℕ) → k / GROUP ≡ group → (facts_in facts k).room ≤ most
  most_whole most all k of =
      ⊎_elim (λ there. all k (omega (arith, of, starts)) (inside k there (omega (arith, of, starts)))) (λ past. omega (arith, past_room facts k past)) (cases_lt k (length facts))

  pub none_whole : (need first : ℕ) → ((k : ℕ) → first ≤ k → start ≤ k → k < n → takes_bytes need (facts_in facts k) ≡ false) → NoneIn facts need first (group * GROUP) (group * GROUP + GROUP)
  none_whole need first all = λ k high from below.
      ⊎_elim (λ there. all k high (omega (arith, from, starts)) (inside k there (omega (arith, below, starts)))) (λ past. past_takes facts need k past) (cases_lt k (length facts))

-- group after group

pub none_passed : (facts : List PageFacts) (most : List ℕ) (need group bound : ℕ) → AreBounded most facts → bound ≡ get_or most group 0 → bound < need → (k : ℕ) → k / GROUP ≡ group → takes_bytes need (facts_in facts k) ≡ false
none_passed facts most need group bound bounded is less k of = too_much facts need k (omega (arith, bounded k, less, is, ap (λ (g : ℕ). get_or most g 0) of))

pub next_group : (facts : List PageFacts) (need past group : ℕ) → ((k : ℕ) → past < k → k < group * GROUP → takes_bytes need (facts_in facts k) ≡ false) → ((k : ℕ) → past < k → k / GROUP ≡ group → takes_bytes need (facts_in facts k) ≡ false)
    → (k : ℕ) → past < k → k < (group + 1) * GROUP → takes_bytes need (facts_in facts k) ≡ false
next_group facts need past group before here k behind low =
    ⊎_elim (λ less. before k behind less) (λ more. here k behind (omega arith)) (cases_lt k (group * GROUP))

pub none_in_group : (facts : List PageFacts) (need past first group : ℕ) → first ≡ past + 1 → NoneIn facts need first (group * GROUP) (group * GROUP + GROUP) → (k : ℕ) → past < k → k / GROUP ≡ group → takes_bytes need (facts_in facts k) ≡ false
none_in_group facts need past first group is none k behind of = none k (omega arith) (omega arith) (omega arith)

pub found_behind : (facts : List PageFacts) (need past first group n : ℕ) → first ≡ past + 1 → ((k : ℕ) → past < k → k < group * GROUP → takes_bytes need (facts_in facts k) ≡ false)
    → IsFirstIn facts need first (group * GROUP) (group * GROUP + GROUP) n → IsFirstBehind facts need past n
found_behind facts need past first group n is before found = record {
  there = found.there;
  behind = omega (arith, is, found.behind);
  takes = found.takes;
  lower = λ k behind low. ⊎_elim (λ less. before k behind less) (λ more. found.lower k (omega arith) more low) (cases_lt k (group * GROUP));
}

pub none_behind : (facts : List PageFacts) (need past group : ℕ) → length facts / GROUP < group → ((k : ℕ) → past < k → k < group * GROUP → takes_bytes need (facts_in facts k) ≡ false) → NoneBehind facts need past
none_behind facts need past group all before = λ k behind.
    ⊎_elim (λ there. before k behind (omega (arith, all, there))) (λ beyond. past_takes facts need k beyond) (cases_lt k (length facts))

-- a bound that is set anew
pub bounded_anew : (facts : List PageFacts) (most new : List ℕ) (at group bound : ℕ) → at / GROUP ≡ group → group < length most → new ≡ set most group bound → ((n : ℕ) → n ≢ at → (facts_in facts n).room ≤ bound_of most n)
    → ((n : ℕ) → n / GROUP ≡ group → (facts_in facts n).room ≤ bound) → AreBounded new facts
bounded_anew facts most new at group bound of there is others here = λ n.
    ⊎_elim
    (λ same. omega (arith, here n same, ap (λ (l : List ℕ). get_or l (n / GROUP) 0) is ∙ ap (λ (g : ℕ). get_or (set most group bound) g 0) same ∙ get_or-set_same most group bound 0 there))
    (λ differ. omega (arith, others n (λ at_is. differ (ap (λ (k : ℕ). k / GROUP) at_is ∙ of)), ap (λ (l : List ℕ). get_or l (n / GROUP) 0) is ∙ get_or-set_other most group (n / GROUP) bound 0 differ))
    (cases_eq (n / GROUP) group)

-- one that stays
pub bounded_still : (facts : List PageFacts) (most : List ℕ) (at before : ℕ) → (facts_in facts at).room ≡ before → before ≤ bound_of most at → ((n : ℕ) → n ≢ at → (facts_in facts n).room ≤ bound_of most n) → AreBounded most facts
bounded_still facts most at before same fits others = λ n.
    ⊎_elim (λ is. omega (arith, same, fits, ap (λ (k : ℕ). (facts_in facts k).room) is, ap (λ (k : ℕ). bound_of most k) is)) (λ differ. others n differ) (cases_eq n at)
