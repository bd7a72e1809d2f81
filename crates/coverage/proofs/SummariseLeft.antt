-- Each step of a summariser, and of the growth of the map for it, leaves it fewer steps to go on its range.
use Rattle.std.proofs.Common.{◌≡◌, ◌≢◌, ◌⊎◌, inl, inr, ⊎_elim, ℕ, ◌+◌, ◌-◌, ◌*◌, ◌≤◌, ◌<◌, List, [], ◌∷◌, length, Bool, true, false, Some, None, sym, ◌∙◌, ap, subst, arith, suc, suc-mul, add-one}
use Rattle.std.specs.Prelude.{refl}
use Rattle.std.proofs.lemmas.Option.{none-some}
use Rattle.std.proofs.Math.Nat.{le_of_lt}
use Rattle.block_model.specs.declared.place.Spot.{Spot}
use Rattle.coverage.specs.IndexView.{IndexTuple, Progress, ExtentUnread, Passing, PageKind, Unstarted, Mapping, Regular, Emptying, Pages, IndexView, map_page_of, next_map_page, IsPastMap}
use Rattle.coverage.specs.Waiting.{Grows}
use Rattle.coverage.specs.Statements.{OnIndex, Empty, Held, Copied, Moving, Dropping, Phase, NotBuilding, Vacant, Growing, Evacuating, Placing, IsAt, Statement, Maintaining}
use Rattle.coverage.specs.Steps.{ReadsIndex, PutsTuple, ReplacesTuple, DropsTuple, TurnsKind, CountsPage, IsGone, OnIndexStep, Maps, Gone, Again, MovePut}
use Rattle.coverage.specs.Steps.{SummariseStep, LookMap, LookGone, IsFinal, Found, ReadNoEntry, GrowMap, Put, Set, Extent, Pass, Unite, UniteCopies, SwapFinal}
use Rattle.coverage.specs.Steps.{SetFinal, DropOld, GrowthStep, Grow, CountLeftOver, Count, Flag, EvacuatePut, EvacuateSet, EvacuateDrop, EvacuateSweep, Turn}
use Rattle.coverage.specs.Rooms.{bytes_of, page_room}
use Rattle.coverage.specs.Stuck.{AreNamed}
use Rattle.coverage.proofs.OnIndexSteps.{move_compares}
use Rattle.coverage.proofs.Verdicts.{swap_differs, put_place}
use Rattle.coverage.specs.StepsLeft.{AreAtMost}
use Rattle.coverage.proofs.PlacesCounted.{fewer, one_less, one_more}

-- a tuple stands there
abbrev pub IsTaken : IndexView → Spot → Type 0
IsTaken w x = w.tuple x ≢ None

-- what a summariser's own steps on its range come to; whether a tuple of a move is one more; and whether its placeholder is still to be put
pub data Own (w : IndexView) (range per : ℕ) : Phase → (own : ℕ) (moving unput : Bool) → Type 0 where
  OwnMap : Own w range per (NotBuilding Empty) (per + 9) false true
  OwnTuple : (x : Spot) (t : IndexTuple) → w.tuple x ≡ Some t → t.range ≡ range → Own w range per (NotBuilding (Held x)) (per + 7) false true
  OwnTupleGone : (x : Spot) → Own w range per (NotBuilding (Held x)) (per + 10) false true
  OwnVacant : Own w range per Vacant (per + 8) false true
  OwnEvacuates : (m : ℕ) (x y : Spot) (t u : IndexTuple) → IsTaken w x → Own w range per (Evacuating m (Moving x y t u)) (per + 10) true true
  OwnVacates : (m : ℕ) (x : Spot) → IsTaken w x → Own w range per (Evacuating m (Dropping x)) (per + 9) true true
  OwnPlacing : (x : Spot) → Own w range per (Placing x) (per + 7) false false
  OwnExtent : Own w range per (IsAt ExtentUnread Empty) (per + 6) false false
  OwnPass : (extent next : ℕ) (result : IndexTuple) → Own w range per (IsAt (Passing extent next result) Empty) ((extent - next) + 5) false false
  OwnHeld : (p : Progress) (x : Spot) (t : IndexTuple) → w.tuple x ≡ Some t → t.range ≡ range → Own w range per (IsAt p (Held x)) 4 false false
  OwnHeldGone : (p : Progress) (x : Spot) → Own w range per (IsAt p (Held x)) 6 false false
  OwnCopied : (p : Progress) (x : Spot) (old new : IndexTuple) → w.tuple x ≡ Some old → Own w range per (IsAt p (Copied x old new)) 3 false false
  OwnCopiedGone : (p : Progress) (x : Spot) (old new : IndexTuple) → Own w range per (IsAt p (Copied x old new)) 6 false false
  OwnMoving : (p : Progress) (x y : Spot) (old new : IndexTuple) → IsTaken w x → Own w range per (IsAt p (Moving x y old new)) 2 true false
  OwnDropping : (x : Spot) → IsTaken w x → Own w range per (NotBuilding (Dropping x)) 1 true false

abbrev pub with_one : Bool → ℕ → ℕ
with_one false n = n
with_one true n = suc n

-- the tuples of the index, those to come, and the pages that are left for the map
pub record Base (w : IndexView) (per most later g tuples : ℕ) (moving unput : Bool) : Type 0 where
  pub per_is : w.pages_per_range ≡ per
  pub tuples_are : AreAtMost (IsTaken w) (with_one moving tuples)
  pub room : with_one unput tuples + later ≤ most
  pub pages : w.pages.limit - w.pages.map_pages ≡ g

-- the page that is emptied for the map, with so many tuples at most of those that count
pub record EmptyingPage (w : IndexView) (range page most on : ℕ) (Counts : Spot → Type 0) : Type 0 where
  pub is : next_map_page w.pages ≡ page
  pub kind : w.pages.kind page ≡ Emptying
  pub past : IsPastMap w.pages range
  pub tuples_are : AreAtMost (λ z. (z.block ≡ page) × IsTaken w z × Counts z) on
  pub few : on ≤ most

-- so many steps are enough for the range, for all pages by which the map may grow, and for what comes later
pub data Left (w : IndexView) (range per most later tail n : ℕ) : Phase → Type 0 where
  Works : (phase : Phase) (own g tuples : ℕ) (moving unput : Bool) → Own w range per phase own moving unput → Base w per most later g tuples moving unput
      → own + g * (3 * most + 3) + tail ≤ n → Left w range per most later tail n phase
  Empties : (g tuples on page : ℕ) → Base w per most later g tuples false true → EmptyingPage w range page most on (λ z. Unit)
      → (per + 8) + (3 * on + 2) + (g - 1) * (3 * most + 3) + tail ≤ n → Left w range per most later tail n Vacant
  Grows' : (g tuples : ℕ) → Base w per most later g tuples false true → (per + 9) + (g - 1) * (3 * most + 3) + tail ≤ n → Left w range per most later tail n Growing
  Moves : (m g tuples on page : ℕ) (x y : Spot) (t u : IndexTuple) → Base w per most later g tuples true true → IsTaken w x
      → EmptyingPage w range page most on (λ z. z ≢ x) → (per + 8) + (3 * on + 4) + (g - 1) * (3 * most + 3) + tail ≤ n
      → Left w range per most later tail n (Evacuating m (Moving x y t u))
  Drops : (m g tuples on page : ℕ) (x : Spot) → Base w per most later g tuples true true → IsTaken w x
      → EmptyingPage w range page most on (λ z. z ≢ x) → (per + 8) + (3 * on + 3) + (g - 1) * (3 * most + 3) + tail ≤ n
      → Left w range per most later tail n (Evacuating m (Dropping x))

-- the range is done
pub record DoneLeft (w : IndexView) (per most later tail n : ℕ) : Type 0 where
  pub g : ℕ
  pub tuples : ℕ
  pub base : Base w per most later g tuples false false
  pub enough : g * (3 * most + 3) + tail ≤ n

abbrev pub LeftAfter : IndexView → (range per most later tail n : ℕ) → Statement → Type 0
LeftAfter w range per most later tail n (Maintaining m phase) = Left w range per most later tail n phase
LeftAfter w range per most later tail n statement = DoneLeft w per most later tail n

-- numbers: one step is made, and what is left is enough for the rest
module _ (tail n : ℕ) where
  lower : (own own' a : ℕ) → own' < own → own + a + tail ≤ n → (m : ℕ) × (n ≡ suc m) × (own' + a + tail ≤ m)
  lower own own' a less enough = (n - 1, omega arith, omega arith)

  -- a page is taken: what it costs is enough for it
  lower_page : (own own' a b c : ℕ) → a ≡ b + c → own' < own + c → own + a + tail ≤ n → (m : ℕ) × (n ≡ suc m) × (own' + b + tail ≤ m)
  lower_page own own' a b c is less enough = (n - 1, omega arith, omega arith)

  to_page : (own own' a b c : ℕ) → a ≡ b + c → own' ≤ own + c → own + a + tail ≤ n → own' + b + tail ≤ n
  to_page own own' a b c is le enough = omega arith

-- the cost of one page of so many
pub one_page : (g c : ℕ) → 1 ≤ g → g * c ≡ (g - 1) * c + c
one_page g c some = ap (λ k. k * c) (omega arith) ∙ suc-mul (g - 1) c

pages_some : (limit map g : ℕ) → map + 1 < limit → limit - map ≡ g → 1 ≤ g
pages_some limit map g below is = omega arith

abbrev IsStep : (range per most later tail n : ℕ) → IndexView → Phase → Type 0
IsStep range per most later tail n v phase = (m : ℕ) × (n ≡ suc m) × Left v range per most later tail m phase

module _ (s range per most later tail : ℕ) (w v : IndexView) where
  abbrev cost : ℕ
  cost = 3 * most + 3

  -- the same is left beside the range's own steps
  base_on : (g tuples : ℕ) (moving unput : Bool) → v.pages_per_range ≡ w.pages_per_range → v.pages.map_pages ≡ w.pages.map_pages
      → v.pages.limit ≡ w.pages.limit → ((z : Spot) → IsTaken v z → IsTaken w z) → Base w per most later g tuples moving unput
      → Base v per most later g tuples moving unput
  base_on g tuples moving unput ranged map limit sub base = record {
    per_is = ranged ∙ base.per_is;
    tuples_are = fewer (IsTaken w) (IsTaken v) (with_one moving tuples) sub base.tuples_are;
    room = base.room;
    pages = (λ j. limit j - map j) ∙ base.pages;
  }

  same_taken : ((z : Spot) → v.tuple z ≡ w.tuple z) → (z : Spot) → IsTaken v z → IsTaken w z
  same_taken same z taken none = taken (same z ∙ none)

  reads_on : (g tuples : ℕ) (moving unput : Bool) → ReadsIndex s w v → Base w per most later g tuples moving unput → Base v per most later g tuples moving unput
  reads_on g tuples moving unput reads = base_on g tuples moving unput reads.frame.heap.pages_per_range (ap (λ (x : Pages). x.map_pages) reads.pages)
      (ap (λ (x : Pages). x.limit) reads.pages) (same_taken reads.frame.tuples.tuple)

  -- the placeholder needn't be put any more
  put_done : (g tuples : ℕ) (moving unput : Bool) → Base v per most later g tuples moving unput → Base v per most later g tuples moving false
  put_done g tuples moving unput base = record {
    per_is = base.per_is;
    tuples_are = base.tuples_are;
    room = less unput base.room;
    pages = base.pages;
  }
    where
      less : (unput : Bool) → with_one unput tuples + later ≤ most → tuples + later ≤ most
      less false le = le
      less true le = omega arith

  works : (n own own' g tuples : ℕ) (moving unput : Bool) (phase : Phase) → own' < own → own + g * cost + tail ≤ n → Own v range per phase own' moving unput
      → Base v per most later g tuples moving unput → IsStep range per most later tail n v phase
  works n own own' g tuples moving unput phase less enough own_is base =
      let left = lower tail n own own' (g * cost) less enough in (left.0, left.1, Works phase own' g tuples moving unput own_is base left.2)

  done : (n own g tuples : ℕ) → 0 < own → own + g * cost + tail ≤ n → Base v per most later g tuples false false
      → (m : ℕ) × (n ≡ suc m) × DoneLeft v per most later tail m
  done n own g tuples some enough base =
      let left = lower tail n own 0 (g * cost) some enough in
      (left.0, left.1, record { g = g; tuples = tuples; base = base; enough = omega (arith, left.2) })

  -- after a put one tuple more stands
  put_taken : (y : Spot) (t : IndexTuple) → PutsTuple s w v y t → (z : Spot) → IsTaken v z → (z ≡ y) ⊎ IsTaken w z
  put_taken y t puts z taken = elim (puts.tuple.others z) [ inl here ↦ inl here | inr same ↦ inr (λ none. taken (same ∙ none)) ]

  puts_on : (g tuples : ℕ) (unput : Bool) (y : Spot) (t : IndexTuple) → PutsTuple s w v y t → Base w per most later g tuples false unput
      → Base v per most later g tuples true unput
  puts_on g tuples unput y t puts base = record {
    per_is = puts.frame.heap.pages_per_range ∙ base.per_is;
    tuples_are = one_more (IsTaken w) (IsTaken v) y tuples (put_taken y t puts) base.tuples_are;
    room = base.room;
    pages = (λ j. puts.page.limit j - puts.page.map_pages j) ∙ base.pages;
  }

  stays_taken : (y x : Spot) (t : IndexTuple) → PutsTuple s w v y t → IsTaken w x → IsTaken v x
  stays_taken y x t puts taken none = ⊎_elim
      (λ (here : x ≡ y). none-some _ (sym none ∙ ap v.tuple here ∙ puts.tuple.now))
      (λ (same : v.tuple x ≡ w.tuple x). taken (sym same ∙ none))
      (puts.tuple.others x)

  -- after a drop one tuple fewer stands
  drop_taken : (x : Spot) → DropsTuple s w v x → (z : Spot) → IsTaken v z → IsTaken w z × (z ≢ x)
  drop_taken x drops z taken = (
    (λ none. ⊎_elim (λ (here : z ≡ x). taken (ap v.tuple here ∙ drops.tuple.now)) (λ (same : v.tuple z ≡ w.tuple z). taken (same ∙ none)) (drops.tuple.others z)),
    λ here. taken (ap v.tuple here ∙ drops.tuple.now),
  )

  drops_on : (g tuples : ℕ) (unput : Bool) (x : Spot) → DropsTuple s w v x → IsTaken w x → Base w per most later g tuples true unput
      → Base v per most later g tuples false unput
  drops_on g tuples unput x drops taken base =
      let less = one_less (IsTaken w) (IsTaken v) x (suc tuples) taken (drop_taken x drops) base.tuples_are in
      record {
        per_is = drops.frame.heap.pages_per_range ∙ base.per_is;
        tuples_are = subst (AreAtMost (IsTaken v)) (sym (omega (arith, less.1))) less.2;
        room = base.room;
        pages = (λ j. drops.page.limit j - drops.page.map_pages j) ∙ base.pages;
      }

abbrev IsOfEmptying : PageKind → Type 0
IsOfEmptying Emptying = Unit
IsOfEmptying kind = ⊥

-- what is left where the next page is being emptied
record EmptyLeft (w : IndexView) (range per most later tail n : ℕ) : Type 0 where
  pub g : ℕ
  pub tuples : ℕ
  pub on : ℕ
  pub page : ℕ
  pub base : Base w per most later g tuples false true
  pub emptying : EmptyingPage w range page most on (λ z. Unit)
  pub enough : (per + 8) + (3 * on + 2) + (g - 1) * (3 * most + 3) + tail ≤ n

no_growing : (w : IndexView) (range per own : ℕ) (moving unput : Bool) → Own w range per Growing own moving unput → ⊥
no_growing w range per own moving unput is = elim is [ ]

-- one step of the map's growth
module _ (s range per most later tail n : ℕ) (w v : IndexView) where
  abbrev c : ℕ
  c = 3 * most + 3

  not_both : (p : ℕ) (Is : PageKind → Type 0) (a b : PageKind) → w.pages.kind p ≡ a → w.pages.kind p ≡ b → Is a → (Is b → ⊥) → ⊥
  not_both p Is a b one two is other = other (subst Is (sym one ∙ two) is)

  -- where the next page is being emptied already
  begun : (g tuples : ℕ) → Base w per most later g tuples false true → Grows w.pages range Emptying
      → EmptyingPage w range (next_map_page w.pages) most tuples (λ z. Unit)
  begun g tuples base grows = record {
    is = refl;
    kind = grows.is;
    past = grows.short;
    tuples_are = fewer (IsTaken w) (λ z. (z.block ≡ next_map_page w.pages) × IsTaken w z × Unit) tuples (λ z is. is.1) base.tuples_are;
    few = few base.room;
  }
    where
      few : suc tuples + later ≤ most → tuples ≤ most
      few le = omega arith

  empties : Left w range per most later tail n Vacant → Grows w.pages range Emptying → EmptyLeft w range per most later tail n
  empties (Works _ _ g tuples _ _ OwnVacant base enough) grows = record {
    g = g;
    tuples = tuples;
    on = tuples;
    page = next_map_page w.pages;
    base = base;
    emptying = begun g tuples base grows;
    enough = to_page tail n (per + 8) ((per + 8) + (3 * tuples + 2)) (g * c) ((g - 1) * c) c
        (one_page g c (pages_some w.pages.limit w.pages.map_pages g grows.below base.pages)) (le_of_lt (omega (arith, base.room))) enough;
  }
  empties (Empties g tuples on page base emptying enough) grows = record {
    g = g;
    tuples = tuples;
    on = on;
    page = page;
    base = base;
    emptying = emptying;
    enough = enough;
  }

  -- of a page of another kind nothing is known
  works_vacant : (kind : PageKind) → (IsOfEmptying kind → ⊥) → Grows w.pages range kind → Left w range per most later tail n Vacant
      → (g : ℕ) × (tuples : ℕ) × Base w per most later g tuples false true × ((per + 8) + g * c + tail ≤ n)
  works_vacant kind other grows (Works _ _ g tuples _ _ OwnVacant base enough) = (g, tuples, base, enough)
  works_vacant kind other grows (Empties g tuples on page base emptying enough) =
      absurd (not_both page IsOfEmptying Emptying kind emptying.kind (ap w.pages.kind (sym emptying.is) ∙ grows.is) tt other)

  turns_base : (g tuples : ℕ) (kind : PageKind) (these : List ℕ) → TurnsKind s w v kind these → Base w per most later g tuples false true
      → Base v per most later g tuples false true
  turns_base g tuples kind these turns = base_on s range per most later tail w v g tuples false true turns.frame.heap.pages_per_range turns.page.map_pages
      turns.page.limit (same_taken s range per most later tail w v turns.frame.tuples.tuple)

  counts_base : (g tuples : ℕ) → CountsPage s w v → Base w per most later g tuples false true → Base v per most later (g - 1) tuples false true
  counts_base g tuples counts base = record {
    per_is = counts.frame.heap.pages_per_range ∙ base.per_is;
    tuples_are = fewer (IsTaken w) (IsTaken v) tuples (same_taken s range per most later tail w v counts.frame.tuples.tuple) base.tuples_are;
    room = base.room;
    pages = (λ j. (counts.pages j).limit - (counts.pages j).map_pages) ∙ (omega (arith, base.pages));
  }

  -- the page of a growth is emptied on: it is the next one still, and of its kind, and fewer tuples count there
  page_on : (page on on' : ℕ) (Before After : Spot → Type 0) → EmptyingPage w range page most on Before → v.pages.map_pages ≡ w.pages.map_pages
      → v.pages.kind page ≡ Emptying → AreAtMost (λ z. (z.block ≡ page) × IsTaken v z × After z) on' → on' ≤ most
      → EmptyingPage v range page most on' After
  page_on page on on' Before After emptying map kind tuples few = record {
    is = (λ j. map j + 1) ∙ emptying.is;
    kind = kind;
    past = subst (λ k. k < map_page_of range) (sym map) emptying.past;
    tuples_are = tuples;
    few = few;
  }

  growth_left : (old new : Phase) → GrowthStep s range w v old new → Left w range per most later tail n old → IsStep range per most later tail n v new
  growth_left _ _ (Grow grows free meta turns) left =
      let known = works_vacant Unstarted (λ is. is) grows left in
      let all = one_page known.0 c (pages_some w.pages.limit w.pages.map_pages known.0 grows.below known.2.pages) in
      let step = lower_page tail n (per + 8) (per + 9) (known.0 * c) ((known.0 - 1) * c) c all (omega arith) known.3 in
      (step.0, step.1, Grows' known.0 known.1 (turns_base known.0 known.1 Mapping (next_map_page w.pages ∷ 0 ∷ []) turns known.2) step.2)
  growth_left _ _ (CountLeftOver grows meta counts) left =
      let known = works_vacant Mapping (λ is. is) grows left in
      let all = one_page known.0 c (pages_some w.pages.limit w.pages.map_pages known.0 grows.below known.2.pages) in
      let step = lower_page tail n (per + 8) (per + 8) (known.0 * c) ((known.0 - 1) * c) c all (omega arith) known.3 in
      (step.0, step.1, Works Vacant (per + 8) (known.0 - 1) known.1 false true OwnVacant (counts_base known.0 known.1 counts known.2) step.2)
  growth_left _ _ (Count counts) (Grows' g tuples base enough) =
      let step = lower tail n (per + 9) (per + 8) ((g - 1) * c) (next per) enough in
      (step.0, step.1, Works Vacant (per + 8) (g - 1) tuples false true OwnVacant (counts_base g tuples counts base) step.2)
    where
      next : (per : ℕ) → per + 8 < per + 9
      next per = omega arith
  growth_left _ _ (Count counts) (Works _ own _ _ moving unput is base enough) = absurd (no_growing w range per own moving unput is)
  growth_left _ _ (Flag grows free turns) left =
      let known = works_vacant Regular (λ is. is) grows left in
      let all = one_page known.0 c (pages_some w.pages.limit w.pages.map_pages known.0 grows.below known.2.pages) in
      let step = lower_page tail n (per + 8) ((per + 8) + (3 * known.1 + 2)) (known.0 * c) ((known.0 - 1) * c) c all (omega (arith, known.2.room)) known.3 in (
        step.0,
        step.1,
        Empties known.0 known.1 known.1 (next_map_page w.pages) (turns_base known.0 known.1 Emptying [] turns known.2) (record {
          is = λ j. turns.page.map_pages j + 1;
          kind = turns.page.now;
          past = subst (λ k. k < map_page_of range) (sym turns.page.map_pages) grows.short;
          tuples_are = fewer (IsTaken w) (λ z. (z.block ≡ next_map_page w.pages) × IsTaken v z × Unit) known.1
              (λ z is. same_taken s range per most later tail w v turns.frame.tuples.tuple z is.1) known.2.tuples_are;
          few = few known.1 known.2.room;
        }) step.2,
      )
    where
      few : (tuples : ℕ) → suc tuples + later ≤ most → tuples ≤ most
      few tuples le = omega arith
  growth_left _ _ (EvacuatePut x y t grows next names free verdict puts these) left =
      let known = empties left grows in
      let taken : IsTaken w x = (λ none. none-some _ (sym none ∙ next.stands)) in
      let apart = emptying_target known.page known.on known.emptying in
      let on = one_less (λ z. (z.block ≡ known.page) × IsTaken w z × Unit) (λ z. (z.block ≡ known.page) × IsTaken v z × (z ≢ x)) x known.on
      (next.on ∙ known.emptying.is, taken, tt) (λ z is. ((is.0, was_taken known.page apart z is.0 is.1, tt), is.2)) known.emptying.tuples_are in
      let step = lower tail n ((per + 8) + (3 * known.on + 2)) ((per + 8) + (3 * on.0 + 4)) ((known.g - 1) * c) (omega (arith, on.1)) known.enough in (
        step.0,
        step.1,
        Moves t.range known.g known.tuples on.0 known.page x y t t
            (puts_on s range per most later tail w v known.g known.tuples true y t puts known.base)
            (stays_taken s range per most later tail w v y x t puts taken)
            (page_on known.page known.on on.0 (λ z. Unit) (λ z. z ≢ x) known.emptying puts.page.map_pages
            (⊎_elim (λ (here : known.page ≡ y.block). absurd (apart (sym here))) (λ (same : v.pages.kind known.page ≡ w.pages.kind known.page). same ∙ known.emptying.kind)
            (puts.page.kinds known.page)) on.2 (still on.0 known.on on.1 known.emptying.few))
            step.2,
      )
    where
      still : (a b : ℕ) → b ≡ suc a → b ≤ most → a ≤ most
      still a b is le = omega arith

      emptying_target : (page on : ℕ) → EmptyingPage w range page most on (λ z. Unit) → y.block ≢ page
      emptying_target page on emptying here = ⊎_elim
          (λ (started : (w.pages.map_pages < y.block) × (w.pages.kind y.block ≡ Regular) × (length t.bytes ≤ page_room (bytes_of w.tuple) y.block)).
          not_both page IsOfEmptying Emptying Regular emptying.kind (ap w.pages.kind (sym here) ∙ started.1) tt (λ is. is))
          (λ (new : (w.pages.kind y.block ≡ Unstarted) × (y.block < w.pages.limit)).
          not_both page IsOfEmptying Emptying Unstarted emptying.kind (ap w.pages.kind (sym here) ∙ new.0) tt (λ is. is))
          (put_place w s t.range (length t.bytes) y verdict).1

      was_taken : (page : ℕ) → y.block ≢ page → (z : Spot) → z.block ≡ page → IsTaken v z → IsTaken w z
      was_taken page apart z on taken = ⊎_elim
          (λ (here : z ≡ y). absurd (apart (ap (λ (p : Spot). p.block) (sym here) ∙ on)))
          (λ (was : IsTaken w z). was)
          (put_taken s range per most later tail w v y t puts z taken)
  growth_left _ _ (EvacuateSet m x y t u sets same) (Moves _ g tuples on page _ _ _ _ base taken emptying enough) =
      let step = lower tail n ((per + 8) + (3 * on + 4)) ((per + 8) + (3 * on + 3)) ((g - 1) * c) (omega arith) enough in
      let sub = same_taken s range per most later tail w v sets.frame.tuples.tuple in (
        step.0,
        step.1,
        Drops m g tuples on page x
            (base_on s range per most later tail w v g tuples true true sets.frame.heap.pages_per_range (ap (λ (p : Pages). p.map_pages) sets.pages)
            (ap (λ (p : Pages). p.limit) sets.pages) sub base)
            (λ none. taken (sym (sets.frame.tuples.tuple x) ∙ none))
            (page_on page on on (λ z. z ≢ x) (λ z. z ≢ x) emptying (ap (λ (p : Pages). p.map_pages) sets.pages)
            (ap (λ (p : Pages). p.kind page) sets.pages ∙ emptying.kind)
            (fewer (λ z. (z.block ≡ page) × IsTaken w z × (z ≢ x)) (λ z. (z.block ≡ page) × IsTaken v z × (z ≢ x)) on (λ z is. (is.0, sub z is.1, is.2))
            emptying.tuples_are) emptying.few)
            step.2,
      )
  growth_left _ _ (EvacuateSet m x y t u sets same) (Works _ _ g tuples _ _ (OwnEvacuates _ _ _ _ _ taken) base enough) =
      works s range per most later tail w v n (per + 10) (per + 9) g tuples true true (Evacuating m (Dropping x)) (omega arith) enough
      (OwnVacates m x (λ none. taken (sym (sets.frame.tuples.tuple x) ∙ none)))
      (base_on s range per most later tail w v g tuples true true sets.frame.heap.pages_per_range (ap (λ (p : Pages). p.map_pages) sets.pages)
      (ap (λ (p : Pages). p.limit) sets.pages) (same_taken s range per most later tail w v sets.frame.tuples.tuple) base)
  growth_left _ _ (EvacuateDrop m x drops) (Drops _ g tuples on page _ base taken emptying enough) =
      let step = lower tail n ((per + 8) + (3 * on + 3)) ((per + 8) + (3 * on + 2)) ((g - 1) * c) (omega arith) enough in (
        step.0,
        step.1,
        Empties g tuples on page (drops_on s range per most later tail w v g tuples true x drops taken base)
            (page_on page on on (λ z. z ≢ x) (λ z. Unit) emptying drops.page.map_pages (kind_on page emptying.kind)
            (fewer (λ z. (z.block ≡ page) × IsTaken w z × (z ≢ x)) (λ z. (z.block ≡ page) × IsTaken v z × Unit) on
            (λ z is. let was = drop_taken s range per most later tail w v x drops z is.1 in (is.0, was.0, was.1)) emptying.tuples_are) emptying.few)
            step.2,
      )
    where
      kind_on : (page : ℕ) → w.pages.kind page ≡ Emptying → v.pages.kind page ≡ Emptying
      kind_on page is = ⊎_elim
          (λ (here : page ≡ x.block). ap v.pages.kind here ∙ drops.page.now ∙ ap w.pages.kind (sym here) ∙ is)
          (λ (same : v.pages.kind page ≡ w.pages.kind page). same ∙ is)
          (drops.page.kinds page)
  growth_left _ _ (EvacuateDrop m x drops) (Works _ _ g tuples _ _ (OwnVacates _ _ taken) base enough) =
      works s range per most later tail w v n (per + 9) (per + 8) g tuples false true Vacant (omega arith) enough OwnVacant
      (drops_on s range per most later tail w v g tuples true x drops taken base)
  growth_left _ _ (EvacuateSweep x t grows next unnamed sweeps) left =
      let known = empties left grows in
      let taken : IsTaken w x = (λ none. none-some _ (sym none ∙ next.stands)) in
      let on = one_less (λ z. (z.block ≡ known.page) × IsTaken w z × Unit) (λ z. (z.block ≡ known.page) × IsTaken v z × Unit) x known.on
      (next.on ∙ known.emptying.is, taken, tt)
      (λ z is. ((is.0, sub z is.1, tt), λ here. is.1 (ap v.tuple here ∙ (sweeps.gone x refl).0))) known.emptying.tuples_are in
      let step = lower tail n ((per + 8) + (3 * known.on + 2)) ((per + 8) + (3 * on.0 + 2)) ((known.g - 1) * c) (omega (arith, on.1)) known.enough in (
        step.0,
        step.1,
        Empties known.g known.tuples on.0 known.page
            (base_on s range per most later tail w v known.g known.tuples false true sweeps.frame.heap.pages_per_range sweeps.page.map_pages sweeps.page.limit sub known.base)
            (page_on known.page known.on on.0 (λ z. Unit) (λ z. Unit) known.emptying sweeps.page.map_pages (kind_on known.page known.emptying.kind)
            on.2 (omega (arith, on.1, known.emptying.few)))
            step.2,
      )
    where
      sub : (z : Spot) → IsTaken v z → IsTaken w z
      sub z taken none = elim (sweeps.places z) [ inl same ↦ taken (same.0 ∙ none) | inr swept ↦ taken (ap v.tuple swept.1 ∙ (sweeps.gone x refl).0) ]

      kind_on : (page : ℕ) → w.pages.kind page ≡ Emptying → v.pages.kind page ≡ Emptying
      kind_on page is = ⊎_elim
          (λ (here : page ≡ next_map_page w.pages). ap v.pages.kind here ∙ sweeps.page.now ∙ ap w.pages.kind (sym here) ∙ is)
          (λ (same : v.pages.kind page ≡ w.pages.kind page). same ∙ is)
          (sweeps.page.kinds page)
  growth_left _ _ (Turn grows none free meta turns) left =
      let known = empties left grows in
      let step = lower tail n ((per + 8) + (3 * known.on + 2)) (per + 9) ((known.g - 1) * c) (omega arith) known.enough in
      (step.0, step.1, Grows' known.g known.tuples (turns_base known.g known.tuples Mapping (next_map_page w.pages ∷ 0 ∷ []) turns known.base) step.2)

-- one step of a summariser on its range
module _ (s range per most later tail n : ℕ) (w v : IndexView) (named : AreNamed w) where
  abbrev IsStepTo : Statement → Type 0
  IsStepTo e = (m : ℕ) × (n ≡ suc m) × LeftAfter v range per most later tail m e

  on_base : (g tuples : ℕ) (moving unput : Bool) → ReadsIndex s w v → Base w per most later g tuples moving unput → Base v per most later g tuples moving unput
  on_base g tuples moving unput reads base = reads_on s range per most later tail w v g tuples moving unput reads base

  go : (own own' g tuples : ℕ) (moving unput : Bool) (phase : Phase) → own' < own → own + g * cost s range per most later tail w v + tail ≤ n
      → Own v range per phase own' moving unput → Base v per most later g tuples moving unput → IsStepTo (Maintaining range phase)
  go own own' g tuples moving unput phase less enough own_is base =
      works s range per most later tail w v n own own' g tuples moving unput phase less enough own_is base

  less_per : (a b : ℕ) → a < b → per + a < per + b
  less_per a b less = omega arith

  gone_not : (x : Spot) (t : IndexTuple) → IsGone w range x → w.tuple x ≡ Some t → t.range ≡ range → ⊥
  gone_not x t gone here of = gone t here of

  -- one step towards the final tuple
  unite_left : (extent next : ℕ) (result : IndexTuple) (old new : OnIndex) → extent ≤ next → OnIndexStep s range w v old new
      → Left w range per most later tail n (IsAt (Passing extent next result) old) → IsStepTo (Maintaining range (IsAt (Passing extent next result) new))
  unite_left extent next result _ _ over (Maps x names reads) (Works _ _ g tuples _ _ (OwnPass _ _ _) base enough) =
      let t = named range x names in
      go ((extent - next) + 5) 4 g tuples false false (IsAt (Passing extent next result) (Held x)) (omega arith) enough
      (OwnHeld (Passing extent next result) x t.0 (reads.frame.tuples.tuple x ∙ t.1) t.2) (on_base g tuples false false reads base)
  unite_left extent next result _ _ over (Gone x gone reads) (Works _ _ g tuples _ _ (OwnHeld _ _ t here of) base enough) = absurd (gone_not x t gone here of)
  unite_left extent next result _ _ over (Gone x gone reads) (Works _ _ g tuples _ _ (OwnHeldGone _ _) base enough) =
      go 6 ((extent - next) + 5) g tuples false false (IsAt (Passing extent next result) Empty) (few extent next over) enough
      (OwnPass extent next result) (on_base g tuples false false reads base)
    where
      few : (extent next : ℕ) → extent ≤ next → (extent - next) + 5 < 6
      few extent next le = omega arith
  unite_left extent next result _ _ over (Again x old new verdict reads) (Works _ _ g tuples _ _ (OwnCopied _ _ _ _ here) base enough) =
      absurd (swap_differs w s range x old new verdict here)
  unite_left extent next result _ _ over (Again x old new verdict reads) (Works _ _ g tuples _ _ (OwnCopiedGone _ _ _ _) base enough) =
      go 6 ((extent - next) + 5) g tuples false false (IsAt (Passing extent next result) Empty) (omega arith) enough
      (OwnPass extent next result) (on_base g tuples false false reads base)
  unite_left extent next result _ _ over (MovePut x y old new verdict puts these) (Works _ _ g tuples _ _ (OwnCopied _ _ _ _ here) base enough) =
      go 3 2 g tuples true false (IsAt (Passing extent next result) (Moving x y old new)) (omega arith) enough
      (OwnMoving (Passing extent next result) x y old new (stays_taken s range per most later tail w v y x new puts (λ none. none-some _ (sym none ∙ here))))
      (puts_on s range per most later tail w v g tuples false y new puts base)
  unite_left extent next result _ _ over (MovePut x y old new verdict puts these) (Works _ _ g tuples _ _ (OwnCopiedGone _ _ _ _) base enough) =
      go 6 2 g tuples true false (IsAt (Passing extent next result) (Moving x y old new)) (omega arith) enough
      (OwnMoving (Passing extent next result) x y old new
      (stays_taken s range per most later tail w v y x new puts (λ none. none-some _ (sym none ∙ (move_compares w s range x y old new verdict).1))))
      (puts_on s range per most later tail w v g tuples false y new puts base)

  -- the final tuple takes the placeholder's place
  swap_base : (g tuples : ℕ) (x : Spot) (old new : IndexTuple) → ReplacesTuple s w v x old new → Base w per most later g tuples false false
      → Base v per most later g tuples false false
  swap_base g tuples x old new swap base = base_on s range per most later tail w v g tuples false false swap.frame.heap.pages_per_range swap.page.map_pages
      swap.page.limit (λ z taken none. ⊎_elim
      (λ (here : z ≡ x). none-some _ (sym none ∙ ap w.tuple here ∙ swap.tuple.was))
      (λ (same : v.tuple z ≡ w.tuple z). taken (same ∙ none))
      (swap.tuple.others z)) base

  pub step_left : (old : Phase) (e : Statement) → SummariseStep s range w v old e → Left w range per most later tail n old → IsStepTo e
  step_left _ _ (LookMap x names reads) (Works _ _ g tuples _ _ OwnMap base enough) =
      let t = named range x names in
      go (per + 9) (per + 7) g tuples false true (NotBuilding (Held x)) (less_per 7 9 (omega arith)) enough
      (OwnTuple x t.0 (reads.frame.tuples.tuple x ∙ t.1) t.2) (on_base g tuples false true reads base)
  step_left _ _ (LookGone x gone reads) (Works _ _ g tuples _ _ (OwnTuple _ t here of) base enough) = absurd (gone_not x t gone here of)
  step_left _ _ (LookGone x gone reads) (Works _ _ g tuples _ _ (OwnTupleGone _) base enough) =
      go (per + 10) (per + 9) g tuples false true (NotBuilding Empty) (less_per 9 10 (omega arith)) enough OwnMap (on_base g tuples false true reads base)
  step_left _ _ (IsFinal x t stands final reads) (Works _ _ g tuples _ _ (OwnTuple _ _ here of) base enough) =
      done s range per most later tail w v n (per + 7) g tuples (omega arith) enough
      (put_done s range per most later tail w v g tuples false true (on_base g tuples false true reads base))
  step_left _ _ (IsFinal x t stands final reads) (Works _ _ g tuples _ _ (OwnTupleGone _) base enough) =
      done s range per most later tail w v n (per + 10) g tuples (omega arith) enough
      (put_done s range per most later tail w v g tuples false true (on_base g tuples false true reads base))
  step_left _ _ (Found x t stands flag reads) (Works _ _ g tuples _ _ (OwnTuple _ _ here of) base enough) =
      go (per + 7) (per + 6) g tuples false false (IsAt ExtentUnread Empty) (less_per 6 7 (omega arith)) enough OwnExtent
      (put_done s range per most later tail w v g tuples false true (on_base g tuples false true reads base))
  step_left _ _ (Found x t stands flag reads) (Works _ _ g tuples _ _ (OwnTupleGone _) base enough) =
      go (per + 10) (per + 6) g tuples false false (IsAt ExtentUnread Empty) (less_per 6 10 (omega arith)) enough OwnExtent
      (put_done s range per most later tail w v g tuples false true (on_base g tuples false true reads base))
  step_left _ _ (ReadNoEntry none of reads) (Works _ _ g tuples _ _ OwnMap base enough) =
      go (per + 9) (per + 8) g tuples false true Vacant (less_per 8 9 (omega arith)) enough OwnVacant (on_base g tuples false true reads base)
  step_left _ _ (GrowMap old new step) left = growth_left s range per most later tail n w v old new step left
  step_left _ _ (Put x t made long verdict puts these) (Works _ _ g tuples _ _ OwnVacant base enough) =
      go (per + 8) (per + 7) g (suc tuples) false false (Placing x) (less_per 7 8 (omega arith)) enough (OwnPlacing x) (record {
        per_is = moved.per_is;
        tuples_are = moved.tuples_are;
        room = moved.room;
        pages = moved.pages;
      })
    where
      moved : Base v per most later g tuples true true
      moved = puts_on s range per most later tail w v g tuples true x t puts base
  step_left _ _ (Put x t made long verdict puts these) (Empties g tuples on page base emptying enough) = absurd (long emptying.past)
  step_left _ _ (Set x sets none) (Works _ _ g tuples _ _ (OwnPlacing _) base enough) =
      go (per + 7) (per + 6) g tuples false false (IsAt ExtentUnread Empty) (less_per 6 7 (omega arith)) enough OwnExtent
      (base_on s range per most later tail w v g tuples false false sets.frame.heap.pages_per_range (ap (λ (p : Pages). p.map_pages) sets.pages)
      (ap (λ (p : Pages). p.limit) sets.pages) (same_taken s range per most later tail w v sets.frame.tuples.tuple) base)
  step_left _ _ (Extent extent result start read reads) (Works _ _ g tuples _ _ OwnExtent base enough) =
      go (per + 6) ((extent - range * w.pages_per_range) + 5) g tuples false false (IsAt (Passing extent (range * w.pages_per_range) result) Empty)
      (omega (arith, ap (λ m. m * w.pages_per_range) (add-one range) ∙ suc-mul range w.pages_per_range, read, base.per_is)) enough
      (OwnPass extent (range * w.pages_per_range) result) (on_base g tuples false false reads base)
  step_left _ _ (Pass extent next slots result wider below none made reads) (Works _ _ g tuples _ _ (OwnPass _ _ _) base enough) =
      go ((extent - next) + 5) ((extent - (next + 1)) + 5) g tuples false false (IsAt (Passing extent (next + 1) wider) Empty) (omega arith) enough
      (OwnPass extent (next + 1) wider) (on_base g tuples false false reads base)
  step_left _ _ (Unite extent next result old new all step) left = unite_left extent next result old new all step left
  step_left _ _ (UniteCopies extent next result x old new all stands united reads) (Works _ _ g tuples _ _ (OwnHeld _ _ t here of) base enough) =
      go 4 3 g tuples false false (IsAt (Passing extent next result) (Copied x old new)) (omega arith) enough
      (OwnCopied (Passing extent next result) x old new (reads.frame.tuples.tuple x ∙ stands.0)) (on_base g tuples false false reads base)
  step_left _ _ (UniteCopies extent next result x old new all stands united reads) (Works _ _ g tuples _ _ (OwnHeldGone _ _) base enough) =
      go 6 3 g tuples false false (IsAt (Passing extent next result) (Copied x old new)) (omega arith) enough
      (OwnCopied (Passing extent next result) x old new (reads.frame.tuples.tuple x ∙ stands.0)) (on_base g tuples false false reads base)
  step_left _ _ (SwapFinal p x old new verdict swap) (Works _ _ g tuples _ _ (OwnCopied _ _ _ _ here) base enough) =
      done s range per most later tail w v n 3 g tuples (omega arith) enough (swap_base g tuples x old new swap base)
  step_left _ _ (SwapFinal p x old new verdict swap) (Works _ _ g tuples _ _ (OwnCopiedGone _ _ _ _) base enough) =
      done s range per most later tail w v n 6 g tuples (omega arith) enough (swap_base g tuples x old new swap base)
  step_left _ _ (SetFinal p x y old new sets same) (Works _ _ g tuples _ _ (OwnMoving _ _ _ _ _ taken) base enough) =
      go 2 1 g tuples true false (NotBuilding (Dropping x)) (omega arith) enough (OwnDropping x (λ none. taken (sym (sets.frame.tuples.tuple x) ∙ none)))
      (base_on s range per most later tail w v g tuples true false sets.frame.heap.pages_per_range (ap (λ (p : Pages). p.map_pages) sets.pages)
      (ap (λ (p : Pages). p.limit) sets.pages) (same_taken s range per most later tail w v sets.frame.tuples.tuple) base)
  step_left _ _ (DropOld x drops) (Works _ _ g tuples _ _ (OwnDropping _ taken) base enough) =
      done s range per most later tail w v n 1 g tuples (omega arith) enough (drops_on s range per most later tail w v g tuples false x drops taken base)
