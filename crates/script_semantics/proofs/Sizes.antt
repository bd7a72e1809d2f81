-- How many steps a statement takes at most from where it is, in a table that is no larger than a layout may make it.
use Rattle.std.proofs.Common.{◌≡◌, ℕ, zero, suc, ◌+◌, ◌-◌, ◌*◌, ◌/◌, ◌^◌, ◌≤◌, ◌<◌, true, false, Bool, Option, None, Some, sym, subst, arith, suc-mul, zero-mul, mul-le-mul, div-le_self, le_trans}
use Rattle.block_model.specs.declared.place.Spot.{Spot}
use Rattle.coverage.specs.IndexView.{Passing, ExtentUnread}
use Rattle.coverage.specs.PageOrder.{KnowsPages}
use Rattle.coverage.specs.Statements.{Empty, Held, Phase, NotBuilding, Vacant, Growing, Evacuating, Placing, IsAt, Copied, Moving, Dropping, Maintaining}
use Rattle.coverage.specs.StepsLeft.{sum_below, ranges_below, held_steps, unread_blocks, scan_steps, desummarise_steps, later_ranges, range_steps, summarise_steps, HasAtMostTuples, page_limit, cleaning_steps}
use Rattle.coverage.specs.Table.{Job, EachRange, OneRange, WholeRanges, Desummarising, TableScan, Maintains, Prunes, Sweeps, TableState, index_view_at}
use Rattle.coverage.specs.TableCovered.{IsExtentWithin, IsInTable, IsTableKept}
use Rattle.coverage.proofs.MachinesIn.{maintain_knows}
use Rattle.script_semantics.specs.Bounds.{IsBounded, most_blocks, most_pages, most_slots}
use Rattle.script_semantics.proofs.Boxes.{tuples_at_most}

-- as many as no statement takes, and as many as none takes in one index
abbrev pub few_steps : ℕ
few_steps = 2 ^ 63

abbrev pub most_in_index : ℕ
most_in_index = 6645000000000

self : (n : ℕ) → n ≤ n
self n = omega arith

-- ---- numbers

ten_more : {n : ℕ} → n ≤ 131072 → n + 10 ≤ 131082
ten_more le = omega arith

nine_more : {n : ℕ} → n ≤ 131072 → n + 9 ≤ 131081
nine_more le = omega arith

six_more : (a b : ℕ) → a ≤ 131072 → (a - b) + 6 ≤ 131082
six_more a b le = omega arith

growth_few : (n : ℕ) → n ≤ 262144 → 3 * (16384 * 8192 + suc n) + 3 ≤ 403439622
growth_few n le = omega arith

all_few : (a b c : ℕ) → a ≤ 131082 → b ≤ 16384 * 403439622 → c ≤ 262144 * 131081 → a + b + c ≤ 6645000000000
all_few a b c le le' le'' = omega arith

pub insert_few : (n i : ℕ) → i ≤ 8 → n ≤ 6 * i → n ≤ 9223372036854775808
insert_few n i le le' = omega arith

pub summarises_few : (n m : ℕ) → m ≤ 6645000000000 → n ≤ m → n ≤ 9223372036854775808
summarises_few n m le le' = omega arith

pub scans_few : (n m : ℕ) → m ≤ 4325377 → n ≤ m + 131072 * 8192 → n ≤ 9223372036854775808
scans_few n m le le' = omega arith

pub marks_few : (n m : ℕ) → m < 9223372036854775808 → n ≤ m → n ≤ 9223372036854775808
marks_few n m less le = omega arith

pub four_few : (n m : ℕ) → m ≤ 4 → n ≤ m → n ≤ 9223372036854775808
four_few n m le le' = omega arith

pub desummarise_few : (phase : Phase) → desummarise_steps phase ≤ 4
desummarise_few phase = cases_of phase
  where
    three : 3 ≤ 4
    three = omega arith

    four : 4 ≤ 4
    four = omega arith

    one : 1 ≤ 4
    one = omega arith

    cases_of : (p : Phase) → desummarise_steps p ≤ 4
    cases_of (NotBuilding Empty) = three
    cases_of (NotBuilding (Held x)) = four
    cases_of (NotBuilding (Copied x old new)) = one
    cases_of (NotBuilding (Moving x y old new)) = one
    cases_of (NotBuilding (Dropping x)) = one
    cases_of Vacant = one
    cases_of Growing = one
    cases_of (Evacuating m on_index) = one
    cases_of (Placing x) = one
    cases_of (IsAt p on_index) = one

-- ---- sums

sum_at_most : (f : ℕ → ℕ) (c n : ℕ) → ((i : ℕ) → i < n → f i ≤ c) → sum_below n f ≤ n * c
sum_at_most f c zero each = subst (λ m. 0 ≤ m) (sym (zero-mul c)) (self 0)
sum_at_most f c (suc n) each =
    subst (λ m. sum_below n f + f n ≤ m) (sym (suc-mul n c))
    (both (sum_below n f) (n * c) (f n) c (sum_at_most f c n (λ i less. each i (onward i n less))) (each n (last n)))
  where
    both : (a b x y : ℕ) → a ≤ b → x ≤ y → a + x ≤ b + y
    both a b x y le le' = omega arith

    onward : (i n : ℕ) → i < n → i < suc n
    onward i n less = omega arith

    last : (n : ℕ) → n < suc n
    last n = omega arith

-- ---- ranges

-- of an extent and a range of so many blocks
ranges_at_most : (extent per : ℕ) → extent ≤ most_blocks → per ≤ most_blocks → (extent + per - 1) / per ≤ 262144
ranges_at_most extent per low few = le_trans (div-le_self (extent + per - 1) per) (less extent per low few)
  where
    less : (a b : ℕ) → a ≤ 131072 → b ≤ 131072 → a + b - 1 ≤ 262144
    less a b le le' = omega arith

-- ---- scans

module _ (w : TableState) (bounded : IsBounded w) where
  all_ranges : (extent : ℕ) → extent ≤ most_blocks → sum_below w.indexes (ranges_below w extent) ≤ 8 * 262144
  all_ranges extent low =
      le_trans (sum_at_most (ranges_below w extent) 262144 w.indexes (λ i less. ranges_at_most extent (w.index i).pages_per_range low (bounded.ranges i less)))
      (mul-le-mul bounded.indexes (self 262144))

  held_few : (held : Option Spot) → held_steps held ≤ 1
  held_few None = one
    where
      one : 0 ≤ 1
      one = omega arith
  held_few (Some x) = self 1

  unread_few : (explains : Bool) (extent read : ℕ) → extent ≤ most_blocks → unread_blocks explains extent read ≤ most_blocks
  unread_few true extent read low = none
    where
      none : 0 ≤ 131072
      none = omega arith
  unread_few false extent read low = less extent read low
    where
      less : (a b : ℕ) → a ≤ 131072 → a - b ≤ 131072
      less a b le = omega arith

  pub scan_few : (scan : TableScan) → scan.extent ≤ most_blocks → scan_steps w scan ≤ 4325377
  scan_few scan low =
      sum (held_steps scan.held) (sum_below w.indexes (ranges_below w scan.extent)) (sum_below scan.at (ranges_below w scan.extent) + scan.range)
      (unread_blocks scan.explains scan.extent scan.read) (held_few scan.held) (all_ranges scan.extent low) (unread_few scan.explains scan.extent scan.read low)
    where
      sum : (h a b u : ℕ) → h ≤ 1 → a ≤ 8 * 262144 → u ≤ 131072 → h + 2 * (a - b) + u ≤ 4325377
      sum h a b u le le' le'' = omega arith

  -- ---- a vacuum that cleans

  all_pages : sum_below w.indexes (page_limit w) ≤ 8 * most_pages
  all_pages = le_trans (sum_at_most (page_limit w) most_pages w.indexes bounded.pages) (mul-le-mul bounded.indexes (self most_pages))

  pub prunes_few : (extent next : ℕ) → extent ≤ w.blocks → cleaning_steps w (Prunes extent next) ≤ 278528
  prunes_few extent next within = sum extent (sum_below w.indexes (page_limit w)) (le_trans within bounded.blocks) all_pages
    where
      sum : (a b : ℕ) → a ≤ 131072 → b ≤ 8 * 16384 → (a - next) + b ≤ 278528
      sum a b le le' = omega arith

  pub sweeps_few : (at page : ℕ) → at < w.indexes → cleaning_steps w (Sweeps at page) ≤ 278528
  sweeps_few at page below = sum (sum_below w.indexes (page_limit w)) (sum_below (suc at) (page_limit w)) (page_limit w at) all_pages (bounded.pages at below)
    where
      sum : (a b c : ℕ) → a ≤ 8 * 16384 → c ≤ 16384 → (a - b) + (c - page) ≤ 278528
      sum a b c le le' = omega arith

-- ---- at a range

-- an index, and what its ranges are made of, are small
pub record IsSmallAt (w : TableState) (at : ℕ) : Type 0 where
  pub blocks : w.blocks ≤ most_blocks
  pub ranges : (w.index at).pages_per_range ≤ most_blocks
  pub pages : (w.index at).pages.limit ≤ most_pages
  pub tuples : HasAtMostTuples w at (most_pages * most_slots)

pub small_at : (w : TableState) (at : ℕ) → IsTableKept w → IsBounded w → at < w.indexes → IsSmallAt w at
small_at w at kept bounded below = record {
  blocks = bounded.blocks;
  ranges = bounded.ranges at below;
  pages = bounded.pages at below;
  tuples = tuples_at_most w at kept bounded below;
}

module _ (w : TableState) (at : ℕ) (small : IsSmallAt w at) where
  abbrev per : ℕ
  per = (w.index at).pages_per_range

  pub later_few : (job : Job) (range : ℕ) → IsExtentWithin w job → later_ranges w job at range ≤ 262144
  later_few job range lies = of job lies
    where
      less : (a : ℕ) → a ≤ 262144 → a - suc range ≤ 262144
      less a le = omega arith

      wider : (a : ℕ) → a ≤ 131072 → a ≤ 262144
      wider a le = omega arith

      none : 0 ≤ 262144
      none = omega arith

      of : (j : Job) → IsExtentWithin w j → later_ranges w j at range ≤ 262144
      of (EachRange extent) lies = less ((extent + per - 1) / per) (ranges_at_most extent per (le_trans lies small.blocks) small.ranges)
      of (OneRange extent only) lies = none
      of (WholeRanges extent) lies = less (extent / per) (wider (extent / per) (le_trans (div-le_self extent per) (le_trans lies small.blocks)))
      of (Desummarising only) lies = none

  pages_left : (w.index at).pages.limit - (w.index at).pages.map_pages ≤ most_pages
  pages_left = less (w.index at).pages.limit (w.index at).pages.map_pages small.pages
    where
      less : (a b : ℕ) → a ≤ 16384 → a - b ≤ 16384
      less a b le = omega arith

  -- its own steps, the growth of the map, and the ranges that come later
  pub in_index_few : (own later : ℕ) → own ≤ 131082 → later ≤ 262144
      → own + ((w.index at).pages.limit - (w.index at).pages.map_pages) * (3 * (most_pages * most_slots + suc later) + 3) + later * (per + 9) ≤ most_in_index
  in_index_few own later few less =
      all_few own (((w.index at).pages.limit - (w.index at).pages.map_pages) * (3 * (most_pages * most_slots + suc later) + 3)) (later * (per + 9)) few
      (mul-le-mul pages_left (growth_few later less)) (mul-le-mul less (nine_more small.ranges))

  -- a summarise that is at a range, or a vacuum's
  pub summarise_few : (s range : ℕ) (job : Job) (phase : Phase) → IsTableKept w → w.task s ≡ Maintains job at range phase
      → summarise_steps w job at range phase (most_pages * most_slots) ≤ most_in_index
  summarise_few s range job phase kept is =
      in_index_few (range_steps per phase) (later_ranges w job at range) (phase_few phase (maintain_knows s job at range w phase kept inside.0 is).1) (later_few job range inside.1)
    where
      inside : IsInTable w (Maintains job at range phase)
      inside = subst (IsInTable w) is (kept.inside s)

      phase_few : (p : Phase) → KnowsPages (index_view_at at w) s (Maintaining range p) → range_steps per p ≤ 131082
      phase_few (NotBuilding on_index) known = ten_more small.ranges
      phase_few Vacant known = ten_more small.ranges
      phase_few Growing known = ten_more small.ranges
      phase_few (Evacuating m on_index) known = ten_more small.ranges
      phase_few (Placing x) known = ten_more small.ranges
      phase_few (IsAt ExtentUnread on_index) known = ten_more small.ranges
      phase_few (IsAt (Passing extent next result) on_index) known = six_more extent next (le_trans known.2.0 small.blocks)
