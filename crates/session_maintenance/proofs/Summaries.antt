-- the summaries of a vacuum in hand, of which one has made a step
use Rattle.std.proofs.Common.{◌≡◌, ◌≢◌, ℕ, zero, suc, ◌+◌, ◌^◌, ◌≤◌, ◌<◌, All, List, length, map, set, get_or, Option, None, Some, refl, sym, ap, subst, ◌∙◌, arith, length-set, get_or-set_same}
use Rattle.std.specs.Prelude.{slice_get}
use Rattle.std.specs.Option.{option_map}
use Rattle.std.proofs.lemmas.List.{get_or-set_other, length-map}
use Rattle.std.proofs.lemmas.List.Elements.{All-get_or, All-set}
use Rattle.std.proofs.lemmas.Option.{get_or_from_slice_get, same_Some, slice_get-get_or, slice_get-map, slice_get_within}
use Rattle.std.proofs.Math.Seq.{map-set_same}
use Rattle.block_model.specs.DatabaseState.{OpenTransaction}
use Rattle.store_layout.specs.DiskLayout.{DiskLayout}
use Rattle.coverage.specs.Accounts.{Account, no_account}
use Rattle.coverage.specs.Table.{Restarts, Resting, Task}
use Rattle.index_steps.specs.IndexTuples.{index_at}
use Rattle.index_steps.specs.ShownTable.{indexes_of}
use Rattle.summarise_core.specs.declared.course.Standing.{Standing}
use Rattle.summarise_core.specs.declared.course.Standing.TheVariants as standings
use Rattle.summarise_core.specs.declared.wish.Wish.{Wish}
use Rattle.summarise_core.specs.declared.wish.Wish.TheVariants as wishes
use Rattle.summarise_core.specs.Summarises.{IsSummariseOf, SummariseState, count_at, count_of, held_by, held_in}
use Rattle.summarise_core.specs.SummariseTable.{HasCounted, account_by, before_first, behind_last, held_behind, held_next, next_index, task_at, task_of}
use Rattle.session_parts.specs.declared.hand.Completing.{Completing}
use Rattle.session_parts.specs.declared.hand.Hand.TheVariants as hands
use Rattle.session_parts.specs.Hands.{completed_by, count_in, summary_now}
use Rattle.session_parts.specs.HandFits.{AreSummariesOf, IsCompletingFor, held_in_summary}
use Rattle.session_parts.specs.HandsInTables.{InItsTable, IsCompletingAt}
use Rattle.session_parts.specs.ShowsPlace.{IsLeftToMark}
use Rattle.session_maintenance.proofs.UpkeepAt.{IsUpkeep}

-- ---- what a vacuum at its summaries is

of_any_copy : (copy : Option OpenTransaction) (c : Completing) → IsLeftToMark copy (hands.Completes c)
of_any_copy None c = tt
of_any_copy (Some x) c = tt

pub is_completing : (layout : DiskLayout) (c : Completing) (index : ℕ) → c.table ≡ (index_at layout index).table → index < length layout.schema.indexes → (index_at layout index).table < length layout.schema.tables
    → IsUpkeep layout (hands.Completes c) index (IsCompletingAt layout c) (completed_by c)
is_completing layout c index own within below = record {
  within = within;
  below = below;
  lock = refl;
  asks = λ n answers. refl;
  answers = λ answers is. is;
  answered = refl;
  tells = λ so_far is. is;
  told = refl;
  none = refl;
  own = λ transaction copy. of_any_copy copy c;
  in_table = λ table has. sym (same_Some c.table table has) ∙ own;
  no_insert = tt;
  asked = λ asked. tt;
  right = λ table has. sym (same_Some c.table table has) ∙ own;
  task_is = λ table blocks tx stored transaction now is. subst (λ (t : ℕ). InItsTable t table (IsCompletingAt layout c now) now) own is;
  is_task = λ table blocks tx stored transaction now is. subst (λ (t : ℕ). InItsTable t table (IsCompletingAt layout c now) now) (sym own) is;
}

-- ---- what it tells

abbrev pub telling : (rows unnamed ranges : ℕ) → Account
telling rows unnamed ranges = record no_account { rows = rows; unnamed = unnamed; ranges = ranges }

adds_standing : (rows unnamed before : ℕ) (standing : Standing) (x count y : ℕ) → HasCounted standing x count y → (standing ≡ standings.Begins → x ≡ 0)
    → account_by wishes.Complete standing count (telling rows unnamed (before + x)) ≡ telling rows unnamed (before + y)
adds_standing rows unnamed before standings.Begins x count y counts none = let first = none refl in ap (telling rows unnamed) (omega (arith, counts, first))
adds_standing rows unnamed before standings.AtRange x count y counts none = ap (telling rows unnamed) (omega (arith, counts))
adds_standing rows unnamed before standings.Done x count y counts none = ap (telling rows unnamed) (omega (arith, counts))

counts_none : (a : SummariseState) → a.standing ≡ standings.Begins → count_of a ≡ 0
counts_none a is = ap (count_at a) is

holds_none : (a : SummariseState) (standing : Standing) → standing ≢ standings.AtRange → held_in a standing ≡ 0
holds_none a standings.Begins other = refl
holds_none a standings.AtRange other = absurd (other refl)
holds_none a standings.Done other = refl

-- ---- the summary that it makes now

module _ (c : Completing) (a : SummariseState) (got : summary_now c ≡ Some a) where
  pub tells_now : completed_by c ≡ telling c.rows c.unnamed (c.ranges + count_of a)
  tells_now = ap (λ (o : Option SummariseState). telling c.rows c.unnamed (c.ranges + count_in o)) got

  pub held_now : held_in_summary (summary_now c) ≡ held_by a
  held_now = ap held_in_summary got

  -- its step adds to that what it counts
  pub adds_now : (b : SummariseState) (count : ℕ) → a.wish ≡ wishes.Complete → HasCounted a.standing (count_of a) count (count_of b) → account_by a.wish a.standing count (completed_by c) ≡ telling c.rows c.unnamed (c.ranges + count_of b)
  adds_now b count complete counts =
      ap (λ (w : Wish). account_by w a.standing count (completed_by c)) complete ∙ ap (account_by wishes.Complete a.standing count) tells_now
      ∙ adds_standing c.rows c.unnamed c.ranges a.standing (count_of a) count (count_of b) counts (counts_none a)

  pub task_now : (layout : DiskLayout) (task : Task) → IsCompletingAt layout c task → task ≡ task_of layout c.next a
  task_now layout task at = at.2 ∙ ap (task_of layout c.next) (same_Some at.0 a (sym at.1 ∙ got))

  pub inside : c.next < length c.summaries.items
  inside = slice_get_within c.summaries.items c.next a got

  module _ (layout : DiskLayout) (for : IsCompletingFor layout c) where
    pub index_there : slice_get (indexes_of layout c.table) c.next ≡ Some a.index
    index_there = ap (λ (l : List ℕ). slice_get l c.next) (sym for.summaries.indexes) ∙ slice_get-map (λ (x : SummariseState). x.index) c.summaries.items c.next ∙ ap (option_map (λ (x : SummariseState). x.index)) got

    pub as_many : length (indexes_of layout c.table) ≡ length c.summaries.items
    as_many = ap (λ (l : List ℕ). length l) (sym for.summaries.indexes) ∙ length-map c.summaries.items (λ (x : SummariseState). x.index)

    pub is_of : IsSummariseOf layout a × (a.wish ≡ wishes.Complete)
    is_of = subst (λ (x : SummariseState). IsSummariseOf layout x × (x.wish ≡ wishes.Complete)) (get_or_from_slice_get c.summaries.items c.next a a got)
        (All-get_or (λ (x : SummariseState). IsSummariseOf layout x × (x.wish ≡ wishes.Complete)) c.summaries.items c.next a inside for.summaries.of)

    pub is_left : a.standing ≢ standings.Done
    is_left = subst (λ (x : SummariseState). x.standing ≢ standings.Done) (same_Some for.now a (sym for.is ∙ got)) for.left

-- what is read of the list is the summary that is made now
pub got_now : (c : Completing) (layout : DiskLayout) (a : SummariseState) → IsCompletingFor layout c → a ≡ get_or c.summaries.items c.next a → summary_now c ≡ Some a
got_now c layout a for is = slice_get-get_or c.summaries.items c.next a (slice_get_within c.summaries.items c.next for.now for.is) ∙ ap Some (sym is)

got_apart : (l : List SummariseState) (at other : ℕ) (b x : SummariseState) → other ≢ at → slice_get (set l at b) other ≡ Some x → slice_get l other ≡ Some x
got_apart l at other b x apart there =
    let long : length (set l at b) ≡ length l = length-set l at b in
    let below : other < length (set l at b) = slice_get_within (set l at b) other x there in
    slice_get-get_or l other x (omega (arith, long, below)) ∙ ap Some (sym (get_or-set_other l at other b x apart) ∙ get_or_from_slice_get (set l at b) other x x there)

-- the summary that comes next hasn't begun
pub record NewSummary (c : Completing) : Type 0 where
  pub now : SummariseState
  pub is : summary_now c ≡ Some now
  pub new : now.standing ≡ standings.Begins
  pub wish : now.wish ≡ wishes.Complete

-- ---- its step is made: the summary stands in its place then

module _ (layout : DiskLayout) (c then : Completing) (a b : SummariseState) (got : summary_now c ≡ Some a) (for : IsCompletingFor layout c) (items : then.summaries.items ≡ set c.summaries.items c.next b) (same_table : then.table ≡ c.table)
    (index : b.index ≡ a.index) (wish : b.wish ≡ a.wish) (of : IsSummariseOf layout b) where
  same_indexes : map (λ (x : SummariseState). x.index) then.summaries.items ≡ indexes_of layout then.table
  same_indexes = ap (map (λ (x : SummariseState). x.index)) items
      ∙ map-set_same (λ (x : SummariseState). x.index) c.summaries.items c.next b a (index ∙ sym (ap (λ (x : SummariseState). x.index) (get_or_from_slice_get c.summaries.items c.next a a got)))
      ∙ for.summaries.indexes ∙ ap (indexes_of layout) (sym same_table)

  summaries_then : AreSummariesOf layout then.table then.summaries.items
  summaries_then = record {
    indexes = same_indexes;
    of = subst (λ (l : List SummariseState). All (λ (x : SummariseState). IsSummariseOf layout x × (x.wish ≡ wishes.Complete)) l) (sym items)
        (All-set (λ (x : SummariseState). IsSummariseOf layout x × (x.wish ≡ wishes.Complete)) c.summaries.items c.next b (of, wish ∙ (is_of c a got layout for).1) for.summaries.of);
  }

  later_new : (at : ℕ) (x : SummariseState) → c.next < at → slice_get then.summaries.items at ≡ Some x → x.standing ≡ standings.Begins
  later_new at x later there = for.new at x later (got_apart c.summaries.items c.next at b x (λ is. absurd (omega (arith, later, is))) (ap (λ (l : List SummariseState). slice_get l at) (sym items) ∙ there))

  table_then : then.table < length layout.schema.tables
  table_then = subst (λ (t : ℕ). t < length layout.schema.tables) (sym same_table) for.table

  -- it goes on in its index
  module _ (next : then.next ≡ c.next) (ranges : then.ranges ≡ c.ranges) where
    pub now_then : summary_now then ≡ Some b
    now_then =
        let long : length (set c.summaries.items c.next b) ≡ length c.summaries.items = length-set c.summaries.items c.next b in
        let below = inside c a got in
        ap (slice_get then.summaries.items) next ∙ ap (λ (l : List SummariseState). slice_get l c.next) items
        ∙ slice_get-get_or (set c.summaries.items c.next b) c.next b (omega (arith, long, below)) ∙ ap Some (get_or-set_same c.summaries.items c.next b b below)

    -- its count fits
    pub few_ranges : b.standing ≡ standings.Done → length (indexes_of layout c.table) ≤ 8 → then.ranges + count_in (summary_now then) < 2 ^ 64
    few_ranges done indexes =
        let counted : count_in (summary_now then) ≡ count_of b = ap count_in now_then in
        let made : count_of b ≤ 131072 = subst (λ (k : ℕ). k ≤ 131072) (sym (ap (count_at b) done)) of.few in
        let few = for.few in
        let below = inside c a got in
        let listed = as_many c a got layout for in
        omega (arith, counted, made, few, below, listed, indexes, ranges)

    pub completing_on : b.standing ≢ standings.Done → IsCompletingFor layout then
    completing_on left = record {
      table = table_then;
      summaries = summaries_then;
      now = b;
      is = now_then;
      left = left;
      new = λ at x later there. later_new at x (subst (λ (m : ℕ). m < at) next later) there;
      few = let few = for.few in omega (arith, few, next, ranges);
    }

  -- its index is done, and another one comes
  module _ (next : then.next ≡ c.next + 1) (ranges : then.ranges ≡ c.ranges + count_of b) (more : c.next + 1 < length c.summaries.items) (done : b.standing ≡ standings.Done) where
    pub counts_few : count_of b ≤ 131072
    counts_few = subst (λ (k : ℕ). k ≤ 131072) (sym (ap (count_at b) done)) of.few

    pub next_summary : NewSummary then
    next_summary =
        let long : length (set c.summaries.items c.next b) ≡ length c.summaries.items = length-set c.summaries.items c.next b in
        let d : SummariseState = get_or then.summaries.items (c.next + 1) b in
        let below : c.next + 1 < length then.summaries.items = subst (λ (l : List SummariseState). c.next + 1 < length l) (sym items) (omega (arith, long, more)) in
        let there : slice_get then.summaries.items (c.next + 1) ≡ Some d = slice_get-get_or then.summaries.items (c.next + 1) b below in
        record {
          now = d;
          is = ap (slice_get then.summaries.items) next ∙ there;
          new = later_new (c.next + 1) d (omega arith) there;
          wish = (All-get_or (λ (x : SummariseState). IsSummariseOf layout x × (x.wish ≡ wishes.Complete)) then.summaries.items (c.next + 1) b below summaries_then.of).1;
        }

    begins_apart : standings.Begins ≢ standings.Done
    begins_apart is = cc

    pub completing_next : IsCompletingFor layout then
    completing_next = record {
      table = table_then;
      summaries = summaries_then;
      now = next_summary.now;
      is = next_summary.is;
      left = λ is. begins_apart (sym next_summary.new ∙ is);
      new = λ at x later there. later_new at x (omega (arith, later, next)) there;
      few = let few = for.few in omega (arith, few, next, ranges, counts_few);
    }

    -- nothing of that is counted yet, and it holds no page lock
    pub tells_next : completed_by then ≡ telling then.rows then.unnamed (c.ranges + count_of b)
    tells_next = tells_now then next_summary.now next_summary.is
        ∙ ap (telling then.rows then.unnamed) (let none = counts_none next_summary.now next_summary.new in omega (arith, ranges, none))

    pub held_next_one : held_in_summary (summary_now then) ≡ 0
    held_next_one = held_now then next_summary.now next_summary.is ∙ holds_none next_summary.now next_summary.now.standing (λ is. begins_there (sym next_summary.new ∙ is))
      where
        begins_there : standings.Begins ≢ standings.AtRange
        begins_there is = cc

-- ---- where its step leads

-- another index comes
restarts_next : (at left : ℕ) → 0 < left → next_index at left ≡ Restarts (at + 1)
restarts_next at zero more = absurd (omega (arith, more))
restarts_next at (suc left) more = ap Restarts (omega arith)

still_held : (s left : ℕ) → 0 < left → held_next s left ≡ Some s
still_held s zero more = absurd (omega (arith, more))
still_held s (suc left) more = refl

-- none is left
rests_then : (at left : ℕ) → left ≡ 0 → next_index at left ≡ Resting
rests_then at left none = ap (next_index at) none

given_then : (s left : ℕ) → left ≡ 0 → held_next s left ≡ None
given_then s left none = ap (held_next s) none

by_wish : (wish : Wish) → wish ≡ wishes.Complete → (at s left : ℕ) → (behind_last wish at left ≡ next_index at left) × (held_behind wish s left ≡ held_next s left) × (before_first wish at ≡ Restarts at)
by_wish wish complete at s left = (
  ap (λ (w : Wish). behind_last w at left) complete,
  ap (λ (w : Wish). held_behind w s left) complete,
  ap (λ (w : Wish). before_first w at) complete,
)

module _ (layout : DiskLayout) (s at left : ℕ) (a : SummariseState) (complete : a.wish ≡ wishes.Complete) where
  pub new_task : a.standing ≡ standings.Begins → task_of layout at a ≡ Restarts at
  new_task is = ap (task_at layout at a) is ∙ (by_wish a.wish complete at s left).2

  pub held_on : 0 < left → held_behind a.wish s left ≡ Some s
  held_on more = (by_wish a.wish complete at s left).1 ∙ still_held s left more

  pub held_no_more : left ≡ 0 → held_behind a.wish s left ≡ None
  held_no_more none = (by_wish a.wish complete at s left).1 ∙ given_then s left none

  pub behind_all : left ≡ 0 → behind_last a.wish at left ≡ Resting
  behind_all none = (by_wish a.wish complete at s left).0 ∙ rests_then at left none

  pub behind_one : 0 < left → behind_last a.wish at left ≡ Restarts (at + 1)
  behind_one more = (by_wish a.wish complete at s left).0 ∙ restarts_next at left more
