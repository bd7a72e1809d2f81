-- the order of all relations
use Rattle.std.proofs.Common.{◌≡◌, ◌⊎◌, inl, inr, ℕ, zero, suc, ◌+◌, ◌-◌, ◌<◌, ◌≤◌, List, length, refl, sym, ◌∙◌, ap, subst, arith}
use Rattle.std.specs.Prelude.{IsTrue, IfNone, IfSome, None, Option, Some}
use Rattle.page_layout.specs.IndexReading.{map_pages_of}
use Rattle.store_layout.specs.RelationCounts.{blocks_of_index, blocks_of_statuses}
use Rattle.store_layout.specs.RelationCounts.{count_relations}
use Rattle.std.proofs.lemmas.Bool.{cases_lt}
use Rattle.block_model.specs.declared.place.Place.{Place}
use Rattle.store_layout.specs.DiskLayout.{DiskLayout, IsPlace, relation_blocks}
use Rattle.disk_trait.specs.Told.{Told}
use Rattle.page_map.specs.declared.facts.PageFacts.{PageFacts}
use Rattle.page_map.specs.PageFacts.{facts_in}
use Rattle.page_map.specs.PageMap.{PageMap, block_at, block_limit}
use Rattle.buffer_pool.specs.PoolState.{PoolState}
use Rattle.recovery.specs.PageOrder.{AreInOrder, IsIndexInOrder, IsOfTuples, StartsFirst, empty_page, kind_of}
use Rattle.recovery.specs.ShownLaws.{shown_at}
use Rattle.recovery.specs.ShownPages.{shown_pages}
use Rattle.recovery.specs.Judged.{AreJudgedIn, IsJudged}
use Rattle.recovery.specs.Orders.{AreFirstStarted, IsLate, OrderedAt, StandsInIndex, StandsInOrder, kind_in}

-- the kind that was noted is that of the page that is shown
pub kind_shown : (layout : DiskLayout) (pool : PoolState) (disk : Told) (place : Place) (facts : PageFacts) → IsPlace layout place → IsTrue disk.tells_contents → IsJudged layout pool disk place facts
    → facts.kind ≡ kind_of (block_at (shown_pages layout pool disk.contents) place.relation place.block)
kind_shown layout pool disk place facts is tells judged =
    ap (λ (f : PageFacts). f.kind) judged.facts_are ∙ ap kind_of (judged.shown tells ∙ sym (shown_at layout pool disk.contents place is))

-- started pages of a relation are the first ones
pub starts_first : (limit : ℕ) (facts : List PageFacts) (page : ℕ → List ℕ) → ((block : ℕ) → block < limit → kind_in facts block ≡ kind_of (page block)) → AreFirstStarted limit facts → StartsFirst limit page
starts_first limit facts page kinds first before block low within started none =
    first before block low within (λ e. started (sym (kinds block within) ∙ e)) (kinds before (omega (arith, low, within)) ∙ none)

-- the relations below the number are in order
pub record OrderedBelow (layout : DiskLayout) (pages : PageMap) (n : ℕ) : Type 0 where
  pub statuses : 0 < n → (block : ℕ) → block < block_limit layout 0 → kind_of (block_at pages 0 block) ≡ 1
  pub tables : (table : ℕ) → 1 + table < n → table < length layout.schema.tables → StartsFirst (block_limit layout (1 + table)) (block_at pages (1 + table))
  pub indexes : (index : ℕ) → 1 + length layout.schema.tables + index < n → index < length layout.schema.indexes
      → IsIndexInOrder (block_limit layout (1 + length layout.schema.tables + index)) (block_at pages (1 + length layout.schema.tables + index))

pub all_ordered : (layout : DiskLayout) (pages : PageMap) (n : ℕ) → 1 + (length layout.schema.tables + length layout.schema.indexes) ≤ n → block_limit layout 0 ≡ layout.sizes.status_blocks
    → ((index : ℕ) → index < length layout.schema.indexes → block_limit layout (1 + length layout.schema.tables + index) ≡ layout.sizes.index_blocks) → OrderedBelow layout pages n → AreInOrder layout pages
all_ordered layout pages n enough first last below = record {
  statuses = λ block within. below.statuses (omega (arith, enough)) block (omega (arith, within, first));
  tables = λ table inside. below.tables table (omega (arith, inside, enough)) inside;
  indexes = λ index inside. subst (λ (limit : ℕ). IsIndexInOrder limit (block_at pages (1 + length layout.schema.tables + index))) (last index inside) (below.indexes index (omega (arith, inside, enough)) inside);
}

-- an order of all is one of each
pub order_at : (layout : DiskLayout) (pages : PageMap) (n : ℕ) → n < 1 + (length layout.schema.tables + length layout.schema.indexes) → block_limit layout 0 ≡ layout.sizes.status_blocks
    → ((index : ℕ) → index < length layout.schema.indexes → block_limit layout (1 + length layout.schema.tables + index) ≡ layout.sizes.index_blocks) → AreInOrder layout pages → OrderedAt layout pages n
order_at layout pages n within first last order = record {
  statuses = λ is block low. subst (λ (k : ℕ). kind_of (block_at pages k block) ≡ 1) (sym is) (order.statuses block (omega (arith, low, ap (block_limit layout) is, first)));
  tables = λ some inside. from_table n some inside;
  indexes = λ past. from_index n past within;
}
  where
    from_table : (k : ℕ) → 0 < k → k ≤ length layout.schema.tables → StartsFirst (block_limit layout k) (block_at pages k)
    from_table zero some inside = absurd (omega (arith, some))
    from_table (suc table) some inside =
        let e : 1 + table ≡ suc table = omega arith in
        subst (λ (k : ℕ). StartsFirst (block_limit layout k) (block_at pages k)) e (order.tables table (omega (arith, inside)))

    from_index : (k : ℕ) → length layout.schema.tables < k → k < 1 + (length layout.schema.tables + length layout.schema.indexes) → IsIndexInOrder (block_limit layout k) (block_at pages k)
    from_index k past low =
        let index : ℕ = k - (1 + length layout.schema.tables) in
        let is : 1 + length layout.schema.tables + index ≡ k = omega (arith, past) in
        let inside : index < length layout.schema.indexes = omega (arith, low, past) in
        subst (λ (j : ℕ). IsIndexInOrder (block_limit layout j) (block_at pages j)) is
        (subst (λ (limit : ℕ). IsIndexInOrder limit (block_at pages (1 + length layout.schema.tables + index))) (sym (last index inside)) (order.indexes index inside))

-- where a relation is in order each of its pages stands in order
stands_index : (limit : ℕ) (page : ℕ → List ℕ) (block : ℕ) → block < limit → IsIndexInOrder limit page → StandsInIndex limit page block
stands_index limit page block low order = record {
  metapage = λ is. order.metapage;
  some_map = λ is. order.some_map;
  few_maps = λ is. order.few_maps;
  maps = order.maps block;
  next = λ is. subst (λ (b : ℕ). IsOfTuples (page b) ⊎ (page b ≡ empty_page 4)) (sym is) (order.next (omega (arith, is, low)));
  others = λ past. order.others block past low;
}

starts_of : (layout : DiskLayout) (pages : PageMap) (n : ℕ) → OrderedAt layout pages n → 0 < n → StartsFirst (block_limit layout n) (block_at pages n)
starts_of layout pages n order some = elim (cases_lt (length layout.schema.tables) n) [ inl past ↦ (order.indexes past).first | inr inside ↦ order.tables some inside ]

pub stands_at : (layout : DiskLayout) (pages : PageMap) (n block : ℕ) → block < block_limit layout n → OrderedAt layout pages n → StandsInOrder layout pages (record { relation = n; block = block })
stands_at layout pages n block low order = record {
  statuses = λ is. order.statuses is block low;
  first = λ some before below. starts_of layout pages n order some before block below low;
  indexes = λ past. stands_index (block_limit layout n) (block_at pages n) block low (order.indexes past);
}

pub none_weaker : {X : Type 0} (o : Option X) (A B : Type 0) → (A → B) → IfNone o A → IfNone o B
none_weaker None A B f a = f a
none_weaker (Some x) A B f a = tt

pub some_weaker : {X : Type 0} (o : Option X) (P Q : X → Type 0) → ((x : X) → P x → Q x) → IfSome o P → IfSome o Q
some_weaker None P Q f p = tt
some_weaker (Some x) P Q f p = f x p

-- an index has blocks
pub some_block : (layout : DiskLayout) (r : ℕ) → length layout.schema.tables < r → r < length (relation_blocks layout) → 3 ≤ layout.sizes.index_blocks → 0 < block_limit layout r
some_block layout r past inside some = omega (arith, blocks_of_index layout r past (omega (arith, inside, count_relations layout)), some)

-- of one relation, by the kinds that were noted
module _ (layout : DiskLayout) (pool : PoolState) (disk : Told) (relation : ℕ) (inside : relation < length (relation_blocks layout)) (kinds : List PageFacts) (judged : AreJudgedIn layout pool disk relation (block_limit layout relation) kinds) (tells : IsTrue disk.tells_contents) where
  abbrev pages : PageMap
  pages = shown_pages layout pool disk.contents

  pub kinds_are : (block : ℕ) → block < block_limit layout relation → kind_in kinds block ≡ kind_of (block_at pages relation block)
  kinds_are block within = kind_shown layout pool disk (record { relation = relation; block = block }) (facts_in kinds block) (record { relation = inside; block = within }) tells (judged.pages block within)

  pub statuses_ordered : relation ≡ 0 → ((block : ℕ) → block < block_limit layout relation → kind_in kinds block ≡ 1) → OrderedAt layout pages relation
  statuses_ordered is each = record {
    statuses = λ e block low. sym (kinds_are block low) ∙ each block low;
    tables = λ some. absurd (omega (arith, some, is));
    indexes = λ past. absurd (omega (arith, past, is));
  }

  pub statuses_amiss : relation ≡ 0 → (block : ℕ) → block < block_limit layout relation → (kind_in kinds block ≡ 1 → ⊥) → StandsInOrder layout pages (record { relation = relation; block = block }) → ⊥
  statuses_amiss is block low other stands = other (kinds_are block low ∙ stands.statuses is)

  pub table_ordered : 0 < relation → relation ≤ length layout.schema.tables → AreFirstStarted (block_limit layout relation) kinds → OrderedAt layout pages relation
  table_ordered some within first = record {
    statuses = λ e. absurd (omega (arith, some, e));
    tables = λ s w. starts_first (block_limit layout relation) kinds (block_at pages relation) kinds_are first;
    indexes = λ past. absurd (omega (arith, past, within));
  }

  pub late_amiss : 0 < relation → (block : ℕ) → block < block_limit layout relation → IsLate kinds block → StandsInOrder layout pages (record { relation = relation; block = block }) → ⊥
  late_amiss some block low late stands =
      stands.first some late.0 late.1 (λ none. late.3 (kinds_are block low ∙ none)) (sym (kinds_are late.0 (omega (arith, late.1, low))) ∙ late.2)

  -- the number of map pages that was noted
  pub maps_are : (maps : ℕ) → 0 < block_limit layout relation → maps ≡ (facts_in kinds 0).maps → maps ≡ map_pages_of (block_at pages relation 0)
  maps_are maps some noted =
      let place : Place = record { relation = relation; block = 0 } in
      let one : IsJudged layout pool disk place (facts_in kinds 0) = judged.pages 0 some in
      noted ∙ ap (λ (f : PageFacts). f.maps) one.facts_are ∙ ap map_pages_of (one.shown tells ∙ sym (shown_at layout pool disk.contents place (record { relation = inside; block = some })))

-- all relations are in order
pub order_of_all : (layout : DiskLayout) (pages : PageMap) (n : ℕ) → length (relation_blocks layout) ≤ n → OrderedBelow layout pages n → AreInOrder layout pages
order_of_all layout pages n enough below =
    all_ordered layout pages n (omega (arith, enough, count_relations layout)) (blocks_of_statuses layout 0 refl)
    (λ index inside. blocks_of_index layout (1 + length layout.schema.tables + index) (omega arith) (omega (arith, inside))) below

pub order_of_one : (layout : DiskLayout) (pages : PageMap) (n : ℕ) → n < length (relation_blocks layout) → AreInOrder layout pages → OrderedAt layout pages n
order_of_one layout pages n within order =
    order_at layout pages n (omega (arith, within, count_relations layout)) (blocks_of_statuses layout 0 refl)
    (λ index inside. blocks_of_index layout (1 + length layout.schema.tables + index) (omega arith) (omega (arith, inside))) order
