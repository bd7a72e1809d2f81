-- which changes of one page keep the order of an index's pages
use Rattle.std.specs.Prelude.{◌≡◌, ◌≢◌, ◌⊎◌, ℕ, ◌+◌, ◌<◌, ◌≤◌, List, length}
use Rattle.std.proofs.Common.{inl, inr, sym, ap, subst, ◌∙◌, arith}
use Rattle.std.proofs.lemmas.Bool.{cases_eq}
use Rattle.disk_trait.specs.Told.{Told}
use Rattle.store_layout.specs.DiskLayout.{DiskLayout}
use Rattle.recovery.specs.Keeps.{Keeps}
use Rattle.recovery.specs.PageMap.{PageMap, View, block_at}
use Rattle.recovery.specs.PageOrder.{AreInOrder, IsIndexInOrder, IsOfTuples, empty_page, kind_of, map_pages}
use Rattle.index_contents.specs.IndexContents.{index_page, relation_of}
use Rattle.index_contents.specs.PageLaws.{StayBeside}
use Rattle.index_contents.specs.KeepsOrder.{HasTuples, KeepsOrder, StandFirst}

-- What the page that changes has to be then: started, behind pages that all are; behind the map one of tuples, or on the next block an empty
-- one of the map.
record StandsWell (limit block : ℕ) (page after : ℕ → List ℕ) : Type 0 where
  inside : 0 < block
  started : kind_of (after block) ≢ 0
  first : StandFirst page block
  counted : block ≤ map_pages (page 0) → kind_of (after block) ≡ 4
  behind : map_pages (page 0) < block → IsOfTuples (after block)

-- a kind that is this one is no other
apart : (kind this other : ℕ) → kind ≡ this → this ≢ other → kind ≢ other
apart kind this other is not same = not (sym is ∙ same)

module _ (limit block : ℕ) (page after : ℕ → List ℕ) (order : IsIndexInOrder limit page) (stay : StayBeside block page after) (well : StandsWell limit block page after) where
  meta_stays : after 0 ≡ page 0
  meta_stays = stay 0 (λ (is : 0 ≡ block). absurd (omega (arith, is, well.inside)))

  maps_stay : map_pages (after 0) ≡ map_pages (page 0)
  maps_stay = ap map_pages meta_stays

  kind_stays : (b : ℕ) → b ≢ block → kind_of (after b) ≡ kind_of (page b)
  kind_stays b other = ap kind_of (stay b other)

  first_after : (before b : ℕ) → before < b → b < limit → kind_of (after b) ≢ 0 → kind_of (after before) ≢ 0
  first_after before b less below started = elim (cases_eq before block) [
    | inl is ↦ λ (zero : kind_of (after before) ≡ 0). well.started (ap (λ (n : ℕ). kind_of (after n)) (sym is) ∙ zero)
    | inr other ↦ elim (cases_eq b block) [
      | inl at ↦ λ (zero : kind_of (after before) ≡ 0). well.first before (omega (arith, less, at)) (sym (kind_stays before other) ∙ zero)
      | inr beside ↦ λ (zero : kind_of (after before) ≡ 0). order.first before b less below (λ (none : kind_of (page b) ≡ 0). started (kind_stays b beside ∙ none)) (sym (kind_stays before other) ∙ zero)
    ]
  ]

  maps_after : (b : ℕ) → 1 ≤ b → b ≤ map_pages (after 0) → kind_of (after b) ≡ 4
  maps_after b some within = elim (cases_eq b block) [
    | inl is ↦ ap (λ (n : ℕ). kind_of (after n)) is ∙ well.counted (omega (arith, within, maps_stay, is))
    | inr other ↦ kind_stays b other ∙ order.maps b some (omega (arith, within, maps_stay))
  ]

  next_after : map_pages (after 0) + 1 < limit → IsOfTuples (after (map_pages (after 0) + 1)) ⊎ (after (map_pages (after 0) + 1) ≡ empty_page 4)
  next_after low = subst (λ (n : ℕ). n + 1 < limit → IsOfTuples (after (n + 1)) ⊎ (after (n + 1) ≡ empty_page 4)) (sym maps_stay) next_there low
    where
      next_there : map_pages (page 0) + 1 < limit → IsOfTuples (after (map_pages (page 0) + 1)) ⊎ (after (map_pages (page 0) + 1) ≡ empty_page 4)
      next_there below = elim (cases_eq (map_pages (page 0) + 1) block) [
        | inl is ↦ inl (subst (λ (n : ℕ). IsOfTuples (after n)) (sym is) (well.behind (omega (arith, is))))
        | inr other ↦ subst (λ (p : List ℕ). IsOfTuples p ⊎ (p ≡ empty_page 4)) (sym (stay (map_pages (page 0) + 1) other)) (order.next below)
      ]

  others_after : (b : ℕ) → map_pages (after 0) + 1 < b → b < limit → IsOfTuples (after b)
  others_after b behind below = elim (cases_eq b block) [
    | inl is ↦ subst (λ (n : ℕ). IsOfTuples (after n)) (sym is) (well.behind (omega (arith, behind, maps_stay, is)))
    | inr other ↦ subst IsOfTuples (sym (stay b other)) (order.others b (omega (arith, behind, maps_stay)) below)
  ]

  in_order_after : IsIndexInOrder limit after
  in_order_after = record {
    first = first_after;
    metapage = ap kind_of meta_stays ∙ order.metapage;
    some_map = omega (arith, order.some_map, maps_stay);
    few_maps = omega (arith, order.few_maps, maps_stay);
    maps = maps_after;
    next = next_after;
    others = others_after;
  }

-- a page of tuples is no page of the map, no metapage, and started
tuples_apart : (page : List ℕ) (kind : ℕ) → kind ≢ 5 → kind ≢ 6 → HasTuples page → kind_of page ≢ kind
tuples_apart page kind five six has is = elim has [
  | inl at ↦ five (sym is ∙ at)
  | inr at ↦ six (sym is ∙ at)
]

of_tuples : (page : List ℕ) → HasTuples page → IsOfTuples page
of_tuples page has = elim has [
  | inl at ↦ inl at
  | inr at ↦ inr (inl at)
]

-- a page that isn't the metapage stands behind it
behind_meta : (limit block : ℕ) (page : ℕ → List ℕ) → IsIndexInOrder limit page → kind_of (page block) ≢ 3 → 0 < block
behind_meta limit block page order other = elim (cases_eq block 0) [
  | inl is ↦ absurd (other (ap (λ (n : ℕ). kind_of (page n)) is ∙ order.metapage))
  | inr some ↦ omega (arith, some)
]

-- nor one that isn't of the map among those that are counted
not_counted : (limit block : ℕ) (page : ℕ → List ℕ) → IsIndexInOrder limit page → 0 < block → kind_of (page block) ≢ 4 → {P : Type 0} → block ≤ map_pages (page 0) → P
not_counted limit block page order some other within = absurd (other (order.maps block some within))

pub order_by_tuples : (limit block : ℕ) (page after : ℕ → List ℕ) → IsIndexInOrder limit page → StayBeside block page after → block < limit → HasTuples (page block) → HasTuples (after block) → IsIndexInOrder limit after
order_by_tuples limit block page after order stay below was now =
    let some : 0 < block = behind_meta limit block page order (tuples_apart (page block) 3 (λ e. absurd (omega (arith, e))) (λ e. absurd (omega (arith, e))) was) in
    in_order_after limit block page after order stay (record {
      inside = some;
      started = tuples_apart (after block) 0 (λ e. absurd (omega (arith, e))) (λ e. absurd (omega (arith, e))) now;
      first = λ before less. order.first before block less below (tuples_apart (page block) 0 (λ e. absurd (omega (arith, e))) (λ e. absurd (omega (arith, e))) was);
      counted = λ within. absurd (tuples_apart (page block) 4 (λ e. absurd (omega (arith, e))) (λ e. absurd (omega (arith, e))) was (order.maps block some within));
      behind = λ behind. of_tuples (after block) now;
    })

pub order_by_new_page : (limit block : ℕ) (page after : ℕ → List ℕ) → IsIndexInOrder limit page → StayBeside block page after → block < limit → kind_of (page block) ≡ 0 → StandFirst page block → kind_of (after block) ≡ 5 → IsIndexInOrder limit after
order_by_new_page limit block page after order stay below none first now =
    let some : 0 < block = behind_meta limit block page order (apart (kind_of (page block)) 0 3 none (λ e. absurd (omega (arith, e)))) in
    in_order_after limit block page after order stay (record {
      inside = some;
      started = apart (kind_of (after block)) 5 0 now (λ e. absurd (omega (arith, e)));
      first = first;
      counted = λ within. absurd (apart (kind_of (page block)) 0 4 none (λ e. absurd (omega (arith, e))) (order.maps block some within));
      behind = λ behind. inl now;
    })

-- the metapage and the counted pages of the map are started
counted_started : (limit block : ℕ) (page : ℕ → List ℕ) → IsIndexInOrder limit page → block ≤ map_pages (page 0) → kind_of (page block) ≢ 0
counted_started limit block page order within = elim (cases_eq block 0) [
  | inl is ↦ λ (zero : kind_of (page block) ≡ 0). absurd (omega (arith, sym order.metapage ∙ sym (ap (λ (n : ℕ). kind_of (page n)) is) ∙ zero))
  | inr some ↦ apart (kind_of (page block)) 4 0 (order.maps block (omega (arith, some)) within) (λ e. absurd (omega (arith, e)))
]

pub order_by_entries : (limit block : ℕ) (page after : ℕ → List ℕ) → IsIndexInOrder limit page → StayBeside block page after → 1 ≤ block → block ≤ map_pages (page 0) → kind_of (after block) ≡ 4 → IsIndexInOrder limit after
order_by_entries limit block page after order stay some within now = in_order_after limit block page after order stay (record {
  inside = some;
  started = apart (kind_of (after block)) 4 0 now (λ e. absurd (omega (arith, e)));
  first = λ before less. counted_started limit before page order (omega (arith, less, within));
  counted = λ less. now;
  behind = λ behind. absurd (omega (arith, behind, within));
})

pub order_of_index : (layout : DiskLayout) (pages : PageMap) (index : ℕ) → AreInOrder layout pages → index < length layout.schema.indexes → IsIndexInOrder layout.sizes.index_blocks (index_page layout pages index)
order_of_index layout pages index order low =
    let same : 1 + length layout.schema.tables + index ≡ relation_of layout index = omega arith in
    subst (λ (r : ℕ). IsIndexInOrder layout.sizes.index_blocks (block_at pages r)) same (order.indexes index low)

-- a call that changes no page keeps the order
pub order_kept : {D : Type 0} (told : D → Told) (index : ℕ) (old new : View D) → Keeps told old new → KeepsOrder told index old new
order_kept told index old new kept tells order = subst (λ (pages : PageMap). IsIndexInOrder old.layout.sizes.index_blocks (index_page old.layout pages index)) (sym (kept.pages tells)) order

-- two calls that keep it do
pub order_then : {D : Type 0} (told : D → Told) (index : ℕ) (old mid new : View D) → Keeps told old mid → KeepsOrder told index mid new → KeepsOrder told index old new
order_then told index old mid new kept then tells order =
    subst (λ (l : DiskLayout). IsIndexInOrder l.sizes.index_blocks (index_page l new.pages index)) kept.leaves.layout
    (then (kept.leaves.tells ∙ tells) (subst (λ (l : DiskLayout). IsIndexInOrder l.sizes.index_blocks (index_page l mid.pages index)) (sym kept.leaves.layout) (order_kept told index old mid kept tells order)))
