-- The pages of an index in order, as the protocol of coverage sees them.
use Rattle.std.proofs.Common.{◌≡◌, ◌≢◌, inl, inr, ℕ, zero, suc, ◌+◌, ◌<◌, ◌≤◌, Bool, true, false, List, [], None, Some, refl, sym, ap, ◌∙◌, arith}
use Rattle.std.specs.Prelude.{◌⊎◌, drop, slice_index, slice_index_or, if◌then◌else◌, ◌==◌}
use Rattle.std.proofs.lemmas.Bool.{cases_eq, cases_lt, eqb-true, lt-leb, or_cases}
use Rattle.std.proofs.lemmas.Option.{none-some}
use Rattle.block_model.specs.declared.place.Spot.{Spot}
use Rattle.index_contents.specs.TheConstants.{EVACUATED, MAP, REGULAR, UNSTARTED}
use Rattle.index_contents.specs.IndexReading.{is_regular, map_pages_of, number_at, slots_in, slots_of}
use Rattle.recovery.specs.PageOrder.{IsIndexInOrder, IsOfTuples, kind_of, map_pages}
use Rattle.coverage.specs.IndexView.{Emptying, Mapping, PageKind, Regular, Unstarted, map_page_of, next_map_page}
use Rattle.coverage.specs.PageOrder.{IsForTuples}
use Rattle.index_contents.specs.IndexContents.{IndexContents, contents_in, entry_on, kind_at, map_kind, tuple_on}
use Rattle.index_contents.specs.Kinds.{is_map_page, is_unstarted_page, regular_page, unstarted_page_kind}
use Rattle.index_contents.specs.Reading.{map_byte}
use Rattle.index_steps.proofs.Ordered.{count_read}

-- the order of an index's pages, with its tuples and entries where they belong
pub record HasOrder (c : IndexContents) : Type 0 where
  pub counted : 0 < c.pages.map_pages
  pub map : (p : ℕ) → p ≤ c.pages.map_pages → c.pages.kind p ≡ Mapping
  pub left_over : (p : ℕ) → c.pages.kind p ≡ Mapping → p ≤ next_map_page c.pages
  pub started : (p q : ℕ) → p < q → c.pages.kind p ≡ Unstarted → c.pages.kind q ≡ Unstarted
  pub below : (p : ℕ) → c.pages.kind p ≢ Unstarted → p < c.pages.limit
  pub tuples : (x : Spot) (bytes : List ℕ) → c.bytes x ≡ Some bytes → IsForTuples c.pages x.block
  pub entries : (range : ℕ) (x : Spot) → c.entry range ≡ Some x → map_page_of range ≤ c.pages.map_pages

-- a page without tuples has none
pub no_tuple_on : (page : List ℕ) (kind slot : ℕ) → slice_index page 0 ≡ kind → is_regular kind ≡ false → tuple_on page slot ≡ None
unfolding slots_of
no_tuple_on page kind slot is other =
    ap (λ (k : ℕ). slice_index_or (if is_regular k then slots_in page (number_at page 2 2) (drop 32 page) else []) slot None) is
    ∙ ap (λ (b : Bool). slice_index_or (if b then slots_in page (number_at page 2 2) (drop 32 page) else []) slot None) other

has_tuples : (page : List ℕ) (slot : ℕ) (bytes : List ℕ) → tuple_on page slot ≡ Some bytes → (kind_of page ≡ REGULAR) ⊎ (kind_of page ≡ EVACUATED)
has_tuples page slot bytes there = go (is_regular (kind_of page)) refl
  where
    go : (b : Bool) → is_regular (kind_of page) ≡ b → (kind_of page ≡ REGULAR) ⊎ (kind_of page ≡ EVACUATED)
    go false other = absurd (none-some bytes (sym (no_tuple_on page (kind_of page) slot refl other) ∙ there))
    go true is = elim (or_cases _ _ is) [ inl regular ↦ inl (eqb-true (kind_of page) REGULAR regular) | inr emptying ↦ inr (eqb-true (kind_of page) EVACUATED emptying) ]

-- a page behind the metapage
later : (block : ℕ) → map_kind (suc block) ≡ MAP
later block = let next : suc block ≡ block + 1 = omega arith in ap map_kind next ∙ map_byte block

-- the kind that a byte says, by that of the map's pages there
abbrev kind_by : ℕ → ℕ → PageKind
kind_by map kind = if kind == REGULAR then Regular else (if kind == UNSTARTED then Unstarted else (if kind == map then Mapping else Emptying))

emptying_kind : (block kind : ℕ) → kind ≡ EVACUATED → kind_at block kind ≡ Emptying
emptying_kind zero kind is = ap (kind_at zero) is
emptying_kind (suc block) kind is = ap (kind_at (suc block)) is ∙ ap (λ (map : ℕ). kind_by map EVACUATED) (later block)

mapping_kind : (block kind : ℕ) → kind ≡ map_kind block → kind_at block kind ≡ Mapping
mapping_kind zero kind is = ap (kind_at zero) is
mapping_kind (suc block) kind is = ap (kind_at (suc block)) (is ∙ later block) ∙ ap (λ (map : ℕ). kind_by map MAP) (later block)

no_map : (page : List ℕ) → IsOfTuples page → kind_of page ≡ 4 → ⊥
no_map page (inl five) is = omega (arith, sym five ∙ is)
no_map page (inr (inl six)) is = omega (arith, sym six ∙ is)
no_map page (inr (inr none)) is = omega (arith, sym none ∙ is)

module _ (limit : ℕ) (page : ℕ → List ℕ) (order : IsIndexInOrder limit page) (past : (block : ℕ) → limit ≤ block → kind_of (page block) ≡ 0) where
  maps : map_pages_of (page 0) ≡ map_pages (page 0)
  maps = count_read (page 0) order.metapage

  of_map : (p : ℕ) → p ≤ map_pages_of (page 0) → kind_at p (kind_of (page p)) ≡ Mapping
  of_map zero within = mapping_kind zero (kind_of (page zero)) order.metapage
  of_map (suc p) within = mapping_kind (suc p) (kind_of (page (suc p))) (order.maps (suc p) (omega arith) (omega (arith, within, maps)) ∙ sym (later p))

  map_behind : (p : ℕ) → kind_at p (kind_of (page p)) ≡ Mapping → p ≤ map_pages_of (page 0) + 1
  map_behind zero is = omega arith
  map_behind (suc p) is =
      let four : kind_of (page (suc p)) ≡ 4 = is_map_page (suc p) (kind_of (page (suc p))) is ∙ later p in
      elim (cases_lt (map_pages_of (page 0) + 1) (suc p)) [
        | inl behind ↦ elim (cases_lt (suc p) limit) [
          | inl low ↦ absurd (no_map (page (suc p)) (order.others (suc p) (omega (arith, behind, maps)) low) four)
          | inr out ↦ absurd (omega (arith, sym four ∙ past (suc p) out))
        ]
        | inr within ↦ within
      ]

  unstarted_on : (p q : ℕ) → p < q → kind_at p (kind_of (page p)) ≡ Unstarted → kind_at q (kind_of (page q)) ≡ Unstarted
  unstarted_on p q lower is = elim (cases_eq (kind_of (page q)) 0) [
    | inl none ↦ unstarted_page_kind q (kind_of (page q)) none
    | inr some ↦ elim (cases_lt q limit) [
      | inl low ↦ absurd (order.first p q lower low some (is_unstarted_page p (kind_of (page p)) is))
      | inr out ↦ absurd (some (past q out))
    ]
  ]

  started_below : (p : ℕ) → kind_at p (kind_of (page p)) ≢ Unstarted → p < limit
  started_below p some = elim (cases_lt p limit) [ inl low ↦ low | inr out ↦ absurd (some (unstarted_page_kind p (kind_of (page p)) (past p out))) ]

  for_tuples : (block slot : ℕ) (bytes : List ℕ) → tuple_on (page block) slot ≡ Some bytes → IsForTuples (contents_in limit page).pages block
  for_tuples block slot bytes there = elim (has_tuples (page block) slot bytes there) [
    | inl regular ↦ inl (regular_page block (kind_of (page block)) regular)
    | inr emptying ↦ inr (emptying_kind block (kind_of (page block)) emptying)
  ]

  entry_counted : (range : ℕ) (x : Spot) → (contents_in limit page).entry range ≡ Some x → map_page_of range ≤ map_pages_of (page 0)
  entry_counted range x is = elim (cases_lt (map_pages_of (page 0)) (map_page_of range)) [
    | inl beyond ↦ absurd (none-some x (sym (ap (λ (b : Bool). if b then entry_on (page (map_page_of range)) range else None) (lt-leb (map_page_of range) (map_pages_of (page 0)) beyond)) ∙ is))
    | inr within ↦ within
  ]

  pub in_order : HasOrder (contents_in limit page)
  in_order = record {
    counted = omega (arith, maps, order.some_map);
    map = of_map;
    left_over = map_behind;
    started = unstarted_on;
    below = started_below;
    tuples = λ x bytes there. for_tuples x.block x.slot bytes there;
    entries = entry_counted;
  }
