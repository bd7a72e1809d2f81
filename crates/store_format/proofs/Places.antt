-- pages of a new store, place by place
use Rattle.std.proofs.Common.{◌≡◌, ◌≢◌, ◌⊎◌, inl, inr, ⊎_elim, ℕ, zero, suc, ◌+◌, ◌<◌, ◌≤◌, nat_le, List, [], ◌∷◌, ◌++◌, length, map, take, get_or, refl, sym, ◌∙◌, ap, subst, arith}
use Rattle.std.specs.Prelude.{slice_index, set, replicate, Bool, ◌==◌, if◌then◌else◌, None}
use Rattle.std.proofs.lemmas.Bool.{cases_eq, cases_lt, eq-eqb, ne_eqb, le-leb, lt-leb}
use Rattle.std.proofs.lemmas.List.{set_split, length-replicate, drop-replicate, replicate-append-replicate}
use Rattle.block_model.specs.declared.place.Place.{Place}
use Rattle.byte_fields.specs.Fields.{field_at}
use Rattle.store_layout.specs.DiskLayout.{DiskLayout, IsPlace, relation_blocks, page_offset, first_offset, disk_size}
use Rattle.store_layout.specs.PagesFillDisk.{PagesFillDisk}
use Rattle.disk_trait.specs.Spliced.{spliced}
use Rattle.disk_trait.specs.Torn.{Torn}
use Rattle.disk_trait.specs.RangeLaws.{torn_apart}
use Rattle.store_format.specs.FreshStore.{HasFreshPage, fresh_page, fresh_index_page, unused_statuses, unstarted_page}
use Rattle.index_layout.specs.declared.format.TheConstants.{MAP_ENTRIES}
use Rattle.index_layout.specs.IndexPages.{meta_bytes, map_bytes}
use Rattle.store_format.specs.Blank.{Freshens, HasFreshPages}
use Rattle.store_format.proofs.Lists.{spliced_field, same_front}

same_place : (p q : Place) → (q ≡ p) ⊎ (q ≢ p)
same_place p q = elim (cases_eq q.relation p.relation) [
  | inl r ↦ elim (cases_eq q.block p.block) [
    | inl b ↦ inl (λ i. record { relation = r i; block = b i })
    | inr other ↦ inr (λ e. other (ap (λ (x : Place). x.block) e))
  ]
  | inr other ↦ inr (λ e. other (ap (λ (x : Place). x.relation) e))
]

-- a page was torn, at a place that is written another way
pub torn_page : (at from : ℕ) (page old new : List ℕ) → from ≡ at → length page ≡ 8192 → Torn from (length page) old new → Torn at 8192 old new
torn_page at from page old new place long torn =
    subst (λ (n : ℕ). Torn n 8192 old new) place (subst (λ (n : ℕ). Torn from n old new) long torn)

module _ (layout : DiskLayout) where
  -- the page of a place was written
  pub page_written : PagesFillDisk layout → (place : Place) → IsPlace layout place → (page old new : List ℕ) → page ≡ fresh_page layout place → length page ≡ 8192
      → length old ≡ disk_size layout → new ≡ spliced old (page_offset layout place) page → Torn (page_offset layout place) 8192 old new → Freshens layout (λ (other : Place). other ≡ place) old new
  page_written fill place is page old new fresh long size written torn other there which = elim (same_place place other) [
    | inl e ↦
        subst (λ (p : Place). HasFreshPage layout new p) (sym e)
        (ap (λ (l : List ℕ). field_at l (page_offset layout place) 8192) written
        ∙ ap (λ (n : ℕ). field_at (spliced old (page_offset layout place) page) (page_offset layout place) n) (sym long)
        ∙ spliced_field old (page_offset layout place) page (omega (arith, long, size, fill.ends place is))
        ∙ fresh)
    | inr differs ↦
        ⊎_elim (λ e. absurd (differs e))
        (λ kept. torn_apart (page_offset layout other) 8192 (page_offset layout place) 8192 old new (fill.disjoint other place there is differs) torn ∙ kept) which
  ]

  pub front_kept : PagesFillDisk layout → (place : Place) → IsPlace layout place → (old new : List ℕ) → Torn (page_offset layout place) 8192 old new → take (first_offset layout) new ≡ take (first_offset layout) old
  front_kept fill place is old new torn = same_front (first_offset layout) (page_offset layout place) new old (fill.begins place is) torn.before

  -- some pages, and then others
  pub freshens_on : (P Q R : Place → Type 0) (a b c : List ℕ) → ((p : Place) → IsPlace layout p → R p → P p ⊎ Q p) → Freshens layout P a b → Freshens layout Q b c → Freshens layout R a c
  freshens_on P Q R a b c split one two p is which =
      ⊎_elim
      (λ r. ⊎_elim (λ first. two p is (inr (one p is (inl first)))) (λ second. two p is (inl second)) (split p is r))
      (λ was. two p is (inr (one p is (inr was)))) which

  -- no page, at first
  pub freshens_none : (P : Place → Type 0) (a : List ℕ) → ((p : Place) → IsPlace layout p → P p → ⊥) → Freshens layout P a a
  freshens_none P a none p is which = ⊎_elim (λ r. absurd (none p is r)) (λ was. was) which

  pub freshens_more : (P R : Place → Type 0) (a b : List ℕ) → ((p : Place) → IsPlace layout p → R p → P p) → Freshens layout P a b → Freshens layout R a b
  freshens_more P R a b more one p is which = one p is (⊎_elim (λ r. inl (more p is r)) (λ was. inr was) which)

  -- the blocks of a relation below one, and that one
  abbrev pub InFront : ℕ → ℕ → Place → Type 0
  InFront relation block place = (place.relation ≡ relation) × (place.block < block)

  next_block : (relation block : ℕ) (p : Place) → InFront relation (block + 1) p → InFront relation block p ⊎ (p ≡ record { relation = relation; block = block })
  next_block relation block p front = elim (cases_lt p.block block) [
    | inl below ↦ inl (front.0, below)
    | inr past ↦ let same : p.block ≡ block = omega (arith, past, front.1) in inr (λ i. record { relation = front.0 i; block = same i })
  ]

  pub block_more : (relation block : ℕ) (a b c : List ℕ) → Freshens layout (InFront relation block) a b → Freshens layout (λ (p : Place). p ≡ record { relation = relation; block = block }) b c → Freshens layout (InFront relation (block + 1)) a c
  block_more relation block a b c =
      freshens_on (InFront relation block) (λ (p : Place). p ≡ record { relation = relation; block = block }) (InFront relation (block + 1)) a b c (λ p is front. next_block relation block p front)

  pub in_relation : (relation count : ℕ) → slice_index (relation_blocks layout) relation ≤ count → (p : Place) → IsPlace layout p → p.relation ≡ relation → InFront relation count p
  in_relation relation count enough p is same =
      (same, let here : p.block < slice_index (relation_blocks layout) relation = subst (λ (r : ℕ). p.block < slice_index (relation_blocks layout) r) same is.block in omega (arith, here, enough))

  next_relation : (relation : ℕ) (p : Place) → p.relation < relation + 1 → (p.relation < relation) ⊎ (p.relation ≡ relation)
  next_relation relation p below = elim (cases_lt p.relation relation) [
    | inl front ↦ inl front
    | inr past ↦ inr (omega (arith, past, below))
  ]

  pub relation_more : (relation : ℕ) (a b c : List ℕ) → Freshens layout (λ (p : Place). p.relation < relation) a b → Freshens layout (λ (p : Place). p.relation ≡ relation) b c → Freshens layout (λ (p : Place). p.relation < relation + 1) a c
  relation_more relation a b c =
      freshens_on (λ (p : Place). p.relation < relation) (λ (p : Place). p.relation ≡ relation) (λ (p : Place). p.relation < relation + 1) a b c (λ p is below. next_relation relation p below)

  -- all relations
  pub all_fresh : (count : ℕ) (a b : List ℕ) → length (relation_blocks layout) ≤ count → Freshens layout (λ (p : Place). p.relation < count) a b → HasFreshPages layout b
  all_fresh count a b enough one p is = one p is (inl (omega (arith, enough, is.relation)))

-- a page of zeros becomes one of statuses
pub status_made : (page : List ℕ) → page ≡ replicate 8192 0 → set page 0 1 ≡ unused_statuses
unfolding unused_statuses
status_made page is =
    ap (λ (l : List ℕ). set l 0 1) is
    ∙ set_split (replicate 8192 0) 0 1 (omega (arith, length-replicate {A = ℕ} 8192 0))
    ∙ ap (λ (l : List ℕ). 1 ∷ l) (drop-replicate 1 8192 0 ∙ sym (replicate-append-replicate 31 8160 0))

-- which page a new store has at a place
pub fresh_status : (layout : DiskLayout) (place : Place) → place.relation ≡ 0 → fresh_page layout place ≡ unused_statuses
fresh_status layout place is =
    ap (λ (b : Bool). if b then unused_statuses else (if nat_le place.relation (length layout.schema.tables) then unstarted_page else fresh_index_page place.block)) (eq-eqb place.relation 0 is)

-- behind the statuses
behind_statuses : (layout : DiskLayout) (place : Place) → (place.relation ≡ 0 → ⊥) → fresh_page layout place ≡ (if nat_le place.relation (length layout.schema.tables) then unstarted_page else fresh_index_page place.block)
behind_statuses layout place other =
    ap (λ (b : Bool). if b then unused_statuses else (if nat_le place.relation (length layout.schema.tables) then unstarted_page else fresh_index_page place.block)) (ne_eqb place.relation 0 other)

pub fresh_table : (layout : DiskLayout) (place : Place) → (place.relation ≡ 0 → ⊥) → place.relation ≤ length layout.schema.tables → fresh_page layout place ≡ unstarted_page
fresh_table layout place other low =
    behind_statuses layout place other ∙ ap (λ (b : Bool). if b then unstarted_page else fresh_index_page place.block) (le-leb place.relation (length layout.schema.tables) low)

pub fresh_index : (layout : DiskLayout) (place : Place) → length layout.schema.tables < place.relation → fresh_page layout place ≡ fresh_index_page place.block
fresh_index layout place past =
    behind_statuses layout place (λ e. absurd (omega (arith, past, e)))
    ∙ ap (λ (b : Bool). if b then unstarted_page else fresh_index_page place.block) (lt-leb place.relation (length layout.schema.tables) past)

pub index_others : (block : ℕ) → (block ≡ 0 → ⊥) → (block ≡ 1 → ⊥) → fresh_index_page block ≡ unstarted_page
index_others block first second =
    ap (λ (b : Bool). if b then meta_bytes 1 else (if block == 1 then map_bytes (replicate MAP_ENTRIES None) else unstarted_page)) (ne_eqb block 0 first)
    ∙ ap (λ (b : Bool). if b then map_bytes (replicate MAP_ENTRIES None) else unstarted_page) (ne_eqb block 1 second)
