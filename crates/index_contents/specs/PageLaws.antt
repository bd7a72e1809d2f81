-- what a change of one page of an index makes of what the index has
use Rattle.std.specs.Prelude.{◌≡◌, ◌≢◌, ◌⊎◌, ℕ, ◌%◌, ◌==◌, ◌≤◌, ◌<◌, nat_le, Bool, false, List, [], drop, length, slice_index, slice_index_or, Option, None, Some, if◌then◌else◌}
use Rattle.std.proofs.Common.{inl, inr, refl, sym, ap, ◌∙◌, arith}
use Rattle.std.proofs.lemmas.Bool.{cases_eq, cases_lt}
use Rattle.block_model.specs.declared.place.Place.{Place}
use Rattle.block_model.specs.declared.place.Spot.{Spot}
use Rattle.store_layout.specs.DiskLayout.{DiskLayout}
use Rattle.disk_trait.specs.Told.{Told}
use Rattle.recovery.specs.Keeps.{Tells}
use Rattle.recovery.specs.PageMap.{View}
use Rattle.index_layout.specs.declared.format.TheConstants.{META, MAP, MAP_ENTRIES}
use Rattle.index_layout.specs.IndexPages.{Slot}
use Rattle.index_layout.specs.IndexReading.{entries_in, entries_of, map_pages_of, number_at}
use Rattle.coverage.specs.IndexView.{PageKind, Regular, map_page_of}
use Rattle.coverage.specs.Rooms.{place_room}
use Rattle.coverage.specs.Steps.{TurnsPage}
use Rattle.index_contents.specs.IndexContents.{contents, contents_in, entry_in, entry_on, index_page, kind_at, pages_in, relation_of, tuple_on}
use Rattle.index_contents.specs.IndexChanges.{DropsBytes, LeavesOtherPages, LeavesOthers, PutsBytes, ReplacesBytes}

-- every page but the one of this block is as before
abbrev pub StayBeside : ℕ → (ℕ → List ℕ) → (ℕ → List ℕ) → Type 0
StayBeside block old new = (other : ℕ) → other ≢ block → new other ≡ old other

-- a page says nothing of the map
pub record IsNoMap (page : List ℕ) : Type 0 where
  pub entries : entries_of page ≡ []
  pub pages : map_pages_of page ≡ 0

-- one slot of a page has this now, and the others have what they had
pub record ChangesSlot (old new : List ℕ) (slot : ℕ) (tuple : Slot) : Type 0 where
  pub now : tuple_on new slot ≡ tuple
  pub others : (n : ℕ) → n ≢ slot → tuple_on new n ≡ tuple_on old n

-- a page of a kind of no map page says nothing of it
pub no_map : (page : List ℕ) (kind : ℕ) → slice_index page 0 ≡ kind → (kind == MAP) ≡ false → (kind == META) ≡ false → IsNoMap page
unfolding entries_of map_pages_of
no_map page kind is map meta = record {
  entries = ap (λ (b : Bool). if b then entries_in MAP_ENTRIES (drop 32 page) else []) (ap (λ (k : ℕ). k == MAP) is ∙ map);
  pages = ap (λ (b : Bool). if b then number_at page 32 4 else 0) (ap (λ (k : ℕ). k == META) is ∙ meta);
}

-- the map stays where the page said nothing of it, and says nothing
pub counts_stay : (f g : ℕ → List ℕ) (block : ℕ) → StayBeside block f g → IsNoMap (f block) → IsNoMap (g block) → map_pages_of (g 0) ≡ map_pages_of (f 0)
counts_stay f g block stay before after = elim (cases_eq 0 block) [
  | inl at ↦ ap (λ (b : ℕ). map_pages_of (g b)) at ∙ after.pages ∙ sym before.pages ∙ sym (ap (λ (b : ℕ). map_pages_of (f b)) at)
  | inr apart ↦ ap map_pages_of (stay 0 apart)
]

pub entry_stays : (f g : ℕ → List ℕ) (block other range : ℕ) → StayBeside block f g → IsNoMap (f block) → IsNoMap (g block) → entry_on (g other) range ≡ entry_on (f other) range
entry_stays f g block other range stay before after = elim (cases_eq other block) [
  | inl at ↦ ap (λ (b : ℕ). entry_on (g b) range) at ∙ ap (λ (l : List (Option Spot)). slice_index_or l (range % MAP_ENTRIES) None) (after.entries ∙ sym before.entries) ∙ sym (ap (λ (b : ℕ). entry_on (f b) range) at)
  | inr apart ↦ ap (λ (p : List ℕ). entry_on p range) (stay other apart)
]

pub entries_stay : (f g : ℕ → List ℕ) (block range : ℕ) → StayBeside block f g → IsNoMap (f block) → IsNoMap (g block) → entry_in g range ≡ entry_in f range
entries_stay f g block range stay before after =
    ap (λ (m : ℕ). if nat_le (map_page_of range) m then entry_on (g (map_page_of range)) range else None) (counts_stay f g block stay before after)
    ∙ ap (λ (e : Option Spot). if nat_le (map_page_of range) (map_pages_of (f 0)) then e else None) (entry_stays f g block (map_page_of range) range stay before after)

-- the tuples of the other spots stay
pub others_stay : (f g : ℕ → List ℕ) (x y : Spot) (now : Slot) → StayBeside x.block f g → ChangesSlot (f x.block) (g x.block) x.slot now → (y ≡ x) ⊎ (tuple_on (g y.block) y.slot ≡ tuple_on (f y.block) y.slot)
others_stay f g x y now stay changes = elim (cases_eq y.block x.block) [
  | inl block ↦ elim (cases_eq y.slot x.slot) [
    | inl slot ↦ inl (λ i. record { block = block i; slot = slot i })
    | inr apart ↦ inr (ap (λ (b : ℕ). tuple_on (g b) y.slot) block ∙ changes.others y.slot apart ∙ sym (ap (λ (b : ℕ). tuple_on (f b) y.slot) block))
  ]
  | inr apart ↦ inr (ap (λ (p : List ℕ). tuple_on p y.slot) (stay y.block apart))
]

-- the page is of this kind, and the others stay
pub turns : (limit : ℕ) (f g : ℕ → List ℕ) (block : ℕ) (kind : PageKind) → StayBeside block f g → map_pages_of (g 0) ≡ map_pages_of (f 0) → kind_at block (slice_index (g block) 0) ≡ kind → TurnsPage (pages_in limit f) (pages_in limit g) block kind
turns limit f g block kind stay counts is = record {
  now = is;
  kinds = λ p. elim (cases_eq p block) [
    | inl at ↦ inl at
    | inr apart ↦ inr (ap (λ (page : List ℕ). kind_at p (slice_index page 0)) (stay p apart))
  ];
  map_pages = counts;
  limit = refl;
}

-- bytes come to the lowest free slot of a page, which takes tuples then
pub puts_bytes : (limit : ℕ) (f g : ℕ → List ℕ) (x : Spot) (bytes : List ℕ) → StayBeside x.block f g → IsNoMap (f x.block) → IsNoMap (g x.block) → kind_at x.block (slice_index (g x.block) 0) ≡ Regular
    → tuple_on (f x.block) x.slot ≡ None → ((n : ℕ) → n < x.slot → tuple_on (f x.block) n ≢ None) → ChangesSlot (f x.block) (g x.block) x.slot (Some bytes) → PutsBytes (contents_in limit f) (contents_in limit g) x bytes
puts_bytes limit f g x bytes stay before after kind free lower changes = record {
  lowest = (
    free,
    λ n is. elim (cases_lt n x.slot) [
      | inl below ↦ absurd (lower n below is)
      | inr above ↦ above
    ],
  );
  bytes = record { was = free; now = changes.now; others = λ y. others_stay f g x y (Some bytes) stay changes };
  entries = λ range. entries_stay f g x.block range stay before after;
  page = turns limit f g x.block Regular stay (counts_stay f g x.block stay before after) kind;
}

-- bytes give way to others
pub replaces_bytes : (limit : ℕ) (f g : ℕ → List ℕ) (x : Spot) (old new : List ℕ) → StayBeside x.block f g → IsNoMap (f x.block) → IsNoMap (g x.block) → kind_at x.block (slice_index (f x.block) 0) ≡ Regular → kind_at x.block (slice_index (g x.block) 0) ≡ Regular
    → length new ≤ place_room (contents_in limit f).bytes x → tuple_on (f x.block) x.slot ≡ Some old → ChangesSlot (f x.block) (g x.block) x.slot (Some new) → ReplacesBytes (contents_in limit f) (contents_in limit g) x old new
replaces_bytes limit f g x old new stay before after was kind fits stood changes = record {
  regular = was;
  fits = fits;
  bytes = record { was = stood; now = changes.now; others = λ y. others_stay f g x y (Some new) stay changes };
  entries = λ range. entries_stay f g x.block range stay before after;
  page = turns limit f g x.block Regular stay (counts_stay f g x.block stay before after) kind;
}

-- and they go
pub drops_bytes : (limit : ℕ) (f g : ℕ → List ℕ) (x : Spot) → StayBeside x.block f g → IsNoMap (f x.block) → IsNoMap (g x.block) → slice_index (g x.block) 0 ≡ slice_index (f x.block) 0
    → ChangesSlot (f x.block) (g x.block) x.slot None → DropsBytes (contents_in limit f) (contents_in limit g) x
drops_bytes limit f g x stay before after kind changes = record {
  bytes = record { now = changes.now; others = λ y. others_stay f g x y None stay changes };
  entries = λ range. entries_stay f g x.block range stay before after;
  page = turns limit f g x.block (kind_at x.block (slice_index (f x.block) 0)) stay (counts_stay f g x.block stay before after) (ap (kind_at x.block) kind);
}

-- where no page changes, nothing does
pub stays_as_it_is : (limit : ℕ) (f : ℕ → List ℕ) (x : Spot) → tuple_on (f x.block) x.slot ≡ None → DropsBytes (contents_in limit f) (contents_in limit f) x
stays_as_it_is limit f x none = record {
  bytes = record { now = none; others = λ y. inr refl };
  entries = λ range. refl;
  page = turns limit f f x.block (kind_at x.block (slice_index (f x.block) 0)) (λ other apart. refl) refl refl;
}

-- changes of one page of an index leave its others
pub blocks_stay : {D : Type 0} (told : D → Told) (layout : DiskLayout) (index : ℕ) (place : Place) (old new : View D) → LeavesOtherPages told place old new → Tells told old → StayBeside place.block (index_page layout old.pages index) (index_page layout new.pages index)
blocks_stay told layout index place old new leaves tells = λ other apart. leaves.pages tells (record { relation = relation_of layout index; block = other }) (λ same. apart (ap (λ (p : Place). p.block) same))

-- and all else
pub leaves_others : {D : Type 0} (told : D → Told) (index : ℕ) (place : Place) (old new : View D) → place.relation ≡ relation_of old.layout index → LeavesOtherPages told place old new → LeavesOthers told index old new
unfolding contents
leaves_others told index place old new at leaves = record {
  leaves = leaves.leaves;
  pages = λ tells other apart. leaves.pages tells other (λ same. apart (ap (λ (p : Place). p.relation) same ∙ at));
  indexes = λ tells other apart.
      let path : (block : ℕ) → index_page old.layout new.pages other block ≡ index_page old.layout old.pages other block = λ block. leaves.pages tells (record { relation = relation_of old.layout other; block = block }) (λ same.
      let relation : relation_of old.layout other ≡ relation_of old.layout index = ap (λ (p : Place). p.relation) same ∙ at in
      apart (omega arith)) in
      let all : index_page old.layout new.pages other ≡ index_page old.layout old.pages other = λ i block. path block i in
      ap (λ (page : ℕ → List ℕ). contents_in old.layout.sizes.index_blocks page) all;
}
