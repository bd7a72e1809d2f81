-- what a page of an index has once its unnamed tuples are dropped
use Rattle.std.proofs.Common.{◌≡◌, ◌⊎◌, inl, inr, ℕ, ◌+◌, ◌*◌, ◌≤◌, ◌<◌, ◌==◌, true, false, Bool, List, [], ◌∷◌, length, get_or, refl, sym, ap, subst, ◌∙◌, arith}
use Rattle.std.specs.Prelude.{◌↔◌, None, Some, drop, if◌then◌else◌, slice_index, slice_index_or}
use Rattle.std.proofs.lemmas.Bool.{cases_eq, cases_lt, eqb-true, or_cases}
use Rattle.std.proofs.lemmas.List.{get_or_past}
use Rattle.std.proofs.lemmas.Option.{none-some}
use Rattle.block_model.specs.declared.place.Spot.{Spot}
use Rattle.disk_trait.specs.Told.{Told}
use Rattle.page_map.specs.Keeps.{Tells}
use Rattle.page_map.specs.PageMap.{View}
use Rattle.coverage.specs.IndexView.{Pages}
use Rattle.coverage.specs.Steps.{TurnsPage}
use Rattle.index_layout.specs.declared.format.TheConstants.{EVACUATED, REGULAR}
use Rattle.index_layout.specs.IndexPages.{HasSlots, IsRegular, Slot, regular_bytes, taken}
use Rattle.index_layout.specs.IndexReading.{is_regular, slots_in, slots_of, number_at}
use Rattle.index_layout.specs.IndexWrites.{dropped, trimmed}
use Rattle.index_contents.specs.IndexChanges.{LeavesOtherPages}
use Rattle.index_contents.specs.IndexContents.{IndexContents, contents, contents_in, index_page, kind_at, relation_of, tuple_on}
use Rattle.index_contents.specs.PageLaws.{IsNoMap, StayBeside, blocks_stay, counts_stay, entries_stay, no_map, turns}
use Rattle.vacuum_core.specs.SweptPages.{IsListed, IsUnnamedAt, IsUnnamedOn, SweepsPage}
use Rattle.vacuum_core.proofs.SlotBytes.{drops_listed, keeps_unlisted}

-- what index_layout says of every page: it has one list of slots, whose last one isn't free
abbrev pub HasOneList : Type 0
HasOneList = (kind : ℕ) (list : List Slot) (page : List ℕ) → HasSlots kind list page → list ≡ slots_of page

abbrev pub Trims : Type 0
Trims = (list : List Slot) (m : ℕ) → slice_index_or (trimmed list) m None ≡ slice_index_or list m None

pub kind_is : (kind : ℕ) (slots : List Slot) (page : List ℕ) → IsRegular kind slots page → slice_index page 0 ≡ kind
unfolding regular_bytes
kind_is kind slots page is = ap (λ (p : List ℕ). slice_index p 0) is.has.bytes

-- a page of tuples says nothing of the map
says_none : (page : List ℕ) → is_regular (slice_index page 0) ≡ true → IsNoMap page
says_none page is = elim (or_cases (slice_index page 0 == REGULAR) (slice_index page 0 == EVACUATED) is) [
  | inl regular ↦ no_map page REGULAR (eqb-true (slice_index page 0) REGULAR regular) refl refl
  | inr evacuated ↦ no_map page EVACUATED (eqb-true (slice_index page 0) EVACUATED evacuated) refl refl
]

is_listed : (slots : List ℕ) (n : ℕ) → IsListed slots n ⊎ (IsListed slots n → ⊥)
is_listed [] n = inr (λ none. none)
is_listed (high ∷ []) n = inr (λ none. none)
is_listed (high ∷ low ∷ slots) n = elim (cases_eq n (high * 256 + low)) [
  | inl is ↦ inl (inl is)
  | inr other ↦ elim (is_listed slots n) [
    | inl later ↦ inl (inr later)
    | inr none ↦ inr (λ listed. elim listed [
      | inl is ↦ other is
      | inr later ↦ none later
    ])
  ]
]

abbrev pub spot_at : (block slot : ℕ) → Spot
spot_at block slot = record { block = block; slot = slot }

module _ (limit block : ℕ) (f g : ℕ → List ℕ) (slots : List ℕ) (stay : StayBeside block f g) (regular : is_regular (slice_index (f block) 0) ≡ true)
    (put : IsRegular (slice_index (f block) 0) (trimmed (dropped (slots_of (f block)) slots)) (g block)) (one : HasOneList) (trims : Trims)
    (listed : (n : ℕ) → IsListed slots n ↔ IsUnnamedOn (contents_in limit f) (f block) (spot_at block n)) where
  abbrev before : IndexContents
  before = contents_in limit f

  same_kind : slice_index (g block) 0 ≡ slice_index (f block) 0
  same_kind = kind_is (slice_index (f block) 0) (trimmed (dropped (slots_of (f block)) slots)) (g block) put

  now : (n : ℕ) → tuple_on (g block) n ≡ get_or (dropped (slots_of (f block)) slots) n None
  now n = ap (λ (l : List Slot). slice_index_or l n None) (sym (one (slice_index (f block) 0) (trimmed (dropped (slots_of (f block)) slots)) (g block) put.has)) ∙ trims (dropped (slots_of (f block)) slots) n

  of_spot : (x : Spot) → x.block ≡ block → x ≡ spot_at block x.slot
  of_spot x same = λ i. record { block = same i; slot = x.slot }

  free_then : (x : Spot) → x.block ≡ block → IsListed slots x.slot → tuple_on (g x.block) x.slot ≡ None
  free_then x same is = ap (λ (b : ℕ). tuple_on (g b) x.slot) same ∙ now x.slot ∙ drops_listed (slots_of (f block)) slots x.slot is

  pub sweeps_in : SweepsPage (contents_in limit f) (contents_in limit g) block
  sweeps_in = record {
    gone = λ x same unnamed. free_then x same ((listed x.slot).1 (subst (IsUnnamedAt before) (of_spot x same) unnamed));
    others = λ x. elim (cases_eq x.block block) [
      | inl same ↦ elim (is_listed slots x.slot) [
        | inl is ↦ inr (same, subst (IsUnnamedAt before) (sym (of_spot x same)) ((listed x.slot).0 is))
        | inr none ↦ inl (ap (λ (b : ℕ). tuple_on (g b) x.slot) same ∙ now x.slot ∙ keeps_unlisted (slots_of (f block)) slots x.slot none ∙ sym (ap (λ (b : ℕ). tuple_on (f b) x.slot) same))
      ]
      | inr other ↦ inl (ap (λ (p : List ℕ). tuple_on p x.slot) (stay x.block other))
    ];
    entries = λ range. entries_stay f g block range stay (says_none (f block) regular) (says_none (g block) (ap is_regular same_kind ∙ regular));
    turns = turns limit f g block (kind_at block (slice_index (f block) 0)) stay (counts_stay f g block stay (says_none (f block) regular) (says_none (g block) (ap is_regular same_kind ∙ regular))) (ap (kind_at block) same_kind);
  }

-- so it is of an index of a store
pub sweeps_there : {D : Type 0} (told : D → Told) (index block : ℕ) (old new : View D) (slots : List ℕ) → LeavesOtherPages told (record { relation = relation_of old.layout index; block = block }) old new → Tells told old
    → is_regular (slice_index (index_page old.layout old.pages index block) 0) ≡ true
    → IsRegular (slice_index (index_page old.layout old.pages index block) 0) (trimmed (dropped (slots_of (index_page old.layout old.pages index block)) slots)) (index_page old.layout new.pages index block) → HasOneList → Trims
    → ((n : ℕ) → IsListed slots n ↔ IsUnnamedOn (contents old.layout old.pages index) (index_page old.layout old.pages index block) (spot_at block n))
    → SweepsPage (contents old.layout old.pages index) (contents old.layout new.pages index) block
unfolding contents
sweeps_there told index block old new slots leaves tells regular put one trims listed =
    sweeps_in old.layout.sizes.index_blocks block (index_page old.layout old.pages index) (index_page old.layout new.pages index) slots
    (blocks_stay told old.layout index (record { relation = relation_of old.layout index; block = block }) old new leaves tells) regular put one trims listed

turns_nothing : (pages : Pages) (page : ℕ) → TurnsPage pages pages page (pages.kind page)
turns_nothing pages page = record { now = refl; kinds = λ p. inr refl; map_pages = refl; limit = refl }

-- nothing goes where each tuple is named
pub sweeps_nothing : (c : IndexContents) (block : ℕ) → ((n : ℕ) → IsUnnamedAt c (spot_at block n) → ⊥) → SweepsPage c c block
sweeps_nothing c block none = record {
  gone = λ x same unnamed. absurd (none x.slot (subst (IsUnnamedAt c) (λ i. record { block = same i; slot = x.slot }) unnamed));
  others = λ x. inl refl;
  entries = λ range. refl;
  turns = turns_nothing c.pages block;
}

-- what stands on a page of the index
pub unnamed_on : {D : Type 0} (told : D → Told) (index block n : ℕ) (old : View D) (page : List ℕ) → page ≡ index_page old.layout old.pages index block
    → IsUnnamedOn (contents old.layout old.pages index) page (spot_at block n) ↔ IsUnnamedAt (contents old.layout old.pages index) (spot_at block n)
unfolding contents
unnamed_on told index block n old page is = (
  subst (λ (p : List ℕ). IsUnnamedOn (contents_in old.layout.sizes.index_blocks (index_page old.layout old.pages index)) p (spot_at block n)) is,
  subst (λ (p : List ℕ). IsUnnamedOn (contents_in old.layout.sizes.index_blocks (index_page old.layout old.pages index)) p (spot_at block n)) (sym is),
)

-- a page has no more slots than there is room for, and each tuple stands in one
slots_none : (page : List ℕ) → is_regular (slice_index page 0) ≡ false → slots_of page ≡ []
unfolding slots_of
slots_none page e = ap (λ (t : Bool). if t then slots_in page (number_at page 2 2) (drop 32 page) else []) e

four_each : (list : List Slot) → 4 * length list ≤ taken list
unfolding taken
four_each [] = omega arith
four_each (slot ∷ list) = omega (arith, four_each list)

pub few_slots : (page : List ℕ) → (is_regular (slice_index page 0) ≡ true → IsRegular (slice_index page 0) (slots_of page) page) → length (slots_of page) ≤ 2040
few_slots page regular = by_test (is_regular (slice_index page 0)) refl
  where
    by_test : (b : Bool) → is_regular (slice_index page 0) ≡ b → length (slots_of page) ≤ 2040
    by_test true is = let room = (regular is).has.fit.room in omega (arith, room, four_each (slots_of page))
    by_test false is = let none = ap (length {A = Slot}) (slots_none page is) in omega (arith, none)

pub some_slots : (page : List ℕ) (n : ℕ) → n < length (slots_of page) → is_regular (slice_index page 0) ≡ true
some_slots page n below = by_test (is_regular (slice_index page 0)) refl
  where
    by_test : (b : Bool) → is_regular (slice_index page 0) ≡ b → is_regular (slice_index page 0) ≡ true
    by_test true is = is
    by_test false is = let none = ap (length {A = Slot}) (slots_none page is) in absurd (omega (arith, below, none))

pub slot_within : (page : List ℕ) (n : ℕ) (tuple : List ℕ) → tuple_on page n ≡ Some tuple → n < length (slots_of page)
slot_within page n tuple is = elim (cases_lt n (length (slots_of page))) [
  | inl below ↦ below
  | inr past ↦ absurd (none-some tuple (sym (get_or_past (slots_of page) n None past) ∙ is))
]
