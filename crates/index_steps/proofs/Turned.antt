-- the page behind the map of another kind
use Rattle.std.proofs.Common.{◌≡◌, inl, inr, ℕ, ◌+◌, ◌<◌, Bool, List, [], sym, ap, ◌∙◌, arith}
use Rattle.std.specs.Prelude.{◌==◌, drop, nat_le, slice_index, slice_index_or, replicate, Option, None, if◌then◌else◌}
use Rattle.std.proofs.lemmas.Bool.{cases_lt, lt-leb}
use Rattle.block_model.specs.declared.place.Spot.{Spot}
use Rattle.index_layout.specs.declared.format.TheConstants.{UNSTARTED, MAP, EVACUATED, MAP_ENTRIES}
use Rattle.index_layout.specs.IndexPages.{HasSlots, IsRegular, Slot}
use Rattle.index_layout.specs.IndexReading.{is_regular, map_pages_of, number_at, slots_in, slots_of}
use Rattle.page_layout.specs.IndexLaws.{regular_front}
use Rattle.coverage.specs.IndexView.{Emptying, Mapping, PageKind, map_page_of}
use Rattle.index_contents.specs.IndexContents.{contents_in, entry_in, entry_on, kind_at, tuple_on}
use Rattle.index_contents.specs.MapLaws.{each_page, is_of_map, no_tuple}
use Rattle.index_contents.specs.PageLaws.{StayBeside, turns}
use Rattle.index_contents.specs.Reading.{map_byte}
use Rattle.index_steps.specs.MapChanges.{TurnsBlock}
use Rattle.index_steps.specs.NextPages.{IsEmptyMap}

-- the kinds of a page behind the metapage, by its byte
pub map_there : (n kind : ℕ) → kind ≡ MAP → kind_at (n + 1) kind ≡ Mapping
map_there n kind is = ap (kind_at (n + 1)) is ∙ ap (λ (k : ℕ). if MAP == k then Mapping else Emptying) (map_byte n)

pub emptied_there : (n kind : ℕ) → kind ≡ EVACUATED → kind_at (n + 1) kind ≡ Emptying
emptied_there n kind is = ap (kind_at (n + 1)) is ∙ ap (λ (k : ℕ). if EVACUATED == k then Mapping else Emptying) (map_byte n)

-- the entries of counted pages stay
entries_stay : (f g : ℕ → List ℕ) (block : ℕ) → StayBeside block f g → map_pages_of (f 0) < block → map_pages_of (g 0) ≡ map_pages_of (f 0) → (range : ℕ) → entry_in g range ≡ entry_in f range
entries_stay f g block stay behind counts range =
    ap (λ (m : ℕ). if nat_le (map_page_of range) m then entry_on (g (map_page_of range)) range else None) counts ∙ here
  where
    here : (if nat_le (map_page_of range) (map_pages_of (f 0)) then entry_on (g (map_page_of range)) range else None) ≡ entry_in f range
    here = elim (cases_lt (map_pages_of (f 0)) (map_page_of range)) [
      | inl past ↦
          ap (λ (b : Bool). if b then entry_on (g (map_page_of range)) range else None) (lt-leb (map_page_of range) (map_pages_of (f 0)) past)
          ∙ sym (ap (λ (b : Bool). if b then entry_on (f (map_page_of range)) range else None) (lt-leb (map_page_of range) (map_pages_of (f 0)) past))
      | inr counted ↦ ap (λ (e : Option Spot). if nat_le (map_page_of range) (map_pages_of (f 0)) then e else None)
          (ap (λ (p : List ℕ). entry_on p range) (stay (map_page_of range) (λ same. absurd (omega (arith, same, counted, behind)))))
    ]

-- a page behind the map turns, and has the tuples that it had
pub turns_block : (limit : ℕ) (f g : ℕ → List ℕ) (block : ℕ) (kind : PageKind) → StayBeside block f g → map_pages_of (f 0) < block → ((slot : ℕ) → tuple_on (g block) slot ≡ tuple_on (f block) slot)
    → kind_at block (slice_index (g block) 0) ≡ kind → TurnsBlock (contents_in limit f) (contents_in limit g) block kind
turns_block limit f g block kind stay behind same is =
    let counts : map_pages_of (g 0) ≡ map_pages_of (f 0) = ap map_pages_of (stay 0 (λ at. absurd (omega (arith, at, behind)))) in
    record {
      entries = entries_stay f g block stay behind counts;
      bytes = λ x. each_page (λ (page : List ℕ). tuple_on page x.slot) f g block stay (same x.slot) x.block;
      page = turns limit f g block kind stay counts is;
    }

-- a page that isn't started has no tuples
unstarted_tuple : (page : List ℕ) (slot : ℕ) → slice_index page 0 ≡ UNSTARTED → tuple_on page slot ≡ None
unfolding slots_of
unstarted_tuple page slot is = ap (λ (k : ℕ). slice_index_or {A = Slot} (if is_regular k then slots_in page (number_at page 2 2) (drop 32 page) else []) slot None) is

-- it is started for the map
pub starts_block : (limit : ℕ) (f g : ℕ → List ℕ) (n : ℕ) → StayBeside (n + 1) f g → n ≡ map_pages_of (f 0) → slice_index (f (n + 1)) 0 ≡ UNSTARTED → IsEmptyMap (g (n + 1)) → TurnsBlock (contents_in limit f) (contents_in limit g) (n + 1) Mapping
starts_block limit f g n stay counted was is =
    let map : slice_index (g (n + 1)) 0 ≡ MAP = is_of_map (replicate MAP_ENTRIES None) (g (n + 1)) is in
    turns_block limit f g (n + 1) Mapping stay (omega (arith, counted)) (λ slot. no_tuple (g (n + 1)) slot map ∙ sym (unstarted_tuple (f (n + 1)) slot was)) (map_there n (slice_index (g (n + 1)) 0) map)

-- it is flagged
abbrev pub HasOneList : Type 0
HasOneList = (kind : ℕ) (list : List Slot) (page : List ℕ) → HasSlots kind list page → list ≡ slots_of page

pub flags_block : (limit : ℕ) (f g : ℕ → List ℕ) (n : ℕ) → HasOneList → StayBeside (n + 1) f g → n ≡ map_pages_of (f 0) → IsRegular EVACUATED (slots_of (f (n + 1))) (g (n + 1)) → TurnsBlock (contents_in limit f) (contents_in limit g) (n + 1) Emptying
flags_block limit f g n one stay counted is =
    let same : slots_of (g (n + 1)) ≡ slots_of (f (n + 1)) = sym (one EVACUATED (slots_of (f (n + 1))) (g (n + 1)) is.has) in
    turns_block limit f g (n + 1) Emptying stay (omega (arith, counted)) (λ slot. ap (λ (l : List Slot). slice_index_or l slot None) same)
    (emptied_there n (slice_index (g (n + 1)) 0) (regular_front EVACUATED (slots_of (f (n + 1))) (g (n + 1)) is))

-- it is turned
pub turned_block : (limit : ℕ) (f g : ℕ → List ℕ) (n : ℕ) → StayBeside (n + 1) f g → n ≡ map_pages_of (f 0) → ((slot : ℕ) → tuple_on (f (n + 1)) slot ≡ None) → IsEmptyMap (g (n + 1)) → TurnsBlock (contents_in limit f) (contents_in limit g) (n + 1) Mapping
turned_block limit f g n stay counted none is =
    let map : slice_index (g (n + 1)) 0 ≡ MAP = is_of_map (replicate MAP_ENTRIES None) (g (n + 1)) is in
    turns_block limit f g (n + 1) Mapping stay (omega (arith, counted)) (λ slot. no_tuple (g (n + 1)) slot map ∙ sym (none slot)) (map_there n (slice_index (g (n + 1)) 0) map)
