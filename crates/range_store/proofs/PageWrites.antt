-- What changes of one page make of its tuples.
use Rattle.std.proofs.Common.{◌≡◌, ◌≢◌, ℕ, zero, suc, ◌<◌, true, inl, inr, List, [], ◌∷◌, length, set, get_or, refl, sym, ap, ◌∙◌, arith}
use Rattle.std.specs.Prelude.{slice_index, slice_index_or, None, Some}
use Rattle.std.proofs.lemmas.Bool.{cases_lt, false≢true}
use Rattle.std.proofs.lemmas.List.{get_or_past, get_or-set_same, get_or-set_other}
use Rattle.std.proofs.lemmas.Option.{none-some}
use Rattle.index_contents.specs.TheConstants.{UNSTARTED, REGULAR}
use Rattle.index_contents.specs.IndexPages.{HasSlots, IsRegular, Slot}
use Rattle.index_contents.specs.IndexReading.{free_slot_of, is_regular, slots_of}
use Rattle.index_contents.specs.IndexWrites.{put_in, trimmed}
use Rattle.index_contents.specs.IndexContents.{tuple_on}
use Rattle.range_store.specs.PageTuples.{DropsOn, PutsOn, ReplacesOn}
use Rattle.range_store.proofs.TupleKinds.{kind_of, regular_says_none, tuples_say_none, unstarted_has_none, unstarted_says_none}

-- what index_layout says of every page: it has one list of slots
abbrev pub HasOneList : Type 0
HasOneList = (kind : ℕ) (list : List Slot) (page : List ℕ) → HasSlots kind list page → list ≡ slots_of page

-- so it has these tuples
pub tuples_are : HasOneList → (kind : ℕ) (list : List Slot) (page : List ℕ) (slot : ℕ) → IsRegular kind list page → tuple_on page slot ≡ slice_index_or list slot None
tuples_are one kind list page slot is = ap (λ (l : List Slot). slice_index_or l slot None) (sym (one kind list page is.has))

-- a slot of a page with a tuple is one of the page's
pub used_below : (list : List Slot) (slot : ℕ) (bytes : List ℕ) → slice_index_or list slot None ≡ Some bytes → slot < length list
used_below list slot bytes used = elim (cases_lt slot (length list)) [
  | inl below ↦ below
  | inr past ↦ absurd (none-some _ (sym (get_or_past list slot None past) ∙ used))
]

-- a tuple is put on a page that takes tuples
pub puts_on : (old new bytes : List ℕ) → HasOneList → slice_index old 0 ≡ REGULAR → IsRegular REGULAR (put_in (slots_of old) (free_slot_of (slots_of old)) bytes) new
    → slice_index_or (slots_of old) (free_slot_of (slots_of old)) None ≡ None → ((n : ℕ) → n < free_slot_of (slots_of old) → slice_index_or (slots_of old) n None ≢ None)
    → slice_index_or (put_in (slots_of old) (free_slot_of (slots_of old)) bytes) (free_slot_of (slots_of old)) None ≡ Some bytes
    → ((m : ℕ) → m ≢ free_slot_of (slots_of old) → slice_index_or (put_in (slots_of old) (free_slot_of (slots_of old)) bytes) m None ≡ slice_index_or (slots_of old) m None)
    → PutsOn old new (free_slot_of (slots_of old)) bytes
puts_on old new bytes one is put free lower there others =
    let list : List Slot = put_in (slots_of old) (free_slot_of (slots_of old)) bytes in
    let kind : slice_index new 0 ≡ REGULAR = kind_of REGULAR list new put in
    record {
      before = regular_says_none old is;
      after = regular_says_none new kind;
      kind = kind;
      free = free;
      lower = lower;
      changes = record {
        now = tuples_are one REGULAR list new (free_slot_of (slots_of old)) put ∙ there;
        others = λ n apart. tuples_are one REGULAR list new n put ∙ others n apart;
      };
    }

-- and on one that is started for it
other_slot : (n : ℕ) (bytes : List ℕ) → n ≢ 0 → get_or {A = Slot} (Some bytes ∷ []) n None ≡ None
other_slot zero bytes apart = absurd (apart refl)
other_slot (suc n) bytes apart = get_or_past {X = Slot} [] n None (omega arith)

pub starts_on : (old new bytes : List ℕ) → HasOneList → slice_index old 0 ≡ UNSTARTED → IsRegular REGULAR (Some bytes ∷ []) new → PutsOn old new 0 bytes
starts_on old new bytes one is put =
    let list : List Slot = Some bytes ∷ [] in
    let kind : slice_index new 0 ≡ REGULAR = kind_of REGULAR list new put in
    record {
      before = unstarted_says_none old is;
      after = regular_says_none new kind;
      kind = kind;
      free = unstarted_has_none old 0 is;
      lower = λ n below. absurd (omega (arith, below));
      changes = record {
        now = tuples_are one REGULAR list new 0 put;
        others = λ n apart. tuples_are one REGULAR list new n put ∙ other_slot n bytes apart ∙ sym (unstarted_has_none old n is);
      };
    }

-- a tuple gives way to another
pub replaces_on : (old new : List ℕ) (slot : ℕ) (before after : List ℕ) → HasOneList → slice_index old 0 ≡ REGULAR → tuple_on old slot ≡ Some before → IsRegular REGULAR (set (slots_of old) slot (Some after)) new → ReplacesOn old new slot before after
replaces_on old new slot before after one is stood put =
    let list : List Slot = set (slots_of old) slot (Some after) in
    record {
      was = is;
      kind = kind_of REGULAR list new put;
      stood = stood;
      changes = record {
        now = tuples_are one REGULAR list new slot put ∙ get_or-set_same {A = Slot} (slots_of old) slot (Some after) None (used_below (slots_of old) slot before stood);
        others = λ n apart. tuples_are one REGULAR list new n put ∙ get_or-set_other {A = Slot} (slots_of old) slot n (Some after) None apart;
      };
    }

-- a slot becomes free
pub drops_on : (old new : List ℕ) (slot : ℕ) → HasOneList → ((list : List Slot) (m : ℕ) → slice_index_or (trimmed list) m None ≡ slice_index_or list m None) → is_regular (slice_index old 0) ≡ true → slot < length (slots_of old) → tuple_on old slot ≢ None
    → IsRegular (slice_index old 0) (trimmed (set (slots_of old) slot None)) new → DropsOn old new slot
drops_on old new slot one trims is below used put =
    let freed : List Slot = set (slots_of old) slot None in
    let kind : slice_index new 0 ≡ slice_index old 0 = kind_of (slice_index old 0) (trimmed freed) new put in
    record {
      kind = kind;
      changes = record {
        now = tuples_are one (slice_index old 0) (trimmed freed) new slot put ∙ trims freed slot ∙ get_or-set_same {A = Slot} (slots_of old) slot None None below;
        others = λ n apart. tuples_are one (slice_index old 0) (trimmed freed) new n put ∙ trims freed n ∙ get_or-set_other {A = Slot} (slots_of old) slot n None None apart;
      };
      map = inr (tuples_say_none old is, tuples_say_none new (ap is_regular kind ∙ is));
      alone = λ none. absurd (false≢true (sym none ∙ is));
      free = λ none. absurd (used none);
    }
