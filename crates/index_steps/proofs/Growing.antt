-- steps of a growth in each index that pages and locks show
use Rattle.std.proofs.Common.{◌≡◌, ◌⊎◌, inl, inr, ⊎_elim, ℕ, ◌<◌, Bool, true, false, List, length, Option, None, Some, refl, sym, ap, subst, ◌∙◌}
use Rattle.std.specs.Prelude.{◌==◌, ◌&&◌, ◌^◌, IsTrue, if◌then◌else◌}
use Rattle.byte_fields.specs.Fields.{field_at, number_of}
use Rattle.std.specs.Option.{option_map}
use Rattle.std.proofs.lemmas.Bool.{cases_eq, false≢true, le-ltb, lt-ltb, ne_eqb, eq-eqb}
use Rattle.std.proofs.lemmas.Option.{none-some}
use Rattle.block_model.specs.declared.place.Spot.{Spot}
use Rattle.coverage.specs.Changes.{Frame, IsFree, OwnLocks, TouchesNothing}
use Rattle.coverage.specs.IndexPart.{with_part}
use Rattle.coverage.specs.IndexView.{Building, IndexTuple, IndexView, IsPastMap, PageKind, Pages, Regular, next_map_page}
use Rattle.coverage.specs.Knowing.{LocksNone, LocksThese}
use Rattle.coverage.specs.Steps.{CountsPage, IsVacated, PutsTuple, SweepsTuples, TurnsKind, TurnsPage}
use Rattle.coverage.specs.Verdicts.{IsLocked}
use Rattle.coverage.specs.Waiting.{Grows, IsNextTuple}
use Rattle.index_contents.specs.IndexContents.{IndexContents}
use Rattle.index_contents.specs.IndexChanges.{DropsBytes, PutsBytes}
use Rattle.index_steps.specs.IndexTuples.{IndexShape, range_said, seen}
use Rattle.index_steps.specs.ShownIndex.{Shows, shown_part}
use Rattle.index_steps.specs.FirstTuples.{IsOf}
use Rattle.index_steps.specs.MapChanges.{CountsBlock, TurnsBlock}

-- the index after a step, in which these tuples are unnamed
abbrev pub after : IndexShape → IndexContents → (ℕ → Option ℕ) → (Spot → Bool) → IndexView → (ℕ → Option Building) → (ℕ → Option Spot) → IndexView
after shape d locked unnamed w building loose = with_part w (shown_part shape d locked unnamed) building loose

module _ (shape : IndexShape) (c : IndexContents) (lock : ℕ → Option ℕ) (w : IndexView) (shows : Shows shape c lock w) where
  -- the map may grow onto the page behind it
  pub grows_there : (range : ℕ) (kind : PageKind) → IsPastMap w.pages range → next_map_page c.pages < c.pages.limit → c.pages.kind (next_map_page c.pages) ≡ kind → Grows w.pages range kind
  grows_there range kind short below is = record {
    short = short;
    below = subst (λ (pages : Pages). next_map_page pages < pages.limit) (sym shows.pages) below;
    is = subst (λ (pages : Pages). pages.kind (next_map_page pages) ≡ kind) (sym shows.pages) is;
  }

  pub next_there : next_map_page w.pages ≡ next_map_page c.pages
  next_there = ap next_map_page shows.pages

  pub free_there : (s page : ℕ) → IsFree lock s page → IsFree w.lock s page
  free_there s page free n locked = free n (sym (shows.lock page) ∙ locked)

  pub locked_there : (s page : ℕ) → IsLocked lock s page → IsLocked w.lock s page
  locked_there s page (n, locked, other) = (n, shows.lock page ∙ locked, other)

  pub none_there : (s : ℕ) → LocksNone w.lock s → LocksNone lock s
  none_there s none p locked = none p (shows.lock p ∙ locked)

  pub own_there : (s : ℕ) → OwnLocks s w.lock lock
  own_there s = record { others = λ p n locked other. sym (shows.lock p) ∙ locked; taken = λ p n locked other. shows.lock p ∙ locked }

  module _ (s : ℕ) (d : IndexContents) (locked : ℕ → Option ℕ) (entries : (range : ℕ) → d.entry range ≡ c.entry range) (bytes : (x : Spot) → d.bytes x ≡ c.bytes x) (own : OwnLocks s w.lock locked) (building : ℕ → Option Building) (loose : ℕ → Option Spot) where
    untouched : Frame s TouchesNothing w (after shape d locked w.unnamed w building loose)
    untouched = record {
      heap = record { pages_per_range = refl; blocks = refl; row = λ b k. refl };
      map = record { entry = λ range. entries range ∙ sym (shows.entry range) };
      tuples = record { tuple = λ x. ap (option_map (seen shape)) (bytes x) ∙ sym (shows.tuple x) };
      unnamed_tuples = record { unnamed = λ x. refl };
      summarise_lock = refl;
      locks = own;
      contents = refl;
    }

  -- the page behind the map turns
  pub turns_there : (s : ℕ) (d : IndexContents) (locked : ℕ → Option ℕ) (kind : PageKind) (these : List ℕ) → TurnsBlock c d (next_map_page c.pages) kind → OwnLocks s w.lock locked → LocksThese locked s these
      → (building : ℕ → Option Building) (loose : ℕ → Option Spot) → TurnsKind s w (after shape d locked w.unnamed w building loose) kind these
  turns_there s d locked kind these turns own locks building loose = record {
    frame = untouched s d locked turns.entries turns.bytes own building loose;
    page = subst (λ (pages : Pages). TurnsPage pages d.pages (next_map_page pages) kind) (sym shows.pages) turns.page;
    locks = locks;
  }

  -- it is counted
  pub counts_there : (s : ℕ) (d : IndexContents) (locked : ℕ → Option ℕ) → CountsBlock c d → OwnLocks s w.lock locked → LocksNone locked s
      → (building : ℕ → Option Building) (loose : ℕ → Option Spot) → CountsPage s w (after shape d locked w.unnamed w building loose)
  counts_there s d locked counts own none building loose = record {
    frame = untouched s d locked counts.entries counts.bytes own building loose;
    pages = subst (λ (pages : Pages). d.pages ≡ record pages { map_pages = next_map_page pages }) (sym shows.pages) counts.pages;
    none = none;
  }

  -- bytes that stand there are seen there
  pub seen_there : (x : Spot) (bytes : List ℕ) → c.bytes x ≡ Some bytes → w.tuple x ≡ Some (seen shape bytes)
  seen_there x bytes there = shows.tuple x ∙ ap (option_map (seen shape)) there

  bytes_of : (o : Option (List ℕ)) (t : IndexTuple) → option_map (seen shape) o ≡ Some t → (bytes : List ℕ) × (o ≡ Some bytes)
  bytes_of None t is = absurd (none-some t is)
  bytes_of (Some bytes) t is = (bytes, refl)

  pub bytes_there : (x : Spot) (t : IndexTuple) → w.tuple x ≡ Some t → (bytes : List ℕ) × (c.bytes x ≡ Some bytes)
  bytes_there x t stands = bytes_of (c.bytes x) t (sym (shows.tuple x) ∙ stands)

  -- the first tuple of the page behind the map
  pub first_there : (x : Spot) (bytes : List ℕ) → IsNextTuple c.bytes (next_map_page c.pages) x bytes → IsNextTuple w.tuple (next_map_page w.pages) x (seen shape bytes)
  first_there x bytes first = record {
    on = first.on ∙ sym next_there;
    stands = seen_there x bytes first.stands;
    first = λ y u on stands. let there = bytes_there y u stands in first.first y there.0 (on ∙ next_there) there.1;
  }

  pub none_first : ((x : Spot) → x.block ≡ next_map_page c.pages → c.bytes x ≡ None) → (x : Spot) (t : IndexTuple) → IsNextTuple w.tuple (next_map_page w.pages) x t → ⊥
  none_first none x t first =
      let there = bytes_there x t first.stands in
      absurd (none-some there.0 (sym (none x (first.on ∙ next_there)) ∙ there.1))

-- the range that the bytes of a tuple say
pub seen_range : (shape : IndexShape) (bytes : List ℕ) → (seen shape bytes).range ≡ range_said bytes
unfolding seen
seen_range shape bytes = refl

pub seen_bytes : (shape : IndexShape) (bytes : List ℕ) → (seen shape bytes).bytes ≡ bytes
unfolding seen
seen_bytes shape bytes = refl

said : (bytes : List ℕ) (range : ℕ) → IsOf bytes (Some range) → range_said bytes ≡ range
unfolding range_said
said bytes range of = ap (λ (b : Bool). if b then 2 ^ 32 else number_of (field_at bytes 0 4)) (le-ltb (length bytes) 4 of.0) ∙ of.1

unsaid : (bytes : List ℕ) → IsOf bytes None → range_said bytes ≡ 2 ^ 32
unfolding range_said
unsaid bytes few = ap (λ (b : Bool). if b then 2 ^ 32 else number_of (field_at bytes 0 4)) (lt-ltb (length bytes) 4 few)

pub range_there : (shape : IndexShape) (bytes : List ℕ) (range : ℕ) → IsOf bytes (Some range) → (seen shape bytes).range ≡ range
range_there shape bytes range of = seen_range shape bytes ∙ said bytes range of

pub no_range_there : (shape : IndexShape) (bytes : List ℕ) → IsOf bytes None → (seen shape bytes).range ≡ 2 ^ 32
no_range_there shape bytes few = seen_range shape bytes ∙ unsaid bytes few

-- whether a spot is another one than this
abbrev pub is_apart : Spot → Spot → Bool
is_apart x y = if y.block == x.block then (if y.slot == x.slot then false else true) else true

pub apart_here : (x : Spot) → is_apart x x ≡ false
apart_here x = ap (λ (b : Bool). if b then (if x.slot == x.slot then false else true) else true) (eq-eqb x.block x.block refl) ∙ ap (λ (b : Bool). if b then false else true) (eq-eqb x.slot x.slot refl)

pub spots_apart : (x y : Spot) → (y ≡ x) ⊎ (is_apart x y ≡ true)
spots_apart x y = elim (cases_eq y.block x.block) [
  | inl block ↦ elim (cases_eq y.slot x.slot) [
    | inl slot ↦ inl (λ i. record { block = block i; slot = slot i })
    | inr other ↦ inr (ap (λ (b : Bool). if b then (if y.slot == x.slot then false else true) else true) (eq-eqb y.block x.block block) ∙ ap (λ (b : Bool). if b then false else true) (ne_eqb y.slot x.slot other))
  ]
  | inr other ↦ inr (ap (λ (b : Bool). if b then (if y.slot == x.slot then false else true) else true) (ne_eqb y.block x.block other))
]

-- the tuples that stay unnamed where one goes
abbrev pub unnamed_but : Spot → (Spot → Bool) → Spot → Bool
unnamed_but x unnamed y = is_apart x y && unnamed y

module _ (shape : IndexShape) (c : IndexContents) (lock : ℕ → Option ℕ) (w : IndexView) (shows : Shows shape c lock w) where
  pub sweeps_there : (s : ℕ) (d : IndexContents) (x : Spot) → x.block ≡ next_map_page c.pages → DropsBytes c d x → IsFree lock s x.block → LocksNone w.lock s → (building : ℕ → Option Building) (loose : ℕ → Option Spot)
      → SweepsTuples s w (after shape d lock (unnamed_but x w.unnamed) w building loose) (next_map_page w.pages) (λ y. y ≡ x)
  sweeps_there s d x on drops free none building loose =
      let here : x.block ≡ next_map_page w.pages = on ∙ sym (next_there shape c lock w shows) in
      record {
        free = subst (IsFree w.lock s) here (free_there shape c lock w shows s x.block free);
        gone = λ y is. subst (λ (z : Spot). IsVacated (after shape d lock (unnamed_but x w.unnamed) w building loose) z) (sym is)
            (ap (option_map (seen shape)) drops.bytes.now, ap (λ (b : Bool). b && w.unnamed x) (apart_here x));
        places = λ y. ⊎_elim
            (λ (is : y ≡ x). inr (ap (λ (z : Spot). z.block) is ∙ here, is))
            (λ (apart : is_apart x y ≡ true). ⊎_elim
            (λ (is : y ≡ x). inr (ap (λ (z : Spot). z.block) is ∙ here, is))
            (λ (same : d.bytes y ≡ c.bytes y). inl (ap (option_map (seen shape)) same ∙ sym (shows.tuple y), ap (λ (b : Bool). b && w.unnamed y) apart))
            (drops.bytes.others y))
            (spots_apart x y);
        page = subst (λ (p : ℕ). TurnsPage w.pages d.pages p (w.pages.kind p)) here (subst (λ (pages : Pages). TurnsPage pages d.pages x.block (pages.kind x.block)) (sym shows.pages) drops.page);
        frame = record {
          heap = record { pages_per_range = refl; blocks = refl; row = λ b k. refl };
          map = record { entry = λ range. drops.entries range ∙ sym (shows.entry range) };
          tuples = tt;
          unnamed_tuples = tt;
          summarise_lock = refl;
          locks = own_there shape c lock w shows s;
          contents = refl;
        };
        none = none_there shape c lock w shows s none;
      }

-- fewer tuples are unnamed
pub fewer_unnamed : (x : Spot) (unnamed : Spot → Bool) (y : Spot) → IsTrue (unnamed_but x unnamed y) → IsTrue (unnamed y)
fewer_unnamed x unnamed y is = on (is_apart x y) (unnamed y) is
  where
    on : (a b : Bool) → (a && b) ≡ true → b ≡ true
    on true b is = is
    on false b is = absurd (false≢true is)

-- a tuple that is put
module _ (shape : IndexShape) (c : IndexContents) (lock : ℕ → Option ℕ) (w : IndexView) (shows : Shows shape c lock w) where
  pub puts_there : (s : ℕ) (d : IndexContents) (locked : ℕ → Option ℕ) (y : Spot) (bytes : List ℕ) → PutsBytes c d y bytes → IsFree lock s y.block → OwnLocks s w.lock locked → (building : ℕ → Option Building) (loose : ℕ → Option Spot)
      → PutsTuple s w (after shape d locked w.unnamed w building loose) y (seen shape bytes)
  puts_there s d locked y bytes puts free own building loose = record {
    tuple = record {
      was = shows.tuple y ∙ ap (option_map (seen shape)) puts.bytes.was;
      now = ap (option_map (seen shape)) puts.bytes.now;
      others = λ z. ⊎_elim
          (λ (at : z ≡ y). inl at)
          (λ (same : d.bytes z ≡ c.bytes z). inr (ap (option_map (seen shape)) same ∙ sym (shows.tuple z)))
          (puts.bytes.others z);
    };
    free = λ n locked. free n (sym (shows.lock y.block) ∙ locked);
    page = subst (λ (pages : Pages). TurnsPage pages d.pages y.block Regular) (sym shows.pages) puts.page;
    frame = record {
      heap = record { pages_per_range = refl; blocks = refl; row = λ b k. refl };
      map = record { entry = λ range. puts.entries range ∙ sym (shows.entry range) };
      tuples = tt;
      unnamed_tuples = record { unnamed = λ z. refl };
      summarise_lock = refl;
      locks = own;
      contents = refl;
    };
  }
