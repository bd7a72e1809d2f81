-- a swept page as a step of the index that pages and locks show
use Rattle.std.proofs.Common.{◌≡◌, ◌≢◌, ◌⊎◌, inl, inr, ℕ, ◌^◌, ◌<◌, ◌≤◌, Bool, true, false, List, length, Option, None, Some, refl, sym, ap, subst, ◌∙◌, arith}
use Rattle.std.specs.Prelude.{◌↔◌, ◌&&◌, IsTrue, if◌then◌else◌}
use Rattle.std.specs.Option.{option_map}
use Rattle.std.proofs.lemmas.Bool.{cases_lt, le-ltb, lt-ltb}
use Rattle.std.proofs.lemmas.Option.{none-some, same_Some}
use Rattle.block_model.specs.declared.place.Spot.{Spot}
use Rattle.byte_fields.specs.Fields.{field_at, number_of}
use Rattle.coverage.specs.Counts.{AreTuplesGone, HasGone, IsCountOf}
use Rattle.coverage.specs.IndexPart.{IndexPart, SweepMakes}
use Rattle.coverage.specs.IndexView.{Contents, IndexTuple, IndexView, Pages}
use Rattle.coverage.specs.IsSound.{IsSound}
use Rattle.coverage.specs.Knowing.{LocksNone}
use Rattle.coverage.specs.Steps.{IsUnnamed, TurnsPage}
use Rattle.index_contents.specs.IndexContents.{IndexContents}
use Rattle.index_steps.specs.IndexTuples.{IndexShape, contents_of, range_said, seen}
use Rattle.index_steps.specs.ShownIndex.{Shows, shown_part, tuple_in_place}
use Rattle.vacuum_core.specs.SweptPages.{IsUnnamedAt, SweepsPage}
use Rattle.vacuum_core.proofs.Counting.{counts_alike}

-- bytes stand there
abbrev pub stands : Option (List ℕ) → Bool
stands None = false
stands (Some bytes) = true

-- of the tuples that were unnamed at the opening those that stand still
abbrev pub unnamed_after : (Spot → Bool) → IndexContents → Spot → Bool
unnamed_after unnamed d x = unnamed x && stands (d.bytes x)

pub fewer_unnamed : (unnamed : Spot → Bool) (d : IndexContents) (x : Spot) → IsTrue (unnamed_after unnamed d x) → IsTrue (unnamed x)
fewer_unnamed unnamed d x is = by_test (unnamed x) is
  where
    by_test : (b : Bool) → IsTrue (b && stands (d.bytes x)) → IsTrue b
    by_test true is = refl
    by_test false is = is

-- the range of which the protocol sees bytes
seen_range : (shape : IndexShape) (bytes : List ℕ) → (seen shape bytes).range ≡ range_said bytes
unfolding seen
seen_range shape bytes = refl

ranges_are : (shape : IndexShape) → (contents_of shape).ranges ≡ 2 ^ 32
unfolding contents_of
ranges_are shape = refl

long_said : (bytes : List ℕ) → 4 ≤ length bytes → range_said bytes ≡ number_of (field_at bytes 0 4)
unfolding range_said
long_said bytes long = ap (λ (b : Bool). if b then 2 ^ 32 else number_of (field_at bytes 0 4)) (le-ltb (length bytes) 4 long)

short_said : (bytes : List ℕ) → length bytes < 4 → range_said bytes ≡ 2 ^ 32
unfolding range_said
short_said bytes short = ap (λ (b : Bool). if b then 2 ^ 32 else number_of (field_at bytes 0 4)) (lt-ltb (length bytes) 4 short)

-- what stands there was seen
mapped : {A B : Type 0} (f : A → B) (o : Option A) (b : B) → option_map f o ≡ Some b → (a : A) × (o ≡ Some a) × (f a ≡ b)
mapped f None b is = absurd (none-some b is)
mapped f (Some a) b is = (a, refl, same_Some (f a) b is)

none_and : (b : Bool) → (b && false) ≡ false
none_and true = refl
none_and false = refl

module _ (shape : IndexShape) (c d : IndexContents) (lock : ℕ → Option ℕ) (s page : ℕ) (w : IndexView) (shows : Shows shape c lock w) (sound : IsSound w) (free : (n : ℕ) → lock page ≡ Some n → n ≡ s) (none : LocksNone w.lock s)
    (swept : SweepsPage c d page) where
  abbrev part : IndexPart
  part = shown_part shape d lock (unnamed_after w.unnamed d)

  abbrev Sweeping : Spot → Type 0
  Sweeping x = (x.block ≡ page) × IsUnnamed w x

  -- the map names no spot for the number that stands for none
  past_ranges : (x : Spot) → w.entry (2 ^ 32) ≢ Some x
  past_ranges x named =
      let there = sound.entries_name_tuples (2 ^ 32) x named in
      elim (sound.formed x there.0 there.1) [
        | inl formed ↦
            let below : there.0.range < w.contents.ranges = formed.0.number in
            let many : w.contents.ranges ≡ 2 ^ 32 = ap (λ (k : Contents). k.ranges) shows.contents ∙ ranges_are shape in
            absurd (omega (arith, below, many, there.2))
        | inr left ↦ (sound.unnamed_tuples x left).unnamed (2 ^ 32) named
      ]

  to_view : (x : Spot) → IsUnnamedAt c x → IsUnnamed w x
  to_view x unnamed = (
    seen shape unnamed.0,
    shows.tuple x ∙ ap (option_map (seen shape)) unnamed.1,
    λ named.
        let at : w.entry (range_said unnamed.0) ≡ Some x = ap w.entry (sym (seen_range shape unnamed.0)) ∙ named in
        elim (cases_lt (length unnamed.0) 4) [
          | inl short ↦ past_ranges x (ap w.entry (sym (short_said unnamed.0 short)) ∙ at)
          | inr long ↦ unnamed.2 (range_said unnamed.0) (long, sym (long_said unnamed.0 long)) (sym (shows.entry (range_said unnamed.0)) ∙ at)
        ],
  )

  of_view : (x : Spot) → IsUnnamed w x → IsUnnamedAt c x
  of_view x unnamed =
      let bytes = mapped (seen shape) (c.bytes x) unnamed.0 (sym (shows.tuple x) ∙ unnamed.1) in (
        bytes.0,
        bytes.1,
        λ range of named.
            let said : unnamed.0.range ≡ range = ap (λ (t : IndexTuple). t.range) (sym bytes.2) ∙ seen_range shape bytes.0 ∙ long_said bytes.0 of.0 ∙ of.1 in
            unnamed.2 (ap w.entry said ∙ shows.entry range ∙ named),
      )

  vacated : (x : Spot) → Sweeping x → (tuple_in_place shape d x ≡ None) × (unnamed_after w.unnamed d x ≡ false)
  vacated x sweeping =
      let gone : d.bytes x ≡ None = swept.gone x sweeping.0 (of_view x sweeping.1) in
      (ap (option_map (seen shape)) gone, ap (λ (o : Option (List ℕ)). w.unnamed x && stands o) gone ∙ none_and (w.unnamed x))

  still_unnamed : (x : Spot) → d.bytes x ≡ c.bytes x → unnamed_after w.unnamed d x ≡ w.unnamed x
  still_unnamed x same = by_test (w.unnamed x) refl
    where
      stands_there : (o : Option (List ℕ)) → c.bytes x ≡ o → w.unnamed x ≡ true → stands o ≡ true
      stands_there None is unnamed = absurd ((sound.unnamed_tuples x unnamed).stands (shows.tuple x ∙ ap (option_map (seen shape)) is))
      stands_there (Some bytes) is unnamed = refl

      by_test : (b : Bool) → w.unnamed x ≡ b → (b && stands (d.bytes x)) ≡ b
      by_test false is = refl
      by_test true is = ap stands same ∙ stands_there (c.bytes x) refl is

  untouched : (x : Spot) → d.bytes x ≡ c.bytes x → (tuple_in_place shape d x ≡ w.tuple x) × (unnamed_after w.unnamed d x ≡ w.unnamed x)
  untouched x same = (ap (option_map (seen shape)) same ∙ sym (shows.tuple x), still_unnamed x same)

  each_place : (x : Spot) → ((tuple_in_place shape d x ≡ w.tuple x) × (unnamed_after w.unnamed d x ≡ w.unnamed x)) ⊎ ((x.block ≡ page) × Sweeping x)
  each_place x = elim (swept.others x) [
    | inl same ↦ inl (untouched x same)
    | inr gone ↦ inr (gone.0, (gone.0, to_view x gone.1))
  ]

  pub sweep_makes : SweepMakes s page w part
  sweep_makes building loose = record {
    free = λ n held. free n (sym (shows.lock page) ∙ held);
    gone = vacated;
    places = each_place;
    page = subst (λ (pages : Pages). TurnsPage pages d.pages page (pages.kind page)) (sym shows.pages) swept.turns;
    frame = record {
      heap = record { pages_per_range = refl; blocks = refl; row = λ b k. refl };
      map = record { entry = λ range. swept.entries range ∙ sym (shows.entry range) };
      tuples = tt;
      unnamed_tuples = tt;
      summarise_lock = refl;
      locks = record { others = λ p n held other. sym (shows.lock p) ∙ held; taken = λ p n held other. shows.lock p ∙ held };
      contents = refl;
    };
    none = λ p held. none p (shows.lock p ∙ held);
  }

-- what has gone as bytes has gone as a tuple
pub gone_alike : (shape : IndexShape) (before after : Option (List ℕ)) → HasGone before after ↔ HasGone (option_map (seen shape) before) (option_map (seen shape) after)
gone_alike shape before after = (to before after, from before after)
  where
    to : (a b : Option (List ℕ)) → HasGone a b → HasGone (option_map (seen shape) a) (option_map (seen shape) b)
    to None b gone = absurd (gone.0 refl)
    to (Some bytes) b gone = (λ none. none-some (seen shape bytes) (sym none), ap (option_map (seen shape)) gone.1)

    from : (a b : Option (List ℕ)) → HasGone (option_map (seen shape) a) (option_map (seen shape) b) → HasGone a b
    from None b gone = absurd (gone.0 refl)
    from (Some bytes) None gone = (λ none. none-some bytes (sym none), refl)
    from (Some bytes) (Some now) gone = absurd (none-some (seen shape now) (sym gone.1))

pub tuples_gone : (shape : IndexShape) (c d : IndexContents) (page count : ℕ) → IsCountOf (λ k. HasGone (c.bytes (record { block = page; slot = k })) (d.bytes (record { block = page; slot = k }))) count
    → AreTuplesGone (tuple_in_place shape c) (tuple_in_place shape d) page count
tuples_gone shape c d page count counted =
    counts_alike (λ (k : ℕ). HasGone (c.bytes (record { block = page; slot = k })) (d.bytes (record { block = page; slot = k })))
    (λ (k : ℕ). HasGone (tuple_in_place shape c (record { block = page; slot = k })) (tuple_in_place shape d (record { block = page; slot = k }))) count
    (λ k. (gone_alike shape (c.bytes (record { block = page; slot = k })) (d.bytes (record { block = page; slot = k }))).0)
    (λ k. (gone_alike shape (c.bytes (record { block = page; slot = k })) (d.bytes (record { block = page; slot = k }))).1) counted
