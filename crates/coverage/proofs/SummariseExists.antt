-- A summariser has a step, or waits, or lacks a page: the steps are there to be made.
use Rattle.std.proofs.Common.{◌≡◌, ◌≢◌, ◌⊎◌, inl, inr, ⊎_elim, ℕ, ◌+◌, ◌*◌, ◌≤◌, ◌<◌, min, Option, Some, None, Bool, true, false, sym, ◌∙◌, ap, subst, rules}
use Rattle.std.specs.Prelude.{refl, List, [], ◌∷◌, length}
use Rattle.std.proofs.lemmas.Option.{same_Some, none-some}
use Rattle.std.proofs.lemmas.Bool.{cases_eq}
use Rattle.std.proofs.Math.Nat.{not-le_of_lt}
use Rattle.block_model.specs.declared.place.Spot.{Spot}
use Rattle.coverage.specs.IndexView.{IndexTuple, Progress, ExtentUnread, Passing, PageKind, Unstarted, Mapping, Regular, Emptying, IndexView}
use Rattle.coverage.specs.IndexView.{placeholder_length, IsRangeOf, map_page_of, next_map_page, IsPastMap, NamesPlaceholder}
use Rattle.coverage.specs.Changes.{IsFree}
use Rattle.coverage.specs.Verdicts.{IsLocked, IsFirstLocked, HasFreeSlots, Verdict, Waits, Differs, Fits, Puts, Full, PutVerdict, PutGoes, SwapVerdict}
use Rattle.coverage.specs.Verdicts.{SwapFits, SwapMoves}
use Rattle.coverage.specs.Statements.{OnIndex, Empty, Held, Copied, Moving, Dropping, Phase, NotBuilding, Vacant, Growing, Evacuating, Placing, IsAt}
use Rattle.coverage.specs.Statements.{Maintaining, Holding, rows_added}
use Rattle.coverage.specs.Knowing.{LocksNone, IsOneOf, LocksThese, Knows}
use Rattle.coverage.specs.PageOrder.{KnowsPages}
use Rattle.coverage.specs.Steps.{PutsTuple, Maps, Gone, Again, MovePut, TurnsKind, CountsPage, SweepsTuples, Grow, CountLeftOver, Count, Flag, EvacuatePut}
use Rattle.coverage.specs.Steps.{EvacuateSet, EvacuateDrop, EvacuateSweep, Turn, LookMap, LookGone, IsFinal, Found, ReadNoEntry, GrowMap, Put, Set, Extent}
use Rattle.coverage.specs.Steps.{Pass, Unite, UniteCopies, SwapFinal, SetFinal, DropOld}
use Rattle.coverage.specs.Waiting.{FinalWaits, PlaceWaits, GrowWaits, CountWaits, FlagWaits, EvacuateWaits, EvacuatePutWaits, TurnWaits, FinalFull, PlaceFull}
use Rattle.coverage.specs.Waiting.{MapFull, EvacuateFull, IsNextTuple, Grows}
use Rattle.coverage.specs.Stuck.{IsSummariseStuck, IsPhaseFree, HasBlocksOfRows}
use Rattle.coverage.proofs.Numbers.{lt_or_ge}
use Rattle.coverage.proofs.Verdicts.{locked_or_free, two_pages, some_put, some_swap}
use Rattle.coverage.proofs.StepsExist.{place_is, locks_after, after_locked, after_only, after_others, after_taken, tuple_with, tuple_here, tuple_there}
use Rattle.coverage.proofs.StepsExist.{number_with, number_here, number_there, reads_here, free_none, drops_view, drops_here}

free_two : (w : IndexView) (s p q : ℕ) → IsFree w.lock s p → IsFree w.lock s q → (n : ℕ) → IsOneOf (p ∷ q ∷ []) n → IsFree w.lock s n
free_two w s p q one two n among = ⊎_elim
    (λ (is : n ≡ p). subst (IsFree w.lock s) (sym is) one)
    (λ (more : (n ≡ q) ⊎ ⊥). ⊎_elim (λ (is : n ≡ q). subst (IsFree w.lock s) (sym is) two) (λ (never : ⊥). absurd never) more)
    among

free_three : (w : IndexView) (s p q m : ℕ) → IsFree w.lock s p → IsFree w.lock s q → IsFree w.lock s m → (n : ℕ) → IsOneOf (p ∷ q ∷ m ∷ []) n → IsFree w.lock s n
free_three w s p q m one two three n among = elim among [ inl is ↦ subst (IsFree w.lock s) (sym is) one | inr more ↦ free_two w s q m two three n more ]

-- the view after a put, with these locks
module _ (s : ℕ) (w : IndexView) (y : Spot) (t : IndexTuple) (these : List ℕ) (free : (p : ℕ) → IsOneOf these p → IsFree w.lock s p) where
  abbrev put_view : IndexView
  put_view = record w {
    tuple = tuple_with w.tuple y (Some t);
    lock = locks_after w s these free;
    pages = record w.pages { kind = number_with w.pages.kind y.block Regular };
  }

  puts_here : w.tuple y ≡ None → IsFree w.lock s y.block → PutsTuple s w put_view y t
  puts_here none target = record {
    tuple = record { was = none; now = tuple_here w.tuple y (Some t); others = tuple_there w.tuple y (Some t) };
    free = target;
    page = search (rules, number_here, number_there);
    frame = search (rules, after_others, after_taken);
  }

  locks_here : LocksThese put_view.lock s these
  locks_here = record { locked = after_locked w s these free; only = after_only w s these free }

-- the view after the next map page turns to a kind
module _ (s : ℕ) (w : IndexView) (kind : PageKind) (these : List ℕ) (free : (p : ℕ) → IsOneOf these p → IsFree w.lock s p) where
  abbrev kind_view : IndexView
  kind_view = record w {
    lock = locks_after w s these free;
    pages = record w.pages { kind = number_with w.pages.kind (next_map_page w.pages) kind };
  }

  kind_turns : TurnsKind s w kind_view kind these
  kind_turns = record {
    frame = search (rules, after_others, after_taken);
    page = search (rules, number_here, number_there);
    locks = record { locked = after_locked w s these free; only = after_only w s these free };
  }

module _ (s : ℕ) (w : IndexView) where
  abbrev count_view : IndexView
  count_view = record w { pages = record w.pages { map_pages = next_map_page w.pages }; lock = locks_after w s [] (free_none s w) }

  counts_here : CountsPage s w count_view
  counts_here = record {
    frame = search (rules, after_others, after_taken);
    pages = refl;
    none = λ p is. after_only w s [] (free_none s w) p is;
  }

  -- an unnamed tuple goes
  abbrev sweep_view : Spot → IndexView
  sweep_view x = record w {
    tuple = tuple_with w.tuple x None;
    unnamed = λ y. elim (place_is y x) as (λ _. Bool) [ inl is ↦ false | inr other ↦ w.unnamed y ];
    lock = locks_after w s [] (free_none s w);
  }

module _ (s range : ℕ) (w : IndexView) (slots : HasFreeSlots w.tuple) (blocks : HasBlocksOfRows w) (its : IsRangeOf w range) where
  look_map : LocksNone w.lock s → IsSummariseStuck w s range (NotBuilding Empty) → ⊥
  look_map none stuck = by (w.entry range) refl
    where
      by : (o : Option Spot) → w.entry range ≡ o → ⊥
      by None is = stuck (Maintaining range Vacant) w (ReadNoEntry is its (reads_here s w none))
      by (Some x) is = stuck (Maintaining range (NotBuilding (Held x))) w (LookMap x is (reads_here s w none))

  look_tuple : (x : Spot) → LocksNone w.lock s → IsSummariseStuck w s range (NotBuilding (Held x)) → ⊥
  look_tuple x none stuck = by (w.tuple x) refl
    where
      by_flag : (t : IndexTuple) → w.tuple x ≡ Some t → t.range ≡ range → (flag : Bool) → t.placeholder ≡ flag → ⊥
      by_flag t here of true is = stuck (Maintaining range (IsAt ExtentUnread Empty)) w (Found x t (here, of) is (reads_here s w none))
      by_flag t here of false is = stuck Holding w (IsFinal x t (here, of) is (reads_here s w none))

      by : (o : Option IndexTuple) → w.tuple x ≡ o → ⊥
      by None is = stuck (Maintaining range (NotBuilding Empty)) w (LookGone x (λ t here. absurd (none-some _ (sym is ∙ here))) (reads_here s w none))
      by (Some t) is = ⊎_elim
          (λ (of : t.range ≡ range). by_flag t is of t.placeholder refl)
          (λ (other : t.range ≢ range). stuck (Maintaining range (NotBuilding Empty)) w
          (LookGone x (λ u here of. other (ap (λ (q : IndexTuple). q.range) (same_Some _ _ (sym is ∙ here)) ∙ of)) (reads_here s w none)))
          (cases_eq t.range range)

  -- the placeholder is put, or waits, or lacks a page
  places : (IsPastMap w.pages range → ⊥) → IsSummariseStuck w s range Vacant → IsPhaseFree w s range Vacant → ⊥
  places long stuck free = some_put w slots s range (placeholder_length w range) by
    where
      puts : (y : Spot) → PutVerdict w s range (placeholder_length w range) (Puts y) → ⊥
      puts y (PutGoes _ target unlocked map) =
          let these = y.block ∷ map_page_of range ∷ [] in
          let free_all = free_two w s y.block (map_page_of range) unlocked map in
          let t = w.contents.empty range in
          stuck (Maintaining range (Placing y)) (put_view s w y t these free_all)
          (Put y t refl long (PutGoes y target unlocked map) (puts_here s w y t these free_all target.1.0 unlocked)
          (locks_here s w y t these free_all))

      by : (p : Verdict) → PutVerdict w s range (placeholder_length w range) p → ⊥
      by (Waits p) verdict = free.0 p (PlaceWaits p long verdict)
      by Differs verdict = elim verdict [ ]
      by Fits verdict = elim verdict [ ]
      by (Puts y) verdict = puts y verdict
      by (Full number) verdict = free.1 number (PlaceFull number long verdict)

  -- a page is emptied for the map
  evacuates : Grows w.pages range Emptying → IsSummariseStuck w s range Vacant → IsPhaseFree w s range Vacant → ⊥
  evacuates grows stuck free = ⊎_elim
      (λ (locked : (q : ℕ) × IsFirstLocked w.lock s (next_map_page w.pages ∷ 0 ∷ []) q). free.0 locked.0 (TurnWaits locked.0 grows none_next locked.1))
      (λ (both : IsFree w.lock s (next_map_page w.pages) × IsFree w.lock s 0).
      let free_all = free_two w s (next_map_page w.pages) 0 both.0 both.1 in
      stuck (Maintaining range Growing) (kind_view s w Mapping (next_map_page w.pages ∷ 0 ∷ []) free_all)
      (GrowMap Vacant Growing (Turn grows none_next both.0 both.1 (kind_turns s w Mapping (next_map_page w.pages ∷ 0 ∷ []) free_all))))
      (two_pages w s (next_map_page w.pages) 0)
    where
      moves : (x : Spot) (t : IndexTuple) → IsNextTuple w.tuple (next_map_page w.pages) x t → w.entry t.range ≡ Some x → IsFree w.lock s x.block → ⊥
      moves x t next named unlocked = some_put w slots s t.range (length t.bytes) by
        where
          puts : (y : Spot) → PutVerdict w s t.range (length t.bytes) (Puts y) → ⊥
          puts y (PutGoes _ target unlocked' map) =
              let these = x.block ∷ y.block ∷ map_page_of t.range ∷ [] in
              let free_all = free_three w s x.block y.block (map_page_of t.range) unlocked unlocked' map in
              stuck (Maintaining range (Evacuating t.range (Moving x y t t))) (put_view s w y t these free_all)
              (GrowMap Vacant (Evacuating t.range (Moving x y t t))
              (EvacuatePut x y t grows next named unlocked (PutGoes y target unlocked' map) (puts_here s w y t these free_all target.1.0 unlocked')
              (locks_here s w y t these free_all)))

          by : (p : Verdict) → PutVerdict w s t.range (length t.bytes) p → ⊥
          by (Waits p) verdict = free.0 p (EvacuatePutWaits p x t grows next named unlocked verdict)
          by Differs verdict = elim verdict [ ]
          by Fits verdict = elim verdict [ ]
          by (Puts y) verdict = puts y verdict
          by (Full number) verdict = free.1 number (EvacuateFull number x t grows next named unlocked verdict)

      sweeps : (x : Spot) (t : IndexTuple) → IsNextTuple w.tuple (next_map_page w.pages) x t → w.entry t.range ≢ Some x
          → IsFree w.lock s (next_map_page w.pages) → ⊥
      sweeps x t next unnamed unlocked = stuck (Maintaining range Vacant) (sweep_view s w x)
          (GrowMap Vacant Vacant (EvacuateSweep x t grows next (t, next.stands, unnamed) swept))
        where
          gone : (y : Spot) → y ≡ x → (sweep_view s w x).unnamed y ≡ false
          gone y is = by (place_is y x)
            where
              by : (d : (y ≡ x) ⊎ (y ≢ x)) → elim d as (λ _. Bool) [ inl at ↦ false | inr other ↦ w.unnamed y ] ≡ false
              by (inl at) = refl
              by (inr other) = absurd (other is)

          kept : (y : Spot) → y ≢ x → (sweep_view s w x).unnamed y ≡ w.unnamed y
          kept y not = by (place_is y x)
            where
              by : (d : (y ≡ x) ⊎ (y ≢ x)) → elim d as (λ _. Bool) [ inl at ↦ false | inr other ↦ w.unnamed y ] ≡ w.unnamed y
              by (inl at) = absurd (not at)
              by (inr other) = refl

          swept : SweepsTuples s w (sweep_view s w x) (next_map_page w.pages) (λ y. y ≡ x)
          swept = record {
            free = unlocked;
            gone = λ y is. (ap (tuple_with w.tuple x None) is ∙ tuple_here w.tuple x None, gone y is);
            places = λ y. ⊎_elim
                (λ (is : y ≡ x). inr (ap (λ (z : Spot). z.block) is ∙ next.on, is))
                (λ (other : y ≢ x). inl (
                  elim (tuple_there w.tuple x None y) [ inl is ↦ absurd (other is) | inr e ↦ e ],
                  kept y other,
                ))
                (place_is y x);
            page = search rules;
            frame = search (rules, after_others, after_taken);
            none = λ p is. after_only w s [] (free_none s w) p is;
          }

      named_or_not : (t : IndexTuple) (x : Spot) → (w.entry t.range ≡ Some x) ⊎ (w.entry t.range ≢ Some x)
      named_or_not t x = by (w.entry t.range) refl
        where
          by : (o : Option Spot) → w.entry t.range ≡ o → (w.entry t.range ≡ Some x) ⊎ (w.entry t.range ≢ Some x)
          by None is = inr (λ named. none-some _ (sym is ∙ named))
          by (Some y) is = elim (place_is y x) [ inl same ↦ inl (is ∙ ap Some same) | inr other ↦ inr (λ named. other (same_Some _ _ (sym is ∙ named))) ]

      none_next : (x : Spot) (t : IndexTuple) → IsNextTuple w.tuple (next_map_page w.pages) x t → ⊥
      none_next x t next = ⊎_elim
          (λ (locked : IsLocked w.lock s (next_map_page w.pages)). free.0 (next_map_page w.pages) (EvacuateWaits x t grows next locked))
          (λ (unlocked : IsFree w.lock s (next_map_page w.pages)). ⊎_elim
          (λ (named : w.entry t.range ≡ Some x). moves x t next named (subst (IsFree w.lock s) (sym next.on) unlocked))
          (λ (unnamed : w.entry t.range ≢ Some x). sweeps x t next unnamed unlocked)
          (named_or_not t x))
          (locked_or_free w s (next_map_page w.pages))

  -- the map grows, by the kind of its next page
  grows_by : (kind : PageKind) → Grows w.pages range kind → IsSummariseStuck w s range Vacant → IsPhaseFree w s range Vacant → ⊥
  grows_by Unstarted grows stuck free = ⊎_elim
      (λ (locked : (q : ℕ) × IsFirstLocked w.lock s (next_map_page w.pages ∷ 0 ∷ []) q). free.0 locked.0 (GrowWaits locked.0 grows locked.1))
      (λ (both : IsFree w.lock s (next_map_page w.pages) × IsFree w.lock s 0).
      let free_all = free_two w s (next_map_page w.pages) 0 both.0 both.1 in
      stuck (Maintaining range Growing) (kind_view s w Mapping (next_map_page w.pages ∷ 0 ∷ []) free_all)
      (GrowMap Vacant Growing (Grow grows both.0 both.1 (kind_turns s w Mapping (next_map_page w.pages ∷ 0 ∷ []) free_all))))
      (two_pages w s (next_map_page w.pages) 0)
  grows_by Mapping grows stuck free = ⊎_elim
      (λ (locked : IsLocked w.lock s 0). free.0 0 (CountWaits grows locked))
      (λ (meta : IsFree w.lock s 0).
      stuck (Maintaining range Vacant) (count_view s w) (GrowMap Vacant Vacant (CountLeftOver grows meta (counts_here s w))))
      (locked_or_free w s 0)
  grows_by Regular grows stuck free = ⊎_elim
      (λ (locked : IsLocked w.lock s (next_map_page w.pages)). free.0 (next_map_page w.pages) (FlagWaits grows locked))
      (λ (unlocked : IsFree w.lock s (next_map_page w.pages)).
      stuck (Maintaining range Vacant) (kind_view s w Emptying [] (free_none s w))
      (GrowMap Vacant Vacant (Flag grows unlocked (kind_turns s w Emptying [] (free_none s w)))))
      (locked_or_free w s (next_map_page w.pages))
  grows_by Emptying grows stuck free = evacuates grows stuck free

  vacant : IsSummariseStuck w s range Vacant → IsPhaseFree w s range Vacant → ⊥
  vacant stuck free = ⊎_elim
      (λ (past : w.pages.map_pages < map_page_of range). ⊎_elim
      (λ (low : next_map_page w.pages < w.pages.limit).
      grows_by (w.pages.kind (next_map_page w.pages)) (record { short = past; below = low; is = refl }) stuck free)
      (λ (full : w.pages.limit ≤ next_map_page w.pages). free.1 w.pages.limit (MapFull past full))
      (lt_or_ge (next_map_page w.pages) w.pages.limit))
      (λ (long : map_page_of range ≤ w.pages.map_pages). places (λ past. not-le_of_lt past long) stuck free)
      (lt_or_ge w.pages.map_pages (map_page_of range))

  -- the range's entry becomes a place, and the locks stay
  abbrev set_view : ℕ → Spot → IndexView
  set_view m y = record w { entry = number_with w.entry m (Some y) }

  places_named : (x : Spot) → IsSummariseStuck w s range (Placing x) → ⊥
  places_named x stuck =
      stuck (Maintaining range (IsAt ExtentUnread Empty))
      (record w { entry = number_with w.entry range (Some x); lock = locks_after w s [] (free_none s w) })
      (Set x
      (record {
        entry = record { now = number_here w.entry range (Some x); others = number_there w.entry range (Some x) };
        pages = refl;
        frame = search (rules, after_others, after_taken);
      })
      (λ p is. after_only w s [] (free_none s w) p is))

  evacuates_set : (m : ℕ) (x y : Spot) (t u : IndexTuple) → IsSummariseStuck w s range (Evacuating m (Moving x y t u)) → ⊥
  evacuates_set m x y t u stuck =
      stuck (Maintaining range (Evacuating m (Dropping x))) (set_view m y)
      (GrowMap (Evacuating m (Moving x y t u)) (Evacuating m (Dropping x)) (EvacuateSet m x y t u
      (record { entry = record { now = number_here w.entry m (Some y); others = number_there w.entry m (Some y) }; pages = refl; frame = search rules })
      (record { lock = λ p. refl })))

  sets_final : (p : Progress) (x y : Spot) (old new : IndexTuple) → IsSummariseStuck w s range (IsAt p (Moving x y old new)) → ⊥
  sets_final p x y old new stuck =
      stuck (Maintaining range (NotBuilding (Dropping x))) (set_view range y)
      (SetFinal p x y old new
      (record { entry = record { now = number_here w.entry range (Some y); others = number_there w.entry range (Some y) }; pages = refl; frame = search rules })
      (record { lock = λ p. refl }))

  -- a block is passed, or the placeholder is read again
  module _ (extent next : ℕ) (result : IndexTuple) where
    passes : LocksNone w.lock s → NamesPlaceholder w range → IsSummariseStuck w s range (IsAt (Passing extent next result) Empty) → ⊥
    passes none names stuck = ⊎_elim
        (λ (below : next < extent).
        let rows = blocks next in
        stuck (Maintaining range (IsAt (Passing extent (next + 1) (rows_added w.contents (w.row next) rows.0 result)) Empty)) w
        (Pass extent next rows.0 result (rows_added w.contents (w.row next) rows.0 result) below rows.1 refl (reads_here s w none)))
        (λ (all : extent ≤ next).
        stuck (Maintaining range (IsAt (Passing extent next result) (Held names.0))) w
        (Unite extent next result Empty (Held names.0) all (Maps names.0 names.2 (reads_here s w none))))
        (lt_or_ge next extent)

    unites : (x : Spot) → LocksNone w.lock s → extent ≤ next → IsSummariseStuck w s range (IsAt (Passing extent next result) (Held x)) → ⊥
    unites x none all stuck = by (w.tuple x) refl
      where
        gone : ((t : IndexTuple) → w.tuple x ≡ Some t → t.range ≢ range) → ⊥
        gone none_there =
            stuck (Maintaining range (IsAt (Passing extent next result) Empty)) w
            (Unite extent next result (Held x) Empty all (Gone x none_there (reads_here s w none)))

        by : (o : Option IndexTuple) → w.tuple x ≡ o → ⊥
        by None is = gone (λ t here. absurd (none-some _ (sym is ∙ here)))
        by (Some t) is = ⊎_elim
            (λ (of : t.range ≡ range).
            stuck (Maintaining range (IsAt (Passing extent next result) (Copied x t (w.contents.united t result)))) w
            (UniteCopies extent next result x t (w.contents.united t result) all (is, of) refl (reads_here s w none)))
            (λ (other : t.range ≢ range). gone (λ u here of. other (ap (λ (q : IndexTuple). q.range) (same_Some _ _ (sym is ∙ here)) ∙ of)))
            (cases_eq t.range range)

    finals : (x : Spot) (old new : IndexTuple) → LocksNone w.lock s → extent ≤ next
        → IsSummariseStuck w s range (IsAt (Passing extent next result) (Copied x old new))
        → IsPhaseFree w s range (IsAt (Passing extent next result) (Copied x old new)) → ⊥
    finals x old new none all stuck free = some_swap w slots s range x old new by
      where
        swaps : SwapVerdict w s range x old new Fits → ⊥
        swaps (SwapFits unlocked here kind fits) =
            stuck Holding (record w { tuple = tuple_with w.tuple x (Some new) })
            (SwapFinal (Passing extent next result) x old new (SwapFits unlocked here kind fits) (search (rules, tuple_here, tuple_there)))
        swaps (SwapMoves _ unlocked here must puts) = never puts
          where
            never : PutVerdict w s range (length new.bytes) Fits → ⊥
            never puts = elim puts [ ]

        moves : (y : Spot) → SwapVerdict w s range x old new (Puts y) → ⊥
        moves y (SwapMoves _ unlocked here must puts) = by_put puts
          where
            by_put : PutVerdict w s range (length new.bytes) (Puts y) → ⊥
            by_put (PutGoes _ target unlocked' map) =
                let these = x.block ∷ y.block ∷ map_page_of range ∷ [] in
                let free_all = free_three w s x.block y.block (map_page_of range) unlocked unlocked' map in
                stuck (Maintaining range (IsAt (Passing extent next result) (Moving x y old new))) (put_view s w y new these free_all)
                (Unite extent next result (Copied x old new) (Moving x y old new) all
                (MovePut x y old new (SwapMoves (Puts y) unlocked here must (PutGoes y target unlocked' map))
                (puts_here s w y new these free_all target.1.0 unlocked') (locks_here s w y new these free_all)))

        by : (q : Verdict) → SwapVerdict w s range x old new q → ⊥
        by (Waits q) verdict = free.0 q (FinalWaits q (Passing extent next result) x old new verdict)
        by Differs verdict =
            stuck (Maintaining range (IsAt (Passing extent next result) Empty)) w
            (Unite extent next result (Copied x old new) Empty all (Again x old new verdict (reads_here s w none)))
        by Fits verdict = swaps verdict
        by (Puts y) verdict = moves y verdict
        by (Full number) verdict = free.1 number (FinalFull number (Passing extent next result) x old new verdict)

  abbrev HasNoStep : Phase → Type 0
  HasNoStep phase = Knows w s (Maintaining range phase) → KnowsPages w s (Maintaining range phase) → IsSummariseStuck w s range phase
      → IsPhaseFree w s range phase → ⊥

  not_building : (on_index : OnIndex) → HasNoStep (NotBuilding on_index)
  not_building Empty known pages stuck free = look_map known.1 stuck
  not_building (Held x) known pages stuck free = look_tuple x known.1.0 stuck
  not_building (Copied x old new) known pages stuck free = known.1.3
  not_building (Moving x y old new) known pages stuck free = known.1.6
  not_building (Dropping x) known pages stuck free = stuck Holding (drops_view s w x) (DropOld x (drops_here s w x))

  evacuating : (m : ℕ) (on_index : OnIndex) → HasNoStep (Evacuating m on_index)
  evacuating m (Moving x y old new) known pages stuck free = evacuates_set m x y old new stuck
  evacuating m (Dropping x) known pages stuck free =
      stuck (Maintaining range Vacant) (drops_view s w x) (GrowMap (Evacuating m (Dropping x)) Vacant (EvacuateDrop m x (drops_here s w x)))
  evacuating m _ known pages stuck free = pages.1

  building : (p : Progress) (on_index : OnIndex) → HasNoStep (IsAt p on_index)
  building ExtentUnread Empty known pages stuck free =
      stuck (Maintaining range (IsAt (Passing (min w.blocks ((range + 1) * w.pages_per_range)) (range * w.pages_per_range) (w.contents.empty range)) Empty)) w
      (Extent (min w.blocks ((range + 1) * w.pages_per_range)) (w.contents.empty range) refl refl (reads_here s w known.1.0))
  building (Passing extent next result) Empty known pages stuck free = passes extent next result known.1.0 pages.1 stuck
  building (Passing extent next result) (Held x) known pages stuck free = unites extent next result x known.1.0.0 pages.3 stuck
  building (Passing extent next result) (Copied x old new) known pages stuck free = finals extent next result x old new known.1.0.0 pages.3 stuck free
  building (Passing extent next result) (Moving x y old new) known pages stuck free = sets_final (Passing extent next result) x y old new stuck
  building _ _ known pages stuck free = pages.3

  pub summarise_has_step : (phase : Phase) → HasNoStep phase
  summarise_has_step (NotBuilding on_index) known pages stuck free = not_building on_index known pages stuck free
  summarise_has_step Vacant known pages stuck free = vacant stuck free
  summarise_has_step Growing known pages stuck free =
      stuck (Maintaining range Vacant) (count_view s w) (GrowMap Growing Vacant (Count (counts_here s w)))
  summarise_has_step (Evacuating m on_index) known pages stuck free = evacuating m on_index known pages stuck free
  summarise_has_step (Placing x) known pages stuck free = places_named x stuck
  summarise_has_step (IsAt p on_index) known pages stuck free = building p on_index known pages stuck free
