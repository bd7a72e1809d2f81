-- What each step of a summarise and of a desummarise makes of an index in which no other session locks a page.
use Rattle.std.proofs.Common.{◌≡◌, inl, inr, ⊎_elim, ℕ, ◌+◌, ◌*◌, ◌≤◌, ◌<◌, min, Option, Some, None, false, List, [], ◌∷◌, length, refl, sym, ◌∙◌, ap}
use Rattle.std.proofs.lemmas.Option.{same_Some, none-some}
use Rattle.block_model.specs.declared.place.Spot.{Spot}
use Rattle.block_model.specs.declared.reply.Point.TheVariants as points
use Rattle.coverage.specs.Changes.{OwnLocks, TouchesEntries, TouchesTuples, Frame}
use Rattle.coverage.specs.IndexPart.{IndexPart, part_of, with_part, SummariseMakes, DesummariseMakes}
use Rattle.coverage.specs.IndexView.{Building, IndexTuple, ExtentUnread, Passing, Regular, IndexView, IsPastMap, IsRangeOf, map_page_of, placeholder_length}
use Rattle.coverage.specs.Knowing.{IsOneOf, LocksNone, LocksThese}
use Rattle.coverage.specs.Rooms.{bytes_of, place_room}
use Rattle.coverage.specs.Statements.{Empty, Held, Copied, Dropping, NotBuilding, Vacant, Placing, IsAt, Maintaining, Holding, HasNoMoreRows, rows_added}
use Rattle.coverage.specs.Steps.{ReadsIndex, Stands, ReadNoEntry, LookMap, IsFinal, Put, Set, Extent, Pass, Unite, UniteCopies, SwapFinal}
use Rattle.coverage.specs.Steps.{Maps, ClearMap, ClearNone, Clear, DropCleared}
use Rattle.coverage.specs.Verdicts.{IsTargetPlace, PutGoes, SwapFits, ClearFits}
use Rattle.coverage.proofs.SmallIndex.{at_number, at_here, at_other, placed, placed_others}

pub placed_here : (y : Spot) (o : Option IndexTuple) (f : Spot → Option IndexTuple) → placed y o f y ≡ o
placed_here y o f = at_here y.block (at_number y.slot y.slot o (f y)) (f y) ∙ at_here y.slot o (f y)

-- the session locks these pages, and nobody any other
abbrev pub locks_of : ℕ → List ℕ → ℕ → Option ℕ
locks_of n [] p = None
locks_of n (q ∷ more) p = at_number p q (Some n) (locks_of n more p)

at_same : {A : Type 0} → (n m : ℕ) (a b : A) → n ≡ m → at_number n m a b ≡ a
at_same n m a b is = ap (λ k. at_number k m a b) is ∙ at_here m a b

pub own_locks : (s : ℕ) (these : List ℕ) (p m : ℕ) → locks_of s these p ≡ Some m → m ≡ s
own_locks s [] p m is = absurd (none-some _ is)
own_locks s (q ∷ more) p m is = ⊎_elim
    (λ (at : p ≡ q). sym (same_Some _ _ (sym (at_same p q (Some s) (locks_of s more p) at) ∙ is)))
    (λ (e : locks_of s (q ∷ more) p ≡ locks_of s more p). own_locks s more p m (sym e ∙ is))
    (at_other p q (Some s) (locks_of s more p))

locked_by : (s : ℕ) (these : List ℕ) (p : ℕ) → IsOneOf these p → locks_of s these p ≡ Some s
locked_by s [] p one = absurd one
locked_by s (q ∷ more) p one = ⊎_elim
    (λ (at : p ≡ q). at_same p q (Some s) (locks_of s more p) at)
    (λ (rest : IsOneOf more p). ⊎_elim
    (λ (at : p ≡ q). at_same p q (Some s) (locks_of s more p) at)
    (λ (e : locks_of s (q ∷ more) p ≡ locks_of s more p). e ∙ locked_by s more p rest)
    (at_other p q (Some s) (locks_of s more p)))
    one

only_by : (s : ℕ) (these : List ℕ) (p : ℕ) → locks_of s these p ≡ Some s → IsOneOf these p
only_by s [] p is = absurd (none-some _ is)
only_by s (q ∷ more) p is = ⊎_elim
    (λ (at : p ≡ q). inl at)
    (λ (e : locks_of s (q ∷ more) p ≡ locks_of s more p). inr (only_by s more p (sym e ∙ is)))
    (at_other p q (Some s) (locks_of s more p))

these_locks : (s : ℕ) (these : List ℕ) → LocksThese (locks_of s these) s these
these_locks s these = record { locked = λ p one. locked_by s these p one; only = λ p is. only_by s these p is }

abbrev pub no_locks : ℕ → Option ℕ
no_locks p = None

pub locks_none : (s : ℕ) → LocksNone no_locks s
locks_none s p is = none-some _ is

-- no other session locks a page
abbrev pub AreOwn : ℕ → (ℕ → Option ℕ) → Type 0
AreOwn s lock = (p m : ℕ) → lock p ≡ Some m → m ≡ s

pub own_on : (s : ℕ) (old new : ℕ → Option ℕ) → AreOwn s old → AreOwn s new → OwnLocks s old new
own_on s old new mine its = record { others = λ p m is other. absurd (other (mine p m is)); taken = λ p m is other. absurd (other (its p m is)) }

pub none_own : (s : ℕ) → AreOwn s no_locks
none_own s p m is = absurd (none-some _ is)

module _ (s range : ℕ) (u : IndexView) (mine : AreOwn s u.lock) where
  reads : LocksNone u.lock s → (building : ℕ → Option Building) (loose : ℕ → Option Spot) → ReadsIndex s u (with_part u (part_of u) building loose)
  reads none building loose = record {
    frame = record {
      heap = record { pages_per_range = refl; blocks = refl; row = λ b k. refl };
      map = record { entry = λ m. refl };
      tuples = record { tuple = λ x. refl };
      unnamed_tuples = record { unnamed = λ x. refl };
      summarise_lock = refl;
      locks = own_on s u.lock u.lock mine mine;
      contents = refl;
    };
    pages = refl;
    none = none;
  }

  tuples_frame : (p : IndexPart) → p.entry ≡ u.entry → p.unnamed ≡ u.unnamed → AreOwn s p.lock → (building : ℕ → Option Building) (loose : ℕ → Option Spot)
      → Frame s TouchesTuples u (with_part u p building loose)
  tuples_frame p entry unnamed its building loose = record {
    heap = record { pages_per_range = refl; blocks = refl; row = λ b k. refl };
    map = record { entry = λ m. ap (λ f. f m) entry };
    tuples = tt;
    unnamed_tuples = record { unnamed = λ x. ap (λ f. f x) unnamed };
    summarise_lock = refl;
    locks = own_on s u.lock p.lock mine its;
    contents = refl;
  }

  entries_frame : (p : IndexPart) → p.tuple ≡ u.tuple → p.unnamed ≡ u.unnamed → AreOwn s p.lock → (building : ℕ → Option Building) (loose : ℕ → Option Spot)
      → Frame s TouchesEntries u (with_part u p building loose)
  entries_frame p tuple unnamed its building loose = record {
    heap = record { pages_per_range = refl; blocks = refl; row = λ b k. refl };
    map = tt;
    tuples = record { tuple = λ x. ap (λ f. f x) tuple };
    unnamed_tuples = record { unnamed = λ x. ap (λ f. f x) unnamed };
    summarise_lock = refl;
    locks = own_on s u.lock p.lock mine its;
    contents = refl;
  }

  -- what the steps make of the index
  abbrev pub put_part : Spot → IndexTuple → IndexPart
  put_part y t = record {
    entry = u.entry;
    tuple = placed y (Some t) u.tuple;
    pages = record u.pages { kind = λ p. at_number p y.block Regular (u.pages.kind p) };
    lock = locks_of s (y.block ∷ map_page_of range ∷ []);
    unnamed = u.unnamed;
  }

  abbrev pub set_part : Option Spot → List ℕ → IndexPart
  set_part o these = record { entry = λ m. at_number m range o (u.entry m); tuple = u.tuple; pages = u.pages; lock = locks_of s these; unnamed = u.unnamed }

  abbrev pub tuple_part : Spot → Option IndexTuple → IndexPart
  tuple_part y o = record { entry = u.entry; tuple = placed y o u.tuple; pages = u.pages; lock = no_locks; unnamed = u.unnamed }

  pub makes_no_entry : LocksNone u.lock s → u.entry range ≡ None → IsRangeOf u range
      → SummariseMakes s range u (part_of u) (NotBuilding Empty) (Maintaining range Vacant) points.Map 0
  makes_no_entry none empty of building loose = (ReadNoEntry empty of (reads none building loose), refl, refl)

  pub makes_look : LocksNone u.lock s → (x : Spot) → u.entry range ≡ Some x
      → SummariseMakes s range u (part_of u) (NotBuilding Empty) (Maintaining range (NotBuilding (Held x))) points.Map 0
  makes_look none x named building loose = (LookMap x named (reads none building loose), refl, refl)

  pub makes_final : LocksNone u.lock s → (x : Spot) (t : IndexTuple) → Stands u range x t → t.placeholder ≡ false
      → SummariseMakes s range u (part_of u) (NotBuilding (Held x)) Holding points.Tuple 0
  makes_final none x t stands final building loose = (IsFinal x t stands final (reads none building loose), refl, refl)

  pub makes_put : (y : Spot) → (IsPastMap u.pages range → ⊥) → IsTargetPlace u.pages u.tuple (placeholder_length u range) y
      → SummariseMakes s range u (put_part y (u.contents.empty range)) Vacant (Maintaining range (Placing y)) points.Put 0
  makes_put y mapped target building loose = (
    Put y (u.contents.empty range) refl mapped (PutGoes y target (λ m is. mine y.block m is) (λ m is. mine (map_page_of range) m is)) (record {
      tuple = record { was = target.1.0; now = placed_here y (Some (u.contents.empty range)) u.tuple; others = placed_others y (Some (u.contents.empty range)) u.tuple };
      free = λ m is. mine y.block m is;
      page = record {
        now = at_here y.block Regular (u.pages.kind y.block);
        kinds = λ p. at_other p y.block Regular (u.pages.kind p);
        map_pages = refl;
        limit = refl;
      };
      frame = tuples_frame (put_part y (u.contents.empty range)) refl refl (own_locks s (y.block ∷ map_page_of range ∷ [])) building loose;
    }) (these_locks s (y.block ∷ map_page_of range ∷ [])),
    refl,
    refl,
  )

  pub makes_set : (y : Spot) → SummariseMakes s range u (set_part (Some y) []) (Placing y) (Maintaining range (IsAt ExtentUnread Empty)) points.Set 0
  makes_set y building loose = (
    Set y (record {
      entry = record { now = at_here range (Some y) (u.entry range); others = λ m. at_other m range (Some y) (u.entry m) };
      pages = refl;
      frame = entries_frame (set_part (Some y) []) refl refl (none_own s) building loose;
    }) (locks_none s),
    refl,
    refl,
  )

  pub makes_extent : LocksNone u.lock s → (extent : ℕ) → extent ≡ min u.blocks ((range + 1) * u.pages_per_range)
      → SummariseMakes s range u (part_of u) (IsAt ExtentUnread Empty) (Maintaining range (IsAt (Passing extent (range * u.pages_per_range) (u.contents.empty range)) Empty)) points.Extent 0
  makes_extent none extent is building loose = (Extent extent (u.contents.empty range) refl is (reads none building loose), refl, refl)

  pub makes_pass : LocksNone u.lock s → (extent next slots : ℕ) (result : IndexTuple) → next < extent → HasNoMoreRows (u.row next) slots
      → SummariseMakes s range u (part_of u) (IsAt (Passing extent next result) Empty)
      (Maintaining range (IsAt (Passing extent (next + 1) (rows_added u.contents (u.row next) slots result)) Empty)) points.Pass 0
  makes_pass none extent next slots result less no_more building loose =
      (Pass extent next slots result (rows_added u.contents (u.row next) slots result) less no_more refl (reads none building loose), refl, refl)

  pub makes_map : LocksNone u.lock s → (extent next : ℕ) (result : IndexTuple) (x : Spot) → extent ≤ next → u.entry range ≡ Some x
      → SummariseMakes s range u (part_of u) (IsAt (Passing extent next result) Empty) (Maintaining range (IsAt (Passing extent next result) (Held x))) points.Map 0
  makes_map none extent next result x all named building loose = (Unite extent next result Empty (Held x) all (Maps x named (reads none building loose)), refl, refl)

  pub makes_copy : LocksNone u.lock s → (extent next : ℕ) (result : IndexTuple) (x : Spot) (old : IndexTuple) → extent ≤ next → Stands u range x old
      → SummariseMakes s range u (part_of u) (IsAt (Passing extent next result) (Held x))
      (Maintaining range (IsAt (Passing extent next result) (Copied x old (u.contents.united old result)))) points.Copy 0
  makes_copy none extent next result x old all stands building loose =
      (UniteCopies extent next result x old (u.contents.united old result) all stands refl (reads none building loose), refl, refl)

  pub makes_swap : (extent next : ℕ) (result : IndexTuple) (x : Spot) (old new : IndexTuple) → u.tuple x ≡ Some old → u.pages.kind x.block ≡ Regular
      → length new.bytes ≤ place_room (bytes_of u.tuple) x
      → SummariseMakes s range u (tuple_part x (Some new)) (IsAt (Passing extent next result) (Copied x old new)) Holding points.Swap 1
  makes_swap extent next result x old new stands regular fits building loose = (
    SwapFinal (Passing extent next result) x old new (SwapFits (λ m is. mine x.block m is) stands regular fits) (record {
      tuple = record { was = stands; now = placed_here x (Some new) u.tuple; others = placed_others x (Some new) u.tuple };
      free = λ m is. mine x.block m is;
      page = record { now = regular; kinds = λ p. inr refl; map_pages = refl; limit = refl };
      frame = tuples_frame (tuple_part x (Some new)) refl refl (none_own s) building loose;
      none = locks_none s;
    }),
    refl,
    refl,
  )

  -- a desummarise
  pub clears_map : LocksNone u.lock s → (x : Spot) → u.entry range ≡ Some x
      → DesummariseMakes s range u (part_of u) (NotBuilding Empty) (Maintaining range (NotBuilding (Held x))) points.Map 0
  clears_map none x named building loose = (ClearMap x named (reads none building loose), refl, refl)

  pub clears_none : LocksNone u.lock s → u.entry range ≡ None → DesummariseMakes s range u (part_of u) (NotBuilding Empty) Holding points.Map 0
  clears_none none empty building loose = (ClearNone empty (reads none building loose), refl, refl)

  pub clears : (x : Spot) → u.entry range ≡ Some x
      → DesummariseMakes s range u (set_part None (x.block ∷ map_page_of range ∷ [])) (NotBuilding (Held x)) (Maintaining range (NotBuilding (Dropping x))) points.Clear 1
  clears x named building loose = (
    Clear x (ClearFits (λ m is. mine x.block m is) (λ m is. mine (map_page_of range) m is) named) (record {
      entry = record { was = named; now = at_here range None (u.entry range); others = λ m. at_other m range None (u.entry m) };
      free = λ m is. mine x.block m is;
      pages = refl;
      frame = entries_frame (set_part None (x.block ∷ map_page_of range ∷ [])) refl refl (own_locks s (x.block ∷ map_page_of range ∷ [])) building loose;
    }) (these_locks s (x.block ∷ map_page_of range ∷ [])),
    refl,
    refl,
  )

  pub clears_drop : (x : Spot) → DesummariseMakes s range u (tuple_part x None) (NotBuilding (Dropping x)) Holding points.Drop 0
  clears_drop x building loose = (
    DropCleared x (record {
      tuple = record { now = placed_here x None u.tuple; others = placed_others x None u.tuple };
      page = record { now = refl; kinds = λ p. inr refl; map_pages = refl; limit = refl };
      frame = tuples_frame (tuple_part x None) refl refl (none_own s) building loose;
      none = locks_none s;
    }),
    refl,
    refl,
  )
