-- A running insert or desummarise has a step on the index, or waits, or is refused: the steps are there to be made.
use Rattle.std.proofs.Common.{◌≡◌, ◌≢◌, ◌⊎◌, inl, inr, ⊎_elim, ℕ, Option, Some, None, sym, ◌∙◌, ap, subst, rules}
use Rattle.std.specs.Prelude.{refl, List, [], ◌∷◌, length}
use Rattle.std.proofs.lemmas.Option.{same_Some, none-some}
use Rattle.std.proofs.lemmas.Bool.{cases_eq}
use Rattle.block_model.specs.declared.row.Row.{Row}
use Rattle.block_model.specs.declared.place.Spot.{Spot}
use Rattle.coverage.specs.IndexView.{IndexTuple, Regular, IndexView, range_of_block, map_page_of}
use Rattle.coverage.specs.Changes.{IsFree}
use Rattle.coverage.specs.Verdicts.{IsLocked, HasFreeSlots, Verdict, Waits, Differs, Fits, Puts, Full, PutVerdict, PutGoes, SwapVerdict, SwapFits, SwapMoves}
use Rattle.coverage.specs.Verdicts.{ClearVerdict, ClearFits}
use Rattle.coverage.specs.Statements.{OnIndex, Empty, Held, Copied, Moving, Dropping, NotBuilding, Idle, Inserting, Maintaining, Holding}
use Rattle.coverage.specs.Knowing.{LocksNone, IsOneOf, Knows}
use Rattle.coverage.specs.Steps.{ReadsIndex, DropsTuple, InsertOnIndex, InsertNoEntry, InsertCopies, InsertUnchanged, InsertSwap, InsertSet, InsertDrop, Maps}
use Rattle.coverage.specs.Steps.{Gone, Again, MovePut, ClearMap, ClearNone, Clear, ClearAgain, DropCleared}
use Rattle.coverage.specs.Stuck.{IsInsertStuck, IsSwapFree, IsDesummariseStuck, IsClearFree}
use Rattle.coverage.proofs.Verdicts.{some_swap, some_clear}

-- a value that a decision gives
abbrev pub chosen : {A P : Type 0} → (d : P ⊎ (P → ⊥)) → A → A → A
chosen d a b = ⊎_elim (λ p. a) (λ lacks. b) d

pub chosen_yes : {A P : Type 0} → (d : P ⊎ (P → ⊥)) → (a b : A) → P → chosen d a b ≡ a
chosen_yes (inl p) a b is = refl
chosen_yes (inr lacks) a b is = absurd (lacks is)

pub chosen_no : {A P : Type 0} → (d : P ⊎ (P → ⊥)) → (a b : A) → (P → ⊥) → chosen d a b ≡ b
chosen_no (inl p) a b lacks = absurd (lacks p)
chosen_no (inr lacks') a b lacks = refl

pub place_is : (x y : Spot) → (x ≡ y) ⊎ (x ≢ y)
place_is x y = ⊎_elim
    (λ (block : x.block ≡ y.block). ⊎_elim
    (λ (slot : x.slot ≡ y.slot). inl (λ i. record { block = block i; slot = slot i }))
    (λ (other : x.slot ≢ y.slot). inr (λ e. other (ap (λ (z : Spot). z.slot) e)))
    (cases_eq x.slot y.slot))
    (λ (other : x.block ≢ y.block). inr (λ e. other (ap (λ (z : Spot). z.block) e)))
    (cases_eq x.block y.block)

pub one_of : (these : List ℕ) (p : ℕ) → IsOneOf these p ⊎ (IsOneOf these p → ⊥)
one_of [] p = inr (λ none. none)
one_of (q ∷ more) p = ⊎_elim
    (λ (is : p ≡ q). inl (inl is))
    (λ (other : p ≢ q). ⊎_elim
    (λ (later : IsOneOf more p). inl (inr later))
    (λ (none : IsOneOf more p → ⊥). inr (λ either. ⊎_elim (λ (is : p ≡ q). other is) (λ (later : IsOneOf more p). none later) either))
    (one_of more p))
    (cases_eq p q)

-- the session's locks become these, and those of others stay
module _ (w : IndexView) (s : ℕ) (these : List ℕ) (free : (p : ℕ) → IsOneOf these p → IsFree w.lock s p) where
  abbrev given : (p : ℕ) (o : Option ℕ) → Option ℕ
  given p None = None
  given p (Some n) = chosen (cases_eq n s) None (Some n)

  abbrev pub locks_after : ℕ → Option ℕ
  locks_after p = chosen (one_of these p) (Some s) (given p (w.lock p))

  given_not : (p : ℕ) (o : Option ℕ) → given p o ≢ Some s
  given_not p None is = none-some _ is
  given_not p (Some n) is = ⊎_elim
      (λ (own : n ≡ s). none-some _ (sym (chosen_yes (cases_eq n s) None (Some n) own) ∙ is))
      (λ (other : n ≢ s). other (same_Some _ _ (sym (chosen_no (cases_eq n s) None (Some n) other) ∙ is)))
      (cases_eq n s)

  given_other : (p n : ℕ) (o : Option ℕ) → n ≢ s → o ≡ Some n → given p o ≡ Some n
  given_other p n None other is = absurd (none-some _ is)
  given_other p n (Some m) other is = chosen_no (cases_eq m s) None (Some m) (λ own. other (sym (same_Some _ _ is) ∙ own)) ∙ is

  given_back : (p n : ℕ) (o : Option ℕ) → given p o ≡ Some n → o ≡ Some n
  given_back p n None is = absurd (none-some _ is)
  given_back p n (Some m) is = ⊎_elim
      (λ (own : m ≡ s). absurd (none-some _ (sym (chosen_yes (cases_eq m s) None (Some m) own) ∙ is)))
      (λ (other : m ≢ s). sym (chosen_no (cases_eq m s) None (Some m) other) ∙ is)
      (cases_eq m s)

  pub after_locked : (p : ℕ) → IsOneOf these p → locks_after p ≡ Some s
  after_locked p is = chosen_yes (one_of these p) (Some s) (given p (w.lock p)) is

  pub after_only : (p : ℕ) → locks_after p ≡ Some s → IsOneOf these p
  after_only p is = ⊎_elim
      (λ (one : IsOneOf these p). one)
      (λ (lacks : IsOneOf these p → ⊥). absurd (given_not p (w.lock p) (sym (chosen_no (one_of these p) (Some s) (given p (w.lock p)) lacks) ∙ is)))
      (one_of these p)

  pub after_others : (p n : ℕ) → w.lock p ≡ Some n → n ≢ s → locks_after p ≡ Some n
  after_others p n is other = ⊎_elim
      (λ (one : IsOneOf these p). absurd (other (free p one n is)))
      (λ (lacks : IsOneOf these p → ⊥). chosen_no (one_of these p) (Some s) (given p (w.lock p)) lacks ∙ given_other p n (w.lock p) other is)
      (one_of these p)

  pub after_taken : (p n : ℕ) → locks_after p ≡ Some n → n ≢ s → w.lock p ≡ Some n
  after_taken p n is other = ⊎_elim
      (λ (one : IsOneOf these p). absurd (other (same_Some _ _ (sym is ∙ after_locked p one))))
      (λ (lacks : IsOneOf these p → ⊥). given_back p n (w.lock p) (sym (chosen_no (one_of these p) (Some s) (given p (w.lock p)) lacks) ∙ is))
      (one_of these p)

-- a tuple at a place, an entry of a range, a kind of a page
abbrev pub tuple_with : (Spot → Option IndexTuple) → Spot → Option IndexTuple → Spot → Option IndexTuple
tuple_with f x o y = chosen (place_is y x) o (f y)

pub tuple_here : (f : Spot → Option IndexTuple) (x : Spot) (o : Option IndexTuple) → tuple_with f x o x ≡ o
tuple_here f x o = chosen_yes (place_is x x) o (f x) refl

pub tuple_there : (f : Spot → Option IndexTuple) (x : Spot) (o : Option IndexTuple) (y : Spot) → (y ≡ x) ⊎ (tuple_with f x o y ≡ f y)
tuple_there f x o y = ⊎_elim (λ (is : y ≡ x). inl is) (λ (other : y ≢ x). inr (chosen_no (place_is y x) o (f y) other)) (place_is y x)

abbrev pub number_with : {A : Type 0} → (ℕ → A) → ℕ → A → ℕ → A
number_with f n a m = chosen (cases_eq m n) a (f m)

pub number_here : {A : Type 0} → (f : ℕ → A) (n : ℕ) (a : A) → number_with f n a n ≡ a
number_here f n a = chosen_yes (cases_eq n n) a (f n) refl

pub number_there : {A : Type 0} → (f : ℕ → A) (n : ℕ) (a : A) (m : ℕ) → (m ≡ n) ⊎ (number_with f n a m ≡ f m)
number_there f n a m = ⊎_elim (λ (is : m ≡ n). inl is) (λ (other : m ≢ n). inr (chosen_no (cases_eq m n) a (f m) other)) (cases_eq m n)

module _ (s : ℕ) (w : IndexView) where
  -- nothing changes, and the session locks no page
  pub reads_here : LocksNone w.lock s → ReadsIndex s w w
  reads_here none = search rules

  pub free_none : (p : ℕ) → IsOneOf [] p → IsFree w.lock s p
  free_none p among = absurd among

  -- the tuple at a place goes, and the locks are given
  abbrev pub drops_view : Spot → IndexView
  drops_view x = record w { tuple = tuple_with w.tuple x None; lock = locks_after w s [] free_none }

  pub drops_here : (x : Spot) → DropsTuple s w (drops_view x) x
  drops_here x = search (rules, tuple_here, tuple_there, after_others, after_taken, after_only)

module _ (s b k : ℕ) (r : Row) (w : IndexView) where
  empty_steps : LocksNone w.lock s → IsInsertStuck w s b k r Empty → ⊥
  empty_steps none stuck = by (w.entry (range_of_block w b)) refl
    where
      by : (o : Option Spot) → w.entry (range_of_block w b) ≡ o → ⊥
      by None is = stuck Idle w (InsertNoEntry is (reads_here s w none))
      by (Some x) is = stuck (Inserting b k r (Held x)) w (InsertOnIndex Empty (Held x) (Maps x is (reads_here s w none)))

  held_steps : (x : Spot) → LocksNone w.lock s → IsInsertStuck w s b k r (Held x) → ⊥
  held_steps x none stuck = by (w.tuple x) refl
    where
      -- with the row in the tuple already, another session's lock of its page decides
      unchanged : (t : IndexTuple) → w.tuple x ≡ Some t → t.range ≡ range_of_block w b → t ≡ w.contents.added r t → ⊥
      unchanged t is of same = by_lock (w.lock x.block) refl
        where
          copies : IsLocked w.lock s x.block → ⊥
          copies locked =
              stuck (Inserting b k r (Copied x t (w.contents.added r t))) w
              (InsertCopies x t (w.contents.added r t) (is, of) refl (inr locked) (reads_here s w none))

          completes : IsFree w.lock s x.block → ⊥
          completes free = stuck Idle w (InsertUnchanged x t (is, of) same free (reads_here s w none))

          by_lock : (o : Option ℕ) → w.lock x.block ≡ o → ⊥
          by_lock None free = completes (λ n held. absurd (none-some _ (sym free ∙ held)))
          by_lock (Some n) held = ⊎_elim
              (λ (own : n ≡ s). completes (λ m held'. same_Some _ _ (sym held' ∙ held) ∙ own))
              (λ (other : n ≢ s). copies (n, held, other))
              (cases_eq n s)

      by : (o : Option IndexTuple) → w.tuple x ≡ o → ⊥
      by None is =
          stuck (Inserting b k r Empty) w (InsertOnIndex (Held x) Empty (Gone x (λ t here. absurd (none-some _ (sym is ∙ here))) (reads_here s w none)))
      by (Some t) is = ⊎_elim
          (λ (of : t.range ≡ range_of_block w b).
          stuck (Inserting b k r (Copied x t (w.contents.added r t))) w
          (InsertCopies x t (w.contents.added r t) (is, of) refl (inl (λ same. unchanged t is of (sym same))) (reads_here s w none)))
          (λ (other : t.range ≢ range_of_block w b). stuck (Inserting b k r Empty) w
          (InsertOnIndex (Held x) Empty
          (Gone x (λ u here of. other (ap (λ (q : IndexTuple). q.range) (same_Some _ _ (sym is ∙ here)) ∙ of)) (reads_here s w none))))
          (cases_eq t.range (range_of_block w b))

  -- the copied tuple is judged again
  copied_steps : HasFreeSlots w.tuple → (x : Spot) (old new : IndexTuple) → LocksNone w.lock s → IsInsertStuck w s b k r (Copied x old new)
      → ((number : ℕ) → SwapVerdict w s (range_of_block w b) x old new (Full number) → ⊥) → ((p : ℕ) → SwapVerdict w s (range_of_block w b) x old new (Waits p) → ⊥) → ⊥
  copied_steps slots x old new none stuck room free = some_swap w slots s (range_of_block w b) x old new by
    where
      swaps : SwapVerdict w s (range_of_block w b) x old new Fits → ⊥
      swaps verdict = by_fit verdict
        where
          by_fit : SwapVerdict w s (range_of_block w b) x old new Fits → ⊥
          by_fit (SwapFits unlocked here kind fits) = stuck Idle (record w { tuple = tuple_with w.tuple x (Some new) }) (InsertSwap x old new verdict (search (rules, tuple_here, tuple_there)))
          by_fit (SwapMoves _ unlocked here must puts) = none_fits puts
            where
              none_fits : PutVerdict w s (range_of_block w b) (length new.bytes) Fits → ⊥
              none_fits puts = elim puts [ ]

      moves : (y : Spot) → SwapVerdict w s (range_of_block w b) x old new (Puts y) → ⊥
      moves y verdict = by_move verdict
        where
          all_free : IsFree w.lock s x.block → IsFree w.lock s y.block → IsFree w.lock s (map_page_of (range_of_block w b)) → (p : ℕ)
              → IsOneOf (x.block ∷ y.block ∷ map_page_of (range_of_block w b) ∷ []) p → IsFree w.lock s p
          all_free one two three p among = ⊎_elim
              (λ (is : p ≡ x.block). subst (IsFree w.lock s) (sym is) one)
              (λ (more : (p ≡ y.block) ⊎ ((p ≡ map_page_of (range_of_block w b)) ⊎ ⊥)). ⊎_elim
              (λ (is : p ≡ y.block). subst (IsFree w.lock s) (sym is) two)
              (λ (last : (p ≡ map_page_of (range_of_block w b)) ⊎ ⊥).
              ⊎_elim (λ (is : p ≡ map_page_of (range_of_block w b)). subst (IsFree w.lock s) (sym is) three) (λ (never : ⊥). absurd never) last)
              more)
              among

          by_move : SwapVerdict w s (range_of_block w b) x old new (Puts y) → ⊥
          by_move (SwapMoves _ unlocked here must puts) = by_put puts
            where
              by_put : PutVerdict w s (range_of_block w b) (length new.bytes) (Puts y) → ⊥
              by_put (PutGoes _ target unlocked' map) =
                  let free_all = all_free unlocked unlocked' map in
                  stuck (Inserting b k r (Moving x y old new)) (record w {
                    tuple = tuple_with w.tuple y (Some new);
                    lock = locks_after w s (x.block ∷ y.block ∷ map_page_of (range_of_block w b) ∷ []) free_all;
                    pages = record w.pages { kind = number_with w.pages.kind y.block Regular };
                  }) (InsertOnIndex (Copied x old new) (Moving x y old new) (MovePut x y old new verdict
                  (record {
                    tuple = record { was = target.1.0; now = tuple_here w.tuple y (Some new); others = tuple_there w.tuple y (Some new) };
                    free = unlocked';
                    page = search (rules, number_here, number_there);
                    frame = search (rules, after_others, after_taken);
                  })
                  (record {
                    locked = after_locked w s (x.block ∷ y.block ∷ map_page_of (range_of_block w b) ∷ []) free_all;
                    only = after_only w s (x.block ∷ y.block ∷ map_page_of (range_of_block w b) ∷ []) free_all;
                  })))

      by : (p : Verdict) → SwapVerdict w s (range_of_block w b) x old new p → ⊥
      by (Waits p) verdict = free p verdict
      by Differs verdict = stuck (Inserting b k r Empty) w (InsertOnIndex (Copied x old new) Empty (Again x old new verdict (reads_here s w none)))
      by Fits verdict = swaps verdict
      by (Puts y) verdict = moves y verdict
      by (Full number) verdict = room number verdict

  -- the map names the new tuple
  moving_steps : (x y : Spot) (old new : IndexTuple) → IsInsertStuck w s b k r (Moving x y old new) → ⊥
  moving_steps x y old new stuck =
      stuck (Inserting b k r (Dropping x)) (record w { entry = number_with w.entry (range_of_block w b) (Some y) }) (InsertSet x y old new
      (record {
        entry = record { now = number_here w.entry (range_of_block w b) (Some y); others = number_there w.entry (range_of_block w b) (Some y) };
        pages = refl;
        frame = search rules;
      })
      (record { lock = λ p. refl }))

  dropping_steps : (x : Spot) → IsInsertStuck w s b k r (Dropping x) → ⊥
  dropping_steps x stuck = stuck Idle (drops_view s w x) (InsertDrop x (drops_here s w x))

  pub insert_has_step : HasFreeSlots w.tuple → (on_index : OnIndex) → Knows w s (Inserting b k r on_index) → IsInsertStuck w s b k r on_index
      → IsSwapFree w s (range_of_block w b) on_index → ⊥
  insert_has_step slots Empty known stuck others = empty_steps known.2 stuck
  insert_has_step slots (Held x) known stuck others = held_steps x known.2.0 stuck
  insert_has_step slots (Copied x old new) known stuck others =
      let other = others x old new refl in copied_steps slots x old new known.2.0 stuck other.0 other.1
  insert_has_step slots (Moving x y old new) known stuck others = moving_steps x y old new stuck
  insert_has_step slots (Dropping x) known stuck others = dropping_steps x stuck

module _ (s range : ℕ) (w : IndexView) where
  clear_empty : LocksNone w.lock s → IsDesummariseStuck w s range Empty → ⊥
  clear_empty none stuck = by (w.entry range) refl
    where
      by : (o : Option Spot) → w.entry range ≡ o → ⊥
      by None is = stuck Holding w (ClearNone is (reads_here s w none))
      by (Some x) is = stuck (Maintaining range (NotBuilding (Held x))) w (ClearMap x is (reads_here s w none))

  clear_held : (x : Spot) → LocksNone w.lock s → IsDesummariseStuck w s range (Held x) → ((p : ℕ) → ClearVerdict w s range x (Waits p) → ⊥) → ⊥
  clear_held x none stuck free = some_clear w s range x by
    where
      clears : ClearVerdict w s range x Fits → ⊥
      clears (ClearFits unlocked map names) =
          let free_all : (p : ℕ) → IsOneOf (x.block ∷ map_page_of range ∷ []) p → IsFree w.lock s p = λ p among. ⊎_elim
          (λ (is : p ≡ x.block). subst (IsFree w.lock s) (sym is) unlocked)
          (λ (more : (p ≡ map_page_of range) ⊎ ⊥). ⊎_elim (λ (is : p ≡ map_page_of range). subst (IsFree w.lock s) (sym is) map) (λ (never : ⊥). absurd never) more)
          among in
          stuck (Maintaining range (NotBuilding (Dropping x)))
          (record w { entry = number_with w.entry range None; lock = locks_after w s (x.block ∷ map_page_of range ∷ []) free_all })
          (Clear x (ClearFits unlocked map names)
          (record {
            entry = record { was = names; now = number_here w.entry range None; others = number_there w.entry range None };
            free = unlocked;
            pages = refl;
            frame = search (rules, after_others, after_taken);
          })
          (record { locked = after_locked w s (x.block ∷ map_page_of range ∷ []) free_all; only = after_only w s (x.block ∷ map_page_of range ∷ []) free_all }))

      by : (p : Verdict) → ClearVerdict w s range x p → ⊥
      by (Waits p) verdict = free p verdict
      by Differs verdict = stuck (Maintaining range (NotBuilding Empty)) w (ClearAgain x verdict (reads_here s w none))
      by Fits verdict = clears verdict
      by (Puts y) verdict = elim verdict [ ]
      by (Full number) verdict = elim verdict [ ]

  clear_dropping : (x : Spot) → IsDesummariseStuck w s range (Dropping x) → ⊥
  clear_dropping x stuck = stuck Holding (drops_view s w x) (DropCleared x (drops_here s w x))

  pub desummarise_has_step : (on_index : OnIndex) → Knows w s (Maintaining range (NotBuilding on_index)) → IsDesummariseStuck w s range on_index
      → IsClearFree w s range on_index → ⊥
  desummarise_has_step Empty known stuck free = clear_empty known.1 stuck
  desummarise_has_step (Held x) known stuck free = clear_held x known.1.0 stuck (λ p verdict. free x p refl verdict)
  desummarise_has_step (Copied x old new) known stuck free = known.1.3
  desummarise_has_step (Moving x y old new) known stuck free = known.1.6
  desummarise_has_step (Dropping x) known stuck free = clear_dropping x stuck
