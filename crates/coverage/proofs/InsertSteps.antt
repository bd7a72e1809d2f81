-- What a step of an insert leaves.
use Rattle.std.proofs.Common.{◌≡◌, ◌≢◌, ◌⊎◌, inl, inr, ⊎_elim, ℕ, ◌/◌, Some, Bool, sym, ◌∙◌, ap, subst, arith}
use Rattle.std.specs.Prelude.{refl, IsTrue}
use Rattle.std.proofs.lemmas.Option.{same_Some, none-some}
use Rattle.std.proofs.lemmas.Bool.{false≢true}
use Rattle.block_model.specs.declared.row.Row.{Row}
use Rattle.block_model.specs.declared.place.Spot.{Spot}
use Rattle.coverage.specs.IndexView.{IndexTuple, IsFormed, IndexView, range_of_block}
use Rattle.coverage.specs.IsSettled.{IsAccounted}
use Rattle.coverage.specs.IsSound.{IsSound}
use Rattle.coverage.specs.GoesOn.{GoesOn}
use Rattle.coverage.specs.Changes.{SameHeap, Carries}
use Rattle.coverage.specs.Statements.{OnIndex, Empty, Held, Copied, Moving, Dropping, Statement, Idle, Inserting, IsAdded}
use Rattle.coverage.specs.Knowing.{LocksNone, KnowsOnIndex, SettledBy, Knows}
use Rattle.coverage.specs.IsCovered.{IndexState, index_view}
use Rattle.coverage.specs.Steps.{OnIndexStep, Maps, Gone, Again, MovePut, InsertStep, InsertOnIndex, InsertNoEntry, InsertCopies, InsertUnchanged, InsertSwap}
use Rattle.coverage.specs.Steps.{InsertSet, InsertDrop, Turned}
use Rattle.coverage.proofs.Stable.{held_named}
use Rattle.coverage.proofs.Formed.{held_formed}
use Rattle.coverage.proofs.OnIndexSteps.{never, Both, may_end, looks_both, drop_both, copied_named, swap_both, set_both, set_knows, on_index_step, copy_knows}

-- an insert that is done has its row settled, if that still counts
abbrev pub SettledOrOn : IndexView → (ℕ → Bool) → Statement → Statement → Type 0
SettledOrOn v counts (Inserting b k r on_index) new = IsTrue (counts r.id.t) → IsAccounted v b r ⊎ ((g : OnIndex) × (new ≡ Inserting b k r g))
SettledOrOn v counts _ new = Unit

pub record Outcome (s : ℕ) (dropped : ℕ → ℕ → Bool) (w v : IndexState) (old new : Statement) : Type 0 where
  pub sound : IsSound (index_view v)
  pub on : GoesOn s dropped (index_view w) (index_view v)
  pub knows : Knows (index_view v) s new
  pub done : SettledOrOn (index_view v) v.counts old new

on_index_unsettled : (s range b : ℕ) (r : Row) (w v u : IndexView) (h g : OnIndex) → OnIndexStep s range w v h g → SettledBy u b r g
on_index_unsettled s range b r w v u _ _ (Maps x named reads) = tt
on_index_unsettled s range b r w v u _ _ _ = tt

-- no row and not the holder of the summarise lock changes
abbrev pub KeepsHeapAndLock : IndexView → IndexView → Type 0
KeepsHeapAndLock w v = SameHeap w v × (v.summarise_lock ≡ w.summarise_lock)

pub on_index_keeps : (s range : ℕ) (w v : IndexView) (h g : OnIndex) → OnIndexStep s range w v h g → KeepsHeapAndLock w v
on_index_keeps s range w v old new step = grind arith

pub same_heap_range : (w v : IndexView) (b : ℕ) → v.pages_per_range ≡ w.pages_per_range → range_of_block v b ≡ range_of_block w b
same_heap_range w v b same = ap (λ m. b / m) same

module _ (s b k : ℕ) (r : Row) (w v : IndexState) (sound : IsSound (index_view w)) where
  makes_added : (old new : IndexTuple) → IsAdded r old new → (new.range ≡ old.range) × Carries (index_view w) s (range_of_block (index_view w) b) old new
  makes_added old new added = (added.range, (added.wider, inl added.placeholder))

  there_after : GoesOn s never (index_view w) (index_view v) → w.row b k ≡ Some r → v.row b k ≡ Some r
  there_after on there = ⊎_elim (λ (e : v.row b k ≡ Some r). e) (λ (dead : IsTrue (never b k)). absurd (false≢true dead)) (on.rows b k r there)

  -- the entry of the row's range names a tuple that includes it
  includes_settles : (x : Spot) (t : IndexTuple) → v.entry (range_of_block (index_view v) b) ≡ Some x → v.tuple x ≡ Some t → IsTrue (t.includes r)
      → IsAccounted (index_view v) b r
  includes_settles x t named here has y u named' here' =
      let place : x ≡ y = same_Some _ _ (sym named ∙ named') in
      inl (subst (λ (q : IndexTuple). IsTrue (q.includes r)) (same_Some _ _ (sym here ∙ ap v.tuple place ∙ here')) has)

  at_range : (range : ℕ) → v.pages_per_range ≡ w.pages_per_range → (x : Spot) → v.entry (range_of_block (index_view w) b) ≡ Some x
      → v.entry (range_of_block (index_view v) b) ≡ Some x
  at_range range same x named = ap v.entry (same_heap_range (index_view w) (index_view v) b same) ∙ named

  module _ (on_index : OnIndex) (e : Statement) (turned : Turned s w v (Inserting b k r on_index) e) (there : w.row b k ≡ Some r)
      (free_summarise_lock : w.summarise_lock ≢ Some s) (known : KnowsOnIndex (index_view w) s (range_of_block (index_view w) b) (IsAdded r) on_index) where
    -- the insert goes on, in another state on the index
    goes : (g : OnIndex) → e ≡ Inserting b k r g → Both s (index_view w) (index_view v) → v.summarise_lock ≡ w.summarise_lock
        → KnowsOnIndex (index_view v) s (range_of_block (index_view w) b) (IsAdded r) g → SettledBy (index_view v) b r g
        → Outcome s never w v (Inserting b k r on_index) e
    goes g is both summarise_lock knows settled = record {
      sound = both.0;
      on = both.1;
      knows = subst (λ m. Knows (index_view v) s m) (sym is) (
        there_after both.1 there,
        λ held. free_summarise_lock (sym summarise_lock ∙ held),
        subst (λ n. KnowsOnIndex (index_view v) s n (IsAdded r) g) (sym (same_heap_range (index_view w) (index_view v) b both.1.pages_per_range)) knows,
        settled,
      );
      done = λ counts. inr (g, is);
    }

    -- the index is complete
    ends : e ≡ Idle → Both s (index_view w) (index_view v) → v.summarise_lock ≡ w.summarise_lock → LocksNone v.lock s → IsAccounted (index_view v) b r
        → Outcome s never w v (Inserting b k r on_index) e
    ends is both summarise_lock none settled = record {
      sound = both.0;
      on = both.1;
      knows = subst (λ m. Knows (index_view v) s m) (sym is) (none, λ held. free_summarise_lock (sym summarise_lock ∙ held));
      done = λ counts. inl settled;
    }

  pub insert_outcome : (on_index : OnIndex) (e : Statement) → InsertStep s b k r (index_view w) (index_view v) on_index e
      → Turned s w v (Inserting b k r on_index) e → Knows (index_view w) s (Inserting b k r on_index) → Outcome s never w v (Inserting b k r on_index) e
  insert_outcome _ _ (InsertOnIndex old new step) turned known =
      let out =
      on_index_step s w v (Inserting b k r old) (Inserting b k r new) turned sound (range_of_block (index_view w) b)
      (IsAdded r) makes_added old new step known.2 refl refl refl in
      goes old (Inserting b k r new) turned known.0 known.1 known.2 new refl out.0
      (on_index_keeps s (range_of_block (index_view w) b) (index_view w) (index_view v) old new step).1 out.1
      (on_index_unsettled s (range_of_block (index_view w) b) b r (index_view w) (index_view v) (index_view v) old new step)
  insert_outcome _ _ (InsertNoEntry none reads) turned known =
      ends Empty Idle turned known.0 known.1 known.2 refl
      (looks_both s w v (Inserting b k r Empty) Idle turned sound refl refl refl reads.frame) reads.frame.summarise_lock reads.none
      (λ x t named here.
      absurd (none-some _ (sym none ∙ sym (reads.frame.map.entry (range_of_block (index_view w) b)) ∙ ap v.entry
      (sym (same_heap_range (index_view w) (index_view v) b reads.frame.heap.pages_per_range)) ∙ named)))
  insert_outcome _ _ (InsertCopies x old new stands added changes reads) turned known =
      let its = held_formed (index_view w) (range_of_block (index_view w) b) x old sound known.2.1 stands.0 stands.1 in
      let law = sound.lawful.added r old its.0 in
      let both = looks_both s w v (Inserting b k r (Held x)) (Inserting b k r (Copied x old new)) turned sound refl refl refl reads.frame in
      goes (Held x) (Inserting b k r (Copied x old new)) turned known.0 known.1 known.2 (Copied x old new) refl both reads.frame.summarise_lock
      (copy_knows s w v (Inserting b k r (Held x)) (Inserting b k r (Copied x old new)) turned sound (range_of_block (index_view w) b)
      (IsAdded r) makes_added x old new stands.1 (subst (λ (u : IndexTuple). IsAdded r old u) (sym added) law.1)
      (subst (IsFormed w.contents) (sym added) law.0) both reads.none known.2) tt
  insert_outcome _ _ (InsertUnchanged x t stands added free reads) turned known =
      let here : w.tuple x ≡ Some t = stands.0 in
      let its = held_formed (index_view w) (range_of_block (index_view w) b) x t sound known.2.1 here stands.1 in
      let has : IsTrue (t.includes r) = subst (λ (u : IndexTuple). IsTrue (u.includes r)) (sym added) (sound.lawful.added r t its.0).1.row in
      let named = held_named (index_view w) s (range_of_block (index_view w) b) x t sound known.2.1 here stands.1 free known.2.0 in
      ends (Held x) Idle turned known.0 known.1 known.2 refl
      (looks_both s w v (Inserting b k r (Held x)) Idle turned sound refl refl refl reads.frame) reads.frame.summarise_lock reads.none
      (includes_settles x t (at_range 0 reads.frame.heap.pages_per_range x (reads.frame.map.entry (range_of_block (index_view w) b) ∙ named))
      (reads.frame.tuples.tuple x ∙ here) has)
  insert_outcome _ _ (InsertSwap x old new verdict swap) turned known =
      let named =
      copied_named s w v (Inserting b k r (Copied x old new)) Idle turned sound (range_of_block (index_view w) b)
      (IsAdded r) makes_added x old new known.2 swap.tuple.was swap.free in
      ends (Copied x old new) Idle turned known.0 known.1 known.2 refl
      (swap_both s w v (Inserting b k r (Copied x old new)) Idle turned sound (range_of_block (index_view w) b)
      (IsAdded r) makes_added x old new known.2 refl refl (may_end s w v (Inserting b k r (Copied x old new)) Idle turned refl) swap)
      swap.frame.summarise_lock swap.none
      (includes_settles x new
      (at_range 0 swap.frame.heap.pages_per_range x (swap.frame.map.entry (range_of_block (index_view w) b) ∙ named)) swap.tuple.now known.2.3.row)
  insert_outcome _ _ (InsertSet x y old new sets same) turned known =
      let locked : v.lock x.block ≡ Some s = same.lock x.block ∙ known.2.0 in
      goes (Moving x y old new) (Inserting b k r (Dropping x)) turned known.0 known.1 known.2 (Dropping x) refl
      (set_both s w v (Inserting b k r (Moving x y old new)) (Inserting b k r (Dropping x)) turned sound (range_of_block (index_view w) b)
      (IsAdded r) makes_added x y old new known.2 refl refl
      (may_end s w v (Inserting b k r (Moving x y old new)) (Inserting b k r (Dropping x)) turned refl) sets locked)
      sets.frame.summarise_lock
      (set_knows s w v (Inserting b k r (Moving x y old new)) (Inserting b k r (Dropping x)) turned sound (range_of_block (index_view w) b)
      (IsAdded r) makes_added (IsAdded r) (range_of_block (index_view w) b) x y old new known.2 sets locked)
      (includes_settles y new (at_range 0 sets.frame.heap.pages_per_range y sets.entry.now) (sets.frame.tuples.tuple y ∙ known.2.4) known.2.6.row)
  insert_outcome _ _ (InsertDrop x drops) turned known =
      let both = drop_both s w v (Inserting b k r (Dropping x)) Idle turned sound x known.2.0 known.2.1 known.2.2 refl refl refl drops in
      ends (Dropping x) Idle turned known.0 known.1 known.2 refl both drops.frame.summarise_lock drops.none (both.1.settled b k r known.0 known.3)
