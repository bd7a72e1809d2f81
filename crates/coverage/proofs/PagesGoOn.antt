-- What a statement knows of pages and page locks stays true while others step.
use Rattle.std.proofs.Common.{◌≡◌, ◌≢◌, ◌⊎◌, inl, inr, ⊎_elim, ℕ, ◌+◌, ◌*◌, ◌/◌, ◌≤◌, ◌<◌, Some, None, Bool, List, [], ◌∷◌, sym, ◌∙◌, ap, subst, arith}
use Rattle.std.specs.Prelude.{refl}
use Rattle.std.proofs.lemmas.Option.{same_Some, none-some}
use Rattle.std.proofs.Math.Nat.{le_trans}
use Rattle.block_model.specs.declared.place.Spot.{Spot}
use Rattle.coverage.specs.IndexView.{IndexTuple, Progress, ExtentUnread, Passing, PageKind, Pages, IndexView, map_page_of, next_map_page, range_of_block}
use Rattle.coverage.specs.IsSound.{IsSound}
use Rattle.coverage.specs.GoesOn.{GoesOn}
use Rattle.coverage.specs.Changes.{ChangesAt, SameHeap, SameMap, SameTuples, OwnLocks, IsFree}
use Rattle.coverage.specs.Statements.{OnIndex, Held, Moving, Dropping, Phase, NotBuilding, Vacant, Growing, Evacuating, Placing, IsAt, Statement, Inserting}
use Rattle.coverage.specs.Statements.{Maintaining}
use Rattle.coverage.specs.Knowing.{LocksThese, Knows}
use Rattle.coverage.specs.PageOrder.{AreOrdered, HasNamedSort, LocksOnIndex, KnowsSort, IsPassWithin, KnowsPagesOfPhase, KnowsPages}
use Rattle.coverage.specs.Steps.{TurnsPage, SetsEntry}
use Rattle.coverage.proofs.Stable.{placeholder_on}
use Rattle.coverage.proofs.PagesOrdered.{order_still}

-- what a step of a session that doesn't hold the summarise lock leaves to the one that holds it
pub record Quiet (w v : IndexView) : Type 0 where
  pub map_pages : v.pages.map_pages ≡ w.pages.map_pages
  pub vacant : (range : ℕ) → w.entry range ≡ None → v.entry range ≡ None
  pub still : (range : ℕ) (x : Spot) → w.entry range ≡ Some x → (y : Spot) × (v.entry range ≡ Some y)
  pub sorts : (range : ℕ) (x : Spot) → HasNamedSort w range x → HasNamedSort v range x

-- what a step leaves to all other sessions
pub record PagesGoOn (s : ℕ) (w v : IndexView) : Type 0 where
  pub pages_per_range : v.pages_per_range ≡ w.pages_per_range
  pub blocks : w.blocks ≤ v.blocks
  pub locks : OwnLocks s w.lock v.lock
  pub kinds : (p n : ℕ) → w.lock p ≡ Some n → n ≢ s → v.pages.kind p ≡ w.pages.kind p
  pub quiet : (w.summarise_lock ≡ Some s) ⊎ Quiet w v

pub record PagesAfter (s : ℕ) (w v : IndexView) (new : Statement) : Type 0 where
  pub ordered : AreOrdered v
  pub on : PagesGoOn s w v
  pub knows : KnowsPages v s new

pub not_less : (n m : ℕ) → n ≡ m → m ≤ n
not_less n m is = omega arith

pub same_blocks : (w v : IndexView) → SameHeap w v → w.blocks ≤ v.blocks
same_blocks w v heap = not_less v.blocks w.blocks heap.blocks

-- entries and tuples stay
pub quiet_same : (w v : IndexView) → SameMap w v → SameTuples w v → v.pages.map_pages ≡ w.pages.map_pages → Quiet w v
quiet_same w v map tuples map_pages = record {
  map_pages = map_pages;
  vacant = λ range none. map.entry range ∙ none;
  still = λ range x named. (x, map.entry range ∙ named);
  sorts = λ range x has t here of.
      let h = has t (sym (tuples.tuple x) ∙ here) of in (h.0, h.1, map.entry range ∙ h.2, tuples.tuple h.0 ∙ h.3, h.4);
}

-- a page that nobody else locks turns
pub kinds_turned : (s : ℕ) (w v : IndexView) (page : ℕ) (kind : PageKind) → TurnsPage w.pages v.pages page kind → IsFree w.lock s page → (p n : ℕ)
    → w.lock p ≡ Some n → n ≢ s
    → v.pages.kind p ≡ w.pages.kind p
kinds_turned s w v page kind turns free p n is other = ⊎_elim
    (λ (at : p ≡ page). absurd (other (free n (subst (λ q. w.lock q ≡ Some n) at is))))
    (λ (e : v.pages.kind p ≡ w.pages.kind p). e)
    (turns.kinds p)

-- entries, tuples and pages stay
pub still_after : (s : ℕ) (w v : IndexView) (new : Statement) → v.pages_per_range ≡ w.pages_per_range → w.blocks ≤ v.blocks → SameMap w v → SameTuples w v
    → v.pages ≡ w.pages → OwnLocks s w.lock v.lock → AreOrdered w → KnowsPages v s new → PagesAfter s w v new
still_after s w v new per blocks map tuples pages locks ordered knows = record {
  ordered = order_still w v ordered map tuples pages;
  on = record {
    pages_per_range = per;
    blocks = blocks;
    locks = locks;
    kinds = λ p n is other. ap (λ (g : Pages). g.kind p) pages;
    quiet = inr (quiet_same w v map tuples (ap (λ (g : Pages). g.map_pages) pages));
  };
  knows = knows;
}

-- a move's put, by a statement that doesn't turn a placeholder into a final tuple
pub quiet_put : (w v : IndexView) (range : ℕ) (x y : Spot) (old new : IndexTuple) → w.entry range ≡ Some x → w.tuple x ≡ Some old → new.range ≡ range
    → new.placeholder ≡ old.placeholder → ChangesAt w.tuple v.tuple y None (Some new) → SameMap w v → v.pages.map_pages ≡ w.pages.map_pages → Quiet w v
quiet_put w v range x y old new named before of same put map map_pages = record {
  map_pages = map_pages;
  vacant = λ m none. map.entry m ∙ none;
  still = λ m z is. (z, map.entry m ∙ is);
  sorts = λ m z has t there in_m. ⊎_elim
      (λ (at : z ≡ y).
      let is : t ≡ new = same_Some _ _ (sym there ∙ ap v.tuple at ∙ put.now) in
      let here : m ≡ range = sym in_m ∙ ap (λ (q : IndexTuple). q.range) is ∙ of in
      (x, old, map.entry m ∙ ap w.entry here ∙ named, stays x old before, sym same ∙ ap (λ (q : IndexTuple). q.placeholder) (sym is)))
      (λ (e : v.tuple z ≡ w.tuple z).
      let h = has t (sym e ∙ there) in_m in (h.0, h.1, map.entry m ∙ h.2, stays h.0 h.1 h.3, h.4))
      (put.others z);
}
  where
    stays : (z : Spot) (u : IndexTuple) → w.tuple z ≡ Some u → v.tuple z ≡ Some u
    stays z u here = elim (put.others z) [ inl at ↦ absurd (none-some _ (sym put.was ∙ ap w.tuple (sym at) ∙ here)) | inr e ↦ e ∙ here ]

-- a swap in place, likewise
pub quiet_swap : (w v : IndexView) (range : ℕ) (x : Spot) (old new : IndexTuple) → w.entry range ≡ Some x → new.range ≡ range
    → new.placeholder ≡ old.placeholder → ChangesAt w.tuple v.tuple x (Some old) (Some new) → SameMap w v → v.pages.map_pages ≡ w.pages.map_pages → Quiet w v
quiet_swap w v range x old new named of same swap map map_pages = record {
  map_pages = map_pages;
  vacant = λ m none. map.entry m ∙ none;
  still = λ m z is. (z, map.entry m ∙ is);
  sorts = λ m z has t there in_m. ⊎_elim
      (λ (at : z ≡ x).
      let is : t ≡ new = same_Some _ _ (sym there ∙ ap v.tuple at ∙ swap.now) in
      let here : m ≡ range = sym in_m ∙ ap (λ (q : IndexTuple). q.range) is ∙ of in
      (x, new, map.entry m ∙ ap w.entry here ∙ named, swap.now, ap (λ (q : IndexTuple). q.placeholder) (sym is)))
      (λ (e : v.tuple z ≡ w.tuple z).
      let h = has t (sym e ∙ there) in_m in
      ⊎_elim
      (λ (at : h.0 ≡ x).
      let is : h.1 ≡ old = same_Some _ _ (sym h.3 ∙ ap w.tuple at ∙ swap.was) in
      (x, new, map.entry m ∙ h.2 ∙ ap Some at, swap.now, same ∙ ap (λ (q : IndexTuple). q.placeholder) (sym is) ∙ h.4))
      (λ (e' : v.tuple h.0 ≡ w.tuple h.0). (h.0, h.1, map.entry m ∙ h.2, e' ∙ h.3, h.4))
      (swap.others h.0))
      (swap.others z);
}

-- the map names the new tuple, likewise
pub quiet_set : (s : ℕ) (w v : IndexView) (range : ℕ) (x y : Spot) (old new : IndexTuple) → w.entry range ≡ Some x → w.tuple x ≡ Some old
    → w.tuple y ≡ Some new → new.placeholder ≡ old.placeholder → SetsEntry s w v range y → Quiet w v
quiet_set s w v range x y old new named before after same sets = record {
  map_pages = ap (λ (g : Pages). g.map_pages) sets.pages;
  vacant = λ m none. elim (sets.entry.others m) [ inl at ↦ absurd (none-some _ (sym none ∙ ap w.entry at ∙ named)) | inr e ↦ e ∙ none ];
  still = λ m z is. elim (sets.entry.others m) [ inl at ↦ (y, ap v.entry at ∙ sets.entry.now) | inr e ↦ (z, e ∙ is) ];
  sorts = λ m z has t there in_m.
      let h = has t (sym (sets.frame.tuples.tuple z) ∙ there) in_m in
      ⊎_elim
      (λ (at : m ≡ range).
      let place : h.0 ≡ x = same_Some _ _ (sym h.2 ∙ ap w.entry at ∙ named) in
      let is : h.1 ≡ old = same_Some _ _ (sym h.3 ∙ ap w.tuple place ∙ before) in
      (y, new, ap v.entry at ∙ sets.entry.now, sets.frame.tuples.tuple y ∙ after, same ∙ ap (λ (q : IndexTuple). q.placeholder) (sym is) ∙ h.4))
      (λ (e : v.entry m ≡ w.entry m). (h.0, h.1, e ∙ h.2, sets.frame.tuples.tuple h.0 ∙ h.3, h.4))
      (sets.entry.others m);
}

-- a tuple that the map doesn't name goes
pub quiet_drop : (w v : IndexView) (x : Spot) → ((range : ℕ) → w.entry range ≢ Some x) → v.tuple x ≡ None
    → ((y : Spot) → (y ≡ x) ⊎ (v.tuple y ≡ w.tuple y)) → SameMap w v → v.pages.map_pages ≡ w.pages.map_pages → Quiet w v
quiet_drop w v x unnamed gone others map map_pages = record {
  map_pages = map_pages;
  vacant = λ m none. map.entry m ∙ none;
  still = λ m z is. (z, map.entry m ∙ is);
  sorts = λ m z has t there in_m. ⊎_elim
      (λ (at : z ≡ x). absurd (none-some _ (sym gone ∙ ap v.tuple (sym at) ∙ there)))
      (λ (e : v.tuple z ≡ w.tuple z).
      let h = has t (sym e ∙ there) in_m in
      elim (others h.0) [ inl at ↦ absurd (unnamed m (h.2 ∙ ap Some at)) | inr e' ↦ (h.0, h.1, map.entry m ∙ h.2, e' ∙ h.3, h.4) ])
      (others z);
}

module _ (s : ℕ) (d : ℕ → ℕ → Bool) (w v : IndexView) (sound : IsSound w) (on : GoesOn s d w v) (pages : PagesGoOn s w v) (n : ℕ) (other : n ≢ s) where
  these_on : (these : List ℕ) → LocksThese w.lock n these → LocksThese v.lock n these
  these_on these locks = record {
    locked = λ p one. pages.locks.others p n (locks.locked p one) other;
    only = λ p is. locks.only p (pages.locks.taken p n is other);
  }

  locks_on : (range : ℕ) (on_index : OnIndex) → LocksOnIndex w.lock n range on_index → LocksOnIndex v.lock n range on_index
  locks_on range (Moving x y old new) locks = these_on (x.block ∷ y.block ∷ map_page_of range ∷ []) locks
  locks_on range (Dropping x) locks = (locks.0, these_on (x.block ∷ locks.0 ∷ map_page_of range ∷ []) locks.1)
  locks_on range _ locks = tt

  quiet_on : w.summarise_lock ≡ Some n → Quiet w v
  quiet_on held =
      ⊎_elim (λ (is : w.summarise_lock ≡ Some s). absurd (other (same_Some _ _ (sym held ∙ is)))) (λ (q : Quiet w v). q) pages.quiet

  sort_on : w.summarise_lock ≡ Some n → (range : ℕ) (on_index : OnIndex) → KnowsSort w range on_index → KnowsSort v range on_index
  sort_on held range (Held x) known = (quiet_on held).sorts range x known
  sort_on held range _ known = tt

  within_on : (range : ℕ) (p : Progress) → IsPassWithin w range p → IsPassWithin v range p
  within_on range ExtentUnread known = tt
  within_on range (Passing extent next result) known = (
    le_trans known.0 pages.blocks,
    elim known.1 [ inl le ↦ inl le | inr is ↦ inr (is ∙ ap (λ m. range * m) (sym pages.pages_per_range)) ],
  )

  phase_pages_on : w.summarise_lock ≡ Some n → (range : ℕ) (phase : Phase) → KnowsPagesOfPhase w n range phase → KnowsPagesOfPhase v n range phase
  phase_pages_on held range (NotBuilding on_index) known = (locks_on range on_index known.0, sort_on held range on_index known.1)
  phase_pages_on held range Vacant known = tt
  phase_pages_on held range Growing known =
      let same = (quiet_on held).map_pages in (
        ap (λ m. v.pages.kind (m + 1)) same ∙ pages.kinds (next_map_page w.pages) n (known.1.locked (next_map_page w.pages) (inl refl)) other ∙ known.0,
        subst (λ m. LocksThese v.lock n ((m + 1) ∷ 0 ∷ [])) (sym same) (these_on (next_map_page w.pages ∷ 0 ∷ []) known.1),
      )
  phase_pages_on held range (Evacuating m on_index) known = (locks_on m on_index known.0, known.1)
  phase_pages_on held range (Placing x) known = (
    λ past. known.0 (subst (λ m. m < map_page_of range) (quiet_on held).map_pages past),
    these_on (x.block ∷ map_page_of range ∷ []) known.1,
  )
  phase_pages_on held range (IsAt p on_index) known =
      (locks_on range on_index known.0, placeholder_on s d w v sound on n other held range known.1, within_on range p known.2, known.3)

  pub pages_on : (e : Statement) → Knows w n e → KnowsPages w n e → KnowsPages v n e
  pages_on (Inserting b k r on_index) known pages_known =
      subst (λ m. LocksOnIndex v.lock n (b / m) on_index) (sym pages.pages_per_range) (locks_on (range_of_block w b) on_index pages_known)
  pages_on (Maintaining range phase) known pages_known = phase_pages_on known.0 range phase pages_known
  pages_on _ known pages_known = tt
