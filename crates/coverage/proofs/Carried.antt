-- A tuple that carries another: in its place, or by a move.
use Rattle.std.proofs.Common.{◌≡◌, ◌⊎◌, inl, inr, ⊎_elim, ℕ, ◌/◌, ◌≤◌, ◌<◌, Some, None, Bool, true, false, sym, ◌∙◌, ap, subst, arith, rules}
use Rattle.std.specs.Prelude.{IsTrue}
use Rattle.std.proofs.lemmas.Option.{same_Some, none-some}
use Rattle.std.proofs.lemmas.Bool.{false≢true}
use Rattle.block_model.specs.declared.row.Row.{Row}
use Rattle.block_model.specs.declared.place.Spot.{Spot}
use Rattle.coverage.specs.IndexView.{IndexTuple, Passing, IndexView, range_of_block, IsBuilding, NamesPlaceholder}
use Rattle.coverage.specs.IsSettled.{AllAwait, IsAccounted, TupleShows}
use Rattle.coverage.specs.IsSound.{IsSound}
use Rattle.coverage.specs.GoesOn.{GoesOn}
use Rattle.coverage.specs.Changes.{UnitesResult, Carries, MayEnd, Swaps, MovePuts, MoveSets}

module _ (w : IndexView) (s range : ℕ) (x : Spot) (old new : IndexTuple) (entry : w.entry range ≡ Some x) (here : w.tuple x ≡ Some old)
    (carries : Carries w s range old new) (b : ℕ) (r : Row) (of : range ≡ range_of_block w b) where
  pub carried : IsAccounted w b r → IsTrue (new.includes r) ⊎ ((new.placeholder ≡ true) × AllAwait w b r)
  carried settled = ⊎_elim
      (λ (has : IsTrue (old.includes r)). inl (carries.0 r has))
      (λ (waits : (old.placeholder ≡ true) × AllAwait w b r). ⊎_elim
      (λ (same : new.placeholder ≡ old.placeholder). inr (same ∙ waits.0, waits.1))
      (λ (ends : (new.placeholder ≡ false) ×
      UnitesResult w s range new). ⊎_elim
      (λ (has : IsTrue (ends.1.2.includes r)). inl (ends.1.5 r has))
      (λ (left : (ends.1.1 ≤ b) × (b < ends.1.0)). absurd (omega (arith, left.0, left.1, ends.1.4)))
      (waits.1 s (Passing ends.1.0 ends.1.1 ends.1.2) (subst (λ m. IsBuilding w s m (Passing ends.1.0 ends.1.1 ends.1.2)) of ends.1.3)))
      carries.1)
      (settled x old (subst (λ m. w.entry m ≡ Some x) of entry) here)

  pub carried_final : new.placeholder ≡ false → IsAccounted w b r → IsTrue (new.includes r)
  carried_final final settled = elim (carried settled) [ inl has ↦ has | inr waits ↦ absurd (false≢true (sym final ∙ waits.0)) ]

-- builders that may end await as before
pub ends_await : (s : ℕ) (w v : IndexView) → MayEnd s w v → v.pages_per_range ≡ w.pages_per_range → (b : ℕ) (r : Row) → AllAwait w b r → AllAwait v b r
ends_await s w v ends per b r all n p is = ⊎_elim
    (λ (same : v.building n ≡ w.building n). all n p (sym same ∙ is ∙ ap (λ m. Some (record { range = b / m; progress = p })) per))
    (λ (done : (n ≡ s) × (v.building n ≡ None)). absurd (none-some _ (sym done.1 ∙ is)))
    (ends n)

module _ (s : ℕ) (d : ℕ → ℕ → Bool) (w v : IndexView) (range : ℕ) (x : Spot) (old new : IndexTuple) (sound : IsSound w)
    (kind : Swaps s w v range x old new) where
  swap_at : (y : Spot) (t : IndexTuple) → v.tuple y ≡ Some t → ((y ≡ x) × (t ≡ new)) ⊎ (w.tuple y ≡ Some t)
  swap_at y t here = elim (kind.tuple.others y) [ inl e ↦ inl (e, same_Some _ _ (sym here ∙ ap v.tuple e ∙ kind.tuple.now)) | inr e ↦ inr (sym e ∙ here) ]

  entry_back : (b : ℕ) (y : Spot) → v.entry (range_of_block v b) ≡ Some y → w.entry (range_of_block w b) ≡ Some y
  entry_back b y named = ap (λ m. w.entry (b / m)) (sym kind.frame.heap.pages_per_range) ∙ sym (kind.frame.map.entry (range_of_block v b)) ∙ named

  range_named : (b : ℕ) → w.entry (range_of_block w b) ≡ Some x → range ≡ range_of_block w b
  range_named b named =
      let t = sound.entries_name_tuples (range_of_block w b) x named in
      sym kind.of.0 ∙ ap (λ (u : IndexTuple). u.range) (same_Some _ _ (sym kind.tuple.was ∙ t.1)) ∙ t.2

  swap_settled : (b k : ℕ) (r : Row) → IsAccounted w b r → IsAccounted v b r
  swap_settled b k r settled y t named here = ⊎_elim
      (λ (e : (y ≡ x) × (t ≡ new)). ⊎_elim
      (λ (has : IsTrue (new.includes r)). inl (subst (λ (u : IndexTuple). IsTrue (u.includes r)) (sym e.1) has))
      (λ (waits : (new.placeholder ≡ true) × AllAwait w b r).
      inr (ap (λ (u : IndexTuple). u.placeholder) e.1 ∙ waits.0, ends_await s w v kind.ends kind.frame.heap.pages_per_range b r waits.1))
      (carried w s range x old new kind.entry kind.tuple.was kind.carries b r (range_named b (entry_back b y named ∙ ap Some e.0)) settled))
      (λ (was : w.tuple y ≡ Some t). ⊎_elim
      (λ (has : IsTrue (t.includes r)). inl has)
      (λ (waits : (t.placeholder ≡ true) × AllAwait w b r). inr (waits.0, ends_await s w v kind.ends kind.frame.heap.pages_per_range b r waits.1))
      (settled y t (entry_back b y named) was))
      (swap_at y t here)

  swap_shows : (y : Spot) (b k : ℕ) (r : Row) → IsAccounted w b r → TupleShows w y b r → TupleShows v y b r
  swap_shows y b k r settled shown t here of final = ⊎_elim
      (λ (e : (y ≡ x) × (t ≡ new)). subst (λ (u : IndexTuple). IsTrue (u.includes r)) (sym e.1)
      (carried_final w s range x old new kind.entry kind.tuple.was kind.carries b r
      (sym kind.of.1 ∙ ap (λ (u : IndexTuple). u.range) (sym e.1) ∙ of ∙ ap (λ m. b / m) kind.frame.heap.pages_per_range)
      (ap (λ (u : IndexTuple). u.placeholder) (sym e.1) ∙ final) settled))
      (λ (was : w.tuple y ≡ Some t). shown t was (of ∙ ap (λ m. b / m) kind.frame.heap.pages_per_range) final)
      (swap_at y t here)

  swap_flags : (m : ℕ) → NamesPlaceholder w m → NamesPlaceholder v m ⊎ (w.summarise_lock ≡ Some s)
  swap_flags m names = ⊎_elim
      (λ (e : names.0 ≡ x). ⊎_elim
      (λ (same : new.placeholder ≡ old.placeholder).
      inl (
        x,
        new,
        kind.frame.map.entry m ∙ names.2 ∙ ap Some e,
        kind.tuple.now,
        same ∙ ap (λ (u : IndexTuple). u.placeholder)
            (same_Some _ _ (sym kind.tuple.was ∙ ap w.tuple (sym e) ∙ names.3)) ∙ names.4,
      ))
      (λ (ends : (new.placeholder ≡ false) ×
      UnitesResult w s range new).
      inr (sound.builder_holds s range _ ends.1.3))
      kind.carries.1)
      (λ (e : v.tuple names.0 ≡ w.tuple names.0). inl (names.0, names.1, kind.frame.map.entry m ∙ names.2, e ∙ names.3, names.4))
      (kind.tuple.others names.0)

  pub swaps_go_on : GoesOn s d w v
  swaps_go_on = search (rules, swap_settled, swap_shows, swap_flags)

module _ (s : ℕ) (d : ℕ → ℕ → Bool) (w v : IndexView) (range : ℕ) (x y : Spot) (old new : IndexTuple) (sound : IsSound w)
    (kind : MovePuts s w v range x y old new) where
  put_shows : (z : Spot) (b k : ℕ) (r : Row) → IsAccounted w b r → TupleShows w z b r → TupleShows v z b r
  put_shows z b k r settled shown t here of final = ⊎_elim
      (λ (e : z ≡ y).
      let is : t ≡ new = same_Some _ _ (sym here ∙ ap v.tuple e ∙ kind.tuple.now) in
      subst (λ (u : IndexTuple). IsTrue (u.includes r)) (sym is)
      (carried_final w s range x old new kind.entry kind.before kind.carries b r
      (sym kind.of.1 ∙ ap (λ (u : IndexTuple). u.range) (sym is) ∙ of ∙ ap (λ m. b / m) kind.frame.heap.pages_per_range)
      (ap (λ (u : IndexTuple). u.placeholder) (sym is) ∙ final) settled))
      (λ (e : v.tuple z ≡ w.tuple z). shown t (sym e ∙ here) (of ∙ ap (λ m. b / m) kind.frame.heap.pages_per_range) final)
      (kind.tuple.others z)

  pub move_puts_go_on : GoesOn s d w v
  move_puts_go_on = search (rules, put_shows)

module _ (s : ℕ) (d : ℕ → ℕ → Bool) (w v : IndexView) (range : ℕ) (x y : Spot) (old new : IndexTuple) (sound : IsSound w)
    (kind : MoveSets s w v range x y old new) where
  set_settled : (b k : ℕ) (r : Row) → IsAccounted w b r → IsAccounted v b r
  set_settled b k r settled z t named here = ⊎_elim
      (λ (e : range_of_block v b ≡ range).
      let place : y ≡ z = same_Some _ _ (sym kind.entry.now ∙ ap v.entry (sym e) ∙ named) in
      let is : t ≡ new = same_Some _ _ (sym here ∙ kind.frame.tuples.tuple z ∙ ap w.tuple (sym place) ∙ kind.after) in
      ⊎_elim
      (λ (has : IsTrue (new.includes r)). inl (subst (λ (u : IndexTuple). IsTrue (u.includes r)) (sym is) has))
      (λ (waits : (new.placeholder ≡ true) × AllAwait w b r).
      inr (ap (λ (u : IndexTuple). u.placeholder) is ∙ waits.0, ends_await s w v kind.ends kind.frame.heap.pages_per_range b r waits.1))
      (carried w s range x old new kind.entry.was kind.before kind.carries b r (sym e ∙ ap (λ m. b / m) kind.frame.heap.pages_per_range) settled))
      (λ (e : v.entry (range_of_block v b) ≡ w.entry (range_of_block v b)). ⊎_elim
      (λ (has : IsTrue (t.includes r)). inl has)
      (λ (waits : (t.placeholder ≡ true) × AllAwait w b r). inr (waits.0, ends_await s w v kind.ends kind.frame.heap.pages_per_range b r waits.1))
      (settled z t (ap (λ m. w.entry (b / m)) (sym kind.frame.heap.pages_per_range) ∙ sym e ∙ named) (sym (kind.frame.tuples.tuple z) ∙ here)))
      (kind.entry.others (range_of_block v b))

  set_flags : (m : ℕ) → NamesPlaceholder w m → NamesPlaceholder v m ⊎ (w.summarise_lock ≡ Some s)
  set_flags m names = ⊎_elim
      (λ (e : m ≡ range). ⊎_elim
      (λ (same : new.placeholder ≡ old.placeholder).
      let place : names.0 ≡ x = same_Some _ _ (sym names.2 ∙ ap w.entry e ∙ kind.entry.was) in
      inl (
        y,
        new,
        ap v.entry e ∙ kind.entry.now,
        kind.frame.tuples.tuple y ∙ kind.after,
        same ∙ ap (λ (u : IndexTuple). u.placeholder) (same_Some _ _ (sym kind.before ∙ ap w.tuple (sym place) ∙ names.3)) ∙ names.4,
      ))
      (λ (ends : (new.placeholder ≡ false) ×
      UnitesResult w s range new).
      inr (sound.builder_holds s range _ ends.1.3))
      kind.carries.1)
      (λ (e : v.entry m ≡ w.entry m). inl (names.0, names.1, e ∙ names.2, kind.frame.tuples.tuple names.0 ∙ names.3, names.4))
      (kind.entry.others m)

  pub move_sets_go_on : GoesOn s d w v
  move_sets_go_on = search (rules, set_settled, set_flags)
