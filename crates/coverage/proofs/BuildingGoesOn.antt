-- A summary being built: its placeholder is put and named, its extent read, its blocks passed.
use Rattle.std.proofs.Common.{◌≡◌, ◌≢◌, ◌⊎◌, inl, inr, ⊎_elim, ℕ, ◌+◌, ◌*◌, ◌/◌, ◌≤◌, ◌<◌, Option, Some, None, Bool, true, sym, ◌∙◌, ap, subst, arith, rules}
use Rattle.std.specs.Prelude.{IsTrue}
use Rattle.std.proofs.lemmas.Option.{same_Some, none-some}
use Rattle.std.proofs.lemmas.Bool.{cases_eq}
use Rattle.block_model.specs.declared.row.Row.{Row}
use Rattle.block_model.specs.declared.place.Spot.{Spot}
use Rattle.coverage.specs.IndexView.{IndexTuple, Progress, Passing, Building, IndexView, range_of_block, IsBuilding}
use Rattle.coverage.specs.IsSettled.{IsAwaited, AllAwait, IsAccounted}
use Rattle.coverage.specs.IsSound.{IsSound}
use Rattle.coverage.specs.GoesOn.{GoesOn}
use Rattle.coverage.specs.Changes.{IsWithin, at_work, Turns, StartsBuilding, ReadsExtent, PassesBlock, Places, Names, Turn}

at_work_range : (m n : ℕ) (p q : Progress) → at_work m (Some p) ≡ at_work n (Some q) → m ≡ n
at_work_range m n p q e = ap (λ (g : Building). g.range) (same_Some _ _ e)

at_work_progress : (m n : ℕ) (p q : Progress) → at_work m (Some p) ≡ at_work n (Some q) → p ≡ q
at_work_progress m n p q e = ap (λ (g : Building). g.progress) (same_Some _ _ e)

block_first : (b n : ℕ) → 0 < n → b / n * n ≤ b
block_first b n some = omega arith

block_last : (b n : ℕ) → 0 < n → b < (b / n + 1) * n
block_last b n some = omega arith

-- after a block is passed, each row of the table that was awaited still is
passed_on : (w : IndexView) (b k : ℕ) (r : Row) (next extent : ℕ) (result wider : IndexTuple) → IsWithin result.includes wider.includes
    → ((j : ℕ) (q : Row) → w.row next j ≡ Some q → IsTrue (wider.includes q)) → w.row b k ≡ Some r
    → IsTrue (result.includes r) ⊎ ((next ≤ b) × (b < extent)) → IsTrue (wider.includes r) ⊎ ((next + 1 ≤ b) × (b < extent))
passed_on w b k r next extent result wider more block there before = ⊎_elim
    (λ (has : IsTrue (result.includes r)). inl (more r has))
    (λ (left : (next ≤ b) × (b < extent)). ⊎_elim
    (λ (is : next ≡ b). inl (block k r (subst (λ n. w.row n k ≡ Some r) (sym is) there)))
    (λ (is : next ≢ b). inr (omega arith, left.1))
    (cases_eq next b))
    before

module _ (w : IndexView) (s b k : ℕ) (r : Row) (sound : IsSound w) (there : w.row b k ≡ Some r) (all : AllAwait w b r) where
  -- where the session builds the block's range afterwards, it still awaits the row
  turned : (old new : Option Progress) → Turns w s (range_of_block w b) old new → w.building s ≡ at_work (range_of_block w b) old → (p : Progress)
      → new ≡ Some p → IsAwaited p b r
  turned _ _ (StartsBuilding h) was p is = subst (λ q. IsAwaited q b r) (same_Some _ _ is) tt
  turned _ _ (ReadsExtent extent result e) was p is = subst (λ q. IsAwaited q b r) (same_Some _ _ is)
      (inr (block_first b w.pages_per_range sound.ranged, omega (arith, e, sound.rows_below b k r there, block_last b w.pages_per_range sound.ranged)))
  turned _ _ (PassesBlock extent next result wider more block) was p is = subst (λ q. IsAwaited q b r) (same_Some _ _ is)
      (passed_on w b k r next extent result wider more block there (all s (Passing extent next result) was))

-- after a turn every builder of the block's range awaits the row, as before
module _ (s : ℕ) (w v : IndexView) (range : ℕ) (old new : Option Progress) (sound : IsSound w) (turn : Turn s w v range old new) (b k : ℕ) (r : Row)
    (there : w.row b k ≡ Some r) where
  own : (n : Option Progress) (p : Progress) → at_work range n ≡ at_work (range_of_block w b) (Some p) → (range ≡ range_of_block w b) × (n ≡ Some p)
  own None p e = absurd (none-some _ e)
  own (Some q) p e = (at_work_range _ _ _ _ e, ap Some (at_work_progress _ _ _ _ e))

  pub turn_awaits : AllAwait w b r → AllAwait v b r
  turn_awaits all n p is =
      let here : v.building n ≡ at_work (range_of_block w b) (Some p) = is ∙ ap (λ m. at_work (b / m) (Some p)) turn.frame.heap.pages_per_range in
      ⊎_elim
      (λ (e : n ≡ s).
      let mine = own new p (sym turn.building.now ∙ ap v.building (sym e) ∙ here) in
      turned w s b k r sound there all old new (subst (λ m. Turns w s m old new) mine.0 turn.turns)
      (turn.building.was ∙ ap (λ m. at_work m old) mine.0) p mine.1)
      (λ (e : v.building n ≡ w.building n). all n p (sym e ∙ here))
      (turn.building.others n)

  turn_settled : IsAccounted w b r → IsAccounted v b r
  turn_settled before x t named here = ⊎_elim
      (λ (has : IsTrue (t.includes r)). inl has)
      (λ (waits : (t.placeholder ≡ true) × AllAwait w b r). inr (waits.0, turn_awaits waits.1))
      (before x t (sym (turn.frame.map.entry (range_of_block w b)) ∙ ap (λ m. v.entry (b / m)) (sym turn.frame.heap.pages_per_range) ∙ named)
      (sym (turn.frame.tuples.tuple x) ∙ here))

pub turn_go_on : (s : ℕ) (d : ℕ → ℕ → Bool) (w v : IndexView) (range : ℕ) (old new : Option Progress) → IsSound w → Turn s w v range old new → GoesOn s d w v
turn_go_on s d w v range old new sound kind = search (rules, turn_settled s w v range old new sound kind)

-- rows of a range without an entry are settled, so a placeholder may come
module _ (s : ℕ) (d : ℕ → ℕ → Bool) (w v : IndexView) (x : Spot) (t : IndexTuple) (sound : IsSound w) (kind : Places s w v x t) where
  place_awaits : (b : ℕ) (r : Row) (y : Spot) → w.entry (range_of_block w b) ≡ Some y → AllAwait w b r → AllAwait v b r
  place_awaits b r y named all n p is =
      let here : v.building n ≡ at_work (range_of_block w b) (Some p) = is ∙ ap (λ m. at_work (b / m) (Some p)) kind.frame.heap.pages_per_range in
      ⊎_elim
      (λ (e : n ≡ s).
      absurd (none-some _ (sym kind.vacant ∙ ap w.entry (at_work_range _ _ _ _ (sym kind.building.now ∙ ap v.building (sym e) ∙ here)) ∙ named)))
      (λ (e : v.building n ≡ w.building n). all n p (sym e ∙ here))
      (kind.building.others n)

  entry_back : (b : ℕ) (y : Spot) → v.entry (range_of_block v b) ≡ Some y → w.entry (range_of_block w b) ≡ Some y
  entry_back b y named = ap (λ m. w.entry (b / m)) (sym kind.frame.heap.pages_per_range) ∙ sym (kind.frame.map.entry (range_of_block v b)) ∙ named

  place_settled : (b k : ℕ) (r : Row) → IsAccounted w b r → IsAccounted v b r
  place_settled b k r settled y u named here =
      let named' = entry_back b y named in
      ⊎_elim
      (λ (e : y ≡ x).
      let there = sound.entries_name_tuples (range_of_block w b) y named' in absurd (none-some _ (sym kind.tuple.was ∙ ap w.tuple (sym e) ∙ there.1)))
      (λ (e : v.tuple y ≡ w.tuple y). ⊎_elim
      (λ (has : IsTrue (u.includes r)). inl has)
      (λ (waits : (u.placeholder ≡ true) × AllAwait w b r). inr (waits.0, place_awaits b r y named' waits.1))
      (settled y u named' (sym e ∙ here)))
      (kind.tuple.others y)

  pub places_go_on : GoesOn s d w v
  places_go_on = search (rules, place_settled)

-- whoever has put the placeholder hasn't read the extent yet, and nobody else builds
module _ (s : ℕ) (d : ℕ → ℕ → Bool) (w v : IndexView) (range : ℕ) (x : Spot) (t : IndexTuple) (sound : IsSound w) (kind : Names s w v range x t) where
  named_awaits : (b : ℕ) (r : Row) → range ≡ range_of_block w b → AllAwait v b r
  named_awaits b r of n p is =
      let here : IsBuilding w n (range_of_block w b) p = sym (kind.work.building n) ∙ is ∙ ap (λ m. at_work (b / m) (Some p)) kind.frame.heap.pages_per_range in
      let one : s ≡ n = same_Some _ _ (sym (sound.builder_holds s range _ kind.building) ∙ sound.builder_holds n _ p here) in
      subst (λ q. IsAwaited q b r) (at_work_progress _ _ _ _ (sym kind.building ∙ ap w.building one ∙ here)) tt

  name_settled : (b k : ℕ) (r : Row) → IsAccounted w b r → IsAccounted v b r
  name_settled b k r settled y u named here = ⊎_elim
      (λ (e : range_of_block v b ≡ range).
      let place : y ≡ x = same_Some _ _ (sym named ∙ ap v.entry e ∙ kind.entry.now) in
      let is : u ≡ t = same_Some _ _ (sym here ∙ kind.frame.tuples.tuple y ∙ ap w.tuple place ∙ kind.there) in
      inr (ap (λ (q : IndexTuple). q.placeholder) is ∙ kind.placeholder, named_awaits b r (sym e ∙ ap (λ m. b / m) kind.frame.heap.pages_per_range)))
      (λ (e : v.entry (range_of_block v b) ≡ w.entry (range_of_block v b)). ⊎_elim
      (λ (has : IsTrue (u.includes r)). inl has)
      (λ (waits : (u.placeholder ≡ true) × AllAwait w b r).
      inr (waits.0, λ n p is. waits.1 n p (sym (kind.work.building n) ∙ is ∙ ap (λ m. at_work (b / m) (Some p)) kind.frame.heap.pages_per_range)))
      (settled y u (ap (λ m. w.entry (b / m)) (sym kind.frame.heap.pages_per_range) ∙ sym e ∙ named) (sym (kind.frame.tuples.tuple y) ∙ here)))
      (kind.entry.others (range_of_block v b))

  pub names_go_on : GoesOn s d w v
  names_go_on = search (rules, name_settled)
