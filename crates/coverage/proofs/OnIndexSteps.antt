-- The steps towards a new tuple in the old one's place, for every statement that takes them.
use Rattle.std.proofs.Common.{◌≡◌, ◌≢◌, inl, inr, ⊎_elim, ℕ, Option, Some, None, Bool, false, sym, ◌∙◌, ap, subst}
use Rattle.std.specs.Prelude.{refl}
use Rattle.std.proofs.lemmas.Option.{same_Some, none-some}
use Rattle.block_model.specs.declared.place.Spot.{Spot}
use Rattle.coverage.specs.IndexView.{IndexTuple, IsFormed, Building, IndexView}
use Rattle.coverage.specs.IsSound.{IsSound}
use Rattle.coverage.specs.GoesOn.{GoesOn}
use Rattle.coverage.specs.Changes.{ChangesAt, SameLoose, TouchesNothing, Frame, IsLooseLocked, IsFree, Carries, MayEnd, Swaps, MovePuts, MoveSets, DropsLoose}
use Rattle.coverage.specs.Changes.{TurnsLocks}
use Rattle.coverage.specs.Statements.{OnIndex, Held, Copied, Moving, Dropping, Statement, loose_in, loose_of, building_of}
use Rattle.coverage.specs.Verdicts.{Puts, SwapVerdict, SwapMoves}
use Rattle.coverage.specs.Knowing.{LocksNone, KnowsOnIndex}
use Rattle.coverage.specs.IsCovered.{IndexState, index_view}
use Rattle.coverage.specs.Steps.{PutsTuple, ReplacesTuple, SetsEntry, DropsTuple, OnIndexStep, Maps, Gone, Again, MovePut, Turned}
use Rattle.coverage.proofs.Sound.{swaps_sound, move_puts_sound, move_sets_sound, drops_sound, turns_locks_sound}
use Rattle.coverage.proofs.Carried.{swaps_go_on, move_puts_go_on, move_sets_go_on}
use Rattle.coverage.proofs.OthersGoOn.{drops_go_on, turns_locks_go_on}
use Rattle.coverage.proofs.Stable.{held_named}

abbrev pub never : ℕ → ℕ → Bool
never b k = false

-- where a move puts the new tuple, its page is free and the old one stands there
pub move_compares : (w : IndexView) (s range : ℕ) (x y : Spot) (old new : IndexTuple) → SwapVerdict w s range x old new (Puts y)
    → IsFree w.lock s x.block × (w.tuple x ≡ Some old)
move_compares w s range x y old new (SwapMoves _ free here must puts) = (free, here)

-- the view stays sound, and all others go on
abbrev pub Both : ℕ → IndexView → IndexView → Type 0
Both s w v = IsSound v × GoesOn s never w v

module _ (s : ℕ) (w v : IndexState) (d e : Statement) (turned : Turned s w v d e) where
  pub loose_same : loose_of e ≡ loose_of d → SameLoose (index_view w) (index_view v)
  loose_same same = record {
    loose = λ n. ⊎_elim
        (λ (is : n ≡ s).
        ap (λ m. loose_of (v.statement m)) is ∙ ap loose_of turned.now ∙ same ∙ sym (ap loose_of turned.was) ∙ ap (λ m. loose_of (w.statement m)) (sym is))
        (λ (is : v.statement n ≡ w.statement n). ap loose_of is)
        (turned.others n);
  }

  pub loose_turns : (o p : Option Spot) → loose_of d ≡ o → loose_of e ≡ p
      → ChangesAt (λ n. loose_of (w.statement n)) (λ n. loose_of (v.statement n)) s o p
  loose_turns o p was now = record {
    was = ap loose_of turned.was ∙ was;
    now = ap loose_of turned.now ∙ now;
    others = λ n. ⊎_elim (λ (is : n ≡ s). inl is) (λ (is : v.statement n ≡ w.statement n). inr (ap loose_of is)) (turned.others n);
  }

  pub building_same : building_of e ≡ building_of d → (n : ℕ) → building_of (v.statement n) ≡ building_of (w.statement n)
  building_same same n = ⊎_elim
      (λ (is : n ≡ s).
      ap (λ m. building_of (v.statement m)) is ∙ ap building_of turned.now ∙ same ∙ sym (ap building_of turned.was) ∙ ap (λ m. building_of (w.statement m))
      (sym is))
      (λ (is : v.statement n ≡ w.statement n). ap building_of is)
      (turned.others n)

  pub building_turns : (o p : Option Building) → building_of d ≡ o → building_of e ≡ p
      → ChangesAt (λ n. building_of (w.statement n)) (λ n. building_of (v.statement n)) s o p
  building_turns o p was now = record {
    was = ap building_of turned.was ∙ was;
    now = ap building_of turned.now ∙ now;
    others = λ n. ⊎_elim (λ (is : n ≡ s). inl is) (λ (is : v.statement n ≡ w.statement n). inr (ap building_of is)) (turned.others n);
  }

  pub may_end : building_of e ≡ None → MayEnd s (index_view w) (index_view v)
  may_end none n = ⊎_elim
      (λ (is : n ≡ s). inr (is, ap (λ m. building_of (v.statement m)) is ∙ ap building_of turned.now ∙ none))
      (λ (is : v.statement n ≡ w.statement n). inl (ap building_of is))
      (turned.others n)

  pub locks_by : ((x : Spot) → loose_of e ≡ Some x → v.lock x.block ≡ Some s) → IsLooseLocked s (index_view v)
  locks_by locked x is = locked x (sym (ap loose_of turned.now) ∙ is)

  pub nothing_loose : loose_of e ≡ None → (x : Spot) → loose_of e ≡ Some x → v.lock x.block ≡ Some s
  nothing_loose none x is = absurd (none-some _ (sym none ∙ is))

  pub loose_locked : (y : Spot) → loose_of e ≡ Some y → v.lock y.block ≡ Some s → (x : Spot) → loose_of e ≡ Some x → v.lock x.block ≡ Some s
  loose_locked y now locked x is = subst (λ (z : Spot). v.lock z.block ≡ Some s) (same_Some _ _ (sym now ∙ is)) locked

  module _ (sound : IsSound (index_view w)) where
    pub looks_both : loose_of d ≡ None → loose_of e ≡ None → building_of e ≡ building_of d → Frame s TouchesNothing (index_view w) (index_view v)
        → Both s (index_view w) (index_view v)
    looks_both empty none work looks =
        let kind : TurnsLocks s (index_view w) (index_view v) = record {
          frame = looks;
          loose = loose_same (none ∙ sym empty);
          work = record { building = building_same work };
          locked = locks_by (nothing_loose none);
        } in
        (turns_locks_sound s (index_view w) (index_view v) sound kind, turns_locks_go_on s never (index_view w) (index_view v) sound kind)

    pub drop_both : (x : Spot) → (w.lock x.block ≡ Some s) → ((m : ℕ) → w.entry m ≢ Some x) → ((t : IndexTuple) × (w.tuple x ≡ Some t))
        → loose_of d ≡ Some x → loose_of e ≡ None → building_of e ≡ building_of d → DropsTuple s (index_view w) (index_view v) x
        → Both s (index_view w) (index_view v)
    drop_both x locked unnamed stands was now work drops =
        let kind : DropsLoose s (index_view w) (index_view v) x stands.0 = record {
          tuple = record { was = stands.1; now = drops.tuple.now; others = drops.tuple.others };
          loose = loose_turns (Some x) None was now;
          unnamed = unnamed;
          free = λ n is. same_Some _ _ (sym is ∙ locked);
          frame = drops.frame;
          work = record { building = building_same work };
          locked = locks_by (nothing_loose now);
        } in
        (drops_sound s (index_view w) (index_view v) x stands.0 sound kind, drops_go_on s never (index_view w) (index_view v) x stands.0 sound kind)

    module _ (range : ℕ) (Makes : IndexTuple → IndexTuple → Type 0)
        (makes : (old new : IndexTuple) → Makes old new → (new.range ≡ old.range) × Carries (index_view w) s range old new) where
      -- the compared tuple is the one that the map names
      pub copied_named : (x : Spot) (old new : IndexTuple) → KnowsOnIndex (index_view w) s range Makes (Copied x old new) → w.tuple x ≡ Some old
          → IsFree w.lock s x.block → w.entry range ≡ Some x
      copied_named x old new known here free = held_named (index_view w) s range x old sound known.1 here known.2 free known.0

      pub swap_both : (x : Spot) (old new : IndexTuple) → KnowsOnIndex (index_view w) s range Makes (Copied x old new) → loose_of d ≡ None
          → loose_of e ≡ None
          → MayEnd s (index_view w) (index_view v) → ReplacesTuple s (index_view w) (index_view v) x old new → Both s (index_view w) (index_view v)
      swap_both x old new known was now ends swap =
          let made = makes old new known.3 in
          let kind : Swaps s (index_view w) (index_view v) range x old new = record {
            tuple = swap.tuple;
            free = swap.free;
            entry = copied_named x old new known swap.tuple.was swap.free;
            of = (known.2, made.0 ∙ known.2);
            formed = known.4;
            carries = made.1;
            ends = ends;
            loose = loose_same (now ∙ sym was);
            frame = swap.frame;
            locked = locks_by (nothing_loose now);
          } in
          (swaps_sound s (index_view w) (index_view v) range x old new sound kind, swaps_go_on s never (index_view w) (index_view v) range x old new sound kind)

      pub set_both : (x y : Spot) (old new : IndexTuple) → KnowsOnIndex (index_view w) s range Makes (Moving x y old new) → loose_of d ≡ Some y
          → loose_of e ≡ Some x
          → MayEnd s (index_view w) (index_view v) → SetsEntry s (index_view w) (index_view v) range y → v.lock x.block ≡ Some s
          → Both s (index_view w) (index_view v)
      set_both x y old new known was now ends sets locked =
          let made = makes old new known.6 in
          let kind : MoveSets s (index_view w) (index_view v) range x y old new = record {
            entry = record { was = known.2; now = sets.entry.now; others = sets.entry.others };
            loose = loose_turns (Some y) (Some x) was now;
            free = λ n is. same_Some _ _ (sym is ∙ known.0);
            before = known.3;
            after = known.4;
            of = (known.5, made.0 ∙ known.5);
            carries = made.1;
            ends = ends;
            frame = sets.frame;
            locked = locks_by (loose_locked x now locked);
          } in (
            move_sets_sound s (index_view w) (index_view v) range x y old new sound kind,
            move_sets_go_on s never (index_view w)
                (index_view v) range x y old new sound kind,
          )

      -- after a set no entry names the old tuple
      pub set_unnamed : (x y : Spot) (old new : IndexTuple) → KnowsOnIndex (index_view w) s range Makes (Moving x y old new)
          → SetsEntry s (index_view w) (index_view v) range y → (m : ℕ) → v.entry m ≢ Some x
      set_unnamed x y old new known sets m is = ⊎_elim
          (λ (at : m ≡ range). known.7 (same_Some _ _ (sym is ∙ ap v.entry at ∙ sets.entry.now)))
          (λ (kept : v.entry m ≡ w.entry m).
          let named : w.entry m ≡ Some x = sym kept ∙ is in
          let t = sound.entries_name_tuples m x named in
          let of : m ≡ range = sym t.2 ∙ ap (λ (u : IndexTuple). u.range) (same_Some _ _ (sym t.1 ∙ known.3)) ∙ known.5 in
          known.7 (same_Some _ _ (sym is ∙ ap v.entry of ∙ sets.entry.now)))
          (sets.entry.others m)

      pub set_knows : (After : IndexTuple → IndexTuple → Type 0) (n : ℕ) (x y : Spot) (old new : IndexTuple)
          → KnowsOnIndex (index_view w) s range Makes (Moving x y old new) → SetsEntry s (index_view w) (index_view v) range y → v.lock x.block ≡ Some s
          → KnowsOnIndex (index_view v) s n After (Dropping x)
      set_knows After n x y old new known sets locked = (locked, set_unnamed x y old new known sets, (old, sets.frame.tuples.tuple x ∙ known.3))

      pub put_both : (x y : Spot) (old new : IndexTuple) → w.entry range ≡ Some x → w.tuple x ≡ Some old → old.range ≡ range → Makes old new
          → IsFormed w.contents new → loose_of d ≡ None → loose_of e ≡ Some y → building_of e ≡ building_of d
          → PutsTuple s (index_view w) (index_view v) y new → v.lock y.block ≡ Some s → Both s (index_view w) (index_view v)
      put_both x y old new entry before of how formed was now work puts target =
          let made = makes old new how in
          let kind : MovePuts s (index_view w) (index_view v) range x y old new = record {
            tuple = puts.tuple;
            free = puts.free;
            before = before;
            entry = entry;
            of = (of, made.0 ∙ of);
            formed = formed;
            carries = made.1;
            loose = loose_turns None (Some y) was now;
            frame = puts.frame;
            work = record { building = building_same work };
            locked = locks_by (loose_locked y now target);
          } in (
            move_puts_sound s (index_view w) (index_view v) range x y old new sound kind,
            move_puts_go_on s never (index_view w)
                (index_view v) range x y old new sound kind,
          )

      pub put_knows : (x y : Spot) (old new : IndexTuple) → w.entry range ≡ Some x → w.tuple x ≡ Some old → old.range ≡ range → Makes old new
          → PutsTuple s (index_view w) (index_view v) y new → v.lock x.block ≡ Some s → v.lock y.block ≡ Some s
          → KnowsOnIndex (index_view v) s range Makes (Moving x y old new)
      put_knows x y old new entry before of how puts locked target =
          let apart : x ≢ y = λ (same : x ≡ y). none-some _ (sym puts.tuple.was ∙ ap w.tuple (sym same) ∙ before) in
          let stays : v.tuple x ≡ Some old =
          ⊎_elim (λ (same : x ≡ y). absurd (apart same)) (λ (kept : v.tuple x ≡ w.tuple x). kept ∙ before) (puts.tuple.others x) in
          (locked, target, puts.frame.map.entry range ∙ entry, stays, puts.tuple.now, of, how, apart)

      pub on_index_step : (h g : OnIndex) → OnIndexStep s range (index_view w) (index_view v) h g → KnowsOnIndex (index_view w) s range Makes h
          → loose_of d ≡ loose_in h → loose_of e ≡ loose_in g → building_of e ≡ building_of d
          → Both s (index_view w) (index_view v) × KnowsOnIndex (index_view v) s range Makes g
      on_index_step _ _ (Maps x named reads) known was now work =
          let both = looks_both was now work reads.frame in
          (both, (reads.none, λ t here of. inl (reads.frame.map.entry range ∙ named)))
      on_index_step _ _ (Gone x gone reads) known was now work = (looks_both was now work reads.frame, reads.none)
      on_index_step _ _ (Again x old new verdict reads) known was now work = (looks_both was now work reads.frame, reads.none)
      on_index_step _ _ (MovePut x y old new verdict puts these) known was now work =
          let compared = move_compares (index_view w) s range x y old new verdict in
          let entry = copied_named x old new known compared.1 compared.0 in
          let source = these.locked x.block (inl refl) in
          let target = these.locked y.block (inr (inl refl)) in (
            put_both x y old new entry compared.1 known.2 known.3 known.4 was now work puts target,
            put_knows x y old new entry compared.1 known.2 known.3 puts source target,
          )

      -- the tuple is copied, and the new one made
      pub copy_knows : (x : Spot) (old new : IndexTuple) → old.range ≡ range → Makes old new → IsFormed w.contents new → Both s (index_view w) (index_view v)
          → LocksNone v.lock s → KnowsOnIndex (index_view w) s range Makes (Held x)
          → KnowsOnIndex (index_view v) s range Makes (Copied x old new)
      copy_knows x old new of how formed both none known =
          (none, both.1.held range x known.1, of, how, subst (λ c. IsFormed c new) (sym both.1.contents) formed)
