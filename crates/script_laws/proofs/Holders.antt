-- Who is waited for has a statement in hand.
use Rattle.std.proofs.Common.{◌≡◌, ◌≢◌, ◌⊎◌, inl, inr, ℕ, ◌<◌, length, Option, None, Some, refl, sym, ◌∙◌, subst}
use Rattle.std.proofs.lemmas.Option.{none-some, same_Some}
use Rattle.block_model.specs.declared.reply.Refusal.{Refusal}
use Rattle.store_layout.specs.DiskLayout.{DiskLayout}
use Rattle.store_layout.specs.FirstBrokenRule.{KeepsLimits}
use Rattle.coverage.specs.IsCovered.{index_view}
use Rattle.coverage.specs.Knowing.{Knows}
use Rattle.coverage.specs.Table.{Task, Resting, TableState, index_state, seen_by}
use Rattle.coverage.specs.TableCovered.{IsInTable, IsMaintenance, IsTableKept}
use Rattle.coverage.specs.TablePoints.{IsHeldBy, PageLock, SummariseLock, WaitedFor, waits_for}
use Rattle.coverage.specs.TableSteps.{DesummariseWaits, InsertWaits, IsBlocked, SummariseLockHeld, SummariseWaits, SweepWaits}
use Rattle.script_semantics.specs.Place.{Hand, Place}
use Rattle.script_semantics.specs.StatementSteps.{IsWaiting, StepsTo, Waits, what_of}
use Rattle.script_laws.specs.TextLaws.{IsAlone, TellsAnotherInHand}
use Rattle.script_laws.proofs.Calm.{calm, calmed}
use Rattle.script_laws.proofs.Fits.{in_below}
use Rattle.script_laws.proofs.Orderly.{IsOrderly}

-- ---- a session that is at nothing in a table holds nothing there

module _ (w : TableState) (kept : IsTableKept (calm w)) (m : ℕ) (rests : w.task m ≡ Resting) where
  holds_no_right : w.summarise_lock ≡ Some m → ⊥
  holds_no_right held = subst (λ task. IsMaintenance (calmed task)) rests ((kept.summarise_lock m).0 held)

  holds_no_page : (at page : ℕ) → at < w.indexes → (w.index at).lock page ≡ Some m → ⊥
  holds_no_page at page below held =
      (subst (λ task. Knows (index_view (index_state at (calm w))) m (seen_by at (calmed task))) rests ((kept.indexes at below).knows m)).0 page held

  module _ (n : ℕ) where
    inside : (task : Task) → w.task n ≡ task → IsInTable (calm w) (calmed task)
    inside task is = subst (λ t. IsInTable (calm w) (calmed t)) is (kept.inside n)

    holds_nothing : (task : Task) → w.task n ≡ task → (blocked : IsBlocked w n task) → IsHeldBy w (waits_for w n task blocked) m → ⊥
    holds_nothing _ is (SummariseLockHeld k held other) by = holds_no_right by
    holds_nothing _ is (InsertWaits q b k r at x old new verdict) by = holds_no_page at q (inside _ is) by
    holds_nothing _ is (SummariseWaits q job at range phase waits) by = holds_no_page at q (inside _ is).0 by
    holds_nothing _ is (DesummariseWaits q only at range x verdict) by = holds_no_page at q (inside _ is).0 by
    holds_nothing _ is (SweepWaits at page locked) by = holds_no_page at page (inside _ is) by

-- ---- whom a step waits for

one_holder : (w : TableState) (waited : WaitedFor) (m n : ℕ) → IsHeldBy w waited m → IsHeldBy w waited n → m ≡ n
one_holder w SummariseLock m n one two = same_Some _ _ (sym one ∙ two)
one_holder w (PageLock at page) m n one two = same_Some _ _ (sym one ∙ two)

abbrev pub HoldsOther : Type 0
HoldsOther = (s : ℕ) (w : TableState) (task : Task) (blocked : IsBlocked w s task) → (n : ℕ) × IsHeldBy w (waits_for w s task blocked) n × (n ≢ s)

module _ (holds : HoldsOther) (layout : DiskLayout) (limits : KeepsLimits layout.schema layout.sizes) where
  in_hand_or : (hand : Option Hand) → (hand ≡ None → ⊥) → (h : Hand) × (hand ≡ Some h)
  in_hand_or None not = absurd (not refl)
  in_hand_or (Some h) not = (h, refl)

  waited_for : (p : Place) (n : ℕ) (hand : Hand) (told : Refusal) (q : Place) → IsOrderly layout p → p.hands n ≡ Some hand → StepsTo p n hand (Waits told) q → TellsAnotherInHand p n told
  waited_for p n hand _ _ o has (IsWaiting table told on own blocked waits) =
      let below : table < length layout.schema.tables = in_below layout p n table o.same limits o.asked hand.statement (o.fits n hand has) on in
      let held = holds n (p.tables table) ((p.tables table).task n) blocked in
      let busy = in_hand_or (p.hands waits.0) (λ none. holds_nothing (p.tables table) (o.kept table below) waits.0 (o.idle waits.0 table none below) n ((p.tables table).task n) refl blocked waits.1) in
      record {
        other = waits.0;
        apart = λ same. held.2 (one_holder (p.tables table) _ held.0 waits.0 held.1 waits.1 ∙ same);
        hand = busy.0;
        in_hand = busy.1;
        what = what_of p.layout table (waits_for (p.tables table) n ((p.tables table).task n) blocked);
        is = waits.2;
      }

  pub only_hands : (p q : Place) (n : ℕ) (hand : Hand) (told : Refusal) → IsOrderly layout p → p.hands n ≡ Some hand → StepsTo p n hand (Waits told) q → TellsAnotherInHand p n told
  only_hands p q n hand told o has step = waited_for p n hand told q o has step

pub not_alone : (p : Place) (n : ℕ) (told : Refusal) → IsAlone p n → TellsAnotherInHand p n told → ⊥
not_alone p n told alone tells = by (alone tells.other)
  where
    by : (tells.other ≡ n) ⊎ (p.hands tells.other ≡ None) → ⊥
    by (inl is) = tells.apart is
    by (inr none) = none-some _ (sym none ∙ tells.in_hand)
