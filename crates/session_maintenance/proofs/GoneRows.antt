-- the rows that a step drops are those that have gone
use Rattle.std.proofs.Common.{Bool, IsTrue, None, Option, Some, inl, inr, refl, subst, sym, ℕ, ◌↔◌, ◌≡◌, ◌≢◌, ◌⊎◌}
use Rattle.block_model.specs.declared.reply.Point.{Point}
use Rattle.block_model.specs.declared.row.Row.{Row}
use Rattle.coverage.specs.Accounts.{Account, AccountIs, Accounts, Adds}
use Rattle.coverage.specs.InOneIndex.{DoesAt}
use Rattle.coverage.specs.Table.{Prunes, TableState}
use Rattle.coverage.specs.TablePoints.{does_point}
use Rattle.coverage.specs.TableSteps.{Does, HasPut, PrunesBlock, SeesPlace}
use Rattle.script_semantics.specs.DeadRows.{IsDead}
use Rattle.script_semantics.specs.Place.{Place}
use Rattle.script_semantics.specs.Turns.{PrunesTheDead}
use Rattle.session_maintenance.proofs.MachineHands.{w}
use Rattle.session_maintenance.specs.MaintenanceSteps.{has_gone}
use Rattle.std.proofs.lemmas.Bool.{false≢true}
use Rattle.coverage.specs.TableSteps.{DropsRows}

none_goes : (o : Option Row) → IsTrue (has_gone o o) → ⊥
none_goes None is = false≢true is
none_goes (Some r) is = false≢true is

goes_to_none : (before after : Option Row) → IsTrue (has_gone before after) → after ≡ None
goes_to_none None after is = absurd (false≢true is)
goes_to_none (Some r) None is = refl
goes_to_none (Some r) (Some q) is = absurd (false≢true is)

stays_or_goes : (before after : Option Row) → after ≡ None → (after ≡ before) ⊎ IsTrue (has_gone before after)
stays_or_goes None after none = inl none
stays_or_goes (Some r) after none = inr (subst (λ (o : Option Row). IsTrue (has_gone (Some r) o)) (sym none) refl)

-- what has gone is what was dropped, but for places that had no row
drops_gone : (w v : TableState) (block : ℕ) (dropped : ℕ → ℕ → Bool) → DropsRows w v block dropped → DropsRows w v block (λ b k. has_gone (w.row b k) (v.row b k))
drops_gone w v block dropped drops = record {
  layout = drops.layout;
  on = λ b k gone. elim (drops.rows b k) [
    | inl same ↦ absurd (none_goes (w.row b k) (subst (λ (o : Option Row). IsTrue (has_gone (w.row b k) o)) same gone))
    | inr there ↦ drops.on b k there
  ];
  gone = λ b k gone. goes_to_none (w.row b k) (v.row b k) gone;
  rows = λ b k. elim (drops.rows b k) [
    | inl same ↦ inl same
    | inr there ↦ stays_or_goes (w.row b k) (v.row b k) (drops.gone b k there)
  ];
  blocks = drops.blocks;
  counts = drops.counts;
  indexes = drops.indexes;
  summarise_lock = drops.summarise_lock;
}

-- a step whose dropped rows are the dead ones
pub record DoesDead (p : Place) (n : ℕ) (w v : TableState) (point : Point) (account : Account → Account) : Type 0 where
  pub does : DoesAt n w v point account
  pub dead : PrunesTheDead p does.does

module _ (p : Place) (n : ℕ) (w v : TableState) (point : Point) (account : Account → Account)
    (spared : (m b k : ℕ) → m ≢ n → IsTrue (has_gone (w.row b k) (v.row b k)) → HasPut b k (w.task m) ⊎ SeesPlace b k (w.task m) → ⊥)
    (dead : (extent next : ℕ) → w.task n ≡ Prunes extent next → (k : ℕ) → IsTrue (has_gone (w.row next k) (v.row next k)) ↔ ((r : Row) × (w.row next k ≡ Some r) × IsDead p r.id)) where
  by_does : (does : Does n w v) → does_point n w v does ≡ Some point → ((a b : Accounts) → AccountIs n a b (account (a.of n)) → Adds n w v does a b) → DoesDead p n w v point account
  by_does (PrunesBlock extent next dropped inside others turns drops) is adds = record {
    does = record { does = PrunesBlock extent next (λ b k. has_gone (w.row b k) (v.row b k)) inside spared turns (drops_gone w v next dropped drops); point_is = is; adds = adds };
    dead = dead extent next turns.was;
  }
  by_does does is adds = record { does = record { does = does; point_is = is; adds = adds }; dead = tt }

  pub does_dead : DoesAt n w v point account → DoesDead p n w v point account
  does_dead at = by_does at.does at.point_is at.adds
