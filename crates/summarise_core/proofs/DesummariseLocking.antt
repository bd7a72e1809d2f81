-- locks that are taken and given in one step
use Rattle.std.proofs.Common.{◌≡◌, ℕ, Option, sym, ◌∙◌, arith}
use Rattle.block_model.specs.declared.place.Place.{Place}
use Rattle.page_locks.specs.LockCounts.{AddsAtMost}
use Rattle.page_locks.specs.LockHolders.{LockState}
use Rattle.index_steps.specs.SwapAnswers.{LeavesLocks, TakesAtMost}

-- what two calls leave
pub leaves_then : (h k l : Place → Option ℕ) (relation s : ℕ) → LeavesLocks h k relation s → LeavesLocks k l relation s → LeavesLocks h l relation s
leaves_then h k l relation s first second = record {
  elsewhere = λ page other none. let same : k page ≡ h page = first.elsewhere page other none in
      second.elsewhere page other (λ held. none (sym same ∙ held)) ∙ same;
  others = λ page n other. (λ is. (first.others page n other).0 ((second.others page n other).0 is), λ is. (second.others page n other).1 ((first.others page n other).1 is));
}

-- so many that are taken, and then no more
pub takes_then : (n : ℕ) (old mid new : LockState) (s : ℕ) → mid.limit ≡ old.limit → AddsAtMost old mid s n → new.limit ≡ mid.limit → AddsAtMost mid new s 0 → TakesAtMost n old new s
takes_then n old mid new s limit adds same none = record {
  limit = same ∙ limit;
  adds = record {
    own = omega (arith, adds.own, none.own);
    others = λ a other. none.others a other ∙ adds.others a other;
    all = omega (arith, adds.all, none.all);
  };
}
