-- stores with the same parts
use Rattle.std.proofs.Common.{◌≡◌, ℕ, zero, suc, ◌<◌, ◌≤◌, List, [], ◌∷◌, length, get_or-set_same, get_or-set_other, Option, None, Some, sym, ap, subst, ◌∙◌, arith}
use Rattle.std.proofs.lemmas.Option.{none-some}
use Rattle.disk_trait.specs.Told.{Told}
use Rattle.page_locks.specs.LockCounts.{locks_of}
use Rattle.snapshot_core.specs.StoredVersions.{transaction_of}
use Rattle.store_layout.specs.DiskLayout.{DiskLayout}
use Rattle.snapshot_core.specs.declared.sessions.Open.{Open}
use Rattle.session_parts.specs.declared.hand.Hand.{Hand}
use Rattle.session_parts.specs.HandFits.{FitsHand, locks_held, right_held}
use Rattle.session_parts.specs.Shares.{share_of}
use Rattle.session_parts.specs.StoreLaws.{FitEverywhere, HandChanges, OthersStayFit}
use Rattle.session_parts.specs.StoreStates.{hand_at, hand_in}

pub fits_everywhere : {D : Type 0} (told : D → Told) → FitEverywhere told
fits_everywhere told parts n hand names hands fit is =
    let s = fit.3 in
    let same : hand_in fit.1 n ≡ hand_in hands n = fit.2 ∙ sym is in
    record {
      session = s.session;
      over = s.over;
      hand = subst (λ (h : Option Hand). FitsHand parts.pages.layout (transaction_of parts.transactions.opens n) h) same s.hand;
      limit = s.limit;
      own = subst (λ (h : Option Hand). locks_of parts.locks n ≤ locks_held h) same s.own;
      held = λ table holds. ap (right_held parts.pages.layout) (sym same) ∙ s.held table holds;
      rights = s.rights;
      entries = s.entries;
      share = subst (λ (h : Option Hand). share_of h (transaction_of parts.transactions.opens n) ≤ parts.journal.promised) same s.share;
    }

-- a statement that is in hand stands in the list
inside : (hands : List (Option Hand)) (n : ℕ) (was : Hand) → hand_in hands n ≡ Some was → n < length hands
inside [] n was is = absurd (none-some was is)
inside (hand ∷ hands) zero was is = omega arith
inside (hand ∷ hands) (suc n) was is = omega (arith, inside hands n was is)

pub hand_changes : HandChanges
hand_changes hands n was hand is = record {
  own = get_or-set_same hands n hand None (inside hands n was is);
  others = λ m other. get_or-set_other hands n m hand None other;
}

pub others_stay_fit : {D : Type 0} (told : D → Told) → OthersStayFit told
others_stay_fit told old new n m other was now leaves same share = record {
  session = was.session;
  over = now.over;
  hand = subst (λ (l : DiskLayout). FitsHand l (transaction_of new.transactions.opens m) (hand_at new m)) (sym leaves.leaves.layout)
      (subst (λ (o : Option Open). FitsHand old.pages.layout o (hand_at new m)) (sym (leaves.transactions m other))
      (subst (λ (h : Option Hand). FitsHand old.pages.layout (transaction_of old.transactions.opens m) h) (sym same) was.hand));
  limit = now.limit;
  own = subst (λ (h : Option Hand). locks_of new.locks m ≤ locks_held h) (sym same) (subst (λ (k : ℕ). k ≤ locks_held (hand_at old m)) (sym (leaves.locks m other)) was.own);
  held = λ table holds. ap (λ (l : DiskLayout). right_held l (hand_at new m)) leaves.leaves.layout ∙ ap (right_held old.pages.layout) same ∙ was.held table (leaves.rights m table other holds);
  rights = now.rights;
  entries = now.entries;
  share = share;
}
