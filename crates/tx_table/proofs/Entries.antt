-- The entries of one page, as its bytes have them.
use Rattle.std.proofs.Common.{◌≡◌, ◌≢◌, inl, inr, ℕ, zero, suc, ◌-◌, ◌*◌, ◌<◌, List, [], ◌∷◌, length, drop, get_or, set, refl, sym, ap, ◌∙◌, arith}
use Rattle.std.specs.Prelude.{Bool, true, false, cond, eqb, replicate}
use Rattle.std.proofs.lemmas.Bool.{eqb-true}
use Rattle.std.proofs.lemmas.List.{drop-replicate, get_or-set_other, get_or-set_same}
use Rattle.page_layout.specs.declared.page.Form.TheVariants as forms
use Rattle.page_layout.specs.PageContents.{IsPageOf, IsStatusPage, IsUnstarted, statuses}
use Rattle.snapshot_core.specs.declared.statuses.Status.{Status}
use Rattle.snapshot_core.specs.declared.statuses.Status.TheVariants.{Unused, Begun, Committed, RolledBack}
use Rattle.tx_table.specs.PageEntries.{entry_on}
use Rattle.tx_table.specs.Statuses.{HasEntry, status_named}

length-statuses : (bytes : List ℕ) → length (statuses bytes) ≡ 4 * length bytes
unfolding statuses
length-statuses [] = refl
length-statuses (byte ∷ bytes) = omega (arith, length-statuses bytes)

zeros-entries : (n e : ℕ) → get_or (statuses (replicate n 0)) e 0 ≡ 0
unfolding statuses
zeros-entries zero e = refl
zeros-entries (suc n) zero = refl
zeros-entries (suc n) (suc zero) = refl
zeros-entries (suc n) (suc (suc zero)) = refl
zeros-entries (suc n) (suc (suc (suc zero))) = refl
zeros-entries (suc n) (suc (suc (suc (suc e)))) = zeros-entries n e

-- a page that isn't started has zeros
pub unstarted_entry : (page : List ℕ) (e : ℕ) → IsUnstarted page → entry_on page e ≡ 0
unstarted_entry page e zeros =
    ap (λ (l : List ℕ). get_or (statuses (drop 32 l)) e 0) zeros ∙ ap (λ (l : List ℕ). get_or (statuses l) e 0) (drop-replicate 32 8192 0) ∙ zeros-entries (8192 - 32) e

-- a started one has its entries
pub started_entries : (page entries : List ℕ) → IsStatusPage page entries → statuses (drop 32 page) ≡ entries
started_entries page entries is = ap (λ (l : List ℕ). statuses (drop 32 l)) is.bytes.2 ∙ sym is.bytes.3

pub length-entries : (page entries : List ℕ) → IsStatusPage page entries → length entries ≡ 32640
length-entries page entries is = omega (arith, ap length is.bytes.3, length-statuses is.bytes.0, is.bytes.1)

-- a status that an entry has is named by its number
pub entry_named : (page : List ℕ) (e : ℕ) (status : Status) → HasEntry page e status → status ≡ status_named (entry_on page e)
entry_named page e status (inl none) = none.1 ∙ ap status_named (sym (unstarted_entry page e none.0))
entry_named page e status (inr one) = one.2 ∙ ap (λ (l : List ℕ). status_named (get_or l e 0)) (sym (started_entries page one.0 one.1))

-- so each entry of a page that passes its check has one
pub has_named : (page : List ℕ) (e : ℕ) → IsPageOf forms.Status page → HasEntry page e (status_named (entry_on page e))
has_named page e (inl zeros) = inl (zeros, ap status_named (unstarted_entry page e zeros))
has_named page e (inr started) = inr (started.0, started.1, ap (λ (l : List ℕ). status_named (get_or l e 0)) (started_entries page started.0 started.1))

-- a page is started where one of its entries is begun
pub begun_started : (page : List ℕ) (e : ℕ) → HasEntry page e Begun → (entries : List ℕ) × IsStatusPage page entries
begun_started page e (inl none) = absurd (let clash : Begun ≡ Unused = none.1 in cc)
begun_started page e (inr one) = (one.0, one.1)

-- only 0 names the unused ones
unused_first : (a b c : Bool) → cond a Unused (cond b Begun (cond c Committed RolledBack)) ≡ Unused → a ≡ true
unused_first true b c is = refl
unused_first false true c is = absurd cc
unused_first false false true is = absurd cc
unused_first false false false is = absurd cc

pub named_zero : (n : ℕ) → status_named n ≡ Unused → n ≡ 0
named_zero n is = eqb-true n 0 (unused_first (eqb n 0) (eqb n 1) (eqb n 2) is)

-- a change of one entry
pub entry_set : (new entries : List ℕ) (e n : ℕ) (status : Status) → length entries ≡ 32640 → e < 32640 → IsStatusPage new (set entries e n) → status_named n ≡ status → HasEntry new e status
entry_set new entries e n status long below is named =
    inr (set entries e n, is, sym named ∙ ap status_named (sym (get_or-set_same entries e n 0 (omega (arith, long, below)))))

-- leaves each other one
pub entry_other : (old new entries : List ℕ) (e other n : ℕ) (status : Status) → IsStatusPage old entries → IsStatusPage new (set entries e n) → other ≢ e → HasEntry old other status → HasEntry new other status
entry_other old new entries e other n status was is apart has = inr (
  set entries e n,
  is,
  entry_named old other status has
      ∙ ap (λ (l : List ℕ). status_named (get_or l other 0)) (started_entries old entries was)
      ∙ ap status_named (sym (get_or-set_other entries e other n 0 apart)),
)
