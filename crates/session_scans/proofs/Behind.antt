-- a look is refused behind what was promised and released meanwhile
use Rattle.std.proofs.Common.{◌≡◌, ℕ, ◌+◌, ◌++◌, ◌∷◌, [], List, refl, ap, ◌∙◌, subst, arith}
use Rattle.block_model.specs.declared.request.Entry.{Entry}
use Rattle.block_model.specs.declared.row.Query.{Query}
use Rattle.transactions.specs.TransactionsState.{OfOpen, TransactionsState, with_failed}
use Rattle.session_parts.specs.declared.parts.Parts.{Parts}
use Rattle.session_parts.specs.JournalState.{JournalState}
use Rattle.session_scans.specs.Finishes.{RefusesLook}
use Rattle.session_scans.proofs.Refusals.{refused_entry}

pub refused_entered : (old mid new : List Entry) (n : ℕ) (query other : Query) → mid ≡ old → other ≡ query → new ≡ mid ++ refused_entry n other ∷ [] → new ≡ old ++ refused_entry n query ∷ []
refused_entered old mid new n query other mid_is other_is is =
    subst (λ (q : Query). new ≡ old ++ refused_entry n q ∷ []) other_is (subst (λ (l : List Entry). new ≡ l ++ refused_entry n other ∷ []) mid_is is)

module _ {D : Type 0} (old mid new : Parts D) (released : JournalState) (n : ℕ) (query : Query) (rest : mid ≡ record old { journal = mid.journal }) (entries : mid.journal.entries ≡ old.journal.entries)
    (same : mid.journal.promised ≡ old.journal.promised) where
  pub refuses_behind : released.entries ≡ mid.journal.entries → released.promised + 1 ≡ mid.journal.promised → OfOpen mid.transactions n (λ o. new.transactions ≡ with_failed mid.transactions n o)
      → new.journal.entries ≡ released.entries ++ refused_entry n query ∷ [] → new.journal.promised + 1 ≡ released.promised
      → new ≡ record mid { transactions = new.transactions; journal = new.journal } → RefusesLook old new n query
  refuses_behind released_entries less failed entered once new_is = record {
    failed = subst (λ (t : TransactionsState). OfOpen t n (λ o. new.transactions ≡ with_failed t n o)) (ap (λ (p : Parts D). p.transactions) rest) failed;
    entries = refused_entered old.journal.entries released.entries new.journal.entries n query query (released_entries ∙ entries) refl entered;
    promised = omega (arith, once, less, same);
    rest = subst (λ (p : Parts D). new ≡ record p { transactions = new.transactions; journal = new.journal }) rest new_is;
  }
