-- Lists of statuses, and the next number.
use Rattle.std.proofs.Common.{◌≡◌, ◌≢◌, inl, inr, ℕ, zero, suc, ◌+◌, ◌-◌, ◌<◌, ◌≤◌, List, [], ◌∷◌, ◌++◌, length, take, get_or, set, refl, sym, ap, ◌∙◌, arith}
use Rattle.std.specs.List.{All}
use Rattle.std.proofs.lemmas.Bool.{cases_eq, cases_lt}
use Rattle.std.proofs.lemmas.List.{get_or-set_other, get_or-set_same, length-set}
use Rattle.std.proofs.Math.Seq.{take-suc}
use Rattle.snapshot_core.specs.declared.statuses.Status.{Status}
use Rattle.snapshot_core.specs.declared.statuses.Status.TheVariants.{Unused}
use Rattle.tx_table.specs.Statuses.{with_all}
use Rattle.tx_table.specs.TxState.{IsNext}

with_all-append : (statuses : List Status) (list : List ℕ) (t : ℕ) (status : Status) → with_all statuses (list ++ t ∷ []) status ≡ set (with_all statuses list status) t status
with_all-append statuses [] t status = refl
with_all-append statuses (u ∷ list) t status = with_all-append (set statuses u status) list t status

-- one transaction more of the list
pub with_all-next : (statuses : List Status) (list : List ℕ) (i t : ℕ) (status : Status) → i < length list → t ≡ get_or list i 0 → with_all statuses (take (i + 1) list) status ≡ set (with_all statuses (take i list) status) t status
with_all-next statuses list i t status below at =
    let next : i + 1 ≡ suc i = omega arith in
    ap (λ (k : ℕ). with_all statuses (take k list) status) next
    ∙ ap (λ (l : List ℕ). with_all statuses l status) (take-suc list i 0 below)
    ∙ with_all-append statuses (take i list) (get_or list i 0) status
    ∙ ap (λ (u : ℕ). set (with_all statuses (take i list) status) u status) (sym at)

-- the next number stays, where a transaction that was begun has a status
pub next_kept : (statuses : List Status) (next t : ℕ) (status : Status) → IsNext statuses next → t < next → next ≤ length statuses → status ≢ Unused → IsNext (set statuses t status) next
next_kept statuses next t status is below within used = record {
  some = is.some;
  used = λ more. elim (cases_eq (next - 1) t) [
    | inl same ↦ λ none. used (sym (ap (λ (k : ℕ). get_or (set statuses t status) k Unused) same ∙ get_or-set_same statuses t status Unused (omega (arith, below, within))) ∙ none)
    | inr apart ↦ λ none. is.used more (sym (get_or-set_other statuses t (next - 1) status Unused apart) ∙ none)
  ];
  unused = λ u above. get_or-set_other statuses t u status Unused (λ same. absurd (omega (arith, same, above, below))) ∙ is.unused u above;
}

-- and where several have it
pub next_with_all : (statuses : List Status) (next : ℕ) (list : List ℕ) (status : Status) → IsNext statuses next → All (λ t. t < next) list → next ≤ length statuses → status ≢ Unused → IsNext (with_all statuses list status) next
next_with_all statuses next [] status is below within used = is
next_with_all statuses next (t ∷ list) status is below within used =
    next_with_all (set statuses t status) next list status (next_kept statuses next t status is (below zero 0 (omega arith)) within used) (λ i d there. below (suc i) d (omega (arith, there)))
    (omega (arith, within, length-set statuses t status)) used

-- it grows by one where the next transaction begins
pub next_begun : (statuses : List Status) (next more : ℕ) (status : Status) → IsNext statuses next → more ≡ next + 1 → next < length statuses → status ≢ Unused → IsNext (set statuses next status) more
next_begun statuses next more status is grown within used = record {
  some = omega (arith, grown);
  used = λ some none.
      let same : more - 1 ≡ next = omega (arith, grown) in
      used (sym (ap (λ (k : ℕ). get_or (set statuses next status) k Unused) same ∙ get_or-set_same statuses next status Unused within) ∙ none);
  unused = λ u above. get_or-set_other statuses next u status Unused (λ same. absurd (omega (arith, same, above, grown))) ∙ is.unused u (omega (arith, above, grown));
}

-- a list has one next number
pub next_one : (statuses : List Status) (a b : ℕ) → IsNext statuses a → IsNext statuses b → a ≡ b
next_one statuses a b one two = elim (cases_eq a b) [
  | inl same ↦ same
  | inr apart ↦ absurd (unlike apart)
]
  where
    below : (c d : ℕ) → IsNext statuses c → IsNext statuses d → c < d → ⊥
    below c d less more lower = more.used (omega (arith, less.some, lower)) (less.unused (d - 1) (omega (arith, lower)))

    unlike : a ≢ b → ⊥
    unlike apart = elim (cases_lt a b) [
      | inl lower ↦ below a b one two lower
      | inr other ↦ below b a two one (omega (arith, other, apart))
    ]
