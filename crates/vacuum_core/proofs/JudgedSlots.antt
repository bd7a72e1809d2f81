-- the slots that are listed and counted, with the next one judged
use Rattle.std.proofs.Common.{◌≡◌, inl, inr, ℕ, suc, ◌+◌, ◌≤◌, ◌<◌, true, List, length, ◌++◌, sym, ap, subst, arith}
use Rattle.std.specs.Prelude.{◌↔◌}
use Rattle.std.specs.Int.{bytes_high_first}
use Rattle.std.proofs.lemmas.Bool.{cases_eq}
use Rattle.std.proofs.lemmas.List.{length-append}
use Rattle.coverage.specs.Counts.{IsCountBelow, NotThisOne, OneMoreBelow}
use Rattle.index_layout.specs.IndexWrites.{are_ascending}
use Rattle.vacuum_core.specs.SweptPages.{IsListed, Judges}
use Rattle.vacuum_core.proofs.SlotBytes.{ascends_below, keeps_listed, lists_only, lists_slot, pushes}

module _ (Told : Type 0) (P : ℕ → Type 0) (slot one : ℕ) (before after : List ℕ) (small : slot < 65536) (judged : Judges Told (P slot) slot before after one) (ascending : are_ascending 0 slot before ≡ true) where
  pub ascends_next : are_ascending 0 (slot + 1) after ≡ true
  ascends_next = elim judged [
    | inl is ↦ subst (λ (l : List ℕ). are_ascending 0 (slot + 1) l ≡ true) (sym is.1) (pushes slot before small ascending)
    | inr none ↦ subst (λ (l : List ℕ). are_ascending 0 (slot + 1) l ≡ true) (sym none.1) (ascends_below 0 slot (slot + 1) before (omega arith) ascending)
  ]

  pub few_next : (length after ≤ length before + 2) × (one ≤ 1)
  few_next = elim judged [
    | inl is ↦ (let e = ap (length {A = ℕ}) is.1 in let o = is.0 in (omega (arith, e, length-append before (bytes_high_first 2 slot)), omega (arith, o)))
    | inr none ↦ (let e = ap (length {A = ℕ}) none.1 in let o = none.0 in (omega (arith, e), omega (arith, o)))
  ]

  pub lists_next : Told → ((n : ℕ) → IsListed before n ↔ ((n < slot) × P n)) → (n : ℕ) → IsListed after n ↔ ((n < slot + 1) × P n)
  lists_next told so_far n = elim judged [
    | inl is ↦ (
      λ listed. elim (lists_only slot n slot before small ascending (subst (λ (l : List ℕ). IsListed l n) is.1 listed)) [
        | inl among ↦ (let at = (so_far n).0 among in (omega (arith, at.0), at.1))
        | inr last ↦ (omega (arith, last), subst P (sym last) (is.2 told))
      ],
      λ at. subst (λ (l : List ℕ). IsListed l n) (sym is.1) (elim (cases_eq n slot) [
        | inl same ↦ subst (λ (k : ℕ). IsListed (before ++ bytes_high_first 2 slot) k) (sym same) (lists_slot slot slot before small ascending)
        | inr other ↦ keeps_listed n slot before ((so_far n).1 (omega (arith, at.0, other), at.1))
      ]),
    )
    | inr none ↦ (
      λ listed. (let at = (so_far n).0 (subst (λ (l : List ℕ). IsListed l n) none.1 listed) in (omega (arith, at.0), at.1)),
      λ at. subst (λ (l : List ℕ). IsListed l n) (sym none.1) (elim (cases_eq n slot) [
        | inl same ↦ absurd (none.2 told (subst P same at.1))
        | inr other ↦ (so_far n).1 (omega (arith, at.0, other), at.1)
      ]),
    )
  ]

  pub counts_next : Told → (count : ℕ) → IsCountBelow P slot count → IsCountBelow P (slot + 1) (count + one)
  counts_next told count so_far =
      let e : suc slot ≡ slot + 1 = omega arith in
      subst (λ (n : ℕ). IsCountBelow P n (count + one)) e (elim judged [
        | inl is ↦ (let f : suc count ≡ count + one = (let o = is.0 in omega (arith, o)) in subst (λ (n : ℕ). IsCountBelow P (suc slot) n) f (OneMoreBelow slot count (is.2 told) so_far))
        | inr none ↦ (let f : count ≡ count + one = (let o = none.0 in omega (arith, o)) in subst (λ (n : ℕ). IsCountBelow P (suc slot) n) f (NotThisOne slot count (none.2 told) so_far))
      ])
