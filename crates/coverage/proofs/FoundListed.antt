-- The rows that a scan found can be listed in order, where they lie on blocks of the table and the rows of each block end.
use Rattle.std.proofs.Common.{◌≡◌, ◌≢◌, ◌⊎◌, inl, inr, ⊎_elim, ℕ, ◌≤◌, ◌<◌, Option, Some, None, Bool, true, false, List, [], ◌∷◌, sym, ◌∙◌, ap, subst, arith, zero, suc}
use Rattle.std.specs.Prelude.{refl, IsTrue}
use Rattle.std.proofs.lemmas.Option.{same_Some, none-some}
use Rattle.std.proofs.lemmas.Bool.{cases_eq, false≢true}
use Rattle.std.proofs.Math.Nat.{lt_trans, not-suc-le-zero}
use Rattle.block_model.specs.declared.row.Row.{Row}
use Rattle.block_model.specs.declared.row.RowId.{RowId}
use Rattle.coverage.specs.Statements.{HasNoMoreRows}
use Rattle.coverage.proofs.Numbers.{lt_or_ge, last_or_below}
use Rattle.coverage.specs.RowOrder.{IsBefore, IsAmong, AreInOrder}
use Rattle.coverage.specs.Table.{TableScan, TableState}
use Rattle.coverage.specs.TableSteps.{ListsFound}

before_through : (a b c : RowId) → IsBefore a b → IsBefore b c → IsBefore a c
before_through a b c one two = ⊎_elim
    (λ (less : a.t < b.t). elim two [ inl more ↦ inl (lt_trans less more) | inr same ↦ inl (subst (λ n. a.t < n) same.0 less) ])
    (λ (same : (a.t ≡ b.t) × (a.k < b.k)). ⊎_elim
    (λ (more : b.t < c.t). inl (subst (λ n. n < c.t) (sym same.0) more))
    (λ (same' : (b.t ≡ c.t) × (b.k < c.k)). inr (same.0 ∙ same'.0, lt_trans same.1 same'.1))
    two)
    one

-- of two ids one comes first, or they are one
ids_compare : (a b : RowId) → IsBefore a b ⊎ (a ≡ b) ⊎ IsBefore b a
ids_compare a b = ⊎_elim
    (λ (less : a.t < b.t). inl (inl less))
    (λ (le : b.t ≤ a.t). ⊎_elim
    (λ (t : a.t ≡ b.t). ⊎_elim
    (λ (less : a.k < b.k). inl (inr (t, less)))
    (λ (le' : b.k ≤ a.k). ⊎_elim
    (λ (k : a.k ≡ b.k). inr (inl (λ i. record { t = t i; k = k i })))
    (λ (other : a.k ≢ b.k). inr (inr (inr (sym t, omega arith))))
    (cases_eq a.k b.k))
    (lt_or_ge a.k b.k))
    (λ (other : a.t ≢ b.t). inr (inr (inl (omega arith))))
    (cases_eq a.t b.t))
    (lt_or_ge a.t b.t)

-- a list in order with one id more
record WithOne (id : RowId) (ids : List RowId) : Type 0 where
  list : List RowId
  ordered : AreInOrder list
  from : (x : RowId) → IsAmong list x → (x ≡ id) ⊎ IsAmong ids x
  this : IsAmong list id
  others : (x : RowId) → IsAmong ids x → IsAmong list x

with_one : (id : RowId) (ids : List RowId) → AreInOrder ids → WithOne id ids
with_one id [] order = record {
  list = id ∷ [];
  ordered = ((λ x among. absurd among), tt);
  from = λ x among. among;
  this = inl refl;
  others = λ x among. absurd among;
}
with_one id (a ∷ l) order = ⊎_elim
    (λ (first : IsBefore id a). record {
      list = id ∷ a ∷ l;
      ordered = (
        (λ x among. elim among [ inl is ↦ subst (IsBefore id) (sym is) first | inr behind ↦ before_through id a x first (order.0 x behind) ]),
        order,
      );
      from = λ x among. among;
      this = inl refl;
      others = λ x among. inr among;
    })
    (λ (other : (id ≡ a) ⊎ IsBefore a id). ⊎_elim
    (λ (same : id ≡ a). record {
      list = a ∷ l;
      ordered = order;
      from = λ x among. inr among;
      this = inl same;
      others = λ x among. among;
    })
    (λ (later : IsBefore a id).
    let more = with_one id l order.1 in
    record {
      list = a ∷ more.list;
      ordered = (
        (λ x among. elim (more.from x among) [ inl is ↦ subst (IsBefore a) (sym is) later | inr behind ↦ order.0 x behind ]),
        more.ordered,
      );
      from = λ x among. ⊎_elim
          (λ (is : x ≡ a). inr (inl is))
          (λ (behind : IsAmong more.list x). elim (more.from x behind) [ inl is ↦ inl is | inr was ↦ inr (inr was) ])
          among;
      this = inr more.this;
      others = λ x among. elim among [ inl is ↦ inl is | inr behind ↦ inr (more.others x behind) ];
    })
    other)
    (ids_compare id a)

module _ (w : TableState) (scan : TableScan) where
  -- the rows that the scan found at these places
  record Lists (Has : ℕ → ℕ → Type 0) : Type 0 where
    ids : List RowId
    ordered : AreInOrder ids
    all : (b k : ℕ) (r : Row) → Has b k → IsTrue (scan.found b k) → w.row b k ≡ Some r → IsAmong ids r.id
    only : (id : RowId) → IsAmong ids id → (b : ℕ) × (k : ℕ) × (r : Row) × IsTrue (scan.found b k) × (w.row b k ≡ Some r) × (r.id ≡ id)

  abbrev Below : ℕ → ℕ → ℕ → Type 0
  Below b c j = c < b

  abbrev Before : (b n c j : ℕ) → Type 0
  Before b n c j = (c < b) ⊎ ((c ≡ b) × (j < n))

  -- one slot more, with a row that was found, or without
  with_slot : (b n : ℕ) → Lists (Before b n) → (f : Bool) → scan.found b n ≡ f → (o : Option Row) → w.row b n ≡ o → Lists (Before b (suc n))
  with_slot b n lists true found (Some r) there =
      let more = with_one r.id lists.ids lists.ordered in
      record {
        ids = more.list;
        ordered = more.ordered;
        all = λ c j q has is here. ⊎_elim
            (λ (low : c < b). more.others q.id (lists.all c j q (inl low) is here))
            (λ (at : (c ≡ b) × (j < suc n)). ⊎_elim
            (λ (same : j ≡ n).
            let row = same_Some _ _ (sym there ∙ ap (λ m. w.row b m) (sym same) ∙ ap (λ m. w.row m j) (sym at.0) ∙ here) in
            subst (λ (p : Row). IsAmong more.list p.id) row more.this)
            (λ (less : j < n). more.others q.id (lists.all c j q (inr (at.0, less)) is here))
            (last_or_below j n at.1))
            has;
        only = λ id among. elim (more.from id among) [ inl is ↦ (b, n, r, found, there, sym is) | inr was ↦ lists.only id was ];
      }
  with_slot b n lists true found None none = record {
    ids = lists.ids;
    ordered = lists.ordered;
    all = λ c j q has is here. ⊎_elim
        (λ (low : c < b). lists.all c j q (inl low) is here)
        (λ (at : (c ≡ b) × (j < suc n)). ⊎_elim
        (λ (same : j ≡ n). absurd (none-some _ (sym none ∙ ap (λ m. w.row b m) (sym same) ∙ ap (λ m. w.row m j) (sym at.0) ∙ here)))
        (λ (less : j < n). lists.all c j q (inr (at.0, less)) is here)
        (last_or_below j n at.1))
        has;
    only = lists.only;
  }
  with_slot b n lists false unfound o there = record {
    ids = lists.ids;
    ordered = lists.ordered;
    all = λ c j q has is here. ⊎_elim
        (λ (low : c < b). lists.all c j q (inl low) is here)
        (λ (at : (c ≡ b) × (j < suc n)). ⊎_elim
        (λ (same : j ≡ n). absurd (false≢true (sym unfound ∙ ap (λ m. scan.found b m) (sym same) ∙ ap (λ m. scan.found m j) (sym at.0) ∙ is)))
        (λ (less : j < n). lists.all c j q (inr (at.0, less)) is here)
        (last_or_below j n at.1))
        has;
    only = lists.only;
  }

  slots_listed : (b n : ℕ) → Lists (Below b) → Lists (Before b n)
  slots_listed b zero lists = record {
    ids = lists.ids;
    ordered = lists.ordered;
    all = λ c j q has is here. elim has [ inl low ↦ lists.all c j q low is here | inr at ↦ absurd (not-suc-le-zero at.1) ];
    only = lists.only;
  }
  slots_listed b (suc n) lists = with_slot b n (slots_listed b n lists) (scan.found b n) refl (w.row b n) refl

  blocks_listed : ((b : ℕ) → (n : ℕ) × HasNoMoreRows (w.row b) n) → (b : ℕ) → Lists (Below b)
  blocks_listed ends zero = record {
    ids = [];
    ordered = tt;
    all = λ c j q low is here. absurd (not-suc-le-zero low);
    only = λ id among. absurd among;
  }
  blocks_listed ends (suc b) =
      let end = ends b in
      let lists = slots_listed b end.0 (blocks_listed ends b) in
      record {
        ids = lists.ids;
        ordered = lists.ordered;
        all = λ c j q low is here. ⊎_elim
            (λ (same : c ≡ b). ⊎_elim
            (λ (less : j < end.0). lists.all c j q (inr (same, less)) is here)
            (λ (past : end.0 ≤ j). absurd (none-some _ (sym (end.1 j past) ∙ ap (λ m. w.row m j) (sym same) ∙ here)))
            (lt_or_ge j end.0))
            (λ (less : c < b). lists.all c j q (inl less) is here)
            (last_or_below c b low);
        only = lists.only;
      }

  pub found_listed : ((b : ℕ) → (n : ℕ) × HasNoMoreRows (w.row b) n) → ((b k : ℕ) (r : Row) → w.row b k ≡ Some r → b < w.blocks)
      → (ids : List RowId) × ListsFound w scan ids
  found_listed ends below =
      let lists = blocks_listed ends w.blocks in
      (lists.ids, record { ordered = lists.ordered; all = λ b k r found there. lists.all b k r (below b k r there) found there; only = lists.only })
