-- What a scan of a table still has before it.
use Rattle.std.proofs.Common.{◌≡◌, ◌≢◌, ◌⊎◌, inl, inr, ⊎_elim, ℕ, ◌≤◌, ◌<◌, Option, Some, None, Bool, true, false, List, sym, ◌∙◌, ap, subst, suc}
use Rattle.std.specs.Prelude.{refl, IsTrue}
use Rattle.std.proofs.lemmas.Option.{same_Some, none-some}
use Rattle.std.proofs.lemmas.Bool.{false≢true}
use Rattle.std.proofs.Math.Nat.{le_antisymm, not-le_of_lt}
use Rattle.block_model.specs.declared.row.Row.{Row}
use Rattle.block_model.specs.declared.row.RowId.{RowId}
use Rattle.block_model.specs.declared.place.Spot.{Spot}
use Rattle.coverage.specs.RowOrder.{IsAmong}
use Rattle.coverage.specs.Table.{TableScan, Resting, Scans, Marks, TableState, judged_with}
use Rattle.coverage.specs.IndexView.{IndexTuple, IndexView, range_of_block}
use Rattle.coverage.specs.Steps.{IsGone}
use Rattle.coverage.specs.TableSteps.{JudgeStep, JudgeMap, JudgeNoEntry, JudgeGone, JudgeKeeps, JudgeDrops, ReadsPage, Onward, JudgesNext, Scanned, IsScanRead}
use Rattle.coverage.specs.TableSteps.{ListsFound}
use Rattle.coverage.specs.TableCovered.{IsTableKept, IsGiven, IsUnjudged}
use Rattle.coverage.proofs.Views.{scan_of}
use Rattle.coverage.proofs.ScanComes.{marks_of, onward_marks}
use Rattle.coverage.proofs.TableJudged.{given_or_unjudged}

pub table_scan_finds : (w : TableState) (s b k : ℕ) (scan : TableScan) → IsTableKept w → w.task s ≡ Scans scan → IsTrue (scan.sees b k)
    → (r : Row) × (w.row b k ≡ Some r) × (IsTrue (scan.matches r) → IsTrue (scan.found b k) ⊎ (IsGiven w scan b × (scan.read ≤ b)) ⊎ IsUnjudged w scan b)
table_scan_finds w s b k scan kept is sees =
    let row = kept.scans s scan is b k sees in (
      row.0,
      row.1,
      λ matches. ⊎_elim
          (λ (found : IsTrue (scan.found b k)). inl found)
          (λ (left : IsTrue (scan.candidate b) × (scan.read ≤ b)). ⊎_elim
          (λ (given : IsGiven w scan b). inr (inl (given, left.1)))
          (λ (one : IsUnjudged w scan b). inr (inr one))
          (given_or_unjudged w scan b (kept.exact s scan is) left.0))
          (row.2 matches),
    )

-- two tests that hold of the same are one
same_test : (f g : Bool) → (IsTrue f → IsTrue g) → (IsTrue g → IsTrue f) → f ≡ g
same_test true true one two = refl
same_test true false one two = sym (one refl)
same_test false true one two = two refl
same_test false false one two = refl

place_of : (w : IndexView) (range : ℕ) (x y : Spot) → w.entry range ≡ Some x → w.entry range ≡ Some y → x ≡ y
place_of w range x y one two = same_Some _ _ (sym one ∙ two)

same_held : (held : Option Spot) (x y : Spot) → held ≡ Some x → held ≡ Some y → x ≡ y
same_held held x y one two = same_Some _ _ (sym one ∙ two)

-- the tuple at a held place is one
same_there : (w : IndexView) (scan : TableScan) (x y : Spot) (t u : IndexTuple) → scan.held ≡ Some x → scan.held ≡ Some y → w.tuple x ≡ Some t
    → w.tuple y ≡ Some u → t ≡ u
same_there w scan x y t u one two here there = same_Some _ _ (sym here ∙ ap w.tuple (same_held scan.held x y one two) ∙ there)

-- what a range leaves out of the candidates is one thing
same_candidates : (w : IndexView) (old : TableScan) (f g : ℕ → Bool)
    → ((b : ℕ) → ((range_of_block w b ≡ old.range) × (f b ≡ false)) ⊎ ((range_of_block w b ≢ old.range) × (f b ≡ old.candidate b)))
    → ((b : ℕ) → ((range_of_block w b ≡ old.range) × (g b ≡ false)) ⊎ ((range_of_block w b ≢ old.range) × (g b ≡ old.candidate b))) → (b : ℕ) → f b ≡ g b
same_candidates w old f g one two b = ⊎_elim
    (λ (out : (range_of_block w b ≡ old.range) × (f b ≡ false)). elim (two b) [ inl out' ↦ out.1 ∙ sym out'.1 | inr in' ↦ absurd (in'.0 out.0) ])
    (λ (in1 : (range_of_block w b ≢ old.range) × (f b ≡ old.candidate b)). elim (two b) [ inl out' ↦ absurd (in1.0 out'.0) | inr in' ↦ in1.1 ∙ sym in'.1 ])
    (one b)

module _ (w : IndexView) (old : TableScan) where
  empty_held : {A : Type 0} → (x : Spot) → old.held ≡ None → old.held ≡ Some x → A
  empty_held x empty held = absurd (none-some _ (sym empty ∙ held))

  keeps_or_not : {A : Type 0} → (x y : Spot) (t u : IndexTuple) → old.held ≡ Some x → old.held ≡ Some y → w.tuple x ≡ Some t → w.tuple y ≡ Some u
      → IsTrue (old.keeps old.at t) → old.keeps old.at u ≡ false → A
  keeps_or_not x y t u one two here there keeps drops =
      absurd (false≢true (sym drops ∙ ap (old.keeps old.at) (sym (same_there w old x y t u one two here there)) ∙ keeps))

  gone_or_there : {A : Type 0} → (x y : Spot) (t : IndexTuple) → old.held ≡ Some x → old.held ≡ Some y → IsGone w old.range x → w.tuple y ≡ Some t
      → t.range ≡ old.range → A
  gone_or_there x y t one two gone there of = absurd (gone t (ap w.tuple (same_held old.held x y one two) ∙ there) of)

  pub judge_once : (p q : TableScan) → JudgeStep w old p → JudgeStep w old q → p ≡ q
  judge_once _ _ (JudgeMap x empty named) (JudgeMap y empty' named') = λ i. record old { held = Some (place_of w old.range x y named named' i) }
  judge_once _ _ (JudgeMap x empty named) (JudgeNoEntry empty' none) = absurd (none-some _ (sym none ∙ named))
  judge_once _ _ (JudgeMap x empty named) (JudgeGone y held gone) = empty_held y empty held
  judge_once _ _ (JudgeMap x empty named) (JudgeKeeps y t held stands keeps) = empty_held y empty held
  judge_once _ _ (JudgeMap x empty named) (JudgeDrops y t candidate held stands drops excludes others) = empty_held y empty held
  judge_once _ _ (JudgeNoEntry empty none) (JudgeMap y empty' named) = absurd (none-some _ (sym none ∙ named))
  judge_once _ _ (JudgeNoEntry empty none) (JudgeGone y held gone) = empty_held y empty held
  judge_once _ _ (JudgeNoEntry empty none) (JudgeKeeps y t held stands keeps) = empty_held y empty held
  judge_once _ _ (JudgeNoEntry empty none) (JudgeDrops y t candidate held stands drops excludes others) = empty_held y empty held
  judge_once _ _ (JudgeGone x held gone) (JudgeMap y empty named) = empty_held x empty held
  judge_once _ _ (JudgeGone x held gone) (JudgeNoEntry empty none) = empty_held x empty held
  judge_once _ _ (JudgeGone x held gone) (JudgeKeeps y t held' stands keeps) = gone_or_there x y t held held' gone stands.0 stands.1
  judge_once _ _ (JudgeGone x held gone) (JudgeDrops y t candidate held' stands drops excludes others) = gone_or_there x y t held held' gone stands.0 stands.1
  judge_once _ _ (JudgeKeeps x t held stands keeps) (JudgeMap y empty named) = empty_held x empty held
  judge_once _ _ (JudgeKeeps x t held stands keeps) (JudgeNoEntry empty none) = empty_held x empty held
  judge_once _ _ (JudgeKeeps x t held stands keeps) (JudgeGone y held' gone) = gone_or_there y x t held' held gone stands.0 stands.1
  judge_once _ _ (JudgeKeeps x t held stands keeps) (JudgeDrops y u candidate held' stands' drops excludes others) =
      keeps_or_not x y t u held held' stands.0 stands'.0 keeps drops
  judge_once _ _ (JudgeDrops x t candidate held stands drops excludes others) (JudgeMap y empty named) = empty_held x empty held
  judge_once _ _ (JudgeDrops x t candidate held stands drops excludes others) (JudgeNoEntry empty none) = empty_held x empty held
  judge_once _ _ (JudgeDrops x t candidate held stands drops excludes others) (JudgeGone y held' gone) = gone_or_there y x t held' held gone stands.0 stands.1
  judge_once _ _ (JudgeDrops x t candidate held stands drops excludes others) (JudgeKeeps y u held' stands' keeps) =
      keeps_or_not y x u t held' held stands'.0 stands.0 keeps drops
  judge_once _ _ (JudgeDrops x t candidate held stands drops excludes others) (JudgeDrops y u candidate' held' stands' drops' excludes' others') =
      λ i. record old { range = suc old.range; held = None; judged = judged_with old false; candidate = λ b. same_candidates w old candidate candidate' others others' b i }
  judge_once _ _ _ _ = refl

pub reads_once : (w : TableState) (scan : TableScan) (m n : ℕ) (f g : ℕ → ℕ → Bool) → ReadsPage w scan m f → ReadsPage w scan n g
    → (m ≡ n) × ((b k : ℕ) → f b k ≡ g b k)
reads_once w scan m n f g one two =
    (same, λ b k. same_test (f b k) (g b k) (λ has. finds f g m n one two same b k has) (λ has. finds g f n m two one (sym same) b k has))
  where
    same : m ≡ n
    same = le_antisymm (one.first n two.given two.unread) (two.first m one.given one.unread)

    finds : (f g : ℕ → ℕ → Bool) (m n : ℕ) → ReadsPage w scan m f → ReadsPage w scan n g → m ≡ n → (b k : ℕ) → IsTrue (f b k) → IsTrue (g b k)
    finds f g m n one two same b k has = ⊎_elim
        (λ (before : IsTrue (scan.found b k)). two.keeps b k before)
        (λ (here : (b ≡ m) × ((r : Row) × (w.row b k ≡ Some r) × IsTrue (scan.sees b k) × IsTrue (scan.matches r))).
        let at : b ≡ n = here.0 ∙ same in
        subst (λ c. IsTrue (g c k)) (sym at)
        (two.page k here.1.0 (ap (λ c. w.row c k) (sym at) ∙ here.1.1) (subst (λ c. IsTrue (scan.sees c k)) at here.1.2) here.1.3))
        (one.only b k has)

-- a scan that replies has read all of its candidates
replied_reads : (w : TableState) (scan : TableScan) → Onward w (Scans scan) Resting → scan.explains ≡ false → (b : ℕ) → IsTrue (scan.candidate b)
    → b < scan.read
replied_reads w _ (JudgesNext scan _ inside all empty more) reads b candidate =
    replied_reads w (record scan { at = suc scan.at; range = 0 }) more reads b candidate
replied_reads w _ (Scanned scan read nothing) reads b candidate = ⊎_elim
    (λ (explains : scan.explains ≡ true). absurd (false≢true (sym reads ∙ explains)))
    (λ (all : (c : ℕ) → IsTrue (scan.candidate c) → c < scan.read). all b candidate)
    read.1

pub replied_finds : (w : TableState) (s b k : ℕ) (scan : TableScan) → IsTableKept w → w.task s ≡ Scans scan → Onward w (Scans scan) Resting
    → scan.explains ≡ false → IsTrue (scan.sees b k)
    → (r : Row) × (w.row b k ≡ Some r) × (IsTrue (scan.matches r) → IsTrue (scan.found b k))
replied_finds w s b k scan kept is onward reads sees =
    let row = kept.scans s scan is b k sees in (
      row.0,
      row.1,
      λ matches. elim (row.2 matches) [ inl found ↦ found | inr left ↦ absurd (not-le_of_lt (replied_reads w scan onward reads b left.0) left.1) ],
    )

-- a delete that comes to its marks has found each matching row that it sees, and lists it
module _ (v : TableState) (b k : ℕ) (scan : TableScan) where
  abbrev IsOnItsWay : TableScan → Type 0
  IsOnItsWay q = (r : Row) × (v.row b k ≡ Some r) × (IsTrue (scan.matches r) → IsTrue (q.found b k) ⊎ (IsTrue (q.candidate b) × (q.read ≤ b)))

  abbrev IsListed : TableScan → List RowId → Type 0
  IsListed q ids = (r : Row) × (v.row b k ≡ Some r) × (IsTrue (scan.matches r) → IsAmong ids r.id)

  listed : (q : TableScan) (ids : List RowId) → IsOnItsWay q → IsScanRead v q → q.explains ≡ false → ListsFound v q ids → IsListed q ids
  listed q ids way read reads lists = (
    way.0,
    way.1,
    λ matches. lists.all b k way.0
        (⊎_elim
        (λ (found : IsTrue (q.found b k)). found)
        (λ (left : IsTrue (q.candidate b) × (q.read ≤ b)). absurd (⊎_elim
        (λ (explains : q.explains ≡ true). false≢true (sym reads ∙ explains))
        (λ (all : (c : ℕ) → IsTrue (q.candidate c) → c < q.read). not-le_of_lt (all b left.0) left.1)
        read.1))
        (way.2 matches))
        way.1,
  )

  pub marked_finds : (s : ℕ) (marking : TableScan) (ids : List RowId) → IsTableKept v → v.task s ≡ Scans scan → Onward v (Scans scan) (Marks marking ids)
      → IsTrue (scan.sees b k) → IsListed marking ids
  marked_finds s marking ids kept is onward sees =
      onward_marks IsOnItsWay IsListed v (λ q inside all way. way) listed (Scans scan) (Marks marking ids) onward
      (λ q e. subst IsOnItsWay (same_Some _ _ (ap scan_of e)) (kept.scans s scan is b k sees))
      (λ q l e. absurd (none-some _ (ap marks_of e))) marking ids refl
