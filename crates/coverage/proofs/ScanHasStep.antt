-- A scan that has a range to judge, or a block to read, has a step that does it.
use Rattle.std.proofs.Common.{◌≡◌, ◌≢◌, ◌⊎◌, inl, inr, ⊎_elim, ℕ, ◌≤◌, ◌<◌, Option, Some, None, Bool, true, false, ◌&&◌, ◌||◌, sym, ◌∙◌, ap, subst, arith, suc}
use Rattle.std.specs.Prelude.{refl, IsTrue}
use Rattle.std.proofs.lemmas.Option.{same_Some, none-some}
use Rattle.std.proofs.lemmas.Bool.{cases_eq, false≢true}
use Rattle.std.proofs.Math.Nat.{not-le_of_lt}
use Rattle.block_model.specs.declared.row.Row.{Row}
use Rattle.block_model.specs.declared.place.Spot.{Spot}
use Rattle.coverage.specs.IndexView.{IndexTuple, IndexView, range_of_block}
use Rattle.coverage.specs.Steps.{Excludes}
use Rattle.coverage.proofs.Numbers.{lt_or_ge, lowest_below}
use Rattle.coverage.proofs.StepsExist.{chosen, chosen_yes, chosen_no}
use Rattle.coverage.specs.Table.{TableScan, TableState, judged_with}
use Rattle.coverage.specs.TableSteps.{JudgeStep, JudgeMap, JudgeNoEntry, JudgeGone, JudgeKeeps, JudgeDrops, ReadsPage}

-- the range that the scan is at is judged by what stands there
module _ (w : IndexView) (scan : TableScan) (honest : (x : Spot) (t : IndexTuple) → w.tuple x ≡ Some t → scan.keeps scan.at t ≡ false → Excludes t scan.matches) where
  by_entry : scan.held ≡ None → (o : Option Spot) → w.entry scan.range ≡ o → (q : TableScan) × JudgeStep w scan q
  by_entry empty None is = (record scan { range = suc scan.range; judged = judged_with scan true }, JudgeNoEntry empty is)
  by_entry empty (Some x) is = (record scan { held = Some x }, JudgeMap x empty is)

  abbrev left_out : ℕ → Bool
  left_out b = chosen (cases_eq (range_of_block w b) scan.range) false (scan.candidate b)

  leaves_out : (b : ℕ) → ((range_of_block w b ≡ scan.range) × (left_out b ≡ false)) ⊎ ((range_of_block w b ≢ scan.range) × (left_out b ≡ scan.candidate b))
  leaves_out b = ⊎_elim
      (λ (is : range_of_block w b ≡ scan.range). inl (is, chosen_yes (cases_eq (range_of_block w b) scan.range) false (scan.candidate b) is))
      (λ (other : range_of_block w b ≢ scan.range). inr (other, chosen_no (cases_eq (range_of_block w b) scan.range) false (scan.candidate b) other))
      (cases_eq (range_of_block w b) scan.range)

  by_keeps : (x : Spot) (t : IndexTuple) → scan.held ≡ Some x → w.tuple x ≡ Some t → t.range ≡ scan.range → (keeps : Bool) → scan.keeps scan.at t ≡ keeps
      → (q : TableScan) × JudgeStep w scan q
  by_keeps x t held here of true is = (record scan { range = suc scan.range; held = None; judged = judged_with scan true }, JudgeKeeps x t held (here, of) is)
  by_keeps x t held here of false is =
      (record scan { range = suc scan.range; held = None; judged = judged_with scan false; candidate = left_out }, JudgeDrops x t left_out held (here, of) is (honest x t here is) leaves_out)

  by_tuple : (x : Spot) → scan.held ≡ Some x → (o : Option IndexTuple) → w.tuple x ≡ o → (q : TableScan) × JudgeStep w scan q
  by_tuple x held None is = (record scan { held = None }, JudgeGone x held (λ t here. absurd (none-some _ (sym is ∙ here))))
  by_tuple x held (Some t) is = ⊎_elim
      (λ (of : t.range ≡ scan.range). by_keeps x t held is of (scan.keeps scan.at t) refl)
      (λ (other : t.range ≢ scan.range).
      (record scan { held = None }, JudgeGone x held (λ u here of. other (ap (λ (z : IndexTuple). z.range) (same_Some _ _ (sym is ∙ here)) ∙ of))))
      (cases_eq t.range scan.range)

  by_held : (o : Option Spot) → scan.held ≡ o → (q : TableScan) × JudgeStep w scan q
  by_held None empty = by_entry empty (w.entry scan.range) refl
  by_held (Some x) held = by_tuple x held (w.tuple x) refl

  pub judge_some : (q : TableScan) × JudgeStep w scan q
  judge_some = by_held scan.held refl

or_left : (a b : Bool) → IsTrue a → IsTrue (a || b)
or_left true b is = refl
or_left false b is = absurd (false≢true is)

or_summarise_lock : (a b : Bool) → IsTrue b → IsTrue (a || b)
or_summarise_lock true b is = refl
or_summarise_lock false b is = is

or_either : (a b : Bool) → IsTrue (a || b) → IsTrue a ⊎ IsTrue b
or_either true b is = inl refl
or_either false b is = inr is

both_true : (a b : Bool) → IsTrue a → IsTrue b → IsTrue (a && b)
both_true true b is other = other
both_true false b is other = absurd (false≢true is)

true_both : (a b : Bool) → IsTrue (a && b) → IsTrue a × IsTrue b
true_both true b is = (refl, is)
true_both false b is = absurd (false≢true is)

-- a row that is seen there and matches
abbrev hit : TableScan → Bool → Option Row → Bool
hit scan seen None = false
hit scan seen (Some r) = seen && scan.matches r

hit_is : (scan : TableScan) (seen : Bool) (o : Option Row) (r : Row) → o ≡ Some r → IsTrue seen → IsTrue (scan.matches r) → IsTrue (hit scan seen o)
hit_is scan seen None r is sees matches = absurd (none-some _ is)
hit_is scan seen (Some q) r is sees matches = both_true seen (scan.matches q) sees (subst (λ z. IsTrue (scan.matches z)) (sym (same_Some _ _ is)) matches)

hit_back : (scan : TableScan) (seen : Bool) (o : Option Row) → IsTrue (hit scan seen o) → (r : Row) × (o ≡ Some r) × IsTrue seen × IsTrue (scan.matches r)
hit_back scan seen None is = absurd (false≢true is)
hit_back scan seen (Some r) is = let both = true_both seen (scan.matches r) is in (r, refl, both.0, both.1)

-- the next given block is read
module _ (w : TableState) (scan : TableScan) (reads : scan.explains ≡ false) (judged : scan.at ≡ w.indexes) where
  abbrev IsLeft : ℕ → Type 0
  IsLeft b = IsTrue (scan.candidate b) × (scan.read ≤ b)

  left_or_not : (b : ℕ) → IsLeft b ⊎ (IsLeft b → ⊥)
  left_or_not b = by (scan.candidate b) refl
    where
      by : (c : Bool) → scan.candidate b ≡ c → IsLeft b ⊎ (IsLeft b → ⊥)
      by true is = ⊎_elim
          (λ (less : b < scan.read). inr (λ left. not-le_of_lt less left.1))
          (λ (more : scan.read ≤ b). inl (is, more))
          (lt_or_ge b scan.read)
      by false is = inr (λ left. false≢true (sym is ∙ left.0))

  module _ (next : ℕ) (left : IsLeft next) (first : (b : ℕ) → IsLeft b → next ≤ b) where
    abbrev found_there : ℕ → Bool
    found_there k = scan.found next k || hit scan (scan.sees next k) (w.row next k)

    abbrev found_after : ℕ → ℕ → Bool
    found_after b k = chosen (cases_eq b next) (found_there k) (scan.found b k)

    reads_page : ReadsPage w scan next found_after
    reads_page = record {
      reads = reads;
      judged = judged;
      given = left.0;
      unread = left.1;
      first = λ b candidate more. first b (candidate, more);
      keeps = λ b k before. ⊎_elim
          (λ (is : b ≡ next).
          subst IsTrue (sym (chosen_yes (cases_eq b next) (found_there k) (scan.found b k) is))
          (or_left (scan.found next k) _ (subst (λ c. IsTrue (scan.found c k)) is before)))
          (λ (other : b ≢ next). subst IsTrue (sym (chosen_no (cases_eq b next) (found_there k) (scan.found b k) other)) before)
          (cases_eq b next);
      page = λ k r there sees matches. subst IsTrue (sym (chosen_yes (cases_eq next next) (found_there k) (scan.found next k) refl))
          (or_summarise_lock (scan.found next k) _ (hit_is scan (scan.sees next k) (w.row next k) r there sees matches));
      only = λ b k has. ⊎_elim
          (λ (is : b ≡ next). ⊎_elim
          (λ (before : IsTrue (scan.found next k)). inl (subst (λ c. IsTrue (scan.found c k)) (sym is) before))
          (λ (now : IsTrue (hit scan (scan.sees next k) (w.row next k))).
          let row = hit_back scan (scan.sees next k) (w.row next k) now in
          inr (is, (row.0, ap (λ c. w.row c k) is ∙ row.1, subst (λ c. IsTrue (scan.sees c k)) (sym is) row.2, row.3)))
          (or_either (scan.found next k) _ (subst IsTrue (chosen_yes (cases_eq b next) (found_there k) (scan.found b k) is) has)))
          (λ (other : b ≢ next). inl (subst IsTrue (chosen_no (cases_eq b next) (found_there k) (scan.found b k) other) has))
          (cases_eq b next);
    }

  pub read_some : (b : ℕ) → IsTrue (scan.candidate b) → scan.read ≤ b → (next : ℕ) × (found : ℕ → ℕ → Bool) × ReadsPage w scan next found
  read_some b candidate more = ⊎_elim
      (λ (none : (c : ℕ) → c < suc b → IsLeft c → ⊥). absurd (none b (omega arith) (candidate, more)))
      (λ (one : (c : ℕ) × IsLeft c × ((j : ℕ) → IsLeft j → c ≤ j)). (one.0, found_after one.0 one.1 one.2, reads_page one.0 one.1 one.2))
      (lowest_below IsLeft left_or_not (suc b))
