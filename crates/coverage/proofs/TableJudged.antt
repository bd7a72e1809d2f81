-- What scans have judged, and how, is what their candidates say.
use Rattle.std.proofs.Common.{◌≡◌, ◌≢◌, ◌⊎◌, inl, inr, ⊎_elim, ℕ, ◌*◌, ◌/◌, ◌≤◌, ◌<◌, Option, Some, None, Bool, true, false, sym, ◌∙◌, ap, subst, arith, zero, suc}
use Rattle.std.specs.Prelude.{refl, IsTrue, ◌↔◌}
use Rattle.std.proofs.Math.Nat.{lt_of_mul-lt-mul_right, div-mul-le_self, lt-suc_self, lt_irrefl, lt_of_le_of_lt, lt_of_lt_of_le, not-suc-le-zero}
use Rattle.std.proofs.lemmas.Option.{same_Some, none-some}
use Rattle.std.proofs.lemmas.Bool.{cases_eq, false≢true}
use Rattle.coverage.specs.IndexView.{range_of_block}
use Rattle.coverage.specs.Statements.{Idle, Inserting, Maintaining, Holding}
use Rattle.coverage.proofs.Runs.{insert_keeps}
use Rattle.coverage.proofs.Numbers.{last_or_below, below_next}
use Rattle.coverage.specs.Table.{Index, TableScan, Resting, Scans, TableState, pick, judged_with, index_view_at}
use Rattle.coverage.specs.TableSteps.{SameIndexes, StepsIn, range_in, first_block, JudgeStep, JudgeMap, JudgeGone, JudgeDrops, ScanBegins, Does, PutsRow}
use Rattle.coverage.specs.TableSteps.{AsksSummary, InsertGoes, InsertCompletes, RefusesInsert, TakesLock, MaintainGoes, MaintainCompletes, RefusesMaintain}
use Rattle.coverage.specs.TableSteps.{RefusesVacuum, PrunesBlock, SweepsPage, RestartsIndex, RefusesRow, MarksRow, Conflicts, BeginsScan, Judges, ReadsBlock}
use Rattle.coverage.specs.TableSteps.{RefusesScan, Blocked, Transacts, Onward, JudgesNext, Scanned, Settles}
use Rattle.coverage.specs.TableCovered.{IsBehind, JudgesExactly, IsGiven, IsUnjudged}
use Rattle.coverage.proofs.Views.{pick_same, pick_other, pick_both}
use Rattle.coverage.proofs.Leaves.{does_leaves}
use Rattle.coverage.proofs.ScanComes.{ScanComes, ScanBegan, ScanJudged, ScanRead, ScanStayed, scan_comes, OfScans, scans_after, scans_settled}
use Rattle.coverage.proofs.TableSettled.{does_layout, job_heap_kept}

-- the indexes are as many as before, and their ranges as long
abbrev pub SameRanges : TableState → TableState → Type 0
SameRanges w v = (v.indexes ≡ w.indexes) × ((i : ℕ) → (v.index i).pages_per_range ≡ (w.index i).pages_per_range)

pub indexes_ranges : (w v : TableState) → SameIndexes w v → (i : ℕ) → (v.index i).pages_per_range ≡ (w.index i).pages_per_range
indexes_ranges w v same i = ap (λ (x : Index). x.pages_per_range) (same.index i)

stepped_ranges : (at : ℕ) (w v : TableState) → StepsIn at w v → (v.index at).pages_per_range ≡ (w.index at).pages_per_range → (i : ℕ)
    → (v.index i).pages_per_range ≡ (w.index i).pages_per_range
stepped_ranges at w v stepped here i = ⊎_elim
    (λ (is : i ≡ at). subst (λ m. (v.index m).pages_per_range ≡ (w.index m).pages_per_range) (sym is) here)
    (λ (e : v.index i ≡ w.index i). ap (λ (x : Index). x.pages_per_range) e)
    (stepped.others i)

pub does_ranges : (s : ℕ) (w v : TableState) → Does s w v → (i : ℕ) → (v.index i).pages_per_range ≡ (w.index i).pages_per_range
does_ranges s w v (PutsRow b k r place turns takes) = indexes_ranges w v takes.indexes
does_ranges s w v (RefusesRow t refused turns fails) = indexes_ranges w v fails.indexes
does_ranges s w v (AsksSummary b k r at turns only) = indexes_ranges w v only.indexes
does_ranges s w v (InsertGoes b k r at old new turns stepped step) =
    stepped_ranges at w v stepped (insert_keeps s b k r (index_view_at at w) (index_view_at at v) old (Inserting b k r new) step).0.pages_per_range
does_ranges s w v (InsertCompletes b k r at old turns stepped step) =
    stepped_ranges at w v stepped (insert_keeps s b k r (index_view_at at w) (index_view_at at v) old Idle step).0.pages_per_range
does_ranges s w v (RefusesInsert b k r old refused turns fails) = indexes_ranges w v fails.indexes
does_ranges s w v (TakesLock first begins turns free held rows indexes) = indexes_ranges w v indexes
does_ranges s w v (MaintainGoes job at range old new turns stepped step) =
    stepped_ranges at w v stepped (job_heap_kept job s range (index_view_at at w) (index_view_at at v) old (Maintaining range new) step).pages_per_range
does_ranges s w v (MaintainCompletes job at range old turns stepped step) =
    stepped_ranges at w v stepped (job_heap_kept job s range (index_view_at at w) (index_view_at at v) old Holding step).pages_per_range
does_ranges s w v (RefusesMaintain job at range phase refused turns stepped passes) = stepped_ranges at w v stepped passes.frame.heap.pages_per_range
does_ranges s w v (RefusesVacuum old vacuuming turns given rows indexes) = indexes_ranges w v indexes
does_ranges s w v (PrunesBlock extent next dropped inside spared turns drops) = indexes_ranges w v drops.indexes
does_ranges s w v (SweepsPage at page turns stepped sweeps) = stepped_ranges at w v stepped sweeps.frame.heap.pages_per_range
does_ranges s w v (RestartsIndex at turns only) = indexes_ranges w v only.indexes
does_ranges s w v (BeginsScan scan begins turns only) = indexes_ranges w v only.indexes
does_ranges s w v (Judges old new inside low step turns only) = indexes_ranges w v only.indexes
does_ranges s w v (ReadsBlock scan next found reads turns only) = indexes_ranges w v only.indexes
does_ranges s w v (RefusesScan scan t turns how) =
    elim how [ inl fails ↦ indexes_ranges w v fails.1.indexes | inr only ↦ indexes_ranges w v only.1.indexes ]
does_ranges s w v (MarksRow scan id rest turns only) = indexes_ranges w v only.indexes
does_ranges s w v (Conflicts scan id rest t turns fails) = indexes_ranges w v fails.indexes
does_ranges s w v (Blocked task blocked turns only) = indexes_ranges w v only.indexes
does_ranges s w v (Transacts counts resting few same) = λ i. ap (λ (u : TableState). (u.index i).pages_per_range) same

exact_on : (w v : TableState) → SameRanges w v → (scan : TableScan) → JudgesExactly w scan → JudgesExactly v scan
exact_on w v same scan exact = record {
  candidate = λ b. (
    λ is.
        let h = (exact.candidate b).0 is in
        (h.0, λ i below e. h.1 i (subst (λ n. i < n) same.0 below) (subst (λ m. scan.judged i (b / m) ≡ Some false) (same.1 i) e)),
    λ h.
        (exact.candidate b).1
        (h.0, λ i below e. h.1 i (subst (λ n. i < n) (sym same.0) below) (subst (λ m. scan.judged i (b / m) ≡ Some false) (sym (same.1 i)) e)),
  );
  judged = λ i m below behind low.
      exact.judged i m (subst (λ n. i < n) same.0 below) behind (subst (λ n. m * n < scan.extent) (same.1 i) low);
  behind = exact.behind;
}

-- what is judged with the range that the scan is at
module _ (old : TableScan) (keeps : Bool) where
  judged_here : judged_with old keeps old.at old.range ≡ Some keeps
  judged_here =
      pick_same old.at (pick old.range old.range (Some keeps) (old.judged old.at old.range)) (old.judged old.at old.range)
      ∙ pick_same old.range (Some keeps) (old.judged old.at old.range)

  abbrev IsHere : ℕ → ℕ → Type 0
  IsHere i range = (i ≡ old.at) × (range ≡ old.range)

  abbrev IsElsewhere : ℕ → ℕ → Type 0
  IsElsewhere i range = (i ≢ old.at) ⊎ (range ≢ old.range)

  here_or_not : (i range : ℕ) → IsHere i range ⊎ IsElsewhere i range
  here_or_not i range = ⊎_elim
      (λ (at : i ≡ old.at). elim (cases_eq range old.range) [ inl is ↦ inl (at, is) | inr other ↦ inr (inr other) ])
      (λ (other : i ≢ old.at). inr (inl other))
      (cases_eq i old.at)

  judged_at : (i range : ℕ) → IsHere i range → judged_with old keeps i range ≡ Some keeps
  judged_at i range is = ap (λ m. judged_with old keeps m range) is.0 ∙ ap (λ m. judged_with old keeps old.at m) is.1 ∙ judged_here

  judged_elsewhere : (i range : ℕ) → IsElsewhere i range → judged_with old keeps i range ≡ old.judged i range
  judged_elsewhere i range other = ⊎_elim
      (λ (apart : i ≢ old.at). pick_other i old.at (pick range old.range (Some keeps) (old.judged i range)) (old.judged i range) apart)
      (λ (apart : range ≢ old.range).
      ap (λ o. pick i old.at o (old.judged i range)) (pick_other range old.range (Some keeps) (old.judged i range) apart)
      ∙ pick_both i old.at (old.judged i range))
      other

module _ (w : TableState) (old : TableScan) (exact : JudgesExactly w old) where
  -- the range at hand isn't judged before
  fresh : old.judged old.at old.range ≢ None → ⊥
  fresh some = elim (exact.behind old.at old.range some) [ inl before ↦ lt_irrefl old.at before | inr at ↦ lt_irrefl old.range at.1 ]

  not_false : (i range : ℕ) → IsHere old true i range → old.judged i range ≡ Some false → ⊥
  not_false i range is e =
      fresh (λ none. none-some _ (sym none ∙ ap (λ m. old.judged m old.range) (sym is.0) ∙ ap (λ m. old.judged i m) (sym is.1) ∙ e))

  -- where the scan has been with the next range of the same index
  abbrev Next : ℕ → ℕ → Type 0
  Next i range = (i < old.at) ⊎ ((i ≡ old.at) × (range < suc old.range))

  next_judged : (keeps : Bool) (i range : ℕ) → i < w.indexes → Next i range → first_block w i range < old.extent → judged_with old keeps i range ≢ None
  next_judged keeps i range below next low none = ⊎_elim
      (λ (is : IsHere old keeps i range). none-some _ (sym none ∙ judged_at old keeps i range is))
      (λ (other : IsElsewhere old keeps i range).
      exact.judged i range below (behind other) low (sym (judged_elsewhere old keeps i range other) ∙ none))
      (here_or_not old keeps i range)
    where
      behind : IsElsewhere old keeps i range → IsBehind old i range
      behind other = ⊎_elim
          (λ (before : i < old.at). inl before)
          (λ (at : (i ≡ old.at) × (range < suc old.range)). ⊎_elim
          (λ (is : range ≡ old.range). ⊎_elim (λ (a : i ≢ old.at). absurd (a at.0)) (λ (r : range ≢ old.range). absurd (r is)) other)
          (λ (less : range < old.range). inr (at.0, less))
          (last_or_below range old.range at.1))
          next

  next_behind : (keeps : Bool) (i range : ℕ) → judged_with old keeps i range ≢ None → Next i range
  next_behind keeps i range some = ⊎_elim
      (λ (is : IsHere old keeps i range). inr (is.0, omega (arith, is.1)))
      (λ (other : IsElsewhere old keeps i range). ⊎_elim
      (λ (before : i < old.at). inl before)
      (λ (at : (i ≡ old.at) × (range < old.range)). inr (at.0, below_next at.1))
      (exact.behind i range (λ none. some (judged_elsewhere old keeps i range other ∙ none))))
      (here_or_not old keeps i range)

  abbrev LeftIn : (ℕ → ℕ → Option Bool) → ℕ → Type 0
  LeftIn judged b = (b < old.extent) × ((i : ℕ) → i < w.indexes → judged i (range_in w i b) ≢ Some false)

  kept_candidate : (b : ℕ) → IsTrue (old.candidate b) ↔ LeftIn (judged_with old true) b
  kept_candidate b = (
    λ is.
        let h = (exact.candidate b).0 is in (
          h.0,
          λ i below e. ⊎_elim
              (λ (here : IsHere old true i (range_in w i b)). false≢true (sym (same_Some _ _ (sym (judged_at old true i (range_in w i b) here) ∙ e))))
              (λ (other : IsElsewhere old true i (range_in w i b)). h.1 i below (sym (judged_elsewhere old true i (range_in w i b) other) ∙ e))
              (here_or_not old true i (range_in w i b)),
        ),
    λ h. (exact.candidate b).1 (
      h.0,
      λ i below e. ⊎_elim
          (λ (here : IsHere old true i (range_in w i b)). not_false i (range_in w i b) here e)
          (λ (other : IsElsewhere old true i (range_in w i b)). h.1 i below (judged_elsewhere old true i (range_in w i b) other ∙ e))
          (here_or_not old true i (range_in w i b)),
    ),
  )

  module _ (inside : old.at < w.indexes) (candidate : ℕ → Bool)
      (others : (b : ℕ) → ((range_of_block (index_view_at old.at w) b ≡ old.range) × (candidate b ≡ false))
      ⊎ ((range_of_block (index_view_at old.at w) b ≢ old.range) × (candidate b ≡ old.candidate b))) where
    dropped_candidate : (b : ℕ) → IsTrue (candidate b) ↔ LeftIn (judged_with old false) b
    dropped_candidate b = (
      λ is. ⊎_elim
          (λ (out : (range_of_block (index_view_at old.at w) b ≡ old.range) × (candidate b ≡ false)). absurd (false≢true (sym out.1 ∙ is)))
          (λ (in1 : (range_of_block (index_view_at old.at w) b ≢ old.range) × (candidate b ≡ old.candidate b)).
          let h = (exact.candidate b).0 (sym in1.1 ∙ is) in (
            h.0,
            λ i below e. ⊎_elim
                (λ (here : IsHere old false i (range_in w i b)). in1.0 (ap (λ m. range_in w m b) (sym here.0) ∙ here.1))
                (λ (other : IsElsewhere old false i (range_in w i b)). h.1 i below (sym (judged_elsewhere old false i (range_in w i b) other) ∙ e))
                (here_or_not old false i (range_in w i b)),
          ))
          (others b),
      λ h. ⊎_elim
          (λ (out : (range_of_block (index_view_at old.at w) b ≡ old.range) × (candidate b ≡ false)).
          absurd (h.1 old.at inside (judged_at old false old.at (range_in w old.at b) (refl, out.0))))
          (λ (in1 : (range_of_block (index_view_at old.at w) b ≢ old.range) × (candidate b ≡ old.candidate b)).
          in1.1 ∙ (exact.candidate b).1 (
            h.0,
            λ i below e. ⊎_elim
                (λ (here : IsHere old false i (range_in w i b)). in1.0 (ap (λ m. range_in w m b) (sym here.0) ∙ here.1))
                (λ (other : IsElsewhere old false i (range_in w i b)). h.1 i below (judged_elsewhere old false i (range_in w i b) other ∙ e))
                (here_or_not old false i (range_in w i b)),
          ))
          (others b),
    )

judge_exact : (w : TableState) (old new : TableScan) → JudgesExactly w old → old.at < w.indexes → JudgeStep (index_view_at old.at w) old new → JudgesExactly w new
judge_exact w old _ exact inside (JudgeMap x empty named) = record { candidate = exact.candidate; judged = exact.judged; behind = exact.behind }
judge_exact w old _ exact inside (JudgeGone x held gone) = record { candidate = exact.candidate; judged = exact.judged; behind = exact.behind }
judge_exact w old _ exact inside (JudgeDrops x t candidate held stands drops excludes others) = record {
  candidate = dropped_candidate w old exact inside candidate others;
  judged = next_judged w old exact false;
  behind = next_behind w old exact false;
}
judge_exact w old _ exact inside _ =
    record { candidate = kept_candidate w old exact; judged = next_judged w old exact true; behind = next_behind w old exact true }

-- where no range of an index is left below the extent, the scan goes to the next index
next_exact : (w : TableState) (scan : TableScan) → JudgesExactly w scan → scan.extent ≤ first_block w scan.at scan.range
    → JudgesExactly w (record scan { at = suc scan.at; range = 0 })
next_exact w scan exact all = record {
  candidate = exact.candidate;
  judged = λ i m below behind low. ⊎_elim
      (λ (less : i < suc scan.at). ⊎_elim
      (λ (is : i ≡ scan.at). exact.judged i m below (inr (is, lower i m is low)) low)
      (λ (before : i < scan.at). exact.judged i m below (inl before) low)
      (last_or_below i scan.at less))
      (λ (at : (i ≡ suc scan.at) × (m < 0)). absurd (not-suc-le-zero at.1))
      behind;
  behind = λ i m some. elim (exact.behind i m some) [ inl before ↦ inl (below_next before) | inr at ↦ inl (omega (arith, at.0)) ];
}
  where
    lower : (i m : ℕ) → i ≡ scan.at → first_block w i m < scan.extent → m < scan.range
    lower i m is low =
        lt_of_mul-lt-mul_right (w.index scan.at).pages_per_range
        (lt_of_lt_of_le
        (subst (λ j. first_block w j m < scan.extent) is low) all)

begin_exact : (w : TableState) (scan : TableScan) → ScanBegins w scan → JudgesExactly w scan
begin_exact w scan begins = record {
  candidate = λ b. (
    λ is. (subst (λ n. b < n) (sym begins.extent) ((begins.candidate b).0 is), λ i below e. none-some _ (sym (begins.judged i (range_in w i b)) ∙ e)),
    λ h. (begins.candidate b).1 (subst (λ n. b < n) begins.extent h.0),
  );
  judged = λ i m below behind low. absurd (⊎_elim
      (λ (before : i < scan.at). not-suc-le-zero (subst (λ n. i < n) begins.at before))
      (λ (at : (i ≡ scan.at) × (m < scan.range)). not-suc-le-zero (subst (λ n. m < n) begins.range at.1))
      behind);
  behind = λ i m some. absurd (some (begins.judged i m));
}

module _ (s : ℕ) (w v : TableState) (kept : OfScans JudgesExactly w) where
  own_exact : (scan : TableScan) → ScanComes s w v scan → JudgesExactly w scan
  own_exact _ (ScanBegan scan begins only) = begin_exact w scan begins
  own_exact _ (ScanJudged old new was inside step only) = judge_exact w old new (kept s old was) inside step
  own_exact _ (ScanRead scan next found was reads only) =
      let exact = kept s scan was in record { candidate = exact.candidate; judged = exact.judged; behind = exact.behind }
  own_exact _ (ScanStayed scan was only) = kept s scan was

  pub does_exact : Does s w v → OfScans JudgesExactly v
  does_exact does =
      let same : SameRanges w v = (does_layout s w v does, does_ranges s w v does) in
      scans_after JudgesExactly s w v kept (does_leaves s w v does).others (λ n scan apart was exact. exact_on w v same scan exact)
      (λ scan is. exact_on w v same scan (own_exact scan (scan_comes s w v does scan is)))

  pub settles_exact : Settles s w v → OfScans JudgesExactly v
  settles_exact settles =
      scans_settled JudgesExactly s w v kept
      (λ scan rows indexes. exact_on w v (rows.layout.indexes, indexes_ranges w v indexes) scan)
      (λ scan inside all exact. next_exact w scan exact all) settles

-- a block that isn't left out is given, or lies in a range that isn't judged
kept_or_not : (o : Option Bool) → o ≢ Some false → (o ≡ Some true) ⊎ (o ≡ None)
kept_or_not None not = inr refl
kept_or_not (Some true) not = inl refl
kept_or_not (Some false) not = absurd (not refl)

all_kept : (n : ℕ) (judged : ℕ → Option Bool) → ((i : ℕ) → i < n → judged i ≢ Some false)
    → ((i : ℕ) → i < n → judged i ≡ Some true) ⊎ ((i : ℕ) × (i < n) × (judged i ≡ None))
all_kept zero judged not = inl (λ i below. absurd (not-suc-le-zero below))
all_kept (suc n) judged not = ⊎_elim
    (λ (all : (i : ℕ) → i < n → judged i ≡ Some true). ⊎_elim
    (λ (kept : judged n ≡ Some true). inl (λ i below. elim (last_or_below i n below) [ inl is ↦ ap judged is ∙ kept | inr less ↦ all i less ]))
    (λ (none : judged n ≡ None). inr (n, lt-suc_self n, none))
    (kept_or_not (judged n) (not n (lt-suc_self n))))
    (λ (one : (i : ℕ) × (i < n) × (judged i ≡ None)). inr (one.0, below_next one.1, one.2))
    (all_kept n judged (λ i below. not i (below_next below)))

pub given_or_unjudged : (w : TableState) (scan : TableScan) (b : ℕ) → JudgesExactly w scan → IsTrue (scan.candidate b) → IsGiven w scan b ⊎ IsUnjudged w scan b
given_or_unjudged w scan b exact is =
    let h = (exact.candidate b).0 is in
    elim (all_kept w.indexes (λ i. scan.judged i (range_in w i b)) h.1) [ inl all ↦ inl (h.0, all) | inr one ↦ inr one ]

-- when a scan replies, each block below the extent is judged in every index
pub replied_given : (w : TableState) (scan : TableScan) → JudgesExactly w scan → Onward w (Scans scan) Resting → (b : ℕ)
    → IsTrue (scan.candidate b) ↔ IsGiven w scan b
replied_given w scan exact onward b = (
  λ is. ⊎_elim
      (λ (given : IsGiven w scan b). given)
      (λ (one : IsUnjudged w scan b). absurd (all_judged scan exact onward one.0 one.1 ((exact.candidate b).0 is).0 one.2))
      (given_or_unjudged w scan b exact is),
  λ given. (exact.candidate b).1
      (given.0, λ i below e. false≢true (same_Some _ _ (sym e ∙ given.1 i below))),
)
  where
    starts : (i : ℕ) (q : TableScan) → b < q.extent → first_block w i (range_in w i b) < q.extent
    starts i q low = lt_of_le_of_lt (div-mul-le_self b (w.index i).pages_per_range) low

    all_judged : (q : TableScan) → JudgesExactly w q → Onward w (Scans q) Resting → (i : ℕ) → i < w.indexes → b < q.extent → q.judged i (range_in w i b) ≢ None
    all_judged _ exact (JudgesNext q _ inside all empty more) i below low =
        all_judged (record q { at = suc q.at; range = 0 }) (next_exact w q exact all) more i below low
    all_judged _ exact (Scanned q read nothing) i below low =
        exact.judged i (range_in w i b) below (inl (subst (λ n. i < n) (sym read.0) below)) (starts i q low)
