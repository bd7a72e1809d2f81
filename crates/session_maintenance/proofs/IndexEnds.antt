-- a step of a vacuum's summary behind which no range of its index is left
use Rattle.std.proofs.Common.{◌≡◌, ◌≢◌, inl, inr, ℕ, ◌+◌, ◌<◌, ◌≤◌, List, length, Option, None, Some, sym, ap, subst, ◌∙◌, arith, length-set}
use Rattle.std.specs.Prelude.{slice_set}
use Rattle.std.proofs.lemmas.Bool.{cases_lt}
use Rattle.disk_trait.specs.Told.{Told}
use Rattle.block_model.specs.declared.reply.Point.{Point}
use Rattle.block_model.specs.declared.reply.Reply.TheVariants as replies
use Rattle.page_map.specs.PageMap.{View}
use Rattle.page_locks.specs.declared.did.Did.TheVariants as did
use Rattle.page_locks.specs.LockCounts.{locks_of}
use Rattle.page_locks.specs.LockHolders.{LockState}
use Rattle.page_locks.specs.RightHolders.{right_of}
use Rattle.heap_rows.specs.HeapBlocks.{OfBlocks}
use Rattle.transactions.specs.Laws.{ShowAlike}
use Rattle.index_steps.specs.IndexTuples.{index_at}
use Rattle.summarise_core.specs.declared.course.Standing.TheVariants as standings
use Rattle.summarise_core.specs.Summarises.{RightAnswers, SummariseDoes, SummariseState, count_of, held_by, step_of}
use Rattle.session_parts.specs.declared.hand.Completing.{Completing}
use Rattle.session_parts.specs.declared.hand.Hand.TheVariants as hands
use Rattle.session_parts.specs.declared.hand.Stepped.{Stepped}
use Rattle.session_parts.specs.declared.hand.Stepped.TheVariants as stepped
use Rattle.session_parts.specs.declared.parts.Parts.{Parts}
use Rattle.session_parts.specs.Hands.{count_in, summary_now}
use Rattle.session_parts.specs.StepAnswers.{StaysReady}
use Rattle.session_parts.specs.Stepping.{IsFit}
use Rattle.session_parts.specs.UndoneLaws.{StepsSo}
use Rattle.session_maintenance.proofs.SummariseParts.{MachineLeft}
use Rattle.session_maintenance.proofs.SummariseTurns.{StepsInTable}
use Rattle.session_maintenance.proofs.UpkeepParts.{with_these}
use Rattle.session_maintenance.proofs.SummarySteps.{HasThen, IsNow, done, next_index_comes, now_b}

-- its index is counted, and the next one comes
abbrev pub behind_index : Completing → Completing
behind_index then = record then { next = then.next + 1; ranges = then.ranges + count_in (summary_now then) }

-- so it goes on with the next index, or replies and gives the summarise lock
pub record EndsIndex (n : ℕ) (then : Completing) (point : Point) (answer : Stepped) (righted given : List (Option ℕ)) : Type 0 where
  pub next : then.next + 1 < length then.summaries.items → answer ≡ stepped.Moved point (hands.Completes (behind_index then))
  pub held : then.next + 1 < length then.summaries.items → given ≡ righted
  pub reply : length then.summaries.items ≤ then.next + 1 → answer ≡ stepped.Done (replies.Vacuumed then.rows then.unnamed (then.ranges + count_in (summary_now then)))
  pub gives : length then.summaries.items ≤ then.next + 1 → right_of righted then.table ≡ Some n → given ≡ slice_set righted then.table None
  pub keeps : length then.summaries.items ≤ then.next + 1 → right_of righted then.table ≢ Some n → given ≡ righted

module _ {D : Type 0} (told : D → Told) (parts : Parts D) (n : ℕ) (c : Completing) (a : SummariseState) (at : IsNow parts.pages.layout c a) (fit : IsFit told parts n (hands.Completes c)) (pages : View D) (locks : LockState) (b : SummariseState)
    (left : MachineLeft told parts n a pages locks b) (then : Completing) (has_then : HasThen c then b) (same_next : then.next ≡ c.next) (same_ranges : then.ranges ≡ c.ranges) where
  abbrev number : ℕ
  number = (index_at parts.pages.layout a.index).table

  counts : then.ranges + count_in (summary_now then) ≡ c.ranges + count_of b
  counts = ap (λ (k : ℕ). k + count_in (summary_now then)) same_ranges ∙ ap (λ (o : Option SummariseState). c.ranges + count_in o) (now_b told parts n c a at.got fit at.table pages locks b left then has_then same_next same_ranges)

  long : length then.summaries.items ≡ length c.summaries.items
  long = ap (λ (l : List SummariseState). length l) has_then.items ∙ length-set c.summaries.items c.next b

  table_is : then.table ≡ number
  table_is = has_then.table ∙ sym at.table

  same_reply : replies.Vacuumed then.rows then.unnamed (then.ranges + count_in (summary_now then)) ≡ replies.Vacuumed c.rows c.unnamed (c.ranges + count_of b)
  same_reply = λ j. replies.Vacuumed (has_then.rows j) (has_then.unnamed j) (counts j)

  pub finished : StepsInTable → ShowAlike → (righted given : List (Option ℕ)) (point : Point) (answer : Stepped)
      → OfBlocks told parts.pages number (λ blocks. SummariseDoes (step_of parts.pages.layout parts.pages.pages pages.pages parts.locks locks parts.rights righted n blocks) a b (did.Finished point))
      → b.standing ≡ standings.Done → locks_of locks n ≤ held_by b → RightAnswers number n parts.rights righted a.standing (did.Finished point) → StaysReady parts.pages pages → EndsIndex n then point answer righted given
      → StepsSo told parts (with_these parts pages locks given) n (hands.Completes c) answer
  finished law alike righted given point answer does over own right ready ends = elim (cases_lt (c.next + 1) (length c.summaries.items)) [
    | inl more ↦
        let goes : then.next + 1 < length then.summaries.items = omega (arith, more, same_next, long) in
        subst (λ (r : List (Option ℕ)). StepsSo told parts (with_these parts pages locks r) n (hands.Completes c) answer) (sym (ends.held goes))
        (subst (λ (x : Stepped). StepsSo told parts (with_these parts pages locks righted) n (hands.Completes c) x) (sym (ends.next goes))
        (next_index_comes told parts n c a at.got fit at.table pages locks b left (behind_index then) (record { items = has_then.items; table = has_then.table; rows = has_then.rows; unnamed = has_then.unnamed })
        (ap (λ (k : ℕ). k + 1) same_next) counts more over law alike righted point does own right ready))
    | inr last ↦
        let stops : length then.summaries.items ≤ then.next + 1 = omega (arith, last, same_next, long) in
        subst (λ (x : Stepped). StepsSo told parts (with_these parts pages locks given) n (hands.Completes c) x)
        (sym (ends.reply stops ∙ ap stepped.Done same_reply))
        (done told parts n c a at.got fit at.table pages locks b left law alike righted given point does over last own right ready
        (subst (λ (t : ℕ). right_of righted t ≡ Some n → given ≡ slice_set righted t None) table_is (ends.gives stops))
        (subst (λ (t : ℕ). right_of righted t ≢ Some n → given ≡ righted) table_is (ends.keeps stops)))
  ]
