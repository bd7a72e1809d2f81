-- an index that is full for a vacuum's summary
use Rattle.std.proofs.Common.{◌≡◌, ◌≢◌, inr, ℕ, List, Option, None, Some, refl, sym, ap, subst}
use Rattle.std.specs.Prelude.{slice_get, slice_set}
use Rattle.disk_trait.specs.Told.{Told}
use Rattle.block_model.specs.declared.reply.Refusal.TheVariants as refusals
use Rattle.block_model.specs.declared.reply.Reply.{Reply}
use Rattle.block_model.specs.declared.reply.Reply.TheVariants as replies
use Rattle.page_map.specs.Keeps.{Keeps, Tells}
use Rattle.page_map.specs.PageMap.{PageMap, View, page_at}
use Rattle.page_locks.specs.LockChanges.{GivesAll}
use Rattle.page_locks.specs.LockCounts.{locks_of}
use Rattle.page_locks.specs.LockHolders.{LockState, holder}
use Rattle.page_locks.specs.RightHolders.{right_of}
use Rattle.transactions.specs.Laws.{ShowAlike}
use Rattle.index_steps.specs.IndexTuples.{index_at}
use Rattle.index_steps.specs.ShownTable.{indexes_of}
use Rattle.summarise_core.specs.Summarises.{FullAt, SummariseState}
use Rattle.summarise_core.specs.SummariseTable.{task_of}
use Rattle.script_semantics.specs.Names.{index_name}
use Rattle.script_semantics.specs.StatementSteps.{Ended, Steps}
use Rattle.session_parts.specs.declared.hand.Completing.{Completing}
use Rattle.session_parts.specs.declared.hand.Hand.TheVariants as hands
use Rattle.session_parts.specs.declared.hand.Stepped.TheVariants as stepped
use Rattle.session_parts.specs.declared.parts.Parts.{Parts}
use Rattle.session_parts.specs.Hands.{completed_by, summary_now}
use Rattle.session_parts.specs.HandsInTables.{IsCompletingAt}
use Rattle.session_parts.specs.StepAnswers.{StaysReady}
use Rattle.session_parts.specs.Stepping.{IsFit}
use Rattle.session_parts.specs.StoreStates.{shown_of, store_of}
use Rattle.session_parts.specs.UndoneLaws.{StepsSo}
use Rattle.session_maintenance.proofs.SummariseFull.{FullInTable, is_refused}
use Rattle.session_maintenance.proofs.SummariseParts.{MachineLeft, left_given}
use Rattle.session_maintenance.proofs.UpkeepPoints.{is_maintaining}
use Rattle.session_maintenance.proofs.SummariseLocks.{gives_own, gives_stay, gives_there}
use Rattle.session_maintenance.proofs.SummariseTurns.{at_range}
use Rattle.session_maintenance.proofs.UpkeepAt.{IsUpkeep, here}
use Rattle.session_maintenance.proofs.UpkeepParts.{refused_so, with_these}
use Rattle.session_maintenance.proofs.CompleteTurns.{holds_there, there}
use Rattle.session_maintenance.proofs.SummarySteps.{is_it, stands, within}

-- over the parts of a store
module _ {D : Type 0} (told : D → Told) (parts : Parts D) (n : ℕ) (c : Completing) (a : SummariseState) (got : summary_now c ≡ Some a) (fit : IsFit told parts n (hands.Completes c)) (same_table : (index_at parts.pages.layout a.index).table ≡ c.table) where
  abbrev number : ℕ
  number = (index_at parts.pages.layout a.index).table

  abbrev is_there : IsUpkeep parts.pages.layout (hands.Completes c) a.index (IsCompletingAt parts.pages.layout c) (completed_by c)
  is_there = is_it told parts n c a got fit same_table

  pub full_so : FullInTable → ShowAlike → (pages : View D) (locks given : LockState) (b : SummariseState) (left : MachineLeft told parts n a pages locks b)
      → (room : ℕ) → (Tells told parts.pages → FullAt parts.pages.layout parts.pages.pages parts.locks n a room) → locks ≡ parts.locks → Keeps told parts.pages pages → StaysReady parts.pages pages
      → GivesAll (holder locks) (holder given) n → given.limit ≡ locks.limit → locks_of given n ≡ 0 → ((m : ℕ) → m ≢ n → locks_of given m ≡ locks_of locks m)
      → (rights : List (Option ℕ)) → (right_of parts.rights number ≡ Some n → rights ≡ slice_set parts.rights number None) → (right_of parts.rights number ≢ Some n → rights ≡ parts.rights)
      → (reply : Reply) → ((table at : ℕ) → slice_get (indexes_of parts.pages.layout table) at ≡ Some a.index → reply ≡ replies.Refused (refusals.Full (index_name parts.pages.layout table at) room))
      → StepsSo told parts (with_these parts pages given rights) n (hands.Completes c) (stepped.Done reply)
  full_so law alike pages locks given b left room full same_locks keeps ready gives limit none others rights gave kept reply named =
      let inside = within told parts n c a got fit same_table in
      let stays = gives_stay number n parts.rights rights inside gave kept in
      let all_given : GivesAll (holder parts.locks) (holder given) n = subst (λ (l : LockState). GivesAll (holder l) (holder given) n) same_locks gives in
      refused_so told parts pages given rights parts.queue n (hands.Completes c) a.index (IsCompletingAt parts.pages.layout c) (completed_by c) fit is_there (left_given told parts n a pages locks b left given limit others rights stays) none refl ready (inr all_given) (gives_own number n parts.rights rights inside gave kept) reply (λ names hand_list has tells p shown so now.
      let old = shown_of (store_of parts names hand_list) in
      let shows = here old n (hands.Completes c) a.index (IsCompletingAt parts.pages.layout c) (completed_by c) is_there so.had p shown in
      let at = (full tells).0 in
      let held : right_of parts.rights number ≡ Some n = holds_there old n c a got is_there so.had p shown at in
      let at_it = stands told parts n c a got fit same_table in
      let made = is_refused old _ n (hands.Completes c) a.index (IsCompletingAt parts.pages.layout c) (completed_by c) is_there so p shown alike (λ place. ap (λ (m : PageMap). page_at m place) (keeps.pages tells)) all_given
      (gives_there number n parts.rights rights inside gave kept held) now refl room c.next at_it (task_of parts.pages.layout c.next a) (there old n c a got is_there so.had p shown) (ap is_maintaining (at_range parts.pages.layout c.next a at))
      same_table refl tt (law parts.pages.layout parts.pages.pages parts.locks shows.blocks n c.next room a at_it (full tells)) in
      (made.0, made.1, subst (λ (r : Reply). Steps p n (Ended r) made.0) (sym (named number c.next at_it)) made.2))
