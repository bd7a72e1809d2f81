use Rattle.std.proofs.Common.{◌≡◌, ℕ, ◌<◌}
use Rattle.std.specs.Prelude.{slice_index_or, None}
use Rattle.index_layout.specs.IndexReading.{entries_of}
use Rattle.index_steps.proofs.next.has_entry.Given as goal

-- each entry below that one is none
abbrev pub invariant-entries : goal.invariant-entries
invariant-entries l = (entry : ℕ) → entry < l.entry → slice_index_or (entries_of l.page) entry None ≡ None
