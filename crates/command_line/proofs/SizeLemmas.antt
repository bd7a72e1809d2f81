-- The sizes that options give.
use Rattle.std.proofs.Common.{◌≡◌, refl, ℕ, true, Option, Some, None, option_map, unwrap_or, inl, inr, codes}
use Rattle.std.proofs.lemmas.Bool.{cases_Bool}
use Rattle.command_line.specs.CommandWords.{Text, WordsSaid, is_number, number_of, value_of, sizes_of, size_options}
use Rattle.command_line.specs.ClapReading.{is_number_if_given, numbers_given, size_given}

abbrev pub IsSize : ℕ → Option Text → ℕ → Type 0
IsSize default o n = (is_number_if_given o ≡ true) × (n ≡ unwrap_or (option_map number_of o) default)

pub size_is : (default : ℕ) (o : Option Text) (n : ℕ) → Some n ≡ size_given default o → IsSize default o n
size_is default None n e = (refl, cc)
size_is default (Some text) n e = elim (cases_Bool (is_number text)) [
  | inl h ↦ let same : Some n ≡ Some (number_of text) = rw h at e in (h, cc)
  | inr h ↦ let bad : Some n ≡ None = rw h at e in cc
]

pub sizes_are : (said : WordsSaid) (heap index status log frames : ℕ)
    → IsSize 4096 (value_of (codes "heap-blocks") said.values) heap
    → IsSize 1024 (value_of (codes "index-blocks") said.values) index
    → IsSize 4 (value_of (codes "status-blocks") said.values) status
    → IsSize 128 (value_of (codes "log-pages") said.values) log
    → IsSize 256 (value_of (codes "frames") said.values) frames
    → (numbers_given size_options said.values ≡ true)
    × (record { heap_blocks = heap; index_blocks = index; status_blocks = status; log_pages = log; frames = frames } ≡ sizes_of said)
sizes_are said heap index status log frames a b c d e = (rw (a.0, b.0, c.0, d.0, e.0) refl, rw (a.1, b.1, c.1, d.1, e.1) refl)
