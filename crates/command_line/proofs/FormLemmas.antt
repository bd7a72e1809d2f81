-- What each command's form makes of what its words say.
use Rattle.std.proofs.Common.{◌≡◌, ◌∙◌, refl, sym, ap, ap₂, subst, List, [], ◌∷◌, ◌++◌, length, Bool, true, false, true≢false, ◌||◌, ◌&&◌, Option, Some, None, is_some, option_map, option_and_then, unwrap_or, bytes_eq, find, ℕ, zero, suc, ◌<◌, nat_le, nat_lt, inl, inr, codes, arith}
use Rattle.std.specs.Prelude.{slice_index_or}
use Rattle.std.specs.List.{list_any, list_all, All, Contains}
use Rattle.std.specs.Str.{is_utf8}
use Rattle.std.proofs.lemmas.Bool.{cases_Bool, and_parts, and_from, leb-true, le-leb}
use Rattle.std.proofs.lemmas.List.Elements.{Contains-append_right}
use Rattle.std.proofs.lemmas.Str.{IsUtf8-from_ascii, is_utf8-from_IsUtf8}
use Rattle.block_model.specs.declared.schema.Sizes.{Sizes}
use Rattle.command_line.specs.declared.command.Command.{Command}
use Rattle.command_line.specs.declared.command.Command.TheVariants.{Init, Run, RunStored, Threads, ThreadsStored, Demo}
use Rattle.command_line.specs.declared.defaults.TheConstants.{HEAP_BLOCKS, INDEX_BLOCKS, STATUS_BLOCKS, LOG_PAGES, FRAMES}
use Rattle.command_line.specs.CommandWords.{Text, WordsSaid, number_of, number_given, value_of, size_options, demo_options, is_any_given, sizes_of, init_with, made_or_stored, stored_with, is_demo, demo_with, CommandForm, init_form, run_form, threads_form, demo_form, commands}
use Rattle.command_line.specs.Laws.{sizes_in, seed_in, rows_in, AreDemoNumbers}
use Rattle.command_line.proofs.RowLemmas.{same_text}
use Rattle.command_line.proofs.LawLemmas.{IsNamed, IsOption, GivesNumber, ascii_below, five, two, is_heap_blocks, is_index_blocks, is_status_blocks, is_log_pages, is_frames, is_seed, is_rows}
use Rattle.command_line.proofs.Spelling.{AreNames}

-- ---- the forms that there are

pub init_known : Contains commands init_form
init_known = (zero, (omega arith), refl)

pub run_known : Contains commands run_form
run_known = (suc zero, (omega arith), refl)

pub threads_known : Contains commands threads_form
threads_known = (suc (suc zero), (omega arith), refl)

pub demo_known : Contains commands demo_form
demo_known = (suc (suc (suc zero)), (omega arith), refl)

pub each_form : (P : CommandForm → Type 0) → P init_form → P run_form → P threads_form → P demo_form → (form : CommandForm) → Contains commands form → P form
each_form P init run threads demo form known = go known.0 known.1 known.2
  where
    go : (k : ℕ) → k < length commands → slice_index_or commands k form ≡ form → P form
    go zero l e = subst P e init
    go (suc zero) l e = subst P e run
    go (suc (suc zero)) l e = subst P e threads
    go (suc (suc (suc zero))) l e = subst P e demo
    go (suc (suc (suc (suc k)))) l e = absurd (omega arith)

-- a form that was found is there
pub found_known : (word : Text) (forms : List CommandForm) (form : CommandForm) → find (λ form. bytes_eq form.word word) forms ≡ Some form → Contains forms form
found_known word [] form e = cc
found_known word (f ∷ fs) form e = elim (cases_Bool (bytes_eq f.word word)) [
  | inl h ↦ let first : Some f ≡ Some form = rw h at e in let same : f ≡ form = cc in (zero, (omega arith), same)
  | inr h ↦ Contains-append_right (f ∷ []) fs form (found_known word fs form (rw h at e))
]

pub is_named : (form : CommandForm) → Contains commands form → IsNamed form
is_named = each_form IsNamed refl refl refl refl

-- ---- their words

abbrev pub IsAsciiText : Text → Type 0
IsAsciiText text = list_all (λ b. nat_lt b 128) text ≡ true

pub ascii_is_utf8 : (text : Text) → IsAsciiText text → is_utf8 text ≡ true
ascii_is_utf8 text e = is_utf8-from_IsUtf8 text (IsUtf8-from_ascii text (ascii_below text e))

pub word_is_utf8 : (form : CommandForm) → Contains commands form → is_utf8 form.word ≡ true
word_is_utf8 = each_form (λ (form : CommandForm). is_utf8 form.word ≡ true) (ascii_is_utf8 (codes "init") refl) (ascii_is_utf8 (codes "run") refl) (ascii_is_utf8 (codes "threads") refl) (ascii_is_utf8 (codes "demo") refl)

size_names : AreNames size_options
size_names = five (IsOption size_options) _ _ _ _ _ is_heap_blocks is_index_blocks is_status_blocks is_log_pages is_frames

pub are_names : (form : CommandForm) → Contains commands form → AreNames form.options
are_names = each_form (λ (form : CommandForm). AreNames form.options) size_names size_names size_names (two (IsOption demo_options) _ _ is_seed is_rows)

sizes_ascii : All IsAsciiText size_options
sizes_ascii = five IsAsciiText _ _ _ _ _ refl refl refl refl refl

pub are_ascii : (form : CommandForm) → Contains commands form → All IsAsciiText form.options
are_ascii = each_form (λ (form : CommandForm). All IsAsciiText form.options) sizes_ascii sizes_ascii sizes_ascii (two IsAsciiText _ _ refl refl)

-- ---- what they mean goes by the values of options, and not by their order

abbrev pub values_by : List (Text × Text) → Text → Option Text
values_by options name = value_of name options

abbrev sizes_by : (Text → Option Text) → Sizes
sizes_by f = record {
  heap_blocks = unwrap_or (option_map number_of (f (codes "heap-blocks"))) HEAP_BLOCKS;
  index_blocks = unwrap_or (option_map number_of (f (codes "index-blocks"))) INDEX_BLOCKS;
  status_blocks = unwrap_or (option_map number_of (f (codes "status-blocks"))) STATUS_BLOCKS;
  log_pages = unwrap_or (option_map number_of (f (codes "log-pages"))) LOG_PAGES;
  frames = unwrap_or (option_map number_of (f (codes "frames"))) FRAMES;
}

abbrev is_any_by : List Text → (Text → Option Text) → Bool
is_any_by names f = list_any (λ name. is_some (f name)) names

abbrev demo_by : (Text → Option Text) → List Text → Option Command
demo_by f declared = option_and_then (λ seed. option_and_then (λ rows. demo_with seed rows declared) (option_map number_of (f (codes "rows")))) (option_map number_of (f (codes "seed")))

abbrev pub GoesByValues : CommandForm → Type 0
GoesByValues form = (these those : WordsSaid) → values_by these.values ≡ values_by those.values → these.declared ≡ those.declared → form.meaning these ≡ form.meaning those

init_by_values : GoesByValues init_form
init_by_values these those e d = ap₂ (λ (f : Text → Option Text) (declared : List Text). init_with (sizes_by f) declared) e d

run_by_values : GoesByValues run_form
run_by_values these those e d = ap₂ (λ (f : Text → Option Text) (declared : List Text). made_or_stored Run RunStored (is_any_by size_options f) (sizes_by f) declared) e d

threads_by_values : GoesByValues threads_form
threads_by_values these those e d = ap₂ (λ (f : Text → Option Text) (declared : List Text). made_or_stored Threads ThreadsStored (is_any_by size_options f) (sizes_by f) declared) e d

demo_by_values : GoesByValues demo_form
demo_by_values these those e d = ap₂ (λ (f : Text → Option Text) (declared : List Text). demo_by f declared) e d

pub by_values : (form : CommandForm) → Contains commands form → GoesByValues form
by_values = each_form GoesByValues init_by_values run_by_values threads_by_values demo_by_values

-- ---- numbers

-- where a known option has a value, one is given
pub is_given : (names : List Text) (said : WordsSaid) (name value : Text) → list_any (λ n. bytes_eq n name) names ≡ true → value_of name said.values ≡ Some value → is_any_given names said ≡ true
is_given [] said name value known e = absurd (true≢false (sym known))
is_given (n ∷ ns) said name value known e = elim (cases_Bool (bytes_eq n name)) [
  | inl h ↦ ap (λ (b : Bool). b || is_any_given ns said) (ap (λ (x : Text). is_some (value_of x said.values)) (same_text n name h) ∙ ap (λ (o : Option Text). is_some o) e)
  | inr h ↦ let later : is_any_given ns said ≡ true = is_given ns said name value (rw h at known) e in later_true (is_some (value_of n said.values)) later
]
  where
    later_true : (b : Bool) → is_any_given ns said ≡ true → (b || is_any_given ns said) ≡ true
    later_true true e = refl
    later_true false e = e

module _ (name : Text) (size : Sizes → ℕ) (default : ℕ) (sized : (said : WordsSaid) → size (sizes_of said) ≡ unwrap_or (number_given name said) default) where
  size_found : (said : WordsSaid) (digits : Text) → value_of name said.values ≡ Some digits → Some (size (sizes_of said)) ≡ Some (number_of digits)
  size_found said digits e = ap (λ (n : ℕ). Some n) (sized said ∙ ap (λ (o : Option Text). unwrap_or (option_map number_of o) default) e)

  pub init_gives : GivesNumber init_form name (λ command. option_map size (sizes_in command))
  init_gives said command digits e v = go said.declared e
    where
      go : (declared : List Text) → init_with (sizes_of said) declared ≡ Some command → option_map size (sizes_in command) ≡ Some (number_of digits)
      go [] e = cc
      go (w ∷ ws) e = let is : command ≡ Init (sizes_of said) (w ∷ ws) = cc in ap (λ (c : Command). option_map size (sizes_in c)) is ∙ size_found said digits v

  pub run_gives : list_any (λ n. bytes_eq n name) size_options ≡ true → GivesNumber run_form name (λ command. option_map size (sizes_in command))
  run_gives known said command digits e v = go said.declared e
    where
      go : (declared : List Text) → made_or_stored Run RunStored (is_any_given size_options said) (sizes_of said) declared ≡ Some command → option_map size (sizes_in command) ≡ Some (number_of digits)
      go [] e = let bad : None ≡ Some command = ap (stored_with RunStored) (sym (is_given size_options said name digits known v)) ∙ e in cc
      go (w ∷ ws) e = let is : command ≡ Run (sizes_of said) (w ∷ ws) = cc in ap (λ (c : Command). option_map size (sizes_in c)) is ∙ size_found said digits v

  pub threads_gives : list_any (λ n. bytes_eq n name) size_options ≡ true → GivesNumber threads_form name (λ command. option_map size (sizes_in command))
  threads_gives known said command digits e v = go said.declared e
    where
      go : (declared : List Text) → made_or_stored Threads ThreadsStored (is_any_given size_options said) (sizes_of said) declared ≡ Some command → option_map size (sizes_in command) ≡ Some (number_of digits)
      go [] e = let bad : None ≡ Some command = ap (stored_with ThreadsStored) (sym (is_given size_options said name digits known v)) ∙ e in cc
      go (w ∷ ws) e = let is : command ≡ Threads (sizes_of said) (w ∷ ws) = cc in ap (λ (c : Command). option_map size (sizes_in c)) is ∙ size_found said digits v

-- ---- demos

-- a demo's parts, where it is one
pub record IsDemo (said : WordsSaid) (command : Command) : Type 0 where
  pub seed : ℕ
  pub rows : ℕ
  pub seed_is : number_given (codes "seed") said ≡ Some seed
  pub rows_is : number_given (codes "rows") said ≡ Some rows
  pub within : is_demo seed rows ≡ true
  pub same : command ≡ Demo seed rows

pub demo_parts : (said : WordsSaid) (command : Command) → demo_form.meaning said ≡ Some command → IsDemo said command
demo_parts said command e = go (number_given (codes "seed") said) (number_given (codes "rows") said) refl refl said.declared e
  where
    found : (seed rows : ℕ) → number_given (codes "seed") said ≡ Some seed → number_given (codes "rows") said ≡ Some rows → (declared : List Text) → demo_with seed rows declared ≡ Some command → IsDemo said command
    found seed rows s r (w ∷ ws) e = cc
    found seed rows s r [] e = elim (cases_Bool (is_demo seed rows)) [
      | inr h ↦ let bad : None ≡ Some command = rw h at e in cc
      | inl h ↦ let is : Some (Demo seed rows) ≡ Some command = rw h at e in let same : command ≡ Demo seed rows = cc in
          record { seed = seed; rows = rows; seed_is = s; rows_is = r; within = h; same = same }
    ]

    go : (seed rows : Option ℕ) → number_given (codes "seed") said ≡ seed → number_given (codes "rows") said ≡ rows → (declared : List Text)
        → option_and_then (λ s. option_and_then (λ r. demo_with s r declared) rows) seed ≡ Some command → IsDemo said command
    go None rows s r declared e = cc
    go (Some seed) None s r declared e = cc
    go (Some seed) (Some rows) s r declared e = found seed rows s r declared e

pub seed_gives : GivesNumber demo_form (codes "seed") seed_in
seed_gives said command digits e v =
    let is = demo_parts said command e in
    ap seed_in is.same ∙ sym is.seed_is ∙ ap (option_map number_of) v

pub rows_gives : GivesNumber demo_form (codes "rows") rows_in
rows_gives said command digits e v =
    let is = demo_parts said command e in
    ap rows_in is.same ∙ sym is.rows_is ∙ ap (option_map number_of) v

demo_numbers : (seed rows : ℕ) → is_demo seed rows ≡ true → AreDemoNumbers seed rows
demo_numbers seed rows e =
    let parts = and_parts (nat_le seed 1000000) (nat_le 1 rows && nat_le rows 200000) e in
    let of_rows = and_parts (nat_le 1 rows) (nat_le rows 200000) parts.1 in
    (leb-true seed 1000000 parts.0, leb-true 1 rows of_rows.0, leb-true rows 200000 of_rows.1)

pub numbers_demo : (seed rows : ℕ) → AreDemoNumbers seed rows → is_demo seed rows ≡ true
numbers_demo seed rows are = and_from _ _ (le-leb seed 1000000 are.0) (and_from _ _ (le-leb 1 rows are.1) (le-leb rows 200000 are.2))

abbrev IsWithin : CommandForm → Type 0
IsWithin form = (said : WordsSaid) (seed rows : ℕ) → form.meaning said ≡ Some (Demo seed rows) → AreDemoNumbers seed rows

init_within : IsWithin init_form
init_within said seed rows e = go said.declared e
  where
    go : (declared : List Text) → init_with (sizes_of said) declared ≡ Some (Demo seed rows) → AreDemoNumbers seed rows
    go [] e = cc
    go (w ∷ ws) e = cc

run_within : IsWithin run_form
run_within said seed rows e = go (is_any_given size_options said) said.declared e
  where
    go : (given : Bool) (declared : List Text) → made_or_stored Run RunStored given (sizes_of said) declared ≡ Some (Demo seed rows) → AreDemoNumbers seed rows
    go true [] e = cc
    go false [] e = cc
    go given (w ∷ ws) e = cc

threads_within : IsWithin threads_form
threads_within said seed rows e = go (is_any_given size_options said) said.declared e
  where
    go : (given : Bool) (declared : List Text) → made_or_stored Threads ThreadsStored given (sizes_of said) declared ≡ Some (Demo seed rows) → AreDemoNumbers seed rows
    go true [] e = cc
    go false [] e = cc
    go given (w ∷ ws) e = cc

demo_within : IsWithin demo_form
demo_within said seed rows e =
    let is = demo_parts said (Demo seed rows) e in
    let same : Demo seed rows ≡ Demo is.seed is.rows = is.same in
    let seed_same : is.seed ≡ seed = cc in
    let rows_same : is.rows ≡ rows = cc in
    demo_numbers seed rows (ap₂ is_demo (sym seed_same) (sym rows_same) ∙ is.within)

pub is_within : (form : CommandForm) → Contains commands form → IsWithin form
is_within = each_form IsWithin init_within run_within threads_within demo_within

-- ---- a further declared word

abbrev pub IsLonger : (Sizes → List Text → Command) → CommandForm → Type 0
IsLonger made form = (said : WordsSaid) (word : Text) (sizes : Sizes) (declared : List Text) → form.meaning said ≡ Some (made sizes declared)
    → form.meaning (record { values = said.values; declared = said.declared ++ word ∷ [] }) ≡ Some (made sizes (declared ++ word ∷ []))

init_longer : IsLonger Init init_form
init_longer said word sizes declared e = go said.declared e
  where
    go : (words : List Text) → init_with (sizes_of said) words ≡ Some (Init sizes declared) → init_with (sizes_of said) (words ++ word ∷ []) ≡ Some (Init sizes (declared ++ word ∷ []))
    go [] e = cc
    go (w ∷ ws) e = let sized : sizes_of said ≡ sizes = cc in let same : w ∷ ws ≡ declared = cc in ap₂ (λ (s : Sizes) (d : List Text). Some (Init s (d ++ word ∷ []))) sized same

run_longer : IsLonger Run run_form
run_longer said word sizes declared e = go (is_any_given size_options said) said.declared e
  where
    go : (given : Bool) (words : List Text) → made_or_stored Run RunStored given (sizes_of said) words ≡ Some (Run sizes declared)
        → made_or_stored Run RunStored given (sizes_of said) (words ++ word ∷ []) ≡ Some (Run sizes (declared ++ word ∷ []))
    go true [] e = cc
    go false [] e = cc
    go given (w ∷ ws) e = let sized : sizes_of said ≡ sizes = cc in let same : w ∷ ws ≡ declared = cc in ap₂ (λ (s : Sizes) (d : List Text). Some (Run s (d ++ word ∷ []))) sized same

threads_longer : IsLonger Threads threads_form
threads_longer said word sizes declared e = go (is_any_given size_options said) said.declared e
  where
    go : (given : Bool) (words : List Text) → made_or_stored Threads ThreadsStored given (sizes_of said) words ≡ Some (Threads sizes declared)
        → made_or_stored Threads ThreadsStored given (sizes_of said) (words ++ word ∷ []) ≡ Some (Threads sizes (declared ++ word ∷ []))
    go true [] e = cc
    go false [] e = cc
    go given (w ∷ ws) e = let sized : sizes_of said ≡ sizes = cc in let same : w ∷ ws ≡ declared = cc in ap₂ (λ (s : Sizes) (d : List Text). Some (Threads s (d ++ word ∷ []))) sized same

-- the form is no such command
abbrev IsNone : (Sizes → List Text → Command) → CommandForm → Type 0
IsNone made form = (said : WordsSaid) (sizes : Sizes) (declared : List Text) → form.meaning said ≡ Some (made sizes declared) → ⊥

none_longer : (made : Sizes → List Text → Command) (form : CommandForm) → IsNone made form → IsLonger made form
none_longer made form none = λ said word sizes declared e. absurd (none said sizes declared e)

init_no_run : IsNone Run init_form
init_no_run said sizes declared e = go said.declared e
  where
    go : (words : List Text) → init_with (sizes_of said) words ≡ Some (Run sizes declared) → ⊥
    go [] e = cc
    go (w ∷ ws) e = cc

init_no_threads : IsNone Threads init_form
init_no_threads said sizes declared e = go said.declared e
  where
    go : (words : List Text) → init_with (sizes_of said) words ≡ Some (Threads sizes declared) → ⊥
    go [] e = cc
    go (w ∷ ws) e = cc

run_no_init : IsNone Init run_form
run_no_init said sizes declared e = go (is_any_given size_options said) said.declared e
  where
    go : (given : Bool) (words : List Text) → made_or_stored Run RunStored given (sizes_of said) words ≡ Some (Init sizes declared) → ⊥
    go true [] e = cc
    go false [] e = cc
    go given (w ∷ ws) e = cc

run_no_threads : IsNone Threads run_form
run_no_threads said sizes declared e = go (is_any_given size_options said) said.declared e
  where
    go : (given : Bool) (words : List Text) → made_or_stored Run RunStored given (sizes_of said) words ≡ Some (Threads sizes declared) → ⊥
    go true [] e = cc
    go false [] e = cc
    go given (w ∷ ws) e = cc

threads_no_init : IsNone Init threads_form
threads_no_init said sizes declared e = go (is_any_given size_options said) said.declared e
  where
    go : (given : Bool) (words : List Text) → made_or_stored Threads ThreadsStored given (sizes_of said) words ≡ Some (Init sizes declared) → ⊥
    go true [] e = cc
    go false [] e = cc
    go given (w ∷ ws) e = cc

threads_no_run : IsNone Run threads_form
threads_no_run said sizes declared e = go (is_any_given size_options said) said.declared e
  where
    go : (given : Bool) (words : List Text) → made_or_stored Threads ThreadsStored given (sizes_of said) words ≡ Some (Run sizes declared) → ⊥
    go true [] e = cc
    go false [] e = cc
    go given (w ∷ ws) e = cc

demo_no_init : IsNone Init demo_form
demo_no_init said sizes declared e = let is = demo_parts said (Init sizes declared) e in let bad : Init sizes declared ≡ Demo is.seed is.rows = is.same in cc

demo_no_run : IsNone Run demo_form
demo_no_run said sizes declared e = let is = demo_parts said (Run sizes declared) e in let bad : Run sizes declared ≡ Demo is.seed is.rows = is.same in cc

demo_no_threads : IsNone Threads demo_form
demo_no_threads said sizes declared e = let is = demo_parts said (Threads sizes declared) e in let bad : Threads sizes declared ≡ Demo is.seed is.rows = is.same in cc

pub is_longer_init : (form : CommandForm) → Contains commands form → IsLonger Init form
is_longer_init = each_form (IsLonger Init) init_longer (none_longer Init run_form run_no_init) (none_longer Init threads_form threads_no_init) (none_longer Init demo_form demo_no_init)

pub is_longer_run : (form : CommandForm) → Contains commands form → IsLonger Run form
is_longer_run = each_form (IsLonger Run) (none_longer Run init_form init_no_run) run_longer (none_longer Run threads_form threads_no_run) (none_longer Run demo_form demo_no_run)

pub is_longer_threads : (form : CommandForm) → Contains commands form → IsLonger Threads form
is_longer_threads = each_form (IsLonger Threads) (none_longer Threads init_form init_no_threads) (none_longer Threads run_form run_no_threads) threads_longer (none_longer Threads demo_form demo_no_threads)

-- ---- a command over the store that stands there

-- its word is this one, and the words say nothing
pub record IsBare (name : Text) (form : CommandForm) (said : WordsSaid) : Type 0 where
  pub word : form.word ≡ name
  pub nothing : said.declared ≡ []
  pub none : is_any_given form.options said ≡ false

abbrev pub StoredIsBare : Text → Command → CommandForm → Type 0
StoredIsBare name stored form = (said : WordsSaid) → form.meaning said ≡ Some stored → IsBare name form said

init_no_stored_run : StoredIsBare (codes "run") RunStored init_form
init_no_stored_run said e = go said.declared e
  where
    go : (declared : List Text) → init_with (sizes_of said) declared ≡ Some RunStored → IsBare (codes "run") init_form said
    go [] e = cc
    go (w ∷ ws) e = cc

init_no_stored_threads : StoredIsBare (codes "threads") ThreadsStored init_form
init_no_stored_threads said e = go said.declared e
  where
    go : (declared : List Text) → init_with (sizes_of said) declared ≡ Some ThreadsStored → IsBare (codes "threads") init_form said
    go [] e = cc
    go (w ∷ ws) e = cc

run_stored : StoredIsBare (codes "run") RunStored run_form
run_stored said e = let parts = go (is_any_given size_options said) said.declared e in record { word = refl; nothing = parts.1; none = parts.0 }
  where
    go : (given : Bool) (declared : List Text) → made_or_stored Run RunStored given (sizes_of said) declared ≡ Some RunStored → (given ≡ false) × (declared ≡ [])
    go true [] e = cc
    go false [] e = (refl, refl)
    go given (w ∷ ws) e = cc

run_no_stored_threads : StoredIsBare (codes "threads") ThreadsStored run_form
run_no_stored_threads said e = go (is_any_given size_options said) said.declared e
  where
    go : (given : Bool) (declared : List Text) → made_or_stored Run RunStored given (sizes_of said) declared ≡ Some ThreadsStored → IsBare (codes "threads") run_form said
    go true [] e = cc
    go false [] e = cc
    go given (w ∷ ws) e = cc

threads_stored : StoredIsBare (codes "threads") ThreadsStored threads_form
threads_stored said e = let parts = go (is_any_given size_options said) said.declared e in record { word = refl; nothing = parts.1; none = parts.0 }
  where
    go : (given : Bool) (declared : List Text) → made_or_stored Threads ThreadsStored given (sizes_of said) declared ≡ Some ThreadsStored → (given ≡ false) × (declared ≡ [])
    go true [] e = cc
    go false [] e = (refl, refl)
    go given (w ∷ ws) e = cc

threads_no_stored_run : StoredIsBare (codes "run") RunStored threads_form
threads_no_stored_run said e = go (is_any_given size_options said) said.declared e
  where
    go : (given : Bool) (declared : List Text) → made_or_stored Threads ThreadsStored given (sizes_of said) declared ≡ Some RunStored → IsBare (codes "run") threads_form said
    go true [] e = cc
    go false [] e = cc
    go given (w ∷ ws) e = cc

demo_no_stored_run : StoredIsBare (codes "run") RunStored demo_form
demo_no_stored_run said e = let is = demo_parts said RunStored e in let bad : RunStored ≡ Demo is.seed is.rows = is.same in cc

demo_no_stored_threads : StoredIsBare (codes "threads") ThreadsStored demo_form
demo_no_stored_threads said e = let is = demo_parts said ThreadsStored e in let bad : ThreadsStored ≡ Demo is.seed is.rows = is.same in cc

pub stored_run_bare : (form : CommandForm) → Contains commands form → StoredIsBare (codes "run") RunStored form
stored_run_bare = each_form (StoredIsBare (codes "run") RunStored) init_no_stored_run run_stored threads_no_stored_run demo_no_stored_run

pub stored_threads_bare : (form : CommandForm) → Contains commands form → StoredIsBare (codes "threads") ThreadsStored form
stored_threads_bare = each_form (StoredIsBare (codes "threads") ThreadsStored) init_no_stored_threads run_no_stored_threads threads_stored demo_no_stored_threads
