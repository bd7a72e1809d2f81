-- A demo's numbers, and what it is where they are given.
use Rattle.std.proofs.Common.{◌≡◌, ◌⊎◌, refl, sym, List, [], ◌∷◌, ℕ, true, false, Option, Some, None, option_map, inl, inr, codes}
use Rattle.std.proofs.lemmas.Bool.{cases_Bool}
use Rattle.command_line.specs.declared.command.Command.{Command}
use Rattle.command_line.specs.CommandWords.{Text, WordsSaid, is_number, number_of, value_of, demo_options, demo_form, demo_with}
use Rattle.command_line.specs.ClapReading.{is_number_if_given, numbers_given, number_read}
use Rattle.command_line.specs.ClapCommands.{meaning_checked}
use Rattle.command_line.proofs.JudgedLemmas.{none_either}

-- an option's digits, with their number
abbrev pub Reads : Option Text → ℕ → Type 0
Reads o n = (is_number_if_given o ≡ true) × (option_map number_of o ≡ Some n)

pub read_number : (o : Option Text) (n : ℕ) → Some n ≡ number_read o → Reads o n
read_number None n e = cc
read_number (Some text) n e = elim (cases_Bool (is_number text)) [
  | inl h ↦ let same : Some n ≡ Some (number_of text) = rw h at e in (h, sym same)
  | inr h ↦ let bad : Some n ≡ None = rw h at e in cc
]

-- an option that isn't given, or has no digits
abbrev pub Lacks : Option Text → Type 0
Lacks o = (is_number_if_given o ≡ false) ⊎ (option_map number_of o ≡ None)

pub read_nothing : (o : Option Text) → None ≡ number_read o → Lacks o
read_nothing None e = inr refl
read_nothing (Some text) e = elim (cases_Bool (is_number text)) [
  | inl h ↦ let bad : None ≡ Some (number_of text) = rw h at e in cc
  | inr h ↦ inl h
]

abbrev seed_of : WordsSaid → Option Text
seed_of said = value_of (codes "seed") said.values

abbrev rows_of : WordsSaid → Option Text
rows_of said = value_of (codes "rows") said.values

-- with both numbers and nothing declared it is what they are
pub demo_given : (said : WordsSaid) (seed rows : ℕ) (command : Option Command) → Reads (seed_of said) seed → Reads (rows_of said) rows → said.declared ≡ [] → demo_with seed rows [] ≡ command
    → meaning_checked demo_form said ≡ command
demo_given said seed rows command s r d is = rw (s.0, r.0, s.1, r.1, d) is

pub no_seed : (said : WordsSaid) → Lacks (seed_of said) → meaning_checked demo_form said ≡ None
no_seed said (inl h) = rw h refl
no_seed said (inr h) = rw h (none_either (numbers_given demo_options said.values))

pub no_rows : (said : WordsSaid) (seed : ℕ) → Reads (seed_of said) seed → Lacks (rows_of said) → meaning_checked demo_form said ≡ None
no_rows said seed s (inl h) = rw (s.0, h) refl
no_rows said seed s (inr h) = rw (s.1, h) (none_either (numbers_given demo_options said.values))

pub demo_declares : (said : WordsSaid) (seed rows : ℕ) → Reads (seed_of said) seed → Reads (rows_of said) rows → (said.declared ≡ [] → ⊥) → meaning_checked demo_form said ≡ None
demo_declares said seed rows s r d = rw (s.0, r.0, s.1, r.1) (go said.declared d)
  where
    go : (words : List Text) → (words ≡ [] → ⊥) → demo_with seed rows words ≡ None
    go [] d = absurd (d refl)
    go (w ∷ ws) d = refl
