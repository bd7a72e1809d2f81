-- Settings are what is read as them.
use Rattle.std.proofs.Common.{◌≡◌, ℕ, Bool, false, ◌==◌, List, [], ◌∷◌, ◌++◌, codes, Option, None, Some, Ok, refl, ap, ◌∙◌, append_assoc}
use Rattle.block_model.specs.Names.{is_digit}
use Rattle.value_text.specs.Digits.{AreDigits}
use Rattle.value_text.specs.TextReading.{mapped, both, begins, choice, nothing, byte_at, word_at, digits_at}
use Rattle.value_text.proofs.Lawful.{Lawful, both_lawful, mapped_lawful, choice_lawful, nothing_lawful, same_lawful, byte_lawful, word_lawful, word_complete, both_read, mapped_read, choice_first, choice_second}
use Rattle.value_text.proofs.DigitReading.{one_digit, digits_lawful, digits_complete}
use Rattle.command_line.specs.DeclarationTexts.{setting_bytes, IsSetting}
use Rattle.command_line.specs.DeclarationReading.{setting_at, ending_at}

abbrev pub is_space : ℕ → Bool
is_space c = c == 32

-- the digits of a setting
abbrev pub Setting : Type 0
Setting = Option (List ℕ)

abbrev said_digits : Unit {0} × List ℕ → Setting
said_digits x = Some x.1

pub setting_lawful : (setting : List ℕ) → Lawful (setting_at setting) (setting_bytes setting) IsSetting
unfolding setting_at
setting_lawful setting =
    same_lawful (setting_at setting) (choice is_space (mapped said_digits (both (word_at setting) digits_at)) (nothing None)) (setting_bytes setting) IsSetting (λ bytes. refl)
    (choice_lawful is_space (mapped said_digits (both (word_at setting) digits_at)) (nothing None) (setting_bytes setting) IsSetting
    (mapped_lawful said_digits (both (word_at setting) digits_at) (λ x. setting ++ x.1) (setting_bytes setting) (λ x. Unit {0} × AreDigits x.1) IsSetting (λ a i. (i.1, refl))
    (both_lawful (word_at setting) digits_at (λ x. setting) (λ ds. ds) (λ x. Unit {0}) AreDigits (48 ∷ []) one_digit (word_lawful setting) digits_lawful))
    (nothing_lawful None (setting_bytes setting) IsSetting tt refl))

abbrev setting_behind : Unit {0} × Setting → Setting
setting_behind x = x.1

abbrev pub ending_bytes : List ℕ → Setting → List ℕ
ending_bytes setting said = codes ")" ++ setting_bytes setting said

pub ending_lawful : (setting : List ℕ) → Lawful (ending_at setting) (ending_bytes setting) IsSetting
unfolding ending_at
ending_lawful setting =
    same_lawful (ending_at setting) (mapped setting_behind (both (byte_at 41) (setting_at setting))) (ending_bytes setting) IsSetting (λ bytes. refl)
    (mapped_lawful setting_behind (both (byte_at 41) (setting_at setting)) (λ x. (41 ∷ []) ++ setting_bytes setting x.1) (ending_bytes setting) (λ x. Unit {0} × IsSetting x.1) IsSetting (λ a i. (i.1, refl))
    (both_lawful (byte_at 41) (setting_at setting) (λ x. 41 ∷ []) (setting_bytes setting) (λ x. Unit {0}) IsSetting None tt (byte_lawful 41) (setting_lawful setting)))

-- neither a setting nor a number goes on there
pub record EndsSetting (rest : List ℕ) : Type 0 where
  pub no_space : begins is_space rest ≡ false
  pub no_digit : begins is_digit rest ≡ false

-- as at the end of a text, and at a comma
pub nothing_ends : EndsSetting []
nothing_ends = record { no_space = refl; no_digit = refl }

pub comma_ends : (bytes : List ℕ) → EndsSetting (44 ∷ bytes)
comma_ends bytes = record { no_space = refl; no_digit = refl }

-- a setting that begins with a space is read
pub setting_complete : (word : List ℕ) (said : Setting) (rest : List ℕ) → IsSetting said → EndsSetting rest → setting_at (32 ∷ word) (setting_bytes (32 ∷ word) said ++ rest) ≡ Ok (said, rest)
unfolding setting_at
setting_complete word None rest i e = choice_second is_space (mapped said_digits (both (word_at (32 ∷ word)) digits_at)) (nothing None) rest e.no_space
setting_complete word (Some ds) rest i e =
    ap (choice is_space (mapped said_digits (both (word_at (32 ∷ word)) digits_at)) (nothing None)) (append_assoc (32 ∷ word) ds rest)
    ∙ choice_first is_space (mapped said_digits (both (word_at (32 ∷ word)) digits_at)) (nothing None) ((32 ∷ word) ++ (ds ++ rest)) refl
    ∙ mapped_read said_digits (both (word_at (32 ∷ word)) digits_at) ((32 ∷ word) ++ (ds ++ rest)) ((tt, ds), rest)
    (both_read (word_at (32 ∷ word)) digits_at ((32 ∷ word) ++ (ds ++ rest)) (tt, ds ++ rest) (ds, rest) (word_complete (32 ∷ word) (ds ++ rest)) (digits_complete ds rest i e.no_digit))

-- so is the bracket in front of one
pub ending_complete : (word : List ℕ) (said : Setting) (rest : List ℕ) → IsSetting said → EndsSetting rest → ending_at (32 ∷ word) (ending_bytes (32 ∷ word) said ++ rest) ≡ Ok (said, rest)
unfolding ending_at
ending_complete word said rest i e =
    mapped_read setting_behind (both (byte_at 41) (setting_at (32 ∷ word))) (41 ∷ (setting_bytes (32 ∷ word) said ++ rest)) ((tt, said), rest)
    (both_read (byte_at 41) (setting_at (32 ∷ word)) (41 ∷ (setting_bytes (32 ∷ word) said ++ rest)) (tt, setting_bytes (32 ∷ word) said ++ rest) (said, rest) refl
    (setting_complete word said rest i e))
