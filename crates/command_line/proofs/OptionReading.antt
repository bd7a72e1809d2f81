-- What stands behind the columns of an index is what is read as it, whether ` autosummarize` is answered or not.
use Rattle.std.proofs.Common.{◌≡◌, ℕ, Bool, true, false, ◌==◌, ◌&&◌, List, [], ◌∷◌, ◌++◌, codes, None, Some, Ok, refl, ap, ◌∙◌, append_assoc}
use Rattle.block_model.specs.Names.{is_digit}
use Rattle.value_text.specs.Digits.{AreDigits}
use Rattle.value_text.specs.TextReading.{mapped, both, begins, choice, nothing, byte_at, word_at, digits_at}
use Rattle.value_text.proofs.Lawful.{Lawful, both_lawful, mapped_lawful, choice_lawful, nothing_lawful, same_lawful, byte_lawful, word_lawful, word_complete, both_read, mapped_read, choice_second}
use Rattle.value_text.proofs.DigitReading.{one_digit, digits_lawful, digits_complete}
use Rattle.command_line.specs.DeclarationTexts.{setting_bytes, auto_bytes, IsSetting, IsAnswered}
use Rattle.command_line.specs.DeclarationReading.{auto_at, pages_at, option_at, options_at}
use Rattle.command_line.proofs.SettingReading.{Setting, is_space}

abbrev pub Options : Type 0
Options = Setting × Bool

abbrev of_word : Unit {0} → Bool
of_word x = true

abbrev spoken : Unit {0} → Options
spoken x = (None, true)

abbrev of_pages : Unit {0} × (List ℕ × Bool) → Options
of_pages x = (Some x.1.0, x.1.1)

abbrev option_behind : Unit {0} × Options → Options
option_behind x = x.1

abbrev auto_space : Bool → ℕ → Bool
auto_space autos c = autos && c == 32

abbrev auto_letter : Bool → ℕ → Bool
auto_letter autos c = autos && c == 97

-- what isn't answered isn't looked for
never : (b : ℕ) (bytes : List ℕ) → begins (λ c. false && c == b) bytes ≡ false
never b [] = refl
never b (c ∷ cs) = refl

auto_lawful : (autos : Bool) → Lawful (auto_at autos) auto_bytes (IsAnswered autos)
unfolding auto_at
auto_lawful true =
    same_lawful (auto_at true) (choice (auto_space true) (mapped of_word (word_at (codes " autosummarize"))) (nothing false)) auto_bytes (IsAnswered true) (λ bytes. refl)
    (choice_lawful (auto_space true) (mapped of_word (word_at (codes " autosummarize"))) (nothing false) auto_bytes (IsAnswered true)
    (mapped_lawful of_word (word_at (codes " autosummarize")) (λ x. codes " autosummarize") auto_bytes (λ x. Unit {0}) (IsAnswered true) (λ a i. (refl, refl)) (word_lawful (codes " autosummarize")))
    (nothing_lawful false auto_bytes (IsAnswered true) tt refl))
auto_lawful false =
    same_lawful (auto_at false) (nothing false) auto_bytes (IsAnswered false) (λ bytes. choice_second (auto_space false) (mapped of_word (word_at (codes " autosummarize"))) (nothing false) bytes (never 32 bytes))
    (nothing_lawful false auto_bytes (IsAnswered false) tt refl)

-- something is said
abbrev IsOption : Bool → Options → Type 0
IsOption autos (None, auto) = (autos ≡ true) × (auto ≡ true)
IsOption autos (Some digits, auto) = AreDigits digits × IsAnswered autos auto

-- what stands behind the space
abbrev option_bytes : Options → List ℕ
option_bytes (None, auto) = codes "autosummarize"
option_bytes (Some digits, auto) = codes "pages_per_range " ++ (digits ++ auto_bytes auto)

pages_lawful : (autos : Bool) → Lawful (pages_at autos) option_bytes (IsOption autos)
unfolding pages_at
pages_lawful autos =
    same_lawful (pages_at autos) (mapped of_pages (both (word_at (codes "pages_per_range ")) (both digits_at (auto_at autos)))) option_bytes (IsOption autos) (λ bytes. refl)
    (mapped_lawful of_pages (both (word_at (codes "pages_per_range ")) (both digits_at (auto_at autos))) (λ x. codes "pages_per_range " ++ (x.1.0 ++ auto_bytes x.1.1)) option_bytes
    (λ x. Unit {0} × (AreDigits x.1.0 × IsAnswered autos x.1.1)) (IsOption autos) (λ a i. (i.1, refl))
    (both_lawful (word_at (codes "pages_per_range ")) (both digits_at (auto_at autos)) (λ x. codes "pages_per_range ") (λ x. x.0 ++ auto_bytes x.1) (λ x. Unit {0}) (λ x. AreDigits x.0 × IsAnswered autos x.1)
    (48 ∷ [], false) (one_digit, tt) (word_lawful (codes "pages_per_range "))
    (both_lawful digits_at (auto_at autos) (λ ds. ds) auto_bytes AreDigits (IsAnswered autos) false tt digits_lawful (auto_lawful autos))))

option_lawful : (autos : Bool) → Lawful (option_at autos) option_bytes (IsOption autos)
unfolding option_at
option_lawful true =
    same_lawful (option_at true) (choice (auto_letter true) (mapped spoken (word_at (codes "autosummarize"))) (pages_at true)) option_bytes (IsOption true) (λ bytes. refl)
    (choice_lawful (auto_letter true) (mapped spoken (word_at (codes "autosummarize"))) (pages_at true) option_bytes (IsOption true)
    (mapped_lawful spoken (word_at (codes "autosummarize")) (λ x. codes "autosummarize") option_bytes (λ x. Unit {0}) (IsOption true) (λ a i. ((refl, refl), refl)) (word_lawful (codes "autosummarize")))
    (pages_lawful true))
option_lawful false =
    same_lawful (option_at false) (pages_at false) option_bytes (IsOption false) (λ bytes. choice_second (auto_letter false) (mapped spoken (word_at (codes "autosummarize"))) (pages_at false) bytes (never 97 bytes))
    (pages_lawful false)

-- what stands behind the columns
abbrev pub options_bytes : Options → List ℕ
options_bytes (pages, auto) = setting_bytes (codes " pages_per_range ") pages ++ auto_bytes auto

abbrev pub AreOptions : Bool → Options → Type 0
AreOptions autos (pages, auto) = IsSetting pages × IsAnswered autos auto

answered_word : (autos : Bool) → autos ≡ true → (auto : Bool) → auto ≡ true → IsAnswered autos auto
answered_word autos e true k = e
answered_word autos e false k = tt

spaced : (autos : Bool) (o : Options) → IsOption autos o → AreOptions autos o × (options_bytes o ≡ (32 ∷ []) ++ option_bytes o)
spaced autos (None, true) i = ((tt, i.0), refl)
spaced autos (None, false) i = let none : false ≡ true = i.1 in cc
spaced autos (Some digits, auto) i = (i, ap (λ l. 32 ∷ l) (append_assoc (codes "pages_per_range ") digits (auto_bytes auto)))

pub options_lawful : (autos : Bool) → Lawful (options_at autos) options_bytes (AreOptions autos)
unfolding options_at
options_lawful autos =
    same_lawful (options_at autos) (choice is_space (mapped option_behind (both (byte_at 32) (option_at autos))) (nothing (None, false))) options_bytes (AreOptions autos) (λ bytes. refl)
    (choice_lawful is_space (mapped option_behind (both (byte_at 32) (option_at autos))) (nothing (None, false)) options_bytes (AreOptions autos)
    (mapped_lawful option_behind (both (byte_at 32) (option_at autos)) (λ x. (32 ∷ []) ++ option_bytes x.1) options_bytes (λ x. Unit {0} × IsOption autos x.1) (AreOptions autos) (λ a i. spaced autos a.1 i.1)
    (both_lawful (byte_at 32) (option_at autos) (λ x. 32 ∷ []) option_bytes (λ x. Unit {0}) (IsOption autos) (Some (48 ∷ []), false) (one_digit, tt) (byte_lawful 32) (option_lawful autos)))
    (nothing_lawful (None, false) options_bytes (AreOptions autos) (tt, tt) refl))

auto_complete : (autos auto : Bool) → IsAnswered autos auto → auto_at autos (auto_bytes auto) ≡ Ok (auto, [])
unfolding auto_at
auto_complete true true i = refl
auto_complete false true i = let none : false ≡ true = i in cc
auto_complete autos false i = refl

no_digit : (auto : Bool) → begins is_digit (auto_bytes auto) ≡ false
no_digit true = refl
no_digit false = refl

no_letter : (autos : Bool) (bytes : List ℕ) → begins (auto_letter autos) (112 ∷ bytes) ≡ false
no_letter true bytes = refl
no_letter false bytes = refl

option_complete : (autos : Bool) (o : Options) → IsOption autos o → option_at autos (option_bytes o) ≡ Ok (o, [])
unfolding option_at pages_at
option_complete true (None, true) i = refl
option_complete false (None, true) i = let none : false ≡ true = i.0 in cc
option_complete autos (None, false) i = let none : false ≡ true = i.1 in cc
option_complete autos (Some digits, auto) i =
    let behind : List ℕ = digits ++ auto_bytes auto in
    choice_second (auto_letter autos) (mapped spoken (word_at (codes "autosummarize"))) (pages_at autos) (codes "pages_per_range " ++ behind) (no_letter autos (codes "ages_per_range " ++ behind))
    ∙ mapped_read of_pages (both (word_at (codes "pages_per_range ")) (both digits_at (auto_at autos))) (codes "pages_per_range " ++ behind) ((tt, (digits, auto)), [])
    (both_read (word_at (codes "pages_per_range ")) (both digits_at (auto_at autos)) (codes "pages_per_range " ++ behind) (tt, behind) ((digits, auto), []) (word_complete (codes "pages_per_range ") behind)
    (both_read digits_at (auto_at autos) behind (digits, auto_bytes auto) (auto, []) (digits_complete digits (auto_bytes auto) i.0 (no_digit auto)) (auto_complete autos auto i.1)))

said_options : (autos : Bool) (o : Options) → IsOption autos o → options_at autos (options_bytes o) ≡ Ok (o, [])
unfolding options_at
said_options autos o i =
    ap (choice is_space (mapped option_behind (both (byte_at 32) (option_at autos))) (nothing (None, false))) (spaced autos o i).1
    ∙ mapped_read option_behind (both (byte_at 32) (option_at autos)) (32 ∷ option_bytes o) ((tt, o), [])
    (both_read (byte_at 32) (option_at autos) (32 ∷ option_bytes o) (tt, option_bytes o) (o, []) refl (option_complete autos o i))

-- at the end of a text they are read
pub options_complete : (autos : Bool) (o : Options) → AreOptions autos o → options_at autos (options_bytes o) ≡ Ok (o, [])
unfolding options_at
options_complete autos (None, false) i = refl
options_complete autos (None, true) i = said_options autos (None, true) (i.1, refl)
options_complete autos (Some digits, auto) i = said_options autos (Some digits, auto) i
