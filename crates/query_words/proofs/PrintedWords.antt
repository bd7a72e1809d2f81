-- Words that are printed with single spaces between them are read as those words.
use Rattle.std.proofs.Common.{◌≡◌, ◌≢◌, ℕ, ◌+◌, ◌*◌, ◌≤◌, true, not, List, [], ◌∷◌, ◌++◌, length, refl, sym, ap, ◌∙◌, inl, inr, arith, append_assoc, append-nil, length-append}
use Rattle.std.specs.List.{list_all, AllByRecursion}
use Rattle.std.proofs.lemmas.Bool.{false≢true, and_parts}
use Rattle.std.proofs.lemmas.Bool.Decides.{eqb_tells}
use Rattle.query_words.specs.Words.{words_from, words_of, texts_of}
use Rattle.query_words.proofs.PlacedWords.{space_first, byte_first, ended_is, space_behind}
use Rattle.query_words.specs.LineTexts.{spaced, joined}
use Rattle.query_words.proofs.PrintedValues.{no_space, IsPrinted}

no_space_is : (c : ℕ) → no_space c ≡ true → c ≢ 32
no_space_is c h = elim (eqb_tells c 32) as (λ _. c ≢ 32) [ inl here ↦ (λ e. false≢true (sym (ap not here.0) ∙ h)) | inr there ↦ there.1 ]

-- bytes without spaces join the word
word_joins : (at : ℕ) (word bytes rest : List ℕ) → list_all no_space bytes ≡ true → words_from at word (bytes ++ rest) ≡ words_from at (word ++ bytes) rest
word_joins at word [] rest h = ap (λ (w : List ℕ). words_from at w rest) (sym (append-nil word))
word_joins at word (c ∷ cs) rest h =
    let b = and_parts (no_space c) (list_all no_space cs) h in
    byte_first at word c (cs ++ rest) (no_space_is c b.0)
    ∙ word_joins at (word ++ c ∷ []) cs rest b.1
    ∙ ap (λ (w : List ℕ). words_from at w rest) (append_assoc word (c ∷ []) cs)

-- the first word and those behind it
first_word : (at : ℕ) (word : List ℕ) (words : List (List ℕ)) → IsPrinted word → texts_of (words_from at [] (word ++ spaced words)) ≡ word ∷ texts_of (words_from (at + length word) [] (spaced words))
first_word at word [] p =
    ap texts_of (word_joins at [] word [] p.no_spaces) ∙ ap texts_of (ended_is at word [] p.some)
first_word at word (next ∷ words) p =
    ap texts_of (word_joins at [] word (spaced (next ∷ words)) p.no_spaces)
    ∙ ap texts_of (space_behind at word 32 (next ++ spaced words) p.some refl)

spaced_words : (at : ℕ) (words : List (List ℕ)) → AllByRecursion IsPrinted words → texts_of (words_from at [] (spaced words)) ≡ words
spaced_words at [] all = refl
spaced_words at (word ∷ words) all =
    ap texts_of (space_first at 32 (word ++ spaced words) refl)
    ∙ first_word (at + 1) word words all.0
    ∙ ap (λ (ws : List (List ℕ)). word ∷ ws) (spaced_words (at + 1 + length word) words all.1)

pub joined_words : (words : List (List ℕ)) → AllByRecursion IsPrinted words → texts_of (words_of (joined words)) ≡ words
joined_words [] all = refl
joined_words (word ∷ words) all =
    first_word 0 word words all.0 ∙ ap (λ (ws : List (List ℕ)). word ∷ ws) (spaced_words (0 + length word) words all.1)

spaced_short : (words : List (List ℕ)) → AllByRecursion IsPrinted words → length (spaced words) ≤ 44 * length words
spaced_short [] all = omega arith
spaced_short (word ∷ words) all =
    let first : length word ≤ 43 = all.0.short in
    omega (arith, spaced_short words all.1, length-append word (spaced words))

-- they are at most so long
pub joined_short : (words : List (List ℕ)) → AllByRecursion IsPrinted words → length (joined words) ≤ 44 * length words
joined_short [] all = omega arith
joined_short (word ∷ words) all =
    let first : length word ≤ 43 = all.0.short in
    omega (arith, spaced_short words all.1, length-append word (spaced words))
