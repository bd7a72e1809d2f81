-- words with their places, from the front of what is left
use Rattle.std.proofs.Common.{◌≡◌, ◌≢◌, ℕ, ◌+◌, ◌<◌, ◌==◌, false, cond, List, [], ◌∷◌, ◌++◌, length, get_or, take, drop, refl, sym, ap, ◌∙◌, inl, inr, arith, suc, zero}
use Rattle.std.proofs.lemmas.Bool.{eq-eqb}
use Rattle.std.proofs.lemmas.Bool.Decides.{eqb_tells}
use Rattle.std.proofs.lemmas.List.{at_drop_more, at_drop_all, take_more, length-take-le, take_all}
use Rattle.query_words.specs.Words.{PlacedWord, placed, ended, words_from}

-- a space in front moves the place alone
pub space_first : (at c : ℕ) (cs : List ℕ) → c ≡ 32 → words_from at [] (c ∷ cs) ≡ words_from (at + 1) [] cs
space_first at c cs e =
    ap (λ b. cond b (words_from (at + 0 + 1) [] cs) (words_from at (c ∷ []) cs)) (eq-eqb c 32 e)
    ∙ ap (λ (n : ℕ). words_from n [] cs) (let k : at + 0 + 1 ≡ at + 1 = omega arith in k)

pub spaces_more : (at : ℕ) (bytes : List ℕ) (i : ℕ) → i < length bytes → get_or bytes i 0 ≡ 32
    → words_from (at + i) [] (drop i bytes) ≡ words_from (at + (i + 1)) [] (drop (i + 1) bytes)
spaces_more at bytes i h e =
    at_drop_more (words_from (at + i) []) bytes i 0 h
    ∙ space_first (at + i) (get_or bytes i 0) (drop (i + 1) bytes) e
    ∙ ap (λ (n : ℕ). words_from n [] (drop (i + 1) bytes)) (let k : at + i + 1 ≡ at + (i + 1) = omega arith in k)

not_space : (c : ℕ) → c ≢ 32 → (c == 32) ≡ false
not_space c h = elim (eqb_tells c 32) as (λ _. (c == 32) ≡ false) [ inl here ↦ absurd (h here.1) | inr there ↦ there.0 ]

-- another byte joins the word
pub byte_first : (at : ℕ) (word : List ℕ) (c : ℕ) (cs : List ℕ) → c ≢ 32 → words_from at word (c ∷ cs) ≡ words_from at (word ++ c ∷ []) cs
byte_first at word c cs h =
    ap (λ b. cond b (ended at word (words_from (at + length word + 1) [] cs)) (words_from at (word ++ c ∷ []) cs)) (not_space c h)

pub word_more : (at : ℕ) (bytes : List ℕ) (i : ℕ) → i < length bytes → get_or bytes i 0 ≢ 32
    → words_from at (take i bytes) (drop i bytes) ≡ words_from at (take (i + 1) bytes) (drop (i + 1) bytes)
word_more at bytes i h ne =
    at_drop_more (words_from at (take i bytes)) bytes i 0 h
    ∙ byte_first at (take i bytes) (get_or bytes i 0) (drop (i + 1) bytes) ne
    ∙ ap (λ (w : List ℕ). words_from at w (drop (i + 1) bytes)) (sym (take_more bytes i 0 h))

pub ended_is : (at : ℕ) (word : List ℕ) (words : List PlacedWord) → 0 < length word → ended at word words ≡ placed word at ∷ words
ended_is at [] words h = absurd (omega (arith, h))
ended_is at (c ∷ cs) words h = refl

-- a space ends the word
pub space_behind : (at : ℕ) (word : List ℕ) (c : ℕ) (cs : List ℕ) → 0 < length word → c ≡ 32
    → words_from at word (c ∷ cs) ≡ placed word at ∷ words_from (at + length word) [] (c ∷ cs)
space_behind at word c cs some e =
    ap (λ b. cond b (ended at word (words_from (at + length word + 1) [] cs)) (words_from at (word ++ c ∷ []) cs)) (eq-eqb c 32 e)
    ∙ ended_is at word _ some
    ∙ ap (λ (ws : List PlacedWord). placed word at ∷ ws) (sym (space_first (at + length word) c cs e))

some_before : (bytes : List ℕ) (i : ℕ) → get_or bytes 0 0 ≢ 32 → get_or bytes i 0 ≡ 32 → 0 < i
some_before bytes zero ne e = absurd (ne e)
some_before bytes (suc i) ne e = omega arith

pub word_ends : (at : ℕ) (bytes : List ℕ) (i : ℕ) → i < length bytes → get_or bytes 0 0 ≢ 32 → get_or bytes i 0 ≡ 32
    → words_from at (take i bytes) (drop i bytes) ≡ placed (take i bytes) at ∷ words_from (at + i) [] (drop i bytes)
word_ends at bytes i h ne e =
    let size : length (take i bytes) ≡ i = length-take-le i bytes (omega arith) in
    let some : 0 < length (take i bytes) = omega (arith, some_before bytes i ne e) in
    at_drop_more (words_from at (take i bytes)) bytes i 0 h
    ∙ space_behind at (take i bytes) (get_or bytes i 0) (drop (i + 1) bytes) some e
    ∙ ap (λ (n : ℕ). placed (take i bytes) at ∷ words_from (at + n) [] (get_or bytes i 0 ∷ drop (i + 1) bytes)) size
    ∙ ap (λ (ws : List PlacedWord). placed (take i bytes) at ∷ ws) (sym (at_drop_more (words_from (at + i) []) bytes i 0 h))

pub word_is_all : (at : ℕ) (bytes : List ℕ) (n : ℕ) → 0 < length bytes → n ≡ length bytes
    → words_from at (take n bytes) (drop n bytes) ≡ placed (take n bytes) at ∷ words_from (at + n) [] (drop n bytes)
word_is_all at bytes n some e =
    let whole : take n bytes ≡ bytes = take_all n bytes (omega arith) in
    let long : 0 < length (take n bytes) = omega (arith, ap length whole) in
    at_drop_all (words_from at (take n bytes)) bytes n (omega arith)
    ∙ ended_is at (take n bytes) [] long
    ∙ ap (λ (ws : List PlacedWord). placed (take n bytes) at ∷ ws) (sym (at_drop_all (words_from (at + n) []) bytes n (omega arith)))
