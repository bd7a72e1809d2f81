-- The texts of words, one at a time.
use Rattle.std.proofs.Common.{◌≡◌, ◌∙◌, ◌<◌, ◌+◌, ◌++◌, ◌&&◌, sym, ap₂, ℕ, List, [], ◌∷◌, map, take, length, get_or, true, Bor}
use Rattle.std.specs.List.{list_all}
use Rattle.std.specs.Str.{is_utf8}
use Rattle.std.proofs.lemmas.List.{take_more, map-append}
use Rattle.std.proofs.lemmas.List.Folds.{list_all_more}
use Rattle.command_line.specs.CommandWords.{Text}

pub text_more : (items : List (Bor Text)) (words : List Text) (at : ℕ) (text : Bor Text) → at < length words → text.now ≡ get_or words at []
    → map (λ (w : Bor Text). w.now) items ≡ take at words → map (λ (w : Bor Text). w.now) (items ++ text ∷ []) ≡ take (at + 1) words
text_more items words at text inside same e =
    map-append (λ (w : Bor Text). w.now) items (text ∷ []) ∙ ap₂ (λ (xs : List Text) (x : Text). xs ++ x ∷ []) e same ∙ sym (take_more words at [] inside)

pub utf8_more : (words : List Text) (at : ℕ) → at < length words → list_all is_utf8 (take at words) ≡ true → is_utf8 (get_or words at []) ≡ true
    → list_all is_utf8 (take (at + 1) words) ≡ true
utf8_more words at inside e one = list_all_more is_utf8 words at [] inside ∙ ap₂ (λ a b. a && b) e one
