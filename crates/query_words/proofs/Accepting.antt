-- Words that go on as a line, by what may stand next, apart from where they stand.
use Rattle.std.proofs.Common.{◌≡◌, ℕ, Bool, true, false, List, [], ◌∷◌, Option, None, Some, refl, cond}
use Rattle.std.specs.Str.{bytes_eq}
use Rattle.std.proofs.lemmas.Slice.Eq.{bytes_eq-Decides}
use Rattle.query_words.specs.Words.{PlacedWord, texts_of}
use Rattle.query_words.specs.declared.verb.Verb.{Verb}
use Rattle.query_words.specs.Syntax.{where_so, after_word, may_end, stop_behind, stop_from}
use Rattle.query_words.specs.declared.syntax.Expected.{Expected}

abbrev pub accepts_behind : Option Expected → (Expected → Bool) → Bool
accepts_behind None rest = false
accepts_behind (Some next) rest = rest next

-- the words may stand there, up to the end of a line
abbrev pub accepts : List Verb → Expected → List (List ℕ) → Bool
accepts language next [] = may_end next
accepts language next (word ∷ words) = accepts_behind (after_word language next word) (λ behind. accepts language behind words)

none_ends : (b : Bool) (at : ℕ) → cond b None (Some at) ≡ None → b ≡ true
none_ends true at h = refl
none_ends false at h = cc

none_goes_on : (o : Option Expected) (at : ℕ) (stop : Expected → Option ℕ) (rest : Expected → Bool)
    → ((next : Expected) → stop next ≡ None → rest next ≡ true) → stop_behind o at stop ≡ None → accepts_behind o rest ≡ true
none_goes_on None at stop rest ih h = cc
none_goes_on (Some next) at stop rest ih h = ih next h

-- what stops nowhere is accepted
pub stops_nowhere : (language : List Verb) (len : ℕ) (next : Expected) (words : List PlacedWord) → stop_from language len next words ≡ None → accepts language next (texts_of words) ≡ true
stops_nowhere language len next [] h = none_ends (may_end next) len h
stops_nowhere language len next (word ∷ words) h =
    none_goes_on (after_word language next word.text) word.at (λ behind. stop_from language len behind words) (λ behind. accepts language behind (texts_of words))
    (λ behind e. stops_nowhere language len behind words e) h

ends_none : (b : Bool) (at : ℕ) → b ≡ true → cond b None (Some at) ≡ None
ends_none true at h = refl
ends_none false at h = cc

goes_on_none : (o : Option Expected) (at : ℕ) (stop : Expected → Option ℕ) (rest : Expected → Bool)
    → ((next : Expected) → rest next ≡ true → stop next ≡ None) → accepts_behind o rest ≡ true → stop_behind o at stop ≡ None
goes_on_none None at stop rest ih h = cc
goes_on_none (Some next) at stop rest ih h = ih next h

-- what is accepted stops nowhere
pub accepted_stops_nowhere : (language : List Verb) (len : ℕ) (next : Expected) (words : List PlacedWord) → accepts language next (texts_of words) ≡ true → stop_from language len next words ≡ None
accepted_stops_nowhere language len next [] h = ends_none (may_end next) len h
accepted_stops_nowhere language len next (word ∷ words) h =
    goes_on_none (after_word language next word.text) word.at (λ behind. stop_from language len behind words) (λ behind. accepts language behind (texts_of words))
    (λ behind e. accepted_stops_nowhere language len behind words e) h

-- a test that was passed, and what goes on
pub passed : (b : Bool) (next : Expected) (rest : Expected → Bool) → accepts_behind (where_so b next) rest ≡ true → (b ≡ true) × (rest next ≡ true)
passed true next rest h = (refl, h)
passed false next rest h = cc

pub passes : (b : Bool) (next : Expected) (rest : Expected → Bool) → b ≡ true → accepts_behind (where_so b next) rest ≡ rest next
passes true next rest h = refl
passes false next rest h = cc

-- words that are tested as one are that one
pub same_text : (a b : List ℕ) → bytes_eq a b ≡ true → a ≡ b
same_text a b h = (bytes_eq-Decides a b).0 h

pub text_same : (a b : List ℕ) → a ≡ b → bytes_eq a b ≡ true
text_same a b h = (bytes_eq-Decides a b).1 h
