-- Words that stop somewhere: those in front begin words that are accepted, and with the word there they don't.
use Rattle.std.proofs.Common.{◌≡◌, ℕ, suc, ◌+◌, ◌<◌, ◌≤◌, Bool, true, false, List, [], ◌∷◌, ◌++◌, length, take, codes, Option, None, Some, refl, sym, ap, ◌∙◌, cond, arith}
use Rattle.std.specs.List.{slice_get}
use Rattle.std.proofs.lemmas.Bool.{false≢true}
use Rattle.block_model.specs.declared.value.Kind.TheVariants as kinds
use Rattle.block_model.specs.declared.value.Value.TheVariants as values
use Rattle.value_text.specs.ValueTexts.{Null as NullText}
use Rattle.value_text.specs.ValueOf.{ValueOfIsDenoted}
use Rattle.query_words.specs.declared.verb.Verb.{Verb}
use Rattle.query_words.specs.Words.{PlacedWord, texts_of, place_or}
use Rattle.query_words.specs.declared.syntax.Expected.{Expected}
use Rattle.query_words.specs.declared.syntax.Expected.TheVariants as expected
use Rattle.query_words.specs.Grammar.{Whole, IsValueWord, words_of_statement}
use Rattle.query_words.specs.LineLaws.{HasStatements}
use Rattle.query_words.specs.Syntax.{after_word, may_end, stop_behind, stop_from}
use Rattle.query_words.proofs.Accepting.{accepts_behind, accepts, passes}
use Rattle.query_words.proofs.Completeness.{is_value, statement_accepted, order_accepted, line_accepted}

-- where words stop, and what stands in front
pub record Stops (language : List Verb) (len : ℕ) (next : Expected) (words : List PlacedWord) (at : ℕ) : Type 0 where
  pub number : ℕ
  pub place : at ≡ place_or len (slice_get words number)
  pub within : number ≤ length words
  pub ending : List (List ℕ)
  pub goes_on : accepts language next (take number (texts_of words) ++ ending) ≡ true
  pub stops : number < length words → (more : List (List ℕ)) → accepts language next (take (number + 1) (texts_of words) ++ more) ≡ true → ⊥
  pub refused : accepts language next (texts_of words) ≡ true → ⊥

-- words that are accepted
record Ends (language : List Verb) (next : Expected) : Type 0 where
  words : List (List ℕ)
  accepted : accepts language next words ≡ true

null_value : ValueOfIsDenoted → IsValueWord (codes "null")
null_value law = (kinds.Int, (values.Null, (NullText, tt, refl, refl)))

-- each front can be continued, where the language has some statement
ends : (language : List Verb) → ValueOfIsDenoted → HasStatements language → (next : Expected) → Ends language next
ends language law has expected.Session = record {
  words = codes "a" ∷ words_of_statement has.0;
  accepted = line_accepted language law (codes "a") (Whole has.0) refl has.1;
}
ends language law has expected.Verb = record { words = words_of_statement has.0; accepted = order_accepted language law (Whole has.0) has.1 }
ends language law has expected.Statement = record { words = words_of_statement has.0; accepted = statement_accepted language law has.0 has.1 }
ends language law has expected.End = record { words = []; accepted = refl }
ends language law has expected.InsertTable = record { words = codes "a" ∷ []; accepted = refl }
ends language law has expected.Values = record { words = []; accepted = refl }
ends language law has expected.QueryTable = record { words = codes "a" ∷ []; accepted = refl }
ends language law has expected.Where = record { words = []; accepted = refl }
ends language law has (expected.And left) = record { words = []; accepted = refl }
ends language law has (expected.Column left) = record { words = codes "a" ∷ codes "is" ∷ codes "null" ∷ []; accepted = refl }
ends language law has (expected.Operator left) = record { words = codes "is" ∷ codes "null" ∷ []; accepted = refl }
ends language law has (expected.Value left) = record {
  words = codes "null" ∷ [];
  accepted = passes _ (expected.And left) (λ next. accepts language next []) (is_value law (codes "null") (null_value law));
}
ends language law has (expected.Null left) = record { words = codes "null" ∷ []; accepted = refl }
ends language law has (expected.NotNull left) = record { words = codes "null" ∷ []; accepted = refl }
ends language law has expected.SummarizedIndex = record { words = codes "a" ∷ []; accepted = refl }
ends language law has expected.MayHaveBlock = record { words = []; accepted = refl }
ends language law has expected.DesummarizedIndex = record { words = codes "a" ∷ codes "0" ∷ []; accepted = refl }
ends language law has expected.Block = record { words = codes "0" ∷ []; accepted = refl }
ends language law has expected.VacuumedTable = record { words = codes "a" ∷ []; accepted = refl }

stop_here : (b : Bool) (len at : ℕ) → cond b None (Some len) ≡ Some at → (b ≡ false) × (at ≡ len)
stop_here true len at h = cc
stop_here false len at h = (refl, cc)

at_end : (language : List Verb) → ValueOfIsDenoted → HasStatements language → (len : ℕ) (next : Expected) (at : ℕ) → stop_from language len next [] ≡ Some at → Stops language len next [] at
at_end language law has len next at h =
    let s = stop_here (may_end next) len at h in record {
      number = 0;
      place = s.1;
      within = omega arith;
      ending = (ends language law has next).words;
      goes_on = (ends language law has next).accepted;
      stops = λ low more e. absurd (omega (arith, low));
      refused = λ e. false≢true (sym s.0 ∙ e);
    }

-- a word that may not stand there
at_word : (language : List Verb) → ValueOfIsDenoted → HasStatements language → (len : ℕ) (next : Expected) (word : PlacedWord) (words : List PlacedWord) (at : ℕ) → after_word language next word.text ≡ None → word.at ≡ at
    → Stops language len next (word ∷ words) at
at_word language law has len next word words at none e =
    let refuses : (more : List (List ℕ)) → accepts language next (word.text ∷ more) ≡ false = λ more. ap (λ (o : Option Expected). accepts_behind o (λ behind. accepts language behind more)) none in
    record {
      number = 0;
      place = sym e;
      within = omega arith;
      ending = (ends language law has next).words;
      goes_on = (ends language law has next).accepted;
      stops = λ low more h. false≢true (sym (refuses more) ∙ h);
      refused = λ h. false≢true (sym (refuses (texts_of words)) ∙ h);
    }

-- a word that may, and where those behind it stop
behind_word : (language : List Verb) → (len : ℕ) (next behind : Expected) (word : PlacedWord) (words : List PlacedWord) (at : ℕ) → after_word language next word.text ≡ Some behind
    → Stops language len behind words at → Stops language len next (word ∷ words) at
behind_word language len next behind word words at goes s =
    let same : (more : List (List ℕ)) → accepts language next (word.text ∷ more) ≡ accepts language behind more = λ more. ap (λ (o : Option Expected). accepts_behind o (λ b. accepts language b more)) goes in
    record {
      number = suc s.number;
      place = s.place;
      within = let h : s.number ≤ length words = s.within in omega arith;
      ending = s.ending;
      goes_on = same (take s.number (texts_of words) ++ s.ending) ∙ s.goes_on;
      stops = λ low more h.
          let below : s.number < length words = omega (arith, low) in
          let front : take (suc s.number + 1) (word.text ∷ texts_of words) ≡ word.text ∷ take (s.number + 1) (texts_of words) =
          ap (λ (n : ℕ). take n (word.text ∷ texts_of words)) (let k : suc s.number + 1 ≡ suc (s.number + 1) = omega arith in k) in
          s.stops below more (sym (same (take (s.number + 1) (texts_of words) ++ more)) ∙ ap (λ (l : List (List ℕ)). accepts language next (l ++ more)) (sym front) ∙ h);
      refused = λ h. s.refused (sym (same (texts_of words)) ∙ h);
    }

by_word : (language : List Verb) → ValueOfIsDenoted → HasStatements language → (len : ℕ) (next : Expected) (word : PlacedWord) (words : List PlacedWord) (at : ℕ) (o : Option Expected) → after_word language next word.text ≡ o
    → ((behind : Expected) → stop_from language len behind words ≡ Some at → Stops language len behind words at)
    → stop_behind o word.at (λ behind. stop_from language len behind words) ≡ Some at → Stops language len next (word ∷ words) at
by_word language law has len next word words at None goes ih h = at_word language law has len next word words at goes (let e : word.at ≡ at = cc in e)
by_word language law has len next word words at (Some behind) goes ih h = behind_word language len next behind word words at goes (ih behind h)

pub stops_at : (language : List Verb) → ValueOfIsDenoted → HasStatements language → (len : ℕ) (next : Expected) (words : List PlacedWord) (at : ℕ) → stop_from language len next words ≡ Some at → Stops language len next words at
stops_at language law has len next [] at h = at_end language law has len next at h
stops_at language law has len next (word ∷ words) at h =
    by_word language law has len next word words at (after_word language next word.text) refl (λ behind e. stops_at language law has len behind words at e) h
