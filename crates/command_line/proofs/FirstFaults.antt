-- Words go wrong first at one place.
use Rattle.std.proofs.Common.{◌≡◌, ℕ, ◌<◌, ◌⊎◌, inl, inr, Bool, List, [], length, take, get_or, min, Result, Ok, Err, sym, subst, arith, length-take}
use Rattle.std.proofs.lemmas.Bool.{cases_order}
use Rattle.std.proofs.lemmas.List.{take-take, get_or-take}
use Rattle.block_model.specs.declared.schema.Schema.{Schema}
use Rattle.value_text.proofs.Stopping.{stops_once}
use Rattle.command_line.specs.DeclarationTexts.{bytes_of, IsDeclaration}
use Rattle.command_line.specs.DeclaredSchema.{Declares, DenotesWith, nothing_declared}
use Rattle.command_line.specs.FirstFault.{IsFaulty, IsFirstFault}
use Rattle.command_line.proofs.DeclaredLemmas.{declares_one, words_one, split, faulty_declares_nothing}

abbrev Made : Type 0
Made = Result Schema ℕ

abbrev as_fault : ℕ → Made
as_fault at = Err at

faulty_once : (autos : Bool) (s : Schema) (bytes : List ℕ) (at place : ℕ) → IsFaulty autos s bytes at → IsFaulty autos s bytes place → at ≡ place
faulty_once autos s bytes at place (inl a) (inl b) = stops_once bytes_of (IsDeclaration autos) bytes at place a b
faulty_once autos s bytes at place (inl a) (inr b) = absurd (a.refused b.text b.of_grammar b.bytes_are)
faulty_once autos s bytes at place (inr a) (inl b) = absurd (b.refused a.text a.of_grammar a.bytes_are)
faulty_once autos s bytes at place (inr a) (inr b) = let k : as_fault at ≡ as_fault place = declares_one autos bytes s (Err at) (Err place) a b in cc

module _ (autos : Bool) (words : List (List ℕ)) where
  -- the words before a first fault are declarations
  none_earlier : (word at other place : ℕ) → IsFirstFault autos words word at → IsFirstFault autos words other place → word < other → ⊥
  none_earlier word at other place f g below =
      let size : length (take other words) ≡ min other (length words) = length-take other words in
      let r = split autos word (take other words) nothing_declared g.before (omega (arith, size, g.within)) g.declared in
      let front = subst (λ (l : List (List ℕ)). DenotesWith autos l r.before) (take-take word other words (omega arith)) r.front in
      let before : r.before ≡ f.before = words_one autos (take word words) nothing_declared r.before f.before front f.declared in
      let here = subst (λ (b : List ℕ). Declares autos b r.before (Ok r.after)) (get_or-take other words word [] below) r.here in
      faulty_declares_nothing autos f.before (get_or words word []) at f.faulty r.after (subst (λ (s : Schema). Declares autos (get_or words word []) s (Ok r.after)) before here)

  same_word : (word at place : ℕ) → IsFirstFault autos words word at → IsFirstFault autos words word place → at ≡ place
  same_word word at place f g =
      let before : g.before ≡ f.before = words_one autos (take word words) nothing_declared g.before f.before g.declared f.declared in
      faulty_once autos f.before (get_or words word []) at place f.faulty (subst (λ (s : Schema). IsFaulty autos s (get_or words word []) place) before g.faulty)

  once_step : (word at other place : ℕ) → IsFirstFault autos words word at → IsFirstFault autos words other place → (word ≡ other) ⊎ ((word < other) ⊎ (other < word)) → (word ≡ other) × (at ≡ place)
  once_step word at other place f g (inl e) = (e, same_word word at place f (subst (λ n. IsFirstFault autos words n place) (sym e) g))
  once_step word at other place f g (inr (inl below)) = absurd (none_earlier word at other place f g below)
  once_step word at other place f g (inr (inr below)) = absurd (none_earlier other place word at g f below)

  pub first_fault_once : (word at other place : ℕ) → IsFirstFault autos words word at → IsFirstFault autos words other place → (word ≡ other) × (at ≡ place)
  first_fault_once word at other place f g = once_step word at other place f g (cases_order word other)
