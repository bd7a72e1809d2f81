-- clap's clauses give the reading's answer.
use Rattle.std.proofs.Common.{◌≡◌, ◌∙◌, ◌↔◌, refl, sym, ap, subst, List, [], Bool, true, false, true≢false, not, is_some, Option, Some, None, inl, inr, MatchOption, codes, ◌∷◌, find, bytes_eq, option_map, option_and_then, slice_get}
use Rattle.clap.specs.Words.{App, HasMatchesOf, subcommand_rows_of, subcommand_of, is_simple, kind_of, is_simple_and_free, fault_of}
use Rattle.clap.specs.Kinds.{Kinds, HasKind}
use Rattle.clap.specs.declared.parser.matches.ArgMatches.{ArgMatches}
use Rattle.clap.specs.declared.error.Error.{Error}
use Rattle.clap.specs.declared.error.kind.ErrorKind.TheVariants.{OutOfMemory}
use Rattle.command_line.specs.CommandWords.{Text, WordsSaid, value_of}
use Rattle.command_line.specs.ClapCommands.{raw_app, program_subs, command_said, Enters}
use Rattle.command_line.specs.ClapReading.{has_no_single_hyphen}
use Rattle.command_line.proofs.CommandLemmas.{clap_agrees, program_simple, program_is_simple, program_named}
use Rattle.clap.specs.Walk.{Row, first_of, all_of}
use Rattle.clap.specs.Words.{rows_of, first_value, matched_of, raw_values}
use Rattle.clap.specs.declared.parser.matches.Found.{Found}
use Rattle.clap.proofs.WalkLemmas.{first_value-rows, raw_values-rows}
use Rattle.command_line.specs.ClapRules.{RowsShow, shown, declared_id}

abbrev brin : App
brin = raw_app (codes "brin") program_subs

said_at : (o : Option (Text × WordsSaid)) (fault : Kinds) (entered : Option (Text × List Row)) → MatchOption o (fault ≡ [] → ⊥) (λ s. (fault ≡ []) × Enters entered s) → fault ≡ []
    → (said : Text × WordsSaid) × (o ≡ Some said) × Enters entered said
said_at None fault entered h e = absurd (h e)
said_at (Some s) fault entered h e = (s, refl, h.1)

none_at : (o : Option (Text × WordsSaid)) (fault : Kinds) (entered : Option (Text × List Row)) → MatchOption o (fault ≡ [] → ⊥) (λ s. (fault ≡ []) × Enters entered s) → (fault ≡ [] → ⊥) → o ≡ None
none_at None fault entered h e = refl
none_at (Some s) fault entered h e = absurd (e h.0)

pub agreed_ok : (a : App) (words : List Text) (m : ArgMatches) → a ≡ brin → has_no_single_hyphen words ≡ true → (is_simple_and_free a ≡ true → fault_of a words ≡ []) → HasMatchesOf a words m
    → (said : Text × WordsSaid) × (command_said program_subs words ≡ Some said) × Enters (subcommand_rows_of m) said
agreed_ok a words m is ok kinds matches =
    let none : fault_of brin words ≡ [] = ap (λ (x : App). fault_of x words) (sym is) ∙ kinds (ap is_simple_and_free is ∙ program_simple) in
    let rows : subcommand_rows_of m ≡ subcommand_of brin words = (matches (ap is_simple is ∙ program_is_simple)).1 ∙ ap (λ (x : App). subcommand_of x words) is in
    let got = said_at (command_said program_subs words) (fault_of brin words) (subcommand_of brin words) (clap_agrees (codes "brin") program_subs words program_named ok) none in
    (got.0, got.1, (got.2.0, rows ∙ got.2.1, got.2.2))

pub agreed_err : (a : App) (words : List Text) (e : Error) → a ≡ brin → has_no_single_hyphen words ≡ true → (is_simple_and_free a ≡ true → HasKind (fault_of a words) e) → (kind_of e ≡ OutOfMemory → ⊥)
    → command_said program_subs words ≡ None
agreed_err a words e is ok kinds other =
    let kind : HasKind (fault_of brin words) e = subst (λ (x : App). HasKind (fault_of x words) e) is (kinds (ap is_simple_and_free is ∙ program_simple)) in
    none_at (command_said program_subs words) (fault_of brin words) (subcommand_of brin words) (clap_agrees (codes "brin") program_subs words program_named ok)
    (λ none. elim (subst (λ (k : Kinds). HasKind k e) none kind) [ inl h ↦ other h | inr h ↦ h ])

-- ---- what the getters give

first_from : (o : Option (List Text)) (v : Option Text) → o ≡ option_map (λ x. x ∷ []) v → option_and_then (λ xs. slice_get xs 0) o ≡ v
first_from o None e = rw e refl
first_from o (Some v) e = rw e refl

first_is : (id : Text) (rows : List Row) → first_of id rows ≡ option_and_then (λ xs. slice_get xs 0) (all_of id rows)
first_is id rows = go (find (λ (r : Row). bytes_eq r.id id) rows)
  where
    go : (o : Option Row) → option_and_then (λ (r : Row). slice_get r.values 0) o ≡ option_and_then (λ xs. slice_get xs 0) (option_map (λ (r : Row). r.values) o)
    go None = refl
    go (Some r) = refl

pub value_shown : (f : Found) (said : WordsSaid) (name : Text) → RowsShow (rows_of f) said → bytes_eq declared_id name ≡ false → first_value f name ≡ value_of name said.values
value_shown f said name s ne = first_value-rows f name ∙ first_is name (rows_of f) ∙ first_from _ _ (s.value name ne)

pub declared_shown : (f : Found) (said : WordsSaid) → RowsShow (rows_of f) said → option_map raw_values (matched_of f declared_id) ≡ shown said.declared
declared_shown f said s = raw_values-rows f declared_id ∙ s.declared

pub shown_some : (d xs : List Text) → Some xs ≡ shown d → xs ≡ d
shown_some [] xs e = cc
shown_some (y ∷ ys) xs e = cc

pub shown_none : (d : List Text) → None ≡ shown d → [] ≡ d
shown_none [] e = refl
shown_none (y ∷ ys) e = cc

pub shown_nothing : {X : Type 0} (r : Bool) (o : Option X) (texts : X → List Text) (d : List Text) → not r ≡ is_some o → option_map texts o ≡ shown d → (r ≡ true) ↔ (d ≡ [])
shown_nothing true None texts [] n e = (λ h. refl, λ h. refl)
shown_nothing true None texts (y ∷ ys) n e = cc
shown_nothing true (Some x) texts d n e = absurd (true≢false (sym n))
shown_nothing false None texts d n e = absurd (true≢false n)
shown_nothing false (Some x) texts [] n e = cc
shown_nothing false (Some x) texts (y ∷ ys) n e = (λ h. cc, λ h. cc)
