-- The whole command line: clap's answer and the reading's.
use Rattle.std.proofs.Common.{◌≡◌, ◌∙◌, refl, sym, ap, ap₂, subst, List, [], ◌∷◌, ◌++◌, Bool, true, false, cond, not, ◌||◌, ◌&&◌, Option, Some, None, is_some, option_map, find, bytes_eq, map, inl, inr, append_assoc, append-nil, MatchOption, codes}
use Rattle.std.specs.List.{list_any, list_all}
use Rattle.std.specs.Prelude.{fold}
use Rattle.std.proofs.lemmas.Bool.{cases_Bool, and_parts, not-true}
use Rattle.clap.specs.Walk.{Walk, idle, Row, Rule, Names, walked, walk_from, walk, nothing_held, answers_to, rows_after, stop_after}
use Rattle.clap.specs.Simple.{App, Shape, built, built_leaf, inherited, marked_built, with_leaf_noted, filled_from, label_of, names_of, entered, subcommand_of, is_simple}
use Rattle.clap.specs.Faults.{fault_of, built_fault, level_fault, walk_fault, turn_fault, is_simple_and_free, defaults_fault}
use Rattle.clap.specs.Kinds.{Kinds, or_else}
use Rattle.clap.proofs.FaultLemmas.{stopped_fault}
use Rattle.clap.specs.declared.error.kind.ErrorKind.TheVariants.{MissingSubcommand}
use Rattle.command_line.specs.CommandWords.{Text, WordsSaid}
use Rattle.command_line.specs.ReadingOrder.{nothing_read, option_in}
use Rattle.command_line.specs.ClapReading.{is_end, clap_read, has_single_hyphen, has_no_single_hyphen}
use Rattle.command_line.specs.ClapRules.{declared_id, option_rule, rules, leaf, Agrees}
use Rattle.command_line.specs.ClapCommands.{Sub, entry, command_said, raw_rules, raw_leaf, top, raw_app, leaf_of, built_app, Enters, program_subs}
use Rattle.command_line.proofs.RowLemmas.{same_text}
use Rattle.command_line.proofs.TurnLemmas.{IsPlain, first_plain, rest_plain, not_single, leaf_agrees, or_nil, or_bad, some_or_none, no_short}
use Rattle.std.proofs.Math.Bool.{and-false}

-- ---- what building makes of the command

filled_is : (names : List Text) → filled_from 1 (raw_rules names) ≡ rules names
filled_is [] = refl
filled_is (n ∷ ns) = ap (λ (rs : List Rule). option_rule n ∷ rs) (filled_is ns)

abbrev noted : Text → Shape
noted name = with_leaf_noted (marked_built (top name))

leaf_is : (name : Text) (s : Sub) → built_leaf (inherited (noted name) (raw_leaf s)) ≡ leaf_of s
leaf_is name s = ap (λ (rs : List Rule). record (leaf s.0 []) { rules = rs }) (filled_is s.1)

leaves_are : (name : Text) (subs : List Sub) → map built_leaf (map (inherited (noted name)) (map raw_leaf subs)) ≡ map leaf_of subs
leaves_are name [] = refl
leaves_are name (s ∷ ss) = ap₂ (λ (x : Shape) (xs : List Shape). x ∷ xs) (leaf_is name s) (leaves_are name ss)

pub built_is : (name : Text) (subs : List Sub) → built (raw_app name subs) ≡ built_app name subs
built_is name subs = ap (λ (xs : List Shape). record (built_app name []) { subs = xs }) (leaves_are name subs)

-- ---- which subcommand a word names

names_found : (word : Text) (subs : List Sub) → find (answers_to word) (map label_of (map leaf_of subs)) ≡ option_map (λ s. (s.0, [])) (entry word subs)
names_found word [] = refl
names_found word (s ∷ ss) = go (bytes_eq s.0 word) (names_found word ss)
  where
    go : (b : Bool) → find (answers_to word) (map label_of (map leaf_of ss)) ≡ option_map (λ (q : Sub). (q.0, [])) (entry word ss)
        → cond (b || false) (Some (label_of (leaf_of s))) (find (answers_to word) (map label_of (map leaf_of ss))) ≡ option_map (λ (q : Sub). (q.0, [])) (cond b (Some s) (entry word ss))
    go true h = refl
    go false h = h

shape_found : (word : Text) (subs : List Sub) → find (λ x. answers_to word (label_of x)) (map leaf_of subs) ≡ option_map leaf_of (entry word subs)
shape_found word [] = refl
shape_found word (s ∷ ss) = go (bytes_eq s.0 word) (shape_found word ss)
  where
    go : (b : Bool) → find (λ x. answers_to word (label_of x)) (map leaf_of ss) ≡ option_map leaf_of (entry word ss)
        → cond (b || false) (Some (leaf_of s)) (find (λ x. answers_to word (label_of x)) (map leaf_of ss)) ≡ option_map leaf_of (cond b (Some s) (entry word ss))
    go true h = refl
    go false h = h

entry_named : (word : Text) (subs : List Sub) (s : Sub) → entry word subs ≡ Some s → s.0 ≡ word
entry_named word [] s e = cc
entry_named word (q ∷ qs) s e = elim (cases_Bool (bytes_eq q.0 word)) [
  | inl h ↦ let first : Some q ≡ Some s = rw h at e in let same : q ≡ s = cc in ap (λ (x : Sub). x.0) (sym same) ∙ same_text q.0 word h
  | inr h ↦ entry_named word qs s (rw h at e)
]

-- ---- the walk at the top

abbrev stopped_at : Text → List Text → Walk
stopped_at name words = record { held = nothing_held; waiting = idle; position = 1; is_trailing = false; stopped = Some (name, words) }

stopped_end : (c : List Rule) (names : Names) (name : Text) (seen words : List Text) → fold (walked c names) (stopped_at name seen) words ≡ stopped_at name (seen ++ words)
unfolding walked
stopped_end c names name seen [] = ap (λ (xs : List Text). stopped_at name xs) (sym (append-nil seen))
stopped_end c names name seen (w ∷ ws) = stopped_end c names name (seen ++ w ∷ []) ws ∙ ap (λ (xs : List Text). stopped_at name xs) (append_assoc seen (w ∷ []) ws)

named_turn : (name : Text) (subs : List Sub) (word : Text) (s : Sub) → entry word subs ≡ Some s
    → (turn_fault (built_app name subs).top (names_of (built_app name subs)) (walk_from nothing_held) word ≡ [])
    × (walked [] (names_of (built_app name subs)) (walk_from nothing_held) word ≡ stopped_at s.0 [])
unfolding walked
named_turn name subs word s e = (rw (names_found word subs, e, and-false) refl, rw (names_found word subs, e) refl)

named_walk : (name : Text) (subs : List Sub) (word : Text) (words : List Text) (s : Sub) → entry word subs ≡ Some s
    → (walk_fault (built_app name subs).top (names_of (built_app name subs)) (walk_from nothing_held) (word ∷ words) ≡ [])
    × (walk [] (names_of (built_app name subs)) nothing_held (word ∷ words) ≡ stopped_at s.0 words)
unfolding walk_fault
named_walk name subs word words s e =
    let t = named_turn name subs word s e in (
      rw (t.0, t.1) (stopped_fault (built_app name subs).top (names_of (built_app name subs)) (walk_from nothing_held) (s.0, []) words),
      rw t.1 (stopped_end [] (names_of (built_app name subs)) s.0 [] words),
    )

named_shape : (word : Text) (subs : List Sub) (s : Sub) → entry word subs ≡ Some s → find (λ x. answers_to s.0 (label_of x)) (map leaf_of subs) ≡ Some (leaf_of s)
named_shape word subs s e = ap (λ (x : Text). find (λ q. answers_to x (label_of q)) (map leaf_of subs)) (entry_named word subs s e) ∙ shape_found word subs ∙ ap (option_map leaf_of) e

pub named_fault : (name : Text) (subs : List Sub) (word : Text) (words : List Text) (s : Sub) → entry word subs ≡ Some s
    → fault_of (raw_app name subs) (word ∷ words) ≡ level_fault (leaf s.0 s.1) [] nothing_held words false []
unfolding defaults_fault
named_fault name subs word words s e =
    let w = named_walk name subs word words s e in
    ap (λ (a : App). built_fault a nothing_held (word ∷ words)) (built_is name subs) ∙ rw (w.0, w.1, named_shape word subs s e, or_nil) refl

abbrev built_rows : App → List Text → Option (Text × List Row)
built_rows a words = entered a (stop_after a.top.rules (names_of a) words)

pub named_rows : (name : Text) (subs : List Sub) (word : Text) (words : List Text) (s : Sub) → entry word subs ≡ Some s
    → subcommand_of (raw_app name subs) (word ∷ words) ≡ Some (s.0, rows_after (rules s.1) [] words)
named_rows name subs word words s e =
    let w = named_walk name subs word words s e in
    ap (λ (a : App). built_rows a (word ∷ words)) (built_is name subs) ∙ ap (λ (x : Walk). entered (built_app name subs) x.stopped) w.1 ∙ rw (named_shape word subs s e) refl

-- ---- words that name no subcommand

abbrev over_top : Walk
over_top = record { held = nothing_held; waiting = idle; position = 1; is_trailing = true; stopped = None }

over_bad : (name : Text) (subs : List Sub) (words : List Text) → or_else (walk_fault (built_app name subs).top (names_of (built_app name subs)) over_top words)
    (cond (is_some (fold (walked [] (names_of (built_app name subs))) over_top words).stopped) [] (MissingSubcommand ∷ [])) ≡ [] → ⊥
unfolding walk_fault
over_bad name subs [] e = cc
over_bad name subs (word ∷ words) e = cc

none_turn : (name : Text) (subs : List Sub) (word : Text) → entry word subs ≡ None → has_single_hyphen word ≡ false → is_end word ≡ false
    → turn_fault (built_app name subs).top (names_of (built_app name subs)) (walk_from nothing_held) word ≡ [] → ⊥
none_turn name subs word e n end = elim (some_or_none (option_in word)) [
  | inl f ↦ rw (names_found word subs, e, end, f.1) (λ x. cc)
  | inr o ↦ rw (names_found word subs, e, end, o, no_short word n) (λ x. cc)
]

empty_fault : (name : Text) (subs : List Sub) → fault_of (raw_app name subs) [] ≡ MissingSubcommand ∷ []
unfolding walk_fault defaults_fault
empty_fault name subs = refl

dash_turn : (name : Text) (subs : List Sub) (word : Text) → entry word subs ≡ None → is_end word ≡ true
    → (turn_fault (built_app name subs).top (names_of (built_app name subs)) (walk_from nothing_held) word ≡ [])
    × (walked [] (names_of (built_app name subs)) (walk_from nothing_held) word ≡ over_top)
unfolding walked
dash_turn name subs word e end = (rw (names_found word subs, e, end) refl, rw (names_found word subs, e, end) refl)

dash_bad : (name : Text) (subs : List Sub) (word : Text) (words : List Text) → entry word subs ≡ None → is_end word ≡ true → built_fault (built_app name subs) nothing_held (word ∷ words) ≡ [] → ⊥
unfolding walk_fault defaults_fault
dash_bad name subs word [] e end = let t = dash_turn name subs word e end in rw (t.0, t.1) (λ x. cc)
dash_bad name subs word (v ∷ vs) e end = let t = dash_turn name subs word e end in rw (t.0, t.1) (λ x. cc)

none_fault : (name : Text) (subs : List Sub) (word : Text) (words : List Text) → entry word subs ≡ None → IsPlain false word → fault_of (raw_app name subs) (word ∷ words) ≡ [] → ⊥
unfolding walk_fault
none_fault name subs word words e n bad =
    let now : built_fault (built_app name subs) nothing_held (word ∷ words) ≡ [] = ap (λ (a : App). built_fault a nothing_held (word ∷ words)) (sym (built_is name subs)) ∙ bad in
    elim (cases_Bool (is_end word)) [
      | inr end ↦ or_bad _ _ (or_bad _ _ (none_turn name subs word e (not_single _ _ end n) end)) now
      | inl end ↦ dash_bad name subs word words e end now
    ]

-- ---- the whole command line

-- no option has clap's own word for the declared words, and no command is `--`
abbrev pub has_names : Sub → Bool
has_names s = not (list_any (λ n. bytes_eq n declared_id) s.1) && not (is_end s.0)

named_has : (word : Text) (subs : List Sub) (s : Sub) → entry word subs ≡ Some s → list_all has_names subs ≡ true → has_names s ≡ true
named_has word [] s e ok = cc
named_has word (q ∷ qs) s e ok =
    let parts : (has_names q ≡ true) × (list_all has_names qs ≡ true) = and_parts _ _ ok in
    elim (cases_Bool (bytes_eq q.0 word)) [
      | inl h ↦ let first : Some q ≡ Some s = rw h at e in let same : q ≡ s = cc in subst (λ (x : Sub). has_names x ≡ true) same parts.0
      | inr h ↦ named_has word qs s (rw h at e) parts.1
    ]

named_apart : (word : Text) (subs : List Sub) (s : Sub) → entry word subs ≡ Some s → list_all has_names subs ≡ true → list_any (λ n. bytes_eq n declared_id) s.1 ≡ false
named_apart word subs s e named = not-true _ (and_parts _ (not (is_end s.0)) (named_has word subs s e named)).0

named_plain : (word : Text) (words : List Text) (subs : List Sub) (s : Sub) → entry word subs ≡ Some s → list_all has_names subs ≡ true → has_no_single_hyphen (word ∷ words) ≡ true
    → has_no_single_hyphen words ≡ true
named_plain word words subs s e named ok =
    let goes_on : is_end word ≡ false = ap is_end (sym (entry_named word subs s e)) ∙ not-true _ (and_parts (not (list_any (λ n. bytes_eq n declared_id) s.1)) (not (is_end s.0)) (named_has word subs s e named)).1 in
    rest_plain false (is_end word) (has_single_hyphen word) (has_no_single_hyphen words) false ok (sym goes_on)

-- clap refuses exactly the words that the reading refuses, and else its matches hold what they say
pub clap_agrees : (name : Text) (subs : List Sub) (words : List Text) → list_all has_names subs ≡ true → has_no_single_hyphen words ≡ true
    → MatchOption (command_said subs words) (fault_of (raw_app name subs) words ≡ [] → ⊥)
    (λ said. (fault_of (raw_app name subs) words ≡ []) × Enters (subcommand_of (raw_app name subs) words) said)
clap_agrees name subs [] named ok = rw (empty_fault name subs) (λ x. cc)
clap_agrees name subs (word ∷ words) named ok =
    elim (some_or_none (entry word subs)) [
      | inr e ↦ rw e (none_fault name subs word words e (first_plain false (is_end word) (has_single_hyphen word) (has_no_single_hyphen words) ok))
      | inl f ↦ rw (f.1, named_fault name subs word words f.0 f.1) (go f.0.0 (clap_read f.0.1 nothing_read words) (level_fault (leaf f.0.0 f.0.1) [] nothing_held words false []) (rows_after (rules f.0.1) [] words)
          (subcommand_of (raw_app name subs) (word ∷ words)) (named_rows name subs word words f.0 f.1) (leaf_agrees f.0.0 f.0.1 words (named_apart word subs f.0 f.1 named) (named_plain word words subs f.0 f.1 named ok)))
    ]
  where
    go : (n : Text) (said : Option WordsSaid) (fault : Kinds) (rows : List Row) (entered : Option (Text × List Row)) → entered ≡ Some (n, rows) → Agrees fault rows said
        → MatchOption (option_map (λ x. (n, x)) said) (fault ≡ [] → ⊥) (λ x. (fault ≡ []) × Enters entered x)
    go n None fault rows entered e a = a
    go n (Some x) fault rows entered e a = (a.0, (rows, e, a.1))

pub program_simple : is_simple_and_free (raw_app (codes "brin") program_subs) ≡ true
program_simple = refl

pub program_is_simple : is_simple (raw_app (codes "brin") program_subs) ≡ true
program_is_simple = refl

pub program_named : list_all has_names program_subs ≡ true
program_named = refl
