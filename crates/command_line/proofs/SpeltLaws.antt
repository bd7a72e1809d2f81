-- Commands are what their words spell, and the laws of commands.
use Rattle.std.proofs.Common.{◌≡◌, ◌≢◌, ◌↔◌, ◌⊎◌, ◌∙◌, refl, sym, ap, ap₂, subst, List, [], ◌∷◌, ◌++◌, length, Bool, true, false, Option, Some, None, option_and_then, unwrap_or, bytes_eq, ℕ, zero, suc, ◌<◌, ◌≤◌, nat_lt, nat_le, true≢false, inl, inr, codes, arith, append-nil, ◌||◌}
use Rattle.std.specs.Prelude.{slice_index_or, Result, Ok, Err, IfOk, IfErr}
use Rattle.std.specs.List.{list_all, list_any, flat_map, All, AllByRecursion, AllPairs, Contains}
use Rattle.std.specs.Str.{is_utf8}
use Rattle.std.proofs.lemmas.Bool.{cases_Bool, and_parts, and_from, leb-true, lt-ltb, cond-true}
use Rattle.std.proofs.lemmas.List.Elements.{All-contains, recursion_from_All, Contains-append_right}
use Rattle.std.proofs.lemmas.List.Folds.{list_all-append}
use Rattle.block_model.specs.Names.{is_digit}
use Rattle.block_model.specs.declared.schema.Sizes.{Sizes}
use Rattle.command_line.specs.declared.command.Command.{Command}
use Rattle.command_line.specs.declared.command.Command.TheVariants.{Init, Run, RunStored, Threads, ThreadsStored, Demo}
use Rattle.command_line.specs.declared.command.CommandFault.{CommandFault}
use Rattle.command_line.specs.declared.command.CommandFault.TheVariants.{Usage}
use Rattle.command_line.specs.CommandWords.{Text, Item, InOneWord, InTwoWords, Declared, words_of, IsItem, option_of, declared_of, end_words, spelling, WordsSaid, said_by, AreSpelt, is_number, number_of, value_of, is_any_given, demo_options, CommandForm, init_form, run_form, threads_form, demo_form, commands, IsCommand, IsOnlyCommand}
use Rattle.command_line.specs.ReadingOrder.{nothing_read, read_words, form_named, command_in, command_of}
use Rattle.command_line.specs.Laws.{WordsAreOneCommand, OrderSaysNothing, option_words, OptionStandsOnce, OptionsStandOnce, OptionHasItsNumber, IsDeclaredLast, HasDefaults, IsBareWord, StoredRunIsBare, StoredThreadsAreBare, AreDemoNumbers, DemosHaveLimits}
use Rattle.command_line.proofs.RowLemmas.{text_is, same_text}
use Rattle.command_line.proofs.TurnLemmas.{some_or_none}
use Rattle.command_line.proofs.JudgedLemmas.{form_has_word}
use Rattle.command_line.proofs.LawLemmas.{IsOption, GivesNumber, command_at, form_parts, read_once, read_as_number, read_last, read_alone}
use Rattle.command_line.proofs.Spelling.{Differ, pairs_head, pairs_tail, other_text, spelt_is_read, read_is_spelt}
use Rattle.command_line.proofs.FormLemmas.{init_known, run_known, threads_known, demo_known, found_known, is_named, IsAsciiText, ascii_is_utf8, word_is_utf8, are_names, are_ascii, values_by, by_values, numbers_demo, is_within, is_given, IsLonger, IsBare, StoredIsBare, stored_run_bare, stored_threads_bare}

-- ---- a command is what its words spell

pub command_is : (words : List Text) (command : Command) → IsCommand words command → command_of words ≡ Some command
command_is words command is =
    let whole : command_of words ≡ command_of (is.form.word ∷ is.behind) = ap command_of is.whole in
    let texts : list_all is_utf8 (is.form.word ∷ is.behind) ≡ true = ap (list_all is_utf8) (sym is.whole) ∙ is.texts in
    whole ∙ command_at is.form (is_named is.form is.known) is.behind
    ∙ cond-true (list_all is_utf8 (is.form.word ∷ is.behind)) (option_and_then is.form.meaning (read_words is.form.options nothing_read is.behind)) None texts
    ∙ ap (option_and_then is.form.meaning) (spelt_is_read is.form.options is.behind is.said (are_names is.form is.known) is.spelt) ∙ is.meaning

pub is_command : (words : List Text) (command : Command) → command_of words ≡ Some command → IsCommand words command
is_command words command e = elim (cases_Bool (list_all is_utf8 words)) [
  | inr h ↦ let bad : None ≡ Some command = rw h at e in cc
  | inl texts ↦ go words texts (sym (cond-true (list_all is_utf8 words) (command_in words) None texts) ∙ e)
]
  where
    named : (w : Text) (ws : List Text) → list_all is_utf8 (w ∷ ws) ≡ true → (form : CommandForm) → form_named w ≡ Some form → (o : Option WordsSaid) → read_words form.options nothing_read ws ≡ o
        → option_and_then form.meaning o ≡ Some command → IsCommand (w ∷ ws) command
    named w ws texts form f None r m = cc
    named w ws texts form f (Some said) r m = record {
      form = form;
      known = found_known w commands form f;
      behind = ws;
      whole = ap (λ (x : Text). x ∷ ws) (sym (form_has_word w commands form f));
      texts = texts;
      said = said;
      spelt = read_is_spelt form.options ws said r;
      meaning = m;
    }

    at : (w : Text) (ws : List Text) → list_all is_utf8 (w ∷ ws) ≡ true → (o : Option CommandForm) → form_named w ≡ o
        → option_and_then (λ (form : CommandForm). option_and_then form.meaning (read_words form.options nothing_read ws)) o ≡ Some command → IsCommand (w ∷ ws) command
    at w ws texts None f e = cc
    at w ws texts (Some form) f e = named w ws texts form f (read_words form.options nothing_read ws) refl e

    go : (words : List Text) → list_all is_utf8 words ≡ true → command_in words ≡ Some command → IsCommand words command
    go [] texts e = cc
    go (w ∷ ws) texts e = at w ws texts (form_named w) refl e

pub words_are_one_command : WordsAreOneCommand
words_are_one_command = λ words first second a b. ap (λ (o : Option Command). unwrap_or o first) (sym (command_is words first a) ∙ command_is words second b)

-- ---- what is answered

pub ok_spelt : (words : List Text) (result : Result Command CommandFault) → IfOk result (λ command. command_of words ≡ Some command) → IfOk result (IsOnlyCommand words)
ok_spelt words (Ok command) e = record { is = is_command words command e; alone = λ other is. words_are_one_command words other command is (is_command words command e) }
ok_spelt words (Err fault) e = tt

pub usage_unspelt : (words : List Text) (result : Result Command CommandFault) → IfErr result (λ fault. fault ≡ Usage → command_of words ≡ None)
    → IfErr result (λ fault. fault ≡ Usage → (command : Command) → IsCommand words command → ⊥)
usage_unspelt words (Ok command) none = tt
usage_unspelt words (Err fault) none = λ is command spelt. let bad : None ≡ Some command = sym (none is) ∙ command_is words command spelt in cc

-- ---- the laws of what is read

pub stands_once : OptionsStandOnce
stands_once form known = λ k d l. each (slice_index_or form.options k d) (are_names form known k d l)
  where
    each : (name : Text) → IsOption form.options name → OptionStandsOnce form.word name
    each name o = λ a b v w before between after free free_between command is.
        let bad : None ≡ Some command = sym (read_once form (is_named form known) name o a b v w before between after free free_between) ∙ command_is _ command is in cc

pub has_number : (form : CommandForm) → Contains commands form → (name : Text) → IsOption form.options name → (number : Command → Option ℕ) → GivesNumber form name number
    → OptionHasItsNumber form.word name number
has_number form known name o number gives = λ a digits before after command free is.
    read_as_number form (is_named form known) name o number gives a digits before after command free (command_is _ command is)

pub declared_last : (made : Sizes → List Text → Command) → ((form : CommandForm) → Contains commands form → IsLonger made form) → IsDeclaredLast made
declared_last made longer = λ words word sizes declared is utf8 plain.
    let read : read_words is.form.options nothing_read is.behind ≡ Some is.said = spelt_is_read is.form.options is.behind is.said (are_names is.form is.known) is.spelt in
    record {
      form = is.form;
      known = is.known;
      behind = is.behind ++ word ∷ [];
      whole = ap (λ (ws : List Text). ws ++ word ∷ []) is.whole;
      texts = list_all-append is_utf8 words (word ∷ []) ∙ and_from _ _ is.texts (and_from _ _ utf8 refl);
      said = record { values = is.said.values; declared = is.said.declared ++ word ∷ [] };
      spelt = read_is_spelt is.form.options (is.behind ++ word ∷ []) _ (read_last is.form.options nothing_read is.behind word is.said read plain);
      meaning = longer is.form is.known is.said word sizes declared is.meaning;
    }

pub init_defaults : HasDefaults (codes "init") Init
init_defaults = λ word utf8 plain. record {
  form = init_form;
  known = init_known;
  behind = word ∷ [];
  whole = refl;
  texts = and_from _ _ (word_is_utf8 init_form init_known) (and_from _ _ utf8 refl);
  said = record { values = []; declared = word ∷ [] };
  spelt = read_is_spelt init_form.options (word ∷ []) _ (read_alone init_form.options word plain);
  meaning = refl;
}

pub run_defaults : HasDefaults (codes "run") Run
run_defaults = λ word utf8 plain. record {
  form = run_form;
  known = run_known;
  behind = word ∷ [];
  whole = refl;
  texts = and_from _ _ (word_is_utf8 run_form run_known) (and_from _ _ utf8 refl);
  said = record { values = []; declared = word ∷ [] };
  spelt = read_is_spelt run_form.options (word ∷ []) _ (read_alone run_form.options word plain);
  meaning = refl;
}

pub threads_defaults : HasDefaults (codes "threads") Threads
threads_defaults = λ word utf8 plain. record {
  form = threads_form;
  known = threads_known;
  behind = word ∷ [];
  whole = refl;
  texts = and_from _ _ (word_is_utf8 threads_form threads_known) (and_from _ _ utf8 refl);
  said = record { values = []; declared = word ∷ [] };
  spelt = read_is_spelt threads_form.options (word ∷ []) _ (read_alone threads_form.options word plain);
  meaning = refl;
}

-- ---- options in another order

value_there : (name number : Text) (options : List (Text × Text)) → AllPairs Differ options → (k : ℕ) → k < length options → slice_index_or options k (name, number) ≡ (name, number) → value_of name options ≡ Some number
value_there name number [] apart k l e = absurd (omega arith)
value_there name number (p ∷ ps) apart zero l e =
    let named : bytes_eq p.0 name ≡ true = ap (λ (q : Text × Text). bytes_eq q.0 name) e ∙ text_is name in
    rw named (ap (λ (q : Text × Text). Some q.1) e)
value_there name number (p ∷ ps) apart (suc k) l e =
    let ne : p.0 ≢ name = All-contains (Differ p) ps (name, number) (pairs_head Differ p ps apart) (k, (omega arith), e) in
    rw (other_text p.0 name ne) (value_there name number ps (pairs_tail Differ p ps apart) k (omega arith) e)

value_is : (name number : Text) (options : List (Text × Text)) → AllPairs Differ options → Contains options (name, number) → value_of name options ≡ Some number
value_is name number options apart has = value_there name number options apart has.0 has.1 has.2

value_from : (name number : Text) (options : List (Text × Text)) → value_of name options ≡ Some number → Contains options (name, number)
value_from name number [] e = cc
value_from name number (p ∷ ps) e = elim (cases_Bool (bytes_eq p.0 name)) [
  | inl h ↦
      let is : Some p.1 ≡ Some number = rw h at e in
      let pair : Text → Text → Text × Text = λ n v. (n, v) in
      (zero, (omega arith), ap₂ pair (same_text p.0 name h) (ap (λ (o : Option Text). unwrap_or o number) is))
  | inr h ↦ let later : value_of name ps ≡ Some number = rw h at e in Contains-append_right (p ∷ []) ps (name, number) (value_from name number ps later)
]

same_values : (these those : List (Text × Text)) → AllPairs Differ these → AllPairs Differ those → ((option : Text × Text) → Contains these option ↔ Contains those option) → (name : Text) → value_of name these ≡ value_of name those
same_values these those apart apart_too alike name = elim (some_or_none (value_of name these)) [
  | inl f ↦ f.1 ∙ sym (value_is name f.0 those apart_too ((alike (name, f.0)).0 (value_from name f.0 these f.1)))
  | inr n ↦ elim (some_or_none (value_of name those)) [
    | inr m ↦ n ∙ sym m
    | inl g ↦ let bad : None ≡ Some g.0 = sym n ∙ value_is name g.0 these apart ((alike (name, g.0)).1 (value_from name g.0 those g.1)) in cc
  ]
]

same_by : (these those : List (Text × Text)) → AllPairs Differ these → AllPairs Differ those → ((option : Text × Text) → Contains these option ↔ Contains those option) → values_by these ≡ values_by those
same_by these those apart apart_too alike = λ i name. same_values these those apart apart_too alike name i

-- ---- their words are UTF-8

both_ascii : (a b : Text) → IsAsciiText a → IsAsciiText b → IsAsciiText (a ++ b)
both_ascii a b x y = list_all-append (λ (c : ℕ). nat_lt c 128) a b ∙ and_from _ _ x y

digit_is_ascii : (c : ℕ) → is_digit c ≡ true → nat_lt c 128 ≡ true
digit_is_ascii c e = let below : c ≤ 57 = leb-true c 57 (and_parts (nat_le 48 c) (nat_le c 57) e).1 in lt-ltb c 128 (omega arith)

digits_are_ascii : (digits : Text) → list_all is_digit digits ≡ true → IsAsciiText digits
digits_are_ascii [] e = refl
digits_are_ascii (c ∷ cs) e = and_from _ _ (digit_is_ascii c (and_parts (is_digit c) (list_all is_digit cs) e).0) (digits_are_ascii cs (and_parts (is_digit c) (list_all is_digit cs) e).1)

number_is_ascii : (number : Text) → is_number number ≡ true → IsAsciiText number
number_is_ascii [] e = absurd (true≢false (sym e))
number_is_ascii (c ∷ cs) e = digits_are_ascii (c ∷ cs) e

declared_texts : (items : List Item) → list_all is_utf8 (flat_map words_of items) ≡ true → list_all is_utf8 (flat_map declared_of items) ≡ true
declared_texts [] e = refl
declared_texts (InOneWord name number ∷ items) e = declared_texts items (and_parts _ _ e).1
declared_texts (InTwoWords name number ∷ items) e = declared_texts items (and_parts _ _ (and_parts _ _ e).1).1
declared_texts (Declared word ∷ items) e = and_from _ _ (and_parts _ _ e).0 (declared_texts items (and_parts _ _ e).1)

option_texts : (name number : Text) → IsAsciiText name → is_number number ≡ true
    → (is_utf8 (codes "--" ++ name ++ codes "=" ++ number) ≡ true) × (is_utf8 (codes "--" ++ name) ≡ true) × (is_utf8 number ≡ true)
option_texts name number named digits =
    let option : IsAsciiText (codes "--" ++ name) = both_ascii (codes "--") name refl named in (
      ascii_is_utf8 (codes "--" ++ name ++ codes "=" ++ number) (both_ascii (codes "--" ++ name ++ codes "=") number (both_ascii (codes "--" ++ name) (codes "=") option refl) (number_is_ascii number digits)),
      ascii_is_utf8 (codes "--" ++ name) option,
      ascii_is_utf8 number (number_is_ascii number digits),
    )

item_texts : (names : List Text) → All IsAsciiText names → (items : List Item) → AllByRecursion (IsItem names) items → list_all is_utf8 (flat_map declared_of items) ≡ true → list_all is_utf8 (flat_map words_of items) ≡ true
item_texts names ascii [] each e = refl
item_texts names ascii (InOneWord name number ∷ items) each e =
    and_from _ _ (option_texts name number (All-contains IsAsciiText names name ascii each.0.0) each.0.1).0 (item_texts names ascii items each.1 e)
item_texts names ascii (InTwoWords name number ∷ items) each e =
    let texts = option_texts name number (All-contains IsAsciiText names name ascii each.0.0) each.0.1 in
    and_from _ _ texts.1 (and_from _ _ texts.2 (item_texts names ascii items each.1 e))
item_texts names ascii (Declared word ∷ items) each e = and_from _ _ (and_parts _ _ e).0 (item_texts names ascii items each.1 (and_parts _ _ e).1)

pub order_says_nothing : OrderSaysNothing
order_says_nothing = λ form known items others last command are are_too alike declared is.
    let texts : list_all is_utf8 (form.word ∷ spelling items last) ≡ true = is.texts in
    let parts : (list_all is_utf8 (flat_map words_of items) ≡ true) × (list_all is_utf8 (end_words last) ≡ true) =
    and_parts _ _ (sym (list_all-append is_utf8 (flat_map words_of items) (end_words last)) ∙ (and_parts _ _ texts).1) in
    let first : list_all is_utf8 (flat_map words_of others) ≡ true =
    item_texts form.options (are_ascii form known) others (recursion_from_All (IsItem form.options) others are_too.each) (ap (list_all is_utf8) (sym declared) ∙ declared_texts items parts.0) in
    let one : AreSpelt form.options (spelling items last) (said_by items last) = record { items = items; last = last; are_items = are; spelt = refl; say = refl } in
    let read : read_words form.options nothing_read (spelling items last) ≡ Some (said_by items last) = spelt_is_read form.options (spelling items last) (said_by items last) (are_names form known) one in
    let found = form_parts form (is_named form known) (spelling items last) command (command_is _ command is) in
    let said : found.0 ≡ said_by items last = ap (λ (o : Option WordsSaid). unwrap_or o found.0) (sym found.1 ∙ read) in
    let whole : form.meaning (said_by items last) ≡ Some command = ap form.meaning (sym said) ∙ found.2 in
    record {
      form = form;
      known = known;
      behind = spelling others last;
      whole = refl;
      texts = and_from _ _ (word_is_utf8 form known) (list_all-append is_utf8 (flat_map words_of others) (end_words last) ∙ and_from _ _ first parts.1);
      said = said_by others last;
      spelt = record { items = others; last = last; are_items = are_too; spelt = refl; say = refl };
      meaning =
          by_values form known (said_by others last) (said_by items last) (sym (same_by (flat_map option_of items) (flat_map option_of others) are.once are_too.once alike))
          (ap (λ (d : List Text). d ++ unwrap_or last []) (sym declared)) ∙ whole;
    }

-- ---- a command over the store that stands there

first_value : (name number : Text) (options : List (Text × Text)) → value_of name ((name, number) ∷ options) ≡ Some number
first_value name number options = rw (text_is name) refl

or_right : (a b : Bool) → b ≡ true → (a || b) ≡ true
or_right true b e = refl
or_right false b e = e

name_is_known : (names : List Text) (name : Text) → Contains names name → list_any (λ n. bytes_eq n name) names ≡ true
name_is_known names name known = at names known.0 known.1 known.2
  where
    at : (ns : List Text) (k : ℕ) → k < length ns → slice_index_or ns k name ≡ name → list_any (λ n. bytes_eq n name) ns ≡ true
    at [] k l e = absurd (omega arith)
    at (n ∷ ns) zero l e = ap (λ (b : Bool). b || list_any (λ n. bytes_eq n name) ns) (ap (λ (x : Text). bytes_eq x name) e ∙ text_is name)
    at (n ∷ ns) (suc k) l e = or_right (bytes_eq n name) (list_any (λ n. bytes_eq n name) ns) (at ns k (omega arith) e)

is_there : (names : List Text) (name : Text) → Contains names name → (said : WordsSaid) (number : Text) → value_of name said.values ≡ Some number → is_any_given names said ≡ true
is_there names name known said number e = is_given names said name number (name_is_known names name known) e

-- items that give no option and declare nothing are none
no_items : (names : List Text) (items : List Item) (last : Option (List Text)) → AllByRecursion (IsItem names) items → flat_map declared_of items ++ unwrap_or last [] ≡ [] → is_any_given names (said_by items last) ≡ false
    → items ≡ []
no_items names [] last each d g = refl
no_items names (InOneWord name number ∷ items) last each d g =
    absurd (true≢false (sym (is_there names name each.0.0 (said_by (InOneWord name number ∷ items) last) number (first_value name number (flat_map option_of items))) ∙ g))
no_items names (InTwoWords name number ∷ items) last each d g =
    absurd (true≢false (sym (is_there names name each.0.0 (said_by (InTwoWords name number ∷ items) last) number (first_value name number (flat_map option_of items))) ∙ g))
no_items names (Declared word ∷ items) last each d g = cc

no_words : (a b : List Text) → a ++ b ≡ [] → b ≡ []
no_words [] b e = e
no_words (x ∷ xs) b e = cc

-- nothing stands behind the word, or `--` alone
bare_words : (last : Option (List Text)) → unwrap_or last [] ≡ [] → (end_words last ≡ []) ⊎ (end_words last ≡ codes "--" ∷ [])
bare_words None e = inl refl
bare_words (Some words) e = inr (ap (λ (ws : List Text). codes "--" ∷ ws) e)

module _ (word : Text) (stored : Command) (each : (form : CommandForm) → Contains commands form → StoredIsBare word stored form) where
  bare : (words : List Text) → IsCommand words stored → (words ≡ word ∷ []) ⊎ (words ≡ word ∷ codes "--" ∷ [])
  bare words is =
      let b : IsBare word is.form is.said = each is.form is.known is.said is.meaning in
      let s = is.spelt in
      let declared : flat_map declared_of s.items ++ unwrap_or s.last [] ≡ [] = ap (λ (d : WordsSaid). d.declared) (sym s.say) ∙ b.nothing in
      let none : is_any_given is.form.options (said_by s.items s.last) ≡ false = ap (λ (d : WordsSaid). is_any_given is.form.options d) (sym s.say) ∙ b.none in
      let no : s.items ≡ [] = no_items is.form.options s.items s.last (recursion_from_All (IsItem is.form.options) s.items s.are_items.each) declared none in
      let whole : words ≡ word ∷ end_words s.last = is.whole ∙ ap₂ (λ (w : Text) (ws : List Text). w ∷ ws) b.word (s.spelt ∙ ap (λ (items : List Item). spelling items s.last) no) in
      elim (bare_words s.last (no_words (flat_map declared_of s.items) (unwrap_or s.last []) declared)) [
        | inl e ↦ inl (whole ∙ ap (λ (ws : List Text). word ∷ ws) e)
        | inr e ↦ inr (whole ∙ ap (λ (ws : List Text). word ∷ ws) e)
      ]

no_values : AllPairs Differ []
no_values i j d a b = absurd (omega arith)

no_each : (names : List Text) → All (IsItem names) []
no_each names k d l = absurd (omega arith)

-- the form says so of no words, with or without `--`
abbrev pub StoredAlone : CommandForm → Command → Type 0
StoredAlone form stored = form.meaning (record { values = []; declared = [] }) ≡ Some stored

module _ (form : CommandForm) (known : Contains commands form) (stored : Command) (alone : StoredAlone form stored) where
  stands : (last : Option (List Text)) → unwrap_or last [] ≡ [] → list_all is_utf8 (end_words last) ≡ true → IsCommand (form.word ∷ end_words last) stored
  stands last e texts = record {
    form = form;
    known = known;
    behind = end_words last;
    whole = refl;
    texts = and_from _ _ (word_is_utf8 form known) texts;
    said = record { values = []; declared = [] };
    spelt = record { items = []; last = last; are_items = record { each = no_each form.options; once = no_values }; spelt = refl; say = ap (λ (d : List Text). record { values = []; declared = d }) (sym e) };
    meaning = alone;
  }

  pub bare_word : ((other : CommandForm) → Contains commands other → StoredIsBare form.word stored other) → IsBareWord form.word stored
  bare_word each words = (
    bare form.word stored each words,
    λ e. elim e [
      | inl none ↦ subst (λ (ws : List Text). IsCommand ws stored) (sym none) (stands None refl refl)
      | inr end ↦ subst (λ (ws : List Text). IsCommand ws stored) (sym end) (stands (Some []) refl (and_from _ _ (ascii_is_utf8 (codes "--") refl) refl))
    ],
  )

pub stored_run_is_bare : StoredRunIsBare
stored_run_is_bare = bare_word run_form run_known RunStored refl stored_run_bare

pub stored_threads_are_bare : StoredThreadsAreBare
stored_threads_are_bare = bare_word threads_form threads_known ThreadsStored refl stored_threads_bare

-- ---- demos

demo_within : (words : List Text) (seed rows : ℕ) → IsCommand words (Demo seed rows) → AreDemoNumbers seed rows
demo_within words seed rows is = is_within is.form is.known is.said seed rows is.meaning

abbrev demo_said : Text → Text → WordsSaid
demo_said seed rows = record { values = (codes "seed", seed) ∷ (codes "rows", rows) ∷ []; declared = [] }

demo_read : (a b : Bool) (seed rows : Text) → is_number seed ≡ true → is_number rows ≡ true
    → read_words demo_options nothing_read (option_words a (codes "seed") seed ++ option_words b (codes "rows") rows) ≡ Some (demo_said seed rows)
unfolding read_words
demo_read true true seed rows s r = rw (s, r) refl
demo_read true false seed rows s r = rw (s, r) refl
demo_read false true seed rows s r = rw (s, r) refl
demo_read false false seed rows s r = rw (s, r) refl

demo_texts : (a : Bool) (name number : Text) (rest : List Text) → IsAsciiText name → is_number number ≡ true → list_all is_utf8 rest ≡ true → list_all is_utf8 (option_words a name number ++ rest) ≡ true
demo_texts true name number rest named digits e = and_from _ _ (option_texts name number named digits).0 e
demo_texts false name number rest named digits e = let texts = option_texts name number named digits in and_from _ _ texts.1 (and_from _ _ texts.2 e)

demo_taken : (a b : Bool) (seed rows : Text) → is_number seed ≡ true → is_number rows ≡ true → AreDemoNumbers (number_of seed) (number_of rows)
    → IsCommand (codes "demo" ∷ option_words a (codes "seed") seed ++ option_words b (codes "rows") rows) (Demo (number_of seed) (number_of rows))
demo_taken a b seed rows s r are = record {
  form = demo_form;
  known = demo_known;
  behind = option_words a (codes "seed") seed ++ option_words b (codes "rows") rows;
  whole = refl;
  texts = and_from _ _ (word_is_utf8 demo_form demo_known)
      (demo_texts a (codes "seed") seed (option_words b (codes "rows") rows) refl s (ap (list_all is_utf8) (sym (append-nil (option_words b (codes "rows") rows))) ∙ demo_texts b (codes "rows") rows [] refl r refl));
  said = demo_said seed rows;
  spelt = read_is_spelt demo_options _ (demo_said seed rows) (demo_read a b seed rows s r);
  meaning = cond-true _ (Some (Demo (number_of seed) (number_of rows))) None (numbers_demo (number_of seed) (number_of rows) are);
}

pub demos_have_limits : DemosHaveLimits
demos_have_limits = record { within = demo_within; taken = demo_taken }
