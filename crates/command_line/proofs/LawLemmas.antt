-- What the words behind a command say, wherever an option stands among them.
use Rattle.std.proofs.Common.{◌≡◌, ◌∙◌, refl, sym, ap, List, [], ◌∷◌, ◌++◌, Bool, true, false, cond, not, Option, Some, None, is_some, option_and_then, bytes_eq, ℕ, true≢false, inl, inr, codes, IfSome, subst, append_assoc, nat_lt, ◌<◌, slice_index, zero, suc, ltb-true, arith}
use Rattle.std.specs.List.{list_any, list_all, All}
use Rattle.std.specs.Str.{is_utf8}
use Rattle.std.proofs.lemmas.Bool.{cases_Bool, and_parts, not-true}
use Rattle.command_line.specs.declared.command.Command.{Command}
use Rattle.command_line.specs.CommandWords.{Text, WordsSaid, value_of, is_number, number_of, begins_with_hyphen, size_options, demo_options, CommandForm}
use Rattle.command_line.specs.ReadingOrder.{WordsReading, nothing_read, option_in, give_number, take_option, take_named, take_free, take_word, read_words, form_named, command_of}
use Rattle.command_line.specs.Laws.{option_words, has_no_end}
use Rattle.command_line.proofs.RowLemmas.{given_at, text_is}
use Rattle.command_line.proofs.TurnLemmas.{some_or_none}
use Rattle.command_line.proofs.JudgedLemmas.{none_either}

-- ---- the laws of what is read

abbrev pub IsReadOnce : Text → Text → Type 0
IsReadOnce word name = (a b : Bool) (v w : Text) (before between after : List Text) → has_no_end before ≡ true → has_no_end between ≡ true
    → command_of (word ∷ before ++ option_words a name v ++ between ++ option_words b name w ++ after) ≡ None

abbrev pub IsReadAsNumber : Text → Text → (Command → Option ℕ) → Type 0
IsReadAsNumber word name number = (a : Bool) (digits : Text) (before after : List Text) (command : Command) → has_no_end before ≡ true
    → command_of (word ∷ before ++ option_words a name digits ++ after) ≡ Some command
    → (is_number digits ≡ true) × (number command ≡ Some (number_of digits))

-- ---- a command of a form that its word names

abbrev pub IsNamed : CommandForm → Type 0
IsNamed form = form_named form.word ≡ Some form

pub command_at : (form : CommandForm) → IsNamed form → (words : List Text)
    → command_of (form.word ∷ words) ≡ cond (list_all is_utf8 (form.word ∷ words)) (option_and_then form.meaning (read_words form.options nothing_read words)) None
command_at form named words =
    ap (λ (o : Option CommandForm). cond (list_all is_utf8 (form.word ∷ words)) (option_and_then (λ (f : CommandForm). option_and_then f.meaning (read_words f.options nothing_read words)) o) None) named

abbrev pub Parts : CommandForm → List Text → Command → Type 0
Parts form words command = (said : WordsSaid) × (read_words form.options nothing_read words ≡ Some said) × (form.meaning said ≡ Some command)

-- words that are a command say what makes it that one
pub form_parts : (form : CommandForm) → IsNamed form → (words : List Text) (command : Command) → command_of (form.word ∷ words) ≡ Some command → Parts form words command
form_parts form named words command e = checked (list_all is_utf8 (form.word ∷ words)) (sym (command_at form named words) ∙ e)
  where
    read : (o : Option WordsSaid) → option_and_then form.meaning o ≡ Some command → (said : WordsSaid) × (o ≡ Some said) × (form.meaning said ≡ Some command)
    read None e = cc
    read (Some said) e = (said, refl, e)

    checked : (b : Bool) → cond b (option_and_then form.meaning (read_words form.options nothing_read words)) None ≡ Some command → Parts form words command
    checked false e = cc
    checked true e = read (read_words form.options nothing_read words) e

-- ---- what every word keeps

-- a fact that a further value and a further declared word keep
pub record Stays (P : WordsSaid → Type 0) : Type 0 where
  pub value : (said : WordsSaid) (name v : Text) → P said → P (record { values = said.values ++ (name, v) ∷ []; declared = said.declared })
  pub word : (said : WordsSaid) (w : Text) → P said → P (record { values = said.values; declared = said.declared ++ w ∷ [] })

-- what a word leaves: the fact, and the options as they were, unless it is `--`
abbrev Keeps : (WordsSaid → Type 0) → Text → WordsReading → Option WordsReading → Type 0
Keeps P word r o = IfSome o (λ q. P q.said × (bytes_eq word (codes "--") ≡ false → q.ended ≡ r.ended))

either : {X : Type 0} (P : X → Type 0) (b : Bool) (x y : Option X) → IfSome x P → IfSome y P → IfSome (cond b x y) P
either P true x y h k = h
either P false x y h k = k

abbrev Kept : (WordsSaid → Type 0) → Text → WordsReading → WordsReading → Type 0
Kept P word r q = P q.said × (bytes_eq word (codes "--") ≡ false → q.ended ≡ r.ended)

number_keeps : (P : WordsSaid → Type 0) → Stays P → (name v word : Text) (r : WordsReading) → P r.said → Keeps P word r (give_number name v r)
number_keeps P stays name v word r h =
    either (Kept P word r) (is_number v) _ None (either (Kept P word r) (is_some (value_of name r.said.values)) None _ tt (stays.value r.said name v h, λ n. refl)) tt

option_keeps : (P : WordsSaid → Type 0) → Stays P → (name : Text) (v : Option Text) (word : Text) (r : WordsReading) → P r.said → Keeps P word r (take_option name v r)
option_keeps P stays name None word r h = (h, λ n. refl)
option_keeps P stays name (Some v) word r h = number_keeps P stays name v word r h

named_keeps : (P : WordsSaid → Type 0) → Stays P → (names : List Text) (p : Option (Text × Option Text)) (word : Text) (r : WordsReading) → P r.said → Keeps P word r (take_named names p word r)
named_keeps P stays names None word r h = either (Kept P word r) (begins_with_hyphen word) None _ tt (stays.word r.said word h, λ n. refl)
named_keeps P stays names (Some p) word r h = either (Kept P word r) (list_any (λ n. bytes_eq n p.0) names) _ None (option_keeps P stays p.0 p.1 word r h) tt

free_keeps : (P : WordsSaid → Type 0) → Stays P → (names : List Text) (word : Text) (r : WordsReading) → P r.said → Keeps P word r (take_free names word r)
free_keeps P stays names word r h = elim (cases_Bool (bytes_eq word (codes "--"))) [
  | inl e ↦ rw e (h, λ n. absurd (true≢false n))
  | inr e ↦ let kept = named_keeps P stays names (option_in word) word r h in go (bytes_eq word (codes "--")) e kept
]
  where
    go : (b : Bool) → b ≡ false → Keeps P word r (take_named names (option_in word) word r)
        → Keeps P word r (cond b (Some (record r { ended = true })) (take_named names (option_in word) word r))
    go true e h = absurd (true≢false e)
    go false e h = h

word_keeps : (P : WordsSaid → Type 0) → Stays P → (names : List Text) (waits : Option Text) (word : Text) (r : WordsReading) → P r.said → Keeps P word r (take_word names waits word r)
word_keeps P stays names (Some name) word r h = number_keeps P stays name word word r h
word_keeps P stays names None word r h =
    either (Kept P word r) r.ended _ _ (stays.word r.said word h, λ n. refl) (free_keeps P stays names word r h)

-- ---- from any place on

abbrev pub Says : List Text → (WordsSaid → Type 0) → WordsReading → List Text → Type 0
Says names P r words = IfSome (read_words names r words) P

on : (names : List Text) (R : WordsReading → Type 0) (Q : WordsSaid → Type 0) (words : List Text) (o : Option WordsReading) → IfSome o R → ((q : WordsReading) → R q → Says names Q q words)
    → IfSome (option_and_then (λ q. read_words names q words) o) Q
on names R Q words None h k = tt
on names R Q words (Some q) h k = k q h

-- what holds from each place that may be reached holds from here
pub reach : (names : List Text) (P Q : WordsSaid → Type 0) → Stays P → (r : WordsReading) (before rest : List Text) → has_no_end before ≡ true → r.ended ≡ false → P r.said
    → ((q : WordsReading) → q.ended ≡ false → P q.said → Says names Q q rest) → Says names Q r (before ++ rest)
unfolding read_words
reach names P Q stays r [] rest free still h k = k r still h
reach names P Q stays r (word ∷ words) rest free still h k =
    let parts = and_parts (not (bytes_eq word (codes "--"))) (has_no_end words) free in
    on names (Kept P word r) Q (words ++ rest) (take_word names r.waits word r) (word_keeps P stays names r.waits word r h)
    (λ q g. reach names P Q stays q words rest parts.1 (g.1 (not-true _ parts.0) ∙ still) g.0 k)

-- what stays true is true at the end
pub ends : (names : List Text) (P : WordsSaid → Type 0) → Stays P → (r : WordsReading) (words : List Text) → P r.said → Says names P r words
unfolding read_words
ends names P stays r [] h = either P (is_some r.waits) None (Some r.said) tt h
ends names P stays r (word ∷ words) h =
    on names (Kept P word r) P words (take_word names r.waits word r) (word_keeps P stays names r.waits word r h) (λ q g. ends names P stays q words g.0)

-- ---- an option among the words

-- how words with the option's name are read
pub record IsOption (names : List Text) (name : Text) : Type 0 where
  pub known : list_any (λ n. bytes_eq n name) names ≡ true
  pub one : (v : Text) → option_in (codes "--" ++ name ++ codes "=" ++ v) ≡ Some (name, Some v)
  pub one_goes_on : (v : Text) → bytes_eq (codes "--" ++ name ++ codes "=" ++ v) (codes "--") ≡ false
  pub two : option_in (codes "--" ++ name) ≡ Some (name, None)
  pub two_goes_on : bytes_eq (codes "--" ++ name) (codes "--") ≡ false

-- the value is the first of its option, a number, and kept, and options go on
pub record Given (name v : Text) (before : WordsSaid) (q : WordsReading) : Type 0 where
  pub first : is_some (value_of name before.values) ≡ false
  pub number : is_number v ≡ true
  pub value : value_of name q.said.values ≡ Some v
  pub still : q.ended ≡ false

number_gives : (name v : Text) (r : WordsReading) → r.ended ≡ false → IfSome (give_number name v r) (Given name v r.said)
number_gives name v r still = elim (cases_Bool (is_number v)) [
  | inr h ↦ rw h tt
  | inl h ↦ elim (cases_Bool (is_some (value_of name r.said.values))) [
    | inl has ↦ rw (h, has) tt
    | inr none ↦ rw (h, none) (record {
      first = none;
      number = h;
      value = given_at name v name r.said.values none ∙ ap (λ (b : Bool). cond b (Some v) (value_of name r.said.values)) (text_is name);
      still = still;
    })
  ]
]

one_word : (names : List Text) (name v : Text) → IsOption names name → (r : WordsReading) → r.ended ≡ false
    → IfSome (take_word names r.waits (codes "--" ++ name ++ codes "=" ++ v) r) (Given name v r.said)
one_word names name v o r still = go r.waits r.ended still
  where
    go : (waits : Option Text) (ended : Bool) → ended ≡ false
        → IfSome (take_word names waits (codes "--" ++ name ++ codes "=" ++ v) (record { said = r.said; waits = waits; ended = ended })) (Given name v r.said)
    go (Some n) ended e = tt
    go None true e = absurd (true≢false e)
    go None false e = rw (o.one_goes_on v, o.one v, o.known) (number_gives name v (record { said = r.said; waits = None; ended = false }) refl)

-- the option waits, and nothing else has changed
pub record Waits (name : Text) (said : WordsSaid) (q : WordsReading) : Type 0 where
  pub waits : q.waits ≡ Some name
  pub same : q.said ≡ said
  pub still : q.ended ≡ false

first_word : (names : List Text) (name : Text) → IsOption names name → (r : WordsReading) → r.ended ≡ false → IfSome (take_word names r.waits (codes "--" ++ name) r) (Waits name r.said)
first_word names name o r still = go r.waits r.ended still
  where
    go : (waits : Option Text) (ended : Bool) → ended ≡ false
        → IfSome (take_word names waits (codes "--" ++ name) (record { said = r.said; waits = waits; ended = ended })) (Waits name r.said)
    go (Some n) ended e = tt
    go None true e = absurd (true≢false e)
    go None false e = rw (o.two_goes_on, o.two, o.known) (record { waits = refl; same = refl; still = refl })

second_word : (names : List Text) (name v : Text) (q : WordsReading) (said : WordsSaid) → Waits name said q → IfSome (take_word names q.waits v q) (Given name v said)
second_word names name v q said h =
    subst (λ (o : Option Text). IfSome (take_word names o v q) (Given name v said)) (sym h.waits)
    (subst (λ (s : WordsSaid). IfSome (give_number name v q) (Given name v s)) h.same (number_gives name v q h.still))

-- what holds from each place behind the option holds from before it
pub at_option : (names : List Text) (name v : Text) (Q : WordsSaid → Type 0) → IsOption names name → (a : Bool) (r : WordsReading) (rest : List Text) → r.ended ≡ false
    → ((q : WordsReading) → Given name v r.said q → Says names Q q rest) → Says names Q r (option_words a name v ++ rest)
unfolding read_words
at_option names name v Q o true r rest still k = on names (Given name v r.said) Q rest _ (one_word names name v o r still) k
at_option names name v Q o false r rest still k = go (take_word names r.waits (codes "--" ++ name) r) (first_word names name o r still)
  where
    go : (x : Option WordsReading) → IfSome x (Waits name r.said) → IfSome (option_and_then (λ q. read_words names q (v ∷ rest)) x) Q
    go None h = tt
    go (Some q) h = on names (Given name v r.said) Q rest (take_word names q.waits v q) (second_word names name v q r.said h) k

-- ---- what stays

value_kept : (name v : Text) (values more : List (Text × Text)) → value_of name values ≡ Some v → value_of name (values ++ more) ≡ Some v
value_kept name v [] more e = cc
value_kept name v (p ∷ ps) more e = elim (cases_Bool (bytes_eq p.0 name)) [
  | inl h ↦ rw h (rw h at e)
  | inr h ↦ rw h (value_kept name v ps more (rw h at e))
]

value_stays : (name v : Text) → Stays (λ said. value_of name said.values ≡ Some v)
value_stays name v = record {
  value = λ said n w h. value_kept name v said.values ((n, w) ∷ []) h;
  word = λ said w h. h;
}

nothing_stays : Stays (λ said. Unit {0})
nothing_stays = record { value = λ said n v h. tt; word = λ said w h. tt }

-- ---- the laws

none_said : {X : Type 0} (o : Option X) → IfSome o (λ x. ⊥) → o ≡ None
none_said None h = refl
none_said (Some x) h = absurd h

pub read_once : (form : CommandForm) → IsNamed form → (name : Text) → IsOption form.options name → IsReadOnce form.word name
read_once form named name o = λ a b v w before between after free free_between.
    let whole : Says form.options (λ s. ⊥) nothing_read (before ++ (option_words a name v ++ (between ++ (option_words b name w ++ after)))) =
    reach form.options (λ s. Unit {0}) (λ s. ⊥) nothing_stays nothing_read before _ free refl tt
    (λ q still u. at_option form.options name v (λ s. ⊥) o a q _ still
    (λ p g. reach form.options (λ s. value_of name s.values ≡ Some v) (λ s. ⊥) (value_stays name v) p between _ free_between g.still g.value
    (λ x open_still h. at_option form.options name w (λ s. ⊥) o b x after open_still
    (λ y given. absurd (true≢false (sym (ap (λ (t : Option Text). is_some t) h) ∙ given.first)))))) in
    let moved = append_assoc (before ++ option_words a name v ++ between) (option_words b name w) after
    ∙ append_assoc (before ++ option_words a name v) between (option_words b name w ++ after)
    ∙ append_assoc before (option_words a name v) (between ++ (option_words b name w ++ after)) in
    let words : List Text = before ++ option_words a name v ++ between ++ option_words b name w ++ after in
    let none : read_words form.options nothing_read words ≡ None = ap (read_words form.options nothing_read) moved ∙ none_said _ whole in
    command_at form named words
    ∙ ap (λ (o : Option WordsSaid). cond (list_all is_utf8 (form.word ∷ words)) (option_and_then form.meaning o) None) none ∙ none_either (list_all is_utf8 (form.word ∷ words))

said_holds : (P : WordsSaid → Type 0) (o : Option WordsSaid) (said : WordsSaid) → o ≡ Some said → IfSome o P → P said
said_holds P None said e h = cc
said_holds P (Some s) said e h = let same : s ≡ said = cc in subst P same h

abbrev HasNumber : Text → Text → WordsSaid → Type 0
HasNumber name digits said = (is_number digits ≡ true) × (value_of name said.values ≡ Some digits)

number_stays : (name digits : Text) → Stays (HasNumber name digits)
number_stays name digits = record {
  value = λ said n w h. (h.0, value_kept name digits said.values ((n, w) ∷ []) h.1);
  word = λ said w h. h;
}

-- a command whose option has digits has their number
abbrev pub GivesNumber : CommandForm → Text → (Command → Option ℕ) → Type 0
GivesNumber form name number = (said : WordsSaid) (command : Command) (digits : Text) → form.meaning said ≡ Some command → value_of name said.values ≡ Some digits
    → number command ≡ Some (number_of digits)

pub read_as_number : (form : CommandForm) → IsNamed form → (name : Text) → IsOption form.options name → (number : Command → Option ℕ) → GivesNumber form name number
    → IsReadAsNumber form.word name number
read_as_number form named name o number gives = λ a digits before after command free e.
    let parts = form_parts form named (before ++ option_words a name digits ++ after) command e in
    let whole : Says form.options (HasNumber name digits) nothing_read (before ++ (option_words a name digits ++ after)) =
    reach form.options (λ s. Unit {0}) (HasNumber name digits) nothing_stays nothing_read before _ free refl tt
    (λ q still u. at_option form.options name digits (HasNumber name digits) o a q after still
    (λ p g. ends form.options (HasNumber name digits) (number_stays name digits) p after (g.number, g.value))) in
    let has = said_holds (HasNumber name digits) _ parts.0 (ap (read_words form.options nothing_read) (sym (append_assoc before (option_words a name digits) after)) ∙ parts.1) whole in
    (has.0, gives parts.0 command digits parts.2 has.1)

-- ---- a further word

pub no_option : (word : Text) → begins_with_hyphen word ≡ false → (bytes_eq word (codes "--") ≡ false) × (option_in word ≡ None)
no_option [] h = (refl, refl)
no_option (c ∷ cs) h = (rw h refl, rw h refl)

pub declared_word : (names : List Text) (word : Text) (r : WordsReading) → begins_with_hyphen word ≡ false → r.waits ≡ None
    → take_word names r.waits word r ≡ Some (record { said = record { values = r.said.values; declared = r.said.declared ++ word ∷ [] }; waits = None; ended = r.ended })
declared_word names word r h e = rw e (go r.ended)
  where
    go : (ended : Bool) → take_word names None word (record { said = r.said; waits = None; ended = ended }) ≡ Some (record { said = record { values = r.said.values; declared = r.said.declared ++ word ∷ [] }; waits = None; ended = ended })
    go true = refl
    go false = let no = no_option word h in rw (no.0, no.1, h) refl

pub read_last : (names : List Text) (r : WordsReading) (words : List Text) (word : Text) (said : WordsSaid) → read_words names r words ≡ Some said → begins_with_hyphen word ≡ false
    → read_words names r (words ++ word ∷ []) ≡ Some (record { values = said.values; declared = said.declared ++ word ∷ [] })
unfolding read_words
read_last names r [] word said e h = elim (some_or_none r.waits) [
  | inl f ↦ let bad : None ≡ Some said = rw f.1 at e in cc
  | inr n ↦ let same : Some r.said ≡ Some said = rw n at e in let is : r.said ≡ said = cc in
      rw (declared_word names word r h n) (ap (λ (s : WordsSaid). Some (record { values = s.values; declared = s.declared ++ word ∷ [] })) is)
]
read_last names r (v ∷ vs) word said e h = go (take_word names r.waits v r) e (λ q k. read_last names q vs word said k h)
  where
    go : (o : Option WordsReading) → option_and_then (λ q. read_words names q vs) o ≡ Some said
        → ((q : WordsReading) → read_words names q vs ≡ Some said → read_words names q (vs ++ word ∷ []) ≡ Some (record { values = said.values; declared = said.declared ++ word ∷ [] }))
        → option_and_then (λ q. read_words names q (vs ++ word ∷ [])) o ≡ Some (record { values = said.values; declared = said.declared ++ word ∷ [] })
    go None e k = cc
    go (Some q) e k = k q e

-- one declared word alone
pub read_alone : (names : List Text) (word : Text) → begins_with_hyphen word ≡ false → read_words names nothing_read (word ∷ []) ≡ Some (record { values = []; declared = word ∷ [] })
unfolding read_words
read_alone names word h = rw (declared_word names word nothing_read h refl) refl

pub ascii_below : (bs : Text) → list_all (λ b. nat_lt b 128) bs ≡ true → (i : ℕ) → slice_index bs i < 128
ascii_below [] e i = omega arith
ascii_below (b ∷ bs) e zero = ltb-true b 128 (and_parts (nat_lt b 128) (list_all (λ c. nat_lt c 128) bs) e).0
ascii_below (b ∷ bs) e (suc i) = ascii_below bs (and_parts (nat_lt b 128) (list_all (λ c. nat_lt c 128) bs) e).1 i

-- ---- the options

pub is_heap_blocks : IsOption size_options (codes "heap-blocks")
is_heap_blocks = record { known = refl; one = λ v. refl; one_goes_on = λ v. refl; two = refl; two_goes_on = refl }

pub is_index_blocks : IsOption size_options (codes "index-blocks")
is_index_blocks = record { known = refl; one = λ v. refl; one_goes_on = λ v. refl; two = refl; two_goes_on = refl }

pub is_status_blocks : IsOption size_options (codes "status-blocks")
is_status_blocks = record { known = refl; one = λ v. refl; one_goes_on = λ v. refl; two = refl; two_goes_on = refl }

pub is_log_pages : IsOption size_options (codes "log-pages")
is_log_pages = record { known = refl; one = λ v. refl; one_goes_on = λ v. refl; two = refl; two_goes_on = refl }

pub is_frames : IsOption size_options (codes "frames")
is_frames = record { known = refl; one = λ v. refl; one_goes_on = λ v. refl; two = refl; two_goes_on = refl }

pub is_seed : IsOption demo_options (codes "seed")
is_seed = record { known = refl; one = λ v. refl; one_goes_on = λ v. refl; two = refl; two_goes_on = refl }

pub is_rows : IsOption demo_options (codes "rows")
is_rows = record { known = refl; one = λ v. refl; one_goes_on = λ v. refl; two = refl; two_goes_on = refl }

pub two : {X : Type 0} (P : X → Type 0) (a b : X) → P a → P b → All P (a ∷ b ∷ [])
two P a b pa pb zero other lt = pa
two P a b pa pb (suc zero) other lt = pb
two P a b pa pb (suc (suc k)) other lt = absurd (omega arith)

pub five : {X : Type 0} (P : X → Type 0) (a b c d e : X) → P a → P b → P c → P d → P e → All P (a ∷ b ∷ c ∷ d ∷ e ∷ [])
five P a b c d e pa pb pc pd pe zero other lt = pa
five P a b c d e pa pb pc pd pe (suc zero) other lt = pb
five P a b c d e pa pb pc pd pe (suc (suc zero)) other lt = pc
five P a b c d e pa pb pc pd pe (suc (suc (suc zero))) other lt = pd
five P a b c d e pa pb pc pd pe (suc (suc (suc (suc zero)))) other lt = pe
five P a b c d e pa pb pc pd pe (suc (suc (suc (suc (suc k))))) other lt = absurd (omega arith)
