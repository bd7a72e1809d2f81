-- Judging each word where it stands is clap's reading, judged at the end.
use Rattle.std.proofs.Common.{◌≡◌, ◌∙◌, refl, sym, ap, subst, List, [], ◌∷◌, ◌++◌, Bool, true, false, cond, not, ◌||◌, ◌&&◌, ◌==◌, Option, Some, None, is_some, option_map, option_and_then, bytes_eq, find, map, true≢false, inl, inr, ◌⊎◌}
use Rattle.std.specs.List.{list_any, list_all}
use Rattle.std.proofs.lemmas.Bool.{cases_Bool, and_parts, not-true, false_from_ne_true, eqb-true}
use Rattle.command_line.specs.declared.command.Command.{Command}
use Rattle.command_line.specs.CommandWords.{Text, WordsSaid, value_of, is_number, begins_with_hyphen, CommandForm, commands}
use Rattle.command_line.specs.ReadingOrder.{WordsReading, option_in, nothing_read, take_word, name_and_value, read_words, command_in, form_named}
use Rattle.command_line.specs.ClapReading.{is_end, has_single_hyphen, clap_read, clap_word, numbers_given, is_number_if_given, has_no_single_hyphen}
use Rattle.command_line.specs.ClapCommands.{entry, command_matched, judged, meaning_checked}
use Rattle.command_line.proofs.RowLemmas.{given_at, same_text, text_is}
use Rattle.command_line.proofs.TurnLemmas.{IsPlain, not_single, some_or_none}
use Rattle.std.proofs.Math.Bool.{and-true, and-false, or-false}

abbrev is_checked : List Text → WordsSaid → Bool
is_checked names said = numbers_given names said.values

abbrev pub checked : List Text → Option WordsSaid → Option WordsSaid
checked names said = option_and_then (λ s. cond (is_checked names s) (Some s) None) said

-- ---- one value or one declared word more

-- a number for a name that had none keeps the test
pub number_keeps : (names : List Text) (values : List (Text × Text)) (name v : Text) → is_some (value_of name values) ≡ false → is_number v ≡ true
    → numbers_given names (values ++ (name, v) ∷ []) ≡ numbers_given names values
number_keeps [] values name v none e = refl
number_keeps (n ∷ ns) values name v none e = rw (number_keeps ns values name v none e) (ap (λ (b : Bool). b && numbers_given ns values) one)
  where
    go : (b : Bool) → (b ≡ true → is_some (value_of n values) ≡ false) → is_number_if_given (cond b (Some v) (value_of n values)) ≡ is_number_if_given (value_of n values)
    go false h = refl
    go true h = e ∙ sym (none_passes (value_of n values) (h refl))
      where
        none_passes : (o : Option Text) → is_some o ≡ false → is_number_if_given o ≡ true
        none_passes None k = refl
        none_passes (Some x) k = absurd (true≢false k)

    one : is_number_if_given (value_of n (values ++ (name, v) ∷ [])) ≡ is_number_if_given (value_of n values)
    one = rw (given_at name v n values none) (go (bytes_eq name n) (λ h. ap (λ (x : Text). is_some (value_of x values)) (sym (same_text name n h)) ∙ none))

-- any other value of a known name fails the test
word_fails : (names : List Text) (values : List (Text × Text)) (name v : Text) → is_some (value_of name values) ≡ false → list_any (λ n. bytes_eq n name) names ≡ true → is_number v ≡ false
    → numbers_given names (values ++ (name, v) ∷ []) ≡ false
word_fails [] values name v none k e = absurd (true≢false (sym k))
word_fails (n ∷ ns) values name v none k e = elim (cases_Bool (bytes_eq n name)) [
  | inl h ↦ let back : bytes_eq name n ≡ true = ap (λ (x : Text). bytes_eq x n) (sym (same_text n name h)) ∙ text_is n in rw (given_at name v n values none, back, e) refl
  | inr h ↦ rw (word_fails ns values name v none (rw h at k) e) (and-false _)
]

checked_give : (names : List Text) (said : WordsSaid) (name v : Text) → is_some (value_of name said.values) ≡ false → list_any (λ n. bytes_eq n name) names ≡ true
    → is_checked names (record { values = said.values ++ (name, v) ∷ []; declared = said.declared }) ≡ (is_checked names said && is_number v)
checked_give names said name v none k = elim (cases_Bool (is_number v)) [
  | inl e ↦ rw (e, number_keeps names said.values name v none e) (sym (and-true (is_checked names said)))
  | inr e ↦ rw (e, word_fails names said.values name v none k e) (sym (and-false (is_checked names said)))
]

-- ---- a word that begins with a hyphen

no_number : (word : Text) → begins_with_hyphen word ≡ true → is_number word ≡ false
no_number [] e = absurd (true≢false (sym e))
no_number (x ∷ xs) e = let is : x ≡ 45 = eqb-true x 45 e in rw is refl

option_hyphen : (word : Text) (p : Text × Option Text) → option_in word ≡ Some p → begins_with_hyphen word ≡ true
option_hyphen [] p e = cc
option_hyphen (x ∷ xs) p e = elim (cases_Bool (x == 45)) [ inl h ↦ h | inr h ↦ let bad : None ≡ Some p = rw h at e in cc ]

single_hyphen : (word : Text) → has_single_hyphen word ≡ true → begins_with_hyphen word ≡ true
single_hyphen [] e = cc
single_hyphen (x ∷ xs) e = (and_parts _ _ e).0

end_hyphen : (word : Text) → is_end word ≡ true → begins_with_hyphen word ≡ true
end_hyphen word e = rw (same_text word _ e) refl

-- a word that begins with a hyphen is `--` or an option, or has no second one
no_hyphen : (word : Text) → is_end word ≡ false → has_single_hyphen word ≡ false → option_in word ≡ None → begins_with_hyphen word ≡ false
no_hyphen [] e n o = refl
no_hyphen (x ∷ xs) e n o = false_from_ne_true (x == 45) (λ h. more xs h e n o)
  where
    more : (ys : Text) → (x == 45) ≡ true → is_end (x ∷ ys) ≡ false → has_single_hyphen (x ∷ ys) ≡ false → option_in (x ∷ ys) ≡ None → ⊥
    more [] h e n o = true≢false (sym (rw h refl) ∙ n)
    more (y ∷ ys) h e n o = elim (cases_Bool (y == 45)) [
      | inr k ↦ true≢false (sym (rw (h, k) refl) ∙ n)
      | inl k ↦ last ys h k e o
    ]
      where
        last : (zs : Text) → (x == 45) ≡ true → (y == 45) ≡ true → is_end (x ∷ y ∷ zs) ≡ false → option_in (x ∷ y ∷ zs) ≡ None → ⊥
        last [] h k e o = true≢false (sym (rw (h, k) refl) ∙ e)
        last (z ∷ zs) h k e o = let bad : name_and_value (z ∷ zs) ≡ None = rw (h, k) at o in cc

-- what has one hyphen alone is no `--`, and no option
single_free : (word : Text) → has_single_hyphen word ≡ true → (is_end word ≡ false) × (option_in word ≡ None)
single_free [] e = cc
single_free (x ∷ []) e = let a : (x == 45) ≡ true = (and_parts (x == 45) true e).0 in (rw a refl, rw a refl)
single_free (x ∷ y ∷ ys) e =
    let a : (x == 45) ≡ true = (and_parts (x == 45) (not (y == 45)) e).0 in
    let b : (y == 45) ≡ false = not-true (y == 45) (and_parts (x == 45) (not (y == 45)) e).1 in
    (rw (a, b) refl, rw (a, b) refl)

-- ---- one word

-- the option that waits is a known one
abbrev WaitsKnown : List Text → Option Text → Type 0
WaitsKnown names None = Unit {0}
WaitsKnown names (Some name) = list_any (λ n. bytes_eq n name) names ≡ true

abbrev Same : List Text → WordsReading → Text → WordsReading → Bool → Type 0
Same names r word q b = (clap_word names r word ≡ Some q) × (take_word names r.waits word r ≡ cond b (Some q) None)
    × (is_checked names q.said ≡ (is_checked names r.said && b)) × WaitsKnown names q.waits × (q.ended ≡ (r.ended || is_end word))

abbrev Refuses : List Text → WordsReading → Text → Type 0
Refuses names r word = (clap_word names r word ≡ None) × (take_word names r.waits word r ≡ None)

abbrev Judges : List Text → WordsReading → Text → Type 0
Judges names r word = ((q : WordsReading) × (b : Bool) × Same names r word q b) ⊎ Refuses names r word

pub none_either : {X : Type 0} (b : Bool) → cond {A = Option X} b None None ≡ None
none_either true = refl
none_either false = refl

abbrev gave : WordsSaid → Text → Text → Bool → WordsReading
gave said name v ended = record { said = record { values = said.values ++ (name, v) ∷ []; declared = said.declared }; waits = None; ended = ended }

abbrev added : WordsSaid → Text → Bool → WordsReading
added said word ended = record { said = record { values = said.values; declared = said.declared ++ word ∷ [] }; waits = None; ended = ended }

waiting_step : (names : List Text) (said : WordsSaid) (name : Text) (ended : Bool) (word : Text) → list_any (λ n. bytes_eq n name) names ≡ true
    → Judges names (record { said = said; waits = Some name; ended = ended }) word
waiting_step names said name ended word k = elim (cases_Bool (is_end word)) [
  | inl e ↦ inr (rw e refl, rw (no_number word (end_hyphen word e)) refl)
  | inr e ↦ elim (some_or_none (option_in word)) [
    | inl f ↦ inr (rw (e, f.1) refl, rw (no_number word (option_hyphen word f.0 f.1)) refl)
    | inr o ↦ elim (cases_Bool (is_some (value_of name said.values))) [
      | inl has ↦ inr (rw (e, o, has) refl, rw has (none_either (is_number word)))
      | inr none ↦ inl (gave said name word ended, is_number word, (rw (e, o, none) refl, rw none refl, checked_give names said name word none k, tt, rw e (sym (or-false ended))))
    ]
  ]
]

over_step : (names : List Text) (said : WordsSaid) (word : Text) → Judges names (record { said = said; waits = None; ended = true }) word
over_step names said word = inl (added said word true, true, (refl, refl, sym (and-true _), tt, refl))

known_step : (names : List Text) (said : WordsSaid) (word name : Text) (v : Option Text) → is_end word ≡ false → option_in word ≡ Some (name, v) → list_any (λ n. bytes_eq n name) names ≡ true
    → Judges names (record { said = said; waits = None; ended = false }) word
known_step names said word name None e o k = inl (record { said = said; waits = Some name; ended = false }, true, (rw (e, o, k) refl, rw (e, o, k) refl, sym (and-true _), k, sym e))
known_step names said word name (Some v) e o k = elim (cases_Bool (is_some (value_of name said.values))) [
  | inl has ↦ inr (rw (e, o, k, has) refl, rw (e, o, k, has) (none_either (is_number v)))
  | inr none ↦ inl (gave said name v false, is_number v, (rw (e, o, k, none) refl, rw (e, o, k, none) refl, checked_give names said name v none k, tt, sym e))
]

free_step : (names : List Text) (said : WordsSaid) (word : Text) → IsPlain false word → Judges names (record { said = said; waits = None; ended = false }) word
free_step names said word n = elim (cases_Bool (is_end word)) [
  | inl e ↦ inl (record { said = said; waits = None; ended = true }, true, (rw e refl, rw e refl, sym (and-true _), tt, sym e))
  | inr e ↦ elim (some_or_none (option_in word)) [
    | inl f ↦ elim (cases_Bool (list_any (λ n. bytes_eq n f.0.0) names)) [
      | inl k ↦ known_step names said word f.0.0 f.0.1 e f.1 k
      | inr k ↦ inr (rw (e, f.1, k) refl, rw (e, f.1, k) refl)
    ]
    | inr o ↦ inl (added said word false, true, (rw (e, o) refl, rw (e, o, no_hyphen word e (not_single _ _ e n) o) refl, sym (and-true _), tt, sym e))
  ]
]

step : (names : List Text) (r : WordsReading) (word : Text) → IsPlain r.ended word → WaitsKnown names r.waits → Judges names r word
step names r word n k = go r.waits r.ended n k
  where
    go : (waits : Option Text) (ended : Bool) → IsPlain ended word → WaitsKnown names waits → Judges names (record { said = r.said; waits = waits; ended = ended }) word
    go (Some name) ended n h = waiting_step names r.said name ended word h
    go None true n h = over_step names r.said word
    go None false n h = free_step names r.said word n

single_step : (names : List Text) (r : WordsReading) (word : Text) → has_single_hyphen word ≡ true → r.ended ≡ false → take_word names r.waits word r ≡ None
single_step names r word c open_still = go r.waits r.ended open_still
  where
    free : (is_end word ≡ false) × (option_in word ≡ None)
    free = single_free word c

    go : (waits : Option Text) (ended : Bool) → ended ≡ false → take_word names waits word (record { said = r.said; waits = waits; ended = ended }) ≡ None
    go (Some name) ended e = rw (no_number word (single_hyphen word c)) refl
    go None true e = absurd (true≢false e)
    go None false e = rw (free.0, free.1, single_hyphen word c) refl

-- ---- all words

both_tests : {X : Type 0} (c b : Bool) (x : Option X) → cond (c && b) x None ≡ cond c (cond b x None) None
both_tests true b x = refl
both_tests false b x = refl

plain_split : (ended end single rest : Bool) → (ended || (end || not single)) ≡ true → (ended || (end || (not single && rest))) ≡ ((ended || end) || rest)
plain_split true end single rest p = refl
plain_split false true single rest p = refl
plain_split false false false rest p = refl
plain_split false false true rest p = absurd (true≢false (sym p))

not_plain : (ended end single : Bool) → (ended || (end || not single)) ≡ false → (ended ≡ false) × (end ≡ false) × (single ≡ true)
not_plain true end single p = absurd (true≢false p)
not_plain false true single p = absurd (true≢false p)
not_plain false false true p = (refl, refl, refl)
not_plain false false false p = absurd (true≢false p)

pub checked_reading : (names : List Text) (r : WordsReading) (words : List Text) → WaitsKnown names r.waits
    → checked names (cond (r.ended || has_no_single_hyphen words) (clap_read names r words) None) ≡ cond (is_checked names r.said) (read_words names r words) None
unfolding clap_read read_words
checked_reading names r [] k = go r.ended (is_some r.waits)
  where
    go : (ended b : Bool) → checked names (cond (ended || true) (cond b None (Some r.said)) None) ≡ cond (is_checked names r.said) (cond b None (Some r.said)) None
    go true true = sym (none_either (is_checked names r.said))
    go true false = refl
    go false true = sym (none_either (is_checked names r.said))
    go false false = refl
checked_reading names r (word ∷ words) k = elim (cases_Bool (r.ended || (is_end word || not (has_single_hyphen word)))) [
  | inr p ↦
      let no = not_plain r.ended (is_end word) (has_single_hyphen word) p in
      rw (single_step names r word no.2 no.0, no.0, no.1, no.2) (sym (none_either (is_checked names r.said)))
  | inl p ↦ elim (step names r word p k) [
    | inl s ↦
        let alike : (r.ended || (is_end word || (not (has_single_hyphen word) && has_no_single_hyphen words))) ≡ (s.0.ended || has_no_single_hyphen words) =
        plain_split r.ended (is_end word) (has_single_hyphen word) (has_no_single_hyphen words) p ∙ ap (λ (b : Bool). b || has_no_single_hyphen words) (sym s.2.4) in
        rw (alike, s.2.0, s.2.1) (checked_reading names s.0 words s.2.3 ∙ ap (λ (b : Bool). cond b (read_words names s.0 words) None) s.2.2 ∙ both_tests (is_checked names r.said) s.1 (read_words names s.0 words) ∙ ap (λ (o : Option WordsSaid). cond (is_checked names r.said) o None) (inside s.1 s.0))
    | inr s ↦ rw (s.0, s.1) (ap (checked names) (none_either (r.ended || has_no_single_hyphen (word ∷ words))) ∙ sym (none_either (is_checked names r.said)))
  ]
]
  where
    inside : (b : Bool) (q : WordsReading) → cond b (read_words names q words) None ≡ option_and_then (λ x. read_words names x words) (cond b (Some q) None)
    inside true q = refl
    inside false q = refl

start_checked : (names : List Text) → is_checked names nothing_read.said ≡ true
start_checked [] = refl
start_checked (n ∷ ns) = start_checked ns

-- reading first and judging then, from the start
start_reading : (names : List Text) (words : List Text) → checked names (cond (has_no_single_hyphen words) (clap_read names nothing_read words) None) ≡ read_words names nothing_read words
start_reading names words = checked_reading names nothing_read words tt ∙ ap (λ (b : Bool). cond b (read_words names nothing_read words) None) (start_checked names)

-- ---- the command

-- the form that was found has the word
pub form_has_word : (word : Text) (forms : List CommandForm) (f : CommandForm) → find (λ form. bytes_eq form.word word) forms ≡ Some f → f.word ≡ word
form_has_word word [] f e = cc
form_has_word word (g ∷ gs) f e = elim (cases_Bool (bytes_eq g.word word)) [
  | inl h ↦ let first : Some g ≡ Some f = rw h at e in let same : g ≡ f = cc in ap (λ (x : CommandForm). x.word) (sym same) ∙ same_text g.word word h
  | inr h ↦ form_has_word word gs f (rw h at e)
]

-- no command's word begins with a hyphen
form_is_plain : (word : Text) (forms : List CommandForm) (f : CommandForm) → find (λ form. bytes_eq form.word word) forms ≡ Some f
    → list_all (λ form. not (begins_with_hyphen form.word)) forms ≡ true → begins_with_hyphen f.word ≡ false
form_is_plain word [] f e ok = cc
form_is_plain word (g ∷ gs) f e ok =
    let parts = and_parts (not (begins_with_hyphen g.word)) (list_all (λ form. not (begins_with_hyphen form.word)) gs) ok in
    elim (cases_Bool (bytes_eq g.word word)) [
      | inl h ↦ let first : Some g ≡ Some f = rw h at e in let same : g ≡ f = cc in subst (λ (x : CommandForm). begins_with_hyphen x.word ≡ false) same (not-true _ parts.0)
      | inr h ↦ form_is_plain word gs f (rw h at e) parts.1
    ]

plain_word : (word : Text) → begins_with_hyphen word ≡ false → (is_end word ≡ false) × (has_single_hyphen word ≡ false)
plain_word [] e = (refl, refl)
plain_word (c ∷ cs) e = (rw e refl, rw e refl)

entry_of_form : (word : Text) (forms : List CommandForm) → entry word (map (λ (form : CommandForm). (form.word, form.options)) forms) ≡ option_map (λ (form : CommandForm). (form.word, form.options)) (find (λ form. bytes_eq form.word word) forms)
entry_of_form word [] = refl
entry_of_form word (g ∷ gs) = go (bytes_eq g.word word) (entry_of_form word gs)
  where
    go : (b : Bool) → entry word (map (λ (form : CommandForm). (form.word, form.options)) gs) ≡ option_map (λ (form : CommandForm). (form.word, form.options)) (find (λ form. bytes_eq form.word word) gs)
        → cond b (Some (g.word, g.options)) (entry word (map (λ (form : CommandForm). (form.word, form.options)) gs)) ≡ option_map (λ (form : CommandForm). (form.word, form.options)) (cond b (Some g) (find (λ form. bytes_eq form.word word) gs))
    go true h = refl
    go false h = h

-- the matches of a command, judged, are its words, read
matched_alike : (form : CommandForm) (single : Bool) (said : Option WordsSaid)
    → cond single (option_and_then (λ (p : Text × WordsSaid). meaning_checked form p.1) (option_map (λ x. (form.word, x)) said)) None ≡ option_and_then form.meaning (checked form.options (cond single said None))
matched_alike form false said = refl
matched_alike form true None = refl
matched_alike form true (Some s) = go (is_checked form.options s)
  where
    go : (b : Bool) → cond b (form.meaning s) None ≡ option_and_then form.meaning (cond b (Some s) None)
    go true = refl
    go false = refl

judged_said : (form : CommandForm) (said : Option WordsSaid) → form_named form.word ≡ Some form
    → option_and_then (λ (p : Text × WordsSaid). judged p.0 p.1) (option_map (λ x. (form.word, x)) said) ≡ option_and_then (λ (p : Text × WordsSaid). meaning_checked form p.1) (option_map (λ x. (form.word, x)) said)
judged_said form None e = refl
judged_said form (Some s) e = ap (option_and_then (λ f. meaning_checked f s)) e

-- the words are the command that clap's matches of them are
pub command_alike : (words : List Text) → command_matched words ≡ command_in words
command_alike [] = refl
command_alike (word ∷ words) = elim (some_or_none (form_named word)) [
  | inr e ↦ rw (entry_of_form word commands, e) (none_either (has_no_single_hyphen (word ∷ words)))
  | inl f ↦ named f.0 f.1
]
  where
    named : (form : CommandForm) → form_named word ≡ Some form → command_matched (word ∷ words) ≡ command_in (word ∷ words)
    named form e =
        let same : form.word ≡ word = form_has_word word commands form e in
        let plain = plain_word word (ap begins_with_hyphen (sym same) ∙ form_is_plain word commands form e refl) in
        let again : form_named form.word ≡ Some form = ap form_named same ∙ e in
        rw (entry_of_form word commands, e, plain.0, plain.1)
        (ap (λ (o : Option Command). cond (has_no_single_hyphen words) o None) (judged_said form (clap_read form.options nothing_read words) again)
        ∙ matched_alike form (has_no_single_hyphen words) (clap_read form.options nothing_read words)
        ∙ ap (option_and_then form.meaning) (start_reading form.options words))
