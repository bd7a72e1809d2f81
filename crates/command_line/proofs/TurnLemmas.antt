-- One word more: clap's walk and the reading go on together.
use Rattle.std.proofs.Common.{◌≡◌, ◌∙◌, refl, sym, ap, List, [], ◌∷◌, ◌++◌, Bool, true, false, cond, not, ◌||◌, ◌&&◌, Option, Some, None, is_some, bytes_eq, true≢false, option_and_then, ◌==◌, inl, inr, ◌⊎◌}
use Rattle.std.specs.List.{list_any}
use Rattle.std.specs.Prelude.{fold}
use Rattle.std.proofs.lemmas.Bool.{cases_Bool}
use Rattle.std.proofs.Math.Bool.{and-false, or-true}
use Rattle.clap.specs.Lexer.{short_of, short_of_rest}
use Rattle.clap.specs.Walk.{Held, Walk, Waiting, idle, positional, option, Row, Rule, settled, walked, walk_from, subcommand_met, plain_word, value, arg_by_long, has_row, reacted, takes_values, nothing_held, rows_after, with_default, finished}
use Rattle.clap.specs.Faults.{defaults_fault, level_fault, settle_fault, turn_fault, use_fault, long_fault, walk_fault, react_fault}
use Rattle.clap.specs.Takes.{is_given}
use Rattle.clap.specs.Kinds.{Kinds, or_else}
use Rattle.clap.specs.declared.error.kind.ErrorKind.TheVariants.{TooManyValues}
use Rattle.command_line.specs.CommandWords.{Text, WordsSaid, value_of, begins_with_hyphen}
use Rattle.command_line.specs.ReadingOrder.{WordsReading, nothing_read, option_in}
use Rattle.command_line.specs.ClapReading.{is_end, clap_word, clap_read, has_single_hyphen, has_no_single_hyphen}
use Rattle.command_line.specs.ClapRules.{declared_id, option_rule, rules, leaf, RowsShow, Agrees}
use Rattle.command_line.proofs.RowLemmas.{text_is, long_known, long_unknown, id_known, id_declared, first_place, known_apart, has_value, set_shows, add_shows, no_defaults}

-- ---- where a walk may stand

abbrev pub walk_at : Held → Waiting → Bool → Walk
walk_at h waiting ended = record { held = h; waiting = waiting; position = 1; is_trailing = ended; stopped = None }

abbrev pub calm_waiting : Bool → Waiting
calm_waiting true = positional
calm_waiting false = idle

pub data State : Type 0 where
  calm : Held → Bool → Bool → WordsSaid → State
  hungry : Held → Text → WordsSaid → State

abbrev pub walk_of : State → Walk
walk_of (calm h b ended said) = walk_at h (calm_waiting b) ended
walk_of (hungry h name said) = walk_at h (option name) false

abbrev pub reading_of : State → WordsReading
reading_of (calm h b ended said) = record { said = said; waits = None; ended = ended }
reading_of (hungry h name said) = record { said = said; waits = Some name; ended = false }

pub record Calm (names : List Text) (h : Held) (said : WordsSaid) : Type 0 where
  pub settles : settle_fault (rules names) false h ≡ []
  pub shows : RowsShow (settled (rules names) h).rows said

pub record Hungry (names : List Text) (h : Held) (name : Text) (said : WordsSaid) : Type 0 where
  pub known : list_any (λ n. bytes_eq n name) names ≡ true
  pub pending : h.pending ≡ Some (name, [])
  pub shows : RowsShow h.rows said

abbrev pub state_ended : State → Bool
state_ended (calm h b ended said) = ended
state_ended (hungry h name said) = false

abbrev pub Holds : List Text → State → Type 0
Holds names (calm h b ended said) = Calm names h said
Holds names (hungry h name said) = Hungry names h name said

-- a walk that can't end well: what is pending is refused
pub data Jam : Type 0 where
  loose : Held → Bool → Jam
  over : Held → Waiting → Jam

abbrev pub jam_walk : Jam → Walk
jam_walk (loose h b) = walk_at h (calm_waiting b) false
jam_walk (over h waiting) = walk_at h waiting true

abbrev pub jam_ended : Jam → Bool
jam_ended (loose h b) = false
jam_ended (over h waiting) = true

abbrev pub jam_held : Jam → Held
jam_held (loose h b) = h
jam_held (over h waiting) = h

abbrev pub Jammed : List Text → Jam → Type 0
Jammed names j = settle_fault (rules names) false (jam_held j) ≡ [] → ⊥

abbrev pub fault_at : List Text → Walk → Text → Kinds
fault_at names w word = turn_fault (leaf [] names) [] w word

abbrev pub after : List Text → Walk → Text → Walk
after names w word = walked (rules names) [] w word

abbrev pub GoesOn : List Text → State → Text → State → Type 0
GoesOn names s word q = (fault_at names (walk_of s) word ≡ []) × (after names (walk_of s) word ≡ walk_of q)
    × (clap_word names (reading_of s) word ≡ Some (reading_of q)) × Holds names q × (state_ended q ≡ (state_ended s || is_end word))

abbrev pub Jams : List Text → Walk → Text → Bool → Jam → Type 0
Jams names w word ended j = (after names w word ≡ jam_walk j) × Jammed names j × (jam_ended j ≡ ended)

abbrev pub EndsBadly : List Text → Walk → Text → Bool → Type 0
EndsBadly names w word ended = (fault_at names w word ≡ [] → ⊥) ⊎ ((j : Jam) × Jams names w word ended j)

abbrev pub Turns : List Text → State → Text → Type 0
Turns names s word = ((q : State) × GoesOn names s word q)
    ⊎ ((clap_word names (reading_of s) word ≡ None) × EndsBadly names (walk_of s) word (state_ended s || is_end word))

-- ---- simple facts

no_sub : (x : Waiting) (word : Text) → subcommand_met [] x word ≡ None
no_sub idle word = refl
no_sub (option name) word = refl
no_sub positional word = refl

plain_calm : (c : List Rule) (b : Bool) (word : Text) (h : Held) → plain_word c (calm_waiting b) word h ≡ (h, value)
plain_calm c true word h = refl
plain_calm c false word h = refl

pub no_short : (word : Text) → has_single_hyphen word ≡ false → short_of word ≡ None
no_short [] e = refl
no_short (x ∷ xs) e = go (x == 45) xs e
  where
    second : (b : Bool) (ys : Text) → not b ≡ false → cond b None (Some ys) ≡ None
    second true ys h = refl
    second false ys h = absurd (true≢false h)

    go : (b : Bool) (ys : Text) → (b && not (begins_with_hyphen ys)) ≡ false → option_and_then short_of_rest (cond b (Some ys) None) ≡ None
    go false ys h = refl
    go true [] h = refl
    go true (y ∷ ys) h = second (y == 45) (y ∷ ys) h

pub or_bad : (a b : Kinds) → (a ≡ [] → ⊥) → or_else a b ≡ [] → ⊥
or_bad [] b h e = h refl
or_bad (k ∷ ks) b h e = h e

end_turn : (names : List Text) (h : Held) (b : Bool) (said : WordsSaid) (word : Text) → is_end word ≡ true → Calm names h said
    → GoesOn names (calm h b false said) word (calm h b true said)
unfolding walked
end_turn names h b said word e holds =
    (rw (no_sub (calm_waiting b) word, e) refl, rw (no_sub (calm_waiting b) word, e) refl, rw e refl, holds, sym e)

-- ---- a use of an option

use_taken : (rows : List Row) (name v : Text) → has_row name rows ≡ true → use_fault false (option_rule name) (v ∷ []) rows ≡ [] → ⊥
use_taken rows name v e = rw e (λ h. cc)

use_empty : (rows : List Row) (name : Text) → use_fault false (option_rule name) [] rows ≡ [] → ⊥
use_empty rows name h = cc

-- ---- `--name=value`

unknown_turn : (names : List Text) (h : Held) (b : Bool) (said : WordsSaid) (word : Text) (p : Text × Option Text) → is_end word ≡ false → option_in word ≡ Some p
    → list_any (λ n. bytes_eq n p.0) names ≡ false
    → (clap_word names (reading_of (calm h b false said)) word ≡ None) × (fault_at names (walk_at h (calm_waiting b) false) word ≡ [] → ⊥)
unknown_turn names h b said word p e o k =
    (rw (e, o, k) refl, rw (no_sub (calm_waiting b) word, e, o, long_unknown names p.0 k) (λ bad. cc))

given_turn : (names : List Text) (h : Held) (b : Bool) (said : WordsSaid) (word name v : Text) → list_any (λ n. bytes_eq n declared_id) names ≡ false
    → is_end word ≡ false → option_in word ≡ Some (name, Some v) → list_any (λ n. bytes_eq n name) names ≡ true → Calm names h said
    → is_some (value_of name said.values) ≡ false
    → GoesOn names (calm h b false said) word (calm (reacted (rules names) (option_rule name) (v ∷ []) h) false false (record { values = said.values ++ (name, v) ∷ []; declared = said.declared }))
unfolding walked
given_turn names h b said word name v d e o k holds none =
    let no_row : has_row name (settled (rules names) h).rows ≡ false = has_value _ said name (known_apart names name d k) holds.shows ∙ none in (
      rw (no_sub (calm_waiting b) word, e, o, long_known names name k, holds.settles, no_row) refl,
      rw (no_sub (calm_waiting b) word, e, o, long_known names name k) refl,
      rw (e, o, k, none) refl,
      record { settles = refl; shows = set_shows names _ said name v d k none holds.shows },
      sym e,
    )

taken_turn : (names : List Text) (h : Held) (b : Bool) (said : WordsSaid) (word name v : Text) → list_any (λ n. bytes_eq n declared_id) names ≡ false
    → is_end word ≡ false → option_in word ≡ Some (name, Some v) → list_any (λ n. bytes_eq n name) names ≡ true → Calm names h said
    → is_some (value_of name said.values) ≡ true
    → (clap_word names (reading_of (calm h b false said)) word ≡ None) × (fault_at names (walk_at h (calm_waiting b) false) word ≡ [] → ⊥)
taken_turn names h b said word name v d e o k holds has =
    let row : has_row name (settled (rules names) h).rows ≡ true = has_value _ said name (known_apart names name d k) holds.shows ∙ has in
    (rw (e, o, k, has) refl, rw (no_sub (calm_waiting b) word, e, o, long_known names name k, holds.settles, row) (λ bad. cc))

-- ---- `--name`

begin_turn : (names : List Text) (h : Held) (b : Bool) (said : WordsSaid) (word name : Text)
    → is_end word ≡ false → option_in word ≡ Some (name, None) → list_any (λ n. bytes_eq n name) names ≡ true → Calm names h said
    → GoesOn names (calm h b false said) word (hungry (record (settled (rules names) h) { pending = Some (name, []) }) name said)
unfolding walked
begin_turn names h b said word name e o k holds = (
  rw (no_sub (calm_waiting b) word, e, o, long_known names name k, holds.settles) refl,
  rw (no_sub (calm_waiting b) word, e, o, long_known names name k) refl,
  rw (e, o, k) refl,
  record { known = k; pending = refl; shows = holds.shows },
  sym e,
)

-- ---- a declared word

abbrev plain_held : List Text → Held → Text → Held
plain_held names h word = record { rows = (settled (rules names) h).rows; pending = Some (declared_id, word ∷ []); skip = h.skip }

abbrev with_declared : WordsSaid → Text → WordsSaid
with_declared said word = record { values = said.values; declared = said.declared ++ word ∷ [] }

plain_calmly : (names : List Text) (h : Held) (said : WordsSaid) (word : Text) → list_any (λ n. bytes_eq n declared_id) names ≡ false → Calm names h said → Calm names (plain_held names h word) (with_declared said word)
plain_calmly names h said word d holds = record {
  settles = rw (id_declared names d) refl;
  shows = rw (id_declared names d) (add_shows _ said word holds.shows);
}

plain_turn : (names : List Text) (h : Held) (b : Bool) (said : WordsSaid) (word : Text) → list_any (λ n. bytes_eq n declared_id) names ≡ false
    → is_end word ≡ false → option_in word ≡ None → has_single_hyphen word ≡ false → Calm names h said
    → GoesOn names (calm h b false said) word (calm (plain_held names h word) true false (with_declared said word))
unfolding walked
plain_turn names h b said word d e o n holds = (
  rw (no_sub (calm_waiting b) word, e, o, no_short word n, plain_calm (rules names) b word h, first_place names, and-false, holds.settles) refl,
  rw (no_sub (calm_waiting b) word, e, o, no_short word n, plain_calm (rules names) b word h, first_place names, and-false) refl,
  rw (e, o) refl,
  plain_calmly names h said word d holds,
  sym e,
)

over_turn : (names : List Text) (h : Held) (b : Bool) (said : WordsSaid) (word : Text) → list_any (λ n. bytes_eq n declared_id) names ≡ false → Calm names h said
    → GoesOn names (calm h b true said) word (calm (plain_held names h word) true true (with_declared said word))
unfolding walked
over_turn names h b said word d holds = (
  rw (first_place names, and-false, holds.settles) refl,
  rw (first_place names, and-false) refl,
  refl,
  plain_calmly names h said word d holds,
  refl,
)

-- ---- the value of an option that waits for it

abbrev fed_held : Held → Text → Text → Held
fed_held h name word = record { rows = h.rows; pending = Some (name, word ∷ []); skip = h.skip }

hungry_end : (names : List Text) (h : Held) (said : WordsSaid) (name word : Text) → is_end word ≡ true → Hungry names h name said
    → (clap_word names (reading_of (hungry h name said)) word ≡ None) × Jams names (walk_of (hungry h name said)) word (is_end word) (over h (option name))
unfolding walked
hungry_end names h said name word e holds =
    (rw e refl, (rw e refl, rw (holds.pending, id_known names name holds.known) (use_empty h.rows name), sym e))

long_bad : (c : List Rule) (found : Option Rule) (v : Option Text) (h : Held) → (settle_fault c false h ≡ [] → ⊥) → long_fault c false found v h ≡ [] → ⊥
long_bad c None v h bad e = cc
long_bad c (Some a) None h bad e = go (takes_values a) e
  where
    go : (t : Bool) → cond t (settle_fault c false h) (react_fault c false a [] h) ≡ [] → ⊥
    go true = bad
    go false = or_bad (settle_fault c false h) _ bad
long_bad c (Some a) (Some v) h bad e = go (takes_values a) e
  where
    go : (t : Bool) → cond t (react_fault c false a (v ∷ []) h) (TooManyValues ∷ []) ≡ [] → ⊥
    go true = or_bad (settle_fault c false h) _ bad
    go false = λ x. cc

hungry_option : (names : List Text) (h : Held) (said : WordsSaid) (name word : Text) (p : Text × Option Text) → is_end word ≡ false → option_in word ≡ Some p → Hungry names h name said
    → (clap_word names (reading_of (hungry h name said)) word ≡ None) × (fault_at names (walk_of (hungry h name said)) word ≡ [] → ⊥)
hungry_option names h said name word p e o holds =
    let settles_not : settle_fault (rules names) false h ≡ [] → ⊥ = rw (holds.pending, id_known names name holds.known) (use_empty h.rows name) in
    (rw (e, o) refl, rw (e, o) (or_bad _ _ (long_bad (rules names) (arg_by_long (rules names) p.0) p.1 h settles_not)))

hungry_fed : (names : List Text) (h : Held) (said : WordsSaid) (name word : Text) → list_any (λ n. bytes_eq n declared_id) names ≡ false → is_end word ≡ false → option_in word ≡ None → has_single_hyphen word ≡ false → Hungry names h name said
    → is_some (value_of name said.values) ≡ false
    → GoesOn names (hungry h name said) word (calm (fed_held h name word) false false (record { values = said.values ++ (name, word) ∷ []; declared = said.declared }))
unfolding walked
hungry_fed names h said name word d e o n holds none =
    let no_row : has_row name h.rows ≡ false = has_value _ said name (known_apart names name d holds.known) holds.shows ∙ none in (
      rw (e, o, no_short word n) refl,
      rw (e, o, no_short word n, id_known names name holds.known, holds.pending, text_is name) refl,
      rw (e, o, none) refl,
      record {
        settles = rw (id_known names name holds.known, no_row) refl;
        shows = rw (id_known names name holds.known) (set_shows names _ said name word d holds.known none holds.shows);
      },
      sym e,
    )

hungry_twice : (names : List Text) (h : Held) (said : WordsSaid) (name word : Text) → list_any (λ n. bytes_eq n declared_id) names ≡ false → is_end word ≡ false → option_in word ≡ None → has_single_hyphen word ≡ false → Hungry names h name said
    → is_some (value_of name said.values) ≡ true
    → (clap_word names (reading_of (hungry h name said)) word ≡ None) × Jams names (walk_of (hungry h name said)) word (is_end word) (loose (fed_held h name word) false)
unfolding walked
hungry_twice names h said name word d e o n holds has =
    let row : has_row name h.rows ≡ true = has_value _ said name (known_apart names name d holds.known) holds.shows ∙ has in (
      rw (e, o, has) refl,
      (
        rw (e, o, no_short word n, id_known names name holds.known, holds.pending, text_is name) refl,
        rw (id_known names name holds.known) (use_taken h.rows name word row),
        sym e,
      ),
    )

-- ---- any word, of a state that holds

calm_long : (names : List Text) (h : Held) (b : Bool) (said : WordsSaid) (word name : Text) (v : Option Text) → list_any (λ n. bytes_eq n declared_id) names ≡ false
    → is_end word ≡ false → option_in word ≡ Some (name, v) → Calm names h said → Turns names (calm h b false said) word
calm_long names h b said word name v d e o holds = elim (cases_Bool (list_any (λ n. bytes_eq n name) names)) [
  | inr k ↦ let t = unknown_turn names h b said word (name, v) e o k in inr (t.0, inl t.1)
  | inl k ↦ known v o k
]
  where
    known : (v : Option Text) → option_in word ≡ Some (name, v) → list_any (λ n. bytes_eq n name) names ≡ true → Turns names (calm h b false said) word
    known None o k = inl (hungry (record (settled (rules names) h) { pending = Some (name, []) }) name said, begin_turn names h b said word name e o k holds)
    known (Some v) o k = elim (cases_Bool (is_some (value_of name said.values))) [
      | inl has ↦ let t = taken_turn names h b said word name v d e o k holds has in inr (t.0, inl t.1)
      | inr none ↦ inl (calm (reacted (rules names) (option_rule name) (v ∷ []) h) false false (record { values = said.values ++ (name, v) ∷ []; declared = said.declared }), given_turn names h b said word name v d e o k holds none)
    ]

pub some_or_none : {X : Type 0} (o : Option X) → ((x : X) × (o ≡ Some x)) ⊎ (o ≡ None)
some_or_none None = inr refl
some_or_none (Some x) = inl (x, refl)

-- a word behind `--`, or `--` itself, or one that hasn't one hyphen and no second
abbrev pub IsPlain : Bool → Text → Type 0
IsPlain ended word = (ended || (is_end word || not (has_single_hyphen word))) ≡ true

pub not_single : (end single : Bool) → end ≡ false → (end || not single) ≡ true → single ≡ false
not_single end true e n = absurd (true≢false (sym n ∙ rw e refl))
not_single end false e n = refl

turns : (names : List Text) (s : State) (word : Text) → list_any (λ n. bytes_eq n declared_id) names ≡ false → IsPlain (state_ended s) word → Holds names s → Turns names s word
turns names (calm h b true said) word d n holds = inl (calm (plain_held names h word) true true (with_declared said word), over_turn names h b said word d holds)
turns names (calm h b false said) word d n holds = elim (cases_Bool (is_end word)) [
  | inl e ↦ inl (calm h b true said, end_turn names h b said word e holds)
  | inr e ↦ elim (some_or_none (option_in word)) [
    | inl f ↦ calm_long names h b said word f.0.0 f.0.1 d e f.1 holds
    | inr o ↦ inl (calm (plain_held names h word) true false (with_declared said word), plain_turn names h b said word d e o (not_single _ _ e n) holds)
  ]
]
turns names (hungry h name said) word d n holds = elim (cases_Bool (is_end word)) [
  | inl e ↦ let t = hungry_end names h said name word e holds in inr (t.0, inr (over h (option name), t.1))
  | inr e ↦ elim (some_or_none (option_in word)) [
    | inl f ↦ let t = hungry_option names h said name word f.0 e f.1 holds in inr (t.0, inl t.1)
    | inr o ↦ elim (cases_Bool (is_some (value_of name said.values))) [
      | inl has ↦ let t = hungry_twice names h said name word d e o (not_single _ _ e n) holds has in inr (t.0, inr (loose (fed_held h name word) false, t.1))
      | inr none ↦ inl (calm (fed_held h name word) false false (record { values = said.values ++ (name, word) ∷ []; declared = said.declared }), hungry_fed names h said name word d e o (not_single _ _ e n) holds none)
    ]
  ]
]

-- ---- any word, of a walk that is jammed

jam_turn : (names : List Text) (j : Jam) (word : Text) → IsPlain (jam_ended j) word → Jammed names j → EndsBadly names (jam_walk j) word (jam_ended j || is_end word)
unfolding walked
jam_turn names (over h x) word n bad = inl (rw (first_place names, and-false) bad)
jam_turn names (loose h b) word n bad = elim (cases_Bool (is_end word)) [
  | inl e ↦ inr (over h (calm_waiting b), (rw (no_sub (calm_waiting b) word, e) refl, bad, sym e))
  | inr e ↦ elim (some_or_none (option_in word)) [
    | inl f ↦ inl (rw (no_sub (calm_waiting b) word, e, f.1) (or_bad _ _ (long_bad (rules names) (arg_by_long (rules names) f.0.0) f.0.1 h bad)))
    | inr o ↦ inl (rw (no_sub (calm_waiting b) word, e, o, no_short word (not_single _ _ e n), plain_calm (rules names) b word h, first_place names, and-false) bad)
  ]
]

-- ---- all the words

abbrev pub end_of : List Text → Walk → List Text → Held
end_of names w words = (fold (walked (rules names) []) w words).held

abbrev pub rest_fault : List Text → Walk → List Text → Kinds
rest_fault names w words = or_else (walk_fault (leaf [] names) [] w words) (settle_fault (rules names) false (end_of names w words))

pub or_parts : (a b : Kinds) → or_else a b ≡ [] → (a ≡ []) × (b ≡ [])
or_parts [] b e = (refl, e)
or_parts (k ∷ ks) b e = cc

rest_bad : (names : List Text) (w : Walk) (word : Text) (words : List Text) → (fault_at names w word ≡ [] → ⊥) → rest_fault names w (word ∷ words) ≡ [] → ⊥
unfolding walk_fault
rest_bad names w word words bad = or_bad _ _ (or_bad _ _ bad)

end_on : (names : List Text) (w u : Walk) (word : Text) (words : List Text) → after names w word ≡ u → end_of names w (word ∷ words) ≡ end_of names u words
end_on names w u word words a = ap (λ (x : Walk). end_of names x words) a

rest_on : (names : List Text) (w u : Walk) (word : Text) (words : List Text) → fault_at names w word ≡ [] → after names w word ≡ u → rest_fault names w (word ∷ words) ≡ rest_fault names u words
unfolding walk_fault
rest_on names w u word words f a = rw (end_on names w u word words a, f, a) refl

rest_jam : (names : List Text) (w u : Walk) (word : Text) (words : List Text) → after names w word ≡ u → (rest_fault names u words ≡ [] → ⊥) → rest_fault names w (word ∷ words) ≡ [] → ⊥
unfolding walk_fault
rest_jam names w u word words a bad e =
    let first : fault_at names w word ≡ [] = (or_parts _ _ (or_parts _ _ e).0).0 in
    bad (sym (rest_on names w u word words first a) ∙ e)

-- the words from a place on, as they are judged before the parse
abbrev pub ArePlain : Bool → List Text → Type 0
ArePlain ended words = (ended || has_no_single_hyphen words) ≡ true

pub first_plain : (ended end single rest : Bool) → (ended || (end || (not single && rest))) ≡ true → (ended || (end || not single)) ≡ true
first_plain true end single rest e = refl
first_plain false true single rest e = refl
first_plain false false true rest e = e
first_plain false false false rest e = refl

pub rest_plain : (ended end single rest later : Bool) → (ended || (end || (not single && rest))) ≡ true → later ≡ (ended || end) → (later || rest) ≡ true
rest_plain true end single rest later e is = rw is refl
rest_plain false true single rest later e is = rw is refl
rest_plain false false true rest later e is = absurd (true≢false (sym e))
rest_plain false false false rest later e is = rw is e

jammed : (names : List Text) (j : Jam) (words : List Text) → ArePlain (jam_ended j) words → Jammed names j → rest_fault names (jam_walk j) words ≡ [] → ⊥
unfolding walk_fault
jammed names (loose h b) [] ok bad e = bad e
jammed names (over h x) [] ok bad e = bad e
jammed names j (word ∷ words) ok bad e =
    elim (jam_turn names j word (first_plain (jam_ended j) (is_end word) (has_single_hyphen word) (has_no_single_hyphen words) ok) bad) [
      | inl worse ↦ rest_bad names (jam_walk j) word words worse e
      | inr q ↦
          let plain = rest_plain (jam_ended j) (is_end word) (has_single_hyphen word) (has_no_single_hyphen words) (jam_ended q.0) ok q.1.2 in
          rest_jam names (jam_walk j) (jam_walk q.0) word words q.1.0 (jammed names q.0 words plain q.1.1) e
    ]

-- the parse and the reading agree from any place where they stand alike
pub agrees_from : (names : List Text) (s : State) (words : List Text) → list_any (λ n. bytes_eq n declared_id) names ≡ false → ArePlain (state_ended s) words → Holds names s
    → Agrees (rest_fault names (walk_of s) words) (settled (rules names) (end_of names (walk_of s) words)).rows (clap_read names (reading_of s) words)
unfolding clap_read walk_fault
agrees_from names (calm h b ended said) [] d ok holds = (holds.settles, holds.shows)
agrees_from names (hungry h name said) [] d ok holds = rw (holds.pending, id_known names name holds.known) (use_empty h.rows name)
agrees_from names s (word ∷ words) d ok holds =
    elim (turns names s word d (first_plain (state_ended s) (is_end word) (has_single_hyphen word) (has_no_single_hyphen words) ok) holds) [
      | inl g ↦
          let plain = rest_plain (state_ended s) (is_end word) (has_single_hyphen word) (has_no_single_hyphen words) (state_ended g.0) ok g.1.4 in
          rw (g.1.2, end_on names (walk_of s) (walk_of g.0) word words g.1.1, g.1.0, g.1.1) (agrees_from names g.0 words d plain g.1.3)
      | inr g ↦ rw g.0 (elim g.1 [
        | inl bad ↦ rest_bad names (walk_of s) word words bad
        | inr j ↦
            let plain = rest_plain (state_ended s) (is_end word) (has_single_hyphen word) (has_no_single_hyphen words) (jam_ended j.0) ok j.1.2 in
            rest_jam names (walk_of s) (jam_walk j.0) word words j.1.0 (jammed names j.0 words plain j.1.1)
      ])
    ]

-- ---- a level of the parse, from its first word

none_required : (names : List Text) (rows : List Row) → list_any (λ (a : Rule). a.required && not (is_given a.id rows)) (rules names) ≡ false
none_required [] rows = refl
none_required (n ∷ ns) rows = none_required ns rows

pub or_nil : (a : Kinds) → or_else a [] ≡ a
or_nil [] = refl
or_nil (k ∷ ks) = refl

no_default_fault : (names : List Text) (rows : List Row) → defaults_fault rows (rules names) ≡ []
unfolding defaults_fault
no_default_fault [] rows = rw (or-true (has_row declared_id rows)) refl
no_default_fault (n ∷ ns) rows = rw (or-true (has_row n rows)) (no_default_fault ns (with_default rows (option_rule n)))

nameless : (name : Text) (names : List Text) (w : Walk) (words : List Text) → walk_fault (leaf name names) [] w words ≡ walk_fault (leaf [] names) [] w words
unfolding walk_fault
nameless name names w [] = refl
nameless name names w (word ∷ words) = ap (λ (k : Kinds). or_else (fault_at names w word) k) (nameless name names (after names w word) words)

level_is : (name : Text) (names : List Text) (words : List Text) → level_fault (leaf name names) [] nothing_held words false [] ≡ rest_fault names (walk_from nothing_held) words
level_is name names words = rw (nameless name names (walk_from nothing_held) words, no_default_fault names _, none_required names (finished (rules names) (end_of names (walk_from nothing_held) words)), or_nil) refl

-- a parse of the words behind a command fails exactly where they aren't read
pub leaf_agrees : (name : Text) (names words : List Text) → list_any (λ n. bytes_eq n declared_id) names ≡ false → has_no_single_hyphen words ≡ true
    → Agrees (level_fault (leaf name names) [] nothing_held words false []) (rows_after (rules names) [] words) (clap_read names nothing_read words)
leaf_agrees name names words d ok =
    let start : Calm names nothing_held nothing_read.said = record { settles = refl; shows = record { value = λ id ne. refl; declared = refl } } in
    rw (level_is name names words, no_defaults names _) (agrees_from names (calm nothing_held false false nothing_read.said) words d ok start)
