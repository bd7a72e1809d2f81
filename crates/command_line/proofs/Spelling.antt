-- Words are read as they are spelt by items.
use Rattle.std.proofs.Common.{◌≡◌, ◌≢◌, ◌∙◌, refl, sym, ap, ap₂, subst, List, [], ◌∷◌, ◌++◌, length, Bool, true, false, Option, Some, None, is_some, option_map, option_and_then, unwrap_or, bytes_eq, ℕ, zero, suc, ◌<◌, true≢false, inl, inr, codes, append_assoc, append-nil, arith, get_or, cond, find, not, ◌==◌, ◌||◌, ◌+◌, take}
use Rattle.std.specs.List.{list_any, before_first, after_first, position_or_len, flat_map, All, AllByRecursion, AllPairs, Contains}
use Rattle.std.proofs.lemmas.Bool.{cases_Bool, or_cases, false_from_ne_true, eqb-true}
use Rattle.std.proofs.lemmas.List.Elements.{All-contains, All-from_recursion, recursion_from_All, Contains-append_right}
use Rattle.std.proofs.lemmas.List.Quantifiers.{all_pairs_push}
use Rattle.std.proofs.lemmas.List.Sums.{split_at_first, passes_at_first}
use Rattle.std.proofs.Math.Seq.{take-length}
use Rattle.command_line.specs.CommandWords.{Text, Item, InOneWord, InTwoWords, Declared, words_of, IsItem, option_of, declared_of, end_words, spelling, WordsSaid, AreSpelt, begins_with_hyphen, is_number, value_of}
use Rattle.command_line.specs.ReadingOrder.{WordsReading, nothing_read, behind_hyphen, name_and_value, option_in, give_number, take_word, read_words}
use Rattle.command_line.proofs.RowLemmas.{text_is, same_text}
use Rattle.command_line.proofs.TurnLemmas.{some_or_none}
use Rattle.command_line.proofs.LawLemmas.{IsOption, declared_word}

-- ---- where the reading may stand in front of `--`, behind it, and behind an option that waits

abbrev pub free : List (Text × Text) → List Text → WordsReading
free values declared = record { said = record { values = values; declared = declared }; waits = None; ended = false }

abbrev over : List (Text × Text) → List Text → WordsReading
over values declared = record { said = record { values = values; declared = declared }; waits = None; ended = true }

abbrev said_so : List (Text × Text) → List Text → WordsSaid
said_so values declared = record { values = values; declared = declared }

-- ---- options that are apart

abbrev pub Differ : Text × Text → Text × Text → Type 0
Differ a b = a.0 ≢ b.0

module _ {X : Type 0} (R : X → X → Type 0) where
  pub pairs_head : (x : X) (xs : List X) → AllPairs R (x ∷ xs) → All (R x) xs
  pairs_head x xs h k d l = h zero (suc k) d (omega arith) (omega arith)

  pub pairs_tail : (x : X) (xs : List X) → AllPairs R (x ∷ xs) → AllPairs R xs
  pairs_tail x xs h i j d a b = h (suc i) (suc j) d (omega arith) (omega arith)

pub other_text : (a b : Text) → a ≢ b → bytes_eq a b ≡ false
other_text a b ne = false_from_ne_true (bytes_eq a b) (λ e. ne (same_text a b e))

-- an option in front of which all are apart from it has no value yet
pub fresh : (name number : Text) (values more : List (Text × Text)) → AllPairs Differ (values ++ (name, number) ∷ more) → is_some (value_of name values) ≡ false
fresh name number [] more apart = refl
fresh name number (p ∷ ps) more apart =
    let ne : p.0 ≢ name = All-contains (Differ p) (ps ++ (name, number) ∷ more) (name, number) (pairs_head Differ p (ps ++ (name, number) ∷ more) apart)
    (Contains-append_right ps ((name, number) ∷ more) (name, number) (zero, (omega arith), refl)) in
    rw (other_text p.0 name ne) (fresh name number ps more (pairs_tail Differ p (ps ++ (name, number) ∷ more) apart))

-- and one that has none yet is apart from all
pub absent : (name : Text) (values : List (Text × Text)) → is_some (value_of name values) ≡ false → (k : ℕ) (d : Text × Text) → k < length values → (get_or values k d).0 ≢ name
absent name [] none k d l same = omega arith
absent name (p ∷ ps) none zero d l same = first (bytes_eq p.0 name) (ap (λ (x : Text). bytes_eq x name) same ∙ text_is name) none
  where
    first : (b : Bool) → b ≡ true → is_some (option_map (λ (q : Text × Text). q.1) (cond b (Some p) (find (λ (q : Text × Text). bytes_eq q.0 name) ps))) ≡ false → ⊥
    first true h e = true≢false e
    first false h e = true≢false (sym h)
absent name (p ∷ ps) none (suc k) d l same = absent name ps (later (bytes_eq p.0 name) none) k d (omega arith) same
  where
    later : (b : Bool) → is_some (option_map (λ (q : Text × Text). q.1) (cond b (Some p) (find (λ (q : Text × Text). bytes_eq q.0 name) ps))) ≡ false → is_some (value_of name ps) ≡ false
    later true e = absurd (true≢false e)
    later false e = e

-- ---- the words of items are read

-- behind `--` every word is declared
over_read : (names : List Text) (values : List (Text × Text)) (declared words : List Text) → read_words names (over values declared) words ≡ Some (said_so values (declared ++ words))
unfolding read_words
over_read names values declared [] = ap (λ (d : List Text). Some (said_so values d)) (sym (append-nil declared))
over_read names values declared (w ∷ ws) = over_read names values (declared ++ w ∷ []) ws ∙ ap (λ (d : List Text). Some (said_so values d)) (append_assoc declared (w ∷ []) ws)

-- the names of all options may be written
abbrev pub AreNames : List Text → Type 0
AreNames names = All (IsOption names) names

name_of : (names : List Text) → AreNames names → (name : Text) → Contains names name → IsOption names name
name_of names are name known = All-contains (IsOption names) names name are known

-- the item's option has no value yet
abbrev IsFresh : List (Text × Text) → Item → Type 0
IsFresh values (InOneWord name number) = is_some (value_of name values) ≡ false
IsFresh values (InTwoWords name number) = is_some (value_of name values) ≡ false
IsFresh values (Declared word) = Unit {0}

fresh_item : (values more : List (Text × Text)) (item : Item) → AllPairs Differ (values ++ (option_of item ++ more)) → IsFresh values item
fresh_item values more (InOneWord name number) apart = fresh name number values more apart
fresh_item values more (InTwoWords name number) apart = fresh name number values more apart
fresh_item values more (Declared word) apart = tt

one_taken : (names : List Text) (name number : Text) (values : List (Text × Text)) (declared : List Text) → IsOption names name → is_number number ≡ true → is_some (value_of name values) ≡ false
    → take_word names None (codes "--" ++ name ++ codes "=" ++ number) (free values declared) ≡ Some (free (values ++ (name, number) ∷ []) declared)
one_taken names name number values declared o digits none = rw (o.one_goes_on number, o.one number, o.known, digits, none) refl

two_taken : (names : List Text) (name : Text) (values : List (Text × Text)) (declared : List Text) → IsOption names name
    → take_word names None (codes "--" ++ name) (free values declared) ≡ Some (record (free values declared) { waits = Some name })
two_taken names name values declared o = rw (o.two_goes_on, o.two, o.known) refl

value_taken : (name number : Text) (values : List (Text × Text)) (declared : List Text) → is_number number ≡ true → is_some (value_of name values) ≡ false
    → give_number name number (record (free values declared) { waits = Some name }) ≡ Some (free (values ++ (name, number) ∷ []) declared)
value_taken name number values declared digits none = rw (digits, none) refl

item_taken : (names : List Text) → AreNames names → (values : List (Text × Text)) (declared : List Text) (item : Item) (rest : List Text) → IsItem names item → IsFresh values item
    → read_words names (free values declared) (words_of item ++ rest) ≡ read_words names (free (values ++ option_of item) (declared ++ declared_of item)) rest
unfolding read_words
item_taken names are values declared (InOneWord name number) rest is none =
    ap (option_and_then (λ (q : WordsReading). read_words names q rest)) (one_taken names name number values declared (name_of names are name is.0) is.1 none)
    ∙ ap (λ (d : List Text). read_words names (free (values ++ (name, number) ∷ []) d) rest) (sym (append-nil declared))
item_taken names are values declared (InTwoWords name number) rest is none =
    ap (option_and_then (λ (q : WordsReading). read_words names q (number ∷ rest))) (two_taken names name values declared (name_of names are name is.0))
    ∙ ap (option_and_then (λ (q : WordsReading). read_words names q rest)) (value_taken name number values declared is.1 none)
    ∙ ap (λ (d : List Text). read_words names (free (values ++ (name, number) ∷ []) d) rest) (sym (append-nil declared))
item_taken names are values declared (Declared word) rest is none =
    ap (option_and_then (λ (q : WordsReading). read_words names q rest)) (declared_word names word (free values declared) is refl)
    ∙ ap (λ (v : List (Text × Text)). read_words names (free v (declared ++ word ∷ [])) rest) (sym (append-nil values))

items_read : (names : List Text) → AreNames names → (values : List (Text × Text)) (declared : List Text) (items : List Item) (last : Option (List Text))
    → AllByRecursion (IsItem names) items → AllPairs Differ (values ++ flat_map option_of items)
    → read_words names (free values declared) (spelling items last) ≡ Some (said_so (values ++ flat_map option_of items) (declared ++ (flat_map declared_of items ++ unwrap_or last [])))
unfolding read_words
items_read names are values declared [] None each apart = ap₂ (λ (v : List (Text × Text)) (d : List Text). Some (said_so v d)) (sym (append-nil values)) (sym (append-nil declared))
items_read names are values declared [] (Some words) each apart = over_read names values declared words ∙ ap (λ (v : List (Text × Text)). Some (said_so v (declared ++ words))) (sym (append-nil values))
items_read names are values declared (item ∷ items) last each apart =
    ap (read_words names (free values declared)) (append_assoc (words_of item) (flat_map words_of items) (end_words last))
    ∙ item_taken names are values declared item (spelling items last) each.0 (fresh_item values (flat_map option_of items) item apart)
    ∙ items_read names are (values ++ option_of item) (declared ++ declared_of item) items last each.1
    (subst (AllPairs Differ) (sym (append_assoc values (option_of item) (flat_map option_of items))) apart)
    ∙ ap₂ (λ (v : List (Text × Text)) (d : List Text). Some (said_so v d)) (append_assoc values (option_of item) (flat_map option_of items))
    (append_assoc declared (declared_of item) (flat_map declared_of items ++ unwrap_or last []) ∙ ap (λ (d : List Text). declared ++ d) (sym (append_assoc (declared_of item) (flat_map declared_of items) (unwrap_or last []))))

-- words that are spelt are read, with what they say
pub spelt_is_read : (names words : List Text) (said : WordsSaid) → AreNames names → AreSpelt names words said → read_words names nothing_read words ≡ Some said
spelt_is_read names words said are s =
    ap (read_words names nothing_read) s.spelt
    ∙ items_read names are [] [] s.items s.last (recursion_from_All (IsItem names) s.items s.are_items.each) s.are_items.once
    ∙ ap Some (sym s.say)

-- ---- words that are read are spelt by items

-- a text with a `=` is what stands before the first one, the `=`, and what stands behind it
abbrev is_equals : ℕ → Bool
is_equals b = b == 61

place_below : (text : Text) → list_any is_equals text ≡ true → position_or_len is_equals text < length text
place_below [] e = absurd (true≢false (sym e))
place_below (c ∷ cs) e = go (is_equals c) e (place_below cs)
  where
    go : (b : Bool) → (b || list_any is_equals cs) ≡ true → (list_any is_equals cs ≡ true → position_or_len is_equals cs < length cs) → cond (not b) (1 + position_or_len is_equals cs) 0 < length (c ∷ cs)
    go true h k = omega arith
    go false h k = let below : position_or_len is_equals cs < length cs = k h in omega arith

place_past : (text : Text) → list_any is_equals text ≡ false → position_or_len is_equals text ≡ length text
place_past [] e = refl
place_past (c ∷ cs) e = go (is_equals c) e (place_past cs)
  where
    go : (b : Bool) → (b || list_any is_equals cs) ≡ false → (list_any is_equals cs ≡ false → position_or_len is_equals cs ≡ length cs) → cond (not b) (1 + position_or_len is_equals cs) 0 ≡ length (c ∷ cs)
    go true h k = absurd (true≢false h)
    go false h k = let past : position_or_len is_equals cs ≡ length cs = k h in omega arith

split_text : (text : Text) → list_any is_equals text ≡ true → text ≡ before_first is_equals text ++ 61 ∷ after_first is_equals text
split_text text e =
    let below : position_or_len is_equals text < length text = place_below text e in
    let is : get_or text (position_or_len is_equals text) 0 ≡ 61 = eqb-true (get_or text (position_or_len is_equals text) 0) 61 (passes_at_first is_equals text 0 below) in
    split_at_first is_equals text 0 below ∙ ap (λ (c : ℕ). before_first is_equals text ++ c ∷ after_first is_equals text) is

whole_text : (text : Text) → list_any is_equals text ≡ false → before_first is_equals text ≡ text
whole_text text e = ap (λ (n : ℕ). take n text) (place_past text e) ∙ take-length text

-- a name and perhaps a value
abbrev found : Text → Option Text → Text × Option Text
found name value = (name, value)

-- what an option's word has behind the name
abbrev value_words : Option Text → Text
value_words None = []
value_words (Some value) = 61 ∷ value

name_parts : (text : Text) (name : Text) (value : Option Text) → name_and_value text ≡ Some (found name value) → text ≡ name ++ value_words value
name_parts [] name value e = cc
name_parts (c ∷ cs) name value e = go (list_any is_equals (c ∷ cs)) refl e
  where
    go : (b : Bool) → list_any is_equals (c ∷ cs) ≡ b → Some (found (before_first is_equals (c ∷ cs)) (cond b (Some (after_first is_equals (c ∷ cs))) None)) ≡ Some (found name value) → c ∷ cs ≡ name ++ value_words value
    go true h e =
        split_text (c ∷ cs) h
        ∙ ap₂ (λ (n : Text) (v : Option Text). n ++ value_words v) (ap (λ (o : Option (Text × Option Text)). (unwrap_or o (name, value)).0) e) (ap (λ (o : Option (Text × Option Text)). (unwrap_or o (name, value)).1) e)
    go false h e =
        sym (append-nil (c ∷ cs)) ∙ ap (λ (n : Text). n ++ []) (sym (whole_text (c ∷ cs) h))
        ∙ ap₂ (λ (n : Text) (v : Option Text). n ++ value_words v) (ap (λ (o : Option (Text × Option Text)). (unwrap_or o (name, value)).0) e) (ap (λ (o : Option (Text × Option Text)). (unwrap_or o (name, value)).1) e)

after_hyphen : (word rest : Text) → behind_hyphen word ≡ Some rest → word ≡ 45 ∷ rest
after_hyphen [] rest e = cc
after_hyphen (c ∷ cs) rest e = elim (cases_Bool (c == 45)) [
  | inl h ↦ let is : Some cs ≡ Some rest = rw h at e in let same : cs ≡ rest = cc in ap₂ (λ (x : ℕ) (xs : Text). x ∷ xs) (eqb-true c 45 h) same
  | inr h ↦ let bad : None ≡ Some rest = rw h at e in cc
]

option_parts : (word name : Text) (value : Option Text) → option_in word ≡ Some (found name value) → word ≡ codes "--" ++ name ++ value_words value
option_parts word name value e = elim (some_or_none (behind_hyphen word)) [
  | inr n ↦ let bad : None ≡ Some (found name value) = rw n at e in cc
  | inl f ↦ elim (some_or_none (behind_hyphen f.0)) [
    | inr n ↦ let bad : None ≡ Some (found name value) = rw (f.1, n) at e in cc
    | inl g ↦ let text : name_and_value g.0 ≡ Some (found name value) = rw (f.1, g.1) at e in
        after_hyphen word f.0 f.1 ∙ ap (λ (t : Text). 45 ∷ t) (after_hyphen f.0 g.0 g.1 ∙ ap (λ (t : Text). 45 ∷ t) (name_parts g.0 name value text))
  ]
]

known_is : (names : List Text) (name : Text) → list_any (λ n. bytes_eq n name) names ≡ true → Contains names name
known_is [] name e = absurd (true≢false (sym e))
known_is (n ∷ ns) name e = elim (or_cases (bytes_eq n name) (list_any (λ m. bytes_eq m name) ns) e) [
  | inl h ↦ (zero, (omega arith), same_text n name h)
  | inr h ↦ Contains-append_right (n ∷ []) ns name (known_is ns name h)
]

-- how words behind such values and declared words are spelt
record Spelt (names : List Text) (values : List (Text × Text)) (declared words : List Text) (said : WordsSaid) : Type 0 where
  items : List Item
  last : Option (List Text)
  each : AllByRecursion (IsItem names) items
  spelt : words ≡ spelling items last
  values_are : said.values ≡ values ++ flat_map option_of items
  declared_are : said.declared ≡ declared ++ (flat_map declared_of items ++ unwrap_or last [])
  apart : AllPairs Differ said.values

-- an item more in front
item_before : (names : List Text) (values : List (Text × Text)) (declared words rest : List Text) (said : WordsSaid) (item : Item) → IsItem names item → words ≡ words_of item ++ rest
    → Spelt names (values ++ option_of item) (declared ++ declared_of item) rest said → Spelt names values declared words said
item_before names values declared words rest said item is e s = record {
  items = item ∷ s.items;
  last = s.last;
  each = (is, s.each);
  spelt = e ∙ ap (λ (w : List Text). words_of item ++ w) s.spelt ∙ sym (append_assoc (words_of item) (flat_map words_of s.items) (end_words s.last));
  values_are = s.values_are ∙ append_assoc values (option_of item) (flat_map option_of s.items);
  declared_are =
      s.declared_are ∙ append_assoc declared (declared_of item) (flat_map declared_of s.items ++ unwrap_or s.last [])
      ∙ ap (λ (d : List Text). declared ++ d) (sym (append_assoc (declared_of item) (flat_map declared_of s.items) (unwrap_or s.last [])));
  apart = s.apart;
}

-- an option that waits has the first word, and the rest is spelt
record Waited (names : List Text) (values : List (Text × Text)) (declared : List Text) (name : Text) (words : List Text) (said : WordsSaid) : Type 0 where
  number : Text
  rest : List Text
  are : words ≡ number ∷ rest
  digits : is_number number ≡ true
  more : Spelt names (values ++ (name, number) ∷ []) declared rest said

abbrev Reads : List Text → List (Text × Text) → List Text → Option Text → List Text → WordsSaid → Type 0
Reads names values declared None words said = Spelt names values declared words said
Reads names values declared (Some name) words said = Waited names values declared name words said

abbrev stand : List (Text × Text) → List Text → Option Text → WordsReading
stand values declared waits = record { said = record { values = values; declared = declared }; waits = waits; ended = false }

-- one more option apart from the others
pushed : (name number : Text) (values : List (Text × Text)) → AllPairs Differ values → is_some (value_of name values) ≡ false → AllPairs Differ (values ++ (name, number) ∷ [])
pushed name number values apart none = all_pairs_push Differ values (name, number) apart (λ k d l. absent name values none k d l)

nothing_left : (names : List Text) (values : List (Text × Text)) (declared : List Text) (said : WordsSaid) → AllPairs Differ values → Some (said_so values declared) ≡ Some said → Spelt names values declared [] said
nothing_left names values declared said apart e =
    let same : said_so values declared ≡ said = ap (λ (o : Option WordsSaid). unwrap_or o said) e in
    record {
      items = [];
      last = None;
      each = tt;
      spelt = refl;
      values_are = ap (λ (s : WordsSaid). s.values) (sym same) ∙ sym (append-nil values);
      declared_are = ap (λ (s : WordsSaid). s.declared) (sym same) ∙ sym (append-nil declared);
      apart = subst (λ (s : WordsSaid). AllPairs Differ s.values) same apart;
    }

ended_here : (names : List Text) (values : List (Text × Text)) (declared : List Text) (word : Text) (words : List Text) (said : WordsSaid) → AllPairs Differ values → bytes_eq word (codes "--") ≡ true
    → read_words names (over values declared) words ≡ Some said → Spelt names values declared (word ∷ words) said
ended_here names values declared word words said apart is e =
    let same : said_so values (declared ++ words) ≡ said = ap (λ (o : Option WordsSaid). unwrap_or o said) (sym (over_read names values declared words) ∙ e) in
    record {
      items = [];
      last = Some words;
      each = tt;
      spelt = ap (λ (w : Text). w ∷ words) (same_text word (codes "--") is);
      values_are = ap (λ (s : WordsSaid). s.values) (sym same) ∙ sym (append-nil values);
      declared_are = ap (λ (s : WordsSaid). s.declared) (sym same);
      apart = subst (λ (s : WordsSaid). AllPairs Differ s.values) same apart;
    }

read_spelt : (names : List Text) (values : List (Text × Text)) (declared : List Text) (waits : Option Text) (words : List Text) (said : WordsSaid) → AllPairs Differ values
    → read_words names (stand values declared waits) words ≡ Some said → Reads names values declared waits words said
unfolding read_words
read_spelt names values declared (Some name) [] said apart e = let bad : None ≡ Some said = e in cc
read_spelt names values declared (Some name) (number ∷ rest) said apart e = elim (cases_Bool (is_number number)) [
  | inr n ↦ let bad : None ≡ Some said = rw n at e in cc
  | inl digits ↦ elim (cases_Bool (is_some (value_of name values))) [
    | inl has ↦ let bad : None ≡ Some said = rw (digits, has) at e in cc
    | inr none ↦
        let next : read_words names (stand (values ++ (name, number) ∷ []) declared None) rest ≡ Some said = rw (digits, none) at e in
        record { number = number; rest = rest; are = refl; digits = digits; more = read_spelt names (values ++ (name, number) ∷ []) declared None rest said (pushed name number values apart none) next }
  ]
]
read_spelt names values declared None [] said apart e = nothing_left names values declared said apart e
read_spelt names values declared None (word ∷ words) said apart e = elim (cases_Bool (bytes_eq word (codes "--"))) [
  | inl end ↦ let next : read_words names (over values declared) words ≡ Some said = rw end at e in ended_here names values declared word words said apart end next
  | inr on ↦ elim (some_or_none (option_in word)) [
    | inr single ↦ elim (cases_Bool (begins_with_hyphen word)) [
      | inl hyphen ↦ let bad : None ≡ Some said = rw (on, single, hyphen) at e in cc
      | inr plain ↦
          let next : read_words names (stand values (declared ++ word ∷ []) None) words ≡ Some said = rw (on, single, plain) at e in
          item_before names values declared (word ∷ words) words said (Declared word) plain refl
          (subst (λ (v : List (Text × Text)). Spelt names v (declared ++ word ∷ []) words said) (sym (append-nil values)) (read_spelt names values (declared ++ word ∷ []) None words said apart next))
    ]
    | inl o ↦ elim (cases_Bool (list_any (λ n. bytes_eq n o.0.0) names)) [
      | inr unknown ↦ let bad : None ≡ Some said = rw (on, o.1, unknown) at e in cc
      | inl known ↦ option_read o.0.0 o.0.1 on o.1 known (λ v d w a x. read_spelt names v d w words said a x)
    ]
  ]
]
  where
    option_read : (name : Text) (value : Option Text) → bytes_eq word (codes "--") ≡ false → option_in word ≡ Some (name, value) → list_any (λ n. bytes_eq n name) names ≡ true
        → ((v : List (Text × Text)) (d : List Text) (w : Option Text) → AllPairs Differ v → read_words names (stand v d w) words ≡ Some said → Reads names v d w words said)
        → Spelt names values declared (word ∷ words) said
    option_read name None on o known go_on =
        let next : read_words names (stand values declared (Some name)) words ≡ Some said = rw (on, o, known) at e in
        let w : Waited names values declared name words said = go_on values declared (Some name) apart next in
        item_before names values declared (word ∷ words) w.rest said (InTwoWords name w.number) (known_is names name known, w.digits)
        (ap₂ (λ (x : Text) (xs : List Text). x ∷ xs) (option_parts word name None o ∙ append-nil (codes "--" ++ name)) w.are)
        (subst (λ (d : List Text). Spelt names (values ++ (name, w.number) ∷ []) d w.rest said) (sym (append-nil declared)) w.more)
    option_read name (Some number) on o known go_on = elim (cases_Bool (is_number number)) [
      | inr n ↦ let bad : None ≡ Some said = rw (on, o, known, n) at e in cc
      | inl digits ↦ elim (cases_Bool (is_some (value_of name values))) [
        | inl has ↦ let bad : None ≡ Some said = rw (on, o, known, digits, has) at e in cc
        | inr none ↦
            let next : read_words names (stand (values ++ (name, number) ∷ []) declared None) words ≡ Some said = rw (on, o, known, digits, none) at e in
            item_before names values declared (word ∷ words) words said (InOneWord name number) (known_is names name known, digits)
            (ap (λ (x : Text). x ∷ words) (option_parts word name (Some number) o ∙ sym (append_assoc (codes "--" ++ name) (codes "=") number)))
            (subst (λ (d : List Text). Spelt names (values ++ (name, number) ∷ []) d words said) (sym (append-nil declared))
            (go_on (values ++ (name, number) ∷ []) declared None (pushed name number values apart none) next))
      ]
    ]

no_pairs : AllPairs Differ []
no_pairs i j d a b = absurd (omega arith)

pub read_is_spelt : (names words : List Text) (said : WordsSaid) → read_words names nothing_read words ≡ Some said → AreSpelt names words said
read_is_spelt names words said e =
    let s : Spelt names [] [] words said = read_spelt names [] [] None words said no_pairs e in
    record {
      items = s.items;
      last = s.last;
      are_items = record { each = All-from_recursion (IsItem names) s.items s.each; once = subst (AllPairs Differ) s.values_are s.apart };
      spelt = s.spelt;
      say = ap₂ (λ (v : List (Text × Text)) (d : List Text). record { values = v; declared = d }) s.values_are s.declared_are;
    }
