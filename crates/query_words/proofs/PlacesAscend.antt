-- The words of a line stand one behind another, and so do those of its conditions.
use Rattle.std.proofs.Common.{◌≡◌, ℕ, suc, ◌+◌, ◌≤◌, ◌==◌, Bool, true, false, cond, List, [], ◌∷◌, ◌++◌, length, map, codes, Option, None, Some, refl, sym, ap, subst, ◌∙◌, append_assoc, length-append, arith, ◌⊎◌, inl, inr}
use Rattle.std.specs.List.{flat_map}
use Rattle.std.specs.Option.{option_map, option_and_then}
use Rattle.std.specs.Str.{bytes_eq}
use Rattle.std.proofs.lemmas.List.{map-append}
use Rattle.query_words.specs.Words.{PlacedWord, ended, words_from, words_of}
use Rattle.query_words.specs.Verbs.{verb_of}
use Rattle.query_words.specs.declared.verb.Verb.{Verb}
use Rattle.query_words.specs.declared.verb.Verb.TheVariants as verbs
use Rattle.query_words.specs.Grammar.{SaidCond, Compared, Null, NotNull, SaidStatement, Begin, Commit, Rollback, Insert, Select, Delete, Explain, Summarize, Desummarize, Vacuum, Work, SaidOrder, Whole, Start, Nothing, Say, is_comment}
use Rattle.query_words.specs.Parsed.{cond_of_words, conds_behind, conds_from, statement_behind, statement_of_words, order_behind, order_of_words, said_of}
use Rattle.query_words.specs.RefusalPlaces.{places_of, places_behind, Ascends, StatementAscends}

abbrev at_of : PlacedWord → ℕ
at_of w = w.at

pub weaker : (a b : ℕ) (ns : List ℕ) → a ≤ b → Ascends b ns → Ascends a ns
weaker a b [] h k = tt
weaker a b (n ∷ ns) h k = (omega (arith, k.0), k.1)

ended_up : (at : ℕ) (word : List ℕ) (words : List PlacedWord) (ns : List ℕ) → Ascends (at + length word) (map at_of words ++ ns) → Ascends at (map at_of (ended at word words) ++ ns)
ended_up at [] words ns h = weaker at (at + 0) (map at_of words ++ ns) (omega arith) h
ended_up at (c ∷ cs) words ns h = (omega arith, weaker (at + 1) (at + length (c ∷ cs)) (map at_of words ++ ns) (let k : length (c ∷ cs) ≡ suc (length cs) = refl in omega arith) h)

space_step : (at c : ℕ) (word cs : List ℕ) (b : Bool)
    → Ascends (at + length word + 1) (map at_of (words_from (at + length word + 1) [] cs) ++ (at + length word + length (c ∷ cs)) ∷ [])
    → Ascends at (map at_of (words_from at (word ++ c ∷ []) cs) ++ (at + length word + length (c ∷ cs)) ∷ [])
    → Ascends at (map at_of (cond b (ended at word (words_from (at + length word + 1) [] cs)) (words_from at (word ++ c ∷ []) cs)) ++ (at + length word + length (c ∷ cs)) ∷ [])
space_step at c word cs true h k =
    ended_up at word (words_from (at + length word + 1) [] cs) ((at + length word + length (c ∷ cs)) ∷ [])
    (weaker (at + length word) (at + length word + 1) (map at_of (words_from (at + length word + 1) [] cs) ++ (at + length word + length (c ∷ cs)) ∷ []) (omega arith) h)
space_step at c word cs false h k = k

words_up : (at : ℕ) (word bytes : List ℕ) → Ascends at (map at_of (words_from at word bytes) ++ (at + length word + length bytes) ∷ [])
words_up at word [] = ended_up at word [] ((at + length word + 0) ∷ []) (omega arith, tt)
words_up at word (c ∷ cs) =
    let one : length (c ∷ cs) ≡ suc (length cs) = refl in
    let long : length (word ++ c ∷ []) ≡ length word + 1 = length-append word (c ∷ []) in
    let first : at + length word + 1 + 0 + length cs ≡ at + length word + length (c ∷ cs) = omega arith in
    let joined : at + length (word ++ c ∷ []) + length cs ≡ at + length word + length (c ∷ cs) = omega arith in
    space_step at c word cs (c == 32)
    (subst (λ n. Ascends (at + length word + 1) (map at_of (words_from (at + length word + 1) [] cs) ++ n ∷ [])) first (words_up (at + length word + 1) [] cs))
    (subst (λ n. Ascends at (map at_of (words_from at (word ++ c ∷ []) cs) ++ n ∷ [])) joined (words_up at (word ++ c ∷ []) cs))

pub line_up : (line : List ℕ) → Ascends 0 (map at_of (words_of line) ++ length line ∷ [])
line_up line = subst (λ n. Ascends 0 (map at_of (words_of line) ++ n ∷ [])) (let k : 0 + 0 + length line ≡ length line = omega arith in k) (words_up 0 [] line)

-- what stands behind may be other numbers that ascend
tail_up : (xs ys zs : List ℕ) (b : ℕ) → ((c : ℕ) → Ascends c ys → Ascends c zs) → Ascends b (xs ++ ys) → Ascends b (xs ++ zs)
tail_up [] ys zs b f h = f b h
tail_up (x ∷ xs) ys zs b f h = (h.0, tail_up xs ys zs (x + 1) f h.1)

-- of four words
four_up : (j c p v : PlacedWord) (found : SaidCond PlacedWord) (ns : List ℕ) (b : ℕ) (is not : Bool)
    → cond is (cond not None (Some (Null c))) (Some (Compared c p v)) ≡ Some found → Ascends b (j.at ∷ c.at ∷ p.at ∷ v.at ∷ ns) → Ascends b (places_of found ++ ns)
four_up j c p v found ns b true true e h = cc
four_up j c p v found ns b true false e h =
    let same : Null c ≡ found = cc in
    subst (λ (x : SaidCond PlacedWord). Ascends b (places_of x ++ ns)) same
    (omega (arith, h.0, h.1.0), weaker (c.at + 1) (v.at + 1) ns (omega (arith, h.1.1.0, h.1.1.1.0)) h.1.1.1.1)
four_up j c p v found ns b false not e h =
    let same : Compared c p v ≡ found = cc in
    subst (λ (x : SaidCond PlacedWord). Ascends b (places_of x ++ ns)) same (omega (arith, h.0, h.1.0), h.1.1)

cond_up : (l : List PlacedWord) (found : SaidCond PlacedWord) (ns : List ℕ) (b : ℕ) → cond_of_words l ≡ Some found → Ascends b (map at_of l ++ ns) → Ascends b (places_of found ++ ns)
cond_up [] found ns b e h = cc
cond_up (j ∷ []) found ns b e h = cc
cond_up (j ∷ c ∷ []) found ns b e h = cc
cond_up (j ∷ c ∷ p ∷ []) found ns b e h = cc
cond_up (j ∷ c ∷ p ∷ v ∷ []) found ns b e h = four_up j c p v found ns b (bytes_eq p.text (codes "is")) (bytes_eq v.text (codes "not")) e h
cond_up (j ∷ c ∷ p ∷ v ∷ w ∷ []) found ns b e h =
    let same : NotNull c ≡ found = cc in
    subst (λ (x : SaidCond PlacedWord). Ascends b (places_of x ++ ns)) same
    (omega (arith, h.0, h.1.0), weaker (c.at + 1) (w.at + 1) ns (omega (arith, h.1.1.0, h.1.1.1.0, h.1.1.1.1.0)) h.1.1.1.1.1)
cond_up (j ∷ c ∷ p ∷ v ∷ w ∷ x ∷ l) found ns b e h = cc

abbrev Conds : Type 0
Conds = List (SaidCond PlacedWord)

behind_up : (l words : List PlacedWord) (b : ℕ) (o : Option (SaidCond PlacedWord)) → cond_of_words l ≡ o → Ascends b (map at_of l ++ map at_of words)
    → (Ascends b (map at_of (l ++ words)) → Ascends b (flat_map places_of (conds_from l words))) → ((c : ℕ) → Ascends c (map at_of words) → Ascends c (flat_map places_of (conds_from [] words)))
    → Ascends b (flat_map places_of (conds_behind o (conds_from l words) (conds_from [] words)))
behind_up l words b None e h on next = on (subst (Ascends b) (sym (map-append at_of l words)) h)
behind_up l words b (Some found) e h on next =
    cond_up l found (flat_map places_of (conds_from [] words)) b e (tail_up (map at_of l) (map at_of words) (flat_map places_of (conds_from [] words)) b next h)

conds_up : (so_far words : List PlacedWord) (b : ℕ) → Ascends b (map at_of (so_far ++ words)) → Ascends b (flat_map places_of (conds_from so_far words))
conds_up so_far [] b h = tt
conds_up so_far (w ∷ ws) b h =
    let l : List PlacedWord = so_far ++ w ∷ [] in
    let all : map at_of (so_far ++ w ∷ ws) ≡ map at_of l ++ map at_of ws = ap (map at_of) (sym (append_assoc so_far (w ∷ []) ws)) ∙ map-append at_of l ws in
    behind_up l ws b (cond_of_words l) refl (subst (Ascends b) all h) (λ k. conds_up l ws b k) (λ c k. conds_up [] ws c k)

pub conds_in_order : (words : List PlacedWord) (b : ℕ) → Ascends b (map at_of words) → Ascends b (flat_map places_of (conds_from [] words))
conds_in_order words b h = conds_up [] words b h

-- of a statement
abbrev Up : ℕ → SaidStatement PlacedWord → Type 0
Up end st = Ascends 0 (places_behind end st)

without_last : (xs ys : List ℕ) (b : ℕ) → Ascends b (xs ++ ys) → Ascends b xs
without_last [] ys b h = tt
without_last (x ∷ xs) ys b h = (h.0, without_last xs ys (x + 1) h.1)

conds_behind_up : (table : PlacedWord) (ws : List PlacedWord) (end b : ℕ) → Ascends b (map at_of (table ∷ ws) ++ end ∷ []) → Ascends 0 (flat_map places_of (conds_from [] ws))
conds_behind_up table ws end b h =
    conds_in_order ws 0 (weaker 0 (table.at + 1) (map at_of ws) (omega arith) (without_last (map at_of ws) (end ∷ []) (table.at + 1) h.1))

statement_up : (v : Verb) (ws : List PlacedWord) (end b : ℕ) (st : SaidStatement PlacedWord) → statement_behind v ws ≡ Some st → Ascends b (map at_of ws ++ end ∷ []) → Up end st
statement_up verbs.Begin ws end b st e h = let same : Begin ≡ st = cc in subst (Up end) same tt
statement_up verbs.Commit ws end b st e h = let same : Commit ≡ st = cc in subst (Up end) same tt
statement_up verbs.Rollback ws end b st e h = let same : Rollback ≡ st = cc in subst (Up end) same tt
statement_up verbs.Insert [] end b st e h = cc
statement_up verbs.Insert (table ∷ values) end b st e h =
    let same : Insert table values ≡ st = cc in subst (Up end) same (weaker 0 (table.at + 1) (map at_of values ++ end ∷ []) (omega arith) h.1)
statement_up verbs.Select [] end b st e h = cc
statement_up verbs.Select (table ∷ ws) end b st e h = let same : Select table (conds_from [] ws) ≡ st = cc in subst (Up end) same (conds_behind_up table ws end b h)
statement_up verbs.Delete [] end b st e h = cc
statement_up verbs.Delete (table ∷ ws) end b st e h = let same : Delete table (conds_from [] ws) ≡ st = cc in subst (Up end) same (conds_behind_up table ws end b h)
statement_up verbs.Explain [] end b st e h = cc
statement_up verbs.Explain (table ∷ ws) end b st e h = let same : Explain table (conds_from [] ws) ≡ st = cc in subst (Up end) same (conds_behind_up table ws end b h)
statement_up verbs.Summarize [] end b st e h = cc
statement_up verbs.Summarize (index ∷ []) end b st e h = let same : Summarize index None ≡ st = cc in subst (Up end) same tt
statement_up verbs.Summarize (index ∷ block ∷ ws) end b st e h = let same : Summarize index (Some block) ≡ st = cc in subst (Up end) same tt
statement_up verbs.Desummarize [] end b st e h = cc
statement_up verbs.Desummarize (index ∷ []) end b st e h = cc
statement_up verbs.Desummarize (index ∷ block ∷ ws) end b st e h = let same : Desummarize index block ≡ st = cc in subst (Up end) same tt
statement_up verbs.Vacuum [] end b st e h = cc
statement_up verbs.Vacuum (table ∷ ws) end b st e h = let same : Vacuum table ≡ st = cc in subst (Up end) same tt
statement_up verbs.Work ws end b st e h = let same : Work ≡ st = cc in subst (Up end) same tt
statement_up verbs.Start ws end b st e h = cc
statement_up verbs.Step ws end b st e h = cc
statement_up verbs.Finish ws end b st e h = cc

-- an order of the statement
abbrev IsOrderOf : SaidOrder PlacedWord → SaidStatement PlacedWord → Type 0
IsOrderOf order st = (order ≡ Whole st) ⊎ (order ≡ Start st)

made_whole : (o : Option (SaidStatement PlacedWord)) (order : SaidOrder PlacedWord) (st : SaidStatement PlacedWord) → option_map Whole o ≡ Some order → IsOrderOf order st → o ≡ Some st
made_whole None order st e of = cc
made_whole (Some x) order st e (inl is) = cc
made_whole (Some x) order st e (inr is) = cc

made_start : (o : Option (SaidStatement PlacedWord)) (order : SaidOrder PlacedWord) (st : SaidStatement PlacedWord) → option_map Start o ≡ Some order → IsOrderOf order st → o ≡ Some st
made_start None order st e of = cc
made_start (Some x) order st e (inl is) = cc
made_start (Some x) order st e (inr is) = cc

-- by the verb that was found
from_verb : {A : Type 0} (o : Option Verb) (f : Verb → Option A) (x : A) (P : Type 0) → option_and_then f o ≡ Some x → ((v : Verb) → f v ≡ Some x → P) → P
from_verb None f x P e next = cc
from_verb (Some v) f x P e next = next v e

started_up : (language : List Verb) (ws : List PlacedWord) (end b : ℕ) (st : SaidStatement PlacedWord) → statement_of_words language ws ≡ Some st → Ascends b (map at_of ws ++ end ∷ []) → Up end st
started_up language [] end b st e h = cc
started_up language (verb ∷ ws) end b st e h =
    from_verb (verb_of language verb.text) (λ v. statement_behind v ws) st (Up end st) e (λ v k. statement_up v ws end (verb.at + 1) st k h.1)

order_up : (language : List Verb) (v : Verb) (ws : List PlacedWord) (end b : ℕ) (order : SaidOrder PlacedWord) (st : SaidStatement PlacedWord) → order_behind language v ws ≡ Some order
    → IsOrderOf order st → Ascends b (map at_of ws ++ end ∷ []) → Up end st
order_up language verbs.Begin ws end b order st e of h = statement_up verbs.Begin ws end b st (made_whole (statement_behind verbs.Begin ws) order st e of) h
order_up language verbs.Commit ws end b order st e of h = statement_up verbs.Commit ws end b st (made_whole (statement_behind verbs.Commit ws) order st e of) h
order_up language verbs.Rollback ws end b order st e of h = statement_up verbs.Rollback ws end b st (made_whole (statement_behind verbs.Rollback ws) order st e of) h
order_up language verbs.Insert ws end b order st e of h = statement_up verbs.Insert ws end b st (made_whole (statement_behind verbs.Insert ws) order st e of) h
order_up language verbs.Select ws end b order st e of h = statement_up verbs.Select ws end b st (made_whole (statement_behind verbs.Select ws) order st e of) h
order_up language verbs.Delete ws end b order st e of h = statement_up verbs.Delete ws end b st (made_whole (statement_behind verbs.Delete ws) order st e of) h
order_up language verbs.Explain ws end b order st e of h = statement_up verbs.Explain ws end b st (made_whole (statement_behind verbs.Explain ws) order st e of) h
order_up language verbs.Summarize ws end b order st e of h = statement_up verbs.Summarize ws end b st (made_whole (statement_behind verbs.Summarize ws) order st e of) h
order_up language verbs.Desummarize ws end b order st e of h = statement_up verbs.Desummarize ws end b st (made_whole (statement_behind verbs.Desummarize ws) order st e of) h
order_up language verbs.Vacuum ws end b order st e of h = statement_up verbs.Vacuum ws end b st (made_whole (statement_behind verbs.Vacuum ws) order st e of) h
order_up language verbs.Work ws end b order st e of h = statement_up verbs.Work ws end b st (made_whole (statement_behind verbs.Work ws) order st e of) h
order_up language verbs.Start ws end b order st e of h = started_up language ws end b st (made_start (statement_of_words language ws) order st e of) h
order_up language verbs.Step ws end b order st e (inl is) h = cc
order_up language verbs.Step ws end b order st e (inr is) h = cc
order_up language verbs.Finish ws end b order st e (inl is) h = cc
order_up language verbs.Finish ws end b order st e (inr is) h = cc

orders_up : (language : List Verb) (ws : List PlacedWord) (end b : ℕ) (order : SaidOrder PlacedWord) (st : SaidStatement PlacedWord) → order_of_words language ws ≡ Some order
    → IsOrderOf order st → Ascends b (map at_of ws ++ end ∷ []) → Up end st
orders_up language [] end b order st e of h = cc
orders_up language (verb ∷ ws) end b order st e of h =
    from_verb (verb_of language verb.text) (λ v. order_behind language v ws) order (Up end st) e (λ v k. order_up language v ws end (verb.at + 1) order st k of h.1)

said_order : (b : Bool) (word : PlacedWord) (words : List PlacedWord) (o : Option (SaidOrder PlacedWord)) (session : PlacedWord) (order : SaidOrder PlacedWord)
    → cond b (Some (Nothing words)) (option_map (λ x. Say word x) o) ≡ Some (Say session order) → o ≡ Some order
said_order true word words o session order e = cc
said_order false word words None session order e = cc
said_order false word words (Some x) session order e = cc

line_says : (language : List Verb) (words : List PlacedWord) (end b : ℕ) (session : PlacedWord) (order : SaidOrder PlacedWord) (st : SaidStatement PlacedWord)
    → said_of language words ≡ Some (Say session order) → IsOrderOf order st → Ascends b (map at_of words ++ end ∷ []) → Up end st
line_says language [] end b session order st e of h = cc
line_says language (word ∷ ws) end b session order st e of h =
    orders_up language ws end (word.at + 1) order st (said_order (is_comment word.text) word (word ∷ ws) (order_of_words language ws) session order e) of h.1

pub statement_in_order : StatementAscends
statement_in_order language line session order statement e of = line_says language (words_of line) (length line) 0 session order statement e of (line_up line)
