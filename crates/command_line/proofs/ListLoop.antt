-- Items that are read one after another.
use Rattle.std.proofs.Common.{◌≡◌, ℕ, ◌≤◌, ◌<◌, false, List, [], ◌∷◌, ◌++◌, length, Result, Ok, Err, refl, ap, ◌∙◌, append-nil, arith}
use Rattle.value_text.specs.TextReading.{Reading, mapped, both, begins}
use Rattle.value_text.proofs.Lawful.{left}
use Rattle.command_line.specs.DeclarationReading.{others_at, listed_at}
use Rattle.command_line.proofs.ListReading.{first_item}
use Rattle.command_line.proofs.MoreItems.{is_comma, ListRead, goes_on, goes_on_twice, others_next, others_stop, others_none}

-- an item behind what was read, and more items
abbrev with_more : {A : Type 0} → (List ℕ → ListRead A) → Result (A × List ℕ) (List ℕ) → ListRead A
with_more more o = mapped first_item (both (λ bytes. o) more) []

first_step : {A : Type 0} (x : A) (o : ListRead A) → with_more (λ bytes. o) (Ok (x, [])) ≡ goes_on (x ∷ []) o
first_step x (Ok y) = refl
first_step x (Err r) = refl

module _ {A : Type 0} (item : Reading A) (shrinks : (bytes : List ℕ) → length (left (item bytes)) ≤ length bytes) where
  -- the first item, and what is read behind it
  pub listed_first : (text : List ℕ) (x : A) (rest : List ℕ) → item text ≡ Ok (x, rest) → listed_at item text ≡ goes_on (x ∷ []) (others_at item rest)
  unfolding listed_at
  listed_first text x rest e = ap (with_more (others_at item)) e ∙ first_step x (others_at item rest)

  pub listed_stops : (text rest : List ℕ) → item text ≡ Err rest → listed_at item text ≡ Err rest
  unfolding listed_at
  listed_stops text rest e = ap (with_more (others_at item)) e

  -- less is left behind one item more
  pub next_shrinks : (prev bytes : List ℕ) (x : A) (rest : List ℕ) → prev ≡ 44 ∷ bytes → item bytes ≡ Ok (x, rest) → length rest < length prev
  next_shrinks prev bytes x rest f r =
      let long : length prev ≡ length (44 ∷ bytes) = ap length f in
      let same : length (left (item bytes)) ≡ length rest = ap (λ (o : Result (A × List ℕ) (List ℕ)). length (left o)) r in
      omega (arith, shrinks bytes)

  -- one item more
  pub goes_on_next : (text prev : List ℕ) (xs : List A) (bytes : List ℕ) (x : A) (rest : List ℕ)
      → listed_at item text ≡ goes_on xs (others_at item prev) → prev ≡ 44 ∷ bytes → item bytes ≡ Ok (x, rest) → listed_at item text ≡ goes_on (xs ++ x ∷ []) (others_at item rest)
  goes_on_next text prev xs bytes x rest e f r =
      e ∙ ap (λ l. goes_on xs (others_at item l)) f ∙ ap (goes_on xs) (others_next item shrinks bytes x rest r) ∙ goes_on_twice xs (x ∷ []) (others_at item rest)

  pub goes_on_stops : (text prev : List ℕ) (xs : List A) (bytes rest : List ℕ)
      → listed_at item text ≡ goes_on xs (others_at item prev) → prev ≡ 44 ∷ bytes → item bytes ≡ Err rest → listed_at item text ≡ Err rest
  goes_on_stops text prev xs bytes rest e f r = e ∙ ap (λ l. goes_on xs (others_at item l)) f ∙ ap (goes_on xs) (others_stop item shrinks bytes rest r)

  -- the end of the items
  pub goes_on_ends : (text : List ℕ) (xs : List A) (rest : List ℕ) → listed_at item text ≡ goes_on xs (others_at item rest) → begins is_comma rest ≡ false → listed_at item text ≡ Ok (xs, rest)
  goes_on_ends text xs rest e k = e ∙ ap (goes_on xs) (others_none item rest k) ∙ ap (λ l. Ok (l, rest)) (append-nil xs)
