-- Further items, each behind a comma, as many as there are.
use Rattle.std.proofs.Common.{◌≡◌, ℕ, zero, suc, ◌+◌, ◌≤◌, ◌<◌, ◌==◌, ◌≢◌, ◌⊎◌, inl, inr, Bool, true, false, List, [], ◌∷◌, ◌++◌, length, Result, Ok, Err, refl, sym, ap, subst, ◌∙◌, append_assoc, arith}
use Rattle.std.proofs.lemmas.Bool.Decides.{eqb_tells}
use Rattle.value_text.specs.TextReading.{Reading, ◌>>=◌, mapped, both, begins, nothing, byte_at}
use Rattle.value_text.proofs.Lawful.{left, choice_second}
use Rattle.command_line.specs.DeclarationReading.{more_at, others_at}

abbrev pub is_comma : ℕ → Bool
is_comma c = c == 44

abbrev pub next_item : {A : Type 0} → Unit {0} × (A × List A) → List A
next_item x = x.1.0 ∷ x.1.1

abbrev pub ListRead : Type 0 → Type 0
ListRead A = Result (List A × List ℕ) (List ℕ)

-- those items, and what is read behind them
abbrev pub goes_on : {A : Type 0} → List A → ListRead A → ListRead A
goes_on xs o = o >>= λ x. Ok (xs ++ x.0, x.1)

abbrev with_next : {A : Type 0} → (List ℕ → ListRead A) → Result (A × List ℕ) (List ℕ) → ListRead A
with_next more o = mapped next_item (both (nothing tt) (both (λ bytes. o) more)) []

next_step : {A : Type 0} (x : A) (o : ListRead A) → with_next (λ bytes. o) (Ok (x, [])) ≡ goes_on (x ∷ []) o
next_step x (Ok y) = refl
next_step x (Err r) = refl

pub goes_on_twice : {A : Type 0} (xs ys : List A) (o : ListRead A) → goes_on xs (goes_on ys o) ≡ goes_on (xs ++ ys) o
goes_on_twice xs ys (Err r) = refl
goes_on_twice xs ys (Ok x) = ap (λ l. Ok (l, x.1)) (sym (append_assoc xs ys x.0))

left_on : {A : Type 0} (xs : List A) (o : ListRead A) → left (goes_on xs o) ≡ left o
left_on xs (Ok x) = refl
left_on xs (Err r) = refl

comma_step : (P : List ℕ → Type 0) → ((bytes : List ℕ) → begins is_comma bytes ≡ false → P bytes) → ((bytes : List ℕ) → P (44 ∷ bytes)) → (c : ℕ) (cs : List ℕ)
    → ((c == 44) ≡ true) × (c ≡ 44) ⊎ ((c == 44) ≡ false) × (c ≢ 44) → P (c ∷ cs)
comma_step P none comma c cs (inl t) = subst (λ (n : ℕ). P (n ∷ cs)) (sym t.1) (comma cs)
comma_step P none comma c cs (inr t) = none (c ∷ cs) t.0

-- bytes begin with a comma or not
by_comma : (P : List ℕ → Type 0) → ((bytes : List ℕ) → begins is_comma bytes ≡ false → P bytes) → ((bytes : List ℕ) → P (44 ∷ bytes)) → (bytes : List ℕ) → P bytes
by_comma P none comma [] = none [] refl
by_comma P none comma (c ∷ cs) = comma_step P none comma c cs (eqb_tells c 44)

module _ {A : Type 0} (item : Reading A) where
  more_next : (n : ℕ) (bytes : List ℕ) (x : A) (rest : List ℕ) → item bytes ≡ Ok (x, rest) → more_at item (suc n) (44 ∷ bytes) ≡ goes_on (x ∷ []) (more_at item n rest)
  unfolding more_at
  more_next n bytes x rest e = ap (with_next (more_at item n)) e ∙ next_step x (more_at item n rest)

  more_stops : (n : ℕ) (bytes rest : List ℕ) → item bytes ≡ Err rest → more_at item (suc n) (44 ∷ bytes) ≡ Err rest
  unfolding more_at
  more_stops n bytes rest e = ap (with_next (more_at item n)) e

  more_none : (n : ℕ) (bytes : List ℕ) → begins is_comma bytes ≡ false → more_at item n bytes ≡ Ok ([], bytes)
  unfolding more_at
  more_none zero bytes e = refl
  more_none (suc n) bytes e = choice_second is_comma (mapped next_item (both (byte_at 44) (both item (more_at item n)))) (nothing []) bytes e

  more_full : (bytes : List ℕ) → more_at item 0 bytes ≡ Ok ([], bytes)
  unfolding more_at
  more_full bytes = refl

-- no item leaves more than there is
module _ {A : Type 0} (item : Reading A) (shrinks : (bytes : List ℕ) → length (left (item bytes)) ≤ length bytes) where
  abbrev rest_of : ℕ → List ℕ → List ℕ
  rest_of n bytes = left (more_at item n bytes)

  leaves_comma : (n : ℕ) (bytes : List ℕ) (o : Result (A × List ℕ) (List ℕ)) → item bytes ≡ o → ((behind : List ℕ) → length (rest_of n behind) ≤ length behind)
      → length (rest_of (suc n) (44 ∷ bytes)) ≤ length (44 ∷ bytes)
  leaves_comma n bytes (Err r) e h =
      let here : length (rest_of (suc n) (44 ∷ bytes)) ≡ length r = ap (λ o. length (left o)) (more_stops item n bytes r e) in
      let item_leaves : length (left (item bytes)) ≡ length r = ap (λ (o : Result (A × List ℕ) (List ℕ)). length (left o)) e in
      omega (arith, shrinks bytes)
  leaves_comma n bytes (Ok p) e h =
      let here : length (rest_of (suc n) (44 ∷ bytes)) ≡ length (rest_of n p.1) =
      ap (λ o. length (left o)) (more_next item n bytes p.0 p.1 e) ∙ ap length (left_on (p.0 ∷ []) (more_at item n p.1)) in
      let item_leaves : length (left (item bytes)) ≡ length p.1 = ap (λ (o : Result (A × List ℕ) (List ℕ)). length (left o)) e in
      omega (arith, shrinks bytes, h p.1)

  more_leaves : (n : ℕ) (bytes : List ℕ) → length (rest_of n bytes) ≤ length bytes
  more_leaves zero bytes =
      let here : length (rest_of 0 bytes) ≡ length bytes = ap (λ o. length (left o)) (more_full item bytes) in
      omega arith
  more_leaves (suc n) bytes =
      by_comma (λ b. length (rest_of (suc n) b) ≤ length b)
      (λ b e. let here : length (rest_of (suc n) b) ≡ length b = ap (λ o. length (left o)) (more_none item (suc n) b e) in omega arith)
      (λ b. leaves_comma n b (item b) refl (λ c. more_leaves n c)) bytes

  -- so many items are enough where fewer bytes are read
  abbrev Enough : ℕ → List ℕ → List ℕ → Type 0
  Enough n bytes rest = length bytes < n + length rest

  enough_comma : (n m : ℕ) (bytes : List ℕ) (o : Result (A × List ℕ) (List ℕ)) → item bytes ≡ o
      → ((behind : List ℕ) → Enough n behind (rest_of n behind) → Enough m behind (rest_of n behind) → more_at item m behind ≡ more_at item n behind)
      → Enough (suc n) (44 ∷ bytes) (rest_of (suc n) (44 ∷ bytes)) → Enough (suc m) (44 ∷ bytes) (rest_of (suc n) (44 ∷ bytes)) → more_at item (suc m) (44 ∷ bytes) ≡ more_at item (suc n) (44 ∷ bytes)
  enough_comma n m bytes (Err r) e h p q = more_stops item m bytes r e ∙ sym (more_stops item n bytes r e)
  enough_comma n m bytes (Ok x) e h p q =
      let here : length (rest_of (suc n) (44 ∷ bytes)) ≡ length (rest_of n x.1) =
      ap (λ o. length (left o)) (more_next item n bytes x.0 x.1 e) ∙ ap length (left_on (x.0 ∷ []) (more_at item n x.1)) in
      let item_leaves : length (left (item bytes)) ≡ length x.1 = ap (λ (o : Result (A × List ℕ) (List ℕ)). length (left o)) e in
      let less : length (left (item bytes)) ≤ length bytes = shrinks bytes in
      let size : length (44 ∷ bytes) ≡ suc (length bytes) = refl in
      more_next item m bytes x.0 x.1 e ∙ ap (goes_on (x.0 ∷ [])) (h x.1 (omega arith) (omega arith)) ∙ sym (more_next item n bytes x.0 x.1 e)

  -- and so many more say nothing
  more_enough : (n m : ℕ) (bytes : List ℕ) → Enough n bytes (rest_of n bytes) → Enough m bytes (rest_of n bytes) → more_at item m bytes ≡ more_at item n bytes
  more_enough zero m bytes p q =
      let here : length (rest_of 0 bytes) ≡ length bytes = ap (λ o. length (left o)) (more_full item bytes) in
      absurd (omega arith)
  more_enough (suc n) zero bytes p q = absurd (omega (arith, more_leaves (suc n) bytes))
  more_enough (suc n) (suc m) bytes p q =
      by_comma (λ b. Enough (suc n) b (rest_of (suc n) b) → Enough (suc m) b (rest_of (suc n) b) → more_at item (suc m) b ≡ more_at item (suc n) b)
      (λ b e h k. more_none item (suc m) b e ∙ sym (more_none item (suc n) b e))
      (λ b h k. enough_comma n m b (item b) refl (λ c i j. more_enough n m c i j) h k) bytes p q

  -- others are read one after another
  pub others_next : (bytes : List ℕ) (x : A) (rest : List ℕ) → item bytes ≡ Ok (x, rest) → others_at item (44 ∷ bytes) ≡ goes_on (x ∷ []) (others_at item rest)
  unfolding others_at
  others_next bytes x rest e =
      let item_leaves : length (left (item bytes)) ≡ length rest = ap (λ (o : Result (A × List ℕ) (List ℕ)). length (left o)) e in
      let less : length (left (item bytes)) ≤ length bytes = shrinks bytes in
      let count : length (44 ∷ bytes) + 1 ≡ suc (length bytes + 1) = omega arith in
      ap (λ n. more_at item n (44 ∷ bytes)) count ∙ more_next item (length bytes + 1) bytes x rest e
      ∙ ap (goes_on (x ∷ [])) (more_enough (length rest + 1) (length bytes + 1) rest (omega arith) (omega arith))

  pub others_stop : (bytes rest : List ℕ) → item bytes ≡ Err rest → others_at item (44 ∷ bytes) ≡ Err rest
  unfolding others_at
  others_stop bytes rest e =
      let count : length (44 ∷ bytes) + 1 ≡ suc (length bytes + 1) = omega arith in
      ap (λ n. more_at item n (44 ∷ bytes)) count ∙ more_stops item (length bytes + 1) bytes rest e

  -- and more bytes behind those that are left say nothing
  pub others_same : (n : ℕ) (bytes rest : List ℕ) (o : ListRead A) → more_at item n bytes ≡ o → left o ≡ rest → length bytes < n + length rest → others_at item bytes ≡ o
  unfolding others_at
  others_same n bytes rest o e k p =
      let here : length (rest_of n bytes) ≡ length rest = ap (λ x. length (left x)) e ∙ ap length k in
      more_enough n (length bytes + 1) bytes (omega arith) (omega arith) ∙ e

-- where no comma stands, there are none
pub others_none : {A : Type 0} (item : Reading A) (bytes : List ℕ) → begins is_comma bytes ≡ false → others_at item bytes ≡ Ok ([], bytes)
unfolding others_at
others_none item bytes e = more_none item (length bytes + 1) bytes e
