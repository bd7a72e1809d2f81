-- Columns as bytes: sizes, and what is read from what was written.
use Rattle.std.specs.Int.{w64, bytes_high_first, cast_unsigned}
use Rattle.std.proofs.Common.{◌≡◌, ℤ, ℕ, ◌+◌, ◌-◌, ◌/◌, ◌%◌, eqb, ◌<◌, true, List, [], ◌∷◌, ◌++◌, length, take, drop, get_or, refl, sym, ap, ◌∙◌, length-append, arith, length-drop}
use Rattle.std.specs.Prelude.{sum_by}
use Rattle.std.proofs.lemmas.List.{length-replicate, take_all}
use Rattle.std.proofs.lemmas.List.Sums.{sum_by-cons}
use Rattle.block_model.specs.declared.value.Kind.{Kind}
use Rattle.block_model.specs.declared.value.Kind.TheVariants as kinds
use Rattle.block_model.specs.declared.value.Value.{Value}
use Rattle.block_model.specs.declared.value.Value.TheVariants.{Null, Int, Span, Net}
use Rattle.block_model.specs.Ranges.{lower_of, upper_of}
use Rattle.block_model.specs.RowSize.{value_size}
use Rattle.block_model.specs.ValuesOfKind.{has_kind}
use Rattle.std.specs.Prelude.{Option, None, Some}
use Rattle.page_layout.specs.RowFaults.{shifted, column_fault, columns_fault}
use Rattle.page_layout.proofs.Faults.{first_none, shifted-none}
use Rattle.page_layout.specs.RowBytes.{HaveKinds, column_bytes, columns_bytes, bound_bytes}

length-bound : (b : Option ℤ) → length (bound_bytes b) ≡ 8
length-bound None = refl
length-bound (Some b) = refl

-- a column has its bytes
pub length-column : (kind : Kind) (value : Value) → has_kind kind value ≡ true → length (column_bytes kind value) ≡ value_size kind
length-column kind Null h = length-replicate (value_size kind) 0
length-column kinds.Int (Int n) h = refl
length-column kinds.Int (Span r) h = absurd cc
length-column kinds.Int (Net n) h = absurd cc
length-column kinds.Span (Int n) h = absurd cc
length-column kinds.Span (Span r) h = omega (arith, length-append (bound_bytes (lower_of r)) (bound_bytes (upper_of r)), length-bound (lower_of r), length-bound (upper_of r))
length-column kinds.Span (Net n) h = absurd cc
length-column kinds.Net (Int n) h = absurd cc
length-column kinds.Net (Span r) h = absurd cc
length-column kinds.Net (Net n) h = refl

pub length-columns : (ks : List Kind) (vs : List Value) → HaveKinds ks vs → length (columns_bytes ks vs) ≡ sum_by value_size ks
unfolding columns_bytes
length-columns [] [] h = refl
length-columns [] (v ∷ vs) h = absurd h
length-columns (k ∷ ks) [] h = absurd h
length-columns (k ∷ ks) (v ∷ vs) h = omega (arith, sum_by-cons value_size k ks, length-append (column_bytes k v) (columns_bytes ks vs), length-column k v h.0, length-columns ks vs h.1)

-- a number in a column of its kind
pub int_column : (kind : Kind) (value : Value) (n : ℤ) (old new : List ℕ) → value ≡ Int n → has_kind kind value ≡ true → new ≡ bytes_high_first 8 (cast_unsigned w64 n) ++ drop 8 old → new ≡ column_bytes kind value ++ drop (value_size kind) old
int_column kinds.Int value n old new is h e = rw is e
int_column kinds.Span value n old new is h e = let no : has_kind kinds.Span (Int n) ≡ true = ap (has_kind kinds.Span) (sym is) ∙ h in absurd cc
int_column kinds.Net value n old new is h e = let no : has_kind kinds.Net (Int n) ≡ true = ap (has_kind kinds.Net) (sym is) ∙ h in absurd cc

pub columns_none : (ks : List Kind) (vs : List Value) → HaveKinds ks vs → length vs < 1 → columns_bytes ks vs ≡ []
unfolding columns_bytes
columns_none [] vs h short = refl
columns_none (k ∷ ks) [] h short = refl
columns_none (k ∷ ks) (v ∷ vs) h short = absurd (omega arith)

pub no_columns : (ks : List Kind) (vs : List Value) → HaveKinds ks vs → length vs < 1 → sum_by value_size ks ≡ 0
no_columns [] vs h short = refl
no_columns (k ∷ ks) [] h short = absurd h
no_columns (k ∷ ks) (v ∷ vs) h short = absurd (omega arith)

pub no_bytes : (l : List ℕ) → length l ≡ 0 → l ≡ []
no_bytes [] e = refl
no_bytes (x ∷ l) e = absurd (omega arith)

-- the columns behind the first one

pub rest_sizes : (ks : List Kind) → 0 < length ks → sum_by value_size ks ≡ value_size (get_or ks 0 kinds.Int) + sum_by value_size (take (length ks - 1) (drop 1 ks))
rest_sizes [] some = absurd (omega arith)
rest_sizes (k ∷ ks) some = sum_by-cons value_size k ks ∙ ap (λ (l : List Kind). value_size k + sum_by value_size l) (sym (take_all (length (k ∷ ks) - 1) ks (omega arith)))

pub rest_faults : (ks : List Kind) (bits : ℕ) (bytes : List ℕ) (size : ℕ) → 0 < length ks → size ≡ value_size (get_or ks 0 kinds.Int) → columns_fault ks bits bytes ≡ None → columns_fault (take (length ks - 1) (drop 1 ks)) (bits / 2) (take (length bytes - size) (drop size bytes)) ≡ None
unfolding columns_fault
rest_faults [] bits bytes size some is f = absurd (omega arith)
rest_faults (k ∷ ks) bits bytes size some is f =
    let behind = first_none (column_fault (eqb (bits % 2) 1) k bytes) (shifted (value_size k) (columns_fault ks (bits / 2) (drop (value_size k) bytes))) f in
    let whole : take (length bytes - size) (drop size bytes) ≡ drop (value_size k) bytes = take_all (length bytes - size) (drop size bytes) (omega (arith, length-drop size bytes)) ∙ ap (λ (n : ℕ). drop n bytes) is in
    (λ i. columns_fault (take_all (length (k ∷ ks) - 1) ks (omega arith) i) (bits / 2) (whole i)) ∙ shifted-none (value_size k) _ behind.1

pub length-have : (ks : List Kind) (vs : List Value) → HaveKinds ks vs → length vs ≡ length ks
length-have [] [] h = refl
length-have [] (v ∷ vs) h = absurd h
length-have (k ∷ ks) [] h = absurd h
length-have (k ∷ ks) (v ∷ vs) h = let rest = length-have ks vs h.1 in omega arith
