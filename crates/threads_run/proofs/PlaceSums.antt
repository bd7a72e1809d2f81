-- sums over the places of a list, and the shares of workers
use Rattle.std.proofs.Common.{arith, ◌≡◌, ◌∙◌, refl, sym, ap, ℕ, zero, suc, ◌+◌, ◌<◌, Bool, true, false, List, [], ◌∷◌, ◌++◌, length, take, drop}
use Rattle.std.specs.Prelude.{slice_index_or, All}
use Rattle.std.specs.List.{sum_by}
use Rattle.std.proofs.lemmas.List.{take_at}
use Rattle.std.proofs.lemmas.List.Sums.{sum_by-cons}
use Rattle.session_threads.specs.Workers.{one_if}
use Rattle.plain_script.specs.SessionLines.{sum_below}

first_apart : (n : ℕ) (g : ℕ → ℕ) → sum_below (suc n) g ≡ g 0 + sum_below n (λ i. g (suc i))
first_apart zero g = omega arith
first_apart (suc n) g = omega (arith, first_apart n g)

-- the sum of what the elements have is the sum of what their places have
pub places : {X : Type 0} (f : X → ℕ) (g : ℕ → ℕ) (xs : List X) → ((i : ℕ) (d : X) → i < length xs → f (slice_index_or xs i d) ≡ g i) → sum_by f xs ≡ sum_below (length xs) g
places f g [] each = refl
places f g (x ∷ xs) each =
    let head : f x ≡ g 0 = each 0 x (omega arith) in
    let all : sum_by f (x ∷ xs) ≡ f x + sum_by f xs = sum_by-cons f x xs in
    omega (arith, all, head, places f (λ i. g (suc i)) xs (λ i d l. each (suc i) d (omega arith)), first_apart (length xs) g)

-- as many as there are, where each has one
pub ones : {X : Type 0} (f : X → ℕ) (xs : List X) → ((i : ℕ) (d : X) → i < length xs → f (slice_index_or xs i d) ≡ 1) → sum_by f xs ≡ length xs
ones f [] each = refl
ones f (x ∷ xs) each =
    let head : f x ≡ 1 = each 0 x (omega arith) in
    omega (arith, head, sum_by-cons f x xs, ones f xs (λ i d l. each (suc i) d (omega arith)))

-- the same, where the elements have the same
pub alike : {X : Type 0} (f g : X → ℕ) (xs ys : List X) → length xs ≡ length ys → ((i : ℕ) (d : X) → i < length xs → f (slice_index_or xs i d) ≡ g (slice_index_or ys i d)) → sum_by f xs ≡ sum_by g ys
alike f g [] [] long each = refl
alike f g [] (y ∷ ys) long each = absurd (omega (arith, long))
alike f g (x ∷ xs) [] long each = absurd (omega (arith, long))
alike f g (x ∷ xs) (y ∷ ys) long each =
    let head : f x ≡ g y = each 0 x (omega arith) in
    omega (arith, head, sum_by-cons f x xs, sum_by-cons g y ys, alike f g xs ys (omega (arith, long)) (λ i d l. each (suc i) d (omega arith)))

-- none has any, where there is none in all
none_each : {X : Type 0} (f : X → ℕ) (xs : List X) → sum_by f xs ≡ 0 → (i : ℕ) (d : X) → i < length xs → f (slice_index_or xs i d) ≡ 0
none_each f [] e i d l = absurd (omega arith)
none_each f (x ∷ xs) e zero d l = let head : f x ≡ 0 = omega (arith, e, sum_by-cons f x xs) in head
none_each f (x ∷ xs) e (suc i) d l = let rest : sum_by f xs ≡ 0 = omega (arith, e, sum_by-cons f x xs) in none_each f xs rest i d (omega arith)

not_ended : (b : Bool) → one_if b ≡ 0 → b ≡ false
not_ended true e = absurd (omega (arith, e))
not_ended false e = refl

-- where no worker was ended, their shares are as many as their lines
pub all_answered : {X : Type 0} (amount done lines ends : X → ℕ) (ended : X → Bool) (old new : List X) → length new ≡ length old
    → All (λ (w : X). amount w ≡ done w) new → All (λ (w : X). ends w ≡ one_if (ended w)) new → All (λ (w : X). ended w ≡ false → done w ≡ lines w) new
    → ((i : ℕ) (d : X) → i < length old → lines (slice_index_or new i d) ≡ lines (slice_index_or old i d)) → sum_by ends new ≡ 0 → sum_by amount new ≡ sum_by lines old
all_answered {X} amount done lines ends ended old new long counts marks whole same none = alike amount lines new old long each
  where
    each : (i : ℕ) (d : X) → i < length new → amount (slice_index_or new i d) ≡ lines (slice_index_or old i d)
    each i d l =
        let w = slice_index_or new i d in
        counts i d l ∙ whole i d l (not_ended (ended w) (sym (marks i d l) ∙ none_each ends new none i d l)) ∙ same i d (omega (arith, l, long))

-- what was written back to a vector is all of it
pub written_back : {X : Type 0} (f : X → ℕ) (now old new : List X) (len : ℕ) → now ≡ old → length now ≡ len → length new ≡ length now → sum_by f (take len (new ++ drop (length new) old)) ≡ sum_by f new
written_back f now old new len same long kept = ap (sum_by f) (take_at new (drop (length new) old) len (omega (arith, long, kept)))
