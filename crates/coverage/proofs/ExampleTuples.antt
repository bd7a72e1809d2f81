-- A lawful way to make tuples, for the runs: a tuple includes all rows or none, and says so by its length.
use Rattle.std.proofs.Common.{◌≡◌, ℕ, ◌<◌, ◌≤◌, Option, Some, None, true, false, List, [], ◌∷◌, sym, ◌∙◌, ap, arith, zero, suc}
use Rattle.std.specs.Prelude.{refl, Bool, IsTrue, length}
use Rattle.std.proofs.lemmas.Bool.{false≢true}
use Rattle.std.proofs.lemmas.Option.{same_Some, none-some}
use Rattle.block_model.specs.declared.row.Row.{Row}
use Rattle.coverage.specs.IndexView.{IndexTuple, Contents, IsFormed}
use Rattle.coverage.specs.Statements.{AreLawful}

-- the bytes behind range and flag: six of a tuple without rows, seven of one with all
abbrev rest_of : Bool → List ℕ
rest_of false = 0 ∷ 0 ∷ 0 ∷ 0 ∷ 0 ∷ 0 ∷ []
rest_of true = 0 ∷ 0 ∷ 0 ∷ 0 ∷ 0 ∷ 0 ∷ 0 ∷ []

abbrev flag_of : Bool → ℕ
flag_of false = 0
flag_of true = 1

abbrev pub tuple_of : ℕ → (placeholder all : Bool) → IndexTuple
tuple_of range placeholder all =
    record { bytes = range ∷ flag_of placeholder ∷ rest_of all; range = range; placeholder = placeholder; includes = λ r. all; keeps = λ conds. true }

abbrev is_flag : ℕ → Bool
is_flag zero = false
is_flag (suc n) = true

abbrev is_long : ℕ → Bool
is_long (suc (suc (suc (suc (suc (suc (suc n))))))) = true
is_long n = false

abbrev read : List ℕ → Option IndexTuple
read [] = None
read (range ∷ []) = None
read (range ∷ flag ∷ rest) = Some (tuple_of range (is_flag flag) (is_long (length rest)))

-- whether bytes are of a tuple with all rows
abbrev has_all : List ℕ → Bool
has_all [] = false
has_all (range ∷ []) = false
has_all (range ∷ flag ∷ rest) = is_long (length rest)

abbrev either : Bool → Bool → Bool
either true b = true
either false b = b

abbrev pub contents : Contents
contents = record {
  empty = λ range. tuple_of range true false;
  added = λ r t. tuple_of t.range t.placeholder true;
  united = λ t result. tuple_of t.range false (either (has_all t.bytes) (has_all result.bytes));
  read = read;
  greatest = 9;
  ranges = 2000;
}

says : (range : ℕ) (placeholder all : Bool) → read (tuple_of range placeholder all).bytes ≡ Some (tuple_of range placeholder all)
says range false false = refl
says range false true = refl
says range true false = refl
says range true true = refl

at_most : (placeholder all : Bool) → length (flag_of placeholder ∷ rest_of all) ≤ 8
at_most placeholder false = omega arith
at_most placeholder true = omega arith

formed : (range : ℕ) (placeholder all : Bool) → range < 2000 → IsFormed contents (tuple_of range placeholder all)
formed range placeholder all below = record {
  says = says range placeholder all;
  size = omega (arith, at_most placeholder all);
  number = below;
}

-- a tuple that its bytes say includes what they say
includes_by : (bytes : List ℕ) (t : IndexTuple) → read bytes ≡ Some t → (r : Row) → t.includes r ≡ has_all bytes
includes_by [] t is r = absurd (none-some _ is)
includes_by (range ∷ []) t is r = absurd (none-some _ is)
includes_by (range ∷ flag ∷ rest) t is r = sym (ap (λ (u : IndexTuple). u.includes r) (same_Some _ _ is))

either_left : (a b : Bool) → IsTrue a → IsTrue (either a b)
either_left true b has = refl
either_left false b has = absurd (false≢true has)

either_right : (a b : Bool) → IsTrue b → IsTrue (either a b)
either_right true b has = refl
either_right false b has = has

pub lawful : AreLawful contents
lawful = record {
  greatest = omega arith;
  empty = λ range below. (formed range true false below, record { of = refl; placeholder = refl; includes = λ r. refl });
  added = λ r t is. (
    formed t.range t.placeholder true is.number,
    record { range = refl; placeholder = refl; wider = λ q has. refl; row = refl },
  );
  united = λ t result is its. (
    formed t.range false (either (has_all t.bytes) (has_all result.bytes)) is.number,
    record {
      range = refl;
      placeholder = refl;
      wider = λ q has. either_left (has_all t.bytes) (has_all result.bytes) (sym (includes_by t.bytes t is.says q) ∙ has);
      united = λ q has. either_right (has_all t.bytes) (has_all result.bytes) (sym (includes_by result.bytes result its.says q) ∙ has);
    },
  );
}

abbrev pub empty_tuple : IndexTuple
empty_tuple = tuple_of 0 true false

abbrev pub final_tuple : IndexTuple
final_tuple = tuple_of 0 false false

abbrev pub wide_tuple : IndexTuple
wide_tuple = tuple_of 0 false true
