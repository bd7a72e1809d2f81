-- laws of bytes put over others, and of what a torn write leaves
use Rattle.std.proofs.Common.{◌≡◌, ℕ, ◌+◌, ◌-◌, ◌≤◌, List, ◌++◌, length, take, drop, refl, sym, ◌∙◌, ap, arith, length-append, length-drop, append_assoc}
use Rattle.std.proofs.lemmas.List.{take_at, drop_at, length-take-le, take-take, drop-drop}
use Rattle.disk_trait.specs.Spliced.{spliced}
use Rattle.disk_trait.specs.Torn.{Torn}

module _ (old : List ℕ) (at : ℕ) (bytes : List ℕ) (fits : at + length bytes ≤ length old) where
  front : length (take at old) ≡ at
  front = length-take-le at old (omega arith)

  reach : length (take at old ++ bytes) ≡ at + length bytes
  reach = omega (arith, front, length-append (take at old) bytes)

  -- there are as many bytes as before
  pub length-spliced : length (spliced old at bytes) ≡ length old
  length-spliced = omega (arith, reach, length-append (take at old ++ bytes) (drop (at + length bytes) old), length-drop (at + length bytes) old)

  -- those in front of them and those behind them stay
  pub take-spliced : take at (spliced old at bytes) ≡ take at old
  take-spliced = ap (take at) (append_assoc (take at old) bytes (drop (at + length bytes) old)) ∙ take_at (take at old) (bytes ++ drop (at + length bytes) old) at front

  pub behind-spliced : drop (at + length bytes) (spliced old at bytes) ≡ drop (at + length bytes) old
  behind-spliced = drop_at (take at old ++ bytes) (drop (at + length bytes) old) (at + length bytes) reach

  -- a write that is made whole is one that may be torn
  pub torn_spliced : (new : List ℕ) → new ≡ spliced old at bytes → Torn at (length bytes) old new
  torn_spliced new is = record {
    length = ap length is ∙ length-spliced;
    before = ap (take at) is ∙ take-spliced;
    after = ap (drop (at + length bytes)) is ∙ behind-spliced;
  }

-- nothing was written
pub torn_same : (at n : ℕ) (bytes : List ℕ) → Torn at n bytes bytes
torn_same at n bytes = record { length = refl; before = refl; after = refl }

-- the same, said of a wider range
pub torn_wider : (at n from m : ℕ) (old new : List ℕ) → from ≤ at → at + n ≤ from + m → Torn at n old new → Torn from m old new
torn_wider at n from m old new low high torn = record {
  length = torn.length;
  before = sym (take-take from at new low) ∙ ap (take from) torn.before ∙ take-take from at old low;
  after = ap (λ (k : ℕ). drop k new) more ∙ sym (drop-drop (from + m - (at + n)) (at + n) new) ∙ ap (drop (from + m - (at + n))) torn.after ∙ drop-drop (from + m - (at + n)) (at + n) old ∙ ap (λ (k : ℕ). drop k old) (sym more);
}
  where
    more : from + m ≡ at + n + (from + m - (at + n))
    more = omega (arith, high)

-- two writes of one range, one after the other
pub torn_twice : (at n : ℕ) (a b c : List ℕ) → Torn at n a b → Torn at n b c → Torn at n a c
torn_twice at n a b c one two = record { length = two.length ∙ one.length; before = two.before ∙ one.before; after = two.after ∙ one.after }
