-- Indexed columns that are read one after another, and sought among columns.
use Rattle.std.proofs.Common.{◌≡◌, ℕ, ◌+◌, ◌-◌, ◌<◌, ◌≤◌, List, [], ◌∷◌, ◌++◌, length, take, drop, codes, Result, Ok, Err, None, Some, true, false, refl, sym, ap, ◌∙◌, append_assoc, append-nil, length-append, arith}
use Rattle.std.specs.Borrow.{Bor}
use Rattle.std.specs.List.{AllByRecursion}
use Rattle.std.proofs.Math.Seq.{take-append_seam, drop-append_seam}
use Rattle.block_model.specs.declared.schema.Column.{Column}
use Rattle.block_model.specs.declared.schema.Part.{Part}
use Rattle.value_text.specs.TextReading.{begins}
use Rattle.command_line.specs.declared.part.PartWord.{PartWord}
use Rattle.command_line.specs.DeclarationTexts.{more_bytes, class_bytes, PartText, part_bytes, parts_bytes, IndexText, before_parts, IsPart, AreListed}
use Rattle.command_line.specs.DeclarationReading.{name_at, part_at, parts_at}
use Rattle.command_line.specs.DeclaredSchema.{column_named, part_on, with_part, parts_on, parts_among}
use Rattle.command_line.specs.Words.{part_text, parts_said, parts_read, AreParts, IsFirstOf}
use Rattle.command_line.proofs.FrontReading.{apart, IsFront, read_front}
use Rattle.command_line.proofs.MoreItems.{is_comma}
use Rattle.command_line.proofs.SettingReading.{EndsSetting, nothing_ends, comma_ends}
use Rattle.command_line.proofs.PartReading.{part_lawful, parts_lawful, part_complete, parts_complete}

-- the bytes of indexed columns say them
said_parts : (ps : List PartText) → AreListed IsPart ps → parts_said (parts_bytes ps) ≡ ps
said_parts ps h = ap (λ l. parts_read (parts_at l)) (sym (append-nil (parts_bytes ps))) ∙ ap parts_read (parts_complete ps [] h refl nothing_ends)

-- indexed columns that were read leave no more than there is
pub parts_leave : (text rest : List ℕ) (ps : List PartText) → parts_at text ≡ Ok (ps, rest) → length rest ≤ length text
parts_leave text rest ps e =
    let r = read_front parts_at parts_bytes (AreListed IsPart) parts_lawful text ps rest e in
    omega (arith, ap length r.whole ∙ length-append (parts_bytes ps) rest)

module _ (text rest front back : List ℕ) (ps : List PartText) (n : ℕ) (e : parts_at text ≡ Ok (ps, rest)) (m : n ≡ length text - length rest) (f : front ≡ take n text) (b : back ≡ drop n text) where
  r : IsFront parts_bytes (AreListed IsPart) text ps rest
  r = read_front parts_at parts_bytes (AreListed IsPart) parts_lawful text ps rest e

  long : n ≡ length (parts_bytes ps)
  long = omega (arith, m, ap length r.whole ∙ length-append (parts_bytes ps) rest)

  front_is : front ≡ parts_bytes ps
  front_is = f ∙ (λ i. take (long i) (r.whole i)) ∙ take-append_seam (parts_bytes ps) rest

  back_is : back ≡ rest
  back_is = b ∙ (λ i. drop (long i) (r.whole i)) ∙ drop-append_seam (parts_bytes ps) rest

  -- the bytes that were read are cut off
  pub parts_cut : parts_at text ≡ Ok (parts_said front, back)
  parts_cut = e ∙ (λ i. Ok (sym (ap parts_said front_is ∙ said_parts ps r.is) i, sym back_is i))

  pub parts_are : AreParts front
  parts_are = front_is ∙ ap parts_bytes (sym (ap parts_said front_is ∙ said_parts ps r.is))

-- a part that was read has bytes
pub part_shortens : (text rest : List ℕ) (p : PartText) → part_at text ≡ Ok (p, rest) → length rest < length text
part_shortens text rest p e =
    let r = read_front part_at part_bytes IsPart part_lawful text p rest e in
    let more : length (part_bytes p) ≡ length p.column + 1 + length (class_bytes p.class) = simp length-append refl in
    omega (arith, ap length r.whole ∙ length-append (part_bytes p) rest, more)

more_end : (ps : List PartText) → EndsSetting (more_bytes part_bytes ps)
more_end [] = nothing_ends
more_end (p ∷ ps) = comma_ends (part_bytes p ++ more_bytes part_bytes ps)

-- the first of indexed columns is read, and what is left is the others
first_read : (p : PartText) (ps : List PartText) (bytes behind : List ℕ) (q : PartText) → IsPart p → bytes ≡ parts_bytes (p ∷ ps) → part_at bytes ≡ Ok (q, behind)
    → (q ≡ p) × (behind ≡ more_bytes part_bytes ps)
first_read p ps bytes behind q i e k =
    let both : Ok (q, behind) ≡ Ok (p, more_bytes part_bytes ps) = sym k ∙ ap part_at e ∙ part_complete p (more_bytes part_bytes ps) i (more_end ps) in
    let same : (q, behind) ≡ (p, more_bytes part_bytes ps) = cc in
    (ap (λ (x : PartText × List ℕ). x.0) same, ap (λ (x : PartText × List ℕ). x.1) same)

none_read : (bytes behind : List ℕ) (q : PartText) → bytes ≡ [] → part_at bytes ≡ Ok (q, behind) → ⊥
unfolding part_at name_at
none_read bytes behind q e k = apart (part_at bytes) [] (q, behind) (ap part_at e) k

-- where no part stands there are none
pub first_none : (bytes rest : List ℕ) → part_at bytes ≡ Err rest → (ps : List PartText) → AllByRecursion IsPart ps → bytes ≡ parts_bytes ps → IsFirstOf ps None
first_none bytes rest k [] h e = tt
first_none bytes rest k (p ∷ ps) h e =
    absurd (apart (part_at bytes) rest (p, more_bytes part_bytes ps) k (ap part_at e ∙ part_complete p (more_bytes part_bytes ps) h.0 (more_end ps)))

module _ (bytes behind : List ℕ) (word : PartWord) (k : part_at bytes ≡ Ok (part_text word, behind)) where
  comma_step : (p : PartText) (ps : List PartText) (others : Bor (List ℕ)) → part_text word ≡ p → behind ≡ more_bytes part_bytes ps → behind ≡ 44 ∷ others.now → IsFirstOf (p ∷ ps) (Some (word, others))
  comma_step p [] others same e c = let none : 44 ∷ others.now ≡ [] = sym c ∙ e in cc
  comma_step p (q ∷ qs) others same e c = let more : 44 ∷ others.now ≡ 44 ∷ parts_bytes (q ∷ qs) = sym c ∙ e in (same, (let n : others.now ≡ parts_bytes (q ∷ qs) = cc in n))

  -- a part in front of others
  pub first_more : (others : Bor (List ℕ)) → behind ≡ 44 ∷ others.now → (ps : List PartText) → AllByRecursion IsPart ps → bytes ≡ parts_bytes ps → IsFirstOf ps (Some (word, others))
  first_more others c [] h e = absurd (none_read bytes behind (part_text word) e k)
  first_more others c (p ∷ ps) h e = let f = first_read p ps bytes behind (part_text word) h.0 e k in comma_step p ps others f.0 f.1 c

  last_step : (p : PartText) (ps : List PartText) (others : Bor (List ℕ)) → part_text word ≡ p → behind ≡ more_bytes part_bytes ps → begins is_comma behind ≡ false → others.now ≡ behind → IsFirstOf (p ∷ ps) (Some (word, others))
  last_step p [] others same e c o = (same, o ∙ e)
  last_step p (q ∷ qs) others same e c o = let begun : begins is_comma behind ≡ true = ap (begins is_comma) e in cc

  -- the last part
  pub first_last : (others : Bor (List ℕ)) → begins is_comma behind ≡ false → others.now ≡ behind → (ps : List PartText) → AllByRecursion IsPart ps → bytes ≡ parts_bytes ps → IsFirstOf ps (Some (word, others))
  first_last others c o [] h e = absurd (none_read bytes behind (part_text word) e k)
  first_last others c o (p ∷ ps) h e = let f = first_read p ps bytes behind (part_text word) h.0 e k in last_step p ps others f.0 f.1 c o

-- those indexed columns are left, and their bytes are the last of all
pub record AreLeft (all rest : List ℕ) (ps : List PartText) : Type 0 where
  pub are : AllByRecursion IsPart ps
  pub bytes : rest ≡ parts_bytes ps
  pub within : length rest ≤ length all

all_are : (ps : List PartText) → AreListed IsPart ps → AllByRecursion IsPart ps
all_are [] h = absurd h
all_are (p ∷ ps) h = (h.0, h.1)

-- at first all are
pub left_first : (all : List ℕ) (ps : List PartText) → AreListed IsPart ps → all ≡ parts_bytes ps → AreLeft all all ps
left_first all ps h e = record { are = all_are ps h; bytes = e; within = omega arith }

-- the indexed columns behind the first
abbrev pub others_of : List PartText → List PartText
others_of [] = []
others_of (p ∷ ps) = ps

-- one part less
pub left_next : (all rest : List ℕ) (ps : List PartText) (x : PartWord × Bor (List ℕ)) → AreLeft all rest ps → IsFirstOf ps (Some x) → length x.1.now < length rest → AreLeft all x.1.now (others_of ps)
left_next all rest [] x l f s = absurd f
left_next all rest (p ∷ ps) x l f s = record { are = l.are.1; bytes = f.1; within = omega (arith, l.within) }

-- those parts, and what is found of others
abbrev pub behind_parts : List Part → Result (List Part) ℕ → Result (List Part) ℕ
behind_parts done (Ok others) = Ok (done ++ others)
behind_parts done (Err at) = Err at

module _ (columns : List Column) (i : IndexText) (all : List ℕ) where
  -- where the last of the indexed columns begin
  abbrev pub place : List ℕ → ℕ
  place rest = length (before_parts i) + (length all - length rest)

  -- those are found, and the others are sought
  abbrev pub AreFound : List ℕ → List PartText → List Part → Type 0
  AreFound rest ps done = parts_among columns i ≡ behind_parts done (parts_on columns (place rest) ps)

  nothing_before : (o : Result (List Part) ℕ) → o ≡ behind_parts [] o
  nothing_before (Ok others) = refl
  nothing_before (Err at) = refl

  pub found_first : AreFound all i.parts []
  found_first =
      let here : length (before_parts i) ≡ place all = omega arith in
      ap (λ n. parts_on columns n i.parts) here ∙ nothing_before (parts_on columns (place all) i.parts)

  one_more : (done : List Part) (p : PartText) (at column : ℕ) (o : Result (List Part) ℕ) → behind_parts done (with_part p at (Some column) o) ≡ behind_parts (done ++ part_on p column ∷ []) o
  one_more done p at column (Ok others) = ap Ok (sym (append_assoc done (part_on p column ∷ []) others))
  one_more done p at column (Err later) = refl

  -- the place of the part behind one
  next_place : (rest behind : List ℕ) (p : PartText) (ps : List PartText) → rest ≡ parts_bytes (p ∷ ps) → behind ≡ parts_bytes ps → length rest ≤ length all
      → parts_on columns (place rest + length (part_bytes p ++ codes ",")) ps ≡ parts_on columns (place behind) ps
  next_place rest behind p [] e k w = refl
  next_place rest behind p (q ∷ qs) e k w =
      let size : length rest ≡ length (part_bytes p) + length (more_bytes part_bytes (q ∷ qs)) = ap length e ∙ length-append (part_bytes p) (more_bytes part_bytes (q ∷ qs)) in
      let comma : length (more_bytes part_bytes (q ∷ qs)) ≡ 1 + length (parts_bytes (q ∷ qs)) = omega arith in
      let here : length (part_bytes p ++ codes ",") ≡ length (part_bytes p) + 1 = length-append (part_bytes p) (codes ",") in
      let tail : length behind ≡ length (parts_bytes (q ∷ qs)) = ap length k in
      let same : place rest + length (part_bytes p ++ codes ",") ≡ place behind = omega arith in
      ap (λ n. parts_on columns n (q ∷ qs)) same

  -- one part more is found
  pub found_next : (rest : List ℕ) (ps : List PartText) (done : List Part) (x : PartWord × Bor (List ℕ)) (column : ℕ) → AreLeft all rest ps → AreFound rest ps done → IsFirstOf ps (Some x)
      → column_named x.0.column.now columns ≡ Some column → AreFound x.1.now (others_of ps) (done ++ part_on (part_text x.0) column ∷ [])
  found_next rest [] done x column l h f c = absurd f
  found_next rest (p ∷ ps) done x column l h f c =
      let named : column_named p.column columns ≡ Some column = ap (λ (t : PartText). column_named t.column columns) (sym f.0) ∙ c in
      h
      ∙ ap (λ o. behind_parts done (with_part p (place rest) o (parts_on columns (place rest + length (part_bytes p ++ codes ",")) ps))) named
      ∙ one_more done p (place rest) column (parts_on columns (place rest + length (part_bytes p ++ codes ",")) ps)
      ∙ (λ j. behind_parts (done ++ part_on (sym f.0 j) column ∷ []) (next_place rest x.1.now p ps l.bytes f.1 l.within j))

  -- one that isn't is named at its place
  pub found_lacks : (rest : List ℕ) (ps : List PartText) (done : List Part) (x : PartWord × Bor (List ℕ)) → AreFound rest ps done → IsFirstOf ps (Some x)
      → column_named x.0.column.now columns ≡ None → parts_among columns i ≡ Err (place rest)
  found_lacks rest [] done x h f c = absurd f
  found_lacks rest (p ∷ ps) done x h f c =
      let none : column_named p.column columns ≡ None = ap (λ (t : PartText). column_named t.column columns) (sym f.0) ∙ c in
      h ∙ ap (λ o. behind_parts done (with_part p (place rest) o (parts_on columns (place rest + length (part_bytes p ++ codes ",")) ps))) none

  -- and at last all are found
  pub found_all : (rest : List ℕ) (ps : List PartText) (done : List Part) → AreFound rest ps done → IsFirstOf ps None → parts_among columns i ≡ Ok done
  found_all rest [] done h f = h ∙ ap Ok (append-nil done)
  found_all rest (p ∷ ps) done h f = absurd f
