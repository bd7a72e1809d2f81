-- The fields of changes: a byte, a number, a part, a place, a spot, and bytes with their count.
use Rattle.std.proofs.Common.{◌≡◌, ◌⊎◌, inl, inr, ℕ, zero, suc, ◌-◌, ◌*◌, ◌/◌, ◌^◌, ◌<◌, ◌≤◌, false, ltb, List, [], ◌∷◌, ◌++◌, length, take, drop, Option, Some, None, refl, sym, ap, subst, ◌∙◌, append_assoc, length-append, arith}
use Rattle.std.proofs.Math.ListN.{replicate}
use Rattle.std.specs.Int.{bytes_high_first}
use Rattle.std.proofs.lemmas.Bool.{ltb-true, ltb-false, le-ltb}
use Rattle.std.proofs.lemmas.List.{length-replicate, take_all, take_at, drop_at, take-append-drop, length-take-le}
use Rattle.block_model.specs.declared.place.Place.{Place}
use Rattle.block_model.specs.declared.place.Spot.{Spot}
use Rattle.byte_fields.specs.Fields.{AreBytes, bytes-number, length-number, number-bytes, number-fits, number_of}
use Rattle.wal_record.specs.Changes.{AreSlots}
use Rattle.wal_record.specs.ChangeBytes.{place_bytes, spot_bytes, counted_bytes, counted_slots, put_bytes}
use Rattle.wal_record.specs.Reading.{◌>>=◌, one_byte, part_at, number_at, place_at, spot_at, sized_at, counted_at, slots_at, put_bytes_at}
use Rattle.wal_record.proofs.Lawful.{bind_some, bind_none, guard_some, guard_none, some_is, AreBytes-front, AreBytes-rest, Lawful, both_law, mapped_takes, mapped_again, mapped_grows}

-- a byte

byte_takes : (l : List ℕ) (b : ℕ) (rest : List ℕ) → one_byte l ≡ Some (b, rest) → Unit {0} × (l ≡ (b ∷ []) ++ rest)
byte_takes [] b rest e = absurd cc
byte_takes (x ∷ l) b rest e = (tt, ap (λ (q : ℕ × List ℕ). q.0 ∷ q.1) (some_is (x, l) (b, rest) e))

byte_grows : (l : List ℕ) → one_byte l ≡ None → (b : ℕ) × Unit {0} × (rest : List ℕ) × (b ∷ [] ≡ l ++ rest)
byte_grows [] e = (0, tt, 0 ∷ [], refl)
byte_grows (x ∷ l) e = absurd cc

pub byte_law : Lawful ℕ (λ b. b ∷ []) (λ b. Unit {0}) one_byte
byte_law = record { takes = λ l b rest small e. byte_takes l b rest e; again = λ b rest h. refl; grows = λ l small e. byte_grows l e }

-- a part

-- zeros make n bytes of fewer
filled : (n : ℕ) (l : List ℕ) → length l < n → length (l ++ replicate (n - length l) 0) ≡ n
filled n l short = omega (arith, length-append l (replicate (n - length l) 0), length-replicate {A = ℕ} (n - length l) 0)

AreBytes-filled : (k : ℕ) (l : List ℕ) → AreBytes l → AreBytes (l ++ replicate k 0)
AreBytes-filled zero [] small i = omega arith
AreBytes-filled (suc k) [] small zero = omega arith
AreBytes-filled (suc k) [] small (suc i) = AreBytes-filled k [] small i
AreBytes-filled k (b ∷ l) small zero = small zero
AreBytes-filled k (b ∷ l) small (suc i) = AreBytes-filled k l (λ j. small (suc j)) i

pub part_law : (n : ℕ) → Lawful (List ℕ) (λ b. b) (λ b. length b ≡ n) (part_at n)
part_law n = record {
  takes = λ l b rest small e.
      let g = guard_some (ltb (length l) n) (take n l, drop n l) (b, rest) e in
      let long : n ≤ length l = ltb-false _ _ g.0 in
      subst (λ (q : List ℕ × List ℕ). (length q.0 ≡ n) × (l ≡ q.0 ++ q.1)) g.1 (length-take-le n l long, sym (take-append-drop n l));
  again = λ b rest fits.
      let long : ltb (length (b ++ rest)) n ≡ false = le-ltb _ _ (omega (arith, length-append b rest)) in
      rw (long, take_at b rest n fits, drop_at b rest n fits) refl;
  grows = λ l small e.
      let short : length l < n = ltb-true _ _ (guard_none (ltb (length l) n) (take n l, drop n l) e) in
      let zeros = replicate (n - length l) 0 in
      (l ++ zeros, filled n l short, zeros, refl);
}

-- a number

-- the bytes of the number that n bytes spell are those bytes
field_bytes : (l : List ℕ) (n : ℕ) → n ≤ length l → AreBytes l → bytes_high_first n (number_of (take n l)) ≡ take n l
field_bytes l n long small =
    let field = take n l in
    let same = bytes-number field (AreBytes-front field (drop n l) (rw (take-append-drop n l) small)) in
    subst (λ (k : ℕ). bytes_high_first k (number_of field) ≡ field) (length-take-le n l long) same

-- and it is below 256 ^ n
field_fits : (l : List ℕ) (n : ℕ) → n ≤ length l → AreBytes l → number_of (take n l) < 256 ^ n
field_fits l n long small =
    let field = take n l in
    let bound = number-fits field (AreBytes-front field (drop n l) (rw (take-append-drop n l) small)) in
    subst (λ (k : ℕ). number_of field < 256 ^ k) (length-take-le n l long) bound

pub number_law : (n : ℕ) → Lawful ℕ (bytes_high_first n) (λ x. x < 256 ^ n) (number_at n)
number_law n = record {
  takes = λ l x rest small e.
      let g = guard_some (ltb (length l) n) (number_of (take n l), drop n l) (x, rest) e in
      let long : n ≤ length l = ltb-false _ _ g.0 in
      let parts : l ≡ bytes_high_first n (number_of (take n l)) ++ drop n l = rw (field_bytes l n long small) (sym (take-append-drop n l)) in
      subst (λ (q : ℕ × List ℕ). (q.0 < 256 ^ n) × (l ≡ bytes_high_first n q.0 ++ q.1)) g.1 (field_fits l n long small, parts);
  again = λ x rest fits.
      let len = length-number n x in
      let long : ltb (length (bytes_high_first n x ++ rest)) n ≡ false = le-ltb _ _ (omega (arith, length-append (bytes_high_first n x) rest)) in
      rw (long, take_at (bytes_high_first n x) rest n len, drop_at (bytes_high_first n x) rest n len, number-bytes n x fits) refl;
  grows = λ l small e.
      let short : length l < n = ltb-true _ _ (guard_none (ltb (length l) n) (number_of (take n l), drop n l) e) in
      let zeros = replicate (n - length l) 0 in
      let b = l ++ zeros in
      let long : n ≤ length b = omega (arith, filled n l short) in
      let bytes : AreBytes b = AreBytes-filled (n - length l) l small in
      let all : take n b ≡ b = take_all n b (omega (arith, filled n l short)) in
      (number_of (take n b), field_fits b n long bytes, zeros, field_bytes b n long bytes ∙ all);
}

-- a place and a spot

pub place_law : Lawful Place place_bytes (λ p. p.block < 2 ^ 32) place_at
unfolding place_at
place_law =
    let parts = both_law ℕ ℕ (λ b. b ∷ []) (bytes_high_first 4) (λ b. Unit {0}) (λ x. x < 256 ^ 4) one_byte (number_at 4) byte_law (number_law 4) refl in
    record {
      takes = λ l p rest small e.
          let t = mapped_takes _ _ _ _ _ (λ (x : ℕ × ℕ). let q : Place = record { relation = x.0; block = x.1 } in q) parts l p rest small e in
          subst (λ (q : Place). (q.block < 2 ^ 32) × (l ≡ place_bytes q ++ rest)) t.3 (t.1.1, t.2);
      again = λ p rest fits. mapped_again _ _ _ _ _ (λ (x : ℕ × ℕ). let q : Place = record { relation = x.0; block = x.1 } in q) parts (p.relation, p.block) rest (tt, fits);
      grows = λ l small e.
          let t = mapped_grows _ _ _ _ _ (λ (x : ℕ × ℕ). let q : Place = record { relation = x.0; block = x.1 } in q) parts l small e in
          (record { relation = t.0.0; block = t.0.1 }, t.1.1, t.2, t.3);
    }

pub spot_law : Lawful Spot spot_bytes (λ s. (s.block < 2 ^ 32) × (s.slot < 2 ^ 16)) spot_at
unfolding spot_at
spot_law =
    let parts = both_law ℕ ℕ (bytes_high_first 4) (bytes_high_first 2) (λ x. x < 256 ^ 4) (λ x. x < 256 ^ 2) (number_at 4) (number_at 2) (number_law 4) (number_law 2) refl in
    record {
      takes = λ l s rest small e.
          let t = mapped_takes _ _ _ _ _ (λ (x : ℕ × ℕ). let q : Spot = record { block = x.0; slot = x.1 } in q) parts l s rest small e in
          subst (λ (q : Spot). ((q.block < 2 ^ 32) × (q.slot < 2 ^ 16)) × (l ≡ spot_bytes q ++ rest)) t.3 (t.1, t.2);
      again = λ s rest fits. mapped_again _ _ _ _ _ (λ (x : ℕ × ℕ). let q : Spot = record { block = x.0; slot = x.1 } in q) parts (s.block, s.slot) rest fits;
      grows = λ l small e.
          let t = mapped_grows _ _ _ _ _ (λ (x : ℕ × ℕ). let q : Spot = record { block = x.0; slot = x.1 } in q) parts l small e in
          (record { block = t.0.0; slot = t.0.1 }, t.1, t.2, t.3);
    }

-- bytes with their count

sized_grows : (size : ℕ → ℕ) (count : List ℕ → ℕ) (Is : List ℕ → Type 0)
    → ((n : ℕ) (b : List ℕ) → n < 256 ^ 2 → length b ≡ size n → Is b × (count b ≡ n))
    → (l : List ℕ) → AreBytes l → (number_at 2 l ≡ None) ⊎ ((x : ℕ × List ℕ) × (number_at 2 l ≡ Some x) × (part_at (size x.0) x.1 ≡ None))
    → (b : List ℕ) × Is b × (rest : List ℕ) × (bytes_high_first 2 (count b) ++ b ≡ l ++ rest)
sized_grows size count Is told l small (inl none) =
    let first = (number_law 2).grows l small none in
    let b = replicate (size first.0) 0 in
    let is = told first.0 b first.1 (length-replicate {A = ℕ} (size first.0) 0) in
    (b, is.0, first.2 ++ b, ap (λ (k : ℕ). bytes_high_first 2 k ++ b) is.1 ∙ ap (λ (t : List ℕ). t ++ b) first.3 ∙ append_assoc l first.2 b)
sized_grows size count Is told l small (inr some) =
    let first = (number_law 2).takes l some.0.0 some.0.1 small some.1 in
    let front = bytes_high_first 2 some.0.0 in
    let behind : AreBytes some.0.1 = AreBytes-rest front some.0.1 (subst (λ (t : List ℕ). AreBytes t) first.1 small) in
    let second = (part_law (size some.0.0)).grows some.0.1 behind some.2 in
    let is = told some.0.0 second.0 first.0 second.1 in (
      second.0,
      is.0,
      second.2,
      ap (λ (k : ℕ). bytes_high_first 2 k ++ second.0) is.1 ∙ ap (λ (t : List ℕ). front ++ t) second.3
          ∙ sym (append_assoc front some.0.1 second.2) ∙ ap (λ (t : List ℕ). t ++ second.2) (sym first.1),
    )

sized_law : (size : ℕ → ℕ) (count : List ℕ → ℕ) (Is : List ℕ → Type 0)
    → ((b : List ℕ) → Is b → (count b < 256 ^ 2) × (length b ≡ size (count b)))
    → ((n : ℕ) (b : List ℕ) → n < 256 ^ 2 → length b ≡ size n → Is b × (count b ≡ n))
    → Lawful (List ℕ) (λ b. bytes_high_first 2 (count b) ++ b) Is (sized_at size)
sized_law size count Is counted told = record {
  takes = λ l b rest small e.
      let x = bind_some (number_at 2 l) (λ n. part_at (size n.0) n.1) (b, rest) e in
      let tn = (number_law 2).takes l x.0.0 x.0.1 small x.1 in
      let tp = (part_law (size x.0.0)).takes x.0.1 b rest (AreBytes-rest (bytes_high_first 2 x.0.0) x.0.1 (subst (λ (t : List ℕ). AreBytes t) tn.1 small)) x.2 in
      let is = told x.0.0 b tn.0 tp.0 in
      (is.0, tn.1 ∙ ap (λ (t : List ℕ). bytes_high_first 2 x.0.0 ++ t) tp.1 ∙ ap (λ (k : ℕ). bytes_high_first 2 k ++ (b ++ rest)) (sym is.1));
  again = λ b rest fits.
      let is = counted b fits in
      ap (λ (o : Option (ℕ × List ℕ)). o >>= λ n. part_at (size n.0) n.1) ((number_law 2).again (count b) (b ++ rest) is.0)
      ∙ (part_law (size (count b))).again b rest is.1;
  grows = λ l small e. sized_grows size count Is told l small (bind_none (number_at 2 l) (λ n. part_at (size n.0) n.1) e);
}

pub counted_law : Lawful (List ℕ) counted_bytes (λ b. length b ≤ 65535) counted_at
unfolding counted_at
counted_law = sized_law (λ n. n) (λ b. length b) (λ b. length b ≤ 65535) (λ b h. (omega arith, refl)) (λ n b lt e. (omega arith, e))

pub slots_law : Lawful (List ℕ) counted_slots AreSlots slots_at
unfolding slots_at
slots_law = sized_law (λ n. 2 * n) (λ b. length b / 2) AreSlots (λ b h. (omega arith, omega arith)) (λ n b lt e. ((omega arith, omega arith), omega arith))

pub put_law : Lawful (ℕ × List ℕ) (λ p. put_bytes p.0 p.1) (λ p. (p.0 < 2 ^ 16) × (length p.1 ≤ 65535)) put_bytes_at
unfolding put_bytes_at counted_at
put_law = both_law ℕ (List ℕ) (bytes_high_first 2) counted_bytes (λ x. x < 256 ^ 2) (λ b. length b ≤ 65535) (number_at 2) counted_at (number_law 2) counted_law refl
