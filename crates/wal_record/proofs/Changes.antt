-- The two laws of changes: what is read is spelled so, and what is spelled so is read.
use Rattle.std.proofs.Common.{◌≡◌, ◌≢◌, ℕ, suc, ◌^◌, ◌<◌, ◌≤◌, Bool, true, false, cond, eqb, List, [], ◌∷◌, ◌++◌, Option, Some, None, refl, sym, ap, subst, ◌∙◌, arith}
use Rattle.std.specs.Int.{bytes_high_first}
use Rattle.std.proofs.lemmas.Bool.{eqb-true, eqb-false}
use Rattle.std.proofs.lemmas.Option.{none-some}
use Rattle.block_model.specs.declared.place.Place.{Place}
use Rattle.block_model.specs.declared.place.Spot.{Spot}
use Rattle.byte_fields.specs.Fields.{AreBytes}
use Rattle.wal_record.specs.Changes.{LoggedChange, FullPage, PageStart, RowPut, RowMark, RowsDrop, TuplePut, TupleReplace, TupleDrop, Evacuate, MapPage, MapSet, MetaSet, StatusSet, IsChange}
use Rattle.wal_record.specs.ChangeBytes.{IsFront, bytes_of, tagged, place_bytes, put_bytes, counted_slots, spot_bytes}
use Rattle.wal_record.specs.Reading.{◌>>=◌, mapped, both, one_byte, part_at, number_at, place_at, spot_at, slots_at, put_bytes_at, map_change_at, tuple_change_at, row_change_at, page_change_at, change_at}
use Rattle.wal_record.proofs.Lawful.{bind_some, some_is, AreBytes-rest, Lawful, both_law, mapped_takes, mapped_again, mapped_grows}
use Rattle.wal_record.proofs.Fields.{byte_law, part_law, number_law, place_law, spot_law, slots_law, put_law}

mark_law : Lawful (ℕ × ℕ) (λ p. bytes_high_first 2 p.0 ++ bytes_high_first 8 p.1) (λ p. (p.0 < 2 ^ 16) × (p.1 < 2 ^ 64)) (both (number_at 2) (number_at 8))
mark_law = both_law ℕ ℕ (bytes_high_first 2) (bytes_high_first 8) (λ x. x < 256 ^ 2) (λ x. x < 256 ^ 8) (number_at 2) (number_at 8) (number_law 2) (number_law 8) refl

entry_law : Lawful (ℕ × Spot) (λ p. bytes_high_first 2 p.0 ++ spot_bytes p.1) (λ p. (p.0 < 2 ^ 16) × ((p.1.block < 2 ^ 32) × (p.1.slot < 2 ^ 16))) (both (number_at 2) spot_at)
unfolding spot_at
entry_law = both_law ℕ Spot (bytes_high_first 2) spot_bytes (λ x. x < 256 ^ 2) (λ s. (s.block < 2 ^ 32) × (s.slot < 2 ^ 16)) (number_at 2) spot_at (number_law 2) spot_law refl

status_law : Lawful (ℕ × ℕ) (λ p. bytes_high_first 2 p.0 ++ (p.1 ∷ [])) (λ p. (p.0 < 2 ^ 16) × Unit {0}) (both (number_at 2) one_byte)
status_law = both_law ℕ ℕ (bytes_high_first 2) (λ b. b ∷ []) (λ x. x < 256 ^ 2) (λ b. Unit {0}) (number_at 2) one_byte (number_law 2) byte_law refl

-- What is read behind a tag and a place is a change, whose bytes stand there. Where nothing is read behind a tag that a change
-- has, a change's bytes go on from there.
pub record Takes (tag : ℕ) (place : Place) (l : List ℕ) (read : Option (LoggedChange × List ℕ)) : Type 0 where
  pub taken : (c : LoggedChange) (rest : List ℕ) → read ≡ Some (c, rest) → IsChange c × (tagged tag place l ≡ bytes_of c ++ rest)
  pub grown : read ≡ None → 1 ≤ tag → tag ≤ 13 → (c : LoggedChange) × IsChange c × (rest : List ℕ) × (bytes_of c ≡ tagged tag place l ++ rest)
  pub begun : 1 ≤ tag → tag ≤ 13 → (c : LoggedChange) × IsChange c × (rest : List ℕ) × (bytes_of c ≡ tagged tag place rest)

by_test : (tag k : ℕ) (place : Place) (l : List ℕ) (x y : Option (LoggedChange × List ℕ)) (b : Bool) → eqb tag k ≡ b → (1 ≤ tag → k ≤ tag)
    → (tag ≡ k → Takes tag place l x) → ((1 ≤ tag → suc k ≤ tag) → Takes tag place l y) → Takes tag place l (cond b x y)
by_test tag k place l x y true same reach h n = h (eqb-true tag k same)
by_test tag k place l x y false other reach h n =
    let apart : tag ≢ k = eqb-false tag k other in
    n (λ some. let low : k ≤ tag = reach some in omega (arith, apart))

by_tag : (tag k : ℕ) (place : Place) (l : List ℕ) (x y : Option (LoggedChange × List ℕ)) → (1 ≤ tag → k ≤ tag)
    → (tag ≡ k → Takes tag place l x) → ((1 ≤ tag → suc k ≤ tag) → Takes tag place l y) → Takes tag place l (cond (eqb tag k) x y)
by_tag tag k place l x y reach h n = by_test tag k place l x y (eqb tag k) refl reach h n

nothing_takes : (tag : ℕ) (place : Place) (l : List ℕ) → (1 ≤ tag → 14 ≤ tag) → Takes tag place l None
nothing_takes tag place l reach = record { taken = λ c rest e. absurd cc; grown = λ e some most. let high : 14 ≤ tag = reach some in absurd (omega arith); begun = λ some most. let high : 14 ≤ tag = reach some in absurd (omega arith) }

-- a change that carries nothing
bare : (c : LoggedChange) (tag k : ℕ) (place : Place) (l : List ℕ) → IsChange c → bytes_of c ≡ tagged k place [] → tag ≡ k → Takes tag place l (Some (c, l))
bare c tag k place l fits spelled e = record {
  taken = λ d rest same.
      let one : tagged tag place l ≡ bytes_of c ++ l = ap (λ (t : ℕ). tagged t place l) e ∙ ap (λ (s : List ℕ). s ++ l) (sym spelled) in
      subst (λ (q : LoggedChange × List ℕ). IsChange q.0 × (tagged tag place l ≡ bytes_of q.0 ++ q.1)) (some_is (c, l) (d, rest) same) (fits, one);
  grown = λ none some most. absurd cc;
  begun = λ some most. (c, fits, [], spelled ∙ ap (λ (j : ℕ). tagged j place []) (sym e));
}

-- a change made of what it carries
made : (P : Type 0) (s : P → List ℕ) (Is : P → Type 0) (r : List ℕ → Option (P × List ℕ)) (f : P → LoggedChange) → Lawful P s Is r
    → (tag k : ℕ) (place : Place) (l : List ℕ) → AreBytes l → ((p : P) → Is p → IsChange (f p)) → ((p : P) → bytes_of (f p) ≡ tagged k place (s p)) → tag ≡ k → r [] ≡ None
    → Takes tag place l (mapped f r l)
made P s Is r f law tag k place l small fits spelled e empty = record {
  taken = λ c rest same.
      let t = mapped_takes P LoggedChange s Is r f law l c rest small same in
      let one : tagged tag place l ≡ bytes_of (f t.0) ++ rest =
      ap (tagged tag place) t.2 ∙ ap (λ (j : ℕ). tagged j place (s t.0 ++ rest)) e ∙ ap (λ (b : List ℕ). b ++ rest) (sym (spelled t.0)) in
      subst (λ (d : LoggedChange). IsChange d × (tagged tag place l ≡ bytes_of d ++ rest)) t.3 (fits t.0 t.1, one);
  grown = λ none some most.
      let t = mapped_grows P LoggedChange s Is r f law l small none in
      (f t.0, fits t.0 t.1, t.2, spelled t.0 ∙ ap (tagged k place) t.3 ∙ ap (λ (j : ℕ). tagged j place (l ++ t.2)) (sym e));
  begun = λ some most.
      let t = law.grows [] (λ i. omega arith) empty in
      (f t.0, fits t.0 t.1, s t.0, spelled t.0 ∙ ap (λ (j : ℕ). tagged j place (s t.0)) (sym e));
}

map_takes : (tag : ℕ) (place : Place) (l : List ℕ) → place.block < 2 ^ 32 → AreBytes l → (1 ≤ tag → 9 ≤ tag) → Takes tag place l (map_change_at tag place l)
unfolding map_change_at bytes_of spot_at
map_takes tag place l block small reach9 =
    by_tag tag 9 place l _ _ reach9 (λ e. bare (Evacuate place) tag 9 place l (record { sizes = tt; block = block; numbers = tt }) refl e)
    (λ reach10. by_tag tag 10 place l _ _ reach10 (λ e. bare (MapPage place) tag 10 place l (record { sizes = tt; block = block; numbers = tt }) refl e)
    (λ reach11. by_tag tag 11 place l _ _ reach11 (λ e. made (ℕ × Spot) _ _ (both (number_at 2) spot_at) (λ x. MapSet place x.0 x.1) entry_law tag 11 place l small (λ p h. record { sizes = tt; block = block; numbers = (h.0, h.1.0, h.1.1) }) (λ p. refl) e refl)
    (λ reach12. by_tag tag 12 place l _ _ reach12 (λ e. made ℕ _ _ (number_at 4) (MetaSet place) (number_law 4) tag 12 place l small (λ p h. record { sizes = tt; block = block; numbers = h }) (λ p. refl) e refl)
    (λ reach13. by_tag tag 13 place l _ _ reach13 (λ e. made (ℕ × ℕ) _ _ (both (number_at 2) one_byte) (λ x. StatusSet place x.0 x.1) status_law tag 13 place l small (λ p h. record { sizes = tt; block = block; numbers = h.0 }) (λ p. refl) e refl)
    (λ reach14. nothing_takes tag place l reach14)))))

tuple_takes : (tag : ℕ) (place : Place) (l : List ℕ) → place.block < 2 ^ 32 → AreBytes l → (1 ≤ tag → 6 ≤ tag) → Takes tag place l (tuple_change_at tag place l)
unfolding tuple_change_at bytes_of put_bytes_at slots_at
tuple_takes tag place l block small reach6 =
    by_tag tag 6 place l _ _ reach6 (λ e. made (ℕ × List ℕ) _ _ put_bytes_at (λ x. TuplePut place x.0 x.1) put_law tag 6 place l small (λ p h. record { sizes = h.1; block = block; numbers = h.0 }) (λ p. refl) e refl)
    (λ reach7. by_tag tag 7 place l _ _ reach7 (λ e. made (ℕ × List ℕ) _ _ put_bytes_at (λ x. TupleReplace place x.0 x.1) put_law tag 7 place l small (λ p h. record { sizes = h.1; block = block; numbers = h.0 }) (λ p. refl) e refl)
    (λ reach8. by_tag tag 8 place l _ _ reach8 (λ e. made (List ℕ) _ _ slots_at (TupleDrop place) slots_law tag 8 place l small (λ p h. record { sizes = h; block = block; numbers = tt }) (λ p. refl) e refl)
    (λ reach9. map_takes tag place l block small reach9)))

row_takes : (tag : ℕ) (place : Place) (l : List ℕ) → place.block < 2 ^ 32 → AreBytes l → (1 ≤ tag → 3 ≤ tag) → Takes tag place l (row_change_at tag place l)
unfolding row_change_at bytes_of put_bytes_at slots_at
row_takes tag place l block small reach3 =
    by_tag tag 3 place l _ _ reach3 (λ e. made (ℕ × List ℕ) _ _ put_bytes_at (λ x. RowPut place x.0 x.1) put_law tag 3 place l small (λ p h. record { sizes = h.1; block = block; numbers = h.0 }) (λ p. refl) e refl)
    (λ reach4. by_tag tag 4 place l _ _ reach4 (λ e. made (ℕ × ℕ) _ _ (both (number_at 2) (number_at 8)) (λ x. RowMark place x.0 x.1) mark_law tag 4 place l small (λ p h. record { sizes = tt; block = block; numbers = h }) (λ p. refl) e refl)
    (λ reach5. by_tag tag 5 place l _ _ reach5 (λ e. made (List ℕ) _ _ slots_at (RowsDrop place) slots_law tag 5 place l small (λ p h. record { sizes = h; block = block; numbers = tt }) (λ p. refl) e refl)
    (λ reach6. tuple_takes tag place l block small reach6)))

pub page_takes : (tag : ℕ) (place : Place) (l : List ℕ) → place.block < 2 ^ 32 → AreBytes l → Takes tag place l (page_change_at tag place l)
unfolding page_change_at bytes_of
page_takes tag place l block small =
    by_tag tag 1 place l _ _ (λ h. h) (λ e. made (List ℕ) _ _ (part_at 8192) (FullPage place) (part_law 8192) tag 1 place l small (λ p h. record { sizes = h; block = block; numbers = tt }) (λ p. refl) e refl)
    (λ reach2. by_tag tag 2 place l _ _ reach2 (λ e. made ℕ _ _ one_byte (PageStart place) byte_law tag 2 place l small (λ p h. record { sizes = tt; block = block; numbers = tt }) (λ p. refl) e refl)
    (λ reach3. row_takes tag place l block small reach3))

-- what is read is a change, and its bytes are the first of the bytes
pub change_takes : (l : List ℕ) (c : LoggedChange) (rest : List ℕ) → AreBytes l → change_at l ≡ Some (c, rest) → IsChange c × (l ≡ bytes_of c ++ rest)
unfolding change_at
change_takes l c rest small e =
    let x = bind_some (one_byte l) (λ tag. place_at tag.1 >>= λ place. page_change_at tag.0 place.0 place.1) (c, rest) e in
    let y = bind_some (place_at x.0.1) (λ place. page_change_at x.0.0 place.0 place.1) (c, rest) x.2 in
    let first = byte_law.takes l x.0.0 x.0.1 small x.1 in
    let behind : AreBytes x.0.1 = AreBytes-rest (x.0.0 ∷ []) x.0.1 (subst (λ (t : List ℕ). AreBytes t) first.1 small) in
    let second = place_law.takes x.0.1 y.0.0 y.0.1 behind y.1 in
    let last : AreBytes y.0.1 = AreBytes-rest (place_bytes y.0.0) y.0.1 (subst (λ (t : List ℕ). AreBytes t) second.1 behind) in
    let third = (page_takes x.0.0 y.0.0 y.0.1 second.0 last).taken c rest y.2 in
    (third.0, first.1 ∙ ap (λ (t : List ℕ). x.0.0 ∷ t) second.1 ∙ third.1)

opened : (tag : ℕ) (place : Place) (l : List ℕ) → place.block < 2 ^ 32 → change_at (tagged tag place l) ≡ page_change_at tag place l
unfolding change_at
opened tag place l block = ap (λ (o : Option (Place × List ℕ)). o >>= λ p. page_change_at tag p.0 p.1) (place_law.again place l block)

-- what a change spells is read as that change, whatever follows
pub change_again : (c : LoggedChange) (rest : List ℕ) → IsChange c → change_at (bytes_of c ++ rest) ≡ Some (c, rest)
unfolding bytes_of page_change_at row_change_at tuple_change_at map_change_at
change_again (FullPage place bytes) rest h = opened 1 place (bytes ++ rest) h.block ∙ mapped_again (List ℕ) _ _ _ (part_at 8192) (FullPage place) (part_law 8192) bytes rest h.sizes
change_again (PageStart place kind) rest h = opened 2 place (kind ∷ rest) h.block
change_again (RowPut place slot bytes) rest h = opened 3 place (put_bytes slot bytes ++ rest) h.block ∙ mapped_again (ℕ × List ℕ) _ _ _ put_bytes_at (λ x. RowPut place x.0 x.1) put_law (slot, bytes) rest (h.numbers, h.sizes)
change_again (RowMark place slot deleter) rest h = opened 4 place ((bytes_high_first 2 slot ++ bytes_high_first 8 deleter) ++ rest) h.block ∙ mapped_again (ℕ × ℕ) _ _ _ (both (number_at 2) (number_at 8)) (λ x. RowMark place x.0 x.1) mark_law (slot, deleter) rest h.numbers
change_again (RowsDrop place slots) rest h = opened 5 place (counted_slots slots ++ rest) h.block ∙ mapped_again (List ℕ) _ _ _ slots_at (RowsDrop place) slots_law slots rest h.sizes
change_again (TuplePut place slot bytes) rest h = opened 6 place (put_bytes slot bytes ++ rest) h.block ∙ mapped_again (ℕ × List ℕ) _ _ _ put_bytes_at (λ x. TuplePut place x.0 x.1) put_law (slot, bytes) rest (h.numbers, h.sizes)
change_again (TupleReplace place slot bytes) rest h = opened 7 place (put_bytes slot bytes ++ rest) h.block ∙ mapped_again (ℕ × List ℕ) _ _ _ put_bytes_at (λ x. TupleReplace place x.0 x.1) put_law (slot, bytes) rest (h.numbers, h.sizes)
change_again (TupleDrop place slots) rest h = opened 8 place (counted_slots slots ++ rest) h.block ∙ mapped_again (List ℕ) _ _ _ slots_at (TupleDrop place) slots_law slots rest h.sizes
change_again (Evacuate place) rest h = opened 9 place rest h.block
change_again (MapPage place) rest h = opened 10 place rest h.block
change_again (MapSet place entry spot) rest h = opened 11 place ((bytes_high_first 2 entry ++ spot_bytes spot) ++ rest) h.block ∙ mapped_again (ℕ × Spot) _ _ _ (both (number_at 2) spot_at) (λ x. MapSet place x.0 x.1) entry_law (entry, spot) rest (h.numbers.0, (h.numbers.1, h.numbers.2))
change_again (MetaSet place maps) rest h = opened 12 place (bytes_high_first 4 maps ++ rest) h.block ∙ mapped_again ℕ _ _ _ (number_at 4) (MetaSet place) (number_law 4) maps rest h.numbers
change_again (StatusSet place entry status) rest h = opened 13 place ((bytes_high_first 2 entry ++ (status ∷ [])) ++ rest) h.block ∙ mapped_again (ℕ × ℕ) _ _ _ (both (number_at 2) one_byte) (λ x. StatusSet place x.0 x.1) status_law (entry, status) rest (h.numbers, tt)

-- the change that is read is the one that begins the bytes
pub change_only : (l : List ℕ) (c d : LoggedChange) (rest : List ℕ) → change_at l ≡ Some (c, rest) → IsChange d → IsFront (bytes_of d) l → c ≡ d
change_only l c d rest read fits begins =
    let same = some_is (c, rest) (d, begins.0) (sym read ∙ ap change_at begins.1 ∙ change_again d begins.0 fits) in
    ap (λ (q : LoggedChange × List ℕ). q.0) same

-- where none is read, none begins the bytes
pub change_none : (l : List ℕ) (d : LoggedChange) → change_at l ≡ None → IsChange d → IsFront (bytes_of d) l → ⊥
change_none l d read fits begins = none-some (d, begins.0) (sym read ∙ ap change_at begins.1 ∙ change_again d begins.0 fits)
