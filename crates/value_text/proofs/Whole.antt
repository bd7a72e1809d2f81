-- A lawful reading of whole texts, which reads each of them, reads them and no other bytes, and stops where no text goes on.
use Rattle.std.proofs.Common.{◌≡◌, ℕ, ◌+◌, ◌-◌, ◌<◌, ◌≤◌, List, [], ◌∷◌, ◌++◌, length, take, Result, Ok, Err, refl, sym, ap, ◌∙◌, append_assoc, append-nil, length-append, subst, arith}
use Rattle.std.proofs.Math.Seq.{take-append_seam}
use Rattle.std.specs.Result.{is_ok}
use Rattle.std.proofs.lemmas.Bool.{false≢true}
use Rattle.value_text.specs.StopsAt.{BeginsText, StopsAt}
use Rattle.value_text.specs.TextReading.{Reading, mapped, both, end_at, whole}
use Rattle.value_text.proofs.Lawful.{left, Obeys, Lawful, both_lawful, mapped_lawful, end_lawful, both_read, mapped_read, both_stops, both_stops_behind, mapped_stops}

-- a text before the end, without the end
abbrev alone_of : {A : Type 0} → A × Unit {0} → A
alone_of x = x.0

pub whole_lawful : {A : Type 0} (read : Reading A) (written : A → List ℕ) (Is : A → Type 0) → Lawful read written Is → Lawful (whole read) written Is
whole_lawful read written Is l =
    mapped_lawful alone_of (both read end_at) (λ x. written x.0 ++ []) written (λ x. Is x.0 × Unit {0}) Is (λ a i. (i.0, sym (append-nil (written a.0))))
    (both_lawful read end_at written (λ x. []) Is (λ x. Unit {0}) tt tt l end_lawful)

pub whole_read : {A : Type 0} (read : Reading A) (bytes : List ℕ) (a : A) → read bytes ≡ Ok (a, []) → whole read bytes ≡ Ok (a, [])
whole_read read bytes a e = mapped_read alone_of (both read end_at) bytes ((a, tt), []) (both_read read end_at bytes (a, []) (tt, []) e refl)

pub whole_stops : {A : Type 0} (read : Reading A) (bytes rest : List ℕ) → read bytes ≡ Err rest → whole read bytes ≡ Err rest
whole_stops read bytes rest e = mapped_stops alone_of (both read end_at) bytes rest (both_stops read end_at bytes rest e)

pub whole_stops_behind : {A : Type 0} (read : Reading A) (bytes : List ℕ) (a : A) (left rest : List ℕ) → read bytes ≡ Ok (a, left) → end_at left ≡ Err rest → whole read bytes ≡ Err rest
whole_stops_behind read bytes a left rest e k = mapped_stops alone_of (both read end_at) bytes rest (both_stops_behind read end_at bytes (a, left) rest e k)

-- a reading up to the end
pub whole_ends : {A : Type 0} (read : Reading A) (bytes : List ℕ) (a : A) (rest : List ℕ) → read bytes ≡ Ok (a, rest) → end_at rest ≡ Ok (tt, []) → whole read bytes ≡ Ok (a, rest)
whole_ends read bytes a [] e k = whole_read read bytes a e
whole_ends read bytes a (c ∷ cs) e k = cc

abbrev finished : {A : Type 0} → Result (A × List ℕ) (List ℕ) → Result (A × List ℕ) (List ℕ)
finished o = mapped alone_of (both (λ bytes. o) end_at) []

ended : {A : Type 0} (o : Result (A × List ℕ) (List ℕ)) (p : A × List ℕ) → finished o ≡ Ok p → p.1 ≡ []
ended (Err rest) p e = cc
ended (Ok (a, [])) p e = ap left (sym e)
ended (Ok (a, c ∷ cs)) p e = cc

nothing_left : {A : Type 0} (read : Reading A) (bytes : List ℕ) (p : A × List ℕ) → whole read bytes ≡ Ok p → p.1 ≡ []
nothing_left read bytes p e = ended (read bytes) p e

module _ {A : Type 0} (read : Reading A) (written : A → List ℕ) (Is : A → Type 0) (lawful : Lawful read written Is)
    (complete : (a : A) → Is a → read (written a) ≡ Ok (a, [])) where
  abbrev Answer : Type 0
  Answer = Result (A × List ℕ) (List ℕ)

  abbrev as_read : A → Answer
  as_read a = Ok (a, [])

  abbrev as_refused : List ℕ → Answer
  as_refused rest = Err rest

  complete_whole : (a : A) → Is a → whole read (written a) ≡ Ok (a, [])
  complete_whole a i = whole_read read (written a) a (complete a i)

  -- what the bytes are read as is the only text that they are
  pub one_text : (a b : A) → Is a → Is b → written a ≡ written b → a ≡ b
  one_text a b is are same =
      let k : as_read a ≡ as_read b = sym (complete a is) ∙ ap read same ∙ complete b are in
      let p : (a, []) ≡ (b, []) = cc in
      ap (λ (x : A × List ℕ). x.0) p

  text_step : (bytes : List ℕ) (p : A × List ℕ) (o : Answer) → Obeys (whole read) written Is bytes o → whole read bytes ≡ Ok p → Is p.0 × (bytes ≡ written p.0)
  text_step bytes p (Err r) h e = let k : Err r ≡ Ok p = sym h.is ∙ e in cc
  text_step bytes p (Ok q) h e =
      let k : Ok q ≡ Ok p = sym h.is ∙ e in
      let same : q ≡ p = cc in
      let none : q.1 ≡ [] = ap (λ (x : A × List ℕ). x.1) same ∙ nothing_left read bytes p e in
      let all : bytes ≡ written q.0 = h.whole ∙ ap (λ l. h.front ++ l) none ∙ append-nil h.front ∙ h.judged.1 in
      subst (λ (x : A × List ℕ). Is x.0 × (bytes ≡ written x.0)) same (h.judged.0, all)

  -- what is read is a text, and all of the bytes
  pub read_is_text : (bytes : List ℕ) (a : A) (rest : List ℕ) → whole read bytes ≡ Ok (a, rest) → Is a × (bytes ≡ written a)
  read_is_text bytes a rest e = let h = whole_lawful read written Is lawful bytes in text_step bytes (a, rest) h.0 h.1 e

  -- bytes that aren't read are no text
  pub refused_is_no_text : (bytes rest : List ℕ) → whole read bytes ≡ Err rest → (a : A) → Is a → bytes ≡ written a → ⊥
  refused_is_no_text bytes rest e a i same =
      let k : as_refused rest ≡ as_read a = sym e ∙ ap (whole read) same ∙ complete_whole a i in
      false≢true (ap is_ok k)

  left_step : (bytes rest : List ℕ) (o : Answer) → Obeys (whole read) written Is bytes o → whole read bytes ≡ Err rest → length rest ≤ length bytes
  left_step bytes rest (Ok q) h e = let k : as_refused rest ≡ Ok q = sym e ∙ h.is in absurd (false≢true (ap is_ok k))
  left_step bytes rest (Err r) h e =
      let k : as_refused r ≡ as_refused rest = sym h.is ∙ e in
      let same : r ≡ rest = cc in
      let size : length bytes ≡ length h.front + length r = ap length h.whole ∙ length-append h.front r in
      let tail : length r ≡ length rest = ap length same in
      omega arith

  -- what is left where no text goes on is no more than there is
  pub refused_leaves : (bytes rest : List ℕ) → whole read bytes ≡ Err rest → length rest ≤ length bytes
  refused_leaves bytes rest e = let h = whole_lawful read written Is lawful bytes in left_step bytes rest h.0 h.1 e

  -- the front, and one byte more
  front_and_one : (front : List ℕ) (x : ℕ) (rest : List ℕ) → take (length front + 1) (front ++ x ∷ rest) ≡ front ++ x ∷ []
  front_and_one front x rest =
      let long : length front + 1 ≡ length (front ++ x ∷ []) = simp length-append (omega arith) in
      ap (take (length front + 1)) (sym (append_assoc front (x ∷ []) rest))
      ∙ ap (λ n. take n ((front ++ x ∷ []) ++ rest)) long ∙ take-append_seam (front ++ x ∷ []) rest

  no_more : (front rest : List ℕ) (at : ℕ) → ((x : ℕ) (r more : List ℕ) → rest ≡ x ∷ r → whole read (front ++ x ∷ more) ≡ Err (x ∷ more))
      → at ≡ length front → at < length (front ++ rest) → BeginsText written Is (take (at + 1) (front ++ rest)) → ⊥
  no_more front [] at same here below b = omega (arith, length-append front [])
  no_more front (x ∷ rest) at same here below b =
      let taken : take (at + 1) (front ++ x ∷ rest) ≡ front ++ x ∷ [] = ap (λ n. take (n + 1) (front ++ x ∷ rest)) here ∙ front_and_one front x rest in
      let bytes : written b.0 ≡ front ++ x ∷ b.1 = b.3 ∙ ap (λ l. l ++ b.1) taken ∙ append_assoc front (x ∷ []) b.1 in
      refused_is_no_text (front ++ x ∷ b.1) (x ∷ b.1) (same x rest b.1 refl) b.0 b.2 (sym bytes)

  stop_step : (bytes rest : List ℕ) (o : Answer) → Obeys (whole read) written Is bytes o
      → whole read bytes ≡ Err rest → (at : ℕ) → at ≡ length bytes - length rest → StopsAt written Is bytes at
  stop_step bytes rest (Ok q) h e at place = let k : as_refused rest ≡ Ok q = sym e ∙ h.is in absurd (false≢true (ap is_ok k))
  stop_step bytes rest (Err r) h e at place =
      let k : as_refused r ≡ as_refused rest = sym h.is ∙ e in
      let same : r ≡ rest = cc in
      let all : bytes ≡ h.front ++ r = h.whole in
      let size : length bytes ≡ length h.front + length r = ap length all ∙ length-append h.front r in
      let tail : length r ≡ length rest = ap length same in
      let here : at ≡ length h.front = omega arith in
      let front : take at (h.front ++ r) ≡ h.front = ap (λ n. take n (h.front ++ r)) here ∙ take-append_seam h.front r in
      record {
        refused = refused_is_no_text bytes rest e;
        within = omega arith;
        goes_on = (h.judged.0, h.judged.1, h.judged.2, h.judged.3 ∙ ap (λ l. l ++ h.judged.1) (sym (ap (take at) all ∙ front)));
        stops = λ below b. no_more h.front r at h.same here (subst (λ l. at < length l) all below) (subst (λ l. BeginsText written Is (take (at + 1) l)) all b);
      }

  -- and are refused where no text goes on
  pub refused_stops_at : (bytes rest : List ℕ) → whole read bytes ≡ Err rest → (at : ℕ) → at ≡ length bytes - length rest → StopsAt written Is bytes at
  refused_stops_at bytes rest e at place = let h = whole_lawful read written Is lawful bytes in stop_step bytes rest h.0 h.1 e at place
