-- What a reading of any bytes is to the texts that it reads, and how that is kept by readings one behind another.
use Rattle.std.proofs.Common.{◌≡◌, ℕ, eq-eqb, Bool, true, false, cond, List, [], ◌∷◌, ◌++◌, Result, Ok, Err, refl, sym, ap, ◌∙◌, append_assoc, ◌⊎◌, inl, inr, ◌==◌, ◌≢◌}
use Rattle.std.proofs.lemmas.Bool.Decides.{eqb_tells}
use Rattle.value_text.specs.TextReading.{Reading, ◌>>=◌, mapped, both, begins, choice, nothing, end_at, byte_at, word_at}

-- what is left of the bytes
abbrev pub left : {A : Type 0} → Result (A × List ℕ) (List ℕ) → List ℕ
left (Ok x) = x.1
left (Err rest) = rest

-- the same answer with other bytes left
abbrev pub with_left : {A : Type 0} → Result (A × List ℕ) (List ℕ) → List ℕ → Result (A × List ℕ) (List ℕ)
with_left (Ok x) rest = Ok (x.0, rest)
with_left (Err r) rest = Err rest

-- what the bytes before those left are: all of a text, or its front
abbrev pub Judged : {A : Type 0} → (A → List ℕ) → (A → Type 0) → List ℕ → Result (A × List ℕ) (List ℕ) → Type 0
Judged written Is front (Ok x) = Is x.0 × (front ≡ written x.0)
Judged {A} written Is front (Err rest) = (a : A) × (more : List ℕ) × Is a × (written a ≡ front ++ more)

-- the answer for these bytes, which rests on those before the ones left and on the first of these alone
pub record Obeys {A : Type 0} (read : Reading A) (written : A → List ℕ) (Is : A → Type 0) (bytes : List ℕ) (answer : Result (A × List ℕ) (List ℕ)) : Type 0 where
  pub front : List ℕ
  pub is : read bytes ≡ answer
  pub whole : bytes ≡ front ++ left answer
  pub same : (x : ℕ) (rest more : List ℕ) → left answer ≡ x ∷ rest → read (front ++ x ∷ more) ≡ with_left answer (x ∷ more)
  pub judged : Judged written Is front answer

abbrev pub Lawful : {A : Type 0} → Reading A → (A → List ℕ) → (A → Type 0) → Type 0
Lawful {A} read written Is = (bytes : List ℕ) → (answer : Result (A × List ℕ) (List ℕ)) × Obeys read written Is bytes answer

-- the first of two readings doesn't see what the second leaves
ahead : {A : Type 0} (read : Reading A) (written : A → List ℕ) (Is : A → Type 0) (bytes : List ℕ) (p : A × List ℕ) (h : Obeys read written Is bytes (Ok p))
    → (front r : List ℕ) → p.1 ≡ front ++ r → (x : ℕ) (rest more : List ℕ) → r ≡ x ∷ rest → read (h.front ++ (front ++ x ∷ more)) ≡ Ok (p.0, front ++ x ∷ more)
ahead read written Is bytes p h [] r e x rest more k = h.same x rest more (e ∙ k)
ahead read written Is bytes p h (y ∷ front) r e x rest more k = h.same y (front ++ r) (front ++ x ∷ more) e

module _ {A B : Type 0} (first : Reading A) (second : Reading B) (w : A → List ℕ) (v : B → List ℕ) (Is : A → Type 0) (Are : B → Type 0) where
  abbrev pub Both : List ℕ → Result ((A × B) × List ℕ) (List ℕ) → Type 0
  Both bytes answer = Obeys (both first second) (λ x. w x.0 ++ v x.1) (λ x. Is x.0 × Are x.1) bytes answer

  both_second : (bytes : List ℕ) (p : A × List ℕ) → Obeys first w Is bytes (Ok p) → (o : Result (B × List ℕ) (List ℕ)) → Obeys second v Are p.1 o
      → (answer : Result ((A × B) × List ℕ) (List ℕ)) × Both bytes answer
  both_second bytes p h (Err r) k = (
    Err r,
    record {
      front = h.front ++ k.front;
      is = ap (λ o. o >>= λ x. second x.1 >>= λ y. Ok ((x.0, y.0), y.1)) h.is ∙ ap (λ o. o >>= λ y. Ok ((p.0, y.0), y.1)) k.is;
      whole = h.whole ∙ ap (λ l. h.front ++ l) k.whole ∙ sym (append_assoc h.front k.front r);
      same = λ x rest more e. ap (both first second) (append_assoc h.front k.front (x ∷ more))
          ∙ ap (λ o. o >>= λ x. second x.1 >>= λ y. Ok ((x.0, y.0), y.1)) (ahead first w Is bytes p h k.front r k.whole x rest more e)
          ∙ ap (λ o. o >>= λ y. Ok ((p.0, y.0), y.1)) (k.same x rest more e);
      judged = ((p.0, k.judged.0), k.judged.1, (h.judged.0, k.judged.2), ap (λ l. l ++ v k.judged.0) (sym h.judged.1) ∙ ap (λ l. h.front ++ l) k.judged.3 ∙ sym (append_assoc h.front k.front k.judged.1));
    },
  )
  both_second bytes p h (Ok q) k = (
    Ok ((p.0, q.0), q.1),
    record {
      front = h.front ++ k.front;
      is = ap (λ o. o >>= λ x. second x.1 >>= λ y. Ok ((x.0, y.0), y.1)) h.is ∙ ap (λ o. o >>= λ y. Ok ((p.0, y.0), y.1)) k.is;
      whole = h.whole ∙ ap (λ l. h.front ++ l) k.whole ∙ sym (append_assoc h.front k.front q.1);
      same = λ x rest more e. ap (both first second) (append_assoc h.front k.front (x ∷ more))
          ∙ ap (λ o. o >>= λ x. second x.1 >>= λ y. Ok ((x.0, y.0), y.1)) (ahead first w Is bytes p h k.front q.1 k.whole x rest more e)
          ∙ ap (λ o. o >>= λ y. Ok ((p.0, y.0), y.1)) (k.same x rest more e);
      judged = ((h.judged.0, k.judged.0), ap (λ l. l ++ k.front) h.judged.1 ∙ ap (λ l. w p.0 ++ l) k.judged.1);
    },
  )

  both_first : (some : B) → Are some → Lawful second v Are → (bytes : List ℕ) (o : Result (A × List ℕ) (List ℕ)) → Obeys first w Is bytes o
      → (answer : Result ((A × B) × List ℕ) (List ℕ)) × Both bytes answer
  both_first some is behind bytes (Err r) h = (
    Err r,
    record {
      front = h.front;
      is = ap (λ o. o >>= λ x. second x.1 >>= λ y. Ok ((x.0, y.0), y.1)) h.is;
      whole = h.whole;
      same = λ x rest more e. ap (λ o. o >>= λ x. second x.1 >>= λ y. Ok ((x.0, y.0), y.1)) (h.same x rest more e);
      judged = ((h.judged.0, some), h.judged.1 ++ v some, (h.judged.2, is), ap (λ l. l ++ v some) h.judged.3 ∙ append_assoc h.front h.judged.1 (v some));
    },
  )
  both_first some is behind bytes (Ok p) h = let k = behind p.1 in both_second bytes p h k.0 k.1

  -- one lawful reading behind another is lawful, where there is something that the second could read
  pub both_lawful : (some : B) → Are some → Lawful first w Is → Lawful second v Are → Lawful (both first second) (λ x. w x.0 ++ v x.1) (λ x. Is x.0 × Are x.1)
  both_lawful some is l k bytes = let h = l bytes in both_first some is k bytes h.0 h.1

module _ {A B : Type 0} (f : A → B) (read : Reading A) (w : A → List ℕ) (v : B → List ℕ) (Is : A → Type 0) (Are : B → Type 0) (through : (a : A) → Is a → Are (f a) × (v (f a) ≡ w a)) where
  mapped_step : (bytes : List ℕ) (o : Result (A × List ℕ) (List ℕ)) → Obeys read w Is bytes o → (answer : Result (B × List ℕ) (List ℕ)) × Obeys (mapped f read) v Are bytes answer
  mapped_step bytes (Err r) h = (
    Err r,
    record {
      front = h.front;
      is = ap (λ o. o >>= λ x. Ok (f x.0, x.1)) h.is;
      whole = h.whole;
      same = λ x rest more e. ap (λ o. o >>= λ x. Ok (f x.0, x.1)) (h.same x rest more e);
      judged = let t = through h.judged.0 h.judged.2 in (f h.judged.0, h.judged.1, t.0, t.1 ∙ h.judged.3);
    },
  )
  mapped_step bytes (Ok p) h = (
    Ok (f p.0, p.1),
    record {
      front = h.front;
      is = ap (λ o. o >>= λ x. Ok (f x.0, x.1)) h.is;
      whole = h.whole;
      same = λ x rest more e. ap (λ o. o >>= λ x. Ok (f x.0, x.1)) (h.same x rest more e);
      judged = let t = through p.0 h.judged.0 in (t.0, h.judged.1 ∙ sym t.1);
    },
  )

  pub mapped_lawful : Lawful read w Is → Lawful (mapped f read) v Are
  mapped_lawful l bytes = let h = l bytes in mapped_step bytes h.0 h.1

-- bytes that agree in their first byte begin alike
begins_same : (test : ℕ → Bool) (front : List ℕ) (x : ℕ) (rest more bytes : List ℕ) → bytes ≡ front ++ x ∷ rest → begins test (front ++ x ∷ more) ≡ begins test bytes
begins_same test [] x rest more bytes e = sym (ap (begins test) e)
begins_same test (y ∷ front) x rest more bytes e = sym (ap (begins test) e)

module _ {A : Type 0} (test : ℕ → Bool) (one other : Reading A) (w : A → List ℕ) (Is : A → Type 0) where
  choice_one : (bytes : List ℕ) (o : Result (A × List ℕ) (List ℕ)) → begins test bytes ≡ true → Obeys one w Is bytes o → Obeys (choice test one other) w Is bytes o
  choice_one bytes o b h = record {
    front = h.front;
    is = ap (λ b. cond b (one bytes) (other bytes)) b ∙ h.is;
    whole = h.whole;
    same = λ x rest more e.
        let t : begins test (h.front ++ x ∷ more) ≡ true = begins_same test h.front x rest more bytes (h.whole ∙ ap (λ l. h.front ++ l) e) ∙ b in
        ap (λ b. cond b (one (h.front ++ x ∷ more)) (other (h.front ++ x ∷ more))) t ∙ h.same x rest more e;
    judged = h.judged;
  }

  choice_other : (bytes : List ℕ) (o : Result (A × List ℕ) (List ℕ)) → begins test bytes ≡ false → Obeys other w Is bytes o → Obeys (choice test one other) w Is bytes o
  choice_other bytes o b h = record {
    front = h.front;
    is = ap (λ b. cond b (one bytes) (other bytes)) b ∙ h.is;
    whole = h.whole;
    same = λ x rest more e.
        let t : begins test (h.front ++ x ∷ more) ≡ false = begins_same test h.front x rest more bytes (h.whole ∙ ap (λ l. h.front ++ l) e) ∙ b in
        ap (λ b. cond b (one (h.front ++ x ∷ more)) (other (h.front ++ x ∷ more))) t ∙ h.same x rest more e;
    judged = h.judged;
  }

  choice_step : Lawful one w Is → Lawful other w Is → (bytes : List ℕ) (b : Bool) → begins test bytes ≡ b → (answer : Result (A × List ℕ) (List ℕ)) × Obeys (choice test one other) w Is bytes answer
  choice_step l k bytes true e = let h = l bytes in (h.0, choice_one bytes h.0 e h.1)
  choice_step l k bytes false e = let h = k bytes in (h.0, choice_other bytes h.0 e h.1)

  -- so is a choice between two lawful readings
  pub choice_lawful : Lawful one w Is → Lawful other w Is → Lawful (choice test one other) w Is
  choice_lawful l k bytes = choice_step l k bytes (begins test bytes) refl

pub nothing_lawful : {A : Type 0} (a : A) (w : A → List ℕ) (Is : A → Type 0) → Is a → w a ≡ [] → Lawful (nothing a) w Is
nothing_lawful a w Is is e bytes = (Ok (a, bytes), record { front = []; is = refl; whole = refl; same = λ x rest more k. refl; judged = (is, sym e) })

-- a reading is as lawful as one that answers the same
pub same_lawful : {A : Type 0} (read other : Reading A) (w : A → List ℕ) (Is : A → Type 0) → ((bytes : List ℕ) → read bytes ≡ other bytes) → Lawful other w Is → Lawful read w Is
same_lawful read other w Is same l bytes =
    let h = l bytes in (
      h.0,
      record {
        front = h.1.front;
        is = same bytes ∙ h.1.is;
        whole = h.1.whole;
        same = λ x rest more e. same (h.1.front ++ x ∷ more) ∙ h.1.same x rest more e;
        judged = h.1.judged;
      },
    )

pub end_lawful : Lawful end_at (λ x. []) (λ x. Unit {0})
end_lawful [] = (Ok (tt, []), record { front = []; is = refl; whole = refl; same = λ x rest more e. cc; judged = (tt, refl) })
end_lawful (c ∷ cs) = (Err (c ∷ cs), record { front = []; is = refl; whole = refl; same = λ x rest more e. refl; judged = (tt, [], tt, refl) })

byte_step : (b c : ℕ) (cs : List ℕ) → ((c == b) ≡ true) × (c ≡ b) ⊎ ((c == b) ≡ false) × (c ≢ b) → (answer : Result (Unit {0} × List ℕ) (List ℕ)) × Obeys (byte_at b) (λ x. b ∷ []) (λ x. Unit {0}) (c ∷ cs) answer
byte_step b c cs (inl t) = (
  Ok (tt, cs),
  record {
    front = c ∷ [];
    is = ap (λ t. cond t (Ok (tt, cs)) (Err (c ∷ cs))) t.0;
    whole = refl;
    same = λ x rest more e. ap (λ t. cond t (Ok (tt, x ∷ more)) (Err (c ∷ x ∷ more))) t.0;
    judged = (tt, ap (λ n. n ∷ []) t.1);
  },
)
byte_step b c cs (inr t) = (
  Err (c ∷ cs),
  record {
    front = [];
    is = ap (λ t. cond t (Ok (tt, cs)) (Err (c ∷ cs))) t.0;
    whole = refl;
    same = λ x rest more e. let d : c ≡ x = cc in ap (byte_at b) (ap (λ n. n ∷ more) (sym d)) ∙ ap (λ t. cond t (Ok (tt, more)) (Err (c ∷ more))) t.0 ∙ ap (λ n. Err (n ∷ more)) d;
    judged = (tt, b ∷ [], tt, refl);
  },
)

pub byte_lawful : (b : ℕ) → Lawful (byte_at b) (λ x. b ∷ []) (λ x. Unit {0})
byte_lawful b [] = (Err [], record { front = []; is = refl; whole = refl; same = λ x rest more e. cc; judged = (tt, b ∷ [], tt, refl) })
byte_lawful b (c ∷ cs) = byte_step b c cs (eqb_tells c b)

abbrev One : Type 0
One = Result (Unit {0} × List ℕ) (List ℕ)

abbrev Two : Type 0
Two = Result ((Unit {0} × Unit {0}) × List ℕ) (List ℕ)

abbrev paired : Unit {0} → One → Two
paired u o = o >>= λ y. Ok ((u, y.0), y.1)

abbrev joined : Two → One
joined o = o >>= λ x. Ok (tt, x.1)

word_end : (u : Unit {0}) (o : One) → o ≡ joined (paired u o)
word_end u (Ok x) = refl
word_end u (Err r) = refl

word_step : (ws : List ℕ) (o : One) → (o >>= λ x. word_at ws x.1) ≡ joined (o >>= λ x. paired x.0 (word_at ws x.1))
word_step ws (Ok x) = word_end x.0 (word_at ws x.1)
word_step ws (Err r) = refl

pub word_lawful : (word : List ℕ) → Lawful (word_at word) (λ x. word) (λ x. Unit {0})
word_lawful [] = nothing_lawful tt (λ x. []) (λ x. Unit {0}) tt refl
word_lawful (w ∷ ws) =
    same_lawful (word_at (w ∷ ws)) (mapped (λ x. tt) (both (byte_at w) (word_at ws))) (λ x. w ∷ ws) (λ x. Unit {0})
    (λ bytes. word_step ws (byte_at w bytes))
    (mapped_lawful (λ x. tt) (both (byte_at w) (word_at ws)) (λ x. w ∷ ws) (λ x. w ∷ ws) (λ x. Unit {0} × Unit {0}) (λ x. Unit {0}) (λ a i. (tt, refl))
    (both_lawful (byte_at w) (word_at ws) (λ x. w ∷ []) (λ x. ws) (λ x. Unit {0}) (λ x. Unit {0}) tt tt (byte_lawful w) (word_lawful ws)))

-- what readings one behind another give, where each gives something
pub both_read : {A B : Type 0} (first : Reading A) (second : Reading B) (bytes : List ℕ) (p : A × List ℕ) (q : B × List ℕ)
    → first bytes ≡ Ok p → second p.1 ≡ Ok q → both first second bytes ≡ Ok ((p.0, q.0), q.1)
both_read first second bytes p q e k =
    ap (λ o. o >>= λ x. second x.1 >>= λ y. Ok ((x.0, y.0), y.1)) e ∙ ap (λ o. o >>= λ y. Ok ((p.0, y.0), y.1)) k

pub mapped_read : {A B : Type 0} (f : A → B) (read : Reading A) (bytes : List ℕ) (p : A × List ℕ) → read bytes ≡ Ok p → mapped f read bytes ≡ Ok (f p.0, p.1)
mapped_read f read bytes p e = ap (λ o. o >>= λ x. Ok (f x.0, x.1)) e

pub choice_first : {A : Type 0} (test : ℕ → Bool) (one other : Reading A) (bytes : List ℕ) → begins test bytes ≡ true → choice test one other bytes ≡ one bytes
choice_first test one other bytes e = ap (λ b. cond b (one bytes) (other bytes)) e

pub choice_second : {A : Type 0} (test : ℕ → Bool) (one other : Reading A) (bytes : List ℕ) → begins test bytes ≡ false → choice test one other bytes ≡ other bytes
choice_second test one other bytes e = ap (λ b. cond b (one bytes) (other bytes)) e

-- what a reading gives, through a weaker fact on texts
module _ {A : Type 0} (read : Reading A) (w : A → List ℕ) (Is Are : A → Type 0) (weaker : (a : A) → Is a → Are a) where
  weaker_step : (bytes : List ℕ) (o : Result (A × List ℕ) (List ℕ)) → Obeys read w Is bytes o → Obeys read w Are bytes o
  weaker_step bytes (Err r) h = record { front = h.front; is = h.is; whole = h.whole; same = h.same; judged = (h.judged.0, h.judged.1, weaker h.judged.0 h.judged.2, h.judged.3) }
  weaker_step bytes (Ok p) h = record { front = h.front; is = h.is; whole = h.whole; same = h.same; judged = (weaker p.0 h.judged.0, h.judged.1) }

  pub weaker_lawful : Lawful read w Is → Lawful read w Are
  weaker_lawful l bytes = let h = l bytes in (h.0, weaker_step bytes h.0 h.1)

abbrev then_word : List ℕ → One → One
then_word ws o = o >>= λ x. word_at ws x.1

abbrev one_if : List ℕ → List ℕ → Bool → One
one_if behind whole b = cond b (Ok (tt, behind)) (Err whole)

-- a word is read where it stands
pub word_complete : (word rest : List ℕ) → word_at word (word ++ rest) ≡ Ok (tt, rest)
word_complete [] rest = refl
word_complete (w ∷ ws) rest = ap (λ b. then_word ws (one_if (ws ++ rest) (w ∷ (ws ++ rest)) b)) (eq-eqb w w refl) ∙ word_complete ws rest

-- where a reading stops, what is read behind it isn't seen
pub both_stops : {A B : Type 0} (first : Reading A) (second : Reading B) (bytes rest : List ℕ) → first bytes ≡ Err rest → both first second bytes ≡ Err rest
both_stops first second bytes rest e = ap (λ o. o >>= λ x. second x.1 >>= λ y. Ok ((x.0, y.0), y.1)) e

pub both_stops_behind : {A B : Type 0} (first : Reading A) (second : Reading B) (bytes : List ℕ) (p : A × List ℕ) (rest : List ℕ)
    → first bytes ≡ Ok p → second p.1 ≡ Err rest → both first second bytes ≡ Err rest
both_stops_behind first second bytes p rest e k =
    ap (λ o. o >>= λ x. second x.1 >>= λ y. Ok ((x.0, y.0), y.1)) e ∙ ap (λ o. o >>= λ y. Ok ((p.0, y.0), y.1)) k

pub mapped_stops : {A B : Type 0} (f : A → B) (read : Reading A) (bytes rest : List ℕ) → read bytes ≡ Err rest → mapped f read bytes ≡ Err rest
mapped_stops f read bytes rest e = ap (λ o. o >>= λ x. Ok (f x.0, x.1)) e
