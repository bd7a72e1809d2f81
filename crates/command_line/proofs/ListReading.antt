-- Items with a comma between two are what is read as them.
use Rattle.std.proofs.Common.{◌≡◌, ℕ, zero, suc, ◌+◌, ◌≤◌, false, List, [], ◌∷◌, ◌++◌, length, codes, Ok, Err, refl, ap, ◌∙◌, append_assoc, length-append, arith}
use Rattle.std.specs.List.{AllByRecursion}
use Rattle.value_text.specs.TextReading.{Reading, mapped, both, begins, choice, nothing, byte_at}
use Rattle.value_text.proofs.Lawful.{left, with_left, Obeys, Lawful, both_lawful, mapped_lawful, choice_lawful, nothing_lawful, same_lawful, byte_lawful, both_read, mapped_read}
use Rattle.command_line.specs.DeclarationTexts.{more_bytes, listed_bytes, AreListed}
use Rattle.command_line.specs.DeclarationReading.{more_at, others_at, listed_at}
use Rattle.command_line.proofs.FrontReading.{lawful_leaves}
use Rattle.command_line.proofs.MoreItems.{is_comma, next_item, ListRead, goes_on, others_next, others_same, others_none}

abbrev pub first_item : {A : Type 0} → A × List A → List A
first_item x = x.0 ∷ x.1

left_again : {A : Type 0} (o : ListRead A) (rest : List ℕ) → left (with_left o rest) ≡ rest
left_again (Ok x) rest = refl
left_again (Err r) rest = refl

module _ {A : Type 0} (item : Reading A) (written : A → List ℕ) (Is : A → Type 0) (some : A) (is : Is some) (lawful : Lawful item written Is) where
  shrinks : (bytes : List ℕ) → length (left (item bytes)) ≤ length bytes
  shrinks = lawful_leaves item written Is lawful

  more_lawful : (n : ℕ) → Lawful (more_at item n) (more_bytes written) (AllByRecursion Is)
  unfolding more_at
  more_lawful zero =
      same_lawful (more_at item zero) (nothing []) (more_bytes written) (AllByRecursion Is) (λ bytes. refl)
      (nothing_lawful [] (more_bytes written) (AllByRecursion Is) tt refl)
  more_lawful (suc n) =
      same_lawful (more_at item (suc n)) (choice is_comma (mapped next_item (both (byte_at 44) (both item (more_at item n)))) (nothing [])) (more_bytes written) (AllByRecursion Is) (λ bytes. refl)
      (choice_lawful is_comma (mapped next_item (both (byte_at 44) (both item (more_at item n)))) (nothing []) (more_bytes written) (AllByRecursion Is)
      (mapped_lawful next_item (both (byte_at 44) (both item (more_at item n))) (λ x. (44 ∷ []) ++ (written x.1.0 ++ more_bytes written x.1.1)) (more_bytes written)
      (λ x. Unit {0} × (Is x.1.0 × AllByRecursion Is x.1.1)) (AllByRecursion Is) (λ a i. (i.1, append_assoc (codes ",") (written a.1.0) (more_bytes written a.1.1)))
      (both_lawful (byte_at 44) (both item (more_at item n)) (λ x. 44 ∷ []) (λ x. written x.0 ++ more_bytes written x.1) (λ x. Unit {0}) (λ x. Is x.0 × AllByRecursion Is x.1)
      (some, []) (is, tt) (byte_lawful 44)
      (both_lawful item (more_at item n) written (more_bytes written) Is (AllByRecursion Is) [] tt lawful (more_lawful n))))
      (nothing_lawful [] (more_bytes written) (AllByRecursion Is) tt refl))

  others_step : (bytes : List ℕ) (o : ListRead A) → Obeys (more_at item (length bytes + 1)) (more_bytes written) (AllByRecursion Is) bytes o → Obeys (others_at item) (more_bytes written) (AllByRecursion Is) bytes o
  unfolding others_at
  others_step bytes o h = record {
    front = h.front;
    is = h.is;
    whole = h.whole;
    same = λ x rest more e.
        let size : length bytes ≡ length h.front + length (left o) = ap length h.whole ∙ length-append h.front (left o) in
        let tail : length (left o) ≡ suc (length rest) = ap length e in
        let there : length (h.front ++ x ∷ more) ≡ length h.front + suc (length more) = length-append h.front (x ∷ more) in
        let behind : length (x ∷ more) ≡ suc (length more) = refl in
        others_same item shrinks (length bytes + 1) (h.front ++ x ∷ more) (x ∷ more) (with_left o (x ∷ more)) (h.same x rest more e) (left_again o (x ∷ more)) (omega arith);
    judged = h.judged;
  }

  others_lawful : Lawful (others_at item) (more_bytes written) (AllByRecursion Is)
  others_lawful bytes = let h = more_lawful (length bytes + 1) bytes in (h.0, others_step bytes h.0 h.1)

  pub listed_lawful : Lawful (listed_at item) (listed_bytes written) (AreListed Is)
  unfolding listed_at
  listed_lawful =
      same_lawful (listed_at item) (mapped first_item (both item (others_at item))) (listed_bytes written) (AreListed Is) (λ bytes. refl)
      (mapped_lawful first_item (both item (others_at item)) (λ x. written x.0 ++ more_bytes written x.1) (listed_bytes written) (λ x. Is x.0 × AllByRecursion Is x.1) (AreListed Is)
      (λ a i. (i, refl))
      (both_lawful item (others_at item) written (more_bytes written) Is (AllByRecursion Is) [] tt lawful others_lawful))

-- items that are read where what is behind them ends them, as a comma does
module _ {A : Type 0} (item : Reading A) (written : A → List ℕ) (Is : A → Type 0) (Ends : List ℕ → Type 0) (shrinks : (bytes : List ℕ) → length (left (item bytes)) ≤ length bytes)
    (comma_ends : (bytes : List ℕ) → Ends (44 ∷ bytes)) (complete : (x : A) (rest : List ℕ) → Is x → Ends rest → item (written x ++ rest) ≡ Ok (x, rest)) where
  more_end : (xs : List A) (rest : List ℕ) → Ends rest → Ends (more_bytes written xs ++ rest)
  more_end [] rest e = e
  more_end (x ∷ xs) rest e = comma_ends ((written x ++ more_bytes written xs) ++ rest)

  others_complete : (xs : List A) (rest : List ℕ) → AllByRecursion Is xs → begins is_comma rest ≡ false → Ends rest → others_at item (more_bytes written xs ++ rest) ≡ Ok (xs, rest)
  others_complete [] rest h e f = others_none item rest e
  others_complete (x ∷ xs) rest h e f =
      let behind : List ℕ = more_bytes written xs ++ rest in
      let grouped : more_bytes written (x ∷ xs) ++ rest ≡ 44 ∷ (written x ++ behind) = simp append_assoc in
      ap (others_at item) grouped
      ∙ others_next item shrinks (written x ++ behind) x behind (complete x behind h.0 (more_end xs rest f))
      ∙ ap (goes_on (x ∷ [])) (others_complete xs rest h.1 e f)

  -- items behind which no comma stands are read
  pub listed_complete : (xs : List A) (rest : List ℕ) → AreListed Is xs → begins is_comma rest ≡ false → Ends rest → listed_at item (listed_bytes written xs ++ rest) ≡ Ok (xs, rest)
  unfolding listed_at
  listed_complete [] rest h e f = absurd h
  listed_complete (x ∷ xs) rest h e f =
      ap (mapped first_item (both item (others_at item))) (append_assoc (written x) (more_bytes written xs) rest)
      ∙ mapped_read first_item (both item (others_at item)) (written x ++ (more_bytes written xs ++ rest)) ((x, xs), rest)
      (both_read item (others_at item) (written x ++ (more_bytes written xs ++ rest)) (x, more_bytes written xs ++ rest) (xs, rest)
      (complete x (more_bytes written xs ++ rest) h.0 (more_end xs rest f))
      (others_complete xs rest h.1 e f))
