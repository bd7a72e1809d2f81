-- how lines that were read stand to each other
use Rattle.std.proofs.Common.{◌≡◌, ℕ, zero, suc, ◌<◌, ◌≤◌, true, List, [], ◌∷◌, ◌++◌, length, map, take, Some, ◌⊎◌, inl, inr, refl, sym, ap, ◌∙◌, arith}
use Rattle.std.specs.Prelude.{slice_get}
use Rattle.std.specs.Option.{is_some}
use Rattle.std.proofs.lemmas.List.{map-append, length-map, take-append-le}
use Rattle.store_layout.specs.declared.statement.Statement.{Statement}
use Rattle.transcripts.specs.Transcript.{Line, lines_of}
use Rattle.plain_script.specs.KeptLines.{AreRead, NoneRead, MoreRead, is_there, line_kept, lines_kept, next_kept}
use Rattle.plain_script.specs.declared.kept.ScriptLine.{ScriptLine}
use Rattle.plain_script.proofs.ListLemmas.{snoc_cases}

-- the line of that number has its statement, and its rank is how many lines of its session stand before it
pub record StandsAt (kept : List ScriptLine) (i : ℕ) (k : ScriptLine) : Type 0 where
  pub statement : Statement
  pub there : k.statement ≡ Some statement
  pub rank : k.rank ≡ length (lines_of k.session (take i (lines_kept kept)))

-- what stands before a line isn't changed by one more
front_same : (kept : List ScriptLine) (x : ScriptLine) (i : ℕ) → i ≤ length kept → take i (lines_kept (kept ++ x ∷ [])) ≡ take i (lines_kept kept)
front_same kept x i within =
    ap (take i) (map-append line_kept kept (x ∷ [])) ∙ take-append-le i (lines_kept kept) (line_kept x ∷ []) (let w : i ≤ length (lines_kept kept) = omega (arith, within, length-map kept line_kept) in w)

front_all : (kept : List ScriptLine) (x : ScriptLine) → take (length kept) (lines_kept (kept ++ x ∷ [])) ≡ lines_kept kept
front_all kept x =
    front_same kept x (length kept) (omega arith) ∙ ap (λ n. take n (lines_kept kept)) (sym (length-map kept line_kept)) ∙ take_whole (lines_kept kept)
  where
    take_whole : (xs : List Line) → take (length xs) xs ≡ xs
    take_whole [] = refl
    take_whole (x ∷ xs) = ap (λ ls. x ∷ ls) (take_whole xs)

pub stands_at : (kept : List ScriptLine) → AreRead kept → (i : ℕ) (k : ScriptLine) → slice_get kept i ≡ Some k → StandsAt kept i k
stands_at kept NoneRead i k e = absurd (cc)
stands_at kept (MoreRead before n statement read) i k e = at (stands_at before read i k) (snoc_cases before (next_kept before n statement) k i e)
  where
    at : (slice_get before i ≡ Some k → StandsAt before i k) → ((i < length before) × (slice_get before i ≡ Some k)) ⊎ ((i ≡ length before) × (k ≡ next_kept before n statement)) → StandsAt (before ++ next_kept before n statement ∷ []) i k
    at earlier (inl p) =
        let old = earlier p.1 in
        record {
          statement = old.statement;
          there = old.there;
          rank = old.rank ∙ ap (λ ls. length (lines_of k.session ls)) (sym (front_same before (next_kept before n statement) i (omega (arith, p.0))));
        }
    at earlier (inr p) = record {
      statement = statement;
      there = ap (λ (x : ScriptLine). x.statement) p.1;
      rank =
          ap (λ (x : ScriptLine). x.rank) p.1 ∙ ap (λ m. length (lines_of m (lines_kept before))) (sym (ap (λ (x : ScriptLine). x.session) p.1))
          ∙ ap (λ ls. length (lines_of k.session ls)) (sym (front_all before (next_kept before n statement)))
          ∙ ap (λ j. length (lines_of k.session (take j (lines_kept (before ++ next_kept before n statement ∷ []))))) (sym p.0);
    }

each_there : (xs : List ScriptLine) → ((i : ℕ) (k : ScriptLine) → slice_get xs i ≡ Some k → is_there k ≡ true) → map is_there xs ≡ map (λ (line : Line). true) (lines_kept xs)
each_there [] h = refl
each_there (x ∷ xs) h = λ i. h zero x refl i ∷ each_there xs (λ j k e. h (suc j) k e) i

-- all statements are there at first
pub all_there : (kept : List ScriptLine) → AreRead kept → map is_there kept ≡ map (λ (line : Line). true) (lines_kept kept)
all_there kept read = each_there kept (λ i k e. ap is_some (stands_at kept read i k e).there)
