-- how far a run has come
use Rattle.std.proofs.Common.{◌≡◌, ◌≢◌, ℕ, ◌≤◌, List, [], ◌∷◌, ◌++◌, Option, Some, Ok, ◌⊎◌, inl, inr, refl, sym, ap, ◌∙◌, subst, arith}
use Rattle.std.proofs.lemmas.List.{append-nil}
use Rattle.std.proofs.lemmas.List.Folds.{concat-append}
use Rattle.std.proofs.KnownBytes.{Appends-trans, Appends-nil, Consumes-nil, Consumes-trans}
use Rattle.std.specs.Borrow.{Bor}
use Rattle.std.specs.List.{concat}
use Rattle.std.specs.Io.KnownBytes.{Appends, Consumes}
use Rattle.script_run.specs.declared.end.Stage.TheVariants as stages
use Rattle.script_run.specs.Reading.{LineReading, HasRead, Next, SeesEnd, fresh}
use Rattle.script_run.specs.Answers.{AreAnswers}

-- the lines of this script that were handed out are answered, and their texts written
pub record SoFar {S : Type 0} (R : S → List ℕ → List ℕ → S → Type 0) (start now : S) (limit : ℕ) (reader : LineReading) (left left' taken taken' : Option (List ℕ))
    (script : List ℕ) (done texts : List (List ℕ)) : Type 0 where
  pub read : HasRead reader script done
  pub same_limit : reader.limit ≡ limit
  pub within : reader.taken ≤ reader.limit
  pub unspent : reader.stage ≢ stages.Spent
  pub end : SeesEnd reader left'
  pub came : Consumes left left' script
  pub answers : AreAnswers R start done texts now
  pub written : Appends taken taken' (concat texts)

-- one more line is answered
pub answers_more : {S : Type 0} (R : S → List ℕ → List ℕ → S → Type 0) (s t u : S) (lines texts : List (List ℕ)) (line text : List ℕ) → AreAnswers R s lines texts t → R t line text u
    → AreAnswers R s (lines ++ line ∷ []) (texts ++ text ∷ []) u
answers_more R s t u [] [] line text h r = (u, subst (λ x. R x line text u) h r, refl)
answers_more R s t u [] (x ∷ xs) line text h r = absurd h
answers_more R s t u (l ∷ ls) [] line text h r = absurd h
answers_more R s t u (l ∷ ls) (x ∷ xs) line text h r = (h.0, h.1, answers_more R h.0 t u ls xs line text h.2 r)

-- the texts with one more
pub concat_more : (texts : List (List ℕ)) (text : List ℕ) → concat (texts ++ text ∷ []) ≡ concat texts ++ text
concat_more texts text = concat-append texts (text ∷ []) ∙ ap (λ t. concat texts ++ t) (append-nil text)

-- nothing is read at first
pub started : {S : Type 0} (R : S → List ℕ → List ℕ → S → Type 0) (start : S) (limit : ℕ) (a : LineReading) (l k : Option (List ℕ)) → a ≡ fresh limit → HasRead a [] []
    → SoFar R start start limit a l l k k [] [] []
started R start limit a l k is read = record {
  read = read;
  same_limit = ap (λ (r : LineReading). r.limit) is;
  within = subst (λ (r : LineReading). r.taken ≤ r.limit) (sym is) (let low : 0 ≤ limit = omega arith in low);
  unspent = λ e. let wrong : stages.Open ≡ stages.Spent = sym (ap (λ (r : LineReading). r.stage) is) ∙ e in cc;
  end = λ e. let wrong : stages.Open ≡ stages.Ended = sym (ap (λ (r : LineReading). r.stage) is) ∙ e in absurd (cc);
  came = Consumes-nil l;
  answers = refl;
  written = Appends-nil k;
}

-- one more line was read, answered, and its text written
pub served : {S : Type 0} {R : S → List ℕ → List ℕ → S → Type 0} {start now next : S} {limit : ℕ} {a b : LineReading} {l l' l'' k k' k'' : Option (List ℕ)} {script : List ℕ} {done texts : List (List ℕ)} {line : Bor (List ℕ)}
    → SoFar R start now limit a l l' k k' script done texts → Next a b l' l'' (Ok (Some line)) → (text : List ℕ) × R now line.now text next × Appends k' k'' text
    → (script' : List ℕ) × (done' : List (List ℕ)) × (texts' : List (List ℕ)) × SoFar R start next limit b l l'' k k'' script' done' texts'
served {R} {start} {now} {next} {limit} {a} {b} {l} {l'} {l''} {k} {k'} {k''} {script} {done} {texts} {line} far call told =
    let came = call.answers in (
      script ++ came.0,
      done ++ line.now ∷ [],
      texts ++ told.0 ∷ [],
      record {
        read = came.2.reads script done far.read;
        same_limit = came.2.limit ∙ far.same_limit;
        within = call.within;
        unspent = still_open a b far.unspent came.3;
        end = call.end far.end;
        came = Consumes-trans l l' l'' script came.0 far.came came.1;
        answers = answers_more R start now next done texts line.now told.0 far.answers told.1;
        written = subst (Appends k k'') (sym (concat_more texts told.0)) (Appends-trans k k' k'' (concat texts) told.0 far.written told.2);
      },
    )
  where
    still_open : (a b : LineReading) → a.stage ≢ stages.Spent → (b.stage ≡ a.stage) ⊎ (b.stage ≡ stages.Ended) → b.stage ≢ stages.Spent
    still_open a b h (inl e) s = h (sym e ∙ s)
    still_open a b h (inr e) s = let wrong : stages.Ended ≡ stages.Spent = sym e ∙ s in cc
