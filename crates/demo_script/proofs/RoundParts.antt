-- one round, part by part
use Rattle.std.proofs.Common.{◌≡◌, ◌≢◌, ℕ, zero, suc, ◌+◌, ◌*◌, Bool, true, false, List, [], ◌++◌, codes, refl, sym, subst, append_assoc, arith}
use Rattle.std.proofs.lemmas.List.{append-nil}
use Rattle.std.proofs.lemmas.Bool.{false≢true}
use Rattle.script_run.specs.declared.engine.AnswerFault.{AnswerFault}
use Rattle.demo_script.specs.declared.answer.Answer.{Answer}
use Rattle.demo_script.specs.declared.heard.Heard.{Heard}
use Rattle.demo_script.specs.Conversation.{AreRows, Closes, IsRound, Opens, Said, Says, each_session, keeper, rows_of_round}
use Rattle.demo_script.specs.Played.{AreSaid}
use Rattle.demo_script.specs.Saying.{Hears, IsCut, IsSaid, LeavesKeeper}
use Rattle.demo_script.proofs.Joins.{AreSaid-append, cut_at_line, cut_behind, cut_first, inserted_rows-append, one_said}
use Rattle.demo_script.proofs.Endings.{committed, some_closing, some_lines, some_opening, some_rows}

-- ---- how it begins

pub no_opening : {S : Type 0} (R : S → List ℕ → Answer → S → Type 0) (s : S) → IsSaid R (λ (said : List Said). Opens zero said false) s s 0
no_opening R s = record { said = []; part = (refl, refl); answers = refl; counted = refl }

pub said_opening : {S : Type 0} (R : S → List ℕ → Answer → S → Type 0) (s t : S) (round : ℕ) (heard : Heard) → round ≢ 0 → Hears R s (keeper (codes "start summarize di")) heard t
    → IsSaid R (λ (said : List Said). Opens round said heard.busy) s t heard.rows
said_opening R s t zero heard e h = absurd (e refl)
said_opening R s t (suc round) heard e h =
    one_said R (λ (said : List Said). Opens (suc round) said heard.busy) s t (keeper (codes "start summarize di")) heard h (h.answer, refl, h.tells.busy)

pub cut_opening : {S : Type 0} (R : S → List ℕ → Answer → S → Type 0) (U : S → List ℕ → AnswerFault → S → Type 0) (s s' : S) (fault : AnswerFault) (round : ℕ) → round ≢ 0
    → U s (keeper (codes "start summarize di")) fault s' → IsCut R U (LeavesKeeper (Opens round)) s s' fault
cut_opening R U s s' fault zero e u = absurd (e refl)
cut_opening R U s s' fault (suc round) e u =
    let some = some_opening (suc round) in
    cut_at_line R U (LeavesKeeper (Opens (suc round))) s s s' fault [] refl (keeper (codes "start summarize di")) (committed []).answer [] some.1 u

-- ---- how it ends

pub no_closing : {S : Type 0} (R : S → List ℕ → Answer → S → Type 0) (s : S) → IsSaid R (Closes false) s s 0
no_closing R s = record { said = []; part = refl; answers = refl; counted = refl }

pub said_closing : {S : Type 0} (R : S → List ℕ → Answer → S → Type 0) (busy : Bool) (s t : S) (heard : Heard) → busy ≡ true → Hears R s (keeper (codes "finish")) heard t → IsSaid R (Closes busy) s t heard.rows
said_closing R false s t heard e h = absurd (false≢true e)
said_closing R true s t heard e h = one_said R (Closes true) s t (keeper (codes "finish")) heard h refl

pub cut_closing : {S : Type 0} (R : S → List ℕ → Answer → S → Type 0) (U : S → List ℕ → AnswerFault → S → Type 0) (busy : Bool) (s s' : S) (fault : AnswerFault) → busy ≡ true → U s (keeper (codes "finish")) fault s'
    → IsCut R U (Closes busy) s s' fault
cut_closing R U false s s' fault e u = absurd (false≢true e)
cut_closing R U true s s' fault e u = cut_at_line R U (Closes true) s s s' fault [] refl (keeper (codes "finish")) (committed []).answer [] refl u

-- ---- the whole round

module _ (seed rows round : ℕ) where
  abbrev Begins : List Said → Type 0
  Begins = Says (each_session (codes "begin"))

  abbrev Commits : List Said → Type 0
  Commits = Says (each_session (codes "commit"))

  abbrev Rows : Bool → List Said → Bool → Type 0
  Rows busy said busy' = AreRows seed (400 * round) (rows_of_round rows round) busy said busy'

  abbrev Round : List Said → Type 0
  Round = IsRound seed rows round

  joined : (opened begun put closed ended : List Said) (busy busy' : Bool) → Opens round opened busy → Begins begun → Rows busy put busy' → Closes busy' closed → Commits ended
      → Round (opened ++ begun ++ put ++ closed ++ ended)
  joined opened begun put closed ended busy busy' o b p c e = record {
    opened = opened;
    begun = begun;
    put = put;
    closed = closed;
    committed = ended;
    busy = busy;
    busy' = busy';
    opens = o;
    begins = b;
    puts = p;
    closes = c;
    commits = e;
    is = refl;
  }

  behind_closed : (opened begun put closed : List Said) (busy busy' : Bool) → Opens round opened busy → Begins begun → Rows busy put busy' → Closes busy' closed
      → (rest : List Said) × Round ((opened ++ begun ++ put ++ closed) ++ rest)
  behind_closed opened begun put closed busy busy' o b p c =
      let e = some_lines (each_session (codes "commit")) in
      (e.0, joined opened begun put closed e.0 busy busy' o b p c e.1)

  behind_put : (opened begun put : List Said) (busy busy' : Bool) → Opens round opened busy → Begins begun → Rows busy put busy' → (rest : List Said) × Round ((opened ++ begun ++ put) ++ rest)
  behind_put opened begun put busy busy' o b p =
      let c = some_closing busy' in
      let more = behind_closed opened begun put c.0 busy busy' o b p c.1 in
      (c.0 ++ more.0, subst Round (append_assoc (opened ++ begun ++ put) c.0 more.0) more.1)

  behind_begun : (opened begun : List Said) (busy : Bool) → Opens round opened busy → Begins begun → (rest : List Said) × Round ((opened ++ begun) ++ rest)
  behind_begun opened begun busy o b =
      let p = some_rows seed (400 * round) (rows_of_round rows round) busy in
      let more = behind_put opened begun p.0 busy p.1.0 o b p.1.1 in
      (p.0 ++ more.0, subst Round (append_assoc (opened ++ begun) p.0 more.0) more.1)

  behind_opened : (opened : List Said) (busy : Bool) → Opens round opened busy → (rest : List Said) × Round (opened ++ rest)
  behind_opened opened busy o =
      let b = some_lines (each_session (codes "begin")) in
      let more = behind_begun opened b.0 busy o b.1 in
      (b.0 ++ more.0, subst Round (append_assoc opened b.0 more.0) more.1)

  module _ {S : Type 0} {R : S → List ℕ → Answer → S → Type 0} {s : S} where
    pub cut_opened : {U : S → List ℕ → AnswerFault → S → Type 0} {s' : S} {fault : AnswerFault} → IsCut R U (LeavesKeeper (Opens round)) s s' fault → IsCut R U Round s s' fault
    cut_opened cut = cut_first Round (λ said p. behind_opened said p.0 p.1) cut

    module _ {t : S} {m : ℕ} (busy : Bool) (opened : IsSaid R (λ (said : List Said). Opens round said busy) s t m) where
      pub cut_begun : {U : S → List ℕ → AnswerFault → S → Type 0} {s' : S} {fault : AnswerFault} → IsCut R U Begins t s' fault → IsCut R U Round s s' fault
      cut_begun cut = cut_behind Round s opened.said opened.answers ends cut
        where
          ends : (said : List Said) → Begins said → (rest : List Said) × Round (opened.said ++ (said ++ rest))
          ends said b =
              let more = behind_begun opened.said said busy opened.part b in
              (more.0, subst Round (append_assoc opened.said said more.0) more.1)

      module _ {u : S} {n : ℕ} (begun : IsSaid R Begins t u n) where
        two : AreSaid R s (opened.said ++ begun.said) u
        two = AreSaid-append R s t u opened.said begun.said opened.answers begun.answers

        pub cut_put : {U : S → List ℕ → AnswerFault → S → Type 0} {s' : S} {fault : AnswerFault} → IsCut R U (LeavesKeeper (Rows busy)) u s' fault → IsCut R U Round s s' fault
        cut_put cut = cut_behind Round s (opened.said ++ begun.said) two ends cut
          where
            ends : (said : List Said) → LeavesKeeper (Rows busy) said → (rest : List Said) × Round ((opened.said ++ begun.said) ++ (said ++ rest))
            ends said p =
                let more = behind_put opened.said begun.said said busy p.0 opened.part begun.part p.1 in
                (more.0, subst Round (append_assoc (opened.said ++ begun.said) said more.0) more.1)

        module _ {v : S} {k : ℕ} (busy' : Bool) (put : IsSaid R (λ (said : List Said). Rows busy said busy') u v k) where
          three : AreSaid R s (opened.said ++ begun.said ++ put.said) v
          three = AreSaid-append R s u v (opened.said ++ begun.said) put.said two put.answers

          pub cut_closed : {U : S → List ℕ → AnswerFault → S → Type 0} {s' : S} {fault : AnswerFault} → IsCut R U (Closes busy') v s' fault → IsCut R U Round s s' fault
          cut_closed cut = cut_behind Round s (opened.said ++ begun.said ++ put.said) three ends cut
            where
              ends : (said : List Said) → Closes busy' said → (rest : List Said) × Round ((opened.said ++ begun.said ++ put.said) ++ (said ++ rest))
              ends said c =
                  let more = behind_closed opened.said begun.said put.said said busy busy' opened.part begun.part put.part c in
                  (more.0, subst Round (append_assoc (opened.said ++ begun.said ++ put.said) said more.0) more.1)

          module _ {w : S} {l : ℕ} (closed : IsSaid R (Closes busy') v w l) where
            four : AreSaid R s (opened.said ++ begun.said ++ put.said ++ closed.said) w
            four = AreSaid-append R s v w (opened.said ++ begun.said ++ put.said) closed.said three closed.answers

            pub cut_ended : {U : S → List ℕ → AnswerFault → S → Type 0} {s' : S} {fault : AnswerFault} → IsCut R U Commits w s' fault → IsCut R U Round s s' fault
            cut_ended cut = cut_behind Round s (opened.said ++ begun.said ++ put.said ++ closed.said) four ends cut
              where
                ends : (said : List Said) → Commits said → (rest : List Said) × Round ((opened.said ++ begun.said ++ put.said ++ closed.said) ++ (said ++ rest))
                ends said e =
                    let whole = joined opened.said begun.said put.said closed.said said busy busy' opened.part begun.part put.part closed.part e in
                    ([], subst (λ (l : List Said). Round ((opened.said ++ begun.said ++ put.said ++ closed.said) ++ l)) (sym (append-nil said)) whole)

            pub said_round : {x : S} {e : ℕ} → IsSaid R Commits w x e → IsSaid R Round s x (m + n + k + l + e)
            said_round {x} {e} ended = record {
              said = opened.said ++ begun.said ++ put.said ++ closed.said ++ ended.said;
              part = joined opened.said begun.said put.said closed.said ended.said busy busy' opened.part begun.part put.part closed.part ended.part;
              answers = AreSaid-append R s w x (opened.said ++ begun.said ++ put.said ++ closed.said) ended.said four ended.answers;
              counted = omega (
                arith,
                inserted_rows-append (opened.said ++ begun.said ++ put.said ++ closed.said) ended.said,
                inserted_rows-append (opened.said ++ begun.said ++ put.said) closed.said,
                inserted_rows-append (opened.said ++ begun.said) put.said,
                inserted_rows-append opened.said begun.said,
                opened.counted,
                begun.counted,
                put.counted,
                closed.counted,
                ended.counted,
              );
            }
