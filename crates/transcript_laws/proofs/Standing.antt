-- how a statement in hand stands, and what all its requests are
use Rattle.std.proofs.Common.{◌≡◌, ℕ, true, false, cond, ◌==◌, List, [], ◌∷◌, ◌++◌, Option, None, Some, refl, sym, ap, subst, ◌∙◌}
use Rattle.std.proofs.lemmas.Option.{none-some, same_Some}
use Rattle.block_model.specs.declared.request.Entry.{Entry}
use Rattle.block_model.specs.declared.row.Query.{Query}
use Rattle.block_model.specs.declared.row.Row.{Row}
use Rattle.block_model.specs.declared.value.Value.{Value}
use Rattle.block_model.specs.DatabaseState.{DatabaseState, OpenTransaction}
use Rattle.block_model.specs.RequestEffect.{Answer, Found, Inserted, after_put, next_row, reply_to, rows_found}
use Rattle.block_model.specs.SerialRun.{serial_run}
use Rattle.store_layout.specs.declared.statement.Statement.{Statement}
use Rattle.store_layout.specs.declared.statement.Statement.TheVariants as statements
use Rattle.script_semantics.specs.Place.{Hand, updated}
use Rattle.script_semantics.specs.Requests.{Course, Enters, MakesAll, NoneLeft, OneMore, entered, next_request}
use Rattle.transcripts.specs.Told.{marked}
use Rattle.transcript_laws.specs.Ahead.{IsCopyAhead, Idle, Fresh, HasPut, HasMarked, answers_marked}

-- the same as being ahead, by what is in hand
pub data Stands (before now : Option OpenTransaction) : Hand → Type 0 where
  IsNew : (statement : Statement) → now ≡ before → Stands before now (record { statement = statement; answers = [] })
  IsPut : (x : OpenTransaction) (table : ℕ) (values : List Value) → before ≡ Some x → x.failed ≡ false → now ≡ Some (after_put x table values)
      → Stands before now (record { statement = statements.Insert table values; answers = Inserted (next_row x table values).id ∷ [] })
  IsMarked : (x : OpenTransaction) (q : Query) (rows left : List Row) → before ≡ Some x → x.failed ≡ false → rows_found x q ≡ rows ++ left → now ≡ Some (marked x rows)
      → Stands before now (record { statement = statements.Delete q; answers = Found (rows_found x q) ∷ answers_marked rows })

pub stands : (before now : Option OpenTransaction) (h : Option Hand) (hand : Hand) → IsCopyAhead before now h → h ≡ Some hand → Stands before now hand
stands before now _ hand (Idle same) e = absurd (none-some _ e)
stands before now _ hand (Fresh statement same) e = subst (Stands before now) (same_Some _ _ e) (IsNew statement same)
stands before now _ hand (HasPut x table values was whole puts) e = subst (Stands before now) (same_Some _ _ e) (IsPut x table values was whole puts)
stands before now _ hand (HasMarked x q rows left was whole finds marks) e = subst (Stands before now) (same_Some _ _ e) (IsMarked x q rows left was whole finds marks)

pub updated_twice : {A : Type 0} (f : ℕ → A) (n : ℕ) (a b : A) → updated (updated f n a) n b ≡ updated f n b
updated_twice f n a b = λ i. λ m. each m i
  where
    each : (m : ℕ) → updated (updated f n a) n b m ≡ updated f n b m
    each m = elim (m == n) as (λ c. cond c b (cond c a (f m)) ≡ cond c b (f m)) [ true ↦ refl | false ↦ refl ]

module _ (opening : DatabaseState) (n : ℕ) (statement : Statement) where
  -- no request is left
  pub all_none : (c f : Course) → next_request n statement c.answers ≡ None → MakesAll opening n statement c f → f ≡ c
  all_none c _ none (NoneLeft _ same) = refl
  all_none c f none (OneMore _ d _ (Enters e is) more) = absurd (none-some e (sym none ∙ is))

  -- one is
  pub all_one : (c f : Course) (e : Entry) → next_request n statement c.answers ≡ Some e → ((a : Answer) → next_request n statement (c.answers ++ a ∷ []) ≡ None)
      → MakesAll opening n statement c f → f ≡ entered opening c e
  all_one c _ e one last (NoneLeft _ none) = absurd (none-some e (sym none ∙ one))
  all_one c f e one last (OneMore _ d _ (Enters e' is) more) =
      all_none (entered opening c e') f (last (reply_to (serial_run opening c.journal) e')) more ∙ ap (entered opening c) (same_Some e' e (sym is ∙ one))
