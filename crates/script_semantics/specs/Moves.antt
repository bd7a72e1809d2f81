-- Steps of a session's statement behind each of which it goes on, by their number.
use Rattle.std.specs.Prelude.{◌≡◌, ℕ, suc, ◌<◌, length}
use Rattle.block_model.specs.declared.reply.Point.{Point}
use Rattle.store_layout.specs.declared.statement.Statement.{Statement}
use Rattle.store_layout.specs.declared.statement.Statement.TheVariants as statements
use Rattle.coverage.specs.TableCovered.{IsTableKept}
use Rattle.script_semantics.specs.Beginnings.{IsIn, IsWorkIn}
use Rattle.script_semantics.specs.Place.{Place}
use Rattle.script_semantics.specs.StatementSteps.{Moved, Steps}
use Rattle.script_semantics.specs.Bounds.{IsBounded, IsTaskBounded}

-- so many steps of session n's statement lead from one place to the other
pub data MovedIn (n : ℕ) : (steps : ℕ) → Place → Place → Type 0 where
  StillThere : (p : Place) → MovedIn n 0 p p
  OneFurther : (steps : ℕ) (p q r : Place) (point : Point) → Steps p n (Moved point) q → MovedIn n steps q r → MovedIn n (suc steps) p r

-- Work stands in one table at most, or begins in one, and the layout has that table. Any other statement names its own.
abbrev pub IsInOneTable : Place → ℕ → Statement → Type 0
IsInOneTable p n statements.Work = (i j : ℕ) → IsWorkIn p n i → IsWorkIn p n j → (i < length p.layout.schema.tables) × (j ≡ i)
IsInOneTable p n statement = Unit {0}

-- The statement makes its steps in one table, which is kept, and no larger than a layout may make it; and it goes no further there than it may.
pub record IsBoundedAt (p : Place) (n : ℕ) (statement : Statement) : Type 0 where
  pub one_table : IsInOneTable p n statement
  pub kept : (table : ℕ) → IsIn p n statement table → IsTableKept (p.tables table)
  pub bounded : (table : ℕ) → IsIn p n statement table → IsBounded (p.tables table)
  pub task : (table : ℕ) → IsIn p n statement table → IsTaskBounded ((p.tables table).task n)
