-- Columns that are kept and sought as they are read.
use Rattle.std.proofs.Common.{◌≡◌, ℕ, ◌||◌, List, [], ◌∷◌, ◌++◌, Option, None, Some, sym, ap, ◌∙◌, append_assoc}
use Rattle.std.specs.Str.{bytes_eq}
use Rattle.std.proofs.Math.Bool.{or-false, or_assoc}
use Rattle.block_model.specs.declared.schema.Column.{Column}
use Rattle.command_line.specs.declared.column.ColumnsWord.{ColumnsWord}
use Rattle.command_line.specs.Words.{KeepsMore, has_column, AreRead}

keeps_twice : (before between after : Option (List Column)) (cs ds : List Column) → KeepsMore before cs between → KeepsMore between ds after → KeepsMore before (cs ++ ds) after
keeps_twice before between None cs ds h k = tt
keeps_twice before None (Some a) cs ds h k = absurd k
keeps_twice None (Some b) (Some a) cs ds h k = absurd h
keeps_twice (Some x) (Some b) (Some a) cs ds h k = k ∙ ap (λ l. l ++ ds) h ∙ append_assoc x cs ds

has_column-push : (name : List ℕ) (cs : List Column) (c : Column) → has_column name (cs ++ c ∷ []) ≡ (has_column name cs || bytes_eq name c.name)
has_column-push name [] c = or-false (bytes_eq name c.name)
has_column-push name (x ∷ xs) c = ap (λ b. bytes_eq name x.name || b) (has_column-push name xs c) ∙ sym (or_assoc (bytes_eq name x.name) (has_column name xs) (bytes_eq name c.name))

-- the first column is read
pub first-read : (kept : Option (List Column)) (wanted : List ℕ) (read : ColumnsWord) (c : Column) → KeepsMore kept (c ∷ []) read.kept → read.found ≡ bytes_eq wanted c.name → AreRead kept wanted read (c ∷ [])
first-read kept wanted read c h e = record { keeps = h; found = e ∙ sym (or-false (bytes_eq wanted c.name)) }

-- one more is read
pub next_read : (kept : Option (List Column)) (wanted : List ℕ) (before after : ColumnsWord) (cs : List Column) (c : Column)
    → AreRead kept wanted before cs → KeepsMore before.kept (c ∷ []) after.kept → after.found ≡ (before.found || bytes_eq wanted c.name) → AreRead kept wanted after (cs ++ c ∷ [])
next_read kept wanted before after cs c h k e = record {
  keeps = keeps_twice kept before.kept after.kept cs (c ∷ []) h.keeps k;
  found = e ∙ ap (λ b. b || bytes_eq wanted c.name) h.found ∙ sym (has_column-push wanted cs c);
}
