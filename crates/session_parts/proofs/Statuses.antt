-- the commits of a journal by the statuses that the pages have
use Rattle.std.proofs.Common.{◌≡◌, ◌⊎◌, inl, inr, ℕ, List, [], ◌∷◌, ◌++◌, All, refl, sym, ap, subst, ◌∙◌, append_assoc}
use Rattle.std.specs.Prelude.{◌↔◌}
use Rattle.std.specs.FinMap.{get}
use Rattle.std.proofs.lemmas.List.{append-nil}
use Rattle.std.proofs.lemmas.List.Elements.{All-head, All-tail}
use Rattle.block_model.specs.declared.request.Entry.{Entry}
use Rattle.block_model.specs.DatabaseState.{DatabaseState}
use Rattle.block_model.specs.SerialRun.{serial_run}
use Rattle.script_semantics.specs.DeadRows.{IsCommitted}
use Rattle.script_semantics.specs.Place.{Place, database_at}
use Rattle.script_semantics.specs.Commits.{CommitsAt, CommitsStand}
use Rattle.session_parts.specs.FrontLaws.{GoesOn, IsWithin}

-- ---- where none commits

-- a place with the same opening and journal
pub same_commits : (p q : Place) (u : ℕ) → q.opening ≡ p.opening → q.journal ≡ p.journal → IsCommitted p u → IsCommitted q u
same_commits p q u opening journal c = record {
  before = c.before;
  entry = c.entry;
  behind = c.behind;
  split = c.split ∙ sym journal;
  commits = c.commits;
  transaction = c.transaction;
  under_way = ap (λ (d : DatabaseState). get (serial_run d c.before).sessions c.entry.session) opening ∙ c.under_way;
  number = c.number;
  sound = c.sound;
}

-- the place with one request more
abbrev one_more : Place → Entry → Place
one_more p e = record p { journal = p.journal ++ e ∷ [] }

pub commits_within : CommitsStand → (p q : Place) (more : List Entry) → GoesOn p q more → All (λ (e : Entry). IsWithin e.request) more → (u : ℕ) → IsCommitted p u ↔ IsCommitted q u
commits_within laws p q [] goes within u =
    let journal : q.journal ≡ p.journal = goes.journal ∙ append-nil p.journal in
    (same_commits p q u goes.opening journal, same_commits q p u (sym goes.opening) (sym journal))
commits_within laws p q (e ∷ es) goes within u =
    let mid = one_more p e in
    let goes_on : GoesOn mid q es = record { opening = goes.opening; journal = goes.journal ∙ sym (append_assoc p.journal (e ∷ []) es) } in
    let rest = commits_within laws mid q es goes_on (All-tail (λ (e : Entry). IsWithin e.request) e es within) u in
    let here = laws.more p mid e refl refl u in (
      λ c. rest.0 (here.1 (inl c)),
      λ c. elim (here.0 (rest.1 c)) [
        | inl before ↦ before
        | inr at ↦ absurd (subst IsWithin at.commits (All-head (λ (e : Entry). IsWithin e.request) e es within))
      ],
    )

-- ---- where one request is added

-- the commits are those of before, and that of the request
pub commits_with : CommitsStand → (p q : Place) (e : Entry) → GoesOn p q (e ∷ []) → (u : ℕ) → IsCommitted q u ↔ (IsCommitted p u ⊎ CommitsAt (database_at p) e u)
commits_with laws p q e goes u = laws.more p q e goes.opening goes.journal u

-- one that commits none
pub commits_none : CommitsStand → (p q : Place) (e : Entry) → GoesOn p q (e ∷ []) → (u : ℕ) → (CommitsAt (database_at p) e u → ⊥) → IsCommitted p u ↔ IsCommitted q u
commits_none laws p q e goes u none = (
  λ c. (commits_with laws p q e goes u).1 (inl c),
  λ c. elim ((commits_with laws p q e goes u).0 c) [ inl before ↦ before | inr at ↦ absurd (none at) ],
)
