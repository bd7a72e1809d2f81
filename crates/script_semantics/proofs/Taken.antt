-- a commit takes away what its transaction marked
use Rattle.std.proofs.Common.{◌≡◌, inr, sym, ap, ◌∙◌, ne_eqb}
use Rattle.std.specs.FinMap.{contains_key}
use Rattle.block_model.specs.DatabaseState.{DatabaseState}
use Rattle.block_model.specs.RequestLaws.{commit_merges}
use Rattle.block_model.specs.SerialRun.{serial_run}
use Rattle.script_semantics.specs.DeadRows.{HasEnded}
use Rattle.script_semantics.specs.TakenRows.{CommitsTakeMarked}
use Rattle.script_semantics.proofs.Rows.{merged_takes}
use Rattle.script_semantics.proofs.Numbers.{ended_step}
use Rattle.script_semantics.proofs.Fronts.{ended_since}
use Rattle.script_semantics.proofs.Copies.{copies_are_of_their_fronts}
use Rattle.script_semantics.proofs.Commits.{commit_is}

pub commits_take_marked : CommitsTakeMarked
commits_take_marked o journal none earlier legal e t commit id marked =
    let s = serial_run o journal in
    let x = commit.transaction in
    let now : HasEnded s id.t = ended_since o journal e.session id.t (copies_are_of_their_fronts.ended o journal none earlier legal e.session x commit.under_way id (inr marked)) in
    let other : id.t ≡ x.t → ⊥ = (λ same. now.1 (e.session, x, commit.under_way, sym same)) in
    record {
      ended = ended_step s e id.t now;
      absent = ap (λ (s' : DatabaseState). contains_key s'.table id) (commit_is s e t commit ∙ commit_merges s e.session x commit.sound) ∙ merged_takes s.table x id (ne_eqb id.t x.t other) marked;
    }
