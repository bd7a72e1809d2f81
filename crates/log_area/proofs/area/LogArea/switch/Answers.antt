use Rattle.std.proofs.Common.{◌≡◌, ◌≤◌, ◌∷◌, [], ℕ, sym, ◌∙◌, subst, arith}
use Rattle.std.specs.Prelude.{IsTrue}
use Rattle.disk_trait.specs.Follows.{Follows}
use Rattle.disk_trait.specs.Throughout.{Throughout}
use Rattle.disk_trait.specs.Torn.{Torn}
use Rattle.disk_trait.specs.TornImage.{IsTornImage}
use Rattle.disk_trait.specs.Spliced.{spliced}
use Rattle.log_area.specs.Log.{Log, ComesBy, areas_end}
use Rattle.log_area.specs.Switched.{Switched, KeptOrSwitched}
use Rattle.log_area.proofs.Publishing.{Lawful}
use Rattle.log_area.proofs.Switching.{other, other_high, first_kept, all_kept_or_switched, now_switched, gate_written, told_kept, told_switched}
use Rattle.log_area.proofs.area.LogArea.switch.Goals as goal

pub write_and_sync-requires : goal.write_and_sync-requires
write_and_sync-requires g c =
    let old = g.D.Disk.told c.args.disk.now in
    let log : Log = record { room = c.self.inside.room; byte = c.self.inside.byte; used = c.self.inside.used } in
    let size : areas_end log.room ≤ old.size = subst (λ (l : Log). areas_end l.room ≤ old.size) (sym c.self.view_is) c.requires in
    let at : c.start_of_area-gate.result ≡ other log c.self.invariant.0 = c.start_of_area-gate.ensures in
    omega (arith, at, other_high log c.self.invariant.0, size)

pub returns-in_err-write_and_sync-clause-any_moment : goal.returns-in_err-write_and_sync-clause-any_moment
returns-in_err-write_and_sync-clause-any_moment g c =
    let old = g.D.Disk.told c.args.disk.now in
    let mid = g.D.Disk.told c.write_and_sync.new.disk in
    let log : Log = record { room = c.self.inside.room; byte = c.self.inside.byte; used = c.self.inside.used } in
    let is = c.self.invariant.0 in
    let size : areas_end log.room ≤ old.size = subst (λ (l : Log). areas_end l.room ≤ old.size) (sym c.self.view_is) c.requires in
    let at : c.start_of_area-gate.result ≡ other log is = c.start_of_area-gate.ensures in
    let first : Throughout old mid (IsTornImage old (other log is) 1) = subst (λ (n : ℕ). Throughout old mid (IsTornImage old n 1)) at c.write_and_sync.ensures.any_moment in
    subst (λ (l : Log). Throughout old mid (ComesBy (KeptOrSwitched l) old)) c.self.view_is (first_kept log is old mid first)

pub returns-in_err-write_and_sync-clause-contents : goal.returns-in_err-write_and_sync-clause-contents
returns-in_err-write_and_sync-clause-contents g c tells =
    let old = g.D.Disk.told c.args.disk.now in
    let mid = g.D.Disk.told c.write_and_sync.new.disk in
    let log : Log = record { room = c.self.inside.room; byte = c.self.inside.byte; used = c.self.inside.used } in
    let is = c.self.invariant.0 in
    let size : areas_end log.room ≤ old.size = subst (λ (l : Log). areas_end l.room ≤ old.size) (sym c.self.view_is) c.requires in
    let at : c.start_of_area-gate.result ≡ other log is = c.start_of_area-gate.ensures in
    let first : Throughout old mid (IsTornImage old (other log is) 1) = subst (λ (n : ℕ). Throughout old mid (IsTornImage old n 1)) at c.write_and_sync.ensures.any_moment in
    let one : Torn (other log is) 1 old.contents mid.contents = subst (λ (n : ℕ). Torn n 1 old.contents mid.contents) at (c.write_and_sync.ensures.others tells) in
    subst (λ (l : Log). KeptOrSwitched l old.contents mid.contents) c.self.view_is (gate_written log is old.contents mid.contents one)

pub returns-in_err-write_and_sync-2-clause-any_moment : goal.returns-in_err-write_and_sync-2-clause-any_moment
returns-in_err-write_and_sync-2-clause-any_moment g c =
    let old = g.D.Disk.told c.args.disk.now in
    let mid = g.D.Disk.told c.write_and_sync.new.disk in
    let log : Log = record { room = c.self.inside.room; byte = c.self.inside.byte; used = c.self.inside.used } in
    let is = c.self.invariant.0 in
    let size : areas_end log.room ≤ old.size = subst (λ (l : Log). areas_end l.room ≤ old.size) (sym c.self.view_is) c.requires in
    let at : c.start_of_area-gate.result ≡ other log is = c.start_of_area-gate.ensures in
    let first : Throughout old mid (IsTornImage old (other log is) 1) = subst (λ (n : ℕ). Throughout old mid (IsTornImage old n 1)) at c.write_and_sync.ensures.any_moment in
    let lawful : Lawful old = record { fit = g.met.D.Disk.contents_fit c.args.disk.now; images = g.met.D.Disk.images_fit c.args.disk.now; told = g.met.D.Disk.images_need_contents c.args.disk.now; counts = g.met.D.Disk.now_is_since c.args.disk.now } in
    let after : Lawful mid = record { fit = g.met.D.Disk.contents_fit c.write_and_sync.new.disk; images = g.met.D.Disk.images_fit c.write_and_sync.new.disk; told = g.met.D.Disk.images_need_contents c.write_and_sync.new.disk; counts = g.met.D.Disk.now_is_since c.write_and_sync.new.disk } in
    let new = g.D.Disk.told c.write_and_sync-2.new.disk in
    let written : (IsTrue old.tells_contents → mid.contents ≡ spliced old.contents (other log is) (0 ∷ [])) = subst (λ (n : ℕ). IsTrue old.tells_contents → mid.contents ≡ spliced old.contents n (0 ∷ [])) at c.in_ok-write_and_sync.ensures.written in
    let stable = c.in_ok-write_and_sync.ensures.stable in
    subst (λ (l : Log). Throughout old new (ComesBy (KeptOrSwitched l) old)) c.self.view_is
    (all_kept_or_switched log is old mid lawful after size first written stable new c.write_and_sync-2.ensures.any_moment)

pub returns-in_err-write_and_sync-2-clause-contents : goal.returns-in_err-write_and_sync-2-clause-contents
returns-in_err-write_and_sync-2-clause-contents g c tells =
    let old = g.D.Disk.told c.args.disk.now in
    let mid = g.D.Disk.told c.write_and_sync.new.disk in
    let log : Log = record { room = c.self.inside.room; byte = c.self.inside.byte; used = c.self.inside.used } in
    let is = c.self.invariant.0 in
    let size : areas_end log.room ≤ old.size = subst (λ (l : Log). areas_end l.room ≤ old.size) (sym c.self.view_is) c.requires in
    let at : c.start_of_area-gate.result ≡ other log is = c.start_of_area-gate.ensures in
    let first : Throughout old mid (IsTornImage old (other log is) 1) = subst (λ (n : ℕ). Throughout old mid (IsTornImage old n 1)) at c.write_and_sync.ensures.any_moment in
    let lawful : Lawful old = record { fit = g.met.D.Disk.contents_fit c.args.disk.now; images = g.met.D.Disk.images_fit c.args.disk.now; told = g.met.D.Disk.images_need_contents c.args.disk.now; counts = g.met.D.Disk.now_is_since c.args.disk.now } in
    let after : Lawful mid = record { fit = g.met.D.Disk.contents_fit c.write_and_sync.new.disk; images = g.met.D.Disk.images_fit c.write_and_sync.new.disk; told = g.met.D.Disk.images_need_contents c.write_and_sync.new.disk; counts = g.met.D.Disk.now_is_since c.write_and_sync.new.disk } in
    let new = g.D.Disk.told c.write_and_sync-2.new.disk in
    let written : (IsTrue old.tells_contents → mid.contents ≡ spliced old.contents (other log is) (0 ∷ [])) = subst (λ (n : ℕ). IsTrue old.tells_contents → mid.contents ≡ spliced old.contents n (0 ∷ [])) at c.in_ok-write_and_sync.ensures.written in
    let stable = c.in_ok-write_and_sync.ensures.stable in
    let one : Torn (other log is) 1 old.contents mid.contents = subst (λ (n : ℕ). Torn n 1 old.contents mid.contents) at (c.write_and_sync.ensures.others tells) in
    let two : Torn 1 1 mid.contents new.contents = c.write_and_sync-2.ensures.others (first.tells_contents ∙ tells) in
    subst (λ (l : Log). KeptOrSwitched l old.contents new.contents) c.self.view_is (told_kept log is old mid lawful after size first written stable new tells one two)

pub returns-clause-any_moment : goal.returns-clause-any_moment
returns-clause-any_moment g c =
    let old = g.D.Disk.told c.args.disk.now in
    let mid = g.D.Disk.told c.write_and_sync.new.disk in
    let log : Log = record { room = c.self.inside.room; byte = c.self.inside.byte; used = c.self.inside.used } in
    let is = c.self.invariant.0 in
    let size : areas_end log.room ≤ old.size = subst (λ (l : Log). areas_end l.room ≤ old.size) (sym c.self.view_is) c.requires in
    let at : c.start_of_area-gate.result ≡ other log is = c.start_of_area-gate.ensures in
    let first : Throughout old mid (IsTornImage old (other log is) 1) = subst (λ (n : ℕ). Throughout old mid (IsTornImage old n 1)) at c.write_and_sync.ensures.any_moment in
    let lawful : Lawful old = record { fit = g.met.D.Disk.contents_fit c.args.disk.now; images = g.met.D.Disk.images_fit c.args.disk.now; told = g.met.D.Disk.images_need_contents c.args.disk.now; counts = g.met.D.Disk.now_is_since c.args.disk.now } in
    let after : Lawful mid = record { fit = g.met.D.Disk.contents_fit c.write_and_sync.new.disk; images = g.met.D.Disk.images_fit c.write_and_sync.new.disk; told = g.met.D.Disk.images_need_contents c.write_and_sync.new.disk; counts = g.met.D.Disk.now_is_since c.write_and_sync.new.disk } in
    let new = g.D.Disk.told c.write_and_sync-2.new.disk in
    let written : (IsTrue old.tells_contents → mid.contents ≡ spliced old.contents (other log is) (0 ∷ [])) = subst (λ (n : ℕ). IsTrue old.tells_contents → mid.contents ≡ spliced old.contents n (0 ∷ [])) at c.in_ok-write_and_sync.ensures.written in
    let stable = c.in_ok-write_and_sync.ensures.stable in
    subst (λ (l : Log). Throughout old new (ComesBy (KeptOrSwitched l) old)) c.self.view_is
    (all_kept_or_switched log is old mid lawful after size first written stable new c.write_and_sync-2.ensures.any_moment)

pub returns-clause-contents : goal.returns-clause-contents
returns-clause-contents g c tells =
    let old = g.D.Disk.told c.args.disk.now in
    let mid = g.D.Disk.told c.write_and_sync.new.disk in
    let log : Log = record { room = c.self.inside.room; byte = c.self.inside.byte; used = c.self.inside.used } in
    let is = c.self.invariant.0 in
    let size : areas_end log.room ≤ old.size = subst (λ (l : Log). areas_end l.room ≤ old.size) (sym c.self.view_is) c.requires in
    let at : c.start_of_area-gate.result ≡ other log is = c.start_of_area-gate.ensures in
    let first : Throughout old mid (IsTornImage old (other log is) 1) = subst (λ (n : ℕ). Throughout old mid (IsTornImage old n 1)) at c.write_and_sync.ensures.any_moment in
    let lawful : Lawful old = record { fit = g.met.D.Disk.contents_fit c.args.disk.now; images = g.met.D.Disk.images_fit c.args.disk.now; told = g.met.D.Disk.images_need_contents c.args.disk.now; counts = g.met.D.Disk.now_is_since c.args.disk.now } in
    let after : Lawful mid = record { fit = g.met.D.Disk.contents_fit c.write_and_sync.new.disk; images = g.met.D.Disk.images_fit c.write_and_sync.new.disk; told = g.met.D.Disk.images_need_contents c.write_and_sync.new.disk; counts = g.met.D.Disk.now_is_since c.write_and_sync.new.disk } in
    let new = g.D.Disk.told c.write_and_sync-2.new.disk in
    let written : (IsTrue old.tells_contents → mid.contents ≡ spliced old.contents (other log is) (0 ∷ [])) = subst (λ (n : ℕ). IsTrue old.tells_contents → mid.contents ≡ spliced old.contents n (0 ∷ [])) at c.in_ok-write_and_sync.ensures.written in
    let stable = c.in_ok-write_and_sync.ensures.stable in
    let one : Torn (other log is) 1 old.contents mid.contents = subst (λ (n : ℕ). Torn n 1 old.contents mid.contents) at (c.write_and_sync.ensures.others tells) in
    let two : Torn 1 1 mid.contents new.contents = c.write_and_sync-2.ensures.others (first.tells_contents ∙ tells) in
    subst (λ (l : Log). KeptOrSwitched l old.contents new.contents) c.self.view_is (told_kept log is old mid lawful after size first written stable new tells one two)

pub returns-clause-chosen : goal.returns-clause-chosen
returns-clause-chosen g c =
    let old = g.D.Disk.told c.args.disk.now in
    let mid = g.D.Disk.told c.write_and_sync.new.disk in
    let log : Log = record { room = c.self.inside.room; byte = c.self.inside.byte; used = c.self.inside.used } in
    let is = c.self.invariant.0 in
    let size : areas_end log.room ≤ old.size = subst (λ (l : Log). areas_end l.room ≤ old.size) (sym c.self.view_is) c.requires in
    let at : c.start_of_area-gate.result ≡ other log is = c.start_of_area-gate.ensures in
    let first : Throughout old mid (IsTornImage old (other log is) 1) = subst (λ (n : ℕ). Throughout old mid (IsTornImage old n 1)) at c.write_and_sync.ensures.any_moment in
    let lawful : Lawful old = record { fit = g.met.D.Disk.contents_fit c.args.disk.now; images = g.met.D.Disk.images_fit c.args.disk.now; told = g.met.D.Disk.images_need_contents c.args.disk.now; counts = g.met.D.Disk.now_is_since c.args.disk.now } in
    let after : Lawful mid = record { fit = g.met.D.Disk.contents_fit c.write_and_sync.new.disk; images = g.met.D.Disk.images_fit c.write_and_sync.new.disk; told = g.met.D.Disk.images_need_contents c.write_and_sync.new.disk; counts = g.met.D.Disk.now_is_since c.write_and_sync.new.disk } in
    let new = g.D.Disk.told c.write_and_sync-2.new.disk in
    let written : (IsTrue old.tells_contents → mid.contents ≡ spliced old.contents (other log is) (0 ∷ [])) = subst (λ (n : ℕ). IsTrue old.tells_contents → mid.contents ≡ spliced old.contents n (0 ∷ [])) at c.in_ok-write_and_sync.ensures.written in
    let stable = c.in_ok-write_and_sync.ensures.stable in
    let last : Lawful new = record { fit = g.met.D.Disk.contents_fit c.write_and_sync-2.new.disk; images = g.met.D.Disk.images_fit c.write_and_sync-2.new.disk; told = g.met.D.Disk.images_need_contents c.write_and_sync-2.new.disk; counts = g.met.D.Disk.now_is_since c.write_and_sync-2.new.disk } in
    subst (λ (l : Log). Follows (Switched l) old new) c.self.view_is
    (now_switched log is old mid lawful after size first written stable new last c.write_and_sync-2.ensures.any_moment c.in_ok-write_and_sync-2.ensures.written c.in_ok-write_and_sync-2.ensures.stable)

pub returns-clause-written : goal.returns-clause-written
returns-clause-written g c tells =
    let old = g.D.Disk.told c.args.disk.now in
    let mid = g.D.Disk.told c.write_and_sync.new.disk in
    let log : Log = record { room = c.self.inside.room; byte = c.self.inside.byte; used = c.self.inside.used } in
    let is = c.self.invariant.0 in
    let size : areas_end log.room ≤ old.size = subst (λ (l : Log). areas_end l.room ≤ old.size) (sym c.self.view_is) c.requires in
    let at : c.start_of_area-gate.result ≡ other log is = c.start_of_area-gate.ensures in
    let first : Throughout old mid (IsTornImage old (other log is) 1) = subst (λ (n : ℕ). Throughout old mid (IsTornImage old n 1)) at c.write_and_sync.ensures.any_moment in
    let lawful : Lawful old = record { fit = g.met.D.Disk.contents_fit c.args.disk.now; images = g.met.D.Disk.images_fit c.args.disk.now; told = g.met.D.Disk.images_need_contents c.args.disk.now; counts = g.met.D.Disk.now_is_since c.args.disk.now } in
    let after : Lawful mid = record { fit = g.met.D.Disk.contents_fit c.write_and_sync.new.disk; images = g.met.D.Disk.images_fit c.write_and_sync.new.disk; told = g.met.D.Disk.images_need_contents c.write_and_sync.new.disk; counts = g.met.D.Disk.now_is_since c.write_and_sync.new.disk } in
    let new = g.D.Disk.told c.write_and_sync-2.new.disk in
    let written : (IsTrue old.tells_contents → mid.contents ≡ spliced old.contents (other log is) (0 ∷ [])) = subst (λ (n : ℕ). IsTrue old.tells_contents → mid.contents ≡ spliced old.contents n (0 ∷ [])) at c.in_ok-write_and_sync.ensures.written in
    let stable = c.in_ok-write_and_sync.ensures.stable in
    let one : Torn (other log is) 1 old.contents mid.contents = subst (λ (n : ℕ). Torn n 1 old.contents mid.contents) at (c.write_and_sync.ensures.others tells) in
    let two : Torn 1 1 mid.contents new.contents = c.write_and_sync-2.ensures.others (first.tells_contents ∙ tells) in
    subst (λ (l : Log). Switched l old.contents new.contents) c.self.view_is
    (told_switched log is old mid lawful after size first written stable new tells one two c.in_ok-write_and_sync-2.ensures.written)
