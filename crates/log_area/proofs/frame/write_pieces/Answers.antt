use Rattle.std.proofs.Common.{◌≡◌, List, ℕ, ◌+◌, ◌≤◌, ◌++◌, ◌∷◌, [], length, ◌∙◌, ap, arith, length-append}
use Rattle.disk_trait.specs.Spliced.{spliced}
use Rattle.disk_trait.specs.TornLaws.{torn_wider, torn_twice}
use Rattle.log_area.specs.Frames.{frame_bytes, numbers_of}
use Rattle.log_area.proofs.Publishing.{Lawful}
use Rattle.log_area.proofs.Pieces.{spliced_twice, none_torn, one_torn_more, last_torn}
use Rattle.log_area.proofs.frame.write_pieces.Goals as goal

pub returns-in_err-write-clause-any_moment : goal.returns-in_err-write-clause-any_moment
returns-in_err-write-clause-any_moment g c =
    let old = g.D.Disk.told c.args.disk.now in
    let one = g.D.Disk.told c.write.new.self in
    let n = length c.args.changes.now in
    let at = c.args.at in
    let x = c.put_numbers.new.bytes in
    let is : x ≡ numbers_of n c.args.count = c.put_numbers.ensures in
    let six : length x ≡ 6 = ap (length {A = ℕ}) is in
    let lawful : Lawful old = record { fit = g.met.D.Disk.contents_fit c.args.disk.now; images = g.met.D.Disk.images_fit c.args.disk.now; told = g.met.D.Disk.images_need_contents c.args.disk.now; counts = g.met.D.Disk.now_is_since c.args.disk.now } in
    let first = one_torn_more at (n + 7) at (length x) old old one (omega arith) (omega (arith, six)) lawful (none_torn at (n + 7) old (g.met.D.Disk.since_now_is_now c.args.disk.now)) c.write.ensures.images c.write.ensures.moments in
    first

pub returns-in_err-write-2-clause-any_moment : goal.returns-in_err-write-2-clause-any_moment
returns-in_err-write-2-clause-any_moment g c =
    let old = g.D.Disk.told c.args.disk.now in
    let one = g.D.Disk.told c.write.new.self in
    let n = length c.args.changes.now in
    let at = c.args.at in
    let x = c.put_numbers.new.bytes in
    let is : x ≡ numbers_of n c.args.count = c.put_numbers.ensures in
    let six : length x ≡ 6 = ap (length {A = ℕ}) is in
    let two = g.D.Disk.told c.write-2.new.self in
    let lawful : Lawful old = record { fit = g.met.D.Disk.contents_fit c.args.disk.now; images = g.met.D.Disk.images_fit c.args.disk.now; told = g.met.D.Disk.images_need_contents c.args.disk.now; counts = g.met.D.Disk.now_is_since c.args.disk.now } in
    let first = one_torn_more at (n + 7) at (length x) old old one (omega arith) (omega (arith, six)) lawful (none_torn at (n + 7) old (g.met.D.Disk.since_now_is_now c.args.disk.now)) c.write.ensures.images c.write.ensures.moments in
    let after : Lawful one = record { fit = g.met.D.Disk.contents_fit c.write.new.self; images = g.met.D.Disk.images_fit c.write.new.self; told = g.met.D.Disk.images_need_contents c.write.new.self; counts = g.met.D.Disk.now_is_since c.write.new.self } in
    let second = one_torn_more at (n + 7) (at + 6) n old one two (omega arith) (omega arith) after first c.write-2.ensures.images c.write-2.ensures.moments in
    second

pub returns-in_err-write_and_sync-clause-any_moment : goal.returns-in_err-write_and_sync-clause-any_moment
returns-in_err-write_and_sync-clause-any_moment g c =
    let old = g.D.Disk.told c.args.disk.now in
    let one = g.D.Disk.told c.write.new.self in
    let n = length c.args.changes.now in
    let at = c.args.at in
    let x = c.put_numbers.new.bytes in
    let is : x ≡ numbers_of n c.args.count = c.put_numbers.ensures in
    let six : length x ≡ 6 = ap (length {A = ℕ}) is in
    let two = g.D.Disk.told c.write-2.new.self in
    let new = g.D.Disk.told c.write_and_sync.new.disk in
    let lawful : Lawful old = record { fit = g.met.D.Disk.contents_fit c.args.disk.now; images = g.met.D.Disk.images_fit c.args.disk.now; told = g.met.D.Disk.images_need_contents c.args.disk.now; counts = g.met.D.Disk.now_is_since c.args.disk.now } in
    let first = one_torn_more at (n + 7) at (length x) old old one (omega arith) (omega (arith, six)) lawful (none_torn at (n + 7) old (g.met.D.Disk.since_now_is_now c.args.disk.now)) c.write.ensures.images c.write.ensures.moments in
    let after : Lawful one = record { fit = g.met.D.Disk.contents_fit c.write.new.self; images = g.met.D.Disk.images_fit c.write.new.self; told = g.met.D.Disk.images_need_contents c.write.new.self; counts = g.met.D.Disk.now_is_since c.write.new.self } in
    let second = one_torn_more at (n + 7) (at + 6) n old one two (omega arith) (omega arith) after first c.write-2.ensures.images c.write-2.ensures.moments in
    let later : Lawful two = record { fit = g.met.D.Disk.contents_fit c.write-2.new.self; images = g.met.D.Disk.images_fit c.write-2.new.self; told = g.met.D.Disk.images_need_contents c.write-2.new.self; counts = g.met.D.Disk.now_is_since c.write-2.new.self } in
    last_torn at (n + 7) (at + 6 + n) 1 old two new (omega arith) (omega arith) later second c.write_and_sync.ensures.any_moment

pub returns-clause-any_moment : goal.returns-clause-any_moment
returns-clause-any_moment g c =
    let old = g.D.Disk.told c.args.disk.now in
    let one = g.D.Disk.told c.write.new.self in
    let n = length c.args.changes.now in
    let at = c.args.at in
    let x = c.put_numbers.new.bytes in
    let is : x ≡ numbers_of n c.args.count = c.put_numbers.ensures in
    let six : length x ≡ 6 = ap (length {A = ℕ}) is in
    let two = g.D.Disk.told c.write-2.new.self in
    let new = g.D.Disk.told c.write_and_sync.new.disk in
    let lawful : Lawful old = record { fit = g.met.D.Disk.contents_fit c.args.disk.now; images = g.met.D.Disk.images_fit c.args.disk.now; told = g.met.D.Disk.images_need_contents c.args.disk.now; counts = g.met.D.Disk.now_is_since c.args.disk.now } in
    let first = one_torn_more at (n + 7) at (length x) old old one (omega arith) (omega (arith, six)) lawful (none_torn at (n + 7) old (g.met.D.Disk.since_now_is_now c.args.disk.now)) c.write.ensures.images c.write.ensures.moments in
    let after : Lawful one = record { fit = g.met.D.Disk.contents_fit c.write.new.self; images = g.met.D.Disk.images_fit c.write.new.self; told = g.met.D.Disk.images_need_contents c.write.new.self; counts = g.met.D.Disk.now_is_since c.write.new.self } in
    let second = one_torn_more at (n + 7) (at + 6) n old one two (omega arith) (omega arith) after first c.write-2.ensures.images c.write-2.ensures.moments in
    let later : Lawful two = record { fit = g.met.D.Disk.contents_fit c.write-2.new.self; images = g.met.D.Disk.images_fit c.write-2.new.self; told = g.met.D.Disk.images_need_contents c.write-2.new.self; counts = g.met.D.Disk.now_is_since c.write-2.new.self } in
    last_torn at (n + 7) (at + 6 + n) 1 old two new (omega arith) (omega arith) later second c.write_and_sync.ensures.any_moment

pub returns-in_err-write-clause-others : goal.returns-in_err-write-clause-others
returns-in_err-write-clause-others g c tells =
    let old = g.D.Disk.told c.args.disk.now in
    let one = g.D.Disk.told c.write.new.self in
    let n = length c.args.changes.now in
    let at = c.args.at in
    let x = c.put_numbers.new.bytes in
    let is : x ≡ numbers_of n c.args.count = c.put_numbers.ensures in
    let six : length x ≡ 6 = ap (length {A = ℕ}) is in
    let a = torn_wider at (length x) at (n + 7) old.contents one.contents (omega arith) (omega (arith, six)) (c.write.ensures.others tells) in
    a

pub returns-in_err-write-2-clause-others : goal.returns-in_err-write-2-clause-others
returns-in_err-write-2-clause-others g c tells =
    let old = g.D.Disk.told c.args.disk.now in
    let one = g.D.Disk.told c.write.new.self in
    let n = length c.args.changes.now in
    let at = c.args.at in
    let x = c.put_numbers.new.bytes in
    let is : x ≡ numbers_of n c.args.count = c.put_numbers.ensures in
    let six : length x ≡ 6 = ap (length {A = ℕ}) is in
    let two = g.D.Disk.told c.write-2.new.self in
    let a = torn_wider at (length x) at (n + 7) old.contents one.contents (omega arith) (omega (arith, six)) (c.write.ensures.others tells) in
    let tells_one = c.write.ensures.moments.tells_contents ∙ tells in
    let b = torn_twice at (n + 7) old.contents one.contents two.contents a (torn_wider (at + 6) n at (n + 7) one.contents two.contents (omega arith) (omega arith) (c.write-2.ensures.others tells_one)) in
    b

pub returns-in_err-write_and_sync-clause-others : goal.returns-in_err-write_and_sync-clause-others
returns-in_err-write_and_sync-clause-others g c tells =
    let old = g.D.Disk.told c.args.disk.now in
    let one = g.D.Disk.told c.write.new.self in
    let n = length c.args.changes.now in
    let at = c.args.at in
    let x = c.put_numbers.new.bytes in
    let is : x ≡ numbers_of n c.args.count = c.put_numbers.ensures in
    let six : length x ≡ 6 = ap (length {A = ℕ}) is in
    let two = g.D.Disk.told c.write-2.new.self in
    let new = g.D.Disk.told c.write_and_sync.new.disk in
    let a = torn_wider at (length x) at (n + 7) old.contents one.contents (omega arith) (omega (arith, six)) (c.write.ensures.others tells) in
    let tells_one = c.write.ensures.moments.tells_contents ∙ tells in
    let b = torn_twice at (n + 7) old.contents one.contents two.contents a (torn_wider (at + 6) n at (n + 7) one.contents two.contents (omega arith) (omega arith) (c.write-2.ensures.others tells_one)) in
    let tells_two = c.write-2.ensures.moments.tells_contents ∙ tells_one in
    torn_twice at (n + 7) old.contents two.contents new.contents b (torn_wider (at + 6 + n) 1 at (n + 7) two.contents new.contents (omega arith) (omega arith) (c.write_and_sync.ensures.others tells_two))

pub returns-clause-others : goal.returns-clause-others
returns-clause-others g c tells =
    let old = g.D.Disk.told c.args.disk.now in
    let one = g.D.Disk.told c.write.new.self in
    let n = length c.args.changes.now in
    let at = c.args.at in
    let x = c.put_numbers.new.bytes in
    let is : x ≡ numbers_of n c.args.count = c.put_numbers.ensures in
    let six : length x ≡ 6 = ap (length {A = ℕ}) is in
    let two = g.D.Disk.told c.write-2.new.self in
    let new = g.D.Disk.told c.write_and_sync.new.disk in
    let a = torn_wider at (length x) at (n + 7) old.contents one.contents (omega arith) (omega (arith, six)) (c.write.ensures.others tells) in
    let tells_one = c.write.ensures.moments.tells_contents ∙ tells in
    let b = torn_twice at (n + 7) old.contents one.contents two.contents a (torn_wider (at + 6) n at (n + 7) one.contents two.contents (omega arith) (omega arith) (c.write-2.ensures.others tells_one)) in
    let tells_two = c.write-2.ensures.moments.tells_contents ∙ tells_one in
    torn_twice at (n + 7) old.contents two.contents new.contents b (torn_wider (at + 6 + n) 1 at (n + 7) two.contents new.contents (omega arith) (omega arith) (c.write_and_sync.ensures.others tells_two))

pub returns-clause-written : goal.returns-clause-written
unfolding frame_bytes
returns-clause-written g c tells =
    let old = g.D.Disk.told c.args.disk.now in
    let one = g.D.Disk.told c.write.new.self in
    let n = length c.args.changes.now in
    let at = c.args.at in
    let x = c.put_numbers.new.bytes in
    let is : x ≡ numbers_of n c.args.count = c.put_numbers.ensures in
    let six : length x ≡ 6 = ap (length {A = ℕ}) is in
    let two = g.D.Disk.told c.write-2.new.self in
    let new = g.D.Disk.told c.write_and_sync.new.disk in
    let ch = c.args.changes.now in
    let numbers = numbers_of n c.args.count in
    let tells_one = c.write.ensures.moments.tells_contents ∙ tells in
    let tells_two = c.write-2.ensures.moments.tells_contents ∙ tells_one in
    let whole : at + n + 7 ≤ length old.contents = omega (arith, g.met.D.Disk.contents_fit c.args.disk.now tells, c.requires.room) in
    let a : one.contents ≡ spliced old.contents at numbers = c.in_ok-write.ensures.written tells ∙ ap (spliced old.contents at) is in
    let b : two.contents ≡ spliced old.contents at (numbers ++ ch) =
    c.in_ok-write-2.ensures.written tells_one ∙ ap (λ (l : List ℕ). spliced l (at + 6) ch) a ∙ spliced_twice old.contents at numbers ch (omega (arith, whole)) in
    let place : at + 6 + n ≡ at + length (numbers ++ ch) = omega (arith, length-append numbers ch) in
    c.in_ok-write_and_sync.ensures.written tells_two
    ∙ ap (λ (l : List ℕ). spliced l (at + 6 + n) (0 ∷ [])) b
    ∙ ap (λ (k : ℕ). spliced (spliced old.contents at (numbers ++ ch)) k (0 ∷ [])) place
    ∙ spliced_twice old.contents at (numbers ++ ch) (0 ∷ []) (omega (arith, whole, length-append numbers ch))
