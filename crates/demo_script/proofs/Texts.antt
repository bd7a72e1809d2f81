-- texts in pieces
use Rattle.std.proofs.Common.{◌≡◌, ℕ, List, ◌++◌, append_assoc}

-- the pieces of an insert, as they are written
pub insert_pieces : (a x b r c v o k e p t h n m l : List ℕ)
    → a ++ (x ++ (b ++ (r ++ (c ++ (v ++ (o ++ (r ++ (k ++ (e ++ (p ++ (t ++ (h ++ (n ++ (m ++ (n ++ l))))))))))))))) ≡ a ++ x ++ b ++ (r ++ c ++ v ++ o ++ r ++ k ++ e ++ p ++ (t ++ h ++ n ++ m ++ n ++ l))
insert_pieces a x b r c v o k e p t h n m l = simp append_assoc

-- the pieces of a summary
pub summary_pieces : (old a b c d e s l m n o p q r t u : List ℕ)
    → old ++ (a ++ (s ++ (m ++ (l ++ (b ++ (s ++ (n ++ (l ++ (c ++ (s ++ (o ++ (l ++ (d ++ (p ++ (s ++ (q ++ (s ++ (r ++ (s ++ (t ++ (l ++ (e ++ (s ++ (u ++ l))))))))))))))))))))))))
    ≡ old ++ ((a ++ s ++ m ++ l) ++ (b ++ s ++ n ++ l) ++ (c ++ s ++ o ++ l) ++ d ++ p ++ s ++ q ++ s ++ r ++ s ++ t ++ l ++ (e ++ s ++ u ++ l))
summary_pieces old a b c d e s l m n o p q r t u = simp append_assoc
