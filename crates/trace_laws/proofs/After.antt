-- Parts of a group after a server's moves.
use Rattle.std.proofs.Common.{◌≡◌, ℕ, List, [], ◌∷◌, ◌++◌, refl, ◌∙◌}
use Rattle.file_tree.specs.Book.{Entry}
use Rattle.group_rules.specs.Moves.{Move, act, acts, moved, moved_by, packets_after}
use Rattle.group_rules.specs.Places.{Zero, One, Two, Place, at}
use Rattle.group_rules.specs.State.{Group, Packet, Server}
use Rattle.group_safety.proofs.Moving.{at_self}

-- ---- parts of a group after moves

pub moved_server : (ms : List (Move Entry)) (g : Group Entry) (q : Place) (s : Server Entry)
    → g.server q ≡ s → (moved_by g q s ms).server q ≡ acts q (g.clock q) s ms
moved_server [] g q s e = e
moved_server (m ∷ ms) g q s e = moved_server ms (moved g q s m) q (act q (g.clock q) s m)
    (at_self g.server q (act q (g.clock q) s m))

at_other : {A : Type 0} (f : Place → A) (q x : Place) (a : A) → (x ≡ q → ⊥) → at f q a x ≡ f x
at_other f Zero Zero a n = absurd (n refl)
at_other f Zero One a n = refl
at_other f Zero Two a n = refl
at_other f One Zero a n = refl
at_other f One One a n = absurd (n refl)
at_other f One Two a n = refl
at_other f Two Zero a n = refl
at_other f Two One a n = refl
at_other f Two Two a n = absurd (n refl)

pub moved_other : (ms : List (Move Entry)) (g : Group Entry) (q x : Place) (s : Server Entry)
    → (x ≡ q → ⊥) → (moved_by g q s ms).server x ≡ g.server x
moved_other [] g q x s n = refl
moved_other (m ∷ ms) g q x s n = moved_other ms (moved g q s m) q x (act q (g.clock q) s m) n
    ∙ at_other g.server q x (act q (g.clock q) s m) n

abbrev pub packets_by : List (Packet Entry) → Place → List (Move Entry) → List (Packet Entry)
packets_by ps q [] = ps
packets_by ps q (m ∷ ms) = packets_by (packets_after ps q m) q ms

pub moved_packets : (ms : List (Move Entry)) (g : Group Entry) (q : Place) (s : Server Entry)
    → (moved_by g q s ms).packets ≡ packets_by g.packets q ms
moved_packets [] g q s = refl
moved_packets (m ∷ ms) g q s = moved_packets ms (moved g q s m) q (act q (g.clock q) s m)

pub moved_clock : (ms : List (Move Entry)) (g : Group Entry) (q : Place) (s : Server Entry)
    → (moved_by g q s ms).clock ≡ g.clock
moved_clock [] g q s = refl
moved_clock (m ∷ ms) g q s = moved_clock ms (moved g q s m) q (act q (g.clock q) s m)

pub acts_both : (q : Place) (clock : ℕ) (a b : List (Move Entry)) (s : Server Entry)
    → acts q clock s (a ++ b) ≡ acts q clock (acts q clock s a) b
acts_both q clock [] b s = refl
acts_both q clock (m ∷ a) b s = acts_both q clock a b (act q clock s m)

pub moves_both : (a b : List (Move Entry)) (g : Group Entry) (q : Place) (s : Server Entry)
    → moved_by g q s (a ++ b) ≡ moved_by (moved_by g q s a) q (acts q (g.clock q) s a) b
moves_both [] b g q s = refl
moves_both (m ∷ a) b g q s = moves_both a b (moved g q s m) q (act q (g.clock q) s m)
