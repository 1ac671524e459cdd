-- Parts of a group after a server's moves.
use Rattle.std.proofs.Common.{◌≡◌, ℕ, ◌+◌, List, [], ◌∷◌, inl, inr, refl, ap, ◌∙◌}
use Rattle.file_tree.specs.Book.{Entry}
use Rattle.group_rules.specs.Moves.{Move, Sending, act, moved, moved_by}
use Rattle.group_rules.specs.Places.{Place}
use Rattle.group_rules.specs.Said.{sends_said}
use Rattle.group_rules.specs.State.{Group, Message, Packet, Server}
use Rattle.group_safety.specs.Words.{Each, In}
use Rattle.group_trace.specs.Run.{bytes_of}
use Rattle.group_trace.specs.Scene.{Measures}
use Rattle.trace_laws.proofs.After.{moved_packets, packets_by}

pub moved_delta : (ms : List (Move Entry)) (g : Group Entry) (q : Place) (s : Server Entry)
    → (moved_by g q s ms).delta ≡ g.delta
moved_delta [] g q s = refl
moved_delta (m ∷ ms) g q s = moved_delta ms (moved g q s m) q (act q (g.clock q) s m)

-- ---- packets

-- the packets of a group with those of one server's messages
abbrev pub sent_onto : List (Packet Entry) → Place → List (Place × Message Entry)
    → List (Packet Entry)
sent_onto ps q [] = ps
sent_onto ps q (x ∷ xs) = sent_onto (record { from = q; to = x.0; body = x.1 } ∷ ps) q xs

by_said : (ms : List (Move Entry)) (ps : List (Packet Entry)) (q : Place)
    → packets_by ps q ms ≡ sent_onto ps q (sends_said ms)
by_said [] ps q = refl
by_said (Sending to m ∷ ms) ps q = by_said ms (record { from = q; to = to; body = m } ∷ ps) q
by_said (m ∷ ms) ps q = by_said ms ps q

pub packets_said : (ms : List (Move Entry)) (g : Group Entry) (q : Place) (s : Server Entry)
    → (moved_by g q s ms).packets ≡ sent_onto g.packets q (sends_said ms)
packets_said ms g q s = moved_packets ms g q s ∙ by_said ms g.packets q

-- the bytes of one server's messages
abbrev pub bytes_in : (Message Entry → ℕ) → List (Place × Message Entry) → ℕ
bytes_in bytes [] = 0
bytes_in bytes (x ∷ xs) = bytes x.1 + bytes_in bytes xs

pub bytes_said : (m : Measures) (list : List Entry) (ms : List (Move Entry))
    → bytes_of m list ms ≡ bytes_in (m.bytes list) (sends_said ms)
unfolding bytes_of
bytes_said m list [] = refl
bytes_said m list (Sending to x ∷ ms) = ap (λ n. m.bytes list x + n) (bytes_said m list ms)
bytes_said m list (move ∷ ms) = bytes_said m list ms

-- each message that is said is sent by a move
pub said_in : (ms : List (Move Entry))
    → Each (λ x. In ms (Sending x.0 x.1)) (sends_said ms)
said_in ms = by ms ms (λ x i. i)
  where
    by : (all ms : List (Move Entry))
        → ((x : Move Entry) → In ms x → In all x)
        → Each (λ x. In all (Sending x.0 x.1)) (sends_said ms)
    by all [] within = tt
    by all (Sending to m ∷ ms) within = (
      within (Sending to m) (inl refl),
      by all ms (λ x i. within x (inr i)),
    )
    by all (m ∷ ms) within = by all ms (λ x i. within x (inr i))
