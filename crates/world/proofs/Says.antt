-- What the outputs of a step say, in lines and in the book, is what its moves say.
use Rattle.std.proofs.Common.{◌≡◌, ◌≤◌, Bool, true, false, List, [], ◌∷◌, ◌++◌, length, map, refl, sym, ap, ◌∙◌, arith, if◌then◌else◌}
use Rattle.std.specs.List.{flat_map}
use Rattle.file_tree.specs.Book.{Entry}
use Rattle.world_lines.specs.Given.{answered_line as answered_line_of, answered_lines as answered_lines_of, read_in, reads_in, refused_line as refused_line_of, refused_lines as refused_lines_of}
use Rattle.group_rules.specs.Moves.{Move, Reading, Saying}
use Rattle.group_rules.specs.Names.{place_of}
use Rattle.group_rules.specs.Said.{Answer, answered_by, answers_said, read_by, reads_said, refusals_said}
use Rattle.group_rules.specs.State.{Answers, Lists, Refuses}
use Rattle.group_trace.specs.Lines.{answered_line, answered_lines, refused_line, refused_lines}
use Rattle.harp_types.specs.declared.peer.Peer.{Peer}
use Rattle.harp_types.specs.declared.server.ServerId.{ServerId}
use Rattle.node_outputs.specs.Said.{answered, answers_of, in_turn, refusals_of, refused}
use Rattle.trace_types.specs.declared.line.Line.TheVariants as line
use Rattle.world.proofs.Tables.{id_there}

-- ---- what is said goes to peers in turn

-- with a peer for each, nothing is left out
turn_map : {A B C : Type 0} (say : Peer → A → B) (f : B → C) (g : A → C)
    → ((p : Peer) (a : A) → f (say p a) ≡ g a) → (xs : List A) (peers : List Peer)
    → length xs ≤ length peers → map f (in_turn say xs peers) ≡ map g xs
turn_map say f g e [] peers h = refl
turn_map say f g e (x ∷ xs) [] h = absurd (omega (arith, h))
turn_map say f g e (x ∷ xs) (p ∷ peers) h = rw (
  e p x,
  turn_map say f g e xs peers
      (omega (arith, h)),
) refl

turn_flat : {A B C : Type 0} (say : Peer → A → B) (f : B → List C) (g : A → List C)
    → ((p : Peer) (a : A) → f (say p a) ≡ g a) → (xs : List A) (peers : List Peer)
    → length xs ≤ length peers
    → flat_map f (in_turn say xs peers) ≡ flat_map g xs
turn_flat say f g e [] peers h = refl
turn_flat say f g e (x ∷ xs) [] h = absurd (omega (arith, h))
turn_flat say f g e (x ∷ xs) (p ∷ peers) h = rw (
  e p x,
  turn_flat say f g e xs peers
      (omega (arith, h)),
) refl

-- ---- answers and refusals

pub answers_are : (from : ServerId) (ms : List (Move Entry)) (peers : List Peer)
    → length (answers_said ms) ≤ length peers
    → answered_lines_of from (answers_of ms peers) ≡ answered_lines (place_of from) ms
answers_are from ms peers h = turn_map answered (answered_line_of from)
    (answered_line (place_of from))
    (λ p a. ap (λ s. line.Answered s a.entry.client a.entry.number a.index a.entry.reply)
    (sym (id_there from))) (answers_said ms) peers h

pub refusals_are : (from : ServerId) (ms : List (Move Entry)) (peers : List Peer)
    → length (refusals_said ms) ≤ length peers
    → refused_lines_of from (refusals_of ms peers) ≡ refused_lines (place_of from) ms
refusals_are from ms peers h = turn_map refused (refused_line_of from)
    (refused_line (place_of from))
    (λ p r. ap (λ s. refused_line_of s (refused p r)) (sym (id_there from)))
    (refusals_said ms) peers h

-- ---- reads

abbrev read_of : Answer → List Entry
read_of a = if a.reads then record (a.entry) { index = 0; stamp = 0 } ∷ [] else []

-- a read is entered with its answer
read_is : (peer : Peer) (a : Answer) → read_in (answered peer a) ≡ read_of a
read_is peer a = by a.reads
  where
    by : (b : Bool) → read_in (answered peer (record a { reads = b }))
        ≡ read_of (record a { reads = b })
    by true = refl
    by false = refl

said_reads : (ms : List (Move Entry)) → flat_map read_of (flat_map answered_by ms) ≡ reads_said ms
said_reads [] = refl
said_reads (Saying (Answers n e) ∷ ms) = said_reads ms
said_reads (Saying (Refuses client number cause) ∷ ms) = said_reads ms
said_reads (Saying (Lists n) ∷ ms) = said_reads ms
said_reads (Reading n e ∷ ms) = ap (λ es. read_by (Reading n e) ++ es) (said_reads ms)
said_reads (m ∷ ms) = said_reads ms

pub reads_are : (ms : List (Move Entry)) (peers : List Peer)
    → length (answers_said ms) ≤ length peers
    → reads_in (answers_of ms peers) ≡ reads_said ms
reads_are ms peers h = turn_flat answered read_in read_of read_is (answers_said ms) peers h
    ∙ said_reads ms
