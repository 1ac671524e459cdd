-- THE REPLIES OF A DOOR are those of one tree, the first one before the first call.
use Rattle.std.specs.Prelude.{ℕ, ◌+◌, List, [], ◌∷◌}
use Rattle.harp_types.specs.declared.call.Call.{Call}
use Rattle.harp_types.specs.declared.cred.Cred.{Cred}
use Rattle.harp_types.specs.declared.reply.Reply.{Reply}
use Rattle.trace_types.specs.declared.line.Line.{Line}
use Rattle.trace_types.specs.declared.line.Line.TheVariants as line
use Rattle.file_tree.specs.Calls.{outcome}
use Rattle.file_tree.specs.Tree.{Tree, first_tree}
use Rattle.door_play.specs.Steps.{cut}

-- the milliseconds at which each call is made
abbrev pub stamp : ℕ
stamp = 2050

-- each call is made of the tree that the calls before it left
unfoldable pub replies_from : Cred → Tree → List Call → List Reply
replies_from cred tree [] = []
replies_from cred tree (c ∷ cs) = (outcome tree cred (cut c) stamp).0
    ∷ replies_from cred (outcome tree cred (cut c) stamp).1 cs

-- the replies to calls that are made of the first tree, one after the other
abbrev pub replies_to : Cred → List Call → List Reply
replies_to cred calls = replies_from cred first_tree calls

-- replies with their calls' numbers, of which the first is this
unfoldable pub numbered_from : ℕ → List Reply → List (ℕ × Reply)
numbered_from number [] = []
numbered_from number (r ∷ rs) = (number, r) ∷ numbered_from (number + 1) rs

-- the answers that stand in lines, each with its call's number
unfoldable pub answers_in : List Line → List (ℕ × Reply)
answers_in [] = []
answers_in (line.Answered server client number index reply ∷ ls) = (number, reply) ∷ answers_in ls
answers_in (l ∷ ls) = answers_in ls
