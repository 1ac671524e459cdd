-- What one step of a server sends takes little.
use Rattle.std.specs.Prelude.{◌≡◌, ◌≤◌, ◌<◌, ◌^◌, ℕ, List, [], ◌∷◌, length, map}
use Rattle.file_tree.specs.Book.{Entry}
use Rattle.group_rules.specs.Places.{Place}
use Rattle.group_rules.specs.Said.{sends_said}
use Rattle.group_rules.specs.State.{Server}
use Rattle.group_rules.specs.Step.{Input, step}
use Rattle.node_outputs.specs.Messages.{as_heard}
use Rattle.node_outputs.specs.Said.{sent}
use Rattle.node_outputs.specs.declared.outputs.Sent.{Sent}
use Rattle.wire.specs.Messages.{message_bytes}
use Rattle.accept_laws.specs.MessageLaws.{bytes_of}

-- no message is longer than an Event whose record fits, or a Give of records that do
abbrev pub AreShort : List Sent → Type 0
AreShort [] = Unit {0}
AreShort (x ∷ xs) = (length (message_bytes x.message) ≤ 60034) × AreShort xs

-- THE MESSAGES OF A STEP, whatever it begins with, take less than 2^22 bytes
abbrev pub StepsSendLittle : Type 0
StepsSendLittle = (size : List Entry → Entry → ℕ) (q : Place) (clock : ℕ) (list : List Entry)
    (s : Server Entry) (i : Input) (sends : List Sent)
    → map sent sends ≡ map as_heard (sends_said (step size q clock list s i)) → AreShort sends
    → bytes_of (map (λ (x : Sent). x.message) sends) < 2 ^ 22
