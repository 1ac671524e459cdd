-- What one step of a server sends takes little.
use Rattle.std.proofs.Common.{◌≡◌, ◌≤◌, ℕ, List, [], ◌∷◌, length, map, Option, Some, ap, subst, arith, length-append}
use Rattle.std.specs.List.{sum_by}
use Rattle.std.proofs.lemmas.List.Sums.{sum_by-cons}
use Rattle.std.proofs.lemmas.Option.{same_Some}
use Rattle.file_tree.specs.Book.{Entry}
use Rattle.group_rules.specs.Places.{Place}
use Rattle.group_rules.specs.Said.{sends_said}
use Rattle.group_rules.specs.State.{Message as Heard}
use Rattle.group_rules.specs.Step.{step}
use Rattle.node_outputs.specs.Messages.{as_heard, heard}
use Rattle.node_outputs.specs.Said.{sent}
use Rattle.node_outputs.specs.declared.outputs.Sent.{Sent}
use Rattle.wire.specs.declared.message.Message.{Message}
use Rattle.wire.specs.declared.message.Message.TheVariants as message
use Rattle.wire.specs.Messages.{message_bytes}
use Rattle.accept_laws.specs.MessageLaws.{bytes_of}
use Rattle.accept_laws.specs.StepMessages.{AreShort, StepsSendLittle}
use Rattle.accept_laws.proofs.Sizes.{len_u64, len_view}
use Rattle.accept_laws.proofs.Weights.{steps_weigh, weight}

-- a message that is heard so weighs as much, where it is short
weighs : (m : Message) (h : Heard Entry) → heard m ≡ Some h → length (message_bytes m) ≤ 60034
    → length (message_bytes m) ≤ weight h
weighs (message.Invite view) h e short =
    subst (λ (x : Heard Entry). length (message_bytes (message.Invite view)) ≤ weight x)
    (same_Some _ h e) (simp (len_view) (omega arith))
weighs (message.Join view has accepted base lb cp top horizon) h e short =
    subst (λ (x : Heard Entry). length (message_bytes
    (message.Join view has accepted base lb cp top horizon)) ≤ weight x) (same_Some _ h e)
    (simp (length-append, len_view, len_u64) (omega arith))
weighs (message.Form view storers source base cp start horizon) h e short =
    subst (λ (x : Heard Entry). length (message_bytes
    (message.Form view storers source base cp start horizon)) ≤ weight x) (same_Some _ h e)
    (simp (length-append, len_view, len_u64) (omega arith))
weighs (message.Fetch view first) h e short =
    subst (λ (x : Heard Entry). length (message_bytes (message.Fetch view first)) ≤ weight x)
    (same_Some _ h e) (simp (length-append, len_view, len_u64) (omega arith))
weighs (message.Give view first records) h e short =
    subst (λ (x : Heard Entry). length (message_bytes (message.Give view first records))
    ≤ weight x) (same_Some _ h e) short
weighs (message.Formed view lb) h e short =
    subst (λ (x : Heard Entry). length (message_bytes (message.Formed view lb)) ≤ weight x)
    (same_Some _ h e) (simp (length-append, len_view, len_u64) (omega arith))
weighs (message.Event view cp base r) h e short =
    subst (λ (x : Heard Entry). length (message_bytes (message.Event view cp base r)) ≤ weight x)
    (same_Some _ h e) short
weighs (message.Beat view cp base) h e short =
    subst (λ (x : Heard Entry). length (message_bytes (message.Beat view cp base)) ≤ weight x)
    (same_Some _ h e) (simp (length-append, len_view, len_u64) (omega arith))
weighs (message.Ack view top lb until) h e short =
    subst (λ (x : Heard Entry). length (message_bytes (message.Ack view top lb until)) ≤ weight x)
    (same_Some _ h e) (simp (length-append, len_view, len_u64) (omega arith))
weighs (message.Demote view) h e short =
    subst (λ (x : Heard Entry). length (message_bytes (message.Demote view)) ≤ weight x)
    (same_Some _ h e) (simp (len_view) (omega arith))
weighs (message.Ask client number cred call) h e short = absurd cc
weighs (message.Answer client number index reply) h e short = absurd cc
weighs (message.CannotServe client number cause) h e short = absurd cc

weight_sent : List (Place × Heard Entry) → ℕ
weight_sent ps = sum_by (λ (p : Place × Heard Entry). weight p.1) ps

sums : (xs : List Sent) (ps : List (Place × Heard Entry)) → map sent xs ≡ map as_heard ps
    → AreShort xs → bytes_of (map (λ (x : Sent). x.message) xs) ≤ weight_sent ps
unfolding weight_sent
sums [] [] e short = omega arith
sums [] (p ∷ ps) e short = absurd cc
sums (x ∷ xs) [] e short = absurd cc
sums (x ∷ xs) (p ∷ ps) e short =
    let head : sent x ≡ as_heard p = cc in
    let tail : map sent xs ≡ map as_heard ps = cc in
    omega (
      arith,
      sum_by-cons (λ (m : Message). length (message_bytes m)) x.message
          (map (λ (x : Sent). x.message) xs),
      sum_by-cons (λ (p : Place × Heard Entry). weight p.1) p ps,
      weighs x.message p.1 (ap (λ (y : Place × Option (Heard Entry)). y.1) head) short.0,
      sums xs ps tail short.1,
    )

pub steps_little : StepsSendLittle
unfolding weight_sent
steps_little size q clock list s i sends e short = omega (
  arith,
  sums sends (sends_said (step size q clock list s i)) e short,
  steps_weigh size q clock list s i,
)
