-- Moves that only send messages.
use Rattle.std.proofs.Common.{◌≡◌, ℕ, Bool, true, false, List, [], ◌∷◌, ◌++◌, refl, sym, ap, ◌∙◌, append_assoc, if◌then◌else◌}
use Rattle.std.specs.Prelude.{Option, None, Some, map}
use Rattle.std.proofs.lemmas.Grind.{flat_map-append}
use Rattle.std.proofs.lemmas.List.{append-nil, map-append}
use Rattle.file_tree.specs.Book.{Entry}
use Rattle.group_rules.specs.Joining.{to_each}
use Rattle.group_rules.specs.Moves.{Move, Sending}
use Rattle.group_rules.specs.Places.{Place, all_of, get, Zero, One, Two}
use Rattle.group_rules.specs.Said.{Answer, answers_said, sends_said, sent_by}
use Rattle.group_rules.specs.Names.{number_of_view}
use Rattle.group_rules.specs.State.{Chose, Collects, Duty, Fetch, Message, NoDuty, Report, Server}
use Rattle.group_rules.specs.Tick.{again, again_tests, duties, duty_tests, invite_again}
use Rattle.group_rules.specs.Limits.{is_pulls}
use Rattle.harp_types.specs.View.{View}
use Rattle.harp_types.specs.declared.peer.Peer.{Peer}
use Rattle.node.proofs.Calls.{AreSilent, mute}
use Rattle.node_outputs.specs.Makes.{IsMute, Makes, with_moves}
use Rattle.node_outputs.specs.Messages.{as_heard}
use Rattle.node_outputs.specs.Said.{Said, answered, answers_of, in_turn, said}
use Rattle.node_outputs.specs.declared.outputs.Answered.{Answered}
use Rattle.node_outputs.specs.declared.outputs.Outputs.{Outputs}
use Rattle.node_outputs.proofs.Makes.{same_said}
use Rattle.replica.proofs.Spoken.{AreSpoken, spoken, spoken_acts}

abbrev pub IsSent : Move Entry → Type 0
IsSent (Sending to m) = Unit {0}
IsSent m = ⊥

abbrev pub AreSent : List (Move Entry) → Type 0
AreSent [] = Unit {0}
AreSent (m ∷ ms) = IsSent m × AreSent ms

sent_spoken : (ms : List (Move Entry)) → AreSent ms → AreSpoken ms
sent_spoken [] h = tt
sent_spoken (Sending to m ∷ ms) h = (tt, sent_spoken ms h.1)
sent_spoken (m ∷ ms) h = absurd h.0

pub sent_silent : (ms : List (Move Entry)) → AreSent ms → AreSilent ms
sent_silent [] h = tt
sent_silent (Sending to m ∷ ms) h = (tt, sent_silent ms h.1)
sent_silent (m ∷ ms) h = absurd h.0

pub mute_sent : (ms : List (Move Entry)) → AreSent ms → IsMute ms
mute_sent ms h = mute ms (sent_silent ms h)

pub sent_if : (b : Bool) (ms : List (Move Entry)) → AreSent ms → AreSent (if b then ms else [])
sent_if true ms h = h
sent_if false ms h = tt

pub sent_then : (ms ns : List (Move Entry)) → AreSent ms → AreSent ns → AreSent (ms ++ ns)
sent_then [] ns h k = k
sent_then (m ∷ ms) ns h k = (h.0, sent_then ms ns h.1 k)

pub sent_each : (m : Message Entry) (ps : List Place) → AreSent (to_each m ps)
sent_each m [] = tt
sent_each m (p ∷ ps) = (tt, sent_each m ps)

sent_invite : (v : ℕ) (q : Place) (t : Option Report) → AreSent (invite_again v q t)
sent_invite v q None = (tt, tt)
sent_invite v q (Some t) = tt

pub sent_duties : (q : Place) (s : Server Entry) (duty : Duty) → AreSent (duties q s duty)
sent_duties q s NoDuty = tt
sent_duties q s (Collects reports) = sent_then _ _ (sent_invite s.promised Zero (get reports Zero))
    (sent_then _ _ (sent_invite s.promised One (get reports One))
    (sent_invite s.promised Two (get reports Two)))
sent_duties q s (Chose v plan) = sent_if (all_of (duty_tests q s v plan)) _ (sent_each _ _)

pub sent_again : (q : Place) (s : Server Entry) → AreSent (again q s)
sent_again q s = sent_then _ _ (sent_if (is_pulls s.mode) _ (tt, tt))
    (sent_if (all_of (again_tests q s)) _ (tt, tt))

none_answered : (xs : List Answer) → in_turn answered xs [] ≡ []
none_answered [] = refl
none_answered (x ∷ xs) = refl

-- a call that said them made them
pub sent_made : (q : Place) (clock : ℕ) (ms : List (Move Entry)) (s : Server Entry)
    (before after : Outputs) → AreSent ms
    → said after ≡ record (said before) {
      sends = (said before).sends ++ map as_heard (sends_said ms);
    }
    → Makes q clock ms [] s s before after
sent_made q clock ms s before after h told =
    let b = said before in
    let whole : record b { sends = b.sends ++ map as_heard (sends_said ms) }
    ≡ record b {
      answers = b.answers ++ answers_of ms [];
      sends = b.sends ++ map as_heard (sends_said ms);
    } =
    ap (λ (xs : List Answered). record b {
      answers = xs;
      sends = b.sends ++ map as_heard (sends_said ms);
    }) (sym (append-nil b.answers) ∙ ap (λ xs. b.answers ++ xs)
    (sym (none_answered (answers_said ms)))) in
    record {
      state = sym (spoken_acts q clock s ms (sent_spoken ms h));
      said = told ∙ whole ∙ sym (spoken q clock s ms [] b (sent_spoken ms h));
    }

-- nothing is said, and nothing made
pub none_made : (q : Place) (clock : ℕ) (s : Server Entry) (peers : List Peer) (outs : Outputs)
    → Makes q clock [] peers s s outs outs
none_made q clock s peers outs =
    let b = said outs in
    record {
      state = refl;
      said = same_said b (with_moves q clock s [] peers b) (sym (append-nil b.committed))
          (sym (append-nil b.answers)) (sym (append-nil b.refusals)) (sym (append-nil b.sends))
          refl refl refl;
    }

-- one message that was said
pub sent_as : (q : Place) (clock : ℕ) (ms : List (Move Entry)) (v : View) (to : Place)
    (p : View) (k j : ℕ) (s : Server Entry)
    (before after : Outputs) → AreSent ms
    → ms ≡ Sending to (Fetch (number_of_view v) j) ∷ [] → p ≡ v → k ≡ j
    → said after ≡ record (said before) {
      sends = (said before).sends ++ (to, Some (Fetch (number_of_view p) k)) ∷ [];
    }
    → Makes q clock ms [] s s before after
sent_as q clock ms v to p k j s before after h is view number told =
    sent_made q clock ms s before after h
    (told ∙ ap (λ (xs : List (Move Entry)). record (said before) {
      sends = (said before).sends ++ map as_heard (sends_said xs);
    }) (ap (λ (x : View). Sending to (Fetch (number_of_view x) k) ∷ []) view
    ∙ ap (λ x. Sending to (Fetch (number_of_view v) x) ∷ []) number ∙ sym is))

-- ---- one call after the other

-- what is said after these messages
abbrev pub sending : Said → List (Move Entry) → Said
sending b ms = record b { sends = b.sends ++ map as_heard (sends_said ms) }

sends_append : (ms ns : List (Move Entry)) → map as_heard (sends_said (ms ++ ns))
    ≡ map as_heard (sends_said ms) ++ map as_heard (sends_said ns)
sends_append ms ns = ap (map as_heard) (flat_map-append sent_by ms ns)
    ∙ map-append as_heard (sends_said ms) (sends_said ns)

pub sent_both : (a b c : Said) (ms ns : List (Move Entry)) → b ≡ sending a ms → c ≡ sending b ns
    → c ≡ sending a (ms ++ ns)
sent_both a b c ms ns first second =
    second ∙ ap (λ (x : Said). sending x ns) first
    ∙ ap (λ (xs : List (Place × Option (Message Entry))). record a { sends = xs })
    (append_assoc a.sends (map as_heard (sends_said ms)) (map as_heard (sends_said ns))
    ∙ ap (λ xs. a.sends ++ xs) (sym (sends_append ms ns)))
