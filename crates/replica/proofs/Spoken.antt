-- Moves that only speak: messages to servers, and answers of updates.
use Rattle.std.proofs.Common.{◌≡◌, ℕ, ◌+◌, List, [], ◌∷◌, ◌++◌, Option, refl, ap, ◌∙◌}
use Rattle.std.specs.Prelude.{map}
use Rattle.std.proofs.lemmas.List.{append-nil}
use Rattle.harp_types.specs.declared.peer.Peer.{Peer}
use Rattle.file_tree.specs.Book.{Entry}
use Rattle.group_rules.specs.Moves.{Move, Saying, Sending, act, acts}
use Rattle.group_rules.specs.Places.{Place}
use Rattle.group_rules.specs.Replicate.{answers}
use Rattle.group_rules.specs.Said.{answers_said, committed_by, committed_of, refused_by, refusals_said, sends_said}
use Rattle.group_rules.specs.State.{Answers, Server}
use Rattle.group_rules.specs.Tick.{events}
use Rattle.node_outputs.specs.Makes.{with_moves}
use Rattle.node_outputs.specs.Messages.{as_heard}
use Rattle.node_outputs.specs.Said.{Said, answers_of, chosen_by, chosen_of, in_turn, listed_by, listed_of, opened_by, opened_of, refused}
use Rattle.node_outputs.proofs.Makes.{same_said}

abbrev pub IsSpoken : Move Entry → Type 0
IsSpoken (Sending to m) = Unit {0}
IsSpoken (Saying (Answers n e)) = Unit {0}
IsSpoken m = ⊥

abbrev pub AreSpoken : List (Move Entry) → Type 0
AreSpoken [] = Unit {0}
AreSpoken (m ∷ ms) = IsSpoken m × AreSpoken ms

-- such a move changes nothing, and says nothing else
record SaysOnly (q : Place) (clock : ℕ) (s : Server Entry) (m : Move Entry) : Type 0 where
  state : act q clock s m ≡ s
  committed : committed_by s m ≡ []
  refused : refused_by m ≡ []
  opened : (o : Option ℕ) → opened_by s m o ≡ o
  chosen : (o : Option (ℕ × ℕ)) → chosen_by s m o ≡ o
  listed : (o : Option ℕ) → listed_by m o ≡ o

says_only : (q : Place) (clock : ℕ) (s : Server Entry) (m : Move Entry) → IsSpoken m
    → SaysOnly q clock s m
says_only q clock s (Sending to m) h = record {
  state = refl;
  committed = refl;
  refused = refl;
  opened = λ o. refl;
  chosen = λ o. refl;
  listed = λ o. refl;
}
says_only q clock s (Saying (Answers n e)) h = record {
  state = refl;
  committed = refl;
  refused =
      refl;
  opened = λ o. refl;
  chosen = λ o. refl;
  listed = λ o. refl;
}
says_only q clock s m h = absurd h

pub spoken_acts : (q : Place) (clock : ℕ) (s : Server Entry) (ms : List (Move Entry))
    → AreSpoken ms → acts q clock s ms ≡ s
spoken_acts q clock s [] h = refl
spoken_acts q clock s (m ∷ ms) h = ap (λ (s : Server Entry). acts q clock s ms)
    (says_only q clock s m h.0).state ∙ spoken_acts q clock s ms h.1

spoken_committed : (q : Place) (clock : ℕ) (s : Server Entry) (ms : List (Move Entry))
    → AreSpoken ms → committed_of q clock s ms ≡ []
spoken_committed q clock s [] h = refl
spoken_committed q clock s (m ∷ ms) h =
    let one = says_only q clock s m h.0 in
    ap (λ es. es ++ committed_of q clock (act q clock s m) ms) one.committed
    ∙ ap (λ (s : Server Entry). committed_of q clock s ms) one.state
    ∙ spoken_committed q clock s ms h.1

spoken_opened : (q : Place) (clock : ℕ) (s : Server Entry) (ms : List (Move Entry))
    (o : Option ℕ) → AreSpoken ms → opened_of q clock s ms o ≡ o
spoken_opened q clock s [] o h = refl
spoken_opened q clock s (m ∷ ms) o h =
    let one = says_only q clock s m h.0 in
    ap (λ (t : Server Entry). opened_of q clock t ms (opened_by s m o)) one.state
    ∙ ap (opened_of q clock s ms) (one.opened o) ∙ spoken_opened q clock s ms o h.1

spoken_chosen : (q : Place) (clock : ℕ) (s : Server Entry) (ms : List (Move Entry)) (o : Option
    (ℕ × ℕ)) → AreSpoken ms → chosen_of q clock s ms o ≡ o
spoken_chosen q clock s [] o h = refl
spoken_chosen q clock s (m ∷ ms) o h =
    let one = says_only q clock s m h.0 in
    ap (λ (t : Server Entry). chosen_of q clock t ms (chosen_by s m o)) one.state
    ∙ ap (chosen_of q clock s ms) (one.chosen o) ∙ spoken_chosen q clock s ms o h.1

spoken_listed : (q : Place) (clock : ℕ) (s : Server Entry) (ms : List (Move Entry))
    (o : Option ℕ) → AreSpoken ms → listed_of ms o ≡ o
spoken_listed q clock s [] o h = refl
spoken_listed q clock s (m ∷ ms) o h =
    let one = says_only q clock s m h.0 in
    ap (listed_of ms) (one.listed o) ∙ spoken_listed q clock s ms o h.1

spoken_refused : (q : Place) (clock : ℕ) (s : Server Entry) (ms : List (Move Entry))
    → AreSpoken ms → refusals_said ms ≡ []
spoken_refused q clock s [] h = refl
spoken_refused q clock s (m ∷ ms) h =
    let one = says_only q clock s m h.0 in
    ap (λ xs. xs ++ refusals_said ms) one.refused ∙ spoken_refused q clock s ms h.1

-- what such moves say
pub spoken : (q : Place) (clock : ℕ) (s : Server Entry) (ms : List (Move Entry))
    (peers : List Peer) (b : Said) → AreSpoken ms
    → with_moves q clock s ms peers b
    ≡ record b {
      answers = b.answers ++ answers_of ms peers;
      sends = b.sends ++ map as_heard
          (sends_said ms);
    }
spoken q clock s ms peers b h =
    same_said (with_moves q clock s ms peers b)
    (record b {
      answers = b.answers ++ answers_of ms peers;
      sends = b.sends ++ map as_heard
          (sends_said ms);
    })
    (ap (λ es. b.committed ++ es) (spoken_committed q clock s ms h) ∙ append-nil b.committed) refl
    (ap (λ xs. b.refusals ++ in_turn refused xs peers) (spoken_refused q clock s ms h)
    ∙ append-nil b.refusals) refl
    (spoken_opened q clock s ms b.opened h) (spoken_chosen q clock s ms b.chosen h)
    (spoken_listed q clock s ms b.listed h)

-- ---- Events

pub events_spoken : (to : Place) (v cp base n : ℕ) (es : List Entry)
    → AreSpoken (events to v cp base n es)
events_spoken to v cp base n [] = tt
events_spoken to v cp base n (e ∷ es) = (tt, events_spoken to v cp base (n + 1) es)

pub events_answer_none : (to : Place) (v cp base n : ℕ) (es : List Entry)
    → answers_said (events to v cp base n es) ≡ []
events_answer_none to v cp base n [] = refl
events_answer_none to v cp base n (e ∷ es) = events_answer_none to v cp base (n + 1) es

-- ---- answers

pub answers_spoken : (n : ℕ) (es : List Entry) → AreSpoken (answers n es)
answers_spoken n [] = tt
answers_spoken n (e ∷ es) = (tt, answers_spoken (n + 1) es)

pub answers_send_none : (n : ℕ) (es : List Entry) → sends_said (answers n es) ≡ []
answers_send_none n [] = refl
answers_send_none n (e ∷ es) = answers_send_none (n + 1) es
