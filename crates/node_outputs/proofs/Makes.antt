-- Calls one after the other.
use Rattle.std.proofs.Common.{◌≡◌, ℕ, List, [], ◌∷◌, ◌++◌, Option, refl, sym, ap, ◌∙◌, append_assoc}
use Rattle.std.specs.Prelude.{map}
use Rattle.std.proofs.lemmas.Grind.{flat_map-append}
use Rattle.std.proofs.lemmas.List.{append-nil, map-append}
use Rattle.harp_types.specs.declared.peer.Peer.{Peer}
use Rattle.file_tree.specs.Book.{Entry}
use Rattle.group_rules.specs.Moves.{Move, act, acts}
use Rattle.group_rules.specs.Places.{Place}
use Rattle.group_rules.specs.Said.{answered_by, answers_said, committed_by, committed_of, refused_by, refusals_said, sends_said, sent_by}
use Rattle.group_rules.specs.State.{Message, Server}
use Rattle.node_outputs.specs.Makes.{IsMute, MakesThen, with_moves}
use Rattle.node_outputs.specs.Messages.{as_heard}
use Rattle.node_outputs.specs.Said.{Said, answered, chosen_by, chosen_of, in_turn, listed_by, listed_of, opened_by, opened_of, refused, said}
use Rattle.node_outputs.specs.declared.outputs.Answered.{Answered}
use Rattle.node_outputs.specs.declared.outputs.Refused.{Refused}

-- ---- what two lists of moves do and say

pub acts-append : (q : Place) (clock : ℕ) (s : Server Entry) (ms ns : List (Move Entry))
    → acts q clock s (ms ++ ns) ≡ acts q clock (acts q clock s ms) ns
acts-append q clock s [] ns = refl
acts-append q clock s (m ∷ ms) ns = acts-append q clock (act q clock s m) ms ns

pub committed-append : (q : Place) (clock : ℕ) (s : Server Entry) (ms ns : List (Move Entry))
    → committed_of q clock s (ms ++ ns)
    ≡ committed_of q clock s ms ++ committed_of q clock (acts q clock s ms) ns
committed-append q clock s [] ns = refl
committed-append q clock s (m ∷ ms) ns =
    ap (λ zs. committed_by s m ++ zs) (committed-append q clock (act q clock s m) ms ns)
    ∙ sym (append_assoc (committed_by s m) (committed_of q clock (act q clock s m) ms)
    (committed_of q clock (acts q clock (act q clock s m) ms) ns))

opened-append : (q : Place) (clock : ℕ) (s : Server Entry) (ms ns : List (Move Entry))
    (o : Option ℕ)
    → opened_of q clock s (ms ++ ns) o
    ≡ opened_of q clock (acts q clock s ms) ns (opened_of q clock s ms o)
opened-append q clock s [] ns o = refl
opened-append q clock s (m ∷ ms) ns o = opened-append q clock (act q clock s m) ms ns
    (opened_by s m o)

chosen-append : (q : Place) (clock : ℕ) (s : Server Entry) (ms ns : List (Move Entry))
    (o : Option (ℕ × ℕ))
    → chosen_of q clock s (ms ++ ns) o
    ≡ chosen_of q clock (acts q clock s ms) ns (chosen_of q clock s ms o)
chosen-append q clock s [] ns o = refl
chosen-append q clock s (m ∷ ms) ns o = chosen-append q clock (act q clock s m) ms ns
    (chosen_by s m o)

listed-append : (ms ns : List (Move Entry)) (o : Option ℕ) → listed_of (ms ++ ns) o
    ≡ listed_of ns (listed_of ms o)
listed-append [] ns o = refl
listed-append (m ∷ ms) ns o = listed-append ms ns (listed_by m o)

-- ---- whole values

-- two that agree in each field are one
pub same_said : (a b : Said) → a.committed ≡ b.committed → a.answers ≡ b.answers → a.refusals
    ≡ b.refusals → a.sends ≡ b.sends
    → a.opened ≡ b.opened → a.chosen ≡ b.chosen → a.listed ≡ b.listed → a ≡ b
same_said a b committed answers refusals sends opened chosen listed =
    ap (λ (x : List Entry). record a { committed = x }) committed
    ∙ ap (λ (x : List Answered). record a { committed = b.committed; answers = x }) answers
    ∙ ap (λ (x : List Refused). record a {
      committed = b.committed;
      answers = b.answers;
      refusals
          = x;
    }) refusals
    ∙ ap (λ (x : List (Place × Option
    (Message Entry))). record b {
      sends = x;
      opened = a.opened;
      chosen = a.chosen;
      listed =
          a.listed;
    }) sends
    ∙ ap (λ (x : Option ℕ). record b { opened = x; chosen = a.chosen; listed = a.listed }) opened
    ∙ ap (λ (x : Option (ℕ × ℕ)). record b { chosen = x; listed = a.listed }) chosen
    ∙ ap (λ (x : Option ℕ). record b { listed = x }) listed

-- who is answered or refused by moves, where those after them answer and refuse nobody
turn-mute : {A : Type 0} {B : Type 0} (say : Peer → A → B) (xs ys : List A) (peers : List Peer)
    → ys ≡ [] → in_turn say (xs ++ ys) peers ≡ in_turn say xs peers
turn-mute say xs ys peers none = ap (λ zs. in_turn say (xs ++ zs) peers) none
    ∙ ap (λ zs. in_turn say zs peers) (append-nil xs)

none-turn : {A : Type 0} {B : Type 0} (say : Peer → A → B) (ys : List A) (peers : List Peer) → ys
    ≡ [] → in_turn say ys peers ≡ []
none-turn say ys peers none = ap (λ zs. in_turn say zs peers) none

said-then : (q : Place) (clock : ℕ) (s : Server Entry) (ms ns : List (Move Entry))
    (peers others : List Peer) (before : Said) → IsMute ns
    → with_moves q clock (acts q clock s ms) ns others (with_moves q clock s ms peers before)
    ≡ with_moves q clock s (ms ++ ns) peers before
said-then q clock s ms ns peers others before mute =
    let mid = acts q clock s ms in
    same_said (with_moves q clock mid ns others (with_moves q clock s ms peers before))
    (with_moves q clock s (ms ++ ns) peers before)
    (append_assoc before.committed (committed_of q clock s ms) (committed_of q clock mid ns)
    ∙ ap (λ zs. before.committed ++ zs) (sym (committed-append q clock s ms ns)))
    (ap (λ zs. (before.answers ++ in_turn answered (answers_said ms) peers) ++ zs)
    (none-turn answered (answers_said ns) others mute.answers)
    ∙ append-nil (before.answers ++ in_turn answered (answers_said ms) peers)
    ∙ ap (λ zs. before.answers ++ zs) (sym (turn-mute answered (answers_said ms)
    (answers_said ns) peers mute.answers)
    ∙ ap (λ zs. in_turn answered zs peers) (sym (flat_map-append answered_by ms ns))))
    (ap (λ zs. (before.refusals ++ in_turn refused (refusals_said ms) peers) ++ zs)
    (none-turn refused (refusals_said ns) others mute.refusals)
    ∙ append-nil (before.refusals ++ in_turn refused (refusals_said ms) peers)
    ∙ ap (λ zs. before.refusals ++ zs) (sym (turn-mute refused (refusals_said ms)
    (refusals_said ns) peers mute.refusals)
    ∙ ap (λ zs. in_turn refused zs peers) (sym (flat_map-append refused_by ms ns))))
    (append_assoc before.sends (map as_heard (sends_said ms)) (map as_heard (sends_said ns))
    ∙ ap (λ zs. before.sends ++ zs) (sym (map-append as_heard (sends_said ms) (sends_said ns))
    ∙ ap (map as_heard) (sym (flat_map-append sent_by ms ns))))
    (sym (opened-append q clock s ms ns before.opened))
    (sym (chosen-append q clock s ms ns before.chosen))
    (sym (listed-append ms ns before.listed))

pub makes_then : MakesThen
makes_then q clock ms ns peers others old mid new before between after first second mute = record {
  state = second.state ∙ ap (λ (s : Server Entry). acts q clock s ns) first.state
      ∙ sym (acts-append q clock old ms ns);
  said = second.said
      ∙ ap (λ (s : Server Entry). with_moves q clock s ns others (said between)) first.state
      ∙ ap (with_moves q clock (acts q clock old ms) ns others) first.said
      ∙ said-then q clock old ms ns peers others (said before) mute;
}
