-- Calls of a server that are put together to a step.
use Rattle.std.proofs.Common.{◌≡◌, ℕ, Bool, true, false, List, [], ◌∷◌, ◌++◌, refl, ap, sym, ◌∙◌, subst, if◌then◌else◌}
use Rattle.std.specs.Prelude.{◌/◌, nat_lt}
use Rattle.std.proofs.lemmas.List.{append-nil}
use Rattle.file_tree.specs.Book.{Entry}
use Rattle.group_rules.specs.Joining.{suspect, to_each}
use Rattle.group_rules.specs.Limits.{limit}
use Rattle.group_rules.specs.Moves.{Accepting, Basing, Choosing, Collecting, Demoting, Hearing, Heeding, Joining, Move, Opening, Pulling, Sending, Staging, acts}
use Rattle.group_rules.specs.Open.{and_then, base_tests, rebase}
use Rattle.group_rules.specs.Places.{Place, all_of, others}
use Rattle.group_rules.specs.Said.{answered_by, answers_said, refusals_said, refused_by}
use Rattle.group_rules.specs.State.{Message, Server}
use Rattle.harp_types.specs.declared.peer.Peer.{Peer}
use Rattle.node.specs.Step.{Steps}
use Rattle.node_outputs.specs.Makes.{IsMute, Makes, with_moves}
use Rattle.node_outputs.specs.Said.{Said, answered, in_turn, nothing, refused, said}
use Rattle.node_outputs.specs.declared.outputs.Outputs.{Outputs}
use Rattle.node_outputs.proofs.Makes.{makes_then, same_said}

-- ---- moves that answer and refuse nobody

abbrev pub IsSilent : Move Entry → Type 0
IsSilent (Joining v duty) = Unit {0}
IsSilent (Collecting reports) = Unit {0}
IsSilent (Choosing plan from) = Unit {0}
IsSilent (Pulling plan from) = Unit {0}
IsSilent (Staging items) = Unit {0}
IsSilent (Hearing x lb) = Unit {0}
IsSilent (Accepting plan role n) = Unit {0}
IsSilent (Opening lb) = Unit {0}
IsSilent (Heeding items cp base) = Unit {0}
IsSilent (Basing n) = Unit {0}
IsSilent (Demoting v) = Unit {0}
IsSilent (Sending to m) = Unit {0}
IsSilent m = ⊥

abbrev pub AreSilent : List (Move Entry) → Type 0
AreSilent [] = Unit {0}
AreSilent (m ∷ ms) = IsSilent m × AreSilent ms

mute_then : (m : Move Entry) (ms : List (Move Entry)) → answered_by m ≡ [] → refused_by m ≡ []
    → IsMute ms
    → IsMute (m ∷ ms)
mute_then m ms answers refusals rest = record {
  answers = ap (λ xs. xs ++ answers_said ms) answers ∙ rest.answers;
  refusals = ap (λ xs. xs ++ refusals_said ms) refusals ∙ rest.refusals;
}

pub mute : (ms : List (Move Entry)) → AreSilent ms → IsMute ms
mute [] h = record { answers = refl; refusals = refl }
mute (Joining v duty ∷ ms) h = mute_then (Joining v duty) ms refl refl (mute ms h.1)
mute (Collecting reports ∷ ms) h = mute_then (Collecting reports) ms refl refl (mute ms h.1)
mute (Choosing plan from ∷ ms) h = mute_then (Choosing plan from) ms refl refl (mute ms h.1)
mute (Pulling plan from ∷ ms) h = mute_then (Pulling plan from) ms refl refl (mute ms h.1)
mute (Staging items ∷ ms) h = mute_then (Staging items) ms refl refl (mute ms h.1)
mute (Hearing x lb ∷ ms) h = mute_then (Hearing x lb) ms refl refl (mute ms h.1)
mute (Accepting plan role n ∷ ms) h = mute_then (Accepting plan role n) ms refl refl (mute ms h.1)
mute (Opening lb ∷ ms) h = mute_then (Opening lb) ms refl refl (mute ms h.1)
mute (Heeding items cp base ∷ ms) h = mute_then (Heeding items cp base) ms refl refl (mute ms h.1)
mute (Basing n ∷ ms) h = mute_then (Basing n) ms refl refl (mute ms h.1)
mute (Demoting v ∷ ms) h = mute_then (Demoting v) ms refl refl (mute ms h.1)
mute (Sending to m ∷ ms) h = mute_then (Sending to m) ms refl refl (mute ms h.1)
mute (m ∷ ms) h = absurd h.0

silent_if : (b : Bool) (ms ns : List (Move Entry)) → AreSilent ms → AreSilent ns
    → AreSilent (if b then ms else ns)
silent_if true ms ns h k = h
silent_if false ms ns h k = k

silent_each : (m : Message Entry) (ps : List Place) → AreSilent (to_each m ps)
silent_each m [] = tt
silent_each m (p ∷ ps) = (tt, silent_each m ps)

pub mute_rebase : (s : Server Entry) → IsMute (rebase s)
mute_rebase s = mute (rebase s) (silent_if (all_of (base_tests s)) _ [] (tt, tt) tt)

pub mute_suspect : (q : Place) (s : Server Entry) → IsMute (suspect q s)
mute_suspect q s = mute (suspect q s)
    (silent_if (nat_lt (s.promised / 3) limit) _ [] (tt, silent_each _ (others q)) tt)

-- no answers, whoever waits
pub any_peers : (q : Place) (clock : ℕ) (ms : List (Move Entry)) (peers : List Peer)
    (old new : Server Entry)
    (before after : Outputs) → IsMute ms → Makes q clock ms [] old new before after
    → Makes q clock ms peers old new before after
any_peers q clock ms peers old new before after mute made =
    let answers : in_turn answered (answers_said ms) [] ≡ in_turn answered (answers_said ms) peers =
    rw mute.answers refl in
    let refusals : in_turn refused (refusals_said ms) []
    ≡ in_turn refused (refusals_said ms) peers =
    rw mute.refusals refl in
    record {
      state = made.state;
      said = made.said
          ∙ same_said (with_moves q clock old ms [] (said before))
          (with_moves q clock old ms peers (said before))
          refl (ap (λ zs. (said before).answers ++ zs) answers)
          (ap (λ zs. (said before).refusals ++ zs) refusals)
          refl refl refl refl;
    }

-- ---- the base, at the end of a step

based : (q : Place) (clock : ℕ) (s : Server Entry) (b : Bool) (n : ℕ) (before : Said)
    → before ≡ with_moves q clock s (if b then Basing n ∷ [] else []) [] before
based q clock s true n before = same_said before (with_moves q clock s (Basing n ∷ []) [] before)
    (sym (append-nil before.committed)) (sym (append-nil before.answers))
    (sym (append-nil before.refusals))
    (sym (append-nil before.sends)) refl refl refl
based q clock s false n before = same_said before (with_moves q clock s [] [] before)
    (sym (append-nil before.committed)) (sym (append-nil before.answers))
    (sym (append-nil before.refusals))
    (sym (append-nil before.sends)) refl refl refl

-- a call, and then the base
pub stepped : (q : Place) (clock : ℕ) (ms : List (Move Entry)) (peers : List Peer)
    (old mid new : Server Entry)
    (before after : Outputs) → said before ≡ nothing → Makes q clock ms peers old mid before after
    → new ≡ acts q clock mid (rebase mid)
    → Steps q clock (and_then q clock old ms rebase) peers old new after
stepped q clock ms peers old mid new before after fresh made moved =
    let second : Makes q clock (rebase mid) [] mid new after after = record {
      state = moved;
      said = based q clock mid (all_of (base_tests mid)) _ (said after);
    } in
    let both = makes_then q clock ms (rebase mid) peers [] old mid new before after after made
    second (mute_rebase mid) in
    let all = subst (λ (s : Server Entry).
    Makes q clock (ms ++ rebase s) peers old new before after) made.state both in
    record {
      state = all.state;
      said = all.said ∙ ap (with_moves q clock old (and_then q clock old ms rebase) peers) fresh;
    }
