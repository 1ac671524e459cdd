-- A leader's commits, one after the other.
use Rattle.std.specs.Prelude.{◌≡◌, ℕ, ◌+◌, ◌-◌, List, [], ◌∷◌, ◌++◌, take, drop, max, true, false, Option, None, Some}
use Rattle.harp_types.specs.declared.peer.Peer.{Peer}
use Rattle.file_tree.specs.Book.{Entry}
use Rattle.group_rules.specs.Replicate.{answers}
use Rattle.group_rules.specs.Places.{Two, Place}
use Rattle.group_rules.specs.State.{Beat, Demote, Message}
use Rattle.node_outputs.specs.Said.{Said, answered, answers_of}
use Rattle.node_outputs.specs.declared.outputs.Answered.{Answered}
use Rattle.replica.specs.Leading.{Leading, entries, partner_of}
use Rattle.replica.specs.declared.leader.Beside.{Beside}
use Rattle.replica.specs.declared.leader.Beside.TheVariants as beside
use Rattle.volatile_log.specs.Log.{committed_to, top}

-- the entries of a leader's log above n
abbrev pub above : ℕ → Leading → List Entry
above n l = drop (n - l.log.base) (entries l.log)

-- the leader after it kept what an Ack told
abbrev pub noted : ℕ → ℕ → ℕ → Leading → Leading
noted t lb until l = record l {
  told_top = max l.told_top t;
  told_lb = max l.told_lb lb;
  grant = max l.grant until;
}

-- the next record is committed, entered and answered
pub record CommitsNext (old new : Leading) (before after : Said) : Type 0 where
  pub entry : Entry
  pub peer : Peer
  pub next : above old.log.cp old ≡ entry ∷ above (old.log.cp + 1) old
  pub peers : old.peers ≡ peer ∷ new.peers
  pub state : new ≡ record old { log = committed_to old.log (old.log.cp + 1); peers = new.peers }
  pub said : after ≡ record before {
    committed = before.committed ++ entry ∷ [];
    answers = before.answers ++ answered peer
        (record { index = old.log.cp + 1; entry = entry; reads = false }) ∷ [];
  }

-- the entries that the leader has still to commit up to top, and their answers
abbrev pub left : ℕ → Leading → List Entry
left top l = take (top - l.log.cp) (above l.log.cp l)

abbrev pub left_answers : ℕ → Leading → List Answered
left_answers top l = answers_of (answers l.log.cp (left top l)) l.peers

-- the records up to top are being committed: with what is left, all is as at first
pub record IsUnderWay (top : ℕ) (old new : Leading) (before after : Said) : Type 0 where
  pub state : new ≡ record old { log = committed_to old.log new.log.cp; peers = new.peers }
  pub peers : drop (top - new.log.cp) new.peers ≡ drop (top - old.log.cp) old.peers
  pub said : record after {
    committed = after.committed ++ left top new;
    answers = after.answers ++ left_answers top new;
  } ≡ record before {
    committed = before.committed ++ left top old;
    answers = before.answers ++ left_answers top old;
  }

-- ---- opening

-- a leader that opened: all that its log has is committed, and its partner told its start and this
-- LB
abbrev pub opened : Leading → ℕ → Leading
opened l lb = record l {
  log = committed_to l.log (top l.log);
  formed = None;
  opened = true;
  told_top = l.start;
  told_lb = lb;
  grant = 0;
}

-- the witness, where it isn't needed
abbrev pub demoted : Beside → ℕ → List (Place × Option (Message Entry))
demoted beside.DataServer view = (Two, Some (Demote view)) ∷ []
demoted beside.Witness view = []

-- whom an open leader tells
abbrev pub announced : Leading → List (Place × Option (Message Entry))
announced l = demoted l.beside l.view ++ (
  partner_of l.beside,
  Some
      (Beat l.view l.log.cp l.log.base),
) ∷ []
