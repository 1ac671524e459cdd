-- A leader's commits, one after the other, and an Ack.
use Rattle.std.proofs.Common.{◌≡◌, ℕ, suc, ◌+◌, ◌-◌, ◌<◌, ◌≤◌, Bool, true, false, List, [], ◌∷◌, ◌++◌, take, drop, refl, sym, ap, ◌∙◌, arith, subst, append_assoc, inl, inr, if◌then◌else◌}
use Rattle.std.specs.Prelude.{◌==◌, map, max, nat_lt}
use Rattle.std.proofs.lemmas.Bool.{cases_lt, eq-eqb, le-ltb, lt-ltb}
use Rattle.std.proofs.lemmas.List.{append-nil}
use Rattle.file_tree.specs.Book.{Entry}
use Rattle.group_rules.specs.Limits.{is_open}
use Rattle.group_rules.specs.Moves.{Committing, Move, Noting}
use Rattle.group_rules.specs.Places.{all_of}
use Rattle.group_rules.specs.Replicate.{answers, on_ack}
use Rattle.group_rules.specs.Said.{committed_of}
use Rattle.node_outputs.specs.Makes.{Makes, with_moves}
use Rattle.node_outputs.specs.Messages.{as_heard}
use Rattle.node_outputs.specs.Said.{Said, answered, answers_of, said}
use Rattle.node_outputs.specs.declared.outputs.Outputs.{Outputs}
use Rattle.node_outputs.proofs.Makes.{same_said}
use Rattle.replica.specs.Commits.{CommitsNext, IsUnderWay, above, left, left_answers, noted}
use Rattle.replica.specs.Leading.{Leading, Outer, led, mode_led, place_led}
use Rattle.replica.proofs.Spoken.{answers_send_none, answers_spoken, spoken, spoken_acts}
use Rattle.volatile_log.specs.Log.{committed_to, top}

-- ---- under way

-- what is left begins with the next entry
left_split : (top : ℕ) (mid new : Leading) (before after : Said) → mid.log.cp < top
    → (h : CommitsNext mid new before after) → left top mid ≡ h.entry ∷ left top new
left_split top mid new before after below h =
    let more : top - mid.log.cp ≡ suc (top - (mid.log.cp + 1)) = omega arith in
    ap (λ k. take k (above mid.log.cp mid)) more
    ∙ ap (λ ys. take (suc (top - (mid.log.cp + 1))) ys) h.next
    ∙ ap (λ (l : Leading). h.entry ∷ take (top - l.log.cp) (above l.log.cp l)) (sym h.state)

answers_split : (top : ℕ) (mid new : Leading) (before after : Said) → mid.log.cp < top
    → (h : CommitsNext mid new before after) → left_answers top mid
    ≡ answered h.peer (record { index = mid.log.cp + 1; entry = h.entry; reads = false }) ∷
    left_answers top new
answers_split top mid new before after below h =
    let first = answered h.peer (record {
      index = mid.log.cp + 1;
      entry = h.entry;
      reads = false;
    }) in
    ap (λ es. answers_of (answers mid.log.cp es) mid.peers)
    (left_split top mid new before after below h)
    ∙ ap (λ ps. answers_of (answers mid.log.cp (h.entry ∷ left top new)) ps) h.peers
    ∙ ap (λ n. first ∷ answers_of (answers n (left top new)) new.peers) (sym (ap (λ
    (l : Leading). l.log.cp) h.state))

peers_split : (top : ℕ) (mid new : Leading) (before after : Said) → mid.log.cp < top
    → (h : CommitsNext mid new before after) → drop (top - mid.log.cp) mid.peers
    ≡ drop (top - new.log.cp) new.peers
peers_split top mid new before after below h =
    let more : top - mid.log.cp ≡ suc (top - (mid.log.cp + 1)) = omega arith in
    ap (λ k. drop k mid.peers) more ∙ ap (λ ps. drop (suc (top - (mid.log.cp + 1))) ps) h.peers
    ∙ ap (λ (l : Leading). drop (top - l.log.cp) new.peers) (sym h.state)

-- one more commit on the way
pub goes_on : (top : ℕ) (old mid new : Leading) (first before after : Said) → mid.log.cp < top
    → IsUnderWay top old mid first before → CommitsNext mid new before after
    → IsUnderWay top old new first after
goes_on top old mid new first before after below way h = record {
  state = h.state
      ∙ ap (λ (l : Leading). record l {
        log = committed_to l.log
            (mid.log.cp + 1);
        peers = new.peers;
      }) way.state
      ∙ ap (λ n. record old { log = committed_to old.log n; peers = new.peers }) (sym (ap (λ
      (l : Leading). l.log.cp) h.state));
  peers = sym (peers_split top mid new before after below h) ∙ way.peers;
  said =
      let a = answered h.peer (record { index = mid.log.cp + 1; entry = h.entry; reads = false }) in
      ap (λ (x : Said). record x {
        committed = x.committed ++ left top new;
        answers = x.answers ++
            left_answers top new;
      }) h.said
      ∙ ap (λ es. record before {
        committed = es;
        answers =
            (before.answers ++ a ∷ []) ++ left_answers top new;
      })
      (append_assoc before.committed (h.entry ∷ []) (left top new)
      ∙ ap (λ es. before.committed ++ es) (sym (left_split top mid new before after below h)))
      ∙ ap (λ xs. record before { committed = before.committed ++ left top mid; answers = xs })
      (append_assoc before.answers (a ∷ []) (left_answers top new)
      ∙ ap (λ xs. before.answers ++ xs) (sym (answers_split top mid new before after below h)))
      ∙ way.said;
}

-- ---- an Ack

ack_tested : (opened : Bool) (v : ℕ) → opened ≡ true
    → all_of (is_open (mode_led opened) ∷ (v == v) ∷ []) ≡ true
unfolding all_of
ack_tested opened v is = rw (is, eq-eqb v v refl) refl

ack_untested : (opened : Bool) (v : ℕ) → opened ≡ false
    → all_of (is_open (mode_led opened) ∷ (v == v) ∷ []) ≡ false
unfolding all_of
ack_untested opened v is = rw is refl

-- a leader that isn't open ignores it
pub ack_ignored : (l : Leading) (t lb until clock : ℕ) (o : Outer) (outs : Outputs) → l.opened
    ≡ false
    → Makes (place_led l o) clock (on_ack (led l o) l.view t lb until) l.peers (led l o)
    (led l o) outs outs
ack_ignored l t lb until clock o outs shut =
    let b = said outs in
    let none : Makes (place_led l o) clock [] l.peers (led l o) (led l o) outs outs = record {
      state = refl;
      said = same_said b (with_moves (place_led l o) clock (led l o) [] l.peers b) (sym
          (append-nil b.committed)) (sym (append-nil b.answers))
          (sym (append-nil b.refusals)) (sym (append-nil b.sends)) refl refl refl;
    } in
    rw (ack_untested l.opened l.view shut) none

-- nothing is left at the end
left_none : (top : ℕ) (l : Leading) → top ≤ l.log.cp → left top l ≡ []
left_none top l end =
    let none : top - l.log.cp ≡ 0 = omega arith in
    ap (λ k. take k (above l.log.cp l)) none

left_answers_none : (top : ℕ) (l : Leading) → top ≤ l.log.cp → left_answers top l ≡ []
left_answers_none top l end = ap (λ es. answers_of (answers l.log.cp es) l.peers)
    (left_none top l end)

-- what was said at the end
said_at_end : (t : ℕ) (mid new : Leading) (before after : Said)
    → IsUnderWay t mid new before after → t ≤ new.log.cp
    → after ≡ record before {
      committed = before.committed ++ left t mid;
      answers = before.answers
          ++ left_answers t mid;
    }
said_at_end t mid new before after way over =
    same_said after (record after {
      committed = after.committed ++ left t new;
      answers =
          after.answers ++ left_answers t new;
    })
    (sym (append-nil after.committed)
    ∙ ap (λ es. after.committed ++ es) (sym (left_none t new over)))
    (sym (append-nil after.answers)
    ∙ ap (λ xs. after.answers ++ xs) (sym
    (left_answers_none t new over))) refl refl refl refl refl
    ∙ way.said

-- the moves of an Ack at an open leader
abbrev acked_moves : Leading → (t lb until : ℕ) → Bool → List (Move Entry)
acked_moves l t lb until more = Noting t lb until ∷ (if more then Committing t ∷ answers l.log.cp
    (left t l) else [])

committing : (l new : Leading) (t lb until clock : ℕ) (o : Outer) (before after : Outputs)
    → l.log.cp < t
    → IsUnderWay t (noted t lb until l) new (said before) (said after) → new.log.cp ≡ max l.log.cp t
    → Makes (place_led l o) clock (acked_moves l t lb until true) l.peers (led l o)
    (led new o) before after
committing l new t lb until clock o before after more way end =
    let q = place_led l o in
    let mid = noted t lb until l in
    let b = said before in
    let at : new.log.cp ≡ t = omega (arith, end, more) in
    let over : t ≤ new.log.cp = omega (arith, at) in
    let s = record (led mid o) { cp = t } in
    let es = left t l in
    let ms = answers l.log.cp es in
    let x : Said = record b { committed = b.committed ++ es } in
    let last = spoken q clock s ms l.peers x (answers_spoken l.log.cp es) in
    record {
      state = ap (λ (k : Leading). led k o) way.state ∙ ap (λ n. record (led mid o) { cp = n }) at
          ∙ sym (spoken_acts q clock s ms (answers_spoken l.log.cp es));
      said = said_at_end t mid new b (said after) way over
          ∙ ap (λ zs. record x { answers = b.answers ++ answers_of ms l.peers; sends = zs })
          (sym (ap (λ zs. b.sends ++ map as_heard zs) (answers_send_none l.log.cp es)
          ∙ append-nil b.sends))
          ∙ sym last
          ∙ ap (λ zs. record (with_moves q clock s ms l.peers x) { committed = zs })
          (append_assoc b.committed es (committed_of q clock s ms));
    }

noting : (l new : Leading) (t lb until clock : ℕ) (o : Outer) (before after : Outputs)
    → t ≤ l.log.cp
    → IsUnderWay t (noted t lb until l) new (said before) (said after) → new.log.cp ≡ max l.log.cp t
    → Makes (place_led l o) clock (acked_moves l t lb until false) l.peers (led l o)
    (led new o) before after
noting l new t lb until clock o before after none way end =
    let q = place_led l o in
    let mid = noted t lb until l in
    let b = said before in
    let at : new.log.cp ≡ l.log.cp = omega (arith, end, none) in
    let over : t ≤ new.log.cp = omega (arith, at, none) in
    record {
      state = ap (λ (k : Leading). led k o) way.state ∙ ap (λ n. record (led mid o) { cp = n }) at;
      said = said_at_end t mid new b (said after) way over
          ∙ same_said _ (with_moves q clock (led l o) (acked_moves l t lb until false) l.peers b)
          (ap (λ es. b.committed ++ es) (left_none t mid none)) (ap (λ xs. b.answers ++ xs)
          (left_answers_none t mid none))
          (sym (append-nil b.refusals)) (sym (append-nil b.sends)) refl refl refl;
    }

acked_so : (l new : Leading) (t lb until clock : ℕ) (o : Outer) (before after : Outputs)
    → IsUnderWay t (noted t lb until l) new (said before) (said after) → new.log.cp ≡ max l.log.cp t
    → Makes (place_led l o) clock (acked_moves l t lb until (nat_lt l.log.cp t)) l.peers
    (led l o) (led new o) before after
acked_so l new t lb until clock o before after way end = elim (cases_lt l.log.cp t) [
  | inl below ↦ rw (lt-ltb l.log.cp t below)
      (committing l new t lb until clock o before after below way end)
  | inr over ↦ rw (le-ltb l.log.cp t over)
      (noting l new t lb until clock o before after over way end)
]

-- the commits after what an Ack told was kept are what the machine does
pub acked : (l mid new : Leading) (t lb until clock : ℕ) (o : Outer) (before after : Outputs)
    → l.opened ≡ true → mid ≡ noted t lb until l
    → IsUnderWay t mid new (said before) (said after) → new.log.cp ≡ max mid.log.cp t
    → Makes (place_led l o) clock (on_ack (led l o) l.view t lb until) l.peers (led l o)
    (led new o) before after
acked l mid new t lb until clock o before after is mid_is way end =
    rw (ack_tested l.opened l.view is) (acked_so l new t lb until clock o before after
    (subst (λ (m : Leading). IsUnderWay t m new (said before) (said after)) mid_is way)
    (end ∙ ap (λ (m : Leading). max m.log.cp t) mid_is))

pub acked_peers : (l mid new : Leading) (t lb until : ℕ) (before after : Said) → mid
    ≡ noted t lb until l
    → IsUnderWay t mid new before after → new.log.cp ≡ max mid.log.cp t → new.peers
    ≡ drop (t - l.log.cp) l.peers
acked_peers l mid new t lb until before after mid_is way end =
    let over : t - new.log.cp ≡ 0 = omega (arith, end) in
    sym (ap (λ n. drop n new.peers) over) ∙ way.peers
    ∙ ap (λ (m : Leading). drop (t - m.log.cp) m.peers) mid_is
