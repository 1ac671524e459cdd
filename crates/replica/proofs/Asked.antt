-- What an ask leaves and says, by its moves.
use Rattle.std.proofs.Common.{◌≡◌, ℕ, ◌+◌, ◌≤◌, false, List, [], ◌∷◌, ◌++◌, length, take, Option, Some, None, true, refl, sym, ap, ◌∙◌, subst}
use Rattle.std.specs.Prelude.{◌||◌, map, nat_le}
use Rattle.std.proofs.lemmas.List.{append-nil, map-append}
use Rattle.cell_cache.specs.Entries.{Entries}
use Rattle.dedup.specs.declared.repeat.Seen.TheVariants.{Kept, New}
use Rattle.dedup.specs.Repeats.{seen_after}
use Rattle.event_record.specs.Record.{entry_of}
use Rattle.event_record.specs.declared.record.RecordFields.{RecordFields}
use Rattle.file_tree.specs.Book.{Entry, tree_after}
use Rattle.file_tree.specs.Calls.{outcome}
use Rattle.group_rules.specs.Ask.{append, new_entry, read_entry, refuse, update_moves}
use Rattle.group_rules.specs.Limits.{limit, room}
use Rattle.group_rules.specs.Moves.{Appending, Move, Reading, Saying, Sending}
use Rattle.group_rules.specs.Names.{view_of}
use Rattle.group_rules.specs.Places.{Place, partner}
use Rattle.group_rules.specs.Shown.{cause_of}
use Rattle.group_rules.specs.State.{Answers, Cause, Event, top}
use Rattle.harp_types.specs.Update.{is_update}
use Rattle.harp_types.specs.declared.call.Call.{Call}
use Rattle.harp_types.specs.declared.cred.Cred.{Cred}
use Rattle.harp_types.specs.declared.peer.Peer.{Peer}
use Rattle.harp_types.specs.declared.reply.Reply.{Reply}
use Rattle.harp_store.specs.Disk.{Moments}
use Rattle.tree_log.specs.Records.{record_of}
use Rattle.node_outputs.specs.Makes.{Makes}
use Rattle.node_outputs.specs.Records.{records_sent}
use Rattle.node_outputs.specs.Said.{Said, answered, said, waits_of}
use Rattle.node_outputs.specs.declared.outputs.Answered.{Answered}
use Rattle.node_outputs.specs.declared.outputs.Outputs.{Outputs}
use Rattle.node_outputs.proofs.Makes.{same_said}
use Rattle.tree_log.specs.Planning.{next_record}
use Rattle.tree_log.specs.Reading.{HoldsTree, IsNextRecord}
use Rattle.replica.proofs.Asking.{IsOf, kept_moves, new_moves, room_appends}
use Rattle.replica.proofs.Lists.{entries_length}
use Rattle.replica.proofs.Ticking.{partner_led}
use Rattle.replica.specs.Asking.{Asked, appended, recorded}
use Rattle.replica.specs.Leading.{Leading, Outer, led, partner_of, place_led}
use Rattle.volatile_log.specs.Log.{top as top_of, with_record}

-- ---- where nothing is appended

-- moves that append nothing, and leave the leader but for its cells in memory
appends_none : (now : ℕ) (list : List Entry) (ms : List (Move Entry)) (peer : Peer) (o : Outer)
    (l : Leading) (k : Entries) (before after : Outputs)
    → waits_of peer ms ≡ [] → appended ms ≡ [] → recorded l.view list ms ≡ []
    → Makes (place_led l o) now ms (peer ∷ []) (led l o) (led l o) before after
    → records_sent after ≡ records_sent before
    → Asked now list ms peer o l (record l { cached = k }) before after
appends_none now list ms peer o l k before after waits none same made sent = record {
  makes = made;
  waits = sym (ap (λ ps. l.peers ++ ps) waits ∙ append-nil l.peers);
  log = ap (λ (rs : List RecordFields). record (l.log) { records = rs })
      (sym (ap (λ rs. l.log.records ++ rs) same ∙ append-nil l.log.records));
  sent = sent
      ∙ sym (ap (λ rs. records_sent before ++ rs) same ∙ append-nil (records_sent before));
  tree = λ upto told le h. subst (λ (es : List Entry). HoldsTree es upto l.log told)
      (sym (ap (λ es. list ++ es) none ∙ append-nil list)) h;
}

pub refused_so : (now : ℕ) (list : List Entry) (client number : ℕ) (cause : Cause) (peer : Peer)
    (o : Outer) (l : Leading) (k : Entries) (before after : Outputs)
    → said after ≡ record (said before) {
      refusals = (said before).refusals ++ (record {
        peer = peer;
        client = client;
        number = number;
        cause = cause_of cause;
      }) ∷ [];
    }
    → records_sent after ≡ records_sent before
    → Asked now list (refuse client number cause) peer o l (record l { cached = k }) before after
refused_so now list client number cause peer o l k before after told sent =
    let b = said before in
    appends_none now list (refuse client number cause) peer o l k before after refl refl refl
    (record {
      state = refl;
      said = told ∙ same_said _ _ (sym (append-nil b.committed)) (sym (append-nil b.answers)) refl
          (sym (append-nil b.sends)) refl refl refl;
    }) sent

-- an answer that waits for the commit
pub nothing_yet : (now : ℕ) (list : List Entry) (peer : Peer) (o : Outer) (l : Leading)
    (k : Entries) (outs : Outputs)
    → Asked now list [] peer o l (record l { cached = k }) outs outs
nothing_yet now list peer o l k outs =
    let b = said outs in
    appends_none now list [] peer o l k outs outs refl refl refl
    (record {
      state = refl;
      said = same_said _ _ (sym (append-nil b.committed)) (sym (append-nil b.answers))
          (sym (append-nil b.refusals)) (sym (append-nil b.sends)) refl refl refl;
    }) refl

-- a kept reply
answered_so : (now : ℕ) (list : List Entry) (peer : Peer) (e : Entry) (o : Outer) (l : Leading)
    (k : Entries) (before after : Outputs)
    → said after ≡ record (said before) {
      answers = (said before).answers ++ answered peer (record {
        index = e.index;
        entry = e;
        reads = false;
      }) ∷ [];
    }
    → records_sent after ≡ records_sent before
    → Asked now list (Saying (Answers e.index e) ∷ []) peer o l (record l { cached = k })
    before after
answered_so now list peer e o l k before after told sent =
    let b = said before in
    appends_none now list (Saying (Answers e.index e) ∷ []) peer o l k before after refl refl refl
    (record {
      state = refl;
      said = told ∙ same_said _ _ (sym (append-nil b.committed)) refl
          (sym (append-nil b.refusals)) (sym (append-nil b.sends)) refl refl refl;
    }) sent

same_answer : (peer : Peer) (e : Entry) (client number index : ℕ) (reply : Reply)
    → e.client ≡ client → number ≡ e.number → index ≡ e.index → reply ≡ e.reply
    → (let a : Answered = record {
      peer = peer;
      client = client;
      number = number;
      index = index;
      reply = reply;
      asked = None;
    } in a) ≡ answered peer (record { index = e.index; entry = e; reads = false })
same_answer peer e client number index reply of number_is index_is reply_is =
    rw (sym of, number_is, index_is, reply_is) refl

pub answered_again : (now client : ℕ) (list : List Entry) (ne : Entry) (peer : Peer) (index : ℕ)
    (reply : Reply) (o : Outer) (l : Leading) (k : Entries) (last : Option Entry)
    (before after : Outputs)
    → IsOf client last → Kept index reply ≡ seen_after last ne.number l.log.cp
    → said after ≡ record (said before) {
      answers = (said before).answers ++ (record {
        peer = peer;
        client = client;
        number = ne.number;
        index = index;
        reply = reply;
        asked = None;
      }) ∷ [];
    }
    → records_sent after ≡ records_sent before
    → Asked now list (update_moves (led l o) ne last) peer o l (record l { cached = k })
    before after
answered_again now client list ne peer index reply o l k last before after of kept told sent =
    let h = kept_moves (led l o) ne last index reply kept in
    let x = h.entry in
    let b = said before in
    let mine : x.client ≡ client = subst (IsOf client) h.last_is of in
    let same = same_answer peer x client ne.number index reply mine h.number h.index_is h.reply_is in
    subst (λ (ms : List (Move Entry)). Asked now list ms peer o l (record l { cached = k })
    before after) (sym h.moves)
    (answered_so now list peer x o l k before after
    (told ∙ ap (λ (a : Answered). record b { answers = b.answers ++ a ∷ [] }) same) sent)

-- the reply to a read
pub read_so : (now : ℕ) (list : List Entry) (client number : ℕ) (cred : Cred) (call : Call)
    (peer : Peer) (o : Outer) (l : Leading) (k : Entries) (before after : Outputs)
    → said after ≡ record (said before) {
      answers = (said before).answers ++ (record {
        peer = peer;
        client = client;
        number = number;
        index = l.log.cp;
        reply = (outcome (tree_after (take l.log.cp list)) cred call 0).0;
        asked = Some (record { cred = cred; call = call });
      }) ∷ [];
    }
    → records_sent after ≡ records_sent before
    → Asked now list (Reading l.log.cp (read_entry l.log.cp list client number cred call) ∷ []) peer
    o l (record l { cached = k }) before after
read_so now list client number cred call peer o l k before after told sent =
    let b = said before in
    appends_none now list
    (Reading l.log.cp (read_entry l.log.cp list client number cred call) ∷ []) peer o l k
    before after refl refl refl
    (record {
      state = refl;
      said = told ∙ same_said _ _ (sym (append-nil b.committed)) refl
          (sym (append-nil b.refusals)) (sym (append-nil b.sends)) refl refl refl;
    }) sent

-- ---- where a record is appended

pub appends_one : (now : ℕ) (list : List Entry) (e : Entry) (r : RecordFields) (peer : Peer)
    (o : Outer) (l : Leading) (k : Entries) (before after : Outputs)
    → r ≡ record_of (view_of l.view) list e → e.index ≡ top_of l.log + 1
    → said after ≡ record (said before) {
      sends = (said before).sends ++ (
        partner_of l.beside,
        Some (Event l.view r.index l.log.cp l.log.base (entry_of r)),
      ) ∷ [];
    }
    → records_sent after ≡ records_sent before ++ r ∷ []
    → ((upto : ℕ) (told : Option Moments) → upto ≤ top_of l.log → HoldsTree list upto l.log told
    → HoldsTree (list ++ e ∷ []) upto (with_record l.log r) told)
    → Asked now list (Appending e ∷ Sending (partner (led l o).plan.storers)
    (Event l.view (top (led l o) + 1) l.log.cp l.log.base e) ∷ []) peer o l (record l {
      log = with_record l.log r;
      cached = k;
      peers = l.peers ++ peer ∷ [];
    }) before after
appends_one now list e r peer o l k before after is at told sent tree =
    let b = said before in
    let to = partner_of l.beside in
    let entry : entry_of r ≡ e = ap (λ (x : RecordFields). entry_of x) is in
    let next : e.index ≡ top (led l o) + 1 =
    at ∙ ap (λ n. l.log.base + n + 1) (sym (entries_length l.log)) in
    let event : ℕ → Entry → Place → Said = λ n x p. record b {
      sends = b.sends ++ (p, Some (Event l.view n l.log.cp l.log.base x)) ∷ [];
    } in
    record {
      makes = record {
        state = ap (λ es. record (led l o) { items = es })
            (map-append entry_of l.log.records (r ∷ [])
            ∙ ap (λ x. map entry_of l.log.records ++ x ∷ []) entry);
        said = told
            ∙ ap (λ n. event n (entry_of r) to) (ap (λ (x : Entry). x.index) entry ∙ next)
            ∙ ap (λ x. event (top (led l o) + 1) x to) entry
            ∙ ap (λ p. event (top (led l o) + 1) e p) (sym (partner_led l.beside o.me))
            ∙ same_said _ _ (sym (append-nil b.committed)) (sym (append-nil b.answers))
            (sym (append-nil b.refusals)) refl refl refl refl;
      };
      waits = refl;
      log = ap (λ (x : RecordFields). with_record l.log x) is;
      sent = sent ∙ ap (λ x. records_sent before ++ x ∷ []) is;
      tree = tree;
    }

-- the record of the next update
pub appended_so : (now client number : ℕ) (cred : Cred) (call : Call) (list : List Entry)
    (peer : Peer) (o : Outer) (l mid new : Leading) (r : RecordFields) (before after : Outputs)
    → is_update call ≡ true
    → (nat_le room (length l.log.records) || nat_le limit (top_of l.log)) ≡ false
    → length list ≡ top_of l.log → mid ≡ record l { cached = mid.cached }
    → r ≡ next_record (view_of l.view) now list client number cred call
    → new ≡ record mid {
      log = with_record mid.log r;
      peers = mid.peers ++ peer ∷ [];
    }
    → said after ≡ record (said before) {
      sends = (said before).sends ++ (
        partner_of mid.beside,
        Some (Event mid.view r.index mid.log.cp mid.log.base (entry_of r)),
      ) ∷ [];
    }
    → records_sent after ≡ records_sent before ++ r ∷ []
    → ((list : List Entry) (upto : ℕ) (told : Option Moments) (e : Entry) → upto ≤ top_of mid.log
    → IsNextRecord list e r → is_update e.call ≡ true → HoldsTree list upto mid.log told
    → HoldsTree (list ++ e ∷ []) upto new.log told)
    → Asked now list (append (led l o) (new_entry now list client number cred call)) peer o l new
    before after
appended_so now client number cred call list peer o l mid new r before after update fits long same
    is state told sent tree =
    let k = mid.cached in
    let e = new_entry now list client number cred call in
    let next : new ≡ record l {
      log = with_record l.log r;
      cached = k;
      peers = l.peers ++ peer ∷ [];
    } =
    state ∙ ap (λ (m : Leading). record m {
      log = with_record m.log r;
      peers = m.peers ++ peer ∷ [];
    }) same in
    let said_so = told ∙ ap (λ (m : Leading). record (said before) {
      sends = (said before).sends ++ (
        partner_of m.beside,
        Some (Event m.view r.index m.log.cp m.log.base (entry_of r)),
      ) ∷ [];
    }) same in
    let grows : (upto : ℕ) (told : Option Moments) → upto ≤ top_of l.log
    → HoldsTree list upto l.log told
    → HoldsTree (list ++ e ∷ []) upto (with_record l.log r) told =
    λ upto told le h. subst (λ (x : Leading). HoldsTree (list ++ e ∷ []) upto x.log told) next
    (tree list upto told e (subst (λ (m : Leading). upto ≤ top_of m.log) (sym same) le)
    (record {
      entry = ap (λ (x : RecordFields). entry_of x) is;
      changes = ap (λ (x : RecordFields). x.changes) is;
    }) update
    (subst (λ (m : Leading). HoldsTree list upto m.log told) (sym same) h)) in
    subst (λ (ms : List (Move Entry)). Asked now list ms peer o l new before after)
    (sym (room_appends l o e fits))
    (subst (λ (x : Leading). Asked now list (Appending e ∷ Sending
    (partner (led l o).plan.storers)
    (Event l.view (top (led l o) + 1) l.log.cp l.log.base e) ∷ []) peer o l x before after)
    (sym next)
    (appends_one now list e r peer o l k before after is (ap (λ n. n + 1) long) said_so sent grows))

-- ---- a leader that read cells into memory before

pub asked_of : (now : ℕ) (list : List Entry) (ms : List (Move Entry)) (peer : Peer) (o : Outer)
    (l : Leading) (k : Entries) (new : Leading) (before after : Outputs)
    → Asked now list ms peer o (record l { cached = k }) new before after
    → Asked now list ms peer o l new before after
asked_of now list ms peer o l k new before after h = record {
  makes = h.makes;
  waits = h.waits;
  log = h.log;
  sent = h.sent;
  tree = h.tree;
}

-- a new update, after its client's last one was looked up
pub appended_after : (now : ℕ) (list : List Entry) (ne : Entry) (last : Option Entry) (peer : Peer)
    (o : Outer) (l mid new : Leading) (before after : Outputs) (told kept : Option Moments)
    → mid ≡ record l { cached = mid.cached } → kept ≡ told
    → New ≡ seen_after last ne.number l.log.cp → HoldsTree list l.log.cp l.log told
    → (HoldsTree list mid.log.cp mid.log kept
    → Asked now list (append (led mid o) ne) peer o mid new before after)
    → Asked now list (update_moves (led l o) ne last) peer o l new before after
appended_after now list ne last peer o l mid new before after told kept same is fresh holds made =
    let k = mid.cached in
    let there : HoldsTree list l.log.cp l.log kept =
    subst (λ (t : Option Moments). HoldsTree list l.log.cp l.log t) (sym is) holds in
    let P : Leading → Type 0 = λ m. HoldsTree list m.log.cp m.log kept
    → Asked now list (append (led m o) ne) peer o m new before after in
    let so : P (record l { cached = k }) = subst P same made in
    subst (λ (ms : List (Move Entry)). Asked now list ms peer o l new before after)
    (sym (new_moves (led l o) ne last fresh))
    (asked_of now list (append (led l o) ne) peer o l k new before after (so there))
