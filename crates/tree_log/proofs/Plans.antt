-- A record that is planned over the cells after entries is the record of its entry.
use Rattle.std.proofs.Common.{◌≡◌, ℕ, List, [], ◌∷◌, ◌++◌, length, refl, ap, ◌∙◌, subst, le_refl}
use Rattle.std.proofs.lemmas.List.{take_all}
use Rattle.harp_types.specs.declared.call.Call.{Call}
use Rattle.harp_types.specs.declared.cred.Cred.{Cred}
use Rattle.harp_types.specs.declared.reply.Reply.{Reply}
use Rattle.harp_types.specs.View.{View}
use Rattle.file_tree.specs.Book.{Entry, last_stamp, tree_after}
use Rattle.file_tree.specs.Calls.{outcome}
use Rattle.file_tree.proofs.SoundLaws.{book_sound}
use Rattle.harp_cells.specs.declared.cell.Cell.TheVariants as cell
use Rattle.harp_cells.specs.declared.change.Change.{Change}
use Rattle.harp_cells.specs.CellsOfTree.{StandForBook}
use Rattle.harp_cells.specs.Effect.{Cells}
use Rattle.event_record.specs.declared.record.RecordFields.{RecordFields}
use Rattle.fuzzy_cells.specs.Fuzzy.{AreAlike}
use Rattle.fuzzy_cells.proofs.Alike.{alike_stand}
use Rattle.cell_changes.specs.Table.{update_changes}
use Rattle.cell_changes.specs.TreeCells.{TreeCells}
use Rattle.record_changes.specs.Records.{AreUpdates, client_put}
use Rattle.record_changes.proofs.Histories.{same_blocks, stand}
use Rattle.tree_log.specs.RecordLaws.{HistoriesGrowByRecords}
use Rattle.tree_log.specs.Records.{cells_of, entry_after, record_of}
use Rattle.record_changes.proofs.Histories.{grow}

-- the cells after entries stand for their book
pub cells_stand : (entries : List Entry) → AreUpdates entries → StandForBook (cells_of entries) entries
cells_stand entries updates =
    subst (λ (es : List Entry). StandForBook (cells_of entries) es)
    (take_all (length entries) entries (le_refl (length entries))) (stand entries updates (length entries))

-- so do cells that are alike
abbrev pub book_cells : (entries : List Entry) (held : Cells) → AreUpdates entries
    → AreAlike held (cells_of entries) → TreeCells
book_cells entries held updates alike =
    let h = alike_stand held (cells_of entries) entries alike (cells_stand entries updates) in
    record {
      cells = held;
      tree = tree_after entries;
      stamp = last_stamp entries;
      stand = h.tree;
      sound = book_sound entries;
    }

-- a plan over them, with the client's Put, is the record of the entry
pub record_is : (stamped : View) (index client number : ℕ) (cred : Cred) (call : Call) (stamp : ℕ)
    (entries : List Entry) (held : Cells) (reply : Reply) (changes : List Change)
    → AreAlike held (cells_of entries)
    → reply ≡ (outcome (tree_after entries) cred call stamp).0
    → changes ≡ update_changes held (tree_after entries) cred call stamp
    → (r : RecordFields) → r ≡ record {
      stamped = stamped;
      index = index;
      client = client;
      number = number;
      cred = cred;
      call = call;
      stamp = stamp;
      reply = reply;
      changes = changes ++ client_put (record {
        index = index;
        client = client;
        number = number;
        cred = cred;
        call = call;
        stamp = stamp;
        reply = reply;
      }) ∷ [];
    }
    → r ≡ record_of stamped entries (entry_after entries index client number cred call stamp)
record_is stamped index client number cred call stamp entries held reply changes alike answers are r is =
    let of : Reply → List Change → RecordFields = λ y cs. record {
      stamped = stamped;
      index = index;
      client = client;
      number = number;
      cred = cred;
      call = call;
      stamp = stamp;
      reply = y;
      changes = cs;
    } in
    let e = entry_after entries index client number cred call stamp in
    let entry : Reply → Entry = λ y. record {
      index = index;
      client = client;
      number = number;
      cred = cred;
      call = call;
      stamp = stamp;
      reply = y;
    } in
    is
    ∙ ap (λ (y : Reply). of y (changes ++ client_put (entry y) ∷ [])) answers
    ∙ ap (λ (cs : List Change). of e.reply (cs ++ client_put e ∷ [])) are
    ∙ ap (of e.reply) (same_blocks held (cells_of entries) entries e
    (λ object block. alike (cell.Block object block) refl))

-- ---- the history

pub history_grows : HistoriesGrowByRecords
history_grows view entries e = grow entries e
