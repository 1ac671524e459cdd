-- What a server holds of the list of updates, as a server of the group's machine.
use Rattle.std.specs.Prelude.{◌≡◌, ℕ, ◌+◌, true, List, [], length, map}
use Rattle.event_record.specs.Record.{entry_of}
use Rattle.file_tree.specs.Book.{Entry}
use Rattle.group_rules.specs.Names.{place_of}
use Rattle.group_rules.specs.Places.{Place, is_p2}
use Rattle.group_rules.specs.State.{Empty, Held, Log, Lost, Plan, Server}
use Rattle.idle_log.specs.declared.form.Form.{Form}
use Rattle.idle_log.specs.declared.kept.Kept.{Kept}
use Rattle.idle_log.specs.declared.kept.Kept.TheVariants as kept
use Rattle.node_outputs.specs.Messages.{pair_heard}
use Rattle.volatile_log.specs.Log.{LogValue}

abbrev pub held_in : Kept → Held
held_in (kept.Held log) = Log
held_in (kept.Lost lb) = Lost
held_in (kept.Empty e) = Empty

-- its numbers and records. Each number of a lost log is its LB, and of none at all 0
abbrev pub log_in : Kept → LogValue
log_in (kept.Held log) = log
log_in (kept.Lost lb) = record { base = lb; lb = lb; ap = lb; cp = lb; records = [] }
log_in (kept.Empty e) = record { base = 0; lb = 0; ap = 0; cp = 0; records = [] }

abbrev pub base_in : Kept → ℕ
base_in k = (log_in k).base

abbrev pub ap_in : Kept → ℕ
ap_in k = (log_in k).ap

abbrev pub cp_in : Kept → ℕ
cp_in k = (log_in k).cp

abbrev pub items_in : Kept → List Entry
items_in k = map entry_of (log_in k).records

abbrev pub top_in : Kept → ℕ
top_in k = base_in k + length (items_in k)

-- the LB where the mark's is this one: a log has its own
abbrev pub lb_in : ℕ → Kept → ℕ
lb_in lb (kept.Held log) = log.lb
lb_in lb (kept.Lost n) = n
lb_in lb (kept.Empty e) = lb

-- the server that holds this
abbrev pub with_kept : Server Entry → Kept → Server Entry
with_kept s k = record s {
  held = held_in k;
  lb = lb_in s.lb k;
  base = base_in k;
  ap = ap_in k;
  cp = cp_in k;
  items = items_in k;
}

-- at server 2, which has no disk for the tree, LB and AP of a log stand at the base
abbrev pub AtBase : Place → LogValue → Type 0
AtBase q log = is_p2 q ≡ true → (log.lb ≡ log.base) × (log.ap ≡ log.base)

-- and nothing but server 2 stands outside
abbrev pub IsPlaced : Place → Kept → Type 0
IsPlaced q (kept.Held log) = AtBase q log
IsPlaced q (kept.Lost lb) = Unit {0}
IsPlaced q (kept.Empty e) = is_p2 q ≡ true

-- the machine's plan of a Form
abbrev pub plan_of : Form → Plan
plan_of f = record {
  storers = pair_heard f.storers;
  source = place_of f.source;
  base = f.base;
  cp = f.cp;
  start = f.start;
  horizon = f.horizon;
}
