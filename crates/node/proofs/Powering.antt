-- The mark that a power failure leaves.
use Rattle.std.proofs.Common.{◌≡◌, ℕ, ◌+◌, Bool, true, false, List, [], length, Option, None, Some, refl, ap, sym, ◌∙◌, if◌then◌else◌}
use Rattle.std.proofs.lemmas.List.{length-map}
use Rattle.event_record.specs.Record.{entry_of}
use Rattle.file_tree.specs.Book.{Entry}
use Rattle.group_rules.proofs.Tests.{if_not}
use Rattle.group_rules.specs.Effects.{down}
use Rattle.group_rules.specs.Limits.{is_log}
use Rattle.group_rules.specs.Moves.{Saving, act}
use Rattle.group_rules.specs.Names.{place_of}
use Rattle.group_rules.specs.Places.{Place, is_p2}
use Rattle.group_rules.specs.State.{Empty, Held, Log, Lost, Mark, Saved, Server, mark_of}
use Rattle.group_rules.specs.Step.{saves}
use Rattle.harp_types.specs.declared.server.ServerId.{ServerId}
use Rattle.harp_store.specs.Mark.{MarkFields, SavedNumbers}
use Rattle.idle_log.specs.Kept.{ap_in as kept_ap, base_in as kept_base, cp_in as kept_cp, held_in as kept_held, items_in as kept_items}
use Rattle.idle_log.specs.declared.kept.Kept.{Kept}
use Rattle.idle_log.specs.declared.kept.Kept.TheVariants as kept
use Rattle.node.specs.Node.{NodeValue, mark_with, saved_with, server, value}
use Rattle.node.specs.Power.{mark_left, saved_log, saves_log, saving_mark}
use Rattle.node.specs.State.{IsKept, ap_in, base_in, cp_in, held_in, items_in}
use Rattle.node.specs.declared.state.State.{State}
use Rattle.node.specs.declared.state.Task.{Task}
use Rattle.power_save.specs.Saved.{saved_mark}
use Rattle.promise.specs.Promise.{HorizonValue}
use Rattle.volatile_log.specs.Log.{LogValue, room}

-- ---- at server 2 the LB of a mark is the AP of its log

kept_low : (me : Place) (mark : MarkFields) (k : Kept) → IsKept me mark k
    → is_log (kept_held k) ≡ true → is_p2 me ≡ true → kept_ap k ≡ mark.lb
kept_low me mark (kept.Held log) h held two = (h.placed two).1 ∙ sym (h.placed two).0 ∙ h.lb
kept_low me mark (kept.Lost low) h held two = cc
kept_low me mark (kept.Empty e) h held two = cc

-- ---- the mark that is left

never_saves : (held : Held) (v : Saved Entry) → saves held (Some v) ≡ false
never_saves Log v = refl
never_saves Lost v = refl
never_saves Empty v = refl

saves_logs : (held : Held) → saves held None ≡ is_log held
saves_logs Log = refl
saves_logs Lost = refl
saves_logs Empty = refl

left_by : (b : Bool) (x y : Mark Entry) (s t : Server Entry) → (b ≡ true → x ≡ mark_of s) → y
    ≡ mark_of t
    → (if b then x else y) ≡ mark_of (down (mark_of (if b then s else t)))
left_by true x y s t h k = h refl
left_by false x y s t h k = k

lower : (b : Bool) (m n : ℕ) → (b ≡ true → n ≡ m) → n ≡ (if b then m else n)
lower true m n h = h refl
lower false m n h = refl

left_from : (me : ServerId) (mark : MarkFields) (numbers : Option SavedNumbers)
    (horizon : HorizonValue)
    (served : ℕ) (duty : Task) (s : State) (items : List Entry) (clock : ℕ)
    → (is_log (held_in s) ≡ true → is_p2 (place_of me) ≡ true → ap_in s ≡ mark.lb)
    → let n = value me (record mark { saved = numbers }) horizon served duty s in
    mark_left n items ≡ mark_of (act n.me clock (server n items) Saving)
left_from me mark (Some v) horizon served duty s items clock low =
    let n = value me (record mark { saved = Some v }) horizon served duty s in
    if_not (saves_log n) (mark_with n.plain.items (saving_mark n)) (mark_with items n.mark)
    (never_saves (held_in s) (saved_with [] v))
left_from me mark None horizon served duty s items clock low =
    let n = value me (record mark { saved = None }) horizon served duty s in
    ap (λ (b : Bool). if b then mark_with n.plain.items (saving_mark n) else mark_with items n.mark)
    (saves_logs (held_in s))
    ∙ left_by (is_log (held_in s)) (mark_with n.plain.items (saving_mark n))
    (mark_with items n.mark)
    (record (server n items) {
      lb = if is_p2 (place_of me) then mark.lb else ap_in s;
      saved = Some (saved_log n);
    }) (server n items)
    (λ held. ap (λ (l : ℕ). record (mark_with n.plain.items (saving_mark n)) { lb = l })
    (lower (is_p2 (place_of me)) mark.lb (ap_in s) (low held))) refl

pub left_is : (me : ServerId) (mark : MarkFields) (horizon : HorizonValue) (served : ℕ)
    (duty : Task)
    (s : State) (k : Kept) (items : List Entry) (clock : ℕ) → IsKept (place_of me) mark k
    → kept_held k ≡ held_in s → kept_ap k ≡ ap_in s
    → let n = value me mark horizon served duty s in
    mark_left n items ≡ mark_of (act n.me clock (server n items) Saving)
left_is me mark horizon served duty s k items clock keeps same applied =
    left_from me mark mark.saved horizon served duty s items clock
    (λ held two. sym applied ∙ kept_low (place_of me) mark k keeps (ap is_log same ∙ held) two)

-- ---- the mark that is written

abbrev mark_at : MarkFields → (base low cp high : ℕ) → MarkFields
mark_at mark base low cp high = record mark {
  lb = low;
  saved = Some (record { base = base; cp = cp; top = high; ring = room });
}

-- a save of the log that a server keeps writes its mark
pub saving_is : (me : ServerId) (mark : MarkFields) (horizon : HorizonValue) (served : ℕ)
    (duty : Task) (s : State) (k : Kept) (log : LogValue) (n : NodeValue)
    → value me mark horizon served duty s ≡ n → k ≡ kept.Held log → kept_base k ≡ base_in s
    → kept_ap k ≡ ap_in s → kept_cp k ≡ cp_in s → kept_items k ≡ items_in s
    → saved_mark room log mark ≡ saving_mark n
saving_is me mark horizon served duty s k log n at is base low cp items =
    let bases : log.base ≡ base_in s = sym (ap kept_base is) ∙ base in
    let lows : log.ap ≡ ap_in s = sym (ap kept_ap is) ∙ low in
    let cps : log.cp ≡ cp_in s = sym (ap kept_cp is) ∙ cp in
    let count : length log.records ≡ length (items_in s) =
    sym (length-map log.records entry_of) ∙ ap length (sym (ap kept_items is) ∙ items) in
    ap (λ (b : ℕ). mark_at mark b log.ap log.cp (b + length log.records)) bases
    ∙ ap (λ (a : ℕ). mark_at mark (base_in s) a log.cp (base_in s + length log.records)) lows
    ∙ ap (λ (c : ℕ). mark_at mark (base_in s) (ap_in s) c (base_in s + length log.records)) cps
    ∙ ap (λ (l : ℕ). mark_at mark (base_in s) (ap_in s) (cp_in s) (base_in s + l)) count
    ∙ ap saving_mark at
