-- What a server holds that boots, and its mark.
use Rattle.std.proofs.Common.{◌≡◌, ◌+◌, ◌<◌, ◌^◌, ℕ, Bool, true, false, List, [], ◌∷◌, length, max, Option, None, Some, refl, ap, sym, subst, ◌∙◌, inl, inr, arith, true≢false, if◌then◌else◌}
use Rattle.std.specs.Prelude.{IfSome, IsSome, option_map, map, ◌&&◌}
use Rattle.event_record.specs.Record.{entry_of}
use Rattle.event_record.specs.declared.record.RecordFields.{RecordFields}
use Rattle.file_tree.specs.Book.{Entry}
use Rattle.group_rules.specs.Effects.{booted, empty_log, first_mark as first_mark_of, lengthened, load_tests, lost_log, rested, resting}
use Rattle.group_rules.specs.Limits.{can_have, is_log, is_outside}
use Rattle.group_rules.specs.Names.{place_of}
use Rattle.group_rules.specs.Places.{Place, all_of, is_p2}
use Rattle.group_rules.specs.State.{Empty, Held, Log, Lost, Mark, Saved, Server, longest_of}
use Rattle.harp_types.specs.Limits.{first_promise}
use Rattle.harp_types.specs.declared.server.ServerId.{ServerId}
use Rattle.harp_types.specs.declared.server.ServerId.TheVariants as id
use Rattle.harp_types.specs.declared.state.Role.{Role as Part}
use Rattle.harp_types.specs.declared.state.Role.TheVariants as part
use Rattle.harp_cells.specs.Effect.{Cells}
use Rattle.harp_store.specs.Disk.{Moments, after_step, cells_told, reads}
use Rattle.harp_store.specs.Mark.{MarkFields, SavedNumbers, first_mark}
use Rattle.idle_log.proofs.Booting.{rests_held}
use Rattle.idle_log.specs.Boots.{rests, role_of as role_booted, saved_of, takes_saved}
use Rattle.idle_log.specs.Kept.{held_in, lb_in, log_in}
use Rattle.idle_log.specs.declared.kept.Kept.{Kept}
use Rattle.idle_log.specs.declared.kept.Kept.TheVariants as kept
use Rattle.node.specs.Boot.{HasBase, HoldSaved, HoldWhole, after_boot, boot_mark, booted_disk, booted_stock, booted_without, has_boot_mark, mark_before}
use Rattle.node.specs.Node.{NodeValue, mark_with, rested_with, saved_with, server}
use Rattle.node.specs.State.{role_of}
use Rattle.node.specs.Stock.{Stock, stock, stock_kept}
use Rattle.power_save.specs.Entries.{HoldEntries}
use Rattle.power_save.proofs.Records.{same_log}
use Rattle.power_save.specs.Saved.{HasNumbers, HoldRecords, IsNotSaved}
use Rattle.promise.specs.Promise.{HorizonValue}
use Rattle.volatile_log.specs.Log.{IsLog, LogValue, top}

-- ---- which saved logs are taken

pub same_role : (r : Part) → role_of r ≡ role_booted r
same_role (part.Leads s) = refl
same_role (part.Follows s) = refl
same_role part.Outside = refl

-- the role that code reads, in either spelling
pub same_role_of : (r a : Part) → a ≡ r → role_of r ≡ role_booted a
same_role_of r a e = same_role r ∙ ap role_booted (sym e)

first_fails : (b : Bool) (bs : List Bool) → b ≡ false → all_of (b ∷ bs) ≡ false
unfolding all_of
first_fails true bs e = cc
first_fails false bs e = refl

rest_fails : (b : Bool) (bs : List Bool) → all_of bs ≡ false → all_of (b ∷ bs) ≡ false
unfolding all_of
rest_fails true bs e = e
rest_fails false bs e = refl

-- none by a role that no choice gives
pub no_role : (q : Place) (m : Mark Entry) (saved : Option (Saved Entry))
    → can_have q m.role ≡ false
    → takes_saved q m saved ≡ false
no_role q m None e = refl
no_role q m (Some v) e = first_fails (can_have q m.role) (load_tests m.lb v) e

-- none that the disk hasn't
pub no_log : (q : Place) (m : Mark Entry) (items : List Entry) (numbers : Option SavedNumbers)
    → IfSome numbers (λ v. all_of (load_tests m.lb (saved_with items v)) ≡ false)
    → takes_saved q m (option_map (saved_with items) numbers) ≡ false
no_log q m items None h = refl
no_log q m items (Some v) h =
    rest_fails (can_have q m.role) (load_tests m.lb (saved_with items v)) h

-- a fact of each saved log that cells hold is one of the mark's
pub of_saved : (P : Saved Entry → Type 0) (cells : Cells) (mark : MarkFields) (items : List Entry)
    (numbers : Option SavedNumbers)
    → ((saved : Saved Entry) → HoldEntries cells mark saved → P saved)
    → IfSome numbers (λ v. HoldEntries cells mark (saved_with items v))
    → IfSome numbers (λ v. P (saved_with items v))
of_saved P cells mark items None f h = tt
of_saved P cells mark items (Some v) f h = f (saved_with items v) h

-- ---- the LB of a server that booted

by_bool : (b : Bool) (x y : Server Entry) (n : ℕ) → x.lb ≡ n → y.lb ≡ n
    → (if b then x else y).lb ≡ n
by_bool true x y n h k = h
by_bool false x y n h k = k

-- without a saved log it is the mark's
pub lb_without : (q : Place) (m : Mark Entry) (k : Kept)
    → rested q 0 0 (record m { saved = None }) ≡ rests 0 0 (record m { saved = None }) k
    → lb_in m.lb k ≡ m.lb
lb_without q m k boots =
    sym (ap (λ (s : Server Entry). s.lb) boots)
    ∙ by_bool (is_p2 q && is_outside m.role)
    (resting 0 0 (record m { saved = None }) Empty (empty_log m.lb))
    (resting 0 0 (record m { saved = None }) Lost (lost_log m.lb)) m.lb refl refl

-- and with one at server 2 the base
pub lb_with : (q : Place) (m : Mark Entry) (log : LogValue) (k : Kept) → IsLog log
    → can_have q m.role ≡ true → log.lb ≡ m.lb → m.saved ≡ Some (saved_of log)
    → rested q 0 0 m ≡ rests 0 0 m k → lb_in m.lb k ≡ (if is_p2 q then log.base else m.lb)
lb_with q m log k order can low saved boots =
    ap (λ (s : Server Entry). s.lb) (sym boots
    ∙ rests_held q 0 0 m log (if is_p2 q then log.base else m.lb) order can low saved refl)

-- the machine's saved log of the numbers by which a log was loaded
numbers_give : (log : LogValue) (numbers : Option SavedNumbers) → IsSome numbers
    → ((s : SavedNumbers) → numbers ≡ Some s
    → (log.base ≡ s.base) × (log.cp ≡ s.cp) × (top log ≡ s.top))
    → option_map (saved_with (map entry_of log.records)) numbers ≡ Some (saved_of log)
numbers_give log None there h = cc
numbers_give log (Some s) there h =
    ap (λ (n : ℕ). Some (record { base = n; cp = s.cp; items = map entry_of log.records }))
    (sym (h s refl).0)
    ∙ ap (λ (n : ℕ). Some (record { base = log.base; cp = n; items = map entry_of log.records }))
    (sym (h s refl).1)

pub was_saved : (log : LogValue) (mark : MarkFields) → HasNumbers log mark
    → (mark_with (map entry_of log.records) mark).saved ≡ Some (saved_of log)
was_saved log mark h = numbers_give log mark.saved h.saved h.numbers

low_below : (b : Bool) (log : LogValue) (n : ℕ) → IsLog log → log.lb ≡ n
    → (if b then log.base else n) < 2 ^ 62
low_below true log n h e = omega (arith, h.base, h.lb, h.ap, h.cp, h.top)
low_below false log n h e = omega (arith, e, h.lb, h.ap, h.cp, h.top)

low_same : (b : Bool) (log : LogValue) (n : ℕ) (numbers : Option SavedNumbers) → IsSome numbers
    → ((s : SavedNumbers) → numbers ≡ Some s
    → (log.base ≡ s.base) × (log.cp ≡ s.cp) × (top log ≡ s.top))
    → (b ≡ true → IfSome numbers (λ v. v.base ≡ n)) → (if b then log.base else n) ≡ n
low_same true log n None there h at = cc
low_same true log n (Some s) there h at = (h s refl).0 ∙ at refl
low_same false log n numbers there h at = refl

-- a loaded log keeps its LB below the limit
pub loaded_below : (q : Place) (mark : MarkFields) (log : LogValue) (k : Kept) → IsLog log
    → can_have q (role_of mark.role) ≡ true → HasNumbers log mark
    → rested q 0 0 (mark_with (map entry_of log.records) mark)
    ≡ rests 0 0 (mark_with (map entry_of log.records) mark) k → lb_in mark.lb k < 2 ^ 62
loaded_below q mark log k order can h boots =
    let m = mark_with (map entry_of log.records) mark in
    let is = lb_with q m log k order can h.synced (was_saved log mark h) boots in
    subst (λ (n : ℕ). n < 2 ^ 62) (sym is) (low_below (is_p2 q) log mark.lb order h.synced)

-- which is the mark's, where server 2 has that at the base
pub loaded_at : (q : Place) (mark : MarkFields) (log : LogValue) (k : Kept) → IsLog log
    → can_have q (role_of mark.role) ≡ true → HasNumbers log mark → HasBase q mark
    → rested q 0 0 (mark_with (map entry_of log.records) mark)
    ≡ rests 0 0 (mark_with (map entry_of log.records) mark) k → lb_in mark.lb k ≡ mark.lb
loaded_at q mark log k order can h at boots =
    let m = mark_with (map entry_of log.records) mark in
    lb_with q m log k order can h.synced (was_saved log mark h) boots
    ∙ low_same (is_p2 q) log mark.lb mark.saved h.saved h.numbers at

-- ---- the records of a log that was loaded

-- they are those that the cells hold whole
held_whole : (cells : Cells) (log : LogValue) (saved : List RecordFields)
    (numbers : Option SavedNumbers) → IsSome numbers
    → ((s : SavedNumbers) → numbers ≡ Some s
    → (log.base ≡ s.base) × (log.cp ≡ s.cp) × (top log ≡ s.top))
    → ((s : SavedNumbers) → numbers ≡ Some s → HoldRecords s.ring cells log.base log.records)
    → IfSome numbers (λ v. (v.top ≡ v.base + length saved)
    × HoldRecords v.ring cells v.base saved) → log.records ≡ saved
held_whole cells log saved None there h held whole = cc
held_whole cells log saved (Some s) there h held whole =
    let base = (h s refl).0 in
    let high = (h s refl).2 in
    same_log s.ring cells s.base log.records saved (omega (arith, base, high, whole.0))
    (subst (λ (n : ℕ). HoldRecords s.ring cells n log.records) base (held s refl)) whole.1

pub loaded_whole : (cells : Cells) (mark : MarkFields) (log : LogValue) (saved : List RecordFields)
    (k : Kept) → HasNumbers log mark
    → ((s : SavedNumbers) → mark.saved ≡ Some s → HoldRecords s.ring cells log.base log.records)
    → HoldWhole cells mark saved → held_in k ≡ Log → (log_in k).records ≡ log.records
    → (log_in k).records ≡ (if is_log (held_in k) then saved else [])
loaded_whole cells mark log saved k h held whole is records =
    records ∙ held_whole cells log saved mark.saved h.saved h.numbers held whole
    ∙ ap (λ (x : Held). if is_log x then saved else []) (sym is)

pub unloaded_whole : (saved records : List RecordFields) (held : Held) → records ≡ []
    → is_log held ≡ false → records ≡ (if is_log held then saved else [])
unloaded_whole saved records held none is = none
    ∙ ap (λ (b : Bool). if b then saved else []) (sym is)

-- and so the server has them that rests with it
pub booted_whole : (n : NodeValue) (mark : MarkFields) (horizon : HorizonValue) (k : Kept)
    (saved : List RecordFields) → stock n ≡ stock_kept k []
    → server n [] ≡ rested_with [] mark horizon k
    → (log_in k).records ≡ (if is_log (held_in k) then saved else [])
    → stock n ≡ booted_stock n.plain saved
booted_whole n mark horizon k saved rests is records =
    rests
    ∙ ap (λ (rs : List RecordFields). let x : Stock = record {
      log = rs;
      pulled = [];
      waits = [];
    } in x) (records
    ∙ ap (λ (s : Server Entry). if is_log s.held then saved else []) (sym is))

-- ---- what rests after a boot

-- the LB of the mark is that of what it keeps
pub rests_as : (items : List Entry) (mark : MarkFields) (clock delta : ℕ) (k : Kept)
    → rested_with items (record mark { lb = lb_in mark.lb k })
    (record { until = clock + longest_of mark.longest; delta = delta }) k
    ≡ rests clock delta (mark_with items mark) k
rests_as items mark clock delta (kept.Held log) = refl
rests_as items mark clock delta (kept.Lost low) = refl
rests_as items mark clock delta (kept.Empty e) = refl

pub rests_from : (items : List Entry) (mark low : MarkFields) (horizon : HorizonValue)
    (clock delta longest : ℕ) (k : Kept) → low ≡ record mark { lb = lb_in mark.lb k }
    → horizon ≡ record { until = clock + longest; delta = delta }
    → longest ≡ longest_of mark.longest
    → rested_with items low horizon k ≡ rests clock delta (mark_with items mark) k
rests_from items mark low horizon clock delta longest k lowers until long =
    ap (λ (m : MarkFields). rested_with items m horizon k) lowers
    ∙ ap (λ (h : HorizonValue). rested_with items (record mark { lb = lb_in mark.lb k }) h k)
    (until ∙ ap (λ (n : ℕ). record { until = clock + n; delta = delta }) long)
    ∙ rests_as items mark clock delta k

-- ---- from the mark that the disk has

-- the first mark is the machine's
first_is : (me : ServerId) (delta longest : ℕ) (items : List Entry) → items ≡ []
    → max delta longest ≡ longest
    → mark_with items (first_mark me longest)
    ≡ lengthened delta (first_mark_of Entry longest (place_of me))
first_is id.Zero delta longest items none same =
    ap (λ (x : List Entry). mark_with x (first_mark id.Zero longest)) none
    ∙ ap (λ (n : ℕ). record (mark_with [] (first_mark id.Zero longest)) { longest = Some n })
    (sym same)
first_is id.One delta longest items none same =
    ap (λ (x : List Entry). mark_with x (first_mark id.One longest)) none
    ∙ ap (λ (n : ℕ). record (mark_with [] (first_mark id.One longest)) { longest = Some n })
    (sym same)
first_is id.Two delta longest items none same =
    ap (λ (x : List Entry). mark_with x (first_mark id.Two longest)) none
    ∙ ap (λ (n : ℕ). record (mark_with [] (first_mark id.Two longest)) { longest = Some n })
    (sym same)

none_left : (items : List Entry) (a b : SavedNumbers) → Some a ≡ Some b → a.top ≡ 0
    → b.top ≡ length items → items ≡ []
none_left [] a b e low high = refl
none_left (x ∷ xs) a b e low high =
    let same : a ≡ b = cc in
    absurd (omega (arith, ap (λ (s : SavedNumbers). s.top) same, low, high))

no_items : (me : ServerId) (longest : ℕ) (cells : Cells) (items : List Entry)
    → HoldSaved cells (first_mark me longest) items → items ≡ []
no_items me longest cells items h = none_left items _ _ h.numbers refl (omega arith)

pub boots_from : (me : ServerId) (clock delta : ℕ) (cells : Cells) (items : List Entry)
    (old : Option MarkFields) → HoldSaved cells (boot_mark me delta old) items
    → rested (place_of me) clock delta (mark_with items (boot_mark me delta old))
    ≡ booted (place_of me) clock delta (mark_before me delta items old)
boots_from me clock delta cells items None h =
    ap (λ (m : Mark Entry). rested (place_of me) clock delta m)
    (first_is me delta (max delta first_promise) items
    (no_items me (max delta first_promise) cells items h) (omega arith))
boots_from me clock delta cells items (Some mark) h = refl

pub boots_as : (me : ServerId) (clock delta : ℕ) (cells : Cells) (items : List Entry)
    (old : Option MarkFields) (mark : MarkFields) (k : Kept) → mark ≡ boot_mark me delta old
    → HoldSaved cells (boot_mark me delta old) items
    → (HoldSaved cells mark items → rested (place_of me) clock delta (mark_with items mark)
    ≡ rests clock delta (mark_with items mark) k)
    → rests clock delta (mark_with items mark) k
    ≡ booted (place_of me) clock delta (mark_before me delta items old)
boots_as me clock delta cells items old mark k is held found =
    sym (found (subst (λ (m : MarkFields). HoldSaved cells m items) (sym is) held))
    ∙ ap (λ (m : MarkFields). rested (place_of me) clock delta (mark_with items m)) is
    ∙ boots_from me clock delta cells items old held

-- the first mark's saved log is whole
first_whole : (me : ServerId) (longest : ℕ) (cells : Cells)
    → IsNotSaved cells (first_mark me longest) → ⊥
first_whole me longest cells (inl e) = absurd (true≢false e)
first_whole me longest cells (inr (index, above, below, lacks)) = omega (arith, above, below)

pub lost_as : (me : ServerId) (clock delta : ℕ) (cells : Cells) (items : List Entry)
    (old : Option MarkFields) (mark : MarkFields) (k : Kept) → mark ≡ boot_mark me delta old
    → IsNotSaved cells (boot_mark me delta old)
    → (IsNotSaved cells mark
    → rested (place_of me) clock delta (mark_with items (record mark { saved = None }))
    ≡ rests clock delta (mark_with items (record mark { saved = None })) k)
    → rests clock delta (mark_with items mark) k
    ≡ booted_without (place_of me) clock delta (mark_before me delta items old)
lost_as me clock delta cells items None mark k is lacks found =
    absurd (first_whole me (max delta first_promise) cells lacks)
lost_as me clock delta cells items (Some before) mark k is lacks found =
    ap (λ (s : Server Entry). record s { saved = (mark_with items mark).saved })
    (sym (found (subst (IsNotSaved cells) (sym is) lacks)))
    ∙ ap (λ (m : MarkFields). record (rested (place_of me) clock delta
    (mark_with items (record m { saved = None }))) { saved = (mark_with items m).saved }) is

-- ---- the disk

stay_by : (me : ServerId) (delta : ℕ) (h : Moments) (b : Bool)
    → cells_told (if b then Some h else after_step (booted_disk me delta) (Some h))
    ≡ Some (reads h.now)
unfolding reads
stay_by me delta h true = refl
stay_by me delta h false = refl

-- a boot changes no cell
pub cells_stay : (me : ServerId) (delta : ℕ) (old new : Option Moments) (h : Moments)
    → new ≡ after_boot me delta old → old ≡ Some h → cells_told new ≡ Some (reads h.now)
cells_stay me delta old new h is told =
    ap cells_told (is ∙ ap (after_boot me delta) told)
    ∙ stay_by me delta h (has_boot_mark delta h.now.mark)
