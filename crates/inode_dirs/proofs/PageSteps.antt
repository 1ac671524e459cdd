-- Pages that are filled entry by entry.
use Rattle.std.proofs.Common.{◌≡◌, ℕ, zero, suc, ◌+◌, ◌-◌, ◌<◌, ◌≤◌, Bool, true, false, List, [], ◌∷◌, ◌++◌, length}
use Rattle.std.proofs.Common.{get_or, drop, Option, Some, None, refl, sym, ap, ◌∙◌, append_assoc, add-zero, arith}
use Rattle.std.proofs.Common.{inl, inr}
use Rattle.std.proofs.lemmas.List.{at_drop_more, at_drop_all, append-nil}
use Rattle.std.proofs.lemmas.Bool.{cases_lt}
use Rattle.std.proofs.lemmas.Bool.Decides.{nat_tests}
use Rattle.harp_types.specs.declared.reply.DirEntry.{DirEntry}
use Rattle.file_tree.specs.declared.object.Slot.{Slot}
use Rattle.file_tree.specs.Tree.{Slots}
use Rattle.file_tree.specs.Outcome.{entry_at, entries_from, entry_size, page_of}
use Rattle.inode_dirs.specs.Pages.{entry_list, page_after}

page_skip : (above room : ℕ) (e : DirEntry) (es : List DirEntry) → e.cookie ≤ above
    → page_of above room (e ∷ es) ≡ page_of above room es
unfolding page_of
page_skip above room e es le = grind (arith, nat_tests)

page_take : (above room : ℕ) (e : DirEntry) (es : List DirEntry) → above < e.cookie
    → entry_size e ≤ room
    → page_of above room (e ∷ es) ≡ page_after (e ∷ []) above (room - entry_size e) es
unfolding page_of
page_take above room e es lt fits = grind (arith, nat_tests)

pub page_stop : (above room : ℕ) (e : DirEntry) (es : List DirEntry) → above < e.cookie
    → room < entry_size e
    → page_of above room (e ∷ es) ≡ ([], false)
unfolding page_of
page_stop above room e es lt full = grind (arith, nat_tests)

pub after_skip : (front : List DirEntry) (above room : ℕ) (e : DirEntry) (es : List DirEntry)
    → e.cookie ≤ above
    → page_after front above room (e ∷ es) ≡ page_after front above room es
after_skip front above room e es le = rw (page_skip above room e es le) refl

pub after_take : (front : List DirEntry) (above room : ℕ) (e : DirEntry) (es : List DirEntry)
    → above < e.cookie
    → entry_size e ≤ room
    → page_after front above room (e ∷ es)
    ≡ page_after (front ++ e ∷ []) above (room - entry_size e) es
after_take front above room e es lt fits = rw (page_take above room e es lt fits, append_assoc) refl

pub after_stop : (front : List DirEntry) (above room : ℕ) (e : DirEntry) (es : List DirEntry)
    → above < e.cookie
    → room < entry_size e
    → page_after front above room (e ∷ es) ≡ (front, false)
after_stop front above room e es lt full = rw (page_stop above room e es lt full, append-nil) refl

pub ruleset offer_steps = (after_skip, after_take, after_stop)

-- ---- the slots below a cookie are skipped

at_skipped : (above room : ℕ) (c : ℕ) (s : Option Slot) (es : List DirEntry) → c ≤ above
    → page_of above room (entry_at c s ++ es) ≡ page_of above room es
at_skipped above room c None es le = refl
at_skipped above room c (Some s) es le =
    page_skip above room (record { fileid = s.number; name = s.name; cookie = c }) es le

slots_skipped : (c k above room : ℕ) (slots : Slots) → c + k ≤ above + 1
    → page_of above room (entries_from c slots)
    ≡ page_of above room (entries_from (c + k) (drop k slots))
unfolding entries_from
slots_skipped c zero above room slots le = rw add-zero refl
slots_skipped c (suc k) above room [] le = refl
slots_skipped c (suc k) above room (s ∷ slots) le =
    let e : c + suc k ≡ c + 1 + k = omega arith in
    at_skipped above room c s (entries_from (c + 1) slots) (omega (arith, le))
    ∙ rw e (slots_skipped (c + 1) k above room slots (omega (arith, le)))

-- the entries of the slots from one on
abbrev pub entries_at : ℕ → Slots → List DirEntry
entries_at i slots = entries_from (i + 3) (drop i slots)

pub after_skipped : (front : List DirEntry) (above room : ℕ) (slots : Slots)
    → page_after front above room (entries_at (above - 2) slots)
    ≡ page_after front above room (entries_from 3 slots)
after_skipped front above room slots =
    ap (λ (p : List DirEntry × Bool). (front ++ p.0, p.1)) (elim (cases_lt above 2) [
      | inl lt ↦ let z : above - 2 ≡ 0 = omega (arith, lt) in rw z refl
      | inr le ↦
          let e : above - 2 + 3 ≡ 3 + (above - 2) = omega (arith, le) in
          rw e (sym (slots_skipped 3 (above - 2) above room slots (omega (arith, le))))
    ])

-- ---- the slots above it

slot_first : (slots : Slots) (i : ℕ) → i < length slots
    → entries_at i slots ≡ entry_at (i + 3) (get_or slots i None) ++ entries_at (i + 1) slots
unfolding entries_from
slot_first slots i lt =
    let count : i + 1 + 3 ≡ i + 3 + 1 = omega arith in
    rw count (at_drop_more (entries_from (i + 3)) slots i None lt)

none_behind : (slots : Slots) (i : ℕ) → length slots ≤ i → entries_at i slots ≡ []
unfolding entries_from
none_behind slots i le = at_drop_all (entries_from (i + 3)) slots i le

pub after_slots : (front : List DirEntry) (above room : ℕ) (slots : Slots) (i : ℕ)
    → length slots ≤ i
    → page_after front above room (entries_at i slots) ≡ (front, true)
unfolding page_of
after_slots front above room slots i le = rw (none_behind slots i le, append-nil) refl

-- the next slot's entry is offered next
pub after_next : (front : List DirEntry) (above room : ℕ) (slots : Slots) (i : ℕ)
    (e : Option DirEntry)
    → i < length slots → entry_list e ≡ entry_at (i + 3) (get_or slots i None)
    → page_after front above room (entries_at i slots)
    ≡ page_after front above room (entry_list e ++ entries_at (i + 1) slots)
after_next front above room slots i e lt is =
    ap (page_after front above room)
    (slot_first slots i lt ∙ ap (λ (es : List DirEntry). es ++ entries_at (i + 1) slots) (sym is))
