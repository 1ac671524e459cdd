-- The records of a server's log are numbered, and those above CP that are new to the book are the
-- ones that the book lacks.
use Rattle.std.proofs.Common.{◌≡◌, ℕ, ◌+◌, ◌-◌, ◌<◌, ◌≤◌, List, [], length, take, drop, Some, slice_get, sym, ap, ◌∙◌, subst, arith}
use Rattle.std.proofs.lemmas.List.{drop-drop, drop-take, length-take-le, take_all}
use Rattle.std.proofs.lemmas.Option.{slice_get_within}
use Rattle.file_tree.specs.Book.{Entry}
use Rattle.world_lines.specs.Book.{new_updates}
use Rattle.group_rules.specs.Moves.{new_entries}
use Rattle.group_rules.specs.Places.{Place}
use Rattle.group_rules.specs.State.{Group, Log, Server, top}
use Rattle.group_safety.proofs.BookLists.{from_at, from_take, next_is, only_updates}
use Rattle.group_safety.proofs.Moving.{Good, its}
use Rattle.world_laws.proofs.Numbered.{AreNumbered, new_are, numbered_drop, numbered_take}

-- the records of a log are the updates after its base
log_numbered : {g : Group Entry} {q : Place} {s : Server Entry} → Good g q s → s.held ≡ Log
    → AreNumbered s.base s.items
log_numbered {g = g} {q = q} {s = s} h held k e is =
    let log = (its h).logs.log held in
    let list = (g.page s.accepted).list in
    let part : slice_get s.items k ≡ slice_get list (s.base + k) =
    log.part k (slice_get_within s.items k e is) in
    let at' : slice_get list (s.base + k) ≡ Some e = sym part ∙ is in
    let within : s.base + k < length list = slice_get_within list (s.base + k) e at' in
    let all = h.beside.books.list s.accepted (its h).views.formed in
    let one = from_at [] list (s.base + k) e all at' in
    let front = take (s.base + k) list in
    let size : length front ≡ s.base + k =
    length-take-le (s.base + k) list (omega (arith, within)) in
    let next = next_is front e (only_updates [] front (from_take (s.base + k) [] list all)) one.0
    one.1 in
    omega (arith, next.index, size)

-- those above CP are the updates after CP
above_numbered : {g : Group Entry} {q : Place} {s : Server Entry} → Good g q s → s.held ≡ Log
    → AreNumbered s.cp (drop (s.cp - s.base) s.items)
above_numbered {s = s} h held =
    let base = ((its h).logs.log held).base_cp in
    let whole : s.base + (s.cp - s.base) ≡ s.cp = omega (arith, base) in
    subst (λ n. AreNumbered n (drop (s.cp - s.base) s.items)) whole
    (numbered_drop (s.cp - s.base) s.base s.items (log_numbered h held))

-- of the records up to the n-th, those after the c-th, of a log of the records after the base
from_cp : {E : Type 0} (base cp n c : ℕ) (items : List E) → base ≤ cp → cp ≤ n → cp ≤ c
    → drop (c - base) (take (n - base) items)
    ≡ drop (c - cp) (take (n - cp) (drop (cp - base) items))
from_cp base cp n c items a b d =
    let dropped : c - base ≡ (cp - base) + (c - cp) = omega (arith, a, d) in
    let taken : n - base ≡ (cp - base) + (n - cp) = omega (arith, a, b) in
    ap (λ k. drop k (take (n - base) items)) dropped
    ∙ ap (λ k. drop ((cp - base) + (c - cp)) (take k items)) taken
    ∙ sym (drop-drop (c - cp) (cp - base) (take ((cp - base) + (n - cp)) items))
    ∙ ap (drop (c - cp)) (drop-take (cp - base) (n - cp) items)

-- up to the n-th record, from CP on
pub new_up_to : (g : Group Entry) (q : Place) (s : Server Entry) (n : ℕ) → Good g q s
    → s.held ≡ Log → s.cp ≤ n
    → new_entries g.committed s.base s.items n
    ≡ new_updates (length g.committed) (take (n - s.cp) (drop (s.cp - s.base) s.items))
new_up_to g q s n h held forward =
    let log = (its h).logs.log held in
    let c = length g.committed in
    from_cp s.base s.cp n c s.items log.base_cp forward log.sure.in_book
    ∙ sym (new_are c s.cp (take (n - s.cp) (drop (s.cp - s.base) s.items)) log.sure.in_book
    (numbered_take (n - s.cp) s.cp (drop (s.cp - s.base) s.items) (above_numbered h held)))

-- up to top
pub new_of_all : (g : Group Entry) (q : Place) (s : Server Entry) → Good g q s → s.held ≡ Log
    → new_entries g.committed s.base s.items (top s)
    ≡ new_updates (length g.committed) (drop (s.cp - s.base) s.items)
new_of_all g q s h held =
    let log = (its h).logs.log held in
    let c = length g.committed in
    let a = log.base_cp in
    let b = log.sure.in_book in
    let all : take (top s - s.base) s.items ≡ s.items =
    take_all (top s - s.base) s.items (omega arith) in
    let dropped : c - s.base ≡ (s.cp - s.base) + (c - s.cp) = omega (arith, a, b) in
    ap (drop (c - s.base)) all
    ∙ ap (λ k. drop k s.items) dropped
    ∙ sym (drop-drop (c - s.cp) (s.cp - s.base) s.items)
    ∙ sym (new_are c s.cp (drop (s.cp - s.base) s.items) b (above_numbered h held))
