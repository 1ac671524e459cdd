-- What a step sends carries the records of its view's list.
use Rattle.std.proofs.Common.{◌≡◌, ◌⊎◌, ℕ, zero, suc, ◌+◌, ◌-◌, ◌<◌, ◌≤◌, true, List, [], ◌∷◌, ◌++◌, length, map, take, Some, slice_get, slice_index_or, refl, sym, ap, ◌∙◌, subst, inl, inr, arith, le_refl, ⊎_elim}
use Rattle.std.specs.Prelude.{option_map}
use Rattle.std.proofs.lemmas.List.{length-map, length-take-le}
use Rattle.std.proofs.lemmas.Option.{slice_get-map, slice_get_within}
use Rattle.event_record.specs.Record.{entry_of}
use Rattle.event_record.specs.declared.record.RecordFields.{RecordFields}
use Rattle.file_tree.specs.Book.{Entry}
use Rattle.group_rules.specs.Moves.{Appending, Move, Sending, act, acts, moved, moved_by, packets_after}
use Rattle.group_rules.specs.Names.{number_of_view, view_of}
use Rattle.group_rules.specs.Places.{Place}
use Rattle.group_rules.specs.State.{Event, Give, Group, Message, Open, Packet, Server, top}
use Rattle.group_rules.specs.Step.{Comes, Does, Input, list_of, step_of}
use Rattle.group_safety.proofs.Adopting.{source_from}
use Rattle.group_safety.proofs.BookLists.{from_at, next_is, only_updates, from_take}
use Rattle.group_safety.proofs.Lists.{get_back, get_take}
use Rattle.group_safety.proofs.Moving.{Goes, goes_good, goes_grows, its}
use Rattle.group_safety.proofs.Safe.{good_of, input_goes, sent_known, whole_of}
use Rattle.group_safety.specs.Entered.{UpdatesFrom}
use Rattle.group_safety.specs.Facts.{BodyOk, PacketOk}
use Rattle.group_safety.specs.Laws.{PageGrows, Whole}
use Rattle.group_safety.specs.Words.{Agree, Each, In, IsJoining, Part}
use Rattle.harp_types.specs.View.{View}
use Rattle.tree_log.specs.Records.{cells_of, record_of}
use Rattle.node.specs.Stock.{Stock}
use Rattle.node_outputs.specs.Messages.{heard}
use Rattle.node_outputs.specs.Records.{carried}
use Rattle.record_changes.proofs.Histories.{as_long, fronts, grow}
use Rattle.record_changes.specs.Records.{history_of, record_changes}
use Rattle.world_laws.proofs.Lists.{agree_changes, take_agree}
use Rattle.world_laws.proofs.Right.{top_within}
use Rattle.world_laws.proofs.Told.{IsSource, Tells, TellsAll, TellsOf, deed_step_tells, message_step_tells}
use Rattle.idle_log.specs.Gives.{StandIn}
use Rattle.world_laws.specs.Sent.{DeedsSend, DeliveriesSend, SendsRight, at_hand}
use Rattle.world_laws.specs.Stocks.{AreOfList, Carries, HasStock}
use Rattle.tree_log.specs.TreeLog.{changes_in}
use Rattle.replica.specs.Asking.{recorded, recorded_by}
use Rattle.wire.specs.declared.message.Message.{Message as Wire}
use Rattle.wire.specs.declared.message.Message.TheVariants as wire

-- ---- lists

found : {A : Type 0} (xs : List A) (k : ℕ) → k < length xs → (x : A) × (slice_get xs k ≡ Some x)
found [] k l = absurd (omega arith)
found (x ∷ xs) zero l = (x, refl)
found (x ∷ xs) (suc k) l = found xs k (omega arith)

each_found : {A : Type 0} (P : A → Type 0) (xs : List A) (k : ℕ) (x : A) → Each P xs
    → slice_get xs k ≡ Some x → P x
each_found P [] k x h e = cc
each_found P (y ∷ ys) zero x h e = let same : y ≡ x = cc in subst P same h.0
each_found P (y ∷ ys) (suc k) x h e = each_found P ys k x h.1 e

each_in : {A : Type 0} (P : A → Type 0) (xs : List A) (x : A) → Each P xs → In xs x → P x
each_in P [] x h i = absurd i
each_in P (y ∷ ys) x h i = ⊎_elim (λ e. subst P e h.0) (λ j. each_in P ys x h.1 j) i

place_of : {A : Type 0} (xs : List A) (x : A) → In xs x → (k : ℕ) × (slice_get xs k ≡ Some x)
place_of [] x i = absurd i
place_of (y ∷ ys) x i = ⊎_elim (λ (e : y ≡ x). (0, ap (λ z. Some z) e))
    (λ j. let r = place_of ys x j in (suc r.0, r.1)) i

in_either : {A : Type 0} (xs ys : List A) (x : A) → In (xs ++ ys) x → In xs x ⊎ In ys x
in_either [] ys x i = inr i
in_either (z ∷ xs) ys x i = ⊎_elim (λ (e : z ≡ x). inl (inl e))
    (λ j. ⊎_elim (λ a. inl (inr a)) (λ b. inr b) (in_either xs ys x j)) i

each_by : {A : Type 0} (P : A → Type 0) (xs : List A)
    → ((k : ℕ) (x : A) → slice_get xs k ≡ Some x → P x) → Each P xs
each_by P [] h = tt
each_by P (x ∷ xs) h = (h 0 x refl, each_by P xs (λ k y e. h (suc k) y e))

read_at : {A : Type 0} (xs : List A) (k : ℕ) (x d : A) → slice_get xs k ≡ Some x
    → slice_index_or xs k d ≡ x
read_at [] k x d e = cc
read_at (y ∷ ys) zero x d e = let same : y ≡ x = cc in same
read_at (y ∷ ys) (suc k) x d e = read_at ys k x d e

in_at : {A : Type 0} (xs : List A) (k : ℕ) (x : A) → k < length xs → slice_index_or xs k x ≡ x
    → In xs x
in_at [] k x l e = absurd (omega arith)
in_at (y ∷ ys) zero x l e = inl e
in_at (y ∷ ys) (suc k) x l e = inr (in_at ys k x (omega arith) e)

each_stands : (all some : List RecordFields) → StandIn all some → Each (In all) some
each_stands all some h = each_by (In all) some (λ k r e.
    let c = h r (k, slice_get_within some k r e, read_at some k r r e) in
    in_at all c.0 r c.1 c.2)

-- ---- places in histories

pub take_next : (xs : List Entry) (n : ℕ) (e : Entry) → slice_get xs n ≡ Some e
    → take (suc n) xs ≡ take n xs ++ e ∷ []
take_next [] n e is = cc
take_next (x ∷ xs) zero e is = let same : x ≡ e = cc in ap (λ z. z ∷ []) same
take_next (x ∷ xs) (suc n) e is = ap (λ z. x ∷ z) (take_next xs n e is)

-- the changes at a place are those that the entries before it give
pub history_at : (xs : List Entry) (n : ℕ) (e : Entry) → slice_get xs n ≡ Some e
    → slice_get (history_of xs) n
    ≡ Some (record_changes (cells_of (take n xs)) (take n xs) e)
history_at xs n e is =
    let within = slice_get_within xs n e is in
    let c = record_changes (cells_of (take n xs)) (take n xs) e in
    let front = history_of (take n xs) in
    let size : length front ≡ n = as_long (take n xs) ∙ length-take-le n xs (omega arith) in
    let here : n ≡ length front + 0 = omega arith in
    sym (get_take (suc n) (history_of xs) n (omega arith))
    ∙ ap (λ z. slice_get z n) (fronts xs (suc n) ∙ ap history_of (take_next xs n e is)
    ∙ grow (take n xs) e)
    ∙ ap (slice_get (front ++ c ∷ [])) here
    ∙ get_back front (c ∷ []) 0

-- the index of an entry of a book says its place
index_is : (xs : List Entry) → UpdatesFrom [] xs → (n : ℕ) (e : Entry) → slice_get xs n ≡ Some e
    → e.index ≡ n + 1
index_is xs h n e is =
    let within = slice_get_within xs n e is in
    let a = from_at [] xs n e h is in
    let front = only_updates [] (take n xs) (from_take n [] xs h) in
    let next = next_is (take n xs) e front a.0 a.1 in
    next.index ∙ ap (λ k. k + 1) (length-take-le n xs (omega arith))

-- ---- the records at hand

-- the record of an entry of a list at its own place
pub record IsAt (xs : List Entry) (r : RecordFields) : Type 0 where
  pub entry : slice_get xs (r.index - 1) ≡ Some (entry_of r)
  pub changes : slice_get (history_of xs) (r.index - 1) ≡ Some r.changes

at_over : (n : ℕ) (xs ys : List Entry) (r : RecordFields) → r.index - 1 < n → n ≤ length xs
    → n ≤ length ys → Agree n xs ys → IsAt xs r → IsAt ys r
at_over n xs ys r l a b h i = record {
  entry = sym (h (r.index - 1) l) ∙ i.entry;
  changes = sym (agree_changes n xs ys a b h (r.index - 1) l) ∙ i.changes;
}

-- a record of the log is at its place, below top
log_at : (g : Group Entry) (w : Whole g) (q : Place) (k : Stock) → HasStock g q k
    → (r : RecordFields) → In k.log r
    → IsAt (g.page (g.server q).accepted).list r × (r.index - 1 < top (g.server q))
log_at g w q k has r i =
    let s = g.server q in
    let L = (g.page s.accepted).list in
    let p = place_of k.log r i in
    let within = slice_get_within k.log p.0 r p.1 in
    let many = length-map k.log entry_of in
    let many' = length-map k.log (λ (r : RecordFields). r.changes) in
    let size = ap (λ (l : List Entry). length l) has.items in
    let entry : slice_get L (s.base + p.0) ≡ Some (entry_of r) =
    sym (has.log.entries p.0 (omega arith))
    ∙ slice_get-map entry_of k.log p.0 ∙ ap (option_map entry_of) p.1 in
    let changes : slice_get (history_of L) (s.base + p.0) ≡ Some r.changes =
    sym (has.log.changes p.0 (omega arith))
    ∙ slice_get-map (λ (r : RecordFields). r.changes) k.log p.0
    ∙ ap (option_map (λ (r : RecordFields). r.changes)) p.1 in
    let index : r.index ≡ s.base + p.0 + 1 = index_is L
    (w.books.list s.accepted (its (good_of g w q)).views.formed) (s.base + p.0) (entry_of r)
    entry in
    let place : s.base + p.0 ≡ r.index - 1 = omega arith in (
      record {
        entry = subst (λ n. slice_get L n ≡ Some (entry_of r)) place entry;
        changes = subst (λ n. slice_get (history_of L) n ≡ Some r.changes) place changes;
      },
      omega arith,
    )

-- what a step appends is the record of the entry that follows the list
pub record IsNew (list : List Entry) (s : Server Entry) (r : RecordFields) : Type 0 where
  pub view : View
  pub entry : Entry
  pub is : r ≡ record_of view list entry
  pub index : entry.index ≡ length list + 1
  pub leads : s.mode ≡ Open

new_in : (ms : List (Move Entry)) (g : Group Entry) (q : Place) (s : Server Entry) (v : ℕ)
    (list : List Entry) → TellsAll g q s list ms → (r : RecordFields)
    → In (recorded v list ms) r → IsNew list s r
new_in [] g q s v list t r i = absurd i
new_in (m ∷ ms) g q s v list t r i = ⊎_elim
    (λ a. by_that m t.0 a)
    (λ b. new_in ms g q s v list t.1 r b)
    (in_either (recorded_by v list m) (recorded v list ms) r i)
  where
    by_that : (m : Move Entry) → Tells g q s list m → In (recorded_by v list m) r → IsNew list s r
    by_that (Appending e) t i = ⊎_elim
        (λ (x : record_of (view_of v) list e ≡ r). record {
          view = view_of v;
          entry = e;
          is = sym x;
          index = t.0;
          leads = t.1;
        })
        (λ n. absurd n) i
    by_that m t i = absurd i

-- it is at its place in each list that begins with this one and has its entry there
new_at : (list xs : List Entry) (s : Server Entry) (r : RecordFields) → IsNew list s r
    → take (length list) xs ≡ list → slice_get xs (r.index - 1) ≡ Some (entry_of r) → IsAt xs r
new_at list xs s r n front entry =
    let e = n.entry in
    let of : entry_of r ≡ e = ap entry_of n.is in
    let index : r.index ≡ length list + 1 = ap (λ (r : RecordFields). r.index) n.is ∙ n.index in
    let place : r.index - 1 ≡ length list = omega arith in
    record {
      entry = entry;
      changes = history_at xs (r.index - 1) (entry_of r) entry
          ∙ ap (λ z. Some (record_changes (cells_of z) z (entry_of r)))
          (ap (λ n. take n xs) place ∙ front)
          ∙ ap (λ z. Some (record_changes (cells_of list) list z)) of
          ∙ ap (λ (r : RecordFields). Some r.changes) (sym n.is);
    }

-- ---- what the group has after a step

-- a record at hand is at its place in the accepted view's list, where that has its entry
own_at : (g : Group Entry) (w : Whole g) (q : Place) (k : Stock) → HasStock g q k
    → (g' : Group Entry) → ((v : ℕ) → (g.page v).formed ≡ true → PageGrows (g.page v) (g'.page v))
    → (ms : List (Move Entry)) → TellsAll g q (g.server q) (list_of g q) ms
    → (r : RecordFields) → In (k.log ++ recorded (g.server q).accepted (list_of g q) ms) r
    → slice_get (g'.page (g.server q).accepted).list (r.index - 1) ≡ Some (entry_of r)
    → IsAt (g'.page (g.server q).accepted).list r
own_at g w q k has g' grows ms t r i entry =
    let s = g.server q in
    let L = (g.page s.accepted).list in
    let L' = (g'.page s.accepted).list in
    let p = grows s.accepted (its (good_of g w q)).views.formed in
    let within = top_within g q s (good_of g w q) in
    let longer = p.longer in
    ⊎_elim
    (λ a.
    let here = log_at g w q k has r a in
    let low = here.1 in
    at_over (length L) L L' r (omega arith) (le_refl _) longer p.agree here.0)
    (λ b.
    let n = new_in ms g q s s.accepted (list_of g q) t r b in
    let size : length (list_of g q) ≡ top s = length-take-le (top s) L within in
    new_at (list_of g q) L' s r n
    (ap (λ n. take n L') size
    ∙ sym (take_agree (top s) L L' within (omega arith) (λ j l. p.agree j (omega arith))))
    entry)
    (in_either k.log (recorded s.accepted (list_of g q) ms) r i)

-- a source's is so in the list of the view that it is source of
source_at : (g : Group Entry) (w : Whole g) (q : Place) (k : Stock) → HasStock g q k
    → (g' : Group Entry) → ((v : ℕ) → (g.page v).formed ≡ true → PageGrows (g.page v) (g'.page v))
    → (ms : List (Move Entry)) → TellsAll g q (g.server q) (list_of g q) ms
    → (r : RecordFields) → In (k.log ++ recorded (g.server q).accepted (list_of g q) ms) r
    → IsSource g q (g.server q) (g.server q).promised
    → IsAt (g'.page (g.server q).promised).list r
source_at g w q k has g' grows ms t r i src =
    let s = g.server q in
    let h = good_of g w q in
    let L = (g.page s.accepted).list in
    let W = (g.page s.promised).list in
    let W' = (g'.page s.promised).list in
    let p = grows s.promised src.formed in
    let known = source_from g q s h src.joins src.formed src.held src.source in
    let ends = known.1 in
    let page = w.ok.page s.promised src.formed in
    let start = (g.page s.promised).plan.start in
    let within = page.start_within in
    let origin : start ≤ length L =
    subst (λ n. start ≤ length (g.page n).list) (sym known.0) page.start_origin in
    ⊎_elim
    (λ a.
    let here = log_at g w q k has r a in
    let low = here.1 in
    at_over (length W) W W' r (omega arith) (le_refl _) p.longer p.agree
    (at_over start L W r (omega arith) origin within
    (λ j l. ap (λ n. slice_get (g.page n).list j) known.0 ∙ page.begins j l) here.0))
    (λ b.
    let n = new_in ms g q s s.accepted (list_of g q) t r b in
    absurd (subst (λ z. IsJoining z) n.leads src.joins))
    (in_either k.log (recorded s.accepted (list_of g q) ms) r i)

either_at : (g : Group Entry) (w : Whole g) (q : Place) (k : Stock) → HasStock g q k
    → (g' : Group Entry) → ((v : ℕ) → (g.page v).formed ≡ true → PageGrows (g.page v) (g'.page v))
    → (ms : List (Move Entry)) → TellsAll g q (g.server q) (list_of g q) ms
    → (r : RecordFields) → In (k.log ++ recorded (g.server q).accepted (list_of g q) ms) r
    → (v : ℕ) → (v ≡ (g.server q).accepted) ⊎ IsSource g q (g.server q) v
    → slice_get (g'.page v).list (r.index - 1) ≡ Some (entry_of r)
    → IsAt (g'.page v).list r
either_at g w q k has g' grows ms t r i v o entry =
    let s = g.server q in
    ⊎_elim
    (λ (e : v ≡ s.accepted). subst (λ n. IsAt (g'.page n).list r) (sym e)
    (own_at g w q k has g' grows ms t r i
    (subst (λ n. slice_get (g'.page n).list (r.index - 1) ≡ Some (entry_of r)) e entry)))
    (λ (src : IsSource g q s v). subst (λ n. IsAt (g'.page n).list r) (sym src.view)
    (source_at g w q k has g' grows ms t r i (subst (λ n. IsSource g q s n) src.view src)))
    o

-- so records of these entries have the changes of the view's list
told_part : (g : Group Entry) (w : Whole g) (q : Place) (k : Stock) → HasStock g q k
    → (g' : Group Entry) → Whole g'
    → ((v : ℕ) → (g.page v).formed ≡ true → PageGrows (g.page v) (g'.page v))
    → (ms : List (Move Entry)) → TellsAll g q (g.server q) (list_of g q) ms
    → (v : ℕ) → (v ≡ (g.server q).accepted) ⊎ IsSource g q (g.server q) v
    → (g'.page v).formed ≡ true → (n : ℕ) (records : List RecordFields)
    → Part n (map entry_of records) (g'.page v).list
    → Each (In (k.log ++ recorded (g.server q).accepted (list_of g q) ms)) records
    → Part n (changes_in records) (history_of (g'.page v).list)
told_part g w q k has g' w' grows ms t v o f n records part each j l =
    let hand = k.log ++ recorded (g.server q).accepted (list_of g q) ms in
    let L' = (g'.page v).list in
    let many = length-map records entry_of in
    let many' = length-map records (λ (r : RecordFields). r.changes) in
    let this = found records j (omega arith) in
    let r = this.0 in
    let entry : slice_get L' (n + j) ≡ Some (entry_of r) =
    sym (part j (omega arith)) ∙ slice_get-map entry_of records j
    ∙ ap (option_map entry_of) this.1 in
    let index : r.index ≡ n + j + 1 = index_is L' (w'.books.list v f) (n + j) (entry_of r) entry in
    let place : n + j ≡ r.index - 1 = omega arith in
    let here : IsAt L' r = either_at g w q k has g' grows ms t r
    (each_found (In hand) records j r each this.1) v o
    (subst (λ i. slice_get L' i ≡ Some (entry_of r)) place entry) in
    slice_get-map (λ (r : RecordFields). r.changes) records j
    ∙ ap (option_map (λ (r : RecordFields). r.changes)) this.1
    ∙ sym (ap (slice_get (history_of L')) place ∙ here.changes)

-- ---- messages

packets_stay : (ms : List (Move Entry)) (g : Group Entry) (q : Place) (s : Server Entry)
    (p : Packet Entry) → In g.packets p → In (moved_by g q s ms).packets p
packets_stay [] g q s p i = i
packets_stay (m ∷ ms) g q s p i =
    packets_stay ms (moved g q s m) q (act q (g.clock q) s m) p (one m)
  where
    one : (m : Move Entry) → In (packets_after g.packets q m) p
    one (Sending to x) = inr i
    one m = i

sent_in : (ms : List (Move Entry)) (g : Group Entry) (q : Place) (s : Server Entry) (to : Place)
    (m : Message Entry) → In ms (Sending to m)
    → In (moved_by g q s ms).packets (record { from = q; to = to; body = m })
sent_in [] g q s to m i = absurd i
sent_in (x ∷ ms) g q s to m i = ⊎_elim
    (λ (e : x ≡ Sending to m). packets_stay ms (moved g q s x) q (act q (g.clock q) s x) _
    (subst (λ x. In (packets_after g.packets q x) (record { from = q; to = to; body = m })) (sym e)
    (inl refl)))
    (λ j. sent_in ms (moved g q s x) q (act q (g.clock q) s x) to m j) i

pub all_tell : (ms : List (Move Entry)) (g : Group Entry) (q : Place) (s : Server Entry)
    (list : List Entry) → TellsAll g q s list ms → (m : Move Entry) → In ms m
    → Tells g q s list m
all_tell [] g q s list t m i = absurd i
all_tell (x ∷ ms) g q s list t m i = ⊎_elim
    (λ (e : x ≡ m). subst (λ x. Tells g q s list x) e t.0)
    (λ j. all_tell ms g q s list t.1 m j) i

pub some_is : {A : Type 0} (a b : A) → Some a ≡ Some b → a ≡ b
some_is a b e = cc

one_part : (n : ℕ) (e : Entry) (xs : List Entry) → slice_get xs n ≡ Some e → Part n (e ∷ []) xs
one_part n e xs is zero l = sym is ∙ ap (slice_get xs) (let i : n ≡ n + 0 = omega arith in i)
one_part n e xs is (suc k) l = absurd (omega arith)

sends_right : (size : List Entry → Entry → ℕ) (g : Group Entry) → Whole g → (q : Place)
    (i : Input) → Goes g q (g.server q) (step_of size g q i)
    → TellsAll g q (g.server q) (list_of g q) (step_of size g q i) → SendsRight size g q i
sends_right size g w q i goes t k has to m sent x e each =
    by x m e (all_tell ms g q s (list_of g q) t (Sending to m) sent)
    (each_in (PacketOk g'.page g'.joins g'.committed) g'.packets
    (record { from = q; to = to; body = m }) w'.ok.packet (sent_in ms g q s to m sent))
    (each_stands (at_hand size g q i k) (carried x) each)
  where
    s : Server Entry
    s = g.server q

    ms : List (Move Entry)
    ms = step_of size g q i

    g' : Group Entry
    g' = moved_by g q s ms

    w' : Whole g'
    w' = whole_of g' q (acts q (g.clock q) s ms) (goes_good ms g q s goes)

    part : (v : ℕ) → (v ≡ s.accepted) ⊎ IsSource g q s v → (g'.page v).formed ≡ true → (n : ℕ)
        (records : List RecordFields) → Part n (map entry_of records) (g'.page v).list
        → Each (In (at_hand size g q i k)) records
        → AreOfList (g'.page v).list n records
    part v o f n records p each = record {
      entries = p;
      changes = told_part g w q k has g' w' (goes_grows ms g q s goes).each ms t v o f n records p
          each;
    }

    by : (x : Wire) (m : Message Entry) → heard x ≡ Some m → TellsOf g q s m
        → BodyOk g'.page g'.joins g'.committed q to m
        → Each (In (at_hand size g q i k)) (carried x) → Carries g'.page m (carried x)
    by (wire.Event view cp base r) m e t b each =
        let is = some_is (Event (number_of_view view) r.index cp base (entry_of r)) m e in
        let t' = subst (λ m. TellsOf g q s m) (sym is) t in
        let b' = subst (λ m. BodyOk g'.page g'.joins g'.committed q to m) (sym is) b in
        subst (λ m. Carries g'.page m (r ∷ [])) is (
          refl,
          part (number_of_view view) (inl t') b'.0 (r.index - 1) (r ∷ [])
              (one_part (r.index - 1) (entry_of r) (g'.page (number_of_view view)).list b'.3) each,
        )
    by (wire.Give view first records) m e t b each =
        let is = some_is (Give (number_of_view view) first (map entry_of records)) m e in
        let t' = subst (λ m. TellsOf g q s m) (sym is) t in
        let b' = subst (λ m. BodyOk g'.page g'.joins g'.committed q to m) (sym is) b in
        subst (λ m. Carries g'.page m records) is
        (refl, part (number_of_view view) t' b'.0 (first - 1) records b'.2 each)
    by (wire.Invite view) m e t b each = subst (λ m. Carries g'.page m []) (some_is _ _ e) refl
    by (wire.Join view has accepted base lb cp top horizon) m e t b each =
        subst (λ m. Carries g'.page m []) (some_is _ _ e) refl
    by (wire.Form view storers source base cp start horizon) m e t b each =
        subst (λ m. Carries g'.page m []) (some_is _ _ e) refl
    by (wire.Fetch view first) m e t b each =
        subst (λ m. Carries g'.page m []) (some_is _ _ e) refl
    by (wire.Formed view lb) m e t b each =
        subst (λ m. Carries g'.page m []) (some_is _ _ e) refl
    by (wire.Beat view cp base) m e t b each =
        subst (λ m. Carries g'.page m []) (some_is _ _ e) refl
    by (wire.Ack view top lb until) m e t b each =
        subst (λ m. Carries g'.page m []) (some_is _ _ e) refl
    by (wire.Demote view) m e t b each =
        subst (λ m. Carries g'.page m []) (some_is _ _ e) refl
    by (wire.Ask client number cred call) m e t b each = cc
    by (wire.Answer client number index reply) m e t b each = cc
    by (wire.CannotServe client number cause) m e t b each = cc

pub deeds_send : DeedsSend
deeds_send size g w q up d = sends_right size g w q (Does d)
    (input_goes size g w q up (Does d) tt)
    (deed_step_tells size g q (g.server q) (list_of g q) d)

pub deliveries_send : DeliveriesSend
deliveries_send size g w n p e up =
    let known = sent_known g w n p e in
    sends_right size g w p.to (Comes p.from p.body)
    (input_goes size g w p.to up (Comes p.from p.body) known)
    (message_step_tells size g p.to (g.server p.to) (list_of g p.to) p.from p.body known.0)
