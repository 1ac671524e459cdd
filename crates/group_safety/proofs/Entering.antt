-- The moves keep what is said of answers, of the book and of the limits.
use Rattle.std.proofs.Common.{◌⊎◌, inl, inr, ◌≡◌, ℕ, suc, ◌+◌, ◌-◌, ◌<◌, ◌≤◌, ◌/◌, ◌&&◌, Bool, true, false, List, [], ◌∷◌, ◌++◌, append-nil, length, Option, None, Some, take, refl, sym, ap, ◌∙◌, subst, arith, ⊎_elim, zero-le, nat_lt, length-append}
use Rattle.std.specs.Prelude.{⊤}
use Rattle.std.proofs.lemmas.Option.{slice_get_within}
use Rattle.std.proofs.lemmas.List.{length-take, length-drop}
use Rattle.std.proofs.lemmas.List.Elements.{filter-append}
use Rattle.harp_types.specs.Update.{is_update}
use Rattle.file_tree.specs.Book.{Entry, updates, MayFollow, IsBook}
use Rattle.group_rules.specs.Effects.{NewLog, booted, demoted_by, down, empty_log, lengthened, load_tests, loaded, lost_log, resting, saved_log, saving}
use Rattle.group_safety.specs.Entered.{AnswerOk, AnswersOk, BodyWithin, Books, IsTidy, ServerWithin, Tidy, UpdatesFrom, Within}
use Rattle.group_safety.specs.Facts.{Ok}
use Rattle.group_safety.specs.Laws.{Grows}
use Rattle.group_rules.specs.Limits.{IsDelta, can_have, is_log, is_outside, limit, room}
use Rattle.group_rules.specs.Moves.{Accepting, Appending, Applying, Basing, Booting, Choosing, Committing, Demoting, Falling, Flushing, Hearing, Heeding, Joining, Move, Noting, Opening, Pulling, Reading, Saving, Saying, Sending, Staging, act, moved, new_entries, said_after}
use Rattle.group_rules.specs.Places.{Place, all_of, at, is_p2, number, put}
use Rattle.group_rules.specs.State.{Answered, Answers, Empty, Group, Held, JoinMade, Joins, Lists, Live, Log, Lost, Mark, Mode, Open, Packet, Page, Pulls, Refuses, Rests, Saved, Say, Server, Waits, mark_of, top}
use Rattle.group_safety.specs.Words.{Agree, Each, In, IsActive, IsJoining}
use Rattle.group_rules.proofs.Tests.{by_if}
use Rattle.group_safety.proofs.Common.{each_at}
use Rattle.group_safety.proofs.Grow.{puts, by_page, sure_grow}
use Rattle.group_safety.proofs.Settled.{SettledMay}
use Rattle.group_safety.proofs.Bases.{BasesMay}
use Rattle.group_safety.proofs.Growth.{grows_moved}
use Rattle.group_safety.proofs.BookLists.{from_append, from_back, from_take, enter, book_append}

-- the facts on what is entered and answered, and on the limits
pub record Beside (g : Group Entry) : Type 0 where
  pub answers : AnswersOk g
  pub books : Books g
  pub within : Within g
  pub tidy : Tidy g

abbrev pub SayMay : (ℕ → Page Entry) → List Entry → ℕ → Say Entry → Type 0
SayMay page committed view (Answers n e) = AnswerOk page committed (record { view = view; index = n; entry = e })
SayMay page committed view (Refuses client number cause) = ⊤
SayMay page committed view (Lists n) = ⊤

-- what each move asks beside
abbrev pub BesideMay : Group Entry → Place → Server Entry → Move Entry → Type 0
BesideMay g q s (Joining v duty) = v / 3 ≤ limit
BesideMay g q s (Choosing plan from) = (g.page from).formed ≡ true
BesideMay g q s (Pulling plan from) = IsJoining s.mode
BesideMay g q s (Staging items) = s.mode ≡ Pulls
BesideMay g q s (Hearing x lb) = IsJoining s.mode ⊎ (s.mode ≡ Waits)
BesideMay g q s (Accepting plan role n) = (length n.items ≤ room) × IsJoining s.mode
BesideMay g q s (Opening lb) = (s.mode ≡ Waits) × (s.held ≡ Log)
BesideMay g q s (Heeding items cp base) = (length items - (base - s.base) ≤ room) × IsActive s.mode × (s.mode ≡ Open → ⊥) × (s.held ≡ Log)
BesideMay g q s (Appending e) = (length s.items < room) × (length (g.page s.accepted).list < limit) × (is_update e.call ≡ true) × MayFollow (g.page s.accepted).list e × (s.held ≡ Log)
BesideMay g q s (Noting top lb until) = s.mode ≡ Open
BesideMay g q s (Committing n) = s.held ≡ Log
BesideMay g q s (Basing n) = s.held ≡ Log
BesideMay g q s (Applying n) = s.held ≡ Log
BesideMay g q s Flushing = s.held ≡ Log
BesideMay g q s (Demoting v) = v / 3 ≤ limit
BesideMay g q s (Booting d) = IsDelta d
BesideMay g q s (Reading n e) = MayFollow g.book e × (is_update e.call ≡ false) × (n ≡ length g.committed) × ((w : ℕ) → s.accepted < w → (g.page w).formed ≡ true → (g.page w).opened ≡ false)
BesideMay g q s (Saying say) = SayMay g.page g.committed s.accepted say
BesideMay g q s (Sending to m) = BodyWithin m
BesideMay g q s m = ⊤

answer_grows : {p p' : ℕ → Page Entry} {c c' : List Entry} {j j' : List JoinMade} → Grows p p' c c' j j' → (a : Answered Entry) → AnswerOk p c a → AnswerOk p' c' a
answer_grows g a h = record {
  formed = (g.each a.view h.formed).formed;
  sure = sure_grow g a.view a.index h.formed h.sure;
  positive = h.positive;
  entry = sym (g.agree (a.index - 1) (slice_get_within _ (a.index - 1) a.entry h.entry)) ∙ h.entry;
}

answers_old : (g g' : Group Entry) → Grows g.page g'.page g.committed g'.committed g.joins g'.joins → AnswersOk g → (a : Answered Entry) → In g.answered a → AnswerOk g'.page g'.committed a
answers_old g g' grow h a i = answer_grows grow a (h.each a i)

said_ok : (page : ℕ → Page Entry) (committed : List Entry) (answered : List (Answered Entry)) (s : Server Entry) (say : Say Entry) → ((a : Answered Entry) → In answered a → AnswerOk page committed a) → SayMay page committed s.accepted say
    → (a : Answered Entry) → In (said_after answered s say) a → AnswerOk page committed a
said_ok page committed answered s (Answers n e) old new a i = ⊎_elim (λ x. subst (λ (a : Answered Entry). AnswerOk page committed a) x new) (λ x. old a x) i
said_ok page committed answered s (Refuses client number cause) old new a i = old a i
said_ok page committed answered s (Lists n) old new a i = old a i

answers_moved : (g : Group Entry) (q : Place) (s : Server Entry) (m : Move Entry) → Grows g.page (moved g q s m).page g.committed (moved g q s m).committed g.joins (moved g q s m).joins → AnswersOk g → BesideMay g q s m → AnswersOk (moved g q s m)
answers_moved g q s (Saying say) grow h may = record { each = said_ok g.page g.committed g.answered s say h.each may }
answers_moved g q s m grow h may = record { each = answers_old g (moved g q s m) grow h }

-- ---- the book

list_put : (g : Group Entry) → Books g → (w : ℕ) (p : Page Entry) → (p.formed ≡ true → UpdatesFrom [] p.list) → (v : ℕ) → (put g.page w p v).formed ≡ true → UpdatesFrom [] (put g.page w p v).list
list_put g h w p new v = by_page w (puts w g.page p) (λ v r. r.formed ≡ true → UpdatesFrom [] r.list) new v (h.list v)

lists_moved : (g : Group Entry) (q : Place) (s : Server Entry) → Ok g → g.server q ≡ s → (m : Move Entry) → Books g → BesideMay g q s m → (v : ℕ) → ((moved g q s m).page v).formed ≡ true → UpdatesFrom [] ((moved g q s m).page v).list
lists_moved g q s ok e (Choosing plan from) h may = list_put g h s.promised _ (λ _. from_take plan.start [] (g.page from).list (h.list from may))
lists_moved g q s ok e (Accepting plan role n) h may = list_put g h s.promised _ (λ f. h.list s.promised f)
lists_moved g q s ok e (Opening lb) h may = list_put g h s.accepted _ (λ f. h.list s.accepted f)
lists_moved g q s ok e (Heeding items cp base) h may = list_put g h s.accepted _ (λ f. h.list s.accepted f)
lists_moved g q s ok e (Appending x) h may = list_put g h s.accepted _ (λ f. from_append [] (g.page s.accepted).list (x ∷ []) (h.list s.accepted f) (may.2, may.3, tt))
lists_moved g q s ok e m h may = h.list

-- a list is the front of another with which it agrees
pub front_is : (xs ys : List Entry) → length ys ≤ length xs → Agree (length ys) xs ys → take (length ys) xs ≡ ys
front_is xs [] le a = refl
front_is [] (y ∷ ys) le a = absurd (omega arith)
front_is (x ∷ xs) (y ∷ ys) le a =
    let here : Some x ≡ Some y = a 0 (omega arith) in
    let same' : x ≡ y = cc in
    rw same' (ap (λ (l : List Entry). y ∷ l) (front_is xs ys (omega arith) (λ k l. a (suc k) (omega arith))))

-- the committed entries are updates that may follow each other
pub committed_updates : (g : Group Entry) → Ok g → ((v : ℕ) → (g.page v).formed ≡ true → UpdatesFrom [] (g.page v).list) → UpdatesFrom [] g.committed
committed_updates g ok h =
    let b = ok.committed in
    subst (λ (l : List Entry). UpdatesFrom [] l) (front_is (g.page b.0).list g.committed b.2.within b.2.same) (from_take (length g.committed) [] (g.page b.0).list (h b.0 b.1))

entered_book : (book c new : List Entry) → IsBook book → updates book ≡ c → UpdatesFrom [] (c ++ new) → IsBook (book ++ new) × (updates (book ++ new) ≡ c ++ new)
entered_book book c new b u f = let x = enter book c new u (from_back [] c new f) in (book_append [] book new b x.0, x.1)

books_moved : (g : Group Entry) (q : Place) (s : Server Entry) → Ok g → g.server q ≡ s → (m : Move Entry) → Books g → BesideMay g q s m → Ok (moved g q s m) → Books (moved g q s m)
books_moved g q s ok e (Committing n) h may ok' =
    let x = entered_book g.book g.committed (new_entries g.committed s.base s.items n) h.book h.updates (committed_updates (moved g q s (Committing n)) ok' h.list) in
    record { list = h.list; book = x.0; updates = x.1 }
books_moved g q s ok e (Opening lb) h may ok' =
    let lists = lists_moved g q s ok e (Opening lb) h may in
    let x = entered_book g.book g.committed (new_entries g.committed s.base s.items (s.base + length s.items)) h.book h.updates (committed_updates (moved g q s (Opening lb)) ok' lists) in
    record { list = lists; book = x.0; updates = x.1 }
books_moved g q s ok e (Reading n x) h may ok' = record { list = h.list; book = book_append [] g.book (x ∷ []) h.book (may.0, tt); updates = read_updates ∙ h.updates }
  where
    read_updates : updates (g.book ++ x ∷ []) ≡ updates g.book
    read_updates = filter-append (λ y. is_update y.call) g.book (x ∷ []) ∙ ap (λ (l : List Entry). updates g.book ++ l) (rw may.1 refl) ∙ append-nil (updates g.book)
books_moved g q s ok e m h may ok' = record { list = lists_moved g q s ok e m h may; book = h.book; updates = h.updates }

-- ---- the limits

servers_within : (g : Group Entry) → Within g → (q : Place) (s' : Server Entry) → ServerWithin s' → (x : Place) → ServerWithin (at g.server q s' x)
servers_within g h q s' new = each_at (λ x s. ServerWithin s) g.server q s' h.server new

size_put : (g : Group Entry) → Within g → (w : ℕ) (p : Page Entry) → (p.formed ≡ true → length p.list ≤ limit) → (v : ℕ) → (put g.page w p v).formed ≡ true → length (put g.page w p v).list ≤ limit
size_put g h w p new v = by_page w (puts w g.page p) (λ v r. r.formed ≡ true → length r.list ≤ limit) new v (h.list v)

sizes_moved : (g : Group Entry) (q : Place) (s : Server Entry) (m : Move Entry) → Within g → BesideMay g q s m → (v : ℕ) → ((moved g q s m).page v).formed ≡ true → length ((moved g q s m).page v).list ≤ limit
sizes_moved g q s (Choosing plan from) h may = size_put g h s.promised _ (λ _. let a = h.list from may in let b = length-take plan.start (g.page from).list in omega arith)
sizes_moved g q s (Accepting plan role n) h may = size_put g h s.promised _ (λ f. h.list s.promised f)
sizes_moved g q s (Opening lb) h may = size_put g h s.accepted _ (λ f. h.list s.accepted f)
sizes_moved g q s (Heeding items cp base) h may = size_put g h s.accepted _ (λ f. h.list s.accepted f)
sizes_moved g q s (Appending x) h may = size_put g h s.accepted _ (λ f. let a = may.1 in let b = length-append (g.page s.accepted).list (x ∷ []) in omega arith)
sizes_moved g q s m h may = h.list

demoted_within : (s : Server Entry) (v : ℕ) (b : Bool) → v / 3 ≤ limit → ServerWithin s → ServerWithin (demoted_by b s v)
demoted_within s v true le h = record { count = h.count; items = zero-le; saved = λ u x. cc; longest = h.longest; delta = h.delta }
demoted_within s v false le h = record { count = le; items = zero-le; saved = λ u x. cc; longest = h.longest; delta = h.delta }

saving_within : (q : Place) (s : Server Entry) (o : Option (Saved Entry)) → ServerWithin s → ServerWithin (down (mark_of (saving q s o)))
saving_within q s (Some v) h = record { count = h.count; items = zero-le; saved = h.saved; longest = h.longest; delta = λ u. cc }
saving_within q s None h = by_if (λ (x : Server Entry). ServerWithin (down (mark_of x))) (is_log s.held) _ _
    (λ _. record { count = h.count; items = zero-le; saved = λ v x. let y : record { base = s.base; cp = s.cp; items = s.items } ≡ v = cc in subst (λ (v : Saved Entry). length v.items ≤ room) y h.items; longest = h.longest; delta = λ u. cc })
    (λ _. record { count = h.count; items = zero-le; saved = h.saved; longest = h.longest; delta = λ u. cc })

booted_within : (q : Place) (clock d : ℕ) → IsDelta d → (s : Server Entry) → ServerWithin s → ServerWithin (booted q clock d (mark_of s))
booted_within q clock d is s h = by_if (λ (x : Server Entry). ServerWithin x) (is_p2 q && is_outside s.role) _ _
    (λ _. rests Empty (empty_log s.lb) zero-le)
    (λ _. loads s.saved refl)
  where
    rests : (held : Held) (n : NewLog Entry) → length n.items ≤ room → ServerWithin (resting clock d (lengthened d (mark_of s)) held n)
    rests held n few =
        let a = is.0 in
        let b = is.1 in
        let c = h.longest.1 in
        record { count = h.count; items = few; saved = h.saved; longest = (omega arith, omega arith); delta = λ _. (is, omega arith) }

    loads : (o : Option (Saved Entry)) → s.saved ≡ o → ServerWithin (loaded q clock d (lengthened d (mark_of s)) o)
    loads None e = rests Lost (lost_log s.lb) zero-le
    loads (Some v) e = by_if (λ (x : Server Entry). ServerWithin x) (all_of (can_have q s.role ∷ load_tests s.lb v)) _ _
        (λ _. rests Log (saved_log q s.lb v) (h.saved v e))
        (λ _. rests Lost (lost_log s.lb) zero-le)

server_moved : (q : Place) (clock : ℕ) (g : Group Entry) (s : Server Entry) (m : Move Entry) → ServerWithin s → BesideMay g q s m → ServerWithin (act q clock s m)
server_moved q clock g s (Joining v duty) h may = record { count = may; items = h.items; saved = h.saved; longest = h.longest; delta = h.delta }
server_moved q clock g s (Accepting plan role n) h may = record { count = h.count; items = may.0; saved = λ v x. cc; longest = h.longest; delta = h.delta }
server_moved q clock g s (Heeding items cp base) h may = record { count = h.count; items = (let a = length-drop (base - s.base) items in let b = may.0 in omega arith); saved = h.saved; longest = h.longest; delta = h.delta }
server_moved q clock g s (Appending x) h may = record { count = h.count; items = (let a = may.0 in let b = length-append s.items (x ∷ []) in omega arith); saved = h.saved; longest = h.longest; delta = h.delta }
server_moved q clock g s (Basing n) h may = record { count = h.count; items = (let a = length-drop (n - s.base) s.items in let b = h.items in omega arith); saved = h.saved; longest = h.longest; delta = h.delta }
server_moved q clock g s (Demoting v) h may = demoted_within s v (nat_lt v s.promised) may h
server_moved q clock g s Saving h may = saving_within q s s.saved h
server_moved q clock g s Falling h may = record { count = h.count; items = zero-le; saved = h.saved; longest = h.longest; delta = λ u. cc }
server_moved q clock g s (Booting d) h may = booted_within q clock d may s h
server_moved q clock g s m h may = record { count = h.count; items = h.items; saved = h.saved; longest = h.longest; delta = h.delta }

packets_moved : (g : Group Entry) (q : Place) (s : Server Entry) (m : Move Entry) → Within g → BesideMay g q s m → Each (λ (p : Packet Entry). BodyWithin p.body) (moved g q s m).packets
packets_moved g q s (Sending to m) h may = (may, h.packet)
packets_moved g q s m h may = h.packet

within_moved : (g : Group Entry) (q : Place) (s : Server Entry) → g.server q ≡ s → (m : Move Entry) → Within g → BesideMay g q s m → Within (moved g q s m)
within_moved g q s e m h may = record {
  server = servers_within g h q _ (server_moved q (g.clock q) g s m (subst (λ (s : Server Entry). ServerWithin s) e (h.server q)) may);
  delta = h.delta;
  list = sizes_moved g q s m h may;
  packet = packets_moved g q s m h may;
}

-- ---- no stale fields

joining_is_not : (m : Mode) → IsJoining m → (x : Mode) → m ≡ x → (IsJoining x → ⊥) → ⊥
joining_is_not m j x e n = n (subst (λ z. IsJoining z) e j)

not_joining : (m : Mode) → IsActive m → IsJoining m → ⊥
not_joining Rests a j = a
not_joining Joins a j = a
not_joining Pulls a j = a
not_joining Waits a j = j
not_joining Open a j = j
not_joining Live a j = j

-- a server that rests without its memory
rests_tidy : (clock d : ℕ) (m : Mark Entry) (held : Held) (n : NewLog Entry) → (held ≡ Lost → (n.base ≡ n.lb) × (n.ap ≡ n.lb) × (n.cp ≡ n.lb) × (n.items ≡ []))
    → (held ≡ Empty → (n.base ≡ 0) × (n.ap ≡ 0) × (n.cp ≡ 0) × (n.items ≡ [])) → IsTidy (resting clock d m held n)
rests_tidy clock d m held n lost empty = record { report = λ _. refl; plan = λ _. refl; pulls = λ _. (refl, refl); heard = λ _. refl; acks = λ _. (refl, refl, refl); lost = λ e. let x = lost e in (x.0, x.1, x.2, x.3, refl); empty = λ e. let x = empty e in (x.0, x.1, x.2, x.3, refl) }

booted_tidy : (q : Place) (clock d : ℕ) (m : Mark Entry) → IsTidy (booted q clock d m)
booted_tidy q clock d m = by_if (λ (x : Server Entry). IsTidy x) (is_p2 q && is_outside m.role) _ _
    (λ _. rests_tidy clock d (lengthened d m) Empty _ (λ e. cc) (λ _. (refl, refl, refl, refl)))
    (λ _. loads m.saved)
  where
    lost : IsTidy (resting clock d (lengthened d m) Lost (lost_log m.lb))
    lost = rests_tidy clock d (lengthened d m) Lost _ (λ _. (refl, refl, refl, refl)) (λ e. cc)

    loads : (o : Option (Saved Entry)) → IsTidy (loaded q clock d (lengthened d m) o)
    loads None = lost
    loads (Some v) = by_if (λ (x : Server Entry). IsTidy x) (all_of (can_have q m.role ∷ load_tests m.lb v)) _ _ (λ _. rests_tidy clock d (lengthened d m) Log _ (λ e. cc) (λ e. cc)) (λ _. lost)

pub down_tidy : (m : Mark Entry) → IsTidy (down m)
down_tidy m = record { report = λ _. refl; plan = λ _. refl; pulls = λ _. (refl, refl); heard = λ _. refl; acks = λ _. (refl, refl, refl); lost = λ _. (refl, refl, refl, refl, refl); empty = λ e. cc }

demoted_tidy : (s : Server Entry) (v : ℕ) (b : Bool) → IsTidy s → IsTidy (demoted_by b s v)
demoted_tidy s v true h = record { report = h.report; plan = h.plan; pulls = h.pulls; heard = h.heard; acks = h.acks; lost = λ e. cc; empty = λ _. (refl, refl, refl, refl, refl) }
demoted_tidy s v false h = record { report = λ _. refl; plan = λ _. refl; pulls = λ _. (refl, refl); heard = λ _. refl; acks = λ _. (refl, refl, refl); lost = λ e. cc; empty = λ _. (refl, refl, refl, refl, refl) }

-- a server with a log that stays in its mode
log_tidy : (s s' : Server Entry) → s'.mode ≡ s.mode → s'.report ≡ s.report → s'.plan ≡ s.plan → s'.wanted_from ≡ s.wanted_from → s'.staged ≡ s.staged → s'.heard ≡ s.heard
    → ((s.mode ≡ Open → ⊥) → (s'.told_top ≡ 0) × (s'.told_lb ≡ 0) × (s'.grant ≡ 0)) → s'.held ≡ Log → IsTidy s → IsTidy s'
log_tidy s s' em er ep ew es eh acks held h = record {
  report = λ n. er ∙ h.report (λ j. n (subst (λ z. IsJoining z) (sym em) j));
  plan = λ n. ep ∙ h.plan (⊎_elim (λ x. inl (sym em ∙ x)) (λ x. inr (sym em ∙ x)) n);
  pulls = λ n. let p = h.pulls (λ x. n (em ∙ x)) in (ew ∙ p.0, es ∙ p.1);
  heard = λ n. eh ∙ h.heard (⊎_elim (λ x. inl (sym em ∙ x)) (λ y. inr (⊎_elim (λ x. inl (sym em ∙ x)) (λ x. inr (sym em ∙ x)) y)) n);
  acks = λ n. acks (λ x. n (em ∙ x));
  lost = λ e. cc (held, e);
  empty = λ e. cc (held, e);
}

tidy_moved : (q : Place) (clock : ℕ) (g : Group Entry) (s : Server Entry) (m : Move Entry) → IsTidy s → BesideMay g q s m → IsTidy (act q clock s m)
tidy_moved q clock g s (Joining v duty) h may = record { report = λ n. absurd (n tt); plan = λ _. refl; pulls = λ _. (refl, refl); heard = ⊎_elim (λ x. cc) (⊎_elim (λ x. cc) (λ x. cc)); acks = λ _. (refl, refl, refl); lost = h.lost; empty = h.empty }
tidy_moved q clock g s (Pulling plan from) h may = record {
  report = λ n. absurd (n tt);
  plan = ⊎_elim (λ x. cc) (λ x. cc);
  pulls = λ n. absurd (n refl);
  heard = ⊎_elim (λ x. cc) (⊎_elim (λ x. cc) (λ x. cc));
  acks = λ _. h.acks (λ x. joining_is_not s.mode may Open x (λ a. a));
  lost = h.lost;
  empty = h.empty;
}
tidy_moved q clock g s (Staging items) h may = record { report = h.report; plan = h.plan; pulls = λ n. absurd (n may); heard = h.heard; acks = h.acks; lost = h.lost; empty = h.empty }
tidy_moved q clock g s (Hearing x lb) h may = record {
  report = h.report;
  plan = h.plan;
  pulls = h.pulls;
  heard = λ n. absurd (⊎_elim
      (λ j. ⊎_elim (λ e. joining_is_not s.mode j Rests e (λ a. a)) (⊎_elim (λ e. joining_is_not s.mode j Open e (λ a. a)) (λ e. joining_is_not s.mode j Live e (λ a. a))) n)
      (λ w. ⊎_elim (λ e. cc (w, e)) (⊎_elim (λ e. cc (w, e)) (λ e. cc (w, e))) n) may);
  acks = h.acks;
  lost = h.lost;
  empty = h.empty;
}
tidy_moved q clock g s (Accepting plan role n) h may = record {
  report = λ _. refl;
  plan = ⊎_elim (λ x. cc) (λ x. cc);
  pulls = λ _. (refl, refl);
  heard = ⊎_elim (λ x. cc) (⊎_elim (λ x. cc) (λ x. cc));
  acks = λ _. h.acks (λ x. joining_is_not s.mode may.1 Open x (λ a. a));
  lost = λ e. cc;
  empty = λ e. cc;
}
tidy_moved q clock g s (Opening lb) h may = record {
  report = λ _. h.report (λ j. joining_is_not s.mode j Waits may.0 (λ a. a));
  plan = ⊎_elim (λ x. cc) (λ x. cc);
  pulls = λ _. h.pulls (λ x. cc (may.0, x));
  heard = λ _. refl;
  acks = λ n. absurd (n refl);
  lost = λ e. cc (may.1, e);
  empty = λ e. cc (may.1, e);
}
tidy_moved q clock g s (Heeding items cp base) h may = record {
  report = λ _. h.report (not_joining s.mode may.1);
  plan = ⊎_elim (λ x. cc) (λ x. cc);
  pulls = λ _. h.pulls (λ x. not_joining s.mode may.1 (subst (λ z. IsJoining z) (sym x) tt));
  heard = λ _. refl;
  acks = λ _. h.acks may.2;
  lost = λ e. cc (may.3, e);
  empty = λ e. cc (may.3, e);
}
tidy_moved q clock g s (Appending x) h may = log_tidy s _ refl refl refl refl refl refl h.acks may.4 h
tidy_moved q clock g s (Noting t lb until) h may = record { report = h.report; plan = h.plan; pulls = h.pulls; heard = h.heard; acks = λ n. absurd (n may); lost = h.lost; empty = h.empty }
tidy_moved q clock g s (Committing n) h may = log_tidy s _ refl refl refl refl refl refl h.acks may h
tidy_moved q clock g s (Basing n) h may = log_tidy s _ refl refl refl refl refl refl h.acks may h
tidy_moved q clock g s (Applying n) h may = log_tidy s _ refl refl refl refl refl refl h.acks may h
tidy_moved q clock g s Flushing h may = log_tidy s _ refl refl refl refl refl refl h.acks may h
tidy_moved q clock g s (Demoting v) h may = demoted_tidy s v (nat_lt v s.promised) h
tidy_moved q clock g s Saving h may = down_tidy (mark_of (saving q s s.saved))
tidy_moved q clock g s Falling h may = down_tidy (mark_of s)
tidy_moved q clock g s (Booting d) h may = booted_tidy q clock d (mark_of s)
tidy_moved q clock g s m h may = record { report = h.report; plan = h.plan; pulls = h.pulls; heard = h.heard; acks = h.acks; lost = h.lost; empty = h.empty }

pub beside_moved : (g : Group Entry) → Ok g → Beside g → (q : Place) (s : Server Entry) → g.server q ≡ s → (m : Move Entry) → SettledMay g q s m → BasesMay g q s m → BesideMay g q s m → Ok (moved g q s m) → Beside (moved g q s m)
beside_moved g ok h q s e m more low may ok' = record {
  answers = answers_moved g q s m (grows_moved g ok q s e m more low) h.answers may;
  books = books_moved g q s ok e m h.books may ok';
  within = within_moved g q s e m h.within may;
  tidy = record { each = each_at (λ x s. IsTidy s) g.server q _ h.tidy.each (tidy_moved q (g.clock q) g s m (subst (λ (s : Server Entry). IsTidy s) e (h.tidy.each q)) may) };
}
