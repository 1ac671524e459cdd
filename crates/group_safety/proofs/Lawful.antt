-- The laws follow from what every step keeps.
use Rattle.std.proofs.Common.{eq-or-lt_of_le, ◌≡◌, ◌⊎◌, ℕ, ◌+◌, ◌-◌, ◌<◌, ◌≤◌, true, false, List, [], ◌∷◌, ◌++◌, append_assoc, append-nil, length, Option, None, Some, slice_get, drop, refl, sym, ap, ◌∙◌, subst, inl, inr, arith, le_trans, lt_of_le_of_lt, ⊎_elim, le_of_lt, if◌then◌else◌}
use Rattle.std.proofs.lemmas.List.{length-drop}
use Rattle.std.proofs.lemmas.Bool.{cases_Bool}
use Rattle.file_tree.specs.Book.{Entry}
use Rattle.group_safety.specs.Bases.{BasesBody}
use Rattle.group_rules.specs.Effects.{booted, down}
use Rattle.group_safety.specs.Entered.{AnswerOk}
use Rattle.group_safety.specs.Facts.{BodyOk, Ok, PacketOk}
use Rattle.group_safety.specs.Laws.{AllSaidRightly, AreRecords, BaseUnder, BasesOnBothDisks, CommittedSurvives, EveryLaterView, Grows, Growth, OneBook, ReadsAlone, SaidRightly, StandsFor, TwoOutcomes, Whole, WithinLimits}
use Rattle.group_rules.specs.Limits.{delta_tests}
use Rattle.group_rules.specs.Moves.{Booting, Choosing, Committing, Falling, Move, Opening, Reading, Saying, act, answered_after, book_after, moved, moved_by, new_entries, said_after}
use Rattle.group_rules.specs.Places.{Place, all_of, number}
use Rattle.group_rules.specs.State.{Answered, Answers, Beat, Event, Form, Group, Join, Lists, Log, Message, Packet, Plan, Refuses, Say, Server, mark_of, top}
use Rattle.group_rules.specs.Step.{Advance, At, Boot, Clock, Comes, Crash, CutAt, CutDeliver, Deed, Deliver, Delta, Does, Happening, Input, clock_tests, cut_delivered, cut_steps, delivered, happens, numbered, run, step_of, steps, writes_any}
use Rattle.group_safety.specs.Words.{Each, Part, Sure, Under}
use Rattle.group_rules.proofs.Tests.{by_if, if_is, if_not}
use Rattle.group_safety.proofs.Common.{sure_up}
use Rattle.group_safety.proofs.Lists.{get_drop}
use Rattle.group_safety.proofs.Growth.{grows_same, grows_then}
use Rattle.group_safety.proofs.BookLists.{follows_all}
use Rattle.group_safety.proofs.Entering.{front_is}
use Rattle.group_safety.proofs.Reading.{exclusive}
use Rattle.group_safety.proofs.Moving.{Goes, May, goes_grows, at_self}
use Rattle.group_safety.proofs.Steps.{Known, falls}
use Rattle.group_safety.proofs.Safe.{boot_goes, good_of, happens_whole, input_goes, sent_known}

-- what is sure in a view is within the start of each later one
pub sure_starts : {E : Type 0} (g : Group E) → Ok g → (v w c : ℕ) → v < w → (g.page w).formed ≡ true → Sure g.page g.committed v c → c ≤ (g.page w).plan.start
sure_starts g ok v w c lt f s = le_trans s.held_twice (ok.pair s.twice w (lt_of_le_of_lt s.not_above lt) s.formed f).kept_start

-- what is sure in a held server's accepted view is in its log
pub sure_held : {E : Type 0} (g : Group E) → Ok g → (q : Place) (c : ℕ) → (g.server q).held ≡ Log → Sure g.page g.committed (g.server q).accepted c → c ≤ top (g.server q)
sure_held g ok q c l s =
    let log = (ok.server q).logs.log l in
    ⊎_elim
    (λ (e : s.twice ≡ (g.server q).accepted). le_trans s.held_twice (subst (λ (v : ℕ). (g.page v).held_twice ≤ top (g.server q)) (sym e) log.holds.held_twice))
    (λ (lt : s.twice < (g.server q).accepted). le_trans s.held_twice (le_trans (ok.pair s.twice (g.server q).accepted lt s.formed (ok.server q).views.formed).kept_start log.holds.from_start))
    (eq-or-lt_of_le s.not_above)

pub every_later_view : (g : Group Entry) → Whole g → EveryLaterView g
every_later_view g h a i =
    let k = h.answers.each a i in
    record {
      formed = k.formed;
      in_book = k.entry;
      here = k.sure.same;
      later = λ w lt f. (sure_starts g h.ok a.view w a.index lt f k.sure, (sure_up g h.ok a.view w a.index (le_of_lt lt) k.formed f k.sure).same);
      held_twice = (k.sure.twice, k.sure.formed, k.sure.not_above, k.sure.held_twice);
      held = λ q l le. sure_held g h.ok q a.index l (sure_up g h.ok a.view (g.server q).accepted a.index le k.formed (h.ok.server q).views.formed k.sure);
      open' = λ q o lt. le_trans (sure_starts g h.ok a.view (g.server q).accepted a.index lt (h.ok.server q).views.formed k.sure) ((h.settled.server q).settled (inl o));
    }

pub committed_survives : (g : Group Entry) → Whole g → CommittedSurvives g
committed_survives g h q l =
    let fine = h.ok.server q in
    let sure = (fine.logs.log l).sure in
    (sure.same, λ w lt f. (sure_starts g h.ok (g.server q).accepted w (g.server q).cp lt f sure, (sure_up g h.ok (g.server q).accepted w (g.server q).cp (le_of_lt lt) fine.views.formed f sure).same))

pub reads_alone : (g : Group Entry) → Whole g → ReadsAlone g
reads_alone g h q o grant =
    let later = exclusive g h.ok h.near q o grant in
    (later, (h.settled.server q).count o later)

pub one_book : (g : Group Entry) → Whole g → OneBook g
one_book g h = record { book = h.books.book; updates = h.books.updates; lists = λ w f. follows_all [] (g.page w).list (h.books.list w f) }

base_under : (g : Group Entry) → Whole g → (from to : Place) (m : Message Entry)
    → BodyOk g.page g.joins g.committed from to m → BasesBody (λ x. (g.server x).lb) g.page m
    → BaseUnder (λ x. (g.server x).lb) m
base_under g h from to (Join v t) k l = h.bases.join
    (record { from = from; view = v; report = t }) k
base_under g h from to (Form v plan) k l =
    subst (λ (p : Plan). Under (λ x. (g.server x).lb) p.base) k.1 (h.bases.page v k.0)
base_under g h from to (Event v index cp base e) k l = l
base_under g h from to (Beat v cp base) k l = l
base_under g h from to m k l = tt

pub bases_on_both_disks : (g : Group Entry) → Whole g → BasesOnBothDisks g
bases_on_both_disks g h = record {
  log = λ q. (h.bases.server q).log;
  saved = λ q. (h.bases.server q).saved;
  page = h.bases.page;
  join = h.bases.join;
  packet = all g.packets h.ok.packet h.bases.packet;
}
  where
    all : (ps : List (Packet Entry)) → Each (PacketOk g.page g.joins g.committed) ps
        → Each (λ (p : Packet Entry). BasesBody (λ x. (g.server x).lb) g.page p.body) ps
        → Each (λ (p : Packet Entry). BaseUnder (λ x. (g.server x).lb) p.body) ps
    all [] k l = tt
    all (p ∷ ps) k l = (base_under g h p.from p.to p.body k.0 l.0, all ps k.1 l.1)

records_are : (base : ℕ) (items list : List Entry) → Part base items list → base + length items ≤ length list → AreRecords base items list
records_are base items list part le =
    let size = length-drop base list in
    (le, sym (front_is (drop base list) items (omega arith) (λ k l. get_drop base list k ∙ sym (part k l))))

pub stands_for : (g : Group Entry) → Whole g → (q : Place) → StandsFor g q
stands_for g h q =
    let fine = h.ok.server q in
    record {
      order = λ l. let o = fine.logs.order l in (o.0, o.1, o.2, (fine.logs.log l).cp_top);
      log = λ l. let log = fine.logs.log l in records_are _ _ _ log.part log.holds.within;
      saved_order = λ v e r. let o = fine.logs.saved_order v e in (o.0, o.1, (fine.logs.saved v e r).cp_top);
      saved = λ v e r. let log = fine.logs.saved v e r in records_are _ _ _ log.part log.holds.within;
      staged = λ m. let p = fine.modes.pulls m in records_are _ _ _ p.2 (le_trans p.3 (h.ok.page (g.server q).promised p.0).start_within);
      staged_within = λ m. (fine.modes.pulls m).3;
    }

pub within_limits : (g : Group Entry) → Whole g → WithinLimits g
within_limits g h = record {
  count = λ q. (h.within.server q).count;
  indices = λ q l. le_trans ((h.ok.server q).logs.log l).holds.within (h.within.list (g.server q).accepted (h.ok.server q).views.formed);
  log = λ q. (h.within.server q).items;
  saved = λ q v e. (h.within.server q).saved v e;
  list = h.within.list;
  delta = h.within.delta;
  longest = λ q. (h.within.server q).longest;
  promises = λ q. (h.within.server q).delta;
}

-- ---- growth

pub book_grows : (ms : List (Move Entry)) (g : Group Entry) (q : Place) (s : Server Entry) → (new : List Entry) × ((moved_by g q s ms).book ≡ g.book ++ new)
book_grows [] g q s = ([], sym (append-nil g.book))
book_grows (m ∷ ms) g q s =
    let a = book_more m g s in
    let b = book_grows ms (moved g q s m) q (act q (g.clock q) s m) in
    (a.0 ++ b.0, b.1 ∙ ap (λ (l : List Entry). l ++ b.0) a.1 ∙ rw append_assoc refl)
  where
    book_more : (m : Move Entry) (g : Group Entry) (s : Server Entry) → (new : List Entry) × (book_after g.book g.committed s m ≡ g.book ++ new)
    book_more (Committing n) g s = (new_entries g.committed s.base s.items n, refl)
    book_more (Opening lb) g s = (new_entries g.committed s.base s.items (s.base + length s.items), refl)
    book_more (Reading n e) g s = (e ∷ [], refl)
    book_more m g s = ([], sym (append-nil g.book))

pub answers_grow : (ms : List (Move Entry)) (g : Group Entry) (q : Place) (s : Server Entry) → (new : List (Answered Entry)) × ((moved_by g q s ms).answered ≡ new ++ g.answered)
answers_grow [] g q s = ([], refl)
answers_grow (m ∷ ms) g q s =
    let a = answers_more m g s in
    let b = answers_grow ms (moved g q s m) q (act q (g.clock q) s m) in
    (b.0 ++ a.0, b.1 ∙ ap (λ (l : List (Answered Entry)). b.0 ++ l) a.1 ∙ sym (rw append_assoc refl))
  where
    said_more : (say : Say Entry) (g : Group Entry) (s : Server Entry) → (new : List (Answered Entry)) × (said_after g.answered s say ≡ new ++ g.answered)
    said_more (Answers n e) g s = (record { view = s.accepted; index = n; entry = e } ∷ [], refl)
    said_more (Refuses client number cause) g s = ([], refl)
    said_more (Lists n) g s = ([], refl)

    answers_more : (m : Move Entry) (g : Group Entry) (s : Server Entry) → (new : List (Answered Entry)) × (answered_after g.answered s m ≡ new ++ g.answered)
    answers_more (Saying say) g s = said_more say g s
    answers_more m g s = ([], refl)

moves_grow : (g : Group Entry) (q : Place) (ms : List (Move Entry)) → Goes g q (g.server q) ms → Growth g (moved_by g q (g.server q) ms)
moves_grow g q ms h = record { history = goes_grows ms g q (g.server q) h; book = book_grows ms g q (g.server q); answered = answers_grow ms g q (g.server q) }

growth_none : (g g' : Group Entry) → g'.page ≡ g.page → g'.committed ≡ g.committed → g'.joins ≡ g.joins → g'.book ≡ g.book → g'.answered ≡ g.answered → Growth g g'
growth_none g g' p c j b a = record {
  history = subst (λ x. Grows g.page x g.committed g'.committed g.joins g'.joins) (sym p) (subst (λ x. Grows g.page g.page g.committed x g.joins g'.joins) (sym c) (subst (λ x. Grows g.page g.page g.committed g.committed g.joins x) (sym j) (grows_same g.page g.committed g.joins)));
  book = ([], b ∙ sym (append-nil g.book));
  answered = ([], a);
}

growth_same : (g : Group Entry) → Growth g g
growth_same g = growth_none g g refl refl refl refl refl

growth_then : (a b c : Group Entry) → Growth a b → Growth b c → Growth a c
growth_then a b c x y = record {
  history = grows_then x.history y.history;
  book = (x.book.0 ++ y.book.0, y.book.1 ∙ ap (λ (l : List Entry). l ++ y.book.0) x.book.1 ∙ rw append_assoc refl);
  answered = (y.answered.0 ++ x.answered.0, y.answered.1 ∙ ap (λ (l : List (Answered Entry)). y.answered.0 ++ l) x.answered.1 ∙ sym (rw append_assoc refl));
}

steps_grow : (size : List Entry → Entry → ℕ) (g : Group Entry) → Whole g → (q : Place) (i : Input) → Known g q i → Growth g (steps size g q i)
steps_grow size g h q i k = by_if (λ (x : Group Entry). Growth g x) (g.server q).up _ g (λ t. moves_grow g q _ (input_goes size g h q t i k)) (λ _. growth_same g)

cut_grow : (size : List Entry → Entry → ℕ) (g : Group Entry) → Whole g → (q : Place) (i : Input) → Known g q i → Growth g (cut_steps size g q i)
cut_grow size g h q i k = by_if (λ (x : Group Entry). Growth g x) (g.server q).up _ g
    (λ t. by_if (λ (x : Group Entry). Growth g x) (writes_any q (g.clock q) (g.server q) (step_of size g q i)) _ _
    (λ _. moves_grow g q _ (falls g q (g.server q) (good_of g h q)))
    (λ _. moves_grow g q _ (input_goes size g h q t i k)))
    (λ _. growth_same g)

happens_grow : (size : List Entry → Entry → ℕ) (g : Group Entry) → Whole g → (h : Happening) → Growth g (happens size g h)
happens_grow size g w (At q d) = steps_grow size g w q (Does d) tt
happens_grow size g w (Deliver n) = came (numbered g.packets n) refl
  where
    came : (o : Option (Packet Entry)) → numbered g.packets n ≡ o → Growth g (delivered size g o)
    came None e = growth_same g
    came (Some p) e = steps_grow size g w p.to (Comes p.from p.body) (sent_known g w n p e)
happens_grow size g w (CutAt q d) = cut_grow size g w q (Does d) tt
happens_grow size g w (CutDeliver n) = came (numbered g.packets n) refl
  where
    came : (o : Option (Packet Entry)) → numbered g.packets n ≡ o → Growth g (cut_delivered size g o)
    came None e = growth_same g
    came (Some p) e = cut_grow size g w p.to (Comes p.from p.body) (sent_known g w n p e)
happens_grow size g w (Boot q) = by_if (λ (x : Group Entry). Growth g x) (g.server q).up g _ (λ _. growth_same g)
    (λ _. moves_grow g q (Booting g.delta ∷ []) (boot_goes g w q))
happens_grow size g w (Clock q t) = by_if (λ (x : Group Entry). Growth g x) (all_of (clock_tests g q t)) _ g (λ _. growth_none g _ refl refl refl refl refl) (λ _. growth_same g)
happens_grow size g w (Advance d) = growth_none g _ refl refl refl refl refl
happens_grow size g w (Delta d) = by_if (λ (x : Group Entry). Growth g x) (all_of (delta_tests d)) _ g (λ _. growth_none g _ refl refl refl refl refl) (λ _. growth_same g)

pub run_grows : (size : List Entry → Entry → ℕ) (hs : List Happening) (g : Group Entry) → Whole g → Growth g (run size g hs)
run_grows size [] g w = growth_same g
run_grows size (h ∷ hs) g w = growth_then g (happens size g h) (run size (happens size g h) hs) (happens_grow size g w h) (run_grows size hs (happens size g h) (happens_whole size g w h))

-- ---- what a step says

said_answer : (g : Group Entry) (view n : ℕ) (e : Entry) → AnswerOk g.page g.committed (record { view = view; index = n; entry = e }) → (0 < n) × (n ≤ length g.committed) × (slice_get g.committed (n - 1) ≡ Some e)
said_answer g view n e h = (h.positive, h.sure.in_book, h.entry)

said_rightly : (g : Group Entry) (q : Place) (s : Server Entry) (m : Move Entry) → May g q s m → SaidRightly g s m
said_rightly g q s (Saying (Answers n e)) h = said_answer g s.accepted n e h.2
said_rightly g q s (Reading n e) h = (h.2.2, h.2.1, h.2.0.reply, h.2.3)
said_rightly g q s (Choosing plan from) h = h.0
said_rightly g q s m h = tt

all_said : (ms : List (Move Entry)) (g : Group Entry) (q : Place) (s : Server Entry) → Goes g q s ms → AllSaidRightly g q s ms
unfolding Goes
all_said [] g q s h = tt
all_said (m ∷ ms) g q s h = (said_rightly g q s m h.1, all_said ms (moved g q s m) q (act q (g.clock q) s m) h.2)

pub deeds_say_rightly : (size : List Entry → Entry → ℕ) (g : Group Entry) → Whole g → (q : Place) (d : Deed) → (g.server q).up ≡ true → AllSaidRightly g q (g.server q) (step_of size g q (Does d))
deeds_say_rightly size g h q d up = all_said (step_of size g q (Does d)) g q (g.server q) (input_goes size g h q up (Does d) tt)

pub deliveries_say_rightly : (size : List Entry → Entry → ℕ) (g : Group Entry) → Whole g → (n : ℕ) (p : Packet Entry) → numbered g.packets n ≡ Some p → (g.server p.to).up ≡ true → AllSaidRightly g p.to (g.server p.to) (step_of size g p.to (Comes p.from p.body))
deliveries_say_rightly size g h n p e up = all_said (step_of size g p.to (Comes p.from p.body)) g p.to (g.server p.to) (input_goes size g h p.to up (Comes p.from p.body) (sent_known g h n p e))

-- ---- cut-off steps, crashes and boots

-- a server that fell has no base to move
fallen_only : (size : List Entry → Entry → ℕ) (g : Group Entry) (q : Place) → steps size g q (Does Crash) ≡ (if (g.server q).up then moved_by g q (g.server q) (Falling ∷ []) else g)
unfolding all_of
fallen_only size g q = refl

cut_is : (size : List Entry → Entry → ℕ) (g : Group Entry) (q : Place) (i : Input) → (cut_steps size g q i ≡ steps size g q i) ⊎ (cut_steps size g q i ≡ steps size g q (Does Crash))
cut_is size g q i = ⊎_elim
    (λ (u : (g.server q).up ≡ true). ⊎_elim
    (λ (w : writes_any q (g.clock q) (g.server q) (step_of size g q i) ≡ true). inr (cut_true u w ∙ sym (fallen_only size g q ∙ rw u refl)))
    (λ (w : writes_any q (g.clock q) (g.server q) (step_of size g q i) ≡ false). inl (cut_false u w ∙ sym (whole u)))
    (cases_Bool (writes_any q (g.clock q) (g.server q) (step_of size g q i))))
    (λ (u : (g.server q).up ≡ false). inl (down_cut u ∙ sym (down_whole u)))
    (cases_Bool (g.server q).up)
  where
    cut_true : (g.server q).up ≡ true → writes_any q (g.clock q) (g.server q) (step_of size g q i) ≡ true → cut_steps size g q i ≡ moved_by g q (g.server q) (Falling ∷ [])
    cut_true u w = if_is (g.server q).up _ g u ∙ if_is
        (writes_any q (g.clock q) (g.server q) (step_of size g q i)) _ _ w

    cut_false : (g.server q).up ≡ true → writes_any q (g.clock q) (g.server q) (step_of size g q i) ≡ false → cut_steps size g q i ≡ moved_by g q (g.server q) (step_of size g q i)
    cut_false u w = if_is (g.server q).up _ g u ∙ if_not
        (writes_any q (g.clock q) (g.server q) (step_of size g q i)) _ _ w

    whole : (g.server q).up ≡ true → steps size g q i ≡ moved_by g q (g.server q) (step_of size g q i)
    whole u = if_is (g.server q).up _ g u

    down_cut : (g.server q).up ≡ false → cut_steps size g q i ≡ g
    down_cut u = if_not (g.server q).up _ g u

    down_whole : (g.server q).up ≡ false → steps size g q i ≡ g
    down_whole u = if_not (g.server q).up _ g u

pub cut_deeds : (size : List Entry → Entry → ℕ) (g : Group Entry) (q : Place) (d : Deed) → TwoOutcomes size g (CutAt q d) (At q d) q
cut_deeds size g q d = cut_is size g q (Does d)

pub cut_deliveries : (size : List Entry → Entry → ℕ) (g : Group Entry) (n : ℕ) (p : Packet Entry) → numbered g.packets n ≡ Some p → TwoOutcomes size g (CutDeliver n) (Deliver n) p.to
cut_deliveries size g n p e = subst (λ (o : Option (Packet Entry)). (cut_delivered size g o ≡ delivered size g o) ⊎ (cut_delivered size g o ≡ steps size g p.to (Does Crash))) (sym e) (cut_is size g p.to (Comes p.from p.body))

pub crash_keeps_the_mark : (size : List Entry → Entry → ℕ) (g : Group Entry) (q : Place) → (g.server q).up ≡ true → (happens size g (At q Crash)).server q ≡ down (mark_of (g.server q))
crash_keeps_the_mark size g q u = ap (λ (x : Group Entry). x.server q) (fallen_only size g q) ∙ by_if (λ (x : Group Entry). x.server q ≡ down (mark_of (g.server q))) (g.server q).up _ g (λ _. at_self g.server q _) (λ f. cc (u, f))

pub boot_from_the_mark : (size : List Entry → Entry → ℕ) (g : Group Entry) (q : Place) → (g.server q).up ≡ false → (happens size g (Boot q)).server q ≡ booted q (g.clock q) g.delta (mark_of (g.server q))
boot_from_the_mark size g q u = by_if (λ (x : Group Entry). x.server q ≡ booted q (g.clock q) g.delta (mark_of (g.server q))) (g.server q).up g _ (λ f. cc (u, f)) (λ _. at_self g.server q _)
