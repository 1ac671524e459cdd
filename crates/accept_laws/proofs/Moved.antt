-- Each move of a server keeps the group within its bounds.
use Rattle.std.proofs.Common.{◌≡◌, ℕ, zero, suc, ◌+◌, ◌-◌, ◌*◌, ◌/◌, ◌<◌, ◌≤◌, ◌&&◌, ◌⊎◌, Bool, true, false, List, [], ◌∷◌, ◌++◌, length, take, drop, max, min, Option, Some, None, refl, sym, subst, inl, inr, arith, ⊎_elim, nat_lt, if◌then◌else◌}
use Rattle.std.proofs.lemmas.List.{length-append, length-take}
use Rattle.file_tree.specs.Book.{Entry}
use Rattle.group_rules.specs.Effects.{NewLog, booted, demoted_by, down, empty_log, lengthened, load_tests, loaded, lost_log, report_of, resting, saved_log, saving}
use Rattle.group_rules.specs.Limits.{IsDelta, by_held, can_have, is_log, is_outside, room}
use Rattle.group_rules.specs.Moves.{Accepting, Appending, Booting, Choosing, Committing, Demoting, Falling, Heeding, Joining, Move, Opening, Reading, Saving, Saying, Sending, act, entered, heeded_page, into_page, moved, moved_by, new_entries, new_page, raised_page}
use Rattle.group_rules.specs.Places.{Place, all_of, is_p2, put}
use Rattle.group_rules.specs.State.{Ack, Beat, Demote, Empty, Event, Fetch, Form, Formed, Give, Group, Held, Invite, Join, JoinMade, Log, Lost, Mark, Message, Packet, Page, Plan, Pulls, Report, Saved, Server, longest_of, mark_of, top}
use Rattle.group_rules.proofs.Tests.{by_if}
use Rattle.group_safety.specs.Entered.{ServerWithin}
use Rattle.group_safety.specs.Facts.{ServerOk}
use Rattle.group_safety.specs.Words.{Each, In}
use Rattle.group_safety.proofs.BookLists.{next_is, only_updates}
use Rattle.group_safety.proofs.Common.{each_at}
use Rattle.group_safety.proofs.Entering.{BesideMay}
use Rattle.group_safety.proofs.Grow.{by_page, puts}
use Rattle.group_safety.proofs.Moving.{Good, Goes, its, its_within}
use Rattle.group_safety.proofs.Quiet.{Fine}
use Rattle.accept_laws.specs.Walks.{EntryWithin, MoveFits, SendFits, Walks}
use Rattle.accept_laws.specs.Within.{BodyIn, IsWithin, PageIn, ReportIn, ServerIn}
use Rattle.accept_laws.proofs.Lists.{each_append, each_drop, each_part, each_take}

-- ---- the numbers of a server

-- those that it shows, at most n
pub record NumbersIn (n : ℕ) (held : Held) (s : Server Entry) : Type 0 where
  pub base : by_held held s.base s.lb ≤ n
  pub lb : by_held held s.lb s.lb ≤ n
  pub ap : by_held held s.ap s.lb ≤ n
  pub cp : by_held held s.cp s.lb ≤ n
  pub top : by_held held (s.base + length s.items) s.lb ≤ n

pub lb_in : (n : ℕ) (g : Group Entry) (q : Place) (s : Server Entry) → Fine g q s
    → length (g.page s.accepted).list ≤ n → s.lb ≤ n
lb_in n g q s f few = let low = f.logs.lb_sure.within in omega (arith, low, few)

pub numbers_in : (n : ℕ) (g : Group Entry) (q : Place) (s : Server Entry) → Fine g q s
    → length (g.page s.accepted).list ≤ n → NumbersIn n s.held s
numbers_in n g q s f few = by s.held refl
  where
    by : (h : Held) → s.held ≡ h → NumbersIn n h s
    by Log e =
        let log = f.logs.log e in
        let order = f.logs.order e in
        let a = log.cp_top in
        let b = log.holds.within in
        let x = order.0 in
        let y = order.1 in
        let z = order.2 in
        record {
          base = omega (arith, a, b, x, y, z, few);
          lb = omega (arith, a, b, y, z, few);
          ap = omega (arith, a, b, z, few);
          cp = omega (arith, a, b, few);
          top = omega (arith, b, few);
        }
    by Lost e =
        let low = lb_in n g q s f few in
        record { base = low; lb = low; ap = low; cp = low; top = low }
    by Empty e =
        record {
          base = omega arith;
          lb = omega arith;
          ap = omega arith;
          cp = omega arith;
          top = omega arith;
        }

-- ---- a server

demoted_in : (n late : ℕ) (s : Server Entry) (v : ℕ) (b : Bool) → v / 3 ≤ n → ServerIn n late s
    → ServerIn n late (demoted_by b s v)
demoted_in n late s v true le h = record { count = h.count; delta = h.delta; horizon = h.horizon }
demoted_in n late s v false le h = record { count = le; delta = h.delta; horizon = h.horizon }

down_in : (n late : ℕ) (m : Mark Entry) → m.promised / 3 ≤ n → ServerIn n late (down m)
down_in n late m le = record { count = le; delta = omega arith; horizon = omega arith }

saved_in : (n late : ℕ) (q : Place) (s : Server Entry) (o : Option (Saved Entry))
    → ServerIn n late s → ServerIn n late (down (mark_of (saving q s o)))
saved_in n late q s (Some v) h = down_in n late (mark_of s) h.count
saved_in n late q s None h =
    by_if (λ (x : Server Entry). ServerIn n late (down (mark_of x))) (is_log s.held) _ s
    (λ _. down_in n late _ h.count) (λ _. down_in n late (mark_of s) h.count)

booted_in : (n late : ℕ) (q : Place) (clock d : ℕ) (s : Server Entry) → d ≤ 100000
    → longest_of s.longest ≤ 100000 → clock ≤ late → ServerIn n late s
    → ServerIn n late (booted q clock d (mark_of s))
booted_in n late q clock d s l k c h =
    by_if (λ (x : Server Entry). ServerIn n late x) (is_p2 q && is_outside s.role) _ _
    (λ _. rests Empty (empty_log s.lb))
    (λ _. loads s.saved)
  where
    rests : (held : Held) (log : NewLog Entry)
        → ServerIn n late (resting clock d (lengthened d (mark_of s)) held log)
    rests held log = record { count = h.count; delta = l; horizon = omega (arith, l, k, c) }

    loads : (o : Option (Saved Entry))
        → ServerIn n late (loaded q clock d (lengthened d (mark_of s)) o)
    loads None = rests Lost (lost_log s.lb)
    loads (Some v) =
        by_if (λ (x : Server Entry). ServerIn n late x)
        (all_of (can_have q s.role ∷ load_tests s.lb v)) _ _
        (λ _. rests Log (saved_log q s.lb v)) (λ _. rests Lost (lost_log s.lb))

server_moved : (n late : ℕ) (q : Place) (clock : ℕ) (g : Group Entry) (s : Server Entry)
    (m : Move Entry) → clock ≤ late → ServerWithin s → ServerIn n late s → BesideMay g q s m
    → MoveFits n late s m → ServerIn n late (act q clock s m)
server_moved n late q clock g s (Joining v duty) c w h may f =
    record { count = f; delta = h.delta; horizon = h.horizon }
server_moved n late q clock g s (Heeding items cp base) c w h may f =
    let a = h.delta in
    let b = h.horizon in
    record { count = h.count; delta = h.delta; horizon = omega (arith, a, b, c) }
server_moved n late q clock g s (Demoting v) c w h may f =
    demoted_in n late s v (nat_lt v s.promised) f h
server_moved n late q clock g s Saving c w h may f = saved_in n late q s s.saved h
server_moved n late q clock g s Falling c w h may f = down_in n late (mark_of s) h.count
server_moved n late q clock g s (Booting d) c w h may f =
    booted_in n late q clock d s may.1 w.longest.1 c h
server_moved n late q clock g s m c w h may f =
    record { count = h.count; delta = h.delta; horizon = h.horizon }

-- ---- the pages

page_put : (n late : ℕ) (page : ℕ → Page Entry) (w : ℕ) (p : Page Entry) → PageIn n late p
    → ((v : ℕ) → PageIn n late (page v)) → (v : ℕ) → PageIn n late (put page w p v)
page_put n late page w p new h v =
    by_page w (puts w page p) (λ v (r : Page Entry). PageIn n late r) new v (h v)

page_moved : (n late : ℕ) (g : Group Entry) (q : Place) (s : Server Entry) (m : Move Entry)
    → Good g q s → BesideMay g q s m → ((v : ℕ) → PageIn n late (g.page v)) → MoveFits n late s m
    → (v : ℕ) → PageIn n late ((moved g q s m).page v)
page_moved n late g q s (Choosing plan from) good may h f =
    let few = (h from).few in
    let cut = length-take plan.start (g.page from).list in
    page_put n late g.page s.promised _ (record {
      few = omega (arith, few, cut);
      entries = each_take (EntryWithin n late) plan.start (g.page from).list (h from).entries;
      horizon = f;
    }) h
page_moved n late g q s (Accepting plan role log) good may h f =
    let p = h s.promised in
    page_put n late g.page s.promised _
    (record { few = p.few; entries = p.entries; horizon = p.horizon }) h
page_moved n late g q s (Opening lb) good may h f =
    let p = h s.accepted in
    page_put n late g.page s.accepted _
    (record { few = p.few; entries = p.entries; horizon = p.horizon }) h
page_moved n late g q s (Heeding items cp base) good may h f =
    let p = h s.accepted in
    page_put n late g.page s.accepted _
    (record { few = p.few; entries = p.entries; horizon = p.horizon }) h
page_moved n late g q s (Appending e) good may h f =
    let p = h s.accepted in
    let list = (g.page s.accepted).list in
    let updates = good.beside.books.list s.accepted (its good).views.formed in
    let next = next_is list e (only_updates [] list updates) may.2 may.3 in
    let index = next.index in
    let most = f.index in
    let long = length-append list (e ∷ []) in
    page_put n late g.page s.accepted _ (record {
      few = omega (arith, index, most, long);
      entries = each_append (EntryWithin n late) list (e ∷ []) p.entries (f, tt);
      horizon = p.horizon;
    }) h
page_moved n late g q s m good may h f = h

-- ---- joins, messages and the book

join_moved : (n late : ℕ) (g : Group Entry) (q : Place) (s : Server Entry) (m : Move Entry)
    → Good g q s → ServerIn n late s → length (g.page s.accepted).list ≤ n
    → ((j : JoinMade) → In g.joins j → ReportIn n late j.report)
    → (j : JoinMade) → In (moved g q s m).joins j → ReportIn n late j.report
join_moved n late g q s (Joining v duty) good w few h j (inl same) =
    let numbers = numbers_in n g q s (its good) few in
    subst (λ (x : JoinMade). ReportIn n late x.report) same (record {
      base = numbers.base;
      lb = numbers.lb;
      cp = numbers.cp;
      top = numbers.top;
      horizon = w.horizon;
    })
join_moved n late g q s (Joining v duty) good w few h j (inr old) = h j old
join_moved n late g q s m good w few h j i = h j i

thirds : (a b n : ℕ) → a ≤ b → b / 3 ≤ n → a / 3 ≤ n
thirds a b n l k = omega (arith, l, k)

body_in : (n late : ℕ) (g : Group Entry) (q : Place) (s : Server Entry) → Good g q s
    → ServerIn n late s → ((v : ℕ) → PageIn n late (g.page v)) → (m : Message Entry)
    → SendFits s m → BodyIn n m
body_in n late g q s good w h (Invite v) f = thirds v s.promised n f w.count
body_in n late g q s good w h (Fetch v index) f =
    let pulls = (its good).modes.pulls f.0 in
    let start = (good.ok.page s.promised pulls.0).start_within in
    let few = (h s.promised).few in
    let within = pulls.3 in
    let is = f.1 in
    omega (arith, start, few, within, is)
body_in n late g q s good w h (Formed v lb) f =
    let low = lb_in n g q s (its good) (h s.accepted).few in omega (arith, low, f)
body_in n late g q s good w h (Give v index items) f =
    let most = (its_within good).items in
    let few = f.1 in
    (f.0, omega (arith, most, few))
body_in n late g q s good w h m f = tt

packet_moved : (n late : ℕ) (g : Group Entry) (q : Place) (s : Server Entry) (m : Move Entry)
    → Good g q s → ServerIn n late s → ((v : ℕ) → PageIn n late (g.page v)) → MoveFits n late s m
    → Each (λ (p : Packet Entry). BodyIn n p.body) g.packets
    → Each (λ (p : Packet Entry). BodyIn n p.body) (moved g q s m).packets
packet_moved n late g q s (Sending to m) good w h f old =
    (body_in n late g q s good w h m f, old)
packet_moved n late g q s m good w h f old = old

new_in : (n late : ℕ) (g : Group Entry) (q : Place) (s : Server Entry) (k : ℕ) → Good g q s
    → s.held ≡ Log → ((v : ℕ) → PageIn n late (g.page v))
    → Each (EntryWithin n late) (new_entries g.committed s.base s.items k)
new_in n late g q s k good held h =
    let log = (its good).logs.log held in
    let E = EntryWithin n late in
    each_drop E (length g.committed - s.base) (take (k - s.base) s.items)
    (each_take E (k - s.base) s.items
    (each_part E s.base s.items (g.page s.accepted).list log.part (h s.accepted).entries))

book_moved : (n late : ℕ) (g : Group Entry) (q : Place) (s : Server Entry) (m : Move Entry)
    → Good g q s → BesideMay g q s m → ((v : ℕ) → PageIn n late (g.page v)) → MoveFits n late s m
    → Each (EntryWithin n late) g.book → Each (EntryWithin n late) (moved g q s m).book
book_moved n late g q s (Committing k) good may h f old =
    each_append (EntryWithin n late) g.book _ old (new_in n late g q s k good may h)
book_moved n late g q s (Opening lb) good may h f old =
    each_append (EntryWithin n late) g.book _ old
    (new_in n late g q s (s.base + length s.items) good may.1 h)
book_moved n late g q s (Reading index e) good may h f old =
    each_append (EntryWithin n late) g.book (e ∷ []) old (f, tt)
book_moved n late g q s m good may h f old = old

-- ---- all of it

pub within_moved : (n late : ℕ) (g : Group Entry) (q : Place) (s : Server Entry) (m : Move Entry)
    → Good g q s → BesideMay g q s m → IsWithin n late g → MoveFits n late s m
    → IsWithin n late (moved g q s m)
within_moved n late g q s m good may w f =
    let own : ServerIn n late s =
    subst (λ (x : Server Entry). ServerIn n late x) good.is (w.server q) in
    record {
      server = each_at (λ x (y : Server Entry). ServerIn n late y) g.server q
          (act q (g.clock q) s m) w.server
          (server_moved n late q (g.clock q) g s m (w.clock q) (its_within good) own may f);
      page = page_moved n late g q s m good may w.page f;
      join = join_moved n late g q s m good own (w.page s.accepted).few w.join;
      packet = packet_moved n late g q s m good own w.page f w.packet;
      book = book_moved n late g q s m good may w.page f w.book;
      clock = w.clock;
    }

pub within_moves : (ms : List (Move Entry)) (n late : ℕ) (g : Group Entry) (q : Place)
    (s : Server Entry) → Goes g q s ms → Walks (MoveFits n late) q (g.clock q) s ms
    → IsWithin n late g → IsWithin n late (moved_by g q s ms)
unfolding Goes
within_moves [] n late g q s goes walk w = w
within_moves (m ∷ ms) n late g q s goes walk w =
    within_moves ms n late (moved g q s m) q (act q (g.clock q) s m) goes.2 walk.1
    (within_moved n late g q s m goes.0 goes.1.2 w walk.0)
