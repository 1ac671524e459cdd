-- Each line of a run fits.
use Rattle.std.proofs.Common.{◌≡◌, ℕ, zero, suc, ◌+◌, ◌*◌, ◌<◌, ◌≤◌, ◌^◌, Bool, true, false, not, ◌&&◌, List, [], ◌∷◌, ◌++◌, length, Option, Some, None, refl, sym, ap, ◌∙◌, subst, arith, nat_lt, if◌then◌else◌}
use Rattle.std.specs.List.{AllByRecursion}
use Rattle.std.proofs.lemmas.List.{length-append}
use Rattle.harp_base.specs.Fields.{AllFit}
use Rattle.harp_types.specs.declared.server.ServerId.{ServerId}
use Rattle.harp_types.specs.declared.pick.Pick.{Pick}
use Rattle.trace_types.specs.declared.line.Line.{Line}
use Rattle.trace_types.specs.declared.line.Line.TheVariants as line
use Rattle.trace_types.specs.declared.line.LineFault.{LineFault}
use Rattle.trace_types.specs.declared.line.LineFault.TheVariants as fault
use Rattle.trace_types.specs.declared.step.Step.{Step}
use Rattle.trace_types.specs.declared.step.Step.TheVariants as step
use Rattle.trace_claims.proofs.Places.{all-append}
use Rattle.text_spelling.specs.StepFits.{StepFits}
use Rattle.text_spelling.specs.TraceLines.{line_text}
use Rattle.text_spelling.specs.Steps.{step_text}
use Rattle.file_tree.specs.Book.{Entry, updates}
use Rattle.group_rules.specs.Effects.{down}
use Rattle.group_rules.specs.Limits.{delta_tests, room}
use Rattle.group_rules.specs.Moves.{Booting, Falling, Move, moved_by}
use Rattle.group_rules.specs.Names.{place_of}
use Rattle.group_rules.specs.Places.{Zero, One, Two, Place, all_of}
use Rattle.group_rules.specs.Said.{sends_said}
use Rattle.group_rules.specs.State.{Group, Packet, Server, mark_of}
use Rattle.group_rules.specs.Step.{Apply, Ask, Comes, Crash, Does, Flush, Input, ListTree, Power, Suspect, Tick, first_group, list_of, step_of}
use Rattle.group_rules.proofs.Tests.{by_if, is_lt, not_lt}
use Rattle.group_safety.specs.Laws.{Whole}
use Rattle.group_safety.proofs.Safe.{first_whole, sent_known}
use Rattle.group_trace.specs.Lines.{lines_of_moves, listing_of}
use Rattle.group_trace.specs.Refusals.{before_it, net_limit, net_refusal, own_refusal, passes_full_net, refusal}
use Rattle.group_trace.specs.Run.{AreTaken, Turn, bytes_where, group_after, is_elementary, lines_where, moved_in, moved_where, next, run, run_lines, step_lines, turn, with_delta}
use Rattle.group_trace.specs.Scene.{Measures, Scene, first_scene}
use Rattle.trace_text.specs.Fits.{IsElementary, LineFits}
use Rattle.accept_laws.proofs.Weights.{steps_weigh}
use Rattle.accept_laws.specs.Walks.{InputFits, MoveFits, Walks}
use Rattle.accept_laws.proofs.Rules.{steps_walk}
use Rattle.trace_laws.proofs.Keeping.{turn_whole}
use Rattle.trace_laws.proofs.Turns.{IsBegunBy, Made, Turned, asked, boot, came, fell, other, own_none, take_step, whole}
use Rattle.accept_laws.specs.Within.{BodyIn, IsWithin, PageIn, ServerIn, latest}
use Rattle.accept_laws.specs.Laws.{BooksAreFew, LineIn, RunsFit, TakeBytes, ToldFits, all_told, told}
use Rattle.accept_laws.proofs.Counts.{base_silent, begun_asks, book_are, bytes_are, kind_reads, packets_are, readings, weighed}
use Rattle.accept_laws.proofs.Listing.{listing_fits}
use Rattle.accept_laws.proofs.Messages.{AreSmall}
use Rattle.accept_laws.proofs.Said.{moves_fit}
use Rattle.accept_laws.proofs.Texts.{short_count}
use Rattle.accept_laws.proofs.Steps.{arrived, ask_fits, came_in, known_in, within_more, within_step}

-- ---- what a step begins with

input_from : (n late : ℕ) (g : Group Entry) → Whole g → IsWithin n late g → (s : Step) (q : Place)
    (i : Input) → IsBegunBy g s q i → StepFits s
    → InputFits (n + 1) (late + latest 1) (g.clock q) (list_of g q) (g.server q) i
input_from n late g h w _ _ _ (asked server client number cred call) f =
    ask_fits n late g w _ (step.Ask server client number cred call) client number cred call server f
input_from n late g h w _ _ _ (came k p at) f =
    let more = within_more n (n + 1) late (late + latest 1) (omega arith) (omega arith) g w in
    let known = sent_known g h k p at in
    came_in (n + 1) (late + latest 1) g h more p.to p.from p.body known.0
    (arrived (λ (x : Packet Entry). BodyIn (n + 1) x.body) g.packets k p more.packet at)
input_from n late g h w _ _ _ (other s q Suspect o x) f =
    let count = (w.server q).count in omega (arith, count)
input_from n late g h w _ _ _ (other s q (Ask client number cred call) o x) f = absurd x
input_from n late g h w _ _ _ (other s q d o x) f = tt

walks_from : (n late : ℕ) (g : Group Entry) → Whole g → IsWithin n late g → (s : Step) (q : Place)
    (i : Input) (ms : List (Move Entry)) → IsBegunBy g s q i → StepFits s → Made g q i ms
    → Walks (MoveFits (n + 1) (late + latest 1)) q (g.clock q) (g.server q) ms
walks_from n late g h w s q i _ b f (whole size up) =
    let more = within_more n (n + 1) late (late + latest 1) (omega arith) (omega arith) g w in
    steps_walk (n + 1) (late + latest 1) size q (g.clock q) (list_of g q) (g.server q) i
    (known_in (n + 1) (late + latest 1) g h more q) (input_from n late g h w s q i b f)
walks_from n late g h w s q i _ b f (fell up) = (tt, tt)
walks_from n late g h w s q i _ b f (boot down) = (tt, tt)

-- ---- a scene on the way

-- the packets that are sent before a step, and then in it
abbrev pub most_packets : ℕ
most_packets = 536519584

pub record IsRunning (n late : ℕ) (w : Scene) : Type 0 where
  pub whole_so : Whole w.group
  pub within : IsWithin n late w.group
  pub book : length w.group.book ≤ length (updates w.group.book) + n
  pub sent : length w.group.packets ≤ w.sent
  pub packets : length w.group.packets ≤ most_packets

-- ---- packets

where_sent : (m : Measures) → TakeBytes m → (g : Group Entry) (o : Option Turn)
    → length (moved_where g o).packets ≤ length g.packets + bytes_where m g o
where_sent m b g None = omega arith
where_sent m b g (Some x) =
    let all = packets_are x.1 g x.0 (g.server x.0) in
    let bytes = bytes_are m b (list_of (moved_in g x) x.0) x.1 in
    omega (arith, all, bytes)

pub packets_sent : (m : Measures) → TakeBytes m → (w : Scene) (s : Step)
    → length w.group.packets ≤ w.sent
    → length (group_after m w s).packets ≤ (next m w s).sent
packets_sent m b w (step.Clock server reading) l = omega (arith, l)
packets_sent m b w (step.Advance millis) l = omega (arith, l)
packets_sent m b w (step.Delta millis) l =
    by_if (λ (g : Group Entry). length g.packets ≤ w.sent + 0) (all_of (delta_tests millis)) _
    w.group (λ _. omega (arith, l)) (λ _. omega (arith, l))
packets_sent m b w s l =
    let more = where_sent m b w.group (turn m w s) in omega (arith, l, more)

net_none : (a b : Option LineFault) → before_it a b ≡ None → b ≡ None
net_none None b e = e
net_none (Some f) b e = absurd cc

sent_few : (w : Scene) → (if nat_lt net_limit w.sent then Some fault.NetFull else None) ≡ None
    → w.sent ≤ 532676608
unfolding net_limit
sent_few w e = by (nat_lt 532676608 w.sent) refl e
  where
    by : (b : Bool) → nat_lt 532676608 w.sent ≡ b → (if b then Some fault.NetFull else None) ≡ None
        → w.sent ≤ 532676608
    by true x e = absurd cc
    by false x e = not_lt 532676608 w.sent x

-- of a step that a full net refuses
net_few : (m : Measures) (w : Scene) (s : Step) → passes_full_net s ≡ false
    → refusal m w s ≡ None → w.sent ≤ 532676608
net_few m w s p r =
    let net : net_refusal w s ≡ None = net_none (own_refusal m w.group s) (net_refusal w s) r in
    sent_few w (subst (λ (b : Bool). (if not b && nat_lt net_limit w.sent then Some fault.NetFull
    else None) ≡ None) p net)

made_few : (g : Group Entry) (q : Place) (i : Input) (ms : List (Move Entry)) → Made g q i ms
    → length (sends_said ms) ≤ 3842976
made_few g q i _ (whole size up) =
    let few = steps_weigh size q (g.clock q) (list_of g q) (g.server q) i in
    let all = weighed (sends_said (step_of size g q i)) in
    omega (arith, few, all)
made_few g q i _ (fell up) = omega arith
made_few g q i _ (boot down) = omega arith

turn_packets : (m : Measures) (w : Scene) → Whole w.group → length w.group.packets ≤ w.sent
    → (s : Step) → refusal m w s ≡ None → is_elementary s ≡ true → w.sent ≤ 532676608
    → length (group_after m w s).packets ≤ most_packets
turn_packets m w h l s r e few =
    take_step (λ g' ls. length g'.packets ≤ most_packets) m w h s
    (own_none (own_refusal m w.group s) (net_refusal w s) r) e
    (λ g' k same. let is = ap (λ (ps : List (Packet Entry)). length ps) same.packets in
    omega (arith, is, l, few))
    (λ q i ms t.
    let all = packets_are ms w.group q (w.group.server q) in
    let most = made_few w.group q i ms t.made in
    omega (arith, all, most, l, few))

crash_packets : (m : Measures) (w : Scene) (server : ServerId) (pick : Pick)
    → length (group_after m w (step.Crash server pick)).packets ≡ length w.group.packets
crash_packets m w server pick =
    let g = w.group in
    let q = place_of server in
    let all = packets_are (step_of m.size g q (Does Crash)) g q (g.server q) in
    let none = base_silent (down (mark_of (g.server q))) in
    omega (arith, all, none)

pub packets_few : (m : Measures) (w : Scene) → Whole w.group → length w.group.packets ≤ w.sent
    → length w.group.packets ≤ most_packets → (s : Step) → refusal m w s ≡ None
    → is_elementary s ≡ true → length (group_after m w s).packets ≤ most_packets
packets_few m w h l few (step.Clock server reading) r e = few
packets_few m w h l few (step.Advance millis) r e = few
packets_few m w h l few (step.Delta millis) r e =
    by_if (λ (g : Group Entry). length g.packets ≤ most_packets) (all_of (delta_tests millis)) _
    w.group (λ _. few) (λ _. few)
packets_few m w h l few (step.Stop server calls pick) r e = few
packets_few m w h l few (step.Crash server pick) r e =
    let same = crash_packets m w server pick in omega (arith, same, few)
packets_few m w h l few s r e = turn_packets m w h l s r e (net_few m w s refl r)

-- ---- the book

step_book : (m : Measures) (w : Scene) (n : ℕ) → Whole w.group
    → length w.group.book ≤ length (updates w.group.book) + n → (s : Step)
    → own_refusal m w.group s ≡ None → is_elementary s ≡ true
    → length (group_after m w s).book
    ≤ length (updates (group_after m w s).book) + (n + told s)
step_book m w n h l s r e =
    let C : List Entry → Type 0 =
    λ (b : List Entry). length b ≤ length (updates b) + (n + told s) in
    take_step (λ g' ls. C g'.book) m w h s r e
    (λ g' k same. subst C (sym same.book) (omega (arith, l)))
    (λ q i ms t.
    let g = w.group in
    let after = turn_whole g s q i ms t in
    let all = book_are ms g q (g.server q) in
    let a = ap (λ (es : List Entry). length es) h.books.updates in
    let b = ap (λ (es : List Entry). length es) after.books.updates in
    let few = kind_reads q (g.clock q) (g.server q) i ms t.kind in
    let one = begun_asks g s q i t.begun in
    omega (arith, all, a, b, few, one, l))

-- ---- a step

pub step_whole : (m : Measures) (w : Scene) → Whole w.group → (s : Step)
    → own_refusal m w.group s ≡ None → is_elementary s ≡ true → Whole (group_after m w s)
step_whole m w h s r e =
    take_step (λ g' ls. Whole g') m w h s r e (λ g' k same. k)
    (λ q i ms t. turn_whole w.group s q i ms t)

pub running_step : (m : Measures) → TakeBytes m → (w : Scene) (n late : ℕ) → IsRunning n late w
    → (s : Step) → refusal m w s ≡ None → is_elementary s ≡ true → StepFits s
    → IsRunning (n + told s) (late + latest (told s)) (next m w s)
running_step m b w n late h s r e f =
    let own = own_none (own_refusal m w.group s) (net_refusal w s) r in
    record {
      whole_so = step_whole m w h.whole_so s own e;
      within = within_step m w n late h.whole_so h.within s own e f;
      book = step_book m w n h.whole_so h.book s own e;
      sent = packets_sent m b w s h.sent;
      packets = packets_few m w h.whole_so h.sent h.packets s r e;
    }

-- as a run goes on
pub runs_on : (m : Measures) → TakeBytes m → (w : Scene) (n : ℕ) → IsRunning n (latest n) w
    → (s : Step) → refusal m w s ≡ None → is_elementary s ≡ true → StepFits s
    → IsRunning (n + told s) (latest (n + told s)) (next m w s)
runs_on m b w n h s r e f =
    let after = running_step m b w n (latest n) h s r e f in
    record {
      whole_so = after.whole_so;
      within = within_more (n + told s) (n + told s) (latest n + latest (told s))
          (latest (n + told s)) (omega arith) (omega arith) (next m w s).group after.within;
      book = after.book;
      sent = after.sent;
      packets = after.packets;
    }

short_event : (s : Step) → length (step_text s) ≤ 19998 → length (line_text (line.Event s)) ≤ 20000
unfolding line_text
short_event s l = simp length-append (omega (arith, l))

short_delivery : (k : ℕ) → k < 10 ^ 18 → length (step_text (step.Deliver k)) ≤ 19998
unfolding step_text
short_delivery k l = let a = short_count k l in simp length-append (omega (arith, a))

elementary : (s : Step) → is_elementary s ≡ true → IsElementary s
elementary (step.Pump among) e = absurd cc
elementary s e = tt

told_most : (s : Step) → told s ≤ 1
told_most (step.Deliver n) = omega arith
told_most s = omega arith

-- a book has as many entries as updates and reads
pub book_few : (n late : ℕ) (g : Group Entry) → Whole g → IsWithin n late g
    → length g.book ≤ length (updates g.book) + n → length g.book ≤ n + n
book_few n late g h w l =
    let same = ap (λ (es : List Entry). length es) h.books.updates in
    let list = h.ok.committed.2.within in
    let most = (w.page h.ok.committed.0).few in
    omega (arith, same, list, most, l)

book_small : (n late : ℕ) (g : Group Entry) → Whole g → IsWithin n late g
    → length g.book ≤ length (updates g.book) + n → n ≤ 1000000 → length g.book < 10 ^ 18
book_small n late g h w l few = let all = book_few n late g h w l in omega (arith, all, few)

pub step_fits : (m : Measures) → TakeBytes m → (w : Scene) (n late : ℕ) → IsRunning n late w
    → AreSmall (n + 1) (late + latest 1) → (s : Step) → refusal m w s ≡ None
    → is_elementary s ≡ true → StepFits s → length (step_text s) ≤ 19998
    → AllByRecursion LineIn (step_lines m w s)
step_fits m b w n late h small s r e f short =
    let own = own_none (own_refusal m w.group s) (net_refusal w s) r in
    let after = running_step m b w n late h s r e f in
    let one = told_most s in
    let count = small.count in
    let within' : IsWithin (n + 1) (late + latest 1) (group_after m w s) =
    within_more (n + told s) (n + 1) (late + latest (told s)) (late + latest 1)
    (omega (arith, one)) (omega (arith, one)) (group_after m w s) after.within in
    let few = after.packets in (
      ((f, elementary s e), short_event s short),
      take_step (λ g' ls. IsWithin (n + 1) (late + latest 1) g' → length g'.book < 10 ^ 18
          → length g'.packets < 10 ^ 18 → AllByRecursion LineIn ls) m w h.whole_so s own e
          (λ g' k same x y z. tt)
          (λ q i ms t x y z.
          let g = w.group in
          let more = within_more n (n + 1) late (late + latest 1) (omega arith) (omega arith) g
          h.within in
          moves_fit (n + 1) (late + latest 1) small ms g q (listing_of g s) t.goes
          (walks_from n late g h.whole_so h.within s q i ms t.begun f t.made) more
          (turn_whole g s q i ms t) x
          (book_small n late g h.whole_so h.within h.book (omega (arith, count))) y z
          (listing_fits (n + 1) (late + latest 1) small g h.whole_so more s))
          within'
          (book_small (n + told s) (late + latest (told s)) (group_after m w s) after.whole_so
          after.within after.book (omega (arith, count, one)))
          (omega (arith, few)),
    )

-- ---- a run

is_sent : (g : Group Entry) (k : ℕ)
    → (if nat_lt k (length g.packets) then None else Some fault.NoPacket) ≡ None
    → k < length g.packets
is_sent g k e = by (nat_lt k (length g.packets)) refl e
  where
    by : (b : Bool) → nat_lt k (length g.packets) ≡ b
        → (if b then None else Some fault.NoPacket) ≡ None → k < length g.packets
    by true x e = is_lt k (length g.packets) x
    by false x e = absurd cc

-- a packet that is delivered was sent
pub taken_fits : (m : Measures) (w : Scene) (s : Step) → length w.group.packets ≤ most_packets
    → own_refusal m w.group s ≡ None → ToldFits s
    → StepFits s × (length (step_text s) ≤ 19998)
taken_fits m w (step.Deliver k) few r f =
    let sent = is_sent w.group k r in
    let fits : k < 10 ^ 18 = omega (arith, sent, few) in
    (fits, short_delivery k fits)
taken_fits m w s few r f = f

pub run_fits : (m : Measures) → TakeBytes m → (ss : List Step) (w : Scene) (n : ℕ)
    → IsRunning n (latest n) w → AreTaken m w ss → AllFit ToldFits ss
    → n + all_told ss + 1 ≤ 1000000 → AllByRecursion LineIn (run_lines m w ss)
unfolding run_lines
run_fits m b [] w n h t f l = tt
run_fits m b (s ∷ ss) w n h t f l =
    let own = own_none (own_refusal m w.group s) (net_refusal w s) t.0 in
    let fits = taken_fits m w s h.packets own f.0 in
    all-append LineIn (step_lines m w s) (run_lines m (next m w s) ss)
    (step_fits m b w n (latest n) h
    (record { count = omega (arith, l); moment = omega (arith, l) }) s t.0 t.1 fits.0 fits.1)
    (run_fits m b ss (next m w s) (n + told s) (runs_on m b w n h s t.0 t.1 fits.0) t.2 f.1
    (omega (arith, l)))

first_pages : (v : ℕ) → PageIn 0 0 (first_group.page v)
first_pages zero = record { few = omega arith; entries = tt; horizon = omega arith }
first_pages (suc v) = record { few = omega arith; entries = tt; horizon = omega arith }

first_within : IsWithin 0 0 first_group
unfolding all_of room
first_within = record {
  server = λ q. one q;
  page = first_pages;
  join = λ j i. absurd i;
  packet = tt;
  book = tt;
  clock = λ q. omega arith;
}
  where
    one : (q : Place) → ServerIn 0 0 (first_group.server q)
    one Zero = record { count = omega arith; delta = omega arith; horizon = omega arith }
    one One = record { count = omega arith; delta = omega arith; horizon = omega arith }
    one Two = record { count = omega arith; delta = omega arith; horizon = omega arith }

pub first_running : IsRunning 0 (latest 0) first_scene
first_running = record {
  whole_so = first_whole;
  within = first_within;
  book = omega arith;
  sent = omega arith;
  packets = omega arith;
}

pub runs_fit : RunsFit
runs_fit m b ss t f l = run_fits m b ss first_scene 0 first_running t f (omega (arith, l))

pub run_running : (m : Measures) → TakeBytes m → (ss : List Step) (w : Scene) (n : ℕ)
    → IsRunning n (latest n) w → AreTaken m w ss → AllFit ToldFits ss
    → IsRunning (n + all_told ss) (latest (n + all_told ss)) (run m w ss)
unfolding run
run_running m b [] w n h t f =
    let same : n ≡ n + 0 = omega arith in
    subst (λ (k : ℕ). IsRunning k (latest k) w) same h
run_running m b (s ∷ ss) w n h t f =
    let own = own_none (own_refusal m w.group s) (net_refusal w s) t.0 in
    let fits = taken_fits m w s h.packets own f.0 in
    let same : n + told s + all_told ss ≡ n + (told s + all_told ss) = omega arith in
    subst (λ (k : ℕ). IsRunning k (latest k) (run m (next m w s) ss)) same
    (run_running m b ss (next m w s) (n + told s) (runs_on m b w n h s t.0 t.1 fits.0) t.2 f.1)

pub books_few : BooksAreFew
books_few m b ss t f l =
    let h = run_running m b ss first_scene 0 first_running t f in
    book_small (0 + all_told ss) (latest (0 + all_told ss)) (run m first_scene ss).group h.whole_so
    h.within h.book (omega (arith, l))
