-- What a server's moves say fits, where they lead to a group within its bounds.
use Rattle.std.proofs.Common.{◌≡◌, ℕ, zero, suc, ◌+◌, ◌-◌, ◌*◌, ◌<◌, ◌≤◌, ◌^◌, Bool, List, [], ◌∷◌, ◌++◌, drop, filter, length, Option, Some, None, refl, sym, subst, inl, inr, arith, if◌then◌else◌}
use Rattle.std.specs.List.{AllByRecursion}
use Rattle.std.proofs.lemmas.List.{length-drop}
use Rattle.std.proofs.lemmas.Option.{slice_get_within}
use Rattle.harp_base.specs.Fields.{AllFit}
use Rattle.harp_types.specs.Update.{is_update}
use Rattle.harp_types.specs.declared.reply.DirEntry.{DirEntry}
use Rattle.harp_types.specs.declared.reply.Reply.{Reply}
use Rattle.harp_types.specs.declared.reply.Reply.TheVariants as reply
use Rattle.harp_types.specs.declared.state.StateLine.{StateLine}
use Rattle.trace_types.specs.declared.line.Line.{Line}
use Rattle.trace_types.specs.declared.line.Line.TheVariants as line
use Rattle.trace_claims.proofs.Places.{all-append}
use Rattle.file_tree.specs.Book.{Entry, updates}
use Rattle.group_rules.specs.Moves.{Appending, Committing, Move, Opening, Reading, Saying, Sending, act, answered_after, book_after, moved, moved_by, packets_after}
use Rattle.group_rules.specs.Names.{id_of}
use Rattle.group_rules.specs.Places.{Place}
use Rattle.group_rules.specs.Shown.{cause_of, state_of}
use Rattle.group_rules.specs.State.{Answered, Answers, Group, Lists, Message, Packet, Refuses, Say, Server}
use Rattle.group_rules.proofs.Tests.{by_if}
use Rattle.group_safety.specs.Bases.{BasesBody}
use Rattle.group_safety.specs.Facts.{PacketOk}
use Rattle.group_safety.specs.Laws.{Whole}
use Rattle.group_safety.specs.Words.{Each, In}
use Rattle.group_safety.proofs.Moving.{Goes}
use Rattle.group_trace.specs.Lines.{answered_lines, entered_line, entered_lines, lines_of_moves, packet_lines, refused_lines, sent_line, sent_lines, state_line, state_lines}
use Rattle.group_trace.specs.Shown.{message_shown, same_shown, shown_of}
use Rattle.trace_text.specs.Fits.{EntriesFit, EntryFits as ShownEntryFits, IsCount, LineFits, MessageFits, ReplyFits, StateFits}
use Rattle.accept_laws.specs.Walks.{MoveFits, Walks}
use Rattle.accept_laws.specs.Replies.{PageFits, ReplyWithin}
use Rattle.accept_laws.proofs.TreeLists.{octet_at}
use Rattle.accept_laws.specs.Laws.{LineIn}
use Rattle.accept_laws.specs.Within.{BodyIn, IsWithin}
use Rattle.accept_laws.proofs.Lists.{each_here}
use Rattle.accept_laws.proofs.Messages.{AreSmall, message_fits, state_fits}
use Rattle.accept_laws.proofs.Moved.{within_moved}
use Rattle.accept_laws.proofs.ShortLines.{lined, short_answered, short_entered}
use Rattle.accept_laws.proofs.Trees.{EntryFits, book_fits}

-- ---- replies

page_few : (most : ℕ) (es : List DirEntry) → PageFits most es → 16 * length es ≤ most
page_few most [] h = omega arith
page_few most (e ∷ es) h =
    let rest = page_few h.1 es h.3 in
    let room = h.2 in
    omega (arith, rest, room)

entries_fit : (most : ℕ) (es : List DirEntry) → PageFits most es → AllFit ShownEntryFits es
entries_fit most [] h = tt
entries_fit most (e ∷ es) h = (
  (
    (h.0.fileid, record { few = h.0.few; fit = octet_at e.name h.0.octets }),
    h.0.cookie,
  ),
  entries_fit h.1 es h.3,
)

pub reply_fits : (r : Reply) → ReplyWithin r → ReplyFits r
reply_fits (reply.Refused status) h = tt
reply_fits reply.Done h = tt
reply_fits (reply.Attr attr) h = h
reply_fits (reply.Node handle attr) h = h
reply_fits (reply.Path text) h = record { few = h.0; fit = octet_at text h.1 }
reply_fits (reply.Bytes attr bytes) h =
    (h.0, record { few = h.1; fit = octet_at bytes h.2 })
reply_fits (reply.Page entries eof) h =
    let few = page_few 8192 entries h in
    (omega (arith, few), entries_fit 8192 entries h)
reply_fits (reply.Space transfer block blocks free available) h = h

-- ---- what stood before moves

packets_back : (Q : Packet Entry → Type 0) (ms : List (Move Entry)) (g : Group Entry) (q : Place)
    (s : Server Entry) → Each Q (moved_by g q s ms).packets → Each Q g.packets
packets_back Q [] g q s h = h
packets_back Q (m ∷ ms) g q s h =
    one m (packets_back Q ms (moved g q s m) q (act q (g.clock q) s m) h)
  where
    one : (m : Move Entry) → Each Q (packets_after g.packets q m) → Each Q g.packets
    one (Sending to m) k = k.1
    one m k = k

packets_longer : (ms : List (Move Entry)) (g : Group Entry) (q : Place) (s : Server Entry)
    → length g.packets ≤ length (moved_by g q s ms).packets
packets_longer [] g q s = omega arith
packets_longer (m ∷ ms) g q s =
    let rest = packets_longer ms (moved g q s m) q (act q (g.clock q) s m) in
    let first = one m in
    omega (arith, rest, first)
  where
    one : (m : Move Entry) → length g.packets ≤ length (packets_after g.packets q m)
    one (Sending to m) = omega arith
    one m = omega arith

answered_back : (Q : Answered Entry → Type 0) (ms : List (Move Entry)) (g : Group Entry)
    (q : Place) (s : Server Entry) → Each Q (moved_by g q s ms).answered → Each Q g.answered
answered_back Q [] g q s h = h
answered_back Q (m ∷ ms) g q s h =
    one m (answered_back Q ms (moved g q s m) q (act q (g.clock q) s m) h)
  where
    one : (m : Move Entry) → Each Q (answered_after g.answered s m) → Each Q g.answered
    one (Saying (Answers n e)) k = k.1
    one (Saying (Refuses client number cause)) k = k
    one (Saying (Lists n)) k = k
    one m k = k

each_front : {X : Type 0} (P : X → Type 0) (xs ys : List X) → Each P (xs ++ ys) → Each P xs
each_front P [] ys h = tt
each_front P (x ∷ xs) ys h = (h.0, each_front P xs ys h.1)

each_behind : {X : Type 0} (P : X → Type 0) (xs ys : List X) → Each P (xs ++ ys) → Each P ys
each_behind P [] ys h = h
each_behind P (x ∷ xs) ys h = each_behind P xs ys h.1

book_back : (Q : Entry → Type 0) (ms : List (Move Entry)) (g : Group Entry) (q : Place)
    (s : Server Entry) → Each Q (moved_by g q s ms).book → Each Q g.book
book_back Q [] g q s h = h
book_back Q (m ∷ ms) g q s h =
    one m (book_back Q ms (moved g q s m) q (act q (g.clock q) s m) h)
  where
    one : (m : Move Entry) → Each Q (book_after g.book g.committed s m) → Each Q g.book
    one (Committing n) k = each_front Q g.book _ k
    one (Opening lb) k = each_front Q g.book _ k
    one (Reading n e) k = each_front Q g.book (e ∷ []) k
    one m k = k

-- ---- lists

each_in : {X : Type 0} (P : X → Type 0) (xs : List X) → ((x : X) → In xs x → P x) → Each P xs
each_in P [] f = tt
each_in P (x ∷ xs) f = (f x (inl refl), each_in P xs (λ y i. f y (inr i)))

each_filter : (P : Entry → Type 0) (f : Entry → Bool) (xs : List Entry) → Each P xs
    → Each P (filter f xs)
each_filter P f [] h = tt
each_filter P f (x ∷ xs) h =
    by_if (λ (ys : List Entry). Each P ys) (f x) (x ∷ filter f xs) (filter f xs)
    (λ _. (h.0, each_filter P f xs h.1)) (λ _. each_filter P f xs h.1)

each_drop : {X : Type 0} (P : X → Type 0) (n : ℕ) (xs : List X) → Each P xs → Each P (drop n xs)
each_drop P zero xs h = h
each_drop P (suc n) [] h = tt
each_drop P (suc n) (x ∷ xs) h = each_drop P n xs h.1

each_three : {X : Type 0} (A B C P : X → Type 0) (xs : List X)
    → ((x : X) → A x → B x → C x → P x) → Each A xs → Each B xs → Each C xs → Each P xs
each_three A B C P [] f a b c = tt
each_three A B C P (x ∷ xs) f a b c =
    (f x a.0 b.0 c.0, each_three A B C P xs f a.1 b.1 c.1)

-- ---- the lines

abbrev AllFits : List Line → Type 0
AllFits ls = AllByRecursion LineIn ls

fits_both : (xs ys : List Line) → AllFits xs → AllFits ys → AllFits (xs ++ ys)
fits_both xs ys = all-append LineIn xs ys

-- an answer that was given
record AnswerFits (n late : ℕ) (a : Answered Entry) : Type 0 where
  entry : EntryFits n late a.entry
  index : a.index ≤ n

module _ (n late : ℕ) (small : AreSmall n late) where
  count_fits : (k : ℕ) → k ≤ n → IsCount k
  count_fits k l = let most = small.count in omega (arith, l, most)

  stamp_fits : (k : ℕ) → k ≤ late → IsCount k
  stamp_fits k l = let most = small.moment in omega (arith, l, most)

  entered_fit : (es : List Entry) (k : ℕ) → k + length es < 10 ^ 18
      → Each (EntryFits n late) es → AllFits (entered_lines k es)
  unfolding entered_lines
  entered_fit [] k l h = tt
  entered_fit (e ∷ es) k l h =
      let f : LineFits (entered_line (k + 1) e) = (
        omega (arith, l),
        record {
          index = count_fits e.index h.0.within.index;
          client = h.0.within.asker.0;
          number = h.0.within.asker.1;
          stamp = stamp_fits e.stamp h.0.within.stamp;
          cred = h.0.within.cred;
          call = h.0.within.call;
          reply = reply_fits e.reply h.0.reply;
        },
      ) in (
        (f, short_entered (k + 1) _ f.0 f.1 h.0.reply h.0.brief),
        entered_fit es (k + 1) (omega (arith, l)) h.1,
      )

  committed_few : (g : Group Entry) (h : Whole g) → IsWithin n late g → length g.committed ≤ n
  committed_few g h w =
      let list = h.ok.committed.2.within in
      let few = (w.page h.ok.committed.0).few in
      omega (arith, list, few)

  answered_fit : (ms : List (Move Entry)) (g : Group Entry) (q : Place) (s : Server Entry)
      → Goes g q s ms → Walks (MoveFits n late) q (g.clock q) s ms → IsWithin n late g
      → Each (AnswerFits n late) (moved_by g q s ms).answered
      → Each (EntryFits n late) (moved_by g q s ms).book → AllFits (answered_lines q ms)
  unfolding Goes
  answered_fit [] g q s goes walk w a b = tt
  answered_fit (Saying (Answers k e) ∷ ms) g q s goes walk w a b =
      let g1 = moved g q s (Saying (Answers k e)) in
      let here = (answered_back (AnswerFits n late) ms g1 q s a).0 in
      let c = here.entry.within.asker.0 in
      let n' = here.entry.within.asker.1 in
      let x = count_fits k here.index in (
        (
          (c, n', x, reply_fits e.reply here.entry.reply),
          short_answered (id_of q) e.client e.number k e.reply c n' x here.entry.reply,
        ),
        answered_fit ms g1 q s goes.2 walk.1
            (within_moved n late g q s (Saying (Answers k e)) goes.0 goes.1.2 w walk.0) a b,
      )
  answered_fit (Reading k e ∷ ms) g q s goes walk w a b =
      let g1 = moved g q s (Reading k e) in
      let here = (each_behind (EntryFits n late) g.book (e ∷ [])
      (book_back (EntryFits n late) ms g1 q s b)).0 in
      let list = goes.0.ok.committed.2.within in
      let few = (w.page goes.0.ok.committed.0).few in
      let is = goes.1.2.2 in
      let c = here.within.asker.0 in
      let n' = here.within.asker.1 in
      let x = count_fits k (omega (arith, list, few, is)) in (
        (
          (c, n', x, reply_fits e.reply here.reply),
          short_answered (id_of q) e.client e.number k e.reply c n' x here.reply,
        ),
        answered_fit ms g1 q s goes.2 walk.1
            (within_moved n late g q s (Reading k e) goes.0 goes.1.2 w walk.0) a b,
      )
  answered_fit (m ∷ ms) g q s goes walk w a b =
      answered_fit ms (moved g q s m) q (act q (g.clock q) s m) goes.2 walk.1
      (within_moved n late g q s m goes.0 goes.1.2 w walk.0) a b

  refused_fit : (ms : List (Move Entry)) (q : Place) (clock : ℕ) (s : Server Entry)
      → Walks (MoveFits n late) q clock s ms → AllFits (refused_lines q ms)
  refused_fit [] q clock s walk = tt
  refused_fit (Saying (Refuses client number cause) ∷ ms) q clock s walk = (
    lined (line.Refused (id_of q) client number (cause_of cause)) tt walk.0,
    refused_fit ms q clock s walk.1,
  )
  refused_fit (m ∷ ms) q clock s walk = refused_fit ms q clock (act q clock s m) walk.1

  sent_fit : (ms : List (Move Entry)) (k : ℕ) (g : Group Entry) (q : Place) (s : Server Entry)
      → k ≤ length g.packets → length (moved_by g q s ms).packets < 10 ^ 18
      → Each (λ (p : Packet Entry). MessageFits (message_shown p.body)) (moved_by g q s ms).packets
      → AllFits (sent_lines k q ms)
  unfolding packet_lines
  sent_fit [] k g q s l few h = tt
  sent_fit (Sending to m ∷ ms) k g q s l few h =
      let g1 = moved g q s (Sending to m) in
      let more = packets_longer ms g1 q s in (
        lined (sent_line k q to m) tt (
          omega (arith, l, few, more),
          (packets_back (λ (p : Packet Entry). MessageFits (message_shown p.body)) ms g1 q s h).0,
        ),
        sent_fit ms (k + 1) g1 q s (omega (arith, l)) few h,
      )
  sent_fit (m ∷ ms) k g q s l few h =
      let g1 = moved g q s m in
      let more = packets_kept m in
      sent_fit ms k g1 q (act q (g.clock q) s m) (omega (arith, l, more)) few h
    where
      packets_kept : (m : Move Entry) → length g.packets ≤ length (packets_after g.packets q m)
      packets_kept (Sending to m) = omega arith
      packets_kept m = omega arith

  shown_fit : (q : Place) (s : Server Entry) (before : Option StateLine) → StateFits (state_of s)
      → AllFits (state_lines q before (shown_of s))
  shown_fit q s before h =
      by_if AllFits (same_shown before (shown_of s)) [] (state_line q (shown_of s) ∷ [])
      (λ _. tt)
      (λ _. by_if (λ (o : Option StateLine). AllFits (state_line q o ∷ [])) s.up
      (Some (state_of s)) None (λ _. (lined (state_line q (Some (state_of s))) tt h, tt))
      (λ _. (lined (line.Down (id_of q)) tt tt, tt)))

  -- the answers of a group
  all_answered : (g : Group Entry) → Whole g → IsWithin n late g
      → Each (EntryFits n late) g.book → Each (AnswerFits n late) g.answered
  all_answered g h w b = each_in (AnswerFits n late) g.answered (λ a i.
      let ok = h.answers.each a i in
      let committed : Each (EntryFits n late) g.committed =
      subst (λ (es : List Entry). Each (EntryFits n late) es) h.books.updates
      (each_filter (EntryFits n late) (λ e. is_update e.call) g.book b) in
      let within = slice_get_within g.committed (a.index - 1) a.entry ok.entry in
      let few = committed_few g h w in
      record {
        entry = each_here (EntryFits n late) g.committed (a.index - 1) a.entry ok.entry committed;
        index = omega (arith, within, few);
      })

  pub moves_fit : (ms : List (Move Entry)) (g : Group Entry) (q : Place) (listing : List Line)
      → Goes g q (g.server q) ms → Walks (MoveFits n late) q (g.clock q) (g.server q) ms
      → IsWithin n late g → Whole (moved_by g q (g.server q) ms)
      → IsWithin n late (moved_by g q (g.server q) ms) → length g.book < 10 ^ 18
      → length (moved_by g q (g.server q) ms).book < 10 ^ 18
      → length (moved_by g q (g.server q) ms).packets < 10 ^ 18 → AllFits listing
      → AllFits (lines_of_moves g (moved_by g q (g.server q) ms) q ms listing)
  moves_fit ms g q listing goes walk w h w' few few' packets fits =
      let g' = moved_by g q (g.server q) ms in
      let book = book_fits n late g'.book h.books.book w'.book in
      let cut = length-drop (length g.book) g'.book in
      let sent = each_three (PacketOk g'.page g'.joins g'.committed)
      (λ (p : Packet Entry). BasesBody (λ x. (g'.server x).lb) g'.page p.body)
      (λ (p : Packet Entry). BodyIn n p.body)
      (λ (p : Packet Entry). MessageFits (message_shown p.body)) g'.packets
      (λ p a b c. message_fits n late small g' h w' p.from p.to p.body a b c)
      h.ok.packet h.bases.packet w'.packet in
      fits_both (entered_lines (length g.book) (drop (length g.book) g'.book)) _
      (entered_fit (drop (length g.book) g'.book) (length g.book) (omega (arith, cut, few, few'))
      (each_drop (EntryFits n late) (length g.book) g'.book book))
      (fits_both (answered_lines q ms) _
      (answered_fit ms g q (g.server q) goes walk w (all_answered g' h w' book) book)
      (fits_both (refused_lines q ms) _ (refused_fit ms q (g.clock q) (g.server q) walk)
      (fits_both (sent_lines (length g.packets) q ms) _
      (sent_fit ms (length g.packets) g q (g.server q) (omega arith) packets sent)
      (fits_both (state_lines q (shown_of (g.server q)) (shown_of (g'.server q))) listing
      (shown_fit q (g'.server q) (shown_of (g.server q)) (state_fits n late small g' h w' q))
      fits))))
