-- The answer to an ask keeps the facts.
use Rattle.std.proofs.Common.{◌≡◌, ℕ, ◌+◌, ◌-◌, ◌<◌, ◌≤◌, ◌||◌, Bool, true, false, List, [], ◌∷◌, ◌++◌, length, Option, None, Some, slice_get, take, refl, sym, ap, ◌∙◌, subst, arith, le_refl, nat_lt, nat_le, ◌==◌}
use Rattle.std.specs.Prelude.{IfSome, MatchBool}
use Rattle.harp_types.specs.declared.call.Call.{Call}
use Rattle.harp_types.specs.declared.cred.Cred.{Cred}
use Rattle.file_tree.specs.Tree.{Tree}
use Rattle.file_tree.specs.Calls.{outcome}
use Rattle.harp_types.specs.Update.{is_update}
use Rattle.file_tree.specs.Book.{Entry, last_of, updates, tree_after, MayFollow, IsNextUpdate, IsRead}
use Rattle.group_safety.proofs.Lists.{get_back}
use Rattle.group_safety.proofs.Common.{put_same as put_is}
use Rattle.group_rules.proofs.Tests.{neither, above, is_le, not_le}
use Rattle.group_safety.proofs.Modes.{open_is}
use Rattle.group_safety.proofs.Quiet.{read_kept}
use Rattle.file_tree.proofs.BookLaws.{tree_of_updates}
use Rattle.group_rules.specs.Ask.{append, hint_of, new_entry, on_ask, read_entry, read_moves, update_moves}
use Rattle.group_safety.specs.Entered.{AnswerOk, UpdatesFrom}
use Rattle.group_rules.specs.Limits.{is_active, is_open, limit, room}
use Rattle.group_rules.specs.Moves.{Appending, Reading}
use Rattle.group_rules.specs.Places.{Place, all_of, leader, number, same}
use Rattle.group_safety.specs.Settled.{SettledAt}
use Rattle.group_rules.specs.State.{Answers, BadClient, Group, LogFull, NoPromise, NotLeader, NotYetOpen, Old, Open, Page, Refuses, Server, top}
use Rattle.group_safety.specs.Words.{IsActive}
use Rattle.group_safety.proofs.Repeats.{last_place, index_is, new_follows}
use Rattle.group_safety.proofs.Entering.{front_is}
use Rattle.group_safety.proofs.Reading.{exclusive}
use Rattle.group_safety.proofs.Moving.{Good, its, Goes, goes_done, goes_more, goes_one, appending}
use Rattle.group_safety.proofs.ReplicateRule.{answer_at}
use Rattle.group_safety.proofs.Sends.{goes_if, goes_send, goes_where, own_base, says, settled}

-- appending
appends : (g : Group Entry) (q : Place) (s : Server Entry) → Good g q s → (e : Entry) → s.mode ≡ Open → is_update e.call ≡ true → MayFollow (g.page s.accepted).list e → Goes g q s (append s e)
appends g q s h e o u m =
    let fine = its h in
    let a : IsActive s.mode = subst (λ z. IsActive z) (sym o) tt in
    let log = fine.logs.log (fine.modes.active a).0 in
    let p = g.page s.accepted in
    let size : top s ≡ length p.list = log.holds.all (fine.modes.leads o).0 in
    let all : top s + 1 - 1 ≡ length p.list + 0 = omega arith in
    goes_if g q s (nat_le room (length s.items) || nat_le limit (top s)) _ _ (λ _. says g q s h (Refuses e.client e.number LogFull) tt) (λ n.
    let b = neither _ _ n in
    let c = not_le room (length s.items) b.0 in
    let d = not_le limit (top s) b.1 in
    goes_more g q s (Appending e) _ h (
      tt,
      tt,
      (c, (omega arith), u, m, (fine.modes.active a).0),
      a,
    ) (appending h e (record { open' = o })) (λ k.
    let p' = put_is g.page s.accepted (record p { list = p.list ++ e ∷ [] }) in
    let known = its k in
    goes_send _ q _ _ _ [] k (
      known.views.formed,
      (known.modes.leads o).1,
      (omega arith),
      ap (λ (r : Page Entry). slice_get r.list (top s + 1 - 1)) p' ∙ ap (slice_get (p.list ++ e ∷ [])) all ∙ get_back p.list (e ∷ []) 0,
      (known.logs.log (known.modes.active a).0).sure,
    )
    ((known.views.formed, settled _ q _ k o), own_base _ q _ k a, tt)
    goes_done))

-- an open leader's list is its view's
whole_list : (g : Group Entry) (q : Place) (s : Server Entry) → Good g q s → s.mode ≡ Open → take (top s) (g.page s.accepted).list ≡ (g.page s.accepted).list
whole_list g q s h o =
    let a : IsActive s.mode = subst (λ z. IsActive z) (sym o) tt in
    let size : top s ≡ length (g.page s.accepted).list = ((its h).logs.log ((its h).modes.active a).0).holds.all ((its h).modes.leads o).0 in
    ap (λ (n : ℕ). take n (g.page s.accepted).list) size ∙ front_is (g.page s.accepted).list (g.page s.accepted).list (le_refl _) (λ k l. refl)

-- an update at an open leader
updated : (g : Group Entry) (q : Place) (s : Server Entry) → Good g q s → s.mode ≡ Open → (client number : ℕ) (cred : Cred) (c : Call) → is_update c ≡ true → (list : List Entry) → list ≡ (g.page s.accepted).list
    → (o : Option Entry) → last_of client list ≡ o → Goes g q s (update_moves s (new_entry (g.clock q) list client number cred c) o)
updated g q s h o client number cred c u list e None last =
    let f : UpdatesFrom [] list = subst (λ (l : List Entry). UpdatesFrom [] l) (sym e) (h.beside.books.list s.accepted (its h).views.formed) in
    appends g q s h (new_entry (g.clock q) list client number cred c) o u (subst (λ (l : List Entry). MayFollow l (new_entry (g.clock q) list client number cred c)) e (new_follows (g.clock q) list client number cred c f u (subst (λ (x : Option Entry). IfSome x (λ l. l.number < number)) (sym last) tt)))
updated g q s h o client number cred c u list e (Some l) last =
    let f : UpdatesFrom [] list = subst (λ (l : List Entry). UpdatesFrom [] l) (sym e) (h.beside.books.list s.accepted (its h).views.formed) in
    let a : IsActive s.mode = subst (λ z. IsActive z) (sym o) tt in
    let is = last_place client list l last in
    let index : l.index ≡ is.0 + 1 = index_is list is.0 l f is.1 in
    goes_if g q s (number == l.number) _ _
    (λ _. goes_where g q s (nat_le l.index s.cp) _ h (λ t.
    let within = is_le l.index s.cp t in
    says g q s h (Answers l.index l) (subst (λ (n : ℕ). AnswerOk g.page g.committed (record { view = s.accepted; index = n; entry = l })) (sym index)
    (answer_at g q s h ((its h).modes.active a).0 is.0 l (omega arith) (subst (λ (x : List Entry). slice_get x is.0 ≡ Some l) e is.1)))))
    (λ n. goes_if g q s (nat_lt number l.number) _ _
    (λ _. says g q s h (Refuses client number Old) tt)
    (λ m. appends g q s h (new_entry (g.clock q) list client number cred c) o u (subst (λ (x : List Entry). MayFollow x (new_entry (g.clock q) list client number cred c)) e
    (new_follows (g.clock q) list client number cred c f u (subst (λ (x : Option Entry). IfSome x (λ l. l.number < number)) (sym last) (above number l.number n m))))))

-- a read at an open leader, where no later view was opened: CP is then the length of the book
read_at : (g : Group Entry) (q : Place) (s : Server Entry) → Good g q s → s.mode ≡ Open → (client number : ℕ) (cred : Cred) (c : Call) → is_update c ≡ false → (list : List Entry) → list ≡ (g.page s.accepted).list
    → ((W : ℕ) → s.accepted < W → (g.page W).formed ≡ true → (g.page W).opened ≡ false) → Goes g q s (Reading s.cp (read_entry s.cp list client number cred c) ∷ [])
read_at g q s h o client number cred c u list e later =
    let a : IsActive s.mode = subst (λ z. IsActive z) (sym o) tt in
    let log = (its h).logs.log ((its h).modes.active a).0 in
    let count : s.cp ≡ length g.committed = (subst (λ (x : Server Entry). SettledAt g.page g.committed x) h.is (h.settled.server q)).count o later in
    let fronts : take s.cp list ≡ g.committed = ap (λ (x : List Entry). take s.cp x) e ∙ ap (λ (n : ℕ). take n (g.page s.accepted).list) count
    ∙ front_is (g.page s.accepted).list g.committed (subst (λ (n : ℕ). n ≤ length (g.page s.accepted).list) count log.sure.within) (λ k l. log.sure.same k (subst (λ (n : ℕ). k < n) (sym count) l)) in
    let tree : tree_after (take s.cp list) ≡ tree_after g.book = ap tree_after (fronts ∙ sym h.beside.books.updates) ∙ sym (tree_of_updates g.book) in
    goes_one g q s (Reading s.cp (read_entry s.cp list client number cred c)) h (
      tt,
      tt,
      (
        record {
          reply = ap (λ (t : Tree). (outcome t cred c 0).0) tree;
          order = subst (λ (b : Bool). MatchBool b (IsNextUpdate (updates g.book) (read_entry s.cp list client number cred c)) (IsRead (read_entry s.cp list client number cred c))) (sym u) (refl, refl);
        },
        u,
        count,
        later,
      ),
      tt,
    ) (read_kept g h.ok q s h.is s.cp (read_entry s.cp list client number cred c))

-- a read at an open leader under an unexpired promise
read_goes : (g : Group Entry) (q : Place) (s : Server Entry) → Good g q s → s.mode ≡ Open → (client number : ℕ) (cred : Cred) (c : Call) → is_update c ≡ false → (list : List Entry) → list ≡ (g.page s.accepted).list
    → Goes g q s (read_moves (g.clock q) s (read_entry s.cp list client number cred c))
read_goes g q s h o client number cred c u list e = goes_if g q s (nat_le s.grant (g.clock q)) _ _ (λ _. says g q s h (Refuses client number NoPromise) tt) (λ n.
    let grant : g.clock q < s.grant = not_le s.grant (g.clock q) n in
    read_at g q s h o client number cred c u list e
    (subst (λ (x : Server Entry). x.mode ≡ Open → g.clock q < x.grant → (W : ℕ) → x.accepted < W → (g.page W).formed ≡ true → (g.page W).opened ≡ false) h.is (exclusive g h.ok h.near q) o grant))

-- the answer to an ask
pub asked : (g : Group Entry) (q : Place) (s : Server Entry) → Good g q s → (list : List Entry) → list ≡ take (top s) (g.page s.accepted).list → (client number : ℕ) (cred : Cred) (c : Call) → Goes g q s (on_ask q (g.clock q) list s client number cred c)
asked g q s h list e client number cred c = goes_if g q s (nat_lt 4095 client) _ _ (λ _. says g q s h (Refuses client number BadClient) tt) (λ _.
    goes_if g q s (all_of (is_active s.mode ∷ same q (leader s.plan.storers) ∷ [])) _ _ (λ _.
    goes_if g q s (is_open s.mode) _ _ (λ t.
    let o = open_is s.mode t in
    let e' : list ≡ (g.page s.accepted).list = e ∙ whole_list g q s h o in
    let f : UpdatesFrom [] list = subst (λ (l : List Entry). UpdatesFrom [] l) (sym e') (h.beside.books.list s.accepted (its h).views.formed) in
    goes_if g q s (is_update c) _ _
    (λ u. updated g q s h o client number cred c u list e' (last_of client list) refl)
    (λ u. read_goes g q s h o client number cred c u list e'))
    (λ _. says g q s h (Refuses client number NotYetOpen) tt))
    (λ _. says g q s h (Refuses client number (NotLeader (hint_of q s.role))) tt))
