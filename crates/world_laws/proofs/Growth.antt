-- What the moves of a step bring to the committed updates and to the book.
use Rattle.std.proofs.Common.{◌≡◌, ◌⊎◌, ℕ, ◌+◌, true, List, [], ◌∷◌, ◌++◌, append_assoc, append-nil, length, Some, refl, sym, ap, ◌∙◌, ⊎_elim, length-append}
use Rattle.file_tree.specs.Book.{Entry}
use Rattle.world_lines.specs.Book.{new_updates}
use Rattle.group_rules.specs.Moves.{Move, act, moved, moved_by}
use Rattle.group_rules.specs.Places.{Place}
use Rattle.group_rules.specs.Said.{committed_by, committed_of, read_by, reads_said}
use Rattle.group_rules.specs.State.{Group, Packet, Server}
use Rattle.group_rules.specs.Step.{Comes, Deed, Does, Input, list_of, numbered, step_of}
use Rattle.group_safety.proofs.Moving.{Goes}
use Rattle.group_safety.proofs.Safe.{input_goes, sent_known}
use Rattle.group_safety.proofs.Steps.{Known}
use Rattle.group_safety.specs.Laws.{Whole}
use Rattle.world_laws.proofs.StepKinds.{NoCommits, one_kind}
use Rattle.world_laws.proofs.BookMoves.{brought, commits_more, enters_more}
use Rattle.world_laws.proofs.Numbered.{new_append}
use Rattle.world_laws.proofs.NoReads.{NoReads}
use Rattle.world_laws.specs.Books.{BookGrows}

-- the updates that moves bring, without those that were entered before
abbrev brought_by : Group Entry → Place → Server Entry → List (Move Entry) → List Entry
brought_by g q s ms = new_updates (length g.committed) (committed_of q (g.clock q) s ms)

-- those of a move, and then of the others
brought_more : (g : Group Entry) (q : Place) (s : Server Entry) (m : Move Entry)
    (ms : List (Move Entry)) → (moved g q s m).committed ≡ g.committed ++ brought g s m
    → brought_by g q s (m ∷ ms)
    ≡ brought g s m ++ brought_by (moved g q s m) q (act q (g.clock q) s m) ms
brought_more g q s m ms one =
    let rest = committed_of q (g.clock q) (act q (g.clock q) s m) ms in
    let size : length g.committed + length (brought g s m) ≡ length (moved g q s m).committed =
    sym (ap length one ∙ length-append g.committed (brought g s m)) in
    new_append (length g.committed) (committed_by s m) rest
    ∙ ap (λ n. brought g s m ++ new_updates n rest) size

-- the committed updates grow by what the moves bring
committed_grows : (ms : List (Move Entry)) (g : Group Entry) (q : Place) (s : Server Entry)
    → Goes g q s ms → (moved_by g q s ms).committed ≡ g.committed ++ brought_by g q s ms
unfolding Goes new_updates
committed_grows [] g q s h = sym (append-nil g.committed)
committed_grows (m ∷ ms) g q s h =
    let one = commits_more m g q s h.0 h.1 in
    let more = brought_by (moved g q s m) q (act q (g.clock q) s m) ms in
    committed_grows ms (moved g q s m) q (act q (g.clock q) s m) h.2
    ∙ ap (λ es. es ++ more) one
    ∙ append_assoc g.committed (brought g s m) more
    ∙ sym (ap (λ es. g.committed ++ es) (brought_more g q s m ms one))

-- two lists without an element between them
none_between : (xs ys : List Entry) → xs ++ ys ≡ [] → (xs ≡ []) × (ys ≡ [])
none_between [] ys e = (refl, e)
none_between (x ∷ xs) ys e = cc

-- where no read is answered, the book grows by what the moves bring
unread_grows : (ms : List (Move Entry)) (g : Group Entry) (q : Place) (s : Server Entry)
    → Goes g q s ms → NoReads ms → (moved_by g q s ms).book ≡ g.book ++ brought_by g q s ms
unfolding Goes new_updates
unread_grows [] g q s h none = sym (append-nil g.book)
unread_grows (m ∷ ms) g q s h none =
    let no = none_between (read_by m) (reads_said ms) none in
    let new = brought g s m in
    let more = brought_by (moved g q s m) q (act q (g.clock q) s m) ms in
    unread_grows ms (moved g q s m) q (act q (g.clock q) s m) h.2 no.1
    ∙ ap (λ es. es ++ more) (enters_more m g q s h.0 h.1
    ∙ ap (λ es. g.book ++ (new ++ es)) no.0
    ∙ ap (λ es. g.book ++ es) (append-nil new))
    ∙ append_assoc g.book new more
    ∙ sym (ap (λ es. g.book ++ es) (brought_more g q s m ms (commits_more m g q s h.0 h.1)))

-- where nothing is committed, it grows by the reads
reads_grow : (ms : List (Move Entry)) (g : Group Entry) (q : Place) (s : Server Entry)
    → Goes g q s ms → NoCommits q (g.clock q) s ms
    → (moved_by g q s ms).book ≡ g.book ++ reads_said ms
unfolding Goes new_updates
reads_grow [] g q s h none = sym (append-nil g.book)
reads_grow (m ∷ ms) g q s h none =
    let s' = act q (g.clock q) s m in
    let no = none_between (committed_by s m) (committed_of q (g.clock q) s' ms) none in
    reads_grow ms (moved g q s m) q s' h.2 no.1
    ∙ ap (λ es. es ++ reads_said ms) (enters_more m g q s h.0 h.1
    ∙ ap (λ es. g.book ++ (new_updates (length g.committed) es ++ read_by m)) no.0)
    ∙ append_assoc g.book (read_by m) (reads_said ms)

-- the book grows by what the moves bring, and then by the reads
book_grows : (ms : List (Move Entry)) (g : Group Entry) (q : Place) (s : Server Entry)
    → Goes g q s ms → NoReads ms ⊎ NoCommits q (g.clock q) s ms
    → (moved_by g q s ms).book ≡ g.book ++ (brought_by g q s ms ++ reads_said ms)
unfolding new_updates
book_grows ms g q s h kind = ⊎_elim
    (λ none. unread_grows ms g q s h none
    ∙ sym (ap (λ es. g.book ++ es) (ap (λ es. brought_by g q s ms ++ es) none
    ∙ append-nil (brought_by g q s ms))))
    (λ none. reads_grow ms g q s h none
    ∙ sym (ap (λ es. g.book ++ (new_updates (length g.committed) es ++ reads_said ms)) none))
    kind

step_grows : (size : List Entry → Entry → ℕ) (g : Group Entry) → Whole g → (q : Place)
    → (g.server q).up ≡ true → (i : Input) → Known g q i → BookGrows size g q i
step_grows size g w q up i known =
    let goes = input_goes size g w q up i known in
    record {
      committed = committed_grows (step_of size g q i) g q (g.server q) goes;
      book = book_grows (step_of size g q i) g q (g.server q) goes
          (one_kind size q (g.clock q) (list_of g q) (g.server q) i);
    }

pub deeds_grow : (size : List Entry → Entry → ℕ) (g : Group Entry) → Whole g → (q : Place)
    → (g.server q).up ≡ true → (d : Deed) → BookGrows size g q (Does d)
deeds_grow size g w q up d = step_grows size g w q up (Does d) tt

pub deliveries_grow : (size : List Entry → Entry → ℕ) (g : Group Entry) → Whole g → (n : ℕ)
    (p : Packet Entry) → numbered g.packets n ≡ Some p → (g.server p.to).up ≡ true
    → BookGrows size g p.to (Comes p.from p.body)
deliveries_grow size g w n p is up =
    step_grows size g w p.to up (Comes p.from p.body) (sent_known g w n p is)
