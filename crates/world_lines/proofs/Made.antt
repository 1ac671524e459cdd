-- What the lists of a step's outputs make, as loops go over them.
use Rattle.std.proofs.Common.{◌≡◌, ℕ, ◌+◌, Bool, true, false, List, [], ◌∷◌, ◌++◌, append_assoc, length, map, nat_le, if◌then◌else◌, drop, get_or, ◌<◌, ◌≤◌}
use Rattle.std.proofs.Common.{refl, sym, ap, ◌∙◌, arith, append-nil}
use Rattle.std.proofs.lemmas.List.{at_drop_all, length-append}
use Rattle.harp_types.specs.declared.server.ServerId.{ServerId}
use Rattle.trace_types.specs.declared.line.Line.{Line}
use Rattle.harp_types.specs.declared.book.BookEntry.{BookEntry}
use Rattle.file_tree.specs.Book.{Entry}
use Rattle.group_trace.specs.Lines.{entered_line, entered_lines}
use Rattle.node_outputs.specs.Said.{entered}
use Rattle.node_outputs.specs.declared.outputs.Answered.{Answered}
use Rattle.node_outputs.specs.declared.outputs.Refused.{Refused}
use Rattle.node_outputs.specs.declared.outputs.Sent.{Sent}
use Rattle.world_lines.specs.Posted.{Posted}
use Rattle.world_lines.specs.Book.{BookValue, new_updates, with_reads, with_updates}
use Rattle.world_lines.specs.Given.{answered_line, answered_lines, packet_of, packets_of, read_in, reads_in, refused_line, refused_lines, sent_line, sent_lines}
use Rattle.world_lines.proofs.Loops.{IsMade, Makes, made_more, reached, split}

-- ---- updates

abbrev one_update : ℕ → BookEntry → List Entry
one_update n x = new_updates n (entered x ∷ [])

abbrev behind : Bool → ℕ → Entry → List Entry → List Entry
behind b n e es = if b then new_updates n es else e ∷ new_updates (n + 1) es

update_first : (n : ℕ) (e : Entry) (es : List Entry) → new_updates n (e ∷ es)
    ≡ new_updates n (e ∷ []) ++ new_updates (n + length (new_updates n (e ∷ []))) es
unfolding new_updates
update_first n e es = by (nat_le e.index n)
  where
    by : (b : Bool) → behind b n e es ≡ behind b n e [] ++ new_updates (n + length (behind b n e [])) es
    by true = ap (λ k. new_updates k es) (omega arith)
    by false = refl

abbrev pub makes_updates : Makes BookEntry Entry
makes_updates = record {
  all = λ n xs. new_updates n (map entered xs);
  one = one_update;
  next = λ n x. n + length (one_update n x);
}

pub updates_made : IsMade makes_updates
unfolding new_updates
updates_made = record { first = λ n x xs. update_first n (entered x) (map entered xs); none = λ n. refl }

-- ---- lines of entries

pub entered-append : (n : ℕ) (xs ys : List Entry) → entered_lines n (xs ++ ys) ≡ entered_lines n xs
    ++ entered_lines (n + length xs) ys
unfolding entered_lines
entered-append n [] ys = ap (λ k. entered_lines k ys) (omega arith)
entered-append n (x ∷ xs) ys = ap (λ ls. entered_line (n + 1) x ∷ ls) (entered-append (n + 1) xs ys
    ∙ ap (λ k. entered_lines (n + 1) xs ++ entered_lines k ys) (omega arith))

-- so many entries and the lines of all of them are behind the lines of the first ones
pub lines_go_on : (lines : List Line) (n : ℕ) (made more : List Entry)
    → (lines ++ entered_lines n made) ++ entered_lines (n + length made) more
    ≡ lines ++ entered_lines n (made ++ more)
lines_go_on lines n made more =
    append_assoc lines (entered_lines n made) (entered_lines (n + length made) more)
    ∙ ap (λ ls. lines ++ ls) (sym (entered-append n made more))

-- the lines of what an element makes go from those that are left to those that were made
pub lines_moved : {X : Type 0} (m : Makes X Entry) → IsMade m
    → (lines : List Line) (k n : ℕ) (xs : List X) (i : ℕ) (x : X) (whole : List Line)
    → i < length xs → x ≡ get_or xs i x
    → lines ++ entered_lines k (m.all n (drop i xs)) ≡ whole
    → (lines ++ entered_lines k (m.one n x)) ++ entered_lines (k + length (m.one n x))
    (m.all (m.next n x) (drop (i + 1) xs)) ≡ whole
lines_moved m h lines k n xs i x whole below is e =
    lines_go_on lines k (m.one n x) (m.all (m.next n x) (drop (i + 1) xs))
    ∙ ap (λ es. lines ++ entered_lines k es) (sym (split m h n xs i x below is)) ∙ e

-- at the end no lines are left
pub lines_ended : {X : Type 0} (m : Makes X Entry) → IsMade m
    → (lines : List Line) (k n : ℕ) (xs : List X) (i : ℕ) (whole : List Line) → length xs ≤ i
    → lines ++ entered_lines k (m.all n (drop i xs)) ≡ whole → lines ≡ whole
unfolding entered_lines
lines_ended m h lines k n xs i whole past e = sym (append-nil lines)
    ∙ ap (λ es. lines ++ entered_lines k es) (sym (at_drop_all (m.all n) xs i past ∙ h.none n)) ∙ e

-- ---- the book

-- behind updates the count is higher by those that are new
pub updates_reached : (n : ℕ) (xs : List BookEntry)
    → reached makes_updates n xs ≡ n + length (new_updates n (map entered xs))
unfolding new_updates reached
updates_reached n [] = omega arith
updates_reached n (x ∷ xs) =
    let one = one_update n x in
    let rest = new_updates (n + length one) (map entered xs) in
    omega (
      arith,
      updates_reached (n + length one) xs,
      ap length (update_first n (entered x) (map entered xs)),
      length-append one rest,
    )

-- where nothing is counted the count stays
pub uncounted : {X L : Type 0} (m : Makes X L) → ((n : ℕ) (x : X) → m.next n x ≡ n) → (n : ℕ)
    (xs : List X) → reached m n xs ≡ n
unfolding reached
uncounted m h n [] = refl
uncounted m h n (x ∷ xs) = uncounted m h (m.next n x) xs ∙ h n x

-- one element more makes so many more
pub counted_more : {X : Type 0} (m : Makes X Entry) → IsMade m → (n k : ℕ) (xs : List X) (x : X)
    → k ≡ reached m n xs
    → length (m.all n (xs ++ x ∷ [])) ≡ length (m.all n xs) + length (m.one k x)
counted_more m h n k xs x is =
    ap length (made_more m h n xs x)
    ∙ length-append (m.all n xs) (m.one (reached m n xs) x)
    ∙ ap (λ j. length (m.all n xs) + length (m.one j x)) (sym is)

-- and their lines are behind those before
pub lines_more : {X : Type 0} (m : Makes X Entry) → IsMade m → (first lines : List Line)
    (n k start place : ℕ) (xs : List X) (x : X) → k ≡ reached m n xs
    → place ≡ start + length (m.all n xs)
    → lines ≡ first ++ entered_lines start (m.all n xs)
    → lines ++ entered_lines place (m.one k x)
    ≡ first ++ entered_lines start (m.all n (xs ++ x ∷ []))
lines_more m h first lines n k start place xs x is at e =
    ap (λ ls. ls ++ entered_lines place (m.one k x)) e
    ∙ ap (λ j. (first ++ entered_lines start (m.all n xs)) ++ entered_lines j (m.one k x)) at
    ∙ lines_go_on first start (m.all n xs) (m.one k x)
    ∙ ap (λ j. first ++ entered_lines start (m.all n xs ++ m.one j x)) is
    ∙ ap (λ es. first ++ entered_lines start es) (sym (made_more m h n xs x))

-- before the first update nothing came
pub no_updates : (n k : ℕ) → k ≡ k + length (new_updates n [])
unfolding new_updates
no_updates n k = omega arith

pub no_lines : (lines : List Line) (start n : ℕ)
    → lines ≡ lines ++ entered_lines start (new_updates n [])
unfolding entered_lines new_updates
no_lines lines start n = sym (append-nil lines)

-- no updates change nothing
pub none_come : (b : BookValue) (es : List BookEntry) → length es ≡ 0
    → b ≡ with_updates b (new_updates b.updates (map entered es))
unfolding new_updates
none_come b [] none = ap (λ xs. record { entries = xs; updates = b.updates })
    (sym (append-nil b.entries))
    ∙ ap (λ n. record { entries = b.entries ++ []; updates = n }) (omega arith)
none_come b (e ∷ es) none = absurd (omega (arith, none))

pub nothing : {X : Type 0} (xs : List X) → length xs ≡ 0 → xs ≡ []
nothing [] none = refl
nothing (x ∷ xs) none = absurd (omega (arith, none))

pub none_shown : (lines : List Line) (start n : ℕ) (es : List BookEntry) → length es ≡ 0
    → lines ≡ lines ++ entered_lines start (new_updates n (map entered es))
none_shown lines start n [] none = no_lines lines start n
none_shown lines start n (e ∷ es) none = absurd (omega (arith, none))

-- ---- reads

abbrev pub makes_reads : Makes Answered Entry
makes_reads = record { all = λ n xs. reads_in xs; one = λ n x. read_in x; next = λ n x. n }

pub reads_made : IsMade makes_reads
reads_made = record { first = λ n x xs. refl; none = λ n. refl }

-- ---- answers, refusals, packets

abbrev pub makes_answer_lines : ServerId → Makes Answered Line
makes_answer_lines s = record {
  all = λ n xs. answered_lines s xs;
  one = λ n x. answered_line s x ∷ [];
  next = λ n x. n;
}

pub answer_lines_made : (s : ServerId) → IsMade (makes_answer_lines s)
answer_lines_made s = record { first = λ n x xs. refl; none = λ n. refl }

abbrev pub makes_refusal_lines : ServerId → Makes Refused Line
makes_refusal_lines s = record {
  all = λ n xs. refused_lines s xs;
  one = λ n x. refused_line s x ∷ [];
  next = λ n x. n;
}

pub refusal_lines_made : (s : ServerId) → IsMade (makes_refusal_lines s)
refusal_lines_made s = record { first = λ n x xs. refl; none = λ n. refl }

abbrev pub makes_packets : ServerId → Makes Sent Posted
makes_packets s = record {
  all = λ n xs. packets_of s xs;
  one = λ n x. packet_of s x;
  next = λ n x. n;
}

pub packets_made : (s : ServerId) → IsMade (makes_packets s)
packets_made s = record { first = λ n x xs. refl; none = λ n. refl }

abbrev pub makes_send_lines : ServerId → Makes Sent Line
makes_send_lines s = record {
  all = λ n xs. sent_lines s n xs;
  one = λ n x. sent_line s n x;
  next = λ n x. n + length (packet_of s x);
}

pub send_lines_made : (s : ServerId) → IsMade (makes_send_lines s)
unfolding sent_lines
send_lines_made s = record { first = λ n x xs. refl; none = λ n. refl }

-- behind messages there are so many packets more
pub packets_reached : (s : ServerId) (n : ℕ) (xs : List Sent)
    → reached (makes_send_lines s) n xs ≡ n + length (packets_of s xs)
unfolding reached
packets_reached s n [] = omega arith
packets_reached s n (x ∷ xs) = omega (
  arith,
  packets_reached s (n + length (packet_of s x)) xs,
  length-append (packet_of s x) (packets_of s xs),
)

-- ---- put together

pub put_together : (ls l1 l2 l3 l4 l5 : List Line) (n m : ℕ) (us rs : List Entry)
    (ans ref ss : List Line) → m ≡ n + length us
    → l1 ≡ ls ++ entered_lines n us → l2 ≡ l1 ++ entered_lines m rs
    → l3 ≡ l2 ++ ans → l4 ≡ l3 ++ ref → l5 ≡ l4 ++ ss
    → l5 ≡ ls ++ (entered_lines n (us ++ rs) ++ (ans ++ (ref ++ ss)))
put_together ls l1 l2 l3 l4 l5 n m us rs ans ref ss em e1 e2 e3 e4 e5 =
    let two : l2 ≡ ls ++ entered_lines n (us ++ rs) =
    e2 ∙ ap (λ l. l ++ entered_lines m rs) e1
    ∙ ap (λ k. (ls ++ entered_lines n us) ++ entered_lines k rs) em ∙ lines_go_on ls n us rs in
    e5 ∙ ap (λ l. l ++ ss) (e4 ∙ ap (λ l. l ++ ref) (e3 ∙ ap (λ l. l ++ ans) two))
    ∙ append_assoc ((ls ++ entered_lines n (us ++ rs)) ++ ans) ref ss
    ∙ append_assoc (ls ++ entered_lines n (us ++ rs)) ans (ref ++ ss)
    ∙ append_assoc ls (entered_lines n (us ++ rs)) (ans ++ (ref ++ ss))

-- ---- one update

none_new : (n : ℕ) (e : Entry) → nat_le e.index n ≡ true → new_updates n (e ∷ []) ≡ []
unfolding new_updates
none_new n e h = ap (λ b. behind b n e []) h

one_new : (n : ℕ) (e : Entry) → nat_le e.index n ≡ false → new_updates n (e ∷ []) ≡ e ∷ []
unfolding new_updates
one_new n e h = ap (λ b. behind b n e []) h

-- it stands in the book already
pub stays : (b : BookValue) (e : Entry) → nat_le e.index b.updates ≡ true
    → b ≡ with_updates b (new_updates b.updates (e ∷ []))
stays b e h =
    ap (λ es. record { entries = es; updates = b.updates }) (sym (append-nil b.entries))
    ∙ ap (λ n. record { entries = b.entries ++ []; updates = n }) (none_more b.updates)
    ∙ sym (ap (with_updates b) (none_new b.updates e h))
  where
    none_more : (n : ℕ) → n ≡ n + 0
    none_more n = omega arith

pub stays_lines : (lines : List Line) (n u : ℕ) (e : Entry) → nat_le e.index u ≡ true
    → lines ≡ lines ++ entered_lines n (new_updates u (e ∷ []))
unfolding entered_lines
stays_lines lines n u e h = sym (append-nil lines)
    ∙ sym (ap (λ es. lines ++ entered_lines n es) (none_new u e h))

-- it comes to the book
pub comes : (b mid new : BookValue) (e : Entry) → nat_le e.index b.updates ≡ false
    → mid ≡ with_reads b (e ∷ []) → new ≡ record mid { updates = mid.updates + 1 }
    → new ≡ with_updates b (new_updates b.updates (e ∷ []))
comes b mid new e h e1 e2 = e2
    ∙ ap (λ (z : BookValue). record z { updates = z.updates + 1 }) e1
    ∙ sym (ap (with_updates b) (one_new b.updates e h))

pub comes_lines : (lines new : List Line) (n u : ℕ) (e : Entry) → nat_le e.index u ≡ false
    → new ≡ lines ++ entered_line (n + 1) e ∷ []
    → new ≡ lines ++ entered_lines n (new_updates u (e ∷ []))
unfolding entered_lines
comes_lines lines new n u e h e1 = e1
    ∙ sym (ap (λ es. lines ++ entered_lines n es) (one_new u e h))

-- there is room to count it
pub counts : (b mid : BookValue) (x : Entry) → b.updates ≤ length b.entries
    → mid ≡ with_reads b (x ∷ []) → mid.updates + 1 ≤ length mid.entries
counts b mid x h e =
    let many : mid.updates ≡ b.updates = ap (λ (z : BookValue). z.updates) e in
    let more : length mid.entries ≡ length b.entries + 1 = ap (λ (z : BookValue). length z.entries) e
    ∙ length-append b.entries (x ∷ []) in
    omega (arith, h, many, more)
