-- A stop counts the calls that a step makes.
use Rattle.std.proofs.Common.{◌≡◌, ℕ, zero, suc, ◌+◌, ◌-◌, Bool, true, false, List, [], ◌∷◌, ◌++◌, length, replicate, take, drop, map, refl, sym, ap, ◌∙◌, append_assoc, append-nil, le_of_eq, if◌then◌else◌}
use Rattle.std.proofs.lemmas.List.{length-append, take_all}
use Rattle.std.proofs.lemmas.List.Sums.{fold-append}
use mathlib.Core.Path.{fun_ext}
use Rattle.file_tree.specs.Book.{Entry}
use Rattle.harp_cells.specs.declared.change.Change.{Change}
use Rattle.harp_cells.specs.Effect.{Cells, after, changed}
use Rattle.fuzzy_cells.specs.History.{between, cells_at, in_a_row, no_cells}
use Rattle.record_changes.specs.Records.{history_from, history_of}
use Rattle.record_changes.proofs.Histories.{as_long, grow}
use Rattle.group_rules.specs.Moves.{Accepting, Appending, Applying, Basing, Booting, Choosing, Collecting, Committing, Demoting, Falling, Flushing, Hearing, Heeding, Joining, Move, Noting, Opening, Pulling, Reading, Saving, Saying, Sending, Staging, act}
use Rattle.group_rules.specs.State.{Server}
use Rattle.group_rules.specs.Step.{saves}
use Rattle.group_trace.specs.Calls.{calls_in, calls_of, changes_of, Changes, Marks, Syncs}
use Rattle.group_trace.specs.DiskCalls.{Changing, DiskCall, Marking, Spellings, kind_of, Syncing, all_calls, calls_by, changes_after, measures_of, saved_puts}
use Rattle.trace_laws.specs.DiskLaws.{CallsAreCounted}

-- how many changes records have
abbrev pub count : List Entry → Entry → ℕ
count before e = length (changes_after before e)

-- the cells after all records of entries
abbrev made : List Entry → Cells
made entries = cells_at (history_of entries) (length entries)

made_more : (entries : List Entry) (e : Entry) → made (entries ++ e ∷ []) ≡
    after (changes_after entries e) (made entries)
made_more entries e =
    let x = changes_after entries e in
    let all : (es : List Entry) → made es ≡ after (in_a_row (history_of es)) no_cells =
    λ es. ap (λ h. after (in_a_row h) no_cells) (take_all (length es) (history_of es)
    (le_of_eq (as_long es))) in
    all (entries ++ e ∷ []) ∙ ap (λ h. after (in_a_row h) no_cells) (grow entries e)
    ∙ ap (λ (l : List Change). after l no_cells) (row_push (history_of entries) x)
    ∙ fun_ext (λ c. fold-append (changed c) (no_cells c) (in_a_row (history_of entries)) x)
    ∙ ap (λ cells. after x cells) (sym (all entries))
  where
    row_push : (h : List (List Change)) (x : List Change) → in_a_row (h ++ x ∷ []) ≡ in_a_row h
        ++ x
    row_push [] x = append-nil x
    row_push (y ∷ h) x = ap (λ l. y ++ l) (row_push h x) ∙ sym (append_assoc y (in_a_row h) x)

-- the first records from here on
first_counted : (earlier es : List Entry) (k : ℕ)
    → length (in_a_row (take k (history_from (made earlier) earlier es))) ≡
    changes_of count earlier (take k es)
unfolding history_from changes_of
first_counted earlier es zero = refl
first_counted earlier [] (suc k) = refl
first_counted earlier (e ∷ es) (suc k) =
    let x = changes_after earlier e in
    length-append x (in_a_row (take k (history_from (after x (made earlier)) (earlier
    ++ e ∷ []) es)))
    ∙ ap (λ cells. length x + length
    (in_a_row (take k (history_from cells (earlier ++ e ∷ []) es))))
    (sym (made_more earlier e))
    ∙ ap (λ n. length x + n) (first_counted (earlier ++ e ∷ []) es k)

-- those from a place on
later_counted : (earlier es : List Entry) (a k : ℕ)
    → length (in_a_row (take k (drop a (history_from (made earlier) earlier es)))) ≡
    changes_of count (earlier ++ take a es) (take k (drop a es))
unfolding history_from changes_of
later_counted earlier es zero k = first_counted earlier es k
    ∙ ap (λ l. changes_of count l (take k es)) (sym (append-nil earlier))
later_counted earlier [] (suc a) zero = refl
later_counted earlier [] (suc a) (suc k) = refl
later_counted earlier (e ∷ es) (suc a) k =
    let x = changes_after earlier e in
    ap (λ cells. length (in_a_row (take k (drop a (history_from cells (earlier ++ e ∷ []) es)))))
    (sym (made_more earlier e))
    ∙ later_counted (earlier ++ e ∷ []) es a k
    ∙ ap (λ l. changes_of count l (take k (drop a es))) (append_assoc earlier (e ∷ []) (take a es))

counted_between : (list : List Entry) (a n : ℕ) → length (between (history_of list) a n) ≡
    changes_of count (take a list) (take (n - a) (drop a list))
counted_between list a n = later_counted [] list a (n - a)

kinds_of : (xs : List Change) → map kind_of (map Changing xs) ≡ replicate (length xs) Changes
kinds_of [] = refl
kinds_of (x ∷ xs) = ap (λ ks. Changes ∷ ks) (kinds_of xs)

map_both : (xs ys : List DiskCall) → map kind_of (xs ++ ys) ≡ map kind_of xs ++ map kind_of ys
map_both [] ys = refl
map_both (x ∷ xs) ys = ap (λ ks. kind_of x ∷ ks) (map_both xs ys)

puts_length : (f : Spellings) (list : List Entry) (n : ℕ) (es : List Entry)
    → length (saved_puts f list n es) ≡ length es
unfolding saved_puts
puts_length f list n [] = refl
puts_length f list n (e ∷ es) = ap suc (puts_length f list (n + 1) es)

one_counted : (f : Spellings) (list : List Entry) (s : Server Entry) (m : Move Entry)
    → map kind_of (calls_by f list s m) ≡ calls_in (measures_of f) list s m
one_counted f list s (Applying n) = kinds_of (between (history_of list) s.ap n)
    ∙ ap (λ k. replicate k Changes) (counted_between list s.ap n)
one_counted f list s Saving = by (saves s.held s.saved)
  where
    by : (b : Bool) → map kind_of (if b then map Changing (saved_puts f list s.base s.items)
        ++ Syncing ∷ Marking ∷ [] else [])
        ≡ (if b then replicate (length s.items) Changes ++ Syncs ∷ Marks ∷ [] else [])
    by true =
        let puts = saved_puts f list s.base s.items in
        map_both (map Changing puts) (Syncing ∷ Marking ∷ [])
        ∙ ap (λ ks. ks ++ Syncs ∷ Marks ∷ []) (kinds_of puts
        ∙ ap (λ k. replicate k Changes) (puts_length f list s.base s.items))
    by false = refl
one_counted f list s (Joining v duty) = refl
one_counted f list s (Collecting reports) = refl
one_counted f list s (Choosing plan from) = refl
one_counted f list s (Pulling plan n) = refl
one_counted f list s (Staging items) = refl
one_counted f list s (Hearing x lb) = refl
one_counted f list s (Accepting plan role n) = refl
one_counted f list s (Opening lb) = refl
one_counted f list s (Heeding items cp base) = refl
one_counted f list s (Appending e) = refl
one_counted f list s (Noting t lb until) = refl
one_counted f list s (Committing n) = refl
one_counted f list s (Basing n) = refl
one_counted f list s Flushing = refl
one_counted f list s (Demoting v) = refl
one_counted f list s Falling = refl
one_counted f list s (Booting d) = refl
one_counted f list s (Reading n e) = refl
one_counted f list s (Saying say) = refl
one_counted f list s (Sending to m) = refl

pub are_counted : CallsAreCounted
unfolding all_calls calls_of
are_counted f q clock list s [] = refl
are_counted f q clock list s (m ∷ ms) =
    map_both (calls_by f list s m) (all_calls f q clock list (act q clock s m) ms)
    ∙ ap (λ ks. ks ++ map kind_of (all_calls f q clock list (act q clock s m) ms))
    (one_counted f list s m)
    ∙ ap (λ ks. calls_in (measures_of f) list s m ++ ks)
    (are_counted f q clock list (act q clock s m) ms)
