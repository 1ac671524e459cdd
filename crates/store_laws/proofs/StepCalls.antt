-- Which calls a run's step makes.
use Rattle.std.proofs.Common.{◌≡◌, ℕ, ◌+◌, Bool, true, false, List, [], ◌∷◌, ◌++◌, map, min, refl, sym, ap, subst, ◌∙◌, append-nil, append_assoc, true≢false, if◌then◌else◌}
use Rattle.std.specs.List.{AllByRecursion}
use Rattle.file_tree.specs.Book.{Entry}
use Rattle.group_trace.specs.DiskCalls.{Changing, DiskCall, Marking, Spellings, Syncing, all_calls, calls_by, measures_of}
use Rattle.group_rules.specs.Disk.{flush_tests, settled_tests}
use Rattle.group_rules.specs.Moves.{Appending, Applying, Basing, Booting, Choosing, Collecting, Committing, Falling, Flushing, Hearing, Heeding, Move, Noting, Opening, Pulling, Reading, Saving, Saying, Sending, Staging, act, acts}
use Rattle.group_rules.specs.Open.{rebase}
use Rattle.group_rules.specs.Places.{Place, all_of}
use Rattle.group_rules.specs.State.{Server}
use Rattle.group_rules.specs.Step.{Apply, Crash, Does, Flush, Input, Power, list_of, rule}
use Rattle.store_laws.specs.Steps.{StepsMakeCalls, any_marks, applied_by, is_of_cells, marks}
use Rattle.trace_laws.proofs.MoveKinds.{AreTail, IsTail, each-append}
use Rattle.trace_laws.proofs.StepCalls.{IsSteady, MayCall, Once, calls, free, rule_once}
use Rattle.trace_laws.proofs.StepKinds.{tail_base}
use Rattle.trace_laws.proofs.StopLaws.{AreFree, IsFree}

-- ---- moves without a call

pub record IsQuiet (m : Move Entry) : Type 0 where
  pub calls : (f : Spellings) (list : List Entry) (s : Server Entry) → calls_by f list s m ≡ []
  pub marks : marks m ≡ false

abbrev AreQuiet : List (Move Entry) → Type 0
AreQuiet ms = AllByRecursion IsQuiet ms

free_quiet : (m : Move Entry) → IsFree m → IsQuiet m
free_quiet (Collecting reports) h = record { calls = λ f list s. refl; marks = refl }
free_quiet (Choosing plan from) h = record { calls = λ f list s. refl; marks = refl }
free_quiet (Pulling plan from) h = record { calls = λ f list s. refl; marks = refl }
free_quiet (Staging items) h = record { calls = λ f list s. refl; marks = refl }
free_quiet (Noting t lb until) h = record { calls = λ f list s. refl; marks = refl }
free_quiet (Committing n) h = record { calls = λ f list s. refl; marks = refl }
free_quiet (Saying say) h = record { calls = λ f list s. refl; marks = refl }
free_quiet (Sending to m) h = record { calls = λ f list s. refl; marks = refl }
free_quiet (Opening lb) h = record { calls = λ f list s. refl; marks = refl }
free_quiet (Appending e) h = record { calls = λ f list s. refl; marks = refl }
free_quiet (Reading n e) h = record { calls = λ f list s. refl; marks = refl }
free_quiet (Heeding items cp base) h = record { calls = λ f list s. refl; marks = refl }
free_quiet (Hearing x lb) h = record { calls = λ f list s. refl; marks = refl }
free_quiet m h = absurd h

all_free : (ms : List (Move Entry)) → AreFree ms → AreQuiet ms
all_free [] h = tt
all_free (m ∷ ms) h = (free_quiet m h.0, all_free ms h.1)

tails_quiet : (ms : List (Move Entry)) → AreTail ms → AreQuiet ms
tails_quiet [] h = tt
tails_quiet (m ∷ ms) h = (one m h.0, tails_quiet ms h.1)
  where
    one : (m : Move Entry) → IsTail m → IsQuiet m
    one (Sending to x) h = record { calls = λ f list s. refl; marks = refl }
    one (Basing n) h = record { calls = λ f list s. refl; marks = refl }
    one (Opening lb) h = record { calls = λ f list s. refl; marks = refl }
    one m h = absurd h

none_made : (f : Spellings) (q : Place) (clock : ℕ) (list : List Entry) (ms : List (Move Entry))
    (s : Server Entry) → AreQuiet ms → all_calls f q clock list s ms ≡ []
unfolding all_calls
none_made f q clock list [] s h = refl
none_made f q clock list (m ∷ ms) s h =
    ap (λ (cs : List DiskCall). cs ++ all_calls f q clock list (act q clock s m) ms)
    (h.0.calls f list s) ∙ none_made f q clock list ms (act q clock s m) h.1

none_marks : (ms : List (Move Entry)) → AreQuiet ms → any_marks ms ≡ false
none_marks [] h = refl
none_marks (m ∷ ms) h = ap (λ (b : Bool). if b then true else any_marks ms) h.0.marks
    ∙ none_marks ms h.1

-- so a step's end makes none
rest_made : (f : Spellings) (q : Place) (clock : ℕ) (list : List Entry) (s : Server Entry)
    → all_calls f q clock list s (rebase s) ≡ []
rest_made f q clock list s = none_made f q clock list (rebase s) s
    (tails_quiet (rebase s) (tail_base s))

-- and a move before it makes its own calls
one_then : (f : Spellings) (q : Place) (clock : ℕ) (list : List Entry) (s : Server Entry)
    (m : Move Entry)
    → all_calls f q clock list s (m ∷ rebase (act q clock s m)) ≡ calls_by f list s m
unfolding all_calls
one_then f q clock list s m =
    ap (λ (cs : List DiskCall). calls_by f list s m ++ cs)
    (rest_made f q clock list (act q clock s m)) ∙ append-nil (calls_by f list s m)

-- ---- at most one move that writes the mark

abbrev marking : Bool → List DiskCall
marking b = if b then Marking ∷ [] else []

steady_calls : (f : Spellings) (list : List Entry) (s : Server Entry) (m : Move Entry) → IsSteady m
    → calls_by f list s m ≡ marking (marks m)
steady_calls f list s (Applying n) h = absurd h
steady_calls f list s Flushing h = absurd h
steady_calls f list s Saving h = absurd h
steady_calls f list s Falling h = absurd h
steady_calls f list s (Booting d) h = absurd h
steady_calls f list s (Basing n) h = absurd h
steady_calls f list s m h = refl

one_marks : (m : Move Entry) (more : List (Move Entry)) → AreQuiet more
    → any_marks (m ∷ more) ≡ marks m
one_marks m more a = by (marks m)
  where
    by : (b : Bool) → (if b then true else any_marks more) ≡ b
    by true = refl
    by false = none_marks more a

one_call : (f : Spellings) (q : Place) (clock : ℕ) (list : List Entry) (before : List (Move Entry))
    (s : Server Entry) (m : Move Entry) (more : List (Move Entry)) → AreQuiet before → IsSteady m
    → AreQuiet more
    → all_calls f q clock list s (before ++ m ∷ more) ≡ marking (any_marks (before ++ m ∷ more))
unfolding all_calls
one_call f q clock list [] s m more b h a =
    ap (λ (cs : List DiskCall). calls_by f list s m ++ cs)
    (none_made f q clock list more (act q clock s m) a)
    ∙ append-nil (calls_by f list s m) ∙ steady_calls f list s m h
    ∙ ap marking (sym (one_marks m more a))
one_call f q clock list (x ∷ before) s m more b h a =
    ap (λ (cs : List DiskCall). cs ++ all_calls f q clock list (act q clock s x)
    (before ++ m ∷ more)) (b.0.calls f list s)
    ∙ one_call f q clock list before (act q clock s x) m more b.1 h a
    ∙ ap (λ (c : Bool). marking (if c then true else any_marks (before ++ m ∷ more)))
    (sym b.0.marks)

once_calls : (f : Spellings) (q : Place) (clock : ℕ) (list : List Entry) (s : Server Entry)
    (ms rest : List (Move Entry)) → Once IsSteady ms → AreQuiet rest
    → all_calls f q clock list s (ms ++ rest) ≡ marking (any_marks (ms ++ rest))
once_calls f q clock list s _ rest (free ms h) r =
    let all = each-append IsQuiet ms rest (all_free ms h) r in
    none_made f q clock list (ms ++ rest) s all ∙ ap marking (sym (none_marks (ms ++ rest) all))
once_calls f q clock list s _ rest (calls before after m b h a) r =
    subst (λ (l : List (Move Entry)). all_calls f q clock list s l ≡ marking (any_marks l))
    (sym (append_assoc before (m ∷ after) rest))
    (one_call f q clock list before s m (after ++ rest) (all_free before b) h
    (each-append IsQuiet after rest (all_free after a) r))

-- ---- steps

steady_rule : (i : Input) → is_of_cells i ≡ false → (ms : List (Move Entry)) → Once (MayCall i) ms
    → Once IsSteady ms
steady_rule (Does (Apply n)) e ms o = absurd (true≢false e)
steady_rule (Does Flush) e ms o = absurd (true≢false e)
steady_rule (Does Power) e ms o = absurd (true≢false e)
steady_rule (Does Crash) e ms o = absurd (true≢false e)
steady_rule i e ms o = o

pub steps_make_calls : StepsMakeCalls
steps_make_calls f g q = record {
  apply = λ n. applies n (all_of (settled_tests q s));
  flush = flushes (all_of (flush_tests q s));
  power = one_then f q clock list s Saving;
  crash = one_then f q clock list s Falling;
  other = λ i e.
      let ms = rule (measures_of f).size q clock list s i in
      once_calls f q clock list s ms (rebase (acts q clock s ms))
      (steady_rule i e ms (rule_once (measures_of f).size q clock list s i))
      (tails_quiet (rebase (acts q clock s ms)) (tail_base (acts q clock s ms)));
}
  where
    s : Server Entry
    s = g.server q

    clock : ℕ
    clock = g.clock q

    list : List Entry
    list = list_of g q

    applies : (n : ℕ) (b : Bool) → all_calls f q clock list s
        ((if b then Applying (min (s.ap + n) s.cp) ∷ [] else [])
        ++ rebase (acts q clock s (if b then Applying (min (s.ap + n) s.cp) ∷ [] else [])))
        ≡ (if b then map Changing (applied_by g q n) else [])
    applies n true = one_then f q clock list s (Applying (min (s.ap + n) s.cp))
    applies n false = rest_made f q clock list s

    flushes : (b : Bool) → all_calls f q clock list s ((if b then Flushing ∷ [] else [])
        ++ rebase (acts q clock s (if b then Flushing ∷ [] else [])))
        ≡ (if b then Syncing ∷ Marking ∷ [] else [])
    flushes true = one_then f q clock list s Flushing
    flushes false = rest_made f q clock list s
