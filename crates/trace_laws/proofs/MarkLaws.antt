-- A step writes the mark at most once, as its last call.
use Rattle.std.proofs.Common.{◌≡◌, ℕ, zero, suc, ◌<◌, List, [], ◌∷◌, ◌++◌, append-nil, length, replicate, take, sym, ap, ◌∙◌, subst, arith}
use Rattle.std.specs.List.{AllByRecursion}
use Rattle.file_tree.specs.Book.{Entry}
use Rattle.group_rules.specs.Moves.{Accepting, Applying, Demoting, Flushing, Joining, Move, Saving, act, acts}
use Rattle.group_rules.specs.Places.{Place}
use Rattle.group_rules.specs.State.{Server}
use Rattle.group_rules.specs.Step.{list_of, rule, saves, step_of}
use Rattle.group_rules.proofs.Tests.{by_if}
use Rattle.group_trace.specs.Calls.{CallKind, Changes, Marks, Syncs, calls_in, calls_of}
use Rattle.group_trace.specs.Scene.{Measures}
use Rattle.trace_laws.specs.Stops.{CutWritesNoMark, IsNoMark, MarksLast, MarksOnce}
use Rattle.trace_laws.proofs.StepCalls.{MayCall, Once, calls, free, rule_once}
use Rattle.trace_laws.proofs.StopLaws.{AreFree, calls_append, free_calls, step_calls}

-- ---- calls of which only the last one may be a mark

behind : (call : CallKind) (calls : List CallKind) → IsNoMark call → MarksLast calls
    → MarksLast (call ∷ calls)
behind call [] other h = tt
behind call (next ∷ later) other h = (other, h)

changes_before : (n : ℕ) (calls : List CallKind) → MarksLast calls
    → MarksLast (replicate n Changes ++ calls)
changes_before zero later h = h
changes_before (suc n) later h = behind Changes _ (λ e. cc) (changes_before n later h)

changes_last : (n : ℕ) → MarksLast (replicate n Changes)
changes_last zero = tt
changes_last (suc n) = behind Changes _ (λ e. cc) (changes_last n)

-- the calls of one move
move_last : (m : Measures) (list : List Entry) (s : Server Entry) (move : Move Entry)
    → MarksLast (calls_in m list s move)
move_last m list s (Joining v duty) = tt
move_last m list s (Accepting plan role n) = tt
move_last m list s (Applying n) = changes_last _
move_last m list s Flushing = ((λ e. cc), tt)
move_last m list s (Demoting v) = tt
move_last m list s Saving = by_if MarksLast (saves s.held s.saved) _ []
    (λ _. changes_before (length s.items) (Syncs ∷ Marks ∷ []) ((λ e. cc), tt))
    (λ _. tt)
move_last m list s move = tt

-- ---- the laws

one_move : (m : Measures) (q : Place) (clock : ℕ) (list : List Entry) (s : Server Entry)
    (move : Move Entry) (after : List (Move Entry)) → AreFree after
    → calls_of m q clock list s (move ∷ after) ≡ calls_in m list s move
unfolding calls_of
one_move m q clock list s move after h =
    ap (λ cs. calls_in m list s move ++ cs)
    (free_calls m q clock list (act q clock s move) after h)
    ∙ append-nil (calls_in m list s move)

once_last : (m : Measures) (q : Place) (clock : ℕ) (list : List Entry) (s : Server Entry)
    (P : Move Entry → Type 0) (ms : List (Move Entry)) → Once P ms
    → MarksLast (calls_of m q clock list s ms)
once_last m q clock list s P _ (free ms h) =
    subst MarksLast (sym (free_calls m q clock list s ms h)) tt
once_last m q clock list s P _ (calls before after move h p k) =
    let there = acts q clock s before in
    let is : calls_of m q clock list s (before ++ move ∷ after) ≡ calls_in m list there move =
    calls_append m q clock list s before (move ∷ after)
    ∙ ap (λ cs. cs ++ calls_of m q clock list there (move ∷ after))
    (free_calls m q clock list s before h)
    ∙ one_move m q clock list there move after k in
    subst MarksLast (sym is) (move_last m list there move)

pub marks_once : MarksOnce
marks_once m g q i =
    let list = list_of g q in
    subst MarksLast (sym (step_calls m q (g.clock q) list (g.server q) i))
    (once_last m q (g.clock q) list (g.server q) (MayCall i)
    (rule m.size q (g.clock q) list (g.server q) i)
    (rule_once m.size q (g.clock q) list (g.server q) i))

no_mark_before : (calls : List CallKind) (most : ℕ) → MarksLast calls → most < length calls
    → AllByRecursion IsNoMark (take most calls)
no_mark_before made zero h l = tt
no_mark_before [] (suc most) h l = absurd (omega (arith, l))
no_mark_before (call ∷ []) (suc most) h l = absurd (omega (arith, l))
no_mark_before (call ∷ next ∷ later) (suc most) h l =
    (h.0, no_mark_before (next ∷ later) most h.1 (omega (arith, l)))

pub cut_writes_no_mark : CutWritesNoMark
cut_writes_no_mark m g q i most l = no_mark_before
    (calls_of m q (g.clock q) (list_of g q) (g.server q) (step_of m.size g q i)) most
    (marks_once m g q i) l
