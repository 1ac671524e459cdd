-- What a stop cuts, and what it never does.
use Rattle.std.specs.Prelude.{◌≡◌, ℕ, ◌<◌, List, [], ◌∷◌, length, take, ⊤}
use Rattle.std.specs.List.{AllByRecursion}
use Rattle.file_tree.specs.Book.{Entry}
use Rattle.group_rules.specs.Places.{Place}
use Rattle.group_rules.specs.State.{Ack, Beat, Event, Fetch, Formed, Group}
use Rattle.group_rules.specs.Step.{Ask, Comes, Does, Input, ListTree, Tick, list_of, step_of}
use Rattle.group_trace.specs.Calls.{CallKind, Marks, calls_of}
use Rattle.group_trace.specs.Scene.{Measures}

-- a tick, an ask, a listing, and the delivery of an Event, a Beat, an Ack, a Formed or a Fetch
abbrev pub NeverCut : Input → Type 0
NeverCut (Does Tick) = ⊤
NeverCut (Does (Ask client number cred call)) = ⊤
NeverCut (Does ListTree) = ⊤
NeverCut (Does d) = ⊥
NeverCut (Comes from (Event v index cp base e)) = ⊤
NeverCut (Comes from (Beat v cp base)) = ⊤
NeverCut (Comes from (Ack v top lb until)) = ⊤
NeverCut (Comes from (Formed v lb)) = ⊤
NeverCut (Comes from (Fetch v index)) = ⊤
NeverCut (Comes from m) = ⊥

-- they make no call that changes the disk
abbrev pub MakesNoCall : Type 0
MakesNoCall = (m : Measures) (g : Group Entry) (q : Place) (i : Input) → NeverCut i
    → calls_of m q (g.clock q) (list_of g q) (g.server q) (step_of m.size g q i) ≡ []

-- a call that isn't the writing of the mark
abbrev pub IsNoMark : CallKind → Type 0
IsNoMark call = call ≡ Marks → ⊥

-- no call but the last one writes the mark
abbrev pub MarksLast : List CallKind → Type 0
MarksLast [] = ⊤
MarksLast (call ∷ []) = ⊤
MarksLast (call ∷ next ∷ calls) = IsNoMark call × MarksLast (next ∷ calls)

-- ONE MARK: a step writes the mark at most once, as its last call that changes the disk
abbrev pub MarksOnce : Type 0
MarksOnce = (m : Measures) (g : Group Entry) (q : Place) (i : Input)
    → MarksLast (calls_of m q (g.clock q) (list_of g q) (g.server q) (step_of m.size g q i))

-- so a step that is cut has written no mark: of fewer calls than the step makes, none is one
abbrev pub CutWritesNoMark : Type 0
CutWritesNoMark = (m : Measures) (g : Group Entry) (q : Place) (i : Input) (most : ℕ)
    → most < length (calls_of m q (g.clock q) (list_of g q) (g.server q) (step_of m.size g q i))
    → AllByRecursion IsNoMark
    (take most (calls_of m q (g.clock q) (list_of g q) (g.server q) (step_of m.size g q i)))
