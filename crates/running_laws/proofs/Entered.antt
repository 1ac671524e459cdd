-- The book of a world at a scene of a run: one run of one tree, of calls that were asked for.
use Rattle.std.proofs.Common.{◌≡◌, List, [], ◌∷◌, ◌++◌, append_assoc, append-nil, length, Contains, refl, sym, ap, ◌∙◌, subst, arith, ⊎_elim}
use Rattle.std.specs.List.{AllByRecursion}
use Rattle.std.proofs.lemmas.List.Elements.{Contains-append_cases, Contains-append_left, Contains-push_cases}
use Rattle.file_tree.specs.Book.{Entry, IsBook}
use Rattle.group_trace.specs.DiskCalls.{measures_of}
use Rattle.group_trace.specs.DiskRun.{DiskScene}
use Rattle.group_trace.specs.Run.{run_lines}
use Rattle.group_trace.specs.Scene.{Scene, first_scene}
use Rattle.harp_types.specs.declared.peer.Peer.{Peer}
use Rattle.harp_types.specs.declared.server.ServerId.{ServerId}
use Rattle.trace_claims.proofs.Places.{entries-append, steps-append}
use Rattle.trace_claims.specs.Faithful.{WasAsked as AskedFor}
use Rattle.trace_claims.specs.Trace.{AtPlacesAfter, Trace, entered_by, entries, entry_of, steps}
use Rattle.trace_laws.proofs.DiskRuns.{disk_runs_right}
use Rattle.trace_types.specs.declared.line.Line.{Line}
use Rattle.trace_types.specs.declared.line.Line.TheVariants as line
use Rattle.trace_types.specs.declared.step.Step.{Step}
use Rattle.trace_types.specs.declared.step.Step.TheVariants as step
use Rattle.world.proofs.TheLaws.{the_laws}
use Rattle.world.specs.World.{WorldValue}
use Rattle.world_rules.specs.Spellings.{spellings}
use Rattle.running_laws.specs.Books.{WasAsked}
use Rattle.running_laws.specs.Events.{Event}
use Rattle.running_laws.specs.Follows.{IsAskedStep}
use Rattle.running_laws.proofs.Moving.{IsAt}

-- ---- lists

nothing_in : {X : Type 0} (x : X) (P : Type 0) → Contains [] x → P
nothing_in x P h = absurd (omega (arith, h.1))

-- what holds of each step holds of one among them
pub one_of : (P : Step → Type 0) (ss : List Step) (s : Step) → AllByRecursion P ss
    → Contains ss s → P s
one_of P [] s all h = nothing_in s (P s) h
one_of P (x ∷ ss) s all h = ⊎_elim
    (λ (one : Contains (x ∷ []) s). ⊎_elim (λ none. nothing_in s (P s) none)
    (λ (same : x ≡ s). subst P same all.0) (Contains-push_cases [] x s one))
    (λ later. one_of P ss s all.1 later)
    (Contains-append_cases (x ∷ []) ss s h)

-- ---- each entry of a trace was asked for in it

abbrev AskIn : Trace → Entry → Type 0
AskIn trace e = (server : ServerId)
    × Contains (steps trace) (step.Ask server e.client e.number e.cred e.call)

ask_more : (before more : Trace) (e : Entry) → AskIn before e → AskIn (before ++ more) e
ask_more before more e a = (
  a.0,
  subst (λ ss. Contains ss (step.Ask a.0 e.client e.number e.cred e.call))
      (sym (steps-append before more))
      (Contains-append_left (steps before) (steps more)
      (step.Ask a.0 e.client e.number e.cred e.call) a.1),
)

here_asked : (before : Trace) (l : Line) (e : Entry) → AskedFor before l
    → Contains (entered_by l) e → AskIn before e
here_asked before (line.Entered place entry) e asked h = ⊎_elim
    (λ none. nothing_in e (AskIn before e) none)
    (λ (same : entry_of entry ≡ e). subst (AskIn before) same asked)
    (Contains-push_cases [] (entry_of entry) e h)
here_asked before l e asked h = nothing_in e (AskIn before e) h

asked_there : (before trace : Trace) (e : Entry) → AtPlacesAfter AskedFor before trace
    → Contains (entries trace) e → AskIn (before ++ trace) e
asked_there before [] e all h = nothing_in e (AskIn (before ++ []) e) h
asked_there before (l ∷ trace) e all h = ⊎_elim
    (λ here. ask_more before (l ∷ trace) e (here_asked before l e all.0 here))
    (λ later. subst (λ t. AskIn t e) (append_assoc before (l ∷ []) trace)
    (asked_there (before ++ l ∷ []) trace e all.1 later))
    (Contains-append_cases (entered_by l) (entries trace) e h)

-- ---- the book of a world

pub book_is : (es : List Event) (w : DiskScene) (x : WorldValue) → IsAt es w x
    → IsBook x.book.entries
book_is es w x at = subst IsBook (sym at.stands.book.entries)
    (the_laws.whole w at.reached).books.book

-- the entries of the run's lines
run_entries : (es : List Event) (w : DiskScene) (x : WorldValue) → (at : IsAt es w x)
    → entries (run_lines (measures_of spellings) first_scene at.reached.steps)
    ≡ x.book.entries
run_entries es w x at =
    let right = disk_runs_right spellings at.reached.steps at.reached.taken in
    right.lines.book ∙ ap (λ (z : Scene). z.group.book) (sym right.scene)
    ∙ ap (λ (z : DiskScene). z.scene.group.book) at.reached.leads
    ∙ sym at.stands.book.entries

pub book_asked : (es : List Event) (w : DiskScene) (x : WorldValue) → IsAt es w x → (e : Entry)
    → Contains x.book.entries e
    → (peer : Peer) × WasAsked es e.client e.number e.cred e.call peer
book_asked es w x at e h =
    let ss = at.reached.steps in
    let lines = run_lines (measures_of spellings) first_scene ss in
    let right = disk_runs_right spellings ss at.reached.taken in
    let end = line.End (length (entries lines)) in
    let all = right.lines.right end refl in
    let has : Contains (entries (lines ++ end ∷ [])) e =
    subst (λ xs. Contains xs e) (sym (entries-append lines (end ∷ [])))
    (Contains-append_left (entries lines) [] e
    (subst (λ xs. Contains xs e) (sym (run_entries es w x at)) h)) in
    let asked = asked_there [] (lines ++ end ∷ []) e all.faithful.asked has in
    let s = step.Ask asked.0 e.client e.number e.cred e.call in
    let same : steps (lines ++ end ∷ []) ≡ ss =
    steps-append lines (end ∷ []) ∙ append-nil (steps lines) ∙ right.lines.events in
    one_of (IsAskedStep es) ss s at.asks (subst (λ xs. Contains xs s) same asked.1)
