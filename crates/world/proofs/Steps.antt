-- Steps of servers that are up, by their turns.
use Rattle.std.proofs.Common.{◌≡◌, ℕ, Bool, true, false, nat_le, List, [], ◌∷◌, ◌++◌, append-nil, drop, length, take, Option, None, Some, refl, sym, ap, ◌∙◌, subst, append_assoc, zero-le, if◌then◌else◌}
use Rattle.file_tree.specs.Book.{Entry, tree_after}
use Rattle.world_lines.specs.Given.{listing_shown}
use Rattle.group_trace.specs.DiskCalls.{measures_of}
use Rattle.group_trace.specs.DiskRun.{DiskScene, disk_next, is_whole}
use Rattle.schedule_play.specs.Stage.{IsReached, IsTaken}
use Rattle.group_rules.proofs.Tests.{le_is}
use Rattle.group_rules.specs.Disk.{settled_tests}
use Rattle.group_rules.specs.Names.{id_of, place_of}
use Rattle.group_rules.specs.Places.{Place, all_of}
use Rattle.group_rules.specs.State.{Group}
use Rattle.group_rules.specs.Step.{Deed, Does, ListTree, Power, list_of, step_of}
use Rattle.group_trace.specs.Calls.{calls_of}
use Rattle.group_trace.specs.Lines.{answered_lines, entered_lines, list_lines, listed_lines, refused_lines, sent_lines, state_lines}
use Rattle.group_trace.specs.Refusals.{own_refusal, refusal, where_down}
use Rattle.group_trace.specs.Run.{moved_in, step_lines}
use Rattle.group_trace.specs.Shown.{shown_of}
use Rattle.harp_types.specs.declared.server.ServerId.{ServerId}
use Rattle.world_rules.specs.Spellings.{spellings}
use Rattle.world_rules.specs.Steps.{IsStop, listing_by}
use Rattle.world_rules.specs.declared.stop.Stop.{Stop}
use Rattle.world_lines.proofs.TreeLines.{count_is, lines_are}
use Rattle.world_lines.specs.Lines.{lines_of_objects}
use Rattle.node.specs.Input.{input_of}
use Rattle.node.specs.declared.input.Input.{Input}
use Rattle.node.specs.declared.input.Input.TheVariants as input
use Rattle.world_laws.specs.StockLaws.{GoesOn}
use Rattle.trace_claims.specs.Listing.{living, tree_lines}
use Rattle.trace_laws.proofs.StopLaws.{makes_no_call}
use Rattle.trace_laws.proofs.Turns.{is_up, own_none}
use Rattle.trace_types.specs.declared.line.Line.{Line}
use Rattle.trace_types.specs.declared.line.Line.TheVariants as line
use Rattle.harp_types.specs.declared.pick.Pick.{Pick}
use Rattle.trace_types.specs.declared.step.Step.{Step}
use Rattle.trace_types.specs.declared.step.Step.TheVariants as step
use Rattle.tree_listing.specs.Listing.{tree_listed}
use Rattle.tree_listing.specs.declared.listing.Listing.{Listing}
use Rattle.replica.specs.Listing.{listing_at}
use Rattle.world.specs.Steps.{Takes}
use Rattle.world.specs.Turns.{PowerFails, TurnBegins, Turns, after_armed_turn, after_turn, turn_lines, turn_moves}
use Rattle.world.specs.World.{IsWorld, WorldValue}
use Rattle.world.proofs.Tables.{id_there}

-- a server that isn't refused as down is up
pub up_of : (w : DiskScene) (s : Step) (server : ServerId)
    → own_refusal (measures_of spellings) w.scene.group s ≡ where_down w.scene.group server
    → own_refusal (measures_of spellings) w.scene.group s ≡ None
    → (w.scene.group.server (place_of server)).up ≡ true
up_of w s server same none = is_up w.scene.group server (sym same ∙ none)

pub deed_begins : (w : DiskScene) (x : WorldValue) (q : Place) (given : Input) (d : Deed)
    → IsReached spellings w → IsWorld w x → (w.scene.group.server q).up ≡ true
    → input_of given ≡ Some (Does d) → GoesOn d → TurnBegins w x q given (Does d)
deed_begins w x q given d reached stands up begins goes = record {
  reached = reached;
  stands = stands;
  up = up;
  begins = begins;
  rightly = goes;
}

-- a step that is taken, and isn't refused
pub taken_there : (old new : WorldValue) (s : Step) (lines : List Line) → Takes old new s lines
    → (w : DiskScene) → IsReached spellings w → IsWorld w old
    → refusal (measures_of spellings) w.scene s ≡ None
    → IsTaken spellings w s lines (λ v. IsWorld v new)
taken_there old new s lines takes w reached stands none =
    let leads = takes w reached stands (own_none _ _ none) in
    record { not_refused = none; lines_are = leads.lines_are; left = leads.left }

-- A STEP with a deed is taken by its server's turn
pub deed_taken : (s : Step) (server : ServerId) (given : Input) (d : Deed) (old new : WorldValue)
    (before lines : List Line) (listing : Option Listing) → before ≡ []
    → Turns old new server given before lines listing → input_of given ≡ Some (Does d) → GoesOn d
    → ((w : DiskScene)
    → own_refusal (measures_of spellings) w.scene.group s ≡ where_down w.scene.group server)
    → ((w : DiskScene)
    → disk_next spellings w s ≡ after_armed_turn w (place_of server) (Does d))
    → ((w : DiskScene) → step_lines (measures_of spellings) w.scene s ≡ line.Event s
    ∷ turn_lines w (w.scene.armed (place_of server)) (place_of server) (Does d))
    → Takes old new s lines
deed_taken s server given d old new before lines listing first turns begins goes same leads says w
    reached stands none =
    let q = place_of server in
    let t = turns w (Does d) (deed_begins w old q given d reached stands
    (up_of w s server (same w) none) begins goes) in
    record {
      lines_are = ap (λ ls. line.Event s ∷ ls)
          (t.lines ∙ ap (λ b. b ++ turn_lines w (w.scene.armed q) q (Does d)) first)
          ∙ sym (says w);
      left = subst (λ v. IsWorld v new) (sym (leads w)) t.left;
    }

-- ---- a listing

-- a listing is never cut
lists_whole : (w : DiskScene) (q : Place)
    → is_whole spellings w.scene.group (w.scene.armed q) q (Does ListTree) ≡ true
lists_whole w q = by (w.scene.armed q)
  where
    none : calls_of (measures_of spellings) q (w.scene.group.clock q) (list_of w.scene.group q)
        (w.scene.group.server q)
        (step_of (measures_of spellings).size w.scene.group q (Does ListTree)) ≡ []
    none = makes_no_call (measures_of spellings) w.scene.group q (Does ListTree) tt

    by : (most : Option ℕ) → is_whole spellings w.scene.group most q (Does ListTree) ≡ true
    by None = refl
    by (Some n) = ap (λ cs. nat_le (length cs) n) none ∙ le_is 0 n (zero-le)

-- what a server lists is what a trace shows of it
listed_rightly : (g : Group Entry) (server : ServerId) → listing_shown server
    (listing_by (g.server (place_of server)) (place_of server) (list_of g (place_of server))
    input.List) ≡ list_lines g (place_of server)
listed_rightly g server =
    let q = place_of server in
    let s = g.server q in
    let tree = tree_after (take s.cp (list_of g q)) in
    by (all_of (settled_tests q s)) (listing_at s.cp (list_of g q))
    (listed_lines q s.cp tree) (line.Unlisted (id_of q) ∷ [])
    (ap (λ n. line.Listed server s.cp n ∷ lines_of_objects (tree_listed tree)) (count_is tree)
    ∙ ap (λ ls. line.Listed server s.cp (living tree) ∷ ls) (lines_are tree)
    ∙ ap (λ from. line.Listed from s.cp (living tree) ∷ tree_lines tree) (sym (id_there server)))
    (ap (λ from. line.Unlisted from ∷ []) (sym (id_there server)))
  where
    by : (t : Bool) (a : Listing) (b c : List Line) → listing_shown server (Some a) ≡ b
        → listing_shown server None ≡ c
        → listing_shown server (if t then Some a else None) ≡ (if t then b else c)
    by true a b c e f = e
    by false a b c e f = f

-- a listing stands behind the lines of a turn
with_listing : (e a r s t l : List Line) → (e ++ (a ++ (r ++ (s ++ (t ++ []))))) ++ l
    ≡ e ++ (a ++ (r ++ (s ++ (t ++ l))))
with_listing e a r s t l = append_assoc e (a ++ (r ++ (s ++ (t ++ [])))) l
    ∙ ap (λ x. e ++ x) (append_assoc a (r ++ (s ++ (t ++ []))) l
    ∙ ap (λ x. a ++ x) (append_assoc r (s ++ (t ++ [])) l
    ∙ ap (λ x. r ++ x) (append_assoc s (t ++ []) l
    ∙ ap (λ x. s ++ (x ++ l)) (append-nil t))))

-- A LISTING is taken by its server's turn, with its lines behind the others
pub list_taken : (server : ServerId) (old new : WorldValue) (before ran lines : List Line)
    (listing : Option Listing) → before ≡ []
    → Turns old new server input.List before ran listing
    → lines ≡ ran ++ listing_shown server listing → Takes old new (step.List server) lines
list_taken server old new before ran lines listing first turns shown w reached stands none =
    let q = place_of server in
    let g = w.scene.group in
    let ms = turn_moves w (w.scene.armed q) q (Does ListTree) in
    let g' = moved_in g (q, ms) in
    let t = turns w (Does ListTree) (deed_begins w old q input.List ListTree reached stands
    (up_of w (step.List server) server refl none) refl tt) in
    let listed : listing_shown server listing ≡ list_lines g q =
    ap (listing_shown server) (t.listed (lists_whole w q)) ∙ listed_rightly g server in
    let says = turn_lines w (w.scene.armed q) q (Does ListTree) in
    record {
      lines_are = ap (λ ls. line.Event (step.List server) ∷ ls)
          (shown ∙ ap (λ ls. ls ++ listing_shown server listing) t.lines
          ∙ ap (λ b. (b ++ says) ++ listing_shown server listing) first
          ∙ ap (λ ls. says ++ ls) listed
          ∙ with_listing (entered_lines (length g.book) (drop (length g.book) g'.book))
          (answered_lines q ms) (refused_lines q ms) (sent_lines (length g.packets) q ms)
          (state_lines q (shown_of (g.server q)) (shown_of (g'.server q))) (list_lines g q));
      left = t.left;
    }

-- ---- power failures

-- A POWER FAILURE is taken, with this stop and its pick
pub power_taken : (s : Step) (server : ServerId) (most : Option ℕ) (pick : Pick)
    (stop : Option Stop) (old new : WorldValue) (before lines : List Line)
    → before ≡ [] → PowerFails old new server stop before lines
    → IsStop stop most pick
    → ((w : DiskScene)
    → own_refusal (measures_of spellings) w.scene.group s ≡ where_down w.scene.group server)
    → ((w : DiskScene)
    → disk_next spellings w s ≡ after_turn w most pick (place_of server) (Does Power))
    → ((w : DiskScene) → step_lines (measures_of spellings) w.scene s ≡ line.Event s
    ∷ turn_lines w most (place_of server) (Does Power))
    → Takes old new s lines
power_taken s server most pick stop old new before lines first fails stops same leads says w reached
    stands none =
    let q = place_of server in
    let t = fails w most pick reached stands (up_of w s server (same w) none) stops in
    record {
      lines_are = ap (λ ls. line.Event s ∷ ls)
          (t.lines ∙ ap (λ b. b ++ turn_lines w most q (Does Power)) first) ∙ sym (says w);
      left = subst (λ v. IsWorld v new) (sym (leads w)) t.left;
    }
