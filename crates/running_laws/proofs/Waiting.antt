-- Who waits after a whole step, and after a boot.
use Rattle.std.proofs.Common.{◌≡◌, ℕ, ◌+◌, ◌-◌, List, [], ◌∷◌, ◌++◌, length, Option, Some, refl, sym, ap, ◌∙◌, subst, arith}
use Rattle.std.specs.List.{AllByRecursion}
use Rattle.std.proofs.lemmas.List.{drop_all}
use Rattle.event_record.specs.declared.record.RecordFields.{RecordFields}
use Rattle.file_tree.specs.Book.{Entry}
use Rattle.group_rules.specs.Form.{role_of}
use Rattle.group_rules.specs.Moves.{Accepting, Appending, Committing, Move, Noting, Reading, Saying, act, acts, moved}
use Rattle.group_rules.specs.Names.{place_of}
use Rattle.group_rules.specs.Places.{Place}
use Rattle.group_rules.specs.Replicate.{answers}
use Rattle.group_rules.specs.State.{Answers, Group, Joins, Live, Mode, Open, Pulls, Rests, Server, Waits}
use Rattle.group_rules.specs.Step.{Input as Begins, list_of}
use Rattle.group_safety.proofs.Moving.{Goes}
use Rattle.group_safety.proofs.Safe.{good_of}
use Rattle.group_trace.specs.DiskRun.{DiskScene}
use Rattle.harp_types.specs.Trio.{value_of}
use Rattle.harp_types.specs.declared.peer.Peer.{Peer}
use Rattle.harp_types.specs.declared.server.ServerId.{ServerId}
use Rattle.node.specs.Input.{came}
use Rattle.node.specs.Node.{NodeValue}
use Rattle.node.specs.Stock.{Stock, stock_after, stock_by}
use Rattle.node.specs.declared.input.Input.{Input}
use Rattle.node_outputs.specs.declared.outputs.Outputs.{Outputs}
use Rattle.trace_laws.proofs.Amid.{goes_later, goes_now}
use Rattle.trace_laws.proofs.MoveKinds.{AreMild, IsMild, Kind, Plain, accepts, appends, commits, each-append, fronts_mild, heeds, mild, notes, plain, reads, repeats, tails_mild}
use Rattle.world.proofs.TheLaws.{the_laws}
use Rattle.world.specs.Turns.{TurnBegins}
use Rattle.world.specs.World.{IsServer, WorldValue}
use Rattle.world_host.proofs.Shown.{its_node}
use Rattle.world_rules.specs.Steps.{moves_at, peers_by}
use Rattle.running_laws.specs.Events.{Event, Site}
use Rattle.running_laws.specs.Follows.{AreAskers, HasAskers, WaitIn, above_cp}
use Rattle.running_laws.proofs.Askers.{AppendsNone, append_keeps, moves_keep, open_numbers}
use Rattle.running_laws.proofs.Moving.{IsAt}
use Rattle.running_laws.proofs.Owed.{AnswersTo}
use Rattle.running_laws.proofs.Takings.{IsTurn, old_is}
use Rattle.running_laws.proofs.Whole.{goes, kind, taken}

-- ---- moves that append nothing

mild_none : (m : Move Entry) → IsMild m → AppendsNone m
mild_none (Appending e) h = absurd h
mild_none m h = tt

milds_none : (ms : List (Move Entry)) → AreMild ms → AllByRecursion AppendsNone ms
milds_none [] h = tt
milds_none (m ∷ ms) h = (mild_none m h.0, milds_none ms h.1)

answers_none : (n : ℕ) (es : List Entry) → AllByRecursion AppendsNone (answers n es)
answers_none n [] = tt
answers_none n (e ∷ es) = (tt, answers_none (n + 1) es)

plain_none : (q : Place) (ms : List (Move Entry)) → Plain q ms → AllByRecursion AppendsNone ms
plain_none q _ (mild ms h) = milds_none ms h
plain_none q _ (accepts plan n before after f t) =
    each-append AppendsNone before (Accepting plan (role_of plan.storers q) n ∷ after)
    (milds_none before (fronts_mild before f)) (tt, milds_none after (tails_mild after t))
plain_none q _ (heeds items cp base after t) = (tt, milds_none after (tails_mild after t))

-- ---- a step

module _ (es : List Event) (g : Group Entry) (q : Place) (s : Server Entry) (list : List Entry)
    (came_then : List RecordFields) (peers : List Peer) (k : Stock) where
  -- who waits after moves
  abbrev Keeps : List (Move Entry) → Type 0
  Keeps ms = HasAskers es (acts q (g.clock q) s ms)
      (stock_after q (g.clock q) list came_then peers s ms k).waits

  none_keeps : (ms : List (Move Entry)) → Goes g q s ms → AllByRecursion AppendsNone ms
      → HasAskers es s k.waits → Keeps ms
  none_keeps ms goes none h = moves_keep ms es g q s goes list came_then peers none k h

  append_then : (e : Entry) (rest : List (Move Entry)) → Goes g q s (Appending e ∷ rest)
      → AllByRecursion AppendsNone rest
      → HasAskers es (act q (g.clock q) s (Appending e))
      (stock_by q list came_then peers s (Appending e) k).waits → Keeps (Appending e ∷ rest)
  append_then e rest goes none h =
      moves_keep rest es (moved g q s (Appending e)) q (act q (g.clock q) s (Appending e))
      (goes_later (Appending e) rest g q s goes) list came_then peers none
      (stock_by q list came_then peers s (Appending e) k) h

  pub kind_keeps : (i : Begins) (ms : List (Move Entry)) → Kind q (g.clock q) s i ms
      → Goes g q s ms → AnswersTo es peers s i → HasAskers es s k.waits → Keeps ms
  kind_keeps i _ (plain ms p) goes to h = none_keeps ms goes (plain_none q ms p) h
  kind_keeps i _ (appends e after o is u t) goes to h =
      let asked = subst (AnswersTo es peers s) is to in
      append_then e after goes (milds_none after (tails_mild after t))
      (subst (λ (ps : List Peer). HasAskers es (act q (g.clock q) s (Appending e))
      (stock_by q list came_then ps s (Appending e) k).waits) (sym asked.1)
      (append_keeps es g q s list came_then asked.0 k e
      (goes_now (Appending e ∷ after) g q s goes) o u asked.2 h))
  kind_keeps i _ (reads e after o is u l t) goes to h =
      none_keeps (Reading s.cp e ∷ after) goes (tt, milds_none after (tails_mild after t)) h
  kind_keeps i _ (repeats index e client number cred call after o is u l t) goes to h =
      none_keeps (Saying (Answers index e) ∷ after) goes
      (tt, milds_none after (tails_mild after t)) h
  kind_keeps i _ (notes from top lb until after o is t) goes to h =
      none_keeps (Noting top lb until ∷ after) goes
      (tt, milds_none after (tails_mild after t)) h
  kind_keeps i _ (commits from top lb until entries after o is l few t) goes to h =
      none_keeps (Noting top lb until ∷ Committing top ∷ (answers s.cp entries ++ after)) goes (
        tt,
        (
          tt,
          each-append AppendsNone (answers s.cp entries) after (answers_none s.cp entries)
              (milds_none after (tails_mild after t)),
        ),
      ) h

-- ---- of a node that takes it

-- who waits at the node waits at the server of the scene
pub waits_at : (es : List Event) (v : DiskScene) (x : WorldValue) (place : ServerId)
    (own : IsServer v place (value_of x.hosts place)) (n : NodeValue)
    → (value_of x.hosts place).node ≡ Some n → HasAskers es n.plain n.peers
    → HasAskers es (v.scene.group.server (place_of place)) own.stock.waits
waits_at es v x place own n is h =
    let s = v.scene.group.server (place_of place) in
    let runs = its_node s own.stock own.saved (v.disks (place_of place)) (value_of x.hosts place) n
    own.host is in
    subst (λ (k : Stock). HasAskers es s k.waits) runs.stock
    (subst (λ (r : Server Entry). HasAskers es r n.peers) runs.server h)

module _ (es : List Event) (v : DiskScene) (x : WorldValue) (place : ServerId) (now : ℕ)
    (given : Input) (outs : Option Outputs) (a b : Site) (t : IsTurn x place now given outs a b)
    (i : Begins) (begins : TurnBegins v x (place_of place) given i) where
  pub waits_then : HasAskers es t.step.old.plain t.step.old.peers
      → AnswersTo es (peers_by (begins.stands.servers place).stock given)
      (v.scene.group.server (place_of place)) i
      → HasAskers es t.step.new.plain t.step.new.peers
  waits_then h to =
      let q = place_of place in
      let g = v.scene.group in
      let own = begins.stands.servers place in
      let runs = (taken v x place now given outs a b t i begins).host.node in
      let kept = kind_keeps es g q (g.server q) (list_of g q) (came given)
      (peers_by own.stock given) own.stock i (moves_at g q i)
      (kind v x place now given outs a b t i begins)
      (goes v x place now given outs a b t i begins) to
      (waits_at es v x place own t.step.old (old_is x place now given outs a b t) h) in
      let left = acts q (g.clock q) (g.server q) (moves_at g q i) in
      subst (λ (r : Server Entry). HasAskers es r t.step.new.peers) (sym runs.server)
      (subst (λ (k : Stock). HasAskers es left k.waits) (sym runs.stock) kept)

-- ---- where nobody waits

none_above : (es : List Event) (m : Mode) (xs : List Entry) → (m ≡ Open → xs ≡ [])
    → WaitIn es m xs []
none_above es Rests xs h = tt
none_above es Joins xs h = tt
none_above es Pulls xs h = tt
none_above es Waits xs h = refl
none_above es Open xs h = subst (λ (ys : List Entry). AreAskers es ys []) (sym (h refl)) tt
none_above es Live xs h = tt

-- nobody waits for the commit of anything, as after a boot
pub none_waits : (es : List Event) (w : DiskScene) (x : WorldValue) → IsAt es w x
    → (place : ServerId) (n : NodeValue) → (value_of x.hosts place).node ≡ Some n
    → n.peers ≡ [] → HasAskers es n.plain n.peers
none_waits es w x at place n is none =
    let q = place_of place in
    let g = w.scene.group in
    let own = at.stands.servers place in
    let runs = its_node (g.server q) own.stock own.saved (w.disks q) (value_of x.hosts place) n
    own.host is in
    let waits : own.stock.waits ≡ [] = sym (ap (λ (k : Stock). k.waits) runs.stock) ∙ none in
    let nothing_above : (g.server q).mode ≡ Open → above_cp (g.server q) ≡ [] = λ o.
    let numbers = open_numbers g q (g.server q) (good_of g (the_laws.whole w at.reached) q) o in
    let low = numbers.0 in
    let all = own.waits o in
    let empty = ap (λ (ps : List Peer). length ps) waits in
    drop_all ((g.server q).cp - (g.server q).base) (g.server q).items
    (omega (arith, low, all, empty)) in
    subst (λ (ps : List Peer). HasAskers es n.plain ps) (sym none)
    (subst (λ (r : Server Entry). HasAskers es r []) (sym runs.server)
    (none_above es (g.server q).mode (above_cp (g.server q)) nothing_above))
