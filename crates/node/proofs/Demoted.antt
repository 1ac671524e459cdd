-- A server after its demotion.
use Rattle.std.proofs.Common.{◌≡◌, ◌≤◌, ℕ, ◌+◌, Bool, true, false, List, [], ◌∷◌, refl, sym, ap, ◌∙◌, subst, arith, nat_lt, if◌then◌else◌}
use Rattle.std.specs.Prelude.{Option, None, ⊤}
use Rattle.std.proofs.Common.{inl, inr}
use Rattle.std.proofs.lemmas.List.{append-nil}
use Rattle.file_tree.specs.Book.{Entry}
use Rattle.group_rules.proofs.Tests.{if_not, is_lt}
use Rattle.group_rules.specs.Disk.{demote_tests, on_demote}
use Rattle.group_rules.specs.Effects.{demoted, demoted_by, down, first_mark}
use Rattle.group_rules.specs.Limits.{is_log}
use Rattle.group_rules.specs.Moves.{Demoting, Move}
use Rattle.group_rules.specs.Names.{number_of_view, place_of, view_of}
use Rattle.group_rules.specs.Places.{Zero, Place, all_of, is_p2, same}
use Rattle.group_rules.specs.State.{Empty, Held, Plan, Server}
use Rattle.harp_types.specs.View.{View, above}
use Rattle.harp_types.specs.declared.server.ServerId.{ServerId}
use Rattle.harp_types.specs.declared.state.Role.TheVariants as part
use Rattle.harp_store.specs.Disk.{MayHaveMade, Moments, after_step, with_mark}
use Rattle.harp_store.specs.Mark.{MarkFields}
use Rattle.idle_log.specs.Kept.{IsPlaced, cp_in, held_in, with_kept}
use Rattle.idle_log.specs.Pulls.{keeps_of, needless}
use Rattle.idle_log.specs.declared.form.Form.{Form}
use Rattle.idle_log.specs.declared.kept.Kept.{Kept}
use Rattle.node.specs.Demoting.{GoesOn}
use Rattle.node.specs.Disk.{MayLeave, disk_after, marked, marked_by}
use Rattle.node.proofs.Handled.{AreSame, acts_so}
use Rattle.node.proofs.Heeds.{none_of_two}
use Rattle.node.proofs.Views.{above_is}
use Rattle.node.specs.Handles.{Acts}
use Rattle.node.specs.Node.{NodeValue, server, value}
use Rattle.node.specs.Active.{is_followed, is_led}
use Rattle.node.specs.State.{Fits, IsKept, IsPulling}
use Rattle.node.specs.Stock.{Stocks, stock}
use Rattle.node.specs.declared.state.Joining.{Joining}
use Rattle.node.specs.declared.state.State.{State}
use Rattle.node.specs.declared.state.State.TheVariants as state
use Rattle.node.specs.declared.state.Task.{Task}
use Rattle.node.specs.declared.state.Task.TheVariants as task
use Rattle.node_outputs.specs.Makes.{Makes, with_moves}
use Rattle.node_outputs.specs.Said.{said}
use Rattle.node_outputs.specs.declared.outputs.Outputs.{Outputs}
use Rattle.node_outputs.proofs.Makes.{same_said}
use Rattle.promise.specs.Promise.{HorizonValue}
use Rattle.view_form.proofs.Views.{view_back}
use Rattle.volatile_log.specs.Log.{StagedValue}

-- nothing is kept
abbrev pub Drops : Kept → Type 0
Drops kept = (s : Server Entry) → with_kept s kept
    ≡ record s { held = Empty; base = 0; ap = 0; cp = 0; items = [] }

-- the mark's LB counts
pub keeps_lb : (q : Place) (mark : MarkFields) (s : Server Entry) (kept : Kept) → Drops kept
    → IsPlaced q kept → IsKept q mark kept
keeps_lb q mark s kept drops placed = record {
  lb = ap (λ (x : Server Entry). x.lb) (drops (record s { lb = mark.lb }));
  placed = placed;
}

-- a mark of a demotion of this view, by whether a higher one is promised
abbrev pub marked_if : Bool → MarkFields → View → MarkFields
marked_if b mark view = record mark {
  promised = if b then mark.promised else view;
  accepted = view;
  role = part.Outside;
  saved = None;
}

-- the server with the mark of a demotion
with_mark_if : (me : ServerId) (mark : MarkFields) (horizon : HorizonValue) (duty : Task)
    (s : State) (items : List Entry) (view : View) (b : Bool)
    → nat_lt (number_of_view view) (number_of_view mark.promised) ≡ b
    → server (value me (marked mark (Demoting (number_of_view view))) horizon 0 duty s) items
    ≡ server (value me (marked_if b mark view) horizon 0 duty s) items
with_mark_if me mark horizon duty s items view b below =
    ap (λ (x : Bool). server (value me (marked_if x mark (view_of (number_of_view view))) horizon 0
    duty s) items) below
    ∙ ap (λ (v : View). server (value me (marked_if b mark v) horizon 0 duty s) items)
    (view_back view)

-- a server that rests then
pub rests_demoted : (me : ServerId) (mark new : MarkFields) (horizon : HorizonValue) (served : ℕ)
    (duty : Task) (s : State) (kept : Kept) (items : List Entry) (view : View)
    → new ≡ marked mark (Demoting (number_of_view view))
    → nat_lt (number_of_view view) (number_of_view mark.promised) ≡ false
    → Drops kept
    → server (value me new horizon 0 task.Free (state.Rests kept)) items
    ≡ demoted (server (value me mark horizon served duty s) items) (number_of_view view)
rests_demoted me mark new horizon served duty s kept items view is below drops =
    let old = server (value me mark horizon served duty s) items in
    ap (λ (m : MarkFields). server (value me m horizon 0 task.Free (state.Rests kept)) items) is
    ∙ with_mark_if me mark horizon task.Free (state.Rests kept) items view false below
    ∙ ap (λ (t : Server Entry). record t { lb = mark.lb }) (drops (server (value me
    (marked_if false mark view) horizon 0 task.Free (state.Rests kept)) items))
    ∙ ap (λ (b : Bool). demoted_by b old (number_of_view view)) (sym below)

-- its part in a higher view goes on
pub rests_on : (old kept : Kept) → Drops kept
    → GoesOn (state.Rests old) (state.Rests kept)
rests_on old kept drops me mark horizon served duty items view below =
    let old_server = server (value me mark horizon served duty (state.Rests old)) items in
    with_mark_if me mark horizon duty (state.Rests kept) items view true below
    ∙ ap (λ (t : Server Entry). record t { lb = mark.lb }) (drops (server (value me
    (marked_if true mark view) horizon 0 duty (state.Rests kept)) items))
    ∙ ap (λ (b : Bool). demoted_by b old_server (number_of_view view)) (sym below)

pub joined_on : (old kept : Kept) (joining : Joining) → Drops kept
    → GoesOn (state.Joined old joining) (state.Joined kept joining)
joined_on old kept joining drops me mark horizon served duty items view below =
    let old_server = server (value me mark horizon served duty (state.Joined old joining)) items in
    with_mark_if me mark horizon duty (state.Joined kept joining) items view true below
    ∙ ap (λ (t : Server Entry). record t { lb = mark.lb }) (drops (server (value me
    (marked_if true mark view) horizon 0 duty (state.Joined kept joining)) items))
    ∙ ap (λ (b : Bool). demoted_by b old_server (number_of_view view)) (sym below)

pub pulls_on : (old kept : Kept) (joining : Joining) (plan : Form) (staged : StagedValue) → Drops
    kept
    → GoesOn (state.Pulls old joining plan staged) (state.Pulls kept joining plan staged)
pulls_on old kept joining plan staged drops me mark horizon served duty items view below =
    let old_server = server (value me mark horizon served duty
    (state.Pulls old joining plan staged)) items in
    with_mark_if me mark horizon duty (state.Pulls kept joining plan staged) items view true below
    ∙ ap (λ (t : Server Entry). record t { lb = mark.lb }) (drops (server (value me
    (marked_if true mark view) horizon 0 duty (state.Pulls kept joining plan staged)) items))
    ∙ ap (λ (b : Bool). demoted_by b old_server (number_of_view view)) (sym below)

-- the move says nothing
pub demotion_made : (q : Place) (clock : ℕ) (s t : Server Entry) (v : ℕ) (outs : Outputs)
    → t ≡ demoted s v → Makes q clock (Demoting v ∷ []) [] s t outs outs
demotion_made q clock s t v outs is =
    let b = said outs in
    record {
      state = is;
      said = same_said b (with_moves q clock s (Demoting v ∷ []) [] b)
          (sym (append-nil b.committed)) (sym (append-nil b.answers))
          (sym (append-nil b.refusals)) (sym (append-nil b.sends)) refl refl refl;
    }

-- ---- the tests of a demotion

pub heeds_demotion : (q : Place) (s : Server Entry) (v : ℕ) → is_p2 q ≡ true
    → nat_lt s.accepted v ≡ true → on_demote q s v ≡ Demoting v ∷ []
unfolding all_of
heeds_demotion q s v witness above = rw (witness, above) refl

pub no_witness : (q : Place) (s : Server Entry) (v : ℕ) → is_p2 q ≡ false → on_demote q s v ≡ []
unfolding all_of
no_witness q s v other = rw other refl

pub not_above : (q : Place) (s : Server Entry) (v : ℕ) → nat_lt s.accepted v ≡ false
    → on_demote q s v ≡ []
not_above q s v low = if_not (all_of (demote_tests q s v)) (Demoting v ∷ []) []
    (none_of_two (is_p2 q) (nat_lt s.accepted v) low)

pub demotes : (q : Place) (clock : ℕ) (s t : Server Entry) (v : ℕ) (ms : List (Move Entry))
    (outs : Outputs) → ms ≡ Demoting v ∷ [] → t ≡ demoted s v → Makes q clock ms [] s t outs outs
demotes q clock s t v ms outs is new =
    subst (λ (xs : List (Move Entry)). Makes q clock xs [] s t outs outs) (sym is)
    (demotion_made q clock s t v outs new)

pub marks : (mark new : MarkFields) (v : ℕ) (ms : List (Move Entry)) → ms ≡ Demoting v ∷ []
    → new ≡ marked mark (Demoting v) → new ≡ marked_by mark ms
marks mark new v ms is at = at ∙ ap (marked_by mark) (sym is)

pub no_mark : (mark : MarkFields) (ms : List (Move Entry)) → ms ≡ [] → mark ≡ marked_by mark ms
no_mark mark ms none = ap (marked_by mark) (sym none)

pub writes_it : (mark new : MarkFields) (old told : Option Moments) (v : ℕ)
    (ms : List (Move Entry)) → ms ≡ Demoting v ∷ [] → new ≡ mark
    → told ≡ after_step (with_mark mark) old → told ≡ disk_after ms new old
writes_it mark new old told v ms is same written =
    written ∙ ap (λ (m : MarkFields). after_step (with_mark m) old) (sym same)
    ∙ ap (λ (xs : List (Move Entry)). disk_after xs new old) (sym is)

pub writes_none : (mark : MarkFields) (old : Option Moments) (ms : List (Move Entry)) → ms ≡ []
    → old ≡ disk_after ms mark old
writes_none mark old ms none = ap (λ (xs : List (Move Entry)). disk_after xs mark old) (sym none)

may_leave : (mark new : MarkFields) (old told : Option Moments) (v : ℕ) → mark ≡ new
    → MayHaveMade (with_mark mark) old told → MayLeave (Demoting v ∷ []) new old told
may_leave mark new old told v same (inl kept) = inl kept
may_leave mark new old told v same (inr made) =
    inr (refl, made ∙ ap (λ (m : MarkFields). after_step (with_mark m) old) same)

pub leaves_part : (mark old_mark : MarkFields) (old told : Option Moments) (v : ℕ)
    (ms : List (Move Entry)) → ms ≡ Demoting v ∷ [] → mark ≡ marked old_mark (Demoting v)
    → MayHaveMade (with_mark mark) old told → MayLeave ms (marked_by old_mark ms) old told
leaves_part mark old_mark old told v ms is at part =
    subst (λ (xs : List (Move Entry)). MayLeave xs (marked_by old_mark xs) old told) (sym is)
    (may_leave mark (marked old_mark (Demoting v)) old told v at part)

-- ---- of a node

-- the mark of a demotion
pub mark_at : (me : ServerId) (mark : MarkFields) (horizon : HorizonValue) (served : ℕ)
    (duty : Task) (s : State) (n : NodeValue) (new : MarkFields) (view : View)
    → value me mark horizon served duty s ≡ n
    → new ≡ marked n.mark (Demoting (number_of_view view))
    → new ≡ marked mark (Demoting (number_of_view view))
mark_at me mark horizon served duty s n new view of is =
    is ∙ ap (λ (x : NodeValue). marked x.mark (Demoting (number_of_view view))) (sym of)

-- whether it promised a higher view
pub under_at : (me : ServerId) (mark : MarkFields) (horizon : HorizonValue) (served : ℕ)
    (duty : Task) (s : State) (n : NodeValue) (view : View) (b : Bool)
    → value me mark horizon served duty s ≡ n
    → nat_lt (number_of_view view) (number_of_view n.mark.promised) ≡ b
    → nat_lt (number_of_view view) (number_of_view mark.promised) ≡ b
under_at me mark horizon served duty s n view b of is =
    ap (λ (x : NodeValue). nat_lt (number_of_view view) (number_of_view x.mark.promised)) of ∙ is

-- a server that is active promised no view above its accepted one
closed : (q : Place) (mark : MarkFields) (s : State) (v : ℕ) → Fits q mark s
    → nat_lt (number_of_view mark.accepted) v ≡ true
    → nat_lt v (number_of_view mark.promised) ≡ true
    → (is_led s ≡ false) × (is_followed s ≡ false)
closed q mark state.Gone v fits above below = (refl, refl)
closed q mark (state.Rests kept) v fits above below = (refl, refl)
closed q mark (state.Joined kept joining) v fits above below = (refl, refl)
closed q mark (state.Pulls kept joining plan staged) v fits above below = (refl, refl)
closed q mark (state.Leads leads plan) v fits above below =
    absurd (omega (arith, is_lt _ _ above, is_lt _ _ below, fits.mark.promised, fits.mark.accepted))
closed q mark (state.Follows follows plan) v fits above below =
    absurd (omega (arith, is_lt _ _ above, is_lt _ _ below, fits.mark.promised, fits.mark.accepted))

pub closed_at : (me : ServerId) (mark : MarkFields) (horizon : HorizonValue) (served : ℕ)
    (duty : Task) (s : State) (n : NodeValue) (t : State) (v : ℕ)
    → value me mark horizon served duty s ≡ n → t ≡ s → Fits (place_of me) mark s
    → nat_lt (number_of_view n.mark.accepted) v ≡ true
    → nat_lt v (number_of_view n.mark.promised) ≡ true
    → (is_led t ≡ false) × (is_followed t ≡ false)
closed_at me mark horizon served duty s n t v of same fits above below =
    subst (λ (x : State). (is_led x ≡ false) × (is_followed x ≡ false)) (sym same)
    (closed (place_of me) mark s v fits
    (ap (λ (x : NodeValue). nat_lt (number_of_view x.mark.accepted) v) of ∙ above)
    (ap (λ (x : NodeValue). nat_lt v (number_of_view x.mark.promised)) of ∙ below))

-- the mark of a demotion, beside the node's
pub mark_back : (me : ServerId) (mark : MarkFields) (horizon : HorizonValue) (served : ℕ)
    (duty : Task) (s : State) (n : NodeValue) (new : MarkFields) (view : View)
    → value me mark horizon served duty s ≡ n
    → new ≡ marked mark (Demoting (number_of_view view))
    → new ≡ marked n.mark (Demoting (number_of_view view))
mark_back me mark horizon served duty s n new view of is =
    is ∙ ap (λ (x : NodeValue). marked x.mark (Demoting (number_of_view view))) of

-- whether the view is above the accepted one
pub above_at : (me : ServerId) (mark : MarkFields) (horizon : HorizonValue) (served : ℕ)
    (duty : Task) (s : State) (n : NodeValue) (view a : View) (r b : Bool)
    → value me mark horizon served duty s ≡ n → a ≡ mark.accepted → r ≡ above view a → r ≡ b
    → nat_lt n.plain.accepted (number_of_view view) ≡ b
above_at me mark horizon served duty s n view a r b of at is known =
    ap (λ (x : NodeValue). nat_lt x.plain.accepted (number_of_view view)) (sym of)
    ∙ ap (λ (x : View). nat_lt (number_of_view x) (number_of_view view)) (sym at)
    ∙ sym (above_is view a) ∙ sym is ∙ known

-- any server
any : Server Entry
any = down (first_mark Entry 0 Zero)

bare_keeps : (q : Place) (kept : Kept) (plan : Plan) → Drops kept → keeps_of q kept plan ≡ false
bare_keeps q kept plan drops =
    ap (λ (h : Held). if is_log h then (if is_p2 q then same q plan.source else true) else false)
    (ap (λ (x : Server Entry). x.held) (drops any))

-- the witness pulls all above the base, whatever it keeps
by_parts : (src p2 log : Bool) (start cp base : ℕ) → p2 ≡ true → src ≡ false
    → (if src then start else
    (if (if log then (if p2 then src else true) else false) then cp else base)) ≡ base
by_parts false true true start cp base h k = refl
by_parts false true false start cp base h k = refl
by_parts false false log start cp base h k = cc
by_parts true p2 log start cp base h k = cc

needless_other : (q : Place) (kept : Kept) (plan : Plan) → is_p2 q ≡ true
    → same q plan.source ≡ false → needless q kept plan ≡ plan.base
needless_other q kept plan witness other = by_parts (same q plan.source) (is_p2 q)
    (is_log (held_in kept)) plan.start (cp_in kept) plan.base witness other

-- a storer that pulls goes on without a log: it pulls all above the base then as before
pub pulls_bare : (q : Place) (old kept : Kept) (plan : Plan) (staged : StagedValue)
    → is_p2 q ≡ true → Drops kept → IsPlaced q kept → IsPulling q old plan staged
    → IsPulling q kept plan staged
pulls_bare q old kept plan staged witness drops placed is = record {
  can = record {
    placed = placed;
    base = is.can.base;
    cp = is.can.cp;
    limit = is.can.limit;
    room = is.can.room;
    covered = subst (λ k. k ≤ plan.start) (sym (ap (λ (x : Server Entry). x.cp) (drops any)))
        (omega arith);
    disk = λ lb stores. absurd (let clash : true ≡ false = sym witness ∙ stores in cc);
    goes_on = λ keeps. absurd (let clash : true ≡ false = sym keeps
        ∙ bare_keeps q kept plan drops in cc);
    held = λ source. absurd (let clash : true ≡ false = sym source ∙ is.other in cc);
    source = λ source. absurd (let clash : true ≡ false = sym source ∙ is.other in cc);
  };
  list = (
    is.list.0 ∙ ap (λ k. k + 1) (needless_other q old plan witness is.other
        ∙ sym (needless_other q kept plan witness is.other)),
    is.list.1,
  );
  storer = is.storer;
  other = is.other;
}

-- what a demotion makes of a node
pub demoted_acts : (clock v : ℕ) (old new : NodeValue) (mark : MarkFields) (outs : Outputs)
    (disk left : Option Moments)
    → AreSame old (λ q s. on_demote q s v) (λ q s. Demoting v ∷ [])
    → ((items : List Entry) → server new items ≡ demoted (server old items) v)
    → new.me ≡ old.me → new.halted ≡ false
    → ((items : List Entry) → Stocks [] old.me (server old items) (Demoting v ∷ []) (stock old)
    (stock new))
    → new.cached ≡ [] → new.mark ≡ mark → mark ≡ marked old.mark (Demoting v)
    → left ≡ after_step (with_mark mark) disk
    → Acts ⊤ clock (λ q s. on_demote q s v) [] [] old new outs outs disk left
demoted_acts clock v old new mark outs disk left heeds state me up stocks cached same at written =
    acts_so ⊤ clock (λ q s. on_demote q s v) (λ q s. Demoting v ∷ []) [] [] old new outs outs disk
    left heeds (record {
      me = me;
      up = up;
      makes = λ r items. demotion_made old.me clock (server old items) (server new items) v outs
          (state items);
      stock = stocks;
      cached = inr cached;
      mark = same ∙ at;
      written = written ∙ ap (λ (m : MarkFields). after_step (with_mark m) disk) (sym same);
    })
