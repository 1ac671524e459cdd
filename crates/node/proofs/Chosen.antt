-- A join at a coordinator: it is kept, or the view is chosen.
use Rattle.std.proofs.Common.{◌≡◌, ℕ, ◌==◌, true, List, [], ◌∷◌, Option, None, ap, sym, subst, ◌∙◌}
use Rattle.file_tree.specs.Book.{Entry}
use Rattle.group_rules.specs.Joining.{on_join}
use Rattle.group_rules.specs.Moves.{Collecting, Move}
use Rattle.group_rules.specs.Names.{place_of}
use Rattle.group_rules.specs.Places.{Trio}
use Rattle.group_rules.specs.State.{Collects, Plan, Report, Server}
use Rattle.harp_types.specs.declared.server.ServerId.{ServerId}
use Rattle.harp_store.specs.Disk.{Moments}
use Rattle.harp_store.specs.Mark.{MarkFields}
use Rattle.node.proofs.Collects.{no_choice}
use Rattle.node.proofs.Saying.{makes_so, unsaid}
use Rattle.node.specs.Collecting.{choosing}
use Rattle.node.specs.Disk.{MayLeave, disk_after, marked_by}
use Rattle.node.specs.Node.{NodeValue, server, value}
use Rattle.node.specs.State.{CollectsStill}
use Rattle.node.specs.declared.state.State.{State}
use Rattle.node.specs.declared.state.Task.{Task}
use Rattle.node.specs.declared.state.Task.TheVariants as task
use Rattle.node_outputs.specs.Makes.{Makes}
use Rattle.node_outputs.specs.Said.{said}
use Rattle.node_outputs.specs.declared.outputs.Outputs.{Outputs}
use Rattle.promise.specs.Promise.{HorizonValue}
use Rattle.view_form.specs.Choice.{Collected, chosen_at, collected, report, reports}
use Rattle.view_form.specs.declared.join.JoinInfo.{JoinInfo}

-- the server of a node, with its saved log or without it
pub record IsOf (at : NodeValue → Server Entry) : Type 0 where
  pub promised : (n : NodeValue) → (at n).promised ≡ n.plain.promised
  pub duty : (n : NodeValue) → (at n).duty ≡ n.plain.duty

pub collecting : (me : ServerId) (mark : MarkFields) (horizon : HorizonValue) (served : ℕ) (d :
    Task)
    (st : State) (n : NodeValue) (c : Collected) → d ≡ task.Collects c
    → value me mark horizon served d st ≡ n → n.plain.duty ≡ Collects (reports c.joins)
collecting me mark horizon served d st n c at is =
    ap (λ (n : NodeValue). n.plain.duty)
    (sym is ∙ ap (λ (x : Task). value me mark horizon served x st) at)

-- the moves of a join that allows no choice
pub none_moves : (me : ServerId) (mark : MarkFields) (horizon : HorizonValue) (served : ℕ)
    (d : Task) (st : State) (n : NodeValue) (at : NodeValue → Server Entry) (c new : Collected)
    (from : ServerId) (v : ℕ) (t : JoinInfo) → IsOf at → d ≡ task.Collects c
    → value me mark horizon served d st ≡ n → (v == n.plain.promised) ≡ true → CollectsStill d
    → new ≡ collected c from t → chosen_at c from t ≡ None
    → on_join n.me (at n) (place_of from) v (report t) (at n).duty
    ≡ Collecting (reports new.joins) ∷ []
none_moves me mark horizon served d st n at c new from v t of is now view still same none =
    no_choice n.me (at n) from v t c (ap (λ (k : ℕ). v == k) (of.promised n) ∙ view)
    (of.duty n ∙ collecting me mark horizon served d st n c is now) (subst CollectsStill is still)
    none
    ∙ ap (λ (x : Collected). Collecting (reports x.joins) ∷ []) (sym same)

pub node_collects : (me : ServerId) (mark : MarkFields) (horizon : HorizonValue) (served : ℕ)
    (d : Task) (st : State) (n : NodeValue) (new : Collected) (items : List Entry) (clock : ℕ)
    (ms : List (Move Entry)) (o : Outputs) → value me mark horizon served d st ≡ n
    → ms ≡ Collecting (reports new.joins) ∷ []
    → Makes n.me clock ms [] (server n items)
    (server (value me mark horizon served (task.Collects new) st) items) o o
node_collects me mark horizon served d st n new items clock ms o is moves =
    makes_so n.me clock ms (Collecting (reports new.joins) ∷ []) (server n items)
    (server (value me mark horizon served (task.Collects new) st) items) o o moves
    (record {
      state = ap (λ (n : NodeValue). record (server n items) {
        duty = Collects (reports new.joins);
      }) is;
      said = unsaid (said o);
    })

-- a coordinator makes a choice whatever its duty was
pub chooses_from : (me : ServerId) (mark : MarkFields) (horizon : HorizonValue) (served : ℕ)
    (d : Task) (st : State) (n : NodeValue) (reports : Trio (Option Report)) (from : ℕ)
    (chosen : Plan) (items : List Entry) (clock : ℕ) (new : Server Entry) (other : Task) (o p :
    Outputs)
    → value me mark horizon served d st ≡ n
    → (let s = server (value me mark horizon served other st) items in
    Makes (place_of me) clock (choosing (place_of me) s reports chosen from) [] s new o p)
    → Makes n.me clock (choosing n.me (server n items) reports chosen from) [] (server n items) new
    o p
chooses_from me mark horizon served d st n reports from chosen items clock new other o p is made =
    subst (λ (n : NodeValue). Makes n.me clock (choosing n.me (server n items) reports chosen from)
    [] (server n items) new o p) is (record { state = made.state; said = made.said })

pub marks_from : (me : ServerId) (mark : MarkFields) (horizon : HorizonValue) (served : ℕ)
    (d : Task) (st : State) (n : NodeValue) (reports : Trio (Option Report)) (from : ℕ)
    (chosen : Plan) → value me mark horizon served d st ≡ n
    → marked_by mark (choosing (place_of me) (value me mark horizon served task.Free st).plain
    reports chosen from) ≡ marked_by n.mark (choosing n.me n.plain reports chosen from)
marks_from me mark horizon served d st n reports from chosen is =
    ap (λ (n : NodeValue). marked_by n.mark (choosing n.me n.plain reports chosen from)) is

pub disk_from : (me : ServerId) (mark : MarkFields) (horizon : HorizonValue) (served : ℕ)
    (d : Task) (st : State) (n : NodeValue) (reports : Trio (Option Report)) (from : ℕ)
    (chosen : Plan) (new : MarkFields) (told : Option Moments)
    → value me mark horizon served d st ≡ n
    → disk_after (choosing (place_of me) (value me mark horizon served task.Free st).plain reports
    chosen from) new told ≡ disk_after (choosing n.me n.plain reports chosen from) new told
disk_from me mark horizon served d st n reports from chosen new told is =
    ap (λ (n : NodeValue). disk_after (choosing n.me n.plain reports chosen from) new told) is

pub part_from : (me : ServerId) (mark : MarkFields) (horizon : HorizonValue) (served : ℕ)
    (d : Task) (st : State) (n : NodeValue) (reports : Trio (Option Report)) (from : ℕ)
    (chosen : Plan) (old told : Option Moments) → value me mark horizon served d st ≡ n
    → (let ms = choosing (place_of me) (value me mark horizon served task.Free st).plain reports
    chosen from in MayLeave ms (marked_by mark ms) old told)
    → (let ms = choosing n.me n.plain reports chosen from in
    MayLeave ms (marked_by n.mark ms) old told)
part_from me mark horizon served d st n reports from chosen old told is h =
    subst (λ (n : NodeValue). let ms = choosing n.me n.plain reports chosen from in
    MayLeave ms (marked_by n.mark ms) old told) is h
