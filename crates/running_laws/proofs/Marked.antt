-- The mark of a server after a step that may be cut behind a call that changes the disk: it is the
-- one that its node writes.
use Rattle.std.proofs.Common.{◌≡◌, ℕ, ◌==◌, Bool, true, false, List, [], ◌∷◌, ◌++◌, Option, None, Some, refl, sym, ap, ◌∙◌, subst, nat_lt, true≢false, if◌then◌else◌}
use Rattle.applier.specs.Applied.{lower}
use Rattle.file_tree.specs.Book.{Entry}
use Rattle.group_rules.specs.Choose.{choose}
use Rattle.group_rules.specs.Disk.{flush_tests, settled_tests}
use Rattle.group_rules.specs.Effects.{demoted_by}
use Rattle.group_rules.specs.Joining.{chosen_moves, on_join}
use Rattle.group_rules.specs.Misfits.{misfits}
use Rattle.group_rules.specs.Moves.{Accepting, Applying, Basing, Booting, Demoting, Flushing, Joining, Move, Saving, act, acts}
use Rattle.group_rules.specs.Names.{number_of_view, view_of}
use Rattle.group_rules.specs.Open.{base_tests, rebase, try_open}
use Rattle.group_rules.specs.Places.{Place, Trio, all_of, with_at}
use Rattle.group_rules.specs.State.{Chose, Collects, Demote, Duty, Form, Give, Invite, Join, Mark, Message, NoDuty, Outside, Plan, Report, Role, Saved, Server, mark_of}
use Rattle.group_rules.specs.Step.{Apply, Comes, Does, Flush, Input as Begins, Suspect, on_message, rule, step}
use Rattle.harp_store.specs.Mark.{MarkFields}
use Rattle.node.proofs.Collects.{view_number}
use Rattle.node.proofs.Marks.{IsAlike, alike_none, alike_on, alike_same, alike_then, opens_unmarked}
use Rattle.node.proofs.Stepped.{step_alike}
use Rattle.node.proofs.Storers.{role_back}
use Rattle.node.specs.Disk.{marked, marked_by, write_mark}
use Rattle.node.specs.Node.{IsServer, NodeValue, mark_with, server}
use Rattle.node.specs.Stored.{mark_by}
use Rattle.running_laws.proofs.Bare.{AreBare, IsBare, MayWrite, bare_step, is_flush}

-- ---- one move after the other

module _ (items : List Entry) where
  -- a server has this mark
  abbrev HasMark : MarkFields → Server Entry → Type 0
  HasMark mark s = mark_with items mark ≡ mark_of s

  accepted : (mark : MarkFields) (s : Server Entry) (role : Role) (lb : ℕ) → HasMark mark s
      → ◌≡◌ {A = Mark Entry} (record {
        promised = number_of_view mark.promised;
        accepted = number_of_view mark.promised;
        role = role;
        lb = lb;
        saved = None;
        longest = mark.longest;
      })
      (record {
        promised = s.promised;
        accepted = s.promised;
        role = role;
        lb = lb;
        saved = None;
        longest = s.longest;
      })
  accepted mark s role lb e = ap (λ (k : Mark Entry). record k {
    accepted = k.promised;
    role = role;
    lb = lb;
    saved = None;
  }) e

  demoted : (mark : MarkFields) (s : Server Entry) (v : ℕ) (b : Bool) → HasMark mark s
      → ◌≡◌ {A = Mark Entry} (record {
        promised = number_of_view (if b then mark.promised else view_of v);
        accepted = number_of_view (view_of v);
        role = Outside;
        lb = mark.lb;
        saved = None;
        longest = mark.longest;
      })
      (mark_of (demoted_by b s v))
  demoted mark s v true e = ap (λ (n : ℕ). record (mark_with items mark) {
    accepted = n;
    role = Outside;
    saved = None;
  }) (view_number v)
      ∙ ap (λ (k : Mark Entry). record k { accepted = v; role = Outside; saved = None }) e
  demoted mark s v false e = ap (λ (n : ℕ). record (mark_with items mark) {
    promised = n;
    accepted = n;
    role = Outside;
    saved = None;
  }) (view_number v)
      ∙ ap (λ (k : Mark Entry). record k {
        promised = v;
        accepted = v;
        role = Outside;
        saved = None;
      }) e

  one_marked : (q : Place) (clock : ℕ) (mark : MarkFields) (s : Server Entry) (m : Move Entry)
      → IsBare false m → HasMark mark s → HasMark (marked mark m) (act q clock s m)
  one_marked q clock mark s (Joining v duty) h e =
      ap (λ (n : ℕ). record (mark_with items mark) { promised = n }) (view_number v)
      ∙ ap (λ (k : Mark Entry). record k { promised = v }) e
  one_marked q clock mark s (Accepting plan role n) h e =
      ap (λ (r : Role). record (mark_with items mark) {
        accepted = number_of_view mark.promised;
        role = r;
        lb = n.lb;
        saved = None;
      }) (role_back role)
      ∙ accepted mark s role n.lb e
  one_marked q clock mark s (Demoting v) h e =
      demoted mark s v (nat_lt v (number_of_view mark.promised)) e
      ∙ ap (λ (k : Mark Entry). mark_of (demoted_by (nat_lt v k.promised) s v)) e
  one_marked q clock mark s Flushing h e = absurd (true≢false (sym h))
  one_marked q clock mark s Saving h e = absurd h
  one_marked q clock mark s (Booting delta) h e = absurd h
  one_marked q clock mark s m h e = e

  all_marked : (q : Place) (clock : ℕ) (mark : MarkFields) (s : Server Entry)
      (ms : List (Move Entry)) → AreBare false ms → HasMark mark s
      → HasMark (marked_by mark ms) (acts q clock s ms)
  all_marked q clock mark s [] h e = e
  all_marked q clock mark s (m ∷ ms) h e = all_marked q clock (marked mark m) (act q clock s m) ms
      h.1 (one_marked q clock mark s m h.0 e)

  -- ---- an apply and a flush

  based : (q : Place) (clock : ℕ) (mark : MarkFields) (s : Server Entry) (b : Bool) (n : ℕ)
      → HasMark mark s → HasMark mark (acts q clock s (if b then Basing n ∷ [] else []))
  based q clock mark s true n e = e
  based q clock mark s false n e = e

  applied : (q : Place) (clock : ℕ) (mark : MarkFields) (s : Server Entry) (b : Bool) (n : ℕ)
      → HasMark mark s
      → let ms = if b then Applying n ∷ [] else [] in
      HasMark mark (acts q clock s (ms ++ rebase (acts q clock s ms)))
  applied q clock mark s true n e =
      let t = act q clock s (Applying n) in based q clock mark t (all_of (base_tests t)) _ e
  applied q clock mark s false n e = based q clock mark s (all_of (base_tests s)) _ e

  flushed : (q : Place) (clock : ℕ) (mark : MarkFields) (s : Server Entry) (b : Bool)
      → HasMark mark s
      → let ms = if b then Flushing ∷ [] else [] in
      HasMark (if b then lower s.ap mark else mark)
      (acts q clock s (ms ++ rebase (acts q clock s ms)))
  flushed q clock mark s true e =
      let t = act q clock s Flushing in
      based q clock (lower s.ap mark) t (all_of (base_tests t)) _
      (ap (λ (k : Mark Entry). record k { lb = s.ap }) e)
  flushed q clock mark s false e = based q clock mark s (all_of (base_tests s)) _ e

-- ---- whatever the saved log is

abbrev with_saved : Server Entry → Option (Saved Entry) → Server Entry
with_saved s x = record s { saved = x }

same_choice : (q : Place) (s : Server Entry) (x : Option (Saved Entry))
    (reports : Trio (Option Report)) (o : Option Plan)
    → chosen_moves q (with_saved s x) reports o ≡ chosen_moves q s reports o
same_choice q s x reports None = refl
same_choice q s x reports (Some plan) = refl

same_join : (q : Place) (s : Server Entry) (x : Option (Saved Entry)) (from : Place) (v : ℕ)
    (t : Report) (duty : Duty)
    → on_join q (with_saved s x) from v t duty ≡ on_join q s from v t duty
same_join q s x from v t NoDuty = refl
same_join q s x from v t (Chose w plan) = refl
same_join q s x from v t (Collects reports) = ap
    (λ (ms : List (Move Entry)). if v == s.promised then ms else [])
    (same_choice q s x (with_at reports from (Some t)) (choose (with_at reports from (Some t))))

alike_back : (ms ns : List (Move Entry)) → IsAlike ms ns → IsAlike ns ms
alike_back ms ns h = record { mark = λ m. sym (h.mark m); writes = sym h.writes }

came_alike : (misfit : Bool) (ms later : List (Move Entry)) → write_mark later ≡ false
    → IsAlike (if misfit then [] else ms ++ later) (if misfit then [] else ms)
came_alike true ms later none = alike_none [] refl
came_alike false ms later none = alike_then ms later none

message_alike : (size : List Entry → Entry → ℕ) (q : Place) (clock : ℕ) (list : List Entry)
    (s : Server Entry) (x : Option (Saved Entry)) (from : Place) (m : Message Entry)
    → misfits q (with_saved s x) from m ≡ misfits q s from m
    → on_message size q clock list (with_saved s x) from m
    ≡ on_message size q clock list s from m
    → IsAlike (rule size q clock list (with_saved s x) (Comes from m))
    (rule size q clock list s (Comes from m))
message_alike size q clock list s x from m misfit same =
    let other = on_message size q clock list (with_saved s x) from m in
    let ms = on_message size q clock list s from m in
    alike_on _ _ _ (came_alike (misfits q (with_saved s x) from m) other
    (try_open q clock (acts q clock (with_saved s x) other))
    (opens_unmarked q clock (acts q clock (with_saved s x) other)))
    (alike_on _ _ _ (alike_same _ (if misfits q s from m then [] else ms)
    (ap (λ (b : Bool). if b then [] else other) misfit
    ∙ ap (λ (ns : List (Move Entry)). if misfits q s from m then [] else ns) same))
    (alike_back _ _ (came_alike (misfits q s from m) ms
    (try_open q clock (acts q clock s ms)) (opens_unmarked q clock (acts q clock s ms)))))

rule_alike : (size : List Entry → Entry → ℕ) (q : Place) (clock : ℕ) (list : List Entry)
    (s : Server Entry) (x : Option (Saved Entry)) (i : Begins) → MayWrite i
    → IsAlike (rule size q clock list (with_saved s x) i) (rule size q clock list s i)
rule_alike size q clock list s x (Does Suspect) may = alike_same _ _ refl
rule_alike size q clock list s x (Does (Apply most)) may = alike_same _ _ refl
rule_alike size q clock list s x (Does Flush) may = alike_same _ _ refl
rule_alike size q clock list s x (Comes from (Invite v)) may =
    message_alike size q clock list s x from (Invite v) refl refl
rule_alike size q clock list s x (Comes from (Join v t)) may =
    message_alike size q clock list s x from (Join v t) refl (same_join q s x from v t s.duty)
rule_alike size q clock list s x (Comes from (Form v plan)) may =
    message_alike size q clock list s x from (Form v plan) refl refl
rule_alike size q clock list s x (Comes from (Give v index es)) may =
    message_alike size q clock list s x from (Give v index es) refl refl
rule_alike size q clock list s x (Comes from (Demote v)) may =
    message_alike size q clock list s x from (Demote v) refl refl
rule_alike size q clock list s x i may = absurd may

same_marks : (size : List Entry → Entry → ℕ) (q : Place) (clock : ℕ) (list : List Entry)
    (s : Server Entry) (x : Option (Saved Entry)) (i : Begins) → MayWrite i
    → IsAlike (step size q clock list (with_saved s x) i) (step size q clock list s i)
same_marks size q clock list s x i may =
    alike_on _ _ _ (step_alike size q clock list (with_saved s x) (Some i))
    (alike_on _ _ _ (rule_alike size q clock list s x i may)
    (alike_back _ _ (step_alike size q clock list s (Some i))))

-- ---- a node's step

module _ (size : List Entry → Entry → ℕ) (clock : ℕ) (list : List Entry) (n : NodeValue)
    (served : IsServer n) (items : List Entry) where
  -- the moves of the machine's server
  abbrev machine : Begins → List (Move Entry)
  machine i = step size n.me clock list (server n items) i

  -- THE MARK that the node writes is that of the machine
  abbrev Writes : Begins → Type 0
  Writes i = mark_with items (mark_by n (step size n.me clock list n.plain i) (Some i))
      ≡ mark_of (acts n.me clock (server n items) (machine i))

  first : mark_with items n.mark ≡ mark_of (server n items)
  first = sym (served.mark items)

  by_moves : (i : Begins) → MayWrite i → is_flush i ≡ false
      → mark_with items (marked_by n.mark (step size n.me clock list n.plain i))
      ≡ mark_of (acts n.me clock (server n items) (machine i))
  by_moves i may none =
      let alike = same_marks size n.me clock list n.plain (server n items).saved i may in
      ap (mark_with items) (sym (alike.mark n.mark))
      ∙ all_marked items n.me clock n.mark (server n items) (machine i)
      (subst (λ (f : Bool). AreBare f (machine i)) none
      (bare_step size n.me clock list (server n items) i may)) first

  pub mark_writes : (i : Begins) → MayWrite i → Writes i
  mark_writes (Does Suspect) may = by_moves (Does Suspect) may refl
  mark_writes (Does (Apply most)) may = applied items n.me clock n.mark (server n items)
      (all_of (settled_tests n.me n.plain)) _ first
  mark_writes (Does Flush) may = flushed items n.me clock n.mark (server n items)
      (all_of (flush_tests n.me n.plain)) first
  mark_writes (Comes from (Invite v)) may = by_moves (Comes from (Invite v)) may refl
  mark_writes (Comes from (Join v t)) may = by_moves (Comes from (Join v t)) may refl
  mark_writes (Comes from (Form v plan)) may = by_moves (Comes from (Form v plan)) may refl
  mark_writes (Comes from (Give v index es)) may = by_moves (Comes from (Give v index es)) may refl
  mark_writes (Comes from (Demote v)) may = by_moves (Comes from (Demote v)) may refl
  mark_writes i may = absurd may
