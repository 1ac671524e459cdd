-- A server that joins a view, and one that tells again what it told.
use Rattle.std.proofs.Common.{◌≡◌, ℕ, Bool, true, false, List, [], ◌∷◌, ◌++◌, Option, None, Some, inr, refl, ap, sym, ◌∙◌, if◌then◌else◌}
use Rattle.std.specs.Prelude.{Err, Result, nat_lt, ⊤}
use Rattle.file_tree.specs.Book.{Entry}
use Rattle.group_rules.proofs.Tests.{if_is, if_not}
use Rattle.group_rules.specs.Effects.{joined_server}
use Rattle.group_rules.specs.Joining.{joined_tests, on_invite}
use Rattle.group_rules.specs.Moves.{Joining, Sending}
use Rattle.group_rules.specs.Names.{number_of_view}
use Rattle.group_rules.specs.Places.{Place, all_of}
use Rattle.group_rules.specs.State.{Duty, Join, Message, NoDuty, Report}
use Rattle.harp_store.specs.Disk.{MayHaveMade, Moments, after_step, with_mark}
use Rattle.harp_store.specs.Mark.{MarkFields}
use Rattle.harp_types.specs.Streams.{Rose}
use Rattle.harp_types.specs.View.{View}
use Rattle.node.proofs.Accepts.{may_leave}
use Rattle.node.proofs.Handled.{AreSame, IsQuiet, acts_sent, sent_quiet, then_moves}
use Rattle.node.proofs.Saying.{unsaid}
use Rattle.node.proofs.Sent.{sent_made}
use Rattle.node.specs.Disk.{marked_by, promising}
use Rattle.node.specs.Handles.{Acts, Fails, Moves}
use Rattle.node.specs.Node.{NodeValue, server}
use Rattle.node.specs.Stock.{stock}
use Rattle.node.specs.declared.fault.NodeFault.{NodeFault}
use Rattle.node.specs.declared.fault.NodeFault.TheVariants.{Halted, StoreFailed}
use Rattle.node_outputs.specs.Said.{said}
use Rattle.node_outputs.specs.declared.outputs.Outputs.{Outputs}
use Rattle.view_form.proofs.Views.{view_back}

abbrev pub joins : ℕ → Duty → Moves
joins v duty q s = Joining v duty ∷ []

-- what it told goes to another server
abbrev pub tells : Place → ℕ → Moves
tells to v q s = Sending to (Join v s.report) ∷ []

pub tells_quiet : (to : Place) (v : ℕ) → IsQuiet (tells to v)
tells_quiet to v = sent_quiet (tells to v) (λ q s. (tt, tt))

view_marked : (mark : MarkFields) (view : View) (duty : Duty)
    → promising mark view ≡ marked_by mark (Joining (number_of_view view) duty ∷ [])
view_marked mark view duty = ap (promising mark) (sym (view_back view))

pub joined_acts : (clock : ℕ) (view : View) (duty : Duty) (old new : NodeValue) (outs : Outputs)
    (disk left : Option Moments)
    → ((items : List Entry) → server new items
    ≡ joined_server (server old items) (number_of_view view) duty)
    → new.me ≡ old.me → new.halted ≡ false
    → stock new ≡ record (stock old) { pulled = []; waits = [] } → new.cached ≡ []
    → new.mark ≡ promising old.mark view
    → left ≡ after_step (with_mark (promising old.mark view)) disk
    → Acts ⊤ clock (joins (number_of_view view) duty) [] [] old new outs outs disk left
joined_acts clock view duty old new outs disk left state me up stock cached mark written =
    record {
      me = me;
      up = up;
      makes = λ r items. record { state = state items; said = unsaid (said outs) };
      stock = λ items clock list askers. stock;
      cached = inr cached;
      mark = mark ∙ view_marked old.mark view duty;
      written = written ∙ ap (λ (m : MarkFields). after_step (with_mark m) disk) (sym mark);
    }

pub joined_fails : {A : Type 0} (r : Result A NodeFault) (view : View) (duty : Duty)
    (old new : NodeValue) (disk left : Option Moments) (faults risen : ℕ) (why : NodeFault)
    → r ≡ Err why → new.me ≡ old.me
    → MayHaveMade (with_mark (promising old.mark view)) disk left
    → (r ≡ Err Halted → ⊥) → (r ≡ Err StoreFailed → Rose faults risen)
    → Fails (joins (number_of_view view) duty) old new disk left faults risen why
joined_fails r view duty old new disk left faults risen why was me part running rose = record {
  me = me;
  part = may_leave (Joining (number_of_view view) duty ∷ []) (promising old.mark view) _ disk left
      refl (view_marked old.mark view duty) part;
  running = λ is. running (was ∙ ap Err is);
  rose = λ is. rose (was ∙ ap Err is);
}

-- ---- an Invite

abbrev pub invites : Place → ℕ → Moves
invites from v q s = on_invite s from v

pub invited : (clock : ℕ) (n : NodeValue) (from : Place) (v : ℕ)
    → nat_lt n.plain.promised v ≡ true
    → AreSame n (invites from v) (then_moves clock (joins v NoDuty) (tells from v))
invited clock n from v above saved = if_is (nat_lt n.plain.promised v) _ _ above

told_some : (b : Bool) (x y : Report) → Some x ≡ (if b then Some y else None)
    → (b ≡ true) × (x ≡ y)
told_some true x y is = (refl, let same : x ≡ y = cc in same)
told_some false x y is = cc

told_none : (b : Bool) (y : Report) → None ≡ (if b then Some y else None) → b ≡ false
told_none true y is = cc
told_none false y is = refl

pub invited_again : (n : NodeValue) (from : Place) (v : ℕ) (r : Report)
    → nat_lt n.plain.promised v ≡ false
    → Some r ≡ (if all_of (joined_tests n.plain v) then Some n.plain.report else None)
    → AreSame n (invites from v) (tells from v)
invited_again n from v r below told saved =
    if_not (nat_lt n.plain.promised v) _ _ below
    ∙ if_is (all_of (joined_tests n.plain v)) _ [] (told_some _ r n.plain.report told).0

pub told_again : (n : NodeValue) (v : ℕ) (r : Report)
    → Some r ≡ (if all_of (joined_tests n.plain v) then Some n.plain.report else None)
    → r ≡ n.plain.report
told_again n v r told = (told_some _ r n.plain.report told).1

pub uninvited : (n : NodeValue) (from : Place) (v : ℕ) → nat_lt n.plain.promised v ≡ false
    → None ≡ (if all_of (joined_tests n.plain v) then Some n.plain.report else None)
    → AreSame n (invites from v) (λ q s. [])
uninvited n from v below told saved =
    if_not (nat_lt n.plain.promised v) _ _ below
    ∙ if_not (all_of (joined_tests n.plain v)) _ [] (told_none _ n.plain.report told)

-- its report is sent
pub telling_acts : (clock : ℕ) (n : NodeValue) (to : Place) (v : ℕ) (r : Report)
    (m : Option (Message Entry)) (before after : Outputs) (disk : Option Moments)
    → n.halted ≡ false → m ≡ Some (Join v r) → r ≡ n.plain.report
    → said after ≡ record (said before) { sends = (said before).sends ++ (to, m) ∷ [] }
    → Acts ⊤ clock (tells to v) [] [] n n before after disk disk
telling_acts clock n to v r m before after disk up is same told =
    acts_sent ⊤ clock (tells to v) [] n before after disk up (λ q s. (tt, tt))
    (λ items. sent_made n.me clock (tells to v n.me (server n items)) (server n items) before
    after (tt, tt) (told
    ∙ ap (λ (x : Option (Message Entry)). record (said before) {
      sends = (said before).sends ++ (to, x) ∷ [];
    }) (is ∙ ap (λ (x : Report). Some (Join v x)) same)))
