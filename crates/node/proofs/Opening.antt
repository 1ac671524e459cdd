-- A message that has come, from its tests to the test of opening.
use Rattle.std.proofs.Common.{◌≡◌, ℕ, Bool, true, false, List, [], Option, refl, ap, sym, ◌∙◌, inl, if◌then◌else◌}
use Rattle.std.specs.Prelude.{⊤}
use Rattle.event_record.specs.declared.record.RecordFields.{RecordFields}
use Rattle.file_tree.specs.Book.{Entry}
use Rattle.group_rules.proofs.Tests.{if_is, if_not}
use Rattle.group_rules.specs.Misfits.{misfits}
use Rattle.group_rules.specs.Open.{and_then, try_open}
use Rattle.group_rules.specs.Places.{Place}
use Rattle.group_rules.specs.State.{Message}
use Rattle.group_rules.specs.Step.{Comes, on_message, rule}
use Rattle.harp_store.specs.Disk.{Moments, after_step, with_mark}
use Rattle.node.proofs.Handled.{AreSame, IsQuiet, acts_idle, acts_so, acts_then, fails_so, fails_then, part_then_more, saving, then_moves}
use Rattle.node.proofs.Marks.{marks_none, opens_unmarked}
use Rattle.node.proofs.Saying.{part_so}
use Rattle.node.proofs.Stocks.{idle_open, stocks_idle}
use Rattle.node.proofs.Takes.{silent_open}
use Rattle.node.specs.Disk.{MayLeave, marked_by}
use Rattle.node.specs.Handles.{Acts, Fails, Moves}
use Rattle.node.specs.Node.{NodeValue, server}
use Rattle.node.specs.Stock.{stock}
use Rattle.node.specs.declared.fault.NodeFault.{NodeFault}
use Rattle.node_outputs.specs.Makes.{Makes}
use Rattle.node_outputs.specs.declared.outputs.Outputs.{Outputs}

abbrev pub opens : (clock : ℕ) → Moves
opens clock q s = try_open q clock s

pub opens_quiet : (clock : ℕ) → IsQuiet (opens clock)
opens_quiet clock = record {
  silent = λ q s. silent_open q clock s;
  idle = λ q s. idle_open q clock s;
  unmarked = λ q s. opens_unmarked q clock s;
}

pub opened_acts : (clock : ℕ) (came : List RecordFields) (mid new : NodeValue)
    (before after : Outputs) (disk : Option Moments)
    → ((items : List Entry) → let s = server mid items in
    Makes mid.me clock (try_open mid.me clock s) [] s (server new items) before after)
    → new.me ≡ mid.me → new.halted ≡ false → stock new ≡ stock mid → new.cached ≡ mid.cached
    → new.mark ≡ mid.mark
    → Acts ⊤ clock (opens clock) came [] mid new before after disk disk
opened_acts clock came mid new before after disk made me up same cached mark =
    let none = opens_unmarked mid.me clock mid.plain in
    record {
      me = me;
      up = up;
      makes = λ r items. made items;
      stock = λ items. stocks_idle came mid.me (server mid items)
          (try_open mid.me clock (server mid items)) (stock mid) (stock new)
          (idle_open mid.me clock (server mid items)) same;
      cached = inl cached;
      mark = mark ∙ sym (marks_none mid.mark (try_open mid.me clock mid.plain) none);
      written = ap (λ (b : Bool). if b then after_step (with_mark new.mark) disk else disk)
          (sym none);
    }

-- what a message makes, without the test of opening and with it
abbrev pub heeds : (List Entry → Entry → ℕ) → (clock : ℕ) → List Entry → Place → Message Entry
    → Moves
heeds size clock list from m q s = on_message size q clock list s from m

abbrev pub takes : (List Entry → Entry → ℕ) → (clock : ℕ) → List Entry → Place → Message Entry
    → Moves
takes size clock list from m q s = rule size q clock list s (Comes from m)

module _ (size : List Entry → Entry → ℕ) (clock : ℕ) (list : List Entry) (from : Place)
    (m : Message Entry) (n : NodeValue) where
  pub misfit_acts : (came : List RecordFields) (outs : Outputs) (disk : Option Moments)
      → n.halted ≡ false → misfits n.me n.plain from m ≡ true
      → Acts ⊤ clock (takes size clock list from m) came [] n n outs outs disk disk
  misfit_acts came outs disk up misfit =
      acts_idle ⊤ clock (takes size clock list from m) came n n outs disk refl up
      (λ saved. if_is (misfits n.me n.plain from m) []
      (and_then n.me clock (saving n saved)
      (on_message size n.me clock list (saving n saved) from m) (try_open n.me clock)) misfit)

  pub proper_moves : misfits n.me n.plain from m ≡ false
      → AreSame n (takes size clock list from m)
      (then_moves clock (heeds size clock list from m) (opens clock))
  proper_moves proper saved = if_not (misfits n.me n.plain from m) []
      (and_then n.me clock (saving n saved)
      (on_message size n.me clock list (saving n saved) from m) (try_open n.me clock)) proper

  pub proper_acts : (came : List RecordFields) (mid new : NodeValue)
      (before between after : Outputs) (disk left : Option Moments)
      → misfits n.me n.plain from m ≡ false
      → Acts ⊤ clock (heeds size clock list from m) came [] n mid before between disk left
      → Acts ⊤ clock (opens clock) came [] mid new between after left left
      → Acts ⊤ clock (takes size clock list from m) came [] n new before after disk left
  proper_acts came mid new before between after disk left proper first second =
      acts_so ⊤ clock (takes size clock list from m)
      (then_moves clock (heeds size clock list from m) (opens clock)) came [] n new before after
      disk left (proper_moves proper)
      (acts_then ⊤ clock (heeds size clock list from m) (opens clock) came [] n mid new before
      between after disk left left first second (opens_quiet clock))

  pub proper_fails : (new : NodeValue) (disk left : Option Moments) (faults risen : ℕ)
      (why : NodeFault) → misfits n.me n.plain from m ≡ false
      → Fails (heeds size clock list from m) n new disk left faults risen why
      → Fails (takes size clock list from m) n new disk left faults risen why
  proper_fails new disk left faults risen why proper h =
      fails_so (takes size clock list from m)
      (then_moves clock (heeds size clock list from m) (opens clock)) n new disk left faults risen
      why (proper_moves proper)
      (fails_then clock (heeds size clock list from m) (opens clock) n new disk left faults risen
      why h (opens_quiet clock))

  pub proper_part : (came : List RecordFields) (mid : NodeValue) (before between : Outputs)
      (disk left : Option Moments) → misfits n.me n.plain from m ≡ false
      → Acts ⊤ clock (heeds size clock list from m) came [] n mid before between disk left
      → let ms = takes size clock list from m n.me n.plain in
      MayLeave ms (marked_by n.mark ms) disk left
  proper_part came mid before between disk left proper h =
      part_so n.mark (takes size clock list from m n.me n.plain)
      (then_moves clock (heeds size clock list from m) (opens clock) n.me n.plain) disk left
      (proper_moves proper n.plain.saved)
      (part_then_more ⊤ clock (heeds size clock list from m) (opens clock) came [] n mid before
      between disk left h (opens_quiet clock))
