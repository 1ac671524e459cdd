use Rattle.std.proofs.Common.{◌≡◌, ◌==◌, ℕ, List, Some, None, length, refl, sym, ap, subst, ◌∙◌, arith}
use Rattle.std.specs.Bool.{if◌then◌else◌}
use Rattle.store_journal.specs.Waiting.{TakesUp}
use Rattle.store_folder.proofs.journal.Journal.of.Goals as goal

pub returns-in_default : goal.returns-in_default
returns-in_default c = (
  c.new-journal.result,
  c.new-journal.ensures.length,
  c.new-journal.ensures.waiting,
  rw c.in_default.is refl,
)

pub returns : goal.returns
returns c =
    let end = c.in_ok-end.end in
    let size : c.len.result ≡ length c.in-Some.bytes.items =
    omega (arith, c.deref.ensures.len, ap length c.deref.ensures.value, c.len.ensures) in
    let taken : TakesUp c.in-Some.bytes.items end c.new-journal.result.waiting c.take_up.new.waiting =
    subst (λ (l : List ℕ). TakesUp l end c.new-journal.result.waiting c.take_up.new.waiting)
    c.deref.ensures.value c.in_ok-end.ensures.taken in (
      c.new-journal.result,
      c.new-journal.ensures.length,
      c.new-journal.ensures.waiting,
      rw c.in-Some.is (
        end,
        taken,
        c.whole_length-journal.ensures
            ∙ ap (λ (n : ℕ). if◌then◌else◌ (end == n) (Some end) None) size,
      ),
    )
