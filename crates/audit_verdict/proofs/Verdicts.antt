-- The verdict on a disk, by its mark and what was loaded.
use Rattle.std.proofs.Common.{◌≡◌, ◌⊎◌, ℕ, List, [], take, Option, Some, None}
use Rattle.std.proofs.Common.{refl, sym, ◌∙◌, subst, arith}
use Rattle.std.specs.Prelude.{◌≢◌, Err, IfOk, Ok, Result}
use Rattle.audit.specs.Flaws.{findings}
use Rattle.audit.specs.Laws.{NothingIsFoundInATree, WholeTreesStand}
use Rattle.audit.specs.Pictures.{picture_of}
use Rattle.file_tree.specs.Book.{Entry, last_stamp, tree_after}
use Rattle.harp_cells.specs.CellsOfTree.{StandForBook}
use Rattle.harp_cells.specs.Effect.{Cells}
use Rattle.harp_store.specs.Disk.{Disk, Moments, reads}
use Rattle.harp_store.specs.Mark.{MarkFields}
use Rattle.file_tree.proofs.SoundLaws.{book_sound}
use Rattle.harp_types.specs.declared.state.Role.TheVariants as role
use Rattle.power_save.specs.Saved.{IsNotSaved}
use Rattle.tree_log.proofs.Holding.{stands_at}
use Rattle.volatile_log.specs.Log.{LogValue}
use Rattle.audit_verdict.specs.Audited.{AreAudited, AreCommitted, IsSavedLog, IsUnsaved}
use Rattle.audit_verdict.specs.Audited.{committed_over}
use Rattle.audit_verdict.specs.Left.{IsLeftByPower, TellsTree}
use Rattle.audit_verdict.specs.Verdicts.{IsVerdictOf, IsVerdictOn}
use Rattle.audit_verdict.specs.declared.verdict.Verdict.{Verdict}
use Rattle.audit_verdict.specs.declared.verdict.Verdict.TheVariants as verdict

-- what holds of a result holds of it in other words
pub each_ok : {A E : Type 0} (P Q : A → Type 0) (result : Result A E) → ((v : A) → P v → Q v)
    → IfOk result P → IfOk result Q
each_ok P Q (Ok v) then is = then v is
each_ok P Q (Err e) then is = tt

pub inner : {A : Type 0} (x y : A) → Some x ≡ Some y → x ≡ y
inner x y h = cc

-- a verdict on the cells that are audited is that on the disk
pub of_audited : (d : Disk) (cp : ℕ) (held : Cells) (v : Verdict)
    → AreAudited (reads d) d.mark cp held → IsVerdictOn cp held v → IsVerdictOf d v
of_audited d cp held verdict.Unsaved audited is = absurd is
of_audited d cp held (verdict.Unsound found) audited is =
    record { cp = cp; held = held; audited = audited; is = is }
of_audited d cp held (verdict.Sound listing) audited is =
    record { cp = cp; held = held; audited = audited; is = is }

-- the cells that a power failure left stand for the tree after the committed updates
pub left_stands : (list : List Entry) (log : LogValue) (h : Moments)
    → (left : IsLeftByPower list log h)
    → StandForBook (committed_over log left.tree.behind.cells) (take log.cp list)
left_stands list log h left =
    stands_at list log.cp log (Some h) left.order left.tree left.order.cp

-- nothing is found in the cells of a book
nothing_of_book : NothingIsFoundInATree → WholeTreesStand → (held : Cells) (list : List Entry)
    → StandForBook held list → findings (picture_of held) ≡ []
nothing_of_book nothing whole held list stand =
    nothing held (tree_after list) (last_stamp list)
    (omega (arith, (book_sound list).limits.few))
    (whole held (tree_after list) (last_stamp list) stand.tree) (book_sound list)

-- the verdict on cells that stand for the book after so many updates
pub tells_tree : (list : List Entry) (log : LogValue) (held : Cells) (v : Verdict)
    → NothingIsFoundInATree → WholeTreesStand → IsVerdictOn log.cp held v
    → StandForBook held (take log.cp list) → TellsTree list log v
tells_tree list log held verdict.Unsaved nothing whole is stand = absurd is
tells_tree list log held (verdict.Unsound found) nothing whole is stand =
    is.1 (is.0 ∙ nothing_of_book nothing whole held (take log.cp list) stand)
tells_tree list log held (verdict.Sound listing) nothing whole is stand =
    let book = take log.cp list in (
      is.1,
      is.2 (tree_after book) (last_stamp book)
          (whole held (tree_after book) (last_stamp book) stand.tree) (book_sound book),
    )

-- so of a disk that a power failure left, by the log that was loaded
pub left_tells : (list : List Entry) (log : LogValue) (h : Moments)
    → IsLeftByPower list log h → (v : Verdict) (loaded : LogValue)
    → loaded ≡ record log { lb = log.ap } → NothingIsFoundInATree → WholeTreesStand
    → IsVerdictOn loaded.cp (committed_over loaded (reads h.now)) v → TellsTree list log v
left_tells list log h left v loaded is nothing whole verdict =
    let same : reads h.now ≡ left.tree.behind.cells =
    inner (reads h.now) left.tree.behind.cells left.tree.behind.told_is in
    let on : IsVerdictOn log.cp (committed_over log (reads h.now)) v =
    subst (λ (l : LogValue). IsVerdictOn l.cp (committed_over l (reads h.now)) v) is verdict in
    tells_tree list log (committed_over log (reads h.now)) v nothing whole on
    (subst (λ (cells : Cells). StandForBook (committed_over log cells) (take log.cp list))
    (sym same) (left_stands list log h left))

-- ---- by the mark

pub of_bare : (d : Disk) (v : Verdict) → d.mark ≡ None → IsVerdictOn 0 (reads d) v
    → IsVerdictOf d v
of_bare d v none is =
    of_audited d 0 (reads d) v
    (subst (λ (m : Option MarkFields). AreAudited (reads d) m 0 (reads d)) (sym none) (refl, refl))
    is

pub of_marked : (d : Disk) (v : Verdict) (mark : MarkFields) (log : LogValue)
    → d.mark ≡ Some mark → mark.role ≢ role.Outside → IsSavedLog (reads d) mark log
    → IsVerdictOn log.cp (committed_over log (reads d)) v → IsVerdictOf d v
of_marked d v mark log marked storer saved is =
    let held = committed_over log (reads d) in
    let all : AreCommitted (reads d) mark log.cp held =
    record { storer = storer; log = log; saved = saved; cp_is = refl; are = refl } in
    of_audited d log.cp held v
    (subst (λ (m : Option MarkFields). AreAudited (reads d) m log.cp held) (sym marked) all) is

pub of_unsaved : (d : Disk) (mark : MarkFields) → d.mark ≡ Some mark
    → (mark.role ≡ role.Outside) ⊎ IsNotSaved (reads d) mark → IsVerdictOf d verdict.Unsaved
of_unsaved d mark marked why = subst (IsUnsaved (reads d)) (sym marked) why
