-- Moves that say nothing, messages, and calls one after the other.
use Rattle.std.proofs.Common.{◌≡◌, ℕ, List, [], ◌++◌, Option, refl, ap, sym, subst, ◌∙◌}
use Rattle.std.specs.Prelude.{Err, Ok, OnErr, OnOk, Result}
use Rattle.std.proofs.lemmas.List.{append-nil}
use Rattle.file_tree.specs.Book.{Entry}
use Rattle.group_rules.specs.Moves.{Move}
use Rattle.group_rules.specs.Places.{Place}
use Rattle.group_rules.specs.State.{Server}
use Rattle.harp_store.specs.Disk.{Moments}
use Rattle.harp_store.specs.Mark.{MarkFields}
use Rattle.node.specs.Disk.{MayLeave, disk_after, marked_by}
use Rattle.node_outputs.proofs.Makes.{same_said}
use Rattle.node_outputs.specs.Makes.{Makes}
use Rattle.node_outputs.specs.Said.{Said}
use Rattle.node_outputs.specs.declared.outputs.Outputs.{Outputs}

-- what was said, and then nothing
abbrev pub and_nothing : Said → Said
and_nothing a = record a {
  committed = a.committed ++ [];
  answers = a.answers ++ [];
  refusals = a.refusals ++ [];
  sends = a.sends ++ [];
}

pub unsaid : (a : Said) → a ≡ and_nothing a
unsaid a = same_said a (and_nothing a) (sym (append-nil a.committed)) (sym (append-nil a.answers))
    (sym (append-nil a.refusals)) (sym (append-nil a.sends)) refl refl refl

-- ---- the same of moves that are the same

pub makes_so : (q : Place) (clock : ℕ) (ms ns : List (Move Entry)) (s new : Server Entry)
    (before after : Outputs) → ms ≡ ns → Makes q clock ns [] s new before after
    → Makes q clock ms [] s new before after
makes_so q clock ms ns s new before after is made =
    subst (λ (xs : List (Move Entry)). Makes q clock xs [] s new before after) (sym is) made

pub mark_so : (m k : MarkFields) (ms ns : List (Move Entry)) → ms ≡ ns → k ≡ marked_by m ns
    → k ≡ marked_by m ms
mark_so m k ms ns is h = h ∙ ap (marked_by m) (sym is)

pub disk_so : (a : Option Moments) (ms ns : List (Move Entry)) (mark : MarkFields)
    (told : Option Moments) → ms ≡ ns → a ≡ disk_after ns mark told → a ≡ disk_after ms mark told
disk_so a ms ns mark told is h =
    h ∙ ap (λ (xs : List (Move Entry)). disk_after xs mark told) (sym is)

pub part_so : (m : MarkFields) (ms ns : List (Move Entry)) (old new : Option Moments) → ms ≡ ns
    → MayLeave ns (marked_by m ns) old new → MayLeave ms (marked_by m ms) old new
part_so m ms ns old new is h =
    subst (λ (xs : List (Move Entry)). MayLeave xs (marked_by m xs) old new) (sym is) h

-- ---- what holds where a call gave something, or nothing

pub on_ok : {A : Type 0} {E : Type 0} (r : Result A E) (P Q : Type 0) → OnOk r P → (P → Q) → OnOk
    r Q
on_ok (Ok x) P Q h f = f h
on_ok (Err e) P Q h f = tt

pub on_err : {A : Type 0} {E : Type 0} (r : Result A E) (P Q : Type 0) → OnErr r P → (P → Q)
    → OnErr r Q
on_err (Ok x) P Q h f = tt
on_err (Err e) P Q h f = f h

pub err_so : {A : Type 0} {E : Type 0} (r : Result A E) (Q : Type 0) → Q → OnErr r Q
err_so (Ok x) Q h = tt
err_so (Err e) Q h = h
