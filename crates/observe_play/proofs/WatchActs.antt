-- What a packet that is taken makes of a watch.
use Rattle.std.proofs.Common.{◌≡◌, ℕ, zero, suc, ◌<◌, Bool, List, [], ◌∷◌, length, arith, refl, sym}
use Rattle.std.proofs.Common.{ap, subst, ◌∙◌, Option, Some, None, if◌then◌else◌}
use Rattle.std.specs.Prelude.{map, option_map, slice_get}
use Rattle.std.specs.List.{AllByRecursion}
use Rattle.std.proofs.lemmas.Bool.{lt-ltb}
use Rattle.std.proofs.lemmas.List.{length-map}
use Rattle.std.proofs.lemmas.Option.{slice_get-map, slice_get_within}
use Rattle.file_tree.specs.Book.{Entry}
use Rattle.group_trace.specs.Scene.{Scene}
use Rattle.observe_play.specs.Watch.{Does, StandsAt, WatchValue, as_lines}
use Rattle.observe_laws.specs.Run.{top_lines, with_taken}
use Rattle.observe_laws.specs.Scene.{ObservedScene, Showing, showing_of, taken_by}
use Rattle.observed_text.specs.declared.line.ObservedLine.{ObservedLine}
use Rattle.observed_text.specs.declared.step.Act.TheVariants as act
use Rattle.observer.specs.declared.progress.Progress.{Progress}
use Rattle.observer.specs.Progress.{taken}
use Rattle.observer.specs.Sound.{IsSoundObserver}
use Rattle.record_changes.specs.Records.{AreUpdates, history_of}
use Rattle.shown.specs.declared.shown.Shown.{Shown}
use Rattle.shown.specs.declared.shown.Shown.TheVariants as shown
use Rattle.shown.specs.Truth.{IsShownOf}
use Rattle.trace_types.specs.declared.line.LineFault.TheVariants as fault

-- a watch with the same packets, whose observer is so far and sound, stands in the same scene of
-- the group
pub stands_so : (o p : ObservedScene) (x y : WatchValue) → StandsAt o x → p.scene ≡ o.scene
    → p.shown ≡ o.shown → y.shown ≡ x.shown → y.observer.progress ≡ p.progress
    → IsSoundObserver (history_of o.scene.group.committed) y.observer → StandsAt p y
stands_so o p x y h scene same packets progress sound =
    let there = λ (w : Scene). history_of w.group.committed in
    record {
      is_of = record {
        progress = progress;
        shown = ap (map showing_of) packets ∙ h.is_of.shown ∙ sym same;
      };
      is_true = record {
        sound = subst (λ (w : Scene). IsSoundObserver (there w) y.observer) (sym scene) sound;
        truly = subst (λ (w : Scene). AllByRecursion (IsShownOf (there w)) y.shown) (sym scene)
            (subst (AllByRecursion (IsShownOf (there o.scene))) (sym packets) h.is_true.truly);
      };
    }

-- ---- a packet that is taken

taken_is : (o : Progress) (s : Shown) → taken o s ≡ taken_by o (showing_of s)
taken_is o (shown.Cell c v cp) = refl
taken_is o (shown.Records first records) = refl
taken_is o (shown.Gone base) = refl

same : (s t : Shown) → Some s ≡ Some t → s ≡ t
same s t e = cc

none_is : (s : Shown) → None ≡ Some s → ⊥
none_is s e = cc

-- what stands at a place of a list of which all holds
at_place : (P : Shown → Type 0) (xs : List Shown) (n : ℕ) (s : Shown) → slice_get xs n ≡ Some s
    → AllByRecursion P xs → P s
at_place P [] n s e h = absurd (none_is s e)
at_place P (x ∷ xs) zero s e h = subst P (same x s e) h.0
at_place P (x ∷ xs) (suc n) s e h = at_place P xs n s e h.1

abbrev pub TakesSoundly : Shown → WatchValue → WatchValue → Type 0
TakesSoundly s x y = (entries : List Entry) → AreUpdates entries
    → IsShownOf (history_of entries) s → IsSoundObserver (history_of entries) x.observer
    → IsSoundObserver (history_of entries) y.observer

pub take_does : (x y : WatchValue) (packet : ℕ) (s : Shown) (given : Option ObservedLine)
    → slice_get x.shown packet ≡ Some s → y.shown ≡ x.shown
    → y.observer.progress ≡ taken x.observer.progress s → TakesSoundly s x y
    → as_lines given ≡ top_lines x.observer.progress.finished y.observer.progress.finished
    → Does x y (act.Take packet) given
take_does x y packet s given found packets progress sound line_is m o updates h =
    let is : slice_get o.shown packet ≡ Some (showing_of s) =
    ap (λ (l : List Showing). slice_get l packet) (sym h.is_of.shown)
    ∙ slice_get-map showing_of x.shown packet ∙ ap (option_map showing_of) found in
    let list = o.scene.group.committed in
    let went : y.observer.progress ≡ taken_by o.progress (showing_of s) =
    progress ∙ taken_is x.observer.progress s
    ∙ ap (λ (p : Progress). taken_by p (showing_of s)) h.is_of.progress in
    let there : StandsAt (with_taken o (Some (showing_of s))) y =
    stands_so o (with_taken o (Some (showing_of s))) x y h refl refl packets went
    (sound list updates (at_place (IsShownOf (history_of list)) x.shown packet s found
    h.is_true.truly) h.is_true.sound) in
    let few : packet < length o.shown =
    omega (
      arith,
      slice_get_within x.shown packet s found,
      length-map x.shown showing_of,
      ap length h.is_of.shown,
    ) in
    record {
      not_refused = ap (λ (b : Bool). if b then None else Some fault.NoPacket)
          (lt-ltb packet (length o.shown) few);
      line_is = line_is
          ∙ (λ i. top_lines (h.is_of.progress i).finished (went i).finished)
          ∙ ap (λ (q : Option Showing). top_lines o.progress.finished
          (with_taken o q).progress.finished) (sym is);
      watch = subst (λ (q : Option Showing). StandsAt (with_taken o q) y) (sym is) there;
    }
