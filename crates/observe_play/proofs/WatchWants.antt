-- What a server that shows something makes of a watch.
use Rattle.std.proofs.Common.{◌≡◌, ℕ, Bool, true, List, [], ◌∷◌, ◌++◌, length, refl, sym, ap, subst}
use Rattle.std.proofs.Common.{◌∙◌, Option, Some, None, Result, Ok, Err, if◌then◌else◌}
use Rattle.std.specs.Prelude.{IfOk, IfSome, OnOk, option_map}
use Rattle.std.proofs.lemmas.List.{length-map, map-append}
use Rattle.group_trace.specs.DiskCalls.{Spellings, measures_of}
use Rattle.group_trace.specs.DiskRun.{DiskScene}
use Rattle.group_rules.specs.Names.{place_of}
use Rattle.group_trace.specs.Scene.{Measures, Scene}
use Rattle.harp_types.specs.declared.server.ServerId.{ServerId}
use Rattle.observe_laws.proofs.Told.{shown_told}
use Rattle.observe_play.specs.OnTheWay.{Makes}
use Rattle.observe_play.specs.Watch.{IsDone, StandsAt, WatchValue}
use Rattle.observe_laws.specs.Run.{shown_in, want_lines, with_shown}
use Rattle.observe_laws.specs.Scene.{ObservedScene, Showing, numbers_of, showing_of}
use Rattle.observed_text.specs.declared.line.ObservedLine.{ObservedLine}
use Rattle.observed_text.specs.declared.line.ObservedLine.TheVariants as line
use Rattle.observed_text.specs.declared.step.Act.TheVariants as act
use Rattle.observer.specs.Progress.{want_of}
use Rattle.record_changes.specs.Records.{history_of}
use Rattle.schedule_play.specs.Stage.{IsReached}
use Rattle.schedule_play.specs.declared.refusal.Refusal.{Refusal}
use Rattle.shown.specs.Rule.{outline_of, shown_by}
use Rattle.shown.specs.declared.shown.Shown.{Shown}
use Rattle.shown.specs.declared.shown.Want.{Want}
use Rattle.shown.specs.Truth.{IsShownOf}
use Rattle.trace_laws.proofs.MoveKinds.{each-append}
use Rattle.trace_types.specs.declared.line.LineFault.TheVariants as fault

-- the watch with what was shown as its next packet, if something was
abbrev pub with_packet : WatchValue → Option Shown → WatchValue
with_packet x None = x
with_packet x (Some s) = record x { shown = x.shown ++ s ∷ [] }

abbrev pub want_line : ℕ → ServerId → Option Shown → ObservedLine
want_line packet server None = line.Unshown server
want_line packet server (Some s) = line.Shown packet server (numbers_of (showing_of s))

-- ---- in an observed scene

one_more : (o : ObservedScene) (x : WatchValue) (s : Option Shown) → StandsAt o x
    → IfSome s (IsShownOf (history_of o.scene.group.committed))
    → StandsAt (with_shown o (option_map showing_of s)) (with_packet x s)
one_more o x None h truly = h
one_more o x (Some s) h truly = record {
  is_of = record {
    progress = h.is_of.progress;
    shown = map-append showing_of x.shown (s ∷ [])
        ∙ ap (λ (l : List Showing). l ++ showing_of s ∷ []) h.is_of.shown;
  };
  is_true = record {
    sound = h.is_true.sound;
    truly = each-append (IsShownOf (history_of o.scene.group.committed)) x.shown (s ∷ [])
        h.is_true.truly (truly, tt);
  };
}

line_told : (n : ℕ) (server : ServerId) (s : Option Shown)
    → want_line n server s ∷ [] ≡ want_lines n server (option_map showing_of s)
line_told n server None = refl
line_told n server (Some s) = refl

want_done : (m : Measures) (o : ObservedScene) (x : WatchValue) (server : ServerId)
    (s : Option Shown) → StandsAt o x → (o.scene.group.server (place_of server)).up ≡ true
    → option_map showing_of s ≡ shown_in m o server
    → IfSome s (IsShownOf (history_of o.scene.group.committed))
    → IsDone m o (act.Want server) (Some (want_line (length x.shown) server s)) (with_packet x s)
want_done m o x server s h up is truly =
    let many : length x.shown ≡ length o.shown =
    sym (length-map x.shown showing_of) ∙ ap (λ (l : List Showing). length l) h.is_of.shown in
    record {
      not_refused = ap (λ (b : Bool). if b then None else Some fault.ServerDown) up;
      line_is = ap (λ (n : ℕ). want_line n server s ∷ []) many
          ∙ line_told (length o.shown) server s
          ∙ ap (want_lines (length o.shown) server) is;
      watch = subst (λ (q : Option Showing). StandsAt (with_shown o q) (with_packet x s)) is
          (one_more o x s h truly);
    }

-- ---- in each scene of a world

abbrev pub IsUp : (DiskScene → Type 0) → ServerId → Bool → Type 0
IsUp stands server b =
    (w : DiskScene) → stands w → b ≡ (w.scene.group.server (place_of server)).up

-- what a world shows by the rule
abbrev pub ShowsByRule : Spellings → (DiskScene → Type 0) → ServerId → Want → Option Shown → Type 0
ShowsByRule f stands server wanted s = (w : DiskScene) → IsReached f w → stands w
    → option_map outline_of s
    ≡ shown_by (measures_of f).size w.scene.group (place_of server) wanted

-- and truly
abbrev pub ShowsTruly : Spellings → (DiskScene → Type 0) → Option Shown → Type 0
ShowsTruly f stands s = (w : DiskScene) → IsReached f w → stands w
    → IfSome s (IsShownOf (history_of w.scene.group.committed))

pub shown_makes : (f : Spellings) (old new : DiskScene → Type 0) (x : WatchValue)
    (server : ServerId) (wanted : Want) (s : Option Shown) → IsUp old server true
    → want_of x.observer.progress ≡ Some wanted → ShowsByRule f old server wanted s
    → ShowsTruly f old s → ((w : DiskScene) → old w → new w)
    → Makes f old new x (with_packet x s) (act.Want server)
    (Some (want_line (length x.shown) server s))
shown_makes f old new x server wanted s up want rule truly stays w o is reached here h =
    let m = measures_of f in
    let true_there = subst (λ (v : Scene). IfSome s (IsShownOf (history_of v.group.committed)))
    (sym is) (truly w reached here) in
    let by_rule = subst (λ (v : Scene). option_map outline_of s
    ≡ shown_by m.size v.group (place_of server) wanted) (sym is) (rule w reached here) in
    let shown = shown_told m o server wanted s (ap want_of (sym h.is_of.progress) ∙ want) by_rule
    true_there in (
      want_done m o x server s h
          (ap (λ (v : Scene). (v.group.server (place_of server)).up) is ∙ sym (up w here)) shown
          true_there,
      stays w here,
    )

-- and so it is where that is kept
pub kept_makes : (f : Spellings) (old new : DiskScene → Type 0) (x y : WatchValue)
    (server : ServerId) (s : Shown) (r : Result ObservedLine Refusal)
    → IfOk r (λ line. line ≡ want_line (length x.shown) server (Some s))
    → OnOk r (y ≡ with_packet x (Some s))
    → Makes f old new x (with_packet x (Some s)) (act.Want server)
    (Some (want_line (length x.shown) server (Some s)))
    → IfOk r (λ line. Makes f old new x y (act.Want server) (Some line))
kept_makes f old new x y server s (Ok line) is kept makes =
    subst (λ (l : ObservedLine). Makes f old new x y (act.Want server) (Some l)) (sym is)
    (subst (λ (z : WatchValue). Makes f old new x z (act.Want server)
    (Some (want_line (length x.shown) server (Some s)))) (sym kept) makes)
kept_makes f old new x y server s (Err why) is kept makes = tt
