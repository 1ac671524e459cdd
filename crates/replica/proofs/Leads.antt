-- A leader's small steps.
use Rattle.std.proofs.Common.{◌≡◌, ℕ, ◌-◌, Bool, true, false, List, [], ◌∷◌, Option, Some, None, refl, sym, ap, ◌∙◌, subst, if◌then◌else◌}
use Rattle.std.specs.Prelude.{◌==◌, ◌||◌, drop, map, min, nat_lt}
use Rattle.std.proofs.lemmas.Bool.{eq-eqb}
use Rattle.event_record.specs.Record.{entry_of}
use Rattle.file_tree.specs.Book.{Entry}
use Rattle.group_rules.specs.Limits.{is_joining, is_open, is_waits}
use Rattle.group_rules.specs.Moves.{acts}
use Rattle.group_rules.specs.Open.{base_tests, on_formed, rebase}
use Rattle.group_rules.specs.Places.{Zero, One, Two, Place, Trio, all_of, is_s01, with_at}
use Rattle.replica.proofs.Lists.{entries_drop}
use Rattle.replica.specs.Leading.{Leading, Outer, heard_from, led, mode_led, partner_of, place_led, storers_led}
use Rattle.replica.specs.declared.leader.Beside.{Beside}
use Rattle.replica.specs.declared.leader.Beside.TheVariants as beside
use Rattle.volatile_log.specs.Log.{LogValue, dropped_to}

-- ---- a Formed

heard_last : (b : Beside) (f : Option ℕ) (lb : ℕ) → heard_from b (Some lb)
    ≡ with_at (heard_from b f) (partner_of b) (Some lb)
heard_last beside.DataServer None lb = refl
heard_last beside.DataServer (Some n) lb = refl
heard_last beside.Witness None lb = refl
heard_last beside.Witness (Some n) lb = refl

formed_tested : (shut : Bool) (v : ℕ) (opened : Bool) → opened ≡ shut
    → all_of ((v == v) ∷ (is_joining (mode_led opened) || is_waits (mode_led opened)) ∷ [])
    ≡ (if shut then false else true)
unfolding all_of
formed_tested true v opened is = rw (eq-eqb v v refl, is) refl
formed_tested false v opened is = rw (eq-eqb v v refl, is) refl

formed_taken : (l : Leading) (lb clock : ℕ) (o : Outer) → l.opened ≡ false
    → led (record l { formed = Some lb }) o
    ≡ acts (place_led l o) clock (led l o) (on_formed (led l o) (partner_of l.beside) l.view lb)
formed_taken l lb clock o shut =
    let tests = formed_tested false l.view l.opened shut in
    let kept : led (record l { formed = Some lb }) o
    ≡ record (led l o) {
      heard = with_at (heard_from l.beside l.formed) (partner_of l.beside)
          (Some lb);
    } =
    ap (λ (h : Trio (Option ℕ)). record (led l o) { heard = h })
    (heard_last l.beside l.formed lb) in
    rw tests kept

pub formed_kept : (a l : Leading) (lb clock : ℕ) (o : Outer) → a ≡ l → a.opened ≡ false
    → led (record a { formed = Some lb }) o
    ≡ acts (place_led l o) clock (led l o) (on_formed (led l o) (partner_of l.beside) l.view lb)
formed_kept a l lb clock o view shut =
    subst (λ (l : Leading). led (record a { formed = Some lb }) o
    ≡ acts (place_led l o) clock (led l o) (on_formed (led l o)
    (partner_of l.beside) l.view lb))
    view (formed_taken a lb clock o shut)

pub formed_ignored : (l : Leading) (lb clock : ℕ) (o : Outer) → l.opened ≡ true
    → led l o ≡ acts (place_led l o) clock (led l o) (on_formed (led l o)
    (partner_of l.beside) l.view lb)
formed_ignored l lb clock o is = rw (formed_tested true l.view l.opened is) refl

-- ---- the base

base_data : (b : Bool) (x : Bool) → all_of (is_open (mode_led b) ∷ true ∷ x ∷ [])
    ≡ (if b then x else false)
unfolding all_of
base_data true true = refl
base_data true false = refl
base_data false x = refl

base_other : (b : Bool) (me : Place) (x : Bool)
    → all_of (is_open (mode_led b) ∷ is_s01 (storers_led beside.Witness me) ∷ x ∷ []) ≡ false
unfolding all_of
base_other true Zero x = refl
base_other true One x = refl
base_other true Two x = refl
base_other false me x = refl

pub moves_beside_data : (l : Leading) (o : Outer) (is : Bool) → l.beside ≡ beside.DataServer
    → (if l.opened then nat_lt l.log.base (min l.log.lb l.told_lb) else false) ≡ is → is
    ≡ all_of (base_tests (led l o))
moves_beside_data l o is data_server tests =
    rw data_server (sym (base_data l.opened (nat_lt l.log.base (min l.log.lb l.told_lb)) ∙ tests))

pub stays_beside_witness : (l : Leading) (o : Outer) → l.beside ≡ beside.Witness → false
    ≡ all_of (base_tests (led l o))
stays_beside_witness l o witness = rw witness (sym (base_other l.opened o.me (nat_lt l.log.base
    (min l.log.lb l.told_lb))))

pub rebased : (a l : Leading) (g : LogValue) (clock base : ℕ) (o : Outer) → a ≡ l → g
    ≡ dropped_to a.log base
    → base ≡ min a.log.lb a.told_lb → true ≡ all_of (base_tests (led l o))
    → led (record a { log = g }) o ≡ acts (place_led l o) clock (led l o) (rebase (led l o))
rebased a l g clock base o view dropped is tests =
    let P : Leading → Type 0 = λ l. true ≡ all_of (base_tests (led l o))
    → led (record a { log = g }) o ≡ acts (place_led l o) clock (led l o) (rebase (led l o)) in
    subst P view (λ tests. rw (sym tests) (
    ap (λ (g : LogValue). led (record a { log = g }) o) dropped
    ∙ ap (λ (es : List Entry). record (led a o) { base = base; items = es }) (entries_drop a.log
    (base - a.log.base))
    ∙ ap (λ n. record (led a o) {
      base = n;
      items = drop (n - a.log.base)
          (map entry_of a.log.records);
    }) is
    )) tests

pub stays : (l : Leading) (clock : ℕ) (o : Outer) → false ≡ all_of (base_tests (led l o))
    → led l o ≡ acts (place_led l o) clock (led l o) (rebase (led l o))
stays l clock o tests = rw (sym tests) refl
