-- Steps, falls and boots of servers keep their records right.
use Rattle.std.proofs.Common.{◌≡◌, ℕ, ◌<◌, ◌&&◌, false, List, [], ◌∷◌, map, Option, None, Some, refl, sym, ◌∙◌, subst, arith, true≢false, if◌then◌else◌}
use Rattle.event_record.specs.Record.{entry_of}
use Rattle.event_record.specs.declared.record.RecordFields.{RecordFields}
use Rattle.file_tree.specs.Book.{Entry}
use Rattle.group_rules.proofs.Tests.{by_if, each_of, if_not}
use Rattle.group_rules.specs.Effects.{NewLog, booted, down, empty_log, lengthened, load_tests, loaded, lost_log, resting, saving}
use Rattle.group_rules.specs.Limits.{can_have, is_log, is_outside}
use Rattle.group_rules.specs.Moves.{Booting, Falling, Move, Saving, act, acts, moved_by, moved}
use Rattle.group_rules.specs.Places.{Place, all_of, is_p2, at, Zero, One, Two}
use Rattle.group_rules.specs.State.{Empty, Group, Held, Log, Lost, Mark, Page, Saved, Server, mark_of}
use Rattle.group_rules.specs.Step.{Comes, Does, Input, boot, list_of, saves, step_of}
use Rattle.group_safety.proofs.Moving.{Goes, at_self, goes_good, goes_one}
use Rattle.group_safety.proofs.Quiet.{inside_is, save_kept}
use Rattle.group_safety.proofs.Safe.{boot_goes, good_of, input_goes, sent_known}
use Rattle.group_safety.specs.Laws.{Whole}
use Rattle.group_safety.specs.Words.{Part}
use Rattle.node.specs.Stock.{stock_after}
use Rattle.record_changes.specs.Records.{history_of}
use Rattle.world_laws.proofs.Moves.{Fed, all_right}
use Rattle.world_laws.proofs.Right.{Right, right_of, stock_of}
use Rattle.world_laws.proofs.Rules.{deed_step_fed, message_step_fed}
use Rattle.world_laws.proofs.Saved.{SavedRight, power_is_saved, saved_all, saved_of, saved_right_of}
use Rattle.world_laws.specs.StockLaws.{BootsAreRight, DeedsKeep, DeliveriesKeep, FallsAreRight, StepKeeps, OthersStay}
use Rattle.world_laws.specs.Stocks.{AreSaved, HasStock, IsStockOf, booted_stock, no_stock}
use Rattle.tree_log.specs.TreeLog.{changes_in}

-- ---- steps

step_keeps : (size : List Entry → Entry → ℕ) (g : Group Entry) → Whole g → (q : Place)
    → (i : Input) (came : List RecordFields)
    → Goes g q (g.server q) (step_of size g q i)
    → Fed g q (g.server q) (list_of g q) came (step_of size g q i)
    → StepKeeps size g q i came
step_keeps size g w q i came goes fed =
    let s = g.server q in
    let ms = step_of size g q i in
    let g' = moved_by g q s ms in
    let good = goes_good ms g q s goes in
    record {
      stock = λ askers k has.
          let k' = stock_after q (g.clock q) (list_of g q) came askers s ms k in
          subst (λ (x : Server Entry). IsStockOf g'.page x k') (sym good.is)
          (stock_of g' q (acts q (g.clock q) s ms) good k'
          (all_right ms g q s goes (list_of g q) came askers fed k (right_of has)));
      saved = λ records has.
          subst (λ (x : Server Entry). AreSaved g'.page x records) (sym good.is)
          (saved_of g' q (acts q (g.clock q) s ms) good records
          (saved_all ms g q s goes (list_of g q) came fed records
          (saved_right_of g.page s records has)));
    }

pub deeds_keep : DeedsKeep
deeds_keep size g w q up d o = step_keeps size g w q (Does d) []
    (input_goes size g w q up (Does d) tt)
    (deed_step_fed size g q (g.server q) (list_of g q) [] refl d o)

pub deliveries_keep : DeliveriesKeep
deliveries_keep size g w n p e up came c =
    let known = sent_known g w n p e in
    step_keeps size g w p.to (Comes p.from p.body) came
    (input_goes size g w p.to up (Comes p.from p.body) known)
    (message_step_fed size g p.to (g.server p.to) (list_of g p.to) came p.from p.body c known.0)

other_at : {A : Type 0} (f : Place → A) (q x : Place) (a : A) → (x ≡ q → ⊥) → at f q a x ≡ f x
other_at f Zero Zero a n = absurd (n refl)
other_at f Zero One a n = refl
other_at f Zero Two a n = refl
other_at f One Zero a n = refl
other_at f One One a n = absurd (n refl)
other_at f One Two a n = refl
other_at f Two Zero a n = refl
other_at f Two One a n = refl
other_at f Two Two a n = absurd (n refl)

others_by : (ms : List (Move Entry)) (g : Group Entry) (q x : Place) (s : Server Entry)
    → (x ≡ q → ⊥) → (moved_by g q s ms).server x ≡ g.server x
others_by [] g q x s n = refl
others_by (m ∷ ms) g q x s n = others_by ms (moved g q s m) q x (act q (g.clock q) s m) n
    ∙ other_at g.server q x (act q (g.clock q) s m) n

pub others_stay : OthersStay
others_stay g q x ms n = others_by ms g q x (g.server q) n

-- ---- falls

pub nothing_right : (page : ℕ → Page Entry) (s : Server Entry) → s.items ≡ [] → s.staged ≡ []
    → IsStockOf page s no_stock
nothing_right page s a b = record {
  items = sym a;
  staged = sym b;
  log = record {
    entries = λ i (l : i < 0). absurd (omega arith);
    changes = λ i (l : i < 0). absurd (omega arith);
  };
  pulled = record {
    entries = λ i (l : i < 0). absurd (omega arith);
    changes = λ i (l : i < 0). absurd (omega arith);
  };
}

-- what holds of a server after a move holds of it in the group
at_move : (g : Group Entry) (q : Place) (P : Server Entry → Type 0) (m : Move Entry)
    → P (act q (g.clock q) (g.server q) m)
    → P ((moved_by g q (g.server q) (m ∷ [])).server q)
at_move g q P m p = subst (λ (x : Server Entry). P x)
    (sym (at_self g.server q (act q (g.clock q) (g.server q) m))) p

pub falls_are_right : FallsAreRight
unfolding all_of
falls_are_right size g w q =
    let s = g.server q in
    record {
      fallen = at_move g q (λ (x : Server Entry). IsStockOf g.page x no_stock) Falling
          (nothing_right g.page (down (mark_of s)) refl refl);
      kept = λ records has. at_move g q (λ (x : Server Entry). AreSaved g.page x records) Falling
          has;
      crashed = refl;
      failed = at_move g q (λ (x : Server Entry). IsStockOf g.page x no_stock) Saving
          (nothing_right g.page (down (mark_of (saving q s s.saved))) refl refl);
      saved = λ k records has old.
          let new = if saves s.held s.saved then k.log else records in
          let good = goes_good (Saving ∷ []) g q s
          (goes_one g q s Saving (good_of g w q) (tt, tt, tt, tt) (save_kept g w.ok q s refl)) in
          subst (λ (x : Server Entry). AreSaved g.page x new) (sym good.is)
          (saved_of (moved_by g q s (Saving ∷ [])) q (act q (g.clock q) s Saving) good new
          (power_is_saved g.page q s k records (right_of has)
          (saved_right_of g.page s records old)));
      powered = refl;
    }

-- ---- boots

booted_right : (page : ℕ → Page Entry) (q : Place) (clock delta : ℕ) (m : Mark Entry)
    (records : List RecordFields) → SavedRight page (down m) records
    → Right page (booted q clock delta m) (booted_stock (booted q clock delta m) records)
booted_right page q clock delta m records r =
    by_if (λ (x : Server Entry). Right page x (booted_stock x records)) (is_p2 q && is_outside
    m.role)
    _ _
    (λ _. no_log Empty refl (empty_log m.lb) refl)
    (λ _. loads m.saved refl)
  where
    no_log : (h : Held) → is_log h ≡ false → (n : NewLog Entry) → n.items ≡ []
        → Right page (resting clock delta (lengthened delta m) h n)
        (booted_stock (resting clock delta (lengthened delta m) h n) records)
    no_log Log e n i = absurd (true≢false e)
    no_log Lost e n i = record {
      items = sym i;
      staged = refl;
      log = λ j (l : j < 0). absurd (omega arith);
      pulled = λ j (l : j < 0). absurd (omega arith);
    }
    no_log Empty e n i = record {
      items = sym i;
      staged = refl;
      log = λ j (l : j < 0). absurd (omega arith);
      pulled = λ j (l : j < 0). absurd (omega arith);
    }

    loads : (o : Option (Saved Entry)) → m.saved ≡ o
        → Right page (loaded q clock delta (lengthened delta m) o)
        (booted_stock (loaded q clock delta (lengthened delta m) o) records)
    loads None e = no_log Lost refl (lost_log m.lb) refl
    loads (Some v) e =
        by_if (λ (x : Server Entry). Right page x (booted_stock x records))
        (all_of (can_have q m.role ∷ load_tests m.lb v)) _ _
        (λ t.
        let a = each_of (can_have q m.role ∷ load_tests m.lb v) t in
        let is = r v e (inside_is q m.role a.0) in
        record {
          items = is.0;
          staged = refl;
          log = is.1;
          pulled = λ j (l : j < 0). absurd (omega arith);
        })
        (λ _. no_log Lost refl (lost_log m.lb) refl)

booted_saved : (q : Place) (clock delta : ℕ) (m : Mark Entry)
    → ((booted q clock delta m).saved ≡ m.saved) × ((booted q clock delta m).role ≡ m.role)
    × ((booted q clock delta m).accepted ≡ m.accepted)
booted_saved q clock delta m =
    by_if (λ (x : Server Entry). (x.saved ≡ m.saved) × (x.role ≡ m.role) × (x.accepted ≡
    m.accepted))
    (is_p2 q && is_outside m.role) _ _ (λ _. (refl, refl, refl)) (λ _. loads m.saved)
  where
    loads : (o : Option (Saved Entry)) → ((loaded q clock delta (lengthened delta m) o).saved
        ≡ m.saved) × ((loaded q clock delta (lengthened delta m) o).role ≡ m.role)
        × ((loaded q clock delta (lengthened delta m) o).accepted ≡ m.accepted)
    loads None = (refl, refl, refl)
    loads (Some v) =
        by_if (λ (x : Server Entry). (x.saved ≡ m.saved) × (x.role ≡ m.role)
        × (x.accepted ≡ m.accepted)) (all_of (can_have q m.role ∷ load_tests m.lb v)) _ _
        (λ _. (refl, refl, refl)) (λ _. (refl, refl, refl))

-- so does a boot of a server that is down
boots : (g : Group Entry) → Whole g → (q : Place) → (records : List RecordFields)
    → AreSaved g.page (g.server q) records
    → let g' = moved_by g q (g.server q) (Booting g.delta ∷ []) in
    HasStock g' q (booted_stock (g'.server q) records) × AreSaved g'.page (g'.server q) records
boots g w q records has =
    let s = g.server q in
    let m = mark_of s in
    let s' = booted q (g.clock q) g.delta m in
    let g' = moved_by g q s (Booting g.delta ∷ []) in
    let good = goes_good (Booting g.delta ∷ []) g q s (boot_goes g w q) in
    let old = saved_right_of g.page s records has in
    let kept = booted_saved q (g.clock q) g.delta m in (
      subst (λ (x : Server Entry). IsStockOf g.page x (booted_stock x records)) (sym good.is)
          (stock_of g' q s' good (booted_stock s' records)
          (booted_right g.page q (g.clock q) g.delta m records old)),
      subst (λ (x : Server Entry). AreSaved g.page x records) (sym good.is)
          (saved_of g' q s' good records
          (λ v e o.
          subst (λ n. (map entry_of records ≡ v.items)
          × Part v.base (changes_in records) (history_of (g.page n).list)) (sym kept.2)
          (old v (sym kept.0 ∙ e) (λ x. o (kept.1 ∙ x))))),
    )

pub boots_are_right : BootsAreRight
boots_are_right g w q down' records has =
    let b = boots g w q records has in
    let is : boot g q ≡ moved_by g q (g.server q) (Booting g.delta ∷ []) =
    if_not (g.server q).up g _ down' in
    record {
      stock = subst (λ (x : Group Entry). HasStock x q (booted_stock (x.server q) records)) (sym
          is) b.0;
      saved = subst (λ (x : Group Entry). AreSaved x.page (x.server q) records) (sym is) b.1;
    }
