-- The tree of a data server, read in its log over its disk.
use Rattle.std.proofs.Common.{◌≡◌, ℕ, ◌≤◌, length, take, sym, ap, ◌∙◌, arith}
use Rattle.std.proofs.lemmas.List.{length-take-le}
use Rattle.fuzzy_cells.proofs.Disks.{prolonged}
use Rattle.fuzzy_cells.specs.Disk.{IsBetween}
use Rattle.fuzzy_cells.specs.Fuzzy.{IsFuzzy}
use Rattle.group_rules.specs.State.{top}
use Rattle.group_rules.specs.Step.{list_of}
use Rattle.group_safety.proofs.Lawful.{sure_held}
use Rattle.group_safety.proofs.Lists.{get_take}
use Rattle.group_safety.proofs.Safe.{good_of}
use Rattle.group_safety.specs.Words.{Agree}
use Rattle.record_changes.proofs.Histories.{fronts}
use Rattle.record_changes.specs.Records.{history_of}
use Rattle.world_laws.proofs.Lists.{take_agree}
use Rattle.world_laws.proofs.Logs.{logs_right}
use Rattle.world_laws.proofs.Right.{top_within}
use Rattle.world_laws.specs.StockLaws.{log_with}
use Rattle.world_laws.specs.Trees.{TreesAreHeld}
use Rattle.tree_log.specs.Reading.{HoldsTree}

pub trees_held : TreesAreHeld
trees_held g w disks d q p held k has disk between told cells is alike =
    let s = g.server q in
    let at = d.each q p in
    let m = disks q in
    let L = (g.page s.accepted).list in
    let list = list_of g q in
    let within = top_within g q s (good_of g w q) in
    let high : m ≤ top s = sure_held g w.ok q m held at.sure in
    let size : length list ≡ top s = length-take-le (top s) L within in
    let agree : Agree m g.committed list = λ i l. sym (at.sure.same i l)
    ∙ sym (get_take (top s) L i (omega arith)) in
    let front : take m (history_of g.committed) ≡ take m (history_of list) =
    fronts g.committed m
    ∙ ap history_of (take_agree m g.committed list at.sure.in_book (omega arith) agree)
    ∙ sym (fronts list m) in
    let over : IsBetween (history_of list) s.lb s.ap m disk =
    prolonged (history_of g.committed) (history_of list) s.lb s.ap m disk between front in
    let fuzzy : IsFuzzy (history_of list) s.ap m cells = λ c other.
    let moment = over.now c other in
    record {
      count = moment.count;
      from = moment.from;
      to = moment.to;
      is = alike c other ∙ moment.is;
    } in
    let holds : (upto : ℕ) → m ≤ upto → HoldsTree list upto (log_with s k.log) told =
    λ upto le. record {
      of_list = (logs_right g w q k has).of_list;
      behind = record {
        cells = cells;
        told_is = is;
        ahead = m;
        from = over.ap_m;
        within = le;
        fuzzy = fuzzy;
      };
    } in
    record { upto = λ upto le _. holds upto le; at_cp = λ mode. holds s.cp (at.settled mode) }
