-- Disks that stay between two points when the history changes or the points move apart.
use Rattle.std.proofs.Common.{◌≡◌, ℕ, zero, suc, ◌-◌, ◌≤◌, List, [], ◌∷◌, ◌++◌, length, take, drop, refl, sym, ap, ◌∙◌, arith, le_refl, le_trans}
use Rattle.std.proofs.lemmas.List.{append-nil, take-take}
use Rattle.file_tree.specs.Book.{Entry}
use Rattle.harp_cells.specs.declared.change.Change.{Change}
use Rattle.fuzzy_cells.specs.History.{History, between, in_a_row}
use Rattle.fuzzy_cells.specs.Disk.{Disk, IsBetween, reads, with_changes}
use Rattle.fuzzy_cells.proofs.Disks.{prolonged}
use Rattle.fuzzy_cells.proofs.Fuzzy.{is_wider}
use Rattle.record_changes.specs.Records.{AreUpdates, history_of}
use Rattle.record_changes.proofs.Histories.{fronts}
use Rattle.group_safety.specs.Entered.{UpdatesFrom}
use Rattle.group_safety.specs.Words.{Agree}
use Rattle.trace_laws.proofs.Tables.{agree_take}

-- histories of lists with the same front
pub same_front : (n : ℕ) (xs ys : List Entry) → n ≤ length xs → n ≤ length ys → Agree n xs ys
    → take n (history_of xs) ≡ take n (history_of ys)
same_front n xs ys a b h = fronts xs n ∙ ap history_of (agree_take n xs ys a b h)
    ∙ sym (fronts ys n)

pub prolong : (xs ys : List Entry) (lb ap m : ℕ) (disk : Disk) → m ≤ length xs → m ≤ length ys
    → Agree m xs ys → IsBetween (history_of xs) lb ap m disk
    → IsBetween (history_of ys) lb ap m disk
prolong xs ys lb ap m disk a b h k = prolonged (history_of xs) (history_of ys) lb ap m disk k
    (same_front m xs ys a b h)

take_nothing : {A : Type 0} (n : ℕ) → take {A = A} n [] ≡ []
take_nothing zero = refl
take_nothing (suc n) = refl

drop_front : {A : Type 0} (a k : ℕ) (xs : List A) → take (k - a) (drop a xs) ≡ drop a (take k xs)
drop_front zero k xs = ap (λ (n : ℕ). take n xs) (let e : k - 0 ≡ k = omega arith in e)
drop_front (suc a) zero xs = ap (λ (n : ℕ). take n (drop (suc a) xs)) (let e : zero - suc a ≡
    zero = omega arith in e)
drop_front (suc a) (suc k) [] = take_nothing (suc k - suc a)
drop_front (suc a) (suc k) (x ∷ xs) = ap (λ (n : ℕ). take n (drop a xs)) (let e : suc k - suc a ≡
    k - a = omega arith in e) ∙ drop_front a k xs

-- the records between two points are the same in histories with the same front
pub between_same : (n a k : ℕ) (xs ys : History) → k ≤ n → take n xs ≡ take n ys → between xs a k ≡
    between ys a k
between_same n a k xs ys le same =
    let front : take k xs ≡ take k ys = sym (take-take k n xs le)
    ∙ ap (λ (h : History). take k h) same ∙ take-take k n ys le in
    ap in_a_row (drop_front a k xs) ∙ ap (λ (h : History). in_a_row (drop a h)) front
    ∙ ap in_a_row (sym (drop_front a k ys))

-- a log may begin again from the mark
pub again_from : (history : History) (lb ap m : ℕ) (disk : Disk) → IsBetween history lb ap m disk
    → IsBetween history lb lb m disk
again_from history lb ap m disk h = record {
  lb_ap = le_refl lb;
  ap_m = le_trans h.lb_ap h.ap_m;
  moments = h.moments;
  now = is_wider history ap m lb m (reads disk) h.now h.lb_ap (le_refl m);
}

pub no_more : (disk : Disk) → with_changes disk [] ≡ disk
no_more disk = ap (λ (l : List Change). let d : Disk = record {
  synced = disk.synced;
  changes =
      l;
} in d) (append-nil disk.changes)

-- updates that follow each other are updates
pub are_updates : (earlier entries : List Entry) → UpdatesFrom earlier entries → AreUpdates entries
are_updates earlier [] u = tt
are_updates earlier (e ∷ entries) u = (u.0, are_updates (earlier ++ e ∷ []) entries u.2)
