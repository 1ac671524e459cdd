-- Each move of a server keeps its records right.
use Rattle.std.proofs.Common.{◌≡◌, ◌⊎◌, ℕ, ◌+◌, ◌-◌, ◌<◌, ◌≤◌, Bool, true, false, List, [], ◌∷◌, ◌++◌, length, map, take, drop, max, nat_lt, slice_get, refl, sym, ap, ◌∙◌, subst, arith, le_of_lt, ⊎_elim, true≢false, if◌then◌else◌}
use Rattle.std.specs.Prelude.{⊤}
use Rattle.std.proofs.lemmas.List.{drop-map, length-take-le, map-append, take-map}
use Rattle.event_record.specs.Record.{entry_of}
use Rattle.event_record.specs.declared.record.RecordFields.{RecordFields}
use Rattle.file_tree.specs.Book.{Entry}
use Rattle.fuzzy_cells.specs.History.{History}
use Rattle.group_rules.proofs.Tests.{by_if}
use Rattle.group_rules.specs.Effects.{NewLog, demoted_by}
use Rattle.group_rules.specs.Form.{adopted, fits, keeps, wanted}
use Rattle.group_rules.specs.Moves.{Accepting, Appending, Applying, Basing, Booting, Choosing, Collecting, Committing, Demoting, Falling, Flushing, Hearing, Heeding, Joining, Move, Noting, Opening, Pulling, Reading, Saving, Saying, Sending, Staging, act, acts, heeded_page, into_page, moved, moved_by}
use Rattle.group_rules.specs.Names.{view_of}
use Rattle.group_rules.specs.Places.{Place, is_p2, put, same}
use Rattle.group_rules.specs.State.{Group, Log, Page, Plan, Server}
use Rattle.group_safety.proofs.Accepting.{same_is}
use Rattle.group_safety.proofs.Adopting.{fits_is, keeps_held, source_from}
use Rattle.group_safety.proofs.Common.{put_same, sure_up}
use Rattle.group_safety.proofs.Growth.{grows_moved}
use Rattle.group_safety.proofs.Lists.{get_back, part_append, part_drop, part_take}
use Rattle.group_safety.proofs.Moving.{Goes, Good, its}
use Rattle.group_safety.specs.Words.{IsJoining, Part}
use Rattle.harp_types.specs.declared.peer.Peer.{Peer}
use Rattle.tree_log.specs.Records.{record_of}
use Rattle.node.specs.Stock.{Stock, stock_after, stock_by}
use Rattle.idle_log.specs.Pulls.{adopted_records}
use Rattle.record_changes.proofs.Histories.{as_long, grow}
use Rattle.record_changes.specs.Records.{history_of}
use Rattle.world_laws.proofs.Lists.{changes_before, changes_behind, changes_both, changes_over, no_part}
use Rattle.world_laws.proofs.Right.{Right, grown, log_many, pulled_many}
use Rattle.tree_log.specs.TreeLog.{changes_in}

-- ---- parts of records

both_part : (n : ℕ) (xs ys : List RecordFields) (h : History) → Part n (changes_in xs) h
    → Part (n + length (changes_in xs)) (changes_in ys) h → Part n (changes_in (xs ++ ys)) h
both_part n xs ys h a b = subst (λ z. Part n z h) (sym (changes_both xs ys))
    (part_append n (changes_in xs) (changes_in ys) h a b)

behind_part : (n m d : ℕ) (xs : List RecordFields) (h : History) → m ≡ n + d
    → Part n (changes_in xs) h → Part m (changes_in (drop d xs)) h
behind_part n m d xs h e a = subst (λ z. Part m z h) (sym (changes_behind d xs))
    (part_drop n m d (changes_in xs) h e a)

before_part : (n d : ℕ) (xs : List RecordFields) (h : History) → Part n (changes_in xs) h
    → Part n (changes_in (take d xs)) h
before_part n d xs h a = subst (λ z. Part n z h) (sym (changes_before d xs))
    (part_take n d (changes_in xs) h a)

-- ---- what a move takes

-- the records that came are those of the promised view that are pulled next
abbrev pub ArePulled : (ℕ → Page Entry) → List RecordFields → Server Entry → Type 0
ArePulled page came s =
    Part (s.wanted_from + length s.staged) (changes_in came) (history_of (page s.promised).list)

-- a storer that accepts has pulled what it wanted, with what came, or wants nothing
pub record Adopts (page : ℕ → Page Entry) (came : List RecordFields) (q : Place)
    (s : Server Entry) (plan : Plan) (n : NewLog Entry) : Type 0 where
  pub formed : (page s.promised).formed ≡ true
  pub joins : IsJoining s.mode
  pub known : plan ≡ (page s.promised).plan
  pub fit : fits q s plan ≡ true
  pub log : n ≡ adopted q s plan (s.staged ++ map entry_of came)
  pub pulled : (length s.staged ≡ 0) × (came ≡ [])
      ⊎ (wanted q s plan ≡ s.wanted_from) × ArePulled page came s

-- a partner that heeds takes the next record, or none
pub record Heeds (page : ℕ → Page Entry) (came : List RecordFields) (s : Server Entry)
    (items : List Entry) : Type 0 where
  pub entries : items ≡ s.items ++ map entry_of (take (length items - length s.items) came)
  pub changes : Part (s.base + length s.items)
      (changes_in (take (length items - length s.items) came))
      (history_of (page s.accepted).list)

abbrev pub Feeds : (ℕ → Page Entry) → List Entry → List RecordFields → Place → Server Entry
    → Move Entry → Type 0
Feeds page list came q s (Staging items) = (items ≡ s.staged ++ map entry_of came)
    × ArePulled page came s
Feeds page list came q s (Accepting plan role n) = Adopts page came q s plan n
Feeds page list came q s (Heeding items cp base) = Heeds page came s items
Feeds page list came q s (Appending e) = (list ≡ (page s.accepted).list)
    × (s.base + length s.items ≡ length list)
Feeds page list came q s (Basing n) = s.base ≤ n
Feeds page list came q s Falling = ⊥
Feeds page list came q s Saving = ⊥
Feeds page list came q s (Booting d) = ⊥
Feeds page list came q s m = ⊤

-- each of the moves takes what it should
unfoldable pub Fed : Group Entry → Place → Server Entry → List Entry → List RecordFields
    → List (Move Entry) → Type 0
Fed g q s list came [] = ⊤
Fed g q s list came (m ∷ ms) = (Good g q s → Feeds g.page list came q s m)
    × Fed (moved g q s m) q (act q (g.clock q) s m) list came ms

-- ---- accepting

source_keeps : (q : Place) (s : Server Entry) (plan : Plan) → s.held ≡ Log
    → same q plan.source ≡ true → keeps q s plan ≡ true
source_keeps q s plan e f = rw e (by_if (λ (b : Bool). b ≡ true) (is_p2 q) _ _ (λ _. f) (λ _. refl))

wanted_cp : (q : Place) (s : Server Entry) (plan : Plan) → keeps q s plan ≡ true
    → (F : ℕ → Type 0) → F (wanted q s plan) → F s.cp
wanted_cp q s plan t F = by_if (λ (n : ℕ). F n → F s.cp) (keeps q s plan) s.cp plan.base
    (λ _ x. x) (λ f. absurd (true≢false (sym t ∙ f)))

wanted_base : (q : Place) (s : Server Entry) (plan : Plan) → keeps q s plan ≡ false
    → (F : ℕ → Type 0) → F (wanted q s plan) → F plan.base
wanted_base q s plan t F = by_if (λ (n : ℕ). F n → F plan.base) (keeps q s plan) s.cp plan.base
    (λ f. absurd (true≢false (sym f ∙ t))) (λ _ x. x)

adopted_entries : (q : Place) (s : Server Entry) (plan : Plan) (own staged : List RecordFields)
    → map entry_of own ≡ s.items
    → map entry_of (adopted_records q s plan own staged)
    ≡ (adopted q s plan (map entry_of staged)).items
adopted_entries q s plan own staged is =
    by_both (same q plan.source) (keeps q s plan) (plan.base - s.base) (s.cp - s.base)
  where
    by_both : (b c : Bool) (d e : ℕ)
        → map entry_of (if b then drop d own else (if c then drop d (take e own ++ staged) else
        staged))
        ≡ (if b then drop d s.items else
        (if c then drop d (take e s.items ++ map entry_of staged) else map entry_of staged))
    by_both true c d e = sym (drop-map entry_of d own) ∙ ap (drop d) is
    by_both false true d e = sym (drop-map entry_of d (take e own ++ staged))
        ∙ ap (drop d) (map-append entry_of (take e own) staged
        ∙ ap (λ (l : List Entry). l ++ map entry_of staged)
        (sym (take-map entry_of e own) ∙ ap (take e) is))
    by_both false false d e = refl

-- the source's own records are the new view's
source_changes : (g : Group Entry) (q : Place) (s : Server Entry) → Good g q s → IsJoining s.mode
    → (g.page s.promised).formed ≡ true → s.held ≡ Log → (g.page s.promised).plan.source ≡ q
    → (k : Stock) → Right g.page s k
    → Part s.base (changes_in k.log) (history_of (g.page s.promised).list)
source_changes g q s h j f l e k r =
    let known = source_from g q s h j f l e in
    let ends = known.1 in
    let page = h.ok.page s.promised f in
    let many = log_many r in
    changes_over (g.page s.promised).plan.start s.base (changes_in k.log)
    (g.page s.accepted).list (g.page s.promised).list (omega arith)
    (subst (λ n. (g.page s.promised).plan.start ≤ length (g.page n).list) (sym known.0)
    page.start_origin)
    page.start_within
    (λ i b. ap (λ n. slice_get (g.page n).list i) known.0 ∙ page.begins i b)
    r.log

-- the committed ones are those of each later view
kept_changes : (g : Group Entry) (q : Place) (s : Server Entry) → Good g q s → (w : ℕ)
    → s.accepted ≤ w → (g.page w).formed ≡ true → s.held ≡ Log → (k : Stock) → Right g.page s k
    → Part s.base (changes_in (take (s.cp - s.base) k.log)) (history_of (g.page w).list)
kept_changes g q s h w le f l k r =
    let log = (its h).logs.log l in
    let base_cp' = log.base_cp in
    let cp_top' = log.cp_top in
    let many = log_many r in
    let up = sure_up g h.ok s.accepted w s.cp le (its h).views.formed f log.sure in
    let a : length (take (s.cp - s.base) (changes_in k.log)) ≡ s.cp - s.base =
    length-take-le (s.cp - s.base) (changes_in k.log) (omega arith) in
    let b = ap (λ (z : History). length z) (changes_before (s.cp - s.base) k.log) in
    changes_over s.cp s.base (changes_in (take (s.cp - s.base) k.log))
    (g.page s.accepted).list (g.page w).list (omega arith) log.sure.within up.within
    (λ i x. log.sure.same i x ∙ sym (up.same i x))
    (before_part s.base (s.cp - s.base) k.log _ r.log)

-- what is pulled is the view's
pulled_changes : (g : Group Entry) (q : Place) (s : Server Entry) (came : List RecordFields)
    (plan : Plan) (k : Stock) → Right g.page s k
    → (length s.staged ≡ 0) × (came ≡ [])
    ⊎ (wanted q s plan ≡ s.wanted_from) × ArePulled g.page came s
    → Part (wanted q s plan) (changes_in (k.pulled ++ came)) (history_of (g.page s.promised).list)
pulled_changes g q s came plan k r o = ⊎_elim
    (λ n.
    let a = pulled_many r in
    let b = n.0 in
    both_part (wanted q s plan) k.pulled came _ (no_part _ _ _ (omega arith))
    (no_part _ _ _ (ap (λ z. length (changes_in z)) n.1)))
    (λ y. subst (λ n. Part n (changes_in (k.pulled ++ came)) (history_of (g.page s.promised).list))
    (sym y.0)
    (both_part s.wanted_from k.pulled came _ r.pulled
    (subst (λ n. Part (s.wanted_from + n) (changes_in came) (history_of (g.page s.promised).list))
    (sym (pulled_many r)) y.1)))
    o

adopted_part : (g : Group Entry) (q : Place) (s : Server Entry) → Good g q s
    → (came : List RecordFields) (plan : Plan) (n : NewLog Entry)
    → Adopts g.page came q s plan n → (k : Stock) → Right g.page s k
    → Part plan.base (changes_in (adopted_records q s plan k.log (k.pulled ++ came)))
    (history_of (g.page s.promised).list)
adopted_part g q s h came plan n a k r =
    let w = s.promised in
    let H = history_of (g.page w).list in
    let fine = its h in
    let fits' = fits_is q s plan a.fit in
    let lt = (fine.modes.joining a.joins).0 in
    let pulled = pulled_changes g q s came plan k r a.pulled in
    let from_source : same q plan.source ≡ true → (g.page w).plan.source ≡ q =
    λ t. sym (same_is q plan.source t ∙ ap (λ (p : Plan). p.source) a.known) in
    by_if (λ (xs : List RecordFields). Part plan.base (changes_in xs) H) (same q plan.source) _ _
    (λ t.
    let held = fits'.source t in
    let above = fits'.above (source_keeps q s plan held.0 t) in
    behind_part s.base plan.base (plan.base - s.base) k.log H (omega arith)
    (source_changes g q s h a.joins a.formed held.0 (from_source t) k r))
    (λ _. by_if (λ (xs : List RecordFields). Part plan.base (changes_in xs) H) (keeps q s plan) _ _
    (λ t.
    let held = keeps_held q s plan t in
    let above = fits'.above t in
    let log = fine.logs.log held in
    let base_cp' = log.base_cp in
    let cp_top' = log.cp_top in
    let many = log_many r in
    let size : length (take (s.cp - s.base) (changes_in k.log)) ≡ s.cp - s.base =
    length-take-le (s.cp - s.base) (changes_in k.log) (omega arith) in
    let b = ap (λ (z : History). length z) (changes_before (s.cp - s.base) k.log) in
    let ends : s.cp ≡ s.base + length (changes_in (take (s.cp - s.base) k.log)) = omega arith in
    let c : Part s.cp (changes_in (k.pulled ++ came)) H =
    wanted_cp q s plan t (λ i. Part i (changes_in (k.pulled ++ came)) H) pulled in
    behind_part s.base plan.base (plan.base - s.base)
    (take (s.cp - s.base) k.log ++ (k.pulled ++ came)) H (omega arith)
    (both_part s.base (take (s.cp - s.base) k.log) (k.pulled ++ came) H
    (kept_changes g q s h w (le_of_lt lt) a.formed held k r)
    (subst (λ i. Part i (changes_in (k.pulled ++ came)) H) ends c)))
    (λ t. wanted_base q s plan t (λ i. Part i (changes_in (k.pulled ++ came)) H) pulled))

accepted_right : (g : Group Entry) (q : Place) (s : Server Entry) → Good g q s
    → (list : List Entry) (came : List RecordFields) (askers : List Peer) (plan : Plan) (role : _)
    (n : NewLog Entry) → Adopts g.page came q s plan n → (k : Stock) → Right g.page s k
    → Right (moved g q s (Accepting plan role n)).page
    (act q (g.clock q) s (Accepting plan role n))
    (stock_by q list came askers s (Accepting plan role n) k)
accepted_right g q s h list came askers plan role n a k r =
    let page = put g.page s.promised (into_page (g.page s.promised) q) in
    let same' : (page s.promised).list ≡ (g.page s.promised).list =
    ap (λ (p : Page Entry). p.list) (put_same g.page s.promised (into_page (g.page s.promised)
    q)) in
    let staged : map entry_of (k.pulled ++ came) ≡ s.staged ++ map entry_of came =
    map-append entry_of k.pulled came ∙ ap (λ (l : List Entry). l ++ map entry_of came) r.staged in
    record {
      items = adopted_entries q s plan k.log (k.pulled ++ came) r.items
          ∙ ap (λ (l : List Entry). (adopted q s plan l).items) staged
          ∙ ap (λ (n : NewLog Entry). n.items) (sym a.log);
      staged = refl;
      log = subst
          (λ b. Part b (changes_in (adopted_records q s plan k.log (k.pulled ++ came)))
          (history_of (page s.promised).list))
          (ap (λ (n : NewLog Entry). n.base) (sym a.log))
          (subst (λ l. Part plan.base (changes_in (adopted_records q s plan k.log (k.pulled ++
          came)))
          (history_of l)) (sym same') (adopted_part g q s h came plan n a k r));
      pulled = λ i (l : i < 0). absurd (omega arith);
    }

-- ---- the other moves

heeded_right : (g : Group Entry) (q : Place) (s : Server Entry)
    → (list : List Entry) (came : List RecordFields) (askers : List Peer) (items : List Entry)
    (cp base : ℕ) → Heeds g.page came s items → (k : Stock) → Right g.page s k
    → Right (moved g q s (Heeding items cp base)).page s k
    → Right (moved g q s (Heeding items cp base)).page
    (act q (g.clock q) s (Heeding items cp base))
    (stock_by q list came askers s (Heeding items cp base) k)
heeded_right g q s list came askers items cp base a k r n =
    let p = heeded_page (g.page s.accepted) (s.base + length items) (g.clock q + s.delta) in
    let page = put g.page s.accepted p in
    let same' : (page s.accepted).list ≡ (g.page s.accepted).list =
    ap (λ (p : Page Entry). p.list) (put_same g.page s.accepted p) in
    let more = take (length items - length s.items) came in
    let d = base - s.base in
    let H = history_of (g.page s.accepted).list in
    record {
      items = sym (drop-map entry_of d (k.log ++ more))
          ∙ ap (drop d) (map-append entry_of k.log more
          ∙ ap (λ (l : List Entry). l ++ map entry_of more) r.items ∙ sym a.entries);
      staged = n.staged;
      log = subst (λ l. Part (max s.base base) (changes_in (drop d (k.log ++ more))) (history_of l))
          (sym same')
          (behind_part s.base (max s.base base) d (k.log ++ more) H (omega arith)
          (both_part s.base k.log more H r.log
          (subst (λ i. Part (s.base + i) (changes_in more) H) (sym (log_many r)) a.changes)));
      pulled = n.pulled;
    }

appended_right : (g : Group Entry) (q : Place) (s : Server Entry)
    → (list : List Entry) (came : List RecordFields) (askers : List Peer) (e : Entry)
    → list ≡ (g.page s.accepted).list → s.base + length s.items ≡ length list
    → (k : Stock) → Right g.page s k → Right (moved g q s (Appending e)).page s k
    → Right (moved g q s (Appending e)).page (act q (g.clock q) s (Appending e))
    (stock_by q list came askers s (Appending e) k)
appended_right g q s list came askers e is ends k r n =
    let p = record (g.page s.accepted) { list = (g.page s.accepted).list ++ e ∷ [] } in
    let page = put g.page s.accepted p in
    let same' : (page s.accepted).list ≡ list ++ e ∷ [] =
    ap (λ (p : Page Entry). p.list) (put_same g.page s.accepted p)
    ∙ ap (λ (l : List Entry). l ++ e ∷ []) (sym is) in
    let new = record_of (view_of s.accepted) list e in
    let H = history_of list in
    let many = log_many r in
    let long = as_long list in
    record {
      items = map-append entry_of k.log (new ∷ [])
          ∙ ap (λ (l : List Entry). l ++ e ∷ []) r.items;
      staged = n.staged;
      log = both_part s.base k.log (new ∷ []) (history_of (page s.accepted).list) n.log
          (subst (λ l. Part (s.base + length (changes_in k.log)) (changes_in (new ∷ [])) l)
          (sym (ap history_of same' ∙ grow list e))
          (λ j l.
          let i : s.base + length (changes_in k.log) + j ≡ length H + j = omega arith in
          sym (ap (slice_get (H ++ new.changes ∷ [])) i ∙ get_back H (new.changes ∷ []) j)));
      pulled = n.pulled;
    }

demoted_right : (page : ℕ → Page Entry) (s : Server Entry) (v : ℕ) (b : Bool) (k : Stock)
    → Right page s k → Right page (demoted_by b s v)
    (record { log = []; pulled = if b then k.pulled else []; waits = [] })
demoted_right page s v true k n = record {
  items = refl;
  staged = n.staged;
  log = λ i (l : i < 0). absurd (omega arith);
  pulled = n.pulled;
}
demoted_right page s v false k n = record {
  items = refl;
  staged = refl;
  log = λ i (l : i < 0). absurd (omega arith);
  pulled = λ i (l : i < 0). absurd (omega arith);
}

-- by the move: `n` says what stays right in the pages after it
by_move : (g : Group Entry) (q : Place) (s : Server Entry) → Good g q s
    → (list : List Entry) (came : List RecordFields) (askers : List Peer) (k : Stock)
    (m : Move Entry) → Feeds g.page list came q s m → Right g.page s k
    → Right (moved g q s m).page s k
    → Right (moved g q s m).page (act q (g.clock q) s m) (stock_by q list came askers s m k)
by_move g q s h list came askers k (Joining v duty) f r n = record {
  items = n.items;
  staged = refl;
  log = n.log;
  pulled = λ i (l : i < 0). absurd (omega arith);
}
by_move g q s h list came askers k (Pulling plan from) f r n = record {
  items = n.items;
  staged = refl;
  log = n.log;
  pulled = λ i (l : i < 0). absurd (omega arith);
}
by_move g q s h list came askers k (Staging items) f r n = record {
  items = n.items;
  staged = map-append entry_of k.pulled came
      ∙ ap (λ (l : List Entry). l ++ map entry_of came) r.staged ∙ sym f.0;
  log = n.log;
  pulled = both_part s.wanted_from k.pulled came _ r.pulled
      (subst (λ i. Part (s.wanted_from + i) (changes_in came) (history_of (g.page s.promised).list))
      (sym (pulled_many r)) f.1);
}
by_move g q s h list came askers k (Accepting plan role n') f r n =
    accepted_right g q s h list came askers plan role n' f k r
by_move g q s h list came askers k (Heeding items cp base) f r n =
    heeded_right g q s list came askers items cp base f k r n
by_move g q s h list came askers k (Appending e) f r n =
    appended_right g q s list came askers e f.0 f.1 k r n
by_move g q s h list came askers k (Basing b) f r n = record {
  items = sym (drop-map entry_of (b - s.base) k.log) ∙ ap (drop (b - s.base)) n.items;
  staged = n.staged;
  log = behind_part s.base b (b - s.base) k.log _ (omega arith) n.log;
  pulled = n.pulled;
}
by_move g q s h list came askers k (Demoting v) f r n =
    demoted_right g.page s v (nat_lt v s.promised) k n
by_move g q s h list came askers k Falling f r n = absurd f
by_move g q s h list came askers k Saving f r n = absurd f
by_move g q s h list came askers k (Booting d) f r n = absurd f
by_move g q s h list came askers k (Collecting x) f r n =
    record { items = n.items; staged = n.staged; log = n.log; pulled = n.pulled }
by_move g q s h list came askers k (Choosing x y) f r n =
    record { items = n.items; staged = n.staged; log = n.log; pulled = n.pulled }
by_move g q s h list came askers k (Hearing x lb) f r n =
    record { items = n.items; staged = n.staged; log = n.log; pulled = n.pulled }
by_move g q s h list came askers k (Opening lb) f r n =
    record { items = n.items; staged = n.staged; log = n.log; pulled = n.pulled }
by_move g q s h list came askers k (Noting x y z) f r n =
    record { items = n.items; staged = n.staged; log = n.log; pulled = n.pulled }
by_move g q s h list came askers k (Committing x) f r n =
    record { items = n.items; staged = n.staged; log = n.log; pulled = n.pulled }
by_move g q s h list came askers k (Applying x) f r n =
    record { items = n.items; staged = n.staged; log = n.log; pulled = n.pulled }
by_move g q s h list came askers k Flushing f r n =
    record { items = n.items; staged = n.staged; log = n.log; pulled = n.pulled }
by_move g q s h list came askers k (Reading x y) f r n =
    record { items = n.items; staged = n.staged; log = n.log; pulled = n.pulled }
by_move g q s h list came askers k (Saying x) f r n =
    record { items = n.items; staged = n.staged; log = n.log; pulled = n.pulled }
by_move g q s h list came askers k (Sending x y) f r n =
    record { items = n.items; staged = n.staged; log = n.log; pulled = n.pulled }

-- moves, one after the other
pub all_right : (ms : List (Move Entry)) (g : Group Entry) (q : Place) (s : Server Entry)
    → Goes g q s ms → (list : List Entry) (came : List RecordFields) (askers : List Peer)
    → Fed g q s list came ms → (k : Stock) → Right g.page s k
    → Right (moved_by g q s ms).page (acts q (g.clock q) s ms)
    (stock_after q (g.clock q) list came askers s ms k)
unfolding Goes Fed
all_right [] g q s h list came askers f k r = r
all_right (m ∷ ms) g q s h list came askers f k r =
    all_right ms (moved g q s m) q (act q (g.clock q) s m) h.2 list came askers f.1
    (stock_by q list came askers s m k)
    (by_move g q s h.0 list came askers k m (f.0 h.0) r
    (grown g q s h.0 (moved g q s m).page
    (grows_moved g h.0.ok q s h.0.is m h.1.0 h.1.1).each k r))
