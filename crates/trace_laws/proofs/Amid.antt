-- What is known of a server, and of what its trace shows, amid the moves of a step.
use Rattle.std.proofs.Common.{◌≡◌, ℕ, ◌+◌, ◌<◌, ◌≤◌, ◌⊎◌, ◌&&◌, Bool, true, false, List, [], ◌∷◌, ◌++◌, length, Option, Some, None, refl, sym, ap, ◌∙◌, subst, inl, inr, arith, ⊎_elim, le_refl, max, true≢false, nat_lt, if◌then◌else◌}
use Rattle.std.specs.Prelude.{⊤}
use Rattle.std.specs.List.{AllByRecursion}
use Rattle.trace_claims.specs.Servers.{AckDelivered, HasShown, PromiseDelivered}
use Rattle.trace_claims.specs.Trace.{Trace}
use Rattle.file_tree.specs.Book.{Entry}
use Rattle.group_rules.specs.Effects.{NewLog, booted, demoted_by, lengthened, load_tests, loaded}
use Rattle.group_rules.specs.Form.{role_of}
use Rattle.group_rules.specs.Limits.{can_have, is_outside}
use Rattle.group_rules.specs.Moves.{Accepting, Appending, Booting, Choosing, Committing, Demoting, Falling, Heeding, Joining, Move, Noting, Opening, Pulling, Saving, act, acts, heeded_page, into_page, moved, moved_by}
use Rattle.group_rules.specs.Names.{id_of, view_of}
use Rattle.group_rules.specs.Places.{Place, all_of, is_p2, partner, put, same}
use Rattle.group_rules.specs.State.{Group, Log, Mark, Open, Page, Plan, Rests, Saved, Server, mark_of}
use Rattle.group_safety.specs.Words.{IsActive}
use Rattle.group_safety.proofs.Accepting.{same_is}
use Rattle.group_rules.proofs.Tests.{by_if, is_lt}
use Rattle.group_safety.proofs.Common.{put_same}
use Rattle.group_safety.proofs.Grow.{by_page, puts}
use Rattle.group_safety.proofs.Growth.{grows_moved}
use Rattle.group_safety.proofs.Moving.{Goes, Good, May, its}
use Rattle.trace_laws.proofs.StateLines.{shown_less}

-- ---- lists of moves that go

pub goes_now : (ms : List (Move Entry)) (g : Group Entry) (q : Place) (s : Server Entry)
    → Goes g q s ms → Good g q s
unfolding Goes
goes_now [] g q s h = h
goes_now (m ∷ ms) g q s h = h.0

pub goes_may : (m : Move Entry) (ms : List (Move Entry)) (g : Group Entry) (q : Place)
    (s : Server Entry) → Goes g q s (m ∷ ms) → May g q s m
unfolding Goes
goes_may m ms g q s h = h.1

pub goes_later : (m : Move Entry) (ms : List (Move Entry)) (g : Group Entry) (q : Place)
    (s : Server Entry) → Goes g q s (m ∷ ms) → Goes (moved g q s m) q (act q (g.clock q) s m) ms
unfolding Goes
goes_later m ms g q s h = h.2

pub goes_rest : (a b : List (Move Entry)) (g : Group Entry) (q : Place) (s : Server Entry)
    → Goes g q s (a ++ b) → Goes (moved_by g q s a) q (acts q (g.clock q) s a) b
goes_rest [] b g q s h = h
goes_rest (m ∷ a) b g q s h = goes_rest a b (moved g q s m) q (act q (g.clock q) s m)
    (goes_later m (a ++ b) g q s h)

pub goes_first : (a b : List (Move Entry)) (g : Group Entry) (q : Place) (s : Server Entry)
    → Goes g q s (a ++ b) → Goes g q s a
unfolding Goes
goes_first [] b g q s h = goes_now b g q s h
goes_first (m ∷ a) b g q s h = (
  h.0,
  h.1,
  goes_first a b (moved g q s m) q (act q (g.clock q) s m) h.2,
)

-- ---- modes

booted_rests : (q : Place) (c d : ℕ) (m : Mark Entry) → (booted q c d m).mode ≡ Rests
booted_rests q c d m = by_if (λ (s : Server Entry). s.mode ≡ Rests) (is_p2 q
    && is_outside m.role) _ _ (λ _. refl) (λ _. loads m.saved)
  where
    loads : (o : Option (Saved Entry)) → (loaded q c d (lengthened d m) o).mode ≡ Rests
    loads None = refl
    loads (Some v) = by_if (λ (s : Server Entry). s.mode ≡ Rests) (all_of (can_have q m.role
        ∷ load_tests m.lb v)) _ _ (λ _. refl) (λ _. refl)

pub booted_idle : (q : Place) (c d : ℕ) (m : Mark Entry) → IsActive (booted q c d m).mode → ⊥
booted_idle q c d m a = subst IsActive (booted_rests q c d m) a

-- a server that is demoted isn't active afterwards
demoted_idle : (g : Group Entry) (q : Place) (s : Server Entry) → Good g q s → (v : ℕ)
    → s.accepted < v → (b : Bool) → nat_lt v s.promised ≡ b → IsActive (demoted_by b s v).mode → ⊥
demoted_idle g q s h v lt true e a =
    let same' : s.promised ≡ s.accepted = ((its h).modes.active a).1 in
    let low : v < s.promised = is_lt v s.promised e in
    absurd (omega arith)
demoted_idle g q s h v lt false e a = a

-- ---- roles

-- an active server's role is that of its view, which isn't the first one
pub record RoleOk (q : Place) (s : Server Entry) : Type 0 where
  pub known : IsActive s.mode → (s.role ≡ role_of s.plan.storers q) × (0 < s.accepted)

-- a storer accepts in the role of its view
abbrev pub RoleFits : Place → Move Entry → Type 0
RoleFits q (Accepting plan role n) = role ≡ role_of plan.storers q
RoleFits q m = ⊤

pub role_moved : (g : Group Entry) (q : Place) (s : Server Entry) (m : Move Entry) → Good g q s
    → May g q s m → RoleFits q m → RoleOk q s → RoleOk q (act q (g.clock q) s m)
role_moved g q s (Joining v duty) k may f h = record { known = λ a. absurd a }
role_moved g q s (Pulling plan from) k may f h = record { known = λ a. absurd a }
role_moved g q s (Accepting plan role n) k may f h = record {
  known = λ a. (f, let low = ((its k).modes.joining may.2.1).0 in omega arith);
}
role_moved g q s (Opening lb) k may f h =
    record { known = λ a. h.known (subst IsActive (sym may.0.0) tt) }
role_moved g q s (Heeding items cp base) k may f h = record { known = λ a. h.known may.0.1 }
role_moved g q s (Demoting v) k may f h =
    record { known = λ a. absurd (demoted_idle g q s k v may.0 (nat_lt v s.promised) refl a) }
role_moved g q s Saving k may f h = record { known = λ a. absurd a }
role_moved g q s Falling k may f h = record { known = λ a. absurd a }
role_moved g q s (Booting d) k may f h =
    record { known = λ a. absurd (booted_idle q (g.clock q) d (mark_of s) a) }
role_moved g q s m k may f h = record { known = h.known }

-- ---- what an open leader was told

-- Ack of its view up to n, and promises beyond a moment, that its partner gave and that were
-- delivered
pub record OpenOk (b : Trace) (page : ℕ → Page Entry) (q : Place) (s : Server Entry) : Type 0 where
  pub acked : s.mode ≡ Open → (n : ℕ) → n ≤ s.cp
      → (n ≤ (page s.accepted).plan.start) ⊎ AckDelivered b (id_of (partner s.plan.storers))
      (id_of q) (view_of s.accepted) n
  pub granted : s.mode ≡ Open → (n : ℕ) → n < s.grant
      → PromiseDelivered b (id_of (partner s.plan.storers)) (id_of q) (view_of s.accepted) n

-- the server opened its view in this step, or was open in it at first
pub record FirstOk (s0 : Server Entry) (page : ℕ → Page Entry) (s : Server Entry) : Type 0 where
  pub opened : s.mode ≡ Open → ((s0.mode ≡ Open) × (s0.accepted ≡ s.accepted))
      ⊎ (s.cp ≡ (page s.accepted).plan.start)

-- a move that tells an open leader nothing
abbrev pub TellsNone : Move Entry → Type 0
TellsNone (Noting t lb until) = ⊥
TellsNone (Committing n) = ⊥
TellsNone m = ⊤

-- the start of the server's view stays
start_stays : (g : Group Entry) (q : Place) (s : Server Entry) (m : Move Entry) → Good g q s
    → May g q s m → ((moved g q s m).page s.accepted).plan ≡ (g.page s.accepted).plan
start_stays g q s m k may = ((grows_moved g k.ok q s k.is m may.0 may.1).each s.accepted
    (its k).views.formed).plan

-- a move that leaves an open server as it is in what counts here
pub open_kept : (b : Trace) (page page' : ℕ → Page Entry) (q : Place) (s : Server Entry)
    → (page' s.accepted).plan ≡ (page s.accepted).plan → OpenOk b page q s → OpenOk b page' q s
open_kept b page page' q s e h = record {
  acked = λ o n l. ⊎_elim (λ x. inl (subst (λ (p : Plan). n ≤ p.start) (sym e) x))
      (λ x. inr x) (h.acked o n l);
  granted = h.granted;
}

first_kept : (s0 : Server Entry) (page page' : ℕ → Page Entry) (s : Server Entry)
    → (page' s.accepted).plan ≡ (page s.accepted).plan → FirstOk s0 page s → FirstOk s0 page' s
first_kept s0 page page' s e h = record {
  opened = λ o. ⊎_elim (λ x. inl x)
      (λ x. inr (x ∙ ap (λ (p : Plan). p.start) (sym e))) (h.opened o);
}

not_open : (b : Trace) (page : ℕ → Page Entry) (q : Place) (s : Server Entry) → (s.mode ≡ Open → ⊥)
    → OpenOk b page q s
not_open b page q s n = record { acked = λ o. absurd (n o); granted = λ o. absurd (n o) }

never_open : (s0 : Server Entry) (page : ℕ → Page Entry) (s : Server Entry) → (s.mode ≡ Open → ⊥)
    → FirstOk s0 page s
never_open s0 page s n = record { opened = λ o. absurd (n o) }

-- a leader that opens has the start as top
opens_at_start : (g : Group Entry) (q : Place) (s : Server Entry) (lb : ℕ) → Good g q s
    → May g q s (Opening lb) → s.base + length s.items ≡ (g.page s.accepted).plan.start
opens_at_start g q s lb k may =
    let fn = its k in
    let closed = fn.modes.waits may.0.0 may.0.1 in
    let active : IsActive s.mode = subst IsActive (sym may.0.0) tt in
    (fn.logs.log (fn.modes.active active).0).holds.all may.0.1
    ∙ (k.ok.page s.accepted fn.views.formed).fresh closed

pub open_moved : (b : Trace) (g : Group Entry) (q : Place) (s : Server Entry) (m : Move Entry)
    → Good g q s → May g q s m → TellsNone m → OpenOk b g.page q s
    → OpenOk b (moved g q s m).page q (act q (g.clock q) s m)
open_moved b g q s (Joining v duty) k may f h = not_open b _ q _ (λ o. cc)
open_moved b g q s (Pulling plan from) k may f h = not_open b _ q _ (λ o. cc)
open_moved b g q s (Accepting plan role n) k may f h = not_open b _ q _ (λ o. cc)
open_moved b g q s (Heeding items cp base) k may f h = not_open b _ q _ (λ o. cc)
open_moved b g q s (Demoting v) k may f h = not_open b _ q _
    (λ o. demoted_idle g q s k v may.0 (nat_lt v s.promised) refl (subst IsActive (sym o) tt))
open_moved b g q s Saving k may f h = not_open b _ q _ (λ o. cc)
open_moved b g q s Falling k may f h = not_open b _ q _ (λ o. cc)
open_moved b g q s (Booting d) k may f h = not_open b _ q _
    (λ o. booted_idle q (g.clock q) d (mark_of s) (subst IsActive (sym o) tt))
open_moved b g q s (Noting t lb until) k may f h = absurd f
open_moved b g q s (Committing n) k may f h = absurd f
open_moved b g q s (Opening lb) k may f h =
    let e = start_stays g q s (Opening lb) k may in
    let z = opens_at_start g q s lb k may in
    record {
      acked = λ o n l. inl (subst (λ (p : Plan). n ≤ p.start) (sym e) (subst (λ x. n ≤ x) z l));
      granted = λ o n l. absurd (omega arith);
    }
open_moved b g q s m k may f h =
    let h' = open_kept b g.page (moved g q s m).page q s (start_stays g q s m k may) h in
    record { acked = h'.acked; granted = h'.granted }

pub first_moved : (s0 : Server Entry) (g : Group Entry) (q : Place) (s : Server Entry)
    (m : Move Entry) → Good g q s → May g q s m → TellsNone m → FirstOk s0 g.page s
    → FirstOk s0 (moved g q s m).page (act q (g.clock q) s m)
first_moved s0 g q s (Joining v duty) k may f h = never_open s0 _ _ (λ o. cc)
first_moved s0 g q s (Pulling plan from) k may f h = never_open s0 _ _ (λ o. cc)
first_moved s0 g q s (Accepting plan role n) k may f h = never_open s0 _ _ (λ o. cc)
first_moved s0 g q s (Heeding items cp base) k may f h = never_open s0 _ _ (λ o. cc)
first_moved s0 g q s (Demoting v) k may f h = never_open s0 _ _
    (λ o. demoted_idle g q s k v may.0 (nat_lt v s.promised) refl (subst IsActive (sym o) tt))
first_moved s0 g q s Saving k may f h = never_open s0 _ _ (λ o. cc)
first_moved s0 g q s Falling k may f h = never_open s0 _ _ (λ o. cc)
first_moved s0 g q s (Booting d) k may f h = never_open s0 _ _
    (λ o. booted_idle q (g.clock q) d (mark_of s) (subst IsActive (sym o) tt))
first_moved s0 g q s (Noting t lb until) k may f h = absurd f
first_moved s0 g q s (Committing n) k may f h = absurd f
first_moved s0 g q s (Opening lb) k may f h =
    record {
      opened = λ o. inr (opens_at_start g q s lb k may
          ∙ ap (λ (p : Plan). p.start) (sym (start_stays g q s (Opening lb) k may)));
    }
first_moved s0 g q s m k may f h =
    let h' = first_kept s0 g.page (moved g q s m).page s (start_stays g q s m k may) h in
    record { opened = h'.opened }

-- ---- the three, over moves

pub record Amid (b : Trace) (s0 : Server Entry) (g : Group Entry) (q : Place)
    (s : Server Entry) : Type 0 where
  pub role : RoleOk q s
  pub told : OpenOk b g.page q s
  pub first : FirstOk s0 g.page s

abbrev pub Untold : Place → Move Entry → Type 0
Untold q m = RoleFits q m × TellsNone m

pub amid_moves : (ms : List (Move Entry)) (b : Trace) (s0 : Server Entry) (g : Group Entry)
    (q : Place) (s : Server Entry) → Goes g q s ms → AllByRecursion (Untold q) ms → Amid b s0 g q s
    → Amid b s0 (moved_by g q s ms) q (acts q (g.clock q) s ms)
amid_moves [] b s0 g q s k f h = h
amid_moves (m ∷ ms) b s0 g q s k f h =
    let good = goes_now (m ∷ ms) g q s k in
    let may = goes_may m ms g q s k in
    amid_moves ms b s0 (moved g q s m) q (act q (g.clock q) s m) (goes_later m ms g q s k) f.1
    (record {
      role = role_moved g q s m good may f.0.0 h.role;
      told = open_moved b g q s m good may f.0.1 h.told;
      first = first_moved s0 g q s m good may f.0.1 h.first;
    })

-- ---- what the partners of views have shown

-- a view's partner, once it accepted the view, showed that it has its start and all that is held
-- twice
abbrev pub PartnerShown : Trace → ℕ → Page Entry → Type 0
PartnerShown b v p = HasShown b (id_of (partner p.plan.storers)) (view_of v)
    (max p.plan.start p.held_twice)

pub record AllShown (b : Trace) (page : ℕ → Page Entry) : Type 0 where
  pub each : (v : ℕ) → (page v).formed ≡ true → 0 < v → (page v).partner_in ≡ true
      → PartnerShown b v (page v)

-- or it is in the view now, with a log
abbrev pub IsThere : ℕ → Page Entry → Place → Server Entry → Type 0
IsThere v p q s = (q ≡ partner p.plan.storers) × (s.accepted ≡ v) × (s.held ≡ Log) × (s.up ≡ true)

pub record SomeShown (b : Trace) (page : ℕ → Page Entry) (q : Place)
    (s : Server Entry) : Type 0 where
  pub each : (v : ℕ) → (page v).formed ≡ true → 0 < v → (page v).partner_in ≡ true
      → PartnerShown b v (page v) ⊎ IsThere v (page v) q s

pub all_some : (b : Trace) (page : ℕ → Page Entry) (q : Place) (s : Server Entry) → AllShown b page
    → SomeShown b page q s
all_some b page q s h = record { each = λ v f z i. inl (h.each v f z i) }

-- a move that neither accepts nor heeds
abbrev pub IsApart : Move Entry → Type 0
IsApart (Accepting plan role n) = ⊥
IsApart (Heeding items cp base) = ⊥
IsApart m = ⊤

-- no page has more to show
pub record ShowsNoMore (page page' : ℕ → Page Entry) : Type 0 where
  pub each : (v : ℕ) → (page' v).formed ≡ true → (page' v).partner_in ≡ true
      → ((page v).formed ≡ true) × ((page v).partner_in ≡ true) × ((page' v).plan ≡ (page v).plan)
      × (max (page' v).plan.start (page' v).held_twice ≤
      max (page v).plan.start (page v).held_twice)

no_more_same : (page : ℕ → Page Entry) → ShowsNoMore page page
no_more_same page = record { each = λ v f i. (f, i, refl, le_refl _) }

abbrev PutFits : (ℕ → Page Entry) → ℕ → Page Entry → Type 0
PutFits page v p = p.formed ≡ true → p.partner_in ≡ true → ((page v).formed ≡ true)
    × ((page v).partner_in ≡ true) × (p.plan ≡ (page v).plan)
    × (max p.plan.start p.held_twice ≤ max (page v).plan.start (page v).held_twice)

no_more_put : (page : ℕ → Page Entry) (w : ℕ) (p : Page Entry) → PutFits page w p
    → ShowsNoMore page (put page w p)
no_more_put page w p h = record {
  each = λ v. by_page w (puts w page p)
      (λ v x. PutFits page v x) h v (λ f i. (f, i, refl, le_refl _));
}

pub apart_no_more : (g : Group Entry) (q : Place) (s : Server Entry) (m : Move Entry) → IsApart m
    → ShowsNoMore g.page (moved g q s m).page
apart_no_more g q s (Accepting plan role n) a = absurd a
apart_no_more g q s (Heeding items cp base) a = absurd a
apart_no_more g q s (Choosing plan from) a = no_more_put g.page s.promised _
    (λ f i. absurd (true≢false (sym i)))
apart_no_more g q s (Opening lb) a = no_more_put g.page s.accepted _ (λ f i. (
  f,
  i,
  refl,
  omega arith,
))
apart_no_more g q s (Appending e) a = no_more_put g.page s.accepted _ (λ f i. (
  f,
  i,
  refl,
  le_refl _,
))
apart_no_more g q s m a = no_more_same g.page

shown_again : (b : Trace) (page page' : ℕ → Page Entry) (v : ℕ) → ((page' v).plan ≡ (page v).plan)
    → (max (page' v).plan.start (page' v).held_twice ≤ max (page v).plan.start (page v).held_twice)
    → PartnerShown b v (page v) → PartnerShown b v (page' v)
shown_again b page page' v e l h = shown_less b _ (view_of v) _ _ l
    (subst (λ (p : Plan). HasShown b (id_of (partner p.storers)) (view_of v)
    (max (page v).plan.start (page v).held_twice)) (sym e) h)

pub all_moved : (ms : List (Move Entry)) (b : Trace) (g : Group Entry) (q : Place)
    (s : Server Entry) → AllByRecursion IsApart ms → AllShown b g.page
    → AllShown b (moved_by g q s ms).page
all_moved [] b g q s a h = h
all_moved (m ∷ ms) b g q s a h =
    let less = apart_no_more g q s m a.0 in
    all_moved ms b (moved g q s m) q (act q (g.clock q) s m) a.1
    (record {
      each = λ v f z i. let x = less.each v f i in
          shown_again b g.page (moved g q s m).page v x.2 x.3 (h.each v x.0 z x.1);
    })

-- a storer accepts
pub some_accepts : (b : Trace) (g : Group Entry) (q : Place) (s : Server Entry) (plan : Plan)
    (n : NewLog Entry) → s.up ≡ true → AllShown b g.page
    → SomeShown b (moved g q s (Accepting plan (role_of plan.storers q) n)).page q
    (act q (g.clock q) s (Accepting plan (role_of plan.storers q) n))
some_accepts b g q s plan n up h =
    let p' = into_page (g.page s.promised) q in
    let s' = act q (g.clock q) s (Accepting plan (role_of plan.storers q) n) in
    record {
      each = λ v. by_page s.promised (puts s.promised g.page p') (λ v p. p.formed ≡ true → 0 < v
          → p.partner_in ≡ true → PartnerShown b v p ⊎ IsThere v p q s')
          (λ f z i. mine f z (same q (partner (g.page s.promised).plan.storers)) refl i) v
          (λ f z i. inl (h.each v f z i));
    }
  where
    s1 : Server Entry
    s1 = act q (g.clock q) s (Accepting plan (role_of plan.storers q) n)

    p1 : Page Entry
    p1 = into_page (g.page s.promised) q

    mine : (g.page s.promised).formed ≡ true → 0 < s.promised → (x : Bool)
        → same q (partner (g.page s.promised).plan.storers) ≡ x
        → (if x then true else (g.page s.promised).partner_in) ≡ true
        → PartnerShown b s.promised p1 ⊎ IsThere s.promised p1 q s1
    mine f z true e i = inr (
      same_is q (partner (g.page s.promised).plan.storers) e,
      refl,
      refl,
      up,
    )
    mine f z false e i = inl (h.each s.promised f z i)

-- the partner heeds
pub some_heeds : (b : Trace) (g : Group Entry) (q : Place) (s : Server Entry) (items : List Entry)
    (cp base : ℕ) → s.up ≡ true
    → Good (moved g q s (Heeding items cp base)) q (act q (g.clock q) s (Heeding items cp base))
    → AllShown b g.page → SomeShown b (moved g q s (Heeding items cp base)).page q
    (act q (g.clock q) s (Heeding items cp base))
some_heeds b g q s items cp base up k h =
    let p' = heeded_page (g.page s.accepted) (s.base + length items) (g.clock q + s.delta) in
    let s' = act q (g.clock q) s (Heeding items cp base) in
    let here = put_same g.page s.accepted p' in
    let follows : q ≡ partner p'.plan.storers = ((its k).modes.follows refl).0
    ∙ ap (λ (p : Page Entry). partner p.plan.storers) here in
    let held : s'.held ≡ Log = ((its k).modes.active tt).0 in
    record {
      each = λ v. by_page s.accepted (puts s.accepted g.page p') (λ v p. p.formed ≡ true → 0 < v
          → p.partner_in ≡ true → PartnerShown b v p ⊎ IsThere v p q s')
          (λ f z i. inr (follows, refl, held, up)) v (λ f z i. inl (h.each v f z i));
    }

-- the end of a step
pub record KeepsPlace (s s' : Server Entry) : Type 0 where
  pub accepted : s'.accepted ≡ s.accepted
  pub held : s'.held ≡ s.held
  pub up : s'.up ≡ s.up

pub some_then : (b : Trace) (page page' : ℕ → Page Entry) (q : Place) (s s' : Server Entry)
    → ShowsNoMore page page' → KeepsPlace s s' → SomeShown b page q s → SomeShown b page' q s'
some_then b page page' q s s' less keep h = record {
  each = λ v f z i.
      let x = less.each v f i in
      ⊎_elim
      (λ y. inl (shown_again b page page' v x.2 x.3 y))
      (λ y. inr (
        y.0 ∙ ap (λ (p : Plan). partner p.storers) (sym x.2),
        keep.accepted ∙ y.1,
        keep.held ∙ y.2,
        keep.up ∙ y.3,
      ))
      (h.each v x.0 z x.1);
}
