-- Each step of a server keeps the facts.
use Rattle.std.proofs.Common.{sym, true≢false, ◌≡◌, ℕ, ◌+◌, ◌/◌, ◌≤◌, not, true, List, [], ◌∷◌, take, min, refl, subst, arith, le_trans, le_refl}
use Rattle.std.specs.Prelude.{⊤}
use Rattle.file_tree.specs.Book.{Entry}
use Rattle.group_rules.specs.Disk.{demote_tests, flush_tests, settled_tests}
use Rattle.group_rules.specs.Effects.{taken}
use Rattle.group_safety.specs.Entered.{ServerWithin}
use Rattle.group_safety.specs.Facts.{BodyOk}
use Rattle.group_rules.specs.Limits.{limit}
use Rattle.group_rules.specs.Misfits.{misfits, proper, room_tests}
use Rattle.group_rules.specs.Moves.{Falling, Flushing}
use Rattle.group_rules.specs.Open.{rebase}
use Rattle.group_rules.specs.Places.{is_p2, Place, all_of, coordinator, number, same}
use Rattle.group_rules.specs.State.{Ack, Beat, Demote, Event, Fetch, Form, Formed, Give, Group, Invite, Join, Lists, Message, Server, top}
use Rattle.group_rules.specs.Step.{Apply, Ask, Comes, Crash, Deed, Does, Flush, Input, ListTree, Power, Suspect, Tick, does, on_message, rule, step}
use Rattle.group_rules.proofs.Tests.{Each', each_of, not_false, is_le, is_lt}
use Rattle.group_safety.proofs.Modes.{p2_is, settled_is, settles_is}
use Rattle.group_safety.proofs.Quiet.{apply_kept, flush_kept, fall_kept, save_kept, demote_kept}
use Rattle.group_safety.proofs.Moving.{Good, its, Goes, goes_done, goes_one}
use Rattle.group_safety.proofs.Adopting.{if_true}
use Rattle.group_safety.proofs.AskRule.{asked}
use Rattle.group_safety.proofs.FormRule.{fetched, form_heeded, given}
use Rattle.group_safety.proofs.JoinRule.{invited, suspects, told_join}
use Rattle.group_safety.proofs.OpenRule.{finishes, formed_heard, rebases}
use Rattle.group_safety.proofs.ReplicateRule.{acked, event_taken, heeded}
use Rattle.group_safety.proofs.Sends.{BodyMay, goes_if, goes_next, goes_where, says}
use Rattle.group_safety.proofs.TickRule.{ticks}

pub falls : (g : Group Entry) (q : Place) (s : Server Entry) → Good g q s → Goes g q s (Falling ∷ [])
falls g q s h = goes_one g q s Falling h (tt, tt, tt, tt) (fall_kept g h.ok q s h.is)

thirds : (a b : ℕ) → a ≤ b → a / 3 ≤ b / 3
thirds a b l = omega arith

-- a message that isn't a misfit keeps the facts
comes : (size : List Entry → Entry → ℕ) (list : List Entry) (g : Group Entry) (q : Place) (s : Server Entry) → Good g q s → s.up ≡ true → (from : Place) (m : Message Entry) → Each' (proper q s from m) → BodyOk g.page g.joins g.committed from q m → BodyMay g m
    → Goes g q s (on_message size q (g.clock q) list s from m)
comes size list g q s h up from (Invite v) t b r = invited g q s h up from v r.2
comes size list g q s h up from (Join v x) t b r = told_join g q s h from v x b s.duty refl
comes size list g q s h up from (Form v plan) t b r = form_heeded g q s h v plan b
comes size list g q s h up from (Fetch v index) t b r = fetched size list g q s h from v index b.0 b.1
comes size list g q s h up from (Give v index items) t b r = given g q s h from v index items b.2 t.1.1.0
comes size list g q s h up from (Formed v lb) t b r = formed_heard g q s h from v lb b.0 b.1 b.2 r.1.1
comes size list g q s h up from (Event v index cp base e) t b r = heeded g q s h up from v cp base (taken s index e) b.0 b.1 b.4 r.0.1 r.1 t.0
    (λ i. is_le _ _ (each_of (room_tests s base (taken s index e)) (if_true _ _ _ t.1.0 i)).0) (event_taken g q s h v index e b.3)
comes size list g q s h up from (Beat v cp base) t b r = heeded g q s h up from v cp base s.items b.0 b.1 b.2 r.0.1 r.1 t.0
    (λ _. let most = (subst (λ (x : Server Entry). ServerWithin x) h.is (h.beside.within.server q)).items in omega arith)
    (λ a e. let log = (its h).logs.log ((its h).modes.active a).0 in (le_refl _, log.holds.within, log.part))
comes size list g q s h up from (Ack v x lb until) t b r = acked g q s h v x lb until b.3 b.4 r.1.1
comes size list g q s h up from (Demote v) t b r = goes_where g q s (all_of (demote_tests q s v)) _ h (λ t.
    let a = each_of (demote_tests q s v) t in
    let low = (h.ok.server (coordinator v)).views.own v b.0 refl in
    let count : v / 3 ≤ limit = le_trans (thirds v (g.server (coordinator v)).promised low) (h.beside.within.server (coordinator v)).count in
    goes_one g q s _ h (
      is_lt s.accepted v a.1.0,
      (p2_is q a.0, is_lt s.accepted v a.1.0),
      count,
      tt,
    ) (demote_kept g h.ok q s h.is v (p2_is q a.0) (is_lt s.accepted v a.1.0) b.0 b.1 b.2))

does_goes : (g : Group Entry) (q : Place) (s : Server Entry) → Good g q s → s.up ≡ true → (list : List Entry) → list ≡ take (top s) (g.page s.accepted).list → (d : Deed) → Goes g q s (does q (g.clock q) list s d)
does_goes g q s h up list e Tick = ticks g q s h
does_goes g q s h up list e Suspect = suspects g q s h up
does_goes g q s h up list e (Ask client number cred c) = asked g q s h list e client number cred c
does_goes g q s h up list e (Apply n) = goes_where g q s (all_of (settled_tests q s)) _ h (λ t.
    let settled = (each_of (settled_tests q s) t).0 in
    let a = settled_is s.mode settled in
    let order = (its h).logs.order ((its h).modes.active a).0 in
    let o = order.2 in
    goes_one g q s _ h
    ((settles_is s.mode settled, omega arith), tt, ((its h).modes.active a).0, a)
    (apply_kept g h.ok q s h.is (min (s.ap + n) s.cp) (omega arith) (omega arith)))
does_goes g q s h up list e Flush = goes_where g q s (all_of (flush_tests q s)) _ h (λ t.
    let a = settled_is s.mode (each_of (flush_tests q s) t).0 in
    goes_one g q s Flushing h (
      tt,
      ((its h).logs.order ((its h).modes.active a).0).1,
      ((its h).modes.active a).0,
      (
        a,
        λ two. true≢false
            (sym (subst (λ x. not (is_p2 x) ≡ true) two (each_of (flush_tests q s) t).1.0)),
      ),
    )
    (flush_kept g h.ok q s h.is a))
does_goes g q s h up list e ListTree = goes_where g q s (all_of (settled_tests q s)) _ h (λ _. says g q s h (Lists s.cp) tt)
does_goes g q s h up list e Power = goes_one g q s _ h (tt, tt, tt, tt) (save_kept g h.ok q s h.is)
does_goes g q s h up list e Crash = falls g q s h

-- a message that a group has sent
abbrev pub Known : Group Entry → Place → Input → Type 0
Known g q (Does d) = ⊤
Known g q (Comes from m) = BodyOk g.page g.joins g.committed from q m × BodyMay g m

rule_goes : (size : List Entry → Entry → ℕ) (g : Group Entry) (q : Place) (s : Server Entry) → Good g q s → s.up ≡ true → (list : List Entry) → list ≡ take (top s) (g.page s.accepted).list → (i : Input) → Known g q i → Goes g q s (rule size q (g.clock q) list s i)
rule_goes size g q s h up list e (Does d) b = does_goes g q s h up list e d
rule_goes size g q s h up list e (Comes from m) b = goes_if g q s (misfits q s from m) _ _ (λ _. goes_done h) (λ n.
    let tests = each_of (not (same from q) ∷ proper q s from m) (not_false _ n) in
    finishes g q s _ (comes size list g q s h up from m tests.1 b.0 b.1))

-- each step of a server that is up keeps the facts
pub step_goes : (size : List Entry → Entry → ℕ) (g : Group Entry) (q : Place) (s : Server Entry) → Good g q s → s.up ≡ true → (list : List Entry) → list ≡ take (top s) (g.page s.accepted).list → (i : Input) → Known g q i → Goes g q s (step size q (g.clock q) list s i)
step_goes size g q s h up list e i b = goes_next g q s _ rebase (rule_goes size g q s h up list e i b) (λ k. rebases _ q _ k)
