-- Tick keeps the facts.
use Rattle.std.proofs.Common.{◌≡◌, ℕ, suc, ◌+◌, ◌-◌, List, [], ◌∷◌, ◌++◌, Option, None, Some, slice_get, take, drop, max, refl, sym, ap, ◌∙◌, subst, arith, ⊎_elim, if◌then◌else◌}
use Rattle.file_tree.specs.Book.{Entry}
use Rattle.group_safety.specs.Entered.{ServerWithin}
use Rattle.group_rules.specs.Limits.{is_open, is_pulls}
use Rattle.group_rules.specs.Open.{try_open}
use Rattle.group_rules.specs.Places.{Zero, One, Two, Place, all_of, get, partner}
use Rattle.group_rules.specs.State.{Chose, Collects, Duty, Event, Form, Group, Invite, NoDuty, Open, Plan, Report, Server}
use Rattle.group_rules.specs.Tick.{again, again_tests, beats, duties, duty_tests, events, invite_again, tick}
use Rattle.group_safety.specs.Words.{IsActive, Part}
use Rattle.group_safety.proofs.Lists.{part_drop, part_take}
use Rattle.group_safety.proofs.Accepting.{same_is}
use Rattle.group_safety.proofs.Raising.{leader_not_partner}
use Rattle.group_rules.proofs.Tests.{each_of}
use Rattle.group_safety.proofs.Modes.{pulls_is, waits_is, open_is}
use Rattle.group_safety.proofs.Moving.{Good, its, Goes}
use Rattle.group_safety.proofs.OpenRule.{opens}
use Rattle.group_safety.proofs.Sends.{Steady, goes_if, goes_next, own_base, partner_lb, settled, steady_both, steady_each, steady_goes, steady_more, steady_none, steady_where}

steady_events : (q : Place) (s : Server Entry) → s.mode ≡ Open → (to : Place) (before : ℕ) (es : List Entry) → ((g : Group Entry) → Good g q s → Part before es (g.page s.accepted).list) → Steady q s (events to s.accepted s.cp s.base before es)
steady_events q s o to before [] p = steady_none q s
steady_events q s o to before (e ∷ es) p = steady_more q s to (Event s.accepted (before + 1) s.cp s.base e) _
    (λ g h.
    let fine = its h in
    let a : IsActive s.mode = subst (λ z. IsActive z) (sym o) tt in
    let i : before + 0 ≡ before + 1 - 1 = omega arith in
    ((fine.views.formed, (fine.modes.leads o).1, (omega arith), sym (subst (λ (n : ℕ). Some e ≡ slice_get (g.page s.accepted).list n) i (p g h 0 (omega arith))), (fine.logs.log (fine.modes.active a).0).sure), ((fine.views.formed, settled g q s h o), own_base g q s h a, tt)))
    (steady_events q s o to (before + 1) es (λ g h k l. let i : before + suc k ≡ before + 1 + k = omega arith in p g h (suc k) (omega arith) ∙ ap (slice_get (g.page s.accepted).list) i))

steady_beats : (q : Place) (s : Server Entry) → s.mode ≡ Open → Steady q s (beats s)
steady_beats q s o =
    let a : IsActive s.mode = subst (λ z. IsActive z) (sym o) tt in
    steady_more q s _ _ _
    (λ g h. (((its h).views.formed, ((its h).modes.leads o).1, ((its h).logs.log ((its h).modes.active a).0).sure), (((its h).views.formed, settled g q s h o), own_base g q s h a, tt)))
    (steady_events q s o _ (max s.base s.told_top) (take 64 (drop (max s.base s.told_top - s.base) s.items))
    (λ g h. part_take (max s.base s.told_top) 64 (drop (max s.base s.told_top - s.base) s.items) (g.page s.accepted).list
    (part_drop s.base (max s.base s.told_top) (max s.base s.told_top - s.base) s.items (g.page s.accepted).list (omega arith) ((its h).logs.log ((its h).modes.active a).0).part)))

steady_invite : (q : Place) (s : Server Entry) (p : Place) (o : Option Report) → Steady q s (invite_again s.promised p o)
steady_invite q s p None = steady_more q s p (Invite s.promised) [] (λ g h. (tt, (tt, tt, (subst (λ (x : Server Entry). ServerWithin x) h.is (h.beside.within.server q)).count))) (steady_none q s)
steady_invite q s p (Some t) = steady_none q s

steady_duties : (q : Place) (s : Server Entry) (c : Duty) → s.duty ≡ c → Steady q s (duties q s c)
steady_duties q s NoDuty e = steady_none q s
steady_duties q s (Collects reports) e = steady_both q s _ _ (steady_invite q s Zero (get reports Zero)) (steady_both q s _ _ (steady_invite q s One (get reports One)) (steady_invite q s Two (get reports Two)))
steady_duties q s (Chose v plan) e = steady_where q s (all_of (duty_tests q s v plan)) _ (λ _. steady_each q s (Form v plan) _ (λ g h to. let x = (its h).chose v plan e in ((x.1, x.2), (tt, tt, tt))))

steady_again : (q : Place) (s : Server Entry) → Steady q s (again q s)
steady_again q s = steady_both q s _ _
    (steady_where q s (is_pulls s.mode) _ (λ t. steady_more q s _ _ [] (λ g h. let x = (its h).modes.pulls (pulls_is s.mode t) in ((x.0, ap (λ (p : Plan). p.source) x.1), (tt, tt, tt))) (steady_none q s)))
    (steady_where q s (all_of (again_tests q s)) _ (λ t.
    let a = each_of (again_tests q s) t in
    let active : IsActive s.mode = subst (λ z. IsActive z) (sym (waits_is s.mode a.0)) tt in
    steady_more q s _ _ [] (λ g h.
    let m = (its h).modes in
    let partner' : q ≡ partner (g.page s.accepted).plan.storers = same_is _ _ a.1.0 ∙ ap (λ (p : Plan). partner p.storers) (m.plan active) in
    (((its h).views.formed, partner', ⊎_elim (λ i. absurd (leader_not_partner _ (sym i.0 ∙ partner'))) (λ i. i.1) (m.active active).3), (tt, ((its h).views.formed, partner_lb g q s h partner'), tt))) (steady_none q s)))

pub ticks : (g : Group Entry) (q : Place) (s : Server Entry) → Good g q s → Goes g q s (tick q (g.clock q) s)
ticks g q s h = goes_next g q s (if is_open s.mode then beats s else try_open q (g.clock q) s) (λ s. duties q s s.duty ++ again q s)
    (goes_if g q s (is_open s.mode) _ _ (λ t. steady_goes q s (beats s) (steady_beats q s (open_is s.mode t)) g h) (λ _. opens g q s h))
    (λ k. steady_goes q _ _ (steady_both q _ _ _ (steady_duties q _ _ refl) (steady_again q _)) _ k)
