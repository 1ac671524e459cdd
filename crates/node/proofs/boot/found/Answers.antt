use Rattle.std.proofs.Common.{rules, ◌≡◌, ◌<◌, ◌^◌, false, true, None, [], ℕ, refl, sym, ap, subst, ◌∙◌}
use Rattle.std.specs.Prelude.{map}
use Rattle.event_record.specs.Record.{entry_of}
use Rattle.file_tree.specs.Book.{Entry}
use Rattle.group_rules.specs.Effects.{load_tests, rested}
use Rattle.idle_log.specs.Boots.{rests}
use Rattle.group_rules.specs.Limits.{can_have}
use Rattle.group_rules.specs.Names.{place_of}
use Rattle.group_rules.specs.Places.{all_of}
use Rattle.group_rules.specs.State.{Saved}
use Rattle.idle_log.specs.Kept.{held_in, lb_in, log_in}
use Rattle.node.proofs.Booting.{lb_without, loaded_at, loaded_below, loaded_whole, no_log, no_role, of_saved, same_role_of, unloaded_whole, was_saved}
use Rattle.node.specs.Node.{mark_with}
use Rattle.node.specs.State.{role_of}
use Rattle.node.proofs.boot.found.Given as given
use Rattle.node.proofs.boot.found.Goals as goal

-- ---- a role that no choice gives

pub returns-then-not-can_have-clause-boots : goal.returns-then-not-can_have-clause-boots
returns-then-not-can_have-clause-boots g c = λ cells items clock delta told held.
    let q = place_of c.args.me in
    let mark = c.args.mark.now in
    let m = mark_with items mark in
    let can : can_have q m.role ≡ false =
    ap (can_have q) (same_role_of mark.role c.role.result c.role.ensures)
    ∙ sym c.if-not-can_have.ensures in
    c.unloaded.ensures.boots clock delta m
    (same_role_of mark.role c.role-then-not-can_have.result c.role-then-not-can_have.ensures)
    (sym c.lb.ensures.value) (no_role q m m.saved can)

pub returns-then-not-can_have-clause-lost : goal.returns-then-not-can_have-clause-lost
returns-then-not-can_have-clause-lost g c = λ cells items clock delta told lacks.
    let mark = c.args.mark.now in
    c.unloaded.ensures.boots clock delta (mark_with items (record mark { saved = None }))
    (same_role_of mark.role c.role-then-not-can_have.result c.role-then-not-can_have.ensures)
    (sym c.lb.ensures.value) refl

pub returns-then-not-can_have-clause-records : goal.returns-then-not-can_have-clause-records
returns-then-not-can_have-clause-records g c = λ cells saved told held.
    unloaded_whole saved (log_in c.unloaded.result).records (held_in c.unloaded.result)
    c.unloaded.ensures.records c.unloaded.ensures.without

same_lb : (g : given.Over) (c : goal.After-unloaded g)
    → lb_in c.args.mark.now.lb c.unloaded.result ≡ c.args.mark.now.lb
same_lb g c =
    let mark = c.args.mark.now in
    lb_without (place_of c.args.me) (mark_with [] mark) c.unloaded.result
    (c.unloaded.ensures.boots 0 0 (mark_with [] (record mark { saved = None }))
    (same_role_of mark.role c.role-then-not-can_have.result c.role-then-not-can_have.ensures)
    (sym c.lb.ensures.value) refl)

-- ---- a log that the disk hasn't whole

pub returns-in-Err-NotSaved-clause-boots : goal.returns-in-Err-NotSaved-clause-boots
returns-in-Err-NotSaved-clause-boots g c = λ cells items clock delta told held.
    let q = place_of c.args.me in
    let mark = c.args.mark.now in
    let m = mark_with items mark in
    c.unloaded-in-Err-NotSaved.ensures.boots clock delta m
    (same_role_of mark.role c.role-in-Err-NotSaved.result c.role-in-Err-NotSaved.ensures)
    (sym c.lb-in-Err-NotSaved.ensures.value)
    (no_log q m items mark.saved
    (of_saved (λ (s : Saved Entry). all_of (load_tests mark.lb s) ≡ false) cells mark items
    mark.saved
    (λ s h. (c.in-Err-NotSaved.ensures.entries cells s told h).refused (search rules)) held))

pub returns-in-Err-NotSaved-clause-lost : goal.returns-in-Err-NotSaved-clause-lost
returns-in-Err-NotSaved-clause-lost g c = λ cells items clock delta told lacks.
    let mark = c.args.mark.now in
    c.unloaded-in-Err-NotSaved.ensures.boots clock delta
    (mark_with items (record mark { saved = None }))
    (same_role_of mark.role c.role-in-Err-NotSaved.result c.role-in-Err-NotSaved.ensures)
    (sym c.lb-in-Err-NotSaved.ensures.value) refl

pub returns-in-Err-NotSaved-clause-records : goal.returns-in-Err-NotSaved-clause-records
returns-in-Err-NotSaved-clause-records g c = λ cells saved told held.
    let kept = c.unloaded-in-Err-NotSaved.result in
    unloaded_whole saved (log_in kept).records (held_in kept)
    c.unloaded-in-Err-NotSaved.ensures.records c.unloaded-in-Err-NotSaved.ensures.without

still_lb : (g : given.Over) (c : goal.After-unloaded-in-Err-NotSaved g)
    → lb_in c.args.mark.now.lb c.unloaded-in-Err-NotSaved.result ≡ c.args.mark.now.lb
still_lb g c =
    let mark = c.args.mark.now in
    lb_without (place_of c.args.me) (mark_with [] mark) c.unloaded-in-Err-NotSaved.result
    (c.unloaded-in-Err-NotSaved.ensures.boots 0 0 (mark_with [] (record mark { saved = None }))
    (same_role_of mark.role c.role-in-Err-NotSaved.result c.role-in-Err-NotSaved.ensures)
    (sym c.lb-in-Err-NotSaved.ensures.value) refl)

-- ---- a log that is loaded

can : (g : given.Over) (c : goal.After-loaded g)
    → can_have (place_of c.args.me) (role_of c.args.mark.now.role) ≡ true
can g c = ap (can_have (place_of c.args.me))
    (same_role_of c.args.mark.now.role c.role.result c.role.ensures)
    ∙ sym c.if-not-can_have.ensures

rests_so : (g : given.Over) (c : goal.After-loaded g)
    → rested (place_of c.args.me) 0 0 (mark_with (map entry_of c.in-Ok.log.records) c.args.mark.now)
    ≡ rests 0 0 (mark_with (map entry_of c.in-Ok.log.records) c.args.mark.now) c.loaded.result
rests_so g c = c.loaded.ensures.boots 0 0
    (mark_with (map entry_of c.in-Ok.log.records) c.args.mark.now)
    (can g c) c.in-Ok.ensures.log.1.synced c.in-Ok.ensures.log.1.applied
    (was_saved c.in-Ok.log c.args.mark.now c.in-Ok.ensures.log.1)

pub returns-in-Ok-clause-records : goal.returns-in-Ok-clause-records
returns-in-Ok-clause-records g c = λ cells saved told held.
    loaded_whole cells c.args.mark.now c.in-Ok.log saved c.loaded.result c.in-Ok.ensures.log.1
    (c.in-Ok.ensures.records cells told).records held c.loaded.ensures.held c.loaded.ensures.records

pub returns-then-not-can_have-clause-fits : goal.returns-then-not-can_have-clause-fits
returns-then-not-can_have-clause-fits g c = record {
  placed = c.unloaded.ensures.placed;
  bound = subst (λ (n : ℕ). n < 2 ^ 62) (sym (same_lb g c)) c.lb.ensures.bound;
  lb = λ at. same_lb g c;
}

pub returns-in-Err-NotSaved-clause-fits : goal.returns-in-Err-NotSaved-clause-fits
returns-in-Err-NotSaved-clause-fits g c = record {
  placed = c.unloaded-in-Err-NotSaved.ensures.placed;
  bound = subst (λ (n : ℕ). n < 2 ^ 62) (sym (still_lb g c)) c.lb-in-Err-NotSaved.ensures.bound;
  lb = λ at. still_lb g c;
}

pub returns-in-Ok-clause-fits : goal.returns-in-Ok-clause-fits
returns-in-Ok-clause-fits g c = record {
  placed = c.loaded.ensures.placed;
  bound = loaded_below (place_of c.args.me) c.args.mark.now c.in-Ok.log c.loaded.result
      c.in-Ok.ensures.log.0
      (can g c) c.in-Ok.ensures.log.1 (rests_so g c);
  lb = λ at. loaded_at (place_of c.args.me) c.args.mark.now c.in-Ok.log c.loaded.result
      c.in-Ok.ensures.log.0 (can g c) c.in-Ok.ensures.log.1 at (rests_so g c);
}
