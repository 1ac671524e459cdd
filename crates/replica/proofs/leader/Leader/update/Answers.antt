use Rattle.std.proofs.Common.{◌∙◌, sym, subst, List}
use Rattle.std.proofs.lemmas.Result.{on_ok_weaker}
use Rattle.file_tree.specs.Book.{Entry, last_of}
use Rattle.group_rules.specs.Ask.{new_entry, update_moves}
use Rattle.group_rules.specs.Moves.{Move}
use Rattle.group_rules.specs.State.{Old}
use Rattle.replica.proofs.Asked.{answered_again, appended_after, refused_so}
use Rattle.replica.proofs.Asking.{last_of_client, old_moves}
use Rattle.replica.specs.Asking.{Asked}
use Rattle.replica.specs.Leading.{Leading, led}
use Rattle.replica.proofs.leader.Leader.update.Goals as goal

pub returns-in-New-clause-asked : goal.returns-in-New-clause-asked
returns-in-New-clause-asked g c =
    let a = c.args in
    let k = a.asker in
    on_ok_weaker c.append.result
    (λ made o list h. appended_after a.now list
    (new_entry a.now list k.client k.number k.cred a.call.now) (last_of k.client list) k.peer o
    a.self.now c.seen.new.self c.append.new.self a.outs.now c.append.new.outs
    (g.D.Store.told a.store.now) (g.D.Store.told c.seen.new.store) c.in_ok-seen.ensures.same
    c.in_ok-seen.ensures.kept (sym c.in-New.is ∙ c.in_ok-seen.ensures.seen list h) h (made o list))
    c.append.ensures.asked

pub returns-in-Kept-clause-asked : goal.returns-in-Kept-clause-asked
returns-in-Kept-clause-asked g c =
    let a = c.args in
    let k = a.asker in
    on_ok_weaker c.answer_again.result
    (λ told o list h.
    let ne = new_entry a.now list k.client k.number k.cred a.call.now in
    let last = last_of k.client list in
    subst (λ (x : Leading). Asked a.now list (update_moves (led a.self.now o) ne last) k.peer o
    a.self.now x a.outs.now c.answer_again.new.outs) (sym c.in_ok-seen.ensures.same)
    (answered_again a.now k.client list ne k.peer c.in-Kept.index c.in-Kept.reply o a.self.now
    c.seen.new.self.cached last a.outs.now c.answer_again.new.outs (last_of_client k.client list)
    (sym c.in-Kept.is ∙ c.in_ok-seen.ensures.seen list h) told c.answer_again.ensures.records))
    c.answer_again.ensures.said

pub returns-in-Old-clause-asked : goal.returns-in-Old-clause-asked
returns-in-Old-clause-asked g c =
    let a = c.args in
    let k = a.asker in
    on_ok_weaker c.refuse.result
    (λ told o list h.
    let ne = new_entry a.now list k.client k.number k.cred a.call.now in
    let last = last_of k.client list in
    subst (λ (x : Leading). Asked a.now list (update_moves (led a.self.now o) ne last) k.peer o
    a.self.now x a.outs.now c.refuse.new.outs) (sym c.in_ok-seen.ensures.same)
    (subst (λ (ms : List (Move Entry)). Asked a.now list ms k.peer o a.self.now
    (record (a.self.now) { cached = c.seen.new.self.cached }) a.outs.now c.refuse.new.outs)
    (sym (old_moves (led a.self.now o) ne last
    (sym c.in-Old.is ∙ c.in_ok-seen.ensures.seen list h)))
    (refused_so a.now list k.client k.number Old k.peer o a.self.now c.seen.new.self.cached
    a.outs.now c.refuse.new.outs told c.refuse.ensures.records)))
    c.refuse.ensures.said
